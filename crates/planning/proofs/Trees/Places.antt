-- The places of a table: they are regular, and the trees that fit them are the trees of the table that are not too high.
-- By recursion on the depth left; a tree fits since child i may hold the ith name of each method.
use mathlib.Core.Path.{◌≡◌, refl}
use mathlib.Core.Bool.{true, ◌&&◌, ◌||◌}
use mathlib.Core.List.{List, [], ◌∷◌, map}
use mathlib.Core.Logic.{inl, inr}
use mathlib.Core.Option.{none, some}
use Prim.Native.Nat.{ℕ, zero, suc, ◌+◌, ◌≤◌, ◌<◌}
use native.Mathlib.Omega.{arith}
use lib.ListN.{length, get_elem?}
use lib.Dec.{eqb}
use Rattle.lists.specs.List.{◌∈◌, Distinct, from, up_to, has}
use Rattle.lists.proofs.Bool.{or_l, or_r}
use Rattle.lists.proofs.Member.{in_left, in_right, in_filter_out, in_filter_in, distinct_filter, any_in, in_map_in, distinct_map, has_in}
use Rattle.lists.proofs.Number.{up_to_range, distinct_from, up_to_in}
use Rattle.planning.specs.Table.{Task, step, job, Table, job_of, body_of}
use Rattle.planning.specs.Tree.{Tree, alone, split, Trees, end, next, top, tops, height, greatest, TreeOf, TreesOf}
use Rattle.planning.specs.Place.{Label, Place, slot, inner, Places, stop, also, methods_of, longest, one_if_any, child_count, is, named, child_label, inner_if, row, place, root_place, root_label}
use Rattle.planning.proofs.Task.{same_refl, no_job, step_inj, step_in, step_among, job_among, distinct_tasks}
use Rattle.planning.proofs.Everywhere.{everywhere, children_of}
use Rattle.planning.proofs.Trees.Hold.{Fits, FitsEach, Regular, RegularInner}

longest_le : (T : Table) (ms : List ℕ) (m : ℕ) → m ∈ ms → length (body_of T m) ≤ longest T ms
longest_le T [] m k = absurd k
longest_le T (x ∷ xs) m (inl e) = rw e (omega arith)
longest_le T (x ∷ xs) m (inr k) = let h = longest_le T xs m k in omega arith

one_le : (ss : List ℕ) (s : ℕ) → s ∈ ss → 1 ≤ one_if_any ss
one_le [] s m = absurd m
one_le (x ∷ xs) s m = omega arith

module _ (T : Table) where
  -- children enough for each body, and for a step
  body_fits : (L : Label) (m : ℕ) → m ∈ methods_of T L.jobs → length (body_of T m) ≤ child_count T L
  unfolding child_count
  body_fits L m k = omega (arith, longest_le T (methods_of T L.jobs) m k)

  step_fits : (L : Label) (s : ℕ) → s ∈ L.steps → 1 ≤ child_count T L
  unfolding child_count
  step_fits L s k = omega (arith, one_le L.steps s k)

  record DistinctLabel (L : Label) : Type 0 where
    steps : Distinct L.steps
    jobs : Distinct L.jobs

  child_distinct : (L : Label) (i : ℕ) → DistinctLabel (child_label T L i)
  unfolding child_label
  child_distinct L i = record {
    steps = distinct_filter (λ s. named T L i (step s) || (eqb i 0 && has L.steps s)) (up_to (length T.steps)) (distinct_from 0 (length T.steps));
    jobs = distinct_filter (λ j. named T L i (job j)) (up_to T.jobs) (distinct_from 0 T.jobs);
  }

  regular_inner : (L : Label) → DistinctLabel L → RegularInner T L (child_count T L)
  regular_inner L d = record {
    tasks = distinct_tasks L.steps L.jobs d.steps d.jobs;
    methods = distinct_filter (λ m. has L.jobs (job_of T m)) (up_to (length T.methods)) (distinct_from 0 (length T.methods));
    bodies = body_fits L;
    steps = step_fits L;
  }

  pub regular_root : Regular T (root_place T)
  regular_root =
      everywhere (λ L. Distinct (map step L.steps)) (RegularInner T) T DistinctLabel child_distinct (λ L d. distinct_map step step_inj L.steps d.steps) regular_inner
      T.depth (root_label T) (record { steps = tt; jobs = (λ m. m, tt) })

  -- what fits is a tree of the table, not too high
  pub record Within (L : Label) : Type 0 where
    pub steps : (s : ℕ) → s ∈ L.steps → s < length T.steps
    pub jobs : (j : ℕ) → j ∈ L.jobs → j < T.jobs

  child_within : (L : Label) (i : ℕ) → Within (child_label T L i)
  unfolding child_label
  child_within L i = record {
    steps = λ s m. up_to_range s (length T.steps) (in_filter_out (λ s. named T L i (step s) || (eqb i 0 && has L.steps s)) s (up_to (length T.steps)) m).0;
    jobs = λ j m. up_to_range j T.jobs (in_filter_out (λ j. named T L i (job j)) j (up_to T.jobs) m).0;
  }

  slot_tree : (d : ℕ) (L : Label) → Within L → (t : Tree) → Fits T (slot L) (some t) → TreeOf T t × (height t ≤ d)
  slot_tree d L w (alone s) f = (w.steps s (step_in s L.steps f), omega arith)
  slot_tree d L w (split j m ts) f = absurd (no_job j L.steps f)

  row_trees : (d : ℕ) (L : Label) → ((M : Label) → Within M → (t : Tree) → Fits T (place T d M) (some t) → TreeOf T t × (height t ≤ d))
      → (is : List ℕ) (ts : Trees) → FitsEach T (row (λ M. place T d M) (map (child_label T L) is)) ts → TreesOf T ts × (greatest ts ≤ d)
  row_trees d L k is end f = (tt, omega arith)
  row_trees d L k [] (next t ts) f = absurd (let z : ◌≡◌ {A = ℕ} 0 1 = cc in omega arith)
  row_trees d L k (i ∷ is) (next t ts) f =
      let a = k (child_label T L i) (child_within L i) t f.0 in
      let r = row_trees d L k is ts f.1 in
      ((a.0, r.0), omega arith)

  node_tree : (d : ℕ) (L : Label) (js : List ℕ) → Within L → ((ts : Trees) → FitsEach T (children_of T d L) ts → TreesOf T ts × (greatest ts ≤ d))
      → (t : Tree) → Fits T (inner_if js L (children_of T d L)) (some t) → TreeOf T t × (height t ≤ suc d)
  node_tree d L [] w k t f = slot_tree (suc d) L w t f
  node_tree d L (j ∷ js) w k (alone s) f = (w.steps s (step_among L.steps L.jobs s f.0), omega arith)
  node_tree d L (j ∷ js) w k (split i m ts) f =
      let r = k ts f.2 in (
        (
          w.jobs i (job_among L.steps L.jobs i f.0),
          up_to_range m (length T.methods) (in_filter_out (λ m. has L.jobs (job_of T m)) m (up_to (length T.methods)) f.1.0).0,
          f.1.1,
          f.1.2,
          r.0,
        ),
        omega arith,
      )

  pub fits_tree : (d : ℕ) (L : Label) → Within L → (t : Tree) → Fits T (place T d L) (some t) → TreeOf T t × (height t ≤ d)
  unfolding place
  fits_tree zero L w t f = slot_tree zero L w t f
  fits_tree (suc d) L w t f = node_tree d L L.jobs w (row_trees d L (λ M x u g. fits_tree d M x u g) (up_to (child_count T L))) t f

  -- and such trees fit
  mutual
    pub fits_none : (p : Place) → Fits T p none
    fits_none (slot L) = tt
    fits_none (inner L ps) = (tt, tt, fits_end ps)

    pub fits_end : (ps : Places) → FitsEach T ps end
    fits_end stop = refl
    fits_end (also p ps) = (fits_none p, fits_end ps)

  abbrev pub InLabel : Label → Task → Type 0
  InLabel L (step s) = s ∈ L.steps
  InLabel L (job j) = j ∈ L.jobs

  abbrev Allowed : Label → ℕ → List Task → Type 0
  Allowed L k [] = Unit {0}
  Allowed L k (t ∷ ts) = InLabel (child_label T L k) t × Allowed L (suc k) ts

  allowed_step : (L : Label) (s : ℕ) → s ∈ L.steps → s < length T.steps → Allowed L 0 (step s ∷ [])
  unfolding child_label
  allowed_step L s m h = (
    in_filter_in (λ s. named T L 0 (step s) || (eqb 0 0 && has L.steps s)) s (up_to (length T.steps)) (up_to_in s (length T.steps) (omega arith))
        (or_r (named T L 0 (step s)) (has L.steps s) (has_in L.steps s m)),
    tt,
  )

  named_in : (L : Label) (m k : ℕ) (t : Task) → m ∈ methods_of T L.jobs → get_elem? (body_of T m) k ≡ some t → named T L k t ≡ true
  named_in L m k t mm e = any_in (λ m. is (get_elem? (body_of T m) k) t) (methods_of T L.jobs) m mm (rw e (same_refl t))

  in_child : (L : Label) (k : ℕ) (t : Tree) → named T L k (top t) ≡ true → TreeOf T t → InLabel (child_label T L k) (top t)
  unfolding child_label
  in_child L k (alone s) h w =
      in_filter_in (λ s. named T L k (step s) || (eqb k 0 && has L.steps s)) s (up_to (length T.steps)) (up_to_in s (length T.steps) (omega arith))
      (or_l (named T L k (step s)) (eqb k 0 && has L.steps s) h)
  in_child L k (split j m ts) h w = in_filter_in (λ j. named T L k (job j)) j (up_to T.jobs) (up_to_in j T.jobs (omega (arith, w.0))) h

  allowed_body : (L : Label) (m : ℕ) → m ∈ methods_of T L.jobs → (k : ℕ) (ts : Trees) → TreesOf T ts
      → ((i : ℕ) (t : Task) → get_elem? (tops ts) i ≡ some t → get_elem? (body_of T m) (k + i) ≡ some t) → Allowed L k (tops ts)
  allowed_body L m mm k end w h = tt
  allowed_body L m mm k (next t ts) w h =
      let z : k + 0 ≡ k = omega arith in (
        in_child L k t (named_in L m k (top t) mm (rw z at (h 0 (top t) refl))) w.0,
        allowed_body L m mm (suc k) ts w.1 (λ i u e. let q : suc k + i ≡ k + suc i = omega arith in rw q (h (suc i) u e)),
      )

  row_fits : (d : ℕ) (L : Label) → ((M : Label) (t : Tree) → TreeOf T t → height t ≤ d → InLabel M (top t) → Fits T (place T d M) (some t))
      → (k n : ℕ) (ts : Trees) → TreesOf T ts → greatest ts ≤ d → Allowed L k (tops ts) → length (tops ts) ≤ n
      → FitsEach T (row (λ M. place T d M) (map (child_label T L) (from k n))) ts
  row_fits d L f k zero end w g a l = refl
  row_fits d L f k zero (next t ts) w g a l = absurd (omega arith)
  row_fits d L f k (suc n) end w g a l = (fits_none (place T d (child_label T L k)), row_fits d L f (suc k) n end tt (omega arith) tt (omega arith))
  row_fits d L f k (suc n) (next t ts) w g a l =
      (f (child_label T L k) t w.0 (omega arith) a.0, row_fits d L f (suc k) n ts w.1 (omega arith) a.1 (omega arith))

  node_fits : (d : ℕ) (L : Label) (js : List ℕ) → L.jobs ≡ js
      → ((ts : Trees) → TreesOf T ts → greatest ts ≤ d → Allowed L 0 (tops ts) → length (tops ts) ≤ child_count T L → FitsEach T (children_of T d L) ts)
      → (t : Tree) → TreeOf T t → height t ≤ suc d → InLabel L (top t) → Fits T (inner_if js L (children_of T d L)) (some t)
  node_fits d L [] e k (alone s) w h m = in_map_in step s L.steps m
  node_fits d L [] e k (split j i ts) w h m = absurd (rw e at m)
  node_fits d L (j ∷ js) e k (alone s) w h m = (
    in_left (step s) (map step L.steps) (map job L.jobs) (in_map_in step s L.steps m),
    tt,
    k (next (alone s) end) (w, tt) (omega arith) (allowed_step L s m w) (step_fits L s m),
  )
  node_fits d L (j ∷ js) e k (split i m ts) w h x =
      let mm : m ∈ methods_of T L.jobs = in_filter_in (λ m. has L.jobs (job_of T m)) m (up_to (length T.methods))
      (up_to_in m (length T.methods) (omega (arith, w.1))) (rw w.2 (has_in L.jobs i x)) in (
        in_right (job i) (map step L.steps) (map job L.jobs) (in_map_in job i L.jobs x),
        (mm, w.2, w.3),
        k ts w.4 (omega arith) (allowed_body L m mm 0 ts w.4 (λ c u q. let z : 0 + c ≡ c = omega arith in rw (z, ← w.3) q)) (rw w.3 (body_fits L m mm)),
      )

  pub tree_fits : (d : ℕ) (L : Label) (t : Tree) → TreeOf T t → height t ≤ d → InLabel L (top t) → Fits T (place T d L) (some t)
  unfolding place
  tree_fits zero L (alone s) w h m = in_map_in step s L.steps m
  tree_fits zero L (split j m ts) w h k = absurd (omega arith)
  tree_fits (suc d) L t w h m = node_fits d L L.jobs refl (row_fits d L (λ M u x y z. tree_fits d M u x y z) 0 (child_count T L)) t w h m
