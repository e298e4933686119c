-- The values that hold a tree at a place, as a list.
-- By recursion on the place, with what stands before and after the part left open.
use mathlib.Core.Path.{◌≡◌, refl, sym, ap, ◌∙◌, subst}
use mathlib.Core.Bool.{Bool, true, false}
use mathlib.Core.List.{List, [], ◌∷◌, ◌++◌, map, append_assoc}
use mathlib.Core.Logic.{inl, inr, ◌↔◌}
use mathlib.Core.Option.{Option, none, some}
use Prim.Native.Nat.{ℕ, suc, ◌+◌}
use native.Mathlib.Omega.{arith}
use lib.ListN.{length, get_or, length-map, length-append}
use lib.Seq.{get_or_at, append_snoc}
use lib.Dec.{eqb}
use Rattle.lists.specs.List.{number}
use Rattle.lists.proofs.Bool.{clash, eqb_sound, eqb_same, some_inj, none≢some}
use Rattle.planning.specs.Table.{Task, Table}
use Rattle.planning.specs.Tree.{Tree, Trees}
use Rattle.planning.specs.Place.{Place, slot, inner, Places, stop, also, methods_of, is}
use Rattle.planning.specs.Variable.{tasks_of, own_vars, part_vars, parts_vars, task_vars, method_vars}
use Rattle.planning.proofs.Task.{same_sound, same_refl}
use Rattle.planning.proofs.Trees.Hold.{Hot, shown_task, shown_method, below, first_tree, later_trees, Holds, HoldsEach}

abbrev pub is_method : Option ℕ → ℕ → Bool
is_method none m = false
is_method (some k) m = eqb k m

abbrev mutual
  pub encode : Table → Place → Option Tree → List Bool
  encode T (slot L) o = map (is (shown_task o)) (tasks_of (slot L))
  encode T (inner L ps) o = map (is (shown_task o)) (tasks_of (inner L ps)) ++ (map (is_method (shown_method o)) (methods_of T L.jobs) ++ encodes T ps (below o))

  pub encodes : Table → Places → Trees → List Bool
  encodes T stop ts = []
  encodes T (also p ps) ts = encode T p (first_tree ts) ++ encodes T ps (later_trees ts)

is_some : (o : Option Task) (t : Task) → (is o t ≡ true) ↔ (o ≡ some t)
is_some none t = (λ h. clash h refl, λ e. none≢some e)
is_some (some u) t = (λ h. ap (λ (z : Task). some z) (same_sound u t h), λ e. rw (some_inj e) (same_refl t))

is_method_some : (o : Option ℕ) (m : ℕ) → (is_method o m ≡ true) ↔ (o ≡ some m)
is_method_some none m = (λ h. clash h refl, λ e. none≢some e)
is_method_some (some k) m = (λ h. ap (λ (z : ℕ). some z) (eqb_sound k m h), λ e. rw (some_inj e) (eqb_same m))

abbrev vals : List Bool → ℕ → Bool
vals l n = get_or l n false

module _ {A : Type 0} (o : Option A) (q : A → Bool) (hq : (a : A) → (q a ≡ true) ↔ (o ≡ some a)) where
  encode_hot : (xs : List A) (b : ℕ) (pre post : List Bool) → length pre ≡ b → Hot (vals (pre ++ (map q xs ++ post))) (number b xs) o
  encode_hot [] b pre post e y m = absurd m
  encode_hot (x ∷ xs) b pre post e y (inl p) =
      rw p (let g : get_or (pre ++ (q x ∷ (map q xs ++ post))) b false ≡ q x = get_or_at pre (q x) (map q xs ++ post) false b e in
      (λ h. (hq x).0 (sym g ∙ h), λ k. g ∙ (hq x).1 k))
  encode_hot (x ∷ xs) b pre post e y (inr m) =
      rw (← (append_snoc pre (q x) (map q xs ++ post)))
      (encode_hot xs (suc b) (pre ++ (q x ∷ [])) post (length-append pre (q x ∷ []) ∙ omega arith) y m)

-- the values of a part, with what stands before and after it, seen from each of its pieces
tasks_first : (p a b c q : List Bool) → p ++ (a ++ ((b ++ c) ++ q)) ≡ p ++ ((a ++ (b ++ c)) ++ q)
tasks_first p a b c q = simp append_assoc

methods_next : (p a b c q : List Bool) → (p ++ a) ++ (b ++ (c ++ q)) ≡ p ++ ((a ++ (b ++ c)) ++ q)
methods_next p a b c q = simp append_assoc

children_last : (p a b c q : List Bool) → ((p ++ a) ++ b) ++ (c ++ q) ≡ p ++ ((a ++ (b ++ c)) ++ q)
children_last p a b c q = simp append_assoc

later_children : (p a c q : List Bool) → (p ++ a) ++ (c ++ q) ≡ p ++ ((a ++ c) ++ q)
later_children p a c q = simp append_assoc

module _ (T : Table) where
  mutual
    pub length_encode : (p : Place) (o : Option Tree) → length (encode T p o) ≡ part_vars T p
    length_encode (slot L) o = omega (arith, length-map (tasks_of (slot L)) (is (shown_task o)))
    length_encode (inner L ps) o = simp (length-append, length-map) (omega (arith, length_encodes ps (below o)))

    pub length_encodes : (ps : Places) (ts : Trees) → length (encodes T ps ts) ≡ parts_vars T ps
    length_encodes stop ts = refl
    length_encodes (also p ps) ts = length-append (encode T p (first_tree ts)) (encodes T ps (later_trees ts)) ∙ omega (arith, length_encode p (first_tree ts), length_encodes ps (later_trees ts))

  mutual
    pub encode_holds : (p : Place) (b : ℕ) (o : Option Tree) (pre post : List Bool) → length pre ≡ b → Holds T (vals (pre ++ (encode T p o ++ post))) p b o
    encode_holds (slot L) b o pre post e = encode_hot (shown_task o) (is (shown_task o)) (is_some (shown_task o)) (tasks_of (slot L)) b pre post e
    encode_holds (inner L ps) b o pre post e =
        let A = map (is (shown_task o)) (tasks_of (inner L ps)) in
        let B = map (is_method (shown_method o)) (methods_of T L.jobs) in
        let C = encodes T ps (below o) in
        let a : length A ≡ length (tasks_of (inner L ps)) = length-map (tasks_of (inner L ps)) (is (shown_task o)) in
        let m : length B ≡ length (methods_of T L.jobs) = length-map (methods_of T L.jobs) (is_method (shown_method o)) in (
          subst (λ (l : List Bool). Hot (vals l) (task_vars (inner L ps) b) (shown_task o)) (tasks_first pre A B C post)
              (encode_hot (shown_task o) (is (shown_task o)) (is_some (shown_task o)) (tasks_of (inner L ps)) b pre ((B ++ C) ++ post) e),
          subst (λ (l : List Bool). Hot (vals l) (method_vars T (inner L ps) b) (shown_method o)) (methods_next pre A B C post)
              (encode_hot (shown_method o) (is_method (shown_method o)) (is_method_some (shown_method o)) (methods_of T L.jobs) (b + length (tasks_of (inner L ps))) (pre ++ A) (C ++ post)
              (length-append pre A ∙ omega arith)),
          subst (λ (l : List Bool). HoldsEach T (vals l) ps (b + own_vars T (inner L ps)) (below o)) (children_last pre A B C post)
              (encodes_hold ps (b + own_vars T (inner L ps)) (below o) ((pre ++ A) ++ B) post (omega (arith, length-append (pre ++ A) B, length-append pre A))),
        )

    pub encodes_hold : (ps : Places) (b : ℕ) (ts : Trees) (pre post : List Bool) → length pre ≡ b → HoldsEach T (vals (pre ++ (encodes T ps ts ++ post))) ps b ts
    encodes_hold stop b ts pre post e = tt
    encodes_hold (also p ps) b ts pre post e =
        let A = encode T p (first_tree ts) in
        let C = encodes T ps (later_trees ts) in (
          subst (λ (l : List Bool). Holds T (vals l) p b (first_tree ts)) (ap (λ (l : List Bool). pre ++ l) (sym (append_assoc A C post))) (encode_holds p b (first_tree ts) pre (C ++ post) e),
          subst (λ (l : List Bool). HoldsEach T (vals l) ps (b + part_vars T p) (later_trees ts)) (later_children pre A C post)
              (encodes_hold ps (b + part_vars T p) (later_trees ts) (pre ++ A) post (length-append pre A ∙ omega (arith, length_encode p (first_tree ts)))),
        )
