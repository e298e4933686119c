-- Lines written one behind the other: the loop's invariant, and one law for each way that it goes on.
-- By the definition of the lines that fit, and by the laws of writes.
use mathlib.Core.Path.{◌≡◌, refl, sym, ap, ◌∙◌, subst}
use mathlib.Core.Bool.{Bool, true, false, cond}
use mathlib.Core.List.{List, [], ◌∷◌, ◌++◌, map, append_assoc, append-nil}
use Prim.Native.Nat.{ℕ, suc, ◌+◌, ◌-◌, ◌≤◌, ◌<◌}
use native.Mathlib.Omega.{arith}
use lib.Dec.{leb}
use lib.ListN.{length, drop, length-append}
use Rattle.lists.specs.List.{concat}
use Rattle.lists.specs.Written.{Wrote}
use Rattle.lists.proofs.Bool.{leb_in, leb_no}
use Rattle.lists.proofs.Every.{concat_append}
use Rattle.lists.proofs.Written.{wrote_none, wrote_append, wrote_same, wrote_length}
use Rattle.planning.specs.Table.{Table}
use Rattle.planning.specs.Text.{clause_line, fitting, lines}
use Rattle.places.specs.Nest.{Pos}
use Rattle.places.specs.ClausePlace.{literals, place_at}
use Rattle.places.proofs.Next.{text_left}
use Rattle.index.specs.Index.{source}
use Rattle.cursor.specs.Cursor.{pos_of, next_of, In, Found}
use Rattle.cursor.proofs.Handing.{handed_clause, handed_end}
use Rattle.cursor.specs.declared.Cursor.{Cursor}
use Rattle.std.specs.Prelude.{Some, None}
use Rattle.text.specs.Lines.{line_at, lines_from, PutLine, Put}

-- What the cursor hands out --------------------------------------------------------------------------------------------------
abbrev lines_at : Table → List Pos → List (List ℕ)
lines_at T l = map clause_line (map (literals (source T)) (map (place_at (source T)) l))

pub next_line : (T : Table) (c p d : Cursor) → Some (p, d) ≡ next_of T c → lines_from T c ≡ line_at T p ∷ lines_from T d
next_line T c p d e = ap (lines_at T) (handed_clause T c p d e)

pub next_none : (T : Table) (c : Cursor) → None ≡ next_of T c → lines_from T c ≡ []
next_none T c e = ap (lines_at T) (handed_end T c e)

-- the lines from a clause on, where the cursor was sought
pub lines_found : (T : Table) (j : ℕ) (c : Cursor) → Found T j c → lines_from T c ≡ drop (suc j) (lines T)
lines_found T j c f = text_left T j (pos_of c) (record { rest = f.same })

-- Lines that fit ---------------------------------------------------------------------------------------------------------------
pub fits : (l : List ℕ) (ls : List (List ℕ)) (n : ℕ) → length l ≤ n → fitting n (l ∷ ls) ≡ l ∷ fitting (n - length l) ls
fits l ls n h = rw (leb_in (length l) n h)

pub fits_not : (l : List ℕ) (ls : List (List ℕ)) (n : ℕ) → n < length l → fitting n (l ∷ ls) ≡ []
fits_not l ls n h = rw (leb_no (length l) n h)

fitting_few : (n : ℕ) (ls : List (List ℕ)) → length (fitting n ls) ≤ length ls
fitting_few n [] = omega arith
fitting_few n (l ∷ ls) = go (leb (length l) n) (fitting_few (n - length l) ls)
  where
    go : (b : Bool) → length (fitting (n - length l) ls) ≤ length ls → length (cond b (l ∷ fitting (n - length l) ls) []) ≤ suc (length ls)
    go true h = omega arith
    go false h = omega arith

-- The loop -----------------------------------------------------------------------------------------------------------------------
-- of the lines from c₀ on, written behind the first a bytes of o₀, some are done: the cursor is at c, `e` bytes are used
pub record Writing (T : Table) (c₀ : Cursor) (a j : ℕ) (o₀ : List ℕ) (c : Cursor) (e line : ℕ) (o : List ℕ) : Type 0 where
  pub done : List (List ℕ)
  pub text : Wrote o₀ a (concat done) o e
  pub fit : fitting (length o₀ - a) (lines_from T c₀) ≡ done ++ fitting (length o₀ - e) (lines_from T c)
  pub count : line ≡ j + length done
  pub inside : In T c
  pub within : (a ≤ e) × (e ≤ length o₀)
  pub long : length o ≡ length o₀

pub writing_none : {T : Table} {c₀ : Cursor} {a j : ℕ} {o₀ : List ℕ} → In T c₀ → a ≤ length o₀ → Writing T c₀ a j o₀ c₀ a j o₀
writing_none {T} {c₀} {a} {j} {o₀} i h = record {
  done = [];
  text = wrote_none o₀ a;
  fit = refl;
  count = omega arith;
  inside = i;
  within = (omega arith, h);
  long = refl;
}

module _ {T : Table} {c₀ : Cursor} {a j : ℕ} {o₀ : List ℕ} {c : Cursor} {e line : ℕ} {o : List ℕ} (w : Writing T c₀ a j o₀ c e line o) where
  ended : fitting (length o₀ - e) (lines_from T c) ≡ [] → Put (lines_from T c₀) a j o₀ o (record { used = e; next = line })
  ended q =
      let f : fitting (length o₀ - a) (lines_from T c₀) ≡ w.done = w.fit ∙ ap (λ (l : List (List ℕ)). w.done ++ l) q ∙ append-nil w.done in
      record { text = rw f w.text; next = rw f w.count }

  pub writing_end : None ≡ next_of T c → Put (lines_from T c₀) a j o₀ o (record { used = e; next = line })
  writing_end q = ended (ap (fitting (length o₀ - e)) (next_none T c q))

  -- how many lines there can be
  pub few : line + length (fitting (length o₀ - e) (lines_from T c)) ≤ j + length (lines_from T c₀)
  few = omega (arith, w.count, fitting_few (length o₀ - a) (lines_from T c₀), ap length w.fit, length-append w.done (fitting (length o₀ - e) (lines_from T c)))

  pub fewer : {p d : Cursor} → Some (p, d) ≡ next_of T c → length (lines_from T d) < length (lines_from T c)
  fewer {p} {d} q = omega (arith, ap length (next_line T c p d q))

  module _ {p d : Cursor} (q : Some (p, d) ≡ next_of T c) {o' : List ℕ} where
    pub writing_full : PutLine (line_at T p) e o o' None → Put (lines_from T c₀) a j o₀ o' (record { used = e; next = line })
    writing_full v =
        subst (λ (l : List ℕ). Put (lines_from T c₀) a j o₀ l (record { used = e; next = line })) (sym v.1)
        (ended (ap (fitting (length o₀ - e)) (next_line T c p d q) ∙ fits_not (line_at T p) (lines_from T d) (length o₀ - e) (omega (arith, v.0, w.long))))

    module _ {r : ℕ} (v : PutLine (line_at T p) e o o' (Some r)) where
      rest : fitting (length o₀ - e) (lines_from T c) ≡ line_at T p ∷ fitting (length o₀ - e - length (line_at T p)) (lines_from T d)
      rest = ap (fitting (length o₀ - e)) (next_line T c p d q) ∙ fits (line_at T p) (lines_from T d) (length o₀ - e) (omega (arith, v.0, w.long))

      pub line_room : line + 1 ≤ j + length (lines_from T c₀)
      line_room = omega (arith, few, ap length rest)

      pub writing_more : In T d → Writing T c₀ a j o₀ d r (line + 1) o'
      writing_more i =
          let v' : Wrote o e (line_at T p) o' r = v.1 in
          let n : length o₀ - e - length (line_at T p) ≡ length o₀ - r = omega (arith, v'.end) in
          record {
            done = w.done ++ (line_at T p ∷ []);
            text = wrote_same (joined) (wrote_append (omega (arith, w.within.0, w.within.1)) w.text v');
            fit = w.fit ∙ ap (λ (l : List (List ℕ)). w.done ++ l) (rest ∙ ap (λ (k : ℕ). line_at T p ∷ fitting k (lines_from T d)) n) ∙ sym (append_assoc w.done (line_at T p ∷ []) (fitting (length o₀ - r) (lines_from T d)));
            count = omega (arith, w.count, length-append w.done (line_at T p ∷ []));
            inside = i;
            within = (omega (arith, v'.end, w.within.0), omega (arith, v'.end, v.0, w.long, w.within.1));
            long = wrote_length v' (omega (arith, v.0, w.long, w.within.1)) ∙ w.long;
          }
        where
          joined : concat w.done ++ line_at T p ≡ concat (w.done ++ (line_at T p ∷ []))
          joined = sym (concat_append w.done (line_at T p ∷ []) ∙ ap (λ (l : List ℕ). concat w.done ++ l) (append-nil (line_at T p)))
