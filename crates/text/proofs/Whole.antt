-- The text from a line on: the header, then the clauses from the cursor on.
-- By the laws of lines that fit.
use mathlib.Core.Path.{◌≡◌, sym, ap, ap₂, ◌∙◌}
use mathlib.Core.List.{List, [], ◌∷◌, map}
use Prim.Native.Nat.{ℕ, suc, ◌+◌, ◌-◌, ◌≤◌, ◌<◌}
use native.Mathlib.Omega.{arith}
use lib.ListN.{length, drop, length-map, length-drop}
use Rattle.lists.specs.List.{concat}
use Rattle.lists.specs.Written.{Wrote}
use Rattle.lists.proofs.Written.{wrote_none, wrote_append, wrote_same, wrote_length}
use Rattle.planning.specs.Table.{Table}
use Rattle.planning.specs.Clause.{formula}
use Rattle.planning.specs.Variable.{variables}
use Rattle.planning.specs.Text.{clause_line, header_line, lines, fitting}
use Rattle.cursor.specs.Cursor.{Found}
use Rattle.cursor.specs.declared.Cursor.{Cursor}
use Rattle.text.specs.Lines.{lines_from, Put, PutText}
use Rattle.text.specs.declared.Lines.{Lines}
use Rattle.text.proofs.Writing.{lines_found, fits, fits_not}

line_count : (T : Table) → length (lines T) ≡ suc (length (formula T))
line_count T = ap suc (length-map (formula T) clause_line)

module _ {T : Table} {j : ℕ} {c : Cursor} where
  -- from a clause's line on
  pub found_room : (line : ℕ) → j ≡ line - 1 → 0 < line → Found T j c → {k : ℕ} → k ≡ length (formula T) → k ≤ 3758096384 → line ≤ k → line + length (lines_from T c) < 18446744073709551616
  found_room line e h f {k} q small l =
      omega (arith, ap length (lines_found T j c f), length-drop (suc j) (lines T), line_count T, q)

  pub from_clause : {line : ℕ} {o o' : List ℕ} {r : Lines} → j ≡ line - 1 → 0 < line → Found T j c → Put (lines_from T c) 0 line o o' r → PutText T line o o' r
  from_clause {line} {o} {o'} {r} e h f p =
      let z : length o - 0 ≡ length o = omega arith in
      let s : suc j ≡ line = omega arith in
      let q : fitting (length o - 0) (lines_from T c) ≡ fitting (length o) (drop line (lines T)) =
      ap₂ fitting z (lines_found T j c f ∙ ap (λ (i : ℕ). drop i (lines T)) s) in
      record { text = wrote_same (ap concat q) p.text; next = p.next ∙ ap (λ (l : List (List ℕ)). line + length l) q }

module _ (T : Table) {v m : ℕ} (vs : v ≡ variables T) (ms : m ≡ length (formula T)) where
  same_header : header_line v m ≡ header_line (variables T) (length (formula T))
  same_header = ap₂ header_line vs ms

  -- no room for the header
  pub no_header : {o : List ℕ} {n line : ℕ} → line ≤ 0 → n ≡ length (header_line v m) → length o < n → PutText T line o o (record { used = 0; next = 0 })
  no_header {o} {n} {line} h e l =
      let z : line ≡ 0 = omega arith in
      let q : fitting (length o) (lines T) ≡ [] = fits_not (header_line (variables T) (length (formula T))) (map clause_line (formula T)) (length o) (omega (arith, e, ap length same_header)) in
      rw z (record { text = wrote_same (sym (ap concat q)) (wrote_none o 0); next = sym (rw q) })

  -- the header, and the lines behind it
  module _ {o o₁ : List ℕ} {a n : ℕ} (e : n ≡ length (header_line v m)) (room : n ≤ length o) (w : Wrote o 0 (header_line v m) o₁ a) where
    pub behind : a ≤ length o₁
    behind = omega (arith, w.end, wrote_length w (omega (arith, e)), e)

    pub header_room : {c : Cursor} → Found T 0 c → m ≤ 3758096384 → 1 + length (lines_from T c) < 18446744073709551616
    header_room {c} f small = omega (arith, ap length (lines_found T 0 c f), length-drop 1 (lines T), line_count T, ms)

    pub from_header : {c : Cursor} {line : ℕ} {o₂ : List ℕ} {r : Lines} → line ≤ 0 → Found T 0 c → Put (lines_from T c) a 1 o₁ o₂ r → PutText T line o o₂ r
    from_header {c} {line} {o₂} {r} h f p =
        let z : line ≡ 0 = omega arith in
        let H = header_line (variables T) (length (formula T)) in
        let k : length o₁ - a ≡ length o - length H = omega (arith, w.end, wrote_length w (omega (arith, e)), ap length same_header) in
        let q : H ∷ fitting (length o₁ - a) (lines_from T c) ≡ fitting (length o) (lines T) =
        ap₂ (λ (i : ℕ) (l : List (List ℕ)). H ∷ fitting i l) k (lines_found T 0 c f) ∙ sym (fits H (map clause_line (formula T)) (length o) (omega (arith, e, ap length same_header))) in
        rw z (record {
          text = wrote_same (ap concat q) (wrote_append (omega arith) (wrote_same same_header w) p.text);
          next = p.next ∙ omega (arith, ap length q);
        })
