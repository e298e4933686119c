-- Inside the reader, nothing to believe: where a field stands, and the forms of field as the code names them. Contracts cite it; it follows
-- from the definitions. Assumes nothing.
use Rattle.std.specs.Prelude.{◌≡◌, List, [], ◌∷◌, map, ℕ, zero, suc, ◌+◌, ◌≤◌, length, take, drop}
use Rattle.lines.specs.Parts.{split}
use Rattle.grammar.specs.Byte.{tab}
use Rattle.grammar.specs.Line.{Form, name, list, depth}
use Rattle.grammar.specs.declared.Form.{Form as Asked}
use Rattle.grammar.specs.declared.Form.TheVariants.{Name, List as TheList, Depth}

-- where part k begins, the first beginning at `at` and one byte standing behind each; `end`, where there is no such part
unfoldable pub place_in : (k : ℕ) (parts : List (List ℕ)) (at end : ℕ) → ℕ
place_in k [] at end = end
place_in zero (p ∷ ps) at end = at
place_in (suc k) (p ∷ ps) at end = place_in k ps (at + length p + 1) end

-- the place of field k of the line l; the line's end, where the line has none
abbrev pub field_place : List ℕ → ℕ → ℕ
field_place l k = place_in k (split tab l) 0 (length l)

-- f stands there
pub record At (l : List ℕ) (k : ℕ) (f : List ℕ) : Type 0 where
  pub high : field_place l k + length f ≤ length l
  pub bytes : take (length f) (drop (field_place l k) l) ≡ f

unfoldable pub form_of : Asked → Form
form_of Name = name
form_of TheList = list
form_of Depth = depth

unfoldable pub forms_of : List Asked → List Form
unfolding form_of
forms_of fs = map form_of fs
