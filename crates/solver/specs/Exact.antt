-- The same, put the other way round: which bytes make each kind of line, and which numbers make a variable true or false. The statements
-- alone; proofs/Exact.antt proves them. Assumes nothing.
use Rattle.std.specs.Prelude.{◌≡◌, true, false, List, [], ◌∷◌, ◌⊎◌, ◌↔◌, ℕ, ◌≤◌, length}
use Rattle.lists.specs.List.{◌∈◌, Every, concat_map}
use Rattle.planning.specs.Clause.{Lit, pos, neg}
use Rattle.planning.specs.Model.{value}
use Rattle.planning.specs.Text.{lit_text}
use Rattle.solver.specs.Line.{Word, satisfiable, unsatisfiable, unknown, SATISFIABLE, UNSATISFIABLE, UNKNOWN, comment, says, sets, line_of}
use Rattle.solver.specs.Questions.{times, truths}

abbrev pub spelled : Word → List ℕ
spelled satisfiable = SATISFIABLE
spelled unsatisfiable = UNSATISFIABLE
spelled unknown = UNKNOWN

-- "A `c` line is `c` alone, or `c`, a space and anything."
abbrev pub CommentLine : List ℕ → Type 0
CommentLine l = (l ≡ 99 ∷ []) ⊎ ((more : List ℕ) × (l ≡ 99 ∷ 32 ∷ more))

-- "no leading zeros, at most five digits, a minus allowed except on 0"
abbrev pub FiveDigits : Lit → Type 0
FiveDigits (pos n) = n ≤ 99999
FiveDigits (neg n) = (1 ≤ n) × (n ≤ 99999)

-- "A `v` line is `v` and one or more numbers, one space before each"
pub record NumbersLine (l : List ℕ) (ks : List Lit) : Type 0 where
  pub some_number : 1 ≤ length ks
  pub bytes : l ≡ 118 ∷ concat_map (λ k. 32 ∷ lit_text k) ks
  pub written : Every FiveDigits ks

-- the kinds of line are told apart by these
pub record LineExact (l : List ℕ) : Type 0 where
  pub comments : (line_of l ≡ comment) ↔ CommentLine l
  pub words : (w : Word) → (line_of l ≡ says w) ↔ (l ≡ 115 ∷ 32 ∷ spelled w)
  pub numbers : (ks : List Lit) → (line_of l ≡ sets ks) ↔ NumbersLine l ks

pub record Exact : Type 0 where
  pub lines : (l : List ℕ) → LineExact l
  -- "1 if true, 0 if false": true exactly if its number stands without a minus; false, of those that stand once, exactly if with one
  pub trues : (n k : ℕ) (ls : List Lit) → 1 ≤ k → k ≤ n → (value (truths n ls) k ≡ true) ↔ (pos k ∈ ls)
  pub falses : (n k : ℕ) (ls : List Lit) → 1 ≤ k → k ≤ n → times k ls ≡ 1 → (value (truths n ls) k ≡ false) ↔ (neg k ∈ ls)
