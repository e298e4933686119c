-- What is promised of the formula and its text to the crates that write and read them. The statements alone; proofs/Promises.antt proves
-- them, in the record at the end. Assumes nothing.
use Rattle.std.specs.Prelude.{◌≡◌, List, [], ◌∷◌, ◌++◌, ℕ, suc, ◌+◌, ◌-◌, ◌*◌, ◌≤◌, ◌<◌, length, get_or, take, drop}
use Rattle.lists.specs.List.{◌∈◌, Every, concat}
use Rattle.planning.specs.Table.{Table, Sound}
use Rattle.planning.specs.Variable.{variables}
use Rattle.planning.specs.Clause.{Lit, Clause, variable_of, formula}
use Rattle.planning.specs.Text.{decimal, lines, written, next_line}
use Rattle.planning.specs.Accepted.{Accepted}

-- every literal lies in 1 to the variable count
abbrev pub LiteralsInRange : Table → Type 0
LiteralsInRange T = Every (λ (c : Clause). Every (λ (l : Lit). (1 ≤ variable_of l) × (variable_of l ≤ variables T)) c) (formula T)

-- Numerals -------------------------------------------------------------------------------------------------------------------
-- a numeral read from the left, behind a number n that was read before it
abbrev pub read_decimal : ℕ → List ℕ → ℕ
read_decimal n [] = n
read_decimal n (d ∷ ds) = read_decimal (n * 10 + (d - 48)) ds

-- a digit's byte
abbrev pub Digit : ℕ → Type 0
Digit d = (48 ≤ d) × (d < 58)

pub record Numeral (n : ℕ) : Type 0 where
  -- it reads back as its number
  pub reads_back : read_decimal 0 (decimal n) ≡ n
  -- it has nothing but digits, and no leading zero
  pub digits : Every Digit (decimal n)
  pub no_leading_zero : 1 ≤ n → 49 ≤ get_or (decimal n) 0 0

-- A text call ----------------------------------------------------------------------------------------------------------------
-- "as many whole lines as fit": the first k of these lines go into n bytes, and with one more, if there is one, they do not
pub record AsManyAsFit (n : ℕ) (ls : List (List ℕ)) (k : ℕ) : Type 0 where
  pub there : k ≤ length ls
  pub fit : length (concat (take k ls)) ≤ n
  pub no_more : k < length ls → n < length (concat (take (suc k) ls))

-- a call begun at line j, with a buffer of n bytes
pub record Call (T : Table) (j n : ℕ) : Type 0 where
  pub count : ℕ
  pub fitting : AsManyAsFit n (drop j (lines T)) count
  -- it writes so many whole lines, from line j on, and the next call goes on where it ends
  pub writes : written T j n ≡ concat (take count (drop j (lines T)))
  pub next : next_line T j n ≡ j + count
  pub goes_on : concat (drop j (lines T)) ≡ written T j n ++ concat (drop (next_line T j n) (lines T))

-- no line is longer than the smallest buffer that is taken, so that each call gets on while a line is left
pub record Lines (T : Table) : Type 0 where
  pub short : (l : List ℕ) → l ∈ lines T → length l ≤ 1024
  pub gets_on : (j n : ℕ) → 1024 ≤ n → j < length (lines T) → j < next_line T j n

-- Of what they hold ----------------------------------------------------------------------------------------------------------
pub record Promises : Type 0 where
  pub literals : (T : Table) → Sound T → LiteralsInRange T
  pub numerals : (n : ℕ) → Numeral n
  pub calls : (T : Table) (j n : ℕ) → Call T j n
  pub lines_short : (T : Table) → Accepted T → Lines T
