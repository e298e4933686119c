-- Inside the reader of an answer, nothing to believe: how far an answer is read. `Reading` of crate `solver` is the meaning.
-- Assumes nothing.
use Rattle.std.specs.Prelude.{◌≡◌, Bool, List, ℕ, ◌-◌, Some, None}
use Rattle.std.specs.Prelude.{Option as CodeOption}
use Rattle.std.proofs.Math.Option.{Option, none, some}
use Rattle.planning.specs.Clause.{Lit, variable_of}
use Rattle.planning.specs.Model.{bit}
use Rattle.solver.specs.Scan.{Reading, free, set_if, sign}
use Rattle.cells.specs.declared.state.State.{State}

-- the code's state and the cells
abbrev pub reading_from : State → List ℕ → Reading
reading_from st cs = record { ended = st.ended; off = st.off; cells = cs }

abbrev pub state_from : CodeOption State → List ℕ → Option Reading
state_from None cs = none
state_from (Some st) cs = some (reading_from st cs)

-- the code's state and the cells are this reading. Left free: the cells, where the answer is not formed
pub record Stands (st : CodeOption State) (cs : List ℕ) (o : Option Reading) : Type 0 where
  pub is : state_from st cs ≡ o

-- the number was put into the cells if its variable had not stood; r tells that
pub record Put (l : Lit) (cs cs' : List ℕ) (r : Bool) : Type 0 where
  pub told : r ≡ free cs l
  pub cells : cs' ≡ set_if (free cs l) cs (variable_of l - 1) (bit (sign l))
