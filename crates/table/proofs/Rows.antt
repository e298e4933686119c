-- A method: its words mean what the M line is read as.
-- Task by task.
use mathlib.Core.Path.{◌≡◌, sym, ap, ◌∙◌}
use mathlib.Core.List.{List, []}
use Prim.Native.Nat.{ℕ, ◌+◌, ◌≤◌}
use native.Mathlib.Omega.{arith}
use lib.ListN.{length, get_or}
use Rattle.lists.proofs.Place.{map_up_to}
use Rattle.planning.specs.Table.{most_in_body}
use Rattle.grammar.specs.Line.{body_in}
use Rattle.outline.specs.Sections.{Sections}
use Rattle.outline.specs.Names.{step, job, task, declared}
use Rattle.rows.specs.Uses.{task_of}
use Rattle.rows.specs.Row.{read_method}
use Rattle.rows.specs.Words.{task_at, size_at, method_at}
use Rattle.rows.specs.Answers.{MethodStands}
use Rattle.table.proofs.Tasks.{task_found}

pub method_read : (p : Sections) (l o : List ℕ) (k : ℕ) {n : ℕ} → length (declared p step) ≡ n → length (body_in l) ≤ most_in_body
    → MethodStands (declared p job) (declared p task) l k o → method_at n o k ≡ read_method (declared p step) (declared p job) l
unfolding read_method declared
method_read p l o k {n} e s u =
    let b = map_up_to (λ j. task_at n (get_or o (k + 2 + j) 0)) (task_of (declared p step) (declared p job)) [] (size_at o k) (body_in l) (omega (arith, u.size))
    (λ j h. ap (task_at n) (u.task j h) ∙ rw (← e) (sym (task_found (declared p step) (declared p job) (get_or (body_in l) j [])))) in
    λ z. record { of = u.job z; body = b z }
