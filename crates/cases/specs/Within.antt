-- Inside the stored cases, nothing to believe: a count within a buffer.
-- Assumes nothing.
use Rattle.std.specs.Prelude.{ℕ, cond, nat_le}

-- n, or 0 where only fewer than n are there
abbrev pub within : ℕ → ℕ → ℕ
within n room = cond (nat_le n room) n 0
