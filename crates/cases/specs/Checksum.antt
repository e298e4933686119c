-- Inside the stored cases, nothing to believe: the 64-bit FNV-1a checksum.
-- Assumes nothing.
use Rattle.std.specs.Prelude.{ℕ, ◌*◌, ◌%◌, List, fold, bit_xor}

-- the checksum of nothing
abbrev pub basis : ℕ
basis = 14695981039346656037

-- times the prime, modulo 2^64
abbrev pub times_prime : ℕ → ℕ
times_prime x = (x * 1099511628211) % 18446744073709551616

-- one byte more
abbrev pub step : ℕ → ℕ → ℕ
step h b = times_prime (bit_xor h b)

-- bytes more
abbrev pub of_bytes : ℕ → List ℕ → ℕ
of_bytes h bs = fold step h bs
