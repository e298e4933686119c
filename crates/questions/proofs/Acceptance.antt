-- What an accepted file's table is like.
-- By the promises of the reader.
use mathlib.Core.Path.{◌≡◌, refl, sym, ap, subst}
use mathlib.Core.Bool.{Bool, true, false}
use mathlib.Core.List.{List, [], ◌∷◌}
use Prim.Native.Nat.{ℕ, zero, suc, ◌≤◌}
use native.Mathlib.Omega.{arith}
use Rattle.lists.specs.Question.{first_unmet}
use Rattle.lists.proofs.Bool.{leb_sound}
use Rattle.lists.proofs.Question.{all_met}
use Rattle.planning.specs.Table.{Table}
use Rattle.planning.specs.Place.{root_place, nodes}
use Rattle.planning.specs.Variable.{variables}
use Rattle.planning.specs.Accepted.{Accepted}
use Rattle.table.specs.Reading.{NameParts, Reading, refused, passed, reading}
use Rattle.table.specs.Promises.{Promised}
use Rattle.table.proofs.Promised.{promises}
use Rattle.questions.specs.Questions.{met8, met9, unmet, accepted, if_met, after_reading, accepting, names_after, names_of}

-- the file was read, as this table with these names, and 8 and 9 are met
pub record WasRead (file : List ℕ) (T : Table) : Type 0 where
  pub names : NameParts
  pub read : reading file ≡ passed T names
  pub met : 0 ≡ first_unmet ((8, met8 T) ∷ (9, met9 T) ∷ [])

never : {A : Type 0} {n : ℕ} {T : Table} → unmet n ≡ accepted T → A
never e = let z : ◌≡◌ {A = ℕ} 0 1 = cc in absurd (omega arith)

pub was_read : (file : List ℕ) (T : Table) → accepting file ≡ accepted T → WasRead file T
was_read file T e = go (reading file) refl e
  where
    by : (n : ℕ) (t : Table) (ns : NameParts) → n ≡ first_unmet ((8, met8 t) ∷ (9, met9 t) ∷ []) → reading file ≡ passed t ns → if_met n t ≡ accepted T → WasRead file T
    by (suc n) t ns h q f = never f
    by zero t ns h q f =
        let z : t ≡ T = cc in
        subst (λ (u : Table). WasRead file u) z (record { names = ns; read = q; met = h })

    go : (r : Reading) → reading file ≡ r → after_reading r ≡ accepted T → WasRead file T
    go (refused n) q f = never f
    go (passed t ns) q f = by (first_unmet ((8, met8 t) ∷ (9, met9 t) ∷ [])) t ns refl q f

module _ (file : List ℕ) (T : Table) (e : accepting file ≡ accepted T) where
  pub promised : Promised file T (was_read file T e).names
  promised = promises.met file T (was_read file T e).names (was_read file T e).read

  pub accepted_table : Accepted T
  accepted_table =
      let w = was_read file T e in
      let r = all_met 8 (met8 T) ((9, met9 T) ∷ []) (omega arith) w.met in
      let s = all_met 9 (met9 T) [] (omega arith) r.1 in
      record {
        sound = promised.sound;
        limits = promised.limits;
        few_nodes = leb_sound (nodes (root_place T)) 1024 r.0;
        few_variables = leb_sound (variables T) 8191 s.0;
      }

  pub names_are : names_of file ≡ (was_read file T e).names
  names_are = ap names_after (was_read file T e).read

-- a refusal is by one of questions 2 to 9
pub unmet_range : (file : List ℕ) (n : ℕ) → accepting file ≡ unmet n → (2 ≤ n) × (n ≤ 9)
unmet_range file n e = go (reading file) refl e
  where
    by : (q : ℕ) (a b : Bool) (t : Table) → q ≡ first_unmet ((8, a) ∷ (9, b) ∷ []) → if_met q t ≡ unmet n → (2 ≤ n) × (n ≤ 9)
    by zero a b t h f = never (sym f)
    by (suc q) true true t h f = absurd (omega arith)
    by (suc q) true false t h f = let z : suc q ≡ n = cc in (omega arith, omega arith)
    by (suc q) false b t h f = let z : suc q ≡ n = cc in (omega arith, omega arith)

    go : (r : Reading) → reading file ≡ r → after_reading r ≡ unmet n → (2 ≤ n) × (n ≤ 9)
    go (refused m) q f = let z : m ≡ n = cc in let k = promises.unmet file m q in (omega (arith, k.0), omega (arith, k.1))
    go (passed t ns) q f = by (first_unmet ((8, met8 t) ∷ (9, met9 t) ∷ [])) (met8 t) (met9 t) t refl f
