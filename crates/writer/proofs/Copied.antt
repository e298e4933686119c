-- The loop that copies bytes: how it starts, goes on and ends.
-- By the laws of writes.
use mathlib.Core.Path.{◌≡◌, refl, sym, ◌∙◌}
use mathlib.Core.List.{List, [], ◌∷◌}
use Prim.Native.Nat.{ℕ, ◌+◌, ◌≤◌, ◌<◌}
use native.Mathlib.Numerals.{add-one}
use native.Mathlib.Omega.{arith}
use lib.ListN.{length, get_or, take}
use lib.Seq.{take-suc, take_all, length-take-le}
use Rattle.lists.specs.Written.{Wrote}
use Rattle.lists.proofs.Written.{wrote_none, wrote_append, wrote_same, wrote_length}

-- `put_bytes`: the first i bytes are written from place s on ----------------------------------------------------------------
pub record Copied (bs o₀ : List ℕ) (s : ℕ) (o : List ℕ) (a i : ℕ) : Type 0 where
  pub at : i ≤ length bs
  pub room : s + length bs ≤ length o₀
  pub same : length o ≡ length o₀
  pub text : Wrote o₀ s (take i bs) o a

pub copied_none : (bs o : List ℕ) (s : ℕ) → s + length bs ≤ length o → Copied bs o s o s 0
copied_none bs o s h = record { at = omega arith; room = h; same = refl; text = wrote_none o s }

module _ {bs o₀ o : List ℕ} {s a i : ℕ} (u : Copied bs o₀ s o a i) where
  pub copied_room : i < length bs → a < length o
  copied_room h = omega (arith, u.text.end, length-take-le i bs u.at, u.same, u.room)

  pub copied_more : {o' : List ℕ} {r : ℕ} → i < length bs → Wrote o a (get_or bs i 0 ∷ []) o' r → Copied bs o₀ s o' r (i + 1)
  copied_more h w =
      record {
        at = omega arith;
        room = u.room;
        same = wrote_length w (omega (arith, copied_room h)) ∙ u.same;
        text = wrote_same (rw (add-one i) (sym (take-suc bs i 0 h))) (wrote_append (omega (arith, u.room)) u.text w);
      }

  pub copied_all : length bs ≤ i → Wrote o₀ s bs o a
  copied_all h = wrote_same (take_all i bs h) u.text
