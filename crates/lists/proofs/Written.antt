-- Writes one after the other, and what they leave.
-- By cutting the buffer where a write begins and ends.
use mathlib.Core.Path.{◌≡◌, refl, sym, ap, ap₂, ◌∙◌}
use mathlib.Core.List.{List, [], ◌∷◌, ◌++◌, append_assoc, append-nil}
use Prim.Native.Nat.{ℕ, ◌+◌, ◌≤◌, ◌<◌}
use native.Mathlib.Numerals.{add-one}
use native.Mathlib.Nat.{add-zero}
use native.Mathlib.Omega.{arith}
use lib.ListN.{length, take, drop, set, length-append, length-take, length-drop, take-append-drop}
use lib.Seq.{set_split, append_snoc, take_at, drop_at, drop-drop, length-take-le}
use Rattle.lists.specs.Written.{Wrote}

-- nothing is written
pub wrote_none : (o : List ℕ) (at : ℕ) → Wrote o at [] o at
wrote_none o at = record { end = sym (add-zero at); text = rw (add-zero at, append-nil) (sym (take-append-drop at o)) }

-- one number is
pub wrote_one : (o : List ℕ) (at b : ℕ) → at < length o → Wrote o at (b ∷ []) (set o at b) (at + 1)
wrote_one o at b h = record { end = refl; text = rw (add-one at, append_snoc) (set_split o at b h) }

-- the front of what a write leaves, and the rest
front : {o : List ℕ} {at : ℕ} {xs o' : List ℕ} {r : ℕ} → Wrote o at xs o' r → at ≤ length o → take r o' ≡ take at o ++ xs
front {o} {at} {xs} {o'} {r} w h =
    let k : length (take at o ++ xs) ≡ r = length-append (take at o) xs ∙ omega (arith, length-take-le at o h, w.end) in
    ap (take r) w.text ∙ take_at (take at o ++ xs) _ r k

rest : {o : List ℕ} {at : ℕ} {xs o' : List ℕ} {r : ℕ} → Wrote o at xs o' r → at ≤ length o → drop r o' ≡ drop (at + length xs) o
rest {o} {at} {xs} {o'} {r} w h =
    let k : length (take at o ++ xs) ≡ r = length-append (take at o) xs ∙ omega (arith, length-take-le at o h, w.end) in
    ap (drop r) w.text ∙ drop_at (take at o ++ xs) _ r k

-- one write behind the other
pub wrote_append : {o : List ℕ} {at : ℕ} {xs ys o₁ o₂ : List ℕ} {r₁ r₂ : ℕ} → at ≤ length o
    → Wrote o at xs o₁ r₁ → Wrote o₁ r₁ ys o₂ r₂ → Wrote o at (xs ++ ys) o₂ r₂
wrote_append {o} {at} {xs} {ys} {o₁} {o₂} {r₁} {r₂} h w v =
    let n : at + length xs + length ys ≡ at + length (xs ++ ys) = rw length-append (omega arith) in
    let d : drop (r₁ + length ys) o₁ ≡ drop (at + length (xs ++ ys)) o =
    sym (drop-drop (length ys) r₁ o₁) ∙ ap (drop (length ys)) (rest w h) ∙ drop-drop (length ys) (at + length xs) o ∙ ap (λ (i : ℕ). drop i o) n in
    record {
      end = v.end ∙ ap (λ (i : ℕ). i + length ys) w.end ∙ n;
      text = v.text ∙ ap₂ (λ (a b : List ℕ). a ++ ys ++ b) (front w h) d ∙ simp append_assoc;
    }

-- the same write, of what is equal
pub wrote_same : {o : List ℕ} {at : ℕ} {xs ys o' : List ℕ} {r : ℕ} → xs ≡ ys → Wrote o at xs o' r → Wrote o at ys o' r
wrote_same e w = rw (← e) w

-- a write keeps the buffer's length
pub wrote_length : {o : List ℕ} {at : ℕ} {xs o' : List ℕ} {r : ℕ} → Wrote o at xs o' r → at + length xs ≤ length o → length o' ≡ length o
wrote_length {o} {at} {xs} {o'} {r} w h =
    ap length w.text ∙ simp (length-append, length-take-le at o (omega arith), length-drop) (omega arith)

-- what a write from the buffer's first place on leaves: its front is what was written
pub wrote_front : {o xs o' : List ℕ} {r : ℕ} → Wrote o 0 xs o' r → take r o' ≡ xs
wrote_front {o} {xs} {o'} {r} w = front w (omega arith)

pub wrote_whole : {o xs o' : List ℕ} {r : ℕ} → Wrote o 0 xs o' r → o' ≡ xs ++ drop (length xs) o
wrote_whole {o} {xs} {o'} {r} w = let z : 0 + length xs ≡ length xs = omega arith in w.text ∙ ap (λ (n : ℕ). xs ++ drop n o) z

-- so many it has
pub wrote_count : {o xs o' : List ℕ} {r : ℕ} → Wrote o 0 xs o' r → r ≡ length (take r o')
wrote_count {o} {xs} {o'} {r} w = omega (arith, w.end, ap length (wrote_front w))

pub wrote_room : {o xs o' : List ℕ} {r : ℕ} → Wrote o 0 xs o' r → r ≤ length o'
wrote_room {o} {xs} {o'} {r} w = omega (arith, wrote_count w, length-take r o')
