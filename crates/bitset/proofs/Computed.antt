-- Small sets computed.
-- By computation.
use Rattle.std.proofs.Common.{◌≡◌, false, [], ◌∷◌, refl}
use Rattle.bitset.specs.Set.{contains, members_below, members, inserted, union, difference}

-- members stand word by word
listed : members (5 ∷ 1 ∷ []) ≡ 0 ∷ 2 ∷ 64 ∷ []
listed = refl

-- those below a number, which need not be a member itself
below : members_below (5 ∷ 1 ∷ []) 64 ≡ 0 ∷ 2 ∷ []
below = refl

-- 66 is digit 2 of the second word; there is no word for 128
made : inserted (5 ∷ 1 ∷ []) 66 ≡ 5 ∷ 5 ∷ []
made = refl

no_word : inserted (5 ∷ 1 ∷ []) 128 ≡ 5 ∷ 1 ∷ []
no_word = refl

-- {0, 2, 64} and {1, 2, 65}, beside a third word that finds no place
joined : members (union (5 ∷ 1 ∷ []) (6 ∷ 2 ∷ 1 ∷ [])) ≡ 0 ∷ 1 ∷ 2 ∷ 64 ∷ 65 ∷ []
joined = refl

taken_out : members (difference (5 ∷ 1 ∷ []) (6 ∷ [])) ≡ 0 ∷ 64 ∷ []
taken_out = refl

past_the_words : contains (5 ∷ 1 ∷ []) 130 ≡ false
past_the_words = refl
