-- Words behind those of the members.
use Rattle.std.proofs.Common.{◌≡◌, ℕ, List, [], ◌∷◌, length, refl}
use Rattle.allocator.specs.CanWords.{turns_and_ids}

-- where one word does not stand alone, they are the turns and the members
pub of_several : (words : List (List ℕ)) → (length words ≡ 1 → ⊥) → turns_and_ids words ≡ words
of_several [] several = refl
of_several (id ∷ []) several = absurd (several refl)
of_several (turns ∷ id ∷ ids) several = refl
