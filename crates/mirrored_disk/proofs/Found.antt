-- What an opening finds of what a stop and time left.
use Rattle.std.proofs.Common.{◌≡◌, ◌∙◌, ◌⊎◌, ◌<◌, ◌≤◌, ◌/◌, ◌*◌, ◌+◌, inl, inr, ℕ, List, ap, refl, sym, subst, arith}
use Rattle.std.proofs.lemmas.Bool.Decides.{eqb_tells, leb_tells}
use Rattle.block_device.specs.Blocks.{Blocks, MayLeaveBlocks}
use Rattle.mirrored_disk.specs.Kept.{IsHonest, IsLeftButFor, IsTwice, KeepsNewest}
use Rattle.mirrored_disk.specs.Newest.{HasNone, IsNewest}
use Rattle.mirrored_disk.specs.Record.{HasRecord, image_in, number_in}
use Rattle.mirrored_disk.specs.declared.search.Newest.{Newest}

module _ (device : Blocks) (head : List ℕ) (newest : Newest) (image next seen : List ℕ) (keeps : KeepsNewest device head newest image) (left : ℕ → List ℕ) where
  abbrev Result : ℕ → Type 0
  Result block = (image_in (left block) ≡ image) ⊎ (image_in (left block) ≡ seen)

  -- a block of the newest record's pair that has what was stable in it, where that is the newest record
  pub record Survivor : Type 0 where
    pub block : ℕ
    pub exists : block < 4
    pub there : HasRecord head (left block)
    pub number : number_in (left block) ≡ newest.number

  -- a record of that number that was stable has its image
  abbrev AreAlike : Type 0
  AreAlike = (block : ℕ) → IsNewest 4 head left block → left block ≡ device.stable block → number_in (device.stable block) ≡ newest.number → image_in (device.stable block) ≡ image

  by_cause : image_in next ≡ seen → Survivor → AreAlike → (block : ℕ) → IsNewest 4 head left block → (left block ≡ device.stable block) ⊎ (left block ≡ next) ⊎ (number_in (left block) < newest.number) → Result block
  by_cause written survivor alike block found (inl stays) =
      let there : HasRecord head (device.stable block) = subst (HasRecord head) stays found.there in
      let below : number_in (device.stable block) ≤ number_in (device.stable newest.block) = keeps.newest.block.highest block found.exists there in
      let above : number_in (left survivor.block) ≤ number_in (left block) = found.highest survivor.block survivor.exists survivor.there in
      let same : number_in (left block) ≡ number_in (device.stable block) = ap number_in stays in
      let number : number_in (device.stable newest.block) ≡ newest.number = keeps.newest.number in
      let kept : number_in (left survivor.block) ≡ newest.number = survivor.number in
      let equal : number_in (device.stable block) ≡ newest.number = omega (arith, below, above, same, number, kept) in
      inl (ap image_in stays ∙ alike block found stays equal)
  by_cause written survivor alike block found (inr (inl writes)) = inr (ap image_in writes ∙ written)
  by_cause written survivor alike block found (inr (inr older)) =
      let above : number_in (left survivor.block) ≤ number_in (left block) = found.highest survivor.block survivor.exists survivor.there in
      let kept : number_in (left survivor.block) ≡ newest.number = survivor.number in
      absurd (omega (arith, above, older, kept))

  -- a stop
  module _ (may : MayLeaveBlocks device left) where
    stays : left newest.block ≡ device.stable newest.block
    stays = may newest.block (keeps.unwritten newest.block refl)

    abbrev survivor : Survivor
    survivor = record {
      block = newest.block;
      exists = keeps.newest.block.exists;
      there = subst (HasRecord head) (sym stays) keeps.newest.block.there;
      number = ap number_in stays ∙ keeps.newest.number;
    }

    alike : AreAlike
    alike block found same number = elim (leb_tells newest.block block) as (λ _. image_in (device.stable block) ≡ image) [
      | inl above ↦ elim (leb_tells block newest.block) as (λ _. image_in (device.stable block) ≡ image) [
        | inl below ↦ let equal : newest.block ≡ block = omega (arith, above.1, below.1) in subst (λ b. image_in (device.stable b) ≡ image) equal keeps.newest.image
        | inr after ↦ let earlier : number_in (left newest.block) < number_in (left block) = found.first newest.block after.1 survivor.there in let here : number_in (left newest.block) ≡ newest.number = survivor.number in let there : number_in (left block) ≡ number_in (device.stable block) = ap number_in same in absurd (omega (arith, earlier, here, there, number))
      ]
      | inr before ↦ let earlier : number_in (device.stable block) < number_in (device.stable newest.block) = keeps.newest.block.first block before.1 (subst (HasRecord head) same found.there) in let here : number_in (device.stable newest.block) ≡ newest.number = keeps.newest.number in absurd (omega (arith, earlier, here, number))
    ]

    pub stop_finds : HasNone 4 head left → ⊥
    stop_finds none = none newest.block survivor.exists survivor.there

    pub stop_leaves : image_in next ≡ seen → IsHonest device head newest.number next left → (block : ℕ) → IsNewest 4 head left block → Result block
    stop_leaves written honest block found = by_cause written survivor alike block found (honest block found.exists found.there)

  -- a stop, and a block of any bytes besides
  module _ (rotten : ℕ) (twice : IsTwice device head newest image) (may : IsLeftButFor rotten device left) where
    kept : (block : ℕ) → block < 4 → block / 2 ≡ newest.block / 2 → (block ≡ rotten → ⊥) → Survivor
    kept block exists pair other =
        let same : left block ≡ device.stable newest.block = may block other (keeps.unwritten block pair) ∙ twice.twice block pair in
        record {
          block = block;
          exists = exists;
          there = subst (HasRecord head) (sym same) keeps.newest.block.there;
          number = ap number_in same ∙ keeps.newest.number;
        }

    abbrev first : ℕ
    first = 2 * (newest.block / 2)

    sound : Survivor
    sound =
        let exists : newest.block < 4 = keeps.newest.block.exists in
        elim (eqb_tells first rotten) as (λ _. Survivor) [
          | inl same ↦ let here : first ≡ rotten = same.1 in kept (first + 1) (omega (arith, exists)) (omega (arith, exists)) (λ next. omega (arith, here, next))
          | inr other ↦ kept first (omega (arith, exists)) (omega (arith, exists)) other.1
        ]

    same_image : AreAlike
    same_image block found same number = elim (twice.others block found.exists (subst (HasRecord head) same found.there)) as (λ _. image_in (device.stable block) ≡ image) [
      | inl older ↦ let below : number_in (device.stable block) < newest.number = older in absurd (omega (arith, below, number))
      | inr equal ↦ equal
    ]

    pub rot_finds : HasNone 4 head left → ⊥
    rot_finds none = let survivor = sound in none survivor.block survivor.exists survivor.there

    pub rot_leaves : image_in next ≡ seen → IsHonest device head newest.number next left → (block : ℕ) → IsNewest 4 head left block → Result block
    rot_leaves written honest block found = by_cause written sound same_image block found (honest block found.exists found.there)
