-- What a sync leaves on the device.
use Rattle.std.proofs.Common.{◌≡◌, ◌≢◌, ◌∙◌, ◌⊎◌, ◌<◌, ◌≤◌, ◌+◌, ◌/◌, ◌^◌, inl, inr, ℕ, List, length, ap, subst, sym, arith}
use Rattle.std.proofs.lemmas.Bool.Decides.{eqb_tells}
use Rattle.block_device.specs.Blocks.{Blocks, IsUnwritten}
use Rattle.mirrored_disk.specs.Calls.{other_pair}
use Rattle.mirrored_disk.specs.Kept.{IsTwice, KeepsNewest}
use Rattle.mirrored_disk.specs.Newest.{IsNewestRecord}
use Rattle.mirrored_disk.specs.Record.{HasRecord, image_in, number_in, record_of}
use Rattle.mirrored_disk.specs.declared.search.Newest.{Newest}
use Rattle.mirrored_disk.proofs.Records.{has_image, has_number, is_record}

module _ (old new : Blocks) (head image : List ℕ) (newest : Newest) (keeps : KeepsNewest old head newest image) where
  abbrev first : ℕ
  first = other_pair newest.block

  apart : (block : ℕ) → block / 2 ≡ newest.block / 2 → (block ≡ first → ⊥) × (block ≡ first + 1 → ⊥)
  apart block pair =
      let exists : newest.block < 4 = keeps.newest.block.exists in
      ((λ same. omega (arith, exists, pair, same)), (λ same. omega (arith, exists, pair, same)))

  -- a sync that failed
  pub still_keeps : new.stable ≡ old.stable → ((block : ℕ) → (block ≡ first → ⊥) → (block ≡ first + 1 → ⊥) → new.written block ≡ old.written block) → KeepsNewest new head newest image
  still_keeps same written = record {
    newest = subst (λ stable. IsNewestRecord 4 head stable newest image) (sym same) keeps.newest;
    unwritten = λ block pair. let others = apart block pair in written block others.0 others.1 ∙ keeps.unwritten block pair;
  }

  -- a sync that succeeded
  module _ (seen : List ℕ) (head_size : length head ≡ 16) (seen_size : length seen ≡ 8844) (small : newest.number + 1 < 2 ^ 64) where
    abbrev next : Newest
    next = record { block = first; number = newest.number + 1 }

    abbrev bytes : List ℕ
    bytes = record_of head (newest.number + 1) seen

    module _ (settled : IsUnwritten new) (at_first : new.stable first ≡ bytes) (at_second : new.stable (first + 1) ≡ bytes) (others : (block : ℕ) → (block ≡ first → ⊥) → (block ≡ first + 1 → ⊥) → new.stable block ≡ old.stable block) where
      which : (block : ℕ) → (new.stable block ≡ bytes) ⊎ (new.stable block ≡ old.stable block)
      which block = elim (eqb_tells first block) as (λ _. (new.stable block ≡ bytes) ⊎ (new.stable block ≡ old.stable block)) [
        | inl same ↦ inl (subst (λ b. new.stable b ≡ bytes) same.1 at_first)
        | inr other ↦ elim (eqb_tells (first + 1) block) as (λ _. (new.stable block ≡ bytes) ⊎ (new.stable block ≡ old.stable block)) [
          | inl same ↦ inl (subst (λ b. new.stable b ≡ bytes) same.1 at_second)
          | inr neither ↦ inr (others block (λ e. other.1 (sym e)) (λ e. neither.1 (sym e)))
        ]
      ]

      numbered : number_in bytes ≡ newest.number + 1
      numbered = has_number head seen (newest.number + 1) head_size seen_size small

      was_lower : (block : ℕ) → block < 4 → HasRecord head (new.stable block) → new.stable block ≡ old.stable block → number_in (new.stable block) ≤ newest.number
      was_lower block exists there same =
          let low : number_in (old.stable block) ≤ number_in (old.stable newest.block) = keeps.newest.block.highest block exists (subst (HasRecord head) same there) in
          let known : number_in (old.stable newest.block) ≡ newest.number = keeps.newest.number in
          let moved : number_in (new.stable block) ≡ number_in (old.stable block) = ap number_in same in
          omega (arith, low, known, moved)

      pub keeps_next : KeepsNewest new head next seen
      keeps_next = record {
        newest = record {
          block = record {
            exists = let exists : newest.block < 4 = keeps.newest.block.exists in omega (arith, exists);
            there = subst (HasRecord head) (sym at_first) (is_record head seen (newest.number + 1) head_size seen_size);
            highest = λ block exists there. let known : number_in (new.stable first) ≡ newest.number + 1 = ap number_in at_first ∙ numbered in elim (which block) as (λ _. number_in (new.stable block) ≤ number_in (new.stable first)) [
              | inl same ↦ let equal : number_in (new.stable block) ≡ newest.number + 1 = ap number_in same ∙ numbered in omega (arith, known, equal)
              | inr kept ↦ let low : number_in (new.stable block) ≤ newest.number = was_lower block exists there kept in omega (arith, known, low)
            ];
            first = λ block before there. let known : number_in (new.stable first) ≡ newest.number + 1 = ap number_in at_first ∙ numbered in
                let exists : newest.block < 4 = keeps.newest.block.exists in
                let low : number_in (new.stable block) ≤ newest.number = was_lower block (omega (arith, exists, before)) there (others block (λ e. omega (arith, before, e)) (λ e. omega (arith, before, e))) in
                omega (arith, known, low);
          };
          number = ap number_in at_first ∙ numbered;
          image = ap image_in at_first ∙ has_image head seen (newest.number + 1) head_size seen_size;
        };
        unwritten = λ block pair. settled block;
      }

      pub is_twice : IsTwice new head next seen
      is_twice = record {
        twice = λ block pair. elim (eqb_tells first block) as (λ _. new.stable block ≡ new.stable first) [
          | inl same ↦ ap new.stable (sym same.1)
          | inr other ↦ let exists : newest.block < 4 = keeps.newest.block.exists in let apart_from : first ≢ block = other.1 in let second : first + 1 ≡ block = omega (arith, exists, pair, apart_from) in subst (λ b. new.stable b ≡ new.stable first) second (at_second ∙ sym at_first)
        ];
        others = λ block exists there. elim (which block) as (λ _. (number_in (new.stable block) < newest.number + 1) ⊎ (image_in (new.stable block) ≡ seen)) [
          | inl same ↦ inr (ap image_in same ∙ has_image head seen (newest.number + 1) head_size seen_size)
          | inr kept ↦ let low : number_in (new.stable block) ≤ newest.number = was_lower block exists there kept in inl (omega (arith, low))
        ];
      }
