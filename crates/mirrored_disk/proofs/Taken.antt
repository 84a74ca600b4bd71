-- The newest record of the blocks up to one more.
use Rattle.std.proofs.Common.{◌≡◌, ◌<◌, ◌≤◌, ◌+◌, inl, inr, ℕ, List, Option, None, Some, subst, arith}
use Rattle.std.proofs.lemmas.Bool.Decides.{leb_tells}
use Rattle.mirrored_disk.specs.Newest.{HasNone, IsFoundBelow, IsNewest, IsNewestRecord}
use Rattle.mirrored_disk.specs.Record.{HasRecord, image_in, number_in}
use Rattle.mirrored_disk.specs.declared.search.Newest.{Newest}

below_next : (P : ℕ → Type 0) (count : ℕ) → ((block : ℕ) → block < count → P block) → P count → (block : ℕ) → block < count + 1 → P block
below_next P count before here block below = elim (leb_tells count block) as (λ _. P block) [
  | inl above ↦ let same : count ≡ block = omega (arith, above.1, below) in subst P same here
  | inr earlier ↦ before block earlier.1
]

module _ (head : List ℕ) (blocks : ℕ → List ℕ) (count : ℕ) where
  pub passed_over : (newest : Option Newest) (image : List ℕ) → (HasRecord head (blocks count) → ⊥) → IsFoundBelow count head blocks newest image → IsFoundBelow (count + 1) head blocks newest image
  passed_over None image none found = below_next (λ block. HasRecord head (blocks block) → ⊥) count found none
  passed_over (Some newest) image none found = record {
    block = record {
      exists = let exists : newest.block < count = found.block.exists in omega (arith, exists);
      there = found.block.there;
      highest = below_next (λ block. HasRecord head (blocks block) → number_in (blocks block) ≤ number_in (blocks newest.block)) count found.block.highest (λ there. absurd (none there));
      first = found.block.first;
    };
    number = found.number;
    image = found.image;
  }

  module _ (number : ℕ) (there : HasRecord head (blocks count)) (numbered : number_in (blocks count) ≡ number) where
    pub older : (newest : Newest) (image : List ℕ) → number ≤ newest.number → IsNewestRecord count head blocks newest image → IsNewestRecord (count + 1) head blocks newest image
    older newest image low found = record {
      block = record {
        exists = let exists : newest.block < count = found.block.exists in omega (arith, exists);
        there = found.block.there;
        highest = below_next (λ block. HasRecord head (blocks block) → number_in (blocks block) ≤ number_in (blocks newest.block)) count found.block.highest (λ _. let known : number_in (blocks newest.block) ≡ newest.number = found.number in omega (arith, low, numbered, known));
        first = found.block.first;
      };
      number = found.number;
      image = found.image;
    }

    abbrev one : Newest
    one = record { block = count; number = number }

    of_all : ((block : ℕ) → block < count → HasRecord head (blocks block) → number_in (blocks block) < number) → (image : List ℕ) → image_in (blocks count) ≡ image → IsNewestRecord (count + 1) head blocks one image
    of_all lower image pictured = record {
      block = record {
        exists = omega arith;
        there = there;
        highest = below_next (λ block. HasRecord head (blocks block) → number_in (blocks block) ≤ number_in (blocks count)) count (λ block below record_there. let low : number_in (blocks block) < number = lower block below record_there in omega (arith, low, numbered)) (λ _. omega arith);
        first = λ block below record_there. let low : number_in (blocks block) < number = lower block below record_there in omega (arith, low, numbered);
      };
      number = numbered;
      image = pictured;
    }

    pub first_one : (image : List ℕ) → image_in (blocks count) ≡ image → HasNone count head blocks → IsNewestRecord (count + 1) head blocks one image
    first_one image pictured none = of_all (λ block below record_there. absurd (none block below record_there)) image pictured

    pub newer : (newest : Newest) (image old : List ℕ) → newest.number < number → image_in (blocks count) ≡ image → IsNewestRecord count head blocks newest old → IsNewestRecord (count + 1) head blocks one image
    newer newest image old high pictured found = of_all (λ block below record_there. let low : number_in (blocks block) ≤ number_in (blocks newest.block) = found.block.highest block below record_there in let known : number_in (blocks newest.block) ≡ newest.number = found.number in omega (arith, low, known, high)) image pictured

-- one block has the newest record
pub one_newest : (count : ℕ) (head : List ℕ) (blocks : ℕ → List ℕ) (a b : ℕ) → IsNewest count head blocks a → IsNewest count head blocks b → a ≡ b
one_newest count head blocks a b x y = elim (leb_tells a b) as (λ _. a ≡ b) [
  | inl above ↦ elim (leb_tells b a) as (λ _. a ≡ b) [
    | inl below ↦ omega (arith, above.1, below.1)
    | inr after ↦ let lower : number_in (blocks a) < number_in (blocks b) = y.first a after.1 x.there in let higher : number_in (blocks b) ≤ number_in (blocks a) = x.highest b y.exists y.there in absurd (omega (arith, lower, higher))
  ]
  | inr before ↦ let lower : number_in (blocks b) < number_in (blocks a) = x.first b before.1 y.there in let higher : number_in (blocks a) ≤ number_in (blocks b) = y.highest a x.exists x.there in absurd (omega (arith, lower, higher))
]
