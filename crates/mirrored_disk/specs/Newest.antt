-- Which block has the newest record.
use Rattle.std.specs.Prelude.{◌≡◌, ℕ, ◌<◌, ◌≤◌, List, Option, None, Some}
use Rattle.mirrored_disk.specs.Record.{HasRecord, image_in, number_in}
use Rattle.mirrored_disk.specs.declared.search.Newest.{Newest}

-- of the first so many blocks this one has the record with the highest number, and is the first that has
pub record IsNewest (count : ℕ) (head : List ℕ) (blocks : ℕ → List ℕ) (block : ℕ) : Type 0 where
  pub exists : block < count
  pub there : HasRecord head (blocks block)
  pub highest : (other : ℕ) → other < count → HasRecord head (blocks other) →
      number_in (blocks other) ≤ number_in (blocks block)
  pub first : (other : ℕ) → other < block → HasRecord head (blocks other) →
      number_in (blocks other) < number_in (blocks block)

-- none of the first so many blocks has a record
abbrev pub HasNone : ℕ → List ℕ → (ℕ → List ℕ) → Type 0
HasNone count head blocks = (block : ℕ) → block < count → HasRecord head (blocks block) → ⊥

-- these are the block, the number and the image of the newest record
pub record IsNewestRecord (count : ℕ) (head : List ℕ) (blocks : ℕ → List ℕ) (newest : Newest) (picture : List ℕ) :
    Type 0 where
  pub block : IsNewest count head blocks newest.block
  pub number : number_in (blocks newest.block) ≡ newest.number
  pub image : image_in (blocks newest.block) ≡ picture

-- what is found in the first so many blocks
abbrev pub IsFoundBelow : ℕ → List ℕ → (ℕ → List ℕ) → Option Newest → List ℕ → Type 0
IsFoundBelow count head blocks None image = HasNone count head blocks
IsFoundBelow count head blocks (Some newest) image = IsNewestRecord count head blocks newest image
