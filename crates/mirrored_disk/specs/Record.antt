-- A record: an image with its head, its number and its check, as a block of a device has it.
--
-- A record has 8,900 bytes: a head of 16, a number of 8, low byte first, an image of 8,844, and the SHA-256 digest of
-- all that stands before it, 32.
use Rattle.std.specs.Prelude.{◌≡◌, ℕ, List, ◌++◌, take, drop}
use Rattle.std.specs.Int.{w64, from_le_bytes, to_le_bytes}
use Rattle.sha2.specs.Sha256.{sha256}

-- the number in a block
unfoldable pub number_in : List ℕ → ℕ
number_in block = from_le_bytes w64 (take 8 (drop 16 block))

-- the image in a block
unfoldable pub image_in : List ℕ → List ℕ
image_in block = take 8844 (drop 24 block)

-- a block has a record with this head
pub record HasRecord (head block : List ℕ) : Type 0 where
  pub named : take 16 block ≡ head
  pub checked : drop 8868 block ≡ sha256 (take 8868 block)

-- what the digest of a record is of
unfoldable pub body_of : (head : List ℕ) (number : ℕ) (image : List ℕ) → List ℕ
body_of head number image = head ++ to_le_bytes w64 number ++ image

-- the record of an image
unfoldable pub record_of : (head : List ℕ) (number : ℕ) (image : List ℕ) → List ℕ
record_of head number image = body_of head number image ++ sha256 (body_of head number image)
