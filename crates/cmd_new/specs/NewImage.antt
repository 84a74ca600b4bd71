-- The images of new stores.
use Rattle.std.specs.Prelude.{◌≡◌, ◌≤◌, ◌⊎◌, ◌==◌, ℕ, ◌+◌, List, [], ◌∷◌, slice_set, replicate, if◌then◌else◌}
use Rattle.std.specs.Int.{to_le_bytes, w32}
use Rattle.disk_model.specs.Contents.{image_size}

-- Of this size: zeros, but for key 0, the version, which has the byte 2. The selector, byte 0, is odd and chooses copy
-- B, whose length byte is 34 and whose value begins at byte 35.
unfoldable pub image_of : ℕ → List ℕ
image_of size = slice_set (slice_set (slice_set (replicate size 0) 0 1) 34 1) 35 2

-- what the first opening of a store of zeros leaves
abbrev pub new_image : List ℕ
new_image = image_of image_size

-- these bytes, written at this place
abbrev pub with_bytes : ℕ → List ℕ → List ℕ → List ℕ
with_bytes place [] image = image
with_bytes place (byte ∷ bytes) image = with_bytes (place + 1) bytes (slice_set image place byte)

-- The same with a term, four bytes, and a vote for this node, one byte. Both selectors, bytes 67 and 134, are even and
-- choose copy A, whose length byte stands behind them. Copy B of both has nothing. The first put of a key goes to its
-- copy B, so no put makes this of zeros.
unfoldable pub above_of : ℕ → ℕ → ℕ → List ℕ
above_of size term node = with_bytes 135 (1 ∷ node ∷ []) (with_bytes 68 (4 ∷ to_le_bytes w32 term) (image_of size))

-- the store of a member that has stood for election up to this term, and voted for itself
abbrev pub image_above : ℕ → ℕ → List ℕ
image_above term node = above_of image_size term node

-- the store that is made for this node above this term. Where the term is 0 the store has no term and no vote
abbrev pub made_image : ℕ → ℕ → List ℕ
made_image term node = if term == 0 then new_image else image_above term node

-- The highest term above which stores are made. It is half of the terms that a member takes before it has sent one
-- (`most_terms` of `told_link`).
abbrev pub highest_start : ℕ
highest_start = 500000

-- a store is made above this term, of 1 and up, for this node
pub record IsMadeAbove (term node : ℕ) : Type 0 where
  pub term_least : 1 ≤ term
  pub term_most : term ≤ highest_start
  pub node_least : 1 ≤ node
  pub node_most : node ≤ 125

pub record IsAbove (image : List ℕ) : Type 0 where
  pub term : ℕ
  pub node : ℕ
  pub may : IsMadeAbove term node
  pub image_is : image ≡ image_above term node

-- what `new` makes, for some node
abbrev pub IsNewImage : List ℕ → Type 0
IsNewImage image = (image ≡ new_image) ⊎ IsAbove image
