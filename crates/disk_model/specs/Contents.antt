-- What a disk holds, and the images that a stop may leave of it.
use Rattle.std.specs.Prelude.{◌≡◌, ℕ, ◌+◌, ◌<◌, Bool, false, List, [], length, slice_index}

-- the size of a disk in bytes
abbrev pub image_size : ℕ
image_size = 8844

-- what reads give, what the last sync that succeeded made stable, and which bytes were written since
pub record Contents : Type 0 where
  pub seen : List ℕ
  pub stable : List ℕ
  pub written : ℕ → Bool

-- a stop may leave any image that agrees with the stable one wherever nothing was written
pub record MayLeave (disk : Contents) (image : List ℕ) : Type 0 where
  pub size : length image ≡ length disk.stable
  pub kept : (i : ℕ) → disk.written i ≡ false → slice_index image i ≡ slice_index disk.stable i

-- a disk has its size, and what reads give is one of the images
pub record IsSound (disk : Contents) : Type 0 where
  pub size : length disk.stable ≡ image_size
  pub current : MayLeave disk disk.seen

-- nothing was written since the last sync that succeeded
abbrev pub IsSettled : Contents → Type 0
IsSettled disk = (i : ℕ) → disk.written i ≡ false

-- the image has these bytes at this place
abbrev pub HasBytes : List ℕ → ℕ → List ℕ → Type 0
HasBytes image at bytes = (i : ℕ) → i < length bytes → slice_index image (at + i) ≡ slice_index bytes i

-- reads give the same, and a stop may leave no image that it could not leave before
pub record AddsNoImage (old new : Contents) : Type 0 where
  pub seen : new.seen ≡ old.seen
  pub images : (image : List ℕ) → MayLeave new image → MayLeave old image

-- what stands for the contents of a disk that tells none
abbrev pub untold : Contents
untold = record { seen = []; stable = []; written = λ i. false }
