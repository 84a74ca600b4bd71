-- The calls on a device, and what they change.
use Rattle.std.specs.Prelude.{◌≡◌, ℕ, ◌+◌, ◌<◌, ◌≤◌, Bool, true, false, ◌⊎◌, List, [], ◌∷◌, length, slice_index}
use Rattle.disk_model.specs.Contents.{Contents, IsSettled, HasBytes}

pub data DeviceCall : Type 0 where
  Read : (at size : ℕ) → DeviceCall
  Write : (at : ℕ) (bytes : List ℕ) → DeviceCall
  Sync : DeviceCall

-- byte i is as it was
pub record IsByteKept (old new : Contents) (i : ℕ) : Type 0 where
  pub seen : slice_index new.seen i ≡ slice_index old.seen i
  pub written : new.written i ≡ old.written i

-- the bytes outside a range are as they were, and so is the stable image
pub record ChangesOnly (at size : ℕ) (old new : Contents) : Type 0 where
  pub stable : new.stable ≡ old.stable
  pub before : (i : ℕ) → i < at → IsByteKept old new i
  pub after : (i : ℕ) → at + size ≤ i → IsByteKept old new i

-- a whole write: the range has these bytes, each of them written
pub record Overwrites (at : ℕ) (bytes : List ℕ) (old new : Contents) : Type 0 where
  pub outside : ChangesOnly at (length bytes) old new
  pub inside : HasBytes new.seen at bytes
  pub written : (i : ℕ) → i < length bytes → new.written (at + i) ≡ true

-- what reads gave is stable, and nothing was written since
pub record IsSynced (old new : Contents) : Type 0 where
  pub seen : new.seen ≡ old.seen
  pub stable : new.stable ≡ old.seen
  pub settled : IsSettled new

-- these device calls were made in this order, up to the first that failed; they are all made where none did
abbrev pub Makes : {D : Type 0} → (D → DeviceCall → Bool → D → Type 0) → List DeviceCall → Bool →
    D → D → Type 0
Makes does [] ok old new = (ok ≡ true) × (new ≡ old)
Makes {D} does (call ∷ calls) ok old new =
    ((ok ≡ false) × does old call false new)
    ⊎ ((between : D) × does old call true between × Makes does calls ok between new)
