-- The part of the input that waits: what a read adds to it, and which line stands at its front.
use Rattle.std.specs.Prelude.{◌≡◌, ◌≢◌, ◌≤◌, ◌<◌, ℕ, List, [], ◌++◌, length, slice_index, Bool, true, false, Option}
use Rattle.std.specs.Io.KnownBytes.{Consumes, IsAtEnd}
use Rattle.cmd_io.specs.declared.input.Front.{Front}
use Rattle.cmd_io.specs.declared.input.Front.TheVariants.{Line, TooLong, Incomplete}

-- some bytes came from the front of the source; none came only at its end. No more wait than there is room for
pub record ReadsMore (left_before left_now : Option (List ℕ)) (before now : List ℕ) (more : Bool) : Type 0 where
  pub came : List ℕ
  pub behind : now ≡ before ++ came
  pub taken : Consumes left_before left_now came
  pub some : more ≡ true → came ≡ [] → ⊥
  pub none : more ≡ false → came ≡ []
  pub ended : more ≡ false → IsAtEnd left_now
  pub fits : length now ≤ 4096

-- the first byte that ends a line stands at a place
pub record IsLineEnd (end : ℕ) (bytes : List ℕ) (place : ℕ) : Type 0 where
  pub within : place < length bytes
  pub here : slice_index bytes place ≡ end
  pub first : (i : ℕ) → i < place → slice_index bytes i ≢ end

abbrev pub HasNoLineEnd : ℕ → List ℕ → Type 0
HasNoLineEnd end bytes = (i : ℕ) → i < length bytes → slice_index bytes i ≢ end

-- no line of at most so many bytes ends in the bytes, and none begins at their front
pub record HasTooLongLine (end longest : ℕ) (bytes : List ℕ) : Type 0 where
  pub long : longest < length bytes
  pub none : (i : ℕ) → i ≤ longest → slice_index bytes i ≢ end

-- the line at the front of the bytes, whatever comes behind
abbrev pub StandsInFront : Front → ℕ → ℕ → List ℕ → Type 0
StandsInFront (Line size) end longest bytes = IsLineEnd end bytes size × (size ≤ longest)
StandsInFront TooLong end longest bytes = HasTooLongLine end longest bytes
StandsInFront Incomplete end longest bytes = HasNoLineEnd end bytes × (length bytes ≤ longest)
