-- The frame of this process that is on its way to the bus: there is one, or none.
use Rattle.std.specs.Prelude.{◌≡◌, ℕ, ◌+◌, ◌<◌, ◌≤◌, ◌⊎◌, ◌∷◌, [], ◌++◌, List, Option, Some, None}
use Rattle.can_link.specs.Packet.{IsSameFrame}
use Rattle.can_link.specs.declared.bus.Sent.{Sent}
use Rattle.outside.specs.declared.received.RawFrame.{RawFrame}
use Rattle.outside.specs.declared.received.Received.{Received}
use Rattle.outside.specs.declared.received.Received.TheVariants.{Frame, Junk, Nothing}

-- in bits a second: a bus that has no more is slow
abbrev pub slow : ℕ
slow = 125000

-- on a bus with this bit rate, where it is known, an echo that is later than so many milliseconds ends the member
abbrev pub IsLatest : Option ℕ → ℕ → Type 0
IsLatest None late = late ≡ 500
IsLatest (Some rate) late = ((rate ≤ slow) × (late ≡ 1000)) ⊎ ((slow < rate) × (late ≡ 500))

-- in milliseconds: a frame is not written where more has passed since the bus was used before
abbrev pub longest_pause : ℕ
longest_pause = 1000

-- a frame that comes is the echo of the frame on its way, which is over then, or is another's
abbrev pub Echoes : RawFrame → Option Sent → Option ℕ → Option Sent → Type 0
Echoes frame None sender after = (sender ≡ None) × (after ≡ None)
Echoes frame (Some sent) sender after =
    (IsSameFrame frame sent.frame × (sender ≡ Some sent.place) × (after ≡ None))
    ⊎ ((IsSameFrame frame sent.frame → ⊥) × (sender ≡ None) × (after ≡ Some sent))

-- at this reading the echo of the frame on its way is late, where that is so after so many milliseconds
abbrev pub IsLate : (late now : ℕ) → Option Sent → Type 0
IsLate late now None = ⊥
IsLate late now (Some sent) = sent.since + late < now

-- what was on its way is so still, or nothing is
abbrev pub StaysOrEnds : Option Sent → Option Sent → Type 0
StaysOrEnds before after = (after ≡ before) ⊎ (after ≡ None)

-- a frame is written: it is on its way then, and all that was taken before it stays
abbrev pub IsWritten : Sent → Option Sent → List RawFrame → List RawFrame → Type 0
IsWritten sent after old new = (after ≡ Some sent) × (new ≡ old ++ (sent.frame ∷ []))

-- a member at this place hands in a frame, at this reading. It is written at most once, and nothing else is; what was on
-- its way before is over then
abbrev pub MayBeWritten : Sent → Option Sent → Option Sent → List RawFrame → List RawFrame → Type 0
MayBeWritten sent before after old new =
    (StaysOrEnds before after × (new ≡ old)) ⊎ IsWritten sent after old new

-- what the socket gave, for the frame on its way
abbrev pub Gone : Option Received → Option Sent → Option Sent → Type 0
Gone None before after = after ≡ before
Gone (Some (Frame frame)) before after = (sender : Option ℕ) × Echoes frame before sender after
Gone (Some Junk) before after = after ≡ before
Gone (Some Nothing) before after = after ≡ before

-- an item is the echo of this frame
abbrev pub EchoIsIn : Sent → List Received → Type 0
EchoIsIn sent [] = ⊥
EchoIsIn sent (Frame frame ∷ rest) = IsSameFrame frame sent.frame ⊎ EchoIsIn sent rest
EchoIsIn sent (Junk ∷ rest) = EchoIsIn sent rest
EchoIsIn sent (Nothing ∷ rest) = EchoIsIn sent rest

-- what a socket had left, once what it gives was read: what was on its way is over only where its echo was there
pub record Clears (before after : Option Sent) (old new : List Received) : Type 0 where
  pub left : (sent : Sent) → EchoIsIn sent new → EchoIsIn sent old
  pub way : (after ≡ before) ⊎ ((after ≡ None) × ((sent : Sent) × (before ≡ Some sent) × EchoIsIn sent old))

-- nothing was on its way, or its echo was there
abbrev pub IsClear : Option Sent → List Received → List Received → Type 0
IsClear before old new = (before ≡ None) ⊎ ((sent : Sent) × (before ≡ Some sent) × EchoIsIn sent old)
