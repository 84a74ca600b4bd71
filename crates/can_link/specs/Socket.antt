-- What a call on a socket that tells what it has makes of it.
use Rattle.std.specs.Prelude.{◌≡◌, List, [], ◌∷◌, ◌++◌, Option, Some, None}
use Rattle.outside.specs.Traffic.{next_item, items_behind}
use Rattle.outside.specs.declared.received.RawFrame.{RawFrame}
use Rattle.outside.specs.declared.received.Received.{Received}
use Rattle.can_link.specs.declared.socket.Written.{Written}
use Rattle.can_link.specs.declared.socket.Written.TheVariants.{Taken, Lost, Failed}

-- the next item is taken and answered; a socket that failed gives none, and keeps what it has
abbrev pub Gives : Option Received → List Received → List Received → Type 0
Gives (Some item) old new = (item ≡ next_item old) × (new ≡ items_behind old)
Gives None old new = new ≡ old

-- a frame that is taken stands behind all others; one that is lost, or fails, does not
abbrev pub Takes : RawFrame → Written → List RawFrame → List RawFrame → Type 0
Takes frame Taken old new = new ≡ old ++ (frame ∷ [])
Takes frame Lost old new = new ≡ old
Takes frame Failed old new = new ≡ old
