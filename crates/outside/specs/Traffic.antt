-- What a call on a link that tells its items makes of them, and what it answers.
use Rattle.std.specs.Prelude.{◌≡◌, ℕ, List, [], ◌∷◌, ◌++◌, Result, Ok, Err, ⊤}
use Rattle.outside.specs.declared.received.RawFrame.{RawFrame}
use Rattle.outside.specs.declared.received.Received.{Received}
use Rattle.outside.specs.declared.received.Received.TheVariants.{Nothing}

-- the next item: nothing where none is left
abbrev pub next_item : List Received → Received
next_item [] = Nothing
next_item (first ∷ rest) = first

-- the items behind it
abbrev pub items_behind : List Received → List Received
items_behind [] = []
items_behind (first ∷ rest) = rest

-- the next item is taken and answered; a call that fails takes none
abbrev pub Receives : {E : Type 0} → Result Received E → List Received → List Received → Type 0
Receives (Ok item) old new = (item ≡ next_item old) × (new ≡ items_behind old)
Receives (Err error) old new = new ≡ old

-- the frame is sent behind all others; a call that fails sends nothing
abbrev pub Sends : {E : Type 0} → RawFrame → Result ⊤ E → List RawFrame → List RawFrame → Type 0
Sends frame (Ok done) old new = new ≡ old ++ (frame ∷ [])
Sends frame (Err error) old new = new ≡ old

-- how many frames a link in memory keeps
abbrev pub most_sent : ℕ
most_sent = 256
