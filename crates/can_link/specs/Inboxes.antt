-- What a frame on the bus does to the inboxes of the members of a process.
use Rattle.std.specs.Prelude.{◌≡◌, ◌<◌, ◌≤◌, ◌⊎◌, ◌++◌, ◌∷◌, [], ℕ, List, length}
use Rattle.outside.specs.declared.received.RawFrame.{RawFrame}

-- how many frames wait for each member of a process
abbrev pub most_waiting : ℕ
most_waiting = 64

-- the frame is behind those that wait, or there is no room for it
abbrev pub Comes : RawFrame → List RawFrame → List RawFrame → Type 0
Comes frame old new = ((length old < most_waiting) × (new ≡ old ++ frame ∷ []))
    ⊎ ((most_waiting ≤ length old) × (new ≡ old))
