-- What a sink has of what was to be written.
use Rattle.std.specs.Prelude.{◌≡◌, ◌⊎◌, ℕ, List, ◌++◌, Option, Result, OnOk, OnErr}
use Rattle.std.specs.Io.KnownBytes.{Appends, append_known}

-- some bytes were written
abbrev pub Grows : Option (List ℕ) → Option (List ℕ) → Type 0
Grows old new = (bytes : List ℕ) × Appends old new bytes

-- some front of the piece was written
abbrev pub WritesFront : Option (List ℕ) → Option (List ℕ) → List ℕ → Type 0
WritesFront old new piece = (front rest : List ℕ) × (piece ≡ front ++ rest) × Appends old new front

-- the piece was written behind what waited, or waits behind it; where the sink failed, it has a front of both
pub record Writes {T E : Type 0} (sink_before : Option (List ℕ)) (waited : List ℕ)
    (sink_now : Option (List ℕ)) (waits piece : List ℕ)
    (result : Result T E) : Type 0 where
  pub ok : OnOk result (Appends (append_known sink_before waited) (append_known sink_now waits) piece)
  pub grew : Grows sink_before sink_now
  pub err : OnErr result (WritesFront sink_before sink_now (waited ++ piece))

-- the piece was written behind what waited, and nothing waits; where the sink failed, it has a front of both
pub record WritesLast {T E : Type 0} (sink_before : Option (List ℕ)) (waited : List ℕ)
    (sink_now : Option (List ℕ)) (piece : List ℕ)
    (result : Result T E) : Type 0 where
  pub ok : OnOk result (Appends (append_known sink_before waited) sink_now piece)
  pub err : OnErr result (WritesFront sink_before sink_now (waited ++ piece))

-- a piece waits behind what waited, or alone where the sink took what waited
abbrev pub WaitsBehind : Option (List ℕ) → List ℕ → Option (List ℕ) → List ℕ → List ℕ → Type 0
WaitsBehind sink_before waited sink_now waits piece =
    ((waits ≡ waited ++ piece) × (sink_now ≡ sink_before)) ⊎ ((waits ≡ piece) × Appends sink_before sink_now waited)

-- after a last piece that was not written: what waited still waits, or the piece waits too, and the sink has a front
-- of what waits
abbrev pub StillWaits : Option (List ℕ) → List ℕ → Option (List ℕ) → List ℕ → List ℕ → Type 0
StillWaits sink_before waited sink_now waits piece =
    (waits ≡ waited)
    ⊎ ((sink_mid : Option (List ℕ))
    × WaitsBehind sink_before waited sink_mid waits piece × WritesFront sink_mid sink_now waits)
