-- The running CRC of each session: what was taken is never read again for it.
use Rattle.std.specs.Prelude.{⊤, ◌≡◌, ℕ, ◌/◌, ◌%◌, ◌<◌, List, [], drop, slice_index_or, Option, Some, None}
use Rattle.can_frame.specs.TransferCrc.{transfer_crc}
use Rattle.transfer_rx.specs.declared.accept.AcceptRow.{AcceptRow}
use Rattle.transfer_rx.specs.declared.key.Key.{Key}
use Rattle.transfer_rx.specs.declared.progress.Found.{Found}
use Rattle.transfer_rx.specs.declared.progress.Progress.{Progress}
use Rattle.transfer_rx.specs.declared.turn.Turn.{Turn}
use Rattle.transfer_rx.specs.declared.turn.Turn.TheVariants.{Refused, Out, Next}
use Rattle.transfer_rx.specs.Acceptance.{first_signature}

-- bytes begin with a CRC, its low byte first
pub record BeginsWithCrc (crc : ℕ) (bytes : List ℕ) : Type 0 where
  pub low : slice_index_or bytes 0 0 ≡ crc % 256
  pub high : slice_index_or bytes 1 0 ≡ crc / 256

-- the bytes of a longer transfer, as far as they came: one CRC is that of the bytes behind the first two, and these two
-- are the other one
pub record CarriesCrcs (signature crc sent_crc : ℕ) (bytes : List ℕ) : Type 0 where
  pub behind : crc ≡ transfer_crc signature (drop 2 bytes)
  pub sent : BeginsWithCrc sent_crc bytes

-- where frames were taken, both CRCs are those of their bytes
abbrev pub HasCrc : ℕ → Progress → List ℕ → Type 0
HasCrc signature progress chain = 0 < progress.taken → CarriesCrcs signature progress.crc progress.sent_crc chain

-- where frames were taken, the CRC is that of their bytes, under the signature of the session's key
abbrev pub HasOwnCrc : (Key → Option ℕ) → Progress → List ℕ → Type 0
HasOwnCrc signature_of progress chain =
    (signature : ℕ) → signature_of progress.key ≡ Some signature → HasCrc signature progress chain

-- the sessions at all places have it
abbrev pub HaveCrcs : (Key → Option ℕ) → List (Option Progress) → List (List ℕ) → Type 0
HaveCrcs signature_of progress chains =
    (place : ℕ) (there : Progress) → slice_index_or progress place None ≡ Some there →
    HasOwnCrc signature_of there (slice_index_or chains place [])

-- the sessions of one key have it
abbrev pub HaveCrcsOf : Key → ℕ → List (Option Progress) → List (List ℕ) → Type 0
HaveCrcsOf key signature progress chains =
    (place : ℕ) (there : Progress) → slice_index_or progress place None ≡ Some there → there.key ≡ key →
    HasCrc signature there (slice_index_or chains place [])

-- what was found is of a key, and has its CRC
pub record IsUnder (key : Key) (signature : ℕ) (chains : List (List ℕ)) (found : Found) : Type 0 where
  pub own : found.progress.key ≡ key
  pub crc : HasCrc signature found.progress (slice_index_or chains found.place [])

abbrev pub IsTurnUnder : Key → ℕ → List (List ℕ) → Turn → Type 0
IsTurnUnder key signature chains (Refused why) = ⊤
IsTurnUnder key signature chains (Out found why) = IsUnder key signature chains found
IsTurnUnder key signature chains (Next found verdict) = IsUnder key signature chains found

-- the signature that the rows give to a key
abbrev pub signature_in : List AcceptRow → Key → Option ℕ
signature_in rows key = first_signature rows key.kind key.number
