-- Entries and logs (uavcan.protocol.dynamic_node_id.server.Entry; the log of the Raft paper). An entry is a blank,
-- a reservation or a pair.
-- Places are counted from 1, and place 0 stands for the blank of term 0.
use Rattle.std.specs.Prelude.{◌≡◌, ◌≢◌, ◌⊎◌, ℕ, zero, suc, ◌<◌, ◌≤◌, List, length, take, slice_index_or}
use Rattle.can_frame.specs.declared.entry.Entry.{Entry}
use Rattle.can_frame.specs.Zeros.{zeros}

-- a log has at most so many entries
abbrev pub log_limit : ℕ
log_limit = 127

-- the blank of a term
abbrev pub blank : ℕ → Entry
blank term = record { term = term; uid = zeros; node = 0 }

-- the entry that keeps a node ID back
abbrev pub reservation : ℕ → ℕ → Entry
reservation term node = record { term = term; uid = zeros; node = node }

-- an entry that gives nothing to anyone and keeps nothing back
abbrev pub IsBlank : Entry → Type 0
IsBlank entry = (entry.node ≡ 0) × (entry.uid ≡ zeros)

-- a node ID of 1 to 125 for a unique ID that is not all zeros
pub record IsPair (entry : Entry) : Type 0 where
  pub uid : entry.uid ≢ zeros
  pub least : 1 ≤ entry.node
  pub most : entry.node ≤ 125

-- a node ID of 1 to 125 that is kept back: a unique ID of zeros, so that no device is given it
pub record IsReservation (entry : Entry) : Type 0 where
  pub uid : entry.uid ≡ zeros
  pub least : 1 ≤ entry.node
  pub most : entry.node ≤ 125

-- an entry of a log is a blank, a reservation or a pair
abbrev pub IsWellFormed : Entry → Type 0
IsWellFormed entry = IsBlank entry ⊎ (IsReservation entry ⊎ IsPair entry)

-- two entries that are no blanks differ in node ID, and in unique ID unless both are zeros
pub record AreDistinct (a b : Entry) : Type 0 where
  pub nodes : (IsBlank a → ⊥) → (IsBlank b → ⊥) → a.node ≢ b.node
  pub uids : (IsBlank a → ⊥) → (IsBlank b → ⊥) → a.uid ≡ b.uid → a.uid ≡ zeros

-- the entry at a place
abbrev pub entry_at : List Entry → ℕ → Entry
entry_at log zero = blank 0
entry_at log (suc i) = slice_index_or log i (blank 0)

-- the term of the last entry, 0 where there is none
abbrev pub last_term : List Entry → ℕ
last_term log = (entry_at log (length log)).term

-- no node ID stands twice, and no unique ID but zeros; blanks do not count
abbrev pub IsInjective : List Entry → Type 0
IsInjective log = (i j : ℕ) → i < j → j < length log →
    AreDistinct (slice_index_or log i (blank 0)) (slice_index_or log j (blank 0))

-- the entry is distinct from each of the log
abbrev pub IsDistinctFromAll : List Entry → Entry → Type 0
IsDistinctFromAll log entry = (i : ℕ) → i < length log → AreDistinct (slice_index_or log i (blank 0)) entry

-- an entry of the log has this unique ID
pub record HasUid (log : List Entry) (uid : List ℕ) : Type 0 where
  pub place : ℕ
  pub within : place < length log
  pub same : (slice_index_or log place (blank 0)).uid ≡ uid

-- an entry of the log has this node ID: it is given to a device, or kept back
pub record HasNodeId (log : List Entry) (node : ℕ) : Type 0 where
  pub place : ℕ
  pub within : place < length log
  pub same : (slice_index_or log place (blank 0)).node ≡ node

-- an entry of the log is the pair of these
pub record HasPair (log : List Entry) (uid : List ℕ) (node : ℕ) : Type 0 where
  pub place : ℕ
  pub within : place < length log
  pub pair : IsPair (slice_index_or log place (blank 0))
  pub its_uid : (slice_index_or log place (blank 0)).uid ≡ uid
  pub its_node : (slice_index_or log place (blank 0)).node ≡ node

-- the second list begins with the first
abbrev pub IsPrefix : {A : Type 0} → List A → List A → Type 0
IsPrefix front whole = take (length front) whole ≡ front
