-- What stores have committed, place by place. Places are counted from 1.
use Rattle.std.specs.Prelude.{◌≡◌, ◌≢◌, ℕ, ◌<◌, ◌≤◌, List, [], length, take, slice_index_or}
use Rattle.can_frame.specs.declared.entry.Entry.{Entry}
use Rattle.can_frame.specs.Log.{entry_at}
use Rattle.raft_log.specs.declared.stored.Stored.{Stored}
use Rattle.raft_log.specs.Reading.{IsReadable}

-- the store at an index; behind the last one stands one with nothing in it
abbrev pub store_at : List Stored → ℕ → Stored
store_at stores k = slice_index_or stores k
    (record { term = 0; vote = 0; commit = 0; entries = record { items = [] }; origins = record { items = [] } })

-- what a store has committed is in it
abbrev pub AreCommitted : List Stored → Type 0
AreCommitted stores = (k : ℕ) → k < length stores →
    (store_at stores k).commit ≤ length (store_at stores k).entries.items

-- a store has the origin of each entry that it has committed
abbrev pub HaveMarks : List Stored → Type 0
HaveMarks stores = (k : ℕ) → k < length stores →
    (store_at stores k).commit ≤ length (store_at stores k).origins.items

-- each was read of an image
abbrev pub AreReadable : List Stored → Type 0
AreReadable stores = (k : ℕ) → k < length stores → IsReadable (store_at stores k)

-- the entries that a store has committed
abbrev pub committed : Stored → List Entry
committed store = take store.commit store.entries.items

-- the entry of a store at a place
abbrev pub stored_entry : List Stored → ℕ → ℕ → Entry
stored_entry stores k place = entry_at (store_at stores k).entries.items place

-- the store has committed an entry at the place
abbrev pub HasCommitted : List Stored → ℕ → ℕ → Type 0
HasCommitted stores place k = place ≤ (store_at stores k).commit

-- all that have committed an entry at the place have the same
abbrev pub AgreeAt : List Stored → ℕ → Type 0
AgreeAt stores place = (a b : ℕ) → a < length stores → b < length stores → HasCommitted stores place a →
    HasCommitted stores place b → stored_entry stores a place ≡ stored_entry stores b place

-- these are the first two that have committed different entries at the place: the first that has committed one,
-- and the first after it that has committed another
pub record IsFirstPair (place : ℕ) (stores : List Stored) (a b : ℕ) : Type 0 where
  pub order : a < b
  pub exists : b < length stores
  pub has : HasCommitted stores place a
  pub has_too : HasCommitted stores place b
  pub differ : stored_entry stores a place ≢ stored_entry stores b place
  pub first : (k : ℕ) → k < a → HasCommitted stores place k → ⊥
  pub next : (k : ℕ) → a < k → k < b → HasCommitted stores place k →
      stored_entry stores k place ≡ stored_entry stores a place
