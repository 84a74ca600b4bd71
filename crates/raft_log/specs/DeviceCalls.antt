-- The device calls by which puts are made.
use Rattle.std.specs.Prelude.{ℕ, ◌+◌, ◌-◌, List, [], ◌∷◌, ◌++◌, length}
use Rattle.std.specs.Int.{to_le_bytes, w32}
use Rattle.can_frame.specs.declared.entry.Entry.{Entry}
use Rattle.disk_model.specs.Device.{DeviceCall}
use Rattle.kv_store.specs.Image.{put_calls, turned}
use Rattle.raft_log.specs.Stored.{Put, Stored, after_put}
use Rattle.raft_log.specs.Stored.Put.{PutTerm, PutVote, PutEntry, PutLast, PutCommit, PutOrigin, PutVersion}

-- an entry and its origin as they are stored
abbrev pub entry_bytes : Entry → ℕ → List ℕ
entry_bytes entry origin = to_le_bytes w32 entry.term ++ entry.uid ++ entry.node ∷ origin ∷ []

-- the key of a put
abbrev pub key_of : Put → Stored → ℕ
key_of (PutTerm term) state = 1
key_of (PutVote node) state = 2
key_of (PutEntry entry origin) state = 5 + length state.log
key_of (PutLast log origins) state = 3
key_of (PutCommit index) state = 4
key_of (PutOrigin place entry) state = 5 + place
key_of PutVersion state = 0

-- the value that it puts there
abbrev pub bytes_of : Put → List ℕ
bytes_of (PutTerm term) = to_le_bytes w32 term
bytes_of (PutVote node) = node ∷ []
bytes_of (PutEntry entry origin) = entry_bytes entry origin
bytes_of (PutLast log origins) = length log ∷ []
bytes_of (PutCommit index) = index ∷ []
bytes_of (PutOrigin place entry) = entry_bytes entry 0
bytes_of PutVersion = 2 ∷ []

-- the device calls of these puts, each into the copy that its key's selector does not choose by then
abbrev pub device_calls : List Put → Stored → (ℕ → ℕ) → List DeviceCall
device_calls [] state copies = []
device_calls (put ∷ puts) state copies =
    put_calls (key_of put state) (1 - copies (key_of put state)) (bytes_of put)
    ++ device_calls puts (after_put put state) (turned (key_of put state) copies)

-- the copies that the selectors choose after all of these puts
abbrev pub copies_after : List Put → Stored → (ℕ → ℕ) → ℕ → ℕ
copies_after [] state copies = copies
copies_after (put ∷ puts) state copies = copies_after puts (after_put put state) (turned (key_of put state) copies)
