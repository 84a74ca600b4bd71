-- What an audit writes.
use Rattle.std.specs.Prelude.{⊤, ◌≡◌, ℕ, zero, suc, ◌-◌, ◌<◌, nat_lt, List, [], ◌++◌, length, codes, decimal, flat_map, slice_index, if◌then◌else◌}
use Rattle.hex.specs.Hex.{encode_lower}
use Rattle.can_frame.specs.declared.entry.Entry.{Entry}
use Rattle.can_frame.specs.Log.{IsPrefix, entry_at}
use Rattle.raft_log.specs.declared.stored.Stored.{Stored}
use Rattle.cmd_io.specs.declared.status.Status.{Status}
use Rattle.cmd_io.specs.declared.status.Status.TheVariants.{Damaged, Differ, DiskFault}
use Rattle.store_audit.specs.Stores.{committed, store_at}

-- the list on which stores agree: what each has committed is a beginning of it, and one has committed it
pub record AgreeOn (stores : List Stored) (list : List Entry) : Type 0 where
  pub front : (k : ℕ) → k < length stores → IsPrefix (committed (store_at stores k)) list
  pub longest : ℕ
  pub exists : longest < length stores
  pub whole : list ≡ committed (store_at stores longest)

-- the origin of the entry that a store has committed at a place, or that it has committed none there
abbrev pub mark_at : ℕ → Stored → List ℕ
mark_at place store =
    if nat_lt store.commit place then codes "-" else decimal (slice_index store.origins.items (place - 1))

-- the line of a place and its entry: node ID, unique ID, and a mark of each store
abbrev pub place_line : List Stored → ℕ → Entry → List ℕ
place_line stores place entry =
    decimal place ++ codes " " ++ decimal entry.node ++ codes " " ++ encode_lower entry.uid
    ++ codes " " ++ flat_map (mark_at place) stores ++ codes "\n"

-- the lines of the places up to this one
unfoldable pub lines_to : List Stored → List Entry → ℕ → List ℕ
lines_to stores list zero = []
lines_to stores list (suc place) =
    lines_to stores list place ++ place_line stores (suc place) (entry_at list (suc place))

abbrev pub last_line : ℕ → List ℕ
last_line count = codes "agree " ++ decimal count ++ codes "\n"

-- what is written where the stores agree on this list
abbrev pub agreed_report : List Stored → List Entry → List ℕ
agreed_report stores list = lines_to stores list (length list) ++ last_line (length list)

-- the one line that is written where the stores do not agree, or are not read
abbrev pub line_of : Status → List ℕ
line_of (DiskFault id) = codes "disk fault " ++ decimal id ++ codes "\n"
line_of (Damaged id key) = codes "damaged " ++ decimal id ++ codes " " ++ decimal key ++ codes "\n"
line_of (Differ place a b) =
    codes "differ " ++ decimal place ++ codes " " ++ decimal a ++ codes " " ++ decimal b ++ codes "\n"
line_of _ = []

abbrev pub HasLine : Status → Type 0
HasLine (DiskFault id) = ⊤
HasLine (Damaged id key) = ⊤
HasLine (Differ place a b) = ⊤
HasLine _ = ⊥
