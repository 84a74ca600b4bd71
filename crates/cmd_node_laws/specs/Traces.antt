-- A trace of a cluster: the events of members that run in processes of their own, and of the allocatees
-- on their bus, in the order of time; and the rows that each event stands for.
--
-- A process opens its members and lets each take its turns (`cmd_node`). It ends or is killed at any moment: then its
-- members stop, between two turns, or one of them in its opening or in a turn, wherever in the writes of its store.
use Rattle.std.specs.Prelude.{◌≡◌, ⊤, ℕ, ◌+◌, ◌*◌, Bool, true, false, List, [], ◌∷◌, ◌++◌, length, Option, Some, None, if◌then◌else◌}
use Rattle.can_frame.specs.declared.frame.Frame.{Frame}
use Rattle.can_frame.specs.Identifier.{identifier_of}
use Rattle.outside.specs.declared.pattern.Pattern.TheVariants.{Old}
use Rattle.bus_rows.specs.declared.row.Row.{Row}
use Rattle.bus_rows.specs.declared.row.Row.TheVariants.{Open, Tick, Rx, Send, Ext, Crash, AOpen, ATick, ARx, ASend, AEnd}
use Rattle.transfer_tx.specs.Queue.{Queued}
use Rattle.bus_spec.specs.Cluster.{Cluster, after_rows, arrival_at, frame_at, is_member, after_row}
use Rattle.bus_spec.specs.Lawful.{IsHarmlessAt, cause, is_forged, no_such_frame}
use Rattle.bus_spec.specs.Members.{is_running, next_frame}

-- what came on a member's link in a turn
pub data Came : Type 0 where
  -- nothing, or what is no frame
  Silence : Came
  -- frame k of the bus, which was sent before
  WasSent : (k : ℕ) → Came
  -- a frame from elsewhere
  FromElsewhere : (frame : Frame) → Came

pub data Event : Type 0 where
  -- the process of a member opens it, and may have told it the list of members
  Opens : (n : ℕ) (told : Bool) (moment word : ℕ) → Event
  -- the process of a member is killed while it opens it, when so many puts of the opening are done
  DiesAtOpening : (n : ℕ) (told : Bool) (moment word puts : ℕ) → Event
  -- a member takes a turn to its end
  Turns : (n moment word : ℕ) (came : Came) → Event
  -- a member stops between two turns: its process ended, or was killed
  Stops : (n : ℕ) → Event
  -- a member is killed in a turn, of whose puts so many are done
  DiesInTurn : (n moment word : ℕ) (came : Came) (puts : ℕ) → Event
  -- what others on the bus do: a device that keeps the rules of an allocatee does what this row says, or a frame from
  -- elsewhere is on the bus
  OfOthers : (row : Row) → Event

-- a row of an allocatee, or a frame from elsewhere
abbrev pub is_of_others : Row → Bool
is_of_others (AOpen a uid pref moment word) = true
is_of_others (ATick a moment word) = true
is_of_others (ARx a k moment word) = true
is_of_others (ASend a) = true
is_of_others (AEnd a) = true
is_of_others (Ext frame) = true
is_of_others row = false

-- ---- the rows of an event

-- rows as a function of the world before them
abbrev pub RowsFrom : Type 0
RowsFrom = Cluster → List Row

-- the rows of one after those of another
abbrev pub rows_then : RowsFrom → RowsFrom → RowsFrom
rows_then first rest w = first w ++ rest (after_rows w (first w))

abbrev pub came_rows : ℕ → ℕ → Came → RowsFrom
came_rows n moment Silence w = []
came_rows n moment (WasSent k) w = Rx n k moment ∷ []
came_rows n moment (FromElsewhere frame) w = Ext frame ∷ Rx n (length w.frames + 1) moment ∷ []

-- a frame that waits in the queue is sent
abbrev pub send_if : ℕ → Option Queued → List Row
send_if n None = []
send_if n (Some frame) = Send n ∷ []

abbrev pub out_rows : ℕ → RowsFrom
out_rows n w = send_if n (next_frame (w.member n).status)

-- none, where the member has stopped by then
abbrev pub while_running : ℕ → RowsFrom → RowsFrom
while_running n rows w = if is_running (w.member n).status then rows w else []

-- A put is four calls of a disk. A stop in place of call 4 * puts + 1, counted over both steps of the turn, leaves the
-- first `puts` of its puts done and no other. An opening syncs and reads before its puts, which are two calls more.
abbrev pub rows_of : Event → RowsFrom
rows_of (Opens n told moment word) w = Open n told moment word ∷ []
rows_of (DiesAtOpening n told moment word puts) w =
    rows_then (λ w. Crash n (4 * puts + 3) Old ∷ Open n told moment word ∷ [])
    (while_running n (λ w. Crash n 0 Old ∷ [])) w
rows_of (Turns n moment word came) w =
    rows_then (λ w. Tick n moment word ∷ []) (rows_then (came_rows n moment came) (out_rows n)) w
rows_of (Stops n) w = Crash n 0 Old ∷ []
rows_of (DiesInTurn n moment word came puts) w =
    rows_then (λ w. Crash n (4 * puts + 1) Old ∷ Tick n moment word ∷ [])
    (rows_then (while_running n (came_rows n moment came)) (while_running n (λ w. Crash n 0 Old ∷ []))) w
rows_of (OfOthers row) w = row ∷ []

abbrev pub all_rows : List Event → RowsFrom
all_rows [] w = []
all_rows (first ∷ rest) w = rows_then (rows_of first) (all_rows rest) w

-- ---- the premises

-- A member is one of the cluster, and runs in one process at a time. What it takes of the bus was sent, is no transfer
-- put together of two, and no response to an earlier call, but one that counts for nothing. What comes from elsewhere is
-- not forged. What an allocatee does is lawful: it is there, and what it takes of the bus was sent and is no transfer put
-- together of two.

abbrev pub MayOccur : ℕ → ℕ → Came → Cluster → Type 0
MayOccur n moment Silence w = ⊤
MayOccur n moment (WasSent k) w =
    (no_such_frame w k ≡ None) × IsHarmlessAt (w.member n).status (arrival_at (frame_at w.frames k) moment)
MayOccur n moment (FromElsewhere frame) w = is_forged w.ids (identifier_of frame.id) ≡ false

abbrev pub MayOpen : ℕ → Cluster → Type 0
MayOpen n w = (is_member w.ids n ≡ true) × (is_running (w.member n).status ≡ false)

pub record MayTurn (n : ℕ) (w : Cluster) : Type 0 where
  pub member : is_member w.ids n ≡ true
  pub runs : is_running (w.member n).status ≡ true

abbrev pub MayHappen : Event → Cluster → Type 0
MayHappen (Opens n told moment word) w = MayOpen n w
MayHappen (DiesAtOpening n told moment word puts) w = MayOpen n w
MayHappen (Turns n moment word came) w = MayTurn n w × MayOccur n moment came (after_row w (Tick n moment word))
MayHappen (Stops n) w = MayTurn n w
MayHappen (DiesInTurn n moment word came puts) w =
    let ticked : Cluster = after_rows w (Crash n (4 * puts + 1) Old ∷ Tick n moment word ∷ []) in
    MayTurn n w × (is_running (ticked.member n).status ≡ true → MayOccur n moment came ticked)
MayHappen (OfOthers row) w = (is_of_others row ≡ true) × (cause w row ≡ None)

abbrev pub MayAllHappen : List Event → Cluster → Type 0
MayAllHappen [] w = ⊤
MayAllHappen (first ∷ rest) w = MayHappen first w × MayAllHappen rest (after_rows w (rows_of first w))
