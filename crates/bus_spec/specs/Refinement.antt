-- The run of the Raft model that a world shows: the events of each row, in order; and the transfers that were
-- made.
--
-- A step that its disk cut off ends within the move whose put failed. Where the member stopped with it, the disk tells
-- whether that put was done. Where it did not, a choice says so (`Choices`).
use Rattle.std.specs.Prelude.{ℕ, ◌+◌, ◌-◌, ◌==◌, nat_lt, Bool, List, [], ◌∷◌, ◌++◌, length, if◌then◌else◌}
use Rattle.kv_store.specs.KeyDisk.{KeyDisk}
use Rattle.outside.specs.declared.pattern.Pattern.{Pattern}
use Rattle.raft_log.specs.KeyDisk.{are_put, done_on, found_by, is_open_on, puts_on}
use Rattle.raft_log.specs.Stored.{Stored}
use Rattle.raft_model.specs.Handlers.{server_after}
use Rattle.raft_model.specs.Moves.{Move, puts}
use Rattle.raft_model.specs.Runs.{Event as RunEvent}
use Rattle.raft_model.specs.Runs.Event.{Opens, Steps, Stops, StopsWithin}
use Rattle.raft_model.specs.Server.{RaftServer}
use Rattle.bus_rows.specs.declared.row.Row.{Row}
use Rattle.bus_rows.specs.declared.row.Row.TheVariants.{Open, Tick, Rx, Crash}
use Rattle.alloc_spec.specs.StepState.{StepState, messages}
use Rattle.alloc_spec.specs.Step.{Event, step}
use Rattle.alloc_spec.specs.AllocatorState.{AllocatorState}
use Rattle.alloc_spec.specs.Transfers.{SentTransfer, Offer}
use Rattle.bus_spec.specs.Choices.{one_if}
use Rattle.bus_spec.specs.Cluster.{Cluster, after_row, receipt_of, tick_of}
use Rattle.bus_spec.specs.Members.{MemberStatus, Member, puts_of}
use Rattle.bus_spec.specs.Members.MemberStatus.{Down, Up, Failed}

-- ---- a step that was cut off

-- A step of member m ends after so many puts of its moves, counted over the members of the cluster. The event names the
-- moves before the one in which it ends, that move, and how many of that move's puts are done: `more` is 1 where the
-- put that failed is done, and else 0.
abbrev pub cut_event : List ℕ → ℕ → ℕ → RaftServer → List Move → List Move → ℕ → ℕ → List RunEvent
cut_event members m number raft_server before [] done more = Stops m number before ∷ []
cut_event members m number raft_server before (move ∷ moves) done more =
    if nat_lt done (length (puts members m raft_server move))
    then StopsWithin m number before move (done + more) ∷ []
    else cut_event members m number (server_after members m number raft_server move) (before ++ (move ∷ [])) moves
    (done - length (puts members m raft_server move)) more

-- how many more puts are done than are for sure, 0 or 1: a stopped disk tells, by what its restart finds; for a
-- failed step the choice does
abbrev pub more_done : (ℕ → Bool) → ℕ → Pattern → KeyDisk Stored → ℕ
more_done choice row pattern disk = if disk.calls.stopped then found_by pattern disk else one_if (choice row)

-- ---- the events of a row

abbrev pub cut_events : (ℕ → Bool) → List ℕ → ℕ → ℕ → Member → AllocatorState → StepState
    → List RunEvent
cut_events choice members m row x server step_state =
    cut_event members m row server.raft_server [] step_state.moves (done_on (puts_of x step_state) x.disk.calls)
    (more_done choice row x.pattern (puts_on (puts_of x step_state) x.disk))

abbrev pub step_state_events : (ℕ → Bool) → List ℕ → ℕ → ℕ → Member → AllocatorState → StepState
    → List RunEvent
step_state_events choice members m row x server step_state =
    if are_put (puts_of x step_state) x.disk.calls
    then Steps m row step_state.moves (messages row step_state) ∷ []
    else cut_events choice members m row x server step_state

-- a member that is stopped, or has failed, takes no step
abbrev pub step_events : (ℕ → Bool) → List ℕ → ℕ → ℕ → Event → MemberStatus → Member
    → List RunEvent
step_events choice members m row event Down x = []
step_events choice members m row event (Up server) x =
    step_state_events choice members m row x server (step server row event).step_state
step_events choice members m row event (Failed failure) x = []

-- a stop between two steps; one that failed went down with the step that failed
abbrev pub stop_events : ℕ → ℕ → MemberStatus → List RunEvent
stop_events m row Down = []
stop_events m row (Up server) = Stops m row [] ∷ []
stop_events m row (Failed failure) = []

-- an opening that succeeded opens; what sends, comes from outside, or arms a disk shows nothing, nor does an allocatee
abbrev pub row_events : (ℕ → Bool) → Cluster → Row → List RunEvent
row_events choice w (Open n told ms word) = if is_open_on (w.member n).disk then Opens n ∷ [] else []
row_events choice w (Tick n ms word) =
    step_events choice w.ids n (w.rows + 1) (tick_of ms word) (w.member n).status (w.member n)
row_events choice w (Rx n k ms) =
    step_events choice w.ids n (w.rows + 1) (receipt_of w k ms) (w.member n).status (w.member n)
row_events choice w (Crash n calls pattern) = if calls == 0 then stop_events n (w.rows + 1) (w.member n).status else []
row_events choice w row = []

abbrev pub events : (ℕ → Bool) → Cluster → List Row → List RunEvent
events choice w [] = []
events choice w (row ∷ rows) = row_events choice w row ++ events choice (after_row w row) rows

-- ---- the transfers that were made

-- the transfers of the offers that fitted, the latest first, before those made earlier
abbrev pub transfers_of_offers : ℕ → ℕ → List Offer → List SentTransfer → List SentTransfer
transfers_of_offers row m [] earlier = earlier
transfers_of_offers row m (offer ∷ offers) earlier =
    transfers_of_offers row m offers
    (if offer.fitted then record { step = row; by = m; offer = offer } ∷ earlier else earlier)

-- of a step that finished
abbrev pub transfers_of_state : ℕ → ℕ → Member → StepState → List SentTransfer → List SentTransfer
transfers_of_state row m x step_state earlier =
    if are_put (puts_of x step_state) x.disk.calls then transfers_of_offers row m step_state.offers earlier else earlier

abbrev pub transfers_of_step : ℕ → ℕ → Event → MemberStatus → Member → List SentTransfer → List SentTransfer
transfers_of_step row m event Down x earlier = earlier
transfers_of_step row m event (Up server) x earlier =
    transfers_of_state row m x (step server row event).step_state earlier
transfers_of_step row m event (Failed failure) x earlier = earlier

abbrev pub transfers_of_row : Cluster → Row → List SentTransfer → List SentTransfer
transfers_of_row w (Tick n ms word) earlier =
    transfers_of_step (w.rows + 1) n (tick_of ms word) (w.member n).status (w.member n) earlier
transfers_of_row w (Rx n k ms) earlier =
    transfers_of_step (w.rows + 1) n (receipt_of w k ms) (w.member n).status (w.member n) earlier
transfers_of_row w row earlier = earlier

-- by these rows, the latest first, before those made earlier
abbrev pub transfers_of_rows : Cluster → List Row → List SentTransfer → List SentTransfer
transfers_of_rows w [] earlier = earlier
transfers_of_rows w (row ∷ rows) earlier = transfers_of_rows (after_row w row) rows (transfers_of_row w row earlier)
