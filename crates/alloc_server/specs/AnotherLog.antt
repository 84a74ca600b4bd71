-- Whether an event brings a call of another log: an append request that contradicts what the member has committed.
--
-- A leader whose term is not below that of a member has in its log what the member has committed, so its requests agree
-- with it (`raft_model::laws::law_one_log`). And no two entries of a log give one node ID, or one unique ID
-- (`IsInjective`), so its entry behind the committed ones repeats none of them. Those of a lower term may differ
-- lawfully, and do not count: a leader of an earlier term calls late, with an entry that was never committed.
use Rattle.std.specs.Prelude.{ℕ, ◌+◌, Bool, true, false, not, ◌&&◌, ◌||◌, max, nat_eq, nat_le, nat_lt, take, Option, None, Some, if◌then◌else◌}
use Rattle.std.specs.Str.{bytes_eq}
use Rattle.can_frame.specs.declared.entry.Entry.{Entry}
use Rattle.can_frame.specs.declared.identifier.Ident.{Ident}
use Rattle.can_frame.specs.declared.identifier.Kind.{Kind}
use Rattle.can_frame.specs.declared.identifier.Kind.TheVariants.{Anonymous, Message, Request, Response}
use Rattle.can_frame.specs.DataTypes.{append_entries}
use Rattle.can_frame.specs.Log.{entry_at}
use Rattle.dsdl_codec.specs.declared.append_request.AppendRequest.{AppendRequest}
use Rattle.dsdl_codec.specs.AppendRequest.{append_request_of}
use Rattle.node_discovery.specs.declared.counting.Counting.{Counting}
use Rattle.node_discovery.specs.declared.counting.Counting.TheVariants.{OfSpell, SinceAnswer}
use Rattle.raft_model.specs.Decisions.{is_distinct_from_all}
use Rattle.raft_model.specs.Server.{Store}
use Rattle.transfer_rx.specs.Reassembly.{Arrival, Delivery, answer, delivered}
use Rattle.alloc_spec.specs.Accepted.{setting_for}
use Rattle.alloc_spec.specs.AllocatorState.{AllocatorState}
use Rattle.alloc_spec.specs.Services.{is_listed}
use Rattle.alloc_spec.specs.Step.{Event, Rx, Tick}

-- ---- what contradicts a store

abbrev pub has_committed : Store → ℕ → Bool
has_committed store place = nat_le 1 place && nat_le place store.commit

abbrev pub is_same_entry : Entry → Entry → Bool
is_same_entry a b = nat_eq a.term b.term && (bytes_eq a.uid b.uid && nat_eq a.node b.node)

-- the place of the previous entry is committed, and the term there is another one
abbrev pub differs_before : Store → AppendRequest → Bool
differs_before store request = has_committed store request.prev_index
    && not (nat_eq (entry_at store.log request.prev_index).term request.prev_term)

-- the place of the new entry is committed, and the entry there is another one
abbrev pub differs_at : Store → ℕ → Option Entry → Bool
differs_at store place None = false
differs_at store place (Some entry) = has_committed store place && not (is_same_entry (entry_at store.log place) entry)

-- the place of the new entry is behind the committed ones, and it may not stand in one log with one of them: both give,
-- or keep back, one node ID, or both give to one unique ID
abbrev pub repeats_committed : Store → ℕ → Option Entry → Bool
repeats_committed store place None = false
repeats_committed store place (Some entry) = nat_lt store.commit place
    && not (is_distinct_from_all entry (take store.commit store.log))

abbrev pub contradicts : Store → AppendRequest → Bool
contradicts store request = nat_le store.term request.term
    && (differs_before store request || (differs_at store (request.prev_index + 1) request.entry
    || repeats_committed store (request.prev_index + 1) request.entry))

-- ---- what a frame brings

-- who is told the members counts the queries so (`with_told`)
abbrev pub counts_as_told : Counting → Bool
counts_as_told OfSpell = false
counts_as_told SinceAnswer = true

abbrev pub is_told : AllocatorState → Bool
is_told t = counts_as_told t.counting

abbrev pub is_request : Kind → Bool
is_request Message = false
is_request Anonymous = false
is_request Request = true
is_request Response = false

abbrev pub is_append_request : Ident → Bool
is_append_request ident = is_request ident.kind && nat_eq ident.number append_entries.number

-- the member that makes the request, where it contradicts the store
abbrev pub caller_of : Store → ℕ → Option AppendRequest → Option ℕ
caller_of store source None = None
caller_of store source (Some request) = if contradicts store request then Some source else None

-- a member of the list makes it
abbrev pub caller_in : AllocatorState → Option Delivery → Option ℕ
caller_in t None = None
caller_in t (Some d) = if is_append_request d.ident && is_listed d t
    then caller_of t.raft_server.store d.ident.source (append_request_of d.payload) else None

-- a frame that comes to a member that is told its list, at the moment that a step would have
unfoldable pub caller_by : AllocatorState → Arrival → Option ℕ
caller_by t arrival = if is_told t
    then caller_in t (delivered (answer (setting_for t.me) t.sessions (record arrival { moment = max t.now arrival.moment })))
    else None

-- the member whose log is another one
abbrev pub another_log : AllocatorState → Event → Option ℕ
another_log t (Tick now word) = None
another_log t (Rx arrival) = caller_by t arrival
