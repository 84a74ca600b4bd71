-- What it is that a leader's entries come to a member and are committed, in a calm.
use Rattle.std.specs.Prelude.{◌≡◌, ◌≢◌, ◌⊎◌, ℕ, ◌+◌, ◌-◌, ◌*◌, ◌<◌, ◌≤◌, ◌==◌, ◌||◌, max, Bool, true}
use Rattle.std.specs.Prelude.{List, ◌∷◌, ◌++◌, length, None, Some}
use Rattle.can_frame.specs.declared.step.What.TheVariants.{App, AppQ}
use Rattle.can_frame.specs.Timing.{call_timeout}
use Rattle.dsdl_codec.specs.declared.append_request.AppendRequest.{AppendRequest}
use Rattle.dsdl_codec.specs.AppendRequest.{append_request_of}
use Rattle.raft_core.specs.Handled as handled
use Rattle.raft_model.specs.Decisions.{verdict_on}
use Rattle.raft_model.specs.Lists.{In, any, how_many}
use Rattle.raft_model.specs.Log.{Same, term_at}
use Rattle.raft_model.specs.Messages.{Request}
use Rattle.raft_model.specs.Messages.Message.{Requests}
use Rattle.raft_model.specs.Moves.Appending.{is_accepted}
use Rattle.raft_model.specs.Runs.{InEveryRun}
use Rattle.raft_model.specs.Server.{quorum}
use Rattle.raft_model.specs.Server.Role.{Leader}
use Rattle.bus_rows.specs.declared.row.Row.{Row}
use Rattle.alloc_spec.specs.AllocatorState.{AllocatorState}
use Rattle.alloc_spec.specs.Transfers.{SentTransfer, id_of}
use Rattle.bus_rows.specs.Timed.{Timed, rows_in}
use Rattle.service_alone.specs.Calm.{Pace, end_of}
use Rattle.service_calm.specs.Calls.{Lists}
use Rattle.service_leader.specs.CallsComeBack.{CallsReturn, HasPlace, LeadsOn}
use Rattle.service_calm.specs.Calm.{AreCalm, AreRunning, Member, Party, no_traffic}
use Rattle.service_calm.specs.Comes.{AreReady, Delivers, HasMemory, MayComeFirst, Throughout}
use Rattle.service_leader.specs.LeadsOn.{IsLedThroughout}
use Rattle.service_leader.specs.NoElection.{CallsFit}
use Rattle.bus_spec.specs.Cluster.{Cluster, after_rows, world_of}
use Rattle.bus_spec.specs.Lawful.{DoNoHarm, DoesNoHarm}
use Rattle.bus_spec.specs.Members.MemberStatus.{Up}

-- ---- a call is accepted

-- At each moment of every run of the Raft model: an append request that was made in the term in which a member leads
-- now is accepted by another member, whose term is no higher, if it begins no further on than up to where the leader
-- knows the logs to agree. When it was made is not asked, nor what the member's log has behind there.
abbrev pub CallsInStepAreAcceptedInRuns : Type 0
CallsInStepAreAcceptedInRuns = InEveryRun (λ world. (leader peer : ℕ) (request : Request) → peer ≢ leader →
    (world.server leader).memory.role ≡ Leader → (world.server peer).store.term ≤ (world.server leader).store.term →
    In (Requests request) world.bag → request.append ≡ true → request.term ≡ (world.server leader).store.term →
    request.previous ≤ (world.server leader).memory.matched peer →
    is_accepted (verdict_on (world.server peer) request) ≡ true)

-- In this row a call is delivered to member m, whose bytes say this request. It is of the term in which member n leads
-- now, and the term of m is no higher. It begins no further on than up to where n knows the log of m to agree with its
-- own.
pub record IsCalledInStep (n m : ℕ) (x : SentTransfer) (request : AppendRequest) (w : Cluster)
    (row : Row) : Type 0 where
  pub delivers : Delivers m x w row
  pub what : x.offer.what ≡ AppQ
  pub says : append_request_of x.offer.payload ≡ Some request
  pub leader : AllocatorState
  pub runs : (w.member n).status ≡ Up leader
  pub leads : leader.raft_server.memory.role ≡ Leader
  pub its_term : request.term ≡ leader.raft_server.store.term
  pub not_above : delivers.server.raft_server.store.term ≤ request.term
  pub known : request.prev_index ≤ leader.raft_server.memory.matched m

-- Behind these rows, in a row that does no harm: member m accepts such a call.
abbrev pub CallsInStepAreAccepted : List ℕ → List Row → Type 0
CallsInStepAreAccepted ids rows = (n m : ℕ) (x : SentTransfer) (request : AppendRequest) (row : Row) →
    let w = world_of ids rows in In n ids → In m ids → m ≢ n → DoesNoHarm w row →
    (called : IsCalledInStep n m x request w row) →
    is_accepted (verdict_on called.delivers.server.raft_server (handled.append_request_of request x.step x.by m)) ≡ true

-- ---- entries come

-- The leader n calls member m next no further on than behind the places that it knows m to have. From a call that m
-- accepts on it is so, as long as n leads; a leader that has just won begins behind its whole log, and knows of no
-- place.
abbrev pub AreInStep : (n m : ℕ) → Cluster → Type 0
AreInStep n m w = (leader : AllocatorState) → (w.member n).status ≡ Up leader →
    leader.raft_server.memory.next m ≤ leader.raft_server.memory.matched m + 1

-- no call of the leader n to member m waits for its answer
abbrev pub NoCallPends : (n m : ℕ) → Cluster → Type 0
NoCallPends n m w = (leader : AllocatorState) → (w.member n).status ≡ Up leader →
    leader.raft_server.memory.pending m ≡ None

-- each call of the leader n to member m that waits for its answer in this world was made in a step behind this one
abbrev pub PendsSince : (n m number : ℕ) → Cluster → Type 0
PendsSince n m number w = (leader : AllocatorState) (request : Request) → (w.member n).status ≡ Up leader →
    leader.raft_server.memory.pending m ≡ Some request → number < request.step

-- The leader n goes on calling member m: a call waits for its answer, or the next one carries an entry, or begins no
-- further on than behind the places that n knows m to have. Behind a step of a leader whose calls found room it is
-- otherwise in one case alone: since the leader won, its log has not grown, and of all answers of m it has taken those
-- alone that m gave to calls of an earlier term, for those to later calls. Then its next call is a heartbeat.
abbrev pub GoesOnCalling : (n m : ℕ) → Cluster → Type 0
GoesOnCalling n m w = (leader : AllocatorState) → (w.member n).status ≡ Up leader →
    (leader.raft_server.memory.pending m ≢ None)
    ⊎ (leader.raft_server.memory.next m
    ≤ max (length leader.raft_server.store.log) (leader.raft_server.memory.matched m + 1))

-- So many calls at most, each with its answer, until the leader knows the member to have its whole log: one for each
-- place by which the next call is too far on, and one for each place that the leader does not know the member to have.
abbrev pub calls_left : AllocatorState → (m : ℕ) → ℕ
calls_left leader m = (leader.raft_server.memory.next m - (leader.raft_server.memory.matched m + 1))
    + (length leader.raft_server.store.log - leader.raft_server.memory.matched m)

-- The leader n can call member m in these rows, and m can answer. Each is on the other's list. When the rows begin, no
-- frame of an earlier call waits, nor one of an earlier answer, and the first call has a transfer ID under which it may
-- begin at m, and its answer at n. Both have memory for what they receive, and the queue of m has a place for an
-- answer.
pub record CanExchange (n m : ℕ) (w : Cluster) (whole : List Timed) : Type 0 where
  pub calls_it : Lists n m w
  pub hears_it : Lists m n w
  pub calls : AreReady n m AppQ m w
  pub first_call : MayComeFirst n AppQ m calls.receiver (id_of calls.sender.ids AppQ m)
  pub answers : AreReady m n App n w
  pub first_answer : MayComeFirst m App n answers.receiver (id_of calls.sender.ids AppQ m)
  pub memory : Throughout (HasMemory n) w whole
  pub its_memory : Throughout (HasMemory m) w whole
  pub place : Throughout (HasPlace m) w whole

-- After a front of these rows, which begin at the moment `start`, and by the moment `last`, member n knows member m to
-- have so many places of its log, and m has them.
pub record HasComeBy (n m count last start : ℕ) (w : Cluster) (whole : List Timed) : Type 0 where
  pub front : List Timed
  pub rest : List Timed
  pub split : whole ≡ front ++ rest
  pub soon : end_of start front ≤ last
  pub leader : AllocatorState
  pub leads : ((after_rows w (rows_in front)).member n).status ≡ Up leader
  pub peer : AllocatorState
  pub runs : ((after_rows w (rows_in front)).member m).status ≡ Up peer
  pub known : count ≤ leader.raft_server.memory.matched m
  pub has : Same count leader.raft_server.store.log peer.raft_server.store.log

-- In each calm in which calls come back (`CallsComeBack` says when that is so), and behind any first rows of it: where
-- a member of the group, once it leads in the calm, leads on in one term, and can exchange calls and answers with
-- another member, each call that it makes to that one behind the first rows comes back.
abbrev pub CallsReturnToWhoLeadsOn : List ℕ → List Row → Type 0
CallsReturnToWhoLeadsOn ids rows = (group : List Party) (clocks : Party → ℕ) (pace : Pace) (start n m term : ℕ)
    (first later : List Timed) → let w = world_of ids rows in let whole = first ++ later in
    ((p : ℕ) → In (Member p) group → In p ids) → AreRunning group w → In (Member n) group → In (Member m) group →
    m ≢ n →
    4 * pace.delay < call_timeout → AreCalm group clocks pace (no_traffic start) w whole → DoNoHarm w (rows_in whole) →
    CanExchange n m w whole → LeadsOn n term w whole → CallsReturn n m pace.delay (after_rows w (rows_in first)) later

-- The first of these rows begin in the world w. Behind them the leader n goes on calling member m, which is on its
-- list. Of the first rows some are `early`. Behind those each call of n to m comes back; and each call to m that waits
-- for its answer behind the first rows was made there. What calls and answers went before is not asked.
pub record KeepsCalling (n m delay : ℕ) (w : Cluster) (first later : List Timed) : Type 0 where
  pub lists_it : Lists n m w
  pub early : List Timed
  pub since : List Timed
  pub split : first ≡ early ++ since
  pub back : CallsReturn n m delay (after_rows w (rows_in early)) (since ++ later)
  pub pends : PendsSince n m (after_rows w (rows_in early)).rows (after_rows w (rows_in first))
  pub goes_on : GoesOnCalling n m (after_rows w (rows_in first))

-- So long it takes at most until so many calls are answered. A leader reads its clock within a period. Then a call may
-- be under way, which is none of them; behind it each answer is followed by the next call at once. A call and its
-- answer take two delays each.
abbrev pub come_within : Pace → ℕ → ℕ
come_within pace more = pace.period + 4 * pace.delay * (more + 1)

-- In each calm from the world of these rows on, of rows that do no harm, in which four delays are shorter than the call
-- timeout. After some first rows member n leads, and from there on it leads on in this term, and the other members of
-- the group follow in no higher one (`no_election_comes_in_calm` says when that is so); its calls find room in its
-- queue. Whether it led before, and in which term, is not asked. It keeps calling another member of the group, whatever
-- that one's log is, and its calls come back. From each front on behind there, at which so many calls at most are left:
-- all places that the leader's log has then come to the member in time, or the calm is over by then. What is put into
-- the log meanwhile does not count.
abbrev pub EntriesComeInTime : List ℕ → List Row → Type 0
EntriesComeInTime ids rows = (group : List Party) (clocks : Party → ℕ) (pace : Pace) (start n m term more : ℕ)
    (first front rest : List Timed) (leader : AllocatorState) → let w = world_of ids rows in
    let there = after_rows w (rows_in first) in let whole = first ++ (front ++ rest) in
    ((p : ℕ) → In (Member p) group → In p ids) → AreRunning group w → In (Member n) group → In (Member m) group →
    m ≢ n →
    4 * pace.delay < call_timeout → AreCalm group clocks pace (no_traffic start) w whole → DoNoHarm w (rows_in whole) →
    IsLedThroughout group n term there (front ++ rest) → CallsFit n w whole →
    KeepsCalling n m pace.delay w first (front ++ rest) →
    ((after_rows there (rows_in front)).member n).status ≡ Up leader → calls_left leader m ≤ more →
    let then = end_of (end_of start first) front in then + come_within pace more < end_of start whole →
    HasComeBy n m (length leader.raft_server.store.log) (then + come_within pace more) (end_of start first) there
    (front ++ rest)

-- ---- entries are committed

-- whether it is the leader, or one of these
abbrev pub is_one_of : ℕ → List ℕ → ℕ → Bool
is_one_of n others p = (p == n) || any (λ other. other == p) others

-- after a front of these rows, which begin at the moment `start`, and by the moment `last`, member n has committed so
-- many places
pub record IsCommittedBy (n count last start : ℕ) (w : Cluster) (whole : List Timed) : Type 0 where
  pub front : List Timed
  pub rest : List Timed
  pub split : whole ≡ front ++ rest
  pub soon : end_of start front ≤ last
  pub leader : AllocatorState
  pub leads : ((after_rows w (rows_in front)).member n).status ≡ Up leader
  pub committed : count ≤ leader.raft_server.store.commit

-- So it is with one or more others of the group, which with the leader are a quorum of the cluster's members. Where the
-- last place that the log has then is of the leader's own term, as each place is that the leader has put there itself,
-- the leader has committed all of them by the same moment.
abbrev pub EntriesAreCommittedInTime : List ℕ → List Row → Type 0
EntriesAreCommittedInTime ids rows = (group : List Party) (clocks : Party → ℕ) (pace : Pace) (start n term more : ℕ)
    (other : ℕ) (next : List ℕ) (first front rest : List Timed) (leader : AllocatorState) →
    let w = world_of ids rows in let there = after_rows w (rows_in first) in
    let whole = first ++ (front ++ rest) in let others = other ∷ next in
    ((p : ℕ) → In (Member p) group → In p ids) → AreRunning group w → In (Member n) group →
    ((m : ℕ) → In m others → In (Member m) group × (m ≢ n)) → quorum ids ≤ how_many (is_one_of n others) ids →
    4 * pace.delay < call_timeout → AreCalm group clocks pace (no_traffic start) w whole → DoNoHarm w (rows_in whole) →
    IsLedThroughout group n term there (front ++ rest) → CallsFit n w whole →
    ((m : ℕ) → In m others → KeepsCalling n m pace.delay w first (front ++ rest)) →
    ((after_rows there (rows_in front)).member n).status ≡ Up leader →
    ((m : ℕ) → In m others → calls_left leader m ≤ more) →
    term_at leader.raft_server.store.log (length leader.raft_server.store.log) ≡ term →
    let then = end_of (end_of start first) front in then + come_within pace more < end_of start whole →
    IsCommittedBy n (length leader.raft_server.store.log) (then + come_within pace more) start w whole
