-- What it is that a vote request is answered, that its answer comes back, and that who asked takes it, in a calm.
use Rattle.std.specs.Prelude.{◌≡◌, ◌≢◌, ◌⊎◌, ℕ, ◌+◌, ◌*◌, ◌<◌, ◌≤◌, false, true, max, List, ◌∷◌, ◌++◌, Some}
use Rattle.can_frame.specs.declared.step.What.TheVariants.{Vote, VoteQ}
use Rattle.can_frame.specs.Timing.{call_timeout, transfer_timeout}
use Rattle.dsdl_codec.specs.declared.append_request.AppendRequest.{AppendRequest}
use Rattle.dsdl_codec.specs.declared.vote_answer.VoteAnswer.{VoteAnswer}
use Rattle.dsdl_codec.specs.declared.vote_request.VoteRequest.{VoteRequest}
use Rattle.dsdl_codec.specs.VoteAnswer.{vote_answer_of}
use Rattle.dsdl_codec.specs.VoteRequest.{vote_request_of}
use Rattle.raft_core.specs.Handled as handled
use Rattle.raft_model.specs.Decisions.{grants}
use Rattle.raft_model.specs.Lists.{In}
use Rattle.raft_model.specs.Messages.{Answer, Request}
use Rattle.raft_model.specs.Messages.Message.{Answers, Requests}
use Rattle.raft_model.specs.Moves.Elections.{has_quorum, own_vote, votes_with, with_term}
use Rattle.raft_model.specs.Moves.Leading.{answer_to, vote_request}
use Rattle.raft_model.specs.Server.Role.{Candidate, Follower, Leader}
use Rattle.bus_rows.specs.declared.row.Row.{Row}
use Rattle.bus_rows.specs.declared.row.Row.TheVariants.{Rx, Tick}
use Rattle.transfer_rx.specs.Reassembly.{Delivery}
use Rattle.alloc_spec.specs.AllocatorState.{AllocatorState, members_of}
use Rattle.alloc_spec.specs.Step.{step}
use Rattle.alloc_spec.specs.Transfers.{Offer, SentTransfer, has_room, id_of}
use Rattle.alloc_spec_laws.specs.Saying.{vote_bytes}
use Rattle.service_steps.specs.InTime.{HearsLeader}
use Rattle.bus_rows.specs.Timed.{Timed, rows_in}
use Rattle.service_alone.specs.Calm.{Pace, end_of}
use Rattle.service_leader.specs.CallsComeBack.{HasPlace}
use Rattle.service_calm.specs.Calls.{Lists}
use Rattle.service_calm.specs.Calm.{AreCalm, AreRunning, IsRunning, Member, Party, no_traffic}
use Rattle.service_calm.specs.Comes.{AreReady, ComesBy, Delivers, HasMemory, MayComeFirst, Sends, Throughout, sent_by}
use Rattle.bus_spec.specs.Cluster.{Cluster, after_row, after_rows, arrival_at, frame_at, receipt_of}
use Rattle.bus_spec.specs.Cluster.{tick_of, world_of}
use Rattle.bus_spec.specs.Lawful.{DoNoHarm, DoesNoHarm}
use Rattle.bus_spec.specs.Members.MemberStatus.{Up}

-- ---- who stands for election asks for votes

-- In this row member n stands for election: it reads its clock, does not lead before, and is a candidate of the next
-- term, which is this one, when the row is over.
pub record Stands (n term : ℕ) (w : Cluster) (row : Row) : Type 0 where
  pub ms : ℕ
  pub word : ℕ
  pub reads : row ≡ Tick n ms word
  pub before : AllocatorState
  pub runs : (w.member n).status ≡ Up before
  pub next : term ≡ before.raft_server.store.term + 1
  pub after : AllocatorState
  pub runs_then : ((after_row w row).member n).status ≡ Up after
  pub stands : after.raft_server.memory.role ≡ Candidate
  pub its_term : after.raft_server.store.term ≡ term

-- A server waits for the answer to its vote request: it lists member m, the pending call to m is this request, and with
-- it are kept its transfer ID and the moment at which it was made.
pub record WaitsForVote (m id moment : ℕ) (request : Request) (t : AllocatorState) : Type 0 where
  pub listed : In m (members_of t)
  pub vote : request.append ≡ false
  pub pending : t.raft_server.memory.pending m ≡ Some request
  pub kept : t.times.sending m ≡ Some (record { id = id; moment = moment })

-- Who stands asks member m for its vote, in the same row, with the last term and the last index of its log; and where
-- the queue has room for the request, it waits for the answer.
pub record AsksFor (n m term : ℕ) (w : Cluster) (row : Row) (s : Stands n term w row) : Type 0 where
  pub offer : Offer
  pub offered : In offer (step s.before (w.rows + 1) (tick_of s.ms s.word)).step_state.offers
  pub what : offer.what ≡ VoteQ
  pub to : offer.to ≡ m
  pub says : offer.says ≡ Some (Requests (vote_request n (w.rows + 1) s.after.raft_server.store m))
  pub waits : offer.fitted ≡ true →
      WaitsForVote m offer.id s.after.now (vote_request n (w.rows + 1) s.after.raft_server.store m) s.after

-- What standing leaves: its log is as it was, its own vote is the only one, which it has stored, and its wait begins
-- anew.
pub record IsAsStanding (n term : ℕ) (w : Cluster) (row : Row) (s : Stands n term w row) : Type 0 where
  pub log : s.after.raft_server.store.log ≡ s.before.raft_server.store.log
  pub vote : s.after.raft_server.store.vote ≡ Some n
  pub votes : s.after.raft_server.memory.votes ≡ own_vote n
  pub moment : s.after.now ≡ max s.before.now s.ms
  pub waits : s.after.times.since ≡ s.after.now
  pub asks : (m : ℕ) → In m (members_of s.after) → m ≢ n → AsksFor n m term w row s

-- so it is behind these rows, in a row that does no harm
abbrev pub StandingAsks : List ℕ → List Row → Type 0
StandingAsks ids rows = (n term : ℕ) (row : Row) → let w = world_of ids rows in In n ids → DoesNoHarm w row →
    (s : Stands n term w row) → IsAsStanding n term w row s

-- ---- a vote request is answered

-- The bytes of a vote request read as a request, and it says this request in the Raft model.
pub record VoteReadsAsSaid (x : SentTransfer) : Type 0 where
  pub request : VoteRequest
  pub read : vote_request_of x.offer.payload ≡ Some request
  pub said : x.offer.says ≡ Some (Requests (handled.vote_request_of request x.step x.by x.offer.to))

-- each vote request of a member reads so, in a row that does no harm behind these rows
abbrev pub VoteRequestsReadAsSaid : List ℕ → List Row → Type 0
VoteRequestsReadAsSaid ids rows = (n : ℕ) (row : Row) (offer : Offer) → let w = world_of ids rows in DoesNoHarm w row →
    IsRunning n w → Sends n w row offer → offer.what ≡ VoteQ → VoteReadsAsSaid (sent_by n w offer)

-- the request of the Raft model that a vote request to member m is, where its bytes say this
abbrev pub vote_asked_by : SentTransfer → VoteRequest → (m : ℕ) → Request
vote_asked_by x request m = handled.vote_request_of request x.step x.by m

-- How a server answers it in the step with this number: in the greater of the two terms, and with its vote where it may
-- grant it by what it has stored (`MayGrant` of raft_model's Moves/Elections says when).
abbrev pub vote_by : (number : ℕ) → AllocatorState → Request → Answer
vote_by number t request = let store = with_term t.raft_server.store request.term in
    answer_to t.me number store request (grants store request)

-- What it leaves of the server: the greater of the two terms, and the same log. A higher term makes it a follower. A
-- vote that is given is stored, and the wait begins anew at the moment of the step.
pub record HasVoted (request : Request) (before after : AllocatorState) : Type 0 where
  pub term : after.raft_server.store.term ≡ max before.raft_server.store.term request.term
  pub log : after.raft_server.store.log ≡ before.raft_server.store.log
  pub role : before.raft_server.store.term < request.term → after.raft_server.memory.role ≡ Follower
  pub gives : grants (with_term before.raft_server.store request.term) request ≡ true →
      (after.raft_server.store.vote ≡ Some request.from) × (after.times.since ≡ after.now)

-- In this row, in which the vote request x is delivered to it, member m offers its answer: to the candidate, under the
-- transfer ID of the request, and it names the step that made it (`re`). It finds room if one frame does.
pub record AnswersVote (m : ℕ) (x : SentTransfer) (request : VoteRequest) (w : Cluster) (row : Row)
    (delivers : Delivers m x w row) : Type 0 where
  pub offer : Offer
  pub offered : In offer (step delivers.server (w.rows + 1) (receipt_of w delivers.k delivers.ms)).step_state.offers
  pub what : offer.what ≡ Vote
  pub to : offer.to ≡ x.by
  pub id : offer.id ≡ x.offer.id
  pub re : offer.re ≡ x.step
  pub says : offer.says ≡ Some (Answers (vote_by (w.rows + 1) delivers.server (vote_asked_by x request m)))
  pub written : offer.payload ≡ vote_bytes (vote_by (w.rows + 1) delivers.server (vote_asked_by x request m))
  pub fitted : offer.fitted ≡ has_room delivers.server.queue offer.payload
  pub leaves : HasVoted (vote_asked_by x request m) delivers.server
      (step delivers.server (w.rows + 1) (receipt_of w delivers.k delivers.ms)).step_state.allocator

-- Who is asked for its vote answers, if it lists the candidate: whatever its role, and whatever the terms.
abbrev pub VotesAreAnswered : Type 0
VotesAreAnswered = (m : ℕ) (x : SentTransfer) (request : VoteRequest) (w : Cluster) (row : Row)
    (delivers : Delivers m x w row) → delivers.server.me ≡ m → x.offer.what ≡ VoteQ →
    vote_request_of x.offer.payload ≡ Some request → In x.by (members_of delivers.server) →
    AnswersVote m x request w row delivers

-- The bytes of an answer read as what the answer says in the Raft model.
pub record VoteAnswersAsSaid (x : SentTransfer) : Type 0 where
  pub answer : Answer
  pub said : x.offer.says ≡ Some (Answers answer)
  pub read : vote_answer_of x.offer.payload ≡ Some (record { term = answer.term; granted = answer.success })

-- each answer of a member to a vote request reads so, in a row that does no harm behind these rows
abbrev pub VoteAnswersReadAsSaid : List ℕ → List Row → Type 0
VoteAnswersReadAsSaid ids rows = (n : ℕ) (row : Row) (offer : Offer) → let w = world_of ids rows in DoesNoHarm w row →
    IsRunning n w → Sends n w row offer → offer.what ≡ Vote → VoteAnswersAsSaid (sent_by n w offer)

-- ---- who asked takes the answer

-- What an answer leaves of the server that waited for it. An answer of a higher term makes it a follower in that term.
-- A vote for a candidate in its term is counted, and a quorum of votes makes it the leader of this term.
pub record TakesVote (answer : Answer) (before after : AllocatorState) : Type 0 where
  pub raised : before.raft_server.store.term < answer.term →
      (after.raft_server.memory.role ≡ Follower) × (after.raft_server.store.term ≡ answer.term)
  pub kept : answer.term ≤ before.raft_server.store.term →
      after.raft_server.store.term ≡ before.raft_server.store.term
  pub wins : before.raft_server.memory.role ≡ Candidate → answer.term ≡ before.raft_server.store.term →
      answer.success ≡ true →
      has_quorum (members_of before) (votes_with before.raft_server.memory answer) ≡ true →
      after.raft_server.memory.role ≡ Leader
  pub counts : before.raft_server.memory.role ≡ Candidate → answer.term ≡ before.raft_server.store.term →
      answer.success ≡ true →
      has_quorum (members_of before) (votes_with before.raft_server.memory answer) ≡ false →
      (after.raft_server.memory.role ≡ Candidate)
      × (after.raft_server.memory.votes ≡ votes_with before.raft_server.memory answer)

-- In this row the answer y is delivered to member n, which waits for it since less than the call timeout, and the bytes
-- of the answer say this.
abbrev pub VotesAreTaken : Type 0
VotesAreTaken = (n moment : ℕ) (y : SentTransfer) (request : Request) (says : VoteAnswer) (w : Cluster) (row : Row)
    (delivers : Delivers n y w row) → let before = delivers.server in
    let after = (step before (w.rows + 1) (receipt_of w delivers.k delivers.ms)).step_state.allocator in
    before.me ≡ n → y.offer.what ≡ Vote → vote_answer_of y.offer.payload ≡ Some says →
    WaitsForVote y.by y.offer.id moment request before → max before.now delivers.ms < moment + call_timeout →
    TakesVote (handled.answer_of y.step y.by request says.term says.granted) before after

-- ---- until the answer comes

-- in this row member m is delivered an append request that makes it follow
pub record HearsAppend (m : ℕ) (w : Cluster) (row : Row) : Type 0 where
  pub k : ℕ
  pub ms : ℕ
  pub comes : row ≡ Rx m k ms
  pub server : AllocatorState
  pub runs : (w.member m).status ≡ Up server
  pub delivery : Delivery
  pub request : AppendRequest
  pub hears : HearsLeader server (arrival_at (frame_at w.frames k) ms) delivery request

-- the answer to a vote request with this transfer ID, from member m, comes to member n in this row
pub record VoteComes (n m id : ℕ) (w : Cluster) (row : Row) : Type 0 where
  pub y : SentTransfer
  pub by : y.by ≡ m
  pub what : y.offer.what ≡ Vote
  pub its_id : y.offer.id ≡ id
  pub delivers : Delivers n y w row

-- In a row that does no harm, behind these rows: a server that waits for a vote waits on, unless the answer comes in
-- this row, or its moment is the call timeout or more behind that of the request, or it stands anew, or leads.
abbrev pub WaitsOnForVotes : List ℕ → List Row → Type 0
WaitsOnForVotes ids rows = (n m id moment : ℕ) (request : Request) (row : Row) (before after : AllocatorState) →
    let w = world_of ids rows in In n ids → DoesNoHarm w row → (w.member n).status ≡ Up before →
    ((after_row w row).member n).status ≡ Up after → WaitsForVote m id moment request before →
    after.now < moment + call_timeout → ((term : ℕ) → Stands n term w row → ⊥) →
    after.raft_server.memory.role ≢ Leader → (VoteComes n m id w row → ⊥) → WaitsForVote m id moment request after

-- In such a row a candidate stays one in its term, with the votes that it has; or it leads in this term; or it is in a
-- higher term behind the row, and stood for election or follows; or it hears a leader of its own term, and follows.
pub record IsCandidateStill (n : ℕ) (w : Cluster) (row : Row) (before after : AllocatorState) : Type 0 where
  pub still : ((after.raft_server.memory.role ≡ Candidate)
      × (after.raft_server.store.term ≡ before.raft_server.store.term)
      × ((p : ℕ) → before.raft_server.memory.votes p ≡ true → after.raft_server.memory.votes p ≡ true))
      ⊎ (((after.raft_server.memory.role ≡ Leader)
      × (after.raft_server.store.term ≡ before.raft_server.store.term))
      ⊎ ((before.raft_server.store.term < after.raft_server.store.term)
      ⊎ HearsAppend n w row))

abbrev pub CandidatesStay : List ℕ → List Row → Type 0
CandidatesStay ids rows = (n : ℕ) (row : Row) (before after : AllocatorState) → let w = world_of ids rows in In n ids →
    DoesNoHarm w row → (w.member n).status ≡ Up before → ((after_row w row).member n).status ≡ Up after →
    before.raft_server.memory.role ≡ Candidate → IsCandidateStill n w row before after

-- ---- in a calm

-- Member n can ask member m for its vote in these rows, and m can answer. Each is on the other's list. When the rows
-- begin, no frame of an earlier vote request waits, nor one of an earlier answer, and the first request has a transfer
-- ID under which it may begin at m, and its answer at n. Both have memory for what they receive, and the queue of m has
-- a place for an answer.
pub record CanAsk (n m : ℕ) (w : Cluster) (whole : List Timed) : Type 0 where
  pub asks_it : Lists n m w
  pub hears_it : Lists m n w
  pub calls : AreReady n m VoteQ m w
  pub first_call : MayComeFirst n VoteQ m calls.receiver (id_of calls.sender.ids VoteQ m)
  pub answers : AreReady m n Vote n w
  pub first_answer : MayComeFirst m Vote n answers.receiver (id_of calls.sender.ids VoteQ m)
  pub memory : Throughout (HasMemory n) w whole
  pub its_memory : Throughout (HasMemory m) w whole
  pub place : Throughout (HasPlace m) w whole

-- The vote request x, which member n made at this moment, is delivered to member m in one of these rows, within two
-- delays. Member m answers in that row, and its answer comes to member n in a later one, within four delays.
pub record VoteComesBack (n m : ℕ) (x : SentTransfer) (request : VoteRequest) (at delay : ℕ) (w : Cluster)
    (whole : List Timed) : Type 0 where
  pub front : List Timed
  pub timed : Timed
  pub rest : List Timed
  pub split : whole ≡ front ++ timed ∷ rest
  pub soon : timed.at ≤ at + 2 * delay
  pub delivers : Delivers m x (after_rows w (rows_in front)) timed.row
  pub answers : AnswersVote m x request (after_rows w (rows_in front)) timed.row delivers
  pub comes : let there = after_rows w (rows_in front) in
      ComesBy n (sent_by m there answers.offer) (at + 4 * delay) (after_row there timed.row) rest

-- In each calm from the world of these rows on, of rows that do no harm, in which twice the delay is no longer than a
-- transfer is remembered: where a member of the group can ask another one for its vote, and asks it, the request is
-- answered and the answer comes, or the calm is over by then. What roles the two have meanwhile is no premise.
abbrev pub VotesComeBack : List ℕ → List Row → Type 0
VotesComeBack ids rows = (group : List Party) (clocks : Party → ℕ) (pace : Pace) (start n m : ℕ)
    (front rest : List Timed) (timed : Timed) (offer : Offer) → let w = world_of ids rows in
    let there = after_rows w (rows_in front) in let whole = front ++ timed ∷ rest in
    ((p : ℕ) → In (Member p) group → In p ids) → AreRunning group w → In (Member n) group → In (Member m) group →
    n ≢ m → 2 * pace.delay ≤ transfer_timeout → CanAsk n m w whole →
    AreCalm group clocks pace (no_traffic start) w whole → DoNoHarm w (rows_in whole) →
    Sends n there timed.row offer → offer.what ≡ VoteQ → offer.to ≡ m →
    timed.at + 4 * pace.delay < end_of timed.at rest →
    (read : VoteReadsAsSaid (sent_by n there offer))
    × VoteComesBack n m (sent_by n there offer) read.request timed.at pace.delay there (timed ∷ rest)
