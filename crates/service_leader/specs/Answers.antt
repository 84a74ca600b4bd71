-- What it is that a call is answered, that its answer comes back, and that the caller takes it.
use Rattle.std.specs.Prelude.{◌≡◌, ◌≢◌, ℕ, ◌+◌, ◌*◌, ◌<◌, ◌≤◌, max, true, List, ◌∷◌, ◌++◌, Some}
use Rattle.can_frame.specs.declared.step.What.TheVariants.{App, AppQ}
use Rattle.can_frame.specs.Timing.{call_timeout, transfer_timeout}
use Rattle.dsdl_codec.specs.declared.append_answer.AppendAnswer.{AppendAnswer}
use Rattle.dsdl_codec.specs.declared.append_request.AppendRequest.{AppendRequest}
use Rattle.dsdl_codec.specs.AppendAnswer.{append_answer_of}
use Rattle.dsdl_codec.specs.AppendRequest.{append_request_of}
use Rattle.raft_core.specs.Handled as handled
use Rattle.raft_model.specs.Decisions.{verdict_on}
use Rattle.raft_model.specs.Lists.{In}
use Rattle.raft_model.specs.Messages.{Answer, Request}
use Rattle.raft_model.specs.Messages.Message.{Answers}
use Rattle.raft_model.specs.Moves.Appending.{is_accepted, matched_after, next_after}
use Rattle.raft_model.specs.Moves.Elections.{with_term}
use Rattle.raft_model.specs.Moves.Leading.{answer_to}
use Rattle.raft_model.specs.Server.Role.{Follower, Leader}
use Rattle.bus_rows.specs.declared.row.Row.{Row}
use Rattle.alloc_spec.specs.AllocatorState.{AllocatorState, members_of}
use Rattle.alloc_spec.specs.Step.{step}
use Rattle.alloc_spec.specs.Transfers.{Offer, SentTransfer, has_room}
use Rattle.alloc_spec_laws.specs.Saying.{append_bytes}
use Rattle.bus_rows.specs.Timed.{Timed, rows_in}
use Rattle.service_alone.specs.Calm.{Pace, end_of}
use Rattle.service_calm.specs.Calm.{AreCalm, AreRunning, IsRunning, Member, Party, no_traffic}
use Rattle.service_calm.specs.Comes.{AreReady, ComesBy, Delivers, HasMemory, MayComeFirst, NoneRepeats, Sends}
use Rattle.service_calm.specs.Comes.{Throughout, sent_by}
use Rattle.bus_spec.specs.Cluster.{Cluster, after_rows, receipt_of, world_of}
use Rattle.bus_spec.specs.Lawful.{DoesNoHarm}

-- ---- who is called answers

-- the request of the Raft model that a call is, to member m, where its bytes say this
abbrev pub asked_by : SentTransfer → AppendRequest → (m : ℕ) → Request
asked_by x request m = handled.append_request_of request x.step x.by m

-- How a server answers a request in the step with this number: in the greater of the two terms, and by its verdict. It
-- accepts the request where the request's term is above its own, or the same while it does not lead; its log has the
-- place before the entry, with the request's term there; and there is no entry, or the entry is in the log already, or
-- may come into it behind that place (`IsJudged` of raft_model's Moves/Appending says all of it).
abbrev pub answer_by : (number : ℕ) → AllocatorState → Request → Answer
answer_by number t request = answer_to t.me number (with_term t.raft_server.store request.term) request
    (is_accepted (verdict_on t.raft_server request))

-- In this row, in which the call x is delivered to it, member m offers its answer: to the caller, under the transfer ID
-- of the call, and it names the step that made the call (`re`). It finds room if one frame does: nothing was offered
-- before it in this step.
pub record AnswersCall (m : ℕ) (x : SentTransfer) (request : AppendRequest) (w : Cluster) (row : Row)
    (delivers : Delivers m x w row) : Type 0 where
  pub offer : Offer
  pub offered : In offer (step delivers.server (w.rows + 1) (receipt_of w delivers.k delivers.ms)).step_state.offers
  pub what : offer.what ≡ App
  pub to : offer.to ≡ x.by
  pub id : offer.id ≡ x.offer.id
  pub re : offer.re ≡ x.step
  pub says : offer.says ≡ Some (Answers (answer_by (w.rows + 1) delivers.server (asked_by x request m)))
  pub written : offer.payload ≡ append_bytes (answer_by (w.rows + 1) delivers.server (asked_by x request m))
  pub fitted : offer.fitted ≡ has_room delivers.server.queue offer.payload

-- Whoever is called answers, if it lists the caller: whatever its role, and whatever the terms. A server has the node
-- ID of its member in every world that rows reach.
abbrev pub CallsAreAnswered : Type 0
CallsAreAnswered = (m : ℕ) (x : SentTransfer) (request : AppendRequest) (w : Cluster) (row : Row)
    (delivers : Delivers m x w row) → delivers.server.me ≡ m → x.offer.what ≡ AppQ →
    append_request_of x.offer.payload ≡ Some request → In x.by (members_of delivers.server) →
    AnswersCall m x request w row delivers

-- The bytes of an answer read as what the answer says in the Raft model.
pub record AnswersAsSaid (x : SentTransfer) : Type 0 where
  pub answer : Answer
  pub said : x.offer.says ≡ Some (Answers answer)
  pub read : append_answer_of x.offer.payload ≡ Some (record { term = answer.term; success = answer.success })

-- each answer of a member to a call reads so, in a row that does no harm behind these rows
abbrev pub AnswersReadAsSaid : List ℕ → List Row → Type 0
AnswersReadAsSaid ids rows = (n : ℕ) (row : Row) (offer : Offer) → let w = world_of ids rows in DoesNoHarm w row →
    IsRunning n w → Sends n w row offer → offer.what ≡ App → AnswersAsSaid (sent_by n w offer)

-- ---- the answer comes back

-- In each calm from the world of these rows on, in which twice the delay is no longer than a transfer is remembered: an
-- answer that a member of the group gives to a call of another one, and that finds room, comes to the caller within two
-- delays, or the calm is over by then. Of all answers from the one to the other in this calm the first has a transfer
-- ID that may begin, and each later one another ID than the one before it.
abbrev pub AnswersComeInCalm : List ℕ → List Row → Type 0
AnswersComeInCalm ids rows = (group : List Party) (clocks : Party → ℕ) (pace : Pace) (start n m : ℕ)
    (front rest : List Timed) (timed : Timed) (x : SentTransfer) (request : AppendRequest) →
    let w = world_of ids rows in
    let there = after_rows w (rows_in front) in let whole = front ++ timed ∷ rest in
    ((p : ℕ) → In (Member p) group → In p ids) → AreRunning group w → In (Member n) group → In (Member m) group →
    n ≢ m →
    2 * pace.delay ≤ transfer_timeout → (ready : AreReady m n App n w) →
    NoneRepeats m App n (MayComeFirst m App n ready.receiver) w whole →
    AreCalm group clocks pace (no_traffic start) w whole → Throughout (HasMemory n) w whole →
    (delivers : Delivers m x there timed.row) → (answers : AnswersCall m x request there timed.row delivers) →
    x.by ≡ n → answers.offer.fitted ≡ true → timed.at + 2 * pace.delay < end_of timed.at rest →
    ComesBy n (sent_by m there answers.offer) (timed.at + 2 * pace.delay) there (timed ∷ rest)

-- ---- the caller takes it

-- A server waits for the answer to its call: it leads in the term of the call, it lists member m, the pending call to m
-- is this request, and with it are kept its transfer ID and the moment at which it was made.
pub record WaitsForAnswer (m id moment : ℕ) (request : Request) (t : AllocatorState) : Type 0 where
  pub leads : t.raft_server.memory.role ≡ Leader
  pub term : request.term ≡ t.raft_server.store.term
  pub append : request.append ≡ true
  pub listed : In m (members_of t)
  pub pending : t.raft_server.memory.pending m ≡ Some request
  pub kept : t.times.sending m ≡ Some (record { id = id; moment = moment })

-- What a leader knows of the answering member when it has taken an answer of its own term, in the step with this
-- number. Until then the call that is answered was pending. If the answer says success, the member's log agrees with
-- the leader's up to the reach of the call, and its next call begins behind there (`matched_after`, `next_after`); if
-- not, the next call begins one place earlier, down to the first. The call is not pending any more: one that is was
-- made in this step.
pub record TakesAnswer (number : ℕ) (answer : Answer) (before after : AllocatorState) : Type 0 where
  pub own_term : answer.term ≡ before.raft_server.store.term
  pub waited : before.raft_server.memory.pending answer.from ≡ Some answer.request
  pub matched : after.raft_server.memory.matched answer.from ≡ matched_after before.raft_server.memory answer
  pub next : after.raft_server.memory.next answer.from ≡ next_after before.raft_server.memory answer
  pub ended : (again : Request) → after.raft_server.memory.pending answer.from ≡ Some again → again.step ≡ number

-- In this row the answer y is delivered to member n, which waits for it since less than the call timeout, and the bytes
-- of the answer say this. If the answer is of the call's term, the caller takes it; if it is of a higher one, the
-- caller leads no more.
abbrev pub AnswersAreTaken : Type 0
AnswersAreTaken = (n moment : ℕ) (y : SentTransfer) (request : Request) (says : AppendAnswer) (w : Cluster) (row : Row)
    (delivers : Delivers n y w row) → let before = delivers.server in let number = w.rows + 1 in
    let after = (step before number (receipt_of w delivers.k delivers.ms)).step_state.allocator in before.me ≡ n →
    y.offer.what ≡ App → append_answer_of y.offer.payload ≡ Some says →
    WaitsForAnswer y.by y.offer.id moment request before → max before.now delivers.ms < moment + call_timeout →
    (says.term ≡ request.term
    → TakesAnswer number (handled.answer_of y.step y.by request says.term says.success) before after)
    × (request.term < says.term → after.raft_server.memory.role ≡ Follower)
