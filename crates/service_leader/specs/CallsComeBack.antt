-- What it is that a leader's call comes back: the member that it calls answers, and the leader takes the answer, in
-- time.
use Rattle.std.specs.Prelude.{⊤, ◌≡◌, ◌≢◌, ◌⊎◌, ℕ, ◌+◌, ◌*◌, ◌<◌, ◌≤◌, List, [], ◌∷◌, ◌++◌, length}
use Rattle.can_frame.specs.declared.step.What.TheVariants.{App, AppQ}
use Rattle.can_frame.specs.Timing.{call_timeout}
use Rattle.dsdl_codec.specs.declared.append_request.AppendRequest.{AppendRequest}
use Rattle.raft_model.specs.Lists.{In}
use Rattle.raft_model.specs.Messages.{Answer}
use Rattle.raft_model.specs.Server.Role.{Leader}
use Rattle.bus_rows.specs.declared.row.Row.{Row}
use Rattle.alloc_spec.specs.AllocatorState.{AllocatorState}
use Rattle.alloc_spec.specs.Step.{step}
use Rattle.alloc_spec.specs.Transfers.{Offer, SentTransfer, id_of, queue_places}
use Rattle.bus_rows.specs.Timed.{Timed, rows_in}
use Rattle.service_alone.specs.Calm.{Pace, end_of}
use Rattle.service_leader.specs.Answers.{AnswersCall, TakesAnswer, answer_by, asked_by}
use Rattle.service_calm.specs.Calls.{Calls, Lists}
use Rattle.service_calm.specs.Calm.{AreCalm, AreRunning, Member, Party, no_traffic}
use Rattle.service_calm.specs.Comes.{AreReady, Delivers, HasMemory, MayComeFirst, Throughout, sent_by}
use Rattle.bus_spec.specs.Cluster.{Cluster, after_row, after_rows, receipt_of, world_of}
use Rattle.bus_spec.specs.Lawful.{DoNoHarm}
use Rattle.bus_spec.specs.Members.MemberStatus.{Up}

-- member n leads in this term, if it runs
abbrev pub LeadsIfUp : (n term : ℕ) → Cluster → Type 0
LeadsIfUp n term w = (server : AllocatorState) → (w.member n).status ≡ Up server →
    (server.raft_server.memory.role ≡ Leader) × (server.raft_server.store.term ≡ term)

-- member n does not lead, if it runs
abbrev pub LeadsNotIfUp : ℕ → Cluster → Type 0
LeadsNotIfUp n w = (server : AllocatorState) → (w.member n).status ≡ Up server →
    server.raft_server.memory.role ≢ Leader

-- In the worlds before these rows member n may not lead at first. Once it leads, it leads in all of them, in this term.
abbrev pub LeadsOn : (n term : ℕ) → Cluster → List Timed → Type 0
LeadsOn n term w [] = ⊤
LeadsOn n term w (timed ∷ rest) = (LeadsNotIfUp n w × LeadsOn n term (after_row w timed.row) rest)
    ⊎ Throughout (LeadsIfUp n term) w (timed ∷ rest)

-- the queue of member m has a place left, if it runs: an answer to a call is one frame
abbrev pub HasPlace : ℕ → Cluster → Type 0
HasPlace m w = (server : AllocatorState) → (w.member m).status ≡ Up server → length server.queue < queue_places

-- In one of these rows, by this moment, the transfer y is delivered to member n, which takes it as this answer to its
-- call.
pub record IsTakenBy (n : ℕ) (y : SentTransfer) (answer : Answer) (last : ℕ) (w : Cluster)
    (whole : List Timed) : Type 0 where
  pub front : List Timed
  pub timed : Timed
  pub rest : List Timed
  pub split : whole ≡ front ++ timed ∷ rest
  pub soon : timed.at ≤ last
  pub delivers : Delivers n y (after_rows w (rows_in front)) timed.row
  pub takes : let there = after_rows w (rows_in front) in
      TakesAnswer (there.rows + 1) answer delivers.server
      (step delivers.server (there.rows + 1) (receipt_of there delivers.k delivers.ms)).step_state.allocator

-- The call x, which member n made at this moment, is delivered to member m in one of these rows, within two delays.
-- Member m answers in that row, and in a later one, within four delays, member n takes the answer.
pub record ComesBack (n m : ℕ) (x : SentTransfer) (request : AppendRequest) (at delay : ℕ) (w : Cluster)
    (whole : List Timed) : Type 0 where
  pub front : List Timed
  pub timed : Timed
  pub rest : List Timed
  pub split : whole ≡ front ++ timed ∷ rest
  pub soon : timed.at ≤ at + 2 * delay
  pub delivers : Delivers m x (after_rows w (rows_in front)) timed.row
  pub answers : AnswersCall m x request (after_rows w (rows_in front)) timed.row delivers
  pub taken : let there = after_rows w (rows_in front) in
      IsTakenBy n (sent_by m there answers.offer)
      (answer_by (there.rows + 1) delivers.server (asked_by x request m)) (at + 4 * delay)
      (after_row there timed.row) rest

-- In these rows, which begin in the world w, each call of member n to member m comes back within four delays, or the
-- rows are over by then.
abbrev pub CallsReturn : (n m delay : ℕ) → Cluster → List Timed → Type 0
CallsReturn n m delay w whole = (front rest : List Timed) (timed : Timed) (offer : Offer) (request : AppendRequest) →
    whole ≡ front ++ timed ∷ rest → let there = after_rows w (rows_in front) in
    Calls n m there timed.row offer request → timed.at + 4 * delay < end_of timed.at rest →
    ComesBack n m (sent_by n there offer) request timed.at delay there (timed ∷ rest)

-- In each calm from the world of these rows on, of rows that do no harm, in which four delays are shorter than the call
-- timeout: where a member of the group, once it leads in the calm, leads on in one term, and calls another member, the
-- call comes back, or the calm is over by then. The two list each other; no call from the one to the other waits when
-- the calm begins, and no answer from the other to the one; the first call has a transfer ID under which it may begin
-- at the other, and its answer may begin at the one. Both have memory for what they receive, and the queue of the other
-- always has a place for an answer. Which IDs the answers have behind the first is no premise.
abbrev pub CallsComeBack : List ℕ → List Row → Type 0
CallsComeBack ids rows = (group : List Party) (clocks : Party → ℕ) (pace : Pace) (start n m term : ℕ)
    (front rest : List Timed) (timed : Timed) (offer : Offer) (request : AppendRequest) → let w = world_of ids rows in
    let there = after_rows w (rows_in front) in let whole = front ++ timed ∷ rest in
    ((p : ℕ) → In (Member p) group → In p ids) → AreRunning group w → In (Member n) group → In (Member m) group →
    n ≢ m →
    4 * pace.delay < call_timeout → Lists n m w → Lists m n w →
    (calls : AreReady n m AppQ m w) → MayComeFirst n AppQ m calls.receiver (id_of calls.sender.ids AppQ m) →
    (answers : AreReady m n App n w) → MayComeFirst m App n answers.receiver (id_of calls.sender.ids AppQ m) →
    AreCalm group clocks pace (no_traffic start) w whole → DoNoHarm w (rows_in whole) →
    Throughout (HasMemory n) w whole → Throughout (HasMemory m) w whole → Throughout (HasPlace m) w whole →
    LeadsOn n term w whole → Calls n m there timed.row offer request →
    timed.at + 4 * pace.delay < end_of timed.at rest →
    ComesBack n m (sent_by n there offer) request timed.at pace.delay there (timed ∷ rest)
