-- What it is that a transfer comes whole, and in time.
use Rattle.std.specs.Prelude.{⊤, ◌≡◌, ◌≢◌, ℕ, ◌+◌, ◌-◌, ◌*◌, ◌<◌, ◌≤◌, if◌then◌else◌, max, true, List, [], ◌∷◌, ◌++◌, length, Some}
use Rattle.can_frame.specs.declared.identifier.Kind.TheVariants.{Response}
use Rattle.can_frame.specs.declared.step.What.{What}
use Rattle.can_frame.specs.declared.step.What.TheVariants.{Alloc}
use Rattle.can_frame.specs.Cutting.{frame_count}
use Rattle.can_frame.specs.Identifier.{identifier_number}
use Rattle.can_frame.specs.Kinds.{is_service}
use Rattle.can_frame.specs.Sizes.{blocks, sessions}
use Rattle.can_frame.specs.Timing.{transfer_timeout}
use Rattle.raft_model.specs.Lists.{In}
use Rattle.bus_rows.specs.declared.row.Row.{Row}
use Rattle.bus_rows.specs.declared.row.Row.TheVariants.{Rx}
use Rattle.transfer_rx.specs.Keys.{key_of}
use Rattle.transfer_rx.specs.Outcome.{blocks_used}
use Rattle.transfer_rx.specs.Reassembly.{Delivery, Gives, answer}
use Rattle.transfer_tx.specs.Run.{of_identifier}
use Rattle.alloc_spec.specs.Accepted.{setting_for}
use Rattle.alloc_spec.specs.AllocatorState.{AllocatorState}
use Rattle.alloc_spec.specs.Step.{Event, step}
use Rattle.alloc_spec.specs.Transfers.{Offer, SentTransfer, id_of, ident_of, kind_of}
use Rattle.bus_rows.specs.Timed.{Timed, rows_in}
use Rattle.service_alone.specs.Calm.{Pace, end_of}
use Rattle.service_calm.specs.Calm.{AreCalm, AreRunning, Member, Party, no_traffic}
use Rattle.service_calm.specs.Sessions.{AllAdmit}
use Rattle.bus_spec.specs.Cluster.{Cluster, after_row, after_rows, arrival_at, frame_at, step_of, world_of}
use Rattle.bus_spec.specs.Members.MemberStatus.{Up}

-- ---- a transfer that is sent

-- in this row member n offers a transfer, and its queue has room for it
pub record Sends (n : ℕ) (w : Cluster) (row : Row) (offer : Offer) : Type 0 where
  pub server : AllocatorState
  pub runs : (w.member n).status ≡ Up server
  pub event : Event
  pub in_step : step_of w row ≡ Some (n, event)
  pub offered : In offer (step server (w.rows + 1) event).step_state.offers
  pub fitted : offer.fitted ≡ true

-- the transfer that member n sends by an offer in the next row
abbrev pub sent_by : ℕ → Cluster → Offer → SentTransfer
sent_by n w offer = record { step = w.rows + 1; by = n; offer = offer }

-- Member m hears transfers of this sort that go to this node: messages, which go to 0, and requests and responses to
-- itself. Allocations are for devices.
abbrev pub IsHeard : (m : ℕ) → What → (to : ℕ) → Type 0
IsHeard m what to = (what ≢ Alloc) × (to ≡ (if is_service (kind_of what) then m else 0))

-- ---- a transfer that comes whole

-- what is delivered of a transfer whose frames all came
abbrev pub delivery_of : SentTransfer → Delivery
delivery_of x = record {
  ident = ident_of x.by x.offer.what x.offer.to;
  id = x.offer.id;
  payload = x.offer.payload;
  mark = record { step = x.step; re = x.offer.re; place = frame_count (length x.offer.payload) - 1 };
  whole = true;
}

-- in this row a frame comes to member m, whose receiver delivers this transfer
pub record Delivers (m : ℕ) (x : SentTransfer) (w : Cluster) (row : Row) : Type 0 where
  pub k : ℕ
  pub ms : ℕ
  pub comes : row ≡ Rx m k ms
  pub server : AllocatorState
  pub runs : (w.member m).status ≡ Up server
  pub gives : answer (setting_for m) server.sessions (arrival_at (frame_at w.frames k) (max server.now ms))
      ≡ Gives (delivery_of x)

-- member m delivers this transfer in one of these rows, by this moment
pub record ComesBy (m : ℕ) (x : SentTransfer) (last : ℕ) (w : Cluster) (whole : List Timed) : Type 0 where
  pub front : List Timed
  pub timed : Timed
  pub rest : List Timed
  pub split : whole ≡ front ++ timed ∷ rest
  pub soon : timed.at ≤ last
  pub delivers : Delivers m x (after_rows w (rows_in front)) timed.row

-- ---- where each transfer does

-- the two run when the calm begins, and no frame of an earlier transfer of this sort, from n to this node, waits
pub record AreReady (n m : ℕ) (what : What) (to : ℕ) (w : Cluster) : Type 0 where
  pub sender : AllocatorState
  pub sends : (w.member n).status ≡ Up sender
  pub none_waits : of_identifier (identifier_number (ident_of n what to)) sender.queue ≡ []
  pub receiver : AllocatorState
  pub receives : (w.member m).status ≡ Up receiver

-- a transfer of this sort with this ID may begin, at this receiver, in the session of its key, where there is one that
-- is not forgotten
abbrev pub MayComeFirst : (n : ℕ) → What → (to : ℕ) → AllocatorState → (id : ℕ) → Type 0
MayComeFirst n what to receiver id = AllAdmit receiver.now (key_of (ident_of n what to)) id receiver.sessions

-- Of the transfers of this sort that member n sends in these rows this holds of the ID of the first, and each other one
-- has another ID than the one before it.
abbrev pub NoneRepeats : (n : ℕ) → What → (to : ℕ) → (ℕ → Type 0) → Cluster → List Timed → Type 0
NoneRepeats n what to Holds w [] = ⊤
NoneRepeats n what to Holds w (timed ∷ rest) =
    ((offer : Offer) → Sends n w timed.row offer → offer.what ≡ what → offer.to ≡ to →
    Holds offer.id × NoneRepeats n what to (λ id. offer.id ≢ id) (after_row w timed.row) rest)
    × (((offer : Offer) → Sends n w timed.row offer → offer.what ≡ what → offer.to ≡ to → ⊥) →
    NoneRepeats n what to Holds (after_row w timed.row) rest)

-- so many blocks hold the longest transfer that an allocator can send: one of as many frames as its queue has places
abbrev pub blocks_of_longest : ℕ
blocks_of_longest = 9

-- the receiver of member m has a session left, and blocks for the longest transfer
abbrev pub HasMemory : ℕ → Cluster → Type 0
HasMemory m w = (server : AllocatorState) → (w.member m).status ≡ Up server →
    (length server.sessions < sessions) × (blocks_used server.sessions + blocks_of_longest ≤ blocks)

-- this holds of the world before each of these rows
abbrev pub Throughout : (Cluster → Type 0) → Cluster → List Timed → Type 0
Throughout Holds w [] = ⊤
Throughout Holds w (timed ∷ rest) = Holds w × Throughout Holds (after_row w timed.row) rest

-- In each calm from the world of these rows on, in which twice the delay is no longer than a transfer is remembered:
-- each transfer of some sorts that a member of the group sends comes whole to each other member that hears it, within
-- two delays, or the calm is over by then. This is asked of its sort, and of all rows, when the calm begins.
abbrev pub ComesWholeWhere : List ℕ → List Row → (What → Type 0)
    → ((n m : ℕ) (what : What) (to : ℕ) (w : Cluster) (whole : List Timed) → AreReady n m what to w → Type 0) → Type 0
ComesWholeWhere ids rows IsOfKind Asked = (group : List Party) (clocks : Party → ℕ) (pace : Pace) (start n m : ℕ)
    (front rest : List Timed) (timed : Timed) (offer : Offer) → let w = world_of ids rows in
    let whole = front ++ timed ∷ rest in ((p : ℕ) → In (Member p) group → In p ids) → AreRunning group w →
    In (Member n) group → In (Member m) group → n ≢ m → 2 * pace.delay ≤ transfer_timeout →
    IsOfKind offer.what → IsHeard m offer.what offer.to → (ready : AreReady n m offer.what offer.to w) →
    Asked n m offer.what offer.to w whole ready → AreCalm group clocks pace (no_traffic start) w whole →
    Throughout (HasMemory m) w whole → Sends n (after_rows w (rows_in front)) timed.row offer →
    timed.at + 2 * pace.delay < end_of timed.at rest → let x = sent_by n (after_rows w (rows_in front)) offer in
    ComesBy m x (timed.at + 2 * pace.delay) (after_rows w (rows_in front)) (timed ∷ rest)

-- Each message and each request comes whole where the first of its sort may come: it has the next ID of the sender's
-- counter.
abbrev pub EachComesWhole : List ℕ → List Row → Type 0
EachComesWhole ids rows = ComesWholeWhere ids rows (λ what. kind_of what ≢ Response)
    (λ n m what to w whole ready. MayComeFirst n what to ready.receiver (id_of ready.sender.ids what to))

-- Each response, which has the ID of its request, comes whole where the first of its sort may come, and each other one
-- has another ID than the one before it.
abbrev pub EachResponseComesWhole : List ℕ → List Row → Type 0
EachResponseComesWhole ids rows = ComesWholeWhere ids rows (λ what. kind_of what ≡ Response)
    (λ n m what to w whole ready. NoneRepeats n what to (MayComeFirst n what to ready.receiver) w whole)
