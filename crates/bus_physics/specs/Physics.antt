-- What a physical bus does with the frames that members and allocatees hear: a frame comes after it was made, and not
-- much later, and their clocks go on with the time. That a frame is lost, comes twice or overtakes another one is not
-- excluded. What a law asks besides, as that frames come in order or that a clock does not run fast, is said apart.
use Rattle.std.specs.Prelude.{⊤, ◌≡◌, ◌≢◌, ◌⊎◌, ℕ, ◌+◌, ◌-◌, ◌*◌, ◌<◌, ◌≤◌, ◌==◌, Bool, true, false, List, [], ◌∷◌}
use Rattle.std.specs.Prelude.{◌++◌, max, min, slice_index_or, nat_eq, Option, None, Some, if◌then◌else◌}
use Rattle.can_frame.specs.declared.identifier.Ident.{Ident}
use Rattle.can_frame.specs.declared.identifier.Kind.TheVariants.{Response}
use Rattle.can_frame.specs.declared.step.What.{What}
use Rattle.can_frame.specs.declared.step.What.TheVariants.{Alloc, AppQ, Info, VoteQ}
use Rattle.can_frame.specs.Cutting.{piece_from}
use Rattle.can_frame.specs.Identifier.{identifier_number, identifier_of}
use Rattle.can_frame.specs.Timing.{election_wait, transfer_timeout}
use Rattle.raft_model.specs.Lists.{In}
use Rattle.bus_rows.specs.declared.row.Row.{Row}
use Rattle.bus_rows.specs.Timed.{Timed}
use Rattle.bus_rows.specs.declared.row.Row.TheVariants.{AOpen, ATick, ARx, Open, Rx, Send, Tick}
use Rattle.transfer_rx.specs.declared.key.Key.{Key}
use Rattle.transfer_rx.specs.Run.{is_of}
use Rattle.transfer_rx.specs.Sessions.{next_id}
use Rattle.transfer_tx.specs.Queue.{Queued}
use Rattle.allocatee.specs.Accepted as device
use Rattle.allocatee.specs.Allocatee.{Device}
use Rattle.alloc_spec.specs.Accepted.{setting_for}
use Rattle.alloc_spec.specs.Transfers.{SentTransfer, ident_of, number_of}
use Rattle.bus_spec.specs.Cluster.{Cluster, after_row, arrival_at, frame_at}
use Rattle.alloc_spec.specs.Accepted.{is_members_service}
use Rattle.bus_spec.specs.Members.{MemberStatus}
use Rattle.bus_spec.specs.Members.MemberStatus.{Down, Failed, Up}

-- when the row with this number happened; the first one has the number 1
abbrev pub time_of : List Timed → ℕ → ℕ
time_of all number = (slice_index_or all (number - 1) (record { at = 0; row = Send 0 })).at

-- In milliseconds: how long after its making a frame may come, how far a clock may go wrong within a minute, for how
-- long a member made nothing when it is opened, and how long a turn may take, from its reading of the clock to the
-- frame that it takes by that reading. Of what came, or was made, before a time nothing is asked.
pub record Limits : Type 0 where
  pub hold : ℕ
  pub drift : ℕ
  pub rest : ℕ
  pub turn : ℕ
  pub since : ℕ

-- the step with this number was no earlier than that
abbrev pub IsRecent : Limits → List Timed → ℕ → Type 0
IsRecent limits all number = limits.since ≤ time_of all number

-- how far the time from row to row of a member and that by its clock may differ: a row may stand a turn behind its
-- reading
abbrev pub lag : Limits → ℕ
lag limits = limits.drift + limits.turn

-- ---- the clock of an allocatee

-- when it took an event, the greatest moment that it had been given by then, and whether it came or was opened with it
pub record Reading : Type 0 where
  pub at : ℕ
  pub now : ℕ
  pub opens : Bool

abbrev pub now_of : Option Device → ℕ → ℕ
now_of None ms = ms
now_of (Some x) ms = max x.asking.moment ms

-- the readings of allocatee a since it came, the latest first
abbrev pub readings_after : ℕ → List Reading → Cluster → ℕ → Row → List Reading
readings_after a past w at (AOpen b uid pref ms word) =
    if a == b then record { at = at; now = ms; opens = true } ∷ [] else past
readings_after a past w at (ATick b ms word) =
    if a == b then record { at = at; now = now_of (w.allocatee b) ms; opens = false } ∷ past else past
readings_after a past w at (ARx b k ms word) =
    if a == b then record { at = at; now = now_of (w.allocatee b) ms; opens = false } ∷ past else past
readings_after a past w at row = past

-- Since each earlier reading the time went on, and the clock did, as much but for so much. Where more than a minute
-- went by, the clock went on by a minute but for that, or more. Of the clock this is asked where the reading is recent.
abbrev pub GoesOn : Limits → ℕ → List Reading → ℕ → ℕ → Type 0
GoesOn limits wrong past at now = (p : Reading) → In p past →
    (p.at ≤ at) × (limits.since ≤ at → p.now + min (at - p.at) 60000 ≤ now + wrong)

-- ---- a frame

-- a frame that a step made comes after that step, and, where it comes lately, not much later
pub record ComesInTime (limits : Limits) (all : List Timed) (at : ℕ) (frame : Queued) : Type 0 where
  pub after : 1 ≤ frame.mark.step → time_of all frame.mark.step ≤ at
  pub soon : limits.since ≤ at → 1 ≤ frame.mark.step → at ≤ time_of all frame.mark.step + limits.hold

-- ---- rows

-- what is asked where a row is of this allocatee, or of this member; of other rows nothing is
abbrev pub WhereIts : Bool → Type 0 → Type 0
WhereIts true A = A
WhereIts false A = ⊤

abbrev pub RowIsPhysical : Limits → List Timed → ℕ → List Reading → Cluster → ℕ → Row → Type 0
RowIsPhysical limits all a past w at (ARx b k ms word) =
    WhereIts (a == b)
    (GoesOn limits limits.drift past at (now_of (w.allocatee b) ms) × ComesInTime limits all at (frame_at w.frames k))
RowIsPhysical limits all a past w at row = ⊤

-- each frame that allocatee a takes comes in time, and its clock had gone on by then; of its ticks nothing is asked
abbrev pub DeviceRowsArePhysical : Limits → List Timed → ℕ → List Reading → Cluster → List Timed → Type 0
DeviceRowsArePhysical limits all a past w [] = ⊤
DeviceRowsArePhysical limits all a past w (timed ∷ rest) = RowIsPhysical limits all a past w timed.at timed.row
    × DeviceRowsArePhysical limits all a (readings_after a past w timed.at timed.row) (after_row w timed.row) rest

-- ---- the members

-- for so long after a transfer was made a receiver, whose clock may be so much wrong, may put frames of it together
-- with those of another one: they are held, and it keeps a transfer that is begun for the transfer timeout
abbrev pub joining_span : Limits → ℕ → ℕ
joining_span limits wrong = limits.hold + transfer_timeout + wrong

-- No transfer ID of vote requests comes round sooner (20 s), where none of the requests to this member behind the first
-- was answered: an election has three of them at the most, so there are ten elections.
abbrev pub vote_round : ℕ
vote_round = 10 * election_wait

-- Two holds, the drift and a turn are over before a transfer ID of vote requests comes round. Two holds and the drift
-- are over before a member that rested calls anybody, which no member does before its first wait for an election is
-- over: there a turn does not count, since an opening stands at its reading. So is the span in which a receiver may put
-- frames together, and the drift. The drift and a turn are less than that wait.
pub record HoldsAreShort (limits : Limits) : Type 0 where
  pub round : 2 * limits.hold + lag limits < vote_round
  pub rested : 2 * limits.hold + limits.drift < limits.rest + election_wait
  pub joined : joining_span limits (lag limits) + limits.drift < limits.rest + election_wait
  pub clock : lag limits < election_wait

-- What happened so long ago does not matter to a frame that comes now: it was made within a hold, as the answer to a
-- call that was made within two; and what it is put together with came within the transfer timeout before it was made.
abbrev pub window : Limits → ℕ
window limits = 2 * limits.hold + transfer_timeout + lag limits

-- so far apart, one way or the other
abbrev pub AreApart : ℕ → ℕ → ℕ → Type 0
AreApart width m n = (m + width < n) ⊎ (n + width < m)

-- ---- a member that receives

-- each frame that a member receives comes in time
abbrev pub FrameComesInTime : Limits → List Timed → Cluster → ℕ → Row → Type 0
FrameComesInTime limits all w at (Rx n k ms) = ComesInTime limits all at (frame_at w.frames k)
FrameComesInTime limits all w at row = ⊤

abbrev pub FramesComeInTime : Limits → List Timed → Cluster → List Timed → Type 0
FramesComeInTime limits all w [] = ⊤
FramesComeInTime limits all w (timed ∷ rest) =
    FrameComesInTime limits all w timed.at timed.row × FramesComeInTime limits all (after_row w timed.row) rest

abbrev pub now_in : MemberStatus → ℕ → ℕ
now_in Down ms = ms
now_in (Up server) ms = max server.now ms
now_in (Failed failure) ms = ms

-- the readings of member n since it opened, the latest first
abbrev pub member_readings : ℕ → List Reading → Cluster → ℕ → Row → List Reading
member_readings n past w at (Open m told ms word) =
    if n == m then record { at = at; now = ms; opens = true } ∷ [] else past
member_readings n past w at (Tick m ms word) =
    if n == m then record { at = at; now = now_in (w.member m).status ms; opens = false } ∷ past else past
member_readings n past w at (Rx m k ms) =
    if n == m then record { at = at; now = now_in (w.member m).status ms; opens = false } ∷ past else past
member_readings n past w at row = past

-- what is asked of a reading, by the earlier ones, its time and its moment, is so of each one of member n
abbrev pub ReadsAt : (List Reading → ℕ → ℕ → Type 0) → ℕ → List Reading → Cluster → ℕ → Row → Type 0
ReadsAt Asked n past w at (Tick m ms word) = WhereIts (n == m) (Asked past at (now_in (w.member m).status ms))
ReadsAt Asked n past w at (Rx m k ms) = WhereIts (n == m) (Asked past at (now_in (w.member m).status ms))
ReadsAt Asked n past w at row = ⊤

abbrev pub Reads : (List Reading → ℕ → ℕ → Type 0) → ℕ → List Reading → Cluster → List Timed → Type 0
Reads Asked n past w [] = ⊤
Reads Asked n past w (timed ∷ rest) = ReadsAt Asked n past w timed.at timed.row
    × Reads Asked n (member_readings n past w timed.at timed.row) (after_row w timed.row) rest

-- the clock of member n goes on
abbrev pub ClockGoesOnAt : Limits → ℕ → List Reading → Cluster → ℕ → Row → Type 0
ClockGoesOnAt limits n past w at row = ReadsAt (GoesOn limits (lag limits)) n past w at row

abbrev pub ClockGoesOn : Limits → ℕ → List Reading → Cluster → List Timed → Type 0
ClockGoesOn limits n past w rows = Reads (GoesOn limits (lag limits)) n past w rows

-- but for so much: a row of a turn may stand a turn behind the reading, an opening stands at it
abbrev pub slack : Limits → Reading → ℕ
slack limits p = if p.opens then limits.drift else lag limits

-- Since each recent reading of the last minute the clock went on by no more than the time did, but for the drift and a
-- turn.
abbrev pub IsNotFast : Limits → List Reading → ℕ → ℕ → Type 0
IsNotFast limits past at now = (p : Reading) → In p past → limits.since ≤ p.at → at ≤ p.at + 60000 →
    now ≤ p.now + (at - p.at) + slack limits p

-- the clock of member n does not run fast
abbrev pub ClockIsNotFast : Limits → ℕ → List Reading → Cluster → List Timed → Type 0
ClockIsNotFast limits n past w rows = Reads (IsNotFast limits) n past w rows

-- ---- calls and answers

-- the frames that member n received
abbrev pub heard_in : ℕ → Cluster → Row → List Queued
heard_in n w (Rx m k ms) = if n == m then frame_at w.frames k ∷ [] else []
heard_in n w row = []

abbrev pub heard_by : ℕ → Cluster → List Row → List Queued
heard_by n w [] = []
heard_by n w (row ∷ rows) = heard_in n w row ++ heard_by n (after_row w row) rows

-- the frame is a response of this service from a node to another one
pub record IsResponseOf (number source dest : ℕ) (frame : Queued) : Type 0 where
  pub ident : Ident
  pub read : identifier_of frame.id ≡ Some ident
  pub kind : ident.kind ≡ Response
  pub service : ident.number ≡ number
  pub from : ident.source ≡ source
  pub to : ident.dest ≡ dest

-- the answers of a node to member n come in the order of the calls: one that was heard answers no later call of the
-- service
abbrev pub AnswersInOrder : Limits → List Timed → ℕ → List Queued → Queued → Type 0
AnswersInOrder limits all n heard frame = IsRecent limits all frame.mark.step → IsRecent limits all frame.mark.re
    → (other : Queued) (number source : ℕ) → source ≢ n → In other heard
    → is_members_service number ≡ true → IsResponseOf number source n other → IsResponseOf number source n frame
    → other.mark.re ≤ frame.mark.re

-- a call of these was answered that the member made later than the first one, to the same node, of the same service
pub record IsAnsweredSince (made : List SentTransfer) (heard : List Queued) (first : SentTransfer) : Type 0 where
  pub later : SentTransfer
  pub was_made : In later made
  pub after : first.step < later.step
  pub answer : Queued
  pub came : In answer heard
  pub is : IsResponseOf (number_of first.offer.what) first.offer.to first.by answer
  pub answers : answer.mark.re ≡ later.step

-- Member n makes one call to a node at a time: so where a transfer ID of a service comes round, more time has passed
-- than a call and its answer may take, or a call behind the first one was answered.
abbrev pub WaitsForAnswers : Limits → List Timed → List SentTransfer → List Queued → ℕ → Type 0
WaitsForAnswers limits all made heard n = (x y : SentTransfer) → In x made → In y made → x.by ≡ n → y.by ≡ n
    → x.offer.what ≡ y.offer.what → x.offer.to ≡ y.offer.to → x.offer.id ≡ y.offer.id → x.step < y.step
    → (x.offer.what ≡ AppQ) ⊎ (x.offer.what ≡ VoteQ) → IsRecent limits all x.step
    → (time_of all x.step + 2 * limits.hold < time_of all y.step) ⊎ IsAnsweredSince made heard x

-- ---- a member that is opened

-- what happened in the row with this number
abbrev pub row_of : List Timed → ℕ → Row
row_of all number = (slice_index_or all (number - 1) (record { at = 0; row = Send 0 })).row

-- When member n is opened, the rest has passed since each transfer that it made before, of those that are recent.
abbrev pub RestsBeforeOpening : Limits → List Timed → List SentTransfer → ℕ → Type 0
RestsBeforeOpening limits all made n = (x : SentTransfer) (number : ℕ) (told : Bool) (moment word : ℕ) → In x made
    → x.by ≡ n → IsRecent limits all x.step → x.step < number → row_of all number ≡ Open n told moment word
    → time_of all x.step + limits.rest ≤ time_of all number

-- ---- frames in order

-- a frame comes to the session of this key at member n
abbrev pub HasKeyAt : ℕ → Key → Queued → Type 0
HasKeyAt n key frame = is_of (setting_for n) key (arrival_at frame 0) ≡ true

-- a recent frame comes behind no later one of its kind, number and source, by the steps that made them; it may come
-- again
abbrev pub ComesInOrder : Limits → List Timed → ℕ → List Queued → Queued → Type 0
ComesInOrder limits all n heard frame = IsRecent limits all frame.mark.step → (other : Queued) (key : Key)
    → In other heard → HasKeyAt n key other → HasKeyAt n key frame → other.mark.step ≤ frame.mark.step

abbrev pub IsInOrder : Limits → List Timed → ℕ → List Queued → Cluster → Row → Type 0
IsInOrder limits all n heard w (Rx m k ms) = WhereIts (n == m) (ComesInOrder limits all n heard (frame_at w.frames k))
IsInOrder limits all n heard w row = ⊤

-- to member n, which heard these before
abbrev pub ComeInOrder : Limits → List Timed → ℕ → List Queued → Cluster → List Row → Type 0
ComeInOrder limits all n heard w [] = ⊤
ComeInOrder limits all n heard w (row ∷ rows) = IsInOrder limits all n heard w row
    × ComeInOrder limits all n (heard ++ heard_in n w row) (after_row w row) rows

-- to each member
abbrev pub AllComeInOrder : Limits → List Timed → List ℕ → Cluster → List Row → Type 0
AllComeInOrder limits all ids w rows = (m : ℕ) → In m ids → ComeInOrder limits all m [] w rows

-- a frame was heard that was made between these two, under the same identifier: a first one, and with a transfer ID
-- that is neither theirs nor the one before
pub record IsParted (heard : List Queued) (x y : SentTransfer) : Type 0 where
  pub frame : Queued
  pub came : In frame heard
  pub ident : frame.id ≡ identifier_number (ident_of x.by x.offer.what x.offer.to)
  pub first : (piece_from frame.bytes).tail.start ≡ true
  pub other : nat_eq (piece_from frame.bytes).tail.id x.offer.id ≡ false
  pub not_before : nat_eq (next_id (piece_from frame.bytes).tail.id) x.offer.id ≡ false
  pub later : x.step < frame.mark.step
  pub sooner : frame.mark.step < y.step

-- a transfer of this kind goes to one node, and may have several frames: a request of Raft, a response of GetNodeInfo
abbrev pub is_long_to_member : What → Bool
is_long_to_member Info = true
is_long_to_member VoteQ = true
is_long_to_member AppQ = true
is_long_to_member what = false

-- a transfer of this kind may have several frames; of another kind each has one
abbrev pub may_be_long : What → Bool
may_be_long Alloc = true
may_be_long what = is_long_to_member what

-- No member uses a transfer ID again so soon for transfers of this kind to member n, unless member n heard a transfer
-- that was made between the two.
abbrev pub UsesIdsApart : Limits → List Timed → List SentTransfer → List Queued → ℕ → What → Type 0
UsesIdsApart limits all made heard n what = (x y : SentTransfer) → In x made → In y made → x.by ≡ y.by
    → x.offer.what ≡ what → y.offer.what ≡ what → x.offer.to ≡ n → y.offer.to ≡ n → x.offer.id ≡ y.offer.id
    → x.step < y.step → IsRecent limits all x.step → IsRecent limits all y.step
    → AreApart (joining_span limits (lag limits)) (time_of all x.step) (time_of all y.step) ⊎ IsParted heard x y

-- ---- Allocations

-- a frame comes to the session of this key at an allocatee
abbrev pub HasKey : Key → Queued → Type 0
HasKey key frame = is_of device.setting key (arrival_at frame 0) ≡ true

-- the frames that allocatee a received
abbrev pub device_heard_in : ℕ → Cluster → Row → List Queued
device_heard_in a w (ARx b k ms word) = if a == b then frame_at w.frames k ∷ [] else []
device_heard_in a w row = []

abbrev pub device_heard_by : ℕ → Cluster → List Row → List Queued
device_heard_by a w [] = []
device_heard_by a w (row ∷ rows) = device_heard_in a w row ++ device_heard_by a (after_row w row) rows

abbrev pub ComesInOrderToDevice : Limits → List Timed → List Queued → Queued → Type 0
ComesInOrderToDevice limits all heard frame = IsRecent limits all frame.mark.step → (other : Queued) (key : Key)
    → In other heard → HasKey key other → HasKey key frame → other.mark.step ≤ frame.mark.step

abbrev pub IsInOrderToDevice : Limits → List Timed → ℕ → List Queued → Cluster → Row → Type 0
IsInOrderToDevice limits all a heard w (ARx b k ms word) =
    WhereIts (a == b) (ComesInOrderToDevice limits all heard (frame_at w.frames k))
IsInOrderToDevice limits all a heard w row = ⊤

-- to allocatee a, which heard these before
abbrev pub ComeInOrderToDevice : Limits → List Timed → ℕ → List Queued → Cluster → List Row → Type 0
ComeInOrderToDevice limits all a heard w [] = ⊤
ComeInOrderToDevice limits all a heard w (row ∷ rows) = IsInOrderToDevice limits all a heard w row
    × ComeInOrderToDevice limits all a (heard ++ device_heard_in a w row) (after_row w row) rows

-- a frame of this transfer came
pub record HasComeOf (heard : List Queued) (x : SentTransfer) : Type 0 where
  pub frame : Queued
  pub came : In frame heard
  pub ident : frame.id ≡ identifier_number (ident_of x.by x.offer.what x.offer.to)
  pub step : frame.mark.step ≡ x.step
  pub id : (piece_from frame.bytes).tail.id ≡ x.offer.id

-- Where frames of two Allocations of a member come to an allocatee, it used no transfer ID for both within the longest
-- hold and two seconds, also where it was started again in between; or frames come in order, and the allocatee heard an
-- Allocation that the member made between the two. Of Allocations that do not come nothing is asked.
abbrev pub AllocatesApart : Limits → List Timed → List SentTransfer → List Queued → Queued → Type 0 → Type 0
AllocatesApart limits all made heard coming Ordered = (x y : SentTransfer) → In x made → In y made
    → x.offer.what ≡ Alloc → y.offer.what ≡ Alloc → x.by ≡ y.by → x.offer.id ≡ y.offer.id → x.step < y.step
    → IsRecent limits all x.step → IsRecent limits all y.step
    → HasComeOf (heard ++ coming ∷ []) x → HasComeOf (heard ++ coming ∷ []) y
    → AreApart (joining_span limits limits.drift) (time_of all x.step) (time_of all y.step)
    ⊎ (Ordered × IsParted heard x y)
