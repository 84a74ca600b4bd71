-- What the tests of `CalmTests` mean of one row: it is in time and calm, and what is offered in it has room.
use Rattle.std.proofs.Common.{◌≡◌, ◌≢◌, ◌⊎◌, ℕ, ◌+◌, ◌<◌, ◌≤◌, Bool, true, false, List, [], ◌∷◌, length, refl, sym, ◌∙◌, ap, subst, inl, inr, Option, None, Some}
use Rattle.std.specs.Prelude.{◌==◌, ◌&&◌, ◌||◌, is_some, not, nat_le, nat_lt}
use Rattle.can_frame.specs.declared.step.What.{What}
use Rattle.can_frame.specs.declared.step.What.TheVariants.{Alloc}
use Rattle.can_frame.specs.Cutting.{frame_count}
use Rattle.can_frame.specs.Sizes.{blocks, sessions}
use Rattle.raft_model.specs.Lists.{In}
use Rattle.bus_rows.specs.declared.row.Row.{Row}
use Rattle.bus_rows.specs.declared.row.Row.TheVariants.{AEnd, AOpen, ARx, ASend, ATick, Crash, Ext, Fault, Open, Rx, Send, Tick}
use Rattle.transfer_rx.specs.Outcome.{blocks_used}
use Rattle.alloc_spec.specs.AllocatorState.{AllocatorState}
use Rattle.alloc_spec.specs.Step.{Event, step}
use Rattle.alloc_spec.specs.Transfers.{Offer}
use Rattle.alloc_spec_laws.proofs.Choices.{and_left, and_right, eq_true, le_true, lt_true}
use Rattle.alloc_spec_laws.specs.Phases.{has_room_to_tell, when_committed}
use Rattle.allocatee.specs.Accepted.{setting}
use Rattle.allocatee.specs.Allocatee.{Device as AskingDevice}
use Rattle.service_alone.specs.Calm.{IsNext, NoneIsLate, OnItsWay, Pace}
use Rattle.service_calm.specs.Calm.{Device, IsCalmRow, IsInTime, Member, Party, Traffic, queue_in}
use Rattle.service_calm.specs.CalmExample.{clocks}
use Rattle.service_calm.specs.Comes.{blocks_of_longest}
use Rattle.service_calm.specs.Devices.{blocks_of_allocation, frames_of_allocation}
use Rattle.service_device.proofs.CalmTests.{all_in_time, all_up, calm_row, device_test, event_test, has_memory, is_alloc, is_in, is_next, is_nil, is_none, is_party, is_short, none_late, offers_test, party_in_time, step_test, up_at}
use Rattle.bus_spec.specs.Allocatees.{next_from}
use Rattle.bus_spec.specs.Cluster.{Cluster, step_of}
use Rattle.bus_spec.specs.Members.{MemberStatus, next_frame}
use Rattle.bus_spec.specs.Members.MemberStatus.{Down, Failed, Up}

-- ---- members, lists and choices

-- the member runs, with a server that passes
pub record IsFound (test : AllocatorState → Bool) (status : MemberStatus) : Type 0 where
  pub server : AllocatorState
  pub runs : status ≡ Up server
  pub passes : test server ≡ true

-- a member that passes runs, and its server passes
pub found : (test : AllocatorState → Bool) (status : MemberStatus) → up_at test status ≡ true → IsFound test status
found test Down e = absurd (cc e)
found test (Up server) e = record { server = server; runs = refl; passes = e }
found test (Failed failure) e = absurd (cc e)

-- so whatever server it has passes
pub every : (test : AllocatorState → Bool) (status : MemberStatus) → up_at test status ≡ true → (server : AllocatorState) → status ≡ Up server
    → test server ≡ true
every test status e server up = sym (ap (up_at test) up) ∙ e

-- the tests of lists, of what may be there, and of choices
pub nil_is : {A : Type 0} (xs : List A) → is_nil xs ≡ true → xs ≡ []
nil_is [] e = refl
nil_is (x ∷ xs) e = absurd (cc e)

pub none_is : {A : Type 0} (o : Option A) → is_none o ≡ true → o ≡ None
none_is None e = refl
none_is (Some x) e = absurd (cc e)

pub or_true : (a b : Bool) → (a || b) ≡ true → (a ≡ true) ⊎ (b ≡ true)
or_true true b e = inl refl
or_true false b e = inr e

-- four tests pass
pub record Four (a b c d : Bool) : Type 0 where
  pub first : a ≡ true
  pub second : b ≡ true
  pub third : c ≡ true
  pub fourth : d ≡ true

-- four tests in two pairs
pub four : (a b c d : Bool) → ((a && b) && (c && d)) ≡ true → Four a b c d
four a b c d e = record {
  first = and_left a b (and_left (a && b) (c && d) e);
  second = and_right a b (and_left (a && b) (c && d) e);
  third = and_left c d (and_right (a && b) (c && d) e);
  fourth = and_right c d (and_right (a && b) (c && d) e);
}

-- ---- the group

-- the number of a party
abbrev pub number_in : Party → ℕ
number_in (Member n) = n
number_in (Device a) = a

-- the two are one party
same_party : (one other : Party) → is_party one other ≡ true → one ≡ other
same_party (Member n) (Member m) e = ap (λ (k : ℕ). Member k) (eq_true n m e)
same_party (Device a) (Device b) e = ap (λ (k : ℕ). Device k) (eq_true a b e)
same_party (Member n) (Device a) e = absurd (cc e)
same_party (Device a) (Member n) e = absurd (cc e)

-- the party is of the group
pub in_is : (group : List Party) (party : Party) → is_in group party ≡ true → In party group
in_is [] party e = absurd (cc e)
in_is (first ∷ group) party e = elim (or_true (is_party party first) (is_in group party) e) [
  | inl z ↦ inl (same_party party first z)
  | inr z ↦ inr (in_is group party z)
]

-- each member of the group passes
pub all_up_is : (test : AllocatorState → Bool) (w : Cluster) (group : List Party) → all_up test w group ≡ true → (n : ℕ) → In (Member n) group
    → up_at test (w.member n).status ≡ true
all_up_is test w [] e n i = absurd i
all_up_is test w (Member m ∷ group) e n (inl same) =
    subst (λ (k : ℕ). up_at test (w.member k).status ≡ true) (sym (ap number_in same)) (and_left (up_at test (w.member m).status) (all_up test w group) e)
all_up_is test w (Member m ∷ group) e n (inr i) = all_up_is test w group (and_right (up_at test (w.member m).status) (all_up test w group) e) n i
all_up_is test w (Device a ∷ group) e n (inl same) = absurd (cc same)
all_up_is test w (Device a ∷ group) e n (inr i) = all_up_is test w group e n i

-- ---- the row is in time

-- no frame is late
none_late_is : (at delay : ℕ) (frames : List OnItsWay) → none_late at delay frames ≡ true → NoneIsLate at delay frames
none_late_is at delay [] e = tt
none_late_is at delay (first ∷ frames) e = (
  le_true at (first.since + delay) (and_left (nat_le at (first.since + delay)) (none_late at delay frames) e),
  none_late_is at delay frames (and_right (nat_le at (first.since + delay)) (none_late at delay frames) e),
)

-- what `IsInTime` asks of each party
record PartyInTime (pace : Pace) (traffic : Traffic) (w : Cluster) (at : ℕ) (party : Party) : Type 0 where
  ticks : at ≤ traffic.ticked party + pace.period
  sends_soon : queue_in w party ≢ [] → at ≤ traffic.waits party + pace.delay
  hears : NoneIsLate at pace.delay (traffic.to party)

-- a party that passes is in time
party_is : (pace : Pace) (traffic : Traffic) (w : Cluster) (at : ℕ) (party : Party) → party_in_time pace traffic w at party ≡ true
    → PartyInTime pace traffic w at party
party_is pace traffic w at party e =
    let soon = is_nil (queue_in w party) || nat_le at (traffic.waits party + pace.delay) in
    let heard = none_late at pace.delay (traffic.to party) in
    let both : (soon && heard) ≡ true = and_right (nat_le at (traffic.ticked party + pace.period)) (soon && heard) e in
    let waits = or_true (is_nil (queue_in w party)) (nat_le at (traffic.waits party + pace.delay)) (and_left soon heard both) in record {
      ticks = le_true at (traffic.ticked party + pace.period) (and_left (nat_le at (traffic.ticked party + pace.period)) (soon && heard) e);
      sends_soon = λ some. elim waits [
        | inl z ↦ absurd (some (nil_is (queue_in w party) z))
        | inr z ↦ le_true at (traffic.waits party + pace.delay) z
      ];
      hears = none_late_is at pace.delay (traffic.to party) (and_right soon heard both);
    }

-- so is each party of the group
each_in_time : (pace : Pace) (traffic : Traffic) (w : Cluster) (at : ℕ) (group : List Party) → all_in_time pace traffic w at group ≡ true
    → (party : Party) → In party group → PartyInTime pace traffic w at party
each_in_time pace traffic w at [] e party i = absurd i
each_in_time pace traffic w at (first ∷ group) e party (inl same) = subst (PartyInTime pace traffic w at) (sym same)
    (party_is pace traffic w at first (and_left (party_in_time pace traffic w at first) (all_in_time pace traffic w at group) e))
each_in_time pace traffic w at (first ∷ group) e party (inr i) =
    each_in_time pace traffic w at group (and_right (party_in_time pace traffic w at first) (all_in_time pace traffic w at group) e) party i

-- the moment is one by which no time is exceeded
pub timely_is : (group : List Party) (pace : Pace) (traffic : Traffic) (w : Cluster) (at : ℕ)
    → (nat_le traffic.at at && all_in_time pace traffic w at group) ≡ true → IsInTime group clocks pace traffic w at
timely_is group pace traffic w at e =
    let each = each_in_time pace traffic w at group (and_right (nat_le traffic.at at) (all_in_time pace traffic w at group) e) in record {
      moments = le_true traffic.at at (and_left (nat_le traffic.at at) (all_in_time pace traffic w at group) e);
      ticks = λ party i. (each party i).ticks;
      sends_soon = λ party i. (each party i).sends_soon;
      hears = λ party i. (each party i).hears;
    }

-- ---- the row is calm

-- the frame comes next
next_is : (k : ℕ) (frames : List OnItsWay) → is_next k frames ≡ true → IsNext k frames
next_is k [] e = absurd (cc e)
next_is k (first ∷ frames) e = eq_true k first.number e

-- a party reads its clock
clock_is : (group : List Party) (at ms : ℕ) (party : Party) → (is_in group party && (ms == at + clocks party)) ≡ true
    → In party group × (ms ≡ at + clocks party)
clock_is group at ms party e =
    let i = is_in group party in
    let same = ms == at + clocks party in (in_is group party (and_left i same e), eq_true ms (at + clocks party) (and_right i same e))

-- a party receives the frame that comes next
receipt_is : (group : List Party) (at ms k : ℕ) (party : Party) (frames : List OnItsWay)
    → (is_in group party && ((ms == at + clocks party) && is_next k frames)) ≡ true → In party group × (ms ≡ at + clocks party) × IsNext k frames
receipt_is group at ms k party frames e =
    let i = is_in group party in
    let same = ms == at + clocks party in
    let next = is_next k frames in
    let both : (same && next) ≡ true = and_right i (same && next) e in (
      in_is group party (and_left i (same && next) e),
      eq_true ms (at + clocks party) (and_left same next both),
      next_is k frames (and_right same next both),
    )

-- the row is calm
pub calm_row_is : (group : List Party) (pace : Pace) (traffic : Traffic) (w : Cluster) (at : ℕ) (row : Row)
    → calm_row group traffic w at row ≡ true → IsCalmRow group clocks pace traffic w at row
calm_row_is group pace traffic w at (Tick n ms word) e = clock_is group at ms (Member n) e
calm_row_is group pace traffic w at (Rx n k ms) e = receipt_is group at ms k (Member n) (traffic.to (Member n)) e
calm_row_is group pace traffic w at (Send n) e =
    let i = is_in group (Member n) in
    let some = is_some (next_frame (w.member n).status) in (in_is group (Member n) (and_left i some e), and_right i some e)
calm_row_is group pace traffic w at (ATick a ms word) e = clock_is group at ms (Device a) e
calm_row_is group pace traffic w at (ARx a k ms word) e = receipt_is group at ms k (Device a) (traffic.to (Device a)) e
calm_row_is group pace traffic w at (ASend a) e =
    let i = is_in group (Device a) in
    let some = is_some (next_from (w.allocatee a)) in (in_is group (Device a) (and_left i some e), and_right i some e)
calm_row_is group pace traffic w at (Open n told ms word) e = cc e
calm_row_is group pace traffic w at (Ext frame) e = cc e
calm_row_is group pace traffic w at (Crash n calls pattern) e = cc e
calm_row_is group pace traffic w at (Fault n call) e = cc e
calm_row_is group pace traffic w at (AOpen a uid pref ms word) e = cc e
calm_row_is group pace traffic w at (AEnd a) e = cc e

-- ---- memory

-- memory is left at a member, and at a device
pub memory_is : (s : AllocatorState) → has_memory s ≡ true → (length s.sessions < sessions) × (blocks_used s.sessions + blocks_of_longest ≤ blocks)
memory_is s e =
    let few = nat_lt (length s.sessions) sessions in
    let small = nat_le (blocks_used s.sessions + blocks_of_longest) blocks in (
      lt_true (length s.sessions) sessions (and_left few small e),
      le_true (blocks_used s.sessions + blocks_of_longest) blocks (and_right few small e),
    )

pub device_is : (o : Option AskingDevice) → device_test o ≡ true → (d : AskingDevice) → o ≡ Some d
    → (length d.sessions < setting.sessions) × (blocks_used d.sessions + blocks_of_allocation ≤ setting.blocks)
device_is o e d there =
    let few = nat_lt (length d.sessions) setting.sessions in
    let small = nat_le (blocks_used d.sessions + blocks_of_allocation) setting.blocks in
    let both : (few && small) ≡ true = sym (ap device_test there) ∙ e in (
      lt_true (length d.sessions) setting.sessions (and_left few small both),
      le_true (blocks_used d.sessions + blocks_of_allocation) setting.blocks (and_right few small both),
    )

-- ---- what is offered

-- in each step of a member the test passes
abbrev pub PassesInStep : Cluster → Row → Type 0
PassesInStep w row = (n : ℕ) (server : AllocatorState) (event : Event) → (w.member n).status ≡ Up server → step_of w row ≡ Some (n, event)
    → step_test server (w.rows + 1) event ≡ true

-- so it is where the row passes
pub passes_in_step : (w : Cluster) (row : Row) → event_test w (step_of w row) ≡ true → PassesInStep w row
passes_in_step w row e n server event up is =
    let passes : up_at (λ s. step_test s (w.rows + 1) event) (w.member n).status ≡ true = sym (ap (event_test w) is) ∙ e in
    every (λ s. step_test s (w.rows + 1) event) (w.member n).status passes server up

-- each offer of a list that passes has room, and is no long Allocation
offer_is : (offers : List Offer) → offers_test offers ≡ true → (offer : Offer) → In offer offers → (offer.fitted && is_short offer) ≡ true
offer_is [] e offer i = absurd i
offer_is (first ∷ offers) e offer (inl same) =
    ap (λ (o : Offer). o.fitted && is_short o) same ∙ and_left (first.fitted && is_short first) (offers_test offers) e
offer_is (first ∷ offers) e offer (inr i) = offer_is offers (and_right (first.fitted && is_short first) (offers_test offers) e) offer i

-- so it is with what a member offers in this row
pub offered_is : (w : Cluster) (row : Row) → PassesInStep w row → (n : ℕ) (server : AllocatorState) (event : Event) → (w.member n).status ≡ Up server
    → step_of w row ≡ Some (n, event) → (offer : Offer) → In offer (step server (w.rows + 1) event).step_state.offers
    → (offer.fitted ≡ true) × (is_short offer ≡ true)
offered_is w row passes n server event up is offer i =
    let offers = (step server (w.rows + 1) event).step_state.offers in
    let room = has_room_to_tell (when_committed server (w.rows + 1) event).allocator in
    let both = offer_is offers (and_left (offers_test offers) room (passes n server event up is)) offer i in
    (and_left offer.fitted (is_short offer) both, and_right offer.fitted (is_short offer) both)

-- there is room for the next pair
pub room_is : (w : Cluster) (row : Row) → PassesInStep w row → (n : ℕ) (server : AllocatorState) (event : Event) → (w.member n).status ≡ Up server
    → step_of w row ≡ Some (n, event) → has_room_to_tell (when_committed server (w.rows + 1) event).allocator ≡ true
room_is w row passes n server event up is = and_right (offers_test (step server (w.rows + 1) event).step_state.offers)
    (has_room_to_tell (when_committed server (w.rows + 1) event).allocator) (passes n server event up is)

-- an Allocation that is short has so few frames
pub short_is : (offer : Offer) → is_short offer ≡ true → offer.what ≡ Alloc → frame_count (length offer.payload) ≤ frames_of_allocation
short_is offer e what = elim (or_true (not (is_alloc offer.what)) (nat_le (frame_count (length offer.payload)) frames_of_allocation) e) [
  | inl z ↦ absurd (cc (sym (ap (λ (x : What). not (is_alloc x)) what) ∙ z))
  | inr z ↦ le_true (frame_count (length offer.payload)) frames_of_allocation z
]
