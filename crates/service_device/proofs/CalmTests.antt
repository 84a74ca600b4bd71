-- Tests of one row of a worked calm, in the world before it: whether it is calm and in time, is lawful, and what is
-- offered in it has room. They are computed. What else is asked of worlds and of rows is given as tests of its own.
use Rattle.std.proofs.Common.{ℕ, ◌+◌, Bool, true, false, List, [], ◌∷◌, length, Option, None, Some}
use Rattle.std.specs.Prelude.{◌==◌, ◌&&◌, ◌||◌, is_some, not, nat_le, nat_lt}
use Rattle.can_frame.specs.declared.step.What.{What}
use Rattle.can_frame.specs.declared.step.What.TheVariants.{Alloc}
use Rattle.can_frame.specs.Cutting.{frame_count}
use Rattle.can_frame.specs.Sizes.{blocks, sessions}
use Rattle.bus_rows.specs.declared.row.Row.{Row}
use Rattle.bus_rows.specs.declared.row.Row.TheVariants.{ARx, ASend, ATick, Rx, Send, Tick}
use Rattle.transfer_rx.specs.Outcome.{blocks_used}
use Rattle.alloc_spec.specs.AllocatorState.{AllocatorState}
use Rattle.alloc_spec.specs.Step.{Event, step}
use Rattle.alloc_spec.specs.Transfers.{Offer}
use Rattle.alloc_spec_laws.specs.Phases.{has_room_to_tell, when_committed}
use Rattle.allocatee.specs.Accepted.{setting}
use Rattle.allocatee.specs.Allocatee.{Device as AskingDevice}
use Rattle.bus_rows.specs.Timed.{Timed}
use Rattle.service_alone.specs.Calm.{OnItsWay, Pace}
use Rattle.service_calm.specs.Calm.{Device, Member, Party, Traffic, queue_in, traffic_after}
use Rattle.service_calm.specs.CalmExample.{clocks}
use Rattle.service_calm.specs.Comes.{blocks_of_longest}
use Rattle.service_calm.specs.Devices.{blocks_of_allocation, frames_of_allocation}
use Rattle.bus_spec.specs.Allocatees.{next_from}
use Rattle.bus_spec.specs.Cluster.{Cluster, after_row, step_of}
use Rattle.bus_spec.specs.Lawful.{cause}
use Rattle.bus_spec.specs.Members.{MemberStatus, next_frame}
use Rattle.bus_spec.specs.Members.MemberStatus.{Down, Failed, Up}

-- ---- members, lists and choices

-- the member runs, and its server passes
abbrev pub up_at : (AllocatorState → Bool) → MemberStatus → Bool
up_at test Down = false
up_at test (Up server) = test server
up_at test (Failed failure) = false

-- nothing is there
abbrev pub is_nil : {A : Type 0} → List A → Bool
is_nil [] = true
is_nil (x ∷ xs) = false

abbrev pub is_none : {A : Type 0} → Option A → Bool
is_none None = true
is_none (Some x) = false

-- ---- the group

-- the two are one party
abbrev pub is_party : Party → Party → Bool
is_party (Member n) (Member m) = n == m
is_party (Device a) (Device b) = a == b
is_party (Member n) (Device a) = false
is_party (Device a) (Member n) = false

-- the party is of the group
abbrev pub is_in : List Party → Party → Bool
is_in [] party = false
is_in (first ∷ group) party = is_party party first || is_in group party

-- each member of the group runs, and its server passes
abbrev pub all_up : (AllocatorState → Bool) → Cluster → List Party → Bool
all_up test w [] = true
all_up test w (Member n ∷ group) = up_at test (w.member n).status && all_up test w group
all_up test w (Device a ∷ group) = all_up test w group

-- ---- it is in time

-- none of the frames is late at this moment
abbrev pub none_late : (at delay : ℕ) → List OnItsWay → Bool
none_late at delay [] = true
none_late at delay (first ∷ frames) = nat_le at (first.since + delay) && none_late at delay frames

-- the party read its clock within a period, and neither what it sends nor what comes to it is late
abbrev pub party_in_time : Pace → Traffic → Cluster → ℕ → Party → Bool
party_in_time pace traffic w at party = nat_le at (traffic.ticked party + pace.period)
    && ((is_nil (queue_in w party) || nat_le at (traffic.waits party + pace.delay)) && none_late at pace.delay (traffic.to party))

-- so it is with each party
abbrev pub all_in_time : Pace → Traffic → Cluster → ℕ → List Party → Bool
all_in_time pace traffic w at [] = true
all_in_time pace traffic w at (party ∷ group) = party_in_time pace traffic w at party && all_in_time pace traffic w at group

-- ---- it is calm

-- frame k comes next
abbrev pub is_next : ℕ → List OnItsWay → Bool
is_next k [] = false
is_next k (first ∷ frames) = k == first.number

-- a party of the group reads its clock, sends what waits, or receives the frame that comes next
abbrev pub calm_row : List Party → Traffic → Cluster → ℕ → Row → Bool
calm_row group traffic w at (Tick n ms word) = is_in group (Member n) && (ms == at + clocks (Member n))
calm_row group traffic w at (Rx n k ms) = is_in group (Member n) && ((ms == at + clocks (Member n)) && is_next k (traffic.to (Member n)))
calm_row group traffic w at (Send n) = is_in group (Member n) && is_some (next_frame (w.member n).status)
calm_row group traffic w at (ATick a ms word) = is_in group (Device a) && (ms == at + clocks (Device a))
calm_row group traffic w at (ARx a k ms word) = is_in group (Device a) && ((ms == at + clocks (Device a)) && is_next k (traffic.to (Device a)))
calm_row group traffic w at (ASend a) = is_in group (Device a) && is_some (next_from (w.allocatee a))
calm_row group traffic w at row = false

-- ---- memory

-- sessions and blocks are left for the longest transfer
abbrev pub has_memory : AllocatorState → Bool
has_memory s = nat_lt (length s.sessions) sessions && nat_le (blocks_used s.sessions + blocks_of_longest) blocks

-- the device, if it is there, has memory
abbrev pub device_test : Option AskingDevice → Bool
device_test None = true
device_test (Some d) = nat_lt (length d.sessions) setting.sessions && nat_le (blocks_used d.sessions + blocks_of_allocation) setting.blocks

-- ---- what is offered

-- an Allocation
abbrev pub is_alloc : What → Bool
is_alloc Alloc = true
is_alloc what = false

-- it is no Allocation of more frames than a device has room for
abbrev pub is_short : Offer → Bool
is_short offer = not (is_alloc offer.what) || nat_le (frame_count (length offer.payload)) frames_of_allocation

-- each offer has room, and is short
abbrev pub offers_test : List Offer → Bool
offers_test [] = true
offers_test (offer ∷ offers) = (offer.fitted && is_short offer) && offers_test offers

-- so it is in this step, and there is room for the next pair when it comes to telling it
abbrev pub step_test : AllocatorState → ℕ → Event → Bool
step_test s number event = offers_test (step s number event).step_state.offers && has_room_to_tell (when_committed s number event).allocator

-- this is no step, or whoever takes it passes
abbrev pub event_test : Cluster → Option (ℕ × Event) → Bool
event_test w None = true
event_test w (Some x) = up_at (λ s. step_test s (w.rows + 1) x.1) (w.member x.0).status

-- ---- all of it

module _ (group : List Party) (pace : Pace) (world_test : Cluster → Bool) (row_more : Cluster → Row → Bool) where
  -- one row
  abbrev pub row_test : Traffic → Cluster → Timed → Bool
  row_test traffic w timed = ((nat_le traffic.at timed.at && all_in_time pace traffic w timed.at group) && calm_row group traffic w timed.at timed.row)
      && ((is_none (cause w timed.row) && world_test w) && (row_more w timed.row && event_test w (step_of w timed.row)))

  -- each row passes, and the world behind the last one, too
  abbrev pub all_pass : Traffic → Cluster → List Timed → Bool
  all_pass traffic w [] = world_test w
  all_pass traffic w (timed ∷ rest) = row_test traffic w timed && all_pass (traffic_after traffic w timed) (after_row w timed.row) rest

-- each row is lawful when its turn is there
abbrev pub all_lawful : Cluster → List Row → Bool
all_lawful w [] = true
all_lawful w (row ∷ list) = is_none (cause w row) && all_lawful (after_row w row) list

-- nothing more is asked of a row
abbrev pub any_row : Cluster → Row → Bool
any_row w row = true
