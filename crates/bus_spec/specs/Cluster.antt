-- The world of a list of rows: the members of a cluster, the allocatees that are there, and the frames of their bus;
-- and the world that a lawful row leaves. The rows that are taken are numbered from 1; where a row is a step, its
-- number is the number of the step.
use Rattle.std.specs.Prelude.{ℕ, ◌+◌, ◌-◌, ◌==◌, Bool, List, [], ◌∷◌, ◌++◌, length, slice_index_or, Option, Some, None, if◌then◌else◌}
use Rattle.raft_model.specs.Lists.{any, at}
use Rattle.bus_rows.specs.declared.row.Row.{Row}
use Rattle.bus_rows.specs.declared.row.Row.TheVariants.{Open, Tick, Rx, Send, Ext, Crash, Fault, AOpen, ATick, ARx, ASend, AEnd}
use Rattle.allocatee.specs.Allocatee.{Device, opening}
use Rattle.allocatee.specs.Allocatee as device
use Rattle.transfer_rx.specs.Reassembly.{Arrival}
use Rattle.transfer_tx.specs.Queue.{Queued}
use Rattle.alloc_spec.specs.Rules.{Rules, rules_by}
use Rattle.alloc_spec.specs.Step.{Event}
use Rattle.bus_spec.specs.Allocatees.{after_sending_from, next_from, device_after_step}
use Rattle.bus_spec.specs.Members.{Member, after_sending, after_crash, with_failure_armed, fresh_member, next_frame, after_opening, member_after_step}

-- The world: the members by their node IDs, the allocatees by their numbers, the bus, and how many rows have been taken.
-- Of a member that is not on the list no row is lawful.
pub record Cluster : Type 0 where
  pub ids : List ℕ
  pub member : ℕ → Member
  -- the allocatees that are there, by their numbers
  pub allocatee : ℕ → Option Device
  -- the frames on the bus, numbered from 1
  pub frames : List Queued
  -- how many rows it has taken
  pub rows : ℕ

-- all members stopped, on disks of zeros, no allocatees, and nothing on the bus
abbrev pub cluster : List ℕ → Cluster
cluster ids = record { ids = ids; member = λ n. fresh_member; allocatee = λ a. None; frames = []; rows = 0 }

abbrev pub is_member : List ℕ → ℕ → Bool
is_member ids n = any (λ id. id == n) ids

-- ---- the bus

-- a frame from outside was made in no step
abbrev pub from_outside : ℕ → List ℕ → Queued
from_outside id bytes = record { id = id; bytes = bytes; mark = record { step = 0; re = 0; place = 0 } }

abbrev pub no_frame : Queued
no_frame = from_outside 0 []

-- Frame k of the bus; the first is frame 1. No row that names frame 0, or one above the last, is lawful, so what stands
-- here for these decides nothing.
abbrev pub frame_at : List Queued → ℕ → Queued
frame_at frames k = slice_index_or frames (k - 1) no_frame

-- a frame as it comes to a receiver
abbrev pub arrival_at : Queued → ℕ → Arrival
arrival_at frame moment = record { id = frame.id; bytes = frame.bytes; mark = frame.mark; moment = moment }

abbrev pub in_list : Option Queued → List Queued
in_list None = []
in_list (Some frame) = frame ∷ []

-- by which rules a member of these is opened: it is told how many they are, or also which
abbrev pub rules_of : List ℕ → Bool → Rules
rules_of ids told = rules_by (length ids) (if told then ids else [])

-- ---- rows

-- the world with this at a member's place
abbrev pub with_member : Cluster → ℕ → Member → Cluster
with_member w n x = record w { member = at w.member n x }

-- member n takes an event, in the step with the number of the next row
abbrev pub with_step : Cluster → ℕ → Event → Cluster
with_step w n event = with_member w n (member_after_step (w.rows + 1) event (w.member n).status (w.member n))

abbrev pub tick_of : ℕ → ℕ → Event
tick_of moment word = Event.Tick moment word

-- frame k is received
abbrev pub receipt_of : Cluster → ℕ → ℕ → Event
receipt_of w k moment = Event.Rx (arrival_at (frame_at w.frames k) moment)

-- the step that a row is, if it is one of a member: whose, and at which event
abbrev pub step_of : Cluster → Row → Option (ℕ × Event)
step_of w (Tick n ms word) = Some (n, tick_of ms word)
step_of w (Rx n k ms) = Some (n, receipt_of w k ms)
step_of w row = None

-- the member's next frame goes from its queue to the bus
abbrev pub with_send : Cluster → ℕ → Cluster
with_send w n = record (with_member w n (record (w.member n) { status = after_sending (w.member n).status }))
    { frames = w.frames ++ in_list (next_frame (w.member n).status) }

-- ---- rows of allocatees

-- the world with this allocatee, or none, at a number
abbrev pub with_allocatee : Cluster → ℕ → Option Device → Cluster
with_allocatee w a x = record w { allocatee = at w.allocatee a x }

-- allocatee a takes an event, in the step with the number of the next row
abbrev pub with_step_at : Cluster → ℕ → device.Event → Cluster
with_step_at w a event = with_allocatee w a (device_after_step (w.rows + 1) event (w.allocatee a))

-- an allocatee receives frame k
abbrev pub receipt_at : Cluster → ℕ → ℕ → ℕ → device.Event
receipt_at w k moment word = device.Rx (arrival_at (frame_at w.frames k) moment) word

-- the next frame of allocatee a goes from its queue to the bus
abbrev pub with_send_from : Cluster → ℕ → Cluster
with_send_from w a = record (with_allocatee w a (after_sending_from (w.allocatee a)))
    { frames = w.frames ++ in_list (next_from (w.allocatee a)) }

-- what a lawful row leaves, but for the count of rows
abbrev pub effect_of : Cluster → Row → Cluster
effect_of w (Open n told ms word) = with_member w n (after_opening n (rules_of w.ids told) ms word (w.member n))
effect_of w (Tick n ms word) = with_step w n (tick_of ms word)
effect_of w (Rx n k ms) = with_step w n (receipt_of w k ms)
effect_of w (Send n) = with_send w n
effect_of w (Ext frame) = record w { frames = w.frames ++ from_outside frame.id frame.bytes.items ∷ [] }
effect_of w (Crash n calls pattern) = with_member w n (after_crash calls pattern (w.member n))
effect_of w (Fault n call) = with_member w n (with_failure_armed call (w.member n))
effect_of w (AOpen a uid pref ms word) = with_allocatee w a (Some (opening uid pref ms word))
effect_of w (ATick a ms word) = with_step_at w a (device.Tick ms word)
effect_of w (ARx a k ms word) = with_step_at w a (receipt_at w k ms word)
effect_of w (ASend a) = with_send_from w a
effect_of w (AEnd a) = with_allocatee w a None

abbrev pub after_row : Cluster → Row → Cluster
after_row w row = record (effect_of w row) { rows = w.rows + 1 }

-- the world after these rows
abbrev pub after_rows : Cluster → List Row → Cluster
after_rows w [] = w
after_rows w (row ∷ rows) = after_rows (after_row w row) rows

abbrev pub world_of : List ℕ → List Row → Cluster
world_of ids rows = after_rows (cluster ids) rows
