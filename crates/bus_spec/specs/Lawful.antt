-- Which rows a world refuses, and for which cause: the first that holds.
use Rattle.std.specs.Prelude.{⊤, ◌≡◌, ◌⊎◌, ℕ, ◌==◌, ◌||◌, not, nat_lt, Bool, true, false, List, [], ◌∷◌, length, Option, Some, None, is_some, if◌then◌else◌}
use Rattle.can_frame.specs.declared.identifier.Ident.{Ident}
use Rattle.can_frame.specs.declared.identifier.Kind.{Kind}
use Rattle.can_frame.specs.declared.identifier.Kind.TheVariants.{Message, Anonymous, Request, Response}
use Rattle.can_frame.specs.declared.step.Judged.{Judged}
use Rattle.can_frame.specs.declared.step.Judged.TheVariants.{Fine, Torn, Stale}
use Rattle.can_frame.specs.Identifier.{identifier_of}
use Rattle.bus_rows.specs.declared.row.Row.{Row}
use Rattle.bus_rows.specs.declared.row.Row.TheVariants.{Open, Tick, Rx, Send, Ext, Crash, Fault, AOpen, ATick, ARx, ASend, AEnd}
use Rattle.transfer_rx.specs.Reassembly.{Arrival}
use Rattle.transfer_tx.specs.Queue.{Queued}
use Rattle.allocatee.specs.Allocatee.{Device}
use Rattle.allocatee.specs.Judging as device
use Rattle.alloc_spec.specs.Accepted.{is_of_members}
use Rattle.alloc_spec.specs.Judging.{arrival_judgement, brings_void}
use Rattle.bus_spec.specs.declared.unlawful.Unlawful.{Unlawful}
use Rattle.bus_spec.specs.declared.unlawful.Unlawful.TheVariants.{NoNode, Stopped, Running, NoFrame, NothingQueued, Forged, NoAllocatee, Absent, Present}
use Rattle.bus_spec.specs.declared.unlawful.Unlawful.TheVariants as unlawful
use Rattle.bus_spec.specs.Allocatees.{is_place, next_from}
use Rattle.bus_spec.specs.Cluster.{Cluster, arrival_at, frame_at, is_member, after_row}
use Rattle.bus_spec.specs.Members.{MemberStatus, is_running, next_frame}
use Rattle.bus_spec.specs.Members.MemberStatus.{Down, Up, Failed}

-- ---- the causes

abbrev pub number_of : Unlawful → ℕ
number_of NoNode = 1
number_of Stopped = 2
number_of Running = 3
number_of NoFrame = 4
number_of NothingQueued = 5
number_of Forged = 6
number_of unlawful.Torn = 7
number_of unlawful.Stale = 8
number_of NoAllocatee = 9
number_of Absent = 10
number_of Present = 11

-- the cause, where the test holds
abbrev pub because : Unlawful → Bool → Option Unlawful
because cause test = if test then Some cause else None

-- the first of two causes
abbrev pub or_else : Option Unlawful → Option Unlawful → Option Unlawful
or_else (Some cause) other = Some cause
or_else None other = other

abbrev pub no_node : Cluster → ℕ → Option Unlawful
no_node w n = because NoNode (not (is_member w.ids n))

abbrev pub not_running : Cluster → ℕ → Option Unlawful
not_running w n = because Stopped (not (is_running (w.member n).status))

abbrev pub already_running : Cluster → ℕ → Option Unlawful
already_running w n = because Running (is_running (w.member n).status)

-- the number is 0, or above those of the frames on the bus
abbrev pub no_such_frame : Cluster → ℕ → Option Unlawful
no_such_frame w k = because NoFrame ((k == 0) || nat_lt (length w.frames) k)

abbrev pub nothing_to_send : Option Queued → Option Unlawful
nothing_to_send None = Some NothingQueued
nothing_to_send (Some frame) = None

-- ---- frames from outside: by what their identifier says of their source and data type

-- A member is the source, or it has a source and is of a data type that members alone send. An anonymous frame has no
-- source: it is none of these, and an anonymous Allocation is a request of some device.
abbrev pub is_forged_by : List ℕ → Kind → Ident → Bool
is_forged_by ids Anonymous ident = false
is_forged_by ids kind ident = is_member ids ident.source || is_of_members kind ident.number

-- an identifier that has no reading is nobody's
abbrev pub is_forged : List ℕ → Option Ident → Bool
is_forged ids None = false
is_forged ids (Some ident) = is_forged_by ids ident.kind ident

-- ---- Frames for a member: where it runs, judged by what they would deliver. One that has failed takes in no frame, so
-- none is refused for what it would deliver.

abbrev pub cause_of_judgement : Judged → Option Unlawful
cause_of_judgement Fine = None
cause_of_judgement Torn = Some unlawful.Torn
cause_of_judgement Stale = Some unlawful.Stale

abbrev pub arrival_refusal : MemberStatus → Arrival → Option Unlawful
arrival_refusal Down arrival = None
arrival_refusal (Up server) arrival = cause_of_judgement (arrival_judgement server arrival)
arrival_refusal (Failed failure) arrival = None

-- ---- allocatees

abbrev pub no_allocatee : ℕ → Option Unlawful
no_allocatee a = because NoAllocatee (not (is_place a))

abbrev pub absent : Cluster → ℕ → Option Unlawful
absent w a = because Absent (not (is_some (w.allocatee a)))

abbrev pub present : Cluster → ℕ → Option Unlawful
present w a = because Present (is_some (w.allocatee a))

-- what it would deliver to the allocatee
abbrev pub arrival_refusal_at : Option Device → Arrival → Option Unlawful
arrival_refusal_at None arrival = None
arrival_refusal_at (Some x) arrival = cause_of_judgement (device.arrival_judgement x arrival)

-- ---- rows

-- a stop at once needs a node that runs; a stop or a failure may be armed at any
abbrev pub no_stop : Cluster → ℕ → ℕ → Option Unlawful
no_stop w n calls = if calls == 0 then not_running w n else None

-- why a row is refused; None where it is lawful
abbrev pub cause : Cluster → Row → Option Unlawful
cause w (Open n told ms word) = or_else (no_node w n) (already_running w n)
cause w (Tick n ms word) = or_else (no_node w n) (not_running w n)
cause w (Rx n k ms) = or_else (no_node w n) (or_else (not_running w n)
    (or_else (no_such_frame w k) (arrival_refusal (w.member n).status (arrival_at (frame_at w.frames k) ms))))
cause w (Send n) = or_else (no_node w n) (or_else (not_running w n) (nothing_to_send (next_frame (w.member n).status)))
cause w (Ext frame) = because Forged (is_forged w.ids (identifier_of frame.id))
cause w (Crash n calls pattern) = or_else (no_node w n) (no_stop w n calls)
cause w (Fault n call) = no_node w n
cause w (AOpen a uid pref ms word) = or_else (no_allocatee a) (present w a)
cause w (ATick a ms word) = or_else (no_allocatee a) (absent w a)
cause w (ARx a k ms word) = or_else (no_allocatee a) (or_else (absent w a)
    (or_else (no_such_frame w k) (arrival_refusal_at (w.allocatee a) (arrival_at (frame_at w.frames k) ms))))
cause w (ASend a) = or_else (no_allocatee a) (or_else (absent w a) (nothing_to_send (next_from (w.allocatee a))))
cause w (AEnd a) = or_else (no_allocatee a) (absent w a)

-- each row is lawful when its turn is there
abbrev pub AreLawful : Cluster → List Row → Type 0
AreLawful w [] = ⊤
AreLawful w (row ∷ rows) = (cause w row ≡ None) × AreLawful (after_row w row) rows

-- ---- A bus may bring a member the response to an earlier call. Such a row is refused as stale; where the response
-- counts for nothing, it does no harm all the same.

abbrev pub is_void_at : MemberStatus → Arrival → Bool
is_void_at Down arrival = false
is_void_at (Up server) arrival = brings_void server arrival
is_void_at (Failed failure) arrival = false

-- the frame is not refused, or brings such a response
abbrev pub IsHarmlessAt : MemberStatus → Arrival → Type 0
IsHarmlessAt status arrival = (arrival_refusal status arrival ≡ None)
    ⊎ ((arrival_refusal status arrival ≡ Some unlawful.Stale) × (is_void_at status arrival ≡ true))

abbrev pub brings_void_to : Cluster → Row → Bool
brings_void_to w (Rx n k ms) = is_void_at (w.member n).status (arrival_at (frame_at w.frames k) ms)
brings_void_to w row = false

-- the row is lawful, or brings such a response
abbrev pub DoesNoHarm : Cluster → Row → Type 0
DoesNoHarm w row = (cause w row ≡ None) ⊎ ((cause w row ≡ Some unlawful.Stale) × (brings_void_to w row ≡ true))

-- each row does no harm when its turn is there
abbrev pub DoNoHarm : Cluster → List Row → Type 0
DoNoHarm w [] = ⊤
DoNoHarm w (row ∷ rows) = DoesNoHarm w row × DoNoHarm (after_row w row) rows
