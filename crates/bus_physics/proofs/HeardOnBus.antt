-- What a member heard, and what an allocatee did, stands on the bus.
use Rattle.std.proofs.Common.{◌≡◌, ℕ, Bool, true, false, List, [], ◌∷◌, sym, subst, inl, inr, None}
use Rattle.std.specs.Prelude.{◌==◌, if◌then◌else◌}
use Rattle.raft_model.specs.Lists.{In}
use Rattle.bus_rows.specs.declared.row.Row.{Row}
use Rattle.bus_rows.specs.declared.row.Row.TheVariants.{AEnd, AOpen, ARx, ASend, ATick, Crash, Ext, Fault, Open, Rx, Send, Tick}
use Rattle.transfer_tx.specs.Queue.{Queued}
use Rattle.bus_spec.specs.Allocatees.{next_from}
use Rattle.bus_spec.specs.Cluster.{Cluster, after_row, after_rows, arrival_at, frame_at, from_outside, in_list}
use Rattle.bus_spec.specs.Lawful.{AreLawful, absent, arrival_refusal, arrival_refusal_at, cause, no_allocatee, no_node, no_such_frame, not_running, or_else}
use Rattle.bus_spec.specs.Members.{next_frame}
use Rattle.bus_agreement.proofs.Lists.{in_append, in_front}
use Rattle.bus_agreement.proofs.OneRow.{stands}
use Rattle.bus_agreement.proofs.RowsWithoutEvents.{past_first}
use Rattle.bus_physics.specs.Physics.{device_heard_by, device_heard_in, heard_by, heard_in}

pub grows : (w : Cluster) (row : Row) (f : Queued) → In f w.frames → In f (after_row w row).frames
grows w (Open n told ms word) f i = i
grows w (Tick n ms word) f i = i
grows w (Rx n k ms) f i = i
grows w (Send n) f i = in_front f w.frames (in_list (next_frame (w.member n).status)) i
grows w (Ext frame) f i = in_front f w.frames (from_outside frame.id frame.bytes.items ∷ []) i
grows w (Crash n calls pattern) f i = i
grows w (Fault n call) f i = i
grows w (AOpen a uid pref ms word) f i = i
grows w (ATick a ms word) f i = i
grows w (ARx a k ms word) f i = i
grows w (ASend a) f i = in_front f w.frames (in_list (next_from (w.allocatee a))) i
grows w (AEnd a) f i = i

grow : (w : Cluster) (rows_ : List Row) (f : Queued) → In f w.frames → In f (after_rows w rows_).frames
grow w [] f i = i
grow w (row ∷ rest) f i = grow (after_row w row) rest f (grows w row f i)

pub heard_now : (n : ℕ) (w : Cluster) (row : Row) → cause w row ≡ None → (f : Queued) → In f (heard_in n w row) → In f w.frames
heard_now n w (Rx m k ms) lawful f i = by (n == m) i where
  inside : In (frame_at w.frames k) w.frames
  inside =
      let last = arrival_refusal (w.member m).status (arrival_at (frame_at w.frames k) ms) in
      let first = past_first (no_node w m) (or_else (not_running w m) (or_else (no_such_frame w k) last)) lawful in
      let second = past_first (not_running w m) (or_else (no_such_frame w k) last) first.1 in
      stands w k (past_first (no_such_frame w k) last second.1).0

  by : (b : Bool) → In f (if b then frame_at w.frames k ∷ [] else []) → In f w.frames
  by true (inl e) = subst (λ (g : Queued). In g w.frames) (sym e) inside
  by true (inr j) = absurd j
  by false j = absurd j
heard_now n w row lawful f i = absurd i

pub heard_on_bus : (n : ℕ) (rows_ : List Row) (w : Cluster) → AreLawful w rows_ → (f : Queued) → In f (heard_by n w rows_) → In f (after_rows w rows_).frames
heard_on_bus n [] w lawful f i = absurd i
heard_on_bus n (row ∷ rest) w lawful f i = elim (in_append f (heard_in n w row) (heard_by n (after_row w row) rest) i) [
  | inl here ↦ grow (after_row w row) rest f (grows w row f (heard_now n w row lawful.0 f here))
  | inr there ↦ heard_on_bus n rest (after_row w row) lawful.1 f there
]

device_heard_now : (a : ℕ) (w : Cluster) (row : Row) → cause w row ≡ None → (f : Queued) → In f (device_heard_in a w row) → In f w.frames
device_heard_now a w (ARx b k ms word) lawful f i = by (a == b) i where
  inside : In (frame_at w.frames k) w.frames
  inside =
      let last = arrival_refusal_at (w.allocatee b) (arrival_at (frame_at w.frames k) ms) in
      let first = past_first (no_allocatee b) (or_else (absent w b) (or_else (no_such_frame w k) last)) lawful in
      let second = past_first (absent w b) (or_else (no_such_frame w k) last) first.1 in
      stands w k (past_first (no_such_frame w k) last second.1).0

  by : (same : Bool) → In f (if same then frame_at w.frames k ∷ [] else []) → In f w.frames
  by true (inl e) = subst (λ (g : Queued). In g w.frames) (sym e) inside
  by true (inr j) = absurd j
  by false j = absurd j
device_heard_now a w row lawful f i = absurd i

pub device_heard_on_bus : (a : ℕ) (rows_ : List Row) (w : Cluster) → AreLawful w rows_ → (f : Queued) → In f (device_heard_by a w rows_) → In f (after_rows w rows_).frames
device_heard_on_bus a [] w lawful f i = absurd i
device_heard_on_bus a (row ∷ rest) w lawful f i = elim (in_append f (device_heard_in a w row) (device_heard_by a (after_row w row) rest) i) [
  | inl here ↦ grow (after_row w row) rest f (grows w row f (device_heard_now a w row lawful.0 f here))
  | inr there ↦ device_heard_on_bus a rest (after_row w row) lawful.1 f there
]
