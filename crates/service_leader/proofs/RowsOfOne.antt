-- What a calm row leaves of a member: its step, or its server with no more than a frame gone out.
use Rattle.std.proofs.Common.{◌≡◌, ◌≢◌, ℕ, ◌+◌, refl, sym, ◌∙◌, ap, subst, inl, inr, List, Option, None, Some}
use Rattle.std.proofs.lemmas.Bool.Decides.{eqb_tells}
use Rattle.raft_model.specs.Lists.{at, at_here, at_other}
use Rattle.bus_rows.specs.declared.row.Row.{Row}
use Rattle.bus_rows.specs.declared.row.Row.TheVariants.{AEnd, AOpen, ARx, ASend, ATick, Crash, Ext, Fault, Open, Rx, Send, Tick}
use Rattle.transfer_rx.specs.Reassembly.{Arrival}
use Rattle.alloc_spec.specs.AllocatorState.{AllocatorState}
use Rattle.alloc_spec.specs.Step.{Event, after_pop, moment_of, step}
use Rattle.service_alone.specs.Calm.{Pace}
use Rattle.service_alone.proofs.Members.{IsUp, steps_up}
use Rattle.service_calm.specs.Calm.{IsCalmRow, Member as OfMember, Party, Traffic}
use Rattle.service_calm.proofs.Pair.{same_event, same_stepper}
use Rattle.bus_spec.specs.Cluster.{Cluster, after_row, arrival_at, frame_at, receipt_of, step_of, tick_of}
use Rattle.bus_spec.specs.Members.{Member, after_sending, member_after_step}

-- of another member's row, or of one in which a frame goes out
pub record IsSame (before after : AllocatorState) : Type 0 where
  pub raft_server : after.raft_server ≡ before.raft_server
  pub times : after.times ≡ before.times
  pub ids : after.ids ≡ before.ids

not_some : (n : ℕ) (event : Event) → ◌≡◌ {A = Option (ℕ × Event)} None (Some (n, event)) → ⊥
not_some n event e = cc e

module _ (w : Cluster) (n : ℕ) (t : AllocatorState) (up : IsUp t (w.member n)) where
  -- the member at its place, behind a step of it
  after_step : (p : ℕ) (event : Event) → p ≡ n
      → IsUp (step t (w.rows + 1) event).step_state.allocator (at w.member p (member_after_step (w.rows + 1) event (w.member p).status (w.member p)) n)
  after_step p event same = subst (IsUp (step t (w.rows + 1) event).step_state.allocator)
      (sym (at_here w.member p n (member_after_step (w.rows + 1) event (w.member p).status (w.member p)) (sym same)
      ∙ ap (λ (j : ℕ). member_after_step (w.rows + 1) event (w.member j).status (w.member j)) same))
      (steps_up (w.rows + 1) event t (w.member n) up)

  -- a row that is a step of the member leaves what the step does
  pub stepped_up : (row : Row) (event : Event) → step_of w row ≡ Some (n, event) → IsUp (step t (w.rows + 1) event).step_state.allocator ((after_row w row).member n)
  stepped_up (Tick p ms word) event e = subst (λ (ev : Event). IsUp (step t (w.rows + 1) ev).step_state.allocator ((after_row w (Tick p ms word)).member n))
      (same_event p n (tick_of ms word) event e) (after_step p (tick_of ms word) (same_stepper p n (tick_of ms word) event e))
  stepped_up (Rx p k ms) event e = subst (λ (ev : Event). IsUp (step t (w.rows + 1) ev).step_state.allocator ((after_row w (Rx p k ms)).member n))
      (same_event p n (receipt_of w k ms) event e) (after_step p (receipt_of w k ms) (same_stepper p n (receipt_of w k ms) event e))
  stepped_up (Send p) event e = absurd (not_some n event e)
  stepped_up (ATick a ms word) event e = absurd (not_some n event e)
  stepped_up (ARx a k ms word) event e = absurd (not_some n event e)
  stepped_up (ASend a) event e = absurd (not_some n event e)
  stepped_up (Open p told ms word) event e = absurd (not_some n event e)
  stepped_up (Ext frame) event e = absurd (not_some n event e)
  stepped_up (Crash p calls pattern) event e = absurd (not_some n event e)
  stepped_up (Fault p call) event e = absurd (not_some n event e)
  stepped_up (AOpen a uid pref ms word) event e = absurd (not_some n event e)
  stepped_up (AEnd a) event e = absurd (not_some n event e)

  -- what a row leaves that is no step of it
  pub record IsLeft (x : Member) : Type 0 where
    pub server : AllocatorState
    pub its_up : IsUp server x
    pub same : IsSame t server

  as_it_was : (x : Member) → x ≡ w.member n → IsLeft x
  as_it_was x e = record { server = t; its_up = subst (IsUp t) (sym e) up; same = record { raft_server = refl; times = refl; ids = refl } }

  elsewhere : (p : ℕ) (x : Member) → p ≢ n → IsLeft (at w.member p x n)
  elsewhere p x differs = as_it_was (at w.member p x n) (at_other w.member p n x (λ e. differs (sym e)))

  module _ (group : List Party) (clocks : Party → ℕ) (pace : Pace) (traffic : Traffic) (moment : ℕ) where
    -- a calm row that is no step of the member leaves what a frame that goes out leaves, at most
    pub left_up : (row : Row) → IsCalmRow group clocks pace traffic w moment row → ((event : Event) → step_of w row ≡ Some (n, event) → ⊥)
        → IsLeft ((after_row w row).member n)
    left_up (Tick p ms word) calm none = elim (eqb_tells p n) [
      | inl z ↦ absurd (none (tick_of ms word) (ap (λ (j : ℕ). Some (j, tick_of ms word)) z.1))
      | inr z ↦ elsewhere p (member_after_step (w.rows + 1) (tick_of ms word) (w.member p).status (w.member p)) z.1
    ]
    left_up (Rx p k ms) calm none = elim (eqb_tells p n) [
      | inl z ↦ absurd (none (receipt_of w k ms) (ap (λ (j : ℕ). Some (j, receipt_of w k ms)) z.1))
      | inr z ↦ elsewhere p (member_after_step (w.rows + 1) (receipt_of w k ms) (w.member p).status (w.member p)) z.1
    ]
    left_up (Send p) calm none = elim (eqb_tells p n) [
      | inl z ↦ record {
        server = after_pop t;
        its_up = subst (IsUp (after_pop t)) (sym (at_here w.member p n (record (w.member p) { status = after_sending (w.member p).status }) (sym z.1)
            ∙ ap (λ (j : ℕ). record (w.member j) { status = after_sending (w.member j).status }) z.1))
            (record { status = ap after_sending up.status; quiet = up.quiet });
        same = record { raft_server = refl; times = refl; ids = refl };
      }
      | inr z ↦ elsewhere p (record (w.member p) { status = after_sending (w.member p).status }) z.1
    ]
    left_up (ATick a ms word) calm none = as_it_was (w.member n) refl
    left_up (ARx a k ms word) calm none = as_it_was (w.member n) refl
    left_up (ASend a) calm none = as_it_was (w.member n) refl
    left_up (Open p told ms word) calm none = absurd calm
    left_up (Ext frame) calm none = absurd calm
    left_up (Crash p calls pattern) calm none = absurd calm
    left_up (Fault p call) calm none = absurd calm
    left_up (AOpen a uid pref ms word) calm none = absurd calm
    left_up (AEnd a) calm none = absurd calm

    -- a step of the member comes at the moment that its clock reads then
    pub moment_is : (row : Row) (event : Event) → step_of w row ≡ Some (n, event) → IsCalmRow group clocks pace traffic w moment row
        → moment_of event ≡ moment + clocks (OfMember n)
    moment_is (Tick p ms word) event e calm = ap moment_of (sym (same_event p n (tick_of ms word) event e))
        ∙ (calm.1 ∙ ap (λ (j : ℕ). moment + clocks (OfMember j)) (same_stepper p n (tick_of ms word) event e))
    moment_is (Rx p k ms) event e calm = ap moment_of (sym (same_event p n (receipt_of w k ms) event e))
        ∙ (calm.1 ∙ ap (λ (j : ℕ). moment + clocks (OfMember j)) (same_stepper p n (receipt_of w k ms) event e))
    moment_is (Send p) event e calm = absurd (not_some n event e)
    moment_is (ATick a ms word) event e calm = absurd (not_some n event e)
    moment_is (ARx a k ms word) event e calm = absurd (not_some n event e)
    moment_is (ASend a) event e calm = absurd (not_some n event e)
    moment_is (Open p told ms word) event e calm = absurd calm
    moment_is (Ext frame) event e calm = absurd calm
    moment_is (Crash p calls pattern) event e calm = absurd calm
    moment_is (Fault p call) event e calm = absurd calm
    moment_is (AOpen a uid pref ms word) event e calm = absurd calm
    moment_is (AEnd a) event e calm = absurd calm

-- a frame that comes to the member in a step is one of the bus, in a row that says so
pub record IsReceipt (w : Cluster) (n : ℕ) (row : Row) (arrival : Arrival) : Type 0 where
  pub k : ℕ
  pub ms : ℕ
  pub row_is : row ≡ Rx n k ms
  pub arrival_is : arrival ≡ arrival_at (frame_at w.frames k) ms

one_arrival : (a b : Arrival) → Event.Rx a ≡ Event.Rx b → a ≡ b
one_arrival a b e = cc e

no_receipt : (now word : ℕ) (arrival : Arrival) → Event.Tick now word ≡ Event.Rx arrival → ⊥
no_receipt now word arrival e = cc e

pub receipt_is : (w : Cluster) (n : ℕ) (row : Row) (arrival : Arrival) → step_of w row ≡ Some (n, Event.Rx arrival) → IsReceipt w n row arrival
receipt_is w n (Tick p ms word) arrival e = absurd (no_receipt ms word arrival (same_event p n (tick_of ms word) (Event.Rx arrival) e))
receipt_is w n (Rx p k ms) arrival e = record {
  k = k;
  ms = ms;
  row_is = ap (λ (j : ℕ). Rx j k ms) (same_stepper p n (receipt_of w k ms) (Event.Rx arrival) e);
  arrival_is = sym (one_arrival (arrival_at (frame_at w.frames k) ms) arrival (same_event p n (receipt_of w k ms) (Event.Rx arrival) e));
}
receipt_is w n (Send p) arrival e = absurd (not_some n (Event.Rx arrival) e)
receipt_is w n (ATick a ms word) arrival e = absurd (not_some n (Event.Rx arrival) e)
receipt_is w n (ARx a k ms word) arrival e = absurd (not_some n (Event.Rx arrival) e)
receipt_is w n (ASend a) arrival e = absurd (not_some n (Event.Rx arrival) e)
receipt_is w n (Open p told ms word) arrival e = absurd (not_some n (Event.Rx arrival) e)
receipt_is w n (Ext frame) arrival e = absurd (not_some n (Event.Rx arrival) e)
receipt_is w n (Crash p calls pattern) arrival e = absurd (not_some n (Event.Rx arrival) e)
receipt_is w n (Fault p call) arrival e = absurd (not_some n (Event.Rx arrival) e)
receipt_is w n (AOpen a uid pref ms word) arrival e = absurd (not_some n (Event.Rx arrival) e)
receipt_is w n (AEnd a) arrival e = absurd (not_some n (Event.Rx arrival) e)
