-- What a refusal says: a running receiver, and the judgement of what the frame would deliver.
use Rattle.std.proofs.Common.{◌≡◌, ℕ, Bool, true, false, refl, Option, Some, None}
use Rattle.std.specs.Prelude.{◌&&◌, not, max, nat_eq, is_some, if◌then◌else◌}
use Rattle.can_frame.specs.declared.step.Judged.{Judged}
use Rattle.can_frame.specs.declared.step.Judged.TheVariants.{Fine, Stale, Torn}
use Rattle.raft_model.specs.Lists.{In}
use Rattle.bus_rows.specs.declared.row.Row.TheVariants.{ARx, Rx}
use Rattle.transfer_rx.specs.Reassembly.{Answer, Arrival, Delivery, answer}
use Rattle.transfer_rx.specs.Reassembly.Answer.{Continues, Drops, Gives}
use Rattle.allocatee.specs.Accepted as device
use Rattle.allocatee.specs.Allocatee.{Device, answer_to}
use Rattle.allocatee.specs.Judging as judging
use Rattle.alloc_spec.specs.Accepted.{setting_for}
use Rattle.alloc_spec.specs.Judging.{answer_judgement, arrival_judgement, is_stale}
use Rattle.alloc_spec.specs.AllocatorState.{AllocatorState}
use Rattle.bus_spec.specs.declared.unlawful.Unlawful.{Unlawful}
use Rattle.bus_spec.specs.declared.unlawful.Unlawful.TheVariants.{Absent, NoAllocatee, NoFrame, NoNode, Stopped}
use Rattle.bus_spec.specs.declared.unlawful.Unlawful.TheVariants as unlawful
use Rattle.bus_spec.specs.Allocatees.{is_place}
use Rattle.bus_spec.specs.Cluster.{Cluster, arrival_at, frame_at, is_member}
use Rattle.bus_spec.specs.Lawful.{absent, arrival_refusal, arrival_refusal_at, because, cause, cause_of_judgement, no_allocatee, no_node, no_such_frame, not_running, or_else}
use Rattle.bus_spec.specs.Members.{MemberStatus, is_running}
use Rattle.bus_spec.specs.Members.MemberStatus.{Down, Failed, Up}
use Rattle.bus_agreement.proofs.RowsWithoutEvents.{is_one}

-- ---- the cause is the last one

past : (u : Unlawful) (a b : Option Unlawful) → (a ≡ Some u → ⊥) → or_else a b ≡ Some u → (a ≡ None) × (b ≡ Some u)
past u None b differ e = (refl, e)
past u (Some why) b differ e = absurd (differ e)

-- what a row says that is refused for what it would deliver to a member
pub record IsRefused (w : Cluster) (n k ms : ℕ) (judged : Judged) : Type 0 where
  pub member : In n w.ids
  pub there : no_such_frame w k ≡ None
  pub server : AllocatorState
  pub runs : (w.member n).status ≡ Up server
  pub judgement : arrival_judgement server (arrival_at (frame_at w.frames k) ms) ≡ judged

torn_is : (j : Judged) → cause_of_judgement j ≡ Some unlawful.Torn → j ≡ Torn
torn_is Fine e = absurd (cc (e))
torn_is Torn e = refl
torn_is Stale e = absurd (cc (e))

stale_is : (j : Judged) → cause_of_judgement j ≡ Some unlawful.Stale → j ≡ Stale
stale_is Fine e = absurd (cc (e))
stale_is Torn e = absurd (cc (e))
stale_is Stale e = refl

-- one of the two causes
pub record IsOfDelivery (u : Unlawful) (judged : Judged) : Type 0 where
  pub no_node : (b : Bool) → because NoNode b ≡ Some u → ⊥
  pub stopped : (b : Bool) → because Stopped b ≡ Some u → ⊥
  pub no_frame : (b : Bool) → because NoFrame b ≡ Some u → ⊥
  pub no_place : (b : Bool) → because NoAllocatee b ≡ Some u → ⊥
  pub absent : (b : Bool) → because Absent b ≡ Some u → ⊥
  pub judged_is : (j : Judged) → cause_of_judgement j ≡ Some u → j ≡ judged

never_torn : (why : Unlawful) → (Some why ≡ Some unlawful.Torn → ⊥) → (b : Bool) → because why b ≡ Some unlawful.Torn → ⊥
never_torn why differ true e = differ e
never_torn why differ false e = absurd (cc (e))

never_stale : (why : Unlawful) → (Some why ≡ Some unlawful.Stale → ⊥) → (b : Bool) → because why b ≡ Some unlawful.Stale → ⊥
never_stale why differ true e = differ e
never_stale why differ false e = absurd (cc (e))

pub of_torn : IsOfDelivery unlawful.Torn Torn
of_torn = record {
  no_node = never_torn NoNode (λ e. absurd (cc (e)));
  stopped = never_torn Stopped (λ e. absurd (cc (e)));
  no_frame = never_torn NoFrame (λ e. absurd (cc (e)));
  no_place = never_torn NoAllocatee (λ e. absurd (cc (e)));
  absent = never_torn Absent (λ e. absurd (cc (e)));
  judged_is = torn_is;
}

pub of_stale : IsOfDelivery unlawful.Stale Stale
of_stale = record {
  no_node = never_stale NoNode (λ e. absurd (cc (e)));
  stopped = never_stale Stopped (λ e. absurd (cc (e)));
  no_frame = never_stale NoFrame (λ e. absurd (cc (e)));
  no_place = never_stale NoAllocatee (λ e. absurd (cc (e)));
  absent = never_stale Absent (λ e. absurd (cc (e)));
  judged_is = stale_is;
}

module _ (u : Unlawful) (judged : Judged) (of : IsOfDelivery u judged) (w : Cluster) where
  -- ---- a member

  module _ (n k ms : ℕ) (member : In n w.ids) (there : no_such_frame w k ≡ None) where
    abbrev frame : Arrival
    frame = arrival_at (frame_at w.frames k) ms

    by_status : (status : MemberStatus) → (w.member n).status ≡ status → arrival_refusal status frame ≡ Some u → IsRefused w n k ms judged
    by_status Down e refused = absurd (cc (refused))
    by_status (Up server) e refused = record {
      member = member;
      there = there;
      server = server;
      runs = e;
      judgement = of.judged_is (arrival_judgement server frame) refused;
    }
    by_status (Failed failure) e refused = absurd (cc (refused))

  pub refused : (n k ms : ℕ) → cause w (Rx n k ms) ≡ Some u → IsRefused w n k ms judged
  refused n k ms e =
      let last = arrival_refusal (w.member n).status (arrival_at (frame_at w.frames k) ms) in
      let first = past u (no_node w n) (or_else (not_running w n) (or_else (no_such_frame w k) last)) (of.no_node (not (is_member w.ids n))) e in
      let second = past u (not_running w n) (or_else (no_such_frame w k) last) (of.stopped (not (is_running (w.member n).status))) first.1 in
      let third = past u (no_such_frame w k) last (of.no_frame _) second.1 in
      by_status n k ms (is_one w n first.0) third.0 (w.member n).status refl third.1

-- what a row says that is refused for what it would deliver to an allocatee
pub record IsRefusedAt (w : Cluster) (a k ms : ℕ) (judged : Judged) : Type 0 where
  pub frame_there : no_such_frame w k ≡ None
  pub x : Device
  pub there : w.allocatee a ≡ Some x
  pub judgement : judging.arrival_judgement x (arrival_at (frame_at w.frames k) ms) ≡ judged

module _ (u : Unlawful) (judged : Judged) (of : IsOfDelivery u judged) (w : Cluster) where
  by_device : (a k ms : ℕ) → no_such_frame w k ≡ None → (o : Option Device) → w.allocatee a ≡ o
      → arrival_refusal_at o (arrival_at (frame_at w.frames k) ms) ≡ Some u → IsRefusedAt w a k ms judged
  by_device a k ms there None e refused = absurd (cc (refused))
  by_device a k ms there (Some x) e refused = record {
    frame_there = there;
    x = x;
    there = e;
    judgement = of.judged_is (judging.arrival_judgement x (arrival_at (frame_at w.frames k) ms)) refused;
  }

  pub refused_at : (a k ms word : ℕ) → cause w (ARx a k ms word) ≡ Some u → IsRefusedAt w a k ms judged
  refused_at a k ms word e =
      let last = arrival_refusal_at (w.allocatee a) (arrival_at (frame_at w.frames k) ms) in
      let first = past u (no_allocatee a) (or_else (absent w a) (or_else (no_such_frame w k) last)) (of.no_place (not (is_place a))) e in
      let second = past u (absent w a) (or_else (no_such_frame w k) last) (of.absent (not (is_some (w.allocatee a)))) first.1 in
      let third = past u (no_such_frame w k) last (of.no_frame _) second.1 in
      by_device a k ms third.0 (w.allocatee a) refl third.1

-- ---- what is judged torn, and what stale

-- a transfer that is delivered, and its judgement
pub record IsDelivering (a : Answer) (whole : Bool) : Type 0 where
  pub delivery : Delivery
  pub gives : a ≡ Gives delivery
  pub is : delivery.whole ≡ whole

not_whole : (whole unmarked stale : Bool) → (if not whole && not unmarked then Torn else (if stale then Stale else Fine)) ≡ Torn → whole ≡ false
not_whole true unmarked true e = absurd (cc (e))
not_whole true unmarked false e = absurd (cc (e))
not_whole false unmarked stale e = refl

torn_delivers : (t : AllocatorState) (step now : ℕ) (a : Answer) → answer_judgement t step now a ≡ Torn → IsDelivering a false
torn_delivers t step now (Gives d) e = record { delivery = d; gives = refl; is = not_whole d.whole (nat_eq step 0) (is_stale t d now) e }
torn_delivers t step now Continues e = absurd (cc (e))
torn_delivers t step now (Drops why) e = absurd (cc (e))

pub torn_at : (t : AllocatorState) (arrival : Arrival) → arrival_judgement t arrival ≡ Torn
    → IsDelivering (answer (setting_for t.me) t.sessions (record arrival { moment = max t.now arrival.moment })) false
unfolding arrival_judgement
torn_at t arrival e = torn_delivers t arrival.mark.step (max t.now arrival.moment)
    (answer (setting_for t.me) t.sessions (record arrival { moment = max t.now arrival.moment })) e

-- its last frame was made in a step
marked_from : (whole unmarked stale : Bool) → (if not whole && not unmarked then Torn else (if stale then Stale else Fine)) ≡ Torn → unmarked ≡ false
marked_from true unmarked true e = absurd (cc (e))
marked_from true unmarked false e = absurd (cc (e))
marked_from false true true e = absurd (cc (e))
marked_from false true false e = absurd (cc (e))
marked_from false false stale e = refl

marked_by : (t : AllocatorState) (step now : ℕ) (a : Answer) → answer_judgement t step now a ≡ Torn → nat_eq step 0 ≡ false
marked_by t step now (Gives d) e = marked_from d.whole (nat_eq step 0) (is_stale t d now) e
marked_by t step now Continues e = absurd (cc (e))
marked_by t step now (Drops why) e = absurd (cc (e))

pub marked_at : (t : AllocatorState) (arrival : Arrival) → arrival_judgement t arrival ≡ Torn → nat_eq arrival.mark.step 0 ≡ false
unfolding arrival_judgement
marked_at t arrival e = marked_by t arrival.mark.step (max t.now arrival.moment)
    (answer (setting_for t.me) t.sessions (record arrival { moment = max t.now arrival.moment })) e

device_marked_by : (step : ℕ) (a : Answer) → judging.answer_judgement step a ≡ Torn → nat_eq step 0 ≡ false
device_marked_by step (Gives d) e = marked_from d.whole (nat_eq step 0) false e
device_marked_by step Continues e = absurd (cc (e))
device_marked_by step (Drops why) e = absurd (cc (e))

pub marked_at_device : (x : Device) (arrival : Arrival) → judging.arrival_judgement x arrival ≡ Torn → nat_eq arrival.mark.step 0 ≡ false
unfolding judging.arrival_judgement
marked_at_device x arrival e = device_marked_by arrival.mark.step (answer_to x arrival) e

not_whole_at : (whole unmarked : Bool) → (if not whole && not unmarked then Torn else Fine) ≡ Torn → whole ≡ false
not_whole_at true unmarked e = absurd (cc (e))
not_whole_at false unmarked e = refl

torn_delivers_at : (step : ℕ) (a : Answer) → judging.answer_judgement step a ≡ Torn → IsDelivering a false
torn_delivers_at step (Gives d) e = record { delivery = d; gives = refl; is = not_whole_at d.whole (nat_eq step 0) e }
torn_delivers_at step Continues e = absurd (cc (e))
torn_delivers_at step (Drops why) e = absurd (cc (e))

pub torn_at_device : (x : Device) (arrival : Arrival) → judging.arrival_judgement x arrival ≡ Torn
    → IsDelivering (answer device.setting x.sessions (record arrival { moment = max x.asking.moment arrival.moment })) false
unfolding judging.arrival_judgement
torn_at_device x arrival e = torn_delivers_at arrival.mark.step (answer_to x arrival) e

-- a stale delivery: it is not torn, and a pending call would take it
pub record IsStaleDelivery (t : AllocatorState) (step now : ℕ) (a : Answer) : Type 0 where
  pub delivery : Delivery
  pub gives : a ≡ Gives delivery
  pub untorn : delivery.whole ≡ false → nat_eq step 0 ≡ true
  pub stale : is_stale t delivery now ≡ true

stale_from : (whole unmarked stale : Bool) → (if not whole && not unmarked then Torn else (if stale then Stale else Fine)) ≡ Stale
    → (whole ≡ false → unmarked ≡ true) × (stale ≡ true)
stale_from true unmarked true e = ((λ w. absurd (cc (w))), refl)
stale_from true unmarked false e = absurd (cc (e))
stale_from false true true e = ((λ w. refl), refl)
stale_from false true false e = absurd (cc (e))
stale_from false false stale e = absurd (cc (e))

stale_delivers : (t : AllocatorState) (step now : ℕ) (a : Answer) → answer_judgement t step now a ≡ Stale → IsStaleDelivery t step now a
stale_delivers t step now (Gives d) e =
    let f = stale_from d.whole (nat_eq step 0) (is_stale t d now) e in
    record { delivery = d; gives = refl; untorn = f.0; stale = f.1 }
stale_delivers t step now Continues e = absurd (cc (e))
stale_delivers t step now (Drops why) e = absurd (cc (e))

pub stale_at : (t : AllocatorState) (arrival : Arrival) → arrival_judgement t arrival ≡ Stale
    → IsStaleDelivery t arrival.mark.step (max t.now arrival.moment) (answer (setting_for t.me) t.sessions (record arrival { moment = max t.now arrival.moment }))
unfolding arrival_judgement
stale_at t arrival e = stale_delivers t arrival.mark.step (max t.now arrival.moment)
    (answer (setting_for t.me) t.sessions (record arrival { moment = max t.now arrival.moment })) e
