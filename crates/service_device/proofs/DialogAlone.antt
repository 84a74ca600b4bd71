-- A leader that is settled before a row and behind it sends Allocations in it only to a request that comes, and one at most.
use Rattle.std.proofs.Common.{◌≡◌, ◌≢◌, ℕ, ◌+◌, false, List, length, max, sym, ◌∙◌, ap, subst, arith, Some}
use Rattle.can_frame.specs.declared.entry.Entry.{Entry}
use Rattle.can_frame.specs.declared.identifier.Kind.TheVariants.{Anonymous}
use Rattle.can_frame.specs.declared.step.What.TheVariants.{Alloc}
use Rattle.dsdl_codec.specs.declared.allocation.Allocation.{Allocation}
use Rattle.dsdl_codec.specs.Allocation.{allocation_of}
use Rattle.raft_model.specs.Lists.{In, at_here}
use Rattle.bus_rows.specs.declared.row.Row.{Row}
use Rattle.bus_rows.specs.declared.row.Row.TheVariants.{AEnd, AOpen, ARx, ASend, ATick, Crash, Ext, Fault, Open, Rx, Send, Tick}
use Rattle.transfer_rx.specs.Reassembly.{Arrival, Delivery, Gives, answer as received}
use Rattle.alloc_spec.specs.Accepted.{setting_for}
use Rattle.alloc_spec.specs.AllocatorState.{AllocatorState}
use Rattle.alloc_spec.specs.Ending.{has_to_tell}
use Rattle.alloc_spec.specs.Step.{Event, step}
use Rattle.alloc_spec.specs.Step as server
use Rattle.alloc_spec.specs.Transfers.{Offer}
use Rattle.alloc_spec_laws.specs.Phases.{when_committed, when_seen}
use Rattle.service_alone.specs.Calm.{HasSettled}
use Rattle.service_alone.proofs.Members.{IsUp, steps_up}
use Rattle.service_device.specs.Settled.{IsNotAsked}
use Rattle.service_device.proofs.AllocationsOffered.{IsUnasked, asked_one, comes_to, end_from, seen_free}
use Rattle.service_device.proofs.AllocationsTold.{VerdictsAre, none_to_tell}
use Rattle.service_calm.proofs.Pair.{same_event, same_server, same_stepper}
use Rattle.bus_spec.specs.Cluster.{Cluster, after_row, arrival_at, frame_at, receipt_of, step_of, tick_of}
use Rattle.bus_spec.specs.Members.{member_after_step}
use Rattle.bus_spec.specs.Members.MemberStatus.{Up}

-- a member behind its step
member_stepped : (n : ℕ) (w : Cluster) (row : Row) (event : Event) → step_of w row ≡ Some (n, event)
    → (after_row w row).member n ≡ member_after_step (w.rows + 1) event (w.member n).status (w.member n)
member_stepped n w (Tick p ms word) event e =
    at_here w.member p n (member_after_step (w.rows + 1) (tick_of ms word) (w.member p).status (w.member p)) (sym (same_stepper p n (tick_of ms word) event e))
    ∙ (λ i. member_after_step (w.rows + 1) (same_event p n (tick_of ms word) event e i) (w.member (same_stepper p n (tick_of ms word) event e i)).status
    (w.member (same_stepper p n (tick_of ms word) event e i)))
member_stepped n w (Rx p k ms) event e =
    at_here w.member p n (member_after_step (w.rows + 1) (receipt_of w k ms) (w.member p).status (w.member p)) (sym (same_stepper p n (receipt_of w k ms) event e))
    ∙ (λ i. member_after_step (w.rows + 1) (same_event p n (receipt_of w k ms) event e i) (w.member (same_stepper p n (receipt_of w k ms) event e i)).status
    (w.member (same_stepper p n (receipt_of w k ms) event e i)))
member_stepped n w (Open p told ms word) event e = absurd (cc (e))
member_stepped n w (Send p) event e = absurd (cc (e))
member_stepped n w (Ext frame) event e = absurd (cc (e))
member_stepped n w (Crash p calls pattern) event e = absurd (cc (e))
member_stepped n w (Fault p call) event e = absurd (cc (e))
member_stepped n w (AOpen a uid pref ms word) event e = absurd (cc (e))
member_stepped n w (ATick a ms word) event e = absurd (cc (e))
member_stepped n w (ARx a k ms word) event e = absurd (cc (e))
member_stepped n w (ASend a) event e = absurd (cc (e))
member_stepped n w (AEnd a) event e = absurd (cc (e))

some_arrival : (x y : Arrival) → server.Rx x ≡ server.Rx y → x ≡ y
some_arrival x y e = cc (e)

-- in a row in which no request comes to a member its event is none
unasked_event : (n : ℕ) (w : Cluster) (t : AllocatorState) → (w.member n).status ≡ Up t → t.me ≡ n → (row : Row) (event : Event) → step_of w row ≡ Some (n, event)
    → IsNotAsked n w row → IsUnasked t event
unasked_event n w t up me (Tick p ms word) event e none = λ arrival is d message gives kind says. cc (same_event p n (tick_of ms word) event e ∙ is)
unasked_event n w t up me (Rx p k ms) event e none = λ arrival is d message gives kind says.
    let same : arrival_at (frame_at w.frames k) ms ≡ arrival = some_arrival (arrival_at (frame_at w.frames k) ms) arrival (same_event p n (receipt_of w k ms) event e ∙ is) in
    let own : p ≡ n = same_stepper p n (receipt_of w k ms) event e in
    none message (record {
      request = d;
      comes = record {
        k = k;
        ms = ms;
        comes = λ i. Rx (own i) k ms;
        server = t;
        runs = up;
        gives = (λ i. received (setting_for (sym me i)) t.sessions (record (same i) { moment = max t.now (same i).moment })) ∙ gives;
      };
      anonymous = kind;
      says = says;
    })
unasked_event n w t up me (Open p told ms word) event e none = absurd (cc (e))
unasked_event n w t up me (Send p) event e none = absurd (cc (e))
unasked_event n w t up me (Ext frame) event e none = absurd (cc (e))
unasked_event n w t up me (Crash p calls pattern) event e none = absurd (cc (e))
unasked_event n w t up me (Fault p call) event e none = absurd (cc (e))
unasked_event n w t up me (AOpen a uid pref ms word) event e none = absurd (cc (e))
unasked_event n w t up me (ATick a ms word) event e none = absurd (cc (e))
unasked_event n w t up me (ARx a k ms word) event e none = absurd (cc (e))
unasked_event n w t up me (ASend a) event e none = absurd (cc (e))
unasked_event n w t up me (AEnd a) event e none = absurd (cc (e))

module _ (judged : VerdictsAre) (n : ℕ) (log : List Entry) (w : Cluster) (t : AllocatorState) (up : IsUp t (w.member n)) (me : t.me ≡ n) (before : ℕ) (h : HasSettled n log before w)
    (row : Row) (then_moment : ℕ) (after : HasSettled n log then_moment (after_row w row)) (event : Event) (is_step : step_of w row ≡ Some (n, event)) where
  same : h.server ≡ t
  same = same_server h.server t (sym h.runs ∙ up.status)

  stepped : ((after_row w row).member n).status ≡ Up (step t (w.rows + 1) event).step_state.allocator
  stepped = (subst (IsUp (step t (w.rows + 1) event).step_state.allocator) (sym (member_stepped n w row event is_step)) (steps_up (w.rows + 1) event t (w.member n) up)).status

  ends : (step t (w.rows + 1) event).step_state.allocator.raft_server.store.commit ≡ length log
  ends = ap (λ (u : AllocatorState). u.raft_server.store.commit)
      (same_server (step t (w.rows + 1) event).step_state.allocator after.server (sym stepped ∙ after.runs)) ∙ after.committed

  committed : t.raft_server.store.commit ≡ length log
  committed = ap (λ (u : AllocatorState). u.raft_server.store.commit) (sym same) ∙ h.committed

  told : t.raft_server.memory.told ≡ length log
  told = ap (λ (u : AllocatorState). u.raft_server.memory.told) (sym same) ∙ h.told

  log_is : length t.raft_server.store.log ≡ length log
  log_is = ap (λ (u : AllocatorState). length u.raft_server.store.log) (sym same) ∙ ap length h.log_is

  pub none : has_to_tell (when_committed t (w.rows + 1) event).allocator.raft_server ≡ false
  none = none_to_tell judged t (w.rows + 1) event (length log) (let c = committed in let l = log_is in omega (arith, c, l)) (let e = told in omega (arith, e))
      (let e = committed in omega (arith, e)) (let e = ends in omega (arith, e))

  -- where no request comes it sends none
  pub sends_none : IsNotAsked n w row → (o : Offer) → In o (step t (w.rows + 1) event).step_state.offers → o.what ≢ Alloc
  sends_none not_asked o i e =
      seen_free t (w.rows + 1) event (unasked_event n w t up.status me row event is_step not_asked) o (end_from t (w.rows + 1) event none o i e) e

  -- where one comes it sends one at most
  pub sends_one : (arrival : Arrival) → event ≡ server.Rx arrival → (d : Delivery) (message : Allocation) → comes_to t arrival ≡ Gives d → d.ident.kind ≡ Anonymous
      → allocation_of d.payload ≡ Some message → (x y : Offer) → In x (step t (w.rows + 1) event).step_state.offers → In y (step t (w.rows + 1) event).step_state.offers
      → x.what ≡ Alloc → y.what ≡ Alloc → x ≡ y
  sends_one arrival is d message gives kind says x y i j of_x of_y =
      subst (λ (e : Event). In x (when_seen t (w.rows + 1) e).offers → In y (when_seen t (w.rows + 1) e).offers → x ≡ y) (sym is)
      (asked_one t (w.rows + 1) arrival d message gives kind says x y) (end_from t (w.rows + 1) event none x i of_x) (end_from t (w.rows + 1) event none y j of_y)
