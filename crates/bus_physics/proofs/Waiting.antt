-- The call of a member that waits for a node is the last one that the member made to it.
use Rattle.std.proofs.Common.{◌≡◌, ℕ, ◌+◌, ◌≤◌, Bool, true, false, List, [], ◌∷◌, refl, sym, ap, subst, ◌∙◌, arith, ◌⊎◌, inl, inr, Some, None}
use Rattle.std.specs.Prelude.{◌==◌, if◌then◌else◌}
use Rattle.std.proofs.lemmas.Bool.Decides.{eqb_tells}
use Rattle.raft_log.specs.KeyDisk.{are_put, is_open_on, opening_on, puts_on}
use Rattle.raft_model.specs.Lists.{In}
use Rattle.raft_model.specs.Messages.{Request}
use Rattle.bus_rows.specs.declared.row.Row.{Row}
use Rattle.bus_rows.specs.declared.row.Row.TheVariants.{AEnd, AOpen, ARx, ASend, ATick, Crash, Ext, Fault, Open, Rx, Send, Tick}
use Rattle.alloc_spec_laws.specs.Calls.{CallsAreMade}
use Rattle.alloc_spec_laws.proofs.DistinctTransfers.{rank}
use Rattle.alloc_spec.specs.AllocatorState.{AllocatorState}
use Rattle.alloc_spec.specs.Rules.{Rules, opening_by}
use Rattle.alloc_spec.specs.Step.{Event, after_pop, step}
use Rattle.alloc_spec.specs.StepState.{StepState}
use Rattle.alloc_spec.specs.Transfers.{Offer, SentTransfer}
use Rattle.bus_spec.specs.Cluster.{Cluster, after_row, after_rows, receipt_of, rules_of, tick_of}
use Rattle.bus_spec.specs.Members.{Member, MemberStatus, after_crash, after_cut_off, after_failed_opening, after_opening, after_sending, member_after_step, puts_of, stopped_with, with_stop_armed}
use Rattle.bus_spec.specs.Members.MemberStatus.{Down, Failed, Up}
use Rattle.bus_spec.specs.Refinement.{transfers_of_offers, transfers_of_row, transfers_of_rows, transfers_of_step}
use Rattle.bus_agreement.proofs.MadeTransfers.{IsNew, made_when}
use Rattle.bus_physics.proofs.LastCall.{settled}

one_up : (a b : AllocatorState) → Up a ≡ Up b → a ≡ b
one_up a b e = cc (e)

-- of the calls that member n made to a node none is later than the one that waits
abbrev pub WaitsLast : ℕ → List SentTransfer → MemberStatus → Type 0
WaitsLast n made status = (t : AllocatorState) → status ≡ Up t → (peer : ℕ) (request : Request) → t.raft_server.memory.pending peer ≡ Some request
    → (x : SentTransfer) → In x made → x.by ≡ n → 8 ≤ rank x.offer.what → x.offer.to ≡ peer → x.step ≤ request.step

-- and all were made by now
abbrev pub AreMadeBy : ℕ → List SentTransfer → Type 0
AreMadeBy rows made = (x : SentTransfer) → In x made → x.step ≤ rows

module _ (called : (t : AllocatorState) (number : ℕ) (event : Event) → CallsAreMade number t (step t number event).step_state) where
  module _ (n : ℕ) (w : Cluster) (made : List SentTransfer) (inv : WaitsLast n made (w.member n).status) (past : AreMadeBy w.rows made) where
    abbrev number : ℕ
    number = w.rows + 1

    -- ---- all that is made is made by then

    past_step : (m : ℕ) (event : Event) (status : MemberStatus) (x : Member) → AreMadeBy number (transfers_of_step number m event status x made)
    past_step m event Down x y i = omega (arith, past y i)
    past_step m event (Failed failure) x y i = omega (arith, past y i)
    past_step m event (Up t) x y i = by (are_put (puts_of x (step t number event).step_state) x.disk.calls) i where
      by : (b : Bool) → In y (if b then transfers_of_offers number m (step t number event).step_state.offers made else made) → y.step ≤ number
      by true i = elim (made_when number m (step t number event).step_state.offers made y i) [
        | inl j ↦ omega (arith, past y j)
        | inr new ↦ omega (arith, ap (λ (z : SentTransfer). z.step) new.is)
      ]
      by false i = omega (arith, past y i)

    pub past_row : (row : Row) → AreMadeBy number (transfers_of_row w row made)
    past_row (Tick m ms word) = past_step m (tick_of ms word) (w.member m).status (w.member m)
    past_row (Rx m k ms) = past_step m (receipt_of w k ms) (w.member m).status (w.member m)
    past_row (Open m told ms word) = λ y i. omega (arith, past y i)
    past_row (Send m) = λ y i. omega (arith, past y i)
    past_row (Ext frame) = λ y i. omega (arith, past y i)
    past_row (Crash m calls pattern) = λ y i. omega (arith, past y i)
    past_row (Fault m call) = λ y i. omega (arith, past y i)
    past_row (AOpen b uid pref ms word) = λ y i. omega (arith, past y i)
    past_row (ATick b ms word) = λ y i. omega (arith, past y i)
    past_row (ARx b k ms word) = λ y i. omega (arith, past y i)
    past_row (ASend b) = λ y i. omega (arith, past y i)
    past_row (AEnd b) = λ y i. omega (arith, past y i)

    -- ---- a step of another member

    by_other : (m : ℕ) (event : Event) (status : MemberStatus) (x : Member) → (m ≡ n → ⊥)
        → WaitsLast n (transfers_of_step number m event status x made) (w.member n).status
    by_other m event Down x other u up peer request pending y i own high to = inv u up peer request pending y i own high to
    by_other m event (Failed failure) x other u up peer request pending y i own high to = inv u up peer request pending y i own high to
    by_other m event (Up t) x other u up peer request pending y i own high to = by (are_put (puts_of x (step t number event).step_state) x.disk.calls) i own high to where
      by : (b : Bool) → In y (if b then transfers_of_offers number m (step t number event).step_state.offers made else made)
          → y.by ≡ n → 8 ≤ rank y.offer.what → y.offer.to ≡ peer → y.step ≤ request.step
      by false i own high to = inv u up peer request pending y i own high to
      by true i own high to = elim (made_when number m (step t number event).step_state.offers made y i) [
        | inl j ↦ inv u up peer request pending y j own high to
        | inr new ↦ absurd (other (ap (λ (z : SentTransfer). z.by) (sym new.is) ∙ own))
      ]

    -- ---- its own step

    module _ (event : Event) (t : AllocatorState) (runs : (w.member n).status ≡ Up t) where
      abbrev g : StepState
      g = (step t number event).step_state

      own_new : (u : AllocatorState) → g.allocator ≡ u → (peer : ℕ) (request : Request) → u.raft_server.memory.pending peer ≡ Some request → (y : SentTransfer)
          → In y made ⊎ IsNew number n g.offers y → y.by ≡ n → 8 ≤ rank y.offer.what → y.offer.to ≡ peer → y.step ≤ request.step
      own_new u is peer request pending y from own high to = by from where
        then_ : g.allocator.raft_server.memory.pending peer ≡ Some request
        then_ = ap (λ (v : AllocatorState). v.raft_server.memory.pending peer) is ∙ pending

        by : In y made ⊎ IsNew number n g.offers y → y.step ≤ request.step
        by (inl i) = elim (called t number event peer request then_) [
          | inl stays ↦ inv t runs peer request (sym stays.pending ∙ then_) y i own high to
          | inr now ↦ omega (arith, past y i, now.step)
        ]
        by (inr new) =
            let of : y.offer ≡ new.offer = ap (λ (z : SentTransfer). z.offer) new.is in
            omega (
              arith,
              ap (λ (z : SentTransfer). z.step) new.is,
              settled t number event new.offer new.offered (subst (λ (o : Offer). 8 ≤ rank o.what) of high) new.fitted request
                  (ap (λ (p : ℕ). g.allocator.raft_server.memory.pending p) (ap (λ (o : Offer). o.to) (sym of) ∙ to) ∙ then_),
            )

      by_itself : WaitsLast n (transfers_of_step number n event (Up t) (w.member n) made) (member_after_step number event (Up t) (w.member n)).status
      by_itself u up peer request pending y = by (are_put (puts_of (w.member n) g) (w.member n).disk.calls) up where
        cut : (b : Bool) (failed : Member) → ((v : AllocatorState) → failed.status ≡ Up v → ⊥)
            → (if b then stopped_with (w.member n).pattern (puts_on (puts_of (w.member n) g) (w.member n).disk) (w.member n) else failed).status ≡ Up u → ⊥
        cut true failed never e = absurd (cc (e))
        cut false failed never e = never u e

        by : (b : Bool)
            → (if b then record (w.member n) { status = Up g.allocator; disk = puts_on (puts_of (w.member n) g) (w.member n).disk }
            else after_cut_off (w.member n) number t g (puts_on (puts_of (w.member n) g) (w.member n).disk)).status ≡ Up u
            → In y (if b then transfers_of_offers number n g.offers made else made)
            → y.by ≡ n → 8 ≤ rank y.offer.what → y.offer.to ≡ peer → y.step ≤ request.step
        by true e i own high to = own_new u (one_up g.allocator u e) peer request pending y (made_when number n g.offers made y i) own high to
        by false e i own high to = absurd (cut (puts_on (puts_of (w.member n) g) (w.member n).disk).calls.stopped _ (λ v f. absurd (cc (f))) e)

    by_status : (event : Event) (status : MemberStatus) → (w.member n).status ≡ status
        → WaitsLast n (transfers_of_step number n event status (w.member n) made) (member_after_step number event status (w.member n)).status
    by_status event Down runs u up = absurd (cc (sym runs ∙ up))
    by_status event (Failed failure) runs u up = absurd (cc (sym runs ∙ up))
    by_status event (Up t) runs u up = by_itself event t runs u up

    stepped : (m : ℕ) (event : Event) (same : Bool) → (n == m) ≡ same
        → WaitsLast n (transfers_of_step number m event (w.member m).status (w.member m) made)
        (if same then member_after_step number event (w.member m).status (w.member m) else w.member n).status
    stepped m event false e = by_other m event (w.member m).status (w.member m)
        (λ is. elim (eqb_tells n m) [ inl s ↦ absurd (cc (sym e ∙ s.0)) | inr apart ↦ apart.1 (sym is) ])
    stepped m event true e =
        let same : n ≡ m = elim (eqb_tells n m) [ inl s ↦ s.1 | inr apart ↦ absurd (cc (sym apart.0 ∙ e)) ] in
        subst (λ (k : ℕ). WaitsLast n (transfers_of_step number k event (w.member k).status (w.member k) made)
        (member_after_step number event (w.member k).status (w.member k)).status) same (by_status event (w.member n).status refl)

    -- ---- other rows

    opened : (m : ℕ) (rules : Rules) (ms word : ℕ) (u : AllocatorState) → (after_opening m rules ms word (w.member m)).status ≡ Up u → (peer : ℕ)
        → u.raft_server.memory.pending peer ≡ None
    opened m rules ms word u up peer = by (is_open_on (w.member m).disk) up where
      failed : (b : Bool) → (if b then stopped_with (w.member m).pattern (opening_on (w.member m).disk) (w.member m)
          else record (w.member m) { status = Down; disk = opening_on (w.member m).disk }).status ≡ Up u → ⊥
      failed true f = absurd (cc (f))
      failed false f = absurd (cc (f))

      by : (b : Bool) → (if b then record (w.member m) {
        status = Up (opening_by m rules (Rattle.raft_core.specs.StoredPuts.store_of (opening_on (w.member m).disk).store) ms word);
        disk = opening_on (w.member m).disk;
      } else after_failed_opening (w.member m) (opening_on (w.member m).disk)).status ≡ Up u → u.raft_server.memory.pending peer ≡ None
      by true e = ap (λ (v : AllocatorState). v.raft_server.memory.pending peer)
          (sym (one_up (opening_by m rules (Rattle.raft_core.specs.StoredPuts.store_of (opening_on (w.member m).disk).store) ms word) u e))
      by false e = absurd (failed (opening_on (w.member m).disk).calls.stopped e)

    open_by : (m : ℕ) (rules : Rules) (ms word : ℕ) (same : Bool) → WaitsLast n made (if same then after_opening m rules ms word (w.member m) else w.member n).status
    open_by m rules ms word false u up peer request pending = inv u up peer request pending
    open_by m rules ms word true u up peer request pending = absurd (cc (sym (opened m rules ms word u up peer) ∙ pending))

    send_by : (m : ℕ) (same : Bool) → (n == m) ≡ same
        → WaitsLast n made (if same then record (w.member m) { status = after_sending (w.member m).status } else w.member n).status
    send_by m false e u up peer request pending = inv u up peer request pending
    send_by m true e u up peer request pending = by (w.member m).status refl up where
      same : n ≡ m
      same = elim (eqb_tells n m) [ inl s ↦ s.1 | inr apart ↦ absurd (cc (sym apart.0 ∙ e)) ]

      by : (status : MemberStatus) → (w.member m).status ≡ status → after_sending status ≡ Up u → (x : SentTransfer) → In x made → x.by ≡ n → 8 ≤ rank x.offer.what
          → x.offer.to ≡ peer → x.step ≤ request.step
      by Down runs f = absurd (cc (f))
      by (Failed failure) runs f = absurd (cc (f))
      by (Up t) runs f = inv t (ap (λ (k : ℕ). (w.member k).status) same ∙ runs) peer request
          (ap (λ (v : AllocatorState). v.raft_server.memory.pending peer) (one_up (after_pop t) u f) ∙ pending)

    crash_by : (m calls : ℕ) (pattern : _) → (same : Bool) → (n == m) ≡ same
        → WaitsLast n made (if same then after_crash calls pattern (w.member m) else w.member n).status
    crash_by m calls pattern false e u up = inv u up
    crash_by m calls pattern true e u up = by (calls == 0) up where
      same : n ≡ m
      same = elim (eqb_tells n m) [ inl s ↦ s.1 | inr apart ↦ absurd (cc (sym apart.0 ∙ e)) ]

      by : (b : Bool) → (if b then stopped_with pattern (w.member m).disk (w.member m) else with_stop_armed calls pattern (w.member m)).status ≡ Up u
          → (peer : ℕ) (request : Request) → u.raft_server.memory.pending peer ≡ Some request → (x : SentTransfer) → In x made → x.by ≡ n → 8 ≤ rank x.offer.what
          → x.offer.to ≡ peer → x.step ≤ request.step
      by true f = absurd (cc (f))
      by false f = inv u (ap (λ (k : ℕ). (w.member k).status) same ∙ f)

    fault_by : (m : ℕ) (y : Member) → y.status ≡ (w.member m).status → (same : Bool) → (n == m) ≡ same → WaitsLast n made (if same then y else w.member n).status
    fault_by m y is false e u up = inv u up
    fault_by m y is true e u up =
        let same : n ≡ m = elim (eqb_tells n m) [ inl s ↦ s.1 | inr apart ↦ absurd (cc (sym apart.0 ∙ e)) ] in
        inv u (ap (λ (k : ℕ). (w.member k).status) same ∙ (sym is ∙ up))

    pub waits_on : (row : Row) → WaitsLast n (transfers_of_row w row made) ((after_row w row).member n).status
    waits_on (Open m told ms word) = open_by m (rules_of w.ids told) ms word (n == m)
    waits_on (Tick m ms word) = stepped m (tick_of ms word) (n == m) refl
    waits_on (Rx m k ms) = stepped m (receipt_of w k ms) (n == m) refl
    waits_on (Send m) = send_by m (n == m) refl
    waits_on (Ext frame) = inv
    waits_on (Crash m calls pattern) = crash_by m calls pattern (n == m) refl
    waits_on (Fault m call) = fault_by m _ refl (n == m) refl
    waits_on (AOpen b uid pref ms word) = inv
    waits_on (ATick b ms word) = inv
    waits_on (ARx b k ms word) = inv
    waits_on (ASend b) = inv
    waits_on (AEnd b) = inv

  pub waits_along : (n : ℕ) (rows : List Row) (w : Cluster) (made : List SentTransfer) → WaitsLast n made (w.member n).status → AreMadeBy w.rows made
      → WaitsLast n (transfers_of_rows w rows made) ((after_rows w rows).member n).status
  waits_along n [] w made inv past = inv
  waits_along n (row ∷ rows) w made inv past =
      waits_along n rows (after_row w row) (transfers_of_row w row made) (waits_on n w made inv past row) (past_row n w made inv past row)
