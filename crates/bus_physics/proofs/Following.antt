-- Along rows in which frames come in order the sessions of a member keep frames that it heard, and none that was made
-- before a first frame that it heard.
use Rattle.std.proofs.Common.{◌≡◌, ℕ, ◌+◌, Bool, true, false, List, [], ◌∷◌, ◌++◌, refl, sym, ap, subst, ◌∙◌, inl, inr, append_assoc, append-nil}
use Rattle.std.specs.Prelude.{◌==◌, max, if◌then◌else◌}
use Rattle.std.proofs.lemmas.Bool.Decides.{eqb_tells}
use Rattle.std.proofs.lemmas.List.Elements.{All-nil}
use Rattle.raft_log.specs.KeyDisk.{are_put, is_open_on, opening_on, puts_on}
use Rattle.raft_core.specs.StoredPuts.{store_of}
use Rattle.raft_model.specs.Lists.{In}
use Rattle.bus_rows.specs.declared.row.Row.{Row}
use Rattle.bus_rows.specs.declared.row.Row.TheVariants.{AEnd, AOpen, ARx, ASend, ATick, Crash, Ext, Fault, Open, Rx, Send, Tick}
use Rattle.transfer_rx.specs.Origin.{CameWithKey}
use Rattle.transfer_rx.specs.Reassembly.{Arrival, next}
use Rattle.transfer_rx.specs.Sessions.{Session}
use Rattle.transfer_tx.specs.Queue.{Queued}
use Rattle.alloc_spec.specs.Accepted.{setting_for}
use Rattle.alloc_spec.specs.AllocatorState.{AllocatorState}
use Rattle.alloc_spec.specs.Rules.{Rules, opening_by}
use Rattle.alloc_spec.specs.Step.{Event, after_pop, step}
use Rattle.alloc_spec.specs.Step.Event.{Rx as Receives, Tick as Ticks}
use Rattle.alloc_spec.specs.StepState.{StepState}
use Rattle.bus_spec.specs.Cluster.{Cluster, after_row, after_rows, arrival_at, frame_at, receipt_of, rules_of, tick_of}
use Rattle.bus_spec.specs.Members.{Member, MemberStatus, after_crash, after_cut_off, after_failed_opening, after_opening, after_sending, member_after_step, puts_of, stopped_with, with_stop_armed}
use Rattle.bus_spec.specs.Members.MemberStatus.{Down, Failed, Up}
use Rattle.bus_agreement.specs.Frames.{AreHeard, CameFrom}
use Rattle.bus_agreement.proofs.Lists.{in_append, in_back, in_front}
use Rattle.bus_rows.specs.Timed.{Timed}
use Rattle.bus_physics.specs.Physics.{ComeInOrder, ComesInOrder, IsInOrder, IsRecent, Limits, WhereIts, heard_by, heard_in}
use Rattle.bus_physics.proofs.Members.{MemberLaws}
use Rattle.bus_physics.proofs.Restarts.{NoneLater, restarted}

one_up : (a b : AllocatorState) → Up a ≡ Up b → a ≡ b
one_up a b e = cc (e)

module _ (limits : Limits) (rows_at : List Timed) (n : ℕ) where
  pub record Keeps (heard : List Queued) (t : AllocatorState) : Type 0 where
    pub me : t.me ≡ n
    pub each : (s : Session) → In s t.sessions → NoneLater (setting_for n) (IsRecent limits rows_at) heard s
    pub kept : AreHeard heard (setting_for n) t.sessions

  abbrev pub KeepsIn : List Queued → MemberStatus → Type 0
  KeepsIn heard status = (t : AllocatorState) → status ≡ Up t → Keeps heard t

  module _ (laws : MemberLaws) (w : Cluster) (heard : List Queued) (inv : KeepsIn heard (w.member n).status) where
    abbrev number : ℕ
    number = w.rows + 1

    is_same : (m : ℕ) → (n == m) ≡ true → n ≡ m
    is_same m e = elim (eqb_tells n m) [ inl s ↦ s.1 | inr apart ↦ absurd (cc (sym apart.0 ∙ e)) ]

    -- a member that still runs after its step
    up_after : (t : AllocatorState) (event : Event) (x : Member) (u : AllocatorState) → (member_after_step number event (Up t) x).status ≡ Up u
        → (step t number event).step_state.allocator ≡ u
    up_after t event x u = by (are_put (puts_of x g) x.disk.calls) where
      g : StepState
      g = (step t number event).step_state

      cut : (b : Bool) (failed : Member) → ((v : AllocatorState) → failed.status ≡ Up v → ⊥)
          → (if b then stopped_with x.pattern (puts_on (puts_of x g) x.disk) x else failed).status ≡ Up u → ⊥
      cut true failed never e = absurd (cc (e))
      cut false failed never e = never u e

      by : (b : Bool) → (if b then record x { status = Up g.allocator; disk = puts_on (puts_of x g) x.disk }
          else after_cut_off x number t g (puts_on (puts_of x g) x.disk)).status ≡ Up u → g.allocator ≡ u
      by true e = one_up g.allocator u e
      by false e = absurd (cut (puts_on (puts_of x g) x.disk).calls.stopped _ (λ v f. absurd (cc (f))) e)

    ticks : (t : AllocatorState) → Keeps heard t → (ms word : ℕ) → Keeps heard (step t number (Ticks ms word)).step_state.allocator
    ticks t was ms word = record {
      me = laws.me t number (Ticks ms word) ∙ was.me;
      each = subst (λ (l : List Session). (s : Session) → In s l → NoneLater (setting_for n) (IsRecent limits rows_at) heard s) (sym (laws.ticked t number ms word)) was.each;
      kept = subst (λ (l : List Session). AreHeard heard (setting_for n) l) (sym (laws.ticked t number ms word)) was.kept;
    }

    receives : (t : AllocatorState) → Keeps heard t → (frame : Queued) (ms : ℕ) → ComesInOrder limits rows_at n heard frame
        → Keeps (heard ++ frame ∷ []) (step t number (Receives (arrival_at frame ms))).step_state.allocator
    receives t was frame ms order = record {
      me = laws.me t number (Receives (arrival_at frame ms)) ∙ was.me;
      each = subst (λ (l : List Session). (s : Session) → In s l → NoneLater (setting_for n) (IsRecent limits rows_at) (heard ++ frame ∷ []) s) (sym sessions)
          (restarted (setting_for n) (IsRecent limits rows_at) heard frame (max t.now ms) order t.sessions was.each);
      kept = subst (λ (l : List Session). AreHeard (heard ++ frame ∷ []) (setting_for n) l) (sym sessions) (record {
        arrivals = was.kept.arrivals ++ arrival_at frame (max t.now ms) ∷ [];
        come = λ a i. elim (in_append a was.kept.arrivals (arrival_at frame (max t.now ms) ∷ []) i) [
          | inl j ↦ further (was.kept.come a j)
          | inr (inl e) ↦ subst (CameFrom (heard ++ frame ∷ [])) (sym e)
              (record { frame = frame; there = in_back frame heard (frame ∷ []) (inl refl); id = refl; bytes = refl; mark = refl })
          | inr (inr j) ↦ absurd j
        ];
        kept = laws.kept (setting_for n) was.kept.arrivals (arrival_at frame (max t.now ms) ∷ []) t.sessions was.kept.kept;
      });
    }
      where
        sessions : (step t number (Receives (arrival_at frame ms))).step_state.allocator.sessions ≡ next (setting_for n) t.sessions (arrival_at frame (max t.now ms))
        sessions = laws.heard t number (arrival_at frame ms) ∙ ap (λ (m : ℕ). next (setting_for m) t.sessions (arrival_at frame (max t.now ms))) was.me

        further : {a : Arrival} → CameFrom heard a → CameFrom (heard ++ frame ∷ []) a
        further came = record {
          frame = came.frame;
          there = in_front came.frame heard (frame ∷ []) came.there;
          id = came.id;
          bytes = came.bytes;
          mark = came.mark;
        }

    nothing_more : (status : MemberStatus) → KeepsIn heard status → KeepsIn (heard ++ []) status
    nothing_more status keeps = subst (λ (l : List Queued). KeepsIn l status) (sym (append-nil heard)) keeps

    tick_by : (m ms word : ℕ) (same : Bool) → (n == m) ≡ same
        → KeepsIn heard (if same then member_after_step number (tick_of ms word) (w.member m).status (w.member m) else w.member n).status
    tick_by m ms word false e = inv
    tick_by m ms word true e = by (w.member m).status refl where
      by : (status : MemberStatus) → (w.member m).status ≡ status → KeepsIn heard (member_after_step number (tick_of ms word) status (w.member m)).status
      by Down runs u up = absurd (cc (sym runs ∙ up))
      by (Failed failure) runs u up = absurd (cc (sym runs ∙ up))
      by (Up t) runs u up = subst (Keeps heard) (up_after t (tick_of ms word) (w.member m) u up)
          (ticks t (inv t (ap (λ (k : ℕ). (w.member k).status) (is_same m e) ∙ runs)) ms word)

    rx_by : (m k ms : ℕ) (same : Bool) → (n == m) ≡ same → WhereIts same (ComesInOrder limits rows_at n heard (frame_at w.frames k))
        → KeepsIn (heard ++ (if same then frame_at w.frames k ∷ [] else []))
        (if same then member_after_step number (receipt_of w k ms) (w.member m).status (w.member m) else w.member n).status
    rx_by m k ms false e order = nothing_more (w.member n).status inv
    rx_by m k ms true e order = by (w.member m).status refl where
      by : (status : MemberStatus) → (w.member m).status ≡ status
          → KeepsIn (heard ++ frame_at w.frames k ∷ []) (member_after_step number (receipt_of w k ms) status (w.member m)).status
      by Down runs u up = absurd (cc (sym runs ∙ up))
      by (Failed failure) runs u up = absurd (cc (sym runs ∙ up))
      by (Up t) runs u up = subst (Keeps (heard ++ frame_at w.frames k ∷ [])) (up_after t (receipt_of w k ms) (w.member m) u up)
          (receives t (inv t (ap (λ (j : ℕ). (w.member j).status) (is_same m e) ∙ runs)) (frame_at w.frames k) ms order)

    opened : (m : ℕ) (rules : Rules) (ms word : ℕ) → n ≡ m → KeepsIn heard (after_opening m rules ms word (w.member m)).status
    opened m rules ms word same u up = by (is_open_on (w.member m).disk) up where
      failed : (b : Bool) → (if b then stopped_with (w.member m).pattern (opening_on (w.member m).disk) (w.member m)
          else record (w.member m) { status = Down; disk = opening_on (w.member m).disk }).status ≡ Up u → ⊥
      failed true f = absurd (cc (f))
      failed false f = absurd (cc (f))

      by : (b : Bool) → (if b then record (w.member m) {
        status = Up (opening_by m rules (store_of (opening_on (w.member m).disk).store) ms word);
        disk = opening_on (w.member m).disk;
      } else after_failed_opening (w.member m) (opening_on (w.member m).disk)).status ≡ Up u → Keeps heard u
      by true e = subst (Keeps heard) (one_up (opening_by m rules (store_of (opening_on (w.member m).disk).store) ms word) u e)
          (record {
            me = sym same;
            each = λ s i. absurd i;
            kept = record { arrivals = []; come = λ a i. absurd i; kept = All-nil (CameWithKey (setting_for n) []) };
          })
      by false e = absurd (failed (opening_on (w.member m).disk).calls.stopped e)

    open_by : (m : ℕ) (rules : Rules) (ms word : ℕ) (same : Bool) → (n == m) ≡ same
        → KeepsIn heard (if same then after_opening m rules ms word (w.member m) else w.member n).status
    open_by m rules ms word false e = inv
    open_by m rules ms word true e = opened m rules ms word (is_same m e)

    send_by : (m : ℕ) (same : Bool) → (n == m) ≡ same
        → KeepsIn heard (if same then record (w.member m) { status = after_sending (w.member m).status } else w.member n).status
    send_by m false e = inv
    send_by m true e = by (w.member m).status refl where
      by : (status : MemberStatus) → (w.member m).status ≡ status → KeepsIn heard (after_sending status)
      by Down runs u up = absurd (cc (up))
      by (Failed failure) runs u up = absurd (cc (up))
      by (Up t) runs u up =
          let was = inv t (ap (λ (k : ℕ). (w.member k).status) (is_same m e) ∙ runs) in
          subst (Keeps heard) (one_up (after_pop t) u up) (record { me = was.me; each = was.each; kept = was.kept })

    crash_by : (m calls : ℕ) (pattern : _) → (same : Bool) → (n == m) ≡ same
        → KeepsIn heard (if same then after_crash calls pattern (w.member m) else w.member n).status
    crash_by m calls pattern false e u up = inv u up
    crash_by m calls pattern true e u up = by (calls == 0) up where
      by : (b : Bool) → (if b then stopped_with pattern (w.member m).disk (w.member m) else with_stop_armed calls pattern (w.member m)).status ≡ Up u
          → Keeps heard u
      by true f = absurd (cc (f))
      by false f = inv u (ap (λ (k : ℕ). (w.member k).status) (is_same m e) ∙ f)

    fault_by : (m : ℕ) (y : Member) → y.status ≡ (w.member m).status → (same : Bool) → (n == m) ≡ same → KeepsIn heard (if same then y else w.member n).status
    fault_by m y is false e u up = inv u up
    fault_by m y is true e u up = inv u (ap (λ (k : ℕ). (w.member k).status) (is_same m e) ∙ (sym is ∙ up))

    pub follows : (row : Row) → IsInOrder limits rows_at n heard w row → KeepsIn (heard ++ heard_in n w row) ((after_row w row).member n).status
    follows (Open m told ms word) order = nothing_more ((after_row w (Open m told ms word)).member n).status (open_by m (rules_of w.ids told) ms word (n == m) refl)
    follows (Tick m ms word) order = nothing_more ((after_row w (Tick m ms word)).member n).status (tick_by m ms word (n == m) refl)
    follows (Rx m k ms) order = rx_by m k ms (n == m) refl order
    follows (Send m) order = nothing_more ((after_row w (Send m)).member n).status (send_by m (n == m) refl)
    follows (Ext frame) order = nothing_more (w.member n).status inv
    follows (Crash m calls pattern) order = nothing_more ((after_row w (Crash m calls pattern)).member n).status (crash_by m calls pattern (n == m) refl)
    follows (Fault m call) order = nothing_more ((after_row w (Fault m call)).member n).status (fault_by m _ refl (n == m) refl)
    follows (AOpen b uid pref ms word) order = nothing_more (w.member n).status inv
    follows (ATick b ms word) order = nothing_more (w.member n).status inv
    follows (ARx b k ms word) order = nothing_more (w.member n).status inv
    follows (ASend b) order = nothing_more (w.member n).status inv
    follows (AEnd b) order = nothing_more (w.member n).status inv

  pub follow : (laws : MemberLaws) (rows : List Row) (w : Cluster) (heard : List Queued) → KeepsIn heard (w.member n).status → ComeInOrder limits rows_at n heard w rows
      → KeepsIn (heard ++ heard_by n w rows) ((after_rows w rows).member n).status
  follow laws [] w heard inv order = nothing_more laws w heard inv (w.member n).status inv
  follow laws (row ∷ rows) w heard inv order = subst (λ (l : List Queued). KeepsIn l ((after_rows (after_row w row) rows).member n).status)
      (append_assoc heard (heard_in n w row) (heard_by n (after_row w row) rows))
      (follow laws rows (after_row w row) (heard ++ heard_in n w row) (follows laws w heard inv row order.0) order.1)
