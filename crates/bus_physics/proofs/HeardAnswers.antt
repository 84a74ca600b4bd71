-- An answer that a member's call takes is heard as one to the last call that it made to the node.
use Rattle.std.proofs.Common.{◌≡◌, ℕ, ◌+◌, ◌<◌, ◌≤◌, Bool, true, false, List, [], ◌∷◌, ◌++◌, refl, sym, ap, subst, ◌∙◌, arith, inl, inr, Option, Some, None}
use Rattle.std.specs.Prelude.{◌==◌, ◌&&◌, max, not, nat_eq, nat_le, if◌then◌else◌}
use Rattle.std.proofs.lemmas.Bool.Decides.{eqb_tells, leb_tells}
use Rattle.can_frame.specs.declared.identifier.Ident.{Ident}
use Rattle.can_frame.specs.declared.identifier.Kind.TheVariants.{Response}
use Rattle.can_frame.specs.declared.mark.Mark.{Mark}
use Rattle.can_frame.specs.declared.step.What.{What}
use Rattle.can_frame.specs.declared.step.Judged.TheVariants.{Fine}
use Rattle.can_frame.specs.Kinds.{is_service, is_anonymous, is_response}
use Rattle.raft_core.specs.Times.{Sending, Times, awaits}
use Rattle.raft_model.specs.Lists.{In}
use Rattle.raft_model.specs.Messages.{Request}
use Rattle.raft_model.specs.Runs as raft
use Rattle.raft_model.specs.Server.{Memory}
use Rattle.bus_rows.specs.declared.row.Row.{Row}
use Rattle.bus_rows.specs.declared.row.Row.TheVariants.{Rx}
use Rattle.transfer_rx.specs.Acceptance.{is_for}
use Rattle.transfer_rx.specs.Reassembly.{Arrival, Delivery, Gives, answer}
use Rattle.transfer_rx.specs.Sound.{IsDelivered}
use Rattle.transfer_tx.specs.Queue.{Queued}
use Rattle.alloc_spec.specs.Accepted.{rows, setting_for}
use Rattle.alloc_spec.specs.AllocatorState.{AllocatorState, members_of}
use Rattle.alloc_spec.specs.Judging.{arrival_judgement, is_stale, misses, service_of, would_take}
use Rattle.alloc_spec.specs.Step.{begin_phase}
use Rattle.alloc_spec.specs.Transfers.{SentTransfer, kind_of, number_of}
use Rattle.alloc_spec_laws.proofs.Choices.{eq_false, eq_true}
use Rattle.alloc_spec_laws.proofs.DistinctTransfers.{rank}
use Rattle.bus_spec.specs.declared.unlawful.Unlawful.{Unlawful}
use Rattle.alloc_spec.specs.ClusterMembers.{AreMembers}
use Rattle.bus_spec.specs.Cluster.{Cluster, arrival_at, frame_at, receipt_of}
use Rattle.bus_spec.specs.Lawful.{arrival_refusal, cause, no_node, no_such_frame, not_running, or_else}
use Rattle.bus_spec.specs.Members.{MemberStatus}
use Rattle.bus_spec.specs.Members.MemberStatus.{Up}
use Rattle.bus_agreement.specs.Frames.{WasMade}
use Rattle.bus_agreement.specs.LawsBelow.{FrameLaws}
use Rattle.bus_agreement.specs.Said.{IsCalled, carrier}
use Rattle.bus_agreement.specs.Shows.{Shows, ShowsMember, ShowsUp}
use Rattle.bus_agreement.proofs.Deliveries.{listed_in}
use Rattle.bus_agreement.proofs.DeliveredTransfers.{was_made}
use Rattle.bus_agreement.proofs.Idents.{IsWanted, one_what, service_is, wanted_is}
use Rattle.bus_agreement.proofs.Lists.{in_back, never}
use Rattle.bus_agreement.proofs.OneRow.{is_fine, stands}
use Rattle.bus_agreement.proofs.RowsWithoutEvents.{is_one, past_first}
use Rattle.bus_agreement.proofs.TakenMessages.{IsAwaited, awaited_by, is_vote}
use Rattle.bus_agreement.proofs.WaitingCalls.{Waits, waited}
use Rattle.bus_agreement.proofs.WholeTransfers.{members_own}
use Rattle.bus_physics.specs.Physics.{heard_in}
use Rattle.bus_physics.proofs.AnswerOrder.{answerer}
use Rattle.bus_physics.proofs.Fine.{IsFine, judged_fine, judges_fine}
use Rattle.bus_physics.proofs.SpacedCalls.{Answers, IsHeard}
use Rattle.bus_physics.proofs.StepCalls.{IsAnswerOf, IsSpaced}
use Rattle.bus_physics.proofs.Waiting.{WaitsLast}

-- ---- what is not stale answers the call that waits

and_true : (a b : Bool) → a ≡ true → b ≡ true → (a && b) ≡ true
and_true true b e f = f
and_true false b e f = never e

same : (a b : ℕ) → a ≡ b → nat_eq a b ≡ true
same a b e = elim (eqb_tells a b) [ inl s ↦ s.0 | inr differ ↦ absurd (differ.1 e) ]

module _ (t : AllocatorState) (d : Delivery) (now : ℕ) (fresh : is_stale t d now ≡ false) (kind : d.ident.kind ≡ Response) (member : d.ident.source ≤ 125)
    (call : Request) (sending : Sending) (waits : Waits t now d.ident.source call sending) (number : d.ident.number ≡ service_of call) (id : sending.id ≡ d.id) where
  taken : would_take d now call sending ≡ true
  taken = and_true (nat_eq d.ident.number (service_of call)) _ (same d.ident.number (service_of call) number)
      (and_true (nat_eq d.id sending.id) _ (same d.id sending.id (sym id)) (grind (arith, leb_tells, waits.young)))

  missed : nat_eq d.mark.re call.step ≡ false → misses d now (t.raft_server.memory.pending d.ident.source) (t.times.sending d.ident.source) ≡ true
  missed e =
      ap (λ (o : Option Request). misses d now o (t.times.sending d.ident.source)) waits.pending
      ∙ (ap (λ (o : Option Sending). misses d now (Some call) o) waits.sent
      ∙ and_true (would_take d now call sending) (not (nat_eq d.mark.re call.step)) taken (ap not e))

  answers_it : d.mark.re ≡ call.step
  answers_it = elim (eqb_tells d.mark.re call.step) [
    | inl is ↦ is.1
    | inr differ ↦ never (sym fresh ∙ and_true (is_response d.ident.kind && nat_le d.ident.source 125) _
        (and_true (is_response d.ident.kind) (nat_le d.ident.source 125) (ap is_response kind) (grind (arith, leb_tells, member))) (missed differ.0))
  ]

-- ---- the answer that was heard

module _ (append : Bool) (p width : ℕ) (P : ℕ → ℕ → Memory → Times → ℕ → Type 0) (spaced : IsSpaced append p width P) (small : p < 128) (n : ℕ) (laws : FrameLaws) (choice : ℕ → Bool) (made : List SentTransfer) (w : Cluster) (run : raft.World)
    (members : AreMembers w.ids) (shows : Shows choice made w run) (last : WaitsLast n made (w.member n).status) where
  low : (m : ℕ) → In m w.ids → 1 ≤ m
  low m i = (members.nodes m i).0

  high : (m : ℕ) → In m w.ids → m ≤ 125
  high m i = (members.nodes m i).1

  module _ (k ms : ℕ) (lawful : cause w (Rx n k ms) ≡ None) (t : AllocatorState) (runs : (w.member n).status ≡ Up t) (d : Delivery)
      (gives : answer (setting_for t.me) t.sessions (arrival_at (frame_at w.frames k) (max t.now ms)) ≡ Gives d)
      (is : IsAnswerOf append p d (members_of t) (begin_phase (w.rows + 1) ms t).allocator.raft_server (begin_phase (w.rows + 1) ms t).allocator.times) where
    abbrev coming : Arrival
    coming = arrival_at (frame_at w.frames k) (max t.now ms)

    abbrev last_cause : Option Unlawful
    last_cause = arrival_refusal (w.member n).status (arrival_at (frame_at w.frames k) ms)

    first : (no_node w n ≡ None) × (or_else (not_running w n) (or_else (no_such_frame w k) last_cause) ≡ None)
    first = past_first (no_node w n) (or_else (not_running w n) (or_else (no_such_frame w k) last_cause)) lawful

    second : (not_running w n ≡ None) × (or_else (no_such_frame w k) last_cause ≡ None)
    second = past_first (not_running w n) (or_else (no_such_frame w k) last_cause) first.1

    third : (no_such_frame w k ≡ None) × (last_cause ≡ None)
    third = past_first (no_such_frame w k) last_cause second.1

    there : ShowsUp made w.ids w.frames run n t (w.member n).disk
    there = subst (λ (status : MemberStatus). ShowsMember choice made w.ids w.frames run n status (w.member n).disk) runs (shows.lives n (is_one w n first.0))

    own : ShowsUp made w.ids w.frames run t.me t (w.member t.me).disk
    own = subst (λ (m : ℕ). ShowsUp made w.ids w.frames run m t (w.member m).disk) (sym there.runs.me) there

    some : 1 ≤ t.me
    some = subst (λ (m : ℕ). 1 ≤ m) (sym there.runs.me) (low n (is_one w n first.0))

    fine : arrival_judgement t (arrival_at (frame_at w.frames k) ms) ≡ Fine
    fine = is_fine (arrival_judgement t (arrival_at (frame_at w.frames k) ms))
        (subst (λ (status : MemberStatus). arrival_refusal status (arrival_at (frame_at w.frames k) ms) ≡ None) runs third.1)

    its : IsDelivered (setting_for t.me) t.sessions coming d
    its = laws.delivered (setting_for t.me) t.sessions coming d gives

    judged : IsFine t (max t.now ms) d
    judged = judged_fine t (frame_at w.frames k).mark.step (max t.now ms) _ d gives (judges_fine t (arrival_at (frame_at w.frames k) ms) fine) (ap (λ (m : Mark). m.step) its.mark)

    source : In d.ident.source w.ids
    source = there.works.among d.ident.source (listed_in (members_of t) d.ident.source is.listed)

    one : WasMade made d
    one = was_made laws w.ids low high made shows.holds.transfers (setting_for t.me) w.frames shows.bus t.sessions own.works.heard coming
        (record { frame = frame_at w.frames k; there = stands w k third.0; id = refl; bytes = refl; mark = refl }) d gives judged.untorn
        (members_own w.ids d.ident source (ap is_anonymous is.kind)) (inl some)

    wants : IsWanted rows t.me coming.id its.w.ident
    wants = wanted_is rows t.me coming.id its.w its.accepted

    dest : d.ident.dest ≡ n
    dest = service_is t.me some d.ident (ap is_service is.kind) (ap (λ (i : Ident). is_for t.me i) its.ident ∙ wants.for_me) ∙ there.runs.me

    number : (a : Bool) → append ≡ a → d.ident.number ≡ number_of (carrier a)
    number true e = eq_true d.ident.number 30 (is.service ∙ e)
    number false e = sym one.2.number ∙ ap number_of (is_vote one.0.offer.what (one.2.kind ∙ is.kind)
        (λ f. eq_false d.ident.number 1 is.other (sym one.2.number ∙ f)) (λ f. eq_false d.ident.number 30 (is.service ∙ e) (sym one.2.number ∙ f)))

    service : (a : Bool) (call : Request) → call.append ≡ a → number_of (carrier a) ≡ service_of call
    service true call e = ap (λ (b : Bool). if b then 30 else 31) (sym e)
    service false call e = ap (λ (b : Bool). if b then 30 else 31) (sym e)

    is_last : (a : Bool) → 8 ≤ rank (carrier a)
    is_last true = omega arith
    is_last false = omega arith

    answers_kind : (a : Bool) → kind_of (answerer a) ≡ Response
    answers_kind true = refl
    answers_kind false = refl

    answers_number : (a : Bool) → number_of (carrier a) ≡ number_of (answerer a)
    answers_number true = refl
    answers_number false = refl

    one_sending : (x y : Sending) → Some x ≡ Some y → x ≡ y
    one_sending x y e = cc (e)

    by_call : (call : Request) → (begin_phase (w.rows + 1) ms t).allocator.raft_server.memory.pending d.ident.source ≡ Some call
        → (frames : List Queued) → In (frame_at w.frames k) frames → IsHeard append p width P spaced small n made frames (w.rows + 1)
    by_call call pending frames heard = record {
      later = called.2.call;
      was_made = called.2.was_made;
      answer = frame_at w.frames k;
      came = heard;
      response = λ x c. record {
        ident = its.w.ident;
        read = wants.read;
        kind = ap (λ (i : Ident). i.kind) (sym its.ident) ∙ is.kind;
        service = ap (λ (i : Ident). i.number) (sym its.ident) ∙ (number append refl ∙ ap number_of (sym c.what));
        from = ap (λ (i : Ident). i.source) (sym its.ident) ∙ (sym is.from ∙ sym c.to);
        to = ap (λ (i : Ident). i.dest) (sym its.ident) ∙ (dest ∙ sym c.by);
      };
      answers = sym (ap (λ (m : Mark). m.re) its.mark) ∙ (answered ∙ sym called.2.step);
      call = record { by = called.2.maker ∙ there.runs.me; what = called.2.what ∙ ap carrier awaited.service; to = called.2.receiver ∙ sym is.from };
      responded = record {
        response = one.0;
        was_made = one.1;
        by = one.2.by ∙ sym is.from;
        what = one_what one.0.offer.what (answerer append) Response (number_of (answerer append)) (one.2.kind ∙ is.kind) (answers_kind append)
            (one.2.number ∙ (number append refl ∙ answers_number append)) refl;
        to = one.2.to ∙ dest;
        re = one.2.re ∙ (answered ∙ sym called.2.step);
        id = one.2.id ∙ (sym awaited.same ∙ (ap (λ (s : Sending). s.id) (one_sending awaited.sent called.0 (sym waits.sent ∙ called.1)) ∙ sym called.2.id));
      };
      last = λ x i c. omega (
        arith,
        called.2.step,
        last t runs d.ident.source call waits.pending x i c.by
            (subst (λ (what : What). 8 ≤ rank what) (sym c.what) (is_last append)) (c.to ∙ is.from),
      );
    }
      where
        awaited : IsAwaited ((begin_phase (w.rows + 1) ms t).allocator.times.sending d.ident.source) append d.id call
        awaited = awaited_by ((begin_phase (w.rows + 1) ms t).allocator.raft_server.memory.pending d.ident.source)
            ((begin_phase (w.rows + 1) ms t).allocator.times.sending d.ident.source) call append d.id pending is.awaited

        waits : Waits t (max t.now ms) d.ident.source call awaited.sent
        waits = waited t (w.rows + 1) ms d.ident.source (omega (arith, high d.ident.source source)) call awaited.sent pending awaited.is

        called : (sending : Sending) × (t.times.sending d.ident.source ≡ Some sending) × IsCalled made t d.ident.source call sending (carrier call.append)
        called = there.works.called d.ident.source call waits.pending

        answered : d.mark.re ≡ call.step
        answered = answers_it t d (max t.now ms) judged.fresh is.kind (high d.ident.source source) call awaited.sent waits
            (number append refl ∙ service append call awaited.service) awaited.same

    pub is_heard : (frames : List Queued) → In (frame_at w.frames k) frames → IsHeard append p width P spaced small n made frames (w.rows + 1)
    is_heard frames heard = by ((begin_phase (w.rows + 1) ms t).allocator.raft_server.memory.pending d.ident.source) refl where
      by : (pending : Option Request) → (begin_phase (w.rows + 1) ms t).allocator.raft_server.memory.pending d.ident.source ≡ pending
          → IsHeard append p width P spaced small n made frames (w.rows + 1)
      by None e = never (ap (λ (o : Option Request). awaits o ((begin_phase (w.rows + 1) ms t).allocator.times.sending d.ident.source) append d.id) (sym e)
          ∙ is.awaited)
      by (Some call) e = by_call call e frames heard

  pub answers_are_heard : (row : Row) → cause w row ≡ None → (heard : List Queued) (k ms : ℕ) → row ≡ Rx n k ms → (t : AllocatorState) → (w.member n).status ≡ Up t
      → Answers append p width P spaced small n (receipt_of w k ms) (begin_phase (w.rows + 1) ms t).allocator
      → IsHeard append p width P spaced small n made (heard ++ heard_in n w row) (w.rows + 1)
  answers_are_heard row lawful heard k ms e t runs a =
      is_heard k ms (ap (cause w) (sym e) ∙ lawful) t runs a.0 a.1 a.2 (heard ++ heard_in n w row)
      (in_back (frame_at w.frames k) heard (heard_in n w row) (subst (λ (l : List Queued). In (frame_at w.frames k) l) (sym (ap (heard_in n w) e ∙ itself)) (inl refl)))
    where
      itself : (if n == n then frame_at w.frames k ∷ [] else []) ≡ frame_at w.frames k ∷ []
      itself = elim (eqb_tells n n) [ inl s ↦ ap (λ (b : Bool). if b then frame_at w.frames k ∷ [] else []) s.0 | inr differ ↦ absurd (differ.1 refl) ]
