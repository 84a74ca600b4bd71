-- A frame from elsewhere that is not forged may be given to any server: it completes no member's transfer, and no call takes what it completes.
use Rattle.std.proofs.Common.{◌≡◌, ℕ, Bool, true, false, List, refl, sym, ap, ◌∙◌, Option, None, Some, inl, inr}
use Rattle.std.specs.Prelude.{◌&&◌, ◌||◌, max, nat_eq, nat_le, not, if◌then◌else◌, ◌==◌}
use Rattle.can_frame.specs.declared.identifier.Ident.{Ident}
use Rattle.can_frame.specs.declared.identifier.Kind.{Kind}
use Rattle.can_frame.specs.declared.identifier.Kind.TheVariants.{Anonymous, Message, Request, Response}
use Rattle.can_frame.specs.declared.step.Judged.TheVariants.{Fine, Stale, Torn}
use Rattle.can_frame.specs.Identifier.{identifier_of}
use Rattle.can_frame.specs.Kinds.{is_response}
use Rattle.raft_core.specs.Times.{Sending}
use Rattle.raft_model.specs.Messages.{Request as Call}
use Rattle.transfer_rx.specs.Reassembly.{Answer, Arrival, Delivery, Setting, answer}
use Rattle.transfer_rx.specs.Reassembly.Answer.{Continues, Drops, Gives}
use Rattle.transfer_rx.specs.Sessions.{Session}
use Rattle.transfer_rx.specs.Sound.{IsDelivered}
use Rattle.alloc_spec.specs.Accepted.{rows, setting_for}
use Rattle.alloc_spec.specs.Judging.{is_stale, answer_judgement, arrival_judgement, misses}
use Rattle.alloc_spec.specs.AllocatorState.{AllocatorState}
use Rattle.bus_spec.specs.Cluster.{is_member}
use Rattle.bus_spec.specs.Lawful.{is_forged, cause_of_judgement}
use Rattle.bus_agreement.proofs.Idents.{wanted_is}
use Rattle.bus_agreement.proofs.Lists.{both, never, tell}

-- what is completed under an identifier has its kind and number
abbrev IsCompletedBy : ℕ → Delivery → Type 0
IsCompletedBy id d = identifier_of id ≡ Some d.ident

serves : (append : Bool) (number : ℕ) → nat_eq number (if append then 30 else 31) ≡ true → ((number == 30) || (number == 31)) ≡ true
serves true number e = ap (λ (b : Bool). b || (number == 31)) e
serves false number e = after (number == 30) e
  where
    after : (b : Bool) → (number == 31) ≡ true → (b || (number == 31)) ≡ true
    after true e = refl
    after false e = e

-- whoever would take it answers one of the two services
taken : (d : Delivery) (now : ℕ) (call : Option Call) (sending : Option Sending) → misses d now call sending ≡ true → ((d.ident.number == 30) || (d.ident.number == 31)) ≡ true
taken d now None sending e = never e
taken d now (Some call) None e = never e
taken d now (Some call) (Some sending) e = serves call.append d.ident.number (both _ _ (both _ _ e).0).0

forged : (ids : List ℕ) (ident : Ident) → is_response ident.kind ≡ true → ((ident.number == 30) || (ident.number == 31)) ≡ true → is_forged ids (Some ident) ≡ true
forged ids ident kind number = by ident.kind kind (is_member ids ident.source)
  where
    or_true : (b c : Bool) → c ≡ true → (b || c) ≡ true
    or_true true c e = refl
    or_true false c e = e

    by : (k : Kind) → is_response k ≡ true → (b : Bool) → is_forged ids (Some (record ident { kind = k })) ≡ true
    by Message e b = never e
    by Anonymous e b = never e
    by Request e b = never e
    by Response e b = or_true (is_member ids ident.source) ((ident.number == 30) || (ident.number == 31)) number

not_stale : (ids : List ℕ) (id : ℕ) (t : AllocatorState) (d : Delivery) (now : ℕ) → is_forged ids (identifier_of id) ≡ false → IsCompletedBy id d → is_stale t d now ≡ false
not_stale ids id t d now foreign completed = elim (tell (is_stale t d now)) [
  | inr e ↦ e
  | inl e ↦
      let r = both (is_response d.ident.kind && nat_le d.ident.source 125) (misses d now (t.raft_server.memory.pending d.ident.source) (t.times.sending d.ident.source)) e in
      never (sym foreign ∙ ap (is_forged ids) completed
      ∙ forged ids d.ident (both (is_response d.ident.kind) (nat_le d.ident.source 125) r.0).0 (taken d now (t.raft_server.memory.pending d.ident.source) (t.times.sending d.ident.source) r.1))
]

passes : (whole stale : Bool) → stale ≡ false → cause_of_judgement (if not whole && not (nat_eq 0 0) then Torn else (if stale then Stale else Fine)) ≡ None
passes true stale e = ap (λ (b : Bool). cause_of_judgement (if b then Stale else Fine)) e
passes false stale e = ap (λ (b : Bool). cause_of_judgement (if b then Stale else Fine)) e

module _ (deliveries : (setting : Setting) (sessions : List Session) (arrival : Arrival) (delivery : Delivery) → answer setting sessions arrival ≡ Gives delivery → IsDelivered setting sessions arrival delivery) where
  judged_fine : (ids : List ℕ) (t : AllocatorState) (arrival : Arrival) → is_forged ids (identifier_of arrival.id) ≡ false → (now : ℕ) (a : Answer)
      → answer (setting_for t.me) t.sessions arrival ≡ a → cause_of_judgement (answer_judgement t 0 now a) ≡ None
  judged_fine ids t arrival foreign now (Gives d) e =
      let is = deliveries (setting_for t.me) t.sessions arrival d e in
      let read : identifier_of arrival.id ≡ Some is.w.ident = (wanted_is rows t.me arrival.id is.w is.accepted).read in
      passes d.whole (is_stale t d now) (not_stale ids arrival.id t d now foreign (read ∙ ap (λ (i : Ident). Some i) (sym is.ident)))
  judged_fine ids t arrival foreign now Continues e = refl
  judged_fine ids t arrival foreign now (Drops why) e = refl

  pub foreign_fine : (ids : List ℕ) (t : AllocatorState) (arrival : Arrival) → arrival.mark.step ≡ 0 → is_forged ids (identifier_of arrival.id) ≡ false → cause_of_judgement (arrival_judgement t arrival) ≡ None
  unfolding arrival_judgement
  foreign_fine ids t arrival zero foreign =
      ap (λ (n : ℕ). cause_of_judgement (answer_judgement t n (max t.now arrival.moment) (answer (setting_for t.me) t.sessions (record arrival { moment = max t.now arrival.moment })))) zero
      ∙ judged_fine ids t (record arrival { moment = max t.now arrival.moment }) foreign (max t.now arrival.moment) (answer (setting_for t.me) t.sessions (record arrival { moment = max t.now arrival.moment })) refl
