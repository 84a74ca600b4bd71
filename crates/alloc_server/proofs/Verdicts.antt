-- What a frame would deliver, and how it is judged.
use Rattle.std.proofs.Common.{◌≡◌, ℕ, Bool, true, List, Option, Some, None, refl, sym, ap, ◌∙◌, ◌≤◌, arith}
use Rattle.std.specs.Prelude.{max, nat_le, option_map, ◌&&◌}
use Rattle.can_frame.specs.declared.step.Judged.TheVariants.{Fine}
use Rattle.transfer_rx.specs.declared.transfer.Heading.{Heading}
use Rattle.transfer_rx.specs.Heard.{delivery_with, heading_in}
use Rattle.transfer_rx.specs.Reassembly.{Answer, Arrival, Continues, Delivery, Drops, Gives, Setting, answer, arrival_of, delivered}
use Rattle.transfer_rx.specs.Sessions.{Session}
use Rattle.can_frame.specs.declared.frame.Frame.{Frame}
use Rattle.can_frame.specs.declared.mark.Mark.{Mark}
use Rattle.can_frame.specs.Kinds.{is_response}
use Rattle.alloc_spec.specs.Accepted.{setting_for}
use Rattle.alloc_spec.specs.Judging.{is_stale, answer_judgement, arrival_judgement, misses}
use Rattle.raft_core.specs.Times.{Sending}
use Rattle.raft_model.specs.Messages.{Request as Call}
use Rattle.alloc_spec.specs.AllocatorState.{AllocatorState}

judged_none : (t : AllocatorState) (step now : ℕ) (a : Answer) → delivered a ≡ None → answer_judgement t step now a ≡ Fine
judged_none t step now (Gives d) none = cc
judged_none t step now Continues none = refl
judged_none t step now (Drops why) none = refl

-- a transfer is judged without its payload
judged_some : (t : AllocatorState) (step now : ℕ) (a : Answer) (h : Heading) → option_map heading_in (delivered a) ≡ Some h →
    (payload : List ℕ) × (answer_judgement t step now a ≡ answer_judgement t step now (Gives (delivery_with h payload)))
judged_some t step now (Gives d) h some =
    let same : heading_in d ≡ h = cc in
    (d.payload, ap (λ (x : Heading). answer_judgement t step now (Gives (delivery_with x d.payload))) same)
judged_some t step now Continues h some = absurd cc
judged_some t step now (Drops why) h some = absurd cc

pub none_foretold : (delivers : Option Delivery) → option_map heading_in delivers ≡ None → delivers ≡ None
none_foretold None e = refl
none_foretold (Some d) e = absurd cc

module _ (t : AllocatorState) (arrival : Arrival) where
  abbrev pub now_then : Arrival
  now_then = record arrival { moment = max t.now arrival.moment }

  pub judges_none : delivered (answer (setting_for t.me) t.sessions now_then) ≡ None → arrival_judgement t arrival ≡ Fine
  unfolding arrival_judgement
  judges_none none = judged_none t arrival.mark.step (max t.now arrival.moment) _ none

  pub judges_some : (h : Heading) → option_map heading_in (delivered (answer (setting_for t.me) t.sessions now_then)) ≡ Some h →
      (payload : List ℕ) × (arrival_judgement t arrival ≡ answer_judgement t arrival.mark.step (max t.now arrival.moment) (Gives (delivery_with h payload)))
  unfolding arrival_judgement
  judges_some h some = judged_some t arrival.mark.step (max t.now arrival.moment) _ h some

-- what is foretold at the moment of a step
pub foretold : (mine yours : Setting) (sessions : List Session) (frame : Frame) (mark : Mark) (n m : ℕ) (heading : Option Heading) → mine ≡ yours → n ≡ m
    → heading ≡ option_map heading_in (delivered (answer mine sessions (arrival_of frame mark n)))
    → option_map heading_in (delivered (answer yours sessions (arrival_of frame mark m))) ≡ heading
foretold mine yours sessions frame mark n m heading same at tells =
    sym (tells ∙ ap (λ (s : Setting). option_map heading_in (delivered (answer s sessions (arrival_of frame mark n)))) same
    ∙ ap (λ (k : ℕ). option_map heading_in (delivered (answer yours sessions (arrival_of frame mark k)))) at)

both : (a b m : Bool) → a ≡ true → b ≡ true → m ≡ ((a && b) && m)
both a b m x y = rw (x, y) refl

at_most : (n : ℕ) → n ≤ 125 → nat_le n 125 ≡ true
at_most n h = grind arith

-- a response of a member is judged by the call to it
pub stale_as : (t : AllocatorState) (d : Delivery) (now : ℕ) (r : Bool) → is_response d.ident.kind ≡ true → d.ident.source ≤ 125
    → r ≡ misses d now (t.raft_server.memory.pending d.ident.source) (t.times.sending d.ident.source) → r ≡ is_stale t d now
stale_as t d now r responds device is = is ∙ both (is_response d.ident.kind) (nat_le d.ident.source 125) _ responds (at_most d.ident.source device)

pub misses_as : (d : Delivery) (now : ℕ) (call call2 : Option Call) (sending sending2 : Option Sending) → call ≡ call2 → sending ≡ sending2 → misses d now call2 sending2 ≡ misses d now call sending
misses_as d now call call2 sending sending2 e f = ap (λ (c : Option Call). misses d now c sending2) (sym e) ∙ ap (λ (s : Option Sending). misses d now call s) (sym f)
