-- Who calls from another log.
use Rattle.std.proofs.Common.{◌≡◌, ℕ, true, false, List, Option, None, refl, sym, ap, ◌∙◌}
use Rattle.can_frame.specs.declared.frame.Frame.{Frame}
use Rattle.can_frame.specs.declared.mark.Mark.{Mark}
use Rattle.transfer_rx.specs.Reassembly.{Arrival, Delivery, Setting, answer, arrival_of, delivered}
use Rattle.transfer_rx.specs.Sessions.{Session}
use Rattle.alloc_spec.specs.Accepted.{setting_for}
use Rattle.alloc_spec.specs.AllocatorState.{AllocatorState}
use Rattle.alloc_server.specs.AnotherLog.{caller_by, caller_in, is_told}
use Rattle.alloc_server.proofs.Verdicts.{now_then}

module _ (t : AllocatorState) (arrival : Arrival) where
  pub untold : is_told t ≡ false → None ≡ caller_by t arrival
  unfolding caller_by
  untold is = rw is refl

  pub told : is_told t ≡ true → (d : Option Delivery) → delivered (answer (setting_for t.me) t.sessions (now_then t arrival)) ≡ d →
      caller_in t d ≡ caller_by t arrival
  unfolding caller_by
  told is d e = rw is (ap (caller_in t) (sym e))

-- what is peeked at the moment of a step
pub peeked : (mine yours : Setting) (sessions : List Session) (frame : Frame) (mark : Mark) (n m : ℕ) (d : Option Delivery) → mine ≡ yours → n ≡ m
    → d ≡ delivered (answer mine sessions (arrival_of frame mark n)) → delivered (answer yours sessions (arrival_of frame mark m)) ≡ d
peeked mine yours sessions frame mark n m d same at tells =
    sym (tells ∙ ap (λ (s : Setting). delivered (answer s sessions (arrival_of frame mark n))) same
    ∙ ap (λ (k : ℕ). delivered (answer yours sessions (arrival_of frame mark k))) at)
