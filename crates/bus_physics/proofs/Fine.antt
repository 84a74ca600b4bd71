-- What is judged to be fine is not torn, and not stale.
use Rattle.std.proofs.Common.{◌≡◌, ℕ, Bool, true, false, refl, sym, ap, ◌∙◌}
use Rattle.std.specs.Prelude.{◌&&◌, max, not, nat_eq, if◌then◌else◌}
use Rattle.can_frame.specs.declared.step.Judged.TheVariants.{Fine, Stale, Torn}
use Rattle.transfer_rx.specs.Reassembly.{Answer, Arrival, Delivery, Gives, answer}
use Rattle.alloc_spec.specs.Accepted.{setting_for}
use Rattle.alloc_spec.specs.AllocatorState.{AllocatorState}
use Rattle.alloc_spec.specs.Judging.{answer_judgement, arrival_judgement, is_stale}
use Rattle.alloc_spec_laws.proofs.Choices.{eq_true}
use Rattle.bus_agreement.proofs.Lists.{never}

pub record IsFine (t : AllocatorState) (now : ℕ) (d : Delivery) : Type 0 where
  pub untorn : d.whole ≡ false → d.mark.step ≡ 0
  pub fresh : is_stale t d now ≡ false

fine_from : (whole unmarked stale : Bool) → (if not whole && not unmarked then Torn else (if stale then Stale else Fine)) ≡ Fine
    → (whole ≡ false → unmarked ≡ true) × (stale ≡ false)
fine_from true unmarked true e = absurd (cc (e))
fine_from true unmarked false e = ((λ w. never (sym w)), refl)
fine_from false true true e = absurd (cc (e))
fine_from false true false e = ((λ w. refl), refl)
fine_from false false stale e = absurd (cc (e))

pub judged_fine : (t : AllocatorState) (step now : ℕ) (a : Answer) (d : Delivery) → a ≡ Gives d → answer_judgement t step now a ≡ Fine → d.mark.step ≡ step → IsFine t now d
judged_fine t step now a d e fine mark =
    let f = fine_from d.whole (nat_eq step 0) (is_stale t d now) (ap (λ (x : Answer). answer_judgement t step now x) (sym e) ∙ fine) in
    record { untorn = λ w. mark ∙ eq_true step 0 (f.0 w); fresh = f.1 }

pub judges_fine : (t : AllocatorState) (arrival : Arrival) → arrival_judgement t arrival ≡ Fine
    → answer_judgement t arrival.mark.step (max t.now arrival.moment) (answer (setting_for t.me) t.sessions (record arrival { moment = max t.now arrival.moment })) ≡ Fine
unfolding arrival_judgement
judges_fine t arrival e = e
