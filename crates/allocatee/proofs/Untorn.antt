-- A frame that a device may be given delivers nothing torn.
use Rattle.std.proofs.Common.{◌≡◌, ℕ, Bool, true, false, refl, sym, ap, ◌∙◌, inl, inr}
use Rattle.std.specs.Prelude.{not, ◌&&◌, nat_eq, if◌then◌else◌}
use Rattle.std.proofs.lemmas.Bool.Decides.{eqb_tells}
use Rattle.can_frame.specs.declared.step.Judged.TheVariants.{Fine, Torn}
use Rattle.transfer_rx.specs.Reassembly.{Answer, Arrival, Delivery}
use Rattle.transfer_rx.specs.Reassembly.Answer.{Gives}
use Rattle.allocatee.specs.Allocatee.{Device, answer_to}
use Rattle.allocatee.specs.Judging.{answer_judgement, arrival_judgement}

fine_from : (whole unmarked : Bool) → (if not whole && not unmarked then Torn else Fine) ≡ Fine → whole ≡ false → unmarked ≡ true
fine_from true unmarked e w = absurd (cc (w))
fine_from false true e w = refl
fine_from false false e w = absurd (cc (e))

zero_is : (step : ℕ) → nat_eq step 0 ≡ true → step ≡ 0
zero_is step e = elim (eqb_tells step 0) [ inl same ↦ same.1 | inr apart ↦ absurd (cc (sym apart.0 ∙ e)) ]

pub untorn : (d : Device) (arrival : Arrival) (delivery : Delivery) → arrival_judgement d arrival ≡ Fine → answer_to d arrival ≡ Gives delivery → delivery.whole ≡ false
    → arrival.mark.step ≡ 0
unfolding arrival_judgement
untorn d arrival delivery fine gives torn =
    zero_is arrival.mark.step (fine_from delivery.whole (nat_eq arrival.mark.step 0) (ap (λ (a : Answer). answer_judgement arrival.mark.step a) (sym gives) ∙ fine) torn)
