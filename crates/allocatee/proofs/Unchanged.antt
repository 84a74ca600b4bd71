-- An allocatee that has what it had is the same one.
use Rattle.std.proofs.Common.{◌≡◌}
use Rattle.std.proofs.Props.{props}
use Rattle.transfer_rx.specs.Reassembly.{Setting}
use Rattle.transfer_rx.specs.Views.{setting_of}
use Rattle.allocatee.specs.Accepted as accepted
use Rattle.allocatee.specs.Asking.{Asking}
use Rattle.allocatee.specs.declared.allocatee.Allocatee.{Allocatee}

module _ {G : Type 0} (a : Allocatee G) where
  set_prop : (x y : Setting) → IsProp (x ≡ y)
  set_prop x y = hlevel props

  pub unchanged : (asking : Asking) → asking ≡ a.applicant → (setting : setting_of a.receiver ≡ accepted.setting)
      → record { applicant = asking; receiver = a.receiver; setting = setting } ≡ a
  unchanged asking same setting = λ i. record {
    applicant = same i;
    receiver = a.receiver;
    setting = set_prop (setting_of a.receiver) accepted.setting setting a.setting i;
  }
