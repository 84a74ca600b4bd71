use Rattle.std.proofs.Common.{◌≡◌, ◌*◌, ◌^◌, ◌-◌, min, ap, ◌∙◌, arith}
use Rattle.dsdl_text.specs.declared.size.Size.{Size}
use Rattle.dsdl_text.proofs.Sizes.{sized, times_capped}
use Rattle.dsdl_text.proofs.size.Size.times.Goals as goal

pub returns : goal.returns
returns c = λ element is.
    let bits = ap (λ (s : Size). s.bits) is in
    let product : c.saturating_mul.result ≡ min (c.args.self.bits * c.args.count) (2 ^ 32 - 1) = rw c.from.ensures at c.saturating_mul.ensures in
    let capped : c.min.result ≡ min 4096 (c.args.self.bits * c.args.count) = omega (arith, c.min.ensures, product) in
    sized _ _ _ _ (capped ∙ times_capped c.args.count c.args.self.bits _ bits) (ap (λ (s : Size). s.blank) is)
