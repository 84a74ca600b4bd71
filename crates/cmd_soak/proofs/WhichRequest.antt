-- Which request a number counts.
use Rattle.std.proofs.Common.{◌≡◌, ◌+◌, ◌/◌, ◌%◌, ◌∙◌, ℕ, ap, arith}
use Rattle.std.proofs.lemmas.Bool.{eq-eqb, ne_eqb}
use Rattle.std.specs.Prelude.{◌==◌, if◌then◌else◌}
use Rattle.cmd_soak.specs.Requests.{first_request, request, second_request, third_request}

pub is_first : (q : ℕ) → q % 3 ≡ 0 → request q ≡ first_request
unfolding request
is_first q e = ap (λ t. if t then first_request else (if q % 3 == 1 then second_request else third_request (q / 3 % 200 + 1))) (eq-eqb (q % 3) 0 e)

pub is_second : (q : ℕ) → q % 3 ≡ 1 → request q ≡ second_request
unfolding request
is_second q e =
    ap (λ t. if t then first_request else (if q % 3 == 1 then second_request else third_request (q / 3 % 200 + 1)))
    (ne_eqb (q % 3) 0 (λ h. absurd (omega (arith, h, e))))
    ∙ ap (λ t. if t then second_request else third_request (q / 3 % 200 + 1)) (eq-eqb (q % 3) 1 e)

pub is_third : (q : ℕ) → (q % 3 ≡ 0 → ⊥) → (q % 3 ≡ 1 → ⊥) → request q ≡ third_request (q / 3 % 200 + 1)
unfolding request
is_third q e f =
    ap (λ t. if t then first_request else (if q % 3 == 1 then second_request else third_request (q / 3 % 200 + 1))) (ne_eqb (q % 3) 0 e)
    ∙ ap (λ t. if t then second_request else third_request (q / 3 % 200 + 1)) (ne_eqb (q % 3) 1 f)
