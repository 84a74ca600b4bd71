use Rattle.std.proofs.Common.{◌≡◌, ◌≤◌, ℕ, inl, inr, refl, arith}
use Rattle.std.proofs.lemmas.Bool.Decides.{eqb_tells}
use Rattle.cmd_new.specs.NewImage.{IsNewImage, highest_start, made_image}
use Rattle.cmd_new.proofs.laws.a_made_store_is_a_new_one.Goals as goal

is_new : (term node : ℕ) → term ≤ highest_start → 1 ≤ node → node ≤ 125 → IsNewImage (made_image term node)
is_new term node most least low = elim (eqb_tells term 0) as (λ _. IsNewImage (made_image term node)) [
  | inl t ↦ rw (t.0) (inl refl)
  | inr t ↦ rw (t.0) (inr (record {
    term = term;
    node = node;
    may = record { term_least = omega (arith, t.1); term_most = most; node_least = least; node_most = low };
    image_is = refl;
  }))
]

pub returns : goal.returns
returns c = is_new
