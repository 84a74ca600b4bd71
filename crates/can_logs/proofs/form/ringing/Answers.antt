use Rattle.std.proofs.Common.{◌≡◌, ◌+◌, rules, tests, ap, ◌∙◌, ◌==◌, ℕ, List, [], ◌∷◌, not, length, unwrap_or, refl, inl, inr, eq-eqb}
use Rattle.std.specs.List.{position_or_len, prefix_len}
use Rattle.std.proofs.lemmas.Bool.{cases_eq, ne_eqb}
use Rattle.std.proofs.lemmas.Iterator.{YieldsList-from_slice}
use Rattle.std.proofs.lemmas.Iterator.Search.{position_from_yields_List}
use Rattle.std.proofs.lemmas.List.Sums.{prefix_len-le-length}
use Rattle.can_logs.proofs.Splits.{place_or_end}
use Rattle.can_logs.proofs.form.ringing.Goals as goal

-- the first byte that is no bell, and how many bells there are
not_not : (bytes : List ℕ) → position_or_len (λ byte. not (byte == 7)) bytes ≡ prefix_len (λ byte. byte == 7) bytes
not_not [] = refl
not_not (byte ∷ bytes) =
    elim (cases_eq byte 7) [
      | inl bell ↦ rw (eq-eqb byte 7 bell) (ap (λ n. 1 + n) (not_not bytes))
      | inr other ↦ rw (ne_eqb byte 7 other) refl
    ]

pub returns-clause-count : goal.returns-clause-count
returns-clause-count c =
    let found = position_from_yields_List (λ byte. not (byte == 7)) _ _ _ c.position.ensures.ran (YieldsList-from_slice c.args.bytes.now cc) (λ x b q k. search (rules, tests)) in
    c.unwrap_or.ensures ∙ ap (λ place. unwrap_or place (length c.args.bytes.now)) found
    ∙ place_or_end _ _ (prefix_len-le-length _ c.args.bytes.now)
    ∙ not_not c.args.bytes.now
