-- What requests told counts until a pause.
use Rattle.std.proofs.Common.{◌≡◌, ◌<◌, ◌+◌, inl, inr, ℕ, Bool, true, false, refl, arith, if◌then◌else◌}
use Rattle.std.specs.Prelude.{Option, None, Some}
use Rattle.std.proofs.lemmas.Bool.Decides.{leb_tells}
use Rattle.newcomer_link.proofs.TurnedAway.{IsGoingOn, goes_on_of}
use Rattle.newcomer_link.specs.Partials.{with_part}
use Rattle.newcomer_link.specs.Standing.{IsKnownPart, Ruling, Standing, between_exchanges, continued_by, is_lately, is_room, rule_ask, rule_by_told, rule_stranger, told_since, with_rise}
use Rattle.newcomer_link.specs.declared.partial.Part.{Part}
use Rattle.newcomer_link.specs.declared.partial.Partial.{Partial}

unpaused : (last later : ℕ) (told : Option Partial) → later < last + between_exchanges →
    told_since later (Some (record { last = last; told = told })) ≡ told
unpaused last later told soon = elim (leb_tells (last + between_exchanges) later)
    as (λ _. told_since later (Some (record { last = last; told = told })) ≡ told) [
      | inl t ↦ absurd (omega (arith, soon, t.1))
      | inr t ↦ rw (t.0) refl
    ]

module _ (now later : ℕ) (soon : later < now + between_exchanges) (part : Part) (told : Partial) where
  stranger_keeps : (standing : Standing) (asked : ℕ) (room : Bool) → (if room then (let r : Ruling = record {
    is_let_in = true;
    behind = record standing { asked = asked; requests = Some (record { last = now; told = None }) };
  } in r) else (record { is_let_in = false; behind = standing })).is_let_in ≡ true →
      told_since later (if room then (let r : Ruling = record {
        is_let_in = true;
        behind = record standing { asked = asked; requests = Some (record { last = now; told = None }) };
      } in r) else (record { is_let_in = false; behind = standing })).behind.requests ≡ Some told → ⊥
  stranger_keeps standing asked true is since = let none = unpaused now later None soon in cc
  stranger_keeps standing asked false is since = cc

  away_keeps : (standing : Standing) (away : Bool) → (if away
      then (let r : Ruling = record { is_let_in = false; behind = standing } in r)
      else rule_stranger now part (with_rise now standing)).is_let_in ≡ true → told_since later (if away
      then (let r : Ruling = record { is_let_in = false; behind = standing } in r)
      else rule_stranger now part (with_rise now standing)).behind.requests ≡ Some told → ⊥
  away_keeps standing true is since = cc
  away_keeps standing false is since =
      stranger_keeps (with_rise now standing) _ (is_room now (with_rise now standing)) is since

  told_keeps : (standing : Standing) (goes : Option Partial) → continued_by now part standing ≡ goes →
      (rule_by_told now part standing goes).is_let_in ≡ true →
      told_since later (rule_by_told now part standing goes).behind.requests ≡ Some told →
      IsGoingOn now part standing told
  told_keeps standing (Some partial) goes is since =
      let all = unpaused now later (Some partial) soon in
      goes_on_of now part standing (told_since now standing.requests) refl told cc
  told_keeps standing None goes is since = absurd (away_keeps standing (is_lately now standing.turned_away) is since)

  read_keeps : (standing : Standing) (read : Bool) → (if read
      then rule_by_told now part standing (continued_by now part standing)
      else (let r : Ruling = record { is_let_in = false; behind = standing } in r)).is_let_in ≡ true →
      told_since later (if read then rule_by_told now part standing (continued_by now part standing)
      else (let r : Ruling = record { is_let_in = false; behind = standing } in r)).behind.requests ≡ Some told →
      IsGoingOn now part standing told
  read_keeps standing true is since = told_keeps standing (continued_by now part standing) refl is since
  read_keeps standing false is since = absurd (cc)

pub keeps : (now later : ℕ) (part : Part) (standing : Standing) (told : Partial) →
    (rule_ask now part standing).is_let_in ≡ true → later < now + between_exchanges →
    told_since later (rule_ask now part standing).behind.requests ≡ Some told →
    (known : IsKnownPart now part standing) × (told ≡ with_part known.told part)
keeps now later part standing told is soon since =
    let it = read_keeps now later soon part told standing standing.is_read is since in (it.known, it.more)
