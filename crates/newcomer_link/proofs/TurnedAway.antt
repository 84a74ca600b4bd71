-- A node was turned away, and is remembered.
use Rattle.std.proofs.Common.{◌≡◌, ◌≢◌, ◌≤◌, ◌+◌, inl, inr, ℕ, Bool, true, false, not, ◌&&◌, List, [], ◌∷◌, refl, arith, if◌then◌else◌}
use Rattle.std.specs.Prelude.{Option, None, Some}
use Rattle.std.proofs.lemmas.Bool.Decides.{leb_tells}
use Rattle.std.proofs.lemmas.List.Folds.{Any-from_list_any}
use Rattle.std.specs.Str.{bytes_eq}
use Rattle.newcomer_link.proofs.Parts.{eq_is, left, right}
use Rattle.can_frame.specs.Zeros.{zeros}
use Rattle.newcomer_link.specs.Partials.{has_all_told, has_part, is_device_told, is_of_device, is_of_log, with_part}
use Rattle.newcomer_link.specs.Run.{Occurrence, HappenUntil, standing_behind}
use Rattle.newcomer_link.specs.Run.Occurrence.{Comes, IsReadThen}
use Rattle.newcomer_link.specs.Standing.{IsKnownPart, Ruling, Standing, counted_for, continued_by, goes_on_as, is_free_to_show, is_lately, is_logged, is_rise_due, is_room, rule_approach, rule_ask, rule_by_told, rule_newcomer, rule_stranger, told_since, with_heard_at, with_rise}
use Rattle.newcomer_link.specs.declared.approach.Approach.{Approach}
use Rattle.newcomer_link.specs.declared.approach.Approach.TheVariants.{Shows, Asks}
use Rattle.newcomer_link.specs.declared.partial.Part.{Part}
use Rattle.newcomer_link.specs.declared.partial.Partial.{Partial}

-- a NodeStatus was turned away at this reading or later
record Remembers (first : ℕ) (standing : Standing) : Type 0 where
  last : ℕ
  is : standing.turned_away ≡ Some last
  late : first ≤ last

module _ (first now : ℕ) (le : first ≤ now) where
  rise_by : (standing : Standing) (due : Bool) (new : Standing) → Remembers first standing →
      new.turned_away ≡ standing.turned_away → Remembers first (if due then new else standing)
  rise_by standing true new was is = let old = was.is in record { last = was.last; is = rw is old; late = was.late }
  rise_by standing false new was is = was

  risen : (standing : Standing) → Remembers first standing → Remembers first (with_rise now standing)
  risen standing was = rise_by standing (is_rise_due now standing) _ was refl

  newcomer_by : (node : ℕ) (standing : Standing) (room : Bool) → Remembers first standing → Remembers first (if room
      then (let r : Ruling = record { is_let_in = true; behind = with_heard_at now node standing } in r)
      else (record { is_let_in = false; behind = record standing { turned_away = Some now } })).behind
  newcomer_by node standing true was = record { last = was.last; is = was.is; late = was.late }
  newcomer_by node standing false was = record { last = now; is = refl; late = le }

  show_by : (node : ℕ) (standing : Standing) (logged free : Bool) → Remembers first standing →
      Remembers first (if logged then (let r : Ruling = record { is_let_in = true; behind = standing } in r)
      else if free then (let r : Ruling = record { is_let_in = true; behind = with_heard_at now node standing } in r)
      else rule_newcomer now node (with_rise now standing)).behind
  show_by node standing true free was = was
  show_by node standing false true was = record { last = was.last; is = was.is; late = was.late }
  show_by node standing false false was =
      newcomer_by node (with_rise now standing) (is_room now (with_rise now standing)) (risen standing was)

  stranger_by : (part : Part) (standing new : Standing) (room : Bool) → new.turned_away ≡ standing.turned_away →
      Remembers first standing → Remembers first (if room
      then (let r : Ruling = record { is_let_in = true; behind = new } in r)
      else (record { is_let_in = false; behind = standing })).behind
  stranger_by part standing new true is was =
      let old = was.is in record { last = was.last; is = rw is old; late = was.late }
  stranger_by part standing new false is was = was

  away_by : (part : Part) (standing : Standing) (away : Bool) → Remembers first standing → Remembers first (if away
      then (let r : Ruling = record { is_let_in = false; behind = standing } in r)
      else rule_stranger now part (with_rise now standing)).behind
  away_by part standing true was = was
  away_by part standing false was = stranger_by part (with_rise now standing) _
      (is_room now (with_rise now standing)) refl (risen standing was)

  told_by : (part : Part) (standing : Standing) (told : Option Partial) → Remembers first standing →
      Remembers first (rule_by_told now part standing told).behind
  told_by part standing None was = away_by part standing (is_lately now standing.turned_away) was
  told_by part standing (Some partial) was = record { last = was.last; is = was.is; late = was.late }

  ask_by : (part : Part) (standing : Standing) (read : Bool) → Remembers first standing →
      Remembers first (if read then rule_by_told now part standing (continued_by now part standing)
      else (let r : Ruling = record { is_let_in = false; behind = standing } in r)).behind
  ask_by part standing true was = told_by part standing (continued_by now part standing) was
  ask_by part standing false was = was

  comes : (approach : Approach) (standing : Standing) → Remembers first standing →
      Remembers first (rule_approach now approach standing).behind
  comes (Shows node) standing was =
      show_by node standing (is_logged node standing) (is_free_to_show now node standing) was
  comes (Asks part) standing was = ask_by part standing standing.is_read was

begins : (first last : ℕ) (happenings : List Occurrence) → HappenUntil first last happenings → first ≤ last
begins first last [] until = until
begins first last (Comes now approach ∷ before) until =
    let le = begins first now before until.1 in let by = until.0 in omega (arith, le, by)
begins first last (IsReadThen now log ∷ before) until =
    let le = begins first now before until.1 in let by = until.0 in omega (arith, le, by)

remembered : (first last : ℕ) (standing : Standing) (happenings : List Occurrence) → HappenUntil first last happenings →
    Remembers first standing → Remembers first (standing_behind standing happenings)
remembered first last standing [] until was = was
remembered first last standing (Comes now approach ∷ before) until was = comes first now
    (begins first now before until.1) approach (standing_behind standing before)
    (remembered first now standing before until.1 was)
remembered first last standing (IsReadThen now log ∷ before) until was =
    let old = remembered first now standing before until.1 was in
    record { last = old.last; is = old.is; late = old.late }

no_zeros : (uid : List ℕ) → is_of_device uid ≡ true → uid ≢ zeros
no_zeros uid is = λ same. absurd (by (bytes_eq uid zeros) (eq_is uid zeros same) is) where
  by : (b : Bool) → b ≡ true → not b ≡ true → ⊥
  by true same is = cc
  by false same is = cc

of_entry : (now : ℕ) (part : Part) (standing : Standing) (told : Partial) →
    told_since now standing.requests ≡ Some told → is_of_log standing.log told part ≡ true →
    IsKnownPart now part standing
of_entry now part standing told since is =
    let found = Any-from_list_any (λ e. is_device_told told part e.uid) standing.log is in
    let uid = found.1.uid in let all = has_all_told uid told in let its = has_part uid part in
    let both = right (is_of_device uid) (all && its) found.4 in record {
      entry = found.1;
      there = (found.0, found.2, found.3);
      of_device = no_zeros uid (left (is_of_device uid) (all && its) found.4);
      its = right all its both;
      told = told;
      since = since;
      all = left all its both;
    }

-- what is told then, with this part
pub record IsGoingOn (now : ℕ) (part : Part) (standing : Standing) (partial : Partial) : Type 0 where
  pub known : IsKnownPart now part standing
  pub more : partial ≡ with_part known.told part

is_some : (a b : Partial) → Some a ≡ Some b → b ≡ a
is_some a b is = cc

going_on : (now : ℕ) (part : Part) (standing : Standing) (told : Partial) (is_of : Bool) →
    told_since now standing.requests ≡ Some told → is_of_log standing.log told part ≡ is_of → (partial : Partial) →
    (if is_of then Some (with_part told part) else None) ≡ Some partial →
    IsGoingOn now part standing partial
unfolding of_entry
going_on now part standing told true since is partial it =
    record { known = of_entry now part standing told since is; more = is_some (with_part told part) partial it }
going_on now part standing told false since is partial it = absurd (cc)

pub goes_on_of : (now : ℕ) (part : Part) (standing : Standing) (told : Option Partial) →
    told_since now standing.requests ≡ told → (partial : Partial) →
    goes_on_as standing.log part told ≡ Some partial → IsGoingOn now part standing partial
goes_on_of now part standing None since partial it = absurd (cc)
goes_on_of now part standing (Some told) since partial it =
    going_on now part standing told (is_of_log standing.log told part) since refl partial it

-- a part is let in though a stranger's is not
pub only_known : (now : ℕ) (part : Part) (standing : Standing) (goes : Option Partial) →
    continued_by now part standing ≡ goes → ((rule_by_told now part standing None).is_let_in ≡ true → ⊥) →
    (rule_by_told now part standing goes).is_let_in ≡ true → IsKnownPart now part standing
only_known now part standing (Some partial) goes none is =
    (goes_on_of now part standing (told_since now standing.requests) refl partial goes).known
only_known now part standing None goes none is = absurd (none is)

away : (now : ℕ) (part : Part) (standing : Standing) (b : Bool) → b ≡ true → (if b
    then (let r : Ruling = record { is_let_in = false; behind = standing } in r)
    else rule_stranger now part (with_rise now standing)).is_let_in ≡ true → ⊥
away now part standing true lately is = cc
away now part standing false lately is = cc

pub read_by : (now : ℕ) (part : Part) (standing : Standing) (read : Bool) →
    ((rule_by_told now part standing None).is_let_in ≡ true → ⊥) →
    (if read then rule_by_told now part standing (continued_by now part standing)
    else (let r : Ruling = record { is_let_in = false; behind = standing } in r)).is_let_in ≡ true →
    IsKnownPart now part standing
read_by now part standing true none is =
    only_known now part standing (continued_by now part standing) refl none is
read_by now part standing false none is = absurd (cc)

still : (first now : ℕ) (standing : Standing) → Remembers first standing → now ≤ first + counted_for →
    is_lately now standing.turned_away ≡ true
still first now standing was le =
    let late = was.late in let is = was.is in
    elim (leb_tells now (was.last + counted_for)) as (λ _. is_lately now standing.turned_away ≡ true) [
      | inl t ↦ rw is t.0
      | inr t ↦ absurd (omega (arith, late, le, t.1))
    ]

pub given_to_none : (first now : ℕ) (standing : Standing) (happenings : List Occurrence) (part : Part) →
    standing.turned_away ≡ Some first → HappenUntil first now happenings → now ≤ first + counted_for →
    (rule_ask now part (standing_behind standing happenings)).is_let_in ≡ true →
    IsKnownPart now part (standing_behind standing happenings)
given_to_none first now standing happenings part turned until le is =
    let new = standing_behind standing happenings in
    let was = remembered first now standing happenings until
    (record { last = first; is = turned; late = omega (arith) }) in
    read_by now part new new.is_read
    (away now part new (is_lately now new.turned_away) (still first now new was le)) is
