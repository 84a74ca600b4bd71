-- Who is let in where there is no room, and what is counted then.
use Rattle.std.proofs.Common.{◌≡◌, ◌⊎◌, ◌≤◌, ◌<◌, ◌+◌, inl, inr, ℕ, suc, Bool, true, false, not, cond, ◌&&◌, ◌||◌, List, length, refl, subst, sym, arith, nat_le, count_by, if◌then◌else◌}
use Rattle.std.specs.Prelude.{Option, None, Some, Contains, nat_eq, slice_index_or, slice_set}
use Rattle.std.proofs.lemmas.Bool.{eqb-true}
use Rattle.std.proofs.lemmas.Bool.Decides.{leb_tells}
use Rattle.std.proofs.lemmas.List.Folds.{Any-from_list_any}
use Rattle.std.proofs.lemmas.List.Sums.{sum_by-set}
use Rattle.std.specs.List.{list_any}
use Rattle.can_frame.specs.declared.entry.Entry.{Entry}
use Rattle.newcomer_link.proofs.Parts.{left, right}
use Rattle.newcomer_link.proofs.Places.{at_most_one, counted_one}
use Rattle.newcomer_link.proofs.TurnedAway.{goes_on_of, read_by}
use Rattle.newcomer_link.specs.Standing.{IsKnownPart, Ruling, Standing, between_newcomers, continued_by, counted_for, is_free_to_show, is_lately, is_logged, is_rise_due, is_room, one_more_asked, places_taken, rule_ask, rule_by_told, rule_newcomer, rule_show, rule_stranger, told_since, with_heard_at, with_rise}
use Rattle.newcomer_link.specs.declared.partial.Part.{Part}
use Rattle.newcomer_link.specs.declared.partial.Part.TheVariants.{Third}
use Rattle.newcomer_link.specs.declared.partial.Partial.{Partial}

-- ---- there is no room

no_room : (now : ℕ) (standing : Standing) → standing.limit ≤ places_taken now standing →
    is_room now standing ≡ false
no_room now standing full = elim (leb_tells (suc (places_taken now standing)) standing.limit)
    as (λ _. is_room now standing ≡ false) [
      | inl t ↦ absurd (omega (arith, full, t.1))
      | inr t ↦ t.0
    ]

soon_is : (now : ℕ) (standing : Standing) → now < standing.since + between_newcomers →
    nat_le (standing.since + between_newcomers) now ≡ false
soon_is now standing soon = elim (leb_tells (standing.since + between_newcomers) now)
    as (λ _. nat_le (standing.since + between_newcomers) now ≡ false) [
      | inl t ↦ absurd (omega (arith, soon, t.1))
      | inr t ↦ t.0
    ]

rises_not : (old new : Standing) (room late : Bool) → late ≡ false → old ≡ (if not room && late then new else old)
rises_not old new room true is = absurd (cc)
rises_not old new true false is = refl
rises_not old new false false is = refl

no_rise : (now : ℕ) (standing : Standing) → now < standing.since + between_newcomers →
    standing ≡ with_rise now standing
no_rise now standing soon = rises_not standing _ (is_room now standing) _ (soon_is now standing soon)

stranger_not : (now : ℕ) (part : Part) (standing new : Standing) (room : Bool) → room ≡ false →
    (if room then (let r : Ruling = record { is_let_in = true; behind = new } in r)
    else (record { is_let_in = false; behind = standing })).is_let_in ≡ true → ⊥
stranger_not now part standing new true is let_in = cc
stranger_not now part standing new false is let_in = cc

none_is : (now : ℕ) (part : Part) (standing : Standing) (away : Bool) →
    ((rule_stranger now part (with_rise now standing)).is_let_in ≡ true → ⊥) → (if away
    then (let r : Ruling = record { is_let_in = false; behind = standing } in r)
    else rule_stranger now part (with_rise now standing)).is_let_in ≡ true → ⊥
none_is now part standing true none let_in = cc
none_is now part standing false none let_in = none let_in

pub asks_in_vain : (now : ℕ) (part : Part) (standing : Standing) → standing.limit ≤ places_taken now standing →
    now < standing.since + between_newcomers → (rule_ask now part standing).is_let_in ≡ true →
    IsKnownPart now part standing
asks_in_vain now part standing full soon is = read_by now part standing standing.is_read
    (none_is now part standing (is_lately now standing.turned_away)
    (subst (λ s. (rule_stranger now part s).is_let_in ≡ true → ⊥) (no_rise now standing soon)
    (stranger_not now part standing _ (is_room now standing) (no_room now standing full)))) is

newcomer_not : (now node : ℕ) (standing : Standing) (room : Bool) → room ≡ false → (if room
    then (let r : Ruling = record { is_let_in = true; behind = with_heard_at now node standing } in r)
    else (record { is_let_in = false; behind = record standing { turned_away = Some now } })).is_let_in ≡ true → ⊥
newcomer_not now node standing true is let_in = cc
newcomer_not now node standing false is let_in = cc

-- why a node is let in that takes no place
free_by : (read counted : Bool) → (not read || counted) ≡ true → (read ≡ false) ⊎ (counted ≡ true)
free_by false counted is = inl refl
free_by true counted is = inr is

show_by : (now node : ℕ) (standing : Standing) (logged free : Bool) → is_free_to_show now node standing ≡ free →
    ((rule_newcomer now node (with_rise now standing)).is_let_in ≡ true → ⊥) → (if logged
    then (let r : Ruling = record { is_let_in = true; behind = standing } in r)
    else if free then (let r : Ruling = record { is_let_in = true; behind = with_heard_at now node standing } in r)
    else rule_newcomer now node (with_rise now standing)).is_let_in ≡ true →
    (logged ≡ true) ⊎ ((standing.is_read ≡ false) ⊎ (is_lately now (slice_index_or standing.heard node None) ≡ true))
show_by now node standing true free free_is none is = inl refl
show_by now node standing false true free_is none is =
    inr (free_by standing.is_read (is_lately now (slice_index_or standing.heard node None)) free_is)
show_by now node standing false false free_is none is = absurd (none is)

pub shows_in_vain : (now node : ℕ) (standing : Standing) → standing.limit ≤ places_taken now standing →
    now < standing.since + between_newcomers → (rule_show now node standing).is_let_in ≡ true →
    (is_logged node standing ≡ true) ⊎ ((standing.is_read ≡ false) ⊎
    (is_lately now (slice_index_or standing.heard node None) ≡ true))
shows_in_vain now node standing full soon is =
    show_by now node standing (is_logged node standing) (is_free_to_show now node standing) refl
    (subst (λ s. (rule_newcomer now node s).is_let_in ≡ true → ⊥) (no_rise now standing soon)
    (newcomer_not now node standing (is_room now standing) (no_room now standing full))) is

is_there : (node : ℕ) (standing : Standing) → list_any (λ entry. nat_eq entry.node node) standing.log ≡ true →
    (entry : Entry) × Contains standing.log entry × (entry.node ≡ node)
is_there node standing is =
    let found = Any-from_list_any (λ entry. nat_eq entry.node node) standing.log is in
    (found.1, (found.0, found.2, found.3), eqb-true found.1.node node found.4)

pub logged_is : (node : ℕ) (standing : Standing) → is_logged node standing ≡ true →
    (standing.is_read ≡ true) × ((entry : Entry) × Contains standing.log entry × (entry.node ≡ node))
logged_is node standing is = let any = list_any (λ entry. nat_eq entry.node node) standing.log in
    (left standing.is_read any is, is_there node standing (right standing.is_read any is))

-- ---- a place is taken

rise_takes_none : (now : ℕ) (old : Standing) (limit since : ℕ) (due : Bool) → places_taken now
    (if due then record old { limit = limit; since = since } else old) ≡ places_taken now old
rise_takes_none now old limit since true = refl
rise_takes_none now old limit since false = refl

one_asked : (asked : ℕ) (bytes : List ℕ) → asked < 255 → one_more_asked (Third bytes) asked ≡ asked + 1
one_asked asked bytes few = omega (arith, few)

rise_asks_none : (now : ℕ) (old : Standing) (limit since : ℕ) (due : Bool) →
    (if due then record old { limit = limit; since = since } else old).asked ≡ old.asked
rise_asks_none now old limit since true = refl
rise_asks_none now old limit since false = refl

stranger_takes : (now : ℕ) (bytes : List ℕ) (standing : Standing) (room : Bool) → standing.asked < 255 →
    (if room then (let r : Ruling = record {
      is_let_in = true;
      behind = record standing {
        asked = one_more_asked (Third bytes) standing.asked;
        requests = Some (record { last = now; told = None });
      };
    } in r) else (record { is_let_in = false; behind = standing })).is_let_in ≡ true →
    places_taken now (if room then (let r : Ruling = record {
      is_let_in = true;
      behind = record standing {
        asked = one_more_asked (Third bytes) standing.asked;
        requests = Some (record { last = now; told = None });
      };
    } in r) else (record { is_let_in = false; behind = standing })).behind ≡ places_taken now standing + 1
stranger_takes now bytes standing true few is =
    let one = one_asked standing.asked bytes few in omega (arith, one)
stranger_takes now bytes standing false few is = absurd (cc)

away_takes : (now : ℕ) (bytes : List ℕ) (standing : Standing) (away : Bool) → standing.asked < 255 → (if away
    then (let r : Ruling = record { is_let_in = false; behind = standing } in r)
    else rule_stranger now (Third bytes) (with_rise now standing)).is_let_in ≡ true → places_taken now (if away
    then (let r : Ruling = record { is_let_in = false; behind = standing } in r)
    else rule_stranger now (Third bytes) (with_rise now standing)).behind ≡ places_taken now standing + 1
away_takes now bytes standing true few is = absurd (cc)
away_takes now bytes standing false few is =
    let none = rise_takes_none now standing (places_taken now standing + 1) now (is_rise_due now standing) in
    let asked = rise_asks_none now standing (places_taken now standing + 1) now (is_rise_due now standing) in
    let new = with_rise now standing in
    let one = stranger_takes now bytes new (is_room now new) (omega (arith, asked, few)) is in omega (arith, none, one)

told_takes : (now : ℕ) (bytes : List ℕ) (standing : Standing) (goes : Option Partial) →
    continued_by now (Third bytes) standing ≡ goes → standing.asked < 255 →
    (rule_by_told now (Third bytes) standing goes).is_let_in ≡ true → IsKnownPart now (Third bytes) standing ⊎
    (places_taken now (rule_by_told now (Third bytes) standing goes).behind ≡ places_taken now standing + 1)
told_takes now bytes standing (Some partial) goes few is =
    inl (goes_on_of now (Third bytes) standing (told_since now standing.requests) refl partial goes).known
told_takes now bytes standing None goes few is =
    inr (away_takes now bytes standing (is_lately now standing.turned_away) few is)

read_takes : (now : ℕ) (bytes : List ℕ) (standing : Standing) (read : Bool) → standing.asked < 255 →
    (if read then rule_by_told now (Third bytes) standing (continued_by now (Third bytes) standing)
    else (let r : Ruling = record { is_let_in = false; behind = standing } in r)).is_let_in ≡ true →
    IsKnownPart now (Third bytes) standing ⊎ (places_taken now
    (if read then rule_by_told now (Third bytes) standing (continued_by now (Third bytes) standing)
    else (let r : Ruling = record { is_let_in = false; behind = standing } in r)).behind
    ≡ places_taken now standing + 1)
read_takes now bytes standing true few is =
    told_takes now bytes standing (continued_by now (Third bytes) standing) refl few is
read_takes now bytes standing false few is = absurd (cc)

pub asks_for_one : (now : ℕ) (bytes : List ℕ) (standing : Standing) → standing.asked < 255 →
    (rule_ask now (Third bytes) standing).is_let_in ≡ true → IsKnownPart now (Third bytes) standing ⊎
    (places_taken now (rule_ask now (Third bytes) standing).behind ≡ places_taken now standing + 1)
asks_for_one now bytes standing few is = read_takes now bytes standing standing.is_read few is

now_is : (now : ℕ) → is_lately now (Some now) ≡ true
now_is now = elim (leb_tells now (now + counted_for)) as (λ _. is_lately now (Some now) ≡ true) [
  | inl t ↦ t.0
  | inr t ↦ absurd (omega (arith, t.1))
]

counts_none : (b : Bool) → b ≡ false → cond b 1 0 ≤ 0
counts_none true is = absurd (cc)
counts_none false is = omega (arith)

heard_anew : (now node : ℕ) (heard : List (Option ℕ)) → node < length heard →
    is_lately now (slice_index_or heard node None) ≡ false →
    count_by (is_lately now) (slice_set heard node (Some now)) ≡ count_by (is_lately now) heard + 1
heard_anew now node heard within new =
    let is = sum_by-set (λ x. cond (is_lately now x) 1 0) heard node (Some now) None within in
    let one = counted_one (is_lately now (Some now)) (now_is now) in
    let most = at_most_one (is_lately now (Some now)) in
    let none = counts_none (is_lately now (slice_index_or heard node None)) new in
    omega (arith, is, one, most, none)

newcomer_takes : (now node : ℕ) (standing : Standing) (room : Bool) → node < length standing.heard →
    is_lately now (slice_index_or standing.heard node None) ≡ false → (if room
    then (let r : Ruling = record { is_let_in = true; behind = with_heard_at now node standing } in r)
    else (record { is_let_in = false; behind = record standing { turned_away = Some now } })).is_let_in ≡ true →
    places_taken now (if room
    then (let r : Ruling = record { is_let_in = true; behind = with_heard_at now node standing } in r)
    else (record { is_let_in = false; behind = record standing { turned_away = Some now } })).behind
    ≡ places_taken now standing + 1
newcomer_takes now node standing true within new is =
    let more = heard_anew now node standing.heard within new in omega (arith, more)
newcomer_takes now node standing false within new is = absurd (cc)

rise_hears_none : (now : ℕ) (old : Standing) (limit since : ℕ) (due : Bool) →
    old.heard ≡ (if due then record old { limit = limit; since = since } else old).heard
rise_hears_none now old limit since true = refl
rise_hears_none now old limit since false = refl

behind_rise : (now node : ℕ) (standing : Standing) → node < length standing.heard →
    is_lately now (slice_index_or standing.heard node None) ≡ false →
    (rule_newcomer now node (with_rise now standing)).is_let_in ≡ true →
    places_taken now (rule_newcomer now node (with_rise now standing)).behind ≡ places_taken now standing + 1
behind_rise now node standing within new is =
    let none = rise_takes_none now standing (places_taken now standing + 1) now (is_rise_due now standing) in
    let heard = rise_hears_none now standing (places_taken now standing + 1) now (is_rise_due now standing) in
    let risen = with_rise now standing in
    let one = newcomer_takes now node risen (is_room now risen) (subst (λ h. node < length h) heard within)
    (subst (λ h. is_lately now (slice_index_or h node None) ≡ false) heard new) is in omega (arith, none, one)

counted_or : (read counted free : Bool) → read ≡ true → (not read || counted) ≡ free → counted ≡ free
counted_or true counted free read is = is
counted_or false counted free read is = absurd (cc)

show_takes : (now node : ℕ) (standing : Standing) (logged free : Bool) → node < length standing.heard →
    is_lately now (slice_index_or standing.heard node None) ≡ free → (if logged
    then (let r : Ruling = record { is_let_in = true; behind = standing } in r)
    else if free then (let r : Ruling = record { is_let_in = true; behind = with_heard_at now node standing } in r)
    else rule_newcomer now node (with_rise now standing)).is_let_in ≡ true → (logged ≡ true) ⊎ ((free ≡ true) ⊎
    (places_taken now (if logged
    then (let r : Ruling = record { is_let_in = true; behind = standing } in r)
    else if free then (let r : Ruling = record { is_let_in = true; behind = with_heard_at now node standing } in r)
    else rule_newcomer now node (with_rise now standing)).behind ≡ places_taken now standing + 1))
show_takes now node standing true free within counted is = inl refl
show_takes now node standing false true within counted is = inr (inl refl)
show_takes now node standing false false within counted is = inr (inr (behind_rise now node standing within counted is))

pub shows_for_one : (now node : ℕ) (standing : Standing) → node < length standing.heard → standing.is_read ≡ true →
    (rule_show now node standing).is_let_in ≡ true →
    (is_logged node standing ≡ true) ⊎ ((is_lately now (slice_index_or standing.heard node None) ≡ true) ⊎
    (places_taken now (rule_show now node standing).behind ≡ places_taken now standing + 1))
shows_for_one now node standing within read is =
    let counted = is_lately now (slice_index_or standing.heard node None) in
    let free = counted_or standing.is_read counted (is_free_to_show now node standing) read refl in
    subst (λ b. (is_logged node standing ≡ true) ⊎ ((b ≡ true) ⊎
    (places_taken now (rule_show now node standing).behind ≡ places_taken now standing + 1))) (sym free)
    (show_takes now node standing (is_logged node standing) (is_free_to_show now node standing) within free is)
