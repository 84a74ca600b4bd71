-- How many places are taken, one happening at a time.
use Rattle.std.proofs.Common.{◌≡◌, ◌≤◌, ◌+◌, ◌*◌, inl, inr, ℕ, suc, Bool, true, false, not, cond, ◌&&◌, ◌||◌, List, [], ◌∷◌, length, refl, subst, arith, max, nat_le, count_by, if◌then◌else◌}
use Rattle.std.specs.Prelude.{Option, None, Some, slice_index_or, slice_set}
use Rattle.std.proofs.lemmas.Bool.Decides.{leb_tells}
use Rattle.std.proofs.lemmas.List.{set_past}
use Rattle.std.proofs.lemmas.List.Sums.{sum_by-le-sum_by, sum_by-set}
use Rattle.can_frame.specs.declared.entry.Entry.{Entry}
use Rattle.newcomer_link.specs.Run.{Occurrence, HappenUntil, found_in_all, found_more, standing_behind}
use Rattle.newcomer_link.specs.Run.Occurrence.{Comes, IsReadThen}
use Rattle.newcomer_link.specs.Standing.{Ruling, Standing, between_newcomers, counted_for, continued_by, is_free_to_show, is_lately, is_logged, is_room, one_more_asked, places_taken, rule_approach, rule_by_told, rule_newcomer, rule_stranger, with_heard_at, with_reading, with_rise}
use Rattle.newcomer_link.specs.declared.approach.Approach.{Approach}
use Rattle.newcomer_link.specs.declared.approach.Approach.TheVariants.{Shows, Asks}
use Rattle.newcomer_link.specs.declared.partial.Part.{Part}
use Rattle.newcomer_link.specs.declared.partial.Part.TheVariants.{First, Second, Third}
use Rattle.newcomer_link.specs.declared.partial.Partial.{Partial}

-- ---- nodes that were heard lately

falls_by : (early late : Bool) → (late ≡ true → early ≡ true) → cond late 1 0 ≤ cond early 1 0
falls_by true true is = omega (arith)
falls_by true false is = omega (arith)
falls_by false false is = omega (arith)
falls_by false true is = absurd (let no = is refl in cc)

lately_before : (now later : ℕ) (last : Option ℕ) → now ≤ later → is_lately later last ≡ true →
    is_lately now last ≡ true
lately_before now later None le is = is
lately_before now later (Some last) le is =
    elim (leb_tells now (last + counted_for)) as (λ _. nat_le now (last + counted_for) ≡ true) [
      | inl t ↦ t.0
      | inr t ↦ elim (leb_tells later (last + counted_for)) [
        | inl s ↦ absurd (omega (arith, le, t.1, s.1))
        | inr s ↦ absurd (cc)
      ]
    ]

heard_falls : (now later : ℕ) (heard : List (Option ℕ)) → now ≤ later →
    count_by (is_lately later) heard ≤ count_by (is_lately now) heard
heard_falls now later heard le = sum_by-le-sum_by (λ x. cond (is_lately later x) 1 0) (λ x. cond (is_lately now x) 1 0)
    heard (λ x. falls_by (is_lately now x) (is_lately later x) (lately_before now later x le))

pub at_most_one : (b : Bool) → cond b 1 0 ≤ 1
at_most_one true = omega (arith)
at_most_one false = omega (arith)

heard_more : (now node : ℕ) (heard : List (Option ℕ)) →
    count_by (is_lately now) (slice_set heard node (Some now)) ≤ count_by (is_lately now) heard + 1
heard_more now node heard = elim (leb_tells (suc node) (length heard))
    as (λ _. count_by (is_lately now) (slice_set heard node (Some now)) ≤ count_by (is_lately now) heard + 1) [
      | inl t ↦
          let is = sum_by-set (λ x. cond (is_lately now x) 1 0) heard node (Some now) None t.1 in
          let one = at_most_one (is_lately now (Some now)) in omega (arith, is, one)
      | inr t ↦ rw (set_past heard node (Some now) (omega (arith, t.1))) (omega (arith))
    ]

pub counted_one : (b : Bool) → b ≡ true → 1 ≤ cond b 1 0
counted_one true is = omega (arith)
counted_one false is = absurd (cc)

heard_again : (now node : ℕ) (heard : List (Option ℕ)) → is_lately now (slice_index_or heard node None) ≡ true →
    count_by (is_lately now) (slice_set heard node (Some now)) ≤ count_by (is_lately now) heard
heard_again now node heard counted = elim (leb_tells (suc node) (length heard))
    as (λ _. count_by (is_lately now) (slice_set heard node (Some now)) ≤ count_by (is_lately now) heard) [
      | inl t ↦
          let is = sum_by-set (λ x. cond (is_lately now x) 1 0) heard node (Some now) None t.1 in
          let one = at_most_one (is_lately now (Some now)) in
          let before = counted_one (is_lately now (slice_index_or heard node None)) counted in
          omega (arith, is, one, before)
      | inr t ↦ rw (set_past heard node (Some now) (omega (arith, t.1))) (omega (arith))
    ]

-- ---- the bound

-- so many rises were there, and no more places are taken, and no more allowed, than these allow for
pub record IsBounded (base since found now : ℕ) (standing : Standing) : Type 0 where
  pub rises : ℕ
  pub late : since + rises * between_newcomers ≤ standing.since
  pub until : standing.since ≤ now
  pub limit : standing.limit ≤ base + found + rises
  pub places : places_taken now standing ≤ base + found + rises
  pub read : standing.is_read ≡ true

module _ (base since : ℕ) where
  later : (found now after : ℕ) (standing : Standing) → now ≤ after → IsBounded base since found now standing →
      IsBounded base since found after standing
  later found now after standing le is =
      let fewer = heard_falls now after standing.heard le in
      let until = is.until in let places = is.places in record {
        rises = is.rises;
        late = is.late;
        until = omega (arith, until, le);
        limit = is.limit;
        places = omega (arith, fewer, places);
        read = is.read;
      }

  module _ (found now : ℕ) where
    rise_by : (standing : Standing) (room late : Bool) → nat_le (standing.since + between_newcomers) now ≡ late →
        IsBounded base since found now standing → IsBounded base since found now (if not room && late
        then record standing { limit = places_taken now standing + 1; since = now } else standing)
    rise_by standing true late due is = is
    rise_by standing false false due is = is
    rise_by standing false true due is =
        elim (leb_tells (standing.since + between_newcomers) now) as (λ _. IsBounded base since found now
        (record standing { limit = places_taken now standing + 1; since = now })) [
          | inl t ↦
              let waited = t.1 in let old = is.late in let places = is.places in record {
                rises = suc is.rises;
                late = omega (arith, waited, old);
                until = omega (arith);
                limit = omega (arith, places);
                places = omega (arith, places);
                read = is.read;
              }
          | inr t ↦ absurd (cc)
        ]

    risen : (standing : Standing) → IsBounded base since found now standing →
        IsBounded base since found now (with_rise now standing)
    risen standing = rise_by standing (is_room now standing) (nat_le (standing.since + between_newcomers) now) refl

    -- one more comes, for whom there is room
    pub record IsOneMore (old new : Standing) : Type 0 where
      pub limit : new.limit ≡ old.limit
      pub since_is : new.since ≡ old.since
      pub read : new.is_read ≡ old.is_read
      pub places : places_taken now new ≤ places_taken now old + 1

    with_one_more : (old new : Standing) → is_room now old ≡ true → IsOneMore old new →
        IsBounded base since found now old → IsBounded base since found now new
    with_one_more old new room more is = elim (leb_tells (suc (places_taken now old)) old.limit)
        as (λ _. IsBounded base since found now new) [
          | inl t ↦
              let below = t.1 in let most = is.limit in let late = is.late in let until = is.until in
              let limit_is = more.limit in let since_is = more.since_is in let places = more.places in
              let read = more.read in let was = is.read in record {
                rises = is.rises;
                late = omega (arith, late, since_is);
                until = omega (arith, until, since_is);
                limit = omega (arith, most, limit_is);
                places = omega (arith, below, most, places);
                read = rw read was;
              }
          | inr t ↦ absurd (cc)
        ]

    -- ---- a node shows itself

    newcomer_by : (node : ℕ) (standing : Standing) (room : Bool) → is_room now standing ≡ room →
        IsBounded base since found now standing → IsBounded base since found now (if room
        then (let r : Ruling = record { is_let_in = true; behind = with_heard_at now node standing } in r)
        else (record { is_let_in = false; behind = record standing { turned_away = Some now } })).behind
    newcomer_by node standing true room is =
        let more = heard_more now node standing.heard in
        with_one_more standing (with_heard_at now node standing) room
        (record { limit = refl; since_is = refl; read = refl; places = omega (arith, more) }) is
    newcomer_by node standing false room is = record {
      rises = is.rises;
      late = is.late;
      until = is.until;
      limit = is.limit;
      places = is.places;
      read = is.read;
    }

    heard_again_by : (node : ℕ) (standing : Standing) (read counted : Bool) → standing.is_read ≡ read →
        is_lately now (slice_index_or standing.heard node None) ≡ counted → (not read || counted) ≡ true →
        IsBounded base since found now standing → IsBounded base since found now (with_heard_at now node standing)
    heard_again_by node standing false counted read lately free is = absurd (let was = is.read in cc)
    heard_again_by node standing true false read lately free is = absurd (cc)
    heard_again_by node standing true true read lately free is =
        let fewer = heard_again now node standing.heard lately in let places = is.places in record {
          rises = is.rises;
          late = is.late;
          until = is.until;
          limit = is.limit;
          places = omega (arith, fewer, places);
          read = is.read;
        }

    show_by : (node : ℕ) (standing : Standing) (logged free : Bool) → is_free_to_show now node standing ≡ free →
        IsBounded base since found now standing → IsBounded base since found now (if logged
        then (let r : Ruling = record { is_let_in = true; behind = standing } in r)
        else if free then (let r : Ruling = record { is_let_in = true; behind = with_heard_at now node standing } in r)
        else rule_newcomer now node (with_rise now standing)).behind
    show_by node standing true free free_is is = is
    show_by node standing false true free_is is = heard_again_by node standing standing.is_read
        (is_lately now (slice_index_or standing.heard node None)) refl refl free_is is
    show_by node standing false false free_is is =
        newcomer_by node (with_rise now standing) (is_room now (with_rise now standing)) refl (risen standing is)

    -- ---- a device asks

    asked_more : (asked : ℕ) (part : Part) → one_more_asked part asked ≤ asked + 1
    asked_more asked (First bytes) = omega (arith)
    asked_more asked (Second bytes) = omega (arith)
    asked_more asked (Third bytes) = omega (arith)

    stranger_by : (part : Part) (standing : Standing) (room : Bool) → is_room now standing ≡ room →
        IsBounded base since found now standing → IsBounded base since found now (if room
        then (let r : Ruling = record {
          is_let_in = true;
          behind = record standing {
            asked = one_more_asked part standing.asked;
            requests = Some (record { last = now; told = None });
          };
        } in r) else (record { is_let_in = false; behind = standing })).behind
    stranger_by part standing true room is =
        let more = asked_more standing.asked part in
        with_one_more standing (record standing {
          asked = one_more_asked part standing.asked;
          requests = Some (record { last = now; told = None });
        }) room (record { limit = refl; since_is = refl; read = refl; places = omega (arith, more) }) is
    stranger_by part standing false room is = is

    away_by : (part : Part) (standing : Standing) (away : Bool) → IsBounded base since found now standing →
        IsBounded base since found now (if away
        then (let r : Ruling = record { is_let_in = false; behind = standing } in r)
        else rule_stranger now part (with_rise now standing)).behind
    away_by part standing true is = is
    away_by part standing false is =
        stranger_by part (with_rise now standing) (is_room now (with_rise now standing)) refl (risen standing is)

    told_by : (part : Part) (standing : Standing) (told : Option Partial) → IsBounded base since found now standing →
        IsBounded base since found now (rule_by_told now part standing told).behind
    told_by part standing None is = away_by part standing (is_lately now standing.turned_away) is
    told_by part standing (Some partial) is = record {
      rises = is.rises;
      late = is.late;
      until = is.until;
      limit = is.limit;
      places = is.places;
      read = is.read;
    }

    ask_by : (part : Part) (standing : Standing) (read : Bool) → IsBounded base since found now standing →
        IsBounded base since found now (if read then rule_by_told now part standing (continued_by now part standing)
        else (let r : Ruling = record { is_let_in = false; behind = standing } in r)).behind
    ask_by part standing true is = told_by part standing (continued_by now part standing) is
    ask_by part standing false is = is

    comes : (approach : Approach) (standing : Standing) → IsBounded base since found now standing →
        IsBounded base since found now (rule_approach now approach standing).behind
    comes (Shows node) standing is =
        show_by node standing (is_logged node standing) (is_free_to_show now node standing) refl is
    comes (Asks part) standing is = ask_by part standing standing.is_read is

    reading : (log : List Entry) (standing : Standing) → IsBounded base since found now standing →
        IsBounded base since (found + found_more (IsReadThen now log) standing) now
        (with_reading now (Some log) standing)
    reading log standing is = let places = is.places in let limit = is.limit in record {
      rises = is.rises;
      late = is.late;
      until = is.until;
      limit = omega (arith, limit);
      places = omega (arith, places);
      read = refl;
    }

  -- ---- all that happens

  add_nothing : (n : ℕ) → n ≡ n + 0
  add_nothing n = omega (arith)

  bounded : (first last : ℕ) (start : Standing) (happenings : List Occurrence) → HappenUntil first last happenings →
      IsBounded base since 0 first start →
      IsBounded base since (found_in_all start happenings) last (standing_behind start happenings)
  bounded first last start [] until is = later 0 first last start until is
  bounded first last start (Comes now approach ∷ before) until is =
      let found = found_in_all start before in let old = standing_behind start before in
      let new = comes found now approach old (bounded first now start before until.1 is) in
      subst (λ n. IsBounded base since n last (rule_approach now approach old).behind) (add_nothing found)
      (later found now last (rule_approach now approach old).behind until.0 new)
  bounded first last start (IsReadThen now log ∷ before) until is =
      let found = found_in_all start before in let old = standing_behind start before in
      let new = with_reading now (Some log) old in
      later (found + found_more (IsReadThen now log) old) now last new until.0
      (reading found now log old (bounded first now start before until.1 is))

low : (a b : ℕ) → a ≤ max a b
low a b = omega (arith)

pub slowly : (first last now : ℕ) (standing : Standing) (happenings : List Occurrence) → standing.is_read ≡ true →
    HappenUntil first last happenings → last ≤ now → standing.since ≤ first →
    (rises : ℕ) × (standing.since + rises * between_newcomers ≤ last) ×
    (places_taken now (standing_behind standing happenings) ≤
    max standing.limit (places_taken first standing) + found_in_all standing happenings + rises)
slowly first last now standing happenings read until le begun =
    let base = max standing.limit (places_taken first standing) in
    let new = standing_behind standing happenings in
    let found = found_in_all standing happenings in
    let is = bounded base standing.since first last standing happenings until (record {
      rises = 0;
      late = omega (arith);
      until = begun;
      limit = omega (arith);
      places = omega (arith);
      read = read;
    }) in
    let kept = later base standing.since found last now new le is in
    let late = kept.late in let by = is.until in let places = kept.places in
    (kept.rises, omega (arith, late, by), places)
