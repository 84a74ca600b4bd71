-- Who answered lately, and who follows.
use Rattle.std.proofs.Common.{◌≡◌, ◌∙◌, ◌⊎◌, inl, inr, ◌≤◌, ◌<◌, ◌+◌, ◌*◌, ◌&&◌, ◌||◌, ℕ, zero, suc, Bool, true, false, List, [], ◌∷◌, refl, sym, subst, arith, nat_eq, nat_le, length, if◌then◌else◌}
use Rattle.std.specs.Prelude.{Option, Some, None, count_by, replicate, slice_index_or, slice_set}
use Rattle.std.proofs.lemmas.Bool.{lt-ltb, ltb-true}
use Rattle.std.proofs.lemmas.Bool.Decides.{eqb_tells, leb_tells}
use Rattle.std.proofs.lemmas.List.{get_or-set_other, get_or-set_same}
use Rattle.can_frame.specs.Sizes.{node_ids}
use Rattle.std.proofs.lemmas.List.Sums.{sum_by-cons}
use Rattle.told_link.specs.Following.{AnswerAt, ComeBefore, answered_by, answered_lately, answered_of, following, follows, has_answered, is_followed, noted}

either : (a b : Bool) → (a || b) ≡ true → (a ≡ true) ⊎ (b ≡ true)
either true b e = inl refl
either false b e = inr e

second : (a b : Bool) → (a && b) ≡ true → b ≡ true
second true b e = e
second false b e = absurd (cc)

or_left : (a b : Bool) → a ≡ true → (a || b) ≡ true
or_left a b e = rw e refl

or_right : (a b : Bool) → b ≡ true → (a || b) ≡ true
or_right true b e = refl
or_right false b e = e

within : (now at : ℕ) → now ≤ at + following → nat_le now (at + following) ≡ true
within now at le = elim (leb_tells now (at + following)) as (λ _. nat_le now (at + following) ≡ true) [
  | inl t ↦ t.0
  | inr t ↦ absurd (omega (arith, le, t.1))
]

was_within : (now at : ℕ) → nat_le now (at + following) ≡ true → now ≤ at + following
was_within now at e = elim (leb_tells now (at + following)) as (λ _. now ≤ at + following) [
  | inl t ↦ t.1
  | inr t ↦ absurd (cc (e, t.0))
]

-- ---- who follows answered lately

seen : (test : Bool) (now at : ℕ) (rest : Option ℕ) (more : Bool) →
    (answered_lately now rest ≡ true → more ≡ true) →
    answered_lately now (if test then Some at else rest) ≡ true →
    ((test && nat_le now (at + following)) || more) ≡ true
seen true now at rest more old e = or_left (nat_le now (at + following)) more e
seen false now at rest more old e = old e

has_seen : (now id : ℕ) (answers : List AnswerAt) → answered_lately now (answered_by answers id) ≡ true →
    has_answered now answers id ≡ true
has_seen now id [] e = absurd (cc)
has_seen now id (answer ∷ before) e =
    seen (nat_eq answer.node id) now answer.at (answered_by before id) (has_answered now before id)
    (has_seen now id before) e

-- ---- who answered lately follows, where answers come in order

bound : (now at id : ℕ) (answers : List AnswerAt) → ComeBefore at answers → has_answered now answers id ≡ true →
    now ≤ at + following
bound now at id [] come e = absurd (cc)
bound now at id (answer ∷ before) come e =
    elim (either (nat_eq answer.node id && nat_le now (answer.at + following)) (has_answered now before id) e)
    as (λ _. now ≤ at + following) [
      | inl this ↦
          let le = was_within now answer.at (second (nat_eq answer.node id) (nat_le now (answer.at + following)) this) in
          omega (arith, le, come.0)
      | inr older ↦
          let le = bound now answer.at id before come.1 older in
          omega (arith, le, come.0)
    ]

last : (test : Bool) (now at : ℕ) (rest : Option ℕ) (more : Bool) → (more ≡ true → now ≤ at + following) →
    (more ≡ true → answered_lately now rest ≡ true) →
    ((test && nat_le now (at + following)) || more) ≡ true →
    answered_lately now (if test then Some at else rest) ≡ true
last true now at rest more le old e =
    elim (either (nat_le now (at + following)) more e) as (λ _. nat_le now (at + following) ≡ true) [
      | inl this ↦ this
      | inr older ↦ within now at (le older)
    ]
last false now at rest more le old e = old e

is_last : (now until id : ℕ) (answers : List AnswerAt) → ComeBefore until answers → has_answered now answers id ≡ true →
    answered_lately now (answered_by answers id) ≡ true
is_last now until id [] come e = absurd (cc)
is_last now until id (answer ∷ before) come e =
    last (nat_eq answer.node id) now answer.at (answered_by before id) (has_answered now before id)
    (bound now answer.at id before come.1) (is_last now answer.at id before come.1) e

-- ---- how many

of_one_more : (p : ℕ → Bool) (id : ℕ) (ids : List ℕ) → count_by p (id ∷ ids) ≡ (if p id then 1 else 0) + count_by p ids
of_one_more p id ids = sum_by-cons (λ x. if p x then 1 else 0) id ids

no_less : (p q : Bool) → (p ≡ true → q ≡ true) → (if p then 1 else 0) ≤ (if q then 1 else 0)
no_less true true all = omega arith
no_less true false all = let not_q = all refl in absurd (cc (not_q))
no_less false true all = omega arith
no_less false false all = omega arith

more : (p q : ℕ → Bool) → ((id : ℕ) → p id ≡ true → q id ≡ true) → (ids : List ℕ) → count_by p ids ≤ count_by q ids
more p q all [] = omega arith
more p q all (id ∷ ids) =
    let one = no_less (p id) (q id) (all id) in
    let rest = more p q all ids in
    omega (arith, one, rest, of_one_more p id ids, of_one_more q id ids)

or_in : (own p q : Bool) → (p ≡ true → q ≡ true) → (own || p) ≡ true → (own || q) ≡ true
or_in true p q all e = refl
or_in false p q all e = all e

module _ (now me : ℕ) (ids : List ℕ) (answers : List AnswerAt) where
  abbrev answered : ℕ → Bool
  answered id = nat_eq id me || has_answered now answers id

  pub answered_enough : is_followed now me ids (answered_by answers) ≡ true →
      length ids < 2 * count_by (λ id. nat_eq id me || has_answered now answers id) ids
  answered_enough e =
      let le = more (follows now me (answered_by answers)) answered
      (λ id. or_in (nat_eq id me) (answered_lately now (answered_by answers id)) (has_answered now answers id)
      (has_seen now id answers)) ids in
      let enough = ltb-true (length ids) (2 * count_by (follows now me (answered_by answers)) ids) e in
      omega (arith, le, enough)

  pub enough_follow : ComeBefore now answers →
      length ids < 2 * count_by (λ id. nat_eq id me || has_answered now answers id) ids →
      is_followed now me ids (answered_by answers) ≡ true
  enough_follow come enough =
      let le = more answered (follows now me (answered_by answers))
      (λ id. or_in (nat_eq id me) (has_answered now answers id) (answered_lately now (answered_by answers id))
      (is_last now now id answers come)) ids in
      lt-ltb (length ids) (2 * count_by (follows now me (answered_by answers)) ids) (omega (arith, le, enough))

-- ---- what is kept of each node

none_of : (count id : ℕ) → answered_of (replicate count None) id ≡ None
none_of zero id = refl
none_of (suc n) zero = refl
none_of (suc n) (suc id) = none_of n id

pub none_answered : (id : ℕ) → answered_of (replicate node_ids None) id ≡ answered_by [] id
none_answered id = none_of node_ids id

pub reading_is : (all : List (Option ℕ)) (answers : List AnswerAt) (answer : AnswerAt) (id : ℕ) →
    answer.node < length all → answered_of all id ≡ answered_by answers id →
    answered_of (noted answer.node answer.at true all) id ≡ answered_by (answer ∷ answers) id
reading_is all answers answer id within same = elim (eqb_tells answer.node id)
    as (λ _. answered_of (noted answer.node answer.at true all) id ≡ answered_by (answer ∷ answers) id) [
      | inl t ↦ rw (t.0) (subst (λ (j : ℕ). slice_index_or (slice_set all answer.node (Some answer.at)) j None
          ≡ Some answer.at) t.1 (get_or-set_same all answer.node (Some answer.at) None within))
      | inr t ↦ rw (t.0) (get_or-set_other all answer.node id (Some answer.at) None (λ e. t.1 (sym e)) ∙ same)
    ]
