-- How a ceiling rises.
use Rattle.std.proofs.Common.{◌≡◌, ◌≤◌, ◌<◌, ◌+◌, ◌*◌, ◌⊎◌, inl, inr, ℕ, suc, Bool, true, false, ◌&&◌, List, [], ◌∷◌, refl, arith, nat_le, nat_lt, if◌then◌else◌}
use Rattle.std.proofs.lemmas.Bool.Decides.{leb_tells}
use Rattle.told_link.specs.Terms.{CallsOn, Coming, ComeUntil, between_rises, ceiling_above, ceiling_by, last_time_of, between_calls, most_terms, raised_by, takes_term}
use Rattle.told_link.specs.declared.terms.Ceiling.{Ceiling}

-- a rise
record Rises (now term : ℕ) (old new : Ceiling) : Type 0 where
  above : old.term < term
  late : old.since + between_rises ≤ now
  term_is : new.term ≡ old.term + most_terms
  since_is : new.since ≡ now

-- none: the term is not too high, or the last rise is not so long ago
record Stays (now term : ℕ) (old new : Ceiling) : Type 0 where
  term_is : new.term ≡ old.term
  since_is : new.since ≡ old.since
  why : (term ≤ old.term) ⊎ (now < old.since + between_rises)

either : (now term : ℕ) (old : Ceiling) (above late : Bool) →
    ((above ≡ true) × (old.term < term)) ⊎ ((above ≡ false) × (term < suc old.term)) →
    ((late ≡ true) × (old.since + between_rises ≤ now)) ⊎ ((late ≡ false) × (now < old.since + between_rises)) →
    let new : Ceiling = if above && late then ceiling_above now old.term else old in
    Rises now term old new ⊎ Stays now term old new
either now term old true true (inl a) (inl l) = inl (record { above = a.1; late = l.1; term_is = refl; since_is = refl })
either now term old true true (inl a) (inr l) = absurd (cc)
either now term old true true (inr a) l = absurd (cc)
either now term old true false a (inl l) = absurd (cc)
either now term old true false a (inr l) = inr (record { term_is = refl; since_is = refl; why = inr l.1 })
either now term old false late (inl a) l = absurd (cc)
either now term old false late (inr a) l =
    inr (record { term_is = refl; since_is = refl; why = inl (omega (arith, a)) })

rises_or_stays : (now term : ℕ) (old : Ceiling) →
    Rises now term old (raised_by now term old) ⊎ Stays now term old (raised_by now term old)
rises_or_stays now term old = either now term old (nat_lt old.term term) (nat_le (old.since + between_rises) now)
    (leb_tells (suc old.term) term) (leb_tells (old.since + between_rises) now)

-- ---- it never falls

falls_never : (first : Ceiling) (before : List Coming) → first.term ≤ (ceiling_by first before).term
falls_never first [] = omega (arith)
falls_never first (coming ∷ before) =
    let so_far = falls_never first before in
    elim (rises_or_stays coming.now coming.term (ceiling_by first before))
    as (λ _. first.term ≤ (ceiling_by first (coming ∷ before)).term) [
      | inl r ↦ let is = r.term_is in omega (arith, so_far, is)
      | inr s ↦ let is = s.term_is in omega (arith, so_far, is)
    ]

not_above : (term ceiling : ℕ) → term ≤ ceiling → nat_le term ceiling ≡ true
not_above term ceiling le = elim (leb_tells term ceiling) as (λ _. nat_le term ceiling ≡ true) [
  | inl t ↦ t.0
  | inr t ↦ absurd (omega (arith, le, t.1))
]

is_above : (term ceiling : ℕ) → ceiling < term → nat_le term ceiling ≡ false
is_above term ceiling lt = elim (leb_tells term ceiling) as (λ _. nat_le term ceiling ≡ false) [
  | inl t ↦ absurd (omega (arith, lt, t.1))
  | inr t ↦ t.0
]

below : (term ceiling : ℕ) → nat_le term ceiling ≡ true → term ≤ ceiling
below term ceiling is = elim (leb_tells term ceiling) as (λ _. term ≤ ceiling) [
  | inl t ↦ t.1
  | inr t ↦ absurd (cc)
]

pub taken : (own first : ℕ) (before : List Coming) (coming : Coming) → coming.term ≤ own + most_terms →
    takes_term (ceiling_above first own) before coming ≡ true
taken own first before coming le =
    let more = falls_never (ceiling_above first own) (coming ∷ before) in
    not_above coming.term (ceiling_by (ceiling_above first own) (coming ∷ before)).term (omega (arith, le, more))

-- ---- it rises slowly

record Bounded (own first last : ℕ) (ceiling : Ceiling) : Type 0 where
  rises : ℕ
  term_is : ceiling.term ≡ own + most_terms + rises * most_terms
  since_is : first + rises * between_rises ≤ ceiling.since
  until : ceiling.since ≤ last

bounded : (own first last : ℕ) (before : List Coming) → ComeUntil last before → first ≤ last →
    Bounded own first last (ceiling_by (ceiling_above first own) before)
bounded own first last [] until le =
    record { rises = 0; term_is = omega (arith); since_is = omega (arith); until = le }
bounded own first last (coming ∷ before) until le =
    let old = ceiling_by (ceiling_above first own) before in
    let so_far = bounded own first last before until.1 le in
    let count = so_far.rises in
    let old_term = so_far.term_is in
    let old_since = so_far.since_is in
    let old_until = so_far.until in
    let by = until.0 in
    elim (rises_or_stays coming.now coming.term old)
    as (λ _. Bounded own first last (ceiling_by (ceiling_above first own) (coming ∷ before))) [
      | inl r ↦ let term = r.term_is in let since = r.since_is in let late = r.late in record {
        rises = suc count;
        term_is = omega (arith, old_term, term);
        since_is = omega (arith, old_since, since, late);
        until = omega (arith, since, by);
      }
      | inr s ↦ let term = s.term_is in let since = s.since_is in record {
        rises = count;
        term_is = omega (arith, old_term, term);
        since_is = omega (arith, old_since, since);
        until = omega (arith, since, old_until);
      }
    ]

pub refused : (own first last : ℕ) (before : List Coming) (coming : Coming) → ComeUntil last (coming ∷ before) →
    first ≤ last → last < first + between_rises → own + most_terms < coming.term →
    takes_term (ceiling_above first own) before coming ≡ false
refused own first last before coming until le soon high =
    let is = bounded own first last (coming ∷ before) until le in
    let rises = is.rises in
    let term = is.term_is in
    let since = is.since_is in
    let late = is.until in
    is_above coming.term (ceiling_by (ceiling_above first own) (coming ∷ before)).term
    (omega (arith, soon, high, term, since, late))

pub slowly : (own first : ℕ) (before : List Coming) (coming : Coming) → ComeUntil coming.now before →
    first ≤ coming.now → takes_term (ceiling_above first own) before coming ≡ true →
    (rises : ℕ) × (first + rises * between_rises ≤ coming.now) ×
    (coming.term ≤ own + most_terms + rises * most_terms)
slowly own first before coming until le is =
    let ceiling = ceiling_by (ceiling_above first own) (coming ∷ before) in
    let bound = bounded own first coming.now (coming ∷ before) (omega (arith), until) le in
    let low = below coming.term ceiling.term is in
    let term = bound.term_is in
    let since = bound.since_is in
    let late = bound.until in
    (bound.rises, omega (arith, since, late), omega (arith, low, term))

-- ---- a term that comes again and again

-- after so many rises it is taken
record Reaches (first : Ceiling) (term : ℕ) (ceiling : Ceiling) : Type 0 where
  rises : ℕ
  term_is : ceiling.term ≡ first.term + rises * most_terms
  high : term ≤ ceiling.term

-- after so many rises it was not taken, and the last one is not long ago
record Climbs (first : Ceiling) (last term : ℕ) (ceiling : Ceiling) : Type 0 where
  rises : ℕ
  term_is : ceiling.term ≡ first.term + rises * most_terms
  since_is : ceiling.since ≤ first.since + rises * (between_rises + between_calls)
  soon : last < ceiling.since + between_rises

step : (first : Ceiling) (term last now called : ℕ) (old new : Ceiling) (calls : Bool) →
    ((calls ≡ true) × (term ≤ called)) ⊎ ((calls ≡ false) × (called < term)) → now ≤ last + between_calls →
    Rises now called old new ⊎ Stays now called old new → Reaches first term old ⊎ Climbs first last term old →
    Reaches first term new ⊎ Climbs first (if calls then now else last) term new
step first term last now called old new calls it soon (inl r) (inl t) =
    let is = r.term_is in let old_term = t.term_is in let high = t.high in
    inl (record { rises = suc t.rises; term_is = omega (arith, is, old_term); high = omega (arith, high, is) })
step first term last now called old new calls it soon (inr s) (inl t) =
    let is = s.term_is in let old_term = t.term_is in let high = t.high in
    inl (record { rises = t.rises; term_is = omega (arith, is, old_term); high = omega (arith, high, is) })
step first term last now called old new true it soon (inl r) (inr c) =
    let is = r.term_is in let since = r.since_is in
    let old_term = c.term_is in let old_since = c.since_is in let old_soon = c.soon in
    inr (record {
      rises = suc c.rises;
      term_is = omega (arith, is, old_term);
      since_is = omega (arith, since, old_since, old_soon, soon);
      soon = omega (arith, since);
    })
step first term last now called old new false it soon (inl r) (inr c) =
    let is = r.term_is in let since = r.since_is in let late = r.late in
    let old_term = c.term_is in let old_since = c.since_is in let old_soon = c.soon in
    inr (record {
      rises = suc c.rises;
      term_is = omega (arith, is, old_term);
      since_is = omega (arith, since, old_since, old_soon, soon);
      soon = omega (arith, since, late, old_soon);
    })
step first term last now called old new true (inr no_call) soon (inr s) (inr c) = absurd (cc)
step first term last now called old new true (inl call) soon (inr s) (inr c) =
    let is = s.term_is in let since = s.since_is in
    let old_term = c.term_is in let old_since = c.since_is in let high = call.1 in
    elim s.why [
      | inl w ↦ inl (record {
        rises = c.rises;
        term_is = omega (arith, is, old_term);
        high = omega (arith, w, is, high);
      })
      | inr w ↦ inr (record {
        rises = c.rises;
        term_is = omega (arith, is, old_term);
        since_is = omega (arith, since, old_since);
        soon = omega (arith, since, w);
      })
    ]
step first term last now called old new false it soon (inr s) (inr c) =
    let is = s.term_is in let since = s.since_is in
    let old_term = c.term_is in let old_since = c.since_is in let old_soon = c.soon in
    inr (record {
      rises = c.rises;
      term_is = omega (arith, is, old_term);
      since_is = omega (arith, since, old_since);
      soon = omega (arith, since, old_soon);
    })

climbs : (first : Ceiling) (term : ℕ) (before : List Coming) → CallsOn first term before →
    Reaches first term (ceiling_by first before)
    ⊎ Climbs first (last_time_of first term before) term (ceiling_by first before)
climbs first term [] calls = inr (record {
  rises = 0;
  term_is = omega (arith);
  since_is = omega (arith);
  soon = omega (arith);
})
climbs first term (coming ∷ before) calls = step first term (last_time_of first term before) coming.now coming.term
    (ceiling_by first before) (ceiling_by first (coming ∷ before)) (nat_le term coming.term)
    (leb_tells term coming.term) calls.0 (rises_or_stays coming.now coming.term (ceiling_by first before))
    (climbs first term before calls.1)

last_is : (first : Ceiling) (low : ℕ) (before : List Coming) (coming : Coming) → low ≤ coming.term →
    last_time_of first low (coming ∷ before) ≡ coming.now
last_is first low before coming le = elim (leb_tells low coming.term)
    as (λ _. last_time_of first low (coming ∷ before) ≡ coming.now) [
      | inl t ↦ rw (t.0) refl
      | inr t ↦ absurd (omega (arith, le, t.1))
    ]

pub taken_on : (ceiling : Ceiling) (low spans : ℕ) (before : List Coming) (coming : Coming) →
    CallsOn ceiling low (coming ∷ before) → low ≤ coming.term → coming.term ≤ ceiling.term + spans * most_terms →
    ceiling.term + spans * most_terms < low + most_terms →
    ceiling.since + spans * (between_rises + between_calls) ≤ coming.now → takes_term ceiling before coming ≡ true
taken_on ceiling low spans before coming calls from until near late =
    not_above coming.term (ceiling_by ceiling (coming ∷ before)).term
    (elim (climbs ceiling low (coming ∷ before) calls) [
      | inl r ↦ let count = r.rises in let term = r.term_is in let high = r.high in
          elim (leb_tells spans count) [
            | inl t ↦ let enough = t.1 in omega (arith, until, term, enough)
            | inr t ↦ let few = t.1 in absurd (omega (arith, near, term, high, few))
          ]
      | inr c ↦ let count = c.rises in let term = c.term_is in let since = c.since_is in let soon = c.soon in
          let now = last_is ceiling low before coming from in elim (leb_tells spans count) [
            | inl t ↦ let enough = t.1 in omega (arith, until, term, enough)
            | inr t ↦ let few = t.1 in absurd (omega (arith, late, since, soon, now, few))
          ]
    ])
