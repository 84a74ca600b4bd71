-- Behind a silence.
use Rattle.std.proofs.Common.{◌≡◌, ◌≤◌, ◌<◌, ◌+◌, inl, inr, ℕ, Bool, true, false, List, [], ◌∷◌, ◌++◌, refl, arith, nat_le, if◌then◌else◌}
use Rattle.std.specs.Prelude.{Option, Some, None}
use Rattle.std.proofs.lemmas.Bool.Decides.{leb_tells}
use Rattle.told_link.specs.Silence.{ComeSince, ComesBehindSilence, IsHeardOn, answer_counts, heard_at, known_by, settling, shortest_silence}
use Rattle.told_link.specs.declared.silence.Heard.{Heard}

last_is : (now : ℕ) (before : Option Heard) → (heard_at now before).last ≡ now
last_is now None = refl
last_is now (Some heard) = refl

chosen : (test : Bool) (first a b : ℕ) → first ≤ a → first ≤ b → first ≤ (if test then a else b)
chosen true first a b x y = x
chosen false first a b x y = y

-- a frame that comes later moves the end of the silence to no earlier moment
later : (first now : ℕ) (heard : Heard) → first ≤ now → first ≤ heard.back → first ≤ (heard_at now (Some heard)).back
later first now heard = chosen (nat_le (heard.last + shortest_silence) now) first now heard.back

-- a frame that comes soon after another one does not move it
stays : (first now : ℕ) (heard : Heard) → now < heard.last + shortest_silence → heard.back ≡ first →
    (heard_at now (Some heard)).back ≡ first
stays first now heard soon is = elim (leb_tells (heard.last + shortest_silence) now) as (λ _. (heard_at now (Some heard)).back ≡ first) [
  | inl t ↦ absurd (omega (arith, soon, t.1))
  | inr t ↦ rw (t.0) is
]

starts : (first : ℕ) (before : List ℕ) → ComesBehindSilence first before → (heard_at first (known_by before)).back ≡ first
starts first [] behind = refl
starts first (last ∷ before) behind =
    let heard = heard_at last (known_by before) in
    let is = last_is last (known_by before) in
    elim (leb_tells (heard.last + shortest_silence) first) as (λ _. (heard_at first (Some heard)).back ≡ first) [
      | inl t ↦ rw (t.0) refl
      | inr t ↦ absurd (omega (arith, behind, t.1, is))
    ]

back_since : (first now : ℕ) (since before : List ℕ) → ComesBehindSilence first before → ComeSince first since →
    first ≤ now → first ≤ (heard_at now (known_by (since ++ first ∷ before))).back
back_since first now [] before behind since_then le =
    let is = starts first before behind in
    later first now (heard_at first (known_by before)) le (omega (arith, is))
back_since first now (last ∷ since) before behind since_then le =
    later first now (heard_at last (known_by (since ++ first ∷ before))) le
    (back_since first last since before behind since_then.1 since_then.0)

back_is : (first now : ℕ) (since before : List ℕ) → ComesBehindSilence first before → IsHeardOn first since now →
    (heard_at now (known_by (since ++ first ∷ before))).back ≡ first
back_is first now [] before behind soon =
    let is = last_is first (known_by before) in
    stays first now (heard_at first (known_by before)) (omega (arith, soon, is)) (starts first before behind)
back_is first now (last ∷ since) before behind soon =
    let is = last_is last (known_by (since ++ first ∷ before)) in
    let so_far = soon.0 in
    stays first now (heard_at last (known_by (since ++ first ∷ before))) (omega (arith, so_far, is))
    (back_is first last since before behind soon.1)

pub none_counts : (now first : ℕ) (since before : List ℕ) → ComesBehindSilence first before → ComeSince first since →
    first ≤ now → now < first + settling → answer_counts now (since ++ first ∷ before) ≡ false
none_counts now first since before behind since_then le early =
    let back = (heard_at now (known_by (since ++ first ∷ before))).back in
    let is = back_since first now since before behind since_then le in
    elim (leb_tells (back + settling) now) as (λ _. answer_counts now (since ++ first ∷ before) ≡ false) [
      | inl t ↦ absurd (omega (arith, early, is, t.1))
      | inr t ↦ t.0
    ]

pub count_again : (now first : ℕ) (since before : List ℕ) → ComesBehindSilence first before → IsHeardOn first since now →
    first + settling ≤ now → answer_counts now (since ++ first ∷ before) ≡ true
count_again now first since before behind soon late =
    let back = (heard_at now (known_by (since ++ first ∷ before))).back in
    let is = back_is first now since before behind soon in
    elim (leb_tells (back + settling) now) as (λ _. answer_counts now (since ++ first ∷ before) ≡ true) [
      | inl t ↦ t.0
      | inr t ↦ absurd (omega (arith, late, is, t.1))
    ]
