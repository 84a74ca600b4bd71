-- Where a byte stands first, and the spaces at the front of a text.
use Rattle.std.proofs.Common.{◌≡◌, ◌≢◌, ◌<◌, ◌≤◌, ◌+◌, ◌==◌, ℕ, List, [], ◌∷◌, ◌++◌, length, take, drop, get_or, replicate, ap, ◌∙◌, sym, arith, cond, ltb, refl, inl, inr, Some, None, unwrap_or, false, not, eq-eqb, length-append, take-append-drop}
use Rattle.std.specs.List.{All, position_or_len, prefix_len}
use Rattle.std.proofs.lemmas.Bool.{cases_lt, cases_eq, le-ltb, lt-ltb, ne_eqb, eqb-true}
use Rattle.std.proofs.lemmas.List.{get_or_append_left, get_or_at, get_or-take, get_or-drop, get_or-append-add, length-replicate, get_or-replicate, same_lists, length-take-le, get_or_past, take_at, drop_at, drop-drop, append_cancel_left}
use Rattle.std.proofs.lemmas.List.Elements.{All-get_or, All-from_get_or}
use Rattle.std.proofs.lemmas.List.Sums.{split_at_first, position_or_len_is, fails_before_first, passes_at_first, prefix_len_is, prefix_len_passes, prefix_len_stops}

-- what `position` and then `unwrap_or` give
pub place_or_end : (place end : ℕ) → place ≤ end → unwrap_or (cond (ltb place end) (Some place) None) end ≡ place
place_or_end place end within =
    elim (cases_lt place end) [
      | inl found ↦ rw (lt-ltb place end found) refl
      | inr missed ↦ rw (le-ltb place end missed) (omega arith)
    ]

-- the first place that is no space, and how many spaces there are
pub not_not : (text : List ℕ) → position_or_len (λ byte. not (byte == 32)) text ≡ prefix_len (λ byte. byte == 32) text
not_not [] = refl
not_not (byte ∷ text) =
    elim (cases_eq byte 32) [
      | inl space ↦ rw (eq-eqb byte 32 space) (ap (λ n. 1 + n) (not_not text))
      | inr other ↦ rw (ne_eqb byte 32 other) refl
    ]

-- a byte that is not in the front stands first behind it
pub first_place : (byte : ℕ) (front rest : List ℕ) → All (λ other. other ≢ byte) front
    → position_or_len (λ other. other == byte) (front ++ byte ∷ rest) ≡ length front
first_place byte front rest none =
    position_or_len_is (λ other. other == byte) (front ++ byte ∷ rest) (length front) 0
    (omega (arith, length-append front (byte ∷ rest)))
    (λ k below. rw (get_or_append_left front (byte ∷ rest) 0 k below) (ne_eqb (get_or front k 0) byte (All-get_or (λ other. other ≢ byte) front k 0 below none)))
    (λ _. rw (get_or_at front byte rest 0 (length front) refl) (eq-eqb byte byte refl))

-- a text is what stands before its first such byte, the byte, and what stands behind it
pub parts_at : (byte : ℕ) (text : List ℕ) (place : ℕ) → place ≡ position_or_len (λ other. other == byte) text → place < length text
    → text ≡ take place text ++ byte ∷ drop (place + 1) text
parts_at byte text place is within =
    let at = eqb-true (get_or text (position_or_len (λ other. other == byte) text) 0) byte (passes_at_first (λ other. other == byte) text 0 (rw (← is) within)) in
    rw is (split_at_first (λ other. other == byte) text 0 (rw (← is) within) ∙ ap (λ x. take (position_or_len (λ other. other == byte) text) text ++ x ∷ drop (position_or_len (λ other. other == byte) text + 1) text) at)

-- the byte does not stand before its first place
pub none_before : (byte : ℕ) (text : List ℕ) (place : ℕ) → place ≡ position_or_len (λ other. other == byte) text → place ≤ length text
    → All (λ other. other ≢ byte) (take place text)
none_before byte text place is within =
    All-from_get_or (λ other. other ≢ byte) (take place text) 0
    (λ k below e.
    let size = length-take-le place text within in
    let early : k < place = omega arith in
    let fails = fails_before_first (λ other. other == byte) text k 0 (rw (← is) early) in
    let here : get_or text k 0 ≡ byte = sym (get_or-take place text k 0 early) ∙ e in
    let passes = eq-eqb (get_or text k 0) byte here in
    absurd (cc))

-- such a byte behind a front without it: where it stands, and both sides
pub parts_only : (byte : ℕ) (text front rest : List ℕ) (place : ℕ) → place ≡ position_or_len (λ other. other == byte) text
    → All (λ other. other ≢ byte) front → text ≡ front ++ byte ∷ rest
    → (place ≡ length front) × (take place text ≡ front) × (drop (place + 1) text ≡ rest)
parts_only byte text front rest place is none spelt =
    let at : place ≡ length front = is ∙ ap (position_or_len (λ other. other == byte)) spelt ∙ first_place byte front rest none in (
      at,
      ap (take place) spelt ∙ take_at front (byte ∷ rest) place (sym at),
      ap (drop (place + 1)) spelt ∙ sym (drop-drop 1 place (front ++ byte ∷ rest)) ∙ ap (drop 1) (drop_at front (byte ∷ rest) place (sym at)),
    )

-- a text is cut at its first such byte in one way
pub one_cut : (byte : ℕ) (text front rest other more : List ℕ) → All (λ x. x ≢ byte) front → text ≡ front ++ byte ∷ rest
    → All (λ x. x ≢ byte) other → text ≡ other ++ byte ∷ more → (front ≡ other) × (rest ≡ more)
one_cut byte text front rest other more none spelt none_other spelt_other =
    let own = parts_only byte text front rest (position_or_len (λ x. x == byte) text) refl none spelt in
    let its = parts_only byte text other more (position_or_len (λ x. x == byte) text) refl none_other spelt_other in
    (sym own.1 ∙ its.1, sym own.2 ∙ its.2)

-- a text with that many spaces at its front
pub spaces_first : (text : List ℕ) (count : ℕ) → count ≡ prefix_len (λ byte. byte == 32) text → count ≤ length text
    → text ≡ replicate count 32 ++ drop count text
spaces_first text count is within =
    sym (take-append-drop count text)
    ∙ ap (λ front. front ++ drop count text) (same_lists (take count text) (replicate count 32)
    (length-take-le count text within ∙ sym (length-replicate {A = ℕ} count 32))
    (λ k d below.
    let size = length-take-le count text within in
    let early : k < count = omega arith in
    let passes = prefix_len_passes (λ byte. byte == 32) text k d (rw (← is) early) in
    get_or-take count text k d early ∙ eqb-true (get_or text k d) 32 passes ∙ sym (get_or-replicate count k 32 d early)))

-- no space stands behind them
pub none_left : (text : List ℕ) (count : ℕ) → count ≡ prefix_len (λ byte. byte == 32) text → get_or (drop count text) 0 0 ≡ 32 → ⊥
none_left text count is space =
    let same : count ≡ count + 0 = omega arith in
    let here : get_or text count 0 ≡ 32 = ap (λ n. get_or text n 0) same ∙ sym (get_or-drop count text 0 0) ∙ space in
    elim (cases_lt count (length text)) [
      | inl within ↦
          let stops = prefix_len_stops (λ byte. byte == 32) text 0 (rw (← is) within) in
          let passes = eq-eqb (get_or text count 0) 32 here in
          let other : (get_or text count 0 == 32) ≡ false = rw is stops in
          absurd (cc)
      | inr past ↦ let gone = get_or_past text count 0 past in absurd (omega arith)
    ]

behind : (more : ℕ) (rest : List ℕ) → get_or (replicate more 32 ++ rest) more 0 ≡ get_or rest 0 0
behind more rest =
    let size : length (replicate {A = ℕ} more 32) ≡ more = length-replicate {A = ℕ} more 32 in
    let here = get_or-append-add (replicate more 32) rest 0 0 in
    let at : length (replicate more 32) + 0 ≡ more = omega arith in
    ap (λ n. get_or (replicate more 32 ++ rest) n 0) (sym at) ∙ here

-- so many spaces and then no space: what is left is determined
pub rest_behind : (more : ℕ) (rest : List ℕ) → get_or rest 0 0 ≢ 32
    → prefix_len (λ byte. byte == 32) (replicate more 32 ++ rest) ≡ more
rest_behind more rest other =
    let size : length (replicate {A = ℕ} more 32) ≡ more = length-replicate {A = ℕ} more 32 in
    prefix_len_is (λ byte. byte == 32) (replicate more 32 ++ rest) more 0
    (omega (arith, length-append (replicate {A = ℕ} more 32) rest, size))
    (λ k below.
    let within : k < length (replicate {A = ℕ} more 32) = omega (arith, size, below) in
    let here : get_or (replicate {A = ℕ} more 32 ++ rest) k 0 ≡ 32 = get_or_append_left (replicate {A = ℕ} more 32) rest 0 k within ∙ get_or-replicate {A = ℕ} more k 32 0 below in
    eq-eqb (get_or (replicate {A = ℕ} more 32 ++ rest) k 0) 32 here)
    (λ _. ne_eqb (get_or (replicate more 32 ++ rest) more 0) 32 (λ e. other (sym (behind more rest) ∙ e)))

-- two ways to take the spaces off a text are one
pub one_rest : (text x y : List ℕ) (m n : ℕ) → text ≡ replicate m 32 ++ x → text ≡ replicate n 32 ++ y
    → get_or x 0 0 ≢ 32 → get_or y 0 0 ≢ 32 → x ≡ y
one_rest text x y m n first second left right =
    let counts : m ≡ n = sym (rest_behind m x left) ∙ ap (prefix_len (λ byte. byte == 32)) (sym first ∙ second) ∙ rest_behind n y right in
    append_cancel_left (replicate m 32) x y (sym first ∙ second ∙ ap (λ k. replicate k 32 ++ y) (sym counts))
