-- The chains of a pool, beside what is kept of the sessions.
use Rattle.std.proofs.Common.{◌≡◌, ◌≢◌, ℕ, suc, ◌+◌, ◌*◌, ◌/◌, ◌<◌, true, false, List, [], ◌∷◌, ◌++◌, length, get_or, set, take, refl, sym, ap, ◌∙◌, arith, subst, inl, inr, nat_eq, length-append, replicate}
use Rattle.std.specs.Prelude.{IfSome, IsErr, IsNone, IsOk, OnErr, OnOk, Option, None, Some, Result, Ok, Err}
use Rattle.std.specs.List.{sum_by}
use Rattle.std.proofs.lemmas.Bool.Decides.{eqb_tells}
use Rattle.std.proofs.lemmas.List.{get_or-replicate, get_or-set_other, get_or-set_same, length-replicate, length-set, set-get_or, take_all}
use Rattle.std.proofs.lemmas.List.Sums.{sum_by-cons, sum_by-set}
use Rattle.block_pool.specs.Chains.{blocks_used, free_blocks, further_blocks}
use Rattle.can_frame.specs.Cutting.{joined}
use Rattle.transfer_rx.specs.declared.progress.Progress.{Progress}
use Rattle.transfer_rx.specs.Filled.{AreFilled, Fills, HasRoomFor, emptied, taken_at}
use Rattle.transfer_rx.specs.Places.{Places, KeepPlaces, blocks_at}
use Rattle.transfer_rx.specs.Sessions.{Session}
use Rattle.transfer_rx.specs.Progress.{IsProgressAt, IsProgressOf}
use Rattle.transfer_rx.proofs.Blocks.{bytes_kept}

-- one place is set with its chain, and the others stay
pub set_filled : (progress : List (Option Progress)) (chains after : List (List ℕ)) (place : ℕ) (o : Option Progress) → AreFilled progress chains →
    place < length progress → ((i : ℕ) → i ≢ place → get_or after i [] ≡ get_or chains i []) → length (get_or after place []) ≡ 7 * taken_at o →
    AreFilled (set progress place o) after
set_filled progress chains after place o f h others here = λ i l. elim (eqb_tells i place) [
  | inl own ↦
      subst (λ j. length (get_or after j []) ≡ 7 * taken_at (get_or (set progress place o) j None)) (sym own.1)
      (here ∙ ap (λ x. 7 * taken_at x) (sym (get_or-set_same progress place o None h)))
  | inr other ↦
      ap length (others i other.1) ∙ f i (subst (λ n. i < n) (length-set progress place o) l)
      ∙ ap (λ x. 7 * taken_at x) (sym (get_or-set_other progress place i o None other.1))
]

abbrev no_chain : List ℕ
no_chain = []

-- places without sessions have empty chains
pub none_filled : (S : ℕ) → AreFilled (replicate S None) (replicate S no_chain)
none_filled S = λ place l.
    let lt : place < S = omega (arith, length-replicate {A = Option Progress} S None) in
    ap length (get_or-replicate S place no_chain [] lt)
    ∙ ap (λ (x : Option Progress). 7 * taken_at x) (sym (get_or-replicate S place (none_there) None lt)) where
      none_there : Option Progress
      none_there = None

-- ---- a chain that is emptied where nothing is taken

-- no other chain is emptied
pub emptied_other : (taken place : ℕ) (chains : List (List ℕ)) (i : ℕ) → i ≢ place → get_or (emptied taken place chains) i [] ≡ get_or chains i []
emptied_other taken place chains i ne = elim (eqb_tells taken 0) [
  | inl none ↦ let t : nat_eq taken 0 ≡ true = none.0 in rw t (get_or-set_other chains place i [] [] ne)
  | inr some ↦ let f : nat_eq taken 0 ≡ false = some.0 in rw f refl
]

-- there are as many chains as before
pub length-emptied : (taken place : ℕ) (chains : List (List ℕ)) → length (emptied taken place chains) ≡ length chains
length-emptied taken place chains = elim (eqb_tells taken 0) [
  | inl none ↦ let t : nat_eq taken 0 ≡ true = none.0 in rw t (length-set chains place [])
  | inr some ↦ let f : nat_eq taken 0 ≡ false = some.0 in rw f refl
]

module _ (p : Progress) (place : ℕ) (chains : List (List ℕ)) (there : place < length chains) where
  -- the chain has the bytes that were taken, and no more
  pub exact : Fills p (get_or chains place []) → length (get_or (emptied p.taken place chains) place []) ≡ 7 * p.taken
  exact filled = elim (eqb_tells p.taken 0) [
    | inl none ↦
        let t : nat_eq p.taken 0 ≡ true = none.0 in
        let zero_taken : p.taken ≡ 0 = none.1 in
        let e : length (get_or (set chains place []) place []) ≡ 0 = ap length (get_or-set_same chains place [] [] there) in
        rw t (omega arith)
    | inr some ↦
        let f : nat_eq p.taken 0 ≡ false = some.0 in
        let ne = some.1 in
        rw f (sym (filled (omega arith)))
  ]

  -- the chain still has the bytes of the session
  pub emptied_keeps : (session : Session) → IsProgressOf p (get_or chains place []) session → IsProgressOf p (get_or (emptied p.taken place chains) place []) session
  emptied_keeps session k = elim (eqb_tells p.taken 0) [
    | inl none ↦
        let t : nat_eq p.taken 0 ≡ true = none.0 in
        let zero_taken : p.taken ≡ 0 = none.1 in
        let no_bytes : 7 * p.taken ≡ 0 = omega arith in
        let e : get_or (set chains place []) place [] ≡ [] = get_or-set_same chains place [] [] there in
        let none_there : take (7 * p.taken) no_chain ≡ joined session.taken =
        ap (λ n. take n no_chain) no_bytes ∙ sym (ap (λ n. take n (get_or chains place [])) no_bytes) ∙ k.collected in
        rw (t, e) (record {
          key = k.key;
          expected = k.expected;
          moment = k.moment;
          taken = k.taken;
          part = k.part;
          collected = none_there;
          marks = k.marks;
          begun = k.begun;
          whole = k.whole;
        })
    | inr some ↦ let f : nat_eq p.taken 0 ≡ false = some.0 in rw f k
  ]

-- setting what is there changes nothing
pub set_own : (taken place : ℕ) (chains : List (List ℕ)) →
    place < length chains → set chains place (get_or (emptied taken place chains) place []) ≡ emptied taken place chains
set_own taken place chains there = elim (eqb_tells taken 0) [
  | inl none ↦
      let t : nat_eq taken 0 ≡ true = none.0 in
      let e : get_or (set chains place []) place [] ≡ [] = get_or-set_same chains place [] [] there in
      rw (t, e) refl
  | inr some ↦ let f : nat_eq taken 0 ≡ false = some.0 in rw f (set-get_or chains place [])
]

-- ---- the blocks

same_sums : (xs : List (List ℕ)) (ys : Places) → length xs ≡ length ys →
    ((i : ℕ) → i < length xs → blocks_used (get_or xs i []) ≡ blocks_at (get_or ys i None)) → sum_by blocks_used xs ≡ sum_by blocks_at ys
same_sums [] [] e h = refl
same_sums [] (y ∷ ys) e h = absurd (omega arith)
same_sums (x ∷ xs) [] e h = absurd (omega arith)
same_sums (x ∷ xs) (y ∷ ys) e h =
    let one : blocks_used x ≡ blocks_at y = h 0 (omega arith) in
    let rest = same_sums xs ys (omega arith) (λ i l. h (suc i) (omega arith)) in
    sum_by-cons blocks_used x xs ∙ (λ i. one i + rest i) ∙ sym (sum_by-cons blocks_at y ys)

one_place : (o : Option Progress) (chain : List ℕ) (there : Option Session) → IsProgressAt o chain there → length chain ≡ 7 * taken_at o → blocks_used chain ≡ blocks_at there
one_place None chain None h e = let none : length chain ≡ 0 = omega arith in ap (λ n. (n + 27) / 28) none
one_place None chain (Some session) h e = absurd h
one_place (Some p) chain None h e = absurd h
one_place (Some p) chain (Some session) h e = ap (λ n. (n + 27) / 28) (e ∙ bytes_kept p chain session h)

-- the chains use as many blocks as the sessions
pub same_blocks : (progress : List (Option Progress)) (chains : List (List ℕ)) (places : Places) → KeepPlaces progress chains places →
    AreFilled progress chains → length chains ≡ length progress → sum_by blocks_used chains ≡ sum_by blocks_at places
same_blocks progress chains places s f size =
    same_sums chains places (size ∙ sym s.size)
    (λ i l. one_place (get_or progress i None) (get_or chains i []) (get_or places i None) (s.each i (omega arith)) (f i (omega arith)))

module _ (blocks place : ℕ) (progress : List (Option Progress)) (chains : List (List ℕ)) (places : Places)
    (s : KeepPlaces progress chains places) (f : AreFilled progress chains) (size : length chains ≡ length progress) (h : place < length progress) where
  -- the blocks of the pool, when one chain is of another length
  all_blocks : (chain : List ℕ) → sum_by blocks_used (set chains place chain) ≡ sum_by blocks_at (set places place None) + blocks_used chain
  all_blocks chain =
      let all = same_sums chains places (size ∙ sym s.size)
      (λ i l. one_place (get_or progress i None) (get_or chains i []) (get_or places i None) (s.each i (omega arith)) (f i (omega arith))) in
      let here = one_place (get_or progress place None) (get_or chains place []) (get_or places place None) (s.each place h) (f place h) in
      let other = sum_by-set blocks_used chains place chain [] (omega arith) in
      let without = sum_by-set blocks_at places place None None (omega (arith, s.size)) in
      omega arith

-- ---- what was kept, or cleared

-- a chain stays with what is kept, or is emptied
pub kept_length : (o : Option Progress) (old new : List ℕ) (before : Option Progress) → length old ≡ 7 * taken_at before → IfSome o (λ p. before ≡ Some p) →
    IfSome o (λ p. new ≡ old) → (IsNone o → new ≡ []) → length new ≡ 7 * taken_at o
kept_length None old new before e same kept empty = ap length (empty refl)
kept_length (Some p) old new before e same kept empty = ap length kept ∙ e ∙ ap (λ x. 7 * taken_at x) same

-- ---- one more frame

-- a frame of seven bytes fits, where the blocks beside the sessions at the other places suffice
pub seven_more_fit : (blocks place : ℕ) (p : Progress) (progress : List (Option Progress)) (chains : List (List ℕ)) (places : Places) (more : List ℕ) →
    KeepPlaces progress chains places → AreFilled progress chains → length chains ≡ length progress → place < length progress →
    Fills p (get_or chains place []) → length more ≡ 7 → HasRoomFor blocks places place (7 * p.taken + 7) →
    free_blocks blocks (emptied p.taken place chains) < further_blocks (get_or (emptied p.taken place chains) place []) more → ⊥
seven_more_fit blocks place p progress chains places more s f size h filled seven room full =
    let own : List ℕ = get_or (emptied p.taken place chains) place [] in
    let count = exact p place chains (omega arith) filled in
    let whole = all_blocks blocks place progress chains places s f size h own in
    let same = set_own p.taken place chains (omega arith) in
    let total = ap (sum_by blocks_used) same in
    let longer = length-append own more in
    omega arith

-- the bytes taken stand in front of what was copied out
-- where frames were taken, their bytes are all that the chain has
pub all_taken : (p : Progress) (chain : List ℕ) (session : Session) → Fills p chain → 0 < p.taken → IsProgressOf p chain session → chain ≡ joined session.taken
all_taken p chain session filled some k =
    let n : 7 * p.taken ≡ length chain = filled some in
    sym (take_all (7 * p.taken) chain (omega arith)) ∙ k.collected

-- where all chains stay, that of a place does
pub same_place : (o : Option Progress) (new old : List (List ℕ)) (place : ℕ) → IfSome o (λ p. new ≡ old) → IfSome o (λ p. get_or new place [] ≡ get_or old place [])
same_place None new old place h = h
same_place (Some p) new old place h = ap (λ (chains : List (List ℕ)). get_or chains place []) h

-- seven bytes more, behind all that were taken
pub taken_more : (taken : ℕ) (own more bytes : List ℕ) → length own ≡ 7 * taken → length more ≡ 7 → bytes ≡ more →
    take (7 * (taken + 1)) (own ++ more) ≡ take (7 * taken) own ++ bytes
taken_more taken own more bytes own_is seven same =
    let all = length-append own more in
    take_all (7 * (taken + 1)) (own ++ more) (omega arith) ∙ sym (λ i. take_all (7 * taken) own (omega arith) i ++ same i)

-- ---- both ends of a call

-- what is no error is a success
pub ok_unless : {T E : Type 0} (r : Result T E) → (IsErr r → ⊥) → IsOk r
ok_unless (Ok x) h = refl
ok_unless (Err e) h = absurd (h refl)

-- two facts on a success give a third
pub on_ok : {T E : Type 0} (r : Result T E) (A B C : Type 0) → OnOk r A → OnOk r B → (A → B → C) → OnOk r C
on_ok (Ok x) A B C a b f = f a b
on_ok (Err e) A B C a b f = a

-- facts on both ends of a call give one fact
pub either : {T E : Type 0} (r : Result T E) (A B A' B' C : Type 0) → OnOk r A → OnOk r B → OnErr r A' → OnErr r B' → (A → B → C) → (A' → B' → C) → C
either (Ok x) A B A' B' C a b a' b' f f' = f a b
either (Err e) A B A' B' C a b a' b' f f' = f' a' b'
