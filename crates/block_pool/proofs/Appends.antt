-- Chains that grow, and the blocks that they use.
use Rattle.std.proofs.Common.{◌≡◌, ◌≢◌, ◌<◌, ◌≤◌, ◌+◌, ◌-◌, ◌/◌, ◌⊎◌, ℕ, zero, suc, List, [], ◌∷◌, ◌++◌, length, get_or, set, replicate, sum, sum_by, refl, sym, ap, subst, ◌∙◌, inl, inr, arith}
use Rattle.std.proofs.lemmas.List.{get_or-set_same, get_or-set_other, length-set, length-append}
use Rattle.std.proofs.lemmas.List.Sums.{get_or-le-sum_by}
use Rattle.std.proofs.Common.{append_assoc}
use Rattle.std.proofs.Math.ListN.{get_or-eq_default}
use Rattle.block_pool.specs.Chains.{appended, blocks_used, further_blocks}
use Rattle.block_pool.specs.Kept.{AreEnough, byte_at, kept, values}
use Rattle.block_pool.proofs.Values.{get_or-values, length-values, repeated, used}
use Rattle.block_pool.proofs.Cases.{less_or_not, same_or_not}
use Rattle.block_pool.proofs.New.{zeros}

-- the further blocks, by lengths alone
pub further_is : (xs ys : List ℕ) → further_blocks xs ys ≡ (length xs + length ys + 27) / 28 - (length xs + 27) / 28
further_is xs ys = ap (λ n. (n + 27) / 28 - (length xs + 27) / 28) (length-append xs ys)

-- a chain that is set, with the blocks that it needs
pub enough_set : (C own n m : ℕ) (lengths count : List ℕ) → own < C → length lengths ≡ C → length count ≡ C → m ≡ (n + 27) / 28 →
    AreEnough C lengths count → AreEnough C (set lengths own n) (set count own m)
enough_set C own n m lengths count lo sl sc e enough c lc = by_case (same_or_not c own)
  where
    by_case : (c ≡ own) ⊎ (c ≢ own) → get_or (set count own m) c 0 ≡ (get_or (set lengths own n) c 0 + 27) / 28
    by_case (inl s) =
        subst (λ c. get_or (set count own m) c 0 ≡ (get_or (set lengths own n) c 0 + 27) / 28) (sym s)
        (get_or-set_same count own m 0 (omega arith) ∙ (e ∙ ap (λ k. (k + 27) / 28) (sym (get_or-set_same lengths own n 0 (omega arith)))))
    by_case (inr d) =
        get_or-set_other count own c m 0 d ∙ (enough c lc ∙ ap (λ k. (k + 27) / 28) (sym (get_or-set_other lengths own c n 0 d)))

-- a chain that is kept is as long as its length says
pub kept_length : (C c : ℕ) (blocks : List (List ℕ)) (next first lengths : List ℕ) (first_free : ℕ) → c < C → length (get_or (kept C blocks next first first_free lengths) c []) ≡ get_or lengths c 0
kept_length C c blocks next first lengths first_free lc =
    ap length (get_or-values (λ c. values (byte_at blocks next first first_free c) (get_or lengths c 0)) C c [] lc)
    ∙ length-values (byte_at blocks next first first_free c) (get_or lengths c 0)

-- the chains that are kept use as many blocks as are counted
pub kept_used : (C : ℕ) (blocks : List (List ℕ)) (next first lengths count : List ℕ) (first_free : ℕ) → length count ≡ C → AreEnough C lengths count →
    sum_by blocks_used (kept C blocks next first first_free lengths) ≡ sum count
kept_used C blocks next first lengths count first_free s h = used (byte_at blocks next first first_free) C lengths count s h

-- as many chains are kept as there are
pub kept_size : (C : ℕ) (blocks : List (List ℕ)) (next first lengths : List ℕ) (first_free : ℕ) → length (kept C blocks next first first_free lengths) ≡ C
kept_size C blocks next first lengths first_free = length-values (λ c. values (byte_at blocks next first first_free c) (get_or lengths c 0)) C

-- chains without bytes are empty
pub kept_new : (C : ℕ) (blocks : List (List ℕ)) (next first : List ℕ) (first_free : ℕ) → kept C blocks next first first_free (replicate C 0) ≡ replicate C []
kept_new C blocks next first first_free =
    repeated (λ c. values (byte_at blocks next first first_free c) (get_or (replicate C 0) c 0)) C []
    (λ c lc. ap (values (byte_at blocks next first first_free c)) (zeros C c 0 lc))

-- no chain is longer than all blocks
pub length_bound : (N C c : ℕ) (lengths count : List ℕ) (free : ℕ) → c < C → length count ≡ C → AreEnough C lengths count → free + sum count ≡ N → N ≤ 1024 → get_or lengths c 0 ≤ 28672
length_bound N C c lengths count free lc s enough total few =
    let a = get_or-le-sum_by {X = ℕ} (λ x. x) count c 0 (omega arith) in let b = enough c lc in omega (arith, a, b, total, few)

-- of two that are set at one place the later one stays
pub set_twice : {A : Type 0} (xs : List A) (i : ℕ) (a b : A) → set (set xs i a) i b ≡ set xs i b
set_twice [] i a b = refl
set_twice (x ∷ xs) zero a b = refl
set_twice (x ∷ xs) (suc i) a b = ap (λ ys. x ∷ ys) (set_twice xs i a b)

-- more, and more behind it
pub appended_twice : (chains : List (List ℕ)) (own : ℕ) (a b : List ℕ) → own < length chains → appended (appended chains own a) own b ≡ appended chains own (a ++ b)
appended_twice chains own a b l =
    ap (λ xs. set (appended chains own a) own (xs ++ b)) (get_or-set_same chains own (get_or chains own [] ++ a) [] l)
    ∙ (set_twice chains own (get_or chains own [] ++ a) ((get_or chains own [] ++ a) ++ b) ∙ ap (set chains own) (append_assoc (get_or chains own []) a b))

-- chains without bytes need no blocks
pub enough_new : (C : ℕ) → AreEnough C (replicate C 0) (replicate C 0)
enough_new C c lc = let z = zeros C c 0 lc in omega (arith, z)

-- each block of zeros has 28 bytes
pub whole_new : (N b : ℕ) → b < N → length {A = ℕ} (get_or {A = List ℕ} (replicate {A = List ℕ} N (replicate {A = ℕ} 28 0)) b []) ≡ 28
whole_new zero b l = absurd (omega arith)
whole_new (suc N) zero l = refl
whole_new (suc N) (suc b) l = whole_new N b (omega arith)

-- a byte of a block is set
pub whole_set : (N block at byte : ℕ) (blocks : List (List ℕ)) → ((b : ℕ) → b < N → length (get_or blocks b []) ≡ 28) → (b : ℕ) → b < N → length (get_or (set blocks block (set (get_or blocks block []) at byte)) b []) ≡ 28
whole_set N block at byte blocks whole b lb = by_case (same_or_not b block) (less_or_not b (length blocks))
  where
    by_case : (b ≡ block) ⊎ (b ≢ block) → (b < length blocks) ⊎ (length blocks ≤ b) → length (get_or (set blocks block (set (get_or blocks block []) at byte)) b []) ≡ 28
    by_case (inr d) l = ap length (get_or-set_other blocks block b (set (get_or blocks block []) at byte) [] d) ∙ whole b lb
    by_case (inl e) (inr l) =
        let w = whole b lb in let z = ap (length {A = ℕ}) (get_or-eq_default blocks [] l) in absurd (omega (arith, w, z))
    by_case (inl e) (inl l) =
        let lt : block < length blocks = omega arith in
        ap (λ b. length (get_or (set blocks block (set (get_or blocks block []) at byte)) b [])) e
        ∙ (ap length (get_or-set_same blocks block (set (get_or blocks block []) at byte) [] lt) ∙ (length-set (get_or blocks block []) at byte ∙ (ap (λ b. length (get_or blocks b [])) (sym e) ∙ whole b lb)))
