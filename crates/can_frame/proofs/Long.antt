-- The register holds what long division would add to the next bits.
use Rattle.std.proofs.Common.{◌≡◌, ℕ, suc, Bool, true, false, cond, List, [], ◌∷◌, ◌++◌, length, replicate, refl, sym, ◌∙◌, ap, arith, ◌+◌, ◌<◌, ◌≤◌, get_or, drop, drop-cons, add-one, append_assoc, length-append}
use Rattle.std.proofs.Math.ListN.{drop_of_length-le}
use Rattle.can_frame.specs.TransferCrc.{xor, add_front, divisor, divide, zeros, ones, remainder, message_bits, bits_of}
use Rattle.can_frame.specs.Register.{shift, run}

xor_assoc : (a b c : Bool) → xor a (xor b c) ≡ xor (xor a b) c
xor_assoc false b c = refl
xor_assoc true false c = refl
xor_assoc true true false = refl
xor_assoc true true true = refl

pub xor_false : (a : Bool) → xor a false ≡ a
xor_false false = refl
xor_false true = refl

pub add_front_assoc : (xs ys zs : List Bool) → length xs ≡ length ys → add_front xs (add_front ys zs) ≡ add_front (add_front xs ys) zs
add_front_assoc [] ys zs e = elim ys as (λ v. 0 ≡ length v → add_front v zs ≡ add_front v zs) [ [] ↦ (λ _. refl) | y ∷ v ↦ (λ _. refl) ] e
add_front_assoc (x ∷ xs) [] zs e = absurd (omega arith)
add_front_assoc (x ∷ xs) (y ∷ ys) [] e = refl
add_front_assoc (x ∷ xs) (y ∷ ys) (z ∷ zs) e =
    rw (xor_assoc x y z, add_front_assoc xs ys zs (omega arith)) refl

-- a false at the end of what is added changes nothing
add_front_more : (xs ys : List Bool) → add_front (xs ++ false ∷ []) ys ≡ add_front xs ys
add_front_more [] [] = refl
add_front_more [] (y ∷ ys) = refl
add_front_more (x ∷ xs) [] = refl
add_front_more (x ∷ xs) (y ∷ ys) = ap (λ v. xor x y ∷ v) (add_front_more xs ys)

pub length_add : (xs ys : List Bool) → length (add_front xs ys) ≡ length ys
length_add [] ys = refl
length_add (x ∷ xs) [] = refl
length_add (x ∷ xs) (y ∷ ys) = ap suc (length_add xs ys)

length_shift : (r : List Bool) (b : Bool) → length (shift r b) ≡ length r
unfolding shift
length_shift [] b = refl
length_shift (x ∷ rs) b =
    elim (xor x b) as (λ t. length (cond t (add_front divisor (rs ++ false ∷ [])) (rs ++ false ∷ [])) ≡ suc (length rs)) [
      | true ↦ omega (arith, length_add divisor (rs ++ false ∷ []), length-append rs (false ∷ []))
      | false ↦ omega (arith, length-append rs (false ∷ []))
    ]

-- one step of the division is one of the register
one_step : (n : ℕ) (r : List Bool) (b : Bool) (m : List Bool) → length r ≡ 16 → divide (suc n) (add_front r (b ∷ m)) ≡ divide n (add_front (shift r b) m)
unfolding divide shift
one_step n [] b m e = absurd (omega arith)
one_step n (x ∷ rs) b m e =
    let sized : length divisor ≡ length (rs ++ false ∷ []) = omega (arith, length-append rs (false ∷ [])) in
    ap (divide n) (elim (xor x b) as (λ t. cond t (add_front divisor (add_front rs m)) (add_front rs m) ≡ add_front (cond t (add_front divisor (rs ++ false ∷ [])) (rs ++ false ∷ [])) m) [
      | true ↦ ap (add_front divisor) (sym (add_front_more rs m)) ∙ add_front_assoc divisor (rs ++ false ∷ []) m sized
      | false ↦ sym (add_front_more rs m)
    ])

-- the division of some bits leaves the register added to the bits that follow
pub divided : (bits rest r : List Bool) → length r ≡ 16 → divide (length bits) (add_front r (bits ++ rest)) ≡ add_front (run r bits) rest
unfolding divide run
divided [] rest r e = refl
divided (b ∷ bits) rest r e =
    one_step (length bits) r b (bits ++ rest) e ∙ divided bits rest (shift r b) (length_shift r b ∙ e)

pub length_run : (bits r : List Bool) → length (run r bits) ≡ length r
unfolding run
length_run [] r = refl
length_run (b ∷ bits) r = length_run bits (shift r b) ∙ length_shift r b

pub added_false : (r : List Bool) → add_front r (replicate (length r) false) ≡ r
added_false [] = refl
added_false (x ∷ r) = rw (xor_false x, added_false r) refl

-- the register is the remainder
pub run-remainder : (bits : List Bool) → run ones bits ≡ remainder bits
run-remainder bits =
    let long : length (run ones bits) ≡ 16 = length_run bits ones in
    sym (divided bits zeros ones refl ∙ (rw long at (added_false (run ones bits))))

pub run-append : (a b r : List Bool) → run r (a ++ b) ≡ run (run r a) b
unfolding run
run-append [] b r = refl
run-append (x ∷ a) b r = run-append a b (shift r x)

pub message-append : (xs ys : List ℕ) → message_bits (xs ++ ys) ≡ message_bits xs ++ message_bits ys
message-append [] ys = refl
message-append (x ∷ xs) ys = ap (λ bs. bits_of 8 x ++ bs) (message-append xs ys) ∙ sym (append_assoc (bits_of 8 x) (message_bits xs) (message_bits ys))

-- one byte more
pub turn : (xs : List ℕ) (i : ℕ) (r s : List Bool) → i < length xs → s ≡ run r (bits_of 8 (get_or xs i 0)) → run s (message_bits (drop (i + 1) xs)) ≡ run r (message_bits (drop i xs))
turn xs i r s h e =
    let rest = message_bits (drop (i + 1) xs) in
    ap (λ v. run v rest) e ∙ sym (run-append (bits_of 8 (get_or xs i 0)) rest r)
    ∙ rw (add-one, drop-cons xs i 0 h) refl

pub ended : (xs : List ℕ) (i : ℕ) (r : List Bool) → length xs ≤ i → run r (message_bits (drop i xs)) ≡ r
unfolding run
ended xs i r h = rw (drop_of_length-le xs h) refl
