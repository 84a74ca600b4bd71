-- A byte that is added to the register at once, and then shifted out.
use Rattle.std.proofs.Common.{◌≡◌, ℕ, zero, suc, ◌*◌, Bool, false, List, [], ◌∷◌, ◌++◌, length, replicate, refl, sym, ◌∙◌, ap, arith, append_assoc, length-append, subst}
use Rattle.std.specs.Int.Bits.{bit_xor}
use Rattle.can_frame.specs.TransferCrc.{add_front, divide, bits_of}
use Rattle.can_frame.specs.Register.{shift, run}
use Rattle.can_frame.proofs.Long.{add_front_assoc, added_false, divided, length_add, length_run, xor_false}
use Rattle.can_frame.proofs.Shifts.{bits_of-double, bits_of-xor}

abbrev eight : List Bool
eight = replicate 8 false

abbrev sixteen : List Bool
sixteen = replicate 16 false

added_none : (xs zs : List Bool) → add_front xs (replicate (length xs) false ++ zs) ≡ xs ++ zs
added_none [] zs = refl
added_none (x ∷ xs) zs = rw (xor_false x, added_none xs zs) refl

alone : (xs : List Bool) → length xs ≡ 16 → add_front xs sixteen ≡ xs
alone xs long = subst (λ n. add_front xs (replicate n false) ≡ xs) long (added_false xs)

module _ (r bits : List Bool) (long : length r ≡ 16) (byte : length bits ≡ 8) where
  at_once : run (add_front r (bits ++ eight)) eight ≡ run r bits
  at_once =
      let padded : length (bits ++ eight) ≡ 16 = omega (arith, length-append bits eight, byte) in
      let all : List Bool = add_front r (bits ++ eight) in
      let whole : length all ≡ 16 = length_add r (bits ++ eight) ∙ padded in
      let none : add_front (bits ++ eight) (eight ++ sixteen) ≡ bits ++ sixteen =
      subst (λ n. add_front (bits ++ eight) (replicate n false ++ eight) ≡ (bits ++ eight) ++ eight) padded (added_none (bits ++ eight) eight)
      ∙ append_assoc bits eight eight in
      let moved : add_front all (eight ++ sixteen) ≡ add_front r (bits ++ sixteen) =
      sym (add_front_assoc r (bits ++ eight) (eight ++ sixteen) (long ∙ sym padded)) ∙ ap (add_front r) none in
      sym (alone (run all eight) (length_run eight all ∙ whole)) ∙ sym (divided eight sixteen all whole)
      ∙ ap (divide 8) moved
      ∙ subst (λ n. divide n (add_front r (bits ++ sixteen)) ≡ add_front (run r bits) sixteen) byte (divided bits sixteen r long)
      ∙ alone (run r bits) (length_run bits r ∙ long)

more : (k x : ℕ) (bits rest : List Bool) → bits_of k x ≡ bits ++ rest → bits_of (suc k) (x * 2) ≡ bits ++ (rest ++ false ∷ [])
more k x bits rest is = bits_of-double k x ∙ ap (λ v. v ++ false ∷ []) is ∙ append_assoc bits rest (false ∷ [])

bits_of-high : (x : ℕ) → bits_of 16 (x * 256) ≡ bits_of 8 x ++ eight
bits_of-high x =
    let same : x * 256 ≡ x * 2 * 2 * 2 * 2 * 2 * 2 * 2 * 2 = omega arith in
    ap (bits_of 16) same
    ∙ more 15 _ (bits_of 8 x) (replicate 7 false) (more 14 _ (bits_of 8 x) (replicate 6 false) (more 13 _ (bits_of 8 x) (replicate 5 false)
    (more 12 _ (bits_of 8 x) (replicate 4 false) (more 11 _ (bits_of 8 x) (replicate 3 false) (more 10 _ (bits_of 8 x) (replicate 2 false)
    (more 9 _ (bits_of 8 x) (replicate 1 false) (bits_of-double 8 x)))))))

length_bits : (k x : ℕ) → length (bits_of k x) ≡ k
unfolding bits_of
length_bits zero x = refl
length_bits (suc k) x = ap suc (length_bits k x)

pub run-at_once : (register byte : ℕ) → run (bits_of 16 register) (bits_of 8 byte)
    ≡ shift (shift (shift (shift (shift (shift (shift (shift (bits_of 16 (bit_xor register (byte * 256))) false) false) false) false) false) false) false) false
unfolding run
run-at_once register byte =
    sym (at_once (bits_of 16 register) (bits_of 8 byte) (length_bits 16 register) (length_bits 8 byte))
    ∙ ap (λ v. run v eight) (ap (add_front (bits_of 16 register)) (sym (bits_of-high byte)) ∙ sym (bits_of-xor 16 register (byte * 256)))
