-- Words that are numbers.
use Rattle.std.proofs.Common.{◌≡◌, ◌≤◌, ◌<◌, ℕ, zero, suc, ◌-◌, codes, inl, inr, Bool, false, List, [], ◌∷◌, ◌++◌, length, take, drop, nat_eq, refl, sym, ap, ◌∙◌, arith, map, decimal}
use Rattle.std.specs.Prelude.{not, slice_index, slice_index_or}
use Rattle.std.specs.Cmp.Lexicographic.{pointwise, same_text}
use Rattle.std.proofs.Math.Seq.{take-length}
use Rattle.std.proofs.lemmas.Bool.{not-false, true≢false}
use Rattle.std.proofs.lemmas.Fmt.{decimal_injective}
use Rattle.arrayvec.specs.ArrayVec.{ArrayVec}
use Rattle.raft_model.specs.Lists.{In}
use Rattle.replay_text.specs.Words.{IsHex}
use Rattle.alloc_spec.specs.ClusterMembers.{AreMembers}
use Rattle.allocator_app.specs.Words.{SpellsPayload}

-- a word at its place spells the number at this place
pub named_at : {A : Type 0} (f : A → List ℕ) (words : List A) (ids : List ℕ) (i : ℕ) (none : A) → i < length words → map f words ≡ map decimal ids →
    (n : ℕ) × In n ids × (f (slice_index_or words i none) ≡ decimal n)
named_at f [] ids i none low e = absurd (omega (arith, low))
named_at f (word ∷ words) [] i none low e = cc
named_at f (word ∷ words) (n ∷ ids) zero none low e = (n, inl refl, cc)
named_at f (word ∷ words) (n ∷ ids) (suc i) none low e =
    let rest = named_at f words ids i none (omega (arith, low)) cc in
    (rest.0, inr rest.1, rest.2)

-- numbers are spelled in one way
same_numbers : (xs ys : List ℕ) → ((i : ℕ) → i < length xs → slice_index xs i < 256) → ((n : ℕ) → In n ys → n ≤ 125) → map decimal xs ≡ map decimal ys → xs ≡ ys
same_numbers [] [] p q e = refl
same_numbers [] (y ∷ ys) p q e = cc
same_numbers (x ∷ xs) [] p q e = cc
same_numbers (x ∷ xs) (y ∷ ys) p q e =
    let x_most = p 0 (omega arith) in
    let y_most = q y (inl refl) in
    let first : x ≡ y = decimal_injective x y (omega (arith, x_most)) (omega (arith, y_most)) cc in
    let rest : xs ≡ ys = same_numbers xs ys (λ i low. p (suc i) (omega (arith, low))) (λ n in_ys. q n (inr in_ys)) cc in
    ap (λ a. a ∷ xs) first ∙ ap (λ l. y ∷ l) rest

-- the members that words spell are those of any cluster that they spell
pub same_members : (numbers ids : List ℕ) → ((i : ℕ) → i < length numbers → slice_index numbers i < 256) → AreMembers ids →
    (words : List (List ℕ)) → words ≡ map decimal numbers → words ≡ map decimal ids → numbers ≡ ids
same_members numbers ids bytes members words own spelled =
    same_numbers numbers ids bytes (λ n here. (members.nodes n here).1) (sym own ∙ spelled)

-- ---- words, one by one

-- a word is this one
pub is_word : (word text : List ℕ) (differs : Bool) → differs ≡ false → differs ≡ not (pointwise nat_eq word text) → word ≡ text
is_word word text differs same is = same_text word text (sym (not-false (pointwise nat_eq word text) (sym is ∙ same)))

all_but : {A : Type 0} (f : A → List ℕ) (xs : List A) (n : ℕ) → n ≡ length xs → map f xs ≡ map f (take n xs)
all_but f xs n e = ap (map f) (sym (ap (λ k. take k xs) e ∙ take-length xs))

-- the first, and the others
pub from_one : {A : Type 0} (f : A → List ℕ) (xs : List A) (a : A) → 1 ≤ length xs → a ≡ slice_index_or xs 0 a →
    map f xs ≡ f a ∷ map f (take (length xs - 1) (drop 1 xs))
from_one f [] a long p = absurd (omega (arith, long))
from_one f (x ∷ xs) a long p =
    ap (λ w. w ∷ map f xs) (ap f (sym p)) ∙ ap (λ l. f a ∷ l) (all_but f xs (length (x ∷ xs) - 1) (omega arith))

-- the first two, and the others
pub from_two : {A : Type 0} (f : A → List ℕ) (xs : List A) (a b : A) → 2 ≤ length xs → a ≡ slice_index_or xs 0 a → b ≡ slice_index_or xs 1 b →
    map f xs ≡ f a ∷ f b ∷ map f (take (length xs - 2) (drop 2 xs))
from_two f [] a b long p q = absurd (omega (arith, long))
from_two f (x ∷ []) a b long p q = absurd (omega (arith, long))
from_two f (x ∷ y ∷ xs) a b long p q =
    let rest = all_but f xs (length (x ∷ y ∷ xs) - 2) (omega arith) in
    ap (λ w. w ∷ f y ∷ map f xs) (ap f (sym p)) ∙ ap (λ w. f a ∷ w ∷ map f xs) (ap f (sym q)) ∙ ap (λ l. f a ∷ f b ∷ l) rest

-- the first three, and the others
pub from_three : {A : Type 0} (f : A → List ℕ) (xs : List A) (a b c : A) → 3 ≤ length xs → a ≡ slice_index_or xs 0 a → b ≡ slice_index_or xs 1 b →
    c ≡ slice_index_or xs 2 c → map f xs ≡ f a ∷ f b ∷ f c ∷ map f (take (length xs - 3) (drop 3 xs))
from_three f [] a b c long p q r = absurd (omega (arith, long))
from_three f (x ∷ []) a b c long p q r = absurd (omega (arith, long))
from_three f (x ∷ y ∷ []) a b c long p q r = absurd (omega (arith, long))
from_three f (x ∷ y ∷ z ∷ xs) a b c long p q r =
    let rest = all_but f xs (length (x ∷ y ∷ z ∷ xs) - 3) (omega arith) in
    ap (λ w. w ∷ f y ∷ f z ∷ map f xs) (ap f (sym p)) ∙ ap (λ w. f a ∷ w ∷ f z ∷ map f xs) (ap f (sym q))
    ∙ ap (λ w. f a ∷ f b ∷ w ∷ map f xs) (ap f (sym r)) ∙ ap (λ l. f a ∷ f b ∷ f c ∷ l) rest

-- the first four, and the others
pub from_four : {A : Type 0} (f : A → List ℕ) (xs : List A) (a b c d : A) → 4 ≤ length xs → a ≡ slice_index_or xs 0 a → b ≡ slice_index_or xs 1 b →
    c ≡ slice_index_or xs 2 c → d ≡ slice_index_or xs 3 d → map f xs ≡ f a ∷ f b ∷ f c ∷ f d ∷ map f (take (length xs - 4) (drop 4 xs))
from_four f [] a b c d long p q r s = absurd (omega (arith, long))
from_four f (x ∷ []) a b c d long p q r s = absurd (omega (arith, long))
from_four f (x ∷ y ∷ []) a b c d long p q r s = absurd (omega (arith, long))
from_four f (x ∷ y ∷ z ∷ []) a b c d long p q r s = absurd (omega (arith, long))
from_four f (x ∷ y ∷ z ∷ w ∷ xs) a b c d long p q r s =
    let rest = all_but f xs (length (x ∷ y ∷ z ∷ w ∷ xs) - 4) (omega arith) in
    ap (λ v. v ∷ f y ∷ f z ∷ f w ∷ map f xs) (ap f (sym p)) ∙ ap (λ v. f a ∷ v ∷ f z ∷ f w ∷ map f xs) (ap f (sym q))
    ∙ ap (λ v. f a ∷ f b ∷ v ∷ f w ∷ map f xs) (ap f (sym r)) ∙ ap (λ v. f a ∷ f b ∷ f c ∷ v ∷ map f xs) (ap f (sym s))
    ∙ ap (λ l. f a ∷ f b ∷ f c ∷ f d ∷ l) rest

-- four, and no other
pub four_alone : {A : Type 0} (f : A → List ℕ) (xs : List A) (a b c d : A) → 4 ≤ length xs → length xs < 5 → a ≡ slice_index_or xs 0 a →
    b ≡ slice_index_or xs 1 b → c ≡ slice_index_or xs 2 c → d ≡ slice_index_or xs 3 d → map f xs ≡ f a ∷ f b ∷ f c ∷ f d ∷ []
four_alone f xs a b c d long short p q r s =
    let none : length xs - 4 ≡ 0 = omega (arith, short) in
    from_four f xs a b c d long p q r s ∙ ap (λ n. f a ∷ f b ∷ f c ∷ f d ∷ map f (take n (drop 4 xs))) none

pub two_alone : {A : Type 0} (f : A → List ℕ) (xs : List A) (a b : A) → 2 ≤ length xs → length xs < 3 → a ≡ slice_index_or xs 0 a →
    b ≡ slice_index_or xs 1 b → map f xs ≡ f a ∷ f b ∷ []
two_alone f xs a b long short p q =
    let none : length xs - 2 ≡ 0 = omega (arith, short) in
    from_two f xs a b long p q ∙ ap (λ n. f a ∷ f b ∷ map f (take n (drop 2 xs))) none

pub second_of_four : {a b c d x y z w : List ℕ} {l m : List (List ℕ)} → a ∷ b ∷ c ∷ d ∷ l ≡ x ∷ y ∷ z ∷ w ∷ m → b ≡ y
second_of_four e = cc

pub after_four : {a b c d x y z w : List ℕ} {l m : List (List ℕ)} → a ∷ b ∷ c ∷ d ∷ l ≡ x ∷ y ∷ z ∷ w ∷ m → l ≡ m
after_four e = cc

-- one number more
pub bytes_more : (xs : List ℕ) (x : ℕ) → ((i : ℕ) → i < length xs → slice_index xs i < 256) → x < 256 → (i : ℕ) → i < length (xs ++ x ∷ []) →
    slice_index (xs ++ x ∷ []) i < 256
bytes_more [] x p q zero low = q
bytes_more [] x p q (suc i) low = absurd (omega (arith, low))
bytes_more (y ∷ xs) x p q zero low = p 0 (omega arith)
bytes_more (y ∷ xs) x p q (suc i) low = bytes_more xs x (λ k high. p (suc k) (omega (arith, high))) q i (omega (arith, low))

-- ---- the word of a payload

pub no_dash : (word dash : List ℕ) (equal : Bool) → equal ≡ false → equal ≡ pointwise nat_eq word dash → dash ≡ codes "-" → word ≡ codes "-" → ⊥
no_dash word dash equal differs same is e =
    let seen : false ≡ pointwise nat_eq (codes "-") (codes "-") =
    sym differs ∙ same ∙ ap (pointwise nat_eq word) is ∙ ap (λ w. pointwise nat_eq w (codes "-")) e in
    true≢false (sym seen)

pub no_payload : (word payload : List ℕ) → (word ≡ codes "-" → ⊥) → ((bytes : ArrayVec ℕ) → length bytes.items ≤ 376 → IsHex bytes.items word → ⊥) →
    length payload ≤ 376 → SpellsPayload payload word → ⊥
no_payload word [] other none short spelled = other spelled
no_payload word (byte ∷ bytes) other none short spelled = none (record { items = byte ∷ bytes }) short spelled
