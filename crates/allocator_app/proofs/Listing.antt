-- The words of lists, cut at their commas.
use Rattle.std.proofs.Common.{◌≡◌, ◌≤◌, ◌<◌, ◌+◌, ℕ, zero, suc, List, [], ◌∷◌, ◌++◌, length, take, drop, map, decimal, refl, sym, ap, subst, ◌∙◌, arith, inl, inr}
use Rattle.std.specs.Prelude.{◌==◌, slice_index}
use Rattle.std.specs.List.{position_or_len}
use Rattle.std.proofs.lemmas.Fmt.{decimal_digit, decimal_injective, decimal_nonempty}
use Rattle.std.proofs.lemmas.List.{length-map}
use Rattle.std.proofs.lemmas.List.Splits.{join_with_byte-slice_split, length-slice_split, slice_split_first, slice_split_none}
use Rattle.std.proofs.lemmas.List.Sums.{fails_before_first}
use Rattle.std.specs.List.{join_with_byte}
use Rattle.raft_model.specs.Lists.{In}
use Rattle.alloc_spec.specs.ClusterMembers.{AreMembers}
use Rattle.allocator_app.specs.declared.told.Told.{Told}
use Rattle.allocator_app.specs.declared.told.Told.TheVariants.{Members, Size}
use Rattle.allocator_app.specs.Told.{IsCluster, Spells, commas, list_parts}

-- a word with a comma: the part before it, and the parts behind it
pub commas-at_comma : (word : List ℕ) (end : ℕ) → end ≡ position_or_len (λ byte. byte == 44) word → end < length word
    → commas word ≡ take end word ∷ commas (drop (end + 1) word)
commas-at_comma word end is within = rw is (slice_split_first (λ byte. byte == 44) word 0 (rw (← is) within))

-- a word without a comma is one part
pub commas-no_comma : (word : List ℕ) → position_or_len (λ byte. byte == 44) word ≡ length word → commas word ≡ word ∷ []
commas-no_comma word is = slice_split_none (λ byte. byte == 44) word
    (λ k d within. fails_before_first (λ byte. byte == 44) word k d (rw is within))

-- a word has one part at least
pub some_part : (word : List ℕ) → 1 ≤ length (commas word)
some_part word = omega (arith, length-slice_split (λ byte. byte == 44) word)

-- the word of a single empty part is empty
pub empty_part : (word : List ℕ) → commas word ≡ [] ∷ [] → word ≡ []
empty_part word is = sym (join_with_byte-slice_split 44 word) ∙ ap (join_with_byte 44) is

-- a comma with more behind it does not end a word
pub no_last : (word one rest other : List ℕ) → commas word ≡ one ∷ commas rest → 1 ≤ length rest → commas word ≡ other ∷ [] ∷ [] → ⊥
no_last word one rest other parts more e =
    let same : commas rest ≡ [] ∷ [] = cc in let count = ap length (empty_part rest same) in omega (arith, more, count)

-- a number has a digit
pub some_digit : (n : ℕ) → n ≤ 255 → decimal n ≡ [] → ⊥
some_digit n most e = let some = decimal_nonempty n (omega (arith, most)) in let count = ap length e in omega (arith, some, count)

-- numbers are spelled in one way
pub same_numbers : (xs ys : List ℕ) → ((n : ℕ) → In n xs → n ≤ 255) → ((n : ℕ) → In n ys → n ≤ 255) → map decimal xs ≡ map decimal ys → xs ≡ ys
same_numbers [] [] p q e = refl
same_numbers [] (y ∷ ys) p q e = cc
same_numbers (x ∷ xs) [] p q e = cc
same_numbers (x ∷ xs) (y ∷ ys) p q e =
    let x_most = p x (inl refl) in
    let y_most = q y (inl refl) in
    let first : x ≡ y = decimal_injective x y (omega (arith, x_most)) (omega (arith, y_most)) cc in
    let rest : xs ≡ ys = same_numbers xs ys (λ n in_xs. p n (inr in_xs)) (λ n in_ys. q n (inr in_ys)) cc in
    ap (λ a. a ∷ xs) first ∙ ap (λ l. y ∷ l) rest

-- what holds of the number at each place
pub bytes_within : (xs : List ℕ) → ((i : ℕ) → i < length xs → slice_index xs i < 256) → (n : ℕ) → In n xs → n ≤ 255
bytes_within [] low n here = absurd here
bytes_within (x ∷ xs) low n (inl e) = let first = low 0 (omega arith) in omega (arith, e, first)
bytes_within (x ∷ xs) low n (inr here) = bytes_within xs (λ i below. low (suc i) (omega (arith, below))) n here

-- ---- a number of members, and a list of them

-- a number has one part
one_part : (size : ℕ) → 1 ≤ size → size ≤ 5 → length (commas (decimal size)) ≡ 1
one_part zero least most = absurd (omega (arith, least))
one_part (suc zero) least most = ap (λ w. length (commas w)) (decimal_digit 1 (omega arith))
one_part (suc (suc zero)) least most = ap (λ w. length (commas w)) (decimal_digit 2 (omega arith))
one_part (suc (suc (suc zero))) least most = ap (λ w. length (commas w)) (decimal_digit 3 (omega arith))
one_part (suc (suc (suc (suc zero)))) least most = ap (λ w. length (commas w)) (decimal_digit 4 (omega arith))
one_part (suc (suc (suc (suc (suc zero))))) least most = ap (λ w. length (commas w)) (decimal_digit 5 (omega arith))
one_part (suc (suc (suc (suc (suc (suc size)))))) least most = absurd (omega (arith, most))

-- and a list has none alone
no_one_part : (ids : List ℕ) → length (list_parts ids) ≡ 1 → ⊥
no_one_part [] e = omega (arith, e)
no_one_part (id ∷ []) e = omega (arith, e)
no_one_part (id ∷ other ∷ ids) e = omega (arith, e)

pub size_or_list : (size : ℕ) (ids word : List ℕ) → 1 ≤ size → size ≤ 5 → word ≡ decimal size → commas word ≡ list_parts ids → ⊥
size_or_list size ids word least most is parts =
    no_one_part ids (sym (ap length parts) ∙ ap (λ w. length (commas w)) is ∙ one_part size least most)

-- a list of two at least has its numbers for its parts
pub parts_of_two : (ids : List ℕ) → 2 ≤ length ids → map decimal ids ≡ list_parts ids
parts_of_two [] long = absurd (omega (arith, long))
parts_of_two (id ∷ []) long = absurd (omega (arith, long))
parts_of_two (id ∷ other ∷ ids) long = refl

-- lists are spelled in one way
pub same_parts : (xs ys : List ℕ) → ((n : ℕ) → In n xs → n ≤ 255) → ((n : ℕ) → In n ys → n ≤ 255) → list_parts xs ≡ list_parts ys → xs ≡ ys
same_parts [] [] p q e = refl
same_parts [] (y ∷ []) p q e = cc
same_parts [] (y ∷ z ∷ ys) p q e = cc
same_parts (x ∷ []) [] p q e = cc
same_parts (x ∷ z ∷ xs) [] p q e = cc
same_parts (x ∷ []) (y ∷ []) p q e = same_numbers (x ∷ []) (y ∷ []) p q cc
same_parts (x ∷ []) (y ∷ w ∷ ys) p q e = absurd (some_digit w (q w (inr (inl refl))) cc)
same_parts (x ∷ z ∷ xs) (y ∷ []) p q e = absurd (some_digit z (p z (inr (inl refl))) cc)
same_parts (x ∷ z ∷ xs) (y ∷ w ∷ ys) p q e = same_numbers (x ∷ z ∷ xs) (y ∷ w ∷ ys) p q e

bytes_of_members : (ids : List ℕ) → AreMembers ids → (n : ℕ) → In n ids → n ≤ 255
bytes_of_members ids members n here = let node = (members.nodes n here).1 in omega (arith, node)

-- a word tells one thing
pub same_told : (a b : Told) (word : List ℕ) → IsCluster a → IsCluster b → Spells a word → Spells b word → a ≡ b
same_told (Size a) (Size b) word p q x y =
    let a_most = p.1 in let b_most = q.1 in ap Size (decimal_injective a b (omega (arith, a_most)) (omega (arith, b_most)) (sym x ∙ y))
same_told (Size a) (Members b) word p q x y = absurd (size_or_list a b.items word p.0 p.1 x y)
same_told (Members a) (Size b) word p q x y = absurd (size_or_list b a.items word q.0 q.1 y x)
same_told (Members a) (Members b) word p q x y =
    ap (λ (l : List ℕ). Members (record { items = l }))
    (same_parts a.items b.items (bytes_of_members a.items p) (bytes_of_members b.items q) (sym x ∙ y))

-- a word that is no number of members, and no list
pub no_told : (word : List ℕ) → ((n : ℕ) → 1 ≤ n → n ≤ 5 → word ≡ decimal n → ⊥)
    → ((ids : List ℕ) → length ids ≤ 5 → ((n : ℕ) → In n ids → n ≤ 255) → commas word ≡ list_parts ids → ⊥)
    → (told : Told) → IsCluster told → Spells told word → ⊥
no_told word no_size no_list (Size size) cluster spells = no_size size cluster.0 cluster.1 spells
no_told word no_size no_list (Members members) cluster spells = no_list members.items cluster.few (bytes_of_members members.items cluster) spells

-- a list that is none of members
pub not_members : (word own : List ℕ) → commas word ≡ list_parts own → ((i : ℕ) → i < length own → slice_index own i < 256) → (AreMembers own → ⊥)
    → ((n : ℕ) → 1 ≤ n → n ≤ 5 → word ≡ decimal n → ⊥) → (told : Told) → IsCluster told → Spells told word → ⊥
not_members word own parts low none no_size (Size size) cluster spells = no_size size cluster.0 cluster.1 spells
not_members word own parts low none no_size (Members members) cluster spells =
    none (subst AreMembers (sym (same_parts own members.items (bytes_within own low) (bytes_of_members members.items cluster) (sym parts ∙ spells))) cluster)

-- what is read of a word that is no list
module _ (word : List ℕ) where
  abbrev Bytes : List ℕ → Type 0
  Bytes ids = (n : ℕ) → In n ids → n ≤ 255

  -- a comma at the end, behind no number
  pub no_single : (one : List ℕ) → commas word ≡ one ∷ [] ∷ [] → ((n : ℕ) → n ≤ 255 → one ≡ decimal n → ⊥)
      → (ids : List ℕ) → Bytes ids → commas word ≡ list_parts ids → ⊥
  no_single one parts none [] bytes e = cc
  no_single one parts none (id ∷ []) bytes e = none id (bytes id (inl refl)) cc
  no_single one parts none (id ∷ other ∷ ids) bytes e = some_digit other (bytes other (inr (inl refl))) cc

  -- no comma at the end, and parts that are no numbers
  pub no_more : ((one : List ℕ) → commas word ≡ one ∷ [] ∷ [] → ⊥) → ((ids : List ℕ) → length ids ≤ 5 → Bytes ids → commas word ≡ map decimal ids → ⊥)
      → (ids : List ℕ) → length ids ≤ 5 → Bytes ids → commas word ≡ list_parts ids → ⊥
  no_more single none [] few bytes e = let some = some_part word in let count = ap length e in omega (arith, some, count)
  no_more single none (id ∷ []) few bytes e = single (decimal id) e
  no_more single none (id ∷ other ∷ ids) few bytes e = none (id ∷ other ∷ ids) few bytes e

  -- one part, or none
  pub too_few : (own : List ℕ) → length own < 2 → commas word ≡ map decimal own → ((one : List ℕ) → commas word ≡ one ∷ [] ∷ [] → ⊥)
      → (ids : List ℕ) → commas word ≡ list_parts ids → ⊥
  too_few own few parts single [] e = let some = some_part word in let count = ap length e in omega (arith, some, count)
  too_few own few parts single (id ∷ []) e = single (decimal id) e
  too_few own few parts single (id ∷ other ∷ ids) e =
      let count = ap length (sym parts ∙ e) in let same = length-map own decimal in omega (arith, few, count, same)

-- ---- the parts of a word, one by one

-- a part that is no number
pub no_number : (own ids : List ℕ) (part : List ℕ) (parts : List (List ℕ)) → ((n : ℕ) → n ≤ 255 → part ≡ decimal n → ⊥)
    → ((n : ℕ) → In n ids → n ≤ 255) → map decimal own ++ part ∷ parts ≡ map decimal ids → ⊥
no_number [] [] part parts none bytes e = cc
no_number [] (id ∷ ids) part parts none bytes e = none id (bytes id (inl refl)) cc
no_number (n ∷ own) [] part parts none bytes e = cc
no_number (n ∷ own) (id ∷ ids) part parts none bytes e = no_number own ids part parts none (λ n here. bytes n (inr here)) cc
