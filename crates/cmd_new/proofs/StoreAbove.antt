-- The bytes of a store that is made above a term.
use Rattle.std.proofs.Common.{◌≡◌, ◌⊎◌, inl, inr, ℕ, zero, suc, ◌+◌, ◌*◌, ◌<◌, ◌≤◌, ◌^◌, List, [], ◌∷◌, length, take, drop, get_or, refl, sym, ap, subst, ◌∙◌, arith, drop-cons}
use Rattle.std.specs.Prelude.{slice_set}
use Rattle.std.specs.Int.{from_le_bytes, to_le_bytes, w32}
use Rattle.std.proofs.lemmas.List.{get_or-set_other, get_or-set_same, length-set}
use Rattle.std.proofs.lemmas.Nat.{from_le_bytes-to_le_bytes_4}
use Rattle.kv_store.specs.Image.{length_byte, value_in}
use Rattle.cmd_new.specs.NewImage.{IsAbove, IsNewImage, IsMadeAbove, above_of, image_of, with_bytes}
use Rattle.cmd_new.proofs.NewImage.{length-image, length_is, no_mark, others, selector}

-- ---- bytes that are written at a place

pub length-with : (place : ℕ) (bytes image : List ℕ) → length (with_bytes place bytes image) ≡ length image
length-with place [] image = refl
length-with place (b ∷ bytes) image = length-with (place + 1) bytes (slice_set image place b) ∙ length-set image place b

pub with_outside : (place : ℕ) (bytes image : List ℕ) (i : ℕ) → (i < place) ⊎ (place + length bytes ≤ i) → get_or (with_bytes place bytes image) i 0 ≡ get_or image i 0
with_outside place [] image i out = refl
with_outside place (b ∷ bytes) image i (inl low) =
    with_outside (place + 1) bytes (slice_set image place b) i (inl (omega (arith, low))) ∙ get_or-set_other image place i b 0 (λ e. omega (arith, e, low))
with_outside place (b ∷ bytes) image i (inr high) =
    with_outside (place + 1) bytes (slice_set image place b) i (inr (omega (arith, high))) ∙ get_or-set_other image place i b 0 (λ e. omega (arith, e, high))

pub with_inside : (place : ℕ) (bytes image : List ℕ) (i : ℕ) → i < length bytes → place + length bytes ≤ length image → get_or (with_bytes place bytes image) (place + i) 0 ≡ get_or bytes i 0
with_inside place [] image i low fits = absurd (omega (arith, low))
with_inside place (b ∷ bytes) image zero low fits =
    let at : place + 0 ≡ place = omega arith in
    ap (λ k. get_or (with_bytes (place + 1) bytes (slice_set image place b)) k 0) at
    ∙ with_outside (place + 1) bytes (slice_set image place b) place (inl (omega arith)) ∙ get_or-set_same image place b 0 (omega (arith, fits))
with_inside place (b ∷ bytes) image (suc i) low fits =
    let at : place + suc i ≡ place + 1 + i = omega arith in
    ap (λ k. get_or (with_bytes (place + 1) bytes (slice_set image place b)) k 0) at
    ∙ with_inside (place + 1) bytes (slice_set image place b) i (omega (arith, low)) (omega (arith, fits, length-set image place b))

-- ---- the bytes of the image

module _ (size term node : ℕ) (long : 137 ≤ size) where
  abbrev with_term : List ℕ
  with_term = with_bytes 68 (4 ∷ to_le_bytes w32 term) (image_of size)

  size_with_term : length with_term ≡ size
  size_with_term = length-with 68 (4 ∷ to_le_bytes w32 term) (image_of size) ∙ length-image size (omega (arith, long))

  pub length-above : length (above_of size term node) ≡ size
  unfolding above_of
  length-above = length-with 135 (1 ∷ node ∷ []) with_term ∙ size_with_term

  pub front : (i : ℕ) → i < 68 → get_or (above_of size term node) i 0 ≡ get_or (image_of size) i 0
  unfolding above_of
  front i low = with_outside 135 (1 ∷ node ∷ []) with_term i (inl (omega (arith, low)))
      ∙ with_outside 68 (4 ∷ to_le_bytes w32 term) (image_of size) i (inl low)

  pub term_at : (i : ℕ) → i < 5 → get_or (above_of size term node) (68 + i) 0 ≡ get_or (4 ∷ to_le_bytes w32 term) i 0
  unfolding above_of
  term_at i low = with_outside 135 (1 ∷ node ∷ []) with_term (68 + i) (inl (omega (arith, low)))
      ∙ with_inside 68 (4 ∷ to_le_bytes w32 term) (image_of size) i low (omega (arith, long, length-image size (omega (arith, long))))

  pub vote_at : (i : ℕ) → i < 2 → get_or (above_of size term node) (135 + i) 0 ≡ get_or (1 ∷ node ∷ []) i 0
  unfolding above_of
  vote_at i low = with_inside 135 (1 ∷ node ∷ []) with_term i low (omega (arith, long, size_with_term))

  pub elsewhere : (i : ℕ) → 73 ≤ i → (i < 135) ⊎ (137 ≤ i) → get_or (above_of size term node) i 0 ≡ 0
  unfolding above_of
  elsewhere i high (inl low) = with_outside 135 (1 ∷ node ∷ []) with_term i (inl low)
      ∙ with_outside 68 (4 ∷ to_le_bytes w32 term) (image_of size) i (inr high) ∙ others size (omega (arith, long)) i (omega (arith, high))
  elsewhere i high (inr far) = with_outside 135 (1 ∷ node ∷ []) with_term i (inr far)
      ∙ with_outside 68 (4 ∷ to_le_bytes w32 term) (image_of size) i (inr high) ∙ others size (omega (arith, long)) i (omega (arith, high))

-- byte by byte
pub above_is : (size term node : ℕ) (plain bytes : List ℕ) → plain ≡ image_of size → bytes ≡ to_le_bytes w32 term
    → slice_set (slice_set (slice_set (slice_set (slice_set (slice_set (slice_set plain 68 4) 69 (get_or bytes 0 0)) 70 (get_or bytes 1 0)) 71 (get_or bytes 2 0)) 72 (get_or bytes 3 0)) 135 1) 136 node
    ≡ above_of size term node
unfolding above_of
above_is size term node plain bytes plain_is bytes_are = rw (plain_is, bytes_are) refl

-- ---- what stands in the keys of the term and the vote

module _ (image : List ℕ) where
  pub length_of_term : get_or image 67 0 ≡ 0 → length_byte image 1 ≡ get_or image 68 0
  length_of_term even = rw even refl

  pub length_of_vote : get_or image 134 0 ≡ 0 → length_byte image 2 ≡ get_or image 135 0
  length_of_vote even = rw even refl

  pub value_of_term : get_or image 67 0 ≡ 0 → get_or image 68 0 ≡ 4 → 73 ≤ length image
      → value_in image 1 ≡ get_or image 69 0 ∷ get_or image 70 0 ∷ get_or image 71 0 ∷ get_or image 72 0 ∷ []
  value_of_term even four long = rw (even, four, drop-cons image 69 0 (omega (arith, long)), drop-cons image 70 0 (omega (arith, long)), drop-cons image 71 0 (omega (arith, long)), drop-cons image 72 0 (omega (arith, long))) refl

  pub value_of_vote : get_or image 134 0 ≡ 0 → get_or image 135 0 ≡ 1 → 137 ≤ length image → value_in image 2 ≡ get_or image 136 0 ∷ []
  value_of_vote even one long = rw (even, one, drop-cons image 136 0 (omega (arith, long))) refl

-- ---- what is read of it again

pub term_again : (image : List ℕ) (is : IsAbove image)
    → from_le_bytes w32 (get_or image 69 0 ∷ get_or image 70 0 ∷ get_or image 71 0 ∷ get_or image 72 0 ∷ []) ≡ is.term
term_again image is =
    let at : (i : ℕ) → i < 5 → get_or image (68 + i) 0 ≡ get_or (4 ∷ to_le_bytes w32 is.term) i 0 =
    λ i low. ap (λ l. get_or l (68 + i) 0) is.image_is ∙ term_at 8844 is.term is.node (omega arith) i low in
    rw (at 1 (omega arith), at 2 (omega arith), at 3 (omega arith), at 4 (omega arith)) (from_le_bytes-to_le_bytes_4 is.term (let most = is.may.term_most in omega (arith, most)))

pub vote_again : (image : List ℕ) (is : IsAbove image) → get_or image 136 0 ≡ is.node
vote_again image is = ap (λ l. get_or l 136 0) is.image_is ∙ vote_at 8844 is.term is.node (omega arith) 1 (omega arith)

pub may_again : (image : List ℕ) (term node : ℕ)
    → term ≡ from_le_bytes w32 (get_or image 69 0 ∷ get_or image 70 0 ∷ get_or image 71 0 ∷ get_or image 72 0 ∷ []) → node ≡ get_or image 136 0
    → IsAbove image → IsMadeAbove term node
may_again image term node term_is node_is is =
    subst (λ n. IsMadeAbove n node) (sym (term_is ∙ term_again image is)) (subst (IsMadeAbove is.term) (sym (node_is ∙ vote_again image is)) is.may)

pub image_again : (image : List ℕ) (term node : ℕ)
    → term ≡ from_le_bytes w32 (get_or image 69 0 ∷ get_or image 70 0 ∷ get_or image 71 0 ∷ get_or image 72 0 ∷ []) → node ≡ get_or image 136 0
    → IsAbove image → image ≡ above_of 8844 term node
image_again image term node term_is node_is is =
    is.image_is ∙ ap (λ n. above_of 8844 n is.node) (sym (term_is ∙ term_again image is)) ∙ ap (above_of 8844 term) (sym (node_is ∙ vote_again image is))

-- a new store has its version in copy B, and nothing in copy A
pub new_front : (image : List ℕ) → IsNewImage image → (get_or image 0 0 ≡ 1) × (get_or image 1 0 ≡ 0) × (get_or image 34 0 ≡ 1)
new_front image (inl is) = (
  ap (λ l. get_or l 0 0) is ∙ selector 8844 (omega arith),
  ap (λ l. get_or l 1 0) is ∙ no_mark 8844 (omega arith),
  ap (λ l. get_or l 34 0) is ∙ length_is 8844 (omega arith),
)
new_front image (inr is) = (
  ap (λ l. get_or l 0 0) is.image_is ∙ front 8844 is.term is.node (omega arith) 0 (omega arith) ∙ selector 8844 (omega arith),
  ap (λ l. get_or l 1 0) is.image_is ∙ front 8844 is.term is.node (omega arith) 1 (omega arith) ∙ no_mark 8844 (omega arith),
  ap (λ l. get_or l 34 0) is.image_is ∙ front 8844 is.term is.node (omega arith) 34 (omega arith) ∙ length_is 8844 (omega arith),
)
