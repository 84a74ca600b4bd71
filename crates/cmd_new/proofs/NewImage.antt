-- The bytes of a new store.
use Rattle.std.proofs.Common.{◌≡◌, inl, inr, ℕ, ◌+◌, ◌*◌, ◌<◌, ◌≤◌, List, [], ◌∷◌, length, replicate, get_or, refl, ap, ◌∙◌, arith, drop-cons}
use Rattle.std.specs.Prelude.{slice_set}
use Rattle.std.proofs.lemmas.Bool.Decides.{leb_tells}
use Rattle.std.proofs.lemmas.List.{get_or-replicate, get_or-set_other, get_or-set_same, get_or_past, length-replicate, length-set}
use Rattle.kv_store.specs.Image.{length_byte, value_in}
use Rattle.cmd_new.specs.NewImage.{image_of}

pub image_is : (size : ℕ) (bytes : List ℕ) → bytes ≡ replicate size 0 → slice_set (slice_set (slice_set bytes 0 1) 34 1) 35 2 ≡ image_of size
unfolding image_of
image_is size bytes is = ap (λ l. slice_set (slice_set (slice_set l 0 1) 34 1) 35 2) is

module _ (size : ℕ) (long : 36 ≤ size) where
  abbrev zeros : List ℕ
  zeros = replicate size 0

  abbrev with_selector : List ℕ
  with_selector = slice_set zeros 0 1

  abbrev with_length : List ℕ
  with_length = slice_set with_selector 34 1

  pub length-image : length (image_of size) ≡ size
  unfolding image_of
  length-image = length-set with_length 35 2 ∙ length-set with_selector 34 1 ∙ length-set zeros 0 1 ∙ length-replicate {A = ℕ} size 0

  pub selector : get_or (image_of size) 0 0 ≡ 1
  unfolding image_of
  selector = get_or-set_other with_length 35 0 2 0 (λ e. omega (arith, e)) ∙ get_or-set_other with_selector 34 0 1 0 (λ e. omega (arith, e))
      ∙ get_or-set_same zeros 0 1 0 (omega (arith, long, length-replicate {A = ℕ} size 0))

  pub length_is : get_or (image_of size) 34 0 ≡ 1
  unfolding image_of
  length_is = get_or-set_other with_length 35 34 2 0 (λ e. omega (arith, e))
      ∙ get_or-set_same with_selector 34 1 0 (omega (arith, long, length-set zeros 0 1, length-replicate {A = ℕ} size 0))

  pub version_is : get_or (image_of size) 35 0 ≡ 2
  unfolding image_of
  version_is = get_or-set_same with_length 35 2 0 (omega (arith, long, length-set with_selector 34 1, length-set zeros 0 1, length-replicate {A = ℕ} size 0))

  zero : (i : ℕ) → get_or zeros i 0 ≡ 0
  zero i = elim (leb_tells size i) as (λ _. get_or zeros i 0 ≡ 0) [
    | inl t ↦ get_or_past zeros i 0 (omega (arith, t.1, length-replicate {A = ℕ} size 0))
    | inr t ↦ get_or-replicate size i 0 0 (omega (arith, t.1))
  ]

  -- where the mark would stand
  pub no_mark : get_or (image_of size) 1 0 ≡ 0
  unfolding image_of
  no_mark = get_or-set_other with_length 35 1 2 0 (λ e. omega (arith, e)) ∙ get_or-set_other with_selector 34 1 1 0 (λ e. omega (arith, e))
      ∙ get_or-set_other zeros 0 1 1 0 (λ e. omega (arith, e)) ∙ zero 1

  pub others : (i : ℕ) → 36 ≤ i → get_or (image_of size) i 0 ≡ 0
  unfolding image_of
  others i behind = get_or-set_other with_length 35 i 2 0 (λ e. omega (arith, e, behind)) ∙ get_or-set_other with_selector 34 i 1 0 (λ e. omega (arith, e, behind))
      ∙ get_or-set_other zeros 0 i 1 0 (λ e. omega (arith, e, behind)) ∙ zero i

-- what stands in the key of the version
module _ (image : List ℕ) (chosen : get_or image 0 0 ≡ 1) where
  pub length_byte_is : length_byte image 0 ≡ get_or image 34 0
  length_byte_is = rw chosen refl

  pub value_is : get_or image 34 0 ≡ 1 → 35 < length image → value_in image 0 ≡ get_or image 35 0 ∷ []
  value_is one long = rw (chosen, one, drop-cons image 35 0) refl

-- a key whose selector and first length byte are zero is empty
module _ (image : List ℕ) (key : ℕ) (selector : get_or image (67 * key) 0 ≡ 0) (count : get_or image (67 * key + 1 + 33 * 0) 0 ≡ 0) where
  pub no_length : length_byte image key ≡ 0
  no_length = rw (selector, count) refl

  pub no_value : value_in image key ≡ []
  no_value = rw (selector, count) refl
