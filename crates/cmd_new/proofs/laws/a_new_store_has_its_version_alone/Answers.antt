use Rattle.std.proofs.Common.{◌≡◌, ℕ, ◌+◌, ◌*◌, ◌≤◌, List, [], ◌∷◌, inl, inr, ap, ◌∙◌, arith}
use Rattle.std.proofs.lemmas.Bool.Decides.{eqb_tells}
use Rattle.kv_store.specs.Image.{length_byte, put_in, value_in}
use Rattle.cmd_new.specs.NewImage.{image_of}
use Rattle.cmd_new.proofs.NewImage.{length-image, length_byte_is, length_is, no_length, no_value, others, selector, value_is, version_is}
use Rattle.cmd_new.proofs.laws.a_new_store_has_its_version_alone.Goals as goal

module _ (size : ℕ) (long : 36 ≤ size) where
  abbrev image : List ℕ
  image = image_of size

  one : length_byte image 0 ≡ 1
  one = length_byte_is image (selector size long) ∙ length_is size long

  abbrev empty : ℕ → List ℕ
  empty key = []

  pub whole : (key : ℕ) → length_byte image key ≤ 32
  whole key = elim (eqb_tells key 0) as (λ _. length_byte image key ≤ 32) [
    | inl t ↦ rw (t.1, one) (omega arith)
    | inr t ↦ rw (no_length image key (others size long (67 * key) (omega (arith, t.1))) (others size long (67 * key + 1 + 33 * 0) (omega (arith, t.1)))) (omega arith)
  ]

  pub values : (key : ℕ) → value_in image key ≡ put_in empty 0 (2 ∷ []) key
  values key = elim (eqb_tells key 0) as (λ _. value_in image key ≡ put_in empty 0 (2 ∷ []) key) [
    | inl t ↦ rw (t.1) (value_is image (selector size long) (length_is size long) (omega (arith, long, length-image size long)) ∙ ap (λ n. n ∷ []) (version_is size long))
    | inr t ↦ rw (t.0) (no_value image key (others size long (67 * key) (omega (arith, t.1))) (others size long (67 * key + 1 + 33 * 0) (omega (arith, t.1))))
  ]

pub returns : goal.returns
returns c = record {
  whole = λ key h. whole 8844 (omega arith) key;
  values = λ key h. values 8844 (omega arith) key;
}
