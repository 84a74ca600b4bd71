use Rattle.std.proofs.Common.{◌≡◌, ℕ, zero, suc, ◌+◌, ◌*◌, ◌<◌, ◌≤◌, List, [], ◌∷◌, get_or, inl, inr, refl, sym, ap, ◌∙◌, arith}
use Rattle.std.specs.Int.{to_le_bytes, w32}
use Rattle.std.proofs.lemmas.Bool.Decides.{eqb_tells}
use Rattle.kv_store.specs.Image.{length_byte, put_in, value_in}
use Rattle.cmd_new.specs.NewImage.{above_of}
use Rattle.cmd_new.proofs.NewImage.{length_byte_is, length_is, no_length, no_value, others, selector, value_is, version_is}
use Rattle.cmd_new.proofs.StoreAbove.{elsewhere, front, length-above, length_of_term, length_of_vote, term_at, value_of_term, value_of_vote, vote_at}
use Rattle.cmd_new.proofs.laws.a_store_above_a_term_has_term_and_vote.Goals as goal

module _ (size term node : ℕ) (long : 137 ≤ size) where
  abbrev image : List ℕ
  image = above_of size term node

  abbrev short : 36 ≤ size
  short = omega (arith, long)

  abbrev empty : ℕ → List ℕ
  empty key = []

  abbrev values_of : ℕ → List ℕ
  values_of = put_in (put_in (put_in empty 0 (2 ∷ [])) 1 (to_le_bytes w32 term)) 2 (node ∷ [])

  -- of the keys behind the vote
  far : (key : ℕ) → 3 ≤ key → get_or image (67 * key) 0 ≡ 0
  far key high = elsewhere size term node long (67 * key) (omega (arith, high)) (inr (omega (arith, high)))

  far_copy : (key : ℕ) → 3 ≤ key → get_or image (67 * key + 1 + 33 * 0) 0 ≡ 0
  far_copy key high = elsewhere size term node long (67 * key + 1 + 33 * 0) (omega (arith, high)) (inr (omega (arith, high)))

  chosen : get_or image 0 0 ≡ 1
  chosen = front size term node long 0 (omega arith) ∙ selector size short

  version_length : get_or image 34 0 ≡ 1
  version_length = front size term node long 34 (omega arith) ∙ length_is size short

  even_term : get_or image 67 0 ≡ 0
  even_term = front size term node long 67 (omega arith) ∙ others size short 67 (omega arith)

  even_vote : get_or image 134 0 ≡ 0
  even_vote = elsewhere size term node long 134 (omega arith) (inl (omega arith))

  version_value : value_in image 0 ≡ 2 ∷ []
  version_value = value_is image chosen version_length (omega (arith, long, length-above size term node long))
      ∙ ap (λ n. n ∷ []) (front size term node long 35 (omega arith) ∙ version_is size short)

  term_value : value_in image 1 ≡ to_le_bytes w32 term
  term_value = value_of_term image even_term (term_at size term node long 0 (omega arith)) (omega (arith, long, length-above size term node long))
      ∙ rw (term_at size term node long 1 (omega arith), term_at size term node long 2 (omega arith), term_at size term node long 3 (omega arith), term_at size term node long 4 (omega arith)) refl

  vote_value : value_in image 2 ≡ node ∷ []
  vote_value = value_of_vote image even_vote (vote_at size term node long 0 (omega arith)) (omega (arith, long, length-above size term node long))
      ∙ ap (λ n. n ∷ []) (vote_at size term node long 1 (omega arith))

  pub whole : (key : ℕ) → length_byte image key ≤ 32
  whole key = elim (eqb_tells key 0) as (λ _. length_byte image key ≤ 32) [
    | inl t ↦ rw (t.1, length_byte_is image chosen, version_length) (omega arith)
    | inr at_0 ↦ elim (eqb_tells key 1) as (λ _. length_byte image key ≤ 32) [
      | inl t ↦ rw (t.1, length_of_term image even_term, term_at size term node long 0 (omega arith)) (omega arith)
      | inr at_1 ↦ elim (eqb_tells key 2) as (λ _. length_byte image key ≤ 32) [
        | inl t ↦ rw (t.1, length_of_vote image even_vote, vote_at size term node long 0 (omega arith)) (omega arith)
        | inr at_2 ↦ let high : 3 ≤ key = omega (arith, at_0.1, at_1.1, at_2.1) in rw (no_length image key (far key high) (far_copy key high)) (omega arith)
      ]
    ]
  ]

  pub values : (key : ℕ) → value_in image key ≡ values_of key
  values key = elim (eqb_tells key 0) as (λ _. value_in image key ≡ values_of key) [
    | inl t ↦ rw (t.1) version_value
    | inr at_0 ↦ elim (eqb_tells key 1) as (λ _. value_in image key ≡ values_of key) [
      | inl t ↦ rw (t.1) term_value
      | inr at_1 ↦ elim (eqb_tells key 2) as (λ _. value_in image key ≡ values_of key) [
        | inl t ↦ rw (t.1) vote_value
        | inr at_2 ↦ let high : 3 ≤ key = omega (arith, at_0.1, at_1.1, at_2.1) in rw (at_2.0, at_1.0, at_0.0) (no_value image key (far key high) (far_copy key high))
      ]
    ]
  ]

pub returns : goal.returns
returns c = λ term node. record {
  whole = λ key h. whole 8844 term node (omega arith) key;
  values = λ key h. values 8844 term node (omega arith) key;
}
