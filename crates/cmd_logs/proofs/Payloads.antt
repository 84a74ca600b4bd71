-- A payload in two pieces.
use Rattle.std.proofs.Common.{◌≡◌, ◌≢◌, ◌∙◌, ℕ, List, [], ◌∷◌, ◌++◌, suc, length, take, drop, ap, refl, sym, inl, inr, arith, append_assoc, take-append-drop}
use Rattle.std.proofs.lemmas.Bool.{cases_lt}
use Rattle.std.proofs.lemmas.List.{drop_all, take_all}
use Rattle.std.specs.Prelude.{codes, min}
use Rattle.hex.specs.Hex.{encode_lower, encode_with}
use Rattle.cmd_logs.specs.Watched.{payload_word}

encode_with-append : (digits xs ys : List ℕ) → encode_with digits (xs ++ ys) ≡ encode_with digits xs ++ encode_with digits ys
unfolding encode_with
encode_with-append digits [] ys = refl
encode_with-append digits (x ∷ xs) ys = rw (encode_with-append digits xs ys) refl

payload_word-pieces : (n : ℕ) (payload : List ℕ) → payload_word (take (suc n) payload) ++ encode_lower (drop (suc n) payload) ≡ payload_word payload
unfolding encode_with
payload_word-pieces n [] = refl
payload_word-pieces n (byte ∷ bytes) =
    sym (encode_with-append (codes "0123456789abcdef") (byte ∷ take n bytes) (drop n bytes))
    ∙ ap (λ rest. encode_lower (byte ∷ rest)) (take-append-drop n bytes)

-- the line of a transfer from its pieces
pub line_pieces : (head one other back payload : List ℕ) → one ≡ head → other ≡ payload_word (take 200 payload) →
    back ≡ encode_lower (drop 200 payload) ++ codes "\n" → (one ++ other) ++ back ≡ head ++ payload_word payload ++ codes "\n"
line_pieces head one other back payload is_head is_front is_back =
    let front = payload_word (take 200 payload) in
    let rest = encode_lower (drop 200 payload) in
    rw (is_head, is_front, is_back) (
    sym (append_assoc (head ++ front) rest (codes "\n"))
    ∙ ap (λ l. l ++ codes "\n") (append_assoc head front rest ∙ ap (λ l. head ++ l) (payload_word-pieces 199 payload))
    )

pub take_least : (k n : ℕ) (xs : List ℕ) → k ≡ min (length xs) n → take k xs ≡ take n xs
take_least k n xs is =
    elim (cases_lt n (length xs)) [
      | inl low ↦ ap (λ m. take m xs) (omega (arith, is, low))
      | inr high ↦ take_all k xs (omega (arith, is, high)) ∙ sym (take_all n xs high)
    ]

pub drop_least : (k n : ℕ) (xs : List ℕ) → k ≡ min (length xs) n → drop k xs ≡ drop n xs
drop_least k n xs is =
    elim (cases_lt n (length xs)) [
      | inl low ↦ ap (λ m. drop m xs) (omega (arith, is, low))
      | inr high ↦ drop_all k xs (omega (arith, is, high)) ∙ sym (drop_all n xs high)
    ]

-- a payload that is not empty has no dash
pub digits_word : (xs : List ℕ) → xs ≢ [] → encode_lower xs ≡ payload_word xs
digits_word [] some = absurd (some refl)
digits_word (x ∷ xs) some = refl
