-- The first frame of a payload has the number with which the payload begins.
use Rattle.std.proofs.Common.{◌≡◌, ◌≢◌, ◌≤◌, ◌<◌, ◌-◌, ℕ, zero, suc, true, false, List, [], ◌∷◌, ◌++◌, length, take, refl, sym, ap, ◌∙◌, inl, inr, arith}
use Rattle.std.specs.Prelude.{◌/◌, ◌%◌}
use Rattle.std.proofs.lemmas.Bool.Decides.{leb_tells}
use Rattle.can_frame.specs.Cutting.{Piece, bytes_cut, crc_bytes, cut, frames_of, tail_at}
use Rattle.can_frame.specs.TransferCrc.{transfer_crc}
use Rattle.told_link.specs.Terms.{first_number, number_behind_crc, term_of}

pub head_is : (a b : Piece) (xs ys : List Piece) → a ∷ xs ≡ b ∷ ys → a ≡ b
head_is a b xs ys e = cc

-- a payload of seven bytes or less is alone in its frame
pub alone : (signature id : ℕ) (payload : List ℕ) → length payload ≤ 7 →
    frames_of signature id payload ≡ record { bytes = payload; tail = tail_at id 0 true } ∷ []
unfolding frames_of
alone signature id payload short = ap (λ (bytes : List ℕ). cut id 0 ((length bytes - 1) / 7) bytes) whole
    ∙ ap (λ (n : ℕ). cut id 0 n payload) (let none : (length payload - 1) / 7 ≡ 0 = omega (arith, short) in none)
  where
    whole : bytes_cut signature payload ≡ payload
    whole = elim (leb_tells (length payload) 7) as (λ _. bytes_cut signature payload ≡ payload) [
      | inl t ↦ rw (t.0) refl
      | inr t ↦ absurd (omega (arith, short, t.1))
    ]

-- the first frame of several, which there are
front : (id count : ℕ) (bytes : List ℕ) → count ≢ 0 → (rest : List Piece) ×
    (cut id 0 count bytes ≡ record { bytes = take 7 bytes; tail = tail_at id 0 false } ∷ rest)
front id zero bytes some = absurd (some refl)
front id (suc more) bytes some = (_, refl)

pub many : (signature id : ℕ) (payload : List ℕ) → 7 < length payload → (rest : List Piece) ×
    (frames_of signature id payload
    ≡ record { bytes = take 7 (crc_bytes signature payload ++ payload); tail = tail_at id 0 false } ∷ rest)
unfolding frames_of
many signature id payload long = (found.0, ap (λ (bytes : List ℕ). cut id 0 ((length bytes - 1) / 7) bytes) whole ∙ found.1)
  where
    whole : bytes_cut signature payload ≡ crc_bytes signature payload ++ payload
    whole = elim (leb_tells (length payload) 7)
        as (λ _. bytes_cut signature payload ≡ crc_bytes signature payload ++ payload) [
          | inl t ↦ absurd (omega (arith, long, t.1))
          | inr t ↦ rw (t.0) refl
        ]

    some : (suc (suc (length payload)) - 1) / 7 ≢ 0
    some is = absurd (omega (arith, long, is))

    found : (rest : List Piece) × (cut id 0 ((suc (suc (length payload)) - 1) / 7) (crc_bytes signature payload ++ payload)
        ≡ record { bytes = take 7 (crc_bytes signature payload ++ payload); tail = tail_at id 0 false } ∷ rest)
    found = front id ((suc (suc (length payload)) - 1) / 7) (crc_bytes signature payload ++ payload) some

behind : (low high : ℕ) (payload : List ℕ) → number_behind_crc (take 7 (low ∷ high ∷ payload)) ≡ first_number payload
behind low high [] = refl
behind low high (a ∷ []) = refl
behind low high (a ∷ (b ∷ [])) = refl
behind low high (a ∷ (b ∷ (c ∷ []))) = refl
behind low high (a ∷ (b ∷ (c ∷ (d ∷ [])))) = refl
behind low high (a ∷ (b ∷ (c ∷ (d ∷ (e ∷ rest))))) = refl

pub first_has : (signature id : ℕ) (payload : List ℕ) (first : Piece) (rest : List Piece) →
    frames_of signature id payload ≡ first ∷ rest → term_of first ≡ first_number payload
first_has signature id payload first rest is =
    elim (leb_tells (length payload) 7) as (λ _. term_of first ≡ first_number payload) [
      | inl t ↦ ap term_of (head_is first (record { bytes = payload; tail = tail_at id 0 true }) rest []
          (sym is ∙ alone signature id payload t.1))
      | inr t ↦ let found = many signature id payload t.1 in
          ap term_of (head_is first (record {
            bytes = take 7 (crc_bytes signature payload ++ payload);
            tail = tail_at id 0 false;
          }) rest found.0 (sym is ∙ found.1))
          ∙ behind (transfer_crc signature payload % 256) (transfer_crc signature payload / 256) payload
    ]
