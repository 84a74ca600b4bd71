-- Lists of bytes at the end of a payload; Discovery and Allocation.
use Rattle.std.proofs.Common.{◌≡◌, ◌<◌, ◌+◌, ◌/◌, ◌%◌, ℕ, zero, suc, List, [], ◌∷◌, ◌++◌, length, Bool, true, false, nat_eq, nat_le, nat_lt, cond, Option, Some, None, refl, ap, ◌∙◌, arith, inl, inr, length-append}
use Rattle.std.specs.Option.{option_map}
use Rattle.std.proofs.lemmas.Bool.{le-leb, le-ltb, lt-leb}
use Rattle.std.proofs.lemmas.Bool.Decides.{leb_tells}
use Rattle.dsdl_codec.specs.Allocation.{allocation_of}
use Rattle.dsdl_codec.specs.Discovery.{discovery_of}
use Rattle.dsdl_codec.specs.Numbers.{allocation_numbers, discovery_numbers}
use Rattle.dsdl_text_codec_laws.specs.Fields.{allocation_fields, discovery_fields}
use Rattle.dsdl_text_codec_laws.specs.Laws.{AreBytes, GiveNumbers}
use Rattle.dsdl_text.specs.Layout.{number, up_to}
use Rattle.dsdl_text.specs.Numbers.{◌>>=◌, Reading, bits_of, byte_bits, has_bit, number_of, numbers_of, read_part, read_tail, reads, told_tail, whole}
use Rattle.dsdl_text.proofs.BytesOfBits.{read-front}
use Rattle.dsdl_text_codec_laws.proofs.Pieces.{in_front, onto, padded}
use Rattle.dsdl_text_codec_laws.proofs.Words.{byte, high_7, low_flag}

-- ---- bytes without a count

abbrev Tail : Type 0
Tail = Option (ℕ × List ℕ × List Bool)

-- bytes are read to the end, where there are not too many
abbrev bytes_up_to : ℕ → List ℕ → Tail
bytes_up_to most bytes = cond (nat_le (length bytes) most) (Some (length bytes, bytes, [])) None

-- one more element
abbrev and_tail : List ℕ → Tail → Tail
and_tail numbers tail = tail >>= λ y. Some (y.0 + 1, numbers ++ y.1, y.2)

not_ended : (b : ℕ) (rest : List ℕ) → nat_lt (length (bits_of (b ∷ rest))) 8 ≡ false
not_ended b rest = le-ltb (length (bits_of (b ∷ rest))) 8 (omega arith)

more_bytes : (b n : ℕ) (rest : List ℕ) (most : ℕ) → n ≡ b → and_tail (n ∷ []) (bytes_up_to most rest) ≡ bytes_up_to (suc most) (b ∷ rest)
more_bytes b n rest most is = elim (leb_tells (length rest) most) [
  | inl few ↦ rw (few.0, le-leb (suc (length rest)) (suc most) (omega arith), is) (ap (λ size. Some (size, b ∷ rest, [])) (omega arith))
  | inr many ↦ rw (many.0, lt-leb (suc (length rest)) (suc most) (omega arith)) refl
]

tail_of_bytes : (most : ℕ) (rest : List ℕ) → AreBytes rest → read_tail most (reads (number 8)) (bits_of rest) ≡ bytes_up_to most rest
tail_of_bytes zero [] fits = refl
tail_of_bytes zero (b ∷ rest) fits = rw (not_ended b rest, lt-leb (suc (length rest)) 0 (omega arith)) refl
tail_of_bytes (suc most) [] fits = rw (le-leb 0 (suc most) (omega arith)) refl
tail_of_bytes (suc most) (b ∷ rest) fits =
    rw (not_ended b rest) (
    ap (λ o. o >>= λ x. read_tail most (reads (number 8)) x.1 >>= λ y. Some (y.0 + 1, x.0 ++ y.1, y.2)) (read-front (byte_bits b) (bits_of rest) 8 refl)
    ∙ ap (and_tail (number_of (byte_bits b) ∷ [])) (tail_of_bytes most rest (λ i. fits (suc i)))
    ∙ more_bytes b (number_of (byte_bits b)) rest most (byte b (fits 0)))

-- the list that the last field is
abbrev pub listed : ℕ → List ℕ → Reading
listed most rest = cond (nat_le (length rest) most) (Some (length rest ∷ rest, [])) None

pub last_bytes : (most : ℕ) (rest : List ℕ) → AreBytes rest → read_part (up_to most (number 8) ∷ []) (bits_of rest) ≡ listed most rest
last_bytes most rest fits = ap told_tail (tail_of_bytes most rest fits) ∙ go (nat_le (length rest) most) where
  go : (few : Bool) → told_tail (cond few (Some (length rest, rest, [])) None) ≡ cond few (Some (length rest ∷ rest, [])) None
  go true = refl
  go false = refl

-- numbers in front of a list that is at the end
pub with_list : (front : List ℕ) (most : ℕ) (rest : List ℕ) → length front + most < 400
    → (onto front (listed most rest) >>= whole) ≡ cond (nat_le (length rest) most) (Some (front ++ length rest ∷ rest)) None
with_list front most rest room = elim (leb_tells (length rest) most) [
  | inl few ↦ rw few.0 (padded (front ++ length rest ∷ rest) [] (omega arith) (omega (arith, length-append front (length rest ∷ rest))))
  | inr many ↦ rw many.0 refl
]

-- ---- Discovery

discovery : (bytes : List ℕ) → AreBytes bytes
    → (read_part discovery_fields (bits_of bytes) >>= whole) ≡ option_map discovery_numbers (discovery_of bytes)
discovery [] fits = refl
discovery (size ∷ rest) fits =
    ap (λ read. read >>= whole) (in_front (bits_of (size ∷ []) ∷ []) (up_to 5 (number 8)) [] (bits_of rest)
    ∙ ap (onto (number_of (bits_of (size ∷ [])) ∷ [])) (last_bytes 5 rest (λ i. fits (suc i))))
    ∙ with_list (number_of (bits_of (size ∷ [])) ∷ []) 5 rest (omega arith)
    ∙ go (nat_le (length rest) 5) where
      go : (few : Bool) → cond few (Some (number_of (bits_of (size ∷ [])) ∷ length rest ∷ rest)) None
          ≡ option_map discovery_numbers (cond few (Some (record { size = size; known = record { items = rest } })) None)
      go true = ap (λ n. Some (n ∷ length rest ∷ rest)) (byte size (fits 0))
      go false = refl

pub discoveries : GiveNumbers discovery_fields discovery_numbers discovery_of
unfolding numbers_of
discoveries = discovery

-- ---- Allocation

abbrev seven : ℕ → List Bool
seven s = has_bit 128 s ∷ has_bit 64 s ∷ has_bit 32 s ∷ has_bit 16 s ∷ has_bit 8 s ∷ has_bit 4 s ∷ has_bit 2 s ∷ []

abbrev eighth : ℕ → List Bool
eighth s = has_bit 1 s ∷ []

allocation : (bytes : List ℕ) → AreBytes bytes
    → (read_part allocation_fields (bits_of bytes) >>= whole) ≡ option_map allocation_numbers (allocation_of bytes)
allocation [] fits = refl
allocation (s ∷ rest) fits =
    ap (λ read. read >>= whole) (in_front (seven s ∷ eighth s ∷ []) (up_to 16 (number 8)) [] (bits_of rest)
    ∙ ap (onto (number_of (seven s) ∷ number_of (eighth s) ∷ [])) (last_bytes 16 rest (λ i. fits (suc i))))
    ∙ with_list (number_of (seven s) ∷ number_of (eighth s) ∷ []) 16 rest (omega arith)
    ∙ go (nat_le (length rest) 16) where
      go : (few : Bool) → cond few (Some (number_of (seven s) ∷ number_of (eighth s) ∷ length rest ∷ rest)) None
          ≡ option_map allocation_numbers (cond few (Some (record { node = s / 2; first_part = nat_eq (s % 2) 1; uid = record { items = rest } })) None)
      go true = ap (λ n. Some (n ∷ number_of (eighth s) ∷ length rest ∷ rest)) (high_7 s (fits 0))
          ∙ ap (λ n. Some (s / 2 ∷ n ∷ length rest ∷ rest)) (low_flag s)
      go false = refl

pub allocations : GiveNumbers allocation_fields allocation_numbers allocation_of
unfolding numbers_of
allocations = allocation
