-- The numbers of bytes, and of parts of a byte.
use Rattle.std.proofs.Common.{◌≡◌, ◌<◌, ◌+◌, ◌*◌, ◌/◌, ◌%◌, ℕ, [], ◌∷◌, nat_eq, nat_le, ap, ◌∙◌, arith, inl, inr}
use Rattle.std.specs.Int.{from_le_bytes, w16, w32, w64}
use Rattle.std.proofs.lemmas.Bool.{cases_lt, le-leb, lt-leb}
use Rattle.dsdl_codec.specs.Numbers.{flag_number}
use Rattle.dsdl_text.specs.Numbers.{bits_of, has_bit, number_of}
use Rattle.dsdl_text.proofs.BytesOfBits.{bit, number-byte}

pub byte : (a : ℕ) → a < 256 → number_of (bits_of (a ∷ [])) ≡ a
byte a fits = number-byte a [] fits ∙ omega arith

pub half_word : (a b : ℕ) → a < 256 → b < 256 → number_of (bits_of (a ∷ b ∷ [])) ≡ from_le_bytes w16 (a ∷ b ∷ [])
half_word a b fa fb =
    let all = number-byte a (bits_of (b ∷ [])) fa ∙ ap (λ n. a + 256 * n) (number-byte b [] fb) in
    all ∙ omega arith

pub word : (a b c d : ℕ) → a < 256 → b < 256 → c < 256 → d < 256
    → number_of (bits_of (a ∷ b ∷ c ∷ d ∷ [])) ≡ from_le_bytes w32 (a ∷ b ∷ c ∷ d ∷ [])
word a b c d fa fb fc fd =
    let all = number-byte a (bits_of (b ∷ c ∷ d ∷ [])) fa
    ∙ ap (λ n. a + 256 * n) (number-byte b (bits_of (c ∷ d ∷ [])) fb
    ∙ ap (λ n. b + 256 * n) (number-byte c (bits_of (d ∷ [])) fc
    ∙ ap (λ n. c + 256 * n) (number-byte d [] fd))) in
    all ∙ omega arith

pub double_word : (a b c d e f g h : ℕ) → a < 256 → b < 256 → c < 256 → d < 256 → e < 256 → f < 256 → g < 256 → h < 256
    → number_of (bits_of (a ∷ b ∷ c ∷ d ∷ e ∷ f ∷ g ∷ h ∷ [])) ≡ from_le_bytes w64 (a ∷ b ∷ c ∷ d ∷ e ∷ f ∷ g ∷ h ∷ [])
double_word a b c d e f g h fa fb fc fd fe ff fg fh =
    let all = number-byte a (bits_of (b ∷ c ∷ d ∷ e ∷ f ∷ g ∷ h ∷ [])) fa
    ∙ ap (λ n. a + 256 * n) (number-byte b (bits_of (c ∷ d ∷ e ∷ f ∷ g ∷ h ∷ [])) fb
    ∙ ap (λ n. b + 256 * n) (number-byte c (bits_of (d ∷ e ∷ f ∷ g ∷ h ∷ [])) fc
    ∙ ap (λ n. c + 256 * n) (number-byte d (bits_of (e ∷ f ∷ g ∷ h ∷ [])) fd
    ∙ ap (λ n. d + 256 * n) (number-byte e (bits_of (f ∷ g ∷ h ∷ [])) fe
    ∙ ap (λ n. e + 256 * n) (number-byte f (bits_of (g ∷ h ∷ [])) ff
    ∙ ap (λ n. f + 256 * n) (number-byte g (bits_of (h ∷ [])) fg
    ∙ ap (λ n. g + 256 * n) (number-byte h [] fh))))))) in
    all ∙ omega arith

-- ---- parts of a byte, from the high one

pub high_flag : (s : ℕ) → s < 256 → number_of (has_bit 128 s ∷ []) ≡ flag_number (nat_le 128 s)
high_flag s fits = elim (cases_lt s 128) [
  | inl low ↦ rw (lt-leb 128 s low) (simp bit (omega arith))
  | inr high ↦ rw (le-leb 128 s high) (simp bit (omega arith))
]

pub low_flag : (s : ℕ) → number_of (has_bit 1 s ∷ []) ≡ flag_number (nat_eq (s % 2) 1)
low_flag s = simp bit (omega arith)

pub high_2 : (s : ℕ) → s < 256 → number_of (has_bit 128 s ∷ has_bit 64 s ∷ []) ≡ s / 64
high_2 s fits = simp bit (omega arith)

pub middle_3 : (s : ℕ) → s < 256 → number_of (has_bit 32 s ∷ has_bit 16 s ∷ has_bit 8 s ∷ []) ≡ s / 8 % 8
middle_3 s fits = simp bit (omega arith)

pub low_3 : (s : ℕ) → s < 256 → number_of (has_bit 4 s ∷ has_bit 2 s ∷ has_bit 1 s ∷ []) ≡ s % 8
low_3 s fits = simp bit (omega arith)

pub high_7 : (s : ℕ) → s < 256
    → number_of (has_bit 128 s ∷ has_bit 64 s ∷ has_bit 32 s ∷ has_bit 16 s ∷ has_bit 8 s ∷ has_bit 4 s ∷ has_bit 2 s ∷ []) ≡ s / 2
high_7 s fits = simp bit (omega arith)

pub low_7 : (s : ℕ) → s < 256
    → number_of (has_bit 64 s ∷ has_bit 32 s ∷ has_bit 16 s ∷ has_bit 8 s ∷ has_bit 4 s ∷ has_bit 2 s ∷ has_bit 1 s ∷ []) ≡ s % 128
low_7 s fits = simp bit (omega arith)
