-- Arrays of bytes, and lists that are spread out.
use Rattle.std.proofs.Common.{◌≡◌, ◌<◌, ◌≤◌, ◌*◌, ℕ, zero, suc, List, [], ◌∷◌, ◌++◌, length, take, drop, get_or, Bool, nat_le, cond, Some, None, refl, ap, ◌∙◌, arith, inl, inr, length-append}
use Rattle.std.proofs.lemmas.Bool.{le-leb, lt-leb}
use Rattle.std.proofs.lemmas.Bool.Decides.{leb_tells}
use Rattle.std.proofs.Math.Seq.{drop-append_seam}
use Rattle.dsdl_text_codec_laws.specs.Laws.{AreBytes}
use Rattle.dsdl_text.specs.Layout.{number, up_to}
use Rattle.dsdl_text.specs.Numbers.{◌>>=◌, Reading, bits_of, byte_bits, number_of, read_counted, read_times, read_void, reads}
use Rattle.dsdl_text.proofs.BytesOfBits.{read-front}
use Rattle.dsdl_text_codec_laws.proofs.Pieces.{both, onto}
use Rattle.dsdl_text_codec_laws.proofs.Words.{byte}

-- ---- bytes by their places

abbrev pub spread : ℕ → List ℕ → List ℕ
spread zero bytes = bytes
spread (suc count) bytes = get_or bytes 0 0 ∷ spread count (drop 1 bytes)

pub spread_is : (count : ℕ) (bytes : List ℕ) → count ≤ length bytes → spread count bytes ≡ bytes
spread_is zero bytes long = refl
spread_is (suc count) [] long = absurd (omega arith)
spread_is (suc count) (b ∷ bytes) long = ap (λ more. b ∷ more) (spread_is count bytes (omega arith))

pub length-bits_of : (bytes : List ℕ) → length (bits_of bytes) ≡ 8 * length bytes
length-bits_of [] = refl
length-bits_of (b ∷ bytes) = omega (arith, length-bits_of bytes)

-- what is behind bytes are bytes
pub later : (count : ℕ) (bytes : List ℕ) → AreBytes bytes → AreBytes (drop count bytes)
later zero bytes fits = fits
later (suc count) [] fits = fits
later (suc count) (b ∷ bytes) fits = later count bytes (λ i. fits (suc i))

-- ---- so many bytes

abbrev pub so_many : ℕ → List ℕ → Reading
so_many count bytes = cond (nat_le count (length bytes)) (Some (take count bytes, bits_of (drop count bytes))) None

one_more : (b n count : ℕ) (bytes : List ℕ) → n ≡ b → onto (n ∷ []) (so_many count bytes) ≡ so_many (suc count) (b ∷ bytes)
one_more b n count bytes is = elim (leb_tells count (length bytes)) [
  | inl few ↦ rw (few.0, le-leb (suc count) (suc (length bytes)) (omega arith)) (ap (λ m. Some (m ∷ take count bytes, bits_of (drop count bytes))) is)
  | inr many ↦ rw (many.0, lt-leb (suc count) (suc (length bytes)) (omega arith)) refl
]

pub times_bytes : (count : ℕ) (bytes : List ℕ) → AreBytes bytes → read_times count (reads (number 8)) (bits_of bytes) ≡ so_many count bytes
times_bytes zero bytes fits = rw (le-leb 0 (length bytes) (omega arith)) refl
times_bytes (suc count) [] fits = rw (lt-leb (suc count) 0 (omega arith)) refl
times_bytes (suc count) (b ∷ bytes) fits =
    both (reads (number 8)) (read_times count (reads (number 8))) (bits_of (b ∷ bytes)) (bits_of bytes) (number_of (byte_bits b) ∷ [])
    (read-front (byte_bits b) (bits_of bytes) 8 refl)
    ∙ ap (onto (number_of (byte_bits b) ∷ [])) (times_bytes count bytes (λ i. fits (suc i)))
    ∙ one_more b (number_of (byte_bits b)) count bytes (byte b (fits 0))

pub so_many_there : (count : ℕ) (bytes : List ℕ) → count ≤ length bytes → so_many count bytes ≡ Some (take count bytes, bits_of (drop count bytes))
so_many_there count bytes enough = rw (le-leb count (length bytes) enough) refl

-- ---- bytes behind their count

pub counted_bytes : (count : ℕ) (bytes : List ℕ) → count < 256 → AreBytes bytes
    → reads (up_to 255 (number 8)) (bits_of (count ∷ bytes)) ≡ onto (count ∷ []) (so_many count bytes)
counted_bytes count bytes small fits =
    ap (λ o. o >>= read_counted 255 (reads (number 8))) (read-front (byte_bits count) (bits_of bytes) 8 refl)
    ∙ ap (λ n. read_counted 255 (reads (number 8)) (n ∷ [], bits_of bytes)) (byte count small)
    ∙ within where
      within : read_counted 255 (reads (number 8)) (count ∷ [], bits_of bytes) ≡ onto (count ∷ []) (so_many count bytes)
      within = rw (le-leb count 255 (omega arith)) (ap (onto (count ∷ [])) (times_bytes count bytes fits))

-- ---- bits of no meaning

pub void-front : (front rest : List Bool) (width : ℕ) → length front ≡ width → read_void width (front ++ rest) ≡ Some ([], rest)
void-front front rest width is =
    let enough : width ≤ length (front ++ rest) = omega (arith, length-append front rest) in
    rw (le-leb width (length (front ++ rest)) enough, ← is, drop-append_seam front rest) refl
