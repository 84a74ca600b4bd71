-- The response of GetNodeInfo.
use Rattle.std.proofs.Common.{◌≡◌, ◌<◌, ◌≤◌, ◌+◌, ◌/◌, ◌%◌, ℕ, List, [], ◌∷◌, ◌++◌, length, take, drop, true, false, nat_le, Some, None, refl, ap, sym, ◌∙◌, subst, arith, inl, inr, length-append, length-take, length-drop}
use Rattle.std.specs.Prelude.{slice_index_or}
use Rattle.std.specs.Option.{option_map}
use Rattle.std.specs.Int.{from_le_bytes, w16, w32, w64}
use Rattle.std.proofs.lemmas.Bool.{cases_lt, le-leb, lt-leb}
use Rattle.std.proofs.lemmas.Bool.Decides.{leb_tells}
use Rattle.std.proofs.lemmas.List.{append-nil, drop-drop}
use Rattle.dsdl_codec.specs.NodeInfo.{node_info_of}
use Rattle.dsdl_codec.specs.Numbers.{node_info_numbers}
use Rattle.dsdl_text_codec_laws.specs.Fields.{hardware_version_fields, node_info_fields, node_status_fields, software_version_fields}
use Rattle.dsdl_text_codec_laws.specs.Laws.{AreBytes, GiveNumbers}
use Rattle.dsdl_text.specs.Layout.{Layout, nothing, number, pair, exactly, up_to, joined}
use Rattle.dsdl_text.specs.Numbers.{◌>>=◌, Reading, bits_of, byte_bits, number_of, numbers_of, read_part, reads, whole}
use Rattle.dsdl_text.proofs.BytesOfBits.{read-front}
use Rattle.dsdl_text_codec_laws.proofs.Elements.{counted_bytes, later, length-bits_of, so_many, so_many_there, spread_is, times_bytes}
use Rattle.dsdl_text_codec_laws.proofs.Least.{too_short_behind}
use Rattle.dsdl_text_codec_laws.proofs.NodeStatuses.{status_pieces}
use Rattle.dsdl_text_codec_laws.proofs.Pieces.{both, followed, in_type, onto, padded}
use Rattle.dsdl_text_codec_laws.proofs.Tails.{last_bytes, listed}
use Rattle.dsdl_text_codec_laws.proofs.Words.{byte, double_word, half_word, high_2, low_3, middle_3, word}

-- ---- the types in it

abbrev status_numbers : (a b c d s e f : ℕ) → List ℕ
status_numbers a b c d s e f = from_le_bytes w32 (a ∷ b ∷ c ∷ d ∷ []) ∷ s / 64 ∷ s / 8 % 8 ∷ s % 8 ∷ from_le_bytes w16 (e ∷ f ∷ []) ∷ []

status_read : (a b c d s e f : ℕ) (rest : List ℕ) → AreBytes (a ∷ b ∷ c ∷ d ∷ s ∷ e ∷ f ∷ rest)
    → reads (joined node_status_fields) (bits_of (a ∷ b ∷ c ∷ d ∷ s ∷ e ∷ f ∷ rest)) ≡ Some (status_numbers a b c d s e f, bits_of rest)
status_read a b c d s e f rest fits =
    in_type (bits_of (a ∷ b ∷ c ∷ d ∷ []) ∷ status_pieces s e f) (bits_of rest)
    ∙ (let one = word a b c d (fits 0) (fits 1) (fits 2) (fits 3) in
    let two = high_2 s (fits 4) in
    let three = middle_3 s (fits 4) in
    let four = low_3 s (fits 4) in
    let five = half_word e f (fits 5) (fits 6) in cc)

abbrev software_numbers : (v w o g h i j k l m n p q r t : ℕ) → List ℕ
software_numbers v w o g h i j k l m n p q r t = v ∷ w ∷ o ∷ from_le_bytes w32 (g ∷ h ∷ i ∷ j ∷ []) ∷ from_le_bytes w64 (k ∷ l ∷ m ∷ n ∷ p ∷ q ∷ r ∷ t ∷ []) ∷ []

software_read : (v w o g h i j k l m n p q r t : ℕ) (rest : List ℕ) → AreBytes (v ∷ w ∷ o ∷ g ∷ h ∷ i ∷ j ∷ k ∷ l ∷ m ∷ n ∷ p ∷ q ∷ r ∷ t ∷ rest)
    → reads (joined software_version_fields) (bits_of (v ∷ w ∷ o ∷ g ∷ h ∷ i ∷ j ∷ k ∷ l ∷ m ∷ n ∷ p ∷ q ∷ r ∷ t ∷ rest)) ≡ Some (software_numbers v w o g h i j k l m n p q r t, bits_of rest)
software_read v w o g h i j k l m n p q r t rest fits =
    in_type (bits_of (v ∷ []) ∷ bits_of (w ∷ []) ∷ bits_of (o ∷ []) ∷ bits_of (g ∷ h ∷ i ∷ j ∷ []) ∷ bits_of (k ∷ l ∷ m ∷ n ∷ p ∷ q ∷ r ∷ t ∷ []) ∷ []) (bits_of rest)
    ∙ (let one = byte v (fits 0) in
    let two = byte w (fits 1) in
    let three = byte o (fits 2) in
    let four = word g h i j (fits 3) (fits 4) (fits 5) (fits 6) in
    let five = double_word k l m n p q r t (fits 7) (fits 8) (fits 9) (fits 10) (fits 11) (fits 12) (fits 13) (fits 14) in cc)

-- up to the certificate and its count
abbrev certified : Layout
certified = pair (up_to 255 (number 8)) nothing

hardware_begins : (x y u0 u1 u2 u3 u4 u5 u6 u7 u8 u9 u10 u11 u12 u13 u14 u15 count : ℕ) (more : List ℕ) → AreBytes (x ∷ y ∷ u0 ∷ u1 ∷ u2 ∷ u3 ∷ u4 ∷ u5 ∷ u6 ∷ u7 ∷ u8 ∷ u9 ∷ u10 ∷ u11 ∷ u12 ∷ u13 ∷ u14 ∷ u15 ∷ count ∷ more)
    → reads (joined hardware_version_fields) (bits_of (x ∷ y ∷ u0 ∷ u1 ∷ u2 ∷ u3 ∷ u4 ∷ u5 ∷ u6 ∷ u7 ∷ u8 ∷ u9 ∷ u10 ∷ u11 ∷ u12 ∷ u13 ∷ u14 ∷ u15 ∷ count ∷ more)) ≡ onto (x ∷ y ∷ u0 ∷ u1 ∷ u2 ∷ u3 ∷ u4 ∷ u5 ∷ u6 ∷ u7 ∷ u8 ∷ u9 ∷ u10 ∷ u11 ∷ u12 ∷ u13 ∷ u14 ∷ u15 ∷ []) (reads certified (bits_of (count ∷ more)))
hardware_begins x y u0 u1 u2 u3 u4 u5 u6 u7 u8 u9 u10 u11 u12 u13 u14 u15 count more fits =
    let uid = u0 ∷ u1 ∷ u2 ∷ u3 ∷ u4 ∷ u5 ∷ u6 ∷ u7 ∷ u8 ∷ u9 ∷ u10 ∷ u11 ∷ u12 ∷ u13 ∷ u14 ∷ u15 ∷ [] in
    both (reads (number 8)) (reads (pair (number 8) (pair (exactly 16 (number 8)) certified))) (bits_of (x ∷ y ∷ u0 ∷ u1 ∷ u2 ∷ u3 ∷ u4 ∷ u5 ∷ u6 ∷ u7 ∷ u8 ∷ u9 ∷ u10 ∷ u11 ∷ u12 ∷ u13 ∷ u14 ∷ u15 ∷ count ∷ more)) (bits_of (y ∷ u0 ∷ u1 ∷ u2 ∷ u3 ∷ u4 ∷ u5 ∷ u6 ∷ u7 ∷ u8 ∷ u9 ∷ u10 ∷ u11 ∷ u12 ∷ u13 ∷ u14 ∷ u15 ∷ count ∷ more))
    (number_of (byte_bits x) ∷ []) (read-front (byte_bits x) (bits_of (y ∷ u0 ∷ u1 ∷ u2 ∷ u3 ∷ u4 ∷ u5 ∷ u6 ∷ u7 ∷ u8 ∷ u9 ∷ u10 ∷ u11 ∷ u12 ∷ u13 ∷ u14 ∷ u15 ∷ count ∷ more)) 8 refl)
    ∙ ap (onto (number_of (byte_bits x) ∷ [])) (
    both (reads (number 8)) (reads (pair (exactly 16 (number 8)) certified)) (bits_of (y ∷ u0 ∷ u1 ∷ u2 ∷ u3 ∷ u4 ∷ u5 ∷ u6 ∷ u7 ∷ u8 ∷ u9 ∷ u10 ∷ u11 ∷ u12 ∷ u13 ∷ u14 ∷ u15 ∷ count ∷ more)) (bits_of (u0 ∷ u1 ∷ u2 ∷ u3 ∷ u4 ∷ u5 ∷ u6 ∷ u7 ∷ u8 ∷ u9 ∷ u10 ∷ u11 ∷ u12 ∷ u13 ∷ u14 ∷ u15 ∷ count ∷ more))
    (number_of (byte_bits y) ∷ []) (read-front (byte_bits y) (bits_of (u0 ∷ u1 ∷ u2 ∷ u3 ∷ u4 ∷ u5 ∷ u6 ∷ u7 ∷ u8 ∷ u9 ∷ u10 ∷ u11 ∷ u12 ∷ u13 ∷ u14 ∷ u15 ∷ count ∷ more)) 8 refl)
    ∙ ap (onto (number_of (byte_bits y) ∷ [])) (
    both (reads (exactly 16 (number 8))) (reads certified) (bits_of (u0 ∷ u1 ∷ u2 ∷ u3 ∷ u4 ∷ u5 ∷ u6 ∷ u7 ∷ u8 ∷ u9 ∷ u10 ∷ u11 ∷ u12 ∷ u13 ∷ u14 ∷ u15 ∷ count ∷ more)) (bits_of (count ∷ more)) uid
    (times_bytes 16 (u0 ∷ u1 ∷ u2 ∷ u3 ∷ u4 ∷ u5 ∷ u6 ∷ u7 ∷ u8 ∷ u9 ∷ u10 ∷ u11 ∷ u12 ∷ u13 ∷ u14 ∷ u15 ∷ count ∷ more) (later 2 (x ∷ y ∷ u0 ∷ u1 ∷ u2 ∷ u3 ∷ u4 ∷ u5 ∷ u6 ∷ u7 ∷ u8 ∷ u9 ∷ u10 ∷ u11 ∷ u12 ∷ u13 ∷ u14 ∷ u15 ∷ count ∷ more) fits) ∙ so_many_there 16 (u0 ∷ u1 ∷ u2 ∷ u3 ∷ u4 ∷ u5 ∷ u6 ∷ u7 ∷ u8 ∷ u9 ∷ u10 ∷ u11 ∷ u12 ∷ u13 ∷ u14 ∷ u15 ∷ count ∷ more) (omega arith))))
    ∙ named (byte x (fits 0)) (byte y (fits 1)) (reads certified (bits_of (count ∷ more))) where
      named : {z1 z2 : ℕ} → z1 ≡ x → z2 ≡ y → (read : Reading) → onto (z1 ∷ []) (onto (z2 ∷ []) (onto (u0 ∷ u1 ∷ u2 ∷ u3 ∷ u4 ∷ u5 ∷ u6 ∷ u7 ∷ u8 ∷ u9 ∷ u10 ∷ u11 ∷ u12 ∷ u13 ∷ u14 ∷ u15 ∷ []) read)) ≡ onto (x ∷ y ∷ u0 ∷ u1 ∷ u2 ∷ u3 ∷ u4 ∷ u5 ∷ u6 ∷ u7 ∷ u8 ∷ u9 ∷ u10 ∷ u11 ∷ u12 ∷ u13 ∷ u14 ∷ u15 ∷ []) read
      named one two None = refl
      named one two (Some z) = rw (one, two) refl

certificate : (count : ℕ) (more : List ℕ) → count < 256 → AreBytes more → count ≤ length more
    → reads certified (bits_of (count ∷ more)) ≡ Some (count ∷ take count more, bits_of (drop count more))
certificate count more small fits enough =
    both (reads (up_to 255 (number 8))) (reads nothing) (bits_of (count ∷ more)) (bits_of (drop count more)) (count ∷ take count more)
    (counted_bytes count more small fits ∙ ap (onto (count ∷ [])) (so_many_there count more enough))
    ∙ ap (λ numbers. Some (count ∷ numbers, bits_of (drop count more))) (append-nil (take count more))

cut_certificate : (count : ℕ) (more : List ℕ) → count < 256 → AreBytes more → length more < count
    → reads certified (bits_of (count ∷ more)) ≡ None
cut_certificate count more small fits few =
    let cut : so_many count more ≡ None = rw (lt-leb count (length more) few) refl in
    ap (λ read. followed read (reads nothing)) (counted_bytes count more small fits ∙ ap (onto (count ∷ [])) cut)

-- ---- the value

abbrev InfoAt : List ℕ → Type 0
InfoAt bytes = (read_part node_info_fields (bits_of bytes) >>= whole) ≡ option_map node_info_numbers (node_info_of bytes)

short_info : (bytes : List ℕ) → length bytes < 41 → InfoAt bytes
unfolding node_info_of
short_info bytes few =
    let size = length-bits_of bytes in
    let last = up_to 80 (number 8) ∷ [] in
    let hardware = joined hardware_version_fields in
    let none = too_short_behind (joined node_status_fields) 272 (read_part (joined software_version_fields ∷ hardware ∷ last)) (λ one less.
    too_short_behind (joined software_version_fields) 152 (read_part (hardware ∷ last)) (λ two lesser.
    too_short_behind hardware 0 (read_part last) (λ three least. absurd (omega arith)) two (omega arith))
    one (omega arith)) (bits_of bytes) (omega arith) in
    let small : nat_le (41 + slice_index_or bytes 40 0) (length bytes) ≡ false = lt-leb _ _ (omega arith) in
    ap (λ read. read >>= whole) none ∙ rw small refl

module _ (a b c d s e f v w o g h i j k l m n p q r t x y u0 u1 u2 u3 u4 u5 u6 u7 u8 u9 u10 u11 u12 u13 u14 u15 count : ℕ) (more : List ℕ) (fits : AreBytes (a ∷ b ∷ c ∷ d ∷ s ∷ e ∷ f ∷ v ∷ w ∷ o ∷ g ∷ h ∷ i ∷ j ∷ k ∷ l ∷ m ∷ n ∷ p ∷ q ∷ r ∷ t ∷ x ∷ y ∷ u0 ∷ u1 ∷ u2 ∷ u3 ∷ u4 ∷ u5 ∷ u6 ∷ u7 ∷ u8 ∷ u9 ∷ u10 ∷ u11 ∷ u12 ∷ u13 ∷ u14 ∷ u15 ∷ count ∷ more)) where
  abbrev behind_status : List ℕ
  behind_status = v ∷ w ∷ o ∷ g ∷ h ∷ i ∷ j ∷ k ∷ l ∷ m ∷ n ∷ p ∷ q ∷ r ∷ t ∷ x ∷ y ∷ u0 ∷ u1 ∷ u2 ∷ u3 ∷ u4 ∷ u5 ∷ u6 ∷ u7 ∷ u8 ∷ u9 ∷ u10 ∷ u11 ∷ u12 ∷ u13 ∷ u14 ∷ u15 ∷ count ∷ more

  abbrev behind_software : List ℕ
  behind_software = x ∷ y ∷ u0 ∷ u1 ∷ u2 ∷ u3 ∷ u4 ∷ u5 ∷ u6 ∷ u7 ∷ u8 ∷ u9 ∷ u10 ∷ u11 ∷ u12 ∷ u13 ∷ u14 ∷ u15 ∷ count ∷ more

  abbrev name_is : List ℕ
  name_is = drop count more

  -- the numbers up to the certificate
  abbrev with_status : Reading → Reading
  with_status read = onto (status_numbers a b c d s e f) (onto (software_numbers v w o g h i j k l m n p q r t) read)

  more_fits : AreBytes more
  more_fits = later 41 (a ∷ b ∷ c ∷ d ∷ s ∷ e ∷ f ∷ v ∷ w ∷ o ∷ g ∷ h ∷ i ∷ j ∷ k ∷ l ∷ m ∷ n ∷ p ∷ q ∷ r ∷ t ∷ x ∷ y ∷ u0 ∷ u1 ∷ u2 ∷ u3 ∷ u4 ∷ u5 ∷ u6 ∷ u7 ∷ u8 ∷ u9 ∷ u10 ∷ u11 ∷ u12 ∷ u13 ∷ u14 ∷ u15 ∷ count ∷ more) fits

  begins : read_part node_info_fields (bits_of (a ∷ b ∷ c ∷ d ∷ s ∷ e ∷ f ∷ v ∷ w ∷ o ∷ g ∷ h ∷ i ∷ j ∷ k ∷ l ∷ m ∷ n ∷ p ∷ q ∷ r ∷ t ∷ x ∷ y ∷ u0 ∷ u1 ∷ u2 ∷ u3 ∷ u4 ∷ u5 ∷ u6 ∷ u7 ∷ u8 ∷ u9 ∷ u10 ∷ u11 ∷ u12 ∷ u13 ∷ u14 ∷ u15 ∷ count ∷ more))
      ≡ with_status (followed (onto (x ∷ y ∷ u0 ∷ u1 ∷ u2 ∷ u3 ∷ u4 ∷ u5 ∷ u6 ∷ u7 ∷ u8 ∷ u9 ∷ u10 ∷ u11 ∷ u12 ∷ u13 ∷ u14 ∷ u15 ∷ []) (reads certified (bits_of (count ∷ more)))) (read_part (up_to 80 (number 8) ∷ [])))
  begins =
      both (reads (joined node_status_fields)) (read_part (joined software_version_fields ∷ joined hardware_version_fields ∷ up_to 80 (number 8) ∷ []))
      (bits_of (a ∷ b ∷ c ∷ d ∷ s ∷ e ∷ f ∷ v ∷ w ∷ o ∷ g ∷ h ∷ i ∷ j ∷ k ∷ l ∷ m ∷ n ∷ p ∷ q ∷ r ∷ t ∷ x ∷ y ∷ u0 ∷ u1 ∷ u2 ∷ u3 ∷ u4 ∷ u5 ∷ u6 ∷ u7 ∷ u8 ∷ u9 ∷ u10 ∷ u11 ∷ u12 ∷ u13 ∷ u14 ∷ u15 ∷ count ∷ more)) (bits_of behind_status) (status_numbers a b c d s e f) (status_read a b c d s e f behind_status fits)
      ∙ ap (onto (status_numbers a b c d s e f)) (
      both (reads (joined software_version_fields)) (read_part (joined hardware_version_fields ∷ up_to 80 (number 8) ∷ []))
      (bits_of behind_status) (bits_of behind_software) (software_numbers v w o g h i j k l m n p q r t) (software_read v w o g h i j k l m n p q r t behind_software (later 7 (a ∷ b ∷ c ∷ d ∷ s ∷ e ∷ f ∷ v ∷ w ∷ o ∷ g ∷ h ∷ i ∷ j ∷ k ∷ l ∷ m ∷ n ∷ p ∷ q ∷ r ∷ t ∷ x ∷ y ∷ u0 ∷ u1 ∷ u2 ∷ u3 ∷ u4 ∷ u5 ∷ u6 ∷ u7 ∷ u8 ∷ u9 ∷ u10 ∷ u11 ∷ u12 ∷ u13 ∷ u14 ∷ u15 ∷ count ∷ more) fits))
      ∙ ap (λ read. onto (software_numbers v w o g h i j k l m n p q r t) (followed read (read_part (up_to 80 (number 8) ∷ []))))
      (hardware_begins x y u0 u1 u2 u3 u4 u5 u6 u7 u8 u9 u10 u11 u12 u13 u14 u15 count more (later 22 (a ∷ b ∷ c ∷ d ∷ s ∷ e ∷ f ∷ v ∷ w ∷ o ∷ g ∷ h ∷ i ∷ j ∷ k ∷ l ∷ m ∷ n ∷ p ∷ q ∷ r ∷ t ∷ x ∷ y ∷ u0 ∷ u1 ∷ u2 ∷ u3 ∷ u4 ∷ u5 ∷ u6 ∷ u7 ∷ u8 ∷ u9 ∷ u10 ∷ u11 ∷ u12 ∷ u13 ∷ u14 ∷ u15 ∷ count ∷ more) fits)))

  abbrev hardware_numbers_are : List ℕ
  hardware_numbers_are = x ∷ y ∷ u0 ∷ u1 ∷ u2 ∷ u3 ∷ u4 ∷ u5 ∷ u6 ∷ u7 ∷ u8 ∷ u9 ∷ u10 ∷ u11 ∷ u12 ∷ u13 ∷ u14 ∷ u15 ∷ count ∷ take count more

  ends : count ≤ length more → read_part node_info_fields (bits_of (a ∷ b ∷ c ∷ d ∷ s ∷ e ∷ f ∷ v ∷ w ∷ o ∷ g ∷ h ∷ i ∷ j ∷ k ∷ l ∷ m ∷ n ∷ p ∷ q ∷ r ∷ t ∷ x ∷ y ∷ u0 ∷ u1 ∷ u2 ∷ u3 ∷ u4 ∷ u5 ∷ u6 ∷ u7 ∷ u8 ∷ u9 ∷ u10 ∷ u11 ∷ u12 ∷ u13 ∷ u14 ∷ u15 ∷ count ∷ more)) ≡ with_status (onto hardware_numbers_are (listed 80 name_is))
  ends enough =
      begins
      ∙ ap (λ read. with_status (followed (onto (x ∷ y ∷ u0 ∷ u1 ∷ u2 ∷ u3 ∷ u4 ∷ u5 ∷ u6 ∷ u7 ∷ u8 ∷ u9 ∷ u10 ∷ u11 ∷ u12 ∷ u13 ∷ u14 ∷ u15 ∷ []) read) (read_part (up_to 80 (number 8) ∷ [])))) (certificate count more (fits 40) more_fits enough)
      ∙ ap (λ read. with_status (onto hardware_numbers_are read)) (last_bytes 80 name_is (later count more more_fits))

  abbrev as_numbers : ℕ → List ℕ → List ℕ
  as_numbers size name = status_numbers a b c d s e f ++ software_numbers v w o g h i j k l m n p q r t ++ (x ∷ y ∷ u0 ∷ u1 ∷ u2 ∷ u3 ∷ u4 ∷ u5 ∷ u6 ∷ u7 ∷ u8 ∷ u9 ∷ u10 ∷ u11 ∷ u12 ∷ u13 ∷ u14 ∷ u15 ∷ size ∷ take count more) ++ length name ∷ name

  value : count ≤ length more → length name_is ≤ 80 → option_map node_info_numbers (node_info_of (a ∷ b ∷ c ∷ d ∷ s ∷ e ∷ f ∷ v ∷ w ∷ o ∷ g ∷ h ∷ i ∷ j ∷ k ∷ l ∷ m ∷ n ∷ p ∷ q ∷ r ∷ t ∷ x ∷ y ∷ u0 ∷ u1 ∷ u2 ∷ u3 ∷ u4 ∷ u5 ∷ u6 ∷ u7 ∷ u8 ∷ u9 ∷ u10 ∷ u11 ∷ u12 ∷ u13 ∷ u14 ∷ u15 ∷ count ∷ more)) ≡ Some (as_numbers count name_is)
  unfolding node_info_of
  value enough few =
      let least : nat_le (41 + slice_index_or (a ∷ b ∷ c ∷ d ∷ s ∷ e ∷ f ∷ v ∷ w ∷ o ∷ g ∷ h ∷ i ∷ j ∷ k ∷ l ∷ m ∷ n ∷ p ∷ q ∷ r ∷ t ∷ x ∷ y ∷ u0 ∷ u1 ∷ u2 ∷ u3 ∷ u4 ∷ u5 ∷ u6 ∷ u7 ∷ u8 ∷ u9 ∷ u10 ∷ u11 ∷ u12 ∷ u13 ∷ u14 ∷ u15 ∷ count ∷ more) 40 0) (length (a ∷ b ∷ c ∷ d ∷ s ∷ e ∷ f ∷ v ∷ w ∷ o ∷ g ∷ h ∷ i ∷ j ∷ k ∷ l ∷ m ∷ n ∷ p ∷ q ∷ r ∷ t ∷ x ∷ y ∷ u0 ∷ u1 ∷ u2 ∷ u3 ∷ u4 ∷ u5 ∷ u6 ∷ u7 ∷ u8 ∷ u9 ∷ u10 ∷ u11 ∷ u12 ∷ u13 ∷ u14 ∷ u15 ∷ count ∷ more)) ≡ true = le-leb _ _ (omega arith) in
      let most : nat_le (length (a ∷ b ∷ c ∷ d ∷ s ∷ e ∷ f ∷ v ∷ w ∷ o ∷ g ∷ h ∷ i ∷ j ∷ k ∷ l ∷ m ∷ n ∷ p ∷ q ∷ r ∷ t ∷ x ∷ y ∷ u0 ∷ u1 ∷ u2 ∷ u3 ∷ u4 ∷ u5 ∷ u6 ∷ u7 ∷ u8 ∷ u9 ∷ u10 ∷ u11 ∷ u12 ∷ u13 ∷ u14 ∷ u15 ∷ count ∷ more)) (121 + slice_index_or (a ∷ b ∷ c ∷ d ∷ s ∷ e ∷ f ∷ v ∷ w ∷ o ∷ g ∷ h ∷ i ∷ j ∷ k ∷ l ∷ m ∷ n ∷ p ∷ q ∷ r ∷ t ∷ x ∷ y ∷ u0 ∷ u1 ∷ u2 ∷ u3 ∷ u4 ∷ u5 ∷ u6 ∷ u7 ∷ u8 ∷ u9 ∷ u10 ∷ u11 ∷ u12 ∷ u13 ∷ u14 ∷ u15 ∷ count ∷ more) 40 0) ≡ true = le-leb _ _ (omega (arith, length-drop count more)) in
      let opened : option_map node_info_numbers (node_info_of (a ∷ b ∷ c ∷ d ∷ s ∷ e ∷ f ∷ v ∷ w ∷ o ∷ g ∷ h ∷ i ∷ j ∷ k ∷ l ∷ m ∷ n ∷ p ∷ q ∷ r ∷ t ∷ x ∷ y ∷ u0 ∷ u1 ∷ u2 ∷ u3 ∷ u4 ∷ u5 ∷ u6 ∷ u7 ∷ u8 ∷ u9 ∷ u10 ∷ u11 ∷ u12 ∷ u13 ∷ u14 ∷ u15 ∷ count ∷ more)) ≡ Some (as_numbers (length (take count more)) (drop (19 + count) behind_software)) =
      rw (least, most) refl in
      let size : length (take count more) ≡ count = omega (arith, length-take count more) in
      opened ∙ ap (λ n. Some (as_numbers n (drop (19 + count) behind_software))) size ∙ ap (λ name. Some (as_numbers count name)) (sym (drop-drop count 19 behind_software))

  fitting : count ≤ length more → length name_is ≤ 80 → InfoAt (a ∷ b ∷ c ∷ d ∷ s ∷ e ∷ f ∷ v ∷ w ∷ o ∷ g ∷ h ∷ i ∷ j ∷ k ∷ l ∷ m ∷ n ∷ p ∷ q ∷ r ∷ t ∷ x ∷ y ∷ u0 ∷ u1 ∷ u2 ∷ u3 ∷ u4 ∷ u5 ∷ u6 ∷ u7 ∷ u8 ∷ u9 ∷ u10 ∷ u11 ∷ u12 ∷ u13 ∷ u14 ∷ u15 ∷ count ∷ more)
  fitting enough few =
      let listed_is : listed 80 name_is ≡ Some (length name_is ∷ name_is, []) = rw (le-leb (length name_is) 80 few) refl in
      ap (λ read. read >>= whole) (ends enough)
      ∙ ap (λ read. with_status (onto hardware_numbers_are read) >>= whole) listed_is
      ∙ padded (as_numbers count name_is) [] (omega arith) (omega (arith, length-append (take count more) (length name_is ∷ name_is), length-take count more, fits 40))
      ∙ sym (value enough few)

  too_long : count ≤ length more → 80 < length name_is → InfoAt (a ∷ b ∷ c ∷ d ∷ s ∷ e ∷ f ∷ v ∷ w ∷ o ∷ g ∷ h ∷ i ∷ j ∷ k ∷ l ∷ m ∷ n ∷ p ∷ q ∷ r ∷ t ∷ x ∷ y ∷ u0 ∷ u1 ∷ u2 ∷ u3 ∷ u4 ∷ u5 ∷ u6 ∷ u7 ∷ u8 ∷ u9 ∷ u10 ∷ u11 ∷ u12 ∷ u13 ∷ u14 ∷ u15 ∷ count ∷ more)
  unfolding node_info_of
  too_long enough many =
      let none : listed 80 name_is ≡ None = rw (lt-leb (length name_is) 80 many) refl in
      let least : nat_le (41 + slice_index_or (a ∷ b ∷ c ∷ d ∷ s ∷ e ∷ f ∷ v ∷ w ∷ o ∷ g ∷ h ∷ i ∷ j ∷ k ∷ l ∷ m ∷ n ∷ p ∷ q ∷ r ∷ t ∷ x ∷ y ∷ u0 ∷ u1 ∷ u2 ∷ u3 ∷ u4 ∷ u5 ∷ u6 ∷ u7 ∷ u8 ∷ u9 ∷ u10 ∷ u11 ∷ u12 ∷ u13 ∷ u14 ∷ u15 ∷ count ∷ more) 40 0) (length (a ∷ b ∷ c ∷ d ∷ s ∷ e ∷ f ∷ v ∷ w ∷ o ∷ g ∷ h ∷ i ∷ j ∷ k ∷ l ∷ m ∷ n ∷ p ∷ q ∷ r ∷ t ∷ x ∷ y ∷ u0 ∷ u1 ∷ u2 ∷ u3 ∷ u4 ∷ u5 ∷ u6 ∷ u7 ∷ u8 ∷ u9 ∷ u10 ∷ u11 ∷ u12 ∷ u13 ∷ u14 ∷ u15 ∷ count ∷ more)) ≡ true = le-leb _ _ (omega arith) in
      let most : nat_le (length (a ∷ b ∷ c ∷ d ∷ s ∷ e ∷ f ∷ v ∷ w ∷ o ∷ g ∷ h ∷ i ∷ j ∷ k ∷ l ∷ m ∷ n ∷ p ∷ q ∷ r ∷ t ∷ x ∷ y ∷ u0 ∷ u1 ∷ u2 ∷ u3 ∷ u4 ∷ u5 ∷ u6 ∷ u7 ∷ u8 ∷ u9 ∷ u10 ∷ u11 ∷ u12 ∷ u13 ∷ u14 ∷ u15 ∷ count ∷ more)) (121 + slice_index_or (a ∷ b ∷ c ∷ d ∷ s ∷ e ∷ f ∷ v ∷ w ∷ o ∷ g ∷ h ∷ i ∷ j ∷ k ∷ l ∷ m ∷ n ∷ p ∷ q ∷ r ∷ t ∷ x ∷ y ∷ u0 ∷ u1 ∷ u2 ∷ u3 ∷ u4 ∷ u5 ∷ u6 ∷ u7 ∷ u8 ∷ u9 ∷ u10 ∷ u11 ∷ u12 ∷ u13 ∷ u14 ∷ u15 ∷ count ∷ more) 40 0) ≡ false = lt-leb _ _ (omega (arith, length-drop count more)) in
      ap (λ read. read >>= whole) (ends enough)
      ∙ ap (λ read. with_status (onto hardware_numbers_are read) >>= whole) none
      ∙ rw (least, most) refl

  cut : length more < count → InfoAt (a ∷ b ∷ c ∷ d ∷ s ∷ e ∷ f ∷ v ∷ w ∷ o ∷ g ∷ h ∷ i ∷ j ∷ k ∷ l ∷ m ∷ n ∷ p ∷ q ∷ r ∷ t ∷ x ∷ y ∷ u0 ∷ u1 ∷ u2 ∷ u3 ∷ u4 ∷ u5 ∷ u6 ∷ u7 ∷ u8 ∷ u9 ∷ u10 ∷ u11 ∷ u12 ∷ u13 ∷ u14 ∷ u15 ∷ count ∷ more)
  unfolding node_info_of
  cut few =
      let least : nat_le (41 + slice_index_or (a ∷ b ∷ c ∷ d ∷ s ∷ e ∷ f ∷ v ∷ w ∷ o ∷ g ∷ h ∷ i ∷ j ∷ k ∷ l ∷ m ∷ n ∷ p ∷ q ∷ r ∷ t ∷ x ∷ y ∷ u0 ∷ u1 ∷ u2 ∷ u3 ∷ u4 ∷ u5 ∷ u6 ∷ u7 ∷ u8 ∷ u9 ∷ u10 ∷ u11 ∷ u12 ∷ u13 ∷ u14 ∷ u15 ∷ count ∷ more) 40 0) (length (a ∷ b ∷ c ∷ d ∷ s ∷ e ∷ f ∷ v ∷ w ∷ o ∷ g ∷ h ∷ i ∷ j ∷ k ∷ l ∷ m ∷ n ∷ p ∷ q ∷ r ∷ t ∷ x ∷ y ∷ u0 ∷ u1 ∷ u2 ∷ u3 ∷ u4 ∷ u5 ∷ u6 ∷ u7 ∷ u8 ∷ u9 ∷ u10 ∷ u11 ∷ u12 ∷ u13 ∷ u14 ∷ u15 ∷ count ∷ more)) ≡ false = lt-leb _ _ (omega arith) in
      ap (λ read. read >>= whole) (begins
      ∙ ap (λ read. with_status (followed (onto (x ∷ y ∷ u0 ∷ u1 ∷ u2 ∷ u3 ∷ u4 ∷ u5 ∷ u6 ∷ u7 ∷ u8 ∷ u9 ∷ u10 ∷ u11 ∷ u12 ∷ u13 ∷ u14 ∷ u15 ∷ []) read) (read_part (up_to 80 (number 8) ∷ [])))) (cut_certificate count more (fits 40) more_fits few))
      ∙ rw least refl

  long_info : InfoAt (a ∷ b ∷ c ∷ d ∷ s ∷ e ∷ f ∷ v ∷ w ∷ o ∷ g ∷ h ∷ i ∷ j ∷ k ∷ l ∷ m ∷ n ∷ p ∷ q ∷ r ∷ t ∷ x ∷ y ∷ u0 ∷ u1 ∷ u2 ∷ u3 ∷ u4 ∷ u5 ∷ u6 ∷ u7 ∷ u8 ∷ u9 ∷ u10 ∷ u11 ∷ u12 ∷ u13 ∷ u14 ∷ u15 ∷ count ∷ more)
  long_info = elim (cases_lt (length more) count) [
    | inl few ↦ cut few
    | inr enough ↦ elim (leb_tells (length name_is) 80) [
      | inl short ↦ fitting enough short.1
      | inr long ↦ too_long enough long.1
    ]
  ]

node_info : (bytes : List ℕ) → AreBytes bytes → InfoAt bytes
node_info bytes fits = elim (cases_lt (length bytes) 41) [
  | inl few ↦ short_info bytes few
  | inr long ↦ subst (λ b. AreBytes b → InfoAt b) (spread_is 41 bytes long) (long_info _ _ _ _ _ _ _ _ _ _ _ _ _ _ _ _ _ _ _ _ _ _ _ _ _ _ _ _ _ _ _ _ _ _ _ _ _ _ _ _ _ _) fits
]

pub node_infos : GiveNumbers node_info_fields node_info_numbers node_info_of
unfolding numbers_of
node_infos = node_info
