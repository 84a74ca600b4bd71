-- A request of AppendEntries, with an entry or without.
use Rattle.std.proofs.Common.{◌≡◌, ◌<◌, ◌≤◌, ◌+◌, ◌%◌, ℕ, suc, List, [], ◌∷◌, ◌++◌, length, Bool, false, nat_eq, Option, Some, None, refl, ap, ◌∙◌, subst, arith, inl, inr}
use Rattle.std.specs.Option.{option_map}
use Rattle.std.specs.Int.{from_le_bytes, w32}
use Rattle.std.proofs.lemmas.Bool.{cases_lt, le-ltb, ne_eqb}
use Rattle.can_frame.specs.declared.entry.Entry.{Entry}
use Rattle.dsdl_codec.specs.AppendRequest.{append_request_of}
use Rattle.dsdl_codec.specs.Entry.{optional_entry_of}
use Rattle.dsdl_codec.specs.Numbers.{append_request_numbers, optional_entry_numbers}
use Rattle.dsdl_text_codec_laws.specs.Fields.{append_request_fields, entry_fields}
use Rattle.dsdl_text_codec_laws.specs.Laws.{AreBytes, GiveNumbers}
use Rattle.dsdl_text.specs.Layout.{nothing, void, number, pair, exactly, up_to, joined}
use Rattle.dsdl_text.specs.Numbers.{◌>>=◌, Reading, bits_of, has_bit, number_of, numbers_of, read_part, read_tail, reads, told_tail, whole}
use Rattle.dsdl_text.proofs.BytesOfBits.{read-front}
use Rattle.dsdl_text_codec_laws.proofs.Elements.{later, length-bits_of, so_many_there, spread_is, times_bytes, void-front}
use Rattle.dsdl_text_codec_laws.proofs.Least.{too_short}
use Rattle.dsdl_text_codec_laws.proofs.Pieces.{both, in_front, onto}
use Rattle.dsdl_text_codec_laws.proofs.Words.{byte, low_7, word}

-- ---- an entry

abbrev low_bits : ℕ → List Bool
low_bits n = has_bit 64 n ∷ has_bit 32 n ∷ has_bit 16 n ∷ has_bit 8 n ∷ has_bit 4 n ∷ has_bit 2 n ∷ has_bit 1 n ∷ []

entry_read : (a b c d u0 u1 u2 u3 u4 u5 u6 u7 u8 u9 u10 u11 u12 u13 u14 u15 n : ℕ) (left : List ℕ) → AreBytes (a ∷ b ∷ c ∷ d ∷ u0 ∷ u1 ∷ u2 ∷ u3 ∷ u4 ∷ u5 ∷ u6 ∷ u7 ∷ u8 ∷ u9 ∷ u10 ∷ u11 ∷ u12 ∷ u13 ∷ u14 ∷ u15 ∷ n ∷ left)
    → reads (joined entry_fields) (bits_of (a ∷ b ∷ c ∷ d ∷ u0 ∷ u1 ∷ u2 ∷ u3 ∷ u4 ∷ u5 ∷ u6 ∷ u7 ∷ u8 ∷ u9 ∷ u10 ∷ u11 ∷ u12 ∷ u13 ∷ u14 ∷ u15 ∷ n ∷ left))
    ≡ Some (from_le_bytes w32 (a ∷ b ∷ c ∷ d ∷ []) ∷ u0 ∷ u1 ∷ u2 ∷ u3 ∷ u4 ∷ u5 ∷ u6 ∷ u7 ∷ u8 ∷ u9 ∷ u10 ∷ u11 ∷ u12 ∷ u13 ∷ u14 ∷ u15 ∷ n % 128 ∷ [], bits_of left)
entry_read a b c d u0 u1 u2 u3 u4 u5 u6 u7 u8 u9 u10 u11 u12 u13 u14 u15 n left fits =
    let uid = u0 ∷ u1 ∷ u2 ∷ u3 ∷ u4 ∷ u5 ∷ u6 ∷ u7 ∷ u8 ∷ u9 ∷ u10 ∷ u11 ∷ u12 ∷ u13 ∷ u14 ∷ u15 ∷ [] in
    let term = bits_of (a ∷ b ∷ c ∷ d ∷ []) in
    let node = pair (number 7) nothing in
    both (reads (number 32)) (reads (pair (exactly 16 (number 8)) (pair (void 1) node))) (term ++ bits_of (u0 ∷ u1 ∷ u2 ∷ u3 ∷ u4 ∷ u5 ∷ u6 ∷ u7 ∷ u8 ∷ u9 ∷ u10 ∷ u11 ∷ u12 ∷ u13 ∷ u14 ∷ u15 ∷ n ∷ left)) (bits_of (u0 ∷ u1 ∷ u2 ∷ u3 ∷ u4 ∷ u5 ∷ u6 ∷ u7 ∷ u8 ∷ u9 ∷ u10 ∷ u11 ∷ u12 ∷ u13 ∷ u14 ∷ u15 ∷ n ∷ left))
    (number_of term ∷ []) (read-front term (bits_of (u0 ∷ u1 ∷ u2 ∷ u3 ∷ u4 ∷ u5 ∷ u6 ∷ u7 ∷ u8 ∷ u9 ∷ u10 ∷ u11 ∷ u12 ∷ u13 ∷ u14 ∷ u15 ∷ n ∷ left)) 32 refl)
    ∙ ap (onto (number_of term ∷ [])) (
    both (reads (exactly 16 (number 8))) (reads (pair (void 1) node)) (bits_of (u0 ∷ u1 ∷ u2 ∷ u3 ∷ u4 ∷ u5 ∷ u6 ∷ u7 ∷ u8 ∷ u9 ∷ u10 ∷ u11 ∷ u12 ∷ u13 ∷ u14 ∷ u15 ∷ n ∷ left)) (bits_of (n ∷ left)) uid
    (times_bytes 16 (u0 ∷ u1 ∷ u2 ∷ u3 ∷ u4 ∷ u5 ∷ u6 ∷ u7 ∷ u8 ∷ u9 ∷ u10 ∷ u11 ∷ u12 ∷ u13 ∷ u14 ∷ u15 ∷ n ∷ left) (later 4 (a ∷ b ∷ c ∷ d ∷ u0 ∷ u1 ∷ u2 ∷ u3 ∷ u4 ∷ u5 ∷ u6 ∷ u7 ∷ u8 ∷ u9 ∷ u10 ∷ u11 ∷ u12 ∷ u13 ∷ u14 ∷ u15 ∷ n ∷ left) fits) ∙ so_many_there 16 (u0 ∷ u1 ∷ u2 ∷ u3 ∷ u4 ∷ u5 ∷ u6 ∷ u7 ∷ u8 ∷ u9 ∷ u10 ∷ u11 ∷ u12 ∷ u13 ∷ u14 ∷ u15 ∷ n ∷ left) (omega arith))
    ∙ ap (onto uid) (
    both (reads (void 1)) (reads node) (bits_of (n ∷ left)) (low_bits n ++ bits_of left) [] (void-front (has_bit 128 n ∷ []) (low_bits n ++ bits_of left) 1 refl)
    ∙ ap (onto []) (
    both (reads (number 7)) (reads nothing) (low_bits n ++ bits_of left) (bits_of left) (number_of (low_bits n) ∷ [])
    (read-front (low_bits n) (bits_of left) 7 refl))))
    ∙ ap (λ m. Some (m ∷ u0 ∷ u1 ∷ u2 ∷ u3 ∷ u4 ∷ u5 ∷ u6 ∷ u7 ∷ u8 ∷ u9 ∷ u10 ∷ u11 ∷ u12 ∷ u13 ∷ u14 ∷ u15 ∷ number_of (low_bits n) ∷ [], bits_of left)) (word a b c d (fits 0) (fits 1) (fits 2) (fits 3))
    ∙ ap (λ m. Some (from_le_bytes w32 (a ∷ b ∷ c ∷ d ∷ []) ∷ u0 ∷ u1 ∷ u2 ∷ u3 ∷ u4 ∷ u5 ∷ u6 ∷ u7 ∷ u8 ∷ u9 ∷ u10 ∷ u11 ∷ u12 ∷ u13 ∷ u14 ∷ u15 ∷ m ∷ [], bits_of left)) (low_7 n (fits 20))

-- ---- one element at the end

tail_none : (read : List Bool → Reading) (most : ℕ) (bits : List Bool) → 8 ≤ length bits → read bits ≡ None → read_tail (suc most) read bits ≡ None
tail_none read most bits long is =
    rw (le-ltb (length bits) 8 long) (ap (λ o. o >>= λ x. read_tail most read x.1 >>= λ y. Some (y.0 + 1, x.0 ++ y.1, y.2)) is)

tail_one : (read : List Bool → Reading) (most : ℕ) (bits rest : List Bool) (numbers : List ℕ) → 8 ≤ length bits → read bits ≡ Some (numbers, rest)
    → read_tail (suc most) read bits ≡ (read_tail most read rest >>= λ y. Some (y.0 + 1, numbers ++ y.1, y.2))
tail_one read most bits rest numbers long is =
    rw (le-ltb (length bits) 8 long) (ap (λ o. o >>= λ x. read_tail most read x.1 >>= λ y. Some (y.0 + 1, x.0 ++ y.1, y.2)) is)

tail_over : (read : List Bool → Reading) (bits : List Bool) → 8 ≤ length bits → read_tail 0 read bits ≡ None
tail_over read bits long = rw (le-ltb (length bits) 8 long) refl

-- four numbers, and a tail of one entry at most
abbrev entry_behind : ℕ → ℕ → ℕ → ℕ → List ℕ → Option (List ℕ)
entry_behind p q r s rest = onto (p ∷ q ∷ r ∷ s ∷ []) (told_tail (read_tail 1 (reads (joined entry_fields)) (bits_of rest))) >>= whole

abbrev entry_numbered : ℕ → ℕ → ℕ → ℕ → List ℕ → Option (List ℕ)
entry_numbered p q r s rest = option_map (λ e. p ∷ q ∷ r ∷ s ∷ optional_entry_numbers e) (optional_entry_of rest)

short_entry : (p q r s a b c d : ℕ) (more : List ℕ) → length more < 17
    → entry_behind p q r s (a ∷ b ∷ c ∷ d ∷ more) ≡ entry_numbered p q r s (a ∷ b ∷ c ∷ d ∷ more)
short_entry p q r s a b c d more few =
    let bits = bits_of (a ∷ b ∷ c ∷ d ∷ more) in
    let size = length-bits_of (a ∷ b ∷ c ∷ d ∷ more) in
    let other : nat_eq (length more) 17 ≡ false = ne_eqb (length more) 17 (λ is. absurd (omega arith)) in
    let none = tail_none (reads (joined entry_fields)) 0 bits (omega arith) (too_short (joined entry_fields) bits (omega arith)) in
    ap (λ t. onto (p ∷ q ∷ r ∷ s ∷ []) (told_tail t) >>= whole) none ∙ rw other refl

whole_entry : (p q r s a b c d u0 u1 u2 u3 u4 u5 u6 u7 u8 u9 u10 u11 u12 u13 u14 u15 n : ℕ) (left : List ℕ) → AreBytes (a ∷ b ∷ c ∷ d ∷ u0 ∷ u1 ∷ u2 ∷ u3 ∷ u4 ∷ u5 ∷ u6 ∷ u7 ∷ u8 ∷ u9 ∷ u10 ∷ u11 ∷ u12 ∷ u13 ∷ u14 ∷ u15 ∷ n ∷ left)
    → entry_behind p q r s (a ∷ b ∷ c ∷ d ∷ u0 ∷ u1 ∷ u2 ∷ u3 ∷ u4 ∷ u5 ∷ u6 ∷ u7 ∷ u8 ∷ u9 ∷ u10 ∷ u11 ∷ u12 ∷ u13 ∷ u14 ∷ u15 ∷ n ∷ left) ≡ entry_numbered p q r s (a ∷ b ∷ c ∷ d ∷ u0 ∷ u1 ∷ u2 ∷ u3 ∷ u4 ∷ u5 ∷ u6 ∷ u7 ∷ u8 ∷ u9 ∷ u10 ∷ u11 ∷ u12 ∷ u13 ∷ u14 ∷ u15 ∷ n ∷ left)
whole_entry p q r s a b c d u0 u1 u2 u3 u4 u5 u6 u7 u8 u9 u10 u11 u12 u13 u14 u15 n [] fits =
    ap (λ t. onto (p ∷ q ∷ r ∷ s ∷ []) (told_tail t) >>= whole) (
    tail_one (reads (joined entry_fields)) 0 (bits_of (a ∷ b ∷ c ∷ d ∷ u0 ∷ u1 ∷ u2 ∷ u3 ∷ u4 ∷ u5 ∷ u6 ∷ u7 ∷ u8 ∷ u9 ∷ u10 ∷ u11 ∷ u12 ∷ u13 ∷ u14 ∷ u15 ∷ n ∷ [])) [] (from_le_bytes w32 (a ∷ b ∷ c ∷ d ∷ []) ∷ u0 ∷ u1 ∷ u2 ∷ u3 ∷ u4 ∷ u5 ∷ u6 ∷ u7 ∷ u8 ∷ u9 ∷ u10 ∷ u11 ∷ u12 ∷ u13 ∷ u14 ∷ u15 ∷ n % 128 ∷ [])
    (omega arith) (entry_read a b c d u0 u1 u2 u3 u4 u5 u6 u7 u8 u9 u10 u11 u12 u13 u14 u15 n [] fits))
whole_entry p q r s a b c d u0 u1 u2 u3 u4 u5 u6 u7 u8 u9 u10 u11 u12 u13 u14 u15 n (l ∷ left) fits =
    let other : nat_eq (length (u0 ∷ u1 ∷ u2 ∷ u3 ∷ u4 ∷ u5 ∷ u6 ∷ u7 ∷ u8 ∷ u9 ∷ u10 ∷ u11 ∷ u12 ∷ u13 ∷ u14 ∷ u15 ∷ n ∷ l ∷ left)) 17 ≡ false = ne_eqb (length (u0 ∷ u1 ∷ u2 ∷ u3 ∷ u4 ∷ u5 ∷ u6 ∷ u7 ∷ u8 ∷ u9 ∷ u10 ∷ u11 ∷ u12 ∷ u13 ∷ u14 ∷ u15 ∷ n ∷ l ∷ left)) 17 (λ is. absurd (omega arith)) in
    ap (λ t. onto (p ∷ q ∷ r ∷ s ∷ []) (told_tail t) >>= whole) (
    tail_one (reads (joined entry_fields)) 0 (bits_of (a ∷ b ∷ c ∷ d ∷ u0 ∷ u1 ∷ u2 ∷ u3 ∷ u4 ∷ u5 ∷ u6 ∷ u7 ∷ u8 ∷ u9 ∷ u10 ∷ u11 ∷ u12 ∷ u13 ∷ u14 ∷ u15 ∷ n ∷ l ∷ left)) (bits_of (l ∷ left)) (from_le_bytes w32 (a ∷ b ∷ c ∷ d ∷ []) ∷ u0 ∷ u1 ∷ u2 ∷ u3 ∷ u4 ∷ u5 ∷ u6 ∷ u7 ∷ u8 ∷ u9 ∷ u10 ∷ u11 ∷ u12 ∷ u13 ∷ u14 ∷ u15 ∷ n % 128 ∷ [])
    (omega arith) (entry_read a b c d u0 u1 u2 u3 u4 u5 u6 u7 u8 u9 u10 u11 u12 u13 u14 u15 n (l ∷ left) fits)
    ∙ ap (λ t. t >>= λ y. Some (y.0 + 1, (from_le_bytes w32 (a ∷ b ∷ c ∷ d ∷ []) ∷ u0 ∷ u1 ∷ u2 ∷ u3 ∷ u4 ∷ u5 ∷ u6 ∷ u7 ∷ u8 ∷ u9 ∷ u10 ∷ u11 ∷ u12 ∷ u13 ∷ u14 ∷ u15 ∷ n % 128 ∷ []) ++ y.1, y.2))
    (tail_over (reads (joined entry_fields)) (bits_of (l ∷ left)) (omega arith)))
    ∙ rw other refl

entries : (p q r s : ℕ) (rest : List ℕ) → AreBytes rest → entry_behind p q r s rest ≡ entry_numbered p q r s rest
entries p q r s [] fits = refl
entries p q r s (a ∷ []) fits = refl
entries p q r s (a ∷ b ∷ []) fits = refl
entries p q r s (a ∷ b ∷ c ∷ []) fits = refl
entries p q r s (a ∷ b ∷ c ∷ d ∷ more) fits = elim (cases_lt (length more) 17) [
  | inl few ↦ short_entry p q r s a b c d more few
  | inr enough ↦
      subst (λ m. AreBytes (a ∷ b ∷ c ∷ d ∷ m) → entry_behind p q r s (a ∷ b ∷ c ∷ d ∷ m) ≡ entry_numbered p q r s (a ∷ b ∷ c ∷ d ∷ m))
      (spread_is 17 more enough) (whole_entry p q r s a b c d _ _ _ _ _ _ _ _ _ _ _ _ _ _ _ _ _ _) fits
]

-- ---- the request

append_request : (bytes : List ℕ) → AreBytes bytes
    → (read_part append_request_fields (bits_of bytes) >>= whole) ≡ option_map append_request_numbers (append_request_of bytes)
append_request [] fits = refl
append_request (a ∷ []) fits = refl
append_request (a ∷ b ∷ []) fits = refl
append_request (a ∷ b ∷ c ∷ []) fits = refl
append_request (a ∷ b ∷ c ∷ d ∷ []) fits = refl
append_request (a ∷ b ∷ c ∷ d ∷ e ∷ []) fits = refl
append_request (a ∷ b ∷ c ∷ d ∷ e ∷ f ∷ []) fits = refl
append_request (a ∷ b ∷ c ∷ d ∷ e ∷ f ∷ g ∷ []) fits = refl
append_request (a ∷ b ∷ c ∷ d ∷ e ∷ f ∷ g ∷ h ∷ []) fits = refl
append_request (a ∷ b ∷ c ∷ d ∷ e ∷ f ∷ g ∷ h ∷ i ∷ []) fits = refl
append_request (a ∷ b ∷ c ∷ d ∷ e ∷ f ∷ g ∷ h ∷ i ∷ j ∷ rest) fits =
    let one = word a b c d (fits 0) (fits 1) (fits 2) (fits 3) in
    let two = word e f g h (fits 4) (fits 5) (fits 6) (fits 7) in
    ap (λ read. read >>= whole) (in_front (bits_of (a ∷ b ∷ c ∷ d ∷ []) ∷ bits_of (e ∷ f ∷ g ∷ h ∷ []) ∷ bits_of (i ∷ []) ∷ bits_of (j ∷ []) ∷ [])
    (up_to 1 (joined entry_fields)) [] (bits_of rest))
    ∙ entries (number_of (bits_of (a ∷ b ∷ c ∷ d ∷ []))) (number_of (bits_of (e ∷ f ∷ g ∷ h ∷ []))) (number_of (bits_of (i ∷ []))) (number_of (bits_of (j ∷ [])))
    rest (later 10 (a ∷ b ∷ c ∷ d ∷ e ∷ f ∷ g ∷ h ∷ i ∷ j ∷ rest) fits)
    ∙ go one two (byte i (fits 8)) (byte j (fits 9)) (optional_entry_of rest) where
      go : {p q r s : ℕ} → p ≡ from_le_bytes w32 (a ∷ b ∷ c ∷ d ∷ []) → q ≡ from_le_bytes w32 (e ∷ f ∷ g ∷ h ∷ []) → r ≡ i → s ≡ j → (o : Option (Option Entry))
          → option_map (λ e. p ∷ q ∷ r ∷ s ∷ optional_entry_numbers e) o ≡ option_map append_request_numbers (option_map
          (λ entry. record {
            term = from_le_bytes w32 (a ∷ b ∷ c ∷ d ∷ []);
            prev_term = from_le_bytes w32 (e ∷ f ∷ g ∷ h ∷ []);
            prev_index = i;
            commit = j;
            entry = entry;
          }) o)
      go one two three four None = refl
      go one two three four (Some entry) = rw (one, two, three, four) refl

pub append_requests : GiveNumbers append_request_fields append_request_numbers append_request_of
unfolding numbers_of
append_requests = append_request
