-- A request of RequestVote, and the two answers of a term and a flag.
use Rattle.std.proofs.Common.{◌≡◌, ℕ, List, [], ◌∷◌, Bool, Option, Some, None, refl, ◌∙◌, arith}
use Rattle.std.specs.Option.{option_map}
use Rattle.dsdl_codec.specs.AppendAnswer.{append_answer_of}
use Rattle.dsdl_codec.specs.Numbers.{append_answer_numbers, verdict_numbers, vote_answer_numbers, vote_request_numbers}
use Rattle.dsdl_codec.specs.Verdict.{verdict_of}
use Rattle.dsdl_codec.specs.VoteAnswer.{vote_answer_of}
use Rattle.dsdl_codec.specs.VoteRequest.{vote_request_of}
use Rattle.dsdl_text_codec_laws.specs.Fields.{verdict_fields, vote_request_fields}
use Rattle.dsdl_text_codec_laws.specs.Laws.{AreBytes, GiveNumbers}
use Rattle.dsdl_text.specs.Numbers.{◌>>=◌, bits_of, has_bit, numbers_of, read_part, whole}
use Rattle.dsdl_text_codec_laws.proofs.Pieces.{all_padded, all_too_long}
use Rattle.dsdl_text_codec_laws.proofs.Words.{byte, high_flag, word}

-- ---- a request

vote_request : (bytes : List ℕ) → AreBytes bytes
    → (read_part vote_request_fields (bits_of bytes) >>= whole) ≡ option_map vote_request_numbers (vote_request_of bytes)
vote_request [] fits = refl
vote_request (a ∷ []) fits = refl
vote_request (a ∷ b ∷ []) fits = refl
vote_request (a ∷ b ∷ c ∷ []) fits = refl
vote_request (a ∷ b ∷ c ∷ d ∷ []) fits = refl
vote_request (a ∷ b ∷ c ∷ d ∷ e ∷ []) fits = refl
vote_request (a ∷ b ∷ c ∷ d ∷ e ∷ f ∷ []) fits = refl
vote_request (a ∷ b ∷ c ∷ d ∷ e ∷ f ∷ g ∷ []) fits = refl
vote_request (a ∷ b ∷ c ∷ d ∷ e ∷ f ∷ g ∷ h ∷ []) fits = refl
vote_request (a ∷ b ∷ c ∷ d ∷ e ∷ f ∷ g ∷ h ∷ i ∷ []) fits =
    all_padded (bits_of (a ∷ b ∷ c ∷ d ∷ [])) (bits_of (e ∷ f ∷ g ∷ h ∷ []) ∷ bits_of (i ∷ []) ∷ []) [] (omega arith) (omega arith)
    ∙ (let one = word a b c d (fits 0) (fits 1) (fits 2) (fits 3) in
    let two = word e f g h (fits 4) (fits 5) (fits 6) (fits 7) in
    let three = byte i (fits 8) in cc)
vote_request (a ∷ b ∷ c ∷ d ∷ e ∷ f ∷ g ∷ h ∷ i ∷ j ∷ more) fits =
    all_too_long (bits_of (a ∷ b ∷ c ∷ d ∷ [])) (bits_of (e ∷ f ∷ g ∷ h ∷ []) ∷ bits_of (i ∷ []) ∷ []) (bits_of (j ∷ more)) (omega arith)

pub vote_requests : GiveNumbers vote_request_fields vote_request_numbers vote_request_of
unfolding numbers_of
vote_requests = vote_request

-- ---- a term and a flag

verdict : (bytes : List ℕ) → AreBytes bytes
    → (read_part verdict_fields (bits_of bytes) >>= whole) ≡ option_map (λ v. verdict_numbers v.0 v.1) (verdict_of bytes)
verdict [] fits = refl
verdict (a ∷ []) fits = refl
verdict (a ∷ b ∷ []) fits = refl
verdict (a ∷ b ∷ c ∷ []) fits = refl
verdict (a ∷ b ∷ c ∷ d ∷ []) fits = refl
verdict (a ∷ b ∷ c ∷ d ∷ s ∷ []) fits =
    all_padded (bits_of (a ∷ b ∷ c ∷ d ∷ [])) ((has_bit 128 s ∷ []) ∷ [])
    (has_bit 64 s ∷ has_bit 32 s ∷ has_bit 16 s ∷ has_bit 8 s ∷ has_bit 4 s ∷ has_bit 2 s ∷ has_bit 1 s ∷ []) (omega arith) (omega arith)
    ∙ (let one = word a b c d (fits 0) (fits 1) (fits 2) (fits 3) in
    let two = high_flag s (fits 4) in cc)
verdict (a ∷ b ∷ c ∷ d ∷ s ∷ e ∷ more) fits =
    all_too_long (bits_of (a ∷ b ∷ c ∷ d ∷ [])) ((has_bit 128 s ∷ []) ∷ [])
    (has_bit 64 s ∷ has_bit 32 s ∷ has_bit 16 s ∷ has_bit 8 s ∷ has_bit 4 s ∷ has_bit 2 s ∷ has_bit 1 s ∷ bits_of (e ∷ more)) (omega arith)

pub vote_answers : GiveNumbers verdict_fields vote_answer_numbers vote_answer_of
unfolding numbers_of
vote_answers bytes fits = verdict bytes fits ∙ go (verdict_of bytes) where
  go : (o : Option (ℕ × Bool)) → option_map (λ v. verdict_numbers v.0 v.1) o ≡ option_map vote_answer_numbers (option_map (λ v. record { term = v.0; granted = v.1 }) o)
  go None = refl
  go (Some v) = refl

pub append_answers : GiveNumbers verdict_fields append_answer_numbers append_answer_of
unfolding numbers_of
append_answers bytes fits = verdict bytes fits ∙ go (verdict_of bytes) where
  go : (o : Option (ℕ × Bool)) → option_map (λ v. verdict_numbers v.0 v.1) o ≡ option_map append_answer_numbers (option_map (λ v. record { term = v.0; success = v.1 }) o)
  go None = refl
  go (Some v) = refl
