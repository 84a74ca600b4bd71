-- What the first word of a text says of its words.
use Rattle.std.proofs.Common.{◌≡◌, ◌≢◌, ◌<◌, ◌≤◌, ◌+◌, ◌==◌, ℕ, List, [], ◌∷◌, length, take, drop, get_or, ap, sym, ◌∙◌, arith, cond, ltb, refl, true, false, inl, inr, Some, None, unwrap_or, not, Bool, length-take, add-one}
use Rattle.std.proofs.lemmas.Bool.{cases_lt, le-ltb, lt-ltb, ne_eqb}
use Rattle.std.specs.List.{position_or_len, slice_split}
use Rattle.std.proofs.lemmas.List.Splits.{slice_split_first, slice_split_none}
use Rattle.std.proofs.lemmas.List.Sums.{fails_before_first, prefix_len-le-length, prefix_len_stops}
use Rattle.std.proofs.Math.Seq.{drop-cons, drop-length, take-length}
use Rattle.std.specs.List.{filter}
use Rattle.dsdl_text.specs.Words.{words_of}

-- what `position` and then `unwrap_or` give
pub place_or_end : (place end : ℕ) → place ≤ end → unwrap_or (cond (ltb place end) (Some place) None) end ≡ place
place_or_end place end within =
    elim (cases_lt place end) [
      | inl found ↦ rw (lt-ltb place end found) refl
      | inr missed ↦ rw (le-ltb place end missed) (omega arith)
    ]

kept : (word : List ℕ) (parts : List (List ℕ)) → 0 < length word
    → filter (λ part. ltb 0 (length part)) (word ∷ parts) ≡ word ∷ filter (λ part. ltb 0 (length part)) parts
kept word parts filled = rw (lt-ltb 0 (length word) filled) refl

-- a space in front of a text changes no word
after-space : (byte : ℕ) (rest : List ℕ) → (byte == 32) ≡ true → words_of (byte ∷ rest) ≡ words_of rest
after-space byte rest space = rw space refl

not-not : (b : Bool) → not b ≡ false → b ≡ true
not-not true e = refl
not-not false e = absurd (cc)

-- a text that begins with a word: the word, and the words behind it
words-front : (text : List ℕ) → 0 < position_or_len (λ byte. byte == 32) text
    → words_of text ≡ take (position_or_len (λ byte. byte == 32) text) text ∷ words_of (drop (position_or_len (λ byte. byte == 32) text) text)
words-front text filled =
    let end = position_or_len (λ byte. byte == 32) text in
    let within : end ≤ length text = prefix_len-le-length _ text in
    elim (cases_lt end (length text)) [
      | inl found ↦
          let split = slice_split_first (λ byte. byte == 32) text 0 found in
          let drop_first : drop end text ≡ get_or text end 0 ∷ drop (end + 1) text = rw add-one (drop-cons text end 0 found) in
          let at_end = not-not (get_or text end 0 == 32) (prefix_len_stops (λ byte. not (byte == 32)) text 0 found) in
          ap (filter (λ part. ltb 0 (length part))) split
          ∙ kept (take end text) (slice_split (λ byte. byte == 32) (drop (end + 1) text)) (omega (arith, length-take end text))
          ∙ ap (λ more. take end text ∷ more) (sym (rw drop_first (after-space (get_or text end 0) (drop (end + 1) text) at_end)))
      | inr missed ↦
          let all : end ≡ length text = omega arith in
          let whole = slice_split_none (λ byte. byte == 32) text (λ k d below. fails_before_first (λ byte. byte == 32) text k d (omega arith)) in
          ap (filter (λ part. ltb 0 (length part))) whole
          ∙ kept text [] (omega arith)
          ∙ rw (all, take-length, drop-length) refl
    ]

pub words-next : (text : List ℕ) (end : ℕ) → end ≡ position_or_len (λ byte. byte == 32) text
    → ((first : ℕ) (rest : List ℕ) → text ≡ first ∷ rest → first ≢ 32) → 0 < length text
    → words_of text ≡ take end text ∷ words_of (drop end text)
words-next [] end is front filled = absurd (omega arith)
words-next (first ∷ rest) end is front filled =
    rw is (words-front (first ∷ rest) (rw (ne_eqb first 32 (front first rest refl)) (omega arith)))
