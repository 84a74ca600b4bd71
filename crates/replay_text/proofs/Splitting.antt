-- What the first space of a text says of its words.
use Rattle.std.proofs.Common.{◌≡◌, ◌<◌, ◌≤◌, ◌+◌, ◌==◌, ℕ, List, [], ◌∷◌, length, take, drop, ap, arith, cond, ltb, refl, inl, inr, Some, None, unwrap_or}
use Rattle.std.proofs.lemmas.Bool.{cases_lt, le-ltb, lt-ltb}
use Rattle.std.specs.List.{position_or_len}
use Rattle.std.proofs.lemmas.List.Splits.{length-slice_split, slice_split_first, slice_split_none}
use Rattle.std.proofs.lemmas.List.Sums.{fails_before_first}
use Rattle.replay_text.specs.Words.{words}

-- a text with a space: the word before it, and the words behind it
pub words-at_space : (text : List ℕ) (end : ℕ) → end ≡ position_or_len (λ byte. byte == 32) text → end < length text
    → words text ≡ take end text ∷ words (drop (end + 1) text)
words-at_space text end is within = rw is (slice_split_first (λ byte. byte == 32) text 0 (rw (← is) within))

-- a text without a space is one word
pub words-no_space : (text : List ℕ) → position_or_len (λ byte. byte == 32) text ≡ length text → words text ≡ text ∷ []
words-no_space text is = slice_split_none (λ byte. byte == 32) text
    (λ k d within. fails_before_first (λ byte. byte == 32) text k d (rw is within))

-- a text has one word at least
pub words-nil : (text : List ℕ) → words text ≡ [] → ⊥
words-nil text none = let count = ap length none in absurd (omega (arith, count, length-slice_split (λ byte. byte == 32) text))

-- what `position` and then `unwrap_or` give
pub place_or_end : (place end : ℕ) → place ≤ end → unwrap_or (cond (ltb place end) (Some place) None) end ≡ place
place_or_end place end within =
    elim (cases_lt place end) [
      | inl found ↦ rw (lt-ltb place end found) refl
      | inr missed ↦ rw (le-ltb place end missed) (omega arith)
    ]
