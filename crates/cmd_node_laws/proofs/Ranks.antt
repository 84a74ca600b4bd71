-- Ranks of members.
use Rattle.std.proofs.Common.{◌≡◌, ℕ, ◌≤◌, ◌<◌, ◌+◌, ◌*◌, ◌/◌, List, [], ◌∷◌, length, refl, inl, inr, arith}
use Rattle.std.specs.Prelude.{◌-◌, max}
use Rattle.std.proofs.Math.Nat.{div-le_of_le-mul, div-mul-le_self, add-mul}
use Rattle.std.proofs.lemmas.Nat.{le-div}
use Rattle.raft_model.specs.Lists.{In}
use Rattle.can_frame.specs.Sizes.{most_members}
use Rattle.can_frame.specs.Timing.{election_spread, election_wait}
use Rattle.cmd_node.specs.Words.{least_word, next_words, own_words, rank, word_of}

-- a higher node ID has no lower rank
rank_le : (members : List ℕ) (low high : ℕ) → low ≤ high → rank members low ≤ rank members high
rank_le [] low high le = omega arith
rank_le (m ∷ ms) low high le = let rest = rank_le ms low high le in grind arith

pub rank_below : (members : List ℕ) (low high : ℕ) → In low members → low < high → rank members low + 1 ≤ rank members high
rank_below [] low high is lt = elim is [ ]
rank_below (m ∷ ms) low high (inl is) lt = let rest = rank_le ms low high (omega (arith, lt)) in grind arith
rank_below (m ∷ ms) low high (inr in_rest) lt = let rest = rank_below ms low high in_rest lt in grind arith

rank_most : (members : List ℕ) (id : ℕ) → rank members id ≤ length members
rank_most [] id = omega arith
rank_most (m ∷ ms) id = let rest = rank_most ms id in grind arith

pub rank_within : (members : List ℕ) (id : ℕ) → In id members → rank members id + 1 ≤ length members
rank_within [] id is = elim is [ ]
rank_within (m ∷ ms) id (inl is) = let rest = rank_most ms id in grind arith
rank_within (m ∷ ms) id (inr in_rest) = let rest = rank_within ms id in_rest in grind arith

-- what is shared out among up to five members: the shares of two ranks
module _ (d : ℕ) (least : 1 ≤ d) (most : d ≤ 4) where
  pub share_within : (r : ℕ) → r ≤ d → r * 1000 / d ≤ 1000
  share_within r le =
      let less : r * 1000 ≤ d * 1000 = omega (arith, le) in
      div-le_of_le-mul d less

  pub shares_apart : (r s : ℕ) → r + 1 ≤ s → r * 1000 / d + 250 ≤ s * 1000 / d
  shares_apart r s le =
      let share = r * 1000 / d in
      let whole : share * d ≤ r * 1000 = div-mul-le_self (r * 1000) d in
      let both : (share + 250) * d ≡ share * d + 250 * d = add-mul share 250 d in
      le-div (share + 250) (s * 1000) d least (omega (arith, whole, both, most, le))

pub one_word : (members : List ℕ) (id : ℕ) → 0 < length members → next_words (own_words members id) ≡ own_words members id
one_word [] id some = let none : ⊥ = omega (arith, some) in elim none [ ]
one_word (m ∷ ms) id some = refl

word_within : (members : List ℕ) (id : ℕ) → In id members → length members ≤ most_members → word_of (own_words members id) ≤ 2000
word_within [] id is few = elim is [ ]
word_within (m ∷ ms) id is few =
    let within = rank_within (m ∷ ms) id is in
    let share = share_within (max 1 (length (m ∷ ms) - 1)) (grind arith) (grind arith) (rank (m ∷ ms) id) (grind arith) in
    omega (arith, share)

word_from : (members : List ℕ) (id : ℕ) → In id members → least_word ≤ word_of (own_words members id)
word_from [] id is = elim is [ ]
word_from (m ∷ ms) id is = omega arith

pub word_below : (members : List ℕ) (id : ℕ) → In id members → length members ≤ most_members → word_of (own_words members id) < election_spread
word_below members id is few = let within = word_within members id is few in omega (arith, within)

pub words_shorter : (members : List ℕ) (low high : ℕ) → In low members → In high members → length members ≤ most_members →
    election_wait + word_of (own_words members high) + 2000 ≤ 2 * (election_wait + word_of (own_words members low))
words_shorter members low high is_low is_high few =
    let within = word_within members high is_high few in
    let from = word_from members low is_low in
    omega (arith, within, from)

pub words_apart : (members : List ℕ) (low high : ℕ) → In low members → In high members → low < high → length members ≤ most_members →
    word_of (own_words members low) + 250 ≤ word_of (own_words members high)
words_apart [] low high is_low is_high lt few = elim is_low [ ]
words_apart (m ∷ ms) low high is_low is_high lt few =
    let apart = shares_apart (max 1 (length (m ∷ ms) - 1)) (grind arith) (grind arith) (rank (m ∷ ms) low) (rank (m ∷ ms) high)
    (rank_below (m ∷ ms) low high is_low lt) in omega (arith, apart)
