-- Where the guard allows it, the Raft model allows it.
use Rattle.std.proofs.Common.{◌≡◌, inl, inr, ◌⊎◌, ℕ, zero, suc, ◌+◌, ◌<◌, ◌≤◌, List, [], ◌∷◌, ◌++◌, length, slice_index, take, refl, sym, ◌∙◌, ap, subst, arith}
use Rattle.std.specs.Prelude.{Bool, true, false, ◌==◌, ◌&&◌, not, if◌then◌else◌}
use Rattle.std.proofs.lemmas.List.{take_all, take_more}
use Rattle.can_frame.specs.Log.{last_term}
use Rattle.raft_core.specs.StoredPuts.{vote_of}
use Rattle.raft_log.specs.declared.stored.Stored.{Stored}
use Rattle.raft_model.specs.Decisions.{is_not_above}
use Rattle.raft_model.specs.Lists.{In, how_many}
use Rattle.raft_model.specs.Runs.{World}
use Rattle.raft_model.specs.Server.{Store, quorum}
use Rattle.raft_replaced.specs.Replacement.{MayBeCopied, backs, is_vote_for, stores_of}
use Rattle.store_audit.specs.Stores.{store_at}
use Rattle.cmd_replace.specs.Guard.{MayReplace, is_log_not_above, supporters, supports, voted}
use Rattle.cmd_replace.specs.Modelled.{HasTheStores, modelled}
use Rattle.cmd_replace.proofs.Majorities.{both, equal}

tell : (b : Bool) → (b ≡ true) ⊎ (b ≡ false)
tell true = inl refl
tell false = inr refl

abbrev one_if : Bool → ℕ
one_if b = if b then 1 else 0

one_for : (b : Bool) → b ≡ true → one_if b ≡ 1
one_for true e = refl
one_for false e = absurd (cc)

none_for : (b : Bool) → b ≡ false → one_if b ≡ 0
none_for true e = absurd (cc)
none_for false e = refl

count_append : (p : ℕ → Bool) (xs : List ℕ) (y : ℕ) → how_many p (xs ++ (y ∷ [])) ≡ how_many p xs + (if p y then 1 else 0)
count_append p [] y = omega arith
count_append p (x ∷ xs) y = omega (arith, count_append p xs y)

-- how the model compares a member's store with the leader's
abbrev backs_as : Store → Store → ℕ → Bool
backs_as store its leader = (store.term == its.term)
    && (is_vote_for store.vote leader && is_not_above (last_term store.log) (length store.log) (last_term its.log) (length its.log))

all_three : (a b c : Bool) → a ≡ true → b ≡ true → c ≡ true → (a && (b && c)) ≡ true
all_three true b c e f g = rw f g
all_three false b c e f g = absurd (cc)

vote_for : (vote leader : ℕ) → 1 ≤ leader → (vote == leader) ≡ true → is_vote_for (vote_of vote) leader ≡ true
vote_for zero leader low e = absurd (omega (arith, low, equal zero leader e))
vote_for (suc vote) leader low e = e

module _ (world : World) (ids : List ℕ) (lost : ℕ) (stores : List Stored) (place : ℕ) (has : HasTheStores world ids lost stores place)
    (may : MayReplace ids lost stores place) where
  abbrev leader : ℕ
  leader = slice_index ids place

  abbrev backing : ℕ → Bool
  backing = backs (stores_of world) lost leader

  stored : (k : ℕ) → k < length ids → supports ids lost stores place k ≡ true → stores_of world (slice_index ids k) ≡ modelled (store_at stores k)
  stored = has.supporting

  backs_too : (k : ℕ) → k < length ids → supports ids lost stores place k ≡ true → backing (slice_index ids k) ≡ true
  backs_too k low e =
      let front = both (voted ids lost stores (store_at stores place).term leader k)
      (is_log_not_above (store_at stores k).entries.items (store_at stores place).entries.items) e in
      let vote = both (not (slice_index ids k == lost)) ((store_at stores k).term == (store_at stores place).term && (store_at stores k).vote == leader) front.0 in
      let own = both ((store_at stores k).term == (store_at stores place).term) ((store_at stores k).vote == leader) vote.1 in
      let as_read : backs_as (modelled (store_at stores k)) (modelled (store_at stores place)) leader ≡ true
      = all_three ((store_at stores k).term == (store_at stores place).term) (is_vote_for (vote_of (store_at stores k).vote) leader)
      (is_log_not_above (store_at stores k).entries.items (store_at stores place).entries.items)
      own.0 (vote_for (store_at stores k).vote leader (has.named place may.elected.within) own.1) front.1 in
      let is : backs_as (stores_of world (slice_index ids k)) (stores_of world leader) leader ≡ true
      = subst (λ (s : Store). backs_as s (stores_of world leader) leader ≡ true) (sym (stored k low e))
      (subst (λ (s : Store). backs_as (modelled (store_at stores k)) s leader ≡ true) (sym (stored place may.elected.within may.elected.own)) as_read) in
      rw vote.0 is

  counted : (count : ℕ) → count ≤ length ids → supporters ids lost stores place count ≤ how_many backing (take count ids)
  counted zero low = omega arith
  counted (suc k) low =
      let inside : k < length ids = omega (arith, low) in
      let rest = counted k (omega (arith, low)) in
      let longer : how_many backing (take (k + 1) ids) ≡ how_many backing (take k ids) + (if backing (slice_index ids k) then 1 else 0)
      = ap (how_many backing) (take_more ids k 0 inside) ∙ count_append backing (take k ids) (slice_index ids k) in
      let same : k + 1 ≡ suc k = omega arith in
      let next : take (k + 1) ids ≡ take (suc k) ids = ap (λ (n : ℕ). take n ids) same in
      let longer2 : how_many backing (take (suc k) ids) ≡ how_many backing (take k ids) + (if backing (slice_index ids k) then 1 else 0)
      = sym (ap (how_many backing) next) ∙ longer in
      elim (tell (supports ids lost stores place k)) [
        | inl a ↦
            let b = backs_too k inside a in
            omega (arith, rest, longer2, one_for (supports ids lost stores place k) a, one_for (backing (slice_index ids k)) b)
        | inr a ↦ omega (arith, rest, longer2, none_for (supports ids lost stores place k) a)
      ]

  pub model_allows : In lost ids → MayBeCopied world lost leader
  model_allows listed = record {
    listed = subst (λ (l : List ℕ). In lost l) (sym has.members) listed;
    down = λ m i. has.down m (subst (λ (l : List ℕ). In m l) has.members i);
    own = backs_too place may.elected.within may.elected.own;
    majority =
        let all : take (length ids) ids ≡ ids = take_all (length ids) ids (omega arith) in
        let count : supporters ids lost stores place (length ids) ≤ how_many backing ids
        = subst (λ (l : List ℕ). supporters ids lost stores place (length ids) ≤ how_many backing l) all (counted (length ids) (omega arith)) in
        subst (λ (l : List ℕ). quorum l ≤ how_many backing l) (sym has.members) (omega (arith, count, may.elected.majority));
    committed =
        let same = stored place may.elected.within may.elected.own in
        ap (λ (s : Store). s.commit) same ∙ (may.committed ∙ sym (ap (λ (s : Store). length s.log) same));
  }
