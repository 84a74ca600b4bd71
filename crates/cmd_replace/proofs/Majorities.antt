-- Two majorities have a member in common.
use Rattle.std.proofs.Common.{◌≡◌, inl, inr, ℕ, zero, suc, ◌+◌, ◌≤◌, List, slice_index, refl, arith}
use Rattle.std.specs.Prelude.{Bool, true, false, ◌==◌, ◌&&◌, not, ◌⊎◌, if◌then◌else◌}
use Rattle.std.proofs.lemmas.Bool.Decides.{eqb_tells}
use Rattle.raft_log.specs.declared.stored.Stored.{Stored}
use Rattle.store_audit.specs.Stores.{store_at}
use Rattle.cmd_replace.specs.Guard.{is_log_not_above, supporters, supports, voted}

-- of a vote that is there
pub both : (a b : Bool) → (a && b) ≡ true → (a ≡ true) × (b ≡ true)
both true true e = (refl, refl)
both true false e = absurd (cc e)
both false b e = absurd (cc e)

pub equal : (a b : ℕ) → (a == b) ≡ true → a ≡ b
equal a b e = elim (eqb_tells a b) as (λ _. a ≡ b) [
  | inl t ↦ t.1
  | inr t ↦ absurd (cc (t.0, e))
]

module _ (ids : List ℕ) (lost : ℕ) (stores : List Stored) where
  term_of : (term node place : ℕ) → voted ids lost stores term node place ≡ true → (store_at stores place).term ≡ term
  term_of term node place e = equal (store_at stores place).term term
      (both ((store_at stores place).term == term) ((store_at stores place).vote == node)
      (both (not (slice_index ids place == lost)) ((store_at stores place).term == term && (store_at stores place).vote == node) e).1).0

  vote_of : (term node place : ℕ) → voted ids lost stores term node place ≡ true → (store_at stores place).vote ≡ node
  vote_of term node place e = equal (store_at stores place).vote node
      (both ((store_at stores place).term == term) ((store_at stores place).vote == node)
      (both (not (slice_index ids place == lost)) ((store_at stores place).term == term && (store_at stores place).vote == node) e).1).1

  vote_in : (leader place : ℕ) → supports ids lost stores leader place ≡ true
      → voted ids lost stores (store_at stores leader).term (slice_index ids leader) place ≡ true
  vote_in leader place e = (both (voted ids lost stores (store_at stores leader).term (slice_index ids leader) place)
      (is_log_not_above (store_at stores place).entries.items (store_at stores leader).entries.items) e).0

  -- who supports a member has its term, and its vote
  pub term_with : (leader place : ℕ) → supports ids lost stores leader place ≡ true → (store_at stores place).term ≡ (store_at stores leader).term
  term_with leader place e = term_of (store_at stores leader).term (slice_index ids leader) place (vote_in leader place e)

  pub vote_with : (leader place : ℕ) → supports ids lost stores leader place ≡ true → (store_at stores place).vote ≡ slice_index ids leader
  vote_with leader place e = vote_of (store_at stores leader).term (slice_index ids leader) place (vote_in leader place e)

  module _ (leader leader' : ℕ) where
    abbrev IsShared : Type 0
    IsShared = (place : ℕ) × (supports ids lost stores leader place ≡ true) × (supports ids lost stores leader' place ≡ true)

    one_more : (place few few' : ℕ) (a b : Bool) → supports ids lost stores leader place ≡ a → supports ids lost stores leader' place ≡ b → few + few' ≤ place
        → IsShared ⊎ ((few + (if a then 1 else 0)) + (few' + (if b then 1 else 0)) ≤ suc place)
    one_more place few few' true true is is' sum = inl (place, is, is')
    one_more place few few' true false is is' sum = inr (omega (arith, sum))
    one_more place few few' false true is is' sum = inr (omega (arith, sum))
    one_more place few few' false false is is' sum = inr (omega (arith, sum))

    -- a member supports both, or their supporters together are no more than the members
    pub shared_or_few : (count : ℕ) → IsShared ⊎ (supporters ids lost stores leader count + supporters ids lost stores leader' count ≤ count)
    shared_or_few zero = inr (omega arith)
    shared_or_few (suc place) = elim (shared_or_few place) as (λ _. IsShared ⊎ (supporters ids lost stores leader (suc place) + supporters ids lost stores leader' (suc place) ≤ suc place)) [
      | inl shared ↦ inl shared
      | inr few ↦ one_more place (supporters ids lost stores leader place) (supporters ids lost stores leader' place)
          (supports ids lost stores leader place) (supports ids lost stores leader' place) refl refl few
    ]
