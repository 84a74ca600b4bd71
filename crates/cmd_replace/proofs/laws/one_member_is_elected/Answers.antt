use Rattle.std.proofs.Common.{◌≡◌, inl, inr, ℕ, List, length, slice_index, sym, ◌∙◌, arith}
use Rattle.raft_log.specs.declared.stored.Stored.{Stored}
use Rattle.store_audit.specs.Stores.{store_at}
use Rattle.cmd_replace.specs.Guard.{IsElected}
use Rattle.cmd_replace.proofs.Majorities.{shared_or_few, term_with, vote_with}
use Rattle.cmd_replace.proofs.laws.one_member_is_elected.Goals as goal

module _ (ids : List ℕ) (lost : ℕ) (stores : List Stored) (a b : ℕ) (first : IsElected ids lost stores a) (second : IsElected ids lost stores b) where
  abbrev term : ℕ → ℕ
  term place = (store_at stores place).term

  abbrev node : ℕ → ℕ
  node place = slice_index ids place

  one : (node a ≡ node b) × (term a ≡ term b)
  one = elim (shared_or_few ids lost stores a b (length ids)) as (λ _. (node a ≡ node b) × (term a ≡ term b)) [
    | inl s ↦ (
      sym (vote_with ids lost stores a s.0 s.1) ∙ vote_with ids lost stores b s.0 s.2,
      sym (term_with ids lost stores a s.0 s.1) ∙ term_with ids lost stores b s.0 s.2,
    )
    | inr few ↦ absurd (omega (arith, few, first.majority, second.majority))
  ]

pub returns-clause-node : goal.returns-clause-node
returns-clause-node c = λ ids lost stores a b first second. (one ids lost stores a b first second).0

pub returns-clause-term : goal.returns-clause-term
returns-clause-term c = λ ids lost stores a b first second. (one ids lost stores a b first second).1
