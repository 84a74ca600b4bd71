-- The tick of Raft, with the member's list and moments.
use Rattle.std.proofs.Common.{◌≡◌, ℕ, ◌-◌, ◌≤◌, Bool, List, [], ◌∷◌, length, take, drop, get_or, refl, sym, ap, subst, ◌∙◌, arith, take_all, Option, nat_eq}
use Rattle.alloc_handlers.proofs.Words.{AllocatorState, Durable, Fault, Ghosts, MakesMoves, Member, Move, Raft, StandsFor, counted_at, given_tick, knows_all, members_of, moves_of_tick}

-- the member itself, and the others
pub first_and_others : (xs : List ℕ) (me : ℕ) → get_or xs 0 0 ≡ me → 1 ≤ length xs → xs ≡ me ∷ take (length xs - 1) (drop 1 xs)
first_and_others [] me first own = absurd (omega arith)
first_and_others (x ∷ xs) me first own =
    let e : length (x ∷ xs) - 1 ≡ length xs = omega arith in
    ap (λ (y : ℕ). y ∷ xs) first ∙ ap (λ (list : List ℕ). me ∷ list) (sym (ap (λ (n : ℕ). take n xs) e ∙ take_all (length xs) xs (omega arith)))

module _ {D : Type 0} {disk : Ghosts D} (member : Member D disk) (t : AllocatorState) (h : StandsFor member t) where
  -- a count of the list, in place of the words
  pub complete_is : (list : List ℕ) (size : ℕ) → list ≡ members_of t → size ≡ member.size → nat_eq (length list) size ≡ knows_all t
  complete_is list size is same = ap (λ (n : ℕ). nat_eq n size) (ap (λ (xs : List ℕ). length xs) is) ∙ ap (λ (n : ℕ). nat_eq (length (members_of t)) n) (same ∙ h.size)

-- the members that count are those of the list
pub counted_same : (moves : List Move) (whole list : List ℕ) → list ≡ whole → counted_at moves whole list ≡ whole
counted_same [] whole list is = refl
counted_same (move ∷ moves) whole list is = is

module _ {D : Type 0} {disk : Ghosts D} (member : Member D disk) (t : AllocatorState) (h : StandsFor member t) (step word : ℕ) (new : Durable D disk) (raft : Raft) (failed : Option Fault) where
  abbrev Elects : List ℕ → List ℕ → ℕ → ℕ → Bool → Type 0
  Elects counted known me now complete =
      MakesMoves counted me step (given_tick now word) (moves_of_tick known me step complete now t.raft_server t.times) t.raft_server t.times member.durable new raft failed

  pub elects : (me : ℕ) (complete : Bool) (peers : List ℕ) → me ≡ t.me → complete ≡ knows_all t → members_of t ≡ me ∷ peers
      → Elects (counted_at (moves_of_tick (me ∷ peers) me step complete member.latest t.raft_server t.times) (members_of t) (me ∷ peers)) (me ∷ peers) me member.latest complete
      → Elects (members_of t) (members_of t) t.me t.now (knows_all t)
  elects me complete peers mine all whole made =
      subst (λ (now : ℕ). Elects (members_of t) (members_of t) t.me now (knows_all t)) h.now
      (subst (λ (b : Bool). Elects (members_of t) (members_of t) t.me member.latest b) all
      (subst (λ (m : ℕ). Elects (members_of t) (members_of t) m member.latest complete) mine
      (subst (λ (known : List ℕ). Elects (members_of t) known me member.latest complete) (sym whole)
      (subst (λ (counted : List ℕ). Elects counted (me ∷ peers) me member.latest complete)
      (counted_same (moves_of_tick (me ∷ peers) me step complete member.latest t.raft_server t.times) (members_of t) (me ∷ peers) (sym whole)) made))))
