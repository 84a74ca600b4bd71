-- Two more facts that last through every micro move: a stored vote is of a term of at least 1, and who is up is a member.
use Rattle.std.proofs.Common.{◌≡◌, ℕ, ◌≤◌, Bool, true, false, List, [], ◌∷◌, arith, Option, Some, None}
use Rattle.raft_model.specs.Lists.{In}
use Rattle.raft_model.proofs.Apart.{false_true, none_some}
use Rattle.raft_model.proofs.At.{at_each, at2_each}
use Rattle.raft_model.proofs.Facts.{Facts}
use Rattle.raft_model.proofs.Keeps.{keeps}
use Rattle.raft_model.proofs.Micro.{State, Micro, did, May, run, Lawful, start}
use Rattle.raft_model.proofs.Micro.Micro.{Open, Halt, Raise, Clear, Stand, Grant}
use Rattle.raft_replaced.proofs.Copied.{copied}

pub record Further (s : State) : Type 0 where
  pub terms : (m c : ℕ) → s.vote m ≡ Some c → 1 ≤ s.term m
  pub up : (m : ℕ) → s.up m ≡ true → In m s.members

terms_keep : (s : State) (e : Micro) → May s e → Facts s → Further s → (m c : ℕ) → (did s e).vote m ≡ Some c → 1 ≤ (did s e).term m
terms_keep s (Raise m t) may f h = at_each (λ i x. (c : ℕ) → s.vote i ≡ Some c → 1 ≤ x) s.term m t (λ c e. omega (arith, may.1)) (λ i _. h.terms i)
terms_keep s (Clear m) may f h = at_each (λ i (o : Option ℕ). (c : ℕ) → o ≡ Some c → 1 ≤ s.term i) s.vote m None (λ c e. absurd (none_some c e)) (λ i _. h.terms i)
terms_keep s (Stand m) may f h = at_each (λ i (o : Option ℕ). (c : ℕ) → o ≡ Some c → 1 ≤ s.term i) s.vote m (Some m) (λ c e. f.fresh.terms m may.0) (λ i _. h.terms i)
terms_keep s (Grant m n r) may f h = at_each (λ i (o : Option ℕ). (c : ℕ) → o ≡ Some c → 1 ≤ s.term i) s.vote m (Some r.from)
    (λ c e. let x = f.asked.vote r (f.posted.request r may.in_bag) may.kind in
    let y : 1 ≤ x.0.term = f.stood.terms x.0 x.1 in
    omega (arith, y, x.3, may.own_term)) (λ i _. h.terms i)
terms_keep s _ may f h = h.terms

up_keeps : (s : State) (e : Micro) → May s e → Further s → (m : ℕ) → (did s e).up m ≡ true → In m (did s e).members
up_keeps s (Open m) may h = at_each (λ i (b : Bool). b ≡ true → In i s.members) s.up m true (λ _. may.1) (λ i _. h.up i)
up_keeps s (Halt m) may h = at_each (λ i (b : Bool). b ≡ true → In i s.members) s.up m false (λ e. absurd (false_true e)) (λ i _. h.up i)
up_keeps s _ may h = h.up

pub run_keeps_further : (es : List Micro) (s : State) → Lawful s es → Facts s → Further s → Further (run s es)
run_keeps_further [] s l f h = h
run_keeps_further (e ∷ es) s l f h = run_keeps_further es (did s e) l.1 (keeps s e l.0 f) (record { terms = terms_keep s e l.0 f h; up = up_keeps s e l.0 h })

pub start_has_further : (members : List ℕ) → Further (start members)
start_has_further members = record { terms = λ m c e. absurd (none_some c e); up = λ m e. absurd (false_true e) }

pub further_copied : (s : State) (n l : ℕ) → Further s → Further (copied s n l)
further_copied s n l h = record {
  terms = at2_each (λ i (o : Option ℕ) (t : ℕ). (c : ℕ) → o ≡ Some c → 1 ≤ t) s.vote s.term n (s.vote l) (s.term l) (h.terms l) (λ i _. h.terms i);
  up = at_each (λ i (b : Bool). b ≡ true → In i s.members) s.up n false (λ e. absurd (false_true e)) (λ i _. h.up i);
}
