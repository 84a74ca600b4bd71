-- Pending calls last through every micro move.
use Rattle.std.proofs.Common.{◌≡◌, ◌≢◌, ℕ, true, false, List, ◌∷◌, refl, sym, ◌∙◌, subst, inl, inr, Option, Some, None}
use Rattle.raft_model.specs.Messages.{Request}
use Rattle.raft_model.specs.Lists.{In, at}
use Rattle.raft_model.specs.Server.{Role}
use Rattle.raft_model.specs.Server.Role.{Follower, Candidate, Leader}
use Rattle.raft_model.proofs.Micro.{State, Micro, did, May, vote_request_of, append_request_of}
use Rattle.raft_model.proofs.Micro.Micro.{Open, Halt, Raise, Stand, Count, Drop, Win, Yield, Taken, CallVote, CallAppend}
use Rattle.raft_model.proofs.Facts.{Facts, Calls}
use Rattle.raft_model.proofs.At.{at_each, at2_each}
use Rattle.raft_model.proofs.Apart.{c_no_l, f_no_c, f_no_l, l_no_c, none_some}

-- the calls of one member
abbrev pub Calling : List Request → ℕ → Role → ℕ → (ℕ → Option Request) → Type 0
Calling requests m r t pending = (q : ℕ) (a : Request) → pending q ≡ Some a →
    (r ≢ Follower → (a.from ≡ m) × (a.to ≡ q) × (a.term ≡ t) × In a requests) × (r ≡ Candidate → a.append ≡ false)
    × (r ≡ Leader → a.append ≡ true)

pub calls_all : (role : ℕ → Role) (term : ℕ → ℕ) (pending : ℕ → ℕ → Option Request) (requests : List Request)
    → ((m : ℕ) → Calling requests m (role m) (term m) (pending m)) → Calls role term pending requests
calls_all role term pending requests h = record
    { own = λ m q a n e. (h m q a e).0 n; votes = λ m q a r e. (h m q a e).1 r; appends = λ m q a r e. (h m q a e).2 r }

pub calls_one : (s : State) → Facts s → (m : ℕ) → Calling s.requests m (s.role m) (s.term m) (s.pending m)
calls_one s f m q a e = (λ n. f.calls.own m q a n e, λ r. f.calls.votes m q a r e, λ r. f.calls.appends m q a r e)

pub idle : (requests : List Request) (m t : ℕ) (pending : ℕ → Option Request) → Calling requests m Follower t pending
idle requests m t pending q a e = (λ n. absurd (n refl), λ r. absurd (f_no_c r), λ r. absurd (f_no_l r))

pub free : (requests : List Request) (m t : ℕ) (r : Role) → Calling requests m r t (λ q. None)
free requests m t r q a e = absurd (none_some a e)

pub dropped : (s : State) → Facts s → (m p : ℕ) → Calling s.requests m (s.role m) (s.term m) (at (s.pending m) p None)
dropped s f m p = at_each
    (λ q o. (a : Request) → o ≡ Some a
    → (s.role m ≢ Follower → (a.from ≡ m) × (a.to ≡ q) × (a.term ≡ s.term m) × In a s.requests) × (s.role m ≡ Candidate → a.append ≡ false)
    × (s.role m ≡ Leader → a.append ≡ true))
    (s.pending m) p None (λ a e. absurd (none_some a e)) (λ q n. calls_one s f m q)

pub calls_more : (s : State) → Facts s → (x : Request) (m : ℕ) → Calling (x ∷ s.requests) m (s.role m) (s.term m) (s.pending m)
calls_more s f x m q a e = let o = calls_one s f m q a e in (λ n. let g = o.0 n in (g.0, g.1, g.2, inr g.3), o.1, o.2)

pub called : (s : State) → Facts s → (m p : ℕ) (x : Request) → x.from ≡ m → x.to ≡ p → x.term ≡ s.term m
    → (s.role m ≡ Candidate → x.append ≡ false) → (s.role m ≡ Leader → x.append ≡ true)
    → Calling (x ∷ s.requests) m (s.role m) (s.term m) (at (s.pending m) p (Some x))
called s f m p x e1 e2 e3 e4 e5 = at_each
    (λ q o. (a : Request) → o ≡ Some a
    → (s.role m ≢ Follower → (a.from ≡ m) × (a.to ≡ q) × (a.term ≡ s.term m) × In a (x ∷ s.requests))
    × (s.role m ≡ Candidate → a.append ≡ false) × (s.role m ≡ Leader → a.append ≡ true))
    (s.pending m) p (Some x)
    (λ a e. subst (λ (z : Request). (s.role m ≢ Follower → (z.from ≡ m) × (z.to ≡ p) × (z.term ≡ s.term m) × In z (x ∷ s.requests))
    × (s.role m ≡ Candidate → z.append ≡ false)
    × (s.role m ≡ Leader → z.append ≡ true)) (same x a e) (λ n. (e1, e2, e3, inl refl), e4, e5))
    (λ q n. calls_more s f x m q)
  where
    same : (a b : Request) → Some a ≡ Some b → a ≡ b
    same a b e = cc

pub calls_keeps : (s : State) (e : Micro) → May s e → Facts s → Calls (did s e).role (did s e).term (did s e).pending (did s e).requests
calls_keeps s (Open m) may f = calls_all (at s.role m Follower) s.term (at s.pending m (λ q. None)) s.requests
    (at2_each (λ i r p. Calling s.requests i r (s.term i) p) s.role s.pending m Follower (λ q. None) (free s.requests m (s.term m) Follower)
    (λ i n. calls_one s f i))
calls_keeps s (Halt m) may f = calls_all (at s.role m Follower) s.term (at s.pending m (λ q. None)) s.requests
    (at2_each (λ i r p. Calling s.requests i r (s.term i) p) s.role s.pending m Follower (λ q. None) (free s.requests m (s.term m) Follower)
    (λ i n. calls_one s f i))
calls_keeps s (Raise m t) may f = calls_all (at s.role m Follower) (at s.term m t) s.pending s.requests
    (at2_each (λ i r u. Calling s.requests i r u (s.pending i)) s.role s.term m Follower t (idle s.requests m t (s.pending m))
    (λ i n. calls_one s f i))
calls_keeps s (Stand m) may f = calls_all (at s.role m Candidate) s.term (at s.pending m (λ q. None)) s.requests
    (at2_each (λ i r p. Calling s.requests i r (s.term i) p) s.role s.pending m Candidate (λ q. None)
    (free s.requests m (s.term m) Candidate) (λ i n. calls_one s f i))
calls_keeps s (Count m a) may f = calls_all s.role s.term (at s.pending m (at (s.pending m) a.from None)) s.requests
    (at_each (λ i p. Calling s.requests i (s.role i) (s.term i) p) s.pending m (at (s.pending m) a.from None) (dropped s f m a.from)
    (λ i n. calls_one s f i))
calls_keeps s (Drop m q) may f = calls_all s.role s.term (at s.pending m (at (s.pending m) q None)) s.requests
    (at_each (λ i p. Calling s.requests i (s.role i) (s.term i) p) s.pending m (at (s.pending m) q None) (dropped s f m q)
    (λ i n. calls_one s f i))
calls_keeps s (Win m) may f = calls_all (at s.role m Leader) s.term (at s.pending m (λ q. None)) s.requests
    (at2_each (λ i r p. Calling s.requests i r (s.term i) p) s.role s.pending m Leader (λ q. None) (free s.requests m (s.term m) Leader)
    (λ i n. calls_one s f i))
calls_keeps s (Yield m) may f = calls_all (at s.role m Follower) s.term s.pending s.requests
    (at_each (λ i r. Calling s.requests i r (s.term i) (s.pending i)) s.role m Follower (idle s.requests m (s.term m) (s.pending m))
    (λ i n. calls_one s f i))
calls_keeps s (Taken m a) may f = calls_all s.role s.term (at s.pending m (at (s.pending m) a.from None)) s.requests
    (at_each (λ i p. Calling s.requests i (s.role i) (s.term i) p) s.pending m (at (s.pending m) a.from None) (dropped s f m a.from)
    (λ i n. calls_one s f i))
calls_keeps s (CallVote m n q) may f = calls_all s.role s.term (at s.pending m (at (s.pending m) q (Some (vote_request_of s m n q))))
    (vote_request_of s m n q ∷ s.requests)
    (at_each (λ i p. Calling (vote_request_of s m n q ∷ s.requests) i (s.role i) (s.term i) p) s.pending m
    (at (s.pending m) q (Some (vote_request_of s m n q)))
    (called s f m q (vote_request_of s m n q) refl refl refl (λ r. refl) (λ r. absurd (c_no_l (sym may.role ∙ r))))
    (λ i n2. calls_more s f (vote_request_of s m n q) i))
calls_keeps s (CallAppend m n q p w) may f = calls_all s.role s.term
    (at s.pending m (at (s.pending m) q (Some (append_request_of s m n q p w)))) (append_request_of s m n q p w ∷ s.requests)
    (at_each (λ i p2. Calling (append_request_of s m n q p w ∷ s.requests) i (s.role i) (s.term i) p2) s.pending m
    (at (s.pending m) q (Some (append_request_of s m n q p w)))
    (called s f m q (append_request_of s m n q p w) refl refl refl (λ r. absurd (l_no_c (sym may.0.role ∙ r))) (λ r. refl))
    (λ i n2. calls_more s f (append_request_of s m n q p w) i))
calls_keeps s _ may f = f.calls
