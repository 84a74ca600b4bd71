-- A fresh term was put last: nothing of it was voted or stood for.
use Rattle.std.proofs.Common.{◌≡◌, ℕ, ◌<◌, ◌≤◌, Bool, true, false, List, [], ◌∷◌, ◌++◌, length, refl, arith, sym, ◌∙◌, ap, inl, inr, take, get_or}
use Rattle.can_frame.specs.declared.entry.Entry.{Entry}
use Rattle.can_frame.specs.Log.{blank}
use Rattle.raft_model.specs.Lists.{In, at}
use Rattle.raft_model.specs.Server.{Role}
use Rattle.raft_model.specs.History.{KeptVote, Candidacy}
use Rattle.raft_model.specs.Server.Role.{Follower, Candidate, Leader}
use Rattle.raft_model.proofs.Micro.{State, Micro, did, May}
use Rattle.raft_model.proofs.Micro.Micro.{Open, Halt, Raise, Stand, Grant, Win, Yield, Cut, Grow, Propose}
use Rattle.raft_model.proofs.Facts.{Facts, Fresh}
use Rattle.raft_model.proofs.At.{at_each, at2_each, at3_each}
use Rattle.raft_model.proofs.Stored.{each_take}
use Rattle.raft_model.proofs.Apart.{candidate_no_follower, false_true, leader_no_follower}

-- a fresh term of one member: nothing of it was voted or stood for
pub record IsFresh (fr : Bool) (r : Role) (t : ℕ) (l : List Entry) (kept : List KeptVote) (candidacies : List Candidacy) (m : ℕ) : Type 0
  where
    pub follower : fr ≡ true → r ≡ Follower
    pub terms : fr ≡ true → 1 ≤ t
    pub entries : (i : ℕ) → fr ≡ true → i < length l → (get_or l i (blank 0)).term < t
    pub votes : (k : KeptVote) → fr ≡ true → In k kept → k.voter ≡ m → k.term < t
    pub stood : (c : Candidacy) → fr ≡ true → In c candidacies → c.candidate ≡ m → c.term < t

pub fresh_one : (s : State) → Facts s → (m : ℕ) → IsFresh (s.fresh m) (s.role m) (s.term m) (s.log m) s.kept s.candidacies m
fresh_one s f m = record {
  follower = f.fresh.follower m;
  terms = f.fresh.terms m;
  entries = λ i. f.fresh.entries m i;
  votes = λ k. f.fresh.votes m k;
  stood = λ c. f.fresh.stood m c;
}

pub fresh_all : (fresh : ℕ → Bool) (role : ℕ → Role) (term : ℕ → ℕ) (log : ℕ → List Entry) (kept : List KeptVote)
    (candidacies : List Candidacy)
    → ((m : ℕ) → IsFresh (fresh m) (role m) (term m) (log m) kept candidacies m) → Fresh fresh role term log kept candidacies
fresh_all fresh role term log kept candidacies h = record {
  follower = λ m. (h m).follower;
  terms = λ m. (h m).terms;
  entries = λ m i. (h m).entries i;
  votes = λ m k. (h m).votes k;
  stood = λ m c. (h m).stood c;
}

pub not_fresh : (fr : Bool) (r : Role) (t : ℕ) (l : List Entry) (kept : List KeptVote) (candidacies : List Candidacy) (m : ℕ)
    → (fr ≡ true → ⊥) → IsFresh fr r t l kept candidacies m
not_fresh fr r t l kept candidacies m h = record {
  follower = λ e. absurd (h e);
  terms = λ e. absurd (h e);
  entries = λ i e. absurd (h e);
  votes = λ k e. absurd (h e);
  stood = λ c e. absurd (h e);
}

pub fresh_keeps : (s : State) (e : Micro) → May s e → Facts s
    → Fresh (did s e).fresh (did s e).role (did s e).term (did s e).log (did s e).kept (did s e).candidacies
fresh_keeps s (Open m) may f = fresh_all (at s.fresh m false) (at s.role m Follower) s.term s.log s.kept s.candidacies
    (at2_each (λ i fr r. IsFresh fr r (s.term i) (s.log i) s.kept s.candidacies i) s.fresh s.role m false Follower
    (not_fresh false Follower (s.term m) (s.log m) s.kept s.candidacies m false_true) (λ i n. fresh_one s f i))
fresh_keeps s (Halt m) may f = fresh_all (at s.fresh m false) (at s.role m Follower) s.term s.log s.kept s.candidacies
    (at2_each (λ i fr r. IsFresh fr r (s.term i) (s.log i) s.kept s.candidacies i) s.fresh s.role m false Follower
    (not_fresh false Follower (s.term m) (s.log m) s.kept s.candidacies m false_true) (λ i n. fresh_one s f i))
fresh_keeps s (Raise m t) may f = fresh_all (at s.fresh m true) (at s.role m Follower) (at s.term m t) s.log s.kept s.candidacies
    (at3_each (λ i fr r u. IsFresh fr r u (s.log i) s.kept s.candidacies i) s.fresh s.role s.term m true Follower t
    (record {
      follower = λ e. refl;
      terms = λ e. omega (arith, may.1);
      entries = λ i e b. let x : (get_or (s.log m) i (blank 0)).term ≤ s.term m = (f.stored.rising m).high i b in omega (arith, x, may.1);
      votes = λ k e i v. let same : s.term k.voter ≡ s.term m = ap s.term v in
          elim (f.bound.votes k i) [ inl x ↦ omega (arith, x, same, may.1) | inr x ↦ omega (arith, x.0, same, may.1) ];
      stood = λ c e i v. let same : s.term c.candidate ≡ s.term m = ap s.term v in
          elim (f.bound.stood c i) [ inl x ↦ omega (arith, x, same, may.1) | inr x ↦ omega (arith, x.0, same, may.1) ];
    })
    (λ i n. fresh_one s f i))
fresh_keeps s (Stand m) may f = fresh_all (at s.fresh m false) (at s.role m Candidate) s.term s.log (did s (Stand m)).kept
    (did s (Stand m)).candidacies
    (at2_each (λ i fr r. IsFresh fr r (s.term i) (s.log i) (did s (Stand m)).kept (did s (Stand m)).candidacies i) s.fresh s.role m false
    Candidate
    (not_fresh false Candidate (s.term m) (s.log m) (did s (Stand m)).kept (did s (Stand m)).candidacies m false_true)
    (λ i n. record {
      follower = f.fresh.follower i;
      terms = f.fresh.terms i;
      entries = λ k. f.fresh.entries i k;
      votes = λ k e j v. elim j [ inl g ↦ absurd (n (sym v ∙ ap (λ (z : KeptVote). z.voter) g)) | inr j2 ↦ f.fresh.votes i k e j2 v ];
      stood = λ c e j v. elim j [ inl g ↦ absurd (n (sym v ∙ ap (λ (z : Candidacy). z.candidate) g)) | inr j2 ↦ f.fresh.stood i c e j2 v ];
    }))
fresh_keeps s (Grant m n0 r) may f = fresh_all (at s.fresh m false) s.role s.term s.log (did s (Grant m n0 r)).kept s.candidacies
    (at_each (λ i fr. IsFresh fr (s.role i) (s.term i) (s.log i) (did s (Grant m n0 r)).kept s.candidacies i) s.fresh m false
    (not_fresh false (s.role m) (s.term m) (s.log m) (did s (Grant m n0 r)).kept s.candidacies m false_true)
    (λ i n. record {
      follower = f.fresh.follower i;
      terms = f.fresh.terms i;
      entries = λ k. f.fresh.entries i k;
      stood = λ c. f.fresh.stood i c;
      votes = λ k e j v. elim j [ inl g ↦ absurd (n (sym v ∙ ap (λ (z : KeptVote). z.voter) g)) | inr j2 ↦ f.fresh.votes i k e j2 v ];
    }))
fresh_keeps s (Win m) may f = fresh_all s.fresh (at s.role m Leader) s.term s.log s.kept s.candidacies
    (at_each (λ i r. IsFresh (s.fresh i) r (s.term i) (s.log i) s.kept s.candidacies i) s.role m Leader
    (not_fresh (s.fresh m) Leader (s.term m) (s.log m) s.kept s.candidacies m
    (λ e. candidate_no_follower (s.role m) may.role (f.fresh.follower m e)))
    (λ i n. fresh_one s f i))
fresh_keeps s (Yield m) may f = fresh_all s.fresh (at s.role m Follower) s.term s.log s.kept s.candidacies
    (at_each (λ i r. IsFresh (s.fresh i) r (s.term i) (s.log i) s.kept s.candidacies i) s.role m Follower
    (let g = fresh_one s f m in record { follower = λ e. refl; terms = g.terms; entries = g.entries; votes = g.votes; stood = g.stood })
    (λ i n. fresh_one s f i))
fresh_keeps s (Cut m r e) may f = fresh_all s.fresh s.role s.term (at s.log m (take r.previous (s.log m))) s.kept s.candidacies
    (at_each (λ i l. IsFresh (s.fresh i) (s.role i) (s.term i) l s.kept s.candidacies i) s.log m (take r.previous (s.log m))
    (let g = fresh_one s f m in
    record {
      follower = g.follower;
      terms = g.terms;
      votes = g.votes;
      stood = g.stood;
      entries = λ i h. each_take (λ x. x.term < s.term m) (s.log m) r.previous (λ k b. g.entries k h b) i;
    })
    (λ i n. fresh_one s f i))
fresh_keeps s (Grow m r e) may f = fresh_all (at s.fresh m false) s.role s.term (at s.log m (s.log m ++ (e ∷ []))) s.kept s.candidacies
    (at2_each (λ i fr l. IsFresh fr (s.role i) (s.term i) l s.kept s.candidacies i) s.fresh s.log m false (s.log m ++ (e ∷ []))
    (not_fresh false (s.role m) (s.term m) (s.log m ++ (e ∷ [])) s.kept s.candidacies m false_true) (λ i n. fresh_one s f i))
fresh_keeps s (Propose m e) may f = fresh_all s.fresh s.role s.term (at s.log m (s.log m ++ (e ∷ []))) s.kept s.candidacies
    (at_each (λ i l. IsFresh (s.fresh i) (s.role i) (s.term i) l s.kept s.candidacies i) s.log m (s.log m ++ (e ∷ []))
    (not_fresh (s.fresh m) (s.role m) (s.term m) (s.log m ++ (e ∷ [])) s.kept s.candidacies m
    (λ h. leader_no_follower (s.role m) may.role (f.fresh.follower m h)))
    (λ i n. fresh_one s f i))
fresh_keeps s _ may f = f.fresh
