-- What it says that a member backs the leader, and what follows of the terms that were led.
use Rattle.std.proofs.Common.{◌≡◌, ◌≢◌, ℕ, ◌<◌, ◌≤◌, Bool, true, false, List, [], ◌∷◌, length, refl, arith, sym, ◌∙◌, ap, subst, inl, inr, ◌⊎◌, Option, Some, None}
use Rattle.std.specs.Prelude.{◌==◌, ◌&&◌, not, nat_lt, nat_le, if◌then◌else◌}
use Rattle.std.proofs.lemmas.Bool.{eqb-true, leb-true}
use Rattle.can_frame.specs.Log.{last_term}
use Rattle.raft_model.specs.Decisions.{is_not_above}
use Rattle.raft_model.specs.History.{KeptVote}
use Rattle.raft_model.specs.Invariants.{is_vote}
use Rattle.raft_model.specs.Lists.{In, any, how_many}
use Rattle.raft_model.specs.Log.{NotAbove}
use Rattle.raft_model.specs.Server.{Store, quorum}
use Rattle.raft_model.proofs.Apart.{clash, some_same}
use Rattle.raft_model.proofs.Complete.{and_left, and_right, not_true}
use Rattle.raft_model.proofs.Facts.{Facts}
use Rattle.raft_model.proofs.Focus.{focus_of}
use Rattle.raft_model.proofs.Micro.{State}
use Rattle.raft_model.proofs.Quorum.{any_found, quorums_meet, tell, count_step}
use Rattle.raft_model.proofs.Whole.{below}
use Rattle.raft_replaced.specs.Replacement.{backing_votes, backs, is_vote_for}
use Rattle.raft_replaced.proofs.Filters.{equal_true, or_elim}

-- what all have stored
abbrev pub stores_in : State → ℕ → Store
stores_in s m = (focus_of s m).raft_server.store

pub record IsBacking (stores : ℕ → Store) (lost leader member : ℕ) : Type 0 where
  pub other : member ≢ lost
  pub term : (stores member).term ≡ (stores leader).term
  pub vote : (stores member).vote ≡ Some leader
  pub not_above : NotAbove (last_term (stores member).log) (length (stores member).log) (last_term (stores leader).log) (length (stores leader).log)

vote_is : (o : Option ℕ) (c : ℕ) → is_vote_for o c ≡ true → o ≡ Some c
vote_is None c e = absurd (cc)
vote_is (Some v) c e = ap (λ (x : ℕ). Some x) (eqb-true v c e)

not_above_is : (t i u j : ℕ) → is_not_above t i u j ≡ true → NotAbove t i u j
not_above_is t i u j e = elim (or_elim (nat_lt t u) ((t == u) && nat_le i j) e) [
  | inl a ↦ inl (below t u a)
  | inr a ↦ inr (eqb-true t u (and_left (t == u) (nat_le i j) a), leb-true i j (and_right (t == u) (nat_le i j) a))
]

pub is_backing : (stores : ℕ → Store) (lost leader member : ℕ) → backs stores lost leader member ≡ true → IsBacking stores lost leader member
is_backing stores lost leader member e =
    let e1 = and_right (not (member == lost)) _ e in
    let e2 = and_right ((stores member).term == (stores leader).term) _ e1 in
    record {
      other = λ same. clash (member == lost) (equal_true member lost same) (not_true (member == lost) (and_left (not (member == lost)) _ e));
      term = eqb-true (stores member).term (stores leader).term (and_left ((stores member).term == (stores leader).term) _ e1);
      vote = vote_is (stores member).vote leader (and_left (is_vote_for (stores member).vote leader) _ e2);
      not_above = not_above_is (last_term (stores member).log) (length (stores member).log) (last_term (stores leader).log) (length (stores leader).log)
          (and_right (is_vote_for (stores member).vote leader) _ e2);
    }

-- the vote of a member that backs the leader
abbrev pub backing_vote : (ℕ → Store) → ℕ → ℕ → KeptVote
backing_vote stores leader member = record
    { voter = member; candidate = leader; term = (stores leader).term; log = (stores member).log; led = false }

pub in_backing : (stores : ℕ → Store) (lost leader : ℕ) (members : List ℕ) (k : KeptVote) → In k (backing_votes stores lost leader members)
    → (m : ℕ) × (backs stores lost leader m ≡ true) × (k ≡ backing_vote stores leader m)
in_backing stores lost leader [] k i = absurd i
in_backing stores lost leader (m ∷ ms) k i = elim (tell (backs stores lost leader m)) [
  | inl a ↦
      let j : In k (backing_vote stores leader m ∷ backing_votes stores lost leader ms)
      = subst (λ (b : Bool). In k (if b then backing_vote stores leader m ∷ backing_votes stores lost leader ms else backing_votes stores lost leader ms)) a i in
      elim j [ inl e ↦ (m, a, e) | inr r ↦ in_backing stores lost leader ms k r ]
  | inr a ↦
      in_backing stores lost leader ms k
      (subst (λ (b : Bool). In k (if b then backing_vote stores leader m ∷ backing_votes stores lost leader ms else backing_votes stores lost leader ms)) a i)
]

pub backing_has : (stores : ℕ → Store) (lost leader : ℕ) (members : List ℕ) (m : ℕ) → In m members → backs stores lost leader m ≡ true
    → In (backing_vote stores leader m) (backing_votes stores lost leader members)
backing_has stores lost leader [] m i e = absurd i
backing_has stores lost leader (x ∷ xs) m i e = elim (tell (backs stores lost leader x)) [
  | inl a ↦
      let j : In (backing_vote stores leader m) (backing_vote stores leader x ∷ backing_votes stores lost leader xs)
      = elim i [ inl same ↦ inl (ap (backing_vote stores leader) same) | inr r ↦ inr (backing_has stores lost leader xs m r e) ] in
      subst (λ (b : Bool). In (backing_vote stores leader m) (if b then backing_vote stores leader x ∷ backing_votes stores lost leader xs else backing_votes stores lost leader xs)) (sym a) j
  | inr a ↦
      let j : In (backing_vote stores leader m) (backing_votes stores lost leader xs)
      = elim i [ inl same ↦ absurd (clash (backs stores lost leader m) e (ap (backs stores lost leader) same ∙ a)) | inr r ↦ backing_has stores lost leader xs m r e ] in
      subst (λ (b : Bool). In (backing_vote stores leader m) (if b then backing_vote stores leader x ∷ backing_votes stores lost leader xs else backing_votes stores lost leader xs)) (sym a) j
]

-- a count grows where the test holds of more of those that are counted
pub count_grows_in : (p q : ℕ → Bool) (xs : List ℕ) → ((x : ℕ) → In x xs → p x ≡ true → q x ≡ true) → how_many p xs ≤ how_many q xs
count_grows_in p q [] h = omega arith
count_grows_in p q (x ∷ xs) h =
    let rest = count_grows_in p q xs (λ y i. h y (inr i)) in
    elim (tell (p x)) [
      | inl a ↦ omega (arith, count_step p x xs true a, count_step q x xs true (h x (inl refl) a), rest)
      | inr a ↦ elim (tell (q x)) [
        | inl b ↦ omega (arith, count_step p x xs false a, count_step q x xs true b, rest)
        | inr b ↦ omega (arith, count_step p x xs false a, count_step q x xs false b, rest)
      ]
    ]

module _ (s : State) (f : Facts s) (lost leader : ℕ) (majority : quorum s.members ≤ how_many (backs (stores_in s) lost leader) s.members) where
  -- no term above the leader's was led, and in its own only it led
  bounded_by : (t : ℕ) → s.led t ≡ true → (t < s.term leader) ⊎ ((t ≡ s.term leader) × (s.leader t ≡ leader))
  bounded_by t led =
      let both = quorums_meet s.members (λ v. any (is_vote v (s.leader t) t) s.kept) (backs (stores_in s) lost leader) (f.led.votes t led) majority in
      let g = any_found (is_vote both.0 (s.leader t) t) s.kept both.2 in
      let x : KeptVote = g.0 in
      let b = is_backing (stores_in s) lost leader both.0 both.3 in
      let e0 : x.voter ≡ both.0 = eqb-true x.voter both.0 (and_left (x.voter == both.0) _ g.2) in
      let r0 : ((x.candidate == s.leader t) && ((x.term == t) && not x.led)) ≡ true = and_right (x.voter == both.0) _ g.2 in
      let e1 : x.candidate ≡ s.leader t = eqb-true x.candidate (s.leader t) (and_left (x.candidate == s.leader t) _ r0) in
      let r1 : ((x.term == t) && not x.led) ≡ true = and_right (x.candidate == s.leader t) _ r0 in
      let e2 : x.term ≡ t = eqb-true x.term t (and_left (x.term == t) _ r1) in
      let term : s.term x.voter ≡ s.term leader = ap s.term e0 ∙ b.term in
      let vote : s.vote x.voter ≡ Some leader = ap s.vote e0 ∙ b.vote in
      elim (f.bound.votes x g.1) [
        | inl low ↦ inl (omega (arith, low, e2, term))
        | inr own ↦ inr (sym e2 ∙ (own.0 ∙ term), sym e1 ∙ some_same x.candidate leader (sym own.1 ∙ vote))
      ]

  pub bounded : (t : ℕ) → s.led t ≡ true → t ≤ s.term leader
  bounded t led = elim (bounded_by t led) [ inl x ↦ omega (arith, x) | inr x ↦ omega (arith, x.0) ]

  pub leads_own : s.led (s.term leader) ≡ true → s.leader (s.term leader) ≡ leader
  leads_own led = elim (bounded_by (s.term leader) led) [ inl x ↦ absurd (omega (arith, x)) | inr x ↦ x.1 ]
