-- Running Leaders and Candidates last through every micro move.
use Rattle.std.proofs.Common.{◌≡◌, ℕ, Bool, true, false, List, [], ◌∷◌, ◌++◌, refl, sym, ◌∙◌, ap, inl, inr, take}
use Rattle.std.specs.Prelude.{◌==◌}
use Rattle.std.proofs.lemmas.Bool.{eqb-true}
use Rattle.can_frame.specs.declared.entry.Entry.{Entry}
use Rattle.raft_model.specs.Lists.{In, at, at_here, at_other}
use Rattle.raft_model.specs.Server.{Role}
use Rattle.raft_model.specs.History.{KeptVote, Candidacy}
use Rattle.raft_model.specs.Server.Role.{Follower, Candidate, Leader}
use Rattle.raft_model.proofs.Micro.{State, Micro, did, May}
use Rattle.raft_model.proofs.Micro.Micro.{Open, Halt, Raise, Stand, Grant, Count, Win, Yield, Cut, Grow, Propose}
use Rattle.raft_model.proofs.Facts.{Facts, Running}
use Rattle.raft_model.proofs.At.{at_each, at2_each}
use Rattle.raft_model.proofs.Apart.{f_no_l, f_no_c, c_no_l, l_no_c, candidate_no_follower, leader_no_follower}
use Rattle.raft_model.proofs.Votes.{led_more}
use Rattle.raft_model.proofs.Led.{not_first}

abbrev pub Leads : State → ℕ → Role → ℕ → List Entry → Type 0
Leads s i r t l = r ≡ Leader → (s.led t ≡ true) × (s.leader t ≡ i) × (l ≡ s.list t)

abbrev pub StandsFor : List Candidacy → ℕ → Role → ℕ → List Entry → Type 0
StandsFor cs i r t l = r ≡ Candidate → (c : Candidacy) × In c cs × (c.candidate ≡ i) × (c.term ≡ t) × (c.log ≡ l)

abbrev pub Counts : List KeptVote → ℕ → Role → ℕ → (ℕ → Bool) → Type 0
Counts ks i r t vs = (q : ℕ) → r ≡ Candidate → vs q ≡ true → (k : KeptVote) × In k ks × (k.voter ≡ q) × (k.candidate ≡ i) × (k.term ≡ t)

pub counts_more : (s : State) → Facts s → (k : KeptVote) → (i : ℕ) → Counts (k ∷ s.kept) i (s.role i) (s.term i) (s.votes i)
counts_more s f k i q r v = let x = f.running.counted i q r v in (x.0, inr x.1, x.2, x.3, x.4)

pub running_keeps : (s : State) (e : Micro) → May s e → Facts s
    → Running (did s e).role (did s e).term (did s e).log (did s e).votes (did s e).led (did s e).leader (did s e).list
    (did s e).candidacies (did s e).kept
running_keeps s (Open m) may f = record {
  leads = at_each (λ i r. Leads s i r (s.term i) (s.log i)) s.role m Follower (λ e. absurd (f_no_l e)) (λ i n. f.running.leads i);
  stands = at_each (λ i r. StandsFor s.candidacies i r (s.term i) (s.log i)) s.role m Follower (λ e. absurd (f_no_c e))
      (λ i n. f.running.stands i);
  counted = at2_each (λ i r v. Counts s.kept i r (s.term i) v) s.role s.votes m Follower (λ q. false) (λ q e. absurd (f_no_c e))
      (λ i n q. f.running.counted i q);
}
running_keeps s (Halt m) may f = record {
  leads = at_each (λ i r. Leads s i r (s.term i) (s.log i)) s.role m Follower (λ e. absurd (f_no_l e)) (λ i n. f.running.leads i);
  stands = at_each (λ i r. StandsFor s.candidacies i r (s.term i) (s.log i)) s.role m Follower (λ e. absurd (f_no_c e))
      (λ i n. f.running.stands i);
  counted = at2_each (λ i r v. Counts s.kept i r (s.term i) v) s.role s.votes m Follower (λ q. false) (λ q e. absurd (f_no_c e))
      (λ i n q. f.running.counted i q);
}
running_keeps s (Yield m) may f = record {
  leads = at_each (λ i r. Leads s i r (s.term i) (s.log i)) s.role m Follower (λ e. absurd (f_no_l e)) (λ i n. f.running.leads i);
  stands = at_each (λ i r. StandsFor s.candidacies i r (s.term i) (s.log i)) s.role m Follower (λ e. absurd (f_no_c e))
      (λ i n. f.running.stands i);
  counted = at_each (λ i r. Counts s.kept i r (s.term i) (s.votes i)) s.role m Follower (λ q e. absurd (f_no_c e))
      (λ i n q. f.running.counted i q);
}
running_keeps s (Raise m t) may f = record {
  leads = at2_each (λ i r u. Leads s i r u (s.log i)) s.role s.term m Follower t (λ e. absurd (f_no_l e)) (λ i n. f.running.leads i);
  stands = at2_each (λ i r u. StandsFor s.candidacies i r u (s.log i)) s.role s.term m Follower t (λ e. absurd (f_no_c e))
      (λ i n. f.running.stands i);
  counted = at2_each (λ i r u. Counts s.kept i r u (s.votes i)) s.role s.term m Follower t (λ q e. absurd (f_no_c e))
      (λ i n q. f.running.counted i q);
}
running_keeps s (Stand m) may f = record {
  leads = at_each (λ i r. Leads s i r (s.term i) (s.log i)) s.role m Candidate (λ e. absurd (c_no_l e)) (λ i n. f.running.leads i);
  stands = at_each (λ i r. StandsFor (did s (Stand m)).candidacies i r (s.term i) (s.log i)) s.role m Candidate
      (λ e. (record { candidate = m; term = s.term m; log = s.log m }, inl refl, refl, refl, refl))
      (λ i n e. let c = f.running.stands i e in (c.0, inr c.1, c.2, c.3, c.4));
  counted = at2_each (λ i r v. Counts (did s (Stand m)).kept i r (s.term i) v) s.role s.votes m Candidate (λ q. q == m)
      (λ q e h. (
        record { voter = m; candidate = m; term = s.term m; log = s.log m; led = s.led (s.term m) },
        inl refl,
        sym (eqb-true q m h),
        refl,
        refl,
      ))
      (λ i n. counts_more s f (record { voter = m; candidate = m; term = s.term m; log = s.log m; led = s.led (s.term m) }) i);
}
running_keeps s (Grant m n r) may f = record {
  leads = f.running.leads;
  stands = f.running.stands;
  counted = counts_more s f (record { voter = m; candidate = r.from; term = r.term; log = s.log m; led = s.led r.term });
}
running_keeps s (Count m a) may f = record {
  leads = f.running.leads;
  stands = f.running.stands;
  counted = at_each (λ i v. Counts s.kept i (s.role i) (s.term i) v) s.votes m (at (s.votes m) a.from true)
      (λ q e h. at_each (λ p b. b ≡ true
      → (k : KeptVote) × In k s.kept × (k.voter ≡ p) × (k.candidate ≡ m) × (k.term ≡ s.term m)) (s.votes m) a.from true (λ z.
      let i = f.posted.answer a may.in_bag in
      let k = f.answered.voted a i may.success may.kind in
      let o = f.answered.success a i may.success in
      (k.0, k.1, k.2, k.3 ∙ may.mine, k.4 ∙ (sym o.0 ∙ may.own_term))) (λ p n z. f.running.counted m p e z) q h)
      (λ i n q. f.running.counted i q);
}
running_keeps s (Win m) may f = record {
  leads = at_each
      (λ i r. r ≡ Leader
      → (at s.led (s.term m) true (s.term i) ≡ true) × (at s.leader (s.term m) m (s.term i) ≡ i)
      × (s.log i ≡ at s.list (s.term m) (s.log m) (s.term i)))
      s.role m Leader
      (λ e. (
        at_here s.led (s.term m) (s.term m) true refl,
        at_here s.leader (s.term m) (s.term m) m refl,
        sym (at_here s.list (s.term m) (s.term m) (s.log m) refl),
      ))
      (λ i n e. let o = f.running.leads i e in
      let z = not_first s f m may (s.term i) o.0 in (
        led_more s (s.term m) (s.term i) o.0,
        at_other s.leader (s.term m) (s.term i) m z ∙ o.1,
        o.2
            ∙ sym (at_other s.list (s.term m) (s.term i) (s.log m) z),
      ));
  stands = at_each (λ i r. StandsFor s.candidacies i r (s.term i) (s.log i)) s.role m Leader (λ e. absurd (l_no_c e))
      (λ i n. f.running.stands i);
  counted = at_each (λ i r. Counts s.kept i r (s.term i) (s.votes i)) s.role m Leader (λ q e. absurd (l_no_c e))
      (λ i n q. f.running.counted i q);
}
running_keeps s (Cut m r e) may f = record {
  counted = f.running.counted;
  leads = at_each (λ i l. Leads s i (s.role i) (s.term i) l) s.log m (take r.previous (s.log m))
      (λ e. absurd (leader_no_follower (s.role m) e may.fits.role)) (λ i n. f.running.leads i);
  stands = at_each (λ i l. StandsFor s.candidacies i (s.role i) (s.term i) l) s.log m (take r.previous (s.log m))
      (λ e. absurd (candidate_no_follower (s.role m) e may.fits.role)) (λ i n. f.running.stands i);
}
running_keeps s (Grow m r e) may f = record {
  counted = f.running.counted;
  leads = at_each (λ i l. Leads s i (s.role i) (s.term i) l) s.log m (s.log m ++ (e ∷ []))
      (λ e. absurd (leader_no_follower (s.role m) e may.fits.role)) (λ i n. f.running.leads i);
  stands = at_each (λ i l. StandsFor s.candidacies i (s.role i) (s.term i) l) s.log m (s.log m ++ (e ∷ []))
      (λ e. absurd (candidate_no_follower (s.role m) e may.fits.role)) (λ i n. f.running.stands i);
}
running_keeps s (Propose m e) may f = record {
  counted = f.running.counted;
  leads = at_each
      (λ i l. s.role i ≡ Leader
      → (s.led (s.term i) ≡ true) × (s.leader (s.term i) ≡ i) × (l ≡ at s.list (s.term m) (s.list (s.term m) ++ (e ∷ [])) (s.term i)))
      s.log m (s.log m ++ (e ∷ []))
      (λ g. let o = f.running.leads m g in (
        o.0,
        o.1,
        ap (λ (x : List Entry). x ++ (e ∷ [])) o.2
            ∙ sym (at_here s.list (s.term m) (s.term m) (s.list (s.term m) ++ (e ∷ [])) refl),
      ))
      (λ i n g. let o = f.running.leads i g in (
        o.0,
        o.1,
        o.2
            ∙ sym (at_other s.list (s.term m) (s.term i) (s.list (s.term m) ++ (e ∷ []))
            (λ z. n (sym o.1 ∙ (ap s.leader z ∙ (f.running.leads m may.role).1)))),
      ));
  stands = at_each (λ i l. StandsFor s.candidacies i (s.role i) (s.term i) l) s.log m (s.log m ++ (e ∷ []))
      (λ g. absurd (two (s.role m) may.role g)) (λ i n. f.running.stands i);
}
  where
    two : (r : Role) → r ≡ Leader → r ≡ Candidate → ⊥
    two r a b = cc
running_keeps s _ may f = f.running
