-- Elected leaders last through every micro move.
use Rattle.std.proofs.Common.{◌≡◌, ◌≢◌, ℕ, ◌<◌, ◌≤◌, Bool, true, false, List, [], ◌∷◌, ◌++◌, length, refl, arith, sym, ◌∙◌, ap, subst, inl, inr, get_or, if◌then◌else◌}
use Rattle.std.specs.Prelude.{◌==◌, ◌&&◌, not}
use Rattle.std.proofs.lemmas.Bool.{eq-eqb}
use Rattle.std.proofs.lemmas.List.{append-nil, append_assoc}
use Rattle.can_frame.specs.declared.entry.Entry.{Entry}
use Rattle.can_frame.specs.Log.{IsInjective, IsWellFormed, blank, log_limit}
use Rattle.raft_model.specs.Log.{IsRising}
use Rattle.raft_model.specs.Lists.{In, at, any, how_many, at_here}
use Rattle.raft_model.specs.Server.{quorum}
use Rattle.raft_model.specs.History.{KeptVote, Candidacy}
use Rattle.raft_model.proofs.Micro.{State, Micro, did, May, MayWin, MayPropose}
use Rattle.raft_model.proofs.Micro.Micro.{Stand, Grant, Win, Propose}
use Rattle.raft_model.specs.Invariants.{is_vote}
use Rattle.raft_model.proofs.Facts.{Facts, Led}
use Rattle.raft_model.proofs.Quorum.{tell, any_there, count_grows}
use Rattle.raft_model.proofs.At.{at_each, at2_each, at3_each}
use Rattle.raft_model.proofs.Alone.{alone}
use Rattle.raft_model.proofs.Committed.{and_both}
use Rattle.raft_model.proofs.Stored.{stored_keeps, each_snoc}
use Rattle.raft_model.proofs.Apart.{clash}

pub any_kept : (p : KeptVote → Bool) (x : KeptVote) (xs : List KeptVote) → any p xs ≡ true → any p (x ∷ xs) ≡ true
any_kept p x xs h = elim (tell (p x)) [
  | inl a ↦ ap (λ (b : Bool). if b then true else any p xs) a
  | inr a ↦ ap (λ (b : Bool). if b then true else any p xs) a ∙ h
]

pub votes_more : (s : State) (k : KeptVote) → Facts s → (t : ℕ) → s.led t ≡ true
    → quorum s.members ≤ how_many (λ v. any (is_vote v (s.leader t) t) (k ∷ s.kept)) s.members
votes_more s k f t h =
    let more : how_many (λ v. any (is_vote v (s.leader t) t) s.kept) s.members
    ≤ how_many (λ v. any (is_vote v (s.leader t) t) (k ∷ s.kept)) s.members
    = count_grows (λ v. any (is_vote v (s.leader t) t) s.kept) (λ v. any (is_vote v (s.leader t) t) (k ∷ s.kept)) s.members
    (λ v c. any_kept (is_vote v (s.leader t) t) k s.kept c) in
    let old = f.led.votes t h in
    omega (arith, old, more)

pub not_first : (s : State) → Facts s → (m : ℕ) → MayWin s m → (w : ℕ) → s.led w ≡ true → w ≢ s.term m
not_first s f m h w l e = clash (s.led w) l (ap s.led e ∙ alone s f m h.role h.votes)

pub led_win : (s : State) (m : ℕ) → MayWin s m → Facts s
    → Led s.members (at s.led (s.term m) true) (at s.leader (s.term m) m) (at s.list (s.term m) (s.log m)) s.candidacies s.kept
led_win s m h f =
    record {
      candidacy = at3_each
          (λ t d l x. d ≡ true
          → (c : Candidacy) × (rest : List Entry) × In c s.candidacies × (c.candidate ≡ l) × (c.term ≡ t) × (x ≡ c.log ++ rest)
          × ((i : ℕ) → i < length rest → (get_or rest i (blank 0)).term ≡ t))
          s.led s.leader s.list (s.term m) true m (s.log m)
          (λ e. let c = f.running.stands m h.role in
          (c.0, [], c.1, c.2, c.3, sym c.4 ∙ sym (append-nil c.0.log), λ i h. absurd (omega (arith, h))))
          (λ t n. f.led.candidacy t);
      votes = at2_each (λ t d l. d ≡ true → quorum s.members ≤ how_many (λ v. any (is_vote v l t) s.kept) s.members) s.led s.leader
          (s.term m) true m
          (λ e. let more : how_many (s.votes m) s.members ≤ how_many (λ v. any (is_vote v m (s.term m)) s.kept) s.members
          = count_grows (s.votes m) (λ v. any (is_vote v m (s.term m)) s.kept) s.members counted in
          omega (arith, more, h.votes))
          (λ t n. f.led.votes t);
      rising = at_each (λ t x. IsRising x t) s.list (s.term m) (s.log m)
          (f.stored.rising m) (λ t n. f.led.rising t);
      log_limit = at_each (λ t x. length x ≤ log_limit) s.list (s.term m) (s.log m)
          (f.stored.log_limit m) (λ t n. f.led.log_limit t);
      well_formed = at_each (λ t x. (i : ℕ) → i < length x → IsWellFormed (get_or x i (blank 0))) s.list (s.term m) (s.log m)
          (f.stored.well_formed m)
          (λ t n. f.led.well_formed t);
      injective = at_each (λ t x. IsInjective x) s.list (s.term m) (s.log m) (f.stored.injective m)
          (λ t n. f.led.injective t);
    }
  where
    counted : (v : ℕ) → s.votes m v ≡ true → any (is_vote v m (s.term m)) s.kept ≡ true
    counted v c =
        let k = f.running.counted m v h.role c in
        let no_flag : k.0.led ≡ false
        = elim (tell k.0.led) [
          | inr e ↦ e
          | inl e ↦
              absurd (clash (s.led k.0.term) (f.votes.flagged k.0 k.1 e) (ap s.led k.4 ∙ alone s f m h.role h.votes))
        ]
        in
        any_there (is_vote v m (s.term m)) s.kept k.0 k.1
        (and_both (k.0.voter == v) ((k.0.candidate == m) && ((k.0.term == s.term m) && not k.0.led)) (eq-eqb k.0.voter v k.2)
        (and_both (k.0.candidate == m) ((k.0.term == s.term m) && not k.0.led) (eq-eqb k.0.candidate m k.3)
        (and_both (k.0.term == s.term m) (not k.0.led) (eq-eqb k.0.term (s.term m) k.4) (ap not no_flag))))

pub led_propose : (s : State) (m : ℕ) (e : Entry) → MayPropose s m e → Facts s
    → Led s.members s.led s.leader (at s.list (s.term m) (s.list (s.term m) ++ (e ∷ []))) s.candidacies s.kept
led_propose s m e h f =
    let after = stored_keeps s (Propose m e) h f in
    let leads = f.running.leads m h.role in
    let here : at s.log m (s.log m ++ (e ∷ [])) m ≡ s.list (s.term m) ++ (e ∷ [])
    = at_here s.log m m (s.log m ++ (e ∷ [])) refl ∙ ap (λ (l : List Entry). l ++ (e ∷ [])) leads.2 in
    record {
      candidacy = at_each
          (λ t x. s.led t ≡ true
          → (c : Candidacy) × (rest : List Entry) × In c s.candidacies × (c.candidate ≡ s.leader t) × (c.term ≡ t) × (x ≡ c.log ++ rest)
          × ((i : ℕ) → i < length rest → (get_or rest i (blank 0)).term ≡ t))
          s.list (s.term m) (s.list (s.term m) ++ (e ∷ []))
          (λ d. let c = f.led.candidacy (s.term m) d in (
            c.0,
            c.1 ++ (e ∷ []),
            c.2,
            c.3,
            c.4,
            ap (λ (l : List Entry). l ++ (e ∷ [])) c.5
                ∙ append_assoc c.0.log c.1 (e ∷ []),
            each_snoc (λ x. x.term ≡ s.term m) c.1 e c.6 h.own_term,
          ))
          (λ t n. f.led.candidacy t);
      votes = f.led.votes;
      rising = at_each (λ t x. IsRising x t) s.list (s.term m) (s.list (s.term m) ++ (e ∷ []))
          (subst (λ (x : List Entry). IsRising x (s.term m)) here (after.rising m)) (λ t n. f.led.rising t);
      log_limit = at_each (λ t x. length x ≤ log_limit) s.list (s.term m) (s.list (s.term m) ++ (e ∷ []))
          (subst (λ (x : List Entry). length x ≤ log_limit) here (after.log_limit m)) (λ t n. f.led.log_limit t);
      well_formed = at_each (λ t x. (i : ℕ) → i < length x → IsWellFormed (get_or x i (blank 0))) s.list (s.term m)
          (s.list (s.term m) ++ (e ∷ []))
          (subst (λ (x : List Entry). (i : ℕ) → i < length x → IsWellFormed (get_or x i (blank 0))) here (after.well_formed m))
          (λ t n. f.led.well_formed t);
      injective = at_each (λ t x. IsInjective x) s.list (s.term m) (s.list (s.term m) ++ (e ∷ []))
          (subst IsInjective here (after.injective m)) (λ t n. f.led.injective t);
    }

pub led_keeps : (s : State) (e : Micro) → May s e → Facts s
    → Led (did s e).members (did s e).led (did s e).leader (did s e).list (did s e).candidacies (did s e).kept
led_keeps s (Stand m) may f = record {
  candidacy = λ t h. let c = f.led.candidacy t h in (c.0, c.1, inr c.2, c.3, c.4, c.5, c.6);
  votes = votes_more s (record { voter = m; candidate = m; term = s.term m; log = s.log m; led = s.led (s.term m) }) f;
  rising = f.led.rising;
  log_limit = f.led.log_limit;
  well_formed = f.led.well_formed;
  injective = f.led.injective;
}
led_keeps s (Grant m n r) may f = record {
  candidacy = f.led.candidacy;
  votes = votes_more s (record { voter = m; candidate = r.from; term = r.term; log = s.log m; led = s.led r.term }) f;
  rising = f.led.rising;
  log_limit = f.led.log_limit;
  well_formed = f.led.well_formed;
  injective = f.led.injective;
}
led_keeps s (Win m) may f = led_win s m may f
led_keeps s (Propose m e) may f = led_propose s m e may f
led_keeps s _ may f = f.led
