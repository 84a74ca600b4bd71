-- Commits and the ledger last through every micro move.
use Rattle.std.proofs.Common.{◌≡◌, ◌≢◌, ℕ, suc, ◌+◌, ◌-◌, ◌<◌, ◌≤◌, Bool, true, false, List, [], ◌∷◌, ◌++◌, length, refl, arith, sym, ◌∙◌, ap, subst, inl, inr, ◌⊎◌, take, get_or, length-append, if◌then◌else◌, min}
use Rattle.std.specs.Prelude.{◌==◌, ◌&&◌, nat_le, nat_lt, replicate}
use Rattle.std.proofs.lemmas.List.{take-take, get_or_append_left, take_all, length-take-le}
use Rattle.std.proofs.lemmas.Bool.{eqb-true, eq-eqb, leb-true, le-leb}
use Rattle.std.proofs.lemmas.List.{append-nil, length-replicate, get_or-replicate}
use Rattle.std.proofs.Math.Seq.{get_or-append_right}
use Rattle.std.proofs.Math.Nat.{min-le_left, min-le_right}
use Rattle.can_frame.specs.declared.entry.Entry.{Entry}
use Rattle.can_frame.specs.Log.{blank}
use Rattle.raft_model.specs.Log.{Same, term_at}
use Rattle.raft_model.specs.Messages.{Request, Answer, reach, Message}
use Rattle.raft_model.specs.Lists.{at, any, how_many, at_other}
use Rattle.raft_model.specs.Messages.Message.{Answers}
use Rattle.raft_model.proofs.Micro.{State, Micro, did, May, MayWin, MayCommit, MayAdvance}
use Rattle.raft_model.specs.Ledger.{ledger_after, stamps_after}
use Rattle.raft_model.proofs.Micro.Micro.{Raise, Win, Cut, Grow, Advance, Propose, Commit, CallVote, CallAppend, Post}
use Rattle.raft_model.proofs.Facts.{Facts, Committed, IsSettled, Firm, has_acked, is_ack}
use Rattle.raft_model.proofs.Quorum.{tell, any_there, count_grows}
use Rattle.raft_model.proofs.Lists.{same_less, same_get, same_append, term_at_less, list_more, longer}
use Rattle.raft_model.proofs.At.{at_each}
use Rattle.raft_model.proofs.Alone.{alone}
use Rattle.raft_model.proofs.Agree.{agree}
use Rattle.raft_model.proofs.Firm.{settled_same}
use Rattle.raft_model.proofs.Complete.{less_or}

pub settled_more : (s : State) (led : ℕ → Bool) (leader : ℕ → ℕ) (list : ℕ → List Entry) (bag : List Message) →
    ((t k : ℕ) → Firm s.members s.led s.leader s.list s.bag t k → Firm s.members led leader list bag t k) →
    ((t j : ℕ) → s.led t ≡ true → j ≤ length (s.list t) → Same j (list t) (s.list t)) →
    (l : List Entry) (t : ℕ) → IsSettled s.members s.led s.leader s.list s.bag l t → IsSettled s.members led leader list bag l t
settled_more s led leader list bag fm sm l t a =
    (a.0, a.1, fm t a.0 a.2, a.3 ∙ sym (sm t (length l) a.2.there (omega (arith, a.1, a.2.inside))))

-- a beginning of what is settled is settled
pub settled_less : (s : State) (l : List Entry) (c t : ℕ) → c ≤ length l → IsSettled s.members s.led s.leader s.list s.bag l t
    → IsSettled s.members s.led s.leader s.list s.bag (take c l) t
settled_less s l c t h a =
    let n : length (take c l) ≡ c = length-take-le c l h in
    let g : Same c (take c l) (s.list t) = take-take c c l (omega arith) ∙ same_less c (length l) l (s.list t) h a.3 in
    (a.0, omega (arith, n, h, a.1), a.2, subst (λ (j : ℕ). Same j (take c l) (s.list t)) (sym n) g)

-- where commit, requests and ledger stay
pub committed_move : (s : State) → Facts s
    → (led : ℕ → Bool) (leader : ℕ → ℕ) (list : ℕ → List Entry) (bag : List Message) (term : ℕ → ℕ) (log : ℕ → List Entry) →
    ((t k : ℕ) → Firm s.members s.led s.leader s.list s.bag t k → Firm s.members led leader list bag t k) →
    ((t j : ℕ) → s.led t ≡ true → j ≤ length (s.list t) → Same j (list t) (s.list t)) →
    ((t : ℕ) → s.led t ≡ true → length (s.list t) ≤ length (list t)) →
    ((m : ℕ) → s.term m ≤ term m) →
    ((m : ℕ) → Same (s.commit m) (log m) (s.log m)) →
    Committed s.members led leader list bag term s.commit log s.requests s.ledger s.stamps
committed_move s f led leader list bag term log fm sm len tm lm = record {
  server = λ m. elim (f.committed.server m) [
    | inl z ↦ inl z
    | inr r ↦ let up : r.0 ≤ term m = omega (arith, r.1, tm m) in
        inr (
          r.0,
          up,
          subst (λ (x : List Entry). IsSettled s.members led leader list bag x r.0) (sym (lm m))
              (settled_more s led leader list bag fm sm (take (s.commit m) (s.log m)) r.0 r.2),
        )
  ];
  below = f.committed.below;
  request = λ r i k.
      let g = f.committed.request r i k in
      let q = f.asked.append r i k in (
        g.0,
        omega (arith, g.1, len r.term q.0),
        elim g.2 [
          | inl z ↦ inl z
          | inr x ↦
              inr (
                x.0,
                x.1,
                subst (λ (y : List Entry). IsSettled s.members led leader list bag y x.0) (sym (sm r.term r.commit q.0 g.1))
                    (settled_more s led leader list bag fm sm (take r.commit (s.list r.term)) x.0 x.2),
              )
        ],
      );
  stamped = f.committed.stamped;
  place = λ i b. settled_more s led leader list bag fm sm (take (i + 1) s.ledger) (get_or s.stamps i 0) (f.committed.place i b);
}

pub any_more : (p : Message → Bool) (x : Message) (xs : List Message) → any p xs ≡ true → any p (x ∷ xs) ≡ true
any_more p x xs h = elim (tell (p x)) [
  | inl a ↦ ap (λ (b : Bool). if b then true else any p xs) a
  | inr a ↦ ap (λ (b : Bool). if b then true else any p xs) a ∙ h
]

pub firm_post : (s : State) (g : Message) (t k : ℕ) → Firm s.members s.led s.leader s.list s.bag t k
    → Firm s.members s.led s.leader s.list (g ∷ s.bag) t k
firm_post s g t k a = record {
  there = a.there;
  low = a.low;
  inside = a.inside;
  own_term = a.own_term;
  held = let more : how_many (has_acked s.leader s.bag t k) s.members
      ≤ how_many (has_acked s.leader (g ∷ s.bag) t k) s.members = count_grows (has_acked s.leader s.bag t k)
      (has_acked s.leader (g ∷ s.bag) t k) s.members
      (λ m h. elim (tell (s.leader t == m)) [
        | inl e ↦ ap (λ (b : Bool). if b then true else any (is_ack m t k) (g ∷ s.bag)) e
        | inr e ↦
            let old : any (is_ack m t k) s.bag ≡ true = sym (ap (λ (b : Bool). if b then true else any (is_ack m t k) s.bag) e) ∙ h in
            ap (λ (b : Bool). if b then true else any (is_ack m t k) (g ∷ s.bag)) e ∙ any_more (is_ack m t k) g s.bag old
      ]) in
      omega (arith, a.held, more);
}

pub committed_win : (s : State) (m : ℕ) → MayWin s m → Facts s
    → Committed s.members (at s.led (s.term m) true) (at s.leader (s.term m) m) (at s.list (s.term m) (s.log m)) s.bag s.term s.commit
    s.log s.requests s.ledger s.stamps
committed_win s m h f = committed_move s f (at s.led (s.term m) true) (at s.leader (s.term m) m) (at s.list (s.term m) (s.log m))
    s.bag s.term s.log
    (λ t k a. let n = not_first t a.there in record {
      there = at_other s.led (s.term m) t true n ∙ a.there;
      low = a.low;
      inside = subst (λ (x : List Entry). k ≤ length x) (sym (at_other s.list (s.term m) t (s.log m) n)) a.inside;
      own_term = ap (λ (x : List Entry). term_at x k) (at_other s.list (s.term m) t (s.log m) n) ∙ a.own_term;
      held = let more : how_many (has_acked s.leader s.bag t k) s.members
          ≤ how_many (has_acked (at s.leader (s.term m) m) s.bag t k) s.members = count_grows (has_acked s.leader s.bag t k)
          (has_acked (at s.leader (s.term m) m) s.bag t k) s.members
          (λ q c. ap (λ (x : ℕ). if x == q then true else any (is_ack q t k) s.bag) (at_other s.leader (s.term m) t m n) ∙ c) in omega
          (arith, a.held, more);
    })
    (λ t j l c. ap (take j) (at_other s.list (s.term m) t (s.log m) (not_first t l)))
    (λ t l. subst (λ (x : List Entry). length (s.list t) ≤ length x) (sym
    (at_other s.list (s.term m) t (s.log m) (not_first t l))) (omega arith))
    (λ i. omega arith)
    (λ i. refl)
  where
    not_first : (w : ℕ) → s.led w ≡ true → w ≢ s.term m
    not_first w l e = two (sym l ∙ (ap s.led e ∙ alone s f m h.role h.votes))
      where
        two : true ≡ false → ⊥
        two e = cc

pub committed_propose : (s : State) (m : ℕ) (e : Entry) → Facts s
    → Committed s.members s.led s.leader (at s.list (s.term m) (s.list (s.term m) ++ (e ∷ []))) s.bag s.term s.commit
    (at s.log m (s.log m ++ (e ∷ []))) s.requests s.ledger s.stamps
committed_propose s m e f = committed_move s f s.led s.leader (at s.list (s.term m) (s.list (s.term m) ++ (e ∷ []))) s.bag s.term
    (at s.log m (s.log m ++ (e ∷ [])))
    (λ t k a. record {
      there = a.there;
      low = a.low;
      inside = omega (arith, a.inside, longer s.list (s.term m) e t);
      own_term =
          let one : get_or (at s.list (s.term m) (s.list (s.term m) ++ (e ∷ [])) t) (k - 1) (blank 0) ≡ get_or (s.list t) (k - 1) (blank 0)
          = same_get k (k - 1) (at s.list (s.term m) (s.list (s.term m) ++ (e ∷ [])) t) (s.list t) (omega (arith, a.low))
          (list_more s.list (s.term m) e t k a.inside) in
          term_at_less (at s.list (s.term m) (s.list (s.term m) ++ (e ∷ [])) t) k a.low
          ∙ (ap (λ (x : Entry). x.term) one ∙ (sym (term_at_less (s.list t) k a.low) ∙ a.own_term));
      held = a.held;
    })
    (λ t j l c. list_more s.list (s.term m) e t j c) (λ t l. longer s.list (s.term m) e t) (λ i. omega arith)
    (λ i. list_more s.log m e i (s.commit i) (f.stored.within i))

pub committed_log : (s : State) → Facts s → (m : ℕ) (l : List Entry) → Same (s.commit m) l (s.log m)
    → Committed s.members s.led s.leader s.list s.bag s.term s.commit (at s.log m l) s.requests s.ledger s.stamps
committed_log s f m l h = committed_move s f s.led s.leader s.list s.bag s.term (at s.log m l) (λ t k a. a) (λ t j a b. refl)
    (λ t a. omega arith) (λ i. omega arith) (at_each (λ i x. Same (s.commit i) x (s.log i)) s.log m l h (λ i n. refl))

-- a ledger that is long enough stays
pub ledger_stays : (s : State) (l : List Entry) (k : ℕ) → k ≤ length s.ledger → ledger_after s.ledger l k ≡ s.ledger
ledger_stays s l k h = elim (tell (nat_lt (length s.ledger) k)) [
  | inr e ↦ ap (λ (b : Bool). if b then take k l else s.ledger) e
  | inl e ↦ absurd (omega (arith, leb-true (suc (length s.ledger)) k e, h))
]

pub stamps_stay : (s : State) (t k : ℕ) → k ≤ length s.stamps → stamps_after s.stamps t k ≡ s.stamps
stamps_stay s t k h = let e : k - length s.stamps ≡ 0 = omega (arith, h) in
    ap (λ (n : ℕ). s.stamps ++ replicate n t) e ∙ append-nil s.stamps

pub and_both : (a b : Bool) → a ≡ true → b ≡ true → (a && b) ≡ true
and_both true b h k = k
and_both false b h k = absurd (cc)

-- the place that a leader commits is firm
pub firm_commit : (s : State) (m k : ℕ) → MayCommit s m k → Facts s → Firm s.members s.led s.leader s.list s.bag (s.term m) k
firm_commit s m k h f =
    let leads = f.running.leads m h.role in
    record {
      there = leads.0;
      low = omega (arith, h.above);
      inside = subst (λ (x : List Entry). k ≤ length x) leads.2 h.inside;
      own_term = ap (λ (x : List Entry). term_at x k) (sym leads.2) ∙ h.own_term;
      held = let more : how_many (λ q. if q == m then true else nat_le k (s.matched m q)) s.members
          ≤ how_many (has_acked s.leader s.bag (s.term m) k) s.members =
          count_grows (λ q. if q == m then true else nat_le k (s.matched m q)) (has_acked s.leader s.bag (s.term m) k) s.members
          (λ q c. one q c) in
          omega (arith, h.held, more);
    }
  where
    two : true ≡ false → ⊥
    two e = cc

    low : 1 ≤ k
    low = omega (arith, h.above)

    from : (q : ℕ) (a : Answer) → a.from ≡ q → a.success ≡ true → a.request.append ≡ true → a.request.term ≡ s.term m → k ≤ reach a.request
        → is_ack q (s.term m) k (Answers a) ≡ true
    from q a e1 e2 e3 e4 e5 =
        and_both (a.from == q) (a.success && (a.request.append && ((a.request.term == s.term m) && nat_le k (reach a.request))))
        (eq-eqb a.from q e1)
        (and_both a.success (a.request.append && ((a.request.term == s.term m) && nat_le k (reach a.request))) e2
        (and_both a.request.append ((a.request.term == s.term m) && nat_le k (reach a.request)) e3
        (and_both (a.request.term == s.term m) (nat_le k (reach a.request)) (eq-eqb a.request.term (s.term m) e4) (le-leb k (reach a.request) e5))))

    one : (q : ℕ) → (if q == m then true else nat_le k (s.matched m q)) ≡ true → has_acked s.leader s.bag (s.term m) k q ≡ true
    one q c = elim (tell (s.leader (s.term m) == q)) [
      | inl e ↦ ap (λ (b : Bool). if b then true else any (is_ack q (s.term m) k) s.bag) e
      | inr e ↦ elim (tell (q == m)) [
        | inl g ↦ absurd (two (sym (eq-eqb (s.leader (s.term m)) q ((f.running.leads m h.role).1 ∙ sym (eqb-true q m g))) ∙ e))
        | inr g ↦
            let le : k ≤ s.matched m q
            = leb-true k (s.matched m q) (sym (ap (λ (b : Bool). if b then true else nat_le k (s.matched m q)) g) ∙ c) in
            elim (f.matched.acked m q h.role) [
              | inl z ↦ absurd (omega (arith, z, le, low))
              | inr a ↦ ap (λ (b : Bool). if b then true else any (is_ack q (s.term m) k) s.bag) e ∙
                  any_there (is_ack q (s.term m) k) s.bag (Answers a.0) a.1 (from q a.0 a.2 a.3 a.4 a.5 (omega (arith, a.6, le)))
            ]
      ]
    ]

pub committed_commit : (s : State) (m k : ℕ) → MayCommit s m k → Facts s
    → Committed s.members s.led s.leader s.list s.bag s.term (at s.commit m k) s.log s.requests (ledger_after s.ledger (s.log m) k)
    (stamps_after s.stamps (s.term m) k)
committed_commit s m k h f = elim (less_or k (length s.ledger)) [
  | inl short ↦
      let le : ledger_after s.ledger (s.log m) k ≡ s.ledger = ledger_stays s (s.log m) k short in
      let st : stamps_after s.stamps (s.term m) k ≡ s.stamps = stamps_stay s (s.term m) k (omega (arith, short, f.committed.stamped)) in
      let g : Committed s.members s.led s.leader s.list s.bag s.term (at s.commit m k) s.log s.requests s.ledger s.stamps = record {
        server = server;
        below = at_each (λ i c. c ≤ length s.ledger) s.commit m k short (λ i n. f.committed.below i);
        request = f.committed.request;
        stamped = f.committed.stamped;
        place = f.committed.place;
      } in
      subst
      (λ (x : List Entry). Committed s.members s.led s.leader s.list s.bag s.term (at s.commit m k) s.log s.requests x
      (stamps_after s.stamps (s.term m) k))
      (sym le)
      (subst (λ (y : List ℕ). Committed s.members s.led s.leader s.list s.bag s.term (at s.commit m k) s.log s.requests s.ledger y) (sym st) g)
  | inr long ↦
      let le : ledger_after s.ledger (s.log m) k ≡ take k (s.log m)
      = ap (λ (b : Bool). if b then take k (s.log m) else s.ledger) (le-leb (suc (length s.ledger)) k (omega (arith, long))) in
      let g : Committed s.members s.led s.leader s.list s.bag s.term (at s.commit m k) s.log s.requests (take k (s.log m))
      (stamps_after s.stamps (s.term m) k) = record {
        server = server;
        below = at_each (λ i c. c ≤ length (take k (s.log m))) s.commit m k (omega (arith, n))
            (λ i z. omega (arith, n, long, f.committed.below i));
        request = λ r i z. let q = f.committed.request r i z in (omega (arith, q.0, n, long), q.1, q.2);
        stamped = omega (
          arith,
          n,
          long,
          f.committed.stamped,
          length-append s.stamps (replicate (k - length s.stamps) (s.term m)),
          length-replicate (k - length s.stamps) (s.term m),
        );
        place = λ i b. place long i b;
      } in
      subst
      (λ (x : List Entry). Committed s.members s.led s.leader s.list s.bag s.term (at s.commit m k) s.log s.requests x
      (stamps_after s.stamps (s.term m) k))
      (sym le) g
]
  where
    n : length (take k (s.log m)) ≡ k
    n = length-take-le k (s.log m) h.inside

    whole : IsSettled s.members s.led s.leader s.list s.bag (take k (s.log m)) (s.term m)
    whole =
        let nothing_unsynced = firm_commit s m k h f in (
          k,
          omega (arith, n),
          nothing_unsynced,
          ap (λ (j : ℕ). take j (take k (s.log m))) n
              ∙ (take-take k k (s.log m) (omega arith)
              ∙ (ap (take k) (f.running.leads m h.role).2 ∙ ap (λ (j : ℕ). take j (s.list (s.term m))) (sym n))),
        )

    server : (i : ℕ)
        → (at s.commit m k i ≡ 0)
        ⊎ ((t : ℕ) × (t ≤ s.term i) × IsSettled s.members s.led s.leader s.list s.bag (take (at s.commit m k i) (s.log i)) t)
    server = at_each (λ i c. (c ≡ 0) ⊎ ((t : ℕ) × (t ≤ s.term i) × IsSettled s.members s.led s.leader s.list s.bag (take c (s.log i)) t))
        s.commit m k (inr (s.term m, omega arith, whole)) (λ i z. f.committed.server i)

    place : length s.ledger < k → (i : ℕ) → i < length (take k (s.log m))
        → IsSettled s.members s.led s.leader s.list s.bag (take (i + 1) (take k (s.log m)))
        (get_or (stamps_after s.stamps (s.term m) k) i 0)
    place long i b = elim (less_or (length s.ledger) i) [
      | inl new ↦
          let e : get_or (stamps_after s.stamps (s.term m) k) i 0 ≡ s.term m
          = get_or-append_right s.stamps (replicate (k - length s.stamps) (s.term m)) i 0 (omega (arith, new, f.committed.stamped))
          ∙ get_or-replicate (k - length s.stamps) (i - length s.stamps) (s.term m) 0
          (omega (arith, new, b, n, f.committed.stamped)) in
          subst (λ (t : ℕ). IsSettled s.members s.led s.leader s.list s.bag (take (i + 1) (take k (s.log m))) t) (sym e)
          (settled_less s (take k (s.log m)) (i + 1) (s.term m) (omega (arith, b)) whole)
      | inr old ↦
          let e : get_or (stamps_after s.stamps (s.term m) k) i 0 ≡ get_or s.stamps i 0
          = get_or_append_left s.stamps (replicate (k - length s.stamps) (s.term m)) 0 i (omega (arith, old, f.committed.stamped)) in
          let last : length s.ledger - 1 < length s.ledger = omega (arith, old) in
          let nn : (length s.ledger - 1) + 1 ≡ length s.ledger = omega (arith, old) in
          let w0 = f.committed.place (length s.ledger - 1) last in
          let w1 : IsSettled s.members s.led s.leader s.list s.bag (take (length s.ledger) s.ledger)
          (get_or s.stamps (length s.ledger - 1) 0)
          = subst
          (λ (j : ℕ). IsSettled s.members s.led s.leader s.list s.bag (take j s.ledger) (get_or s.stamps (length s.ledger - 1) 0))
          nn w0 in
          let w2 : IsSettled s.members s.led s.leader s.list s.bag s.ledger (get_or s.stamps (length s.ledger - 1) 0)
          = subst (λ (x : List Entry). IsSettled s.members s.led s.leader s.list s.bag x (get_or s.stamps (length s.ledger - 1) 0))
          (take_all (length s.ledger) s.ledger (omega arith)) w1 in
          let same : Same (length s.ledger) s.ledger (take k (s.log m))
          = settled_same s f s.ledger (take k (s.log m)) (get_or s.stamps (length s.ledger - 1) 0) (s.term m) w2 whole
          (omega (arith, n, long)) in
          let less : Same (i + 1) s.ledger (take k (s.log m))
          = same_less (i + 1) (length s.ledger) s.ledger (take k (s.log m)) (omega (arith, old)) same in
          subst (λ (t : ℕ). IsSettled s.members s.led s.leader s.list s.bag (take (i + 1) (take k (s.log m))) t) (sym e)
          (subst (λ (x : List Entry). IsSettled s.members s.led s.leader s.list s.bag x (get_or s.stamps i 0)) less (f.committed.place i old))
    ]

pub committed_advance : (s : State) (m : ℕ) (r : Request) → MayAdvance s m r → Facts s
    → Committed s.members s.led s.leader s.list s.bag s.term (at s.commit m (min r.commit (reach r))) s.log s.requests
    (ledger_after s.ledger (s.log m) (min r.commit (reach r))) (stamps_after s.stamps (s.term m) (min r.commit (reach r)))
committed_advance s m r h f =
    let i = f.posted.request r h.holds.fits.in_bag in
    let q = f.committed.request r i h.holds.fits.kind in
    let a = agree s f m r h.holds in
    let c : ℕ = min r.commit (reach r) in
    let short : min r.commit (reach r) ≤ length s.ledger = omega (arith, q.0, min-le_left r.commit (reach r)) in
    let le : ledger_after s.ledger (s.log m) (min r.commit (reach r)) ≡ s.ledger
    = ledger_stays s (s.log m) (min r.commit (reach r)) short in
    let st : stamps_after s.stamps (s.term m) (min r.commit (reach r)) ≡ s.stamps
    = stamps_stay s (s.term m) (min r.commit (reach r)) (omega (arith, short, f.committed.stamped)) in
    let same : Same (min r.commit (reach r)) (s.log m) (s.list r.term)
    = same_less (min r.commit (reach r)) (reach r) (s.log m) (s.list r.term) (min-le_right r.commit (reach r)) a.2 in
    let here : (min r.commit (reach r) ≡ 0)
    ⊎ ((t : ℕ) × (t ≤ s.term m) × IsSettled s.members s.led s.leader s.list s.bag (take (min r.commit (reach r)) (s.log m)) t)
    = elim q.2 [
      | inl z ↦ inl (omega (arith, z, min-le_left r.commit (reach r)))
      | inr x ↦
          let up : x.0 ≤ s.term m = omega (arith, x.1, h.holds.fits.own_term) in
          let less
          = settled_less s (take r.commit (s.list r.term)) (min r.commit (reach r)) x.0
          (omega (arith, length-take-le r.commit (s.list r.term) q.1, min-le_left r.commit (reach r))) x.2 in
          inr (
            x.0,
            up,
            subst (λ (y : List Entry). IsSettled s.members s.led s.leader s.list s.bag y x.0)
                (take-take (min r.commit (reach r)) r.commit (s.list r.term) (min-le_left r.commit (reach r)) ∙ sym same) less,
          )
    ] in
    let g : Committed s.members s.led s.leader s.list s.bag s.term (at s.commit m (min r.commit (reach r))) s.log s.requests
    s.ledger s.stamps = record {
      server = at_each (λ i c. (c ≡ 0) ⊎ ((t : ℕ) × (t ≤ s.term i) × IsSettled s.members s.led s.leader s.list s.bag (take c (s.log i)) t))
          s.commit m (min r.commit (reach r)) here (λ i z. f.committed.server i);
      below = at_each (λ i c. c ≤ length s.ledger) s.commit m (min r.commit (reach r)) short (λ i n. f.committed.below i);
      request = f.committed.request;
      stamped = f.committed.stamped;
      place = f.committed.place;
    } in
    subst
    (λ (x : List Entry). Committed s.members s.led s.leader s.list s.bag s.term (at s.commit m (min r.commit (reach r))) s.log
    s.requests x (stamps_after s.stamps (s.term m) (min r.commit (reach r))))
    (sym le)
    (subst
    (λ (y : List ℕ). Committed s.members s.led s.leader s.list s.bag s.term (at s.commit m (min r.commit (reach r))) s.log
    s.requests s.ledger y)
    (sym st) g)

pub committed_keeps : (s : State) (e : Micro) → May s e → Facts s
    → Committed (did s e).members (did s e).led (did s e).leader (did s e).list (did s e).bag (did s e).term (did s e).commit (did s e).log
    (did s e).requests (did s e).ledger (did s e).stamps
committed_keeps s (Raise m t) may f = committed_move s f s.led s.leader s.list s.bag (at s.term m t) s.log (λ t k a. a) (λ t j a b. refl)
    (λ t a. omega arith) (at_each (λ i c. s.term i ≤ c) s.term m t (omega (arith, may.1)) (λ i n. omega arith)) (λ i. refl)
committed_keeps s (Win m) may f = committed_win s m may f
committed_keeps s (Propose m e) may f = committed_propose s m e f
committed_keeps s (Cut m r e) may f = committed_log s f m (take r.previous (s.log m))
    (take-take (s.commit m) r.previous (s.log m) may.after_commit)
committed_keeps s (Grow m r e) may f = committed_log s f m (s.log m ++ (e ∷ []))
    (same_append (s.commit m) (s.log m) (e ∷ []) (f.stored.within m))
committed_keeps s (Advance m r) may f = committed_advance s m r may f
committed_keeps s (Commit m k) may f = committed_commit s m k may f
committed_keeps s (Post g) may f = committed_move s f s.led s.leader s.list (g ∷ s.bag) s.term s.log (firm_post s g) (λ t j a b. refl)
    (λ t a. omega arith) (λ i. omega arith) (λ i. refl)
committed_keeps s (CallVote m n q) may f = record {
  server = f.committed.server;
  below = f.committed.below;
  stamped = f.committed.stamped;
  place = f.committed.place;
  request = λ r i k. elim i [ inl e ↦ absurd (no_vote (sym k ∙ ap (λ (z : Request). z.append) e)) | inr j ↦ f.committed.request r j k ];
}
  where
    no_vote : true ≡ false → ⊥
    no_vote e = cc
committed_keeps s (CallAppend m n q p w) may f = record {
  server = f.committed.server;
  below = f.committed.below;
  stamped = f.committed.stamped;
  place = f.committed.place;
  request = λ r i k. elim i [
    | inr j ↦ f.committed.request r j k
    | inl e ↦
        let leads = f.running.leads m may.0.role in
        let all : (s.commit m ≤ length s.ledger) × (s.commit m ≤ length (s.list (s.term m)))
        × ((s.commit m ≡ 0)
        ⊎ ((t : ℕ) × (t ≤ s.term m) × IsSettled s.members s.led s.leader s.list s.bag (take (s.commit m) (s.list (s.term m))) t)) =
        subst
        (λ (x : List Entry). (s.commit m ≤ length s.ledger) × (s.commit m ≤ length x)
        × ((s.commit m ≡ 0) ⊎ ((t : ℕ) × (t ≤ s.term m) × IsSettled s.members s.led s.leader s.list s.bag (take (s.commit m) x) t)))
        leads.2 (f.committed.below m, f.stored.within m, f.committed.server m) in
        subst
        (λ (z : Request). (z.commit ≤ length s.ledger) × (z.commit ≤ length (s.list z.term))
        × ((z.commit ≡ 0) ⊎ ((t : ℕ) × (t ≤ z.term) × IsSettled s.members s.led s.leader s.list s.bag (take z.commit (s.list z.term)) t)))
        (sym e) all
  ];
}
committed_keeps s _ may f = f.committed
