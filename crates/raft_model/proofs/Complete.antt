-- Every later list begins with what is firm.
use Rattle.std.proofs.Common.{◌≡◌, ℕ, zero, suc, ◌+◌, ◌-◌, ◌<◌, ◌≤◌, Bool, true, false, List, [], ◌∷◌, ◌++◌, length, refl, arith, sym, ◌∙◌, ap, subst, inl, inr, ◌⊎◌, take, get_or}
use Rattle.std.specs.Prelude.{◌==◌, ◌&&◌, not, nat_le}
use Rattle.std.proofs.lemmas.Bool.{eqb-true, leb-true}
use Rattle.std.proofs.lemmas.Bool.Decides.{leb_tells}
use Rattle.can_frame.specs.declared.entry.Entry.{Entry}
use Rattle.can_frame.specs.Log.{blank, last_term}
use Rattle.raft_model.specs.Log.{IsRising, NotAbove, Same, term_at}
use Rattle.raft_model.specs.History.{KeptVote}
use Rattle.raft_model.specs.Messages.{Answer, Message, reach}
use Rattle.raft_model.specs.Lists.{In, any}
use Rattle.raft_model.specs.Messages.Message.{Requests, Answers, Pairs}
use Rattle.raft_model.proofs.Micro.{State}
use Rattle.raft_model.specs.Invariants.{is_vote}
use Rattle.raft_model.proofs.Facts.{Facts, Firm, IsMatching, Acked, is_ack, has_acked}
use Rattle.raft_model.proofs.Quorum.{tell, quorums_meet, any_found}
use Rattle.raft_model.proofs.Lists.{same_less, same_get, same_length, same_append, term_at_less, ending, same_last}

pub and_left : (a b : Bool) → (a && b) ≡ true → a ≡ true
and_left true b h = refl
and_left false b h = h

pub and_right : (a b : Bool) → (a && b) ≡ true → b ≡ true
and_right true b h = h
and_right false b h = absurd (cc)

pub not_true : (b : Bool) → not b ≡ true → b ≡ false
not_true true h = absurd (cc)
not_true false h = refl

pub nonempty : (c : List Entry) → 1 ≤ last_term c → 1 ≤ length c
nonempty [] h = absurd (omega (arith, h))
nonempty (e ∷ es) h = omega arith

pub less_or : (a b : ℕ) → (a ≤ b) ⊎ (b < a)
less_or a b = elim (leb_tells a b) [ inl h ↦ inl h.1 | inr h ↦ inr h.1 ]

-- what a voter's log holds, the log of a candidacy that is not below it holds
pub passes_on : (led : ℕ → Bool) (list : ℕ → List Entry) (l c : List Entry) (t k u : ℕ) (top : ℕ) →
    IsMatching led list l → IsMatching led list c → IsRising l top → ((i : ℕ) → i < length c → (get_or c i (blank 0)).term < u)
    → IsRising (list t) t →
    1 ≤ k → k ≤ length (list t) → term_at (list t) k ≡ t → Same k l (list t) →
    NotAbove (last_term l) (length l) (last_term c) (length c) →
    ((w : ℕ) → w < u → t < w → led w ≡ true → Same k (list w) (list t)) →
    Same k c (list t) × (k ≤ length c)
passes_on led list l c t k u top ml mc rl below rt low inside own same not_above ih =
    let kl : k ≤ length l = same_length k l (list t) inside same in
    elim not_above [
      | inr h ↦
          let s : Same (length l) l c = same_last led list l c ml mc (omega (arith, kl, low)) h.1 h.0 in
          (sym (same_less k (length l) l c kl s) ∙ same, omega (arith, kl, h.1))
      | inl h ↦
          let at_k : (get_or l (k - 1) (blank 0)).term ≡ t
          = ap (λ (e : Entry). e.term) (same_get k (k - 1) l (list t) (omega (arith, low)) same)
          ∙ (sym (term_at_less (list t) k low) ∙ own) in
          let last_l : last_term l ≡ (get_or l (length l - 1) (blank 0)).term = term_at_less l (length l) (omega (arith, kl, low)) in
          let risen : (get_or l (k - 1) (blank 0)).term ≤ (get_or l (length l - 1) (blank 0)).term
          = rl.rises (k - 1) (length l - 1) (omega (arith, kl)) (omega (arith, kl, low)) in
          let t_below : t < last_term c = omega (arith, h, at_k, last_l, risen) in
          let some : 1 ≤ length c = nonempty c (omega (arith, t_below)) in
          let e : (led (last_term c) ≡ true) × (length c ≤ length (list (last_term c))) × Same (length c) c (list (last_term c))
          = ending led list c mc some in
          let last_c : last_term c ≡ (get_or c (length c - 1) (blank 0)).term = term_at_less c (length c) some in
          let s_below : last_term c < u
          = let b : (get_or c (length c - 1) (blank 0)).term < u = below (length c - 1) (omega (arith, some)) in
          omega (arith, b, last_c) in
          let begins : Same k (list (last_term c)) (list t) = ih (last_term c) s_below t_below e.0 in
          let long : k ≤ length c = elim (less_or k (length c)) [
            | inl g ↦ g
            | inr g ↦
                let one : get_or c (length c - 1) (blank 0) ≡ get_or (list t) (length c - 1) (blank 0) =
                same_get (length c) (length c - 1) c (list (last_term c)) (omega (arith, some)) e.2
                ∙ same_get k (length c - 1) (list (last_term c)) (list t) (omega (arith, g)) begins in
                let two : (get_or (list t) (length c - 1) (blank 0)).term ≤ t = rt.high (length c - 1) (omega (arith, g, inside)) in
                let three : (get_or c (length c - 1) (blank 0)).term ≡ (get_or (list t) (length c - 1) (blank 0)).term
                = ap (λ (z : Entry). z.term) one in
                absurd (omega (arith, two, three, last_c, t_below))
          ] in
          (same_less k (length c) c (list (last_term c)) long e.2 ∙ begins, long)
    ]

-- a member that acknowledged place k is one that acknowledged it in the model
pub acked_there : (s : State) → Facts s → (t k m : ℕ) → s.led t ≡ true → k ≤ length (s.list t) → has_acked s.leader s.bag t k m ≡ true
    → Acked s.led s.leader s.list s.answers m t k
acked_there s f t k m led inside h = elim (tell (s.leader t == m)) [
  | inl a ↦ inl (led, eqb-true (s.leader t) m a, inside)
  | inr a ↦
      let h2 : any (is_ack m t k) s.bag ≡ true = rw a at h in
      let g = any_found (is_ack m t k) s.bag h2 in
      inr (found g.0 g.1 g.2)
]
  where
    found : (g : Message) → In g s.bag → is_ack m t k g ≡ true
        → (a : Answer) × In a s.answers × (a.from ≡ m) × (a.success ≡ true) × (a.request.append ≡ true) × (a.request.term ≡ t)
        × (k ≤ reach a.request)
    found (Requests r) i e = absurd (cc)
    found (Pairs r) i e = absurd (cc)
    found (Answers a) i e =
        let e1 = and_right (a.from == m) (a.success && (a.request.append && ((a.request.term == t) && nat_le k (reach a.request)))) e in
        let e2 = and_right a.success (a.request.append && ((a.request.term == t) && nat_le k (reach a.request))) e1 in
        let e3 = and_right a.request.append ((a.request.term == t) && nat_le k (reach a.request)) e2 in (
          a,
          f.posted.answer a i,
          eqb-true a.from m
              (and_left (a.from == m) (a.success && (a.request.append && ((a.request.term == t) && nat_le k (reach a.request)))) e),
          and_left a.success (a.request.append && ((a.request.term == t) && nat_le k (reach a.request))) e1,
          and_left a.request.append ((a.request.term == t) && nat_le k (reach a.request)) e2,
          eqb-true a.request.term t (and_left (a.request.term == t) (nat_le k (reach a.request)) e3),
          leb-true k (reach a.request) (and_right (a.request.term == t) (nat_le k (reach a.request)) e3),
        )

-- completeness, below a bound
pub complete_below : (s : State) → Facts s → (t k : ℕ) → Firm s.members s.led s.leader s.list s.bag t k → (n u : ℕ) → u < n → t < u
    → s.led u ≡ true → Same k (s.list u) (s.list t)
complete_below s f t k nothing_unsynced zero u h above led = absurd (omega (arith, h))
complete_below s f t k nothing_unsynced (suc n) u h above led =
    let both
    = quorums_meet s.members (λ v. any (is_vote v (s.leader u) u) s.kept) (has_acked s.leader s.bag t k) (f.led.votes u led) nothing_unsynced.held
    in
    let g = any_found (is_vote both.0 (s.leader u) u) s.kept both.2 in
    let x : KeptVote = g.0 in
    let e0 : x.voter ≡ both.0 = eqb-true x.voter both.0 (and_left (x.voter == both.0) _ g.2) in
    let r0 : ((x.candidate == s.leader u) && ((x.term == u) && not x.led)) ≡ true = and_right (x.voter == both.0) _ g.2 in
    let e1 : x.candidate ≡ s.leader u = eqb-true x.candidate (s.leader u) (and_left (x.candidate == s.leader u) _ r0) in
    let r1 : ((x.term == u) && not x.led) ≡ true = and_right (x.candidate == s.leader u) _ r0 in
    let e2 : x.term ≡ u = eqb-true x.term u (and_left (x.term == u) _ r1) in
    let e3 : x.led ≡ false = not_true x.led (and_right (x.term == u) _ r1) in
    let acked : Acked s.led s.leader s.list s.answers x.voter t k
    = subst (λ (m : ℕ). Acked s.led s.leader s.list s.answers m t k) (sym e0) (acked_there s f t k both.0 nothing_unsynced.there nothing_unsynced.inside both.3)
    in
    let ih : (w : ℕ) → w < u → t < w → s.led w ≡ true → Same k (s.list w) (s.list t)
    = λ w b a l. complete_below s f t k nothing_unsynced n w (omega (arith, b, h)) a l in
    let c = f.votes.candidacy x g.1 in
    let d = f.led.candidacy u led in
    let same_log : c.0.log ≡ d.0.log = f.stood.one c.0 d.0 c.1 d.2 (c.2 ∙ (e1 ∙ sym d.3)) (c.3 ∙ (e2 ∙ sym d.4)) in
    elim (f.acks.voted x t k g.1 e3 acked (omega (arith, above, e2))) [
      | inr off ↦ absurd (off.4 (ih off.0 (omega (arith, off.2, e2)) off.1 off.3))
      | inl same ↦
          let p
          = passes_on s.led s.list x.log c.0.log t k u x.term (f.matching.voted x g.1) (f.matching.stood c.0 c.1) (f.votes.rising x g.1)
          (λ i b. let z : (get_or c.0.log i (blank 0)).term < c.0.term = f.stood.below c.0 i c.1 b in omega (arith, z, c.3, e2))
          (f.led.rising t) nothing_unsynced.low nothing_unsynced.inside nothing_unsynced.own_term same c.4 ih in
          let one : Same k (s.list u) (c.0.log ++ d.1) = ap (take k) (d.5 ∙ ap (λ (l : List Entry). l ++ d.1) (sym same_log)) in
          one ∙ (same_append k c.0.log d.1 p.1 ∙ p.0)
    ]

pub completeness : (s : State) → Facts s → (t k : ℕ) → Firm s.members s.led s.leader s.list s.bag t k → (u : ℕ) → t < u → s.led u ≡ true
    → Same k (s.list u) (s.list t)
completeness s f t k nothing_unsynced u above led = complete_below s f t k nothing_unsynced (u + 1) u (omega arith) above led
