-- Steps and stops are lawful lists of micro moves with the same result.
use Rattle.std.proofs.Common.{◌≡◌, ℕ, true, List, [], ◌∷◌, ◌++◌, refl, sym, ◌∙◌, ap, subst, inl, inr, ◌⊎◌, take}
use Rattle.std.specs.Prelude.{nat_lt, ◌&&◌, ◌==◌}
use Rattle.raft_model.specs.Lists.{In}
use Rattle.raft_model.specs.Messages.{Message}
use Rattle.raft_model.specs.Server.{Store, RaftServer, Put, put_all, memory_when_down}
use Rattle.raft_model.specs.Moves.{Move, IsEnabled, puts, memory_after, offers, move_history, has_quorum, own_vote, counts, votes_with, is_leader}
use Rattle.raft_model.specs.Moves.Move.{TimeOut, TakeVoteRequest, TakeVoteAnswer, TakeAppendRequest, TakeAppendAnswer, ProposeEntry, CommitTo, TellPair, TellNothing, CallForVote, CallToAppend, AnswerAgain, GiveUp}
use Rattle.raft_model.specs.Moves.Verdict.{Outdated, Refused, Held, Added}
use Rattle.raft_model.specs.Stops.{LocalState, state_after_move, state_after_stop_within, state_after_stop, state_after_moves, AllEnabled}
use Rattle.raft_model.proofs.Micro.{State, Micro, did, run, Lawful}
use Rattle.raft_model.proofs.Micro.Micro.{Halt}
use Rattle.raft_model.proofs.Facts.{Facts}
use Rattle.raft_model.proofs.Keeps.{run_keeps}
use Rattle.raft_model.proofs.Focus.{Focus, focus_of, at_focus, focused, focus_at, focus_twice}
use Rattle.raft_model.proofs.Here.{LawfulHere, focuses, focuses_append, lawful_append, lawful_here, all_of, SaidHere, grown, said_grown}
use Rattle.raft_model.proofs.Walk.{Follows, micros, marked, stop_walk, walk_lawful, walk_follows, Covered}
use Rattle.raft_model.proofs.Whole.{Whole}
use Rattle.raft_model.proofs.Terms.{term_up}
use Rattle.raft_model.proofs.Leading.{move_lawful}
use Rattle.raft_model.proofs.Quorum.{tell}

pub lawful_then : (es ds : List Micro) (z : State) → Lawful z es → Lawful (run z es) ds → Lawful z (es ++ ds)
lawful_then [] ds z a b = b
lawful_then (e ∷ es) ds z a b = (a.0, lawful_then es ds (did z e) a.1 b)

pub run_then : (es ds : List Micro) (z : State) → run z (es ++ ds) ≡ run (run z es) ds
run_then [] ds z = refl
run_then (e ∷ es) ds z = run_then es ds (did z e)

-- no move but a stop brings a server down
pub stays_up : (members : List ℕ) (m n : ℕ) (p : RaftServer) (mv : Move) → (memory_after members m n p mv).up ≡ p.memory.up
stays_up members m n p TimeOut = elim (tell (has_quorum members (own_vote m))) [ inl h ↦ rw (h) refl | inr h ↦ rw (h) refl ]
stays_up members m n p (TakeVoteRequest r g) = term_up p r.term
stays_up members m n p (TakeVoteAnswer a) = elim (tell (nat_lt p.store.term a.term)) [
  | inl h ↦ rw (h) refl
  | inr h ↦ rw (h) (elim (tell (counts p a)) [
    | inl k ↦ rw (k) (elim (tell (has_quorum members (votes_with p.memory a))) [ inl q ↦ rw (q) refl | inr q ↦ rw (q) refl ])
    | inr k ↦ rw (k) refl
  ])
]
stays_up members m n p (TakeAppendRequest r Outdated) = refl
stays_up members m n p (TakeAppendRequest r Refused) = refl
stays_up members m n p (TakeAppendRequest r Held) = refl
stays_up members m n p (TakeAppendRequest r (Added e)) = refl
stays_up members m n p (TakeAppendAnswer a) = elim (tell (nat_lt p.store.term a.term)) [
  | inl h ↦ rw (h) refl
  | inr h ↦ rw (h) (elim (tell (is_leader p.memory.role && (a.term == p.store.term))) [ inl k ↦ rw (k) refl | inr k ↦ rw (k) refl ])
]
stays_up members m n p (ProposeEntry e) = refl
stays_up members m n p (CommitTo k) = refl
stays_up members m n p TellPair = refl
stays_up members m n p TellNothing = refl
stays_up members m n p (CallForVote q) = refl
stays_up members m n p (CallToAppend q i w) = refl
stays_up members m n p (AnswerAgain i) = refl
stays_up members m n p (GiveUp q) = refl

-- a lawful list of micro moves leads from z to this site at m
pub record Reached (z : State) (m : ℕ) (x : LocalState) : Type 0 where
  pub es : List Micro
  pub lawful : Lawful z es
  pub focus : Focus
  pub ends : run z es ≡ at_focus z m focus
  pub raft_server : x.raft_server ≡ focus.raft_server
  pub history : x.history ≡ focus.history
  pub ledger : x.ledger ≡ focus.ledger
  pub bag : focus.bag ≡ z.bag
  pub said : (g : Message) → In g x.offered → SaidHere focus g

pub covered_of : (z : State) (m : ℕ) → Facts z → Covered (focus_of z m).ledger (focus_of z m).raft_server.store
covered_of z m f = record { commit = f.committed.below m; stamps = f.committed.stamped }

-- more micro moves of m after those
pub further : (z : State) (m : ℕ) (x y : LocalState) (r : Reached z m x) (es : List Micro) → LawfulHere z.members m r.focus es →
    y.raft_server ≡ (focuses m r.focus es).raft_server → y.history ≡ (focuses m r.focus es).history → y.ledger ≡ (focuses m r.focus es).ledger
    → (focuses m r.focus es).bag ≡ r.focus.bag →
    ((g : Message) → In g y.offered → SaidHere (focuses m r.focus es) g) → Reached z m y
further z m x y r es l a b c d said =
    let members : (run z r.es).members ≡ z.members = ap (λ (u : State). u.members) r.ends in
    let focus : focus_of (run z r.es) m ≡ r.focus = ap (λ (u : State). focus_of u m) r.ends ∙ focus_at z m r.focus in
    let next = lawful_here z.members m es (run z r.es) r.focus members focus l in
    record {
      es = r.es ++ all_of m es;
      lawful = lawful_then r.es (all_of m es) z r.lawful next.0;
      focus = focuses m r.focus es;
      ends = run_then r.es (all_of m es) z
          ∙ (next.1 ∙ (ap (λ (u : State). at_focus u m (focuses m r.focus es)) r.ends ∙ focus_twice z m r.focus (focuses m r.focus es)));
      raft_server = a;
      history = b;
      ledger = c;
      bag = d ∙ r.bag;
      said = said;
    }

pub covered_reached : (z : State) (m : ℕ) (x : LocalState) → Facts z → (r : Reached z m x) → Covered r.focus.ledger r.focus.raft_server.store
covered_reached z m x f r = subst (λ (q : Focus). Covered q.ledger q.raft_server.store)
    (ap (λ (u : State). focus_of u m) r.ends ∙ focus_at z m r.focus) (covered_of (run z r.es) m (run_keeps r.es z r.lawful f))

-- the site of a focus
abbrev pub local_state_of : Focus → List Message → List ℕ → LocalState
local_state_of f offered called = record { raft_server = f.raft_server; history = f.history; ledger = f.ledger; offered = offered; called = called }

pub at_local_state : (z : State) (m : ℕ) (x : LocalState) (r : Reached z m x) → x ≡ local_state_of r.focus x.offered x.called
at_local_state z m x r = λ i. record { raft_server = r.raft_server i; history = r.history i; ledger = r.ledger i; offered = x.offered; called = x.called }

pub in_either : {A : Type 0} (x : A) (xs ys : List A) → In x (xs ++ ys) → In x xs ⊎ In x ys
in_either x [] ys i = inr i
in_either x (y ∷ xs) ys i = elim i [ inl e ↦ inl (inl e) | inr j ↦ elim (in_either x xs ys j) [ inl k ↦ inl (inr k) | inr k ↦ inr k ] ]

pub reach_move : (z : State) (m n : ℕ) (x : LocalState) (mv : Move) → Facts z → (r : Reached z m x) → x.raft_server.memory.up ≡ true
    → IsEnabled z.members m z.bag x.called x.raft_server mv → Reached z m (state_after_move z.members m n x mv)
reach_move z m n x mv f r up comes =
    let q : x ≡ local_state_of r.focus x.offered x.called = at_local_state z m x r in
    let up2 : r.focus.raft_server.memory.up ≡ true = subst (λ (p : RaftServer). p.memory.up ≡ true) r.raft_server up in
    let comes2 : IsEnabled z.members m r.focus.bag x.called r.focus.raft_server mv
    = subst (λ (b : List Message). IsEnabled z.members m b x.called r.focus.raft_server mv) (sym r.bag)
    (subst (λ (p : RaftServer). IsEnabled z.members m z.bag x.called p mv) r.raft_server comes) in
    let w : Whole z.members m n r.focus mv = move_lawful z.members m n r.focus x.called mv up2 (covered_reached z m x f r) comes2 in
    let ends : focuses m r.focus (micros w.leg.marks ++ w.rest) ≡ focuses m w.between w.rest
    = focuses_append m (micros w.leg.marks) w.rest r.focus ∙ ap (λ (g : Focus). focuses m g w.rest) w.leg.ends in
    let follows : Follows m mv r.focus (focuses m r.focus (micros w.leg.marks)) (marked w.leg.marks)
    = walk_follows z.members m mv w.leg.marks r.focus w.leg.walk in
    let follows2 : Follows m mv r.focus w.between (puts z.members m r.focus.raft_server mv)
    = subst (λ (l : List Put). Follows m mv r.focus w.between l) w.leg.puts
    (subst (λ (g : Focus). Follows m mv r.focus g (marked w.leg.marks)) w.leg.ends follows) in
    let store : put_all r.focus.raft_server.store (puts z.members m r.focus.raft_server mv)
    ≡ (focuses m r.focus (micros w.leg.marks ++ w.rest)).raft_server.store
    = sym (ap (λ (g : Focus). g.raft_server.store) ends ∙ (w.store ∙ follows2.store)) in
    let memory : memory_after z.members m n r.focus.raft_server mv ≡ (focuses m r.focus (micros w.leg.marks ++ w.rest)).raft_server.memory
    = sym (ap (λ (g : Focus). g.raft_server.memory) ends ∙ w.memory) in
    subst (λ (y : LocalState). Reached z m (state_after_move z.members m n y mv)) (sym q)
    (further z m x (state_after_move z.members m n (local_state_of r.focus x.offered x.called) mv) r (micros w.leg.marks ++ w.rest)
    (lawful_append z.members m (micros w.leg.marks) w.rest r.focus (walk_lawful z.members m mv w.leg.marks r.focus
    w.leg.walk) (subst (λ (g : Focus). LawfulHere z.members m g w.rest) (sym w.leg.ends) w.lawful))
    (λ i. record { store = store i; memory = memory i })
    (sym (ap (λ (g : Focus). g.history) ends ∙ (w.history ∙ ap (move_history z.members m r.focus.raft_server mv) follows2.history)))
    (sym (ap (λ (g : Focus). g.ledger) ends ∙ (w.ledger ∙ follows2.ledger)))
    (ap (λ (g : Focus). g.bag) ends ∙ w.bag)
    (λ g i. elim (in_either g (offers m n r.focus.raft_server mv) x.offered i) [
      | inl j ↦ subst (λ (y : Focus). SaidHere y g) (sym ends) (w.said g j)
      | inr j ↦
          said_grown r.focus (focuses m r.focus (micros w.leg.marks ++ w.rest)) (grown m (micros w.leg.marks ++ w.rest) r.focus) g
          (r.said g j)
    ]))

pub reach_stop : (z : State) (m : ℕ) (x : LocalState) → Reached z m x → Reached z m (state_after_stop x)
reach_stop z m x r = further z m x (state_after_stop x) r (Halt m ∷ []) (tt, tt)
    (ap (λ (p : RaftServer). record { store = p.store; memory = memory_when_down }) r.raft_server) r.history r.ledger refl (λ g i. absurd i)

pub reach_stop_within : (z : State) (m n k : ℕ) (x : LocalState) (mv : Move) → Facts z → (r : Reached z m x) → x.raft_server.memory.up ≡ true
    → IsEnabled z.members m z.bag x.called x.raft_server mv → Reached z m (state_after_stop_within z.members m k x mv)
reach_stop_within z m n k x mv f r up comes =
    let q : x ≡ local_state_of r.focus x.offered x.called = at_local_state z m x r in
    let up2 : r.focus.raft_server.memory.up ≡ true = subst (λ (p : RaftServer). p.memory.up ≡ true) r.raft_server up in
    let comes2 : IsEnabled z.members m r.focus.bag x.called r.focus.raft_server mv
    = subst (λ (b : List Message). IsEnabled z.members m b x.called r.focus.raft_server mv) (sym r.bag)
    (subst (λ (p : RaftServer). IsEnabled z.members m z.bag x.called p mv) r.raft_server comes) in
    let w : Whole z.members m n r.focus mv = move_lawful z.members m n r.focus x.called mv up2 (covered_reached z m x f r) comes2 in
    let part = stop_walk z.members m mv k w.leg.marks r.focus w.leg.walk in
    let follows : Follows m mv r.focus (focuses m r.focus part.0) (take k (puts z.members m r.focus.raft_server mv))
    = subst (λ (l : List Put). Follows m mv r.focus (focuses m r.focus part.0) (take k l)) w.leg.puts part.2 in
    let ends : focuses m r.focus (part.0 ++ (Halt m ∷ [])) ≡ focused m (focuses m r.focus part.0) (Halt m)
    = focuses_append m part.0 (Halt m ∷ []) r.focus in
    let same_bag : (focuses m r.focus part.0).bag ≡ r.focus.bag = follows.bag in
    subst (λ (y : LocalState). Reached z m (state_after_stop_within z.members m k y mv)) (sym q)
    (further z m x (state_after_stop_within z.members m k (local_state_of r.focus x.offered x.called) mv) r (part.0 ++ (Halt m ∷ []))
    (lawful_append z.members m part.0 (Halt m ∷ []) r.focus part.1 (tt, tt))
    (sym (ap (λ (g : Focus). g.raft_server) ends ∙ ap (λ (s : Store). record { store = s; memory = memory_when_down }) follows.store))
    (sym (ap (λ (g : Focus). g.history) ends ∙ follows.history))
    (sym (ap (λ (g : Focus). g.ledger) ends ∙ follows.ledger))
    (ap (λ (g : Focus). g.bag) ends ∙ same_bag)
    (λ g i. absurd i))

-- these moves, one after another
pub reach_moves : (z : State) (m n : ℕ) (mvs : List Move) (x : LocalState) → Facts z → Reached z m x → x.raft_server.memory.up ≡ true
    → AllEnabled z.members m n z.bag x mvs
    → Reached z m (state_after_moves z.members m n x mvs) × ((state_after_moves z.members m n x mvs).raft_server.memory.up ≡ true)
reach_moves z m n [] x f r up h = (r, up)
reach_moves z m n (mv ∷ mvs) x f r up h = reach_moves z m n mvs (state_after_move z.members m n x mv) f (reach_move z m n x mv f r up h.0)
    (stays_up z.members m n x.raft_server mv ∙ up) h.1
