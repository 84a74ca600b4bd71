-- Every event of a run is a lawful list of micro moves with the same result.
use Rattle.std.proofs.Common.{◌≡◌, ℕ, List, [], ◌∷◌, ◌++◌, refl, sym, ◌∙◌, ap, subst, inl, inr}
use Rattle.raft_model.specs.Lists.{In, at}
use Rattle.raft_model.specs.Messages.{Message}
use Rattle.raft_model.specs.Messages.Message.{Requests, Answers, Pairs}
use Rattle.raft_model.specs.Server.{RaftServer}
use Rattle.raft_model.specs.Stops.{LocalState, state_after_stop_within, state_after_stop, state_after_moves}
use Rattle.raft_model.specs.Runs.{World, Event, initial_world, local_state_of, with_local_state, bag_with, after, MayOccur, Lawful, run as run_events}
use Rattle.raft_model.specs.Runs.Event.{Opens, Steps, Stops, StopsWithin}
use Rattle.raft_model.proofs.Micro.{State, Micro, did, IsSaid, start, run, Lawful as LawfulMicro}
use Rattle.raft_model.proofs.Micro.Micro.{Open, Post}
use Rattle.raft_model.proofs.Facts.{Facts}
use Rattle.raft_model.proofs.Keeps.{run_keeps}
use Rattle.raft_model.proofs.Focus.{Focus, focus_of, at_focus, focused, did_here, at_field, settled}
use Rattle.raft_model.proofs.Here.{SaidHere}
use Rattle.raft_model.proofs.Reached.{Reached, reach_stop, reach_stop_within, reach_moves, lawful_then, run_then}

-- the world that a state shows
abbrev pub world_of : State → ℕ → World
world_of z k = record {
  members = z.members;
  server = λ i. (focus_of z i).raft_server;
  bag = z.bag;
  history = record { led = z.led; leader = z.leader; list = z.list; candidacies = z.candidacies; kept = z.kept };
  ledger = record { entries = z.ledger; stamps = z.stamps };
  steps = k;
}

pub server_at : (z : State) (m : ℕ) (f : Focus) → at (λ i. (focus_of z i).raft_server) m f.raft_server ≡ (λ i. (focus_of (at_focus z m f) i).raft_server)
server_at z m f = sym (λ j i. record {
  store = record {
    term = at_field (λ (p : RaftServer). p.store.term) (λ k. (focus_of z k).raft_server) m f.raft_server j i;
    vote = at_field (λ (p : RaftServer). p.store.vote) (λ k. (focus_of z k).raft_server) m f.raft_server j i;
    log = at_field (λ (p : RaftServer). p.store.log) (λ k. (focus_of z k).raft_server) m f.raft_server j i;
    commit = at_field (λ (p : RaftServer). p.store.commit) (λ k. (focus_of z k).raft_server) m f.raft_server j i;
  };
  memory = record {
    up = at_field (λ (p : RaftServer). p.memory.up) (λ k. (focus_of z k).raft_server) m f.raft_server j i;
    role = at_field (λ (p : RaftServer). p.memory.role) (λ k. (focus_of z k).raft_server) m f.raft_server j i;
    told = at_field (λ (p : RaftServer). p.memory.told) (λ k. (focus_of z k).raft_server) m f.raft_server j i;
    votes = at_field (λ (p : RaftServer). p.memory.votes) (λ k. (focus_of z k).raft_server) m f.raft_server j i;
    next = at_field (λ (p : RaftServer). p.memory.next) (λ k. (focus_of z k).raft_server) m f.raft_server j i;
    matched = at_field (λ (p : RaftServer). p.memory.matched) (λ k. (focus_of z k).raft_server) m f.raft_server j i;
    pending = at_field (λ (p : RaftServer). p.memory.pending) (λ k. (focus_of z k).raft_server) m f.raft_server j i;
  };
})

-- a step begins where the server is
pub reach_start : (z : State) (k m : ℕ) → Reached z m (local_state_of (world_of z k) m)
reach_start z k m = record {
  es = [];
  lawful = tt;
  focus = focus_of z m;
  ends = sym (settled z m);
  raft_server = refl;
  history = refl;
  ledger = refl;
  bag = refl;
  said = λ g i. absurd i;
}

pub local_state_back : (z : State) (k m : ℕ) (x : LocalState) (r : Reached z m x) → with_local_state (world_of z k) m x ≡ world_of (run z r.es) k
local_state_back z k m x r = there ∙ sym (ap (λ (u : State). world_of u k) r.ends)
  where
    server : at (λ i. (focus_of z i).raft_server) m x.raft_server ≡ (λ i. (focus_of (at_focus z m r.focus) i).raft_server)
    server = ap (at (λ i. (focus_of z i).raft_server) m) r.raft_server ∙ server_at z m r.focus

    there : with_local_state (world_of z k) m x ≡ world_of (at_focus z m r.focus) k
    there = λ i. record { members = z.members; server = server i; bag = sym r.bag i; history = r.history i; ledger = r.ledger i; steps = k }

-- the messages that fitted are posted
abbrev pub posts : List Message → List Micro
posts [] = []
posts (g ∷ gs) = Post g ∷ posts gs

pub said_anyway : (z : State) (bag : List Message) (g : Message) → IsSaid z g → IsSaid (record z { bag = bag }) g
said_anyway z bag (Requests r) h = h
said_anyway z bag (Answers a) h = h
said_anyway z bag (Pairs p) h = h

pub posts_lawful : (gs : List Message) (z : State) → ((g : Message) → In g gs → IsSaid z g)
    → LawfulMicro z (posts gs) × (run z (posts gs) ≡ record z { bag = bag_with gs z.bag })
posts_lawful [] z h = (tt, refl)
posts_lawful (g ∷ gs) z h =
    let r = posts_lawful gs (did z (Post g)) (λ x i. said_anyway z (g ∷ z.bag) x (h x (inr i))) in
    ((h g (inl refl), r.0), r.1)

pub said_there : (z : State) (m : ℕ) (f : Focus) (g : Message) → SaidHere f g → IsSaid (at_focus z m f) g
said_there z m f (Requests r) h = h
said_there z m f (Answers a) h = h
said_there z m f (Pairs p) h = h

pub said_reached : (z : State) (m : ℕ) (x : LocalState) (r : Reached z m x) (g : Message) → In g x.offered → IsSaid (run z r.es) g
said_reached z m x r g i = subst (λ (u : State). IsSaid u g) (sym r.ends) (said_there z m r.focus g (r.said g i))

-- the law of events: lawful micro moves with the same result
pub event_lawful : (z : State) (k : ℕ) (e : Event) → Facts z → MayOccur (world_of z k) e
    → (es : List Micro) × LawfulMicro z es × (n : ℕ) × (after (world_of z k) e ≡ world_of (run z es) n)
event_lawful z k (Opens m) f h = (Open m ∷ [], ((h.1, h.0), tt), k, opens)
  where
    there : after (world_of z k) (Opens m) ≡ world_of (at_focus z m (focused m (focus_of z m) (Open m))) k
    there = λ i. record {
      members = z.members;
      server = server_at z m (focused m (focus_of z m) (Open m)) i;
      bag = z.bag;
      history = (focus_of z m).history;
      ledger = (focus_of z m).ledger;
      steps = k;
    }

    opens : after (world_of z k) (Opens m) ≡ world_of (did z (Open m)) k
    opens = there ∙ sym (ap (λ (u : State). world_of u k) (did_here z m (Open m)))
event_lawful z k (Steps m n mvs fitted) f h =
    let r = (reach_moves z m n mvs (local_state_of (world_of z k) m) f (reach_start z k m) h.0 h.2).0 in
    let p
    = posts_lawful fitted (run z r.es) (λ g i. said_reached z m (state_after_moves z.members m n (local_state_of (world_of z k) m) mvs) r g (h.3 g i))
    in
    let bag : (run z r.es).bag ≡ z.bag = ap (λ (u : State). u.bag) r.ends ∙ r.bag in
    let back : with_local_state (world_of z k) m (state_after_moves z.members m n (local_state_of (world_of z k) m) mvs) ≡ world_of (run z r.es) k
    = local_state_back z k m (state_after_moves z.members m n (local_state_of (world_of z k) m) mvs) r in (
      r.es ++ posts fitted,
      lawful_then r.es (posts fitted) z r.lawful p.0,
      n,
      ap (λ (w : World). record w { bag = bag_with fitted z.bag; steps = n }) back
          ∙ (ap (λ (b : List Message). record (world_of (run z r.es) k) {
            bag = bag_with fitted b;
            steps = n;
          }) (sym bag) ∙ sym (ap (λ (u : State). world_of u n) (run_then r.es (posts fitted) z ∙ p.1))),
    )
event_lawful z k (Stops m n mvs) f h =
    let r = (reach_moves z m n mvs (local_state_of (world_of z k) m) f (reach_start z k m) h.0 h.1).0 in
    let s = reach_stop z m (state_after_moves z.members m n (local_state_of (world_of z k) m) mvs) r in
    (s.es, s.lawful, k, local_state_back z k m (state_after_stop (state_after_moves z.members m n (local_state_of (world_of z k) m) mvs)) s)
event_lawful z k (StopsWithin m n mvs next i) f h =
    let q = reach_moves z m n mvs (local_state_of (world_of z k) m) f (reach_start z k m) h.0 h.1 in
    let s = reach_stop_within z m n i (state_after_moves z.members m n (local_state_of (world_of z k) m) mvs) next f q.0 q.1 h.2 in
    (s.es, s.lawful, k, local_state_back z k m (state_after_stop_within z.members m i (state_after_moves z.members m n (local_state_of (world_of z k) m) mvs) next) s)

-- so is every run
pub run_lawful : (es : List Event) (z : State) (k : ℕ) → Facts z → Lawful (world_of z k) es
    → (ms : List Micro) × LawfulMicro z ms × (n : ℕ) × (run_events (world_of z k) es ≡ world_of (run z ms) n)
run_lawful [] z k f l = ([], tt, k, refl)
run_lawful (e ∷ es) z k f l =
    let a = event_lawful z k e f l.0 in
    let next : Lawful (world_of (run z a.0) a.2) es = subst (λ (w : World). Lawful w es) a.3 l.1 in
    let b = run_lawful es (run z a.0) a.2 (run_keeps a.0 z a.1 f) next in (
      a.0 ++ b.0,
      lawful_then a.0 b.0 z a.1 b.1,
      b.2,
      ap (λ (w : World). run_events w es) a.3
          ∙ (b.3 ∙ sym (ap (λ (u : State). world_of u b.2) (run_then a.0 b.0 z))),
    )

pub begins : (members : List ℕ) → initial_world members ≡ world_of (start members) 0
begins members = refl
