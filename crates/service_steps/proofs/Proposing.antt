-- A leader proposes an entry, brings its group up to it and commits it.
use Rattle.std.proofs.Common.{◌≡◌, ℕ, ◌+◌, ◌<◌, ◌≤◌, true, List, [], ◌∷◌, ◌++◌, length, refl, sym, ◌∙◌, ap, subst, arith, Option}
use Rattle.can_frame.specs.declared.entry.Entry.{Entry}
use Rattle.raft_model.specs.Handlers.{server_after}
use Rattle.raft_model.specs.Lists.{In}
use Rattle.raft_model.specs.Log.{term_at}
use Rattle.raft_model.specs.Messages.{Message, Request}
use Rattle.raft_model.specs.Moves.{Move}
use Rattle.raft_model.specs.Moves.Leading.{MayPropose}
use Rattle.raft_model.specs.Moves.Move.{ProposeEntry}
use Rattle.raft_model.specs.Runs.{World}
use Rattle.raft_model.specs.Server.{RaftServer, Store, quorum}
use Rattle.service_steps.specs.Coming.{CanCome}
use Rattle.service_steps.specs.ComingBack.{IsLed, IsMajority}
use Rattle.service_steps.proofs.Alone.{last_entry, one_longer}
use Rattle.service_steps.proofs.Coming.{IsReached, and_then, at_once, does, doing, its_server, other_server, so}
use Rattle.service_steps.proofs.Leading.{AreUp, HasCommitted, RunLaws, brings_up, commits_all}

pub majority_in : (a b : List ℕ) (group : List ℕ) → b ≡ a → IsMajority a group → IsMajority b group
majority_in a b group e m = record {
  enough = subst (λ (l : List ℕ). quorum l ≤ length group) (sym e) m.enough;
  once = m.once;
  listed = λ n i. subst (λ (l : List ℕ). In n l) (sym e) (m.listed n i);
}

-- ---- a step that leaves the leader's calls, its term and its role

-- the leader is so again, with what its step left; all others are as they were
pub led_after : (world : World) (group : List ℕ) (me : ℕ) (move : Move) (fitted : List Message) (server : RaftServer)
    → server_after world.members me (world.steps + 1) (world.server me) move ≡ server
    → server.memory.role ≡ (world.server me).memory.role → server.memory.up ≡ (world.server me).memory.up
    → server.memory.pending ≡ (world.server me).memory.pending → server.store.term ≡ (world.server me).store.term
    → IsLed world group me → IsLed (does world me (world.steps + 1) move fitted) group me
led_after world group me move fitted server is role up pending term led = record {
  leads = ap (λ (s : RaftServer). s.memory.role) mine ∙ (role ∙ led.leads);
  up = ap (λ (s : RaftServer). s.memory.up) mine ∙ (up ∙ led.up);
  member = led.member;
  listed = led.listed;
  free = λ n. ap (λ (s : RaftServer). s.memory.pending n) mine ∙ (ap (λ (f : ℕ → Option Request). f n) pending ∙ led.free n);
  peers = λ n i other. subst (λ (s : RaftServer). (s.memory.up ≡ true) × (s.store.term ≤ (later.server me).store.term))
      (sym (other_server world me (world.steps + 1) move fitted n other)) (
        (led.peers n i other).0,
        let low : (world.server n).store.term ≤ (world.server me).store.term = (led.peers n i other).1 in
            omega (arith, low, term, ap (λ (s : RaftServer). s.store.term) mine),
      );
}
  where
    later : World
    later = does world me (world.steps + 1) move fitted

    mine : later.server me ≡ server
    mine = its_server world me (world.steps + 1) move fitted (world.server me) refl ∙ is

-- ---- an entry is proposed, brought to the group and committed

-- what the leader has then
abbrev with_entry : Entry → RaftServer → RaftServer
with_entry entry server = record server { store = record server.store { log = server.store.log ++ entry ∷ [] } }

record IsProposed (group : List ℕ) (me : ℕ) (entry : Entry) (world later : World) : Type 0 where
  led : IsLed later group me
  server : later.server me ≡ with_entry entry (world.server me)
  members : later.members ≡ world.members

pub record IsEntered (group : List ℕ) (me : ℕ) (entry : Entry) (world later : World) : Type 0 where
  pub led : IsLed later group me
  pub committed : (later.server me).store.commit ≡ length (later.server me).store.log
  pub log : (later.server me).store.log ≡ (world.server me).store.log ++ entry ∷ []
  pub told : (later.server me).memory.told ≡ (world.server me).memory.told
  pub members : later.members ≡ world.members

module _ (laws : RunLaws) (group : List ℕ) (me : ℕ) (entry : Entry) where
  -- what it has stored when its group is up
  store_now : (world later last : World) → IsProposed group me entry world later → AreUp me group later last
      → (last.server me).store ≡ (with_entry entry (world.server me)).store
  store_now world later last p h = h.store ∙ ap (λ (s : RaftServer). s.store) p.server

  pub enters : (world : World) → IsReached world → IsMajority world.members group → IsLed world group me
      → (world.server me).store.commit ≤ length (world.server me).store.log → MayPropose (world.server me) entry → CanCome world (IsEntered group me entry world)
  enters world r majority led inside may =
      and_then (IsProposed group me entry world) (IsEntered group me entry world) world r
      (doing world (IsProposed group me entry world) me (world.steps + 1) (ProposeEntry entry) [] (world.server me)
      (record { is = refl; up = led.up; later = omega arith; comes = may; inside = λ message i. absurd i })
      (at_once first (IsProposed group me entry world) (record {
        led = led_after world group me (ProposeEntry entry) [] (with_entry entry (world.server me)) refl refl refl refl refl led;
        server = its_server world me (world.steps + 1) (ProposeEntry entry) [] (world.server me) refl;
        members = refl;
      })))
      (λ later reached p. and_then (λ last. IsLed last group me × AreUp me group later last) (IsEntered group me entry world) later reached
      (brings_up laws group me group majority.once (λ n i. i) later reached p.led)
      (λ last again h. so (HasCommitted laws group me last) (IsEntered group me entry world) last
      (commits_all laws group me last h.0 (majority_in world.members last.members group (h.1.members ∙ p.members) majority)
      (λ n i other. h.1.matched n i other ∙ ap (λ (s : Store). length s.log) (sym h.1.store))
      (subst (λ (s : Store). term_at s.log (length s.log) ≡ s.term) (sym (store_now world later last p h.1))
      (ap (λ (e : Entry). e.term) (last_entry (world.server me).store.log entry) ∙ may.own_term))
      (subst (λ (s : Store). s.commit < length s.log) (sym (store_now world later last p h.1)) (omega (arith, inside, one_longer (world.server me).store.log entry))))
      (λ end c. record {
        led = c.led;
        committed = ap (λ (s : RaftServer). s.store.commit) c.server ∙ sym (ap (λ (s : RaftServer). length s.store.log) c.server);
        log = ap (λ (s : RaftServer). s.store.log) c.server ∙ ap (λ (s : Store). s.log) (store_now world later last p h.1);
        told = ap (λ (s : RaftServer). s.memory.told) c.server ∙ (h.1.told ∙ ap (λ (s : RaftServer). s.memory.told) p.server);
        members = c.members ∙ (h.1.members ∙ p.members);
      })))
    where
      first : World
      first = does world me (world.steps + 1) (ProposeEntry entry) []
