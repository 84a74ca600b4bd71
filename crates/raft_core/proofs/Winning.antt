-- A candidate wins, and leads from then on.
use Rattle.std.proofs.Common.{◌≡◌, ◌≢◌, ℕ, ◌+◌, ◌<◌, false, List, length, replicate, get_or, refl, sym, ap, subst, ◌∙◌, arith}
use Rattle.std.specs.Prelude.{slice_index_or}
use Rattle.std.proofs.lemmas.List.{get_or-replicate}
use Rattle.can_frame.specs.declared.step.Role.TheVariants.{Follower, Leader}
use Rattle.raft_log.specs.Stored.{Stored}
use Rattle.raft_model.specs.Moves.Elections.{win_memory}
use Rattle.raft_model.specs.Server.{RaftServer, Store, memory_when_opened, Role as ModelRole}
use Rattle.raft_core.specs.declared.peer.Peer.{Peer}
use Rattle.raft_core.specs.declared.raft.Raft.{Raft}
use Rattle.raft_core.specs.Fits.{Fits, IsWithin}
use Rattle.raft_core.specs.Peers.{fresh}
use Rattle.raft_core.specs.Stands.{StandsFor, Tells, role_of}
use Rattle.raft_core.specs.StoredPuts.{store_of}
use Rattle.raft_core.specs.Times.{Times, opened_times, win}

-- each of the peers is new
pub new_peer : (peers : List Peer) (next q : ℕ) (d : Peer) → peers ≡ replicate 128 (fresh next) → q < 128 → slice_index_or peers q d ≡ fresh next
new_peer peers next q d is below = ap (λ (l : List Peer). get_or l q d) is ∙ get_or-replicate 128 q (fresh next) d below

module _ (raft raft2 : Raft) (members : List ℕ) (s : Stored) (role : raft2.role ≡ Leader) (peers : raft2.peers ≡ replicate 128 (fresh (length s.log + 1))) (told : raft2.told ≡ s.commit) where
  pub won_stands : (p : RaftServer) (t : Times) → StandsFor raft members s p t → raft.role ≢ Follower → raft2.members ≡ raft.members → raft2.since ≡ raft.since → raft2.word ≡ raft.word → raft2.waits ≡ raft.waits
      → StandsFor raft2 members s (record p { memory = win_memory p.store p.memory }) (win t)
  won_stands p t st stood known since word waits = record {
    store = st.store;
    role = ap role_of (sym role);
    told = ap (λ (z : Store). z.commit) st.store ∙ sym told;
    known = λ other. ap (λ x. x.items) known ∙ st.known stood;
    since = st.since ∙ sym since;
    word = st.word ∙ sym word;
    waits = st.waits ∙ sym waits;
    peers = λ q d below. subst (λ (x : Peer). Tells x (record p { memory = win_memory p.store p.memory }) (win t) q) (sym (new_peer raft2.peers (length s.log + 1) q d peers below))
        (record {
          call = tt;
          voted = λ h. absurd (no_candidate h);
          answered = λ h. absurd (no_candidate h);
          next = λ h. ap (λ (z : Store). length z.log + 1) st.store;
          matched = λ h. refl;
          appended = λ h. refl;
        });
  }
    where
      no_candidate : ModelRole.Leader ≡ ModelRole.Candidate → ⊥
      no_candidate h = cc h

  pub won_fits : Fits raft s → raft.role ≢ Follower → raft2.me ≡ raft.me → Fits raft2 s
  won_fits fits stood me = record {
    told = omega (arith, told);
    vote = λ other. fits.vote stood ∙ sym me;
    peers = λ leads q d below. subst (λ (x : Peer). IsWithin x (length s.log)) (sym (new_peer raft2.peers (length s.log + 1) q d peers below))
        (record { least = omega arith; next = omega arith; matched = omega arith; reach = tt });
  }

-- a member that opens
pub opened_stands : (raft : Raft) (members : List ℕ) (s : Stored) (now word : ℕ) → raft.role ≡ Follower → raft.told ≡ 0 → raft.since ≡ now → raft.word ≡ word → raft.waits ≡ false → raft.peers ≡ replicate 128 (fresh 1)
    → StandsFor raft members s (record { store = store_of s; memory = memory_when_opened }) (opened_times now word)
opened_stands raft members s now word role told since is_word waits peers = record {
  store = refl;
  role = ap role_of (sym role);
  told = sym told;
  known = λ other. absurd (other role);
  since = sym since;
  word = sym is_word;
  waits = sym waits;
  peers = λ q d below. subst (λ (x : Peer). Tells x (record { store = store_of s; memory = memory_when_opened }) (opened_times now word) q) (sym (new_peer raft.peers 1 q d peers below)) (record {
    call = tt;
    voted = λ h. refl;
    answered = λ h. refl;
    next = λ h. absurd (no_leader h);
    matched = λ h. refl;
    appended = λ h. refl;
  });
}
  where
    no_leader : ModelRole.Follower ≡ ModelRole.Leader → ⊥
    no_leader h = cc h
