-- A member stands for election.
use Rattle.std.proofs.Common.{◌≡◌, inl, inr, Option, Some, None, ℕ, zero, suc, ◌+◌, ◌<◌, ◌≤◌, false, List, [], ◌∷◌, length, replicate, get_or, set, get_or-set_other, get_or-set_same, refl, sym, ap, subst, ◌∙◌, arith}
use Rattle.std.specs.Prelude.{slice_index_or, slice_set, ◌==◌}
use Rattle.std.proofs.lemmas.Bool.Decides.{eqb_tells}
use Rattle.std.proofs.lemmas.List.{get_or-replicate, length-replicate}
use Rattle.can_frame.specs.declared.step.Role.TheVariants.{Candidate}
use Rattle.raft_log.specs.Stored.{Stored}
use Rattle.raft_model.specs.Moves.Elections.{stand_memory, stand_puts}
use Rattle.raft_model.specs.Server.{RaftServer, Store, put_all, Role as ModelRole}
use Rattle.raft_model.specs.Server.Put.{PutTerm, PutVote}
use Rattle.raft_core.specs.declared.peer.Peer.{Peer}
use Rattle.raft_core.specs.declared.raft.Raft.{Raft}
use Rattle.raft_core.specs.Peers.{fresh, voter}
use Rattle.raft_core.specs.Stands.{StandsFor, Tells, Waits, role_of}
use Rattle.raft_core.specs.StoredPuts.{store_of, vote_of}
use Rattle.raft_core.specs.Times.{HandedIn, Times, stand}

vote_is : (m : ℕ) → 1 ≤ m → vote_of m ≡ Some m
vote_is zero least = absurd (omega (arith, least))
vote_is (suc m) least = refl

pub stood_stands : (raft raft2 : Raft) (members peers : List ℕ) (s s2 : Stored) (p : RaftServer) (t : Times) (given : HandedIn) → StandsFor raft members s p t
    → raft.me < 128 → 1 ≤ raft.me
    → raft2.role ≡ Candidate → raft2.since ≡ given.now → raft2.word ≡ given.word → raft2.waits ≡ raft.waits → raft2.told ≡ raft.told → raft2.members.items ≡ raft.me ∷ peers
    → raft2.peers ≡ slice_set (replicate 128 (fresh 1)) raft.me voter
    → s2 ≡ record s { term = s.term + 1; vote = raft.me }
    → StandsFor raft2 (raft.me ∷ peers) s2 (record { store = put_all p.store (stand_puts raft.me p.store); memory = stand_memory raft.me p.memory }) (stand given t)
stood_stands raft raft2 members peers s s2 p t given st inside least role since word waits told known table stored = record {
  store = ap (λ (z : Store). put_all z (stand_puts raft.me z)) st.store
      ∙ (ap (λ (v : Option ℕ). put_all (store_of s) (PutTerm (s.term + 1) ∷ PutVote v ∷ [])) (sym (vote_is raft.me least)) ∙ sym (ap store_of stored));
  role = ap role_of (sym role);
  told = st.told ∙ sym told;
  known = λ other. known;
  since = sym since;
  word = sym word;
  waits = st.waits ∙ sym waits;
  peers = λ q d below. subst (λ (l : List Peer). Tells (slice_index_or l q d) p2 t2 q) (sym table) (each q d below);
}
  where
    p2 : RaftServer
    p2 = record { store = put_all p.store (stand_puts raft.me p.store); memory = stand_memory raft.me p.memory }

    t2 : Times
    t2 = stand given t

    no_leader : ModelRole.Candidate ≡ ModelRole.Leader → ⊥
    no_leader h = cc h

    tells : (q : ℕ) (x : Peer) → x.call ≡ None → (q == raft.me) ≡ x.voted → false ≡ x.answered → Tells x p2 t2 q
    tells q x call voted answered = record {
      call = subst (λ c. Waits c None None) (sym call) tt;
      voted = λ h. voted;
      answered = λ h. answered;
      next = λ h. absurd (no_leader h);
      matched = λ h. absurd (no_leader h);
      appended = λ h. absurd (no_leader h);
    }

    -- the member itself has voted, and no other
    each : (q : ℕ) (d : Peer) → q < 128 → Tells (slice_index_or (slice_set (replicate 128 (fresh 1)) raft.me voter) q d) p2 t2 q
    each q d below = elim (eqb_tells q raft.me) [
      | inl x ↦ subst (λ y. Tells y p2 t2 q)
          (sym (ap (λ n. get_or (set (replicate 128 (fresh 1)) raft.me voter) n d) x.1 ∙ get_or-set_same (replicate 128 (fresh 1)) raft.me voter d (subst (λ n. raft.me < n) (sym (length-replicate 128 (fresh 1))) inside)))
          (tells q voter refl x.0 refl)
      | inr x ↦ subst (λ y. Tells y p2 t2 q) (sym (get_or-set_other (replicate 128 (fresh 1)) raft.me q voter d x.1 ∙ get_or-replicate 128 q (fresh 1) d below)) (tells q (fresh 1) refl x.0 refl)
    ]

-- the members that it counts stand in the table
pub all_numbered : (me : ℕ) (peers members : List ℕ) → members ≡ me ∷ peers → me < 128 → ((i : ℕ) → i < length peers → slice_index_or peers i 0 ≤ 125)
    → (i : ℕ) → i < length members → slice_index_or members i 0 < 128
all_numbered me peers members is inside below =
    subst (λ (list : List ℕ). (i : ℕ) → i < length list → slice_index_or list i 0 < 128) (sym is) each
  where
    each : (i : ℕ) → i < length (me ∷ peers) → slice_index_or (me ∷ peers) i 0 < 128
    each zero within = inside
    each (suc i) within = let other = below i (omega (arith, within)) in omega (arith, other)
