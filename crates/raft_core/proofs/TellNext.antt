-- What a leader tells next.
use Rattle.std.proofs.Common.{◌≡◌, ◌≢◌, ◌⊎◌, inl, inr, ℕ, ◌+◌, ◌<◌, ◌≤◌, Bool, true, false, List, Decides, refl, sym, ap, ◌∙◌, add-one, arith}
use Rattle.std.specs.Prelude.{slice_index_or, ◌&&◌, nat_lt}
use Rattle.std.specs.Str.{bytes_eq}
use Rattle.std.proofs.lemmas.Slice.Eq.{bytes_eq-Decides}
use Rattle.can_frame.specs.declared.entry.Entry.{Entry}
use Rattle.can_frame.specs.declared.step.Role.TheVariants.{Leader}
use Rattle.can_frame.specs.Log.{IsPair, IsWellFormed, blank, entry_at}
use Rattle.can_frame.specs.Zeros.{zeros}
use Rattle.raft_log.specs.Stored.{Stored}
use Rattle.raft_model.specs.Moves.Elections.{is_leader}
use Rattle.raft_model.specs.Server.{RaftServer, Role as ModelRole}
use Rattle.raft_core.specs.declared.raft.Raft.{Raft}
use Rattle.raft_core.specs.declared.tell.Telling.TheVariants.{Skip, Pair}
use Rattle.raft_core.specs.Stands.{StandsFor, role_of}
use Rattle.raft_core.specs.Telling.{IsToTell}
use Rattle.raft_core.specs.Times.{Times}
use Rattle.raft_core.proofs.Appending.{lt_true}

no_pair : (e : Entry) → (e.node ≡ 0) ⊎ (127 < e.node) → IsPair e → ⊥
no_pair e (inl zero) pair = let least = pair.least in omega (arith, zero, least)
no_pair e (inr high) pair = let most = pair.most in omega (arith, high, most)

-- a well-formed entry without a node ID has no unique ID
pub no_device : (e : Entry) → IsWellFormed e → (e.node ≡ 0) ⊎ (127 < e.node) → e.uid ≡ zeros
no_device e (inl empty) none = empty.1
no_device e (inr (inl reserved)) none = reserved.uid
no_device e (inr (inr pair)) none = absurd (no_pair e none pair)

pub entry_next : (log : List Entry) (k : ℕ) → entry_at log (k + 1) ≡ slice_index_or log k (blank 0)
entry_next log k = rw add-one refl

is_zero_uid : (uid : List ℕ) (b : Bool) → Decides b (uid ≡ zeros) → uid ≡ zeros → b ≡ true
is_zero_uid uid true decides zero = refl
is_zero_uid uid false decides zero = cc (decides.1 zero)

no_zero_uid : (uid : List ℕ) (b : Bool) → Decides b (uid ≡ zeros) → uid ≢ zeros → b ≡ false
no_zero_uid uid true decides other = absurd (other (decides.0 refl))
no_zero_uid uid false decides other = refl

module _ (raft : Raft) (members : List ℕ) (state : Stored) (p : RaftServer) (t : Times) (st : StandsFor raft members state p t) where
  abbrev next : Entry
  next = slice_index_or p.store.log p.memory.told (blank 0)

  same_next : next ≡ entry_at state.log (raft.told + 1)
  same_next = rw (st.told, st.store) (sym (entry_next state.log raft.told))

  module _ (role : raft.role ≡ Leader) (below : raft.told < state.commit) where
    something : (is_leader p.memory.role && nat_lt p.memory.told p.store.commit) ≡ true
    something =
        let led : p.memory.role ≡ ModelRole.Leader = st.role ∙ ap role_of role in
        let less : nat_lt p.memory.told p.store.commit ≡ true = rw (st.told, st.store) (lt_true raft.told state.commit below) in
        rw (led, less) refl

    pub skips : (entry_at state.log (raft.told + 1)).uid ≡ zeros → IsToTell p (Skip (raft.told + 1))
    skips zero = (
      ap (λ (k : ℕ). k + 1) (sym st.told),
      λ room. let is : bytes_eq next.uid zeros ≡ true = is_zero_uid next.uid (bytes_eq next.uid zeros) (bytes_eq-Decides next.uid zeros) (ap (λ (e : Entry). e.uid) same_next ∙ zero) in
          rw (something, is) refl,
    )

    pub tells : (node : ℕ) → (entry_at state.log (raft.told + 1)).uid ≢ zeros → (entry_at state.log (raft.told + 1)).node ≡ node → IsToTell p (Pair (raft.told + 1) (entry_at state.log (raft.told + 1)).uid node)
    tells node other is_node = (
      ap (λ (k : ℕ). k + 1) (sym st.told),
      λ room. let is : bytes_eq next.uid zeros ≡ false = no_zero_uid next.uid (bytes_eq next.uid zeros) (bytes_eq-Decides next.uid zeros) (λ zero. other (sym (ap (λ (e : Entry). e.uid) same_next) ∙ zero)) in
          rw (something, is) refl,
      λ member step. (ap (λ (e : Entry). e.uid) same_next, ap (λ (e : Entry). e.node) same_next ∙ is_node),
    )
