-- What is kept of one peer changes.
use Rattle.std.proofs.Common.{◌≢◌, inl, inr, ℕ, ◌<◌, List, length, sym, subst}
use Rattle.std.specs.Prelude.{slice_index_or, slice_set}
use Rattle.std.proofs.lemmas.Bool.Decides.{eqb_tells}
use Rattle.std.proofs.lemmas.List.{get_or-set_other, get_or-set_same}
use Rattle.raft_core.specs.declared.peer.Peer.{Peer}

-- a fact of the peer that changed, and of each other one as it was
pub one_changed : (P : ℕ → Peer → Type 0) (peers : List Peer) (q : ℕ) (peer : Peer) → q < length peers → P q peer
    → ((i : ℕ) (d : Peer) → i < 128 → i ≢ q → P i (slice_index_or peers i d)) → (i : ℕ) (d : Peer) → i < 128 → P i (slice_index_or (slice_set peers q peer) i d)
one_changed P peers q peer within here others i d below = elim (eqb_tells i q) [
  | inl same ↦ subst (λ (j : ℕ). P j (slice_index_or (slice_set peers q peer) j d)) (sym same.1) (subst (P q) (sym (get_or-set_same peers q peer d within)) here)
  | inr differs ↦ subst (P i) (sym (get_or-set_other peers q i peer d differs.1)) (others i d below differs.1)
]
