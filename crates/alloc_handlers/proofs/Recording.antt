-- An entry that no rule refuses.
use Rattle.std.proofs.Common.{◌≡◌, ◌<◌, ◌∷◌, [], ℕ, List, Result, Ok, Err, refl, sym, subst, arith}
use Rattle.alloc_handlers.proofs.Words.{Durable, Fault, Ghosts, GoesTo, IsInStep, IsReady, MakesMoves, Member, Offered, ProposeEntry, PutsGoOn, Raft, StepState, given_proposal, members_of, proposes, raft_me, result_err}
use Rattle.raft_core.specs.declared.propose.Proposed.{Proposed}
use Rattle.raft_core.specs.declared.propose.Proposed.TheVariants.{Added, LogFull, NotLeader, Taken}
use Rattle.raft_core.specs.Proposing.{Appends, IsTried}
use Rattle.raft_core.specs.Taken.{proposal}
use Rattle.alloc_handlers.proofs.Taking.{made_moves}

pub is_tried : (result : Result Proposed Fault) → (result ≡ Ok NotLeader → ⊥) → (result ≡ Ok LogFull → ⊥) → (result ≡ Ok Taken → ⊥) → IsTried result
is_tried (Ok Added) leads room free = tt
is_tried (Ok NotLeader) leads room free = leads refl
is_tried (Ok LogFull) leads room free = room refl
is_tried (Ok Taken) leads room free = free refl
is_tried (Err fault) leads room free = tt

pub no_room : (n : ℕ) → n < 127 → n ≡ 127 → ⊥
no_room n below is = omega arith

-- a member appends it
module _ {D : Type 0} {disk : Ghosts D} {start durable : Durable D disk} {old : Member D disk} {raft : Raft} {g : StepState} {uid : List ℕ} {node origin : ℕ} {result : Result Proposed Fault}
    (ready : IsReady old) (h : IsInStep start old g) (laws : PutsGoOn D disk) (step : ℕ) where
  pub appended : raft ≡ old.raft → IsTried result → Appends old.raft uid node origin old.durable durable result
      → GoesTo start (record old { durable = durable; raft = raft }) (proposes step origin uid node g) (result_err result)
  appended same tried appends =
      let t = g.allocator in
      made_moves ready h laws step (λ now. given_proposal now origin) (λ me. ProposeEntry (proposal t.raft_server.store.term uid node) ∷ [])
      (subst (λ (r : Raft). MakesMoves (members_of t) (raft_me old.raft) step (given_proposal old.latest origin) (ProposeEntry (proposal t.raft_server.store.term uid node) ∷ []) t.raft_server t.times old.durable durable r (result_err result)) (sym same)
      (appends.moves (members_of t) step t.raft_server t.times h.stands.raft (given_proposal old.latest origin) refl ((appends.tried t.raft_server h.stands.raft.store h.stands.raft.role).0 tried)))
