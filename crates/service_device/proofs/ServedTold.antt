-- A leader that has told so many places, and has committed more when a step is over, tells the next one in it, where there is room.
use Rattle.std.proofs.Common.{◌≡◌, ℕ, ◌+◌, ◌<◌, ◌≤◌, true, refl, sym, ◌∙◌, ap, subst, inl, inr, arith}
use Rattle.std.specs.Str.{bytes_eq}
use Rattle.std.proofs.lemmas.Slice.Eq.{bytes_eq-Decides}
use Rattle.can_frame.specs.Zeros.{zeros}
use Rattle.raft_model.specs.Moves.{next_entry}
use Rattle.raft_model.specs.Server.{RaftServer, Role, Store}
use Rattle.raft_model.specs.Server.Role.{Leader}
use Rattle.alloc_spec.specs.AllocatorState.{AllocatorState}
use Rattle.alloc_spec.specs.Step.{Event, step}
use Rattle.alloc_spec.specs.StepState.{StepState}
use Rattle.alloc_spec_laws.specs.Phases.{TellsDuly, has_room_to_tell, when_committed, when_told}
use Rattle.alloc_spec_laws.proofs.Choices.{lt_tells, tell}
use Rattle.alloc_spec_laws.proofs.LogGrowth.{IsSane}
use Rattle.service_steps.proofs.Ends.{IsKept, call_phase_keeps, tell_keeps}
use Rattle.service_device.proofs.AllocationsTold.{Reaches, VerdictsAre, reaches_then, stored_then}

-- so much is told and committed, and no more is committed than the log has
pub record HasReached (least : ℕ) (server : RaftServer) : Type 0 where
  pub sane : IsSane server.store
  pub told : least ≤ server.memory.told
  pub committed : least ≤ server.store.commit

module _ (number : ℕ) where
  -- telling and calling tell no less
  told_kept : (least : ℕ) → IsKept number (λ (g : StepState). least ≤ g.allocator.raft_server.memory.told)
  told_kept least = record {
    passes = λ g e h. omega (arith, h);
    tells = λ given g e h. omega (arith, h);
    votes = λ given peer g h. h;
    appends = λ given peer previous with_entry g h. h;
    sends = λ what to payload says g h. h;
  }

  -- and leave the role
  role_kept : (role : Role) → IsKept number (λ (g : StepState). g.allocator.raft_server.memory.role ≡ role)
  role_kept role = record {
    passes = λ g e h. h;
    tells = λ given g e h. h;
    votes = λ given peer g h. h;
    appends = λ given peer previous with_entry g h. h;
    sends = λ what to payload says g h. h;
  }

  module _ (t : AllocatorState) (event : Event) where
    abbrev g : StepState
    g = when_committed t number event

    abbrev told_ : StepState
    told_ = when_told t number event

    abbrev ended : AllocatorState
    ended = (step t number event).step_state.allocator

    -- what is told when the step has told is told when it ends
    ends_told : (least : ℕ) → least ≤ told_.allocator.raft_server.memory.told → least ≤ ended.raft_server.memory.told
    unfolding step
    ends_told least h = call_phase_keeps number (λ (x : StepState). least ≤ x.allocator.raft_server.memory.told) (told_kept least) told_ h

    tells_on : (least : ℕ) → least ≤ g.allocator.raft_server.memory.told → least ≤ ended.raft_server.memory.told
    tells_on least h = ends_told least (tell_keeps number (λ (x : StepState). least ≤ x.allocator.raft_server.memory.told) (told_kept least) g h)

    same_role : ended.raft_server.memory.role ≡ g.allocator.raft_server.memory.role
    unfolding step
    same_role = call_phase_keeps number (λ (x : StepState). x.allocator.raft_server.memory.role ≡ g.allocator.raft_server.memory.role)
        (role_kept g.allocator.raft_server.memory.role) told_
        (tell_keeps number (λ (x : StepState). x.allocator.raft_server.memory.role ≡ g.allocator.raft_server.memory.role)
        (role_kept g.allocator.raft_server.memory.role) g refl)

    module _ (judged : VerdictsAre) (least : ℕ) (before : HasReached least t.raft_server) where
      then_ : Reaches judged number least g.allocator.raft_server
      then_ = reaches_then judged number least t event (record { sane = before.sane; told = before.told; committed = before.committed })

      -- a step leaves it so
      pub reached_on : HasReached least ended.raft_server
      reached_on = record {
        sane = subst IsSane (sym (stored_then t number event)) then_.sane;
        told = tells_on least then_.told;
        committed = subst (λ (s : Store). least ≤ s.commit) (sym (stored_then t number event)) then_.committed;
      }

      -- it tells the next one
      pub tells_next_one : TellsDuly number g told_ → ended.raft_server.memory.role ≡ Leader → has_room_to_tell g.allocator ≡ true
          → least < ended.raft_server.store.commit → least + 1 ≤ ended.raft_server.memory.told
      tells_next_one duly leads room more = elim (lt_tells least g.allocator.raft_server.memory.told) [
        | inl z ↦ tells_on (least + 1) (let low = z.1 in omega (arith, low))
        | inr z ↦ ends_told (least + 1) (let r = next z.1 in let h = then_.told in omega (arith, r, h))
      ]
        where
          leads_then : g.allocator.raft_server.memory.role ≡ Leader
          leads_then = sym same_role ∙ leads

          next : g.allocator.raft_server.memory.told ≤ least → told_.allocator.raft_server.memory.told ≡ g.allocator.raft_server.memory.told + 1
          next low = elim (tell (bytes_eq (next_entry g.allocator.raft_server).uid zeros)) [
            | inl z ↦ ((duly.tells leads_then).passed behind ((bytes_eq-Decides (next_entry g.allocator.raft_server).uid zeros).0 z)).0
            | inr z ↦ ((duly.tells leads_then).told behind (λ none. absurd (cc (z, (bytes_eq-Decides (next_entry g.allocator.raft_server).uid zeros).1 none))) room).0
          ]
            where
              behind : g.allocator.raft_server.memory.told < g.allocator.raft_server.store.commit
              behind = let e = ap (λ (s : Store). s.commit) (stored_then t number event) in omega (arith, e, low, more)
