-- A leader that has told all before a pair tells the pair in the step in which it commits it.
use Rattle.std.proofs.Common.{◌≡◌, ◌≢◌, ℕ, ◌<◌, ◌≤◌, Bool, true, false, List, [], ◌∷◌, ◌++◌, length, refl, sym, ◌∙◌, ap, subst, inl, inr, arith, Option, None, Some}
use Rattle.std.specs.Prelude.{◌⊎◌, slice_index_or, if◌then◌else◌}
use Rattle.std.proofs.Math.Seq.{get_or-append_seam}
use Rattle.can_frame.specs.declared.entry.Entry.{Entry}
use Rattle.can_frame.specs.declared.step.What.TheVariants.{Alloc}
use Rattle.can_frame.specs.Log.{blank}
use Rattle.can_frame.specs.Zeros.{zeros}
use Rattle.raft_core.specs.Taken.{proposal}
use Rattle.raft_core.specs.Times.{given_at}
use Rattle.raft_model.specs.Decisions.{commit_index}
use Rattle.raft_model.specs.Duty.{commit_moves}
use Rattle.raft_model.specs.Lists.{In}
use Rattle.raft_model.specs.Moves.{next_entry}
use Rattle.raft_model.specs.Moves.Elections.{is_leader}
use Rattle.raft_model.specs.Server.{RaftServer, Role}
use Rattle.alloc_spec.specs.AllocatorState.{AllocatorState, members_of}
use Rattle.alloc_spec.specs.Ending.{call_phase, has_to_tell}
use Rattle.alloc_spec.specs.Exchange.{allocation_payload}
use Rattle.alloc_spec.specs.Step.{Event, step}
use Rattle.alloc_spec.specs.StepState.{StepState, with_moves}
use Rattle.alloc_spec.specs.Transfers.{Offer}
use Rattle.alloc_spec_laws.specs.Phases.{TellsDuly, told_allocation, when_committed, when_seen, when_told}
use Rattle.alloc_spec_laws.proofs.Choices.{and_right, lt_tells, lt_true}
use Rattle.alloc_spec_laws.proofs.Lists.{in_back, in_front}
use Rattle.service_steps.proofs.Ends.{IsKept, call_phase_keeps, rest_keeps}
use Rattle.service_device.proofs.ServedEvents.{Leads, when_done}

module _ (number : ℕ) where
  -- ---- what the end of a step keeps

  abbrev IsOf : ℕ → Role → List Entry → StepState → Type 0
  IsOf term role log g = (g.allocator.raft_server.store.term ≡ term) × (g.allocator.raft_server.memory.role ≡ role) × (g.allocator.raft_server.store.log ≡ log)

  of_kept : (term : ℕ) (role : Role) (log : List Entry) → IsKept number (IsOf term role log)
  of_kept term role log = record {
    passes = λ g e h. h;
    tells = λ given g e h. h;
    votes = λ given peer g h. h;
    appends = λ given peer previous with_entry g h. h;
    sends = λ what to payload says g h. h;
  }

  -- and a commit too, and what was told
  commit_keeps : (term told : ℕ) (role : Role) (log : List Entry) (leads : Bool) (index : Option ℕ) (g : StepState) → IsOf term role log g
      → g.allocator.raft_server.memory.told ≡ told
      → IsOf term role log (with_moves number (given_at g.allocator.now) (if leads then commit_moves index else []) g)
      × ((with_moves number (given_at g.allocator.now) (if leads then commit_moves index else []) g).allocator.raft_server.memory.told ≡ told)
  commit_keeps term told role log true None g h e = (h, e)
  commit_keeps term told role log true (Some index) g h e = (h, e)
  commit_keeps term told role log false index g h e = (h, e)

  abbrev HasCommitted : ℕ → StepState → Type 0
  HasCommitted commit g = g.allocator.raft_server.store.commit ≡ commit

  committed_kept : (commit : ℕ) → IsKept number (HasCommitted commit)
  committed_kept commit = record {
    passes = λ g e h. h;
    tells = λ given g e h. h;
    votes = λ given peer g h. h;
    appends = λ given peer previous with_entry g h. h;
    sends = λ what to payload says g h. h;
  }

  -- who has nothing to tell tells nothing
  abbrev HasToldAll : (told commit : ℕ) → StepState → Type 0
  HasToldAll told commit g = (g.allocator.raft_server.memory.told ≡ told) × (g.allocator.raft_server.store.commit ≡ commit)

  tells_none : (told commit : ℕ) → commit ≤ told → (g : StepState) → has_to_tell g.allocator.raft_server ≡ true → HasToldAll told commit g → ⊥
  tells_none told commit low g e h =
      let below = lt_true g.allocator.raft_server.memory.told g.allocator.raft_server.store.commit (and_right (is_leader g.allocator.raft_server.memory.role) _ e) in
      omega (arith, below, h.0, h.1, low)

  told_kept : (told commit : ℕ) → commit ≤ told → IsKept number (HasToldAll told commit)
  told_kept told commit low = record {
    passes = λ g e h. absurd (tells_none told commit low g e h);
    tells = λ given g e h. absurd (tells_none told commit low g e h);
    votes = λ given peer g h. h;
    appends = λ given peer previous with_entry g h. h;
    sends = λ what to payload says g h. h;
  }

  offered_kept : (offer : Offer) → IsKept number (λ g. In offer g.offers)
  offered_kept offer = record {
    passes = λ g e h. h;
    tells = λ given g e h. h;
    votes = λ given peer g h. h;
    appends = λ given peer previous with_entry g h. h;
    sends = λ what to payload says g h. in_front offer g.offers _ h;
  }

  -- ---- a step

  -- the step offers an Allocation with this node ID and unique ID
  pub record OffersPair (node : ℕ) (uid : List ℕ) (offers : List Offer) : Type 0 where
    pub offer : Offer
    pub offered : In offer offers
    pub what : offer.what ≡ Alloc
    pub to : offer.to ≡ 0
    pub payload : offer.payload ≡ allocation_payload node uid

  module _ (term commit : ℕ) (log more : List Entry) (uid : List ℕ) (node : ℕ) (device : uid ≢ zeros) (t : AllocatorState) (event : Event)
      (duly : TellsDuly number (when_committed t number event) (when_told t number event))
      (phases : (step t number event).step_state ≡ call_phase number (when_told t number event))
      (before : Leads term commit (length log) t.raft_server) (its_term : (step t number event).step_state.allocator.raft_server.store.term ≡ term)
      (its_log : (step t number event).step_state.allocator.raft_server.store.log ≡ log ++ proposal term uid node ∷ more) where
    abbrev seen : StepState
    seen = when_seen t number event

    abbrev then_ : RaftServer
    then_ = (step t number event).step_state.allocator.raft_server

    abbrev g : StepState
    g = when_committed t number event

    abbrev SeenOf : StepState → Type 0
    SeenOf = IsOf seen.allocator.raft_server.store.term seen.allocator.raft_server.memory.role seen.allocator.raft_server.store.log

    by_commit : SeenOf g × (g.allocator.raft_server.memory.told ≡ seen.allocator.raft_server.memory.told)
    by_commit = commit_keeps seen.allocator.raft_server.store.term seen.allocator.raft_server.memory.told seen.allocator.raft_server.memory.role
        seen.allocator.raft_server.store.log (is_leader seen.allocator.raft_server.memory.role)
        (commit_index (members_of seen.allocator) seen.allocator.me seen.allocator.raft_server) seen (refl, refl, refl) refl

    -- the end of the step leaves term and log
    at_end : SeenOf (step t number event).step_state
    unfolding step
    at_end = rest_keeps number SeenOf (of_kept seen.allocator.raft_server.store.term seen.allocator.raft_server.memory.role seen.allocator.raft_server.store.log) seen by_commit.0

    done : Leads term commit (length log) seen.allocator.raft_server
    done = elim (when_done term commit (length log) number t event before) [
      | inl high ↦ let e = at_end.0 in absurd (omega (arith, high, e, its_term))
      | inr l ↦ l
    ]

    told : g.allocator.raft_server.memory.told ≡ length log
    told = by_commit.1 ∙ done.told_is

    next_is : next_entry g.allocator.raft_server ≡ proposal term uid node
    next_is = (λ i. slice_index_or ((by_commit.0.2 ∙ (sym at_end.2 ∙ its_log)) i) (told i) (blank 0)) ∙ get_or-append_seam log (proposal term uid node) more (blank 0)

    commits : then_.store.commit ≡ g.allocator.raft_server.store.commit
    unfolding step
    commits = rest_keeps number (HasCommitted g.allocator.raft_server.store.commit) (committed_kept g.allocator.raft_server.store.commit) seen refl

    tells_pair : g.allocator.raft_server.memory.told < g.allocator.raft_server.store.commit → OffersPair node uid (step t number event).step_state.offers
    tells_pair low = record {
      offer = told_allocation g.allocator;
      offered = subst (λ (x : StepState). In (told_allocation g.allocator) x.offers) (sym phases)
          (call_phase_keeps number (λ x. In (told_allocation g.allocator) x.offers) (offered_kept (told_allocation g.allocator)) (when_told t number event)
          (subst (λ (l : List Offer). In (told_allocation g.allocator) l) (sym (duly.lists (by_commit.0.1 ∙ done.leads) low
          (λ e. device (sym (ap (λ (x : Entry). x.uid) next_is) ∙ e))))
          (in_back (told_allocation g.allocator) g.offers (told_allocation g.allocator ∷ []) (inl refl))));
      what = refl;
      to = refl;
      payload = λ i. allocation_payload (next_is i).node (next_is i).uid;
    }

    waits : g.allocator.raft_server.store.commit ≤ g.allocator.raft_server.memory.told
        → HasToldAll (length log) g.allocator.raft_server.store.commit (step t number event).step_state
    unfolding step
    waits low = rest_keeps number (HasToldAll (length log) g.allocator.raft_server.store.commit)
        (told_kept (length log) g.allocator.raft_server.store.commit (omega (arith, low, told))) seen (told, refl)

    -- it tells the pair, or has committed no more than what it told
    pub tells_or_waits : (OffersPair node uid (step t number event).step_state.offers × (length log < then_.store.commit))
        ⊎ ((then_.memory.told ≡ length log) × (then_.store.commit ≤ length log))
    tells_or_waits = elim (lt_tells g.allocator.raft_server.memory.told g.allocator.raft_server.store.commit) [
      | inl z ↦ inl (tells_pair z.1, let low = z.1 in omega (arith, low, told, commits))
      | inr z ↦ let k = waits z.1 in let low = z.1 in inr (k.0, omega (arith, low, told, commits))
    ]
