-- A leader that has committed its log answers a whole unique ID that stands there with the node ID that it has.
use Rattle.std.proofs.Common.{◌≡◌, ℕ, ◌<◌, Bool, true, false, List, [], ◌∷◌, ◌++◌, length, refl, sym, ◌∙◌, ap, subst, arith, Option, None, Some}
use Rattle.std.specs.Prelude.{if◌then◌else◌, slice_index_or}
use Rattle.alloc_exchange.specs.declared.heard.Heard.{Heard}
use Rattle.alloc_exchange.specs.declared.heard.Heard.TheVariants.{Whole}
use Rattle.alloc_exchange.specs.Exchange.{answer}
use Rattle.can_frame.specs.declared.step.What.TheVariants.{Alloc}
use Rattle.can_frame.specs.Log.{blank}
use Rattle.dsdl_codec.specs.declared.allocation.Allocation.{Allocation}
use Rattle.raft_core.specs.Times.{given_at}
use Rattle.raft_model.specs.Moves.Move.{AnswerAgain}
use Rattle.raft_model.specs.Server.{Store}
use Rattle.transfer_rx.specs.Reassembly.{Arrival}
use Rattle.alloc_spec.specs.AllocatorState.{AllocatorState, is_zero, recorded_at}
use Rattle.alloc_spec.specs.Delivered.{StepResult, took}
use Rattle.alloc_spec.specs.Ending.{end_phase}
use Rattle.alloc_spec.specs.Exchange.{allocation_payload, answers_or_records, answers_request, gives_pair, hears_allocation, with_request}
use Rattle.alloc_spec.specs.Step.{step, with_end_phase}
use Rattle.alloc_spec.specs.Step.Event.{Rx}
use Rattle.alloc_spec.specs.StepState.{StepState, with_move_if, with_moves, with_transfer}
use Rattle.alloc_spec.specs.Transfers.{Offer, has_room}
use Rattle.service_steps.specs.Requests.{IsRequest, moment_at}
use Rattle.service_steps.specs.Serving.{IsFirst, IsReady, allocation_from}
use Rattle.service_steps.proofs.Alone.{lt_is}
use Rattle.service_steps.proofs.Begins.{IsAsBefore}
use Rattle.service_steps.proofs.Ends.{IsKept, rest_keeps}
use Rattle.service_steps.proofs.FollowUps.{begun, commits_nothing, may, same_follow, step_is, when_come}

one_more : (offer new : Offer) (offers : List Offer) → IsFirst offer offers → IsFirst offer (offers ++ new ∷ [])
one_more offer new offers h = record { more = h.more ++ new ∷ []; is = ap (λ (l : List Offer). l ++ new ∷ []) h.is }

-- the first offer stays the first
first_kept : (number : ℕ) (offer : Offer) → IsKept number (λ (g : StepState). IsFirst offer g.offers)
first_kept number offer = record {
  passes = λ g e h. h;
  tells = λ given g e h. h;
  votes = λ given peer g h. h;
  appends = λ given peer previous with_entry g h. h;
  sends = λ what to payload says g h. one_more offer _ g.offers h;
}

module _ (t : AllocatorState) (number : ℕ) (arrival : Arrival) (message : Allocation) (uid : List ℕ) (preferred node at : ℕ) (ready : IsReady t) (request : IsRequest arrival message)
    (whole : answer t.accepted message (moment_at t arrival) true ≡ Whole uid preferred)
    (device : is_zero uid ≡ false) (stands_at : recorded_at t.raft_server.store.log uid ≡ Some at) (inside : at < length t.raft_server.store.log)
    (its_uid : (slice_index_or t.raft_server.store.log at (blank 0)).uid ≡ uid) (its_node : (slice_index_or t.raft_server.store.log at (blank 0)).node ≡ node)
    (room : has_room t.queue (allocation_payload node uid) ≡ true) where
  abbrev come : StepState
  come = when_come t number arrival

  before : IsAsBefore t.raft_server come.allocator.raft_server
  before = begun t number arrival

  abbrev offered : StepState
  offered = with_transfer number Alloc 0 (allocation_payload node uid) None (with_request message come)

  abbrev told_again : StepState
  told_again = with_moves number (given_at come.allocator.now) (AnswerAgain at ∷ []) offered

  hears : hears_allocation number message come ≡ told_again
  hears = ap (λ (h : Heard). answers_request number h asked_)
      (ap (λ (b : Bool). answer t.accepted message (moment_at t arrival) b) (same_follow t come.allocator.raft_server before.store before.role ∙ may t ready) ∙ whole)
      ∙ (ap (λ (b : Bool). if b then asked_ else answers_or_records number uid preferred (recorded_at come.allocator.raft_server.store.log uid) asked_) device
      ∙ (ap (λ (o : Option ℕ). answers_or_records number uid preferred o asked_) (ap (λ (x : Store). recorded_at x.log uid) before.store ∙ stands_at)
      ∙ (ap (λ (b : Bool). if b then gives_pair number (AnswerAgain at) at asked_ else asked_) (lt_is at come.allocator.raft_server.store.commit
      (omega (arith, inside, ap (λ (x : Store). x.commit) before.store, ready.committed)))
      ∙ ((λ i. gives_as (node_then i) (uid_then i))
      ∙ ap (λ (b : Bool). with_move_if b number (given_at come.allocator.now) (AnswerAgain at) offered) room))))
    where
      asked_ : StepState
      asked_ = with_request message come

      gives_as : ℕ → List ℕ → StepState
      gives_as k u = with_move_if (has_room t.queue (allocation_payload k u)) number (given_at come.allocator.now) (AnswerAgain at)
          (with_transfer number Alloc 0 (allocation_payload k u) None asked_)

      node_then : (slice_index_or come.allocator.raft_server.store.log at (blank 0)).node ≡ node
      node_then = ap (λ (x : Store). (slice_index_or x.log at (blank 0)).node) before.store ∙ its_node

      uid_then : (slice_index_or come.allocator.raft_server.store.log at (blank 0)).uid ≡ uid
      uid_then = ap (λ (x : Store). (slice_index_or x.log at (blank 0)).uid) before.store ∙ its_uid

  committed : told_again.allocator.raft_server.store.commit ≡ length told_again.allocator.raft_server.store.log
  committed = rw (before.store) ready.committed

  fits : IsFirst (allocation_from t node uid) told_again.offers
  fits = record { more = []; is = rw (room) refl }

  ends : IsFirst (allocation_from t node uid) (end_phase number told_again).offers
  ends = rest_keeps number (λ (g : StepState). IsFirst (allocation_from t node uid) g.offers) (first_kept number (allocation_from t node uid)) told_again
      (subst (λ (k : StepState). IsFirst (allocation_from t node uid) k.offers) (sym (commits_nothing number told_again committed)) fits)

  -- its first transfer is the pair
  pub again_first : IsFirst (allocation_from t node uid) (step t number (Rx arrival)).step_state.offers
  again_first = subst (λ (s : StepResult). IsFirst (allocation_from t node uid) s.step_state.offers) (sym (step_is t number arrival message request))
      (subst (λ (g : StepState). IsFirst (allocation_from t node uid) (with_end_phase number (took g)).step_state.offers) (sym hears) ends)
