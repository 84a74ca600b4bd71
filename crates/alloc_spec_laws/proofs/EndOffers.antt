-- What a step offers at its end: one Allocation that is told, and a call to each peer at most.
use Rattle.std.proofs.Common.{ℕ, ◌+◌, ◌≤◌, List, [], ◌∷◌, length, ◌⊎◌, inl, inr, sym, subst, arith, Option, Some, None}
use Rattle.std.specs.Prelude.{slice_index_or}
use Rattle.can_frame.specs.declared.entry.Entry.{Entry}
use Rattle.can_frame.specs.declared.step.What.{What}
use Rattle.can_frame.specs.declared.step.What.TheVariants.{Alloc, VoteQ, AppQ}
use Rattle.can_frame.specs.Log.{blank}
use Rattle.raft_core.specs.Calls.{owed}
use Rattle.raft_model.specs.Moves.{next_entry, Move}
use Rattle.raft_model.specs.Lists.{In}
use Rattle.raft_model.specs.Members.{HasNoneTwice}
use Rattle.raft_model.specs.Messages.{Message, Request}
use Rattle.raft_model.specs.Messages.Message.{Requests}
use Rattle.raft_model.specs.Moves.Leading.{append_request, vote_request}
use Rattle.raft_model.specs.Moves.Move.{CallForVote, CallToAppend, TellPair}
use Rattle.alloc_spec.specs.Ending.{append_call_bytes, calls_all, calls_by, calls_owed, calls_peer, has_to_tell, tell_phase, tells_next, vote_call_bytes}
use Rattle.alloc_spec.specs.Exchange.{allocation_payload, gives_entry}
use Rattle.alloc_spec.specs.StepState.{StepState, with_transfer}
use Rattle.alloc_spec.specs.AllocatorState.{is_zero}
use Rattle.alloc_spec.specs.Transfers.{Offer, has_room}
use Rattle.alloc_spec_laws.specs.Apart.{AreApart}
use Rattle.alloc_spec_laws.proofs.DeliveryOffers.{Fresh, IsEarly}
use Rattle.alloc_spec_laws.proofs.CalledPeers.{CallsPeer, owes_peer}
use Rattle.alloc_spec_laws.proofs.Choices.{either}
use Rattle.alloc_spec_laws.proofs.DistinctTransfers.{Listed, apart_below, no_more, one_more, rank, sent}

-- ---- the pair that is told

abbrev IsNoCall : Offer → Type 0
IsNoCall offer = rank offer.what ≤ 7

abbrev pub Told : StepState → Type 0
Told g = Listed 4 IsNoCall g.offers

untold : (g : StepState) → Fresh g → Told g
untold g h = no_more 3 4 (IsEarly g.allocator.ids) IsNoCall g.offers h (omega arith) (λ offer e. e.kind)

allocated : (step to : ℕ) (payload : List ℕ) (says : Option Message) (g : StepState) → Fresh g → Told (with_transfer step Alloc to payload says g)
allocated step to payload says g h =
    one_more 3 (IsEarly g.allocator.ids) IsNoCall g.offers
    (sent Alloc to payload says g)
    h (λ offer e fits too same to_same. (same, e.next same fits)) (λ offer e. e.kind) (omega arith)

gives : (step : ℕ) (move : Move) (entry : Entry) (g : StepState) → Fresh g → Told (gives_entry step move entry g)
gives step move entry g h =
    either Told (has_room g.allocator.queue (allocation_payload entry.node entry.uid)) _ _
    (λ e. allocated step 0 (allocation_payload entry.node entry.uid) None g h)
    (λ e. allocated step 0 (allocation_payload entry.node entry.uid) None g h)

pub tells : (step : ℕ) (g : StepState) → Fresh g → Told (tell_phase step g)
tells step g h =
    either Told (has_to_tell g.allocator.raft_server) (tells_next step g) g
    (λ e. either Told (is_zero (next_entry g.allocator.raft_server).uid) _ _ (λ z. untold g h) (λ z. gives step TellPair (slice_index_or g.allocator.raft_server.store.log g.allocator.raft_server.memory.told (blank 0)) g h))
    (λ e. untold g h)

-- ---- calls

-- an offer is no call, or one to none of these peers
abbrev IsNoCallTo : List ℕ → Offer → Type 0
IsNoCallTo peers offer = IsNoCall offer ⊎ (In offer.to peers → ⊥)

abbrev pub Called : ℕ → List ℕ → StepState → Type 0
Called most peers g = Listed most (IsNoCallTo peers) g.offers

calling : (most step peer : ℕ) (peers : List ℕ) (what : What) (payload : List ℕ) (says : Option Message) (g : StepState) → 8 ≤ rank what
    → (In peer peers → ⊥) → Called most (peer ∷ peers) g → Called (most + 1) peers (with_transfer step what peer payload says g)
calling most step peer peers what payload says g high once h =
    one_more most (IsNoCallTo (peer ∷ peers)) (IsNoCallTo peers) g.offers
    (sent what peer payload says g)
    h apart fewer (inr once)
  where
    fewer : (offer : Offer) → IsNoCallTo (peer ∷ peers) offer → IsNoCallTo peers offer
    fewer offer (inl low) = inl low
    fewer offer (inr other) = inr (λ i. other (inr i))

    apart : (offer : Offer) → IsNoCallTo (peer ∷ peers) offer → AreApart offer (sent what peer payload says g)
    apart offer (inl low) = apart_below 8 offer (sent what peer payload says g) (omega (arith, low)) high
    apart offer (inr other) = λ fits too same to. absurd (other (inl to))

uncalled : (most peer : ℕ) (peers : List ℕ) (g : StepState) → Called most (peer ∷ peers) g → Called (most + 1) peers g
uncalled most peer peers g h = no_more most (most + 1) (IsNoCallTo (peer ∷ peers)) (IsNoCallTo peers) g.offers h (omega arith) fewer
  where
    fewer : (offer : Offer) → IsNoCallTo (peer ∷ peers) offer → IsNoCallTo peers offer
    fewer offer (inl low) = inl low
    fewer offer (inr other) = inr (λ i. other (inr i))

calls_one : (most step peer : ℕ) (peers : List ℕ) (what : What) (move : Move) (request : Request) (payload : List ℕ) (g : StepState)
    → 8 ≤ rank what → (In peer peers → ⊥) → Called most (peer ∷ peers) g
    → Called (most + 1) peers (calls_by step what peer move request payload g)
calls_one most step peer peers what move request payload g high once h =
    either (λ (k : StepState). Called (most + 1) peers k) (has_room g.allocator.queue payload) _ _
    (λ e. calling most step peer peers what payload (Some (Requests request)) g high once h)
    (λ e. calling most step peer peers what payload (Some (Requests request)) g high once h)

calls_some : (most step peer : ℕ) (peers : List ℕ) (call : Option Move) (g : StepState) → CallsPeer peer call → (In peer peers → ⊥)
    → Called most (peer ∷ peers) g → Called (most + 1) peers (calls_owed step call g)
calls_some most step peer peers None g is once h = uncalled most peer peers g h
calls_some most step peer peers (Some (CallForVote node)) g is once h =
    subst (λ (n : ℕ). Called (most + 1) peers (calls_owed step (Some (CallForVote n)) g)) (sym is)
    (calls_one most step peer peers VoteQ (CallForVote peer) (vote_request g.allocator.me step g.allocator.raft_server.store peer)
    (vote_call_bytes (vote_request g.allocator.me step g.allocator.raft_server.store peer)) g (omega arith) once h)
calls_some most step peer peers (Some (CallToAppend node previous with_entry)) g is once h =
    subst (λ (n : ℕ). Called (most + 1) peers (calls_owed step (Some (CallToAppend n previous with_entry)) g)) (sym is)
    (calls_one most step peer peers AppQ (CallToAppend peer previous with_entry)
    (append_request g.allocator.me step g.allocator.raft_server.store peer previous with_entry)
    (append_call_bytes (append_request g.allocator.me step g.allocator.raft_server.store peer previous with_entry)) g (omega arith) once h)
calls_some most step peer peers (Some move) g is once h = uncalled most peer peers g h

pub calls : (most step : ℕ) (peers : List ℕ) (g : StepState) → HasNoneTwice peers → Called most peers g
    → Called (most + length peers) [] (calls_all step peers g)
calls most step [] g once h = no_more most (most + 0) (IsNoCallTo []) (IsNoCallTo []) g.offers h (omega arith) (λ offer i. i)
calls most step (peer ∷ peers) g once h =
    no_more ((most + 1) + length peers) (most + length (peer ∷ peers)) (IsNoCallTo []) (IsNoCallTo []) _
    (calls (most + 1) step peers (calls_peer step peer g) once.1
    (calls_some most step peer peers (owed g.allocator.raft_server g.allocator.times peer g.allocator.now) g (owes_peer g.allocator.raft_server g.allocator.times peer g.allocator.now)
    once.0 h)) (omega arith) (λ offer i. i)

pub nobody_called : (peers : List ℕ) (g : StepState) → Told g → Called 4 peers g
nobody_called peers g h = no_more 4 4 IsNoCall (IsNoCallTo peers) g.offers h (omega arith) (λ offer low. inl low)
