-- A request that a step is delivered is answered by it, and a NodeStatus is heard.
use Rattle.std.proofs.Common.{◌≡◌, ◌≢◌, ℕ, Bool, true, false, List, [], ◌∷◌, ◌≤◌, drop, inl, inr, refl, sym, ◌∙◌, ap, subst, arith, Option, Some, None}
use Rattle.std.specs.Prelude.{max, nat_eq, slice_index_or}
use Rattle.std.proofs.lemmas.Bool.{le-leb}
use Rattle.can_frame.specs.declared.entry.Entry.{Entry}
use Rattle.can_frame.specs.declared.identifier.Kind.{Kind}
use Rattle.can_frame.specs.declared.identifier.Kind.TheVariants.{Request as RequestKind}
use Rattle.can_frame.specs.declared.step.What.{What}
use Rattle.can_frame.specs.declared.step.What.TheVariants.{Alloc, App, AppQ, Info, Vote, VoteQ}
use Rattle.can_frame.specs.Log.{blank}
use Rattle.dsdl_codec.specs.declared.append_request.AppendRequest.{AppendRequest}
use Rattle.dsdl_codec.specs.declared.vote_request.VoteRequest.{VoteRequest}
use Rattle.dsdl_codec.specs.AppendAnswer.{append_answer_bytes}
use Rattle.dsdl_codec.specs.AppendRequest.{append_request_of}
use Rattle.dsdl_codec.specs.declared.node_status.NodeStatus.{NodeStatus}
use Rattle.dsdl_codec.specs.NodeInfo.{node_info_bytes}
use Rattle.dsdl_codec.specs.NodeStatus.{node_status_of}
use Rattle.dsdl_codec.specs.VoteAnswer.{vote_answer_bytes}
use Rattle.dsdl_codec.specs.VoteRequest.{vote_request_of}
use Rattle.node_discovery.specs.History.{last_status}
use Rattle.node_discovery.specs.Watch.{Watched, after_status, history}
use Rattle.raft_core.specs.Calls.{owed}
use Rattle.raft_core.specs.Handled as handled
use Rattle.raft_core.specs.Times.{given_at}
use Rattle.raft_model.specs.Decisions.{grants, verdict_on}
use Rattle.raft_model.specs.Lists.{In}
use Rattle.raft_model.specs.Messages.{Message, Request}
use Rattle.raft_model.specs.Messages.Message.{Answers as Says, Requests}
use Rattle.raft_model.specs.Moves.{Move, next_entry}
use Rattle.raft_model.specs.Moves.Appending.{Verdict, is_accepted}
use Rattle.raft_model.specs.Moves.Elections.{with_term}
use Rattle.raft_model.specs.Moves.Leading.{answer_to, append_request, vote_request}
use Rattle.raft_model.specs.Moves.Move.{CallForVote, CallToAppend, TakeAppendRequest, TakeVoteRequest, TellPair}
use Rattle.transfer_rx.specs.Reassembly.{Answer as Received, Arrival, Delivery}
use Rattle.transfer_rx.specs.Reassembly.Answer.{Gives}
use Rattle.transfer_rx.specs.Reassembly as rx
use Rattle.alloc_spec.specs.Accepted.{setting_for}
use Rattle.alloc_spec.specs.AllocatorState.{AllocatorState, is_zero, members_of}
use Rattle.alloc_spec.specs.Delivered.{StepResult, asks_info, by_kind, delivery_phase, hears_status, reads, request}
use Rattle.alloc_spec.specs.Ending.{append_call_bytes, calls_all, calls_by, calls_owed, calls_peer, commit_phase, end_phase, has_to_tell, tell_phase, tells_next, vote_call_bytes}
use Rattle.alloc_spec.specs.Exchange.{allocation_payload, gives_entry}
use Rattle.alloc_spec.specs.Services.{info_of, is_listed}
use Rattle.alloc_spec.specs.Step.{Event, at_step, begin_phase, moment_of, step, with_answer, with_sessions}
use Rattle.alloc_spec.specs.Step.Event.{Rx}
use Rattle.alloc_spec.specs.StepState.{StepState, with_moves, with_response_to, with_transfer}
use Rattle.alloc_spec.specs.Transfers.{Offer, has_room}
use Rattle.alloc_spec_laws.specs.Answering.{AnswersRequest, AnswersRequests, IsAnswered}
use Rattle.alloc_spec_laws.specs.FreeNodes.{IsStatus, WasHeardAt}
use Rattle.alloc_spec_laws.specs.Listing.{IsDelivered}
use Rattle.alloc_spec_laws.proofs.Choices.{either, eq_false, eq_true, tell}
use Rattle.alloc_spec_laws.proofs.Lists.{in_back, in_front}

-- what was offered stays offered, and nothing more is heard of nodes
record Goes (g h : StepState) : Type 0 where
  stays : (offer : Offer) → In offer g.offers → In offer h.offers
  watch : h.allocator.watch ≡ g.allocator.watch

then : {f g h : StepState} → Goes f g → Goes g h → Goes f h
then first second = record { stays = λ offer i. second.stays offer (first.stays offer i); watch = second.watch ∙ first.watch }

kept : (g : StepState) → Goes g g
kept g = record { stays = λ offer i. i; watch = refl }

module _ (number : ℕ) where
  offers : (what : What) (to : ℕ) (payload : List ℕ) (says : Option Message) (g : StepState) → Goes g (with_transfer number what to payload says g)
  offers what to payload says g = record { stays = λ offer i. in_front offer g.offers _ i; watch = refl }

  gives : (move : Move) (entry : Entry) (g : StepState) → Goes g (gives_entry number move entry g)
  gives move entry g =
      let payload : List ℕ = allocation_payload entry.node entry.uid in
      let offered : StepState = with_transfer number Alloc 0 payload None g in
      let more : Goes g offered = offers Alloc 0 payload None g in
      either (Goes g) (has_room g.allocator.queue payload) _ offered (λ e. record { stays = more.stays; watch = refl }) (λ e. more)

  commits : (g : StepState) → Goes g (commit_phase number g)
  commits g = record { stays = λ offer i. i; watch = refl }

  tells : (g : StepState) → Goes g (tell_phase number g)
  tells g =
      either (Goes g) (has_to_tell g.allocator.raft_server) (tells_next number g) g
      (λ e. either (Goes g) (is_zero (next_entry g.allocator.raft_server).uid) _ _ (λ z. record { stays = λ offer i. i; watch = refl })
      (λ z. gives TellPair (slice_index_or g.allocator.raft_server.store.log g.allocator.raft_server.memory.told (blank 0)) g)) (λ e. kept g)

  by_call : (what : What) (peer : ℕ) (move : Move) (asks : Request) (payload : List ℕ) (g : StepState) → Goes g (calls_by number what peer move asks payload g)
  by_call what peer move asks payload g =
      let offered : StepState = with_transfer number what peer payload (Some (Requests asks)) g in
      let more : Goes g offered = offers what peer payload (Some (Requests asks)) g in
      either (Goes g) (has_room g.allocator.queue payload) _ offered (λ e. record { stays = more.stays; watch = refl }) (λ e. more)

  owed_call : (call : Option Move) (g : StepState) → Goes g (calls_owed number call g)
  owed_call None g = kept g
  owed_call (Some (CallForVote node)) g =
      let asks : Request = vote_request g.allocator.me number g.allocator.raft_server.store node in
      by_call VoteQ node (CallForVote node) asks (vote_call_bytes asks) g
  owed_call (Some (CallToAppend node previous with_entry)) g =
      let asks : Request = append_request g.allocator.me number g.allocator.raft_server.store node previous with_entry in
      by_call AppQ node (CallToAppend node previous with_entry) asks (append_call_bytes asks) g
  owed_call (Some move) g = kept g

  calls : (peers : List ℕ) (g : StepState) → Goes g (calls_all number peers g)
  calls [] g = kept g
  calls (peer ∷ peers) g =
      then (owed_call (owed g.allocator.raft_server g.allocator.times peer g.allocator.now) g) (calls peers (calls_peer number peer g))

  ends : (g : StepState) → Goes g (end_phase number g)
  ends g =
      let told : StepState = tell_phase number (commit_phase number g) in
      then (then (commits g) (tells (commit_phase number g))) (calls (drop 1 (members_of told.allocator)) told)

  -- ---- the response to a request

  record Responds (d : Delivery) (what : What) (g : StepState) : Type 0 where
    offer : Offer
    offered : In offer g.offers
    is : offer.what ≡ what
    to : offer.to ≡ d.ident.source
    id : offer.id ≡ d.id

  responds : (what : What) (d : Delivery) (payload : List ℕ) (says : Option Message) (g : StepState) → Responds d what (with_response_to number what d payload says g)
  responds what d payload says g =
      let own : Offer = record { what = what; to = d.ident.source; id = d.id; payload = payload; re = d.mark.step; says = says; fitted = has_room g.allocator.queue payload } in
      record { offer = own; offered = in_back own g.offers (own ∷ []) (inl refl); is = refl; to = refl; id = refl }

  at_end : (d : Delivery) (what : What) (g : StepState) → Responds d what g → Responds d what (end_phase number g)
  at_end d what g h = record { offer = h.offer; offered = (ends g).stays h.offer h.offered; is = h.is; to = h.to; id = h.id }

  abbrev Result : Delivery → What → StepResult → Type 0
  Result d what s = Responds d what s.step_state

  info : (d : Delivery) (g : StepState) → nat_eq d.ident.number 1 ≡ true → d.payload ≡ [] → Result d Info (request number d g)
  info d g one empty =
      let answered : Result d Info (asks_info number d [] g) = responds Info d (node_info_bytes (info_of g.allocator)) None g in
      rw one (subst (λ (payload : List ℕ). Result d Info (asks_info number d payload g)) (sym empty) answered)

  vote : (d : Delivery) (value : VoteRequest) (g : StepState) → nat_eq d.ident.number 1 ≡ false → nat_eq d.ident.number 30 ≡ false
      → vote_request_of d.payload ≡ Some value → is_listed d g.allocator ≡ true → Result d Vote (request number d g)
  vote d value g one thirty read listed =
      let asks = handled.vote_request_of value d.mark.step d.ident.source g.allocator.me in
      let store = with_term g.allocator.raft_server.store asks.term in
      let granted : Bool = grants store asks in
      let g' : StepState = with_moves number (given_at g.allocator.now) (TakeVoteRequest asks granted ∷ []) g in
      rw (one, thirty, read, listed)
      (responds Vote d (vote_answer_bytes (record { term = store.term; granted = granted }) 0) (Some (Says (answer_to g.allocator.me number store asks granted))) g')

  append : (d : Delivery) (value : AppendRequest) (g : StepState) → nat_eq d.ident.number 1 ≡ false → nat_eq d.ident.number 30 ≡ true
      → append_request_of d.payload ≡ Some value → is_listed d g.allocator ≡ true → Result d App (request number d g)
  append d value g one thirty read listed =
      let asks = handled.append_request_of value d.mark.step d.ident.source g.allocator.me in
      let store = with_term g.allocator.raft_server.store asks.term in
      let verdict : Verdict = verdict_on g.allocator.raft_server asks in
      let g' : StepState = with_moves number (given_at g.allocator.now) (TakeAppendRequest asks verdict ∷ []) g in
      rw (one, thirty, read, listed)
      (responds App d (append_answer_bytes (record { term = store.term; success = is_accepted verdict }) 0)
      (Some (Says (answer_to g.allocator.me number store asks (is_accepted verdict)))) g')

  -- ---- the step

  delivered : (d : Delivery) (what : What) (g : StepState) → d.ident.kind ≡ RequestKind → Result d what (request number d g) → Result d what (delivery_phase number d g)
  unfolding delivery_phase
  delivered d what g kind h = subst (λ (k : Kind). Result d what (by_kind number d k g)) (sym kind) h

same_number : (n m : ℕ) → n ≡ m → nat_eq n m ≡ true
same_number n m e = elim (tell (nat_eq n m)) [ inl b ↦ b | inr b ↦ absurd (eq_false n m b e) ]

other_number : (n m : ℕ) → n ≢ m → nat_eq n m ≡ false
other_number n m e = elim (tell (nat_eq n m)) [ inl b ↦ absurd (e (eq_true n m b)) | inr b ↦ b ]

-- what the receiver answers to a frame that comes
abbrev received : AllocatorState → ℕ → Arrival → Received
received t number arrival =
    let begin : StepState = begin_phase number arrival.moment t in
    rx.answer (setting_for begin.allocator.me) begin.allocator.sessions (at_step begin.allocator arrival)

module _ (t : AllocatorState) (number : ℕ) (arrival : Arrival) (d : Delivery) (gives_it : received t number arrival ≡ Gives d) (kind : d.ident.kind ≡ RequestKind) where
  abbrev g : StepState
  g = with_sessions arrival (begin_phase number arrival.moment t)

  ending : (what : What) → Responds number d what (request number d g).step_state → IsAnswered t number (Rx arrival) d what
  unfolding step
  ending what h =
      let whole : Responds number d what (with_answer number (Gives d) g).step_state = delivered number d what g kind h in
      let answered : Responds number d what (with_answer number (received t number arrival) g).step_state =
      subst (λ (a : Received). Responds number d what (with_answer number a g).step_state) (sym gives_it) whole in
      let last = at_end number d what (with_answer number (received t number arrival) g).step_state answered in
      record { offer = last.offer; offered = last.offered; is = last.is; to = last.to; id = last.id }

  apart : d.ident.number ≡ 30 → d.ident.number ≢ 1
  apart thirty one = omega (arith, thirty, one)

  answers_request : AnswersRequest t number (Rx arrival) d
  answers_request = record {
    info = λ one empty. ending Info (info number d g (same_number d.ident.number 1 one) empty);
    append = λ thirty value read listed. ending App
        (append number d value g (other_number d.ident.number 1 (apart thirty)) (same_number d.ident.number 30 thirty) read listed);
    vote = λ one thirty value read listed. ending Vote
        (vote number d value g (other_number d.ident.number 1 one) (other_number d.ident.number 30 thirty) read listed);
  }

-- ---- a NodeStatus

heard_last : (watch : List Watched) (node now : ℕ) → 1 ≤ node → node ≤ 125 → last_status (history node (after_status watch node now)) ≡ Some now
heard_last watch node now least most = rw (le-leb 1 node least, le-leb node 125 most, same_number node node refl) refl

module _ (t : AllocatorState) (number : ℕ) (arrival : Arrival) (d : Delivery) (gives_it : received t number arrival ≡ Gives d) (is : IsStatus d) where
  abbrev before : StepState
  before = with_sessions arrival (begin_phase number arrival.moment t)

  read : (value : Option NodeStatus) → node_status_of d.payload ≡ value → (status : NodeStatus) → value ≡ Some status
      → (reads (λ status. hears_status d) value before).step_state.allocator.watch ≡ after_status t.watch d.ident.source (max t.now arrival.moment)
  read None e status some = absurd (cc (some))
  read (Some value) e status some = refl

  taken : (delivery_phase number d before).step_state.allocator.watch ≡ after_status t.watch d.ident.source (max t.now arrival.moment)
  unfolding delivery_phase
  taken = subst (λ (k : Kind). (by_kind number d k before).step_state.allocator.watch ≡ after_status t.watch d.ident.source (max t.now arrival.moment)) (sym is.kind)
      (rw (same_number d.ident.number 341 is.number) (read (node_status_of d.payload) refl is.status is.says))

  heard : 1 ≤ d.ident.source → d.ident.source ≤ 125 → WasHeardAt (step t number (Rx arrival)).step_state.allocator d.ident.source (max t.now arrival.moment)
  unfolding step
  heard least most =
      let whole : (with_answer number (received t number arrival) before).step_state.allocator.watch ≡ after_status t.watch d.ident.source (max t.now arrival.moment) =
      subst (λ (a : Received). (with_answer number a before).step_state.allocator.watch ≡ after_status t.watch d.ident.source (max t.now arrival.moment)) (sym gives_it) taken in
      let ended = (ends number (with_answer number (received t number arrival) before).step_state).watch in
      ap (λ (watch : List Watched). last_status (history d.ident.source watch)) (ended ∙ whole)
      ∙ heard_last t.watch d.ident.source (max t.now arrival.moment) least most

pub status_heard : (t : AllocatorState) (number : ℕ) (event : Event) (d : Delivery) → IsDelivered t number event d → IsStatus d → 1 ≤ d.ident.source → d.ident.source ≤ 125
    → WasHeardAt (step t number event).step_state.allocator d.ident.source (max t.now (moment_of event))
status_heard t number event d comes is least most =
    let gives_it : received t number comes.arrival ≡ Gives d =
    subst (λ (e : Event). let then_ = (begin_phase number (moment_of e) t).allocator in
    rx.answer (setting_for then_.me) then_.sessions (at_step then_ comes.arrival) ≡ Gives d) comes.comes comes.gives in
    subst (λ (e : Event). WasHeardAt (step t number e).step_state.allocator d.ident.source (max t.now (moment_of e))) (sym comes.comes)
    (heard t number comes.arrival d gives_it is least most)

pub answers_requests : (t : AllocatorState) (number : ℕ) (event : Event) → AnswersRequests t number event
answers_requests t number event d comes kind =
    let gives_it : received t number comes.arrival ≡ Gives d =
    subst (λ (e : Event). let then_ = (begin_phase number (moment_of e) t).allocator in
    rx.answer (setting_for then_.me) then_.sessions (at_step then_ comes.arrival) ≡ Gives d) comes.comes comes.gives in
    subst (λ (e : Event). AnswersRequest t number e d) (sym comes.comes) (answers_request t number comes.arrival d gives_it kind)
