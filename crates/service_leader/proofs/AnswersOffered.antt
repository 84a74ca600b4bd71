-- Who is called offers its answer, by its verdict on the request.
use Rattle.std.proofs.Common.{◌≡◌, ℕ, ◌+◌, ◌<◌, arith, true, List, [], ◌∷◌, length, refl, sym, ◌∙◌, ap, subst, inl, Some}
use Rattle.std.proofs.lemmas.Bool.{le-leb}
use Rattle.can_frame.specs.declared.step.What.TheVariants.{App, AppQ}
use Rattle.dsdl_codec.specs.declared.append_request.AppendRequest.{AppendRequest}
use Rattle.dsdl_codec.specs.AppendRequest.{append_request_of}
use Rattle.raft_model.specs.Decisions.{verdict_on}
use Rattle.raft_model.specs.Lists.{In}
use Rattle.raft_model.specs.Messages.{Answer, Request}
use Rattle.raft_model.specs.Messages.Message.{Answers}
use Rattle.raft_model.specs.Moves.Appending.{is_accepted}
use Rattle.raft_model.specs.Moves.Elections.{with_term}
use Rattle.raft_model.specs.Moves.Leading.{answer_to}
use Rattle.raft_model.specs.Server.{RaftServer}
use Rattle.bus_rows.specs.declared.row.Row.{Row}
use Rattle.transfer_rx.specs.Reassembly.{Arrival}
use Rattle.transfer_tx.specs.Queue.{Queued}
use Rattle.alloc_spec.specs.AllocatorState.{AllocatorState, members_of}
use Rattle.alloc_spec.specs.Delivered.{StepResult, took}
use Rattle.alloc_spec.specs.Services.{answers_append_request}
use Rattle.alloc_spec.specs.Step.{step, with_end_phase}
use Rattle.alloc_spec.specs.Step.Event.{Rx}
use Rattle.alloc_spec.specs.StepState.{StepState}
use Rattle.alloc_spec.specs.Transfers.{Offer, SentTransfer, has_room, kind_of, number_of}
use Rattle.alloc_spec_laws.specs.Saying.{append_bytes}
use Rattle.alloc_spec_laws.proofs.Lists.{in_back}
use Rattle.service_steps.proofs.Begins.{IsAsBefore}
use Rattle.service_steps.proofs.FollowUps.{begun}
use Rattle.service_leader.specs.Answers.{AnswersCall, answer_by, asked_by}
use Rattle.service_calm.specs.Comes.{Delivers, Sends, delivery_of}
use Rattle.service_calm.proofs.Calls.{on_list}
use Rattle.service_leader.proofs.Deliveries.{come, request_taken, step_taken, still_offered}
use Rattle.bus_spec.specs.Cluster.{Cluster, arrival_at, frame_at, receipt_of, step_of}

-- the verdict is one on what is stored, and on the role
same_verdict : (a b : RaftServer) (request : Request) → a.store ≡ b.store → a.memory.role ≡ b.memory.role → verdict_on a request ≡ verdict_on b request
same_verdict a b request store role = rw (store) (rw (role) refl)

same_answer : (a b : RaftServer) (me number : ℕ) (request : Request) → a.store ≡ b.store → a.memory.role ≡ b.memory.role
    → answer_to me number (with_term a.store request.term) request (is_accepted (verdict_on a request))
    ≡ answer_to me number (with_term b.store request.term) request (is_accepted (verdict_on b request))
same_answer a b me number request store role = let v = same_verdict a b request store role in
    λ i. answer_to me number (with_term (store i) request.term) request (is_accepted (v i))

module _ (m : ℕ) (x : SentTransfer) (request : AppendRequest) (w : Cluster) (row : Row) (delivers : Delivers m x w row) (me : delivers.server.me ≡ m)
    (what : x.offer.what ≡ AppQ) (says : append_request_of x.offer.payload ≡ Some request) (listed : In x.by (members_of delivers.server)) where
  abbrev t : AllocatorState
  t = delivers.server

  abbrev number : ℕ
  number = w.rows + 1

  abbrev arrival : Arrival
  arrival = arrival_at (frame_at w.frames delivers.k) delivers.ms

  -- as the call comes
  abbrev g : StepState
  g = come m x w row delivers

  step_is : step t number (Rx arrival) ≡ with_end_phase number (took (answers_append_request number (delivery_of x) request g))
  step_is = step_taken m x w row delivers me ∙ ap (λ (s : StepResult). with_end_phase number s)
      (request_taken number (delivery_of x) request g (ap kind_of what) (ap number_of what) says (on_list (members_of t) x.by listed))

  before : IsAsBefore t.raft_server g.allocator.raft_server
  before = begun t number arrival

  -- the answer that the step makes, and the one that it should
  abbrev made : Answer
  made = let asked : Request = asked_by x request t.me in let server : RaftServer = g.allocator.raft_server in
      answer_to t.me number (with_term server.store asked.term) asked (is_accepted (verdict_on server asked))

  is_made : made ≡ answer_by number t (asked_by x request m)
  is_made = same_answer g.allocator.raft_server t.raft_server t.me number (asked_by x request t.me) before.store before.role
      ∙ ap (λ (k : ℕ). answer_by number t (asked_by x request k)) me

  abbrev own : Offer
  own = record {
    what = App;
    to = x.by;
    id = x.offer.id;
    payload = append_bytes made;
    re = x.step;
    says = Some (Answers made);
    fitted = has_room t.queue (append_bytes made);
  }

  pub answers : AnswersCall m x request w row delivers
  answers = record {
    offer = own;
    offered = subst (λ (s : StepResult). In own s.step_state.offers) (sym step_is)
        (still_offered number own (answers_append_request number (delivery_of x) request g) (in_back own g.offers (own ∷ []) (inl refl)));
    what = refl;
    to = refl;
    id = refl;
    re = refl;
    says = ap (λ (a : Answer). Some (Answers a)) is_made;
    written = ap append_bytes is_made;
    fitted = refl;
  }

-- an answer that found room is sent
pub answer_sent : (m : ℕ) (x : SentTransfer) (request : AppendRequest) (w : Cluster) (row : Row) (delivers : Delivers m x w row) (answers : AnswersCall m x request w row delivers)
    → answers.offer.fitted ≡ true → Sends m w row answers.offer
answer_sent m x request w row delivers answers fits = record {
  server = delivers.server;
  runs = delivers.runs;
  event = receipt_of w delivers.k delivers.ms;
  in_step = ap (λ (r : Row). step_of w r) delivers.comes;
  offered = answers.offered;
  fitted = fits;
}

-- an answer is one frame, for which a queue with a place left has room
pub answer_fits : (queue : List Queued) (a : Answer) → length queue < 32 → has_room queue (append_bytes a) ≡ true
answer_fits queue a few = le-leb (length queue + 1) 32 (omega (arith, few))
