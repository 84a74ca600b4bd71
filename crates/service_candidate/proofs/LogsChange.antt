-- The log of a server that does not lead behind a step changes by nothing but an append request that makes it follow.
use Rattle.std.proofs.Common.{◌≡◌, ◌≢◌, ℕ, ◌<◌, arith, Bool, true, false, List, refl, sym, ◌∙◌, ap, subst, inl, inr, Option, None, Some}
use Rattle.std.specs.Prelude.{◌⊎◌, ◌==◌, ◌&&◌, ◌||◌, not, if◌then◌else◌}
use Rattle.std.proofs.lemmas.Bool.Decides.{eqb_tells}
use Rattle.can_frame.specs.declared.identifier.Kind.{Kind}
use Rattle.can_frame.specs.declared.identifier.Kind.TheVariants.{Anonymous, Message, Request as RequestKind, Response}
use Rattle.cluster_discovery.specs.Members.{is_on_list}
use Rattle.dsdl_codec.specs.declared.append_request.AppendRequest.{AppendRequest}
use Rattle.dsdl_codec.specs.AppendRequest.{append_request_of}
use Rattle.raft_model.specs.Decisions.{is_current, rule}
use Rattle.raft_model.specs.Handlers.{server_after}
use Rattle.raft_model.specs.Messages.{Request}
use Rattle.raft_model.specs.Moves.{Move}
use Rattle.raft_model.specs.Moves.Appending.{Verdict}
use Rattle.raft_model.specs.Moves.Appending.Verdict.{Outdated}
use Rattle.raft_model.specs.Moves.Elections.{is_leader, term_puts, with_term}
use Rattle.raft_model.specs.Moves.Move.{AnswerAgain, CallForVote, CallToAppend, CommitTo, GiveUp, ProposeEntry, TakeAppendAnswer, TakeAppendRequest, TakeVoteAnswer, TakeVoteRequest, TellNothing, TellPair, TimeOut}
use Rattle.raft_model.specs.Server.{Put, RaftServer, Role, Store, put_all}
use Rattle.raft_model.specs.Server.Role.{Leader}
use Rattle.transfer_rx.specs.Reassembly.{Answer as Received, Arrival, Continues, Delivery, Drops, Gives, answer}
use Rattle.alloc_spec.specs.Accepted.{setting_for}
use Rattle.alloc_spec.specs.AllocatorState.{AllocatorState, members_of}
use Rattle.alloc_spec.specs.Delivered.{StepResult, by_kind, delivery_phase, reads, took}
use Rattle.alloc_spec.specs.Ending.{end_phase}
use Rattle.alloc_spec.specs.Services.{answers_append_request, is_listed, takes_append_request}
use Rattle.alloc_spec.specs.Step.{Event, step}
use Rattle.alloc_spec.specs.Step.Event.{Rx, Tick}
use Rattle.alloc_spec.specs.StepState.{StepState}
use Rattle.alloc_spec.proofs.Lists.{append_none}
use Rattle.alloc_spec_laws.proofs.Choices.{lt_tells, tell}
use Rattle.service_steps.specs.Requests.{moment_at}
use Rattle.service_steps.proofs.FollowUps.{begun, when_come}
use Rattle.service_candidate.proofs.TermsBrings.{Brings, BringsAtFrame, Goes}
use Rattle.service_candidate.proofs.TermsGo.{ends, goes_at_frame, unmoved}
use Rattle.service_candidate.proofs.TermsMoves.{log_with_term}
use Rattle.service_candidate.proofs.TermsSteps.{log_at_frame, log_at_tick}
use Rattle.service_candidate.proofs.WaitsFrames.{HearsOne}
use Rattle.service_leader.proofs.Deliveries.{takes_delivery}

-- the server hears an append request in this event
pub record HearsAtFrame (t : AllocatorState) (event : Event) : Type 0 where
  pub arrival : Arrival
  pub comes : event ≡ Rx arrival
  pub one : HearsOne t arrival

one_delivery : (d e : Delivery) → Gives d ≡ Gives e → d ≡ e
one_delivery d e h = cc (h)

one_message : (m n : AppendRequest) → Some m ≡ Some n → m ≡ n
one_message m n h = cc (h)

-- a delivery is one of an append request, or not
append_or_not : (kind : Kind) (number : ℕ) → ((kind ≡ RequestKind) × (number ≡ 30)) ⊎ (kind ≡ RequestKind → number ≡ 30 → ⊥)
append_or_not RequestKind number = elim (eqb_tells number 30) [ inl z ↦ inl (refl, z.1) | inr z ↦ inr (λ e f. z.1 f) ]
append_or_not Anonymous number = inr (λ e f. cc (e))
append_or_not Message number = inr (λ e f. cc (e))
append_or_not Response number = inr (λ e f. cc (e))

-- a request that is current has a higher term, or the own one
current_is : (server : RaftServer) (request : Request) → is_current server request ≡ true
    → (server.store.term < request.term) ⊎ ((request.term ≡ server.store.term) × (server.memory.role ≢ Leader))
current_is server request e = elim (lt_tells server.store.term request.term) [
  | inl z ↦ inl z.1
  | inr z ↦ inr (second (sym (ap (λ (b : Bool). b || ((request.term == server.store.term) && not (is_leader server.memory.role))) z.0) ∙ e))
]
  where
    follows : (role : Role) → not (is_leader role) ≡ true → role ≢ Leader
    follows role f leads = cc (sym (ap (λ (r : Role). not (is_leader r)) leads) ∙ f)

    second : ((request.term == server.store.term) && not (is_leader server.memory.role)) ≡ true → (request.term ≡ server.store.term) × (server.memory.role ≢ Leader)
    second f = elim (eqb_tells request.term server.store.term) [
      | inl z ↦ (z.1, follows server.memory.role (sym (ap (λ (b : Bool). b && not (is_leader server.memory.role)) z.0) ∙ f))
      | inr z ↦ absurd (cc (sym (ap (λ (b : Bool). b && not (is_leader server.memory.role)) z.0) ∙ f))
    ]

-- one that is not leaves the log
outdated_log : (list : List ℕ) (me number : ℕ) (server : RaftServer) (request : Request) (verdict : Verdict) → verdict ≡ Outdated
    → (server_after list me number server (TakeAppendRequest request verdict)).store.log ≡ server.store.log
outdated_log list me number server request verdict is =
    ap (λ (w : Verdict). (server_after list me number server (TakeAppendRequest request w)).store.log) is
    ∙ (ap (λ (puts : List Put). (put_all server.store puts).log) (append_none (term_puts server.store request.term)) ∙ (log_with_term server.store request.term).0)

module _ (t : AllocatorState) (number : ℕ) (arrival : Arrival) (leads_not : (step t number (Rx arrival)).step_state.allocator.raft_server.memory.role ≢ Leader) where
  abbrev after : RaftServer
  after = (step t number (Rx arrival)).step_state.allocator.raft_server

  abbrev LogStays : Type 0
  LogStays = after.store.log ≡ t.raft_server.store.log

  -- where the move of the event leaves it
  log_left : (Brought : List ℕ → ℕ → RaftServer → Move → Type 0) (g : Goes Brought number t.raft_server after) → g.late.store.log ≡ g.early.store.log → LogStays
  log_left Brought g same = elim g.left.rest [
    | inl leads ↦ absurd (leads_not (g.left.role ∙ leads))
    | inr left ↦ left.0 ∙ (same ∙ ap (λ (s : Store). s.log) g.begun.store)
  ]

  module _ (d : Delivery) (gives : answer (setting_for t.me) t.sessions (record arrival { moment = moment_at t arrival }) ≡ Gives d)
      (kind : d.ident.kind ≡ RequestKind) (thirty : d.ident.number ≡ 30) where
    abbrev g : StepState
    g = when_come t number arrival

    abbrev Nothing : List ℕ → ℕ → RaftServer → Move → Type 0
    Nothing list me server move = ⊥

    -- where it is not taken nothing happens
    not_taken : (delivery_phase number d g).step_state ≡ g → LogStays
    not_taken none =
        let whole : (step t number (Rx arrival)).step_state ≡ end_phase number g =
        ap (λ (r : StepResult). r.step_state) (takes_delivery t number arrival d gives) ∙ ap (end_phase number) none in
        let goes : Goes Nothing number t.raft_server after = subst (λ (s : StepState). Goes Nothing number t.raft_server s.allocator.raft_server) (sym whole)
        (ends number Nothing t.raft_server g (unmoved number Nothing t.raft_server g (begun t number arrival))) in
        log_left Nothing goes (elim goes.moved [ inl same ↦ ap (λ (s : RaftServer). s.store.log) same | inr m ↦ absurd m.3 ])

    -- where it does not read
    unread : append_request_of d.payload ≡ None → (delivery_phase number d g).step_state ≡ g
    unfolding delivery_phase
    unread none = ap (λ (k : Kind). (by_kind number d k g).step_state) kind
        ∙ rw (thirty) (ap (λ (r : Option AppendRequest). (reads (takes_append_request number d) r g).step_state) none)

    -- or comes from a node that is not listed
    unlisted : (message : AppendRequest) → append_request_of d.payload ≡ Some message → is_listed d g.allocator ≡ false → (delivery_phase number d g).step_state ≡ g
    unfolding delivery_phase
    unlisted message read listed = ap (λ (k : Kind). (by_kind number d k g).step_state) kind
        ∙ rw (thirty) (ap (λ (r : Option AppendRequest). (reads (takes_append_request number d) r g).step_state) read
        ∙ ap (λ (b : Bool). (took (if b then answers_append_request number d message g else g)).step_state) listed)

    -- where it is taken, it is current, or changes nothing
    module _ (message : AppendRequest) (read : append_request_of d.payload ≡ Some message) where
      abbrev IsCurrent : RaftServer → Type 0
      IsCurrent server = (server.store.term < message.term) ⊎ ((message.term ≡ server.store.term) × (server.memory.role ≢ Leader))

      by_move : (list : List ℕ) (me : ℕ) (early : RaftServer) (move : Move) → Brings d me early move
          → ((server_after list me number early move).store.log ≡ early.store.log) ⊎ IsCurrent early
      by_move list me early (TakeAppendRequest request verdict) is =
          let same : is.message ≡ message = one_message is.message message (sym is.read ∙ read) in
          let term : request.term ≡ message.term = ap (λ (r : Request). r.term) is.is ∙ ap (λ (m : AppendRequest). m.term) same in
          elim (tell (is_current early request)) [
            | inl now ↦ inr (subst (λ (k : ℕ). (early.store.term < k) ⊎ ((k ≡ early.store.term) × (early.memory.role ≢ Leader))) term (current_is early request now))
            | inr old ↦ inl (outdated_log list me number early request verdict (is.judged
                ∙ ap (λ (b : Bool). if b then rule (with_term early.store request.term) request else Outdated) old))
          ]
      by_move list me early (TakeVoteRequest request granted) is = absurd (is.thirty thirty)
      by_move list me early (TakeVoteAnswer got) is = absurd (cc (sym kind ∙ is.kind))
      by_move list me early (TakeAppendAnswer got) is = absurd (cc (sym kind ∙ is.kind))
      by_move list me early TimeOut is = absurd is
      by_move list me early (ProposeEntry entry) is = absurd is
      by_move list me early (CommitTo index) is = absurd is
      by_move list me early TellPair is = absurd is
      by_move list me early TellNothing is = absurd is
      by_move list me early (CallForVote peer) is = absurd is
      by_move list me early (CallToAppend peer previous with_entry) is = absurd is
      by_move list me early (AnswerAgain place) is = absurd is
      by_move list me early (GiveUp peer) is = absurd is

      goes : Goes (BringsAtFrame t arrival) number t.raft_server after
      goes = goes_at_frame number t arrival

      early_current : IsCurrent goes.early → IsCurrent t.raft_server
      early_current (inl above) = inl (let e = ap (λ (s : Store). s.term) goes.begun.store in omega (arith, above, e))
      early_current (inr same) = inr (same.0 ∙ ap (λ (s : Store). s.term) goes.begun.store, λ leads. same.1 (goes.begun.role ∙ leads))

      current_or_same : LogStays ⊎ IsCurrent t.raft_server
      current_or_same = elim goes.moved [
        | inl same ↦ inl (log_left (BringsAtFrame t arrival) goes (ap (λ (s : RaftServer). s.store.log) same))
        | inr m ↦
            let one : m.3.0 ≡ d = one_delivery m.3.0 d (sym m.3.1 ∙ gives) in
            elim (by_move m.0 m.1 goes.early m.2 (subst (λ (e : Delivery). Brings e m.1 goes.early m.2) one m.3.2)) [
              | inl same ↦ inl (log_left (BringsAtFrame t arrival) goes (ap (λ (s : RaftServer). s.store.log) m.4 ∙ same))
              | inr now ↦ inr (early_current now)
            ]
      ]

      taken : is_on_list (members_of t) d.ident.source ≡ true → LogStays ⊎ HearsOne t arrival
      taken listed = elim current_or_same [
        | inl same ↦ inl same
        | inr current ↦ inr (record {
          delivery = d;
          request = message;
          hears = record { gives = gives; kind = kind; number = thirty; read = read; listed = listed; current = current };
        })
      ]

    by_read : (o : Option AppendRequest) → append_request_of d.payload ≡ o → LogStays ⊎ HearsOne t arrival
    by_read None e = inl (not_taken (unread e))
    by_read (Some message) e = elim (tell (is_on_list (members_of t) d.ident.source)) [
      | inl listed ↦ taken message e listed
      | inr not_listed ↦ inl (not_taken (unlisted message e not_listed))
    ]

  by_answer : (got : Received) → answer (setting_for t.me) t.sessions (record arrival { moment = moment_at t arrival }) ≡ got → LogStays ⊎ HearsOne t arrival
  by_answer (Gives d) e = elim (append_or_not d.ident.kind d.ident.number) [
    | inl is ↦ by_read d e is.0 is.1 (append_request_of d.payload) refl
    | inr none ↦ inl (log_at_frame number t arrival (λ other gives kind thirty.
        let same : other ≡ d = one_delivery other d (sym gives ∙ e) in
        none (ap (λ (q : Delivery). q.ident.kind) (sym same) ∙ kind) (ap (λ (q : Delivery). q.ident.number) (sym same) ∙ thirty)) leads_not).0
  ]
  by_answer Continues e = inl (log_at_frame number t arrival (λ other gives kind thirty. cc (sym e ∙ gives)) leads_not).0
  by_answer (Drops why) e = inl (log_at_frame number t arrival (λ other gives kind thirty. cc (sym e ∙ gives)) leads_not).0

-- a log stays through a step behind which the server does not lead, unless it hears an append request
pub log_or_hears : (t : AllocatorState) (number : ℕ) (event : Event) → (step t number event).step_state.allocator.raft_server.memory.role ≢ Leader
    → ((step t number event).step_state.allocator.raft_server.store.log ≡ t.raft_server.store.log) ⊎ HearsAtFrame t event
log_or_hears t number (Tick now word) leads_not = inl (log_at_tick number t now word leads_not).0
log_or_hears t number (Rx arrival) leads_not =
    elim (by_answer t number arrival leads_not (answer (setting_for t.me) t.sessions (record arrival { moment = moment_at t arrival })) refl) [
      | inl same ↦ inl same
      | inr one ↦ inr (record { arrival = arrival; comes = refl; one = one })
    ]
