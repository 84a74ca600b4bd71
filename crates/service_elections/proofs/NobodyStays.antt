-- Who leads before a row and behind it leads in one term: it does not step down and win an election in one step.
use Rattle.std.proofs.Common.{◌≡◌, ℕ, ◌+◌, List, [], ◌∷◌, subst, max, refl, sym, ◌∙◌, ap, inl, inr}
use Rattle.std.specs.Prelude.{◌⊎◌, ◌&&◌, nat_lt, not}
use Rattle.std.proofs.lemmas.Bool.Decides.{eqb_tells}
use Rattle.raft_core.specs.Times.{has_waited}
use Rattle.raft_model.specs.Handlers.{server_after}
use Rattle.raft_model.specs.Lists.{In}
use Rattle.raft_model.specs.Moves.{Move}
use Rattle.raft_model.specs.Moves.Elections.{is_leader, term_limit}
use Rattle.raft_model.specs.Moves.Move.{AnswerAgain, CallForVote, CallToAppend, CommitTo, GiveUp, ProposeEntry, TakeAppendAnswer, TakeAppendRequest, TakeVoteAnswer, TakeVoteRequest, TellNothing, TellPair, TimeOut}
use Rattle.raft_model.specs.Server.{RaftServer, Role, Store}
use Rattle.raft_model.specs.Server.Role.{Follower, Leader}
use Rattle.bus_rows.specs.declared.row.Row.{Row}
use Rattle.transfer_rx.specs.Reassembly.{Delivery}
use Rattle.alloc_spec.specs.AllocatorState.{AllocatorState, knows_all}
use Rattle.alloc_spec.specs.Step.{Event, step}
use Rattle.alloc_spec.specs.Step.Event.{Rx, Tick}
use Rattle.alloc_spec_laws.proofs.Choices.{and_left, and_right, lt_tells}
use Rattle.service_calm.specs.Calm.{Member as OfMember}
use Rattle.service_calm.proofs.Pair.{same_server}
use Rattle.service_leader.specs.CallsComeBack.{LeadsNotIfUp}
use Rattle.service_leader.specs.LeadsOn.{LeadsIn}
use Rattle.service_candidate.proofs.TermsBrings.{Brings}
use Rattle.service_candidate.proofs.TermsGo.{goes_at_frame}
use Rattle.service_candidate.proofs.TermsMoves.{Takes, same_store, takes_append_answer, takes_append_request, takes_vote_answer, takes_vote_request}
use Rattle.service_candidate.proofs.Unled.{nobody_or_one}
use Rattle.service_candidate.proofs.WaitsRows.{Takes as TakesRow, takes}
use Rattle.service_candidate.proofs.WaitsTicks.{tick_leaves}
use Rattle.bus_spec.specs.Cluster.{Cluster, after_row}
use Rattle.bus_spec.specs.Lawful.{DoesNoHarm}
use Rattle.bus_spec.specs.Members.MemberStatus.{Up}

-- ---- a step

no_follower : (role : Role) → role ≡ Follower → role ≡ Leader → ⊥
no_follower role e f = cc (sym e ∙ f)

-- a message that is taken leaves the term, or makes a follower
taken_so : (its : ℕ) (early late : RaftServer) → Takes its early late → late.memory.role ≡ Leader → late.store.term ≡ early.store.term
taken_so its early late takes leads = elim (lt_tells early.store.term its) [
  | inl z ↦ absurd (no_follower late.memory.role (takes.raised z.1) leads)
  | inr z ↦ takes.term_is ∙ ap (λ (r : Store). r.term) (same_store early.store its z.1)
]

brought_so : (d : Delivery) (list : List ℕ) (me number : ℕ) (server : RaftServer) (move : Move) → Brings d me server move
    → (server_after list me number server move).memory.role ≡ Leader → (server_after list me number server move).store.term ≡ server.store.term
brought_so d list me number server (TakeVoteRequest request granted) is leads =
    taken_so request.term server _ (takes_vote_request list me number server request granted is.judged).0 leads
brought_so d list me number server (TakeAppendRequest request verdict) is leads =
    taken_so request.term server _ (takes_append_request list me number server request verdict is.judged).0 leads
brought_so d list me number server (TakeVoteAnswer got) is leads = taken_so got.term server _ (takes_vote_answer list me number server got) leads
brought_so d list me number server (TakeAppendAnswer got) is leads = taken_so got.term server _ (takes_append_answer list me number server got) leads
brought_so d list me number server TimeOut is leads = absurd is
brought_so d list me number server (ProposeEntry entry) is leads = absurd is
brought_so d list me number server (CommitTo index) is leads = absurd is
brought_so d list me number server TellPair is leads = absurd is
brought_so d list me number server TellNothing is leads = absurd is
brought_so d list me number server (CallForVote peer) is leads = absurd is
brought_so d list me number server (CallToAppend peer previous with_entry) is leads = absurd is
brought_so d list me number server (AnswerAgain place) is leads = absurd is
brought_so d list me number server (GiveUp peer) is leads = absurd is

-- who leads before a step and behind it leads in one term
pub leads_in_one : (t : AllocatorState) (number : ℕ) (event : Event) → t.raft_server.memory.role ≡ Leader
    → (step t number event).step_state.allocator.raft_server.memory.role ≡ Leader
    → (step t number event).step_state.allocator.raft_server.store.term ≡ t.raft_server.store.term
leads_in_one t number (Tick now word) leads leads_then = elim (tick_leaves t number now word) [
  | inl same ↦ same.3
  | inr stood ↦
      let no_leader = and_left (not (is_leader t.raft_server.memory.role)) (nat_lt t.raft_server.store.term term_limit)
      (and_right (knows_all t && has_waited t.times (max t.now now)) _ stood.0) in
      absurd (cc (no_leader, ap is_leader leads))
]
leads_in_one t number (Rx arrival) leads leads_then =
    let g = goes_at_frame number t arrival in
    let late_leads : g.late.memory.role ≡ Leader = sym g.left.role ∙ leads_then in
    let same : g.late.store.term ≡ g.early.store.term = elim g.moved [
      | inl none ↦ ap (λ (r : RaftServer). r.store.term) none
      | inr m ↦ ap (λ (r : RaftServer). r.store.term) m.4
          ∙ brought_so m.3.0 m.0 m.1 number g.early m.2 m.3.2 (sym (ap (λ (r : RaftServer). r.memory.role) m.4) ∙ late_leads)
    ] in
    g.left.term ∙ (same ∙ ap (λ (r : Store). r.term) g.begun.store)

-- ---- a row

-- so it is of a row that does no harm
pub one_term : (w : Cluster) (row : Row) (n : ℕ) (before after : AllocatorState) → DoesNoHarm w row → (w.member n).status ≡ Up before
    → ((after_row w row).member n).status ≡ Up after → before.raft_server.memory.role ≡ Leader → after.raft_server.memory.role ≡ Leader
    → after.raft_server.store.term ≡ before.raft_server.store.term
one_term w row n before after harm runs runs_then leads leads_then = by (takes w n before after runs row harm runs_then)
  where
    of_step : (event : Event) → after ≡ (step before (w.rows + 1) event).step_state.allocator → after.raft_server.store.term ≡ before.raft_server.store.term
    of_step event is = ap (λ (t : AllocatorState). t.raft_server.store.term) is ∙ leads_in_one before (w.rows + 1) event leads
        (sym (ap (λ (t : AllocatorState). t.raft_server.memory.role) is) ∙ leads_then)

    by : TakesRow w row n before after → after.raft_server.store.term ≡ before.raft_server.store.term
    by (TakesRow.Ticks ms word is after_is) = of_step _ after_is
    by (TakesRow.Receives k ms is after_is) = of_step _ after_is
    by (TakesRow.Rests times server queue) = ap (λ (r : RaftServer). r.store.term) server

-- ---- it leads in a term, or not

the_one : (a b : ℕ) → In (OfMember a) (OfMember b ∷ []) → a ≡ b
the_one a b (inl e) = cc e
the_one a b (inr i) = absurd i

-- it leads in some term, or does not lead
pub leads_some_or_not : (n : ℕ) (w : Cluster) → ((term : ℕ) × LeadsIn n term w) ⊎ LeadsNotIfUp n w
leads_some_or_not n w = elim (nobody_or_one (OfMember n ∷ []) w) [
  | inl nobody ↦ inr (nobody n (inl refl))
  | inr one ↦ inl (
    one.server.raft_server.store.term,
    record {
      server = one.server;
      runs = subst (λ (k : ℕ). (w.member k).status ≡ Up one.server) (the_one one.n n one.member) one.runs;
      leads = one.leads;
      its_term = refl;
    },
  )
]

pub leads_in_or_not : (n term : ℕ) (w : Cluster) → LeadsIn n term w ⊎ (LeadsIn n term w → ⊥)
leads_in_or_not n term w = elim (leads_some_or_not n w) [
  | inr off ↦ inr (λ leads. off leads.server leads.runs leads.leads)
  | inl some ↦ elim (eqb_tells some.0 term) [
    | inl z ↦ inl (record { server = some.1.server; runs = some.1.runs; leads = some.1.leads; its_term = some.1.its_term ∙ z.1 })
    | inr z ↦ inr (λ leads. z.1 (sym some.1.its_term ∙ (ap (λ (t : AllocatorState). t.raft_server.store.term)
        (same_server some.1.server leads.server (sym some.1.runs ∙ leads.runs)) ∙ leads.its_term)))
  ]
]
