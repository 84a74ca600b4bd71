-- What a step leaves of a server that does not lead: all that an election goes by, where the server does not stand and no
-- message of Raft is delivered to it.
use Rattle.std.proofs.Common.{◌≡◌, ◌≢◌, ℕ, ◌≤◌, arith, List, sym, ◌∙◌, ap, inl, inr}
use Rattle.std.specs.Prelude.{◌⊎◌}
use Rattle.can_frame.specs.declared.identifier.Kind.TheVariants.{Request as RequestKind, Response}
use Rattle.cluster_discovery.specs.Members.{Event as Discovered, IsMemberList, IsStart, Start, members}
use Rattle.raft_model.specs.Moves.{Move}
use Rattle.raft_model.specs.Moves.Move.{AnswerAgain, CallForVote, CallToAppend, CommitTo, GiveUp, ProposeEntry, TakeAppendAnswer, TakeAppendRequest, TakeVoteAnswer, TakeVoteRequest, TellNothing, TellPair, TimeOut}
use Rattle.raft_model.specs.Server.{RaftServer, Role, Store}
use Rattle.raft_model.specs.Server.Role.{Follower, Leader}
use Rattle.transfer_rx.specs.Reassembly.{Arrival, Delivery, Gives, answer}
use Rattle.alloc_spec.specs.Accepted.{setting_for}
use Rattle.alloc_spec.specs.AllocatorState.{AllocatorState, start_of}
use Rattle.alloc_spec.specs.Step.{step}
use Rattle.alloc_spec.specs.Step.Event.{Rx, Tick}
use Rattle.service_steps.specs.Requests.{moment_at}
use Rattle.service_candidate.proofs.TermsBrings.{Brings, BringsAtFrame, Goes}
use Rattle.service_candidate.proofs.TermsGo.{goes_at_frame}
use Rattle.service_candidate.proofs.TermsSteps.{HasStood, log_at_tick, stands_or_stays}
use Rattle.service_candidate.proofs.WaitsFrames.{frame_leaves}
use Rattle.service_candidate.proofs.WaitsTicks.{tick_leaves}
use Rattle.service_elections.specs.Sent.{IsAsItWas}

-- a request or a response, and none of GetNodeInfo
abbrev pub IsRaftMessage : Delivery → Type 0
IsRaftMessage d = ((d.ident.kind ≡ RequestKind) ⊎ (d.ident.kind ≡ Response)) × (d.ident.number ≢ 1)

-- what brings a move is such a message
brings_raft : (d : Delivery) (me : ℕ) (server : RaftServer) (move : Move) → Brings d me server move → IsRaftMessage d
brings_raft d me server (TakeVoteRequest request granted) is = (inl is.kind, is.first)
brings_raft d me server (TakeAppendRequest request verdict) is = (inl is.kind, λ e. let thirty = is.thirty in omega (arith, thirty, e))
brings_raft d me server (TakeVoteAnswer got) is = (inr is.kind, is.first)
brings_raft d me server (TakeAppendAnswer got) is = (inr is.kind, λ e. let thirty = is.thirty in omega (arith, thirty, e))
brings_raft d me server TimeOut is = absurd is
brings_raft d me server (ProposeEntry entry) is = absurd is
brings_raft d me server (CommitTo index) is = absurd is
brings_raft d me server TellPair is = absurd is
brings_raft d me server TellNothing is = absurd is
brings_raft d me server (CallForVote peer) is = absurd is
brings_raft d me server (CallToAppend peer previous with_entry) is = absurd is
brings_raft d me server (AnswerAgain place) is = absurd is
brings_raft d me server (GiveUp peer) is = absurd is

-- ---- a frame

module _ (number : ℕ) (t : AllocatorState) (arrival : Arrival) (leads_not : t.raft_server.memory.role ≢ Leader)
    (none : (d : Delivery) → answer (setting_for t.me) t.sessions (record arrival { moment = moment_at t arrival }) ≡ Gives d → IsRaftMessage d → ⊥) where
  abbrev then_t : AllocatorState
  then_t = (step t number (Rx arrival)).step_state.allocator

  g : Goes (BringsAtFrame t arrival) number t.raft_server then_t.raft_server
  g = goes_at_frame number t arrival

  unmoved : g.late ≡ g.early
  unmoved = elim g.moved [ inl same ↦ same | inr m ↦ absurd (none m.3.0 m.3.1 (brings_raft m.3.0 m.1 g.early m.2 m.3.2)) ]

  late_role : g.late.memory.role ≡ t.raft_server.memory.role
  late_role = ap (λ (s : RaftServer). s.memory.role) unmoved ∙ g.begun.role

  role_is : then_t.raft_server.memory.role ≡ t.raft_server.memory.role
  role_is = g.left.role ∙ late_role

  late_store : g.late.store ≡ t.raft_server.store
  late_store = ap (λ (s : RaftServer). s.store) unmoved ∙ g.begun.store

  follows_not : (role then_role : Role) → then_role ≡ role → role ≢ Follower → then_role ≡ Follower → ⊥
  follows_not role then_role same other e = other (sym same ∙ e)

  pub still_at_frame : IsAsItWas t then_t
  still_at_frame = record {
    role = role_is;
    term = g.left.term ∙ ap (λ (s : Store). s.term) late_store;
    vote = g.left.vote ∙ ap (λ (s : Store). s.vote) late_store;
    log = elim g.left.rest [
      | inl leads ↦ absurd (leads_not (sym late_role ∙ leads))
      | inr same ↦ same.0 ∙ ap (λ (s : Store). s.log) late_store
    ];
    since = elim (frame_leaves t number arrival).0 [
      | inl same ↦ same
      | inr (now, inl (inl one)) ↦ absurd (none one.delivery one.hears.gives (inl one.hears.kind, λ e. let thirty = one.hears.number in omega (arith, thirty, e)))
      | inr (now, inl (inr one)) ↦ absurd (none one.delivery one.gives (inl one.kind, one.no_info))
      | inr (now, inr roles) ↦ absurd (follows_not t.raft_server.memory.role then_t.raft_server.memory.role role_is roles.0 roles.1)
    ];
    word = (frame_leaves t number arrival).1;
  }

-- ---- a tick

module _ (listing : (start : Start) (events : List Discovered) → IsStart start → IsMemberList start.me start.size (members start events))
    (number : ℕ) (t : AllocatorState) (now word : ℕ) (leads_not : t.raft_server.memory.role ≢ Leader) (is_start : IsStart (start_of t)) (many : 2 ≤ t.size)
    (stands_not : HasStood t.raft_server (step t number (Tick now word)).step_state.allocator.raft_server → ⊥) where
  pub still_at_tick : IsAsItWas t (step t number (Tick now word)).step_state.allocator
  still_at_tick = elim (stands_or_stays listing number t now word is_start many) [
    | inr stood ↦ absurd (stands_not stood)
    | inl same ↦ record {
      role = same.role;
      term = same.term;
      vote = same.vote;
      log = (log_at_tick number t now word (λ leads. leads_not (sym same.role ∙ leads))).0;
      since = elim (tick_leaves t number now word) [
        | inl left ↦ left.1
        | inr stood ↦ (let a = stood.2 in let b = same.term in absurd (omega (arith, a, b)))
      ];
      word = elim (tick_leaves t number now word) [
        | inl left ↦ left.2
        | inr stood ↦ (let a = stood.2 in let b = same.term in absurd (omega (arith, a, b)))
      ];
    }
  ]
