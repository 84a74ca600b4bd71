-- What standing leaves, in a row in which a member stands for election.
use Rattle.std.proofs.Common.{◌≡◌, ◌≢◌, ℕ, ◌+◌, refl, sym, ◌∙◌, ap, subst, max, true, Some}
use Rattle.can_frame.specs.declared.step.What.TheVariants.{VoteQ}
use Rattle.raft_model.specs.Lists.{In}
use Rattle.raft_model.specs.Messages.{Request}
use Rattle.raft_model.specs.Messages.Message.{Requests}
use Rattle.raft_model.specs.Moves.Elections.{own_vote}
use Rattle.raft_model.specs.Moves.Leading.{vote_request}
use Rattle.raft_model.specs.Server.{Store}
use Rattle.raft_model.specs.Server.Role.{Candidate}
use Rattle.bus_rows.specs.declared.row.Row.{Row}
use Rattle.alloc_spec.specs.AllocatorState.{AllocatorState, members_of}
use Rattle.alloc_spec.specs.Step.{step}
use Rattle.alloc_spec.specs.StepState.{StepState}
use Rattle.alloc_spec.specs.Transfers.{Offer}
use Rattle.service_candidate.specs.Votes.{IsAsStanding, Stands, WaitsForVote}
use Rattle.service_leader.proofs.RaftPhases.{Keeps}
use Rattle.service_candidate.proofs.RowsLeave.{ticked}
use Rattle.service_candidate.proofs.StandingAsks.{Core, HasAsked, has_asked, has_stood, later}
use Rattle.bus_spec.specs.Cluster.{Cluster, after_row, tick_of}
use Rattle.bus_spec.specs.Members.MemberStatus.{Up}

module _ (w : Cluster) (n term : ℕ) (row : Row) (s : Stands n term w row) (me : s.before.me ≡ n) where
  abbrev number : ℕ
  number = w.rows + 1

  abbrev then_state : StepState
  then_state = (step s.before number (tick_of s.ms s.word)).step_state

  -- the row leaves what the step does
  after_is : s.after ≡ then_state.allocator
  after_is = ticked w n s.ms s.word s.before s.after s.runs (subst (λ (r : Row). ((after_row w r).member n).status ≡ Up s.after) s.reads s.runs_then)

  -- peer m is asked, said of the server that the step leaves
  record IsAsked (m : ℕ) (after : AllocatorState) : Type 0 where
    pub offer : Offer
    pub offered : In offer then_state.offers
    pub what : offer.what ≡ VoteQ
    pub to : offer.to ≡ m
    pub says : offer.says ≡ Some (Requests (vote_request n number after.raft_server.store m))
    pub waits : offer.fitted ≡ true → WaitsForVote m offer.id after.now (vote_request n number after.raft_server.store m) after

  -- what standing leaves, said of it
  abbrev IsAs : AllocatorState → Type 0
  IsAs after = (after.raft_server.store.log ≡ s.before.raft_server.store.log) × (after.raft_server.store.vote ≡ Some n)
      × (after.raft_server.memory.votes ≡ own_vote n) × (after.now ≡ max s.before.now s.ms) × (after.times.since ≡ after.now)
      × ((m : ℕ) → In m (members_of after) → m ≢ n → IsAsked m after)

  -- the member is a candidate of the next term
  stood : then_state.allocator.raft_server.memory.role ≡ Candidate
  stood = ap (λ (a : AllocatorState). a.raft_server.memory.role) (sym after_is) ∙ s.stands

  next : then_state.allocator.raft_server.store.term ≡ s.before.raft_server.store.term + 1
  next = ap (λ (a : AllocatorState). a.raft_server.store.term) (sym after_is) ∙ (s.its_term ∙ s.next)

  -- so it has just stood
  core : Keeps (Core s.before number s.ms s.word) then_state
  core = has_stood s.before number s.ms s.word stood next

  -- and asked each peer
  asked : (m : ℕ) → In m (members_of then_state.allocator) → m ≢ n → IsAsked m then_state.allocator
  asked m i other =
      let a : HasAsked s.before number s.ms s.word m then_state = has_asked s.before number s.ms s.word stood next m i (λ e. other (e ∙ me)) in
      let same : vote_request s.before.me number (later s.before number s.ms s.word) m ≡ vote_request n number then_state.allocator.raft_server.store m = λ j. vote_request (me j) number (sym core.2 j) m in record {
        offer = a.offer;
        offered = a.offered;
        what = a.what;
        to = a.to;
        says = a.says ∙ ap (λ (r : Request). Some (Requests r)) same;
        waits = λ fits. record {
          listed = i;
          vote = refl;
          pending = (a.waits fits).0 ∙ ap (λ (r : Request). Some r) same;
          kept = (a.waits fits).1 ∙ ap (λ (k : ℕ). Some (record { id = a.offer.id; moment = k })) (sym core.5);
        };
      }

  -- what the step leaves
  there : IsAs then_state.allocator
  there = (
    ap (λ (x : Store). x.log) core.2,
    ap (λ (x : Store). x.vote) core.2 ∙ ap (λ (k : ℕ). Some k) me,
    core.3 ∙ (λ j. own_vote (me j)),
    core.5,
    core.4 ∙ sym core.5,
    asked,
  )

  -- what the row leaves
  pub is_as_standing : IsAsStanding n term w row s
  is_as_standing = let h = subst IsAs (sym after_is) there in record {
    log = h.0;
    vote = h.1;
    votes = h.2;
    moment = h.3;
    waits = h.4;
    asks = λ m i other. let a : IsAsked m s.after = h.5 m i other in record {
      offer = a.offer;
      offered = a.offered;
      what = a.what;
      to = a.to;
      says = a.says;
      waits = a.waits;
    };
  }
