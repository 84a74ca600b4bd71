-- A leader's blank that a step adds, and at which moment.
use Rattle.std.proofs.Common.{◌≡◌, ℕ, true, List, [], ◌∷◌, ◌++◌, sym, ap, ◌∙◌, append_assoc}
use Rattle.can_frame.specs.declared.entry.Entry.{Entry}
use Rattle.can_frame.specs.Log.{blank}
use Rattle.raft_core.specs.Handled.{is_moment}
use Rattle.raft_core.specs.Times.{HandedIn}
use Rattle.raft_model.specs.Handlers.{server_after_all}
use Rattle.raft_model.specs.Moves.{Move}
use Rattle.raft_model.specs.Moves.Move.{ProposeEntry}
use Rattle.raft_model.specs.Server.{RaftServer}
use Rattle.raft_model.specs.Server.Role.{Leader}
use Rattle.alloc_spec.specs.AllocatorState.{members_of}
use Rattle.alloc_spec.specs.StepState.{StepState, with_moves}
use Rattle.alloc_spec.proofs.Blanks.{IsMomentOf, adds_blank}
use Rattle.alloc_spec_laws.specs.FreeNodes.{IsBlankOf}

-- the server after some moves of a step
abbrev pub server_by : ℕ → StepState → List Move → RaftServer
server_by number g moves = server_after_all (members_of g.allocator) g.allocator.me number g.allocator.raft_server moves

-- from one state to another the step makes some moves, and adds this blank behind them
pub record IsAddedTo (number : ℕ) (g h : StepState) (entry : Entry) : Type 0 where
  pub before : List Move
  pub moves : h.moves ≡ g.moves ++ (before ++ ProposeEntry entry ∷ [])
  pub moment : is_moment (members_of g.allocator) g.allocator.me g.allocator.times g.allocator.raft_server (server_by number g before) ≡ true
  pub leads : (server_by number g before).memory.role ≡ Leader
  pub is : entry ≡ blank (server_by number g before).store.term
  pub of : IsBlankOf h.allocator.raft_server entry

pub adds : (number : ℕ) (given : HandedIn) (before : List Move) (g : StepState) (entry : Entry) → IsMomentOf g (with_moves number given before g)
    → ProposeEntry entry ≡ ProposeEntry (blank (with_moves number given before g).allocator.raft_server.store.term)
    → IsAddedTo number g (adds_blank number given (with_moves number given before g)) entry
adds number given before g entry moment same = record {
  before = before;
  moves = append_assoc g.moves before _ ∙ ap (λ (move : Move). g.moves ++ (before ++ move ∷ [])) (sym same);
  moment = moment.moment;
  leads = moment.leads;
  is = cc (same);
  of = record { leads = moment.leads; is = cc (same) };
}
