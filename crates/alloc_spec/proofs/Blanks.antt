-- A leader's blank behind the moves of a step: the step went to those moves, and then added it.
use Rattle.std.proofs.Common.{◌≡◌, ℕ, Bool, true, false, List, [], ◌∷◌, ◌++◌, refl, ap, subst, ◌∙◌, append_assoc}
use Rattle.std.specs.Prelude.{◌&&◌, not, nat_lt, if◌then◌else◌}
use Rattle.can_frame.specs.Log.{blank}
use Rattle.raft_core.specs.Handled.{is_moment, puts_with_origins, with_blank}
use Rattle.raft_core.specs.StoredPuts.{PutWithOrigin}
use Rattle.raft_core.specs.Times.{HandedIn, given_tick, has_waited}
use Rattle.raft_model.specs.Duty.{takes_blank, tick_phase}
use Rattle.raft_model.specs.Moves.{Move}
use Rattle.raft_model.specs.Moves.Elections.{is_leader, term_limit}
use Rattle.raft_model.specs.Moves.Move.{ProposeEntry, TimeOut}
use Rattle.raft_model.specs.Server.{RaftServer, Role}
use Rattle.raft_model.specs.Server.Role.{Candidate, Follower, Leader}
use Rattle.alloc_spec.specs.AllocatorState.{knows_all, members_of}
use Rattle.alloc_spec.specs.StepState.{StepState, with_moves}
use Rattle.alloc_spec.specs.Tick.{election_phase}
use Rattle.alloc_spec.proofs.Lists.{append_none}

-- moves led from one state to another, and it is the moment for a blank
pub record IsMomentOf (g moved : StepState) : Type 0 where
  pub leads : moved.allocator.raft_server.memory.role ≡ Leader
  pub takes : takes_blank moved.allocator.raft_server.store ≡ true
  pub moment : is_moment (members_of g.allocator) g.allocator.me g.allocator.times g.allocator.raft_server moved.allocator.raft_server ≡ true

-- the leader adds it
abbrev pub adds_blank : ℕ → HandedIn → StepState → StepState
adds_blank step given g = with_moves step given (ProposeEntry (blank g.allocator.raft_server.store.term) ∷ []) g

-- these moves, and a blank behind them where it is its moment
abbrev pub moves_and_blank : ℕ → HandedIn → List Move → StepState → StepState
moves_and_blank step given moves g =
    with_moves step given (with_blank (members_of g.allocator) g.allocator.me step g.allocator.times g.allocator.raft_server moves) g

leads_and : (role : Role) (b : Bool) → (is_leader role && b) ≡ true → (role ≡ Leader) × (b ≡ true)
leads_and Follower b e = absurd (cc (e))
leads_and Candidate b e = absurd (cc (e))
leads_and Leader b e = (refl, e)

one_after_another : (before first second : List PutWithOrigin) → (before ++ (first ++ [])) ++ second ≡ before ++ (first ++ second)
one_after_another before first second =
    ap (λ (l : List PutWithOrigin). (before ++ l) ++ second) (append_none first) ∙ append_assoc before first second

-- a move and then another are the two together
pub in_turn : (step : ℕ) (given : HandedIn) (first second : Move) (g : StepState)
    → with_moves step given (second ∷ []) (with_moves step given (first ∷ []) g) ≡ with_moves step given (first ∷ second ∷ []) g
in_turn step given first second g =
    ap (λ (moves : List Move). record both { moves = moves; puts = (g.puts ++ puts_of (first ∷ [])) ++ puts_with_origins (members_of g.allocator) g.allocator.me step given moved.allocator.raft_server (second ∷ []) })
    (append_assoc g.moves (first ∷ []) (second ∷ []))
    ∙ ap (λ (puts : List PutWithOrigin). record both { puts = puts }) (one_after_another g.puts _ _)
  where
    moved : StepState
    moved = with_moves step given (first ∷ []) g

    both : StepState
    both = with_moves step given (first ∷ second ∷ []) g

    puts_of : List Move → List PutWithOrigin
    puts_of moves = puts_with_origins (members_of g.allocator) g.allocator.me step given g.allocator.raft_server moves

-- what holds after a move, and after a blank that follows it
pub move_with_blank : (Holds : StepState → Type 0) (step : ℕ) (given : HandedIn) (move : Move) (g : StepState) → Holds (with_moves step given (move ∷ []) g)
    → (IsMomentOf g (with_moves step given (move ∷ []) g) → Holds (adds_blank step given (with_moves step given (move ∷ []) g)))
    → Holds (moves_and_blank step given (move ∷ []) g)
move_with_blank Holds step given move g moved adds =
    by (is_moment (members_of g.allocator) g.allocator.me g.allocator.times g.allocator.raft_server after) refl (is_leader after.memory.role && takes_blank after.store) refl
  where
    after : RaftServer
    after = (with_moves step given (move ∷ []) g).allocator.raft_server

    by : (m : Bool) → is_moment (members_of g.allocator) g.allocator.me g.allocator.times g.allocator.raft_server after ≡ m
        → (b : Bool) → (is_leader after.memory.role && takes_blank after.store) ≡ b
        → Holds (with_moves step given (move ∷ (if m then (if b then ProposeEntry (blank after.store.term) ∷ [] else []) else [])) g)
    by true e true f =
        let l = leads_and after.memory.role (takes_blank after.store) f in
        subst Holds (in_turn step given move (ProposeEntry (blank after.store.term)) g) (adds (record { leads = l.0; takes = l.1; moment = e }))
    by true e false f = moved
    by false e b f = moved

-- and at the tick of Raft
pub tick_with_blank : (Holds : StepState → Type 0) (step word : ℕ) (g : StepState)
    → let given = given_tick g.allocator.now word in
    let ticked = with_moves step given (tick_phase (knows_all g.allocator && has_waited g.allocator.times g.allocator.now) g.allocator.raft_server) g in
    Holds ticked → (IsMomentOf g ticked → Holds (adds_blank step given ticked)) → Holds (election_phase step word g)
tick_with_blank Holds step word g =
    by ((knows_all g.allocator && has_waited g.allocator.times g.allocator.now) && (not (is_leader g.allocator.raft_server.memory.role) && nat_lt g.allocator.raft_server.store.term term_limit))
  where
    given : HandedIn
    given = given_tick g.allocator.now word

    ticked : Bool → StepState
    ticked b = with_moves step given (if b then TimeOut ∷ [] else []) g

    by : (b : Bool) → Holds (ticked b) → (IsMomentOf g (ticked b) → Holds (adds_blank step given (ticked b)))
        → Holds (moves_and_blank step given (if b then TimeOut ∷ [] else []) g)
    by true holds adds = move_with_blank Holds step given TimeOut g holds adds
    by false holds adds = holds
