-- Moves are made: the step goes on, up to the first put that fails.
use Rattle.std.proofs.Common.{◌≡◌, ℕ, List, [], ◌++◌, sym, ap, subst, ◌∙◌, Result, Ok, Err, IsErr, IsErrAnd, Option, None, Some, IfNone, append-nil}
use Rattle.alloc_handlers.proofs.Words.{CallWrites, Durable, Fault, Ghosts, HandedIn, GoesTo, IsInStep, IsReady, MakesMoves, Member, Move, Offered, PutWithOrigin, PutsGoOn, Raft, StepState, durable_state, members_of, puts_with_origins, raft_me, result_err, server_after_all, times_after_all, with_moves}
use Rattle.raft_core.specs.Stands as stands
use Rattle.alloc_spec.specs.Extends.{Extends}
use Rattle.alloc_handlers.proofs.Parts.{with_parts}

module _ {D : Type 0} {disk : Ghosts D} (start : Durable D disk) (old : Member D disk) (durable : Durable D disk) (raft : Raft) (g : StepState) (h : IsInStep start old g)
    (step : ℕ) (given : HandedIn) (moves : List Move) (failed : Option Fault) where
  pub took_moves : PutsGoOn D disk
      → MakesMoves (members_of g.allocator) g.allocator.me step given moves g.allocator.raft_server g.allocator.times old.durable durable raft failed
      → GoesTo start (record old { durable = durable; raft = raft }) (with_moves step given moves g) failed
  took_moves laws made =
      let puts : CallWrites (g.puts ++ puts_with_origins (members_of g.allocator) g.allocator.me step given g.allocator.raft_server moves) start durable failed =
      laws.joined g.puts _ start old.durable durable failed h.puts made.puts in
      record {
        puts = puts;
        step_state = λ none. record {
          stands = with_parts h.stands (subst (λ (f : Option Fault). IfNone f (stands.StandsFor raft (members_of g.allocator) (durable_state durable) (server_after_all (members_of g.allocator) g.allocator.me step g.allocator.raft_server moves) (times_after_all (members_of g.allocator) g.allocator.me step given g.allocator.raft_server moves g.allocator.times))) none made.after) h.stands.exchange h.stands.watch h.stands.cluster h.stands.status_at;
          sent = h.sent;
          given = h.given;
          puts = subst (λ (f : Option Fault). CallWrites (g.puts ++ puts_with_origins (members_of g.allocator) g.allocator.me step given g.allocator.raft_server moves) start durable f) none puts;
        };
      }

-- moves that its Raft made under the number of the member, by the member's clock
module _ {D : Type 0} {disk : Ghosts D} {start durable : Durable D disk} {old : Member D disk} {raft : Raft} {g : StepState} {failed : Option Fault} (ready : IsReady old) (h : IsInStep start old g)
    (laws : PutsGoOn D disk) (step : ℕ) (given : ℕ → HandedIn) (moves : ℕ → List Move) where
  pub made_moves : MakesMoves (members_of g.allocator) (raft_me old.raft) step (given old.latest) (moves (raft_me old.raft)) g.allocator.raft_server g.allocator.times old.durable durable raft failed
      → GoesTo start (record old { durable = durable; raft = raft }) (with_moves step (given g.allocator.now) (moves g.allocator.me) g) failed
  made_moves made =
      took_moves start old durable raft g h step (given g.allocator.now) (moves g.allocator.me) failed laws
      (subst (λ (now : ℕ). MakesMoves (members_of g.allocator) g.allocator.me step (given now) (moves g.allocator.me) g.allocator.raft_server g.allocator.times old.durable durable raft failed) h.stands.now
      (subst (λ (me : ℕ). MakesMoves (members_of g.allocator) me step (given old.latest) (moves me) g.allocator.raft_server g.allocator.times old.durable durable raft failed) (ready.raft_me ∙ h.stands.me) made))

-- no put is behind those that are there
pub no_more : (g later : StepState) → later.puts ≡ g.puts → later.allocator.sessions ≡ g.allocator.sessions → later.allocator.me ≡ g.allocator.me → Extends g later
no_more g later same sessions me = record { more = []; puts = same ∙ sym (append-nil g.puts); sessions = sessions; me = me }

-- what `?` gives on
pub given_on : {T : Type 0} {fault : Fault} (result : Result T Fault) → IsErr result → IsErrAnd result (λ e. e ≡ fault) → result_err result ≡ Some fault
given_on (Ok value) is same = cc
given_on (Err e) is same = ap (λ (x : Fault). Some x) same

module _ {D : Type 0} {disk : Ghosts D} {start : Durable D disk} {new : Member D disk} {g : StepState} where
  -- no put failed
  pub is_step_state : IsInStep start new g → GoesTo start new g None
  is_step_state h = record { puts = h.puts; step_state = λ _. h }

-- a put failed: `?` gives its fault on
module _ {T D : Type 0} {disk : Ghosts D} {start : Durable D disk} {new : Member D disk} {g : StepState} {fault : Fault} where
  pub goes_failed : (result : Result T Fault) → IsErr result → IsErrAnd result (λ e. e ≡ fault) → GoesTo start new g (Some fault) → GoesTo start new g (result_err result)
  goes_failed result is same goes = subst (λ (f : Option Fault). GoesTo start new g f) (sym (given_on result is same)) goes

-- the step ends there, whatever it would have done later
module _ {D : Type 0} {disk : Ghosts D} {start : Durable D disk} {new : Member D disk} {g g2 : StepState} {fault : Fault} where
  pub cut_off : PutsGoOn D disk → GoesTo start new g (Some fault) → Extends g g2 → GoesTo start new g2 (Some fault)
  cut_off laws goes more = record {
    puts = subst (λ (list : List PutWithOrigin). CallWrites list start new.durable (Some fault)) (sym more.puts) (laws.cut_off g.puts more.more start new.durable fault goes.puts);
    step_state = λ none. cc;
  }
