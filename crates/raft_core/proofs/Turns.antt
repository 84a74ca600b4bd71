-- Moves of two calls of a step, one after the other.
use Rattle.std.proofs.Common.{◌≡◌, ℕ, List, [], ◌∷◌, ◌++◌, Option, Some, None, refl, sym, ap, subst, ◌∙◌}
use Rattle.std.specs.Prelude.{IfNone}
use Rattle.disk_model.specs.declared.disk.Disk.{Ghosts}
use Rattle.kv_store.specs.declared.fault.Fault.{Fault}
use Rattle.raft_log.specs.declared.durable.Durable.{Durable}
use Rattle.raft_log.specs.DurableViews.{durable_state}
use Rattle.raft_model.specs.Handlers.{server_after, server_after_all, puts_of_all}
use Rattle.raft_model.specs.Moves.{Move}
use Rattle.raft_model.specs.Server.{RaftServer, Put}
use Rattle.raft_core.specs.declared.raft.Raft.{Raft}
use Rattle.raft_core.specs.Handled.{LeavesMoves}
use Rattle.raft_core.specs.Stands.{StandsFor}
use Rattle.raft_core.specs.StoredPuts.{CallWrites, PutWithOrigin, puts_alone}
use Rattle.raft_core.specs.Times.{HandedIn, Times, times_after, times_after_all}
use Rattle.raft_core.proofs.Origins.{raft_server_both}

module _ (members : List ℕ) (m n : ℕ) where
  pub times_joined : (given : HandedIn) (xs ys : List Move) (p : RaftServer) (t : Times)
      → times_after_all members m n given p (xs ++ ys) t ≡ times_after_all members m n given (server_after_all members m n p xs) ys (times_after_all members m n given p xs t)
  times_joined given [] ys p t = refl
  times_joined given (x ∷ xs) ys p t = times_joined given xs ys (server_after members m n p x) (times_after members m given p x t)

  module _ (xs ys : List Move) (p : RaftServer) where
    abbrev firsts : List Put
    firsts = puts_of_all members m n p xs

    abbrev p1 : RaftServer
    p1 = server_after_all members m n p xs

    both_raft_server : (one two : List PutWithOrigin) → puts_alone one ≡ firsts → puts_alone two ≡ puts_of_all members m n p1 ys → puts_of_all members m n p (xs ++ ys) ≡ firsts ++ puts_of_all members m n p1 ys
        → puts_alone (one ++ two) ≡ puts_of_all members m n p (xs ++ ys)
    both_raft_server one two first second all_puts = raft_server_both one two ∙ (ap (λ (l : List Put). l ++ puts_alone two) first ∙ (ap (λ (l : List Put). firsts ++ l) second ∙ sym all_puts))

    pub joined : {D : Type 0} {disk : Ghosts D} (one two : List PutWithOrigin) (t1 t2 : Times) (old mid new : Durable D disk) (before after : Raft) (failed : Option Fault)
        → puts_of_all members m n p (xs ++ ys) ≡ firsts ++ puts_of_all members m n p1 ys
        → server_after_all members m n p (xs ++ ys) ≡ server_after_all members m n p1 ys
        → (CallWrites one old mid None → CallWrites two mid new failed → CallWrites (one ++ two) old new failed)
        → LeavesMoves members m n xs p one t1 old mid before None → LeavesMoves members m n ys p1 two t2 mid new after failed
        → LeavesMoves members m n (xs ++ ys) p (one ++ two) t2 old new after failed
    joined one two t1 t2 old mid new before after failed all_puts server law first second = record {
      raft_server = both_raft_server one two first.raft_server second.raft_server all_puts;
      puts = law first.puts second.puts;
      after = subst (λ (x : RaftServer). IfNone failed (StandsFor after members (durable_state new) x t2)) (sym server) second.after;
    }

    pub cut_off : {D : Type 0} {disk : Ghosts D} (one two : List PutWithOrigin) (t1 t2 : Times) (old new : Durable D disk) (raft after : Raft) (fault : Fault)
        → puts_of_all members m n p (xs ++ ys) ≡ firsts ++ puts_of_all members m n p1 ys
        → (CallWrites one old new (Some fault) → CallWrites (one ++ two) old new (Some fault))
        → LeavesMoves members m n xs p one t1 old new raft (Some fault) → puts_alone two ≡ puts_of_all members m n p1 ys
        → LeavesMoves members m n (xs ++ ys) p (one ++ two) t2 old new after (Some fault)
    cut_off one two t1 t2 old new raft after fault all_puts law first more = record {
      raft_server = both_raft_server one two first.raft_server more all_puts;
      puts = law first.puts;
      after = tt;
    }
