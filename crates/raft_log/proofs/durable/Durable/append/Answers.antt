use Rattle.std.proofs.Common.{rules, [], ◌∷◌, ◌++◌, refl, subst}
use Rattle.std.specs.Prelude.{None, Some, is_ok, true}
use Rattle.raft_log.specs.Calls.{WritesInOrderAfter}
use Rattle.raft_log.specs.StateViews.{stored_of}
use Rattle.raft_log.specs.Stored.{Stored}
use Rattle.raft_log.specs.Stored.Put.{PutEntry, PutLast}
use Rattle.raft_log.proofs.InTurn.{cut_by, fault_after, puts_after}
use Rattle.raft_log.proofs.durable.Durable.append.Goals as goal

pub returns-in_err-make-clause-puts : goal.returns-in_err-make-clause-puts
returns-in_err-make-clause-puts g c =
    let s = stored_of c.args.self.now.state in
    cut_by None (PutEntry c.args.entry c.args.origin ∷ []) (PutLast (s.log ++ c.args.entry ∷ []) (s.origins ++ Some c.args.origin ∷ []) ∷ []) c.args.self.now _ _ c.in_err-make.field-0.0 (search rules) c.in_err-make.ensures.puts

pub returns-clause-puts : goal.returns-clause-puts
returns-clause-puts g c =
    let mid = c.make.new.self in
    let s = stored_of c.args.self.now.state in
    let kept = Some (record { entry = c.args.entry; origin = c.args.origin }) in
    let last = subst (λ (t : Stored). WritesInOrderAfter kept (PutLast (t.log ++ c.args.entry ∷ []) (t.origins ++ Some c.args.origin ∷ []) ∷ []) mid c.make-2.new.self (is_ok c.make-2.result)) (c.in_ok-make.ensures.puts.state (refl {a = true}))
    c.make-2.ensures.puts in
    puts_after None kept (PutEntry c.args.entry c.args.origin ∷ []) (PutLast (s.log ++ c.args.entry ∷ []) (s.origins ++ Some c.args.origin ∷ []) ∷ []) c.args.self.now mid _ _ c.in_ok-make.ensures.puts (λ works. c.in_ok-make.ensures.fault)
    (λ zs s allowed. allowed) last

pub returns-clause-fault : goal.returns-clause-fault
returns-clause-fault g c = fault_after c.args.self.now c.make.new.self _ _ c.in_ok-make.ensures.fault (λ works. c.make-2.ensures.fault)
