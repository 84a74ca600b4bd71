use Rattle.std.proofs.Common.{rules, [], ◌∷◌}
use Rattle.std.specs.Prelude.{Some, is_ok}
use Rattle.std.specs.Result.{result_err}
use Rattle.raft_log.specs.declared.origin.TheConstants.{LEADER}
use Rattle.raft_model.specs.Server.Put.{PutEntry, PutLonger}
use Rattle.raft_core.specs.Appending.{cut_to}
use Rattle.raft_core.specs.StoredPuts.{with_origin, store_of}
use Rattle.raft_log.specs.DurableViews.{durable_state}
use Rattle.raft_core.proofs.Puts.{alike, does, fails, none_failed}
use Rattle.raft_core.proofs.append.write.Goals as goal

pub returns-in_err-cut-clause-puts : goal.returns-in_err-cut-clause-puts
returns-in_err-cut-clause-puts g c =
    fails _ c.args.d.now _ c.in_err-cut.field-0.0 _ (search rules)
    (alike LEADER (cut_to (store_of (durable_state c.args.d.now)) c.args.previous) (PutEntry c.args.entry ∷ PutLonger c.args.entry ∷ []) c.args.d.now _ (Some c.in_err-cut.field-0.0)
    (c.puts_in_turn.ensures.cut_off _ (with_origin LEADER (PutEntry c.args.entry ∷ PutLonger c.args.entry ∷ [])) c.args.d.now _ c.in_err-cut.field-0.0 c.in_err-cut.ensures.puts))

pub returns-clause-puts : goal.returns-clause-puts
returns-clause-puts g c =
    let entry = c.args.entry in
    alike LEADER (cut_to (store_of (durable_state c.args.d.now)) c.args.previous) (PutEntry entry ∷ PutLonger entry ∷ []) c.args.d.now _ (result_err c.append.result)
    (c.puts_in_turn.ensures.joined _ (with_origin LEADER (PutEntry entry ∷ PutLonger entry ∷ [])) c.args.d.now c.cut.new.d _ (result_err c.append.result)
    c.in_ok-cut.ensures.puts (does (with_origin LEADER (PutEntry entry ∷ PutLonger entry ∷ [])) _ c.cut.new.d _ (is_ok c.append.result) (result_err c.append.result) tt (none_failed c.append.result) (search rules) c.append.ensures.puts c.append.ensures.fault))
