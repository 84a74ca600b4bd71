use Rattle.std.proofs.Common.{rules}
use Rattle.raft_log.specs.DurableViews.{durable_state}
use Rattle.raft_model.specs.Moves.Appending.{HasPrevious}
use Rattle.raft_core.specs.Handled.{append_request_of}
use Rattle.raft_core.specs.StoredPuts.{store_of}
use Rattle.raft_core.proofs.Appending.{held_without, refused_so}
use Rattle.raft_core.proofs.Verdicts.{no_entry, no_previous}
use Rattle.raft_core.proofs.append.accept.Goals as goal

pub returns-then-not-has_previous-clause-puts : goal.returns-then-not-has_previous-clause-puts
returns-then-not-has_previous-clause-puts g c = λ step from to v ruled.
    let s = durable_state c.args.d.now in
    let r = append_request_of c.args.req.now step from to in
    refused_so (store_of s) r v c.args.d.now
    (no_previous s r (λ fits. let h = c.has_previous.ensures.1 (fits.previous, fits.previous_term) in search (rules, h)) v ruled)
    (c.puts_in_turn.ensures.nothing c.args.d.now)

pub returns-in-None-clause-puts : goal.returns-in-None-clause-puts
returns-in-None-clause-puts g c = λ step from to v ruled.
    let s = durable_state c.args.d.now in
    let r = append_request_of c.args.req.now step from to in
    let has = c.has_previous.ensures.0 (search rules) in
    let fits : HasPrevious (store_of s) r = record { previous = has.0; previous_term = has.1 } in
    held_without (store_of s) r v c.args.d.now _ _ c.min.result (no_entry s r fits c.in-None.is v ruled) c.in-None.is c.min.ensures c.hold.ensures.puts c.hold.ensures.accepted
