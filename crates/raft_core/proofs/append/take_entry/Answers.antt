use Rattle.std.proofs.Common.{rules, ℕ, ◌+◌, subst, refl}
use Rattle.std.specs.Prelude.{Some, min}
use Rattle.std.specs.Result.{result_err}
use Rattle.raft_log.specs.declared.origin.TheConstants.{LEADER}
use Rattle.raft_log.specs.DurableViews.{durable_state}
use Rattle.raft_model.specs.Moves.Appending.{HasPrevious}
use Rattle.raft_core.specs.Appending.{commit_puts, write_puts}
use Rattle.raft_core.specs.Handled.{append_request_of}
use Rattle.raft_core.specs.StoredPuts.{CallWrites, with_origin, store_of}
use Rattle.raft_core.proofs.Appending.{added_cut, added_so, refused_so}
use Rattle.raft_core.proofs.Puts.{alike}
use Rattle.raft_core.proofs.Verdicts.{added, refused}
use Rattle.raft_core.proofs.append.take_entry.Goals as goal

pub returns-then-not-may_add-clause-puts : goal.returns-then-not-may_add-clause-puts
returns-then-not-may_add-clause-puts g c = λ step from to v ruled.
    let s = durable_state c.args.d.now in
    let r = append_request_of c.args.req.now step from to in
    let fits : HasPrevious (store_of s) r = record { previous = c.requires.previous; previous_term = c.requires.previous_term } in
    let v_is = refused s r c.args.entry c.requires.entry c.logs_stay_injective.ensures.entry c.logs_stay_injective.ensures.front c.requires.term fits
    (λ x. let h = c.is_there.ensures.1 x in search (rules, h))
    (λ x. let h = c.may_add.ensures.1 x in search (rules, h)) v ruled in
    refused_so (store_of s) r v c.args.d.now v_is (c.puts_in_turn.ensures.nothing c.args.d.now)

pub returns-in_err-write-clause-puts : goal.returns-in_err-write-clause-puts
returns-in_err-write-clause-puts g c = λ step from to v ruled.
    let s = durable_state c.args.d.now in
    let r = append_request_of c.args.req.now step from to in
    let fits : HasPrevious (store_of s) r = record { previous = c.requires.previous; previous_term = c.requires.previous_term } in
    let may = c.may_add.ensures.0 (search rules) in
    let place : ℕ = min c.args.req.now.commit (c.args.req.now.prev_index + 1) in
    let v_is = added s r c.args.entry c.requires.entry c.logs_stay_injective.ensures.entry c.logs_stay_injective.ensures.front c.requires.term fits
    (λ x. let h = c.is_there.ensures.1 x in search (rules, h)) may (c.a_durable_state_is_kept.ensures c.args.d.now).storable.injective v ruled in
    added_cut (store_of s) r v c.args.d.now _ _ c.args.entry place c.in_err-write.field-0.0 (search rules) v_is c.requires.entry refl
    (alike LEADER (write_puts (store_of s) c.args.req.now.prev_index c.args.entry) (commit_puts (store_of s) place) c.args.d.now _ (Some c.in_err-write.field-0.0)
    (c.puts_in_turn.ensures.cut_off _ (with_origin LEADER (commit_puts (store_of s) place)) c.args.d.now _ c.in_err-write.field-0.0 c.in_err-write.ensures.puts))

pub returns-clause-puts : goal.returns-clause-puts
returns-clause-puts g c = λ step from to v ruled.
    let s = durable_state c.args.d.now in
    let mid = durable_state c.write.new.d in
    let r = append_request_of c.args.req.now step from to in
    let fits : HasPrevious (store_of s) r = record { previous = c.requires.previous; previous_term = c.requires.previous_term } in
    let may = c.may_add.ensures.0 (search rules) in
    let v_is = added s r c.args.entry c.requires.entry c.logs_stay_injective.ensures.entry c.logs_stay_injective.ensures.front c.requires.term fits
    (λ x. let h = c.is_there.ensures.1 x in search (rules, h)) may (c.a_durable_state_is_kept.ensures c.args.d.now).storable.injective v ruled in
    let puts = subst (λ (k : ℕ). CallWrites (with_origin LEADER (commit_puts (record (store_of s) { commit = k }) c.min-2.result)) c.write.new.d c.hold-2.new.d (result_err c.hold-2.result)) c.in_ok-write.ensures.commit c.hold-2.ensures.puts in
    added_so (store_of s) r v c.args.d.now _ _ c.args.entry c.min-2.result v_is c.requires.entry c.min-2.ensures
    (alike LEADER (write_puts (store_of s) c.args.req.now.prev_index c.args.entry) (commit_puts (store_of s) c.min-2.result) c.args.d.now c.hold-2.new.d (result_err c.hold-2.result)
    (c.puts_in_turn.ensures.joined _ _ c.args.d.now c.write.new.d c.hold-2.new.d (result_err c.hold-2.result) c.in_ok-write.ensures.puts puts))
    c.hold-2.ensures.accepted

pub returns-clause-fault : goal.returns-clause-fault
returns-clause-fault g c =
    (c.puts_in_turn.ensures.joined _ _ c.args.d.now c.write.new.d c.hold-2.new.d (result_err c.hold-2.result) c.in_ok-write.ensures.puts c.hold-2.ensures.puts).faults
