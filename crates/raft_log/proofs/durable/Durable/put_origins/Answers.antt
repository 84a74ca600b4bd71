use Rattle.std.proofs.Common.{rules, ◌+◌, ◌<◌, List, length, drop, refl, sym, ap, subst, arith}
use Rattle.std.specs.Prelude.{None, false, is_ok, true}
use Rattle.can_frame.specs.declared.entry.Entry.{Entry}
use Rattle.raft_log.specs.Calls.{WritesInOrder}
use Rattle.raft_log.specs.StateViews.{stored_of}
use Rattle.raft_log.specs.Stored.{Put, origin_puts}
use Rattle.raft_log.proofs.InTurn.{cut_by, fault_after, unchanged, without_puts}
use Rattle.raft_log.proofs.Migrating.{all_before, further_have, further_later, further_log, further_puts, puts_before, puts_parted}
use Rattle.raft_log.proofs.durable.Durable.put_origins.Goals as goal

pub loop-place-init : goal.loop-place-init
loop-place-init g c =
    let durable = c.args.self.now in record {
      log = refl;
      later = λ i h. refl;
      have = λ i h. absurd (omega (arith, h));
      puts = without_puts durable (c.a_state_is_durable.ensures durable);
      fault = unchanged durable c.requires.works;
    }

pub returns-in_err-put_origin-clause-puts : goal.returns-in_err-put_origin-clause-puts
returns-in_err-put_origin-clause-puts g c =
    let kept = c.loop-place.invariant in
    let place = c.loop-place.place in
    let old = c.args.self.now in
    let s = stored_of old.state in
    let log = ap (λ (l : List Entry). length l) kept.log in
    let within : place < length c.loop-place.self.state.log.items = omega (arith, log, c.loop-place-test.true, c.last-place-end.ensures.last) in
    let tried = further_puts place old c.loop-place.self c.put_origin.new.self false within kept.log kept.later kept.puts kept.fault c.in_err-put_origin.ensures.puts in
    subst (λ (puts : List Put). WritesInOrder puts old c.put_origin.new.self (is_ok c.from_residual.result)) (sym (puts_parted (place + 1) 0 s.log s.origins))
    (cut_by None (puts_before (place + 1) s) (origin_puts (0 + (place + 1)) (drop (place + 1) s.log) (drop (place + 1) s.origins)) old c.put_origin.new.self c.from_residual.result c.in_err-put_origin.field-0.0 (search rules) tried)

pub loop-place-preserved : goal.loop-place-preserved
loop-place-preserved g c =
    let kept = c.loop-place.invariant in
    let place = c.loop-place.place in
    let old = c.args.self.now in
    let mid = c.loop-place.self in
    let new = c.put_origin.new.self in
    let put = c.in_ok-put_origin.ensures.puts in
    let log = ap (λ (l : List Entry). length l) kept.log in
    let within : place < length mid.state.log.items = omega (arith, log, c.loop-place-test.true, c.last-place-end.ensures.last) in
    record {
      log = further_log place old mid new true within kept.log kept.later kept.puts kept.fault put refl;
      later = further_later place old mid new true within kept.log kept.later kept.puts kept.fault put refl;
      have = further_have place old mid new true within kept.log kept.later kept.puts kept.fault put refl kept.have;
      puts = further_puts place old mid new true within kept.log kept.later kept.puts kept.fault put;
      fault = fault_after old mid new None kept.fault (λ works. c.in_ok-put_origin.ensures.fault);
    }

pub returns-clause-puts : goal.returns-clause-puts
returns-clause-puts g c =
    let old = c.args.self.now in
    subst (λ (puts : List Put). WritesInOrder puts old c.loop-place.self true)
    (all_before c.loop-place.place (stored_of old.state) old.storable.count (omega (arith, c.loop-place-test.false, c.last-place-end.ensures.last))) c.loop-place.invariant.puts

pub returns-clause-have : goal.returns-clause-have
returns-clause-have g c = λ i h.
    let kept = c.loop-place.invariant in
    let log = ap (λ (l : List Entry). length l) kept.log in
    kept.have i (omega (arith, h, c.loop-place.self.storable.count, log, c.loop-place-test.false, c.last-place-end.ensures.last))
