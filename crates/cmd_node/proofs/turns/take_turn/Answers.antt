use Rattle.std.proofs.Common.{◌≡◌, suc, ◌+◌, ◌<◌, length, length-set, refl, ap, sym, ◌∙◌, subst, arith}
use Rattle.std.specs.Prelude.{None, Some, Ok, Err, slice_index_or, slice_set}
use Rattle.outside.specs.Readings.{next_reading}
use Rattle.alloc_server.specs.Server.{LeavesSome}
use Rattle.cmd_node.specs.Another.{NoneCalls, caller_at, caller_in_turn}
use Rattle.cmd_node.specs.Puts.{IsCutIn}
use Rattle.cmd_node.specs.Stands.{IsStanding, IsTurning, Stand, Works, runner_disk}
use Rattle.cmd_node.specs.Turn.{Turning, turn}
use Rattle.cmd_node.specs.Turns.{first_turns, turning_at}
use Rattle.cmd_node.specs.declared.fault.Fault.TheVariants.{Link, Disk}
use Rattle.cmd_node.specs.declared.runner.Runner.{Runner}
use Rattle.cmd_node.proofs.Another.{nor_next}
use Rattle.cmd_node.proofs.Cut.{at_node, called_by, cut_at}
use Rattle.cmd_node.proofs.Lists.{all_set}
use Rattle.cmd_node.proofs.Quiet.{quiet_kept, quiet_set}
use Rattle.cmd_node.proofs.Together.{are_running, ends_turn, keeps_links, keeps_nodes, links_kept, nodes_kept, rose_before, set_here}
use Rattle.cmd_node.proofs.Turning.{reads}
use Rattle.cmd_node.proofs.turns.take_turn.Goals as goal

pub loop-place-init : goal.loop-place-init
loop-place-init g c = record {
  nodes = nodes_kept c.args.runners.now;
  links = links_kept g.L.Link.faults c.args.links.now;
  working = c.requires.working;
  standing = λ all. all;
  quiet = λ all. quiet_kept g.L.Link.faults c.args.runners.now c.args.links.now c.requires.each;
  few = omega arith;
  turned = λ all is. is;
  uncalled = λ all is i low. absurd (omega (arith, low));
}

pub turn-requires-clause-receives : goal.turn-requires-clause-receives
turn-requires-clause-receives g c =
    let nodes = c.loop-place.invariant.nodes in
    let count = nodes.count in
    let low = c.loop-place-test.true in
    let first : c.loop-place.place < length c.args.runners.now = omega (arith, low, count) in
    let some = c.index-runners-place.result in
    let same = sym (nodes.each c.loop-place.place some some first).accepts in
    rw same at (c.requires.receives c.loop-place.place some first)

pub loop-place-preserved : goal.loop-place-preserved
loop-place-preserved g c =
    let so_far = c.loop-place.invariant in
    let place = c.loop-place.place in
    let low = c.loop-place-test.true in
    let runners = c.loop-place.runners in
    let links = c.loop-place.links in
    let faults = g.L.Link.faults in
    let nodes = so_far.nodes in
    let kept = so_far.links in
    let node_count = nodes.count in
    let link_count = kept.count in
    let each = c.requires.each in
    let first : place < length c.args.runners.now = omega (arith, low, node_count) in
    let first_link : place < length c.args.links.now = omega (arith, low, node_count, link_count, each) in
    let here : place < length runners = omega (arith, first, node_count) in
    let there : place < length links = omega (arith, first_link, link_count) in
    let some = c.index-runners-place.result in
    let some_link = c.index-links-place.result in
    let runner = c.turn.new.self in
    let link = c.turn.new.link in
    record {
      nodes = keeps_nodes runners links place runner link here there c.args.runners.now c.args.links.now faults nodes kept some
          (record { id = c.turn.ensures.id; later = c.turn.ensures.disk_later; tells = c.turn.ensures.tells; accepts = c.turn.ensures.accepts });
      links = keeps_links runners links place runner link here there c.args.runners.now c.args.links.now faults nodes kept some_link c.turn.ensures.link_later;
      working = all_set (λ i r. Works r) runners place runner so_far.working c.in-Ok.ensures.works;
      standing = λ all. all_set (λ i r. IsStanding r) runners place runner (so_far.standing all) (c.in-Ok.ensures.standing (so_far.standing all place some here));
      quiet = λ all. let so_quiet = so_far.quiet all in
          quiet_set runners links place runner link here there c.args.runners.now c.args.links.now faults (Ok tt) so_quiet
          (λ r before other. c.in-Ok.ensures.link_quiet (λ e. absurd (cc (e))) ∙ so_quiet.links place r before some_link first (λ e. absurd (cc (e))))
          (λ before other. c.in-Ok.ensures.disk_quiet (λ e. absurd (cc (e))) (so_far.standing all place some here) ∙ so_quiet.disks place before some first (λ e. absurd (cc (e))));
      few = let steps = so_far.few in let now = c.turn.ensures.few in omega (arith, steps, now);
      turned = λ all is.
          let far = so_far.turned all is in
          let before = first_turns place all in
          let read = reads c.now-now.result (g.C.Clock.readings c.loop-place.clock) (g.C.Clock.readings c.now-now.new.self) before.readings c.now-now.ensures far.readings_are in
          let t : Turning = record { running = before.running place; lines = before.lines } in
          let running = far.each place some some_link here in
          let now = c.in-Ok.ensures.turned t (record { running = running; lines = far.lines }) in
          let done = turn (next_reading before.readings) t in
          let turned = subst (λ m. IsTurning runner (g.L.Link.coming link) (g.L.Link.sent link) c.turn.new.steps (turn m t)) read.0 now in
          let next : suc place ≡ place + 1 = omega arith in
          subst (λ n. Stand g.L.Link.coming g.L.Link.sent (slice_set runners place runner) (slice_set links place link) (g.C.Clock.readings c.now-now.new.self) c.turn.new.steps
          (first_turns n all)) next (record {
            each = are_running runners links place runner link here there g.L.Link.coming g.L.Link.sent before.running done.running far.each turned.running;
            readings_are = read.1;
            lines = turned.lines;
          });
      uncalled = λ all is.
          let far = so_far.turned all is in
          let before = first_turns place all in
          let read = reads c.now-now.result (g.C.Clock.readings c.loop-place.clock) (g.C.Clock.readings c.now-now.new.self) before.readings c.now-now.ensures far.readings_are in
          let t = turning_at place before in
          let none = c.in-Ok.ensures.uncalled t (record { running = far.each place some some_link here; lines = far.lines }) in
          nor_next place all (so_far.uncalled all is) (subst (λ m. caller_in_turn m t ≡ None) read.0 none);
    }

pub returns-clause-turned : goal.returns-clause-turned
returns-clause-turned g c = λ all is.
    let so_far = c.loop-place.invariant in
    let count = so_far.nodes.count in
    let high = c.loop-place-test.false in
    let end = c.loop-place.auto.place-end in
    let all_of : c.loop-place.place ≡ length c.args.runners.now = omega (arith, count, high, end) in
    subst (λ n. Stand g.L.Link.coming g.L.Link.sent c.loop-place.runners c.loop-place.links (g.C.Clock.readings c.loop-place.clock) c.loop-place.steps (first_turns n all)) all_of
    (so_far.turned all is)

pub returns-clause-uncalled : goal.returns-clause-uncalled
returns-clause-uncalled g c = λ all is.
    let so_far = c.loop-place.invariant in
    let count = so_far.nodes.count in
    let high = c.loop-place-test.false in
    let end = c.loop-place.auto.place-end in
    let all_of : c.loop-place.place ≡ length c.args.runners.now = omega (arith, count, high, end) in
    subst (λ n. NoneCalls n all) all_of (so_far.uncalled all is)

pub returns-in-Err : goal.returns-in-Err
returns-in-Err g c =
    let so_far = c.loop-place.invariant in
    let place = c.loop-place.place in
    let low = c.loop-place-test.true in
    let runners = c.loop-place.runners in
    let links = c.loop-place.links in
    let faults = g.L.Link.faults in
    let disk_faults = g.D.Disk.faults in
    let readings = g.C.Clock.readings in
    let nodes = so_far.nodes in
    let kept = so_far.links in
    let node_count = nodes.count in
    let link_count = kept.count in
    let each = c.requires.each in
    let first : place < length c.args.runners.now = omega (arith, low, node_count) in
    let first_link : place < length c.args.links.now = omega (arith, low, node_count, link_count, each) in
    let here : place < length runners = omega (arith, first, node_count) in
    let there : place < length links = omega (arith, first_link, link_count) in
    let some = c.index-runners-place.result in
    let some_link = c.index-links-place.result in
    let old = slice_index_or runners place some in
    let old_link = slice_index_or links place some_link in
    let runner = c.turn.new.self in
    let link = c.turn.new.link in
    let turn = c.turn.ensures in
    let why = c.in-Err.ensures in
    let works = so_far.working place some here in
    record {
      turned = tt;
      uncalled = tt;
      cut = λ all is.
          let far = so_far.turned all is in
          let before = first_turns place all in
          let t = turning_at place before in
          let read = reads c.now-now.result (readings c.loop-place.clock) (readings c.now-now.new.self) before.readings c.now-now.ensures far.readings_are in
          let cut = turn.cut t (record { running = far.each place some some_link here; lines = far.lines }) in
          let size = length-set runners place runner in
          record {
            place = place;
            within = omega (arith, here, size);
            named = (
              λ r. sym (ap (λ (x : Runner g.row.D.Denot g.row.F.Denot g.D.Disk). x.id) (set_here runners place place runner r refl here)) ∙ turn.id
                  ∙ sym (at_node c.in-Err.fault old.id (λ node e. (why.link_failed node (ap Err e)).0) (λ node e. (why.disk_failed node works (ap Err e)).0) (λ node key e. why.sound node key (ap Err e))
                  (λ node from e. (why.called node from (ap Err e)).0)),
              called_by c.in-Err.fault (caller_at place before) (λ node from e. subst (λ m. caller_in_turn m t ≡ Some from) read.0
                  ((why.called node from (ap Err e)).1 t (record { running = far.each place some some_link here; lines = far.lines }))),
            );
            uncalled = so_far.uncalled all is;
            cut = cut_at runners links place runner some link some_link here there g.L.Link.coming g.L.Link.sent (readings c.loop-place.clock) c.loop-place.steps before far
                (readings c.now-now.new.self) read.1 why.unsent turn.tells
                (subst (λ m. IsCutIn m t (g.L.Link.coming link) (LeavesSome old.server runner.server)) read.0 cut);
          };
      nodes = keeps_nodes runners links place runner link here there c.args.runners.now c.args.links.now faults nodes kept some
          (record { id = turn.id; later = turn.disk_later; tells = turn.tells; accepts = turn.accepts });
      links = keeps_links runners links place runner link here there c.args.runners.now c.args.links.now faults nodes kept some_link turn.link_later;
      working = tt;
      failed = ends_turn runners links place runner link here there c.args.runners.now c.args.links.now faults nodes kept c.in-Err.fault old.id
          (λ before. sym (nodes.each place before some first).id) first
          (λ node is. let failed = why.link_failed node (ap Err is) in (
            failed.0,
            λ before. rose_before (faults (slice_index_or c.args.links.now place before)) (faults old_link) (faults link) (kept.later place before some_link first_link) failed.1,
          ))
          (λ node is. let failed = why.disk_failed node works (ap Err is) in (
            failed.0,
            λ before. rose_before (disk_faults (runner_disk (slice_index_or c.args.runners.now place before))) (disk_faults (runner_disk old)) (disk_faults (runner_disk runner))
                (nodes.each place before some first).later failed.1,
          ))
          (λ node key is. why.sound node key (ap Err is)) (λ node from is. (why.called node from (ap Err is)).0);
      few = let steps = so_far.few in let now = turn.few in let five = c.requires.five in omega (arith, steps, now, five, first);
      standing = tt;
      quiet = λ all. let so_quiet = so_far.quiet all in
          quiet_set runners links place runner link here there c.args.runners.now c.args.links.now faults (Err c.in-Err.fault) so_quiet
          (λ r before other. why.link_quiet (λ e. other (e ∙ ap (λ n. Err (Link n)) (nodes.each place r some first).id)) ∙ so_quiet.links place r before some_link first (λ e. absurd (cc (e))))
          (λ before other. why.disk_quiet (λ e. other (e ∙ ap (λ n. Err (Disk n)) (nodes.each place before some first).id)) (so_far.standing all place some here)
          ∙ so_quiet.disks place before some first (λ e. absurd (cc (e))));
    }
