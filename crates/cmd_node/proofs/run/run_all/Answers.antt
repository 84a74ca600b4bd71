use Rattle.std.proofs.Common.{◌<◌, length, refl, inl, inr, ◌∙◌, subst, arith}
use Rattle.std.specs.Prelude.{None, slice_index_or}
use Rattle.alloc_spec.specs.Rules.{rules_by}
use Rattle.cmd_node.specs.Another.{NoneCallsFor}
use Rattle.cmd_node.specs.Opening.{RunInput, together_at_opening as opened_of}
use Rattle.cmd_node.specs.Runners.{runners_of}
use Rattle.cmd_node.specs.Stands.{Stand}
use Rattle.cmd_node.specs.Turns.{all_turns}
use Rattle.cmd_node.specs.WholeRun.{Tell}
use Rattle.cmd_node.proofs.Cut.{of_refused}
use Rattle.cmd_node.proofs.Ending.{are_whole, if_err, past, refused_ends, some_value, turn_ends}
use Rattle.cmd_node.proofs.Lists.{on_ok, on_ok_always}
use Rattle.cmd_node.proofs.Quiet.{refused_run, turned_run}
use Rattle.cmd_node.proofs.WholeRun.{all_opened, all_telling}
use Rattle.cmd_node.proofs.run.run_all.Goals as goal

pub returns-in-Err : goal.returns-in-Err
returns-in-Err g c =
    let opened = c.in-Err.ensures in
    let why = opened.refused c.in-Err.fault refl in
    let within = why.within in
    let present = c.requires.present _ within in
    let old = some_value (slice_index_or c.args.disks.now (length (runners_of c.open_all.new.self)) None) present in
    let new = some_value (slice_index_or c.open_all.new.disks (length (runners_of c.open_all.new.self)) None) why.there in
    record {
      run = record {
        count = opened.count;
        places = opened.places;
        behind = past _ _ _ why.there opened.behind c.requires.present;
        whole = are_whole c.args.ids.now c.args.disks.now _ opened.opened;
        failed = refused_ends g.L.Link.faults c.args.ids.now c.args.disks.now c.open_all.new.disks c.args.links.now c.args.links.now _ c.in-Err.fault opened.opened present why;
      };
      all = tt;
      stands = tt;
      uncalled = tt;
      cut = inl (record {
        within = within;
        id_is = of_refused g.D.Disk old.0 new.0 _ c.in-Err.fault (why.refused.cause old.0 new.0 old.1 new.1);
        untouched = refl;
        readings_are = opened.clock;
        opened = opened.opened;
        refused = why.refused;
        behind = opened.behind;
      });
      tells = tt;
      quiet = refused_run g.D.Disk g.L.Link.faults c.calls_that_succeed_count_no_fault.ensures c.args.ids.now c.args.disks.now c.open_all.new.disks _ opened.opened
          c.args.links.now c.in-Err.fault c.requires.links why opened.behind;
    }

pub returns-in-Ok : goal.returns-in-Ok
returns-in-Ok g c =
    let opened = c.in-Ok.ensures in
    let turned = c.take_turns.ensures in
    let rules = rules_by c.args.size c.args.told.now in
    let count = turned.nodes.count ∙ opened.all in
    let stand = λ (given : RunInput) (tell : Tell g.L.Link.coming g.L.Link.sent g.D.Disk c.args.links.now c.args.disks.now (g.C.Clock.readings c.args.clock.now) given).
    let moments = opened.moments given.readings tell.readings_are in
    all_opened c.an_image_stands_for_one_state.ensures.state c.an_opening_goes_on.ensures.same g.L.Link.coming g.L.Link.sent rules c.args.ids.now
    (runners_of c.open_all.new.self) c.args.links.now c.args.disks.now (g.C.Clock.readings c.args.clock.now) given opened.opened opened.all c.requires.present tell
    (g.C.Clock.readings c.open_all.new.clock) c.args.steps.now c.requires.links moments.0 moments.1 c.requires.keeps in
    let telling = λ (given : RunInput) (tell : Tell g.L.Link.coming g.L.Link.sent g.D.Disk c.args.links.now c.args.disks.now (g.C.Clock.readings c.args.clock.now) given).
    all_telling g.L.Link.coming g.L.Link.sent c.args.ids.now (runners_of c.open_all.new.self) (runners_of c.take_turns.new.self) c.args.links.now c.args.disks.now
    (g.C.Clock.readings c.args.clock.now) given opened.opened opened.all c.requires.present tell turned.nodes in
    record {
      run = record {
        count = omega (arith, count);
        places = opened.places;
        behind = λ i high low. absurd (omega (arith, count, high, low));
        whole = λ i before low.
            are_whole c.args.ids.now c.args.disks.now _ opened.opened i before (let same = turned.nodes.count in omega (arith, same, low));
        failed = if_err c.take_turns.result (λ fault. turn_ends g.L.Link.faults c.args.ids.now c.args.disks.now c.open_all.new.disks c.args.links.now c.take_turns.new.links
            _ _ fault opened.opened opened.all turned.nodes.count) turned.failed;
      };
      all = on_ok_always c.take_turns.result count;
      stands = on_ok c.take_turns.result (λ goes given tell.
          let all = opened_of rules c.args.ids.now given in
          subst (λ n. Stand g.L.Link.coming g.L.Link.sent (runners_of c.take_turns.new.self) c.take_turns.new.links (g.C.Clock.readings c.take_turns.new.clock) c.take_turns.new.steps
          (all_turns n c.args.turns all)) opened.all (goes all (stand given tell))) turned.turned;
      uncalled = on_ok c.take_turns.result (λ none given tell.
          let all = opened_of rules c.args.ids.now given in
          subst (λ n. NoneCallsFor n c.args.turns all) opened.all (none all (stand given tell))) turned.uncalled;
      cut = if_err c.take_turns.result (λ fault goes. inr (record {
        all = count;
        ids_are = λ i r low.
            let same = turned.nodes.count in
            let first : i < length (runners_of c.open_all.new.self) = omega (arith, same, low) in
            (turned.nodes.each i r r first).id ∙ (opened.opened i r first).id_is;
        telling = telling;
        cut = λ given tell. goes (opened_of rules c.args.ids.now given) (stand given tell);
      })) turned.cut;
      tells = on_ok_always c.take_turns.result telling;
      quiet = turned_run g.D.Disk g.L.Link.faults c.calls_that_succeed_count_no_fault.ensures c.args.ids.now c.args.disks.now c.open_all.new.disks _ opened.opened _
          c.args.links.now c.take_turns.new.links c.take_turns.result opened.all turned.nodes.count (turned.quiet (λ i r low. (opened.opened i r low).standing));
    }
