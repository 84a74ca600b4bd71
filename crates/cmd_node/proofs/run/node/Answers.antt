use Rattle.std.proofs.Common.{ℕ, List, sym, ◌∙◌, subst, inl, inr}
use Rattle.std.specs.Io.KnownBytes.{Appends}
use Rattle.cmd_io.specs.Output.{WritesFront}
use Rattle.alloc_spec.specs.Rules.{rules_by}
use Rattle.cmd_node.specs.Ends.{end_status}
use Rattle.cmd_node.specs.Nodes.{LeavesWith}
use Rattle.cmd_node.specs.Runners.{runners_of}
use Rattle.cmd_node.specs.Status.{IsFaultless}
use Rattle.cmd_node.proofs.Ending.{are_back, if_err}
use Rattle.cmd_node.proofs.Left.{as_ended, had_memory, leaves, no_write_fault, without_memory}
use Rattle.cmd_node.proofs.Lists.{on_ok}
use Rattle.cmd_node.proofs.Refusing.{ends_damaged, faultless}
use Rattle.cmd_node.proofs.run.node.Goals as goal

pub returns-clause-untouched : goal.returns-clause-untouched
returns-clause-untouched g c = λ is. absurd (elim c.finish.ensures.end [
  | inl failed ↦ cc (failed, is)
  | inr ends ↦ had_memory c.run_all-ended.result (sym ends ∙ is)
])

pub returns-clause-runs : goal.returns-clause-runs
returns-clause-runs g c =
    let was = c.args in
    let rules = rules_by was.size was.told.now in
    let coming = g.L.Link.coming in
    let sent = g.L.Link.sent in
    let faults = g.L.Link.faults in
    let ended = c.run_all-ended in
    let run = ended.ensures.run in
    let does = c.finish.ensures in
    let law = c.an_image_stands_for_one_state.ensures in
    let links = ended.new.links in
    let disks = c.stop.new.disks in
    let runners = runners_of ended.new.runners in
    let first = g.C.Clock.readings was.clock.now in
    let last = g.C.Clock.readings ended.new.clock in
    let before = g.K.Sink.written was.sink.now in
    let now = g.K.Sink.written c.finish.new.sink in
    let left = λ (Wrote : List ℕ → Type 0). leaves coming sent faults rules was.turns was.ids.now was.links.now was.disks.now first c.requires.links c.a_state_is_durable.ensures law.state
    runners links ended.new.disks disks last ended.new.steps c.stop.ensures.stopped Wrote ended.result run ended.ensures.all ended.ensures.stands
    ended.ensures.tells ended.ensures.uncalled ended.ensures.cut ended.ensures.quiet in
    let With = LeavesWith coming sent faults g.D.Disk rules was.turns was.ids.now was.links.now links was.disks.now disks first last before now in
    record {
      places = c.stop.ensures.stopped.places ∙ run.places;
      put_back = are_back _ _ _ c.stop.ensures.stopped run.behind;
      leaves = elim does.end [
        | inl failed ↦ subst With (sym failed) (end_status ended.result, left (WritesFront before now) (does.report_in_part failed) (does.line_in_part failed))
        | inr ends ↦ subst With (sym ends)
            (as_ended coming sent faults g.D.Disk rules was.turns was.ids.now was.links.now links was.disks.now disks first last before now ended.result
            (left (Appends before now)
            (on_ok ended.result (λ goes lines keeps. elim (goes lines keeps) [ inl failed ↦ absurd (no_write_fault ended.result (sym ends ∙ failed)) | inr wrote ↦ wrote ]) does.report)
            (if_err ended.result (λ fault goes. elim goes [ inl failed ↦ absurd (no_write_fault ended.result (sym ends ∙ failed)) | inr wrote ↦ wrote ]) does.line)))
      ];
      finishes = λ no_link no_disk no_sink. elim does.end [
        | inl failed ↦ absurd (no_sink (does.write_fault failed))
        | inr ends ↦ subst IsFaultless (sym ends)
            (faultless faults was.ids.now was.disks.now ended.new.disks disks was.links.now links runners c.stop.ensures.stopped no_disk ended.result run.failed no_link)
      ];
      refuses = λ id key is tell no_disk no_sink. elim does.end [
        | inl failed ↦ absurd (no_sink (does.write_fault failed))
        | inr ends ↦ inl (ends ∙ ends_damaged faults was.ids.now was.disks.now ended.new.disks disks was.links.now links runners c.stop.ensures.stopped no_disk c.requires.present law.damaged law.either
            id key is tell ended.result run ended.ensures.all)
      ];
    }

pub returns-in_default-new-clause-runs : goal.returns-in_default-new-clause-runs
returns-in_default-new-clause-runs g c =
    without_memory g.L.Link.coming g.L.Link.sent g.L.Link.faults g.D.Disk (rules_by c.args.size c.args.told.now) c.args.turns c.args.ids.now c.args.links.now c.args.disks.now
    (g.C.Clock.readings c.args.clock.now) (g.K.Sink.faults c.args.sink.now) (g.K.Sink.written c.args.sink.now) c.requires.present
