use Rattle.std.proofs.Common.{length, subst}
use Rattle.store_audit.specs.Audits.{Ends}
use Rattle.store_audit.proofs.Ending.{come, no_disk_failed, of_all}
use Rattle.store_audit.proofs.run.audit_stores.Goals as goal

pub returns-in-Ok-clause-audits : goal.returns-in-Ok-clause-audits
returns-in-Ok-clause-audits g c =
    let stores = c.read_all.new.stores.items in
    let ends = subst (λ l. Ends c.args.ids.now l (g.K.Sink.written c.args.sink.now) (g.K.Sink.written c.compare.new.sink) c.compare.result) c.deref.ensures.0 c.compare.ensures.ends in
    record {
      outcome = ends.outcome;
      report = ends.report;
      comes = come g.D.Disk c.args.ids.now c.args.disks.now stores c.in-Ok.ensures.read c.in-Ok.ensures.all ends.outcome ends.report ends.compares;
      stay = c.in-Ok.ensures.stay;
      order = (length c.args.ids.now, of_all g.D.Disk c.args.ids.now c.args.disks.now stores ends.outcome ends.report ends.compares, c.in-Ok.ensures.whole);
      counts = c.in-Ok.ensures.quiet ends.outcome (no_disk_failed c.args.ids.now stores ends.outcome ends.report ends.compares);
      written = ends.written;
    }
