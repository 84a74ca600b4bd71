use Rattle.std.proofs.Common.{◌∙◌, sym, refl}
use Rattle.alloc_server.specs.Server.{event_of}
use Rattle.bus_rows.specs.ReportLine.{report_line_of}
use Rattle.bus_world.specs.declared.place.Place.{Place}
use Rattle.bus_world.proofs.Stepping.{goes_on, pattern_kept, stops, told_by}
use Rattle.bus_world.proofs.member.Member.step.Goals as goal

pub returns-then-has_stopped-clause-told : goal.returns-then-has_stopped-clause-told
returns-then-has_stopped-clause-told g c = λ x stands runs.
    let old = c.args.self.now.place in let after : Place g.row.F.Denot = record { server = c.advance-told.new.server; runs = old.runs } in
    told_by c.args.self.now.id c.args.number (event_of c.args.event) old after (report_line_of c.advance-told.result)
    c.advance-told.ensures.finished c.advance-told.ensures.cut c.advance-told.ensures.again x x.status runs stands.status

pub returns-then-has_stopped-clause-stands : goal.returns-then-has_stopped-clause-stands
returns-then-has_stopped-clause-stands g c = λ x stands runs.
    let old = c.args.self.now.place in let after : Place g.row.F.Denot = record { server = c.advance-told.new.server; runs = old.runs } in record {
      status = stops c.args.self.now.id c.args.number (event_of c.args.event) old after (report_line_of c.advance-told.result)
          c.advance-told.ensures.finished c.advance-told.ensures.cut c.advance-told.ensures.again x c.restart.new.self c.args.self.now.pattern stands.pattern
          c.restart.ensures.status (sym c.has_stopped.ensures ∙ c.if-has_stopped.true) x.status runs stands.status;
      pattern = stands.pattern ∙ sym (pattern_kept c.args.number (event_of c.args.event) x x.status);
    }

pub returns-else-has_stopped-clause-told : goal.returns-else-has_stopped-clause-told
returns-else-has_stopped-clause-told g c = λ x stands runs.
    let old = c.args.self.now.place in let after : Place g.row.F.Denot = record { server = c.advance-told.new.server; runs = old.runs } in
    told_by c.args.self.now.id c.args.number (event_of c.args.event) old after (report_line_of c.advance-told.result)
    c.advance-told.ensures.finished c.advance-told.ensures.cut c.advance-told.ensures.again x x.status runs stands.status

pub returns-else-has_stopped-clause-stands : goal.returns-else-has_stopped-clause-stands
returns-else-has_stopped-clause-stands g c = λ x stands runs.
    let old = c.args.self.now.place in let after : Place g.row.F.Denot = record { server = c.advance-told.new.server; runs = old.runs } in record {
      status = goes_on c.args.self.now.id c.args.number (event_of c.args.event) old after (report_line_of c.advance-told.result)
          c.advance-told.ensures.finished c.advance-told.ensures.cut c.advance-told.ensures.again x refl (sym c.has_stopped.ensures ∙ c.if-has_stopped.false)
          x.status refl runs stands.status;
      pattern = stands.pattern ∙ sym (pattern_kept c.args.number (event_of c.args.event) x x.status);
    }
