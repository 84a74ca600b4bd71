use Rattle.std.proofs.Common.{refl, inl, sym, ◌∙◌}
use Rattle.std.proofs.lemmas.Bool.{true≢false}
use Rattle.cmd_logs.proofs.Ends.{begins_more, few_wait, none_ends}
use Rattle.cmd_logs.proofs.log.full.Goals as goal

pub returns-then-line_begins-clause-takes : goal.returns-then-line_begins-clause-takes
returns-then-line_begins-clause-takes c = record {
  same = refl;
  counted = refl;
  stops = λ more. (refl, begins_more c.args.form c.args.input.now more (c.line_begins.ensures.begins.0 c.if-line_begins.true));
}

pub returns-else-line_begins-clause-takes : goal.returns-else-line_begins-clause-takes
returns-else-line_begins-clause-takes c =
    let none = λ (begins : _). true≢false (sym (c.line_begins.ensures.begins.1 begins) ∙ c.if-line_begins.false) in
    record {
      same = refl;
      counted = refl;
      waits = record { unended = none_ends c.args.form c.args.input.now none; short = few_wait c.args.form c.args.input.now none; another = inl none };
    }
