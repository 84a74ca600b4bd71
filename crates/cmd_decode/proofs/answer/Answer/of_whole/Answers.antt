use Rattle.std.proofs.Common.{sym, ap, ◌∙◌}
use Rattle.dsdl_text.specs.Sections.{part_at, part_named}
use Rattle.dsdl_text.specs.Reader.{data_types}
use Rattle.cmd_decode.proofs.Told.{some_of}
use Rattle.cmd_decode.proofs.answer.Answer.of_whole.Goals as goal

pub returns-in-Some-decode : goal.returns-in-Some-decode
returns-in-Some-decode c = λ now count rest ended types.
    let found = c.in-Some.ensures.found in
    let part = some_of (part_at (data_types c.args.texts.now) c.in-Some.at) found.0 in
    record {
      ended = ended;
      fields = part.0;
      found = ap (λ all. part_named all c.args.name.now c.args.part) (sym types) ∙ sym found.1 ∙ part.1;
      gives = sym (c.in-Some-decode.ensures part.0 part.1);
    }

pub returns-in-None : goal.returns-in-None
returns-in-None c = λ now count rest ended types.
    let found = c.in-Some.ensures.found in
    let part = some_of (part_at (data_types c.args.texts.now) c.in-Some.at) found.0 in
    record {
      ended = ended;
      fields = part.0;
      found = ap (λ all. part_named all c.args.name.now c.args.part) (sym types) ∙ sym found.1 ∙ part.1;
      gives = sym (c.in-None.ensures part.0 part.1);
    }
