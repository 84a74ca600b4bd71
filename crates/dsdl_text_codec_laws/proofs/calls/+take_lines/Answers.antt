use Rattle.std.proofs.Common.{rules, arith}
use Rattle.dsdl_text.specs.Reader.{text_of}
use Rattle.dsdl_text_codec_laws.specs.Profile.{profile}
use Rattle.dsdl_text_codec_laws.proofs.Lines.{ended, first_line, goes_on}
use Rattle.dsdl_text_codec_laws.proofs.calls.+take_lines.Goals as goal

pub take_line-requires : goal.take_line-requires
take_line-requires t c = first_line (text_of c.args.reader.now) profile c.args.text.now c.line_end-end.result c.line_end-end.ensures.place c.requires

pub take_lines-requires : goal.take_lines-requires
take_lines-requires t c = (
  search rules,
  goes_on (text_of c.args.reader.now) profile (text_of c.take_line.new.reader) c.args.text.now c.line_end-end.result c.line_end-end.ensures.place
      (omega (arith, c.if-end-text.true)) c.requires c.take_line.ensures,
)

pub returns-else-end-text : goal.returns-else-end-text
returns-else-end-text t c =
    ended (text_of c.args.reader.now) profile (text_of c.take_line.new.reader) c.args.text.now c.line_end-end.result c.line_end-end.ensures.place
    (omega (arith, c.if-end-text.false)) c.requires c.take_line.ensures
