use Rattle.std.proofs.Common.{length}
use Rattle.dsdl_text_codec_laws.proofs.calls.+take_lines.Given as goal

abbrev pub decreases-take_lines : goal.decreases-take_lines
decreases-take_lines l = length l.text.now
