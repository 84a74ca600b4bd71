use Rattle.std.proofs.lemmas.Grind.{flat_map-append}
use Rattle.cmd_logs.specs.Converted.{converted, converted_line}
use Rattle.cmd_logs.proofs.laws.conversions_tell_more.Goals as goal

pub returns : goal.returns
returns c = λ to lines more. (converted to more, flat_map-append (converted_line to) lines more)
