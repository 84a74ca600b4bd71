use Rattle.std.proofs.Common.{◌∙◌}
use Rattle.dsdl_text.proofs.Types.{any_map}
use Rattle.dsdl_text.proofs.reader.has_name.Goals as goal

pub returns : goal.returns
returns c = c.any_name.ensures ∙ any_map c.args.name.now c.args.names.now
