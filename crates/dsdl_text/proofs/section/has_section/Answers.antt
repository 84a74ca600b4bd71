use Rattle.dsdl_text.proofs.Types.{has_named}
use Rattle.dsdl_text.proofs.section.has_section.Goals as goal

pub returns : goal.returns
returns c = has_named c.args.name.now c.args.sections.now c.any_section.result c.any_section.ensures
