use Rattle.dsdl_text.proofs.Types.{place_found, place_named, place_none}
use Rattle.dsdl_text.proofs.section.place_of.Goals as goal

pub returns-clause-found : goal.returns-clause-found
returns-clause-found c =
    place_found c.args.name.now c.args.sections.now c.position_of.result
    (place_named c.args.name.now c.args.sections.now c.position_of.result c.position_of.ensures)

pub returns-clause-none : goal.returns-clause-none
returns-clause-none c =
    place_none c.args.name.now c.args.sections.now c.position_of.result
    (place_named c.args.name.now c.args.sections.now c.position_of.result c.position_of.ensures)
