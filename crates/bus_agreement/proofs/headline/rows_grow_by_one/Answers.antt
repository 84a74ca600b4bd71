use Rattle.bus_agreement.proofs.Concatenations.{ids_stay}
use Rattle.bus_agreement.proofs.OneRowMore.{fits, grown, harmless, lawful, made_more, shown}
use Rattle.bus_agreement.proofs.headline.rows_grow_by_one.Goals as goal

pub returns : goal.returns
returns c = record { members = ids_stay; world = grown; lawful = lawful; harmless = harmless; events = shown; fits = fits; made = made_more }
