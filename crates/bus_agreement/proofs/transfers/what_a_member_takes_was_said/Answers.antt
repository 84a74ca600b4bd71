use Rattle.bus_agreement.proofs.Deliveries.{takes_from}
use Rattle.bus_agreement.proofs.transfers.what_a_member_takes_was_said.Goals as goal

pub returns : goal.returns
returns c =
    let laws = c.what_is_said_of_frames.ensures in
    let codec = c.what_is_said_of_messages.ensures in
    λ ids made frames bag server number arrival members there holds bus works came fine.
    takes_from laws codec ids (λ n i. (members.nodes n i).0) (λ n i. (members.nodes n i).1) made holds.transfers bag holds.said holds.written
    holds.answered frames bus server (members.nodes server.me there).0 works.among works.heard works.called number arrival came fine
