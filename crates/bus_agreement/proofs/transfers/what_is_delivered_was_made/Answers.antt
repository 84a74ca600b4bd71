use Rattle.bus_agreement.proofs.DeliveredTransfers.{was_made}
use Rattle.bus_agreement.proofs.transfers.what_is_delivered_was_made.Goals as goal

pub returns : goal.returns
returns c =
    let laws = c.what_is_said_of_frames.ensures in
    λ ids made frames setting sessions arrival d members are served bus heard came gives untorn forged.
    was_made laws ids (λ n i. (members.nodes n i).0) (λ n i. (members.nodes n i).1) made are setting frames bus sessions heard
    arrival came d gives untorn forged served
