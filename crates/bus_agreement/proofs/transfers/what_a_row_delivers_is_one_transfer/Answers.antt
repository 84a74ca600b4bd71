use Rattle.bus_agreement.proofs.OneTransfer.{is_one_transfer}
use Rattle.bus_agreement.proofs.transfers.what_a_row_delivers_is_one_transfer.Goals as goal

pub returns : goal.returns
returns c =
    let laws = c.what_is_said_of_frames.ensures in
    λ choice made w run members shows n k ms d lawful is. is_one_transfer laws choice made w run members shows n k ms d lawful is
