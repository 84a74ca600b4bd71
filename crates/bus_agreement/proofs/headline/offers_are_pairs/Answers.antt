use Rattle.bus_agreement.proofs.OfferedAllocations.{bus_is_made, offers_are_made}
use Rattle.bus_agreement.proofs.headline.offers_are_pairs.Goals as goal

pub returns : goal.returns
returns c =
    let laws = c.what_is_said_of_frames.ensures in
    record {
      waiting = λ choice made w run members shows. offers_are_made laws choice made w run members shows;
      bus = λ choice made w run members shows. bus_is_made laws choice made w run members shows;
    }
