use Rattle.bus_agreement.proofs.HeldPairs.{HoldingLaws, has_allocatees}
use Rattle.bus_agreement.proofs.allocatees.the_allocatees.Goals as goal

pub returns : goal.returns
returns c =
    let laws : HoldingLaws = record {
      rows = c.rows_are_shown.ensures;
      offers = c.offers_are_pairs.ensures.waiting;
      safe = c.law_every_run.ensures.safe;
      sound = c.law_every_run.ensures.invariants;
      headline = c.the_headline.ensures;
      frames = c.what_is_said_of_frames.ensures;
    } in
    has_allocatees laws
