use Rattle.bus_agreement.proofs.MirroredRuns.{ListLaws, has_headline}
use Rattle.bus_agreement.proofs.headline.the_headline.Goals as goal

pub returns : goal.returns
returns c =
    let laws : ListLaws = record {
      rows = c.rows_are_shown.ensures;
      offers = c.offers_are_pairs.ensures.waiting;
      bus = c.offers_are_pairs.ensures.bus;
      safe = c.law_every_run.ensures.safe;
      sound = c.law_every_run.ensures.invariants;
      headline = c.what_is_mirrored_has_the_headline.ensures;
      choices = c.a_choice_fits.ensures;
    } in
    has_headline laws
