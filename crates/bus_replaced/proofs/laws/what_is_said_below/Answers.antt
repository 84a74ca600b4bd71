use Rattle.bus_replaced.proofs.laws.what_is_said_below.Goals as goal

pub returns : goal.returns
returns c = record {
  each = c.a_row_is_shown.ensures;
  begins = c.the_beginning_is_shown.ensures;
  offers = c.offers_are_pairs.ensures.waiting;
  bus = c.offers_are_pairs.ensures.bus;
  frames = c.what_is_said_of_frames.ensures;
  sound = c.law_replacements.ensures.invariants;
  safe = c.law_replacements.ensures.safe;
  lasts = c.law_replacements.ensures.lasts;
  alone = c.law_plain_runs.ensures.world;
  allowed = c.law_plain_runs.ensures.allowed;
  copied = c.law_copy.ensures.store;
  all = c.law_copy.ensures.all;
}
