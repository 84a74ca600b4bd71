use Rattle.std.proofs.Common.{sym, subst, ◌∙◌}
use Rattle.std.specs.Prelude.{IsTrue}
use Rattle.std.proofs.lemmas.Bool.{true≢false}
use Rattle.cmd_new.proofs.StoreAbove.{image_again, may_again}
use Rattle.cmd_new.proofs.found.is_above.Goals as goal

pub returns-then-not-is_made_above : goal.returns-then-not-is_made_above
returns-then-not-is_made_above c = (
  λ e. absurd (true≢false (sym e)),
  λ is. subst IsTrue c.if-not-is_made_above.true (c.is_made_above.ensures.1 (may_again c.args.image.now c.term_in-term.result c.vote_in-node.result c.term_in-term.ensures c.vote_in-node.ensures is)),
)

pub returns : goal.returns
returns c = (
  λ e. record {
    term = c.term_in-term.result;
    node = c.vote_in-node.result;
    may = c.is_made_above.ensures.0 c.if-not-is_made_above.false;
    image_is = c.are_same.ensures.0 e ∙ c.image_above.ensures.image;
  },
  λ is. c.are_same.ensures.1 (image_again c.args.image.now c.term_in-term.result c.vote_in-node.result c.term_in-term.ensures c.vote_in-node.ensures is ∙ sym c.image_above.ensures.image),
)
