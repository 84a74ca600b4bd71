use Rattle.std.proofs.Common.{sym, ◌∙◌, slice_index}
use Rattle.std.proofs.lemmas.Bool.{true≢false}
use Rattle.allocator_app.proofs.Among.{more_there, not_there}
use Rattle.allocator_app.proofs.told.are_in.Goals as goal

pub returns-then-not-contains : goal.returns-then-not-contains
returns-then-not-contains c = (
  λ e. absurd (true≢false (sym e)),
  λ all. absurd (not_there c.args.members.now (slice_index c.args.ids.now c.loop-id.id-index) (sym c.contains.ensures.value ∙ c.if-not-contains.true)
      (all c.loop-id.id-index c.loop-id-test.true)),
)

pub loop-id-preserved : goal.loop-id-preserved
loop-id-preserved c =
    more_there c.args.members.now c.args.ids.now c.loop-id.id-index c.loop-id.invariant (sym c.contains.ensures.value ∙ c.if-not-contains.false)
