use Rattle.std.proofs.Common.{sym, subst, List, ℕ, slice_index, EachIndex}
use Rattle.std.specs.List.{Contains}
use Rattle.allocator_app.specs.Told.{AreAmong}
use Rattle.allocator_app.proofs.told.Told.has_room_for.Goals as goal

pub returns-in-Members : goal.returns-in-Members
returns-in-Members c =
    let ids = c.args.ids.now in (
      λ e. subst (λ told. AreAmong told ids) (sym c.in-Members.is)
          (subst (λ (list : List ℕ). EachIndex ids (λ i. Contains list (slice_index ids i))) c.deref.ensures.0 (c.are_in.ensures.0 e)),
      λ among. c.are_in.ensures.1 (subst (λ (list : List ℕ). EachIndex ids (λ i. Contains list (slice_index ids i))) (sym c.deref.ensures.0)
          (subst (λ told. AreAmong told ids) c.in-Members.is among)),
    )
