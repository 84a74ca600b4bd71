use Rattle.std.proofs.Common.{refl, sym, subst, ◌∙◌}
use Rattle.std.proofs.lemmas.Bool.{true≢false}
use Rattle.alloc_spec.specs.ClusterMembers.{AreMembers}
use Rattle.allocator_app.proofs.Listing.{no_told, not_members}
use Rattle.allocator_app.proofs.told.read_told.Goals as goal

pub returns-in_err-members-clause-none : goal.returns-in_err-members-clause-none
returns-in_err-members-clause-none c = λ none told cluster spells.
    no_told c.args.word.now (c.in_default.ensures.none refl) (c.in_err-members.ensures.none refl) told cluster spells

pub returns-then-not-are_members-clause-none : goal.returns-then-not-are_members-clause-none
returns-then-not-are_members-clause-none c = λ none told cluster spells.
    not_members c.args.word.now c.in_ok-members.members.items c.in_ok-members.ensures.some c.in_ok-members.ensures.bytes
    (λ members. true≢false (sym (c.are_members.ensures.1 (subst AreMembers (sym c.deref.ensures.0) members)) ∙ c.if-not-are_members.true))
    (c.in_default.ensures.none refl) told cluster spells
