use Rattle.std.proofs.Common.{sym, ◌∙◌, subst}
use Rattle.std.proofs.lemmas.Bool.{true≢false}
use Rattle.alloc_spec.specs.ClusterMembers.{AreMembers}
use Rattle.allocator_app.proofs.Spelling.{same_members}
use Rattle.allocator_app.proofs.words.read_members.Goals as goal

pub returns-then-not-are_members-clause-none : goal.returns-then-not-are_members-clause-none
returns-then-not-are_members-clause-none c = λ none ids members spelled.
    let same = same_members c.in_ok-ids.ids.items ids c.in_ok-ids.ensures.bytes members _ c.in_ok-ids.ensures.some spelled in
    true≢false (sym (c.are_members.ensures.1 (subst AreMembers (sym same ∙ sym c.deref.ensures.0) members)) ∙ c.if-not-are_members.true)

pub returns-clause-only : goal.returns-clause-only
returns-clause-only c = λ ids members spelled.
    same_members c.in_ok-ids.ids.items ids c.in_ok-ids.ensures.bytes members _ c.in_ok-ids.ensures.some spelled
