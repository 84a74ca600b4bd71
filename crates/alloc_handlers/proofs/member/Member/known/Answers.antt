use Rattle.std.proofs.Common.{Bool, true, false, ◌||◌, sym, ap, ◌∙◌}
use Rattle.alloc_handlers.proofs.Words.{durable_state, fill_by_all, get_or-replicate, is_known, is_on_list, is_recorded, member_list}
use Rattle.alloc_handlers.proofs.Recorded.{knows, not_recorded, unmarked}
use Rattle.alloc_handlers.proofs.member.Member.known.Goals as goal

pub returns-clause-known : goal.returns-clause-known
returns-clause-known g c t h =
    fill_by_all (is_known t) c.mark_known.new.marked 128 false c.mark_known.array_long (λ node below.
    let listed = is_on_list (member_list c.args.self.now.cluster) node in
    let recorded = is_recorded (durable_state c.args.self.now.durable).log node in
    c.mark_known.ensures node false below ∙ ap (λ (b : Bool). listed || (recorded || b)) (get_or-replicate 128 node false false below)
    ∙ unmarked listed recorded ∙ sym (knows c.args.self.now t node h))

pub returns-clause-free : goal.returns-clause-free
returns-clause-free g c node below not =
    not_recorded (durable_state c.args.self.now.durable).log node (is_on_list (member_list c.args.self.now.cluster) node) _ _ (c.mark_known.ensures node true below) not
