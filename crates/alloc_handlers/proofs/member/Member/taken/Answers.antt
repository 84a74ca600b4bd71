use Rattle.std.proofs.Common.{ℕ, Bool, true, false, ◌||◌, sym, ap, ◌∙◌}
use Rattle.alloc_handlers.proofs.Words.{durable_state, fill_by_all, history, is_known, is_on_list, is_online, is_recorded, is_taken, member_list}
use Rattle.alloc_handlers.proofs.Recorded.{knows, marked_in_turn, not_recorded}
use Rattle.alloc_handlers.proofs.member.Member.taken.Goals as goal

pub returns-clause-taken : goal.returns-clause-taken
returns-clause-taken g c t h =
    fill_by_all (is_taken t) c.mark_known.new.marked 128 false c.mark_known.array_long (λ node below.
    let listed = is_on_list (member_list c.args.self.now.cluster) node in
    let recorded = is_recorded (durable_state c.args.self.now.durable).log node in
    let online = is_online (history node t.watch) c.args.self.now.latest in
    c.mark_known.ensures node false below ∙ ap (λ (b : Bool). listed || (recorded || b)) (c.seen-taken.ensures t.watch h.watch node below)
    ∙ marked_in_turn listed recorded online ∙ ap (λ (b : Bool). b || online) (sym (knows c.args.self.now t node h))
    ∙ ap (λ (now : ℕ). is_known t node || is_online (history node t.watch) now) h.now)

pub returns-clause-free : goal.returns-clause-free
returns-clause-free g c node below not =
    not_recorded (durable_state c.args.self.now.durable).log node (is_on_list (member_list c.args.self.now.cluster) node) _ _ (c.mark_known.ensures node true below) not
