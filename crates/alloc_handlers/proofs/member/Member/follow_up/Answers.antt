use Rattle.std.proofs.Common.{ap, subst, ◌∙◌, List, ℕ, None}
use Rattle.alloc_handlers.proofs.Words.{Alloc, IsInStep, pair_in, with_transfer}
use Rattle.alloc_handlers.proofs.Giving.{nobody_is_given}
use Rattle.alloc_handlers.proofs.member.Member.follow_up.Goals as goal

pub returns-clause-step_state : goal.returns-clause-step_state
returns-clause-step_state g c start step_state h =
    subst (λ (payload : List ℕ). IsInStep start c.send.new.self (with_transfer c.args.self.now.offered.step Alloc 0 payload None step_state)) c.allocation.ensures
    (c.send.ensures.step_state (ap (λ (payload : List ℕ). pair_in Alloc payload) c.allocation.ensures ∙ nobody_is_given c.args.bytes.now c.requires.size) None start step_state h)
