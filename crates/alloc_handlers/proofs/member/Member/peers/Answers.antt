use Rattle.std.proofs.Common.{◌≤◌, ◌+◌, ℕ, sym, subst}
use Rattle.alloc_handlers.proofs.Peers.{others_at}
use Rattle.alloc_handlers.proofs.member.Member.peers.Goals as goal

pub returns-clause-devices : goal.returns-clause-devices
returns-clause-devices g c i below =
    let at = others_at c.members-members.result.now c.in-Ok.peers.items c.in-Ok.ensures.0 i below in
    subst (λ (n : ℕ). n ≤ 125) (sym at.0) (c.members-members.ensures.devices (i + 1) at.1)

pub returns-clause-numbered : goal.returns-clause-numbered
returns-clause-numbered g c i below =
    let at = others_at c.members-members.result.now c.in-Ok.peers.items c.in-Ok.ensures.0 i below in
    subst (λ (n : ℕ). 1 ≤ n) (sym at.0) (c.members-members.ensures.numbered (i + 1) at.1)
