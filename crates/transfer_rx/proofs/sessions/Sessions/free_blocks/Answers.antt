use Rattle.std.proofs.Common.{◌≡◌, length, sym, ◌∙◌, arith, rules}
use Rattle.transfer_rx.proofs.Filled.{same_blocks}
use Rattle.transfer_rx.proofs.sessions.Sessions.free_blocks.Goals as goal

pub returns-clause-free : goal.returns-clause-free
returns-clause-free g c = λ places s.
    let size : length c.args.self.now.progress ≡ g.row.S = search rules in
    let used = same_blocks c.args.self.now.progress c.args.self.now.pool places s c.args.self.now.filled (c.args.self.now.chains ∙ sym size) in
    omega (arith, c.free.ensures.free)
