use Rattle.std.proofs.Common.{◌≡◌, length, rules}
use Rattle.transfer_rx.proofs.Chains.{have_chains}
use Rattle.transfer_rx.proofs.receiver.Receiver.chain_of.Goals as goal

pub returns-clause-chains : goal.returns-clause-chains
returns-clause-chains g c = λ sessions k.
    let size : length c.args.self.now.sessions.progress ≡ g.row.S = search rules in
    have_chains g.row.S c.args.self.now.sessions.progress c.args.self.now.sessions.pool sessions k c.args.self.now.sessions.filled size c.args.self.now.sessions.chains
