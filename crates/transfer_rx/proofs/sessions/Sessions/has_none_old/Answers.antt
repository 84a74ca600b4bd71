use Rattle.std.proofs.Common.{◌≤◌, ◌-◌, arith}
use Rattle.std.proofs.lemmas.Bool.{leb-true}
use Rattle.transfer_rx.proofs.Ages.{all_stay}
use Rattle.transfer_rx.proofs.sessions.Sessions.has_none_old.Goals as goal

pub returns-clause-places : goal.returns-clause-places
returns-clause-places g c = λ test places keeps.
    let recent : c.args.now - c.args.self.now.oldest ≤ 2000 = omega (arith, leb-true c.saturating_sub.result 2000 test, c.saturating_sub.ensures) in
    all_stay c.args.now c.args.self.now.oldest c.args.self.now.progress c.args.self.now.pool places recent c.args.self.now.since keeps
