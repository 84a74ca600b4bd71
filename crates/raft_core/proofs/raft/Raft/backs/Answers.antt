use Rattle.raft_core.proofs.Committing.{itself_backs}
use Rattle.raft_core.proofs.raft.Raft.backs.Goals as goal

pub returns-then-node-self : goal.returns-then-node-self
returns-then-node-self c = λ test says. itself_backs c.args.self.now.me c.args.self.now.peers c.args.cause c.in-Place.place c.args.node test says c.in-Place.is c.if-node-self.true c.requires
