use Rattle.std.proofs.Common.{rules, ◌≡◌, ◌∙◌, true}
use Rattle.raft_core.proofs.Blanks.{heard_moment}
use Rattle.raft_core.proofs.raft.Raft.is_moment.Goals as goal

pub returns-then-self : goal.returns-then-self
returns-then-self g c = λ members p t st before led.
    let waits : c.args.self.now.waits ≡ true = search rules in
    heard_moment members c.args.self.now.me t before p c.is_heard.result (st.waits ∙ waits) (c.is_heard.ensures members p t st)
