use Rattle.std.proofs.Common.{rules, arith, ap}
use Rattle.raft_model.specs.Server.{Store}
use Rattle.raft_core.proofs.Committing.{greatest, next_down}
use Rattle.raft_core.proofs.raft.Raft.commit_index.Goals as goal

pub returns-then-can_commit-clause-found : goal.returns-then-can_commit-clause-found
returns-then-can_commit-clause-found g c = λ members p t st.
    (search rules, greatest members c.args.self.now.me p c.loop-place.place ((c.can_commit.ensures members p t st).0 (search rules)) (c.loop-place.invariant.none members p t st))

pub loop-place-preserved : goal.loop-place-preserved
loop-place-preserved g c = record {
  inside = search rules;
  none = λ members p t st. next_down members c.args.self.now.me p c.loop-place.place _ (omega arith) (λ can. let h = (c.can_commit.ensures members p t st).1 can in search (rules, h)) (c.loop-place.invariant.none members p t st);
}

pub returns-clause-none : goal.returns-clause-none
returns-clause-none g c = λ none members p t st leads place can.
    let same = ap (λ (z : Store). z.commit) st.store in
    c.loop-place.invariant.none members p t st place (omega (arith, can.above, same, c.loop-place-test.false, c.commit.ensures.commit)) can
