use Rattle.std.proofs.Common.{rules, [], ◌∷◌, true, false, Some, None, refl}
use Rattle.raft_log.specs.declared.origin.TheConstants.{LEADER}
use Rattle.raft_model.specs.Server.Put.{PutCommit}
use Rattle.raft_core.specs.StoredPuts.{with_origin}
use Rattle.raft_core.proofs.Committing.{commit_failed, committed, no_index, nothing_committed}
use Rattle.raft_core.proofs.Puts.{does}
use Rattle.raft_core.proofs.raft.Raft.commit.Goals as goal

pub returns-in_err-set_commit-clause-moves : goal.returns-in_err-set_commit-clause-moves
returns-in_err-set_commit-clause-moves g c = λ members n p t st given.
    let found = c.in-Some.ensures.found members p t st in
    commit_failed members c.args.self.now.me n given p t c.args.d.now c.args.self.now st c.in-Some.place found.0 (c.law_decisions.ensures.one_commit members c.args.self.now.me p c.in-Some.place found.1) _ c.in_err-set_commit.field-0.0 _ (search rules)
    (does (with_origin LEADER (PutCommit c.in-Some.place ∷ [])) _ c.args.d.now _ false (Some c.in_err-set_commit.field-0.0) tt refl refl c.in_err-set_commit.ensures.puts c.in_err-set_commit.ensures.fault)

pub returns-in_ok-set_commit-clause-moves : goal.returns-in_ok-set_commit-clause-moves
returns-in_ok-set_commit-clause-moves g c = λ members n p t st given.
    let found = c.in-Some.ensures.found members p t st in
    committed members c.args.self.now.me n given p t c.args.d.now c.args.self.now st c.in-Some.place found.0 (c.law_decisions.ensures.one_commit members c.args.self.now.me p c.in-Some.place found.1) _
    (does (with_origin LEADER (PutCommit c.in-Some.place ∷ [])) _ c.args.d.now _ true None tt refl refl c.in_ok-set_commit.ensures.puts c.in_ok-set_commit.ensures.fault)

pub returns-in_default-clause-moves : goal.returns-in_default-clause-moves
returns-in_default-clause-moves g c = λ members n p t st given.
    nothing_committed members c.args.self.now.me n given p t c.args.d.now c.args.self.now st
    (λ leads. no_index members c.args.self.now.me p (c.law_decisions.ensures.commit members c.args.self.now.me p) (c.commit_index.ensures.none (search rules) members p t st leads)) (c.puts_in_turn.ensures.nothing c.args.d.now)
