use Rattle.std.proofs.Common.{rules, ◌≡◌, ◌∷◌, ℕ, List, true, refl, sym, ap, ◌∙◌}
use Rattle.std.specs.Result.{result_err}
use Rattle.raft_model.specs.Handlers.{server_after}
use Rattle.raft_model.specs.Moves.Move.{TimeOut}
use Rattle.raft_model.specs.Server.{Store}
use Rattle.raft_core.specs.Times.{given_tick, times_after}
use Rattle.raft_core.proofs.Blanks.{blank_behind_move, handed_on, nothing_behind_move}
use Rattle.raft_core.proofs.Ticking.{no_leader_stands, stands, stays, ticked}
use Rattle.raft_core.proofs.raft.Raft.tick.Goals as goal

pub returns-then-not-may_stand-clause-moves : goal.returns-then-not-may_stand-clause-moves
returns-then-not-may_stand-clause-moves g c = λ members n p t st.
    let raft = c.args.self.now in
    let same = c.may_stand.ensures.stands p t st.role (ap (λ (z : Store). z.term) st.store ∙ sym c.term.ensures) st.since st.word in
    stays members (raft.me ∷ c.args.peers.now) raft.me n (given_tick c.args.now c.args.word) p t c.args.complete c.args.d.now raft st (sym same ∙ c.if-not-may_stand.true) (c.puts_in_turn.ensures.nothing c.args.d.now)

pub returns-in_err-begin_election-clause-moves : goal.returns-in_err-begin_election-clause-moves
returns-in_err-begin_election-clause-moves g c = λ members n p t st.
    let raft = c.args.self.now in
    let list : List ℕ = raft.me ∷ c.args.peers.now in
    let old = c.args.d.now in
    let new = c.begin_election.new.d in
    let given = given_tick c.args.now c.args.word in
    let fault = c.in_err-begin_election.field-0.0 in
    let same = c.may_stand.ensures.stands p t st.role (ap (λ (z : Store). z.term) st.store ∙ sym c.term.ensures) st.since st.word in
    ticked members list raft.me n given p t c.args.complete old new _ _ (sym same ∙ c.if-not-may_stand.false)
    (handed_on list raft.me n given _ p t old new _ _ fault (search rules)
    (nothing_behind_move list raft.me n given TimeOut p t old new c.begin_election.new.self _ fault (λ xs ys. c.puts_in_turn.ensures.cut_off xs ys old new fault) (c.in_err-begin_election.ensures.moves members n p t st)))

pub returns-clause-moves : goal.returns-clause-moves
returns-clause-moves g c = λ members n p t st.
    let raft = c.args.self.now in
    let list : List ℕ = raft.me ∷ c.args.peers.now in
    let old = c.args.d.now in
    let mid = c.begin_election.new.d in
    let new = c.add_blank_if_due.new.d in
    let given = given_tick c.args.now c.args.word in
    let failed = result_err c.add_blank_if_due.result in
    let same = c.may_stand.ensures.stands p t st.role (ap (λ (z : Store). z.term) st.store ∙ sym c.term.ensures) st.since st.word in
    let yes_stand : stands c.args.complete given.now p t ≡ true = sym same ∙ c.if-not-may_stand.false in
    let first = c.in_ok-begin_election.ensures.moves members n p t st in
    ticked members list raft.me n given p t c.args.complete old new _ failed yes_stand
    (blank_behind_move list raft.me n given TimeOut p t old new c.begin_election.new.self _ mid failed (λ xs ys. c.puts_in_turn.ensures.joined xs ys old mid new failed) first c.in_ok-begin_election.ensures.me
    (c.add_blank_if_due.ensures.moves list n (server_after list raft.me n p TimeOut) (times_after list raft.me given p TimeOut t) first.after given refl p (no_leader_stands c.args.complete given.now p t yes_stand)))
