use Rattle.std.proofs.Common.{rules, refl, sym, ◌∙◌}
use Rattle.std.specs.Prelude.{Some, None}
use Rattle.raft_log.specs.DurableViews.{durable_state}
use Rattle.raft_model.specs.Handlers.{server_after}
use Rattle.raft_model.specs.Moves.Move.{TakeVoteAnswer}
use Rattle.raft_core.specs.Handled.{answer_of}
use Rattle.raft_core.specs.Times.{given_at, times_after}
use Rattle.raft_core.proofs.Blanks.{blank_behind_move, handed_on, leads_alike, nothing_behind_move}
use Rattle.raft_core.proofs.Puts.{faults_at}
use Rattle.raft_core.proofs.raft.Raft.on_vote_answer.Goals as goal

pub returns-then-not-awaits_vote-clause-moves : goal.returns-then-not-awaits_vote-clause-moves
returns-then-not-awaits_vote-clause-moves g c = λ members n p t st awaited step r is.
    absurd (cc (sym (sym (c.awaits_vote.ensures members (durable_state c.args.d.now) p t st) ∙ c.if-not-awaits_vote.true) ∙ awaited))

pub returns-in_err-take_vote_answer-clause-refused : goal.returns-in_err-take_vote_answer-clause-refused
returns-in_err-take_vote_answer-clause-refused g c = λ members p t st not.
    absurd (cc (sym not ∙ (sym (c.awaits_vote.ensures members (durable_state c.args.d.now) p t st) ∙ c.if-not-awaits_vote.false)))

pub returns-in_err-take_vote_answer-clause-moves : goal.returns-in_err-take_vote_answer-clause-moves
returns-in_err-take_vote_answer-clause-moves g c = λ members n p t st awaited step r is.
    let raft = c.args.self.now in
    let old = c.args.d.now in
    let new = c.take_vote_answer.new.d in
    let fault = c.in_err-take_vote_answer.field-0.0 in
    let a = answer_of step c.args.from r c.args.ans.now.term c.args.ans.now.granted in (
      handed_on members raft.me n (given_at c.args.now) _ p t old new _ _ fault (search rules)
          (nothing_behind_move members raft.me n (given_at c.args.now) (TakeVoteAnswer a) p t old new c.take_vote_answer.new.self _ fault (λ xs ys. c.puts_in_turn.ensures.cut_off xs ys old new fault)
          (c.in_err-take_vote_answer.ensures.moves members n p t st step r)),
      search rules,
    )

pub returns-in_err-add_blank_if_due-clause-refused : goal.returns-in_err-add_blank_if_due-clause-refused
returns-in_err-add_blank_if_due-clause-refused g c = λ members p t st not.
    absurd (cc (sym not ∙ (sym (c.awaits_vote.ensures members (durable_state c.args.d.now) p t st) ∙ c.if-not-awaits_vote.false)))

pub returns-in_err-add_blank_if_due-clause-moves : goal.returns-in_err-add_blank_if_due-clause-moves
returns-in_err-add_blank_if_due-clause-moves g c = λ members n p t st awaited step r is.
    let raft = c.args.self.now in
    let old = c.args.d.now in
    let mid = c.take_vote_answer.new.d in
    let new = c.add_blank_if_due.new.d in
    let given = given_at c.args.now in
    let fault = c.in_err-add_blank_if_due.field-0.0 in
    let a = answer_of step c.args.from r c.args.ans.now.term c.args.ans.now.granted in
    let first = c.in_ok-take_vote_answer.ensures.moves members n p t st step r in (
      handed_on members raft.me n given _ p t old new _ _ fault (search rules)
          (blank_behind_move members raft.me n given (TakeVoteAnswer a) p t old new c.take_vote_answer.new.self _ mid (Some fault) (λ xs ys. c.puts_in_turn.ensures.joined xs ys old mid new (Some fault)) first c.in_ok-take_vote_answer.ensures.me
          (c.in_err-add_blank_if_due.ensures.moves members n (server_after members raft.me n p (TakeVoteAnswer a)) (times_after members raft.me given p (TakeVoteAnswer a) t) first.after given refl p
          (leads_alike p raft.role _ st.role (search rules)))),
      search rules,
    )

pub returns-clause-refused : goal.returns-clause-refused
returns-clause-refused g c = λ members p t st not.
    absurd (cc (sym not ∙ (sym (c.awaits_vote.ensures members (durable_state c.args.d.now) p t st) ∙ c.if-not-awaits_vote.false)))

pub returns-clause-moves : goal.returns-clause-moves
returns-clause-moves g c = λ members n p t st awaited step r is.
    let raft = c.args.self.now in
    let old = c.args.d.now in
    let mid = c.take_vote_answer.new.d in
    let new = c.add_blank_if_due.new.d in
    let given = given_at c.args.now in
    let a = answer_of step c.args.from r c.args.ans.now.term c.args.ans.now.granted in
    let first = c.in_ok-take_vote_answer.ensures.moves members n p t st step r in (
      blank_behind_move members raft.me n given (TakeVoteAnswer a) p t old new c.take_vote_answer.new.self _ mid None (λ xs ys. c.puts_in_turn.ensures.joined xs ys old mid new None) first c.in_ok-take_vote_answer.ensures.me
          (c.in_ok-add_blank_if_due.ensures.moves members n (server_after members raft.me n p (TakeVoteAnswer a)) (times_after members raft.me given p (TakeVoteAnswer a) t) first.after given refl p
          (leads_alike p raft.role _ st.role (search rules))),
      refl,
    )

pub returns-in_err-add_blank_if_due-clause-fault : goal.returns-in_err-add_blank_if_due-clause-fault
returns-in_err-add_blank_if_due-clause-fault g c =
    faults_at _ c.add_blank_if_due.new.d c.in_err-add_blank_if_due.field-0.0 _ (search rules)
    (c.puts_in_turn.ensures.faults c.args.d.now c.take_vote_answer.new.d c.add_blank_if_due.new.d _ c.in_ok-take_vote_answer.ensures.fault c.in_err-add_blank_if_due.ensures.fault)

pub returns-clause-fault : goal.returns-clause-fault
returns-clause-fault g c = c.puts_in_turn.ensures.faults c.args.d.now c.take_vote_answer.new.d c.add_blank_if_due.new.d _ c.in_ok-take_vote_answer.ensures.fault c.in_ok-add_blank_if_due.ensures.fault
