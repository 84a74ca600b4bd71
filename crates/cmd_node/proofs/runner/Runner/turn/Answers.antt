use Rattle.std.proofs.Common.{ap, ◌∙◌, subst, inl}
use Rattle.alloc_server.specs.Server.{LeavesSome}
use Rattle.cmd_node.specs.Words.{next_words, word_of}
use Rattle.alloc_spec.specs.Step.{Tick}
use Rattle.cmd_node.specs.Puts.{step_puts}
use Rattle.cmd_node.specs.Stands.{IsTurning}
use Rattle.cmd_node.specs.Turn.{turn_after_hearing, turn_after_step, turn_after_tick, turn}
use Rattle.cmd_node.specs.declared.fault.Fault.TheVariants.{AnotherLog, Link}
use Rattle.cmd_node.proofs.Ending.{if_err}
use Rattle.cmd_node.proofs.Quiet.{unless_failed}
use Rattle.cmd_node.proofs.Lists.{on_err, on_ok, on_ok_always, same_error}
use Rattle.cmd_node.proofs.Parts.{cut_still, next_word, turn_cut}
use Rattle.cmd_node.proofs.runner.Runner.turn.Goals as goal

pub returns-clause-turned : goal.returns-clause-turned
unfolding turn
returns-clause-turned g c = on_ok c.send.result (λ sends t is.
    let coming = g.L.Link.coming c.args.link.now in
    let sent = g.L.Link.sent c.args.link.now in
    let word = c.next-word.ensures.word ∙ ap word_of (c.next-word.ensures.moved ∙ ap next_words is.running.words) in
    let before = record t { running = record t.running { words = next_words t.running.words } } in
    let stepped = c.in_ok-step.ensures.stepped before coming sent (next_word is c.next-word.ensures.moved) in
    let ticked = subst (λ w. IsTurning c.step.new.self coming sent c.step.new.steps (turn_after_step (Tick c.args.now w) before)) word stepped in
    let ticked_to = turn_after_step (Tick c.args.now (word_of (next_words t.running.words))) before in
    sends (turn_after_hearing c.args.now ticked_to) c.hear.new.steps (c.in_ok-hear.ensures.heard ticked_to ticked)) c.send.ensures.sent

pub returns-clause-uncalled : goal.returns-clause-uncalled
returns-clause-uncalled g c = on_ok_always c.send.result (λ t is.
    let coming = g.L.Link.coming c.args.link.now in
    let sent = g.L.Link.sent c.args.link.now in
    let word = c.next-word.ensures.word ∙ ap word_of (c.next-word.ensures.moved ∙ ap next_words is.running.words) in
    let before = record t { running = record t.running { words = next_words t.running.words } } in
    let stepped = c.in_ok-step.ensures.stepped before coming sent (next_word is c.next-word.ensures.moved) in
    c.in_ok-hear.ensures.uncalled (turn_after_tick c.args.now t)
    (subst (λ w. IsTurning c.step.new.self coming sent c.step.new.steps (turn_after_step (Tick c.args.now w) before)) word stepped))

pub returns-in_err-hear-clause-called : goal.returns-in_err-hear-clause-called
returns-in_err-hear-clause-called g c = λ id node e.
    let same = same_error c.hear.result c.from_residual-in_err-hear.result c.in_err-hear.field-0.0 (AnotherLog id node) c.in_err-hear.was c.from_residual-in_err-hear.ensures.1 e in
    let called = c.hear.ensures.called id node same in (
      called.0 ∙ c.step.ensures.id,
      λ t is.
          let coming = g.L.Link.coming c.args.link.now in
          let sent = g.L.Link.sent c.args.link.now in
          let word = c.next-word.ensures.word ∙ ap word_of (c.next-word.ensures.moved ∙ ap next_words is.running.words) in
          let before = record t { running = record t.running { words = next_words t.running.words } } in
          let stepped = c.in_ok-step.ensures.stepped before coming sent (next_word is c.next-word.ensures.moved) in
          called.1 (turn_after_tick c.args.now t)
          (subst (λ w. IsTurning c.step.new.self coming sent c.step.new.steps (turn_after_step (Tick c.args.now w) before)) word stepped),
    )

pub returns-clause-works : goal.returns-clause-works
returns-clause-works g c = on_ok_always c.send.result (c.send.ensures.works (c.in_ok-hear.ensures.works c.in_ok-step.ensures.works))

pub returns-clause-unsent : goal.returns-clause-unsent
returns-clause-unsent g c = on_err c.send.result (λ same. same ∙ c.hear.ensures.sent) c.send.ensures.unsent

pub returns-clause-standing : goal.returns-clause-standing
returns-clause-standing g c = on_ok_always c.send.result (λ s. c.send.ensures.standing (c.in_ok-hear.ensures.standing (c.in_ok-step.ensures.standing s)))

pub returns-clause-link_quiet : goal.returns-clause-link_quiet
returns-clause-link_quiet g c = λ other.
    unless_failed c.send.result (Link c.args.self.now.id) (if_err c.send.result (λ f e. e ∙ ap Link (c.hear.ensures.id ∙ c.step.ensures.id)) c.send.ensures.failed) c.send.ensures.quiet other
    ∙ c.in_ok-hear.ensures.link_quiet (λ e. absurd (cc (e)))

pub returns-clause-disk_quiet : goal.returns-clause-disk_quiet
returns-clause-disk_quiet g c = λ other s.
    ap g.D.Disk.faults c.send.ensures.disk ∙ c.in_ok-hear.ensures.disk_quiet (λ e. absurd (cc (e))) (c.in_ok-step.ensures.standing s) ∙ c.in_ok-step.ensures.quiet s

pub returns-in_err-step-clause-cut : goal.returns-in_err-step-clause-cut
returns-in_err-step-clause-cut g c = λ t is.
    let coming = g.L.Link.coming c.args.link.now in
    let sent = g.L.Link.sent c.args.link.now in
    let word = c.next-word.ensures.word ∙ ap word_of (c.next-word.ensures.moved ∙ ap next_words is.running.words) in
    let before = record t { running = record t.running { words = next_words t.running.words } } in
    inl (
      is.running.coming_is,
      subst (λ w. LeavesSome c.args.self.now.server c.step.new.self.server (step_puts (Tick c.args.now w) t)) word
          (c.step.ensures.leaves before coming sent (next_word is c.next-word.ensures.moved)),
    )

pub returns-in_err-hear-clause-cut : goal.returns-in_err-hear-clause-cut
returns-in_err-hear-clause-cut g c = λ t is.
    let coming = g.L.Link.coming c.args.link.now in
    let sent = g.L.Link.sent c.args.link.now in
    let word = c.next-word.ensures.word ∙ ap word_of (c.next-word.ensures.moved ∙ ap next_words is.running.words) in
    let before = record t { running = record t.running { words = next_words t.running.words } } in
    let begun = next_word is c.next-word.ensures.moved in
    turn_cut c.args.self.now.server c.step.new.self.server c.hear.new.self.server c.args.now t (g.L.Link.coming c.hear.new.link) c.next-word.result word
    (c.in_ok-step.ensures.put before coming sent begun) c.step.ensures.tells (c.hear.ensures.cut (turn_after_tick c.args.now t)
    (subst (λ w. IsTurning c.step.new.self coming sent c.step.new.steps (turn_after_step (Tick c.args.now w) before)) word (c.in_ok-step.ensures.stepped before coming sent begun)))

pub returns-clause-cut : goal.returns-clause-cut
returns-clause-cut g c = λ t is.
    let coming = g.L.Link.coming c.args.link.now in
    let sent = g.L.Link.sent c.args.link.now in
    let word = c.next-word.ensures.word ∙ ap word_of (c.next-word.ensures.moved ∙ ap next_words is.running.words) in
    let before = record t { running = record t.running { words = next_words t.running.words } } in
    let begun = next_word is c.next-word.ensures.moved in
    let cut = turn_cut c.args.self.now.server c.step.new.self.server c.hear.new.self.server c.args.now t (g.L.Link.coming c.hear.new.link) c.next-word.result word
    (c.in_ok-step.ensures.put before coming sent begun) c.step.ensures.tells (c.hear.ensures.cut (turn_after_tick c.args.now t)
    (subst (λ w. IsTurning c.step.new.self coming sent c.step.new.steps (turn_after_step (Tick c.args.now w) before)) word (c.in_ok-step.ensures.stepped before coming sent begun))) in
    cut_still c.args.self.now.server c.hear.new.self.server c.send.new.self.server c.args.now t (g.L.Link.coming c.hear.new.link) (g.L.Link.coming c.send.new.link)
    c.send.ensures.coming c.send.ensures.disk cut
