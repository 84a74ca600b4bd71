use Rattle.std.proofs.Common.{◌≡◌, suc, ◌∷◌, [], ◌++◌, length, ap, ◌∙◌, subst, arith}
use Rattle.std.specs.Prelude.{Ok}
use Rattle.raft_core.specs.StoredPuts.{stored_puts}
use Rattle.raft_log.specs.Stored.{after_puts}
use Rattle.alloc_spec.specs.Step.{step as step_of}
use Rattle.alloc_spec.specs.AllocatorState.{view_of}
use Rattle.replay_text.specs.ReportText.{text_of_line}
use Rattle.alloc_server.specs.Server.{HasPut, LeavesSome, StepsTo, event_of}
use Rattle.cmd_node.specs.Steps.{Keeps}
use Rattle.cmd_node.proofs.Turning.{told_same}
use Rattle.cmd_node.proofs.runner.Runner.step.Goals as goal

pub returns-in-Ok-clause-stepped : goal.returns-in-Ok-clause-stepped
returns-in-Ok-clause-stepped g c = λ t coming sent is.
    let number = suc (length t.lines) in
    let count = is.lines.made in
    let at : c.next_number.result ≡ number = omega (arith, c.next_number.ensures, count) in
    let step_result = step_of t.running.allocator number (event_of c.args.event) in
    let does = subst (λ n. StepsTo c.args.self.now.server c.step.new.self (step_of t.running.allocator n (event_of c.args.event)) (Ok c.in-Ok.outcome)) at
    (c.in-Ok.ensures.steps t.running.allocator is.running.server) in
    let line = ap (text_of_line number) (c.told_of_step.ensures ∙ told_same c.args.self.now.id t.running.id c.view.result (view_of step_result.step_state.allocator) c.in-Ok.outcome.seen
    c.in-Ok.outcome.sent.items step_result is.running.id (c.view.ensures.stands step_result.step_state.allocator does.stands) does.tells.seen does.tells.sent) in
    record {
      running = record {
        id = is.running.id;
        server = does.stands;
        stored = does.put.state ∙ ap (λ s. after_puts (stored_puts step_result.step_state.puts s) s) is.running.stored;
        words = is.running.words;
        coming_is = is.running.coming_is;
        sent_is = is.running.sent_is;
      };
      lines = subst (λ l. Keeps c.push.new.self (t.lines ++ l ∷ [])) line (c.push.ensures.keeps t.lines is.lines);
    }

pub returns-in-Ok-clause-put : goal.returns-in-Ok-clause-put
returns-in-Ok-clause-put g c = λ t coming sent is.
    let count = is.lines.made in
    let at : c.next_number.result ≡ suc (length t.lines) = omega (arith, c.next_number.ensures, count) in
    subst (λ n. HasPut c.args.self.now.server c.step.new.self (step_of t.running.allocator n (event_of c.args.event)).step_state.puts) at
    (c.in-Ok.ensures.steps t.running.allocator is.running.server).put

pub returns-in-Ok-clause-leaves : goal.returns-in-Ok-clause-leaves
returns-in-Ok-clause-leaves g c = λ t coming sent is.
    let count = is.lines.made in
    let at : c.next_number.result ≡ suc (length t.lines) = omega (arith, c.next_number.ensures, count) in
    subst (λ n. LeavesSome c.args.self.now.server c.step.new.self (step_of t.running.allocator n (event_of c.args.event)).step_state.puts) at
    (c.in-Ok.ensures.steps t.running.allocator is.running.server).leaves

pub returns-in-Err-clause-leaves : goal.returns-in-Err-clause-leaves
returns-in-Err-clause-leaves g c = λ t coming sent is.
    let count = is.lines.made in
    let at : c.next_number.result ≡ suc (length t.lines) = omega (arith, c.next_number.ensures, count) in
    subst (λ n. LeavesSome c.args.self.now.server c.step.new.self (step_of t.running.allocator n (event_of c.args.event)).step_state.puts) at
    (c.in-Err.ensures.steps t.running.allocator is.running.server).leaves

pub returns-in-Ok-clause-standing : goal.returns-in-Ok-clause-standing
returns-in-Ok-clause-standing g c = λ s. (_, (c.in-Ok.ensures.steps s.0 s.1).stands)

pub returns-in-Ok-clause-quiet : goal.returns-in-Ok-clause-quiet
returns-in-Ok-clause-quiet g c = λ s. c.calls_that_succeed_count_no_fault.ensures _ _ _ (c.in-Ok.ensures.steps s.0 s.1).made
