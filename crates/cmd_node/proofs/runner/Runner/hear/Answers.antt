use Rattle.std.proofs.Common.{◌≡◌, [], ap, ◌∙◌, sym, subst, inl, inr}
use Rattle.std.specs.Prelude.{Some, None}
use Rattle.alloc_server.specs.Server.{LeavesSome, durable_of, event_of}
use Rattle.outside.specs.Traffic.{items_behind, next_item}
use Rattle.cmd_node.specs.Another.{event_caller}
use Rattle.cmd_node.specs.Frames.{event_in}
use Rattle.cmd_node.specs.Puts.{heard_puts, taken_puts}
use Rattle.cmd_node.specs.Stands.{IsTurning}
use Rattle.cmd_node.specs.Turn.{turn_after_taking}
use Rattle.cmd_node.proofs.Lists.{on_ok}
use Rattle.cmd_node.proofs.Parts.{leaves_at_once}
use Rattle.cmd_node.proofs.Turning.{received, unchanged}
use Rattle.cmd_node.proofs.runner.Runner.hear.Goals as goal

pub returns-in-Some-clause-heard : goal.returns-in-Some-clause-heard
returns-in-Some-clause-heard g c = on_ok c.take.result (λ stepped t is.
    let coming = g.L.Link.coming in
    let sent = g.L.Link.sent in
    let told = received c.in-Ok.item (coming c.args.link.now) (coming c.recv.new.self) t.running.coming c.in-Ok.ensures.items is.running.coming_is in
    let after = record t { running = record t.running { coming = items_behind t.running.coming } } in
    let event : event_in c.args.now (next_item t.running.coming) ≡ Some (event_of c.in-Some.event) =
    ap (event_in c.args.now) (sym told.0) ∙ sym c.in-Some.ensures in
    subst (λ e. IsTurning c.take.new.self (coming c.recv.new.self) (sent c.recv.new.self) c.take.new.steps (turn_after_taking e after)) (sym event)
    (stepped after (coming c.recv.new.self) (sent c.recv.new.self) (record {
      running = record {
        id = is.running.id;
        server = is.running.server;
        stored = is.running.stored;
        words = is.running.words;
        coming_is = told.1;
        sent_is = c.in-Ok.ensures.sent ∙ is.running.sent_is;
      };
      lines = is.lines;
    }))) c.take.ensures.stepped

pub returns-in-None-clause-heard : goal.returns-in-None-clause-heard
returns-in-None-clause-heard g c = λ t is.
    let coming = g.L.Link.coming in
    let sent = g.L.Link.sent in
    let told = received c.in-Ok.item (coming c.args.link.now) (coming c.recv.new.self) t.running.coming c.in-Ok.ensures.items is.running.coming_is in
    let after = record t { running = record t.running { coming = items_behind t.running.coming } } in
    let event : event_in c.args.now (next_item t.running.coming) ≡ None =
    ap (event_in c.args.now) (sym told.0) ∙ sym c.in-None.ensures in
    subst (λ e. IsTurning c.args.self.now (coming c.recv.new.self) (sent c.recv.new.self) c.args.steps.now (turn_after_taking e after)) (sym event)
    (record {
      running = record {
        id = is.running.id;
        server = is.running.server;
        stored = is.running.stored;
        words = is.running.words;
        coming_is = told.1;
        sent_is = c.in-Ok.ensures.sent ∙ is.running.sent_is;
      };
      lines = is.lines;
    })

pub returns-in-Some-clause-cut : goal.returns-in-Some-clause-cut
returns-in-Some-clause-cut g c = λ t is.
    let coming = g.L.Link.coming in
    let sent = g.L.Link.sent in
    let told = received c.in-Ok.item (coming c.args.link.now) (coming c.recv.new.self) t.running.coming c.in-Ok.ensures.items is.running.coming_is in
    let event : event_in c.args.now (next_item t.running.coming) ≡ Some (event_of c.in-Some.event) =
    ap (event_in c.args.now) (sym told.0) ∙ sym c.in-Some.ensures in
    inr (
      told.1,
      subst (λ e. LeavesSome c.args.self.now.server c.take.new.self.server (taken_puts e t)) (sym event)
          (c.take.ensures.leaves t (coming c.args.link.now) (sent c.args.link.now) is),
    )

pub returns-in-None-clause-cut : goal.returns-in-None-clause-cut
returns-in-None-clause-cut g c = λ t is.
    let told = received c.in-Ok.item (g.L.Link.coming c.args.link.now) (g.L.Link.coming c.recv.new.self) t.running.coming c.in-Ok.ensures.items is.running.coming_is in
    inr (
      told.1,
      leaves_at_once c.args.self.now.server (heard_puts c.args.now t)
          (c.a_state_is_durable.ensures (durable_of c.args.self.now.server) is.running.server.works),
    )

pub returns-in-Err-clause-cut : goal.returns-in-Err-clause-cut
returns-in-Err-clause-cut g c = λ t is.
    inl (
      unchanged (g.L.Link.coming c.args.link.now) (g.L.Link.coming c.recv.new.self) c.in-Err.ensures.items ∙ is.running.coming_is,
      leaves_at_once c.args.self.now.server [] (c.a_state_is_durable.ensures (durable_of c.args.self.now.server) is.running.server.works),
    )

pub returns-in-Some-clause-disk_quiet : goal.returns-in-Some-clause-disk_quiet
returns-in-Some-clause-disk_quiet g c = c.take.ensures.disk_quiet

pub returns-in-Some-clause-uncalled : goal.returns-in-Some-clause-uncalled
returns-in-Some-clause-uncalled g c = on_ok c.take.result (λ none t is.
    let told = received c.in-Ok.item (g.L.Link.coming c.args.link.now) (g.L.Link.coming c.recv.new.self) t.running.coming c.in-Ok.ensures.items is.running.coming_is in
    let event : event_in c.args.now (next_item t.running.coming) ≡ Some (event_of c.in-Some.event) =
    ap (event_in c.args.now) (sym told.0) ∙ sym c.in-Some.ensures in
    ap (event_caller t.running.allocator) event ∙ none t.running.allocator is.running.server) c.take.ensures.uncalled

pub returns-in-None-clause-uncalled : goal.returns-in-None-clause-uncalled
returns-in-None-clause-uncalled g c = λ t is.
    let told = received c.in-Ok.item (g.L.Link.coming c.args.link.now) (g.L.Link.coming c.recv.new.self) t.running.coming c.in-Ok.ensures.items is.running.coming_is in
    ap (event_caller t.running.allocator) (ap (event_in c.args.now) (sym told.0) ∙ sym c.in-None.ensures)

pub returns-in-Some-clause-called : goal.returns-in-Some-clause-called
returns-in-Some-clause-called g c = λ id node e.
    let called = c.take.ensures.called id node e in (
      called.0,
      λ t is.
          let told = received c.in-Ok.item (g.L.Link.coming c.args.link.now) (g.L.Link.coming c.recv.new.self) t.running.coming c.in-Ok.ensures.items is.running.coming_is in
          let event : event_in c.args.now (next_item t.running.coming) ≡ Some (event_of c.in-Some.event) =
          ap (event_in c.args.now) (sym told.0) ∙ sym c.in-Some.ensures in
          ap (event_caller t.running.allocator) event ∙ called.1 t.running.allocator is.running.server,
    )
