use Rattle.std.proofs.Common.{◌≡◌, suc, ◌+◌, ◌<◌, ◌++◌, ℕ, List, length, take, drop, append-nil, ap, sym, ◌∙◌, subst, refl, arith}
use Rattle.std.proofs.lemmas.List.{drop_all, take_all}
use Rattle.std.specs.Prelude.{Ok, Err, slice_index_or}
use Rattle.disk_model.specs.declared.disk.Disk.{Ghosts}
use Rattle.cmd_node.specs.Another.{NoneCalls, NoneCallsFor}
use Rattle.cmd_node.specs.Cut.{IsCutTurn}
use Rattle.cmd_node.specs.Runners.{runners_of}
use Rattle.cmd_node.specs.Quiet.{StayQuiet}
use Rattle.cmd_node.specs.Stands.{AreStanding, Stand, closure_of}
use Rattle.cmd_node.specs.Taking.{AreWorking, EndsTurn, KeepsNodes}
use Rattle.cmd_node.specs.Turns.{all_turns, first_turns}
use Rattle.cmd_node.specs.declared.runner.Runner.{Runner}
use Rattle.cmd_node.proofs.Another.{nor_all_next}
use Rattle.cmd_node.proofs.Quiet.{quiet_kept, quiet_then}
use Rattle.cmd_node.proofs.Together.{ends_later, links_kept, links_then, nodes_kept, nodes_then}
use Rattle.cmd_node.proofs.runners.Runners.take_turns.Goals as goal

-- a list that was written through a slice of all of it
whole : {A : Type 0} (n : ℕ) (items new : List A) → n ≡ length items → length new ≡ length items → take n (new ++ drop (length new) items) ≡ new
whole n items new size same =
    ap (λ rest. take n (new ++ rest)) (drop_all (length new) items (omega (arith, same))) ∙ ap (take n) (append-nil new) ∙ take_all n new (omega (arith, size, same))

-- the allocators after a turn, which it took through a slice of all of them
record Taken {D F : Type 0} {disk : Ghosts D} (n : ℕ) (items new : List (Runner D F disk)) : Type 0 where
  nodes : KeepsNodes items new
  same : take n (new ++ drop (length new) items) ≡ new

taken : {D F : Type 0} {disk : Ghosts D} (n : ℕ) (items lent new : List (Runner D F disk))
    → lent ≡ items → length lent ≡ n → KeepsNodes lent new → Taken n items new
taken n items lent new value len kept =
    let nodes = subst (λ l. KeepsNodes l new) value kept in
    let sizes = ap length value in
    record { nodes = nodes; same = whole n items new (omega (arith, len, sizes)) nodes.count }

pub turns-init : goal.turns-init
turns-init g c = record {
  some = omega arith;
  accepts = refl;
  nodes = nodes_kept (runners_of c.args.self.now);
  links = links_kept g.L.Link.faults c.args.links.now;
  working = c.requires.working;
  standing = λ all. all;
  quiet = λ all. quiet_kept g.L.Link.faults (runners_of c.args.self.now) c.args.links.now c.requires.each;
  few = let first = c.requires.first in omega (arith, first);
  turned = λ all is. is;
  uncalled = λ all is n low. absurd (omega (arith, low));
}

pub take_turn-requires-clause-receives : goal.take_turn-requires-clause-receives
take_turn-requires-clause-receives g c = λ i runner within.
    let value = c.as_mut_slice.ensures.value in
    let size = ap length value in
    let inside : i < length (runners_of c.turns.self) = omega (arith, size, within) in
    let same = sym (ap (λ l. closure_of (slice_index_or l i runner)) value ∙ c.turns.self.alike i runner inside ∙ c.turns.invariant.accepts) in
    rw same at c.requires.receives

pub take_turn-requires-clause-working : goal.take_turn-requires-clause-working
take_turn-requires-clause-working g c = subst (λ l. AreWorking l) (sym c.as_mut_slice.ensures.value) c.turns.invariant.working

pub invariant_of-self : goal.invariant_of-self
invariant_of-self g c =
    let value = c.as_mut_slice.ensures.value in
    let items = runners_of c.turns.self in
    let new = c.take_turn.new.runners in
    let went = taken c.turns.self.list.len items _ new value c.as_mut_slice.ensures.len c.take_turn.ensures.nodes in
    record {
      five = let size = ap length went.same in let count = went.nodes.count in let five = c.turns.self.five in omega (arith, size, count, five);
      room = c.turns.self.room;
      alike = λ i runner within.
          let size = ap length went.same in
          let count = went.nodes.count in
          let inside : i < length items = omega (arith, size, count, within) in
          ap (λ l. closure_of (slice_index_or l i runner)) went.same ∙ (went.nodes.each i runner runner inside).accepts ∙ c.turns.self.alike i runner inside;
    }

pub turns-preserved : goal.turns-preserved
turns-preserved g c =
    let so_far = c.turns.invariant in
    let value = c.as_mut_slice.ensures.value in
    let items = runners_of c.turns.self in
    let new = c.take_turn.new.runners in
    let went = taken c.turns.self.list.len items _ new value c.as_mut_slice.ensures.len c.take_turn.ensures.nodes in
    let before = runners_of c.args.self.now in
    let coming = g.L.Link.coming in
    let sent = g.L.Link.sent in
    let readings = g.C.Clock.readings in
    let low = c.turns-test.true in
    record {
      some = omega (arith, low);
      accepts = so_far.accepts;
      nodes = subst (λ l. KeepsNodes before l) (sym went.same) (nodes_then before items new so_far.nodes went.nodes);
      links = links_then g.L.Link.faults c.args.links.now c.turns.links c.take_turn.new.links so_far.links c.take_turn.ensures.links;
      working = subst (λ l. AreWorking l) (sym went.same) c.in-Ok.ensures.working;
      standing = λ all. subst (λ l. AreStanding l) (sym went.same) (c.in-Ok.ensures.standing (subst (λ l. AreStanding l) (sym value) (so_far.standing all)));
      quiet = λ all.
          let turn = c.in-Ok.ensures.quiet (subst (λ l. AreStanding l) (sym value) (so_far.standing all)) in
          let faults = g.L.Link.faults in
          subst (λ l. StayQuiet faults before l c.args.links.now c.take_turn.new.links (Ok tt)) (sym went.same)
          (quiet_then faults before items new c.args.links.now c.turns.links c.take_turn.new.links (Ok tt) so_far.nodes (so_far.quiet all)
          (subst (λ l. StayQuiet faults l new c.turns.links c.take_turn.new.links (Ok tt)) value turn));
      few = let steps = so_far.few in let more = c.take_turn.ensures.few in omega (arith, steps, more);
      turned = λ all is.
          let far = so_far.turned all is in
          let by_then = all_turns (length before) c.turns.taken all in
          let count : length c.as_mut_slice.result.now ≡ length before = ap length value ∙ so_far.nodes.count in
          let now = c.in-Ok.ensures.turned by_then (subst (λ l. Stand coming sent l c.turns.links (readings c.turns.clock) c.turns.steps by_then) (sym value) far) in
          let next : suc c.turns.taken ≡ c.turns.taken + 1 = omega arith in
          subst (λ n. Stand coming sent (take c.turns.self.list.len (new ++ drop (length new) items)) c.take_turn.new.links (readings c.take_turn.new.clock) c.take_turn.new.steps
          (all_turns (length before) n all)) next
          (subst (λ l. Stand coming sent l c.take_turn.new.links (readings c.take_turn.new.clock) c.take_turn.new.steps (first_turns (length before) by_then)) (sym went.same)
          (subst (λ n. Stand coming sent new c.take_turn.new.links (readings c.take_turn.new.clock) c.take_turn.new.steps (first_turns n by_then)) count now));
      uncalled = λ all is.
          let by_then = all_turns (length before) c.turns.taken all in
          let count : length c.as_mut_slice.result.now ≡ length before = ap length value ∙ so_far.nodes.count in
          let none = c.in-Ok.ensures.uncalled by_then (subst (λ l. Stand coming sent l c.turns.links (readings c.turns.clock) c.turns.steps by_then) (sym value) (so_far.turned all is)) in
          nor_all_next (length before) c.turns.taken all (so_far.uncalled all is) (subst (λ n. NoneCalls n by_then) count none);
    }

pub returns-clause-turned : goal.returns-clause-turned
returns-clause-turned g c = λ all is.
    let so_far = c.turns.invariant in
    let high = c.turns-test.false in
    let some = so_far.some in
    let end : c.turns.taken ≡ c.args.turns = omega (arith, some, high) in
    subst (λ n. Stand g.L.Link.coming g.L.Link.sent (runners_of c.turns.self) c.turns.links (g.C.Clock.readings c.turns.clock) c.turns.steps
    (all_turns (length (runners_of c.args.self.now)) n all)) end (so_far.turned all is)

pub returns-clause-uncalled : goal.returns-clause-uncalled
returns-clause-uncalled g c = λ all is.
    let so_far = c.turns.invariant in
    let high = c.turns-test.false in
    let some = so_far.some in
    let end : c.turns.taken ≡ c.args.turns = omega (arith, some, high) in
    subst (λ n. NoneCallsFor (length (runners_of c.args.self.now)) n all) end (so_far.uncalled all is)

pub returns-in-Err : goal.returns-in-Err
returns-in-Err g c =
    let so_far = c.turns.invariant in
    let value = c.as_mut_slice.ensures.value in
    let items = runners_of c.turns.self in
    let new = c.take_turn.new.runners in
    let list = take c.turns.self.list.len (new ++ drop (length new) items) in
    let went = taken c.turns.self.list.len items _ new value c.as_mut_slice.ensures.len c.take_turn.ensures.nodes in
    let before = runners_of c.args.self.now in
    let links_old = c.args.links.now in
    let links = c.take_turn.new.links in
    let coming = g.L.Link.coming in
    let sent = g.L.Link.sent in
    let faults = g.L.Link.faults in
    let readings = g.C.Clock.readings in
    let turn = c.in-Err.ensures in
    let result = Err c.in-Err.fault in
    record {
      turned = tt;
      uncalled = tt;
      cut = λ all is.
          let by_then = all_turns (length before) c.turns.taken all in
          let cut = turn.cut by_then (subst (λ l. Stand coming sent l c.turns.links (readings c.turns.clock) c.turns.steps by_then) (sym value) (so_far.turned all is)) in
          let count : length before ≡ length list = sym (ap length went.same ∙ went.nodes.count ∙ so_far.nodes.count) in
          record {
            taken = c.turns.taken;
            fewer = c.turns-test.true;
            uncalled = subst (λ n. NoneCallsFor n c.turns.taken all) count (so_far.uncalled all is);
            turn = subst (λ n. IsCutTurn coming sent list links (readings c.take_turn.new.clock) (all_turns n c.turns.taken all) c.in-Err.fault) count
                (subst (λ l. IsCutTurn coming sent l links (readings c.take_turn.new.clock) by_then c.in-Err.fault) (sym went.same) cut);
          };
      nodes = subst (λ l. KeepsNodes before l) (sym went.same) (nodes_then before items new so_far.nodes went.nodes);
      links = links_then faults links_old c.turns.links links so_far.links c.take_turn.ensures.links;
      failed = subst (λ l. EndsTurn faults before l links_old links c.in-Err.fault) (sym went.same)
          (ends_later faults before items new links_old c.turns.links links c.in-Err.fault so_far.nodes so_far.links c.requires.each
          (subst (λ l. EndsTurn faults l new c.turns.links links c.in-Err.fault) value turn.failed));
      quiet = λ all. subst (λ l. StayQuiet faults before l links_old links result) (sym went.same)
          (quiet_then faults before items new links_old c.turns.links links result so_far.nodes (so_far.quiet all)
          (subst (λ l. StayQuiet faults l new c.turns.links links result) value (turn.quiet (subst (λ l. AreStanding l) (sym value) (so_far.standing all)))));
    }
