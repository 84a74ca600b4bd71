use Rattle.std.specs.Prelude.{◌≡◌, List}
use Rattle.outside.specs.Contents.{WhereTold}
use Rattle.outside.specs.declared.received.Received.{Received}
use Rattle.can_link.specs.Way.{Clears, StaysOrEnds}
use Rattle.can_link.proofs.bus.CanBus.clear_the_way.Given as goal

abbrev pub invariant-loop : goal.invariant-loop
invariant-loop g l = record {
  way : StaysOrEnds l.fn.self.on_its_way l.self.on_its_way;
  clears : WhereTold {A = List Received} (Clears l.fn.self.on_its_way l.self.on_its_way) (g.S.Socket.coming l.fn.self.socket) (g.S.Socket.coming l.self.socket);
  taken : g.S.Socket.taken l.self.socket ≡ g.S.Socket.taken l.fn.self.socket;
  last : l.self.last ≡ l.fn.self.last;
  limit : l.self.late ≡ l.fn.self.late;
}
