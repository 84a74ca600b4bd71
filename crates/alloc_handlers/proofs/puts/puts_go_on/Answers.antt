use Rattle.alloc_handlers.proofs.puts.puts_go_on.Goals as goal

pub returns : goal.returns
returns g c = record {
  nothing = c.puts_in_turn.ensures.nothing;
  joined = c.puts_in_turn.ensures.joined;
  cut_off = c.puts_in_turn.ensures.cut_off;
  faults = c.puts_in_turn.ensures.faults;
}
