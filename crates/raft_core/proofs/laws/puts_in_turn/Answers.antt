use Rattle.std.specs.Prelude.{is_none}
use Rattle.raft_core.proofs.Puts.{all_faults, cut_off, joined, nothing}
use Rattle.raft_core.proofs.laws.puts_in_turn.Goals as goal

pub returns-clause-nothing : goal.returns-clause-nothing
returns-clause-nothing g c = λ durable. nothing durable (c.puts_in_turn.ensures.nothing durable) (c.puts_in_turn.ensures.still durable)

pub returns-clause-joined : goal.returns-clause-joined
returns-clause-joined g c = λ xs ys old mid new failed first second.
    joined xs ys old mid new failed (λ xs ys. c.puts_in_turn.ensures.joined xs ys old mid new (is_none failed)) (c.puts_in_turn.ensures.kept old mid new failed) first second

pub returns-clause-cut_off : goal.returns-clause-cut_off
returns-clause-cut_off g c = λ xs ys old new fault first.
    cut_off xs ys old new fault (λ xs ys. c.puts_in_turn.ensures.cut_off xs ys old new) first

pub returns-clause-faults : goal.returns-clause-faults
returns-clause-faults g c = λ old mid new failed first second. all_faults old mid new failed (c.puts_in_turn.ensures.kept old mid new failed) first second
