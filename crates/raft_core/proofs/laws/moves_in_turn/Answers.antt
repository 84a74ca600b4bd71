use Rattle.std.proofs.Common.{refl}
use Rattle.raft_core.proofs.Turns.{cut_off, joined, times_joined}
use Rattle.raft_core.proofs.laws.moves_in_turn.Goals as goal

pub returns-clause-nothing : goal.returns-clause-nothing
returns-clause-nothing g c = λ members m n p t durable raft st. record { raft_server = refl; puts = c.puts_in_turn.ensures.nothing durable; after = st }

pub returns-clause-joined : goal.returns-clause-joined
returns-clause-joined g c = λ members m n xs ys p one two t1 t2 old mid new before after failed first second.
    joined members m n xs ys p one two t1 t2 old mid new before after failed (c.law_joined.ensures.puts members m n xs ys p) (c.law_joined.ensures.server members m n xs ys p)
    (c.puts_in_turn.ensures.joined one two old mid new failed) first second

pub returns-clause-cut_off : goal.returns-clause-cut_off
returns-clause-cut_off g c = λ members m n xs ys p one two t1 t2 old new raft after fault first more.
    cut_off members m n xs ys p one two t1 t2 old new raft after fault (c.law_joined.ensures.puts members m n xs ys p) (c.puts_in_turn.ensures.cut_off one two old new fault) first more

pub returns-clause-times : goal.returns-clause-times
returns-clause-times g c = λ members m n given xs ys p t. times_joined members m n given xs ys p t
