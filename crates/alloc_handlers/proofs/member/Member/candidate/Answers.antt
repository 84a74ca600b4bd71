use Rattle.std.proofs.Common.{◌≡◌, ◌<◌, ◌≤◌, ◌-◌, ℕ, Some, find, sym, ap, ◌∙◌, arith}
use Rattle.alloc_handlers.proofs.Words.{is_candidate, range_with_len}
use Rattle.alloc_handlers.proofs.Candidates.{find_here, find_next, is_id, known_at}
use Rattle.alloc_handlers.proofs.member.Member.candidate.Goals as goal

pub loop-node-preserved : goal.loop-node-preserved
loop-node-preserved g c t h =
    let below : c.loop-node.node < 126 = omega arith in
    sym (find_next (is_candidate t) c.loop-node.node below (sym (c.is_candidate.ensures.computed t h (known_at t c.known-known.result c.loop-node.node below (c.known-known.ensures.known t h))) ∙ c.if-is_candidate.false)) ∙ c.loop-node.invariant t h

pub returns-then-is_candidate-clause-computed : goal.returns-then-is_candidate-clause-computed
returns-then-is_candidate-clause-computed g c t h =
    let below : c.loop-node.node < 126 = omega arith in
    let least : 1 ≤ c.loop-node.node = omega arith in
    let some : c.new.result ≡ Some c.loop-node.node = is_id c.new.result c.loop-node.node c.new.ensures.some c.new.ensures.none.0 least (omega (arith, below)) in
    some ∙ sym (find_here (is_candidate t) c.loop-node.node below (sym (c.is_candidate.ensures.computed t h (known_at t c.known-known.result c.loop-node.node below (c.known-known.ensures.known t h))) ∙ c.if-is_candidate.true)) ∙ c.loop-node.invariant t h

pub returns-clause-computed : goal.returns-clause-computed
returns-clause-computed g c t h =
    let over : c.loop-node.node ≡ 126 = omega arith in
    sym (ap (λ (n : ℕ). find (is_candidate t) (range_with_len n (126 - n))) over) ∙ c.loop-node.invariant t h
