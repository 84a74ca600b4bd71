use Rattle.std.proofs.Common.{◌≡◌, List, ℕ, take, refl, subst, ◌∙◌, w64}
use Rattle.std.specs.Int.{to_le_bytes}
use Rattle.c_calls.specs.At.{Learns, first_bytes}
use Rattle.c_calls.proofs.Members.{first_of_eight}
use Rattle.c_calls.proofs.calling.learn.Goals as goal

pub returns-clause-learns : goal.returns-clause-learns
returns-clause-learns c =
    let bytes = to_le_bytes w64 c.args.word in
    let same : take c.min.result c.to_le_bytes-bytes.result ≡ first_bytes c.args.count c.args.word =
    (λ i. take (c.min.ensures i) (c.to_le_bytes-bytes.ensures i)) ∙ first_of_eight c.args.count bytes refl in
    subst (λ (list : List ℕ). Learns c.args.node.now c.learn.new.self list c.learn.result) same c.learn.ensures.learns
