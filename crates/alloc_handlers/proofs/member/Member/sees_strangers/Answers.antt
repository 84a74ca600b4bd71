use Rattle.std.proofs.Common.{◌≡◌, ◌<◌, ◌≤◌, ℕ, false, get_or, length, sym, ◌∙◌, arith, rules}
use Rattle.alloc_handlers.proofs.Words.{is_stranger}
use borrow.Author.Count.{below_more}
use Rattle.alloc_handlers.proofs.Candidates.{known_at}
use Rattle.alloc_handlers.proofs.Strangers.{none_of_heard}
use Rattle.alloc_handlers.proofs.member.Member.sees_strangers.Goals as goal

pub loop-node-preserved : goal.loop-node-preserved
loop-node-preserved g c t h i below =
    let heard = c.heard-node-items.result.now in
    let at = c.loop-node.node-index in
    let within : at < length heard = search rules in
    let device = c.heard-node-items.ensures.devices at within in
    let table = known_at t c.known-known.result (get_or heard at 0) (omega (arith, device)) (c.known-known.ensures.known t h) in
    below_more (λ (n : ℕ). is_stranger t (get_or heard n 0) ≡ false) at (c.loop-node.invariant t h)
    (sym (c.is_stranger.ensures t h table) ∙ c.if-is_stranger.false) i below

pub returns : goal.returns
returns g c = record {
  none = λ e t h node least most.
      let heard = c.heard-node-items.result.now in
      let all : length heard ≤ c.loop-node.node-index = search rules in
      none_of_heard t heard node (c.heard-node-items.ensures.online t.watch h.watch node t.now) (λ i within. c.loop-node.invariant t h i (omega (arith, all, within)));
}
