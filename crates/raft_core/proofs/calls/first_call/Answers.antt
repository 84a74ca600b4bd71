use Rattle.std.proofs.Common.{rules, ◌≡◌, ◌<◌, ◌∙◌, ℕ, Some, inl, inr, length, ap, subst, arith}
use Rattle.std.specs.Prelude.{slice_index_or}
use Rattle.std.proofs.lemmas.Bool.Decides.{eqb_tells}
use Rattle.std.proofs.lemmas.List.{get_or_default}
use Rattle.raft_core.specs.declared.peer.Peer.{Peer}
use Rattle.raft_core.proofs.calls.first_call.Goals as goal

pub loop-peer-preserved : goal.loop-peer-preserved
loop-peer-preserved c = λ node none call below waits.
    let index = c.loop-peer.peer-index in
    elim (eqb_tells node index) [
      | inl same ↦
          let within : index < length c.args.peers.now = search rules in
          let here : (slice_index_or c.args.peers.now index none).call ≡ Some call = subst (λ (i : ℕ). (slice_index_or c.args.peers.now i none).call ≡ Some call) same.1 waits in
          c.since-first.ensures.call call (ap (λ (p : Peer). p.call) (get_or_default c.args.peers.now index _ none within) ∙ here)
      | inr differs ↦ let before = c.loop-peer.invariant node none call (omega (arith, differs.1)) waits in omega (arith, before, c.since-first.ensures.moment)
    ]
