-- Tables of peers, and since when their calls wait.
use Rattle.std.proofs.Common.{◌≡◌, ℕ, ◌-◌, ◌<◌, ◌≤◌, List, Option, Some, None, inl, inr, length, replicate, refl, sym, ap, subst, ◌∙◌, get_or-set_other, get_or-set_same, arith}
use Rattle.std.specs.Prelude.{slice_index_or, slice_set, if◌then◌else◌}
use Rattle.std.proofs.lemmas.Bool.Decides.{eqb_tells, leb_tells}
use Rattle.std.proofs.lemmas.List.{get_or-replicate, length-replicate, length-set}
use Rattle.raft_core.specs.declared.peer.Peer.{Peer}
use Rattle.raft_core.specs.declared.peer.Waiting.{Waiting}
use Rattle.raft_core.specs.Peers.{WaitSince, expired, fresh, voter, young}

-- the same peer everywhere, without a call
pub same_since : (moment n : ℕ) (peer : Peer) → peer.call ≡ None → WaitSince moment (replicate n peer)
same_since moment n peer idle node none call below waits =
    let here : peer.call ≡ Some call = sym (ap (λ (p : Peer). p.call) (get_or-replicate n node peer none (omega (arith, below, length-replicate n peer)))) ∙ waits in
    absurd (cc (idle, here))

-- one peer is another, whose call was not made before the moment
pub set_since : (moment : ℕ) (peers : List Peer) (at : ℕ) (peer : Peer) → at < length peers
    → ((call : Waiting) → peer.call ≡ Some call → moment ≤ call.sent) → WaitSince moment peers → WaitSince moment (slice_set peers at peer)
set_since moment peers at peer within own before node none call below waits = elim (eqb_tells node at) [
  | inl same ↦ own call (ap (λ (p : Peer). p.call) (sym (get_or-set_same peers at peer none within)) ∙ (ap (λ (i : ℕ). (slice_index_or (slice_set peers at peer) i none).call) (sym same.1) ∙ waits))
  | inr differs ↦ before node none call (omega (arith, below, length-set peers at peer)) (ap (λ (p : Peer). p.call) (sym (get_or-set_other peers at node peer none differs.1)) ∙ waits)
]

pub candidate_since : (moment me : ℕ) (peers : List Peer) → me < 128 → peers ≡ slice_set (replicate 128 (fresh 1)) me voter → WaitSince moment peers
candidate_since moment me peers inside is =
    let within : me < length (replicate 128 (fresh 1)) = subst (λ (n : ℕ). me < n) (sym (length-replicate 128 (fresh 1))) inside in
    subst (WaitSince moment) (sym is) (set_since moment (replicate 128 (fresh 1)) me voter within (λ call waits. absurd (cc waits)) (same_since moment 128 (fresh 1) refl))

stays_young : (now moment : ℕ) (call : Option Waiting) → now - moment < 1000 → ((w : Waiting) → call ≡ Some w → moment ≤ w.sent) → call ≡ young now call
stays_young now moment None soon since = refl
stays_young now moment (Some call) soon since =
    let sent : moment ≤ call.sent = since call refl in
    elim (leb_tells 1000 (now - call.sent)) [
      | inl old ↦ absurd (omega (arith, sent, soon, old.1))
      | inr new ↦ ap (λ b. if b then None else Some call) (sym new.0)
    ]

-- soon after the moment none is given up
pub young_expired : (now moment : ℕ) (peers : List Peer) (node : ℕ) (none : Peer) → node < length peers → now - moment < 1000 → WaitSince moment peers
    → slice_index_or peers node none ≡ expired now (slice_index_or peers node none)
young_expired now moment peers node none below soon since =
    let peer = slice_index_or peers node none in
    ap (λ (call : Option Waiting). record peer { call = call }) (stays_young now moment peer.call soon (λ w waits. since node none w below waits))
