use Rattle.std.proofs.Common.{◌≢◌, ◌≤◌, ◌*◌, ℕ, arith, ◌∷◌, ◌++◌, refl, sym}
use Rattle.std.specs.Prelude.{⊤}
use Rattle.raft_model.specs.Lists.{In}
use Rattle.alloc_spec.specs.AllocatorState.{AllocatorState}
use Rattle.service_candidate.specs.Votes.{CanAsk, VoteReadsAsSaid}
use Rattle.service_leader.proofs.Exchange.{AllGiven, Exchange, given_at}
use Rattle.service_leader.proofs.ExchangeStart.{Fresh, all_given}
use Rattle.service_candidate.proofs.VotesAlone.{comes_alone}
use Rattle.service_candidate.proofs.VotesAsked.{fresh, voting}
use Rattle.service_calm.proofs.Grounds.{calm_laws, is_server, well}
use Rattle.service_candidate.proofs.laws.votes_come_alone.Goals as goal
use Rattle.bus_rows.specs.Timed.{rows_in}
use Rattle.service_calm.specs.Calm.{Member, no_traffic}
use Rattle.service_calm.specs.Comes.{sent_by}
use Rattle.service_calm.proofs.Group.{AreWell}
use Rattle.bus_spec.specs.Cluster.{Cluster, after_rows, world_of}

pub returns : goal.returns
returns c =
    let below = c.what_elections_stand_on.ensures.calm in
    let laws = calm_laws below in
    let answered = c.votes_are_answered.ensures in
    λ ids rows members harmless group clocks pace start n m term front rest timed offer scene in_m other sends what to.
    let w : Cluster = world_of ids rows in
    let listed = scene.listed in
    let in_n : In (Member n) group = scene.member in
    let apart : n ≢ m = λ e. other (sym e) in
    let can : CanAsk n m w (front ++ timed ∷ rest) = scene.can m in_m other in
    let slow = scene.quick in
    let quick : 2 * pace.delay ≤ 2000 = omega (arith, slow) in
    let nodes : (p : ℕ) → In (Member p) group → (1 ≤ p) × (p ≤ 125) = λ p i. members.nodes p (listed p i) in
    let is = λ (p : ℕ) (i : In (Member p) group) (t : AllocatorState). is_server below ids members rows harmless p t (listed p i) in
    let are : AreWell group w = well below ids members rows harmless group listed scene.running in
    let both : Exchange = voting laws below.apart below.stay answered (λ x. ⊤) group clocks pace nodes n m in_n in_m apart quick w (front ++ timed ∷ rest) can in
    let given : AllGiven both w (front ++ timed ∷ rest) = all_given both ids
    (λ done h row o. c.vote_requests_read_as_said.ensures ids done members h n row o) (λ done h row o harm runs it its_what. tt)
    below.grows below.no_harm
    (front ++ timed ∷ rest) rows (no_traffic start) w refl harmless are scene.calm scene.harmless can.memory can.its_memory can.place in
    let at_first : Fresh both start w (front ++ timed ∷ rest) =
    fresh laws below.apart below.stay answered (λ x. ⊤) group clocks pace nodes n m in_n in_m apart quick w (front ++ timed ∷ rest) can start (is n in_n) (is m in_m) (are.members n in_n).up.quiet (are.members m in_m).up.quiet
    scene.calm are given in
    let reads : VoteReadsAsSaid (sent_by n (after_rows w (rows_in front)) offer) = (given_at both front rest timed w given).read offer sends what in
    (reads, comes_alone both refl start w front rest timed at_first scene.silent refl answered offer sends what to reads scene.long)
