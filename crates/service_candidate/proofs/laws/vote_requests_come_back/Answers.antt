use Rattle.std.proofs.Common.{◌≤◌, ℕ, ◌∷◌, ◌++◌, refl}
use Rattle.std.specs.Prelude.{⊤}
use Rattle.raft_model.specs.Lists.{In}
use Rattle.alloc_spec.specs.AllocatorState.{AllocatorState}
use Rattle.service_candidate.specs.Votes.{VoteReadsAsSaid}
use Rattle.service_leader.proofs.Exchange.{AllGiven, Exchange, given_at}
use Rattle.service_leader.proofs.ExchangeBack.{comes_back}
use Rattle.service_leader.proofs.ExchangeGoes.{at_first, going_on}
use Rattle.service_leader.proofs.ExchangeStart.{Fresh, all_given}
use Rattle.service_candidate.proofs.VotesAsked.{fresh, voting}
use Rattle.service_candidate.proofs.VotesComeBack.{vote_comes_back}
use Rattle.service_calm.proofs.Grounds.{calm_laws, is_server, well}
use Rattle.service_candidate.proofs.laws.vote_requests_come_back.Goals as goal
use Rattle.bus_rows.specs.Timed.{rows_in}
use Rattle.service_calm.specs.Calm.{Member, no_traffic}
use Rattle.service_calm.specs.Comes.{sent_by}
use Rattle.service_calm.proofs.Group.{AreWell}
use Rattle.bus_spec.specs.Cluster.{Cluster, after_rows, world_of}

pub returns : goal.returns
returns c =
    let below = c.what_elections_stand_on.ensures.calm in
    let laws = calm_laws below in
    let answered = c.votes_are_answered.ensures in
    λ ids rows members harmless group clocks pace start n m front rest timed offer listed running in_n in_m apart quick can calm no_harm sends what to long.
    let w : Cluster = world_of ids rows in
    let nodes : (p : ℕ) → In (Member p) group → (1 ≤ p) × (p ≤ 125) = λ p i. members.nodes p (listed p i) in
    let is = λ (p : ℕ) (i : In (Member p) group) (t : AllocatorState). is_server below ids members rows harmless p t (listed p i) in
    let are : AreWell group w = well below ids members rows harmless group listed running in
    let both : Exchange = voting laws below.apart below.stay answered (λ x. ⊤) group clocks pace nodes n m in_n in_m apart quick w (front ++ timed ∷ rest) can in
    let given : AllGiven both w (front ++ timed ∷ rest) = all_given both ids
    (λ done h row offer. c.vote_requests_read_as_said.ensures ids done members h n row offer) (λ done h row offer harm runs it what. tt)
    below.grows below.no_harm
    (front ++ timed ∷ rest) rows (no_traffic start) w refl harmless are calm no_harm can.memory can.its_memory can.place in
    let begun : Fresh both start w (front ++ timed ∷ rest) =
    fresh laws below.apart below.stay answered (λ x. ⊤) group clocks pace nodes n m in_n in_m apart quick w (front ++ timed ∷ rest) can start (is n in_n) (is m in_m)
    (are.members n in_n).up.quiet (are.members m in_m).up.quiet calm are given in
    let there : Cluster = after_rows w (rows_in front) in
    let reads : VoteReadsAsSaid (sent_by n there offer) = (given_at both front rest timed w given).read offer sends what in (
      reads,
      vote_comes_back both refl answered ⊥ (record { at = timed.at; transfer = sent_by n there offer }) reads.request reads.read what refl there (timed ∷ rest)
          (comes_back both ⊥ there timed rest (going_on both front (timed ∷ rest) w (at_first both start w (front ++ timed ∷ rest) begun)) (λ none. absurd none) offer sends what to long),
    )
