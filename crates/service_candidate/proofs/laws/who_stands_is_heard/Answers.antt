use Rattle.std.proofs.Common.{◌≡◌, ℕ, ◌∷◌, ◌++◌, subst}
use Rattle.raft_model.specs.Lists.{In}
use Rattle.alloc_spec.specs.AllocatorState.{AllocatorState}
use Rattle.service_candidate.specs.Votes.{IsAsStanding, Stands, VoteReadsAsSaid}
use Rattle.service_calm.proofs.Grounds.{is_server}
use Rattle.service_candidate.proofs.WinsGrounds.{rows_join}
use Rattle.service_candidate.proofs.WinsHeard.{is_heard}
use Rattle.service_candidate.proofs.laws.who_stands_is_heard.Goals as goal
use Rattle.service_leader.proofs.Stretches.{harmless_both, rows_both}
use Rattle.bus_agreement.proofs.Concatenations.{first_harmless, row_harmless}
use Rattle.bus_rows.specs.Timed.{rows_in}
use Rattle.service_calm.specs.Calm.{IsRunning, Member}
use Rattle.service_calm.specs.Comes.{Sends, sent_by}
use Rattle.bus_spec.specs.Cluster.{Cluster, after_rows, cluster, world_of}
use Rattle.bus_spec.specs.Lawful.{DoNoHarm, DoesNoHarm}
use Rattle.bus_spec.specs.Members.MemberStatus.{Up}

pub returns : goal.returns
returns c = λ ids rows members harmless group clocks pace start k m term front early late timed server listed running in_k in_m quick can fit calm harm stands later long up.
    let w : Cluster = world_of ids rows in
    let below = c.what_elections_stand_on.ensures in
    let own = λ (p : ℕ) (i : In (Member p) group) (t : AllocatorState) (is : (w.member p).status ≡ Up t). (is_server below.calm ids members rows harmless p t (listed p i) is).me in
    let split : DoNoHarm w (rows_in front ++ timed.row ∷ rows_in (early ++ late)) = subst (DoNoHarm w) (rows_both front (timed ∷ (early ++ late))) harm in
    let before : DoNoHarm (cluster ids) (rows ++ rows_in front) = harmless_both (cluster ids) rows (rows_in front) harmless
    (first_harmless w (rows_in front) (timed.row ∷ rows_in (early ++ late)) split) in
    let here : DoesNoHarm (after_rows w (rows_in front)) timed.row = row_harmless w (rows_in front) (rows_in (early ++ late)) timed.row split in
    let same : world_of ids (rows ++ rows_in front) ≡ after_rows w (rows_in front) = rows_join (cluster ids) rows (rows_in front) in
    is_heard ids rows (c.each_transfer_comes_whole.ensures.counted ids rows members harmless) (c.terms_do_not_fall.ensures ids rows) c.who_is_listed_stays.ensures
    c.votes_are_answered.ensures below.calm.in_step.me group clocks pace start k m term front early late timed listed running in_k in_m calm stands later long own quick can fit
    (subst (λ (v : Cluster). DoesNoHarm v timed.row → (s : Stands k term v timed.row) → IsAsStanding k term v timed.row s) same
    (c.who_stands_asks.ensures ids (rows ++ rows_in front) members before k term timed.row (listed k in_k)) here stands)
    (λ offer runs sends what. subst (λ (v : Cluster). DoesNoHarm v timed.row → IsRunning k v → Sends k v timed.row offer → VoteReadsAsSaid (sent_by k v offer)) same
    (λ fine its sent. c.vote_requests_read_as_said.ensures ids (rows ++ rows_in front) members before k timed.row offer fine its sent what) here runs sends)
    server up
