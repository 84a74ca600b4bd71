use Rattle.std.proofs.Common.{◌≡◌, ℕ, true, arith, length, refl, ◌∙◌}
use Rattle.raft_model.specs.Lists.{In}
use Rattle.raft_model.specs.Server.{Store}
use Rattle.service_calm.specs.Calm.{Member}
use Rattle.service_calm.proofs.Grounds.{choice, invariants, its_run, listed_in, made, shown}
use Rattle.service_candidate.proofs.ElectionsEnd.{lists_in, told_all}
use Rattle.service_cluster.proofs.Returning.{comes_back, low_terms}
use Rattle.service_cluster.proofs.laws.started_clusters_settle.Goals as goal
use Rattle.bus_spec.specs.Cluster.{rules_of, world_of}

pub returns : goal.returns
returns c = λ ids rows members harmless group clocks pace start longest ended whole s ends long.
    let below = c.what_calms_stand_on.ensures in
    let r = s.restart in
    let knows = λ (p : ℕ) (store : Store) (opened word : ℕ) (i : In (Member p) group).
    c.members_of_a_step.ensures.all p (rules_of ids true) store opened word (members.nodes p (r.listed p i)).0 (told_all ids p members (r.listed p i)) in
    let many = r.others in
    comes_back c.followers_follow_on.ensures.frames ids members rows group clocks pace start longest ended whole s ends ends.others_follow long
    (λ t. t.size ≡ length ids) (λ t e. omega (arith, e, many))
    (record { stepped = λ t number event may h. below.more.size t number event ∙ h; popped = λ t h. h })
    (λ m i. refl)
    (lists_in ids rows group clocks pace start whole r c.law_members.ensures.count knows c.members_of_a_step.ensures.opening)
    (c.terms_do_not_fall.ensures ids rows) (c.no_election_comes_in_calm.ensures ids rows members harmless) knows
    (c.members_stay_tidy.ensures.tidy ids rows members harmless) (c.discoveries_miss_nobody.ensures.tidy ids rows members harmless)
    (c.discoveries_miss_nobody.ensures.unasked ids rows members harmless) (c.logs_stay_in_calm.ensures ids rows members harmless)
    (c.winners_call.ensures ids rows members harmless) (c.calls_return_to_who_leads_on.ensures ids rows members harmless) (c.leaders_settle_in_calm.ensures.settle ids rows members harmless)
    (λ m t i up. low_terms (choice below ids members rows harmless) (made below ids members rows harmless) (world_of ids rows) (its_run below ids members rows harmless)
    (shown below ids members rows harmless).shows (invariants below ids members rows harmless) m t (listed_in below ids rows m (r.listed m i)) up)
