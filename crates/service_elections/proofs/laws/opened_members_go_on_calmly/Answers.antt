use Rattle.std.proofs.Common.{ℕ, true}
use Rattle.raft_model.specs.Lists.{In}
use Rattle.raft_model.specs.Server.{Store}
use Rattle.service_calm.specs.Calm.{Member}
use Rattle.service_candidate.proofs.ElectionsEnd.{lists_in, told_all}
use Rattle.service_elections.proofs.Opened.{go_on}
use Rattle.service_elections.proofs.laws.opened_members_go_on_calmly.Goals as goal
use Rattle.bus_spec.specs.Cluster.{rules_of}

pub returns : goal.returns
returns c = λ ids rows members harmless group clocks pace start whole r.
    let knows = λ (p : ℕ) (store : Store) (moment word : ℕ) (i : In (Member p) group).
    c.members_of_a_step.ensures.all p (rules_of ids true) store moment word (members.nodes p (r.listed p i)).0 (told_all ids p members (r.listed p i)) in
    go_on ids rows group clocks pace start whole r
    (lists_in ids rows group clocks pace start whole r c.law_members.ensures.count knows c.members_of_a_step.ensures.opening)
    (λ p i. knows p (r.opened p i).store (r.opened p i).moment (r.opened p i).word i)
