use Rattle.std.proofs.Common.{ℕ, ◌≡◌, ◌+◌, ◌*◌, arith, subst, inl}
use Rattle.service_candidate.specs.Elections.{EndsBy, election_within, longest_wait}
use Rattle.service_candidate.proofs.ElectionsEnd.{over_by, some_member}
use Rattle.service_candidate.proofs.laws.elections_end.Goals as goal
use Rattle.bus_spec.specs.Cluster.{world_of}

pub returns : goal.returns
returns c = λ ids rows members harmless group clocks pace start whole r ahead long.
    let one = some_member group ids _ (omega arith) r.many in
    let same : start + longest_wait + pace.period + 4 * pace.delay ≡ start + election_within pace = omega arith in
    subst (λ (last : ℕ). EndsBy group clocks pace.delay last (world_of ids rows) whole) same
    (c.who_is_ahead_wins.ensures ids rows members harmless group clocks pace start (start + longest_wait) whole r (omega arith)
    (record { first = one.0; member = one.1; over = over_by ids rows group clocks pace start whole r one.0 one.1; each = λ m i. inl (ahead m i) })
    (omega (arith, long)))
