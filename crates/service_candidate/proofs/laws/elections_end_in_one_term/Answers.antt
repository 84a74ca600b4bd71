use Rattle.std.proofs.Common.{◌+◌, arith, ◌++◌, inl, inr}
use Rattle.service_leader.proofs.Stretches.{harmless_both}
use Rattle.service_candidate.specs.Elections.{election_within, longest_wait}
use Rattle.service_candidate.proofs.ElectionGrounds.{all_listed}
use Rattle.service_candidate.proofs.ElectionsEnd.{led_later}
use Rattle.service_candidate.proofs.OneTerm.{stands_at_top}
use Rattle.service_candidate.proofs.OneTermWins.{first_of, wins_or_led}
use Rattle.service_candidate.proofs.laws.elections_end_in_one_term.Goals as goal
use Rattle.bus_spec.specs.Cluster.{cluster, world_of}

pub returns : goal.returns
returns c = λ ids rows members harmless group clocks pace start term whole r in_term long.
    let below = c.what_elections_stand_on.ensures in
    let lists = all_listed below ids members rows harmless group clocks pace start whole r in
    elim (c.who_is_furthest_stands.ensures ids rows members harmless group clocks pace start whole r (omega (arith, long))) [
      | inl furthest ↦
          let found = first_of ids rows group clocks pace start whole r below.calm.more.size below.leave
          (start + longest_wait + pace.period) furthest in
          wins_or_led ids rows group clocks pace start whole r (c.logs_stay_in_calm.ensures ids rows members harmless) (c.no_appends_come.ensures ids rows members harmless) lists (start + election_within pace)
          (start + longest_wait + pace.period) found.so
          (stands_at_top ids rows group clocks pace start whole r below.calm.more.size (c.terms_stay_in_calm.ensures ids rows members harmless)
          (c.terms_do_not_fall.ensures ids rows)
          (λ more fine. c.who_stands_asks.ensures ids (rows ++ more) members (harmless_both (cluster ids) rows more harmless fine))
          (c.vote_requests_come_back.ensures ids rows members harmless) c.who_is_listed_stays.ensures lists
          (start + longest_wait + pace.period) (omega (arith, long)) term
          (λ m i server up. let e = in_term m i server up in omega (arith, e)) (λ m i server up. let e = in_term m i server up in omega (arith, e))
          found.so.front found.so.rest found.so.timed found.so.split found.so.soon found.so.c found.so.term found.so.member found.so.stands)
          found.furthest found.silent (omega arith) long (c.who_stands_alone_wins.ensures ids rows members harmless)
      | inr led ↦ inr (led_later group start (start + longest_wait + pace.period) (start + election_within pace) (world_of ids rows) whole (omega arith) led)
    ]
