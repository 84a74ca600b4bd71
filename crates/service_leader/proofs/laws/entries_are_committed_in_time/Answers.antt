use Rattle.std.proofs.Common.{◌++◌, refl}
use Rattle.service_leader.proofs.EntriesCome.{is_led_calm}
use Rattle.service_leader.proofs.EntriesReturn.{gets_answers}
use Rattle.service_leader.proofs.EntriesQuorum.{committed_in_time}
use Rattle.service_leader.proofs.laws.entries_are_committed_in_time.Goals as goal
use Rattle.bus_spec.specs.Cluster.{world_of}

pub returns : goal.returns
returns c = λ ids rows members harmless group clocks pace start n term more other next first front rest leader listed running in_n apart many short calm harm led fit each up few own long.
    committed_in_time ids rows (c.what_entries_stand_on.ensures ids rows members harmless) group clocks pace start n term first (front ++ rest)
    (is_led_calm ids rows group clocks pace start n term first (front ++ rest) listed running in_n calm harm led fit) led short
    front rest refl leader up more long other next
    (λ m i. let its = apart m i in let answers = gets_answers n m pace.delay (world_of ids rows) first (front ++ rest) (each m i) in
    (record { member = its.0; other = its.1; can = answers.0; late = answers.1; since = answers.2; goes = (each m i).goes_on }, few m i)) many own
