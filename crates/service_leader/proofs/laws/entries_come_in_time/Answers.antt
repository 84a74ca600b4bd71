use Rattle.std.proofs.Common.{◌++◌, refl}
use Rattle.service_leader.proofs.EntriesCome.{come_in_time, is_led_calm}
use Rattle.service_leader.proofs.EntriesReturn.{gets_answers}
use Rattle.service_leader.proofs.laws.entries_come_in_time.Goals as goal
use Rattle.bus_spec.specs.Cluster.{world_of}

pub returns : goal.returns
returns c = λ ids rows members harmless group clocks pace start n m term more first front rest leader listed running in_n in_m other short calm harm led fit keeps up few long.
    let answers = gets_answers n m pace.delay (world_of ids rows) first (front ++ rest) keeps in
    come_in_time ids rows (c.what_entries_stand_on.ensures ids rows members harmless) group clocks pace start n term first (front ++ rest)
    (is_led_calm ids rows group clocks pace start n term first (front ++ rest) listed running in_n calm harm led fit) led
    m in_m other short answers.0 answers.1 answers.2 keeps.goes_on front rest refl leader up more few long
