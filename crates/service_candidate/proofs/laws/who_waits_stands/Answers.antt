use Rattle.std.proofs.Common.{length, refl, arith}
use Rattle.service_calm.proofs.Grounds.{its_node}
use Rattle.service_candidate.proofs.WaitsStand.{stands_in_time}
use Rattle.service_candidate.proofs.laws.who_waits_stands.Goals as goal
use Rattle.bus_spec.specs.Cluster.{world_of}

pub returns : goal.returns
returns c = λ ids rows members harmless group clocks pace traffic m due whole running listed in_m many knows role left calm over began ticked long.
    let below = c.what_elections_stand_on.ensures in
    let facts = its_node below.calm ids members rows harmless m running.server listed running.runs in
    stands_in_time below.calm.complete below.calm.more.size m (length ids) running.server.times.since
    running.server.times.word many group clocks pace due over whole traffic (world_of ids rows) in_m
    (record {
      server = running.server;
      up = record { status = running.runs; quiet = record { faults = running.faults; calls = running.disk } };
      waits = record { size_is = facts.1; knows = knows; since_is = refl; word_is = refl; role = role };
    })
    calm left (omega (arith, began)) ticked long
