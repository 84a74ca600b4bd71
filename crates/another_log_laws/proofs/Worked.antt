-- A turn of the worked trace, in which a frame comes.
use Rattle.std.proofs.Common.{◌≡◌, false, [], ◌∷◌, ◌++◌, refl, sym, subst}
use Rattle.outside.specs.Traffic.{next_item}
use Rattle.alloc_spec.specs.Rules.{rules_by}
use Rattle.bus_spec.specs.Cluster.{Cluster, after_rows, cluster}
use Rattle.cmd_node_laws.specs.Example.{first_events, first_word, given_then, later_events, two, word_at_opening, world_by_then}
use Rattle.cmd_node_laws.specs.Mirrored.{Carries}
use Rattle.cmd_node_laws.specs.Processes.{Turning, together_at}
use Rattle.cmd_node_laws.specs.Stands.{IsRunIn, world_after}
use Rattle.cmd_node_laws.specs.Traces.{Event, MayHappen, Opens, Turns, WasSent, rows_of}
use Rattle.another_log_laws.specs.LawfulTurn.{IsLawfulTurn}
use Rattle.another_log_laws.proofs.InTurn.{first_may, joined, rest_may}

abbrev opened : Event
opened = Opens 2 false 9100 (word_at_opening 2)

abbrev turned : Event
turned = Turns 2 9200 (first_word 2) (WasSent 2)

pub lawful_turn : IsRunIn two first_events later_events (rules_by 2 []) (2 ∷ []) given_then (Turning 1 0) → IsLawfulTurn two (rules_by 2 []) (2 ∷ []) given_then 0 0
lawful_turn run = record {
  before = first_events;
  during = opened ∷ [];
  came = WasSent 2;
  run = record {
    members = run.members;
    rules_are = run.rules_are;
    some = run.some;
    once = run.once;
    among = run.among;
    may = first_may (first_events ++ opened ∷ []) (turned ∷ []) (cluster two) run.may;
    waiting = run.waiting;
    goes = (run.goes.0, refl);
  };
  carries = subst (λ (v : Cluster). Carries v.frames (next_item ((together_at (rules_by 2 []) (2 ∷ []) given_then 0 0).running 0).coming) (WasSent 2)) (sym reached)
      run.goes.1.0.1.carries;
  may = subst (MayHappen turned) (sym reached) (rest_may first_events later_events (cluster two) run.may).1.0;
}
  where
    reached : world_after two (first_events ++ opened ∷ []) ≡ after_rows world_by_then (rows_of opened world_by_then)
    reached = joined first_events (opened ∷ []) (cluster two)
