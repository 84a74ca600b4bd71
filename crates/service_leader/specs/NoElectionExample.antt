-- Rows that meet the premises of a calm without an election: behind those of `CalmExample`, in which member 1 comes to
-- lead and calls member 2, the answer comes back, and the next call goes out and is heard.
use Rattle.std.specs.Prelude.{ℕ, true, List, [], ◌∷◌, ◌++◌, None, Some, replicate, take}
use Rattle.can_frame.specs.declared.step.What.TheVariants.{AppQ}
use Rattle.raft_model.specs.Messages.Message.{Requests}
use Rattle.bus_rows.specs.declared.row.Row.{Row}
use Rattle.bus_rows.specs.declared.row.Row.TheVariants.{Rx, Send, Tick}
use Rattle.alloc_spec.specs.Transfers.{Offer}
use Rattle.bus_rows.specs.Timed.{Timed, rows_in}
use Rattle.service_alone.specs.Calm.{Pace}
use Rattle.service_calm.specs.Calm.{Member, Party}
use Rattle.service_calm.specs.CalmExample.{calm_rows, first_rows, two}
use Rattle.bus_spec.specs.Cluster.{Cluster, world_of}

-- until member 2 has heard the first call; its last reading of its clock is left out
abbrev pub earlier_rows : List Row
earlier_rows = first_rows ++ rows_in (take 19 calm_rows)

abbrev pub led_world : Cluster
led_world = world_of two earlier_rows

-- the two members; the device that is there is not of the group, and does nothing
abbrev pub both : List Party
both = Member 1 ∷ Member 2 ∷ []

abbrev pub slow_pace : Pace
slow_pace = record { period = 400; delay = 10 }

-- when this calm begins
abbrev pub led_start : ℕ
led_start = 2030

-- The answer of member 2 comes to member 1. When 400 ms have passed since its last call, member 1 calls again: the two
-- frames come to member 2, which reads its clock.
abbrev pub heartbeat_rows : List Timed
heartbeat_rows = record { at = 2031; row = Send 2 }
    ∷ record { at = 2032; row = Rx 1 7 2132 }
    ∷ record { at = 2414; row = Tick 1 2514 0 }
    ∷ record { at = 2415; row = Send 1 }
    ∷ record { at = 2416; row = Send 1 }
    ∷ record { at = 2417; row = Rx 2 8 2617 }
    ∷ record { at = 2418; row = Rx 2 9 2618 }
    ∷ record { at = 2428; row = Tick 2 2628 0 }
    ∷ []

-- what member 1 offers then: an append request of term 1, without an entry
abbrev pub heartbeat_offer : Offer
heartbeat_offer = record {
  what = AppQ;
  to = 2;
  id = 1;
  payload = 1 ∷ replicate 9 0;
  re = 0;
  says = Some (Requests
      (record {
        step = 25;
        from = 1;
        to = 2;
        append = true;
        term = 1;
        previous = 0;
        previous_term = 0;
        commit = 0;
        entry = None;
      }));
  fitted = true;
}
