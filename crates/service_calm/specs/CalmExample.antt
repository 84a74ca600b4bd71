-- Rows that meet the premises of calm: of two members that are told their list one sends its NodeStatus, asks for a
-- vote, and leads. The other one hears it, and a device is there.
use Rattle.std.specs.Prelude.{◌≡◌, ◌≢◌, ℕ, ◌+◌, ◌*◌, ◌<◌, false, true, List, [], ◌∷◌, ◌++◌, None, Some, replicate}
use Rattle.can_frame.specs.declared.identifier.Kind.TheVariants.{Response}
use Rattle.can_frame.specs.declared.step.What.TheVariants.{AppQ, Stat, VoteQ}
use Rattle.dsdl_codec.specs.declared.append_request.AppendRequest.{AppendRequest}
use Rattle.raft_model.specs.Messages.Message.{Requests}
use Rattle.bus_rows.specs.declared.row.Row.{Row}
use Rattle.bus_rows.specs.declared.row.Row.TheVariants.{AOpen, ARx, Open, Rx, Send, Tick}
use Rattle.alloc_spec.specs.Transfers.{Offer, id_of, kind_of}
use Rattle.bus_rows.specs.Timed.{Timed, rows_in}
use Rattle.service_alone.specs.Calm.{Pace, end_of}
use Rattle.service_calm.specs.Calm.{Device, Member, Party}
use Rattle.service_calm.specs.Comes.{AreReady, IsHeard, MayComeFirst, Sends}
use Rattle.bus_spec.specs.Cluster.{Cluster, after_rows, world_of}

abbrev pub two : List ℕ
two = 1 ∷ 2 ∷ []

-- who sends, and who receives
abbrev pub sender : ℕ
sender = 1

abbrev pub receiver : ℕ
receiver = 2

abbrev pub some_uid : List ℕ
some_uid = replicate 16 7

-- both members open at the moment 0, and the device comes at the moment 1,900
abbrev pub first_rows : List Row
first_rows = Open 1 true 100 0 ∷ Open 2 true 200 1000 ∷ AOpen 1 some_uid 0 1940 0 ∷ []

abbrev pub group : List Party
group = Member 1 ∷ Member 2 ∷ Device 1 ∷ []

-- the clock of member 1 is 100 ms ahead, that of member 2 is 200 ms ahead, and that of the device 40 ms
abbrev pub clocks : Party → ℕ
clocks (Member n) = 100 * n
clocks (Device a) = 40

abbrev pub pace : Pace
pace = record { period = 60; delay = 10 }

-- when the calm begins
abbrev pub start : ℕ
start = 1990

abbrev pub then_world : Cluster
then_world = world_of two first_rows

-- member 1 has run for two seconds: its first NodeStatus is due, and it stands for election
abbrev pub sending_row : Timed
sending_row = record { at = 2000; row = Tick 1 2100 0 }

-- the payload says that member 1 has run for two seconds, and that all is well
abbrev pub status_offer : Offer
status_offer = record { what = Stat; to = 0; id = 0; payload = 2 ∷ replicate 6 0; re = 0; says = None; fitted = true }

-- member 1 asks for a vote in term 1, with an empty log
abbrev pub vote_offer : Offer
vote_offer = record {
  what = VoteQ;
  to = 2;
  id = 0;
  payload = 1 ∷ replicate 8 0;
  re = 0;
  says = Some (Requests
      (record {
        step = 4;
        from = 1;
        to = 2;
        append = false;
        term = 1;
        previous = 0;
        previous_term = 0;
        commit = 0;
        entry = None;
      }));
  fitted = true;
}

-- The frame of the NodeStatus and the two of the vote request go out, and come to member 2 and to the device. Member 2
-- gives its vote.
abbrev pub vote_rows : List Timed
vote_rows = record { at = 2003; row = Send 1 }
    ∷ record { at = 2004; row = Rx 2 1 2204 }
    ∷ record { at = 2004; row = ARx 1 1 2044 0 }
    ∷ record { at = 2005; row = Send 1 }
    ∷ record { at = 2006; row = Send 1 }
    ∷ record { at = 2007; row = Rx 2 2 2207 }
    ∷ record { at = 2007; row = ARx 1 2 2047 0 }
    ∷ record { at = 2008; row = ARx 1 3 2048 0 }
    ∷ record { at = 2012; row = Rx 2 3 2212 }
    ∷ record { at = 2013; row = Send 2 }
    ∷ []

-- the vote of member 2 is on its way
abbrev pub leading_world : Cluster
leading_world = after_rows then_world (rows_in (sending_row ∷ vote_rows))

-- the vote comes to member 1, which leads
abbrev pub leading_row : Timed
leading_row = record { at = 2014; row = Rx 1 4 2114 }

-- member 1 sends an append request of term 1, without an entry
abbrev pub append_offer : Offer
append_offer = record {
  what = AppQ;
  to = 2;
  id = 0;
  payload = 1 ∷ replicate 9 0;
  re = 0;
  says = Some (Requests
      (record {
        step = 15;
        from = 1;
        to = 2;
        append = true;
        term = 1;
        previous = 0;
        previous_term = 0;
        commit = 0;
        entry = None;
      }));
  fitted = true;
}

-- what the bytes of the append request say
abbrev pub append_said : AppendRequest
append_said = record { term = 1; prev_term = 0; prev_index = 0; commit = 0; entry = None }

-- The two frames of the append request go out, and come to member 2 and to the device. More than two delays later
-- member 2 reads its clock.
abbrev pub append_rows : List Timed
append_rows = record { at = 2015; row = ARx 1 4 2055 0 }
    ∷ record { at = 2016; row = Send 1 }
    ∷ record { at = 2017; row = Send 1 }
    ∷ record { at = 2018; row = Rx 2 5 2218 }
    ∷ record { at = 2018; row = ARx 1 5 2058 0 }
    ∷ record { at = 2019; row = ARx 1 6 2059 0 }
    ∷ record { at = 2027; row = Rx 2 6 2227 }
    ∷ record { at = 2036; row = Tick 2 2236 0 }
    ∷ []

abbrev pub calm_rows : List Timed
calm_rows = sending_row ∷ vote_rows ++ leading_row ∷ append_rows

-- In this one of the calm rows the sender offers this message or request, more than two delays before they end. The
-- receiver hears it, and admits the first of its sort.
pub record IsOffered (front : List Timed) (timed : Timed) (rest : List Timed) (offer : Offer) : Type 0 where
  pub split : calm_rows ≡ front ++ timed ∷ rest
  pub counted : kind_of offer.what ≢ Response
  pub heard : IsHeard receiver offer.what offer.to
  pub ready : AreReady sender receiver offer.what offer.to then_world
  pub first : MayComeFirst sender offer.what offer.to ready.receiver (id_of ready.sender.ids offer.what offer.to)
  pub sent : Sends sender (after_rows then_world (rows_in front)) timed.row offer
  pub long : timed.at + 2 * pace.delay < end_of timed.at rest
