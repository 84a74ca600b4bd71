-- What members that have just been opened have, where a calm begins: their clocks have not gone back, and each two can
-- exchange calls and answers. So they go on calmly.
use Rattle.std.proofs.Common.{◌≡◌, ℕ, ◌+◌, ◌*◌, ◌<◌, ◌≤◌, true, List, refl, subst}
use Rattle.can_frame.specs.declared.step.What.{What}
use Rattle.can_frame.specs.declared.step.What.TheVariants.{App, AppQ}
use Rattle.can_frame.specs.Timing.{election_wait}
use Rattle.raft_model.specs.Lists.{In}
use Rattle.bus_rows.specs.declared.row.Row.{Row}
use Rattle.alloc_spec.specs.AllocatorState.{AllocatorState, knows_all}
use Rattle.bus_rows.specs.Timed.{Timed}
use Rattle.service_alone.specs.Calm.{Pace}
use Rattle.service_calm.specs.Calls.{Lists}
use Rattle.service_calm.specs.Calm.{Member as OfMember, Party}
use Rattle.service_calm.specs.Comes.{AreReady}
use Rattle.service_candidate.specs.Elections.{IsCalmRestart, StandApart}
use Rattle.service_candidate.proofs.ElectionsEnd.{all_run, can_ask, is_opened, opened}
use Rattle.service_leader.specs.Entries.{CanExchange}
use Rattle.service_leader.specs.NoElection.{CallsFit, ClocksGoOn, greatest_wait}
use Rattle.service_elections.specs.Running.{IsCalmOf}
use Rattle.bus_spec.specs.Cluster.{world_of}

module _ (ids : List ℕ) (rows : List Row) (group : List Party) (clocks : Party → ℕ) (pace : Pace) (start : ℕ) (whole : List Timed)
    (r : IsCalmRestart ids rows group clocks pace start whole) where
  -- the server that a member has when the calm begins
  abbrev server_of : (m : ℕ) → In (OfMember m) group → AllocatorState
  server_of m i = opened ids rows group clocks pace start whole r m i

  -- its clock has not gone back
  pub clocks_go_on : ClocksGoOn group clocks start (world_of ids rows)
  clocks_go_on m i server up = subst (λ (t : AllocatorState). t.now ≤ start + clocks (OfMember m))
      (is_opened ids rows group clocks pace start whole r m i server up) (r.opened m i).clock

  -- no frame waits in its queue
  abbrev pub ready : (n m : ℕ) (what : What) (to : ℕ) → In (OfMember n) group → In (OfMember m) group → AreReady n m what to (world_of ids rows)
  ready n m what to i j = record {
    sender = server_of n i;
    sends = (r.opened n i).runs;
    none_waits = refl;
    receiver = server_of m j;
    receives = (r.opened m j).runs;
  }

  module _ (lists : (n m : ℕ) → In (OfMember n) group → In (OfMember m) group → Lists n m (world_of ids rows)) where
    -- each can exchange calls and answers with each other one
    pub can_exchange : (n m : ℕ) → In (OfMember n) group → In (OfMember m) group → CanExchange n m (world_of ids rows) whole
    can_exchange n m i j = record {
      calls_it = lists n m i j;
      hears_it = lists m n j i;
      calls = ready n m AppQ m i j;
      first_call = tt;
      answers = ready m n App n j i;
      first_answer = tt;
      memory = r.memory n i;
      its_memory = r.memory m j;
      place = r.place m j;
    }

    -- so they go on calmly, where they know all members
    pub go_on : ((m : ℕ) (i : In (OfMember m) group) → knows_all (server_of m i) ≡ true) → ((m : ℕ) → In (OfMember m) group → CallsFit m (world_of ids rows) whole)
        → StandApart group (8 * pace.delay) (world_of ids rows) whole → 8 * pace.delay + greatest_wait pace < election_wait
        → IsCalmOf ids rows group clocks pace start whole
    go_on knows fit apart soon = record {
      listed = r.listed;
      many = r.many;
      others = r.others;
      running = all_run ids rows group clocks pace start whole r;
      complete = λ m server i up. subst (λ (t : AllocatorState). knows_all t ≡ true) (is_opened ids rows group clocks pace start whole r m i server up) (knows m i);
      clock = clocks_go_on;
      calm = r.calm;
      harmless = r.harmless;
      ask = λ n m i j differs. can_ask ids rows group clocks pace start whole r lists n m i j;
      exchange = λ n m i j differs. can_exchange n m i j;
      asks_fit = r.fit;
      calls_fit = fit;
      left = r.left;
      apart = apart;
      quick = r.quick;
      soon = soon;
    }
