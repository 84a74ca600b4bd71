-- A call that comes whole is heard, and who hears it waits anew.
use Rattle.std.proofs.Common.{◌≡◌, ℕ, ◌+◌, ◌<◌, ◌≤◌, arith, true, List, ◌∷◌, ◌++◌, refl, sym, ◌∙◌, ap, subst, inl, inr, Some}
use Rattle.std.specs.Prelude.{⊤, max}
use Rattle.can_frame.specs.declared.step.What.TheVariants.{AppQ}
use Rattle.can_frame.specs.Timing.{election_wait}
use Rattle.cluster_discovery.specs.Members.{is_on_list}
use Rattle.dsdl_codec.specs.declared.append_request.AppendRequest.{AppendRequest}
use Rattle.dsdl_codec.specs.AppendRequest.{append_request_of}
use Rattle.raft_model.specs.Lists.{In, at_here}
use Rattle.raft_model.specs.Server.Role.{Follower}
use Rattle.bus_rows.specs.declared.row.Row.{Row}
use Rattle.bus_rows.specs.declared.row.Row.TheVariants.{Rx}
use Rattle.transfer_rx.specs.Reassembly.{Arrival, Gives, answer}
use Rattle.alloc_spec.specs.Accepted.{setting_for}
use Rattle.alloc_spec.specs.AllocatorState.{AllocatorState, members_of}
use Rattle.alloc_spec.specs.Step.{Event, moment_of, step}
use Rattle.alloc_spec.specs.Transfers.{SentTransfer, kind_of, number_of}
use Rattle.alloc_spec_laws.proofs.Choices.{tell}
use Rattle.alloc_spec_laws.proofs.Peers.{unlisted}
use Rattle.service_steps.specs.InTime.{FramesLeaveFollowers, HearsLeader, StaysFollower, WaitsAnew}
use Rattle.bus_rows.specs.Timed.{Timed, rows_in}
use Rattle.service_alone.specs.Calm.{Pace}
use Rattle.service_alone.proofs.Members.{IsUp, steps_up}
use Rattle.service_calm.specs.Calm.{AreCalm, IsCalmRow, IsRunning, Member as OfMember, Party, Traffic}
use Rattle.service_calm.specs.Calls.{FollowsFrom, FollowsSince, HearsCall, HearsCallBy, Lists, MayFollow}
use Rattle.service_calm.specs.Comes.{ComesBy, Delivers, delivery_of}
use Rattle.service_calm.proofs.Counting.{now_after}
use Rattle.service_calm.proofs.CallsKept.{GoesOn, IsKept, further}
use Rattle.bus_spec.specs.Cluster.{Cluster, after_row, after_rows, arrival_at, frame_at, receipt_of}
use Rattle.bus_spec.specs.Members.{Member, member_after_step}

-- who is in a list is found on it
pub on_list : (list : List ℕ) (node : ℕ) → In node list → is_on_list list node ≡ true
on_list list node i = elim (tell (is_on_list list node)) [ inl e ↦ e | inr e ↦ absurd (unlisted list node e i) ]

-- at whatever moment
abbrev pub Always : ℕ → Type 0
Always moment = ⊤

-- the server has the node ID
abbrev pub IsNode : ℕ → AllocatorState → Type 0
IsNode m t = t.me ≡ m

module _ (keeps_me : (t : AllocatorState) (number : ℕ) (event : Event) → (step t number event).step_state.allocator.me ≡ t.me)
    (group : List Party) (clocks : Party → ℕ) (pace : Pace) (m : ℕ) where
  pub node_kept : IsKept Always (IsNode m)
  node_kept = record { stepped = λ t number event may is. keeps_me t number event ∙ is; popped = λ t is. is }

  -- these rows are calm from a world on in which the member runs
  abbrev pub Goes : Cluster → List Timed → Type 0
  Goes = GoesOn Always (IsNode m) node_kept group clocks pace m

  -- so it is further on
  pub further_on : (front rest : List Timed) (w : Cluster) → Goes w (front ++ rest) → Goes (after_rows w (rows_in front)) rest
  further_on front rest w = further Always (IsNode m) node_kept group clocks pace m front rest w (λ timed i. tt)

  module _ (waits_anew : WaitsAnew) (x : SentTransfer) (request : AppendRequest) (what : x.offer.what ≡ AppQ)
      (says : append_request_of x.offer.payload ≡ Some request) where
    heard : (w : Cluster) (timed : Timed) (rest : List Timed) → Goes w (timed ∷ rest) → Delivers m x w timed.row
        → HearsCall m (clocks (OfMember m)) x request w timed
    heard w timed rest goes comes = record {
      delivers = comes;
      clock = (subst (λ (row : Row). IsCalmRow group clocks pace goes.traffic w timed.at row) comes.comes goes.calm.1).1;
      hears = hears;
      anew = λ may. subst (λ (row : Row). FollowsSince m (max comes.server.now comes.ms) (after_row w row)) (sym comes.comes) (follows (hears may));
    }
      where
        arrival : Arrival
        arrival = arrival_at (frame_at w.frames comes.k) comes.ms

        same : comes.server ≡ goes.runs.server
        same = cc (sym comes.runs ∙ goes.runs.up.status)

        me : comes.server.me ≡ m
        me = ap (λ (t : AllocatorState). t.me) same ∙ goes.runs.holds

        hears : MayFollow x.by request comes.server → HearsLeader comes.server arrival (delivery_of x) request
        hears may = record {
          gives = subst (λ (k : ℕ). answer (setting_for k) comes.server.sessions (arrival_at (frame_at w.frames comes.k) (max comes.server.now comes.ms)) ≡ Gives (delivery_of x))
              (sym me) comes.gives;
          kind = ap kind_of what;
          number = ap number_of what;
          read = says;
          listed = on_list (members_of comes.server) x.by may.listed;
          current = may.current;
        }

        up : IsUp (step comes.server (w.rows + 1) (receipt_of w comes.k comes.ms)).step_state.allocator
            (member_after_step (w.rows + 1) (receipt_of w comes.k comes.ms) (w.member m).status (w.member m))
        up = steps_up (w.rows + 1) (receipt_of w comes.k comes.ms) comes.server (w.member m)
            (record { status = comes.runs; quiet = goes.runs.up.quiet })

        follows : HearsLeader comes.server arrival (delivery_of x) request → FollowsSince m (max comes.server.now comes.ms) (after_row w (Rx m comes.k comes.ms))
        follows is =
            let waits = waits_anew comes.server (w.rows + 1) arrival (delivery_of x) request is in
            let here = at_here w.member m m (member_after_step (w.rows + 1) (receipt_of w comes.k comes.ms) (w.member m).status (w.member m)) refl in
            record {
              running = record {
                server = (step comes.server (w.rows + 1) (receipt_of w comes.k comes.ms)).step_state.allocator;
                runs = ap (λ (member : Member). member.status) here ∙ up.status;
                faults = up.quiet.faults;
                disk = ap (λ (member : Member). member.disk.calls) here ∙ up.quiet.calls;
              };
              follows = waits.1;
              waits = waits.0;
              reads = now_after comes.server (w.rows + 1) (receipt_of w comes.k comes.ms);
            }

    -- a call that comes by some moment is heard by then
    pub heard_by : (last : ℕ) (w : Cluster) (whole : List Timed) → Goes w whole → ComesBy m x last w whole
        → HearsCallBy m (clocks (OfMember m)) x request last w whole
    heard_by last w whole goes by = record {
      front = by.front;
      timed = by.timed;
      rest = by.rest;
      split = by.split;
      soon = by.soon;
      call = heard (after_rows w (rows_in by.front)) by.timed by.rest
          (further_on by.front (by.timed ∷ by.rest) w (subst (Goes w) by.split goes)) by.delivers;
    }

-- ---- who is listed

module _ (stay : (t : AllocatorState) (number : ℕ) (event : Event) (node : ℕ) → In node (members_of t) → In node (members_of (step t number event).step_state.allocator))
    (node : ℕ) where
  abbrev pub ListsNode : AllocatorState → Type 0
  ListsNode t = In node (members_of t)

  pub list_kept : IsKept Always ListsNode
  list_kept = record { stepped = λ t number event may is. stay t number event node is; popped = λ t is. is }

  pub lists_on : (group : List Party) (clocks : Party → ℕ) (pace : Pace) (traffic : Traffic) (m : ℕ) (front rest : List Timed) (w : Cluster) → IsRunning m w
      → AreCalm group clocks pace traffic w (front ++ rest) → Lists m node w → Lists m node (after_rows w (rows_in front))
  lists_on group clocks pace traffic m front rest w running calm lists server up =
      let same : later.runs.server ≡ server = cc (sym later.runs.up.status ∙ up) in subst ListsNode same later.runs.holds
    where
      later : GoesOn Always ListsNode list_kept group clocks pace m (after_rows w (rows_in front)) rest
      later = further Always ListsNode list_kept group clocks pace m front rest w (λ timed i. tt) (record {
        traffic = traffic;
        calm = calm;
        runs = record {
          server = running.server;
          up = record { status = running.runs; quiet = record { faults = running.faults; calls = running.disk } };
          holds = lists running.server running.runs;
        };
      })

-- ---- who follows

-- the server follows, and has waited since this moment or a later one, and no longer than the least wait
pub record FollowsStill (moment : ℕ) (t : AllocatorState) : Type 0 where
  pub follows : t.raft_server.memory.role ≡ Follower
  pub waits : moment ≤ t.times.since
  pub passed : moment ≤ t.now
  pub soon : t.now < moment + election_wait

module _ (ticks : StaysFollower) (frames : FramesLeaveFollowers) (moment : ℕ) where
  -- before the least wait is over
  abbrev pub Soon : ℕ → Type 0
  Soon now = now < moment + election_wait

  still : (t : AllocatorState) (number : ℕ) (e : Event) → Soon (moment_of e) → FollowsStill moment t → FollowsStill moment (step t number e).step_state.allocator
  still t number (Event.Tick now word) may is =
      let after = now_after t number (Event.Tick now word) in
      let stays = ticks t number now word is.follows (omega (arith, may, is.soon, is.waits)) in
      record {
        follows = stays.1;
        waits = omega (arith, stays.0, is.waits);
        passed = omega (arith, after, is.passed);
        soon = omega (arith, after, is.soon, may);
      }
  still t number (Event.Rx arrival) may is =
      let after = now_after t number (Event.Rx arrival) in
      let stays = frames t number arrival is.follows in
      record {
        follows = stays.0;
        waits = elim stays.1 [
          | inl same ↦ omega (arith, same, is.waits)
          | inr anew ↦ omega (arith, anew, is.passed)
        ];
        passed = omega (arith, after, is.passed);
        soon = omega (arith, after, is.soon, may);
      }

  pub follows_kept : IsKept Soon (FollowsStill moment)
  follows_kept = record { stepped = still; popped = λ t is. record { follows = is.follows; waits = is.waits; passed = is.passed; soon = is.soon } }

  pub follows_on : (group : List Party) (clocks : Party → ℕ) (pace : Pace) (traffic : Traffic) (m : ℕ) (front rest : List Timed) (w : Cluster) → FollowsSince m moment w
      → AreCalm group clocks pace traffic w (front ++ rest) → ((timed : Timed) → In timed front → Soon (timed.at + clocks (OfMember m)))
      → FollowsFrom m moment (after_rows w (rows_in front))
  follows_on group clocks pace traffic m front rest w since calm may = record {
    server = later.runs.server;
    runs = later.runs.up.status;
    follows = later.runs.holds.follows;
    waits = later.runs.holds.waits;
  }
    where
      later : GoesOn Soon (FollowsStill moment) follows_kept group clocks pace m (after_rows w (rows_in front)) rest
      later = further Soon (FollowsStill moment) follows_kept group clocks pace m front rest w may (record {
        traffic = traffic;
        calm = calm;
        runs = record {
          server = since.running.server;
          up = record { status = since.running.runs; quiet = record { faults = since.running.faults; calls = since.running.disk } };
          holds = record {
            follows = since.follows;
            waits = omega (arith, since.waits);
            passed = omega (arith, since.reads);
            soon = omega (arith, since.reads);
          };
        };
      })
