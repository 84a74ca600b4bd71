-- A leader that has recorded a pair settles with it, in the row in which it commits it.
use Rattle.std.proofs.Common.{◌≡◌, ℕ, ◌+◌, ◌<◌, ◌≤◌, List, [], ◌∷◌, ◌++◌, length, append_assoc, append-nil, refl, sym, ◌∙◌, ap, subst, inl, inr, arith, Some}
use Rattle.can_frame.specs.declared.entry.Entry.{Entry}
use Rattle.raft_model.specs.Server.{RaftServer}
use Rattle.raft_model.specs.Server.Role.{Leader}
use Rattle.alloc_spec.specs.AllocatorState.{AllocatorState}
use Rattle.alloc_spec.specs.Step.{Event, step}
use Rattle.alloc_spec_laws.specs.Phases.{TellsDuly, when_committed, when_told}
use Rattle.alloc_spec_laws.proofs.Choices.{lt_tells}
use Rattle.service_steps.proofs.Alone.{one_longer}
use Rattle.bus_rows.specs.Timed.{Timed, rows_in}
use Rattle.service_alone.specs.Calm.{HasSettled, Pace, end_of}
use Rattle.service_calm.specs.Calm.{AreCalm, Member as OfMember, Party, no_traffic}
use Rattle.service_calm.proofs.Calls.{Always}
use Rattle.service_calm.proofs.CallsKept.{GoesOn, IsKept, further}
use Rattle.service_calm.proofs.Pair.{same_server}
use Rattle.service_leader.proofs.EntriesRows.{step_or_not}
use Rattle.service_leader.proofs.RowsOfOne.{left_up, stepped_up}
use Rattle.service_leader.proofs.Stretches.{GoesOnFrom, calm_first, calm_rest, end_both, not_before, world_both}
use Rattle.service_device.specs.Recorded.{IsUncommitted, LeaderSettles, LeadsWith}
use Rattle.service_device.specs.ServedTold.{HasRoomInStep, HasRoomInSteps}
use Rattle.service_device.proofs.AllocationsTold.{VerdictsAre}
use Rattle.service_device.proofs.ServedTold.{HasReached, reached_on, tells_next_one}
use Rattle.bus_spec.specs.Cluster.{Cluster, after_row, after_rows, step_of}
use Rattle.bus_spec.specs.Members.MemberStatus.{Up}

-- the room of each row
pub room_at : (n : ℕ) (front rest : List Timed) (timed : Timed) (w : Cluster) → HasRoomInSteps n w (front ++ timed ∷ rest)
    → HasRoomInStep n (after_rows w (rows_in front)) timed.row
room_at n [] rest timed w all = all.0
room_at n (first ∷ front) rest timed w all = room_at n front rest timed (after_row w first.row) all.1

module _ (judged : VerdictsAre) (duly : (t : AllocatorState) (number : ℕ) (event : Event) → TellsDuly number (when_committed t number event) (when_told t number event))
    (w : Cluster) (group : List Party) (clocks : Party → ℕ) (pace : Pace) (start n term : ℕ) (log : List Entry) (whole : List Timed)
    (calm : AreCalm group clocks pace (no_traffic start) w whole)
    (leads : (front rest : List Timed) (t : AllocatorState) → whole ≡ front ++ rest → ((after_rows w (rows_in front)).member n).status ≡ Up t
    → t.raft_server.memory.role ≡ Leader)
    (now : ℕ) (settled : HasSettled n log now w) (room : HasRoomInSteps n w whole) where
  abbrev here : List Timed → Cluster
  here front = after_rows w (rows_in front)

  abbrev least : ℕ
  least = length log

  abbrev Reached : AllocatorState → Type 0
  Reached t = HasReached least t.raft_server

  pub kept : IsKept Always Reached
  kept = record { stepped = λ t number event may h. reached_on number t event judged least h; popped = λ t h. h }

  -- it has reached so much behind each front
  abbrev pub goes : (a b : List Timed) → whole ≡ a ++ b → GoesOn Always Reached kept group clocks pace n (here a) b
  goes a b cut = further Always Reached kept group clocks pace n a b w (λ timed i. tt) (record {
    traffic = no_traffic start;
    calm = subst (AreCalm group clocks pace (no_traffic start) w) cut calm;
    runs = record {
      server = settled.server;
      up = record { status = settled.runs; quiet = record { faults = settled.faults; calls = settled.disk } };
      holds = record {
        sane = let c = settled.committed in omega (arith, c, ap (λ (l : List Entry). length l) settled.log_is);
        told = let t = settled.told in omega (arith, t);
        committed = let c = settled.committed in omega (arith, c);
      };
    };
  })

  -- of the server that it has there
  pub reached_at : (a b : List Timed) → whole ≡ a ++ b → (t : AllocatorState) → ((here a).member n).status ≡ Up t → Reached t
  reached_at a b cut t up = subst Reached (same_server (goes a b cut).runs.server t (sym (goes a b cut).runs.up.status ∙ up)) (goes a b cut).runs.holds

  pub cut_more : (a b : List Timed) (x : Timed) → whole ≡ a ++ x ∷ b → whole ≡ (a ++ x ∷ []) ++ b
  cut_more a b x cut = cut ∙ sym (append_assoc a (x ∷ []) b)

  -- in the row in which it commits more it tells the next place
  module _ (a b : List Timed) (x : Timed) (cut : whole ≡ a ++ x ∷ b) (before after_ : AllocatorState) (up : ((here a).member n).status ≡ Up before)
      (low : before.raft_server.store.commit ≤ least) (then_up : ((after_row (here a) x.row).member n).status ≡ Up after_)
      (high : least < after_.raft_server.store.commit) where
    abbrev t : AllocatorState
    t = (goes a (x ∷ b) cut).runs.server

    same : t ≡ before
    same = same_server t before (sym (goes a (x ∷ b) cut).runs.up.status ∙ up)

    leads_then : after_.raft_server.memory.role ≡ Leader
    leads_then = leads (a ++ x ∷ []) b after_ (cut_more a b x cut) (subst (λ (v : Cluster). (v.member n).status ≡ Up after_) (sym (world_both w a (x ∷ []))) then_up)

    of_step : (event : Event) → step_of (here a) x.row ≡ Some (n, event) → least + 1 ≤ after_.raft_server.memory.told
    of_step event e = subst (λ (s : AllocatorState). least + 1 ≤ s.raft_server.memory.told) (sym is)
        (tells_next_one ((here a).rows + 1) t event judged least (goes a (x ∷ b) cut).runs.holds (duly t ((here a).rows + 1) event)
        (ap (λ (s : AllocatorState). s.raft_server.memory.role) (sym is) ∙ leads_then)
        (room_at n a b x w (subst (HasRoomInSteps n w) cut room) t event (goes a (x ∷ b) cut).runs.up.status e)
        (subst (λ (s : AllocatorState). least < s.raft_server.store.commit) is high))
      where
        is : after_ ≡ (step t ((here a).rows + 1) event).step_state.allocator
        is = same_server after_ _ (sym then_up ∙ (stepped_up (here a) n t (goes a (x ∷ b) cut).runs.up x.row event e).status)

    pub tells_there : least + 1 ≤ after_.raft_server.memory.told
    tells_there = elim (step_or_not (here a) x.row n) [
      | inl z ↦ of_step z.0 z.1
      | inr z ↦
          let left = left_up (here a) n t (goes a (x ∷ b) cut).runs.up group clocks pace (goes a (x ∷ b) cut).traffic x.at x.row (goes a (x ∷ b) cut).calm.1 z in
          let one : after_.raft_server ≡ before.raft_server
          = ap (λ (s : AllocatorState). s.raft_server) (same_server after_ left.server (sym then_up ∙ left.its_up.status)) ∙ (left.same.raft_server
          ∙ ap (λ (s : AllocatorState). s.raft_server) same) in
          absurd (omega (arith, low, high, ap (λ (s : RaftServer). s.store.commit) one))
    ]

  -- ---- until it has committed the pair

  module _ (fit : (front rest : List Timed) (t : AllocatorState) → whole ≡ front ++ rest → ((here front).member n).status ≡ Up t
      → t.raft_server.memory.told ≤ t.raft_server.store.commit) (settles : LeaderSettles) (entry : Entry) where
    abbrev longer : List Entry
    longer = log ++ entry ∷ []

    abbrev clock : List Timed → ℕ
    clock front = end_of start front + clocks (OfMember n)

    -- it has settled with the longer log by this moment
    pub record SettlesBy (last : ℕ) : Type 0 where
      pub front : List Timed
      pub rest : List Timed
      pub split : whole ≡ front ++ rest
      pub soon : end_of start front ≤ last
      pub settled_then : HasSettled n longer (clock front) (here front)

    -- who has told and committed the longer log has settled
    pub has_settled : (a b : List Timed) → whole ≡ a ++ b → (h : LeadsWith n longer [] (clock a) (here a)) → least < h.server.raft_server.store.commit
        → least + 1 ≤ h.server.raft_server.memory.told → HasSettled n longer (clock a) (here a)
    has_settled a b cut h high told =
        (settles n (clock a) longer [] (here a) h
        (let s = (reached_at a b cut h.server h.runs).sane in omega (arith, s, high, size, ap (λ (l : List Entry). length l) h.log_is))
        (let s = (reached_at a b cut h.server h.runs).sane in let f = fit a b h.server cut h.runs in
        omega (arith, s, f, told, size, ap (λ (l : List Entry). length l) h.log_is))).settled
      where
        size : length longer ≡ least + 1
        size = let e = one_longer log entry in omega (arith, e)

    -- moments do not go back
    later : (a c b : List Timed) → whole ≡ a ++ (c ++ b) → end_of start a ≤ end_of start (a ++ c)
    later a c b cut =
        let from : GoesOnFrom group clocks pace start w (a ++ (c ++ b)) = record {
          traffic = no_traffic start;
          calm = subst (AreCalm group clocks pace (no_traffic start) w) cut calm;
          at_end = refl;
          ticked = λ party. omega arith;
        } in
        let low = not_before group clocks pace c (end_of start a) (here a)
        (calm_first group clocks pace c b (end_of start a) (here a) (calm_rest group clocks pace a (c ++ b) start w from)) in
        omega (arith, low, end_both start a c)

    module _ (stays : (a b : List Timed) (x : Timed) → whole ≡ a ++ x ∷ b → LeadsWith n longer [] (clock a) (here a) → IsUncommitted n (here a)
        → LeadsWith n longer [] (clock (a ++ x ∷ [])) (here (a ++ x ∷ []))) where
      waits : (a : List Timed) (h : LeadsWith n longer [] (clock a) (here a)) → h.server.raft_server.store.commit ≤ least → IsUncommitted n (here a)
      waits a h low t up =
          let same = same_server h.server t (sym h.runs ∙ up) in
          let size = one_longer log entry in
          omega (
            arith,
            low,
            size,
            ap (λ (l : List Entry). length l) h.log_is,
            ap (λ (s : AllocatorState). s.raft_server.store.commit) same,
            ap (λ (s : AllocatorState). length s.raft_server.store.log) same,
          )

      -- while it leads with the longer log, and where it has committed more in the end
      pub until : (t a b : List Timed) → whole ≡ a ++ (t ++ b) → (h : LeadsWith n longer [] (clock a) (here a)) → h.server.raft_server.store.commit ≤ least
          → (late : AllocatorState) → ((here (a ++ t)).member n).status ≡ Up late → least < late.raft_server.store.commit → (last : ℕ) → end_of start (a ++ t) ≤ last
          → SettlesBy last
      until [] a b cut h low late up high last soon =
          let same = same_server h.server late (sym h.runs ∙ subst (λ (l : List Timed). ((here l).member n).status ≡ Up late) (append-nil a) up) in
          absurd (omega (arith, low, high, ap (λ (s : AllocatorState). s.raft_server.store.commit) same))
      until (x ∷ t) a b cut h low late up high last soon =
          let then_ : LeadsWith n longer [] (clock (a ++ x ∷ [])) (here (a ++ x ∷ [])) = stays a (t ++ b) x cut h (waits a h low) in
          let longer_cut : whole ≡ (a ++ x ∷ []) ++ (t ++ b) = cut_more a (t ++ b) x cut in
          let one_more : (a ++ x ∷ []) ++ t ≡ a ++ x ∷ t = append_assoc a (x ∷ []) t in
          elim (lt_tells least then_.server.raft_server.store.commit) [
            | inl z ↦ record {
              front = a ++ x ∷ [];
              rest = t ++ b;
              split = longer_cut;
              soon = let l = later (a ++ x ∷ []) t b longer_cut in omega (arith, l, soon, ap (λ (l : List Timed). end_of start l) one_more);
              settled_then = has_settled (a ++ x ∷ []) (t ++ b) longer_cut then_ z.1
                  (tells_there a (t ++ b) x cut h.server then_.server h.runs low
                  (subst (λ (v : Cluster). (v.member n).status ≡ Up then_.server) (world_both w a (x ∷ [])) then_.runs) z.1);
            }
            | inr z ↦ until t (a ++ x ∷ []) b longer_cut then_ z.1 late (subst (λ (l : List Timed). ((here l).member n).status ≡ Up late) (sym one_more) up) high last
                (subst (λ (l : List Timed). end_of start l ≤ last) (sym one_more) soon)
          ]

      -- from the row on in which it records the pair
      pub from_record : (a b : List Timed) (x : Timed) → whole ≡ a ++ x ∷ b → (before : AllocatorState) → ((here a).member n).status ≡ Up before
          → before.raft_server.store.commit ≤ least → LeadsWith n longer [] (clock (a ++ x ∷ [])) (here (a ++ x ∷ [])) → (t c : List Timed) → b ≡ t ++ c
          → (late : AllocatorState) → ((here ((a ++ x ∷ []) ++ t)).member n).status ≡ Up late → least < late.raft_server.store.commit → (last : ℕ)
          → end_of start ((a ++ x ∷ []) ++ t) ≤ last → SettlesBy last
      from_record a b x cut before up low h t c tail late late_up high last soon =
          let longer_cut : whole ≡ (a ++ x ∷ []) ++ (t ++ c) = cut_more a b x cut ∙ ap (λ (l : List Timed). (a ++ x ∷ []) ++ l) tail in
          elim (lt_tells least h.server.raft_server.store.commit) [
            | inl z ↦ record {
              front = a ++ x ∷ [];
              rest = b;
              split = cut_more a b x cut;
              soon = let l = later (a ++ x ∷ []) t c longer_cut in omega (arith, l, soon);
              settled_then = has_settled (a ++ x ∷ []) b (cut_more a b x cut) h z.1
                  (tells_there a b x cut before h.server up low (subst (λ (v : Cluster). (v.member n).status ≡ Up h.server) (world_both w a (x ∷ [])) h.runs) z.1);
            }
            | inr z ↦ until t (a ++ x ∷ []) c longer_cut h z.1 late late_up high last soon
          ]
