-- A leader that has committed its log tells a place in each step: so it settles in time, or a request makes its log grow.
use Rattle.std.proofs.Common.{zero, suc, ◌≡◌, ℕ, ◌+◌, ◌*◌, ◌<◌, ◌≤◌, List, [], ◌∷◌, ◌++◌, length, append_assoc, sym, ◌∙◌, ap, subst, arith, inl, inr, Some}
use Rattle.std.specs.Prelude.{◌⊎◌}
use Rattle.can_frame.specs.declared.entry.Entry.{Entry}
use Rattle.bus_rows.specs.declared.row.Row.{Row}
use Rattle.alloc_spec.specs.AllocatorState.{AllocatorState}
use Rattle.alloc_spec.specs.Step.{Event, step}
use Rattle.alloc_spec_laws.specs.Phases.{TellsDuly, when_committed, when_told}
use Rattle.alloc_spec_laws.proofs.Choices.{lt_tells}
use Rattle.bus_rows.specs.Timed.{Timed, rows_in}
use Rattle.service_alone.specs.Calm.{Pace, end_of}
use Rattle.service_calm.specs.Calm.{Member as OfMember, Party}
use Rattle.service_calm.proofs.Calls.{Always}
use Rattle.service_calm.proofs.CallsKept.{IsKept, RunsWith}
use Rattle.service_calm.proofs.Pair.{same_server}
use Rattle.service_leader.proofs.EntriesParts.{Ticks, reads_step, ticks_by}
use Rattle.service_leader.proofs.RowsOfOne.{stepped_up}
use Rattle.service_leader.proofs.Stretches.{GoesOnFrom, end_both, end_last, world_both}
use Rattle.service_device.specs.Recorded.{EachRowKeepsTheLog, LeaderSettles}
use Rattle.service_device.specs.ServedTold.{HasRoomInSteps}
use Rattle.service_device.specs.Settled.{IsCalmUnder}
use Rattle.service_device.specs.Settles.{GrowsBy, HasSettledBy, MayHaveBlank}
use Rattle.service_device.proofs.AllocationsTold.{VerdictsAre}
use Rattle.service_device.proofs.ServedTold.{HasReached, reached_on, tells_next_one}
use Rattle.service_device.proofs.ServedToldRows.{room_at}
use Rattle.service_device.proofs.SettlesCommits.{StillLeads, committed_on, still_leads}
use Rattle.service_device.proofs.SettlesFrom.{Any, carry, cut_more, goes_behind, leads_at, runs_at}
use Rattle.bus_spec.specs.Cluster.{Cluster, after_rows, step_of, world_of}
use Rattle.bus_spec.specs.Members.MemberStatus.{Up}

-- no step tells less, or commits less
pub told_kept : VerdictsAre → (least : ℕ) → IsKept Always (λ (t : AllocatorState). HasReached least t.raft_server)
told_kept judged least = record { stepped = λ t number event may h. reached_on number t event judged least h; popped = λ t h. h }

module _ (ids : List ℕ) (rows : List Row) (group : List Party) (clocks : Party → ℕ) (pace : Pace) (start n term : ℕ) (first later : List Timed)
    (under : IsCalmUnder ids rows group clocks pace start n term first later) (keeps_row : EachRowKeepsTheLog ids rows) (judged : VerdictsAre)
    (log longer : List Entry) (its_log : MayHaveBlank log term longer)
    (sane : (a b : List Timed) (t : AllocatorState) → later ≡ a ++ b
    → ((after_rows (after_rows (world_of ids rows) (rows_in first)) (rows_in a)).member n).status ≡ Up t → t.raft_server.store.commit ≤ length t.raft_server.store.log)
    (fit : (a b : List Timed) (t : AllocatorState) → later ≡ a ++ b
    → ((after_rows (after_rows (world_of ids rows) (rows_in first)) (rows_in a)).member n).status ≡ Up t → t.raft_server.memory.told ≤ t.raft_server.store.commit)
    (duly : (t : AllocatorState) (number : ℕ) (event : Event) → TellsDuly number (when_committed t number event) (when_told t number event))
    (settles : LeaderSettles) (room : HasRoomInSteps n (after_rows (world_of ids rows) (rows_in first)) later) where
  abbrev w : Cluster
  w = world_of ids rows

  abbrev led_from : Cluster
  led_from = after_rows w (rows_in first)

  abbrev from : ℕ
  from = end_of start first

  abbrev at : List Timed → Cluster
  at a = after_rows led_from (rows_in a)

  abbrev On : List Timed → Type 0
  On = StillLeads ids rows group clocks pace start n term first later under keeps_row judged log longer its_log sane

  -- so much is told
  abbrev Told : ℕ → List Timed → Type 0
  Told least a = (t : AllocatorState) → ((at a).member n).status ≡ Up t → HasReached least t.raft_server

  carried : (least : ℕ) (a t b : List Timed) → later ≡ a ++ (t ++ b) → Told least a → Told least (a ++ t)
  carried least a t b cut told v then_up =
      let x : RunsWith Any ((at a).member n) = runs_at w group clocks pace start n first later under.calm (under.running n under.member) a (t ++ b) cut in
      carry w group clocks pace start n first later under.calm (under.running n under.member) (λ (s : AllocatorState). HasReached least s.raft_server)
      (told_kept judged least) a t b cut x.server x.up.status (told x.server x.up.status) v then_up

  -- in a step of the leader the next place is told
  tells_one : (least : ℕ) (a b : List Timed) (x : Timed) → later ≡ a ++ x ∷ b → (event : Event) → step_of (at a) x.row ≡ Some (n, event) → Told least a
      → (v : AllocatorState) → ((at (a ++ x ∷ [])).member n).status ≡ Up v → least < v.raft_server.store.commit → HasReached (least + 1) v.raft_server
  tells_one least a b x cut event e told v then_up high = record {
    sane = kept.sane;
    told = subst (λ (s : AllocatorState). least + 1 ≤ s.raft_server.memory.told) (sym is)
        (tells_next_one ((at a).rows + 1) t event judged least (told t it.up.status) (duly t ((at a).rows + 1) event)
        (ap (λ (s : AllocatorState). s.raft_server.memory.role) (sym is)
        ∙ (leads_at ids rows group clocks pace start n term first later under (a ++ x ∷ []) b
        (cut_more w group clocks pace start n first later under.calm (under.running n under.member) a b x cut) v then_up).0)
        (room_at n a b x led_from (subst (HasRoomInSteps n led_from) cut room) t event it.up.status e)
        (subst (λ (s : AllocatorState). least < s.raft_server.store.commit) is high));
    committed = omega (arith, high);
  }
    where
      it : RunsWith Any ((at a).member n)
      it = runs_at w group clocks pace start n first later under.calm (under.running n under.member) a (x ∷ b) cut

      t : AllocatorState
      t = it.server

      kept : HasReached least v.raft_server
      kept = carried least a (x ∷ []) b cut told v then_up

      is : v ≡ (step t ((at a).rows + 1) event).step_state.allocator
      is = same_server v _ (sym (subst (λ (u : Cluster). (u.member n).status ≡ Up v) (world_both led_from a (x ∷ [])) then_up)
          ∙ (stepped_up (at a) n t it.up x.row event e).status)

  -- the leader reads its clock within a period
  record NextTick (a : List Timed) : Type 0 where
    front : List Timed
    row : Timed
    more : List Timed
    split : later ≡ a ++ (front ++ row ∷ more)
    soon : row.at ≤ end_of from a + pace.period
    event : Event
    stepped : step_of (at (a ++ front)) row.row ≡ Some (n, event)

  next_tick : (a b : List Timed) → later ≡ a ++ b → end_of from a + pace.period < end_of from later → NextTick a
  next_tick a b cut long = record {
    front = ticks.front;
    row = ticks.row;
    more = ticks.more;
    split = cut ∙ ap (λ (l : List Timed). a ++ l) ticks.split;
    soon = ticks.soon;
    event = (reads_step (at (a ++ ticks.front)) ticks.row.row n ticks.ticks).0;
    stepped = (reads_step (at (a ++ ticks.front)) ticks.row.row n ticks.ticks).1;
  }
    where
      goes : GoesOnFrom group clocks pace (end_of from a) (at a) b
      goes = goes_behind w group clocks pace start n first later under.calm (under.running n under.member) a b cut

      ticks : Ticks group clocks pace n under.member (end_of from a) b
      ticks = ticks_by group clocks pace n under.member b (end_of from a) goes.traffic (at a) goes.calm (goes.ticked (OfMember n))
          (let e = goes.at_end in omega (arith, e))
          (let same = ap (λ (k : ℕ). end_of k b) goes.at_end in
          let ends = ap (end_of from) cut ∙ end_both from a b in
          omega (arith, same, ends, long))

  -- ---- until all is told

  module _ (last : ℕ) (long : last < end_of from later) where
    abbrev Ends : Type 0
    Ends = HasSettledBy n term log (clocks (OfMember n)) from last led_from later ⊎ GrowsBy n term log (clocks (OfMember n)) from last led_from later

    -- who has told all has settled
    all_told : (a b : List Timed) → later ≡ a ++ b → end_of from a ≤ last → (on : On a) → on.leads.server.raft_server.store.commit ≡ length longer
        → length longer ≤ on.leads.server.raft_server.memory.told → Ends
    all_told a b cut soon on committed told = inl (record {
      front = a;
      rest = b;
      split = cut;
      soon = soon;
      log_then = longer;
      its_log = its_log;
      settled = (settles n (end_of from a + clocks (OfMember n)) longer on.accepted (at a) on.leads committed
          (let f = fit a b on.leads.server cut on.leads.runs in omega (arith, f, told, committed))).settled;
    })

    -- a step further, from which on it is shown
    module _ (left least : ℕ) (a b : List Timed) (cut : later ≡ a ++ b) (soon : end_of from a + (pace.period + left * pace.period) ≤ last) (on : On a)
        (committed : on.leads.server.raft_server.store.commit ≡ length longer) (told : Told least a) (low : least < length longer)
        (goes_on : (c d : List Timed) → later ≡ c ++ d → end_of from c + left * pace.period ≤ last → (then_ : On c)
        → then_.leads.server.raft_server.store.commit ≡ length longer → Told (least + 1) c → Ends) where
      tick : NextTick a
      tick = next_tick a b cut (omega (arith, soon, long))

      abbrev passed : List Timed
      passed = tick.front ++ tick.row ∷ []

      abbrev ticked : List Timed
      ticked = a ++ passed

      whole : later ≡ a ++ (passed ++ tick.more)
      whole = tick.split ∙ ap (λ (l : List Timed). a ++ l) (sym (append_assoc tick.front (tick.row ∷ []) tick.more))

      cut_before : later ≡ (a ++ tick.front) ++ tick.row ∷ tick.more
      cut_before = tick.split ∙ sym (append_assoc a tick.front (tick.row ∷ tick.more))

      joined : (a ++ tick.front) ++ tick.row ∷ [] ≡ ticked
      joined = append_assoc a tick.front (tick.row ∷ [])

      by_last : end_of from ticked + left * pace.period ≤ last
      by_last =
          let e = ap (λ (l : List Timed). end_of from l) joined in
          let f = end_last from (a ++ tick.front) tick.row in
          let s = tick.soon in omega (arith, e, f, s, soon)

      all : (then_ : On ticked) → then_.leads.server.raft_server.store.commit ≡ length longer
      all then_ = committed_on ids rows group clocks pace start n term first later under keeps_row judged log longer its_log sane a passed tick.more whole
          on.leads.server on.leads.runs (omega (arith, committed)) then_.leads.server then_.leads.runs then_.leads.log_is

      told_then : On ticked → Told (least + 1) ticked
      told_then then_ v up = tells_one least (a ++ tick.front) tick.more tick.row cut_before tick.event tick.stepped
          (carried least a tick.front (tick.row ∷ tick.more) tick.split told) v
          (subst (λ (l : List Timed). ((at l).member n).status ≡ Up v) (sym joined) up)
          (let same = same_server then_.leads.server v (sym then_.leads.runs ∙ up) in
          let c = ap (λ (s : AllocatorState). s.raft_server.store.commit) same in let e = all then_ in omega (arith, c, e, low))

      one_more : Ends
      one_more = elim (still_leads ids rows group clocks pace start n term first later under keeps_row judged log longer its_log sane last passed a tick.more whole
          (let l = by_last in omega (arith, l)) on) [
            | inr growth ↦ inr growth
            | inl then_ ↦ goes_on ticked tick.more (whole ∙ sym (append_assoc a passed tick.more)) by_last then_ (all then_) (told_then then_)
          ]

    suc_times : (k p : ℕ) → suc k * p ≡ p + k * p
    suc_times k p = omega arith

    pub tells_all : (left least : ℕ) (a b : List Timed) → later ≡ a ++ b → end_of from a + left * pace.period ≤ last → (on : On a)
        → on.leads.server.raft_server.store.commit ≡ length longer → Told least a → length longer ≤ least + left → Ends
    tells_all zero least a b cut soon on committed told enough =
        all_told a b cut (omega (arith, soon)) on committed (let r = (told on.leads.server on.leads.runs).told in omega (arith, r, enough))
    tells_all (suc left) least a b cut soon on committed told enough = elim (lt_tells least (length longer)) [
      | inr z ↦ all_told a b cut (omega (arith, soon)) on committed (let r = (told on.leads.server on.leads.runs).told in let h = z.1 in omega (arith, r, h))
      | inl z ↦ one_more left least a b cut (let t = suc_times left pace.period in omega (arith, soon, t)) on committed told z.1
          (λ c d cut_then soon_then then_ all_then told_more. tells_all left (least + 1) c d cut_then soon_then then_ all_then told_more (omega (arith, enough)))
    ]
