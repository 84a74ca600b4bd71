use Rattle.std.proofs.Common.{ℕ, List, ◌++◌, subst}
use Rattle.bus_rows.specs.declared.row.Row.{Row}
use Rattle.service_leader.specs.EntriesBelow.{AppendsPend, CallsInside, HasWhatIsKnown, PendInTerm, PendingCallsArePast}
use Rattle.service_leader.proofs.EntriesHave.{appends_pend, has_known, inside, past, pend_in_term}
use Rattle.service_calm.proofs.Grounds.{choice, invariants, is_server, its_run, made, shown}
use Rattle.service_leader.proofs.Stretches.{harmless_both}
use Rattle.service_leader.proofs.laws.what_entries_stand_on.Goals as goal
use Rattle.bus_spec.specs.Cluster.{cluster, world_of}
use Rattle.bus_spec.specs.Lawful.{DoNoHarm}
use Rattle.bus_spec.specs.Refinement.{events}

pub returns : goal.returns
returns c = λ ids rows members harmless.
    let below = c.what_calms_stand_on.ensures in
    let both = λ (later : List Row) (h : DoNoHarm (world_of ids rows) later). harmless_both (cluster ids) rows later harmless h in
    let fits = λ (list : List Row) (h : DoNoHarm (cluster ids) list) (member : ℕ).
    c.law_fit.ensures.run ids (events (choice below ids members list h) (cluster ids) list) member (shown below ids members list h).lawful in
    let has = λ (list : List Row) (h : DoNoHarm (cluster ids) list).
    subst (λ (l : List ℕ). HasWhatIsKnown l (world_of ids list)) (below.same (cluster ids) list)
    (has_known (choice below ids members list h) (made below ids members list h) (world_of ids list) (its_run below ids members list h) (shown below ids members list h).shows
    below.codec (invariants below ids members list h) (fits list h)) in
    let appends = λ (list : List Row) (h : DoNoHarm (cluster ids) list).
    subst (λ (l : List ℕ). AppendsPend l (world_of ids list)) (below.same (cluster ids) list)
    (appends_pend (choice below ids members list h) (made below ids members list h) (world_of ids list) (its_run below ids members list h) (shown below ids members list h).shows
    below.codec (invariants below ids members list h) (fits list h)) in
    let terms = λ (list : List Row) (h : DoNoHarm (cluster ids) list).
    subst (λ (l : List ℕ). PendInTerm l (world_of ids list)) (below.same (cluster ids) list)
    (pend_in_term (choice below ids members list h) (made below ids members list h) (world_of ids list) (its_run below ids members list h) (shown below ids members list h).shows
    below.codec (invariants below ids members list h) (fits list h)) in
    let within = λ (list : List Row) (h : DoNoHarm (cluster ids) list).
    subst (λ (l : List ℕ). CallsInside l (world_of ids list)) (below.same (cluster ids) list)
    (inside (choice below ids members list h) (made below ids members list h) (world_of ids list) (its_run below ids members list h) (shown below ids members list h).shows
    below.codec (invariants below ids members list h) (fits list h)) in
    let made_before = λ (list : List Row) (h : DoNoHarm (cluster ids) list).
    subst (λ (l : List ℕ). PendingCallsArePast l (world_of ids list)) (below.same (cluster ids) list)
    (past (choice below ids members list h) (made below ids members list h) (world_of ids list) (its_run below ids members list h) (shown below ids members list h).shows
    below.codec (invariants below ids members list h) (fits list h)) in
    record {
      me = below.in_step.me;
      made = below.in_step.called;
      ask = c.calls_ask_for_the_next_place.ensures;
      touch = c.steps_are_in_time.ensures.in_touch;
      stay = c.who_is_listed_stays.ensures;
      read = λ later h. c.calls_read_as_said.ensures ids (rows ++ later) members (both later h);
      accept = λ later h. c.calls_to_who_is_in_step_are_accepted.ensures.rows ids (rows ++ later) members (both later h);
      duty = λ later h. c.rows_are_dutiful.ensures ids (rows ++ later) members (both later h);
      has = λ later h. has (rows ++ later) (both later h);
      appends = λ later h. appends (rows ++ later) (both later h);
      terms = λ later h. terms (rows ++ later) (both later h);
      inside = λ later h. within (rows ++ later) (both later h);
      past = made_before rows harmless;
      node = λ p server i up. (is_server below ids members rows harmless p server i up).me;
    }
