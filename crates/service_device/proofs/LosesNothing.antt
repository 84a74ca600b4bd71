-- A leader of a calm loses nothing: its log grows behind its end, and of a member it knows no fewer places.
use Rattle.std.proofs.Common.{◌≡◌, ℕ, ◌≤◌, List, ◌++◌, append_assoc, sym, ◌∙◌, ap, subst, arith}
use Rattle.can_frame.specs.declared.entry.Entry.{Entry}
use Rattle.bus_rows.specs.declared.row.Row.{Row}
use Rattle.alloc_spec.specs.AllocatorState.{AllocatorState}
use Rattle.bus_rows.specs.Timed.{Timed, rows_in}
use Rattle.service_alone.specs.Calm.{Pace}
use Rattle.service_calm.specs.Calm.{Party}
use Rattle.service_leader.specs.CallsComeBack.{LeadsIfUp}
use Rattle.service_leader.specs.EntriesBelow.{EntryLaws}
use Rattle.service_leader.specs.NoElection.{CallsFit}
use Rattle.service_leader.proofs.EntriesCome.{is_led_calm}
use Rattle.service_leader.proofs.EntriesRows.{IsLedCalm, grown, leads_if_up}
use Rattle.service_leader.proofs.Stretches.{world_both}
use Rattle.service_device.specs.Settled.{IsCalmUnder}
use Rattle.bus_spec.specs.Cluster.{Cluster, after_rows, world_of}
use Rattle.bus_spec.specs.Members.MemberStatus.{Up}

-- between any two moments of these rows the log of member n grows behind its end alone
abbrev pub LogGrows : ℕ → Cluster → List Timed → Type 0
LogGrows n w whole = (front middle rest : List Timed) (before after : AllocatorState) → whole ≡ front ++ (middle ++ rest)
    → ((after_rows w (rows_in front)).member n).status ≡ Up before → ((after_rows w (rows_in (front ++ middle))).member n).status ≡ Up after
    → (more : List Entry) × (after.raft_server.store.log ≡ before.raft_server.store.log ++ more)

-- and what it has committed stays so
abbrev pub CommitsStay : ℕ → Cluster → List Timed → Type 0
CommitsStay n w whole = (front middle rest : List Timed) (before after : AllocatorState) (least : ℕ) → whole ≡ front ++ (middle ++ rest)
    → ((after_rows w (rows_in front)).member n).status ≡ Up before → ((after_rows w (rows_in (front ++ middle))).member n).status ≡ Up after
    → least ≤ before.raft_server.store.commit → least ≤ after.raft_server.store.commit

-- what it knows and has at the earlier moment, at which it leads, it knows and has at the later one
pub loses_nothing : (ids : List ℕ) (rows : List Row) → EntryLaws ids rows → (group : List Party) (clocks : Party → ℕ) (pace : Pace) (start n m term : ℕ)
    (early middle late : List Timed) → IsLedCalm ids rows group clocks pace start n term (early ++ (middle ++ late))
    → LeadsIfUp n term (after_rows (world_of ids rows) (rows_in early)) → (before after : AllocatorState)
    → ((after_rows (world_of ids rows) (rows_in early)).member n).status ≡ Up before
    → ((after_rows (world_of ids rows) (rows_in (early ++ middle))).member n).status ≡ Up after
    → ((more : List Entry) × (after.raft_server.store.log ≡ before.raft_server.store.log ++ more))
    × (before.raft_server.memory.matched m ≤ after.raft_server.memory.matched m)
loses_nothing ids rows laws group clocks pace start n m term early middle late calm leads before after up then_up =
    let kept = grown ids rows laws group clocks pace start n term (early ++ (middle ++ late)) calm m early middle late (before.raft_server.memory.next m)
    (sym (append_assoc early middle late)) leads before up (omega arith) after then_up in
    ((kept.more, kept.log_is), kept.matched_is)

-- where it leads behind the first rows of a calm, its log grows so behind them
pub log_grows : (ids : List ℕ) (rows : List Row) → EntryLaws ids rows → (group : List Party) (clocks : Party → ℕ) (pace : Pace) (start n term : ℕ)
    (first later : List Timed) → IsCalmUnder ids rows group clocks pace start n term first later
    → CallsFit n (world_of ids rows) (first ++ later) → LogGrows n (after_rows (world_of ids rows) (rows_in first)) later
log_grows ids rows laws group clocks pace start n term first later under fits front middle rest before after cut up then_up =
    let w : Cluster = world_of ids rows in
    let there : Cluster = after_rows w (rows_in first) in
    let whole : first ++ later ≡ (first ++ front) ++ (middle ++ rest) = ap (λ (l : List Timed). first ++ l) cut ∙ sym (append_assoc first front (middle ++ rest)) in
    (loses_nothing ids rows laws group clocks pace start n 0 term (first ++ front) middle rest
    (subst (IsLedCalm ids rows group clocks pace start n term) whole
    (is_led_calm ids rows group clocks pace start n term first later under.listed under.running under.member under.calm under.harmless under.led fits))
    (subst (LeadsIfUp n term) (sym (world_both w first front)) (leads_if_up n term (after_rows there (rows_in front)) (under.led front (middle ++ rest) cut).leader))
    before after (subst (λ (v : Cluster). (v.member n).status ≡ Up before) (sym (world_both w first front)) up)
    (subst (λ (v : Cluster). (v.member n).status ≡ Up after)
    (sym (world_both w first (front ++ middle)) ∙ ap (λ (l : List Timed). after_rows w (rows_in l)) (sym (append_assoc first front middle))) then_up)).0
