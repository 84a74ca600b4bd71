-- Who stands for election in a calm that goes on is heard.
use Rattle.std.proofs.Common.{◌≡◌, ℕ, ◌+◌, ◌*◌, ◌<◌, ◌≤◌, arith, List, [], ◌∷◌, ◌++◌, sym, ◌∙◌, subst}
use Rattle.std.proofs.lemmas.List.{append_assoc}
use Rattle.raft_model.specs.Lists.{In}
use Rattle.bus_rows.specs.declared.row.Row.{Row}
use Rattle.alloc_spec.specs.AllocatorState.{AllocatorState}
use Rattle.service_candidate.specs.Votes.{Stands}
use Rattle.service_candidate.specs.Wins.{WhoStandsIsHeard}
use Rattle.service_leader.proofs.Stretches.{GoesOnFrom, end_both, in_between, not_before}
use Rattle.service_elections.specs.Running.{IsCalmOf}
use Rattle.service_elections.specs.Sent.{StandersAreHeard}
use Rattle.service_elections.proofs.CalmFronts.{Calm, at, calm_of, goes_at}
use Rattle.service_calm.specs.Calm.{Member as OfMember, Party}
use Rattle.bus_rows.specs.Timed.{Timed, rows_in}
use Rattle.service_alone.specs.Calm.{Pace, end_of}
use Rattle.bus_spec.specs.Cluster.{after_row, after_rows, world_of}
use Rattle.bus_spec.specs.Members.MemberStatus.{Up}

-- ---- rows behind a front

module _ (ids : List ℕ) (rows : List Row) (group : List Party) (clocks : Party → ℕ) (pace : Pace) (start : ℕ) (whole : List Timed)
    (calm : IsCalmOf ids rows group clocks pace start whole) (first late : List Timed) (moment : ℕ) (e : whole ≡ first ++ late) (end_is : end_of start first ≡ moment) where
  abbrev cut_calm : Calm
  cut_calm = calm_of ids rows group clocks pace start whole calm

  goes : GoesOnFrom group clocks pace moment (at cut_calm first) late
  goes = subst (λ (m : ℕ). GoesOnFrom group clocks pace m (at cut_calm first) late) end_is
      (goes_at cut_calm first late e)

  -- they come no earlier than the front ends
  pub no_earlier : (x : Timed) → In x late → moment ≤ x.at
  no_earlier x i = (in_between group clocks pace late moment (at cut_calm first) goes x i).0

  -- nor end earlier
  pub ends_later : moment ≤ end_of moment late
  ends_later = not_before group clocks pace late moment (at cut_calm first) goes

-- ---- who stands is heard

module _ (ids : List ℕ) (rows : List Row) (heard : WhoStandsIsHeard ids rows) (group : List Party) (clocks : Party → ℕ) (pace : Pace) (start c m term : ℕ)
    (front early late : List Timed) (timed : Timed) (server : AllocatorState) (calm : IsCalmOf ids rows group clocks pace start (front ++ timed ∷ (early ++ late)))
    (in_c : In (OfMember c) group) (in_m : In (OfMember m) group) (s : Stands c term (after_rows (world_of ids rows) (rows_in front)) timed.row)
    (later : (x : Timed) → In x late → timed.at + 2 * pace.delay < x.at) (long : timed.at + 2 * pace.delay < end_of timed.at (early ++ late))
    (up : ((after_rows (after_row (after_rows (world_of ids rows) (rows_in front)) timed.row) (rows_in early)).member m).status ≡ Up server) where
  pub is_heard : term ≤ server.raft_server.store.term
  is_heard =
      let slow = calm.quick in
      let quick : 2 * pace.delay ≤ 2000 = omega (arith, slow) in
      heard group clocks pace start c m term front early late timed server calm.listed calm.running in_c in_m quick (λ other. calm.ask c m in_c in_m (λ e. other (sym e)))
      (calm.asks_fit c in_c) calm.calm calm.harmless s later long up

-- behind rows that last two delays
pub standers_are_heard : (ids : List ℕ) (rows : List Row) → WhoStandsIsHeard ids rows → StandersAreHeard ids rows
standers_are_heard ids rows heard group clocks pace start c m term front early late timed server calm in_c in_m s long up =
    is_heard ids rows heard group clocks pace start c m term front early late timed server calm in_c in_m s
    (λ x i. let k = no_earlier ids rows group clocks pace start (front ++ timed ∷ (early ++ late)) calm (front ++ timed ∷ early) late (end_of timed.at early) cut ends x i in
    omega (arith, k, long))
    (let k = ends_later ids rows group clocks pace start (front ++ timed ∷ (early ++ late)) calm (front ++ timed ∷ early) late (end_of timed.at early) cut ends in
    let l = end_both timed.at early late in omega (arith, k, l, long)) up
  where
    cut : front ++ timed ∷ (early ++ late) ≡ (front ++ timed ∷ early) ++ late
    cut = sym (append_assoc front (timed ∷ early) late)

    ends : end_of start (front ++ timed ∷ early) ≡ end_of timed.at early
    ends = end_both start front (timed ∷ early)
