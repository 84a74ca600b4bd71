-- What it is that elections end in a calm, round by round, whatever roles, terms and logs the members have when it
-- begins.
use Rattle.std.specs.Prelude.{◌≡◌, ◌≢◌, ◌⊎◌, ℕ, ◌+◌, ◌*◌, ◌<◌, ◌≤◌, List, ◌∷◌, ◌++◌, length}
use Rattle.can_frame.specs.Timing.{call_timeout}
use Rattle.raft_model.specs.Lists.{In}
use Rattle.bus_rows.specs.declared.row.Row.{Row}
use Rattle.alloc_spec.specs.AllocatorState.{AllocatorState}
use Rattle.bus_rows.specs.Timed.{Timed, rows_in}
use Rattle.service_alone.specs.Calm.{Pace, end_of}
use Rattle.service_candidate.specs.Elections.{AreInTerm, OthersFollow, longest_wait}
use Rattle.service_candidate.specs.Terms.{AreWithin, NobodyLeads}
use Rattle.service_candidate.specs.Votes.{Stands}
use Rattle.service_candidate.specs.Wins.{IsBehind, WinsBy}
use Rattle.service_leader.specs.LeadsOn.{LeadsIn}
use Rattle.service_leader.specs.NoElection.{heard_within}
use Rattle.service_elections.specs.Running.{IsCalmOf, IsLedBy, NobodyStandsIn, quiet_within}
use Rattle.service_calm.specs.Calm.{Member, Party}
use Rattle.bus_spec.specs.Cluster.{Cluster, after_row, after_rows, world_of}
use Rattle.bus_spec.specs.Members.MemberStatus.{Up}

-- ---- who leads

-- In each such calm, from any front on: where a member of the group leads there, in a term that no other one is above,
-- and nobody stands for election until it was heard, no election comes from then on. The others may have any roles.
abbrev pub WhoLeadsAtTheTop : List ℕ → List Row → Type 0
WhoLeadsAtTheTop ids rows = (group : List Party) (clocks : Party → ℕ) (pace : Pace) (start n term : ℕ)
    (first few rest : List Timed) → let there = after_rows (world_of ids rows) (rows_in first) in
    let from = end_of start first in
    IsCalmOf ids rows group clocks pace start (first ++ (few ++ rest)) → In (Member n) group → LeadsIn n term there →
    AreWithin group term there → NobodyStandsIn group there few → from + heard_within pace < end_of from few →
    IsLedBy group clocks pace from (end_of from few) there (few ++ rest)

-- A member that stands for election in a term above all others, and leads within four delays, leads the group: eight
-- delays later no election comes any more.
abbrev pub WhoWinsAtTheTop : List ℕ → List Row → Type 0
WhoWinsAtTheTop ids rows = (group : List Party) (clocks : Party → ℕ) (pace : Pace) (start c term : ℕ)
    (front early late : List Timed) (timed : Timed) →
    let there = after_rows (world_of ids rows) (rows_in front) in let then = after_row there timed.row in
    IsCalmOf ids rows group clocks pace start (front ++ timed ∷ (early ++ late)) → In (Member c) group →
    (s : Stands c term there timed.row) → AreWithin group s.before.raft_server.store.term there →
    end_of timed.at early ≤ timed.at + 4 * pace.delay → LeadsIn c term (after_rows then (rows_in early)) →
    timed.at + 8 * pace.delay < end_of timed.at (early ++ late) →
    IsLedBy group clocks pace timed.at (timed.at + 8 * pace.delay) then (early ++ late)

-- A member of the group that leads in a term that another one is above does not lead in it any more behind a front of
-- these rows, a call and its answer later.
abbrev pub LeadersBelowStepDown : List ℕ → List Row → Type 0
LeadersBelowStepDown ids rows = (group : List Party) (clocks : Party → ℕ) (pace : Pace) (start n m term : ℕ)
    (first few rest : List Timed) (server : AllocatorState) →
    let there = after_rows (world_of ids rows) (rows_in first) in let from = end_of start first in
    IsCalmOf ids rows group clocks pace start (first ++ (few ++ rest)) → In (Member n) group → In (Member m) group →
    (there.member m).status ≡ Up server → term < server.raft_server.store.term →
    NobodyStandsIn group there few → from + heard_within pace + 2 * pace.delay < end_of from few →
    (early : List Timed) × (late : List Timed) × (few ≡ early ++ late)
    × (LeadsIn n term (after_rows there (rows_in early)) → ⊥)

-- ---- somebody stands, or somebody leads

-- In one of these rows, by this moment, a member of the group stands for election, the first one to stand in them.
pub record StandsFirst (group : List Party) (last : ℕ) (w : Cluster) (whole : List Timed) : Type 0 where
  pub front : List Timed
  pub timed : Timed
  pub rest : List Timed
  pub split : whole ≡ front ++ timed ∷ rest
  pub soon : timed.at ≤ last
  pub nobody : NobodyStandsIn group w front
  pub c : ℕ
  pub member : In (Member c) group
  pub term : ℕ
  pub stands : Stands c term (after_rows w (rows_in front)) timed.row

-- In milliseconds, so long it takes at most until somebody stands for election, where no leader is known to all: until
-- the answers of the last election have come, until who leads in a lower term knows the highest one, until what it
-- called for is over, and until the longest wait is over.
abbrev pub stand_within : Pace → ℕ
stand_within pace = longest_wait + call_timeout + 5 * pace.period + 12 * pace.delay

-- In each such calm, from any front on that is `quiet_within` behind its beginning: somebody stands for election in
-- that time, or by then a member leads and no election comes any more, or the calm is over by then.
abbrev pub SomebodyStandsOrLeads : List ℕ → List Row → Type 0
SomebodyStandsOrLeads ids rows = (group : List Party) (clocks : Party → ℕ) (pace : Pace) (start : ℕ)
    (first later : List Timed) → let there = after_rows (world_of ids rows) (rows_in first) in
    let from = end_of start first in
    IsCalmOf ids rows group clocks pace start (first ++ later) → start + quiet_within pace ≤ from →
    from + stand_within pace < end_of from later →
    StandsFirst group (from + stand_within pace) there later
    ⊎ IsLedBy group clocks pace from (from + stand_within pace) there later

-- ---- in step

-- All members of the group are in this term, each but b follows, and nobody leads: b, which stood for election in the
-- term, may be a candidate.
pub record AreInStep (group : List Party) (b term : ℕ) (w : Cluster) : Type 0 where
  pub in_term : AreInTerm group term w
  pub follow : OthersFollow group b w
  pub unled : NobodyLeads group w

-- behind no front of these rows a member of the group leads in this term
abbrev pub NobodyLedIn : List Party → (term : ℕ) → Cluster → List Timed → Type 0
NobodyLedIn group term w whole = (front rest : List Timed) (n : ℕ) → whole ≡ front ++ rest → In (Member n) group →
    LeadsIn n term (after_rows w (rows_in front)) → ⊥

-- In each such calm, later than `quiet_within` behind its beginning: where all members of the group are in step, nobody
-- led in their term by then, and one stands whose log is not behind any other, it wins within four delays.
abbrev pub WhoIsFurthestWins : List ℕ → List Row → Type 0
WhoIsFurthestWins ids rows = (group : List Party) (clocks : Party → ℕ) (pace : Pace) (start b c term top : ℕ)
    (front rest : List Timed) (timed : Timed) → let w = world_of ids rows in
    let there = after_rows w (rows_in front) in
    IsCalmOf ids rows group clocks pace start (front ++ timed ∷ rest) → In (Member c) group →
    start + quiet_within pace + 4 * pace.delay < timed.at → (s : Stands c term there timed.row) →
    AreInStep group b top there →
    NobodyLedIn group top w front → ((m : ℕ) → In (Member m) group → m ≢ c → IsBehind m term s.before there) →
    timed.at + 4 * pace.delay < end_of timed.at rest →
    WinsBy group clocks c term timed.at (timed.at + 4 * pace.delay) (after_row there timed.row) rest

-- In milliseconds, so long it takes at most until somebody leads, once a member has stood for election in a term above
-- all others: by then all members are in step, and one of those whose logs are furthest stands, unless another one wins
-- before. Its wait begins anew once at most: where it was the one that had stood.
abbrev pub step_within : Pace → ℕ
step_within pace = 2 * (longest_wait + pace.period) + 14 * pace.delay

-- In each such calm, later than `quiet_within` and eight delays behind its beginning: where a member of the group
-- stands for election in a term that is above all others, a member leads in that time, and no election comes any
-- more, or the calm is over by then.
abbrev pub WhoStandsAtTheTop : List ℕ → List Row → Type 0
WhoStandsAtTheTop ids rows = (group : List Party) (clocks : Party → ℕ) (pace : Pace) (start c term : ℕ)
    (front rest : List Timed) (timed : Timed) → let there = after_rows (world_of ids rows) (rows_in front) in
    IsCalmOf ids rows group clocks pace start (front ++ timed ∷ rest) → In (Member c) group →
    start + quiet_within pace + 8 * pace.delay < timed.at → (s : Stands c term there timed.row) →
    AreWithin group s.before.raft_server.store.term there → timed.at + step_within pace < end_of timed.at rest →
    IsLedBy group clocks pace timed.at (timed.at + step_within pace) (after_row there timed.row) rest

-- ---- elections end

-- In milliseconds, so long it takes at most until a cluster of so many members is led: each member may stand once
-- before it knows the highest term.
abbrev pub led_within : Pace → (size : ℕ) → ℕ
led_within pace size =
    quiet_within pace + 8 * pace.delay + pace.period + size * stand_within pace + step_within pace

-- In each such calm a member of the group leads in that time, and no election comes any more, or the calm is over by
-- then.
abbrev pub LeadersCome : List ℕ → List Row → Type 0
LeadersCome ids rows = (group : List Party) (clocks : Party → ℕ) (pace : Pace) (start : ℕ) (whole : List Timed) →
    IsCalmOf ids rows group clocks pace start whole → start + led_within pace (length ids) < end_of start whole →
    IsLedBy group clocks pace start (start + led_within pace (length ids)) (world_of ids rows) whole
