-- What it is that who stands for election alone, in the highest term and with the log that is furthest, wins; and that
-- who does not win knows the highest term.
use Rattle.std.specs.Prelude.{⊤, ◌≡◌, ◌≢◌, ◌⊎◌, ℕ, ◌+◌, ◌*◌, ◌<◌, ◌≤◌, ◌==◌, ◌||◌, Bool, false, true, List, []}
use Rattle.std.specs.Prelude.{◌∷◌, ◌++◌, length, Some}
use Rattle.can_frame.specs.declared.step.What.TheVariants.{VoteQ}
use Rattle.can_frame.specs.Timing.{call_timeout, transfer_timeout}
use Rattle.raft_model.specs.Lists.{In, how_many}
use Rattle.can_frame.specs.Log.{last_term}
use Rattle.raft_model.specs.Log.{NotAbove}
use Rattle.raft_model.specs.Server.{quorum}
use Rattle.raft_model.specs.Server.Role.{Follower}
use Rattle.bus_rows.specs.declared.row.Row.{Row}
use Rattle.alloc_spec.specs.AllocatorState.{AllocatorState}
use Rattle.alloc_spec.specs.Step.{Event, step}
use Rattle.alloc_spec.specs.Transfers.{Offer}
use Rattle.bus_rows.specs.Timed.{Timed, rows_in}
use Rattle.service_alone.specs.Calm.{Pace, end_of}
use Rattle.service_candidate.specs.Terms.{AreWithin, NobodyLeads}
use Rattle.service_candidate.specs.Votes.{CanAsk, HearsAppend, Stands}
use Rattle.service_leader.specs.CallsComeBack.{LeadsNotIfUp, LeadsOn}
use Rattle.service_leader.specs.LeadsOn.{IsLed}
use Rattle.service_calm.specs.Calm.{AreCalm, AreRunning, Device, Member, Party, no_traffic}
use Rattle.service_calm.specs.Comes.{Throughout}
use Rattle.bus_spec.specs.Cluster.{Cluster, after_row, after_rows, step_of, world_of}
use Rattle.bus_spec.specs.Lawful.{DoNoHarm}
use Rattle.bus_spec.specs.Members.MemberStatus.{Up}

-- ---- who asks, and whom

-- in this row member n offers a vote request to member m, whether or not its queue has room for it
pub record OffersVoteRequest (n m : ℕ) (w : Cluster) (row : Row) : Type 0 where
  pub server : AllocatorState
  pub runs : (w.member n).status ≡ Up server
  pub event : Event
  pub in_step : step_of w row ≡ Some (n, event)
  pub offer : Offer
  pub offered : In offer (step server (w.rows + 1) event).step_state.offers
  pub what : offer.what ≡ VoteQ
  pub to : offer.to ≡ m

-- in each of these rows the queue of member n has room for each vote request that it offers
abbrev pub VoteRequestsFit : ℕ → Cluster → List Timed → Type 0
VoteRequestsFit n w [] = ⊤
VoteRequestsFit n w (timed ∷ rest) = ((m : ℕ) (asks : OffersVoteRequest n m w timed.row) → asks.offer.fitted ≡ true)
    × VoteRequestsFit n (after_row w timed.row) rest

-- In those of these rows that come so long before this moment at most, member n asks no member of the group for its
-- vote.
abbrev pub AsksNobodySince : List Party → (n moment within : ℕ) → Cluster → List Timed → Type 0
AsksNobodySince group n moment within w whole = (front rest : List Timed) (timed : Timed) (m : ℕ) →
    whole ≡ front ++ timed ∷ rest → moment ≤ timed.at + within → In (Member m) group →
    OffersVoteRequest n m (after_rows w (rows_in front)) timed.row → ⊥

-- whether the member is of the group
abbrev pub is_of : List Party → ℕ → Bool
is_of [] n = false
is_of (Member m ∷ group) n = (m == n) || is_of group n
is_of (Device a ∷ group) n = is_of group n

-- In these rows, up to this moment, no other member of the group than c stands for election.
abbrev pub StandsAlone : List Party → (c last : ℕ) → Cluster → List Timed → Type 0
StandsAlone group c last w whole = (front rest : List Timed) (timed : Timed) (n term : ℕ) →
    whole ≡ front ++ timed ∷ rest → timed.at ≤ last → In (Member n) group →
    Stands n term (after_rows w (rows_in front)) timed.row → n ≡ c

-- In these rows, up to this moment and as long as nobody leads, no append request comes that makes a member of the
-- group follow.
abbrev pub AppendsUnheard : List Party → (last : ℕ) → Cluster → List Timed → Type 0
AppendsUnheard group last w whole = (front rest : List Timed) (timed : Timed) (m : ℕ) →
    whole ≡ front ++ timed ∷ rest → timed.at ≤ last → Throughout (NobodyLeads group) w front →
    NobodyLeads group (after_rows w (rows_in front)) → In (Member m) group →
    HearsAppend m (after_rows w (rows_in front)) timed.row → ⊥

-- What is asked of a calm, in which member c of the group stands for election in this row: the rows do no harm, and c
-- can ask each other member of the group for its vote and has room to ask. The group has a quorum of the cluster's
-- members. For four delays before the row c has asked nobody of the group for its vote. For four delays behind it no
-- other member of the group stands for election, and as long as nobody leads no call of a former leader is heard. What
-- happened earlier in the calm is not asked, nor anything of members that are not of the group.
pub record IsCalmStanding (ids : List ℕ) (rows : List Row) (group : List Party) (clocks : Party → ℕ) (pace : Pace)
    (start c term : ℕ) (front : List Timed) (timed : Timed) (rest : List Timed) : Type 0 where
  pub listed : (p : ℕ) → In (Member p) group → In p ids
  pub running : AreRunning group (world_of ids rows)
  pub many : quorum ids ≤ how_many (is_of group) ids
  pub others : 2 ≤ length ids
  pub member : In (Member c) group
  pub quick : 4 * pace.delay < call_timeout
  pub calm : AreCalm group clocks pace (no_traffic start) (world_of ids rows) (front ++ timed ∷ rest)
  pub harmless : DoNoHarm (world_of ids rows) (rows_in (front ++ timed ∷ rest))
  pub can : (m : ℕ) → In (Member m) group → m ≢ c → CanAsk c m (world_of ids rows) (front ++ timed ∷ rest)
  pub fit : VoteRequestsFit c (world_of ids rows) (front ++ timed ∷ rest)
  pub stands : Stands c term (after_rows (world_of ids rows) (rows_in front)) timed.row
  pub silent : AsksNobodySince group c timed.at (4 * pace.delay) (world_of ids rows) front
  pub unheard : AppendsUnheard group (timed.at + 4 * pace.delay)
      (after_row (after_rows (world_of ids rows) (rows_in front)) timed.row) rest
  pub alone : StandsAlone group c (timed.at + 4 * pace.delay)
      (after_row (after_rows (world_of ids rows) (rows_in front)) timed.row) rest
  pub long : timed.at + 4 * pace.delay < end_of timed.at rest

-- ---- who wins

-- Member m, if it runs, is below this term, and its log is not above this server's: its last term is lower, or the same
-- and it is no longer.
abbrev pub IsBehind : (m term : ℕ) → AllocatorState → Cluster → Type 0
IsBehind m term candidate w = (server : AllocatorState) → (w.member m).status ≡ Up server →
    (server.raft_server.store.term < term)
    × NotAbove (last_term server.raft_server.store.log) (length server.raft_server.store.log)
    (last_term candidate.raft_server.store.log) (length candidate.raft_server.store.log)

-- Behind a front of these rows, which begin at the moment `at`, and by the moment `last`: member c leads the group in
-- this term, and each other member's wait began at `at` or later. Before it wins nobody leads, and from then on c does.
pub record WinsBy (group : List Party) (clocks : Party → ℕ) (c term at last : ℕ) (w : Cluster)
    (whole : List Timed) : Type 0 where
  pub front : List Timed
  pub rest : List Timed
  pub split : whole ≡ front ++ rest
  pub soon : end_of at front ≤ last
  pub led : IsLed group c term (after_rows w (rows_in front))
  pub leads_on : LeadsOn c term w front
  pub waits : (m : ℕ) (server : AllocatorState) → In (Member m) group → m ≢ c →
      ((after_rows w (rows_in front)).member m).status ≡ Up server → at + clocks (Member m) ≤ server.times.since

-- In these rows, up to this moment, no other member of the group than c leads.
abbrev pub LeadsAlone : List Party → (c last : ℕ) → Cluster → List Timed → Type 0
LeadsAlone group c last w whole = (front rest : List Timed) (timed : Timed) (m : ℕ) → whole ≡ front ++ timed ∷ rest →
    timed.at ≤ last → In (Member m) group → m ≢ c → LeadsNotIfUp m (after_rows w (rows_in front))

-- In such a calm: where each other member of the group is below the term in which c stands, its log is not above that
-- of c, and it does not win an earlier election within two delays, c wins within four delays. A member that had stood
-- for election before c may still be waiting for votes. Where it wins them before it hears c, it may add to its log and
-- to those of others, which then are above that of c.
abbrev pub WhoStandsAloneWins : List ℕ → List Row → Type 0
WhoStandsAloneWins ids rows = (group : List Party) (clocks : Party → ℕ) (pace : Pace) (start c term : ℕ)
    (front rest : List Timed) (timed : Timed) →
    (calm : IsCalmStanding ids rows group clocks pace start c term front timed rest) →
    let there = after_rows (world_of ids rows) (rows_in front) in
    ((m : ℕ) → In (Member m) group → m ≢ c → IsBehind m term calm.stands.before there) →
    LeadsAlone group c (timed.at + 2 * pace.delay) (after_row there timed.row) rest →
    WinsBy group clocks c term timed.at (timed.at + 4 * pace.delay) (after_row there timed.row) rest

-- In such a calm: where each other member of the group is below the term in which c stands, its log is not above that
-- of c, and it follows when c stands, c wins within four delays.
abbrev pub WhoStandsFirstWins : List ℕ → List Row → Type 0
WhoStandsFirstWins ids rows = (group : List Party) (clocks : Party → ℕ) (pace : Pace) (start c term : ℕ)
    (front rest : List Timed) (timed : Timed) →
    (calm : IsCalmStanding ids rows group clocks pace start c term front timed rest) →
    let there = after_rows (world_of ids rows) (rows_in front) in
    ((m : ℕ) → In (Member m) group → m ≢ c → IsBehind m term calm.stands.before there) →
    ((m : ℕ) → In (Member m) group → m ≢ c → (server : AllocatorState) → (there.member m).status ≡ Up server →
    server.raft_server.memory.role ≡ Follower) →
    WinsBy group clocks c term timed.at (timed.at + 4 * pace.delay) (after_row there timed.row) rest

-- ---- who does not win

-- Behind a front of these rows, which begin at the moment `at`, and by the moment `last`: some member of the group
-- leads, or led behind some earlier row of it; or c runs in a term which no other member of the group is above. Who
-- wins may have heard of no higher term by then, and may follow again before the highest one comes to it.
pub record KnowsTermsBy (group : List Party) (c at last : ℕ) (w : Cluster) (whole : List Timed) : Type 0 where
  pub front : List Timed
  pub rest : List Timed
  pub split : whole ≡ front ++ rest
  pub soon : end_of at front ≤ last
  pub late : (timed : Timed) (more : List Timed) → rest ≡ timed ∷ more → last < timed.at
  pub server : AllocatorState
  pub runs : ((after_rows w (rows_in front)).member c).status ≡ Up server
  pub knows : (Throughout (NobodyLeads group) w front → NobodyLeads group (after_rows w (rows_in front)) → ⊥)
      ⊎ AreWithin group server.raft_server.store.term (after_rows w (rows_in front))

-- In such a calm, whatever the terms and the logs are: by four delays later somebody leads or has led, or c knows the
-- highest term of the group.
abbrev pub WhoStandsKnowsTerms : List ℕ → List Row → Type 0
WhoStandsKnowsTerms ids rows = (group : List Party) (clocks : Party → ℕ) (pace : Pace) (start c term : ℕ)
    (front rest : List Timed) (timed : Timed) →
    IsCalmStanding ids rows group clocks pace start c term front timed rest →
    let there = after_rows (world_of ids rows) (rows_in front) in
    KnowsTermsBy group c timed.at (timed.at + 4 * pace.delay) (after_row there timed.row) rest

-- ---- who stands is heard

-- In each calm from the world of these rows on, of rows that do no harm, in which twice the delay is no longer than a
-- transfer is remembered: where member c of the group stands for election, can ask member m for its vote, if that is
-- another one, and has room to ask, m is in the term in which c stands, or in a higher one, two delays later: behind
-- rows among which all rows of these two delays are, where the calm lasts longer. Who leads or stands meanwhile, and
-- whom c asked before, is no premise.
abbrev pub WhoStandsIsHeard : List ℕ → List Row → Type 0
WhoStandsIsHeard ids rows = (group : List Party) (clocks : Party → ℕ) (pace : Pace) (start c m term : ℕ)
    (front early late : List Timed) (timed : Timed) (server : AllocatorState) → let w = world_of ids rows in
    let there = after_rows w (rows_in front) in let whole = front ++ timed ∷ (early ++ late) in
    ((p : ℕ) → In (Member p) group → In p ids) → AreRunning group w → In (Member c) group → In (Member m) group →
    2 * pace.delay ≤ transfer_timeout → (m ≢ c → CanAsk c m w whole) → VoteRequestsFit c w whole →
    AreCalm group clocks pace (no_traffic start) w whole → DoNoHarm w (rows_in whole) → Stands c term there timed.row →
    ((later : Timed) → In later late → timed.at + 2 * pace.delay < later.at) →
    timed.at + 2 * pace.delay < end_of timed.at (early ++ late) →
    ((after_rows (after_row there timed.row) (rows_in early)).member m).status ≡ Up server →
    term ≤ server.raft_server.store.term
