-- What it is that whatever changes a member in a calm was sent shortly before: who votes was asked, who follows was
-- called, who wins has asked; and that who asked stands for election.
use Rattle.std.specs.Prelude.{◌≡◌, ◌≢◌, ◌⊎◌, ℕ, ◌+◌, ◌*◌, ◌<◌, ◌≤◌, List, ◌∷◌, ◌++◌, length}
use Rattle.can_frame.specs.Log.{last_term}
use Rattle.dsdl_codec.specs.declared.vote_request.VoteRequest.{VoteRequest}
use Rattle.raft_model.specs.Lists.{In}
use Rattle.raft_model.specs.Server.Role.{Candidate, Leader}
use Rattle.bus_rows.specs.declared.row.Row.{Row}
use Rattle.alloc_spec.specs.AllocatorState.{AllocatorState}
use Rattle.bus_rows.specs.Timed.{Timed, rows_in}
use Rattle.service_alone.specs.Calm.{Pace, end_of}
use Rattle.service_candidate.specs.Votes.{HearsAppend, Stands}
use Rattle.service_candidate.specs.Waits.{GivesVote}
use Rattle.service_candidate.specs.Wins.{OffersVoteRequest}
use Rattle.service_leader.specs.CallsComeBack.{LeadsNotIfUp}
use Rattle.service_leader.specs.LeadsOn.{LeadsIn}
use Rattle.service_elections.specs.Running.{IsCalmOf, NobodyStandsIn, quiet_within}
use Rattle.service_calm.specs.Calm.{Member, Party}
use Rattle.service_calm.specs.CallsInTime.{OffersCall}
use Rattle.bus_spec.specs.Cluster.{Cluster, after_row, after_rows, world_of}
use Rattle.bus_spec.specs.Members.MemberStatus.{Up}

-- ---- who asks stands

-- In each such calm, later than `quiet_within` behind its beginning: a member of the group that asks another one for
-- its vote stands for election in the same row. A member outside the group never answers; it may be asked again and
-- again.
abbrev pub WhoAsksStands : List ℕ → List Row → Type 0
WhoAsksStands ids rows = (group : List Party) (clocks : Party → ℕ) (pace : Pace) (start n m : ℕ)
    (front rest : List Timed) (timed : Timed) → let there = after_rows (world_of ids rows) (rows_in front) in
    IsCalmOf ids rows group clocks pace start (front ++ timed ∷ rest) → In (Member n) group → In (Member m) group →
    start + quiet_within pace < timed.at → OffersVoteRequest n m there timed.row →
    (term : ℕ) × Stands n term there timed.row

-- ---- who wins has asked

-- In one of these rows, which is at most so long before this moment, member n asks some other member of the group for
-- its vote, and is a candidate of this term when the row is over.
pub record HasAsked (group : List Party) (n term moment within : ℕ) (w : Cluster) (whole : List Timed) : Type 0 where
  pub front : List Timed
  pub timed : Timed
  pub rest : List Timed
  pub split : whole ≡ front ++ timed ∷ rest
  pub lately : moment ≤ timed.at + within
  pub m : ℕ
  pub member : In (Member m) group
  pub other : m ≢ n
  pub asks : OffersVoteRequest n m (after_rows w (rows_in front)) timed.row
  pub server : AllocatorState
  pub runs : ((after_row (after_rows w (rows_in front)) timed.row).member n).status ≡ Up server
  pub stands : server.raft_server.memory.role ≡ Candidate
  pub its_term : server.raft_server.store.term ≡ term

-- A member of the group that comes to lead in a row of such a calm has asked in its term within four delays before.
abbrev pub WhoWinsHasAsked : List ℕ → List Row → Type 0
WhoWinsHasAsked ids rows = (group : List Party) (clocks : Party → ℕ) (pace : Pace) (start n : ℕ)
    (front rest : List Timed) (timed : Timed) (server : AllocatorState) → let w = world_of ids rows in
    let there = after_rows w (rows_in front) in
    IsCalmOf ids rows group clocks pace start (front ++ timed ∷ rest) → In (Member n) group → LeadsNotIfUp n there →
    ((after_row there timed.row).member n).status ≡ Up server → server.raft_server.memory.role ≡ Leader →
    HasAsked group n server.raft_server.store.term timed.at (4 * pace.delay) w front

-- ---- who votes was asked

-- In one of these rows, which is at most so long before this moment, member c asks member m for its vote. Behind the
-- row c is a candidate, and the request says its term and how far its log goes.
pub record HasAskedFor (c m : ℕ) (request : VoteRequest) (moment within : ℕ) (w : Cluster)
    (whole : List Timed) : Type 0 where
  pub front : List Timed
  pub timed : Timed
  pub rest : List Timed
  pub split : whole ≡ front ++ timed ∷ rest
  pub lately : moment ≤ timed.at + within
  pub asks : OffersVoteRequest c m (after_rows w (rows_in front)) timed.row
  pub server : AllocatorState
  pub runs : ((after_row (after_rows w (rows_in front)) timed.row).member c).status ≡ Up server
  pub stands : server.raft_server.memory.role ≡ Candidate
  pub its_term : request.term ≡ server.raft_server.store.term
  pub its_last_term : request.last_term ≡ last_term server.raft_server.store.log
  pub its_last : request.last_index ≡ length server.raft_server.store.log

-- A member of the group that gives its vote in a row of such a calm was asked for it by another one of the group,
-- within two delays before.
abbrev pub WhoVotesWasAsked : List ℕ → List Row → Type 0
WhoVotesWasAsked ids rows = (group : List Party) (clocks : Party → ℕ) (pace : Pace) (start m : ℕ)
    (front rest : List Timed) (timed : Timed) → let w = world_of ids rows in
    let there = after_rows w (rows_in front) in
    IsCalmOf ids rows group clocks pace start (front ++ timed ∷ rest) → In (Member m) group →
    (gives : GivesVote m there timed.row) →
    (c : ℕ) × In (Member c) group × (c ≢ m) × (gives.delivery.ident.source ≡ c)
    × HasAskedFor c m gives.request timed.at (2 * pace.delay) w front

-- ---- who hears a leader was called

-- In one of these rows, which is at most so long before this moment, member n calls member m, and leads in this term
-- when the row is over.
pub record HasCalled (n m term moment within : ℕ) (w : Cluster) (whole : List Timed) : Type 0 where
  pub front : List Timed
  pub timed : Timed
  pub rest : List Timed
  pub split : whole ≡ front ++ timed ∷ rest
  pub lately : moment ≤ timed.at + within
  pub calls : OffersCall n m (after_rows w (rows_in front)) timed.row
  pub leads : LeadsIn n term (after_row (after_rows w (rows_in front)) timed.row)

-- A member of the group that hears an append request in a row of such a calm was called by another one of the group,
-- which led in the request's term, within two delays before.
abbrev pub WhoHearsWasCalled : List ℕ → List Row → Type 0
WhoHearsWasCalled ids rows = (group : List Party) (clocks : Party → ℕ) (pace : Pace) (start m : ℕ)
    (front rest : List Timed) (timed : Timed) → let w = world_of ids rows in
    let there = after_rows w (rows_in front) in
    IsCalmOf ids rows group clocks pace start (front ++ timed ∷ rest) → In (Member m) group →
    (hears : HearsAppend m there timed.row) →
    (n : ℕ) × In (Member n) group × (n ≢ m)
    × HasCalled n m hears.request.term timed.at (2 * pace.delay) w front

-- ---- nothing changes in silence

-- In none of these rows, from this moment on, a member of the group calls another one, or asks it for its vote.
abbrev pub IsSilentSince : List Party → (since : ℕ) → Cluster → List Timed → Type 0
IsSilentSince group since w whole = (front rest : List Timed) (timed : Timed) (n m : ℕ) →
    whole ≡ front ++ timed ∷ rest → since ≤ timed.at → In (Member n) group → In (Member m) group → n ≢ m →
    (OffersCall n m (after_rows w (rows_in front)) timed.row → ⊥)
    × (OffersVoteRequest n m (after_rows w (rows_in front)) timed.row → ⊥)

-- what the election goes by is as it was: the role, the term, the vote and the log, and the wait
pub record IsAsItWas (before after : AllocatorState) : Type 0 where
  pub role : after.raft_server.memory.role ≡ before.raft_server.memory.role
  pub term : after.raft_server.store.term ≡ before.raft_server.store.term
  pub vote : after.raft_server.store.vote ≡ before.raft_server.store.vote
  pub log : after.raft_server.store.log ≡ before.raft_server.store.log
  pub since : after.times.since ≡ before.times.since
  pub word : after.times.word ≡ before.times.word

-- Where there was silence in the group for more than four delays before a row of such a calm, a member of it that does
-- not lead, and does not stand for election in the row, is as it was when the row is over.
abbrev pub NothingChangesInSilence : List ℕ → List Row → Type 0
NothingChangesInSilence ids rows = (group : List Party) (clocks : Party → ℕ) (pace : Pace) (start since m : ℕ)
    (front rest : List Timed) (timed : Timed) (before after : AllocatorState) → let w = world_of ids rows in
    let there = after_rows w (rows_in front) in
    IsCalmOf ids rows group clocks pace start (front ++ timed ∷ rest) → In (Member m) group →
    since + 4 * pace.delay < timed.at → IsSilentSince group since w front → (there.member m).status ≡ Up before →
    ((after_row there timed.row).member m).status ≡ Up after → before.raft_server.memory.role ≢ Leader →
    ((term : ℕ) → Stands m term there timed.row → ⊥) → IsAsItWas before after

-- ---- who stands is heard, and hears

-- Where a member of the group stands for election in such a calm, each member of the group is in its term, or in a
-- higher one, two delays later.
abbrev pub StandersAreHeard : List ℕ → List Row → Type 0
StandersAreHeard ids rows = (group : List Party) (clocks : Party → ℕ) (pace : Pace) (start c m term : ℕ)
    (front early late : List Timed) (timed : Timed) (server : AllocatorState) →
    let there = after_rows (world_of ids rows) (rows_in front) in
    IsCalmOf ids rows group clocks pace start (front ++ timed ∷ (early ++ late)) → In (Member c) group →
    In (Member m) group → Stands c term there timed.row → timed.at + 2 * pace.delay < end_of timed.at early →
    ((after_rows (after_row there timed.row) (rows_in early)).member m).status ≡ Up server →
    term ≤ server.raft_server.store.term

-- Rows may come a period apart, so none need come between the moment by which an answer has come and the next row. So
-- each of the laws below speaks of the world before a row that is late enough.
--
-- Where a member n of the group calls another one in a row of such a calm, and nobody stands for election behind it
-- until a row that is later than four delays, n is before that row in a term that is no lower than that of the other
-- one was before it called.
abbrev pub CallersLearn : List ℕ → List Row → Type 0
CallersLearn ids rows = (group : List Party) (clocks : Party → ℕ) (pace : Pace) (start n m : ℕ)
    (front early late : List Timed) (timed next : Timed) (other server : AllocatorState) →
    let there = after_rows (world_of ids rows) (rows_in front) in let then = after_row there timed.row in
    IsCalmOf ids rows group clocks pace start (front ++ timed ∷ (early ++ next ∷ late)) → In (Member n) group →
    In (Member m) group → n ≢ m → OffersCall n m there timed.row → (there.member m).status ≡ Up other →
    NobodyStandsIn group then early → timed.at + 4 * pace.delay < next.at →
    ((after_rows then (rows_in early)).member n).status ≡ Up server →
    other.raft_server.store.term ≤ server.raft_server.store.term

-- Behind a front of these rows, which begin at the moment `start`, and by the moment `last`, member n leads.
pub record LeadsBy (n start last : ℕ) (w : Cluster) (whole : List Timed) : Type 0 where
  pub front : List Timed
  pub rest : List Timed
  pub split : whole ≡ front ++ rest
  pub soon : end_of start front ≤ last
  pub term : ℕ
  pub leads : LeadsIn n term (after_rows w (rows_in front))

-- So it is where it asks the other one for its vote; or it leads by four delays later.
abbrev pub AskersLearn : List ℕ → List Row → Type 0
AskersLearn ids rows = (group : List Party) (clocks : Party → ℕ) (pace : Pace) (start n m : ℕ)
    (front early late : List Timed) (timed next : Timed) (other server : AllocatorState) →
    let there = after_rows (world_of ids rows) (rows_in front) in let then = after_row there timed.row in
    IsCalmOf ids rows group clocks pace start (front ++ timed ∷ (early ++ next ∷ late)) → In (Member n) group →
    In (Member m) group → n ≢ m → OffersVoteRequest n m there timed.row → (there.member m).status ≡ Up other →
    NobodyStandsIn group then early → timed.at + 4 * pace.delay < next.at →
    ((after_rows then (rows_in early)).member n).status ≡ Up server →
    (other.raft_server.store.term ≤ server.raft_server.store.term)
    ⊎ LeadsBy n timed.at (timed.at + 4 * pace.delay) then early

-- Where a member of the group stands for election in such a calm, and nobody stands behind it until a row that is later
-- than eight delays, it is in a term before that row that is no lower than that of any other one was before it stood.
abbrev pub StandersLearn : List ℕ → List Row → Type 0
StandersLearn ids rows = (group : List Party) (clocks : Party → ℕ) (pace : Pace) (start c m term : ℕ)
    (front early late : List Timed) (timed next : Timed) (other server : AllocatorState) →
    let there = after_rows (world_of ids rows) (rows_in front) in let then = after_row there timed.row in
    IsCalmOf ids rows group clocks pace start (front ++ timed ∷ (early ++ next ∷ late)) → In (Member c) group →
    In (Member m) group → Stands c term there timed.row → (there.member m).status ≡ Up other →
    NobodyStandsIn group then early → timed.at + 8 * pace.delay < next.at →
    ((after_rows then (rows_in early)).member c).status ≡ Up server →
    other.raft_server.store.term ≤ server.raft_server.store.term
