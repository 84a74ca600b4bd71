-- What it is that terms, votes and logs stay as they are in a calm, until a member stands for election or leads.
use Rattle.std.specs.Prelude.{⊤, ◌≡◌, ◌≢◌, ◌⊎◌, ℕ, ◌<◌, ◌≤◌, List, [], ◌∷◌, ◌++◌, length, None, Some}
use Rattle.can_frame.specs.declared.step.What.TheVariants.{AppQ}
use Rattle.can_frame.specs.Identifier.{identifier_number}
use Rattle.raft_model.specs.Lists.{In}
use Rattle.raft_model.specs.Server.Role.{Follower}
use Rattle.bus_rows.specs.declared.row.Row.{Row}
use Rattle.transfer_tx.specs.Run.{of_identifier}
use Rattle.alloc_spec.specs.AllocatorState.{AllocatorState}
use Rattle.alloc_spec.specs.Transfers.{ident_of}
use Rattle.bus_rows.specs.Timed.{Timed, rows_in}
use Rattle.service_alone.specs.Calm.{Pace}
use Rattle.service_candidate.specs.Votes.{HearsAppend, Stands}
use Rattle.service_leader.specs.CallsComeBack.{LeadsNotIfUp}
use Rattle.service_calm.specs.Calm.{AreCalm, AreRunning, Member, Party, no_traffic}
use Rattle.service_calm.specs.Comes.{Throughout}
use Rattle.bus_spec.specs.Cluster.{Cluster, after_row, after_rows, world_of}
use Rattle.bus_spec.specs.Lawful.{DoNoHarm}
use Rattle.bus_spec.specs.Members.MemberStatus.{Up}

-- ---- terms

-- each member of the group that runs has this term or a lower one
abbrev pub AreWithin : List Party → (top : ℕ) → Cluster → Type 0
AreWithin group top w = (m : ℕ) → In (Member m) group → (server : AllocatorState) → (w.member m).status ≡ Up server →
    server.raft_server.store.term ≤ top

-- in none of these rows a member of the group stands for election in a term above this one
abbrev pub NobodyStandsAbove : List Party → (top : ℕ) → Cluster → List Timed → Type 0
NobodyStandsAbove group top w [] = ⊤
NobodyStandsAbove group top w (timed ∷ rest) =
    ((n term : ℕ) → In (Member n) group → Stands n term w timed.row → term ≤ top)
    × NobodyStandsAbove group top (after_row w timed.row) rest

-- In each calm of a cluster of two members or more, from the world of these rows on: from each front on in which all
-- members of the group are within a term, they stay within it, until one stands for election above it. Who is alone
-- leads at once where it stands: of that nothing is said.
abbrev pub TermsStay : List ℕ → List Row → Type 0
TermsStay ids rows = (group : List Party) (clocks : Party → ℕ) (pace : Pace) (start top : ℕ)
    (first front rest : List Timed) → let w = world_of ids rows in let there = after_rows w (rows_in first) in
    ((p : ℕ) → In (Member p) group → In p ids) → AreRunning group w → 2 ≤ length ids →
    AreCalm group clocks pace (no_traffic start) w (first ++ (front ++ rest)) →
    DoNoHarm w (rows_in (first ++ front)) → AreWithin group top there → NobodyStandsAbove group top there front →
    AreWithin group top (after_rows there (rows_in front))

-- no term of a member that runs becomes lower
abbrev pub TermsDoNotFall : List ℕ → List Row → Type 0
TermsDoNotFall ids rows = (group : List Party) (clocks : Party → ℕ) (pace : Pace) (start m : ℕ)
    (first front rest : List Timed) (before after : AllocatorState) → let w = world_of ids rows in
    AreRunning group w → AreCalm group clocks pace (no_traffic start) w (first ++ (front ++ rest)) →
    In (Member m) group → ((after_rows w (rows_in first)).member m).status ≡ Up before →
    ((after_rows w (rows_in (first ++ front))).member m).status ≡ Up after →
    before.raft_server.store.term ≤ after.raft_server.store.term

-- ---- votes

-- Member m can vote for member c in this term, if it runs: its own term is lower; or it follows in this one, and has
-- given its vote to no other.
abbrev pub IsFreeFor : (c term m : ℕ) → Cluster → Type 0
IsFreeFor c term m w = (server : AllocatorState) → (w.member m).status ≡ Up server →
    (server.raft_server.store.term < term)
    ⊎ ((server.raft_server.store.term ≡ term) × (server.raft_server.memory.role ≡ Follower)
    × ((server.raft_server.store.vote ≡ None) ⊎ (server.raft_server.store.vote ≡ Some c)))

-- in none of these rows another member of the group than c stands for election
abbrev pub NobodyElseStands : List Party → (c : ℕ) → Cluster → List Timed → Type 0
NobodyElseStands group c w [] = ⊤
NobodyElseStands group c w (timed ∷ rest) =
    ((n term : ℕ) → In (Member n) group → Stands n term w timed.row → n ≡ c)
    × NobodyElseStands group c (after_row w timed.row) rest

-- In each calm from the world of these rows on: from each front on in which all members of the group but c are below a
-- term, and c is within it, each of them stays free to vote for c in this term, until another one stands for election,
-- or c stands above it.
abbrev pub VotesStayFree : List ℕ → List Row → Type 0
VotesStayFree ids rows = (group : List Party) (clocks : Party → ℕ) (pace : Pace) (start c term : ℕ)
    (first front rest : List Timed) → let w = world_of ids rows in let there = after_rows w (rows_in first) in
    ((p : ℕ) → In (Member p) group → In p ids) → AreRunning group w → In (Member c) group →
    AreCalm group clocks pace (no_traffic start) w (first ++ (front ++ rest)) →
    DoNoHarm w (rows_in (first ++ front)) → AreWithin group term there →
    ((m : ℕ) → In (Member m) group → m ≢ c → (server : AllocatorState) → (there.member m).status ≡ Up server →
    server.raft_server.store.term < term) →
    NobodyElseStands group c there front → NobodyStandsAbove group term there front →
    (m : ℕ) → In (Member m) group → m ≢ c → IsFreeFor c term m (after_rows there (rows_in front))

-- ---- logs

-- no member of the group leads
abbrev pub NobodyLeads : List Party → Cluster → Type 0
NobodyLeads group w = (m : ℕ) → In (Member m) group → LeadsNotIfUp m w

-- no frame of an append request from one member of the group to another waits in a queue
abbrev pub NoAppendWaits : List Party → Cluster → Type 0
NoAppendWaits group w = (n m : ℕ) → In (Member n) group → In (Member m) group → n ≢ m → (server : AllocatorState) →
    (w.member n).status ≡ Up server → of_identifier (identifier_number (ident_of n AppQ m)) server.queue ≡ []

-- In each calm from the world of these rows on, where no append request waits when it begins: as long as nobody leads,
-- before each of the rows and behind them, the logs of the members stay as they are, and what they have committed.
abbrev pub LogsStay : List ℕ → List Row → Type 0
LogsStay ids rows = (group : List Party) (clocks : Party → ℕ) (pace : Pace) (start m : ℕ)
    (front rest : List Timed) (before after : AllocatorState) → let w = world_of ids rows in
    let later = after_rows w (rows_in front) in
    ((p : ℕ) → In (Member p) group → In p ids) → AreRunning group w → NoAppendWaits group w →
    AreCalm group clocks pace (no_traffic start) w (front ++ rest) → In (Member m) group →
    Throughout (NobodyLeads group) w front → NobodyLeads group later →
    (w.member m).status ≡ Up before → (later.member m).status ≡ Up after →
    (after.raft_server.store.log ≡ before.raft_server.store.log)
    × (after.raft_server.store.commit ≡ before.raft_server.store.commit)

-- And no append request comes, which makes a member follow, in a row behind these rows.
abbrev pub NoAppendsCome : List ℕ → List Row → Type 0
NoAppendsCome ids rows = (group : List Party) (clocks : Party → ℕ) (pace : Pace) (start m : ℕ)
    (front rest : List Timed) (timed : Timed) → let w = world_of ids rows in let there = after_rows w (rows_in front) in
    ((p : ℕ) → In (Member p) group → In p ids) → AreRunning group w → NoAppendWaits group w →
    AreCalm group clocks pace (no_traffic start) w (front ++ timed ∷ rest) → In (Member m) group →
    Throughout (NobodyLeads group) w front → NobodyLeads group there →
    HearsAppend m there timed.row → ⊥
