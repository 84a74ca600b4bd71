-- What a server decides, as functions, for handlers to cite. `law_decisions` says that they are what the moves ask for.
use Rattle.std.specs.Prelude.{ℕ, zero, suc, ◌+◌, Bool, true, List, [], ◌∷◌, ◌++◌, length, ◌==◌, ◌&&◌, ◌||◌, not}
use Rattle.std.specs.Prelude.{if◌then◌else◌, take, Option, Some, None, nat_le, nat_lt}
use Rattle.std.specs.Str.{bytes_eq}
use Rattle.can_frame.specs.declared.entry.Entry.{Entry}
use Rattle.can_frame.specs.Log.{last_term, log_limit}
use Rattle.can_frame.specs.Zeros.{zeros}
use Rattle.raft_model.specs.Log.{term_at}
use Rattle.raft_model.specs.Messages.{Request}
use Rattle.raft_model.specs.Server.{Store, RaftServer}
use Rattle.raft_model.specs.Moves.{Verdict, has_quorum, is_leader, has_matched, with_term}
use Rattle.raft_model.specs.Moves.Verdict.{Outdated, Refused, Held, Added}

-- Entries and logs.

abbrev pub is_blank : Entry → Bool
is_blank entry = (entry.node == 0) && bytes_eq entry.uid zeros

abbrev pub is_reservation : Entry → Bool
is_reservation entry = bytes_eq entry.uid zeros && (nat_le 1 entry.node && nat_le entry.node 125)

abbrev pub is_pair : Entry → Bool
is_pair entry = not (bytes_eq entry.uid zeros) && (nat_le 1 entry.node && nat_le entry.node 125)

abbrev pub is_well_formed : Entry → Bool
is_well_formed entry = is_blank entry || (is_reservation entry || is_pair entry)

abbrev pub are_distinct : Entry → Entry → Bool
are_distinct a b =
    (is_blank a || is_blank b) || (not (a.node == b.node) && (bytes_eq a.uid zeros || not (bytes_eq a.uid b.uid)))

abbrev pub is_distinct_from_all : Entry → List Entry → Bool
is_distinct_from_all entry [] = true
is_distinct_from_all entry (first ∷ rest) = are_distinct entry first && is_distinct_from_all entry rest

abbrev pub is_injective : List Entry → Bool
is_injective [] = true
is_injective (first ∷ rest) = is_distinct_from_all first rest && is_injective rest

-- Votes.

abbrev pub is_free : Option ℕ → ℕ → Bool
is_free None candidate = true
is_free (Some vote) candidate = vote == candidate

abbrev pub is_not_above : ℕ → ℕ → ℕ → ℕ → Bool
is_not_above term index other_term other_index =
    nat_lt term other_term || ((term == other_term) && nat_le index other_index)

-- whether a vote is granted
abbrev pub grants : Store → Request → Bool
grants store request = (request.term == store.term)
    && (is_free store.vote request.from
    && is_not_above (last_term store.log) (length store.log) request.previous_term request.previous)

-- Append requests.

abbrev pub has_previous : Store → Request → Bool
has_previous store request = nat_le request.previous (length store.log)
    && (term_at store.log request.previous == request.previous_term)

abbrev pub is_there : Store → Request → Entry → Bool
is_there store request entry = nat_lt request.previous (length store.log)
    && (term_at store.log (request.previous + 1) == entry.term)

abbrev pub may_add : Store → Request → Entry → Bool
may_add store request entry = nat_lt store.commit (request.previous + 1)
    && (is_well_formed entry
    && (nat_le (term_at store.log request.previous) entry.term
    && (nat_le entry.term request.term
    && is_injective (take request.previous store.log ++ (entry ∷ [])))))

abbrev pub rule_on_entry : Store → Request → Option Entry → Verdict
rule_on_entry store request None = Held
rule_on_entry store request (Some entry) =
    if nat_lt log_limit (request.previous + 1) then Refused
    else (if is_there store request entry then Held
    else (if may_add store request entry then Added entry else Refused))

abbrev pub rule : Store → Request → Verdict
rule store request = if has_previous store request then rule_on_entry store request request.entry else Refused

abbrev pub is_current : RaftServer → Request → Bool
is_current server request =
    nat_lt server.store.term request.term || ((request.term == server.store.term) && not (is_leader server.memory.role))

-- what becomes of an append request
abbrev pub verdict_on : RaftServer → Request → Verdict
verdict_on server request =
    if is_current server request then rule (with_term server.store request.term) request else Outdated

-- Proposals.

-- whether an entry may be proposed
abbrev pub may_propose : RaftServer → Entry → Bool
may_propose server entry = is_leader server.memory.role
    && (nat_lt (length server.store.log) log_limit
    && ((entry.term == server.store.term)
    && (is_well_formed entry && is_injective (server.store.log ++ (entry ∷ [])))))

-- Commit.

abbrev pub can_commit : List ℕ → ℕ → RaftServer → ℕ → Bool
can_commit members member server index = nat_lt server.store.commit index
    && (nat_le index (length server.store.log)
    && ((term_at server.store.log index == server.store.term)
    && has_quorum members (has_matched member server index)))

-- the greatest number up to a limit that passes the test
abbrev pub greatest_to : ℕ → (ℕ → Bool) → Option ℕ
greatest_to zero test = if test zero then Some zero else None
greatest_to (suc limit) test = if test (suc limit) then Some (suc limit) else greatest_to limit test

-- the index to which a leader commits, where there is one
abbrev pub commit_index : List ℕ → ℕ → RaftServer → Option ℕ
commit_index members member server = greatest_to (length server.store.log) (can_commit members member server)
