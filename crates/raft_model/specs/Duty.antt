-- What a server owes that finishes its step: the phases of a step as moves, and what they leave.
use Rattle.std.specs.Prelude.{◌≡◌, ◌≢◌, ℕ, ◌+◌, ◌<◌, ◌≤◌, ◌&&◌, Bool, true, false, not, List, [], ◌∷◌, ◌++◌, ◌⊎◌}
use Rattle.std.specs.Prelude.{if◌then◌else◌, Option, Some, None, length, nat_lt}
use Rattle.std.specs.Str.{bytes_eq}
use Rattle.can_frame.specs.declared.entry.Entry.{Entry}
use Rattle.can_frame.specs.Log.{blank, last_term, log_limit}
use Rattle.can_frame.specs.Zeros.{zeros}
use Rattle.raft_model.specs.Messages.{Message}
use Rattle.raft_model.specs.Messages.Message.{Pairs}
use Rattle.raft_model.specs.Server.{Store, RaftServer}
use Rattle.raft_model.specs.Server.Role.{Follower, Candidate, Leader}
use Rattle.raft_model.specs.Moves.{Move, CanCommit, has_matched, has_quorum, is_leader, next_entry, term_limit, pair_at}
use Rattle.raft_model.specs.Moves.Move.{TimeOut, ProposeEntry, CommitTo, TellPair, TellNothing}
use Rattle.raft_model.specs.Decisions.{commit_index}

-- a tick: who is no Leader and has waited stands for election, where there is a next term
abbrev pub tick_phase : Bool → RaftServer → List Move
tick_phase waited server =
    if waited && (not (is_leader server.memory.role) && nat_lt server.store.term term_limit) then TimeOut ∷ [] else []

-- there is something that is not committed, and room for a blank
abbrev pub takes_blank : Store → Bool
takes_blank store = nat_lt store.commit (length store.log) && nat_lt (length store.log) log_limit

-- a Leader adds a blank of its term: by it the entries of earlier terms are committed
abbrev pub blank_moves : RaftServer → List Move
blank_moves server =
    if is_leader server.memory.role && takes_blank server.store then ProposeEntry (blank server.store.term) ∷ [] else []

-- a quorum, this server included, has matched its whole log, whose last entry is of an earlier term
abbrev pub is_heard : List ℕ → ℕ → RaftServer → Bool
is_heard members member server = nat_lt (last_term server.store.log) server.store.term
    && has_quorum members (has_matched member server (length server.store.log))

abbrev pub commit_moves : Option ℕ → List Move
commit_moves None = []
commit_moves (Some index) = CommitTo index ∷ []

-- a Leader commits as far as it can
abbrev pub commit_phase : List ℕ → ℕ → RaftServer → List Move
commit_phase members member server =
    if is_leader server.memory.role then commit_moves (commit_index members member server) else []

-- a Leader whose told is below commit tells the next place, if there is room for its frames and anything to tell
abbrev pub tell_moves : Bool → Entry → List Move
tell_moves room entry = if bytes_eq entry.uid zeros then TellNothing ∷ [] else (if room then TellPair ∷ [] else [])

abbrev pub tell_phase : Bool → RaftServer → List Move
tell_phase room server =
    if is_leader server.memory.role && nat_lt server.memory.told server.store.commit
    then tell_moves room (next_entry server) else []

-- the tick made a Candidate or Leader of the next term
pub record TickDuty (before after : RaftServer) : Type 0 where
  pub stands : after.memory.role ≢ Follower
  pub next : after.store.term ≡ before.store.term + 1

-- behind a Leader's log comes a blank of its term where something is not committed and there is room for it; nothing
-- else changes, and nothing is offered
pub record BlankDuty (before after : RaftServer) (offered : List Message) : Type 0 where
  pub adds : before.memory.role ≡ Leader → before.store.commit < length before.store.log
      → length before.store.log < log_limit
      → after ≡ record before {
        store = record before.store { log = before.store.log ++ (blank before.store.term ∷ []) };
      }
  pub committed : length before.store.log ≤ before.store.commit → after ≡ before
  pub full : log_limit ≤ length before.store.log → after ≡ before
  pub other : before.memory.role ≢ Leader → after ≡ before
  pub silent : offered ≡ []

-- commit is the greatest index above the former one that can be committed; where there is none it is unchanged
pub record CommitDuty (members : List ℕ) (member : ℕ) (before after : RaftServer) : Type 0 where
  pub greatest : (index : ℕ) → CanCommit members member before index → index ≤ after.store.commit
  pub only : (after.store.commit ≡ before.store.commit) ⊎ CanCommit members member before after.store.commit

-- of the place after told: with a unique ID of zeros it is passed over, another is told where there is room; told
-- goes on by one exactly then
pub record TellDuty (member step : ℕ) (room : Bool) (before after : RaftServer) (offered : List Message) : Type 0 where
  pub passed : before.memory.told < before.store.commit → (next_entry before).uid ≡ zeros
      → (after.memory.told ≡ before.memory.told + 1) × (offered ≡ [])
  pub told : before.memory.told < before.store.commit → (next_entry before).uid ≢ zeros → room ≡ true
      → (after.memory.told ≡ before.memory.told + 1)
      × (offered ≡ Pairs (pair_at member step before.store before.memory.told) ∷ [])
  pub no_room : before.memory.told < before.store.commit → (next_entry before).uid ≢ zeros → room ≡ false
      → (after ≡ before) × (offered ≡ [])
  pub nothing : before.store.commit ≤ before.memory.told → (after ≡ before) × (offered ≡ [])

-- a Candidate that counts a quorum has become Leader
abbrev pub WinDuty : List ℕ → RaftServer → Type 0
WinDuty members server = server.memory.role ≡ Candidate → has_quorum members server.memory.votes ≡ false
