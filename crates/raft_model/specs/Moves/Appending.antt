-- Append requests and their answers: how a request is judged, and what it and its answer change.
use Rattle.std.specs.Prelude.{◌≡◌, ◌≢◌, ℕ, ◌+◌, ◌-◌, ◌<◌, ◌≤◌, Bool, true, false, List, [], ◌∷◌, ◌++◌, length, ◌==◌}
use Rattle.std.specs.Prelude.{◌&&◌, ◌⊎◌, take, Some, None, min, max, nat_lt, if◌then◌else◌}
use Rattle.raft_model.specs.Lists.{at}
use Rattle.can_frame.specs.declared.entry.Entry.{Entry}
use Rattle.can_frame.specs.Log.{IsInjective, IsWellFormed, log_limit}
use Rattle.raft_model.specs.Log.{term_at}
use Rattle.raft_model.specs.Messages.{Request, reach, Answer}
use Rattle.raft_model.specs.Server.{Store, Memory, RaftServer, Put}
use Rattle.raft_model.specs.Server.Role.{Follower, Leader}
use Rattle.raft_model.specs.Server.Put.{PutEntry, PutLonger, PutShorter, PutCommit}
use Rattle.raft_model.specs.Moves.Elections.{is_leader, with_term}

-- how an append request is judged
pub data Verdict : Type 0 where
  Outdated : Verdict  -- refused for its term: it changes nothing
  Refused : Verdict  -- refused for the log or the entry
  Held : Verdict  -- accepted: the log has it already
  Added : (entry : Entry) → Verdict  -- accepted: this entry comes into the log

-- Append requests, judged on what is stored after the request's term.

-- the term is not lower, and not its own while it is Leader
abbrev pub IsCurrent : RaftServer → Request → Type 0
IsCurrent server request = (server.store.term < request.term)
    ⊎ ((request.term ≡ server.store.term) × (server.memory.role ≢ Leader))

abbrev pub IsOutdated : RaftServer → Request → Type 0
IsOutdated server request = (request.term < server.store.term)
    ⊎ ((request.term ≡ server.store.term) × (server.memory.role ≡ Leader))

-- the previous index is at most last, and the entry there has the previous term
pub record HasPrevious (store : Store) (request : Request) : Type 0 where
  pub previous : request.previous ≤ length store.log
  pub previous_term : term_at store.log request.previous ≡ request.previous_term

-- the entry's place is in the log, with an entry of the same term
abbrev pub IsThere : Store → Request → Entry → Type 0
IsThere store request entry = (request.previous < length store.log)
    × (term_at store.log (request.previous + 1) ≡ entry.term)

-- there is no entry, or it is there
pub record Holds (store : Store) (request : Request) : Type 0 where
  pub fits : HasPrevious store request
  pub has : (request.entry ≡ None)
      ⊎ ((entry : Entry) × (request.entry ≡ Some entry) × (request.previous + 1 ≤ log_limit)
      × IsThere store request entry)

-- the entry is not there and may come into the log, cut before its place
pub record Adds (store : Store) (request : Request) (entry : Entry) : Type 0 where
  pub fits : HasPrevious store request
  pub carried : request.entry ≡ Some entry
  pub room : request.previous + 1 ≤ log_limit
  pub not_there : IsThere store request entry → ⊥
  pub after_commit : store.commit < request.previous + 1
  pub well_formed : IsWellFormed entry
  pub rises : term_at store.log request.previous ≤ entry.term
  pub below : entry.term ≤ request.term
  pub injective : IsInjective (take request.previous store.log ++ (entry ∷ []))

-- the entry is not there and may not come into the log
abbrev pub IsBadEntry : Store → Request → Entry → Type 0
IsBadEntry store request entry = (log_limit < request.previous + 1)
    ⊎ ((IsThere store request entry → ⊥) × (
    (request.previous + 1 ≤ store.commit)
    ⊎ ((IsWellFormed entry → ⊥)
    ⊎ ((entry.term < term_at store.log request.previous)
    ⊎ ((request.term < entry.term)
    ⊎ (IsInjective (take request.previous store.log ++ (entry ∷ [])) → ⊥))))))

abbrev pub IsRefused : Store → Request → Type 0
IsRefused store request = (HasPrevious store request → ⊥)
    ⊎ ((entry : Entry) × (request.entry ≡ Some entry) × IsBadEntry store request entry)

-- what the rules on log and entry say
abbrev pub IsRuled : Store → Request → Verdict → Type 0
IsRuled store request Outdated = ⊥
IsRuled store request Refused = IsRefused store request
IsRuled store request Held = Holds store request
IsRuled store request (Added entry) = Adds store request entry

-- the verdict on a request: first its term, then log and entry
abbrev pub IsJudged : RaftServer → Request → Verdict → Type 0
IsJudged server request Outdated = IsOutdated server request
IsJudged server request verdict = IsCurrent server request
    × IsRuled (with_term server.store request.term) request verdict

abbrev pub is_accepted : Verdict → Bool
is_accepted Outdated = false
is_accepted Refused = false
is_accepted verdict = true

-- last is cut to the previous index, where there is more
abbrev pub cut_puts : Store → Request → List Put
cut_puts store request = if nat_lt request.previous (length store.log) then PutShorter request.previous ∷ [] else []

-- the lesser of the request's commit and its reach, where it is above commit
abbrev pub advance_puts : Store → Request → List Put
advance_puts store request =
    if nat_lt store.commit (min request.commit (reach request))
    then PutCommit (min request.commit (reach request)) ∷ [] else []

abbrev pub append_puts : Store → Request → Verdict → List Put
append_puts store request Outdated = []
append_puts store request Refused = []
append_puts store request Held = advance_puts store request
append_puts store request (Added entry) =
    cut_puts store request ++ (PutEntry entry ∷ PutLonger entry ∷ advance_puts store request)

abbrev pub append_memory : RaftServer → Request → Verdict → Memory
append_memory server request Outdated = server.memory
append_memory server request verdict = record server.memory { role = Follower }

-- Append answers.

-- an answer counts for a Leader of its term
abbrev pub acknowledges : RaftServer → Answer → Bool
acknowledges server answer = is_leader server.memory.role && (answer.term == server.store.term)

abbrev pub matched_after : Memory → Answer → ℕ
matched_after memory answer =
    if answer.success then max (memory.matched answer.from) (reach answer.request) else memory.matched answer.from

abbrev pub next_after : Memory → Answer → ℕ
next_after memory answer =
    if answer.success then max (memory.matched answer.from) (reach answer.request) + 1
    else max 1 (memory.next answer.from - 1)

abbrev pub matched_memory : Memory → Answer → Memory
matched_memory memory answer = record memory {
  pending = at memory.pending answer.from None;
  matched = at memory.matched answer.from (matched_after memory answer);
  next = at memory.next answer.from (next_after memory answer);
}
