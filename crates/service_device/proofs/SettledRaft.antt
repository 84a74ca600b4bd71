-- A leader that has committed and told its whole log: what moves leave of it that bring no higher term, and that neither
-- propose, commit nor tell.
use Rattle.std.proofs.Common.{zero, suc, ◌≡◌, ℕ, ◌≤◌, ◌<◌, Bool, true, false, List, [], ◌∷◌, ◌++◌, refl, sym, ◌∙◌, ap, subst, arith, inl, inr, append-nil, Option, Some, None}
use Rattle.std.specs.Prelude.{⊤, ◌⊎◌, ◌&&◌, length, nat_le, nat_lt, if◌then◌else◌}
use Rattle.can_frame.specs.declared.entry.Entry.{Entry}
use Rattle.can_frame.specs.Log.{blank}
use Rattle.raft_core.specs.Handled.{is_moment, with_blank}
use Rattle.raft_core.specs.Times.{Times}
use Rattle.raft_model.specs.Decisions.{can_commit, commit_index, greatest_to}
use Rattle.raft_model.specs.Duty.{takes_blank}
use Rattle.raft_model.specs.Handlers.{server_after, server_after_all}
use Rattle.raft_model.specs.Messages.{Request}
use Rattle.raft_model.specs.Moves.{Move, memory_after, puts}
use Rattle.raft_model.specs.Moves.Appending.{Verdict, acknowledges, append_memory, append_puts, matched_memory}
use Rattle.raft_model.specs.Moves.Elections.{counting_memory, counts, grant_puts, is_candidate, is_leader, memory_without_call, stepped_down, term_puts, vote_puts, with_term}
use Rattle.raft_model.specs.Moves.Move.{AnswerAgain, CallForVote, CallToAppend, CommitTo, GiveUp, ProposeEntry, TakeAppendAnswer, TakeAppendRequest, TakeVoteAnswer, TakeVoteRequest, TellNothing, TellPair, TimeOut}
use Rattle.raft_model.specs.Server.{Memory, Put, RaftServer, Store, put, put_all}
use Rattle.raft_model.specs.Server.Put.{PutCommit, PutEntry, PutLonger, PutShorter, PutTerm, PutVote}
use Rattle.raft_model.specs.Server.Role.{Leader}
use Rattle.alloc_spec.specs.Ending.{has_to_tell}
use Rattle.alloc_spec_laws.proofs.Choices.{and_left, and_right, either, le_true, lt_true}
use Rattle.service_leader.proofs.TermsKept.{BringsWithin}
use Rattle.service_leader.proofs.TermsRoles.{LeadsAt, leads_through, no_count, not_above, outdated}

-- a move that brings no higher term, and that neither proposes, commits nor tells
abbrev pub IsStill : ℕ → RaftServer → Move → Type 0
IsStill top server TimeOut = ⊥
IsStill top server (TakeVoteRequest request granted) = BringsWithin top server (TakeVoteRequest request granted)
IsStill top server (TakeVoteAnswer got) = BringsWithin top server (TakeVoteAnswer got)
IsStill top server (TakeAppendRequest request verdict) = BringsWithin top server (TakeAppendRequest request verdict)
IsStill top server (TakeAppendAnswer got) = BringsWithin top server (TakeAppendAnswer got)
IsStill top server (ProposeEntry entry) = ⊥
IsStill top server (CommitTo index) = ⊥
IsStill top server TellPair = ⊥
IsStill top server TellNothing = ⊥
IsStill top server (CallForVote peer) = ⊤
IsStill top server (CallToAppend peer previous with_entry) = ⊤
IsStill top server (AnswerAgain place) = ⊤
IsStill top server (GiveUp peer) = ⊤

brings : (top : ℕ) (server : RaftServer) (move : Move) → IsStill top server move → BringsWithin top server move
brings top server TimeOut is = is
brings top server (TakeVoteRequest request granted) is = is
brings top server (TakeVoteAnswer got) is = is
brings top server (TakeAppendRequest request verdict) is = is
brings top server (TakeAppendAnswer got) is = is
brings top server (ProposeEntry entry) is = tt
brings top server (CommitTo index) is = tt
brings top server TellPair is = tt
brings top server TellNothing is = tt
brings top server (CallForVote peer) is = tt
brings top server (CallToAppend peer previous with_entry) is = tt
brings top server (AnswerAgain place) is = tt
brings top server (GiveUp peer) is = tt

-- ---- what is stored

-- these puts change the vote alone
abbrev AreVotes : List Put → Type 0
AreVotes [] = ⊤
AreVotes (PutTerm term ∷ rest) = ⊥
AreVotes (PutVote vote ∷ rest) = AreVotes rest
AreVotes (PutEntry entry ∷ rest) = ⊥
AreVotes (PutLonger entry ∷ rest) = ⊥
AreVotes (PutShorter place ∷ rest) = ⊥
AreVotes (PutCommit place ∷ rest) = ⊥

-- the log and the commit are as they were
abbrev IsAsLong : Store → Store → Type 0
IsAsLong before now = (now.log ≡ before.log) × (now.commit ≡ before.commit)

after_votes : (xs : List Put) (store : Store) → AreVotes xs → IsAsLong store (put_all store xs)
after_votes [] store h = (refl, refl)
after_votes (PutTerm term ∷ xs) store h = absurd h
after_votes (PutVote vote ∷ xs) store h = after_votes xs (put store (PutVote vote)) h
after_votes (PutEntry entry ∷ xs) store h = absurd h
after_votes (PutLonger entry ∷ xs) store h = absurd h
after_votes (PutShorter place ∷ xs) store h = absurd h
after_votes (PutCommit place ∷ xs) store h = absurd h

both_votes : (xs ys : List Put) → AreVotes xs → AreVotes ys → AreVotes (xs ++ ys)
both_votes [] ys h k = k
both_votes (PutTerm term ∷ xs) ys h k = absurd h
both_votes (PutVote vote ∷ xs) ys h k = both_votes xs ys h k
both_votes (PutEntry entry ∷ xs) ys h k = absurd h
both_votes (PutLonger entry ∷ xs) ys h k = absurd h
both_votes (PutShorter place ∷ xs) ys h k = absurd h
both_votes (PutCommit place ∷ xs) ys h k = absurd h

-- no higher term is put
no_term : (store : Store) (term : ℕ) → term ≤ store.term → AreVotes (term_puts store term)
no_term store term low = either AreVotes (nat_lt store.term term) (PutTerm term ∷ PutVote None ∷ []) []
    (λ e. absurd (cc (e, not_above store.term term low))) (λ e. tt)

one_vote : (vote : Option ℕ) (candidate : ℕ) → AreVotes (vote_puts vote candidate)
one_vote None candidate = tt
one_vote (Some earlier) candidate = tt

granted_votes : (store : Store) (request : Request) (granted : Bool) → AreVotes (grant_puts store request granted)
granted_votes store request true = one_vote store.vote request.from
granted_votes store request false = tt

votes_alone : (members : List ℕ) (me : ℕ) (server : RaftServer) (move : Move) → server.memory.role ≡ Leader → IsStill server.store.term server move
    → AreVotes (puts members me server move)
votes_alone members me server TimeOut leads is = absurd is
votes_alone members me server (TakeVoteRequest request granted) leads is =
    both_votes (term_puts server.store request.term) (grant_puts (with_term server.store request.term) request granted) (no_term server.store request.term is)
    (granted_votes (with_term server.store request.term) request granted)
votes_alone members me server (TakeVoteAnswer got) leads is = no_term server.store got.term is
votes_alone members me server (TakeAppendRequest request verdict) leads is =
    both_votes (term_puts server.store request.term) (append_puts (with_term server.store request.term) request verdict)
    (no_term server.store request.term is.0)
    (subst (λ (v : Verdict). AreVotes (append_puts (with_term server.store request.term) request v))
    (sym (is.1 ∙ outdated server request leads is.0)) tt)
votes_alone members me server (TakeAppendAnswer got) leads is = no_term server.store got.term is
votes_alone members me server (ProposeEntry entry) leads is = absurd is
votes_alone members me server (CommitTo index) leads is = absurd is
votes_alone members me server TellPair leads is = absurd is
votes_alone members me server TellNothing leads is = absurd is
votes_alone members me server (CallForVote peer) leads is = tt
votes_alone members me server (CallToAppend peer previous with_entry) leads is = tt
votes_alone members me server (AnswerAgain place) leads is = tt
votes_alone members me server (GiveUp peer) leads is = tt

-- ---- what was told

abbrev TellsTo : ℕ → Memory → Type 0
TellsTo told memory = memory.told ≡ told

told_on : (members : List ℕ) (me number : ℕ) (server : RaftServer) (move : Move) → server.memory.role ≡ Leader → IsStill server.store.term server move
    → TellsTo server.memory.told (memory_after members me number server move)
told_on members me number server TimeOut leads is = absurd is
told_on members me number server (TakeVoteRequest request granted) leads is =
    either (TellsTo server.memory.told) (nat_lt server.store.term request.term) _ server.memory (λ e. refl) (λ e. refl)
told_on members me number server (TakeVoteAnswer got) leads is =
    either (TellsTo server.memory.told) (nat_lt server.store.term got.term) (stepped_down server.memory got.from)
    (if counts server got then counting_memory members server got else memory_without_call server.memory got.from) (λ e. refl)
    (λ e. either (TellsTo server.memory.told) (counts server got) (counting_memory members server got) (memory_without_call server.memory got.from)
    (λ f. absurd (cc (f, no_count server got (ap is_candidate leads)))) (λ f. refl))
told_on members me number server (TakeAppendRequest request verdict) leads is =
    ap (λ (v : Verdict). (append_memory server request v).told) (is.1 ∙ outdated server request leads is.0)
told_on members me number server (TakeAppendAnswer got) leads is =
    either (TellsTo server.memory.told) (nat_lt server.store.term got.term) (stepped_down server.memory got.from)
    (if acknowledges server got then matched_memory server.memory got else memory_without_call server.memory got.from) (λ e. refl)
    (λ e. either (TellsTo server.memory.told) (acknowledges server got) (matched_memory server.memory got) (memory_without_call server.memory got.from)
    (λ f. refl) (λ f. refl))
told_on members me number server (ProposeEntry entry) leads is = absurd is
told_on members me number server (CommitTo index) leads is = absurd is
told_on members me number server TellPair leads is = absurd is
told_on members me number server TellNothing leads is = absurd is
told_on members me number server (CallForVote peer) leads is = refl
told_on members me number server (CallToAppend peer previous with_entry) leads is = refl
told_on members me number server (AnswerAgain place) leads is = refl
told_on members me number server (GiveUp peer) leads is = refl

-- ---- both

-- the server leads in this term, and has committed and told its whole log, which is this one
pub record IsDone (top : ℕ) (log : List Entry) (server : RaftServer) : Type 0 where
  pub leads : LeadsAt top server
  pub log_is : server.store.log ≡ log
  pub committed : server.store.commit ≡ length log
  pub told : server.memory.told ≡ length log

-- what a leader has stored, and what it told, stays through such a move
pub record StaysThrough (top : ℕ) (before now : RaftServer) : Type 0 where
  pub leads : LeadsAt top now
  pub log_is : now.store.log ≡ before.store.log
  pub committed : now.store.commit ≡ before.store.commit
  pub told : now.memory.told ≡ before.memory.told

pub stays_on : (top : ℕ) (members : List ℕ) (me number : ℕ) (server : RaftServer) (move : Move) → IsStill top server move → LeadsAt top server
    → StaysThrough top server (server_after members me number server move)
stays_on top members me number server move is leads =
    let own : IsStill server.store.term server move = subst (λ (term : ℕ). IsStill term server move) (sym leads.1) is in
    let stored : IsAsLong server.store (put_all server.store (puts members me server move))
    = after_votes (puts members me server move) server.store (votes_alone members me server move leads.0 own) in record {
      leads = leads_through top members me number server move (brings top server move is) leads;
      log_is = stored.0;
      committed = stored.1;
      told = told_on members me number server move leads.0 own;
    }

-- so it is after such a move
pub done_on : (top : ℕ) (log : List Entry) (members : List ℕ) (me number : ℕ) (server : RaftServer) (move : Move) → IsStill top server move
    → IsDone top log server → IsDone top log (server_after members me number server move)
done_on top log members me number server move is h =
    let s : StaysThrough top server (server_after members me number server move) = stays_on top members me number server move is h.leads in
    record { leads = s.leads; log_is = s.log_is ∙ h.log_is; committed = s.committed ∙ h.committed; told = s.told ∙ h.told }

-- it has nothing left to commit
pub all_committed : (top : ℕ) (log : List Entry) (server : RaftServer) → IsDone top log server → server.store.commit ≡ length server.store.log
all_committed top log server h = h.committed ∙ ap (λ (l : List Entry). length l) (sym h.log_is)

-- it has nothing to tell
pub none_to_tell : (top : ℕ) (log : List Entry) (server : RaftServer) → IsDone top log server → has_to_tell server ≡ true → ⊥
none_to_tell top log server h e =
    let low : server.memory.told < server.store.commit = lt_true server.memory.told server.store.commit (and_right (is_leader server.memory.role) _ e) in
    omega (arith, low, h.told, h.committed)

-- it adds no blank
pub no_blank : (top : ℕ) (log : List Entry) (server : RaftServer) → IsDone top log server → takes_blank server.store ≡ true → ⊥
no_blank top log server h e =
    let low : server.store.commit < length server.store.log
    = lt_true server.store.commit (length server.store.log) (and_left (nat_lt server.store.commit (length server.store.log)) _ e) in
    omega (arith, low, all_committed top log server h)

-- ---- what an office asks of what holds of a leader

-- a move that ends no call of the server
abbrev pub EndsNoCall : Move → Type 0
EndsNoCall (TakeVoteAnswer got) = ⊥
EndsNoCall (TakeAppendAnswer got) = ⊥
EndsNoCall move = ⊤

-- This holds of a server that leads in this term, and whose log begins with this one. It stays through moves that bring
-- no higher term, as the server commits what it can, and as it tells. Where a call ends, a blank may come behind the
-- move: `Sees` says over which list it is judged whether its moment has come, by whom, and whether it waits with it.
pub record IsOffice (top : ℕ) (log : List Entry) (Holds : RaftServer → Type 0) (Sees : List ℕ → ℕ → Bool → Type 0) : Type 0 where
  pub leads : (server : RaftServer) → Holds server → LeadsAt top server
  pub log_is : (server : RaftServer) → Holds server → (more : List Entry) × (server.store.log ≡ log ++ more)
  pub still : (members : List ℕ) (me number : ℕ) (server : RaftServer) (move : Move) → IsStill top server move → EndsNoCall move → Holds server
      → Holds (server_after members me number server move)
  pub calls : (members : List ℕ) (me number : ℕ) (times : Times) (server : RaftServer) (move : Move) → Sees members me times.waits → IsStill top server move
      → Holds server → Holds (server_after_all members me number server (with_blank members me number times server (move ∷ [])))
  pub commits : (members : List ℕ) (me number : ℕ) (server : RaftServer) (index : ℕ) → commit_index members me server ≡ Some index → Holds server
      → Holds (server_after members me number server (CommitTo index))
  pub tells : (members : List ℕ) (me number : ℕ) (server : RaftServer) → has_to_tell server ≡ true → Holds server
      → Holds (server_after members me number server TellPair)
  pub passes : (members : List ℕ) (me number : ℕ) (server : RaftServer) → has_to_tell server ≡ true → Holds server
      → Holds (server_after members me number server TellNothing)

-- whoever it is, and whatever its list
abbrev pub Anyone : List ℕ → ℕ → Bool → Type 0
Anyone members me waits = ⊤

-- what holds behind the move that ends a call, with the blank that comes then, or where none comes
pub ends_call : (Holds : RaftServer → Type 0) (members : List ℕ) (me number : ℕ) (times : Times) (server : RaftServer) (move : Move)
    → let after = server_after members me number server move in
    (is_moment members me times server after ≡ true → (is_leader after.memory.role && takes_blank after.store) ≡ true
    → Holds (server_after members me number after (ProposeEntry (blank after.store.term))))
    → ((is_moment members me times server after ≡ false) ⊎ ((is_leader after.memory.role && takes_blank after.store) ≡ false) → Holds after)
    → Holds (server_after_all members me number server (with_blank members me number times server (move ∷ [])))
ends_call Holds members me number times server move adds none =
    by (is_moment members me times server after) refl (is_leader after.memory.role && takes_blank after.store) refl
  where
    after : RaftServer
    after = server_after members me number server move

    by : (m : Bool) → is_moment members me times server after ≡ m → (b : Bool) → (is_leader after.memory.role && takes_blank after.store) ≡ b
        → Holds (server_after_all members me number after (if m then (if b then ProposeEntry (blank after.store.term) ∷ [] else []) else []))
    by true e true f = adds e f
    by true e false f = none (inr f)
    by false e b f = none (inl e)

-- where no blank comes
pub ends_without : (Holds : RaftServer → Type 0) (members : List ℕ) (me number : ℕ) (times : Times) (server : RaftServer) (move : Move)
    → let after = server_after members me number server move in
    Holds after → (is_moment members me times server after ≡ true → takes_blank after.store ≡ true → ⊥)
    → Holds (server_after_all members me number server (with_blank members me number times server (move ∷ [])))
ends_without Holds members me number times server move holds no_moment =
    ends_call Holds members me number times server move (λ moment takes. absurd (no_moment moment (and_right _ _ takes))) (λ why. holds)

-- a log begins with itself
pub begins_with : (log now : List Entry) → now ≡ log → (more : List Entry) × (now ≡ log ++ more)
begins_with log now e = ([], e ∙ sym (append-nil log))

one_number : (a b : ℕ) → Some a ≡ Some b → a ≡ b
one_number a b e = cc (e)

-- a number that is found passes the test
pub greatest_passes : (limit : ℕ) (test : ℕ → Bool) (found : ℕ) → greatest_to limit test ≡ Some found → test found ≡ true
greatest_passes zero test found e = by (test zero) refl e
  where
    by : (b : Bool) → test zero ≡ b → (if b then Some zero else None) ≡ Some found → test found ≡ true
    by true passes f = subst (λ (n : ℕ). test n ≡ true) (one_number zero found f) passes
    by false passes f = absurd (cc (f))
greatest_passes (suc limit) test found e = by (λ f. greatest_passes limit test found f) (test (suc limit)) refl e
  where
    by : (greatest_to limit test ≡ Some found → test found ≡ true) → (b : Bool) → test (suc limit) ≡ b
        → (if b then Some (suc limit) else greatest_to limit test) ≡ Some found → test found ≡ true
    by rest true passes f = subst (λ (n : ℕ). test n ≡ true) (one_number (suc limit) found f) passes
    by rest false passes f = rest f

-- who has committed its whole log commits no further
pub no_commit : (members : List ℕ) (me : ℕ) (server : RaftServer) (index : ℕ) → server.store.commit ≡ length server.store.log
    → commit_index members me server ≡ Some index → ⊥
no_commit members me server index all e =
    let can : can_commit members me server index ≡ true = greatest_passes (length server.store.log) (can_commit members me server) index e in
    let low : server.store.commit < index = lt_true server.store.commit index (and_left (nat_lt server.store.commit index) _ can) in
    let high : index ≤ length server.store.log
    = le_true index (length server.store.log) (and_left (nat_le index (length server.store.log)) _ (and_right (nat_lt server.store.commit index) _ can)) in
    omega (arith, low, high, all)

-- who is done is in office
pub done_office : (top : ℕ) (log : List Entry) → IsOffice top log (IsDone top log) Anyone
done_office top log = record {
  leads = λ server h. h.leads;
  log_is = λ server h. begins_with log server.store.log h.log_is;
  still = λ members me number server move is quiet h. done_on top log members me number server move is h;
  calls = λ members me number times server move sees is h.
      let after : IsDone top log (server_after members me number server move) = done_on top log members me number server move is h in
      ends_without (IsDone top log) members me number times server move after (λ moment takes. no_blank top log (server_after members me number server move) after takes);
  commits = λ members me number server index e h. absurd (no_commit members me server index (all_committed top log server h) e);
  tells = λ members me number server e h. absurd (none_to_tell top log server h e);
  passes = λ members me number server e h. absurd (none_to_tell top log server h e);
}
