-- What one move of an event changes: the term, the vote, the role, and what it leaves of the log.
use Rattle.std.proofs.Common.{◌≡◌, ℕ, ◌+◌, ◌<◌, ◌≤◌, Bool, true, false, List, [], ◌∷◌, ◌++◌, refl, sym, ◌∙◌, ap, subst, arith, inl, inr, Option, None, Some}
use Rattle.std.specs.Prelude.{⊤, ◌⊎◌, ◌==◌, ◌&&◌, ◌||◌, length, min, nat_lt, not, if◌then◌else◌}
use Rattle.can_frame.specs.declared.entry.Entry.{Entry}
use Rattle.can_frame.specs.Log.{log_limit}
use Rattle.raft_model.specs.Decisions.{grants, has_previous, is_there, may_add, rule, rule_on_entry, verdict_on}
use Rattle.raft_model.specs.Handlers.{server_after}
use Rattle.raft_model.specs.Messages.{Answer, Request, reach}
use Rattle.raft_model.specs.Moves.{Move}
use Rattle.raft_model.specs.Moves.Appending.{Verdict, acknowledges, advance_puts, append_memory, append_puts, matched_memory}
use Rattle.raft_model.specs.Moves.Appending.Verdict.{Added, Held, Outdated, Refused}
use Rattle.raft_model.specs.Moves.Elections.{counting_memory, counts, grant_puts, is_leader, memory_without_call, stepped_down, term_puts, vote_puts, with_term}
use Rattle.raft_model.specs.Moves.Move.{TakeAppendAnswer, TakeAppendRequest, TakeVoteAnswer, TakeVoteRequest}
use Rattle.raft_model.specs.Server.{Memory, Put, RaftServer, Store, put, put_all}
use Rattle.raft_model.specs.Server.Put.{PutCommit, PutEntry, PutLonger, PutShorter, PutTerm, PutVote}
use Rattle.raft_model.specs.Server.Role.{Follower}
use Rattle.raft_model.proofs.Handled.{put_then}
use Rattle.alloc_spec_laws.proofs.Choices.{and_left, either, eq_true, lt_tells}
use Rattle.service_leader.proofs.TermsKept.{BringsWithin}
use Rattle.service_leader.proofs.TermsRoles.{follows_through}

-- ---- a term that comes

-- a higher term is taken, without a vote
pub raised_store : (store : Store) (term : ℕ) → store.term < term → with_term store term ≡ record store { term = term; vote = None }
raised_store store term higher = elim (lt_tells store.term term) [
  | inl z ↦ ap (λ (b : Bool). put_all store (if b then PutTerm term ∷ PutVote None ∷ [] else [])) z.0
  | inr z ↦ absurd (omega (arith, z.1, higher))
]

-- any other changes nothing
pub same_store : (store : Store) (term : ℕ) → term ≤ store.term → with_term store term ≡ store
same_store store term low = elim (lt_tells store.term term) [
  | inl z ↦ absurd (omega (arith, z.1, low))
  | inr z ↦ ap (λ (b : Bool). put_all store (if b then PutTerm term ∷ PutVote None ∷ [] else [])) z.0
]

-- ---- puts that leave term and vote

abbrev LeaveVote : List Put → Type 0
LeaveVote [] = ⊤
LeaveVote (PutTerm term ∷ rest) = ⊥
LeaveVote (PutVote vote ∷ rest) = ⊥
LeaveVote (PutEntry entry ∷ rest) = LeaveVote rest
LeaveVote (PutLonger entry ∷ rest) = LeaveVote rest
LeaveVote (PutShorter place ∷ rest) = LeaveVote rest
LeaveVote (PutCommit place ∷ rest) = LeaveVote rest

-- the term and the vote are those
abbrev HasVote : Store → Store → Type 0
HasVote before after = (after.term ≡ before.term) × (after.vote ≡ before.vote)

-- such puts leave the term and the vote
vote_left : (xs : List Put) (store : Store) → LeaveVote xs → HasVote store (put_all store xs)
vote_left [] store h = (refl, refl)
vote_left (PutTerm term ∷ xs) store h = absurd h
vote_left (PutVote vote ∷ xs) store h = absurd h
vote_left (PutEntry entry ∷ xs) store h = vote_left xs store h
vote_left (PutLonger entry ∷ xs) store h = vote_left xs (put store (PutLonger entry)) h
vote_left (PutShorter place ∷ xs) store h = vote_left xs (put store (PutShorter place)) h
vote_left (PutCommit place ∷ xs) store h = vote_left xs (put store (PutCommit place)) h

advance_leaves : (store : Store) (request : Request) → LeaveVote (advance_puts store request)
advance_leaves store request = either LeaveVote (nat_lt store.commit (min request.commit (reach request)))
    (PutCommit (min request.commit (reach request)) ∷ []) [] (λ e. tt) (λ e. tt)

-- those of an append request are such
append_leaves : (store : Store) (request : Request) (verdict : Verdict) → LeaveVote (append_puts store request verdict)
append_leaves store request Outdated = tt
append_leaves store request Refused = tt
append_leaves store request Held = advance_leaves store request
append_leaves store request (Added entry) =
    either (λ (xs : List Put). LeaveVote (xs ++ (PutEntry entry ∷ PutLonger entry ∷ advance_puts store request)))
    (nat_lt request.previous (length store.log)) (PutShorter request.previous ∷ []) []
    (λ e. advance_leaves store request) (λ e. advance_leaves store request)

-- ---- puts of votes

-- the log and the commit index are those
abbrev pub HasLog : Store → Store → Type 0
HasLog before after = (after.log ≡ before.log) × (after.commit ≡ before.commit)

-- What the puts of a vote leave: the term and the log; and the vote, unless it is given now.
record GivesVote (store : Store) (from : ℕ) (granted : Bool) (after : Store) : Type 0 where
  term : after.term ≡ store.term
  log : HasLog store after
  vote : (after.vote ≡ store.vote) ⊎ ((granted ≡ true) × (after.vote ≡ Some from))

vote_put : (store : Store) (from : ℕ) (vote : Option ℕ) → GivesVote store from true (put_all store (vote_puts vote from))
vote_put store from None = record { term = refl; log = (refl, refl); vote = inr (refl, refl) }
vote_put store from (Some earlier) = record { term = refl; log = (refl, refl); vote = inl refl }

-- the puts of a vote, given or not
grant_put : (store : Store) (request : Request) (granted : Bool) → GivesVote store request.from granted (put_all store (grant_puts store request granted))
grant_put store request true = vote_put store request.from store.vote
grant_put store request false = record { term = refl; log = (refl, refl); vote = inl refl }

-- ---- a message that is taken

-- What a message of this term leaves: the greater of the two terms; a follower where the term rises, and where it was
-- one.
pub record Takes (term : ℕ) (early late : RaftServer) : Type 0 where
  pub term_is : late.store.term ≡ (with_term early.store term).term
  pub raised : early.store.term < term → late.memory.role ≡ Follower
  pub follows : term ≤ early.store.term → early.memory.role ≡ Follower → late.memory.role ≡ Follower

-- a follower follows on by a move that brings no term above its own
follows_on : (members : List ℕ) (me number : ℕ) (server : RaftServer) (move : Move) → BringsWithin server.store.term server move
    → server.memory.role ≡ Follower → (server_after members me number server move).memory.role ≡ Follower
follows_on members me number server move brings role =
    (follows_through server.store.term members me number server move brings (role, omega arith)).0

-- a memory that is chosen by whether the term rises, where it does
chosen_raised : (own term : ℕ) (x y : Memory) → own < term → x.role ≡ Follower → (if nat_lt own term then x else y).role ≡ Follower
chosen_raised own term x y higher role = elim (lt_tells own term) [
  | inl z ↦ ap (λ (b : Bool). (if b then x else y).role) z.0 ∙ role
  | inr z ↦ absurd (omega (arith, z.1, higher))
]

module _ (members : List ℕ) (me number : ℕ) (server : RaftServer) where
  -- the vote of the term, or one that is given now, in the term of the request
  abbrev pub VotesOrNot : Request → Store → Type 0
  VotesOrNot request store = (store.vote ≡ (with_term server.store request.term).vote) ⊎ ((store.term ≡ request.term) × (store.vote ≡ Some request.from))

  -- a vote request leaves the log, and gives a vote in its own term alone
  pub takes_vote_request : (request : Request) (granted : Bool) → granted ≡ grants (with_term server.store request.term) request
      → Takes request.term server (server_after members me number server (TakeVoteRequest request granted))
      × VotesOrNot request (server_after members me number server (TakeVoteRequest request granted)).store
      × HasLog (with_term server.store request.term) (server_after members me number server (TakeVoteRequest request granted)).store
  takes_vote_request request granted judged =
      let raised : Store = with_term server.store request.term in
      let whole = put_then (term_puts server.store request.term) (grant_puts raised request granted) server.store in
      let gives : GivesVote raised request.from granted (server_after members me number server (TakeVoteRequest request granted)).store
      = subst (GivesVote raised request.from granted) (sym whole) (grant_put raised request granted) in (
        record {
          term_is = gives.term;
          raised = λ higher. chosen_raised server.store.term request.term (record server.memory { role = Follower }) server.memory higher refl;
          follows = λ low role. follows_on members me number server (TakeVoteRequest request granted) low role;
        },
        elim gives.vote [
          | inl same ↦ inl same
          | inr given ↦ inr (gives.term ∙ sym (eq_true request.term raised.term (and_left (request.term == raised.term) _ (sym judged ∙ given.0))), given.1)
        ],
        gives.log,
      )

  -- an answer to a vote request
  pub takes_vote_answer : (got : Answer) → Takes got.term server (server_after members me number server (TakeVoteAnswer got))
  takes_vote_answer got = record {
    term_is = refl;
    raised = λ higher. chosen_raised server.store.term got.term (stepped_down server.memory got.from)
        (if counts server got then counting_memory members server got else memory_without_call server.memory got.from) higher refl;
    follows = λ low role. follows_on members me number server (TakeVoteAnswer got) low role;
  }

  -- an answer to an append request
  pub takes_append_answer : (got : Answer) → Takes got.term server (server_after members me number server (TakeAppendAnswer got))
  takes_append_answer got = record {
    term_is = refl;
    raised = λ higher. chosen_raised server.store.term got.term (stepped_down server.memory got.from)
        (if acknowledges server got then matched_memory server.memory got else memory_without_call server.memory got.from) higher refl;
    follows = λ low role. follows_on members me number server (TakeAppendAnswer got) low role;
  }

  -- ---- an append request

  abbrev Follows : Request → Verdict → Type 0
  Follows request verdict = (append_memory server request verdict).role ≡ Follower

  -- a request that is not outdated makes a follower
  -- an entry that is ruled on is not outdated
  ruled_on : (store : Store) (request : Request) (entry : Option Entry) → Follows request (rule_on_entry store request entry)
  ruled_on store request None = refl
  ruled_on store request (Some entry) = either (Follows request) (nat_lt log_limit (request.previous + 1)) Refused _ (λ e. refl)
      (λ e. either (Follows request) (is_there store request entry) Held _ (λ f. refl)
      (λ f. either (Follows request) (may_add store request entry) (Added entry) Refused (λ g. refl) (λ g. refl)))

  ruled : (request : Request) → Follows request (rule (with_term server.store request.term) request)
  ruled request = either (Follows request) (has_previous (with_term server.store request.term) request)
      (rule_on_entry (with_term server.store request.term) request request.entry) Refused
      (λ e. ruled_on (with_term server.store request.term) request request.entry) (λ e. refl)

  -- a request of a higher term makes a follower
  higher_ruled : (request : Request) → server.store.term < request.term → Follows request (verdict_on server request)
  higher_ruled request higher = elim (lt_tells server.store.term request.term) [
    | inl z ↦ subst (λ (b : Bool). Follows request (if b || ((request.term == server.store.term) && not (is_leader server.memory.role))
        then rule (with_term server.store request.term) request else Outdated)) (sym z.0) (ruled request)
    | inr z ↦ absurd (omega (arith, z.1, higher))
  ]

  -- an append request leaves the vote of the term
  pub takes_append_request : (request : Request) (verdict : Verdict) → verdict ≡ verdict_on server request
      → Takes request.term server (server_after members me number server (TakeAppendRequest request verdict))
      × ((server_after members me number server (TakeAppendRequest request verdict)).store.vote ≡ (with_term server.store request.term).vote)
  takes_append_request request verdict judged =
      let raised : Store = with_term server.store request.term in
      let whole = put_then (term_puts server.store request.term) (append_puts raised request verdict) server.store in
      let left : HasVote raised (server_after members me number server (TakeAppendRequest request verdict)).store
      = subst (HasVote raised) (sym whole) (vote_left (append_puts raised request verdict) raised (append_leaves raised request verdict)) in (
        record {
          term_is = left.0;
          raised = λ higher. subst (Follows request) (sym judged) (higher_ruled request higher);
          follows = λ low role. follows_on members me number server (TakeAppendRequest request verdict) (low, judged) role;
        },
        left.1,
      )

-- ---- what is left of the log

-- a term that comes changes no log
pub log_with_term : (store : Store) (term : ℕ) → HasLog store (with_term store term)
log_with_term store term = either (λ (xs : List Put). HasLog store (put_all store xs)) (nat_lt store.term term) (PutTerm term ∷ PutVote None ∷ []) []
    (λ e. (refl, refl)) (λ e. (refl, refl))

-- the greater of the two terms is within what both are
pub term_within : (store : Store) (term top : ℕ) → store.term ≤ top → term ≤ top → (with_term store term).term ≤ top
term_within store term top own low = either (λ (xs : List Put). (put_all store xs).term ≤ top) (nat_lt store.term term) (PutTerm term ∷ PutVote None ∷ []) []
    (λ e. low) (λ e. own)
