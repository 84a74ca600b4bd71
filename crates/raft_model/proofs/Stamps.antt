-- Only a Leader's commit makes the ledger longer.
use Rattle.std.proofs.Common.{◌≡◌, ◌≢◌, ℕ, zero, suc, ◌≤◌, true, Bool, false, Option, Some, None, List, [], ◌∷◌, ◌++◌, length, min, refl, arith, ◌∙◌, ap, subst, inl, inr, take, length-take}
use Rattle.raft_model.specs.Lists.{In, at_here}
use Rattle.raft_model.specs.Messages.{Message, Request, reach}
use Rattle.raft_model.specs.Messages.Message.{Requests}
use Rattle.raft_model.specs.Server.{Store, RaftServer, Put, put, committed, memory_when_down}
use Rattle.raft_model.specs.Server.Put.{PutTerm, PutVote, PutEntry, PutLonger, PutShorter, PutCommit}
use Rattle.raft_model.specs.Ledger.{Ledger, ledger_through}
use Rattle.raft_model.specs.Moves.{Move, Verdict, IsEnabled, puts, term_puts, with_term, grant_puts, vote_puts, append_puts, advance_puts, cut_puts}
use Rattle.raft_model.specs.Moves.Move.{TimeOut, TakeVoteRequest, TakeVoteAnswer, TakeAppendRequest, TakeAppendAnswer, ProposeEntry, CommitTo, TellPair, TellNothing, CallForVote, CallToAppend, AnswerAgain, GiveUp}
use Rattle.raft_model.specs.Moves.Verdict.{Outdated, Refused, Held, Added}
use Rattle.raft_model.specs.Stops.{LocalState, state_after_move, AllEnabled}
use Rattle.raft_model.specs.Runs.{World, Event, initial_world, local_state_of, local_state_after, after, MayOccur, run, Lawful}
use Rattle.raft_model.specs.Runs.Event.{Steps, Stops, StopsWithin}
use Rattle.raft_model.specs.Invariants.{Invariants}
use Rattle.raft_model.specs.Safety.{IsSafe}
use Rattle.raft_model.proofs.Joined.{joined_moves}
use Rattle.raft_model.proofs.Prefixes.{stop_comes, lawful_then_one, run_then_one}
use Rattle.raft_model.proofs.Run.{keeps_invariants, is_safe}
use Rattle.raft_model.proofs.Terms.{same_commit}
use Rattle.raft_model.proofs.Walk.{Covered, ledger_stays}
use Rattle.raft_model.proofs.Whole.{lt_tells}

-- no commit index among the puts is above this
abbrev pub EachLow : ℕ → List Put → Type 0
EachLow top [] = Unit {0}
EachLow top (PutTerm term ∷ rest) = EachLow top rest
EachLow top (PutVote vote ∷ rest) = EachLow top rest
EachLow top (PutEntry entry ∷ rest) = EachLow top rest
EachLow top (PutLonger entry ∷ rest) = EachLow top rest
EachLow top (PutShorter place ∷ rest) = EachLow top rest
EachLow top (PutCommit place ∷ rest) = (place ≤ top) × EachLow top rest

-- a put that adds nothing, before puts that add nothing
after_one : (ledger : Ledger) (store : Store) (first : Put) (rest : List Put) → Covered ledger (put store first)
    → ledger_through ledger (put store first) rest ≡ ledger → ledger_through ledger store (first ∷ rest) ≡ ledger
after_one ledger store first rest covered same = ap (λ (l : Ledger). ledger_through l (put store first) rest)
    (ledger_stays ledger (put store first) covered)
    ∙ same

stays : (ledger : Ledger) (store : Store) (changes : List Put) → Covered ledger store → EachLow (length ledger.entries) changes
    → ledger_through ledger store changes ≡ ledger
stays ledger store [] covered low = refl
stays ledger store (PutTerm term ∷ rest) covered low = let c : Covered ledger (put store (PutTerm term)) = same_commit ledger store
    (put store (PutTerm term)) covered refl in
    after_one ledger store (PutTerm term) rest c (stays ledger (put store (PutTerm term)) rest c low)
stays ledger store (PutVote vote ∷ rest) covered low = let c : Covered ledger (put store (PutVote vote)) = same_commit ledger store
    (put store (PutVote vote)) covered refl in
    after_one ledger store (PutVote vote) rest c (stays ledger (put store (PutVote vote)) rest c low)
stays ledger store (PutEntry entry ∷ rest) covered low = let c : Covered ledger (put store (PutEntry entry)) = same_commit ledger store
    (put store (PutEntry entry)) covered refl in
    after_one ledger store (PutEntry entry) rest c (stays ledger (put store (PutEntry entry)) rest c low)
stays ledger store (PutLonger entry ∷ rest) covered low = let c : Covered ledger (put store (PutLonger entry)) = same_commit ledger store
    (put store (PutLonger entry)) covered refl in
    after_one ledger store (PutLonger entry) rest c (stays ledger (put store (PutLonger entry)) rest c low)
stays ledger store (PutShorter place ∷ rest) covered low = let c : Covered ledger (put store (PutShorter place)) = same_commit ledger store
    (put store (PutShorter place)) covered refl in
    after_one ledger store (PutShorter place) rest c (stays ledger (put store (PutShorter place)) rest c low)
stays ledger store (PutCommit place ∷ rest) covered low = let c : Covered ledger (put store (PutCommit place)) = record
    { commit = low.0; stamps = covered.stamps } in
    after_one ledger store (PutCommit place) rest c (stays ledger (put store (PutCommit place)) rest c low.1)

both_low : (top : ℕ) (xs ys : List Put) → EachLow top xs → EachLow top ys → EachLow top (xs ++ ys)
both_low top [] ys a b = b
both_low top (PutTerm term ∷ xs) ys a b = both_low top xs ys a b
both_low top (PutVote vote ∷ xs) ys a b = both_low top xs ys a b
both_low top (PutEntry entry ∷ xs) ys a b = both_low top xs ys a b
both_low top (PutLonger entry ∷ xs) ys a b = both_low top xs ys a b
both_low top (PutShorter place ∷ xs) ys a b = both_low top xs ys a b
both_low top (PutCommit place ∷ xs) ys a b = (a.0, both_low top xs ys a.1 b)

take_low : (top count : ℕ) (xs : List Put) → EachLow top xs → EachLow top (take count xs)
take_low top zero xs low = tt
take_low top (suc count) [] low = tt
take_low top (suc count) (PutTerm term ∷ xs) low = take_low top count xs low
take_low top (suc count) (PutVote vote ∷ xs) low = take_low top count xs low
take_low top (suc count) (PutEntry entry ∷ xs) low = take_low top count xs low
take_low top (suc count) (PutLonger entry ∷ xs) low = take_low top count xs low
take_low top (suc count) (PutShorter place ∷ xs) low = take_low top count xs low
take_low top (suc count) (PutCommit place ∷ xs) low = (low.0, take_low top count xs low.1)

term_low : (top : ℕ) (store : Store) (term : ℕ) → EachLow top (term_puts store term)
term_low top store term = elim (lt_tells store.term term) [ inl h ↦ rw (h.0) tt | inr h ↦ rw (h.0) tt ]

grant_low : (top : ℕ) (store : Store) (request : Request) (granted : Bool) → EachLow top (grant_puts store request granted)
grant_low top store request false = tt
grant_low top store request true = vote_low store.vote
  where
    vote_low : (vote : Option ℕ) → EachLow top (vote_puts vote request.from)
    vote_low None = tt
    vote_low (Some earlier) = tt

advance_low : (top : ℕ) (store : Store) (request : Request) → request.commit ≤ top → EachLow top (advance_puts store request)
advance_low top store request low = elim (lt_tells store.commit (min request.commit (reach request)))
    [ inl h ↦ rw (h.0) (omega (arith, low), tt) | inr h ↦ rw (h.0) tt ]

append_low : (top : ℕ) (store : Store) (request : Request) (verdict : Verdict) → request.commit ≤ top
    → EachLow top (append_puts store request verdict)
append_low top store request Outdated low = tt
append_low top store request Refused low = tt
append_low top store request Held low = advance_low top store request low
append_low top store request (Added entry) low = both_low top (cut_puts store request)
    (PutEntry entry ∷ PutLonger entry ∷ advance_puts store request) cut (advance_low top store request low)
  where
    cut : EachLow top (cut_puts store request)
    cut = elim (lt_tells request.previous (length store.log)) [ inl h ↦ rw (h.0) tt | inr h ↦ rw (h.0) tt ]

-- a move that is no commit puts no commit index above the ledger
puts_low : (members : List ℕ) (member : ℕ) (bag : List Message) (called : List ℕ) (server : RaftServer) (move : Move) (top : ℕ)
    → IsEnabled members member bag called server move →
    ((request : Request) → In (Requests request) bag → request.append ≡ true → request.commit ≤ top) → ((index : ℕ) → move ≢ CommitTo index)
    → EachLow top (puts members member server move)
puts_low members member bag called server TimeOut top comes low other = tt
puts_low members member bag called server (TakeVoteRequest request granted) top comes low other =
    both_low top (term_puts server.store request.term) (grant_puts (with_term server.store request.term) request granted)
    (term_low top server.store request.term) (grant_low top (with_term server.store request.term) request granted)
puts_low members member bag called server (TakeVoteAnswer answer) top comes low other = term_low top server.store answer.term
puts_low members member bag called server (TakeAppendRequest request verdict) top comes low other =
    both_low top (term_puts server.store request.term) (append_puts (with_term server.store request.term) request verdict)
    (term_low top server.store request.term)
    (append_low top (with_term server.store request.term) request verdict (low request comes.0 comes.2))
puts_low members member bag called server (TakeAppendAnswer answer) top comes low other = term_low top server.store answer.term
puts_low members member bag called server (ProposeEntry entry) top comes low other = tt
puts_low members member bag called server (CommitTo index) top comes low other = absurd (other index refl)
puts_low members member bag called server TellPair top comes low other = tt
puts_low members member bag called server TellNothing top comes low other = tt
puts_low members member bag called server (CallForVote peer) top comes low other = tt
puts_low members member bag called server (CallToAppend peer previous with_entry) top comes low other = tt
puts_low members member bag called server (AnswerAgain place) top comes low other = tt
puts_low members member bag called server (GiveUp peer) top comes low other = tt

-- in a safe world the ledger has what each member committed
covered : (world : World) (member : ℕ) → Invariants world → IsSafe world → Covered world.ledger (world.server member).store
covered world member holds safe = record {
  commit = omega (
    arith,
    ap length (safe.committed_here member),
    length-take (length (committed store)) world.ledger.entries,
    length-take store.commit store.log,
    (holds.stores member).commit,
  );
  stamps = safe.stamps;
}
  where
    store : Store
    store = (world.server member).store

-- after some moves of a step, puts that are no commit of a Leader leave the ledger
module _ (members : List ℕ) (events : List Event) (member step : ℕ) (moves : List Move) (next : Move) (lawful : Lawful (initial_world members) events)
    (may : (((run (initial_world members) events).server member).memory.up ≡ true)
    × AllEnabled (run (initial_world members) events).members member step (run (initial_world members) events).bag
    (local_state_of (run (initial_world members) events) member) moves
    × IsEnabled (run (initial_world members) events).members member (run (initial_world members) events).bag
    (local_state_after (run (initial_world members) events) member step moves).called (local_state_after (run (initial_world members) events) member step moves).raft_server
    next)
    (other : (index : ℕ) → next ≢ CommitTo index) where
  abbrev world : World
  world = run (initial_world members) events

  abbrev local_state : LocalState
  local_state = local_state_after world member step moves

  stop : Lawful (initial_world members) (events ++ (Stops member step moves ∷ []))
  stop = lawful_then_one events (Stops member step moves) (initial_world members) lawful (may.0, may.1)

  holds : Invariants (after world (Stops member step moves))
  holds = subst Invariants (run_then_one events (Stops member step moves) (initial_world members))
      (keeps_invariants members (events ++ (Stops member step moves ∷ [])) stop)

  safe : IsSafe (after world (Stops member step moves))
  safe = subst IsSafe (run_then_one events (Stops member step moves) (initial_world members))
      (is_safe members (events ++ (Stops member step moves ∷ [])) stop)

  here : Covered local_state.ledger local_state.raft_server.store
  here = subst (Covered local_state.ledger)
      (ap (λ (p : RaftServer). p.store) (at_here world.server member member (record { store = local_state.raft_server.store; memory = memory_when_down }) refl))
      (covered (after world (Stops member step moves)) member holds safe)

  low : EachLow (length local_state.ledger.entries) (puts world.members member local_state.raft_server next)
  low = puts_low world.members member world.bag local_state.called local_state.raft_server next (length local_state.ledger.entries) may.2
      (λ request i append. (holds.commits.requests request i append).0) other

  move_waits : (state_after_move world.members member step local_state next).ledger ≡ local_state.ledger
  move_waits = stays local_state.ledger local_state.raft_server.store (puts world.members member local_state.raft_server next) here low

  pub cut_waits : (count : ℕ) → (after world (StopsWithin member step moves next count)).ledger ≡ local_state.ledger
  cut_waits count = stays local_state.ledger local_state.raft_server.store (take count (puts world.members member local_state.raft_server next)) here
      (take_low (length local_state.ledger.entries) count (puts world.members member local_state.raft_server next) low)

pub ledger_waits : (members : List ℕ) (events : List Event) → Lawful (initial_world members) events
    → (member step : ℕ) (moves : List Move) (next : Move) (rest : List Move) (fitted : List Message)
    → MayOccur (run (initial_world members) events) (Steps member step (moves ++ (next ∷ rest)) fitted) → ((index : ℕ) → next ≢ CommitTo index) →
    (local_state_after (run (initial_world members) events) member step (moves ++ (next ∷ []))).ledger
    ≡ (local_state_after (run (initial_world members) events) member step moves).ledger
ledger_waits members events lawful member step moves next rest fitted may other =
    ap (λ (x : LocalState). x.ledger) (joined_moves world.members member step moves (next ∷ []) (local_state_of world member))
    ∙ move_waits members events member step moves next lawful (stop_comes world member step moves next rest fitted 0 may) other
  where
    world : World
    world = run (initial_world members) events

pub ledger_cut : (members : List ℕ) (events : List Event) → Lawful (initial_world members) events
    → (member step : ℕ) (moves : List Move) (next : Move) (count : ℕ)
    → MayOccur (run (initial_world members) events) (StopsWithin member step moves next count) → ((index : ℕ) → next ≢ CommitTo index) →
    (after (run (initial_world members) events) (StopsWithin member step moves next count)).ledger
    ≡ (local_state_after (run (initial_world members) events) member step moves).ledger
ledger_cut members events lawful member step moves next count may other = cut_waits members events member step moves next lawful may other
    count
