-- What was said of terms: a message has no higher term than its maker has by now, in every run of the Raft model.
use Rattle.std.proofs.Common.{◌≡◌, ℕ, zero, suc, ◌≤◌, Bool, true, false, List, [], ◌∷◌, ◌++◌, take, refl, sym, ap, subst, arith, inl, inr, Option, None, Some}
use Rattle.std.specs.Prelude.{⊤, length, min, nat_lt}
use Rattle.raft_model.specs.Lists.{In, at, at_here}
use Rattle.raft_model.specs.Messages.{Message, Request, reach}
use Rattle.raft_model.specs.Messages.Message.{Answers, Pairs, Requests}
use Rattle.raft_model.specs.Moves.{Move, offers, puts}
use Rattle.raft_model.specs.Moves.Appending.{Verdict, advance_puts, append_puts}
use Rattle.raft_model.specs.Moves.Appending.Verdict.{Added, Held, Outdated, Refused}
use Rattle.raft_model.specs.Moves.Elections.{grant_puts, term_puts, vote_puts, with_term}
use Rattle.raft_model.specs.Moves.Move.{AnswerAgain, CallForVote, CallToAppend, CommitTo, GiveUp, ProposeEntry, TakeAppendAnswer, TakeAppendRequest, TakeVoteAnswer, TakeVoteRequest, TellNothing, TellPair, TimeOut}
use Rattle.raft_model.specs.Runs.{Event, InEveryRun, Lawful, MayOccur, World, after, initial_world, local_state_of, run}
use Rattle.raft_model.specs.Runs.Event.{Opens, Steps, Stops, StopsWithin}
use Rattle.raft_model.specs.Server.{Put, RaftServer, Store, put, put_all}
use Rattle.raft_model.specs.Server.Put.{PutCommit, PutEntry, PutLonger, PutShorter, PutTerm, PutVote}
use Rattle.raft_model.specs.Stops.{LocalState, state_after_move, state_after_moves}
use Rattle.alloc_spec_laws.proofs.Choices.{either}
use Rattle.bus_agreement.proofs.Lists.{in_append}
use Rattle.bus_agreement.proofs.MadeTransfers.{posted_when}
use Rattle.raft_model.proofs.At.{at_each}
use Rattle.raft_model.proofs.Handled.{put_then}
use Rattle.raft_model.proofs.Whole.{lt_tells}

-- ---- puts

-- these puts lower no term, from this one on
abbrev Rise : ℕ → List Put → Type 0
Rise term [] = ⊤
Rise term (PutTerm higher ∷ rest) = (term ≤ higher) × Rise higher rest
Rise term (PutVote vote ∷ rest) = Rise term rest
Rise term (PutEntry entry ∷ rest) = Rise term rest
Rise term (PutLonger entry ∷ rest) = Rise term rest
Rise term (PutShorter place ∷ rest) = Rise term rest
Rise term (PutCommit place ∷ rest) = Rise term rest

rise_more : (xs ys : List Put) (store : Store) → Rise store.term xs → Rise (put_all store xs).term ys → Rise store.term (xs ++ ys)
rise_more [] ys store h k = k
rise_more (PutTerm higher ∷ xs) ys store h k = (h.0, rise_more xs ys (put store (PutTerm higher)) h.1 k)
rise_more (PutVote vote ∷ xs) ys store h k = rise_more xs ys (put store (PutVote vote)) h k
rise_more (PutEntry entry ∷ xs) ys store h k = rise_more xs ys (put store (PutEntry entry)) h k
rise_more (PutLonger entry ∷ xs) ys store h k = rise_more xs ys (put store (PutLonger entry)) h k
rise_more (PutShorter place ∷ xs) ys store h k = rise_more xs ys (put store (PutShorter place)) h k
rise_more (PutCommit place ∷ xs) ys store h k = rise_more xs ys (put store (PutCommit place)) h k

-- such puts leave no lower term
pub risen : (xs : List Put) (store : Store) → Rise store.term xs → store.term ≤ (put_all store xs).term
risen [] store h = omega arith
risen (PutTerm higher ∷ xs) store h = let r = risen xs (put store (PutTerm higher)) h.1 in let l = h.0 in omega (arith, r, l)
risen (PutVote vote ∷ xs) store h = risen xs (put store (PutVote vote)) h
risen (PutEntry entry ∷ xs) store h = risen xs (put store (PutEntry entry)) h
risen (PutLonger entry ∷ xs) store h = risen xs (put store (PutLonger entry)) h
risen (PutShorter place ∷ xs) store h = risen xs (put store (PutShorter place)) h
risen (PutCommit place ∷ xs) store h = risen xs (put store (PutCommit place)) h

some_rise : (count : ℕ) (xs : List Put) (term : ℕ) → Rise term xs → Rise term (take count xs)
some_rise zero xs term h = tt
some_rise (suc count) [] term h = tt
some_rise (suc count) (PutTerm higher ∷ xs) term h = (h.0, some_rise count xs higher h.1)
some_rise (suc count) (PutVote vote ∷ xs) term h = some_rise count xs term h
some_rise (suc count) (PutEntry entry ∷ xs) term h = some_rise count xs term h
some_rise (suc count) (PutLonger entry ∷ xs) term h = some_rise count xs term h
some_rise (suc count) (PutShorter place ∷ xs) term h = some_rise count xs term h
some_rise (suc count) (PutCommit place ∷ xs) term h = some_rise count xs term h

-- ---- the puts of a move

term_rises : (store : Store) (term : ℕ) → Rise store.term (term_puts store term)
term_rises store term = elim (lt_tells store.term term) [
  | inl h ↦ rw (h.0) (let l = h.1 in omega (arith, l), tt)
  | inr h ↦ rw (h.0) tt
]

vote_rises : (vote : Option ℕ) (candidate term : ℕ) → Rise term (vote_puts vote candidate)
vote_rises None candidate term = tt
vote_rises (Some earlier) candidate term = tt

-- the puts of a vote lower no term
pub grant_rises : (store : Store) (request : Request) (granted : Bool) (term : ℕ) → Rise term (grant_puts store request granted)
grant_rises store request true term = vote_rises store.vote request.from term
grant_rises store request false term = tt

advance_rises : (store : Store) (request : Request) (term : ℕ) → Rise term (advance_puts store request)
advance_rises store request term = either (Rise term) (nat_lt store.commit (min request.commit (reach request))) _ [] (λ e. tt) (λ e. tt)

-- the puts of an append request lower no term
pub append_rises : (store : Store) (request : Request) (verdict : Verdict) (term : ℕ) → Rise term (append_puts store request verdict)
append_rises store request Outdated term = tt
append_rises store request Refused term = tt
append_rises store request Held term = advance_rises store request term
append_rises store request (Added entry) term =
    either (λ (xs : List Put). Rise term (xs ++ (PutEntry entry ∷ PutLonger entry ∷ advance_puts store request)))
    (nat_lt request.previous (length store.log)) (PutShorter request.previous ∷ []) []
    (λ e. advance_rises store request term) (λ e. advance_rises store request term)

-- the puts of a move lower no term
pub puts_rise : (members : List ℕ) (member : ℕ) (server : RaftServer) (move : Move) → Rise server.store.term (puts members member server move)
puts_rise members member server TimeOut = (omega arith, tt)
puts_rise members member server (TakeVoteRequest request granted) =
    rise_more (term_puts server.store request.term) (grant_puts (with_term server.store request.term) request granted) server.store
    (term_rises server.store request.term) (grant_rises (with_term server.store request.term) request granted (with_term server.store request.term).term)
puts_rise members member server (TakeVoteAnswer answer) = term_rises server.store answer.term
puts_rise members member server (TakeAppendRequest request verdict) =
    rise_more (term_puts server.store request.term) (append_puts (with_term server.store request.term) request verdict) server.store
    (term_rises server.store request.term) (append_rises (with_term server.store request.term) request verdict (with_term server.store request.term).term)
puts_rise members member server (TakeAppendAnswer answer) = term_rises server.store answer.term
puts_rise members member server (ProposeEntry entry) = tt
puts_rise members member server (CommitTo index) = tt
puts_rise members member server TellPair = tt
puts_rise members member server TellNothing = tt
puts_rise members member server (CallForVote peer) = tt
puts_rise members member server (CallToAppend peer previous with_entry) = tt
puts_rise members member server (AnswerAgain place) = tt
puts_rise members member server (GiveUp peer) = tt

-- ---- what is offered

-- a message of this member, whose term is at most this one
abbrev OfMember : ℕ → ℕ → Message → Type 0
OfMember member term (Requests request) = (request.from ≡ member) × (request.term ≤ term)
OfMember member term (Answers answer) = (answer.from ≡ member) × (answer.term ≤ term)
OfMember member term (Pairs pair) = ⊤

still_of : (member lower term : ℕ) (message : Message) → lower ≤ term → OfMember member lower message → OfMember member term message
still_of member lower term (Requests request) h is = let l = is.1 in (is.0, omega (arith, l, h))
still_of member lower term (Answers answer) h is = let l = is.1 in (is.0, omega (arith, l, h))
still_of member lower term (Pairs pair) h is = tt

-- an answer has the term that the request left, and what a move puts behind that is no lower
pub answered : (server : RaftServer) (term : ℕ) (more : List Put) → Rise (with_term server.store term).term more
    → (with_term server.store term).term ≤ (put_all server.store (term_puts server.store term ++ more)).term
answered server term more h =
    let r = risen more (with_term server.store term) h in
    let e = ap (λ (s : Store). s.term) (put_then (term_puts server.store term) more server.store) in
    omega (arith, r, e)

one_of : (P : Message → Type 0) (x message : Message) → P x → In message (x ∷ []) → P message
one_of P x message h (inl e) = subst P (sym e) h
one_of P x message h (inr i) = absurd i

offered_by : (members : List ℕ) (member step : ℕ) (server : RaftServer) (move : Move) (message : Message) → In message (offers member step server move)
    → OfMember member (put_all server.store (puts members member server move)).term message
offered_by members member step server TimeOut message i = absurd i
offered_by members member step server (TakeVoteRequest request granted) message i =
    one_of (OfMember member (put_all server.store (puts members member server (TakeVoteRequest request granted))).term) _ message (
      refl,
      answered server request.term (grant_puts (with_term server.store request.term) request granted)
          (grant_rises (with_term server.store request.term) request granted (with_term server.store request.term).term),
    ) i
offered_by members member step server (TakeVoteAnswer answer) message i = absurd i
offered_by members member step server (TakeAppendRequest request verdict) message i =
    one_of (OfMember member (put_all server.store (puts members member server (TakeAppendRequest request verdict))).term) _ message (
      refl,
      answered server request.term (append_puts (with_term server.store request.term) request verdict)
          (append_rises (with_term server.store request.term) request verdict (with_term server.store request.term).term),
    ) i
offered_by members member step server (TakeAppendAnswer answer) message i = absurd i
offered_by members member step server (ProposeEntry entry) message i = absurd i
offered_by members member step server (CommitTo index) message i = absurd i
offered_by members member step server TellPair message i = one_of (OfMember member server.store.term) _ message tt i
offered_by members member step server TellNothing message i = absurd i
offered_by members member step server (CallForVote peer) message i = one_of (OfMember member server.store.term) _ message (refl, omega arith) i
offered_by members member step server (CallToAppend peer previous with_entry) message i =
    one_of (OfMember member server.store.term) _ message (refl, omega arith) i
offered_by members member step server (AnswerAgain place) message i = one_of (OfMember member server.store.term) _ message tt i
offered_by members member step server (GiveUp peer) message i = absurd i

-- ---- the moves of a step

record Offers (member : ℕ) (before after : LocalState) : Type 0 where
  risen : before.raft_server.store.term ≤ after.raft_server.store.term
  offered : (message : Message) → In message after.offered → OfMember member after.raft_server.store.term message

moved : (members : List ℕ) (member step : ℕ) (moves : List Move) (x : LocalState)
    → ((message : Message) → In message x.offered → OfMember member x.raft_server.store.term message)
    → Offers member x (state_after_moves members member step x moves)
moved members member step [] x h = record { risen = omega arith; offered = h }
moved members member step (move ∷ moves) x h =
    let then_ : LocalState = state_after_move members member step x move in
    let up = risen (puts members member x.raft_server move) x.raft_server.store (puts_rise members member x.raft_server move) in
    let rest = moved members member step moves then_ (λ message i. elim (in_append message (offers member step x.raft_server move) x.offered i) [
      | inl new ↦ offered_by members member step x.raft_server move message new
      | inr old ↦ still_of member x.raft_server.store.term then_.raft_server.store.term message up (h message old)
    ]) in
    let r = rest.risen in
    record { risen = omega (arith, up, r); offered = rest.offered }

-- ---- the world

-- a message has no higher term than its maker has
abbrev pub IsWithin : (ℕ → RaftServer) → Message → Type 0
IsWithin server (Requests request) = request.term ≤ (server request.from).store.term
IsWithin server (Answers answer) = answer.term ≤ (server answer.from).store.term
IsWithin server (Pairs pair) = ⊤

-- so each message of the bag
abbrev pub AreWithin : World → Type 0
AreWithin world = (message : Message) → In message world.bag → IsWithin world.server message

higher : (before after : ℕ → RaftServer) → ((m : ℕ) → (before m).store.term ≤ (after m).store.term) → (message : Message)
    → IsWithin before message → IsWithin after message
higher before after up (Requests request) h = let u = up request.from in omega (arith, u, h)
higher before after up (Answers answer) h = let u = up answer.from in omega (arith, u, h)
higher before after up (Pairs pair) h = tt

-- one server's term rises, or stays
changed : (server : ℕ → RaftServer) (member : ℕ) (x : RaftServer) → (server member).store.term ≤ x.store.term → (m : ℕ)
    → (server m).store.term ≤ (at server member x m).store.term
changed server member x up = at_each (λ (m : ℕ) (y : RaftServer). (server m).store.term ≤ y.store.term) server member x up (λ m apart. omega arith)

of_it : (server : ℕ → RaftServer) (member : ℕ) (x : RaftServer) (message : Message) → OfMember member x.store.term message
    → IsWithin (at server member x) message
of_it server member x (Requests request) is = let e = ap (λ (s : RaftServer). s.store.term) (at_here server member request.from x is.0) in let l = is.1 in
    omega (arith, e, l)
of_it server member x (Answers answer) is = let e = ap (λ (s : RaftServer). s.store.term) (at_here server member answer.from x is.0) in let l = is.1 in
    omega (arith, e, l)
of_it server member x (Pairs pair) is = tt

within_after : (world : World) (event : Event) → MayOccur world event → AreWithin world → AreWithin (after world event)
within_after world (Opens member) may h message i =
    higher world.server (after world (Opens member)).server (changed world.server member _ (omega arith)) message (h message i)
within_after world (Steps member step moves fitted) may h message i = elim (posted_when fitted world.bag message i) [
  | inl new ↦ of_it world.server member (state_after_moves world.members member step (local_state_of world member) moves).raft_server message
      (its.offered message (may.3 message new))
  | inr old ↦ higher world.server (after world (Steps member step moves fitted)).server (changed world.server member _ its.risen) message (h message old)
]
  where
    its : Offers member (local_state_of world member) (state_after_moves world.members member step (local_state_of world member) moves)
    its = moved world.members member step moves (local_state_of world member) (λ m j. absurd j)
within_after world (Stops member step moves) may h message i =
    higher world.server (after world (Stops member step moves)).server (changed world.server member _ its.risen) message (h message i)
  where
    its : Offers member (local_state_of world member) (state_after_moves world.members member step (local_state_of world member) moves)
    its = moved world.members member step moves (local_state_of world member) (λ m j. absurd j)
within_after world (StopsWithin member step moves next count) may h message i =
    higher world.server (after world (StopsWithin member step moves next count)).server (changed world.server member _ (omega
    (arith, its.risen, cut))) message (h message i)
  where
    x : LocalState
    x = state_after_moves world.members member step (local_state_of world member) moves

    its : Offers member (local_state_of world member) x
    its = moved world.members member step moves (local_state_of world member) (λ m j. absurd j)

    cut : x.raft_server.store.term ≤ (put_all x.raft_server.store (take count (puts world.members member x.raft_server next))).term
    cut = risen (take count (puts world.members member x.raft_server next)) x.raft_server.store
        (some_rise count (puts world.members member x.raft_server next) x.raft_server.store.term (puts_rise world.members member x.raft_server next))

within_run : (world : World) (events : List Event) → Lawful world events → AreWithin world → AreWithin (run world events)
within_run world [] lawful h = h
within_run world (event ∷ events) lawful h = within_run (after world event) events lawful.1 (within_after world event lawful.0 h)

-- it is so in every run
pub said_within : InEveryRun AreWithin
said_within members events lawful = within_run (initial_world members) events lawful (λ message i. absurd i)
