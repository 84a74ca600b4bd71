-- A step as it goes, against the message machine: its moves may come, leave its server, and offer what it sent.
use Rattle.std.proofs.Common.{◌≡◌, ◌≢◌, ℕ, true, List, [], ◌∷◌, ◌++◌, ◌⊎◌, inl, inr, refl, sym, ◌∙◌, ap, subst, Option, Some, None}
use Rattle.std.specs.Prelude.{◌&&◌, ◌==◌, nat_lt}
use Rattle.can_frame.specs.declared.entry.Entry.{Entry}
use Rattle.can_frame.specs.Log.{IsBlank}
use Rattle.cluster_discovery.specs.Members.{Event as Heard, Start, is_complete}
use Rattle.cluster_discovery.specs.Members as cluster
use Rattle.raft_core.specs.Handled.{puts_with_origins}
use Rattle.raft_core.specs.StoredPuts.{PutWithOrigin, puts_alone}
use Rattle.raft_core.specs.Times.{HandedIn}
use Rattle.raft_model.specs.Fit.{IsFit}
use Rattle.raft_model.specs.Handlers.{puts_of_all, calls_of_all, offers_of_all, server_after, server_after_all}
use Rattle.raft_model.specs.Lists.{In, at}
use Rattle.raft_model.specs.Members.{IsAll, KnowsEnough}
use Rattle.raft_model.specs.Messages.{Message, Request}
use Rattle.raft_model.specs.Moves.{Move, memory_after}
use Rattle.raft_model.specs.Moves.Appending.{acknowledges}
use Rattle.raft_model.specs.Moves.Elections.{votes_with, counts, has_quorum, is_candidate, own_vote}
use Rattle.raft_model.specs.Moves.Leading.{append_request, vote_request}
use Rattle.raft_model.specs.Moves.Move.{AnswerAgain, CallForVote, CallToAppend, CommitTo, GiveUp, ProposeEntry, TakeAppendAnswer, TakeAppendRequest, TakeVoteAnswer, TakeVoteRequest, TellNothing, TellPair, TimeOut}
use Rattle.raft_model.specs.Moves.Appending.Verdict.{Added, Held, Outdated, Refused}
use Rattle.raft_model.specs.Server.{Put, Memory, RaftServer, Role}
use Rattle.raft_model.specs.Server.Role.{Candidate, Follower, Leader}
use Rattle.raft_model.specs.Stops.{AllEnabled, LocalState, state_after_moves, state_after_move}
use Rattle.alloc_spec.specs.StepState.{StepState, with_moves}
use Rattle.alloc_spec.specs.AllocatorState.{members_of, start_of}
use Rattle.alloc_spec.specs.Transfers.{Offer, message_of}
use Rattle.alloc_spec_laws.specs.Coming.{OwnCalls}
use Rattle.alloc_spec_laws.specs.LawsBelow.{Laws}
use Rattle.alloc_spec_laws.proofs.Choices.{either, tell}
use Rattle.alloc_spec_laws.proofs.Lists.{in_append, in_back}

-- ---- what a move keeps

-- who follows goes on following, but for a time out
follows : (members : List ℕ) (member step : ℕ) (server : RaftServer) (move : Move) → move ≢ TimeOut → server.memory.role ≡ Follower
    → (memory_after members member step server move).role ≡ Follower
follows members member step server TimeOut other e = absurd (other refl)
follows members member step server (TakeVoteRequest request granted) other e =
    either (λ (m : Memory). m.role ≡ Follower) (nat_lt server.store.term request.term) _ server.memory (λ b. refl) (λ b. e)
follows members member step server (TakeVoteAnswer answer) other e =
    either (λ (m : Memory). m.role ≡ Follower) (nat_lt server.store.term answer.term) _ _ (λ b. refl)
    (λ b. either (λ (m : Memory). m.role ≡ Follower) (counts server answer) _ _ (λ c. absurd (not_counted server.memory.role c e)) (λ c. e))
  where
    not_counted : (role : Role) → (is_candidate role && ((answer.term == server.store.term) && answer.success)) ≡ true → role ≡ Follower → ⊥
    not_counted Follower c f = cc
    not_counted Candidate c f = cc
    not_counted Leader c f = cc
follows members member step server (TakeAppendRequest request Outdated) other e = e
follows members member step server (TakeAppendRequest request Refused) other e = refl
follows members member step server (TakeAppendRequest request Held) other e = refl
follows members member step server (TakeAppendRequest request (Added entry)) other e = refl
follows members member step server (TakeAppendAnswer answer) other e =
    either (λ (m : Memory). m.role ≡ Follower) (nat_lt server.store.term answer.term) _ _ (λ b. refl)
    (λ b. either (λ (m : Memory). m.role ≡ Follower) (acknowledges server answer) _ _ (λ c. e) (λ c. e))
follows members member step server (ProposeEntry entry) other e = e
follows members member step server (CommitTo index) other e = e
follows members member step server TellPair other e = e
follows members member step server TellNothing other e = e
follows members member step server (CallForVote peer) other e = e
follows members member step server (CallToAppend peer previous with_entry) other e = e
follows members member step server (AnswerAgain place) other e = e
follows members member step server (GiveUp peer) other e = e

follows_all : (members : List ℕ) (member step : ℕ) (moves : List Move) (server : RaftServer) → (In TimeOut moves → ⊥) → server.memory.role ≡ Follower
    → (server_after_all members member step server moves).memory.role ≡ Follower
follows_all members member step [] server other e = e
follows_all members member step (move ∷ moves) server other e =
    follows_all members member step moves (server_after members member step server move) (λ i. other (inr i))
    (follows members member step server move (λ s. other (inl (sym s))) e)

-- calls are the server's own
own_at : (me place : ℕ) (call : Option Request) (pending : ℕ → Option Request) → OwnCalls me pending
    → ((request : Request) → call ≡ Some request → request.from ≡ me) → OwnCalls me (at pending place call)
own_at me place call pending own is peer request e = elim (tell (peer == place)) [
  | inl b ↦ is request (rw b at e)
  | inr b ↦ own peer request (rw b at e)
]

pub own_none : (me : ℕ) → OwnCalls me (λ peer. None)
own_none me peer request e = absurd (cc)

own_ended : (me place : ℕ) (pending : ℕ → Option Request) → OwnCalls me pending → OwnCalls me (at pending place None)
own_ended me place pending own = own_at me place None pending own (λ request e. absurd (cc))

abbrev Own : ℕ → Memory → Type 0
Own me memory = OwnCalls me memory.pending

own_after : (members : List ℕ) (me step : ℕ) (server : RaftServer) (move : Move) → Own me server.memory → Own me (memory_after members me step server move)
own_after members me step server TimeOut own =
    either (Own me) (has_quorum members (own_vote me)) _ _ (λ b. own_none me) (λ b. own_none me)
own_after members me step server (TakeVoteRequest request granted) own =
    either (Own me) (nat_lt server.store.term request.term) _ server.memory (λ b. own) (λ b. own)
own_after members me step server (TakeVoteAnswer answer) own =
    either (Own me) (nat_lt server.store.term answer.term) _ _ (λ b. own_ended me answer.from server.memory.pending own)
    (λ b. either (Own me) (counts server answer) _ _
    (λ c. either (Own me) (has_quorum members (votes_with server.memory answer)) _ _ (λ q. own_none me)
    (λ q. own_ended me answer.from server.memory.pending own))
    (λ c. own_ended me answer.from server.memory.pending own))
own_after members me step server (TakeAppendRequest request Outdated) own = own
own_after members me step server (TakeAppendRequest request Refused) own = own
own_after members me step server (TakeAppendRequest request Held) own = own
own_after members me step server (TakeAppendRequest request (Added entry)) own = own
own_after members me step server (TakeAppendAnswer answer) own =
    either (Own me) (nat_lt server.store.term answer.term) _ _ (λ b. own_ended me answer.from server.memory.pending own)
    (λ b. either (Own me) (acknowledges server answer) _ _ (λ c. own_ended me answer.from server.memory.pending own)
    (λ c. own_ended me answer.from server.memory.pending own))
own_after members me step server (ProposeEntry entry) own = own
own_after members me step server (CommitTo index) own = own
own_after members me step server TellPair own = own
own_after members me step server TellNothing own = own
own_after members me step server (CallForVote peer) own =
    own_at me peer (Some (vote_request me step server.store peer)) server.memory.pending own
    (λ request e. let same : vote_request me step server.store peer ≡ request = cc in sym (ap (λ (r : Request). r.from) same))
own_after members me step server (CallToAppend peer previous with_entry) own =
    own_at me peer (Some (append_request me step server.store peer previous with_entry)) server.memory.pending own
    (λ request e. let same : append_request me step server.store peer previous with_entry ≡ request = cc in sym (ap (λ (r : Request). r.from) same))
own_after members me step server (AnswerAgain place) own = own
own_after members me step server (GiveUp peer) own = own_ended me peer server.memory.pending own

own_all : (members : List ℕ) (me step : ℕ) (moves : List Move) (server : RaftServer) → Own me server.memory
    → Own me (server_after_all members me step server moves).memory
own_all members me step [] server own = own
own_all members me step (move ∷ moves) server own =
    own_all members me step moves (server_after members me step server move) (own_after members me step server move own)

fit_all : (laws : Laws) (members : List ℕ) (me step : ℕ) (bag : List Message) (moves : List Move) (local_state : LocalState) → AllEnabled members me step bag local_state moves
    → IsFit me local_state.raft_server → IsFit me (state_after_moves members me step local_state moves).raft_server
fit_all laws members me step bag [] local_state come fit = fit
fit_all laws members me step bag (move ∷ moves) local_state come fit = fit_all laws members me step bag moves (state_after_move members me step local_state move) come.1
    (laws.fit_after members me step bag local_state.called local_state.raft_server move come.0 fit)

-- ---- a step so far

-- a server that counts has the whole list
pub record IsWhole (members : List ℕ) (start : Start) (heard : List Heard) : Type 0 where
  pub complete : is_complete start heard ≡ true
  pub all : IsAll (cluster.members start heard) members

abbrev pub Knows : List ℕ → Start → List Heard → Role → Type 0
Knows members start heard role = role ≢ Follower → IsWhole members start heard

module _ (members : List ℕ) (number : ℕ) (bag : List Message) (local_state : LocalState) where
  -- no peer that is free was called
  pub record Goes (Free : ℕ → Type 0) (me : ℕ) (raft_server : RaftServer) (moves : List Move) (puts : List PutWithOrigin) (offers : List Offer) : Type 0 where
    pub made : puts_alone puts ≡ puts_of_all members me number local_state.raft_server moves
    pub come : AllEnabled members me number bag local_state moves
    pub leave : (state_after_moves members me number local_state moves).raft_server ≡ raft_server
    pub say : (offer : Offer) → In offer offers → offer.fitted ≡ true → (message : Message) → message_of number me offer ≡ Some message
        → In message (state_after_moves members me number local_state moves).offered
    pub called : (peer : ℕ) → Free peer → In peer (state_after_moves members me number local_state moves).called → ⊥
    pub fit : IsFit me raft_server
    pub own : OwnCalls me raft_server.memory.pending
    pub outside : (entry : Entry) → In (ProposeEntry entry) moves → IsBlank entry ⊎ (In entry.node members → ⊥)

  abbrev pub Steady : (ℕ → Type 0) → StepState → Type 0
  Steady Free g = Goes Free g.allocator.me g.allocator.raft_server g.moves g.puts g.offers
      × Knows members (start_of g.allocator) g.allocator.heard g.allocator.raft_server.memory.role

  -- a transfer is offered that says nothing but what the moves offered
  pub offers_steady : (Free : ℕ → Type 0) (me : ℕ) (raft_server : RaftServer) (moves : List Move) (puts : List PutWithOrigin) (offers : List Offer) (new : Offer)
      → Goes Free me raft_server moves puts offers
      → (new.fitted ≡ true → (message : Message) → message_of number me new ≡ Some message → In message (state_after_moves members me number local_state moves).offered)
      → Goes Free me raft_server moves puts (offers ++ new ∷ [])
  offers_steady Free me raft_server moves puts offers new h says = record {
    made = h.made;
    come = h.come;
    leave = h.leave;
    say = λ offer i fits message is. elim (in_append offer offers (new ∷ []) i) [
      | inl j ↦ h.say offer j fits message is
      | inr (inl e) ↦ says (subst (λ (o : Offer). o.fitted ≡ true) e fits) message (subst (λ (o : Offer). message_of number me o ≡ Some message) e is)
      | inr (inr j) ↦ absurd j
    ];
    called = h.called;
    fit = h.fit;
    own = h.own;
    outside = h.outside;
  }

  -- moves that may come over the server's own list
  pub takes_steady : (laws : Laws) (Free Left : ℕ → Type 0) (given : HandedIn) (moves : List Move) (g : StepState) → Steady Free g
      → (In TimeOut moves → ⊥) ⊎ IsWhole members (start_of g.allocator) g.allocator.heard
      → ((s : LocalState) → s.raft_server ≡ g.allocator.raft_server → ((peer : ℕ) → Free peer → In peer s.called → ⊥)
      → AllEnabled (members_of g.allocator) g.allocator.me number bag s moves)
      → ((peer : ℕ) → Left peer → Free peer × (In peer (calls_of_all moves) → ⊥))
      → ((entry : Entry) → In (ProposeEntry entry) moves → IsBlank entry ⊎ (In entry.node members → ⊥))
      → Steady Left (with_moves number given moves g)
  takes_steady laws Free Left given moves g h counting comes left new = (
    record {
      made = written;
      come = laws.joined_come members g.allocator.me number bag g.moves moves local_state h.0.come come;
      leave = ap (λ (s : LocalState). s.raft_server) joined ∙ after;
      say = λ offer i fits message is. subst (λ (s : LocalState). In message s.offered) (sym joined)
          (subst (λ (l : List Message). In message l) (sym (laws.same_offers members g.allocator.me number moves (state_after_moves members g.allocator.me number local_state g.moves)))
          (in_back message (offers_of_all members g.allocator.me number (state_after_moves members g.allocator.me number local_state g.moves).raft_server moves) (state_after_moves members g.allocator.me number local_state g.moves).offered (h.0.say offer i fits message is)));
      called = λ peer l i. elim (in_append peer (calls_of_all moves) (state_after_moves members g.allocator.me number local_state g.moves).called
          (subst (λ (l : List ℕ). In peer l) (laws.same_calls members g.allocator.me number moves (state_after_moves members g.allocator.me number local_state g.moves)) (subst (λ (s : LocalState). In peer s.called) joined i))) [
            | inl j ↦ (left peer l).1 j
            | inr j ↦ h.0.called peer (left peer l).0 j
          ];
      fit = subst (λ (p : RaftServer). IsFit g.allocator.me p) after
          (fit_all laws members g.allocator.me number bag moves (state_after_moves members g.allocator.me number local_state g.moves) come (subst (λ (p : RaftServer). IsFit g.allocator.me p) (sym h.0.leave) h.0.fit));
      own = own_all (members_of g.allocator) g.allocator.me number moves g.allocator.raft_server h.0.own;
      outside = λ entry i. elim (in_append (ProposeEntry entry) g.moves moves i) [ inl j ↦ h.0.outside entry j | inr j ↦ new entry j ];
    },
    λ counts. elim counting [
      | inr whole ↦ whole
      | inl other ↦ h.1 (λ follower. counts (follows_all (members_of g.allocator) g.allocator.me number moves g.allocator.raft_server other follower))
    ],
  )
    where
      enough : (server : RaftServer) → server ≡ g.allocator.raft_server → KnowsEnough (members_of g.allocator) members server moves
      enough server e = record {
        counting = λ role. (h.1 (λ f. role (ap (λ (p : RaftServer). p.memory.role) e ∙ f))).all;
        standing = λ i. elim counting [ inl other ↦ absurd (other i) | inr whole ↦ whole.all ];
      }

      come : AllEnabled members g.allocator.me number bag (state_after_moves members g.allocator.me number local_state g.moves) moves
      come = laws.all_come (members_of g.allocator) members g.allocator.me number bag (state_after_moves members g.allocator.me number local_state g.moves) moves (enough (state_after_moves members g.allocator.me number local_state g.moves).raft_server h.0.leave) (comes (state_after_moves members g.allocator.me number local_state g.moves) h.0.leave h.0.called)

      joined : state_after_moves members g.allocator.me number local_state (g.moves ++ moves) ≡ state_after_moves members g.allocator.me number (state_after_moves members g.allocator.me number local_state g.moves) moves
      joined = laws.joined_moves members g.allocator.me number g.moves moves local_state

      after : (state_after_moves members g.allocator.me number (state_after_moves members g.allocator.me number local_state g.moves) moves).raft_server ≡ server_after_all (members_of g.allocator) g.allocator.me number g.allocator.raft_server moves
      after = laws.same_raft_server members g.allocator.me number moves (state_after_moves members g.allocator.me number local_state g.moves)
          ∙ (ap (λ (p : RaftServer). server_after_all members g.allocator.me number p moves) h.0.leave
          ∙ sym (laws.all_after (members_of g.allocator) members g.allocator.me number g.allocator.raft_server moves (enough g.allocator.raft_server refl)))

      -- the puts of these moves, over the server's own list, are those over all members
      written : puts_alone (g.puts ++ puts_with_origins (members_of g.allocator) g.allocator.me number given g.allocator.raft_server moves)
          ≡ puts_of_all members g.allocator.me number local_state.raft_server (g.moves ++ moves)
      written =
          laws.both_raft_server g.puts (puts_with_origins (members_of g.allocator) g.allocator.me number given g.allocator.raft_server moves)
          ∙ (ap (λ (l : List Put). l ++ puts_alone (puts_with_origins (members_of g.allocator) g.allocator.me number given g.allocator.raft_server moves)) h.0.made
          ∙ (ap (λ (l : List Put). puts_of_all members g.allocator.me number local_state.raft_server g.moves ++ l)
          (laws.noted_raft_server (members_of g.allocator) g.allocator.me number given g.allocator.raft_server moves
          ∙ (laws.all_puts (members_of g.allocator) members g.allocator.me number g.allocator.raft_server moves (enough g.allocator.raft_server refl)
          ∙ ap (λ (p : RaftServer). puts_of_all members g.allocator.me number p moves)
          (sym (sym (laws.same_raft_server members g.allocator.me number g.moves local_state) ∙ h.0.leave))))
          ∙ sym (laws.joined_puts members g.allocator.me number g.moves moves local_state.raft_server)))
