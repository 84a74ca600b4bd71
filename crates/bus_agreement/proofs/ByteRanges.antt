-- What is stored and said in a run has bytes: a step keeps it so, whole or cut.
use Rattle.std.proofs.Common.{◌≡◌, ℕ, zero, suc, ◌<◌, ◌≤◌, ◌^◌, Bool, true, false, List, [], ◌∷◌, ◌++◌, length, take, refl, sym, subst, arith, inl, inr, Option, Some, None}
use Rattle.std.specs.Prelude.{⊤, min, nat_lt, if◌then◌else◌, slice_index_or, IfSome}
use Rattle.can_frame.specs.declared.entry.Entry.{Entry}
use Rattle.can_frame.specs.Log.{blank}
use Rattle.raft_model.specs.Handlers.{puts_of_all}
use Rattle.raft_core.specs.StoredPuts.{AreOfNodes, IsOfNode}
use Rattle.raft_model.specs.Lists.{In}
use Rattle.raft_model.specs.Log.{term_at}
use Rattle.raft_model.specs.Messages.{Answer, Message, Request, reach}
use Rattle.raft_model.specs.Messages.Message.{Answers, Pairs, Requests}
use Rattle.raft_model.specs.Moves.{IsEnabled, IsHeard, Move, offers, puts}
use Rattle.raft_model.specs.Moves.Appending.{IsJudged, Verdict, advance_puts, append_puts, cut_puts}
use Rattle.raft_model.specs.Moves.Appending.Verdict.{Added, Held, Outdated, Refused}
use Rattle.raft_model.specs.Moves.Elections.{grant_puts, term_puts, vote_puts, with_term}
use Rattle.raft_model.specs.Moves.Leading.{entry_after}
use Rattle.raft_model.specs.Moves.Move.{AnswerAgain, CallForVote, CallToAppend, CommitTo, GiveUp, ProposeEntry, TakeAppendAnswer, TakeAppendRequest, TakeVoteAnswer, TakeVoteRequest, TellNothing, TellPair, TimeOut}
use Rattle.raft_model.specs.Server.{RaftServer, Put, Store, put, put_all}
use Rattle.raft_model.specs.Server.Put.{PutCommit, PutEntry, PutLonger, PutShorter, PutTerm, PutVote}
use Rattle.raft_model.specs.Stops.{AllEnabled, LocalState, state_after_moves, state_after_move}
use Rattle.bus_agreement.specs.Said.{AreWritable, IsProper, IsStoreWritable, IsWritable, ProposesWell}
use Rattle.bus_agreement.proofs.Lists.{in_append, in_at, in_taken, tell}
use Rattle.std.proofs.lemmas.Bool.{ltb-true}

-- ---- puts

module _ (ids : List ℕ) where
  abbrev pub IsPutWritable : Put → Type 0
  IsPutWritable (PutTerm term) = term < 2 ^ 32
  IsPutWritable (PutVote vote) = ⊤
  IsPutWritable (PutEntry entry) = ⊤
  IsPutWritable (PutLonger entry) = IsProper ids entry
  IsPutWritable (PutShorter place) = ⊤
  IsPutWritable (PutCommit place) = ⊤

  abbrev pub ArePutsWritable : List Put → Type 0
  ArePutsWritable [] = ⊤
  ArePutsWritable (first ∷ rest) = IsPutWritable first × ArePutsWritable rest

  after_one : (store : Store) (first : Put) → IsStoreWritable ids store → IsPutWritable first → IsStoreWritable ids (put store first)
  after_one store (PutTerm term) is low = record { term = low; entries = is.entries }
  after_one store (PutVote vote) is fits = record { term = is.term; entries = is.entries }
  after_one store (PutEntry entry) is fits = is
  after_one store (PutLonger entry) is fits = record {
    term = is.term;
    entries = λ e i. elim (in_append e store.log (entry ∷ []) i) [ inl j ↦ is.entries e j | inr (inl s) ↦ subst (λ (x : Entry). IsProper ids x) (sym s) fits | inr (inr j) ↦ absurd j ];
  }
  after_one store (PutShorter place) is fits = record { term = is.term; entries = λ e i. is.entries e (in_taken place store.log e i) }
  after_one store (PutCommit place) is fits = record { term = is.term; entries = is.entries }

  pub after_all : (store : Store) (all : List Put) → IsStoreWritable ids store → ArePutsWritable all → IsStoreWritable ids (put_all store all)
  after_all store [] is fits = is
  after_all store (first ∷ rest) is fits = after_all (put store first) rest (after_one store first is fits.0) fits.1

  joined : (xs ys : List Put) → ArePutsWritable xs → ArePutsWritable ys → ArePutsWritable (xs ++ ys)
  joined [] ys a b = b
  joined (x ∷ xs) ys a b = (a.0, joined xs ys a.1 b)

  pub front : (count : ℕ) (all : List Put) → ArePutsWritable all → ArePutsWritable (take count all)
  front zero all a = tt
  front (suc count) [] a = tt
  front (suc count) (first ∷ rest) a = (a.0, front count rest a.1)

  -- of two lists, by a test
  either : (b : Bool) (xs ys : List Put) → ArePutsWritable xs → ArePutsWritable ys → ArePutsWritable (if b then xs else ys)
  either true xs ys a b = a
  either false xs ys a b = b

  -- ---- entries

  zero_small : 0 < 2 ^ 32
  zero_small = omega arith

  entry_term : (store : Store) → IsStoreWritable ids store → (place : ℕ) → term_at store.log place < 2 ^ 32
  entry_term store is zero = zero_small
  entry_term store is (suc i) = by store.log i is.entries where
    by : (log : List Entry) (i : ℕ) → ((e : Entry) → In e log → IsProper ids e) → (slice_index_or log i (blank 0)).term < 2 ^ 32
    by [] i each = zero_small
    by (first ∷ rest) zero each = (each first (inl refl)).fits.term
    by (first ∷ rest) (suc i) each = by rest i (λ e j. each e (inr j))

-- ---- the puts of a move

module _ (members : List ℕ) (low : (n : ℕ) → In n members → 1 ≤ n) (me : ℕ) (some : 1 ≤ me) (number : ℕ) (bag : List Message)
    (fits : AreWritable members bag) where
  term_fits : (store : Store) (term : ℕ) → term < 2 ^ 32 → ArePutsWritable members (term_puts store term)
  term_fits store term low = either members (nat_lt store.term term) (PutTerm term ∷ PutVote None ∷ []) [] (low, (tt, tt)) tt

  pub with_term_fits : (store : Store) (term : ℕ) → IsStoreWritable members store → term < 2 ^ 32 → IsStoreWritable members (with_term store term)
  with_term_fits store term is low = after_all members store (term_puts store term) is (term_fits store term low)

  vote_fits : (vote : Option ℕ) (candidate : ℕ) → ArePutsWritable members (vote_puts vote candidate)
  vote_fits None candidate = (tt, tt)
  vote_fits (Some earlier) candidate = tt

  grant_fits : (store : Store) (request : Request) (granted : Bool) → ArePutsWritable members (grant_puts store request granted)
  grant_fits store request true = vote_fits store.vote request.from
  grant_fits store request false = tt

  some_entry : (a b : Option Entry) → a ≡ b → IfSome a (IsProper members) → IfSome b (IsProper members)
  some_entry a b e is = subst (λ (o : Option Entry). IfSome o (IsProper members)) e is

  advance_fits : (store : Store) (request : Request) → ArePutsWritable members (advance_puts store request)
  advance_fits store request =
      either members (nat_lt store.commit (min request.commit (reach request))) (PutCommit (min request.commit (reach request)) ∷ []) [] (tt, tt) tt

  cut_fits : (store : Store) (request : Request) → ArePutsWritable members (cut_puts store request)
  cut_fits store request = either members (nat_lt request.previous (length store.log)) (PutShorter request.previous ∷ []) [] (tt, tt) tt

  append_fits : (server : RaftServer) (request : Request) (verdict : Verdict) → IsJudged server request verdict → IfSome request.entry (IsProper members)
      → ArePutsWritable members (append_puts (with_term server.store request.term) request verdict)
  append_fits server request Outdated is entry = tt
  append_fits server request Refused is entry = tt
  append_fits server request Held is entry = advance_fits (with_term server.store request.term) request
  append_fits server request (Added added) is entry =
      joined members (cut_puts (with_term server.store request.term) request) _ (cut_fits (with_term server.store request.term) request)
      (tt, (some_entry request.entry (Some added) is.1.carried entry, advance_fits (with_term server.store request.term) request))

  -- an answer has the term of one that was said
  answer_fits : (store : Store) (answer : Answer) → IsHeard bag store answer → answer.term < 2 ^ 32
  answer_fits store answer (inl said) = fits.answers answer said
  answer_fits store answer (inr late) = subst (λ (term : ℕ). term < 2 ^ 32) late.term (fits.answers late.said late.was_said)

  puts_fit : (called : List ℕ) (server : RaftServer) (move : Move) → IsStoreWritable members server.store → IsEnabled members me bag called server move
      → ((entry : Entry) → move ≡ ProposeEntry entry → (length entry.uid ≡ 16) × (In entry.node members → ⊥)) → ArePutsWritable members (puts members me server move)
  puts_fit called server TimeOut is comes well = (omega (arith, comes.1), (tt, (tt, tt)))
  puts_fit called server (TakeVoteRequest request granted) is comes well =
      joined members (term_puts server.store request.term) _ (term_fits server.store request.term (fits.requests request comes.0).term)
      (grant_fits (with_term server.store request.term) request granted)
  puts_fit called server (TakeVoteAnswer answer) is comes well = term_fits server.store answer.term (answer_fits server.store answer comes.0)
  puts_fit called server (TakeAppendRequest request verdict) is comes well =
      joined members (term_puts server.store request.term) _ (term_fits server.store request.term (fits.requests request comes.0).term)
      (append_fits server request verdict comes.3 (fits.requests request comes.0).entry)
  puts_fit called server (TakeAppendAnswer answer) is comes well = term_fits server.store answer.term (answer_fits server.store answer comes.0)
  puts_fit called server (ProposeEntry entry) is comes well = (
    tt,
    (
      record {
        fits = record {
          term = subst (λ (n : ℕ). n < 2 ^ 32) (sym comes.own_term) is.term;
          uid = (well entry refl).0;
          node = elim comes.kind [ inl none ↦ omega (arith, none.0) | inr (inl kept) ↦ omega (arith, kept.most) | inr (inr pair) ↦ omega (arith, pair.most) ];
        };
        outside = (well entry refl).1;
      },
      tt,
    ),
  )
  puts_fit called server (CommitTo index) is comes well = (tt, tt)
  puts_fit called server TellPair is comes well = tt
  puts_fit called server TellNothing is comes well = tt
  puts_fit called server (CallForVote peer) is comes well = tt
  puts_fit called server (CallToAppend peer previous with_entry) is comes well = tt
  puts_fit called server (AnswerAgain place) is comes well = tt
  puts_fit called server (GiveUp peer) is comes well = tt

  -- ---- what a move offers

  abbrev pub IsMessageWritable : Message → Type 0
  IsMessageWritable (Requests request) = IsWritable members request × (1 ≤ request.from)
  IsMessageWritable (Answers answer) = answer.term < 2 ^ 32
  IsMessageWritable (Pairs pair) = ⊤

  entry_fits : (store : Store) → IsStoreWritable members store → (previous : ℕ) (with_entry : Bool) → IfSome (entry_after store.log previous with_entry) (IsProper members)
  entry_fits store is previous false = tt
  entry_fits store is previous true = elim (tell (nat_lt previous (length store.log))) [
    | inl more ↦ subst (λ (b : Bool). IfSome (if b then Some (slice_index_or store.log previous (blank 0)) else None) (IsProper members)) (sym more)
        (is.entries (slice_index_or store.log previous (blank 0)) (in_at store.log previous (blank 0) (inside previous (length store.log) more)))
    | inr less ↦ subst (λ (b : Bool). IfSome (if b then Some (slice_index_or store.log previous (blank 0)) else None) (IsProper members)) (sym less) tt
  ]
    where
      inside : (a b : ℕ) → nat_lt a b ≡ true → a < b
      inside a b e = ltb-true a b e

  offers_fit : (called : List ℕ) (server : RaftServer) (move : Move) → IsStoreWritable members server.store → IsEnabled members me bag called server move
      → (message : Message) → In message (offers me number server move) → IsMessageWritable message
  offers_fit called server TimeOut is comes message i = absurd i
  offers_fit called server (TakeVoteRequest request granted) is comes message (inl e) = subst IsMessageWritable (sym e)
      (with_term_fits server.store request.term is (fits.requests request comes.0).term).term
  offers_fit called server (TakeVoteRequest request granted) is comes message (inr i) = absurd i
  offers_fit called server (TakeVoteAnswer answer) is comes message i = absurd i
  offers_fit called server (TakeAppendRequest request verdict) is comes message (inl e) = subst IsMessageWritable (sym e)
      (with_term_fits server.store request.term is (fits.requests request comes.0).term).term
  offers_fit called server (TakeAppendRequest request verdict) is comes message (inr i) = absurd i
  offers_fit called server (TakeAppendAnswer answer) is comes message i = absurd i
  offers_fit called server (ProposeEntry entry) is comes message i = absurd i
  offers_fit called server (CommitTo index) is comes message i = absurd i
  offers_fit called server TellPair is comes message (inl e) = subst IsMessageWritable (sym e) tt
  offers_fit called server TellPair is comes message (inr i) = absurd i
  offers_fit called server TellNothing is comes message i = absurd i
  offers_fit called server (CallForVote peer) is comes message (inl e) = subst IsMessageWritable (sym e)
      (record { term = is.term; previous_term = entry_term members server.store is (length server.store.log); entry = tt; vote = λ no_append. (refl, refl) }, some)
  offers_fit called server (CallForVote peer) is comes message (inr i) = absurd i
  offers_fit called server (CallToAppend peer previous with_entry) is comes message (inl e) = subst IsMessageWritable (sym e)
      (record { term = is.term; previous_term = entry_term members server.store is previous; entry = entry_fits server.store is previous with_entry; vote = λ no_append. absurd (cc (no_append)) }, some)
  offers_fit called server (CallToAppend peer previous with_entry) is comes message (inr i) = absurd i
  offers_fit called server (AnswerAgain place) is comes message (inl e) = subst IsMessageWritable (sym e) tt
  offers_fit called server (AnswerAgain place) is comes message (inr i) = absurd i
  offers_fit called server (GiveUp peer) is comes message i = absurd i

  -- ---- moves, one after another

  abbrev AllOffered : List Message → Type 0
  AllOffered messages = (message : Message) → In message messages → IsMessageWritable message

  pub record Moved (local_state : LocalState) : Type 0 where
    pub store : IsStoreWritable members local_state.raft_server.store
    pub offered : AllOffered local_state.offered

  pub moved_fits : (moves : List Move) (local_state : LocalState) → AllEnabled members me number bag local_state moves → ProposesWell members moves → Moved local_state
      → Moved (state_after_moves members me number local_state moves)
  moved_fits [] local_state come well is = is
  moved_fits (move ∷ moves) local_state come well is =
      moved_fits moves (state_after_move members me number local_state move) come.1 (λ entry i. well entry (inr i)) (record {
        store = after_all members local_state.raft_server.store (puts members me local_state.raft_server move) is.store
            (puts_fit local_state.called local_state.raft_server move is.store come.0 (λ entry e. well entry (inl (sym e))));
        offered = λ message i. elim (in_append message (offers me number local_state.raft_server move) local_state.offered i) [
          | inl j ↦ offers_fit local_state.called local_state.raft_server move is.store come.0 message j
          | inr j ↦ is.offered message j
        ];
      })

  -- all their puts, one after another
  pub all_puts_fit : (moves : List Move) (local_state : LocalState) → AllEnabled members me number bag local_state moves → ProposesWell members moves → IsStoreWritable members local_state.raft_server.store
      → ArePutsWritable members (puts_of_all members me number local_state.raft_server moves)
  all_puts_fit [] local_state come well is = tt
  all_puts_fit (move ∷ moves) local_state come well is =
      let own = puts_fit local_state.called local_state.raft_server move is come.0 (λ entry e. well entry (inl (sym e))) in
      joined members (puts members me local_state.raft_server move) _ own
      (all_puts_fit moves (state_after_move members me number local_state move) come.1 (λ entry i. well entry (inr i)) (after_all members local_state.raft_server.store (puts members me local_state.raft_server move) is own))

-- ---- the moves of a step are of nodes

of_node : (members : List ℕ) (me : ℕ) (bag : List Message) → ((request : Request) → In (Requests request) bag → 1 ≤ request.from)
    → (called : List ℕ) (raft_server : RaftServer) (move : Move) → IsEnabled members me bag called raft_server move → IsOfNode move
of_node members me bag senders called raft_server TimeOut c = tt
of_node members me bag senders called raft_server (TakeVoteRequest request granted) c = senders request c.0
of_node members me bag senders called raft_server (TakeVoteAnswer answer) c = tt
of_node members me bag senders called raft_server (TakeAppendRequest request verdict) c = tt
of_node members me bag senders called raft_server (TakeAppendAnswer answer) c = tt
of_node members me bag senders called raft_server (ProposeEntry entry) c = tt
of_node members me bag senders called raft_server (CommitTo index) c = tt
of_node members me bag senders called raft_server TellPair c = tt
of_node members me bag senders called raft_server TellNothing c = tt
of_node members me bag senders called raft_server (CallForVote peer) c = tt
of_node members me bag senders called raft_server (CallToAppend peer previous with_entry) c = tt
of_node members me bag senders called raft_server (AnswerAgain place) c = tt
of_node members me bag senders called raft_server (GiveUp peer) c = tt

pub of_nodes : (members : List ℕ) (me number : ℕ) (bag : List Message) → ((request : Request) → In (Requests request) bag → 1 ≤ request.from)
    → (moves : List Move) (local_state : LocalState) → AllEnabled members me number bag local_state moves → AreOfNodes moves
of_nodes members me number bag senders [] local_state come = tt
of_nodes members me number bag senders (move ∷ moves) local_state come =
    (of_node members me bag senders local_state.called local_state.raft_server move come.0, of_nodes members me number bag senders moves (state_after_move members me number local_state move) come.1)
