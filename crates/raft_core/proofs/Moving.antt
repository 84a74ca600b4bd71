-- One move of the Raft model: its puts, and the server and times after it.
use Rattle.std.proofs.Common.{◌≡◌, ℕ, zero, suc, List, [], ◌∷◌, ◌++◌, Option, Some, None, refl, sym, ap, subst, ◌∙◌, arith}
use Rattle.std.specs.Prelude.{Result, Err, slice_index_or}
use Rattle.std.specs.Result.{result_err}
use Rattle.can_frame.specs.declared.step.Role.{Role}
use Rattle.can_frame.specs.declared.step.Role.TheVariants.{Follower, Candidate, Leader}
use Rattle.disk_model.specs.declared.disk.Disk.{Ghosts}
use Rattle.kv_store.specs.declared.fault.Fault.{Fault}
use Rattle.raft_log.specs.declared.durable.Durable.{Durable}
use Rattle.raft_log.specs.DurableViews.{durable_state}
use Rattle.raft_log.specs.Stored.{Stored, after_put, after_puts}
use Rattle.raft_model.specs.Handlers.{server_after}
use Rattle.raft_model.specs.Moves.{Move, puts}
use Rattle.raft_model.specs.Server.{RaftServer, Put, Store, put, put_all, Role as ModelRole}
use Rattle.raft_model.specs.Server.Put.{PutTerm, PutVote, PutEntry, PutLonger, PutShorter, PutCommit}
use Rattle.raft_core.specs.declared.peer.Peer.{Peer}
use Rattle.raft_core.specs.declared.raft.Raft.{Raft}
use Rattle.raft_core.specs.Handled.{LeavesMoves, MakesMoves, origin_of}
use Rattle.raft_core.specs.Stands.{StandsFor, Tells, Waits, role_of}
use Rattle.raft_core.specs.StoredPuts.{CallWrites, PutWithOrigin, VoteForNodes, VotesForNode, with_origin, puts_alone, put_from, store_of, stored_put, stored_puts}
use Rattle.raft_core.specs.Times.{HandedIn, Times, begin_wait, times_after}
use Rattle.raft_core.proofs.Origins.{raft_server_of_moves}

-- ---- what is stored

module _ (origin : ℕ) where
  vote_stays : (vote : Option ℕ) (s : Stored) → VotesForNode (PutVote vote) → store_of (after_put (put_from origin (PutVote vote) s) s) ≡ put (store_of s) (PutVote vote)
  vote_stays None s h = refl
  vote_stays (Some zero) s h = absurd (omega (arith, h))
  vote_stays (Some (suc n)) s h = refl

  store_after_one : (x : Put) (s : Stored) → VotesForNode x → store_of (after_put (put_from origin x s) s) ≡ put (store_of s) x
  store_after_one (PutTerm term) s h = refl
  store_after_one (PutVote vote) s h = vote_stays vote s h
  store_after_one (PutEntry entry) s h = refl
  store_after_one (PutLonger entry) s h = refl
  store_after_one (PutShorter count) s h = refl
  store_after_one (PutCommit index) s h = refl

-- what is stored after puts is the same in both words
pub stored_after : (xs : List PutWithOrigin) (s : Stored) → VoteForNodes (puts_alone xs) → store_of (after_puts (stored_puts xs s) s) ≡ put_all (store_of s) (puts_alone xs)
stored_after [] s h = refl
stored_after (x ∷ xs) s h = stored_after xs (after_put (stored_put x s) s) h.1 ∙ ap (λ (z : Store). put_all z (puts_alone xs)) (store_after_one x.origin x.put s h.0)

-- and of puts of one origin
pub store_after : (origin : ℕ) (xs : List Put) (s : Stored) → VoteForNodes xs → store_of (after_puts (stored_puts (with_origin origin xs) s) s) ≡ put_all (store_of s) xs
store_after origin [] s h = refl
store_after origin (x ∷ xs) s h = store_after origin xs (after_put (put_from origin x s) s) h.1 ∙ ap (λ (z : Store). put_all z xs) (store_after_one origin x s h.0)

pub put_then : (xs ys : List Put) (s : Store) → put_all s (xs ++ ys) ≡ put_all (put_all s xs) ys
put_then [] ys s = refl
put_then (x ∷ xs) ys s = put_then xs ys (put s x)

nothing_more : (xs : List PutWithOrigin) → xs ++ [] ≡ xs
nothing_more [] = refl
nothing_more (x ∷ xs) = ap (λ (rest : List PutWithOrigin). x ∷ rest) (nothing_more xs)

-- ---- one move

module _ {D : Type 0} {disk : Ghosts D} (members : List ℕ) (m n : ℕ) (given : HandedIn) (move : Move) (p : RaftServer) (t : Times) (old new : Durable D disk) (raft : Raft) where
  abbrev own : List PutWithOrigin
  own = with_origin (origin_of given move) (puts members m p move)

  pub one_move : CallWrites (with_origin (origin_of given move) (puts members m p move)) old new None
      → StandsFor raft members (durable_state new) (server_after members m n p move) (times_after members m given p move t)
      → MakesMoves members m n given (move ∷ []) p t old new raft None
  one_move made after = record {
    raft_server = raft_server_of_moves members m n given p (move ∷ []);
    puts = subst (λ (l : List PutWithOrigin). CallWrites l old new None) (sym (nothing_more own)) made;
    after = after;
  }

  pub one_move_failed : {T : Type 0} (result : Result T Fault) (fault : Fault) → result ≡ Err fault → CallWrites (with_origin (origin_of given move) (puts members m p move)) old new (Some fault)
      → MakesMoves members m n given (move ∷ []) p t old new raft (result_err result)
  one_move_failed result fault is made = subst (λ (r : Result _ Fault). MakesMoves members m n given (move ∷ []) p t old new raft (result_err r)) (sym is)
      (record {
        raft_server = raft_server_of_moves members m n given p (move ∷ []);
        puts = subst (λ (l : List PutWithOrigin). CallWrites l old new (Some fault)) (sym (nothing_more own)) made;
        after = tt;
      })

-- ---- roles

pub leads : (x : Role) → role_of x ≡ ModelRole.Leader → x ≡ Leader
leads Follower h = absurd (cc h)
leads Candidate h = absurd (cc h)
leads Leader h = refl

-- a Follower stands for whatever has its role, its stored state and its calls
pub follower_stands : (raft raft2 : Raft) (members : List ℕ) (mid new : Stored) (p p2 : RaftServer) (t t2 : Times) → StandsFor raft members mid p t
    → p2.memory.role ≡ ModelRole.Follower → p2.memory.told ≡ p.memory.told → p2.memory.pending ≡ p.memory.pending → p2.store ≡ store_of new
    → t2.sending ≡ t.sending → t2.word ≡ t.word → t2.waits ≡ t.waits → t2.since ≡ raft2.since
    → raft2.role ≡ Follower → raft2.told ≡ raft.told → raft2.word ≡ raft.word → raft2.waits ≡ raft.waits → raft2.peers ≡ raft.peers
    → StandsFor raft2 members new p2 t2
follower_stands raft raft2 members mid new p p2 t t2 st role told pending store sending word waits since role2 told2 word2 waits2 peers2 = record {
  store = store;
  role = role ∙ ap role_of (sym role2);
  told = told ∙ (st.told ∙ sym told2);
  known = λ other. absurd (other role2);
  since = since;
  word = word ∙ (st.word ∙ sym word2);
  waits = waits ∙ (st.waits ∙ sym waits2);
  peers = λ q d below. subst (λ (peers : List Peer). Tells (slice_index_or peers q d) p2 t2 q) (sym peers2) (record {
    call = subst (λ x. Waits (slice_index_or raft.peers q d).call x (t2.sending q)) (sym (ap (λ f. f q) pending))
        (subst (λ x. Waits (slice_index_or raft.peers q d).call (p.memory.pending q) x) (sym (ap (λ f. f q) sending)) (st.peers q d below).call);
    voted = λ h. absurd (no_candidate h);
    answered = λ h. absurd (no_candidate h);
    next = λ h. absurd (no_leader h);
    matched = λ h. absurd (no_leader h);
    appended = λ h. absurd (no_leader h);
  });
}
  where
    no_candidate : p2.memory.role ≡ ModelRole.Candidate → ⊥
    no_candidate h = cc (sym role ∙ h)

    no_leader : p2.memory.role ≡ ModelRole.Leader → ⊥
    no_leader h = cc (sym role ∙ h)

-- another stored state, and a wait that begins anew
pub waiting_stands : (raft raft2 : Raft) (members : List ℕ) (s new : Stored) (p : RaftServer) (t : Times) (now : ℕ) (store : Store) → StandsFor raft members s p t → store ≡ store_of new
    → raft2.role ≡ raft.role → raft2.told ≡ raft.told → raft2.members ≡ raft.members → now ≡ raft2.since → raft2.word ≡ raft.word → raft2.waits ≡ raft.waits → raft2.peers ≡ raft.peers
    → StandsFor raft2 members new (record p { store = store }) (begin_wait now t)
waiting_stands raft raft2 members s new p t now store st stored role told known since word waits peers = record {
  store = stored;
  role = st.role ∙ ap role_of (sym role);
  told = st.told ∙ sym told;
  known = λ other. ap (λ x. x.items) known ∙ st.known (λ h. other (role ∙ h));
  since = since;
  word = st.word ∙ sym word;
  waits = st.waits ∙ sym waits;
  peers = λ q d below. let x = st.peers q d below in subst (λ (list : List Peer). Tells (slice_index_or list q d) (record p { store = store }) (begin_wait now t) q) (sym peers)
      (record { call = x.call; voted = x.voted; answered = x.answered; next = x.next; matched = x.matched; appended = x.appended });
}

-- another stored state
pub storing_stands : (raft : Raft) (members : List ℕ) (s new : Stored) (p : RaftServer) (t : Times) (store : Store) → StandsFor raft members s p t → store ≡ store_of new → StandsFor raft members new (record p { store = store }) t
storing_stands raft members s new p t store st stored = record {
  store = stored;
  role = st.role;
  told = st.told;
  known = st.known;
  since = st.since;
  word = st.word;
  waits = st.waits;
  peers = λ q d below. let x = st.peers q d below in record { call = x.call; voted = x.voted; answered = x.answered; next = x.next; matched = x.matched; appended = x.appended };
}

-- a call that makes no move
module _ {D : Type 0} {disk : Ghosts D} (members : List ℕ) (m n : ℕ) (p : RaftServer) (t : Times) (durable : Durable D disk) (raft : Raft) where
  pub no_move : CallWrites [] durable durable None → StandsFor raft members (durable_state durable) p t → LeavesMoves members m n [] p [] t durable durable raft None
  no_move made st = record { raft_server = refl; puts = made; after = st }
