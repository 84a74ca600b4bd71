-- A leader appends an entry.
use Rattle.std.proofs.Common.{◌≡◌, ◌⊎◌, inl, inr, ℕ, ◌<◌, ◌≤◌, Bool, true, false, List, [], ◌∷◌, ◌++◌, Option, Some, None, length, Decides, refl, sym, ap, subst, ◌∙◌, arith}
use Rattle.std.specs.Prelude.{slice_index_or, ◌↔◌, Result, Ok, Err}
use Rattle.std.specs.Result.{result_err}
use Rattle.std.specs.Str.{bytes_eq}
use Rattle.std.proofs.lemmas.List.{length-append}
use Rattle.std.proofs.lemmas.Slice.Eq.{bytes_eq-Decides}
use Rattle.can_frame.specs.declared.entry.Entry.{Entry}
use Rattle.can_frame.specs.Log.{HasNodeId, HasUid, IsDistinctFromAll, IsInjective, IsPair, IsReservation, blank, last_term}
use Rattle.can_frame.specs.Zeros.{zeros}
use Rattle.disk_model.specs.declared.disk.Disk.{Ghosts}
use Rattle.kv_store.specs.declared.fault.Fault.{Fault}
use Rattle.raft_log.specs.declared.durable.Durable.{Durable}
use Rattle.raft_log.specs.DurableViews.{durable_state}
use Rattle.raft_log.specs.MayFollow.{IsStorable, MayFollow}
use Rattle.raft_log.specs.Stored.{Stored, after_puts, puts_of_append, Put as StoredPut}
use Rattle.raft_model.specs.Moves.Leading.{MayPropose}
use Rattle.raft_model.specs.Moves.Move.{ProposeEntry}
use Rattle.raft_model.specs.Server.{RaftServer, Store, Role as ModelRole}
use Rattle.raft_model.specs.Server.Put.{PutEntry, PutLonger}
use Rattle.raft_core.specs.declared.peer.Asked.{Asked}
use Rattle.raft_core.specs.declared.peer.Asked.TheVariants.{Vote, Append}
use Rattle.raft_core.specs.declared.peer.Waiting.{Waiting}
use Rattle.raft_core.specs.declared.propose.Proposed.{Proposed}
use Rattle.raft_core.specs.declared.propose.Proposed.TheVariants.{Added}
use Rattle.raft_core.specs.declared.raft.Raft.{Raft}
use Rattle.raft_core.specs.Fits.{AsksUpTo, Fits, ReachesUpTo}
use Rattle.raft_core.specs.Handled.{MakesMoves}
use Rattle.raft_core.specs.Proposing.{Appends, IsTried, entry_puts}
use Rattle.raft_core.specs.Stands.{StandsFor, role_of}
use Rattle.raft_core.specs.StoredPuts.{CallWrites, CallFaultIsSticky, with_origin, store_of, stored_puts}
use Rattle.raft_core.specs.Taken.{IsTaken, proposal}
use Rattle.raft_core.specs.Times.{HandedIn, Times}
use Rattle.raft_core.proofs.Moving.{one_move, one_move_failed, storing_stands}
use Rattle.raft_core.proofs.Puts.{quiet, still}

-- ---- what may be proposed

-- an entry with a node ID of 1 to 125 is a pair, or with zeros a reservation
by_uid : (e : Entry) (b : Bool) → Decides b (e.uid ≡ zeros) → 1 ≤ e.node → e.node ≤ 125 → IsReservation e ⊎ IsPair e
by_uid e true decides least most = inl (record { uid = decides.0 refl; least = least; most = most })
by_uid e false decides least most = inr (record { uid = λ zero. cc (decides.1 zero); least = least; most = most })

pub of_a_kind : (e : Entry) → 1 ≤ e.node → e.node ≤ 125 → IsReservation e ⊎ IsPair e
of_a_kind e = by_uid e (bytes_eq e.uid zeros) (bytes_eq-Decides e.uid zeros)

-- terms do not rise above the member's
last_below : (log : List Entry) (term : ℕ) → ((i : ℕ) → i < length log → (slice_index_or log i (blank 0)).term ≤ term) → last_term log ≤ term
last_below [] term below = omega arith
last_below (x ∷ xs) term below = below (length xs) (omega arith)

-- when a log stays injective by a reservation, and by a pair
module _ (reserved : (log : List Entry) (e : Entry) → IsReservation e → IsInjective (log ++ e ∷ []) ↔ (IsInjective log × (HasNodeId log e.node → ⊥)))
    (paired : (log : List Entry) (e : Entry) → IsPair e → IsInjective (log ++ e ∷ []) ↔ (IsInjective log × (HasUid log e.uid → ⊥) × (HasNodeId log e.node → ⊥))) where
  -- nothing of the entry stands in the log
  pub stays_injective : (log : List Entry) (e : Entry) → IsReservation e ⊎ IsPair e → IsInjective log → (IsTaken log e.uid e.node → ⊥) → IsInjective (log ++ e ∷ [])
  stays_injective log e (inr pair) injective free = (paired log e pair).1 (injective, λ has. free (inr (pair.uid, has)), λ has. free (inl has))
  stays_injective log e (inl reservation) injective free = (reserved log e reservation).1 (injective, λ has. free (inl has))

  is_free : (log : List Entry) (e : Entry) → IsReservation e ⊎ IsPair e → IsInjective (log ++ e ∷ []) → IsTaken log e.uid e.node → ⊥
  is_free log e (inr pair) injective (inl node) = ((paired log e pair).0 injective).2 node
  is_free log e (inr pair) injective (inr uid) = ((paired log e pair).0 injective).1 uid.1
  is_free log e (inl reservation) injective (inl node) = ((reserved log e reservation).0 injective).1 node
  is_free log e (inl reservation) injective (inr uid) = uid.0 reservation.uid

  module _ (p : RaftServer) (s : Stored) (uid : List ℕ) (node : ℕ) (same : p.store ≡ store_of s) where
    abbrev entry : Entry
    entry = proposal p.store.term uid node

    pub may_propose : p.memory.role ≡ ModelRole.Leader → length s.log < 127 → IsInjective s.log → 1 ≤ node → node ≤ 125 → (IsTaken s.log uid node → ⊥) → MayPropose p (proposal p.store.term uid node)
    may_propose leads room injective least most free = record {
      leads = leads;
      room = subst (λ (z : Store). length z.log < 127) (sym same) room;
      own_term = refl;
      kind = inr (of_a_kind entry least most);
      injective = subst (λ (z : Store). IsInjective (z.log ++ (entry ∷ []))) (sym same) (stays_injective s.log entry (of_a_kind entry least most) injective free);
    }

    pub may_not : 1 ≤ node → node ≤ 125 → IsTaken s.log uid node → MayPropose p (proposal p.store.term uid node) → ⊥
    may_not least most taken may = is_free p.store.log entry (of_a_kind entry least most) may.injective (subst (λ (z : Store). IsTaken z.log uid node) (sym same) taken)

-- what the log is asked for that takes the entry
module _ (reserved : (log : List Entry) (e : Entry) → IsReservation e → IsInjective (log ++ e ∷ []) ↔ (IsInjective log × (HasNodeId log e.node → ⊥)))
    (paired : (log : List Entry) (e : Entry) → IsPair e → IsInjective (log ++ e ∷ []) ↔ (IsInjective log × (HasUid log e.uid → ⊥) × (HasNodeId log e.node → ⊥)))
    (grows : (log : List Entry) (e : Entry) → IsInjective (log ++ e ∷ []) ↔ (IsInjective log × IsDistinctFromAll log e)) where
  pub free_follows : (s : Stored) (uid : List ℕ) (node : ℕ) → IsStorable s → 1 ≤ node → node ≤ 125 → (IsTaken s.log uid node → ⊥) → MayFollow s.log s.term (proposal s.term uid node)
  free_follows s uid node storable least most free = record {
    formed = inr (of_a_kind (proposal s.term uid node) least most);
    order = last_below s.log s.term (λ i below. (storable.follows i below).bound);
    bound = omega arith;
    distinct = ((grows s.log (proposal s.term uid node)).0 (stays_injective reserved paired s.log (proposal s.term uid node) (of_a_kind (proposal s.term uid node) least most) storable.injective free)).1;
  }

-- ---- what is appended

-- the entry that the code makes is the one that is proposed
pub same_proposal : (term term2 node node2 : ℕ) (uid : List ℕ) → term ≡ term2 → node ≡ node2 → proposal term uid node ≡ proposal term2 uid node2
same_proposal term term2 node node2 uid terms nodes = ap (λ x. proposal x uid node) terms ∙ ap (λ x. proposal term2 uid x) nodes

pub same_puts : (origin : ℕ) (s : Stored) (a b : Entry) → a ≡ b
    → stored_puts (with_origin origin (PutEntry a ∷ PutLonger a ∷ [])) s ≡ StoredPut.PutEntry b origin ∷ StoredPut.PutLast (s.log ++ b ∷ []) (s.origins ++ Some origin ∷ []) ∷ []
same_puts origin s a b e = ap (λ (x : Entry). StoredPut.PutEntry x origin ∷ StoredPut.PutLast (s.log ++ x ∷ []) (s.origins ++ Some origin ∷ []) ∷ []) e

-- ---- a longer log

asks_further : (last more : ℕ) (asked : Asked) → last ≤ more → AsksUpTo last asked → AsksUpTo more asked
asks_further last more Vote le h = tt
asks_further last more (Append place) le h = omega (arith, le, h)

reaches_further : (last more : ℕ) (call : Option Waiting) → last ≤ more → ReachesUpTo last call → ReachesUpTo more call
reaches_further last more None le h = tt
reaches_further last more (Some call) le h = asks_further last more call.asked le h

fits_longer : (raft : Raft) (s s2 : Stored) → Fits raft s → s2.commit ≡ s.commit → s2.vote ≡ s.vote → length s.log ≤ length s2.log → Fits raft s2
fits_longer raft s s2 fits commit vote longer = record {
  told = omega (arith, fits.told, commit);
  vote = λ other. vote ∙ fits.vote other;
  peers = λ leads q d below. let x = fits.peers leads q d below in
      record { least = x.least; next = omega (arith, x.next, longer); matched = omega (arith, x.matched, longer); reach = reaches_further (length s.log) (length s2.log) (slice_index_or raft.peers q d).call longer x.reach };
}

-- by an entry that is appended
pub fits_grown : (raft : Raft) (s s2 : Stored) (e : Entry) (origin : ℕ) → Fits raft s → s2 ≡ after_puts (puts_of_append e origin s) s → Fits raft s2
fits_grown raft s s2 e origin fits grown = subst (Fits raft) (sym grown)
    (fits_longer raft s (record s { log = s.log ++ (e ∷ []); origins = s.origins ++ (Some origin ∷ []) }) fits refl refl (omega (arith, length-append s.log (e ∷ []))))

module _ {D : Type 0} {disk : Ghosts D} (members : List ℕ) (m n : ℕ) (given : HandedIn) (p : RaftServer) (t : Times) (old new : Durable D disk) (raft : Raft) (st : StandsFor raft members (durable_state old) p t) (e : Entry) where
  pub proposed : CallWrites (with_origin given.origin (PutEntry e ∷ PutLonger e ∷ [])) old new None → MakesMoves members m n given (ProposeEntry e ∷ []) p t old new raft None
  proposed made = one_move members m n given (ProposeEntry e) p t old new raft made
      (storing_stands raft members (durable_state old) (durable_state new) p t _ st
      (ap (λ (z : Store). record z { log = z.log ++ (e ∷ []) }) st.store ∙ sym (ap store_of (made.made.state refl))))

-- ---- how it ends

module _ {D : Type 0} {disk : Ghosts D} (raft : Raft) (uid : List ℕ) (node origin : ℕ) (old : Durable D disk) where
  -- a server of this role and with what is stored may propose the entry
  abbrev pub MayBeProposed : Type 0
  MayBeProposed = (server : RaftServer) → server.store ≡ store_of (durable_state old) → server.memory.role ≡ role_of raft.role → MayPropose server (proposal server.store.term uid node)

  pub not_tried : (result : Result Proposed Fault) → (IsTried result → ⊥) → result_err result ≡ None → CallWrites [] old old None
      → ((server : RaftServer) → server.store ≡ store_of (durable_state old) → server.memory.role ≡ role_of raft.role → MayPropose server (proposal server.store.term uid node) → ⊥)
      → Appends raft uid node origin old old result
  not_tried result no_try ok nothing none = record {
    tried = λ server store role. (λ t. absurd (no_try t), λ may. absurd (none server store role may));
    puts = λ t. absurd (no_try t);
    moves = λ members step server times st given same may. absurd (none server st.store st.role may);
    refused = λ n. refl;
    unchanged = λ n q. still old;
    faults = subst (CallFaultIsSticky old old) (sym ok) nothing.faults;
  }

  module _ (new : Durable D disk) (may : MayBeProposed) where
    pub try_failed : (fault : Fault) (result : Result Proposed Fault) → result ≡ Err fault → CallWrites (with_origin origin (entry_puts (proposal (durable_state old).term uid node))) old new (Some fault) → Appends raft uid node origin old new result
    try_failed fault result is made = let broken : Result Proposed Fault = Err fault in subst (Appends raft uid node origin old new) (sym is) (record {
      tried = λ server store role. (λ t. may server store role, λ m. tt);
      puts = λ t. made;
      moves = λ members step server times st given same m.
          one_move_failed members raft.me step given (ProposeEntry (proposal server.store.term uid node)) server times old new raft broken fault refl
          (subst (λ (k : ℕ). CallWrites (with_origin k (entry_puts (proposal server.store.term uid node))) old new (Some fault)) (sym same)
          (subst (λ (z : Store). CallWrites (with_origin origin (entry_puts (proposal z.term uid node))) old new (Some fault)) (sym st.store) made));
      refused = λ n. absurd (n tt);
      unchanged = λ n q. quiet old new fault made.faults q;
      faults = made.faults;
    })

    pub added : CallWrites (with_origin origin (entry_puts (proposal (durable_state old).term uid node))) old new None → Appends raft uid node origin old new (Ok Added)
    added made = record {
      tried = λ server store role. (λ t. may server store role, λ m. tt);
      puts = λ t. made;
      moves = λ members step server times st given same m.
          proposed members raft.me step given server times old new raft st (proposal server.store.term uid node)
          (subst (λ (k : ℕ). CallWrites (with_origin k (entry_puts (proposal server.store.term uid node))) old new None) (sym same)
          (subst (λ (z : Store). CallWrites (with_origin origin (entry_puts (proposal z.term uid node))) old new None) (sym st.store) made));
      refused = λ n. absurd (n tt);
      unchanged = λ n q. absurd (n refl);
      faults = made.faults;
    }
