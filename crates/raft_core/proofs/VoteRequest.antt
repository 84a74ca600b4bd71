-- The exits of a vote request.
use Rattle.std.proofs.Common.{◌≡◌, ◌≢◌, ℕ, zero, suc, ◌≤◌, Bool, true, false, List, [], ◌∷◌, ◌++◌, refl, sym, ap, subst, ◌∙◌, arith}
use Rattle.std.specs.Prelude.{Option, Some, None, Result, Ok, Err, IfOk, if◌then◌else◌, nat_lt, length, ◌==◌, slice_index_or}
use Rattle.std.specs.Result.{result_err}
use Rattle.std.proofs.lemmas.Bool.Decides.{nat_tests}
use Rattle.disk_model.specs.declared.disk.Disk.{Ghosts}
use Rattle.dsdl_codec.specs.declared.vote_answer.VoteAnswer.{VoteAnswer}
use Rattle.kv_store.specs.declared.fault.Fault.{Fault}
use Rattle.raft_log.specs.declared.origin.TheConstants.{LEADER}
use Rattle.raft_log.specs.declared.durable.Durable.{Durable}
use Rattle.raft_log.specs.DurableViews.{durable_state}
use Rattle.raft_log.specs.Stored.{Stored}
use Rattle.raft_model.specs.Messages.{Request}
use Rattle.raft_model.specs.Moves.Elections.{IsGranted, MayGrant, grant_puts, term_memory, term_puts, vote_puts, with_term}
use Rattle.raft_model.specs.Moves.Move.{TakeVoteRequest}
use Rattle.raft_model.specs.Server.{RaftServer, Store, put_all, Role as ModelRole}
use Rattle.raft_model.specs.Server.Put.{PutVote}
use Rattle.raft_core.specs.declared.peer.Peer.{Peer}
use Rattle.raft_core.specs.declared.raft.Raft.{Raft}
use Rattle.raft_core.specs.Fits.{Fits, IsWithin}
use Rattle.raft_core.specs.Handled.{MakesMoves}
use Rattle.raft_core.specs.Stands.{StandsFor}
use Rattle.raft_core.specs.StoredPuts.{CallWrites, VoteForNodes, with_origin, store_of, vote_of}
use Rattle.raft_core.specs.Times.{HandedIn, Times, begin_wait, raise, step_down}
use Rattle.raft_core.proofs.Moving.{one_move, one_move_failed, put_then, store_after, waiting_stands}

-- ---- grants

pub denied : (s : Store) (r : Request) (granted : Bool) → IsGranted s r granted → (MayGrant s r → ⊥) → granted ≡ false
denied s r true may no_grant = absurd (no_grant may)
denied s r false may no_grant = refl

pub allowed : (s : Store) (r : Request) (granted : Bool) → IsGranted s r granted → MayGrant s r → granted ≡ true
allowed s r true h may = refl
allowed s r false h may = absurd (h may)

pub no_vote : (vote node : ℕ) → vote ≢ 0 → vote_puts (vote_of vote) node ≡ []
no_vote zero node some = absurd (some refl)
no_vote (suc vote) node some = refl

pub vote_counts : (vote : Option ℕ) (node : ℕ) → 1 ≤ node → VoteForNodes (vote_puts vote node)
vote_counts None node least = (least, tt)
vote_counts (Some vote) node least = tt

-- a wait that begins anew begins where it begins
down_wait : (now : ℕ) (role : ModelRole) (t : Times) → begin_wait now (step_down now role t) ≡ begin_wait now t
down_wait now ModelRole.Follower t = refl
down_wait now ModelRole.Candidate t = refl
down_wait now ModelRole.Leader t = refl

raise_wait : (now term : ℕ) (p : RaftServer) (t : Times) → begin_wait now (raise now term p t) ≡ begin_wait now t
raise_wait now term p t = by_test (nat_lt p.store.term term) where
  by_test : (b : Bool) → begin_wait now (if b then step_down now p.memory.role t else t) ≡ begin_wait now t
  by_test true = down_wait now p.memory.role t
  by_test false = refl

-- a vote for another is none for who has voted
kept_vote : (vote node me : ℕ) → 1 ≤ me → vote ≡ me → (if vote == 0 then node else vote) ≡ me
kept_vote zero node me least is = absurd (omega (arith, least, is))
kept_vote (suc vote) node me least is = let other : (suc vote == 0) ≡ false = grind (arith, nat_tests) in rw other is

pub voted_fits : (raft raft2 : Raft) (s s2 : Stored) (node : ℕ) → Fits raft s → s2 ≡ record s { vote = if s.vote == 0 then node else s.vote }
    → raft2.role ≡ raft.role → raft2.told ≡ raft.told → raft2.me ≡ raft.me → raft2.peers ≡ raft.peers → Fits raft2 s2
voted_fits raft raft2 s s2 node fits stored role told me peers = record {
  told = subst (λ (k : ℕ). k ≤ s2.commit) (sym told) (subst (λ (z : Stored). raft.told ≤ z.commit) (sym stored) fits.told);
  vote = λ other. ap (λ (z : Stored). z.vote) stored ∙ (kept_vote s.vote node raft.me raft.least (fits.vote (λ follower. other (role ∙ follower))) ∙ sym me);
  peers = λ leads q d below. subst (λ (l : List Peer). IsWithin (slice_index_or l q d) (length s2.log)) (sym peers)
      (subst (λ (z : Stored). IsWithin (slice_index_or raft.peers q d) (length z.log)) (sym stored) (fits.peers (sym role ∙ leads) q d below));
}

module _ {D : Type 0} {disk : Ghosts D} (members : List ℕ) (m n : ℕ) (given : HandedIn) (p : RaftServer) (t : Times) (r : Request) (granted : Bool) (is : IsGranted (with_term p.store r.term) r granted)
    (old : Durable D disk) (raft : Raft) (st : StandsFor raft members (durable_state old) p t) where
  -- what is made of it, and what is answered
  abbrev pub IsVoted : Durable D disk → Raft → Result VoteAnswer Fault → Type 0
  IsVoted now raft2 result = MakesMoves members m n given (TakeVoteRequest r granted ∷ []) p t old now raft2 (result_err result) ×
      IfOk result (λ answer. (answer.term ≡ (with_term p.store r.term).term) × (answer.granted ≡ granted))

  pub vote_failed : (new : Durable D disk) (fault : Fault) (raft2 : Raft) (result : Result VoteAnswer Fault) → result ≡ Err fault
      → CallWrites (with_origin LEADER (term_puts (store_of (durable_state old)) r.term ++ grant_puts (with_term p.store r.term) r granted)) old new (Some fault) → IsVoted new raft2 result
  vote_failed new fault raft2 result failed made = (
    one_move_failed members m n given (TakeVoteRequest r granted) p t old new raft2 result fault failed
        (subst (λ (z : Store). CallWrites (with_origin LEADER (term_puts z r.term ++ grant_puts (with_term p.store r.term) r granted)) old new (Some fault)) (sym st.store) made),
    subst (λ (x : Result VoteAnswer Fault). IfOk x (λ answer. (answer.term ≡ (with_term p.store r.term).term) × (answer.granted ≡ granted))) (sym failed) tt,
  )

  module _ (mid : Durable D disk) (raft1 : Raft)
      (st1 : StandsFor raft1 members (durable_state mid) (record { store = with_term p.store r.term; memory = term_memory p r.term }) (raise given.now r.term p t)) where
    granted_now : IsGranted (store_of (durable_state mid)) r granted
    granted_now = subst (λ (z : Store). IsGranted z r granted) st1.store is

    module _ (term : ℕ) (is_term : term ≡ (durable_state mid).term) where
      term_now : term ≡ (with_term p.store r.term).term
      term_now = is_term ∙ sym (ap (λ (z : Store). z.term) st1.store)

      -- it is not granted
      pub vote_denied : (MayGrant (store_of (durable_state mid)) r → ⊥)
          → CallWrites (with_origin LEADER (term_puts (store_of (durable_state old)) r.term ++ [])) old mid None
          → IsVoted mid raft1 (Ok (record { term = term; granted = false }))
      vote_denied no_grant made =
          subst (λ (b : Bool). MakesMoves members m n given (TakeVoteRequest r b ∷ []) p t old mid raft1 None × ((term ≡ (with_term p.store r.term).term) × (false ≡ b)))
          (sym (denied (store_of (durable_state mid)) r granted granted_now no_grant)) (
            one_move members m n given (TakeVoteRequest r false) p t old mid raft1
                (subst (λ (z : Store). CallWrites (with_origin LEADER (term_puts z r.term ++ [])) old mid None) (sym st.store) made)
                (subst (λ (z : Store). StandsFor raft1 members (durable_state mid) (record { store = z; memory = term_memory p r.term }) (raise given.now r.term p t)) (sym (put_then (term_puts p.store r.term) [] p.store)) st1),
            (term_now, refl),
          )

      -- it is granted
      pub vote_granted : (new : Durable D disk) (raft2 : Raft) → MayGrant (store_of (durable_state mid)) r → 1 ≤ r.from
          → raft2.role ≡ raft1.role → raft2.told ≡ raft1.told → raft2.members ≡ raft1.members → given.now ≡ raft2.since → raft2.word ≡ raft1.word → raft2.waits ≡ raft1.waits → raft2.peers ≡ raft1.peers
          → CallWrites (with_origin LEADER (vote_puts (store_of (durable_state mid)).vote r.from)) mid new None
          → CallWrites (with_origin LEADER (term_puts (store_of (durable_state old)) r.term ++ vote_puts (store_of (durable_state mid)).vote r.from)) old new None
          → IsVoted new raft2 (Ok (record { term = term; granted = true }))
      vote_granted new raft2 may least role told known since word waits peers voted made =
          let s = durable_state mid in
          let same : store_of s ≡ with_term p.store r.term = sym st1.store in
          let stored : store_of (durable_state new) ≡ put_all p.store (term_puts p.store r.term ++ vote_puts (with_term p.store r.term).vote r.from) =
          ap store_of (voted.made.state refl) ∙ (store_after LEADER (vote_puts (store_of s).vote r.from) s (vote_counts (vote_of s.vote) r.from least)
          ∙ (ap (λ (z : Store). put_all z (vote_puts z.vote r.from)) same ∙ sym (put_then (term_puts p.store r.term) (vote_puts (with_term p.store r.term).vote r.from) p.store))) in
          subst (λ (b : Bool). MakesMoves members m n given (TakeVoteRequest r b ∷ []) p t old new raft2 None × ((term ≡ (with_term p.store r.term).term) × (true ≡ b)))
          (sym (allowed (store_of s) r granted granted_now may)) (
            one_move members m n given (TakeVoteRequest r true) p t old new raft2
                (subst (λ (z : Store). CallWrites (with_origin LEADER (term_puts z r.term ++ vote_puts (with_term p.store r.term).vote r.from)) old new None) (sym st.store)
                (subst (λ (z : Store). CallWrites (with_origin LEADER (term_puts (store_of (durable_state old)) r.term ++ vote_puts z.vote r.from)) old new None) same made))
                (subst (λ (x : Times). StandsFor raft2 members (durable_state new) (record { store = put_all p.store (term_puts p.store r.term ++ vote_puts (with_term p.store r.term).vote r.from); memory = term_memory p r.term }) x) (raise_wait given.now r.term p t)
                (waiting_stands raft1 raft2 members s (durable_state new) (record { store = with_term p.store r.term; memory = term_memory p r.term }) (raise given.now r.term p t) given.now _ st1 (sym stored) role told known since word waits peers)),
            (term_now, refl),
          )

    pub granted_puts : MayGrant (store_of (durable_state mid)) r → vote_puts (store_of (durable_state mid)).vote r.from ≡ grant_puts (with_term p.store r.term) r granted
    granted_puts may =
        ap (λ (z : Store). vote_puts z.vote r.from) (sym st1.store)
        ∙ ap (grant_puts (with_term p.store r.term) r) (sym (allowed (store_of (durable_state mid)) r granted granted_now may))
