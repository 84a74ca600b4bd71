-- The exits of an append request.
use Rattle.std.proofs.Common.{◌≡◌, ℕ, Bool, false, List, [], ◌∷◌, ◌++◌, refl, sym, ap, subst, ◌∙◌}
use Rattle.std.specs.Prelude.{Some, None, Result, Ok, Err, IfOk}
use Rattle.std.specs.Result.{result_err}
use Rattle.disk_model.specs.declared.disk.Disk.{Ghosts}
use Rattle.dsdl_codec.specs.declared.append_answer.AppendAnswer.{AppendAnswer}
use Rattle.can_frame.specs.declared.step.Role.TheVariants.{Follower}
use Rattle.kv_store.specs.declared.fault.Fault.{Fault}
use Rattle.raft_log.specs.declared.origin.TheConstants.{LEADER}
use Rattle.raft_log.specs.declared.durable.Durable.{Durable}
use Rattle.raft_log.specs.DurableViews.{durable_state}
use Rattle.raft_model.specs.Messages.{Request}
use Rattle.raft_model.specs.Moves.Appending.{IsJudged, IsOutdated, IsRuled, Verdict, append_puts, is_accepted}
use Rattle.raft_model.specs.Moves.Elections.{term_memory, term_puts, with_term}
use Rattle.raft_model.specs.Moves.Move.{TakeAppendRequest}
use Rattle.raft_model.specs.Moves.Appending.Verdict.{Outdated}
use Rattle.raft_model.specs.Server.{RaftServer, Put, Store, put_all}
use Rattle.raft_core.specs.declared.raft.Raft.{Raft}
use Rattle.raft_core.specs.Handled.{MakesMoves}
use Rattle.raft_core.specs.Stands.{StandsFor}
use Rattle.raft_core.specs.StoredPuts.{CallWrites, with_origin, store_of}
use Rattle.raft_core.specs.Times.{HandedIn, Times, raise}
use Rattle.raft_core.proofs.Judged.{IsLate, append_counts, judged_outdated, judged_ruled, late, no_term_puts, not_late, not_lower, outdated_term, own_term, raised_term, taken_stands}
use Rattle.raft_core.proofs.Moving.{one_move, one_move_failed, put_then, store_after}
use Rattle.raft_core.proofs.Puts.{none_made}

module _ {D : Type 0} {disk : Ghosts D} (members : List ℕ) (m n : ℕ) (given : HandedIn) (p : RaftServer) (t : Times) (r : Request) (v : Verdict) (judged : IsJudged p r v)
    (old new : Durable D disk) (raft : Raft) (st : StandsFor raft members (durable_state old) p t) where
  -- what is made of it, and what is answered
  abbrev pub IsTaken : Durable D disk → Raft → Result AppendAnswer Fault → Type 0
  IsTaken now raft2 result = MakesMoves members m n given (TakeAppendRequest r v ∷ []) p t old now raft2 (result_err result) ×
      IfOk result (λ answer. (answer.term ≡ (with_term p.store r.term).term) × (answer.success ≡ is_accepted v))

  -- its term refuses it
  pub refused_late : (term : ℕ) → IsLate raft members (durable_state old) p t r st → term ≡ (durable_state old).term
      → CallWrites [] old old None → IsTaken old raft (Ok (record { term = term; success = false }))
  refused_late term is_late own nothing =
      let out : IsOutdated p r = late raft members (durable_state old) p t r st is_late in
      let none : term_puts p.store r.term ++ [] ≡ [] = ap (λ (l : List Put). l ++ []) (no_term_puts p.store r.term (outdated_term p r out)) in
      subst (λ (w : Verdict). MakesMoves members m n given (TakeAppendRequest r w ∷ []) p t old old raft None × ((term ≡ (with_term p.store r.term).term) × (false ≡ is_accepted w))) (sym (judged_outdated p r v judged out)) (
        one_move members m n given (TakeAppendRequest r Outdated) p t old old raft (none_made LEADER _ old None none nothing)
            (subst (λ (l : List Put). StandsFor raft members (durable_state old) (record p { store = put_all p.store l }) t) (sym none) st),
        (own ∙ (sym (ap (λ (z : Store). z.term) st.store) ∙ own_term p.store r.term (outdated_term p r out)), refl),
      )

  module _ (not : IsLate raft members (durable_state old) p t r st → ⊥) where
    ruled : IsRuled (with_term p.store r.term) r v
    ruled = judged_ruled p r v judged (not_late raft members (durable_state old) p t r st not)

    -- the term was not stored
    pub term_failed : (fault : Fault) (raft2 : Raft) (result : Result AppendAnswer Fault) → result ≡ Err fault
        → CallWrites (with_origin LEADER (term_puts (store_of (durable_state old)) r.term ++ append_puts (with_term p.store r.term) r v)) old new (Some fault) → IsTaken new raft2 result
    term_failed fault raft2 result is made = (
      one_move_failed members m n given (TakeAppendRequest r v) p t old new raft2 result fault is
          (subst (λ (z : Store). CallWrites (with_origin LEADER (term_puts z r.term ++ append_puts (with_term p.store r.term) r v)) old new (Some fault)) (sym st.store) made),
      subst (λ (x : Result AppendAnswer Fault). IfOk x (λ answer. (answer.term ≡ (with_term p.store r.term).term) × (answer.success ≡ is_accepted v))) (sym is) tt,
    )

    module _ (mid : Durable D disk) (raft1 : Raft)
        (st1 : StandsFor raft1 members (durable_state mid) (record { store = with_term p.store r.term; memory = term_memory p r.term }) (raise given.now r.term p t)) where
      -- the rules are asked of what is stored by then
      pub ruled_now : IsRuled (store_of (durable_state mid)) r v
      ruled_now = subst (λ (z : Store). IsRuled z r v) st1.store ruled

      pub puts_now : append_puts (store_of (durable_state mid)) r v ≡ append_puts (with_term p.store r.term) r v
      puts_now = ap (λ (z : Store). append_puts z r v) (sym st1.store)

      -- it is taken
      pub taken : (success : Bool) (term : ℕ) (raft2 : Raft) → raft2.role ≡ Follower → given.now ≡ raft2.since → raft2.told ≡ raft1.told → raft2.word ≡ raft1.word → raft2.waits ≡ raft1.waits → raft2.peers ≡ raft1.peers
          → success ≡ is_accepted v → term ≡ r.term
          → CallWrites (with_origin LEADER (append_puts (store_of (durable_state mid)) r v)) mid new None
          → CallWrites (with_origin LEADER (term_puts (store_of (durable_state old)) r.term ++ append_puts (with_term p.store r.term) r v)) old new None
          → IsTaken new raft2 (Ok (record { term = term; success = success }))
      taken success term raft2 role since told word waits peers is_success is_term appended made = (
        one_move members m n given (TakeAppendRequest r v) p t old new raft2
            (subst (λ (z : Store). CallWrites (with_origin LEADER (term_puts z r.term ++ append_puts (with_term p.store r.term) r v)) old new None) (sym st.store) made)
            (taken_stands members m n given p t r v raft1 raft2 (durable_state mid) (durable_state new) st1 ruled stored role since told word waits peers),
        (is_term ∙ raised_term p.store r.term (not_lower raft members (durable_state old) p t r st not), is_success),
      )
        where
          stored : store_of (durable_state new) ≡ put_all p.store (term_puts p.store r.term ++ append_puts (with_term p.store r.term) r v)
          stored = ap store_of (appended.made.state refl)
              ∙ (store_after LEADER (append_puts (store_of (durable_state mid)) r v) (durable_state mid) (append_counts (store_of (durable_state mid)) r v)
              ∙ (ap (put_all (store_of (durable_state mid))) puts_now
              ∙ (ap (λ (z : Store). put_all z (append_puts (with_term p.store r.term) r v)) (sym st1.store)
              ∙ sym (put_then (term_puts p.store r.term) (append_puts (with_term p.store r.term) r v) p.store))))
