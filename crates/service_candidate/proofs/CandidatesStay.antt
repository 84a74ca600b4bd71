-- In each step a candidate stays one in its term, with its votes; or it leads, or is in a higher term, or hears a leader.
use Rattle.std.proofs.Common.{◌≡◌, ◌≢◌, ℕ, ◌+◌, ◌<◌, arith, Bool, true, false, [], ◌∷◌, ◌++◌, refl, sym, ◌∙◌, ap, subst, inl, inr, max, None, Some}
use Rattle.std.specs.Prelude.{◌⊎◌, ◌&&◌, ◌||◌, ◌==◌, nat_lt, not, if◌then◌else◌}
use Rattle.std.proofs.lemmas.Bool.Decides.{eqb_tells}
use Rattle.std.proofs.Math.Nat.{le-max_right, max-eq_left}
use Rattle.can_frame.specs.declared.identifier.Kind.TheVariants.{Request as RequestKind}
use Rattle.dsdl_codec.specs.declared.append_request.AppendRequest.{AppendRequest}
use Rattle.dsdl_codec.specs.AppendRequest as append_codec
use Rattle.raft_core.specs.Handled.{answer_of, append_request_of, vote_request_of}
use Rattle.raft_core.specs.Times.{given_at, overdue}
use Rattle.raft_model.specs.Decisions.{grants, is_current, rule, verdict_on}
use Rattle.raft_model.specs.Lists.{at, at_here, at_other}
use Rattle.raft_model.specs.Messages.{Answer, Request}
use Rattle.raft_model.specs.Moves.Appending.{Verdict, acknowledges, append_memory, append_puts, matched_memory}
use Rattle.raft_model.specs.Moves.Appending.Verdict.{Outdated}
use Rattle.raft_model.specs.Moves.Elections.{counting_memory, counts, grant_puts, has_quorum, is_leader, memory_without_call, stepped_down, term_puts, votes_with, win_memory, with_term, with_vote}
use Rattle.raft_model.specs.Moves.Move.{TakeAppendAnswer, TakeVoteAnswer, TakeVoteRequest}
use Rattle.raft_model.specs.Server.{Memory, RaftServer, Role, Store, put_all}
use Rattle.raft_model.specs.Server.Put.{PutTerm, PutVote}
use Rattle.raft_model.specs.Server.Role.{Candidate, Follower, Leader}
use Rattle.transfer_rx.specs.Reassembly.{Arrival, Delivery}
use Rattle.alloc_spec.specs.AllocatorState.{AllocatorState, members_of}
use Rattle.alloc_spec.specs.Services.{is_listed}
use Rattle.alloc_spec.specs.Step.{Event, all_nodes, at_moment, begin_phase, step}
use Rattle.alloc_spec.specs.StepState.{StepState, with_moves}
use Rattle.alloc_spec_laws.proofs.Choices.{and_left, either, eq_true, lt_tells, lt_true}
use Rattle.alloc_spec_laws.proofs.Proposals.{or_false}
use Rattle.service_steps.specs.InTime.{HearsLeader}
use Rattle.service_steps.proofs.Begins.{expired}
use Rattle.service_steps.proofs.FollowUps.{when_come}
use Rattle.service_leader.proofs.RaftPhases.{Keeps, OfRole, Takes, at_frame, at_tick, role_ends, role_grows}
use Rattle.service_candidate.proofs.VotesOffered.{granted_free, puts_voted}
use Rattle.service_candidate.proofs.VotesTaken.{raised_term, same_term, votes_kept}

-- a vote that is counted, and those that were
pub counted_too : (votes : ℕ → Bool) (from p : ℕ) → votes p ≡ true → at votes from true p ≡ true
counted_too votes from p v = elim (eqb_tells p from) [ inl z ↦ at_here votes from p true z.1 | inr z ↦ at_other votes from p true z.1 ∙ v ]

-- of two tests one holds
one_of : (a b : Bool) → (a || b) ≡ true → (a ≡ true) ⊎ (b ≡ true)
one_of true b e = inl refl
one_of false b e = inr e

-- a candidate does not lead
no_leader : (role : Role) → role ≡ Candidate → role ≢ Leader
no_leader role e f = cc (sym e ∙ f)

module _ (term_then : ℕ) (votes_then : ℕ → Bool) where
  -- it is a candidate in this term, with these votes
  abbrev pub Is : Role → ℕ → (ℕ → Bool) → Type 0
  Is role term votes = (role ≡ Candidate) × (term ≡ term_then) × ((p : ℕ) → votes_then p ≡ true → votes p ≡ true)

  module _ (Heard : Type 0) where
    -- so it is still, or it leads in the term, or is in a higher one, or this was heard
    abbrev pub Still : Role → ℕ → (ℕ → Bool) → Type 0
    Still role term votes = Is role term votes ⊎ (((role ≡ Leader) × (term ≡ term_then)) ⊎ ((term_then < term) ⊎ Heard))

    -- ---- what it is delivered

    module _ (number : ℕ) (d : Delivery) (g : StepState) (h : Keeps (OfRole Is) g)
        (hears : (message : AppendRequest) → d.ident.kind ≡ RequestKind → d.ident.number ≡ 30 → append_codec.append_request_of d.payload ≡ Some message
        → is_listed d g.allocator ≡ true
        → (g.allocator.raft_server.store.term < message.term) ⊎ ((message.term ≡ g.allocator.raft_server.store.term) × (g.allocator.raft_server.memory.role ≢ Leader))
        → Heard) where
      abbrev server : RaftServer
      server = g.allocator.raft_server

      abbrev store : Store
      store = server.store

      abbrev memory : Memory
      memory = server.memory

      -- a vote request of a higher term raises the term; any other one changes nothing of it
      vote_asked : (asked : Request) → let granted = grants (with_term store asked.term) asked in
          Keeps (OfRole Still) (with_moves number (given_at g.allocator.now) (TakeVoteRequest asked granted ∷ []) g)
      vote_asked asked =
          let granted : Bool = grants (with_term store asked.term) asked in
          let after : Store = put_all store (term_puts store asked.term ++ grant_puts (with_term store asked.term) asked granted) in
          let v = puts_voted store asked granted (granted_free (with_term store asked.term) asked) in
          elim (lt_tells store.term asked.term) [
            | inl z ↦
                let up : term_then < after.term = omega (arith, z.1, h.1, v.0, le-max_right store.term asked.term) in
                inr (inr (inl up))
            | inr z ↦ subst (λ (b : Bool). Still (if b then record memory { role = Follower } else memory).role after.term
                (if b then record memory { role = Follower } else memory).votes) (sym z.0)
                (inl (h.0, v.0 ∙ (max-eq_left z.1 ∙ h.1), h.2))
          ]

      -- an append request is outdated, or it is heard
      abbrev appended : Request → Verdict → Type 0
      appended asked v = Still (append_memory server asked v).role
          (put_all store (term_puts store asked.term ++ append_puts (with_term store asked.term) asked v)).term (append_memory server asked v).votes

      -- an outdated append request changes nothing of it
      append_outdated : (asked : Request) → is_current server asked ≡ false → appended asked (verdict_on server asked)
      append_outdated asked e = subst (appended asked) (sym (ap (λ (b : Bool). if b then rule (with_term store asked.term) asked else Outdated) e))
          (inl (h.0, low ∙ h.1, h.2))
        where
          low : (put_all store (term_puts store asked.term ++ [])).term ≡ store.term
          low = ap (λ (b : Bool). (put_all store ((if b then PutTerm asked.term ∷ PutVote None ∷ [] else []) ++ [])).term)
              (or_false (nat_lt store.term asked.term) ((asked.term == store.term) && not (is_leader memory.role)) e).0

      -- an append request is outdated, or it is one that makes the member follow
      append_asked : (message : AppendRequest) (asked : Request) → asked.term ≡ message.term → d.ident.kind ≡ RequestKind → d.ident.number ≡ 30
          → append_codec.append_request_of d.payload ≡ Some message → is_listed d g.allocator ≡ true → (b : Bool) → is_current server asked ≡ b
          → appended asked (verdict_on server asked)
      append_asked message asked same kind thirty read listed false e = append_outdated asked e
      append_asked message asked same kind thirty read listed true e = inr (inr (inr (hears message kind thirty read listed
          (elim (one_of (nat_lt store.term asked.term) ((asked.term == store.term) && not (is_leader memory.role)) e) [
            | inl f ↦ let up : store.term < message.term = omega (arith, lt_true store.term asked.term f, same) in inl up
            | inr f ↦ inr (sym same ∙ eq_true asked.term store.term (and_left (asked.term == store.term) _ f), no_leader memory.role h.0)
          ]))))

      -- an answer of a higher term, and one of its own term or a lower one
      higher : (term : ℕ) → store.term < term → term_then < (put_all store (term_puts store term)).term
      higher term less = let up = raised_term store term less in omega (arith, less, up, h.1)

      -- of a memory behind an answer of this term
      abbrev leaves : ℕ → Memory → Type 0
      leaves term m = Still m.role (put_all store (term_puts store term)).term m.votes

      -- a vote answer raises the term, makes it the leader, or leaves it a candidate with its votes
      vote_answered : (got : Answer) → Keeps (OfRole Still) (with_moves number (given_at g.allocator.now) (TakeVoteAnswer got ∷ []) g)
      vote_answered got = elim (lt_tells store.term got.term) [
        | inl z ↦ inr (inr (inl (higher got.term z.1)))
        | inr z ↦ subst (λ (b : Bool). leaves got.term (if b then stepped_down memory got.from
            else (if counts server got then counting_memory (members_of g.allocator) server got else memory_without_call memory got.from))) (sym z.0)
            (either (leaves got.term) (counts server got) (counting_memory (members_of g.allocator) server got) (memory_without_call memory got.from)
            (λ c. either (leaves got.term) (has_quorum (members_of g.allocator) (votes_with memory got)) (win_memory store (with_vote memory got)) (with_vote memory got)
            (λ q. inr (inl (refl, same_term store got.term z.1 ∙ h.1)))
            (λ q. inl (h.0, same_term store got.term z.1 ∙ h.1, λ p v. counted_too memory.votes got.from p (h.2 p v))))
            (λ c. inl (h.0, same_term store got.term z.1 ∙ h.1, h.2)))
      ]

      -- an append answer raises the term, or leaves it a candidate
      append_answered : (got : Answer) → Keeps (OfRole Still) (with_moves number (given_at g.allocator.now) (TakeAppendAnswer got ∷ []) g)
      append_answered got = elim (lt_tells store.term got.term) [
        | inl z ↦ inr (inr (inl (higher got.term z.1)))
        | inr z ↦ subst (λ (b : Bool). leaves got.term (if b then stepped_down memory got.from
            else (if acknowledges server got then matched_memory memory got else memory_without_call memory got.from))) (sym z.0)
            (either (leaves got.term) (acknowledges server got) (matched_memory memory got) (memory_without_call memory got.from)
            (λ c. inl (h.0, same_term store got.term z.1 ∙ h.1, h.2)) (λ c. inl (h.0, same_term store got.term z.1 ∙ h.1, h.2)))
      ]

      -- so does each message of Raft
      takes : Takes number (OfRole Still) d g
      takes = record {
        vote_request = λ kind one thirty message read listed. vote_asked (vote_request_of message d.mark.step d.ident.source g.allocator.me);
        append_request = λ kind thirty message read listed.
            append_asked message (append_request_of message d.mark.step d.ident.source g.allocator.me) refl kind thirty read listed
            (is_current server (append_request_of message d.mark.step d.ident.source g.allocator.me)) refl;
        vote_answer = λ kind one thirty message read asked listed awaited pending.
            vote_answered (answer_of d.mark.step d.ident.source asked message.term message.granted);
        append_answer = λ kind thirty message read asked listed awaited pending. append_answered (answer_of d.mark.step d.ident.source asked message.term message.success);
      }

-- ---- the step

module _ (t : AllocatorState) (number : ℕ) (stood : t.raft_server.memory.role ≡ Candidate) (Heard : Type 0) where
  abbrev Was : Role → ℕ → (ℕ → Bool) → Type 0
  Was = Is t.raft_server.store.term t.raft_server.memory.votes

  abbrev pub StillIs : Role → ℕ → (ℕ → Bool) → Type 0
  StillIs = Still t.raft_server.store.term t.raft_server.memory.votes Heard

  -- as a step begins
  begins : (now : ℕ) → Keeps (OfRole Was) (begin_phase number now t)
  begins now =
      let nodes = overdue t.times (max t.now now) all_nodes in
      let before = expired (members_of (at_moment now t)) t.me number nodes t.raft_server in
      let votes = votes_kept (members_of (at_moment now t)) t.me number nodes t.raft_server in (
        before.role ∙ stood,
        ap (λ (s : Store). s.term) before.store,
        λ p v. ap (λ (f : ℕ → Bool). f p) votes ∙ v,
      )

  -- a tick
  pub still_at_tick : (now word : ℕ) → Keeps (OfRole StillIs) (step t number (Event.Tick now word)).step_state
  still_at_tick now word = at_tick number (OfRole Was) (OfRole StillIs) (λ me server times at h. inl h)
      (λ members me word_then server times at h.
      let up : t.raft_server.store.term < server.store.term + 1 = omega (arith, h.1) in inr (inr (inl up)))
      (role_grows StillIs) (role_ends number StillIs) t now word (begins now)

  -- a frame
  pub still_at_frame : (arrival : Arrival)
      → ((d : Delivery) (request : AppendRequest) → HearsLeader t arrival d request → Heard)
      → Keeps (OfRole StillIs) (step t number (Event.Rx arrival)).step_state
  still_at_frame arrival hears = at_frame number (OfRole StillIs) (role_grows StillIs) (role_ends number StillIs) t arrival (inl (begins arrival.moment))
      (λ d gives. takes t.raft_server.store.term t.raft_server.memory.votes Heard number d (when_come t number arrival) (begins arrival.moment)
      (λ message kind thirty read listed current. hears d message (record {
        gives = gives;
        kind = kind;
        number = thirty;
        read = read;
        listed = listed;
        current = as_before (when_come t number arrival).allocator.raft_server.store
            (expired (members_of (at_moment arrival.moment t)) t.me number (overdue t.times (max t.now arrival.moment) all_nodes) t.raft_server).store
            message current;
      })))
    where
      as_before : (then_store : Store) → then_store ≡ t.raft_server.store → (message : AppendRequest) {Rest : Type 0}
          → (then_store.term < message.term) ⊎ ((message.term ≡ then_store.term) × Rest)
          → (t.raft_server.store.term < message.term) ⊎ ((message.term ≡ t.raft_server.store.term) × (t.raft_server.memory.role ≢ Leader))
      as_before then_store same message (inl above) = inl (subst (λ (s : Store). s.term < message.term) same above)
      as_before then_store same message (inr equal) = inr (equal.0 ∙ ap (λ (s : Store). s.term) same, no_leader t.raft_server.memory.role stood)
