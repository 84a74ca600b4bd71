-- Later than the call timeout and a period behind the beginning of a calm, a member of the group asks another one for
-- its vote only where it stands for election.
use Rattle.std.proofs.Common.{◌≡◌, ◌≢◌, ℕ, ◌+◌, ◌*◌, ◌<◌, ◌≤◌, arith, Bool, true, false, List, [], ◌∷◌, ◌++◌, drop, max, inl, inr, refl, sym, ◌∙◌, ap, subst, Option, None, Some}
use Rattle.std.specs.Prelude.{◌⊎◌}
use Rattle.std.proofs.lemmas.List.{append_assoc, append-nil}
use Rattle.dsdl_codec.specs.declared.vote_answer.VoteAnswer.{VoteAnswer}
use Rattle.dsdl_codec.specs.VoteAnswer.{vote_answer_of}
use Rattle.raft_model.specs.Lists.{In}
use Rattle.raft_model.specs.Messages.{Request}
use Rattle.raft_model.specs.Server.Role.{Candidate}
use Rattle.bus_rows.specs.declared.row.Row.{Row}
use Rattle.alloc_spec.specs.AllocatorState.{AllocatorState, members_of, start_of}
use Rattle.alloc_spec.specs.Step.{Event, step}
use Rattle.alloc_spec.specs.StepState.{StepState}
use Rattle.alloc_spec.specs.Transfers.{SentTransfer}
use Rattle.alloc_spec_laws.specs.Phases.{when_told}
use Rattle.alloc_spec_laws.proofs.Peers.{list_peers, members_list}
use Rattle.service_steps.specs.InTime.{NoCallIsOld}
use Rattle.bus_rows.specs.Timed.{Timed}
use Rattle.service_candidate.specs.Votes.{Stands, VoteComes, VotesComeBack, WaitsForVote}
use Rattle.service_candidate.specs.Wins.{OffersVoteRequest}
use Rattle.service_candidate.proofs.WhoAsks.{who_asks_stands}
use Rattle.service_candidate.proofs.WinsFronts.{here_more}
use Rattle.service_leader.proofs.RowsOfOne.{moment_is, stepped_up}
use Rattle.service_elections.specs.Running.{quiet_within}
use Rattle.service_elections.proofs.AsksKept.{IsPast, by_later, settled_then}
use Rattle.service_elections.proofs.AsksScene.{Asker, here, laws_at, listed, next_cut, one_is, runs_next, the_calm, w0, was_one}
use Rattle.service_elections.proofs.AsksState.{Is, among, fits, is_candidate_or_not, now_is, one_row, same_request, told_term, u_is}
use Rattle.service_elections.proofs.AsksTurns.{HasAsked, is_asked, not_asked, not_listed, stood}
use Rattle.service_elections.proofs.AsksWaits.{Waits, in_time, told_answered, told_pending}
use Rattle.service_elections.proofs.CalmFronts.{harm_row, recut, runs_at}
use Rattle.service_calm.specs.Calm.{AreCalm, Member as OfMember, Traffic, no_traffic, traffic_after}
use Rattle.service_calm.specs.Comes.{Delivers}
use Rattle.service_calm.proofs.Pair.{same_event}
use Rattle.bus_spec.specs.Cluster.{Cluster, after_row, receipt_of, step_of}
use Rattle.bus_spec.specs.Members.MemberStatus.{Up}

-- what is delivered comes at the moment that the member's clock reads then
its_ms : (s : Asker) (traffic : Traffic) (a b : List Timed) (x : Timed) (e : s.whole ≡ a ++ x ∷ b) → AreCalm s.group s.clocks s.pace traffic (here s a) (x ∷ b) → (y : SentTransfer)
    (d : Delivers s.n y (here s a) x.row) → d.ms ≡ x.at + s.clocks (OfMember s.n)
its_ms s traffic a b x e calm y d = moment_is (here s a) s.n d.server (record { status = d.runs; quiet = (runs_at (the_calm s) s.n s.member a (x ∷ b) e).up.quiet })
    s.group s.clocks s.pace traffic x.at x.row (receipt_of (here s a) d.k d.ms) (ap (λ (r : Row). step_of (here s a) r) d.comes) calm.1

module _ (s : Asker) (m : ℕ) (in_m : In (OfMember m) s.group) (apart : s.n ≢ m) (low : m < 128) (young : NoCallIsOld) where
  -- ---- front by front

  abbrev AreSo : Traffic → List Timed → Type 0
  AreSo traffic a = (t : AllocatorState) → ((here s a).member s.n).status ≡ Up t → Is s m in_m apart low young traffic a t

  -- what is known before a row of the calm
  pub record Known (a b : List Timed) (x : Timed) : Type 0 where
    pub traffic : Traffic
    pub calm : AreCalm s.group s.clocks s.pace traffic (here s a) (x ∷ b)
    pub so : AreSo traffic a

  walk : (more done : List Timed) (x : Timed) (b : List Timed) (traffic : Traffic) → s.whole ≡ done ++ (more ++ x ∷ b)
      → AreCalm s.group s.clocks s.pace traffic (here s done) (more ++ x ∷ b) → AreSo traffic done → Known (done ++ more) b x
  walk [] done x b traffic e calm so = subst (λ (l : List Timed). Known l b x) (sym (append-nil done)) (record { traffic = traffic; calm = calm; so = so })
  walk (y ∷ more) done x b traffic e calm so = subst (λ (l : List Timed). Known l b x) (append_assoc done (y ∷ []) more)
      (walk more (done ++ y ∷ []) x b (traffic_after traffic (here s done) y) (e ∙ sym (append_assoc done (y ∷ []) (more ++ x ∷ b)))
      (subst (λ (w : Cluster). AreCalm s.group s.clocks s.pace (traffic_after traffic (here s done) y) w (more ++ x ∷ b)) (sym (here_more (w0 s) done y)) calm.2)
      (λ u up_then. let runs = runs_at (the_calm s) s.n s.member done (y ∷ (more ++ x ∷ b)) e in
      one_row s m in_m apart low young traffic done (more ++ x ∷ b) y e calm runs.server u runs.up.status
      (ap (λ (w : Cluster). (w.member s.n).status) (sym (here_more (w0 s) done y)) ∙ up_then) (so runs.server runs.up.status)))

  module _ (past : (t : AllocatorState) → ((w0 s).member s.n).status ≡ Up t → IsPast m t) where
    at_first : AreSo (no_traffic s.start) []
    at_first t up =
        let clock = s.calm.clock s.n s.member t up in record {
          now = clock;
          knows = λ role. inr (inr (by_later t.now (s.start + s.clocks (OfMember s.n)) (t.raft_server.memory.pending m) (t.times.sending m) clock (past t up), omega arith));
        }

    known : (a b : List Timed) (x : Timed) → s.whole ≡ a ++ x ∷ b → Known a b x
    known a b x e = walk a [] x b (no_traffic s.start) e (recut (the_calm s) (a ++ x ∷ b) e).calm at_first

    -- ---- a row in which the peer is asked

    module _ (back : VotesComeBack s.ids s.rows) (a b : List Timed) (x : Timed) (e : s.whole ≡ a ++ x ∷ b)
        (late : s.start + quiet_within s.pace < x.at) (asks : OffersVoteRequest s.n m (here s a) x.row) where
      abbrev k : Known a b x
      k = known a b x e

      abbrev t : AllocatorState
      t = asks.server

      abbrev number : ℕ
      number = (here s a).rows + 1

      abbrev after : StepState
      after = (step asks.server number asks.event).step_state

      is : Is s m in_m apart low young k.traffic a asks.server
      is = k.so asks.server asks.runs

      module _ (u : AllocatorState) (up_then : ((after_row (here s a) x.row).member s.n).status ≡ Up u) where
        u_after : u ≡ (step asks.server number asks.event).step_state.allocator
        u_after = u_is s m in_m apart low young k.traffic a b x e k.calm asks.server u asks.runs up_then is asks.event asks.in_step

        -- who asks is a candidate behind the row
        role : u.raft_server.memory.role ≡ Candidate
        role = elim (is_candidate_or_not u.raft_server.memory.role) [
          | inl z ↦ z
          | inr z ↦ absurd (who_asks_stands asks.server number asks.event
              (λ f. z (ap (λ (q : AllocatorState). q.raft_server.memory.role) u_after ∙ f)) (asks.offer, asks.offered, asks.what))
        ]

        stands : (step asks.server number asks.event).step_state.allocator.raft_server.memory.role ≡ Candidate
        stands = ap (λ (q : AllocatorState). q.raft_server.memory.role) (sym u_after) ∙ role

        module _ (was : t.raft_server.memory.role ≡ Candidate) (same_term : t.raft_server.store.term ≡ u.raft_server.store.term)
            (none_stands : (term : ℕ) → Stands s.n term (here s a) x.row → ⊥) where
          abbrev told : StepState
          told = when_told asks.server number asks.event

          term_is : (when_told asks.server number asks.event).allocator.raft_server.store.term ≡ asks.server.raft_server.store.term
          term_is = told_term s m in_m apart low young k.traffic a b x e k.calm asks.server u asks.runs up_then is asks.event asks.in_step role was same_term

          -- so the peer has not answered, and no call to it is pending
          never : (told.allocator.times.answered m ≡ true) ⊎ ((r : Request) × (told.allocator.raft_server.memory.pending m ≡ Some r)) → ⊥
          never h = not_asked asks.server number asks.event stands m h (asks.offer, asks.offered, asks.what, asks.to)

          -- it had not answered before
          answered : t.times.answered m ≡ true → ⊥
          answered h = never (inl (elim ((settled_then m asks.server number asks.event).1 (stood asks.server number asks.event stands) term_is) [
            | inl y ↦ y
            | inr y ↦ y.0 ∙ h
          ]))

          -- ---- nor did the member wait for its vote

          module _ (w : Waits s m in_m apart a asks.server) where
            soon : x.at ≤ w.timed.at + 4 * s.pace.delay
            soon = in_time s m in_m apart a b x e asks.server w back

            u_now : u.now ≡ x.at + s.clocks (OfMember s.n)
            u_now = now_is s m in_m apart low young k.traffic a b x e k.calm asks.server u asks.runs up_then is asks.event asks.in_step

            young_then : u.now < w.timed.at + s.clocks (OfMember s.n) + 1000
            young_then = let quick = s.calm.quick in let n = u_now in let l = soon in omega (arith, n, l, quick)

            -- no answer comes in the row
            silent : VoteComes s.n m w.offer.id (here s a) x.row → ⊥
            silent v = by (vote_answer_of v.y.offer.payload) refl
              where
                event_is : receipt_of (here s a) v.delivers.k v.delivers.ms ≡ asks.event
                event_is = same_event s.n s.n (receipt_of (here s a) v.delivers.k v.delivers.ms) asks.event
                    (sym (ap (λ (r : Row). step_of (here s a) r) v.delivers.comes) ∙ asks.in_step)

                in_time_there : max asks.server.now v.delivers.ms < w.timed.at + s.clocks (OfMember s.n) + 1000
                in_time_there = let now = is.now in let c = k.calm.0.moments in let l = soon in let quick = s.calm.quick in
                    let ms = its_ms s k.traffic a b x e k.calm v.y v.delivers in omega (arith, now, c, l, quick, ms)

                by : (o : Option VoteAnswer) → vote_answer_of v.y.offer.payload ≡ o → ⊥
                by (Some says) read = never (inl (subst (λ (ev : Event). (when_told asks.server number ev).allocator.times.answered m ≡ true) event_is
                    (told_answered s m in_m apart a b x e asks.server u asks.runs up_then v.y v.delivers v.by v.what w.offer.id
                    (w.timed.at + s.clocks (OfMember s.n)) w.request v.its_id w.waits in_time_there says read)))
                by None read = never (inr (
                  w.request,
                  subst (λ (ev : Event). (when_told asks.server number ev).allocator.raft_server.memory.pending m ≡ Some w.request) event_is
                      (told_pending s m in_m apart a b x e asks.server u asks.runs up_then v.y v.delivers v.by v.what w.offer.id
                      (w.timed.at + s.clocks (OfMember s.n)) w.request v.its_id w.waits in_time_there read),
                ))

            waits_then : WaitsForVote m w.offer.id (w.timed.at + s.clocks (OfMember s.n)) w.request u
            waits_then = (laws_at s a (x ∷ b) e).waits_on s.n m w.offer.id (w.timed.at + s.clocks (OfMember s.n)) w.request x.row asks.server u (listed s) (harm_row (the_calm s) a b x e)
                asks.runs up_then w.waits young_then none_stands (λ f. cc (sym role ∙ f)) silent

            asked_anew : told.allocator.raft_server.memory.pending m ≡ None → told.allocator.times.answered m ≡ false → ⊥
            asked_anew none a_none =
                let h : HasAsked number m after = is_asked asks.server number asks.event stands m
                (among s m in_m apart low young k.traffic a b x e k.calm asks.server u asks.runs up_then is asks.event asks.in_step) none a_none in
                let found = fits s m in_m apart low young k.traffic a b x e k.calm asks.server u asks.runs up_then is asks.event asks.in_step h.offer h.offered h.what h.to in
                let one : h.request ≡ w.request = same_request h.request w.request
                (sym (h.waits found).0 ∙ (ap (λ (q : AllocatorState). q.raft_server.memory.pending m) (sym u_after) ∙ waits_then.pending)) in
                let number_is = ap (λ (r : Request). r.step) one in
                let made = h.made in let before = w.made in omega (arith, number_is, made, before)

            waited : ⊥
            waited = by (told.allocator.times.answered m) refl (told.allocator.raft_server.memory.pending m) refl
              where
                by : (v : Bool) → told.allocator.times.answered m ≡ v → (p : Option Request) → told.allocator.raft_server.memory.pending m ≡ p → ⊥
                by true v p f = never (inl v)
                by false v (Some r) f = never (inr (r, f))
                by false v None f = asked_anew f v

          none_asked : ⊥
          none_asked = elim (is.knows was) [
            | inl h ↦ answered h
            | inr (inl w) ↦ waited w
            | inr (inr old) ↦ let lately = old.1 in let ticks = k.calm.0.ticks (OfMember s.n) s.member in omega (arith, lately, ticks, late)
          ]

      pub stands_then : (term : ℕ) × Stands s.n term (here s a) x.row
      stands_then =
          let next = runs_next s s.n s.member a b x e in
          let u = next.server in
          elim (was_one s a b x e asks.server u asks.runs next.up.status u.raft_server.store.term (role u next.up.status, refl)) [
            | inl st ↦ (u.raft_server.store.term, st)
            | inr one ↦ absurd (none_asked u next.up.status one.0 one.1 (λ term st. other_term u next.up.status one.1 term st))
          ]
        where
          -- who stands has another term behind the row
          other_term : (u : AllocatorState) → ((after_row (here s a) x.row).member s.n).status ≡ Up u → asks.server.raft_server.store.term ≡ u.raft_server.store.term
              → (term : ℕ) → Stands s.n term (here s a) x.row → ⊥
          other_term u up_then same term st =
              let before = ap (λ (q : AllocatorState). q.raft_server.store.term) (one_is s (here s a) st.before asks.server st.runs asks.runs) in
              let behind = ap (λ (q : AllocatorState). q.raft_server.store.term) (one_is s (after_row (here s a) x.row) st.after u st.runs_then up_then) in
              let next = st.next in let its = st.its_term in omega (arith, before, behind, next, its, same)

-- nobody asks itself for its vote
pub asks_not_itself : (s : Asker) (a b : List Timed) (x : Timed) → s.whole ≡ a ++ x ∷ b → OffersVoteRequest s.n s.n (here s a) x.row → ⊥
asks_not_itself s a b x e asks = elim (is_candidate_or_not (step asks.server ((here s a).rows + 1) asks.event).step_state.allocator.raft_server.memory.role) [
  | inr z ↦ who_asks_stands asks.server ((here s a).rows + 1) asks.event z (asks.offer, asks.offered, asks.what)
  | inl z ↦ not_listed asks.server ((here s a).rows + 1) asks.event z s.n out (asks.offer, asks.offered, asks.what, asks.to)
]
  where
    u : AllocatorState
    u = (step asks.server ((here s a).rows + 1) asks.event).step_state.allocator

    up_then : ((here s (a ++ x ∷ [])).member s.n).status ≡ Up (step asks.server ((here s a).rows + 1) asks.event).step_state.allocator
    up_then = ap (λ (w : Cluster). (w.member s.n).status) (here_more (w0 s) a x)
        ∙ (stepped_up (here s a) s.n asks.server (record { status = asks.runs; quiet = (runs_at (the_calm s) s.n s.member a (x ∷ b) e).up.quiet }) x.row asks.event asks.in_step).status

    me : u.me ≡ s.n
    me = (laws_at s (a ++ x ∷ []) b (next_cut s a b x e)).me s.n u (listed s) up_then

    out : In s.n (drop 1 (members_of (step asks.server ((here s a).rows + 1) asks.event).step_state.allocator)) → ⊥
    out i = (list_peers u.size u.me (members_of u) (members_list (start_of u) u.heard)).others s.n i (sym me)
