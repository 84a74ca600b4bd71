-- What a candidate knows of its call to a peer, front by front: from the call timeout and a period on, it waits for a
-- vote which it asked for in the calm, or the peer has answered.
use Rattle.std.proofs.Common.{◌≡◌, ◌≢◌, ℕ, ◌+◌, ◌<◌, ◌≤◌, arith, Bool, true, false, List, [], ◌∷◌, ◌++◌, drop, inl, inr, refl, sym, ◌∙◌, ap, subst, Option, Some}
use Rattle.std.specs.Prelude.{◌⊎◌, ◌-◌, slice_index_or}
use Rattle.std.proofs.lemmas.Bool.Decides.{leb_tells}
use Rattle.std.proofs.lemmas.List.{append_assoc, append-nil}
use Rattle.can_frame.specs.declared.step.What.TheVariants.{VoteQ}
use Rattle.raft_core.specs.Times.{Sending, Times, is_overdue}
use Rattle.raft_model.specs.Lists.{In}
use Rattle.raft_model.specs.Messages.{Request}
use Rattle.raft_model.specs.Moves.Leading.{vote_request}
use Rattle.raft_model.specs.Server.{RaftServer, Role}
use Rattle.raft_model.specs.Server.Role.{Candidate, Follower, Leader}
use Rattle.bus_rows.specs.declared.row.Row.{Row}
use Rattle.alloc_spec.specs.AllocatorState.{AllocatorState, members_of}
use Rattle.alloc_spec.specs.Step.{Event, moment_of, step}
use Rattle.alloc_spec.specs.Transfers.{Offer, SentTransfer}
use Rattle.alloc_spec_laws.specs.Phases.{when_told}
use Rattle.alloc_spec_laws.proofs.Choices.{either}
use Rattle.service_steps.specs.InTime.{NoCallIsOld}
use Rattle.bus_rows.specs.Timed.{Timed, rows_in}
use Rattle.service_alone.proofs.Members.{IsUp}
use Rattle.service_candidate.specs.Votes.{AsksFor, CanAsk, Stands, WaitsForVote}
use Rattle.service_candidate.specs.Wins.{VoteRequestsFit}
use Rattle.service_candidate.proofs.RowsLeave.{row_leaves}
use Rattle.service_candidate.proofs.WinsFronts.{here_more, part_of, votes_fit_at}
use Rattle.service_candidate.proofs.WinsScene.{steps_or_not}
use Rattle.service_leader.proofs.EntriesParts.{listed_behind, reads_step}
use Rattle.service_leader.proofs.RowsOfOne.{moment_is}
use Rattle.service_leader.proofs.Stretches.{world_both}
use Rattle.service_elections.proofs.AsksKept.{CalledBy}
use Rattle.service_elections.proofs.AsksScene.{Asker, here, laws_at, listed, lists_next, next_cut, one_is, the_calm, w0, was_one}
use Rattle.service_elections.proofs.AsksTurns.{HasAsked, IsKept, settled, term_same}
use Rattle.service_elections.proofs.AsksWaits.{IsAnswered, Waits, heard, steps_to}
use Rattle.service_elections.proofs.CalmFronts.{harm_row, runs_at}
use Rattle.service_calm.specs.Calm.{AreCalm, Member as OfMember, Traffic, reads, traffic_after}
use Rattle.service_calm.specs.Comes.{Delivers}
use Rattle.service_calm.proofs.Counting.{now_after}
use Rattle.service_calm.proofs.Pair.{same_event}
use Rattle.bus_spec.specs.Cluster.{Cluster, after_row, after_rows, receipt_of, step_of, tick_of}
use Rattle.bus_spec.specs.Members.MemberStatus.{Up}

no_end : (middle rest : List Timed) (timed : Timed) → [] ≡ middle ++ timed ∷ rest → ⊥
no_end [] rest timed e = cc (e)
no_end (other ∷ middle) rest timed e = cc (e)

pub same_request : (a b : Request) → Some a ≡ Some b → a ≡ b
same_request a b e = cc e

-- a call that is not overdue is younger than the call timeout
is_young_then : (call : Sending) (now : ℕ) → is_overdue (Some call) now ≡ false → now < call.moment + 1000
is_young_then call now e = elim (leb_tells 1000 (now - call.moment)) [
  | inl z ↦ absurd (cc (sym z.0 ∙ e))
  | inr z ↦ let k = z.1 in omega (arith, k)
]

pub is_candidate_or_not : (role : Role) → (role ≡ Candidate) ⊎ (role ≢ Candidate)
is_candidate_or_not Follower = inr (λ e. cc e)
is_candidate_or_not Candidate = inl refl
is_candidate_or_not Leader = inr (λ e. cc e)

module _ (s : Asker) (m : ℕ) (in_m : In (OfMember m) s.group) (apart : s.n ≢ m) (low : m < 128) (young : NoCallIsOld) where
  abbrev delay : ℕ
  delay = s.pace.delay

  abbrev ahead : ℕ
  ahead = s.clocks (OfMember s.n)

  abbrev can : CanAsk s.n m (w0 s) s.whole
  can = s.calm.ask s.n m s.member in_m apart

  -- a call from before the calm is pending, or none; and the member has not read its clock since the call timeout
  abbrev IsOld : Traffic → AllocatorState → Type 0
  IsOld traffic t = CalledBy (s.start + s.clocks (OfMember s.n)) (t.raft_server.memory.pending m) (t.times.sending m) × (traffic.ticked (OfMember s.n) < s.start + 1000)

  abbrev Knows : Traffic → List Timed → AllocatorState → Type 0
  Knows traffic a t = (t.times.answered m ≡ true) ⊎ (Waits s m in_m apart a t ⊎ IsOld traffic t)

  pub record Is (traffic : Traffic) (a : List Timed) (t : AllocatorState) : Type 0 where
    pub now : t.now ≤ traffic.at + s.clocks (OfMember s.n)
    pub knows : t.raft_server.memory.role ≡ Candidate → Knows traffic a t

  -- ---- one row

  module _ (traffic : Traffic) (a b : List Timed) (x : Timed) (e : s.whole ≡ a ++ x ∷ b)
      (calm : AreCalm s.group s.clocks s.pace traffic (here s a) (x ∷ b)) (t u : AllocatorState) (up : ((here s a).member s.n).status ≡ Up t)
      (up_then : ((after_row (here s a) x.row).member s.n).status ≡ Up u) (is : Is traffic a t) where
    abbrev number : ℕ
    number = (here s a).rows + 1

    abbrev Next : Type 0
    Next = Is (traffic_after traffic (here s a) x) (a ++ x ∷ []) u

    next_world : here s (a ++ x ∷ []) ≡ after_row (here s a) x.row
    next_world = here_more (w0 s) a x

    next_rows : (here s (a ++ x ∷ [])).rows ≡ (here s a).rows + 1
    next_rows = ap (λ (w : Cluster). w.rows) next_world ∙ row_counted (here s a) x.row
      where
        row_counted : (v : Cluster) (row : Row) → (after_row v row).rows ≡ v.rows + 1
        row_counted v row = omega arith

    -- who waits waits behind the row too, where no answer comes
    longer : (w : Waits s m in_m apart a t) → WaitsForVote m w.offer.id (w.timed.at + s.clocks (OfMember s.n)) w.request u
        → (IsAnswered s m in_m apart w.offer.id (here s a) x.row → ⊥) → Waits s m in_m apart (a ++ x ∷ []) u
    longer w waits silent = record {
      front = w.front;
      timed = w.timed;
      more = w.more ++ x ∷ [];
      split = ap (λ (l : List Timed). l ++ x ∷ []) w.split ∙ append_assoc w.front (w.timed ∷ w.more) (x ∷ []);
      offer = w.offer;
      sends = w.sends;
      what = w.what;
      to = w.to;
      request = w.request;
      made = let k = w.made in let r = next_rows in omega (arith, k, r);
      waits = waits;
      none = λ d c one f answered. elim (part_of w.more (x ∷ []) d c one f) [
        | inl p ↦ w.none d p.0 one p.1 answered
        | inr p ↦ by d c one p.0 p.1 p.2 answered
      ];
    }
      where
        there : here s a ≡ after_rows (after_row (here s w.front) w.timed.row) (rows_in w.more)
        there = ap (λ (l : List Timed). here s l) w.split ∙ world_both (w0 s) w.front (w.timed ∷ w.more)

        by : (d c : List Timed) (one : Timed) (tail : List Timed) → x ∷ [] ≡ tail ++ one ∷ c → d ≡ w.more ++ tail
            → IsAnswered s m in_m apart w.offer.id (after_rows (after_row (here s w.front) w.timed.row) (rows_in d)) one.row → ⊥
        by d c one [] f g answered = silent (subst (λ (v : Cluster). IsAnswered s m in_m apart w.offer.id v x.row) (sym there)
            (subst (λ (l : List Timed). IsAnswered s m in_m apart w.offer.id (after_rows (after_row (here s w.front) w.timed.row) (rows_in l)) x.row) (g ∙ append-nil w.more)
            (subst (λ (z : Timed). IsAnswered s m in_m apart w.offer.id (after_rows (after_row (here s w.front) w.timed.row) (rows_in d)) z.row)
            (sym (ap (λ (l : List Timed). slice_index_or l 0 x) f)) answered)))
        by d c one (z ∷ tail) f g answered = absurd (no_end tail c one (ap (λ (l : List Timed). drop 1 l) f))

    -- ---- no step of the member

    rests : u.raft_server ≡ t.raft_server → u.times ≡ t.times → u.now ≡ t.now → (members_of u ≡ members_of t)
        → ((event : Event) → step_of (here s a) x.row ≡ Some (s.n, event) → ⊥) → Next
    rests server times now members none = record {
      now = let k = is.now in let j = calm.0.moments in omega (arith, k, j, now);
      knows = λ role. elim (is.knows (ap (λ (r : RaftServer). r.memory.role) (sym server) ∙ role)) [
        | inl answered ↦ inl (ap (λ (ts : Times). ts.answered m) times ∙ answered)
        | inr (inl w) ↦ inr (inl (longer w
            (record {
              listed = subst (λ (l : List ℕ). In m l) (sym members) w.waits.listed;
              vote = w.waits.vote;
              pending = ap (λ (r : RaftServer). r.memory.pending m) server ∙ w.waits.pending;
              kept = ap (λ (ts : Times). ts.sending m) times ∙ w.waits.kept;
            })
            (λ answered. none (receipt_of (here s a) answered.6.k answered.6.ms) (ap (λ (r : Row). step_of (here s a) r) answered.6.comes))))
        | inr (inr old) ↦ inr (inr (
          λ request p. let k = old.0 request (ap (λ (r : RaftServer). r.memory.pending m) (sym server) ∙ p) in
              (k.0, ap (λ (ts : Times). ts.sending m) times ∙ k.1, k.2),
          either (λ (k : ℕ). k < s.start + 1000) (reads x.row (OfMember s.n)) x.at (traffic.ticked (OfMember s.n))
              (λ r. let its = reads_step (here s a) x.row s.n r in absurd (none its.0 its.1)) (λ r. old.1),
        ))
      ];
    }

    -- ---- a step of the member

    module _ (event : Event) (in_its_step : step_of (here s a) x.row ≡ Some (s.n, event)) where
      is_up : IsUp t ((here s a).member s.n)
      is_up = record { status = up; quiet = (runs_at (the_calm s) s.n s.member a (x ∷ b) e).up.quiet }

      abbrev after : AllocatorState
      after = (step t number event).step_state.allocator

      pub u_is : u ≡ (step t number event).step_state.allocator
      u_is = steps_to s m in_m apart a b x e t u up up_then event in_its_step

      moment : moment_of event ≡ x.at + s.clocks (OfMember s.n)
      moment = moment_is (here s a) s.n t is_up s.group s.clocks s.pace traffic x.at x.row event in_its_step calm.1

      pub now_is : u.now ≡ x.at + s.clocks (OfMember s.n)
      now_is =
          let k = ap (λ (q : AllocatorState). q.now) u_is in
          let l = now_after t number event in
          let before = is.now in
          let j = calm.0.moments in
          omega (arith, k, l, before, j, moment)

      its_list : In m (members_of u)
      its_list = lists_next s m can.asks_it a b x e u up_then

      other : m ≢ u.me
      other same = apart (sym (same ∙ (laws_at s (a ++ x ∷ []) b (next_cut s a b x e)).me s.n u (listed s)
          (ap (λ (w : Cluster). (w.member s.n).status) next_world ∙ up_then)))

      pub among : In m (drop 1 (members_of (step t number event).step_state.allocator))
      among = subst (λ (q : AllocatorState). In m (drop 1 (members_of q))) u_is (listed_behind u m its_list other)

      pub fits : (offer : Offer) → In offer (step t number event).step_state.offers → offer.what ≡ VoteQ → offer.to ≡ m → offer.fitted ≡ true
      fits offer offered what to = votes_fit_at s.n a b x (w0 s) (subst (VoteRequestsFit s.n (w0 s)) e (s.calm.asks_fit s.n s.member)) m (record {
        server = t;
        runs = up;
        event = event;
        in_step = in_its_step;
        offer = offer;
        offered = offered;
        what = what;
        to = to;
      })

      -- a request that is made in the row
      newly : (offer : Offer) (request : Request) → In offer (step t number event).step_state.offers → (what : offer.what ≡ VoteQ) → (to : offer.to ≡ m)
          → request.step ≡ (here s a).rows + 1
          → (offer.fitted ≡ true → WaitsForVote m offer.id (x.at + s.clocks (OfMember s.n)) request u) → Waits s m in_m apart (a ++ x ∷ []) u
      newly offer request offered what to made waits = record {
        front = a;
        timed = x;
        more = [];
        split = refl;
        offer = offer;
        sends = record { server = t; runs = up; event = event; in_step = in_its_step; offered = offered; fitted = fits offer offered what to };
        what = what;
        to = to;
        request = request;
        made = let r = next_rows in omega (arith, made, r);
        waits = waits (fits offer offered what to);
        none = λ d c one f answered. absurd (no_end d c one f);
      }

      -- who stands asks the peer
      stands : (term : ℕ) → Stands s.n term (here s a) x.row → Waits s m in_m apart (a ++ x ∷ []) u
      stands term st =
          let then_u : st.after ≡ u = one_is s (after_row (here s a) x.row) st.after u st.runs_then up_then in
          let asks : AsksFor s.n m term (here s a) x.row st = ((laws_at s a (x ∷ b) e).asked s.n term x.row (listed s) (harm_row (the_calm s) a b x e) st).asks m
          (subst (λ (q : AllocatorState). In m (members_of q)) (sym then_u) its_list) (λ same. apart (sym same)) in
          let before_is : st.before ≡ t = one_is s (here s a) st.before t st.runs up in
          let event_is : tick_of st.ms st.word ≡ event = same_event s.n s.n (tick_of st.ms st.word) event (sym (ap (λ (r : Row). step_of (here s a) r) st.reads) ∙ in_its_step) in
          newly asks.offer (vote_request s.n ((here s a).rows + 1) st.after.raft_server.store m)
          (subst (λ (ev : Event). In asks.offer (step t number ev).step_state.offers) event_is
          (subst (λ (q : AllocatorState). In asks.offer (step q number (tick_of st.ms st.word)).step_state.offers) before_is asks.offered)) asks.what asks.to refl
          (λ f. subst (λ (k : ℕ). WaitsForVote m asks.offer.id k (vote_request s.n ((here s a).rows + 1) st.after.raft_server.store m) u)
          (ap (λ (q : AllocatorState). q.now) then_u ∙ now_is)
          (subst (WaitsForVote m asks.offer.id st.after.now (vote_request s.n ((here s a).rows + 1) st.after.raft_server.store m)) then_u (asks.waits f)))

      -- ---- it was a candidate before

      module _ (role : u.raft_server.memory.role ≡ Candidate) (was : t.raft_server.memory.role ≡ Candidate) (same_term : t.raft_server.store.term ≡ u.raft_server.store.term) where
        stands_then : (step t number event).step_state.allocator.raft_server.memory.role ≡ Candidate
        stands_then = ap (λ (q : AllocatorState). q.raft_server.memory.role) (sym u_is) ∙ role

        pub told_term : (when_told t number event).allocator.raft_server.store.term ≡ t.raft_server.store.term
        told_term = sym (term_same t number event stands_then) ∙ (ap (λ (q : AllocatorState). q.raft_server.store.term) (sym u_is) ∙ sym same_term)

        -- no call to the peer that is pending behind the row is old
        not_old : is_overdue (u.times.sending m) u.now ≡ false
        not_old = ap (λ (q : AllocatorState). is_overdue (q.times.sending m) q.now) u_is ∙ young t number event m low

        asked : HasAsked number m (step t number event).step_state → Waits s m in_m apart (a ++ x ∷ []) u
        asked h = newly h.offer h.request h.offered h.what h.to h.made (λ f. record {
          listed = its_list;
          vote = h.vote;
          pending = ap (λ (q : AllocatorState). q.raft_server.memory.pending m) u_is ∙ (h.waits f).0;
          kept = ap (λ (q : AllocatorState). q.times.sending m) u_is ∙ ((h.waits f).1
              ∙ ap (λ (k : ℕ). Some (record { id = h.offer.id; moment = k })) (ap (λ (q : AllocatorState). q.now) (sym u_is) ∙ now_is));
        })

        kept : u.times.answered m ≡ false → IsKept t number event stands_then m → u.times.answered m ≡ t.times.answered m
            → Knows (traffic_after traffic (here s a) x) (a ++ x ∷ []) u
        kept silent k same = elim (is.knows was) [
          | inl answered ↦ inl (same ∙ answered)
          | inr (inl w) ↦
              let one : k.request ≡ w.request = same_request k.request w.request (sym k.was ∙ w.waits.pending) in
              let pending = ap (λ (q : AllocatorState). q.raft_server.memory.pending m) u_is ∙ (k.is ∙ ap (λ (r : Request). Some r) one) in
              let sending = ap (λ (q : AllocatorState). q.times.sending m) u_is ∙ (k.sending ∙ w.waits.kept) in
              let soon = is_young_then (record { id = w.offer.id; moment = w.timed.at + s.clocks (OfMember s.n) }) u.now
              (ap (λ (o : Option Sending). is_overdue o u.now) (sym sending) ∙ not_old) in
              inr (inl (longer w (record { listed = its_list; vote = w.waits.vote; pending = pending; kept = sending })
              (λ answered. cc (sym silent ∙ heard s m in_m apart a b x e t u up up_then answered.0 answered.6 answered.2 answered.3 w.offer.id
              (w.timed.at + s.clocks (OfMember s.n)) w.request answered.4 w.waits
              (let ms = its_ms answered.6 in let j = is.now in let c = calm.0.moments in omega (arith, soon, now_is, ms, j, c)) answered.1 answered.5 role))))
          | inr (inr old) ↦
              let call = old.0 k.request k.was in
              let sending = ap (λ (q : AllocatorState). q.times.sending m) u_is ∙ (k.sending ∙ call.1) in
              let soon = is_young_then call.0 u.now (ap (λ (o : Option Sending). is_overdue o u.now) (sym sending) ∙ not_old) in
              let at : x.at < s.start + 1000 = (let l = call.2 in omega (arith, soon, now_is, l)) in
              inr (inr (
                λ request p. (call.0, sending, call.2),
                either (λ (z : ℕ). z < s.start + 1000) (reads x.row (OfMember s.n)) x.at (traffic.ticked (OfMember s.n)) (λ r. at) (λ r. old.1),
              ))
        ]
          where
            its_ms : {y : SentTransfer} (d : Delivers s.n y (here s a) x.row) → d.ms ≡ x.at + s.clocks (OfMember s.n)
            its_ms d = moment_is (here s a) s.n t is_up s.group s.clocks s.pace traffic x.at x.row (receipt_of (here s a) d.k d.ms)
                (ap (λ (r : Row). step_of (here s a) r) d.comes) calm.1

        by_answered : (v : Bool) → u.times.answered m ≡ v → Knows (traffic_after traffic (here s a) x) (a ++ x ∷ []) u
        by_answered true v = inl v
        by_answered false v = elim (settled t number event stands_then m among told_term) [
          | inl answered ↦ inl (ap (λ (q : AllocatorState). q.times.answered m) u_is ∙ answered)
          | inr (same, inl h) ↦ inr (inl (asked h))
          | inr (same, inr k) ↦ kept v k (ap (λ (q : AllocatorState). q.times.answered m) u_is ∙ same)
        ]

      stepped : Next
      stepped = record {
        now = omega (arith, now_is);
        knows = λ role. elim (was_one s a b x e t u up up_then u.raft_server.store.term (role, refl)) [
          | inl st ↦ inr (inl (stands u.raft_server.store.term st))
          | inr one ↦ by_answered role one.0 one.1 (u.times.answered m) refl
        ];
      }

    pub one_row : Next
    one_row = elim (steps_or_not (here s a) x.row s.n) [
      | inl z ↦ stepped z.0 z.1
      | inr none ↦ elim (row_leaves (here s a) s.n t u up x.row (harm_row (the_calm s) a b x e) up_then) [
        | inl ticked ↦ absurd (none (tick_of ticked.ms ticked.word) (ap (λ (r : Row). step_of (here s a) r) ticked.reads))
        | inr (inl received) ↦ absurd (none (receipt_of (here s a) received.k received.ms) (ap (λ (r : Row). step_of (here s a) r) received.comes))
        | inr (inr (inl same)) ↦ rests (ap (λ (q : AllocatorState). q.raft_server) same) (ap (λ (q : AllocatorState). q.times) same)
            (ap (λ (q : AllocatorState). q.now) same) (ap (λ (q : AllocatorState). members_of q) same) none
        | inr (inr (inr sent)) ↦ rests (ap (λ (q : AllocatorState). q.raft_server) sent) (ap (λ (q : AllocatorState). q.times) sent)
            (ap (λ (q : AllocatorState). q.now) sent) (ap (λ (q : AllocatorState). members_of q) sent) none
      ]
    ]
