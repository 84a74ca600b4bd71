-- A candidate that waits for a vote which it asked for in the calm: until when it does, and what its next row leaves.
use Rattle.std.proofs.Common.{◌≡◌, ◌≢◌, ℕ, ◌+◌, ◌*◌, ◌<◌, ◌≤◌, arith, true, List, [], ◌∷◌, ◌++◌, drop, max, inl, inr, refl, sym, ◌∙◌, ap, subst, None, Some}
use Rattle.std.specs.Prelude.{slice_index_or}
use Rattle.std.proofs.lemmas.Bool.Decides.{leb_tells}
use Rattle.std.proofs.lemmas.List.{append_assoc}
use Rattle.can_frame.specs.declared.step.What.TheVariants.{Vote, VoteQ}
use Rattle.dsdl_codec.specs.declared.vote_answer.VoteAnswer.{VoteAnswer}
use Rattle.dsdl_codec.specs.VoteAnswer.{vote_answer_of}
use Rattle.raft_model.specs.Lists.{In}
use Rattle.raft_model.specs.Messages.{Request}
use Rattle.raft_model.specs.Server.Role.{Candidate}
use Rattle.bus_rows.specs.declared.row.Row.{Row}
use Rattle.alloc_spec.specs.AllocatorState.{AllocatorState}
use Rattle.alloc_spec.specs.Step.{Event, step}
use Rattle.alloc_spec.specs.Transfers.{Offer, SentTransfer}
use Rattle.alloc_spec_laws.specs.Phases.{when_told}
use Rattle.alloc_spec_laws.proofs.Lists.{in_back}
use Rattle.bus_rows.specs.Timed.{Timed, rows_in}
use Rattle.service_alone.specs.Calm.{end_of}
use Rattle.service_alone.proofs.Members.{IsUp}
use Rattle.service_candidate.specs.Votes.{CanAsk, VoteAnswersAsSaid, VoteComesBack, VoteReadsAsSaid, VotesComeBack, WaitsForVote}
use Rattle.service_candidate.proofs.VotesAsked.{vote_sent}
use Rattle.service_candidate.proofs.WinsFronts.{part_of}
use Rattle.service_leader.specs.CallsComeBack.{HasPlace}
use Rattle.service_leader.proofs.RowsOfOne.{stepped_up}
use Rattle.service_leader.proofs.Stretches.{end_both, end_last, in_between, not_before, throughout_at, world_both}
use Rattle.service_elections.proofs.AsksAnswered.{answered_told, pending_told}
use Rattle.service_elections.proofs.AsksScene.{Asker, here, laws_at, listed, one_is, the_calm, w0}
use Rattle.service_elections.proofs.AsksTurns.{answered_same}
use Rattle.service_elections.proofs.CalmFronts.{goes_at, harm_row, recut, runs_at}
use Rattle.service_calm.specs.Calm.{Member as OfMember}
use Rattle.service_calm.specs.Comes.{ComesBy, Delivers, Sends, Throughout, sent_by}
use Rattle.service_calm.proofs.Pair.{same_server}
use Rattle.bus_spec.specs.Cluster.{Cluster, after_row, after_rows, receipt_of, step_of}
use Rattle.bus_spec.specs.Lawful.{DoNoHarm}
use Rattle.bus_spec.specs.Members.MemberStatus.{Up}

no_end : (middle rest : List Timed) (timed : Timed) → [] ≡ middle ++ timed ∷ rest → ⊥
no_end [] rest timed e = cc (e)
no_end (other ∷ middle) rest timed e = cc (e)

no_middle : (middle rest : List Timed) (timed : Timed) → middle ++ timed ∷ rest ≡ [] → ⊥
no_middle [] rest timed e = cc (e)
no_middle (other ∷ middle) rest timed e = cc (e)

abbrev first_or : Timed → List Timed → Timed
first_or other rows = slice_index_or rows 0 other

module _ (s : Asker) (m : ℕ) (in_m : In (OfMember m) s.group) (apart : s.n ≢ m) where
  abbrev can : CanAsk s.n m (w0 s) s.whole
  can = s.calm.ask s.n m s.member in_m apart

  -- so far the member's clock is ahead of the moments
  abbrev pub clock : ℕ
  clock = s.clocks (OfMember s.n)

  -- a vote answer of the peer under this transfer ID is delivered in this row
  abbrev pub IsAnswered : (id : ℕ) → Cluster → Row → Type 0
  IsAnswered id w row = (y : SentTransfer) × (says : VoteAnswer) × (y.by ≡ m) × (y.offer.what ≡ Vote) × (y.offer.id ≡ id)
      × (vote_answer_of y.offer.payload ≡ Some says) × Delivers s.n y w row

  -- In one of these rows the member sent the peer a vote request, and waits for the answer since. None came in the rows
  -- behind.
  pub record Waits (a : List Timed) (t : AllocatorState) : Type 0 where
    pub front : List Timed
    pub timed : Timed
    pub more : List Timed
    pub split : a ≡ front ++ timed ∷ more
    pub offer : Offer
    pub sends : Sends s.n (here s front) timed.row offer
    pub what : offer.what ≡ VoteQ
    pub to : offer.to ≡ m
    pub request : Request
    pub made : request.step ≤ (here s a).rows
    pub waits : WaitsForVote m offer.id (timed.at + clock) request t
    pub none : (b c : List Timed) (one : Timed) → more ≡ b ++ one ∷ c
        → IsAnswered offer.id (after_rows (after_row (here s front) timed.row) (rows_in b)) one.row → ⊥

  -- ---- the answer comes within four delays

  module _ (a b : List Timed) (x : Timed) (e : s.whole ≡ a ++ x ∷ b) (t : AllocatorState) (w : Waits a t) where
    cut : s.whole ≡ w.front ++ w.timed ∷ (w.more ++ x ∷ b)
    cut = e ∙ (ap (λ (l : List Timed). l ++ x ∷ b) w.split ∙ append_assoc w.front (w.timed ∷ w.more) (x ∷ b))

    -- rows behind x are no earlier
    not_early : (one : Timed) → In one b → x.at ≤ one.at
    not_early one i =
        let k = in_between s.group s.clocks s.pace b (end_of s.start (a ++ x ∷ [])) (here s (a ++ x ∷ []))
        (goes_at (the_calm s) (a ++ x ∷ []) b (e ∙ sym (append_assoc a (x ∷ []) b))) one i in
        let l = end_last s.start a x in let low = k.0 in omega (arith, low, l)

    ends_late : x.at ≤ end_of w.timed.at (w.more ++ x ∷ b)
    ends_late =
        let k = not_before s.group s.clocks s.pace b (end_of s.start (a ++ x ∷ [])) (here s (a ++ x ∷ []))
        (goes_at (the_calm s) (a ++ x ∷ []) b (e ∙ sym (append_assoc a (x ∷ []) b))) in
        let l = end_last s.start a x in
        let same = ap (λ (n : ℕ). end_of n b) l in
        let j = end_both w.timed.at w.more (x ∷ b) in omega (arith, k, l, same, j)

    module _ (late : w.timed.at + 4 * s.pace.delay < x.at) where
      back_is : VotesComeBack s.ids s.rows → (read : VoteReadsAsSaid (sent_by s.n (here s w.front) w.offer))
          × VoteComesBack s.n m (sent_by s.n (here s w.front) w.offer) read.request w.timed.at s.pace.delay (here s w.front) (w.timed ∷ (w.more ++ x ∷ b))
      back_is back = back s.group s.clocks s.pace s.start s.n m w.front (w.more ++ x ∷ b) w.timed w.offer s.calm.listed s.calm.running s.member in_m apart
          (let quick = s.calm.quick in omega (arith, quick)) (subst (CanAsk s.n m (w0 s)) cut can) (recut (the_calm s) (w.front ++ w.timed ∷ (w.more ++ x ∷ b)) cut).calm
          (subst (λ (l : List Timed). DoNoHarm (w0 s) (rows_in l)) cut s.calm.harmless) w.sends w.what w.to (let k = ends_late in omega (arith, k, late))

      -- the answer is among those rows, and it is none of the rows behind the request and before x
      module _ (read : VoteReadsAsSaid (sent_by s.n (here s w.front) w.offer))
          (cb : VoteComesBack s.n m (sent_by s.n (here s w.front) w.offer) read.request w.timed.at s.pace.delay (here s w.front) (w.timed ∷ (w.more ++ x ∷ b))) where
        -- before the row in which the peer is asked
        abbrev upto : List Timed
        upto = w.front ++ cb.front

        abbrev asked_at : Cluster
        asked_at = after_rows (here s w.front) (rows_in cb.front)

        upto_is : here s upto ≡ asked_at
        upto_is = world_both (w0 s) w.front cb.front

        whole_is : s.whole ≡ upto ++ cb.timed ∷ cb.rest
        whole_is = cut ∙ (ap (λ (l : List Timed). w.front ++ l) cb.split ∙ sym (append_assoc w.front cb.front (cb.timed ∷ cb.rest)))

        abbrev y : SentTransfer
        y = sent_by m asked_at cb.answers.offer

        -- the answer reads as one
        sent : Sends m asked_at cb.timed.row cb.answers.offer
        sent = vote_sent m (sent_by s.n (here s w.front) w.offer) read.request asked_at cb.timed.row cb.delivers cb.answers
            (subst (HasPlace m) upto_is (throughout_at (HasPlace m) upto cb.rest cb.timed (w0 s) (subst (Throughout (HasPlace m) (w0 s)) whole_is can.place)))

        reads : VoteAnswersAsSaid y
        reads = subst (λ (v : Cluster). Sends m v cb.timed.row cb.answers.offer → VoteAnswersAsSaid (sent_by m v cb.answers.offer)) upto_is
            (λ sends. (laws_at s upto (cb.timed ∷ cb.rest) whole_is).answers_read m cb.timed.row cb.answers.offer (harm_row (the_calm s) upto cb.rest cb.timed whole_is)
            (let r = runs_at (the_calm s) m in_m upto (cb.timed ∷ cb.rest) whole_is in
            record { server = r.server; runs = r.up.status; faults = r.up.quiet.faults; disk = r.up.quiet.calls }) sends cb.answers.what) sent

        abbrev its : ComesBy s.n y (w.timed.at + 4 * s.pace.delay) (after_row asked_at cb.timed.row) cb.rest
        its = cb.comes

        -- in the row in which it comes
        is_answered : (v : Cluster) → v ≡ after_rows (after_row asked_at cb.timed.row) (rows_in its.front) → IsAnswered w.offer.id v its.timed.row
        is_answered v same = (
          y,
          record { term = reads.answer.term; granted = reads.answer.success },
          refl,
          cb.answers.what,
          cb.answers.id,
          reads.read,
          subst (λ (u : Cluster). Delivers s.n y u its.timed.row) (sym same) its.delivers,
        )

        abbrev between : List Timed
        between = cb.front ++ cb.timed ∷ its.front

        rows_are : w.timed ∷ (w.more ++ x ∷ b) ≡ between ++ its.timed ∷ its.rest
        rows_are = cb.split ∙ (ap (λ (l : List Timed). cb.front ++ cb.timed ∷ l) its.split ∙ sym (append_assoc cb.front (cb.timed ∷ its.front) (its.timed ∷ its.rest)))

        world_is : after_rows (here s w.front) (rows_in between) ≡ after_rows (after_row asked_at cb.timed.row) (rows_in its.front)
        world_is = world_both (here s w.front) cb.front (cb.timed ∷ its.front)

        -- behind the row of the request
        behind : (done : List Timed) → between ≡ w.timed ∷ done → w.more ++ x ∷ b ≡ done ++ its.timed ∷ its.rest → ⊥
        behind done same rest = elim (part_of w.more (x ∷ b) done its.rest its.timed rest) [
          | inl p ↦ w.none done p.0 its.timed p.1 (is_answered (after_rows (after_row (here s w.front) w.timed.row) (rows_in done))
              (ap (λ (l : List Timed). after_rows (here s w.front) (rows_in l)) (sym same) ∙ world_is))
          | inr p ↦ by p.0 p.1
        ]
          where
            by : (tail : List Timed) → x ∷ b ≡ tail ++ its.timed ∷ its.rest → ⊥
            by [] f = let k = ap (λ (l : List Timed). (first_or x l).at) f in let soon = its.soon in omega (arith, k, soon, late)
            by (z ∷ tail) f =
                let k = not_early its.timed (subst (λ (l : List Timed). In its.timed l) (sym (ap (λ (l : List Timed). drop 1 l) f)) (in_back its.timed tail (its.timed ∷ its.rest) (inl refl))) in
                let soon = its.soon in omega (arith, k, soon, late)

        never : ⊥
        never = by between refl
          where
            by : (l : List Timed) → between ≡ l → ⊥
            by [] f = no_middle cb.front its.front cb.timed f
            by (z ∷ done) f =
                let all : w.timed ∷ (w.more ++ x ∷ b) ≡ z ∷ (done ++ its.timed ∷ its.rest) = rows_are ∙ ap (λ (k : List Timed). k ++ its.timed ∷ its.rest) f in
                behind done (f ∙ ap (λ (one : Timed). one ∷ done) (sym (ap (first_or w.timed) all))) (ap (λ (k : List Timed). drop 1 k) all)

    -- so the row x comes by then
    pub in_time : VotesComeBack s.ids s.rows → x.at ≤ w.timed.at + 4 * s.pace.delay
    in_time back = elim (leb_tells x.at (w.timed.at + 4 * s.pace.delay)) [
      | inl z ↦ z.1
      | inr z ↦ let c = back_is z.1 back in absurd (never z.1 c.0 c.1)
    ]

  -- ---- where the answer comes, or something else under its ID

  module _ (a b : List Timed) (x : Timed) (e : s.whole ≡ a ++ x ∷ b) (t u : AllocatorState) (up : ((here s a).member s.n).status ≡ Up t)
      (up_then : ((after_row (here s a) x.row).member s.n).status ≡ Up u) where
    abbrev number : ℕ
    number = (here s a).rows + 1

    is_up : IsUp t ((here s a).member s.n)
    is_up = record { status = up; quiet = (runs_at (the_calm s) s.n s.member a (x ∷ b) e).up.quiet }

    -- a row that is a step of the member leaves what the step does
    pub steps_to : (event : Event) → step_of (here s a) x.row ≡ Some (s.n, event) → u ≡ (step t number event).step_state.allocator
    steps_to event in_step = same_server u (step t number event).step_state.allocator
        (sym up_then ∙ (stepped_up (here s a) s.n t is_up x.row event in_step).status)

    module _ (y : SentTransfer) (delivers : Delivers s.n y (here s a) x.row) (by : y.by ≡ m) (what : y.offer.what ≡ Vote) (id moment : ℕ) (request : Request)
        (same_id : y.offer.id ≡ id) (waits : WaitsForVote m id moment request t) (soon : max t.now delivers.ms < moment + 1000) where
      server_is : t ≡ delivers.server
      server_is = one_is s (here s a) t delivers.server up delivers.runs

      abbrev event : Event
      event = receipt_of (here s a) delivers.k delivers.ms

      pub in_step : step_of (here s a) x.row ≡ Some (s.n, receipt_of (here s a) delivers.k delivers.ms)
      in_step = ap (λ (r : Row). step_of (here s a) r) delivers.comes

      me : delivers.server.me ≡ s.n
      me = (laws_at s a (x ∷ b) e).me s.n delivers.server (listed s) delivers.runs

      waits_there : WaitsForVote y.by y.offer.id moment request delivers.server
      waits_there = subst (λ (k : ℕ). WaitsForVote k y.offer.id moment request delivers.server) (sym by)
          (subst (λ (k : ℕ). WaitsForVote m k moment request delivers.server) (sym same_id) (subst (WaitsForVote m id moment request) server_is waits))

      soon_there : max delivers.server.now delivers.ms < moment + 1000
      soon_there = subst (λ (q : AllocatorState). max q.now delivers.ms < moment + 1000) server_is soon

      -- what reads as an answer is taken
      pub told_answered : (says : VoteAnswer) → vote_answer_of y.offer.payload ≡ Some says
          → (when_told t number (receipt_of (here s a) delivers.k delivers.ms)).allocator.times.answered m ≡ true
      told_answered says read = subst (λ (k : ℕ). (when_told t number event).allocator.times.answered k ≡ true) by
          (subst (λ (q : AllocatorState). (when_told q number event).allocator.times.answered y.by ≡ true) (sym server_is)
          (answered_told s.n moment y request (here s a) x.row delivers me what waits_there soon_there says read))

      -- anything else leaves the call pending
      pub told_pending : vote_answer_of y.offer.payload ≡ None
          → (when_told t number (receipt_of (here s a) delivers.k delivers.ms)).allocator.raft_server.memory.pending m ≡ Some request
      told_pending read = subst (λ (k : ℕ). (when_told t number event).allocator.raft_server.memory.pending k ≡ Some request) by
          (subst (λ (q : AllocatorState). (when_told q number event).allocator.raft_server.memory.pending y.by ≡ Some request) (sym server_is)
          (pending_told s.n moment y request (here s a) x.row delivers me what waits_there soon_there read).0)

      -- so the peer has answered behind the row, if the member is a candidate there
      pub heard : (says : VoteAnswer) → vote_answer_of y.offer.payload ≡ Some says → u.raft_server.memory.role ≡ Candidate → u.times.answered m ≡ true
      heard says read stands =
          let is : u ≡ (step t number event).step_state.allocator = steps_to event in_step in
          ap (λ (q : AllocatorState). q.times.answered m) is
          ∙ (answered_same t number event (ap (λ (q : AllocatorState). q.raft_server.memory.role) (sym is) ∙ stands) m ∙ told_answered says read)
