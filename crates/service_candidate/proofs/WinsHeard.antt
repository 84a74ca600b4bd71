-- Who stands for election is heard: its vote request comes to each other member of the group, which is in its term from then
-- on, or in a higher one.
use Rattle.std.proofs.Common.{◌≡◌, ◌≢◌, ℕ, ◌+◌, ◌*◌, ◌<◌, ◌≤◌, arith, List, [], ◌∷◌, ◌++◌, inl, inr, refl, sym, ◌∙◌, ap, subst, Some}
use Rattle.std.proofs.lemmas.Bool.Decides.{eqb_tells}
use Rattle.std.proofs.lemmas.List.{append_assoc}
use Rattle.can_frame.specs.declared.step.What.TheVariants.{VoteQ}
use Rattle.can_frame.specs.Timing.{transfer_timeout}
use Rattle.raft_model.specs.Moves.Leading.{vote_request}
use Rattle.raft_model.specs.Lists.{In}
use Rattle.raft_model.specs.Messages.{Request}
use Rattle.bus_rows.specs.declared.row.Row.{Row}
use Rattle.alloc_spec.specs.AllocatorState.{AllocatorState, members_of}
use Rattle.raft_core.specs.Handled as handled
use Rattle.alloc_spec.specs.Step.{Event, step}
use Rattle.alloc_spec.specs.Transfers.{Offer, SentTransfer}
use Rattle.service_candidate.specs.Terms.{TermsDoNotFall}
use Rattle.service_candidate.specs.Votes.{AnswersVote, AsksFor, CanAsk, IsAsStanding, Stands, VoteReadsAsSaid, VotesAreAnswered, vote_asked_by}
use Rattle.service_candidate.specs.Wins.{VoteRequestsFit}
use Rattle.service_candidate.proofs.WinsAsked.{one_request}
use Rattle.service_candidate.proofs.WinsFronts.{part_of, votes_fit_at}
use Rattle.service_candidate.proofs.WinsStays.{in_middle}
use Rattle.service_leader.proofs.RowsOfOne.{stepped_up}
use Rattle.service_leader.proofs.Stretches.{world_both}
use Rattle.bus_rows.specs.Timed.{Timed, rows_in}
use Rattle.service_alone.specs.Calm.{Pace, end_of}
use Rattle.service_calm.specs.Calls.{Lists, ListsStay}
use Rattle.service_calm.specs.Calm.{AreCalm, AreRunning, IsRunning, Member as OfMember, Party, no_traffic}
use Rattle.service_calm.specs.Comes.{ComesBy, EachComesWhole, Sends, sent_by}
use Rattle.service_calm.proofs.Calls.{IsNode, further_on}
use Rattle.service_calm.proofs.CallsKept.{RunsWith}
use Rattle.service_calm.proofs.Pair.{same_server}
use Rattle.bus_spec.specs.Cluster.{Cluster, after_row, after_rows, receipt_of, step_of, tick_of, world_of}
use Rattle.bus_spec.specs.Members.MemberStatus.{Up}

module _ (ids : List ℕ) (rows : List Row) (counted : EachComesWhole ids rows) (rise : TermsDoNotFall ids rows) (stay : ListsStay) (answered : VotesAreAnswered)
    (keeps_me : (t : AllocatorState) (number : ℕ) (event : Event) → (step t number event).step_state.allocator.me ≡ t.me)
    (group : List Party) (clocks : Party → ℕ) (pace : Pace) (start c m term : ℕ) (front early late : List Timed) (timed : Timed)
    (listed : (p : ℕ) → In (OfMember p) group → In p ids) (running : AreRunning group (world_of ids rows)) (in_c : In (OfMember c) group)
    (in_m : In (OfMember m) group) (calm : AreCalm group clocks pace (no_traffic start) (world_of ids rows) (front ++ timed ∷ (early ++ late)))
    (s : Stands c term (after_rows (world_of ids rows) (rows_in front)) timed.row)
    (later : (x : Timed) → In x late → timed.at + 2 * pace.delay < x.at) (long : timed.at + 2 * pace.delay < end_of timed.at (early ++ late))
    (own : (p : ℕ) → In (OfMember p) group → (t : AllocatorState) → ((world_of ids rows).member p).status ≡ Up t → t.me ≡ p) where
  abbrev w0 : Cluster
  w0 = world_of ids rows

  abbrev there : Cluster
  there = after_rows w0 (rows_in front)

  abbrev then_w : Cluster
  then_w = after_row there timed.row

  abbrev whole : List Timed
  whole = front ++ timed ∷ (early ++ late)

  -- ---- where the rows are cut

  calm_cut : (a b : List Timed) → whole ≡ a ++ b → AreCalm group clocks pace (no_traffic start) w0 (a ++ b)
  calm_cut a b e = subst (AreCalm group clocks pace (no_traffic start) w0) e calm

  runs : (p : ℕ) → In (OfMember p) group → (a b : List Timed) → whole ≡ a ++ b → RunsWith (IsNode p) ((after_rows w0 (rows_in a)).member p)
  runs p i a b e =
      let is = running p i in
      (further_on keeps_me group clocks pace p a b w0 (record {
        traffic = no_traffic start;
        calm = calm_cut a b e;
        runs = record { server = is.server; up = record { status = is.runs; quiet = record { faults = is.faults; calls = is.disk } }; holds = own p i is.server is.runs };
      })).runs

  rises : (p : ℕ) → In (OfMember p) group → (a d b : List Timed) → whole ≡ a ++ (d ++ b) → (t u : AllocatorState)
      → ((after_rows w0 (rows_in a)).member p).status ≡ Up t → ((after_rows w0 (rows_in (a ++ d))).member p).status ≡ Up u
      → t.raft_server.store.term ≤ u.raft_server.store.term
  rises p i a d b e t u up up_then = rise group clocks pace start p a d b t u running (calm_cut a (d ++ b) e) i up up_then

  world_end : after_rows w0 (rows_in (front ++ timed ∷ early)) ≡ after_rows then_w (rows_in early)
  world_end = world_both w0 front (timed ∷ early)

  -- ---- the one that stands itself

  its_own : (t : AllocatorState) → ((after_rows then_w (rows_in early)).member c).status ≡ Up t → term ≤ t.raft_server.store.term
  its_own t up =
      let both = append_assoc front (timed ∷ []) early in
      let k = rises c in_c (front ++ timed ∷ []) early late (sym (append_assoc front (timed ∷ []) (early ++ late))) s.after t
      (ap (λ (w : Cluster). (w.member c).status) (world_both w0 front (timed ∷ [])) ∙ s.runs_then)
      (ap (λ (l : List Timed). ((after_rows w0 (rows_in l)).member c).status) both ∙ (ap (λ (w : Cluster). (w.member c).status) world_end ∙ up)) in
      let l = s.its_term in omega (arith, k, l)

  -- ---- another member

  module _ (other : m ≢ c) (quick : 2 * pace.delay ≤ transfer_timeout) (can : CanAsk c m (world_of ids rows) (front ++ timed ∷ (early ++ late)))
      (fit : VoteRequestsFit c (world_of ids rows) (front ++ timed ∷ (early ++ late)))
      (standing : IsAsStanding c term (after_rows (world_of ids rows) (rows_in front)) timed.row s)
      (reads : (offer : Offer) → IsRunning c (after_rows (world_of ids rows) (rows_in front)) → Sends c (after_rows (world_of ids rows) (rows_in front)) timed.row offer
      → offer.what ≡ VoteQ → VoteReadsAsSaid (sent_by c (after_rows (world_of ids rows) (rows_in front)) offer)) where
    its_list : In m (members_of s.after)
    its_list = stay group clocks pace (no_traffic start) c m (front ++ timed ∷ []) (early ++ late) w0 (running c in_c)
        (calm_cut (front ++ timed ∷ []) (early ++ late) (sym (append_assoc front (timed ∷ []) (early ++ late))))
        can.asks_it s.after (ap (λ (w : Cluster). (w.member c).status) (world_both w0 front (timed ∷ [])) ∙ s.runs_then)

    abbrev asks : AsksFor c m term there timed.row s
    asks = standing.asks m its_list other

    in_step : step_of there timed.row ≡ Some (c, tick_of s.ms s.word)
    in_step = ap (λ (r : Row). step_of there r) s.reads

    sends : Sends c there timed.row asks.offer
    sends = record {
      server = s.before;
      runs = s.runs;
      event = tick_of s.ms s.word;
      in_step = in_step;
      offered = asks.offered;
      fitted = votes_fit_at c front (early ++ late) timed w0 fit m (record {
        server = s.before;
        runs = s.runs;
        event = tick_of s.ms s.word;
        in_step = in_step;
        offer = asks.offer;
        offered = asks.offered;
        what = asks.what;
        to = asks.to;
      });
    }

    abbrev x : SentTransfer
    x = sent_by c there asks.offer

    c_runs : IsRunning c there
    c_runs = let r = runs c in_c front (timed ∷ (early ++ late)) refl in
        record { server = r.server; runs = r.up.status; faults = r.up.quiet.faults; disk = r.up.quiet.calls }

    read : VoteReadsAsSaid x
    read = reads asks.offer c_runs sends asks.what

    -- the request says the term
    said_term : (vote_asked_by x read.request m).term ≡ term
    said_term = ap (λ (r : Request). r.term) (sym (one_request x (vote_request c (there.rows + 1) s.after.raft_server.store m)
        (handled.vote_request_of read.request x.step x.by x.offer.to) asks.says read.said
        ∙ ap (λ (k : ℕ). handled.vote_request_of read.request x.step x.by k) asks.to)) ∙ s.its_term

    -- it comes in time
    abbrev plain : Offer
    plain = record asks.offer { what = VoteQ; to = m }

    same_offer : asks.offer ≡ plain
    same_offer = λ i. record asks.offer { what = asks.what i; to = asks.to i }

    by : ComesBy m x (timed.at + 2 * pace.delay) there (timed ∷ (early ++ late))
    by = subst (λ (o : Offer). ComesBy m (sent_by c there o) (timed.at + 2 * pace.delay) there (timed ∷ (early ++ late))) (sym same_offer)
        (counted group clocks pace start c m front (early ++ late) timed plain listed running in_c in_m (λ e. other (sym e)) quick (λ e. absurd (cc e))
        (λ e. absurd (cc e), refl) can.calls can.first_call calm can.its_memory (subst (λ (o : Offer). Sends c there timed.row o) same_offer sends) long)

    -- ---- in the row in which it comes

    abbrev here : Cluster
    here = after_rows there (rows_in by.front)

    here_is : after_rows w0 (rows_in (front ++ by.front)) ≡ here
    here_is = world_both w0 front by.front

    cut_by : whole ≡ (front ++ by.front) ++ by.timed ∷ by.rest
    cut_by = ap (λ (l : List Timed). front ++ l) by.split ∙ sym (append_assoc front by.front (by.timed ∷ by.rest))

    m_runs : RunsWith (IsNode m) (here.member m)
    m_runs = subst (λ (w : Cluster). RunsWith (IsNode m) (w.member m)) here_is (runs m in_m (front ++ by.front) (by.timed ∷ by.rest) cut_by)

    lists_here : Lists m c here
    lists_here = subst (Lists m c) here_is
        (stay group clocks pace (no_traffic start) m c (front ++ by.front) (by.timed ∷ by.rest) w0 (running m in_m) (calm_cut (front ++ by.front) (by.timed ∷ by.rest) cut_by) can.hears_it)

    me : by.delivers.server.me ≡ m
    me = ap (λ (t : AllocatorState). t.me) (same_server by.delivers.server m_runs.server (sym by.delivers.runs ∙ m_runs.up.status)) ∙ m_runs.holds

    answers : AnswersVote m x read.request here by.timed.row by.delivers
    answers = answered m x read.request here by.timed.row by.delivers me asks.what read.read (lists_here by.delivers.server by.delivers.runs)

    abbrev after : AllocatorState
    after = (step by.delivers.server (here.rows + 1) (receipt_of here by.delivers.k by.delivers.ms)).step_state.allocator

    after_up : ((after_row here by.timed.row).member m).status ≡ Up after
    after_up = (stepped_up here m by.delivers.server (record { status = by.delivers.runs; quiet = m_runs.up.quiet }) by.timed.row
        (receipt_of here by.delivers.k by.delivers.ms) (ap (λ (r : Row). step_of here r) by.delivers.comes)).status

    low : term ≤ after.raft_server.store.term
    low = let k = answers.leaves.term in let l = said_term in omega (arith, k, l)

    -- ---- and from then on

    abbrev heard : List Timed
    heard = (front ++ by.front) ++ by.timed ∷ []

    heard_up : ((after_rows w0 (rows_in heard)).member m).status ≡ Up after
    heard_up = ap (λ (w : Cluster). (w.member m).status) (world_both w0 (front ++ by.front) (by.timed ∷ []) ∙ ap (λ (w : Cluster). after_row w by.timed.row) here_is) ∙ after_up

    pub another : (t : AllocatorState) → ((after_rows then_w (rows_in early)).member m).status ≡ Up t → term ≤ t.raft_server.store.term
    another t up = elim (part_of (timed ∷ early) late by.front by.rest by.timed by.split) [
      | inl p ↦
          let cut : whole ≡ heard ++ (p.0 ++ late) = cut_by ∙ (ap (λ (l : List Timed). (front ++ by.front) ++ by.timed ∷ l) p.2
          ∙ sym (append_assoc (front ++ by.front) (by.timed ∷ []) (p.0 ++ late))) in
          let same : heard ++ p.0 ≡ front ++ timed ∷ early = append_assoc (front ++ by.front) (by.timed ∷ []) p.0
          ∙ (append_assoc front by.front (by.timed ∷ p.0) ∙ ap (λ (l : List Timed). front ++ l) (sym p.1)) in
          let k = rises m in_m heard p.0 late cut after t heard_up
          (ap (λ (l : List Timed). ((after_rows w0 (rows_in l)).member m).status) same ∙ (ap (λ (w : Cluster). (w.member m).status) world_end ∙ up)) in
          let l = low in omega (arith, k, l)
      | inr p ↦
          let k = later by.timed (subst (λ (l : List Timed). In by.timed l) (sym p.1) (in_middle p.0 by.rest by.timed)) in
          let q = by.soon in absurd (omega (arith, k, q))
    ]

  -- ---- each

  pub is_heard : 2 * pace.delay ≤ transfer_timeout → (m ≢ c → CanAsk c m (world_of ids rows) (front ++ timed ∷ (early ++ late)))
      → VoteRequestsFit c (world_of ids rows) (front ++ timed ∷ (early ++ late))
      → IsAsStanding c term (after_rows (world_of ids rows) (rows_in front)) timed.row s
      → ((offer : Offer) → IsRunning c (after_rows (world_of ids rows) (rows_in front)) → Sends c (after_rows (world_of ids rows) (rows_in front)) timed.row offer
      → offer.what ≡ VoteQ → VoteReadsAsSaid (sent_by c (after_rows (world_of ids rows) (rows_in front)) offer))
      → (t : AllocatorState) → ((after_rows (after_row (after_rows (world_of ids rows) (rows_in front)) timed.row) (rows_in early)).member m).status ≡ Up t
      → term ≤ t.raft_server.store.term
  is_heard quick can fit standing reads t up = elim (eqb_tells m c) [
    | inl z ↦ its_own t (ap (λ (k : ℕ). ((after_rows then_w (rows_in early)).member k).status) (sym z.1) ∙ up)
    | inr z ↦ another z.1 quick (can z.1) fit standing reads t up
  ]
