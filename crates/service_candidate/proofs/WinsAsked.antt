-- Each other member of the group is asked for its vote, hears the request and answers it, and c takes the answer.
use Rattle.std.proofs.Common.{◌≡◌, ◌≢◌, ℕ, ◌+◌, ◌*◌, ◌<◌, ◌≤◌, arith, true, List, [], ◌∷◌, ◌++◌, max, drop, refl, sym, ◌∙◌, ap, subst, Some}
use Rattle.std.specs.Prelude.{slice_index_or}
use Rattle.std.proofs.lemmas.List.{append_assoc}
use Rattle.dsdl_codec.specs.VoteAnswer.{vote_answer_of}
use Rattle.raft_core.specs.Handled as handled
use Rattle.raft_model.specs.Lists.{In}
use Rattle.raft_model.specs.Messages.{Answer, Message, Request}
use Rattle.raft_model.specs.Moves.Leading.{vote_request}
use Rattle.bus_rows.specs.declared.row.Row.{Row}
use Rattle.bus_rows.specs.declared.row.Row.TheVariants.{Rx, Tick}
use Rattle.alloc_spec.specs.AllocatorState.{AllocatorState, members_of}
use Rattle.alloc_spec.specs.Step.{step}
use Rattle.alloc_spec.specs.Transfers.{SentTransfer}
use Rattle.bus_rows.specs.Timed.{Timed, rows_in}
use Rattle.service_alone.specs.Calm.{end_of}
use Rattle.service_candidate.specs.Votes.{AnswersVote, AsksFor, CanAsk, TakesVote, VoteComes, VoteReadsAsSaid, WaitsForVote, vote_asked_by, vote_by}
use Rattle.service_candidate.specs.VotesAlone.{VoteComesAlone}
use Rattle.service_candidate.proofs.VotesAsked.{vote_sent}
use Rattle.service_candidate.proofs.WinsFronts.{from_row_to_row, here_more, votes_fit_at}
use Rattle.service_candidate.proofs.WinsScene.{Scene, by_end, c_listed, calm_upto, clock_at, clock_next, cut, end_before, from_at, harm_row, here, laws_at, last, row_calm, runs_at, there, v, w0, world_upto}
use Rattle.service_candidate.proofs.WinsStays.{began, began_high, began_low, c_stands_not, end_soon_at, in_middle, standing}
use Rattle.service_leader.specs.CallsComeBack.{HasPlace, LeadsNotIfUp}
use Rattle.service_leader.proofs.Stretches.{throughout_at, world_both}
use Rattle.service_calm.specs.Calm.{IsCalmRow, IsRunning, Member as OfMember, no_traffic}
use Rattle.service_calm.specs.Comes.{ComesBy, Delivers, Sends, Throughout, sent_by}
use Rattle.service_calm.proofs.Pair.{same_server}
use Rattle.bus_spec.specs.Cluster.{Cluster, after_row, after_rows, receipt_of, step_of, tick_of}
use Rattle.bus_spec.specs.Members.MemberStatus.{Up}

no_receipt : (n ms word m k moment : ℕ) (row : Row) → row ≡ Tick n ms word → row ≡ Rx m k moment → ⊥
no_receipt n ms word m k moment row e f = cc (sym e ∙ f)

pub one_request : (x : SentTransfer) (a b : Request) → x.offer.says ≡ Some (Message.Requests a) → x.offer.says ≡ Some (Message.Requests b) → a ≡ b
one_request x a b e f = cc (sym e ∙ f)

one_answer : (x : SentTransfer) (a b : Answer) → x.offer.says ≡ Some (Message.Answers a) → x.offer.says ≡ Some (Message.Answers b) → a ≡ b
one_answer x a b e f = cc (sym e ∙ f)

module _ (s : Scene) (m : ℕ) (i : In (OfMember m) s.group) (other : m ≢ s.c) where
  -- ---- the request

  abbrev can : CanAsk s.c m (w0 s) (s.front ++ s.timed ∷ s.rest)
  can = s.calm.can m i other

  pub its_list : In m (members_of s.calm.stands.after)
  its_list = s.stay s.group s.clocks s.pace (no_traffic s.start) s.c m (s.front ++ s.timed ∷ []) s.rest (w0 s) (s.calm.running s.c s.calm.member) (calm_upto s [] s.rest refl)
      can.asks_it s.calm.stands.after (ap (λ (w : Cluster). (w.member s.c).status) (world_upto s []) ∙ s.calm.stands.runs_then)

  abbrev asks : AsksFor s.c m s.term (there s) s.timed.row s.calm.stands
  asks = (standing s).asks m its_list other

  -- what c asks in the Raft model
  abbrev pub asked : Request
  asked = vote_request s.c ((there s).rows + 1) s.calm.stands.after.raft_server.store m

  in_step : step_of (there s) s.timed.row ≡ Some (s.c, tick_of s.calm.stands.ms s.calm.stands.word)
  in_step = ap (λ (r : Row). step_of (there s) r) s.calm.stands.reads

  pub fits : asks.offer.fitted ≡ true
  fits = votes_fit_at s.c s.front s.rest s.timed (w0 s) s.calm.fit m (record {
    server = s.calm.stands.before;
    runs = s.calm.stands.runs;
    event = tick_of s.calm.stands.ms s.calm.stands.word;
    in_step = in_step;
    offer = asks.offer;
    offered = asks.offered;
    what = asks.what;
    to = asks.to;
  })

  sends : Sends s.c (there s) s.timed.row asks.offer
  sends = record {
    server = s.calm.stands.before;
    runs = s.calm.stands.runs;
    event = tick_of s.calm.stands.ms s.calm.stands.word;
    in_step = in_step;
    offered = asks.offered;
    fitted = fits;
  }

  -- the request that m hears
  abbrev pub x : SentTransfer
  x = sent_by s.c (there s) asks.offer

  pub whole_back : (read : VoteReadsAsSaid x) × VoteComesAlone s.c m x read.request s.timed.at s.pace.delay (there s) (s.timed ∷ s.rest)
  whole_back = s.laws.alone s.group s.clocks s.pace s.start s.c m s.term s.front s.rest s.timed asks.offer s.calm i other sends asks.what asks.to

  abbrev pub read : VoteReadsAsSaid x
  read = whole_back.0

  -- it is what c asks
  pub asked_is : asked ≡ vote_asked_by x read.request m
  asked_is = one_request x asked (handled.vote_request_of read.request x.step x.by x.offer.to) asks.says read.said
      ∙ ap (λ (k : ℕ). handled.vote_request_of read.request x.step x.by k) asks.to

  -- ---- how it comes back

  -- In the row `hears`, behind the rows `early`, m hears the request and answers, and in the row `ends` the answer comes to c, and
  -- no other one before.
  pub record ComesBack : Type 0 where
    pub early : List Timed
    pub hears : Timed
    pub late : List Timed
    pub split : s.rest ≡ early ++ hears ∷ late
    pub soon : hears.at ≤ s.timed.at + 2 * s.pace.delay
    pub delivers : Delivers m x (here s early) hears.row
    pub answers : AnswersVote m x read.request (here s early) hears.row delivers
    pub between : List Timed
    pub ends : Timed
    pub more : List Timed
    pub split_late : late ≡ between ++ ends ∷ more
    pub in_time : ends.at ≤ last s
    pub comes : Delivers s.c (sent_by m (here s early) answers.offer) (after_rows (after_row (here s early) hears.row) (rows_in between)) ends.row
    pub alone : (a b : List Timed) (one : Timed) → early ++ hears ∷ between ≡ a ++ one ∷ b → VoteComes s.c m x.offer.id (here s a) one.row → ⊥

  abbrev first_of : List Timed → Timed
  first_of l = slice_index_or l 0 s.timed

  build : (front : List Timed) (hears : Timed) (late : List Timed) → s.timed ∷ s.rest ≡ front ++ hears ∷ late → hears.at ≤ s.timed.at + 2 * s.pace.delay
      → (delivers : Delivers m x (after_rows (there s) (rows_in front)) hears.row)
      → (answers : AnswersVote m x read.request (after_rows (there s) (rows_in front)) hears.row delivers)
      → (comes : ComesBy s.c (sent_by m (after_rows (there s) (rows_in front)) answers.offer) (last s) (after_row (after_rows (there s) (rows_in front)) hears.row) late)
      → ((a b : List Timed) (one : Timed) → front ++ hears ∷ comes.front ≡ a ++ one ∷ b → VoteComes s.c m x.offer.id (after_rows (there s) (rows_in a)) one.row → ⊥)
      → ComesBack
  build [] hears late e soon delivers answers comes alone =
      absurd (no_receipt s.c s.calm.stands.ms s.calm.stands.word m delivers.k delivers.ms s.timed.row s.calm.stands.reads
      (ap (λ (l : List Timed). (first_of l).row) e ∙ delivers.comes))
  build (y ∷ early) hears late e soon delivers answers comes alone =
      subst (λ (z : Timed). (d : Delivers m x (after_rows (there s) (rows_in (z ∷ early))) hears.row)
      → (q : AnswersVote m x read.request (after_rows (there s) (rows_in (z ∷ early))) hears.row d)
      → (by : ComesBy s.c (sent_by m (after_rows (there s) (rows_in (z ∷ early))) q.offer) (last s) (after_row (after_rows (there s) (rows_in (z ∷ early))) hears.row) late)
      → ((a b : List Timed) (one : Timed) → (z ∷ early) ++ hears ∷ by.front ≡ a ++ one ∷ b → VoteComes s.c m x.offer.id (after_rows (there s) (rows_in a)) one.row → ⊥)
      → ComesBack) (ap first_of e)
      (λ d q by none. record {
        early = early;
        hears = hears;
        late = late;
        split = ap (λ (l : List Timed). drop 1 l) e;
        soon = soon;
        delivers = d;
        answers = q;
        between = by.front;
        ends = by.timed;
        more = by.rest;
        split_late = by.split;
        in_time = by.soon;
        comes = by.delivers;
        alone = λ a b one same. none (s.timed ∷ a) b one (ap (λ (l : List Timed). s.timed ∷ l) same);
      }) delivers answers comes alone

  pub comes_back : ComesBack
  comes_back = let z = whole_back.1 in
      build z.back.front z.back.timed z.back.rest z.back.split z.back.soon z.back.delivers z.back.answers z.back.comes z.alone

  -- ---- the answer

  abbrev pub b : ComesBack
  b = comes_back

  -- the answer that comes to c
  abbrev pub y : SentTransfer
  y = sent_by m (here s comes_back.early) comes_back.answers.offer

  -- what it says in the Raft model
  abbrev pub given : Answer
  given = vote_by ((here s comes_back.early).rows + 1) comes_back.delivers.server (vote_asked_by x read.request m)

  running : IsRunning m (here s comes_back.early)
  running = let r = runs_at s m i comes_back.early (comes_back.hears ∷ comes_back.late) comes_back.split in
      record { server = r.server; runs = r.up.status; faults = r.up.quiet.faults; disk = r.up.quiet.calls }

  has_place : HasPlace m (here s comes_back.early)
  has_place = subst (HasPlace m) (world_upto s comes_back.early)
      (throughout_at (HasPlace m) (s.front ++ s.timed ∷ comes_back.early) comes_back.late comes_back.hears (w0 s)
      (subst (Throughout (HasPlace m) (w0 s)) (cut s comes_back.early (comes_back.hears ∷ comes_back.late) comes_back.split) can.place))

  answer_sent : Sends m (here s comes_back.early) comes_back.hears.row comes_back.answers.offer
  answer_sent = vote_sent m x read.request (here s comes_back.early) comes_back.hears.row comes_back.delivers comes_back.answers has_place

  reads : vote_answer_of y.offer.payload ≡ Some (record { term = given.term; granted = given.success })
  reads =
      let said = (laws_at s comes_back.early (comes_back.hears ∷ comes_back.late) comes_back.split).answers_read m comes_back.hears.row comes_back.answers.offer
      (harm_row s comes_back.early comes_back.late comes_back.hears comes_back.split) running answer_sent comes_back.answers.what in
      let same = one_answer y said.answer given said.said comes_back.answers.says in
      said.read ∙ (λ j. Some (record { term = (same j).term; granted = (same j).success }))

  -- ---- c waits for it

  -- the rows before the one in which the answer comes
  abbrev pub until : List Timed
  until = comes_back.early ++ comes_back.hears ∷ comes_back.between

  pub until_split : s.rest ≡ until ++ comes_back.ends ∷ comes_back.more
  until_split = comes_back.split ∙ (ap (λ (l : List Timed). comes_back.early ++ comes_back.hears ∷ l) comes_back.split_late
      ∙ sym (append_assoc comes_back.early (comes_back.hears ∷ comes_back.between) (comes_back.ends ∷ comes_back.more)))

  pub comes_then : Delivers s.c y (here s until) comes_back.ends.row
  comes_then = subst (λ (w : Cluster). Delivers s.c y w comes_back.ends.row) (sym (world_both (v s) comes_back.early (comes_back.hears ∷ comes_back.between))) comes_back.comes

  abbrev Waits : AllocatorState → Type 0
  Waits = WaitsForVote m asks.offer.id (began s) asked

  waits_first : Waits s.calm.stands.after
  waits_first = asks.waits fits

  waits_more : ((front more : List Timed) → until ≡ front ++ more → LeadsNotIfUp s.c (here s front)) → (front more : List Timed) (one : Timed) → until ≡ front ++ one ∷ more
      → ((t : AllocatorState) → ((here s front).member s.c).status ≡ Up t → Waits t)
      → (u : AllocatorState) → ((after_row (here s front) one.row).member s.c).status ≡ Up u → Waits u
  waits_more follows front more one same before u up_then =
      (laws_at s front (one ∷ behind) whole_cut).waits_on s.c m asks.offer.id (began s) asked one.row t u (c_listed s) (harm_row s front behind one whole_cut) up up_then (before t up)
      (began_high s u.now (clock_next s s.c s.calm.member s.calm.stands.after s.calm.stands.runs_then front behind one whole_cut soon u up_then).1)
      (c_stands_not s front behind one whole_cut soon)
      (follows (front ++ one ∷ []) more (same ∙ sym (append_assoc front (one ∷ []) more)) u (ap (λ (w : Cluster). (w.member s.c).status) (here_more (v s) front one) ∙ up_then))
      (comes_back.alone front more one same)
    where
      behind : List Timed
      behind = more ++ comes_back.ends ∷ comes_back.more

      whole_cut : s.rest ≡ front ++ one ∷ behind
      whole_cut = until_split ∙ (ap (λ (l : List Timed). l ++ comes_back.ends ∷ comes_back.more) same ∙ append_assoc front (one ∷ more) (comes_back.ends ∷ comes_back.more))

      soon : one.at ≤ last s
      soon =
          let k = (by_end s until (comes_back.ends ∷ comes_back.more) until_split one (subst (In one) (sym same) (in_middle front more one))).1 in
          let l = end_before s until comes_back.more comes_back.ends until_split in
          let q = comes_back.in_time in omega (arith, k, l, q)

      t : AllocatorState
      t = (runs_at s s.c s.calm.member front (one ∷ behind) whole_cut).server

      up : ((here s front).member s.c).status ≡ Up t
      up = (runs_at s s.c s.calm.member front (one ∷ behind) whole_cut).up.status

  -- where it does not lead by then, c waits for the answer
  pub waits_until : ((front more : List Timed) → until ≡ front ++ more → LeadsNotIfUp s.c (here s front))
      → (t : AllocatorState) → ((here s until).member s.c).status ≡ Up t → Waits t
  waits_until follows = from_row_to_row (v s) (λ (done : List Timed) (w : Cluster). (t : AllocatorState) → (w.member s.c).status ≡ Up t → Waits t) until (waits_more follows)
      (λ t up. subst Waits (same_server s.calm.stands.after t (sym s.calm.stands.runs_then ∙ up)) waits_first)

  -- ---- and takes it

  end_then : end_of s.timed.at until ≤ last s
  end_then = end_soon_at s until comes_back.more comes_back.ends until_split comes_back.in_time

  in_time : max comes_then.server.now comes_then.ms < began s + 1000
  in_time =
      let clock = (clock_at s s.c s.calm.member s.calm.stands.after s.calm.stands.runs_then until (comes_back.ends ∷ comes_back.more) until_split end_then comes_then.server comes_then.runs).1 in
      let high = began_high s comes_then.server.now clock in
      let ms = (subst (λ (r : Row). IsCalmRow s.group s.clocks s.pace (from_at s until (comes_back.ends ∷ comes_back.more) until_split).traffic (here s until) comes_back.ends.at r)
      comes_then.comes (row_calm s until comes_back.more comes_back.ends until_split)).1 in
      let low = began_low s in
      let quick = s.calm.quick in
      let soon = comes_back.in_time in
      omega (arith, high, ms, low, quick, soon)

  pub takes : ((front more : List Timed) → until ≡ front ++ more → LeadsNotIfUp s.c (here s front))
      → TakesVote (handled.answer_of y.step m asked given.term given.success) comes_then.server
      (step comes_then.server ((here s until).rows + 1) (receipt_of (here s until) comes_then.k comes_then.ms)).step_state.allocator
  takes follows = s.taken s.c (began s) y asked (record { term = given.term; granted = given.success }) (here s until) comes_back.ends.row comes_then
      ((laws_at s until (comes_back.ends ∷ comes_back.more) until_split).me s.c comes_then.server (c_listed s) comes_then.runs) comes_back.answers.what reads
      (subst (λ (k : ℕ). WaitsForVote m k (began s) asked comes_then.server) (sym comes_back.answers.id) (waits_until follows comes_then.server comes_then.runs)) in_time
