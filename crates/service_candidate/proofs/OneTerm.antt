-- Where all members have stored one term when a calm begins, each that stands in it stands above all terms.
use Rattle.std.proofs.Common.{◌≡◌, ◌≢◌, ℕ, ◌+◌, ◌*◌, ◌<◌, ◌≤◌, arith, List, [], ◌∷◌, ◌++◌, length, refl, sym, ◌∙◌, ap, subst, inl, inr, append_assoc, append-nil, Some}
use Rattle.std.specs.Prelude.{◌⊎◌, slice_index_or}
use Rattle.std.proofs.lemmas.Bool.Decides.{eqb_tells}
use Rattle.can_frame.specs.Timing.{call_timeout, transfer_timeout}
use Rattle.raft_model.specs.Lists.{In}
use Rattle.raft_model.specs.Messages.{Request}
use Rattle.bus_rows.specs.declared.row.Row.{Row}
use Rattle.alloc_spec.specs.AllocatorState.{AllocatorState, members_of}
use Rattle.alloc_spec.specs.Step.{Event, step}
use Rattle.bus_agreement.proofs.Concatenations.{first_harmless, row_harmless}
use Rattle.bus_rows.specs.Timed.{Timed, rows_in}
use Rattle.service_alone.specs.Calm.{Pace, end_of}
use Rattle.service_alone.proofs.Goes.{after_both}
use Rattle.service_alone.proofs.Members.{IsQuiet, IsUp}
use Rattle.service_calm.specs.Calls.{Lists, ListsStay}
use Rattle.service_calm.specs.Calm.{AreCalm, AreRunning, Member as OfMember, Party, no_traffic}
use Rattle.service_calm.specs.Comes.{Sends, sent_by}
use Rattle.service_calm.proofs.Calls.{Always}
use Rattle.service_calm.proofs.CallsKept.{GoesOn, RunsWith, further}
use Rattle.service_leader.proofs.EntriesParts.{IsFirst, in_either}
use Rattle.service_leader.proofs.RowsOfOne.{stepped_up}
use Rattle.service_leader.proofs.Stretches.{GoesOnFrom, calm_rest, end_both, end_last, rows_both, world_both}
use Rattle.service_candidate.specs.Elections.{IsCalmRestart}
use Rattle.service_candidate.specs.Terms.{AreWithin, NobodyStandsAbove, TermsDoNotFall, TermsStay}
use Rattle.service_candidate.specs.Votes.{AsksFor, CanAsk, IsAsStanding, Stands, StandingAsks, VoteComesBack, VoteReadsAsSaid, VotesComeBack}
use Rattle.service_candidate.specs.Wins.{VoteRequestsFit}
use Rattle.service_candidate.proofs.ElectionsEnd.{all_run, can_ask, opened}
use Rattle.service_candidate.proofs.Furthest.{one_more}
use Rattle.service_candidate.proofs.Unled.{ends_before}
use Rattle.bus_spec.specs.Cluster.{Cluster, after_row, after_rows, cluster, receipt_of, step_of, tick_of, world_of}
use Rattle.bus_spec.specs.Lawful.{DoNoHarm, DoesNoHarm}
use Rattle.bus_spec.specs.Members.MemberStatus.{Up}
use Rattle.service_candidate.proofs.OneStands.{AllRun, IsOfSize, decide, fit_at, one_stands, same_request, size_stays}

-- who calls quickly enough has transfers remembered for as long as they take
quick_enough : (delay : ℕ) → 4 * delay < call_timeout → 2 * delay ≤ transfer_timeout
quick_enough delay quick = omega (arith, quick)

module _ (ids : List ℕ) (rows : List Row) (group : List Party) (clocks : Party → ℕ) (pace : Pace) (start : ℕ) (whole : List Timed)
    (r : IsCalmRestart ids rows group clocks pace start whole)
    (keeps_size : (t : AllocatorState) (number : ℕ) (event : Event) → (step t number event).step_state.allocator.size ≡ t.size)
    (terms_stay : TermsStay ids rows) (terms_rise : TermsDoNotFall ids rows) (asks : (more : List Row) → DoNoHarm (world_of ids rows) more → StandingAsks ids (rows ++ more))
    (come_back : VotesComeBack ids rows) (lists_stay : ListsStay)
    (lists : (n m : ℕ) → In (OfMember n) group → In (OfMember m) group → Lists n m (world_of ids rows)) (last : ℕ) (long : last + 4 * pace.delay < end_of start whole) where
  abbrev w : Cluster
  w = world_of ids rows

  abbrev its : (m : ℕ) → In (OfMember m) group → AllocatorState
  its m i = opened ids rows group clocks pace start whole r m i

  abbrev running : AreRunning group (world_of ids rows)
  running = all_run ids rows group clocks pace start whole r

  module _ (front rest : List Timed) (cut : whole ≡ front ++ rest) where
    calm_at : AreCalm group clocks pace (no_traffic start) (world_of ids rows) (front ++ rest)
    calm_at = subst (AreCalm group clocks pace (no_traffic start) (world_of ids rows)) cut r.calm

    harmless_at : DoNoHarm (world_of ids rows) (rows_in front)
    harmless_at = first_harmless (world_of ids rows) (rows_in front) (rows_in rest)
        (subst (DoNoHarm (world_of ids rows)) (ap rows_in cut ∙ rows_both front rest) r.harmless)

    -- each member runs
    runs_at : (p : ℕ) → In (OfMember p) group → RunsWith (IsOfSize (length ids)) ((after_rows (world_of ids rows) (rows_in front)).member p)
    runs_at p i = later.runs
      where
        later : GoesOn Always (IsOfSize (length ids)) (size_stays keeps_size (length ids)) group clocks pace p (after_rows (world_of ids rows) (rows_in front)) rest
        later = further Always (IsOfSize (length ids)) (size_stays keeps_size (length ids)) group clocks pace p front rest (world_of ids rows) (λ timed j. tt)
            (record {
              traffic = no_traffic start;
              calm = calm_at;
              runs = record {
                server = its p i;
                up = record { status = (r.opened p i).runs; quiet = record { faults = (r.opened p i).faults; calls = (r.opened p i).disk } };
                holds = refl;
              };
            })

  -- no term is above this one behind these rows; and each is this one or higher, or the last that stood in them stood in it
  pub record LastStood (top : ℕ) (front : List Timed) : Type 0 where
    pub first : List Timed
    pub timed : Timed
    pub more : List Timed
    pub split : front ≡ first ++ timed ∷ more
    pub n : ℕ
    pub member : In (OfMember n) group
    pub stands : Stands n top (after_rows (world_of ids rows) (rows_in first)) timed.row

  abbrev AreFrom : ℕ → Cluster → Type 0
  AreFrom top v = (m : ℕ) → In (OfMember m) group → (server : AllocatorState) → (v.member m).status ≡ Up server → top ≤ server.raft_server.store.term

  pub record IsSettled (front : List Timed) : Type 0 where
    pub top : ℕ
    pub within : AreWithin group top (after_rows (world_of ids rows) (rows_in front))
    pub floor : AreFrom top (after_rows (world_of ids rows) (rows_in front)) ⊎ LastStood top front

  -- ---- who stood is heard before another one stands

  module _ (first more rest : List Timed) (one timed : Timed) (cut : whole ≡ (first ++ one ∷ more) ++ timed ∷ rest) (soon : timed.at ≤ last) (n m top : ℕ)
      (i : In (OfMember n) group) (j : In (OfMember m) group) (differs : n ≢ m)
      (s : Stands n top (after_rows (world_of ids rows) (rows_in first)) one.row) (gap : one.at + 4 * pace.delay < timed.at) where
    abbrev v : Cluster
    v = after_rows (world_of ids rows) (rows_in first)

    cut_one : whole ≡ first ++ one ∷ (more ++ timed ∷ rest)
    cut_one = cut ∙ append_assoc first (one ∷ more) (timed ∷ rest)

    harm_one : DoesNoHarm (after_rows (world_of ids rows) (rows_in first)) one.row
    harm_one = row_harmless (world_of ids rows) (rows_in first) (rows_in (more ++ timed ∷ rest)) one.row
        (subst (DoNoHarm (world_of ids rows)) (ap rows_in cut_one ∙ rows_both first (one ∷ (more ++ timed ∷ rest))) r.harmless)

    listed_then : In m (members_of s.after)
    listed_then = lists_stay group clocks pace (no_traffic start) n m (first ++ one ∷ []) (more ++ timed ∷ rest) (world_of ids rows) (running n i)
        (calm_at (first ++ one ∷ []) (more ++ timed ∷ rest) (cut_one ∙ one_more first (more ++ timed ∷ rest) one)) (lists n m i j) s.after
        (ap (λ (u : Cluster). (u.member n).status) (world_both (world_of ids rows) first (one ∷ [])) ∙ s.runs_then)

    abbrev asked : AsksFor n m top (after_rows (world_of ids rows) (rows_in first)) one.row s
    asked = (subst (λ (u : Cluster). (k t : ℕ) (row : Row) → In k ids → DoesNoHarm u row → (x : Stands k t u row) → IsAsStanding k t u row x)
        (after_both (cluster ids) rows (rows_in first)) (asks (rows_in first) (harmless_at first (one ∷ (more ++ timed ∷ rest)) cut_one))
        n top one.row (r.listed n i) harm_one s).asks m listed_then (λ e. differs (sym e))

    in_step : step_of (after_rows (world_of ids rows) (rows_in first)) one.row ≡ Some (n, tick_of s.ms s.word)
    in_step = ap (λ (row : Row). step_of (after_rows (world_of ids rows) (rows_in first)) row) s.reads

    sends : Sends n (after_rows (world_of ids rows) (rows_in first)) one.row asked.offer
    sends = record {
      server = s.before;
      runs = s.runs;
      event = tick_of s.ms s.word;
      in_step = in_step;
      offered = asked.offered;
      fitted = fit_at n first (more ++ timed ∷ rest) one (world_of ids rows) (subst (VoteRequestsFit n (world_of ids rows)) cut_one (r.fit n i)) m (record {
        server = s.before;
        runs = s.runs;
        event = tick_of s.ms s.word;
        in_step = in_step;
        offer = asked.offer;
        offered = asked.offered;
        what = asked.what;
        to = asked.to;
      });
    }

    long_enough : one.at + 4 * pace.delay < end_of one.at (more ++ timed ∷ rest)
    long_enough =
        let e : end_of start whole ≡ end_of one.at (more ++ timed ∷ rest) = ap (end_of start) cut_one ∙ end_both start first (one ∷ (more ++ timed ∷ rest)) in
        omega (arith, e, gap, soon, long)

    back : (read : VoteReadsAsSaid (sent_by n (after_rows (world_of ids rows) (rows_in first)) asked.offer))
        × VoteComesBack n m (sent_by n (after_rows (world_of ids rows) (rows_in first)) asked.offer) read.request one.at pace.delay
        (after_rows (world_of ids rows) (rows_in first)) (one ∷ (more ++ timed ∷ rest))
    back = come_back group clocks pace start n m first (more ++ timed ∷ rest) one asked.offer r.listed running i j differs (quick_enough pace.delay r.quick)
        (subst (CanAsk n m (world_of ids rows)) cut_one (can_ask ids rows group clocks pace start whole r lists n m i j))
        (calm_at first (one ∷ (more ++ timed ∷ rest)) cut_one)
        (subst (λ (l : List Timed). DoNoHarm (world_of ids rows) (rows_in l)) cut_one r.harmless) sends asked.what asked.to long_enough

    -- the request says the term
    its_term : back.0.request.term ≡ top
    its_term = ap (λ (q : Request). q.term) (same_request _ _ (sym back.0.said ∙ asked.says)) ∙ s.its_term

    -- it is delivered before the other one stands
    abbrev comes : VoteComesBack n m (sent_by n (after_rows (world_of ids rows) (rows_in first)) asked.offer) back.0.request one.at pace.delay
        (after_rows (world_of ids rows) (rows_in first)) (one ∷ (more ++ timed ∷ rest))
    comes = back.1

    in_time : IsFirst (one ∷ more) (timed ∷ rest) comes.front comes.rest comes.timed
    in_time = elim (in_either (one ∷ more) (timed ∷ rest) comes.front comes.rest comes.timed comes.split) [
      | inl before ↦ before
      | inr behind ↦ absurd (late behind.tail behind.rest)
    ]
      where
        late : (tail : List Timed) → timed ∷ rest ≡ tail ++ comes.timed ∷ comes.rest → ⊥
        late [] e = let same : timed.at ≡ comes.timed.at = ap (λ (l : List Timed). (slice_index_or l 0 timed).at) e in
            let early = comes.soon in omega (arith, same, early, gap)
        late (y ∷ tail) e =
            let h = ends_before group clocks pace start (world_of ids rows) ((first ++ one ∷ more) ++ y ∷ []) tail comes.rest comes.timed
            (subst (AreCalm group clocks pace (no_traffic start) (world_of ids rows)) (cut ∙ (ap (λ (l : List Timed). (first ++ one ∷ more) ++ l) e
            ∙ (sym (append_assoc (first ++ one ∷ more) (y ∷ []) (tail ++ comes.timed ∷ comes.rest))
            ∙ sym (append_assoc ((first ++ one ∷ more) ++ y ∷ []) tail (comes.timed ∷ comes.rest))))) r.calm) in
            let k = end_last start (first ++ one ∷ more) y in
            let same : timed.at ≡ y.at = ap (λ (l : List Timed). (slice_index_or l 0 timed).at) e in
            let early = comes.soon in
            omega (arith, h, k, same, early, gap)

    -- so its term is as high by then
    pub heard : (server : AllocatorState) → ((after_rows (world_of ids rows) (rows_in (first ++ one ∷ more))).member m).status ≡ Up server
        → top ≤ server.raft_server.store.term
    heard server up =
        let a = terms_rise group clocks pace start m upto in_time.tail (timed ∷ rest) took server running
        (subst (AreCalm group clocks pace (no_traffic start) (world_of ids rows)) cut_all r.calm) j up_took (subst (λ (l : List Timed). ((after_rows (world_of ids rows) (rows_in l)).member m).status ≡ Up server) cut_upto up) in
        let b = comes.answers.leaves.term in
        let c = its_term in
        omega (arith, a, b, c)
      where
        upto : List Timed
        upto = (first ++ comes.front) ++ comes.timed ∷ []

        there : Cluster
        there = after_rows (after_rows (world_of ids rows) (rows_in first)) (rows_in comes.front)

        took : AllocatorState
        took = (step comes.delivers.server (there.rows + 1) (receipt_of there comes.delivers.k comes.delivers.ms)).step_state.allocator

        cut_upto : first ++ one ∷ more ≡ ((first ++ comes.front) ++ comes.timed ∷ []) ++ in_time.tail
        cut_upto = ap (λ (l : List Timed). first ++ l) in_time.split
            ∙ (sym (append_assoc first comes.front (comes.timed ∷ in_time.tail)) ∙ one_more (first ++ comes.front) in_time.tail comes.timed)

        cut_all : whole ≡ ((first ++ comes.front) ++ comes.timed ∷ []) ++ (in_time.tail ++ timed ∷ rest)
        cut_all = cut ∙ (ap (λ (l : List Timed). l ++ timed ∷ rest) cut_upto ∙ append_assoc ((first ++ comes.front) ++ comes.timed ∷ []) in_time.tail (timed ∷ rest))

        cut_there : whole ≡ (first ++ comes.front) ++ (comes.timed ∷ in_time.tail ++ timed ∷ rest)
        cut_there = cut_all ∙ append_assoc (first ++ comes.front) (comes.timed ∷ []) (in_time.tail ++ timed ∷ rest)

        quiet : IsUp comes.delivers.server ((after_rows (after_rows (world_of ids rows) (rows_in first)) (rows_in comes.front)).member m)
        quiet = record {
          status = comes.delivers.runs;
          quiet = subst (λ (u : Cluster). IsQuiet (u.member m).disk) (world_both (world_of ids rows) first comes.front)
              (runs_at (first ++ comes.front) (comes.timed ∷ in_time.tail ++ timed ∷ rest) cut_there m j).up.quiet;
        }

        up_took : ((after_rows (world_of ids rows) (rows_in ((first ++ comes.front) ++ comes.timed ∷ []))).member m).status ≡ Up took
        up_took = ap (λ (u : Cluster). (u.member m).status) (world_both (world_of ids rows) (first ++ comes.front) (comes.timed ∷ [])
            ∙ ap (λ (u : Cluster). after_row u comes.timed.row) (world_both (world_of ids rows) first comes.front))
            ∙ (stepped_up there m comes.delivers.server quiet comes.timed.row (receipt_of there comes.delivers.k comes.delivers.ms)
            (ap (λ (row : Row). step_of there row) comes.delivers.comes)).status

  -- ---- row by row

  -- who stands behind rows that are settled stands above all terms
  pub stands_above : (front rest : List Timed) (timed : Timed) → whole ≡ front ++ timed ∷ rest → timed.at ≤ last → (settled : IsSettled front) → (m term : ℕ)
      → In (OfMember m) group → (s : Stands m term (after_rows (world_of ids rows) (rows_in front)) timed.row) → settled.top ≤ s.before.raft_server.store.term
  stands_above front rest timed cut soon settled m term j s = elim settled.floor [
    | inl from ↦ from m j s.before s.runs
    | inr one ↦ elim (eqb_tells one.n m) [
      | inl z ↦ again one (subst (λ (k : ℕ). ((after_rows (world_of ids rows) (rows_in front)).member k).status ≡ Up s.before) (sym z.1) s.runs)
      | inr z ↦ heard one.first one.more rest one.timed timed (cut ∙ ap (λ (l : List Timed). l ++ timed ∷ rest) one.split) soon one.n m settled.top one.member j z.1
          one.stands
          (r.apart one.first one.more rest one.timed timed one.n m settled.top term
          (cut ∙ (ap (λ (l : List Timed). l ++ timed ∷ rest) one.split ∙ append_assoc one.first (one.timed ∷ one.more) (timed ∷ rest))) one.member j z.1 one.stands
          (subst (λ (l : List Timed). Stands m term (after_rows (world_of ids rows) (rows_in l)) timed.row) one.split s))
          s.before (subst (λ (l : List Timed). ((after_rows (world_of ids rows) (rows_in l)).member m).status ≡ Up s.before) one.split s.runs)
    ]
  ]
    where
      -- the same one again
      again : (one : LastStood settled.top front) → ((after_rows (world_of ids rows) (rows_in front)).member one.n).status ≡ Up s.before
          → settled.top ≤ s.before.raft_server.store.term
      again one up =
          let split = one.split ∙ one_more one.first one.more one.timed in
          let cut_all = cut ∙ (ap (λ (l : List Timed). l ++ timed ∷ rest) split ∙ append_assoc (one.first ++ one.timed ∷ []) one.more (timed ∷ rest)) in
          let a = terms_rise group clocks pace start one.n (one.first ++ one.timed ∷ []) one.more (timed ∷ rest) one.stands.after s.before running
          (subst (AreCalm group clocks pace (no_traffic start) (world_of ids rows)) cut_all r.calm) one.member
          (ap (λ (u : Cluster). (u.member one.n).status) (world_both (world_of ids rows) one.first (one.timed ∷ [])) ∙ one.stands.runs_then)
          (subst (λ (l : List Timed). ((after_rows (world_of ids rows) (rows_in l)).member one.n).status ≡ Up s.before) split up) in
          let b = one.stands.its_term in
          omega (arith, a, b)

  -- one row more leaves rows settled
  settled_after : (front rest : List Timed) (timed : Timed) → whole ≡ front ++ timed ∷ rest → timed.at ≤ last → IsSettled front → IsSettled (front ++ timed ∷ [])
  settled_after front rest timed cut soon settled = elim (decide keeps_size (length ids) r.others group clocks pace goes.traffic
      (after_rows (world_of ids rows) (rows_in front)) timed.at timed.row goes.calm.1 harm_row (runs_at front (timed ∷ rest) cut) then_run) [
        | inl one ↦
            let h = stands_above front rest timed cut soon settled one.n one.term one.member one.stands in
            record {
              top = one.term;
              within = within_after one.term (λ m i server up. let a = settled.within m i server up in let b = one.stands.next in omega (arith, a, b, h))
                  ((λ n term i s. let e = one_stands one.n n one.term term (after_rows (world_of ids rows) (rows_in front)) timed.row one.stands s in omega (arith, e)), tt);
              floor = inr (record { first = front; timed = timed; more = []; split = refl; n = one.n; member = one.member; stands = one.stands });
            }
        | inr none ↦ record {
          top = settled.top;
          within = within_after settled.top settled.within ((λ n term i s. absurd (none n term i s)), tt);
          floor = elim settled.floor [
            | inl from ↦ inl (λ m i server up.
                let before = runs_at front (timed ∷ rest) cut m i in
                let a = from m i before.server before.up.status in
                let b = terms_rise group clocks pace start m front (timed ∷ []) rest before.server server running calm_so i before.up.status up in
                omega (arith, a, b))
            | inr one ↦ inr (record {
              first = one.first;
              timed = one.timed;
              more = one.more ++ timed ∷ [];
              split = ap (λ (l : List Timed). l ++ timed ∷ []) one.split ∙ append_assoc one.first (one.timed ∷ one.more) (timed ∷ []);
              n = one.n;
              member = one.member;
              stands = one.stands;
            })
          ];
        }
      ]
    where
      calm_so : AreCalm group clocks pace (no_traffic start) (world_of ids rows) (front ++ timed ∷ rest)
      calm_so = calm_at front (timed ∷ rest) cut

      goes : GoesOnFrom group clocks pace (end_of start front) (after_rows (world_of ids rows) (rows_in front)) (timed ∷ rest)
      goes = calm_rest group clocks pace front (timed ∷ rest) start (world_of ids rows)
          (record { traffic = no_traffic start; calm = calm_at front (timed ∷ rest) cut; at_end = refl; ticked = λ party. omega arith })

      harm_row : DoesNoHarm (after_rows (world_of ids rows) (rows_in front)) timed.row
      harm_row = row_harmless (world_of ids rows) (rows_in front) (rows_in rest) timed.row
          (subst (DoNoHarm (world_of ids rows)) (ap rows_in cut ∙ rows_both front (timed ∷ rest)) r.harmless)

      cut_next : whole ≡ (front ++ timed ∷ []) ++ rest
      cut_next = cut ∙ one_more front rest timed

      then_run : AllRun keeps_size (length ids) r.others group clocks pace (after_row (after_rows (world_of ids rows) (rows_in front)) timed.row)
      then_run p i = subst (λ (u : Cluster). RunsWith (IsOfSize (length ids)) (u.member p)) (world_both (world_of ids rows) front (timed ∷ []))
          (runs_at (front ++ timed ∷ []) rest (cut ∙ one_more front rest timed) p i)

      within_after : (top : ℕ) → AreWithin group top (after_rows (world_of ids rows) (rows_in front))
          → NobodyStandsAbove group top (after_rows (world_of ids rows) (rows_in front)) (timed ∷ [])
          → AreWithin group top (after_rows (world_of ids rows) (rows_in (front ++ timed ∷ [])))
      within_after top within nobody = subst (AreWithin group top) (sym (world_both (world_of ids rows) front (timed ∷ [])))
          (terms_stay group clocks pace start top front (timed ∷ []) rest r.listed running r.others (calm_at front (timed ∷ rest) cut)
          (harmless_at (front ++ timed ∷ []) rest (cut ∙ one_more front rest timed)) within nobody)

  -- so are all rows up to this moment
  settled_on : (more front rest : List Timed) (timed : Timed) → whole ≡ (front ++ more) ++ timed ∷ rest → timed.at ≤ last → IsSettled front → IsSettled (front ++ more)
  settled_on [] front rest timed cut soon settled = subst IsSettled (sym (append-nil front)) settled
  settled_on (next ∷ more) front rest timed cut soon settled = subst IsSettled (append_assoc front (next ∷ []) more)
      (settled_on more (front ++ next ∷ []) rest timed (cut ∙ ap (λ (l : List Timed). l ++ timed ∷ rest) (one_more front more next)) soon
      (settled_after front (more ++ timed ∷ rest) next (cut ∙ append_assoc front (next ∷ more) (timed ∷ rest)) early settled))
    where
      early : next.at ≤ last
      early =
          let h = ends_before group clocks pace start (world_of ids rows) (front ++ next ∷ []) more rest timed
          (subst (AreCalm group clocks pace (no_traffic start) (world_of ids rows)) (cut ∙ ap (λ (l : List Timed). l ++ timed ∷ rest) (one_more front more next)) r.calm) in
          let e = end_last start front next in
          omega (arith, h, e, soon)

  -- where all have stored one term, each that stands by then stands above all terms
  pub stands_at_top : (term : ℕ) → AreWithin group term (world_of ids rows) → AreFrom term (world_of ids rows) → (front rest : List Timed) (timed : Timed)
      → whole ≡ front ++ timed ∷ rest → timed.at ≤ last → (m its_term : ℕ) → In (OfMember m) group
      → (s : Stands m its_term (after_rows (world_of ids rows) (rows_in front)) timed.row)
      → AreWithin group s.before.raft_server.store.term (after_rows (world_of ids rows) (rows_in front))
  stands_at_top term within from front rest timed cut soon m its_term j s n i server up =
      let settled = settled_on front [] rest timed cut soon (record { top = term; within = within; floor = inl from }) in
      let h = stands_above front rest timed cut soon settled m its_term j s in
      let a = settled.within n i server up in
      omega (arith, a, h)
