-- Who stands for election is heard within two delays: before each later row all are in its term, or in a higher one.
use Rattle.std.proofs.Common.{◌≡◌, ◌≢◌, ℕ, ◌+◌, ◌*◌, ◌<◌, ◌≤◌, arith, List, [], ◌∷◌, ◌++◌, sym, ◌∙◌, ap, subst, inl, inr, append_assoc, Some}
use Rattle.std.proofs.lemmas.Bool.Decides.{eqb_tells}
use Rattle.can_frame.specs.Timing.{call_timeout, transfer_timeout}
use Rattle.raft_model.specs.Lists.{In}
use Rattle.raft_model.specs.Messages.{Request}
use Rattle.bus_rows.specs.declared.row.Row.{Row}
use Rattle.alloc_spec.specs.AllocatorState.{AllocatorState, members_of}
use Rattle.alloc_spec.specs.Step.{step}
use Rattle.bus_rows.specs.Timed.{Timed, rows_in}
use Rattle.service_alone.specs.Calm.{end_of}
use Rattle.service_alone.proofs.Members.{IsQuiet, IsUp}
use Rattle.service_calm.specs.Calm.{Member as OfMember, no_traffic}
use Rattle.service_calm.specs.Comes.{Sends, sent_by}
use Rattle.service_leader.proofs.RowsOfOne.{stepped_up}
use Rattle.service_leader.proofs.Stretches.{end_both}
use Rattle.service_candidate.specs.Votes.{AsksFor, CanAsk, Stands, VoteComesBack, VoteReadsAsSaid}
use Rattle.service_candidate.specs.Wins.{VoteRequestsFit}
use Rattle.service_candidate.proofs.OneStands.{fit_at, same_request}
use Rattle.service_candidate.proofs.WinsFronts.{part_of}
use Rattle.service_elections.proofs.CalmFronts.{end_before, harm_row}
use Rattle.service_elections.proofs.InStepFronts.{calm_at, facts, next_cut, row_before, runs_at, term_rises, the_calm, there, there_both, there_more, w0}
use Rattle.service_elections.proofs.InStepGiven.{Ground}
use Rattle.service_elections.proofs.InStepLists.{first_or, one_more}
use Rattle.bus_spec.specs.Cluster.{Cluster, after_row, after_rows, receipt_of, step_of, tick_of}
use Rattle.bus_spec.specs.Lawful.{DoNoHarm}
use Rattle.bus_spec.specs.Members.MemberStatus.{Up}

-- who calls quickly enough has transfers remembered for as long as they take
quick_enough : (delay : ℕ) → 4 * delay < call_timeout → 2 * delay ≤ transfer_timeout
quick_enough delay quick = omega (arith, quick)

module _ (g : Ground) (front early late : List Timed) (timed next : Timed) (cut : g.whole ≡ front ++ timed ∷ (early ++ next ∷ late))
    (gap : timed.at + 2 * g.pace.delay < next.at) (long : timed.at + 4 * g.pace.delay < end_of g.start g.whole) (c term : ℕ) (i : In (OfMember c) g.group)
    (s : Stands c term (there g front) timed.row) where
  abbrev rest : List Timed
  rest = early ++ next ∷ late

  -- ---- each other one

  module _ (m : ℕ) (j : In (OfMember m) g.group) (differs : c ≢ m) where
    listed_then : In m (members_of s.after)
    listed_then =
        let cut_then = next_cut g front (early ++ next ∷ late) timed cut in
        g.given.lists_stay g.group g.clocks g.pace (no_traffic g.start) c m (front ++ timed ∷ []) (early ++ next ∷ late) (w0 g) (g.calm.running c i)
        (calm_at g (front ++ timed ∷ []) (early ++ next ∷ late) cut_then).calm (g.calm.ask c m i j differs).asks_it s.after
        (ap (λ (u : Cluster). (u.member c).status) (there_more g front timed) ∙ s.runs_then)

    abbrev asked : AsksFor c m term (there g front) timed.row s
    asked = ((facts g front (timed ∷ (early ++ next ∷ late)) cut).asked c term timed.row (g.calm.listed c i) (harm_row (the_calm g) front (early ++ next ∷ late) timed cut) s).asks
        m listed_then (λ e. differs (sym e))

    in_step : step_of (there g front) timed.row ≡ Some (c, tick_of s.ms s.word)
    in_step = ap (λ (row : Row). step_of (there g front) row) s.reads

    sends : Sends c (there g front) timed.row asked.offer
    sends = record {
      server = s.before;
      runs = s.runs;
      event = tick_of s.ms s.word;
      in_step = in_step;
      offered = asked.offered;
      fitted = fit_at c front (early ++ next ∷ late) timed (w0 g) (subst (VoteRequestsFit c (w0 g)) cut (g.calm.asks_fit c i)) m (record {
        server = s.before;
        runs = s.runs;
        event = tick_of s.ms s.word;
        in_step = in_step;
        offer = asked.offer;
        offered = asked.offered;
        what = asked.what;
        to = asked.to;
      });
    }

    back : (read : VoteReadsAsSaid (sent_by c (there g front) asked.offer))
        × VoteComesBack c m (sent_by c (there g front) asked.offer) read.request timed.at g.pace.delay (there g front) (timed ∷ (early ++ next ∷ late))
    back = g.given.come_back g.group g.clocks g.pace g.start c m front (early ++ next ∷ late) timed asked.offer g.calm.listed g.calm.running i j differs
        (quick_enough g.pace.delay g.calm.quick) (subst (CanAsk c m (w0 g)) cut (g.calm.ask c m i j differs))
        (calm_at g front (timed ∷ (early ++ next ∷ late)) cut).calm (subst (λ (l : List Timed). DoNoHarm (w0 g) (rows_in l)) cut g.calm.harmless)
        sends asked.what asked.to
        (let e : end_of g.start g.whole ≡ end_of timed.at (early ++ next ∷ late)
        = ap (end_of g.start) cut ∙ end_both g.start front (timed ∷ (early ++ next ∷ late)) in omega (arith, e, long))

    abbrev comes : VoteComesBack c m (sent_by c (there g front) asked.offer) back.0.request timed.at g.pace.delay (there g front) (timed ∷ (early ++ next ∷ late))
    comes = back.1

    -- the request says the term
    its_term : back.0.request.term ≡ term
    its_term = ap (λ (q : Request). q.term) (same_request _ _ (sym back.0.said ∙ asked.says)) ∙ s.its_term

    -- it comes before the next row
    in_time : (tail : List Timed) × (timed ∷ early ≡ comes.front ++ comes.timed ∷ tail) × (comes.rest ≡ tail ++ next ∷ late)
    in_time = elim (part_of (timed ∷ early) (next ∷ late) comes.front comes.rest comes.timed comes.split) [
      | inl before ↦ before
      | inr behind ↦ absurd (too_late behind.0 behind.1)
    ]
      where
        cut_next : g.whole ≡ (front ++ timed ∷ early) ++ next ∷ late
        cut_next = cut ∙ sym (append_assoc front (timed ∷ early) (next ∷ late))

        too_late : (tail : List Timed) → next ∷ late ≡ tail ++ comes.timed ∷ comes.rest → ⊥
        too_late [] e =
            let same : next.at ≡ comes.timed.at = ap (λ (l : List Timed). (first_or next l).at) e in
            let soon = comes.soon in omega (arith, same, soon, gap)
        too_late (y ∷ tail) e =
            let same : next.at ≡ y.at = ap (λ (l : List Timed). (first_or next l).at) e in
            let cut_y : g.whole ≡ ((front ++ timed ∷ early) ++ y ∷ tail) ++ comes.timed ∷ comes.rest
            = cut_next ∙ (ap (λ (l : List Timed). (front ++ timed ∷ early) ++ l) e ∙ sym (append_assoc (front ++ timed ∷ early) (y ∷ tail) (comes.timed ∷ comes.rest))) in
            let h = row_before g (front ++ timed ∷ early) tail (comes.timed ∷ comes.rest) y cut_y in
            let k = end_before (the_calm g) ((front ++ timed ∷ early) ++ y ∷ tail) comes.rest comes.timed cut_y in
            let soon = comes.soon in
            omega (arith, h, k, same, soon, gap)

    other_heard : (server : AllocatorState) → ((there g (front ++ timed ∷ early)).member m).status ≡ Up server → term ≤ server.raft_server.store.term
    other_heard server up =
        let a = term_rises g ((front ++ comes.front) ++ comes.timed ∷ []) in_time.0 (next ∷ late) cut_upto m j took server up_took
        (subst (λ (l : List Timed). ((there g l).member m).status ≡ Up server) upto_is up) in
        let b = comes.answers.leaves.term in
        let k = its_term in
        omega (arith, a, b, k)
      where
        upto_is : front ++ timed ∷ early ≡ ((front ++ comes.front) ++ comes.timed ∷ []) ++ in_time.0
        upto_is = ap (λ (l : List Timed). front ++ l) in_time.1
            ∙ (sym (append_assoc front comes.front (comes.timed ∷ in_time.0)) ∙ one_more (front ++ comes.front) in_time.0 comes.timed)

        cut_upto : g.whole ≡ (((front ++ comes.front) ++ comes.timed ∷ []) ++ in_time.0) ++ next ∷ late
        cut_upto = cut ∙ (sym (append_assoc front (timed ∷ early) (next ∷ late)) ∙ ap (λ (l : List Timed). l ++ next ∷ late) upto_is)

        cut_there : g.whole ≡ (front ++ comes.front) ++ (comes.timed ∷ (in_time.0 ++ next ∷ late))
        cut_there = cut_upto ∙ (append_assoc ((front ++ comes.front) ++ comes.timed ∷ []) in_time.0 (next ∷ late)
            ∙ append_assoc (front ++ comes.front) (comes.timed ∷ []) (in_time.0 ++ next ∷ late))

        took : AllocatorState
        took = (step comes.delivers.server ((after_rows (there g front) (rows_in comes.front)).rows + 1)
            (receipt_of (after_rows (there g front) (rows_in comes.front)) comes.delivers.k comes.delivers.ms)).step_state.allocator

        quiet : IsUp comes.delivers.server ((after_rows (there g front) (rows_in comes.front)).member m)
        quiet = record {
          status = comes.delivers.runs;
          quiet = subst (λ (u : Cluster). IsQuiet (u.member m).disk) (there_both g front comes.front)
              (runs_at g (front ++ comes.front) (comes.timed ∷ (in_time.0 ++ next ∷ late)) cut_there m j).up.quiet;
        }

        up_took : ((there g ((front ++ comes.front) ++ comes.timed ∷ [])).member m).status ≡ Up took
        up_took = ap (λ (u : Cluster). (u.member m).status) (there_more g (front ++ comes.front) comes.timed
            ∙ ap (λ (u : Cluster). after_row u comes.timed.row) (there_both g front comes.front))
            ∙ (stepped_up (after_rows (there g front) (rows_in comes.front)) m comes.delivers.server quiet comes.timed.row
            (receipt_of (after_rows (there g front) (rows_in comes.front)) comes.delivers.k comes.delivers.ms)
            (ap (λ (row : Row). step_of (after_rows (there g front) (rows_in comes.front)) row) comes.delivers.comes)).status

  -- ---- and it itself

  pub is_heard : (m : ℕ) (server : AllocatorState) → In (OfMember m) g.group → ((there g (front ++ timed ∷ early)).member m).status ≡ Up server
      → term ≤ server.raft_server.store.term
  is_heard m server j up = elim (eqb_tells c m) [
    | inr z ↦ other_heard m j z.1 server up
    | inl z ↦
        let split = one_more front early timed in
        let a = term_rises g (front ++ timed ∷ []) early (next ∷ late)
        (cut ∙ (sym (append_assoc front (timed ∷ early) (next ∷ late)) ∙ ap (λ (l : List Timed). l ++ next ∷ late) split)) c i s.after server
        (ap (λ (u : Cluster). (u.member c).status) (there_more g front timed) ∙ s.runs_then)
        (ap (λ (k : ℕ). ((there g ((front ++ timed ∷ []) ++ early)).member k).status) z.1
        ∙ subst (λ (l : List Timed). ((there g l).member m).status ≡ Up server) split up) in
        let b = s.its_term in
        omega (arith, a, b)
  ]
