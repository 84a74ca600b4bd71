-- Terms stay in a calm, and members stay free to vote, until a member of the group stands for election.
use Rattle.std.proofs.Common.{◌≡◌, ◌≢◌, ℕ, ◌+◌, ◌<◌, ◌≤◌, List, [], ◌∷◌, ◌++◌, length, refl, sym, ◌∙◌, ap, subst, inl, inr, arith}
use Rattle.cluster_discovery.specs.Members.{IsStart}
use Rattle.raft_model.specs.Lists.{In}
use Rattle.bus_rows.specs.declared.row.Row.{Row}
use Rattle.bus_rows.specs.declared.row.Row.TheVariants.{Rx, Tick}
use Rattle.transfer_rx.specs.Reassembly.{Delivery, Gives, answer}
use Rattle.alloc_spec.specs.Accepted.{setting_for}
use Rattle.alloc_spec.specs.AllocatorState.{AllocatorState, start_of}
use Rattle.alloc_spec.specs.Step.{step}
use Rattle.bus_agreement.specs.Shows.{ShowsMember, ShowsUp}
use Rattle.service_steps.specs.Requests.{moment_at}
use Rattle.bus_rows.specs.Timed.{Timed, rows_in}
use Rattle.service_alone.specs.Calm.{IsNext, Pace}
use Rattle.service_alone.proofs.Members.{IsUp}
use Rattle.service_calm.specs.Calm.{AreCalm, AreRunning, Member as OfMember, Party, no_traffic}
use Rattle.service_calm.specs.CalmBelow.{CalmGrounds}
use Rattle.service_calm.proofs.Grounds.{calm_laws, invariants, well}
use Rattle.service_candidate.specs.Terms.{AreWithin, IsFreeFor, NobodyElseStands, NobodyStandsAbove}
use Rattle.service_candidate.specs.Votes.{Stands}
use Rattle.service_leader.proofs.LeadsOnWays.{next_of_group}
use Rattle.service_leader.proofs.TermsHeard.{IsOfGroup, tells_within}
use Rattle.service_leader.proofs.TermsRun.{of_run}
use Rattle.service_leader.proofs.TermsKept.{TellsWithin}
use Rattle.service_candidate.proofs.TermsMembers.{AllHold, GoesOn, all_after, all_hold, further, it_holds, one_on, up_then}
use Rattle.service_candidate.proofs.TermsSteps.{AsksFor, HasStood, IsFree, free_as, free_at_frame, stands_or_stays, within_at_frame}
use Rattle.service_candidate.proofs.VotesHeard.{IsOfSafeRun, asks_for}
use Rattle.alloc_spec.specs.ClusterMembers.{AreMembers}
use Rattle.bus_spec.specs.Cluster.{Cluster, after_row, after_rows, arrival_at, cluster, frame_at, tick_of, world_of}
use Rattle.bus_spec.specs.Lawful.{DoNoHarm, DoesNoHarm}
use Rattle.bus_spec.specs.Members.{MemberStatus}
use Rattle.bus_spec.specs.Members.MemberStatus.{Up}

-- where two members are, there are two or more
pub two_or_more : (ids : List ℕ) (m n : ℕ) → In m ids → In n ids → m ≢ n → 2 ≤ length ids
two_or_more [] m n i j apart = absurd i
two_or_more (x ∷ []) m n (inl e) (inl f) apart = absurd (apart (e ∙ sym f))
two_or_more (x ∷ []) m n (inr i) j apart = absurd i
two_or_more (x ∷ []) m n (inl e) (inr j) apart = absurd j
two_or_more (x ∷ y ∷ rest) m n i j apart = omega arith

module _ (grounds : CalmGrounds) (ids : List ℕ) (members : AreMembers ids) (many : 2 ≤ length ids) (group : List Party) (listed : (p : ℕ) → In (OfMember p) group → In p ids) (clocks : Party → ℕ) (pace : Pace) where
  abbrev pub nodes : (p : ℕ) → In (OfMember p) group → (1 ≤ p) × (p ≤ 125)
  nodes p i = members.nodes p (listed p i)

  -- the rest of a calm
  abbrev pub Rest : Cluster → List Timed → Type 0
  Rest = GoesOn (calm_laws grounds) group nodes clocks pace ids (grounds.grows (cluster ids)) (grounds.no_harm (cluster ids))

  module _ (w : Cluster) (whole : List Timed) (goes : Rest w whole) where
    -- the members of the cluster stay
    same_ids : w.ids ≡ ids
    same_ids = sym (ap (λ (v : Cluster). v.ids) goes.reached) ∙ grounds.same (cluster ids) goes.rows

    there : (p : ℕ) → In (OfMember p) group → In p w.ids
    there p i = subst (λ (l : List ℕ). In p l) (sym same_ids) (listed p i)

    run_here : IsOfSafeRun w
    run_here = subst IsOfSafeRun goes.reached (record {
      heard = of_run grounds ids members goes.rows goes.harmless;
      invariants = invariants grounds ids members goes.rows goes.harmless;
    })

    -- what a server that runs is in the run of the Raft model
    shown_up : (p : ℕ) → In (OfMember p) group → (t : AllocatorState) → (w.member p).status ≡ Up t
        → ShowsUp run_here.heard.made w.ids w.frames run_here.heard.run p t (w.member p).disk
    shown_up p i t runs = subst (λ (status : MemberStatus). ShowsMember run_here.heard.choice run_here.heard.made w.ids w.frames run_here.heard.run p status (w.member p).disk)
        runs (run_here.heard.shows.lives p (there p i))

    size_is : (p : ℕ) → In (OfMember p) group → (t : AllocatorState) → (w.member p).status ≡ Up t → t.size ≡ length ids
    size_is p i t runs = (shown_up p i t runs).runs.size ∙ ap (λ (l : List ℕ). length l) same_ids

    -- it began as a member may begin
    is_start : (p : ℕ) → In (OfMember p) group → (t : AllocatorState) → (w.member p).status ≡ Up t → IsStart (start_of t)
    is_start p i t runs =
        let up = (shown_up p i t runs).runs in
        let size = size_is p i t runs in
        let node = nodes p i in
        let some = members.some in
        record {
          numbered = omega (arith, up.me, node.0);
          device = omega (arith, up.me, node.1);
          least = omega (arith, size, some);
          most = up.sound.size;
        }

    -- its cluster has two members or more
    large : (p : ℕ) → In (OfMember p) group → (t : AllocatorState) → (w.member p).status ≡ Up t → 2 ≤ t.size
    large p i t runs = let size = size_is p i t runs in let some = many in omega (arith, size, some)

    -- whoever stands for election is told so
    stands : (p ms word : ℕ) → In (OfMember p) group → (t : AllocatorState) → IsUp t (w.member p)
        → HasStood t.raft_server (step t (w.rows + 1) (tick_of ms word)).step_state.allocator.raft_server
        → Stands p (t.raft_server.store.term + 1) w (Tick p ms word)
    stands p ms word i t up stood = record {
      ms = ms;
      word = word;
      reads = refl;
      before = t;
      runs = up.status;
      next = refl;
      after = (step t (w.rows + 1) (tick_of ms word)).step_state.allocator;
      runs_then = up_then w p (w.rows + 1) (tick_of ms word) t up;
      stands = stood.0;
      its_term = stood.1;
    }

  -- where a calm begins
  pub begins : (start : ℕ) (rows : List Row) → DoNoHarm (cluster ids) rows → AreRunning group (world_of ids rows) → (whole : List Timed)
      → AreCalm group clocks pace (no_traffic start) (world_of ids rows) whole → Rest (world_of ids rows) whole
  begins start rows harmless running whole calm = record {
    rows = rows;
    reached = refl;
    harmless = harmless;
    traffic = no_traffic start;
    calm = calm;
    well = well grounds ids members rows harmless group listed running;
    flies = λ party. refl;
  }

  -- behind some of its rows
  pub behind : (front rest more : List Timed) (w : Cluster) → Rest w (front ++ rest) → DoNoHarm w (rows_in (front ++ more))
      → Rest (after_rows w (rows_in front)) rest × DoNoHarm (after_rows w (rows_in front)) (rows_in more)
  behind = further (calm_laws grounds) group nodes clocks pace ids (grounds.grows (cluster ids)) (grounds.no_harm (cluster ids))

  -- ---- what comes

  module _ (w : Cluster) (timed : Timed) (rest : List Timed) (goes : Rest w (timed ∷ rest)) (harm : DoesNoHarm w timed.row) (top : ℕ)
      (low : (p : ℕ) → In (OfMember p) group → (t : AllocatorState) × ((w.member p).status ≡ Up t) × (t.raft_server.store.term ≤ top))
      (p k ms : ℕ) (is : timed.row ≡ Rx p k ms) (next : IsNext k (goes.traffic.to (OfMember p))) (t : AllocatorState) (runs : (w.member p).status ≡ Up t)
      (d : Delivery) (gives : answer (setting_for t.me) t.sessions
      (record (arrival_at (frame_at w.frames k) ms) { moment = moment_at t (arrival_at (frame_at w.frames k) ms) }) ≡ Gives d) where
    abbrev here : IsOfSafeRun w
    here = run_here w (timed ∷ rest) goes

    members_here : AreMembers w.ids
    members_here = subst AreMembers (sym (same_ids w (timed ∷ rest) goes)) members

    of_group : IsOfGroup group (frame_at w.frames k)
    of_group = next_of_group group w.frames k (goes.traffic.to (OfMember p)) next (goes.flies (OfMember p))

    -- it tells no term above this one
    told_within : TellsWithin top d
    told_within = tells_within grounds.frame grounds.codec w here.heard
        (grounds.one_transfer here.heard.choice here.heard.made w here.heard.run members_here here.heard.shows) group (there w (timed ∷ rest) goes) nodes top
        low p k ms t runs (subst (DoesNoHarm w) is harm) d gives of_group

    -- and a vote request of this term is of c
    asked_for : (c : ℕ) → ((q : ℕ) → In (OfMember q) group → q ≢ c → (x : AllocatorState) → (w.member q).status ≡ Up x → IsFree c top x.raft_server)
        → AsksFor c top d
    asked_for c free = asks_for grounds.frame grounds.codec w here
        (grounds.one_transfer here.heard.choice here.heard.made w here.heard.run members_here here.heard.shows) group (there w (timed ∷ rest) goes) nodes c top
        low free p k ms t runs (subst (DoesNoHarm w) is harm) d gives of_group

  -- ---- terms

  module _ (top : ℕ) where
    abbrev Within : ℕ → AllocatorState → Type 0
    Within m t = t.raft_server.store.term ≤ top

    -- in one row
    within_row : (w : Cluster) (timed : Timed) (rest : List Timed) → Rest w (timed ∷ rest) → DoesNoHarm w timed.row
        → ((n term : ℕ) → In (OfMember n) group → Stands n term w timed.row → term ≤ top) → AllHold group Within w → AllHold group Within (after_row w timed.row)
    within_row w timed rest goes harm nobody all = all_after group Within clocks pace goes.traffic w timed.at timed.row goes.calm.1 (λ m t h. h)
        (λ p ms word is i t up h. elim (stands_or_stays grounds.more.list (w.rows + 1) t ms word (is_start w (timed ∷ rest) goes p i t up.status)
        (large w (timed ∷ rest) goes p i t up.status)) [
          | inl same ↦ (let e = same.term in omega (arith, e, h))
          | inr stood ↦ (
              let e = stood.1 in
              let l = nobody p (t.raft_server.store.term + 1) i (subst (Stands p (t.raft_server.store.term + 1) w) (sym is)
              (stands w (timed ∷ rest) goes p ms word i t up stood)) in
              omega (arith, e, l))
        ])
        (λ p k ms is i next t up h. within_at_frame top (w.rows + 1) t (arrival_at (frame_at w.frames k) ms) h
        (λ d gives. told_within w timed rest goes harm top (λ q j. let its = all q j in (its.server, its.up.status, its.holds)) p k ms is next t up.status d gives))
        all

    -- in all of these rows
    within_on : (front rest : List Timed) (w : Cluster) → Rest w (front ++ rest) → DoNoHarm w (rows_in front) → NobodyStandsAbove group top w front
        → AllHold group Within w → AllHold group Within (after_rows w (rows_in front))
    within_on [] rest w goes harm nobody all = all
    within_on (timed ∷ front) rest w goes harm nobody all =
        within_on front rest (after_row w timed.row) (one_on (calm_laws grounds) group nodes clocks pace ids (grounds.grows (cluster ids)) (grounds.no_harm (cluster ids)) timed (front ++ rest) w goes harm.0) harm.1 nobody.1
        (within_row w timed (front ++ rest) goes harm.0 nobody.0 all)

    -- so the members of the group stay within a term
    pub terms_stay : (front rest : List Timed) (w : Cluster) → Rest w (front ++ rest) → DoNoHarm w (rows_in front) → NobodyStandsAbove group top w front
        → AreWithin group top w → AreWithin group top (after_rows w (rows_in front))
    terms_stay front rest w goes harm nobody within = it_holds group Within (after_rows w (rows_in front))
        (within_on front rest w goes harm nobody (all_hold group Within w goes.well within))

  -- ---- votes

  module _ (c top : ℕ) where
    abbrev Free : ℕ → AllocatorState → Type 0
    Free m t = (t.raft_server.store.term ≤ top) × (m ≢ c → IsFree c top t.raft_server)

    -- in one row
    free_row : (w : Cluster) (timed : Timed) (rest : List Timed) → Rest w (timed ∷ rest) → DoesNoHarm w timed.row
        → ((n term : ℕ) → In (OfMember n) group → Stands n term w timed.row → n ≡ c)
        → ((n term : ℕ) → In (OfMember n) group → Stands n term w timed.row → term ≤ top) → AllHold group Free w → AllHold group Free (after_row w timed.row)
    free_row w timed rest goes harm nobody_else nobody all = all_after group Free clocks pace goes.traffic w timed.at timed.row goes.calm.1 (λ m t h. h)
        (λ p ms word is i t up h. elim (stands_or_stays grounds.more.list (w.rows + 1) t ms word (is_start w (timed ∷ rest) goes p i t up.status)
        (large w (timed ∷ rest) goes p i t up.status)) [
          | inl same ↦ (
              let e = same.term in
              let own = h.0 in (
                omega (arith, e, own),
                λ apart. free_as c top t.raft_server (step t (w.rows + 1) (tick_of ms word)).step_state.allocator.raft_server
                    same.term same.vote same.role (h.1 apart),
              ))
          | inr stood ↦ (
              let s = subst (Stands p (t.raft_server.store.term + 1) w) (sym is) (stands w (timed ∷ rest) goes p ms word i t up stood) in
              let e = stood.1 in
              let l = nobody p (t.raft_server.store.term + 1) i s in
              (omega (arith, e, l), λ apart. absurd (apart (nobody_else p (t.raft_server.store.term + 1) i s))))
        ])
        (λ p k ms is i next t up h.
        let low : (q : ℕ) → In (OfMember q) group → (x : AllocatorState) × ((w.member q).status ≡ Up x) × (x.raft_server.store.term ≤ top)
        = λ q j. let its = all q j in (its.server, its.up.status, its.holds.0) in
        let free : (q : ℕ) → In (OfMember q) group → q ≢ c → (x : AllocatorState) → (w.member q).status ≡ Up x → IsFree c top x.raft_server
        = λ q j far x e. (it_holds group Free w all q j x e).1 far in (
          within_at_frame top (w.rows + 1) t (arrival_at (frame_at w.frames k) ms) h.0
              (λ d gives. told_within w timed rest goes harm top low p k ms is next t up.status d gives),
          λ apart. free_at_frame c top (w.rows + 1) t (arrival_at (frame_at w.frames k) ms) (h.1 apart) (λ d gives. (
            told_within w timed rest goes harm top low p k ms is next t up.status d gives,
            asked_for w timed rest goes harm top low p k ms is next t up.status d gives c free,
          )),
        ))
        all

    -- in all of these rows
    free_on : (front rest : List Timed) (w : Cluster) → Rest w (front ++ rest) → DoNoHarm w (rows_in front) → NobodyElseStands group c w front
        → NobodyStandsAbove group top w front → AllHold group Free w → AllHold group Free (after_rows w (rows_in front))
    free_on [] rest w goes harm nobody_else nobody all = all
    free_on (timed ∷ front) rest w goes harm nobody_else nobody all =
        free_on front rest (after_row w timed.row) (one_on (calm_laws grounds) group nodes clocks pace ids (grounds.grows (cluster ids)) (grounds.no_harm (cluster ids)) timed (front ++ rest) w goes harm.0) harm.1
        nobody_else.1 nobody.1 (free_row w timed (front ++ rest) goes harm.0 nobody_else.0 nobody.0 all)

    -- so they stay free to vote for c
    pub votes_stay : (front rest : List Timed) (w : Cluster) → Rest w (front ++ rest) → DoNoHarm w (rows_in front) → AreWithin group top w
        → ((m : ℕ) → In (OfMember m) group → m ≢ c → (t : AllocatorState) → (w.member m).status ≡ Up t → t.raft_server.store.term < top)
        → NobodyElseStands group c w front → NobodyStandsAbove group top w front
        → (m : ℕ) → In (OfMember m) group → m ≢ c → IsFreeFor c top m (after_rows w (rows_in front))
    votes_stay front rest w goes harm within below nobody_else nobody m i apart t runs = (it_holds group Free (after_rows w (rows_in front))
        (free_on front rest w goes harm nobody_else nobody (all_hold group Free w goes.well (λ q j x e. (within q j x e, λ far. inl (below q j far x e))))) m i t runs).1 apart
