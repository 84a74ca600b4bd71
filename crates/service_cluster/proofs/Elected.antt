-- From who wins an election to who leads throughout: the row in which it comes to lead, and that no election comes.
use Rattle.std.proofs.Common.{◌≡◌, ℕ, ◌+◌, ◌<◌, ◌≤◌, arith, List, [], ◌∷◌, ◌++◌, append_assoc, append-nil, sym, ◌∙◌, ap, subst, inl, inr}
use Rattle.std.proofs.lemmas.Bool.Decides.{eqb_tells}
use Rattle.can_frame.specs.declared.step.What.TheVariants.{AppQ}
use Rattle.raft_model.specs.Lists.{In}
use Rattle.bus_rows.specs.declared.row.Row.{Row}
use Rattle.alloc_spec.specs.AllocatorState.{AllocatorState}
use Rattle.service_steps.specs.InTime.{FramesLeaveFollowers}
use Rattle.bus_rows.specs.Timed.{Timed, rows_in}
use Rattle.service_alone.specs.Calm.{Pace, end_of}
use Rattle.service_calm.specs.Calls.{Lists}
use Rattle.service_calm.specs.Calm.{AreCalm, AreRunning, Member as OfMember, Party, no_traffic}
use Rattle.service_calm.specs.Comes.{HasMemory, Throughout}
use Rattle.service_calm.proofs.Calls.{Always}
use Rattle.service_calm.proofs.CallsKept.{IsKept}
use Rattle.service_calm.proofs.Pair.{same_server}
use Rattle.service_candidate.specs.Elections.{EndsBy, IsCalmRestart, OthersFollow}
use Rattle.service_candidate.specs.Terms.{NobodyLeads, TermsDoNotFall}
use Rattle.service_candidate.proofs.ElectionsEnd.{all_run, opened}
use Rattle.service_leader.specs.CallsComeBack.{LeadsIfUp, LeadsNotIfUp}
use Rattle.service_leader.specs.LeadsOn.{IsLed, IsLedThroughout}
use Rattle.service_leader.specs.NoElection.{CallsFit, NoElection, NoElectionComes}
use Rattle.service_leader.proofs.Stretches.{end_both, fits_rest, throughout_at, throughout_by, world_both}
use Rattle.service_cluster.specs.Restart.{IsStart, settled_within}
use Rattle.service_cluster.proofs.Fronts.{Won, up_at, won}
use Rattle.service_cluster.proofs.Following.{cut_here, follow_on}
use Rattle.service_elections.proofs.Opened.{clocks_go_on, ready}
use Rattle.service_device.proofs.ServedCommitted.{two_cuts}
use Rattle.alloc_spec.specs.ClusterMembers.{AreMembers}
use Rattle.bus_spec.specs.Cluster.{Cluster, after_row, after_rows, world_of}
use Rattle.bus_spec.specs.Lawful.{DoNoHarm}
use Rattle.bus_spec.specs.Members.MemberStatus.{Up}

-- what holds in each of two lists of rows, one after the other, holds in both
throughout_both : (Holds : Cluster → Type 0) (a b : List Timed) (w : Cluster) → Throughout Holds w a → Throughout Holds (after_rows w (rows_in a)) b
    → Throughout Holds w (a ++ b)
throughout_both Holds [] b w one other = other
throughout_both Holds (x ∷ a) b w one other = (one.0, throughout_both Holds a b (after_row w x.row) one.1 other)

module _ (frames_leave : FramesLeaveFollowers) (ids : List ℕ) (members : AreMembers ids) (rows : List Row) (group : List Party) (clocks : Party → ℕ) (pace : Pace)
    (start longest ended : ℕ) (whole : List Timed) (s : IsStart ids rows group clocks pace start longest whole)
    (ends : EndsBy group clocks pace.delay ended (world_of ids rows) whole)
    (follow : OthersFollow group ends.c (after_rows (world_of ids rows) (rows_in ends.front)))
    (long : ended + settled_within pace longest < end_of start whole)
    (Sized : AllocatorState → Type 0) (sized : (t : AllocatorState) → Sized t → 2 ≤ t.size) (sized_kept : IsKept Always Sized)
    (sized_first : (m : ℕ) (i : In (OfMember m) group) → Sized (opened ids rows group clocks pace start whole s.restart m i))
    (lists : (n m : ℕ) → In (OfMember n) group → In (OfMember m) group → Lists n m (world_of ids rows))
    (terms_rise : TermsDoNotFall ids rows) (no_election : NoElectionComes ids rows) where
  abbrev r : IsCalmRestart ids rows group clocks pace start whole
  r = s.restart

  abbrev pub w : Cluster
  w = world_of ids rows

  abbrev pub F : List Timed
  F = ends.front

  abbrev pub S : Timed
  S = ends.timed

  abbrev pub c : ℕ
  c = ends.c

  abbrev pub term : ℕ
  term = ends.term

  abbrev G : List Timed
  G = ends.wins.front

  -- the world behind the row in which c stands, and further on
  abbrev v : Cluster
  v = after_row (after_rows w (rows_in F)) S.row

  abbrev here : List Timed → Cluster
  here a = after_rows v (rows_in a)

  is_here : (a : List Timed) → after_rows w (rows_in (F ++ S ∷ a)) ≡ here a
  is_here a = world_both w F (S ∷ a)

  abbrev running : AreRunning group w
  running = all_run ids rows group clocks pace start whole r

  cut_at : (a b : List Timed) → G ≡ a ++ b → whole ≡ (F ++ S ∷ a) ++ (b ++ ends.wins.rest)
  cut_at = cut_here frames_leave ids rows group clocks pace start ended whole r running Sized sized sized_kept sized_first ends follow

  others : (a b : List Timed) → G ≡ a ++ b → OthersFollow group c (here a)
  others = follow_on frames_leave ids rows group clocks pace start ended whole r running Sized sized sized_kept sized_first ends follow

  pub up_here : (m : ℕ) → In (OfMember m) group → (a b : List Timed) → G ≡ a ++ b → (t : AllocatorState) × (((here a).member m).status ≡ Up t)
  up_here m i a b cut = let k = up_at w group clocks pace start whole r.calm running m i (F ++ S ∷ a) (b ++ ends.wins.rest) (cut_at a b cut) in
      (k.0, subst (λ (u : Cluster). (u.member m).status ≡ Up k.0) (is_here a) k.1)

  -- ---- the row in which c comes to lead

  pub not_first : LeadsNotIfUp c v
  not_first t up leads =
      let same = same_server t ends.stands.after (sym up ∙ ends.stands.runs_then) in
      absurd (cc (sym leads ∙ (ap (λ (a : AllocatorState). a.raft_server.memory.role) same ∙ ends.stands.stands)))

  pub leads_last : LeadsIfUp c term (here G)
  leads_last t up =
      let leader = ends.wins.led.leader in
      let same = same_server leader.server t (sym leader.runs ∙ up) in (
        ap (λ (a : AllocatorState). a.raft_server.memory.role) (sym same) ∙ leader.leads,
        ap (λ (a : AllocatorState). a.raft_server.store.term) (sym same) ∙ leader.its_term,
      )

  abbrev is_won : Won c term v G
  is_won = won c term G v (λ a b cut. up_here c ends.member a b cut) ends.wins.leads_on not_first leads_last

  abbrev pub before : List Timed
  before = F ++ S ∷ is_won.early

  abbrev pub x : Timed
  x = is_won.row

  abbrev pub few : List Timed
  few = is_won.late

  abbrev pub rest : List Timed
  rest = ends.wins.rest

  abbrev pub first : List Timed
  first = before ++ x ∷ []

  -- so it is cut
  pub cut : whole ≡ first ++ (few ++ rest)
  cut = cut_at is_won.early (x ∷ few) is_won.split ∙ sym (append_assoc before (x ∷ []) (few ++ rest))

  -- behind that row, and some more
  behind : (d : List Timed) → after_rows (after_rows w (rows_in first)) (rows_in d) ≡ here (is_won.early ++ x ∷ d)
  behind d = sym (world_both w first d)
      ∙ (ap (λ (l : List Timed). after_rows w (rows_in l)) (append_assoc before (x ∷ []) d ∙ append_assoc F (S ∷ is_won.early) (x ∷ d))
      ∙ is_here (is_won.early ++ x ∷ d))

  in_front : (d b : List Timed) → few ≡ d ++ b → G ≡ (is_won.early ++ x ∷ d) ++ b
  in_front d b e = is_won.split ∙ (ap (λ (l : List Timed). is_won.early ++ x ∷ l) e ∙ sym (append_assoc is_won.early (x ∷ d) b))

  -- ---- nobody leads before

  nobody_at : (a b : List Timed) → G ≡ a ++ b → LeadsNotIfUp c (here a) → NobodyLeads group (here a)
  nobody_at a b e none m i t up leads = elim (eqb_tells m c) [
    | inl z ↦ none t (subst (λ (k : ℕ). ((here a).member k).status ≡ Up t) z.1 up) leads
    | inr z ↦ absurd (cc (sym leads ∙ others a b e m t i z.1 up))
  ]

  pub none_there : NobodyLeads group (after_rows w (rows_in before))
  none_there = subst (NobodyLeads group) (sym (is_here is_won.early)) (nobody_at is_won.early (x ∷ few) is_won.split is_won.none_then)

  pub none_before : Throughout (NobodyLeads group) w before
  none_before = throughout_both (NobodyLeads group) F (S ∷ is_won.early) w ends.nobody_led (
    ends.nobody_leads,
    throughout_by (NobodyLeads group) is_won.early v (λ a b y e. nobody_at a ((y ∷ b) ++ (x ∷ few))
        (is_won.split ∙ (ap (λ (l : List Timed). l ++ x ∷ few) e ∙ append_assoc a (y ∷ b) (x ∷ few)))
        (throughout_at (LeadsNotIfUp c) a b y v (subst (Throughout (LeadsNotIfUp c) v) e is_won.none))),
  )

  -- ---- terms

  -- a member's term is no higher before the end
  rises : (m : ℕ) → In (OfMember m) group → (a b : List Timed) → G ≡ a ++ b → (t u : AllocatorState) → ((here a).member m).status ≡ Up t
      → ((here G).member m).status ≡ Up u → t.raft_server.store.term ≤ u.raft_server.store.term
  rises m i a b e t u up up_then = terms_rise group clocks pace start m (F ++ S ∷ a) b rest t u running
      (subst (AreCalm group clocks pace (no_traffic start) w) (cut_at a b e) r.calm) i
      (subst (λ (z : Cluster). (z.member m).status ≡ Up t) (sym (is_here a)) up)
      (subst (λ (z : Cluster). (z.member m).status ≡ Up u) (sym (ap (λ (l : List Timed). after_rows w (rows_in l)) (append_assoc F (S ∷ a) b)
      ∙ (is_here (a ++ b) ∙ ap here (sym e)))) up_then)

  -- from where c stands on its term is this one
  pub in_term : (t : AllocatorState) → ((after_rows w (rows_in before)).member c).status ≡ Up t → t.raft_server.store.term ≡ term
  in_term t up =
      let up_there = subst (λ (z : Cluster). (z.member c).status ≡ Up t) (is_here is_won.early) up in
      let leader = ends.wins.led.leader in
      let high = rises c ends.member is_won.early (x ∷ few) is_won.split t leader.server up_there leader.runs in
      let low = terms_rise group clocks pace start c (F ++ S ∷ []) is_won.early (x ∷ (few ++ rest)) ends.stands.after t running
      (subst (AreCalm group clocks pace (no_traffic start) w) (cut_at is_won.early (x ∷ few) is_won.split
      ∙ (append_assoc F (S ∷ is_won.early) (x ∷ (few ++ rest)) ∙ sym (append_assoc F (S ∷ []) (is_won.early ++ x ∷ (few ++ rest))))) r.calm) ends.member
      (subst (λ (z : Cluster). (z.member c).status ≡ Up ends.stands.after) (sym (is_here [])) ends.stands.runs_then)
      (subst (λ (l : List Timed). ((after_rows w (rows_in l)).member c).status ≡ Up t) (sym (append_assoc F (S ∷ []) is_won.early)) up) in
      let its = ends.stands.its_term in let last = leader.its_term in omega (arith, high, low, its, last)

  -- ---- c leads throughout

  led_early : (d b : List Timed) → few ≡ d ++ b → IsLed group c term (here (is_won.early ++ x ∷ d))
  led_early d b e = record {
    leader = let leads = leads_here d b e up.0 (up.1) in record { server = up.0; runs = up.1; leads = leads.0; its_term = leads.1 };
    others = λ m i differs.
        let t = up_here m i (is_won.early ++ x ∷ d) b (in_front d b e) in
        let last = (ends.wins.led.others m i differs) in
        record {
          server = t.0;
          runs = t.1;
          follows = others (is_won.early ++ x ∷ d) b (in_front d b e) m t.0 i differs t.1;
          its_term = let up_to = rises m i (is_won.early ++ x ∷ d) b (in_front d b e) t.0 last.server t.1 last.runs in let low = last.its_term in omega (arith, up_to, low);
        };
  }
    where
      up : (t : AllocatorState) × (((here (is_won.early ++ x ∷ d)).member c).status ≡ Up t)
      up = up_here c ends.member (is_won.early ++ x ∷ d) b (in_front d b e)

      leads_here : (d b : List Timed) → few ≡ d ++ b → LeadsIfUp c term (here (is_won.early ++ x ∷ d))
      leads_here d [] e = subst (λ (l : List Timed). LeadsIfUp c term (here l)) (in_front d [] e ∙ append-nil (is_won.early ++ x ∷ d)) leads_last
      leads_here d (y ∷ b) e = subst (LeadsIfUp c term) (sym (world_both v is_won.early (x ∷ d)))
          (throughout_at (LeadsIfUp c term) d b y (after_row (here is_won.early) x.row) (subst (Throughout (LeadsIfUp c term) (after_row (here is_won.early) x.row)) e is_won.leads))

  -- no election comes from the end of `few` on
  pub calm_then : NoElection group clocks pace (end_of (end_of start first) few) c term (after_rows (after_rows w (rows_in first)) (rows_in few)) rest
  calm_then = subst (λ (k : ℕ). NoElection group clocks pace k c term (after_rows (after_rows w (rows_in first)) (rows_in few)) rest) (end_both start first few)
      (subst (λ (z : Cluster). NoElection group clocks pace (end_of start (first ++ few)) c term z rest) (world_both w first few)
      (no_election group clocks pace start c term (first ++ few) rest r.listed running ends.member
      (subst (IsLed group c term) (sym (world_both w first few ∙ behind few)) (led_early few [] (sym (append-nil few)))) s.heard
      (clocks_go_on ids rows group clocks pace start whole r)
      (λ m i differs. record {
        calls = lists c m ends.member i;
        hears = lists m c i ends.member;
        ready = ready ids rows group clocks pace start whole r c m AppQ m ends.member i;
        first_call = tt;
        memory = subst (Throughout (HasMemory m) w) in_two (r.memory m i);
        waits = λ server up.
            let since = ends.wins.waits m server i differs
            (subst (λ (z : Cluster). (z.member m).status ≡ Up server) (world_both w first few ∙ (behind few ∙ ap here (sym is_won.split))) up) in
            let ends_then : end_of start (first ++ few) ≡ end_of S.at G
            = ap (end_of start) (append_assoc before (x ∷ []) few ∙ append_assoc F (S ∷ is_won.early) (x ∷ few)) ∙ (end_both start F (S ∷ (is_won.early ++ x ∷ few))
            ∙ ap (end_of S.at) (sym is_won.split)) in
            let q = ends.wins.soon in
            let k = s.heard_soon in
            omega (arith, since, ends_then, q, k);
      })
      (subst (AreCalm group clocks pace (no_traffic start) w) in_two r.calm) (subst (λ (l : List Timed). DoNoHarm w (rows_in l)) in_two r.harmless)
      (fits_rest c (first ++ few) rest w (subst (CallsFit c w) in_two (s.calls c ends.member)))))
    where
      in_two : whole ≡ (first ++ few) ++ rest
      in_two = cut ∙ sym (append_assoc first few rest)

  pub led : IsLedThroughout group c term (after_rows w (rows_in first)) (few ++ rest)
  led f b e = elim (two_cuts f b few rest (sym e)) [
    | inl z ↦ subst (IsLed group c term) (sym (behind f)) (led_early f z.0 z.1)
    | inr z ↦ subst (IsLed group c term) (sym (ap (λ (l : List Timed). after_rows (after_rows w (rows_in first)) (rows_in l)) z.1
        ∙ world_both (after_rows w (rows_in first)) few z.0)) (calm_then.led z.0 b z.2)
  ]

  -- ---- the moment

  pub by_then : end_of (end_of start first) few ≤ ended
  by_then =
      let a = end_both start first few in
      let e = ap (end_of start) (append_assoc before (x ∷ []) few ∙ append_assoc F (S ∷ is_won.early) (x ∷ few)) ∙ (end_both start F (S ∷ (is_won.early ++ x ∷ few))
      ∙ ap (end_of S.at) (sym is_won.split)) in
      let q = ends.wins.soon in let k = ends.soon in omega (arith, a, e, q, k)
