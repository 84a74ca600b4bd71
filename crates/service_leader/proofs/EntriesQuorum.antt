-- Where a quorum has a leader's entries, the leader commits them.
use Rattle.std.proofs.Common.{◌≡◌, ◌≢◌, ℕ, ◌+◌, ◌*◌, ◌<◌, ◌≤◌, Bool, true, List, [], ◌∷◌, ◌++◌, length, append_assoc, refl, sym, ◌∙◌, ap, subst, inl, inr, arith, Some}
use Rattle.std.specs.Prelude.{◌==◌, ◌||◌, if◌then◌else◌, nat_le}
use Rattle.std.proofs.lemmas.Bool.Decides.{eqb_tells, leb_tells}
use Rattle.can_frame.specs.declared.entry.Entry.{Entry}
use Rattle.can_frame.specs.Timing.{call_timeout}
use Rattle.raft_model.specs.Lists.{In, any, how_many}
use Rattle.raft_model.specs.Log.{term_at}
use Rattle.raft_model.specs.Moves.Leading.{has_matched}
use Rattle.raft_model.specs.Server.{quorum}
use Rattle.raft_model.proofs.Lists.{same_append}
use Rattle.raft_model.proofs.Quorum.{count_grows}
use Rattle.bus_rows.specs.declared.row.Row.{Row}
use Rattle.bus_rows.specs.declared.row.Row.TheVariants.{AEnd, AOpen, ARx, ASend, ATick, Crash, Ext, Fault, Open, Rx, Send, Tick}
use Rattle.alloc_spec.specs.AllocatorState.{AllocatorState}
use Rattle.alloc_spec.specs.Step.{Event, step}
use Rattle.bus_agreement.specs.Duty.{DoesItsDuty, IsDutiful}
use Rattle.bus_rows.specs.Timed.{Timed, rows_in}
use Rattle.service_alone.specs.Calm.{Pace, end_of}
use Rattle.service_alone.proofs.Goes.{after_both}
use Rattle.service_calm.specs.Calm.{Member as OfMember, Party}
use Rattle.service_leader.specs.CallsComeBack.{LeadsIfUp}
use Rattle.service_leader.specs.Entries.{GoesOnCalling, IsCommittedBy, PendsSince, calls_left, come_within, is_one_of}
use Rattle.service_leader.specs.LeadsOn.{IsLedThroughout}
use Rattle.service_calm.proofs.Calls.{Goes}
use Rattle.service_leader.proofs.EntriesAccepted.{same_term}
use Rattle.service_leader.proofs.EntriesCome.{leading, led_behind}
use Rattle.service_leader.proofs.EntriesCommitted.{HasCommitted, duty_at, has_committed}
use Rattle.service_leader.proofs.EntriesParts.{IsFirst, IsSecond, in_either}
use Rattle.service_leader.proofs.EntriesReturn.{GetsAnswers}
use Rattle.service_leader.specs.EntriesBelow.{EntryLaws}
use Rattle.service_leader.proofs.EntriesRows.{AtLeader, AtLeast, IsLedCalm, cut_more, goes_at, grown, here, here_then, leads_if_up, left_of}
use Rattle.service_leader.proofs.EntriesStart.{Done, NextTick, comes, next_tick}
use Rattle.service_leader.proofs.EntriesSteps.{longer}
use Rattle.service_calm.proofs.Pair.{same_server}
use Rattle.service_leader.proofs.RowsOfOne.{stepped_up}
use Rattle.service_leader.proofs.Stretches.{end_both, end_last, rows_both, world_both}
use Rattle.bus_spec.specs.Cluster.{Cluster, after_row, after_rows, cluster, step_of, world_of}
use Rattle.bus_spec.specs.Members.MemberStatus.{Up}

any_in : (p : ℕ) (others : List ℕ) → any (λ other. other == p) others ≡ true → In p others
any_in p [] e = cc e
any_in p (x ∷ others) e = elim (eqb_tells x p) [
  | inl z ↦ inl (sym z.1)
  | inr z ↦ inr (any_in p others (sym (ap (λ (b : Bool). if b then true else any (λ other. other == p) others) z.0) ∙ e))
]

-- rows change nothing of who the members are
ids_kept : (w : Cluster) (list : List Row) → (after_rows w list).ids ≡ w.ids
ids_kept w [] = refl
ids_kept w (row ∷ list) = ids_kept (after_row w row) list ∙ one row
  where
    one : (row : Row) → (after_row w row).ids ≡ w.ids
    one (Tick n ms word) = refl
    one (Rx n k ms) = refl
    one (Send n) = refl
    one (ATick a ms word) = refl
    one (ARx a k ms word) = refl
    one (ASend a) = refl
    one (Open n told ms word) = refl
    one (Ext frame) = refl
    one (Crash n calls pattern) = refl
    one (Fault n call) = refl
    one (AOpen a uid pref ms word) = refl
    one (AEnd a) = refl

module _ (ids : List ℕ) (rows : List Row) (laws : EntryLaws ids rows) (group : List Party) (clocks : Party → ℕ) (pace : Pace) (start n term : ℕ)
    (first later : List Timed) (calm : IsLedCalm ids rows group clocks pace start n term (first ++ later))
    (led : IsLedThroughout group n term (after_rows (world_of ids rows) (rows_in first)) later) (short : 4 * pace.delay < call_timeout) where
  abbrev whole : List Timed
  whole = first ++ later

  abbrev now : List Timed → Cluster
  now = here ids rows laws group clocks pace start n term whole calm

  abbrev AtIt : (AllocatorState → Type 0) → List Timed → Type 0
  AtIt = AtLeader ids rows laws group clocks pace start n term whole calm

  abbrev IsStep : List Timed → Timed → Type 0
  IsStep a x = (event : Event) × (step_of (now a) x.row ≡ Some (n, event))

  -- the leader knows a member to have so many places
  abbrev KnowsOf : (m count : ℕ) → AllocatorState → Type 0
  KnowsOf m count t = count ≤ t.raft_server.memory.matched m

  -- it leads behind each front that goes on behind the first rows
  leads_behind : (c b : List Timed) → whole ≡ (first ++ c) ++ b → LeadsIfUp n term (now (first ++ c))
  leads_behind c b cut = leads_if_up n term (now (first ++ c))
      (led_behind ids rows laws group clocks pace start n term first later calm led c b cut).leader

  -- each step of the leader does its duty
  duty : (a b : List Timed) (x : Timed) → whole ≡ a ++ x ∷ b → (t : AllocatorState) (event : Event) → step_of (now a) x.row ≡ Some (n, event)
      → ((now a).member n).status ≡ Up t → DoesItsDuty ids t ((now a).rows + 1) event
  duty a b x cut t event is up = subst (λ (l : List ℕ). DoesItsDuty l t ((now a).rows + 1) event) (same_ids (rows_in a))
      (duty_at (now a) x.row n t event is up (subst (λ (v : Cluster). IsDutiful v x.row) (after_both (cluster ids) rows (rows_in a))
      (laws.duty (rows_in whole) calm.harmless (rows ++ rows_in a) (rows_in b) x.row
      (ap (λ (l : List Row). rows ++ l) (ap rows_in cut ∙ rows_both a (x ∷ b)) ∙ sym (append_assoc rows (rows_in a) (x.row ∷ rows_in b))))))
    where
      same_ids : (list : List Row) → (after_rows (world_of ids rows) list).ids ≡ ids
      same_ids list = ids_kept (world_of ids rows) list ∙ ids_kept (cluster ids) rows

  -- what another member has to bring along
  pub record IsOther (m : ℕ) : Type 0 where
    pub member : In (OfMember m) group
    pub other : m ≢ n
    pub can : GetsAnswers n m pace.delay (world_of ids rows) whole
    pub late : can.number ≤ (after_rows (world_of ids rows) (rows_in first)).rows
    pub since : PendsSince n m can.number (after_rows (world_of ids rows) (rows_in first))
    pub goes : GoesOnCalling n m (after_rows (world_of ids rows) (rows_in first))

  abbrev leads_first : LeadsIfUp n term (after_rows (world_of ids rows) (rows_in first))
  leads_first = leading ids rows laws group clocks pace start n term first later calm led

  abbrev DoneOf : (m : ℕ) → IsOther m → (origin : List Timed) (count last : ℕ) → Type 0
  DoneOf m is = Done ids rows laws group clocks pace start n term whole calm m is.member is.other short is.can first leads_first is.late is.since is.goes

  module _ (e : List Timed) where
    -- a step of the leader is over by this moment, behind this front, and the leader knows each of these to have so many
    -- places
    record AllHave (list : List ℕ) (count last : ℕ) : Type 0 where
      before : List Timed
      row : Timed
      rest : List Timed
      cut : whole ≡ before ++ row ∷ rest
      stepped : IsStep before row
      soon : row.at ≤ last
      tail : List Timed
      behind : before ++ row ∷ [] ≡ (first ++ e) ++ tail
      known : (m : ℕ) → In m list → AtIt (KnowsOf m count) (before ++ row ∷ [])

    -- what is known behind a front is known further on
    moves_on : (m count : ℕ) (c front more rest : List Timed) → whole ≡ (front ++ more) ++ rest → front ≡ (first ++ e) ++ c → AtIt (KnowsOf m count) front
        → AtIt (KnowsOf m count) (front ++ more)
    moves_on m count c front more rest cut behind h u is_up =
        let known = h t up in
        let k = (grown ids rows laws group clocks pace start n term whole calm m front more rest (t.raft_server.memory.next m) cut leads t up (omega arith) u is_up).matched_is in
        omega (arith, known, k)
      where
        cut_front : whole ≡ front ++ (more ++ rest)
        cut_front = cut ∙ append_assoc front more rest

        t : AllocatorState
        t = (goes_at ids rows laws group clocks pace start n term whole calm n calm.member front (more ++ rest) cut_front).runs.server

        up : ((now front).member n).status ≡ Up t
        up = (goes_at ids rows laws group clocks pace start n term whole calm n calm.member front (more ++ rest) cut_front).runs.up.status

        same : front ≡ first ++ (e ++ c)
        same = behind ∙ append_assoc first e c

        leads : LeadsIfUp n term (now front)
        leads = subst (λ (l : List Timed). LeadsIfUp n term (now l)) (sym same)
            (leads_behind (e ++ c) (more ++ rest) (cut_front ∙ ap (λ (l : List Timed). l ++ (more ++ rest)) same))

    -- one more of them
    one_more : (m : ℕ) (is : IsOther m) (list : List ℕ) (count last : ℕ) → DoneOf m is (first ++ e) count last → AllHave list count last
        → AllHave (m ∷ list) count last
    one_more m is list count last done all = elim (in_either (done.before ++ done.row ∷ []) done.rest all.before all.rest all.row
        (append_assoc done.before (done.row ∷ []) done.rest ∙ (sym done.cut ∙ all.cut))) [
          | inl before ↦ earlier before
          | inr second ↦ later_one second
        ]
      where
        -- the others were known before this one
        earlier : IsFirst (done.before ++ done.row ∷ []) done.rest all.before all.rest all.row → AllHave (m ∷ list) count last
        earlier before = record {
          before = done.before;
          row = done.row;
          rest = done.rest;
          cut = done.cut;
          stepped = done.stepped;
          soon = done.soon;
          tail = done.tail;
          behind = done.behind;
          known = by;
        }
          where
            joined : done.before ++ done.row ∷ [] ≡ (all.before ++ all.row ∷ []) ++ before.tail
            joined = before.split ∙ sym (append_assoc all.before (all.row ∷ []) before.tail)

            by : (p : ℕ) → In p (m ∷ list) → AtIt (KnowsOf p count) (done.before ++ done.row ∷ [])
            by p (inl same) = subst (λ (q : ℕ). AtIt (KnowsOf q count) (done.before ++ done.row ∷ [])) (sym same) done.known
            by p (inr i) = subst (AtIt (KnowsOf p count)) (sym joined) (moves_on p count all.tail (all.before ++ all.row ∷ []) before.tail done.rest
                (cut_more ids rows laws group clocks pace start n term whole calm done.before done.rest done.row done.cut
                ∙ ap (λ (l : List Timed). l ++ done.rest) joined) all.behind
                (all.known p i))

        -- or later
        later_one : IsSecond (done.before ++ done.row ∷ []) done.rest all.before all.rest all.row → AllHave (m ∷ list) count last
        later_one second = record {
          before = all.before;
          row = all.row;
          rest = all.rest;
          cut = all.cut;
          stepped = all.stepped;
          soon = all.soon;
          tail = all.tail;
          behind = all.behind;
          known = by;
        }
          where
            joined : all.before ++ all.row ∷ [] ≡ (done.before ++ done.row ∷ []) ++ (second.tail ++ all.row ∷ [])
            joined = ap (λ (l : List Timed). l ++ all.row ∷ []) second.split ∙ append_assoc (done.before ++ done.row ∷ []) second.tail (all.row ∷ [])

            by : (p : ℕ) → In p (m ∷ list) → AtIt (KnowsOf p count) (all.before ++ all.row ∷ [])
            by p (inl same) = subst (λ (q : ℕ). AtIt (KnowsOf q count) (all.before ++ all.row ∷ [])) (sym same) (subst (AtIt (KnowsOf m count)) (sym joined)
                (moves_on m count done.tail (done.before ++ done.row ∷ []) (second.tail ++ all.row ∷ []) all.rest
                (cut_more ids rows laws group clocks pace start n term whole calm all.before all.rest all.row all.cut
                ∙ ap (λ (l : List Timed). l ++ all.rest) joined) done.behind done.known))
            by p (inr i) = all.known p i

    module _ (b : List Timed) (cut : whole ≡ (first ++ e) ++ b) (t : AllocatorState) (up : ((now (first ++ e)).member n).status ≡ Up t) (left : ℕ)
        (long : end_of start (first ++ e) + come_within pace left < end_of start whole) where
      abbrev count : ℕ
      count = length t.raft_server.store.log

      abbrev last : ℕ
      last = end_of start (first ++ e) + come_within pace left

      -- all of them, behind the next row in which the leader reads its clock
      all_have : (other : ℕ) → IsOther other → (list : List ℕ) → ((m : ℕ) → In m list → IsOther m × (calls_left t m ≤ left))
          → AllHave list count last
      all_have other is [] each = record {
        before = (first ++ e) ++ tick.front;
        row = tick.row;
        rest = tick.more;
        cut = tick.split;
        stepped = tick.stepped;
        soon = let soon = tick.soon in omega (arith, soon);
        tail = tick.front ++ tick.row ∷ [];
        behind = append_assoc (first ++ e) tick.front (tick.row ∷ []);
        known = λ m i. absurd i;
      }
        where
          tick : NextTick ids rows laws group clocks pace start n term whole calm other is.member is.other short is.can first leads_first is.late is.since is.goes (first ++ e)
          tick = next_tick ids rows laws group clocks pace start n term whole calm other is.member is.other short is.can first leads_first is.late is.since is.goes (first ++ e) b cut
              (omega (arith, long))
      all_have other is (m ∷ list) each =
          let it = each m (inl refl) in
          one_more m it.0 list count last
          (comes ids rows laws group clocks pace start n term whole calm m it.0.member it.0.other short it.0.can
          first leads_first it.0.late it.0.since it.0.goes e b cut t up left it.1 long)
          (all_have other is list (λ p i. each p (inr i)))

      -- then the leader has committed the places
      committed : (other : ℕ) (next : List ℕ) (all : AllHave (other ∷ next) count last)
          → quorum ids ≤ how_many (is_one_of n (other ∷ next)) ids
          → term_at t.raft_server.store.log count ≡ term → IsCommittedBy n count last start (world_of ids rows) whole
      committed other next all many own = record {
        front = front;
        rest = all.rest;
        split = split;
        soon = let ends = end_last start all.before all.row in let soon = all.soon in omega (arith, ends, soon);
        leader = u;
        leads = u_up;
        committed = can count inside here_own enough;
      }
        where
          front : List Timed
          front = all.before ++ all.row ∷ []

          split : whole ≡ front ++ all.rest
          split = cut_more ids rows laws group clocks pace start n term whole calm all.before all.rest all.row all.cut

          goes : Goes laws.me group clocks pace n (now all.before) (all.row ∷ all.rest)
          goes = goes_at ids rows laws group clocks pace start n term whole calm n calm.member all.before (all.row ∷ all.rest) all.cut

          u : AllocatorState
          u = (goes_at ids rows laws group clocks pace start n term whole calm n calm.member front all.rest split).runs.server

          u_up : ((now front).member n).status ≡ Up u
          u_up = (goes_at ids rows laws group clocks pace start n term whole calm n calm.member front all.rest split).runs.up.status

          same : (step goes.runs.server ((now all.before).rows + 1) all.stepped.0).step_state.allocator ≡ u
          same = same_server _ u (sym (stepped_up (now all.before) n goes.runs.server goes.runs.up all.row.row all.stepped.0 all.stepped.1).status
              ∙ subst (λ (v : Cluster). (v.member n).status ≡ Up u) (here_then ids rows laws group clocks pace start n term whole calm all.before all.row) u_up)

          -- the log begins with what it was
          grew : AtLeast ids rows laws group clocks pace start n term whole calm other (t.raft_server.memory.matched other) t.raft_server.store.log
              (left_of ids rows laws group clocks pace start n term whole calm other t) (t.raft_server.memory.next other) u
          grew = subst (AtIt (AtLeast ids rows laws group clocks pace start n term whole calm other (t.raft_server.memory.matched other) t.raft_server.store.log
              (left_of ids rows laws group clocks pace start n term whole calm other t) (t.raft_server.memory.next other))) (sym all.behind)
              (grown ids rows laws group clocks pace start n term whole calm other (first ++ e) all.tail all.rest (t.raft_server.memory.next other)
              (split ∙ ap (λ (l : List Timed). l ++ all.rest) all.behind) (leads_behind e b cut) t up (omega arith)) u u_up

          can : HasCommitted ids n u.raft_server
          can = subst (λ (k : ℕ). HasCommitted ids k u.raft_server) goes.runs.holds
              (subst (λ (x : AllocatorState). HasCommitted ids goes.runs.server.me x.raft_server) same
              (has_committed ids goes.runs.server ((now all.before).rows + 1) all.stepped.0
              (ap (λ (x : AllocatorState). x.raft_server.memory.role) same ∙ grew.leads)
              (duty all.before all.rest all.row all.cut goes.runs.server all.stepped.0 all.stepped.1 goes.runs.up.status)))

          inside : count ≤ length u.raft_server.store.log
          inside = longer other term (t.raft_server.memory.matched other) t.raft_server.store.log
              (left_of ids rows laws group clocks pace start n term whole calm other t) (t.raft_server.memory.next other) u.raft_server grew

          here_own : term_at u.raft_server.store.log count ≡ u.raft_server.store.term
          here_own = ap (λ (l : List Entry). term_at l count) grew.log_is
              ∙ (same_term count (t.raft_server.store.log ++ grew.more) t.raft_server.store.log
              (same_append count t.raft_server.store.log grew.more (omega arith))
              ∙ (own ∙ sym grew.its_term))

          has_it : (p : ℕ) → is_one_of n (other ∷ next) p ≡ true → has_matched n u.raft_server count p ≡ true
          has_it p is_it = elim (eqb_tells p n) [
            | inl z ↦ ap (λ (x : Bool). if x then true else nat_le count (u.raft_server.memory.matched p)) z.0
            | inr z ↦ ap (λ (x : Bool). if x then true else nat_le count (u.raft_server.memory.matched p)) z.0
                ∙ known (any_in p (other ∷ next) (sym (ap (λ (x : Bool). x || any (λ other. other == p) (other ∷ next)) z.0) ∙ is_it))
          ]
            where
              known : In p (other ∷ next) → nat_le count (u.raft_server.memory.matched p) ≡ true
              known i = elim (leb_tells count (u.raft_server.memory.matched p)) [
                | inl y ↦ y.0
                | inr y ↦ let k = all.known p i u u_up in let high = y.1 in absurd (omega (arith, k, high))
              ]

          enough : quorum ids ≤ how_many (has_matched n u.raft_server count) ids
          enough = let more = count_grows (is_one_of n (other ∷ next)) (has_matched n u.raft_server count) ids has_it in omega (arith, more, many)

  pub committed_in_time : (front rest : List Timed) → later ≡ front ++ rest → (t : AllocatorState)
      → ((after_rows (after_rows (world_of ids rows) (rows_in first)) (rows_in front)).member n).status ≡ Up t → (left : ℕ)
      → end_of (end_of start first) front + come_within pace left < end_of start whole
      → (other : ℕ) (next : List ℕ) → ((m : ℕ) → In m (other ∷ next) → IsOther m × (calls_left t m ≤ left))
      → quorum ids ≤ how_many (is_one_of n (other ∷ next)) ids → term_at t.raft_server.store.log (length t.raft_server.store.log) ≡ term
      → IsCommittedBy n (length t.raft_server.store.log) (end_of (end_of start first) front + come_within pace left) start (world_of ids rows) whole
  committed_in_time front rest cut t up left long other next each many own =
      subst (λ (k : ℕ). IsCommittedBy n (length t.raft_server.store.log) (k + come_within pace left) start (world_of ids rows) whole) (end_both start first front)
      (committed front rest cut_whole t up_there left long_there other next
      (all_have front rest cut_whole t up_there left long_there other (each other (inl refl)).0 (other ∷ next) each) many own)
    where
      cut_whole : whole ≡ (first ++ front) ++ rest
      cut_whole = ap (λ (l : List Timed). first ++ l) cut ∙ sym (append_assoc first front rest)

      up_there : ((now (first ++ front)).member n).status ≡ Up t
      up_there = subst (λ (v : Cluster). (v.member n).status ≡ Up t) (sym (world_both (world_of ids rows) first front)) up

      long_there : end_of start (first ++ front) + come_within pace left < end_of start whole
      long_there = let e = end_both start first front in omega (arith, e, long)
