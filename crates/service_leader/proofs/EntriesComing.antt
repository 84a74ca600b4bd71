-- A leader's entries come to a member, whatever its log is, call by call.
use Rattle.std.proofs.Common.{◌≡◌, ◌≢◌, ℕ, zero, suc, ◌+◌, ◌*◌, ◌<◌, ◌≤◌, List, [], ◌∷◌, ◌++◌, drop, length, length-append, append_assoc, append-nil, max, refl, sym, ◌∙◌, ap, subst, inl, inr, arith, Option, None, Some}
use Rattle.std.specs.Prelude.{◌⊎◌, slice_index_or}
use Rattle.std.proofs.lemmas.Bool.Decides.{leb_tells}
use Rattle.can_frame.specs.Timing.{call_timeout}
use Rattle.raft_model.specs.Lists.{In}
use Rattle.raft_model.specs.Messages.{Request, reach}
use Rattle.raft_model.specs.Server.Role.{Leader}
use Rattle.alloc_spec.specs.AllocatorState.{AllocatorState, members_of}
use Rattle.alloc_spec.specs.Step.{Event, step}
use Rattle.bus_rows.specs.Timed.{Timed}
use Rattle.service_alone.specs.Calm.{Pace, end_of}
use Rattle.service_calm.specs.Calm.{AreCalm, Member as OfMember, Party, no_traffic}
use Rattle.service_leader.specs.NoElection.{CallsFit}
use Rattle.service_calm.proofs.Calls.{Goes}
use Rattle.service_calm.proofs.CallsOffered.{same_after}
use Rattle.service_leader.proofs.EntriesBack.{AtLeader, Holds, IsTaken, Leads, Made, comes_back, leader_at, now}
use Rattle.service_leader.proofs.EntriesParts.{listed_behind, reach_owed, rows_counted, same_front}
use Rattle.service_leader.proofs.EntriesPending.{WasCalled, appends_at, in_term_at, inside_at, was_called}
use Rattle.service_leader.proofs.EntriesReturn.{GetsAnswers}
use Rattle.service_leader.specs.EntriesBelow.{EntryLaws}
use Rattle.service_leader.proofs.EntriesRows.{AtLeast, IsLedCalm, goes_at, grown, here_then, lead_on, left_of}
use Rattle.service_leader.proofs.EntriesSteps.{longer, still_left}
use Rattle.service_calm.proofs.Pair.{same_server}
use Rattle.service_leader.proofs.RowsOfOne.{stepped_up}
use Rattle.service_leader.proofs.Stretches.{GoesOnFrom, end_both, fits_at}
use Rattle.bus_spec.specs.Cluster.{Cluster, step_of, world_of}
use Rattle.bus_spec.specs.Members.MemberStatus.{Up}

module _ (ids : List ℕ) (rows : List _) (laws : EntryLaws ids rows) (group : List Party) (clocks : Party → ℕ) (pace : Pace) (start n term : ℕ)
    (whole : List Timed)
    (calm : IsLedCalm ids rows group clocks pace start n term whole) (m : ℕ) (in_m : In (OfMember m) group) (other : m ≢ n)
    (short : 4 * pace.delay < call_timeout)
    (can : GetsAnswers n m pace.delay (world_of ids rows) whole) where
  abbrev w : Cluster
  w = world_of ids rows

  abbrev pub then_ : List Timed → Cluster
  then_ = now ids rows laws group clocks pace start n term whole calm m in_m other short can

  abbrev pub AtIt : (AllocatorState → Type 0) → List Timed → Type 0
  AtIt = AtLeader ids rows laws group clocks pace start n term whole calm m in_m other short can

  abbrev pub IsLeading : List Timed → Type 0
  IsLeading = Leads ids rows laws group clocks pace start n term whole calm m in_m other short can

  abbrev pub MadeIn : List Timed → Timed → Request → Type 0
  MadeIn = Made ids rows laws group clocks pace start n term whole calm m in_m other short can

  abbrev pub TakenIn : List Timed → Timed → Request → Type 0
  TakenIn = IsTaken ids rows laws group clocks pace start n term whole calm m in_m other short can

  abbrev pub HeldAs : Request → (next matched : ℕ) → AllocatorState → Type 0
  HeldAs = Holds ids rows laws group clocks pace start n term whole calm m in_m other short can

  pub it_at : (a b : List Timed) → whole ≡ a ++ b → (t : AllocatorState) × (((then_ a).member n).status ≡ Up t)
  it_at = leader_at ids rows laws group clocks pace start n term whole calm m in_m other short can

  pub cut_row : (a b : List Timed) (x : Timed) → whole ≡ a ++ x ∷ b → whole ≡ (a ++ x ∷ []) ++ b
  cut_row a b x cut = cut ∙ sym (append_assoc a (x ∷ []) b)

  -- where it leads behind a row, it leads on
  pub leads_on : (a c b : List Timed) → whole ≡ (a ++ c) ++ b → whole ≡ a ++ (c ++ b) → IsLeading a → IsLeading (a ++ c)
  leads_on a c b cut whole_cut leads =
      lead_on ids rows laws group clocks pace start n term whole calm a c b cut leads

  -- ---- moments

  pub from_start : (a b : List Timed) → whole ≡ a ++ b → GoesOnFrom group clocks pace start w (a ++ b)
  from_start a b cut = record {
    traffic = no_traffic start;
    calm = subst
        (AreCalm group clocks pace (no_traffic start) w) cut calm.calm;
    at_end = refl;
    ticked = λ party. omega arith;
  }

  -- when the rows end, counted from one of them
  pub end_from : (a b : List Timed) (x : Timed) → whole ≡ a ++ x ∷ b → end_of start whole ≡ end_of x.at b
  end_from a b x cut = ap (end_of start) cut ∙ end_both start a (x ∷ b)

  -- ---- a step of the leader

  abbrev pub IsStep : List Timed → Timed → Type 0
  IsStep a x = (event : Event) × (step_of (then_ a) x.row ≡ Some (n, event))

  -- behind a step of the leader a call pends, or there is nothing new for the peer
  abbrev pub InTouch : AllocatorState → Type 0
  InTouch t = ((asked : Request) × (t.raft_server.memory.pending m ≡ Some asked)) ⊎ (length t.raft_server.store.log < t.raft_server.memory.next m)

  pub in_touch : (a b : List Timed) (x : Timed) → whole ≡ a ++ x ∷ b → IsStep a x → IsLeading (a ++ x ∷ []) → AtIt InTouch (a ++ x ∷ [])
  in_touch a b x cut is leading t up = let kept = same_after before.0 number is.0 in elim
      (laws.touch before.0 number is.0 m (sym kept.0 ∙ leads) (subst (λ (l : List ℕ). In m (drop 1 l)) kept.2 listed)) [
        | inl some ↦ inl (pends t.raft_server.memory.pending refl (λ e. some (ap (λ (u : AllocatorState). u.raft_server.memory.pending m) same ∙ e)))
        | inr (inl quiet) ↦ inr (subst (λ (u : AllocatorState). length u.raft_server.store.log < u.raft_server.memory.next m) same quiet.0)
        | inr (inr o) ↦ absurd (cc (
          fits_at n a b x w (subst (CallsFit n w) cut calm.fit) m
              (record { server = before.0; runs = before.1; event = is.0; in_step = is.1; offer = o.0; offered = o.1; what = o.2; to = o.3 }),
          o.4,
        ))
      ]
    where
      number : ℕ
      number = (then_ a).rows + 1

      goes : Goes laws.me group clocks pace n (then_ a) (x ∷ b)
      goes = goes_at ids rows laws group clocks pace start n term whole calm n calm.member a (x ∷ b) cut

      before : (t : AllocatorState) × (((then_ a).member n).status ≡ Up t)
      before = (goes.runs.server, goes.runs.up.status)

      same : (step before.0 number is.0).step_state.allocator ≡ t
      same = same_server _ t (sym (stepped_up (then_ a) n goes.runs.server goes.runs.up x.row is.0 is.1).status
          ∙ subst (λ (v : Cluster). (v.member n).status ≡ Up t) (here_then ids rows laws group clocks pace start n term whole calm a x) up)

      leads : (step before.0 number is.0).step_state.allocator.raft_server.memory.role ≡ Leader
      leads = ap (λ (u : AllocatorState). u.raft_server.memory.role) same
          ∙ (leading t up).0

      listed : In m (drop 1 (members_of (step before.0 number is.0).step_state.allocator))
      listed = listed_behind (step before.0 number is.0).step_state.allocator m (subst (λ (u : AllocatorState). In m (members_of u)) (sym same)
          (laws.stay group clocks pace (no_traffic start) n m (a ++ x ∷ []) b w (calm.running n calm.member)
          (subst (AreCalm group clocks pace (no_traffic start) w) (cut_row a b x cut) calm.calm) can.lists_it t up))
          (λ e. other (e ∙ (laws.me before.0 number is.0 ∙ goes.runs.holds)))

      pends : (pending : ℕ → Option Request) → t.raft_server.memory.pending ≡ pending → (pending m ≢ None) → (asked : Request)
          × (t.raft_server.memory.pending m ≡ Some asked)
      pends pending e some = by (pending m) (ap (λ (f : ℕ → Option Request). f m) e) some
        where
          by : (p : Option Request) → t.raft_server.memory.pending m ≡ p → (p ≢ None) → (asked : Request) × (t.raft_server.memory.pending m ≡ Some asked)
          by None e some = absurd (some refl)
          by (Some asked) e some = (asked, e)

  -- ---- a call that a step makes

  -- Behind the row in which the leader took an answer, or a row like it: it calls the peer next behind the places that it
  -- knows it to have, at a place of its log or just behind those; and a call that pends was made in this row.
  pub record Fresh (before : List Timed) (t : AllocatorState) : Type 0 where
    pub above : t.raft_server.memory.matched m + 1 ≤ t.raft_server.memory.next m
    pub near : t.raft_server.memory.next m ≤ max (length t.raft_server.store.log) (t.raft_server.memory.matched m + 1)
    pub made : (again : Request) → t.raft_server.memory.pending m ≡ Some again → again.step ≡ (then_ before).rows + 1

  -- the leader knows the peer to have so many places, when a step of it is over, behind this front and by this moment
  pub record IsDone (origin : List Timed) (count last : ℕ) : Type 0 where
    pub before : List Timed
    pub row : Timed
    pub rest : List Timed
    pub cut : whole ≡ before ++ row ∷ rest
    pub tail : List Timed
    pub behind : before ++ row ∷ [] ≡ origin ++ tail
    pub stepped : (event : Event) × (step_of (then_ before) row.row ≡ Some (n, event))
    pub soon : row.at ≤ last
    pub known : AtIt (λ t. count ≤ t.raft_server.memory.matched m) (before ++ row ∷ [])

  -- a call that pends behind a row, and was made in it
  made_here : (a b : List Timed) (x : Timed) → whole ≡ a ++ x ∷ b → IsLeading (a ++ x ∷ []) → (t : AllocatorState) → ((then_ (a ++ x ∷ [])).member n).status ≡ Up t
      → (asked : Request) → t.raft_server.memory.pending m ≡ Some asked → asked.step ≡ (then_ a).rows + 1 → MadeIn a x asked
  made_here a b x cut leading t up asked pends number = subst (λ (y : Timed). MadeIn a y asked) (ap (λ (l : List Timed). slice_index_or l 0 x) (sym parts.1))
      (subst (λ (l : List Timed). MadeIn l since.row asked) (sym parts.0) since.made)
    where
      here_rows : (then_ a).rows ≡ w.rows + length a
      here_rows = rows_counted w a

      since : WasCalled ids rows laws group clocks pace start n term whole calm m asked (a ++ x ∷ [])
      since = was_called ids rows laws group clocks pace start n term whole calm m (a ++ x ∷ []) b (cut_row a b x cut) t up asked
          (let count = here_rows in omega (arith, number, count))
          (appends_at ids rows laws group clocks pace start n term whole calm m (a ++ x ∷ []) b (cut_row a b x cut) leading t up asked pends)
          (in_term_at ids rows laws group clocks pace start n term whole calm m (a ++ x ∷ []) b (cut_row a b x cut) leading t up asked pends) pends

      parts : (a ≡ since.earlier) × (x ∷ [] ≡ since.row ∷ since.later)
      parts =
          let its = ap (λ (r : Request). r.step) since.made.said in
          let count = here_rows in
          let there_rows = rows_counted w since.earlier in
          same_front a since.earlier (x ∷ []) (since.row ∷ since.later) (omega (arith, its, number, count, there_rows)) since.split

  -- so many delays are four
  abbrev pub four : ℕ
  four = 4 * pace.delay

  pub span : ℕ → ℕ
  span zero = 0
  span (suc k) = four + span k

  -- a span is so many times four delays
  pub span_is : (k : ℕ) → span k ≡ 4 * pace.delay * k
  unfolding span
  span_is zero = omega arith
  span_is (suc k) = let e = span_is k in omega (arith, e)

  -- ---- an answer is taken

  -- the row in which an answer was taken, behind the row of the call
  module _ (a b : List Timed) (x : Timed) (cut : whole ≡ a ++ x ∷ b) (asked : Request) (made : MadeIn a x asked) (taken : TakenIn a x asked) where
    pub taken_joined : taken.before ++ taken.row ∷ [] ≡ (a ++ x ∷ []) ++ (taken.between ++ taken.row ∷ [])
    taken_joined = ap (λ (l : List Timed). l ++ taken.row ∷ []) taken.behind ∙ append_assoc (a ++ x ∷ []) taken.between (taken.row ∷ [])

    cut_taken : whole ≡ ((a ++ x ∷ []) ++ (taken.between ++ taken.row ∷ [])) ++ taken.rest
    cut_taken = cut_row taken.before taken.rest taken.row taken.cut ∙ ap (λ (l : List Timed). l ++ taken.rest) taken_joined

    -- the leader leads then
    pub taken_leading : IsLeading (taken.before ++ taken.row ∷ [])
    taken_leading = subst IsLeading (sym taken_joined)
        (leads_on (a ++ x ∷ []) (taken.between ++ taken.row ∷ []) taken.rest cut_taken
        (cut_taken ∙ append_assoc (a ++ x ∷ []) (taken.between ++ taken.row ∷ []) taken.rest) made.leading)

    -- and knows of the peer what it learned
    pub taken_fresh : AtIt (Fresh taken.before) (taken.before ++ taken.row ∷ [])
    taken_fresh u is_up = elim (taken.taken u is_up).1 [
      | inl there ↦ record {
        above = let next = there.1 in omega (arith, next);
        near = let next = there.1 in omega (arith, next);
        made = (taken.taken u is_up).0;
      }
      | inr back ↦ record {
        above = let match = back.0 in let next = back.1 in let high = back.2 in omega (arith, match, next, high);
        near = let next = back.1 in let top = most in omega (arith, next, top);
        made = (taken.taken u is_up).0;
      }
    ]
      where
        s : (t : AllocatorState) × (((then_ (a ++ x ∷ [])).member n).status ≡ Up t)
        s = it_at (a ++ x ∷ []) b (cut_row a b x cut)

        -- the next place is at most one behind the log
        most : taken.next ≤ length u.raft_server.store.log + 1
        most =
            let inside = (inside_at ids rows laws group clocks pace start n term whole calm m (a ++ x ∷ []) b (cut_row a b x cut) made.leading s.0 s.1).1 in
            let held = (subst (AtIt (HeldAs asked taken.next taken.matched)) (append-nil (a ++ x ∷ [])) (taken.holds [] taken.between refl) s.0 s.1).1 in
            let grew = longer m term (s.0.raft_server.memory.matched m) s.0.raft_server.store.log
            (left_of ids rows laws group clocks pace start n term whole calm m s.0) (s.0.raft_server.memory.next m) u.raft_server
            (subst (AtIt (AtLeast ids rows laws group clocks pace start n term whole calm m (s.0.raft_server.memory.matched m) s.0.raft_server.store.log
            (left_of ids rows laws group clocks pace start n term whole calm m s.0) (s.0.raft_server.memory.next m))) (sym taken_joined)
            (grown ids rows laws group clocks pace start n term whole calm m (a ++ x ∷ []) (taken.between ++ taken.row ∷ []) taken.rest
            (s.0.raft_server.memory.next m) cut_taken made.leading s.0 s.1 (omega arith)) u is_up) in
            omega (arith, inside, held, grew)

  -- ---- call by call

  -- so many places have come, or are to come by so many calls more
  abbrev pub AreLeft : (k count : ℕ) → AllocatorState → Type 0
  AreLeft k count t = (still_left (t.raft_server.memory.next m) (t.raft_server.memory.matched m) count ≤ k) × (count ≤ length t.raft_server.store.log)

  module _ (origin : List Timed) where
    -- the leader takes the answer to a call that it made in this row, and one call less is left
    record Comes (k count : ℕ) (x : Timed) : Type 0 where
      before : List Timed
      row : Timed
      rest : List Timed
      cut : whole ≡ before ++ row ∷ rest
      tail : List Timed
      behind : before ++ row ∷ [] ≡ origin ++ tail
      stepped : IsStep before row
      soon : row.at ≤ x.at + four
      late : can.number ≤ (then_ before).rows
      leading : IsLeading (before ++ row ∷ [])
      fresh : AtIt (Fresh before) (before ++ row ∷ [])
      left : AtIt (AreLeft k count) (before ++ row ∷ [])

    one_call : (k count : ℕ) (before : List Timed) (row : Timed) (rest : List Timed) → whole ≡ before ++ row ∷ rest → (tail : List Timed)
        → before ++ row ∷ [] ≡ origin ++ tail → IsStep before row → can.number ≤ (then_ before).rows → IsLeading (before ++ row ∷ [])
        → AtIt (Fresh before) (before ++ row ∷ []) → AtIt (AreLeft (suc k) count) (before ++ row ∷ [])
        → row.at + four < end_of start whole → IsDone origin count row.at ⊎ Comes k count row
    one_call k count before row rest cut tail behind is late leading fresh few long = elim (leb_tells count (t.raft_server.memory.matched m)) [
      | inl z ↦ inl (record {
        before = before;
        row = row;
        rest = rest;
        cut = cut;
        tail = tail;
        behind = behind;
        stepped = is;
        soon = omega arith;
        known = λ u is_up. subst (λ (v : AllocatorState). count ≤ v.raft_server.memory.matched m) (same_server t u (sym up ∙ is_up)) z.1;
      })
      | inr z ↦ elim (in_touch before rest row cut is leading t up) [
        | inr quiet ↦ absurd (let high = z.1 in let inside = (few t up).1 in let near = (fresh t up).near in omega (arith, quiet, high, inside, near))
        | inl some ↦ inr (further some.0 some.1 z.1)
      ]
    ]
      where
        t : AllocatorState
        t = (it_at (before ++ row ∷ []) rest (cut_row before rest row cut)).0

        up : ((then_ (before ++ row ∷ [])).member n).status ≡ Up t
        up = (it_at (before ++ row ∷ []) rest (cut_row before rest row cut)).1

        further : (asked : Request) → t.raft_server.memory.pending m ≡ Some asked → t.raft_server.memory.matched m < count → Comes k count row
        further asked pends high = record {
          before = taken.before;
          row = taken.row;
          rest = taken.rest;
          cut = taken.cut;
          tail = tail ++ (taken.between ++ taken.row ∷ []);
          behind = joined ∙ (ap (λ (l : List Timed). l ++ (taken.between ++ taken.row ∷ [])) behind ∙ append_assoc origin tail (taken.between ++ taken.row ∷ []));
          stepped = taken.stepped;
          soon = taken.soon;
          late = behind_call;
          leading = taken_leading before rest row cut asked made taken;
          fresh = taken_fresh before rest row cut asked made taken;
          left = λ u is_up.
              let l = longer m term (t.raft_server.memory.matched m) t.raft_server.store.log (left_of ids rows laws group clocks pace start n term whole calm m t)
              (t.raft_server.memory.next m) u.raft_server (later u is_up) in
              let inside = (few t up).1 in
              (left u is_up, omega (arith, l, inside));
        }
          where
            made : MadeIn before row asked
            made = made_here before rest row cut leading t up asked pends ((fresh t up).made asked pends)

            -- it carries the entry at the next place
            reaches : reach asked ≡ t.raft_server.memory.next m
            reaches =
                let inside = (few t up).1 in
                let above = (fresh t up).above in
                let near = (fresh t up).near in
                ap reach (made.owed t up) ∙ reach_owed ((then_ before).rows + 1) m t (omega (arith, above)) (omega (arith, near, inside, high))

            taken : TakenIn before row asked
            taken = comes_back ids rows laws group clocks pace start n term whole calm m in_m other short can before rest row cut asked made late
                (let ends = end_from before rest row cut in omega (arith, long, ends))

            -- the row of the answer stands behind that of the call
            behind_call : can.number ≤ (then_ taken.before).rows
            behind_call =
                let here_rows = rows_counted w before in
                let there_rows = rows_counted w taken.before in
                let size = ap length taken.behind ∙ length-append (before ++ row ∷ []) taken.between in
                let more = length-append before (row ∷ []) in
                omega (arith, late, here_rows, there_rows, size, more)

            joined : taken.before ++ taken.row ∷ [] ≡ (before ++ row ∷ []) ++ (taken.between ++ taken.row ∷ [])
            joined = taken_joined before rest row cut asked made taken

            later : AtIt (AtLeast ids rows laws group clocks pace start n term whole calm m (t.raft_server.memory.matched m) t.raft_server.store.log
                (left_of ids rows laws group clocks pace start n term whole calm m t) (t.raft_server.memory.next m)) (taken.before ++ taken.row ∷ [])
            later = subst (AtIt (AtLeast ids rows laws group clocks pace start n term whole calm m (t.raft_server.memory.matched m) t.raft_server.store.log
                (left_of ids rows laws group clocks pace start n term whole calm m t) (t.raft_server.memory.next m))) (sym joined)
                (grown ids rows laws group clocks pace start n term whole calm m (before ++ row ∷ []) (taken.between ++ taken.row ∷ []) taken.rest
                (t.raft_server.memory.next m)
                (cut_row taken.before taken.rest taken.row taken.cut ∙ ap (λ (l : List Timed). l ++ taken.rest) joined) leading t up (omega arith))

            held : HeldAs asked taken.next taken.matched t
            held = subst (AtIt (HeldAs asked taken.next taken.matched)) (append-nil (before ++ row ∷ [])) (taken.holds [] taken.between refl) t up

            left : AtIt (λ u. still_left (u.raft_server.memory.next m) (u.raft_server.memory.matched m) count ≤ k) (taken.before ++ taken.row ∷ [])
            left u is_up =
                let all = (few t up).0 in
                let above = (fresh t up).above in
                let reach_is = reaches in
                let next_then = held.1 in
                let matched_then = held.2 in
                elim (taken.taken u is_up).1 [
                  | inl there ↦ let x = there.0 in let next = there.1 in omega (arith, x, next, all, above, reach_is, high)
                  | inr back ↦ let match = back.0 in let next = back.1 in let far = back.2 in
                      omega (arith, match, next, far, all, next_then, matched_then)
                ]

    -- one that is done is done later too
    pub done_later : (count last more_time : ℕ) → last ≤ more_time → IsDone origin count last → IsDone origin count more_time
    done_later count last more_time low d = record {
      before = d.before;
      row = d.row;
      rest = d.rest;
      cut = d.cut;
      tail = d.tail;
      behind = d.behind;
      stepped = d.stepped;
      soon = let s = d.soon in omega (arith, s, low);
      known = d.known;
    }

    pub by_calls : (k count : ℕ) (before : List Timed) (row : Timed) (rest : List Timed) → whole ≡ before ++ row ∷ rest → (tail : List Timed)
        → before ++ row ∷ [] ≡ origin ++ tail → IsStep before row → can.number ≤ (then_ before).rows → IsLeading (before ++ row ∷ [])
        → AtIt (Fresh before) (before ++ row ∷ []) → AtIt (AreLeft k count) (before ++ row ∷ [])
        → row.at + span k < end_of start whole → IsDone origin count (row.at + span k)
    unfolding span
    by_calls zero count before row rest cut tail behind is late leading fresh few long = record {
      before = before;
      row = row;
      rest = rest;
      cut = cut;
      tail = tail;
      behind = behind;
      stepped = is;
      soon = omega arith;
      known = λ t up. let f = (few t up).0 in omega (arith, f);
    }
    by_calls (suc k) count before row rest cut tail behind is late leading fresh few long =
        elim (one_call k count before row rest cut tail behind is late leading fresh few (omega (arith, long))) [
          | inl d ↦ done_later count row.at (row.at + (four + span k)) (omega arith) d
          | inr c ↦ let soon = c.soon in done_later count (c.row.at + span k) (row.at + (four + span k)) (omega (arith, soon))
              (by_calls k count c.before c.row c.rest c.cut c.tail c.behind c.stepped c.late c.leading c.fresh c.left (omega (arith, soon, long)))
        ]
