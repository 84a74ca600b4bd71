-- From any moment on at which a leader leads in a calm its entries come to a member: its next step calls the member, or a
-- call is under way, or the leader knows the member to have them.
use Rattle.std.proofs.Common.{◌≡◌, ◌≢◌, ℕ, ◌+◌, ◌*◌, ◌<◌, ◌≤◌, List, [], ◌∷◌, ◌++◌, length, length-append, append_assoc, max, refl, sym, ◌∙◌, ap, subst, inl, inr, arith, Option, None, Some}
use Rattle.std.specs.Prelude.{⊤, ◌⊎◌}
use Rattle.std.proofs.lemmas.List.{append_cancel_left}
use Rattle.can_frame.specs.Timing.{call_timeout}
use Rattle.raft_model.specs.Lists.{In}
use Rattle.raft_model.specs.Messages.{Request}
use Rattle.alloc_spec.specs.AllocatorState.{AllocatorState}
use Rattle.alloc_spec.specs.Step.{Event}
use Rattle.alloc_spec_laws.proofs.Lists.{in_back}
use Rattle.bus_rows.specs.Timed.{Timed, rows_in}
use Rattle.service_alone.specs.Calm.{Pace, end_of}
use Rattle.service_calm.specs.Calm.{Member as OfMember, Party}
use Rattle.service_leader.specs.CallsComeBack.{LeadsIfUp}
use Rattle.service_leader.specs.Entries.{GoesOnCalling, PendsSince, come_within}
use Rattle.service_leader.proofs.EntriesBack.{IsTaken, comes_back}
use Rattle.service_leader.proofs.EntriesComing.{AtIt, HeldAs, IsDone, IsLeading, by_calls, cut_row, done_later, end_from, from_start, in_touch, it_at, leads_on, span, span_is, taken_fresh, taken_leading, then_}
use Rattle.service_leader.proofs.EntriesParts.{IsFirst, IsSecond, Ticks, in_either, reads_step, rows_counted, ticks_by}
use Rattle.service_leader.proofs.EntriesPending.{IsSince, WasCalled, appends_at, called_since, in_term_at, was_called, was_called_from}
use Rattle.service_leader.proofs.EntriesReturn.{GetsAnswers}
use Rattle.service_leader.specs.EntriesBelow.{EntryLaws}
use Rattle.service_leader.proofs.EntriesRows.{AtLeast, IsLedCalm, grown, left_of}
use Rattle.service_leader.proofs.EntriesSteps.{longer}
use Rattle.service_calm.proofs.Pair.{same_server}
use Rattle.service_leader.proofs.Stretches.{GoesOnFrom, calm_first, calm_rest, end_both, end_last, in_between, not_before}
use Rattle.bus_spec.specs.Cluster.{Cluster, after_rows, step_of, world_of}
use Rattle.bus_spec.specs.Members.MemberStatus.{Up}

-- what is not none is some
some_of : (p : Option Request) → p ≢ None → (asked : Request) × (p ≡ Some asked)
some_of None some = absurd (some refl)
some_of (Some asked) some = (asked, refl)

module _ (ids : List ℕ) (rows : List _) (laws : EntryLaws ids rows) (group : List Party) (clocks : Party → ℕ) (pace : Pace) (start n term : ℕ)
    (whole : List Timed)
    (calm : IsLedCalm ids rows group clocks pace start n term whole) (m : ℕ) (in_m : In (OfMember m) group) (other : m ≢ n)
    (short : 4 * pace.delay < call_timeout)
    (can : GetsAnswers n m pace.delay (world_of ids rows) whole)
    (first : List Timed) (leading : LeadsIfUp n term (after_rows (world_of ids rows) (rows_in first)))
    (late_first : can.number ≤ (after_rows (world_of ids rows) (rows_in first)).rows)
    (since_first : PendsSince n m can.number (after_rows (world_of ids rows) (rows_in first)))
    (goes_first : GoesOnCalling n m (after_rows (world_of ids rows) (rows_in first))) where
  abbrev w : Cluster
  w = world_of ids rows

  abbrev there : List Timed → Cluster
  there = then_ ids rows laws group clocks pace start n term whole calm m in_m other short can

  abbrev AtOnce : (AllocatorState → Type 0) → List Timed → Type 0
  AtOnce = AtIt ids rows laws group clocks pace start n term whole calm m in_m other short can

  abbrev Leads : List Timed → Type 0
  Leads = IsLeading ids rows laws group clocks pace start n term whole calm m in_m other short can

  abbrev Taken : List Timed → Timed → Request → Type 0
  Taken = IsTaken ids rows laws group clocks pace start n term whole calm m in_m other short can

  abbrev Called : Request → List Timed → Type 0
  Called = WasCalled ids rows laws group clocks pace start n term whole calm m

  abbrev pub Done : (origin : List Timed) (count last : ℕ) → Type 0
  Done = IsDone ids rows laws group clocks pace start n term whole calm m in_m other short can

  abbrev cuts : (a b : List Timed) (x : Timed) → whole ≡ a ++ x ∷ b → whole ≡ (a ++ x ∷ []) ++ b
  cuts = cut_row ids rows laws group clocks pace start n term whole calm m in_m other short can

  abbrev delays : ℕ → ℕ
  delays = span ids rows laws group clocks pace start n term whole calm m in_m other short can

  abbrev server : (a b : List Timed) → whole ≡ a ++ b → (t : AllocatorState) × (((there a).member n).status ≡ Up t)
  server = it_at ids rows laws group clocks pace start n term whole calm m in_m other short can

  -- what is known behind a front is known further on
  abbrev Known : AllocatorState → (over : ℕ) → AllocatorState → Type 0
  Known t = AtLeast ids rows laws group clocks pace start n term whole calm m (t.raft_server.memory.matched m) t.raft_server.store.log
      (left_of ids rows laws group clocks pace start n term whole calm m t)

  -- the next call begins no further on than the log and what the leader knows the member to have
  abbrev Near : AllocatorState → Type 0
  Near t = t.raft_server.memory.next m ≤ max (length t.raft_server.store.log) (t.raft_server.memory.matched m + 1)

  -- ---- fronts

  cut_behind : (a c b : List Timed) → whole ≡ (a ++ c) ++ b → whole ≡ a ++ (c ++ b)
  cut_behind a c b cut = cut ∙ append_assoc a c b

  -- the leader leads behind the first rows
  leads_behind : (c b : List Timed) → whole ≡ (first ++ c) ++ b → Leads (first ++ c)
  leads_behind c b cut = leads_on ids rows laws group clocks pace start n term whole calm m in_m other short can first c b cut (cut_behind first c b cut) leading

  -- moments do not go back
  end_grows : (a c b : List Timed) → whole ≡ (a ++ c) ++ b → end_of start a ≤ end_of start (a ++ c)
  end_grows a c b cut =
      let later = not_before group clocks pace c (end_of start a) (there a)
      (calm_first group clocks pace c b (end_of start a) (there a) (calm_rest group clocks pace a (c ++ b) start w
      (from_start ids rows laws group clocks pace start n term whole calm m in_m other short can a (c ++ b) (cut_behind a c b cut)))) in
      let both = end_both start a c in
      omega (arith, later, both)

  -- ---- a call that pends behind a front

  module _ (asked : Request) (a b : List Timed) (cut : whole ≡ a ++ b) (since : Called asked a) where
    cut_since : whole ≡ since.earlier ++ since.row ∷ (since.later ++ b)
    cut_since = cut ∙ (ap (λ (l : List Timed). l ++ b) since.split ∙ append_assoc since.earlier (since.row ∷ since.later) b)

    -- it was made by then
    by_then : since.row.at ≤ end_of start a
    by_then = (in_between group clocks pace a start w
        (calm_first group clocks pace a b start w
        (from_start ids rows laws group clocks pace start n term whole calm m in_m other short can a b cut)) since.row
        (subst (In since.row) (sym since.split) (in_back since.row since.earlier (since.row ∷ since.later) (inl refl)))).1

    -- its answer is taken
    answered : can.number < asked.step → end_of start a + 4 * pace.delay < end_of start whole → Taken since.earlier since.row asked
    answered late long = comes_back ids rows laws group clocks pace start n term whole calm m in_m other short can since.earlier
        (since.later ++ b) since.row cut_since asked since.made (let its = ap (λ (r : Request). r.step) since.made.said in omega (arith, late, its))
        (let ends = end_from ids rows laws group clocks pace start n term whole calm m in_m other short can since.earlier
        (since.later ++ b) since.row cut_since in
        let low = by_then in
        omega (arith, low, ends, long))

    module _ (taken : Taken since.earlier since.row asked) where
      abbrev base : List Timed
      base = since.earlier ++ since.row ∷ []

      -- the rows behind the call, up to the front and behind it, and up to the answer and behind it
      both : since.later ++ b ≡ taken.between ++ taken.row ∷ taken.rest
      both = append_cancel_left base (since.later ++ b) (taken.between ++ taken.row ∷ taken.rest)
          (sym (cut_since ∙ sym (append_assoc since.earlier (since.row ∷ []) (since.later ++ b)))
          ∙ (taken.cut ∙ (ap (λ (l : List Timed). l ++ taken.row ∷ taken.rest) taken.behind ∙ append_assoc base taken.between (taken.row ∷ taken.rest))))

      -- the front is the row of the call and those behind it
      front_is : a ≡ base ++ since.later
      front_is = since.split ∙ sym (append_assoc since.earlier (since.row ∷ []) since.later)

      taken_is : taken.before ++ taken.row ∷ [] ≡ base ++ (taken.between ++ taken.row ∷ [])
      taken_is = ap (λ (l : List Timed). l ++ taken.row ∷ []) taken.behind ∙ append_assoc base taken.between (taken.row ∷ [])

      -- the row in which the answer is taken does not stand before the front, behind which the call pends still
      not_yet : IsFirst since.later b taken.between taken.rest taken.row → ⊥
      not_yet before = omega (arith, its, taken_step, count, earlier, size, more_size)
        where
          -- the call pends behind the row
          still : AtOnce (λ t. t.raft_server.memory.pending m ≡ Some asked) (taken.before ++ taken.row ∷ [])
          still = subst (AtOnce (λ t. t.raft_server.memory.pending m ≡ Some asked))
              (sym (taken_is ∙ append_assoc since.earlier (since.row ∷ []) (taken.between ++ taken.row ∷ [])))
              (λ t up. (since.since (taken.between ++ taken.row ∷ []) before.tail
              (before.split ∙ sym (append_assoc taken.between (taken.row ∷ []) before.tail)) t up).0)

          t : (t : AllocatorState) × (((there (taken.before ++ taken.row ∷ [])).member n).status ≡ Up t)
          t = server (taken.before ++ taken.row ∷ []) taken.rest (cuts taken.before taken.rest taken.row taken.cut)

          its : asked.step ≡ (there since.earlier).rows + 1
          its = ap (λ (r : Request). r.step) since.made.said

          taken_step : asked.step ≡ (there taken.before).rows + 1
          taken_step = (taken.taken t.0 t.1).0 asked (still t.0 t.1)

          count : (there taken.before).rows ≡ w.rows + length taken.before
          count = rows_counted w taken.before

          earlier : (there since.earlier).rows ≡ w.rows + length since.earlier
          earlier = rows_counted w since.earlier

          size : length taken.before ≡ length base + length taken.between
          size = ap length taken.behind ∙ length-append base taken.between

          more_size : length base ≡ length since.earlier + 1
          more_size = length-append since.earlier (since.row ∷ [])

  -- ---- behind the first rows the leader goes on calling

  abbrev GoesOn : AllocatorState → Type 0
  GoesOn t = ((asked : Request) × (t.raft_server.memory.pending m ≡ Some asked)) ⊎ Near t

  goes_on_calling : (c b : List Timed) → whole ≡ (first ++ c) ++ b → end_of start first + 4 * pace.delay < end_of start whole → AtOnce GoesOn (first ++ c)
  goes_on_calling c b cut long u is_up = elim (goes_first t.0 t.1) [
    | inr near ↦ inr (near_from first c b cut leading t.0 t.1 near u is_up)
    | inl some ↦ from_call (some_of (t.0.raft_server.memory.pending m) some)
  ]
    where
      cut_first : whole ≡ first ++ (c ++ b)
      cut_first = cut_behind first c b cut

      t : (t : AllocatorState) × (((there first).member n).status ≡ Up t)
      t = server first (c ++ b) cut_first

      near_from : (a e d : List Timed) → whole ≡ (a ++ e) ++ d → Leads a → (s : AllocatorState) → ((there a).member n).status ≡ Up s → Near s → AtOnce Near (a ++ e)
      near_from a e d split leads s up near v v_up =
          let k = (grown ids rows laws group clocks pace start n term whole calm m a e d 0 split leads s up (omega (arith, near)) v v_up).near in
          omega (arith, k)

      -- a call that pends behind the first rows is answered, or pends still
      from_call : (asked : Request) × (t.0.raft_server.memory.pending m ≡ Some asked) → GoesOn u
      from_call call = elim (in_either (since.later ++ c) b taken.between taken.rest taken.row
          (append_assoc since.later c b ∙ both asked first (c ++ b) cut_first since taken)) [
            | inl before ↦ inr (near_then before)
            | inr later ↦ inl (asked, still later)
          ]
        where
          asked : Request
          asked = call.0

          since : Called asked first
          since = was_called ids rows laws group clocks pace start n term whole calm m first (c ++ b) cut_first t.0 t.1 asked
              (let later = since_first t.0 asked t.1 call.1 in let above = can.above in omega (arith, later, above))
              (appends_at ids rows laws group clocks pace start n term whole calm m first (c ++ b) cut_first leading t.0 t.1 asked call.1)
              (in_term_at ids rows laws group clocks pace start n term whole calm m first (c ++ b) cut_first leading t.0 t.1 asked call.1) call.1

          taken : Taken since.earlier since.row asked
          taken = answered asked first (c ++ b) cut_first since (since_first t.0 asked t.1 call.1) long

          front_then : first ++ c ≡ (since.earlier ++ since.row ∷ []) ++ (since.later ++ c)
          front_then = ap (λ (l : List Timed). l ++ c) (front_is asked first (c ++ b) cut_first since taken)
              ∙ append_assoc (since.earlier ++ since.row ∷ []) since.later c

          near_then : IsFirst (since.later ++ c) b taken.between taken.rest taken.row → Near u
          near_then before =
              let s = server (taken.before ++ taken.row ∷ []) taken.rest (cuts taken.before taken.rest taken.row taken.cut) in
              let same : first ++ c ≡ (taken.before ++ taken.row ∷ []) ++ before.tail
              = front_then ∙ (ap (λ (l : List Timed). (since.earlier ++ since.row ∷ []) ++ l) (before.split ∙ sym (append_assoc taken.between (taken.row ∷ []) before.tail))
              ∙ (sym (append_assoc (since.earlier ++ since.row ∷ []) (taken.between ++ taken.row ∷ []) before.tail)
              ∙ ap (λ (l : List Timed). l ++ before.tail) (sym (taken_is asked first (c ++ b) cut_first since taken)))) in
              subst (AtOnce Near) (sym same)
              (near_from (taken.before ++ taken.row ∷ []) before.tail b (cut ∙ ap (λ (l : List Timed). l ++ b) same)
              (taken_leading ids rows laws group clocks pace start n term whole calm m in_m other short can since.earlier (since.later ++ (c ++ b)) since.row
              (cut_since asked first (c ++ b) cut_first since) asked since.made taken)
              s.0 s.1
              (taken_fresh ids rows laws group clocks pace start n term whole calm m in_m other short can since.earlier (since.later ++ (c ++ b)) since.row
              (cut_since asked first (c ++ b) cut_first since) asked since.made taken s.0 s.1).near) u is_up

          still : IsSecond (since.later ++ c) b taken.between taken.rest taken.row → u.raft_server.memory.pending m ≡ Some asked
          still later = (subst (AtOnce (HeldAs ids rows laws group clocks pace start n term whole calm m in_m other short can asked taken.next taken.matched)) (sym front_then)
              (taken.holds (since.later ++ c) later.tail later.split) u is_up).0

  -- ---- from a row on that is a step of the leader

  module _ (e : List Timed) (t : AllocatorState) (up : ((there (first ++ e)).member n).status ≡ Up t) (c d : List Timed) (x : Timed)
      (cut : whole ≡ ((first ++ e) ++ c) ++ x ∷ d)
      (is : (event : Event) × (step_of (there ((first ++ e) ++ c)) x.row ≡ Some (n, event))) (left : ℕ)
      (few : left_of ids rows laws group clocks pace start n term whole calm m t ≤ left)
      (long : x.at + (4 * pace.delay + delays left) < end_of start whole) where
    abbrev a : List Timed
    a = first ++ e

    abbrev count : ℕ
    count = length t.raft_server.store.log

    abbrev upto : List Timed
    upto = (a ++ c) ++ x ∷ []

    cut_upto : whole ≡ upto ++ d
    cut_upto = cuts (a ++ c) d x cut

    joined : upto ≡ a ++ (c ++ x ∷ [])
    joined = append_assoc a c (x ∷ [])

    joined_first : upto ≡ first ++ (e ++ (c ++ x ∷ []))
    joined_first = joined ∙ append_assoc first e (c ++ x ∷ [])

    -- what is known behind the front is known further on
    knows : (f g : List Timed) → whole ≡ (a ++ f) ++ g → AtOnce (Known t (t.raft_server.memory.next m)) (a ++ f)
    knows f g split = grown ids rows laws group clocks pace start n term whole calm m a f g (t.raft_server.memory.next m) split
        (leads_behind e (f ++ g) (cut_behind a f g split)) t up (omega arith)

    u : (u : AllocatorState) × (((there upto).member n).status ≡ Up u)
    u = server upto d cut_upto

    leads_upto : Leads upto
    leads_upto = subst Leads (sym joined_first) (leads_behind (e ++ (c ++ x ∷ [])) d (cut_upto ∙ ap (λ (l : List Timed). l ++ d) joined_first))

    known_upto : AtOnce (Known t (t.raft_server.memory.next m)) upto
    known_upto = subst (AtOnce (Known t (t.raft_server.memory.next m))) (sym joined)
        (knows (c ++ x ∷ []) d (cut_upto ∙ ap (λ (l : List Timed). l ++ d) joined))

    ends_there : end_of start upto ≡ x.at
    ends_there = end_last start (a ++ c) x

    goes_upto : GoesOn u.0
    goes_upto = subst (AtOnce GoesOn) (sym joined_first)
        (goes_on_calling (e ++ (c ++ x ∷ [])) d (cut_upto ∙ ap (λ (l : List Timed). l ++ d) joined_first)
        (let grows = end_grows first (e ++ (c ++ x ∷ [])) d (cut_upto ∙ ap (λ (l : List Timed). l ++ d) joined_first) in
        let same = ap (end_of start) joined_first in
        let ends = ends_there in
        omega (arith, grows, same, ends, long))) u.0 u.1

    -- there is nothing new for the member
    at_once : Near u.0 → length u.0.raft_server.store.log < u.0.raft_server.memory.next m → Done a count x.at
    at_once near quiet = record {
      before = a ++ c;
      row = x;
      rest = d;
      cut = cut;
      tail = c ++ x ∷ [];
      behind = joined;
      stepped = is;
      soon = omega arith;
      known = λ v is_up.
          let same = same_server u.0 v (sym u.1 ∙ is_up) in
          let log = longer m term (t.raft_server.memory.matched m) t.raft_server.store.log
          (left_of ids rows laws group clocks pace start n term whole calm m t) (t.raft_server.memory.next m) u.0.raft_server (known_upto u.0 u.1) in
          subst (λ (y : AllocatorState). count ≤ y.raft_server.memory.matched m) same (omega (arith, quiet, near, log));
    }

    -- a call is under way
    module _ (asked : Request) (pends : u.0.raft_server.memory.pending m ≡ Some asked) where
      since : Called asked upto
      since = subst (IsSince ids rows laws group clocks pace start n term whole calm m (λ any. ⊤)) (sym joined_first)
          (was_called_from ids rows laws group clocks pace start n term whole calm m can.number can.above first (e ++ (c ++ x ∷ [])) d
          (cut_upto ∙ ap (λ (l : List Timed). l ++ d) joined_first) since_first) u.0 u.1 asked tt
          (appends_at ids rows laws group clocks pace start n term whole calm m upto d cut_upto leads_upto u.0 u.1 asked pends)
          (in_term_at ids rows laws group clocks pace start n term whole calm m upto d cut_upto leads_upto u.0 u.1 asked pends) pends

      late : can.number < asked.step
      late = called_since ids rows laws group clocks pace start n term whole calm m can.number can.above first (e ++ (c ++ x ∷ [])) d
          (cut_upto ∙ ap (λ (l : List Timed). l ++ d) joined_first) since_first late_first asked (subst (Called asked) joined_first since)

      taken : Taken since.earlier since.row asked
      taken = answered asked upto d cut_upto since late (let ends = ends_there in omega (arith, ends, long))

      -- the answer is taken later, and the rest comes from there on
      by_answer : IsSecond since.later d taken.between taken.rest taken.row → Done a count (x.at + (4 * pace.delay + delays left))
      by_answer second =
          let soon = taken.soon in
          let by = by_then asked upto d cut_upto since in
          let ends = ends_there in
          done_later ids rows laws group clocks pace start n term whole calm m in_m other short can a count (taken.row.at + delays left)
          (x.at + (4 * pace.delay + delays left)) (omega (arith, soon, by, ends))
          (by_calls ids rows laws group clocks pace start n term whole calm m in_m other short can a left count
          taken.before taken.row taken.rest taken.cut ((c ++ x ∷ []) ++ (second.tail ++ taken.row ∷ [])) after taken.stepped behind_call
          (taken_leading ids rows laws group clocks pace start n term whole calm m in_m other short can since.earlier (since.later ++ d) since.row
          (cut_since asked upto d cut_upto since) asked since.made taken)
          (taken_fresh ids rows laws group clocks pace start n term whole calm m in_m other short can since.earlier (since.later ++ d) since.row
          (cut_since asked upto d cut_upto since) asked since.made taken)
          (λ v is_up. let k = known_then v is_up in let fewer = k.few in let log = longer m term
          (t.raft_server.memory.matched m) t.raft_server.store.log (left_of ids rows laws group clocks pace start n term whole calm m t)
          (t.raft_server.memory.next m) v.raft_server k in (omega (arith, fewer, few), omega (arith, log)))
          (omega (arith, soon, by, ends, long)))
        where
          after : taken.before ++ taken.row ∷ [] ≡ a ++ ((c ++ x ∷ []) ++ (second.tail ++ taken.row ∷ []))
          after = taken_is asked upto d cut_upto since taken
              ∙ (ap (λ (l : List Timed). (since.earlier ++ since.row ∷ []) ++ (l ++ taken.row ∷ [])) second.split
              ∙ (ap (λ (l : List Timed). (since.earlier ++ since.row ∷ []) ++ l) (append_assoc since.later second.tail (taken.row ∷ []))
              ∙ (sym (append_assoc (since.earlier ++ since.row ∷ []) since.later (second.tail ++ taken.row ∷ []))
              ∙ (ap (λ (l : List Timed). l ++ (second.tail ++ taken.row ∷ [])) (sym (front_is asked upto d cut_upto since taken) ∙ joined)
              ∙ append_assoc a (c ++ x ∷ []) (second.tail ++ taken.row ∷ [])))))

          -- the row of the answer stands behind that of the call
          behind_call : can.number ≤ (there taken.before).rows
          behind_call =
              let low = late in
              let its = ap (λ (r : Request). r.step) since.made.said in
              let here_rows = rows_counted w since.earlier in
              let there_rows = rows_counted w taken.before in
              let size = ap length taken.behind ∙ length-append (since.earlier ++ since.row ∷ []) taken.between in
              let more = length-append since.earlier (since.row ∷ []) in
              omega (arith, low, its, here_rows, there_rows, size, more)

          known_then : AtOnce (Known t (t.raft_server.memory.next m)) (taken.before ++ taken.row ∷ [])
          known_then = subst (AtOnce (Known t (t.raft_server.memory.next m)))
              (sym after) (knows ((c ++ x ∷ []) ++ (second.tail ++ taken.row ∷ [])) taken.rest
              (cuts taken.before taken.rest taken.row taken.cut ∙ ap (λ (l : List Timed). l ++ taken.rest) after))

      by_call : Done a count (x.at + (4 * pace.delay + delays left))
      by_call = elim (in_either since.later d taken.between taken.rest taken.row (both asked upto d cut_upto since taken)) [
        | inl before ↦ absurd (not_yet asked upto d cut_upto since taken before)
        | inr second ↦ by_answer second
      ]

    comes_from_step : Done a count (x.at + (4 * pace.delay + delays left))
    comes_from_step = elim (in_touch ids rows laws group clocks pace start n term whole calm m in_m other short can (a ++ c) d x cut is leads_upto u.0 u.1) [
      | inl some ↦ by_call some.0 some.1
      | inr quiet ↦ elim goes_upto [
        | inl some ↦ by_call some.0 some.1
        | inr near ↦ done_later ids rows laws group clocks pace start n term whole calm m in_m other short can a count x.at
            (x.at + (4 * pace.delay + delays left)) (omega arith) (at_once near quiet)
      ]
    ]

  -- the leader reads its clock within a period
  pub record NextTick (a : List Timed) : Type 0 where
    pub front : List Timed
    pub row : Timed
    pub more : List Timed
    pub split : whole ≡ (a ++ front) ++ row ∷ more
    pub soon : row.at ≤ end_of start a + pace.period
    pub stepped : (event : Event) × (step_of (there (a ++ front)) row.row ≡ Some (n, event))

  pub next_tick : (a b : List Timed) → whole ≡ a ++ b → end_of start a + pace.period < end_of start whole → NextTick a
  next_tick a b cut long = record {
    front = ticks.front;
    row = ticks.row;
    more = ticks.more;
    split = cut ∙ (ap (λ (l : List Timed). a ++ l) ticks.split ∙ sym (append_assoc a ticks.front (ticks.row ∷ ticks.more)));
    soon = ticks.soon;
    stepped = reads_step (there (a ++ ticks.front)) ticks.row.row n ticks.ticks;
  }
    where
      goes : GoesOnFrom group clocks pace (end_of start a) (there a) b
      goes = calm_rest group clocks pace a b start w
          (from_start ids rows laws group clocks pace start n term whole calm m in_m other short can a b cut)

      ticks : Ticks group clocks pace n calm.member (end_of start a) b
      ticks = ticks_by group clocks pace n calm.member b (end_of start a) goes.traffic (there a) goes.calm (goes.ticked (OfMember n))
          (let e = goes.at_end in omega (arith, e))
          (let same = ap (λ (k : ℕ). end_of k b) goes.at_end in
          let ends = ap (end_of start) cut ∙ end_both start a b in
          omega (arith, same, ends, long))

  -- the places of the log come in time
  pub comes : (e b : List Timed) → whole ≡ (first ++ e) ++ b → (t : AllocatorState) → ((there (first ++ e)).member n).status ≡ Up t → (left : ℕ)
      → left_of ids rows laws group clocks pace start n term whole calm m t ≤ left → end_of start (first ++ e) + come_within pace left < end_of start whole
      → Done (first ++ e) (length t.raft_server.store.log) (end_of start (first ++ e) + come_within pace left)
  comes e b cut t up left few long =
      done_later ids rows laws group clocks pace start n term whole calm m in_m other short can (first ++ e) (length t.raft_server.store.log)
      (tick.row.at + (4 * pace.delay + delays left)) (end_of start (first ++ e) + come_within pace left)
      (let soon = tick.soon in let same = spans in omega (arith, soon, same))
      (comes_from_step e t up tick.front tick.more tick.row tick.split tick.stepped left few
      (let soon = tick.soon in let same = spans in omega (arith, soon, same, long)))
    where
      spans : come_within pace left ≡ pace.period + (4 * pace.delay + delays left)
      spans = let e = span_is ids rows laws group clocks pace start n term whole calm m in_m other short can left in omega (arith, e)

      tick : NextTick (first ++ e)
      tick = next_tick (first ++ e) b cut (let e = spans in omega (arith, e, long))
