-- Where a member leads in a term that no other one is above, and nobody stands for election until it was heard, no
-- election comes: row by row each other member has heard it lately.
use Rattle.std.proofs.Common.{◌≡◌, ◌≢◌, ℕ, ◌+◌, ◌<◌, ◌≤◌, arith, max, List, [], ◌∷◌, ◌++◌, refl, sym, ◌∙◌, ap, subst, inl, inr}
use Rattle.std.proofs.lemmas.Bool.Decides.{eqb_tells}
use Rattle.std.proofs.lemmas.List.{append_assoc, append-nil}
use Rattle.can_frame.specs.Timing.{election_wait}
use Rattle.raft_model.specs.Lists.{In}
use Rattle.bus_rows.specs.declared.row.Row.{Row}
use Rattle.bus_rows.specs.declared.row.Row.TheVariants.{AEnd, AOpen, ARx, ASend, ATick, Crash, Ext, Fault, Open, Rx, Send, Tick}
use Rattle.alloc_spec.specs.AllocatorState.{AllocatorState}
use Rattle.bus_rows.specs.Timed.{Timed, rows_in}
use Rattle.service_alone.specs.Calm.{Pace, end_of}
use Rattle.service_alone.proofs.Goes.{after_both}
use Rattle.service_candidate.specs.Terms.{AreWithin}
use Rattle.service_candidate.specs.Votes.{Stands}
use Rattle.service_candidate.specs.Waits.{WaitsBeginThen}
use Rattle.service_leader.specs.Entries.{CanExchange}
use Rattle.service_leader.specs.LeadsOn.{IsLed, LeadsIn, NobodyStands, WaitsOn}
use Rattle.service_leader.specs.NoElection.{HasHeard, NoElection, greatest_wait, heard_within}
use Rattle.service_leader.proofs.NextCall.{HasRead, IsHeeded}
use Rattle.service_leader.proofs.NoElectionBegins.{hears_in_time}
use Rattle.service_leader.proofs.Stretches.{GoesOnFrom, end_both, end_last, fits_rest, harmless_rest, none_or_last, not_before, calm_first, throughout_by, throughout_more, world_both}
use Rattle.service_elections.specs.Running.{IsCalmOf, IsLedBy, NobodyStandsIn}
use Rattle.service_elections.proofs.CalmFronts.{Calm, calm_of, goes_at, harm_front, harm_in, harm_row, running_at}
use Rattle.service_elections.proofs.LeadsBelow.{LeadLaws}
use Rattle.service_elections.proofs.LeadsFronts.{leader_stands_not, nobody_more}
use Rattle.service_elections.proofs.LeadsLately.{GoesOnHere, HeardLately, Lately, heard_lately}
use Rattle.service_elections.proofs.LeadsRows.{heeded_at, run_at, within_at}
use Rattle.service_elections.proofs.NobodyStands.{nobody_front}
use Rattle.service_calm.specs.Calm.{IsCalmRow, Member as OfMember, Party, no_traffic}
use Rattle.service_calm.proofs.CallsKept.{RunsWith}
use Rattle.service_calm.proofs.Pair.{same_server}
use Rattle.bus_spec.specs.Cluster.{Cluster, after_row, after_rows, cluster, world_of}
use Rattle.bus_spec.specs.Members.MemberStatus.{Up}

-- where each row is such that nobody stands, nobody stands in all of them
waits_by : (n : ℕ) (rows : List Timed) (w : Cluster)
    → ((front rest : List Timed) (timed : Timed) → rows ≡ front ++ timed ∷ rest → WaitsOn n (after_rows w (rows_in front)) timed.row) → NobodyStands n w rows
waits_by n [] w waits = tt
waits_by n (first ∷ rows) w waits = (
  waits [] rows first refl,
  waits_by n rows (after_row w first.row) (λ front rest timed same. waits (first ∷ front) rest timed (ap (λ (l : List Timed). first ∷ l) same)),
)

module _ (ids : List ℕ) (rows : List Row) (laws : LeadLaws ids rows) (group : List Party) (clocks : Party → ℕ) (pace : Pace) (start n term : ℕ)
    (first few rest : List Timed) (calm : IsCalmOf ids rows group clocks pace start (first ++ (few ++ rest))) (in_n : In (OfMember n) group)
    (leads : LeadsIn n term (after_rows (world_of ids rows) (rows_in first)))
    (within : AreWithin group term (after_rows (world_of ids rows) (rows_in first)))
    (nobody : NobodyStandsIn group (after_rows (world_of ids rows) (rows_in first)) few)
    (long : end_of start first + heard_within pace < end_of (end_of start first) few) where
  abbrev w : Cluster
  w = world_of ids rows

  abbrev here : List Timed → Cluster
  here a = after_rows w (rows_in a)

  abbrev there : Cluster
  there = here first

  abbrev then_at : List Timed → Cluster
  then_at a = after_rows there (rows_in a)

  abbrev later : List Timed
  later = few ++ rest

  abbrev whole : List Timed
  whole = first ++ later

  abbrev cut_calm : Calm
  cut_calm = calm_of ids rows group clocks pace start whole calm

  abbrev begin : ℕ
  begin = end_of start first

  -- ---- the world behind the first rows

  run : (p : ℕ) → In (OfMember p) group → RunsWith (HasRead p (begin + clocks (OfMember p))) (there.member p)
  run p i = run_at ids rows laws group clocks pace start whole calm p i first later refl

  is_run : (p : ℕ) → In (OfMember p) group → (server : AllocatorState) → (there.member p).status ≡ Up server → HasRead p (begin + clocks (OfMember p)) server
  is_run p i server up = subst (HasRead p (begin + clocks (OfMember p))) (same_server (run p i).server server (sym (run p i).up.status ∙ up)) (run p i).holds

  begins : GoesOnHere group clocks pace begin n term later there
  begins = record {
    running = λ p i. running_at cut_calm p i first later refl;
    server_me = λ p i server up. (is_run p i server up).me;
    clocks_go = λ p i server up. (is_run p i server up).clock;
    from = goes_at cut_calm first later refl;
    harmless = harmless_rest w (rows_in first) (rows_in later) (harm_in cut_calm first later refl);
    fits = fits_rest n first later w (calm.calls_fit n in_n);
    hear = λ m i other. let x : CanExchange n m w whole = calm.exchange n m in_n i (λ e. other (sym e)) in record {
      calls = laws.calls.stay group clocks pace (no_traffic start) n m first later w (calm.running n in_n) calm.calm x.calls_it;
      hears = laws.calls.stay group clocks pace (no_traffic start) m n first later w (calm.running m i) calm.calm x.hears_it;
      in_time = hears_in_time ids rows laws.hear group clocks pace start calm.listed calm.running n m in_n i other first later
          (let s8 = calm.soon in omega (arith, s8)) x.calls x.first_call x.its_memory calm.calm;
    };
  }

  heard : HeardLately group clocks pace begin n term later there
  heard = subst (HeardLately group clocks pace begin n term later) (after_both (cluster ids) rows (rows_in first))
      (heard_lately ids (rows ++ rows_in first)
      (laws.calls_then (rows_in first) (harm_front cut_calm first later refl)) group clocks pace begin n term later in_n
      (let s8 = calm.soon in omega (arith, s8)))

  -- moments do not go back behind the first few rows
  from_few : GoesOnFrom group clocks pace (end_of begin few) (then_at few) rest
  from_few = subst (λ (v : Cluster). GoesOnFrom group clocks pace (end_of begin few) v rest) (world_both w first few)
      (subst (λ (k : ℕ). GoesOnFrom group clocks pace k (here (first ++ few)) rest) (end_both start first few)
      (goes_at cut_calm (first ++ few) rest (sym (append_assoc first few rest))))

  not_sooner : (d e : List Timed) → rest ≡ d ++ e → end_of begin few ≤ end_of begin (few ++ d)
  not_sooner d e cut =
      let low = not_before group clocks pace d (end_of begin few) (then_at few)
      (calm_first group clocks pace d e (end_of begin few) (then_at few)
      (subst (GoesOnFrom group clocks pace (end_of begin few) (then_at few)) cut from_few)) in
      let ends = end_both begin few d in omega (arith, low, ends)

  -- ---- at a front up to which nobody stands

  module _ (a b : List Timed) (cut : later ≡ a ++ b) (none : NobodyStandsIn group there a) where
    cut_whole : whole ≡ first ++ (a ++ b)
    cut_whole = ap (λ (l : List Timed). first ++ l) cut

    cut_here : whole ≡ (first ++ a) ++ b
    cut_here = cut_whole ∙ sym (append_assoc first a b)

    heeded : (d e : List Timed) → a ≡ d ++ e → IsHeeded group n term (then_at d)
    heeded d e part = subst (IsHeeded group n term) (world_both w first d)
        (heeded_at ids rows laws group clocks pace start whole calm first a b cut_whole none n term in_n leads within d e part)

    within_then : AreWithin group term (then_at a)
    within_then = subst (AreWithin group term) (world_both w first a)
        (within_at ids rows laws group clocks pace start whole calm first a b cut_whole none term within a [] (sym (append-nil a)))

    leads_then : LeadsIn n term (then_at a)
    leads_then = (heeded a [] (sym (append-nil a))).leader

  -- in the next row each other member has heard the leader lately
  lately : (a b : List Timed) (x : Timed) → later ≡ a ++ x ∷ b → NobodyStandsIn group there a → begin + heard_within pace < x.at
      → (m : ℕ) → In (OfMember m) group → m ≢ n → Lately group clocks pace begin n term later there m a x
  lately a b x cut none long_x m i other = heard begins a b x cut
      (throughout_more (IsHeeded group n term) a x there
      (throughout_by (IsHeeded group n term) a there (λ d e y same. heeded a (x ∷ b) cut none d (y ∷ e) same))
      (heeded a (x ∷ b) cut none a [] (sym (append-nil a)))) m i other long_x

  -- ---- a row behind the first few

  module _ (done todo : List Timed) (x : Timed) (cut : rest ≡ done ++ x ∷ todo) (none : NobodyStandsIn group there (few ++ done)) where
    abbrev upto : List Timed
    upto = few ++ done

    upto_cut : later ≡ upto ++ x ∷ todo
    upto_cut = ap (λ (l : List Timed). few ++ l) cut ∙ sym (append_assoc few done (x ∷ todo))

    goes : GoesOnFrom group clocks pace (end_of start (first ++ upto)) (here (first ++ upto)) (x ∷ todo)
    goes = goes_at cut_calm (first ++ upto) (x ∷ todo) (cut_here upto (x ∷ todo) upto_cut none)

    -- it is later than the first call
    long_x : begin + heard_within pace < x.at
    long_x =
        let low = not_sooner done (x ∷ todo) cut in
        let ends = end_both start first upto in
        let then = goes.at_end in let next = goes.calm.0.moments in omega (arith, low, ends, then, next, long)

    -- no least wait is over
    waits : (m : ℕ) → In (OfMember m) group → m ≢ n → (server : AllocatorState) → ((then_at upto).member m).status ≡ Up server
        → (x.at + clocks (OfMember m) < server.times.since + election_wait) × (server.now ≤ x.at + clocks (OfMember m))
    waits m i other server up =
        let l = lately upto todo x upto_cut none long_x m i other in
        let late = l.late in let since = l.before.waits in
        let same = ap (λ (t : AllocatorState). t.times.since) (same_server l.before.server server (sym l.before.runs ∙ up)) in
        let r = run_at ids rows laws group clocks pace start whole calm m i (first ++ upto) (x ∷ todo) (cut_here upto (x ∷ todo) upto_cut none) in
        let read = r.holds.clock in
        let same_now = ap (λ (t : AllocatorState). t.now)
        (same_server r.server server (sym r.up.status ∙ (ap (λ (v : Cluster). (v.member m).status) (world_both w first upto) ∙ up))) in
        let then = goes.at_end in let next = goes.calm.0.moments in let s8 = calm.soon in
        (omega (arith, late, since, same, s8), omega (arith, read, same_now, then, next))

    -- so nobody stands
    stands_not : (m other : ℕ) → In (OfMember m) group → Stands m other (then_at upto) x.row → ⊥
    stands_not m other i s = elim (eqb_tells m n) [
      | inl z ↦ leader_stands_not n term other (then_at upto) x.row (leads_then upto (x ∷ todo) upto_cut none)
          (subst (λ (k : ℕ). Stands k other (then_at upto) x.row) z.1 s)
      | inr z ↦
          let begins_then : WaitsBeginThen ids (rows ++ rows_in (first ++ upto))
          = laws.begin (rows_in (first ++ upto)) (harm_front cut_calm (first ++ upto) (x ∷ todo) (cut_here upto (x ∷ todo) upto_cut none)) in
          let same_world = after_both (cluster ids) rows (rows_in (first ++ upto)) in
          let over = (subst (λ (v : Cluster). (other : ℕ) (t : Stands m other v x.row) → t.before.times.since + election_wait ≤ max t.before.now t.ms)
          (same_world ∙ world_both w first upto)
          (begins_then m x.row (calm.listed m i)
          (subst (λ (v : Cluster). Rattle.bus_spec.specs.Lawful.DoesNoHarm v x.row) (sym same_world)
          (harm_row cut_calm (first ++ upto) todo x (cut_here upto (x ∷ todo) upto_cut none)))).1) other s in
          let its = waits m i z.1 s.before s.runs in
          let wait = its.0 in let read = its.1 in
          let row : IsCalmRow group clocks pace goes.traffic (here (first ++ upto)) x.at (Tick m s.ms s.word)
          = subst (IsCalmRow group clocks pace goes.traffic (here (first ++ upto)) x.at) s.reads goes.calm.1 in
          let ms = row.1 in omega (arith, over, wait, read, ms)
    ]

    waits_on : WaitsOn n (then_at upto) x.row
    waits_on = by_row x.row goes.calm.1
      where
        by_row : (row : Row) → IsCalmRow group clocks pace goes.traffic (here (first ++ upto)) x.at row → WaitsOn n (then_at upto) row
        by_row (Tick m ms word) reading = λ differs server up.
            let its = waits m reading.0 differs server up in
            let wait = its.0 in let read = its.1 in let clock = reading.1 in omega (arith, wait, read, clock)
        by_row (Rx m k ms) reading = tt
        by_row (Send m) reading = tt
        by_row (ATick a ms word) reading = tt
        by_row (ARx a k ms word) reading = tt
        by_row (ASend a) reading = tt
        by_row (Open m told ms word) reading = tt
        by_row (Ext frame) reading = tt
        by_row (Crash m calls pattern) reading = tt
        by_row (Fault m call) reading = tt
        by_row (AOpen a uid pref ms word) reading = tt
        by_row (AEnd a) reading = tt

  -- ---- all rows

  nobody_in : (todo done : List Timed) → rest ≡ done ++ todo → NobodyStandsIn group there (few ++ done) → NobodyStandsIn group there (few ++ rest)
  nobody_in [] done cut none = subst (λ (l : List Timed). NobodyStandsIn group there (few ++ l)) (sym (cut ∙ append-nil done)) none
  nobody_in (x ∷ todo) done cut none = nobody_in todo (done ++ x ∷ []) (cut ∙ sym (append_assoc done (x ∷ []) todo))
      (subst (NobodyStandsIn group there) (append_assoc few done (x ∷ []))
      (nobody_more group (few ++ done) x there none (λ m other i s. stands_not done todo x cut none m other i s)))

  all_none : NobodyStandsIn group there later
  all_none = nobody_in rest [] refl (subst (NobodyStandsIn group there) (sym (append-nil few)) nobody)

  none_at : (a b : List Timed) → later ≡ a ++ b → NobodyStandsIn group there a
  none_at a b cut = nobody_front group a b there (subst (NobodyStandsIn group there) cut all_none)

  -- ---- at a front behind the first few

  module _ (front more : List Timed) (cut : rest ≡ front ++ more) where
    abbrev reached : List Timed
    reached = few ++ front

    reached_cut : later ≡ reached ++ more
    reached_cut = ap (λ (l : List Timed). few ++ l) cut ∙ sym (append_assoc few front more)

    long_then : begin + heard_within pace < end_of begin reached
    long_then = let low = not_sooner front more cut in omega (arith, low, long)

    heard_then : (m : ℕ) → In (OfMember m) group → m ≢ n → HasHeard m (greatest_wait pace) (end_of begin reached + clocks (OfMember m)) (then_at reached)
    heard_then m i other = elim (none_or_last reached) [
      | inl none ↦ let ends = ap (end_of begin) none in let l = long_then in absurd (omega (arith, ends, l))
      | inr some ↦
          let ends : end_of begin reached ≡ some.last.at = ap (end_of begin) some.split ∙ end_last begin some.front some.last in
          let split : later ≡ some.front ++ some.last ∷ more
          = reached_cut ∙ (ap (λ (l : List Timed). l ++ more) some.split ∙ append_assoc some.front (some.last ∷ []) more) in
          let l = lately some.front more some.last split (none_at some.front (some.last ∷ more) split)
          (let x = long_then in omega (arith, ends, x)) m i other in
          record {
            server = l.behind.server;
            runs = ap (λ (k : List Timed). ((then_at k).member m).status) some.split ∙ l.behind.runs;
            follows = l.behind.follows;
            lately = let late = l.late in let since = l.behind.waits in omega (arith, late, since, ends);
          }
    ]

    led_then : IsLed group n term (then_at reached)
    led_then = record {
      leader = leads_then reached more reached_cut (none_at reached more reached_cut);
      others = λ m i other. let h = heard_then m i other in record {
        server = h.server;
        runs = h.runs;
        follows = h.follows;
        its_term = within_then reached more reached_cut (none_at reached more reached_cut) m i h.server h.runs;
      };
    }

  -- ---- so no election comes

  none_comes : NoElection group clocks pace (end_of begin few) n term (then_at few) rest
  none_comes = record {
    led = λ front more cut. subst (IsLed group n term) (world_both there few front) (led_then front more cut);
    nobody = waits_by n rest (then_at few) (λ front more x cut. subst (λ (v : Cluster). WaitsOn n v x.row) (world_both there few front)
        (waits_on front more x cut (none_at (few ++ front) (x ∷ more) (reached_cut front (x ∷ more) cut))));
    heard = λ m front more i other cut late_. subst (HasHeard m (greatest_wait pace) (end_of (end_of begin few) front + clocks (OfMember m))) (world_both there few front)
        (subst (λ (k : ℕ). HasHeard m (greatest_wait pace) (k + clocks (OfMember m)) (then_at (few ++ front))) (end_both begin few front)
        (heard_then front more cut m i other));
  }

  pub leads_at_the_top : IsLedBy group clocks pace begin (end_of begin few) (after_rows (world_of ids rows) (rows_in first)) (few ++ rest)
  leads_at_the_top =
      record { front = few; rest = rest; split = refl; soon = omega arith; n = n; member = in_n; term = term; calm = none_comes }
