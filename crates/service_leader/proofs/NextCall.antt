-- In a calm in which a member leads, each other member hears it lately: from whatever row on the leader calls it in time,
-- and the call is heard. The rows may go on from any moment of the calm.
use Rattle.std.proofs.Common.{◌≡◌, ◌≢◌, ℕ, ◌+◌, ◌*◌, ◌<◌, ◌≤◌, arith, max, List, [], ◌∷◌, ◌++◌, refl, sym, ◌∙◌, ap, subst, inl, inr, Some, true}
use Rattle.std.specs.Prelude.{◌⊎◌}
use Rattle.std.proofs.lemmas.List.{append_assoc, append-nil}
use Rattle.can_frame.specs.declared.step.What.TheVariants.{AppQ}
use Rattle.can_frame.specs.Timing.{call_timeout, election_wait}
use Rattle.dsdl_codec.specs.declared.append_request.AppendRequest.{AppendRequest}
use Rattle.raft_model.specs.Lists.{In, at_here}
use Rattle.raft_model.specs.Server.{Role}
use Rattle.raft_model.specs.Server.Role.{Follower, Leader}
use Rattle.bus_rows.specs.declared.row.Row.{Row}
use Rattle.bus_rows.specs.declared.row.Row.TheVariants.{AEnd, AOpen, ARx, ASend, ATick, Crash, Ext, Fault, Open, Rx, Send, Tick}
use Rattle.alloc_spec.specs.AllocatorState.{AllocatorState, members_of}
use Rattle.alloc_spec.specs.Step.{Event, step}
use Rattle.alloc_spec.specs.Transfers.{Offer, SentTransfer}
use Rattle.alloc_spec_laws.proofs.Choices.{lt_tells}
use Rattle.alloc_spec_laws.proofs.Lists.{in_back, in_front}
use Rattle.bus_agreement.proofs.Concatenations.{first_harmless, row_harmless}
use Rattle.bus_rows.specs.Timed.{Timed, rows_in}
use Rattle.service_alone.specs.Calm.{Pace, end_of}
use Rattle.service_alone.proofs.Goes.{after_both}
use Rattle.service_alone.proofs.Members.{IsUp, steps_up}
use Rattle.service_calm.specs.Calm.{AreCalm, AreRunning, IsRunning, Member as OfMember, Party}
use Rattle.service_calm.specs.Calls.{Calls, CallsReadAsSaid, CalmLeavesFollowers, FollowsFrom, FollowsSince, HearsCall, HearsCallBy, Lists, ListsStay, MayFollow, ReadsAsSaid}
use Rattle.service_calm.specs.CallsInTime.{CalledUntil, Leads, LeadersCallInTime, OffersCall, OffersCallBy}
use Rattle.service_calm.specs.Comes.{Sends, Throughout, sent_by}
use Rattle.service_leader.specs.LeadsOn.{IsLed, LeadsIn}
use Rattle.service_leader.specs.NoElection.{CallsFit, ClocksGoOn, greatest_wait, heard_within}
use Rattle.service_calm.proofs.CallsKept.{GoesOn, IsKept, RunsWith, further}
use Rattle.service_leader.proofs.CallsPast.{calls_past_in, until_later}
use Rattle.service_leader.proofs.CallsTerm.{says_its_term}
use Rattle.service_calm.proofs.Counting.{now_after}
use Rattle.service_calm.proofs.Pair.{same_event, same_server, same_stepper}
use Rattle.service_leader.proofs.Stretches.{GoesOnFrom, LastBefore, calm_first, calm_rest, end_last, fits_at, in_between, last_before, last_behind, not_before, rows_both, throughout_first, throughout_rest, throughout_so, world_both}
use Rattle.bus_spec.specs.Cluster.{Cluster, after_row, after_rows, cluster, receipt_of, step_of, tick_of, world_of}
use Rattle.bus_spec.specs.Lawful.{DoNoHarm, DoesNoHarm}
use Rattle.bus_spec.specs.Members.{Member, member_after_step}
use Rattle.bus_spec.specs.Members.MemberStatus.{Up}

-- what a row that is a step leaves of its member
abbrev AfterStep : Cluster → Row → ℕ → Event → Type 0
AfterStep w row n event = (after_row w row).member n ≡ member_after_step (w.rows + 1) event (w.member n).status (w.member n)

stepped : (w : Cluster) (k n : ℕ) (given event : Event) → k ≡ n → given ≡ event
    → Rattle.raft_model.specs.Lists.at w.member k (member_after_step (w.rows + 1) given (w.member k).status (w.member k)) n
    ≡ member_after_step (w.rows + 1) event (w.member n).status (w.member n)
stepped w k n given event same its = at_here w.member k n (member_after_step (w.rows + 1) given (w.member k).status (w.member k)) (sym same)
    ∙ (λ i. member_after_step (w.rows + 1) (its i) (w.member (same i)).status (w.member (same i)))

after_step : (w : Cluster) (row : Row) (n : ℕ) (event : Event) → step_of w row ≡ Some (n, event) → AfterStep w row n event
after_step w (Tick k ms word) n event is = stepped w k n (tick_of ms word) event (same_stepper k n (tick_of ms word) event is)
    (same_event k n (tick_of ms word) event is)
after_step w (Rx k f ms) n event is = stepped w k n (receipt_of w f ms) event (same_stepper k n (receipt_of w f ms) event is)
    (same_event k n (receipt_of w f ms) event is)
after_step w (Send k) n event is = absurd (cc (is))
after_step w (ATick a ms word) n event is = absurd (cc (is))
after_step w (ARx a k ms word) n event is = absurd (cc (is))
after_step w (ASend a) n event is = absurd (cc (is))
after_step w (Open k told ms word) n event is = absurd (cc (is))
after_step w (Ext frame) n event is = absurd (cc (is))
after_step w (Crash k calls pattern) n event is = absurd (cc (is))
after_step w (Fault k call) n event is = absurd (cc (is))
after_step w (AOpen a uid pref ms word) n event is = absurd (cc (is))
after_step w (AEnd a) n event is = absurd (cc (is))

-- the laws that are used here
pub record CallLaws (ids : List ℕ) (rows : List Row) : Type 0 where
  pub me : (t : AllocatorState) (number : ℕ) (event : Event) → (step t number event).step_state.allocator.me ≡ t.me
  pub stay : ListsStay
  pub call : LeadersCallInTime
  pub read : (more : List Row) → DoNoHarm (world_of ids rows) more → CallsReadAsSaid ids (rows ++ more)
  pub follow : CalmLeavesFollowers

-- the server has the node ID, and its clock read no more than this
pub record HasRead (p last : ℕ) (t : AllocatorState) : Type 0 where
  pub me : t.me ≡ p
  pub clock : t.now ≤ last

abbrev IsBy : ℕ → ℕ → Type 0
IsBy last moment = moment ≤ last

read_kept : ((t : AllocatorState) (number : ℕ) (event : Event) → (step t number event).step_state.allocator.me ≡ t.me)
    → (p last : ℕ) → IsKept (IsBy last) (HasRead p last)
read_kept keeps_me p last = record {
  stepped = λ t number event may is. let after = now_after t number event in
      record { me = keeps_me t number event ∙ is.me; clock = omega (arith, after, is.clock, may) };
  popped = λ t is. record { me = is.me; clock = is.clock };
}

-- in these rows, which go on from this world, member m hears each call of member n within two delays, or they are over
-- by then
abbrev pub HearsCalls : (Party → ℕ) → Pace → (n m : ℕ) → Cluster → List Timed → Type 0
HearsCalls clocks pace n m v whole = (a b : List Timed) (x : Timed) (offer : Offer) (request : AppendRequest) → whole ≡ a ++ x ∷ b
    → Calls n m (after_rows v (rows_in a)) x.row offer request → x.at + 2 * pace.delay < end_of x.at b
    → HearsCallBy m (clocks (OfMember m)) (sent_by n (after_rows v (rows_in a)) offer) request (x.at + 2 * pace.delay) (after_rows v (rows_in a)) (x ∷ b)

-- calls read as said in this world
abbrev CallsReadIn : Cluster → Type 0
CallsReadIn v = (n : ℕ) (row : Row) (offer : Offer) → DoesNoHarm v row → IsRunning n v → Sends n v row offer → offer.what ≡ AppQ
    → ReadsAsSaid (sent_by n v offer)

-- ---- who heeds a leader

-- member m runs, and may follow who leads in this term: its own is lower, or the same while it does not lead
pub record MayHeed (m term : ℕ) (w : Cluster) : Type 0 where
  pub server : AllocatorState
  pub runs : (w.member m).status ≡ Up server
  pub current : (server.raft_server.store.term < term) ⊎ ((term ≡ server.raft_server.store.term) × (server.raft_server.memory.role ≢ Leader))

-- member n leads in this term, and each other member of the group may follow it
pub record IsHeeded (group : List Party) (n term : ℕ) (w : Cluster) : Type 0 where
  pub leader : LeadsIn n term w
  pub others : (m : ℕ) → In (OfMember m) group → m ≢ n → MayHeed m term w

pub no_leader : (role : Role) → role ≡ Follower → role ≢ Leader
no_leader role e f = cc (sym e ∙ f)

-- so it is where the others follow
pub led_heeded : (group : List Party) (n term : ℕ) (w : Cluster) → IsLed group n term w → IsHeeded group n term w
led_heeded group n term w led = record {
  leader = led.leader;
  others = λ m i other. let follows = led.others m i other in record {
    server = follows.server;
    runs = follows.runs;
    current = elim (lt_tells follows.server.raft_server.store.term term) [
      | inl z ↦ inl z.1
      | inr z ↦ inr (
        (let low = follows.its_term in let high = z.1 in omega (arith, low, high)),
        no_leader follows.server.raft_server.memory.role follows.follows,
      )
    ];
  };
}

-- who may heed the caller, and lists it, may follow it when its call comes
pub may_follow : (n m term ahead : ℕ) (x : SentTransfer) (request : AppendRequest) (v : Cluster) (timed : Timed) (call : HearsCall m ahead x request v timed)
    → x.by ≡ n → request.term ≡ term → MayHeed m term v → Lists m n v → MayFollow x.by request call.delivers.server
may_follow n m term ahead x request v timed call by its_term heeds lists = record {
  listed = subst (λ (p : ℕ). In p (members_of call.delivers.server)) (sym by) (lists call.delivers.server call.delivers.runs);
  current = subst (λ (t : AllocatorState). (t.raft_server.store.term < request.term)
      ⊎ ((request.term ≡ t.raft_server.store.term) × (t.raft_server.memory.role ≢ Leader)))
      (same_server heeds.server call.delivers.server (sym heeds.runs ∙ call.delivers.runs))
      (subst (λ (k : ℕ). (heeds.server.raft_server.store.term < k)
      ⊎ ((k ≡ heeds.server.raft_server.store.term) × (heeds.server.raft_server.memory.role ≢ Leader))) (sym its_term) heeds.current);
}

-- ---- a call that a leader offers

-- member n calls member m, in this term
pub record CallsInTerm (n m term : ℕ) (w : Cluster) (row : Row) : Type 0 where
  pub offer : Offer
  pub request : AppendRequest
  pub calls : Calls n m w row offer request
  pub its_term : request.term ≡ term

-- a call for which the queue has room is one in the term in which the member leads behind the row
pub call_in_term : (ids : List ℕ) (rows : List Row) (laws : CallLaws ids rows) (n m term : ℕ) (a b : List Row) (row : Row)
    → DoNoHarm (world_of ids rows) (a ++ row ∷ b) → IsRunning n (after_rows (world_of ids rows) a)
    → (offers : OffersCall n m (after_rows (world_of ids rows) a) row) → offers.offer.fitted ≡ true
    → LeadsIn n term (after_row (after_rows (world_of ids rows) a) row) → CallsInTerm n m term (after_rows (world_of ids rows) a) row
call_in_term ids rows laws n m term a b row harm running offers fitted leads = record {
  offer = offers.offer;
  request = reads.request;
  calls = record { sends = sends; what = offers.what; to = offers.to; says = reads.read };
  its_term = says_its_term offers.server (there.rows + 1) offers.event offers.offer offers.offered offers.what _ reads.said
      ∙ ap (λ (t : AllocatorState). t.raft_server.store.term) same ∙ leads.its_term;
}
  where
    there : Cluster
    there = after_rows (world_of ids rows) a

    sends : Sends n there row offers.offer
    sends = record {
      server = offers.server;
      runs = offers.runs;
      event = offers.event;
      in_step = offers.in_step;
      offered = offers.offered;
      fitted = fitted;
    }

    reads : ReadsAsSaid (sent_by n there offers.offer)
    reads = subst CallsReadIn (after_both (cluster ids) rows a) (laws.read a (first_harmless (world_of ids rows) a (row ∷ b) harm))
        n row offers.offer (row_harmless (world_of ids rows) a b row harm) running sends offers.what

    up : IsUp (step offers.server (there.rows + 1) offers.event).step_state.allocator
        (member_after_step (there.rows + 1) offers.event (there.member n).status (there.member n))
    up = steps_up (there.rows + 1) offers.event offers.server (there.member n)
        (record { status = offers.runs; quiet = record { faults = running.faults; calls = running.disk } })

    same : (step offers.server (there.rows + 1) offers.event).step_state.allocator ≡ leads.server
    same = same_server _ _ (sym up.status ∙ sym (ap (λ (y : Member). y.status) (after_step there row n offers.event offers.in_step)) ∙ leads.runs)

module _ (ids : List ℕ) (rows : List Row) (laws : CallLaws ids rows) (group : List Party) (clocks : Party → ℕ) (pace : Pace) (start : ℕ)
    (running : AreRunning group (world_of ids rows))
    (server_me : (p : ℕ) → In (OfMember p) group → (server : AllocatorState) → ((world_of ids rows).member p).status ≡ Up server → server.me ≡ p)
    (clocks_go : ClocksGoOn group clocks start (world_of ids rows)) where
  abbrev pub w : Cluster
  w = world_of ids rows

  abbrev pub here : List Timed → Cluster
  here front = after_rows w (rows_in front)

  -- each member of the group runs behind each front, and its clock read no more than it reads then
  pub runs_at : (p : ℕ) → In (OfMember p) group → (front rest : List Timed) → GoesOnFrom group clocks pace start w (front ++ rest)
      → RunsWith (HasRead p (end_of start front + clocks (OfMember p))) ((here front).member p)
  runs_at p i front rest from = later.runs
    where
      last : ℕ
      last = end_of start front + clocks (OfMember p)

      first : GoesOnFrom group clocks pace start w front
      first = calm_first group clocks pace front rest start w from

      later : GoesOn (IsBy last) (HasRead p last) (read_kept laws.me p last) group clocks pace p (here front) rest
      later = further (IsBy last) (HasRead p last) (read_kept laws.me p last) group clocks pace p front rest w
          (λ timed j. let within = (in_between group clocks pace front start w first timed j).1 in omega (arith, within)) (record {
            traffic = from.traffic;
            calm = from.calm;
            runs = record {
              server = (running p i).server;
              up = record { status = (running p i).runs; quiet = record { faults = (running p i).faults; calls = (running p i).disk } };
              holds = record {
                me = server_me p i (running p i).server (running p i).runs;
                clock = let low = clocks_go p i (running p i).server (running p i).runs in
                    let more = not_before group clocks pace front start w first in omega (arith, low, more);
              };
            };
          })

  module _ (n term : ℕ) (in_n : In (OfMember n) group) (front : List Timed) (timed : Timed)
      (from : GoesOnFrom group clocks pace start w (front ++ timed ∷ []))
      (harmless : DoNoHarm w (rows_in (front ++ timed ∷ []))) (fits : CallsFit n w (front ++ timed ∷ []))
      (led : Throughout (IsHeeded group n term) w (front ++ timed ∷ []))
      (m : ℕ) (in_m : In (OfMember m) group) (differs : m ≢ n) (lists_it : Lists n m w) (lists_back : Lists m n w)
      (in_time : HearsCalls clocks pace n m w (front ++ timed ∷ [])) where
    -- ---- what holds at each front of the rows before the last

    abbrev pub upto : List Timed
    upto = front ++ timed ∷ []

    whole_cut : (a b : List Timed) → front ≡ a ++ b → upto ≡ a ++ (b ++ timed ∷ [])
    whole_cut a b cut = ap (λ (l : List Timed). l ++ timed ∷ []) cut ∙ append_assoc a b (timed ∷ [])

    calm_cut : (a b : List Timed) → front ≡ a ++ b → AreCalm group clocks pace from.traffic w (a ++ (b ++ timed ∷ []))
    calm_cut a b cut = subst (AreCalm group clocks pace from.traffic w) (whole_cut a b cut) from.calm

    from_start : (a b : List Timed) → front ≡ a ++ b → GoesOnFrom group clocks pace start w (a ++ (b ++ timed ∷ []))
    from_start a b cut = record { traffic = from.traffic; calm = calm_cut a b cut; at_end = from.at_end; ticked = from.ticked }

    goes_at : (a b : List Timed) → front ≡ a ++ b → GoesOnFrom group clocks pace (end_of start a) (here a) (b ++ timed ∷ [])
    goes_at a b cut = calm_rest group clocks pace a (b ++ timed ∷ []) start w (from_start a b cut)

    leds_at : (a b : List Timed) → front ≡ a ++ b → Throughout (IsHeeded group n term) (here a) (b ++ timed ∷ [])
    leds_at a b cut = throughout_rest (IsHeeded group n term) a (b ++ timed ∷ []) w (subst (Throughout (IsHeeded group n term) w) (whole_cut a b cut) led)

    led_at : (a b : List Timed) → front ≡ a ++ b → IsHeeded group n term (here a)
    led_at a b cut = throughout_first (IsHeeded group n term) b timed (here a) (leds_at a b cut)

    abbrev leader_at : (a b : List Timed) → front ≡ a ++ b → RunsWith (HasRead n (end_of start a + clocks (OfMember n))) ((here a).member n)
    leader_at a b cut = runs_at n in_n a (b ++ timed ∷ []) (from_start a b cut)

    abbrev leader_runs : (a b : List Timed) → front ≡ a ++ b → IsRunning n (here a)
    leader_runs a b cut = let run = leader_at a b cut in
        record { server = run.server; runs = run.up.status; faults = run.up.quiet.faults; disk = run.up.quiet.calls }

    -- ---- a call that the leader offers

    is_call : (a b : List Timed) (x : Timed) → front ≡ a ++ x ∷ b → OffersCall n m (here a) x.row → CallsInTerm n m term (here a) x.row
    is_call a b x cut offers = call_in_term ids rows laws n m term (rows_in a) (rows_in (b ++ timed ∷ [])) x.row
        (subst (DoNoHarm w) (ap rows_in (whole_cut a (x ∷ b) cut) ∙ rows_both a (x ∷ b ++ timed ∷ [])) harmless) (leader_runs a (x ∷ b) cut) offers
        (fits_at n a (b ++ timed ∷ []) x w (subst (CallsFit n w) (whole_cut a (x ∷ b) cut) fits) m offers)
        (subst (LeadsIn n term) (world_both w a (x ∷ [])) (led_at (a ++ x ∷ []) b (cut ∙ sym (append_assoc a (x ∷ []) b))).leader)

    -- from each front on the leader offers one in time
    offers_by : (a b : List Timed) → front ≡ a ++ b → end_of start a + call_timeout + pace.period < timed.at
        → OffersCallBy n m (end_of start a + call_timeout + pace.period) (here a) (b ++ timed ∷ [])
    offers_by a b cut long = laws.call group clocks pace goes.traffic n m moment (end_of start a + call_timeout) (b ++ timed ∷ []) (here a)
        (leader_runs a b cut) in_n
        (laws.stay group clocks pace from.traffic n m a (b ++ timed ∷ []) w (running n in_n) (calm_cut a b cut) lists_it run.server run.up.status)
        (λ e. differs (e ∙ run.holds.me)) until goes.calm
        (throughout_so (IsHeeded group n term) (Leads n) so (b ++ timed ∷ []) (here a) (leds_at a b cut))
        (omega arith) (omega (arith, goes.at_end)) (let ticked = goes.ticked (OfMember n) in omega (arith, ticked))
        (let ends = end_last goes.traffic.at b timed in omega (arith, ends, long))
      where
        moment : ℕ
        moment = end_of start a + clocks (OfMember n)

        goes : GoesOnFrom group clocks pace (end_of start a) (here a) (b ++ timed ∷ [])
        goes = goes_at a b cut

        run : RunsWith (HasRead n moment) ((here a).member n)
        run = leader_at a b cut

        so : (v : Cluster) → IsHeeded group n term v → Leads n v
        so v led_then server up = subst (λ (t : AllocatorState). t.raft_server.memory.role ≡ Leader)
            (same_server led_then.leader.server server (sym led_then.leader.runs ∙ up)) led_then.leader.leads

        until : CalledUntil moment m run.server
        until =
            let past = calls_past_in ids (rows ++ rows_in a) n run.server
            (subst (λ (v : Cluster). (v.member n).status ≡ Up run.server) (sym (after_both (cluster ids) rows (rows_in a))) run.up.status) m
            (so (here a) (led_at a b cut) run.server run.up.status) in
            let late = until_later run.server.now moment _ _ _ run.holds.clock past in
            record { pending = late.0; appended = late.1 }

    -- ---- a call that the member hears

    -- the member hears the leader in one of these rows, when its clock reads this or more
    pub record HearsFrom (least : ℕ) : Type 0 where
      pub before : List Timed
      pub row : Timed
      pub rest : List Timed
      pub split : front ≡ before ++ row ∷ rest
      pub moment : ℕ
      pub late : least ≤ moment
      pub follows : FollowsSince m moment (after_row (here before) row.row)

    -- a call that comes is heard, since the member may follow who leads
    hears_it : (a b : List Timed) → front ≡ a ++ b → (least : ℕ) → ((x : Timed) → In x b → least ≤ x.at)
        → (offer : Offer) (request : AppendRequest) → request.term ≡ term
        → (bound : ℕ) → bound < timed.at → HearsCallBy m (clocks (OfMember m)) (sent_by n (here a) offer) request bound (here a) (b ++ timed ∷ [])
        → HearsFrom (least + clocks (OfMember m))
    hears_it a b cut least above offer request its_term bound long by = record {
      before = before;
      row = by.timed;
      rest = found.0;
      split = split_at;
      moment = max by.call.delivers.server.now by.call.delivers.ms;
      late = let low = above by.timed (subst (In by.timed) (sym found.2) (in_back by.timed by.front (by.timed ∷ found.0) (inl refl))) in
          let reads = by.call.clock in omega (arith, low, reads);
      follows = subst (λ (v : Cluster). FollowsSince m (max by.call.delivers.server.now by.call.delivers.ms) (after_row v by.timed.row)) (sym there)
          (by.call.anew may);
    }
      where
        before : List Timed
        before = a ++ by.front

        found : (tail : List Timed) × (by.rest ≡ tail ++ timed ∷ []) × (b ≡ by.front ++ by.timed ∷ tail)
        found = last_behind b by.front by.rest timed by.timed by.split (λ e. omega (arith, e, by.soon, long))

        split_at : front ≡ before ++ by.timed ∷ found.0
        split_at = cut ∙ ap (λ (l : List Timed). a ++ l) found.2 ∙ sym (append_assoc a by.front (by.timed ∷ found.0))

        there : here before ≡ after_rows (here a) (rows_in by.front)
        there = world_both w a by.front

        lists : Lists m n (after_rows (here a) (rows_in by.front))
        lists = subst (Lists m n) there (laws.stay group clocks pace from.traffic m n before ((by.timed ∷ found.0) ++ timed ∷ []) w (running m in_m)
            (calm_cut before (by.timed ∷ found.0) split_at) lists_back)

        may : MayFollow n request by.call.delivers.server
        may = may_follow n m term (clocks (OfMember m)) (sent_by n (here a) offer) request (after_rows (here a) (rows_in by.front)) by.timed by.call refl its_term
            (subst (MayHeed m term) there ((led_at before (by.timed ∷ found.0) split_at).others m in_m differs)) lists

    -- from each front on the member hears the leader in time
    hears_from : (a b : List Timed) → front ≡ a ++ b → end_of start a + heard_within pace < timed.at → HearsFrom (end_of start a + clocks (OfMember m))
    hears_from a b cut long = hears_it c (by.timed ∷ found.0) split_at (end_of start a) above call.offer call.request call.its_term
        (by.timed.at + 2 * pace.delay)
        (let soon = by.soon in omega (arith, soon, long))
        (in_time c (found.0 ++ timed ∷ []) by.timed call.offer call.request (whole_cut c (by.timed ∷ found.0) split_at) call.calls
        (let soon = by.soon in let ends = end_last by.timed.at found.0 timed in omega (arith, soon, ends, long)))
      where
        by : OffersCallBy n m (end_of start a + call_timeout + pace.period) (here a) (b ++ timed ∷ [])
        by = offers_by a b cut (omega (arith, long))

        found : (tail : List Timed) × (by.rest ≡ tail ++ timed ∷ []) × (b ≡ by.front ++ by.timed ∷ tail)
        found = last_behind b by.front by.rest timed by.timed by.split (λ e. omega (arith, e, by.soon, long))

        c : List Timed
        c = a ++ by.front

        split_at : front ≡ c ++ by.timed ∷ found.0
        split_at = cut ∙ ap (λ (l : List Timed). a ++ l) found.2 ∙ sym (append_assoc a by.front (by.timed ∷ found.0))

        call : CallsInTerm n m term (here c) by.timed.row
        call = is_call c found.0 by.timed split_at (subst (λ (v : Cluster). OffersCall n m v by.timed.row) (sym (world_both w a by.front)) by.offers)

        above : (x : Timed) → In x (by.timed ∷ found.0) → end_of start a ≤ x.at
        above x i = (in_between group clocks pace b (end_of start a) (here a)
            (calm_first group clocks pace b (timed ∷ []) (end_of start a) (here a) (goes_at a b cut)) x
            (subst (In x) (sym found.2) (in_back x by.front (by.timed ∷ found.0) i))).0

    -- ---- so it follows lately

    -- the member follows before and behind the last of these rows, and its wait began lately
    pub record FollowsLately : Type 0 where
      pub moment : ℕ
      pub late : timed.at + clocks (OfMember m) ≤ moment + greatest_wait pace
      pub before : FollowsFrom m moment (here front)
      pub behind : FollowsFrom m moment (here upto)

    pub follows_lately : greatest_wait pace < election_wait → start + heard_within pace < timed.at → FollowsLately
    follows_lately short long = record {
      moment = heard.moment;
      late = late;
      before = subst (FollowsFrom m heard.moment) (sym (ap here cut ∙ world_both w e heard.rest))
          (laws.follow group clocks pace goes.traffic m heard.moment heard.rest (timed ∷ []) (here e) since goes.calm
          (λ x i. soon x (in_front x heard.rest (timed ∷ []) i)));
      behind = subst (FollowsFrom m heard.moment) (sym (ap here (whole_cut e heard.rest cut) ∙ world_both w e (heard.rest ++ timed ∷ [])))
          (laws.follow group clocks pace goes.traffic m heard.moment (heard.rest ++ timed ∷ []) [] (here e) since
          (subst (AreCalm group clocks pace goes.traffic (here e)) (sym (append-nil (heard.rest ++ timed ∷ []))) goes.calm) soon);
    }
      where
        nearest : LastBefore group clocks pace (heard_within pace) start timed.at front
        nearest = last_before group clocks pace n in_n (heard_within pace) front timed start w (from_start [] front refl) long

        heard : HearsFrom (end_of start nearest.earlier + clocks (OfMember m))
        heard = hears_from nearest.earlier nearest.later nearest.split nearest.early

        late : timed.at + clocks (OfMember m) ≤ heard.moment + greatest_wait pace
        late = omega (arith, nearest.near, heard.late)

        e : List Timed
        e = heard.before ++ heard.row ∷ []

        cut : front ≡ e ++ heard.rest
        cut = heard.split ∙ sym (append_assoc heard.before (heard.row ∷ []) heard.rest)

        since : FollowsSince m heard.moment (here e)
        since = subst (FollowsSince m heard.moment) (sym (world_both w heard.before (heard.row ∷ []))) heard.follows

        goes : GoesOnFrom group clocks pace (end_of start e) (here e) (heard.rest ++ timed ∷ [])
        goes = goes_at e heard.rest cut

        soon : (x : Timed) → In x (heard.rest ++ timed ∷ []) → x.at + clocks (OfMember m) < heard.moment + election_wait
        soon x i =
            let within = (in_between group clocks pace (heard.rest ++ timed ∷ []) (end_of start e) (here e) goes x i).1 in
            let ends = end_last (end_of start e) heard.rest timed in
            omega (arith, within, ends, late, short)
