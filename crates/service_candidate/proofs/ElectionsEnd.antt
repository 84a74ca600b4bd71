-- Who stands first in a calm in which all were just opened wins, where it is ahead of the others.
use Rattle.std.proofs.Common.{◌≡◌, ◌≢◌, ℕ, ◌+◌, ◌*◌, ◌<◌, ◌≤◌, arith, append_assoc, Bool, true, List, [], ◌∷◌, ◌++◌, length, refl, sym, ◌∙◌, ap, subst, inl, inr}
use Rattle.std.specs.Prelude.{◌⊎◌, ◌%◌, ◌||◌}
use Rattle.std.proofs.lemmas.Bool.Decides.{eqb_tells, leb_tells}
use Rattle.can_frame.specs.Log.{last_term}
use Rattle.can_frame.specs.Timing.{election_spread, election_wait}
use Rattle.can_frame.specs.declared.entry.Entry.{Entry}
use Rattle.can_frame.specs.declared.step.What.{What}
use Rattle.can_frame.specs.declared.step.What.TheVariants.{AppQ, Vote, VoteQ}
use Rattle.can_frame.specs.Identifier.{identifier_number}
use Rattle.raft_core.specs.Times.{Times, wait}
use Rattle.raft_model.specs.Lists.{In, how_many}
use Rattle.raft_model.specs.Log.{NotAbove}
use Rattle.raft_model.specs.Members.{IsAll}
use Rattle.raft_model.specs.Server.{Store}
use Rattle.raft_model.specs.Server.Role.{Leader}
use Rattle.bus_rows.specs.declared.row.Row.{Row}
use Rattle.transfer_tx.specs.Run.{of_identifier}
use Rattle.alloc_spec.specs.AllocatorState.{AllocatorState, knows_all, members_of, start_of}
use Rattle.alloc_spec.specs.Rules.{IsToldAll, Rules, opening_by, times_with}
use Rattle.alloc_spec.specs.Step.{Event, step}
use Rattle.alloc_spec.specs.Transfers.{ident_of}
use Rattle.alloc_spec_laws.proofs.Choices.{eq_true, tell}
use Rattle.alloc_spec_laws.proofs.Peers.{covers, members_list}
use Rattle.bus_agreement.proofs.Concatenations.{first_harmless}
use Rattle.service_steps.specs.InTime.{FramesLeaveFollowers}
use Rattle.bus_rows.specs.Timed.{Timed, rows_in}
use Rattle.service_alone.specs.Calm.{Pace, end_of}
use Rattle.service_calm.specs.Calm.{AreCalm, AreRunning, Device as OfDevice, Member as OfMember, Party, no_traffic}
use Rattle.service_calm.specs.Calls.{Lists}
use Rattle.service_calm.specs.Comes.{AreReady, Throughout}
use Rattle.service_calm.proofs.Group.{AreWell, CalmLaws}
use Rattle.service_calm.proofs.Pair.{same_server}
use Rattle.service_leader.proofs.Stretches.{end_both, rows_both, throughout_so, world_both}
use Rattle.service_candidate.specs.Elections.{AMemberStands, EndsBy, IsAhead, IsCalmRestart, IsFurthest, SomebodyLeads, WaitGoesOn, WaitIsOver, longest_wait, OthersFollow}
use Rattle.service_candidate.specs.Terms.{AreWithin, LogsStay, NoAppendWaits, NoAppendsCome, NobodyLeads, TermsDoNotFall, TermsStay}
use Rattle.service_candidate.specs.Votes.{CanAsk, HearsAppend, Stands}
use Rattle.service_candidate.specs.Wins.{AppendsUnheard, IsBehind, IsCalmStanding, StandsAlone, VoteRequestsFit, WinsBy, is_of}
use Rattle.service_candidate.proofs.WhoAsks.{AskedNobody}
use Rattle.service_candidate.proofs.WinsFronts.{throughout_join}
use Rattle.service_candidate.proofs.FirstToStand.{AllFollow, IsFound, find, nobody_leads, nobody_stands}
use Rattle.alloc_spec.specs.ClusterMembers.{AreMembers}
use Rattle.bus_spec.specs.Cluster.{Cluster, after_row, after_rows, rules_of, world_of}
use Rattle.bus_spec.specs.Lawful.{DoNoHarm}
use Rattle.bus_spec.specs.Members.MemberStatus.{Up}

-- ---- a group that has a quorum has a member

counted : (test : ℕ → Bool) (xs : List ℕ) → 1 ≤ how_many test xs → (x : ℕ) × (test x ≡ true)
counted test [] h = absurd (omega (arith, h))
counted test (y ∷ ys) h = elim (tell (test y)) [
  | inl t ↦ (y, t)
  | inr f ↦ let less : 1 ≤ 0 + how_many test ys = rw f at h in counted test ys (omega (arith, less))
]

is_in : (group : List Party) (n : ℕ) → is_of group n ≡ true → In (OfMember n) group
is_in [] n e = absurd (cc (e))
is_in (OfMember m ∷ group) n e = elim (eqb_tells m n) [
  | inl z ↦ inl (ap OfMember (sym z.1))
  | inr z ↦ inr (is_in group n (ap (λ (b : Bool). b || is_of group n) (sym z.0) ∙ e))
]
is_in (OfDevice a ∷ group) n e = inr (is_in group n e)

pub some_member : (group : List Party) (ids : List ℕ) (least : ℕ) → 1 ≤ least → least ≤ how_many (is_of group) ids → (n : ℕ) × In (OfMember n) group
some_member group ids least some many = let one = counted (is_of group) ids (omega (arith, some, many)) in (one.0, is_in group one.0 one.1)

-- ---- somebody stands

abbrev pub first_stands : (group : List Party) (clocks : Party → ℕ) (last : ℕ) (began w : Cluster) (whole : List Timed) → IsFound group clocks last began w whole
    → AMemberStands group last w whole
first_stands group clocks last began w whole found = record {
  front = found.front;
  timed = found.timed;
  rest = found.rest;
  split = found.split;
  soon = found.soon;
  nobody_led = throughout_so (AllFollow group) (NobodyLeads group) (nobody_leads group) found.front w found.followed;
  nobody_leads = nobody_leads group (after_rows w (rows_in found.front)) found.follow;
  c = found.c;
  member = found.member;
  term = found.term;
  stands = found.stands;
}

-- who leads by a moment leads by a later one
pub led_later : (group : List Party) (start last later : ℕ) (w : Cluster) (whole : List Timed) → last ≤ later → SomebodyLeads group start last w whole
    → SomebodyLeads group start later w whole
led_later group start last later w whole on led = record {
  front = led.front;
  rest = led.rest;
  split = led.split;
  soon = let s = led.soon in omega (arith, s, on);
  nobody_led = led.nobody_led;
  n = led.n;
  member = led.member;
  server = led.server;
  runs = led.runs;
  leads = led.leads;
}

-- ---- a server that was just opened

told_since : (nodes : List ℕ) (times : Times) → (times_with nodes times).since ≡ times.since
told_since [] times = refl
told_since (node ∷ nodes) times = refl

-- its wait is over within the longest wait
over_at_last : (moment reading since word : ℕ) → since ≡ moment → moment ≤ reading → since + wait word ≤ reading + longest_wait
over_at_last moment reading since word e low = elim (leb_tells (since + (election_wait + word % election_spread)) (reading + longest_wait)) [
  | inl z ↦ z.1
  | inr z ↦ absurd (omega (arith, z.1, e, low))
]

-- ---- a member that was told all lists each

pub lists_all : ((list members : List ℕ) (test : ℕ → Bool) → IsAll list members → how_many test list ≡ how_many test members) → (ids : List ℕ) (t : AllocatorState)
    → knows_all t ≡ true → t.size ≡ length ids → ((node : ℕ) → In node (members_of t) → In node ids) → (node : ℕ) → In node ids → In node (members_of t)
lists_all same_count ids t knows size among node i = covers same_count (members_of t) ids (record {
  once = (members_list (start_of t) t.heard).once;
  among = among;
  as_many = eq_true (length (members_of t)) t.size knows ∙ size;
}) node i

-- among members who are different
pub told_all : (ids : List ℕ) (p : ℕ) → AreMembers ids → In p ids → IsToldAll p (rules_of ids true)
told_all ids p members i = record { own = i; nodes = members.nodes; once = members.once; all = refl }

-- ---- a calm that begins so

module _ (ids : List ℕ) (rows : List Row) (group : List Party) (clocks : Party → ℕ) (pace : Pace) (start : ℕ) (whole : List Timed)
    (r : IsCalmRestart ids rows group clocks pace start whole) where
  abbrev pub w : Cluster
  w = world_of ids rows

  abbrev pub opened : (m : ℕ) → In (OfMember m) group → AllocatorState
  opened m i = opening_by m (rules_of ids true) (r.opened m i).store (r.opened m i).moment (r.opened m i).word

  -- the server that a member has when the calm begins
  pub is_opened : (m : ℕ) → (i : In (OfMember m) group) → (server : AllocatorState) → (w.member m).status ≡ Up server → opened m i ≡ server
  is_opened m i server up = same_server (opened m i) server (sym (r.opened m i).runs ∙ up)

  abbrev pub all_run : AreRunning group (world_of ids rows)
  all_run m i = record { server = opened m i; runs = (r.opened m i).runs; faults = (r.opened m i).faults; disk = (r.opened m i).disk }

  pub over_by : (m : ℕ) → In (OfMember m) group → WaitIsOver clocks m (start + longest_wait) (world_of ids rows)
  over_by m i server up = subst (λ (t : AllocatorState). t.times.since + wait t.times.word ≤ (start + longest_wait) + clocks (OfMember m)) (is_opened m i server up)
      (let h = over_at_last (r.opened m i).moment (start + clocks (OfMember m)) (opened m i).times.since (opened m i).times.word (told_since ids _) (r.opened m i).clock in
      omega (arith, h))

  -- each lists each other
  pub lists_in : ((list members : List ℕ) (test : ℕ → Bool) → IsAll list members → how_many test list ≡ how_many test members)
      → ((p : ℕ) (store : Store) (moment word : ℕ) → In (OfMember p) group → knows_all (opening_by p (rules_of ids true) store moment word) ≡ true)
      → ((me : ℕ) (rules : Rules) (store : Store) (now word node : ℕ) → In node (members_of (opening_by me rules store now word)) → (node ≡ me) ⊎ In node rules.told)
      → (n m : ℕ) → In (OfMember n) group → In (OfMember m) group → Lists n m (world_of ids rows)
  lists_in same_count knows opening n m i j server up = subst (λ (t : AllocatorState). In m (members_of t)) (is_opened n i server up)
      (lists_all same_count ids (opened n i) (knows n (r.opened n i).store (r.opened n i).moment (r.opened n i).word i) refl
      (λ node k. elim (opening n (rules_of ids true) (r.opened n i).store (r.opened n i).moment (r.opened n i).word node k) [
        | inl own ↦ subst (λ (q : ℕ). In q ids) (sym own) (r.listed n i)
        | inr told ↦ told
      ]) m (r.listed m j))

  -- who stands when the waits of those that are behind go on is ahead
  pub is_ahead : (last : ℕ) (found : IsFound group clocks last (world_of ids rows) (world_of ids rows) whole)
      → IsAhead group found.c (world_of ids rows) ⊎ WaitGoesOn clocks found.c last (world_of ids rows) → IsAhead group found.c (world_of ids rows)
  is_ahead last found (inl ahead) = ahead
  is_ahead last found (inr waits) =
      let its = r.opened found.c found.member in
      let a = waits (opened found.c found.member) its.runs in
      let b = found.over (opened found.c found.member) its.runs in
      let d = found.soon in
      absurd (omega (arith, a, b, d))

  -- the same of the server that runs
  pub over_at : (m : ℕ) → (i : In (OfMember m) group) → let server = (all_run m i).server in
      server.times.since + wait server.times.word ≤ (start + longest_wait) + clocks (OfMember m)
  over_at m i = over_by m i (opened m i) (r.opened m i).runs

  -- which does not lead
  pub opened_follow : (m : ℕ) → (i : In (OfMember m) group) → (all_run m i).server.raft_server.memory.role ≢ Leader
  opened_follow m i = λ e. cc e

  -- no append request waits
  pub none_waits : NoAppendWaits group (world_of ids rows)
  none_waits n m i j differs server up = subst (λ (t : AllocatorState). of_identifier (identifier_number (ident_of n AppQ m)) t.queue ≡ []) (is_opened n i server up) refl

  -- somebody stands behind the end of a member's wait
  pub found_by : (laws : CalmLaws) → (frames_leave : FramesLeaveFollowers)
      → (complete : (t : AllocatorState) (number : ℕ) (event : Event) → knows_all t ≡ true → members_of (step t number event).step_state.allocator ≡ members_of t)
      → (nodes : (p : ℕ) → In (OfMember p) group → (1 ≤ p) × (p ≤ 125))
      → ((p : ℕ) (store : Store) (moment word : ℕ) → In (OfMember p) group → knows_all (opening_by p (rules_of ids true) store moment word) ≡ true)
      → AreWell group (world_of ids rows) → (m moment : ℕ) → In (OfMember m) group → WaitIsOver clocks m moment (world_of ids rows) → start ≤ moment
      → moment + pace.period < end_of start whole → IsFound group clocks (moment + pace.period) (world_of ids rows) (world_of ids rows) whole
  found_by laws frames_leave complete nodes knows are m moment in_m over late long =
      find laws frames_leave complete w (length ids) r.others group nodes clocks pace m moment over in_m (opened m in_m, (r.opened m in_m).runs) whole
      (no_traffic start) w r.calm are
      (λ p i. record {
        server = opened p i;
        up = record { status = (r.opened p i).runs; quiet = record { faults = (r.opened p i).faults; calls = (r.opened p i).disk } };
        fresh = record {
          role = refl;
          since_is = λ s e. ap (λ (t : AllocatorState). t.times.since) (is_opened p i s e);
          word_is = λ s e. ap (λ (t : AllocatorState). t.times.word) (is_opened p i s e);
          size_is = refl;
          knows = knows p (r.opened p i).store (r.opened p i).moment (r.opened p i).word i;
          queue = λ frame j. absurd j;
          clock = (r.opened p i).clock;
        };
      })
      (λ party. refl) (r.left m in_m) (omega (arith, late)) late long

  -- what a member has where the calm begins, for a request to another one and the answer to it
  abbrev ready : (n m : ℕ) (what : What) (to : ℕ) → In (OfMember n) group → In (OfMember m) group → AreReady n m what to (world_of ids rows)
  ready n m what to i j = record {
    sender = opened n i;
    sends = (r.opened n i).runs;
    none_waits = refl;
    receiver = opened m j;
    receives = (r.opened m j).runs;
  }

  -- each can ask each other one for its vote
  pub can_ask : ((n m : ℕ) → In (OfMember n) group → In (OfMember m) group → Lists n m (world_of ids rows)) → (n m : ℕ) → In (OfMember n) group
      → In (OfMember m) group → CanAsk n m (world_of ids rows) whole
  can_ask lists n m i j = record {
    asks_it = lists n m i j;
    hears_it = lists m n j i;
    calls = ready n m VoteQ m i j;
    first_call = tt;
    answers = ready m n Vote n j i;
    first_answer = tt;
    memory = r.memory n i;
    its_memory = r.memory m j;
    place = r.place m j;
  }

  -- where the first that stands is ahead, no term is above its own
  pub top_of_first : (terms_stay : TermsStay ids rows) (terms_rise : TermsDoNotFall ids rows) (before : ℕ)
      (found : IsFound group clocks before (world_of ids rows) (world_of ids rows) whole) → IsAhead group found.c (world_of ids rows)
      → AreWithin group found.stands.before.raft_server.store.term (after_rows (world_of ids rows) (rows_in found.front))
  top_of_first terms_stay terms_rise before found ahead m i server up = omega (arith, within m i server up, risen)
    where
      calm_so : AreCalm group clocks pace (no_traffic start) (world_of ids rows) (found.front ++ found.timed ∷ found.rest)
      calm_so = subst (AreCalm group clocks pace (no_traffic start) (world_of ids rows)) found.split r.calm

      harmless_front : DoNoHarm (world_of ids rows) (rows_in found.front)
      harmless_front = first_harmless (world_of ids rows) (rows_in found.front) (rows_in (found.timed ∷ found.rest))
          (subst (DoNoHarm (world_of ids rows)) (ap rows_in found.split ∙ rows_both found.front (found.timed ∷ found.rest)) r.harmless)

      within : AreWithin group (opened found.c found.member).raft_server.store.term (after_rows (world_of ids rows) (rows_in found.front))
      within = terms_stay group clocks pace start (opened found.c found.member).raft_server.store.term [] found.front (found.timed ∷ found.rest) r.listed all_run r.others calm_so
          harmless_front (λ k j other on. (ahead k (opened found.c found.member) other j (r.opened found.c found.member).runs on).0)
          (nobody_stands group (opened found.c found.member).raft_server.store.term found.front (world_of ids rows) found.followed found.follow)

      risen : (opened found.c found.member).raft_server.store.term ≤ found.stands.before.raft_server.store.term
      risen = terms_rise group clocks pace start found.c [] found.front (found.timed ∷ found.rest) (opened found.c found.member) found.stands.before all_run
          calm_so found.member (r.opened found.c found.member).runs found.stands.runs

  -- who is ahead has a log that is furthest
  pub furthest_too : (c : ℕ) → IsAhead group c (world_of ids rows) → IsFurthest group c (world_of ids rows)
  furthest_too c ahead m server other i up_c up_m = (ahead m server other i up_c up_m).1

  -- ---- who stands above all terms, with a log that is furthest, wins

  module _ (logs_stay : LogsStay ids rows) (appends : NoAppendsCome ids rows) (lists : (n m : ℕ) → In (OfMember n) group → In (OfMember m) group → Lists n m (world_of ids rows)) (last before : ℕ)
      (found : AMemberStands group before (world_of ids rows) whole)
      (top : AreWithin group found.stands.before.raft_server.store.term (after_rows (world_of ids rows) (rows_in found.front)))
      (furthest : IsFurthest group found.c (world_of ids rows)) (silent : AskedNobody found.c (world_of ids rows) found.front)
      (soon : before + 4 * pace.delay ≤ last) (long : last < end_of start whole) where
    abbrev pub there : Cluster
    there = after_rows w (rows_in found.front)

    pub calm_so : AreCalm group clocks pace (no_traffic start) w (found.front ++ found.timed ∷ found.rest)
    calm_so = subst (AreCalm group clocks pace (no_traffic start) w) found.split r.calm

    pub harmless_so : DoNoHarm w (rows_in (found.front ++ found.timed ∷ found.rest))
    harmless_so = subst (λ (l : List Timed). DoNoHarm w (rows_in l)) found.split r.harmless

    harmless_front : DoNoHarm w (rows_in found.front)
    harmless_front = first_harmless w (rows_in found.front) (rows_in (found.timed ∷ found.rest))
        (subst (DoNoHarm w) (rows_both found.front (found.timed ∷ found.rest)) harmless_so)

    pub led_before : Throughout (NobodyLeads group) w found.front
    led_before = found.nobody_led

    pub led_here : NobodyLeads group there
    led_here = found.nobody_leads

    -- ---- it can ask, and stands alone

    pub can : (m : ℕ) → In (OfMember m) group → m ≢ found.c → CanAsk found.c m w (found.front ++ found.timed ∷ found.rest)
    can m i differs = subst (CanAsk found.c m (world_of ids rows)) found.split (can_ask lists found.c m found.member i)

    pub alone : StandsAlone group found.c (found.timed.at + 4 * pace.delay) (after_row there found.timed.row) found.rest
    alone front rest timed n term split soon_enough i s = elim (eqb_tells n found.c) [
      | inl z ↦ z.1
      | inr z ↦
          let gap = r.apart found.front front rest found.timed timed found.c n found.term term
          (found.split ∙ ap (λ (l : List Timed). found.front ++ found.timed ∷ l) split) found.member i (λ e. z.1 (sym e)) found.stands
          (subst (λ (v : Cluster). Stands n term v timed.row) (sym (world_both w found.front (found.timed ∷ front))) s) in
          absurd (omega (arith, gap, soon_enough))
    ]

    pub long_enough : found.timed.at + 4 * pace.delay < end_of found.timed.at found.rest
    long_enough =
        let e : end_of start whole ≡ end_of found.timed.at found.rest = ap (end_of start) found.split ∙ end_both start found.front (found.timed ∷ found.rest) in
        let f = found.soon in
        omega (arith, e, f, soon, long)

    -- nobody led before, so no append request is under way
    pub unheard : AppendsUnheard group (found.timed.at + 4 * pace.delay) (after_row there found.timed.row) found.rest
    unheard front rest timed m split soon_enough none none_then i hears = appends group clocks pace start m (found.front ++ found.timed ∷ front) rest timed
        r.listed all_run none_waits
        (subst (AreCalm group clocks pace (no_traffic start) w) (ap (λ (l : List Timed). found.front ++ found.timed ∷ l) split
        ∙ sym (append_assoc found.front (found.timed ∷ front) (timed ∷ rest))) calm_so) i
        (throughout_join (NobodyLeads group) found.front (found.timed ∷ front) w led_before (led_here, none))
        (subst (NobodyLeads group) (sym (world_both w found.front (found.timed ∷ front))) none_then)
        (subst (λ (u : Cluster). HearsAppend m u timed.row) (sym (world_both w found.front (found.timed ∷ front))) hears)

    abbrev pub standing : IsCalmStanding ids rows group clocks pace start found.c found.term found.front found.timed found.rest
    standing = record {
      listed = r.listed;
      running = all_run;
      many = r.many;
      others = r.others;
      member = found.member;
      quick = r.quick;
      calm = calm_so;
      harmless = harmless_so;
      can = can;
      fit = subst (VoteRequestsFit found.c w) found.split (r.fit found.c found.member);
      stands = found.stands;
      silent = λ front rest timed m split lately i asks. silent front rest timed m split asks;
      unheard = unheard;
      alone = alone;
      long = long_enough;
    }

    -- ---- the others are behind it

    abbrev its : AllocatorState
    its = opened found.c found.member

    same_log : (m : ℕ) → (i : In (OfMember m) group) → (server : AllocatorState) → (there.member m).status ≡ Up server
        → server.raft_server.store.log ≡ (opened m i).raft_server.store.log
    same_log m i server up = (logs_stay group clocks pace start m found.front (found.timed ∷ found.rest) (opened m i) server r.listed all_run none_waits calm_so
        i led_before led_here (r.opened m i).runs up).0

    pub behind : (m : ℕ) → In (OfMember m) group → m ≢ found.c → IsBehind m found.term found.stands.before (after_rows (world_of ids rows) (rows_in found.front))
    behind m i differs server up = (
      let a = top m i server up in let c = found.stands.next in omega (arith, a, c),
      subst (λ (l : List Entry). NotAbove (last_term l) (length l) (last_term found.stands.before.raft_server.store.log)
          (length found.stands.before.raft_server.store.log)) (sym (same_log m i server up))
          (subst (λ (l : List Entry). NotAbove (last_term (opened m i).raft_server.store.log) (length (opened m i).raft_server.store.log) (last_term l) (length l))
          (sym (same_log found.c found.member found.stands.before found.stands.runs))
          (furthest m its (opened m i) i (r.opened found.c found.member).runs (r.opened m i).runs)),
    )

    -- so it wins, where the others follow
    module _ (others_follow : OthersFollow group found.c (after_rows (world_of ids rows) (rows_in found.front)))
        (wins : (calm : IsCalmStanding ids rows group clocks pace start found.c found.term found.front found.timed found.rest)
        → ((m : ℕ) → In (OfMember m) group → m ≢ found.c → IsBehind m found.term calm.stands.before (after_rows (world_of ids rows) (rows_in found.front)))
        → WinsBy group clocks found.c found.term found.timed.at (found.timed.at + 4 * pace.delay) (after_row (after_rows (world_of ids rows) (rows_in found.front)) found.timed.row)
        found.rest) where
      pub ends : EndsBy group clocks pace.delay last (world_of ids rows) whole
      ends = record {
        front = found.front;
        timed = found.timed;
        rest = found.rest;
        split = found.split;
        soon = let f = found.soon in omega (arith, f, soon);
        nobody_led = led_before;
        nobody_leads = led_here;
        c = found.c;
        member = found.member;
        term = found.term;
        stands = found.stands;
        others_follow = others_follow;
        wins = wins standing behind;
      }
