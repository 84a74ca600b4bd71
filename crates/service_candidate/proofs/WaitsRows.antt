-- What a row that does no harm does to the wait of a member: it goes on; or the member stands for election; or it begins
-- anew for a reason.
use Rattle.std.proofs.Common.{◌≡◌, ◌≢◌, ℕ, ◌+◌, ◌-◌, ◌≤◌, arith, Bool, true, false, List, [], ◌∷◌, length, ◌⊎◌, inl, inr, refl, sym, ◌∙◌, ap, subst, max, Option, Some, None}
use Rattle.std.specs.Prelude.{◌/◌, ◌%◌, ◌==◌, nat_le, if◌then◌else◌}
use Rattle.std.proofs.lemmas.Bool.Decides.{eqb_tells, leb_tells}
use Rattle.can_frame.specs.declared.identifier.Ident.{Ident}
use Rattle.can_frame.specs.declared.identifier.Kind.{Kind}
use Rattle.can_frame.specs.declared.identifier.Kind.TheVariants.{Request as RequestKind}
use Rattle.can_frame.specs.Timing.{election_spread, election_wait}
use Rattle.raft_core.specs.Handled as handled
use Rattle.raft_core.specs.Times.{Times, has_waited}
use Rattle.raft_model.specs.Decisions.{grants}
use Rattle.raft_model.specs.Lists.{In, at, at_here, at_other, how_many}
use Rattle.raft_model.specs.Members.{HasNoneTwice}
use Rattle.raft_model.specs.Moves.Elections.{own_vote, with_term}
use Rattle.raft_log.specs.KeyDisk.{are_put, puts_on}
use Rattle.raft_model.specs.Server.{RaftServer}
use Rattle.raft_model.specs.Server.Role.{Candidate, Follower, Leader}
use Rattle.bus_rows.specs.declared.row.Row.{Row}
use Rattle.bus_rows.specs.declared.row.Row.TheVariants.{AEnd, AOpen, ARx, ASend, ATick, Crash, Ext, Fault, Open, Rx, Send, Tick}
use Rattle.transfer_rx.specs.Acceptance.{first_signature}
use Rattle.transfer_rx.specs.Reassembly.{Arrival, Gives, answer}
use Rattle.transfer_rx.specs.Sound.{IsDelivered}
use Rattle.transfer_tx.specs.Queue.{Queued}
use Rattle.alloc_spec.specs.Accepted.{rows, setting_for}
use Rattle.alloc_spec.specs.AllocatorState.{AllocatorState, knows_all, members_of, start_of}
use Rattle.alloc_spec.specs.Step.{Event, after_pop, step}
use Rattle.alloc_spec.specs.StepState.{StepState}
use Rattle.alloc_spec_laws.proofs.Choices.{and_left, and_right, either, eq_true}
use Rattle.alloc_spec_laws.proofs.Peers.{IsList, members_list}
use Rattle.bus_agreement.specs.LawsBelow.{FrameLaws}
use Rattle.bus_agreement.proofs.RowsWithoutEvents.{left_in_queue}
use Rattle.bus_agreement.proofs.Idents.{wanted_is}
use Rattle.service_calm.proofs.Counting.{now_after}
use Rattle.service_calm.proofs.Pair.{same_server}
use Rattle.service_candidate.specs.Votes.{HearsAppend, Stands}
use Rattle.service_candidate.specs.Waits.{GivesVote, WaitsAnew}
use Rattle.service_candidate.proofs.WaitsFrames.{HearsOne, VotesFor, frame_leaves}
use Rattle.service_candidate.proofs.WaitsTicks.{role_of_standing, stands_at, tick_leaves}
use Rattle.bus_spec.specs.Cluster.{Cluster, after_row, arrival_at, frame_at, receipt_of, tick_of}
use Rattle.bus_spec.specs.Lawful.{DoesNoHarm, because, no_node, or_else}
use Rattle.bus_spec.specs.declared.unlawful.Unlawful.{Unlawful}
use Rattle.bus_spec.specs.declared.unlawful.Unlawful.TheVariants.{Running}
use Rattle.bus_spec.specs.Members.{Member, MemberStatus, after_crash, after_cut_off, after_sending, after_writing, is_running, member_after_step, puts_of, stopped_with, with_failure_armed, with_stop_armed}
use Rattle.bus_spec.specs.Members.MemberStatus.{Up}

-- ---- who stands is a candidate, where there are two members or more

none_own : (me : ℕ) (xs : List ℕ) → (In me xs → ⊥) → how_many (own_vote me) xs ≡ 0
none_own me [] out = refl
none_own me (x ∷ xs) out = elim (eqb_tells x me) [
  | inl z ↦ absurd (out (inl (sym z.1)))
  | inr z ↦
      let e : how_many (own_vote me) (x ∷ xs) ≡ 0 + how_many (own_vote me) xs = ap (λ (b : Bool). (if b then 1 else 0) + how_many (own_vote me) xs) z.0 in
      let n = none_own me xs (λ i. out (inr i)) in
      omega (arith, e, n)
]

one_own : (me : ℕ) (xs : List ℕ) → HasNoneTwice xs → how_many (own_vote me) xs ≤ 1
one_own me [] once = omega arith
one_own me (x ∷ xs) once = elim (eqb_tells x me) [
  | inl z ↦
      let e : how_many (own_vote me) (x ∷ xs) ≡ 1 + how_many (own_vote me) xs = ap (λ (b : Bool). (if b then 1 else 0) + how_many (own_vote me) xs) z.0 in
      let n = none_own me xs (λ i. once.0 (subst (λ (k : ℕ). In k xs) (sym z.1) i)) in
      omega (arith, e, n)
  | inr z ↦
      let e : how_many (own_vote me) (x ∷ xs) ≡ 0 + how_many (own_vote me) xs = ap (λ (b : Bool). (if b then 1 else 0) + how_many (own_vote me) xs) z.0 in
      let n = one_own me xs once.1 in
      omega (arith, e, n)
]

no_quorum : (n votes : ℕ) → 2 ≤ n → votes ≤ 1 → nat_le (n / 2 + 1) votes ≡ false
no_quorum n votes many few = elim (leb_tells (n / 2 + 1) votes) [
  | inl z ↦ let some : 1 ≤ n / 2 = omega (arith, many) in absurd (omega (arith, z.1, some, few))
  | inr z ↦ z.0
]

-- a server that knows all of two members or more is no quorum alone
pub is_candidate_then : (t : AllocatorState) → knows_all t ≡ true → 2 ≤ t.size → role_of_standing t ≡ Candidate
is_candidate_then t knows many = ap (λ (q : Bool). if q then Leader else Candidate)
    (no_quorum (length (members_of t)) (how_many (own_vote t.me) (members_of t)) (omega (arith, all, many)) (one_own t.me (members_of t) list.once))
  where
    list : IsList t.size t.me (members_of t)
    list = members_list (start_of t) t.heard

    all : length (members_of t) ≡ t.size
    all = eq_true (length (members_of t)) t.size knows

-- who stands knows all members, and its wait is over
pub knows_then : (t : AllocatorState) (moment : ℕ) → stands_at t moment ≡ true → knows_all t ≡ true
knows_then t moment e = and_left (knows_all t) (has_waited t.times moment) (and_left _ _ e)

pub waited_then : (t : AllocatorState) (moment : ℕ) → stands_at t moment ≡ true → t.times.since + election_wait ≤ moment
waited_then t moment e = by (and_right (knows_all t) (has_waited t.times moment) (and_left _ _ e))
  where
    by : has_waited t.times moment ≡ true → t.times.since + election_wait ≤ moment
    by waited = elim (leb_tells (election_wait + t.times.word % election_spread) (moment - t.times.since)) [
      | inl z ↦ omega (arith, z.1)
      | inr z ↦ absurd (cc (waited, z.0))
    ]

-- ---- what a row leaves of a member that runs before and behind it

-- It took a step, at a tick or at a frame; or no more than a frame of its queue went out.
pub data Takes (w : Cluster) (row : Row) (m : ℕ) (before after : AllocatorState) : Type 0 where
  Ticks : (ms word : ℕ) → row ≡ Tick m ms word → after ≡ (step before (w.rows + 1) (tick_of ms word)).step_state.allocator → Takes w row m before after
  Receives : (k ms : ℕ) → row ≡ Rx m k ms → after ≡ (step before (w.rows + 1) (receipt_of w k ms)).step_state.allocator → Takes w row m before after
  Rests : after.times ≡ before.times → after.raft_server ≡ before.raft_server → ((frame : Queued) → In frame after.queue → In frame before.queue)
      → Takes w row m before after

-- where the member runs with this server, the step left it
abbrev IsTaken : AllocatorState → StepState → Member → Type 0
IsTaken after g y = y.status ≡ Up after → after ≡ g.allocator

-- a step that leaves the member running was taken whole
stepped_up : (x : Member) (number : ℕ) (event : Event) (before after : AllocatorState) → x.status ≡ Up before
    → (member_after_step number event x.status x).status ≡ Up after → after ≡ (step before number event).step_state.allocator
stepped_up x number event before after is later =
    written (ap (λ (status : MemberStatus). (member_after_step number event status x).status) (sym is) ∙ later)
  where
    g : StepState
    g = (step before number event).step_state

    written : IsTaken after (step before number event).step_state (after_writing x number before (step before number event).step_state)
    written = either (IsTaken after g) (are_put (puts_of x g) x.disk.calls) _ (after_cut_off x number before g (puts_on (puts_of x g) x.disk))
        (λ e up. same_server after g.allocator (sym up))
        (λ e. either (IsTaken after g) (puts_on (puts_of x g) x.disk).calls.stopped _ _ (λ f up. absurd (cc (up))) (λ f up. absurd (cc (up))))

module _ (w : Cluster) (m : ℕ) (before after : AllocatorState) (runs : (w.member m).status ≡ Up before) where
  -- of another member's row
  elsewhere : (row : Row) (n : ℕ) (x : Member) → n ≢ m → (at w.member n x m).status ≡ Up after → Takes w row m before after
  elsewhere row n x differs later =
      let same : after ≡ before = same_server after before (sym later ∙ (ap (λ (y : Member). y.status) (at_other w.member n m x (λ e. differs (sym e))) ∙ runs)) in
      Rests (ap (λ (t : AllocatorState). t.times) same) (ap (λ (t : AllocatorState). t.raft_server) same)
      (λ frame i. subst (λ (t : AllocatorState). In frame t.queue) same i)

  -- of its own
  here : (n : ℕ) (change : Member → Member) → n ≡ m → (at w.member n (change (w.member n)) m).status ≡ Up after → (change (w.member m)).status ≡ Up after
  here n change same later = sym (ap (λ (y : Member). y.status) (at_here w.member n m (change (w.member n)) (sym same))
      ∙ ap (λ (j : ℕ). (change (w.member j)).status) same) ∙ later

  as_it_was : (row : Row) → (w.member m).status ≡ Up after → Takes w row m before after
  as_it_was row later = let same : after ≡ before = same_server after before (sym later ∙ runs) in
      Rests (ap (λ (t : AllocatorState). t.times) same) (ap (λ (t : AllocatorState). t.raft_server) same)
      (λ frame i. subst (λ (t : AllocatorState). In frame t.queue) same i)

  runs_on : is_running (w.member m).status ≡ true
  runs_on = ap is_running runs

  -- who runs is not opened
  not_opened : (n : ℕ) (told : Bool) (ms word : ℕ) → n ≡ m → DoesNoHarm w (Open n told ms word) → ⊥
  not_opened n told ms word same (inl e) = by (no_node w n) (is_running (w.member n).status) (ap (λ (j : ℕ). is_running (w.member j).status) same ∙ runs_on) e
    where
      by : (o : Option Unlawful) (b : Bool) → b ≡ true → or_else o (because Running b) ≡ None → ⊥
      by (Some cause) b t f = cc (f)
      by None true t f = cc (f)
      by None false t f = cc (t)
  not_opened n told ms word same (inr e) = cc (e.1)

  -- who runs is not stopped at once where it runs behind the row
  crashed : (row : Row) (calls : ℕ) (pattern : _) → (after_crash calls pattern (w.member m)).status ≡ Up after → Takes w row m before after
  crashed row calls pattern = either (λ (x : Member). x.status ≡ Up after → Takes w row m before after) (calls == 0)
      (stopped_with pattern (w.member m).disk (w.member m)) (with_stop_armed calls pattern (w.member m)) (λ e later. absurd (cc (later))) (λ e later. as_it_was row later)

  pub takes : (row : Row) → DoesNoHarm w row → ((after_row w row).member m).status ≡ Up after → Takes w row m before after
  takes (Open n told ms word) harm later = elim (eqb_tells n m) [
    | inl z ↦ absurd (not_opened n told ms word z.1 harm)
    | inr z ↦ elsewhere (Open n told ms word) n _ z.1 later
  ]
  takes (Tick n ms word) harm later = elim (eqb_tells n m) [
    | inl z ↦ Ticks ms word (ap (λ (j : ℕ). Tick j ms word) z.1)
        (stepped_up (w.member m) (w.rows + 1) (tick_of ms word) before after runs
        (here n (λ x. member_after_step (w.rows + 1) (tick_of ms word) x.status x) z.1 later))
    | inr z ↦ elsewhere (Tick n ms word) n _ z.1 later
  ]
  takes (Rx n k ms) harm later = elim (eqb_tells n m) [
    | inl z ↦ Receives k ms (ap (λ (j : ℕ). Rx j k ms) z.1)
        (stepped_up (w.member m) (w.rows + 1) (receipt_of w k ms) before after runs
        (here n (λ x. member_after_step (w.rows + 1) (receipt_of w k ms) x.status x) z.1 later))
    | inr z ↦ elsewhere (Rx n k ms) n _ z.1 later
  ]
  takes (Send n) harm later = elim (eqb_tells n m) [
    | inl z ↦
        let popped : Up (after_pop before) ≡ Up after = ap after_sending (sym runs) ∙ here n (λ x. record x { status = after_sending x.status }) z.1 later in
        let same : after ≡ after_pop before = same_server after (after_pop before) (sym popped) in
        Rests (ap (λ (t : AllocatorState). t.times) same) (ap (λ (t : AllocatorState). t.raft_server) same)
        (λ frame i. left_in_queue before.queue frame (subst (λ (t : AllocatorState). In frame t.queue) same i))
    | inr z ↦ elsewhere (Send n) n _ z.1 later
  ]
  takes (Ext frame) harm later = as_it_was (Ext frame) later
  takes (Crash n calls pattern) harm later = elim (eqb_tells n m) [
    | inl z ↦ crashed (Crash n calls pattern) calls pattern (here n (after_crash calls pattern) z.1 later)
    | inr z ↦ elsewhere (Crash n calls pattern) n _ z.1 later
  ]
  takes (Fault n call) harm later = elim (eqb_tells n m) [
    | inl z ↦ as_it_was (Fault n call) (here n (with_failure_armed call) z.1 later)
    | inr z ↦ elsewhere (Fault n call) n _ z.1 later
  ]
  takes (AOpen a uid pref ms word) harm later = as_it_was (AOpen a uid pref ms word) later
  takes (ATick a ms word) harm later = as_it_was (ATick a ms word) later
  takes (ARx a k ms word) harm later = as_it_was (ARx a k ms word) later
  takes (ASend a) harm later = as_it_was (ASend a) later
  takes (AEnd a) harm later = as_it_was (AEnd a) later

-- ---- reasons, as rows have them

-- a request that is received and is no other is a vote request
vote_number : (number : ℕ) (s : ℕ) → first_signature rows RequestKind number ≡ Some s → number ≢ 1 → number ≢ 30 → number ≡ 31
unfolding rows
vote_number number s e one thirty = elim (eqb_tells 1 number) [
  | inl same ↦ absurd (one (sym same.1))
  | inr first ↦ elim (eqb_tells 30 number) [
    | inl same ↦ absurd (thirty (sym same.1))
    | inr second ↦ elim (eqb_tells 31 number) [
      | inl same ↦ sym same.1
      | inr third ↦ absurd (cc (rw (first.0, second.0, third.0) at e))
    ]
  ]
]

module _ (frame : FrameLaws) (w : Cluster) (m k ms : ℕ) (t : AllocatorState) (runs : (w.member m).status ≡ Up t) (me : t.me ≡ m) where
  abbrev arrival : Arrival
  arrival = arrival_at (frame_at w.frames k) ms

  pub hears_append : HearsOne t arrival → HearsAppend m w (Rx m k ms)
  hears_append one = record { k = k; ms = ms; comes = refl; server = t; runs = runs; delivery = one.delivery; request = one.request; hears = one.hears }

  pub gives_vote : VotesFor t arrival → GivesVote m w (Rx m k ms)
  gives_vote one = record {
    k = k;
    ms = ms;
    comes = refl;
    server = t;
    runs = runs;
    delivery = one.delivery;
    gives = subst (λ (n : ℕ). answer (setting_for n) t.sessions (arrival_at (frame_at w.frames k) (max t.now ms)) ≡ Gives one.delivery) me one.gives;
    kind = one.kind;
    number = vote_number one.delivery.ident.number signature.0 signature.1 one.no_info one.no_append;
    request = one.request;
    read = one.read;
    grants_it = subst (λ (n : ℕ). let asked = handled.vote_request_of one.request one.delivery.mark.step one.delivery.ident.source n in
        grants (with_term t.raft_server.store one.request.term) asked ≡ true) me one.grants_it;
  }
    where
      its : IsDelivered (setting_for t.me) t.sessions (arrival_at (frame_at w.frames k) (max t.now ms)) one.delivery
      its = frame.delivered (setting_for t.me) t.sessions (arrival_at (frame_at w.frames k) (max t.now ms)) one.delivery one.gives

      signature : (s : ℕ) × (first_signature rows RequestKind one.delivery.ident.number ≡ Some s)
      signature =
          let found = (wanted_is rows t.me (frame_at w.frames k).id its.w its.accepted).signature in (
            found.0,
            subst (λ (kind : Kind). first_signature rows kind one.delivery.ident.number ≡ Some found.0) one.kind
                (subst (λ (i : Ident). first_signature rows i.kind i.number ≡ Some found.0) (sym its.ident) found.1),
          )

-- ---- the laws of a row

module _ (w : Cluster) (m : ℕ) (row : Row) (harm : DoesNoHarm w row) where
  -- a wait begins anew for a reason
  pub has_reason : (frame : FrameLaws) → (anew : WaitsAnew m w row) → anew.before.me ≡ m → 2 ≤ anew.before.size
      → HearsAppend m w row ⊎ (((anew.before.raft_server.memory.role ≢ Follower) × (anew.after.raft_server.memory.role ≡ Follower)) ⊎ GivesVote m w row)
  has_reason frame anew me many = by (takes w m anew.before anew.after anew.runs row harm anew.runs_then)
    where
      by : Takes w row m anew.before anew.after
          → HearsAppend m w row ⊎ (((anew.before.raft_server.memory.role ≢ Follower) × (anew.after.raft_server.memory.role ≡ Follower)) ⊎ GivesVote m w row)
      by (Rests times server queue) = absurd (anew.anew (ap (λ (ts : Times). ts.since) times))
      by (Ticks ms word is after_is) = elim (tick_leaves anew.before (w.rows + 1) ms word) [
        | inl same ↦ absurd (anew.anew (ap (λ (t : AllocatorState). t.times.since) after_is ∙ same.1))
        | inr stood ↦ absurd (anew.stands_not (anew.before.raft_server.store.term + 1) (record {
          ms = ms;
          word = word;
          reads = is;
          before = anew.before;
          runs = anew.runs;
          next = refl;
          after = anew.after;
          runs_then = anew.runs_then;
          stands = ap (λ (t : AllocatorState). t.raft_server.memory.role) after_is
              ∙ (stood.3 ∙ is_candidate_then anew.before (knows_then anew.before (max anew.before.now ms) stood.0) many);
          its_term = ap (λ (t : AllocatorState). t.raft_server.store.term) after_is ∙ stood.2;
        }))
      ]
      by (Receives k ms is after_is) = elim (frame_leaves anew.before (w.rows + 1) (arrival_at (frame_at w.frames k) ms)).0 [
        | inl same ↦ absurd (anew.anew (ap (λ (t : AllocatorState). t.times.since) after_is ∙ same))
        | inr (since, inl (inl one)) ↦ inl (subst (HearsAppend m w) (sym is) (hears_append frame w m k ms anew.before anew.runs me one))
        | inr (since, inl (inr one)) ↦ inr (inr (subst (GivesVote m w) (sym is) (gives_vote frame w m k ms anew.before anew.runs me one)))
        | inr (since, inr roles) ↦ inr (inl (roles.0, ap (λ (t : AllocatorState). t.raft_server.memory.role) after_is ∙ roles.1))
      ]

  -- and at the moment of the step
  pub begins_then : (anew : WaitsAnew m w row) → anew.after.times.since ≡ anew.after.now
  begins_then anew = by (takes w m anew.before anew.after anew.runs row harm anew.runs_then)
    where
      by : Takes w row m anew.before anew.after → anew.after.times.since ≡ anew.after.now
      by (Rests times server queue) = absurd (anew.anew (ap (λ (ts : Times). ts.since) times))
      by (Ticks ms word is after_is) = elim (tick_leaves anew.before (w.rows + 1) ms word) [
        | inl same ↦ absurd (anew.anew (ap (λ (t : AllocatorState). t.times.since) after_is ∙ same.1))
        | inr stood ↦ ap (λ (t : AllocatorState). t.times.since) after_is
            ∙ (stood.1 ∙ (sym (now_after anew.before (w.rows + 1) (tick_of ms word)) ∙ ap (λ (t : AllocatorState). t.now) (sym after_is)))
      ]
      by (Receives k ms is after_is) = elim (frame_leaves anew.before (w.rows + 1) (arrival_at (frame_at w.frames k) ms)).0 [
        | inl same ↦ absurd (anew.anew (ap (λ (t : AllocatorState). t.times.since) after_is ∙ same))
        | inr (since, why) ↦ ap (λ (t : AllocatorState). t.times.since) after_is
            ∙ (since ∙ (sym (now_after anew.before (w.rows + 1) (receipt_of w k ms)) ∙ ap (λ (t : AllocatorState). t.now) (sym after_is)))
      ]

  -- who stands has waited for the least wait
  pub has_waited_long : (term : ℕ) (s : Stands m term w row) → s.before.times.since + election_wait ≤ max s.before.now s.ms
  has_waited_long term s = by (takes w m s.before s.after s.runs row harm s.runs_then)
    where
      rises : s.after.raft_server.store.term ≡ s.before.raft_server.store.term + 1
      rises = s.its_term ∙ s.next

      no_rise : s.after.raft_server.store.term ≡ s.before.raft_server.store.term → ⊥
      no_rise e = omega (arith, rises, e)

      same_ms : (a b c d : ℕ) → Tick m a c ≡ Tick m b d → a ≡ b
      same_ms a b c d e = cc e

      by : Takes w row m s.before s.after → s.before.times.since + election_wait ≤ max s.before.now s.ms
      by (Rests times server queue) = absurd (no_rise (ap (λ (r : RaftServer). r.store.term) server))
      by (Ticks ms word is after_is) = elim (tick_leaves s.before (w.rows + 1) ms word) [
        | inl same ↦ absurd (no_rise (ap (λ (t : AllocatorState). t.raft_server.store.term) after_is ∙ same.3))
        | inr stood ↦
            let e : ms ≡ s.ms = same_ms ms s.ms word s.word (sym is ∙ s.reads) in
            let h = waited_then s.before (max s.before.now ms) stood.0 in
            omega (arith, e, h)
      ]
      by (Receives k ms is after_is) = absurd (cc (sym is ∙ s.reads))
