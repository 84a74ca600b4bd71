-- Each other member of the group hears the request and follows from then on: its wait begins anew, and it votes for c unless
-- somebody led before.
use Rattle.std.proofs.Common.{◌≡◌, ◌≢◌, ℕ, ◌+◌, ◌*◌, ◌<◌, ◌≤◌, arith, Bool, true, false, List, [], ◌∷◌, ◌++◌, length, max, inl, inr, refl, sym, ◌∙◌, ap, subst, None, Some}
use Rattle.std.specs.Prelude.{◌⊎◌}
use Rattle.std.proofs.lemmas.Bool.Decides.{eqb_tells}
use Rattle.std.proofs.lemmas.List.{append_assoc, append-nil}
use Rattle.can_frame.specs.Log.{last_term}
use Rattle.raft_model.specs.Decisions.{grants}
use Rattle.raft_model.specs.Lists.{In, at_other}
use Rattle.raft_model.specs.Log.{NotAbove}
use Rattle.raft_model.specs.Messages.{Request}
use Rattle.raft_model.specs.Moves.Elections.{IsGranted, MayGrant, with_term}
use Rattle.raft_model.specs.Server.{Store}
use Rattle.raft_model.specs.Server.Role.{Follower, Leader}
use Rattle.bus_rows.specs.declared.row.Row.{Row}
use Rattle.alloc_spec.specs.AllocatorState.{AllocatorState}
use Rattle.alloc_spec.specs.Step.{Event, moment_of, step}
use Rattle.alloc_spec_laws.proofs.Choices.{lt_tells}
use Rattle.bus_rows.specs.Timed.{Timed}
use Rattle.service_alone.specs.Calm.{end_of}
use Rattle.service_candidate.specs.Terms.{AreWithin, NobodyLeads}
use Rattle.service_candidate.specs.Votes.{HasVoted, vote_asked_by}
use Rattle.service_candidate.specs.Waits.{WaitsAnew}
use Rattle.service_candidate.specs.Wins.{IsBehind, LeadsAlone}
use Rattle.service_candidate.proofs.LogsChange.{HearsAtFrame, log_or_hears}
use Rattle.service_candidate.proofs.WinsAsked.{ComesBack, asked_is, comes_back, read, x}
use Rattle.service_candidate.proofs.WinsFronts.{from_row_to_row, here_more}
use Rattle.service_candidate.proofs.WinsScene.{IsStepped, Scene, by_end, clock_at, clock_next, end_before, from_at, harm_row, here, highest, kept_later, last, laws_at, row_calm, runs_at, runs_v, since_row, stepped_or_not, there, v}
use Rattle.service_candidate.proofs.WinsStays.{free_at, in_middle, logs_at, standing, stands_not}
use Rattle.service_leader.specs.CallsComeBack.{LeadsNotIfUp}
use Rattle.service_leader.proofs.RowsOfOne.{stepped_up}
use Rattle.service_calm.specs.Calm.{IsCalmRow, Member as OfMember}
use Rattle.service_calm.specs.Comes.{Throughout}
use Rattle.service_calm.proofs.CallsKept.{IsKept, RunsWith}
use Rattle.service_calm.proofs.Counting.{now_after}
use Rattle.service_calm.proofs.Pair.{same_server}
use Rattle.bus_spec.specs.Cluster.{Cluster, after_row, arrival_at, frame_at, receipt_of, step_of}
use Rattle.bus_spec.specs.Members.{Member}
use Rattle.bus_spec.specs.Members.MemberStatus.{Up}

-- ---- a term that is heard

-- a higher term has no vote yet
pub with_higher : (store : Store) (k : ℕ) → store.term < k → with_term store k ≡ record store { term = k; vote = None }
with_higher store k low = elim (lt_tells store.term k) [
  | inl z ↦ rw (z.0) refl
  | inr z ↦ absurd (omega (arith, z.1, low))
]

pub with_same : (store : Store) (k : ℕ) → store.term ≡ k → with_term store k ≡ store
with_same store k same = elim (lt_tells store.term k) [
  | inl z ↦ absurd (omega (arith, z.1, same))
  | inr z ↦ rw (z.0) refl
]

-- what c asks of the others: each is below its term, with a log that is not above that of c, and none of them leads for two delays
pub record Contest (s : Scene) : Type 0 where
  pub behind : (m : ℕ) → In (OfMember m) s.group → m ≢ s.c → IsBehind m s.term s.calm.stands.before (there s)
  pub leads_alone : LeadsAlone s.group s.c (s.timed.at + 2 * s.pace.delay) (v s) s.rest

module _ (s : Scene) (k : Contest s) where
  -- ---- when c has stood

  -- the row of the standing leaves the others
  pub same_member : (m : ℕ) → m ≢ s.c → (v s).member m ≡ (there s).member m
  same_member m other = subst (λ (r : Row). (after_row (there s) r).member m ≡ (there s).member m) (sym s.calm.stands.reads)
      (at_other (there s).member s.c m _ other)

  up_there : (m : ℕ) → m ≢ s.c → (t : AllocatorState) → ((v s).member m).status ≡ Up t → ((there s).member m).status ≡ Up t
  up_there m other t up = ap (λ (q : Member). q.status) (sym (same_member m other)) ∙ up

  pub below_v : (m : ℕ) → In (OfMember m) s.group → m ≢ s.c → (t : AllocatorState) → ((v s).member m).status ≡ Up t → t.raft_server.store.term < s.term
  below_v m i other t up = (k.behind m i other t (up_there m other t up)).0

  pub within_v : AreWithin s.group s.term (v s)
  within_v m i t up = elim (eqb_tells m s.c) [
    | inl z ↦
        let same = ap (λ (q : AllocatorState). q.raft_server.store.term)
        (same_server t s.calm.stands.after (sym up ∙ (ap (λ (p : ℕ). ((v s).member p).status) z.1 ∙ s.calm.stands.runs_then))) in
        let its = s.calm.stands.its_term in omega (arith, same, its)
    | inr z ↦ let low = below_v m i z.1 t up in omega (arith, low)
  ]

  module _ (m : ℕ) (i : In (OfMember m) s.group) (other : m ≢ s.c) where
    -- its server when c has stood
    abbrev first : AllocatorState
    first = (runs_v s m i).server

    first_up : ((v s).member m).status ≡ Up first
    first_up = (runs_v s m i).up.status

    -- its clock, when c has stood, or the moment of that
    abbrev pub base : ℕ
    base = max first.now (s.timed.at + s.clocks (OfMember m))

    abbrev pub back : ComesBack s m i other
    back = comes_back s m i other

    -- ---- before it hears the request

    -- it does not lead
    pub leads_not_early : (a d : List Timed) → back.early ≡ a ++ d → LeadsNotIfUp m (here s a)
    leads_not_early a [] e = k.leads_alone a back.late back.hears m
        (back.split ∙ ap (λ (l : List Timed). l ++ back.hears ∷ back.late) (e ∙ append-nil a)) back.soon i other
    leads_not_early a (y ∷ d) e = k.leads_alone a (d ++ back.hears ∷ back.late) y m
        (back.split ∙ (ap (λ (l : List Timed). l ++ back.hears ∷ back.late) e ∙ append_assoc a (y ∷ d) (back.hears ∷ back.late)))
        (let z = (by_end s back.early (back.hears ∷ back.late) back.split y (subst (In y) (sym e) (in_middle a d y))).1 in
        let l = end_before s back.early back.late back.hears back.split in let q = back.soon in omega (arith, z, l, q)) i other

    -- a wait that begins anew in a row begins no earlier than `base`
    pub new_wait : (a b : List Timed) (one : Timed) → s.rest ≡ a ++ one ∷ b → one.at ≤ last s → (t u : AllocatorState) → ((here s a).member m).status ≡ Up t
        → ((after_row (here s a) one.row).member m).status ≡ Up u → (u.times.since ≡ t.times.since) ⊎ (base ≤ u.times.since)
    new_wait a b one e soon t u up up_then = elim (eqb_tells u.times.since t.times.since) [
      | inl z ↦ inl z.1
      | inr z ↦ inr (elim (stepped_or_not s m i a b one e t u up up_then) [
        | inl stepped ↦
            let anew : WaitsAnew m (here s a) one.row = record {
              before = t;
              runs = up;
              after = u;
              runs_then = up_then;
              anew = z.1;
              stands_not = stands_not s m i a b one e soon;
            } in
            let since = ((laws_at s a (one ∷ b) e).begin m one.row (s.calm.listed m i) (harm_row s a b one e)).0 anew in
            let now = ap (λ (q : AllocatorState). q.now) stepped.is ∙ now_after t ((here s a).rows + 1) stepped.event in
            let moment = stepped.moment in
            let clock = (clock_at s m i first first_up a (one ∷ b) e (let z2 = end_before s a b one e in omega (arith, z2, soon)) t up).0 in
            let then_at = since_row s a b one e in
            omega (arith, since, now, moment, clock, then_at)
        | inr same ↦ absurd (z.1 (ap (λ (q : _). q.since) same.times))
      ])
    ]

    -- its log is as it was, or its wait began anew
    abbrev IsAsBefore : AllocatorState → Type 0
    IsAsBefore t = (base ≤ t.times.since) ⊎ (t.raft_server.store.log ≡ first.raft_server.store.log)

    as_before_more : (a d : List Timed) (one : Timed) → back.early ≡ a ++ one ∷ d → ((t : AllocatorState) → ((here s a).member m).status ≡ Up t → IsAsBefore t)
        → (u : AllocatorState) → ((after_row (here s a) one.row).member m).status ≡ Up u → IsAsBefore u
    as_before_more a d one e before u up_then = elim (before t up) [
      | inl anew ↦ inl (elim (new_wait a behind one cut soon t u up up_then) [ inl same ↦ omega (arith, same, anew) | inr later ↦ later ])
      | inr same ↦ elim (stepped_or_not s m i a behind one cut t u up up_then) [
        | inl stepped ↦ elim (log_or_hears t ((here s a).rows + 1) stepped.event (subst (λ (q : AllocatorState). q.raft_server.memory.role ≢ Leader) stepped.is
            (leads_not_early (a ++ one ∷ []) d (e ∙ sym (append_assoc a (one ∷ []) d)) u (ap (λ (w : Cluster). (w.member m).status) (here_more (v s) a one) ∙ up_then)))) [
              | inl still ↦ inr (ap (λ (q : AllocatorState). q.raft_server.store.log) stepped.is ∙ (still ∙ same))
              | inr hears ↦ inl (heard stepped hears)
            ]
        | inr left ↦ inr (ap (λ (q : _). q.store.log) left.raft_server ∙ same)
      ]
    ]
      where
        behind : List Timed
        behind = d ++ back.hears ∷ back.late

        cut : s.rest ≡ a ++ one ∷ behind
        cut = back.split ∙ (ap (λ (l : List Timed). l ++ back.hears ∷ back.late) e ∙ append_assoc a (one ∷ d) (back.hears ∷ back.late))

        soon : one.at ≤ last s
        soon =
            let z = (by_end s back.early (back.hears ∷ back.late) back.split one (subst (In one) (sym e) (in_middle a d one))).1 in
            let l = end_before s back.early back.late back.hears back.split in let q = back.soon in omega (arith, z, l, q)

        t : AllocatorState
        t = (runs_at s m i a (one ∷ behind) cut).server

        up : ((here s a).member m).status ≡ Up t
        up = (runs_at s m i a (one ∷ behind) cut).up.status

        heard : (stepped : IsStepped s m a one t u) → HearsAtFrame t stepped.event → base ≤ u.times.since
        heard stepped hears =
            let anew = (s.hears_anew t ((here s a).rows + 1) hears.arrival hears.one.delivery hears.one.request hears.one.hears).0 in
            let same = ap (λ (q : AllocatorState). q.times.since) (stepped.is ∙ ap (λ (event : Event). (step t ((here s a).rows + 1) event).step_state.allocator) hears.comes) in
            let moment = ap moment_of (sym hears.comes) ∙ stepped.moment in
            let clock = (clock_at s m i first first_up a (one ∷ behind) cut (let z2 = end_before s a behind one cut in omega (arith, z2, soon)) t up).0 in
            let then_at = since_row s a behind one cut in
            omega (arith, anew, same, moment, clock, then_at)

    as_before : (t : AllocatorState) → ((here s back.early).member m).status ≡ Up t → IsAsBefore t
    as_before = from_row_to_row (v s) (λ (done : List Timed) (w : Cluster). (t : AllocatorState) → (w.member m).status ≡ Up t → IsAsBefore t) back.early
        (λ a d one e before. as_before_more a d one e before)
        (λ t up. inr (ap (λ (q : AllocatorState). q.raft_server.store.log) (same_server t first (sym up ∙ first_up))))

    -- ---- as it hears the request

    -- its server then
    abbrev pub hearer : AllocatorState
    hearer = back.delivers.server

    abbrev pub request : Request
    request = vote_asked_by (x s m i other) (read s m i other).request m

    pub request_term : request.term ≡ s.term
    request_term = ap (λ (r : Request). r.term) (sym (asked_is s m i other)) ∙ s.calm.stands.its_term

    end_early : end_of s.timed.at back.early ≤ last s
    end_early = let z = end_before s back.early back.late back.hears back.split in let q = back.soon in omega (arith, z, q)

    free : (hearer.raft_server.store.term < s.term)
        ⊎ ((hearer.raft_server.store.term ≡ s.term) × (hearer.raft_server.memory.role ≡ Follower)
        × ((hearer.raft_server.store.vote ≡ None) ⊎ (hearer.raft_server.store.vote ≡ Some s.c)))
    free = free_at s within_v (λ p j differs t up. below_v p j differs t up) back.early (back.hears ∷ back.late) back.split end_early m i other hearer back.delivers.runs

    -- what c asks says the term and the log of c
    not_above : hearer.raft_server.store.log ≡ first.raft_server.store.log
        → NotAbove (last_term hearer.raft_server.store.log) (length hearer.raft_server.store.log) request.previous_term request.previous
    not_above same =
        let its = (k.behind m i other first (up_there m other first first_up)).1 in
        let log = (standing s).log in
        subst (λ (r : Request). NotAbove (last_term hearer.raft_server.store.log) (length hearer.raft_server.store.log) r.previous_term r.previous) (asked_is s m i other)
        (subst (λ (l : List _). NotAbove (last_term hearer.raft_server.store.log) (length hearer.raft_server.store.log) (last_term l) (length l)) (sym log)
        (subst (λ (l : List _). NotAbove (last_term l) (length l) (last_term s.calm.stands.before.raft_server.store.log) (length s.calm.stands.before.raft_server.store.log))
        (sym same) its))

    may_grant : hearer.raft_server.store.log ≡ first.raft_server.store.log → MayGrant (with_term hearer.raft_server.store request.term) request
    may_grant same = elim free [
      | inl below ↦ subst (λ (store : Store). MayGrant store request)
          (sym (with_higher hearer.raft_server.store request.term (let e = request_term in omega (arith, below, e))))
          (record { own_term = refl; free = inl refl; not_above = not_above same })
      | inr here_too ↦ subst (λ (store : Store). MayGrant store request)
          (sym (with_same hearer.raft_server.store request.term (let e = request_term in let l = here_too.0 in omega (arith, l, e))))
          (record { own_term = request_term ∙ sym here_too.0; free = here_too.2; not_above = not_above same })
    ]

    is_true : (b : Bool) → IsGranted (with_term hearer.raft_server.store request.term) request b → MayGrant (with_term hearer.raft_server.store request.term) request → b ≡ true
    is_true true g may = refl
    is_true false g may = absurd (g may)

    -- with the log that it had it gives its vote
    pub grants_it : hearer.raft_server.store.log ≡ first.raft_server.store.log → grants (with_term hearer.raft_server.store request.term) request ≡ true
    grants_it same = is_true (grants (with_term hearer.raft_server.store request.term) request) (s.granted (with_term hearer.raft_server.store request.term) request) (may_grant same)

    -- so it does where nobody has led
    pub grants_quietly : Throughout (NobodyLeads s.group) (v s) back.early → NobodyLeads s.group (here s back.early)
        → grants (with_term hearer.raft_server.store request.term) request ≡ true
    grants_quietly none none_then = grants_it (logs_at s m i first back.early (back.hears ∷ back.late) back.split end_early none none_then first_up hearer back.delivers.runs)

    -- ---- and follows

    -- it follows, its wait began no earlier than `base`, and its clock shows that moment
    abbrev pub Follows : AllocatorState → Type 0
    Follows t = (t.raft_server.memory.role ≡ Follower) × (base ≤ t.times.since) × (first.now ≤ t.now) × (t.now ≤ highest s m first.now)

    abbrev MayCome : ℕ → Type 0
    MayCome moment = (s.timed.at + s.clocks (OfMember m) ≤ moment) × (moment ≤ last s + s.clocks (OfMember m))

    stepped_on : (t : AllocatorState) (number : ℕ) (event : Event) → MayCome (moment_of event) → Follows t → Follows (step t number event).step_state.allocator
    stepped_on t number (Event.Tick now word) may is =
        let after = now_after t number (Event.Tick now word) in
        let q = s.calm.quick in
        let stays = s.ticks t number now word is.0 (omega (arith, may.1, is.1, is.3, q)) in
        (stays.1, omega (arith, stays.0, is.1), omega (arith, after, is.2), omega (arith, after, is.3, may.1))
    stepped_on t number (Event.Rx arrival) may is =
        let after = now_after t number (Event.Rx arrival) in
        let stays = s.frames t number arrival is.0 in (
          stays.0,
          elim stays.1 [ inl same ↦ omega (arith, same, is.1) | inr anew ↦ omega (arith, anew, is.2, may.0) ],
          omega (arith, after, is.2),
          omega (arith, after, is.3, may.1),
        )

    follows_kept : IsKept MayCome Follows
    follows_kept = record { stepped = stepped_on; popped = λ t is. is }

    abbrev heard : List Timed
    heard = back.early ++ back.hears ∷ []

    heard_cut : s.rest ≡ heard ++ back.late
    heard_cut = back.split ∙ sym (append_assoc back.early (back.hears ∷ []) back.late)

    hears_soon : back.hears.at ≤ last s
    hears_soon = let q = back.soon in omega (arith, q)

    -- its server behind that row
    abbrev voter : AllocatorState
    voter = (step hearer ((here s back.early).rows + 1) (receipt_of (here s back.early) back.delivers.k back.delivers.ms)).step_state.allocator

    voter_up : ((after_row (here s back.early) back.hears.row).member m).status ≡ Up voter
    voter_up = (stepped_up (here s back.early) m hearer (record { status = back.delivers.runs; quiet = (runs_at s m i back.early (back.hears ∷ back.late) back.split).up.quiet })
        back.hears.row (receipt_of (here s back.early) back.delivers.k back.delivers.ms) (ap (λ (r : Row). step_of (here s back.early) r) back.delivers.comes)).status

    leaves : HasVoted request hearer voter
    leaves = back.answers.leaves

    voter_follows : voter.raft_server.memory.role ≡ Follower
    voter_follows = elim free [
      | inl below ↦ leaves.role (let e = request_term in omega (arith, below, e))
      | inr here_too ↦ (s.frames hearer ((here s back.early).rows + 1) (arrival_at (frame_at (here s back.early).frames back.delivers.k) back.delivers.ms) here_too.1).0
    ]

    voter_now : base ≤ voter.now
    voter_now =
        let now = now_after hearer ((here s back.early).rows + 1) (receipt_of (here s back.early) back.delivers.k back.delivers.ms) in
        let clock = (clock_at s m i first first_up back.early (back.hears ∷ back.late) back.split end_early hearer back.delivers.runs).0 in
        let ms = (subst (λ (r : Row). IsCalmRow s.group s.clocks s.pace (from_at s back.early (back.hears ∷ back.late) back.split).traffic (here s back.early) back.hears.at r)
        back.delivers.comes (row_calm s back.early back.late back.hears back.split)).1 in
        let then_at = since_row s back.early back.late back.hears back.split in
        omega (arith, now, clock, ms, then_at)

    voter_waits : base ≤ voter.times.since
    voter_waits = elim (as_before hearer back.delivers.runs) [
      | inl anew ↦ elim (new_wait back.early back.late back.hears back.split hears_soon hearer voter back.delivers.runs voter_up) [
        | inl same ↦ omega (arith, same, anew)
        | inr later ↦ later
      ]
      | inr same ↦ let since = (leaves.gives (grants_it same)).1 in let now = voter_now in omega (arith, since, now)
    ]

    follows_then : Follows voter
    follows_then =
        let clock = clock_next s m i first first_up back.early back.late back.hears back.split hears_soon voter voter_up in
        (voter_follows, voter_waits, clock.0, clock.1)

    -- from then on it follows
    pub follows_at : (tail b : List Timed) → s.rest ≡ back.early ++ back.hears ∷ (tail ++ b) → end_of s.timed.at (back.early ++ back.hears ∷ tail) ≤ last s
        → (t : AllocatorState) → ((here s (back.early ++ back.hears ∷ tail)).member m).status ≡ Up t → Follows t
    follows_at tail b e soon t up =
        let cut = e ∙ sym (append_assoc back.early (back.hears ∷ []) (tail ++ b)) in
        let both = append_assoc back.early (back.hears ∷ []) tail in
        let runs = runs_at s m i back.early (back.hears ∷ back.late) back.split in
        let later = kept_later s MayCome Follows follows_kept m heard tail b cut
        (subst (λ (w : Cluster). RunsWith Follows (w.member m)) (sym (here_more (v s) back.early back.hears))
        (record {
          server = voter;
          up = stepped_up (here s back.early) m hearer (record { status = back.delivers.runs; quiet = runs.up.quiet })
              back.hears.row (receipt_of (here s back.early) back.delivers.k back.delivers.ms) (ap (λ (r : Row). step_of (here s back.early) r) back.delivers.comes);
          holds = follows_then;
        }))
        (λ y j. let within = by_end s (heard ++ tail) b (cut ∙ sym (append_assoc heard tail b)) y (in_back_of heard tail y j) in
        let ends = ap (end_of s.timed.at) both in (omega (arith, within.0), omega (arith, within.1, ends, soon))) in
        subst Follows (same_server later.server t (sym later.up.status ∙ (ap (λ (l : List Timed). ((here s l).member m).status) both ∙ up))) later.holds
      where
        in_back_of : (front tail : List Timed) (y : Timed) → In y tail → In y (front ++ tail)
        in_back_of [] tail y j = j
        in_back_of (z ∷ front) tail y j = inr (in_back_of front tail y j)
