-- Each other member votes for c; with the vote that makes a quorum c leads, and leads on, while the others follow.
use Rattle.std.proofs.Common.{◌≡◌, ◌≢◌, ℕ, ◌+◌, ◌≤◌, arith, Bool, true, false, List, [], ◌∷◌, ◌++◌, length, inl, inr, refl, sym, ◌∙◌, ap, subst}
use Rattle.std.proofs.lemmas.Bool.Decides.{eqb_tells}
use Rattle.std.proofs.lemmas.List.{append_assoc, append-nil}
use Rattle.raft_core.specs.Handled as handled
use Rattle.raft_model.specs.Lists.{In, at_here}
use Rattle.raft_model.specs.Messages.{Answer}
use Rattle.raft_model.specs.Moves.Elections.{has_quorum, votes_with}
use Rattle.raft_model.specs.Server.Role.{Leader}
use Rattle.bus_rows.specs.declared.row.Row.{Row}
use Rattle.alloc_spec.specs.AllocatorState.{AllocatorState, members_of}
use Rattle.alloc_spec.specs.Step.{step}
use Rattle.alloc_spec_laws.proofs.Choices.{tell}
use Rattle.bus_rows.specs.Timed.{Timed}
use Rattle.service_alone.specs.Calm.{end_of}
use Rattle.service_candidate.specs.Votes.{TakesVote}
use Rattle.service_candidate.specs.Wins.{WinsBy, is_of}
use Rattle.service_candidate.proofs.WinsAsked.{ComesBack, asked, comes_back, comes_then, given, takes, until, until_split, y}
use Rattle.service_candidate.proofs.WinsFollow.{Contest, Follows, follows_at, grants_quietly, hearer, request, request_term, within_v}
use Rattle.service_candidate.proofs.WinsFronts.{from_row_to_row, goes, here_more, not_yet}
use Rattle.service_candidate.proofs.WinsKnows.{rows_behind, rows_then, split}
use Rattle.service_candidate.proofs.WinsLead.{Counting, Counts, Leading, State, counts_too, each_up, first_state, in_term, leading_more, not_leading, others_row, quiet_all, quiet_here}
use Rattle.service_candidate.proofs.WinsScene.{Scene, by_end, c_listed, here, last, laws_at, runs_at, v}
use Rattle.service_candidate.proofs.WinsStays.{end_soon_at, in_middle, within_at}
use Rattle.service_candidate.proofs.WinsTerms.{all_rows, in_longest}
use Rattle.service_candidate.proofs.WinsVotes.{Comer, comers, each_comes, found, in_group, last_one, length_more, no_fewer, rows_until, same_cut, same_sender, some_comer, still_votes}
use Rattle.service_leader.specs.CallsComeBack.{LeadsNotIfUp}
use Rattle.service_leader.proofs.RowsOfOne.{stepped_up}
use Rattle.service_leader.proofs.Stretches.{throughout_at, throughout_front, throughout_more}
use Rattle.service_calm.specs.Calm.{Member as OfMember}
use Rattle.service_calm.specs.Comes.{Delivers, Throughout}
use Rattle.bus_spec.specs.Cluster.{after_row, receipt_of, step_of}
use Rattle.bus_spec.specs.Members.MemberStatus.{Up}

module _ (s : Scene) (k : Contest s) where
  -- ---- the row in which the answer of one comes

  module _ (z : Comer s) (is : Counting s k (until s z.m z.i z.other) (here s (until s z.m z.i z.other))) where
    abbrev back : ComesBack s z.m z.i z.other
    back = comes_back s z.m z.i z.other

    abbrev before : List Timed
    before = until s z.m z.i z.other

    cut : s.rest ≡ before ++ back.ends ∷ back.more
    cut = until_split s z.m z.i z.other

    tail : (more : List Timed) × (rows_then s ≡ before ++ back.ends ∷ more) × (back.more ≡ more ++ rows_behind s)
    tail = in_longest s before back.more back.ends cut back.in_time

    abbrev delivers : Delivers s.c (y s z.m z.i z.other) (here s before) back.ends.row
    delivers = comes_then s z.m z.i z.other

    abbrev t : AllocatorState
    t = delivers.server

    abbrev u : AllocatorState
    u = (step t ((here s before).rows + 1) (receipt_of (here s before) delivers.k delivers.ms)).step_state.allocator

    up_then : ((after_row (here s before) back.ends.row).member s.c).status ≡ Up u
    up_then = (stepped_up (here s before) s.c t (record { status = delivers.runs; quiet = (runs_at s s.c s.calm.member before (back.ends ∷ back.more) cut).up.quiet }) back.ends.row
        (receipt_of (here s before) delivers.k delivers.ms) (ap (λ (r : Row). step_of (here s before) r) delivers.comes)).status

    counts : Counts s k before t
    counts = is.counts t delivers.runs

    -- c did not lead by then
    follows : (front more : List Timed) → before ≡ front ++ more → LeadsNotIfUp s.c (here s front)
    follows front [] e = subst (λ (l : List Timed). LeadsNotIfUp s.c (here s l)) (e ∙ append-nil front) (not_leading s k before (here s before) is)
    follows front (x ∷ more) e = throughout_at (LeadsNotIfUp s.c) front more x (v s) (subst (Throughout (LeadsNotIfUp s.c) (v s)) e is.none)

    -- the answer as c takes it
    abbrev answer : Answer
    answer = handled.answer_of (y s z.m z.i z.other).step z.m (asked s z.m z.i z.other) (given s z.m z.i z.other).term (given s z.m z.i z.other).success

    take : TakesVote answer t u
    take = takes s z.m z.i z.other follows

    -- ---- it is a vote

    early_cut : rows_then s ≡ back.early ++ back.hears ∷ (back.between ++ back.ends ∷ tail.0)
    early_cut = tail.1 ∙ append_assoc back.early (back.hears ∷ back.between) (back.ends ∷ tail.0)

    hearer_low : (hearer s k z.m z.i z.other).raft_server.store.term ≤ s.term
    hearer_low = within_at s s.term (within_v s k) back.early (back.hears ∷ back.late) back.split
        (end_soon_at s back.early back.late back.hears back.split (let q = back.soon in omega (arith, q))) z.m z.i (hearer s k z.m z.i z.other) back.delivers.runs

    answer_term : answer.term ≡ s.term
    answer_term = in_term (hearer s k z.m z.i z.other).raft_server.store (request s k z.m z.i z.other).term
        (let e = request_term s k z.m z.i z.other in let l = hearer_low in omega (arith, e, l)) ∙ request_term s k z.m z.i z.other

    granted : answer.success ≡ true
    granted = grants_quietly s k z.m z.i z.other
        (quiet_all s k back.early (back.hears ∷ (back.between ++ back.ends ∷ tail.0)) early_cut
        (throughout_front (LeadsNotIfUp s.c) back.early (back.hears ∷ back.between) (v s) is.none))
        (quiet_here s k back.early (back.hears ∷ (back.between ++ back.ends ∷ tail.0)) early_cut (follows back.early (back.hears ∷ back.between) refl))

    its_own_term : answer.term ≡ t.raft_server.store.term
    its_own_term = answer_term ∙ sym counts.its_term

    -- ---- the votes with it

    abbrev votes : ℕ → Bool
    votes = votes_with t.raft_server.memory answer

    own : votes s.c ≡ true
    own = still_votes t.raft_server.memory.votes z.m s.c counts.own

    -- each that came by then, and this one
    others : (q : Comer s) → In q (comers s) → rows_until s q ≤ rows_until s z → votes q.m ≡ true
    others q i few = elim (eqb_tells (rows_until s q) (rows_until s z)) [
      | inl e ↦ at_here t.raft_server.memory.votes z.m q.m true (same_one e.1)
      | inr e ↦ still_votes t.raft_server.memory.votes z.m q.m (counts.others q i (let differ = e.1 in omega (arith, few, differ)))
    ]
      where
        same_one : rows_until s q ≡ rows_until s z → q.m ≡ z.m
        same_one size =
            let its = comes_back s q.m q.i q.other in
            let same = same_cut (until s q.m q.i q.other) before its.more back.more its.ends back.ends size (sym (until_split s q.m q.i q.other) ∙ cut) in
            same_sender s.c (y s q.m q.i q.other) (y s z.m z.i z.other) (here s before) back.ends.row
            (subst (λ (l : List Timed). Delivers s.c (y s q.m q.i q.other) (here s l) back.ends.row) same.0
            (subst (λ (x : Timed). Delivers s.c (y s q.m q.i q.other) (here s (until s q.m q.i q.other)) x.row) same.1 (comes_then s q.m q.i q.other))) delivers

    none_more : Throughout (LeadsNotIfUp s.c) (v s) (before ++ back.ends ∷ [])
    none_more = throughout_more (LeadsNotIfUp s.c) before back.ends (v s) is.none (not_leading s k before (here s before) is)

    -- with a quorum c leads
    wins : has_quorum (members_of t) votes ≡ true → Leading s k (before ++ back.ends ∷ []) (after_row (here s before) back.ends.row)
    wins enough = record {
      leads = each_up s k (λ (q : AllocatorState). (q.raft_server.memory.role ≡ Leader) × (q.raft_server.store.term ≡ s.term)) (after_row (here s before) back.ends.row) u up_then (
        take.wins counts.role its_own_term granted enough,
        take.kept (let e = its_own_term in omega (arith, e)) ∙ counts.its_term,
      );
      on = not_yet s.c s.term (before ++ back.ends ∷ []) (v s) none_more;
    }

    -- without one it is a candidate with one vote more
    counts_on : has_quorum (members_of t) votes ≡ false → Counting s k (before ++ back.ends ∷ []) (after_row (here s before) back.ends.row)
    counts_on few =
        let more = take.counts counts.role its_own_term granted few in
        record {
          counts = each_up s k (Counts s k (before ++ back.ends ∷ [])) (after_row (here s before) back.ends.row) u up_then (record {
            role = more.0;
            its_term = take.kept (let e = its_own_term in omega (arith, e)) ∙ counts.its_term;
            own = ap (λ (f : ℕ → Bool). f s.c) more.1 ∙ own;
            others = λ q i less. ap (λ (f : ℕ → Bool). f q.m) more.1 ∙ others q i (let size = length_more before back.ends in omega (arith, less, size));
          });
          none = none_more;
        }

    answer_row : State s k (before ++ back.ends ∷ []) (after_row (here s before) back.ends.row)
    answer_row = elim (tell (has_quorum (members_of t) votes)) [
      | inl enough ↦ inl (wins enough)
      | inr few ↦ inr (counts_on few)
    ]

    -- the last one makes a quorum
    last_wins : ((q : Comer s) → In q (comers s) → rows_until s q ≤ rows_until s z) → Leading s k (before ++ back.ends ∷ []) (after_row (here s before) back.ends.row)
    last_wins all = wins ((laws_at s before (back.ends ∷ back.more) cut).counts s.c t votes (c_listed s) delivers.runs (counts_too t.raft_server.memory.role counts.role)
        (let many = s.calm.many in let fewer = no_fewer (is_of s.group) votes s.ids each in omega (arith, many, fewer)))
      where
        each : (p : ℕ) → In p s.ids → is_of s.group p ≡ true → votes p ≡ true
        each p i of = elim (eqb_tells p s.c) [
          | inl e ↦ ap votes e.1 ∙ own
          | inr e ↦ let q = each_comes s p (in_group s.group p of) e.1 in subst (λ (j : ℕ). votes j ≡ true) q.2 (others q.0 q.1 (all q.0 q.1))
        ]

  -- ---- row by row

  -- each row leaves c a candidate, or it leads
  state_more : (a d : List Timed) (one : Timed) → rows_then s ≡ a ++ one ∷ d → State s k a (here s a) → State s k (a ++ one ∷ []) (after_row (here s a) one.row)
  state_more a d one e (inl leads) = inl (leading_more s k a (d ++ rows_behind s) one (rest_cut a d one e) (row_soon a d one e) leads)
    where
      rest_cut : (a d : List Timed) (one : Timed) → rows_then s ≡ a ++ one ∷ d → s.rest ≡ a ++ one ∷ (d ++ rows_behind s)
      rest_cut a d one e = split s ∙ (ap (λ (l : List Timed). l ++ rows_behind s) e ∙ append_assoc a (one ∷ d) (rows_behind s))

      row_soon : (a d : List Timed) (one : Timed) → rows_then s ≡ a ++ one ∷ d → one.at ≤ last s
      row_soon a d one e =
          let within = (by_end s (rows_then s) (rows_behind s) (split s) one (subst (In one) (sym e) (in_middle a d one))).1 in
          let soon = (all_rows s).soon in omega (arith, within, soon)
  state_more a d one e (inr is) = elim (found s (comers s) (length a)) [
    | inl z ↦ there z.0 z.2
    | inr none ↦ others_row s k a d one e is none
  ]
    where
      there : (z : Comer s) → rows_until s z ≡ length a → State s k (a ++ one ∷ []) (after_row (here s a) one.row)
      there z size =
          let back = comes_back s z.m z.i z.other in
          let before = until s z.m z.i z.other in
          let same = same_cut before a back.more (d ++ rows_behind s) back.ends one size (sym (until_split s z.m z.i z.other)
          ∙ (split s ∙ (ap (λ (l : List Timed). l ++ rows_behind s) e ∙ append_assoc a (one ∷ d) (rows_behind s)))) in
          subst (λ (l : List Timed). State s k (l ++ one ∷ []) (after_row (here s l) one.row)) same.0
          (subst (λ (x : Timed). State s k (before ++ x ∷ []) (after_row (here s before) x.row)) same.1
          (answer_row z (subst (λ (l : List Timed). Counting s k l (here s l)) (sym same.0) is)))

  -- ---- c leads at last

  abbrev last_comer : (z : Comer s) × In z (comers s) × ((q : Comer s) → In q (comers s) → rows_until s q ≤ rows_until s z)
  last_comer =
      let some = some_comer s (comers s) refl in
      let z = last_one s some.0 some.1 in
      (z.0, subst (In z.0) (sym some.2) z.1, λ q i. z.2 q (subst (In q) some.2 i))

  leads_last : Leading s k (rows_then s) (here s (rows_then s))
  leads_last =
      let z = last_comer.0 in
      let back = comes_back s z.m z.i z.other in
      let before = until s z.m z.i z.other in
      let tail = in_longest s before back.more back.ends (until_split s z.m z.i z.other) back.in_time in
      let by_then : State s k before (here s before) = from_row_to_row (v s) (State s k) before
      (λ a d one e is. state_more a (d ++ back.ends ∷ tail.0) one (tail.1 ∙ (ap (λ (l : List Timed). l ++ back.ends ∷ tail.0) e ∙ append_assoc a (one ∷ d) (back.ends ∷ tail.0))) is)
      (inr (first_state s k)) in
      let won : Leading s k (before ++ back.ends ∷ []) (after_row (here s before) back.ends.row) = elim by_then [
        | inl leads ↦ leading_more s k before back.more back.ends (until_split s z.m z.i z.other) back.in_time leads
        | inr is ↦ last_wins z is last_comer.2
      ] in
      goes (v s) (Leading s k) (rows_then s)
      (λ a d one e is. leading_more s k a (d ++ rows_behind s) one
      (split s ∙ (ap (λ (l : List Timed). l ++ rows_behind s) e ∙ append_assoc a (one ∷ d) (rows_behind s)))
      (let within = (by_end s (rows_then s) (rows_behind s) (split s) one (subst (In one) (sym e) (in_middle a d one))).1 in
      let soon = (all_rows s).soon in omega (arith, within, soon)) is)
      (before ++ back.ends ∷ []) tail.0 (tail.1 ∙ sym (append_assoc before (back.ends ∷ []) tail.0))
      (subst (Leading s k (before ++ back.ends ∷ [])) (sym (here_more (v s) before back.ends)) won)

  -- the others follow
  follows_last : (m : ℕ) (i : In (OfMember m) s.group) (other : m ≢ s.c) (t : AllocatorState) → ((here s (rows_then s)).member m).status ≡ Up t → Follows s k m i other t
  follows_last m i other t up =
      let back = comes_back s m i other in
      let tail = in_longest s back.early back.late back.hears back.split (let q = back.soon in omega (arith, q)) in
      let ends = ap (end_of s.timed.at) tail.1 in
      let soon = (all_rows s).soon in
      follows_at s k m i other tail.0 (rows_behind s) (back.split ∙ ap (λ (l : List Timed). back.early ++ back.hears ∷ l) tail.2) (omega (arith, ends, soon)) t
      (ap (λ (l : List Timed). ((here s l).member m).status) (sym tail.1) ∙ up)

  -- c wins
  pub wins_by : WinsBy s.group s.clocks s.c s.term s.timed.at (last s) (v s) s.rest
  wins_by =
      let its = runs_at s s.c s.calm.member (rows_then s) (rows_behind s) (split s) in
      let leads = leads_last.leads its.server its.up.status in
      record {
        front = rows_then s;
        rest = rows_behind s;
        split = split s;
        soon = (all_rows s).soon;
        led = record {
          leader = record { server = its.server; runs = its.up.status; leads = leads.0; its_term = leads.1 };
          others = λ m i other. let runs = runs_at s m i (rows_then s) (rows_behind s) (split s) in record {
            server = runs.server;
            runs = runs.up.status;
            follows = (follows_last m i other runs.server runs.up.status).0;
            its_term = within_at s s.term (within_v s k) (rows_then s) (rows_behind s) (split s) (all_rows s).soon m i runs.server runs.up.status;
          };
        };
        leads_on = leads_last.on;
        waits = λ m t i other up. let since = (follows_last m i other t up).1 in omega (arith, since);
      }
