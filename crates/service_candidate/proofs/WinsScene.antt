-- A member stands for election in a calm: what is given, and what each row of the calm behind it leaves.
use Rattle.std.proofs.Common.{◌≡◌, ◌≢◌, ℕ, ◌+◌, ◌*◌, ◌<◌, ◌≤◌, arith, Bool, true, List, [], ◌∷◌, ◌++◌, max, inl, inr, refl, sym, ◌∙◌, ap, subst, Option, None, Some}
use Rattle.std.specs.Prelude.{length, ⊤, ◌⊎◌}
use Rattle.std.proofs.lemmas.Bool.Decides.{eqb_tells}
use Rattle.std.proofs.lemmas.List.{append_assoc}
use Rattle.can_frame.specs.declared.step.What.TheVariants.{Vote}
use Rattle.can_frame.specs.Timing.{call_timeout, election_wait}
use Rattle.raft_model.specs.Decisions.{grants}
use Rattle.raft_model.specs.Lists.{In, how_many}
use Rattle.raft_model.specs.Members.{HasNoneTwice}
use Rattle.raft_model.specs.Messages.{Request}
use Rattle.raft_model.specs.Moves.Elections.{IsGranted, has_quorum}
use Rattle.raft_model.specs.Server.{Store, quorum}
use Rattle.raft_model.specs.Server.Role.{Candidate, Follower, Leader}
use Rattle.bus_rows.specs.declared.row.Row.{Row}
use Rattle.alloc_spec.specs.AllocatorState.{AllocatorState, members_of, start_of}
use Rattle.alloc_spec.specs.Step.{Event, moment_of, step}
use Rattle.alloc_spec.specs.Transfers.{Offer}
use Rattle.bus_agreement.proofs.Concatenations.{first_harmless, row_harmless}
use Rattle.cluster_discovery.specs.Members.{Event as Discovered, IsMemberList, IsStart, Start, members}
use Rattle.service_steps.specs.InTime.{FramesLeaveFollowers, StaysFollower, WaitsAnew as HearsAnew}
use Rattle.bus_rows.specs.Timed.{Timed, rows_in}
use Rattle.service_alone.specs.Calm.{Pace, end_of}
use Rattle.service_alone.proofs.Members.{IsUp}
use Rattle.service_candidate.specs.Terms.{TermsDoNotFall, TermsStay, VotesStayFree}
use Rattle.service_candidate.specs.Votes.{IsAsStanding, IsCandidateStill, Stands, VoteAnswersAsSaid, VoteComes, VotesAreTaken, WaitsForVote}
use Rattle.service_candidate.specs.Waits.{WaitsAnew}
use Rattle.service_candidate.specs.Wins.{IsCalmStanding}
use Rattle.service_candidate.specs.VotesAlone.{VotesComeAlone}
use Rattle.service_candidate.proofs.WinsFronts.{here_more}
use Rattle.service_leader.proofs.RowsOfOne.{IsLeft, left_up, moment_is, stepped_up}
use Rattle.service_leader.proofs.Stretches.{GoesOnFrom, calm_first, calm_rest, end_both, end_last, in_between, not_before, rows_both, world_both}
use Rattle.service_calm.specs.Calls.{ListsStay}
use Rattle.service_calm.specs.Calm.{AreCalm, IsCalmRow, IsRunning, Member as OfMember, Party, no_traffic}
use Rattle.service_calm.specs.Comes.{Sends, sent_by}
use Rattle.service_calm.proofs.CallsKept.{IsKept, RunsWith, further}
use Rattle.service_calm.proofs.Counting.{now_after}
use Rattle.service_calm.proofs.Pair.{same_server, same_stepper}
use Rattle.bus_spec.specs.Cluster.{Cluster, after_row, after_rows, step_of, world_of}
use Rattle.bus_spec.specs.Lawful.{DoNoHarm, DoesNoHarm}
use Rattle.bus_spec.specs.Members.MemberStatus.{Up}

-- ---- what is given

-- what is said of a row, in the world before it
pub record RowLaws (ids : List ℕ) (w : Cluster) : Type 0 where
  pub asked : (n term : ℕ) (row : Row) → In n ids → DoesNoHarm w row → (s : Stands n term w row) → IsAsStanding n term w row s
  pub waits_on : (n m id moment : ℕ) (request : Request) (row : Row) (before after : AllocatorState) → In n ids → DoesNoHarm w row
      → (w.member n).status ≡ Up before → ((after_row w row).member n).status ≡ Up after → WaitsForVote m id moment request before
      → after.now < moment + call_timeout → ((term : ℕ) → Stands n term w row → ⊥) → after.raft_server.memory.role ≢ Leader
      → (VoteComes n m id w row → ⊥) → WaitsForVote m id moment request after
  pub candidates : (n : ℕ) (row : Row) (before after : AllocatorState) → In n ids → DoesNoHarm w row → (w.member n).status ≡ Up before
      → ((after_row w row).member n).status ≡ Up after → before.raft_server.memory.role ≡ Candidate → IsCandidateStill n w row before after
  pub answers_read : (n : ℕ) (row : Row) (offer : Offer) → DoesNoHarm w row → IsRunning n w → Sends n w row offer → offer.what ≡ Vote
      → VoteAnswersAsSaid (sent_by n w offer)
  pub begin : (m : ℕ) (row : Row) → In m ids → DoesNoHarm w row → ((anew : WaitsAnew m w row) → anew.after.times.since ≡ anew.after.now)
      × ((term : ℕ) (s : Stands m term w row) → s.before.times.since + election_wait ≤ max s.before.now s.ms)
  pub me : (p : ℕ) (t : AllocatorState) → In p ids → (w.member p).status ≡ Up t → t.me ≡ p
  pub starts : (p : ℕ) (t : AllocatorState) → In p ids → (w.member p).status ≡ Up t → IsStart (start_of t) × (t.size ≡ length ids)
  pub counts : (p : ℕ) (t : AllocatorState) (votes : ℕ → Bool) → In p ids → (w.member p).status ≡ Up t → t.raft_server.memory.role ≢ Follower
      → quorum ids ≤ how_many votes ids → has_quorum (members_of t) votes ≡ true

-- what is said of the calms from the world of these rows on
pub record FrontLaws (ids : List ℕ) (rows : List Row) : Type 0 where
  pub alone : VotesComeAlone ids rows
  pub terms : TermsStay ids rows
  pub rise : TermsDoNotFall ids rows
  pub free : VotesStayFree ids rows

-- member c stands for election in the row `timed` of a calm
pub record Scene : Type 0 where
  pub ids : List ℕ
  pub rows : List Row
  pub laws : FrontLaws ids rows
  pub taken : VotesAreTaken
  pub row_laws : (more : List Row) → DoNoHarm (world_of ids rows) more → RowLaws ids (after_rows (world_of ids rows) more)
  pub ticks : StaysFollower
  pub frames : FramesLeaveFollowers
  pub hears_anew : HearsAnew
  pub listing : (start : Start) (events : List Discovered) → IsStart start → IsMemberList start.me start.size (members start events)
  pub stay : ListsStay
  pub once : HasNoneTwice ids
  pub granted : (store : Store) (request : Request) → IsGranted store request (grants store request)
  pub group : List Party
  pub clocks : Party → ℕ
  pub pace : Pace
  pub start : ℕ
  pub c : ℕ
  pub term : ℕ
  pub front : List Timed
  pub rest : List Timed
  pub timed : Timed
  pub calm : IsCalmStanding ids rows group clocks pace start c term front timed rest

-- ---- clocks

-- whatever comes
abbrev Always : ℕ → Type 0
Always moment = ⊤

abbrev pub Anything : AllocatorState → Type 0
Anything t = ⊤

any_kept : IsKept Always Anything
any_kept = record { stepped = λ t number event may is. tt; popped = λ t is. tt }

-- the clock of the server shows a moment between these
abbrev pub Shows : (low high : ℕ) → AllocatorState → Type 0
Shows low high t = (low ≤ t.now) × (t.now ≤ high)

abbrev pub NoLater : (high : ℕ) → ℕ → Type 0
NoLater high moment = moment ≤ high

clock_kept : (low high : ℕ) → IsKept (NoLater high) (Shows low high)
clock_kept low high = record {
  stepped = λ t number event may is. let now = now_after t number event in (omega (arith, now, is.0), omega (arith, now, is.1, may));
  popped = λ t is. is;
}

-- whose step a row is, if it is one of the member
pub steps_or_not : (w : Cluster) (row : Row) (p : ℕ)
    → ((event : Event) × (step_of w row ≡ Some (p, event))) ⊎ ((event : Event) → step_of w row ≡ Some (p, event) → ⊥)
steps_or_not w row p = by (step_of w row) refl
  where
    by : (o : Option (ℕ × Event)) → step_of w row ≡ o
        → ((event : Event) × (step_of w row ≡ Some (p, event))) ⊎ ((event : Event) → step_of w row ≡ Some (p, event) → ⊥)
    by None is = inr (λ event f. cc (sym is ∙ f))
    by (Some s) is = elim (eqb_tells s.0 p) [
      | inl z ↦ inl (s.1, is ∙ ap (λ (q : ℕ). Some (q, s.1)) z.1)
      | inr z ↦ inr (λ event f. z.1 (same_stepper s.0 p s.1 event (sym is ∙ f)))
    ]

module _ (s : Scene) where
  abbrev pub w0 : Cluster
  w0 = world_of s.ids s.rows

  -- the world before c stands, and behind that row
  abbrev pub there : Cluster
  there = after_rows w0 (rows_in s.front)

  abbrev pub v : Cluster
  v = after_row there s.timed.row

  abbrev pub here : List Timed → Cluster
  here a = after_rows v (rows_in a)

  -- four delays later
  abbrev pub last : ℕ
  last = s.timed.at + 4 * s.pace.delay

  abbrev pub upto : List Timed → List Timed
  upto a = s.front ++ s.timed ∷ a

  pub c_listed : In s.c s.ids
  c_listed = s.calm.listed s.c s.calm.member

  -- ---- where the rows behind it are cut

  pub cut : (a b : List Timed) → s.rest ≡ a ++ b → s.front ++ s.timed ∷ s.rest ≡ upto a ++ b
  cut a b e = ap (λ (l : List Timed). s.front ++ s.timed ∷ l) e ∙ sym (append_assoc s.front (s.timed ∷ a) b)

  pub calm_upto : (a b : List Timed) → s.rest ≡ a ++ b → AreCalm s.group s.clocks s.pace (no_traffic s.start) w0 (upto a ++ b)
  calm_upto a b e = subst (AreCalm s.group s.clocks s.pace (no_traffic s.start) w0) (cut a b e) s.calm.calm

  all_harmless : (a b : List Timed) → s.rest ≡ a ++ b → DoNoHarm w0 (rows_in (upto a) ++ rows_in b)
  all_harmless a b e = subst (DoNoHarm w0) (ap rows_in (cut a b e) ∙ rows_both (upto a) b) s.calm.harmless

  pub harm_upto : (a b : List Timed) → s.rest ≡ a ++ b → DoNoHarm w0 (rows_in (upto a))
  harm_upto a b e = first_harmless w0 (rows_in (upto a)) (rows_in b) (all_harmless a b e)

  pub world_upto : (a : List Timed) → after_rows w0 (rows_in (upto a)) ≡ here a
  world_upto a = world_both w0 s.front (s.timed ∷ a)

  pub harm_row : (a b : List Timed) (x : Timed) → s.rest ≡ a ++ x ∷ b → DoesNoHarm (here a) x.row
  harm_row a b x e = subst (λ (w : Cluster). DoesNoHarm w x.row) (world_upto a)
      (row_harmless w0 (rows_in (upto a)) (rows_in b) x.row (all_harmless a (x ∷ b) e))

  harm_split : DoNoHarm w0 (rows_in s.front ++ rows_in (s.timed ∷ s.rest))
  harm_split = subst (DoNoHarm w0) (rows_both s.front (s.timed ∷ s.rest)) s.calm.harmless

  pub harm_front : DoNoHarm w0 (rows_in s.front)
  harm_front = first_harmless w0 (rows_in s.front) (rows_in (s.timed ∷ s.rest)) harm_split

  pub harm_there : DoesNoHarm there s.timed.row
  harm_there = row_harmless w0 (rows_in s.front) (rows_in s.rest) s.timed.row harm_split

  pub laws_there : RowLaws s.ids there
  laws_there = s.row_laws (rows_in s.front) harm_front

  pub laws_at : (a b : List Timed) → s.rest ≡ a ++ b → RowLaws s.ids (here a)
  laws_at a b e = subst (RowLaws s.ids) (world_upto a) (s.row_laws (rows_in (upto a)) (harm_upto a b e))

  -- ---- moments

  from_start : GoesOnFrom s.group s.clocks s.pace s.start w0 (s.front ++ s.timed ∷ s.rest)
  from_start = record { traffic = no_traffic s.start; calm = s.calm.calm; at_end = refl; ticked = λ party. omega arith }

  pub from_there : GoesOnFrom s.group s.clocks s.pace (end_of s.start s.front) there (s.timed ∷ s.rest)
  from_there = calm_rest s.group s.clocks s.pace s.front (s.timed ∷ s.rest) s.start w0 from_start

  from_v : GoesOnFrom s.group s.clocks s.pace s.timed.at v s.rest
  from_v = calm_rest s.group s.clocks s.pace (s.timed ∷ []) s.rest (end_of s.start s.front) there from_there

  pub from_at : (a b : List Timed) → s.rest ≡ a ++ b → GoesOnFrom s.group s.clocks s.pace (end_of s.timed.at a) (here a) b
  from_at a b e = calm_rest s.group s.clocks s.pace a b s.timed.at v (subst (GoesOnFrom s.group s.clocks s.pace s.timed.at v) e from_v)

  -- the row that comes next is calm
  pub row_calm : (a b : List Timed) (x : Timed) (e : s.rest ≡ a ++ x ∷ b)
      → IsCalmRow s.group s.clocks s.pace (from_at a (x ∷ b) e).traffic (here a) x.at x.row
  row_calm a b x e = (from_at a (x ∷ b) e).calm.1

  -- moments do not go back
  pub end_before : (a b : List Timed) (x : Timed) → s.rest ≡ a ++ x ∷ b → end_of s.timed.at a ≤ x.at
  end_before a b x e = let goes = from_at a (x ∷ b) e in let m = goes.calm.0.moments in let l = goes.at_end in omega (arith, m, l)

  pub since_then : (a b : List Timed) → s.rest ≡ a ++ b → s.timed.at ≤ end_of s.timed.at a
  since_then a b e = not_before s.group s.clocks s.pace a s.timed.at v
      (calm_first s.group s.clocks s.pace a b s.timed.at v (subst (GoesOnFrom s.group s.clocks s.pace s.timed.at v) e from_v))

  pub since_row : (a b : List Timed) (x : Timed) → s.rest ≡ a ++ x ∷ b → s.timed.at ≤ x.at
  since_row a b x e = let k = end_before a b x e in let l = since_then a (x ∷ b) e in omega (arith, k, l)

  -- each of these rows comes by the last of them
  pub by_end : (a b : List Timed) → s.rest ≡ a ++ b → (x : Timed) → In x a → (s.timed.at ≤ x.at) × (x.at ≤ end_of s.timed.at a)
  by_end a b e x i = in_between s.group s.clocks s.pace a s.timed.at v
      (calm_first s.group s.clocks s.pace a b s.timed.at v (subst (GoesOnFrom s.group s.clocks s.pace s.timed.at v) e from_v)) x i

  -- moments of more rows are no earlier
  pub ends_rise : (a d b : List Timed) → s.rest ≡ a ++ (d ++ b) → end_of s.timed.at a ≤ end_of s.timed.at (a ++ d)
  ends_rise a d b e =
      let k = not_before s.group s.clocks s.pace d (end_of s.timed.at a) (here a)
      (calm_first s.group s.clocks s.pace d b (end_of s.timed.at a) (here a) (from_at a (d ++ b) e)) in
      let l = end_both s.timed.at a d in omega (arith, k, l)

  -- ---- who runs

  -- what steps and frames that go out keep, from behind the row of the standing on
  pub kept_from : (MayCome : ℕ → Type 0) (Holds : AllocatorState → Type 0) → IsKept MayCome Holds → (p : ℕ) → RunsWith Holds (v.member p)
      → (a b : List Timed) → s.rest ≡ a ++ b → ((x : Timed) → In x a → MayCome (x.at + s.clocks (OfMember p))) → RunsWith Holds ((here a).member p)
  kept_from MayCome Holds kept p runs a b e may = (further MayCome Holds kept s.group s.clocks s.pace p a b v may
      (record { traffic = from_v.traffic; calm = subst (AreCalm s.group s.clocks s.pace from_v.traffic v) e from_v.calm; runs = runs })).runs

  -- a member of the group runs
  pub runs_there : (p : ℕ) → In (OfMember p) s.group → RunsWith Anything (there.member p)
  runs_there p i = (further Always Anything any_kept s.group s.clocks s.pace p s.front (s.timed ∷ s.rest) w0 (λ timed j. tt)
      (record {
        traffic = no_traffic s.start;
        calm = s.calm.calm;
        runs = record {
          server = (s.calm.running p i).server;
          up = record { status = (s.calm.running p i).runs; quiet = record { faults = (s.calm.running p i).faults; calls = (s.calm.running p i).disk } };
          holds = tt;
        };
      })).runs

  pub runs_v : (p : ℕ) → In (OfMember p) s.group → RunsWith Anything (v.member p)
  runs_v p i = (further Always Anything any_kept s.group s.clocks s.pace p (s.timed ∷ []) s.rest there (λ timed j. tt)
      (record { traffic = from_there.traffic; calm = from_there.calm; runs = runs_there p i })).runs

  pub runs_at : (p : ℕ) → In (OfMember p) s.group → (a b : List Timed) → s.rest ≡ a ++ b → RunsWith Anything ((here a).member p)
  runs_at p i a b e = kept_from Always Anything any_kept p (runs_v p i) a b e (λ x j. tt)

  -- what is kept from some front on
  pub kept_later : (MayCome : ℕ → Type 0) (Holds : AllocatorState → Type 0) → IsKept MayCome Holds → (p : ℕ) (a d b : List Timed) → s.rest ≡ a ++ (d ++ b)
      → RunsWith Holds ((here a).member p) → ((x : Timed) → In x d → MayCome (x.at + s.clocks (OfMember p))) → RunsWith Holds ((here (a ++ d)).member p)
  kept_later MayCome Holds kept p a d b e runs may =
      let goes = from_at a (d ++ b) e in
      subst (λ (w : Cluster). RunsWith Holds (w.member p)) (sym (world_both v a d))
      (further MayCome Holds kept s.group s.clocks s.pace p d b (here a) may (record { traffic = goes.traffic; calm = goes.calm; runs = runs })).runs

  -- so it does behind a row
  pub runs_next : (p : ℕ) → In (OfMember p) s.group → (a b : List Timed) (x : Timed) → s.rest ≡ a ++ x ∷ b
      → RunsWith Anything ((after_row (here a) x.row).member p)
  runs_next p i a b x e = subst (λ (w : Cluster). RunsWith Anything (w.member p)) (here_more v a x)
      (runs_at p i (a ++ x ∷ []) b (e ∙ sym (append_assoc a (x ∷ []) b)))

  -- ---- a row of a member

  -- a row is a step of the member, or leaves it as it was
  pub record IsStepped (p : ℕ) (a : List Timed) (x : Timed) (t u : AllocatorState) : Type 0 where
    pub event : Event
    pub in_step : step_of (here a) x.row ≡ Some (p, event)
    pub is : u ≡ (step t ((here a).rows + 1) event).step_state.allocator
    pub moment : moment_of event ≡ x.at + s.clocks (OfMember p)

  pub record IsUntouched (t u : AllocatorState) : Type 0 where
    pub raft_server : u.raft_server ≡ t.raft_server
    pub times : u.times ≡ t.times

  pub stepped_or_not : (p : ℕ) → In (OfMember p) s.group → (a b : List Timed) (x : Timed) → s.rest ≡ a ++ x ∷ b → (t u : AllocatorState)
      → ((here a).member p).status ≡ Up t → ((after_row (here a) x.row).member p).status ≡ Up u → IsStepped p a x t u ⊎ IsUntouched t u
  stepped_or_not p i a b x e t u up up_then = elim (steps_or_not (here a) x.row p) [
    | inl z ↦ inl (record {
      event = z.0;
      in_step = z.1;
      is = same_server u (step t ((here a).rows + 1) z.0).step_state.allocator (sym up_then ∙ (stepped_up (here a) p t is_up x.row z.0 z.1).status);
      moment = moment_is (here a) p t is_up s.group s.clocks s.pace (from_at a (x ∷ b) e).traffic x.at x.row z.0 z.1 (row_calm a b x e);
    })
    | inr none ↦
        let left : IsLeft (here a) p t is_up ((after_row (here a) x.row).member p) =
        left_up (here a) p t is_up s.group s.clocks s.pace (from_at a (x ∷ b) e).traffic x.at x.row (row_calm a b x e) none in
        let same : left.server ≡ u = same_server left.server u (sym left.its_up.status ∙ up_then) in
        inr (record {
          raft_server = ap (λ (q : AllocatorState). q.raft_server) (sym same) ∙ left.same.raft_server;
          times = ap (λ (q : AllocatorState). q.times) (sym same) ∙ left.same.times;
        })
  ]
    where
      is_up : IsUp t ((here a).member p)
      is_up = record { status = up; quiet = (runs_at p i a (x ∷ b) e).up.quiet }

  -- ---- the clock of a member

  -- what a member's clock may show until four delays later, if it shows this now
  abbrev pub highest : (p now : ℕ) → ℕ
  highest p now = max now (last + s.clocks (OfMember p))

  pub clock_at : (p : ℕ) → In (OfMember p) s.group → (t : AllocatorState) → (v.member p).status ≡ Up t → (a b : List Timed) → s.rest ≡ a ++ b
      → end_of s.timed.at a ≤ last → (u : AllocatorState) → ((here a).member p).status ≡ Up u → Shows t.now (highest p t.now) u
  clock_at p i t up a b e soon u up_then =
      let later = kept_from (NoLater (highest p t.now)) (Shows t.now (highest p t.now)) (clock_kept t.now (highest p t.now)) p
      (record { server = t; up = record { status = up; quiet = (runs_v p i).up.quiet }; holds = (omega arith, omega arith) }) a b e
      (λ x j. let k = (by_end a b e x j).1 in omega (arith, k, soon)) in
      subst (Shows t.now (highest p t.now)) (same_server later.server u (sym later.up.status ∙ up_then)) later.holds

  -- so it does behind a row
  pub clock_next : (p : ℕ) → In (OfMember p) s.group → (t : AllocatorState) → (v.member p).status ≡ Up t → (a b : List Timed) (x : Timed)
      → s.rest ≡ a ++ x ∷ b → x.at ≤ last → (u : AllocatorState) → ((after_row (here a) x.row).member p).status ≡ Up u → Shows t.now (highest p t.now) u
  clock_next p i t up a b x e soon u up_then = clock_at p i t up (a ++ x ∷ []) b (e ∙ sym (append_assoc a (x ∷ []) b))
      (omega (arith, end_last s.timed.at a x, soon)) u
      (ap (λ (w : Cluster). (w.member p).status) (here_more v a x) ∙ up_then)
