-- A member whose log is furthest stands in time, or somebody leads.
use Rattle.std.proofs.Common.{◌≡◌, ◌≢◌, ℕ, ◌≤◌, arith, Bool, List, [], ◌∷◌, ◌++◌, length, refl, sym, ◌∙◌, ap, subst, inl, inr, append_assoc}
use Rattle.std.specs.Prelude.{◌⊎◌}
use Rattle.can_frame.specs.declared.entry.Entry.{Entry}
use Rattle.can_frame.specs.Log.{last_term}
use Rattle.raft_model.specs.Lists.{In}
use Rattle.raft_model.specs.Log.{NotAbove}
use Rattle.raft_model.specs.Runs as raft
use Rattle.raft_model.specs.Server.Role.{Follower}
use Rattle.bus_rows.specs.declared.row.Row.{Row}
use Rattle.alloc_spec.specs.AllocatorState.{AllocatorState}
use Rattle.alloc_spec.specs.Transfers.{SentTransfer}
use Rattle.alloc_spec_laws.proofs.Choices.{lt_tells}
use Rattle.bus_agreement.specs.Shows.{Shows}
use Rattle.bus_agreement.proofs.Concatenations.{row_harmless}
use Rattle.service_steps.specs.InTime.{FramesLeaveFollowers}
use Rattle.bus_rows.specs.Timed.{Timed, rows_in}
use Rattle.service_alone.specs.Calm.{Pace}
use Rattle.service_alone.proofs.Goes.{after_both}
use Rattle.service_calm.specs.Calm.{AreCalm, Device as OfDevice, Member as OfMember, Party, no_traffic}
use Rattle.service_calm.specs.Comes.{Throughout}
use Rattle.service_calm.proofs.Group.{AreWell, CalmLaws}
use Rattle.service_leader.proofs.LeadsOn.{DeliversOne}
use Rattle.service_leader.proofs.Stretches.{end_last, rows_both, throughout_front}
use Rattle.service_candidate.specs.Elections.{FurthestStands, IsCalmRestart, IsFurthest, SomebodyLeads}
use Rattle.service_candidate.specs.Terms.{LogsStay, NoAppendsCome, NobodyLeads}
use Rattle.service_candidate.specs.Votes.{HearsAppend, VoteRequestsReadAsSaid}
use Rattle.service_candidate.specs.Waits.{GivesVote, StandsBy, WaitsAnew, WaitsHaveReasons}
use Rattle.service_candidate.proofs.ElectionsEnd.{all_run, is_opened, none_waits, opened}
use Rattle.service_candidate.proofs.Furthest.{harmless_at, holds_behind, one_more, stood_at, vote_for}
use Rattle.service_candidate.proofs.Unled.{HasStood, IsLedIn, ends_before, nobody_or_led}
use Rattle.alloc_spec.specs.ClusterMembers.{AreMembers}
use Rattle.bus_spec.specs.Cluster.{Cluster, after_rows, cluster, world_of}
use Rattle.bus_spec.specs.Lawful.{DoNoHarm, DoesNoHarm}
use Rattle.bus_spec.specs.Members.{MemberStatus}
use Rattle.bus_spec.specs.Members.MemberStatus.{Down, Failed, Up}
use Rattle.bus_spec.specs.Refinement.{transfers_of_rows}

-- ---- which log is furthest

total : (a i b j : ℕ) → NotAbove a i b j ⊎ NotAbove b j a i
total a i b j = elim (lt_tells a b) [
  | inl z ↦ inl (inl z.1)
  | inr z ↦ elim (lt_tells b a) [
    | inl y ↦ inr (inl y.1)
    | inr y ↦ elim (lt_tells i j) [ inl x ↦ inl (inr (omega (arith, z.1, y.1), omega (arith, x.1))) | inr x ↦ inr (inr (omega (arith, z.1, y.1), x.1)) ]
  ]
]

trans : (a i b j c k : ℕ) → NotAbove a i b j → NotAbove b j c k → NotAbove a i c k
trans a i b j c k (inl x) (inl y) = inl (omega (arith, x, y))
trans a i b j c k (inl x) (inr y) = inl (omega (arith, x, y.0))
trans a i b j c k (inr x) (inl y) = inl (omega (arith, x.0, y))
trans a i b j c k (inr x) (inr y) = inr (x.0 ∙ y.0, omega (arith, x.1, y.1))

log_of : MemberStatus → List Entry
log_of Down = []
log_of (Up t) = t.raft_server.store.log
log_of (Failed failure) = []

abbrev IsBelow : List Entry → List Entry → Type 0
IsBelow a b = NotAbove (last_term a) (length a) (last_term b) (length b)

below_both : (a b c : List Entry) → IsBelow a b → IsBelow b c → IsBelow a c
below_both a b c x y = trans (last_term a) (length a) (last_term b) (length b) (last_term c) (length c) x y

-- the furthest of the logs of some parties and of one more
pub record IsBest (log : ℕ → List Entry) (xs : List Party) (first c : ℕ) : Type 0 where
  pub member : (c ≡ first) ⊎ In (OfMember c) xs
  pub own : IsBelow (log first) (log c)
  pub others : (m : ℕ) → In (OfMember m) xs → IsBelow (log m) (log c)

best_of : (log : ℕ → List Entry) (xs : List Party) (first : ℕ) → (c : ℕ) × IsBest log xs first c
best_of log [] first = (first, record { member = inl refl; own = inr (refl, omega arith); others = λ m i. absurd i })
best_of log (OfDevice a ∷ xs) first = let more = best_of log xs first in (
  more.0,
  record {
    member = elim more.1.member [ inl e ↦ inl e | inr i ↦ inr (inr i) ];
    own = more.1.own;
    others = λ m i. elim i [ inl e ↦ absurd (cc (e)) | inr j ↦ more.1.others m j ];
  },
)
best_of log (OfMember k ∷ xs) first = elim (total (last_term (log k)) (length (log k)) (last_term (log first)) (length (log first))) [
  | inl low ↦ let more = best_of log xs first in (
    more.0,
    record {
      member = elim more.1.member [ inl e ↦ inl e | inr i ↦ inr (inr i) ];
      own = more.1.own;
      others = λ m i. elim i [
        | inl e ↦ subst (λ (j : ℕ). IsBelow (log j) (log more.0)) (sym (member_is m k e)) (below_both (log k) (log first) (log more.0) low more.1.own)
        | inr j ↦ more.1.others m j
      ];
    },
  )
  | inr low ↦ let more = best_of log xs k in (
    more.0,
    record {
      member = elim more.1.member [ inl e ↦ inr (inl (ap OfMember e)) | inr i ↦ inr (inr i) ];
      own = below_both (log first) (log k) (log more.0) low more.1.own;
      others = λ m i. elim i [
        | inl e ↦ subst (λ (j : ℕ). IsBelow (log j) (log more.0)) (sym (member_is m k e)) more.1.own
        | inr j ↦ more.1.others m j
      ];
    },
  )
]
  where
    member_is : (a b : ℕ) → OfMember a ≡ OfMember b → a ≡ b
    member_is a b e = cc e

-- a member of the group has a log that is furthest
pub furthest_of : (group : List Party) (w : Cluster) (first : ℕ) → In (OfMember first) group → (c : ℕ) × In (OfMember c) group × IsFurthest group c w
unfolding log_of
furthest_of group w first i = let best = best_of (λ m. log_of (w.member m).status) group first in (
  best.0,
  elim best.1.member [ inl e ↦ subst (λ (j : ℕ). In (OfMember j) group) (sym e) i | inr j ↦ j ],
  λ m server other j up_c up_m.
      subst (λ (status : MemberStatus). IsBelow other.raft_server.store.log (log_of status)) up_c
      (subst (λ (status : MemberStatus). IsBelow (log_of status) (log_of (w.member best.0).status)) up_m (best.1.others m j)),
)

-- ---- one of them stands

module _ (ids : List ℕ) (rows : List Row) (group : List Party) (clocks : Party → ℕ) (pace : Pace) (start : ℕ) (whole : List Timed)
    (r : IsCalmRestart ids rows group clocks pace start whole) (members : AreMembers ids) (laws : CalmLaws) (frames_leave : FramesLeaveFollowers)
    (are : AreWell group (world_of ids rows))
    (same_members : (more : List Row) → (world_of ids (rows ++ more)).ids ≡ ids)
    (shown : (more : List Row) → DoNoHarm (world_of ids rows) more
    → (choice : ℕ → Bool) × (run : raft.World) × Shows choice (transfers_of_rows (cluster ids) (rows ++ more) []) (world_of ids (rows ++ more)) run)
    (past : (x : SentTransfer) → In x (transfers_of_rows (cluster ids) rows []) → x.step ≤ (world_of ids rows).rows)
    (one_transfer : DeliversOne) (reads_said : (more : List Row) → DoNoHarm (world_of ids rows) more → VoteRequestsReadAsSaid ids (rows ++ more))
    (logs_stay : LogsStay ids rows) (no_appends : NoAppendsCome ids rows)
    (reasons : (more : List Row) → DoNoHarm (world_of ids rows) more → WaitsHaveReasons ids (rows ++ more)) (last : ℕ) where
  abbrev w : Cluster
  w = world_of ids rows

  abbrev its : (m : ℕ) → In (OfMember m) group → AllocatorState
  its m i = opened ids rows group clocks pace start whole r m i

  module _ (front rest : List Timed) (timed : Timed) (cut : whole ≡ front ++ timed ∷ rest) (soon : timed.at ≤ last) where
    calm_so : AreCalm group clocks pace (no_traffic start) (world_of ids rows) (front ++ timed ∷ rest)
    calm_so = subst (AreCalm group clocks pace (no_traffic start) (world_of ids rows)) cut r.calm

    -- where somebody leads in the rows before
    led_so : IsLedIn group (world_of ids rows) front → SomebodyLeads group start last (world_of ids rows) whole
    led_so led = record {
      front = led.first;
      rest = led.more ++ timed ∷ rest;
      split = cut ∙ (ap (λ (l : List Timed). l ++ timed ∷ rest) led.split ∙ append_assoc led.first led.more (timed ∷ rest));
      soon = let h = ends_before group clocks pace start (world_of ids rows) led.first led.more rest timed
          (subst (λ (l : List Timed). AreCalm group clocks pace (no_traffic start) (world_of ids rows) (l ++ timed ∷ rest)) led.split calm_so) in
          omega (arith, h, soon);
      nobody_led = led.nobody_led;
      n = led.one.n;
      member = led.one.member;
      server = led.one.server;
      runs = led.one.runs;
      leads = led.one.leads;
    }

    module _ (nobody : Throughout (NobodyLeads group) (world_of ids rows) front) (here : NobodyLeads group (after_rows (world_of ids rows) (rows_in front))) where
      -- where one whose log is furthest has stood in them
      stood_so : (c : ℕ) → In (OfMember c) group → IsFurthest group c (world_of ids rows) → HasStood c (world_of ids rows) front
          → FurthestStands group last (world_of ids rows) whole
      stood_so c i furthest stood = record {
        stands_so = record {
          front = stood.first;
          timed = stood.timed;
          rest = stood.more ++ timed ∷ rest;
          split = cut ∙ (ap (λ (l : List Timed). l ++ timed ∷ rest) stood.split ∙ append_assoc stood.first (stood.timed ∷ stood.more) (timed ∷ rest));
          soon = let h = ends_before group clocks pace start (world_of ids rows) (stood.first ++ stood.timed ∷ []) stood.more rest timed
              (subst (λ (l : List Timed). AreCalm group clocks pace (no_traffic start) (world_of ids rows) (l ++ timed ∷ rest))
              (stood.split ∙ one_more stood.first stood.more stood.timed) calm_so) in
              let e = end_last start stood.first stood.timed in
              omega (arith, h, e, soon);
          nobody_led = throughout_front (NobodyLeads group) stood.first (stood.timed ∷ stood.more) (world_of ids rows)
              (subst (Throughout (NobodyLeads group) (world_of ids rows)) stood.split nobody);
          nobody_leads = holds_behind (NobodyLeads group) stood.first (stood.timed ∷ stood.more) (world_of ids rows)
              (subst (Throughout (NobodyLeads group) (world_of ids rows)) stood.split nobody)
              (subst (λ (l : List Timed). NobodyLeads group (after_rows (world_of ids rows) (rows_in l))) stood.split here);
          c = c;
          member = i;
          term = stood.term;
          stands = stood.stands;
        };
        furthest = furthest;
      }

      harm_row : DoesNoHarm (after_rows (world_of ids rows) (rows_in front)) timed.row
      harm_row = row_harmless (world_of ids rows) (rows_in front) (rows_in rest) timed.row
          (subst (DoNoHarm (world_of ids rows)) (ap rows_in cut ∙ rows_both front (timed ∷ rest)) r.harmless)

      harm_front : DoNoHarm (world_of ids rows) (rows_in front)
      harm_front = harmless_at ids rows group clocks pace start whole r members laws frames_leave are same_members shown past one_transfer reads_said logs_stay
          front (timed ∷ rest) cut

      module _ (f : ℕ) (in_f : In (OfMember f) group) (furthest : IsFurthest group f (world_of ids rows)) where
        -- where its wait begins anew
        anew_so : WaitsAnew f (after_rows (world_of ids rows) (rows_in front)) timed.row → FurthestStands group last (world_of ids rows) whole
        anew_so anew = by (subst (λ (u : Cluster). (m : ℕ) (row : Row) → In m ids → 2 ≤ length ids → DoesNoHarm u row → (a : WaitsAnew m u row)
            → HearsAppend m u row ⊎ (((a.before.raft_server.memory.role ≢ Follower) × (a.after.raft_server.memory.role ≡ Follower)) ⊎ GivesVote m u row))
            (after_both (cluster ids) rows (rows_in front)) (reasons (rows_in front) harm_front) f timed.row (r.listed f in_f) r.others harm_row anew)
          where
            by : HearsAppend f (after_rows (world_of ids rows) (rows_in front)) timed.row
                ⊎ (((anew.before.raft_server.memory.role ≢ Follower) × (anew.after.raft_server.memory.role ≡ Follower))
                ⊎ GivesVote f (after_rows (world_of ids rows) (rows_in front)) timed.row)
                → FurthestStands group last (world_of ids rows) whole
            by (inl hears) = absurd (no_appends group clocks pace start f front rest timed r.listed (all_run ids rows group clocks pace start whole r)
                (none_waits ids rows group clocks pace start whole r) calm_so in_f nobody here hears)
            by (inr (inl roles)) = stood_so f in_f furthest (stood_at ids rows group clocks pace start whole r members laws frames_leave are same_members shown past
                one_transfer reads_said logs_stay front (timed ∷ rest) cut f in_f anew.before anew.runs roles.0)
            by (inr (inr gives)) =
                let vote = vote_for ids rows group clocks pace start whole r members laws frames_leave are same_members shown past one_transfer reads_said logs_stay
                front rest timed cut nobody here f in_f gives in
                stood_so vote.n vote.member (λ m server other i up_n up_m.
                subst (λ (t : AllocatorState). IsBelow other.raft_server.store.log t.raft_server.store.log)
                (is_opened ids rows group clocks pace start whole r vote.n vote.member server up_n)
                (below_both other.raft_server.store.log (its f in_f).raft_server.store.log (its vote.n vote.member).raft_server.store.log
                (furthest m (its f in_f) other i (r.opened f in_f).runs up_m) vote.not_behind)) vote.stood

  -- from the row in which the wait of one of them is over
  pub furthest_or_led : (f : ℕ) → In (OfMember f) group → IsFurthest group f (world_of ids rows) → StandsBy f last (world_of ids rows) whole
      → FurthestStands group last (world_of ids rows) whole ⊎ SomebodyLeads group start last (world_of ids rows) whole
  furthest_or_led f in_f furthest by = elim (nobody_or_led group by.front (world_of ids rows)) [
    | inr led ↦ inr (led_so by.front by.rest by.timed by.split by.soon led)
    | inl (nobody, here) ↦ elim by.stands [
      | inl (term, s) ↦ inl (record {
        stands_so = record {
          front = by.front;
          timed = by.timed;
          rest = by.rest;
          split = by.split;
          soon = by.soon;
          nobody_led = nobody;
          nobody_leads = here;
          c = f;
          member = in_f;
          term = term;
          stands = s;
        };
        furthest = furthest;
      })
      | inr (inr leads) ↦ absurd (leads (here f in_f))
      | inr (inl anew) ↦ inl (anew_so by.front by.rest by.timed by.split by.soon nobody here f in_f furthest anew)
    ]
  ]
