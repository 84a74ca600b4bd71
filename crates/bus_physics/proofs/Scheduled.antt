-- From the laws of one row to a schedule.
use Rattle.std.proofs.Common.{◌≡◌, ℕ, Bool, true, false, List, [], ◌∷◌, ◌++◌, refl, sym, ap, subst, ◌∙◌, ◌⊎◌, inl, inr, Option, Some, None, append_assoc, append-nil}
use Rattle.std.specs.Prelude.{◌==◌, ◌||◌, ◌&&◌, not, nat_eq, nat_lt, length, is_some, if◌then◌else◌}
use Rattle.can_frame.specs.Identifier.{identifier_of}
use Rattle.can_frame.specs.declared.step.Judged.TheVariants.{Fine, Stale, Torn}
use Rattle.can_frame.specs.declared.step.What.{What}
use Rattle.can_frame.specs.declared.step.What.TheVariants.{Alloc, App, AppQ, Disc, Info, InfoQ, Stat, Vote, VoteQ}
use Rattle.raft_model.specs.Lists.{In}
use Rattle.bus_rows.specs.declared.row.Row.{Row}
use Rattle.bus_rows.specs.declared.row.Row.TheVariants.{Open, Tick, Rx, Send, Ext, Crash, Fault, AOpen, ATick, ARx, ASend, AEnd}
use Rattle.transfer_rx.specs.Reassembly.{Answer, Arrival, Continues, Drops, Gives}
use Rattle.transfer_tx.specs.Queue.{Queued}
use Rattle.allocatee.specs.Allocatee.{Device, answer_to}
use Rattle.allocatee.specs.Judging as device
use Rattle.bus_spec.specs.declared.unlawful.Unlawful.{Unlawful}
use Rattle.bus_spec.specs.declared.unlawful.Unlawful.TheVariants.{NoNode, Stopped, Running, NoFrame, NothingQueued, Forged, NoAllocatee, Absent, Present}
use Rattle.bus_spec.specs.declared.unlawful.Unlawful.TheVariants as unlawful
use Rattle.bus_spec.specs.Cluster.{Cluster, after_row, after_rows, arrival_at, cluster, frame_at, is_member, world_of}
use Rattle.bus_spec.specs.Lawful.{DoNoHarm, DoesNoHarm, AreLawful, absent, already_running, arrival_refusal_at, because, cause, cause_of_judgement, is_forged, no_allocatee, no_node, no_such_frame, not_running, nothing_to_send, or_else, present}
use Rattle.bus_spec.specs.Allocatees.{is_place, next_from}
use Rattle.bus_spec.specs.Members.{is_running, next_frame}
use Rattle.bus_spec.specs.Refinement.{transfers_of_rows}
use Rattle.bus_agreement.proofs.Concatenations.{ids_stay}
use Rattle.bus_agreement.proofs.Lists.{never}
use Rattle.bus_agreement.proofs.OneRowMore.{grown, lawful as one_more}
use Rattle.bus_rows.specs.Timed.{Timed, rows_in}
use Rattle.bus_physics.specs.Physics.{AllComeInOrder, ComeInOrder, HoldsAreShort, Limits, UsesIdsApart, heard_by, is_long_to_member}
use Rattle.bus_physics.specs.Reuse.{LacksFrames}
use Rattle.bus_physics.specs.Schedule.{DeviceHears, MemberHears, HappenOnBus, HappensOnBus, LawfulButForBus, LosesFrames, is_of_bus, lately}
use Rattle.bus_physics.proofs.Refusals.{of_stale, of_torn, refused}

-- ---- which rows have which of the two causes

or_is : (x y : Option Unlawful) (why : Unlawful) → or_else x y ≡ Some why → (x ≡ Some why) ⊎ (y ≡ Some why)
or_is (Some first) y why e = inl e
or_is None y why e = inr e

-- a cause that is none of the two
not_because : (other why : Unlawful) (test : Bool) → is_of_bus other ≡ false → is_of_bus why ≡ true → because other test ≡ Some why → ⊥
not_because other why true not is e = never (sym not ∙ (ap (λ (o : Option Unlawful). of_option o) e ∙ is))
  where
    of_option : Option Unlawful → Bool
    of_option None = false
    of_option (Some cause) = is_of_bus cause
not_because other why false not is e = absurd (cc (e))

not_queued : (why : Unlawful) (next : Option Queued) → is_of_bus why ≡ true → nothing_to_send next ≡ Some why → ⊥
not_queued why None is e = not_because NothingQueued why true refl is e
not_queued why (Some frame) is e = absurd (cc (e))

-- a device takes no response
only_torn : (d : Option Device) (arrival : Arrival) (why : Unlawful) → arrival_refusal_at d arrival ≡ Some why → why ≡ unlawful.Torn
unfolding device.arrival_judgement
only_torn None arrival why e = absurd (cc (e))
only_torn (Some x) arrival why e = judged (answer_to x arrival) e
  where
    told : (b : Bool) → cause_of_judgement (if b then Torn else Fine) ≡ Some why → why ≡ unlawful.Torn
    told true e = cc (e)
    told false e = absurd (cc (e))

    judged : (got : Answer) → cause_of_judgement (device.answer_judgement arrival.mark.step got) ≡ Some why → why ≡ unlawful.Torn
    judged (Gives d) e = told (not d.whole && not (nat_eq arrival.mark.step 0)) e
    judged Continues e = absurd (cc (e))
    judged (Drops dropped) e = absurd (cc (e))

abbrev pub IsRefusal : Row → Unlawful → Type 0
IsRefusal row why = ((n : ℕ) × ((k : ℕ) × ((ms : ℕ) × (row ≡ Rx n k ms))))
    ⊎ ((a : ℕ) × ((k : ℕ) × ((ms : ℕ) × ((word : ℕ) × ((row ≡ ARx a k ms word) × (why ≡ unlawful.Torn))))))

module _ (w : Cluster) (why : Unlawful) (is : is_of_bus why ≡ true) where
  abbrev pub Quiet : Option Unlawful → Type 0
  Quiet x = x ≡ Some why → ⊥

  either : (x y : Option Unlawful) → Quiet x → Quiet y → Quiet (or_else x y)
  either x y first second e = elim (or_is x y why e) [ inl e ↦ first e | inr e ↦ second e ]

  no_member : (n : ℕ) → Quiet (no_node w n)
  no_member n e = not_because NoNode why (not (is_member w.ids n)) refl is e

  stopped : (n : ℕ) → Quiet (not_running w n)
  stopped n e = not_because Stopped why (not (is_running (w.member n).status)) refl is e

  running : (n : ℕ) → Quiet (already_running w n)
  running n e = not_because Running why (is_running (w.member n).status) refl is e

  no_frame : (k : ℕ) → Quiet (no_such_frame w k)
  no_frame k e = not_because NoFrame why ((k == 0) || nat_lt (length w.frames) k) refl is e

  no_stop_now : (n calls : ℕ) (b : Bool) → Quiet (if b then not_running w n else None)
  no_stop_now n calls true e = stopped n e
  no_stop_now n calls false e = absurd (cc (e))

  no_device : (a : ℕ) → Quiet (no_allocatee a)
  no_device a e = not_because NoAllocatee why (not (is_place a)) refl is e

  not_there : (a : ℕ) → Quiet (absent w a)
  not_there a e = not_because Absent why (not (is_some (w.allocatee a))) refl is e

  there : (a : ℕ) → Quiet (present w a)
  there a e = not_because Present why (is_some (w.allocatee a)) refl is e

  abbrev pub taken_of : ℕ → ℕ → ℕ → Option Unlawful
  taken_of a k ms = arrival_refusal_at (w.allocatee a) (arrival_at (frame_at w.frames k) ms)

  abbrev pub rest_of : ℕ → ℕ → ℕ → Option Unlawful
  rest_of a k ms = or_else (absent w a) (or_else (no_such_frame w k) (taken_of a k ms))

  by_taken : (a k ms : ℕ) → (no_allocatee a ≡ Some why) ⊎ (rest_of a k ms ≡ Some why) → why ≡ unlawful.Torn
  by_taken a k ms (inl e) = absurd (no_device a e)
  by_taken a k ms (inr e) = elim (or_is (absent w a) (or_else (no_such_frame w k) (taken_of a k ms)) why e) [
    | inl e ↦ absurd (not_there a e)
    | inr e ↦ elim (or_is (no_such_frame w k) (taken_of a k ms) why e) [
      | inl e ↦ absurd (no_frame k e)
      | inr e ↦ only_torn (w.allocatee a) (arrival_at (frame_at w.frames k) ms) why e
    ]
  ]

  pub refusal : (row : Row) → cause w row ≡ Some why → IsRefusal row why
  refusal (Open n told ms word) e = absurd (either (no_node w n) (already_running w n) (no_member n) (running n) e)
  refusal (Tick n ms word) e = absurd (either (no_node w n) (not_running w n) (no_member n) (stopped n) e)
  refusal (Rx n k ms) e = inl (n, (k, (ms, refl)))
  refusal (Send n) e = absurd (either (no_node w n) (or_else (not_running w n) (nothing_to_send (next_frame (w.member n).status))) (no_member n)
      (either (not_running w n) (nothing_to_send (next_frame (w.member n).status)) (stopped n)
      (not_queued why (next_frame (w.member n).status) is)) e)
  refusal (Ext frame) e = absurd (not_because Forged why (is_forged w.ids (identifier_of frame.id)) refl is e)
  refusal (Crash n calls pattern) e =
      absurd (either (no_node w n) (if calls == 0 then not_running w n else None) (no_member n) (no_stop_now n calls (calls == 0)) e)
  refusal (Fault n call) e = absurd (no_member n e)
  refusal (AOpen a uid pref ms word) e = absurd (either (no_allocatee a) (present w a) (no_device a) (there a) e)
  refusal (ATick a ms word) e = absurd (either (no_allocatee a) (absent w a) (no_device a) (not_there a) e)
  refusal (ARx a k ms word) e = inr (a, (k, (ms, (word, (refl, by_taken a k ms (or_is (no_allocatee a) (rest_of a k ms) why e))))))
  refusal (ASend a) e = absurd (either (no_allocatee a) (or_else (absent w a) (nothing_to_send (next_from (w.allocatee a)))) (no_device a)
      (either (absent w a) (nothing_to_send (next_from (w.allocatee a))) (not_there a) (not_queued why (next_from (w.allocatee a)) is)) e)
  refusal (AEnd a) e = absurd (either (no_allocatee a) (absent w a) (no_device a) (not_there a) e)

-- what is said of Raft's calls, and what is asked of responses of GetNodeInfo, are all that may be long
pub all_apart : (limits : Limits) (ids : List ℕ) (before : List Timed) (now : Timed) (n : ℕ) → let made = transfers_of_rows (cluster ids) (rows_in before) [] in
    let heard = heard_by n (cluster ids) (rows_in before) in UsesIdsApart limits (before ++ now ∷ []) made heard n Info
    → ((what : What) → (what ≡ AppQ) ⊎ (what ≡ VoteQ) → UsesIdsApart limits (before ++ now ∷ []) made heard n what)
    → (what : What) → is_long_to_member what ≡ true → UsesIdsApart limits (before ++ now ∷ []) made heard n what
all_apart limits ids before now n infos calls Alloc long = never long
all_apart limits ids before now n infos calls Disc long = never long
all_apart limits ids before now n infos calls Stat long = never long
all_apart limits ids before now n infos calls InfoQ long = never long
all_apart limits ids before now n infos calls Info long = infos
all_apart limits ids before now n infos calls VoteQ long = calls VoteQ (inr refl)
all_apart limits ids before now n infos calls Vote long = never long
all_apart limits ids before now n infos calls AppQ long = calls AppQ (inl refl)
all_apart limits ids before now n infos calls App long = never long

pub short_lately : (limits : Limits) (at : ℕ) → HoldsAreShort limits → HoldsAreShort (lately limits at)
short_lately limits at enough = record { round = enough.round; rested = enough.rested; joined = enough.joined; clock = enough.clock }

-- ---- the laws of one row

module _ (limits : Limits) (ids : List ℕ) where
  abbrev pub w_of : List Timed → Cluster
  w_of before = world_of ids (rows_in before)

  abbrev pub DeviceLaw : Type 0
  DeviceLaw = (before : List Timed) (now : Timed) (a k ms word : ℕ) → now.row ≡ ARx a k ms word → AreLawful (cluster ids) (rows_in before)
      → DeviceHears (lately limits now.at) ids before now a k → cause (w_of before) (ARx a k ms word) ≡ Some unlawful.Torn → ⊥

  abbrev pub TornLaw : Type 0
  TornLaw = (before : List Timed) (now : Timed) (n k ms : ℕ) → now.row ≡ Rx n k ms → AreLawful (cluster ids) (rows_in before)
      → MemberHears (lately limits now.at) ids before now n k → cause (w_of before) (Rx n k ms) ≡ Some unlawful.Torn
      → (moment : ℕ) × LacksFrames (transfers_of_rows (cluster ids) (rows_in before) []) (arrival_at (frame_at (w_of before).frames k) moment)

  abbrev pub StaleLaw : Type 0
  StaleLaw = (before : List Timed) (now : Timed) (n k ms : ℕ) → now.row ≡ Rx n k ms → AreLawful (cluster ids) (rows_in before)
      → MemberHears (lately limits now.at) ids before now n k → cause (w_of before) (Rx n k ms) ≡ Some unlawful.Stale → ⊥

  pub rows_of_more : (before : List Timed) (now : Timed) → rows_in (before ++ now ∷ []) ≡ rows_in before ++ now.row ∷ []
  rows_of_more [] now = refl
  rows_of_more (first ∷ before) now = ap (λ (l : List Row). first.row ∷ l) (rows_of_more before now)

  pub after_more : (before : List Timed) (now : Timed) → w_of (before ++ now ∷ []) ≡ after_row (w_of before) now.row
  after_more before now = ap (λ (l : List Row). after_rows (cluster ids) l) (rows_of_more before now) ∙ grown (cluster ids) (rows_in before) now.row

  of_row : (before : List Timed) (now : Timed) (row : Row) → now.row ≡ row → HappensOnBus limits ids before now now.row
      → HappensOnBus limits ids before now row
  of_row before now row e happens = subst (λ (r : Row). HappensOnBus limits ids before now r) e happens

  -- a row more
  pub lawful_more : (before : List Timed) (t : Timed) (w : Cluster) → w_of before ≡ w → AreLawful (cluster ids) (rows_in before)
      → cause w t.row ≡ None → AreLawful (cluster ids) (rows_in (before ++ t ∷ []))
  lawful_more before t w at lawful e = subst (λ (l : List Row). AreLawful (cluster ids) l) (sym (rows_of_more before t))
      (one_more (cluster ids) (rows_in before) t.row lawful (ap (λ (u : Cluster). cause u t.row) at ∙ e))

  -- who hears a frame that is torn is a member, so frames came to it in order
  pub heard_in_order : (all before : List Timed) (n k ms : ℕ) → AllComeInOrder limits all ids (cluster ids) (rows_in before) → cause (w_of before) (Rx n k ms) ≡ Some unlawful.Torn
      → ComeInOrder limits all n [] (cluster ids) (rows_in before)
  heard_in_order all before n k ms orders e =
      orders n (subst (λ (l : List ℕ). In n l) (ids_stay (cluster ids) (rows_in before)) (refused unlawful.Torn Torn of_torn (w_of before) n k ms e).member)

  -- so is who hears one that is stale
  pub stale_member : (before : List Timed) (n k ms : ℕ) → cause (w_of before) (Rx n k ms) ≡ Some unlawful.Stale → In n ids
  stale_member before n k ms e =
      subst (λ (l : List ℕ). In n l) (ids_stay (cluster ids) (rows_in before)) (refused unlawful.Stale Stale of_stale (w_of before) n k ms e).member

  module _ (device_law : DeviceLaw) (torn_law : TornLaw) (stale_law : StaleLaw) where
    -- a row that is refused lacks frames
    pub lost : (before rest : List Timed) (now : Timed) (why : Unlawful) → is_of_bus why ≡ true → AreLawful (cluster ids) (rows_in before)
        → HappensOnBus limits ids before now now.row → cause (w_of before) now.row ≡ Some why → LosesFrames ids (before ++ (now ∷ rest))
    lost before rest now why is lawful happens e = by (refusal (w_of before) why is now.row e)
      where
        member : (n k ms : ℕ) → now.row ≡ Rx n k ms → (why : Unlawful) → is_of_bus why ≡ true → cause (w_of before) (Rx n k ms) ≡ Some why
            → LosesFrames ids (before ++ (now ∷ rest))
        member n k ms row unlawful.Torn is e =
            let lacks = torn_law before now n k ms row lawful (of_row before now (Rx n k ms) row happens) e in
            record {
              before = before;
              now = now;
              rest = rest;
              split = refl;
              lawful = lawful;
              n = n;
              k = k;
              ms = ms;
              row = row;
              torn = e;
              moment = lacks.0;
              lacks = lacks.1;
            }
        member n k ms row unlawful.Stale is e = absurd (stale_law before now n k ms row lawful (of_row before now (Rx n k ms) row happens) e)
        member n k ms row other is e = absurd (cc (is))

        by : IsRefusal now.row why → LosesFrames ids (before ++ (now ∷ rest))
        by (inl (n, (k, (ms, row)))) = member n k ms row why is (subst (λ (r : Row). cause (w_of before) r ≡ Some why) row e)
        by (inr (a, (k, (ms, (word, (row, torn)))))) =
            absurd (device_law before now a k ms word row lawful (of_row before now (ARx a k ms word) row happens)
            (subst (λ (r : Row). cause (w_of before) r ≡ Some why) row e ∙ ap (λ (c : Unlawful). Some c) torn))

    -- a row that does no harm, and happens on the bus, is lawful
    harmless_row : (before : List Timed) (t : Timed) → AreLawful (cluster ids) (rows_in before) → HappensOnBus limits ids before t t.row
        → (row : Row) → t.row ≡ row → DoesNoHarm (w_of before) row → cause (w_of before) row ≡ None
    harmless_row before t lawful happens row is (inl fine) = fine
    harmless_row before t lawful happens (Rx n k ms) is (inr late) = absurd (stale_law before t n k ms is lawful (of_row before t (Rx n k ms) is happens) late.0)
    harmless_row before t lawful happens row is (inr late) = never late.1

    pub harmless_rows : (rest before : List Timed) (w : Cluster) → w_of before ≡ w → AreLawful (cluster ids) (rows_in before)
        → HappenOnBus limits ids before rest → DoNoHarm w (rows_in rest) → AreLawful (cluster ids) (rows_in (before ++ rest))
    harmless_rows [] before w at lawful happen harmless = subst (λ (l : List Timed). AreLawful (cluster ids) (rows_in l)) (sym (append-nil before)) lawful
    harmless_rows (t ∷ rest) before w at lawful happen harmless =
        subst (λ (l : List Timed). AreLawful (cluster ids) (rows_in l)) (append_assoc before (t ∷ []) rest)
        (harmless_rows rest (before ++ t ∷ []) (after_row w t.row) (after_more before t ∙ ap (λ (u : Cluster). after_row u t.row) at)
        (lawful_more before t w at lawful (ap (λ (u : Cluster). cause u t.row) (sym at)
        ∙ harmless_row before t lawful happen.0 t.row refl (subst (λ (u : Cluster). DoesNoHarm u t.row) (sym at) harmless.0))) happen.1 harmless.1)

    pub scheduled : (rest before : List Timed) (w : Cluster) → w_of before ≡ w → AreLawful (cluster ids) (rows_in before)
        → HappenOnBus limits ids before rest → LawfulButForBus w (rows_in rest) → AreLawful w (rows_in rest) ⊎ LosesFrames ids (before ++ rest)
    scheduled [] before w at lawful happen but = inl tt
    scheduled (now ∷ rest) before w at lawful happen but = by (cause w now.row) refl
        (λ e. scheduled rest (before ++ now ∷ []) (after_row w now.row) (after_more before now ∙ ap (λ (u : Cluster). after_row u now.row) at)
        (lawful_more before now w at lawful e) happen.1 but.1)
      where
        by : (c : Option Unlawful) → cause w now.row ≡ c
            → (cause w now.row ≡ None → AreLawful (after_row w now.row) (rows_in rest) ⊎ LosesFrames ids ((before ++ now ∷ []) ++ rest))
            → AreLawful w (rows_in (now ∷ rest)) ⊎ LosesFrames ids (before ++ (now ∷ rest))
        by (Some why) e more = inr (lost before rest now why (but.0 why e) lawful happen.0 (ap (λ (u : Cluster). cause u now.row) at ∙ e))
        by None e more = elim (more e) [
          | inl lawful ↦ inl (e, lawful)
          | inr loses ↦ inr (subst (λ (l : List Timed). LosesFrames ids l) (append_assoc before (now ∷ []) rest) loses)
        ]
