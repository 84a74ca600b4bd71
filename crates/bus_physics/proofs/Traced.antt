-- From the laws of one row to a trace of processes.
use Rattle.std.proofs.Common.{◌≡◌, ℕ, ◌+◌, ◌*◌, Bool, true, false, List, [], ◌∷◌, ◌++◌, refl, sym, ap, subst, ◌∙◌, ◌⊎◌, inl, inr, Option, Some, None, append_assoc, append-nil}
use Rattle.std.specs.Prelude.{not, if◌then◌else◌}
use Rattle.can_frame.specs.declared.step.Judged.{Judged}
use Rattle.can_frame.specs.declared.step.Judged.TheVariants.{Fine, Torn, Stale}
use Rattle.outside.specs.declared.pattern.Pattern.TheVariants.{Old}
use Rattle.bus_rows.specs.declared.row.Row.{Row}
use Rattle.bus_rows.specs.declared.row.Row.TheVariants.{Crash, Rx, Tick}
use Rattle.transfer_rx.specs.Reassembly.{Arrival}
use Rattle.alloc_spec.specs.Judging.{arrival_judgement}
use Rattle.bus_spec.specs.declared.unlawful.Unlawful.{Unlawful}
use Rattle.bus_spec.specs.Cluster.{Cluster, after_row, after_rows, arrival_at, cluster, frame_at, is_member}
use Rattle.bus_spec.specs.Lawful.{DoNoHarm, DoesNoHarm, AreLawful, arrival_refusal, brings_void_to, because, cause, cause_of_judgement, no_such_frame, or_else}
use Rattle.bus_spec.specs.declared.unlawful.Unlawful.TheVariants.{NoNode, Stopped}
use Rattle.bus_spec.specs.Members.{MemberStatus, is_running}
use Rattle.bus_spec.specs.Members.MemberStatus.{Down, Failed, Up}
use Rattle.bus_agreement.proofs.Concatenations.{ids_stay}
use Rattle.bus_agreement.proofs.Lists.{never}
use Rattle.cmd_node_laws.specs.Traces.{Event, FromElsewhere, DiesInTurn, DiesAtOpening, MayAllHappen, MayHappen, OfOthers, Opens, Silence, Stops, Turns, WasSent, all_rows, came_rows, rows_of, RowsFrom, while_running}
use Rattle.cmd_node_laws.proofs.Places.{after_both}
use Rattle.bus_rows.specs.Timed.{Timed, rows_in}
use Rattle.bus_physics.specs.Physics.{Limits}
use Rattle.bus_physics.specs.Processes.{MayAllDo, MayDo}
use Rattle.bus_physics.specs.Schedule.{HappenOnBus, HappensOnBus, LosesFrames, is_of_bus}
use Rattle.bus_physics.proofs.Scheduled.{DeviceLaw, StaleLaw, TornLaw, after_more, harmless_rows, lawful_more, lost, w_of}

-- ---- a frame that a member would not take

of_judgement : (judged : Judged) (why : Unlawful) → cause_of_judgement judged ≡ Some why → is_of_bus why ≡ true
of_judgement Fine why e = absurd (cc (e))
of_judgement Torn why e = by (ap of_option e)
  where
    of_option : Option Unlawful → Bool
    of_option None = true
    of_option (Some cause) = is_of_bus cause

    by : true ≡ is_of_bus why → is_of_bus why ≡ true
    by e = sym e
of_judgement Stale why e = by (ap of_option e)
  where
    of_option : Option Unlawful → Bool
    of_option None = true
    of_option (Some cause) = is_of_bus cause

    by : true ≡ is_of_bus why → is_of_bus why ≡ true
    by e = sym e

bus_refuses : (status : MemberStatus) (arrival : Arrival) (why : Unlawful) → arrival_refusal status arrival ≡ Some why
    → (is_of_bus why ≡ true) × (is_running status ≡ true)
bus_refuses Down arrival why e = absurd (cc (e))
bus_refuses (Up server) arrival why e = (of_judgement (arrival_judgement server arrival) why e, refl)
bus_refuses (Failed failure) arrival why e = absurd (cc (e))

row_refused : (w : Cluster) (n k moment : ℕ) (why : Unlawful) → is_member w.ids n ≡ true → is_running (w.member n).status ≡ true
    → no_such_frame w k ≡ None → arrival_refusal (w.member n).status (arrival_at (frame_at w.frames k) moment) ≡ Some why
    → cause w (Rx n k moment) ≡ Some why
row_refused w n k moment why member runs there e =
    let taken : Option Unlawful = arrival_refusal (w.member n).status (arrival_at (frame_at w.frames k) moment) in
    ap (λ (b : Bool). or_else (because NoNode (not b)) (or_else (because Stopped (not (is_running (w.member n).status))) (or_else (no_such_frame w k) taken))) member
    ∙ (ap (λ (b : Bool). or_else (because Stopped (not b)) (or_else (no_such_frame w k) taken)) runs
    ∙ (ap (λ (o : Option Unlawful). or_else o taken) there ∙ e))

-- ---- timed rows in two parts

pub record Parts (timed : List Timed) (first rest : List Row) : Type 0 where
  pub one : List Timed
  pub two : List Timed
  pub split : timed ≡ one ++ two
  pub ones : rows_in one ≡ first
  pub twos : rows_in two ≡ rest

pub parts : (first rest : List Row) (timed : List Timed) → rows_in timed ≡ first ++ rest → Parts timed first rest
parts [] rest timed e = record { one = []; two = timed; split = refl; ones = refl; twos = e }
parts (row ∷ first) rest [] e = absurd (cc (e))
parts (row ∷ first) rest (t ∷ timed) e =
    let more = parts first rest timed (cc (e)) in
    let head : t.row ≡ row = cc (e) in
    record {
      one = t ∷ more.one;
      two = more.two;
      split = ap (λ (l : List Timed). t ∷ l) more.split;
      ones = ap (λ (l : List Row). t.row ∷ l) more.ones ∙ ap (λ (r : Row). r ∷ first) head;
      twos = more.twos;
    }

rows_of_both : (one two : List Timed) → rows_in (one ++ two) ≡ rows_in one ++ rows_in two
rows_of_both [] two = refl
rows_of_both (t ∷ one) two = ap (λ (l : List Row). t.row ∷ l) (rows_of_both one two)

module _ (limits : Limits) (ids : List ℕ) where
  pub happen_first : (one two before : List Timed) → HappenOnBus limits ids before (one ++ two) → HappenOnBus limits ids before one
  happen_first [] two before happen = tt
  happen_first (t ∷ one) two before happen = (happen.0, happen_first one two (before ++ t ∷ []) happen.1)

  pub happen_then : (one two before : List Timed) → HappenOnBus limits ids before (one ++ two) → HappenOnBus limits ids (before ++ one) two
  happen_then [] two before happen = subst (λ (l : List Timed). HappenOnBus limits ids l two) (sym (append-nil before)) happen
  happen_then (t ∷ one) two before happen =
      subst (λ (l : List Timed). HappenOnBus limits ids l two) (append_assoc before (t ∷ []) one) (happen_then one two (before ++ t ∷ []) happen.1)

  module _ (device_law : DeviceLaw limits ids) (torn_law : TornLaw limits ids) (stale_law : StaleLaw limits ids) where
    -- a frame comes to a member that runs or does not
    hears : (before tail : List Timed) (r : Timed) (n k moment : ℕ) (w : Cluster) → w_of limits ids before ≡ w → AreLawful (cluster ids) (rows_in before)
        → r.row ≡ Rx n k moment → HappensOnBus limits ids before r r.row → is_member ids n ≡ true → no_such_frame w k ≡ None
        → (arrival_refusal (w.member n).status (arrival_at (frame_at w.frames k) moment) ≡ None) ⊎ LosesFrames ids (before ++ (r ∷ tail))
    hears before tail r n k moment w at lawful row happens member there =
        by (arrival_refusal (w.member n).status (arrival_at (frame_at w.frames k) moment)) refl
      where
        by : (o : Option Unlawful) → arrival_refusal (w.member n).status (arrival_at (frame_at w.frames k) moment) ≡ o
            → (arrival_refusal (w.member n).status (arrival_at (frame_at w.frames k) moment) ≡ None) ⊎ LosesFrames ids (before ++ (r ∷ tail))
        by None e = inl e
        by (Some why) e =
            let is = bus_refuses (w.member n).status (arrival_at (frame_at w.frames k) moment) why e in
            let same : w.ids ≡ ids = ap (λ (u : Cluster). u.ids) (sym at) ∙ ids_stay (cluster ids) (rows_in before) in
            inr (lost limits ids device_law torn_law stale_law before tail r why is.0 lawful happens
            (ap (λ (u : Cluster). cause u r.row) at ∙ (ap (λ (x : Row). cause w x) row
            ∙ row_refused w n k moment why (ap (λ (l : List ℕ). is_member l n) same ∙ member) is.1 there e)))

    abbrev pub Quiet : Cluster → Type 0
    Quiet w = (e : Event) → MayHappen e w → DoNoHarm w (rows_of e w)

    -- a row that brings no response at all is lawful
    lawful_row : (w : Cluster) (row : Row) → brings_void_to w row ≡ false → DoesNoHarm w row → cause w row ≡ None
    lawful_row w row none (inl fine) = fine
    lawful_row w row none (inr late) = never (sym none ∙ late.1)

    w_more : (before : List Timed) (t : Timed) (row : Row) (w : Cluster) → w_of limits ids before ≡ w → t.row ≡ row
        → w_of limits ids (before ++ t ∷ []) ≡ after_row w row
    w_more before t row w at e = after_more limits ids before t ∙ (ap (λ (u : Cluster). after_row u t.row) at ∙ ap (λ (r : Row). after_row w r) e)

    module _ (before rest : List Timed) (w : Cluster) (at : w_of limits ids before ≡ w) (lawful : AreLawful (cluster ids) (rows_in before)) (quiet : Quiet w) where
      same_ids : w.ids ≡ ids
      same_ids = ap (λ (u : Cluster). u.ids) (sym at) ∙ ids_stay (cluster ids) (rows_in before)

      -- a frame behind one row, the tick
      turn : (n moment word k : ℕ) (a : List Timed) → rows_in a ≡ rows_of (Turns n moment word (WasSent k)) w → HappenOnBus limits ids before a
          → MayDo (Turns n moment word (WasSent k)) w → MayHappen (Turns n moment word (WasSent k)) w ⊎ LosesFrames ids (before ++ (a ++ rest))
      turn n moment word k [] rows happen may = absurd (cc (rows))
      turn n moment word k (t ∷ []) rows happen may = absurd (cc (rows))
      turn n moment word k (t ∷ (r ∷ a)) rows happen may =
          let ticks : t.row ≡ Tick n moment word = cc (rows) in
          let comes : r.row ≡ Rx n k moment = cc (rows) in
          let ticked = lawful_row w (Tick n moment word) refl (quiet (Turns n moment word Silence) (may.0, tt)).0 in
          elim (hears (before ++ t ∷ []) (a ++ rest) r n k moment (after_row w (Tick n moment word)) (w_more before t (Tick n moment word) w at ticks)
          (lawful_more limits ids before t w at lawful (ap (λ (x : Row). cause w x) ticks ∙ ticked)) comes happen.1.0
          (ap (λ (l : List ℕ). is_member l n) (sym same_ids) ∙ may.0.member) may.1) [
            | inl fine ↦ inl (may.0, (may.1, inl fine))
            | inr loses ↦ inr (subst (λ (l : List Timed). LosesFrames ids l) (append_assoc before (t ∷ []) (r ∷ (a ++ rest))) loses)
          ]

      -- a frame behind two rows, in a turn in which the member is killed
      killed : (n moment word k puts : ℕ) (a : List Timed) → rows_in a ≡ rows_of (DiesInTurn n moment word (WasSent k) puts) w
          → HappenOnBus limits ids before a → MayDo (DiesInTurn n moment word (WasSent k) puts) w
          → MayHappen (DiesInTurn n moment word (WasSent k) puts) w ⊎ LosesFrames ids (before ++ (a ++ rest))
      killed n moment word k puts a rows happen may = by (is_running (ticked.member n).status) refl
        where
          ticked : Cluster
          ticked = after_rows w (Crash n (4 * puts + 1) Old ∷ Tick n moment word ∷ [])

          comes : RowsFrom
          comes = came_rows n moment (WasSent k)

          coming : is_running (ticked.member n).status ≡ true → while_running n comes ticked ≡ Rx n k moment ∷ []
          coming runs = ap (λ (b : Bool). if b then comes ticked else []) runs

          found : is_running (ticked.member n).status ≡ true → no_such_frame ticked k ≡ None → (a : List Timed) → HappenOnBus limits ids before a
              → (more : List Row) → rows_in a ≡ Crash n (4 * puts + 1) Old ∷ (Tick n moment word ∷ (Rx n k moment ∷ more))
              → MayHappen (DiesInTurn n moment word (WasSent k) puts) w ⊎ LosesFrames ids (before ++ (a ++ rest))
          found runs there [] happen more rows = absurd (cc (rows))
          found runs there (c ∷ []) happen more rows = absurd (cc (rows))
          found runs there (c ∷ (t ∷ [])) happen more rows = absurd (cc (rows))
          found runs there (c ∷ (t ∷ (r ∷ a))) happen more rows =
              let crashes : c.row ≡ Crash n (4 * puts + 1) Old = cc (rows) in
              let ticks : t.row ≡ Tick n moment word = cc (rows) in
              let comes : r.row ≡ Rx n k moment = cc (rows) in
              let quiet_rows = quiet (DiesInTurn n moment word Silence puts) (may.0, λ runs. tt) in
              let crashed = w_more before c (Crash n (4 * puts + 1) Old) w at crashes in
              let lawful_crash = lawful_more limits ids before c w at lawful (ap (λ (x : Row). cause w x) crashes ∙ lawful_row w (Crash n (4 * puts + 1) Old) refl quiet_rows.0) in
              elim (hears ((before ++ c ∷ []) ++ t ∷ []) (a ++ rest) r n k moment ticked
              (w_more (before ++ c ∷ []) t (Tick n moment word) (after_row w (Crash n (4 * puts + 1) Old)) crashed ticks)
              (lawful_more limits ids (before ++ c ∷ []) t (after_row w (Crash n (4 * puts + 1) Old)) crashed lawful_crash
              (ap (λ (x : Row). cause (after_row w (Crash n (4 * puts + 1) Old)) x) ticks ∙ lawful_row (after_row w (Crash n (4 * puts + 1) Old)) (Tick n moment word) refl quiet_rows.1.0)) comes happen.1.1.0
              (ap (λ (l : List ℕ). is_member l n) (sym same_ids) ∙ may.0.member) there) [
                | inl fine ↦ inl (may.0, λ on. (there, inl fine))
                | inr loses ↦ inr (subst (λ (l : List Timed). LosesFrames ids l)
                    (append_assoc (before ++ c ∷ []) (t ∷ []) (r ∷ (a ++ rest)) ∙ append_assoc before (c ∷ []) (t ∷ (r ∷ (a ++ rest)))) loses)
              ]

          by : (b : Bool) → is_running (ticked.member n).status ≡ b
              → MayHappen (DiesInTurn n moment word (WasSent k) puts) w ⊎ LosesFrames ids (before ++ (a ++ rest))
          by false e = inl (may.0, λ runs. never (sym e ∙ runs))
          by true e = found e (may.1 e) a happen (while_running n (λ w. Crash n 0 Old ∷ []) (after_rows ticked (while_running n comes ticked)))
              (rows ∙ ap (λ (l : List Row). Crash n (4 * puts + 1) Old ∷ (Tick n moment word ∷ (l ++ while_running n (λ w. Crash n 0 Old ∷ []) (after_rows ticked (while_running n comes ticked)))))
              (coming e))

      -- a row of an allocatee
      of_allocatee : (row : Row) (a : List Timed) → rows_in a ≡ row ∷ [] → HappenOnBus limits ids before a → MayDo (OfOthers row) w
          → MayHappen (OfOthers row) w ⊎ LosesFrames ids (before ++ (a ++ rest))
      of_allocatee row [] rows happen may = absurd (cc (rows))
      of_allocatee row (t ∷ a) rows happen may = by (cause w row) refl
        where
          is : t.row ≡ row
          is = cc (rows)

          by : (o : Option Unlawful) → cause w row ≡ o → MayHappen (OfOthers row) w ⊎ LosesFrames ids (before ++ (t ∷ (a ++ rest)))
          by None e = inl (may.0, e)
          by (Some why) e = inr (lost limits ids device_law torn_law stale_law before (a ++ rest) t why (may.1 why e) lawful happen.0
              (ap (λ (u : Cluster). cause u t.row) at ∙ (ap (λ (x : Row). cause w x) is ∙ e)))

      pub event : (e : Event) (a : List Timed) → rows_in a ≡ rows_of e w → HappenOnBus limits ids before a → MayDo e w
          → MayHappen e w ⊎ LosesFrames ids (before ++ (a ++ rest))
      event (Opens n told moment word) a rows happen may = inl may
      event (DiesAtOpening n told moment word puts) a rows happen may = inl may
      event (Turns n moment word Silence) a rows happen may = inl may
      event (Turns n moment word (WasSent k)) a rows happen may = turn n moment word k a rows happen may
      event (Turns n moment word (FromElsewhere frame)) a rows happen may = inl may
      event (Stops n) a rows happen may = inl may
      event (DiesInTurn n moment word Silence puts) a rows happen may = inl may
      event (DiesInTurn n moment word (WasSent k) puts) a rows happen may = killed n moment word k puts a rows happen may
      event (DiesInTurn n moment word (FromElsewhere frame) puts) a rows happen may = inl may
      event (OfOthers row) a rows happen may = of_allocatee row a rows happen may

    -- ---- all events

    may_more : (done : List Event) (e : Event) (w : Cluster) → MayAllHappen done w → MayHappen e (after_rows w (all_rows done w)) → MayAllHappen (done ++ e ∷ []) w
    may_more [] e w all may = (may, tt)
    may_more (first ∷ done) e w all may = (
      all.0,
      may_more done e (after_rows w (rows_of first w)) all.1
          (subst (λ (u : Cluster). MayHappen e u) (after_both w (rows_of first w) (all_rows done (after_rows w (rows_of first w)))) may),
    )

    rows_more : (done : List Event) (e : Event) (w : Cluster) → all_rows (done ++ e ∷ []) w ≡ all_rows done w ++ rows_of e (after_rows w (all_rows done w))
    rows_more [] e w = append-nil (rows_of e w)
    rows_more (first ∷ done) e w =
        let v : Cluster = after_rows w (rows_of first w) in
        ap (λ (l : List Row). rows_of first w ++ l) (rows_more done e v)
        ∙ (sym (append_assoc (rows_of first w) (all_rows done v) (rows_of e (after_rows v (all_rows done v))))
        ∙ ap (λ (u : Cluster). (rows_of first w ++ all_rows done v) ++ rows_of e u) (sym (after_both w (rows_of first w) (all_rows done v))))

    parted : (w : Cluster) (first rest : List Row) → DoNoHarm w (first ++ rest) → DoNoHarm (after_rows w first) rest
    parted w [] rest harmless = harmless
    parted w (row ∷ first) rest harmless = parted (after_row w row) first rest harmless.1

    module _ (harmless_of : (trace : List Event) → MayAllHappen trace (cluster ids) → DoNoHarm (cluster ids) (all_rows trace (cluster ids))) where
      pub traced : (trace done : List Event) (before timed : List Timed) (w : Cluster) → after_rows (cluster ids) (all_rows done (cluster ids)) ≡ w
          → MayAllHappen done (cluster ids) → AreLawful (cluster ids) (rows_in before) → rows_in before ≡ all_rows done (cluster ids) → rows_in timed ≡ all_rows trace w
          → HappenOnBus limits ids before timed → MayAllDo trace w → MayAllHappen (done ++ trace) (cluster ids) ⊎ LosesFrames ids (before ++ timed)
      traced [] done before timed w at so_far lawful same rows happen may =
          inl (subst (λ (l : List Event). MayAllHappen l (cluster ids)) (sym (append-nil done)) so_far)
      traced (e ∷ trace) done before timed w at so_far lawful same rows happen may =
          let v : Cluster = after_rows w (rows_of e w) in
          let cut = parts (rows_of e w) (all_rows trace v) timed rows in
          let happens : HappenOnBus limits ids before (cut.one ++ cut.two) = subst (λ (l : List Timed). HappenOnBus limits ids before l) cut.split happen in
          let quiet : Quiet w = λ x allowed.
          subst (λ (u : Cluster). DoNoHarm u (rows_of x w)) at
          (parted (cluster ids) (all_rows done (cluster ids)) (rows_of x w)
          (subst (λ (u : Cluster). DoNoHarm (cluster ids) (all_rows done (cluster ids) ++ rows_of x u)) at
          (subst (λ (l : List Row). DoNoHarm (cluster ids) l) (rows_more done x (cluster ids))
          (harmless_of (done ++ x ∷ []) (may_more done x (cluster ids) so_far (subst (λ (u : Cluster). MayHappen x u) (sym at) allowed)))))) in
          let stands : w_of limits ids before ≡ w = ap (λ (l : List Row). after_rows (cluster ids) l) same ∙ at in
          elim (event before cut.two w stands lawful quiet e cut.one cut.ones (happen_first cut.one cut.two before happens) may.0) [
            | inl allowed ↦
                let allowed_there : MayHappen e (after_rows (cluster ids) (all_rows done (cluster ids))) = subst (λ (u : Cluster). MayHappen e u) (sym at) allowed in
                let more = traced trace (done ++ e ∷ []) (before ++ cut.one) cut.two v
                (ap (λ (l : List Row). after_rows (cluster ids) l) (rows_more done e (cluster ids))
                ∙ (after_both (cluster ids) (all_rows done (cluster ids)) (rows_of e (after_rows (cluster ids) (all_rows done (cluster ids))))
                ∙ ap (λ (u : Cluster). after_rows u (rows_of e u)) at))
                (may_more done e (cluster ids) so_far allowed_there)
                (harmless_rows limits ids device_law torn_law stale_law cut.one before w stands lawful (happen_first cut.one cut.two before happens)
                (subst (λ (l : List Row). DoNoHarm w l) (sym cut.ones) (quiet e allowed)))
                (rows_of_both before cut.one ∙ (ap (λ (l : List Row). l ++ rows_in cut.one) same
                ∙ (ap (λ (l : List Row). all_rows done (cluster ids) ++ l) (cut.ones ∙ ap (λ (u : Cluster). rows_of e u) (sym at)) ∙ sym (rows_more done e (cluster ids)))))
                cut.twos (happen_then cut.one cut.two before happens) may.1 in
                elim more [
                  | inl all ↦ inl (subst (λ (l : List Event). MayAllHappen l (cluster ids)) (append_assoc done (e ∷ []) trace) all)
                  | inr loses ↦ inr (subst (λ (l : List Timed). LosesFrames ids l) (append_assoc before cut.one cut.two ∙ ap (λ (l : List Timed). before ++ l) (sym cut.split)) loses)
                ]
            | inr loses ↦ inr (subst (λ (l : List Timed). LosesFrames ids l) (ap (λ (l : List Timed). before ++ l) (sym cut.split)) loses)
          ]
