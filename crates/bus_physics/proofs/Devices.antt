-- Along the rows of a physical bus the sessions of an allocatee keep frames that came soon, one after another.
use Rattle.std.proofs.Common.{◌≡◌, ℕ, ◌+◌, ◌<◌, ◌≤◌, Bool, true, false, List, [], ◌∷◌, ◌++◌, refl, sym, ap, subst, ◌∙◌, arith, inl, inr, Option, Some, None, append_assoc, append-nil}
use Rattle.std.specs.Prelude.{◌-◌, ◌==◌, max, if◌then◌else◌}
use Rattle.std.proofs.lemmas.Bool.Decides.{eqb_tells}
use Rattle.raft_model.specs.Lists.{In}
use Rattle.bus_rows.specs.declared.row.Row.{Row}
use Rattle.bus_rows.specs.declared.row.Row.TheVariants.{AEnd, AOpen, ARx, ASend, ATick, Crash, Ext, Fault, Open, Rx, Send, Tick}
use Rattle.transfer_rx.specs.declared.key.Key.{Key}
use Rattle.transfer_rx.specs.Reassembly.{Arrival, next}
use Rattle.transfer_rx.specs.Run.{is_of}
use Rattle.transfer_rx.specs.Sessions.{Session}
use Rattle.transfer_tx.specs.Queue.{Queued}
use Rattle.allocatee.specs.Accepted as device
use Rattle.allocatee.specs.Allocatee.{Device, at_step, opening, step}
use Rattle.allocatee.specs.Allocatee.Event.{Rx as Receives, Tick as Ticks}
use Rattle.bus_spec.specs.Allocatees.{after_sending_from, device_after_step}
use Rattle.bus_spec.specs.Cluster.{Cluster, after_row, after_rows, arrival_at, frame_at, receipt_at}
use Rattle.bus_agreement.specs.Frames.{CameFrom}
use Rattle.bus_agreement.proofs.DeliveredTransfers.{IsOfKey}
use Rattle.bus_agreement.proofs.Lists.{in_back, in_front}
use Rattle.bus_rows.specs.Timed.{Timed, rows_in}
use Rattle.bus_physics.specs.Physics.{DeviceRowsArePhysical, ComesInTime, GoesOn, Limits, WhereIts, Reading, RowIsPhysical, device_heard_by, device_heard_in, now_of, readings_after, time_of}
use Rattle.bus_physics.proofs.InTime.{Heard, IsInTime, still, stepped}

-- what the crate of allocatees says of a step's sessions, and that of receivers of keys
pub record SessionLaws : Type 0 where
  pub frame : (d : Device) (number word : ℕ) (arrival : Arrival) → (step d number (Receives arrival word)).device.sessions ≡ next device.setting d.sessions (at_step d arrival)
  pub tick : (d : Device) (number now word : ℕ) → (step d number (Ticks now word)).device.sessions ≡ d.sessions

some_is : (x y : Device) → Some x ≡ Some y → x ≡ y
some_is x y e = cc (e)

module _ (limits : Limits) (all : List Timed) where
  -- of a frame that a step made: when it came
  pub record IsTimely (arrival : Arrival) (came : ℕ) : Type 0 where
    pub after : 1 ≤ arrival.mark.step → time_of all arrival.mark.step ≤ came
    pub soon : limits.since ≤ came → 1 ≤ arrival.mark.step → came ≤ time_of all arrival.mark.step + limits.hold

  -- what is known of a frame that a session keeps
  pub record IsKnown (frames : List Queued) (key : Key) (h : Heard) : Type 0 where
    pub came : CameFrom frames h.arrival
    pub of_key : IsOfKey device.setting key h.arrival
    pub is : is_of device.setting key h.arrival ≡ true
    pub timely : IsTimely h.arrival h.at

  -- a frame of a session comes no sooner than the one before it; and where it comes lately, no more than so much later,
  -- by a clock that may be so much wrong
  abbrev pub IsClose : ℕ → ℕ → ℕ → Type 0
  IsClose wrong first second = (first ≤ second) × (limits.since ≤ second → second ≤ first + (2000 + wrong))

  abbrev pub AllInTime : List Queued → List Reading → List Session → Type 0
  AllInTime frames past sessions = (s : Session) → In s sessions → IsInTime (IsKnown frames) (IsClose limits.drift) past s

  -- for allocatee a
  abbrev pub Inv : ℕ → List Queued → List Reading → (ℕ → Option Device) → Type 0
  Inv a frames past allocatee = (x : Device) → allocatee a ≡ Some x → AllInTime frames past x.sessions

  more_frames : (frames more : List Queued) (key : Key) (h : Heard) → IsKnown frames key h → IsKnown (frames ++ more) key h
  more_frames frames more key h is = record {
    came = record {
      frame = is.came.frame;
      there = in_front is.came.frame frames more is.came.there;
      id = is.came.id;
      bytes = is.came.bytes;
      mark = is.came.mark;
    };
    of_key = is.of_key;
    is = is.is;
    timely = is.timely;
  }

  pub all_more : (frames more : List Queued) (past later : List Reading) → ((p : Reading) → In p past → In p later) → (sessions : List Session) → AllInTime frames past sessions
      → AllInTime (frames ++ more) later sessions
  all_more frames more past later grows sessions each s i =
      still (IsKnown frames) (IsKnown (frames ++ more)) (more_frames frames more) (IsClose limits.drift) past later grows s (each s i)

  all_later : (frames : List Queued) (past later : List Reading) → ((p : Reading) → In p past → In p later) → (sessions : List Session) → AllInTime frames past sessions
      → AllInTime frames later sessions
  all_later frames past later grows sessions each s i = still (IsKnown frames) (IsKnown frames) (λ key h is. is) (IsClose limits.drift) past later grows s (each s i)

  -- ---- a frame that the allocatee receives

  module _ (wrong : ℕ) (sane : wrong < 58000) (past : List Reading) (came now : ℕ) (goes : GoesOn limits wrong past came now) where
    -- since a reading that is no older than a session may be, not more time has passed
    pub soon : (p : Reading) → In p past → now - p.now ≤ 2000 → IsClose wrong p.at came
    soon p i young = let g = goes p i in (g.0, λ recent. omega (arith, g.0, g.1 recent, young, sane))

  module _ (laws : SessionLaws) (of_its_key : (key : Key) (b : Arrival) → is_of device.setting key b ≡ true → IsOfKey device.setting key b)
      (sane : limits.drift < 58000) (a : ℕ) (w : Cluster) (heard : List Queued) (past : List Reading) (came : ℕ) where
    abbrev with_frame : ℕ → List Queued
    with_frame k = heard ++ frame_at w.frames k ∷ []

    received : (d : Device) (number k ms word : ℕ) → AllInTime heard past d.sessions
        → GoesOn limits limits.drift past came (max d.asking.moment ms) → ComesInTime limits all came (frame_at w.frames k)
        → AllInTime (with_frame k) (record { at = came; now = max d.asking.moment ms; opens = false } ∷ past) (step d number (receipt_at w k ms word)).device.sessions
    received d number k ms word each goes timely =
        subst (λ (l : List Session). AllInTime (with_frame k) (record { at = came; now = max d.asking.moment ms; opens = false } ∷ past) l)
        (sym (laws.frame d number word (arrival_at (frame_at w.frames k) ms)))
        (stepped (IsKnown heard) (IsKnown (with_frame k)) (more_frames heard (frame_at w.frames k ∷ [])) (IsClose limits.drift) past (record { at = came; now = max d.asking.moment ms; opens = false } ∷ past) (λ p i. inr i)
        device.setting d.sessions each (at_step d (arrival_at (frame_at w.frames k) ms)) came (inl refl) (soon limits.drift sane past came (max d.asking.moment ms) goes)
        (λ key is. record {
          came = record {
            frame = frame_at w.frames k;
            there = in_back (frame_at w.frames k) heard (frame_at w.frames k ∷ []) (inl refl);
            id = refl;
            bytes = refl;
            mark = refl;
          };
          of_key = of_its_key key (at_step d (arrival_at (frame_at w.frames k) ms)) is;
          is = is;
          timely = record { after = timely.after; soon = timely.soon };
        }))

    -- ---- each row of allocatees, for the one at this place or another

    module _ (inv : Inv a heard past w.allocatee) where
      no_more : (past_then : List Reading) (sessions : List Session) → AllInTime heard past_then sessions → AllInTime (heard ++ []) past_then sessions
      no_more past_then sessions = subst (λ (l : List Queued). AllInTime l past_then sessions) (sym (append-nil heard))

      rx_by : (b k ms word : ℕ) (same : Bool) → (a == b) ≡ same
          → WhereIts same (GoesOn limits limits.drift past came (now_of (w.allocatee b) ms) × ComesInTime limits all came (frame_at w.frames k)) → (x : Device)
          → (if same then device_after_step (w.rows + 1) (receipt_at w k ms word) (w.allocatee b) else w.allocatee a) ≡ Some x
          → AllInTime (heard ++ (if same then frame_at w.frames k ∷ [] else []))
          (if same then record { at = came; now = now_of (w.allocatee b) ms; opens = false } ∷ past else past) x.sessions
      rx_by b k ms word false e phys x is = no_more past x.sessions (inv x is)
      rx_by b k ms word true e phys x is = by (w.allocatee b) refl phys is where
        a_is : a ≡ b
        a_is = elim (eqb_tells a b) [ inl s ↦ s.1 | inr n ↦ absurd (cc (sym n.0 ∙ e)) ]

        by : (o : Option Device) → w.allocatee b ≡ o → GoesOn limits limits.drift past came (now_of o ms) × ComesInTime limits all came (frame_at w.frames k)
            → device_after_step (w.rows + 1) (receipt_at w k ms word) o ≡ Some x → AllInTime (with_frame k) (record { at = came; now = now_of o ms; opens = false } ∷ past) x.sessions
        by None o phys is = absurd (cc (is))
        by (Some d) o phys is = subst (λ (y : Device). AllInTime (with_frame k) (record { at = came; now = max d.asking.moment ms; opens = false } ∷ past) y.sessions)
            (some_is (step d (w.rows + 1) (receipt_at w k ms word)).device x is)
            (received d (w.rows + 1) k ms word (inv d (ap w.allocatee a_is ∙ o)) phys.0 phys.1)

      tick_by : (b ms word : ℕ) (same : Bool) → (a == b) ≡ same → (x : Device)
          → (if same then device_after_step (w.rows + 1) (Ticks ms word) (w.allocatee b) else w.allocatee a) ≡ Some x
          → AllInTime heard (if same then record { at = came; now = now_of (w.allocatee b) ms; opens = false } ∷ past else past) x.sessions
      tick_by b ms word false e x is = inv x is
      tick_by b ms word true e x is = by (w.allocatee b) refl is where
        a_is : a ≡ b
        a_is = elim (eqb_tells a b) [ inl s ↦ s.1 | inr n ↦ absurd (cc (sym n.0 ∙ e)) ]

        by : (o : Option Device) → w.allocatee b ≡ o → device_after_step (w.rows + 1) (Ticks ms word) o ≡ Some x
            → AllInTime heard (record { at = came; now = now_of o ms; opens = false } ∷ past) x.sessions
        by None o is = absurd (cc (is))
        by (Some d) o is = subst (λ (y : Device). AllInTime heard (record { at = came; now = max d.asking.moment ms; opens = false } ∷ past) y.sessions)
            (some_is (step d (w.rows + 1) (Ticks ms word)).device x is)
            (subst (λ (l : List Session). AllInTime heard (record { at = came; now = max d.asking.moment ms; opens = false } ∷ past) l) (sym (laws.tick d (w.rows + 1) ms word))
            (all_later heard past (record { at = came; now = max d.asking.moment ms; opens = false } ∷ past) (λ p i. inr i) d.sessions (inv d (ap w.allocatee a_is ∙ o))))

      open_by : (b : ℕ) (uid : List ℕ) (pref ms word : ℕ) (same : Bool) → (x : Device)
          → (if same then Some (opening uid pref ms word) else w.allocatee a) ≡ Some x
          → AllInTime heard (if same then record { at = came; now = ms; opens = true } ∷ [] else past) x.sessions
      open_by b uid pref ms word false x is = inv x is
      open_by b uid pref ms word true x is = λ s i. absurd (subst (λ (y : Device). In s y.sessions) (sym (some_is (opening uid pref ms word) x is)) i)

      end_by : (same : Bool) → (x : Device) → (if same then None else w.allocatee a) ≡ Some x → AllInTime heard past x.sessions
      end_by false x is = inv x is
      end_by true x is = absurd (cc (is))

      send_by : (b : ℕ) (same : Bool) → (a == b) ≡ same → (x : Device)
          → (if same then after_sending_from (w.allocatee b) else w.allocatee a) ≡ Some x → AllInTime heard past x.sessions
      send_by b false e x is = inv x is
      send_by b true e x is = by (w.allocatee b) refl is where
        a_is : a ≡ b
        a_is = elim (eqb_tells a b) [ inl s ↦ s.1 | inr n ↦ absurd (cc (sym n.0 ∙ e)) ]

        by : (o : Option Device) → w.allocatee b ≡ o → after_sending_from o ≡ Some x → AllInTime heard past x.sessions
        by None o is = absurd (cc (is))
        by (Some d) o is = subst (λ (y : Device). AllInTime heard past y.sessions) (sent_is d x is)
            (inv d (ap w.allocatee a_is ∙ o))
          where
            sent_is : (d x : Device) → after_sending_from (Some d) ≡ Some x → record d { asking = x.asking } ≡ x
            sent_is d x e = cc (e)

      same : Inv a (heard ++ []) past w.allocatee
      same x is = no_more past x.sessions (inv x is)

      pub goes_on : (row : Row) → RowIsPhysical limits all a past w came row
          → Inv a (heard ++ device_heard_in a w row) (readings_after a past w came row) (after_row w row).allocatee
      goes_on (Open n told ms word) phys = same
      goes_on (Tick n ms word) phys = same
      goes_on (Rx n k ms) phys = same
      goes_on (Send n) phys = same
      goes_on (Ext frame) phys = same
      goes_on (Crash n calls pattern) phys = same
      goes_on (Fault n call) phys = same
      goes_on (AOpen b uid pref ms word) phys = λ x is.
          no_more (readings_after a past w came (AOpen b uid pref ms word)) x.sessions (open_by b uid pref ms word (a == b) x is)
      goes_on (ATick b ms word) phys = λ x is.
          no_more (readings_after a past w came (ATick b ms word)) x.sessions (tick_by b ms word (a == b) refl x is)
      goes_on (ARx b k ms word) phys = rx_by b k ms word (a == b) refl phys
      goes_on (ASend b) phys = λ x is. no_more past x.sessions (send_by b (a == b) refl x is)
      goes_on (AEnd b) phys = λ x is. no_more past x.sessions (end_by (a == b) x is)

  -- ---- all rows up to one

  -- how it stands before the last row, for allocatee a, which heard these frames
  pub record StandsBefore (a : ℕ) (w : Cluster) (heard : List Queued) (now : Timed) : Type 0 where
    pub past : List Reading
    pub inv : Inv a heard past w.allocatee
    pub row : RowIsPhysical limits all a past w now.at now.row

  module _ (laws : SessionLaws) (of_its_key : (key : Key) (b : Arrival) → is_of device.setting key b ≡ true → IsOfKey device.setting key b)
      (sane : limits.drift < 58000) (a : ℕ) (now : Timed) where
    pub along : (before : List Timed) (w : Cluster) (heard : List Queued) (past : List Reading) → Inv a heard past w.allocatee
        → DeviceRowsArePhysical limits all a past w (before ++ now ∷ [])
        → StandsBefore a (after_rows w (rows_in before)) (heard ++ device_heard_by a w (rows_in before)) now
    along [] w heard past inv phys = record {
      past = past;
      inv = λ x is. all_more heard [] past past (λ p i. i) x.sessions (inv x is);
      row = phys.0;
    }
    along (t ∷ ts) w heard past inv phys = subst (λ (l : List Queued). StandsBefore a (after_rows w (rows_in (t ∷ ts))) l now)
        (append_assoc heard (device_heard_in a w t.row) (device_heard_by a (after_row w t.row) (rows_in ts)))
        (along ts (after_row w t.row) (heard ++ device_heard_in a w t.row) (readings_after a past w t.at t.row)
        (goes_on laws of_its_key sane a w heard past t.at inv t.row phys.0) phys.1)
