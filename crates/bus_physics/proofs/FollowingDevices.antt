-- Along rows in which frames come in order, no session of an allocatee keeps what was made before a first frame that it heard.
use Rattle.std.proofs.Common.{◌≡◌, ℕ, ◌+◌, Bool, true, false, List, [], ◌∷◌, ◌++◌, refl, sym, ap, subst, ◌∙◌, inl, inr, Option, Some, None, append_assoc, append-nil}
use Rattle.std.specs.Prelude.{◌==◌, max, if◌then◌else◌}
use Rattle.std.proofs.lemmas.Bool.Decides.{eqb_tells}
use Rattle.raft_model.specs.Lists.{In}
use Rattle.bus_rows.specs.declared.row.Row.{Row}
use Rattle.bus_rows.specs.declared.row.Row.TheVariants.{AEnd, AOpen, ARx, ASend, ATick, Crash, Ext, Fault, Open, Rx, Send, Tick}
use Rattle.transfer_rx.specs.Sessions.{Session}
use Rattle.transfer_tx.specs.Queue.{Queued}
use Rattle.allocatee.specs.Accepted as device
use Rattle.allocatee.specs.Allocatee.{Device, opening, step}
use Rattle.allocatee.specs.Allocatee.Event.{Tick as Ticks}
use Rattle.bus_spec.specs.Allocatees.{after_sending_from, device_after_step}
use Rattle.bus_spec.specs.Cluster.{Cluster, after_row, after_rows, arrival_at, frame_at, receipt_at}
use Rattle.bus_rows.specs.Timed.{Timed}
use Rattle.bus_physics.specs.Physics.{ComeInOrderToDevice, ComesInOrderToDevice, IsInOrderToDevice, IsRecent, Limits, WhereIts, device_heard_by, device_heard_in}
use Rattle.bus_physics.proofs.Devices.{SessionLaws}
use Rattle.bus_physics.proofs.Restarts.{NoneLater, restarted}

some_is : (x y : Device) → Some x ≡ Some y → x ≡ y
some_is x y e = cc (e)

module _ (limits : Limits) (rows_at : List Timed) (a : ℕ) where
  abbrev pub KeptBy : List Queued → Device → Type 0
  KeptBy heard x = (s : Session) → In s x.sessions → NoneLater device.setting (IsRecent limits rows_at) heard s

  abbrev pub KeptIn : List Queued → Option Device → Type 0
  KeptIn heard o = (x : Device) → o ≡ Some x → KeptBy heard x

  module _ (laws : SessionLaws) (w : Cluster) (heard : List Queued) (inv : KeptIn heard (w.allocatee a)) where
    is_same : (b : ℕ) → (a == b) ≡ true → a ≡ b
    is_same b e = elim (eqb_tells a b) [ inl s ↦ s.1 | inr apart ↦ absurd (cc (sym apart.0 ∙ e)) ]

    no_more : (o : Option Device) → KeptIn heard o → KeptIn (heard ++ []) o
    no_more o keeps = subst (λ (l : List Queued). KeptIn l o) (sym (append-nil heard)) keeps

    rx_by : (b k ms word : ℕ) (same : Bool) → (a == b) ≡ same → WhereIts same (ComesInOrderToDevice limits rows_at heard (frame_at w.frames k))
        → KeptIn (heard ++ (if same then frame_at w.frames k ∷ [] else []))
        (if same then device_after_step (w.rows + 1) (receipt_at w k ms word) (w.allocatee b) else w.allocatee a)
    rx_by b k ms word false e order = no_more (w.allocatee a) inv
    rx_by b k ms word true e order = by (w.allocatee b) refl where
      by : (o : Option Device) → w.allocatee b ≡ o → KeptIn (heard ++ frame_at w.frames k ∷ []) (device_after_step (w.rows + 1) (receipt_at w k ms word) o)
      by None there x is = absurd (cc (is))
      by (Some d) there x is = subst (KeptBy (heard ++ frame_at w.frames k ∷ [])) (some_is (step d (w.rows + 1) (receipt_at w k ms word)).device x is)
          (subst (λ (l : List Session). (s : Session) → In s l → NoneLater device.setting (IsRecent limits rows_at) (heard ++ frame_at w.frames k ∷ []) s)
          (sym (laws.frame d (w.rows + 1) word (arrival_at (frame_at w.frames k) ms)))
          (restarted device.setting (IsRecent limits rows_at) heard (frame_at w.frames k) (max d.asking.moment ms) order d.sessions
          (inv d (ap w.allocatee (is_same b e) ∙ there))))

    tick_by : (b ms word : ℕ) (same : Bool) → (a == b) ≡ same
        → KeptIn heard (if same then device_after_step (w.rows + 1) (Ticks ms word) (w.allocatee b) else w.allocatee a)
    tick_by b ms word false e = inv
    tick_by b ms word true e = by (w.allocatee b) refl where
      by : (o : Option Device) → w.allocatee b ≡ o → KeptIn heard (device_after_step (w.rows + 1) (Ticks ms word) o)
      by None there x is = absurd (cc (is))
      by (Some d) there x is = subst (KeptBy heard) (some_is (step d (w.rows + 1) (Ticks ms word)).device x is)
          (subst (λ (l : List Session). (s : Session) → In s l → NoneLater device.setting (IsRecent limits rows_at) heard s) (sym (laws.tick d (w.rows + 1) ms word))
          (inv d (ap w.allocatee (is_same b e) ∙ there)))

    open_by : (b : ℕ) (uid : List ℕ) (pref ms word : ℕ) (same : Bool) → KeptIn heard (if same then Some (opening uid pref ms word) else w.allocatee a)
    open_by b uid pref ms word false x is = inv x is
    open_by b uid pref ms word true x is = λ s i. absurd (subst (λ (y : Device). In s y.sessions) (sym (some_is (opening uid pref ms word) x is)) i)

    end_by : (same : Bool) → KeptIn heard (if same then None else w.allocatee a)
    end_by false x is = inv x is
    end_by true x is = absurd (cc (is))

    send_by : (b : ℕ) (same : Bool) → (a == b) ≡ same → KeptIn heard (if same then after_sending_from (w.allocatee b) else w.allocatee a)
    send_by b false e = inv
    send_by b true e = by (w.allocatee b) refl where
      by : (o : Option Device) → w.allocatee b ≡ o → KeptIn heard (after_sending_from o)
      by None there x is = absurd (cc (is))
      by (Some d) there x is = subst (KeptBy heard) (sent_is d x is) (inv d (ap w.allocatee (is_same b e) ∙ there)) where
        sent_is : (d x : Device) → after_sending_from (Some d) ≡ Some x → record d { asking = x.asking } ≡ x
        sent_is d x e = cc (e)

    pub follows_row : (row : Row) → IsInOrderToDevice limits rows_at a heard w row → KeptIn (heard ++ device_heard_in a w row) ((after_row w row).allocatee a)
    follows_row (Open n told ms word) order = no_more (w.allocatee a) inv
    follows_row (Tick n ms word) order = no_more (w.allocatee a) inv
    follows_row (Rx n k ms) order = no_more (w.allocatee a) inv
    follows_row (Send n) order = no_more (w.allocatee a) inv
    follows_row (Ext frame) order = no_more (w.allocatee a) inv
    follows_row (Crash n calls pattern) order = no_more (w.allocatee a) inv
    follows_row (Fault n call) order = no_more (w.allocatee a) inv
    follows_row (AOpen b uid pref ms word) order = no_more ((after_row w (AOpen b uid pref ms word)).allocatee a) (open_by b uid pref ms word (a == b))
    follows_row (ATick b ms word) order = no_more ((after_row w (ATick b ms word)).allocatee a) (tick_by b ms word (a == b) refl)
    follows_row (ARx b k ms word) order = rx_by b k ms word (a == b) refl order
    follows_row (ASend b) order = no_more ((after_row w (ASend b)).allocatee a) (send_by b (a == b) refl)
    follows_row (AEnd b) order = no_more ((after_row w (AEnd b)).allocatee a) (end_by (a == b))

  pub follow_device : (laws : SessionLaws) (rows : List Row) (w : Cluster) (heard : List Queued) → KeptIn heard (w.allocatee a) → ComeInOrderToDevice limits rows_at a heard w rows
      → KeptIn (heard ++ device_heard_by a w rows) ((after_rows w rows).allocatee a)
  follow_device laws [] w heard inv order = no_more laws w heard inv (w.allocatee a) inv
  follow_device laws (row ∷ rows) w heard inv order = subst (λ (l : List Queued). KeptIn l ((after_rows (after_row w row) rows).allocatee a))
      (append_assoc heard (device_heard_in a w row) (device_heard_by a (after_row w row) rows))
      (follow_device laws rows (after_row w row) (heard ++ device_heard_in a w row) (follows_row laws w heard inv row order.0) order.1)
