-- Each Allocation that a member has made by some rows has 6, 12 or 16 bytes of a unique ID.
use Rattle.std.proofs.Common.{◌≡◌, ℕ, ◌+◌, true, List, [], ◌∷◌, ◌++◌, refl, sym, ◌∙◌, ap, subst, inl, inr, length, Some}
use Rattle.std.proofs.lemmas.List.{append-nil, append_assoc}
use Rattle.alloc_exchange.specs.Exchange.{IsEndOfStage}
use Rattle.can_frame.specs.declared.entry.Entry.{Entry}
use Rattle.can_frame.specs.declared.step.What.TheVariants.{Alloc}
use Rattle.dsdl_codec.specs.declared.allocation.Allocation.{Allocation}
use Rattle.dsdl_codec.specs.Allocation.{allocation_of}
use Rattle.dsdl_codec.specs.Entry.{IsEntry}
use Rattle.raft_log.specs.KeyDisk.{are_put}
use Rattle.raft_model.specs.Lists.{In, at_here}
use Rattle.raft_model.specs.Server.{RaftServer}
use Rattle.bus_rows.specs.declared.row.Row.{Row}
use Rattle.bus_rows.specs.declared.row.Row.TheVariants.{AEnd, AOpen, ARx, ASend, ATick, Crash, Ext, Fault, Open, Rx, Send, Tick}
use Rattle.alloc_spec.specs.AllocatorState.{AllocatorState}
use Rattle.alloc_spec.specs.Step.{Event, step}
use Rattle.alloc_spec.specs.StepState.{StepState}
use Rattle.alloc_spec.specs.Transfers.{SentTransfer}
use Rattle.alloc_spec_laws.proofs.Choices.{either}
use Rattle.bus_agreement.proofs.Concatenations.{first_harmless, row_harmless}
use Rattle.bus_agreement.proofs.MadeTransfers.{made_when}
use Rattle.bus_agreement.proofs.OneRow.{is_received}
use Rattle.bus_agreement.proofs.OneRowMore.{grown, made_more}
use Rattle.bus_agreement.proofs.RowsWithoutEvents.{is_one, past_first}
use Rattle.service_device.proofs.AllocationsSized.{step_sized}
use Rattle.service_device.specs.ServiceBelow.{ServiceGrounds}
use Rattle.service_calm.proofs.Grounds.{shown}
use Rattle.service_leader.proofs.TermsRun.{of_run}
use Rattle.service_device.proofs.SettlesRows.{its_server}
use Rattle.alloc_spec.specs.ClusterMembers.{AreMembers}
use Rattle.bus_spec.specs.Cluster.{Cluster, after_row, cluster, receipt_of, tick_of, world_of}
use Rattle.bus_spec.specs.Lawful.{DoNoHarm, DoesNoHarm, no_node, not_running}
use Rattle.bus_spec.specs.Members.{Member, MemberStatus, member_after_step, puts_of}
use Rattle.bus_spec.specs.Members.MemberStatus.{Down, Failed, Up}
use Rattle.bus_spec.specs.Refinement.{transfers_of_offers, transfers_of_row, transfers_of_rows, transfers_of_step}

-- each Allocation among these has so many bytes
abbrev pub AllMadeSized : List SentTransfer → Type 0
AllMadeSized made = (x : SentTransfer) (message : Allocation) → In x made → x.offer.what ≡ Alloc → allocation_of x.offer.payload ≡ Some message
    → IsEndOfStage (length message.uid.items)

-- each entry of the log has bytes
abbrev LogFits : AllocatorState → Type 0
LogFits t = (e : Entry) → In e t.raft_server.store.log → IsEntry e

-- ---- who takes steps is a member

ticks_in : (w : Cluster) (n ms word : ℕ) → DoesNoHarm w (Tick n ms word) → In n w.ids
ticks_in w n ms word (inl e) = is_one w n (past_first (no_node w n) (not_running w n) e).0
ticks_in w n ms word (inr (stale, void)) = absurd (cc (void))

module _ (below : ServiceGrounds) where
  -- ---- one row

  module _ (w : Cluster) (row : Row) (harmless : DoesNoHarm w row) (made : List SentTransfer) (sized : AllMadeSized made)
      (before : (n : ℕ) → In n w.ids → (t : AllocatorState) → (w.member n).status ≡ Up t → LogFits t)
      (behind : (n : ℕ) → In n w.ids → (t : AllocatorState) → ((after_row w row).member n).status ≡ Up t → LogFits t) where
    module _ (n : ℕ) (listed : In n w.ids) (event : Event)
        (same : (after_row w row).member n ≡ member_after_step (w.rows + 1) event (w.member n).status (w.member n)) where
      by : (status : MemberStatus) → (w.member n).status ≡ status → AllMadeSized (transfers_of_step (w.rows + 1) n event status (w.member n) made)
      by Down e = sized
      by (Failed failure) e = sized
      by (Up t) e = either AllMadeSized (are_put (puts_of (w.member n) g) (w.member n).disk.calls) (transfers_of_offers (w.rows + 1) n g.offers made) made put (λ none. sized)
        where
          g : StepState
          g = (step t (w.rows + 1) event).step_state

          status_then : are_put (puts_of (w.member n) (step t (w.rows + 1) event).step_state) (w.member n).disk.calls ≡ true
              → ((after_row w row).member n).status ≡ Up (step t (w.rows + 1) event).step_state.allocator
          status_then put_all = ap (λ (x : Member). x.status) same
              ∙ (ap (λ (s : MemberStatus). (member_after_step (w.rows + 1) event s (w.member n)).status) e ∙ rw (put_all) refl)

          put : are_put (puts_of (w.member n) (step t (w.rows + 1) event).step_state) (w.member n).disk.calls ≡ true
              → AllMadeSized (transfers_of_offers (w.rows + 1) n (step t (w.rows + 1) event).step_state.offers made)
          put put_all x message i what says = elim (made_when (w.rows + 1) n (step t (w.rows + 1) event).step_state.offers made x i) [
            | inl old ↦ sized x message old what says
            | inr new ↦ step_sized below.read (w.rows + 1) t (before n listed t e) event (behind n listed (step t (w.rows + 1) event).step_state.allocator (status_then put_all))
                new.offer new.offered (ap (λ (y : SentTransfer). y.offer.what) (sym new.is) ∙ what) message
                (ap (λ (y : SentTransfer). allocation_of y.offer.payload) (sym new.is) ∙ says)
          ]

      of_step : AllMadeSized (transfers_of_step (w.rows + 1) n event (w.member n).status (w.member n) made)
      of_step = by (w.member n).status refl

  one_more : (w : Cluster) (row : Row) → DoesNoHarm w row → (made : List SentTransfer) → AllMadeSized made
      → ((n : ℕ) → In n w.ids → (t : AllocatorState) → (w.member n).status ≡ Up t → LogFits t)
      → ((n : ℕ) → In n w.ids → (t : AllocatorState) → ((after_row w row).member n).status ≡ Up t → LogFits t)
      → AllMadeSized (transfers_of_row w row made)
  one_more w (Tick n ms word) harmless made sized before behind = of_step w (Tick n ms word) harmless made sized before behind n (ticks_in w n ms word harmless) (tick_of ms word)
      (at_here w.member n n (member_after_step (w.rows + 1) (tick_of ms word) (w.member n).status (w.member n)) refl)
  one_more w (Rx n k ms) harmless made sized before behind = of_step w (Rx n k ms) harmless made sized before behind n (is_received w n k ms harmless).listed (receipt_of w k ms)
      (at_here w.member n n (member_after_step (w.rows + 1) (receipt_of w k ms) (w.member n).status (w.member n)) refl)
  one_more w (Open n told ms word) harmless made sized before behind = sized
  one_more w (Send n) harmless made sized before behind = sized
  one_more w (Ext frame) harmless made sized before behind = sized
  one_more w (Crash n calls pattern) harmless made sized before behind = sized
  one_more w (Fault n call) harmless made sized before behind = sized
  one_more w (AOpen a uid pref ms word) harmless made sized before behind = sized
  one_more w (ATick a ms word) harmless made sized before behind = sized
  one_more w (ARx a k ms word) harmless made sized before behind = sized
  one_more w (ASend a) harmless made sized before behind = sized
  one_more w (AEnd a) harmless made sized before behind = sized

  -- ---- all rows

  module _ (ids : List ℕ) (members : AreMembers ids) where
    -- the entries of a member's log
    fits_at : (rows : List Row) → DoNoHarm (cluster ids) rows → (n : ℕ) → In n (world_of ids rows).ids → (t : AllocatorState) → ((world_of ids rows).member n).status ≡ Up t → LogFits t
    fits_at rows harmless n listed t e entry i =
        let up = its_server (world_of ids rows) (of_run below.calm ids members rows harmless) n t listed e in
        (((shown below.calm ids members rows harmless).writable.stores n).entries entry (subst (λ (s : RaftServer). In entry s.store.log) (sym up.runs.raft_server) i)).fits

    sized_on : (rest earlier : List Row) → DoNoHarm (cluster ids) (earlier ++ rest) → AllMadeSized (transfers_of_rows (cluster ids) earlier [])
        → AllMadeSized (transfers_of_rows (cluster ids) (earlier ++ rest) [])
    sized_on [] earlier harmless sized = subst (λ (l : List Row). AllMadeSized (transfers_of_rows (cluster ids) l [])) (sym (append-nil earlier)) sized
    sized_on (row ∷ rest) earlier harmless sized =
        let cut : earlier ++ row ∷ [] ++ rest ≡ earlier ++ (row ∷ rest) = append_assoc earlier (row ∷ []) rest in
        let all : DoNoHarm (cluster ids) (earlier ++ row ∷ [] ++ rest) = subst (DoNoHarm (cluster ids)) (sym cut) harmless in
        let first : DoNoHarm (cluster ids) (earlier ++ row ∷ []) = first_harmless (cluster ids) (earlier ++ row ∷ []) rest all in
        let w : Cluster = world_of ids earlier in
        let one : AllMadeSized (transfers_of_row (world_of ids earlier) row (transfers_of_rows (cluster ids) earlier []))
        = one_more (world_of ids earlier) row (row_harmless (cluster ids) earlier rest row harmless) (transfers_of_rows (cluster ids) earlier []) sized
        (fits_at earlier (first_harmless (cluster ids) earlier (row ∷ rest) harmless))
        (λ n i t e. fits_at (earlier ++ row ∷ []) first n
        (subst (λ (l : List ℕ). In n l) (below.calm.same (cluster ids) earlier ∙ sym (below.calm.same (cluster ids) (earlier ++ row ∷ []))) i) t
        (ap (λ (v : Cluster). (v.member n).status) (grown (cluster ids) earlier row) ∙ e)) in
        subst (λ (l : List Row). AllMadeSized (transfers_of_rows (cluster ids) l [])) cut
        (sized_on rest (earlier ++ row ∷ []) all (subst AllMadeSized (sym (made_more (cluster ids) earlier row [])) one))

    -- so it is of all that was made
    pub all_made_sized : (rows : List Row) → DoNoHarm (cluster ids) rows → AllMadeSized (transfers_of_rows (cluster ids) rows [])
    all_made_sized rows harmless = sized_on rows [] harmless (λ x message i. absurd i)
