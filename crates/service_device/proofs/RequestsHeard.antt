-- What a device hears in rows that do no harm has as many bytes of a unique ID as a member tells.
use Rattle.std.proofs.Common.{◌≡◌, ℕ, Bool, false, List, [], ◌∷◌, ◌++◌, length, refl, sym, ◌∙◌, ap, subst, inl, inr, Option, None, Some}
use Rattle.std.proofs.lemmas.Bool.Decides.{eqb_tells}
use Rattle.alloc_exchange.specs.Exchange.{IsEndOfStage}
use Rattle.allocatee.specs.Accepted as device
use Rattle.allocatee.specs.Allocatee.{Device, answer_to, at_step}
use Rattle.allocatee.specs.Judging.{arrival_judgement}
use Rattle.can_frame.specs.declared.identifier.Ident.{Ident}
use Rattle.can_frame.specs.declared.identifier.Kind.{Kind}
use Rattle.can_frame.specs.declared.identifier.Kind.TheVariants.{Anonymous, Message as Broadcast, Request, Response}
use Rattle.can_frame.specs.declared.mark.Mark.{Mark}
use Rattle.can_frame.specs.declared.step.Judged.TheVariants.{Fine}
use Rattle.can_frame.specs.declared.step.What.TheVariants.{Alloc}
use Rattle.can_frame.specs.Kinds.{is_anonymous}
use Rattle.dsdl_codec.specs.declared.allocation.Allocation.{Allocation}
use Rattle.dsdl_codec.specs.Allocation.{allocation_of}
use Rattle.raft_model.specs.Runs as raft
use Rattle.bus_rows.specs.declared.row.Row.{Row}
use Rattle.bus_rows.specs.declared.row.Row.TheVariants.{ARx}
use Rattle.transfer_rx.specs.Acceptance.{first_signature}
use Rattle.transfer_rx.specs.Reassembly.{Arrival, Delivery, Gives}
use Rattle.transfer_rx.specs.Sound.{IsDelivered}
use Rattle.alloc_spec.specs.Transfers.{SentTransfer}
use Rattle.bus_agreement.specs.Frames.{CameFrom, WasMade}
use Rattle.bus_agreement.specs.Shows.{Shows}
use Rattle.bus_agreement.proofs.DeliveredTransfers.{was_made}
use Rattle.bus_agreement.proofs.Idents.{IsWanted, one_what, wanted_is}
use Rattle.bus_agreement.proofs.OneRow.{is_fine, stands}
use Rattle.bus_agreement.proofs.OneRowMore.{grown, harmless as one_more_harmless}
use Rattle.bus_agreement.proofs.RowsWithoutEvents.{past_first}
use Rattle.bus_agreement.proofs.WholeTransfers.{forged_allocation}
use Rattle.bus_rows.specs.Timed.{Timed, rows_in}
use Rattle.service_device.proofs.AllocationsMade.{AllMadeSized, all_made_sized}
use Rattle.service_device.proofs.RequestsRows.{AllHearParts, HearsParts, HoldsAt, IsTelling, telling_on}
use Rattle.service_device.specs.ServiceBelow.{ServiceGrounds}
use Rattle.service_leader.proofs.TermsHeard.{IsOfRun}
use Rattle.service_leader.proofs.TermsRun.{of_run}
use Rattle.alloc_spec.specs.ClusterMembers.{AreMembers}
use Rattle.bus_spec.specs.Cluster.{Cluster, after_row, after_rows, arrival_at, cluster, frame_at, world_of}
use Rattle.bus_spec.specs.Lawful.{DoNoHarm, DoesNoHarm, absent, arrival_refusal_at, cause, no_allocatee, no_such_frame, or_else}

-- of what has a source a device hears Allocations alone
only_allocations : (kind : Kind) (number s : ℕ) → first_signature device.rows kind number ≡ Some s → is_anonymous kind ≡ false → (kind ≡ Broadcast) × (number ≡ 1)
unfolding device.rows
only_allocations Broadcast number s e known = (refl, elim (eqb_tells 1 number) [ inl same ↦ sym same.1 | inr apart ↦ absurd (cc (rw apart.0 at e)) ])
only_allocations Anonymous number s e known = absurd (cc (known))
only_allocations Request number s e known = absurd (cc (e))
only_allocations Response number s e known = absurd (cc (e))

module _ (below : ServiceGrounds) where
  -- ---- one row

  module _ (choice : ℕ → Bool) (made : List SentTransfer) (w : Cluster) (run : raft.World) (members : AreMembers w.ids) (shows : Shows choice made w run)
      (sized : AllMadeSized made) (a : ℕ) where
    module _ (k ms word : ℕ) (lawful : cause w (ARx a k ms word) ≡ None) (x : Device) (there : w.allocatee a ≡ Some x) (d : Delivery)
        (gives : answer_to x (arrival_at (frame_at w.frames k) ms) ≡ Gives d) (known : is_anonymous d.ident.kind ≡ false) where
      abbrev arrival : Arrival
      arrival = arrival_at (frame_at w.frames k) ms

      abbrev coming : Arrival
      coming = at_step x (arrival_at (frame_at w.frames k) ms)

      second : (no_such_frame w k ≡ None) × (arrival_refusal_at (w.allocatee a) (arrival_at (frame_at w.frames k) ms) ≡ None)
      second =
          let one = past_first (no_allocatee a) (or_else (absent w a) (or_else (no_such_frame w k) (arrival_refusal_at (w.allocatee a) (arrival_at (frame_at w.frames k) ms)))) lawful in
          let two = past_first (absent w a) (or_else (no_such_frame w k) (arrival_refusal_at (w.allocatee a) (arrival_at (frame_at w.frames k) ms))) one.1 in
          past_first (no_such_frame w k) (arrival_refusal_at (w.allocatee a) (arrival_at (frame_at w.frames k) ms)) two.1

      fine : arrival_judgement x (arrival_at (frame_at w.frames k) ms) ≡ Fine
      fine = is_fine (arrival_judgement x (arrival_at (frame_at w.frames k) ms))
          (subst (λ (o : Option Device). arrival_refusal_at o (arrival_at (frame_at w.frames k) ms) ≡ None) there second.1)

      its : IsDelivered device.setting x.sessions (at_step x (arrival_at (frame_at w.frames k) ms)) d
      its = below.calm.frame.delivered device.setting x.sessions (at_step x (arrival_at (frame_at w.frames k) ms)) d gives

      wants : IsWanted device.rows 0 (at_step x (arrival_at (frame_at w.frames k) ms)).id its.w.ident
      wants = wanted_is device.rows 0 (at_step x (arrival_at (frame_at w.frames k) ms)).id its.w its.accepted

      broadcast : (d.ident.kind ≡ Broadcast) × (d.ident.number ≡ 1)
      broadcast = only_allocations d.ident.kind d.ident.number wants.signature.0
          (subst (λ (i : Ident). first_signature device.rows i.kind i.number ≡ Some wants.signature.0) (sym its.ident) wants.signature.1) known

      came : CameFrom w.frames (at_step x (arrival_at (frame_at w.frames k) ms))
      came = record { frame = frame_at w.frames k; there = stands w k second.0; id = refl; bytes = refl; mark = refl }

      whose : WasMade made d
      whose = was_made below.calm.frame w.ids (λ n i. (members.nodes n i).0) (λ n i. (members.nodes n i).1) made shows.holds.transfers device.setting w.frames shows.bus x.sessions
          (shows.asking a x there).heard (at_step x (arrival_at (frame_at w.frames k) ms)) came d gives
          (λ torn. ap (λ (m : Mark). m.step) its.mark ∙ below.untorn x (arrival_at (frame_at w.frames k) ms) d fine gives torn)
          (forged_allocation w.ids d.ident broadcast.0 broadcast.1) (inr broadcast.0)

      parts : (message : Allocation) → allocation_of d.payload ≡ Some message → IsEndOfStage (length message.uid.items)
      parts message says = sized whose.0 message whose.1 (one_what whose.0.offer.what Alloc Broadcast 1 (whose.2.kind ∙ broadcast.0) refl (whose.2.number ∙ broadcast.1) refl)
          (ap allocation_of whose.2.payload ∙ says)

    lawful_at : (k ms word : ℕ) → DoesNoHarm w (ARx a k ms word) → cause w (ARx a k ms word) ≡ None
    lawful_at k ms word (inl e) = e
    lawful_at k ms word (inr (stale, void)) = absurd (cc (void))

    hears_parts : (row : Row) → DoesNoHarm w row → HearsParts a w row
    hears_parts row harmless k ms word x d message is there gives known says =
        parts k ms word (lawful_at k ms word (subst (DoesNoHarm w) is harmless)) x there d gives known message says

  -- ---- all rows

  module _ (ids : List ℕ) (members : AreMembers ids) (a : ℕ) where
    pub all_hear : (whole : List Timed) (done : List Row) (w : Cluster) → w ≡ world_of ids done → DoNoHarm (cluster ids) done → DoNoHarm w (rows_in whole) → AllHearParts a w whole
    all_hear [] done w is before harmless = tt
    all_hear (timed ∷ rest) done w is before harmless = (
      subst (λ (v : Cluster). HearsParts a v timed.row) (sym is)
          (hears_parts run.choice run.made (world_of ids done) run.run (subst AreMembers (sym (below.calm.same (cluster ids) done)) members) run.shows
          (all_made_sized below ids members done before) a timed.row here),
      all_hear rest (done ++ timed.row ∷ []) (after_row w timed.row) (ap (λ (v : Cluster). after_row v timed.row) is ∙ sym (grown (cluster ids) done timed.row))
          (one_more_harmless (cluster ids) done timed.row before here) harmless.1,
    )
      where
        run : IsOfRun (world_of ids done)
        run = of_run below.calm ids members done before

        here : DoesNoHarm (world_of ids done) timed.row
        here = subst (λ (v : Cluster). DoesNoHarm v timed.row) is harmless.0

    -- ---- rows without moments

    -- the rows, all at one moment
    abbrev at_once : List Row → List Timed
    at_once [] = []
    at_once (row ∷ rows) = record { at = 0; row = row } ∷ at_once rows

    same_rows : (rows : List Row) → rows_in (at_once rows) ≡ rows
    same_rows [] = refl
    same_rows (row ∷ rows) = ap (λ (l : List Row). row ∷ l) (same_rows rows)

    -- so a device tells parts of its unique ID behind all rows that do no harm
    pub all_tell : (rows : List Row) → DoNoHarm (cluster ids) rows → HoldsAt IsTelling a (world_of ids rows).allocatee
    all_tell rows harmless = subst (λ (l : List Row). HoldsAt IsTelling a (after_rows (cluster ids) l).allocatee) (same_rows rows)
        (telling_on below.requests a (at_once rows) (cluster ids)
        (all_hear (at_once rows) [] (cluster ids) refl tt (subst (DoNoHarm (cluster ids)) (sym (same_rows rows)) harmless)) (λ d e. absurd (cc (e))))
