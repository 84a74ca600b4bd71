-- What a row delivers of a member's transfer is one transfer that was made.
use Rattle.std.proofs.Common.{◌≡◌, ℕ, ◌≤◌, Bool, List, true, refl, sym, ap, subst, ◌∙◌, inl}
use Rattle.can_frame.specs.declared.identifier.Ident.{Ident}
use Rattle.can_frame.specs.declared.mark.Mark.{Mark}
use Rattle.can_frame.specs.Kinds.{is_service}
use Rattle.raft_model.specs.Runs as raft
use Rattle.bus_rows.specs.declared.row.Row.TheVariants.{Rx}
use Rattle.alloc_spec.specs.Accepted.{rows, setting_for}
use Rattle.alloc_spec.specs.Step.{at_moment, at_step}
use Rattle.alloc_spec.specs.AllocatorState.{AllocatorState}
use Rattle.alloc_spec.specs.Transfers.{SentTransfer}
use Rattle.transfer_rx.specs.Acceptance.{is_for}
use Rattle.transfer_rx.specs.Reassembly.{Arrival, Delivery}
use Rattle.transfer_rx.specs.Sound.{IsDelivered}
use Rattle.alloc_spec.specs.ClusterMembers.{AreMembers}
use Rattle.bus_spec.specs.Cluster.{Cluster, arrival_at, frame_at}
use Rattle.bus_spec.specs.Lawful.{DoesNoHarm, IsHarmlessAt}
use Rattle.bus_spec.specs.Members.{MemberStatus}
use Rattle.bus_agreement.specs.Frames.{WasMade}
use Rattle.bus_agreement.specs.Safe.{IsDeliveredTo, IsOneTransfer}
use Rattle.bus_agreement.specs.Shows.{Shows, ShowsMember, ShowsUp}
use Rattle.bus_agreement.specs.LawsBelow.{FrameLaws}
use Rattle.bus_agreement.proofs.DeliveredTransfers.{was_made}
use Rattle.bus_agreement.proofs.Deliveries.{MayCome, judged_harmless, judges_harmless}
use Rattle.bus_agreement.proofs.Idents.{one_what, service_is, wanted_is}
use Rattle.bus_agreement.proofs.OneRow.{IsReceived, is_harmless, is_received}

module _ (laws : FrameLaws) (choice : ℕ → Bool) (made : List SentTransfer) (w : Cluster) (run : raft.World) (members : AreMembers w.ids)
    (shows : Shows choice made w run) (n k ms : ℕ) (d : Delivery) (harmless : DoesNoHarm w (Rx n k ms)) (is : IsDeliveredTo w n k ms d) where
  abbrev t : AllocatorState
  t = is.server

  abbrev frame : Arrival
  frame = arrival_at (frame_at w.frames k) ms

  abbrev coming : Arrival
  coming = at_step (at_moment ms t) frame

  comes : IsReceived w n k ms
  comes = is_received w n k ms harmless

  there : ShowsUp made w.ids w.frames run n t (w.member n).disk
  there = subst (λ (status : MemberStatus). ShowsMember choice made w.ids w.frames run n status (w.member n).disk) is.runs (shows.lives n comes.listed)

  own : ShowsUp made w.ids w.frames run t.me t (w.member t.me).disk
  own = subst (λ (m : ℕ). ShowsUp made w.ids w.frames run m t (w.member m).disk) (sym there.runs.me) there

  some : 1 ≤ t.me
  some = subst (λ (m : ℕ). 1 ≤ m) (sym there.runs.me) (members.nodes n comes.listed).0

  its : IsDelivered (setting_for t.me) t.sessions coming d
  its = laws.delivered (setting_for t.me) t.sessions coming d is.gives

  may_come : MayCome t coming.moment d
  may_come = judged_harmless t frame.mark.step coming.moment _ d is.gives
      (judges_harmless t frame (is_harmless t frame (subst (λ (status : MemberStatus). IsHarmlessAt status frame) is.runs comes.harmless)))
      (ap (λ (m : Mark). m.step) its.mark)

  one : WasMade made d
  one = was_made laws w.ids (λ m i. (members.nodes m i).0) (λ m i. (members.nodes m i).1) made shows.holds.transfers (setting_for t.me) w.frames shows.bus
      t.sessions own.works.heard coming (record { frame = frame_at w.frames k; there = comes.there; id = refl; bytes = refl; mark = refl }) d is.gives
      may_come.untorn is.member (inl some)

  dest : is_service d.ident.kind ≡ true → d.ident.dest ≡ t.me
  dest service = service_is t.me some d.ident service
      (ap (λ (i : Ident). is_for t.me i) its.ident ∙ (wanted_is rows t.me coming.id its.w its.accepted).for_me)

  pub is_one_transfer : IsOneTransfer made run.bag n d
  is_one_transfer = record {
    whose = one.0;
    was_made = one.1;
    its = one.2;
    only = λ other i same. shows.holds.transfers.once other one.0 i one.1 (same.step ∙ sym one.2.step)
        (one_what other.offer.what one.0.offer.what d.ident.kind d.ident.number same.kind one.2.kind same.number one.2.number)
        (same.to ∙ sym one.2.to) (same.id ∙ sym one.2.id);
    for_it = λ service. one.2.to ∙ (dest service ∙ there.runs.me);
    said = λ message says. shows.holds.said.said one.0 message one.1 says;
  }
