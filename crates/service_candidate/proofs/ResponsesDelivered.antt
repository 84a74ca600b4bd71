-- A response of a member that a row delivers, which does no harm, is a transfer that the member made, whole.
use Rattle.std.proofs.Common.{◌≡◌, ℕ, ◌+◌, ◌<◌, ◌≤◌, arith, Bool, true, List, [], ◌∷◌, ◌++◌, length, length-append, refl, sym, ◌∙◌, ap, subst, inl, inr, Some}
use Rattle.std.specs.Prelude.{◌⊎◌, ◌-◌, max, slice_index_or}
use Rattle.std.proofs.lemmas.List.{length-map}
use Rattle.can_frame.specs.declared.identifier.Ident.{Ident}
use Rattle.can_frame.specs.declared.identifier.Kind.TheVariants.{Response}
use Rattle.can_frame.specs.declared.mark.Mark.{Mark}
use Rattle.can_frame.specs.Cutting.{frame_count}
use Rattle.can_frame.specs.Kinds.{is_anonymous}
use Rattle.raft_model.specs.Lists.{In}
use Rattle.raft_model.specs.Runs as raft
use Rattle.bus_rows.specs.declared.row.Row.TheVariants.{Rx}
use Rattle.transfer_rx.specs.declared.key.Key.{Key}
use Rattle.transfer_rx.specs.Keys.{key_of}
use Rattle.transfer_rx.specs.Reassembly.{Arrival, Delivery, Gives, answer, piece_in}
use Rattle.transfer_rx.specs.Sessions.{recent_sessions}
use Rattle.transfer_rx.specs.Sound.{Completes, IsAlone, IsDelivered}
use Rattle.alloc_spec.specs.Accepted.{rows, setting_for}
use Rattle.alloc_spec.specs.AllocatorState.{AllocatorState}
use Rattle.alloc_spec.specs.Transfers.{SentTransfer, ident_of}
use Rattle.alloc_spec_laws.proofs.Choices.{tell}
use Rattle.bus_agreement.specs.Frames.{AreHeard}
use Rattle.bus_agreement.specs.LawsBelow.{FrameLaws}
use Rattle.bus_agreement.specs.Safe.{IsDeliveredTo, IsOneTransfer}
use Rattle.bus_agreement.specs.Shows.{Shows, ShowsMember, ShowsUp}
use Rattle.bus_agreement.proofs.DeliveredTransfers.{HasTaken, has_taken}
use Rattle.bus_agreement.proofs.Deliveries.{MayCome, judged_harmless, judges_harmless}
use Rattle.bus_agreement.proofs.Idents.{IsWanted, wanted_is}
use Rattle.bus_agreement.proofs.OneRow.{IsReceived, is_harmless, is_received}
use Rattle.bus_agreement.proofs.Pieces.{whole_at}
use Rattle.bus_agreement.proofs.WholeTransfers.{IsFrom, from_bus, members_own, some_is}
use Rattle.service_calm.specs.Comes.{delivery_of}
use Rattle.alloc_spec.specs.ClusterMembers.{AreMembers}
use Rattle.bus_spec.specs.Cluster.{Cluster, arrival_at, frame_at}
use Rattle.bus_spec.specs.Lawful.{DoesNoHarm, IsHarmlessAt, is_forged}
use Rattle.bus_spec.specs.Members.{MemberStatus}
use Rattle.bus_spec.specs.Members.MemberStatus.{Up}

-- behind a list stands the last one
last_at : {A : Type 0} (front : List A) (last d : A) → slice_index_or (front ++ last ∷ []) (length front) d ≡ last
last_at [] last d = refl
last_at (x ∷ front) last d = last_at front last d

-- what is delivered is this transfer, whole
pub record IsWhole (d : Delivery) : Type 0 where
  pub transfer : SentTransfer
  pub is : delivery_of transfer ≡ d

module _ (laws : FrameLaws) (choice : ℕ → Bool) (made : List SentTransfer) (w : Cluster) (run : raft.World) (members : AreMembers w.ids)
    (shows : Shows choice made w run)
    (one_transfer : (n k ms : ℕ) (d : Delivery) → DoesNoHarm w (Rx n k ms) → IsDeliveredTo w n k ms d → IsOneTransfer made run.bag n d)
    (n k ms : ℕ) (t : AllocatorState) (up : (w.member n).status ≡ Up t) (harmless : DoesNoHarm w (Rx n k ms)) (d : Delivery)
    (gives : answer (setting_for t.me) t.sessions (arrival_at (frame_at w.frames k) (max t.now ms)) ≡ Gives d)
    (response : d.ident.kind ≡ Response) (from : In d.ident.source w.ids) where
  abbrev frame : Arrival
  frame = arrival_at (frame_at w.frames k) ms

  abbrev coming : Arrival
  coming = arrival_at (frame_at w.frames k) (max t.now ms)

  comes : IsReceived w n k ms
  comes = is_received w n k ms harmless

  there : ShowsUp made w.ids w.frames run n t (w.member n).disk
  there = subst (λ (status : MemberStatus). ShowsMember choice made w.ids w.frames run n status (w.member n).disk) up (shows.lives n comes.listed)

  forged : is_forged w.ids (Some d.ident) ≡ true
  forged = members_own w.ids d.ident from (ap is_anonymous response)

  -- it is one transfer that was made
  one : IsOneTransfer made run.bag n d
  one = one_transfer n k ms d harmless (record { server = t; runs = up; gives = gives; member = forged })

  abbrev x : SentTransfer
  x = one.whose

  -- and what the receiver delivered
  its : IsDelivered (setting_for t.me) t.sessions coming d
  its = laws.delivered (setting_for t.me) t.sessions coming d gives

  -- ---- its identifier

  wants : IsWanted rows t.me coming.id its.w.ident
  wants = wanted_is rows t.me coming.id its.w its.accepted

  key : Key
  key = key_of its.w.ident

  -- its last frame is a piece of a transfer that the source made
  own : IsFrom made t.me (key_of its.w.ident) coming
  own = from_bus laws w.ids (λ m i. (members.nodes m i).0) (λ m i. (members.nodes m i).1) made shows.holds.transfers rows t.me w.frames shows.bus coming
      (record { frame = frame_at w.frames k; there = comes.there; id = refl; bytes = refl; mark = refl }) its.w.ident wants
      (subst (λ (i : Ident). is_forged w.ids (Some i) ≡ true) its.ident forged) (key_of its.w.ident)
      (inl (subst (λ (m : ℕ). 1 ≤ m) (sym there.runs.me) (members.nodes n comes.listed).0)) refl refl refl

  -- so its identifier is one of a member
  whole_ident : d.ident ≡ ident_of own.whose.by own.whose.offer.what own.whose.offer.to
  whole_ident = its.ident ∙ some_is its.w.ident (ident_of own.whose.by own.whose.offer.what own.whose.offer.to) (sym wants.read ∙ own.ident)

  -- that of the transfer
  ident_is : ident_of x.by x.offer.what x.offer.to ≡ d.ident
  ident_is = λ i. record {
    priority = ap (λ (e : Ident). e.priority) (sym whole_ident) i;
    kind = one.its.kind i;
    number = one.its.number i;
    source = one.its.by i;
    dest = one.its.to i;
    discriminator = ap (λ (e : Ident). e.discriminator) (sym whole_ident) i;
  }

  -- ---- it is whole

  may_come : MayCome t coming.moment d
  may_come = judged_harmless t frame.mark.step coming.moment _ d gives
      (judges_harmless t frame (is_harmless t frame (subst (λ (status : MemberStatus). IsHarmlessAt status frame) up comes.harmless)))
      (ap (λ (m : Mark). m.step) its.mark)

  whole : d.whole ≡ true
  whole = elim (tell d.whole) [
    | inl e ↦ e
    | inr e ↦ absurd (omega (arith, may_come.untorn e, shows.holds.transfers.numbered x one.was_made, one.its.step))
  ]

  -- ---- its last frame is the one that came

  -- a frame that completes a session comes behind as many as the session has
  placed : Completes (setting_for t.me) t.sessions its.w coming d → d.mark.place + 1 ≡ frame_count (length d.payload)
  placed c = omega (
    arith,
    ap (λ (m : Mark). m.place) its.mark,
    ap (λ (m : Mark). m.place) (last_at c.session.marks coming.mark coming.mark),
    at_last.1,
    same,
    counted,
    length-append c.session.taken (piece_in coming ∷ []),
  )
    where
      heard : AreHeard w.frames (setting_for t.me) t.sessions
      heard = subst (λ (m : ℕ). AreHeard w.frames (setting_for m) t.sessions) (sym there.runs.me) there.works.heard

      taken : HasTaken w.frames (setting_for t.me) (key_of its.w.ident) c.session
      taken = has_taken w.frames (setting_for t.me) t.sessions heard coming.moment (key_of its.w.ident) c.session
          (laws.comes (setting_for t.me).sessions coming.moment (key_of its.w.ident) (piece_in coming).tail (recent_sessions coming.moment t.sessions) c.session c.there)

      same : length c.session.marks ≡ length c.session.taken
      same = omega (arith, ap length taken.marks, ap length taken.taken, length-map taken.arrivals (λ (a : Arrival). a.mark), length-map taken.arrivals piece_in)

      inside : length c.session.marks < length (c.session.marks ++ coming.mark ∷ [])
      inside = omega (arith, length-append c.session.marks (coming.mark ∷ []))

      at_last : ((slice_index_or (c.session.marks ++ coming.mark ∷ []) (length c.session.marks) coming.mark).step ≡ (slice_index_or (c.session.marks ++ coming.mark ∷ []) 0 coming.mark).step)
          × ((slice_index_or (c.session.marks ++ coming.mark ∷ []) (length c.session.marks) coming.mark).place ≡ length c.session.marks)
      at_last = whole_at (c.session.marks ++ coming.mark ∷ []) (slice_index_or (c.session.marks ++ coming.mark ∷ []) 0 coming.mark) (length c.session.marks) coming.mark
          (sym c.whole ∙ whole) refl inside

      counted : length (c.session.taken ++ piece_in coming ∷ []) ≡ frame_count (length d.payload)
      counted = ap length c.cutting.frames ∙ laws.cut_count its.w.signature d.id d.payload

  -- so it is, as no response is anonymous
  last_place : d.mark.place + 1 ≡ frame_count (length d.payload)
  last_place = by its.frames
    where
      by : IsAlone its.w coming d ⊎ Completes (setting_for t.me) t.sessions its.w coming d → d.mark.place + 1 ≡ frame_count (length d.payload)
      by (inl alone) = absurd (cc (sym (ap is_anonymous response) ∙ (ap (λ (i : Ident). is_anonymous i.kind) its.ident ∙ alone.anonymous)))
      by (inr c) = placed c

  place_is : frame_count (length x.offer.payload) - 1 ≡ d.mark.place
  place_is = omega (arith, ap (λ (p : List ℕ). frame_count (length p)) one.its.payload, last_place)

  mark_is : record { step = x.step; re = x.offer.re; place = frame_count (length x.offer.payload) - 1 } ≡ d.mark
  mark_is = λ i. record { step = one.its.step i; re = one.its.re i; place = place_is i }

  pub is_whole : IsWhole d
  is_whole = record {
    transfer = x;
    is = λ i. record { ident = ident_is i; id = one.its.id i; payload = one.its.payload i; mark = mark_is i; whole = sym whole i };
  }
