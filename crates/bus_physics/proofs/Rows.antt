-- What the world of lawful rows shows of a row that is refused.
use Rattle.std.proofs.Common.{◌≡◌, ℕ, ◌≤◌, Bool, true, false, List, refl, sym, ap, subst, ◌∙◌, arith, inl, inr, Some}
use Rattle.std.specs.Prelude.{max, nat_eq, not}
use Rattle.std.proofs.lemmas.Bool.Decides.{eqb_tells}
use Rattle.can_frame.specs.declared.identifier.Ident.{Ident}
use Rattle.can_frame.specs.declared.identifier.Kind.{Kind}
use Rattle.can_frame.specs.declared.identifier.Kind.TheVariants.{Message, Anonymous, Request, Response}
use Rattle.can_frame.specs.declared.mark.Mark.{Mark}
use Rattle.can_frame.specs.declared.step.Judged.TheVariants.{Stale, Torn}
use Rattle.can_frame.specs.Kinds.{is_service, is_anonymous}
use Rattle.raft_model.specs.Lists.{In}
use Rattle.raft_model.specs.Runs as raft
use Rattle.bus_rows.specs.declared.row.Row.TheVariants.{ARx, Rx}
use Rattle.transfer_rx.specs.Acceptance.{first_signature, is_for}
use Rattle.transfer_rx.specs.Keys.{key_of}
use Rattle.transfer_rx.specs.Reassembly.{Arrival, Delivery, Gives, answer}
use Rattle.transfer_rx.specs.Sessions.{Session}
use Rattle.transfer_rx.specs.Sound.{IsDelivered}
use Rattle.allocatee.specs.Accepted as device
use Rattle.alloc_spec.specs.Accepted.{rows, setting_for}
use Rattle.alloc_spec.specs.AllocatorState.{AllocatorState}
use Rattle.alloc_spec.specs.Transfers.{SentTransfer, number_of}
use Rattle.alloc_spec_laws.proofs.Choices.{and_right, not_true}
use Rattle.bus_spec.specs.declared.unlawful.Unlawful.TheVariants as unlawful
use Rattle.alloc_spec.specs.ClusterMembers.{AreMembers}
use Rattle.bus_spec.specs.Cluster.{Cluster, arrival_at, frame_at}
use Rattle.bus_spec.specs.Lawful.{cause, is_forged}
use Rattle.bus_spec.specs.Members.{MemberStatus}
use Rattle.bus_agreement.specs.Frames.{CameFrom, WasMade}
use Rattle.bus_agreement.specs.LawsBelow.{FrameLaws}
use Rattle.bus_agreement.specs.Shows.{Shows, ShowsMember, ShowsUp}
use Rattle.bus_agreement.proofs.DeliveredTransfers.{has_taken, was_made}
use Rattle.bus_agreement.proofs.Idents.{IsWanted, service_is, wanted_is}
use Rattle.bus_agreement.proofs.Lists.{equal, never}
use Rattle.bus_agreement.proofs.OneRow.{stands}
use Rattle.bus_physics.specs.Reuse.{IsStaleAt, IsTornAt, IsTornAtDevice, IsTornOf}
use Rattle.bus_physics.proofs.Refusals.{IsRefused, IsRefusedAt, of_stale, of_torn, refused, refused_at, stale_at, torn_at, torn_at_device}
use Rattle.bus_physics.proofs.Stale.{AreTwoCalls, IsMissed, from_member, missed, two_calls}
use Rattle.bus_physics.proofs.Torn.{forged_has_source, torn_of}

only_messages : (kind : Kind) (number s : ℕ) → first_signature device.rows kind number ≡ Some s → is_anonymous kind ≡ false → kind ≡ Message
unfolding device.rows
only_messages Message number s e known = refl
only_messages Anonymous number s e known = never (sym known)
only_messages Request number s e known = absurd (cc (e))
only_messages Response number s e known = absurd (cc (e))

-- a server hears nothing of its own
not_own : (me : ℕ) → 1 ≤ me → (ident : Ident) → is_for me ident ≡ true → ident.source ≡ me → ⊥
not_own me some ident for_me same = elim (eqb_tells me 0) [
  | inl none ↦ omega (arith, some, none.1)
  | inr apart ↦ elim (eqb_tells ident.source me) [
    | inl is ↦ never (sym (not_true (nat_eq ident.source me) (and_right _ (not (nat_eq ident.source me)) (rw apart.0 at for_me))) ∙ is.0)
    | inr differ ↦ differ.1 same
  ]
]

module _ (laws : FrameLaws) (choice : ℕ → Bool) (made : List SentTransfer) (w : Cluster) (run : raft.World) (members : AreMembers w.ids)
    (shows : Shows choice made w run) where
  low : (n : ℕ) → In n w.ids → 1 ≤ n
  low n i = (members.nodes n i).0

  high : (n : ℕ) → In n w.ids → n ≤ 125
  high n i = (members.nodes n i).1

  -- ---- at a member

  module _ (n k ms : ℕ) (listed : In n w.ids) (t : AllocatorState) (runs : (w.member n).status ≡ MemberStatus.Up t) where
    there : ShowsUp made w.ids w.frames run n t (w.member n).disk
    there = subst (λ (status : MemberStatus). ShowsMember choice made w.ids w.frames run n status (w.member n).disk) runs (shows.lives n listed)

    own : ShowsUp made w.ids w.frames run t.me t (w.member t.me).disk
    own = subst (λ (m : ℕ). ShowsUp made w.ids w.frames run m t (w.member m).disk) (sym there.runs.me) there

    some : 1 ≤ t.me
    some = subst (λ (m : ℕ). 1 ≤ m) (sym there.runs.me) (low n listed)

    abbrev coming : Arrival
    coming = arrival_at (frame_at w.frames k) (max t.now ms)

    module _ (inside : In (frame_at w.frames k) w.frames) (d : Delivery) (gives : answer (setting_for t.me) t.sessions coming ≡ Gives d) where
      came : CameFrom w.frames coming
      came = record { frame = frame_at w.frames k; there = inside; id = refl; bytes = refl; mark = refl }

      its : IsDelivered (setting_for t.me) t.sessions coming d
      its = laws.delivered (setting_for t.me) t.sessions coming d gives

      torn : d.whole ≡ false → is_forged w.ids (Some d.ident) ≡ true → IsTornOf made w.frames coming d
      torn broken forged = torn_of laws w.ids low high made shows.holds.transfers (setting_for t.me) w.frames shows.bus t.sessions
          coming came d gives (λ session is. has_taken w.frames (setting_for t.me) t.sessions own.works.heard coming.moment (key_of d.ident) session is)
          broken forged (inl some)

      module _ (untorn : d.whole ≡ false → nat_eq (frame_at w.frames k).mark.step 0 ≡ true) (is : IsMissed t d (max t.now ms)) where
        untorn_step : d.whole ≡ false → d.mark.step ≡ 0
        untorn_step e = ap (λ (m : Mark). m.step) its.mark ∙ equal (frame_at w.frames k).mark.step 0 (untorn e)

        one : WasMade made d
        one = was_made laws w.ids low high made shows.holds.transfers (setting_for t.me) w.frames shows.bus t.sessions own.works.heard
            coming came d gives untorn_step (from_member w.ids t d (max t.now ms) is) (inl some)

        dest : d.ident.dest ≡ t.me
        dest = service_is t.me some d.ident (ap is_service is.kind)
            (ap (λ (i : Ident). is_for t.me i) its.ident ∙ (wanted_is rows t.me coming.id its.w its.accepted).for_me)

        calls : AreTwoCalls made t d is.call
        calls = two_calls made shows.holds.said.carried shows.holds.answered t own.works.called d (max t.now ms) is dest one.0 one.1 one.2

        stale : IsStaleAt made w n k ms
        stale = record {
          server = t;
          runs = runs;
          first = calls.first;
          second = calls.second;
          twice = calls.twice;
          maker = calls.maker ∙ there.runs.me;
          another = λ e. not_own t.me some its.w.ident (wanted_is rows t.me coming.id its.w its.accepted).for_me
              (ap (λ (i : Ident). i.source) (sym its.ident) ∙ (sym calls.receiver ∙ (sym calls.twice.to ∙ (e ∙ sym there.runs.me))));
          response = one.0;
          response_made = one.1;
          response_kind = one.2.kind ∙ is.kind;
          response_step = one.2.step ∙ ap (λ (m : Mark). m.step) its.mark;
          response_re = one.2.re ∙ ap (λ (m : Mark). m.re) its.mark;
          is_response = record {
            ident = its.w.ident;
            read = (wanted_is rows t.me coming.id its.w its.accepted).read;
            kind = ap (λ (i : Ident). i.kind) (sym its.ident) ∙ is.kind;
            service = ap (λ (i : Ident). i.number) (sym its.ident) ∙ (sym calls.service ∙ ap number_of (sym calls.twice.what));
            from = ap (λ (i : Ident). i.source) (sym its.ident) ∙ (sym calls.receiver ∙ sym calls.twice.to);
            to = ap (λ (i : Ident). i.dest) (sym its.ident) ∙ (dest ∙ sym (calls.twice.by ∙ calls.maker));
          };
          answered = calls.answered ∙ ap (λ (m : Mark). m.re) its.mark;
          request = is.call;
          pending = ap (λ (peer : ℕ). t.raft_server.memory.pending peer) calls.receiver ∙ is.pending;
          called = calls.called;
          carried = calls.carried;
          sending = is.sending;
          sent = ap (λ (peer : ℕ). t.times.sending peer) calls.receiver ∙ is.sent;
          young = is.young;
        }

  pub torn_row : (n k ms : ℕ) → cause w (Rx n k ms) ≡ Some unlawful.Torn → IsTornAt made w n k ms
  torn_row n k ms e =
      let r : IsRefused w n k ms Torn = refused unlawful.Torn Torn of_torn w n k ms e in
      let a = torn_at r.server (arrival_at (frame_at w.frames k) ms) r.judgement in
      record {
        server = r.server;
        runs = r.runs;
        completes = record {
          delivery = a.delivery;
          gives = a.gives;
          not_whole = a.is;
          torn = torn n k ms r.member r.server r.runs (stands w k r.there) a.delivery a.gives a.is;
        };
      }

  pub stale_row : (n k ms : ℕ) → cause w (Rx n k ms) ≡ Some unlawful.Stale → IsStaleAt made w n k ms
  stale_row n k ms e =
      let r : IsRefused w n k ms Stale = refused unlawful.Stale Stale of_stale w n k ms e in
      let a = stale_at r.server (arrival_at (frame_at w.frames k) ms) r.judgement in
      stale n k ms r.member r.server r.runs (stands w k r.there) a.delivery a.gives a.untorn (missed r.server a.delivery (max r.server.now ms) a.stale)

  -- ---- at an allocatee

  module _ (coming : Arrival) (sessions : List Session) (d : Delivery) (gives : answer device.setting sessions coming ≡ Gives d)
      (forged : is_forged w.ids (Some d.ident) ≡ true) where
    device_its : IsDelivered device.setting sessions coming d
    device_its = laws.delivered device.setting sessions coming d gives

    device_wants : IsWanted device.rows 0 coming.id device_its.w.ident
    device_wants = wanted_is device.rows 0 coming.id device_its.w device_its.accepted

    -- an allocatee is delivered messages alone, but for what has no source
    broadcast : d.ident.kind ≡ Message
    broadcast = only_messages d.ident.kind d.ident.number device_wants.signature.0
        (subst (λ (i : Ident). first_signature device.rows i.kind i.number ≡ Some device_wants.signature.0) (sym device_its.ident) device_wants.signature.1)
        (forged_has_source w.ids d.ident forged)

  pub torn_row_at : (a k ms word : ℕ) → cause w (ARx a k ms word) ≡ Some unlawful.Torn → IsTornAtDevice made w a k ms
  torn_row_at a k ms word e =
      let r : IsRefusedAt w a k ms Torn = refused_at unlawful.Torn Torn of_torn w a k ms word e in
      let coming : Arrival = arrival_at (frame_at w.frames k) (max r.x.asking.moment ms) in
      let b = torn_at_device r.x (arrival_at (frame_at w.frames k) ms) r.judgement in
      record {
        x = r.x;
        there = r.there;
        completes = record {
          delivery = b.delivery;
          gives = b.gives;
          not_whole = b.is;
          torn = λ forged. torn_of laws w.ids low high made shows.holds.transfers device.setting w.frames shows.bus r.x.sessions coming
              (record { frame = frame_at w.frames k; there = stands w k r.frame_there; id = refl; bytes = refl; mark = refl })
              b.delivery b.gives
              (λ session is. has_taken w.frames device.setting r.x.sessions (shows.asking a r.x r.there).heard coming.moment (key_of b.delivery.ident) session is)
              b.is forged (inr (broadcast coming r.x.sessions b.delivery b.gives forged));
        };
      }
