-- A member on a physical bus puts no transfer together of two.
use Rattle.std.proofs.Common.{◌≡◌, ◌≢◌, ℕ, ◌+◌, ◌<◌, ◌≤◌, Bool, true, false, List, [], ◌∷◌, ◌++◌, length, length-append, map, refl, sym, ap, subst, ◌∙◌, arith, ◌⊎◌, inl, inr, Some}
use Rattle.std.specs.Prelude.{◌-◌, max, nat_eq, not, ◌&&◌, slice_index_or}
use Rattle.can_frame.specs.declared.mark.Mark.{Mark}
use Rattle.transfer_rx.specs.Acceptance.{first_signature, wanted}
use Rattle.transfer_rx.specs.Run.{has_session_key, is_of}
use Rattle.transfer_rx.proofs.Completeness.{is_own}
use Rattle.bus_agreement.proofs.Pieces.{piece_id}
use Rattle.std.proofs.lemmas.Bool.Decides.{eqb_tells, leb_tells}
use Rattle.std.proofs.lemmas.List.{map-append}
use Rattle.can_frame.specs.declared.identifier.Ident.{Ident}
use Rattle.can_frame.specs.declared.identifier.Kind.{Kind}
use Rattle.can_frame.specs.declared.step.Judged.TheVariants.{Torn}
use Rattle.can_frame.specs.declared.step.What.{What}
use Rattle.can_frame.specs.declared.step.What.TheVariants.{Alloc, App, AppQ, Disc, Info, InfoQ, Stat, Vote, VoteQ}
use Rattle.can_frame.specs.Cutting.{Piece, frame_count, frames_of as pieces_of, piece_from}
use Rattle.can_frame.specs.Kinds.{is_anonymous}
use Rattle.raft_model.specs.Lists.{In}
use Rattle.raft_model.specs.Runs as raft
use Rattle.bus_rows.specs.declared.row.Row.{Row}
use Rattle.bus_rows.specs.declared.row.Row.TheVariants.{Rx}
use Rattle.transfer_rx.specs.declared.key.Key.{Key}
use Rattle.transfer_rx.specs.Keys.{key_of}
use Rattle.transfer_rx.specs.Origin.{IsIdleOrOf}
use Rattle.transfer_rx.specs.Reassembly.{Arrival, Delivery, Gives, Setting, Step, answer, piece_in}
use Rattle.transfer_rx.specs.Sessions.{Session, is_recent, next_id, recent_sessions, restarts, session_of}
use Rattle.transfer_rx.specs.Sound.{Completes, IsDelivered}
use Rattle.transfer_rx.proofs.Steps.{anonymous}
use Rattle.transfer_tx.specs.Queue.{Queued}
use Rattle.alloc_spec.specs.Accepted.{rows, setting_for}
use Rattle.alloc_spec.specs.AllocatorState.{AllocatorState}
use Rattle.alloc_spec.specs.Transfers.{SentTransfer, kind_of, number_of, signature_of}
use Rattle.bus_spec.specs.declared.unlawful.Unlawful.TheVariants as unlawful
use Rattle.alloc_spec.specs.ClusterMembers.{AreMembers}
use Rattle.bus_spec.specs.Cluster.{Cluster, arrival_at, frame_at}
use Rattle.bus_spec.specs.Lawful.{cause, is_forged}
use Rattle.bus_spec.specs.Members.{MemberStatus}
use Rattle.bus_agreement.specs.Frames.{CameFrom}
use Rattle.bus_agreement.specs.LawsBelow.{FrameLaws}
use Rattle.bus_agreement.specs.Shows.{Shows, ShowsMember, ShowsUp}
use Rattle.bus_agreement.proofs.DeliveredTransfers.{HasTaken, IsOfKey}
use Rattle.bus_agreement.proofs.Idents.{IsWanted, to_for, wanted_is}
use Rattle.bus_agreement.proofs.Lists.{in_append, in_back, never, tell}
use Rattle.bus_agreement.proofs.OneRow.{stands}
use Rattle.bus_rows.specs.Timed.{Timed}
use Rattle.bus_physics.specs.Physics.{AreApart, ClockGoesOnAt, ComesInTime, FrameComesInTime, ComesInOrder, GoesOn, HasKeyAt, IsParted, Limits, Reading, UsesIdsApart, may_be_long, now_in, time_of, lag, IsRecent, window, is_long_to_member}
use Rattle.bus_physics.specs.Reuse.{AreOfOne, AreOfTwo, IsFrameOf, LacksFrames}
use Rattle.bus_physics.proofs.Devices.{IsTimely, soon, IsClose}
use Rattle.bus_physics.proofs.InTime.{AreClose, Heard, IsIdle, IsInTime, IsYoung, close_more, comes, filtered, found}
use Rattle.bus_physics.proofs.Following.{KeepsIn}
use Rattle.bus_physics.proofs.Members.{IsKnownTo, MemberBefore}
use Rattle.bus_physics.proofs.Refusals.{IsRefused, marked_at, of_torn, refused, torn_at}
use Rattle.bus_physics.proofs.Short.{not_alone, short_is_whole}
use Rattle.bus_physics.proofs.Single.{IsOrigin, IsSingle}
use Rattle.bus_physics.proofs.Torn.{completes, forged_has_source, how_to, place_of}
use Rattle.bus_physics.proofs.Unstale.{of_it}
use Rattle.bus_physics.proofs.Untorn.{AreNeighbours, in_its_turn, in_mapped, in_marks, tails_of, alone_is, first_alone, map_in, mapped, neighbours, one_ident, unmarked_not}

-- ---- what the frame that is torn comes to

module _ (limits : Limits) (all : List Timed) (sane : lag limits < 58000) (setting : Setting) (past : List Reading) (came : ℕ) (frames : List Queued) (sessions : List Session)
    (inv : (s : Session) → In s sessions → IsInTime (IsKnownTo limits all setting frames) (IsClose limits all (lag limits)) past s) (arrival : Arrival)
    (goes : GoesOn limits (lag limits) past came arrival.moment) (key : Key) where
  abbrev new : Heard
  new = record { arrival = arrival; at = came }

  -- the frames that its session had taken, each with the time at which it came
  pub record TakenInTime (session : Session) : Type 0 where
    pub heard : List Heard
    pub each : (h : Heard) → In h heard → IsKnownTo limits all setting frames key h
    pub taken : session.taken ≡ map (λ (h : Heard). piece_in h.arrival) heard
    pub marks : session.marks ≡ map (λ (h : Heard). h.arrival.mark) heard
    pub close : AreClose (IsClose limits all (lag limits)) (heard ++ new ∷ [])

  taken_by : (session : Session) → session.key ≡ key
      → IsIdle session ⊎ IsYoung (IsKnownTo limits all setting frames) (IsClose limits all (lag limits)) past sessions inv arrival.moment session → TakenInTime session
  taken_by session own (inl none) = record { heard = []; each = λ h i. absurd i; taken = none.0; marks = none.1; close = tt }
  taken_by session own (inr is) = record {
    heard = is.0.heard;
    each = λ h i. subst (λ (k : Key). IsKnownTo limits all setting frames k h) own (is.0.each h i);
    taken = is.0.taken;
    marks = is.0.marks;
    close = close_more (IsClose limits all (lag limits)) past came arrival.moment (soon limits all (lag limits) sane past came arrival.moment goes) arrival
        is.0.heard session.moment is.1 is.0.close is.0.ends;
  }

  pub timed_taken : (session : Session) → IsIdleOrOf key (recent_sessions arrival.moment sessions) session → TakenInTime session
  timed_taken session is = taken_by session is.own
      (comes (IsKnownTo limits all setting frames) (IsClose limits all (lag limits)) past sessions inv arrival.moment key session is)

  pub each_taken : (hs : List Heard) → ((h : Heard) → In h hs → IsKnownTo limits all setting frames key h) → (b : Arrival) → In b (map (λ (h : Heard). h.arrival) hs)
      → CameFrom frames b × IsOfKey setting key b
  each_taken hs each b i =
      let r = map_in hs b i in
      let known = each r.0 r.1 in
      (subst (λ (c : Arrival). CameFrom frames c) r.2 known.came, subst (λ (c : Arrival). IsOfKey setting key c) r.2 known.of_key)

  abbrev pub has : (session : Session) → IsIdleOrOf key (recent_sessions arrival.moment sessions) session → HasTaken frames setting key session
  has session is = record {
    arrivals = map (λ (h : Heard). h.arrival) (timed_taken session is).heard;
    each = each_taken (timed_taken session is).heard (timed_taken session is).each;
    taken = (timed_taken session is).taken ∙ mapped piece_in (timed_taken session is).heard;
    marks = (timed_taken session is).marks ∙ mapped (λ (b : Arrival). b.mark) (timed_taken session is).heard;
  }

-- ---- the row

-- a member does not receive the Allocations of others
no_allocation : {s : ℕ} → first_signature rows (kind_of Alloc) (number_of Alloc) ≡ Some s → ⊥
unfolding rows
no_allocation e = absurd (cc (e))

apart_not : (hold drift m n p q : ℕ) → m ≤ p → p ≤ m + hold → n ≤ q → q ≤ n + hold → p ≤ q → q ≤ p + (2000 + drift)
    → AreApart (hold + 2000 + drift) m n → ⊥
apart_not hold drift m n p q a b c d e f (inl h) = absurd (omega (arith, a, b, c, d, e, f, h))
apart_not hold drift m n p q a b c d e f (inr h) = absurd (omega (arith, a, b, c, d, e, f, h))

module _ (laws : FrameLaws) (choice : ℕ → Bool) (made : List SentTransfer) (w : Cluster) (run : raft.World) (members : AreMembers w.ids)
    (shows : Shows choice made w run) (limits : Limits) (all : List Timed) (sane : lag limits < 58000) (now : Timed) (n k ms : ℕ)
    (row : now.row ≡ Rx n k ms) (back : limits.since ≤ now.at - window limits) (before : MemberBefore limits all n w now) (heard : List Queued) (apart : (what : What) → is_long_to_member what ≡ true → UsesIdsApart limits all made heard n what)
    (order : ComesInOrder limits all n heard (frame_at w.frames k)) (follows : KeepsIn limits all n heard (w.member n).status) (listed : In n w.ids)
    (others : (x : SentTransfer) → In x made → may_be_long x.offer.what ≡ false → frame_count (length x.offer.payload) ≤ 1)
    (t : AllocatorState) (runs : (w.member n).status ≡ MemberStatus.Up t) (inside : In (frame_at w.frames k) w.frames) where
  abbrev setting : Setting
  setting = setting_for t.me

  abbrev coming : Arrival
  coming = arrival_at (frame_at w.frames k) (max t.now ms)

  some : 1 ≤ t.me
  some =
      let up : ShowsUp made w.ids w.frames run n t (w.member n).disk =
      subst (λ (status : MemberStatus). ShowsMember choice made w.ids w.frames run n status (w.member n).disk) runs (shows.lives n listed) in
      subst (λ (m : ℕ). 1 ≤ m) (sym up.runs.me) (members.nodes n listed).0

  goes : GoesOn limits (lag limits) before.past now.at (max t.now ms)
  goes = subst (λ (status : MemberStatus). GoesOn limits (lag limits) before.past now.at (now_in status ms)) runs
      (of_it n (subst (λ (r : Row). ClockGoesOnAt limits n before.past w now.at r) row before.clock))

  timely_frame : ComesInTime limits all now.at (frame_at w.frames k)
  timely_frame = subst (λ (r : Row). FrameComesInTime limits all w now.at r) row before.comes

  abbrev kept_before : (s : Session) → In s t.sessions → IsInTime (IsKnownTo limits all setting w.frames) (IsClose limits all (lag limits)) before.past s
  kept_before s i = (before.inv t runs).heard s i

  module _ (d : Delivery) (gives : answer setting t.sessions coming ≡ Gives d) (broken : d.whole ≡ false) where
    abbrev its : IsDelivered setting t.sessions coming d
    its = laws.delivered setting t.sessions coming d gives

    wants : IsWanted rows t.me coming.id its.w.ident
    wants = wanted_is rows t.me coming.id its.w its.accepted

    alone_not : is_anonymous d.ident.kind ≡ true → (frame_at w.frames k).mark.place ≡ 0 → ⊥
    alone_not e first =
        let kind : is_anonymous its.w.ident.kind ≡ true = ap (λ (i : Ident). is_anonymous i.kind) (sym its.ident) ∙ e in
        let same = alone_is its.w.ident (piece_in coming) coming.mark d
        (sym (ap (λ (s : Step). s.answer) (anonymous setting t.sessions coming its.w its.accepted kind)) ∙ gives) in
        never (sym broken ∙ (ap (λ (y : Delivery). y.whole) (sym same) ∙ first_alone (frame_at w.frames k).mark first))

    -- it is a member's
    forged : nat_eq (frame_at w.frames k).mark.step 0 ≡ false → IsOrigin w.ids (frame_at w.frames k) → is_forged w.ids (Some d.ident) ≡ true
    forged marked (inl none) = absurd (unmarked_not (frame_at w.frames k).mark.step none marked)
    forged marked (inr (inl first)) =
        let same : d.ident ≡ first.1.ident = its.ident ∙ one_ident its.w.ident first.1.ident (sym wants.read ∙ first.1.read) in
        absurd (alone_not (ap (λ (i : Ident). is_anonymous i.kind) same ∙ ap is_anonymous first.1.kind) first.0)
    forged marked (inr (inr member)) =
        let same : d.ident ≡ member.ident = its.ident ∙ one_ident its.w.ident member.ident (sym wants.read ∙ member.read) in
        ap (λ (i : Ident). is_forged w.ids (Some i)) same ∙ member.forged

    module _ (of_member : is_forged w.ids (Some d.ident) ≡ true) where
      abbrev taken : (session : Session) → IsIdleOrOf (key_of d.ident) (recent_sessions coming.moment t.sessions) session
          → TakenInTime limits all sane setting before.past now.at w.frames t.sessions kept_before coming goes (key_of d.ident) session
      taken session is = timed_taken limits all sane setting before.past now.at w.frames t.sessions kept_before coming goes (key_of d.ident) session is

      abbrev kept : (session : Session) → IsIdleOrOf (key_of d.ident) (recent_sessions coming.moment t.sessions) session
          → HasTaken w.frames setting (key_of d.ident) session
      kept session is = has limits all sane setting before.past now.at w.frames t.sessions kept_before coming goes (key_of d.ident) session is

      came : CameFrom w.frames coming
      came = record { frame = frame_at w.frames k; there = inside; id = refl; bytes = refl; mark = refl }

      c : Completes setting t.sessions its.w coming d
      c = completes laws w.ids (λ m i. (members.nodes m i).0) (λ m i. (members.nodes m i).1) made shows.holds.transfers setting w.frames shows.bus t.sessions
          coming came d gives kept broken of_member (inl some)

      abbrev same_key : IsIdleOrOf (key_of d.ident) (recent_sessions coming.moment t.sessions) c.session
      same_key = subst (λ (i : Ident). IsIdleOrOf (key_of i) (recent_sessions coming.moment t.sessions) c.session) (sym its.ident)
          (laws.comes setting.sessions coming.moment (key_of its.w.ident) (piece_in coming).tail (recent_sessions coming.moment t.sessions) c.session c.there)

      abbrev hs : List Heard
      hs = (taken c.session same_key).heard

      abbrev last : Heard
      last = record { arrival = coming; at = now.at }

      timely : (h : Heard) → In h (hs ++ last ∷ []) → IsTimely limits all h.arrival h.at
      timely h i = elim (in_append h hs (last ∷ []) i) [
        | inl j ↦ ((taken c.session same_key).each h j).timely
        | inr (inl e) ↦ subst (λ (g : Heard). IsTimely limits all g.arrival g.at) (sym e)
            (record { after = timely_frame.after; soon = timely_frame.soon })
        | inr (inr j) ↦ absurd j
      ]

      whole_list : map (λ (h : Heard). h.arrival) (hs ++ last ∷ []) ≡ map (λ (h : Heard). h.arrival) hs ++ coming ∷ []
      whole_list = map-append (λ (h : Heard). h.arrival) hs (last ∷ [])

      cutting : map piece_in (map (λ (h : Heard). h.arrival) hs ++ coming ∷ []) ≡ pieces_of its.w.signature d.id d.payload
      cutting = map-append piece_in (map (λ (h : Heard). h.arrival) hs) (coming ∷ [])
          ∙ (ap (λ (l : List Piece). l ++ piece_in coming ∷ []) (sym (kept c.session same_key).taken) ∙ c.cutting.frames)

      me_is : t.me ≡ n
      me_is = (follows t runs).me

      in_key : (key : Key) (f : Queued) (b : Arrival) → is_of setting key b ≡ true → f.id ≡ b.id → HasKeyAt n key f
      unfolding is_of
      in_key key f b is same = ap (λ (m : ℕ). has_session_key key (wanted rows m f.id)) (sym me_is)
          ∙ (ap (λ (i : ℕ). has_session_key key (wanted rows t.me i)) same ∙ is)

      known : is_anonymous its.w.ident.kind ≡ false
      known = ap (λ (i : Ident). is_anonymous i.kind) (sym its.ident) ∙ forged_has_source w.ids d.ident of_member

      coming_is : is_of setting (key_of d.ident) coming ≡ true
      coming_is = subst (λ (i : Ident). is_of setting (key_of i) coming ≡ true) (sym its.ident) (is_own setting its.w coming its.accepted known)

      expected : (piece_in coming).tail.id ≡ c.session.expected
      expected = in_its_turn setting t.sessions coming its.w its.accepted known c.session c.there d gives

      -- each piece has the transfer ID of the delivery
      piece_tail : (h : Heard) → In h (hs ++ last ∷ []) → (piece_in h.arrival).tail.id ≡ d.id
      piece_tail h i = tails_of (map (λ (g : Heard). g.arrival) hs ++ coming ∷ []) its.w.signature d.id d.payload cutting h.arrival
          (subst (λ (l : List Arrival). In h.arrival l) whole_list (in_mapped h (hs ++ last ∷ []) i))

      offer_id : (x : SentTransfer) (h : Heard) → In x made → IsFrameOf x h.arrival → In h (hs ++ last ∷ []) → x.offer.id ≡ c.session.expected
      offer_id x h there is i =
          let place = piece_id (signature_of x.offer.what) x.offer.id x.offer.payload h.arrival.mark.place is.place in
          let read : piece_in h.arrival ≡ slice_index_or (pieces_of (signature_of x.offer.what) x.offer.id x.offer.payload) h.arrival.mark.place (piece_from []) =
          ap piece_from is.bytes ∙ laws.piece_read _ (subst (λ (m : ℕ). m < 32) (sym place) (shows.holds.transfers.ranges x there).id) in
          sym place ∙ (ap (λ (p : Piece). p.tail.id) (sym read) ∙ (piece_tail h i ∙ (its.id ∙ expected)))

      in_sessions : (m : Mark) → In m c.session.marks → In c.session t.sessions
      in_sessions m j = by same_key.idle_or_there where
        by : ((c.session.taken ≡ []) × (c.session.marks ≡ [])) ⊎ (session_of (key_of d.ident) (recent_sessions coming.moment t.sessions) ≡ Some c.session) → In c.session t.sessions
        by (inl none) = absurd (subst (λ (l : List Mark). In m l) none.1 j)
        by (inr there) = (filtered (is_recent coming.moment) t.sessions c.session (found (key_of d.ident) (recent_sessions coming.moment t.sessions) c.session there)).0

      -- a first frame that was made behind one of these, under the same identifier, was not heard
      parted : (x y : SentTransfer) → In x made → IsRecent limits all x.step → IsParted heard x y → (h : Heard) → In h (hs ++ last ∷ []) → IsFrameOf x h.arrival → ⊥
      parted x y there recent part h i is = elim (in_append h hs (last ∷ []) i) [
        | inl j ↦
            let mark : In h.arrival.mark c.session.marks =
            subst (λ (l : List Mark). In h.arrival.mark l) (sym (taken c.session same_key).marks) (in_marks h hs j) in
            let of_it : HasKeyAt n c.session.key part.frame = subst (λ (k : Key). HasKeyAt n k part.frame) (sym c.key)
            (in_key (key_of d.ident) part.frame h.arrival ((taken c.session same_key).each h j).is (part.ident ∙ sym is.ident)) in
            absurd (omega (
              arith,
              (follows t runs).each c.session (in_sessions h.arrival.mark mark) part.frame part.came of_it (again (offer_id x h there is i)) h.arrival.mark mark
                  (subst (λ (m : ℕ). IsRecent limits all m) (sym is.step) recent),
              is.step,
              part.later,
            ))
        | inr (inl e) ↦
            let of_it : HasKeyAt n (key_of d.ident) part.frame =
            in_key (key_of d.ident) part.frame coming coming_is (part.ident ∙ (sym is.ident ∙ ap (λ (g : Heard). g.arrival.id) e)) in
            let own : HasKeyAt n (key_of d.ident) (frame_at w.frames k) = in_key (key_of d.ident) (frame_at w.frames k) coming coming_is refl in
            absurd (omega (
              arith,
              order (subst (λ (m : ℕ). IsRecent limits all m) (sym is.step ∙ ap (λ (g : Heard). g.arrival.mark.step) e) recent)
                  part.frame (key_of d.ident) part.came of_it own,
              ap (λ (g : Heard). g.arrival.mark.step) e,
              is.step,
              part.later,
            ))
        | inr (inr j) ↦ absurd j
      ]
        where
          again : x.offer.id ≡ c.session.expected → restarts (piece_from part.frame.bytes).tail c.session ≡ true
          again same = ap (λ (b : Bool). b && (not (nat_eq (piece_from part.frame.bytes).tail.id c.session.expected) && not (nat_eq (next_id (piece_from part.frame.bytes).tail.id) c.session.expected))) part.first
              ∙ (ap (λ (b : Bool). not b && not (nat_eq (next_id (piece_from part.frame.bytes).tail.id) c.session.expected)) (ap (nat_eq (piece_from part.frame.bytes).tail.id) (sym same) ∙ part.other)
              ∙ ap (λ (b : Bool). not b) (ap (nat_eq (next_id (piece_from part.frame.bytes).tail.id)) (sym same) ∙ part.not_before))

      -- a transfer of one frame is put together with no other
      is_long : (x : SentTransfer) (b : Arrival) → In x made → In b (map (λ (h : Heard). h.arrival) hs ++ coming ∷ []) → IsFrameOf x b
          → 2 ≤ length (map (λ (h : Heard). h.arrival) hs ++ coming ∷ []) → may_be_long x.offer.what ≡ true
      is_long x b there i is many = elim (tell (may_be_long x.offer.what)) [
        | inl long ↦ long
        | inr short ↦
            let at = place_of (map (λ (h : Heard). h.arrival) hs ++ coming ∷ []) b coming i in
            absurd (omega (
              arith,
              others x there short,
              not_alone laws x (shows.holds.transfers.ranges x there).id (map (λ (h : Heard). h.arrival) hs ++ coming ∷ []) coming its.w.signature d.id d.payload cutting
                  at.0 at.1 (subst (λ (c : Arrival). IsFrameOf x c) (sym at.2) is) many,
            ))
      ]

      taken_it : (two : AreOfTwo made d.ident coming (map (λ (h : Heard). h.arrival) hs ++ coming ∷ []))
          → first_signature rows (kind_of two.first.offer.what) (number_of two.first.offer.what) ≡ Some wants.signature.0
      taken_it two = ap (λ (kind : Kind). first_signature rows kind (number_of two.first.offer.what)) (two.kind ∙ ap (λ (i : Ident). i.kind) its.ident)
          ∙ (ap (λ (number : ℕ). first_signature rows its.w.ident.kind number) (two.number ∙ ap (λ (i : Ident). i.number) its.ident) ∙ wants.signature.1)

      -- and no member takes an Allocation
      to_member : (what : What) → may_be_long what ≡ true → {s : ℕ} → first_signature rows (kind_of what) (number_of what) ≡ Some s → is_long_to_member what ≡ true
      to_member Alloc long is = absurd (no_allocation is)
      to_member Disc long is = never long
      to_member Stat long is = never long
      to_member InfoQ long is = never long
      to_member Info long is = refl
      to_member VoteQ long is = refl
      to_member Vote long is = never long
      to_member AppQ long is = refl
      to_member App long is = never long

      -- so it goes to this member
      meant : (two : AreOfTwo made d.ident coming (map (λ (h : Heard). h.arrival) hs ++ coming ∷ [])) → may_be_long two.first.offer.what ≡ true
          → two.first.offer.to ≡ to_for d.ident.kind t.me → two.first.offer.to ≡ n
      meant two long to = to ∙ (ap (λ (kind : Kind). to_for kind t.me) (sym two.kind) ∙ (by two.first.offer.what long (taken_it two) ∙ me_is)) where
        by : (what : What) → may_be_long what ≡ true → {s : ℕ} → first_signature rows (kind_of what) (number_of what) ≡ Some s → to_for (kind_of what) t.me ≡ t.me
        by Alloc long is = absurd (no_allocation is)
        by Disc long is = never long
        by Stat long is = never long
        by InfoQ long is = refl
        by Info long is = refl
        by VoteQ long is = refl
        by Vote long is = refl
        by AppQ long is = refl
        by App long is = refl

      of_two : (two : AreOfTwo made d.ident coming (map (λ (h : Heard). h.arrival) hs ++ coming ∷ [])) → two.first.offer.to ≡ to_for d.ident.kind t.me → ⊥
      of_two two to_it = elim (lt_trichotomy two.first.step two.second.step) [
        | inl less ↦ elim (apart two.first.offer.what to_one two.first two.second two.twice.first_made two.twice.second_made two.twice.by refl (sym two.twice.what) to (sym two.twice.to ∙ to) two.twice.id less first_recent second_recent) [
          | inl far ↦ near far
          | inr part ↦ parted two.first two.second two.twice.first_made first_recent part pair.first pair.first_in (subst (λ (b : Arrival). IsFrameOf two.first b) (sym pair.one_is) two.of_first)
        ]
        | inr more ↦ elim (apart two.first.offer.what to_one two.second two.first two.twice.second_made two.twice.first_made (sym two.twice.by) (sym two.twice.what) refl (sym two.twice.to ∙ to) to (sym two.twice.id)
            (below (two.twice.apart) more) second_recent first_recent) [
              | inl (inl far) ↦ near (inr far)
              | inl (inr far) ↦ near (inl far)
              | inr part ↦ parted two.second two.first two.twice.second_made second_recent part pair.second pair.second_in (subst (λ (b : Arrival). IsFrameOf two.second b) (sym pair.next_is) two.of_second)
            ]
      ]
        where
          long : may_be_long two.first.offer.what ≡ true
          long = is_long two.first two.one two.twice.first_made
              (subst (λ (l : List Arrival). In two.one l) (sym two.split) (in_back two.one two.front (two.one ∷ (two.next ∷ two.back)) (inl refl))) two.of_first
              (omega (arith, ap length two.split, length-append two.front (two.one ∷ (two.next ∷ two.back))))

          to : two.first.offer.to ≡ n
          to = meant two long to_it

          to_one : is_long_to_member two.first.offer.what ≡ true
          to_one = to_member two.first.offer.what long (taken_it two)

          below : {a b : ℕ} → (a ≢ b) → b ≤ a → b < a
          below {a} {b} apart less = elim (eqb_tells a b) [ inl same ↦ absurd (apart same.1) | inr differ ↦ omega (arith, less, differ.1) ]

          lt_trichotomy : (a b : ℕ) → (a < b) ⊎ (b ≤ a)
          lt_trichotomy a b = elim (leb_tells b a) [ inl less ↦ inr less.1 | inr more ↦ inl (omega (arith, more.1)) ]

          pair : AreNeighbours (hs ++ last ∷ []) (IsClose limits all (lag limits)) two.one two.next
          pair = neighbours (IsClose limits all (lag limits)) (hs ++ last ∷ []) (taken c.session same_key).close two.front two.one two.next two.back (whole_list ∙ two.split)

          first : IsTimely limits all pair.first.arrival pair.first.at
          first = timely pair.first pair.first_in

          second : IsTimely limits all pair.second.arrival pair.second.at
          second = timely pair.second pair.second_in

          step_one : pair.first.arrival.mark.step ≡ two.first.step
          step_one = ap (λ (b : Arrival). b.mark.step) pair.one_is ∙ two.of_first.step

          step_two : pair.second.arrival.mark.step ≡ two.second.step
          step_two = ap (λ (b : Arrival). b.mark.step) pair.next_is ∙ two.of_second.step

          some_one : 1 ≤ pair.first.arrival.mark.step
          some_one = omega (arith, step_one, shows.holds.transfers.numbered two.first two.twice.first_made)

          some_two : 1 ≤ pair.second.arrival.mark.step
          some_two = omega (arith, step_two, shows.holds.transfers.numbered two.second two.twice.second_made)

          -- the second one came behind its making, and the frame that comes now is of the same step, and in time
          after_two : time_of all two.second.step ≤ pair.second.at
          after_two = subst (λ (m : ℕ). time_of all m ≤ pair.second.at) step_two (second.after some_two)

          made_lately : now.at ≤ time_of all two.second.step + limits.hold
          made_lately = subst (λ (m : ℕ). now.at ≤ time_of all m + limits.hold) (sym two.with_last)
              (timely_frame.soon (omega (arith, back)) (omega (arith, two.with_last, step_two, some_two)))

          second_recent : IsRecent limits all two.second.step
          second_recent = omega (arith, back, made_lately)

          second_came : limits.since ≤ pair.second.at
          second_came = omega (arith, second_recent, after_two)

          first_recent_then : limits.since ≤ pair.first.at
          first_recent_then = omega (arith, back, made_lately, after_two, pair.close.1 second_came)

          soon_one : pair.first.at ≤ time_of all two.first.step + limits.hold
          soon_one = subst (λ (m : ℕ). pair.first.at ≤ time_of all m + limits.hold) step_one (first.soon first_recent_then some_one)

          first_recent : IsRecent limits all two.first.step
          first_recent = omega (arith, back, made_lately, after_two, pair.close.1 second_came, soon_one)

          near : AreApart (limits.hold + 2000 + lag limits) (time_of all two.first.step) (time_of all two.second.step) → ⊥
          near far =
              apart_not limits.hold (lag limits) (time_of all two.first.step) (time_of all two.second.step) pair.first.at pair.second.at
              (subst (λ (m : ℕ). time_of all m ≤ pair.first.at) step_one (first.after some_one)) soon_one after_two
              (subst (λ (m : ℕ). pair.second.at ≤ time_of all m + limits.hold) step_two (second.soon second_came some_two))
              pair.close.0 (pair.close.1 second_came) far

      of_one : AreOfOne made d.ident (map (λ (h : Heard). h.arrival) hs ++ coming ∷ []) → LacksFrames made coming
      of_one one = record {
        before = map (λ (h : Heard). h.arrival) hs;
        ident = d.ident;
        one = one;
        long = elim (leb_tells (frame_count (length one.whose.offer.payload)) 3) [
          | inl few ↦ never (sym one.not_whole ∙ short_is_whole laws one.whose (shows.holds.transfers.ranges one.whose one.was_made).id few.1
              (map (λ (h : Heard). h.arrival) hs ++ coming ∷ []) coming one.each its.w.signature d.id d.payload cutting)
          | inr many ↦ omega (arith, many.1)
        ];
        signature = its.w.signature;
        id = d.id;
        payload = d.payload;
        cutting = cutting;
      }

      pub lacks : LacksFrames made coming
      lacks = elim (how_to laws w.ids (λ m i. (members.nodes m i).0) (λ m i. (members.nodes m i).1) made shows.holds.transfers setting w.frames shows.bus
          t.sessions coming came d gives kept broken of_member (inl some) c) [
            | inl two ↦ absurd (of_two two.0 two.1)
            | inr one ↦ of_one one
          ]

pub only_gaps : (laws : FrameLaws) (choice : ℕ → Bool) (made : List SentTransfer) (w : Cluster) (run : raft.World) (members : AreMembers w.ids)
    (shows : Shows choice made w run) (limits : Limits) (all : List Timed) → lag limits < 58000 → (now : Timed) (n k ms : ℕ)
    → now.row ≡ Rx n k ms → limits.since ≤ now.at - window limits → MemberBefore limits all n w now → (heard : List Queued) → ((what : What) → is_long_to_member what ≡ true → UsesIdsApart limits all made heard n what) → ComesInOrder limits all n heard (frame_at w.frames k)
    → ((x : SentTransfer) → In x made → may_be_long x.offer.what ≡ false → frame_count (length x.offer.payload) ≤ 1) → KeepsIn limits all n heard (w.member n).status → IsSingle w.ids w → cause w (Rx n k ms) ≡ Some unlawful.Torn
    → (moment : ℕ) × LacksFrames made (arrival_at (frame_at w.frames k) moment)
only_gaps laws choice made w run members shows limits all sane now n k ms row back before heard apart order others follows single e =
    let r : IsRefused w n k ms Torn = refused unlawful.Torn Torn of_torn w n k ms e in
    let b = torn_at r.server (arrival_at (frame_at w.frames k) ms) r.judgement in
    let inside = stands w k r.there in
    let member = forged laws choice made w run members shows limits all sane now n k ms row back before heard apart order follows r.member others r.server r.runs inside b.delivery b.gives b.is
    (marked_at r.server (arrival_at (frame_at w.frames k) ms) r.judgement) (single.bus (frame_at w.frames k) inside) in (
      max r.server.now ms,
      lacks laws choice made w run members shows limits all sane now n k ms row back before heard apart order follows r.member others r.server r.runs inside b.delivery b.gives b.is member,
    )
