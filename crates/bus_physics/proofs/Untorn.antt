-- An allocatee on a physical bus puts no Allocation together of two.
use Rattle.std.proofs.Common.{◌≡◌, ◌≢◌, ℕ, ◌+◌, ◌<◌, ◌≤◌, Bool, true, false, List, [], ◌∷◌, ◌++◌, length, map, refl, sym, ap, subst, ◌∙◌, arith, ◌⊎◌, inl, inr, Some}
use Rattle.std.specs.Prelude.{◌-◌, ◌==◌, ◌&&◌, max, nat_eq, not, slice_index_or, Option, None, Result, Ok, if◌then◌else◌}
use Rattle.can_frame.specs.declared.step.Why.{Why}
use Rattle.transfer_rx.specs.declared.accept.Wanted.{Wanted}
use Rattle.transfer_rx.specs.Outcome.{out_of_turn}
use Rattle.transfer_rx.specs.Run.{has_session_key, is_of}
use Rattle.transfer_rx.proofs.Completeness.{is_own}
use Rattle.bus_agreement.proofs.Pieces.{no_piece, piece_id}
use Rattle.bus_physics.proofs.FollowingDevices.{KeptIn}
use Rattle.std.proofs.lemmas.Bool.Decides.{eqb_tells, leb_tells}
use Rattle.std.proofs.lemmas.List.{get_or-map, length-map, map-append}
use Rattle.can_frame.specs.declared.identifier.Ident.{Ident}
use Rattle.can_frame.specs.declared.identifier.Kind.{Kind}
use Rattle.can_frame.specs.declared.identifier.Kind.TheVariants.{Message, Anonymous, Request, Response}
use Rattle.can_frame.specs.declared.mark.Mark.{Mark}
use Rattle.can_frame.specs.declared.step.Judged.TheVariants.{Torn}
use Rattle.can_frame.specs.declared.step.What.TheVariants.{Alloc}
use Rattle.can_frame.specs.declared.step.Why.TheVariants.{Start, Toggle, TransferId}
use Rattle.can_frame.specs.Cutting.{Piece, frames_of as pieces_of, piece_from}
use Rattle.can_frame.specs.Kinds.{is_anonymous}
use Rattle.raft_model.specs.Lists.{In}
use Rattle.raft_model.specs.Runs as raft
use Rattle.bus_rows.specs.declared.row.Row.{Row}
use Rattle.bus_rows.specs.declared.row.Row.TheVariants.{ARx}
use Rattle.transfer_rx.specs.declared.key.Key.{Key}
use Rattle.transfer_rx.specs.Acceptance.{first_signature, wanted}
use Rattle.transfer_rx.specs.Keys.{key_of}
use Rattle.transfer_rx.specs.Marks.{is_whole}
use Rattle.transfer_rx.specs.Origin.{IsIdleOrOf}
use Rattle.transfer_rx.specs.Reassembly.{Arrival, Delivery, Drops, Gives, Setting, Step, alone, answer, at_session, in_turn, piece_in, session_step}
use Rattle.transfer_rx.specs.Sessions.{Session, is_recent, next_id, others, recent_sessions, restarts, session_for, session_of}
use Rattle.transfer_rx.specs.Sound.{Completes, IsDelivered}
use Rattle.transfer_rx.proofs.Steps.{anonymous, of_session}
use Rattle.transfer_tx.specs.Queue.{Queued}
use Rattle.allocatee.specs.Accepted as device
use Rattle.allocatee.specs.Allocatee.{Device}
use Rattle.alloc_spec.specs.Transfers.{SentTransfer, signature_of}
use Rattle.bus_spec.specs.declared.unlawful.Unlawful.TheVariants as unlawful
use Rattle.alloc_spec.specs.ClusterMembers.{AreMembers}
use Rattle.bus_spec.specs.Cluster.{Cluster, arrival_at, frame_at}
use Rattle.bus_spec.specs.Lawful.{cause, is_forged}
use Rattle.bus_agreement.specs.Frames.{CameFrom}
use Rattle.bus_agreement.specs.LawsBelow.{FrameLaws}
use Rattle.bus_agreement.specs.Shows.{Shows}
use Rattle.bus_agreement.proofs.DeliveredTransfers.{HasTaken, IsOfKey}
use Rattle.bus_agreement.proofs.Idents.{IsWanted, one_what, wanted_is}
use Rattle.bus_agreement.proofs.Lists.{equal, in_append, in_back, in_front, never, tell}
use Rattle.bus_agreement.proofs.OneRow.{stands}
use Rattle.bus_agreement.proofs.WholeTransfers.{forged_allocation}
use Rattle.bus_rows.specs.Timed.{Timed}
use Rattle.bus_physics.specs.Physics.{AllocatesApart, AreApart, HasComeOf, ComesInOrderToDevice, ComesInTime, HasKey, IsParted, GoesOn, Limits, WhereIts, Reading, now_of, time_of, IsRecent, window}
use Rattle.bus_physics.specs.Reuse.{AreOfOne, AreOfTwo, IsFrameOf}
use Rattle.bus_physics.proofs.Devices.{IsKnown, IsTimely, StandsBefore, soon, IsClose}
use Rattle.bus_physics.proofs.InTime.{AreClose, Heard, IsIdle, IsInTime, IsYoung, close_more, comes, filtered, found}
use Rattle.bus_physics.proofs.Refusals.{IsRefusedAt, of_torn, marked_at_device, refused_at, torn_at_device}
use Rattle.bus_physics.proofs.ShortAllocations.{AreShortOf}
use Rattle.bus_physics.proofs.Short.{short_is_whole}
use Rattle.bus_physics.proofs.Single.{IsOrigin, IsSingle}
use Rattle.bus_physics.proofs.Torn.{completes, forged_has_source, how, place_of}

-- ---- neighbours among frames that came soon after each other

-- two neighbours, and when they came
pub record AreNeighbours (hs : List Heard) (Close : ℕ → ℕ → Type 0) (one next : Arrival) : Type 0 where
  pub first : Heard
  pub second : Heard
  pub first_in : In first hs
  pub second_in : In second hs
  pub one_is : first.arrival ≡ one
  pub next_is : second.arrival ≡ next
  pub close : Close first.at second.at

pub neighbours : (Close : ℕ → ℕ → Type 0) (hs : List Heard) → AreClose Close hs → (front : List Arrival) (one next : Arrival) (back : List Arrival)
    → map (λ (h : Heard). h.arrival) hs ≡ front ++ (one ∷ (next ∷ back)) → AreNeighbours hs Close one next
neighbours Close [] close [] one next back e = absurd (cc (e))
neighbours Close [] close (f ∷ front) one next back e = absurd (cc (e))
neighbours Close (h ∷ []) close [] one next back e = absurd (cc (e))
neighbours Close (h ∷ []) close (f ∷ []) one next back e = absurd (cc (e))
neighbours Close (h ∷ []) close (f ∷ g ∷ front) one next back e = absurd (cc (e))
neighbours Close (h ∷ k ∷ rest) close [] one next back e = record {
  first = h;
  second = k;
  first_in = inl refl;
  second_in = inr (inl refl);
  one_is = cc (e);
  next_is = cc (e);
  close = close.0;
}
neighbours Close (h ∷ k ∷ rest) close (f ∷ front) one next back e =
    let r = neighbours Close (k ∷ rest) close.1 front one next back (tails h.arrival f (map (λ (x : Heard). x.arrival) (k ∷ rest)) (front ++ (one ∷ (next ∷ back))) e) in
    record {
      first = r.first;
      second = r.second;
      first_in = inr r.first_in;
      second_in = inr r.second_in;
      one_is = r.one_is;
      next_is = r.next_is;
      close = r.close;
    }
  where
    tails : (a b : Arrival) (xs ys : List Arrival) → a ∷ xs ≡ b ∷ ys → xs ≡ ys
    tails a b xs ys e = cc (e)

pub map_in : (hs : List Heard) (b : Arrival) → In b (map (λ (h : Heard). h.arrival) hs) → (h : Heard) × In h hs × (h.arrival ≡ b)
map_in [] b i = absurd i
map_in (h ∷ hs) b (inl e) = (h, inl refl, sym e)
map_in (h ∷ hs) b (inr i) = let r = map_in hs b i in (r.0, inr r.1, r.2)

pub mapped : {A : Type 0} (f : Arrival → A) (hs : List Heard) → map (λ (h : Heard). f h.arrival) hs ≡ map f (map (λ (h : Heard). h.arrival) hs)
mapped f [] = refl
mapped f (h ∷ hs) = ap (λ (l : List _). f h.arrival ∷ l) (mapped f hs)

-- ---- what the frame that is torn comes to

module _ (limits : Limits) (all : List Timed) (sane : limits.drift < 58000) (past : List Reading) (came : ℕ) (frames : List Queued) (sessions : List Session)
    (inv : (s : Session) → In s sessions → IsInTime (IsKnown limits all frames) (IsClose limits all limits.drift) past s) (arrival : Arrival)
    (goes : GoesOn limits limits.drift past came arrival.moment) (key : Key) where
  abbrev new : Heard
  new = record { arrival = arrival; at = came }

  -- the frames that its session had taken, each with the time at which it came
  pub record TakenInTime (session : Session) : Type 0 where
    pub heard : List Heard
    pub each : (h : Heard) → In h heard → IsKnown limits all frames key h
    pub taken : session.taken ≡ map (λ (h : Heard). piece_in h.arrival) heard
    pub marks : session.marks ≡ map (λ (h : Heard). h.arrival.mark) heard
    pub close : AreClose (IsClose limits all limits.drift) (heard ++ new ∷ [])

  taken_by : (session : Session) → session.key ≡ key
      → IsIdle session ⊎ IsYoung (IsKnown limits all frames) (IsClose limits all limits.drift) past sessions inv arrival.moment session → TakenInTime session
  taken_by session own (inl none) = record { heard = []; each = λ h i. absurd i; taken = none.0; marks = none.1; close = tt }
  taken_by session own (inr is) = record {
    heard = is.0.heard;
    each = λ h i. subst (λ (k : Key). IsKnown limits all frames k h) own (is.0.each h i);
    taken = is.0.taken;
    marks = is.0.marks;
    close = close_more (IsClose limits all limits.drift) past came arrival.moment (soon limits all limits.drift sane past came arrival.moment goes) arrival
        is.0.heard session.moment is.1 is.0.close is.0.ends;
  }

  pub timed_taken : (session : Session) → IsIdleOrOf key (recent_sessions arrival.moment sessions) session → TakenInTime session
  timed_taken session is = taken_by session is.own
      (comes (IsKnown limits all frames) (IsClose limits all limits.drift) past sessions inv arrival.moment key session is)

  -- all of them stand among these
  module _ (more : List Queued) (within : (f : Queued) → In f frames → In f more) where
    came_from : (b : Arrival) → CameFrom frames b → CameFrom more b
    came_from b c =
        record { frame = c.frame; there = within c.frame c.there; id = c.id; bytes = c.bytes; mark = c.mark }

    pub each_taken : (hs : List Heard) → ((h : Heard) → In h hs → IsKnown limits all frames key h) → (b : Arrival) → In b (map (λ (h : Heard). h.arrival) hs)
        → CameFrom more b × IsOfKey device.setting key b
    each_taken hs each b i =
        let r = map_in hs b i in
        let known = each r.0 r.1 in
        (subst (λ (c : Arrival). CameFrom more c) r.2 (came_from r.0.arrival known.came), subst (λ (c : Arrival). IsOfKey device.setting key c) r.2 known.of_key)

  abbrev pub has : (more : List Queued) → ((f : Queued) → In f frames → In f more) → (session : Session)
      → IsIdleOrOf key (recent_sessions arrival.moment sessions) session → HasTaken more device.setting key session
  has more within session is = record {
    arrivals = map (λ (h : Heard). h.arrival) (timed_taken session is).heard;
    each = each_taken more within (timed_taken session is).heard (timed_taken session is).each;
    taken = (timed_taken session is).taken ∙ mapped piece_in (timed_taken session is).heard;
    marks = (timed_taken session is).marks ∙ mapped (λ (b : Arrival). b.mark) (timed_taken session is).heard;
  }

pub in_mapped : (h : Heard) (hs : List Heard) → In h hs → In h.arrival (map (λ (g : Heard). g.arrival) hs)
in_mapped h [] i = absurd i
in_mapped h (g ∷ hs) (inl e) = inl (ap (λ (x : Heard). x.arrival) e)
in_mapped h (g ∷ hs) (inr i) = inr (in_mapped h hs i)

pub in_marks : (h : Heard) (hs : List Heard) → In h hs → In h.arrival.mark (map (λ (g : Heard). g.arrival.mark) hs)
in_marks h [] i = absurd i
in_marks h (g ∷ hs) (inl e) = inl (ap (λ (x : Heard). x.arrival.mark) e)
in_marks h (g ∷ hs) (inr i) = inr (in_marks h hs i)

pub tails_of : (all : List Arrival) (signature id : ℕ) (payload : List ℕ) → map piece_in all ≡ pieces_of signature id payload → (b : Arrival) → In b all
    → (piece_in b).tail.id ≡ id
tails_of all signature id payload cutting b i =
    let at = place_of all b b i in
    let inside : at.0 < length (pieces_of signature id payload) = omega (arith, at.1, length-map all piece_in, ap length cutting) in
    ap (λ (a : Arrival). (piece_in a).tail.id) (sym at.2)
    ∙ (ap (λ (p : Piece). p.tail.id) (sym (get_or-map piece_in all at.0 b no_piece at.1))
    ∙ (ap (λ (l : List Piece). (slice_index_or l at.0 no_piece).tail.id) cutting ∙ piece_id signature id payload at.0 inside))

-- a frame that gives a delivery has the transfer ID that its session expects
pub in_its_turn : (setting : Setting) (sessions : List Session) (arrival : Arrival) (w : Wanted) → wanted setting.rows setting.me arrival.id ≡ Ok w
    → is_anonymous w.ident.kind ≡ false → (session : Session)
    → session_for setting.sessions (key_of w.ident) (piece_in arrival).tail arrival.moment (recent_sessions arrival.moment sessions) ≡ Ok session
    → (d : Delivery) → answer setting sessions arrival ≡ Gives d → (piece_in arrival).tail.id ≡ session.expected
unfolding session_step
in_its_turn setting sessions arrival w e known session there d gives =
    by (out_of_turn (piece_in arrival).tail session) refl
    (sym (ap (λ (r : Result Session Why). (at_session setting.blocks w (piece_in arrival) arrival.mark arrival.moment (recent_sessions arrival.moment sessions) r).answer) there)
    ∙ (sym (ap (λ (s : Step). s.answer) (of_session setting sessions arrival w e known)) ∙ gives))
  where
    same : (b : Bool) → nat_eq (piece_in arrival).tail.id session.expected ≡ b → (rest : Option Why) → (if b then rest else Some TransferId) ≡ None
        → (piece_in arrival).tail.id ≡ session.expected
    same true is rest none = equal (piece_in arrival).tail.id session.expected is
    same false is rest none = absurd (cc (none))

    by : (o : Option Why) → out_of_turn (piece_in arrival).tail session ≡ o
        → (in_turn setting.blocks w (piece_in arrival) arrival.mark arrival.moment (others (key_of w.ident) (recent_sessions arrival.moment sessions)) session o).answer ≡ Gives d
        → (piece_in arrival).tail.id ≡ session.expected
    by None turn answered = same (nat_eq (piece_in arrival).tail.id session.expected) refl _ turn
    by (Some why) turn answered = absurd (cc (answered))

-- ---- the row

only_allocations : (kind : Kind) (number s : ℕ) → first_signature device.rows kind number ≡ Some s → is_anonymous kind ≡ false → (kind ≡ Message) × (number ≡ 1)
unfolding device.rows
only_allocations Message number s e known = (refl, elim (eqb_tells 1 number) [ inl same ↦ sym same.1 | inr apart ↦ absurd (cc (rw apart.0 at e)) ])
only_allocations Anonymous number s e known = never (sym known)
only_allocations Request number s e known = absurd (cc (e))
only_allocations Response number s e known = absurd (cc (e))

pub unmarked_not : (step : ℕ) → step ≡ 0 → nat_eq step 0 ≡ false → ⊥
unmarked_not step e marked = elim (eqb_tells step 0) [ inl s ↦ never (sym marked ∙ s.0) | inr apart ↦ apart.1 e ]

pub one_ident : (x y : Ident) → Some x ≡ Some y → x ≡ y
one_ident x y e = cc (e)

one_delivery : (x y : Delivery) → Gives x ≡ Gives y → x ≡ y
one_delivery x y e = cc (e)

-- an anonymous frame that delivers is whole where it is the first of its transfer
pub alone_is : (ident : Ident) (piece : Piece) (mark : Mark) (d : Delivery) → alone ident piece mark ≡ Gives d
    → record { ident = ident; id = piece.tail.id; payload = piece.bytes; mark = mark; whole = is_whole (mark ∷ []) } ≡ d
alone_is ident piece mark d e =
    by (record { ident = ident; id = piece.tail.id; payload = piece.bytes; mark = mark; whole = is_whole (mark ∷ []) })
    (piece.tail.start && piece.tail.end) piece.tail.toggle e
  where
    by : (it : Delivery) (whole toggle : Bool) → (if whole then (if toggle then Drops Toggle else Gives it) else Drops Start) ≡ Gives d → it ≡ d
    by it true true e = absurd (cc (e))
    by it true false e = one_delivery it d e
    by it false toggle e = absurd (cc (e))

pub first_alone : (mark : Mark) → mark.place ≡ 0 → is_whole (mark ∷ []) ≡ true
first_alone mark e = by (nat_eq mark.step mark.step) (nat_eq mark.place 0) (same mark.step mark.step refl) (same mark.place 0 e) where
  same : (a b : ℕ) → a ≡ b → nat_eq a b ≡ true
  same a b h = elim (eqb_tells a b) [ inl s ↦ s.0 | inr apart ↦ absurd (apart.1 h) ]

  by : (a b : Bool) → a ≡ true → b ≡ true → ((a && b) && true) ≡ true
  by true true f g = refl
  by true false f g = never g
  by false b f g = never f

of_it : {A : Type 0} (a : ℕ) → WhereIts (a == a) A → A
of_it {A} a is = by (a == a) refl is where
  by : (b : Bool) → (a == a) ≡ b → WhereIts b A → A
  by true e x = x
  by false e x = elim (eqb_tells a a) [ inl s ↦ never (sym e ∙ s.0) | inr n ↦ absurd (n.1 refl) ]

module _ (laws : FrameLaws) (choice : ℕ → Bool) (made : List SentTransfer) (w : Cluster) (run : raft.World) (members : AreMembers w.ids)
    (shows : Shows choice made w run) (limits : Limits) (all : List Timed) (sane : limits.drift < 58000) (now : Timed) (a k ms word : ℕ)
    (row : now.row ≡ ARx a k ms word) (back : limits.since ≤ now.at - window limits) (heard : List Queued) (before : StandsBefore limits all a w heard now)
    (on_bus : (f : Queued) → In f heard → In f w.frames)
    (few : AreShortOf made) (Ordered : Type 0) (slowly : AllocatesApart limits all made heard (frame_at w.frames k) Ordered) (order : Ordered → ComesInOrderToDevice limits all heard (frame_at w.frames k))
    (follows : Ordered → KeptIn limits all a heard (w.allocatee a))
    (x : Device) (there : w.allocatee a ≡ Some x) (inside : In (frame_at w.frames k) w.frames) where
  abbrev coming : Arrival
  coming = arrival_at (frame_at w.frames k) (max x.asking.moment ms)

  physical : GoesOn limits limits.drift before.past now.at (now_of (w.allocatee a) ms) × ComesInTime limits all now.at (frame_at w.frames k)
  physical = of_it a (subst (λ (r : Row). Rattle.bus_physics.specs.Physics.RowIsPhysical limits all a before.past w now.at r) row before.row)

  goes : GoesOn limits limits.drift before.past now.at (max x.asking.moment ms)
  goes = subst (λ (o : _). GoesOn limits limits.drift before.past now.at (now_of o ms)) there physical.0

  module _ (d : Delivery) (gives : answer device.setting x.sessions coming ≡ Gives d) (broken : d.whole ≡ false) where
    abbrev its : IsDelivered device.setting x.sessions coming d
    its = laws.delivered device.setting x.sessions coming d gives

    wants : IsWanted device.rows 0 coming.id its.w.ident
    wants = wanted_is device.rows 0 coming.id its.w its.accepted

    -- a frame without a source is whole by itself
    no_source : nat_eq (frame_at w.frames k).mark.step 0 ≡ false → IsOrigin w.ids (frame_at w.frames k) → is_anonymous d.ident.kind ≡ true → ⊥
    no_source marked (inl none) e = unmarked_not (frame_at w.frames k).mark.step none marked
    no_source marked (inr (inr member)) e = never (sym (forged_has_source w.ids member.ident member.forged)
        ∙ (ap (λ (i : Ident). is_anonymous i.kind) (one_ident member.ident its.w.ident (sym member.read ∙ wants.read))
        ∙ (ap (λ (i : Ident). is_anonymous i.kind) (sym its.ident) ∙ e)))
    no_source marked (inr (inl first)) e =
        let kind : is_anonymous its.w.ident.kind ≡ true = ap (λ (i : Ident). is_anonymous i.kind) (sym its.ident) ∙ e in
        let same = alone_is its.w.ident (piece_in coming) coming.mark d
        (sym (ap (λ (s : Step). s.answer) (anonymous device.setting x.sessions coming its.w its.accepted kind)) ∙ gives) in
        never (sym broken ∙ (ap (λ (y : Delivery). y.whole) (sym same) ∙ first_alone (frame_at w.frames k).mark first.0))

    module _ (known : is_anonymous d.ident.kind ≡ false) where
      allocation : (d.ident.kind ≡ Message) × (d.ident.number ≡ 1)
      allocation = only_allocations d.ident.kind d.ident.number wants.signature.0
          (subst (λ (i : Ident). first_signature device.rows i.kind i.number ≡ Some wants.signature.0) (sym its.ident) wants.signature.1) known

      forged : is_forged w.ids (Some d.ident) ≡ true
      forged = forged_allocation w.ids d.ident allocation.0 allocation.1

      abbrev taken : (session : Session) → IsIdleOrOf (key_of d.ident) (recent_sessions coming.moment x.sessions) session
          → TakenInTime limits all sane before.past now.at heard x.sessions (before.inv x there) coming goes (key_of d.ident) session
      taken session is = timed_taken limits all sane before.past now.at heard x.sessions (before.inv x there) coming goes (key_of d.ident) session is

      abbrev kept : (session : Session) → IsIdleOrOf (key_of d.ident) (recent_sessions coming.moment x.sessions) session
          → HasTaken w.frames device.setting (key_of d.ident) session
      kept session is = has limits all sane before.past now.at heard x.sessions (before.inv x there) coming goes (key_of d.ident) w.frames on_bus session is

      came : CameFrom w.frames coming
      came = record { frame = frame_at w.frames k; there = inside; id = refl; bytes = refl; mark = refl }

      c : Completes device.setting x.sessions its.w coming d
      c = completes laws w.ids (λ n i. (members.nodes n i).0) (λ n i. (members.nodes n i).1) made shows.holds.transfers device.setting w.frames shows.bus x.sessions
          coming came d gives kept broken forged (inr allocation.0)

      abbrev same_key : IsIdleOrOf (key_of d.ident) (recent_sessions coming.moment x.sessions) c.session
      same_key = subst (λ (i : Ident). IsIdleOrOf (key_of i) (recent_sessions coming.moment x.sessions) c.session) (sym its.ident)
          (laws.comes device.setting.sessions coming.moment (key_of its.w.ident) (piece_in coming).tail (recent_sessions coming.moment x.sessions) c.session c.there)

      abbrev hs : List Heard
      hs = (taken c.session same_key).heard

      abbrev last : Heard
      last = record { arrival = coming; at = now.at }

      timely : (h : Heard) → In h (hs ++ last ∷ []) → IsTimely limits all h.arrival h.at
      timely h i = elim (in_append h hs (last ∷ []) i) [
        | inl j ↦ ((taken c.session same_key).each h j).timely
        | inr (inl e) ↦ subst (λ (g : Heard). IsTimely limits all g.arrival g.at) (sym e)
            (record { after = physical.1.after; soon = physical.1.soon })
        | inr (inr j) ↦ absurd j
      ]

      whole_list : map (λ (h : Heard). h.arrival) (hs ++ last ∷ []) ≡ map (λ (h : Heard). h.arrival) hs ++ coming ∷ []
      whole_list = map-append (λ (h : Heard). h.arrival) hs (last ∷ [])

      cutting : map piece_in (map (λ (h : Heard). h.arrival) hs ++ coming ∷ []) ≡ pieces_of its.w.signature d.id d.payload
      cutting = map-append piece_in (map (λ (h : Heard). h.arrival) hs) (coming ∷ [])
          ∙ (ap (λ (l : List Piece). l ++ piece_in coming ∷ []) (sym (kept c.session same_key).taken) ∙ c.cutting.frames)

      in_key : (key : Key) (f : Queued) (b : Arrival) → is_of device.setting key b ≡ true → f.id ≡ b.id → HasKey key f
      unfolding is_of
      in_key key f b is same = ap (λ (i : ℕ). has_session_key key (wanted device.rows 0 i)) same ∙ is

      known_one : is_anonymous its.w.ident.kind ≡ false
      known_one = ap (λ (i : Ident). is_anonymous i.kind) (sym its.ident) ∙ known

      coming_is : is_of device.setting (key_of d.ident) coming ≡ true
      coming_is = subst (λ (i : Ident). is_of device.setting (key_of i) coming ≡ true) (sym its.ident) (is_own device.setting its.w coming its.accepted known_one)

      expected : (piece_in coming).tail.id ≡ c.session.expected
      expected = in_its_turn device.setting x.sessions coming its.w its.accepted known_one c.session c.there d gives

      piece_tail : (h : Heard) → In h (hs ++ last ∷ []) → (piece_in h.arrival).tail.id ≡ d.id
      piece_tail h i = tails_of (map (λ (g : Heard). g.arrival) hs ++ coming ∷ []) its.w.signature d.id d.payload cutting h.arrival
          (subst (λ (l : List Arrival). In h.arrival l) whole_list (in_mapped h (hs ++ last ∷ []) i))

      tail_is : (y : SentTransfer) (h : Heard) → In y made → IsFrameOf y h.arrival → (piece_in h.arrival).tail.id ≡ y.offer.id
      tail_is y h made_there is =
          let place = piece_id (signature_of y.offer.what) y.offer.id y.offer.payload h.arrival.mark.place is.place in
          let read : piece_in h.arrival ≡ slice_index_or (pieces_of (signature_of y.offer.what) y.offer.id y.offer.payload) h.arrival.mark.place (piece_from []) =
          ap piece_from is.bytes ∙ laws.piece_read _ (subst (λ (m : ℕ). m < 32) (sym place) (shows.holds.transfers.ranges y made_there).id) in
          ap (λ (p : Piece). p.tail.id) read ∙ place

      offer_id : (y : SentTransfer) (h : Heard) → In y made → IsFrameOf y h.arrival → In h (hs ++ last ∷ []) → y.offer.id ≡ c.session.expected
      offer_id y h made_there is i = sym (tail_is y h made_there is) ∙ (piece_tail h i ∙ (its.id ∙ expected))

      -- a frame of it came
      has_come : (y : SentTransfer) (h : Heard) → In y made → IsFrameOf y h.arrival → In h (hs ++ last ∷ [])
          → HasComeOf (heard ++ frame_at w.frames k ∷ []) y
      has_come y h made_there is i = by (elim (in_append h hs (last ∷ []) i) [
        | inl j ↦ let known = ((taken c.session same_key).each h j).came in
            record {
              frame = known.frame;
              there = in_front known.frame heard (frame_at w.frames k ∷ []) known.there;
              id = known.id;
              bytes = known.bytes;
              mark = known.mark;
            }
        | inr (inl e) ↦ subst (λ (g : Heard). CameFrom (heard ++ frame_at w.frames k ∷ []) g.arrival) (sym e)
            (record {
              frame = frame_at w.frames k;
              there = in_back (frame_at w.frames k) heard (frame_at w.frames k ∷ []) (inl refl);
              id = refl;
              bytes = refl;
              mark = refl;
            })
        | inr (inr j) ↦ absurd j
      ])
        where
          by : CameFrom (heard ++ frame_at w.frames k ∷ []) h.arrival → HasComeOf (heard ++ frame_at w.frames k ∷ []) y
          by from = record {
            frame = from.frame;
            came = from.there;
            ident = sym from.id ∙ is.ident;
            step = sym (ap (λ (m : Mark). m.step) from.mark) ∙ is.step;
            id = sym (ap (λ (bytes : List ℕ). (piece_from bytes).tail.id) from.bytes) ∙ tail_is y h made_there is;
          }

      in_sessions : (m : Mark) → In m c.session.marks → In c.session x.sessions
      in_sessions m j = by same_key.idle_or_there where
        by : ((c.session.taken ≡ []) × (c.session.marks ≡ [])) ⊎ (session_of (key_of d.ident) (recent_sessions coming.moment x.sessions) ≡ Some c.session) → In c.session x.sessions
        by (inl none) = absurd (subst (λ (l : List Mark). In m l) none.1 j)
        by (inr found_there) = (filtered (is_recent coming.moment) x.sessions c.session (found (key_of d.ident) (recent_sessions coming.moment x.sessions) c.session found_there)).0

      parted : (y z : SentTransfer) → In y made → IsRecent limits all y.step → Ordered × IsParted heard y z → (h : Heard) → In h (hs ++ last ∷ []) → IsFrameOf y h.arrival → ⊥
      parted y z made_there recent part h i is = elim (in_append h hs (last ∷ []) i) [
        | inl j ↦
            let mark : In h.arrival.mark c.session.marks =
            subst (λ (l : List Mark). In h.arrival.mark l) (sym (taken c.session same_key).marks) (in_marks h hs j) in
            let of_it : HasKey c.session.key part.1.frame = subst (λ (k : Key). HasKey k part.1.frame) (sym c.key)
            (in_key (key_of d.ident) part.1.frame h.arrival ((taken c.session same_key).each h j).is (part.1.ident ∙ sym is.ident)) in
            absurd (omega (
              arith,
              follows part.0 x there c.session (in_sessions h.arrival.mark mark) part.1.frame part.1.came of_it (again (offer_id y h made_there is i)) h.arrival.mark mark
                  (subst (λ (m : ℕ). IsRecent limits all m) (sym is.step) recent),
              is.step,
              part.1.later,
            ))
        | inr (inl e) ↦
            let of_it : HasKey (key_of d.ident) part.1.frame =
            in_key (key_of d.ident) part.1.frame coming coming_is (part.1.ident ∙ (sym is.ident ∙ ap (λ (g : Heard). g.arrival.id) e)) in
            let own : HasKey (key_of d.ident) (frame_at w.frames k) = in_key (key_of d.ident) (frame_at w.frames k) coming coming_is refl in
            absurd (omega (
              arith,
              order part.0 (subst (λ (m : ℕ). IsRecent limits all m) (sym is.step ∙ ap (λ (g : Heard). g.arrival.mark.step) e) recent)
                  part.1.frame (key_of d.ident) part.1.came of_it own,
              ap (λ (g : Heard). g.arrival.mark.step) e,
              is.step,
              part.1.later,
            ))
        | inr (inr j) ↦ absurd j
      ]
        where
          again : y.offer.id ≡ c.session.expected → restarts (piece_from part.1.frame.bytes).tail c.session ≡ true
          again same = ap (λ (b : Bool). b && (not (nat_eq (piece_from part.1.frame.bytes).tail.id c.session.expected) && not (nat_eq (next_id (piece_from part.1.frame.bytes).tail.id) c.session.expected))) part.1.first
              ∙ (ap (λ (b : Bool). not b && not (nat_eq (next_id (piece_from part.1.frame.bytes).tail.id) c.session.expected)) (ap (nat_eq (piece_from part.1.frame.bytes).tail.id) (sym same) ∙ part.1.other)
              ∙ ap (λ (b : Bool). not b) (ap (nat_eq (next_id (piece_from part.1.frame.bytes).tail.id)) (sym same) ∙ part.1.not_before))

      of_two : AreOfTwo made d.ident coming (map (λ (h : Heard). h.arrival) hs ++ coming ∷ []) → ⊥
      of_two two = elim (lt_trichotomy two.first.step two.second.step) [
        | inl less ↦ elim (slowly two.first two.second two.twice.first_made two.twice.second_made what (sym two.twice.what ∙ what) two.twice.by two.twice.id less first_recent second_recent first_come second_come) [
          | inl far ↦ near far
          | inr part ↦ parted two.first two.second two.twice.first_made first_recent part pair.first pair.first_in (subst (λ (b : Arrival). IsFrameOf two.first b) (sym pair.one_is) two.of_first)
        ]
        | inr more ↦ elim (slowly two.second two.first two.twice.second_made two.twice.first_made (sym two.twice.what ∙ what) what (sym two.twice.by) (sym two.twice.id)
            (below (two.twice.apart) more) second_recent first_recent second_come first_come) [
              | inl (inl far) ↦ near (inr far)
              | inl (inr far) ↦ near (inl far)
              | inr part ↦ parted two.second two.first two.twice.second_made second_recent part pair.second pair.second_in (subst (λ (b : Arrival). IsFrameOf two.second b) (sym pair.next_is) two.of_second)
            ]
      ]
        where
          what : two.first.offer.what ≡ Alloc
          what = one_what two.first.offer.what Alloc Message 1 (two.kind ∙ allocation.0) refl (two.number ∙ allocation.1) refl

          below : {a b : ℕ} → (a ≢ b) → b ≤ a → b < a
          below {a} {b} apart less = elim (eqb_tells a b) [ inl same ↦ absurd (apart same.1) | inr differ ↦ omega (arith, less, differ.1) ]

          lt_trichotomy : (a b : ℕ) → (a < b) ⊎ (b ≤ a)
          lt_trichotomy a b = elim (leb_tells b a) [ inl less ↦ inr less.1 | inr more ↦ inl (omega (arith, more.1)) ]

          pair : AreNeighbours (hs ++ last ∷ []) (IsClose limits all limits.drift) two.one two.next
          pair = neighbours (IsClose limits all limits.drift) (hs ++ last ∷ []) (taken c.session same_key).close two.front two.one two.next two.back (whole_list ∙ two.split)

          apart_not : (m n p q : ℕ) → m ≤ p → p ≤ m + limits.hold → n ≤ q → q ≤ n + limits.hold → p ≤ q → q ≤ p + (2000 + limits.drift)
              → AreApart (limits.hold + 2000 + limits.drift) m n → ⊥
          apart_not m n p q a b c d e f (inl h) = absurd (omega (arith, a, b, c, d, e, f, h))
          apart_not m n p q a b c d e f (inr h) = absurd (omega (arith, a, b, c, d, e, f, h))

          first_come : HasComeOf (heard ++ frame_at w.frames k ∷ []) two.first
          first_come = has_come two.first pair.first two.twice.first_made (subst (λ (b : Arrival). IsFrameOf two.first b) (sym pair.one_is) two.of_first) pair.first_in

          second_come : HasComeOf (heard ++ frame_at w.frames k ∷ []) two.second
          second_come = has_come two.second pair.second two.twice.second_made (subst (λ (b : Arrival). IsFrameOf two.second b) (sym pair.next_is) two.of_second) pair.second_in

          first : IsTimely limits all pair.first.arrival pair.first.at
          first = timely pair.first pair.first_in

          second : IsTimely limits all pair.second.arrival pair.second.at
          second = timely pair.second pair.second_in

          step_one : pair.first.arrival.mark.step ≡ two.first.step
          step_one = ap (λ (b : Arrival). b.mark.step) pair.one_is ∙ two.of_first.step

          step_two : pair.second.arrival.mark.step ≡ two.second.step
          step_two = ap (λ (b : Arrival). b.mark.step) pair.next_is ∙ two.of_second.step

          some_one : 1 ≤ pair.first.arrival.mark.step
          some_one = omega (arith, step_one, shows.holds.transfers.numbered two.first two.twice.first_made)

          some_two : 1 ≤ pair.second.arrival.mark.step
          some_two = omega (arith, step_two, shows.holds.transfers.numbered two.second two.twice.second_made)

          -- the second one came behind its making, and the frame that comes now is of the same step, and in time
          after_two : time_of all two.second.step ≤ pair.second.at
          after_two = subst (λ (m : ℕ). time_of all m ≤ pair.second.at) step_two (second.after some_two)

          made_lately : now.at ≤ time_of all two.second.step + limits.hold
          made_lately = subst (λ (m : ℕ). now.at ≤ time_of all m + limits.hold) (sym two.with_last)
              (physical.1.soon (omega (arith, back)) (omega (arith, two.with_last, step_two, some_two)))

          second_recent : IsRecent limits all two.second.step
          second_recent = omega (arith, back, made_lately)

          second_came : limits.since ≤ pair.second.at
          second_came = omega (arith, second_recent, after_two)

          first_recent_then : limits.since ≤ pair.first.at
          first_recent_then = omega (arith, back, made_lately, after_two, pair.close.1 second_came)

          soon_one : pair.first.at ≤ time_of all two.first.step + limits.hold
          soon_one = subst (λ (m : ℕ). pair.first.at ≤ time_of all m + limits.hold) step_one (first.soon first_recent_then some_one)

          first_recent : IsRecent limits all two.first.step
          first_recent = omega (arith, back, made_lately, after_two, pair.close.1 second_came, soon_one)

          near : AreApart (limits.hold + 2000 + limits.drift) (time_of all two.first.step) (time_of all two.second.step) → ⊥
          near far =
              apart_not (time_of all two.first.step) (time_of all two.second.step) pair.first.at pair.second.at
              (subst (λ (m : ℕ). time_of all m ≤ pair.first.at) step_one (first.after some_one)) soon_one after_two
              (subst (λ (m : ℕ). pair.second.at ≤ time_of all m + limits.hold) step_two (second.soon second_came some_two))
              pair.close.0 (pair.close.1 second_came) far

      of_one : AreOfOne made d.ident (map (λ (h : Heard). h.arrival) hs ++ coming ∷ []) → ⊥
      of_one one =
          let what = one_what one.whose.offer.what Alloc Message 1 (one.kind ∙ allocation.0) refl (one.number ∙ allocation.1) refl in
          never (sym one.not_whole ∙ short_is_whole laws one.whose (shows.holds.transfers.ranges one.whose one.was_made).id
          (few one.whose one.was_made what) (map (λ (h : Heard). h.arrival) hs ++ coming ∷ []) coming one.each its.w.signature d.id d.payload cutting)

      nothing_torn : ⊥
      nothing_torn = elim (how laws w.ids (λ n i. (members.nodes n i).0) (λ n i. (members.nodes n i).1) made shows.holds.transfers device.setting w.frames shows.bus
          x.sessions coming came d gives kept broken forged (inr allocation.0) c) [
            | inl two ↦ of_two two
            | inr one ↦ of_one one
          ]

    pub never_torn : nat_eq (frame_at w.frames k).mark.step 0 ≡ false → IsOrigin w.ids (frame_at w.frames k) → ⊥
    never_torn marked origin = elim (tell (is_anonymous d.ident.kind)) [
      | inl e ↦ no_source marked origin e
      | inr known ↦ nothing_torn known
    ]

pub no_torn_row : (laws : FrameLaws) (choice : ℕ → Bool) (made : List SentTransfer) (w : Cluster) (run : raft.World) (members : AreMembers w.ids)
    (shows : Shows choice made w run) (limits : Limits) (all : List Timed) → limits.drift < 58000 → (now : Timed) (a k ms word : ℕ)
    → now.row ≡ ARx a k ms word → limits.since ≤ now.at - window limits → (heard : List Queued) → StandsBefore limits all a w heard now → ((f : Queued) → In f heard → In f w.frames) → AreShortOf made → (Ordered : Type 0)
    → AllocatesApart limits all made heard (frame_at w.frames k) Ordered
    → (Ordered → ComesInOrderToDevice limits all heard (frame_at w.frames k)) → (Ordered → KeptIn limits all a heard (w.allocatee a)) → IsSingle w.ids w → cause w (ARx a k ms word) ≡ Some unlawful.Torn → ⊥
no_torn_row laws choice made w run members shows limits all sane now a k ms word row back heard before on_bus few Ordered slowly order follows single e =
    let r : IsRefusedAt w a k ms Torn = refused_at unlawful.Torn Torn of_torn w a k ms word e in
    let b = torn_at_device r.x (arrival_at (frame_at w.frames k) ms) r.judgement in
    never_torn laws choice made w run members shows limits all sane now a k ms word row back heard before on_bus few Ordered slowly order follows r.x r.there (stands w k r.frame_there)
    b.delivery b.gives b.is (marked_at_device r.x (arrival_at (frame_at w.frames k) ms) r.judgement) (single.bus (frame_at w.frames k) (stands w k r.frame_there))
