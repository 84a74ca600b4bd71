-- A delivered transfer with a member's source is the one that this member made.
use Rattle.std.proofs.Common.{◌≡◌, ℕ, ◌≤◌, Bool, true, false, List, [], ◌∷◌, ◌++◌, refl, sym, ap, subst, ◌∙◌, arith, ◌⊎◌, inl, inr}
use Rattle.std.specs.Prelude.{Some, Result, Ok, Err, ◌||◌, ◌==◌, cond, filter, map}
use Rattle.can_frame.specs.declared.identifier.Ident.{Ident}
use Rattle.can_frame.specs.declared.identifier.Kind.{Kind}
use Rattle.can_frame.specs.declared.identifier.Kind.TheVariants.{Message, Anonymous, Request, Response}
use Rattle.can_frame.specs.declared.mark.Mark.{Mark}
use Rattle.can_frame.specs.declared.step.Why.{Why}
use Rattle.can_frame.specs.Cutting.{Piece, frames_of as pieces_of}
use Rattle.can_frame.specs.Identifier.{identifier_of}
use Rattle.can_frame.specs.Kinds.{is_anonymous}
use Rattle.raft_model.specs.Lists.{In}
use Rattle.transfer_rx.specs.declared.accept.Wanted.{Wanted}
use Rattle.transfer_rx.specs.declared.key.Key.{Key}
use Rattle.transfer_rx.specs.Acceptance.{wanted}
use Rattle.transfer_rx.specs.Keys.{key_of, same_key}
use Rattle.transfer_rx.specs.Marks.{is_whole}
use Rattle.transfer_rx.specs.Origin.{AreAmong, CameWithKey, IsIdleOrOf}
use Rattle.transfer_rx.specs.Reassembly.{Arrival, Delivery, Gives, Setting, answer, piece_in}
use Rattle.transfer_rx.specs.Run.{has_session_key, is_of, of_key}
use Rattle.transfer_rx.specs.Sessions.{Session, recent_sessions, session_of}
use Rattle.transfer_rx.specs.Sound.{Completes, IsAlone, IsDelivered}
use Rattle.transfer_tx.specs.Queue.{Queued}
use Rattle.alloc_spec.specs.Transfers.{SentTransfer, ident_of}
use Rattle.bus_spec.specs.Cluster.{is_member}
use Rattle.bus_spec.specs.Lawful.{is_forged, is_forged_by}
use Rattle.bus_agreement.specs.Frames.{AreHeard, AreTransfers, CameFrom, IsOnBus, WasMade}
use Rattle.bus_agreement.specs.LawsBelow.{FrameLaws}
use Rattle.bus_agreement.proofs.Idents.{AreSame, IsWanted, keys, wanted_is}
use Rattle.bus_agreement.proofs.Lists.{in_append, never, of_each, tell}
use Rattle.bus_agreement.proofs.WholeTransfers.{IsFrom, final_id, from_bus, payload_is}

-- ---- lists

filtered : {A : Type 0} (test : A → Bool) (xs : List A) (x : A) → In x (filter test xs) → In x xs × (test x ≡ true)
filtered test [] x i = absurd i
filtered {A} test (y ∷ ys) x i = by (test y) refl i (filtered test ys x) where
  by : (b : Bool) → test y ≡ b → In x (cond b (y ∷ filter test ys) (filter test ys)) → (In x (filter test ys) → In x ys × (test x ≡ true))
      → In x (y ∷ ys) × (test x ≡ true)
  by true e (inl same) later = (inl same, ap test same ∙ e)
  by true e (inr j) later = let r = later j in (inr r.0, r.1)
  by false e j later = let r = later j in (inr r.0, r.1)

among : (frames all : List Arrival) → AreAmong frames all → (b : Arrival) → In b frames → In b all
among [] all is b i = absurd i
among (frame ∷ frames) all (front, back, split, later) b i = subst (λ (l : List Arrival). In b l) (sym split) (by i (among frames back later b)) where
  behind : (xs : List Arrival) → In b back → In b (xs ++ frame ∷ back)
  behind [] j = inr j
  behind (x ∷ xs) j = inr (behind xs j)

  here : (xs : List Arrival) → b ≡ frame → In b (xs ++ frame ∷ back)
  here [] e = inl e
  here (x ∷ xs) e = inr (here xs e)

  by : In b (frame ∷ frames) → (In b frames → In b back) → In b (front ++ frame ∷ back)
  by (inl e) rest = here front e
  by (inr j) rest = behind front (rest j)

some_is : (x y : Session) → Some x ≡ Some y → x ≡ y
some_is x y e = cc (e)

one_ident : (x y : Ident) → Some x ≡ Some y → x ≡ y
one_ident x y e = cc (e)

found : (key : Key) (sessions : List Session) (session : Session) → session_of key sessions ≡ Some session → In session sessions
found key [] session e = absurd (cc (e))
found key (first ∷ rest) session e = by (same_key key first.key) e (found key rest session) where
  by : (b : Bool) → cond b (Some first) (session_of key rest) ≡ Some session → (session_of key rest ≡ Some session → In session rest)
      → In session (first ∷ rest)
  by true e later = inl (sym (some_is first session e))
  by false e later = inr (later e)

-- ---- what a session took

pub record IsOfKey (setting : Setting) (key : Key) (b : Arrival) : Type 0 where
  pub ident : Ident
  pub wants : IsWanted setting.rows setting.me b.id ident
  pub same : AreSame key (key_of ident)

module _ (setting : Setting) (key : Key) (b : Arrival) where
  by_wanted : (r : Result Wanted Why) → wanted setting.rows setting.me b.id ≡ r → has_session_key key r ≡ true → IsOfKey setting key b
  by_wanted (Err why) e is = never is
  by_wanted (Ok w) e is = elim (tell (is_anonymous w.ident.kind)) [
    | inl a ↦ never (rw a at is)
    | inr a ↦ record { ident = w.ident; wants = wanted_is setting.rows setting.me b.id w e; same = keys key (key_of w.ident) (rw a at is) }
  ]

  of_its_key : is_of setting key b ≡ true → IsOfKey setting key b
  unfolding is_of
  of_its_key is = by_wanted (wanted setting.rows setting.me b.id) refl is

-- the frames that a session took before the last one
pub record HasTaken (frames : List Queued) (setting : Setting) (key : Key) (session : Session) : Type 0 where
  pub arrivals : List Arrival
  pub each : (b : Arrival) → In b arrivals → CameFrom frames b × IsOfKey setting key b
  pub taken : session.taken ≡ map piece_in arrivals
  pub marks : session.marks ≡ map (λ (a : Arrival). a.mark) arrivals

module _ (frames : List Queued) (setting : Setting) (sessions : List Session) (heard : AreHeard frames setting sessions) (now : ℕ) (key : Key) (session : Session) where
  taken_by : CameWithKey setting heard.arrivals session → session.key ≡ key → HasTaken frames setting key session
  taken_by came own = record {
    arrivals = came.frames;
    each = λ b i.
        let f = filtered (is_of setting session.key) heard.arrivals b (among came.frames (of_key setting session.key heard.arrivals) came.among b i) in
        (heard.come b f.0, subst (λ (k : Key). IsOfKey setting k b) own (of_its_key setting session.key b f.1));
    taken = came.taken;
    marks = came.marks;
  }

  pub has_taken : IsIdleOrOf key (recent_sessions now sessions) session → HasTaken frames setting key session
  has_taken is = by is.idle_or_there where
    by : ((session.taken ≡ []) × (session.marks ≡ [])) ⊎ (session_of key (recent_sessions now sessions) ≡ Some session) → HasTaken frames setting key session
    by (inl (taken, marks)) = record { arrivals = []; each = λ b i. absurd i; taken = taken; marks = marks }
    by (inr there) = taken_by (of_each (CameWithKey setting heard.arrivals) sessions heard.kept session
        (filtered _ sessions session (found key (recent_sessions now sessions) session there)).0) is.own

-- ---- what is forged goes by the key

forged_same : (ids : List ℕ) (a b : Ident) → AreSame (key_of a) (key_of b) → is_forged ids (Some a) ≡ is_forged ids (Some b)
forged_same ids a b same = by a.kind b.kind same.kind where
  by : (k l : Kind) → k ≡ l → is_forged_by ids k a ≡ is_forged_by ids l b
  by k l e = ap (λ (x : Kind). is_forged_by ids x a) e ∙ of_kind l where
    of_kind : (l : Kind) → is_forged_by ids l a ≡ is_forged_by ids l b
    of_kind Message = ap (λ (s : ℕ). is_member ids s || ((a.number == 390) || (a.number == 1))) same.source
        ∙ ap (λ (n : ℕ). is_member ids b.source || ((n == 390) || (n == 1))) same.number
    of_kind Anonymous = refl
    of_kind Request = ap (λ (s : ℕ). is_member ids s || ((a.number == 30) || (a.number == 31))) same.source
        ∙ ap (λ (n : ℕ). is_member ids b.source || ((n == 30) || (n == 31))) same.number
    of_kind Response = ap (λ (s : ℕ). is_member ids s || ((a.number == 30) || (a.number == 31))) same.source
        ∙ ap (λ (n : ℕ). is_member ids b.source || ((n == 30) || (n == 31))) same.number

forged_has_source : (ids : List ℕ) (ident : Ident) → is_forged ids (Some ident) ≡ true → is_anonymous ident.kind ≡ false
forged_has_source ids ident e = by ident.kind e where
  by : (kind : Kind) → is_forged_by ids kind ident ≡ true → is_anonymous kind ≡ false
  by Message e = refl
  by Anonymous e = never e
  by Request e = refl
  by Response e = refl

-- ---- a delivery

module _ (laws : FrameLaws) (ids : List ℕ) (low : (n : ℕ) → In n ids → 1 ≤ n) (high : (n : ℕ) → In n ids → n ≤ 125)
    (made : List SentTransfer) (are : AreTransfers ids made) (setting : Setting) (frames : List Queued)
    (bus : (frame : Queued) → In frame frames → IsOnBus made ids frame) (sessions : List Session) (heard : AreHeard frames setting sessions)
    (arrival : Arrival) (came : CameFrom frames arrival) (d : Delivery) (gives : answer setting sessions arrival ≡ Gives d)
    (untorn : d.whole ≡ false → d.mark.step ≡ 0) (forged : is_forged ids (Some d.ident) ≡ true)
    (served : (1 ≤ setting.me) ⊎ (d.ident.kind ≡ Message)) where
  abbrev its : IsDelivered setting sessions arrival d
  its = laws.delivered setting sessions arrival d gives

  abbrev key : Key
  key = key_of d.ident

  same_ident : AreSame key (key_of its.w.ident)
  same_ident = record {
    kind = ap (λ (i : Ident). i.kind) its.ident;
    number = ap (λ (i : Ident). i.number) its.ident;
    source = ap (λ (i : Ident). i.source) its.ident;
  }

  origin : (b : Arrival) → CameFrom frames b → IsOfKey setting key b → IsFrom made setting.me key b
  origin b from is = from_bus laws ids low high made are setting.rows setting.me frames bus b from is.ident is.wants
      (sym (forged_same ids d.ident is.ident is.same) ∙ forged) key served (sym is.same.kind) (sym is.same.number) (sym is.same.source)

  own : IsFrom made setting.me key arrival
  own = origin arrival came (record { ident = its.w.ident; wants = wanted_is setting.rows setting.me arrival.id its.w its.accepted; same = same_ident })

  whole : d.whole ≡ true
  whole = elim (tell d.whole) [
    | inl e ↦ e
    | inr e ↦ absurd (omega (arith, untorn e, are.numbered own.whose own.was_made, own.piece.step, ap (λ (m : Mark). m.step) its.mark))
  ]

  completed : Completes setting sessions its.w arrival d → WasMade made d
  completed c = (
    own.whose,
    own.was_made,
    record {
      step = sym own.piece.step ∙ ap (λ (m : Mark). m.step) (sym its.mark);
      by = own.by;
      kind = own.kind;
      number = own.number;
      to = ap (λ (i : Ident). i.dest) (one_ident (ident_of own.whose.by own.whose.offer.what own.whose.offer.to) its.w.ident (sym own.ident ∙ read)) ∙ ap (λ (i : Ident). i.dest) (sym its.ident);
      id = final_id laws ids made are setting.me key taken.arrivals arrival each own is_run its.w.signature d.id d.payload cutting;
      re = sym own.piece.re ∙ ap (λ (m : Mark). m.re) (sym its.mark);
      payload = sym (payload_is laws ids made are setting.me key taken.arrivals arrival each own is_run its.w.signature d.id d.payload cutting);
    },
  )
    where
      taken : HasTaken frames setting key c.session
      taken = has_taken frames setting sessions heard arrival.moment key c.session
          (subst (λ (i : Ident). IsIdleOrOf (key_of i) (recent_sessions arrival.moment sessions) c.session) (sym its.ident)
          (laws.comes setting.sessions arrival.moment (key_of its.w.ident) (piece_in arrival).tail (recent_sessions arrival.moment sessions) c.session c.there))

      each : (b : Arrival) → In b (taken.arrivals ++ arrival ∷ []) → IsFrom made setting.me key b
      each b i = elim (in_append b taken.arrivals (arrival ∷ []) i) [
        | inl j ↦ let e = taken.each b j in origin b e.0 e.1
        | inr (inl e) ↦ subst (λ (a : Arrival). IsFrom made setting.me key a) (sym e) own
        | inr (inr j) ↦ absurd j
      ]

      read : identifier_of arrival.id ≡ Some its.w.ident
      read = (wanted_is setting.rows setting.me arrival.id its.w its.accepted).read

      is_run : is_whole (map (λ (a : Arrival). a.mark) taken.arrivals ++ arrival.mark ∷ []) ≡ true
      is_run = ap (λ (l : List Mark). is_whole (l ++ arrival.mark ∷ [])) (sym taken.marks) ∙ (sym c.whole ∙ whole)

      cutting : map piece_in taken.arrivals ++ piece_in arrival ∷ [] ≡ pieces_of its.w.signature d.id d.payload
      cutting = ap (λ (l : List Piece). l ++ piece_in arrival ∷ []) (sym taken.taken) ∙ c.cutting.frames

  pub was_made : WasMade made d
  was_made = by its.frames where
    by : IsAlone its.w arrival d ⊎ Completes setting sessions its.w arrival d → WasMade made d
    by (inl alone) = never (sym (forged_has_source ids d.ident forged) ∙ (ap (λ (i : Ident). is_anonymous i.kind) its.ident ∙ alone.anonymous))
    by (inr c) = completed c
