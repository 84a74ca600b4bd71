-- The allocator's side of a calm bus: what it is, what waits in its queue, and what is on its way to the device.
use Rattle.std.proofs.Common.{◌≡◌, ◌≢◌, ◌⊎◌, ℕ, zero, suc, ◌+◌, ◌≤◌, Bool, true, false, List, [], ◌∷◌, ◌++◌, append-nil, length, length-append, inl, inr, refl, sym, ◌∙◌, ap, subst, arith, Option, None, Some}
use Rattle.std.specs.Prelude.{⊤, ◌-◌, drop, find, is_some, nat_eq, option_to_list, remove}
use Rattle.std.specs.List.{position_or_len}
use Rattle.std.proofs.lemmas.List.{get_or_append_left}
use Rattle.std.proofs.lemmas.Bool.Decides.{eqb_tells}
use Rattle.alloc_exchange.specs.Exchange.{Accepted, last_moment}
use Rattle.can_frame.specs.declared.entry.Entry.{Entry}
use Rattle.can_frame.specs.declared.step.What.TheVariants.{Alloc}
use Rattle.can_frame.specs.Identifier.{identifier_number}
use Rattle.bus_rows.specs.declared.row.Row.{Row}
use Rattle.bus_rows.specs.declared.row.Row.TheVariants.{AEnd, AOpen, ARx, ASend, ATick, Crash, Ext, Fault, Open, Rx, Send, Tick}
use Rattle.transfer_tx.specs.Queue.{Queued, is_least, left_behind, next_out}
use Rattle.transfer_tx.specs.Run.{of_identifier}
use Rattle.transfer_tx.specs.Run.Event.{Pops}
use Rattle.transfer_tx.proofs.Order.{in_order}
use Rattle.alloc_spec.specs.AllocatorState.{AllocatorState}
use Rattle.alloc_spec.specs.Step.{after_pop, step}
use Rattle.alloc_spec.specs.Step as server
use Rattle.alloc_spec.specs.Transfers.{ident_of}
use Rattle.alloc_spec_laws.proofs.Choices.{tell}
use Rattle.service_alone.specs.Calm.{Clocks, IsNext, OnItsWay, Traffic, queue_of, ticked_after, traffic_after, waits_after}
use Rattle.service_alone.proofs.CalmQueue.{goes_out, of_both}
use Rattle.service_alone.proofs.CalmRest.{FewWait, HasTicked, Serves, Tells, few_after, ticks, whatever_waits}
use Rattle.service_alone.proofs.Leads.{status_number}
use Rattle.service_alone.proofs.Members.{IsUp, steps_up}
use Rattle.service_alone.proofs.Scenes.{own_is}
use Rattle.service_alone.proofs.Taking.{frame_is}
use Rattle.bus_spec.specs.Cluster.{Cluster, after_row, frame_at, in_list, no_frame}
use Rattle.bus_spec.specs.Members.{Member, after_sending, member_after_step, next_frame}

-- ---- frames on their way

-- these are the frames on their way, by the frames of the bus
abbrev pub Carry : List Queued → List OnItsWay → List Queued → Type 0
Carry frames [] [] = ⊤
Carry frames [] (f ∷ fs) = ⊥
Carry frames (way ∷ ways) [] = ⊥
Carry frames (way ∷ ways) (f ∷ fs) = (1 ≤ way.number) × (way.number ≤ length frames) × (frame_at frames way.number ≡ f) × Carry frames ways fs

-- one more frame on the bus changes nothing of them
pub carry_more : (frames : List Queued) (ways : List OnItsWay) (fs : List Queued) (g : Queued) → Carry frames ways fs → Carry (frames ++ g ∷ []) ways fs
carry_more frames [] [] g c = tt
carry_more frames [] (f ∷ fs) g c = absurd c
carry_more frames (way ∷ ways) [] g c = absurd c
carry_more frames (way ∷ ways) (f ∷ fs) g c = (
  c.0,
  omega (arith, c.1, length-append frames (g ∷ [])),
  get_or_append_left frames (g ∷ []) no_frame (way.number - 1) (omega (arith, c.0, c.1)) ∙ c.2,
  carry_more frames ways fs g c.3,
)

-- it may be on its way too
pub carry_new : (frames : List Queued) (ways : List OnItsWay) (fs : List Queued) (g : Queued) (since : ℕ) → Carry frames ways fs
    → Carry (frames ++ g ∷ []) (ways ++ (record { number = length frames + 1; since = since }) ∷ []) (fs ++ g ∷ [])
carry_new frames [] [] g since c = (omega arith, omega (arith, length-append frames (g ∷ [])), frame_is frames [] g, tt)
carry_new frames [] (f ∷ fs) g since c = absurd c
carry_new frames (way ∷ ways) [] g since c = absurd c
carry_new frames (way ∷ ways) (f ∷ fs) g since c =
    let m = carry_more frames (way ∷ ways) (f ∷ fs) g c in (m.0, m.1, m.2, carry_new frames ways fs g since c.3)

-- ---- the frames of an allocator at rest: of Allocations, or NodeStatus

-- the identifier of its Allocations
abbrev pub it : ℕ → ℕ
it n = identifier_number (ident_of n Alloc 0)

-- frames of these two kinds
abbrev pub AreItsFrames : ℕ → List Queued → Type 0
AreItsFrames n [] = ⊤
AreItsFrames n (f ∷ fs) = ((f.id ≡ it n) ⊎ (f.id ≡ status_number n)) × AreItsFrames n fs

-- those of two lists
pub its_both : (n : ℕ) (xs ys : List Queued) → AreItsFrames n xs → AreItsFrames n ys → AreItsFrames n (xs ++ ys)
its_both n [] ys a b = b
its_both n (x ∷ xs) ys a b = (a.0, its_both n xs ys a.1 b)

its_found : (n : ℕ) (p : Queued → Bool) (fs : List Queued) (g : Queued) → AreItsFrames n fs → find p fs ≡ Some g → (g.id ≡ it n) ⊎ (g.id ≡ status_number n)
its_found n p [] g are e = absurd (cc (e))
its_found n p (f ∷ fs) g are e = elim (tell (p f)) [
  | inl z ↦ let z' : p f ≡ true = z in let s : Some f ≡ Some g = rw z' at e in let same : f ≡ g = cc in subst (λ (x : Queued). (x.id ≡ it n) ⊎ (x.id ≡ status_number n)) same are.0
  | inr z ↦ let z' : p f ≡ false = z in let s : find p fs ≡ Some g = rw z' at e in its_found n p fs g are.1 s
]

its_removed : (n : ℕ) (fs : List Queued) (k : ℕ) → AreItsFrames n fs → AreItsFrames n (remove fs k)
its_removed n [] zero are = tt
its_removed n [] (suc k) are = tt
its_removed n (f ∷ fs) zero are = are.1
its_removed n (f ∷ fs) (suc k) are = (are.0, its_removed n fs k are.1)

fewer_removed : (fs : List Queued) (k : ℕ) → length (remove fs k) ≤ length fs
fewer_removed [] zero = omega arith
fewer_removed [] (suc k) = omega arith
fewer_removed (f ∷ fs) zero = omega arith
fewer_removed (f ∷ fs) (suc k) = let e = fewer_removed fs k in omega (arith, e)

its_out : (n : ℕ) (queue : List Queued) (g : Queued) → AreItsFrames n queue → next_out queue ≡ Some g
    → ((g.id ≡ it n) ⊎ (g.id ≡ status_number n)) × AreItsFrames n (left_behind queue)
unfolding next_out left_behind
its_out n queue g are e = (its_found n (is_least queue) queue g are e, its_removed n queue (position_or_len (is_least queue) queue) are)

pub fewer_left : (queue : List Queued) → length (left_behind queue) ≤ length queue
unfolding left_behind
fewer_left queue = fewer_removed queue (position_or_len (is_least queue) queue)

-- the identifiers of a NodeStatus and of an Allocation differ
pub status_apart : (n : ℕ) → n ≤ 125 → nat_eq (status_number n) (it n) ≡ false
status_apart n high = elim (eqb_tells (status_number n) (it n)) [ inl z ↦ absurd (omega (arith, z.1, high)) | inr z ↦ z.0 ]

-- ---- since when frames wait

-- no frame waits since later than now
pub waits_before : (at since : ℕ) (before then_ : List Queued) → since ≤ at → waits_after at since before then_ ≤ at
waits_before at since [] then_ h = omega arith
waits_before at since (f ∷ fs) [] h = omega arith
waits_before at since (f ∷ fs) (g ∷ gs) h = h

-- frames that waited, and still do
pub waits_on : (at since : ℕ) (before then_ : List Queued) → before ≢ [] → then_ ≢ [] → waits_after at since before then_ ≡ since
waits_on at since [] then_ a b = absurd (a refl)
waits_on at since (f ∷ fs) [] a b = absurd (b refl)
waits_on at since (f ∷ fs) (g ∷ gs) a b = refl

-- the device read its clock before
pub ticked_before : (at ticked : ℕ) (row : Row) → ticked ≤ at → ticked_after at ticked row ≤ at
ticked_before at ticked (ATick b ms word) h = omega arith
ticked_before at ticked (Open m told ms word) h = h
ticked_before at ticked (Tick m ms word) h = h
ticked_before at ticked (Rx m k ms) h = h
ticked_before at ticked (Send m) h = h
ticked_before at ticked (Ext frame) h = h
ticked_before at ticked (Crash m calls pattern) h = h
ticked_before at ticked (Fault m call) h = h
ticked_before at ticked (AOpen b u pref ms word) h = h
ticked_before at ticked (ARx b k ms word) h = h
ticked_before at ticked (ASend b) h = h
ticked_before at ticked (AEnd b) h = h

-- ---- the allocator's side

module _ (n a start : ℕ) (high : n ≤ 125) (clocks : Clocks) where
  -- the allocator is at rest, but for an answer of which the device lacks these frames
  pub record Side (log : List Entry) (accepted : List Accepted) (next stages : ℕ) (rest : List Queued) (t : AllocatorState) (flying : List Queued)
      (traffic : Traffic) (w : Cluster) : Type 0 where
    pub serves : Serves n log accepted next t
    pub few : FewWait (start + clocks.allocator) stages t
    -- the frames of Allocations that the device has not got
    pub rest_is : of_identifier (it n) (flying ++ t.queue) ≡ rest
    pub up : IsUp t (w.member n)
    pub carry : Carry w.frames traffic.to_device flying
    pub flying_its : AreItsFrames n flying
    pub queue_its : AreItsFrames n t.queue
    pub clock : t.now ≤ traffic.at + clocks.allocator
    pub requests : last_moment accepted ≤ traffic.at + clocks.allocator
    pub since : start ≤ traffic.at
    pub waits : traffic.allocator_waits ≤ traffic.at
    pub ticked : traffic.ticked ≤ traffic.at

  module _ (log : List Entry) (accepted : List Accepted) (next stages : ℕ) (rest : List Queued) (t : AllocatorState) (flying : List Queued)
      (traffic : Traffic) (w : Cluster) (side : Side log accepted next stages rest t flying traffic w) (at : ℕ) (later : traffic.at ≤ at) where
    -- another row that leaves the allocator, and what is on its way, as they are
    pub side_kept : (row : Row) → (after_row w row).member n ≡ w.member n → Carry (after_row w row).frames (traffic_after n a traffic w (record { at = at; row = row })).to_device flying
        → Side log accepted next stages rest t flying (traffic_after n a traffic w (record { at = at; row = row })) (after_row w row)
    side_kept row same carry = record {
      serves = side.serves;
      few = side.few;
      rest_is = side.rest_is;
      up = subst (IsUp t) (sym same) side.up;
      carry = carry;
      flying_its = side.flying_its;
      queue_its = side.queue_its;
      clock = omega (arith, side.clock, later);
      requests = omega (arith, side.requests, later);
      since = omega (arith, side.since, later);
      waits = waits_before at traffic.allocator_waits (queue_of (w.member n).status) (queue_of ((after_row w row).member n).status) (omega (arith, side.waits, later));
      ticked = ticked_before at traffic.ticked row (omega (arith, side.ticked, later));
    }

    -- ---- a tick

    -- its queue has room for an answer
    pub room_now : at ≤ start + 2100 → stages ≤ 4 → length t.queue + 4 ≤ 32
    room_now by few_stages = elim side.few [
      | inl z ↦ omega (arith, z.1, few_stages)
      | inr z ↦ omega (arith, z.1, z.2, few_stages, by, later, side.clock)
    ]

    -- a tick leaves it so
    pub side_ticks : (word : ℕ) → at ≤ start + 2100 → stages ≤ 4
        → (u : AllocatorState) × Side log accepted next stages rest u flying (traffic_after n a traffic w (record { at = at; row = Tick n (at + clocks.allocator) word }))
        (after_row w (Tick n (at + clocks.allocator) word))
        × (of_identifier (it n) u.queue ≡ of_identifier (it n) t.queue) × (t.queue ≢ [] → u.queue ≢ [])
    side_ticks word by few_stages = (u, then_side, same_of h.queue, λ some. still h.queue some)
      where
        moment : ℕ
        moment = at + clocks.allocator

        after_now : t.now ≤ moment
        after_now = omega (arith, side.clock, later)

        u : AllocatorState
        u = (step t (w.rows + 1) (server.Tick moment word)).step_state.allocator

        h : HasTicked n log accepted next t side.serves (w.rows + 1) moment word after_now u
        h = ticks n log accepted next t side.serves (w.rows + 1) moment word after_now (let r = room_now by few_stages in omega (arith, r))

        apart : nat_eq (status_number n) (it n) ≡ false
        apart = status_apart n high

        none_of : (f : Queued) → f.id ≡ status_number n → of_identifier (it n) (f ∷ []) ≡ []
        none_of f e = let z : nat_eq f.id (it n) ≡ false = ap (λ (k : ℕ). nat_eq k (it n)) e ∙ apart in rw (z) refl

        same_of : ((u.queue ≡ t.queue) × (u.status_at ≡ t.status_at)) ⊎ Tells n moment t u → of_identifier (it n) u.queue ≡ of_identifier (it n) t.queue
        same_of (inl z) = ap (of_identifier (it n)) z.0
        same_of (inr z) = ap (of_identifier (it n)) z.queue ∙ (of_both (it n) t.queue (z.frame ∷ [])
            ∙ (ap (λ (l : List Queued). of_identifier (it n) t.queue ++ l) (none_of z.frame z.id) ∙ append-nil (of_identifier (it n) t.queue)))

        still : ((u.queue ≡ t.queue) × (u.status_at ≡ t.status_at)) ⊎ Tells n moment t u → t.queue ≢ [] → u.queue ≢ []
        still (inl z) some = λ e. some (sym z.0 ∙ e)
        still (inr z) some = λ e. let l = ap length (sym z.queue ∙ e) in let k = length-append t.queue (z.frame ∷ []) in absurd (omega (arith, l, k))

        its_of : ((u.queue ≡ t.queue) × (u.status_at ≡ t.status_at)) ⊎ Tells n moment t u → AreItsFrames n u.queue
        its_of (inl z) = subst (AreItsFrames n) (sym z.0) side.queue_its
        its_of (inr z) = subst (AreItsFrames n) (sym z.queue) (its_both n t.queue (z.frame ∷ []) side.queue_its (inr z.id, tt))

        then_side : Side log accepted next stages rest u flying (traffic_after n a traffic w (record { at = at; row = Tick n (at + clocks.allocator) word }))
            (after_row w (Tick n (at + clocks.allocator) word))
        then_side = record {
          serves = h.serves;
          few = few_after (start + clocks.allocator) stages n moment t u (omega (arith, side.since, later)) after_now h.now side.few h.queue;
          rest_is = of_both (it n) flying u.queue ∙ (ap (λ (l : List Queued). of_identifier (it n) flying ++ l) (same_of h.queue) ∙ (sym (of_both (it n) flying t.queue) ∙ side.rest_is));
          up = subst (IsUp u) (sym (own_is w n (member_after_step (w.rows + 1) (server.Tick moment word) (w.member n).status (w.member n))))
              (steps_up (w.rows + 1) (server.Tick moment word) t (w.member n) side.up);
          carry = side.carry;
          flying_its = side.flying_its;
          queue_its = its_of h.queue;
          clock = omega (arith, h.now);
          requests = omega (arith, side.requests, later);
          since = omega (arith, side.since, later);
          waits = waits_before at traffic.allocator_waits (queue_of (w.member n).status)
              (queue_of ((after_row w (Tick n (at + clocks.allocator) word)).member n).status) (omega (arith, side.waits, later));
          ticked = omega (arith, side.ticked, later);
        }

    -- ---- the next frame goes out

    -- what a frame that goes out leaves
    pub record HasSent (g : Queued) : Type 0 where
      pub out : next_out t.queue ≡ Some g
      pub frames : (after_row w (Send n)).frames ≡ w.frames ++ g ∷ []
      pub then_side : Side log accepted next stages rest (after_pop t) (flying ++ g ∷ []) (traffic_after n a traffic w (record { at = at; row = Send n })) (after_row w (Send n))
      pub left_of : of_identifier (it n) (g ∷ left_behind t.queue) ≡ of_identifier (it n) t.queue

    -- where something waits, something goes out
    pub side_sends : is_some (next_frame (w.member n).status) ≡ true → (g : Queued) × HasSent g
    side_sends some = by (next_out t.queue) refl
      where
        next_is : next_frame (w.member n).status ≡ next_out t.queue
        next_is = ap next_frame side.up.status

        by : (o : Option Queued) → next_out t.queue ≡ o → (g : Queued) × HasSent g
        by None e = absurd (cc (some, ap (λ (o : Option Queued). is_some o) (next_is ∙ e)))
        by (Some g) e = (
          g,
          record {
            out = e;
            frames = frames;
            then_side = record {
              serves = whatever_waits n log accepted next t (left_behind t.queue) side.serves;
              few = fewer side.few;
              rest_is = goes_out (it n) flying t.queue g e ∙ side.rest_is;
              up = subst (IsUp (after_pop t)) (sym (own_is w n sent)) (record { status = ap after_sending side.up.status; quiet = side.up.quiet });
              carry = subst (λ (l : List Queued). Carry l (traffic.to_device ++ (record { number = length w.frames + 1; since = at }) ∷ []) (flying ++ g ∷ [])) (sym frames)
                  (carry_new w.frames traffic.to_device flying g at side.carry);
              flying_its = its_both n flying (g ∷ []) side.flying_its ((its_out n t.queue g side.queue_its e).0, tt);
              queue_its = (its_out n t.queue g side.queue_its e).1;
              clock = omega (arith, side.clock, later);
              requests = omega (arith, side.requests, later);
              since = omega (arith, side.since, later);
              waits = waits_before at traffic.allocator_waits (queue_of (w.member n).status)
                  (queue_of ((after_row w (Send n)).member n).status) (omega (arith, side.waits, later));
              ticked = omega (arith, side.ticked, later);
            };
            left_of = ap (λ (o : Option Queued). of_identifier (it n) ((option_to_list o ++ []) ++ left_behind t.queue)) (sym e)
                ∙ (in_order (it n) t.queue (Pops ∷ []) ∙ ap (of_identifier (it n)) (append-nil t.queue));
          },
        )
          where
            frames : (after_row w (Send n)).frames ≡ w.frames ++ g ∷ []
            frames = ap (λ (o : Option Queued). w.frames ++ in_list o) (next_is ∙ e)

            sent : Member
            sent = record (w.member n) { status = after_sending (w.member n).status }

            fewer : FewWait (start + clocks.allocator) stages t → FewWait (start + clocks.allocator) stages (after_pop t)
            fewer (inl z) = let l = fewer_left t.queue in inl (z.0, omega (arith, z.1, l))
            fewer (inr z) = let l = fewer_left t.queue in inr (z.0, z.1, omega (arith, z.2, l))

    -- ---- the device gets a frame

    -- what a frame that comes to the device leaves
    pub record HasGot (k : ℕ) (word : ℕ) : Type 0 where
      pub frame : Queued
      pub others : List Queued
      pub flying_is : flying ≡ frame ∷ others
      pub frame_is_it : frame_at w.frames k ≡ frame
      pub number : (1 ≤ k) × (k ≤ length w.frames)
      pub kind : (frame.id ≡ it n) ⊎ (frame.id ≡ status_number n)
      pub rest_was : rest ≡ of_identifier (it n) (frame ∷ (others ++ t.queue))
      pub then_side : Side log accepted next stages (of_identifier (it n) (others ++ t.queue)) t others
          (traffic_after n a traffic w (record { at = at; row = ARx a k (at + clocks.device) word })) (after_row w (ARx a k (at + clocks.device) word))

    -- the next one comes
    pub side_gets : (k word : ℕ) → IsNext k traffic.to_device → HasGot k word
    side_gets k word = by traffic.to_device refl flying refl
      where
        by : (ways : List OnItsWay) → traffic.to_device ≡ ways → (fs : List Queued) → flying ≡ fs → IsNext k ways → HasGot k word
        by [] e fs d nothing = absurd nothing
        by (way ∷ ways) e [] d is = absurd (subst (λ (l : List OnItsWay). Carry w.frames l []) e (subst (λ (l : List Queued). Carry w.frames traffic.to_device l) d side.carry))
        by (way ∷ ways) e (f ∷ fs) d is =
            let c = subst (λ (l : List OnItsWay). Carry w.frames l (f ∷ fs)) e (subst (λ (l : List Queued). Carry w.frames traffic.to_device l) d side.carry) in
            let its = subst (λ (l : List Queued). AreItsFrames n l) d side.flying_its in record {
              frame = f;
              others = fs;
              flying_is = d;
              frame_is_it = ap (λ (m : ℕ). frame_at w.frames m) is ∙ c.2;
              number = (omega (arith, is, c.0), omega (arith, is, c.1));
              kind = its.0;
              rest_was = sym side.rest_is ∙ ap (λ (l : List Queued). of_identifier (it n) (l ++ t.queue)) d;
              then_side = record {
                serves = side.serves;
                few = side.few;
                rest_is = refl;
                up = side.up;
                carry = subst (λ (l : List OnItsWay). Carry w.frames (drop 1 l) fs) (sym e) c.3;
                flying_its = its.1;
                queue_its = side.queue_its;
                clock = omega (arith, side.clock, later);
                requests = omega (arith, side.requests, later);
                since = omega (arith, side.since, later);
                waits = waits_before at traffic.allocator_waits (queue_of (w.member n).status)
                    (queue_of ((after_row w (ARx a k (at + clocks.device) word)).member n).status) (omega (arith, side.waits, later));
                ticked = omega (arith, side.ticked, later);
              };
            }
