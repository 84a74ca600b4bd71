-- The stages of an exchange on a calm bus: which requests are answered, and what they find.
use Rattle.std.proofs.Common.{◌≡◌, ◌≢◌, ◌⊎◌, ℕ, zero, suc, ◌+◌, ◌*◌, ◌<◌, ◌≤◌, Bool, true, false, List, [], ◌∷◌, ◌++◌, length, take, drop, inl, inr, refl, sym, ◌∙◌, ap, subst, arith, Some}
use Rattle.std.specs.Prelude.{◌-◌, is_some, nat_eq}
use Rattle.std.proofs.lemmas.Bool.Decides.{leb_tells}
use Rattle.alloc_exchange.specs.declared.heard.Heard.TheVariants.{FollowUp as Follows, Whole}
use Rattle.alloc_exchange.specs.Exchange.{Accepted, after, answer, last_moment, recent_requests}
use Rattle.can_frame.specs.declared.entry.Entry.{Entry}
use Rattle.dsdl_codec.specs.declared.allocation.Allocation.{Allocation}
use Rattle.bus_rows.specs.declared.row.Row.{Row}
use Rattle.bus_rows.specs.declared.row.Row.TheVariants.{AEnd, AOpen, ARx, ASend, ATick, Crash, Ext, Fault, Open, Rx, Send, Tick}
use Rattle.transfer_rx.specs.declared.key.Key.{Key}
use Rattle.transfer_rx.specs.Sessions.{Session}
use Rattle.transfer_tx.specs.Queue.{Queued}
use Rattle.transfer_tx.specs.Run.{of_identifier}
use Rattle.allocatee.specs.Allocatee.{Device, step}
use Rattle.allocatee.specs.Allocatee as device
use Rattle.allocatee.specs.Asking.{has_passed}
use Rattle.allocatee.specs.declared.timer.Timer.{Timer}
use Rattle.allocatee.proofs.Requests.{le_is}
use Rattle.alloc_spec.specs.AllocatorState.{AllocatorState}
use Rattle.alloc_spec.specs.Step.{after_pop}
use Rattle.alloc_spec_laws.proofs.Choices.{lt_tells, tell}
use Rattle.service_steps.specs.Serving.{AsksInTime}
use Rattle.service_steps.proofs.FollowUps.{same_number}
use Rattle.service_steps.proofs.Three.{first_after, first_answer, second_after, second_answer, third_answer}
use Rattle.service_alone.specs.Calm.{Clocks, IsCalmRow, IsNext, Pace, Traffic, traffic_after}
use Rattle.service_alone.proofs.Asking.{its_own}
use Rattle.service_alone.proofs.CalmDevice.{asked}
use Rattle.service_alone.proofs.CalmHearing.{AwaitsBy}
use Rattle.service_alone.proofs.CalmSide.{Carry, HasGot, Side, it, side_gets, side_kept, side_sends, side_ticks}
use Rattle.service_alone.proofs.Served.{all_of_it, four, six, six_more, twelve}
use Rattle.bus_spec.specs.Allocatees.{device_after_step, next_from}
use Rattle.bus_spec.specs.Cluster.{Cluster, after_row, with_step_at}
use Rattle.bus_spec.specs.Members.{next_frame}

-- ---- timers

-- a timer has not passed before its end
pub has_not_passed : (now : ℕ) (timer : Timer) → now < timer.since + timer.length → (timer.since ≤ now) ⊎ (1 ≤ timer.length) → has_passed now timer ≡ false
has_not_passed now timer early (inl begun) = elim (leb_tells timer.length (now - timer.since)) [ inl z ↦ absurd (omega (arith, z.1, early, begun)) | inr z ↦ z.0 ]
has_not_passed now timer early (inr some) = elim (leb_tells timer.length (now - timer.since)) [ inl z ↦ absurd (omega (arith, z.1, early, some)) | inr z ↦ z.0 ]

-- and has then
pub has_now_passed : (now : ℕ) (timer : Timer) → timer.since + timer.length ≤ now → has_passed now timer ≡ true
has_now_passed now timer late = le_is timer.length (now - timer.since) (omega (arith, late))

-- ---- rows of the device

-- the device after a step
pub device_steps : (w : Cluster) (a : ℕ) (event : device.Event) (d e : Device) → w.allocatee a ≡ Some d → (step d (w.rows + 1) event).device ≡ e
    → (with_step_at w a event).allocatee a ≡ Some e
device_steps w a event d e there is =
    its_own w a (device_after_step (w.rows + 1) event (w.allocatee a))
    ∙ (ap (device_after_step (w.rows + 1) event) there ∙ ap (λ (x : Device). Some x) is)

-- one case for each kind of calm row
pub by_rows : (n a : ℕ) (clocks : Clocks) (pace : Pace) (traffic : Traffic) (w : Cluster) (at : ℕ) (Goal : Row → Type 0)
    → ((word : ℕ) → Goal (Tick n (at + clocks.allocator) word))
    → ((k : ℕ) → IsNext k traffic.to_allocator → Goal (Rx n k (at + clocks.allocator)))
    → (is_some (next_frame (w.member n).status) ≡ true → Goal (Send n))
    → ((word : ℕ) → Goal (ATick a (at + clocks.device) word))
    → ((k word : ℕ) → IsNext k traffic.to_device → Goal (ARx a k (at + clocks.device) word))
    → (is_some (next_from (w.allocatee a)) ≡ true → Goal (ASend a))
    → (row : Row) → IsCalmRow n a clocks pace traffic w at row → Goal row
by_rows n a clocks pace traffic w at Goal tick rx send atick arx asend (Tick m ms word) c = subst Goal (λ i. Tick (sym c.0 i) (sym c.1 i) word) (tick word)
by_rows n a clocks pace traffic w at Goal tick rx send atick arx asend (Rx m k ms) c = subst Goal (λ i. Rx (sym c.0 i) k (sym c.1 i)) (rx k c.2)
by_rows n a clocks pace traffic w at Goal tick rx send atick arx asend (Send m) c = subst Goal (λ i. Send (sym c.0 i)) (send c.1)
by_rows n a clocks pace traffic w at Goal tick rx send atick arx asend (ATick b ms word) c = subst Goal (λ i. ATick (sym c.0 i) (sym c.1 i) word) (atick word)
by_rows n a clocks pace traffic w at Goal tick rx send atick arx asend (ARx b k ms word) c = subst Goal (λ i. ARx (sym c.0 i) k (sym c.1 i) word) (arx k word c.2)
by_rows n a clocks pace traffic w at Goal tick rx send atick arx asend (ASend b) c = subst Goal (λ i. ASend (sym c.0 i)) (asend c.1)
by_rows n a clocks pace traffic w at Goal tick rx send atick arx asend (Open m told ms word) c = absurd c
by_rows n a clocks pace traffic w at Goal tick rx send atick arx asend (Ext frame) c = absurd c
by_rows n a clocks pace traffic w at Goal tick rx send atick arx asend (Crash m calls pattern) c = absurd c
by_rows n a clocks pace traffic w at Goal tick rx send atick arx asend (Fault m call) c = absurd c
by_rows n a clocks pace traffic w at Goal tick rx send atick arx asend (AOpen b u pref ms word) c = absurd c
by_rows n a clocks pace traffic w at Goal tick rx send atick arx asend (AEnd b) c = absurd c

-- ---- stages, by the number of follow-ups that are left

-- how many bytes are known before it
abbrev pub known_of : ℕ → ℕ
known_of zero = 12
known_of (suc zero) = 6
known_of (suc (suc j)) = 0

-- the first stage is told by a flag
abbrev pub is_first : ℕ → Bool
is_first zero = false
is_first (suc zero) = false
is_first (suc (suc j)) = true

module _ (uid : List ℕ) (whole : length uid ≡ 16) (preferred : ℕ) where
  -- what the device asks
  abbrev pub request_of : ℕ → Allocation
  request_of j = asked uid preferred (is_first j) (take 6 (drop (known_of j) uid))

  -- where these were accepted, requests at these moments are answered as they should
  abbrev pub Right : ℕ → List Accepted → (low high : ℕ) → Type 0
  Right zero accepted low high = (m : ℕ) → low ≤ m → m ≤ high → answer accepted (request_of zero) m true ≡ Whole uid preferred
  Right (suc j) accepted low high = (m : ℕ) → low ≤ m → m ≤ high →
      (answer accepted (request_of (suc j)) m true ≡ Follows (record { items = take (known_of j) uid }))
      × Right j (after accepted (request_of (suc j)) m true) m (m + 500)

  -- and so for fewer moments
  pub right_within : (j : ℕ) (accepted : List Accepted) (low high from to : ℕ) → low ≤ from → to ≤ high → Right j accepted low high → Right j accepted from to
  right_within zero accepted low high from to a b right = λ m l h. right m (omega (arith, a, l)) (omega (arith, b, h))
  right_within (suc j) accepted low high from to a b right = λ m l h. right m (omega (arith, a, l)) (omega (arith, b, h))

  module _ (accepted : List Accepted) (now : ℕ) (past : last_moment accepted ≤ now) (x y z : ℕ) (late : now + 500 < x) (soon : y ≤ x + 500) (then_soon : z ≤ y + 500) where
    fresh : recent_requests accepted x ≡ []
    fresh = elim (lt_tells (last_moment accepted + 500) x) [ inl v ↦ rw (v.0) refl | inr v ↦ absurd (omega (arith, v.1, past, late)) ]

    in_time : AsksInTime accepted (request_of 2) (request_of 1) (request_of 0) x y z
    in_time = record {
      fresh = fresh;
      first = refl;
      second = refl;
      third = refl;
      six = six uid whole;
      twelve = six_more uid whole;
      sixteen = four uid whole;
      soon = soon;
      late = then_soon;
    }

  -- the first request is answered, where nothing else was accepted lately
  pub right_at_first : (accepted : List Accepted) (now low high : ℕ) → last_moment accepted ≤ now → now + 500 < low → Right 2 accepted low high
  right_at_first accepted now low high past late = λ x l h.
      let one = in_time accepted now past x x x (omega (arith, late, l)) (omega arith) (omega arith) in (
        first_answer accepted (request_of 2) (request_of 1) (request_of 0) x x x one,
        λ y ly hy.
            let two = in_time accepted now past x y y (omega (arith, late, l)) hy (omega arith) in (
              ap (λ (k : List Accepted). answer k (request_of 1) y true) (first_after accepted (request_of 2) (request_of 1) (request_of 0) x x x one)
                  ∙ (second_answer accepted (request_of 2) (request_of 1) (request_of 0) x y y two ∙ ap (λ (k : List ℕ). Follows (record { items = k })) (twelve uid whole)),
              λ z lz hz.
                  let three = in_time accepted now past x y z (omega (arith, late, l)) hy hz in
                  ap (λ (k : List Accepted). answer (after k (request_of 1) y true) (request_of 0) z true) (first_after accepted (request_of 2) (request_of 1) (request_of 0) x x x one)
                  ∙ (ap (λ (k : List Accepted). answer k (request_of 0) z true) (second_after accepted (request_of 2) (request_of 1) (request_of 0) x y z three)
                  ∙ (third_answer accepted (request_of 2) (request_of 1) (request_of 0) x y z three true ∙ ap (λ (k : List ℕ). Whole k preferred) (all_of_it uid whole))),
            ),
      )

-- ---- what waiting, asking and a request on the bus have in common: no answer is under way

module _ (n a : ℕ) (high : n ≤ 125) (uid : List ℕ) (whole : length uid ≡ 16) (preferred : ℕ) (log : List Entry) (start : ℕ) (clocks : Clocks) (pace : Pace) (key : Key) where
  -- the allocator is at rest, and waits for the request of this stage, which is due then
  pub record Common (j due : ℕ) (sessions : List Session) (traffic : Traffic) (w : Cluster) : Type 0 where
    pub accepted : List Accepted
    pub next : ℕ
    pub stages : ℕ
    pub server : AllocatorState
    pub flying : List Queued
    pub side : Side n a start high clocks log accepted next stages [] server flying traffic w
    pub small : next < 32
    pub few_stages : stages + j ≤ 3
    pub early : start + 600 ≤ due
    pub soon : due + 500 * j ≤ start + 2000
    pub awaits : AwaitsBy key (start + 2100 + clocks.device) next sessions
    pub right : Right uid whole preferred j accepted (due + clocks.allocator) (due + pace.period + 2 * pace.delay + clocks.allocator)

  module _ (j due : ℕ) (sessions : List Session) (traffic : Traffic) (w : Cluster) (c : Common j due sessions traffic w) (at : ℕ) (later : traffic.at ≤ at) where
    abbrev After : Row → Type 0
    After row = Common j due sessions (traffic_after n a traffic w (record { at = at; row = row })) (after_row w row)

    with_side : (row : Row) (u : AllocatorState) (flying : List Queued)
        → Side n a start high clocks log c.accepted c.next c.stages [] u flying (traffic_after n a traffic w (record { at = at; row = row })) (after_row w row) → After row
    with_side row u flying side = record {
      accepted = c.accepted;
      next = c.next;
      stages = c.stages;
      server = u;
      flying = flying;
      side = side;
      small = c.small;
      few_stages = c.few_stages;
      early = c.early;
      soon = c.soon;
      awaits = c.awaits;
      right = c.right;
    }

    -- a tick of the allocator leaves it so
    pub common_ticks : (word : ℕ) → at ≤ start + 2100 → After (Tick n (at + clocks.allocator) word)
    common_ticks word by =
        let few_ones = c.few_stages in
        let s = side_ticks n a start high clocks log c.accepted c.next c.stages [] c.server c.flying traffic w c.side at later word by (omega (arith, few_ones)) in
        with_side (Tick n (at + clocks.allocator) word) s.0 c.flying s.1

    -- and a frame of its that goes out
    pub common_sends : is_some (next_frame (w.member n).status) ≡ true → After (Send n)
    common_sends some =
        let s = side_sends n a start high clocks log c.accepted c.next c.stages [] c.server c.flying traffic w c.side at later some in
        with_side (Send n) (after_pop c.server) (c.flying ++ s.0 ∷ []) s.1.then_side

    -- and a row that leaves the allocator as it is
    pub common_kept : (row : Row) → (after_row w row).member n ≡ w.member n
        → Carry (after_row w row).frames (traffic_after n a traffic w (record { at = at; row = row })).to_device c.flying → After row
    common_kept row same carry = with_side row c.server c.flying
        (side_kept n a start high clocks log c.accepted c.next c.stages [] c.server c.flying traffic w c.side at later row same carry)

    -- and a frame that comes to the device, which is of a NodeStatus
    pub common_gets : (k word : ℕ) → IsNext k traffic.to_device
        → (g : HasGot n a start high clocks log c.accepted c.next c.stages [] c.server c.flying traffic w c.side at later k word)
        × (g.frame.id ≢ it n) × After (ARx a k (at + clocks.device) word)
    common_gets k word is =
        let g = side_gets n a start high clocks log c.accepted c.next c.stages [] c.server c.flying traffic w c.side at later k word is in (
          g,
          λ e. its_own_first g.frame (g.others ++ c.server.queue) e (sym g.rest_was),
          with_side (ARx a k (at + clocks.device) word) c.server g.others
              (subst (λ (l : List Queued). Side n a start high clocks log c.accepted c.next c.stages l c.server g.others
              (traffic_after n a traffic w (record { at = at; row = ARx a k (at + clocks.device) word })) (after_row w (ARx a k (at + clocks.device) word)))
              (none_behind g.frame (g.others ++ c.server.queue) (sym g.rest_was)) g.then_side),
        )
      where
        its_own_first : (f : Queued) (fs : List Queued) → f.id ≡ it n → of_identifier (it n) (f ∷ fs) ≡ [] → ⊥
        its_own_first f fs e none =
            let z : nat_eq f.id (it n) ≡ true = ap (λ (k_ : ℕ). nat_eq k_ (it n)) e ∙ same_number (it n) in
            let l : f ∷ of_identifier (it n) fs ≡ [] = rw z at none in omega (arith, ap length l)

        none_behind : (f : Queued) (fs : List Queued) → of_identifier (it n) (f ∷ fs) ≡ [] → of_identifier (it n) fs ≡ []
        none_behind f fs none = elim (tell (nat_eq f.id (it n))) [
          | inl z ↦ let y : nat_eq f.id (it n) ≡ true = z in let l : f ∷ of_identifier (it n) fs ≡ [] = rw y at none in absurd (omega (arith, ap length l))
          | inr z ↦ let y : nat_eq f.id (it n) ≡ false = z in let l : of_identifier (it n) fs ≡ [] = rw y at none in l
        ]
