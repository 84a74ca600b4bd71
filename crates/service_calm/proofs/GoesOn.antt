-- A calm can go on, to any later moment.
use Rattle.std.proofs.Common.{◌≡◌, ◌≢◌, ◌⊎◌, ℕ, zero, suc, ◌+◌, ◌≤◌, Bool, true, false, not, List, [], ◌∷◌, ◌++◌, length, drop, inl, inr, refl, sym, ◌∙◌, ap, subst, arith, Option}
use Rattle.std.specs.Prelude.{⊤, ◌==◌, ◌&&◌, if◌then◌else◌}
use Rattle.std.proofs.lemmas.Bool.Decides.{eqb_tells}
use Rattle.raft_model.specs.Lists.{In, at_here, at_other}
use Rattle.bus_rows.specs.declared.row.Row.{Row}
use Rattle.bus_rows.specs.declared.row.Row.TheVariants.{ARx, ASend, ATick, Rx, Send, Tick}
use Rattle.transfer_tx.specs.Queue.{Queued}
use Rattle.allocatee.specs.Allocatee.{Device}
use Rattle.alloc_spec_laws.proofs.Choices.{tell}
use Rattle.bus_rows.specs.Timed.{Timed}
use Rattle.service_alone.specs.Calm.{IsNext, NoneIsLate, OnItsWay, Pace, end_of, next_on_bus, queue_at, queue_of, waits_after}
use Rattle.service_alone.proofs.CalmGoesOn.{device_less, device_next, member_less, member_next, waits_fine}
use Rattle.service_calm.specs.Calm.{AreCalm, Device as OfDevice, IsCalmRow, IsInTime, Member as OfMember, Party, Traffic, is_sending, no_traffic, on_way_after, queue_in, reads, receives, sends, traffic_after}
use Rattle.bus_spec.specs.Allocatees.{after_sending_from}
use Rattle.bus_spec.specs.Cluster.{Cluster, after_row}
use Rattle.bus_spec.specs.Members.{Member, after_sending}

-- ---- the rows of a party

abbrev reading_of : Party → ℕ → Row
reading_of (OfMember n) ms = Tick n ms 0
reading_of (OfDevice a) ms = ATick a ms 0

abbrev receipt_of : Party → ℕ → ℕ → Row
receipt_of (OfMember n) k ms = Rx n k ms
receipt_of (OfDevice a) k ms = ARx a k ms 0

abbrev sending_of : Party → Row
sending_of (OfMember n) = Send n
sending_of (OfDevice a) = ASend a

abbrev same_party : Party → Party → Bool
same_party (OfMember n) (OfMember m) = n == m
same_party (OfMember n) (OfDevice b) = false
same_party (OfDevice a) (OfMember m) = false
same_party (OfDevice a) (OfDevice b) = a == b

same_number : (n : ℕ) → (n == n) ≡ true
same_number n = elim (eqb_tells n n) [ inl z ↦ z.0 | inr z ↦ absurd (z.1 refl) ]

same_own : (p : Party) → same_party p p ≡ true
same_own (OfMember n) = same_number n
same_own (OfDevice a) = same_number a

equal_number : (n m : ℕ) → (n == m) ≡ true → n ≡ m
equal_number n m e = elim (eqb_tells n m) [ inl z ↦ z.1 | inr z ↦ absurd (cc (e, z.0)) ]

same_is : (p q : Party) → same_party p q ≡ true → p ≡ q
same_is (OfMember n) (OfMember m) e = ap (λ (k : ℕ). OfMember k) (equal_number n m e)
same_is (OfMember n) (OfDevice b) e = absurd (cc (e))
same_is (OfDevice a) (OfMember m) e = absurd (cc (e))
same_is (OfDevice a) (OfDevice b) e = ap (λ (k : ℕ). OfDevice k) (equal_number a b e)

-- what they are to a party
reading_reads : (p q : Party) (ms : ℕ) → reads (reading_of p ms) q ≡ same_party p q
reading_reads (OfMember n) (OfMember m) ms = refl
reading_reads (OfMember n) (OfDevice b) ms = refl
reading_reads (OfDevice a) (OfMember m) ms = refl
reading_reads (OfDevice a) (OfDevice b) ms = refl

receipt_receives : (p q : Party) (k ms : ℕ) → receives (receipt_of p k ms) q ≡ same_party p q
receipt_receives (OfMember n) (OfMember m) k ms = refl
receipt_receives (OfMember n) (OfDevice b) k ms = refl
receipt_receives (OfDevice a) (OfMember m) k ms = refl
receipt_receives (OfDevice a) (OfDevice b) k ms = refl

module _ (moment : ℕ) (w : Cluster) (ways : List OnItsWay) where
  -- a reading leaves what is on its way
  reading_ways : (p q : Party) (ms : ℕ) → on_way_after moment w (reading_of p ms) q ways ≡ ways
  reading_ways (OfMember n) (OfMember m) ms = refl
  reading_ways (OfMember n) (OfDevice b) ms = refl
  reading_ways (OfDevice a) (OfMember m) ms = refl
  reading_ways (OfDevice a) (OfDevice b) ms = refl

  -- a receipt takes the first
  receipt_ways : (p q : Party) (k ms : ℕ) → on_way_after moment w (receipt_of p k ms) q ways ≡ (if same_party p q then drop 1 ways else ways)
  receipt_ways (OfMember n) (OfMember m) k ms = refl
  receipt_ways (OfMember n) (OfDevice b) k ms = refl
  receipt_ways (OfDevice a) (OfMember m) k ms = refl
  receipt_ways (OfDevice a) (OfDevice b) k ms = refl

  -- a sending adds one, but to its own
  sending_ways : (p q : Party) → on_way_after moment w (sending_of p) q ways ≡ (if same_party p q then ways else ways ++ next_on_bus moment w ∷ [])
  sending_ways (OfMember n) (OfMember m) = by (n == m)
    where
      by : (b : Bool) → (if not b then ways ++ next_on_bus moment w ∷ [] else ways) ≡ (if b then ways else ways ++ next_on_bus moment w ∷ [])
      by true = refl
      by false = refl
  sending_ways (OfMember n) (OfDevice b) = refl
  sending_ways (OfDevice a) (OfMember m) = refl
  sending_ways (OfDevice a) (OfDevice b) = by (a == b)
    where
      by : (c : Bool) → (if not c then ways ++ next_on_bus moment w ∷ [] else ways) ≡ (if c then ways else ways ++ next_on_bus moment w ∷ [])
      by true = refl
      by false = refl

-- ---- a queue in which frames wait has a next frame, and one less behind it

sending_less : (w : Cluster) (p : Party) → queue_in w p ≢ [] → suc (length (queue_in (after_row w (sending_of p)) p)) ≡ length (queue_in w p)
sending_less w (OfMember n) some = ap (λ (x : Member). suc (length (queue_of x.status)))
    (at_here w.member n n (record (w.member n) { status = after_sending (w.member n).status }) refl) ∙ member_less (w.member n).status some
sending_less w (OfDevice a) some = ap (λ (x : Option Device). suc (length (queue_at x))) (at_here w.allocatee a a (after_sending_from (w.allocatee a)) refl)
    ∙ device_less (w.allocatee a) some

sending_others : (w : Cluster) (p q : Party) → same_party p q ≡ false → queue_in (after_row w (sending_of p)) q ≡ queue_in w q
sending_others w (OfMember n) (OfMember m) e = ap (λ (x : Member). queue_of x.status)
    (at_other w.member n m (record (w.member n) { status = after_sending (w.member n).status }) (λ s. absurd (cc (sym (ap (λ (k : ℕ). n == k) s ∙ same_number n) ∙ e))))
sending_others w (OfMember n) (OfDevice b) e = refl
sending_others w (OfDevice a) (OfMember m) e = refl
sending_others w (OfDevice a) (OfDevice b) e = ap queue_at (at_other w.allocatee a b (after_sending_from (w.allocatee a)) (λ s. absurd (cc (sym (ap (λ (k : ℕ). a == k) s ∙ same_number a) ∙ e))))

none_of : {A : Type 0} (xs : List A) → length xs ≡ 0 → xs ≡ []
none_of [] e = refl
none_of (x ∷ xs) e = absurd (omega (arith, e))

-- ---- rows go on

module _ (group : List Party) (clocks : Party → ℕ) (pace : Pace) where
  abbrev Fine : Traffic → Cluster → Type 0
  Fine traffic w = IsInTime group clocks pace traffic w traffic.at

  late_drop : (moment : ℕ) (ways : List OnItsWay) → NoneIsLate moment pace.delay ways → NoneIsLate moment pace.delay (drop 1 ways)
  late_drop moment [] h = tt
  late_drop moment (way ∷ ways) h = h.1

  late_more : (moment : ℕ) (ways : List OnItsWay) (number : ℕ) → NoneIsLate moment pace.delay ways
      → NoneIsLate moment pace.delay (ways ++ (record { number = number; since = moment }) ∷ [])
  late_more moment [] number h = (omega arith, tt)
  late_more moment (way ∷ ways) number h = (h.0, late_more moment ways number h.1)

  late_after : (moment : ℕ) (w : Cluster) (row : Row) (q : Party) (ways : List OnItsWay) → NoneIsLate moment pace.delay ways
      → NoneIsLate moment pace.delay (on_way_after moment w row q ways)
  late_after moment w row q ways h = by (receives row q) (is_sending row && not (sends row q))
    where
      by : (a b : Bool) → NoneIsLate moment pace.delay (if a then drop 1 ways else (if b then ways ++ next_on_bus moment w ∷ [] else ways))
      by true b = late_drop moment ways h
      by false true = late_more moment ways (length w.frames + 1) h
      by false false = h

  -- a row that comes in time leaves no time exceeded
  fine_after : (traffic : Traffic) (w : Cluster) (timed : Timed) → IsInTime group clocks pace traffic w timed.at → Fine (traffic_after traffic w timed) (after_row w timed.row)
  fine_after traffic w timed h = record {
    moments = omega arith;
    ticks = λ q i. ticks_fine (reads timed.row q) (traffic.ticked q) (h.ticks q i);
    sends_soon = λ q i. waits_fine pace.delay timed.at (traffic.waits q) (queue_in w q) (queue_in (after_row w timed.row) q) (h.sends_soon q i);
    hears = λ q i. late_after timed.at w timed.row q (traffic.to q) (h.hears q i);
  }
    where
      ticks_fine : (b : Bool) (ticked : ℕ) → timed.at ≤ ticked + pace.period → timed.at ≤ (if b then timed.at else ticked) + pace.period
      ticks_fine true ticked k = omega arith
      ticks_fine false ticked k = k

  -- rows lead to a moment
  record Reaches (last : ℕ) (traffic : Traffic) (w : Cluster) : Type 0 where
    more : List Timed
    calm : AreCalm group clocks pace traffic w more
    by : last ≤ end_of traffic.at more

  behind : (last : ℕ) (traffic : Traffic) (w : Cluster) (moment : ℕ) (row : Row) → IsInTime group clocks pace traffic w moment → IsCalmRow group clocks pace traffic w moment row
      → Reaches last (traffic_after traffic w (record { at = moment; row = row })) (after_row w row) → Reaches last traffic w
  behind last traffic w moment row time calm r = record { more = (record { at = moment; row = row }) ∷ r.more; calm = (time, calm, r.calm); by = r.by }

  -- all that is under way arrives, goes out, and each clock is read, at one moment
  module _ (last moment : ℕ) where
    abbrev Then : (Traffic → Cluster → Type 0) → Type 0
    Then P = (traffic : Traffic) (w : Cluster) → Fine traffic w → traffic.at ≡ moment → P traffic w → Reaches last traffic w

    -- this holds of each party of the group that is none of these
    abbrev AllBut : List Party → (Party → Type 0) → Type 0
    AllBut left P = (q : Party) → In q group → In q left ⊎ P q

    one_less_but : (p : Party) (left : List Party) (P : Party → Type 0) → P p → AllBut (p ∷ left) P → AllBut left P
    one_less_but p left P here all q i = elim (all q i) [
      | inl there ↦ elim there [ inl e ↦ inr (subst P (sym e) here) | inr j ↦ inl j ]
      | inr holds ↦ inr holds
    ]

    abbrev All : (Party → Type 0) → Type 0
    All P = (q : Party) → In q group → P q

    of_all : (P : Party → Type 0) → AllBut [] P → All P
    of_all P all q i = elim (all q i) [ inl j ↦ absurd j | inr holds ↦ holds ]

    at_moment : (traffic : Traffic) (w : Cluster) → traffic.at ≡ moment → Fine traffic w → IsInTime group clocks pace traffic w moment
    at_moment traffic w now fine = subst (λ (k : ℕ). IsInTime group clocks pace traffic w k) now fine

    -- ---- what is on its way comes

    abbrev Comes : Traffic → Party → Type 0
    Comes traffic q = traffic.to q ≡ []

    receipt_calm : (traffic : Traffic) (w : Cluster) (p : Party) (way : OnItsWay) (ways : List OnItsWay) → In p group → traffic.to p ≡ way ∷ ways
        → IsCalmRow group clocks pace traffic w moment (receipt_of p way.number (moment + clocks p))
    receipt_calm traffic w (OfMember n) way ways i e = (i, refl, subst (IsNext way.number) (sym e) refl)
    receipt_calm traffic w (OfDevice a) way ways i e = (i, refl, subst (IsNext way.number) (sym e) refl)

    one_comes : (p : Party) (left : List Party) → In p group → Then (λ traffic w. AllBut left (Comes traffic)) → (count : ℕ) (traffic : Traffic) (w : Cluster)
        → Fine traffic w → traffic.at ≡ moment → length (traffic.to p) ≡ count → AllBut (p ∷ left) (Comes traffic) → Reaches last traffic w
    one_comes p left i then_ zero traffic w fine now size all = then_ traffic w fine now (one_less_but p left (Comes traffic) (none_of (traffic.to p) size) all)
    one_comes p left i then_ (suc count) traffic w fine now size all = by (traffic.to p) refl size
        (λ k all_then then_fine then_size. one_comes p left i then_ count (traffic_after traffic w (record { at = moment; row = receipt_of p k (moment + clocks p) }))
        (after_row w (receipt_of p k (moment + clocks p))) then_fine refl then_size all_then)
      where
        still_none : (b : Bool) (ways : List OnItsWay) → ways ≡ [] → (if b then drop 1 ways else ways) ≡ []
        still_none true ways e = ap (λ (l : List OnItsWay). drop 1 l) e
        still_none false ways e = e

        by : (ways : List OnItsWay) → traffic.to p ≡ ways → length ways ≡ suc count
            → ((k : ℕ) → let then_traffic : Traffic = traffic_after traffic w (record { at = moment; row = receipt_of p k (moment + clocks p) }) in
            AllBut (p ∷ left) (Comes then_traffic) → Fine then_traffic (after_row w (receipt_of p k (moment + clocks p))) → length (then_traffic.to p) ≡ count
            → Reaches last then_traffic (after_row w (receipt_of p k (moment + clocks p)))) → Reaches last traffic w
        by [] e n goes = absurd (omega (arith, n))
        by (way ∷ ways) e n goes = behind last traffic w moment (receipt_of p way.number (moment + clocks p)) (at_moment traffic w now fine) (receipt_calm traffic w p way ways i e)
            (goes way.number
            (λ q j. elim (all q j) [
              | inl there ↦ inl there
              | inr none ↦ inr (receipt_ways moment w (traffic.to q) p q way.number (moment + clocks p) ∙ still_none (same_party p q) (traffic.to q) none)
            ])
            (fine_after traffic w (record { at = moment; row = receipt_of p way.number (moment + clocks p) }) (at_moment traffic w now fine))
            (ap length (receipt_ways moment w (traffic.to p) p p way.number (moment + clocks p)
            ∙ (ap (λ (b : Bool). if b then drop 1 (traffic.to p) else traffic.to p) (same_own p) ∙ ap (λ (l : List OnItsWay). drop 1 l) e)) ∙ (let k : length ways ≡ count = omega (arith, n) in k)))

    comes_all : (left : List Party) → ((p : Party) → In p left → In p group) → Then (λ traffic w. All (Comes traffic)) → Then (λ traffic w. AllBut left (Comes traffic))
    comes_all [] inside then_ traffic w fine now all = then_ traffic w fine now (of_all (Comes traffic) all)
    comes_all (p ∷ left) inside then_ traffic w fine now all =
        one_comes p left (inside p (inl refl)) (comes_all left (λ q j. inside q (inr j)) then_) (length (traffic.to p)) traffic w fine now refl all

    -- ---- what waits goes out

    abbrev Goes : Cluster → Party → Type 0
    Goes w q = queue_in w q ≡ []

    -- what is on its way came to the bus now
    abbrev AllSince : List OnItsWay → Type 0
    AllSince [] = ⊤
    AllSince (way ∷ ways) = (way.since ≡ moment) × AllSince ways

    abbrev Fresh : Traffic → Party → Type 0
    Fresh traffic q = AllSince (traffic.to q)

    since_more : (number : ℕ) (ways : List OnItsWay) → AllSince ways → AllSince (ways ++ (record { number = number; since = moment }) ∷ [])
    since_more number [] h = (refl, tt)
    since_more number (way ∷ ways) h = (h.0, since_more number ways h.1)

    sending_calm : (traffic : Traffic) (w : Cluster) (p : Party) → In p group → queue_in w p ≢ [] → IsCalmRow group clocks pace traffic w moment (sending_of p)
    sending_calm traffic w (OfMember n) i some = (i, member_next (w.member n).status some)
    sending_calm traffic w (OfDevice a) i some = (i, device_next (w.allocatee a) some)

    one_goes : (p : Party) (left : List Party) → In p group → Then (λ traffic w. AllBut left (Goes w) × All (Fresh traffic)) → (count : ℕ) (traffic : Traffic) (w : Cluster)
        → Fine traffic w → traffic.at ≡ moment → length (queue_in w p) ≡ count → AllBut (p ∷ left) (Goes w) × All (Fresh traffic) → Reaches last traffic w
    one_goes p left i then_ zero traffic w fine now size all =
        then_ traffic w fine now (one_less_but p left (Goes w) (none_of (queue_in w p) size) all.0, all.1)
    one_goes p left i then_ (suc count) traffic w fine now size all =
        behind last traffic w moment (sending_of p) (at_moment traffic w now fine) (sending_calm traffic w p i some)
        (one_goes p left i then_ count (traffic_after traffic w (record { at = moment; row = sending_of p })) (after_row w (sending_of p))
        (fine_after traffic w (record { at = moment; row = sending_of p }) (at_moment traffic w now fine)) refl
        (let l = sending_less w p some in omega (arith, l, size)) (goes_then, fresh_then))
      where
        some : queue_in w p ≢ []
        some e = absurd (omega (arith, ap length e, size))

        goes_then : AllBut (p ∷ left) (Goes (after_row w (sending_of p)))
        goes_then q j = elim (all.0 q j) [
          | inl there ↦ inl there
          | inr none ↦ elim (tell (same_party p q)) [
            | inl t ↦ absurd (some (subst (λ (x : Party). queue_in w x ≡ []) (sym (same_is p q t)) none))
            | inr f ↦ inr (sending_others w p q f ∙ none)
          ]
        ]

        fresh_then : All (Fresh (traffic_after traffic w (record { at = moment; row = sending_of p })))
        fresh_then q j = subst AllSince (sym (sending_ways moment w (traffic.to q) p q)) (by (same_party p q))
          where
            by : (b : Bool) → AllSince (if b then traffic.to q else traffic.to q ++ next_on_bus moment w ∷ [])
            by true = all.1 q j
            by false = since_more (length w.frames + 1) (traffic.to q) (all.1 q j)

    goes_all : (left : List Party) → ((p : Party) → In p left → In p group) → Then (λ traffic w. All (Goes w) × All (Fresh traffic))
        → Then (λ traffic w. AllBut left (Goes w) × All (Fresh traffic))
    goes_all [] inside then_ traffic w fine now all = then_ traffic w fine now (of_all (Goes w) all.0, all.1)
    goes_all (p ∷ left) inside then_ traffic w fine now all =
        one_goes p left (inside p (inl refl)) (goes_all left (λ q j. inside q (inr j)) then_) (length (queue_in w p)) traffic w fine now refl all

    -- ---- each clock is read

    abbrev Ticks : Traffic → Party → Type 0
    Ticks traffic q = traffic.ticked q ≡ moment

    abbrev Waits : Traffic → Cluster → Party → Type 0
    Waits traffic w q = queue_in w q ≢ [] → traffic.waits q ≡ moment

    waits_now : (since : ℕ) (before then_ : List Queued) → (before ≢ [] → since ≡ moment) → then_ ≢ [] → waits_after moment since before then_ ≡ moment
    waits_now since [] then_ h some = refl
    waits_now since (f ∷ fs) [] h some = refl
    waits_now since (f ∷ fs) (g ∷ gs) h some = h (λ e. absurd (omega (arith, ap length e)))

    abbrev Done : List Party → Traffic → Cluster → Type 0
    Done left traffic w = AllBut left (Ticks traffic) × All (Fresh traffic) × All (Waits traffic w)

    reading_calm : (traffic : Traffic) (w : Cluster) (p : Party) (at_ : ℕ) → In p group → IsCalmRow group clocks pace traffic w at_ (reading_of p (at_ + clocks p))
    reading_calm traffic w (OfMember n) at_ i = (i, refl)
    reading_calm traffic w (OfDevice a) at_ i = (i, refl)

    ticks_all : (left : List Party) → ((p : Party) → In p left → In p group) → Then (Done []) → Then (Done left)
    ticks_all [] inside then_ traffic w fine now all = then_ traffic w fine now all
    ticks_all (p ∷ left) inside then_ traffic w fine now all =
        behind last traffic w moment (reading_of p (moment + clocks p)) (at_moment traffic w now fine) (reading_calm traffic w p moment (inside p (inl refl)))
        (ticks_all left (λ q j. inside q (inr j)) then_ (traffic_after traffic w timed) (after_row w timed.row)
        (fine_after traffic w timed (at_moment traffic w now fine)) refl (
          one_less_but p left (Ticks (traffic_after traffic w timed)) own_ticks all_tick,
          λ q j. subst AllSince (sym (reading_ways moment w (traffic.to q) p q (moment + clocks p))) (all.1 q j),
          λ q j. waits_now (traffic.waits q) (queue_in w q) (queue_in (after_row w timed.row) q) (all.2 q j),
        ))
      where
        timed : Timed
        timed = record { at = moment; row = reading_of p (moment + clocks p) }

        own_ticks : Ticks (traffic_after traffic w (record { at = moment; row = reading_of p (moment + clocks p) })) p
        own_ticks = ap (λ (b : Bool). if b then moment else traffic.ticked p) (reading_reads p p (moment + clocks p) ∙ same_own p)

        all_tick : AllBut (p ∷ left) (Ticks (traffic_after traffic w (record { at = moment; row = reading_of p (moment + clocks p) })))
        all_tick q j = elim (all.0 q j) [
          | inl there ↦ inl there
          | inr ticked ↦ inr (by (reads (reading_of p (moment + clocks p)) q) (traffic.ticked q) ticked)
        ]
          where
            by : (b : Bool) (ticked : ℕ) → ticked ≡ moment → (if b then moment else ticked) ≡ moment
            by true ticked e = refl
            by false ticked e = e

    -- ---- a millisecond later

    fresh_late : (ways : List OnItsWay) → 1 ≤ pace.delay → AllSince ways → NoneIsLate (suc moment) pace.delay ways
    fresh_late [] some h = tt
    fresh_late (way ∷ ways) some h = (let e = h.0 in omega (arith, some, e), fresh_late ways some h.1)

    later : (traffic : Traffic) (w : Cluster) → traffic.at ≡ moment → 1 ≤ pace.period → 1 ≤ pace.delay → Done [] traffic w → IsInTime group clocks pace traffic w (suc moment)
    later traffic w now period delay done = record {
      moments = omega (arith, now);
      ticks = λ q i. let e = of_all (Ticks traffic) done.0 q i in omega (arith, e, period);
      sends_soon = λ q i some. let e = done.2 q i some in omega (arith, e, delay);
      hears = λ q i. fresh_late (traffic.to q) delay (done.1 q i);
    }

  -- from a moment at which no time is exceeded, so many milliseconds on
  goes_on : (party : Party) → In party group → 1 ≤ pace.period → 1 ≤ pace.delay → (last count : ℕ) (traffic : Traffic) (w : Cluster) → Fine traffic w
      → last ≤ traffic.at + count → Reaches last traffic w
  goes_on party i period delay last zero traffic w fine long = record { more = []; calm = tt; by = omega (arith, long) }
  goes_on party i period delay last (suc count) traffic w fine long =
      comes_all last traffic.at group (λ p j. j)
      (λ traffic_2 w_2 fine_2 now_2 none. goes_all last traffic.at group (λ p j. j)
      (λ traffic_3 w_3 fine_3 now_3 out. ticks_all last traffic.at group (λ p j. j)
      (λ traffic_4 w_4 fine_4 now_4 done.
      let time = later last traffic.at traffic_4 w_4 now_4 period delay done in
      let timed : Timed = record { at = suc traffic.at; row = reading_of party (suc traffic.at + clocks party) } in
      behind last traffic_4 w_4 (suc traffic.at) timed.row time (reading_calm last traffic.at traffic_4 w_4 party (suc traffic.at) i)
      (goes_on party i period delay last count (traffic_after traffic_4 w_4 timed) (after_row w_4 timed.row) (fine_after traffic_4 w_4 timed time) (omega (arith, long))))
      traffic_3 w_3 fine_3 now_3 (λ q j. inl j, out.1, λ q j some. absurd (some (out.0 q j))))
      traffic_2 w_2 fine_2 now_2 (λ q j. inl j, λ q j. subst (AllSince last traffic.at) (sym (none q j)) tt))
      traffic w fine refl (λ q j. inl j)

  extends : (party : Party) → In party group → 1 ≤ pace.period → 1 ≤ pace.delay → (more : ℕ) (whole : List Timed) (traffic : Traffic) (w : Cluster) → Fine traffic w
      → AreCalm group clocks pace traffic w whole
      → (rest : List Timed) × AreCalm group clocks pace traffic w (whole ++ rest) × (end_of traffic.at whole + more ≤ end_of traffic.at (whole ++ rest))
  extends party i period delay more [] traffic w fine calm =
      let r = goes_on party i period delay (traffic.at + more) more traffic w fine (omega arith) in (r.more, r.calm, r.by)
  extends party i period delay more (timed ∷ whole) traffic w fine calm =
      let r = extends party i period delay more whole (traffic_after traffic w timed) (after_row w timed.row) (fine_after traffic w timed calm.0) calm.2 in
      (r.0, (calm.0, calm.1, r.1), r.2)

  pub calm_goes_on : (party : Party) (start more : ℕ) (w : Cluster) (whole : List Timed) → In party group → 1 ≤ pace.period → 1 ≤ pace.delay
      → AreCalm group clocks pace (no_traffic start) w whole
      → (rest : List Timed) × AreCalm group clocks pace (no_traffic start) w (whole ++ rest) × (end_of start whole + more ≤ end_of start (whole ++ rest))
  calm_goes_on party start more w whole i period delay calm = extends party i period delay more whole (no_traffic start) w
      (record { moments = omega arith; ticks = λ q j. omega arith; sends_soon = λ q j some. omega arith; hears = λ q j. tt }) calm
