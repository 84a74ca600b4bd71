-- When a device asks.
use Rattle.std.proofs.Common.{◌≡◌, ◌⊎◌, inl, inr, ℕ, ◌+◌, ◌-◌, ◌<◌, ◌≤◌, Bool, true, false, List, [], ◌∷◌, length, refl, sym, ap, subst, ◌∙◌, arith, Some, None, Option}
use Rattle.std.specs.Prelude.{if◌then◌else◌}
use Rattle.std.proofs.lemmas.Option.{none-some, same_Some}
use Rattle.allocatee.specs.declared.timer.FollowUp.{FollowUp}
use Rattle.allocatee.specs.Allocatee.{Device, Event, step}
use Rattle.allocatee.specs.Allocatee.Event.{Tick}
use Rattle.allocatee.specs.Asking.{Asking, due, has_passed}
use Rattle.allocatee.specs.Times.{Asks, AsksFirst, FollowsUp, Happening, IsQuiet, LeaveTimer, LeavesTimer, Opening, TakesAllocation, WasAnswered, after_all, after_one, clock, opened}
use Rattle.allocatee.specs.Times.Happening.{Sends, Steps}
use Rattle.allocatee.proofs.Requests.{le_from, le_is, lt_from, stages_apart, stays_apart}
use Rattle.allocatee.proofs.Steps.{AsksAnew, AsksOn, begun_at, effect, no_offer, no_tick}

-- ---- which steps ask

module _ (part : List ℕ) (d : Device) (number : ℕ) (event : Event) where
  pub is_anew : Asks true part d number event → AsksAnew (begun_at d event) (step d number event).device.asking (step d number event).sent
  is_anew asks = elim (effect d number event) [
    | inl z ↦ stays_apart d.asking.queue asks.frame (sym (ap (λ (a : Asking). a.queue) z.same) ∙ asks.behind)
    | inr y ↦ elim y [
      | inl z ↦ stays_apart d.asking.queue asks.frame (sym z.queue ∙ asks.behind)
      | inr x ↦ elim x [
        | inl z ↦ z
        | inr z ↦ elim z.offer.queue [
          | inl same ↦ stays_apart d.asking.queue asks.frame (sym same ∙ asks.behind)
          | inr grows ↦ stages_apart d.asking.queue grows.0 asks.frame _ part (sym grows.1 ∙ asks.behind) grows.2 asks.has
        ]
      ]
    ]
  ]

  pub is_on : Asks false part d number event → AsksOn (begun_at d event) (step d number event).device.asking (step d number event).sent
  is_on asks = elim (effect d number event) [
    | inl z ↦ stays_apart d.asking.queue asks.frame (sym (ap (λ (a : Asking). a.queue) z.same) ∙ asks.behind)
    | inr y ↦ elim y [
      | inl z ↦ stays_apart d.asking.queue asks.frame (sym z.queue ∙ asks.behind)
      | inr x ↦ elim x [
        | inr z ↦ z
        | inl z ↦ elim z.offer.queue [
          | inl same ↦ stays_apart d.asking.queue asks.frame (sym same ∙ asks.behind)
          | inr grows ↦ stages_apart d.asking.queue asks.frame grows.0 part _ (sym asks.behind ∙ grows.1) asks.has grows.2
        ]
      ]
    ]
  ]

-- ---- the clock goes on

pub moment_is : (d : Device) (number : ℕ) (event : Event) → clock (step d number event).device ≡ (begun_at d event).moment
moment_is d number event = elim (effect d number event) [
  | inl z ↦ ap (λ (a : Asking). a.moment) z.same
  | inr y ↦ elim y [ inl z ↦ z.moment | inr x ↦ elim x [ inl z ↦ z.offer.moment | inr z ↦ z.offer.moment ] ]
]

goes_on : (d : Device) (h : Happening) → clock d ≤ clock (after_one d h)
goes_on d (Steps number event) = omega (arith, moment_is d number event)
goes_on d Sends = omega arith

-- ---- 600 ms

pub record Runs (m : ℕ) (a : Asking) : Type 0 where
  pub since : m ≤ a.request.since
  pub least : 600 ≤ a.request.length

-- the request timer began at a moment or later, unless it holds a node ID
abbrev pub Waits : ℕ → Device → Type 0
Waits m d = (m ≤ clock d) × (d.asking.holds ≡ None → Runs m d.asking)

runs_same : (m : ℕ) (a b : Asking) → b.request ≡ a.request → Runs m a → Runs m b
runs_same m a b e r = record {
  since = subst (λ timer. m ≤ timer.since) (sym e) r.since;
  least = subst (λ timer. 600 ≤ timer.length) (sym e) r.least;
}

waits_one : (m : ℕ) (d : Device) (h : Happening) → Waits m d → Waits m (after_one d h)
waits_one m d Sends w = (w.0, λ free. runs_same m d.asking _ refl (w.1 free))
waits_one m d (Steps number event) w = (
  omega (arith, w.0, goes_on d (Steps number event)),
  λ free. elim (effect d number event) [
    | inl z ↦ runs_same m d.asking _ (ap (λ (a : Asking). a.request) z.same) (w.1 (sym (ap (λ (a : Asking). a.holds) z.same) ∙ free))
    | inr y ↦ elim y [
      | inl z ↦ record { since = omega (arith, w.0, z.since); least = z.least }
      | inr x ↦ elim x [
        | inl z ↦ record {
          since = omega (arith, w.0, ap (λ timer. timer.since) z.offer.request);
          least = omega (arith, ap (λ timer. timer.length) z.offer.request);
        }
        | inr z ↦ runs_same m d.asking _ z.offer.request (w.1 z.free)
      ]
    ]
  ],
)

waits_all : (m : ℕ) (d : Device) (since : List Happening) → Waits m d → Waits m (after_all d since)
waits_all m d [] w = w
waits_all m d (last ∷ earlier) w = waits_one m (after_all d earlier) last (waits_all m d earlier w)

asks_late : (m : ℕ) (part : List ℕ) (d : Device) (number : ℕ) (event : Event) → Waits m d → Asks true part d number event
    → m + 600 ≤ clock (step d number event).device
asks_late m part d number event w asks =
    let z = is_anew part d number event asks in
    let runs = w.1 z.free in
    let passed = le_from d.asking.request.length ((begun_at d event).moment - d.asking.request.since) z.passed in
    omega (arith, runs.since, runs.least, passed, moment_is d number event)

waits_opened : (o : Opening) → Waits o.now (opened o)
waits_opened o = (omega arith, λ free. record { since = omega arith; least = omega arith })

pub after_opening : (o : Opening) (happenings : List Happening) (number : ℕ) (event : Event) (part : List ℕ)
    → Asks true part (after_all (opened o) happenings) number event
    → o.now + 600 ≤ clock (step (after_all (opened o) happenings) number event).device
after_opening o happenings number event part asks =
    asks_late o.now part (after_all (opened o) happenings) number event (waits_all o.now (opened o) happenings (waits_opened o)) asks

waits_taken : (d : Device) (number : ℕ) (event : Event) → TakesAllocation d event → Waits (clock (step d number event).device) (step d number event).device
waits_taken d number event t = (
  omega arith,
  λ free. elim (effect d number event) [
    | inl z ↦ absurd (z.quiet (sym (ap (λ (a : Asking). a.holds) z.same) ∙ free) t)
    | inr y ↦ elim y [
      | inl z ↦ record { since = omega (arith, z.since, z.moment); least = z.least }
      | inr x ↦ elim x [ inl z ↦ absurd (z.offered (no_offer d number event t)) | inr z ↦ absurd (z.offered (no_offer d number event t)) ]
    ]
  ],
)

pub after_allocations : (d : Device) (since : List Happening) (number later : ℕ) (event again : Event) (part : List ℕ) → TakesAllocation d event
    → Asks true part (after_all (step d number event).device since) later again
    → clock (step d number event).device + 600 ≤ clock (step (after_all (step d number event).device since) later again).device
after_allocations d since number later event again part t asks =
    let b : Device = (step d number event).device in
    asks_late (clock b) part (after_all b since) later again (waits_all (clock b) b since (waits_taken d number event t)) asks

waits_asked : (part : List ℕ) (d : Device) (number : ℕ) (event : Event) → Asks true part d number event
    → Waits (clock (step d number event).device) (step d number event).device
waits_asked part d number event asks =
    let z = is_anew part d number event asks in (
      omega arith,
      λ free. record {
        since = omega (arith, ap (λ timer. timer.since) z.offer.request, z.offer.moment);
        least = omega (arith, ap (λ timer. timer.length) z.offer.request);
      },
    )

pub after_requests : (d : Device) (since : List Happening) (number later : ℕ) (event again : Event) (part part_again : List ℕ) → Asks true part d number event
    → Asks true part_again (after_all (step d number event).device since) later again
    → clock (step d number event).device + 600 ≤ clock (step (after_all (step d number event).device since) later again).device
after_requests d since number later event again part part_again first asks =
    let b : Device = (step d number event).device in
    asks_late (clock b) part_again (after_all b since) later again (waits_all (clock b) b since (waits_asked part d number event first)) asks

-- ---- 1,000 ms

pub record IsSame (d after : Device) : Type 0 where
  pub request : after.asking.request ≡ d.asking.request
  pub follow_up : after.asking.follow_up ≡ d.asking.follow_up
  pub holds : after.asking.holds ≡ d.asking.holds

quiet_same : (d : Device) (h : Happening) → IsQuiet d h → IsSame d (after_one d h)
quiet_same d Sends q = record { request = refl; follow_up = refl; holds = refl }
quiet_same d (Steps number event) q = elim (effect d number event) [
  | inl z ↦ record {
    request = ap (λ (a : Asking). a.request) z.same;
    follow_up = ap (λ (a : Asking). a.follow_up) z.same;
    holds = ap (λ (a : Asking). a.holds) z.same;
  }
  | inr y ↦ elim y [
    | inl z ↦ absurd (q.1 z.taken)
    | inr x ↦ elim x [ inl z ↦ absurd (z.offered q.0) | inr z ↦ absurd (z.offered q.0) ]
  ]
]

-- a follow-up leaves the request timer alone
pub record KeepsTimer (d after : Device) : Type 0 where
  pub request : after.asking.request ≡ d.asking.request
  pub holds : after.asking.holds ≡ d.asking.holds

timer_same : (d : Device) (h : Happening) → LeavesTimer d h → KeepsTimer d (after_one d h)
timer_same d Sends q = record { request = refl; holds = refl }
timer_same d (Steps number event) q = elim (effect d number event) [
  | inl z ↦ record { request = ap (λ (a : Asking). a.request) z.same; holds = ap (λ (a : Asking). a.holds) z.same }
  | inr y ↦ elim y [
    | inl z ↦ absurd (q.0 z.taken)
    | inr x ↦ elim x [
      | inl z ↦ elim q.1 [
        | inl none ↦ absurd (z.offered none)
        | inr asked ↦ let on = is_on asked.0 d number event asked.1 in absurd (none-some on.known (sym z.none ∙ on.due))
      ]
      | inr z ↦ record { request = z.offer.request; holds = z.offer.holds }
    ]
  ]
]

timers_same : (d : Device) (since : List Happening) → LeaveTimer d since → KeepsTimer d (after_all d since)
timers_same d [] q = record { request = refl; holds = refl }
timers_same d (last ∷ earlier) q =
    let one = timer_same (after_all d earlier) last q.0 in
    let rest = timers_same d earlier q.1 in
    record { request = one.request ∙ rest.request; holds = one.holds ∙ rest.holds }

pub record IsBounded (d : Device) : Type 0 where
  pub since : d.asking.request.since ≤ clock d
  pub most : d.asking.request.length ≤ 1000

bounded_one : (d : Device) (h : Happening) → IsBounded d → IsBounded (after_one d h)
bounded_one d Sends b = record { since = b.since; most = b.most }
bounded_one d (Steps number event) b = elim (effect d number event) [
  | inl z ↦ record {
    since = omega (arith, b.since, goes_on d (Steps number event), ap (λ (a : Asking). a.request.since) z.same);
    most = omega (arith, b.most, ap (λ (a : Asking). a.request.length) z.same);
  }
  | inr y ↦ elim y [
    | inl z ↦ record { since = omega (arith, z.since, z.moment); most = z.most }
    | inr x ↦ elim x [
      | inl z ↦ record {
        since = omega (arith, ap (λ timer. timer.since) z.offer.request, z.offer.moment);
        most = omega (arith, ap (λ timer. timer.length) z.offer.request);
      }
      | inr z ↦ record {
        since = omega (arith, b.since, goes_on d (Steps number event), ap (λ timer. timer.since) z.offer.request);
        most = omega (arith, b.most, ap (λ timer. timer.length) z.offer.request);
      }
    ]
  ]
]

bounded : (o : Opening) (happenings : List Happening) → IsBounded (after_all (opened o) happenings)
bounded o [] = record { since = omega arith; most = omega arith }
bounded o (last ∷ earlier) = bounded_one (after_all (opened o) earlier) last (bounded o earlier)

-- a reading of the clock at which the request timer has passed
asks_now : (d : Device) (number now word : ℕ) → d.asking.holds ≡ None → length d.asking.queue < 8
    → d.asking.request.since + d.asking.request.length ≤ clock (step d number (Tick now word)).device
    → AsksFirst d number (Tick now word) ⊎ ((known : ℕ) × FollowsUp known d number (Tick now word))
asks_now d number now word free few passed = elim (effect d number (Tick now word)) [
  | inl z ↦
      let short = lt_from d.asking.request.length ((begun_at d (Tick now word)).moment - d.asking.request.since) (z.waits now word refl free).1 in
      absurd (omega (arith, short, passed, moment_is d number (Tick now word)))
  | inr y ↦ elim y [
    | inl z ↦ absurd (no_tick now word d z.taken)
    | inr x ↦ elim x [
      | inl z ↦ let grows = z.offer.room few in inl (record { frame = grows.0; behind = grows.1; has = grows.2 })
      | inr z ↦ let grows = z.offer.room few in inr (z.known, record { frame = grows.0; behind = grows.1; has = grows.2 })
    ]
  ]
]

pub asks_in_time : (o : Opening) (before since : List Happening) (number now word : ℕ) → let from = after_all (opened o) before in let d = after_all from since in
    LeaveTimer from since → d.asking.holds ≡ None → length d.asking.queue < 8 → clock from + 1000 ≤ clock (step d number (Tick now word)).device
    → AsksFirst d number (Tick now word) ⊎ ((known : ℕ) × FollowsUp known d number (Tick now word))
asks_in_time o before since number now word left free few late =
    let from : Device = after_all (opened o) before in
    let same = timers_same from since left in
    let b = bounded o before in
    asks_now (after_all from since) number now word free few
    (omega (arith, b.since, b.most, late, ap (λ timer. timer.since) same.request, ap (λ timer. timer.length) same.request))

-- ---- 400 ms

-- a follow-up that waits began with the request timer, and comes of the last Allocation
pub record IsBehind (o : Opening) (happenings : List Happening) (f : FollowUp) : Type 0 where
  pub began : f.timer.since ≡ (after_all (opened o) happenings).asking.request.since
  pub most : f.timer.length ≤ 400
  pub answered : WasAnswered (opened o) happenings f.known f.timer.since

abbrev pub Follow : Opening → List Happening → Type 0
Follow o happenings = (f : FollowUp) → (after_all (opened o) happenings).asking.follow_up ≡ Some f
    → (after_all (opened o) happenings).asking.holds ≡ None → IsBehind o happenings f

not_due : (now : ℕ) (f : FollowUp) → due now (Some f) ≡ None → now - f.timer.since < f.timer.length
not_due now f e = lt_from f.timer.length (now - f.timer.since) (by (has_passed now f.timer) e) where
  by : (b : Bool) → (if b then Some f.known else None) ≡ None → b ≡ false
  by true e = absurd (none-some f.known (sym e))
  by false e = refl

is_due : (now : ℕ) (f : FollowUp) (known : ℕ) → due now (Some f) ≡ Some known → f.known ≡ known
is_due now f known e = by (has_passed now f.timer) e where
  by : (b : Bool) → (if b then Some f.known else None) ≡ Some known → f.known ≡ known
  by true e = same_Some f.known known e
  by false e = absurd (none-some known e)

module _ (o : Opening) (earlier : List Happening) (before : Follow o earlier) where
  abbrev reached : Device
  reached = after_all (opened o) earlier

  stays_behind : (h : Happening) → IsQuiet reached h → IsSame reached (after_one reached h) → Follow o (h ∷ earlier)
  stays_behind h quiet same f e free =
      let b = before f (sym same.follow_up ∙ e) (sym same.holds ∙ free) in
      record { began = b.began ∙ ap (λ timer. timer.since) (sym same.request); most = b.most; answered = inr (quiet, b.answered) }

  follow_one : (h : Happening) → Follow o (h ∷ earlier)
  follow_one Sends = stays_behind Sends tt (record { request = refl; follow_up = refl; holds = refl })
  follow_one (Steps number event) = elim (effect reached number event) [
    | inl z ↦ λ f e free.
        let quiet : IsQuiet reached (Steps number event) = (z.offered, z.quiet (sym (ap (λ (a : Asking). a.holds) z.same) ∙ free)) in
        stays_behind (Steps number event) quiet (quiet_same reached (Steps number event) quiet) f e free
    | inr y ↦ elim y [
      | inl z ↦ λ f e free.
          let facts = z.follow f e in
          record { began = facts.0 ∙ sym z.since; most = facts.1; answered = inl (facts.2, z.moment ∙ sym facts.0) }
      | inr x ↦ elim x [
        | inl z ↦ λ f e free.
            let waiting : reached.asking.follow_up ≡ Some f = sym z.offer.follow_up ∙ e in
            let b = before f waiting z.free in
            let runs = (waits_all o.now (opened o) earlier (waits_opened o)).1 z.free in
            let now : ℕ = (begun_at reached event).moment in
            let short = not_due now f (ap (due now) (sym waiting) ∙ z.none) in
            let passed = le_from reached.asking.request.length (now - reached.asking.request.since) z.passed in
            absurd (omega (arith, short, passed, b.began, b.most, runs.least))
        | inr z ↦ λ f e free. absurd (none-some f (sym z.offer.follow_up ∙ e))
      ]
    ]
  ]

follow : (o : Opening) (happenings : List Happening) → Follow o happenings
follow o [] = λ f e free. absurd (none-some f e)
follow o (last ∷ earlier) = follow_one o earlier (follow o earlier) last

follows_an_answer : (o : Opening) (happenings : List Happening) (number : ℕ) (event : Event) (part : List ℕ) (held : Option FollowUp)
    → let d = after_all (opened o) happenings in d.asking.follow_up ≡ held → Asks false part d number event
    → (known moment : ℕ) × WasAnswered (opened o) happenings known moment × FollowsUp known d number event
follows_an_answer o happenings number event part None e asks =
    let z = is_on part (after_all (opened o) happenings) number event asks in
    absurd (none-some z.known (ap (due (begun_at (after_all (opened o) happenings) event).moment) (sym e) ∙ z.due))
follows_an_answer o happenings number event part (Some f) e asks =
    let d : Device = after_all (opened o) happenings in
    let z = is_on part d number event asks in
    let now : ℕ = (begun_at d event).moment in
    let known : f.known ≡ z.known = is_due now f z.known (ap (due now) (sym e) ∙ z.due) in
    let asked : FollowsUp z.known d number event = elim z.offer.queue [
      | inl same ↦ stays_apart d.asking.queue asks.frame (sym same ∙ asks.behind)
      | inr grows ↦ record { frame = grows.0; behind = grows.1; has = grows.2 }
    ] in
    (f.known, f.timer.since, (follow o happenings f e z.free).answered, subst (λ (n : ℕ). FollowsUp n d number event) (sym known) asked)

pub only_answers : (o : Opening) (happenings : List Happening) (number : ℕ) (event : Event) (part : List ℕ)
    → let d = after_all (opened o) happenings in Asks false part d number event
    → (known moment : ℕ) × WasAnswered (opened o) happenings known moment × FollowsUp known d number event
only_answers o happenings number event part asks =
    follows_an_answer o happenings number event part (after_all (opened o) happenings).asking.follow_up refl asks

-- the follow-up that waits behind an answer
abbrev pub IsWaiting : Device → ℕ → ℕ → Type 0
IsWaiting d known moment = (f : FollowUp) × (d.asking.follow_up ≡ Some f) × (f.known ≡ known) × (f.timer.since ≡ moment) × (f.timer.length ≤ 400)

waits_behind : (d : Device) (happenings : List Happening) (known moment : ℕ) → WasAnswered d happenings known moment
    → (after_all d happenings).asking.holds ≡ None → IsWaiting (after_all d happenings) known moment
waits_behind d [] known moment was free = absurd was
waits_behind d (Sends ∷ earlier) known moment was free = elim was [
  | inl answer ↦ absurd answer
  | inr rest ↦ waits_behind d earlier known moment rest.1 free
]
waits_behind d (Steps number event ∷ earlier) known moment was free = elim was [
  | inl answer ↦ elim (effect (after_all d earlier) number event) [
    | inl z ↦ absurd (z.quiet (sym (ap (λ (a : Asking). a.holds) z.same) ∙ free) answer.0.taken)
    | inr y ↦ elim y [
      | inl z ↦ let f = z.answered known answer.0 in (f.0, f.1, f.2, f.3 ∙ sym z.moment ∙ answer.1, f.4)
      | inr x ↦ elim x [
        | inl z ↦ absurd (z.offered (no_offer (after_all d earlier) number event answer.0.taken))
        | inr z ↦ absurd (z.offered (no_offer (after_all d earlier) number event answer.0.taken))
      ]
    ]
  ]
  | inr rest ↦
      let same = quiet_same (after_all d earlier) (Steps number event) rest.0 in
      let f = waits_behind d earlier known moment rest.1 (sym same.holds ∙ free) in
      (f.0, same.follow_up ∙ f.1, f.2, f.3, f.4)
]

follows_now : (d : Device) (number now word known moment : ℕ) → IsWaiting d known moment → d.asking.holds ≡ None → length d.asking.queue < 8
    → moment + 400 ≤ clock (step d number (Tick now word)).device → FollowsUp known d number (Tick now word)
follows_now d number now word known moment f free few late = elim (effect d number (Tick now word)) [
  | inl z ↦ absurd (none-some f.0.known (sym (z.waits now word refl free).0 ∙ due_is))
  | inr y ↦ elim y [
    | inl z ↦ absurd (no_tick now word d z.taken)
    | inr x ↦ elim x [
      | inl z ↦ absurd (none-some f.0.known (sym z.none ∙ due_is))
      | inr z ↦
          let grows = z.offer.room few in
          let asked : FollowsUp z.known d number (Tick now word) = record { frame = grows.0; behind = grows.1; has = grows.2 } in
          subst (λ (n : ℕ). FollowsUp n d number (Tick now word)) (same_Some z.known known (sym z.due ∙ due_is ∙ ap Some f.2)) asked
    ]
  ]
]
  where
    at : ℕ
    at = (begun_at d (Tick now word)).moment

    due_is : due at d.asking.follow_up ≡ Some f.0.known
    due_is = ap (due at) f.1
        ∙ rw (le_is f.0.timer.length (at - f.0.timer.since) (omega (arith, f.3, f.4, late, moment_is d number (Tick now word)))) refl

pub follows_in_time : (o : Opening) (happenings : List Happening) (number now word known moment : ℕ) → let d = after_all (opened o) happenings in
    WasAnswered (opened o) happenings known moment → d.asking.holds ≡ None → length d.asking.queue < 8
    → moment + 400 ≤ clock (step d number (Tick now word)).device → FollowsUp known d number (Tick now word)
follows_in_time o happenings number now word known moment was free few late =
    follows_now (after_all (opened o) happenings) number now word known moment (waits_behind (opened o) happenings known moment was free) free few late
