-- The frames of one identifier that are on their way to a receiver, or wait in the sender's queue.
use Rattle.std.proofs.Common.{◌≡◌, ◌≢◌, ℕ, ◌+◌, ◌*◌, ◌≤◌, Bool, List, [], ◌∷◌, ◌++◌, length, length-append, refl, sym, ◌∙◌, ap, subst, arith, inl, inr, cond, Some}
use Rattle.std.specs.Prelude.{⊤, ◌⊎◌, ◌-◌, map}
use Rattle.std.proofs.lemmas.Bool.Decides.{eqb_tells}
use Rattle.std.proofs.lemmas.List.{get_or_append_left, get_or_at}
use Rattle.raft_model.specs.Lists.{In}
use Rattle.transfer_tx.specs.Queue.{Queued, left_behind, next_out}
use Rattle.transfer_tx.specs.Run.{of_identifier}
use Rattle.bus_spec.specs.Cluster.{frame_at, no_frame}
use Rattle.service_alone.specs.Calm.{NoneIsLate, OnItsWay, waits_after}
use Rattle.service_alone.proofs.CalmQueue.{goes_out, of_both}
use Rattle.service_calm.proofs.Pending.{Coming, stamped}

-- ---- on their way

module _ (Other : Queued → Type 0) (delay : ℕ) where
  -- of the frames on their way these are to come, each on the bus since a delay after it was made at the most; and the
  -- rest are others
  abbrev pub Flying : List Queued → List OnItsWay → List Coming → Type 0
  Flying frames [] cs = cs ≡ []
  Flying frames (way ∷ ways) cs = (1 ≤ way.number) × (way.number ≤ length frames)
      × ((Other (frame_at frames way.number) × Flying frames ways cs)
      ⊎ ((c : Coming) × (more : List Coming) × (cs ≡ c ∷ more) × (frame_at frames way.number ≡ c.frame) × (way.since ≤ c.at + delay) × Flying frames ways more))

  still_at : (frames : List Queued) (g : Queued) (k : ℕ) → 1 ≤ k → k ≤ length frames → frame_at (frames ++ g ∷ []) k ≡ frame_at frames k
  still_at frames g k low high = get_or_append_left frames (g ∷ []) no_frame (k - 1) (omega (arith, low, high))

  last_at : (frames : List Queued) (g : Queued) → frame_at (frames ++ g ∷ []) (length frames + 1) ≡ g
  last_at frames g = get_or_at frames g [] no_frame (length frames + 1 - 1) (omega arith)

  -- one more frame on the bus changes nothing of them
  pub flying_more : (frames : List Queued) (g : Queued) (ways : List OnItsWay) (cs : List Coming) → Flying frames ways cs → Flying (frames ++ g ∷ []) ways cs
  flying_more frames g [] cs h = h
  flying_more frames g (way ∷ ways) cs (low, high, inl o) = (
    low,
    omega (arith, high, length-append frames (g ∷ [])),
    inl (subst Other (sym (still_at frames g way.number low high)) o.0, flying_more frames g ways cs o.1),
  )
  flying_more frames g (way ∷ ways) cs (low, high, inr o) = (
    low,
    omega (arith, high, length-append frames (g ∷ [])),
    inr (o.0, o.1, o.2, still_at frames g way.number low high ∙ o.3, o.4, flying_more frames g ways o.1 o.5),
  )

  -- one more frame on the bus may be on its way too, as another one
  pub flying_other : (frames : List Queued) (g : Queued) (since : ℕ) (ways : List OnItsWay) (cs : List Coming) → Other g → Flying frames ways cs
      → Flying (frames ++ g ∷ []) (ways ++ (record { number = length frames + 1; since = since }) ∷ []) cs
  flying_other frames g since [] cs other h = (
    omega arith,
    omega (arith, length-append frames (g ∷ [])),
    inl (subst Other (sym (last_at frames g)) other, h),
  )
  flying_other frames g since (way ∷ ways) cs other (low, high, inl o) = (
    low,
    omega (arith, high, length-append frames (g ∷ [])),
    inl (subst Other (sym (still_at frames g way.number low high)) o.0, flying_other frames g since ways cs other o.1),
  )
  flying_other frames g since (way ∷ ways) cs other (low, high, inr o) = (
    low,
    omega (arith, high, length-append frames (g ∷ [])),
    inr (o.0, o.1, o.2, still_at frames g way.number low high ∙ o.3, o.4, flying_other frames g since ways o.1 other o.5),
  )

  -- one more frame on the bus may be on its way too, as one that is to come
  pub flying_own : (frames : List Queued) (c : Coming) (since : ℕ) (ways : List OnItsWay) (cs : List Coming) → since ≤ c.at + delay → Flying frames ways cs
      → Flying (frames ++ c.frame ∷ []) (ways ++ (record { number = length frames + 1; since = since }) ∷ []) (cs ++ c ∷ [])
  flying_own frames c since [] cs soon h = (
    omega arith,
    omega (arith, length-append frames (c.frame ∷ [])),
    inr (c, [], ap (λ (l : List Coming). l ++ c ∷ []) h, last_at frames c.frame, soon, refl),
  )
  flying_own frames c since (way ∷ ways) cs soon (low, high, inl o) = (
    low,
    omega (arith, high, length-append frames (c.frame ∷ [])),
    inl (subst Other (sym (still_at frames c.frame way.number low high)) o.0, flying_own frames c since ways cs soon o.1),
  )
  flying_own frames c since (way ∷ ways) cs soon (low, high, inr o) = (
    low,
    omega (arith, high, length-append frames (c.frame ∷ [])),
    inr (
      o.0,
      o.1 ++ c ∷ [],
      ap (λ (l : List Coming). l ++ c ∷ []) o.2,
      still_at frames c.frame way.number low high ∙ o.3,
      o.4,
      flying_own frames c since ways o.1 soon o.5,
    ),
  )

  -- by this moment none of them came two delays after it was made, or later
  pub flying_late : (frames : List Queued) (at : ℕ) (ways : List OnItsWay) (cs : List Coming) → Flying frames ways cs → NoneIsLate at delay ways
      → (c : Coming) → In c cs → at ≤ c.at + 2 * delay
  flying_late frames at [] cs h late c i = absurd (subst (λ (l : List Coming). In c l) h i)
  flying_late frames at (way ∷ ways) cs (low, high, inl o) late c i = flying_late frames at ways cs o.1 late.1 c i
  flying_late frames at (way ∷ ways) cs (low, high, inr o) late c i = elim (subst (λ (l : List Coming). In c l) o.2 i) [
    | inl e ↦ let s = o.4 in let l = late.0 in let k = ap (λ (x : Coming). x.at) e in omega (arith, s, l, k)
    | inr j ↦ flying_late frames at ways o.1 o.5 late.1 c j
  ]

-- ---- in the queue

-- these frames wait, since their making at the most
abbrev pub Waiting : ℕ → List Queued → List Coming → Type 0
Waiting since [] [] = ⊤
Waiting since [] (c ∷ cs) = ⊥
Waiting since (f ∷ fs) [] = ⊥
Waiting since (f ∷ fs) (c ∷ cs) = (f ≡ c.frame) × (since ≤ c.at) × Waiting since fs cs

pub waiting_late : (since : ℕ) (fs : List Queued) (cs : List Coming) → Waiting since fs cs → (c : Coming) → In c cs → (fs ≢ []) × (since ≤ c.at)
waiting_late since [] [] h c i = absurd i
waiting_late since [] (d ∷ cs) h c i = absurd h
waiting_late since (f ∷ fs) [] h c i = absurd h
waiting_late since (f ∷ fs) (d ∷ cs) h c (inl e) = (λ none. absurd (omega (arith, ap length none)), let s = h.1 in let k = ap (λ (x : Coming). x.at) e in omega (arith, s, k))
waiting_late since (f ∷ fs) (d ∷ cs) h c (inr i) = (λ none. absurd (omega (arith, ap length none)), (waiting_late since fs cs h.2 c i).1)

waiting_new : (at : ℕ) (fs : List Queued) → Waiting at fs (map (stamped at) fs)
waiting_new at [] = tt
waiting_new at (f ∷ fs) = (refl, omega arith, waiting_new at fs)

waiting_more : (since at : ℕ) (fs : List Queued) (cs : List Coming) (more : List Queued) → since ≤ at → Waiting since fs cs
    → Waiting since (fs ++ more) (cs ++ map (stamped at) more)
waiting_more since at [] [] [] low h = tt
waiting_more since at [] [] (g ∷ more) low h = (refl, low, waiting_more since at [] [] more low tt)
waiting_more since at [] (c ∷ cs) more low h = absurd h
waiting_more since at (f ∷ fs) [] more low h = absurd h
waiting_more since at (f ∷ fs) (c ∷ cs) more low h = (h.0, h.1, waiting_more since at fs cs more low h.2)

none_waiting : (since : ℕ) (cs : List Coming) → Waiting since [] cs → cs ≡ []
none_waiting since [] h = refl
none_waiting since (c ∷ cs) h = absurd h

module _ (number at since : ℕ) where
  -- the queue stays
  pub waits_stay : (queue : List Queued) (cs : List Coming) → Waiting since (of_identifier number queue) cs
      → Waiting (waits_after at since queue queue) (of_identifier number queue) cs
  waits_stay [] cs h = subst (Waiting at []) (sym (none_waiting since cs h)) tt
  waits_stay (f ∷ queue) cs h = h

  -- frames come behind those that wait
  pub waits_grow : (queue more : List Queued) (cs : List Coming) → since ≤ at → Waiting since (of_identifier number queue) cs
      → Waiting (waits_after at since queue (queue ++ more)) (of_identifier number (queue ++ more)) (cs ++ map (stamped at) (of_identifier number more))
  waits_grow [] more cs low h = subst (λ (l : List Coming). Waiting at (of_identifier number more) (l ++ map (stamped at) (of_identifier number more)))
      (sym (none_waiting since cs h)) (waiting_new at (of_identifier number more))
  waits_grow (f ∷ queue) more cs low h =
      subst (λ (l : List Queued). Waiting since l (cs ++ map (stamped at) (of_identifier number more))) (sym (of_both number (f ∷ queue) more))
      (waiting_more since at (of_identifier number (f ∷ queue)) cs (of_identifier number more) low h)

  waits_left : (queue left : List Queued) (cs : List Coming) → queue ≢ [] → Waiting since (of_identifier number left) cs
      → Waiting (waits_after at since queue left) (of_identifier number left) cs
  waits_left [] left cs some h = absurd (some refl)
  waits_left (f ∷ queue) [] cs some h = subst (Waiting at []) (sym (none_waiting since cs h)) tt
  waits_left (f ∷ queue) (g ∷ left) cs some h = h

  -- the next one goes out: it is another one, or the first that is to come
  pub waits_out : (queue : List Queued) (frame : Queued) (cs : List Coming) → queue ≢ [] → next_out queue ≡ Some frame → Waiting since (of_identifier number queue) cs
      → ((frame.id ≢ number) × Waiting (waits_after at since queue (left_behind queue)) (of_identifier number (left_behind queue)) cs)
      ⊎ ((c : Coming) × (more : List Coming) × (cs ≡ c ∷ more) × (frame ≡ c.frame) × (since ≤ c.at)
      × Waiting (waits_after at since queue (left_behind queue)) (of_identifier number (left_behind queue)) more)
  waits_out queue frame cs some out h = elim (eqb_tells frame.id number) [
    | inl z ↦
        let own : frame ∷ of_identifier number (left_behind queue) ≡ of_identifier number queue =
        ap (λ (b : Bool). cond b (frame ∷ of_identifier number (left_behind queue)) (of_identifier number (left_behind queue))) (sym z.0) ∙ goes_out number [] queue frame out in
        inr (first cs (subst (λ (l : List Queued). Waiting since l cs) (sym own) h))
    | inr z ↦
        let other : of_identifier number (left_behind queue) ≡ of_identifier number queue =
        ap (λ (b : Bool). cond b (frame ∷ of_identifier number (left_behind queue)) (of_identifier number (left_behind queue))) (sym z.0) ∙ goes_out number [] queue frame out in
        inl (z.1, waits_left queue (left_behind queue) cs some (subst (λ (l : List Queued). Waiting since l cs) (sym other) h))
  ]
    where
      first : (cs : List Coming) → Waiting since (frame ∷ of_identifier number (left_behind queue)) cs
          → (c : Coming) × (more : List Coming) × (cs ≡ c ∷ more) × (frame ≡ c.frame) × (since ≤ c.at)
          × Waiting (waits_after at since queue (left_behind queue)) (of_identifier number (left_behind queue)) more
      first [] w = absurd w
      first (c ∷ more) w = (c, more, refl, w.0, w.1, waits_left queue (left_behind queue) more some w.2)
