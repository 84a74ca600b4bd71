-- Which transfer IDs follow each other: those of a counter; and those of responses, where none repeats.
use Rattle.std.proofs.Common.{◌≡◌, ◌≢◌, ◌⊎◌, ℕ, ◌+◌, Bool, true, List, [], ◌∷◌, inl, inr, refl, sym, ◌∙◌, ap, subst, arith, cond, Some}
use Rattle.std.specs.Prelude.{⊤}
use Rattle.can_frame.specs.declared.identifier.Kind.TheVariants.{Response}
use Rattle.can_frame.specs.declared.step.What.{What}
use Rattle.can_frame.specs.declared.step.What.TheVariants.{Alloc}
use Rattle.raft_model.specs.Lists.{In}
use Rattle.alloc_spec.specs.AllocatorState.{AllocatorState}
use Rattle.alloc_spec.specs.Step.{Event, step}
use Rattle.alloc_spec.specs.Transfers.{Offer, id_after, id_of, kind_of}
use Rattle.alloc_spec_laws.proofs.Choices.{and_left, and_right, tell}
use Rattle.alloc_spec_laws.specs.Apart.{AreAllApart}
use Rattle.bus_rows.specs.Timed.{Timed}
use Rattle.service_calm.specs.Comes.{NoneRepeats, Sends}
use Rattle.service_calm.proofs.Counting.{Follow, IsCounted, counted_step, ids_in, is_one, is_to, is_to_true, ones}
use Rattle.service_calm.proofs.Group.{IsServer}
use Rattle.service_calm.proofs.Pair.{AllBut, Chain, Expected, FitsIn, Only, out_ones, sent_among}
use Rattle.bus_spec.specs.Cluster.{Cluster, after_row, step_of}
use Rattle.bus_spec.specs.Members.MemberStatus.{Up}

-- ---- a counter

-- the next transfer ID is another one
pub apart_next : (k : ℕ) → k ≡ id_after k → ⊥
apart_next k e = omega (arith, e)

behind : (Begins : ℕ → Type 0) (offers : List Offer) (last c next : ℕ) → last ≡ c → Follow (id_after c) (ids_in offers) next
    → Chain Begins (AllBut last) offers (Only next)
behind Begins [] last c next same h = λ id e f. apart_next c (sym same ∙ (f ∙ (e ∙ h)))
behind Begins (o ∷ offers) last c next same h = (
  λ f. apart_next c (sym same ∙ (f ∙ h.0)),
  behind Begins offers o.id (id_after c) next h.0 h.1,
)

counted_chain : (Begins : ℕ → Type 0) (offers : List Offer) (c next : ℕ) → Follow c (ids_in offers) next → Chain Begins (Only c) offers (Only next)
counted_chain Begins [] c next h = λ id e. e ∙ h
counted_chain Begins (o ∷ offers) c next h = (h.0, behind Begins offers o.id c next h.0 h.1)

-- the sender's counter is what comes next
abbrev pub IsCounter : What → ℕ → AllocatorState → Expected → Type 0
IsCounter what to t expected = expected ≡ Only (id_of t.ids what to)

pub counter_follows : (Begins : ℕ → Type 0) (n : ℕ) (what : What) (to : ℕ) → IsCounted what to → (number : ℕ) (expected : Expected) (t : AllocatorState) → IsServer n t
    → IsCounter what to t expected → (event : Event)
    → (later : Expected) × Chain Begins expected (ones what to (step t number event).step_state.offers) later
    × IsCounter what to (step t number event).step_state.allocator later × ⊤
counter_follows Begins n what to counted number expected t is counter event =
    let its = counted_step what to counted t number event is.places in (
      Only (id_of (step t number event).step_state.allocator.ids what to),
      subst (λ (e : Expected). Chain Begins e (ones what to (step t number event).step_state.offers) (Only (id_of (step t number event).step_state.allocator.ids what to)))
          (sym counter) (counted_chain Begins (ones what to (step t number event).step_state.offers) (id_of t.ids what to)
          (id_of (step t number event).step_state.allocator.ids what to) its.follows),
      refl,
      tt,
    )

-- ---- responses

-- a step offers one at most, of each kind but Allocations and to each node
pub few : (what : What) (to : ℕ) (offers : List Offer) → what ≢ Alloc → AreAllApart offers
    → (ones what to offers ≡ []) ⊎ ((o : Offer) × (ones what to offers ≡ o ∷ []))
few what to [] not_alloc apart = inl refl
few what to (o ∷ offers) not_alloc apart = elim (tell (is_one what to o)) [
  | inl t ↦ inr (o, ap (λ (b : Bool). cond b (o ∷ ones what to offers) (ones what to offers)) t ∙ ap (λ (l : List Offer). o ∷ l) (none t (ones what to offers) refl))
  | inr f ↦
      let e : ones what to (o ∷ offers) ≡ ones what to offers = ap (λ (b : Bool). cond b (o ∷ ones what to offers) (ones what to offers)) f in
      elim (few what to offers not_alloc apart.1) [ inl z ↦ inl (e ∙ z) | inr z ↦ inr (z.0, e ∙ z.1) ]
]
  where
    none : is_one what to o ≡ true → (list : List Offer) → ones what to offers ≡ list → ones what to offers ≡ []
    none t [] e = e
    none t (p ∷ list) e =
        let r = out_ones (is_one what to) offers p (subst (λ (l : List Offer). In p l) (sym e) (inl refl)) in
        let of_o = is_to_true what to o (and_right o.fitted (is_to what to o) t) in
        let of_p = is_to_true what to p (and_right p.fitted (is_to what to p) r.1) in
        let a = apart.0 p r.0 (and_left o.fitted (is_to what to o) t) (and_left p.fitted (is_to what to p) r.1) (of_o.0 ∙ sym of_p.0) (of_o.1 ∙ sym of_p.1) in
        absurd (not_alloc (sym of_o.0 ∙ a.0))

module _ (Begins : ℕ → Type 0) (n : ℕ) (what : What) (to : ℕ) (response : kind_of what ≡ Response)
    (apart : (t : AllocatorState) (number : ℕ) (event : Event) → AreAllApart (step t number event).step_state.offers) where
  abbrev pub NoneRepeatsIn : Expected → Cluster → List Timed → Type 0
  NoneRepeatsIn expected w rows = NoneRepeats n what to (FitsIn Begins expected) w rows

  pub response_follows : (expected : Expected) (w : Cluster) (timed : Timed) (rest : List Timed) → NoneRepeatsIn expected w (timed ∷ rest) → (t : AllocatorState)
      → (w.member n).status ≡ Up t → (event : Event) → step_of w timed.row ≡ Some (n, event)
      → (later : Expected) × Chain Begins expected (ones what to (step t (w.rows + 1) event).step_state.offers) later
      × ⊤ × NoneRepeatsIn later (after_row w timed.row) rest
  response_follows expected w timed rest none t up event is_step = elim (few what to offers (λ e. cc (sym (ap kind_of e) ∙ response)) (apart t (w.rows + 1) event)) [
    | inl e ↦ (
      expected,
      subst (λ (l : List Offer). Chain Begins expected l expected) (sym e) (λ id f. f),
      tt,
      none.1 (λ offer sends same there. subst (λ (l : List Offer). In offer l) e (sent_among n w timed.row t event what to up is_step offer sends same there)),
    )
    | inr one ↦
        let i : In one.0 (ones what to offers) = subst (λ (l : List Offer). In one.0 l) (sym one.1) (inl refl) in
        let r = out_ones (is_one what to) offers one.0 i in
        let is = is_to_true what to one.0 (and_right one.0.fitted (is_to what to one.0) r.1) in
        let then_none = none.0 one.0 (record {
          server = t;
          runs = up;
          event = event;
          in_step = is_step;
          offered = r.0;
          fitted = and_left one.0.fitted (is_to what to one.0) r.1;
        }) is.0 is.1 in (
          AllBut one.0.id,
          subst (λ (l : List Offer). Chain Begins expected l (AllBut one.0.id)) (sym one.1) (then_none.0, λ id f. f),
          tt,
          then_none.1,
        )
  ]
    where
      offers : List Offer
      offers = (step t (w.rows + 1) event).step_state.offers

  pub passes : (expected : Expected) (w : Cluster) (timed : Timed) (rest : List Timed) → NoneRepeatsIn expected w (timed ∷ rest)
      → ((offer : Offer) → Sends n w timed.row offer → ⊥) → NoneRepeatsIn expected (after_row w timed.row) rest
  passes expected w timed rest none quiet = none.1 (λ offer sends same there. quiet offer sends)
