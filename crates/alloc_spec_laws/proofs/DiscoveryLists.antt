-- A Discovery of a step tells the list of members.
use Rattle.std.proofs.Common.{◌≡◌, ℕ, List, [], ◌∷◌, ◌++◌, length, inl, inr, refl, sym, ◌∙◌, ap, subst, Option, Some, None}
use Rattle.std.specs.Prelude.{nat_le}
use Rattle.can_frame.specs.declared.step.What.TheVariants.{Disc}
use Rattle.cluster_discovery.specs.Members.{Start}
use Rattle.dsdl_codec.specs.declared.discovery.Discovery.{Discovery}
use Rattle.dsdl_codec.specs.Discovery.{discovery_bytes, discovery_of}
use Rattle.raft_model.specs.Lists.{In}
use Rattle.transfer_rx.specs.Reassembly.{Delivery}
use Rattle.alloc_spec.specs.StepState.{StepState}
use Rattle.alloc_spec.specs.Step.{Event, step}
use Rattle.alloc_spec.specs.Tick.{discovery_of as own_discovery}
use Rattle.alloc_spec.specs.AllocatorState.{AllocatorState, members_of}
use Rattle.alloc_spec.specs.Transfers.{Offer}
use Rattle.alloc_spec_laws.specs.Listing.{IsDelivered}
use Rattle.alloc_spec_laws.proofs.Choices.{tell}
use Rattle.alloc_spec_laws.proofs.KeptByChanges.{IsTick, Keeping, same_members}
use Rattle.alloc_spec_laws.proofs.Lists.{in_append}
use Rattle.alloc_spec_laws.proofs.KeptBySteps.{step_keeps}

module _ (t : AllocatorState) (number : ℕ) (event : Event) where
  pub record Told (g : StepState) : Type 0 where
    pub size : g.allocator.size ≡ t.size
    -- at a tick nothing is heard
    pub list : IsTick event → members_of g.allocator ≡ members_of t
    pub each : (offer : Offer) → In offer g.offers → offer.what ≡ Disc → offer.payload ≡ discovery_bytes (own_discovery t)

  one_more : (offers : List Offer) (new : Offer)
      → ((offer : Offer) → In offer offers → offer.what ≡ Disc → offer.payload ≡ discovery_bytes (own_discovery t))
      → (new.what ≡ Disc → new.payload ≡ discovery_bytes (own_discovery t))
      → (offer : Offer) → In offer (offers ++ new ∷ []) → offer.what ≡ Disc → offer.payload ≡ discovery_bytes (own_discovery t)
  one_more offers new h is offer i = elim (in_append offer offers (new ∷ []) i) [
    | inl j ↦ h offer j
    | inr (inl e) ↦ subst (λ (o : Offer). o.what ≡ Disc → o.payload ≡ discovery_bytes (own_discovery t)) (sym e) is
    | inr (inr j) ↦ absurd j
  ]

  no_tick : (d : Delivery) → IsDelivered t number event d → IsTick event → ⊥
  no_tick d comes tick = subst (λ (e : Event). IsTick e) comes.comes tick

  told_keeping : Keeping number event Told (IsDelivered t number event)
  told_keeping = record {
    takes_keep = λ given moves g quiet decided h. record { size = h.size; list = h.list; each = h.each };
    proposes_keep = λ given uid node g found h. record { size = h.size; list = h.list; each = h.each };
    sends_keep = λ what to payload says g sends h. record {
      size = h.size;
      list = h.list;
      each = one_more g.offers _ h.each (λ is.
          (sends.told is).1 ∙ (ap (λ (l : List ℕ). g.allocator.size ∷ l) (h.list (sends.told is).0) ∙ ap (λ (n : ℕ). n ∷ members_of t) h.size));
    };
    calls_keep = λ what peer move request payload g makes fits h. record { size = h.size; list = h.list; each = h.each };
    responds_keep = λ what d payload says g comes responds h. record {
      size = h.size;
      list = h.list;
      each = one_more g.offers _ h.each (λ is. absurd (cc (responds.is, is)));
    };
    changes_keep = λ u g like h. record {
      size = ap (λ (start : Start). start.size) like.start ∙ h.size;
      list = λ tick. same_members u g.allocator like ∙ h.list tick;
      each = h.each;
    };
    watches_keep = λ node happens g has h. record { size = h.size; list = h.list; each = h.each };
    tells_keep = λ g h. record { size = h.size; list = h.list; each = h.each };
    hears_keep = λ d message g comes kind other read h. record
        { size = h.size; list = λ tick. absurd (no_tick d comes tick); each = h.each };
  }

  pub discoveries_tell : (offer : Offer) → In offer (step t number event).step_state.offers → offer.what ≡ Disc
      → offer.payload ≡ discovery_bytes (own_discovery t)
  discoveries_tell =
      (step_keeps number event Told (IsDelivered t number event) told_keeping t
      (λ arrival is d e. record { arrival = arrival; comes = is; gives = e })
      (record { size = refl; list = λ tick. refl; each = λ offer i. absurd i })).each

-- what is read of the bytes of a message
read_items : (size : ℕ) (nodes : List ℕ) (message : Discovery) → discovery_of (size ∷ nodes) ≡ Some message → message.known.items ≡ nodes
read_items size nodes message e = elim (tell (nat_le (length nodes) 5)) [
  | inr b ↦ absurd (cc (rw b at e))
  | inl b ↦ sym (ap (λ (m : Option Discovery). items_of m) (rw b at e))
]
  where
    items_of : Option Discovery → List ℕ
    items_of None = []
    items_of (Some found) = found.known.items

pub told_nodes : (t : AllocatorState) (number : ℕ) (event : Event) (offer : Offer) (message : Discovery) (node : ℕ)
    → In offer (step t number event).step_state.offers → offer.what ≡ Disc → discovery_of offer.payload ≡ Some message
    → In node message.known.items → In node (members_of t)
told_nodes t number event offer message node i is read named =
    subst (λ (l : List ℕ). In node l)
    (read_items t.size (members_of t) message
    (subst (λ (bytes : List ℕ). discovery_of bytes ≡ Some message) (discoveries_tell t number event offer i is) read)) named
