-- What the transfers of a step say.
use Rattle.std.proofs.Common.{◌≡◌, ℕ, List, [], ◌∷◌, ◌++◌, inl, inr, refl, sym, ◌∙◌, ap, subst}
use Rattle.std.specs.Prelude.{⊤}
use Rattle.cluster_discovery.specs.Members.{Start}
use Rattle.raft_model.specs.Lists.{In}
use Rattle.alloc_spec.specs.StepState.{StepState}
use Rattle.alloc_spec.specs.Step.{Event, step}
use Rattle.alloc_spec.specs.AllocatorState.{AllocatorState}
use Rattle.alloc_spec.specs.Transfers.{Offer}
use Rattle.alloc_spec_laws.specs.Saying.{IsSaid}
use Rattle.alloc_spec_laws.proofs.Lists.{in_append}
use Rattle.alloc_spec_laws.proofs.KeptBySteps.{step_keeps}

abbrev Says : ℕ → ℕ → Offer → Type 0
Says number me offer = IsSaid number me offer.what offer.to offer.re offer.payload offer.says

-- all that was offered so far says what it should
abbrev AllSay : ℕ → ℕ → StepState → Type 0
AllSay number me g = (g.allocator.me ≡ me) × ((offer : Offer) → In offer g.offers → Says number me offer)

one_says : (number me own : ℕ) (offers : List Offer) (new : Offer) → own ≡ me → ((offer : Offer) → In offer offers → Says number me offer)
    → Says number own new → (offer : Offer) → In offer (offers ++ new ∷ []) → Says number me offer
one_says number me own offers new same h said offer i = elim (in_append offer offers (new ∷ []) i) [
  | inl j ↦ h offer j
  | inr (inl e) ↦ subst (λ (o : Offer). Says number me o) (sym e) (subst (λ (m : ℕ). Says number m new) same said)
  | inr (inr j) ↦ absurd j
]

pub all_say : (t : AllocatorState) (number : ℕ) (event : Event) (offer : Offer) → In offer (step t number event).step_state.offers → Says number t.me offer
all_say t number event =
    (step_keeps number event (AllSay number t.me) (λ d. ⊤) (record {
      takes_keep = λ given moves g quiet decided h. h;
      proposes_keep = λ given uid node g found h. h;
      sends_keep = λ what to payload says g sends h. (h.0, one_says number t.me g.allocator.me g.offers _ h.0 h.1 sends.said);
      calls_keep = λ what peer move request payload g makes fits h. h;
      responds_keep = λ what d payload says g comes responds h. (h.0, one_says number t.me g.allocator.me g.offers _ h.0 h.1 responds.said);
      changes_keep = λ u g like h. (ap (λ (s : Start). s.me) like.start ∙ h.0, h.1);
      watches_keep = λ node happens g has h. h;
      tells_keep = λ g h. h;
      hears_keep = λ d message g comes kind other read h. h;
    }) t (λ arrival is d e. tt) (refl, λ offer i. absurd i)).1
