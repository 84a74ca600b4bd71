-- A frame that waits in a server's queue behind a step, and goes to all, waited there before it, or is of a transfer of
-- its sort that the step offers.
use Rattle.std.proofs.Common.{◌≡◌, ◌⊎◌, ℕ, ◌≤◌, List, refl, sym, ◌∙◌, ap, subst, inl, inr}
use Rattle.can_frame.specs.declared.identifier.Ident.{Ident}
use Rattle.can_frame.specs.declared.step.What.{What}
use Rattle.can_frame.specs.Identifier.{identifier_number, identifier_of}
use Rattle.raft_model.specs.Lists.{In}
use Rattle.transfer_tx.specs.Queue.{Queued}
use Rattle.alloc_spec.specs.AllocatorState.{AllocatorState}
use Rattle.alloc_spec.specs.Step.{Event, step}
use Rattle.alloc_spec.specs.Transfers.{Offer, ident_of, kind_of, number_of}
use Rattle.alloc_spec_laws.specs.Sound.{IsDestination, IsOnTheBus}
use Rattle.alloc_spec_laws.specs.Waiting.{all_frames_put}
use Rattle.bus_agreement.proofs.Idents.{ident_ok, one_what}
use Rattle.bus_agreement.proofs.Lists.{in_append}
use Rattle.bus_agreement.proofs.MadeTransfers.{frame_put}
use Rattle.service_calm.proofs.Frames.{has_its_id}
use Rattle.service_calm.proofs.Group.{CalmLaws, IsServer}
use Rattle.service_calm.proofs.Others.{some_ident}

module _ (laws : CalmLaws) (m : ℕ) (node : (1 ≤ m) × (m ≤ 125)) (t : AllocatorState) (number : ℕ) (event : Event) (bus : IsOnTheBus event) (its : IsServer m t)
    (what : What) (to_all : IsDestination (kind_of what) 0) where
  -- the step offers a transfer of this sort
  pub record Offers : Type 0 where
    pub offer : Offer
    pub offered : In offer (step t number event).step_state.offers
    pub its_what : offer.what ≡ what

  one_sort : (o : Offer) → In o (step t number event).step_state.offers → identifier_number (ident_of m o.what o.to) ≡ identifier_number (ident_of m what 0) → o.what ≡ what
  one_sort o i e =
      let same : ident_of m o.what o.to ≡ ident_of m what 0 = some_ident (ident_of m o.what o.to) (ident_of m what 0)
      (sym (laws.frame.ident_read (ident_of m o.what o.to) (ident_ok m o.what o.to node.0 node.1 (laws.more.ranges t number event its.sound bus o i).to))
      ∙ (ap identifier_of e ∙ laws.frame.ident_read (ident_of m what 0) (ident_ok m what 0 node.0 node.1 to_all))) in
      one_what o.what what (kind_of what) (number_of what) (ap (λ (x : Ident). x.kind) same) refl (ap (λ (x : Ident). x.number) same) refl

  pub waited_or_offered : (f : Queued) → In f (step t number event).step_state.allocator.queue → f.id ≡ identifier_number (ident_of m what 0) → In f t.queue ⊎ Offers
  waited_or_offered f i e = elim (in_append f t.queue (all_frames_put number t.me (step t number event).step_state.offers)
      (subst (λ (l : List Queued). In f l) (laws.in_step.queue t number event) i)) [
        | inl before ↦ inl before
        | inr new ↦ let put = frame_put number t.me (step t number event).step_state.offers f new in inr (record {
          offer = put.0;
          offered = put.1;
          its_what = one_sort put.0 put.1 (sym (has_its_id (record { step = number; by = t.me; offer = put.0 }) f put.3
              ∙ ap (λ (p : ℕ). identifier_number (ident_of p put.0.what put.0.to)) its.me) ∙ e);
        })
      ]
