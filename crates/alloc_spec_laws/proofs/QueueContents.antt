-- What a step leaves in its queue.
use Rattle.std.proofs.Common.{◌≡◌, ℕ, Bool, true, false, List, [], ◌∷◌, ◌++◌, refl, sym, ◌∙◌, ap, append_assoc, append-nil}
use Rattle.std.specs.Prelude.{⊤, Option, if◌then◌else◌}
use Rattle.std.proofs.lemmas.Grind.{flat_map-append}
use Rattle.can_frame.specs.declared.step.What.{What}
use Rattle.cluster_discovery.specs.Members.{Start}
use Rattle.raft_model.specs.Messages.{Message}
use Rattle.transfer_tx.specs.Queue.{Queued, queued_frames}
use Rattle.alloc_spec.specs.StepState.{StepState}
use Rattle.alloc_spec.specs.Outbox.{queued_if}
use Rattle.alloc_spec.specs.Step.{Event, step}
use Rattle.alloc_spec.specs.AllocatorState.{AllocatorState}
use Rattle.alloc_spec.specs.Transfers.{Offer, frames_of, has_room, outgoing}
use Rattle.alloc_spec_laws.specs.Waiting.{all_frames_put, frames_put}
use Rattle.alloc_spec_laws.proofs.KeptBySteps.{step_keeps}

-- one transfer more: its frames stand behind those that waited
one_more : (number me : ℕ) (before queue : List Queued) (offers : List Offer) (new : Offer)
    → queue ≡ before ++ all_frames_put number me offers
    → queued_if new.fitted queue (frames_of (record { step = number; by = me; offer = new })) ≡ before ++ all_frames_put number me (offers ++ new ∷ [])
one_more number me before queue offers new e =
    by new.fitted (frames_of (record { step = number; by = me; offer = new }))
    ∙ (ap (λ (q : List Queued). q ++ frames_put number me new) e
    ∙ (append_assoc before (all_frames_put number me offers) (frames_put number me new)
    ∙ ap (λ (l : List Queued). before ++ l)
    (ap (λ (l : List Queued). all_frames_put number me offers ++ l) (sym (append-nil (frames_put number me new)))
    ∙ sym (flat_map-append (frames_put number me) offers (new ∷ [])))))
  where
    by : (b : Bool) (frames : List Queued) → queued_if b queue frames ≡ queue ++ (if b then frames else [])
    by true frames = refl
    by false frames = sym (append-nil queue)

abbrev Waits : ℕ → ℕ → List Queued → StepState → Type 0
Waits number me before g = (g.allocator.me ≡ me) × (g.allocator.queue ≡ before ++ all_frames_put number me g.offers)

sent_waits : (number me : ℕ) (before : List Queued) (what : What) (to id : ℕ) (payload : List ℕ) (re : ℕ) (says : Option Message) (g : StepState)
    → Waits number me before g
    → let fitted = has_room g.allocator.queue payload in
    let new : Offer = record { what = what; to = to; id = id; payload = payload; re = re; says = says; fitted = fitted } in
    queued_if fitted g.allocator.queue (queued_frames (outgoing g.allocator.me what to id payload) number re) ≡ before ++ all_frames_put number me (g.offers ++ new ∷ [])
sent_waits number me before what to id payload re says g h =
    ap (λ (m : ℕ). queued_if (has_room g.allocator.queue payload) g.allocator.queue (queued_frames (outgoing m what to id payload) number re)) h.0
    ∙ one_more number me before g.allocator.queue g.offers
    (record { what = what; to = to; id = id; payload = payload; re = re; says = says; fitted = has_room g.allocator.queue payload }) h.1

pub waits : (t : AllocatorState) (number : ℕ) (event : Event)
    → (step t number event).step_state.allocator.queue ≡ t.queue ++ all_frames_put number t.me (step t number event).step_state.offers
waits t number event =
    (step_keeps number event (Waits number t.me t.queue) (λ d. ⊤) (record {
      takes_keep = λ given moves g quiet decided h. h;
      proposes_keep = λ given uid node g found h. h;
      sends_keep = λ what to payload says g sends h. (h.0, sent_waits number t.me t.queue what to _ payload 0 says g h);
      calls_keep = λ what peer move request payload g makes fits h. h;
      responds_keep = λ what d payload says g comes responds h. (h.0, sent_waits number t.me t.queue what d.ident.source d.id payload d.mark.step says g h);
      changes_keep = λ u g like h. (ap (λ (s : Start). s.me) like.start ∙ h.0, like.queue ∙ h.1);
      watches_keep = λ node happens g has h. h;
      tells_keep = λ g h. h;
      hears_keep = λ d message g comes kind other read h. h;
    }) t (λ arrival is d e. tt) (refl, sym (append-nil t.queue))).1
