-- Who follows asks nothing of Raft; and where nobody asks, no such request is on its way in a calm.
use Rattle.std.proofs.Common.{◌≡◌, ℕ, ◌≤◌, arith, List, [], ◌∷◌, drop, refl, sym, ◌∙◌, ap, subst, inl, inr, Option, None, Some}
use Rattle.std.specs.Prelude.{◌⊎◌}
use Rattle.can_frame.specs.declared.identifier.Ident.{Ident}
use Rattle.can_frame.specs.declared.identifier.Kind.TheVariants.{Request as RequestKind}
use Rattle.can_frame.specs.declared.step.What.{What}
use Rattle.can_frame.specs.declared.step.What.TheVariants.{Alloc, App, AppQ, Disc, Info, InfoQ, Stat, Vote, VoteQ}
use Rattle.can_frame.specs.Identifier.{identifier_of}
use Rattle.raft_core.specs.Calls.{due, due_unless}
use Rattle.raft_model.specs.Lists.{In}
use Rattle.raft_model.specs.Messages.{Request}
use Rattle.raft_model.specs.Server.{Role}
use Rattle.raft_model.specs.Server.Role.{Follower}
use Rattle.transfer_rx.specs.Reassembly.{Delivery, Gives, answer}
use Rattle.transfer_tx.specs.Queue.{Queued}
use Rattle.allocatee.specs.Given.{IsAnonymous}
use Rattle.alloc_spec.specs.Accepted.{setting_for}
use Rattle.alloc_spec.specs.AllocatorState.{AllocatorState, members_of}
use Rattle.alloc_spec.specs.Ending.{calls_all, calls_owed, calls_peer}
use Rattle.alloc_spec.specs.Step.{Event, begin_phase, moment_of, step}
use Rattle.alloc_spec.specs.StepState.{StepState}
use Rattle.alloc_spec.specs.Transfers.{Offer, ident_of, kind_of, number_of}
use Rattle.alloc_spec_laws.specs.Phases.{when_committed, when_told}
use Rattle.alloc_spec_laws.proofs.DistinctTransfers.{rank}
use Rattle.alloc_spec_laws.proofs.EndOffers.{Told, tells}
use Rattle.alloc_spec_laws.proofs.Transfers.{event_offers}
use Rattle.bus_agreement.specs.LawsBelow.{FrameLaws}
use Rattle.bus_agreement.proofs.Idents.{ident_ok}
use Rattle.service_leader.proofs.HeardIdents.{is_wanted}
use Rattle.service_calm.specs.Calm.{Member as OfMember, Party}
use Rattle.service_calm.proofs.CallsOffered.{same_after}
use Rattle.service_calm.proofs.Group.{IsOf}
use Rattle.service_calm.proofs.Others.{some_ident}
use Rattle.bus_spec.specs.Cluster.{arrival_at}

-- ---- who follows calls nobody

none_called : (number peer : ℕ) (pending : Option Request) (g : StepState) → calls_owed number (due_unless pending None) g ≡ g
none_called number peer None g = refl
none_called number peer (Some request) g = refl

one_called : (number peer : ℕ) (g : StepState) → g.allocator.raft_server.memory.role ≡ Follower → calls_peer number peer g ≡ g
one_called number peer g follows =
    ap (λ (role : Role). calls_owed number (due_unless (g.allocator.raft_server.memory.pending peer) (due role g.allocator.raft_server g.allocator.times peer g.allocator.now)) g)
    follows ∙ none_called number peer (g.allocator.raft_server.memory.pending peer) g

all_called : (number : ℕ) (peers : List ℕ) (g : StepState) → g.allocator.raft_server.memory.role ≡ Follower → calls_all number peers g ≡ g
all_called number [] g follows = refl
all_called number (peer ∷ peers) g follows =
    ap (λ (h : StepState). calls_all number peers h) (one_called number peer g follows) ∙ all_called number peers g follows

told_low : (t : AllocatorState) (number : ℕ) (event : Event) → Told (when_told t number event)
told_low t number event = tells number (when_committed t number event) (event_offers number event (begin_phase number (moment_of event) t) refl)

-- a step that leaves a follower offers no request of Raft
pub follower_asks_none : (t : AllocatorState) (number : ℕ) (event : Event) → (step t number event).step_state.allocator.raft_server.memory.role ≡ Follower
    → (offer : Offer) → In offer (step t number event).step_state.offers → rank offer.what ≤ 7
unfolding step
follower_asks_none t number event follows offer i = (told_low t number event).each offer
    (subst (λ (g : StepState). In offer g.offers) (all_called number (drop 1 (members_of (when_told t number event).allocator)) (when_told t number event)
    (sym (same_after t number event).0 ∙ follows)) i)

-- ---- a frame of such a transfer

-- a frame of a member's transfer that is no request of Raft
pub record IsPlain (p : ℕ) (frame : Queued) : Type 0 where
  pub own : IsOf p frame
  pub low : rank own.what ≤ 7

-- a request of a low rank is one of GetNodeInfo
low_request : (what : What) → rank what ≤ 7 → kind_of what ≡ RequestKind → number_of what ≡ 1
low_request Alloc low kind = absurd (cc (kind))
low_request Disc low kind = absurd (cc (kind))
low_request Stat low kind = absurd (cc (kind))
low_request InfoQ low kind = refl
low_request Info low kind = absurd (cc (kind))
low_request VoteQ low kind = absurd (omega (arith, low))
low_request Vote low kind = absurd (cc (kind))
low_request AppQ low kind = absurd (omega (arith, low))
low_request App low kind = absurd (cc (kind))

-- a member of the group sent the frame, and it is plain, or a device sent it
abbrev pub IsPlainOfGroup : List Party → Queued → Type 0
IsPlainOfGroup group frame = ((p : ℕ) × In (OfMember p) group × IsPlain p frame) ⊎ IsAnonymous frame

-- what such a frame completes is no request of Raft
pub plain_delivery : FrameLaws → (group : List Party) → ((p : ℕ) → In (OfMember p) group → (1 ≤ p) × (p ≤ 125)) → (me : ℕ) (t : AllocatorState) (frame : Queued) (moment : ℕ)
    (d : Delivery) → IsPlainOfGroup group frame → answer (setting_for me) t.sessions (arrival_at frame moment) ≡ Gives d → d.ident.kind ≡ RequestKind
    → d.ident.number ≡ 1
plain_delivery laws group nodes me t frame moment d is gives kind = by is
  where
    reads : identifier_of frame.id ≡ Some d.ident
    reads = (is_wanted laws me t.sessions (arrival_at frame moment) d gives).read

    by : IsPlainOfGroup group frame → d.ident.number ≡ 1
    by (inl (p, i, plain)) =
        let node = nodes p i in
        let same : d.ident ≡ ident_of p plain.own.what plain.own.to = some_ident d.ident (ident_of p plain.own.what plain.own.to)
        (sym reads ∙ (ap identifier_of plain.own.id ∙ laws.ident_read (ident_of p plain.own.what plain.own.to)
        (ident_ok p plain.own.what plain.own.to node.0 node.1 plain.own.dest))) in
        ap (λ (ident : Ident). ident.number) same
        ∙ low_request plain.own.what plain.low (sym (ap (λ (ident : Ident). ident.kind) same) ∙ kind)
    by (inr none) = absurd (cc (sym (ap (λ (ident : Ident). ident.kind) (some_ident d.ident none.ident (sym reads ∙ none.read)) ∙ none.kind) ∙ kind))
