-- The list of members after a step.
use Rattle.std.proofs.Common.{◌≡◌, ℕ, zero, suc, true, false, List, [], ◌∷◌, length, take, ◌⊎◌, inl, inr, refl, sym, ◌∙◌, subst, arith, Some}
use Rattle.std.specs.Prelude.{nat_eq, Contains}
use Rattle.can_frame.specs.declared.identifier.Kind.TheVariants.{Message as Broadcast}
use Rattle.can_frame.specs.Log.{IsPrefix}
use Rattle.cluster_discovery.specs.Members.{Event as Hearing, Names, Start, is_complete}
use Rattle.cluster_discovery.specs.Members as cluster
use Rattle.cluster_discovery.specs.Members.Event.{Heard, Sent}
use Rattle.dsdl_codec.specs.declared.discovery.Discovery.{Discovery}
use Rattle.dsdl_codec.specs.Discovery.{discovery_of}
use Rattle.raft_model.specs.Lists.{In}
use Rattle.transfer_rx.specs.Reassembly.{Delivery}
use Rattle.alloc_spec.specs.Delivered.{hears_discovery}
use Rattle.alloc_spec.specs.StepState.{StepState, initial_state}
use Rattle.alloc_spec.specs.Step.{Event, step}
use Rattle.alloc_spec.specs.AllocatorState.{AllocatorState, knows_all, members_of, start_of}
use Rattle.alloc_spec_laws.specs.Listing.{IsDelivered, IsNamed}
use Rattle.alloc_spec_laws.proofs.KeptByChanges.{IsLike}
use Rattle.alloc_spec_laws.proofs.Logs.{get_in}
use Rattle.alloc_spec_laws.proofs.KeptBySteps.{step_keeps}

in_contains : (xs : List ℕ) (x : ℕ) → In x xs → Contains xs x
in_contains [] x i = elim i [ ]
in_contains (y ∷ ys) x (inl e) = (0, omega arith, sym e)
in_contains (y ∷ ys) x (inr i) = let r = in_contains ys x i in (suc r.0, omega (arith, r.1), r.2)

contains_in : (xs : List ℕ) (x : ℕ) → Contains xs x → In x xs
contains_in xs x h = subst (λ (y : ℕ). In y xs) h.2 (get_in xs h.0 x h.1)

in_take : (count x : ℕ) (xs : List ℕ) → In x (take count xs) → In x xs
in_take zero x xs i = elim i [ ]
in_take (suc count) x [] i = elim i [ ]
in_take (suc count) x (y ∷ ys) (inl e) = inl e
in_take (suc count) x (y ∷ ys) (inr i) = inr (in_take count x ys i)

-- a fact of the list moves along a change that is no hearing
moves_along : (Fact : Start → List Hearing → Type 0) (a b : AllocatorState) → IsLike a b → Fact (start_of b) b.heard → Fact (start_of a) a.heard
moves_along Fact a b like h = subst (λ (s : Start). Fact s a.heard) (sym like.start) (subst (λ (l : List Hearing). Fact (start_of b) l) (sym like.heard) h)

-- a fact of the list is kept, where hearing a Discovery keeps it
module _ (t : AllocatorState) (number : ℕ) (event : Event) (Fact : Start → List Hearing → Type 0) where
  abbrev HoldsOf : StepState → Type 0
  HoldsOf g = Fact (start_of g.allocator) g.allocator.heard

  listed_so : ((start : Start) (heard : List Hearing) (moment : ℕ) → Fact start heard → Fact start (Sent moment ∷ heard))
      → ((d : Delivery) (message : Discovery) (g : StepState) → IsDelivered t number event d → d.ident.kind ≡ Broadcast
      → nat_eq d.ident.number 341 ≡ false → discovery_of d.payload ≡ Some message → HoldsOf g → HoldsOf (hears_discovery d message g))
      → HoldsOf (initial_state t) → HoldsOf (step t number event).step_state
  listed_so tells hears h =
      step_keeps number event HoldsOf (IsDelivered t number event) (record {
        takes_keep = λ given moves g quiet decided h. h;
        proposes_keep = λ given uid node g found h. h;
        sends_keep = λ what to payload says g sends h. h;
        calls_keep = λ what peer move request payload g makes fits h. h;
        responds_keep = λ what d payload says g comes responds h. h;
        changes_keep = λ u g like h. moves_along Fact u g.allocator like h;
        watches_keep = λ node happens g has h. h;
        tells_keep = λ g h. tells (start_of g.allocator) g.allocator.heard g.allocator.now h;
        hears_keep = hears;
      }) t (λ arrival is d e. record { arrival = arrival; comes = is; gives = e }) h

module _ (t : AllocatorState) (number : ℕ) (event : Event) where
  -- who is new was named
  module _ (new_named : (start : Start) (events : List Hearing) (from : ℕ) (message : Discovery) (node : ℕ)
      → Contains (cluster.members start (Heard from message ∷ events)) node
      → Contains (cluster.members start events) node ⊎ Names start from message node) where
    abbrev Named : Start → List Hearing → Type 0
    Named start heard = (start ≡ start_of t)
        × ((node : ℕ) → In node (cluster.members start heard) → In node (members_of t) ⊎ IsNamed t number event node)

    hears_named : (d : Delivery) (message : Discovery) (g : StepState) → IsDelivered t number event d → d.ident.kind ≡ Broadcast
        → nat_eq d.ident.number 341 ≡ false → discovery_of d.payload ≡ Some message → Named (start_of g.allocator) g.allocator.heard
        → Named (start_of g.allocator) (Heard d.ident.source message ∷ g.allocator.heard)
    hears_named d message g comes kind other read h = (
      h.0,
      λ node i. elim (new_named (start_of g.allocator) g.allocator.heard d.ident.source message node (in_contains _ node i)) [
        | inl c ↦ h.1 node (contains_in _ node c)
        | inr n ↦ inr (record {
          d = d;
          message = message;
          delivered = comes;
          discovery = record { kind = kind; number = other; says = read };
          names = subst (λ (s : Start). Names s d.ident.source message node) h.0 n;
        })
      ],
    )

    pub named : (node : ℕ) → In node (members_of (step t number event).step_state.allocator) → In node (members_of t) ⊎ IsNamed t number event node
    named = (listed_so t number event Named (λ start heard moment h. h) hears_named (refl, λ node i. inl i)).1

  -- who was known stays known
  module _ (stays : (start : Start) (events : List Hearing) (from : ℕ) (message : Discovery)
      → IsPrefix (cluster.members start events) (cluster.members start (Heard from message ∷ events))) where
    abbrev Kept : Start → List Hearing → Type 0
    Kept start heard = (node : ℕ) → In node (members_of t) → In node (cluster.members start heard)

    hears_kept : (d : Delivery) (message : Discovery) (g : StepState) → IsDelivered t number event d → d.ident.kind ≡ Broadcast
        → nat_eq d.ident.number 341 ≡ false → discovery_of d.payload ≡ Some message → Kept (start_of g.allocator) g.allocator.heard
        → Kept (start_of g.allocator) (Heard d.ident.source message ∷ g.allocator.heard)
    hears_kept d message g comes kind other read h node i = in_take (length (members_of g.allocator)) node _
        (subst (λ (l : List ℕ). In node l) (sym (stays (start_of g.allocator) g.allocator.heard d.ident.source message)) (h node i))

    pub kept : (node : ℕ) → In node (members_of t) → In node (members_of (step t number event).step_state.allocator)
    kept = listed_so t number event Kept (λ start heard moment h. h) hears_kept (λ node i. i)

  -- a list that is complete does not change
  module _ (stays : (start : Start) (events : List Hearing) (from : ℕ) (message : Discovery) → is_complete start events ≡ true
      → cluster.members start (Heard from message ∷ events) ≡ cluster.members start events)
      (ends : (start : Start) (events : List Hearing) (from : ℕ) (message : Discovery) → is_complete start events ≡ true
      → is_complete start (Heard from message ∷ events) ≡ true) where
    abbrev Whole : Start → List Hearing → Type 0
    Whole start heard = (is_complete start heard ≡ true) × (cluster.members start heard ≡ members_of t)

    hears_whole : (d : Delivery) (message : Discovery) (g : StepState) → IsDelivered t number event d → d.ident.kind ≡ Broadcast
        → nat_eq d.ident.number 341 ≡ false → discovery_of d.payload ≡ Some message → Whole (start_of g.allocator) g.allocator.heard
        → Whole (start_of g.allocator) (Heard d.ident.source message ∷ g.allocator.heard)
    hears_whole d message g comes kind other read h = (
      ends (start_of g.allocator) g.allocator.heard d.ident.source message h.0,
      stays (start_of g.allocator) g.allocator.heard d.ident.source message h.0 ∙ h.1,
    )

    pub whole : knows_all t ≡ true → members_of (step t number event).step_state.allocator ≡ members_of t
    whole complete = (listed_so t number event Whole (λ start heard moment h. h) hears_whole (complete, refl)).1
