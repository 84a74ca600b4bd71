-- A server that knows all members and owes no Discovery: what its steps leave, where no Discovery comes to it.
use Rattle.std.proofs.Common.{◌≡◌, ◌≢◌, ℕ, ◌≤◌, Bool, true, false, List, [], ◌∷◌, ◌++◌, refl, sym, ◌∙◌, ap, subst, arith, max, inl, inr, Some}
use Rattle.std.specs.Prelude.{nat_eq}
use Rattle.alloc_exchange.specs.Exchange.{Accepted, after}
use Rattle.can_frame.specs.declared.identifier.Kind.TheVariants.{Anonymous, Message as Broadcast}
use Rattle.can_frame.specs.declared.step.What.TheVariants.{Disc}
use Rattle.cluster_discovery.specs.Members.{Event as Hearing, Start, is_complete, is_due, is_on_list, members, owes}
use Rattle.dsdl_codec.specs.declared.allocation.Allocation.{Allocation}
use Rattle.dsdl_codec.specs.declared.discovery.Discovery.{Discovery}
use Rattle.dsdl_codec.specs.Allocation.{allocation_of}
use Rattle.dsdl_codec.specs.Discovery.{discovery_of}
use Rattle.node_discovery.specs.History.{Asked, Event as Happens, is_online}
use Rattle.node_discovery.specs.Watch.{Watched, after_info, after_status, history, of_node}
use Rattle.raft_model.specs.Lists.{In}
use Rattle.transfer_rx.specs.Reassembly.{Arrival, Delivery, Gives}
use Rattle.alloc_spec.specs.AllocatorState.{AllocatorState, knows_all, members_of, start_of}
use Rattle.alloc_spec.specs.Delivered.{hears_status}
use Rattle.alloc_spec.specs.Exchange.{may_follow, with_request}
use Rattle.alloc_spec.specs.Step.{Event, moment_of, step}
use Rattle.alloc_spec.specs.Step.Event.{Rx}
use Rattle.alloc_spec.specs.StepState.{StepState}
use Rattle.alloc_spec.specs.Transfers.{Offer}
use Rattle.alloc_spec_laws.proofs.Choices.{either}
use Rattle.bus_agreement.proofs.Lists.{in_append}
use Rattle.service_device.proofs.AllocationsOffered.{comes_to}
use Rattle.service_device.proofs.SettledFrames.{after_its_info, after_its_status}
use Rattle.service_device.proofs.SettledSteps.{NoStranger, no_stranger_later}
use Rattle.service_device.proofs.TidySteps.{IsPassed, none_sent, step_passes}

-- ---- no Discovery is due

-- who knows all and owes none has none to send
none_due : (start : Start) (heard : List Hearing) (now : ℕ) → is_complete start heard ≡ true → owes start heard ≡ false → is_due start heard now ≡ false
none_due start heard now complete owing = rw (owing) (rw (complete) refl)

-- one more offer that is no Discovery
one_more : (offers : List Offer) (new : Offer) → new.what ≢ Disc → ((x : Offer) → In x offers → x.what ≢ Disc) → (x : Offer) → In x (offers ++ new ∷ []) → x.what ≢ Disc
one_more offers new other free x i e = elim (in_append x offers (new ∷ []) i) [
  | inl old ↦ free x old e
  | inr (inl same) ↦ other (sym (ap (λ (o : Offer). o.what) same) ∙ e)
  | inr (inr none) ↦ absurd none
]

module _ (number : ℕ) (t : AllocatorState) (complete : knows_all t ≡ true) (owing : owes (start_of t) t.heard ≡ false) where
  -- so far the step heard and sent no Discovery
  pub record IsSilent (g : StepState) : Type 0 where
    pub start : start_of g.allocator ≡ start_of t
    pub heard : g.allocator.heard ≡ t.heard
    pub free : (x : Offer) → In x g.offers → x.what ≢ Disc

  not_due : (g : StepState) → IsSilent g → is_due (start_of g.allocator) g.allocator.heard g.allocator.now ≡ false
  not_due g h = (λ i. is_due (h.start i) (h.heard i) g.allocator.now) ∙ none_due (start_of t) t.heard g.allocator.now complete owing

  silent_passed : IsPassed number IsSilent
  silent_passed = record {
    discovers = λ g h. none_sent number IsSilent g (not_due g h) h;
    moves = λ given moves g h. record { start = h.start; heard = h.heard; free = h.free };
    sends = λ what to payload says g other h. record { start = h.start; heard = h.heard; free = one_more g.offers _ other h.free };
    responds = λ what d payload says g other h. record { start = h.start; heard = h.heard; free = one_more g.offers _ other h.free };
    states = λ g h. record { start = h.start; heard = h.heard; free = h.free };
    queries = λ node id g h. record { start = h.start; heard = h.heard; free = h.free };
    sessions = λ sessions g h. record { start = h.start; heard = h.heard; free = h.free };
    infos = λ d info g h. record { start = h.start; heard = h.heard; free = h.free };
  }

  -- no Discovery comes in this event
  abbrev pub NoneComes : Event → Type 0
  NoneComes event = (arrival : Arrival) → event ≡ Rx arrival → (d : Delivery) → comes_to t arrival ≡ Gives d → d.ident.kind ≡ Broadcast → nat_eq d.ident.number 341 ≡ false
      → (message : Discovery) → discovery_of d.payload ≡ Some message → ⊥

  -- in the whole step
  pub stays_silent : (event : Event) → NoneComes event → IsSilent (step t number event).step_state
  stays_silent event none = step_passes number IsSilent silent_passed t event (λ arrival is d gives. record {
    request = λ kind message says g h. record { start = h.start; heard = h.heard; free = h.free };
    status = λ kind g h. record { start = h.start; heard = h.heard; free = h.free };
    discovery = λ kind other message says g h. absurd (none arrival is d gives kind other message says);
  }) (record { start = refl; heard = refl; free = λ x i. absurd i })

  -- ---- who is online, and what was accepted

  module _ (Fits : List Accepted → Type 0) (now : ℕ) where
    -- and no node is online that is not on its list, and this holds of the requests that it has accepted
    pub record Rests (g : StepState) : Type 0 where
      pub silent : IsSilent g
      pub clock : g.allocator.now ≡ now
      pub status_at : g.allocator.status_at ≤ now
      pub offline : NoStranger [] (members_of t) g.allocator.watch now
      pub requests : Fits g.allocator.accepted

    -- a query to a node does not make it online
    after_query : (watch : List Watched) (node id moment : ℕ) → NoStranger [] (members_of t) watch now → NoStranger [] (members_of t) (of_node node (Asked id moment) ∷ watch) now
    after_query watch node id moment off other e =
        either (λ (events : List Happens). is_online events now ≡ false) (nat_eq node other) (Asked id moment ∷ history other watch) (history other watch)
        (λ s. off other e) (λ s. off other e)

    rests_passed : IsPassed number Rests
    rests_passed = record {
      discovers = λ g h. none_sent number Rests g (not_due g h.silent) h;
      moves = λ given moves g h. record
          { silent = silent_passed.moves given moves g h.silent; clock = h.clock; status_at = h.status_at; offline = h.offline; requests = h.requests };
      sends = λ what to payload says g other h. record {
        silent = silent_passed.sends what to payload says g other h.silent;
        clock = h.clock;
        status_at = h.status_at;
        offline = h.offline;
        requests = h.requests;
      };
      responds = λ what d payload says g other h. record {
        silent = silent_passed.responds what d payload says g other h.silent;
        clock = h.clock;
        status_at = h.status_at;
        offline = h.offline;
        requests = h.requests;
      };
      states = λ g h. record {
        silent = silent_passed.states g h.silent;
        clock = h.clock;
        status_at = let c = h.clock in omega (arith, c);
        offline = h.offline;
        requests = h.requests;
      };
      queries = λ node id g h. record {
        silent = silent_passed.queries node id g h.silent;
        clock = h.clock;
        status_at = h.status_at;
        offline = after_query g.allocator.watch node id g.allocator.now h.offline;
        requests = h.requests;
      };
      sessions = λ sessions g h. record {
        silent = silent_passed.sessions sessions g h.silent;
        clock = h.clock;
        status_at = h.status_at;
        offline = h.offline;
        requests = h.requests;
      };
      infos = λ d info g h. record {
        silent = silent_passed.infos d info g h.silent;
        clock = h.clock;
        status_at = h.status_at;
        offline = subst (λ (moment : ℕ). NoStranger [] (members_of t) (after_info g.allocator.watch d.ident.source d.id info.uid moment) now) (sym h.clock)
            (after_its_info [] (members_of t) g.allocator.watch now h.offline d.ident.source d.id info.uid);
        requests = h.requests;
      };
    }

    -- a NodeStatus of who is on the list
    hears_it : (d : Delivery) → is_on_list (members_of t) d.ident.source ≡ true → (g : StepState) → Rests g → Rests (hears_status d g)
    hears_it d listed g h = record {
      silent = record { start = h.silent.start; heard = h.silent.heard; free = h.silent.free };
      clock = h.clock;
      status_at = h.status_at;
      offline = subst (λ (moment : ℕ). NoStranger [] (members_of t) (after_status g.allocator.watch d.ident.source moment) now) (sym h.clock)
          (after_its_status [] (members_of t) g.allocator.watch now h.offline d.ident.source listed);
      requests = h.requests;
    }

    -- it holds of the requests that are accepted behind this one
    abbrev pub FitsBehind : Allocation → Type 0
    FitsBehind message = (accepted : List Accepted) (follows : Bool) → Fits accepted → Fits (after accepted message now follows)

    -- a request of a device
    takes_it : (message : Allocation) → FitsBehind message → (g : StepState) → Rests g → Rests (with_request message g)
    takes_it message fits g h = record {
      silent = record { start = h.silent.start; heard = h.silent.heard; free = h.silent.free };
      clock = h.clock;
      status_at = h.status_at;
      offline = h.offline;
      requests = subst (λ (moment : ℕ). Fits (after g.allocator.accepted message moment (may_follow g.allocator))) (sym h.clock)
          (fits g.allocator.accepted (may_follow g.allocator) h.requests);
    }

  -- in the whole step, where messages come of those on the list alone
  pub rests_on : (Fits : List Accepted → Type 0) (event : Event) → NoneComes event
      → ((arrival : Arrival) → event ≡ Rx arrival → (d : Delivery) → comes_to t arrival ≡ Gives d → d.ident.kind ≡ Broadcast → is_on_list (members_of t) d.ident.source ≡ true)
      → ((arrival : Arrival) → event ≡ Rx arrival → (d : Delivery) → comes_to t arrival ≡ Gives d → d.ident.kind ≡ Anonymous → (message : Allocation)
      → allocation_of d.payload ≡ Some message → FitsBehind Fits (max t.now (moment_of event)) message)
      → t.status_at ≤ max t.now (moment_of event) → NoStranger [] (members_of t) t.watch t.now → Fits t.accepted
      → Rests Fits (max t.now (moment_of event)) (step t number event).step_state
  rests_on Fits event none listed fits status off requests =
      let now : ℕ = max t.now (moment_of event) in
      step_passes number (Rests Fits now) (rests_passed Fits now) t event (λ arrival is d gives. record {
        request = λ kind message says g h. takes_it Fits now message (fits arrival is d gives kind message says) g h;
        status = λ kind g h. hears_it Fits now d (listed arrival is d gives kind) g h;
        discovery = λ kind other message says g h. absurd (none arrival is d gives kind other message says);
      }) (record {
        silent = record { start = refl; heard = refl; free = λ x i. absurd i };
        clock = refl;
        status_at = status;
        offline = no_stranger_later [] (members_of t) t.watch t.now now (omega arith) off;
        requests = requests;
      })

-- ---- behind the step

-- who has the same list and heard the same knows all too, and owes as little
module _ (t u : AllocatorState) (start : start_of u ≡ start_of t) (heard : u.heard ≡ t.heard) where
  pub still_complete : knows_all t ≡ true → knows_all u ≡ true
  still_complete e = (λ i. is_complete (start i) (heard i)) ∙ e

  pub still_owing : owes (start_of t) t.heard ≡ false → owes (start_of u) u.heard ≡ false
  still_owing e = (λ i. owes (start i) (heard i)) ∙ e

  pub same_list : members_of u ≡ members_of t
  same_list i = members (start i) (heard i)
