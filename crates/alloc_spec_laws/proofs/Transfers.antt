-- The transfers of a whole step.
use Rattle.std.proofs.Common.{◌∷◌, ℕ, ◌+◌, ◌≤◌, List, [], length, refl, sym, ap, subst, arith, drop, inl, inr, ◌∙◌}
use Rattle.cluster_discovery.specs.Members.{Start}
use Rattle.raft_model.specs.Lists.{In}
use Rattle.transfer_rx.specs.Reassembly.{Answer}
use Rattle.transfer_rx.specs.Reassembly.Answer.{Continues, Drops, Gives}
use Rattle.alloc_spec.specs.Ending.{commit_phase, tell_phase}
use Rattle.alloc_spec.specs.StepState.{StepState}
use Rattle.alloc_spec.specs.Step.{Event, begin_phase, event_phase, moment_of, step, with_answer, with_sessions}
use Rattle.alloc_spec.specs.Step.Event.{Rx, Tick}
use Rattle.alloc_spec.specs.Tick.{clock_phase}
use Rattle.alloc_spec.specs.AllocatorState.{AllocatorState, members_of, start_of}
use Rattle.alloc_spec.specs.Transfers.{Offer}
use Rattle.alloc_spec_laws.specs.Apart.{AreAllApart, AreApart, OneByName}
use Rattle.alloc_spec_laws.proofs.DeliveryOffers.{Fresh, IsSilent, delivery_comes, still, ticked}
use Rattle.alloc_spec_laws.proofs.EndOffers.{Called, calls, nobody_called, tells}
use Rattle.alloc_spec_laws.proofs.Peers.{IsList, few_peers, list_peers, members_list}
use Rattle.alloc_spec_laws.proofs.Ranges.{start_when_told}
use Rattle.alloc_spec_laws.proofs.TickOffers.{Upto, ticks_offer}

answer_offers : (number : ℕ) (answer : Answer) (g : StepState) → IsSilent g → Fresh (with_answer number answer g).step_state
answer_offers number (Gives d) g s = delivery_comes number d g s
answer_offers number Continues g s = still g s
answer_offers number (Drops why) g s = still g s

-- what its event offers
pub event_offers : (number : ℕ) (event : Event) (g : StepState) → IsSilent g → Fresh (event_phase number event g).step_state
event_offers number (Tick now word) g s = ticked (clock_phase number word g) (ticks_offer number word g nothing)
  where
    nothing : Upto 0 1 g
    nothing = record {
      few = omega (arith, ap length s);
      apart = subst (λ (l : List Offer). AreAllApart l) (sym s) tt;
      each = λ offer i. absurd (subst (λ (l : List Offer). In offer l) s i);
    }
event_offers number (Rx arrival) g s = answer_offers number _ (with_sessions arrival g) s

-- the step when its event is done, and when its pair is told
abbrev seen_by : AllocatorState → ℕ → Event → StepState
seen_by t number event = (event_phase number event (begin_phase number (moment_of event) t)).step_state

abbrev told_by : AllocatorState → ℕ → Event → StepState
told_by t number event = tell_phase number (commit_phase number (seen_by t number event))

is_list : (t : AllocatorState) (number : ℕ) (event : Event)
    → IsList (start_of (told_by t number event).allocator).size (start_of (told_by t number event).allocator).me (members_of (told_by t number event).allocator)
is_list t number event = members_list (start_of (told_by t number event).allocator) (told_by t number event).allocator.heard

all_listed : (t : AllocatorState) (number : ℕ) (event : Event)
    → Called (4 + length (drop 1 (members_of (told_by t number event).allocator))) [] (step t number event).step_state
unfolding step
all_listed t number event =
    calls 4 number (drop 1 (members_of (told_by t number event).allocator)) (told_by t number event)
    (list_peers _ _ (members_of (told_by t number event).allocator) (is_list t number event)).once
    (nobody_called (drop 1 (members_of (told_by t number event).allocator)) (told_by t number event)
    (tells number (commit_phase number (seen_by t number event)) (event_offers number event (begin_phase number (moment_of event) t) refl)))

pub apart : (t : AllocatorState) (number : ℕ) (event : Event) → AreAllApart (step t number event).step_state.offers
apart t number event = (all_listed t number event).apart

pub few : (t : AllocatorState) (number : ℕ) (event : Event) → t.size ≤ 5 → length (step t number event).step_state.offers ≤ 8
few t number event small = omega (arith, (all_listed t number event).few, peers)
  where
    peers : length (drop 1 (members_of (told_by t number event).allocator)) ≤ 4
    peers = few_peers _ _ (members_of (told_by t number event).allocator) (is_list t number event)
        (subst (λ (s : Start). s.size ≤ 5) (sym (start_when_told t number event)) small)

-- of two names that are equal, both are the first's, or both stand behind it
by_name : (offers : List Offer) → AreAllApart offers → OneByName offers
by_name [] h a b i j fits too what to id = absurd i
by_name (first ∷ rest) h a b (inl e) (inl f) fits too what to id = e ∙ sym f
by_name (first ∷ rest) h a b (inl e) (inr j) fits too what to id =
    absurd ((subst (λ (o : Offer). AreApart o b) (sym e) (h.0 b j) fits too what to).1 id)
by_name (first ∷ rest) h a b (inr i) (inl f) fits too what to id =
    absurd ((subst (λ (o : Offer). AreApart o a) (sym f) (h.0 a i) too fits (sym what) (sym to)).1 (sym id))
by_name (first ∷ rest) h a b (inr i) (inr j) fits too what to id = by_name rest h.1 a b i j fits too what to id

pub one_by_name : (t : AllocatorState) (number : ℕ) (event : Event) → OneByName (step t number event).step_state.offers
one_by_name t number event = by_name (step t number event).step_state.offers (apart t number event)
