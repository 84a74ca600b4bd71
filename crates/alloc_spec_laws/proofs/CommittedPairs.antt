-- The pairs that a step gives are committed when it is over.
use Rattle.std.proofs.Common.{◌≡◌, ℕ, ◌≤◌, List, [], ◌∷◌, ◌++◌, length, length-take, inl, inr, refl, sym, ◌∙◌, ap, subst, arith, Some}
use Rattle.std.specs.Prelude.{⊤}
use Rattle.std.proofs.lemmas.List.{get_or-take}
use Rattle.can_frame.specs.declared.entry.Entry.{Entry}
use Rattle.can_frame.specs.Log.{blank}
use Rattle.raft_core.specs.Taken.{proposal}
use Rattle.raft_model.specs.Decisions.{verdict_on}
use Rattle.raft_model.specs.Lists.{In}
use Rattle.raft_model.specs.Messages.{Request}
use Rattle.raft_model.specs.Moves.Appending.{IsJudged}
use Rattle.raft_model.specs.Moves.Move.{ProposeEntry}
use Rattle.raft_model.specs.Server.{RaftServer, Put, Store, committed, put_all}
use Rattle.alloc_spec.specs.StepState.{StepState, pair_of_offer, pairs}
use Rattle.alloc_spec.specs.Step.{Event, step}
use Rattle.alloc_spec.specs.AllocatorState.{AllocatorState, members_of}
use Rattle.alloc_spec.specs.Transfers.{GivenPair, Offer, pair_in}
use Rattle.alloc_spec_laws.specs.Giving.{Gives, IsGivenIn}
use Rattle.alloc_spec_laws.proofs.Choices.{tell}
use Rattle.alloc_spec_laws.proofs.GivenPairs.{IsOfPlace, gives_it, message_gives}
use Rattle.alloc_spec_laws.proofs.LogGrowth.{Grows, IsSane, moves_grow}
use Rattle.alloc_spec_laws.proofs.KeptByChanges.{Keeping}
use Rattle.alloc_spec_laws.proofs.Lists.{in_append, in_filter}
use Rattle.alloc_spec_laws.proofs.KeptBySteps.{step_keeps}

-- all that is offered gives pairs of committed places
abbrev AreOfPlaces : Store → List Offer → Type 0
AreOfPlaces store offers =
    (offer : Offer) → In offer offers → (given : GivenPair) → Gives offer.what offer.payload given → IsOfPlace store given

pub record GivesPlaces (g : StepState) : Type 0 where
  pub sane : IsSane g.allocator.raft_server.store
  pub each : AreOfPlaces g.allocator.raft_server.store g.offers

-- a committed place is committed later
place_stays : (a b : Store) (given : GivenPair) → Grows a b → IsOfPlace a given → IsOfPlace b given
place_stays a b given grows is = record {
  place = is.place;
  below = omega (arith, is.below, grows.commit);
  uid = ap (λ (e : Entry). e.uid) (grows.same is.place is.below) ∙ is.uid;
  node = ap (λ (e : Entry). e.node) (grows.same is.place is.below) ∙ is.node;
  device = is.device;
}

one_more : (store : Store) (offers : List Offer) (new : Offer) → AreOfPlaces store offers
    → ((given : GivenPair) → Gives new.what new.payload given → IsOfPlace store given) → AreOfPlaces store (offers ++ new ∷ [])
one_more store offers new h is offer i = elim (in_append offer offers (new ∷ []) i) [
  | inl j ↦ h offer j
  | inr (inl e) ↦ subst (λ (o : Offer). (given : GivenPair) → Gives o.what o.payload given → IsOfPlace store given) (sym e) is
  | inr (inr j) ↦ absurd j
]

same_store : (g later : StepState) → later.allocator.raft_server ≡ g.allocator.raft_server → later.offers ≡ g.offers → GivesPlaces g → GivesPlaces later
same_store g later p o h = record {
  sane = subst (λ (raft_server : RaftServer). IsSane raft_server.store) (sym p) h.sane;
  each = subst (λ (raft_server : RaftServer). AreOfPlaces raft_server.store later.offers) (sym p) (subst (λ (l : List Offer). AreOfPlaces g.allocator.raft_server.store l) (sym o) h.each);
}

moved_on : (g later : StepState) → Grows g.allocator.raft_server.store later.allocator.raft_server.store → later.offers ≡ g.offers → GivesPlaces g → GivesPlaces later
moved_on g later grows o h = record {
  sane = grows.sane;
  each = subst (λ (l : List Offer). AreOfPlaces later.allocator.raft_server.store l) (sym o)
      (λ offer i given e. place_stays g.allocator.raft_server.store later.allocator.raft_server.store given grows (h.each offer i given e));
}

module _ (judged : (server : RaftServer) (request : Request) → IsJudged server request (verdict_on server request)) (number : ℕ) (event : Event) where
  gives_keeping : Keeping number event GivesPlaces (λ d. ⊤)
  gives_keeping = record {
    takes_keep = λ given moves g quiet decided h.
        moved_on g _ (moves_grow judged (members_of g.allocator) g.allocator.me number moves g.allocator.raft_server decided h.sane) refl h;
    proposes_keep = λ given uid node g found h.
        moved_on g _ (moves_grow judged (members_of g.allocator) g.allocator.me number (ProposeEntry (proposal g.allocator.raft_server.store.term uid node) ∷ [])
        g.allocator.raft_server (tt, tt) h.sane) refl h;
    sends_keep = λ what to payload says g sends h. record { sane = h.sane; each = one_more g.allocator.raft_server.store g.offers _ h.each sends.gives };
    calls_keep = λ what peer move request payload g makes fits h.
        record {
          sane = subst (λ (ps : List Put). IsSane (put_all g.allocator.raft_server.store ps)) (sym (makes.nothing (members_of g.allocator))) h.sane;
          each = λ offer i given e. subst (λ (ps : List Put). IsOfPlace (put_all g.allocator.raft_server.store ps) given) (sym (makes.nothing (members_of g.allocator))) (h.each offer i given e);
        };
    responds_keep = λ what d payload says g comes responds h. record {
      sane = h.sane;
      each = one_more g.allocator.raft_server.store g.offers _ h.each (λ given e. absurd (cc (responds.is, message_gives what payload given e)));
    };
    changes_keep = λ u g like h. same_store g _ like.raft_server refl h;
    watches_keep = λ node happens g has h. record { sane = h.sane; each = h.each };
    tells_keep = λ g h. record { sane = h.sane; each = h.each };
    hears_keep = λ d message g comes kind other read h. record { sane = h.sane; each = h.each };
  }

  step_gives : (t : AllocatorState) → IsSane t.raft_server.store → GivesPlaces (step t number event).step_state
  step_gives t sane =
      step_keeps number event GivesPlaces (λ d. ⊤) gives_keeping t (λ arrival is d e. tt) (record { sane = sane; each = λ offer i. absurd i })

-- what is given is read of the payload
offered_pair : (offer : Offer) (given : GivenPair) → pair_of_offer offer ≡ Some given → pair_in offer.what offer.payload ≡ Some given
offered_pair offer given e = elim (tell offer.fitted) [ inl b ↦ rw b at e | inr b ↦ absurd (cc (rw b at e)) ]

in_committed : (store : Store) (given : GivenPair) → IsSane store → IsOfPlace store given → IsGivenIn (committed store) given
in_committed store given sane is = record {
  place = is.place;
  inside = grind (arith, length-take, is.below, sane);
  uid = ap (λ (e : Entry). e.uid) (get_or-take store.commit store.log is.place (blank 0) is.below) ∙ is.uid;
  node = ap (λ (e : Entry). e.node) (get_or-take store.commit store.log is.place (blank 0) is.below) ∙ is.node;
  device = is.device;
}

abbrev Judged : Type 0
Judged = (server : RaftServer) (request : Request) → IsJudged server request (verdict_on server request)

pub offers_are_committed : Judged → (t : AllocatorState) (number : ℕ) (event : Event) → t.raft_server.store.commit ≤ length t.raft_server.store.log
    → (offer : Offer) (given : GivenPair) → In offer (step t number event).step_state.offers → Gives offer.what offer.payload given
    → IsGivenIn (committed (step t number event).step_state.allocator.raft_server.store) given
offers_are_committed judged t number event sane offer given i gives =
    let all = step_gives judged number event t sane in
    in_committed (step t number event).step_state.allocator.raft_server.store given all.sane (all.each offer i given gives)

pub pairs_are_committed : Judged → (t : AllocatorState) (number : ℕ) (event : Event) → t.raft_server.store.commit ≤ length t.raft_server.store.log
    → (given : GivenPair) → In given (pairs (step t number event).step_state)
    → IsGivenIn (committed (step t number event).step_state.allocator.raft_server.store) given
pairs_are_committed judged t number event sane given i =
    let from = in_filter pair_of_offer (step t number event).step_state.offers given i in
    offers_are_committed judged t number event sane from.0 given from.1 (gives_it from.0.what from.0.payload given (offered_pair from.0 given from.2))

pub commit_stays_inside : Judged → (t : AllocatorState) (number : ℕ) (event : Event)
    → t.raft_server.store.commit ≤ length t.raft_server.store.log → (step t number event).step_state.allocator.raft_server.store.commit ≤ length (step t number event).step_state.allocator.raft_server.store.log
commit_stays_inside judged t number event sane = (step_gives judged number event t sane).sane
