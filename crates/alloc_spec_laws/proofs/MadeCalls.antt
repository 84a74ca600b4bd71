-- Each pending call was pending before the step, or the step made it; and what is kept with calls.
use Rattle.std.proofs.Common.{◌≡◌, ℕ, Bool, true, false, List, [], ◌∷◌, ◌⊎◌, inl, inr, refl, sym, ◌∙◌, ap, subst, Option, Some}
use Rattle.std.specs.Prelude.{⊤, ◌==◌, is_some, if◌then◌else◌}
use Rattle.can_frame.specs.declared.step.What.{What}
use Rattle.raft_core.specs.Times.{HandedIn, Sending, Times, given_call, opened_times}
use Rattle.raft_model.specs.Lists.{In, at}
use Rattle.raft_model.specs.Messages.{Request}
use Rattle.raft_model.specs.Messages.Message.{Requests}
use Rattle.raft_model.specs.Moves.{Move, memory_after}
use Rattle.raft_model.specs.Server.{Memory, RaftServer, Store}
use Rattle.alloc_spec.specs.StepState.{StepState, with_transfer, with_moves, with_allocator}
use Rattle.alloc_spec.specs.Step.{Event, after_pop, step}
use Rattle.alloc_spec.specs.AllocatorState.{AllocatorState, members_of}
use Rattle.alloc_spec.specs.Rules.{Rules, opening_by, times_with}
use Rattle.alloc_spec.specs.Transfers.{Offer, has_room, id_of}
use Rattle.alloc_spec_laws.specs.Calls.{CallsAreMade, IsCalled, KeepsCalls, StaysPending}
use Rattle.alloc_spec_laws.proofs.CalledPeers.{AreQuiet, quiet_calls}
use Rattle.alloc_spec_laws.proofs.Choices.{eq_true, tell}
use Rattle.alloc_spec_laws.proofs.KeptByChanges.{Keeping, MakesCall}
use Rattle.alloc_spec_laws.proofs.DistinctTransfers.{sent}
use Rattle.alloc_spec_laws.proofs.Lists.{in_back, in_front}
use Rattle.alloc_spec_laws.proofs.Pending.{after_moves}
use Rattle.alloc_spec_laws.proofs.KeptBySteps.{step_keeps}

abbrev pending : StepState → ℕ → Option Request
pending g peer = g.allocator.raft_server.memory.pending peer

abbrev sending : StepState → ℕ → Option Sending
sending g peer = g.allocator.times.sending peer

-- what a peer has after a call to another, or to itself
at_place : {A : Type 0} (values : ℕ → Option A) (place other : ℕ) (x : A) → (other == place) ≡ true → at values place (Some x) other ≡ Some x
at_place {A} values place other x e = ap (λ (b : Bool). if b then Some x else values other) e

elsewhere : {A : Type 0} (values : ℕ → Option A) (place other : ℕ) (x : A) → (other == place) ≡ false → at values place (Some x) other ≡ values other
elsewhere {A} values place other x e = ap (λ (b : Bool). if b then Some x else values other) e

the_same : (a b : Request) → Some a ≡ Some b → a ≡ b
the_same a b e = cc (e)

-- the call that a move makes
call_pends : (number me : ℕ) (t : AllocatorState) (what : What) (node : ℕ) (move : Move) (request : Request) (members : List ℕ)
    → MakesCall number me t what node move request → (peer : ℕ)
    → (memory_after members me number t.raft_server move).pending peer ≡ at t.raft_server.memory.pending node (Some request) peer
call_pends number me t what node move request members makes peer = ap (λ (m : Memory). m.pending peer) (makes.memory members)

module _ (number : ℕ) (t : AllocatorState) where
  -- what did not change for a peer
  carried : (g later : StepState) (peer : ℕ) (request : Request) → pending later peer ≡ pending g peer → sending later peer ≡ sending g peer
      → later.allocator.now ≡ g.allocator.now → ((offer : Offer) → In offer g.offers → In offer later.offers)
      → StaysPending t g.allocator peer ⊎ IsCalled number g peer request → StaysPending t later.allocator peer ⊎ IsCalled number later peer request
  carried g later peer request p s now more (inl stays) = inl (record { pending = p ∙ stays.pending; sending = s ∙ stays.sending })
  carried g later peer request p s now more (inr called) = inr (record {
    offer = called.offer;
    offered = more called.offer called.offered;
    fitted = called.fitted;
    what = called.what;
    to = called.to;
    says = called.says;
    step = called.step;
    kept = s ∙ called.kept ∙ ap (λ (n : ℕ). Some (record { id = called.offer.id; moment = n })) (sym now);
  })

  same_for_all : (g later : StepState) → later.allocator.raft_server ≡ g.allocator.raft_server → later.allocator.times ≡ g.allocator.times → later.allocator.now ≡ g.allocator.now
      → ((offer : Offer) → In offer g.offers → In offer later.offers) → CallsAreMade number t g → CallsAreMade number t later
  same_for_all g later p s now more h peer request e =
      let same : pending later peer ≡ pending g peer = ap (λ (raft_server : RaftServer). raft_server.memory.pending peer) p in
      carried g later peer request same (ap (λ (times : Times). times.sending peer) s) now more (h peer request (sym same ∙ e))

  after_takes : (given : HandedIn) (moves : List Move) (g : StepState) → AreQuiet moves → CallsAreMade number t g
      → CallsAreMade number t (with_moves number given moves g)
  after_takes given moves g quiet h peer request e =
      elim (after_moves peer (members_of g.allocator) g.allocator.me number given moves g.allocator.raft_server g.allocator.times (quiet_calls moves quiet)) [
        | inl stays ↦ carried g (with_moves number given moves g) peer request stays.pending stays.sending refl (λ offer i. i) (h peer request (sym stays.pending ∙ e))
        | inr ends ↦ absurd (cc (e, ends.pending))
      ]

  after_call : (what : What) (node : ℕ) (move : Move) (request : Request) (payload : List ℕ) (g : StepState)
      → MakesCall number g.allocator.me g.allocator what node move request → has_room g.allocator.queue payload ≡ true
      → CallsAreMade number t (with_transfer number what node payload (Some (Requests request)) g)
      → CallsAreMade number t (with_moves number (given_call g.allocator.now (id_of g.allocator.ids what node)) (move ∷ []) (with_transfer number what node payload (Some (Requests request)) g))
  after_call what node move request payload g makes fits h peer asked e = elim (tell (peer == node)) [
    | inl here ↦
        let same : asked ≡ request = the_same asked request
        (sym e ∙ call_pends number g.allocator.me g.allocator what node move request (members_of g.allocator) makes peer ∙ at_place g.allocator.raft_server.memory.pending node peer request here) in
        subst (λ (r : Request). StaysPending t later.allocator peer ⊎ IsCalled number later peer r) (sym same) (inr (record {
          offer = sent what node payload (Some (Requests request)) g;
          offered = in_back (sent what node payload (Some (Requests request)) g) g.offers _ (inl refl);
          fitted = fits;
          what = makes.carried;
          to = sym (eq_true peer node here);
          says = refl;
          step = makes.step;
          kept = kept peer ∙ at_place g.allocator.times.sending node peer _ here;
        }))
    | inr other ↦
        let p = call_pends number g.allocator.me g.allocator what node move request (members_of g.allocator) makes peer ∙ elsewhere g.allocator.raft_server.memory.pending node peer request other in
        carried asking later peer asked p (kept peer ∙ elsewhere g.allocator.times.sending node peer _ other) refl (λ offer i. i) (h peer asked (sym p ∙ e))
  ]
    where
      asking : StepState
      asking = with_transfer number what node payload (Some (Requests request)) g

      later : StepState
      later = with_moves number (given_call g.allocator.now (id_of g.allocator.ids what node)) (move ∷ []) asking

      kept : (p : ℕ) → sending later p ≡ at g.allocator.times.sending node (Some (record { id = id_of g.allocator.ids what node; moment = g.allocator.now })) p
      kept p = ap (λ (f : ℕ → Option Sending). f p)
          (makes.sending (members_of g.allocator) (given_call g.allocator.now (id_of g.allocator.ids what node)) g.allocator.times)

  calls_keeping : (event : Event) → Keeping number event (CallsAreMade number t) (λ d. ⊤)
  calls_keeping event = record {
    takes_keep = λ given moves g quiet decided h. after_takes given moves g quiet h;
    proposes_keep = λ given uid node g found h peer request e. carried g _ peer request refl refl refl (λ offer i. i) (h peer request e);
    sends_keep = λ what to payload says g sends h. same_for_all g _ refl refl refl (λ offer i. in_front offer g.offers _ i) h;
    calls_keep = after_call;
    responds_keep = λ what d payload says g comes responds h. same_for_all g _ refl refl refl (λ offer i. in_front offer g.offers _ i) h;
    changes_keep = λ u g like h. same_for_all g (with_allocator u g) like.raft_server like.times like.now (λ offer i. i) h;
    watches_keep = λ node happens g has h. same_for_all g _ refl refl refl (λ offer i. i) h;
    tells_keep = λ g h. same_for_all g _ refl refl refl (λ offer i. i) h;
    hears_keep = λ d message g comes kind other read h. same_for_all g _ refl refl refl (λ offer i. i) h;
  }

pub calls_are_made : (t : AllocatorState) (number : ℕ) (event : Event) → CallsAreMade number t (step t number event).step_state
calls_are_made t number event =
    step_keeps number event (CallsAreMade number t) (λ d. ⊤) (calls_keeping number t event) t (λ arrival is d e. tt)
    (λ peer request e. inl (record { pending = refl; sending = refl }))

-- ---- what is kept with each call

abbrev Kept : StepState → Type 0
Kept g = KeepsCalls g.allocator

same_kept : (g later : StepState) → later.allocator.raft_server ≡ g.allocator.raft_server → later.allocator.times ≡ g.allocator.times → Kept g → Kept later
same_kept g later p s h peer =
    ap (λ (times : Times). is_some (times.sending peer)) s ∙ h peer ∙ ap (λ (raft_server : RaftServer). is_some (raft_server.memory.pending peer)) (sym p)

kept_takes : (number : ℕ) (given : HandedIn) (moves : List Move) (g : StepState) → AreQuiet moves → Kept g → Kept (with_moves number given moves g)
kept_takes number given moves g quiet h peer =
    elim (after_moves peer (members_of g.allocator) g.allocator.me number given moves g.allocator.raft_server g.allocator.times (quiet_calls moves quiet)) [
      | inl stays ↦
          ap (λ (call : Option Sending). is_some call) stays.sending ∙ h peer ∙ ap (λ (call : Option Request). is_some call) (sym stays.pending)
      | inr ends ↦ ap (λ (call : Option Sending). is_some call) ends.sending ∙ ap (λ (call : Option Request). is_some call) (sym ends.pending)
    ]

kept_call : (number : ℕ) (what : What) (node : ℕ) (move : Move) (request : Request) (payload : List ℕ) (g : StepState)
    → MakesCall number g.allocator.me g.allocator what node move request → Kept g
    → Kept (with_moves number (given_call g.allocator.now (id_of g.allocator.ids what node)) (move ∷ []) (with_transfer number what node payload (Some (Requests request)) g))
kept_call number what node move request payload g makes h peer =
    ap (λ (f : ℕ → Option Sending). is_some (f peer)) (makes.sending (members_of g.allocator) (given_call g.allocator.now (id_of g.allocator.ids what node)) g.allocator.times)
    ∙ both (tell (peer == node))
    ∙ ap (λ (call : Option Request). is_some call) (sym (call_pends number g.allocator.me g.allocator what node move request (members_of g.allocator) makes peer))
  where
    both : ((peer == node) ≡ true) ⊎ ((peer == node) ≡ false)
        → is_some (at g.allocator.times.sending node (Some (record { id = id_of g.allocator.ids what node; moment = g.allocator.now })) peer)
        ≡ is_some (at g.allocator.raft_server.memory.pending node (Some request) peer)
    both (inl here) = ap (λ (call : Option Sending). is_some call) (at_place g.allocator.times.sending node peer _ here)
        ∙ ap (λ (call : Option Request). is_some call) (sym (at_place g.allocator.raft_server.memory.pending node peer request here))
    both (inr other) = ap (λ (call : Option Sending). is_some call) (elsewhere g.allocator.times.sending node peer _ other) ∙ h peer
        ∙ ap (λ (call : Option Request). is_some call) (sym (elsewhere g.allocator.raft_server.memory.pending node peer request other))

kept_keeping : (number : ℕ) (event : Event) → Keeping number event Kept (λ d. ⊤)
kept_keeping number event = record {
  takes_keep = λ given moves g quiet decided h. kept_takes number given moves g quiet h;
  proposes_keep = λ given uid node g found h. h;
  sends_keep = λ what to payload says g sends h. h;
  calls_keep = λ what peer move request payload g makes fits h. kept_call number what peer move request payload g makes h;
  responds_keep = λ what d payload says g comes responds h. h;
  changes_keep = λ u g like h. same_kept g (with_allocator u g) like.raft_server like.times h;
  watches_keep = λ node happens g has h. h;
  tells_keep = λ g h. h;
  hears_keep = λ d message g comes kind other read h. h;
}

pub step_keeps_calls : (t : AllocatorState) (number : ℕ) (event : Event) → KeepsCalls t → KeepsCalls (step t number event).step_state.allocator
step_keeps_calls t number event h = step_keeps number event Kept (λ d. ⊤) (kept_keeping number event) t (λ arrival is d e. tt) h

pub opening_keeps_calls : (me : ℕ) (rules : Rules) (store : Store) (now word : ℕ) → KeepsCalls (opening_by me rules store now word)
opening_keeps_calls me rules store now word peer = by rules.told
  where
    by : (told : List ℕ) → is_some ((times_with told (opened_times now word)).sending peer) ≡ false
    by [] = refl
    by (node ∷ nodes) = refl

pub popped_keeps_calls : (t : AllocatorState) → KeepsCalls t → KeepsCalls (after_pop t)
popped_keeps_calls t h = h
