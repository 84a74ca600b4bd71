-- The two ways in which a step goes on: it takes moves, and it offers transfers.
use Rattle.std.proofs.Common.{◌≡◌, ℕ, suc, Bool, true, false, List, [], ◌∷◌, ◌++◌, length, map, refl, sym, ap, ◌∙◌, Option, None}
use Rattle.std.specs.Prelude.{◌+◌, nat_le, if◌then◌else◌}
use Rattle.std.proofs.lemmas.List.{length-map}
use Rattle.can_frame.specs.declared.step.What.{What}
use Rattle.can_frame.specs.Cutting.{Piece, frame_bytes, frame_count, frames_of}
use Rattle.raft_core.specs.Times.{HandedIn}
use Rattle.raft_model.specs.Messages.{Message}
use Rattle.raft_model.specs.Moves.{Move}
use Rattle.transfer_rx.specs.Unmarked.{no_mark, unmarked}
use Rattle.transfer_tx.specs.declared.outgoing.Outgoing.{Outgoing}
use Rattle.transfer_tx.specs.Queue.{Queued, marked, queued_frames}
use Rattle.alloc_spec.specs.StepState.{StepState, with_response, with_transfer, with_moves}
use Rattle.alloc_spec.specs.Outbox.{counted_if, queued_if}
use Rattle.alloc_spec.specs.AllocatorState.{members_of}
use Rattle.alloc_spec.specs.Transfers.{Ids, Offer, has_room, id_of, outgoing}
use Rattle.alloc_ghost_erasure.specs.Unmarked.{unmarked_frame, unmarked_step_state, unmarked_offer, unmarked_raft_server, unmarked_server}
use Rattle.alloc_ghost_erasure.proofs.Twice.{joined_same, twice, twice_frames, twice_offers, twice_raft_server, twice_sessions}
use Rattle.alloc_ghost_erasure.proofs.Moves.{all_puts_same, all_times_same, plains_same, unnumbered_move}

-- the two steps differ in marks and numbers alone
abbrev pub Same : StepState → StepState → Type 0
Same g h = unmarked_step_state g ≡ unmarked_step_state h

pub itself : (g : StepState) → Same g (unmarked_step_state g)
itself g = sym (twice g)

pub cond_same : (b : Bool) (x y v w : StepState) → Same x v → Same y w → Same (if b then x else y) (if b then v else w)
cond_same true x y v w e f = e
cond_same false x y v w e f = f

-- what does not look at marks is the same of whatever differs in them alone
pub lift : (F : ℕ → StepState → StepState) → ((s r : ℕ) (g : StepState) → Same (F s g) (F r (unmarked_step_state g))) → (s r : ℕ) (g h : StepState) → Same g h → Same (F s g) (F r h)
lift F hom s r g h e = hom s 0 g ∙ ap (λ (x : StepState). unmarked_step_state (F 0 x)) e ∙ sym (hom r 0 h)

-- ---- transfers

marked_same : (id s re r other place : ℕ) (pieces : List Piece) → map unmarked_frame (marked id s re place pieces) ≡ map unmarked_frame (marked id r other place pieces)
marked_same id s re r other place [] = refl
marked_same id s re r other place (piece ∷ pieces) =
    ap (λ (l : List Queued). (record { id = id; bytes = frame_bytes piece; mark = no_mark }) ∷ l) (marked_same id s re r other (suc place) pieces)

frames_same : (what : Outgoing) (s re r other : ℕ) → map unmarked_frame (queued_frames what s re) ≡ map unmarked_frame (queued_frames what r other)
unfolding queued_frames
frames_same what s re r other = marked_same _ s re r other 0 (frames_of what.signature what.id what.payload.items)

pub room_same : (queue : List Queued) (payload : List ℕ) → has_room (map unmarked_frame queue) payload ≡ has_room queue payload
room_same queue payload = ap (λ (n : ℕ). nat_le (n + frame_count (length payload)) 32) (length-map queue unmarked_frame)

-- a transfer that is offered, and goes into the queue where it fits
abbrev offered_as : ℕ → What → ℕ → ℕ → List ℕ → ℕ → Option Message → Ids → Bool → StepState → StepState
offered_as step what to id payload re says ids fitted g = record g {
  allocator = record g.allocator {
    queue = queued_if fitted g.allocator.queue (queued_frames (outgoing g.allocator.me what to id payload) step re);
    ids = ids;
  };
  offers = g.offers ++ (record { what = what; to = to; id = id; payload = payload; re = re; says = says; fitted = fitted } ∷ []);
}

queue_same : (b : Bool) (queue frames others : List Queued) → map unmarked_frame frames ≡ map unmarked_frame others
    → map unmarked_frame (queued_if b queue frames) ≡ map unmarked_frame (queued_if b (map unmarked_frame queue) others)
queue_same true queue frames others e = joined_same unmarked_frame (λ f. refl) queue frames others e
queue_same false queue frames others e = sym (twice_frames queue)

offered_same : (s r : ℕ) (what : What) (to id : ℕ) (payload : List ℕ) (re other : ℕ) (says said : Option Message) (ids : Ids) (b : Bool) (g : StepState)
    → Same (offered_as s what to id payload re says ids b g) (offered_as r what to id payload other said ids b (unmarked_step_state g))
offered_same s r what to id payload re other says said ids b g = λ i. record {
  allocator = record (unmarked_server g.allocator) {
    raft_server = raft_server i;
    sessions = sessions i;
    queue = queue i;
    ids = ids;
  };
  moves = [];
  puts = g.puts;
  offers = offers i;
}
  where
    raft_server : unmarked_raft_server g.allocator.raft_server ≡ unmarked_raft_server (unmarked_raft_server g.allocator.raft_server)
    raft_server = sym (twice_raft_server g.allocator.raft_server)

    sessions : map unmarked g.allocator.sessions ≡ map unmarked (map unmarked g.allocator.sessions)
    sessions = sym (twice_sessions g.allocator.sessions)

    queue : map unmarked_frame (queued_if b g.allocator.queue (queued_frames (outgoing g.allocator.me what to id payload) s re))
        ≡ map unmarked_frame (queued_if b (map unmarked_frame g.allocator.queue) (queued_frames (outgoing g.allocator.me what to id payload) r other))
    queue = queue_same b g.allocator.queue _ _ (frames_same (outgoing g.allocator.me what to id payload) s re r other)

    old : Offer
    old = record { what = what; to = to; id = id; payload = payload; re = re; says = says; fitted = b }

    new : Offer
    new = record { what = what; to = to; id = id; payload = payload; re = other; says = said; fitted = b }

    offers : map unmarked_offer (g.offers ++ old ∷ []) ≡ map unmarked_offer (map unmarked_offer g.offers ++ new ∷ [])
    offers = joined_same unmarked_offer (λ o. refl) g.offers (old ∷ []) (new ∷ []) refl

pub sends_same : (s r : ℕ) (what : What) (to : ℕ) (payload : List ℕ) (says said : Option Message) (g : StepState)
    → Same (with_transfer s what to payload says g) (with_transfer r what to payload said (unmarked_step_state g))
sends_same s r what to payload says said g =
    offered_same s r what to (id_of g.allocator.ids what to) payload 0 0 says said _ (has_room g.allocator.queue payload) g
    ∙ ap (λ (b : Bool). unmarked_step_state (offered_as r what to (id_of g.allocator.ids what to) payload 0 said (counted_if b what to g.allocator.ids) b (unmarked_step_state g)))
    (sym (room_same g.allocator.queue payload))

answers_one : (s r : ℕ) (what : What) (to id : ℕ) (payload : List ℕ) (re other : ℕ) (says said : Option Message) (g : StepState)
    → Same (with_response s what to id payload re says g) (with_response r what to id payload other said (unmarked_step_state g))
answers_one s r what to id payload re other says said g =
    offered_same s r what to id payload re other says said g.allocator.ids (has_room g.allocator.queue payload) g
    ∙ ap (λ (b : Bool). unmarked_step_state (offered_as r what to id payload other said g.allocator.ids b (unmarked_step_state g))) (sym (room_same g.allocator.queue payload))

pub answers_same : (s r : ℕ) (what : What) (to id : ℕ) (payload : List ℕ) (re other : ℕ) (says said : Option Message) (g h : StepState) → Same g h
    → Same (with_response s what to id payload re says g) (with_response r what to id payload other said h)
answers_same s r what to id payload re other says said g h e =
    answers_one s 0 what to id payload re 0 says None g
    ∙ ap (λ (x : StepState). unmarked_step_state (with_response 0 what to id payload 0 None x)) e
    ∙ sym (answers_one r 0 what to id payload other 0 said None h)

-- ---- moves

takes_one : (s r : ℕ) (given : HandedIn) (moves : List Move) (g : StepState) → Same (with_moves s given moves g) (with_moves r given (map unnumbered_move moves) (unmarked_step_state g))
takes_one s r given moves g = λ i. record {
  allocator = record (unmarked_server g.allocator) {
    raft_server = plains_same (members_of g.allocator) g.allocator.me s r given moves g.allocator.raft_server (unmarked_raft_server g.allocator.raft_server) raft_server i;
    times = all_times_same (members_of g.allocator) g.allocator.me s r given moves g.allocator.raft_server (unmarked_raft_server g.allocator.raft_server) g.allocator.times raft_server i;
    sessions = sessions i;
    queue = queue i;
  };
  moves = [];
  puts = g.puts ++ all_puts_same (members_of g.allocator) g.allocator.me s r given moves g.allocator.raft_server (unmarked_raft_server g.allocator.raft_server) raft_server i;
  offers = offers i;
}
  where
    raft_server : unmarked_raft_server g.allocator.raft_server ≡ unmarked_raft_server (unmarked_raft_server g.allocator.raft_server)
    raft_server = sym (twice_raft_server g.allocator.raft_server)

    sessions : map unmarked g.allocator.sessions ≡ map unmarked (map unmarked g.allocator.sessions)
    sessions = sym (twice_sessions g.allocator.sessions)

    queue : map unmarked_frame g.allocator.queue ≡ map unmarked_frame (map unmarked_frame g.allocator.queue)
    queue = sym (twice_frames g.allocator.queue)

    offers : map unmarked_offer g.offers ≡ map unmarked_offer (map unmarked_offer g.offers)
    offers = sym (twice_offers g.offers)

-- moves that differ in the numbers of steps alone
abbrev pub SameMoves : List Move → List Move → Type 0
SameMoves moves others = map unnumbered_move moves ≡ map unnumbered_move others

pub takes_same : (s r : ℕ) (given : HandedIn) (moves others : List Move) (g h : StepState) → SameMoves moves others → Same g h
    → Same (with_moves s given moves g) (with_moves r given others h)
takes_same s r given moves others g h m e =
    takes_one s 0 given moves g
    ∙ (λ i. unmarked_step_state (with_moves 0 given (m i) (e i)))
    ∙ sym (takes_one r 0 given others h)
