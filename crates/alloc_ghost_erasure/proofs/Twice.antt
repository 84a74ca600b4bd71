-- Marks that are gone are gone: a second time nothing changes.
use Rattle.std.proofs.Common.{◌≡◌, List, [], ◌∷◌, ◌++◌, map, refl, sym, ◌∙◌, Option, Some, None}
use Rattle.std.proofs.lemmas.List.{map-append}
use Rattle.raft_model.specs.Messages.{Request}
use Rattle.raft_model.specs.Server.{Memory, RaftServer}
use Rattle.transfer_rx.specs.Sessions.{Session}
use Rattle.transfer_rx.specs.Unmarked.{unmarked}
use Rattle.transfer_tx.specs.Queue.{Queued}
use Rattle.alloc_spec.specs.StepState.{StepState}
use Rattle.alloc_spec.specs.AllocatorState.{AllocatorState}
use Rattle.alloc_spec.specs.Transfers.{Offer}
use Rattle.alloc_ghost_erasure.specs.Unmarked.{unmarked_frame, unmarked_step_state, unmarked_memory, unmarked_offer, unmarked_raft_server, unmarked_server, unnumbered_call}

pub map_twice : {A : Type 0} (f : A → A) → ((x : A) → f (f x) ≡ f x) → (xs : List A) → map f (map f xs) ≡ map f xs
map_twice f h [] = refl
map_twice f h (x ∷ xs) = λ i. h x i ∷ map_twice f h xs i

pub twice_call : (call : Option Request) → unnumbered_call (unnumbered_call call) ≡ unnumbered_call call
twice_call None = refl
twice_call (Some request) = refl

pub twice_memory : (memory : Memory) → unmarked_memory (unmarked_memory memory) ≡ unmarked_memory memory
twice_memory memory = λ i. record memory { pending = λ peer. twice_call (memory.pending peer) i }

pub twice_raft_server : (raft_server : RaftServer) → unmarked_raft_server (unmarked_raft_server raft_server) ≡ unmarked_raft_server raft_server
twice_raft_server raft_server = λ i. record raft_server { memory = twice_memory raft_server.memory i }

pub twice_sessions : (sessions : List Session) → map unmarked (map unmarked sessions) ≡ map unmarked sessions
twice_sessions sessions = map_twice unmarked (λ s. refl) sessions

pub twice_frames : (frames : List Queued) → map unmarked_frame (map unmarked_frame frames) ≡ map unmarked_frame frames
twice_frames frames = map_twice unmarked_frame (λ f. refl) frames

pub twice_offers : (offers : List Offer) → map unmarked_offer (map unmarked_offer offers) ≡ map unmarked_offer offers
twice_offers offers = map_twice unmarked_offer (λ o. refl) offers

pub twice_server : (t : AllocatorState) → unmarked_server (unmarked_server t) ≡ unmarked_server t
twice_server t = λ i. record t { raft_server = twice_raft_server t.raft_server i; sessions = twice_sessions t.sessions i; queue = twice_frames t.queue i }

pub twice : (g : StepState) → unmarked_step_state (unmarked_step_state g) ≡ unmarked_step_state g
twice g = λ i. record { allocator = twice_server g.allocator i; moves = []; puts = g.puts; offers = twice_offers g.offers i }

-- items behind a list whose marks are gone
pub joined_same : {A : Type 0} (f : A → A) → ((x : A) → f (f x) ≡ f x) → (xs ys zs : List A) → map f ys ≡ map f zs
    → map f (xs ++ ys) ≡ map f (map f xs ++ zs)
joined_same f h xs ys zs e =
    map-append f xs ys ∙ (λ i. back i ++ e i) ∙ sym (map-append f (map f xs) zs)
  where
    back : map f xs ≡ map f (map f xs)
    back = sym (map_twice f h xs)
