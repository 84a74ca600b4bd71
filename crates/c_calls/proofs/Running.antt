-- A list of calls by induction: each is the step that it asks for, under the number that follows.
use Rattle.std.proofs.Common.{◌≡◌, ℕ, suc, List, [], ◌∷◌, length, refl, sym, ap, subst, inl, arith, Option, None, Some}
use Rattle.std.specs.Prelude.{MatchOption}
use Rattle.alloc_server.specs.Server.{StandsFor, durable_of}
use Rattle.alloc_spec.specs.AllocatorState.{AllocatorState, opening}
use Rattle.alloc_spec.specs.Step.{Rx}
use Rattle.raft_core.specs.StoredPuts.{store_of}
use Rattle.raft_log.specs.DurableViews.{durable_state}
use Rattle.c_calls.specs.declared.node.Node.{Node}
use Rattle.c_calls.specs.At.{Calls, Steps as IsStep, Hears as IsHeard, IsAt, heard, low}
use Rattle.c_calls.specs.Runs.{Call, Made, Run, Ticks, Hears, Learns, Takes, Tells, after_call, after_calls, counted}

step_of_heard : (old new : Node) (now a b : ℕ) → IsHeard old new now a b 0 → IsStep old new (Rx (heard now a b)) 0
step_of_heard old new now a b h = h.steps (h.is_frame (omega arith))

-- the number of the last step
next_number : (call : Call) (old new : Node) → Made call old new → new.steps ≡ counted call old.steps
next_number (Ticks now a b) old new made = (made.ticks refl).counted (inl refl)
next_number (Hears now a b) old new made = (step_of_heard old new now a b (made.hears refl)).counted (inl refl)
next_number (Learns now a b) old new made = (made.learns refl).steps
next_number (Takes now a b result) old new made = (made.takes refl).steps
next_number (Tells op now a b result) old new made = ap (λ (node : Node). node.steps) (made.1.kept made.0)

one_call : (call : Call) (old new : Node) (t : AllocatorState) → Made call old new → IsAt old t →
    IsAt new (after_call call new.steps t)
one_call (Ticks now a b) old new t made is = (made.ticks refl).done refl t is
one_call (Hears now a b) old new t made is = (step_of_heard old new now a b (made.hears refl)).done refl t is
one_call (Learns now a b) old new t made is = (made.learns refl).done refl t is
one_call (Takes now a b result) old new t made is = (made.takes refl).rest t is
one_call (Tells op now a b result) old new t made is =
    subst (λ (node : Node). IsAt node t) (sym (made.1.kept made.0)) is

pub all_calls : (calls : List Call) (at : ℕ → Node) (t : AllocatorState) → Run calls at → IsAt (at 0) t →
    IsAt (at (length calls)) (after_calls calls (at 0).steps t)
all_calls [] at t run is = is
all_calls (call ∷ calls) at t run is =
    subst (λ (n : ℕ). IsAt (at (suc (length calls))) (after_calls calls n (after_call call n t)))
    (next_number call (at 0) (at 1) run.0)
    (all_calls calls (λ k. at (suc k)) (after_call call (at 1).steps t) run.1 (one_call call (at 0) (at 1) t run.0 is))

matched : {A : Type 0} (o : Option A) (P Q : A → Type 0) → ((x : A) → o ≡ Some x → P x → Q x) → MatchOption o ⊥ P →
    MatchOption o ⊥ Q
matched None P Q f is = is
matched (Some x) P Q f is = f x refl is

pub from_opening : (calls : List Call) (at : ℕ → Node) (closed : Node) (now a b : ℕ) →
    Calls closed (at 0) 1 now a b 0 → Run calls at →
    MatchOption (at 0).server ⊥ (λ server. IsAt (at (length calls)) (after_calls calls (at 0).steps
    (opening closed.id closed.size (store_of (durable_state (durable_of server))) now (low a))))
from_opening calls at closed now a b opened run =
    matched (at 0).server _ _ (λ server is stands. all_calls calls at
    (opening closed.id closed.size (store_of (durable_state (durable_of server))) now (low a)) run
    (subst (λ o. MatchOption o ⊥ (λ s. StandsFor s
    (opening closed.id closed.size (store_of (durable_state (durable_of server))) now (low a)))) (sym is) stands))
    ((opened.opens refl).done refl)
