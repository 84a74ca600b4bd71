-- Of forty Allocations within half a second an allocatee may hear thirty-two.
use Rattle.std.proofs.Common.{◌≡◌, ◌≤◌, ◌<◌, ◌+◌, ◌%◌, ℕ, zero, suc, List, [], ◌∷◌, ◌++◌, refl, subst, ap, inl, inr, arith}
use Rattle.raft_model.specs.Lists.{In}
use Rattle.transfer_tx.specs.Queue.{Queued}
use Rattle.alloc_spec.specs.Transfers.{SentTransfer}
use Rattle.bus_agreement.proofs.Lists.{in_append, in_back}
use Rattle.bus_physics.specs.Burst.{frame_numbered, frames_numbered, numbered, numbered_from, ticks_from}
use Rattle.bus_physics.specs.Example.{limits}
use Rattle.bus_physics.specs.Physics.{AllocatesApart, HasComeOf}

-- ---- what is among them

record IsNumbered (first more : ℕ) (x : SentTransfer) : Type 0 where
  k : ℕ
  low : first ≤ k
  high : k < first + more
  is : x ≡ numbered k

made_is : (first more : ℕ) (x : SentTransfer) → In x (numbered_from first more) → IsNumbered first more x
made_is first zero x i = absurd i
made_is first (suc more) x (inl e) = record { k = first; low = omega (arith); high = omega (arith); is = e }
made_is first (suc more) x (inr i) =
    let it = made_is (first + 1) more x i in
    let low = it.low in
    let high = it.high in
    record { k = it.k; low = omega (arith, low); high = omega (arith, high); is = it.is }

-- a frame with one of so many numbers
record IsWithin (first more : ℕ) (f : Queued) : Type 0 where
  low : first < f.mark.step
  high : f.mark.step ≤ first + more

frame_step : (first more : ℕ) (f : Queued) → In f (frames_numbered first more) → IsWithin first more f
frame_step first zero f i = absurd i
frame_step first (suc more) f (inl e) =
    let step = ap (λ (g : Queued). g.mark.step) e in record { low = omega (arith, step); high = omega (arith, step) }
frame_step first (suc more) f (inr i) =
    let it = frame_step (first + 1) more f i in
    let low = it.low in
    let high = it.high in
    record { low = omega (arith, low); high = omega (arith, high) }

step_by : (first : ℕ) (f : Queued) → In f (frames_numbered first 31 ++ frame_numbered (first + 31) ∷ []) → IsWithin first 32 f
step_by first f i = elim (in_append f (frames_numbered first 31) (frame_numbered (first + 31) ∷ []) i) as (λ _. IsWithin first 32 f) [
  | inl j ↦
      let it = frame_step first 31 f j in
      let low = it.low in
      let high = it.high in
      record { low = low; high = omega (arith, high) }
  | inr (inl e) ↦
      let step = ap (λ (g : Queued). g.mark.step) e in record { low = omega (arith, step); high = omega (arith, step) }
  | inr (inr j) ↦ absurd j
]

pub thirty_two_heard : (first : ℕ) → AllocatesApart limits (ticks_from 0 40) (numbered_from 0 40) (frames_numbered first 31) (frame_numbered (first + 31)) ⊥
thirty_two_heard first x y i j what what_too by id less recent recent_too come come_too =
    let a = made_is 0 40 x i in
    let b = made_is 0 40 y j in
    let step_a = ap (λ (z : SentTransfer). z.step) a.is in
    let step_b = ap (λ (z : SentTransfer). z.step) b.is in
    let id_a = ap (λ (z : SentTransfer). z.offer.id) a.is in
    let id_b = ap (λ (z : SentTransfer). z.offer.id) b.is in
    let within_a = step_by first come.frame come.came in
    let within_b = step_by first come_too.frame come_too.came in
    let low = within_a.low in
    let high = within_b.high in
    absurd (omega (arith, less, step_a, step_b, id_a, id_b, id, low, high, come.step, come_too.step))

-- ---- one more

made_at : (k first more : ℕ) → k < more → In (numbered (first + k)) (numbered_from first more)
made_at k first zero less = absurd (omega (arith, less))
made_at zero first (suc more) less = inl (ap numbered (let e : first + 0 ≡ first = omega (arith) in e))
made_at (suc k) first (suc more) less =
    inr (subst (λ (n : ℕ). In (numbered n) (numbered_from (first + 1) more))
    (let e : first + 1 + k ≡ first + suc k = omega (arith) in e) (made_at k (first + 1) more (omega (arith, less))))

come_of : (heard : List Queued) (k : ℕ) → In (frame_numbered k) heard → HasComeOf heard (numbered k)
come_of heard k there = record {
  frame = frame_numbered k;
  came = there;
  ident = refl;
  step = refl;
  id = let low : (192 + k % 32) % 32 ≡ k % 32 = omega (arith) in low;
}

pub one_more_breaks_it : AllocatesApart limits (ticks_from 0 40) (numbered_from 0 40) (frames_numbered 0 32) (frame_numbered 32) ⊥ → ⊥
one_more_breaks_it apart =
    elim (apart (numbered 0) (numbered 32) (made_at 0 0 40 (omega arith)) (made_at 32 0 40 (omega arith)) refl refl refl
    refl (omega arith) (omega arith) (omega arith)
    (come_of (frames_numbered 0 32 ++ frame_numbered 32 ∷ []) 0 (inl refl))
    (come_of (frames_numbered 0 32 ++ frame_numbered 32 ∷ []) 32
    (in_back (frame_numbered 32) (frames_numbered 0 32) (frame_numbered 32 ∷ []) (inl refl)))) [
      | inl (inl far) ↦ absurd (omega (arith, far))
      | inl (inr far) ↦ absurd (omega (arith, far))
      | inr part ↦ absurd part.0
    ]
