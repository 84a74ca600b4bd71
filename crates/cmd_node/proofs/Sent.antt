-- What is sent only grows, from turn to turn.
use Rattle.std.proofs.Common.{◌≡◌, ℕ, zero, suc, ◌<◌, ◌≤◌, List, [], ◌∷◌, ◌++◌, length, append-nil, append_assoc, refl, sym, ap, ◌∙◌, subst, inl, inr, arith}
use Rattle.std.proofs.Math.Seq.{take-append_seam}
use Rattle.std.proofs.lemmas.Bool.Decides.{eqb_tells, leb_tells}
use Rattle.std.specs.Prelude.{Option, Some, None, take}
use Rattle.can_frame.specs.Log.{IsPrefix}
use Rattle.outside.specs.declared.received.RawFrame.{RawFrame}
use Rattle.outside.specs.Readings.{next_reading}
use Rattle.outside.specs.Traffic.{items_behind, next_item}
use Rattle.raft_model.specs.Lists.{at_here, at_other}
use Rattle.alloc_spec.specs.Step.{Event}
use Rattle.transfer_tx.specs.Queue.{Queued, next_out}
use Rattle.cmd_node.specs.Frames.{event_in, raw_of}
use Rattle.cmd_node.specs.Turn.{Turning, turn_after_hearing, turn_after_sending, turn_after_frame, turn_after_taking, turn_after_tick, turn}
use Rattle.cmd_node.specs.Turns.{Together, all_turns, first_turns, turning_after, turning_at}

abbrev pub Grows : List RawFrame → List RawFrame → Type 0
Grows xs ys = (rest : List RawFrame) × (ys ≡ xs ++ rest)

same : (xs : List RawFrame) → Grows xs xs
same xs = ([], sym (append-nil xs))

then : (xs ys zs : List RawFrame) → Grows xs ys → Grows ys zs → Grows xs zs
then xs ys zs p q = (p.0 ++ q.0, q.1 ∙ ap (λ l. l ++ q.0) p.1 ∙ append_assoc xs p.0 q.0)

pub begins : (xs ys : List RawFrame) → Grows xs ys → IsPrefix xs ys
begins xs ys p = ap (take (length xs)) p.1 ∙ take-append_seam xs p.0

takes_keep : (next : Option Event) (t : Turning) → (turn_after_taking next t).running.sent ≡ t.running.sent
takes_keep None t = refl
takes_keep (Some event) t = refl

sends_grow : (next : Option Queued) (t : Turning) → Grows t.running.sent (turn_after_frame next t).running.sent
sends_grow None t = same t.running.sent
sends_grow (Some frame) t = (raw_of frame ∷ [], refl)

turn_grows : (moment : ℕ) (t : Turning) → Grows t.running.sent (turn moment t).running.sent
unfolding turn
turn_grows moment t =
    let ticked = turn_after_tick moment t in
    let heard = turn_after_hearing moment ticked in
    let after = record ticked { running = record ticked.running { coming = items_behind ticked.running.coming } } in
    let kept : heard.running.sent ≡ t.running.sent = takes_keep (event_in moment (next_item ticked.running.coming)) after in
    subst (λ l. Grows l (turn_after_sending heard).running.sent) kept (sends_grow (next_out heard.running.allocator.queue) heard)

-- of each, when the next one takes its turn, and when more of them do
one_grows : (n : ℕ) (all : Together) (i : ℕ) → Grows ((first_turns n all).running i).sent ((first_turns (suc n) all).running i).sent
one_grows n all i =
    let before = first_turns n all in
    let done = (turning_after n before).running in
    elim (eqb_tells i n) [
      | inl h ↦ subst (λ r. Grows (before.running i).sent r.sent) (sym (at_here before.running n i done h.1))
          (subst (λ k. Grows (before.running k).sent done.sent) (sym h.1) (turn_grows (next_reading before.readings) (turning_at n before)))
      | inr h ↦ subst (λ r. Grows (before.running i).sent r.sent) (sym (at_other before.running n i done h.1)) (same (before.running i).sent)
    ]

more_grow : (place n : ℕ) (all : Together) (i : ℕ) → place ≤ n → Grows ((first_turns place all).running i).sent ((first_turns n all).running i).sent
more_grow place zero all i few =
    let none : place ≡ 0 = omega (arith, few) in
    subst (λ k. Grows ((first_turns k all).running i).sent (all.running i).sent) (sym none) (same (all.running i).sent)
more_grow place (suc n) all i few = elim (leb_tells place n) [
  | inl h ↦ then ((first_turns place all).running i).sent ((first_turns n all).running i).sent ((first_turns (suc n) all).running i).sent
      (more_grow place n all i h.1) (one_grows n all i)
  | inr h ↦ let over = h.1 in
      let last : suc n ≡ place = omega (arith, few, over) in
      subst (λ k. Grows ((first_turns k all).running i).sent ((first_turns (suc n) all).running i).sent) last (same ((first_turns (suc n) all).running i).sent)
]

-- when all take more turns
turns_grow : (count taken turns : ℕ) (all : Together) (i : ℕ) → taken ≤ turns → Grows ((all_turns count taken all).running i).sent ((all_turns count turns all).running i).sent
turns_grow count taken zero all i few =
    let none : taken ≡ 0 = omega (arith, few) in
    subst (λ k. Grows ((all_turns count k all).running i).sent (all.running i).sent) (sym none) (same (all.running i).sent)
turns_grow count taken (suc turns) all i few = elim (leb_tells taken turns) [
  | inl h ↦ let so_far = all_turns count turns all in
      then ((all_turns count taken all).running i).sent (so_far.running i).sent ((first_turns count so_far).running i).sent
      (turns_grow count taken turns all i h.1) (more_grow 0 count so_far i (omega arith))
  | inr h ↦ let over = h.1 in
      let last : suc turns ≡ taken = omega (arith, few, over) in
      subst (λ k. Grows ((all_turns count k all).running i).sent ((all_turns count (suc turns) all).running i).sent) last (same ((all_turns count (suc turns) all).running i).sent)
]

pub all_begin : (count turns : ℕ) (all : Together) (i : ℕ) → IsPrefix (all.running i).sent ((all_turns count turns all).running i).sent
all_begin count turns all i = begins (all.running i).sent ((all_turns count turns all).running i).sent (turns_grow count 0 turns all i (omega arith))

pub cut_begins : (count taken turns place : ℕ) (all : Together) (i : ℕ) → place < count → taken < turns →
    IsPrefix ((first_turns place (all_turns count taken all)).running i).sent ((all_turns count turns all).running i).sent
cut_begins count taken turns place all i within fewer =
    let before = all_turns count taken all in
    begins ((first_turns place before).running i).sent ((all_turns count turns all).running i).sent
    (then ((first_turns place before).running i).sent ((first_turns count before).running i).sent ((all_turns count turns all).running i).sent
    (more_grow place count before i (omega (arith, within))) (turns_grow count (suc taken) turns all i (omega (arith, fewer))))
