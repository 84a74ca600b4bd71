use Rattle.std.proofs.Common.{ℕ, subst, ◌<◌, ◌≤◌, ◌++◌, ◌∷◌, [], arith, ap, length, map, ◌∙◌, rules, length-append}
use Rattle.std.proofs.lemmas.List.{length-map}
use Rattle.transfer_tx.specs.Queue.{id_at}
use Rattle.transfer_tx.specs.Views.{queued_of}
use Rattle.transfer_tx.proofs.Kept.{length-in_order, put_to}
use Rattle.transfer_tx.proofs.sender.Sender.put.Goals as goal

pub insert-requires : goal.insert-requires
insert-requires g c =
    let length_is = ap length c.self.view_is in
    let all = length-in_order (map queued_of c.self.inside.frames.items) c.self.inside.earlier.items in
    let each = length-map c.self.inside.frames.items queued_of in
    let kept = ap length c.as_slice.ensures.value in
    (search rules, (omega arith, omega arith))

pub insert-requires-2 : goal.insert-requires-2
insert-requires-2 g c =
    let length_is = ap length c.self.view_is in
    let all = length-in_order (map queued_of c.self.inside.frames.items) c.self.inside.earlier.items in
    let each = length-map c.self.inside.frames.items queued_of in
    let kept = ap length c.as_slice.ensures.value in
    let same = c.self.invariant.same in
    (search rules, (omega arith, omega arith))

pub invariant_of-self : goal.invariant_of-self
invariant_of-self g c =
    let length_is = ap length c.self.view_is in
    let all = length-in_order (map queued_of c.self.inside.frames.items) c.self.inside.earlier.items in
    let each = length-map c.self.inside.frames.items queued_of in
    let kept = ap length c.as_slice.ensures.value in
    (put_to g.row.Q c.place_for-place.result c.args.marked c.self.inside.frames.items c.insert.new.self.items c.self.inside.earlier.items c.insert-2.new.self.items
    c.self.invariant (omega arith) (omega arith)
    (subst (λ frames. (k : ℕ) → k < c.place_for-place.result → c.args.marked.frame.id < id_at (map queued_of frames) k) c.as_slice.ensures.value c.place_for-place.ensures.after)
    (subst (λ frames. c.place_for-place.result < length frames → id_at (map queued_of frames) c.place_for-place.result ≤ c.args.marked.frame.id) c.as_slice.ensures.value c.place_for-place.ensures.before)
    c.insert.ensures.items c.insert-2.ensures.items).0

pub returns-clause-frames : goal.returns-clause-frames
returns-clause-frames g c =
    let length_is = ap length c.self.view_is in
    let all = length-in_order (map queued_of c.self.inside.frames.items) c.self.inside.earlier.items in
    let each = length-map c.self.inside.frames.items queued_of in
    let kept = ap length c.as_slice.ensures.value in
    (put_to g.row.Q c.place_for-place.result c.args.marked c.self.inside.frames.items c.insert.new.self.items c.self.inside.earlier.items c.insert-2.new.self.items
    c.self.invariant (omega arith) (omega arith)
    (subst (λ frames. (k : ℕ) → k < c.place_for-place.result → c.args.marked.frame.id < id_at (map queued_of frames) k) c.as_slice.ensures.value c.place_for-place.ensures.after)
    (subst (λ frames. c.place_for-place.result < length frames → id_at (map queued_of frames) c.place_for-place.result ≤ c.args.marked.frame.id) c.as_slice.ensures.value c.place_for-place.ensures.before)
    c.insert.ensures.items c.insert-2.ensures.items).1
    ∙ ap (λ queue. queue ++ queued_of c.args.marked ∷ []) c.self.view_is

pub returns-clause-count : goal.returns-clause-count
returns-clause-count g c = ap length (returns-clause-frames g c) ∙ length-append c.args.self.now (queued_of c.args.marked ∷ [])
