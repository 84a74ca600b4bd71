use Rattle.std.proofs.Common.{◌≡◌, ◌<◌, [], arith, ap, length, map, refl, sym, ◌∙◌, length-append}
use Rattle.std.specs.Prelude.{option_to_list}
use Rattle.std.proofs.lemmas.Grind.{common_steps}
use Rattle.std.proofs.lemmas.List.{length-map}
use Rattle.transfer_tx.specs.Queue.{left_behind, next_out}
use Rattle.transfer_tx.specs.Views.{queued_of}
use Rattle.transfer_tx.proofs.Kept.{length-in_order, none_kept, not_none, popped}
use Rattle.transfer_tx.proofs.sender.Sender.pop.Goals as goal

pub returns-then-is_empty-clause-next : goal.returns-then-is_empty-clause-next
unfolding next_out
returns-then-is_empty-clause-next g c =
    let none : length c.self.inside.frames.items ≡ 0 = grind (arith, common_steps) in
    let e : c.args.self.now ≡ [] = sym c.self.view_is ∙ none_kept c.self.inside.frames.items c.self.inside.earlier.items none in
    rw e refl

pub returns-then-is_empty-clause-rest : goal.returns-then-is_empty-clause-rest
unfolding left_behind
returns-then-is_empty-clause-rest g c =
    let none : length c.self.inside.frames.items ≡ 0 = grind (arith, common_steps) in
    let e : c.args.self.now ≡ [] = sym c.self.view_is ∙ none_kept c.self.inside.frames.items c.self.inside.earlier.items none in
    rw e refl

pub invariant_of-self : goal.invariant_of-self
invariant_of-self g c =
    let some : 0 < length c.self.inside.frames.items = grind (arith, common_steps) in
    (popped g.row.Q c.self.inside.frames.items c.pop-2.new.self.items c.self.inside.earlier.items c.pop.new.self.items c.pop-2.result
    c.self.invariant some c.pop-2.ensures.rest c.pop.ensures.rest c.pop-2.ensures.value).kept

pub returns-clause-next : goal.returns-clause-next
returns-clause-next g c =
    let some : 0 < length c.self.inside.frames.items = grind (arith, common_steps) in
    (popped g.row.Q c.self.inside.frames.items c.pop-2.new.self.items c.self.inside.earlier.items c.pop.new.self.items c.pop-2.result
    c.self.invariant some c.pop-2.ensures.rest c.pop.ensures.rest c.pop-2.ensures.value).next
    ∙ ap next_out c.self.view_is

pub returns-clause-rest : goal.returns-clause-rest
returns-clause-rest g c =
    let some : 0 < length c.self.inside.frames.items = grind (arith, common_steps) in
    (popped g.row.Q c.self.inside.frames.items c.pop-2.new.self.items c.self.inside.earlier.items c.pop.new.self.items c.pop-2.result
    c.self.invariant some c.pop-2.ensures.rest c.pop.ensures.rest c.pop-2.ensures.value).rest
    ∙ ap left_behind c.self.view_is

pub returns-clause-none : goal.returns-clause-none
returns-clause-none g c =
    let some : 0 < length c.self.inside.frames.items = grind (arith, common_steps) in
    let size = ap length c.self.view_is in
    let all = length-in_order (map queued_of c.self.inside.frames.items) c.self.inside.earlier.items in
    let each = length-map c.self.inside.frames.items queued_of in
    not_none c.self.inside.frames.items c.pop-2.result c.args.self.now some c.pop-2.ensures.value (omega arith)

pub returns-clause-count : goal.returns-clause-count
returns-clause-count g c = omega (
  arith,
  ap length c.self.view_is,
  length-in_order (map queued_of c.self.inside.frames.items) c.self.inside.earlier.items,
  length-in_order (map queued_of c.pop-2.new.self.items) c.pop.new.self.items,
  length-map c.self.inside.frames.items queued_of,
  length-map c.pop-2.new.self.items queued_of,
  ap length c.pop-2.ensures.items,
  length-append c.pop-2.new.self.items (option_to_list c.pop-2.result),
)
