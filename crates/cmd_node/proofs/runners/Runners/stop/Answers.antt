use Rattle.std.proofs.Common.{◌≡◌, ◌+◌, ◌<◌, List, [], ◌∷◌, ◌++◌, length, length-append, length-set, take, drop, take-append-drop, append_assoc, refl, sym, ap, ◌∙◌, inl, inr, arith}
use Rattle.std.proofs.lemmas.Bool.Decides.{eqb_tells}
use Rattle.std.proofs.lemmas.List.{get_or-set_other, get_or-set_same, get_or_at, take-append-le, take_all}
use Rattle.std.specs.Prelude.{Some, None, slice_index_or, slice_set}
use Rattle.cmd_node.specs.Runners.{runners_of}
use Rattle.cmd_node.specs.Stands.{runner_disk}
use Rattle.cmd_node.specs.declared.runner.Runner.{Runner}
use Rattle.cmd_node.proofs.runners.Runners.stop.Goals as goal

-- the last of the first items was taken
module _ {A : Type 0} (all old new : List A) (x : A) (left : old ≡ take (length old) all) (is : old ≡ new ++ x ∷ []) where
  all_is : all ≡ new ++ (x ∷ drop (length old) all)
  all_is = sym (take-append-drop (length old) all) ∙ ap (λ l. l ++ drop (length old) all) (sym left ∙ is) ∙ append_assoc new (x ∷ []) (drop (length old) all)

  fewer_left : new ≡ take (length new) all
  fewer_left = sym (ap (take (length new)) all_is ∙ take-append-le (length new) new (x ∷ drop (length old) all) (omega arith) ∙ take_all (length new) new (omega arith))

  it_is : (d : A) → slice_index_or all (length new) d ≡ x
  it_is d = ap (λ l. slice_index_or l (length new) d) all_is ∙ get_or_at new x (drop (length old) all) d (length new) refl

  one_fewer : length old ≡ length new + 1
  one_fewer = ap length is ∙ length-append new (x ∷ [])

pub put_back-requires : goal.put_back-requires
put_back-requires g c =
    let so_far = c.stopping.invariant in
    let fewer = so_far.fewer in
    let places = so_far.places in
    let count = one_fewer (runners_of c.args.self) c.stopping.list.items c.pop.new.self.items c.in-Some.runner so_far.left c.in-Some.ensures.items in
    let size = ap length c.as_slice.ensures.value in
    let room = c.requires in
    omega (arith, fewer, places, count, size, room)

pub stopping-preserved : goal.stopping-preserved
stopping-preserved g c =
    let so_far = c.stopping.invariant in
    let fewer = so_far.fewer in
    let places = so_far.places in
    let all = runners_of c.args.self in
    let new = c.pop.new.self.items in
    let runner = c.in-Some.runner in
    let left = so_far.left in
    let was = c.in-Some.ensures.items in
    let count = one_fewer all c.stopping.list.items new runner left was in
    let room = c.requires in
    let place : length c.as_slice.result.now ≡ length new = ap length c.as_slice.ensures.value in
    let within : length new < length c.stopping.disks = omega (arith, fewer, places, count, room) in
    let disk = c.stop.result in
    let set = c.put_back.ensures ∙ ap (λ k. slice_set c.stopping.disks k (Some disk)) place in
    record {
      left = fewer_left all c.stopping.list.items new runner left was;
      fewer = omega (arith, fewer, count);
      places = ap length set ∙ length-set c.stopping.disks (length new) (Some disk) ∙ so_far.places;
      stopped = λ i d high low. ap (λ l. slice_index_or l i None) set ∙ elim (eqb_tells i (length new)) [
        | inl h ↦ ap (λ k. slice_index_or (slice_set c.stopping.disks (length new) (Some disk)) k None) h.1
            ∙ get_or-set_same c.stopping.disks (length new) (Some disk) None within ∙ ap Some c.stop.ensures
            ∙ ap (λ (r : Runner g.row.D.Denot g.row.F.Denot g.D.Disk). Some (runner_disk r)) (sym (it_is all c.stopping.list.items new runner left was d))
            ∙ ap (λ k. Some (runner_disk (slice_index_or all k d))) (sym h.1)
        | inr h ↦ get_or-set_other c.stopping.disks (length new) i (Some disk) None h.1
            ∙ so_far.stopped i d (let other = h.1 in omega (arith, count, high, other)) low
      ];
      others = λ i high. ap (λ l. slice_index_or l i None) set
          ∙ get_or-set_other c.stopping.disks (length new) i (Some disk) None (omega (arith, fewer, count, high)) ∙ so_far.others i high;
    }

pub returns : goal.returns
returns g c = record {
  stopped = record {
    stopped = λ i runner within. c.stopping.invariant.stopped i runner (let ok = c.stopping.list.ok in let none = c.in-None.ensures.cases.0 in omega (arith, ok, none)) within;
    others = c.stopping.invariant.others;
    places = c.stopping.invariant.places;
  };
}
