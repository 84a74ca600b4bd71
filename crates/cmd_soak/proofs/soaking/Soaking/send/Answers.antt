use Rattle.std.proofs.Common.{◌≡◌, ◌-◌, ◌∙◌, suc, refl, subst, sym, arith}
use Rattle.bus_rows.specs.declared.row.Row.TheVariants.{Send}
use Rattle.cmd_soak.specs.Soaking.{Tries}
use Rattle.cmd_soak.proofs.Standing.{begins_sending, ends_sending, goes_on_sending, room_after, sends_none, stops_sending}
use Rattle.cmd_soak.proofs.soaking.Soaking.send.Goals as goal

pub returns-then-not-shows-clause-stands : goal.returns-then-not-shows-clause-stands
returns-then-not-shows-clause-stands g c = λ s is. sends_none c.args.n s c.args.self.now (sym (c.shows.ensures s is) ∙ c.if-not-shows.true) is

pub loop-left-init : goal.loop-left-init
loop-left-init g c = record {
  sending = λ s is. begins_sending c.args.n s c.args.self.now is;
  few = omega arith;
  keeps = record { room = refl; accepts = refl; allocatees = refl };
}

pub take-requires-clause-room : goal.take-requires-clause-room
take-requires-clause-room g c =
    let room = c.requires.room in
    let left = c.loop-left.left in
    let so_far = c.loop-left.invariant in
    let far = so_far.sending room.now room.stands in
    let some = c.loop-left-test.true in
    let few = so_far.few in
    room_after c.args.self.now c.loop-left.self 8 8 (8 - left) (8 - left) 1 1 room.now far.after far.stands so_far.keeps.room room.fits far.grown
    (omega (arith, some, few)) (omega (arith, some, few))

pub returns-then-not-take-clause-stands : goal.returns-then-not-take-clause-stands
returns-then-not-take-clause-stands g c = λ s is.
    let far = c.loop-left.invariant.sending s is in
    let tried = subst (λ b. Tries b (Send c.args.n) far.after c.take.new.self) c.if-not-take.true (c.take.ensures.tries far.after far.stands) in
    stops_sending c.args.n c.loop-left.left s c.loop-left.self c.take.new.self (sym (c.shows.ensures s is) ∙ c.if-not-shows.false)
    c.loop-left-test.true far tried

pub loop-left-preserved : goal.loop-left-preserved
loop-left-preserved g c =
    let left = c.loop-left.left in
    let so_far = c.loop-left.invariant in
    let some = c.loop-left-test.true in
    let few = so_far.few in
    let one : left ≡ suc (left - 1) = omega (arith, some) in
    record {
      sending = λ s is.
          let far = so_far.sending s is in
          let tried = subst (λ b. Tries b (Send c.args.n) far.after c.take.new.self) c.if-not-take.false (c.take.ensures.tries far.after far.stands) in
          goes_on_sending c.args.n left (left - 1) s c.loop-left.self c.take.new.self one few far tried;
      few = omega (arith, few);
      keeps = record {
        room = c.take.ensures.keeps.room ∙ so_far.keeps.room;
        accepts = c.take.ensures.keeps.accepts ∙ so_far.keeps.accepts;
        allocatees = c.take.ensures.keeps.allocatees ∙ so_far.keeps.allocatees;
      };
    }

pub returns-clause-stands : goal.returns-clause-stands
returns-clause-stands g c = λ s is.
    let past = c.loop-left-test.false in
    ends_sending c.args.n c.loop-left.left s c.loop-left.self (sym (c.shows.ensures s is) ∙ c.if-not-shows.false) (omega (arith, past))
    (c.loop-left.invariant.sending s is)
