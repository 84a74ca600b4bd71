use Rattle.std.proofs.Common.{◌≡◌, ◌*◌, ◌∙◌, subst, arith}
use Rattle.cmd_soak.specs.Rounds.{for_each, has_round}
use Rattle.cmd_soak.specs.Soaking.{StandsFor}
use Rattle.cmd_soak.proofs.Growing.{rounds_grow}
use Rattle.cmd_soak.proofs.Standing.{room_after, round_next}
use Rattle.cmd_soak.proofs.soaking.Soaking.rounds.Goals as goal

pub round-requires-clause-room : goal.round-requires-clause-room
round-requires-clause-room g c =
    let room = c.requires.room in
    let done = c.loop-done.done in
    let size = c.args.size in
    let rounds = c.args.rounds in
    let here = c.loop-done-test.true in
    let few = room.fits.frames in
    let narrow = room.stands.narrow in
    room_after c.args.self.now c.loop-done.self (rounds * 41) (rounds * 274877906944) (done * 41) (done * 274877906944) 41 274877906944
    room.now (for_each (has_round size) 1 done room.now) (c.loop-done.invariant.stands room.now room.stands) c.loop-done.invariant.keeps.room room.fits
    (rounds_grow size c.requires.most done room.now (omega (arith, here, few, narrow))) (omega (arith, here)) (omega (arith, here))

pub loop-done-preserved : goal.loop-done-preserved
loop-done-preserved g c = record {
  stands = λ s is. round_next c.round.new.self c.args.size c.loop-done.done s
      (c.round.ensures.stands (for_each (has_round c.args.size) 1 c.loop-done.done s) (c.loop-done.invariant.stands s is));
  keeps = record {
    room = c.round.ensures.keeps.room ∙ c.loop-done.invariant.keeps.room;
    accepts = c.round.ensures.keeps.accepts ∙ c.loop-done.invariant.keeps.accepts;
    allocatees = c.round.ensures.keeps.allocatees ∙ c.loop-done.invariant.keeps.allocatees;
  };
}

pub returns-clause-stands : goal.returns-clause-stands
returns-clause-stands g c = λ s is.
    let past = c.loop-done-test.false in
    let within = c.loop-done.auto.done-end in
    let all : c.loop-done.done ≡ c.args.rounds = omega (arith, past, within) in
    subst (λ m. StandsFor c.loop-done.self (for_each (has_round c.args.size) 1 m s)) all (c.loop-done.invariant.stands s is)
