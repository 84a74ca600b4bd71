use Rattle.std.proofs.Common.{◌≡◌, ◌*◌, ◌∙◌, subst, arith}
use Rattle.cmd_soak.specs.Growth.{growth, room_for}
use Rattle.cmd_soak.specs.Rounds.{for_each, has_turn}
use Rattle.cmd_soak.specs.Soaking.{StandsFor}
use Rattle.cmd_soak.proofs.Growing.{members_grow}
use Rattle.cmd_soak.proofs.Standing.{room_after, turn_next, turns_end, turns_room}
use Rattle.cmd_soak.proofs.soaking.Soaking.each.Goals as goal

pub member-requires-clause-room : goal.member-requires-clause-room
member-requires-clause-room g c =
    let room = c.requires.room in
    let turn = c.args.turn in
    let place = c.loop-place.place in
    let here = c.loop-place-test.true in
    let most = c.requires.size in
    let enough = turns_room turn place (omega (arith, here, most)) in
    let few = room.fits.frames in
    let narrow = room.stands.narrow in
    room_after c.args.self.now c.loop-place.self (room_for turn 5) 42949672960 (place * growth turn) (place * 8589934592) (room_for turn 1) 8589934592
    room.now (for_each (has_turn turn) 1 place room.now) (c.loop-place.invariant.stands room.now room.stands) c.loop-place.invariant.keeps.room room.fits
    (members_grow turn place 1 room.now (omega (arith, enough, few, narrow))) enough (omega (arith, here, most))

pub loop-place-preserved : goal.loop-place-preserved
loop-place-preserved g c = record {
  stands = λ s is. turn_next c.member.new.self c.args.turn c.loop-place.place s
      (c.member.ensures.stands (for_each (has_turn c.args.turn) 1 c.loop-place.place s) (c.loop-place.invariant.stands s is));
  keeps = record {
    room = c.member.ensures.keeps.room ∙ c.loop-place.invariant.keeps.room;
    accepts = c.member.ensures.keeps.accepts ∙ c.loop-place.invariant.keeps.accepts;
    allocatees = c.member.ensures.keeps.allocatees ∙ c.loop-place.invariant.keeps.allocatees;
  };
}

pub returns-clause-stands : goal.returns-clause-stands
returns-clause-stands g c = λ s is.
    let past = c.loop-place-test.false in
    let within = c.loop-place.auto.place-end in
    let all : c.loop-place.place ≡ c.args.size = omega (arith, past, within) in
    turns_end c.loop-place.self c.args.turn c.args.size s
    (subst (λ m. StandsFor c.loop-place.self (for_each (has_turn c.args.turn) 1 m s)) all (c.loop-place.invariant.stands s is))
