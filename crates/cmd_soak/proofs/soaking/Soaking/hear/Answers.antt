use Rattle.std.proofs.Common.{◌≡◌, ◌+◌, ◌-◌, ◌*◌, ◌∙◌, refl, arith}
use Rattle.cmd_soak.specs.Rounds.{for_each, hears}
use Rattle.cmd_soak.proofs.Growing.{each_grows, hears_grows}
use Rattle.cmd_soak.proofs.Standing.{hears_end, hears_next, room_after}
use Rattle.cmd_soak.proofs.soaking.Soaking.hear.Goals as goal

pub hear_frame-requires-clause-room : goal.hear_frame-requires-clause-room
hear_frame-requires-clause-room g c =
    let start = c.args.self.now in
    let room = c.requires.room in
    let more = c.loop-more.more in
    let far = for_each (hears c.args.n) (room.now.heard + 1) more room.now in
    let few = room.fits.frames in
    let narrow = room.stands.narrow in
    room_after start c.loop-more.self 1 8589934592 (more * 0) (more * 2) 1 2 room.now far (c.loop-more.invariant.stands room.now room.stands)
    c.loop-more.invariant.keeps.room room.fits
    (each_grows 4294967296 0 2 (hears c.args.n) (λ k t _. hears_grows c.args.n k t) more (room.now.heard + 1) room.now (omega (arith, few, narrow)))
    (omega arith)
    (let here = c.loop-more-test.true in let came = c.saturating_sub-came.ensures in let all = c.frames.ensures.few in omega (arith, here, came, all, narrow))

pub loop-more-preserved : goal.loop-more-preserved
loop-more-preserved g c = record {
  stands = λ s is. hears_next c.hear_frame.new.self c.args.n c.args.self.now.heard c.loop-more.more _ s is.heard refl
      (c.hear_frame.ensures.stands (for_each (hears c.args.n) (s.heard + 1) c.loop-more.more s) (c.loop-more.invariant.stands s is));
  keeps = record {
    room = c.hear_frame.ensures.keeps.room ∙ c.loop-more.invariant.keeps.room;
    accepts = c.hear_frame.ensures.keeps.accepts ∙ c.loop-more.invariant.keeps.accepts;
    allocatees = c.hear_frame.ensures.keeps.allocatees ∙ c.loop-more.invariant.keeps.allocatees;
  };
}

pub returns-clause-stands : goal.returns-clause-stands
returns-clause-stands g c = λ s is.
    let past = c.loop-more-test.false in
    let within = c.loop-more.auto.more-end in
    let came = c.saturating_sub-came.ensures in
    let all : c.loop-more.more ≡ c.frames.result - c.args.self.now.heard = omega (arith, past, within, came) in
    hears_end c.loop-more.self c.args.n c.args.self.now.heard c.frames.result c.loop-more.more s is.heard (c.frames.ensures.count s is)
    all (c.loop-more.invariant.stands s is)
