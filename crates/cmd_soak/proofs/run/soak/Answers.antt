use Rattle.std.proofs.Common.{ap, refl, subst, sym}
use Rattle.std.specs.Io.KnownBytes.{Appends}
use Rattle.cmd_io.specs.Output.{WritesFront}
use Rattle.cmd_soak.specs.Counts.{lines_of}
use Rattle.cmd_soak.specs.Growth.{Fits}
use Rattle.cmd_soak.specs.Rounds.{for_each, has_round, seeded}
use Rattle.cmd_soak.proofs.Counting.{nothing_waited, report_is}
use Rattle.cmd_soak.proofs.Standing.{fits_last, is_started, room_first, with_room}
use Rattle.cmd_soak.proofs.run.soak.Goals as goal

pub rounds-requires-clause-room : goal.rounds-requires-clause-room
rounds-requires-clause-room g c =
    let room = c.room_for-room.result in
    let begun = is_started c.new-soaking.result c.in-Ok.world c.args.told c.args.seed c.args.size room _ c.new-soaking.ensures c.in-Ok.ensures.stands
    refl c.in-Ok.ensures.room c.room_for-room.ensures.narrow in
    room_first c.new-soaking.result c.args.told c.args.seed c.args.rounds c.args.size room begun (ap (λ n. n.room) c.new-soaking.ensures)
    c.requires.rounds c.room_for-room.ensures.enough

pub counts-counts-requires : goal.counts-counts-requires
counts-counts-requires g c =
    let room = c.room_for-room.result in
    let begun = is_started c.new-soaking.result c.in-Ok.world c.args.told c.args.seed c.args.size room _ c.new-soaking.ensures c.in-Ok.ensures.stands
    refl c.in-Ok.ensures.room c.room_for-room.ensures.narrow in
    let start = seeded c.args.told c.args.seed c.args.size in
    let end = for_each (has_round c.args.size) 1 c.args.rounds start in
    with_room c.new-soaking.result c.rounds.new.self 0 0 end (c.rounds.ensures.stands start begun) c.rounds.ensures.keeps.room
    (subst (λ r. Fits 0 0 r end) (sym (ap (λ n. n.room) c.new-soaking.ensures))
    (fits_last c.args.told c.args.seed c.args.rounds c.args.size room c.requires.rounds c.requires.most c.room_for-room.ensures.enough c.room_for-room.ensures.narrow))

pub returns-in-Ok-write_counts-clause-report : goal.returns-in-Ok-write_counts-clause-report
returns-in-Ok-write_counts-clause-report g c = λ is.
    let written = g.K.Sink.written in
    let room = c.room_for-room.result in
    let begun = is_started c.new-soaking.result c.in-Ok.world c.args.told c.args.seed c.args.size room _ c.new-soaking.ensures c.in-Ok.ensures.stands
    refl c.in-Ok.ensures.room c.room_for-room.ensures.narrow in
    let start = seeded c.args.told c.args.seed c.args.size in
    let end = for_each (has_round c.args.size) 1 c.args.rounds start in
    let counts = c.counts-counts.result in
    let same = report_is c.args.told c.args.seed c.args.rounds c.args.size counts (c.counts-counts.ensures end (c.rounds.ensures.stands start begun)) in
    subst (Appends (written c.args.sink.now) (written c.write_counts.new.sink)) same
    (nothing_waited (written c.args.sink.now) (written c.write_counts.new.sink) (lines_of counts) c.in-Ok-write_counts.ensures.told.ok)

pub returns-clause-written_in_part : goal.returns-clause-written_in_part
returns-clause-written_in_part g c = λ is.
    let written = g.K.Sink.written in
    let room = c.room_for-room.result in
    let begun = is_started c.new-soaking.result c.in-Ok.world c.args.told c.args.seed c.args.size room _ c.new-soaking.ensures c.in-Ok.ensures.stands
    refl c.in-Ok.ensures.room c.room_for-room.ensures.narrow in
    let start = seeded c.args.told c.args.seed c.args.size in
    let end = for_each (has_round c.args.size) 1 c.args.rounds start in
    let counts = c.counts-counts.result in
    let same = report_is c.args.told c.args.seed c.args.rounds c.args.size counts (c.counts-counts.ensures end (c.rounds.ensures.stands start begun)) in
    subst (WritesFront (written c.args.sink.now) (written c.write_counts.new.sink)) same c.in-Err.ensures.told.err
