use Rattle.cmd_soak.specs.Rounds.{arms_by_chance, asks_in_time, each}
use Rattle.cmd_soak.specs.declared.turn.Turn.TheVariants.{Open as Opening, Tick as Ticking, Hear as Hearing, Send as Sending}
use Rattle.cmd_soak.proofs.Standing.{done_then, has_begun, has_settled, room_then, rooms, rounds_off}
use Rattle.cmd_soak.proofs.soaking.Soaking.round.Goals as goal

pub arm_by_chance-requires-clause-room : goal.arm_by_chance-requires-clause-room
arm_by_chance-requires-clause-room g c =
    let begun = has_begun c.args.number c.args.self.now in
    room_then 41 274877906944 1 1 begun c.requires.room (rooms c.args.size c.args.number c.args.self.now c.requires.most c.requires.room).to_arm

pub each-requires-clause-room : goal.each-requires-clause-room
each-requires-clause-room g c =
    let begun = has_begun c.args.number c.args.self.now in
    let is_armed = done_then (arms_by_chance c.args.size) begun c.arm_by_chance.ensures.stands c.arm_by_chance.ensures.keeps in
    room_then 41 274877906944 1 42949672960 is_armed c.requires.room (rooms c.args.size c.args.number c.args.self.now c.requires.most c.requires.room).to_open

pub ask_in_time-requires-clause-room : goal.ask_in_time-requires-clause-room
ask_in_time-requires-clause-room g c =
    let begun = has_begun c.args.number c.args.self.now in
    let is_armed = done_then (arms_by_chance c.args.size) begun c.arm_by_chance.ensures.stands c.arm_by_chance.ensures.keeps in
    let is_open = done_then (each Opening c.args.size) is_armed c.each.ensures.stands c.each.ensures.keeps in
    room_then 41 274877906944 1 1 is_open c.requires.room (rooms c.args.size c.args.number c.args.self.now c.requires.most c.requires.room).to_ask

pub each-requires-2-clause-room : goal.each-requires-2-clause-room
each-requires-2-clause-room g c =
    let begun = has_begun c.args.number c.args.self.now in
    let is_armed = done_then (arms_by_chance c.args.size) begun c.arm_by_chance.ensures.stands c.arm_by_chance.ensures.keeps in
    let is_open = done_then (each Opening c.args.size) is_armed c.each.ensures.stands c.each.ensures.keeps in
    let is_asked = done_then (asks_in_time c.args.number) is_open c.ask_in_time.ensures.stands c.ask_in_time.ensures.keeps in
    room_then 41 274877906944 1 42949672960 is_asked c.requires.room (rooms c.args.size c.args.number c.args.self.now c.requires.most c.requires.room).to_tick

pub each-requires-3-clause-room : goal.each-requires-3-clause-room
each-requires-3-clause-room g c =
    let begun = has_begun c.args.number c.args.self.now in
    let is_armed = done_then (arms_by_chance c.args.size) begun c.arm_by_chance.ensures.stands c.arm_by_chance.ensures.keeps in
    let is_open = done_then (each Opening c.args.size) is_armed c.each.ensures.stands c.each.ensures.keeps in
    let is_asked = done_then (asks_in_time c.args.number) is_open c.ask_in_time.ensures.stands c.ask_in_time.ensures.keeps in
    let is_ticked = done_then (each Ticking c.args.size) is_asked c.each-2.ensures.stands c.each-2.ensures.keeps in
    room_then 41 274877906944 1 42949672960 is_ticked c.requires.room (rooms c.args.size c.args.number c.args.self.now c.requires.most c.requires.room).to_hear

pub frames-self-requires : goal.frames-self-requires
frames-self-requires g c =
    let begun = has_begun c.args.number c.args.self.now in
    let is_armed = done_then (arms_by_chance c.args.size) begun c.arm_by_chance.ensures.stands c.arm_by_chance.ensures.keeps in
    let is_open = done_then (each Opening c.args.size) is_armed c.each.ensures.stands c.each.ensures.keeps in
    let is_asked = done_then (asks_in_time c.args.number) is_open c.ask_in_time.ensures.stands c.ask_in_time.ensures.keeps in
    let is_ticked = done_then (each Ticking c.args.size) is_asked c.each-2.ensures.stands c.each-2.ensures.keeps in
    let has_heard = done_then (each Hearing c.args.size) is_ticked c.each-3.ensures.stands c.each-3.ensures.keeps in
    room_then 41 274877906944 0 0 has_heard c.requires.room (rooms c.args.size c.args.number c.args.self.now c.requires.most c.requires.room).to_settle

pub each-requires-4-clause-room : goal.each-requires-4-clause-room
each-requires-4-clause-room g c =
    let begun = has_begun c.args.number c.args.self.now in
    let is_armed = done_then (arms_by_chance c.args.size) begun c.arm_by_chance.ensures.stands c.arm_by_chance.ensures.keeps in
    let is_open = done_then (each Opening c.args.size) is_armed c.each.ensures.stands c.each.ensures.keeps in
    let is_asked = done_then (asks_in_time c.args.number) is_open c.ask_in_time.ensures.stands c.ask_in_time.ensures.keeps in
    let is_ticked = done_then (each Ticking c.args.size) is_asked c.each-2.ensures.stands c.each-2.ensures.keeps in
    let has_heard = done_then (each Hearing c.args.size) is_ticked c.each-3.ensures.stands c.each-3.ensures.keeps in
    let is_settled = has_settled c.frames-self.result has_heard c.frames-self.ensures.count in
    room_then 41 274877906944 40 42949672960 is_settled c.requires.room (rooms c.args.size c.args.number c.args.self.now c.requires.most c.requires.room).to_send

pub returns-clause-stands : goal.returns-clause-stands
returns-clause-stands g c = λ s is.
    let begun = has_begun c.args.number c.args.self.now in
    let is_armed = done_then (arms_by_chance c.args.size) begun c.arm_by_chance.ensures.stands c.arm_by_chance.ensures.keeps in
    let is_open = done_then (each Opening c.args.size) is_armed c.each.ensures.stands c.each.ensures.keeps in
    let is_asked = done_then (asks_in_time c.args.number) is_open c.ask_in_time.ensures.stands c.ask_in_time.ensures.keeps in
    let is_ticked = done_then (each Ticking c.args.size) is_asked c.each-2.ensures.stands c.each-2.ensures.keeps in
    let has_heard = done_then (each Hearing c.args.size) is_ticked c.each-3.ensures.stands c.each-3.ensures.keeps in
    let is_settled = has_settled c.frames-self.result has_heard c.frames-self.ensures.count in
    let has_sent = done_then (each Sending c.args.size) is_settled c.each-4.ensures.stands c.each-4.ensures.keeps in
    rounds_off c.each-4.new.self c.args.size c.args.number s (has_sent.does s is)
