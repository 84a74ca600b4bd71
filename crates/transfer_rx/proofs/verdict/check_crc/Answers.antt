use Rattle.std.proofs.Common.{◌≡◌, length, ap, arith}
use Rattle.transfer_rx.proofs.Assembly.{single, several_whole, several_damaged}
use Rattle.transfer_rx.proofs.verdict.check_crc.Goals as goal

pub returns-then-taken-eq0-clause-says : goal.returns-then-taken-eq0-clause-says
returns-then-taken-eq0-clause-says c = λ signature id pieces piece known part n b t.
    let short : length piece.bytes ≡ length c.args.last.now = ap length b in
    single c.frames_carry_what_is_cut.ensures signature id pieces piece part (omega arith) t (omega arith)

pub returns-then-crc_more-sent_crc-clause-says : goal.returns-then-crc_more-sent_crc-clause-says
returns-then-crc_more-sent_crc-clause-says c = λ signature id pieces piece known part n b t.
    several_damaged c.frames_carry_what_is_cut.ensures signature id pieces piece part c.args.taken c.args.last.now c.args.crc c.args.sent_crc c.crc_more.result
    n b t (omega arith) c.requires.short (c.requires.some (omega arith)) (c.requires.full (omega arith)) (known (omega arith)) c.crc_more.ensures c.if-crc_more-sent_crc.true

pub returns-clause-says : goal.returns-clause-says
returns-clause-says c = λ signature id pieces piece known part n b t.
    several_whole c.frames_carry_what_is_cut.ensures signature id pieces piece part c.args.taken c.args.last.now c.args.crc c.args.sent_crc c.crc_more.result
    n b t (omega arith) c.requires.short (c.requires.some (omega arith)) (c.requires.full (omega arith)) (known (omega arith)) c.crc_more.ensures c.if-crc_more-sent_crc.false
