use Rattle.std.proofs.Common.{◌≡◌, ◌≤◌, ◌+◌, ◌*◌, ℕ, List, arith, true, false, [], get_or, length, sym, subst, ◌∙◌, ap}
use Rattle.can_frame.specs.Cutting.{Piece}
use Rattle.can_frame.specs.Piece.{piece_of}
use Rattle.can_frame.specs.declared.tail.Tail.{Tail}
use Rattle.transfer_rx.specs.Sessions.{others}
use Rattle.transfer_rx.specs.Crcs.{CarriesCrcs}
use Rattle.transfer_rx.proofs.Filled.{all_taken}
use Rattle.transfer_rx.proofs.InTurn.{no_part, where_whole, in_turn_part, in_turn_own, end_length, part_length, spoiled_length, spoiled_blocks, goes_on, ends}
use Rattle.transfer_rx.proofs.sessions.Sessions.verdict.Goals as goal

pub returns-then-is_wrong_end-clause-verdict : goal.returns-then-is_wrong_end-clause-verdict
returns-then-is_wrong_end-clause-verdict g c = λ places sessions key session s a f t free.
    let piece : Piece = piece_of c.args.frame.now in
    let tail : c.tail-tail.result ≡ piece.tail = c.tail-tail.ensures.tail in
    let end : piece.tail.end ≡ true = ap (λ (x : Tail). x.end) (sym tail) ∙ c.if-tail.true in
    let size : length piece.bytes ≡ length c.data-data.result.now = ap length (sym c.data-data.ensures.bytes) in
    spoiled_length g.row.N c.args.signature (piece_of c.args.frame.now) session.taken (others key sessions)
    (end_length g.row.N c.args.signature (piece_of c.args.frame.now) session.taken (others key sessions) c.is_wrong_end.result end
    (c.is_wrong_end.ensures.wrong c.args.signature piece.tail.id session.taken piece (in_turn_part piece.tail session t f.keeps.part) (sym f.keeps.taken) size) ∙ c.if-is_wrong_end.true)

pub returns-then-lacks_blocks-clause-verdict : goal.returns-then-lacks_blocks-clause-verdict
returns-then-lacks_blocks-clause-verdict g c = λ places sessions key session s a f t free.
    let piece : Piece = piece_of c.args.frame.now in
    let tail : c.tail-tail.result ≡ piece.tail = c.tail-tail.ensures.tail in
    let end : piece.tail.end ≡ true = ap (λ (x : Tail). x.end) (sym tail) ∙ c.if-tail.true in
    let size : length piece.bytes ≡ length c.data-data.result.now = ap length (sym c.data-data.ensures.bytes) in
    spoiled_blocks g.row.N c.args.signature (piece_of c.args.frame.now) session.taken (others key sessions)
    (end_length g.row.N c.args.signature (piece_of c.args.frame.now) session.taken (others key sessions) c.is_wrong_end.result end
    (c.is_wrong_end.ensures.wrong c.args.signature piece.tail.id session.taken piece (in_turn_part piece.tail session t f.keeps.part) (sym f.keeps.taken) size) ∙ c.if-is_wrong_end.false)
    (sym c.if-lacks_blocks.true ∙ c.lacks_blocks.ensures places sessions key session piece s a f (sym tail) size free)

pub returns-then-tail-clause-verdict : goal.returns-then-tail-clause-verdict
returns-then-tail-clause-verdict g c = λ places sessions key session s a f t free.
    let piece : Piece = piece_of c.args.frame.now in
    let tail : c.tail-tail.result ≡ piece.tail = c.tail-tail.ensures.tail in
    let end : piece.tail.end ≡ true = ap (λ (x : Tail). x.end) (sym tail) ∙ c.if-tail.true in
    let size : length piece.bytes ≡ length c.data-data.result.now = ap length (sym c.data-data.ensures.bytes) in
    ends g.row.N c.args.signature (piece_of c.args.frame.now) session.taken (others key sessions) _
    (end_length g.row.N c.args.signature (piece_of c.args.frame.now) session.taken (others key sessions) c.is_wrong_end.result end
    (c.is_wrong_end.ensures.wrong c.args.signature piece.tail.id session.taken piece (in_turn_part piece.tail session t f.keeps.part) (sym f.keeps.taken) size) ∙ c.if-is_wrong_end.false)
    (sym c.if-lacks_blocks.false ∙ c.lacks_blocks.ensures places sessions key session piece s a f (sym tail) size free) end
    (c.check_crc.ensures.says c.args.signature piece.tail.id session.taken piece
    (λ some. subst (CarriesCrcs c.args.signature c.args.found.now.progress.crc c.args.found.now.progress.sent_crc)
    (all_taken c.args.found.now.progress (get_or c.args.self.now.pool c.args.found.now.place []) session c.requires.filled some f.keeps) (c.requires.crc some))
    (in_turn_part piece.tail session t f.keeps.part) (sym f.keeps.taken)
    (sym c.data-data.ensures.bytes) (in_turn_own piece.tail session true t end))

pub returns-then-is_wrong_part-clause-verdict : goal.returns-then-is_wrong_part-clause-verdict
returns-then-is_wrong_part-clause-verdict g c = λ places sessions key session s a f t free.
    let piece : Piece = piece_of c.args.frame.now in
    let tail : c.tail-tail.result ≡ piece.tail = c.tail-tail.ensures.tail in
    let end : piece.tail.end ≡ false = ap (λ (x : Tail). x.end) (sym tail) ∙ c.if-tail.false in
    let size : length piece.bytes ≡ length c.data-data.result.now = ap length (sym c.data-data.ensures.bytes) in
    spoiled_length g.row.N c.args.signature (piece_of c.args.frame.now) session.taken (others key sessions)
    (part_length g.row.N c.args.signature (piece_of c.args.frame.now) session.taken (others key sessions) c.is_wrong_part.result end
    (c.is_wrong_part.ensures.wrong piece.tail.id session.taken piece (in_turn_part piece.tail session t f.keeps.part) (sym f.keeps.taken) size) ∙ c.if-is_wrong_part.true)

pub returns-then-lacks_blocks-2-clause-verdict : goal.returns-then-lacks_blocks-2-clause-verdict
returns-then-lacks_blocks-2-clause-verdict g c = λ places sessions key session s a f t free.
    let piece : Piece = piece_of c.args.frame.now in
    let tail : c.tail-tail.result ≡ piece.tail = c.tail-tail.ensures.tail in
    let end : piece.tail.end ≡ false = ap (λ (x : Tail). x.end) (sym tail) ∙ c.if-tail.false in
    let size : length piece.bytes ≡ length c.data-data.result.now = ap length (sym c.data-data.ensures.bytes) in
    spoiled_blocks g.row.N c.args.signature (piece_of c.args.frame.now) session.taken (others key sessions)
    (part_length g.row.N c.args.signature (piece_of c.args.frame.now) session.taken (others key sessions) c.is_wrong_part.result end
    (c.is_wrong_part.ensures.wrong piece.tail.id session.taken piece (in_turn_part piece.tail session t f.keeps.part) (sym f.keeps.taken) size) ∙ c.if-is_wrong_part.false)
    (sym c.if-lacks_blocks-2.true ∙ c.lacks_blocks-2.ensures places sessions key session piece s a f (sym tail) size free)

pub returns-clause-verdict : goal.returns-clause-verdict
returns-clause-verdict g c = λ places sessions key session s a f t free.
    let piece : Piece = piece_of c.args.frame.now in
    let tail : c.tail-tail.result ≡ piece.tail = c.tail-tail.ensures.tail in
    let end : piece.tail.end ≡ false = ap (λ (x : Tail). x.end) (sym tail) ∙ c.if-tail.false in
    let size : length piece.bytes ≡ length c.data-data.result.now = ap length (sym c.data-data.ensures.bytes) in
    goes_on g.row.N c.args.signature (piece_of c.args.frame.now) session.taken (others key sessions)
    (part_length g.row.N c.args.signature (piece_of c.args.frame.now) session.taken (others key sessions) c.is_wrong_part.result end
    (c.is_wrong_part.ensures.wrong piece.tail.id session.taken piece (in_turn_part piece.tail session t f.keeps.part) (sym f.keeps.taken) size) ∙ c.if-is_wrong_part.false)
    (sym c.if-lacks_blocks-2.false ∙ c.lacks_blocks-2.ensures places sessions key session piece s a f (sym tail) size free) end

pub returns-then-tail-clause-room : goal.returns-then-tail-clause-room
returns-then-tail-clause-room g c = no_part c.check_crc.result _ c.check_crc.ensures.ended

pub returns-then-tail-clause-within : goal.returns-then-tail-clause-within
returns-then-tail-clause-within g c = where_whole c.check_crc.result _ (record {
  short = subst (λ (bytes : List ℕ). length bytes ≤ 7) c.data-data.ensures.bytes c.data-data.ensures.short;
  within = subst (λ (bytes : List ℕ). 7 * c.args.found.now.progress.taken + length bytes ≤ 378) c.data-data.ensures.bytes (omega (arith, c.is_wrong_end.ensures.within c.if-is_wrong_end.false));
})
