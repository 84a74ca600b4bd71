use Rattle.std.proofs.Common.{◌≡◌, None, sym, ◌∙◌, ap, rules}
use Rattle.can_frame.specs.Piece.{piece_of}
use Rattle.transfer_rx.specs.Keys.{key_of}
use Rattle.transfer_rx.specs.Outcome.{out_of_turn}
use Rattle.transfer_rx.specs.Places.{left}
use Rattle.transfer_rx.proofs.Comes.{comes}
use Rattle.transfer_rx.proofs.Crcs.{under}
use Rattle.transfer_rx.proofs.sessions.Sessions.turn.Goals as goal

pub returns-in-Some-clause-turn : goal.returns-in-Some-clause-turn
returns-in-Some-clause-turn g c = λ places sessions s a free.
    let to = comes g.row.S c.args.self.now.pool (key_of c.args.wanted.now.ident) c.of.result (piece_of c.args.frame.now) c.tail-tail.result c.args.now
    (left c.args.now places) sessions c.in-Ok.found c.of.ensures c.tail-tail.ensures.tail (c.in-Ok.ensures.found places sessions s a) in
    (to, ap (λ tail. out_of_turn tail to.session) (sym c.tail-tail.ensures.tail) ∙ sym (c.out_of_turn.ensures _ to.session to.finds.keeps) ∙ c.in-Some.is)

pub returns-clause-turn : goal.returns-clause-turn
returns-clause-turn g c = λ places sessions s a free.
    let to = comes g.row.S c.args.self.now.pool (key_of c.args.wanted.now.ident) c.of.result (piece_of c.args.frame.now) c.tail-tail.result c.args.now
    (left c.args.now places) sessions c.in-Ok.found c.of.ensures c.tail-tail.ensures.tail (c.in-Ok.ensures.found places sessions s a) in
    let turn : out_of_turn (piece_of c.args.frame.now).tail to.session ≡ None =
    ap (λ tail. out_of_turn tail to.session) (sym c.tail-tail.ensures.tail) ∙ sym (c.out_of_turn.ensures _ to.session to.finds.keeps) ∙ c.in_default.is in
    (to, turn, c.verdict-verdict.ensures.verdict places sessions (key_of c.args.wanted.now.ident) to.session s a to.finds turn free)

pub verdict-verdict-requires : goal.verdict-verdict-requires
verdict-verdict-requires g c =
    let found = under (key_of c.args.wanted.now.ident) c.of.result c.args.wanted.now.signature c.args.self.now.progress c.args.self.now.pool c.in-Ok.found
    c.of.ensures c.requires.crcs (c.in-Ok.ensures.crc c.args.wanted.now.signature) in
    (search rules, (c.in-Ok.ensures.place, (c.in-Ok.ensures.filled, (found.crc, c.requires.few))))

pub returns-in-Some-clause-crc : goal.returns-in-Some-clause-crc
returns-in-Some-clause-crc g c =
    under (key_of c.args.wanted.now.ident) c.of.result c.args.wanted.now.signature c.args.self.now.progress c.args.self.now.pool c.in-Ok.found
    c.of.ensures c.requires.crcs (c.in-Ok.ensures.crc c.args.wanted.now.signature)

pub returns-clause-crc : goal.returns-clause-crc
returns-clause-crc g c =
    under (key_of c.args.wanted.now.ident) c.of.result c.args.wanted.now.signature c.args.self.now.progress c.args.self.now.pool c.in-Ok.found
    c.of.ensures c.requires.crcs (c.in-Ok.ensures.crc c.args.wanted.now.signature)
