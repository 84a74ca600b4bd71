use Rattle.allocator_app.proofs.Spelling.{no_dash, no_payload}
use Rattle.allocator_app.proofs.words.read_payload.Goals as goal

pub returns-in_err-payload-clause-none : goal.returns-in_err-payload-clause-none
returns-in_err-payload-clause-none c = λ none payload short spelled.
    no_payload c.args.word.now payload (no_dash c.args.word.now c.as_slice.result.now c.eq.result c.if-eq.false c.eq.ensures c.as_slice.ensures)
    (λ bytes within read. let found = c.in_err-payload.ensures.only bytes within read in cc) short spelled
