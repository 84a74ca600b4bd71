use Rattle.std.proofs.Common.{◌∙◌, ap, refl, string_bytes}
use Rattle.allocator_app.proofs.Spelling.{named_at}
use Rattle.allocator_app.proofs.words.read_ids.Goals as goal

pub returns-in_err-id-clause-none : goal.returns-in_err-id-clause-none
returns-in_err-id-clause-none c = λ none ids few bytes e.
    let named = named_at string_bytes c.args.words.now ids c.loop-word.word-index c.word-item.result c.loop-word-test.true e in
    c.in_err-id.ensures.none refl named.0 (bytes named.0 named.1) (c.as_bytes.ensures.value ∙ ap string_bytes c.word-item.is ∙ named.2)
