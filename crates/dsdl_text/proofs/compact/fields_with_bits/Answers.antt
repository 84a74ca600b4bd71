use Rattle.std.proofs.Common.{[], ◌∷◌, ◌++◌, ap, sym, ◌∙◌}
use Rattle.dsdl_text.specs.Sizes.{with_bits}
use Rattle.dsdl_text.proofs.Alike.{with_bits_last}
use Rattle.dsdl_text.proofs.compact.fields_with_bits.Goals as goal

pub returns : goal.returns
returns c = λ types sizes.
    c.push.ensures.items
    ∙ ap (λ front. front ++ c.in-Some.last.now ∷ []) (c.those_with_bits-kept.ensures.kept types sizes)
    ∙ sym (with_bits_last types c.in-Some.front.now c.in-Some.last.now)
    ∙ ap (with_bits types) (sym c.in-Some.ensures.cases.0)
