use Rattle.std.proofs.Common.{◌∷◌, [], arith, refl, slice_index_or}
use Rattle.std.specs.Prelude.{codes}
use Rattle.std.proofs.lemmas.Slice.Eq.{text_from_reads}
use Rattle.dsdl_text.proofs.section.number_bits.Goals as goal

pub returns-in-117-clause-value : goal.returns-in-117-clause-value
returns-in-117-clause-value c =
    let text = text_from_reads c.args.type_name.now (117 ∷ 105 ∷ 110 ∷ 116 ∷ slice_index_or c.args.type_name.now 4 0 ∷ []) (omega arith)
    (omega arith, (omega arith, (omega arith, (omega arith, (omega arith, tt))))) in
    rw text c.digit_bits.ensures.value

pub returns-in-117-2-clause-value : goal.returns-in-117-2-clause-value
returns-in-117-2-clause-value c =
    let text = text_from_reads c.args.type_name.now (codes "uint16") (omega arith) (omega arith, (omega arith, (omega arith, (omega arith, (omega arith, (omega arith, tt)))))) in
    rw text refl

pub returns-in-117-3-clause-value : goal.returns-in-117-3-clause-value
returns-in-117-3-clause-value c =
    let text = text_from_reads c.args.type_name.now (codes "uint32") (omega arith) (omega arith, (omega arith, (omega arith, (omega arith, (omega arith, (omega arith, tt)))))) in
    rw text refl

pub returns-in-117-4-clause-value : goal.returns-in-117-4-clause-value
returns-in-117-4-clause-value c =
    let text = text_from_reads c.args.type_name.now (codes "uint64") (omega arith) (omega arith, (omega arith, (omega arith, (omega arith, (omega arith, (omega arith, tt)))))) in
    rw text refl
