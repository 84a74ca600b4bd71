use Rattle.std.proofs.Common.{◌∙◌}
use Rattle.std.proofs.lemmas.List.{take_rest}
use Rattle.dsdl_text.proofs.Spelling.{name_and_shape}
use Rattle.dsdl_text.proofs.parse.read_type.Goals as goal

pub returns-in_err-type_name-clause-only : goal.returns-in_err-type_name-clause-only
returns-in_err-type_name-clause-only c = λ name shape is named fits.
    let parts = name_and_shape c.args.word.now name.items shape c.place_or_end-open.result c.place_or_end-open.ensures.place named is in
    let read = c.in_err-type_name.ensures.only name parts.0 named in
    absurd (cc)

pub returns-in_err-shape-clause-only : goal.returns-in_err-shape-clause-only
returns-in_err-shape-clause-only c = λ name shape is named fits.
    let parts = name_and_shape c.args.word.now name.items shape c.place_or_end-open.result c.place_or_end-open.ensures.place named is in
    let read = c.in_err-shape.ensures.only shape (take_rest c.args.word.now c.place_or_end-open.result ∙ parts.1) fits in
    absurd (cc)

pub returns-clause-only : goal.returns-clause-only
returns-clause-only c = λ name shape is named fits.
    let parts = name_and_shape c.args.word.now name.items shape c.place_or_end-open.result c.place_or_end-open.ensures.place named is in
    let name_read = c.in_ok-type_name.ensures.only name parts.0 named in
    let shape_read = c.in_ok-shape.ensures.only shape (take_rest c.args.word.now c.place_or_end-open.result ∙ parts.1) fits in
    cc
