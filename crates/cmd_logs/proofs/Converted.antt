-- A conversion of one line more.
use Rattle.std.proofs.Common.{◌≡◌, ◌∙◌, List, [], ◌∷◌, ◌++◌, ap, append-nil}
use Rattle.std.proofs.lemmas.Grind.{flat_map-append}
use Rattle.can_logs.specs.declared.form.Form.{Form}
use Rattle.can_logs.specs.declared.form.Line.{Line}
use Rattle.cmd_logs.specs.Converted.{converted, converted_line}

-- one line more is written behind the others
pub converted-more : (to : Form) (lines : List Line) (said : Line) → converted to (lines ++ said ∷ []) ≡ converted to lines ++ converted_line to said
converted-more to lines said =
    flat_map-append (converted_line to) lines (said ∷ []) ∙ ap (λ l. converted to lines ++ l) (append-nil (converted_line to said))
