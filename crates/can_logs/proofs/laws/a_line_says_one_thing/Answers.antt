use Rattle.std.proofs.Common.{◌≡◌, ℕ, List, ap, sym, ◌∙◌}
use Rattle.can_logs.specs.Candump as candump
use Rattle.can_logs.specs.Slcan as slcan
use Rattle.can_logs.specs.declared.candump.LogLine.{LogLine}
use Rattle.can_logs.specs.declared.slcan.SlLine.{SlLine}
use Rattle.can_logs.specs.declared.form.Form.{Form}
use Rattle.can_logs.specs.declared.form.Form.TheVariants.{Candump, Slcan}
use Rattle.can_logs.specs.declared.form.Line.{Line}
use Rattle.can_logs.specs.Forms.{Says, of_candump, of_slcan}
use Rattle.can_logs.proofs.laws.a_line_says_one_thing.Goals as goal

abbrev ReadsOne : Type 0
ReadsOne = ((a b : LogLine) (line : List ℕ) → candump.Reads a line → candump.Reads b line → a ≡ b)
    × ((a b : SlLine) (line : List ℕ) → slcan.Reads a line → slcan.Reads b line → a ≡ b)

one_said : ReadsOne → (form : Form) (a b : Line) (text : List ℕ) → Says form a text → Says form b text → a ≡ b
one_said one Candump a b text p q = p.2 ∙ ap of_candump (one.0 p.0 q.0 text p.1 q.1) ∙ sym q.2
one_said one Slcan a b text p q = p.2 ∙ ap of_slcan (one.1 p.0 q.0 text p.1 q.1) ∙ sym q.2

pub returns : goal.returns
returns c = one_said (c.a_line_has_one_reading.ensures.candump, c.a_line_has_one_reading.ensures.slcan)
