use Rattle.std.proofs.Common.{◌≡◌, ◌<◌, ◌≤◌, ◌^◌, ℕ, List, All, arith, refl, sym, subst, ◌∙◌, true, leb, ◌&&◌}
use Rattle.std.specs.Prelude.{codes}
use Rattle.std.proofs.lemmas.Bool.{and_parts, leb-true}
use Rattle.std.proofs.lemmas.List.Elements.{All-weaker}
use Rattle.std.proofs.lemmas.List.Sums.{AllPass-from_list_all}
use Rattle.arrayvec.specs.ArrayVec.{ArrayVec}
use Rattle.can_frame.specs.declared.frame.Frame.{Frame as FrameValue}
use Rattle.can_logs.specs.Candump as candump
use Rattle.can_logs.specs.declared.candump.LogLine.{LogLine}
use Rattle.can_logs.specs.declared.candump.LogLine.TheVariants as log_line
use Rattle.can_logs.specs.declared.slcan.SlLine.{SlLine}
use Rattle.can_logs.specs.declared.slcan.SlLine.TheVariants as slcan_line
use Rattle.can_logs.specs.declared.form.Form.{Form}
use Rattle.can_logs.specs.declared.form.Form.TheVariants.{Candump, Slcan}
use Rattle.can_logs.specs.declared.form.Line.{Line}
use Rattle.can_logs.specs.Forms.{IsLineWritable, Says, of_candump, of_slcan}
use Rattle.can_logs.proofs.laws.said_lines_are_writable.Goals as goal

abbrev Law : Type 0
Law = (sec micros : ℕ) (iface : ArrayVec ℕ) (frame : FrameValue) (line : List ℕ)
    → candump.Reads (log_line.Data sec micros iface frame) line → candump.IsWritable (log_line.Data sec micros iface frame)

of_log : Law → (read : LogLine) (text : List ℕ) → candump.Reads read text → IsLineWritable (of_candump read)
of_log law (log_line.Data sec micros iface frame) text reads = law sec micros iface frame text reads
of_log law log_line.Skipped text reads = tt

adapter : candump.IsName (codes "slcan0")
adapter = record {
  some = omega arith;
  few = omega arith;
  printed =
      All-weaker (λ byte. (leb 33 byte && leb byte 126) ≡ true) (λ byte. (33 ≤ byte) × (byte ≤ 126))
      (λ byte test. let parts = and_parts (leb 33 byte) (leb byte 126) test in (leb-true 33 byte parts.0, leb-true byte 126 parts.1)) (codes "slcan0")
      (AllPass-from_list_all (λ byte. leb 33 byte && leb byte 126) (codes "slcan0") refl);
}

of_adapter : (read : SlLine) → IsLineWritable (of_slcan read)
of_adapter (slcan_line.Data frame stamp) = (omega arith, omega arith, adapter)
of_adapter slcan_line.Skipped = tt

writable : Law → (form : Form) (said : Line) (text : List ℕ) → Says form said text → IsLineWritable said
writable law Candump said text says = subst IsLineWritable (sym says.2) (of_log law says.0 text says.1)
writable law Slcan said text says = subst IsLineWritable (sym says.2) (of_adapter says.0)

pub returns : goal.returns
returns c = writable c.read_lines_are_writable.ensures
