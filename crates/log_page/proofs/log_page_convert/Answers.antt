use Rattle.std.proofs.Common.{◌∙◌, ◌≤◌, sym, subst, ap, [], Some, length, ℕ, List}
use Rattle.can_logs.specs.declared.form.Form.{Form}
use Rattle.cmd_logs.specs.Converted.{Converts}
use Rattle.log_page.specs.Forms.{form_of}
use Rattle.outside.specs.Contents.{MemoryInput}
use Rattle.log_page.proofs.log_page_convert.Goals as goal

pub returns : goal.returns
returns c = record {
  converts = λ few. record {
    status = c.convert-status.result;
    whole = c.convert-status.new.sink.bytes.items;
    left = Some c.convert-status.new.source.left;
    read = c.convert-status.new.source.faults;
    wrote = c.convert-status.new.sink.faults;
    is_code = c.told.ensures.code;
    is_len = c.told.ensures.len ∙ ap length c.written.ensures;
    shown = λ fits. c.told.ensures.shown (subst (λ (xs : List ℕ). length xs ≤ length c.told.new.room) (sym c.written.ensures) fits) ∙ c.written.ensures;
    says =
        subst (λ (from : Form). Converts from (form_of c.args.to_candump) c.args.lines (Some c.args.log.now) (Some c.convert-status.new.source.left) 0
        c.convert-status.new.source.faults 0 c.convert-status.new.sink.faults (Some []) (Some c.convert-status.new.sink.bytes.items) c.convert-status.result) c.form_of-from.ensures
        (subst (λ (to : Form). Converts c.form_of-from.result to c.args.lines (Some c.args.log.now) (Some c.convert-status.new.source.left) 0
        c.convert-status.new.source.faults 0 c.convert-status.new.sink.faults (Some []) (Some c.convert-status.new.sink.bytes.items) c.convert-status.result) c.form_of-to.ensures
        (subst (λ (input : MemoryInput). Converts c.form_of-from.result c.form_of-to.result c.args.lines (Some input.left) (Some c.convert-status.new.source.left) input.faults
        c.convert-status.new.source.faults 0 c.convert-status.new.sink.faults (Some []) (Some c.convert-status.new.sink.bytes.items) c.convert-status.result) c.new-source.ensures
        (subst (λ (n : ℕ). Converts c.form_of-from.result c.form_of-to.result c.args.lines (Some c.new-source.result.left) (Some c.convert-status.new.source.left) c.new-source.result.faults
        c.convert-status.new.source.faults n c.convert-status.new.sink.faults (Some []) (Some c.convert-status.new.sink.bytes.items) c.convert-status.result) c.new-sink.ensures.faults
        (subst (λ (xs : List ℕ). Converts c.form_of-from.result c.form_of-to.result c.args.lines (Some c.new-source.result.left) (Some c.convert-status.new.source.left) c.new-source.result.faults
        c.convert-status.new.source.faults c.new-sink.result.faults c.convert-status.new.sink.faults (Some xs) (Some c.convert-status.new.sink.bytes.items) c.convert-status.result) c.new-sink.ensures.empty
        c.convert-status.ensures.converts))));
  };
}
