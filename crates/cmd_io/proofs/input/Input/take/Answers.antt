use Rattle.std.proofs.Common.{◌≤◌, length, drop, sym, ap, ◌∙◌, subst}
use Rattle.cmd_io.proofs.Bytes.{slice_range-drop}
use Rattle.cmd_io.proofs.input.Input.take.Goals as goal

pub returns : goal.returns
returns c =
    slice_range-drop c.self.inside.bytes c.self.inside.start c.args.size c.self.inside.end (subst (λ waiting. c.args.size ≤ length waiting) (sym c.self.view_is) c.requires)
    ∙ ap (drop c.args.size) c.self.view_is
