use Rattle.std.proofs.Common.{◌∙◌}
use Rattle.cmd_io.proofs.Bytes.{read_more}
use Rattle.cmd_io.proofs.input.Input.fill.Goals as goal

pub returns-clause-more : goal.returns-clause-more
returns-clause-more g c =
    read_more _ _ c.read_behind.new.bytes c.args.self.now _ c.in_ok-count.count
    (c.read_behind.ensures.front ∙ c.move_to_front.ensures.front ∙ c.self.view_is)
    c.read_behind.ensures.size c.requires c.in_ok-count.ensures.count c.in_ok-count.ensures.bytes
