use Rattle.std.proofs.Common.{◌+◌, ◌*◌, sym, ◌∙◌, ap}
use Rattle.transfer_rx.specs.Outcome.{blocks_for}
use Rattle.transfer_rx.specs.Places.{left}
use Rattle.transfer_rx.specs.Sessions.{others}
use Rattle.transfer_rx.proofs.Blocks.{lacks, used_besides}
use Rattle.transfer_rx.proofs.Lengths.{total}
use Rattle.transfer_rx.proofs.sessions.Sessions.lacks_blocks.Goals as goal

pub returns : goal.returns
returns g c = λ places sessions key session piece s a f t n free.
    lacks g.row.N c.args.free c.blocks_at-own.result c.blocks_for.result piece session.taken (others key sessions)
    (rw t (sym c.is_alone.ensures ∙ c.if-is_alone.false))
    (used_besides g.row.N (left c.args.now places) sessions key c.args.found.now.place c.args.free c.blocks_at-own.result a f.place free (c.blocks_at-own.ensures.used places s))
    (c.blocks_for.ensures.blocks ∙ ap blocks_for ((λ i. 7 * f.keeps.taken i + sym n i) ∙ sym (total session.expected 0 session.taken piece f.keeps.part)))
