use Rattle.std.proofs.Common.{refl, ap, ◌∙◌}
use Rattle.raft_log.specs.Rules.IsDamagedAt.{BadValue}
use Rattle.raft_log.specs.StateViews.{stored_of}
use Rattle.raft_log.specs.Stored.{told_origins}
use Rattle.raft_log.proofs.Reading.{readable}
use Rattle.raft_log.proofs.States.{image_broken}
use Rattle.raft_log.proofs.stored.Stored.read.Goals as goal

pub returns-in-Err-clause-damaged : goal.returns-in-Err-clause-damaged
returns-in-Err-clause-damaged c =
    let shown = c.in_ok-table.ensures.map in
    BadValue shown.whole (image_broken _ _ _ shown c.in-Err.ensures.broken)

pub returns-in-Ok-clause-readable : goal.returns-in-Ok-clause-readable
returns-in-Ok-clause-readable c =
    readable _ (stored_of c.in-Ok.state) (record { term = refl; vote = refl; commit = refl; entries = refl; origins = c.told.ensures ∙ ap told_origins c.deref.ensures.0 })
    c.in-Ok.ensures.state.storable
