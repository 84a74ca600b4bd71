use Rattle.cmd_logs.specs.Watched.{unwatched}
use Rattle.cmd_logs.proofs.Listing.{watched_from-on}
use Rattle.cmd_logs.proofs.laws.watches_tell_more.Goals as goal

pub returns : goal.returns
returns c = λ ids lines more. watched_from-on ids unwatched 0 lines more
