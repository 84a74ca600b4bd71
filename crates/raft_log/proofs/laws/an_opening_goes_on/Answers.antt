use Rattle.kv_store.specs.Image.{value_in}
use Rattle.raft_log.specs.Rules.{StandsForState}
use Rattle.raft_log.specs.Stored.{opening_puts}
use Rattle.raft_log.proofs.Opening.{allowed_opening, left_after, none_where_two, same_after, some_front, two_after}
use Rattle.raft_log.proofs.laws.an_opening_goes_on.Goals as goal

pub returns-clause-allowed : goal.returns-clause-allowed
returns-clause-allowed c = λ image state stands narrow. allowed_opening (value_in image) state stands.stores narrow

pub returns-clause-same : goal.returns-clause-same
returns-clause-same c = same_after

pub returns-clause-others : goal.returns-clause-others
returns-clause-others c = left_after

pub returns-clause-nothing : goal.returns-clause-nothing
returns-clause-nothing c = none_where_two

pub returns-clause-version : goal.returns-clause-version
returns-clause-version c = two_after

pub returns-clause-left : goal.returns-clause-left
returns-clause-left c = λ image state some. let front = some_front (StandsForState image) (opening_puts state) state some in (front.state, front.holds, rw front.is (same_after state front.count))
