use Rattle.std.proofs.Common.{refl}
use Rattle.raft_log.proofs.Running.{followed, not_opened_on_shelf, opened_on_shelf, set_on}
use Rattle.raft_log.proofs.laws.a_member_on_the_disk_by_states.Goals as goal

pub returns-clause-opened : goal.returns-clause-opened
returns-clause-opened c = λ disk new key_disk on.
    opened_on_shelf refl (λ d. refl) (λ d. refl) c.the_disk_by_states.ensures.found c.the_disk_by_states.ensures.opened c.an_image_stands_for_one_state.ensures.state disk key_disk on new

pub returns-clause-not_opened : goal.returns-clause-not_opened
returns-clause-not_opened c = λ disk new key_disk on.
    not_opened_on_shelf refl (λ d. refl) (λ d. refl) c.the_disk_by_states.ensures.found c.the_disk_by_states.ensures.opened c.an_image_stands_for_one_state.ensures.state disk key_disk on c.the_disk_by_states.ensures.read new

pub returns-clause-puts : goal.returns-clause-puts
returns-clause-puts c = λ puts old new key_disk ok on made works. followed old new key_disk on c.the_disk_by_states.ensures.puts refl puts ok made works

pub returns-clause-set : goal.returns-clause-set
returns-clause-set c = λ old new key_disk calls. set_on old new key_disk calls c.the_disk_by_states.ensures.set
