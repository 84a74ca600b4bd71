use Rattle.raft_log.proofs.OpeningOnShelf.{found_most, kept_as_it_is, opening_all, opening_finds, opening_left, opening_less, opening_most, opening_whole}
use Rattle.raft_log.proofs.laws.an_opening_on_the_disk_by_states.Goals as goal

pub returns-clause-done : goal.returns-clause-done
returns-clause-done c = opening_whole

pub returns-clause-counted : goal.returns-clause-counted
returns-clause-counted c = λ key_disk. (opening_most key_disk, opening_all key_disk, opening_less key_disk)

pub returns-clause-found_again : goal.returns-clause-found_again
returns-clause-found_again c = λ key_disk pattern none. (opening_finds pattern key_disk none, opening_left pattern key_disk none)

pub returns-clause-at_most_one : goal.returns-clause-at_most_one
returns-clause-at_most_one c = λ key_disk pattern. found_most pattern key_disk

pub returns-clause-as_it_is : goal.returns-clause-as_it_is
returns-clause-as_it_is c = kept_as_it_is
