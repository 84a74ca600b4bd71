use Rattle.std.proofs.Common.{refl}
use Rattle.disk_model.specs.Memory.{memory_contents}
use Rattle.kv_store.specs.Image.{chosen_copy, value_in}
use Rattle.kv_store.specs.KeyDisk.{restarted_on}
use Rattle.raft_log.proofs.OpeningOnShelf.{opening_made, read_on_shelf}
use Rattle.raft_log.proofs.Restarting.{all_done, done_most, restart_finds, some_left}
use Rattle.raft_log.proofs.StatesOnShelf.{bits_of, by_keys, found, maps_of, puts_done, puts_on_shelf, ready_by_keys, restarted_fits, set_fits, shows_itself}
use Rattle.raft_log.proofs.laws.the_disk_by_states.Goals as goal

pub returns-clause-found : goal.returns-clause-found
returns-clause-found c = found

pub returns-clause-puts : goal.returns-clause-puts
returns-clause-puts c = puts_on_shelf c.the_disk_by_keys.ensures.put

pub returns-clause-done : goal.returns-clause-done
returns-clause-done c = λ key_disk puts. puts_done puts key_disk

pub returns-clause-read : goal.returns-clause-read
returns-clause-read c = read_on_shelf c.the_disk_by_keys.ensures.opened

pub returns-clause-opened : goal.returns-clause-opened
returns-clause-opened c = opening_made (read_on_shelf c.the_disk_by_keys.ensures.opened) (puts_on_shelf c.the_disk_by_keys.ensures.put)

pub returns-clause-restarted : goal.returns-clause-restarted
returns-clause-restarted c = λ old new key_disk pattern on usable restarts.
    let keys = maps_of old key_disk on in
    ready_by_keys new (restarted_on pattern keys) (restarted_on pattern key_disk) (restarted_fits on.map key_disk.store key_disk.copies on.before key_disk.unsynced key_disk.calls pattern on.stores on.unsynced)
    (c.the_disk_by_keys.ensures.restarted old new keys pattern on.on usable restarts)

pub returns-clause-set : goal.returns-clause-set
returns-clause-set c = λ old new key_disk calls on same now.
    let keys = maps_of old key_disk on in
    by_keys new (record keys { calls = calls }) (record key_disk { calls = calls }) (set_fits on.map on.map key_disk.store key_disk.store key_disk.copies on.before key_disk.unsynced key_disk.calls on.stores on.unsynced calls)
    (c.the_disk_by_keys.ensures.set old new keys calls on.on same now)

pub returns-clause-begun : goal.returns-clause-begun
returns-clause-begun c = λ disk state stands settled.
    let image = (memory_contents disk).seen in
    ready_by_keys disk _ _ (record { store = stands.stores; unsynced = tt; copies = refl; calls = refl })
    (c.the_disk_by_keys.ensures.begun disk (value_in image) (λ key. chosen_copy image key) (shows_itself image state stands) (bits_of image) settled)

pub returns-clause-counted : goal.returns-clause-counted
returns-clause-counted c = λ puts calls. (done_most puts calls, all_done puts calls, some_left puts calls)

pub returns-clause-found_again : goal.returns-clause-found_again
returns-clause-found_again c = restart_finds
