use Rattle.kv_store.proofs.OnShelf.{begun, open_made, put_made, restart_made}
use Rattle.kv_store.proofs.laws.the_disk_by_keys.Goals as goal

pub returns-clause-put : goal.returns-clause-put
returns-clause-put c = put_made

pub returns-clause-opened : goal.returns-clause-opened
returns-clause-opened c = open_made

pub returns-clause-restarted : goal.returns-clause-restarted
returns-clause-restarted c = λ old new key_disk pattern. restart_made old new key_disk.store key_disk.copies key_disk.unsynced key_disk.calls pattern

pub returns-clause-begun : goal.returns-clause-begun
returns-clause-begun c = begun
