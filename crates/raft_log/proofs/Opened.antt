-- An opening: the disk is read, and then its puts are made.
use Rattle.std.proofs.Common.{◌≡◌, ◌<◌, ℕ, Bool, true, false, List, refl, sym, subst, ◌∙◌}
use Rattle.std.specs.Prelude.{None}
use Rattle.disk_model.specs.declared.disk.Disk.{Ghosts}
use Rattle.disk_model.specs.Contents.{AddsNoImage}
use Rattle.disk_model.specs.Device.{Makes}
use Rattle.kv_store.specs.Image.{chosen_copy, key_count, open_calls}
use Rattle.raft_log.specs.Calls.{WritesInOrder}
use Rattle.raft_log.specs.declared.durable.Durable.{Durable}
use Rattle.raft_log.specs.DeviceCalls.{device_calls}
use Rattle.raft_log.specs.DurableViews.{durable_copies, durable_disk, durable_fault, durable_state}
use Rattle.raft_log.specs.Opening.{Finds, IsNotPut, OpensTo, opening_calls}
use Rattle.raft_log.specs.Rules.{StandsForState}
use Rattle.raft_log.specs.Stored.{Put, opening_puts}
use Rattle.raft_log.proofs.InTurn.{calls_joined}

module _ {D : Type 0} {ghosts : Ghosts D} (disk : D) (read new : Durable D ghosts) (works : durable_fault read ≡ None) (tells : ghosts.tells (durable_disk read) ≡ ghosts.tells disk)
    (state : ghosts.tells disk ≡ true → StandsForState (ghosts.contents disk).seen (durable_state read))
    (chosen : ghosts.tells disk ≡ true → (key : ℕ) → key < key_count → durable_copies read key ≡ chosen_copy (ghosts.contents disk).seen key)
    (made : Makes ghosts.does open_calls true disk (durable_disk read)) where
  finds : Finds ghosts disk (durable_state read) (durable_copies read)
  finds = record { state = state; chosen = chosen; kept = record { storable = read.storable; term = read.state.narrow } }

  abbrev puts : List Put
  puts = opening_puts (durable_state read)

  all_calls : (ok : Bool) → WritesInOrder puts read new ok → Makes ghosts.does (opening_calls (durable_state read) (durable_copies read)) ok disk (durable_disk new)
  all_calls ok then = calls_joined ghosts.does open_calls (device_calls puts (durable_state read) (durable_copies read)) ok disk (durable_disk read) (durable_disk new) made (then.made works)

  pub opens_to : (ghosts.tells disk ≡ true → AddsNoImage (ghosts.contents disk) (ghosts.contents (durable_disk read))) → WritesInOrder puts read new true → OpensTo disk new
  opens_to images then = record {
    found = durable_state read;
    copies = durable_copies read;
    finds = finds;
    state = then.state refl;
    turned = then.copies refl;
    made = all_calls true then;
    images = λ none told.
        let nothing = subst (λ (puts : List Put). Makes ghosts.does (device_calls puts (durable_state read) (durable_copies read)) true (durable_disk read) (durable_disk new)) none (then.made works) in
        subst (λ (d : D). AddsNoImage (ghosts.contents disk) (ghosts.contents d)) (sym nothing.1) (images told);
  }

  pub is_not_put : WritesInOrder puts read new false → IsNotPut ghosts disk (durable_disk new)
  is_not_put then = record {
    found = durable_state read;
    copies = durable_copies read;
    finds = finds;
    made = all_calls false then;
    images = λ told. then.stop works (tells ∙ told);
  }
