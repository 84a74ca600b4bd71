use Rattle.std.proofs.Common.{rules, ◌≡◌, ℕ, true, subst}
use Rattle.disk_model.specs.Device.{Makes}
use Rattle.kv_store.specs.declared.fault.OpenFault.TheVariants.{Damaged}
use Rattle.kv_store.specs.Image.{open_calls}
use Rattle.kv_store.specs.Opening.{was_read}
use Rattle.kv_store.specs.StoreViews.{store_disk, store_map}
use Rattle.kv_store.specs.TableViews.{table_map}
use Rattle.raft_log.specs.DurableViews.{durable_disk}
use Rattle.raft_log.specs.Rules.{IsFirstBroken, Stores}
use Rattle.raft_log.specs.StateViews.{stored_of}
use Rattle.raft_log.specs.Rules.IsDamagedAt.{BadValue}
use Rattle.raft_log.proofs.States.{image_broken, image_stands}
use Rattle.raft_log.proofs.durable.Durable.read.Goals as goal

pub returns-in_err-reopen-clause-damaged_made : goal.returns-in_err-reopen-clause-damaged_made
returns-in_err-reopen-clause-damaged_made g c =
    let old = durable_disk c.args.self.now in
    let new = store_disk c.reopen.new.self in
    let made : (key : ℕ) → c.in_err-reopen.field-0.0 ≡ Damaged key → Makes g.D.Disk.does open_calls true old new =
    λ key is. subst (λ why. Makes g.D.Disk.does open_calls (was_read why) old new) is c.in_err-reopen.ensures.refused_made in
    search (rules, made)

pub returns-in-Err-clause-damaged : goal.returns-in-Err-clause-damaged
returns-in-Err-clause-damaged g c = λ key is told.
    let map = store_map c.reopen.new.self in
    let same : c.in-Err.key ≡ key = search rules in
    let shown = c.in_ok-reopen.ensures.map told in
    let broken = subst (λ t. IsFirstBroken (table_map t) c.in-Err.key) c.table.ensures c.in-Err.ensures.broken in
    BadValue shown.whole (image_broken _ map key shown (subst (λ k. IsFirstBroken map k) same broken))

pub returns-in-Ok-clause-state : goal.returns-in-Ok-clause-state
returns-in-Ok-clause-state g c = λ told.
    image_stands _ _ _ (c.in_ok-reopen.ensures.map told) (subst (λ t. Stores (table_map t) (stored_of c.in-Ok.state)) c.table.ensures c.in-Ok.ensures.state)

pub returns-in-Ok-clause-durable : goal.returns-in-Ok-clause-durable
returns-in-Ok-clause-durable g c = λ told image left.
    image_stands image _ _ (c.in_ok-reopen.ensures.durable told image left) (subst (λ t. Stores (table_map t) (stored_of c.in-Ok.state)) c.table.ensures c.in-Ok.ensures.state)
