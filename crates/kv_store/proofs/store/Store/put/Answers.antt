use Rattle.std.proofs.Common.{rules, ◌≡◌, ℕ, ◌-◌, true, false, sym, subst, ◌∙◌}
use Rattle.kv_store.specs.Image.{StandsFor, put_calls, put_in}
use Rattle.disk_model.specs.Device.{Makes}
use Rattle.kv_store.specs.TableViews.{table_map}
use Rattle.kv_store.proofs.DeviceCalls.{only_image}
use Rattle.kv_store.proofs.Tables.{same_map}
use Rattle.kv_store.proofs.store.Store.put.Goals as goal

pub returns-in-Ok-clause-durable : goal.returns-in-Ok-clause-durable
returns-in-Ok-clause-durable g c = λ told image left.
    let held = c.args.self.now.holds (search rules) told in
    let only = only_image (g.D.Disk.contents c.replace.new.disk) image (g.met.D.Disk.sound c.replace.new.disk (c.replace.ensures.tells ∙ told)) (c.in-Ok.ensures.settled told) left in
    let set = subst (λ bytes. (k : ℕ) → table_map c.set.new.self k ≡ put_in (table_map c.args.self.now.table) c.args.key bytes k) (c.value_of.ensures ∙ c.deref.ensures.0) c.set.ensures.map in
    subst (λ xs. StandsFor xs (table_map c.set.new.self)) (sym only) (same_map _ _ _ set (c.in-Ok.ensures.map told (table_map c.args.self.now.table) held.shown))

pub returns-in-Ok-clause-made : goal.returns-in-Ok-clause-made
returns-in-Ok-clause-made g c = λ works.
    subst (λ copy. Makes g.D.Disk.does (put_calls c.args.key (1 - copy) c.args.value.now.items) true c.args.self.now.disk c.replace.new.disk) c.copy-copy.ensures.copy c.in-Ok.ensures.made

pub returns-in-Err-clause-made : goal.returns-in-Err-clause-made
returns-in-Err-clause-made g c = λ works.
    subst (λ copy. Makes g.D.Disk.does (put_calls c.args.key (1 - copy) c.args.value.now.items) false c.args.self.now.disk c.replace.new.disk) c.copy-copy.ensures.copy c.in-Err.ensures.made
