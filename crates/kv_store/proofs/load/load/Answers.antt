use Rattle.std.proofs.Common.{rules, ◌≡◌, true, false, inl, inr, length, refl, subst}
use Rattle.disk_model.specs.Device.DeviceCall.{Read}
use Rattle.kv_store.proofs.load.load.Goals as goal

pub returns-in_err-sync-clause-made : goal.returns-in_err-sync-clause-made
returns-in_err-sync-clause-made g c = inl (search rules, c.in_err-sync.ensures.made)

pub returns-in_err-read-clause-made : goal.returns-in_err-read-clause-made
returns-in_err-read-clause-made g c =
    let size : length c.args.image.now ≡ 8844 = search rules in
    inr (c.sync.new.self, c.in_ok-sync.ensures.made, inl (search rules, subst (λ n. g.D.Disk.does c.sync.new.self (Read 0 n) false c.read.new.self) size c.in_err-read.ensures.made))

pub returns-clause-made : goal.returns-clause-made
returns-clause-made g c =
    let size : length c.args.image.now ≡ 8844 = search rules in
    inr (c.sync.new.self, c.in_ok-sync.ensures.made, inr (c.read.new.self, subst (λ n. g.D.Disk.does c.sync.new.self (Read 0 n) true c.read.new.self) size c.in_ok-read.ensures.made, (refl, refl)))
