use Rattle.std.proofs.Common.{List, ℕ, sym, subst}
use Rattle.kv_store.specs.Image.{StandsFor}
use Rattle.kv_store.specs.StoreViews.{store_map}
use Rattle.kv_store.proofs.DeviceCalls.{only_image}
use Rattle.kv_store.proofs.laws.a_store_is_durable.Goals as goal

pub returns : goal.returns
returns g c = λ store works told image left.
    let held = store.holds works told in
    let only = only_image (g.D.Disk.contents store.disk) image (g.met.D.Disk.sound store.disk told) held.settled left in
    subst (λ (xs : List ℕ). StandsFor xs (store_map store)) (sym only) held.shown
