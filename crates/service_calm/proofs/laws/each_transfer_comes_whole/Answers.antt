use Rattle.std.proofs.Common.{◌+◌, refl, subst, sym}
use Rattle.std.specs.Prelude.{⊤}
use Rattle.alloc_spec.specs.Transfers.{id_of}
use Rattle.service_calm.specs.Comes.{MayComeFirst}
use Rattle.service_calm.proofs.Counting.{IsCounted}
use Rattle.service_calm.proofs.Follows.{IsCounter, NoneRepeatsIn, counter_follows, passes, response_follows}
use Rattle.service_calm.proofs.Grounds.{calm_laws, choice, its_run, made, shown}
use Rattle.service_calm.proofs.Pair.{AtFirst, Only}
use Rattle.service_calm.proofs.Start.{heard_counted, places_in}
use Rattle.service_calm.proofs.Whole.{comes_whole}
use Rattle.service_calm.proofs.laws.each_transfer_comes_whole.Goals as goal
use Rattle.bus_spec.specs.Cluster.{cluster, world_of}

pub returns : goal.returns
returns c =
    let below = c.what_calms_stand_on.ensures in
    let apart_offers = below.apart in
    record {
      counted = λ ids rows members harmless group clocks pace start n m front rest timed offer listed running in_n in_m apart quick kind heard ready may calm memory sends long.
          let counts : IsCounted offer.what offer.to = heard_counted m offer.what offer.to (members.nodes m (listed m in_m)).1 kind heard in
          comes_whole (calm_laws below) ids members.nodes (choice below ids members rows harmless) (made below ids members rows harmless) (world_of ids rows)
          (its_run below ids members rows harmless) (shown below ids members rows harmless).shows (below.same (cluster ids) rows) (places_in ids rows)
          group clocks pace start n m front rest timed offer listed running in_n in_m apart quick heard ready calm memory sends long
          (IsCounter offer.what offer.to) (λ t expected mode. mode) (λ expected v list. ⊤)
          (λ expected v now list follows t up is mode event is_step bus. counter_follows (MayComeFirst n offer.what offer.to ready.receiver) n offer.what offer.to counts (v.rows + 1) expected t is mode event)
          (λ expected v now list follows none. tt) (Only (id_of ready.sender.ids offer.what offer.to)) refl
          (λ id e. subst (MayComeFirst n offer.what offer.to ready.receiver) (sym e) may) tt;
      responses = λ ids rows members harmless group clocks pace start n m front rest timed offer listed running in_n in_m apart quick kind heard ready none calm memory sends long.
          comes_whole (calm_laws below) ids members.nodes (choice below ids members rows harmless) (made below ids members rows harmless) (world_of ids rows)
          (its_run below ids members rows harmless) (shown below ids members rows harmless).shows (below.same (cluster ids) rows) (places_in ids rows)
          group clocks pace start n m front rest timed offer listed running in_n in_m apart quick heard ready calm memory sends long
          (λ t expected. ⊤) (λ t expected mode. tt) (NoneRepeatsIn (MayComeFirst n offer.what offer.to ready.receiver) n offer.what offer.to kind apart_offers)
          (λ expected v now list follows t up is mode event is_step bus. response_follows (MayComeFirst n offer.what offer.to ready.receiver) n offer.what offer.to kind apart_offers
          expected v now list follows t up event is_step)
          (λ expected v now list follows quiet. passes (MayComeFirst n offer.what offer.to ready.receiver) n offer.what offer.to kind apart_offers expected v now list follows quiet)
          AtFirst tt (λ id f. f) none;
    }
