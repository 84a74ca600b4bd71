use Rattle.std.proofs.Common.{ℕ, ◌∷◌, ◌∙◌, ap, sym, subst}
use Rattle.can_frame.specs.declared.step.What.{What}
use Rattle.can_frame.specs.declared.step.What.TheVariants.{AppQ}
use Rattle.alloc_spec.specs.Transfers.{id_of, kind_of}
use Rattle.bus_rows.specs.Timed.{rows_in}
use Rattle.service_calm.specs.Calm.{no_traffic}
use Rattle.service_calm.specs.Comes.{AreReady, IsHeard, MayComeFirst, sent_by}
use Rattle.service_calm.proofs.Calls.{further_on, heard_by}
use Rattle.service_calm.proofs.Grounds.{is_server}
use Rattle.service_calm.proofs.laws.calls_are_heard.Goals as goal
use Rattle.bus_spec.specs.Cluster.{Cluster, after_rows, world_of}

-- the first transfer of a kind may come
abbrev MayBegin : (n m : ℕ) → Cluster → (what : What) → (to : ℕ) → Type 0
MayBegin n m w what to =
    (ready : AreReady n m what to w) × MayComeFirst n what to ready.receiver (id_of ready.sender.ids what to)

pub returns : goal.returns
returns c =
    let below = c.what_calms_stand_on.ensures in
    λ ids rows members harmless group clocks pace start n m front rest timed offer request listed running in_n in_m apart quick ready may calm memory calls long.
    let w : Cluster = world_of ids rows in
    let there : Cluster = after_rows w (rows_in front) in
    let of_m = running m in_m in
    let first : MayBegin n m w offer.what offer.to =
    subst (λ (what : What). MayBegin n m w what offer.to) (sym calls.what)
    (subst (λ (to : ℕ). MayBegin n m w AppQ to) (sym calls.to) (ready, may)) in
    let comes = c.each_transfer_comes_whole.ensures.counted ids rows members harmless group clocks pace start n m front rest timed offer listed running in_n in_m apart quick
    (λ e. cc (sym (ap kind_of calls.what) ∙ e)) (subst (λ (what : What). IsHeard m what offer.to) (sym calls.what) ((λ e. absurd (cc (e))), calls.to))
    first.0 first.1 calm memory calls.sends long in
    heard_by below.in_step.me group clocks pace m c.steps_are_in_time.ensures.waits (sent_by n there offer) request calls.what calls.says
    _ there (timed ∷ rest)
    (further_on below.in_step.me group clocks pace m front (timed ∷ rest) w (record {
      traffic = no_traffic start;
      calm = calm;
      runs = record {
        server = of_m.server;
        up = record { status = of_m.runs; quiet = record { faults = of_m.faults; calls = of_m.disk } };
        holds = (is_server below ids members rows harmless m of_m.server (listed m in_m) of_m.runs).me;
      };
    }))
    comes
