use Rattle.std.proofs.Common.{◌≡◌, ◌∙◌, Bool, true, ap, subst, sym}
use Rattle.std.specs.Prelude.{if◌then◌else◌}
use Rattle.disk_model.specs.declared.calls.Calls.{Calls}
use Rattle.kv_store.specs.KeyDisk.{restarted_on}
use Rattle.bus_spec.specs.Members.MemberStatus.{Down}
use Rattle.bus_world.specs.Places.{HasStatus}
use Rattle.bus_world.proofs.member.Member.stay_stopped.Goals as goal

pub returns-then-stopped-clause-status : goal.returns-then-stopped-clause-status
returns-then-stopped-clause-status g c = λ key_disk is.
    let stopped : key_disk.calls.stopped ≡ true =
    sym (ap (λ (calls : Calls). calls.stopped) is.server.on.on.calls) ∙ (sym c.stopped.ensures ∙ c.if-stopped.true) in
    subst (λ (b : Bool). HasStatus c.restart.new.self Down (if b then restarted_on c.args.self.now.pattern key_disk else key_disk)) (sym stopped)
    (c.restart.ensures.status key_disk is.server.on)
