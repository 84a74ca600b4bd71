use Rattle.std.proofs.Common.{refl}
use Rattle.disk_model.specs.declared.calls.Calls.{Calls}
use Rattle.bus_world.proofs.Setting.{server_set}
use Rattle.bus_world.proofs.place.Place.stop_at.Goals as goal

pub returns-clause-status : goal.returns-clause-status
returns-clause-status g c = λ status key_disk is. record {
  runs = is.runs;
  server = server_set c.args.self.now.server c.stop_at.new.self (λ (calls : Calls). record calls { stop_in = c.args.call }) c.the_disk_by_states.ensures.set
      c.a_member_on_the_disk_by_states.ensures.set c.stop_at.ensures.calls c.stop_at.ensures.contents c.stop_at.ensures.stands c.stop_at.ensures.fault
      c.stop_at.ensures.state c.stop_at.ensures.copies (λ calls. refl) status key_disk is.server;
}
