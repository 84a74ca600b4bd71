use Rattle.std.proofs.Common.{ℕ, ◌∙◌, refl, sym, subst}
use Rattle.std.specs.Prelude.{if◌then◌else◌}
use Rattle.disk_model.specs.Memory.{memory_contents}
use Rattle.kv_store.specs.KeyDisk.{restarted_on}
use Rattle.outside.specs.declared.pattern.Pattern.{Pattern}
use Rattle.raft_log.specs.KeyDisk.{opening_on}
use Rattle.alloc_spec.specs.Rules.{rules_by}
use Rattle.alloc_server.specs.Server.{disk_of, durable_of}
use Rattle.bus_spec.specs.Members.MemberStatus.{Down}
use Rattle.bus_rows.specs.ReportLine.{report_line_of}
use Rattle.bus_world.specs.Places.{HasStatus}
use Rattle.bus_world.proofs.Opening.{is_up, not_damaged, opened_by, opened_told, pattern_kept, refused_told, stopped_on, unopened_by}
use Rattle.bus_world.proofs.member.Member.open.Goals as goal

pub returns-in-Ok-clause-told : goal.returns-in-Ok-clause-told
returns-in-Ok-clause-told g c = λ x stands stopped.
    let down = stopped_on c.args.self.now.place x.status x.disk stands.status stopped in
    let opened = c.a_member_on_the_disk_by_states.ensures.opened (disk_of c.args.self.now.place.server) (durable_of c.reopen.new.self) x.disk down.server.on
    c.in-Ok.ensures.opens c.in-Ok.ensures.stands.works in
    c.opened.ensures ∙ opened_told c.reopen.new.self c.learn.new.self c.learn.ensures.durable c.args.self.now.id x.disk opened.0 opened.1 c.view.result
    c.view.ensures.term c.view.ensures.vote c.view.ensures.last c.view.ensures.commit

pub returns-in-Ok-clause-stands : goal.returns-in-Ok-clause-stands
returns-in-Ok-clause-stands g c = λ x stands stopped.
    let id : ℕ = c.args.self.now.id in let rules = rules_by c.args.size c.args.told.now in
    let down = stopped_on c.args.self.now.place x.status x.disk stands.status stopped in
    let opened = c.a_member_on_the_disk_by_states.ensures.opened (disk_of c.args.self.now.place.server) (durable_of c.reopen.new.self) x.disk down.server.on
    c.in-Ok.ensures.opens c.in-Ok.ensures.stands.works in record {
      status = opened_by (record { server = c.learn.new.self; runs = _ }) x id rules c.args.moment c.args.word refl
          (is_up c.reopen.new.self c.learn.new.self c.learn.ensures.durable id x.disk opened.0 opened.1 rules c.args.moment c.args.word
          (c.learn.ensures.stands _ c.in-Ok.ensures.stands)) opened.0;
      pattern = stands.pattern ∙ sym (pattern_kept id rules c.args.moment c.args.word x);
    }

pub returns-in-Err-clause-told : goal.returns-in-Err-clause-told
returns-in-Err-clause-told g c = λ x stands stopped.
    let old = c.args.self.now.place.server in let server = c.reopen.new.self in
    let down = stopped_on c.args.self.now.place x.status x.disk stands.status stopped in
    let not_opened = c.a_member_on_the_disk_by_states.ensures.not_opened (disk_of old) (disk_of server) x.disk down.server.on
    (not_damaged _ c.in-Err.field-0 c.in-Err.ensures.failed (λ key e.
    c.an_image_stands_for_one_state.ensures.either (memory_contents (disk_of old)).seen x.disk.store key
    (c.the_disk_by_states.ensures.found (disk_of old) x.disk down.server.on).0 (c.in-Err.ensures.damaged key e refl))) in
    refused_told c.args.self.now.id x.disk (report_line_of c.stay_stopped.result) not_opened.0
    (c.stay_stopped.ensures.told (opening_on x.disk) (record { runs = down.runs; server = record { closed = c.in-Err.ensures.closed refl; on = not_opened.1 } }))

pub returns-in-Err-clause-stands : goal.returns-in-Err-clause-stands
returns-in-Err-clause-stands g c = λ x stands stopped.
    let id : ℕ = c.args.self.now.id in let old = c.args.self.now.place.server in let server = c.reopen.new.self in
    let down = stopped_on c.args.self.now.place x.status x.disk stands.status stopped in
    let not_opened = c.a_member_on_the_disk_by_states.ensures.not_opened (disk_of old) (disk_of server) x.disk down.server.on
    (not_damaged _ c.in-Err.field-0 c.in-Err.ensures.failed (λ key e.
    c.an_image_stands_for_one_state.ensures.either (memory_contents (disk_of old)).seen x.disk.store key
    (c.the_disk_by_states.ensures.found (disk_of old) x.disk down.server.on).0 (c.in-Err.ensures.damaged key e refl))) in record {
      status = unopened_by c.stay_stopped.new.self.place x id (rules_by c.args.size c.args.told.now) c.args.moment c.args.word
          (subst (λ (p : Pattern). HasStatus c.stay_stopped.new.self.place Down (if (opening_on x.disk).calls.stopped then restarted_on p (opening_on x.disk) else opening_on x.disk)) stands.pattern
          (c.stay_stopped.ensures.status (opening_on x.disk) (record { runs = down.runs; server = record { closed = c.in-Err.ensures.closed refl; on = not_opened.1 } }))) not_opened.0;
      pattern = c.stay_stopped.ensures.pattern ∙ (stands.pattern ∙ sym (pattern_kept id (rules_by c.args.size c.args.told.now) c.args.moment c.args.word x));
    }
