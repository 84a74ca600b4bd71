use Rattle.std.proofs.Common.{refl, ap, subst, sym, ◌∙◌, ◌≡◌}
use Rattle.std.specs.Prelude.{IfOk, Option, None, Some, Result}
use Rattle.std.specs.Result.{result_err}
use Rattle.can_frame.specs.declared.step.Seen.{Seen}
use Rattle.kv_store.specs.declared.fault.Fault.{Fault}
use Rattle.raft_core.specs.StoredPuts.{CallWrites}
use Rattle.transfer_rx.specs.Reassembly.{Setting}
use Rattle.alloc_spec.specs.Accepted.{setting_for}
use Rattle.alloc_spec.specs.Delivered.{StepResult}
use Rattle.alloc_spec.specs.Step as steps
use Rattle.alloc_server.specs.Server.{event_of}
use Rattle.alloc_spec.specs.declared.offered.Offered.{Offered}
use Rattle.alloc_server.proofs.Unlisted.{ready_unlisted, stands_unlisted}
use Rattle.alloc_server.proofs.server.Server.step_by.Goals as goal

pub returns-in-Some-clause-steps : goal.returns-in-Some-clause-steps
returns-in-Some-clause-steps g c t h = let sound = h.sound in cc

pub returns-in-Ok-clause-steps : goal.returns-in-Ok-clause-steps
returns-in-Ok-clause-steps g c t h =
    let step_result : StepResult = steps.step t c.args.step (event_of c.args.event) in
    let comes = c.take.ensures.comes t h.member h.sessions h.setting in
    let none : result_err c.take.result ≡ None = ap result_err c.in-Ok.is in
    let step_state = comes.sees.goes.step_state none in
    let puts = subst (λ (f : Option Fault). CallWrites step_result.step_state.puts c.args.self.now.member.durable c.take.new.member.durable f) none comes.sees.goes.puts in
    let faults = puts.faults.works h.works in
    record {
      stands = record {
        member = stands_unlisted step_state.stands;
        sessions = comes.sessions;
        setting = c.take.ensures.setting ∙ h.setting ∙ ap setting_for (sym comes.me);
        sound = h.sound;
        works = faults.kept;
      };
      tells = record {
        seen = subst (λ (r : Result Seen Fault). IfOk r (λ seen. seen ≡ step_result.seen)) c.in-Ok.is comes.sees.seen;
        sent = ap (λ (o : Offered). o.sent.items) c.replace-offered.ensures.value ∙ step_state.sent;
        given = ap (λ (o : Offered). o.answers.items) c.replace-offered.ensures.value ∙ step_state.given;
      };
      leaves = λ tells image left. puts.made.stop h.works tells image left;
      made = puts.made.made h.works;
      put = record { state = puts.made.state refl; copies = puts.made.copies refl };
      puts = puts.made;
    }

pub returns-in-Err-clause-steps : goal.returns-in-Err-clause-steps
returns-in-Err-clause-steps g c t h =
    let step_result : StepResult = steps.step t c.args.step (event_of c.args.event) in
    let comes = c.take.ensures.comes t h.member h.sessions h.setting in
    let failed : result_err c.take.result ≡ Some c.in-Err.fault = ap result_err c.in-Err.is in
    let puts = subst (λ (f : Option Fault). CallWrites step_result.step_state.puts c.args.self.now.member.durable c.take.new.member.durable f) failed comes.sees.goes.puts in
    let faults = puts.faults.works h.works in
    record {
      stands = tt;
      tells = tt;
      leaves = λ tells image left. puts.made.stop h.works tells image left;
      made = puts.made.made h.works;
      put = tt;
      puts = puts.made;
    }

pub invariant_of-self : goal.invariant_of-self
invariant_of-self g c =
    let tells = c.in-Ok.ensures.faults.works (c.args.self.now.kept ∙ c.in_default.is) in
    record {
      rows = ap (λ (setting : Setting). setting.rows) c.take.ensures.setting ∙ c.args.self.now.rows;
      ready = λ none. ready_unlisted c.in-Ok.ensures.ready;
      kept = tells.kept ∙ sym c.in_default.is;
      silent = λ why is. absurd (c.in_default.not-Some why is);
    }

pub returns-in-Ok-clause-later : goal.returns-in-Ok-clause-later
returns-in-Ok-clause-later g c = (c.in-Ok.ensures.faults.works (c.args.self.now.kept ∙ c.in_default.is)).later

pub returns-in-Ok-clause-told : goal.returns-in-Ok-clause-told
returns-in-Ok-clause-told g c = (c.in-Ok.ensures.faults.works (c.args.self.now.kept ∙ c.in_default.is)).tells

pub returns-in-Err-clause-cause : goal.returns-in-Err-clause-cause
returns-in-Err-clause-cause g c = λ none.
    let works = c.args.self.now.kept ∙ c.in_default.is in
    (c.in-Err.ensures.faults.works works).cause works

pub returns-in-Err-clause-later : goal.returns-in-Err-clause-later
returns-in-Err-clause-later g c = (c.in-Err.ensures.faults.works (c.args.self.now.kept ∙ c.in_default.is)).later

pub returns-in-Err-clause-told : goal.returns-in-Err-clause-told
returns-in-Err-clause-told g c = (c.in-Err.ensures.faults.works (c.args.self.now.kept ∙ c.in_default.is)).tells
