use Rattle.std.proofs.Common.{ap, subst, sym, ◌∙◌, ℕ, List}
use Rattle.alloc_spec.specs.declared.event.Event.{Event}
use Rattle.alloc_spec.specs.Accepted.{setting_for}
use Rattle.alloc_spec.specs.StepState.{StepState}
use Rattle.alloc_spec.specs.Step.{at_sessions, at_step, begin_phase, step, takes_answer, with_answer}
use Rattle.alloc_spec.specs.Tick.{clock_phase}
use Rattle.transfer_rx.specs.declared.accept.AcceptRow.{AcceptRow}
use Rattle.transfer_rx.specs.declared.transfer.Transfer.{Transfer}
use Rattle.transfer_rx.specs.Heard.{told_with}
use Rattle.transfer_rx.specs.Acceptance.{first_signature}
use Rattle.transfer_rx.specs.Reassembly.{Answer, Arrival, Setting, answer, arrival_of, next}
use Rattle.transfer_rx.specs.Sessions.{Session}
use Rattle.transfer_rx.specs.Views as receiver
use Rattle.alloc_handlers.specs.Stands.{SeesTo}
use Rattle.alloc_server.specs.Server.{ComesTo, event_of}
use Rattle.alloc_server.proofs.take.take.Goals as goal

pub hear_by-heard-requires : goal.hear_by-heard-requires
hear_by-heard-requires g c = (
  c.requires.memory,
  (
    c.requires.callable,
    λ kind number below signature gives. c.requires.answers kind number below signature gives ∙ ap (λ (rows : List AcceptRow). first_signature rows kind number) (sym c.requires.rows),
  ),
)

pub returns-in-Tick-clause-comes : goal.returns-in-Tick-clause-comes
unfolding step
returns-in-Tick-clause-comes g c t h sess set =
    let s = c.args.step in
    let g0 : StepState = begin_phase s c.in-Tick.now t in
    let g1 : StepState = clock_phase s c.in-Tick.word g0 in
    subst (λ (e : Event). ComesTo c.args.member.now.durable t c.take_tick.new.self c.args.receiver.now (step t s (event_of e)) c.take_tick.result) (sym c.in-Tick.is) (record {
      sees = c.take_tick.ensures.sees t h;
      sessions = subst (λ (list : List Session). receiver.HasSessions c.args.receiver.now list) (sym ((c.phases_add_puts.ensures.ends s g1).sessions ∙ (c.phases_add_puts.ensures.ticks s c.in-Tick.word g0).sessions)) sess;
      me = (c.phases_add_puts.ensures.ends s g1).me ∙ (c.phases_add_puts.ensures.ticks s c.in-Tick.word g0).me;
    })

pub returns-in-Rx-clause-comes : goal.returns-in-Rx-clause-comes
unfolding step
returns-in-Rx-clause-comes g c t h sess set =
    let s = c.args.step in
    let g0 : StepState = begin_phase s c.in-Rx.now t in
    let arrival : Arrival = at_step g0.allocator (arrival_of c.in-Rx.frame c.in-Rx.mark c.in-Rx.now) in
    let sessions : List Session = next (setting_for t.me) t.sessions arrival in
    let g1 : StepState = at_sessions sessions g0 in
    let found : Answer = answer (setting_for t.me) t.sessions arrival in
    let g2 : StepState = (with_answer s found g1).step_state in
    let h1 = c.begin.ensures.step_state t h sessions in
    let said = ap (λ (transfer : Transfer). told_with transfer c.hear_by-heard.result) c.delivered.ensures ∙ c.hear_by-heard.ensures.answer t.sessions sess
    ∙ ap (λ (setting : Setting). answer setting t.sessions (arrival_of c.in-Rx.frame c.in-Rx.mark c.begin.new.self.latest)) set
    ∙ ap (λ (now : ℕ). answer (setting_for t.me) t.sessions (arrival_of c.in-Rx.frame c.in-Rx.mark now)) h1.stands.now in
    let kept = subst (λ (now : ℕ). receiver.HasSessions c.hear_by-heard.new.self (next (setting_for t.me) t.sessions (arrival_of c.in-Rx.frame c.in-Rx.mark now))) h1.stands.now
    (subst (λ (setting : Setting). receiver.HasSessions c.hear_by-heard.new.self (next setting t.sessions (arrival_of c.in-Rx.frame c.in-Rx.mark c.begin.new.self.latest))) set
    (c.hear_by-heard.ensures.sessions t.sessions sess)) in
    subst (λ (e : Event). ComesTo c.args.member.now.durable t c.take_heard.new.self c.hear_by-heard.new.self (step t s (event_of e)) c.take_heard.result) (sym c.in-Rx.is) (record {
      sees = subst (λ (a : Answer). SeesTo c.args.member.now.durable c.take_heard.new.self (takes_answer s a g1) c.take_heard.result) said
          (subst (λ (n : ℕ). SeesTo c.args.member.now.durable c.take_heard.new.self (takes_answer n (told_with c.delivered.result.now c.hear_by-heard.result) g1) c.take_heard.result) c.begin.ensures.step
          (c.take_heard.ensures.sees c.args.member.now.durable g1 h1));
      sessions = subst (λ (list : List Session). receiver.HasSessions c.hear_by-heard.new.self list) (sym ((c.phases_add_puts.ensures.ends s g2).sessions ∙ (c.phases_add_puts.ensures.answers s found g1).sessions)) kept;
      me = (c.phases_add_puts.ensures.ends s g2).me ∙ (c.phases_add_puts.ensures.answers s found g1).me;
    })
