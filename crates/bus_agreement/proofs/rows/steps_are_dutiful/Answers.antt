use Rattle.std.proofs.Common.{ℕ, sym, subst}
use Rattle.std.specs.Prelude.{◌+◌, ◌⊎◌, max}
use Rattle.raft_model.specs.Duty.{TickDuty}
use Rattle.raft_model.specs.Lists.{In}
use Rattle.raft_model.specs.Moves.Move.{ProposeEntry}
use Rattle.alloc_spec.specs.Step.{Event, step}
use Rattle.alloc_spec_laws.specs.FreeNodes.{GivesFreeNode, IsBlankOf}
use Rattle.alloc_spec_laws.specs.Phases.{when_seen}
use Rattle.bus_spec.specs.Members.{MemberStatus}
use Rattle.bus_agreement.specs.Shows.{ShowsMember, ShowsUp}
use Rattle.bus_agreement.proofs.FinishedSteps.{may_step}
use Rattle.bus_agreement.proofs.rows.steps_are_dutiful.Goals as goal

pub returns : goal.returns
returns c =
    let frame_laws = c.what_is_said_of_frames.ensures in
    let codec = c.what_is_said_of_messages.ensures in
    let laws = c.what_is_said_of_a_step.ensures in
    let more = c.what_a_step_keeps.ensures in
    λ choice made w run members shows sound written n t event listed runs may narrow wins.
    let is = subst (λ (status : MemberStatus). ShowsMember choice made w.ids w.frames run n status (w.member n).disk) runs (shows.lives n listed) in
    let own = subst (λ (k : ℕ). ShowsUp made w.ids w.frames run k t (w.member k).disk) (sym is.runs.me) is in
    let own_listed = subst (λ (k : ℕ). In k w.ids) (sym is.runs.me) listed in
    let steps = may_step laws more frame_laws codec choice made w run shows members sound written t own_listed own event may narrow in
    let duty = c.duty_of_a_step.ensures in record {
      phases = duty.phases t (w.rows + 1) event;
      commit = duty.commit t (w.rows + 1) event w.ids run.bag steps;
      tell = duty.tell t (w.rows + 1) event;
      stand = λ now word e whole waited role low. subst (λ (x : Event). TickDuty t.raft_server (step t (w.rows + 1) x).step_state.allocator.raft_server) (sym e)
          (duty.tick t (w.rows + 1) now word whole waited role low);
      win = duty.win t (w.rows + 1) event w.ids run.bag steps wins;
      give = λ arrival entry e i.
          subst (λ (x : Event). IsBlankOf (when_seen t (w.rows + 1) x).allocator.raft_server entry ⊎ GivesFreeNode t (max t.now arrival.moment) entry) (sym e)
          (c.a_node_that_is_heard_keeps_its_id.ensures.free t (w.rows + 1) arrival entry
          (subst (λ (x : Event). In (ProposeEntry entry) (step t (w.rows + 1) x).step_state.moves) e i));
      blank = c.blanks_wait_to_be_heard.ensures.added t (w.rows + 1) event;
      answer = c.who_is_asked_answers.ensures t (w.rows + 1) event;
    }
