use Rattle.std.proofs.Common.{arith, refl, subst, ◌∙◌, ℕ}
use Rattle.alloc_handlers.proofs.Words.{GoesTo, IsInStep, StepState, discovery_phase, election_phase, query_phase, record_phase, result_err, status_phase}
use Rattle.alloc_handlers.proofs.Faults.{faults_in_turn}
use Rattle.alloc_handlers.proofs.Taking.{cut_off, goes_failed}
use Rattle.alloc_handlers.proofs.member.Member.tick.Goals as goal

pub returns-in_err-elect-clause-goes : goal.returns-in_err-elect-clause-goes
returns-in_err-elect-clause-goes g c start step_state h =
    let s = c.args.self.now.offered.step in
    let g1 : StepState = discovery_phase s step_state in
    let told = subst (λ (n : ℕ). IsInStep start c.tell_status.new.self (status_phase n g1)) c.tell_members.ensures.leaves.lists.step (c.tell_status.ensures.step_state start g1 (c.tell_members.ensures.step_state start step_state h)) in
    goes_failed _ c.from_residual.ensures.0 c.from_residual.ensures.1
    (cut_off c.puts_go_on.ensures (c.in_err-elect.ensures.goes s start (status_phase s g1) told) (c.phases_add_puts.ensures.records s (election_phase s c.args.word (status_phase s g1))))

pub returns-clause-goes : goal.returns-clause-goes
returns-clause-goes g c start step_state h =
    let s = c.args.self.now.offered.step in
    let g1 : StepState = discovery_phase s step_state in
    let g3 : StepState = election_phase s c.args.word (status_phase s g1) in
    let told = subst (λ (n : ℕ). IsInStep start c.tell_status.new.self (status_phase n g1)) c.tell_members.ensures.leaves.lists.step (c.tell_status.ensures.step_state start g1 (c.tell_members.ensures.step_state start step_state h)) in
    subst (λ (n : ℕ). GoesTo start c.identify_nodes.new.self (query_phase n (record_phase n g3)) (result_err c.identify_nodes.result)) (c.elect.ensures.leaves.lists.step ∙ c.tell_status.ensures.leaves.lists.step ∙ c.tell_members.ensures.leaves.lists.step)
    (c.identify_nodes.ensures.goes start g3 ((c.in_ok-elect.ensures.goes s start (status_phase s g1) told).step_state refl))

pub returns-clause-leaves : goal.returns-clause-leaves
returns-clause-leaves g c =
    let one = c.tell_members.ensures.leaves in
    let two = c.tell_status.ensures.leaves in
    let three = c.in_ok-elect.ensures.leaves in
    let last = c.identify_nodes.ensures.leaves in
    record {
      ready = last.ready;
      lists = record {
        step = last.lists.step ∙ three.lists.step ∙ two.lists.step ∙ one.lists.step;
        sent_most = omega (arith, one.lists.sent_most, two.lists.sent_most, three.lists.sent_most, last.lists.sent_most);
        given_most = omega (arith, one.lists.given_most, two.lists.given_most, three.lists.given_most, last.lists.given_most);
      };
      faults = faults_in_turn c.puts_go_on.ensures (two.durable ∙ one.durable) three.faults last.faults;
    }
