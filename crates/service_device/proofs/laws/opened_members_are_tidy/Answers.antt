use Rattle.service_device.proofs.TidyOpenings.{fit_lead, opened_ready, tidy_come_to_lead, tidy_lead}
use Rattle.service_device.proofs.laws.opened_members_are_tidy.Goals as goal

pub returns-clause-opened : goal.returns-clause-opened
returns-clause-opened c = opened_ready c.law_members.ensures.count c.members_of_a_step.ensures.all c.members_of_a_step.ensures.opening

pub returns-clause-leads : goal.returns-clause-leads
returns-clause-leads c = tidy_lead

pub returns-clause-comes : goal.returns-clause-comes
returns-clause-comes c = tidy_come_to_lead

pub returns-clause-fit : goal.returns-clause-fit
returns-clause-fit c = fit_lead
