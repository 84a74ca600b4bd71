use Rattle.service_candidate.proofs.laws.what_elections_stand_on.Goals as goal

pub returns : goal.returns
returns c = record {
  calm = c.what_calms_stand_on.ensures;
  leave = c.followers_follow_on.ensures.frames;
  opening = c.members_of_a_step.ensures.opening;
  all = c.members_of_a_step.ensures.all;
  count = c.law_members.ensures.count;
}
