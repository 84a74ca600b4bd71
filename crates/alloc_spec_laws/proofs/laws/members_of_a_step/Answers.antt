use Rattle.alloc_spec_laws.proofs.MemberLists.{kept, named, whole}
use Rattle.alloc_spec_laws.proofs.DiscoveryLists.{discoveries_tell, told_nodes}
use Rattle.alloc_spec_laws.proofs.ToldMembers.{opening_has_told, told_all_knows_all, told_all_owes_none}
use Rattle.alloc_spec_laws.proofs.laws.members_of_a_step.Goals as goal

pub returns : goal.returns
returns c = record {
  opening = opening_has_told;
  all = told_all_knows_all;
  quiet = told_all_owes_none;
  named = λ t number event node i. named t number event c.new_members_were_named.ensures node i;
  stay = λ t number event node i. kept t number event c.members_stay.ensures node i;
  complete = λ t number event complete. whole t number event c.a_complete_list_stays.ensures.members c.a_complete_list_stays.ensures.complete complete;
  told = discoveries_tell;
  told_nodes = told_nodes;
}
