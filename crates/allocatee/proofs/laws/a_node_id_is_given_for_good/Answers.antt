use Rattle.allocatee.proofs.Giving.{given_by, kept, uid_stays}
use Rattle.allocatee.proofs.laws.a_node_id_is_given_for_good.Goals as goal

pub returns : goal.returns
returns c = record { given = λ d number node event e. given_by d number node event e; kept = λ d number node event e. kept d number node event e; uid = λ d number event. uid_stays d number event }
