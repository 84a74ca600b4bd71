use Rattle.std.proofs.Common.{List, subst}
use Rattle.raft_model.specs.Runs.{initial_world}
use Rattle.raft_replaced.specs.Changes.{changed}
use Rattle.bus_spec.specs.Cluster.{cluster}
use Rattle.bus_replaced.specs.Traces.{IsTrace, Item}
use Rattle.bus_replaced.proofs.Agreeing.{a_choice}
use Rattle.bus_replaced.proofs.Along.{bus_along, cut_comes, first_comes, headline_between}
use Rattle.bus_replaced.proofs.Reached.{old_after, reached}
use Rattle.bus_replaced.proofs.laws.the_headline_along.Goals as goal

pub returns : goal.returns
returns c =
    let laws = c.what_is_said_below.ensures in
    λ ids items members come. record {
      some = a_choice ids (λ choice items come fits.
          let r = reached laws choice ids members items come fits in
          (old_after 0 (cluster ids) items, r.2.made, changed (initial_world ids) r.0, r.2.shows)) items come;
      holds = λ first more rest choice cut fits. headline_between laws choice ids members first more (cut_comes ids items first more rest cut come) fits;
      bus = λ first rest choice cut fits. bus_along laws choice ids members first
          (first_comes 0 (cluster ids) first rest (subst (λ (l : List Item). IsTrace ids l) cut come)) fits;
    }
