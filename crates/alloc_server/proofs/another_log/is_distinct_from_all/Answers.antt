use Rattle.std.proofs.Common.{◌∙◌, Decides, rules, tests}
use Rattle.std.proofs.lemmas.Bool.Decides.{same_from_decides}
use Rattle.std.proofs.lemmas.Iterator.{YieldsList-from_slice}
use Rattle.std.proofs.lemmas.Iterator.Search.{all_from_yields_List}
use Rattle.can_frame.specs.Log.{AreDistinct}
use Rattle.raft_model.specs.Decisions.{are_distinct}
use Rattle.alloc_server.proofs.Repeats.{all_distinct, distinct_decided}
use Rattle.alloc_server.proofs.another_log.is_distinct_from_all.Goals as goal

pub returns : goal.returns
returns c =
    all_from_yields_List (are_distinct c.args.entry.now) _ _ c.all.result c.all.ensures.ran (YieldsList-from_slice c.args.log.now cc)
    (λ x b q k. let is : Decides b (AreDistinct c.args.entry.now x.now) = search (rules, tests) in
    (search (rules, tests), same_from_decides b (are_distinct c.args.entry.now x.now) is (distinct_decided c.args.entry.now x.now)))
    ∙ all_distinct c.args.entry.now c.args.log.now
