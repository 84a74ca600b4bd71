use Rattle.bus_spec.specs.Cluster.{cluster}
use Rattle.cmd_node_laws.specs.Traces.{all_rows}
use Rattle.cmd_node_laws.proofs.Ending.{fresh_calm, trace_fine}
use Rattle.cmd_node_laws.proofs.laws.traces_do_no_harm.Goals as goal

pub returns-clause-rows : goal.returns-clause-rows
returns-clause-rows c = λ ids trace may. (trace_fine c.deliveries_are_whole_transfers.ensures trace (cluster ids) (fresh_calm ids) may).harmless

pub returns-clause-headline : goal.returns-clause-headline
returns-clause-headline c = λ ids trace members may.
    c.the_headline.ensures ids (all_rows trace (cluster ids)) members (trace_fine c.deliveries_are_whole_transfers.ensures trace (cluster ids) (fresh_calm ids) may).harmless

pub returns-clause-allocatees : goal.returns-clause-allocatees
returns-clause-allocatees c = λ ids trace members may.
    c.the_allocatees.ensures ids (all_rows trace (cluster ids)) members (trace_fine c.deliveries_are_whole_transfers.ensures trace (cluster ids) (fresh_calm ids) may).harmless

pub returns-clause-safe : goal.returns-clause-safe
returns-clause-safe c = λ ids trace members may.
    c.rows_are_safe.ensures ids (all_rows trace (cluster ids)) members (trace_fine c.deliveries_are_whole_transfers.ensures trace (cluster ids) (fresh_calm ids) may).harmless

pub returns-clause-calm : goal.returns-clause-calm
returns-clause-calm c = λ ids trace may. (trace_fine c.deliveries_are_whole_transfers.ensures trace (cluster ids) (fresh_calm ids) may).calm
