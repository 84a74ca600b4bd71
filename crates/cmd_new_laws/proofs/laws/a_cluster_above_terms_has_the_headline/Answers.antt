use Rattle.cmd_new_laws.proofs.AboveRows.{harmless_both}
use Rattle.bus_spec.specs.Cluster.{cluster}
use Rattle.cmd_new_laws.proofs.laws.a_cluster_above_terms_has_the_headline.Goals as goal

pub returns : goal.returns
returns c = λ ids terms later members come harmless.
    c.the_headline.ensures ids _ members (harmless_both (cluster ids) come.rows later (c.lawful_rows_do_no_harm.ensures (cluster ids) come.rows come.lawful) harmless)
