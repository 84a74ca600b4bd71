use Rattle.cmd_node_laws.proofs.Ranks.{one_word, word_below, words_apart, words_shorter}
use Rattle.cmd_node_laws.proofs.laws.members_wait_apart.Goals as goal

pub returns-clause-same : goal.returns-clause-same
returns-clause-same c = one_word

pub returns-clause-spread : goal.returns-clause-spread
returns-clause-spread c = word_below

pub returns-clause-apart : goal.returns-clause-apart
returns-clause-apart c = words_apart

pub returns-clause-shorter : goal.returns-clause-shorter
returns-clause-shorter c = words_shorter
