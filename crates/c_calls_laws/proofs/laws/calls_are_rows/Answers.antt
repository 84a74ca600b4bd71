use Rattle.std.proofs.Common.{ℕ, zero, suc, [], ◌++◌, length, subst, sym, false, true}
use Rattle.raft_core.specs.StoredPuts.{store_of}
use Rattle.raft_log.specs.DurableViews.{durable_state}
use Rattle.alloc_server.specs.Server.{durable_of}
use Rattle.alloc_spec.specs.AllocatorState.{opening}
use Rattle.alloc_spec.specs.Rules.{opening_by, rules_by}
use Rattle.bus_spec.specs.Cluster.{Cluster, after_row, cluster, world_of}
use Rattle.cmd_node_laws.proofs.Places.{after_both}
use Rattle.cmd_node_laws.proofs.Turning.{MarkLaws}
use Rattle.bus_rows.specs.declared.row.Row.TheVariants.{Open}
use Rattle.c_calls.specs.declared.node.Node.{Node}
use Rattle.c_calls.specs.At.{first_bytes, low}
use Rattle.c_calls_laws.specs.OnBus.{IsMember, all_rows, calls_in}
use Rattle.c_calls_laws.proofs.Opening.{both, is_opened}
use Rattle.c_calls_laws.proofs.Following.{all_follow}
use Rattle.c_calls_laws.proofs.laws.calls_are_rows.Goals as goal

abbrev two : Node → Node → ℕ → Node
two first second zero = first
two first second (suc k) = second

pub returns-clause-opened : goal.returns-clause-opened
returns-clause-opened c = λ w n closed opened now a b is.
    both opened.server _ _ (IsMember n (after_row w (Open n false now (low a))) opened) (λ server stored stands.
    let store = store_of (durable_state (durable_of server)) in
    is_opened c.an_opening_keeps_the_store.ensures w n false now (low a) opened store (opening closed.id closed.size store now (low a))
    is.calm stored (λ i. opening (is.id i) (is.size i) store now (low a)) stands)
    is.stored (c.calls_are_steps.ensures.opened [] (λ k. opened) closed now a b is.done tt)

pub returns-clause-told : goal.returns-clause-told
returns-clause-told c = λ w n closed opened node now a b later list count is learns all.
    both opened.server _ _ (IsMember n (after_row w (Open n true now (low a))) node) (λ server stored stands.
    let store = store_of (durable_state (durable_of server)) in
    is_opened c.an_opening_keeps_the_store.ensures w n true now (low a) node store (opening_by closed.id (rules_by closed.size (first_bytes count list)) store now (low a))
    is.calm stored (λ i. opening_by (is.id i) (rules_by (is.size i) (all i)) store now (low a)) stands)
    is.stored (c.calls_are_steps.ensures.told [] (two opened node) closed now a b later list count is.done (learns, tt))

pub returns-clause-follows : goal.returns-clause-follows
returns-clause-follows c = λ w n trace at is may run.
    let marks : MarkLaws = record { step = c.marks_change_marks_alone.ensures.step; popped = c.marks_change_marks_alone.ensures.popped; next = c.marks_change_marks_alone.ensures.next } in
    (all_follow marks c.calls_are_steps.ensures.steps n trace w at is may run).is

pub returns-clause-sent : goal.returns-clause-sent
returns-clause-sent c = λ w n trace at is may run.
    let marks : MarkLaws = record { step = c.marks_change_marks_alone.ensures.step; popped = c.marks_change_marks_alone.ensures.popped; next = c.marks_change_marks_alone.ensures.next } in
    (all_follow marks c.calls_are_steps.ensures.steps n trace w at is may run).sent

pub returns-clause-headline : goal.returns-clause-headline
returns-clause-headline c = λ ids n before trace at members harmless is may run.
    let marks : MarkLaws = record { step = c.marks_change_marks_alone.ensures.step; popped = c.marks_change_marks_alone.ensures.popped; next = c.marks_change_marks_alone.ensures.next } in (
      c.the_headline.ensures ids (before ++ all_rows n trace) members harmless,
      subst (λ (v : Cluster). IsMember n v (at (length (calls_in trace)))) (sym (after_both (cluster ids) before (all_rows n trace)))
          (all_follow marks c.calls_are_steps.ensures.steps n trace (world_of ids before) at is may run).is,
    )
