use Rattle.std.proofs.Common.{ℕ, ◌+◌, ◌∙◌, ap, subst}
use Rattle.alloc_spec.specs.ClusterMembers.{AreMembers}
use Rattle.bus_spec.specs.Cluster.{effect_of, cluster, world_of}
use Rattle.bus_world.proofs.Giving.{formed_at, offers_own}
use Rattle.bus_world.proofs.world.World.row.Goals as goal

pub returns-in-Ok-clause-accepted : goal.returns-in-Ok-clause-accepted
returns-in-Ok-clause-accepted g c = λ w stands.
    let then_ = c.in-Ok.ensures.leaves w stands in record {
      members = record {
        holds = record { ids = then_.0.ids; frames = then_.0.frames; members = then_.0.members; lawful = then_.0.lawful };
        rows = ap (λ (n : ℕ). n + 1) (c.change.ensures.keeps.members.taken ∙ stands.members.rows);
      };
      allocatees = then_.1;
    }

pub returns-in-Ok-clause-kept : goal.returns-in-Ok-clause-kept
returns-in-Ok-clause-kept g c = λ w stands.
    let row = c.args.row.now in
    let then_ = (c.in-Ok.ensures.leaves w stands).0 in
    offers_own c.args.self.now.members w stands.members c.pairs_of_a_step.ensures.committed row
    (formed_at c.change.new.self.members.members.items (effect_of w row) then_.members then_.ids) (c.in-Ok.ensures.told w stands).0

pub returns-in-Ok-clause-headline : goal.returns-in-Ok-clause-headline
returns-in-Ok-clause-headline g c = λ ids rows lawful stands.
    let grows = c.rows_grow_by_one.ensures in
    c.the_headline.ensures ids _ (subst AreMembers (grows.members (cluster ids) rows) stands.members.holds.lawful)
    (c.lawful_rows_do_no_harm.ensures (cluster ids) _
    (grows.lawful (cluster ids) rows c.args.row.now lawful (c.in-Ok.ensures.told (world_of ids rows) stands).0))

pub returns-in-Ok-clause-safe : goal.returns-in-Ok-clause-safe
returns-in-Ok-clause-safe g c = λ ids rows lawful stands.
    let grows = c.rows_grow_by_one.ensures in
    c.rows_are_safe.ensures ids _ (subst AreMembers (grows.members (cluster ids) rows) stands.members.holds.lawful)
    (c.lawful_rows_do_no_harm.ensures (cluster ids) _
    (grows.lawful (cluster ids) rows c.args.row.now lawful (c.in-Ok.ensures.told (world_of ids rows) stands).0))

pub returns-in-Ok-clause-duty : goal.returns-in-Ok-clause-duty
returns-in-Ok-clause-duty g c = λ ids rows lawful stands.
    let grows = c.rows_grow_by_one.ensures in
    c.rows_are_dutiful.ensures ids _ (subst AreMembers (grows.members (cluster ids) rows) stands.members.holds.lawful)
    (c.lawful_rows_do_no_harm.ensures (cluster ids) _
    (grows.lawful (cluster ids) rows c.args.row.now lawful (c.in-Ok.ensures.told (world_of ids rows) stands).0))

pub returns-in-Ok-clause-allocatees : goal.returns-in-Ok-clause-allocatees
returns-in-Ok-clause-allocatees g c = λ ids rows lawful stands.
    let grows = c.rows_grow_by_one.ensures in
    c.the_allocatees.ensures ids _ (subst AreMembers (grows.members (cluster ids) rows) stands.members.holds.lawful)
    (c.lawful_rows_do_no_harm.ensures (cluster ids) _
    (grows.lawful (cluster ids) rows c.args.row.now lawful (c.in-Ok.ensures.told (world_of ids rows) stands).0))
