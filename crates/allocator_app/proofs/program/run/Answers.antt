use Rattle.std.proofs.Common.{inl, inr, refl, sym, subst, ◌∙◌}
use Rattle.std.proofs.lemmas.Bool.{true≢false}
use Rattle.bus_spec.specs.Cluster.{cluster}
use Rattle.allocator_app.specs.Promise.{KeepsPromise}
use Rattle.allocator_app.specs.Told.{told_rules}
use Rattle.allocator_app.specs.Words.{HasObjects}
use Rattle.allocator_app.specs.declared.plans.Plan.TheVariants.{Replay}
use Rattle.allocator_app.proofs.Ending.{all_lawful, completed, holds_along}
use Rattle.allocator_app.proofs.Needs.{no_disks_used, no_links_used}
use Rattle.allocator_app.proofs.OnePlan.{only, only_audit, only_convert, only_decode, only_new, only_node, only_replace, only_replay, only_soak, only_watch}
use Rattle.allocator_app.proofs.Traces.{in_traces}
use Rattle.allocator_app.proofs.program.run.Goals as goal

pub returns-then-not-has_objects-clause-usage : goal.returns-then-not-has_objects-clause-usage
returns-then-not-has_objects-clause-usage g c = (
  λ e asked.
      let same = only c.in-Some.plan _ c.in-Some.ensures.some asked.plan asked.is in
      let objects = subst (λ plan. HasObjects plan c.args.links.now c.args.disks.now) (sym same) asked.objects in
      true≢false (sym (c.has_objects.ensures.1 objects) ∙ c.if-not-has_objects.true),
  λ other. refl,
)

pub returns-clause-schedule : goal.returns-clause-schedule
returns-clause-schedule g c = λ limit nodes asks.
    inr (rw (only_replay c.in-Some.plan _ c.in-Some.ensures.some limit nodes asks) at c.follow.ensures.followed)

pub returns-clause-headline : goal.returns-clause-headline
returns-clause-headline g c = λ limit nodes bytes asks told over.
    let replays = rw (only_replay c.in-Some.plan _ c.in-Some.ensures.some limit nodes asks) at c.follow.ensures.followed in
    holds_along KeepsPromise (λ ids rows members lawful. let harmless = c.lawful_rows_do_no_harm.ensures (cluster ids) rows lawful in record {
      headline = c.the_headline.ensures ids rows members harmless;
      allocatees = c.the_allocatees.ensures ids rows members harmless;
      safe = c.rows_are_safe.ensures ids rows members harmless;
    }) c.follow.result limit nodes bytes _ _ _ asks.members
    (replays.ends bytes told) over

pub returns-clause-complete : goal.returns-clause-complete
returns-clause-complete g c = λ limit nodes bytes report status asks none told said read write.
    let replays = rw (only_replay c.in-Some.plan _ c.in-Some.ensures.some limit nodes asks) at c.follow.ensures.followed in
    completed c.a_line_has_one_row.ensures c.follow.result limit (cluster nodes) bytes report status _ _ _
    (replays.ends bytes told) said
    (λ is. read (c.follow.ensures.source_kept.rose is)) (λ is. write (c.follow.ensures.sink_kept.rose is))

pub returns-clause-finishes : goal.returns-clause-finishes
returns-clause-finishes g c = λ limit nodes bytes rows asks none told reads few lawful read write.
    let replays = rw (only_replay c.in-Some.plan _ c.in-Some.ensures.some limit nodes asks) at c.follow.ensures.followed in
    completed c.a_line_has_one_row.ensures c.follow.result limit (cluster nodes) bytes _ _ _ _ _
    (replays.ends bytes told)
    (all_lawful limit nodes bytes rows reads few lawful)
    (λ is. read (c.follow.ensures.source_kept.rose is)) (λ is. write (c.follow.ensures.sink_kept.rose is))

pub returns-clause-soak : goal.returns-clause-soak
returns-clause-soak g c = λ told seed rounds size asks.
    let rows = c.rows_are_lawful.ensures in
    let members = rows.members size asks.sized.least asks.sized.most in
    let harmless = c.lawful_rows_do_no_harm.ensures _ _ (rows.rows told seed rounds size).lawful in
    let soaks = rw (only_soak c.in-Some.plan _ c.in-Some.ensures.some told seed rounds size asks) at c.follow.ensures.followed in
    inr (
      soaks,
      record {
        headline = c.the_headline.ensures _ _ members harmless;
        allocatees = c.the_allocatees.ensures _ _ members harmless;
        safe = c.rows_are_safe.ensures _ _ members harmless;
      },
    )

pub returns-clause-nodes : goal.returns-clause-nodes
returns-clause-nodes g c = λ told base turns ids asks.
    inr (in_traces g.L.Link.coming g.L.Link.sent g.L.Link.faults g.D.Disk (told_rules told) turns ids c.args.links.now c.follow.new.links
    c.args.disks.now c.follow.new.disks (g.C.Clock.readings c.args.clock.now) (g.C.Clock.readings c.follow.new.clock)
    (g.K.Sink.faults c.args.sink.now) (g.K.Sink.faults c.follow.new.sink) (g.K.Sink.written c.args.sink.now) (g.K.Sink.written c.follow.new.sink) c.follow.result
    c.runs_of_node_are_rows.ensures.done c.runs_of_node_are_rows.ensures.cut c.runs_of_node_are_rows.ensures.opening (λ ids trace members may. record {
      headline = c.traces_do_no_harm.ensures.headline ids trace members may;
      allocatees = c.traces_do_no_harm.ensures.allocatees ids trace members may;
      safe = c.traces_do_no_harm.ensures.safe ids trace members may;
    }) (c.runs_stand_on_a_bus.ensures (told_rules told) ids) (rw (only_node c.in-Some.plan _ c.in-Some.ensures.some told base turns ids asks) at c.follow.ensures.followed))

pub returns-clause-new : goal.returns-clause-new
returns-clause-new g c = λ term ids asks.
    inr (rw (only_new c.in-Some.plan _ c.in-Some.ensures.some term ids asks) at c.follow.ensures.followed)

pub returns-clause-replace : goal.returns-clause-replace
returns-clause-replace g c = λ lost ids asks.
    inr (rw (only_replace c.in-Some.plan _ c.in-Some.ensures.some lost ids asks) at c.follow.ensures.followed)

pub returns-clause-audit : goal.returns-clause-audit
returns-clause-audit g c = λ ids asks.
    inr (rw (only_audit c.in-Some.plan _ c.in-Some.ensures.some ids asks) at c.follow.ensures.followed)

pub returns-clause-watch : goal.returns-clause-watch
returns-clause-watch g c = λ form lines ids asks.
    inr (rw (only_watch c.in-Some.plan _ c.in-Some.ensures.some form lines ids asks) at c.follow.ensures.followed)

pub returns-clause-convert : goal.returns-clause-convert
returns-clause-convert g c = λ from to lines asks.
    inr (rw (only_convert c.in-Some.plan _ c.in-Some.ensures.some from to lines asks) at c.follow.ensures.followed)

pub returns-clause-decode : goal.returns-clause-decode
returns-clause-decode g c = λ name part payload asks.
    inr (rw (only_decode c.in-Some.plan _ c.in-Some.ensures.some name part payload asks) at c.follow.ensures.followed)

-- words that have no plan ask for no schedule

pub returns-in_default-clause-complete : goal.returns-in_default-clause-complete
returns-in_default-clause-complete g c = λ limit nodes bytes report status asks none told said read write.
    absurd (c.in_default.ensures.none refl (Replay limit (record { items = nodes })) asks)

pub returns-in_default-clause-finishes : goal.returns-in_default-clause-finishes
returns-in_default-clause-finishes g c = λ limit nodes bytes rows asks none told reads few lawful read write.
    absurd (c.in_default.ensures.none refl (Replay limit (record { items = nodes })) asks)

-- what the plan does not use

pub returns-clause-unread : goal.returns-clause-unread
returns-clause-unread g c = λ none. elim c.follow.ensures.unread [
  | inl reads ↦ absurd (none (record { plan = c.in-Some.plan; is = c.in-Some.ensures.some; kind = reads }))
  | inr same ↦ same
]

pub returns-clause-idle : goal.returns-clause-idle
returns-clause-idle g c = λ none. elim c.follow.ensures.idle [
  | inl uses ↦ absurd (none (record { plan = c.in-Some.plan; is = c.in-Some.ensures.some; kind = uses }))
  | inr same ↦ same
]

pub returns-clause-objects : goal.returns-clause-objects
returns-clause-objects g c = λ none.
    let has = c.has_objects.ensures.0 c.if-not-has_objects.false in
    elim c.follow.ensures.idle [
      | inl uses ↦ absurd (no_links_used c.in-Some.plan _ _ _ c.in-Some.ensures.some uses has none)
      | inr idle ↦ elim c.follow.ensures.disks [
        | inl uses ↦ absurd (no_disks_used c.in-Some.plan _ _ _ c.in-Some.ensures.some uses has none)
        | inr same ↦ (idle.0, same, idle.1)
      ]
    ]
