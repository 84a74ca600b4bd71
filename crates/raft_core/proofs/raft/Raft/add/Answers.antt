use Rattle.std.proofs.Common.{rules, ℕ, List, ◌≡◌, ◌≢◌, ◌<◌, ◌≤◌, ◌∙◌, true, false, Ok, Some, None, refl, sym, ap, subst, length, arith}
use Rattle.can_frame.specs.declared.entry.Entry.{Entry}
use Rattle.can_frame.specs.declared.step.Role.TheVariants.{Leader}
use Rattle.raft_log.specs.DurableViews.{durable_state}
use Rattle.raft_log.specs.MayFollow.{MayFollow}
use Rattle.raft_model.specs.Server.{Store}
use Rattle.raft_core.specs.declared.propose.Proposed.TheVariants.{NotLeader, LogFull, Taken}
use Rattle.raft_core.specs.Proposing.{entry_puts}
use Rattle.raft_core.specs.Stands.{role_of}
use Rattle.raft_core.specs.StoredPuts.{with_origin}
use Rattle.raft_core.specs.Taken.{IsTaken, proposal}
use Rattle.raft_core.proofs.Moving.{leads}
use Rattle.raft_core.proofs.Proposing.{MayBeProposed, added, fits_grown, free_follows, may_not, may_propose, not_tried, same_proposal, same_puts, try_failed}
use Rattle.raft_core.proofs.Puts.{does}
use Rattle.raft_core.proofs.raft.Raft.add.Goals as goal

pub returns-then-ne-clause-appends : goal.returns-then-ne-clause-appends
returns-then-ne-clause-appends g c =
    let follows : c.args.self.now.role ≢ Leader = search rules in
    not_tried c.args.self.now c.args.uid.now c.args.node c.args.origin c.args.d.now (Ok NotLeader) (λ t. t) refl (c.puts_in_turn.ensures.nothing c.args.d.now)
    (λ p store role may. follows (leads c.args.self.now.role (sym role ∙ may.leads)))

pub returns-then-last-ge-LOG_LIMIT-clause-appends : goal.returns-then-last-ge-LOG_LIMIT-clause-appends
returns-then-last-ge-LOG_LIMIT-clause-appends g c =
    let full : 127 ≤ length (durable_state c.args.d.now).log = omega arith in
    not_tried c.args.self.now c.args.uid.now c.args.node c.args.origin c.args.d.now (Ok LogFull) (λ t. t) refl (c.puts_in_turn.ensures.nothing c.args.d.now)
    (λ p store role may. let room = subst (λ (z : Store). length z.log < 127) store may.room in omega (arith, full, room))

pub returns-then-is_taken-clause-appends : goal.returns-then-is_taken-clause-appends
returns-then-is_taken-clause-appends g c =
    let least : 1 ≤ c.args.node = search rules in
    let taken : IsTaken (durable_state c.args.d.now).log c.args.uid.now c.args.node =
    subst (λ (l : List Entry). IsTaken l c.args.uid.now c.args.node) c.log.ensures
    (subst (λ (k : ℕ). IsTaken c.log.result.now c.args.uid.now k) c.get.ensures.number (c.is_taken.ensures.0 c.if-is_taken.true)) in
    not_tried c.args.self.now c.args.uid.now c.args.node c.args.origin c.args.d.now (Ok Taken) (λ t. t) refl (c.puts_in_turn.ensures.nothing c.args.d.now)
    (λ p store role may. may_not c.logs_stay_injective.ensures.reservation c.logs_stay_injective.ensures.pair p (durable_state c.args.d.now) c.args.uid.now c.args.node store least c.requires.node taken may)

pub returns-in_err-append-clause-appends : goal.returns-in_err-append-clause-appends
returns-in_err-append-clause-appends g c =
    let raft = c.args.self.now in
    let s = durable_state c.args.d.now in
    let led : raft.role ≡ Leader = search rules in
    let room : length s.log < 127 = omega arith in
    let least : 1 ≤ c.args.node = search rules in
    let may : MayBeProposed raft c.args.uid.now c.args.node c.args.origin c.args.d.now = λ p store role.
    may_propose c.logs_stay_injective.ensures.reservation c.logs_stay_injective.ensures.pair p s c.args.uid.now c.args.node store (role ∙ ap role_of led) room
    (c.a_durable_state_is_kept.ensures c.args.d.now).storable.injective least c.requires.node (λ taken. search (rules, taken)) in
    let e = proposal s.term c.args.uid.now c.args.node in
    let same = same_proposal s.term c.term.result c.args.node c.get-2.result c.args.uid.now (sym c.term.ensures) (sym c.get-2.ensures.number) in
    try_failed raft c.args.uid.now c.args.node c.args.origin c.args.d.now _ may c.in_err-append.field-0.0 _ (search rules)
    (does (with_origin c.args.origin (entry_puts e)) _ c.args.d.now _ false (Some c.in_err-append.field-0.0) tt refl (same_puts c.args.origin s e _ same) c.in_err-append.ensures.puts c.in_err-append.ensures.fault)

pub returns-clause-appends : goal.returns-clause-appends
returns-clause-appends g c =
    let raft = c.args.self.now in
    let s = durable_state c.args.d.now in
    let led : raft.role ≡ Leader = search rules in
    let room : length s.log < 127 = omega arith in
    let least : 1 ≤ c.args.node = search rules in
    let may : MayBeProposed raft c.args.uid.now c.args.node c.args.origin c.args.d.now = λ p store role.
    may_propose c.logs_stay_injective.ensures.reservation c.logs_stay_injective.ensures.pair p s c.args.uid.now c.args.node store (role ∙ ap role_of led) room
    (c.a_durable_state_is_kept.ensures c.args.d.now).storable.injective least c.requires.node (λ taken. search (rules, taken)) in
    let e = proposal s.term c.args.uid.now c.args.node in
    let same = same_proposal s.term c.term.result c.args.node c.get-2.result c.args.uid.now (sym c.term.ensures) (sym c.get-2.ensures.number) in
    added raft c.args.uid.now c.args.node c.args.origin c.args.d.now _ may
    (does (with_origin c.args.origin (entry_puts e)) _ c.args.d.now _ true None tt refl (same_puts c.args.origin s e _ same) c.in_ok-append.ensures.puts c.in_ok-append.ensures.fault)

pub append-requires-clause-follows : goal.append-requires-clause-follows
append-requires-clause-follows g c =
    let s = durable_state c.args.d.now in
    let least : 1 ≤ c.args.node = search rules in
    let free : IsTaken s.log c.args.uid.now c.args.node → ⊥ = λ taken. search (rules, taken) in
    subst (MayFollow s.log s.term)
    (same_proposal s.term c.term.result c.args.node c.get-2.result c.args.uid.now (sym c.term.ensures) (sym c.get-2.ensures.number))
    (free_follows c.logs_stay_injective.ensures.reservation c.logs_stay_injective.ensures.pair c.logs_stay_injective.ensures.entry s c.args.uid.now c.args.node
    (c.a_durable_state_is_kept.ensures c.args.d.now).storable least c.requires.node free)

pub returns-clause-not_leader : goal.returns-clause-not_leader
returns-clause-not_leader g c =
    let led : c.args.self.now.role ≡ Leader = search rules in
    (λ e. absurd (cc e), λ other. absurd (other led))

pub returns-clause-fits : goal.returns-clause-fits
returns-clause-fits g c = fits_grown c.args.self.now (durable_state c.args.d.now) (durable_state c.append.new.self) _ c.args.origin c.requires.fits (c.in_ok-append.ensures.puts.state refl)
