use Rattle.std.proofs.Common.{rules, ◌≡◌, ◌≢◌, ◌+◌, ◌<◌, length, ap, ◌∙◌, sym, subst, arith}
use Rattle.can_frame.specs.declared.entry.Entry.{Entry}
use Rattle.can_frame.specs.declared.step.Role.TheVariants.{Leader}
use Rattle.can_frame.specs.Log.{IsWellFormed}
use Rattle.can_frame.specs.Zeros.{zeros}
use Rattle.raft_log.specs.DurableViews.{durable_state}
use Rattle.raft_core.specs.declared.tell.Telling.TheVariants.{Pair}
use Rattle.raft_core.specs.Telling.{IsToTell}
use Rattle.raft_core.proofs.TellNext.{entry_next, no_device, skips, tells}
use Rattle.raft_core.proofs.raft.Raft.tell.Goals.{in_default-via-in-Some+else-not-is_zero, in_default-via-in_default}
use Rattle.raft_core.proofs.raft.Raft.tell.Goals as goal

pub returns-in_default-clause-says : goal.returns-in_default-clause-says
returns-in_default-clause-says g c = λ members p t st.
    let state = durable_state c.args.d.now in
    let told = c.args.self.now.told in
    let within : told < length state.log = omega arith in
    let formed : IsWellFormed c.entry-entry.result = subst IsWellFormed (sym (c.entry-entry.ensures ∙ entry_next state.log told)) ((c.a_durable_state_is_kept.ensures c.args.d.now).storable.follows told within).formed in
    let zero : c.entry-entry.result.uid ≡ zeros = elim c.in_default.branch [
      | in_default-via-in-Some+else-not-is_zero w ↦ search rules
      | in_default-via-in_default w ↦ no_device c.entry-entry.result formed (search rules)
    ] in
    skips c.args.self.now members state p t st (search rules) (search rules) (ap (λ (e : Entry). e.uid) (sym c.entry-entry.ensures) ∙ zero)

pub returns-in-Some-clause-says : goal.returns-in-Some-clause-says
returns-in-Some-clause-says g c = λ members p t st.
    let state = durable_state c.args.d.now in
    let told = c.args.self.now.told in
    let entry : Entry = c.entry-entry.result in
    let role : c.args.self.now.role ≡ Leader = search rules in
    let below : told < state.commit = omega arith in
    let other : entry.uid ≢ zeros = search rules in
    let node : entry.node ≡ c.in-Some.node = search rules in
    subst (λ (e : Entry). IsToTell p (Pair (told + 1) e.uid c.in-Some.node)) (sym c.entry-entry.ensures)
    (tells c.args.self.now members state p t st role below c.in-Some.node
    (subst (λ (e : Entry). e.uid ≢ zeros) c.entry-entry.ensures other)
    (ap (λ (e : Entry). e.node) (sym c.entry-entry.ensures) ∙ node))
