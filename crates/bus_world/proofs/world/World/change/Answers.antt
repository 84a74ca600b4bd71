use Rattle.std.proofs.Common.{refl, subst, sym}
use Rattle.std.specs.Prelude.{IfErr, IfOk, OnOk}
use Rattle.bus_rows.specs.declared.row.Row.{Row}
use Rattle.bus_rows.specs.declared.row.Row.TheVariants.{Open, Tick, Rx, Send, Ext, Crash, Fault}
use Rattle.bus_world.specs.Rows.{Leaves, Refuses, Tells}
use Rattle.bus_world.proofs.Filled.{filled_from}
use Rattle.bus_world.proofs.Within.{LeavesThem, leaves_too, refuses_too, tells_too}
use Rattle.bus_world.proofs.world.World.change.Goals as goal

pub crash-requires : goal.crash-requires
crash-requires g c = record { filled = filled_from c.in-Crash.pattern (c.requires.filled _ _ c.in-Crash.pattern c.in-Crash.is) }

pub come-requires-clause-preferred : goal.come-requires-clause-preferred
come-requires-clause-preferred g c = c.requires.preferred _ _ c.in-AOpen.pref _ _ c.in-AOpen.is

pub returns-in-Open-clause-refused : goal.returns-in-Open-clause-refused
returns-in-Open-clause-refused g c =
    subst (λ (r : Row). IfErr c.«open».result (Refuses c.args.self.now r)) (sym c.in-Open.is) (refuses_too c.args.self.now (Open c.in-Open.n c.in-Open.told c.in-Open.ms c.in-Open.word) c.«open».result c.«open».ensures.refused)

pub returns-in-Open-clause-told : goal.returns-in-Open-clause-told
returns-in-Open-clause-told g c =
    subst (λ (r : Row). IfOk c.«open».result (Tells c.args.self.now r)) (sym c.in-Open.is) (tells_too c.args.self.now (Open c.in-Open.n c.in-Open.told c.in-Open.ms c.in-Open.word) c.«open».result c.«open».ensures.told)

pub returns-in-Open-clause-leaves : goal.returns-in-Open-clause-leaves
returns-in-Open-clause-leaves g c =
    subst (λ (r : Row). OnOk c.«open».result (LeavesThem c.args.self.now c.«open».new.self r)) (sym c.in-Open.is) (leaves_too c.args.self.now c.«open».new.self (Open c.in-Open.n c.in-Open.told c.in-Open.ms c.in-Open.word) (λ w. refl) c.«open».result c.«open».ensures.leaves)

pub returns-in-Tick-clause-refused : goal.returns-in-Tick-clause-refused
returns-in-Tick-clause-refused g c =
    subst (λ (r : Row). IfErr c.tick.result (Refuses c.args.self.now r)) (sym c.in-Tick.is) (refuses_too c.args.self.now (Tick c.in-Tick.n c.in-Tick.ms c.in-Tick.word) c.tick.result c.tick.ensures.refused)

pub returns-in-Tick-clause-told : goal.returns-in-Tick-clause-told
returns-in-Tick-clause-told g c =
    subst (λ (r : Row). IfOk c.tick.result (Tells c.args.self.now r)) (sym c.in-Tick.is) (tells_too c.args.self.now (Tick c.in-Tick.n c.in-Tick.ms c.in-Tick.word) c.tick.result c.tick.ensures.told)

pub returns-in-Tick-clause-leaves : goal.returns-in-Tick-clause-leaves
returns-in-Tick-clause-leaves g c =
    subst (λ (r : Row). OnOk c.tick.result (LeavesThem c.args.self.now c.tick.new.self r)) (sym c.in-Tick.is) (leaves_too c.args.self.now c.tick.new.self (Tick c.in-Tick.n c.in-Tick.ms c.in-Tick.word) (λ w. refl) c.tick.result c.tick.ensures.leaves)

pub returns-in-Rx-clause-refused : goal.returns-in-Rx-clause-refused
returns-in-Rx-clause-refused g c =
    subst (λ (r : Row). IfErr c.receive.result (Refuses c.args.self.now r)) (sym c.in-Rx.is) (refuses_too c.args.self.now (Rx c.in-Rx.n c.in-Rx.k c.in-Rx.ms) c.receive.result c.receive.ensures.refused)

pub returns-in-Rx-clause-told : goal.returns-in-Rx-clause-told
returns-in-Rx-clause-told g c =
    subst (λ (r : Row). IfOk c.receive.result (Tells c.args.self.now r)) (sym c.in-Rx.is) (tells_too c.args.self.now (Rx c.in-Rx.n c.in-Rx.k c.in-Rx.ms) c.receive.result c.receive.ensures.told)

pub returns-in-Rx-clause-leaves : goal.returns-in-Rx-clause-leaves
returns-in-Rx-clause-leaves g c =
    subst (λ (r : Row). OnOk c.receive.result (LeavesThem c.args.self.now c.receive.new.self r)) (sym c.in-Rx.is) (leaves_too c.args.self.now c.receive.new.self (Rx c.in-Rx.n c.in-Rx.k c.in-Rx.ms) (λ w. refl) c.receive.result c.receive.ensures.leaves)

pub returns-in-Send-clause-refused : goal.returns-in-Send-clause-refused
returns-in-Send-clause-refused g c =
    subst (λ (r : Row). IfErr c.send.result (Refuses c.args.self.now r)) (sym c.in-Send.is) (refuses_too c.args.self.now (Send c.in-Send.n) c.send.result c.send.ensures.refused)

pub returns-in-Send-clause-told : goal.returns-in-Send-clause-told
returns-in-Send-clause-told g c =
    subst (λ (r : Row). IfOk c.send.result (Tells c.args.self.now r)) (sym c.in-Send.is) (tells_too c.args.self.now (Send c.in-Send.n) c.send.result c.send.ensures.told)

pub returns-in-Send-clause-leaves : goal.returns-in-Send-clause-leaves
returns-in-Send-clause-leaves g c =
    subst (λ (r : Row). OnOk c.send.result (LeavesThem c.args.self.now c.send.new.self r)) (sym c.in-Send.is) (leaves_too c.args.self.now c.send.new.self (Send c.in-Send.n) (λ w. refl) c.send.result c.send.ensures.leaves)

pub returns-in-Ext-clause-refused : goal.returns-in-Ext-clause-refused
returns-in-Ext-clause-refused g c =
    subst (λ (r : Row). IfErr c.hear_outside.result (Refuses c.args.self.now r)) (sym c.in-Ext.is) (refuses_too c.args.self.now (Ext c.in-Ext.frame) c.hear_outside.result c.hear_outside.ensures.refused)

pub returns-in-Ext-clause-told : goal.returns-in-Ext-clause-told
returns-in-Ext-clause-told g c =
    subst (λ (r : Row). IfOk c.hear_outside.result (Tells c.args.self.now r)) (sym c.in-Ext.is) (tells_too c.args.self.now (Ext c.in-Ext.frame) c.hear_outside.result c.hear_outside.ensures.told)

pub returns-in-Ext-clause-leaves : goal.returns-in-Ext-clause-leaves
returns-in-Ext-clause-leaves g c =
    subst (λ (r : Row). OnOk c.hear_outside.result (LeavesThem c.args.self.now c.hear_outside.new.self r)) (sym c.in-Ext.is) (leaves_too c.args.self.now c.hear_outside.new.self (Ext c.in-Ext.frame) (λ w. refl) c.hear_outside.result c.hear_outside.ensures.leaves)

pub returns-in-Crash-clause-refused : goal.returns-in-Crash-clause-refused
returns-in-Crash-clause-refused g c =
    subst (λ (r : Row). IfErr c.crash.result (Refuses c.args.self.now r)) (sym c.in-Crash.is) (refuses_too c.args.self.now (Crash c.in-Crash.n c.in-Crash.calls c.in-Crash.pattern) c.crash.result c.crash.ensures.refused)

pub returns-in-Crash-clause-told : goal.returns-in-Crash-clause-told
returns-in-Crash-clause-told g c =
    subst (λ (r : Row). IfOk c.crash.result (Tells c.args.self.now r)) (sym c.in-Crash.is) (tells_too c.args.self.now (Crash c.in-Crash.n c.in-Crash.calls c.in-Crash.pattern) c.crash.result c.crash.ensures.told)

pub returns-in-Crash-clause-leaves : goal.returns-in-Crash-clause-leaves
returns-in-Crash-clause-leaves g c =
    subst (λ (r : Row). OnOk c.crash.result (LeavesThem c.args.self.now c.crash.new.self r)) (sym c.in-Crash.is) (leaves_too c.args.self.now c.crash.new.self (Crash c.in-Crash.n c.in-Crash.calls c.in-Crash.pattern) (λ w. refl) c.crash.result c.crash.ensures.leaves)

pub returns-in-Fault-clause-refused : goal.returns-in-Fault-clause-refused
returns-in-Fault-clause-refused g c =
    subst (λ (r : Row). IfErr c.fault.result (Refuses c.args.self.now r)) (sym c.in-Fault.is) (refuses_too c.args.self.now (Fault c.in-Fault.n c.in-Fault.call) c.fault.result c.fault.ensures.refused)

pub returns-in-Fault-clause-told : goal.returns-in-Fault-clause-told
returns-in-Fault-clause-told g c =
    subst (λ (r : Row). IfOk c.fault.result (Tells c.args.self.now r)) (sym c.in-Fault.is) (tells_too c.args.self.now (Fault c.in-Fault.n c.in-Fault.call) c.fault.result c.fault.ensures.told)

pub returns-in-Fault-clause-leaves : goal.returns-in-Fault-clause-leaves
returns-in-Fault-clause-leaves g c =
    subst (λ (r : Row). OnOk c.fault.result (LeavesThem c.args.self.now c.fault.new.self r)) (sym c.in-Fault.is) (leaves_too c.args.self.now c.fault.new.self (Fault c.in-Fault.n c.in-Fault.call) (λ w. refl) c.fault.result c.fault.ensures.leaves)

pub returns-in-AOpen-clause-refused : goal.returns-in-AOpen-clause-refused
returns-in-AOpen-clause-refused g c =
    subst (λ (r : Row). IfErr c.come.result (Refuses c.args.self.now r)) (sym c.in-AOpen.is) c.come.ensures.refused

pub returns-in-AOpen-clause-told : goal.returns-in-AOpen-clause-told
returns-in-AOpen-clause-told g c =
    subst (λ (r : Row). IfOk c.come.result (Tells c.args.self.now r)) (sym c.in-AOpen.is) c.come.ensures.told

pub returns-in-AOpen-clause-leaves : goal.returns-in-AOpen-clause-leaves
returns-in-AOpen-clause-leaves g c =
    subst (λ (r : Row). OnOk c.come.result (Leaves c.args.self.now c.come.new.self r)) (sym c.in-AOpen.is) c.come.ensures.leaves

pub returns-in-ATick-clause-refused : goal.returns-in-ATick-clause-refused
returns-in-ATick-clause-refused g c =
    subst (λ (r : Row). IfErr c.ask.result (Refuses c.args.self.now r)) (sym c.in-ATick.is) c.ask.ensures.refused

pub returns-in-ATick-clause-told : goal.returns-in-ATick-clause-told
returns-in-ATick-clause-told g c =
    subst (λ (r : Row). IfOk c.ask.result (Tells c.args.self.now r)) (sym c.in-ATick.is) c.ask.ensures.told

pub returns-in-ATick-clause-leaves : goal.returns-in-ATick-clause-leaves
returns-in-ATick-clause-leaves g c =
    subst (λ (r : Row). OnOk c.ask.result (Leaves c.args.self.now c.ask.new.self r)) (sym c.in-ATick.is) c.ask.ensures.leaves

pub returns-in-ARx-clause-refused : goal.returns-in-ARx-clause-refused
returns-in-ARx-clause-refused g c =
    subst (λ (r : Row). IfErr c.hear.result (Refuses c.args.self.now r)) (sym c.in-ARx.is) c.hear.ensures.refused

pub returns-in-ARx-clause-told : goal.returns-in-ARx-clause-told
returns-in-ARx-clause-told g c =
    subst (λ (r : Row). IfOk c.hear.result (Tells c.args.self.now r)) (sym c.in-ARx.is) c.hear.ensures.told

pub returns-in-ARx-clause-leaves : goal.returns-in-ARx-clause-leaves
returns-in-ARx-clause-leaves g c =
    subst (λ (r : Row). OnOk c.hear.result (Leaves c.args.self.now c.hear.new.self r)) (sym c.in-ARx.is) c.hear.ensures.leaves

pub returns-in-ASend-clause-refused : goal.returns-in-ASend-clause-refused
returns-in-ASend-clause-refused g c =
    subst (λ (r : Row). IfErr c.put.result (Refuses c.args.self.now r)) (sym c.in-ASend.is) c.put.ensures.refused

pub returns-in-ASend-clause-told : goal.returns-in-ASend-clause-told
returns-in-ASend-clause-told g c =
    subst (λ (r : Row). IfOk c.put.result (Tells c.args.self.now r)) (sym c.in-ASend.is) c.put.ensures.told

pub returns-in-ASend-clause-leaves : goal.returns-in-ASend-clause-leaves
returns-in-ASend-clause-leaves g c =
    subst (λ (r : Row). OnOk c.put.result (Leaves c.args.self.now c.put.new.self r)) (sym c.in-ASend.is) c.put.ensures.leaves

pub returns-in-AEnd-clause-refused : goal.returns-in-AEnd-clause-refused
returns-in-AEnd-clause-refused g c =
    subst (λ (r : Row). IfErr c.leave.result (Refuses c.args.self.now r)) (sym c.in-AEnd.is) c.leave.ensures.refused

pub returns-in-AEnd-clause-told : goal.returns-in-AEnd-clause-told
returns-in-AEnd-clause-told g c =
    subst (λ (r : Row). IfOk c.leave.result (Tells c.args.self.now r)) (sym c.in-AEnd.is) c.leave.ensures.told

pub returns-in-AEnd-clause-leaves : goal.returns-in-AEnd-clause-leaves
returns-in-AEnd-clause-leaves g c =
    subst (λ (r : Row). OnOk c.leave.result (Leaves c.args.self.now c.leave.new.self r)) (sym c.in-AEnd.is) c.leave.ensures.leaves
