use Rattle.std.proofs.Common.{◌≡◌, true, ap, sym, subst, ◌∙◌}
use Rattle.kv_store.specs.Image.{StandsFor}
use Rattle.kv_store.specs.TableViews.{table_copy, table_map}
use Rattle.kv_store.proofs.DeviceCalls.{only_image}
use Rattle.kv_store.proofs.Tables.{held}
use Rattle.kv_store.proofs.store.Store.reopen.Goals as goal

pub invariant_of-self-in-Ok : goal.invariant_of-self-in-Ok
invariant_of-self-in-Ok g c = record {
  holds = λ none told.
      let told' : g.D.Disk.tells c.close.new.self.disk ≡ true = sym c.load.ensures.tells ∙ told in
      held (table_map c.refill.new.self) (table_copy c.refill.new.self) c.load.result c.if-is_err.ensures.negation told' c.load.ensures.image c.load.ensures.settled
      (c.load.ensures.images told') c.in-Ok.ensures.map c.in-Ok.ensures.copies;
}

pub returns-in-Ok-clause-durable : goal.returns-in-Ok-clause-durable
returns-in-Ok-clause-durable g c = λ told image left.
    let map = table_map c.refill.new.self in
    let told' : g.D.Disk.tells c.close.new.self.disk ≡ true = ap g.D.Disk.tells c.close.ensures.disk ∙ told in
    let holds = held map (table_copy c.refill.new.self) c.load.result c.if-is_err.ensures.negation told' c.load.ensures.image c.load.ensures.settled
    (c.load.ensures.images told') c.in-Ok.ensures.map c.in-Ok.ensures.copies in
    let only = only_image (g.D.Disk.contents c.load.new.disk) image (g.met.D.Disk.sound c.load.new.disk (c.load.ensures.tells ∙ told')) holds.settled left in
    subst (λ xs. StandsFor xs map) (sym only) holds.shown
