use Rattle.std.proofs.Common.{rules, ◌≡◌, refl, sym, subst}
use Rattle.std.specs.Prelude.{None}
use Rattle.kv_store.specs.StoreViews.{store_fault, store_map}
use Rattle.raft_log.specs.Changes.{next_for, put_of}
use Rattle.raft_log.specs.Rules.{Stores}
use Rattle.raft_log.specs.StateViews.{stored_of}
use Rattle.raft_log.proofs.OnePut.{allowed_change, now_stores, put_done, put_failed}
use Rattle.raft_log.proofs.durable.Durable.make.Goals as goal

pub returns-in_err-put-clause-puts : goal.returns-in_err-put-clause-puts
returns-in_err-put-clause-puts g c =
    let old = c.args.self.now in
    let s = stored_of old.state in
    let allowed = allowed_change c.args.change s c.requires.may c.value-value.ensures.fits in
    put_failed (next_for c.args.change) (put_of c.args.change s) old _ c.key.result c.value-value.result.items c.key.ensures c.value-value.ensures.bytes c.requires.next allowed
    _ c.in_err-put.field-0.0 (search rules) c.put.ensures.tells refl c.put.ensures.stop c.in_err-put.ensures.made

pub invariant_of-self-2 : goal.invariant_of-self-2
invariant_of-self-2 g c =
    let old = c.args.self.now in
    let s = stored_of old.state in
    let put = put_of c.args.change s in
    let new = store_map c.put.new.self in
    let allowed = allowed_change c.args.change s c.requires.may c.value-value.ensures.fits in
    let works : store_fault old.store ≡ None = search rules in
    let has = now_stores (store_map old.store) s (next_for c.args.change) put c.key.result c.value-value.result.items c.key.ensures c.value-value.ensures.bytes (old.stored works) c.requires.next allowed new c.in_ok-put.ensures.put in
    let stored = subst (λ x. Stores new x) (sym c.make.ensures) has in
    record { stored = λ _. stored; storable = stored.storable }

pub returns-clause-puts : goal.returns-clause-puts
returns-clause-puts g c =
    let old = c.args.self.now in
    let s = stored_of old.state in
    let allowed = allowed_change c.args.change s c.requires.may c.value-value.ensures.fits in
    put_done (next_for c.args.change) (put_of c.args.change s) old _ c.key.result c.value-value.result.items c.key.ensures c.value-value.ensures.bytes c.requires.next allowed
    c.in_ok-put.ensures.works c.make.ensures c.in_ok-put.ensures.durable c.in_ok-put.ensures.made c.in_ok-put.ensures.copies
