-- A server of which only the queue may have changed, and did not, is the server that it was.
use Rattle.std.proofs.Common.{◌≡◌, [], Some, None, sym, subst}
use Rattle.std.proofs.Props.{props}
use Rattle.disk_model.specs.declared.disk.Disk.{Ghosts}
use Rattle.kv_store.specs.declared.fault.Fault.{Fault}
use Rattle.raft_core.specs.OneFit.{ReachesUpTo-prop}
use Rattle.raft_log.specs.DurableViews.{durable_fault}
use Rattle.transfer_rx.specs.Views.{setting_of}
use Rattle.alloc_spec.specs.Accepted as accepted
use Rattle.alloc_spec.specs.Outbox.{Waiting}
use Rattle.alloc_handlers.specs.declared.member.Member.{Member}
use Rattle.alloc_handlers.specs.Stands.{IsReady}
use Rattle.alloc_server.specs.declared.server.Server.{Server}

module _ {D F : Type 0} {disk : Ghosts D} (s : Server D F disk) where
  abbrev pub with_outbox : Waiting → Member D disk
  with_outbox w = record s.member { outbox = w }

  abbrev pub IsSameWith : Waiting → Type 0
  IsSameWith w =
      (rows : (setting_of s.receiver).rows ≡ accepted.rows) (ready : s.fault ≡ None → IsReady (with_outbox w)) (kept : durable_fault s.member.durable ≡ s.fault)
      (silent : (why : Fault) → s.fault ≡ Some why → w.queue ≡ []) → let
      server : Server D F disk = record { member = with_outbox w; receiver = s.receiver; fault = s.fault; rows = rows; ready = ready; kept = kept; silent = silent } in
      server ≡ s

  rows_once : IsProp ((setting_of s.receiver).rows ≡ accepted.rows)
  rows_once = hlevel props

  ready_once : IsProp (s.fault ≡ None → IsReady s.member)
  ready_once = hlevel (props, ReachesUpTo-prop)

  kept_once : IsProp (durable_fault s.member.durable ≡ s.fault)
  kept_once = hlevel props

  silent_once : IsProp ((why : Fault) → s.fault ≡ Some why → s.member.outbox.queue ≡ [])
  silent_once = hlevel props

  pub unchanged : (w : Waiting) → w ≡ s.member.outbox → IsSameWith w
  unchanged w same = subst IsSameWith (sym same) (λ rows ready kept silent. λ i. record {
    member = s.member;
    receiver = s.receiver;
    fault = s.fault;
    rows = rows_once rows s.rows i;
    ready = ready_once ready s.ready i;
    kept = kept_once kept s.kept i;
    silent = silent_once silent s.silent i;
  })
