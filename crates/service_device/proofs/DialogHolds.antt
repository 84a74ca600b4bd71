-- A device whose unique ID the leader's log has holds its node ID in time.
use Rattle.std.proofs.Common.{ℕ, ◌+◌, ◌*◌, ◌<◌, ◌≤◌, Bool, List, [], ◌∷◌, refl, sym, ◌∙◌, ap, subst, arith, inl, inr}
use Rattle.can_frame.specs.declared.entry.Entry.{Entry}
use Rattle.can_frame.specs.Log.{IsInjective}
use Rattle.raft_model.specs.Invariants.{Invariants}
use Rattle.raft_model.specs.Lists.{In}
use Rattle.raft_model.specs.Runs as raft
use Rattle.raft_model.specs.Server.{RaftServer}
use Rattle.bus_rows.specs.declared.row.Row.{Row}
use Rattle.alloc_spec.specs.Transfers.{SentTransfer}
use Rattle.bus_agreement.specs.Shows.{Shows, ShowsMember, ShowsUp}
use Rattle.bus_rows.specs.Timed.{Timed}
use Rattle.service_alone.specs.Calm.{HasSettled, end_of}
use Rattle.service_calm.specs.Calm.{AreCalm, IsCalmRow, IsInTime, Member as OfMember, Traffic, traffic_after}
use Rattle.service_device.specs.Dialog.{HoldsBy}
use Rattle.service_device.proofs.Dialog.{AllKnown, goes_on}
use Rattle.service_device.proofs.DialogFrames.{HasSource}
use Rattle.service_device.proofs.DialogPhases.{FromBus, Phase, ahead, last}
use Rattle.service_device.proofs.DialogScene.{Known, Talk}
use Rattle.service_device.proofs.DialogTold.{IsTelling, Stands, tell_end, telling_goes_on, tells_it}
use Rattle.service_calm.proofs.Ways.{Flying}
use Rattle.bus_spec.specs.Cluster.{Cluster, after_row}
use Rattle.bus_spec.specs.Members.{MemberStatus}

-- the log of a member that has settled is injective
pub its_log_is_injective : (choice : ℕ → Bool) (made : List SentTransfer) (w : Cluster) (run : raft.World) → Shows choice made w run → Invariants run → (n : ℕ) → In n w.ids
    → (log : List Entry) (now : ℕ) → HasSettled n log now w → IsInjective log
its_log_is_injective choice made w run shows invariants n listed log now h =
    let is : ShowsUp made w.ids w.frames run n h.server (w.member n).disk
    = subst (λ (status : MemberStatus). ShowsMember choice made w.ids w.frames run n status (w.member n).disk) h.runs (shows.lives n listed) in
    subst IsInjective (ap (λ (x : RaftServer). x.store.log) is.runs.raft_server ∙ h.log_is) (invariants.stores n).injective

module _ (g : Talk) (node : ℕ) (stand : Stands g.log g.uid node) where
  abbrev Last : ℕ
  Last = g.start + (1800 + 3 * g.pace.period + 10 * g.pace.delay + 2 * g.pace.delay)

  abbrev HeldBy : ℕ → Cluster → List Timed → Type 0
  HeldBy moment w rows = HoldsBy g.n g.a g.log (ahead g) g.uid node moment Last w rows

  behind : (moment : ℕ) (w : Cluster) (timed : Timed) (rest : List Timed) → HeldBy timed.at (after_row w timed.row) rest → HeldBy moment w (timed ∷ rest)
  behind moment w timed rest by = record {
    front = timed ∷ by.front;
    rest = by.rest;
    split = ap (λ (l : List Timed). timed ∷ l) by.split;
    soon = by.soon;
    holds = by.holds;
    settled = by.settled;
  }

  -- the row in which the leader hears the whole unique ID
  told_row : (traffic : Traffic) (w : Cluster) (timed : Timed) → FromBus g traffic w timed → IsInTime g.group g.clocks g.pace traffic w timed.at → timed.at ≤ last g
      → IsCalmRow g.group g.clocks g.pace traffic w timed.at timed.row → Known g traffic.at w timed → IsTelling g node stand (traffic_after traffic w timed) (after_row w timed.row)
  told_row traffic w timed (p, k, ms, is, same, fly) in_time by calm known =
      subst (λ (row : Row). IsCalmRow g.group g.clocks g.pace traffic w timed.at row → Known g traffic.at w (record { at = timed.at; row = row })
      → Flying HasSource g.pace.delay (after_row w row).frames ((traffic_after traffic w (record { at = timed.at; row = row })).to (OfMember g.n)) []
      → IsTelling g node stand (traffic_after traffic w (record { at = timed.at; row = row })) (after_row w row)) (sym is)
      (λ calm_ known_ fly_. tells_it g node stand traffic w p timed.at in_time by k ms calm_ known_ same fly_) calm known fly

  -- the answer is under way
  telling_by : (rows : List Timed) (traffic : Traffic) (w : Cluster) → IsTelling g node stand traffic w → AreCalm g.group g.clocks g.pace traffic w rows
      → AllKnown g traffic.at w rows → traffic.at ≤ Last → Last < end_of traffic.at rows → HeldBy traffic.at w rows
  telling_by [] traffic w is calm known now long = absurd (omega (arith, now, long))
  telling_by (timed ∷ rest) traffic w is calm known now long = elim (telling_goes_on g node stand traffic w is timed.at calm.0 timed.row calm.1 known.0) [
    | inl then_is ↦ behind traffic.at w timed rest
        (telling_by rest (traffic_after traffic w timed) (after_row w timed.row) then_is calm.2 known.1
        (let e = tell_end g node stand traffic w is timed.at calm.0 in omega (arith, e)) long)
    | inr told ↦ record {
      front = timed ∷ [];
      rest = rest;
      split = refl;
      soon = let e = tell_end g node stand traffic w is timed.at calm.0 in omega (arith, e);
      holds = told.0;
      settled = told.1;
    }
  ]

  -- from the first phase on
  pub held_by : (rows : List Timed) (traffic : Traffic) (w : Cluster) → Phase g traffic w → AreCalm g.group g.clocks g.pace traffic w rows
      → AllKnown g traffic.at w rows → traffic.at ≤ Last → Last < end_of traffic.at rows → HeldBy traffic.at w rows
  held_by [] traffic w phase calm known now long = absurd (omega (arith, now, long))
  held_by (timed ∷ rest) traffic w phase calm known now long =
      let r = goes_on g traffic w timed phase calm.0 calm.1 known.0 in
      elim r.1 [
        | inl then_phase ↦ behind traffic.at w timed rest
            (held_by rest (traffic_after traffic w timed) (after_row w timed.row) then_phase calm.2 known.1 (let b = r.0 in omega (arith, b)) long)
        | inr heard ↦
            let then_is = told_row traffic w timed heard.2 calm.0 r.0 calm.1 known.0 in
            behind traffic.at w timed rest
            (telling_by rest (traffic_after traffic w timed) (after_row w timed.row) then_is calm.2 known.1 (let b = r.0 in omega (arith, b)) long)
      ]
