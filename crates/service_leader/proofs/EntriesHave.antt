-- What a leader knows a member to have the member has; and where a calm begins, what the run says of a leader.
use Rattle.std.proofs.Common.{◌≡◌, ℕ, ◌+◌, ◌≤◌, Bool, List, length, sym, ◌∙◌, ap, subst, arith}
use Rattle.raft_model.specs.Fit.{IsFit}
use Rattle.raft_model.specs.Invariants.{Invariants}
use Rattle.raft_model.specs.Lists.{In}
use Rattle.raft_model.specs.Log.{Same}
use Rattle.raft_model.specs.Runs as raft
use Rattle.raft_model.specs.Server.{RaftServer}
use Rattle.alloc_spec.specs.AllocatorState.{AllocatorState}
use Rattle.alloc_spec.specs.Transfers.{SentTransfer}
use Rattle.bus_agreement.specs.LawsBelow.{CodecLaws}
use Rattle.bus_agreement.specs.Shows.{Shows}
use Rattle.service_steps.specs.CatchingUp.{AreJoined, two_of}
use Rattle.service_steps.proofs.InRuns.{joined_in}
use Rattle.service_leader.specs.EntriesBelow.{AppendsPend, CallsInside, HasWhatIsKnown, PendInTerm, PendingCallsArePast}
use Rattle.service_leader.proofs.EntriesJudged.{run_up}
use Rattle.bus_spec.specs.Cluster.{Cluster}
use Rattle.bus_spec.specs.Members.MemberStatus.{Up}

module _ (choice : ℕ → Bool) (made : List SentTransfer) (w : Cluster) (run : raft.World) (shows : Shows choice made w run) (codec : CodecLaws)
    (inv : Invariants run) (fit : (member : ℕ) → IsFit member (run.server member)) where
  server_of : (p : ℕ) (t : AllocatorState) → In p w.ids → (w.member p).status ≡ Up t → run.server p ≡ t.raft_server
  server_of p t i up = (run_up codec choice made w run shows p t i up).runs.raft_server

  pub has_known : HasWhatIsKnown w.ids w
  has_known n m leader peer in_n in_m other up up_peer leads low =
      subst (λ (s : RaftServer). Same (s.memory.matched m) s.store.log peer.raft_server.store.log) here
      (subst (λ (s : RaftServer). Same ((run.server n).memory.matched m) (run.server n).store.log s.store.log) there joined.matched)
    where
      here : run.server n ≡ leader.raft_server
      here = server_of n leader in_n up

      there : run.server m ≡ peer.raft_server
      there = server_of m peer in_m up_peer

      joined : AreJoined run.members n m (two_of run n m)
      joined = joined_in run inv n m (fit n) other (ap (λ (s : RaftServer). s.memory.role) here ∙ leads)
          (let a = ap (λ (s : RaftServer). s.store.term) here in let b = ap (λ (s : RaftServer). s.store.term) there in omega (arith, low, a, b))

  pub inside : CallsInside w.ids w
  inside n m leader in_n up leads =
      let here = server_of n leader in_n up in
      subst (λ (s : RaftServer). (1 ≤ s.memory.next m) × (s.memory.next m ≤ length s.store.log + 1)) here
      (let its = (fit n).peers (ap (λ (s : RaftServer). s.memory.role) here ∙ leads) m in (its.least, its.most))

  -- a call that pends was made in a row that is past
  pub past : PendingCallsArePast w.ids w
  past n m server request in_n up pends =
      let called = ((run_up codec choice made w run shows n server in_n up).works.called m request pends).2 in
      let then = shows.past called.call called.was_made in
      let same = called.step in
      omega (arith, then, same)

  pub pend_in_term : PendInTerm w.ids w
  pend_in_term n m leader request in_n up leads pends =
      let here = server_of n leader in_n up in
      (inv.calls.pending n m request (λ e. cc (sym e ∙ (ap (λ (s : RaftServer). s.memory.role) here ∙ leads)))
      (ap (λ (s : RaftServer). s.memory.pending m) here ∙ pends)).2
      ∙ ap (λ (s : RaftServer). s.store.term) here

  pub appends_pend : AppendsPend w.ids w
  appends_pend n m leader request in_n up leads pends =
      let here = server_of n leader in_n up in
      inv.calls.appends n m request (ap (λ (s : RaftServer). s.memory.role) here ∙ leads) (ap (λ (s : RaftServer). s.memory.pending m) here ∙ pends)
