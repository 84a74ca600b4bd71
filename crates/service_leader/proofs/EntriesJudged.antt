-- A call that a row delivers is a request in the bag of the run that the rows show, and is judged there.
use Rattle.std.proofs.Common.{◌≡◌, ℕ, ◌≤◌, Bool, false, true, refl, sym, ◌∙◌, ap, subst, arith, List, Some}
use Rattle.std.specs.Prelude.{◌||◌, max}
use Rattle.can_frame.specs.declared.identifier.Kind.TheVariants.{Request as RequestKind}
use Rattle.can_frame.specs.declared.step.What.{What}
use Rattle.can_frame.specs.declared.step.What.TheVariants.{AppQ}
use Rattle.can_frame.specs.Kinds.{is_service}
use Rattle.dsdl_codec.specs.declared.append_request.AppendRequest.{AppendRequest}
use Rattle.dsdl_codec.specs.AppendRequest.{append_request_of}
use Rattle.raft_core.specs.Handled as handled
use Rattle.raft_model.specs.Decisions.{verdict_on}
use Rattle.raft_model.specs.Lists.{In}
use Rattle.raft_model.specs.Messages.{Request}
use Rattle.raft_model.specs.Messages.Message.{Requests}
use Rattle.raft_model.specs.Moves.Appending.{is_accepted}
use Rattle.raft_model.specs.Runs as raft
use Rattle.raft_model.specs.Server.{RaftServer}
use Rattle.raft_model.specs.Server.Role.{Leader}
use Rattle.bus_rows.specs.declared.row.Row.{Row}
use Rattle.bus_rows.specs.declared.row.Row.TheVariants.{Rx}
use Rattle.transfer_rx.specs.Reassembly.{Gives, answer}
use Rattle.alloc_spec.specs.Accepted.{is_of_members, setting_for}
use Rattle.alloc_spec.specs.AllocatorState.{AllocatorState}
use Rattle.alloc_spec.specs.Transfers.{SentTransfer, ident_of, kind_of, message_by, number_of}
use Rattle.bus_agreement.specs.LawsBelow.{CodecLaws}
use Rattle.bus_agreement.specs.Safe.{IsDeliveredTo, IsOneTransfer}
use Rattle.bus_agreement.specs.Shows.{Shows, ShowsMember, ShowsUp}
use Rattle.bus_agreement.proofs.TakenMessages.{is_append_request}
use Rattle.service_calm.specs.Calls.{ReadsAsSaid}
use Rattle.service_calm.specs.Comes.{Delivers, delivery_of}
use Rattle.service_leader.specs.Entries.{IsCalledInStep}
use Rattle.service_calm.proofs.CallsRead.{reads_as_said}
use Rattle.bus_spec.specs.Cluster.{Cluster, arrival_at, frame_at, is_member}
use Rattle.bus_spec.specs.Lawful.{DoesNoHarm, is_forged}
use Rattle.bus_spec.specs.Members.{MemberStatus}
use Rattle.bus_spec.specs.Members.MemberStatus.{Up}

or_second : (a b : Bool) → b ≡ true → (a || b) ≡ true
or_second true b e = refl
or_second false b e = e

one_request : (a b : AppendRequest) → Some a ≡ Some b → a ≡ b
one_request a b e = cc (e)

module _ (codec : CodecLaws) (choice : ℕ → Bool) (made : List SentTransfer) (w : Cluster) (run : raft.World) (shows : Shows choice made w run) where
  -- a member that runs is its server in the run
  pub run_up : (p : ℕ) (t : AllocatorState) → In p w.ids → (w.member p).status ≡ Up t → ShowsUp made w.ids w.frames run p t (w.member p).disk
  run_up p t listed e = subst (λ (status : MemberStatus). ShowsMember choice made w.ids w.frames run p status (w.member p).disk) e (shows.lives p listed)

  module _ (one_transfer : (n k ms : ℕ) (d : _) → DoesNoHarm w (Rx n k ms) → IsDeliveredTo w n k ms d → IsOneTransfer made run.bag n d)
      (m : ℕ) (in_m : In m w.ids) (x : SentTransfer) (row : Row) (harm : DoesNoHarm w row) (delivers : Delivers m x w row)
      (what : x.offer.what ≡ AppQ) (request : AppendRequest) (says : append_request_of x.offer.payload ≡ Some request) where
    me : delivers.server.me ≡ m
    me = (run_up m delivers.server in_m delivers.runs).runs.me

    delivered : IsDeliveredTo w m delivers.k delivers.ms (delivery_of x)
    delivered = record {
      server = delivers.server;
      runs = delivers.runs;
      gives = subst (λ (p : ℕ). answer (setting_for p) delivers.server.sessions
          (arrival_at (frame_at w.frames delivers.k) (max delivers.server.now delivers.ms)) ≡ Gives (delivery_of x))
          (sym me) delivers.gives;
      member = subst (λ (k : What). is_forged w.ids (Some (ident_of x.by k x.offer.to)) ≡ true) (sym what)
          (or_second (is_member w.ids x.by) (is_of_members RequestKind 30) refl);
    }

    one : IsOneTransfer made run.bag m (delivery_of x)
    one = one_transfer m delivers.k delivers.ms (delivery_of x) (subst (DoesNoHarm w) delivers.comes harm) delivered

    its_what : one.whose.offer.what ≡ AppQ
    its_what = is_append_request one.whose.offer.what (one.its.kind ∙ ap kind_of what) (one.its.number ∙ ap number_of what)

    reads : ReadsAsSaid one.whose
    reads = reads_as_said codec w.ids made run.bag shows.holds.said shows.holds.written one.whose one.was_made its_what

    same : reads.request ≡ request
    same = one_request reads.request request (sym reads.read ∙ (ap append_request_of one.its.payload ∙ says))

    -- what the call asks
    abbrev pub asked : Request
    asked = handled.append_request_of request x.step x.by m

    same_asked : handled.append_request_of reads.request one.whose.step one.whose.by one.whose.offer.to ≡ asked
    same_asked = λ i. handled.append_request_of (same i) (one.its.step i) (one.its.by i) (to i)
      where
        to : one.whose.offer.to ≡ m
        to = one.for_it (ap (λ (k : What). is_service (kind_of k)) what)

    -- it was said
    pub call_said : In (Requests asked) run.bag
    call_said = subst (λ (r : Request). In (Requests r) run.bag) same_asked
        (one.said _ (ap (λ (k : What). message_by one.whose.step one.whose.by k one.whose.offer.payload one.whose.offer.says) its_what ∙ reads.said))

  -- so it is accepted where the run accepts it
  pub called_accepts : ((n k ms : ℕ) (d : _) → DoesNoHarm w (Rx n k ms) → IsDeliveredTo w n k ms d → IsOneTransfer made run.bag n d)
      → ((leader peer : ℕ) (request : Request) → (peer ≡ leader → ⊥) → (run.server leader).memory.role ≡ Leader
      → (run.server peer).store.term ≤ (run.server leader).store.term
      → In (Requests request) run.bag → request.append ≡ true → request.term ≡ (run.server leader).store.term
      → request.previous ≤ (run.server leader).memory.matched peer
      → is_accepted (verdict_on (run.server peer) request) ≡ true)
      → (n m : ℕ) (x : SentTransfer) (request : AppendRequest) (row : Row) → In n w.ids → In m w.ids → (m ≡ n → ⊥) → DoesNoHarm w row
      → (called : IsCalledInStep n m x request w row)
      → is_accepted (verdict_on called.delivers.server.raft_server (handled.append_request_of request x.step x.by m)) ≡ true
  called_accepts one_transfer accepted n m x request row in_n in_m other harm called =
      subst (λ (s : RaftServer). is_accepted (verdict_on s (handled.append_request_of request x.step x.by m)) ≡ true) peer
      (accepted n m (handled.append_request_of request x.step x.by m) other (ap (λ (s : RaftServer). s.memory.role) leader ∙ called.leads)
      (let low = called.not_above in
      let same = called.its_term in
      let a = ap (λ (s : RaftServer). s.store.term) leader in
      let b = ap (λ (s : RaftServer). s.store.term) peer in
      omega (arith, low, same, a, b))
      (call_said one_transfer m in_m x row harm called.delivers called.what request called.says) refl
      (called.its_term ∙ sym (ap (λ (s : RaftServer). s.store.term) leader))
      (let k = called.known in let a = ap (λ (s : RaftServer). s.memory.matched m) leader in omega (arith, k, a)))
    where
      leader : run.server n ≡ called.leader.raft_server
      leader = (run_up n called.leader in_n called.runs).runs.raft_server

      peer : run.server m ≡ called.delivers.server.raft_server
      peer = (run_up m called.delivers.server in_m called.delivers.runs).runs.raft_server
