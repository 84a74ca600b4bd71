-- Logs stay in a calm in which no append request waits when it begins, as long as nobody leads; and none comes.
use Rattle.std.proofs.Common.{◌≡◌, ◌≢◌, ℕ, ◌+◌, ◌≤◌, List, [], ◌∷◌, ◌++◌, refl, sym, ◌∙◌, ap, subst, Some}
use Rattle.can_frame.specs.declared.step.What.TheVariants.{AppQ}
use Rattle.can_frame.specs.Identifier.{identifier_number}
use Rattle.can_frame.specs.declared.identifier.Kind.TheVariants.{Request as RequestKind}
use Rattle.raft_model.specs.Lists.{In}
use Rattle.raft_model.specs.Server.{Store}
use Rattle.raft_model.specs.Server.Role.{Leader}
use Rattle.bus_rows.specs.declared.row.Row.{Row}
use Rattle.bus_rows.specs.declared.row.Row.TheVariants.{Rx, Tick}
use Rattle.transfer_rx.specs.Reassembly.{Delivery, Gives, answer}
use Rattle.transfer_tx.specs.Queue.{Queued}
use Rattle.alloc_spec.specs.Accepted.{setting_for}
use Rattle.alloc_spec.specs.AllocatorState.{AllocatorState}
use Rattle.alloc_spec.specs.Step.{after_pop, step}
use Rattle.alloc_spec.specs.Transfers.{ident_of}
use Rattle.bus_agreement.proofs.RowsWithoutEvents.{left_in_queue, out_of_queue}
use Rattle.service_steps.specs.Requests.{moment_at}
use Rattle.bus_rows.specs.Timed.{Timed, rows_in}
use Rattle.service_alone.specs.Calm.{IsNext, Pace}
use Rattle.service_alone.proofs.Members.{IsUp}
use Rattle.service_calm.specs.Calm.{AreCalm, IsCalmRow, Member as OfMember, Party, Traffic, no_traffic, traffic_after}
use Rattle.service_calm.specs.Comes.{Throughout}
use Rattle.service_calm.proofs.Group.{AreWell, CalmLaws, IsServer, narrow_on_bus, well_after}
use Rattle.service_candidate.specs.Terms.{NoAppendWaits, NobodyLeads}
use Rattle.service_candidate.specs.Votes.{HearsAppend}
use Rattle.service_leader.proofs.FramesFly.{next_is}
use Rattle.service_candidate.proofs.LogsFrames.{AreUncalled, HasNoCall, ComesUncalled, no_call_comes, none_has, queue_stepped, uncalled_after}
use Rattle.service_candidate.proofs.TermsMembers.{AllHold, all_after, all_hold, it_holds, one_server, up_then}
use Rattle.service_candidate.proofs.TermsMoves.{HasLog}
use Rattle.service_candidate.proofs.TermsSteps.{log_at_frame, log_at_tick}
use Rattle.service_leader.specs.CallsAsk.{CallsAskNext}
use Rattle.bus_spec.specs.Cluster.{Cluster, after_row, after_rows, arrival_at, frame_at, receipt_of, tick_of}
use Rattle.bus_spec.specs.Members.{next_frame}
use Rattle.bus_spec.specs.Members.MemberStatus.{Up}

module _ (laws : CalmLaws) (asks : CallsAskNext) (group : List Party) (nodes : (p : ℕ) → In (OfMember p) group → (1 ≤ p) × (p ≤ 125)) (clocks : Party → ℕ)
    (pace : Pace) (m : ℕ) (start : Store) where
  -- no frame of an append request waits; and member m has this log, and has committed so much of it
  abbrev Quiet : ℕ → AllocatorState → Type 0
  Quiet p t = HasNoCall laws asks group nodes p t × (p ≡ m → HasLog start t.raft_server.store)

  -- a calm goes on in which no append request waits or is on its way
  pub record GoesOn (w : Cluster) (whole : List Timed) : Type 0 where
    pub traffic : Traffic
    pub calm : AreCalm group clocks pace traffic w whole
    pub well : AreWell group w
    pub flies : (party : Party) → AreUncalled group w.frames (traffic.to party)
    pub all : AllHold group Quiet w

  -- the server of a member is its own
  its_server : (w : Cluster) → AreWell group w → (p : ℕ) → In (OfMember p) group → (t : AllocatorState) → IsUp t (w.member p) → IsServer p t
  its_server w are p i t up = let is = are.members p i in subst (IsServer p) (one_server is.server t (sym is.up.status ∙ up.status)) is.its

  -- a frame that comes to a member completes no append request
  uncalled : (w : Cluster) (whole : List Timed) → (goes : GoesOn w whole) → (p k ms : ℕ) → In (OfMember p) group → IsNext k (goes.traffic.to (OfMember p))
      → (t : AllocatorState) → t.me ≡ p → (d : Delivery)
      → answer (setting_for t.me) t.sessions (record (arrival_at (frame_at w.frames k) ms) { moment = moment_at t (arrival_at (frame_at w.frames k) ms) }) ≡ Gives d
      → d.ident.kind ≡ RequestKind → d.ident.number ≡ 30 → ⊥
  uncalled w whole goes p k ms i next t me d gives = no_call_comes laws.frame group nodes p i t me (frame_at w.frames k)
      (record (arrival_at (frame_at w.frames k) ms) { moment = moment_at t (arrival_at (frame_at w.frames k) ms) }) refl d gives
      (next_is (ComesUncalled group) w.frames k (goes.traffic.to (OfMember p)) next (goes.flies (OfMember p)))

  -- behind one row, where nobody leads then
  one_on : (timed : Timed) (rest : List Timed) (w : Cluster) → GoesOn w (timed ∷ rest) → NobodyLeads group (after_row w timed.row) → GoesOn (after_row w timed.row) rest
  one_on timed rest w goes nobody = record {
    traffic = traffic_after goes.traffic w timed;
    calm = goes.calm.2;
    well = well_after laws group nodes w goes.well clocks pace goes.traffic timed.at timed.row goes.calm.1;
    flies = λ party. uncalled_after group laws nodes clocks pace goes.traffic w goes.well sent_none goes.flies timed.at timed.row goes.calm.1 party;
    all = all_after group Quiet clocks pace goes.traffic w timed.at timed.row goes.calm.1 popped ticked received goes.all;
  }
    where
      sent_none : (p : ℕ) → In (OfMember p) group → (frame : Queued) → next_frame (w.member p).status ≡ Some frame → (q : ℕ) → In (OfMember q) group → p ≢ q
          → frame.id ≢ identifier_number (ident_of p AppQ q)
      sent_none p i frame e = let is = goes.all p i in
          is.holds.0 frame (out_of_queue is.server.queue frame (sym (ap next_frame is.up.status) ∙ e))

      popped : (p : ℕ) (t : AllocatorState) → Quiet p t → Quiet p (after_pop t)
      popped p t h = (λ frame i. h.0 frame (left_in_queue t.queue frame i), h.1)

      joined : (a b c : Store) → HasLog a b → HasLog b c → HasLog a c
      joined a b c first second = (second.0 ∙ first.0, second.1 ∙ first.1)

      ticked : (p ms word : ℕ) → timed.row ≡ Tick p ms word → In (OfMember p) group → (t : AllocatorState) → IsUp t (w.member p) → Quiet p t
          → Quiet p (step t (w.rows + 1) (tick_of ms word)).step_state.allocator
      ticked p ms word is i t up h =
          let leads_not : (step t (w.rows + 1) (tick_of ms word)).step_state.allocator.raft_server.memory.role ≢ Leader
          = subst (λ (row : Row). NobodyLeads group (after_row w row)) is nobody p i (step t (w.rows + 1) (tick_of ms word)).step_state.allocator
          (up_then w p (w.rows + 1) (tick_of ms word) t up) in (
            queue_stepped laws asks group nodes p i t (its_server w goes.well p i t up) (w.rows + 1) (tick_of ms word) tt leads_not h.0,
            λ own. joined start t.raft_server.store (step t (w.rows + 1) (tick_of ms word)).step_state.allocator.raft_server.store (h.1 own)
                (log_at_tick (w.rows + 1) t ms word leads_not),
          )

      received : (p k ms : ℕ) → timed.row ≡ Rx p k ms → In (OfMember p) group → IsNext k (goes.traffic.to (OfMember p)) → (t : AllocatorState) → IsUp t (w.member p)
          → Quiet p t → Quiet p (step t (w.rows + 1) (receipt_of w k ms)).step_state.allocator
      received p k ms is i next t up h =
          let own_server = its_server w goes.well p i t up in
          let leads_not : (step t (w.rows + 1) (receipt_of w k ms)).step_state.allocator.raft_server.memory.role ≢ Leader
          = subst (λ (row : Row). NobodyLeads group (after_row w row)) is nobody p i (step t (w.rows + 1) (receipt_of w k ms)).step_state.allocator
          (up_then w p (w.rows + 1) (receipt_of w k ms) t up) in (
            queue_stepped laws asks group nodes p i t own_server (w.rows + 1) (receipt_of w k ms) (narrow_on_bus w.frames goes.well.narrow k) leads_not h.0,
            λ own. joined start t.raft_server.store (step t (w.rows + 1) (receipt_of w k ms)).step_state.allocator.raft_server.store (h.1 own)
                (log_at_frame (w.rows + 1) t (arrival_at (frame_at w.frames k) ms)
                (λ d gives. uncalled w (timed ∷ rest) goes p k ms i next t own_server.me d gives) leads_not),
          )

  -- behind all of these rows, where nobody leads before each of them and behind them
  pub further : (front rest : List Timed) (w : Cluster) → GoesOn w (front ++ rest) → Throughout (NobodyLeads group) w front
      → NobodyLeads group (after_rows w (rows_in front)) → GoesOn (after_rows w (rows_in front)) rest
  further [] rest w goes nobody last = goes
  further (timed ∷ front) rest w goes nobody last = further front rest (after_row w timed.row)
      (one_on timed (front ++ rest) w goes (first front (after_row w timed.row) nobody.1 last)) nobody.1 last
    where
      first : (list : List Timed) (v : Cluster) → Throughout (NobodyLeads group) v list → NobodyLeads group (after_rows v (rows_in list)) → NobodyLeads group v
      first [] v through then_ = then_
      first (next ∷ list) v through then_ = through.0

  -- where a calm begins
  pub begins : (moment : ℕ) (w : Cluster) (whole : List Timed) → AreWell group w → NoAppendWaits group w
      → ((t : AllocatorState) → (w.member m).status ≡ Up t → HasLog start t.raft_server.store)
      → AreCalm group clocks pace (no_traffic moment) w whole → GoesOn w whole
  begins moment w whole are none has calm = record {
    traffic = no_traffic moment;
    calm = calm;
    well = are;
    flies = λ party. refl;
    all = all_hold group Quiet w are (λ p i t runs. (
      λ frame j q in_q apart. none_has (identifier_number (ident_of p AppQ q)) frame t.queue (none p q i in_q apart t runs) j,
      λ own. has t (subst (λ (k : ℕ). (w.member k).status ≡ Up t) own runs),
    ));
  }

  -- so the log is that one
  pub log_is : (w : Cluster) (whole : List Timed) → GoesOn w whole → In (OfMember m) group → (t : AllocatorState) → (w.member m).status ≡ Up t
      → HasLog start t.raft_server.store
  log_is w whole goes i t runs = (it_holds group Quiet w goes.all m i t runs).1 refl

  -- and no append request comes in the next row
  pub hears_none : (timed : Timed) (rest : List Timed) (w : Cluster) → GoesOn w (timed ∷ rest) → In (OfMember m) group → HearsAppend m w timed.row → ⊥
  hears_none timed rest w goes i hears =
      let calm = subst (λ (row : Row). IsCalmRow group clocks pace goes.traffic w timed.at row) hears.comes goes.calm.1 in
      let is = goes.well.members m i in
      let me = ap (λ (t : AllocatorState). t.me) (one_server hears.server is.server (sym hears.runs ∙ is.up.status)) ∙ is.its.me in
      uncalled w (timed ∷ rest) goes m hears.k hears.ms i calm.2 hears.server me hears.delivery hears.hears.gives hears.hears.kind hears.hears.number
