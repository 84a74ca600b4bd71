-- A new device in a calm: the leader records its unique ID in the row in which it hears it whole.
use Rattle.std.proofs.Common.{◌≡◌, ℕ, ◌+◌, ◌≤◌, Bool, false, List, [], ◌∷◌, ◌++◌, length, append_assoc, max, refl, sym, ◌∙◌, ap, subst, arith}
use Rattle.alloc_exchange.specs.Exchange.{answer}
use Rattle.can_frame.specs.declared.entry.Entry.{Entry}
use Rattle.id_selector.specs.Choice.{IsChoice, chosen}
use Rattle.node_discovery.specs.History.{is_online}
use Rattle.node_discovery.specs.Watch.{history}
use Rattle.raft_core.specs.Taken.{proposal}
use Rattle.raft_model.specs.Invariants.{Invariants}
use Rattle.raft_model.specs.Lists.{In, at_here}
use Rattle.raft_model.specs.Runs as raft
use Rattle.raft_model.specs.Server.{RaftServer}
use Rattle.raft_model.specs.Server.Role.{Leader}
use Rattle.bus_rows.specs.declared.row.Row.{Row}
use Rattle.bus_rows.specs.declared.row.Row.TheVariants.{Rx}
use Rattle.transfer_rx.specs.Reassembly.{Arrival}
use Rattle.alloc_spec.specs.AllocatorState.{AllocatorState, is_known, members_of, taken}
use Rattle.alloc_spec.specs.Step.{at_moment, step}
use Rattle.alloc_spec.specs.Transfers.{SentTransfer}
use Rattle.bus_agreement.specs.Shows.{Shows, ShowsMember, ShowsUp}
use Rattle.service_steps.specs.Serving.{Records, RecordsPairs}
use Rattle.service_steps.proofs.FollowUps.{may}
use Rattle.bus_rows.specs.Timed.{Timed, rows_in}
use Rattle.service_alone.specs.Calm.{HasSettled, Pace, end_of}
use Rattle.service_alone.proofs.Choosing.{Chooses}
use Rattle.service_alone.proofs.Members.{steps_up}
use Rattle.service_calm.specs.Calls.{Lists, ListsStay}
use Rattle.service_calm.specs.Calm.{AreCalm, Member as OfMember, Party, no_traffic}
use Rattle.service_device.specs.Dialog.{HearsWhole, HearsWholeBy}
use Rattle.service_leader.specs.LeadsOn.{LeadsIn}
use Rattle.service_device.specs.Served.{HasPlaceFor, IsLeft, IsRecordedBy, LeadsWithLog, ListsAll}
use Rattle.service_device.specs.Settled.{IsCalmUnder}
use Rattle.service_calm.proofs.Pair.{same_server}
use Rattle.service_leader.proofs.Stretches.{world_both}
use Rattle.service_device.proofs.ServedChoice.{finds_one, gives_left, may_record}
use Rattle.bus_spec.specs.Cluster.{Cluster, after_row, after_rows, arrival_at, frame_at, receipt_of, world_of}
use Rattle.bus_spec.specs.Members.{Member, MemberStatus, member_after_step}
use Rattle.bus_spec.specs.Members.MemberStatus.{Up}

-- the laws that are used here
pub record ServedLaws : Type 0 where
  pub choice : (taken_ids : List Bool) (preferred : ℕ) → IsChoice taken_ids preferred (chosen taken_ids preferred)
  pub record_pairs : RecordsPairs
  pub stay : ListsStay

-- a server of a world that rows show lists members alone
pub lists_members : (ids : List ℕ) (choice : ℕ → Bool) (made : List SentTransfer) (w : Cluster) (run : raft.World) → Shows choice made w run → w.ids ≡ ids
    → (n : ℕ) (t : AllocatorState) → In n ids → (w.member n).status ≡ Up t → (p : ℕ) → In p (members_of t) → In p ids
lists_members ids choice made w run shows same n t listed up p i = subst (λ (l : List ℕ). In p l) same (shown.works.among p i)
  where
    shown : ShowsUp made w.ids w.frames run n t (w.member n).disk
    shown = subst (λ (status : MemberStatus). ShowsMember choice made w.ids w.frames run n status (w.member n).disk) up
        (shows.lives n (subst (λ (l : List ℕ). In n l) (sym same) listed))

-- and it has committed no further than to the end of its log
pub commits_inside : (choice : ℕ → Bool) (made : List SentTransfer) (w : Cluster) (run : raft.World) → Shows choice made w run → Invariants run
    → (n : ℕ) (t : AllocatorState) → In n w.ids → (w.member n).status ≡ Up t → t.raft_server.store.commit ≤ length t.raft_server.store.log
commits_inside choice made w run shows invariants n t listed up =
    subst (λ (s : RaftServer). s.store.commit ≤ length s.store.log) shown.runs.raft_server (invariants.stores n).commit
  where
    shown : ShowsUp made w.ids w.frames run n t (w.member n).disk
    shown = subst (λ (status : MemberStatus). ShowsMember choice made w.ids w.frames run n status (w.member n).disk) up (shows.lives n listed)

-- what counts of a leader that has settled with this log
pub record IsDone (log : List Entry) (t : AllocatorState) : Type 0 where
  pub leads : t.raft_server.memory.role ≡ Leader
  pub log_is : t.raft_server.store.log ≡ log
  pub committed : t.raft_server.store.commit ≡ length log
  pub known : (other : ℕ) → is_known t other ≡ false → is_online (history other t.watch) t.now ≡ false

pub is_done : (n : ℕ) (log : List Entry) (now : ℕ) (w : Cluster) (settled : HasSettled n log now w) → IsDone log settled.server
is_done n log now w settled = record {
  leads = settled.leads;
  log_is = settled.log_is;
  committed = settled.committed;
  known = settled.known;
}

module _ (laws : ServedLaws) (ids : List ℕ) (n term ahead : ℕ) (log : List Entry) (uid : List ℕ) (preferred now : ℕ) (w : Cluster) (timed : Timed)
    (settled : HasSettled n log now w) (led : LeadsIn n term w) (place : HasPlaceFor ids log uid) (lists : ListsAll n ids w)
    (among : (t : AllocatorState) → (w.member n).status ≡ Up t → (p : ℕ) → In p (members_of t) → In p ids)
    (hears : HearsWhole n ahead uid preferred w timed) where
  -- the leader
  abbrev t : AllocatorState
  t = hears.asked.comes.server

  abbrev arrival : Arrival
  arrival = arrival_at (frame_at w.frames hears.asked.comes.k) hears.asked.comes.ms

  abbrev moment : ℕ
  moment = max t.now hears.asked.comes.ms

  runs : (w.member n).status ≡ Up t
  runs = hears.asked.comes.runs

  done : IsDone log t
  done = subst (IsDone log) (same_server settled.server t (sym settled.runs ∙ runs)) (is_done n log now w settled)

  committed : t.raft_server.store.commit ≡ length t.raft_server.store.log
  committed = done.committed ∙ ap length (sym done.log_is)

  its_term : t.raft_server.store.term ≡ term
  its_term = ap (λ (s : AllocatorState). s.raft_server.store.term) (same_server t led.server (sym runs ∙ led.runs)) ∙ led.its_term

  all : (p : ℕ) → In p ids → In p (members_of t)
  all p i = lists p i t runs

  later : t.now ≤ moment
  later = omega arith

  -- the node ID that it chooses
  pub choice : Chooses (taken (at_moment moment t)) preferred
  choice = finds_one ids log t done.leads done.log_is done.known (among t runs) all moment later laws.choice preferred place.left.0 place.left.1

  -- it was left
  pub node_left : IsLeft ids log choice.node
  node_left = gives_left ids log t done.leads done.log_is done.known (among t runs) all moment later preferred choice

  records : Records t uid choice.node (step t (w.rows + 1) (receipt_of w hears.asked.comes.k hears.asked.comes.ms))
  records = laws.record_pairs t (w.rows + 1) arrival hears.message uid preferred choice.node hears.request
      (ap (answer t.accepted hears.message moment) (may t (record { leads = done.leads; committed = committed })) ∙ hears.whole)
      (may_record ids log t done.leads done.log_is done.known (among t runs) all moment later preferred uid place choice)

  abbrev after : AllocatorState
  after = (step t (w.rows + 1) (receipt_of w hears.asked.comes.k hears.asked.comes.ms)).step_state.allocator

  runs_then : ((after_row w (Rx n hears.asked.comes.k hears.asked.comes.ms)).member n).status ≡ Up after
  runs_then = ap (λ (x : Member). x.status)
      (at_here w.member n n (member_after_step (w.rows + 1) (receipt_of w hears.asked.comes.k hears.asked.comes.ms) (w.member n).status (w.member n)) refl)
      ∙ (steps_up (w.rows + 1) (receipt_of w hears.asked.comes.k hears.asked.comes.ms) t (w.member n)
      (record { status = runs; quiet = record { faults = settled.faults; calls = settled.disk } })).status

  -- the pair stands behind the log
  pub recorded : LeadsWithLog n term (log ++ proposal term uid choice.node ∷ []) (after_row w timed.row)
  recorded = record {
    server = after;
    runs = subst (λ (row : Row). ((after_row w row).member n).status ≡ Up after) (sym hears.asked.comes.comes) runs_then;
    leads = records.role ∙ done.leads;
    its_term = records.term ∙ its_term;
    its_log = records.log ∙ (λ i. done.log_is i ++ proposal (its_term i) uid choice.node ∷ []);
  }

-- in a calm, behind its first rows
module _ (laws : ServedLaws) (ids : List ℕ) (rows : List Row) (group : List Party) (clocks : Party → ℕ) (pace : Pace) (start n term : ℕ) (first later : List Timed)
    (under : IsCalmUnder ids rows group clocks pace start n term first later)
    (among : (front rest : List Timed) (t : AllocatorState) → later ≡ front ++ rest
    → ((after_rows (after_rows (world_of ids rows) (rows_in first)) (rows_in front)).member n).status ≡ Up t → (p : ℕ) → In p (members_of t) → In p ids)
    (log : List Entry) (uid : List ℕ) (preferred last : ℕ) (place : HasPlaceFor ids log uid) (lists : ListsAll n ids (world_of ids rows)) where
  abbrev w : Cluster
  w = world_of ids rows

  abbrev led_from : Cluster
  led_from = after_rows w (rows_in first)

  abbrev from : ℕ
  from = end_of start first

  -- in the row in which it is heard
  module _ (front rest : List Timed) (timed : Timed) (split : later ≡ front ++ timed ∷ rest) (soon : timed.at ≤ last)
      (settled : HasSettled n log (end_of from front + clocks (OfMember n)) (after_rows led_from (rows_in front)))
      (hears : HearsWhole n (clocks (OfMember n)) uid preferred (after_rows led_from (rows_in front)) timed) where
    abbrev there : Cluster
    there = after_rows led_from (rows_in front)

    led : LeadsIn n term there
    led = (under.led front (timed ∷ rest) split).leader

    whole : first ++ later ≡ (first ++ front) ++ timed ∷ rest
    whole = ap (λ (l : List Timed). first ++ l) split ∙ sym (append_assoc first front (timed ∷ rest))

    listed : ListsAll n ids there
    listed p i = subst (Lists n p) (world_both w first front)
        (laws.stay group clocks pace (no_traffic start) n p (first ++ front) (timed ∷ rest) w (under.running n under.member)
        (subst (AreCalm group clocks pace (no_traffic start) w) whole under.calm) (lists p i))

    among_there : (u : AllocatorState) → (there.member n).status ≡ Up u → (p : ℕ) → In p (members_of u) → In p ids
    among_there u = among front (timed ∷ rest) u split

    pub is_recorded_in : IsRecordedBy ids n term log (clocks (OfMember n)) uid from last led_from later
    is_recorded_in = record {
      front = front;
      timed = timed;
      rest = rest;
      split = split;
      soon = soon;
      settled = settled;
      node = (choice laws ids n term (clocks (OfMember n)) log uid preferred (end_of from front + clocks (OfMember n)) there timed settled led place listed among_there hears).node;
      left = node_left laws ids n term (clocks (OfMember n)) log uid preferred (end_of from front + clocks (OfMember n)) there timed settled led place listed among_there hears;
      recorded = recorded laws ids n term (clocks (OfMember n)) log uid preferred (end_of from front + clocks (OfMember n)) there timed settled led place listed among_there hears;
    }

  -- so it is recorded where the device waits to be told
  pub is_recorded_by : {a wait : ℕ} → HearsWholeBy n a log (clocks (OfMember n)) wait uid preferred from last led_from later
      → IsRecordedBy ids n term log (clocks (OfMember n)) uid from last led_from later
  is_recorded_by by = is_recorded_in by.front by.rest by.timed by.split by.soon by.settled by.hears
