-- The pair that a leader records in a calm is told in time: from the row in which it is recorded to the law.
use Rattle.std.proofs.Common.{◌≡◌, ℕ, ◌+◌, ◌<◌, ◌≤◌, List, [], ◌∷◌, ◌++◌, length, length-append, append_assoc, append-nil, refl, sym, ◌∙◌, ap, subst, inl, inr, arith}
use Rattle.std.specs.Prelude.{drop, max, slice_index_or}
use Rattle.alloc_exchange.specs.Exchange.{Accepted}
use Rattle.can_frame.specs.declared.entry.Entry.{Entry}
use Rattle.can_frame.specs.Log.{log_limit}
use Rattle.dsdl_codec.specs.declared.allocation.Allocation.{Allocation}
use Rattle.raft_core.specs.Taken.{proposal}
use Rattle.raft_model.specs.Server.Role.{Leader}
use Rattle.bus_rows.specs.declared.row.Row.{Row}
use Rattle.alloc_spec.specs.AllocatorState.{AllocatorState}
use Rattle.alloc_spec.specs.Exchange.{may_follow}
use Rattle.alloc_spec.specs.Step.{Event}
use Rattle.alloc_spec_laws.specs.Phases.{TellsDuly, when_committed, when_told}
use Rattle.service_steps.proofs.Alone.{one_longer}
use Rattle.bus_rows.specs.Timed.{Timed, rows_in}
use Rattle.service_alone.specs.Calm.{HasSettled, Pace, end_of}
use Rattle.service_calm.specs.Calm.{Member as OfMember, Party}
use Rattle.service_calm.proofs.Pair.{same_server}
use Rattle.service_leader.specs.NoElection.{CallsFit}
use Rattle.service_leader.proofs.Stretches.{end_last, world_both}
use Rattle.service_device.specs.Recorded.{EachRowKeepsTheLog, Grows, IsUncommitted, KeepsLog, LeaderSettles, LeadsWith, LogStaysUncommitted, SettledLeads}
use Rattle.service_device.specs.Served.{HasCommittedBy, HasFollowers, IsRecordedBy, LeadersLoseNothing}
use Rattle.service_device.specs.ServedTold.{HasRoomInSteps, HasSettledWithPairBy}
use Rattle.service_device.specs.Settled.{IsAsked, IsCalmUnder}
use Rattle.service_device.proofs.AllocationsTold.{VerdictsAre}
use Rattle.service_device.proofs.ServedCommitted.{Cuts, two_cuts}
use Rattle.service_device.proofs.ServedToldRows.{SettlesBy, from_record}
use Rattle.service_device.proofs.ServedToldWhole.{whole_leaves_none}
use Rattle.service_device.proofs.SettledStays.{AsksOrNot, asked_or_not}
use Rattle.bus_spec.specs.Cluster.{Cluster, after_row, after_rows, world_of}
use Rattle.bus_spec.specs.Members.MemberStatus.{Up}

module _ (ids : List ℕ) (rows : List Row) (keeps_row : EachRowKeepsTheLog ids rows) (uncommitted : LogStaysUncommitted ids rows) (settled_leads : SettledLeads)
    (settles : LeaderSettles) (lose : LeadersLoseNothing ids rows) (judged : VerdictsAre)
    (duly : (t : AllocatorState) (number : ℕ) (event : Event) → TellsDuly number (when_committed t number event) (when_told t number event))
    (group : List Party) (clocks : Party → ℕ) (pace : Pace) (start n term : ℕ) (whole : List Timed) (under : IsCalmUnder ids rows group clocks pace start n term [] whole)
    (fits : CallsFit n (world_of ids rows) whole)
    (fit : (front rest : List Timed) (t : AllocatorState) → whole ≡ front ++ rest → ((after_rows (world_of ids rows) (rows_in front)).member n).status ≡ Up t
    → t.raft_server.memory.told ≤ t.raft_server.store.commit)
    (room : HasRoomInSteps n (world_of ids rows) whole) (log : List Entry) (uid : List ℕ) (space : length log + 1 < log_limit)
    (settled : HasSettled n log (start + clocks (OfMember n)) (world_of ids rows)) where
  abbrev w : Cluster
  w = world_of ids rows

  abbrev here : List Timed → Cluster
  here front = after_rows w (rows_in front)

  abbrev clock : List Timed → ℕ
  clock front = end_of start front + clocks (OfMember n)

  abbrev calm_at : (all : List Timed) → Type 0
  calm_at all = IsCalmUnder ids rows group clocks pace start n term [] all

  leads_at : (front rest : List Timed) (t : AllocatorState) → whole ≡ front ++ rest → ((here front).member n).status ≡ Up t → t.raft_server.memory.role ≡ Leader
  leads_at front rest t cut up =
      let leader = (under.led front rest cut).leader in
      ap (λ (s : AllocatorState). s.raft_server.memory.role) (same_server t leader.server (sym up ∙ leader.runs)) ∙ leader.leads

  -- the moment and the world behind one row more
  one_on : (more : List Entry) (a : List Timed) (x : Timed) (accepted : List Accepted) → LeadsWith n more accepted (x.at + clocks (OfMember n)) (after_row (here a) x.row)
      → LeadsWith n more accepted (clock (a ++ x ∷ [])) (here (a ++ x ∷ []))
  one_on more a x accepted h = subst (λ (v : Cluster). LeadsWith n more accepted (clock (a ++ x ∷ [])) v) (sym (world_both w a (x ∷ [])))
      (subst (λ (m : ℕ). LeadsWith n more accepted (m + clocks (OfMember n)) (after_row (here a) x.row)) (sym (end_last start a x)) h)

  module _ (last : ℕ) (rec : IsRecordedBy ids n term log (clocks (OfMember n)) uid start last w whole) where
    abbrev entry : Entry
    entry = proposal term uid rec.node

    abbrev longer : List Entry
    longer = log ++ entry ∷ []

    abbrev early : List Timed
    early = rec.front ++ rec.timed ∷ []

    abbrev v : Cluster
    v = here rec.front

    abbrev recorder : AllocatorState
    recorder = rec.settled.server

    size : length longer ≡ length log + 1
    size = let e = one_longer log entry in omega (arith, e)

    stays : (a b : List Timed) (x : Timed) → whole ≡ a ++ x ∷ b → LeadsWith n longer [] (clock a) (here a) → IsUncommitted n (here a)
        → LeadsWith n longer [] (clock (a ++ x ∷ [])) (here (a ++ x ∷ []))
    stays a b x cut h waits = one_on longer a x []
        (uncommitted group clocks pace start n term longer [] a (x ∷ []) b (subst calm_at cut under) (let s = size in omega (arith, s, space)) h (waits, tt))

    -- behind the row the log has grown
    not_same : (accepted : List Accepted) (now : ℕ) → LeadsWith n log accepted now (after_row v rec.timed.row) → ⊥
    not_same accepted now h =
        let same = same_server h.server rec.recorded.server (sym h.runs ∙ rec.recorded.runs) in
        let s = size in
        omega (
          arith,
          s,
          ap (λ (l : List Entry). length l) h.log_is,
          ap (λ (l : List Entry). length l) rec.recorded.its_log,
          ap (λ (t : AllocatorState). length t.raft_server.store.log) same,
        )

    as_longer : (message : Allocation) (asked : IsAsked n message v rec.timed.row) → Grows n log (rec.timed.at + clocks (OfMember n)) message v rec.timed.row asked
        → LeadsWith n longer [] (rec.timed.at + clocks (OfMember n)) (after_row v rec.timed.row)
    as_longer message asked g =
        let same = same_server g.leads.server rec.recorded.server (sym g.leads.runs ∙ rec.recorded.runs) in
        let its_log = sym g.leads.log_is ∙ (ap (λ (t : AllocatorState). t.raft_server.store.log) same ∙ rec.recorded.its_log) in
        subst (λ (l : List Entry). LeadsWith n l [] (rec.timed.at + clocks (OfMember n)) (after_row v rec.timed.row)) its_log
        (subst (λ (l : List Accepted). LeadsWith n (log ++ proposal asked.comes.server.raft_server.store.term g.uid g.node ∷ []) l
        (rec.timed.at + clocks (OfMember n)) (after_row v rec.timed.row))
        (whole_leaves_none message (max asked.comes.server.now asked.comes.ms) (may_follow asked.comes.server) g.uid g.preferred asked.comes.server.accepted g.whole)
        g.leads)

    before : LeadsWith n log recorder.accepted (clock rec.front) v
    before = settled_leads n (clock rec.front) log recorder.accepted v (record { settled = rec.settled; requests = refl })

    keeps : KeepsLog n log recorder.accepted (rec.timed.at + clocks (OfMember n)) v rec.timed.row
    keeps = keeps_row group clocks pace start n term log recorder.accepted [] rec.front rec.rest rec.timed (subst calm_at rec.split under) before

    then_leads : LeadsWith n longer [] (clock early) (here early)
    then_leads = one_on longer rec.front rec.timed [] (by (asked_or_not n v before.server before.runs rec.timed.row))
      where
        by : AsksOrNot n v rec.timed.row → LeadsWith n longer [] (rec.timed.at + clocks (OfMember n)) (after_row v rec.timed.row)
        by (inr not_asked) = absurd (not_same recorder.accepted (rec.timed.at + clocks (OfMember n)) (keeps.unasked not_asked))
        by (inl (message, asked)) = elim (keeps.asked message asked) [
          | inl g ↦ as_longer message asked g
          | inr l ↦ absurd (not_same _ (rec.timed.at + clocks (OfMember n)) l)
        ]

    -- the front behind which it is known to have committed stands behind the row
    module _ (first : ℕ) (next : List ℕ) (followers : HasFollowers ids group n (length log) (first ∷ next) w whole) (final : ℕ) (other : ℕ)
        (by : HasCommittedBy n term (log ++ proposal term uid other ∷ []) start final w whole) where
      high : length log < by.leads.server.raft_server.store.commit
      high = let c = by.committed in let e = one_longer log (proposal term uid other) in omega (arith, c, e)

      abbrev Settles : Type 0
      Settles = SettlesBy judged duly w group clocks pace start n term log whole under.calm leads_at (start + clocks (OfMember n)) settled room fit settles entry final

      at_front : (front : List Timed) → by.front ≡ front → ((here front).member n).status ≡ Up by.leads.server
      at_front front e = subst (λ (l : List Timed). ((here l).member n).status ≡ Up by.leads.server) e by.leads.runs

      settles_then : Cuts rec.front (rec.timed ∷ rec.rest) by.front by.rest → Settles
      settles_then (inl ([], c, d)) =
          let same = same_server by.leads.server recorder (sym (at_front rec.front (c ∙ append-nil rec.front)) ∙ rec.settled.runs) in
          let h = high in
          let done = rec.settled.committed in
          absurd (omega (arith, h, done, ap (λ (t : AllocatorState). t.raft_server.store.commit) same))
      settles_then (inl (y ∷ tail, c, d)) =
          let head : y ≡ rec.timed = ap (λ (l : List Timed). slice_index_or l 0 y) (sym d) in
          let rest_is : rec.rest ≡ tail ++ by.rest = ap (λ (l : List Timed). drop 1 l) d in
          let front_is : by.front ≡ early ++ tail = c ∙ (ap (λ (z : Timed). rec.front ++ z ∷ tail) head ∙ sym (append_assoc rec.front (rec.timed ∷ []) tail)) in
          from_record judged duly w group clocks pace start n term log whole under.calm leads_at (start + clocks (OfMember n)) settled room fit settles entry stays
          rec.front rec.rest rec.timed rec.split recorder rec.settled.runs (let done = rec.settled.committed in omega (arith, done)) then_leads tail by.rest rest_is
          by.leads.server (at_front (early ++ tail) front_is) high final
          (let s = by.soon in omega (arith, s, ap (λ (l : List Timed). end_of start l) front_is))
      settles_then (inr (tail, c, e)) =
          let all : whole ≡ by.front ++ (tail ++ (rec.timed ∷ rec.rest)) = rec.split ∙ (ap (λ (l : List Timed). l ++ rec.timed ∷ rec.rest) c
          ∙ append_assoc by.front tail (rec.timed ∷ rec.rest)) in
          let lost = lose group clocks pace start n first term by.front tail (rec.timed ∷ rec.rest) by.leads.server recorder
          (subst calm_at all under) (subst (CallsFit n w) all fits) (followers.apart first (inl refl)).0 (followers.apart first (inl refl)).1
          (followers.in_step first (inl refl)) by.leads.runs
          (subst (λ (l : List Timed). ((here l).member n).status ≡ Up recorder) c rec.settled.runs) in
          let e0 = one_longer log (proposal term uid other) in
          absurd (omega (
            arith,
            e0,
            ap (λ (l : List Entry). length l) rec.settled.log_is,
            ap (λ (l : List Entry). length l) lost.0.1,
            ap (λ (l : List Entry). length l) by.leads.its_log,
            length-append by.leads.server.raft_server.store.log lost.0.0,
            length-append (log ++ proposal term uid other ∷ []) by.more,
          ))

      pub settles_with_pair : HasSettledWithPairBy ids n term log (clocks (OfMember n)) uid start final w whole
      settles_with_pair =
          let it = settles_then (two_cuts rec.front (rec.timed ∷ rec.rest) by.front by.rest (sym rec.split ∙ by.split)) in record {
            front = it.front;
            rest = it.rest;
            split = it.split;
            soon = it.soon;
            node = rec.node;
            left = rec.left;
            settled = it.settled_then;
          }
