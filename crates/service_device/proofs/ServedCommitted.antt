-- A pair that a leader records in a calm is committed in time.
use Rattle.std.proofs.Common.{◌≡◌, ◌⊎◌, ℕ, ◌+◌, ◌*◌, ◌<◌, ◌≤◌, List, [], ◌∷◌, ◌++◌, length, append_assoc, refl, sym, ◌∙◌, ap, subst, inl, inr, arith}
use Rattle.std.specs.Prelude.{drop, slice_index_or}
use Rattle.std.proofs.lemmas.List.{append-nil}
use Rattle.can_frame.specs.declared.entry.Entry.{Entry}
use Rattle.can_frame.specs.Timing.{call_timeout}
use Rattle.raft_core.specs.Taken.{proposal}
use Rattle.raft_model.specs.Lists.{In}
use Rattle.raft_model.specs.Log.{term_at}
use Rattle.bus_rows.specs.declared.row.Row.{Row}
use Rattle.alloc_spec.specs.AllocatorState.{AllocatorState}
use Rattle.service_steps.proofs.Alone.{last_entry}
use Rattle.bus_rows.specs.Timed.{Timed, rows_in}
use Rattle.service_alone.specs.Calm.{Pace, end_of}
use Rattle.service_calm.specs.Calm.{AreCalm, Party, no_traffic}
use Rattle.service_device.specs.AskingServed.{CanCommitWith}
use Rattle.service_leader.specs.Entries.{EntriesAreCommittedInTime, IsCommittedBy, KeepsCalling, calls_left, come_within}
use Rattle.service_leader.specs.LeadsOn.{LeadsIn}
use Rattle.service_leader.specs.NoElection.{CallsFit}
use Rattle.service_device.specs.Served.{HasCommittedBy, IsRecordedBy, LeadsWithLog}
use Rattle.service_device.specs.Settled.{IsCalmUnder}
use Rattle.service_calm.proofs.Pair.{same_server}
use Rattle.service_leader.proofs.Stretches.{end_both, end_last, world_both}
use Rattle.service_device.proofs.LosesNothing.{CommitsStay, LogGrows}
use Rattle.bus_spec.specs.Cluster.{Cluster, after_rows, world_of}
use Rattle.bus_spec.specs.Lawful.{DoNoHarm}
use Rattle.bus_spec.specs.Members.MemberStatus.{Up}

-- two cuts of one list: the first list is the shorter one, or the second is
abbrev pub Cuts : {A : Type 0} → (xs d c e : List A) → Type 0
Cuts {A} xs d c e = ((tail : List A) × (c ≡ xs ++ tail) × (d ≡ tail ++ e)) ⊎ ((tail : List A) × (xs ≡ c ++ tail) × (e ≡ tail ++ d))

pub two_cuts : {A : Type 0} (xs d c e : List A) → xs ++ d ≡ c ++ e → Cuts xs d c e
two_cuts [] d c e same = inl (c, refl, same)
two_cuts (x ∷ xs) d [] e same = inr (x ∷ xs, refl, sym same)
two_cuts (x ∷ xs) d (y ∷ c) e same =
    let first : y ≡ x = sym (ap (λ l. slice_index_or l 0 x) same) in
    elim (two_cuts xs d c e (ap (λ l. drop 1 l) same)) [
      | inl z ↦ inl (z.0, (λ i. first i ∷ z.1 i), z.2)
      | inr z ↦ inr (z.0, (λ i. sym first i ∷ z.1 i), z.2)
    ]

-- ---- a pair that is recorded

module _ (ids : List ℕ) (rows : List Row) (committed : EntriesAreCommittedInTime ids rows) (group : List Party) (clocks : Party → ℕ) (pace : Pace) (start n term : ℕ)
    (first early later : List Timed) (under : IsCalmUnder ids rows group clocks pace start n term first (early ++ later))
    (fits : CallsFit n (world_of ids rows) (first ++ (early ++ later)))
    (one : ℕ) (next : List ℕ)
    (can : CanCommitWith ids group n pace.delay (one ∷ next) (world_of ids rows) first (early ++ later))
    (quick : 4 * pace.delay < call_timeout) (stays : CommitsStay n (world_of ids rows) (first ++ (early ++ later)))
    (led : (front rest : List Timed) → later ≡ front ++ rest → LeadsIn n term (after_rows (after_rows (world_of ids rows) (rows_in (first ++ early))) (rows_in front)))
    (grows : LogGrows n (after_rows (world_of ids rows) (rows_in (first ++ early))) later) where
  abbrev w : Cluster
  w = world_of ids rows

  abbrev led_from : Cluster
  led_from = after_rows w (rows_in first)

  -- behind the early rows
  abbrev there : Cluster
  there = after_rows w (rows_in (first ++ early))

  abbrev moment : ℕ
  moment = end_of start (first ++ early)

  abbrev here : List Timed → Cluster
  here front = after_rows there (rows_in front)

  -- a leader that is known to have a log behind a front has it so
  abbrev with_log : (log : List Entry) (v : Cluster) (t : AllocatorState) → (v.member n).status ≡ Up t → LeadsIn n term v → t.raft_server.store.log ≡ log → LeadsWithLog n term log v
  with_log log v t up leads its = record {
    server = t;
    runs = up;
    leads = ap (λ (s : AllocatorState). s.raft_server.memory.role) (same_server t leads.server (sym up ∙ leads.runs)) ∙ leads.leads;
    its_term = ap (λ (s : AllocatorState). s.raft_server.store.term) (same_server t leads.server (sym up ∙ leads.runs)) ∙ leads.its_term;
    its_log = its;
  }

  module _ (log : List Entry) (uid : List ℕ) (node more : ℕ) (front rest : List Timed) (cut : later ≡ front ++ rest)
      (recorded : LeadsWithLog n term (log ++ proposal term uid node ∷ []) (here front))
      (left : (m : ℕ) → In m (one ∷ next) → calls_left recorded.server m ≤ more) (long : end_of moment front + come_within pace more < end_of moment later) where
    abbrev longer : List Entry
    longer = log ++ proposal term uid node ∷ []

    abbrev leader : AllocatorState
    leader = recorded.server

    -- all rows up to here
    abbrev before : List Timed
    before = (first ++ early) ++ front

    cut_first : first ++ (early ++ later) ≡ first ++ ((early ++ front) ++ rest)
    cut_first = ap (λ (l : List Timed). first ++ l) (ap (λ (l : List Timed). early ++ l) cut ∙ sym (append_assoc early front rest))

    cut_before : first ++ ((early ++ front) ++ rest) ≡ before ++ rest
    cut_before = sym (append_assoc first (early ++ front) rest) ∙ ap (λ (l : List Timed). l ++ rest) (sym (append_assoc first early front))

    world_here : after_rows w (rows_in before) ≡ here front
    world_here = world_both w (first ++ early) front

    world_first : after_rows led_from (rows_in (early ++ front)) ≡ here front
    world_first = sym (world_both w first (early ++ front)) ∙ (ap (λ (l : List Timed). after_rows w (rows_in l)) (sym (append_assoc first early front)) ∙ world_here)

    end_first : end_of (end_of start first) (early ++ front) ≡ end_of moment front
    end_first = sym (end_both start first (early ++ front)) ∙ (ap (λ (l : List Timed). end_of start l) (sym (append_assoc first early front)) ∙ end_both start (first ++ early) front)

    own : term_at leader.raft_server.store.log (length leader.raft_server.store.log) ≡ term
    own = ap (λ (l : List Entry). term_at l (length l)) recorded.its_log ∙ ap (λ (e : Entry). e.term) (last_entry log (proposal term uid node))

    by : IsCommittedBy n (length leader.raft_server.store.log) (end_of (end_of start first) (early ++ front) + come_within pace more) start w (first ++ ((early ++ front) ++ rest))
    by = committed group clocks pace start n term more one next first (early ++ front) rest leader under.listed under.running under.member can.apart can.many quick
        (subst (AreCalm group clocks pace (no_traffic start) w) cut_first under.calm) (subst (λ (l : List Timed). DoNoHarm w (rows_in l)) cut_first under.harmless)
        (λ a b e. under.led a b (ap (λ (l : List Timed). early ++ l) cut ∙ (sym (append_assoc early front rest) ∙ e))) (subst (CallsFit n w) cut_first fits)
        (λ m i. subst (KeepsCalling n m pace.delay w first) (ap (λ (l : List Timed). early ++ l) cut ∙ sym (append_assoc early front rest)) (can.calling m i))
        (subst (λ (v : Cluster). (v.member n).status ≡ Up leader) (sym world_first) recorded.runs) left own
        (let all = ap (λ (l : List Timed). end_of start l) (sym cut_first ∙ sym (append_assoc first early later)) in
        let both = end_both start (first ++ early) later in
        let e = end_first in omega (arith, long, all, both, e))

    high : length longer ≤ by.leader.raft_server.store.commit
    high = let c = by.committed in omega (arith, c, ap length recorded.its_log)

    split_both : before ++ rest ≡ by.front ++ by.rest
    split_both = sym cut_before ∙ by.split

    -- the front stands behind the row, or before it: what is committed then is so in the row
    pub has_committed : (last : ℕ) → end_of moment front + come_within pace more ≤ last → HasCommittedBy n term longer moment last there later
    has_committed last soon = from (two_cuts before rest by.front by.rest split_both)
      where
        from : Cuts before rest by.front by.rest → HasCommittedBy n term longer moment last there later
        from (inl z) =
            let front_is : by.front ≡ (first ++ early) ++ (front ++ z.0) = z.1 ∙ append_assoc (first ++ early) front z.0 in
            let world_is : after_rows w (rows_in by.front) ≡ here (front ++ z.0)
            = ap (λ (l : List Timed). after_rows w (rows_in l)) front_is ∙ world_both w (first ++ early) (front ++ z.0) in
            let cut_tail : later ≡ front ++ (z.0 ++ by.rest) = cut ∙ ap (λ (l : List Timed). front ++ l) z.2 in
            let cut_then : later ≡ (front ++ z.0) ++ by.rest = cut_tail ∙ sym (append_assoc front z.0 by.rest) in
            let up : ((here (front ++ z.0)).member n).status ≡ Up by.leader = subst (λ (v : Cluster). (v.member n).status ≡ Up by.leader) world_is by.leads in
            let grown = grows front z.0 by.rest leader by.leader cut_tail recorded.runs up in record {
              front = front ++ z.0;
              rest = by.rest;
              split = cut_then;
              soon = let s = by.soon in
                  let ends = ap (λ (l : List Timed). end_of start l) front_is in
                  let both = end_both start (first ++ early) (front ++ z.0) in
                  let e = end_first in omega (arith, s, ends, both, e, soon);
              more = grown.0;
              leads = with_log (longer ++ grown.0) (here (front ++ z.0)) by.leader up (led (front ++ z.0) by.rest cut_then)
                  (grown.1 ∙ ap (λ (l : List Entry). l ++ grown.0) recorded.its_log);
              committed = high;
            }
        from (inr z) = record {
          front = front;
          rest = rest;
          split = cut;
          soon = omega (arith, soon);
          more = [];
          leads = with_log (longer ++ []) (here front) leader recorded.runs (led front rest cut) (recorded.its_log ∙ sym (append-nil longer));
          committed = stays by.front z.0 rest by.leader leader (length longer) (cut_first ∙ (by.split ∙ ap (λ (l : List Timed). by.front ++ l) z.2)) by.leads
              (subst (λ (l : List Timed). ((after_rows w (rows_in l)).member n).status ≡ Up leader) z.1
              (subst (λ (v : Cluster). (v.member n).status ≡ Up leader) (sym world_here) recorded.runs)) high;
        }

  -- a pair that is recorded by a moment is committed
  module _ (log : List Entry) (ahead : ℕ) (uid : List ℕ) (more heard : ℕ) (by : IsRecordedBy ids n term log ahead uid moment heard there later)
      (left : (m : ℕ) → In m (one ∷ next) → calls_left by.recorded.server m ≤ more) (long : heard + come_within pace more < end_of moment later) where
    row_end : List Timed
    row_end = by.front ++ by.timed ∷ []

    cut : later ≡ row_end ++ by.rest
    unfolding row_end
    cut = by.split ∙ sym (append_assoc by.front (by.timed ∷ []) by.rest)

    soon : end_of moment row_end ≤ heard
    unfolding row_end
    soon = let s = by.soon in let e = end_last moment by.front by.timed in omega (arith, s, e)

    its_pair : LeadsWithLog n term (log ++ proposal term uid by.node ∷ []) (here row_end)
    unfolding row_end
    its_pair = record {
      server = by.recorded.server;
      runs = subst (λ (v : Cluster). (v.member n).status ≡ Up by.recorded.server) (sym (world_both there by.front (by.timed ∷ []))) by.recorded.runs;
      leads = by.recorded.leads;
      its_term = by.recorded.its_term;
      its_log = by.recorded.its_log;
    }

    pub as_recorded : (last : ℕ) → heard + come_within pace more ≤ last → HasCommittedBy n term (log ++ proposal term uid by.node ∷ []) moment last there later
    unfolding its_pair
    as_recorded last within = has_committed log uid by.node more row_end by.rest cut its_pair left (let s = soon in omega (arith, s, long)) last
        (let s = soon in omega (arith, s, within))
