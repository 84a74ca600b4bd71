-- Calm rows in which nobody stands for election: what holds of their parts; and that somebody stands in rows, or nobody.
use Rattle.std.proofs.Common.{◌≡◌, ◌≢◌, ℕ, ◌+◌, ◌<◌, ◌≤◌, arith, List, [], ◌∷◌, ◌++◌, refl, sym, ◌∙◌, ap, subst, inl, inr}
use Rattle.std.specs.Prelude.{⊤, ◌⊎◌}
use Rattle.std.proofs.lemmas.Bool.Decides.{eqb_tells, leb_tells}
use Rattle.raft_model.specs.Lists.{In}
use Rattle.raft_model.specs.Server.{Role}
use Rattle.raft_model.specs.Server.Role.{Candidate, Follower, Leader}
use Rattle.bus_rows.specs.declared.row.Row.{Row}
use Rattle.bus_rows.specs.declared.row.Row.TheVariants.{AEnd, AOpen, ARx, ASend, ATick, Crash, Ext, Fault, Open, Rx, Send, Tick}
use Rattle.alloc_spec.specs.AllocatorState.{AllocatorState}
use Rattle.bus_rows.specs.Timed.{Timed, rows_in}
use Rattle.service_alone.specs.Calm.{Pace, end_of}
use Rattle.service_calm.specs.Calm.{AreCalm, AreRunning, IsCalmRow, IsRunning, Member as OfMember, Party, Traffic, traffic_after}
use Rattle.service_calm.proofs.Calls.{Always}
use Rattle.service_calm.proofs.CallsKept.{GoesOn, IsKept, further}
use Rattle.service_calm.proofs.Pair.{same_server}
use Rattle.service_leader.proofs.Stretches.{GoesOnFrom, calm_rest}
use Rattle.service_candidate.specs.Votes.{Stands}
use Rattle.service_elections.specs.Running.{NobodyStandsIn}
use Rattle.bus_spec.specs.Cluster.{Cluster, after_row, after_rows}
use Rattle.bus_spec.specs.Members.MemberStatus.{Up}

-- ---- parts of such rows

module _ (group : List Party) where
  pub nobody_front : (front rest : List Timed) (w : Cluster) → NobodyStandsIn group w (front ++ rest) → NobodyStandsIn group w front
  nobody_front [] rest w none = tt
  nobody_front (first ∷ front) rest w none = (none.0, nobody_front front rest (after_row w first.row) none.1)

  pub nobody_rest : (front rest : List Timed) (w : Cluster) → NobodyStandsIn group w (front ++ rest) → NobodyStandsIn group (after_rows w (rows_in front)) rest
  nobody_rest [] rest w none = none
  nobody_rest (first ∷ front) rest w none = nobody_rest front rest (after_row w first.row) none.1

-- ---- a front that ends later than a moment

-- the first row that is later than this moment: it comes at most a period behind the one before it
pub record FirstBehind (pace : Pace) (bound moment : ℕ) (list : List Timed) : Type 0 where
  pub before : List Timed
  pub last : Timed
  pub later : List Timed
  pub split : list ≡ before ++ last ∷ later
  pub early : end_of moment before ≤ bound
  pub late : bound < last.at
  pub soon : last.at ≤ end_of moment before + pace.period

pub first_behind : (group : List Party) (clocks : Party → ℕ) (pace : Pace) (n : ℕ) → In (OfMember n) group → (bound : ℕ) (list rest : List Timed) (moment : ℕ)
    (w : Cluster) → GoesOnFrom group clocks pace moment w (list ++ rest) → moment ≤ bound → bound < end_of moment list → FirstBehind pace bound moment list
first_behind group clocks pace n i bound [] rest moment w from low high = absurd (omega (arith, low, high))
first_behind group clocks pace n i bound (x ∷ list) rest moment w from low high = elim (leb_tells x.at bound) [
  | inl z ↦
      let more = first_behind group clocks pace n i bound list rest x.at (after_row w x.row)
      (calm_rest group clocks pace (x ∷ []) (list ++ rest) moment w from) z.1 high in record {
        before = x ∷ more.before;
        last = more.last;
        later = more.later;
        split = ap (λ (l : List Timed). x ∷ l) more.split;
        early = more.early;
        late = more.late;
        soon = more.soon;
      }
  | inr z ↦ record {
    before = [];
    last = x;
    later = list;
    split = refl;
    early = low;
    late = z.1;
    soon = let ticks = from.calm.0.ticks (OfMember n) i in let ticked = from.ticked (OfMember n) in omega (arith, ticks, ticked);
  }
]

-- ---- a member stands in a row, or none does

candidate_or_not : (role : Role) → (role ≡ Candidate) ⊎ (role ≢ Candidate)
candidate_or_not Follower = inr (λ e. cc e)
candidate_or_not Candidate = inl refl
candidate_or_not Leader = inr (λ e. cc e)

-- in this row a member of the group stands
pub record OneStands (group : List Party) (w : Cluster) (row : Row) : Type 0 where
  pub c : ℕ
  pub member : In (OfMember c) group
  pub term : ℕ
  pub stands : Stands c term w row

abbrev NoneStands : List Party → Cluster → Row → Type 0
NoneStands group w row = (n term : ℕ) → In (OfMember n) group → Stands n term w row → ⊥

same_ticker : (n p ms moment word random : ℕ) → Tick p ms word ≡ Tick n moment random → p ≡ n
same_ticker n p ms moment word random e = cc e

module _ (group : List Party) (clocks : Party → ℕ) (pace : Pace) (traffic : Traffic) (w : Cluster) (moment : ℕ) where
  at_tick : (p ms word : ℕ) → In (OfMember p) group → IsRunning p w → IsRunning p (after_row w (Tick p ms word))
      → OneStands group w (Tick p ms word) ⊎ NoneStands group w (Tick p ms word)
  at_tick p ms word i before after = elim (candidate_or_not after.server.raft_server.memory.role) [
    | inr not_so ↦ inr (λ n term j s. not_so (ap (λ (t : AllocatorState). t.raft_server.memory.role) (its_after n term s) ∙ s.stands))
    | inl stands ↦ elim (eqb_tells after.server.raft_server.store.term (before.server.raft_server.store.term + 1)) [
      | inl z ↦ inl (record {
        c = p;
        member = i;
        term = before.server.raft_server.store.term + 1;
        stands = record {
          ms = ms;
          word = word;
          reads = refl;
          before = before.server;
          runs = before.runs;
          next = refl;
          after = after.server;
          runs_then = after.runs;
          stands = stands;
          its_term = z.1;
        };
      })
      | inr z ↦ inr (λ n term j s. z.1 (ap (λ (t : AllocatorState). t.raft_server.store.term) (its_after n term s) ∙ (s.its_term ∙ (s.next
          ∙ ap (λ (t : AllocatorState). t.raft_server.store.term + 1) (sym (its_before n term s))))))
    ]
  ]
    where
      its : (n term : ℕ) (s : Stands n term w (Tick p ms word)) → p ≡ n
      its n term s = same_ticker n p ms s.ms word s.word s.reads

      its_before : (n term : ℕ) (s : Stands n term w (Tick p ms word)) → before.server ≡ s.before
      its_before n term s = same_server before.server s.before
          (sym before.runs ∙ subst (λ (j : ℕ). (w.member j).status ≡ Up s.before) (sym (its n term s)) s.runs)

      its_after : (n term : ℕ) (s : Stands n term w (Tick p ms word)) → after.server ≡ s.after
      its_after n term s = same_server after.server s.after
          (sym after.runs ∙ subst (λ (j : ℕ). ((after_row w (Tick p ms word)).member j).status ≡ Up s.after) (sym (its n term s)) s.runs_then)

  pub one_or_none : (row : Row) → IsCalmRow group clocks pace traffic w moment row → AreRunning group w → AreRunning group (after_row w row)
      → OneStands group w row ⊎ NoneStands group w row
  one_or_none (Tick p ms word) calm before after = at_tick p ms word calm.0 (before p calm.0) (after p calm.0)
  one_or_none (Rx p k ms) calm before after = inr (λ n term i s. absurd (cc (s.reads)))
  one_or_none (Send p) calm before after = inr (λ n term i s. absurd (cc (s.reads)))
  one_or_none (ATick a ms word) calm before after = inr (λ n term i s. absurd (cc (s.reads)))
  one_or_none (ARx a k ms word) calm before after = inr (λ n term i s. absurd (cc (s.reads)))
  one_or_none (ASend a) calm before after = inr (λ n term i s. absurd (cc (s.reads)))
  one_or_none (Open p told ms word) calm before after = absurd calm
  one_or_none (Ext frame) calm before after = absurd calm
  one_or_none (Crash p calls pattern) calm before after = absurd calm
  one_or_none (Fault p call) calm before after = absurd calm
  one_or_none (AOpen a uid pref ms word) calm before after = absurd calm
  one_or_none (AEnd a) calm before after = absurd calm

-- ---- a member stands in rows, or none does

abbrev Anything : AllocatorState → Type 0
Anything t = ⊤

any_kept : IsKept Always Anything
any_kept = record { stepped = λ t number event may is. tt; popped = λ t is. tt }

-- the members of the group run on in a calm row
pub running_on : (group : List Party) (clocks : Party → ℕ) (pace : Pace) (traffic : Traffic) (w : Cluster) (timed : Timed) (rest : List Timed)
    → AreCalm group clocks pace traffic w (timed ∷ rest) → AreRunning group w → AreRunning group (after_row w timed.row)
running_on group clocks pace traffic w timed rest calm running p i = record {
  server = on.runs.server;
  runs = on.runs.up.status;
  faults = on.runs.up.quiet.faults;
  disk = on.runs.up.quiet.calls;
}
  where
    is : IsRunning p w
    is = running p i

    on : GoesOn Always Anything any_kept group clocks pace p (after_row w timed.row) rest
    on = further Always Anything any_kept group clocks pace p (timed ∷ []) rest w (λ x j. tt) (record {
      traffic = traffic;
      calm = calm;
      runs = record { server = is.server; up = record { status = is.runs; quiet = record { faults = is.faults; calls = is.disk } }; holds = tt };
    })

-- in one of these rows a member of the group stands, and none before
pub record OneStandsFirst (group : List Party) (w : Cluster) (list : List Timed) : Type 0 where
  pub front : List Timed
  pub timed : Timed
  pub rest : List Timed
  pub split : list ≡ front ++ timed ∷ rest
  pub nobody : NobodyStandsIn group w front
  pub one : OneStands group (after_rows w (rows_in front)) timed.row

pub first_or_nobody : (group : List Party) (clocks : Party → ℕ) (pace : Pace) (list more : List Timed) (traffic : Traffic) (w : Cluster)
    → AreCalm group clocks pace traffic w (list ++ more) → AreRunning group w → OneStandsFirst group w list ⊎ NobodyStandsIn group w list
first_or_nobody group clocks pace [] more traffic w calm running = inr tt
first_or_nobody group clocks pace (timed ∷ list) more traffic w calm running =
    let then_ = running_on group clocks pace traffic w timed (list ++ more) calm running in
    elim (one_or_none group clocks pace traffic w timed.at timed.row calm.1 running then_) [
      | inl one ↦ inl (record { front = []; timed = timed; rest = list; split = refl; nobody = tt; one = one })
      | inr none ↦ elim (first_or_nobody group clocks pace list more (traffic_after traffic w timed) (after_row w timed.row) calm.2 then_) [
        | inr nobody ↦ inr (none, nobody)
        | inl found ↦ inl (record {
          front = timed ∷ found.front;
          timed = found.timed;
          rest = found.rest;
          split = ap (λ (l : List Timed). timed ∷ l) found.split;
          nobody = (none, found.nobody);
          one = found.one;
        })
      ]
    ]
