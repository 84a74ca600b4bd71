-- A calm, and rows of it behind its first ones: cuts of them, their moments, and what is carried along them.
use Rattle.std.proofs.Common.{◌≡◌, ℕ, ◌<◌, ◌≤◌, List, [], ◌∷◌, ◌++◌, append_assoc, append-nil, refl, sym, ◌∙◌, ap, subst, arith, inl, inr}
use Rattle.std.specs.Prelude.{⊤, slice_index_or}
use Rattle.bus_rows.specs.declared.row.Row.{Row}
use Rattle.alloc_spec.specs.AllocatorState.{AllocatorState}
use Rattle.alloc_spec_laws.proofs.Choices.{lt_tells}
use Rattle.bus_rows.specs.Timed.{Timed, rows_in}
use Rattle.service_alone.specs.Calm.{Pace, end_of}
use Rattle.service_calm.specs.Calm.{AreCalm, IsRunning, Party, no_traffic}
use Rattle.service_device.specs.Settled.{IsCalmUnder}
use Rattle.service_calm.proofs.Calls.{Always}
use Rattle.service_calm.proofs.CallsKept.{GoesOn, IsKept, RunsWith, further}
use Rattle.service_calm.proofs.Pair.{same_server}
use Rattle.service_leader.proofs.Stretches.{GoesOnFrom, calm_first, calm_rest, end_both, end_last, not_before, world_both}
use Rattle.service_leader.proofs.TermsRoles.{LeadsAt}
use Rattle.service_device.proofs.ServedCommitted.{two_cuts}
use Rattle.bus_spec.specs.Cluster.{Cluster, after_rows, world_of}
use Rattle.bus_spec.specs.Members.MemberStatus.{Up}

-- ---- where a moment falls

-- these rows are cut at a moment: the first of them end by it, and the next one comes later
pub record CutAt (begins last : ℕ) (rows : List Timed) : Type 0 where
  pub front : List Timed
  pub next : Timed
  pub rest : List Timed
  pub split : rows ≡ front ++ next ∷ rest
  pub soon : end_of begins front ≤ last
  pub beyond : last < next.at

pub cut_at : (rows : List Timed) (begins last : ℕ) → begins ≤ last → last < end_of begins rows → CutAt begins last rows
cut_at [] begins last low long = absurd (omega (arith, low, long))
cut_at (x ∷ rows) begins last low long = elim (lt_tells last x.at) [
  | inl z ↦ record { front = []; next = x; rest = rows; split = refl; soon = low; beyond = z.1 }
  | inr z ↦ let more = cut_at rows x.at last z.1 long in record {
    front = x ∷ more.front;
    next = more.next;
    rest = more.rest;
    split = ap (λ (l : List Timed). x ∷ l) more.split;
    soon = more.soon;
    beyond = more.beyond;
  }
]

-- of a member that runs nothing more is asked
abbrev pub Any : AllocatorState → Type 0
Any t = ⊤

any_kept : IsKept Always Any
any_kept = record { stepped = λ t number event may h. tt; popped = λ t h. tt }

module _ (w : Cluster) (group : List Party) (clocks : Party → ℕ) (pace : Pace) (start n : ℕ) (first later : List Timed)
    (calm : AreCalm group clocks pace (no_traffic start) w (first ++ later)) (running : IsRunning n w) where
  -- the world behind the first rows, the one behind a front of the later rows, and their moments
  abbrev pub there : Cluster
  there = after_rows w (rows_in first)

  abbrev pub begins : ℕ
  begins = end_of start first

  abbrev pub here : List Timed → Cluster
  here a = after_rows there (rows_in a)

  abbrev pub moment : List Timed → ℕ
  moment a = end_of begins a

  pub cut_more : (a b : List Timed) (x : Timed) → later ≡ a ++ x ∷ b → later ≡ (a ++ x ∷ []) ++ b
  cut_more a b x cut = cut ∙ sym (append_assoc a (x ∷ []) b)

  -- ---- moments

  goes_from : GoesOnFrom group clocks pace begins there later
  goes_from = calm_rest group clocks pace first later start w
      (record { traffic = no_traffic start; calm = calm; at_end = refl; ticked = λ party. omega arith })

  -- the rows go on calmly behind a front
  pub goes_behind : (a b : List Timed) → later ≡ a ++ b → GoesOnFrom group clocks pace (moment a) (here a) b
  goes_behind a b cut = calm_rest group clocks pace a b begins there (subst (GoesOnFrom group clocks pace begins there) cut goes_from)

  -- moments do not go back
  pub no_earlier : (a c b : List Timed) → later ≡ a ++ (c ++ b) → moment a ≤ moment (a ++ c)
  no_earlier a c b cut =
      let low = not_before group clocks pace c (moment a) (here a) (calm_first group clocks pace c b (moment a) (here a) (goes_behind a (c ++ b) cut)) in
      let both = end_both begins a c in omega (arith, low, both)

  -- a front that ends by a moment stands in the one that is cut there
  pub front_in : (last : ℕ) (at : CutAt begins last later) (f r : List Timed) → later ≡ f ++ r → moment f ≤ last → (tail : List Timed) × (at.front ≡ f ++ tail)
  front_in last at f r cut soon = elim (two_cuts f r at.front (at.next ∷ at.rest) (sym cut ∙ at.split)) [
    | inl z ↦ (z.0, z.1)
    | inr z ↦ by z.0 z.1 z.2
  ]
    where
      by : (tail : List Timed) → f ≡ at.front ++ tail → at.next ∷ at.rest ≡ tail ++ r → (more : List Timed) × (at.front ≡ f ++ more)
      by [] e d = ([], sym (e ∙ append-nil at.front) ∙ sym (append-nil f))
      by (y ∷ tail) e d =
          let same : y ≡ at.next = ap (λ (l : List Timed). slice_index_or l 0 y) (sym d) in
          let whole : later ≡ (at.front ++ y ∷ []) ++ (tail ++ r) = cut ∙ (ap (λ (l : List Timed). l ++ r) e
          ∙ (append_assoc at.front (y ∷ tail) r ∙ sym (append_assoc at.front (y ∷ []) (tail ++ r)))) in
          let up = no_earlier (at.front ++ y ∷ []) tail r whole in
          let ends = end_last begins at.front y in
          let all : (at.front ++ y ∷ []) ++ tail ≡ f = append_assoc at.front (y ∷ []) tail ∙ sym e in
          let over = ap (λ (l : List Timed). end_of begins l) all in
          let its = ap (λ (t : Timed). t.at) same in
          let beyond = at.beyond in absurd (omega (arith, up, ends, over, its, beyond, soon))

  -- ---- what is carried along

  -- it runs on
  runs_there : RunsWith Any (there.member n)
  runs_there = (further Always Any any_kept group clocks pace n first later w (λ timed i. tt) (record {
    traffic = no_traffic start;
    calm = calm;
    runs = record {
      server = running.server;
      up = record { status = running.runs; quiet = record { faults = running.faults; calls = running.disk } };
      holds = tt;
    };
  })).runs

  pub runs_at : (a b : List Timed) → later ≡ a ++ b → RunsWith Any ((here a).member n)
  runs_at a b cut = (further Always Any any_kept group clocks pace n a b there (λ timed i. tt) (record {
    traffic = goes_from.traffic;
    calm = subst (AreCalm group clocks pace goes_from.traffic there) cut goes_from.calm;
    runs = runs_there;
  })).runs

  -- what each step keeps is carried along
  module _ (Holds : AllocatorState → Type 0) (kept : IsKept Always Holds) where
    pub carry : (a t b : List Timed) → later ≡ a ++ (t ++ b) → (u : AllocatorState) → ((here a).member n).status ≡ Up u → Holds u → (v : AllocatorState)
        → ((here (a ++ t)).member n).status ≡ Up v → Holds v
    carry a t b cut u up holds v then_up = subst Holds (same_server goes.runs.server v (sym goes.runs.up.status ∙ up_then)) goes.runs.holds
      where
        from : GoesOnFrom group clocks pace (moment a) (here a) (t ++ b)
        from = goes_behind a (t ++ b) cut

        x : RunsWith Any ((here a).member n)
        x = runs_at a (t ++ b) cut

        goes : GoesOn Always Holds kept group clocks pace n (after_rows (here a) (rows_in t)) b
        goes = further Always Holds kept group clocks pace n t b (here a) (λ timed i. tt) (record {
          traffic = from.traffic;
          calm = from.calm;
          runs = record { server = x.server; up = x.up; holds = subst Holds (same_server u x.server (sym up ∙ x.up.status)) holds };
        })

        up_then : ((after_rows (here a) (rows_in t)).member n).status ≡ Up v
        up_then = subst (λ (w : Cluster). (w.member n).status ≡ Up v) (world_both there a t) then_up

-- who leads throughout leads in its term
pub leads_at : (ids : List ℕ) (rows : List Row) (group : List Party) (clocks : Party → ℕ) (pace : Pace) (start n term : ℕ) (first later : List Timed)
    → IsCalmUnder ids rows group clocks pace start n term first later → (a b : List Timed) → later ≡ a ++ b → (t : AllocatorState)
    → ((after_rows (after_rows (world_of ids rows) (rows_in first)) (rows_in a)).member n).status ≡ Up t → LeadsAt term t.raft_server
leads_at ids rows group clocks pace start n term first later under a b cut t up =
    let leader = (under.led a b cut).leader in
    let same = same_server leader.server t (sym leader.runs ∙ up) in (
      ap (λ (s : AllocatorState). s.raft_server.memory.role) (sym same) ∙ leader.leads,
      ap (λ (s : AllocatorState). s.raft_server.store.term) (sym same) ∙ leader.its_term,
    )
