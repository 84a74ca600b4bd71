-- What holds of a member's server in a calm, as long as its steps and its frames that go out keep it.
use Rattle.std.proofs.Common.{◌≡◌, ℕ, ◌+◌, List, [], ◌∷◌, ◌++◌, refl, sym, ◌∙◌, ap, subst, inl, inr}
use Rattle.std.proofs.lemmas.Bool.Decides.{eqb_tells}
use Rattle.raft_model.specs.Lists.{In, at, at_here, at_other}
use Rattle.bus_rows.specs.declared.row.Row.{Row}
use Rattle.bus_rows.specs.declared.row.Row.TheVariants.{AEnd, AOpen, ARx, ASend, ATick, Crash, Ext, Fault, Open, Rx, Send, Tick}
use Rattle.alloc_spec.specs.AllocatorState.{AllocatorState}
use Rattle.alloc_spec.specs.Step.{Event, after_pop, moment_of, step}
use Rattle.bus_rows.specs.Timed.{Timed, rows_in}
use Rattle.service_alone.specs.Calm.{Pace}
use Rattle.service_alone.proofs.Members.{IsUp, steps_up}
use Rattle.service_calm.specs.Calm.{AreCalm, IsCalmRow, Member as OfMember, Party, Traffic, traffic_after}
use Rattle.bus_spec.specs.Cluster.{Cluster, after_row, after_rows, receipt_of, tick_of}
use Rattle.bus_spec.specs.Members.{Member, after_sending, member_after_step}

-- the member runs, and this holds of its server
pub record RunsWith (Holds : AllocatorState → Type 0) (x : Member) : Type 0 where
  pub server : AllocatorState
  pub up : IsUp server x
  pub holds : Holds server

-- each step at a moment that may come keeps it, and so does a frame that goes out
pub record IsKept (MayCome : ℕ → Type 0) (Holds : AllocatorState → Type 0) : Type 0 where
  pub stepped : (t : AllocatorState) (number : ℕ) (event : Event) → MayCome (moment_of event) → Holds t → Holds (step t number event).step_state.allocator
  pub popped : (t : AllocatorState) → Holds t → Holds (after_pop t)

module _ (MayCome : ℕ → Type 0) (Holds : AllocatorState → Type 0) (kept : IsKept MayCome Holds) (group : List Party) (clocks : Party → ℕ) (pace : Pace) (m : ℕ) where
  stepped : (number : ℕ) (event : Event) → MayCome (moment_of event) → (x : Member) → RunsWith Holds x → RunsWith Holds (member_after_step number event x.status x)
  stepped number event may x is = record {
    server = (step is.server number event).step_state.allocator;
    up = steps_up number event is.server x is.up;
    holds = kept.stepped is.server number event may is.holds;
  }

  sent : (x : Member) → RunsWith Holds x → RunsWith Holds (record x { status = after_sending x.status })
  sent x is = record {
    server = after_pop is.server;
    up = record { status = ap after_sending is.up.status; quiet = is.up.quiet };
    holds = kept.popped is.server is.holds;
  }

  -- where the member at one place is changed
  changed : (member : ℕ → Member) (n : ℕ) (change : Member → Member) → (m ≡ n → (x : Member) → RunsWith Holds x → RunsWith Holds (change x)) → RunsWith Holds (member m)
      → RunsWith Holds (at member n (change (member n)) m)
  changed member n change keeps is = elim (eqb_tells m n) [
    | inl z ↦ subst (RunsWith Holds) (sym (at_here member n m (change (member n)) z.1))
        (subst (λ (k : ℕ). RunsWith Holds (change (member k))) z.1 (keeps z.1 (member m) is))
    | inr z ↦ subst (RunsWith Holds) (sym (at_other member n m (change (member n)) z.1)) is
  ]

  -- what the member's own clock reads in a row
  may_read : (n moment ms : ℕ) → ms ≡ moment + clocks (OfMember n) → MayCome (moment + clocks (OfMember m)) → m ≡ n → MayCome ms
  may_read n moment ms reads may same = subst MayCome (sym (reads ∙ ap (λ (k : ℕ). moment + clocks (OfMember k)) (sym same))) may

  runs_on : (traffic : Traffic) (w : Cluster) (moment : ℕ) (row : Row) → IsCalmRow group clocks pace traffic w moment row → MayCome (moment + clocks (OfMember m))
      → RunsWith Holds (w.member m) → RunsWith Holds ((after_row w row).member m)
  runs_on traffic w moment (Tick n ms word) calm may is = changed w.member n (λ x. member_after_step (w.rows + 1) (tick_of ms word) x.status x)
      (λ same. stepped (w.rows + 1) (tick_of ms word) (may_read n moment ms calm.1 may same)) is
  runs_on traffic w moment (Rx n k ms) calm may is = changed w.member n (λ x. member_after_step (w.rows + 1) (receipt_of w k ms) x.status x)
      (λ same. stepped (w.rows + 1) (receipt_of w k ms) (may_read n moment ms calm.1 may same)) is
  runs_on traffic w moment (Send n) calm may is = changed w.member n (λ x. record x { status = after_sending x.status }) (λ same. sent) is
  runs_on traffic w moment (ATick a ms word) calm may is = is
  runs_on traffic w moment (ARx a k ms word) calm may is = is
  runs_on traffic w moment (ASend a) calm may is = is
  runs_on traffic w moment (Open n told ms word) calm may is = absurd calm
  runs_on traffic w moment (Ext frame) calm may is = absurd calm
  runs_on traffic w moment (Crash n calls pattern) calm may is = absurd calm
  runs_on traffic w moment (Fault n call) calm may is = absurd calm
  runs_on traffic w moment (AOpen a uid pref ms word) calm may is = absurd calm
  runs_on traffic w moment (AEnd a) calm may is = absurd calm

  -- these rows are calm from a world on in which the member runs
  pub record GoesOn (w : Cluster) (whole : List Timed) : Type 0 where
    pub traffic : Traffic
    pub calm : AreCalm group clocks pace traffic w whole
    pub runs : RunsWith Holds (w.member m)

  -- so it is further on
  pub further : (front rest : List Timed) (w : Cluster) → ((timed : Timed) → In timed front → MayCome (timed.at + clocks (OfMember m))) → GoesOn w (front ++ rest)
      → GoesOn (after_rows w (rows_in front)) rest
  further [] rest w may goes = goes
  further (timed ∷ front) rest w may goes = further front rest (after_row w timed.row) (λ later i. may later (inr i)) (record {
    traffic = traffic_after goes.traffic w timed;
    calm = goes.calm.2;
    runs = runs_on goes.traffic w timed.at timed.row goes.calm.1 (may timed (inl refl)) goes.runs;
  })
