-- What is on its way in a calm comes from a party of the group.
use Rattle.std.proofs.Common.{ℕ, ◌≤◌, List, [], ◌∷◌, ◌++◌, inl, inr}
use Rattle.raft_model.specs.Lists.{In}
use Rattle.bus_rows.specs.declared.row.Row.{Row}
use Rattle.transfer_tx.specs.Queue.{Queued}
use Rattle.bus_rows.specs.Timed.{Timed, rows_in}
use Rattle.service_alone.specs.Calm.{IsNext, OnItsWay, Pace}
use Rattle.service_calm.specs.Calm.{AreCalm, AreRunning, IsCalmRow, Member as OfMember, Party, Traffic, on_way_after, traffic_after}
use Rattle.service_calm.proofs.Group.{AreWell, CalmLaws, sent_anonymous, sent_own, well_after}
use Rattle.service_leader.proofs.FramesFly.{Fly, fly_after, next_is}
use Rattle.service_leader.proofs.TermsHeard.{IsOfGroup}
use Rattle.bus_spec.specs.Cluster.{Cluster, after_row, after_rows, frame_at}

module _ (group : List Party) where
  -- the frames on their way are of the group
  abbrev pub AreOfGroup : List Queued → List OnItsWay → Type 0
  AreOfGroup frames ways = Fly (IsOfGroup group) frames ways

  -- the one that comes next is
  pub next_of_group : (frames : List Queued) (k : ℕ) (ways : List OnItsWay) → IsNext k ways → AreOfGroup frames ways → IsOfGroup group (frame_at frames k)
  next_of_group frames k ways is_next h = next_is (IsOfGroup group) frames k ways is_next h

  -- so it is after each calm row
  pub of_group_after : CalmLaws → ((p : ℕ) → In (OfMember p) group → (1 ≤ p) × (p ≤ 125)) → (clocks : Party → ℕ) (pace : Pace) (traffic : Traffic)
      (w : Cluster) → AreWell group w → ((party : Party) → AreOfGroup w.frames (traffic.to party)) → (moment : ℕ) (row : Row)
      → IsCalmRow group clocks pace traffic w moment row → (party : Party) → AreOfGroup (after_row w row).frames (on_way_after moment w row party (traffic.to party))
  of_group_after laws nodes clocks pace traffic w are flies moment row calm = fly_after (IsOfGroup group) group clocks pace traffic w flies moment row calm
      (λ n g i is e. inl (n, i, sent_own laws n (w.member n) g (are.members n i) e)) (λ a g i is e. inr (sent_anonymous laws group nodes w are a g i e))

  -- ---- row by row

  -- these rows are calm from a world on in which the members run, and what is on its way is of the group
  pub record IsCalmOn (clocks : Party → ℕ) (pace : Pace) (w : Cluster) (whole : List Timed) : Type 0 where
    pub traffic : Traffic
    pub calm : AreCalm group clocks pace traffic w whole
    pub are : AreWell group w
    pub flies : (party : Party) → AreOfGroup w.frames (traffic.to party)

  pub all_run : (w : Cluster) → AreWell group w → AreRunning group w
  all_run w are m i = let is = are.members m i in
      record { server = is.server; runs = is.up.status; faults = is.up.quiet.faults; disk = is.up.quiet.calls }

  -- so it is further on
  pub calm_on : CalmLaws → ((p : ℕ) → In (OfMember p) group → (1 ≤ p) × (p ≤ 125)) → (clocks : Party → ℕ) (pace : Pace) (first rest : List Timed)
      (w : Cluster) → IsCalmOn clocks pace w (first ++ rest) → IsCalmOn clocks pace (after_rows w (rows_in first)) rest
  calm_on laws nodes clocks pace [] rest w on = on
  calm_on laws nodes clocks pace (timed ∷ first) rest w on = calm_on laws nodes clocks pace first rest (after_row w timed.row) (record {
    traffic = traffic_after on.traffic w timed;
    calm = on.calm.2;
    are = well_after laws group nodes w on.are clocks pace on.traffic timed.at timed.row on.calm.1;
    flies = λ party. of_group_after laws nodes clocks pace on.traffic w on.are on.flies timed.at timed.row on.calm.1 party;
  })
