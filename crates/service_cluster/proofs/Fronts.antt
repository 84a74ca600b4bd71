-- The row in which a member comes to lead, and what holds of all rows holds of the later ones.
use Rattle.std.proofs.Common.{◌≡◌, ℕ, List, [], ◌∷◌, ◌++◌, refl, ap, subst, inl, inr}
use Rattle.std.specs.Prelude.{◌⊎◌, ⊤}
use Rattle.raft_model.specs.Lists.{In}
use Rattle.alloc_spec.specs.AllocatorState.{AllocatorState}
use Rattle.bus_rows.specs.Timed.{Timed, rows_in}
use Rattle.service_alone.specs.Calm.{Pace}
use Rattle.service_calm.specs.Calm.{AreCalm, AreRunning, Member as OfMember, Party, no_traffic}
use Rattle.service_calm.specs.Comes.{Throughout}
use Rattle.service_calm.proofs.Calls.{Always}
use Rattle.service_calm.proofs.CallsKept.{IsKept, further}
use Rattle.service_leader.specs.CallsComeBack.{LeadsIfUp, LeadsNotIfUp, LeadsOn}
use Rattle.service_device.specs.ServedTold.{HasRoomInSteps}
use Rattle.service_device.specs.Settled.{NobodyAsks, NobodyIsMissed}
use Rattle.bus_spec.specs.Cluster.{Cluster, after_row, after_rows}
use Rattle.bus_spec.specs.Members.MemberStatus.{Up}

-- ---- what holds of the later rows

pub room_rest : (n : ℕ) (front rest : List Timed) (w : Cluster) → HasRoomInSteps n w (front ++ rest) → HasRoomInSteps n (after_rows w (rows_in front)) rest
room_rest n [] rest w all = all
room_rest n (x ∷ front) rest w all = room_rest n front rest (after_row w x.row) all.1

pub missed_rest : (n : ℕ) (front rest : List Timed) (w : Cluster) → NobodyIsMissed n w (front ++ rest) → NobodyIsMissed n (after_rows w (rows_in front)) rest
missed_rest n [] rest w all = all
missed_rest n (x ∷ front) rest w all = missed_rest n front rest (after_row w x.row) all.1

pub asks_rest : (n : ℕ) (front rest : List Timed) (w : Cluster) → NobodyAsks n w (front ++ rest) → NobodyAsks n (after_rows w (rows_in front)) rest
asks_rest n [] rest w all = all
asks_rest n (x ∷ front) rest w all = asks_rest n front rest (after_row w x.row) all.1

-- ---- the row in which it comes to lead

-- In one of these rows, before which it does not lead, member c comes to lead, and leads on.
pub record Won (c term : ℕ) (v : Cluster) (whole : List Timed) : Type 0 where
  pub early : List Timed
  pub row : Timed
  pub late : List Timed
  pub split : whole ≡ early ++ row ∷ late
  pub none : Throughout (LeadsNotIfUp c) v early
  pub none_then : LeadsNotIfUp c (after_rows v (rows_in early))
  pub leads : Throughout (LeadsIfUp c term) (after_row (after_rows v (rows_in early)) row.row) late

-- who leads behind the rows, and leads on once it leads, leads throughout, or not before them
leads_or_not : (c term : ℕ) (rows : List Timed) (v : Cluster) → LeadsOn c term v rows → Throughout (LeadsIfUp c term) v rows ⊎ LeadsNotIfUp c v
leads_or_not c term [] v on = inl tt
leads_or_not c term (x ∷ rows) v (inl on) = inr on.0
leads_or_not c term (x ∷ rows) v (inr all) = inl all

-- where it leads in the end and not before, there is such a row
pub won : (c term : ℕ) (rows : List Timed) (v : Cluster) → ((a b : List Timed) → rows ≡ a ++ b → (t : AllocatorState) × (((after_rows v (rows_in a)).member c).status ≡ Up t))
    → LeadsOn c term v rows → LeadsNotIfUp c v → LeadsIfUp c term (after_rows v (rows_in rows)) → Won c term v rows
won c term [] v up on none leads = let t = up [] [] refl in absurd (none t.0 t.1 (leads t.0 t.1).0)
won c term (x ∷ rows) v up (inr all) none leads = let t = up [] (x ∷ rows) refl in absurd (none t.0 t.1 (all.0 t.0 t.1).0)
won c term (x ∷ rows) v up (inl on) none leads = elim (leads_or_not c term rows (after_row v x.row) on.1) [
  | inl all ↦ record { early = []; row = x; late = rows; split = refl; none = tt; none_then = none; leads = all }
  | inr not_yet ↦
      let more = won c term rows (after_row v x.row) (λ a b e. up (x ∷ a) b (ap (λ (l : List Timed). x ∷ l) e)) on.1 not_yet leads in
      record {
        early = x ∷ more.early;
        row = more.row;
        late = more.late;
        split = ap (λ (l : List Timed). x ∷ l) more.split;
        none = (none, more.none);
        none_then = more.none_then;
        leads = more.leads;
      }
]

-- who does not lead in the first rows, and leads throughout the others, leads on once it leads
pub leads_on_by : (c term : ℕ) (first later : List Timed) (w : Cluster) → Throughout (LeadsNotIfUp c) w first
    → Throughout (LeadsIfUp c term) (after_rows w (rows_in first)) later → LeadsOn c term w (first ++ later)
leads_on_by c term [] [] w none leads = tt
leads_on_by c term [] (x ∷ later) w none leads = inr leads
leads_on_by c term (x ∷ first) later w none leads = inl (none.0, leads_on_by c term first later (after_row w x.row) none.1 leads)

-- ---- who runs runs on

abbrev Any : AllocatorState → Type 0
Any t = ⊤

any_kept : IsKept Always Any
any_kept = record { stepped = λ t number event may h. tt; popped = λ t h. h }

module _ (w : Cluster) (group : List Party) (clocks : Party → ℕ) (pace : Pace) (start : ℕ) (whole : List Timed)
    (calm : AreCalm group clocks pace (no_traffic start) w whole) (running : AreRunning group w) (m : ℕ) (member : In (OfMember m) group) where
  -- what each step keeps holds behind each front
  pub keeps_at : (Holds : AllocatorState → Type 0) → IsKept Always Holds → Holds (running m member).server → (a b : List Timed) → whole ≡ a ++ b
      → (t : AllocatorState) × (((after_rows w (rows_in a)).member m).status ≡ Up t) × Holds t
  keeps_at Holds kept holds a b cut =
      let r = running m member in
      let goes = further Always Holds kept group clocks pace m a b w (λ timed i. tt) (record {
        traffic = no_traffic start;
        calm = subst (AreCalm group clocks pace (no_traffic start) w) cut calm;
        runs = record { server = r.server; up = record { status = r.runs; quiet = record { faults = r.faults; calls = r.disk } }; holds = holds };
      }) in
      (goes.runs.server, goes.runs.up.status, goes.runs.holds)

  pub up_at : (a b : List Timed) → whole ≡ a ++ b → (t : AllocatorState) × (((after_rows w (rows_in a)).member m).status ≡ Up t)
  up_at a b cut = let k = keeps_at Any any_kept tt a b cut in (k.0, k.1)
