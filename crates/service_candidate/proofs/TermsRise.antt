-- No term of a member that runs falls in a calm.
use Rattle.std.proofs.Common.{◌≡◌, ℕ, ◌≤◌, List, [], ◌∷◌, ◌++◌, refl, sym, ◌∙◌, ap, subst, arith}
use Rattle.std.specs.Prelude.{⊤}
use Rattle.alloc_spec.specs.AllocatorState.{AllocatorState}
use Rattle.alloc_spec.specs.Step.{Event, step}
use Rattle.alloc_spec.specs.Step.Event.{Rx, Tick}
use Rattle.bus_rows.specs.Timed.{Timed, rows_in}
use Rattle.service_alone.specs.Calm.{Pace}
use Rattle.service_calm.specs.Calm.{AreCalm, IsRunning, Party, Traffic}
use Rattle.service_calm.proofs.CallsKept.{GoesOn, IsKept, further}
use Rattle.service_candidate.proofs.TermsMembers.{one_server}
use Rattle.service_candidate.proofs.TermsSteps.{rises_at_frame, rises_at_tick}
use Rattle.bus_spec.specs.Cluster.{Cluster, after_row, after_rows}
use Rattle.bus_spec.specs.Members.MemberStatus.{Up}

-- some rows and then others
pub rows_then : (first front : List Timed) (w : Cluster) → after_rows w (rows_in (first ++ front)) ≡ after_rows (after_rows w (rows_in first)) (rows_in front)
rows_then [] front w = refl
rows_then (timed ∷ first) front w = rows_then first front (after_row w timed.row)

-- any moment may come
abbrev Any : ℕ → Type 0
Any moment = ⊤

-- the term is this one or a higher one
abbrev IsFrom : ℕ → AllocatorState → Type 0
IsFrom low t = low ≤ t.raft_server.store.term

rises : (low : ℕ) (t : AllocatorState) (number : ℕ) (event : Event) → IsFrom low t → IsFrom low (step t number event).step_state.allocator
rises low t number (Tick now word) h = let r = rises_at_tick number t now word in omega (arith, r, h)
rises low t number (Rx arrival) h = let r = rises_at_frame number t arrival in omega (arith, r, h)

-- each step keeps it
from_kept : (low : ℕ) → IsKept Any (IsFrom low)
from_kept low = record { stepped = λ t number event may h. rises low t number event h; popped = λ t h. h }

module _ (group : List Party) (clocks : Party → ℕ) (pace : Pace) (m : ℕ) (first front rest : List Timed) (w : Cluster) (traffic : Traffic)
    (running : IsRunning m w) (calm : AreCalm group clocks pace traffic w (first ++ (front ++ rest))) where
  abbrev there : Cluster
  there = after_rows w (rows_in first)

  -- the member runs behind the first rows
  goes_there : GoesOn Any (IsFrom 0) (from_kept 0) group clocks pace m there (front ++ rest)
  goes_there = further Any (IsFrom 0) (from_kept 0) group clocks pace m first (front ++ rest) w (λ timed i. tt) (record {
    traffic = traffic;
    calm = calm;
    runs = record {
      server = running.server;
      up = record { status = running.runs; quiet = record { faults = running.faults; calls = running.disk } };
      holds = omega arith;
    };
  })

  -- and behind the further ones with a term that is no lower
  goes_further : (before : AllocatorState) → (there.member m).status ≡ Up before
      → GoesOn Any (IsFrom before.raft_server.store.term) (from_kept before.raft_server.store.term) group clocks pace m (after_rows there (rows_in front)) rest
  goes_further before runs =
      let low : ℕ = before.raft_server.store.term in
      let same : goes_there.runs.server ≡ before = one_server goes_there.runs.server before (sym goes_there.runs.up.status ∙ runs) in
      further Any (IsFrom low) (from_kept low) group clocks pace m front rest there (λ timed i. tt) (record {
        traffic = goes_there.traffic;
        calm = goes_there.calm;
        runs = record {
          server = goes_there.runs.server;
          up = goes_there.runs.up;
          holds = subst (IsFrom low) (sym same) (omega arith);
        };
      })

  -- so its term is no lower then
  pub terms_rise : (before then_ : AllocatorState) → (there.member m).status ≡ Up before
      → ((after_rows w (rows_in (first ++ front))).member m).status ≡ Up then_ → before.raft_server.store.term ≤ then_.raft_server.store.term
  terms_rise before then_ runs runs_then =
      let goes = goes_further before runs in
      subst (IsFrom before.raft_server.store.term) (one_server goes.runs.server then_
      (sym goes.runs.up.status ∙ (ap (λ (v : Cluster). (v.member m).status) (sym (rows_then first front w)) ∙ runs_then))) goes.runs.holds
