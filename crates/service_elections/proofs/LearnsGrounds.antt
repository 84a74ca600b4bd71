-- What the laws of who learns stand on; and that terms do not fall, from one of a calm's rows to a later one.
use Rattle.std.proofs.Common.{◌≡◌, ℕ, ◌≤◌, List, [], ◌∷◌, ◌++◌, append_assoc, append-nil, sym, ◌∙◌, ap, subst}
use Rattle.raft_model.specs.Lists.{In}
use Rattle.bus_rows.specs.declared.row.Row.{Row}
use Rattle.alloc_spec.specs.AllocatorState.{AllocatorState}
use Rattle.service_candidate.specs.Terms.{TermsDoNotFall}
use Rattle.service_leader.proofs.Stretches.{world_both}
use Rattle.service_calm.specs.Calm.{AreCalm, AreRunning, Member as OfMember, Party, no_traffic}
use Rattle.service_elections.specs.RoundsBelow.{RoundGrounds}
use Rattle.bus_rows.specs.Timed.{Timed, rows_in}
use Rattle.service_alone.specs.Calm.{Pace}
use Rattle.alloc_spec.specs.ClusterMembers.{AreMembers}
use Rattle.bus_spec.specs.Cluster.{Cluster, after_row, after_rows, cluster, world_of}
use Rattle.bus_spec.specs.Lawful.{DoNoHarm}
use Rattle.bus_spec.specs.Members.MemberStatus.{Up}

-- what is said below, and rows that do no harm
pub record Grounds (ids : List ℕ) (rows : List Row) : Type 0 where
  pub below : RoundGrounds
  pub members : AreMembers ids
  pub harmless : DoNoHarm (cluster ids) rows

-- ---- in two rows, one behind the other

-- the world behind the second
world_then : (w : Cluster) (a b : List Timed) (s t : Timed)
    → after_rows w (rows_in (a ++ s ∷ (b ++ t ∷ []))) ≡ after_row (after_rows (after_row (after_rows w (rows_in a)) s.row) (rows_in b)) t.row
world_then w a b s t = world_both w a (s ∷ (b ++ t ∷ [])) ∙ world_both (after_row (after_rows w (rows_in a)) s.row) b (t ∷ [])

-- the rows up to it, and those behind
list_then : (a b c : List Timed) (s t : Timed) → (a ++ s ∷ (b ++ t ∷ [])) ++ c ≡ a ++ s ∷ (b ++ t ∷ c)
list_then a b c s t = append_assoc a (s ∷ (b ++ t ∷ [])) c ∙ ap (λ (l : List Timed). a ++ s ∷ l) (append_assoc b (t ∷ []) c)

module _ (ids : List ℕ) (rows : List Row) (rise : TermsDoNotFall ids rows) (group : List Party) (clocks : Party → ℕ) (pace : Pace) (start : ℕ)
    (running : AreRunning group (world_of ids rows)) (front early : List Timed) (timed : Timed)
    (calm : AreCalm group clocks pace (no_traffic start) (world_of ids rows) (front ++ timed ∷ early)) where
  abbrev w : Cluster
  w = world_of ids rows

  abbrev there : Cluster
  there = after_rows w (rows_in front)

  abbrev then_w : Cluster
  then_w = after_row there timed.row

  -- from before the row on, up to one of the later ones
  pub from_there : (m : ℕ) → In (OfMember m) group → (few rest : List Timed) → early ≡ few ++ rest → (before after : AllocatorState) → (there.member m).status ≡ Up before
      → ((after_rows then_w (rows_in few)).member m).status ≡ Up after → before.raft_server.store.term ≤ after.raft_server.store.term
  from_there m i few rest split before after up up_then = rise group clocks pace start m front (timed ∷ few) rest before after running
      (subst (AreCalm group clocks pace (no_traffic start) w) (ap (λ (l : List Timed). front ++ timed ∷ l) split) calm) i up
      (ap (λ (v : Cluster). (v.member m).status) (world_both w front (timed ∷ few)) ∙ up_then)

  -- from behind a later row on, up to the last one
  pub up_to_end : (m : ℕ) → In (OfMember m) group → (few rest : List Timed) (one : Timed) → early ≡ few ++ one ∷ rest → (before after : AllocatorState)
      → ((after_row (after_rows then_w (rows_in few)) one.row).member m).status ≡ Up before
      → ((after_rows then_w (rows_in early)).member m).status ≡ Up after → before.raft_server.store.term ≤ after.raft_server.store.term
  up_to_end m i few rest one split before after up up_then = rise group clocks pace start m (front ++ timed ∷ (few ++ one ∷ [])) rest [] before after running
      (subst (AreCalm group clocks pace (no_traffic start) w) (sym (ap (λ (l : List Timed). (front ++ timed ∷ (few ++ one ∷ [])) ++ l) (append-nil rest) ∙ all)) calm) i
      (ap (λ (v : Cluster). (v.member m).status) (world_then w front few timed one) ∙ up)
      (ap (λ (v : Cluster). (v.member m).status) (ap (λ (l : List Timed). after_rows w (rows_in l)) all ∙ world_both w front (timed ∷ early)) ∙ up_then)
    where
      all : (front ++ timed ∷ (few ++ one ∷ [])) ++ rest ≡ front ++ timed ∷ early
      all = list_then front few rest timed one ∙ ap (λ (l : List Timed). front ++ timed ∷ l) (sym split)

  -- so it is where the later row is one of those behind another one
  pub up_to_end_of : (m : ℕ) → In (OfMember m) group → (few more rest : List Timed) (one other : Timed) → early ≡ few ++ one ∷ (more ++ other ∷ rest)
      → (before after : AllocatorState)
      → ((after_row (after_rows (after_row (after_rows then_w (rows_in few)) one.row) (rows_in more)) other.row).member m).status ≡ Up before
      → ((after_rows then_w (rows_in early)).member m).status ≡ Up after → before.raft_server.store.term ≤ after.raft_server.store.term
  up_to_end_of m i few more rest one other split before after up up_then = up_to_end m i (few ++ one ∷ more) rest other
      (split ∙ sym (append_assoc few (one ∷ more) (other ∷ rest))) before after
      (ap (λ (v : Cluster). ((after_row v other.row).member m).status) (world_both then_w few (one ∷ more)) ∙ up) up_then
