-- A device that holds a node ID holds the one that a leader has committed for its unique ID.
use Rattle.std.proofs.Common.{◌≡◌, ◌≢◌, ℕ, ◌<◌, ◌≤◌, Bool, List, [], ◌∷◌, ◌++◌, length, append_assoc, take, sym, ◌∙◌, ap, subst, inl, arith}
use Rattle.std.specs.Prelude.{slice_index_or}
use Rattle.std.proofs.Math.Seq.{get_or-append_seam, get_or-take}
use Rattle.std.proofs.lemmas.List.{append-nil, length-take-le}
use Rattle.can_frame.specs.declared.entry.Entry.{Entry}
use Rattle.can_frame.specs.Log.{HasPair, IsInjective, IsPair, blank}
use Rattle.can_frame.specs.Zeros.{zeros}
use Rattle.raft_core.specs.Taken.{proposal}
use Rattle.raft_model.specs.Lists.{In}
use Rattle.raft_model.specs.Server as raft
use Rattle.bus_rows.specs.declared.row.Row.{Row}
use Rattle.alloc_spec.specs.AllocatorState.{AllocatorState}
use Rattle.bus_agreement.specs.Allocatees.{Allocatees, HasAllocatees, Holds}
use Rattle.bus_agreement.specs.Headline.{HasHeadline, Headline, the_list}
use Rattle.bus_agreement.proofs.HeadlineOfRuns.{still_pair}
use Rattle.bus_rows.specs.Timed.{Timed, rows_in}
use Rattle.service_alone.proofs.Choosing.{same_node}
use Rattle.service_alone.proofs.Goes.{after_both}
use Rattle.service_leader.proofs.Stretches.{rows_both}
use Rattle.service_device.specs.Served.{IsLeft, LeadsWithLog}
use Rattle.service_device.proofs.ServedBehind.{harmless_to, up_to}
use Rattle.bus_spec.specs.Choices.{AgreesWithDisk}
use Rattle.bus_spec.specs.Cluster.{Cluster, after_rows, cluster, world_of}
use Rattle.bus_spec.specs.Lawful.{DoNoHarm}
use Rattle.bus_spec.specs.Logs.{committed}
use Rattle.bus_spec.specs.Members.MemberStatus.{Up}

-- a pair that a store has committed
pub committed_pair : (store : raft.Store) (log more : List Entry) (term : ℕ) (uid : List ℕ) (node : ℕ) → store.log ≡ log ++ proposal term uid node ∷ more
    → length log < store.commit → store.commit ≤ length store.log → IsPair (proposal term uid node) → HasPair (raft.committed store) uid node
committed_pair store log more term uid node log_is low high pair = record {
  place = length log;
  within = let e = length-take-le store.commit store.log high in omega (arith, e, low);
  pair = subst IsPair (sym there) pair;
  its_uid = ap (λ (e : Entry). e.uid) there;
  its_node = ap (λ (e : Entry). e.node) there;
}
  where
    there : slice_index_or (take store.commit store.log) (length log) (blank 0) ≡ proposal term uid node
    there = get_or-take store.commit store.log (length log) (blank 0) low
        ∙ (ap (λ (l : List Entry). slice_index_or l (length log) (blank 0)) log_is ∙ get_or-append_seam log (proposal term uid node) more (blank 0))

-- one list has one node ID for a unique ID
one_node : (list : List Entry) (uid : List ℕ) (x y : ℕ) → IsInjective list → uid ≢ zeros → HasPair list uid x → HasPair list uid y → x ≡ y
one_node list uid x y injective device p q =
    sym p.its_node ∙ (same_node list uid p.place q.place injective device p.within q.within p.its_uid q.its_uid ∙ q.its_node)

module _ (ids : List ℕ) (first more : List Row) (choice : ℕ → Bool) (fits : AgreesWithDisk choice (cluster ids) (first ++ more))
    (headline : HasHeadline ids (first ++ more)) (allocatees : HasAllocatees ids (first ++ more)) (n : ℕ) (listed : In n (world_of ids first).ids)
    (server : AllocatorState) (up : ((world_of ids first).member n).status ≡ Up server) (log rest : List Entry) (term : ℕ) (uid : List ℕ) (node : ℕ)
    (log_is : server.raft_server.store.log ≡ log ++ proposal term uid node ∷ rest) (low : length log < server.raft_server.store.commit)
    (high : server.raft_server.store.commit ≤ length server.raft_server.store.log) (pair : IsPair (proposal term uid node)) where
  grown : Headline choice (world_of ids first) (world_of ids (first ++ more))
  grown = headline.holds first more [] choice (ap (λ (l : List Row). first ++ l) (sym (append-nil more))) fits

  fits_on : AgreesWithDisk choice (cluster ids) ((first ++ more) ++ [])
  fits_on = subst (AgreesWithDisk choice (cluster ids)) (sym (append-nil (first ++ more))) fits

  there : Headline choice (world_of ids (first ++ more)) (world_of ids ((first ++ more) ++ []))
  there = headline.holds (first ++ more) [] [] choice (sym (append-nil (first ++ more))) fits_on

  devices : Allocatees choice (world_of ids (first ++ more)) (world_of ids ((first ++ more) ++ []))
  devices = allocatees (first ++ more) [] [] choice (sym (append-nil (first ++ more))) fits_on

  its_pair : HasPair (the_list choice (world_of ids (first ++ more))) uid node
  its_pair = still_pair (the_list choice (world_of ids first)) (the_list choice (world_of ids (first ++ more))) grown.grows uid node
      (still_pair (committed choice (world_of ids first) n) (the_list choice (world_of ids first)) (grown.prefix n listed) uid node
      (subst (λ (s : raft.Store). HasPair (raft.committed s) uid node) (grown.shown n server listed up)
      (committed_pair server.raft_server.store log rest term uid node log_is low high pair)))

  -- what a device of the unique ID holds later is the node ID of the pair
  pub agreed : (a other : ℕ) → Holds (world_of ids (first ++ more)) a uid other → other ≡ node
  agreed a other holds = one_node (the_list choice (world_of ids (first ++ more))) uid other node there.injective pair.uid
      (subst (λ (l : List Row). HasPair (the_list choice (world_of ids l)) uid other) (append-nil (first ++ more)) (devices.held uid other (inl (a, holds)))) its_pair

-- ---- in rows behind others

-- What device a holds of this unique ID behind a front of these rows is the node ID that member n has committed for it behind an earlier front, at which it leads.
abbrev pub AgreesBehind : (ids : List ℕ) (n a term : ℕ) (log : List Entry) (uid : List ℕ) (w : Cluster) → List Timed → Type 0
AgreesBehind ids n a term log uid w whole = (front mid rest : List Timed) (node other : ℕ) (more : List Entry) → whole ≡ (front ++ mid) ++ rest
    → (leads : LeadsWithLog n term (log ++ proposal term uid node ∷ more) (after_rows w (rows_in front))) → length log < leads.server.raft_server.store.commit
    → IsLeft ids log node → Holds (after_rows w (rows_in (front ++ mid))) a uid other → other ≡ node

module _ (ids : List ℕ) (n : ℕ)
    (choices : (list : List Row) → DoNoHarm (cluster ids) list → (choice : ℕ → Bool) × AgreesWithDisk choice (cluster ids) list)
    (headline : (list : List Row) → DoNoHarm (cluster ids) list → HasHeadline ids list)
    (allocatees : (list : List Row) → DoNoHarm (cluster ids) list → HasAllocatees ids list) (listed : (list : List Row) → In n (world_of ids list).ids)
    (inside : (list : List Row) → DoNoHarm (cluster ids) list → (t : AllocatorState) → ((world_of ids list).member n).status ≡ Up t
    → t.raft_server.store.commit ≤ length t.raft_server.store.log)
    (rows : List Row) (harmless : DoNoHarm (cluster ids) rows) (whole : List Timed) (fine : DoNoHarm (world_of ids rows) (rows_in whole)) where
  fine_to : (front rest : List Timed) → whole ≡ front ++ rest → DoNoHarm (cluster ids) (rows ++ rows_in front)
  fine_to = harmless_to ids rows whole harmless fine

  pub agrees_behind : (a term : ℕ) (log : List Entry) (uid : List ℕ) → uid ≢ zeros → AgreesBehind ids n a term log uid (world_of ids rows) whole
  agrees_behind a term log uid device front mid rest node other more cut leads low left holds =
      agreed ids early (rows_in mid) chosen.0 chosen.1 (headline (early ++ rows_in mid) safe) (allocatees (early ++ rows_in mid) safe) n (listed early) leads.server up log
      more term uid node leads.its_log low (inside early (fine_to front (mid ++ rest) (cut ∙ append_assoc front mid rest)) leads.server up)
      (record { uid = device; least = left.least; most = left.most }) a other
      (subst (λ (l : List Row). Holds (world_of ids l) a uid other) same
      (subst (λ (v : Cluster). Holds v a uid other) (sym (after_both (cluster ids) rows (rows_in (front ++ mid)))) holds))
    where
      early : List Row
      early = rows ++ rows_in front

      same : rows ++ rows_in (front ++ mid) ≡ early ++ rows_in mid
      same = ap (λ (l : List Row). rows ++ l) (rows_both front mid) ∙ sym (append_assoc rows (rows_in front) (rows_in mid))

      safe : DoNoHarm (cluster ids) (early ++ rows_in mid)
      safe = subst (DoNoHarm (cluster ids)) same (fine_to (front ++ mid) rest cut)

      chosen : (choice : ℕ → Bool) × AgreesWithDisk choice (cluster ids) (early ++ rows_in mid)
      chosen = choices (early ++ rows_in mid) safe

      up : ((world_of ids early).member n).status ≡ Up leads.server
      up = up_to ids rows n front leads.server leads.runs
