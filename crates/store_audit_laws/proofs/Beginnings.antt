-- Stores whose committed entries are beginnings of one list.
use Rattle.std.proofs.Common.{◌≡◌, ℕ, zero, suc, ◌<◌, ◌≤◌, Bool, List, [], ◌++◌, length, take, get_or, refl, sym, ap, subst, ◌∙◌, append-nil, arith}
use Rattle.std.proofs.lemmas.List.{get_or-take, length-take-le}
use Rattle.can_frame.specs.declared.entry.Entry.{Entry}
use Rattle.can_frame.specs.Log.{IsPrefix, blank, entry_at}
use Rattle.std.specs.Prelude.{slice_index}
use Rattle.kv_store.specs.KeyDisk.{KeyDisk}
use Rattle.raft_core.specs.StoredPuts.{store_of}
use Rattle.raft_log.specs.declared.stored.Stored.{Stored as Reading}
use Rattle.raft_log.specs.Reading.{IsReadFrom, Tells}
use Rattle.raft_log.specs.Rules.{StandsForState}
use Rattle.raft_log.specs.Stored.{Stored}
use Rattle.raft_model.specs.Lists.{In}
use Rattle.raft_model.specs.Server as raft
use Rattle.raft_model.specs.Server.{Store}
use Rattle.bus_rows.specs.declared.row.Row.{Row}
use Rattle.store_audit.specs.Stores.{committed as committed_by, store_at}
use Rattle.store_audit.specs.Verdict.{IsDifference}
use Rattle.bus_agreement.specs.Headline.{HasHeadline, Headline, the_list}
use Rattle.bus_spec.specs.Choices.{AgreesWithDisk}
use Rattle.bus_spec.specs.Cluster.{Cluster, cluster, world_of}
use Rattle.bus_spec.specs.Logs.{stored, stored_on}
use Rattle.bus_spec.specs.Members.{MemberStatus}
use Rattle.bus_spec.specs.Members.MemberStatus.{Down, Up, Failed}
use Rattle.cmd_node_laws.specs.Mirrored.{AreCalm, HasWorked}
use Rattle.store_audit_laws.specs.Left.{AreLeftBy, AreStoredBy, IsLeftBy, IsReadOf, IsStoredBy}

-- a store's entries are committed, and are a beginning of the list
record Begins (list : List Entry) (store : Reading) : Type 0 where
  within : store.commit ≤ length store.entries.items
  front : IsPrefix (committed_by store) list

at_place : (list : List Entry) (store : Reading) (i : ℕ) → Begins list store → i < store.commit → entry_at store.entries.items (suc i) ≡ get_or list i (blank 0)
at_place list store i begins below =
    let size : length (committed_by store) ≡ store.commit = length-take-le store.commit store.entries.items begins.within in
    sym (get_or-take store.commit store.entries.items i (blank 0) below)
    ∙ (ap (λ (l : List Entry). get_or l i (blank 0)) (sym begins.front) ∙ get_or-take (length (committed_by store)) list i (blank 0) (omega (arith, below, size)))

same_entry : (list : List Entry) (a b : Reading) (place : ℕ) → Begins list a → Begins list b → 1 ≤ place → place ≤ a.commit → place ≤ b.commit → entry_at a.entries.items place ≡ entry_at b.entries.items place
same_entry list a b zero first second least has_a has_b = absurd (omega (arith, least))
same_entry list a b (suc i) first second least has_a has_b = at_place list a i first (omega (arith, has_a)) ∙ sym (at_place list b i second (omega (arith, has_b)))

no_difference : (list : List Entry) (stores : List Reading) (place a b : ℕ) → ((k : ℕ) → k < length stores → Begins list (store_at stores k)) → IsDifference stores place a b → ⊥
no_difference list stores place a b begin is =
    is.pair.differ (same_entry list (store_at stores a) (store_at stores b) place (begin a (omega (arith, is.pair.order, is.pair.exists))) (begin b is.pair.exists) is.least is.pair.has is.pair.has_too)

-- what is read of an image is committed as the state is that the image stands for
committed_as_read : (store : Reading) (state : Stored) → Tells store state → committed_by store ≡ raft.committed (store_of state)
committed_as_read store state tells = ap (λ n. take n store.entries.items) tells.commit ∙ ap (λ (l : List Entry). take state.commit l) tells.entries

-- what a member has stored that did not fail is what its disk has
calm_store : (choice : ℕ → Bool) (status : MemberStatus) (disk : KeyDisk Stored) → HasWorked status → stored_on choice status disk ≡ store_of disk.store
calm_store choice Down disk works = refl
calm_store choice (Up server) disk works = refl
calm_store choice (Failed failure) disk works = absurd works

-- an image stands for one state
abbrev StandsForOne : Type 0
StandsForOne = (image : List ℕ) (a b : Stored) → StandsForState image a → StandsForState image b → a ≡ b

-- in a world that has the headline
module _ (one : StandsForOne) (choice : ℕ → Bool) (w later : Cluster) (headline : Headline choice w later) where
  begins : (n : ℕ) (store : Reading) (image : List ℕ) → In n w.ids → (read : IsReadFrom image store) → store_of read.state ≡ stored choice w n → Begins (the_list choice w) store
  begins n store image member read same = record {
    within = rw (read.tells.commit, read.tells.entries) read.stands.stores.storable.commit;
    front = subst (λ (l : List Entry). IsPrefix l (the_list choice w)) (sym (committed_as_read store read.state read.tells ∙ ap raft.committed same)) (headline.prefix n member);
  }

  left_begins : (n : ℕ) (store : Reading) → IsReadOf (IsLeftBy choice w) w n store → Begins (the_list choice w) store
  left_begins n store is =
      let left = is.left in
      begins n store is.image is.member is.read (ap store_of (one is.image is.read.state left.state is.read.stands left.stands) ∙ left.same)

  stored_begins : AreCalm w → (n : ℕ) (store : Reading) → IsReadOf (IsStoredBy w) w n store → Begins (the_list choice w) store
  stored_begins calm n store is =
      let left = is.left in
      begins n store is.image is.member is.read
      (ap store_of (one is.image is.read.state left.state is.read.stands left.stands) ∙ (sym left.same ∙ sym (calm_store choice (w.member n).status (w.member n).disk (calm n).works)))

  pub left_agree : (nodes : List ℕ) (stores : List Reading) (place a b : ℕ) → AreLeftBy choice w nodes stores → IsDifference stores place a b → ⊥
  left_agree nodes stores place a b are = no_difference (the_list choice w) stores place a b (λ k below. left_begins (slice_index nodes k) (store_at stores k) (are k below))

  pub stored_agree : AreCalm w → (nodes : List ℕ) (stores : List Reading) (place a b : ℕ) → AreStoredBy w nodes stores → IsDifference stores place a b → ⊥
  stored_agree calm nodes stores place a b are = no_difference (the_list choice w) stores place a b (λ k below. stored_begins calm (slice_index nodes k) (store_at stores k) (are k below))

-- the world of rows has the headline after all of them
pub headline_at_end : (ids : List ℕ) (rows : List Row) (choice : ℕ → Bool) → HasHeadline ids rows → AgreesWithDisk choice (cluster ids) rows → Headline choice (world_of ids rows) (world_of ids (rows ++ []))
headline_at_end ids rows choice has fits = has.holds rows [] [] choice (sym (append-nil rows)) (subst (AgreesWithDisk choice (cluster ids)) (sym (append-nil rows)) fits)
