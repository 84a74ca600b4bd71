-- Whatever happened, an allocator that is alone comes to lead.
use Rattle.std.proofs.Common.{◌≡◌, ℕ, ◌+◌, ◌<◌, Bool, List, [], ◌∷◌, length, inl, refl, sym, ◌∙◌, ap, subst, arith, true, Option}
use Rattle.can_frame.specs.Log.{log_limit}
use Rattle.kv_store.specs.KeyDisk.{KeyDisk}
use Rattle.raft_core.specs.StoredPuts.{store_of}
use Rattle.raft_log.specs.KeyDisk.{is_open_on, opening_on}
use Rattle.raft_log.specs.Stored.{Stored}
use Rattle.raft_model.specs.Invariants.{Invariants, SoundStore}
use Rattle.raft_model.specs.Lists.{In}
use Rattle.raft_model.specs.Moves.Elections.{term_limit}
use Rattle.raft_model.specs.Runs.{InEveryRun, initial_world}
use Rattle.raft_model.specs.Server.{Store}
use Rattle.bus_rows.specs.declared.row.Row.{Row}
use Rattle.transfer_tx.specs.Queue.{Queued}
use Rattle.allocatee.specs.Allocatee.{Device}
use Rattle.alloc_spec.specs.AllocatorState.{AllocatorState}
use Rattle.alloc_spec.specs.Rules.{opening_by, rules_by}
use Rattle.alloc_spec.specs.Step.{step}
use Rattle.alloc_spec.specs.Step.Event.{Tick}
use Rattle.service_steps.specs.ComingBack.{HasGrown}
use Rattle.bus_agreement.specs.Continues.{Continues}
use Rattle.bus_agreement.proofs.StopsAndOpenings.{DiskLaws, opened_store}
use Rattle.bus_spec.specs.Choices.{AgreesWithDisk}
use Rattle.alloc_spec.specs.ClusterMembers.{AreMembers}
use Rattle.bus_spec.specs.Cluster.{Cluster, cluster, world_of}
use Rattle.bus_spec.specs.Lawful.{DoNoHarm}
use Rattle.bus_spec.specs.Refinement.{events, transfers_of_rows}
use Rattle.bus_spec.specs.Members.{is_running}
use Rattle.service_alone.specs.Alone.{IsBackWith, found}
use Rattle.service_alone.proofs.Goes.{CanGo, and_then, so}
use Rattle.service_alone.proofs.Leads.{IsFreshLeader, IsSettled, fresh, settles_all}
use Rattle.service_alone.proofs.Members.{IsDown}
use Rattle.service_alone.proofs.Reached.{IsReached, IsShown, finds_own, laws_say, reached, stopped_sound}
use Rattle.service_alone.proofs.Scenes.{At, DownAt, opens, stops, stops_now, ticks}

-- what the laws below say
pub record Laws (ids : List ℕ) : Type 0 where
  pub keeps_store : (disk : KeyDisk Stored) → is_open_on disk ≡ true → store_of (opening_on disk).store ≡ store_of disk.store
  pub shown : (w : Cluster) → IsReached ids w → IsShown w

-- and of each allocator that is alone
pub laws_alone : DiskLaws
    → ((ids : List ℕ) (rows : List Row) → AreMembers ids → DoNoHarm (cluster ids) rows → (choice : ℕ → Bool) × AgreesWithDisk choice (cluster ids) rows)
    → ((choice : ℕ → Bool) (ids : List ℕ) (rows : List Row) → AreMembers ids → DoNoHarm (cluster ids) rows → AgreesWithDisk choice (cluster ids) rows
    → Continues choice (transfers_of_rows (cluster ids) rows []) (world_of ids rows) (initial_world ids) (events choice (cluster ids) rows))
    → InEveryRun Invariants → (n : ℕ) → AreMembers (n ∷ []) → Laws (n ∷ [])
laws_alone disk fit shows sound n members = record {
  keeps_store = opened_store disk;
  shown = laws_say (n ∷ []) (λ rows h. fit (n ∷ []) rows members h) (λ choice rows h fits. shows choice (n ∷ []) rows members h fits) sound;
}

module _ (n a : ℕ) (laws : Laws (n ∷ [])) where
  -- ---- it opens, and its tick comes after its wait

  abbrev Once : ℕ → Store → Option Device → List Queued → Cluster → Type 0
  Once moment store x frames w = (number : ℕ)
      × At n a (step (opening_by n (rules_by 1 []) store moment 0) number (Tick (moment + 2000) 0)).step_state.allocator x frames w

  once : (moment : ℕ) (store : Store) (x : Option Device) (frames : List Queued) (w : Cluster) → DownAt n a store x frames w
      → CanGo w moment (moment + 2000) 2 (Once moment store x frames)
  once moment store x frames w is =
      and_then (At n a (opening_by n (rules_by 1 []) store moment 0) x frames) (Once moment store x frames) w moment moment (moment + 2000) 1 1
      (opens n a laws.keeps_store store x frames w moment is)
      (λ v at. so (At n a (step (opening_by n (rules_by 1 []) store moment 0) (v.rows + 1) (Tick (moment + 2000) 0)).step_state.allocator x frames)
      (Once moment store x frames) v moment (moment + 2000) 1
      (ticks n a (opening_by n (rules_by 1 []) store moment 0) x frames v moment (moment + 2000) (omega arith) at)
      (λ u later. (v.rows + 1, later)))

  its_own : (w : Cluster) → w.ids ≡ n ∷ [] → In n w.ids
  its_own w e = subst (λ (ids : List ℕ). In n ids) (sym e) (inl refl)

  -- ---- once: then all that is stored is committed

  pub record HasSettled (store : Store) (x : Option Device) (frames : List Queued) (w : Cluster) : Type 0 where
    pub server : AllocatorState
    pub at : At n a server x frames w
    pub sound : SoundStore store
    pub settled : IsSettled store server.raft_server.store
    pub reached : IsReached (n ∷ []) w

  settles : (moment : ℕ) (store : Store) (x : Option Device) (frames : List Queued) (w : Cluster) → DownAt n a store x frames w → IsReached (n ∷ []) w
      → length store.log < log_limit → store.term < term_limit → CanGo w moment (moment + 2000) 2 (HasSettled store x frames)
  settles moment store x frames w is r room low =
      so (λ v. Once moment store x frames v × IsReached (n ∷ []) v) (HasSettled store x frames) w moment (moment + 2000) 2
      (reached (n ∷ []) (Once moment store x frames) w moment (moment + 2000) 2 r (once moment store x frames w is))
      (λ v o. record {
        server = (step (opening_by n (rules_by 1 []) store moment 0) o.0.0 (Tick (moment + 2000) 0)).step_state.allocator;
        at = o.0.1;
        sound = sound;
        settled = settles_all n store moment o.0.0 sound.commit room low;
        reached = o.1;
      })
    where
      sound : SoundStore store
      sound = stopped_sound w n store (its_own w is.ids) (laws.shown w r) is.down

  -- ---- once more: then it leads, and all that it committed counts as told

  pub record HasComeToLead (store : Store) (moment : ℕ) (x : Option Device) (frames : List Queued) (w : Cluster) : Type 0 where
    pub server : AllocatorState
    pub at : At n a server x frames w
    pub stored : Store
    pub sound : SoundStore store
    pub settled : IsSettled store stored
    pub fresh : IsFreshLeader n stored moment server

  leads_then : (moment : ℕ) (store stored : Store) (x : Option Device) (frames : List Queued) (w : Cluster) → DownAt n a stored x frames w
      → SoundStore store → IsSettled store stored → stored.term < term_limit → CanGo w moment (moment + 2000) 2 (HasComeToLead store (moment + 2000) x frames)
  leads_then moment store stored x frames w is sound settled low =
      so (Once moment stored x frames) (HasComeToLead store (moment + 2000) x frames) w moment (moment + 2000) 2
      (once moment stored x frames w is)
      (λ v o. record {
        server = (step (opening_by n (rules_by 1 []) stored moment 0) o.0 (Tick (moment + 2000) 0)).step_state.allocator;
        at = o.1;
        stored = stored;
        sound = sound;
        settled = settled;
        fresh = fresh n stored moment o.0 settled.commit low;
      })

  leads_again : (moment : ℕ) (store : Store) (x : Option Device) (frames : List Queued) (w : Cluster) → HasSettled store x frames w
      → store.term + 1 < term_limit → CanGo w moment (moment + 2000) 3 (HasComeToLead store (moment + 2000) x frames)
  leads_again moment store x frames w s low =
      and_then (DownAt n a (found w n) (w.allocatee a) w.frames) (HasComeToLead store (moment + 2000) x frames) w moment moment (moment + 2000) 1 2
      (stops_now n a w s.at.ids moment (ap is_running s.at.up.status))
      (λ v down. leads_then moment store s.server.raft_server.store x frames v
      (record {
        ids = down.ids;
        down = subst (λ (y : Store). IsDown y (v.member n)) own down.down;
        there = down.there ∙ s.at.there;
        sent = down.sent ∙ s.at.sent;
      })
      s.sound s.settled (omega (arith, s.settled.term, low)))
    where
      own : found w n ≡ s.server.raft_server.store
      own = finds_own w n s.server (its_own w s.at.ids) (laws.shown w s.reached) s.at.up.status

  -- from any world that rows lead to
  pub comes_to_lead : (moment : ℕ) (w : Cluster) → w.ids ≡ n ∷ [] → IsReached (n ∷ []) w → length (found w n).log < log_limit
      → (found w n).term + 1 < term_limit → CanGo w moment (moment + 4000) 7 (HasComeToLead (found w n) (moment + 4000) (w.allocatee a) w.frames)
  comes_to_lead moment w ids r room low =
      subst (λ (m : ℕ). CanGo w moment m 7 (HasComeToLead (found w n) m (w.allocatee a) w.frames)) (omega arith)
      (and_then (λ v. DownAt n a (found w n) (w.allocatee a) w.frames v × IsReached (n ∷ []) v)
      (HasComeToLead (found w n) ((moment + 2000) + 2000) (w.allocatee a) w.frames) w moment moment ((moment + 2000) + 2000) 2 5
      (reached (n ∷ []) (DownAt n a (found w n) (w.allocatee a) w.frames) w moment moment 2 r (stops n a w ids moment))
      (λ v d. and_then (HasSettled (found w n) (w.allocatee a) w.frames) (HasComeToLead (found w n) ((moment + 2000) + 2000) (w.allocatee a) w.frames)
      v moment (moment + 2000) ((moment + 2000) + 2000) 2 3
      (settles moment (found w n) (w.allocatee a) w.frames v d.0 d.1 room (omega (arith, low)))
      (λ u s. leads_again (moment + 2000) (found w n) (w.allocatee a) w.frames u s low)))

  pub comes_back : (moment : ℕ) (w : Cluster) → w.ids ≡ n ∷ [] → IsReached (n ∷ []) w → length (found w n).log < log_limit
      → (found w n).term + 1 < term_limit → CanGo w moment (moment + 4000) 7 (IsBackWith n (found w n).log)
  comes_back moment w ids r room low =
      so (HasComeToLead (found w n) (moment + 4000) (w.allocatee a) w.frames) (IsBackWith n (found w n).log) w moment (moment + 4000) 7
      (comes_to_lead moment w ids r room low)
      (λ v l. record {
        server = l.server;
        runs = l.at.up.status;
        leads = l.fresh.role;
        committed = l.fresh.committed ∙ ap length (sym l.fresh.log);
        told = l.fresh.told ∙ sym l.fresh.committed;
        grown = subst (HasGrown (found w n).log) (sym l.fresh.log) l.settled.log;
      })
