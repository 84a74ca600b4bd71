-- What the members of a world offer is their own.
use Rattle.std.proofs.Common.{◌≡◌, ℕ, ◌+◌, ◌<◌, ◌≤◌, Bool, true, false, List, [], ◌∷◌, length, length-take, get_or-take, ap, inl, inr, refl, subst, sym, ◌∙◌, arith}
use Rattle.std.specs.Prelude.{not, None, Option, if◌then◌else◌, ⊤, slice_index_or}
use Rattle.std.proofs.lemmas.Bool.Decides.{eqb_tells}
use Rattle.can_frame.specs.declared.entry.Entry.{Entry}
use Rattle.can_frame.specs.Log.{HasPair, IsWellFormed, blank}
use Rattle.can_frame.proofs.Logs.{pair_of_device}
use Rattle.disk_model.specs.declared.disk.Disk.{Ghosts}
use Rattle.disk_model.specs.declared.memory.MemoryDisk.{MemoryDisk}
use Rattle.kv_store.specs.KeyDisk.{KeyDisk}
use Rattle.raft_core.specs.StoredPuts.{store_of}
use Rattle.raft_log.specs.KeyDisk.{are_put, puts_on}
use Rattle.raft_log.specs.Stored.{Stored}
use Rattle.raft_model.specs.Lists.{In, at, at_here}
use Rattle.raft_model.specs.Server.{Store, committed}
use Rattle.bus_rows.specs.declared.row.Row.{Row}
use Rattle.bus_rows.specs.declared.row.Row.TheVariants.{Open, Tick, Rx, Send, Ext, Crash, Fault, AOpen, ATick, ARx, ASend, AEnd}
use Rattle.alloc_spec_laws.specs.Giving as law
use Rattle.alloc_spec.specs.StepState.{StepState, pairs}
use Rattle.alloc_spec.specs.Step.{Event, step}
use Rattle.alloc_spec.specs.AllocatorState.{AllocatorState}
use Rattle.alloc_spec.specs.Transfers.{GivenPair}
use Rattle.alloc_server.specs.declared.server.Server.{Server}
use Rattle.bus_spec.specs.declared.unlawful.Unlawful.{Unlawful}
use Rattle.bus_spec.specs.declared.unlawful.Unlawful.TheVariants.{NoNode}
use Rattle.bus_spec.specs.Cluster.{Cluster, effect_of, is_member, receipt_of, tick_of}
use Rattle.bus_spec.specs.Lawful.{because, cause, or_else}
use Rattle.bus_spec.specs.Members.{MemberStatus, Member as MemberState, after_cut_off, puts_of, member_after_step}
use Rattle.bus_spec.specs.Members.MemberStatus.{Down, Up, Failed}
use Rattle.bus_spec.specs.OwnLogs.{AreOwn, OffersItsOwn, pairs_of_step}
use Rattle.bus_world.specs.OnDisk.{IsUpOn}
use Rattle.bus_world.specs.Places.{HasStatus}
use Rattle.bus_world.specs.Stands.{StandsFor as StandsForMember}
use Rattle.bus_world.specs.Members.{AreMembersOf, StandsFor, ids_of}
use Rattle.bus_world.specs.declared.member.Member.{Member}
use Rattle.bus_world.specs.declared.place.Place.{Place}
use Rattle.bus_world.specs.declared.members.Members.{Members}
use Rattle.bus_world.proofs.Promising.{one_of, same_log}

abbrev pub LawOfPairs : Type 0
LawOfPairs = (t : AllocatorState) (number : ℕ) (event : Event) → t.raft_server.store.commit ≤ length t.raft_server.store.log →
    (given : GivenPair) → In given (pairs (step t number event).step_state) →
    law.IsGivenIn (committed (step t number event).step_state.allocator.raft_server.store) given

-- ---- the commit index lies in the log

abbrev IsInside : Store → Type 0
IsInside store = store.commit ≤ length store.log

abbrev AreInside : MemberStatus → Type 0
AreInside Down = ⊤
AreInside (Up t) = IsInside t.raft_server.store
AreInside (Failed failure) = ⊤

inside_up : {F : Type 0} {ghosts : Ghosts MemoryDisk} (server : Server MemoryDisk F ghosts) (t : AllocatorState) (key_disk : KeyDisk Stored) → IsUpOn server t key_disk
    → IsInside t.raft_server.store
inside_up server t key_disk is =
    subst IsInside (sym (is.stands.member.raft.store ∙ ap store_of is.keeps.state)) is.keeps.disk.on.stores.storable.commit

inside_status : {F : Type 0} (place : Place F) (status : MemberStatus) (key_disk : KeyDisk Stored) → HasStatus place status key_disk → AreInside status
inside_status place Down key_disk is = tt
inside_status place (Up t) key_disk is = inside_up place.server t key_disk is.server
inside_status place (Failed failure) key_disk is = tt

-- ---- each entry of a log is well formed

abbrev AreFormed : MemberStatus → Type 0
AreFormed Down = ⊤
AreFormed (Up t) = (place : ℕ) → place < length t.raft_server.store.log → IsWellFormed (slice_index_or t.raft_server.store.log place (blank 0))
AreFormed (Failed failure) = ⊤

formed_up : {F : Type 0} {ghosts : Ghosts MemoryDisk} (server : Server MemoryDisk F ghosts) (t : AllocatorState) (key_disk : KeyDisk Stored) → IsUpOn server t key_disk
    → AreFormed (Up t)
formed_up server t key_disk is =
    subst (λ (log : List Entry). (place : ℕ) → place < length log → IsWellFormed (slice_index_or log place (blank 0))) (sym (same_log server t key_disk is))
    (λ place h. (is.keeps.disk.on.stores.storable.follows place h).formed)

formed_status : {F : Type 0} (place : Place F) (status : MemberStatus) (key_disk : KeyDisk Stored) → HasStatus place status key_disk → AreFormed status
formed_status place Down key_disk is = tt
formed_status place (Up t) key_disk is = formed_up place.server t key_disk is.server
formed_status place (Failed failure) key_disk is = tt

-- of members that stand for those of a cluster
pub formed_at : {F : Type 0} (own : List (Member F)) (c : Cluster) → AreMembersOf own c.member → ids_of own ≡ c.ids
    → (n : ℕ) → In n c.ids → AreFormed (c.member n).status
formed_at {F} own c are ids n there =
    let found = one_of own (λ (m : Member F). StandsForMember m (c.member m.id)) are n (subst (λ (l : List ℕ). In n l) (sym ids) there) in
    subst (λ (k : ℕ). AreFormed (c.member k).status) found.1
    (formed_status found.0.place (c.member found.0.id).status (c.member found.0.id).disk found.2.status)

-- ---- a step

-- an entry that is given to a device is a pair
own_pair : (store : Store) (given : GivenPair) → ((place : ℕ) → place < length store.log → IsWellFormed (slice_index_or store.log place (blank 0)))
    → law.IsGivenIn (committed store) given → HasPair (committed store) given.0 given.1
own_pair store given formed is =
    let few : is.place < store.commit = grind (arith, length-take, is.inside) in
    let inside : is.place < length store.log = grind (arith, length-take, is.inside) in
    let same : slice_index_or (committed store) is.place (blank 0) ≡ slice_index_or store.log is.place (blank 0) = get_or-take store.commit store.log is.place (blank 0) few in record {
      place = is.place;
      within = is.inside;
      pair = pair_of_device _ (subst IsWellFormed (sym same) (formed is.place inside)) (λ zero. is.device (sym is.uid ∙ zero));
      its_uid = is.uid;
      its_node = is.node;
    }

own_by : LawOfPairs → (row : ℕ) (event : Event) (x : MemberState) (t : AllocatorState) → IsInside t.raft_server.store → (b : Bool) →
    let step_state : StepState = (step t row event).step_state in
    let after = (if b then record x { status = Up step_state.allocator; disk = puts_on (puts_of x step_state) x.disk } else after_cut_off x row t step_state (puts_on (puts_of x step_state) x.disk)).status in
    AreFormed after → AreOwn (if b then pairs step_state else []) after
own_by pairs_law row event x t inside true formed given there =
    own_pair (step t row event).step_state.allocator.raft_server.store given formed (pairs_law t row event inside given there)
own_by pairs_law row event x t inside false formed given there = absurd there

own_step : LawOfPairs → (row : ℕ) (event : Event) (status : MemberStatus) (x : MemberState) → AreInside status → AreFormed (member_after_step row event status x).status
    → AreOwn (pairs_of_step row event status x) (member_after_step row event status x).status
own_step pairs_law row event Down x inside formed = λ given there. absurd there
own_step pairs_law row event (Up t) x inside formed =
    own_by pairs_law row event x t inside (are_put (puts_of x (step t row event).step_state) x.disk.calls) formed
own_step pairs_law row event (Failed failure) x inside formed = λ given there. absurd there

-- ---- a row

in_if : (ids : List ℕ) (n : ℕ) → is_member ids n ≡ true → In n ids
in_if [] n e = absurd (cc (e))
in_if (id ∷ ids) n e = elim (eqb_tells id n) [
  | inl same ↦ inl (sym same.1)
  | inr apart ↦ inr (in_if ids n (subst (λ (b : Bool). (if b then true else is_member ids n) ≡ true) apart.0 e))
]

listed_by : (b : Bool) (other : Option Unlawful) → or_else (because NoNode (not b)) other ≡ None → b ≡ true
listed_by true other e = refl
listed_by false other e = absurd (cc (e))

module _ {F : Type 0} (world : Members F) (c : Cluster) (stands : StandsFor world c) (pairs_law : LawOfPairs) where
  inside_at : (n : ℕ) → In n c.ids → AreInside (c.member n).status
  inside_at n there =
      let found = one_of world.members.items (λ (m : Member F). StandsForMember m (c.member m.id)) stands.holds.members n
      (subst (λ (ids : List ℕ). In n ids) (sym stands.holds.ids) there) in
      subst (λ (k : ℕ). AreInside (c.member k).status) found.1
      (inside_status found.0.place (c.member found.0.id).status (c.member found.0.id).disk found.2.status)

  own_at : (n : ℕ) (event : Event) → In n c.ids →
      AreFormed (at c.member n (member_after_step (c.rows + 1) event (c.member n).status (c.member n)) n).status →
      AreOwn (pairs_of_step (c.rows + 1) event (c.member n).status (c.member n))
      (at c.member n (member_after_step (c.rows + 1) event (c.member n).status (c.member n)) n).status
  own_at n event there =
      subst (λ (x : MemberState). AreFormed x.status → AreOwn (pairs_of_step (c.rows + 1) event (c.member n).status (c.member n)) x.status)
      (sym (at_here c.member n n (member_after_step (c.rows + 1) event (c.member n).status (c.member n)) refl))
      (own_step pairs_law (c.rows + 1) event (c.member n).status (c.member n) (inside_at n there))

  -- the logs after the row are well formed
  pub offers_own : (row : Row) → ((n : ℕ) → In n (effect_of c row).ids → AreFormed ((effect_of c row).member n).status) → cause c row ≡ None
      → OffersItsOwn c row
  offers_own (Open n told ms word) formed lawful = tt
  offers_own (Tick n ms word) formed lawful =
      let listed = in_if c.ids n (listed_by (is_member c.ids n) _ lawful) in own_at n (tick_of ms word) listed (formed n listed)
  offers_own (Rx n k ms) formed lawful =
      let listed = in_if c.ids n (listed_by (is_member c.ids n) _ lawful) in own_at n (receipt_of c k ms) listed (formed n listed)
  offers_own (Send n) formed lawful = tt
  offers_own (Ext frame) formed lawful = tt
  offers_own (Crash n calls pattern) formed lawful = tt
  offers_own (Fault n call) formed lawful = tt
  offers_own (AOpen a uid pref ms word) formed lawful = tt
  offers_own (ATick a ms word) formed lawful = tt
  offers_own (ARx a k ms word) formed lawful = tt
  offers_own (ASend a) formed lawful = tt
  offers_own (AEnd a) formed lawful = tt
