-- What a leader records may be proposed.
use Rattle.std.proofs.Common.{◌≡◌, ◌≢◌, ℕ, ◌<◌, ◌≤◌, Bool, true, false, List, [], ◌∷◌, ◌++◌, length, get_or, ◌⊎◌, inl, inr, refl, sym, ◌∙◌, subst, arith, Option, Some, None}
use Rattle.std.specs.Prelude.{◌||◌, not, is_some, nat_lt}
use Rattle.std.proofs.lemmas.List.FromFn.{get_or-map-range_with_len}
use Rattle.can_frame.specs.declared.entry.Entry.{Entry}
use Rattle.can_frame.specs.Log.{HasNodeId, HasUid, IsBlank, IsInjective, IsPair, IsReservation, blank, log_limit}
use Rattle.can_frame.specs.Zeros.{zeros}
use Rattle.id_selector.specs.Choice.{IsChoice, IsFree, chosen}
use Rattle.node_discovery.specs.History.{is_online}
use Rattle.node_discovery.specs.Watch.{devices, history}
use Rattle.raft_core.specs.Taken.{proposal}
use Rattle.raft_model.specs.Duty.{takes_blank}
use Rattle.raft_model.specs.Lists.{In}
use Rattle.raft_model.specs.Moves.Elections.{is_leader}
use Rattle.raft_model.specs.Moves.Leading.{MayPropose}
use Rattle.raft_model.specs.Server.{RaftServer, Role}
use Rattle.raft_model.specs.Server.Role.{Candidate, Follower, Leader}
use Rattle.alloc_spec.specs.Tick.{candidate, if_new, is_candidate}
use Rattle.alloc_spec.specs.AllocatorState.{AllocatorState, is_known, is_recorded, is_taken, is_zero, members_of, recorded_at, taken}
use Rattle.cluster_discovery.specs.Members.{is_on_list}
use Rattle.alloc_spec_laws.proofs.Choices.{and_left, and_right, lt_true, not_true, tell}
use Rattle.alloc_spec_laws.proofs.Lists.{found, in_range}
use Rattle.alloc_spec_laws.proofs.Logs.{no_zeros, not_recorded, not_told}
use Rattle.alloc_spec_laws.proofs.Peers.{unlisted}

-- an entry that a log may take: with a new node ID, which is none of the list of members, and with a new unique ID or none
pub record IsNewEntry (list : List ℕ) (log : List Entry) (uid : List ℕ) (node : ℕ) : Type 0 where
  pub least : 1 ≤ node
  pub most : node ≤ 125
  pub given : HasNodeId log node → ⊥
  pub outside : In node list → ⊥
  pub told : (uid ≡ zeros) ⊎ ((uid ≢ zeros) × (HasUid log uid → ⊥))

leads : (role : Role) → is_leader role ≡ true → role ≡ Leader
leads Follower h = absurd (cc (h))
leads Candidate h = absurd (cc (h))
leads Leader h = refl

pub leader_of : (role : Role) → is_leader role ≡ true → role ≡ Leader
leader_of role h = leads role h

pub or_false : (a b : Bool) → (a || b) ≡ false → (a ≡ false) × (b ≡ false)
or_false true b h = absurd (cc (h))
or_false false b h = (refl, h)

unknown : (t : AllocatorState) (node : ℕ) → is_known t node ≡ false → HasNodeId t.raft_server.store.log node → ⊥
unknown t node h = not_recorded t.raft_server.store.log node (or_false (is_on_list (members_of t) node) (is_recorded t.raft_server.store.log node) h).1

no_member : (t : AllocatorState) (node : ℕ) → is_known t node ≡ false → In node (members_of t) → ⊥
no_member t node h = unlisted (members_of t) node (or_false (is_on_list (members_of t) node) (is_recorded t.raft_server.store.log node) h).0

-- ---- the node of a tick

pub candidate_is : (t : AllocatorState) (node : ℕ) → candidate t ≡ Some node
    → (1 ≤ node) × (node ≤ 125) × (HasNodeId t.raft_server.store.log node → ⊥) × (In node (members_of t) → ⊥)
candidate_is t node e =
    let f = found (is_candidate t) devices node e in
    let i = in_range 1 125 node f.1 in
    let new : is_known t node ≡ false = not_true (is_known t node) (and_left (not (is_known t node)) _ f.0) in
    (i.0, omega (arith, i.1), unknown t node new, no_member t node new)

pub new_is : (log : List Entry) (told : Option (List ℕ)) (uid : List ℕ) → if_new log told ≡ Some uid → (uid ≢ zeros) × (HasUid log uid → ⊥)
new_is log None uid e = absurd (cc (e))
new_is log (Some said) uid e = elim (tell (is_zero said || is_some (recorded_at log said))) [
  | inl b ↦ absurd (cc (rw b at e))
  | inr b ↦
      let same : said ≡ uid = cc (rw b at e) in
      let n = or_false (is_zero said) (is_some (recorded_at log said)) b in
      subst (λ (u : List ℕ). (u ≢ zeros) × (HasUid log u → ⊥)) same (no_zeros said n.0, not_told log said n.1)
]

-- ---- the node of an exchange

module _ (chosen_is : (busy : List Bool) (preferred : ℕ) → IsChoice busy preferred (chosen busy preferred)) where
  free : (busy : List Bool) (preferred node : ℕ) → IsChoice busy preferred (Some node) → IsFree busy node
  free busy preferred node (inl least) = least.free
  free busy preferred node (inr next) = next.next.free

  pub chosen_new : (t : AllocatorState) (preferred node : ℕ) → chosen (taken t) preferred ≡ Some node
      → (1 ≤ node) × (node ≤ 125) × (HasNodeId t.raft_server.store.log node → ⊥) × (In node (members_of t) → ⊥)
  chosen_new t preferred node e =
      let f = free (taken t) preferred node (subst (λ (o : Option ℕ). IsChoice (taken t) preferred o) e (chosen_is (taken t) preferred)) in
      let at_node : get_or (taken t) node true ≡ is_taken t node = get_or-map-range_with_len (is_taken t) 0 128 node node true (omega (arith, f.most)) (omega arith) in
      let new : is_known t node ≡ false = (or_false (is_known t node) _ (sym at_node ∙ f.free)).0 in
      (f.least, f.most, unknown t node new, no_member t node new)

  -- no NodeStatus of it was heard of late
  pub chosen_offline : (t : AllocatorState) (preferred node : ℕ) → chosen (taken t) preferred ≡ Some node → is_online (history node t.watch) t.now ≡ false
  chosen_offline t preferred node e =
      let f = free (taken t) preferred node (subst (λ (o : Option ℕ). IsChoice (taken t) preferred o) e (chosen_is (taken t) preferred)) in
      let at_node : get_or (taken t) node true ≡ is_taken t node = get_or-map-range_with_len (is_taken t) 0 128 node node true (omega (arith, f.most)) (omega arith) in
      (or_false (is_known t node) (is_online (history node t.watch) t.now) (sym at_node ∙ f.free)).1

-- ---- injective logs

module _ (blank_keeps : (log : List Entry) (entry : Entry) → IsBlank entry → IsInjective log → IsInjective (log ++ entry ∷ []))
    (reservation_keeps : (log : List Entry) (entry : Entry) → IsReservation entry → IsInjective log → (HasNodeId log entry.node → ⊥)
    → IsInjective (log ++ entry ∷ []))
    (pair_keeps : (log : List Entry) (entry : Entry) → IsPair entry → IsInjective log → (HasUid log entry.uid → ⊥) → (HasNodeId log entry.node → ⊥)
    → IsInjective (log ++ entry ∷ [])) where
  pub may_record : (list : List ℕ) (raft_server : RaftServer) (uid : List ℕ) (node : ℕ) → raft_server.memory.role ≡ Leader → length raft_server.store.log < log_limit
      → IsInjective raft_server.store.log → IsNewEntry list raft_server.store.log uid node → MayPropose raft_server (proposal raft_server.store.term uid node)
  may_record list raft_server uid node role room once new = by_uid new.told
    where
      by_uid : (uid ≡ zeros) ⊎ ((uid ≢ zeros) × (HasUid raft_server.store.log uid → ⊥)) → MayPropose raft_server (proposal raft_server.store.term uid node)
      by_uid (inl e) =
          let is : IsReservation (proposal raft_server.store.term uid node) = record { uid = e; least = new.least; most = new.most } in record {
            leads = role;
            room = room;
            own_term = refl;
            kind = inr (inl is);
            injective = reservation_keeps raft_server.store.log (proposal raft_server.store.term uid node) is once new.given;
          }
      by_uid (inr h) =
          let is : IsPair (proposal raft_server.store.term uid node) = record { uid = h.0; least = new.least; most = new.most } in record {
            leads = role;
            room = room;
            own_term = refl;
            kind = inr (inr is);
            injective = pair_keeps raft_server.store.log (proposal raft_server.store.term uid node) is once h.1 new.given;
          }

  pub may_add_blank : (raft_server : RaftServer) → raft_server.memory.role ≡ Leader → takes_blank raft_server.store ≡ true → IsInjective raft_server.store.log
      → MayPropose raft_server (blank raft_server.store.term)
  may_add_blank raft_server role takes once = record {
    leads = role;
    room = lt_true (length raft_server.store.log) log_limit (and_right (nat_lt raft_server.store.commit (length raft_server.store.log)) _ takes);
    own_term = refl;
    kind = inl (refl, refl);
    injective = blank_keeps raft_server.store.log (blank raft_server.store.term) (refl, refl) once;
  }
