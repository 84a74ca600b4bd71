-- The unique IDs that a step records have 16 bytes.
use Rattle.std.proofs.Common.{◌≡◌, ℕ, List, [], ◌∷◌, ◌++◌, length, inl, inr, sym, ◌∙◌, ap, subst, Some}
use Rattle.std.specs.Prelude.{⊤, nat_eq}
use Rattle.can_frame.specs.declared.entry.Entry.{Entry}
use Rattle.node_discovery.specs.History.{Asked, Event as Happens, Status, Taken, identity, is_online, last_taken, spell}
use Rattle.node_discovery.specs.Watch.{Watched, history, of_node}
use Rattle.raft_core.specs.Taken.{proposal}
use Rattle.raft_model.specs.Lists.{In}
use Rattle.raft_model.specs.Moves.{Move}
use Rattle.raft_model.specs.Moves.Move.{ProposeEntry}
use Rattle.raft_model.specs.Server.{Store}
use Rattle.alloc_spec.specs.StepState.{StepState}
use Rattle.alloc_spec.specs.Step.{Event, step}
use Rattle.alloc_spec.specs.AllocatorState.{AllocatorState}
use Rattle.alloc_spec.specs.Rules.{Rules, opening_by}
use Rattle.alloc_spec_laws.specs.Proposals.{HasUids, RecordsUids}
use Rattle.alloc_spec_laws.proofs.CalledPeers.{quiet_proposals}
use Rattle.alloc_spec_laws.proofs.Choices.{either, eq_true, tell}
use Rattle.alloc_spec_laws.proofs.KeptByChanges.{HasUid, IsFound, Keeping}
use Rattle.alloc_spec_laws.proofs.Lists.{in_append}
use Rattle.alloc_spec_laws.proofs.KeptBySteps.{step_keeps}

-- ---- what a node told is among what happened

in_spell : (x : Happens) (events : List Happens) → In x (spell events) → In x events
in_spell x [] i = i
in_spell x (Status moment ∷ events) (inl e) = inl e
in_spell x (Status moment ∷ events) (inr i) =
    either (λ (l : List Happens). In x l → In x (Status moment ∷ events)) (is_online events moment) (spell events) []
    (λ e j. inr (in_spell x events j)) (λ e j. absurd j) i
in_spell x (Asked id moment ∷ events) (inl e) = inl e
in_spell x (Asked id moment ∷ events) (inr i) = inr (in_spell x events i)
in_spell x (Taken uid moment ∷ events) (inl e) = inl e
in_spell x (Taken uid moment ∷ events) (inr i) = inr (in_spell x events i)

last_in : (events : List Happens) (uid : List ℕ) → last_taken events ≡ Some uid → (moment : ℕ) × In (Taken uid moment) events
last_in [] uid e = absurd (cc (e))
last_in (Status moment ∷ events) uid e = let r = last_in events uid e in (r.0, inr r.1)
last_in (Asked id moment ∷ events) uid e = let r = last_in events uid e in (r.0, inr r.1)
last_in (Taken told moment ∷ events) uid e =
    let same : told ≡ uid = cc (e) in (moment, inl (ap (λ (u : List ℕ). Taken u moment) (sym same)))

in_history : (node : ℕ) (x : Happens) (watch : List Watched) → In x (history node watch) → In (of_node node x) watch
in_history node x [] i = i
in_history node x (watched ∷ watch) i = elim (tell (nat_eq watched.node node)) [
  | inr b ↦ inr (in_history node x watch (rw b at i))
  | inl b ↦ elim (rw b at i) [
    | inl e ↦ inl (ap (λ (n : ℕ). of_node n x) (sym (eq_true watched.node node b)) ∙ ap (λ (h : Happens). of_node watched.node h) e)
    | inr j ↦ inr (in_history node x watch j)
  ]
]

told_uid : (watch : List Watched) (node now : ℕ) (uid : List ℕ) → HasUids watch → identity (history node watch) now ≡ Some uid → length uid ≡ 16
told_uid watch node now uid has e = elim (tell (is_online (history node watch) now)) [
  | inr b ↦ absurd (cc (rw b at e))
  | inl b ↦
      let last = last_in (spell (history node watch)) uid (rw b at e) in
      has node uid last.0 (in_history node (Taken uid last.0) watch (in_spell (Taken uid last.0) (history node watch) last.1))
]

found_uid : (t : AllocatorState) (uid : List ℕ) → HasUids t.watch → IsFound t uid → length uid ≡ 16
found_uid t uid has (inl whole) = whole
found_uid t uid has (inr (inl told)) = told_uid t.watch told.0 t.now uid has told.1
found_uid t uid has (inr (inr none)) = ap length none

-- ---- along a step

pub record Records (g : StepState) : Type 0 where
  pub watch : HasUids g.allocator.watch
  pub uids : RecordsUids g

one_watched : (watch : List Watched) (node : ℕ) (happens : Happens) → HasUid happens → HasUids watch → HasUids (of_node node happens ∷ watch)
one_watched watch node happens has h n uid moment (inl e) =
    subst (λ (x : Happens). HasUid x) (sym (ap (λ (w : Watched). w.event) e)) has
one_watched watch node happens has h n uid moment (inr i) = h n uid moment i

one_entry : (moves : List Move) (own : Entry) → length own.uid ≡ 16 → ((entry : Entry) → In (ProposeEntry entry) moves → length entry.uid ≡ 16)
    → (entry : Entry) → In (ProposeEntry entry) (moves ++ ProposeEntry own ∷ []) → length entry.uid ≡ 16
one_entry moves own is h entry i = elim (in_append (ProposeEntry entry) moves (ProposeEntry own ∷ []) i) [
  | inl j ↦ h entry j
  | inr (inl e) ↦ let same : entry ≡ own = cc (e) in ap (λ (x : Entry). length x.uid) same ∙ is
  | inr (inr j) ↦ absurd j
]

no_entry : (moves more : List Move) → ((entry : Entry) → In (ProposeEntry entry) more → ⊥)
    → ((entry : Entry) → In (ProposeEntry entry) moves → length entry.uid ≡ 16)
    → (entry : Entry) → In (ProposeEntry entry) (moves ++ more) → length entry.uid ≡ 16
no_entry moves more free h entry i = elim (in_append (ProposeEntry entry) moves more i) [ inl j ↦ h entry j | inr j ↦ absurd (free entry j) ]

records_keeping : (number : ℕ) (event : Event) → Keeping number event Records (λ d. ⊤)
records_keeping number event = record {
  takes_keep = λ given moves g quiet decided h. record { watch = h.watch; uids = no_entry g.moves moves (quiet_proposals moves quiet) h.uids };
  proposes_keep = λ given uid node g found h. record {
    watch = h.watch;
    uids = one_entry g.moves (proposal g.allocator.raft_server.store.term uid node) (found_uid g.allocator uid h.watch found) h.uids;
  };
  sends_keep = λ what to payload says g sends h. record { watch = h.watch; uids = h.uids };
  calls_keep = λ what peer move request payload g makes fits h. record {
    watch = h.watch;
    uids = no_entry g.moves (move ∷ []) (λ entry i. elim i [ inl e ↦ makes.other entry (sym e) | inr j ↦ j ]) h.uids;
  };
  responds_keep = λ what d payload says g comes responds h. record { watch = h.watch; uids = h.uids };
  changes_keep = λ u g like h. record { watch = subst (λ (w : List Watched). HasUids w) (sym like.watch) h.watch; uids = h.uids };
  watches_keep = λ node happens g has h. record { watch = one_watched g.allocator.watch node happens has h.watch; uids = h.uids };
  tells_keep = λ g h. record { watch = h.watch; uids = h.uids };
  hears_keep = λ d message g comes kind other read h. record { watch = h.watch; uids = h.uids };
}

pub step_records : (t : AllocatorState) (number : ℕ) (event : Event) → HasUids t.watch → Records (step t number event).step_state
step_records t number event has =
    step_keeps number event Records (λ d. ⊤) (records_keeping number event) t (λ arrival is d e. tt)
    (record { watch = has; uids = λ entry i. absurd i })

pub opening_has : (me : ℕ) (rules : Rules) (store : Store) (now word : ℕ) → HasUids (opening_by me rules store now word).watch
opening_has me rules store now word node uid moment i = absurd i
