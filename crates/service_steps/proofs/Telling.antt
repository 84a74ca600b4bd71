-- From a leader whose log is committed each pair that it may propose is committed and told.
use Rattle.std.proofs.Common.{◌≡◌, ◌≢◌, ℕ, zero, suc, ◌+◌, ◌-◌, ◌<◌, ◌≤◌, List, [], ◌∷◌, ◌++◌, length, get_or, inl, inr, refl, sym, ◌∙◌, ap, subst, arith}
use Rattle.std.specs.Prelude.{slice_index_or}
use Rattle.std.proofs.Math.Seq.{get_or-append_seam}
use Rattle.std.proofs.lemmas.List.{get_or_append_left}
use Rattle.std.proofs.lemmas.Slice.Eq.{bytes_eq-Decides}
use Rattle.std.specs.Str.{bytes_eq}
use Rattle.can_frame.specs.declared.entry.Entry.{Entry}
use Rattle.can_frame.specs.Log.{HasNodeId, HasUid, IsBlank, IsInjective, IsPair, blank}
use Rattle.can_frame.specs.Zeros.{zeros}
use Rattle.raft_core.specs.Taken.{proposal}
use Rattle.raft_model.specs.Duty.{WinDuty}
use Rattle.raft_model.specs.Fit.{IsFit}
use Rattle.raft_model.specs.Handlers.{server_after}
use Rattle.raft_model.specs.Invariants.{Invariants}
use Rattle.raft_model.specs.Lists.{In}
use Rattle.raft_model.specs.Members.{HasNoneTwice}
use Rattle.raft_model.specs.Messages.{Message, Pair}
use Rattle.raft_model.specs.Messages.Message.{Pairs}
use Rattle.raft_model.specs.Moves.{Move, next_entry}
use Rattle.raft_model.specs.Moves.Leading.{MayPropose, pair_at}
use Rattle.raft_model.specs.Moves.Move.{TellNothing, TellPair}
use Rattle.raft_model.specs.Runs.{InEveryRun, World}
use Rattle.raft_model.specs.Server.{RaftServer}
use Rattle.alloc_spec_laws.proofs.Choices.{lt_tells, tell}
use Rattle.service_steps.specs.Coming.{CanCome}
use Rattle.service_steps.specs.ComingBack.{ComesBackIn, HasGrown, HasRoom, IsBack, IsLed, IsMajority, IsNew, IsTold}
use Rattle.service_steps.proofs.Alone.{one_longer}
use Rattle.service_steps.proofs.Coming.{Does, IsReached, and_then, at_once, does, doing, in_reached, its_server, members_stay, so}
use Rattle.service_steps.proofs.ComingBack.{comes_back}
use Rattle.service_steps.proofs.Leading.{RunLaws}
use Rattle.service_steps.proofs.Proposing.{IsEntered, enters, led_after, majority_in}

-- ---- it tells one place after another

module _ (group : List ℕ) (me : ℕ) (entry : Entry) (pair : IsPair entry) where
  -- the entry stands behind so many in the leader's log, of which all is committed, and so many before it were not told
  record IsTelling (more : ℕ) (world : World) : Type 0 where
    led : IsLed world group me
    committed : (world.server me).store.commit ≡ length (world.server me).store.log
    before : List Entry
    log : (world.server me).store.log ≡ before ++ entry ∷ []
    told : (world.server me).memory.told + more ≡ length before

  abbrev Done : World → Type 0
  Done later = IsTold later entry.uid entry.node × IsBack later group me

  -- the leader with one place more told
  abbrev told_one : RaftServer → RaftServer
  told_one server = record server { memory = record server.memory { told = server.memory.told + 1 } }

  module _ (more : ℕ) (world : World) (t : IsTelling more world) where
    low : (world.server me).memory.told < (world.server me).store.commit
    low = omega (arith, t.told, t.committed, ap length t.log, one_longer t.before entry)

    tells : (next_entry (world.server me)).uid ≢ zeros → (fitted : List Message)
        → ((message : Message) → In message fitted → In message (Pairs (pair_at me (world.steps + 1) (world.server me).store (world.server me).memory.told) ∷ []))
        → Does world me (world.steps + 1) TellPair fitted (world.server me)
    tells some fitted inside = record { is = refl; up = t.led.up; later = omega arith; comes = (t.led.leads, low, some); inside = inside }

    passes : (next_entry (world.server me)).uid ≡ zeros → Does world me (world.steps + 1) TellNothing [] (world.server me)
    passes none = record { is = refl; up = t.led.up; later = omega arith; comes = (t.led.leads, low, none); inside = λ message i. absurd i }

  tells_on : (more : ℕ) (world : World) (move : Move) → server_after world.members me (world.steps + 1) (world.server me) move ≡ told_one (world.server me)
      → IsTelling (suc more) world → IsTelling more (does world me (world.steps + 1) move [])
  tells_on more world move is t = record {
    led = led_after world group me move [] (told_one (world.server me)) is refl refl refl refl t.led;
    committed = subst (λ (s : RaftServer). s.store.commit ≡ length s.store.log) (sym mine) t.committed;
    before = t.before;
    log = ap (λ (s : RaftServer). s.store.log) mine ∙ t.log;
    told = omega (arith, ap (λ (s : RaftServer). s.memory.told) mine, t.told);
  }
    where
      mine : (does world me (world.steps + 1) move []).server me ≡ told_one (world.server me)
      mine = its_server world me (world.steps + 1) move [] (world.server me) refl ∙ is

  tells_all : (more : ℕ) (world : World) → IsTelling more world → CanCome world Done
  tells_all zero world t =
      doing world Done me (world.steps + 1) TellPair (Pairs its ∷ []) (world.server me)
      (tells zero world t (λ none. pair.uid (sym (ap (λ (e : Entry). e.uid) here) ∙ none)) (Pairs its ∷ []) (λ message i. i))
      (at_once later Done (
        (its, inl refl, ap (λ (e : Entry). e.uid) here, ap (λ (e : Entry). e.node) here),
        record {
          led = led_after world group me TellPair (Pairs its ∷ []) (told_one (world.server me)) refl refl refl refl refl t.led;
          committed = subst (λ (s : RaftServer). s.store.commit ≡ length s.store.log)
              (sym (its_server world me (world.steps + 1) TellPair (Pairs its ∷ []) (world.server me) refl)) t.committed;
        },
      ))
    where
      its : Pair
      its = pair_at me (world.steps + 1) (world.server me).store (world.server me).memory.told

      later : World
      later = does world me (world.steps + 1) TellPair (Pairs its ∷ [])

      here : slice_index_or (world.server me).store.log (world.server me).memory.told (blank 0) ≡ entry
      here = ap (λ (l : List Entry). slice_index_or l (world.server me).memory.told (blank 0)) t.log
          ∙ (ap (λ (n : ℕ). slice_index_or (t.before ++ entry ∷ []) n (blank 0)) (omega (arith, t.told)) ∙ get_or-append_seam t.before entry [] (blank 0))
  tells_all (suc more) world t = elim (tell (bytes_eq (next_entry (world.server me)).uid zeros)) [
    | inl z ↦ doing world Done me (world.steps + 1) TellNothing [] (world.server me)
        (passes (suc more) world t ((bytes_eq-Decides (next_entry (world.server me)).uid zeros).0 z))
        (tells_all more (does world me (world.steps + 1) TellNothing []) (tells_on more world TellNothing refl t))
    | inr z ↦ doing world Done me (world.steps + 1) TellPair [] (world.server me)
        (tells (suc more) world t (λ none. absurd (cc (z, (bytes_eq-Decides (next_entry (world.server me)).uid zeros).1 none))) [] (λ message i. absurd i))
        (tells_all more (does world me (world.steps + 1) TellPair []) (tells_on more world TellPair refl t))
  ]

-- ---- a pair is entered, and told

abbrev Told : List ℕ → ℕ → Entry → World → Type 0
Told group me entry later = IsTold later entry.uid entry.node × IsBack later group me

module _ (laws : RunLaws) where
  pub still_tells : (world : World) → IsReached world → (group : List ℕ) (me : ℕ) (entry : Entry) → IsMajority world.members group
      → IsBack world group me → MayPropose (world.server me) entry → IsPair entry
      → CanCome world (λ later. IsTold later entry.uid entry.node × IsBack later group me)
  still_tells world r group me entry majority back may pair =
      and_then (IsEntered group me entry world) (Told group me entry) world r
      (enters laws group me entry world r majority back.led (omega (arith, back.committed)) may)
      (λ later reached e. tells_all group me entry pair (length (world.server me).store.log - (world.server me).memory.told) later (record {
        led = e.led;
        committed = e.committed;
        before = (world.server me).store.log;
        log = e.log;
        told = omega (arith, e.told, fit.told, back.committed);
      }))
    where
      fit : IsFit me (world.server me)
      fit = in_reached (λ w. (member : ℕ) → IsFit member (w.server member)) laws.fit world r me

-- ---- from any moment

with_members : (P : World → Type 0) (world : World) → CanCome world P → CanCome world (λ later. P later × (later.members ≡ world.members))
with_members P world c = record { events = c.events; lawful = c.lawful; holds = (c.holds, members_stay world c.events) }

-- a blank has no device's unique ID, and no node ID
grown_uid : (before now : List Entry) (uid : List ℕ) → uid ≢ zeros → HasGrown before now → (HasUid before uid → ⊥) → HasUid now uid → ⊥
grown_uid before now uid some (inl e) none h = none (subst (λ (l : List Entry). HasUid l uid) e h)
grown_uid before now uid some (inr (term, e)) none h = at_place (subst (λ (l : List Entry). HasUid l uid) e h)
  where
    at_place : HasUid (before ++ blank term ∷ []) uid → ⊥
    at_place k = elim (lt_tells k.place (length before)) [
      | inl z ↦ none (record { place = k.place; within = z.1; same = ap (λ (x : Entry). x.uid) (sym (get_or_append_left before (blank term ∷ []) (blank 0) k.place z.1)) ∙ k.same })
      | inr z ↦ let last : k.place ≡ length before = omega (arith, z.1, k.within, one_longer before (blank term)) in
          some (sym (sym (ap (λ (x : Entry). x.uid) (ap (λ (n : ℕ). get_or (before ++ blank term ∷ []) n (blank 0)) last ∙ get_or-append_seam before (blank term) [] (blank 0))) ∙ k.same))
    ]

grown_node : (before now : List Entry) (node : ℕ) → 1 ≤ node → HasGrown before now → (HasNodeId before node → ⊥) → HasNodeId now node → ⊥
grown_node before now node some (inl e) none h = none (subst (λ (l : List Entry). HasNodeId l node) e h)
grown_node before now node some (inr (term, e)) none h = at_place (subst (λ (l : List Entry). HasNodeId l node) e h)
  where
    at_place : HasNodeId (before ++ blank term ∷ []) node → ⊥
    at_place k = elim (lt_tells k.place (length before)) [
      | inl z ↦ none (record { place = k.place; within = z.1; same = ap (λ (x : Entry). x.node) (sym (get_or_append_left before (blank term ∷ []) (blank 0) k.place z.1)) ∙ k.same })
      | inr z ↦ let last : k.place ≡ length before = omega (arith, z.1, k.within, one_longer before (blank term)) in
          let zero_node : 0 ≡ node = sym (ap (λ (x : Entry). x.node) (ap (λ (n : ℕ). get_or (before ++ blank term ∷ []) n (blank 0)) last ∙ get_or-append_seam before (blank term) [] (blank 0))) ∙ k.same in
          omega (arith, zero_node, some)
    ]

grown_length : (before now : List Entry) → HasGrown before now → length now ≤ length before + 1
grown_length before now (inl e) = omega (arith, ap length e)
grown_length before now (inr (term, e)) = omega (arith, ap length e, one_longer before (blank term))

pub tells_new : (laws : RunLaws) (win : InEveryRun (λ world. (member : ℕ) → WinDuty world.members (world.server member)))
    → ((log : List Entry) (entry : Entry) → IsBlank entry → IsInjective log → IsInjective (log ++ entry ∷ []))
    → ((log : List Entry) (entry : Entry) → IsPair entry → IsInjective log → (HasUid log entry.uid → ⊥) → (HasNodeId log entry.node → ⊥) → IsInjective (log ++ entry ∷ []))
    → (world : World) → IsReached world → (group : List ℕ) (uid : List ℕ) (node : ℕ) → HasNoneTwice world.members → IsMajority world.members group
    → HasRoom world group → IsNew world group uid node → CanCome world (λ later. IsTold later uid node)
tells_new laws win blank_keeps keeps world r group uid node once majority room new =
    and_then (λ later. ComesBackIn group world later × (later.members ≡ world.members)) (λ later. IsTold later uid node) world r
    (with_members (ComesBackIn group world) world (comes_back laws win blank_keeps world r group once majority room))
    (λ later reached b. so (Told group b.0.leader (entry later b.0.leader)) (λ last. IsTold last uid node) later
    (still_tells laws later reached group b.0.leader (entry later b.0.leader) (majority_in world.members later.members group b.1 majority) b.0.back
    (record {
      leads = b.0.back.led.leads;
      room = omega (arith, grown_length (world.server b.0.leader).store.log (later.server b.0.leader).store.log b.0.log, new.room b.0.leader b.0.back.led.member);
      own_term = refl;
      kind = inr (inr (pair later b.0.leader));
      injective = keeps (later.server b.0.leader).store.log (entry later b.0.leader) (pair later b.0.leader)
          ((in_reached Invariants laws.invariants later reached).stores b.0.leader).injective
          (grown_uid (world.server b.0.leader).store.log (later.server b.0.leader).store.log uid new.device b.0.log (new.uids b.0.leader b.0.back.led.member))
          (grown_node (world.server b.0.leader).store.log (later.server b.0.leader).store.log node new.least b.0.log (new.nodes b.0.leader b.0.back.led.member));
    }) (pair later b.0.leader))
    (λ last t. t.0))
  where
    entry : World → ℕ → Entry
    entry later leader = proposal (later.server leader).store.term uid node

    pair : (later : World) (leader : ℕ) → IsPair (proposal (later.server leader).store.term uid node)
    pair later leader = record { uid = new.device; least = new.least; most = new.most }
