-- From each moment of a run a majority comes back to a leader whose log is committed.
use Rattle.std.proofs.Common.{◌≡◌, ◌≢◌, ℕ, ◌+◌, ◌-◌, ◌<◌, ◌≤◌, Bool, true, false, List, [], ◌∷◌, ◌++◌, length, inl, inr, refl, sym, ◌∙◌, ap, subst, arith, Option}
use Rattle.std.proofs.lemmas.Bool.Decides.{eqb_tells}
use Rattle.can_frame.specs.declared.entry.Entry.{Entry}
use Rattle.can_frame.specs.Log.{IsBlank, IsInjective, blank, last_term, log_limit}
use Rattle.raft_model.specs.Duty.{WinDuty}
use Rattle.raft_model.specs.Invariants.{Invariants}
use Rattle.raft_model.specs.Lists.{In}
use Rattle.raft_model.specs.Log.{NotAbove}
use Rattle.raft_model.specs.Members.{HasNoneTwice}
use Rattle.raft_model.specs.Messages.{Request}
use Rattle.raft_model.specs.Moves.Elections.{has_quorum, own_vote, term_limit}
use Rattle.raft_model.specs.Runs.{InEveryRun, World}
use Rattle.raft_model.specs.Server.{Memory, RaftServer, Store, memory_when_opened, quorum}
use Rattle.raft_model.specs.Server.Role.{Leader}
use Rattle.alloc_spec_laws.proofs.Choices.{lt_tells, tell}
use Rattle.service_steps.specs.Coming.{CanCome}
use Rattle.service_steps.specs.ComingBack.{ComesBackIn, HasGrown, HasRoom, IsBack, IsLed, IsMajority}
use Rattle.service_steps.proofs.Coming.{IsReached, and_then, at_once, in_reached, so}
use Rattle.service_steps.proofs.Counting.{no_peers}
use Rattle.service_steps.proofs.Leading.{AreUp, RunLaws, brings_up}
use Rattle.service_steps.proofs.Proposing.{IsEntered, enters, majority_in}
use Rattle.service_steps.proofs.Standing.{AreAnew, HasStood, IsNewest, IsTop, LeadsAlone, greatest_term, leads_alone, newest, open_anew, stands_up_to}
use Rattle.service_steps.proofs.Voting.{HasWon, IsStanding, wins}

module _ (laws : RunLaws) (win : InEveryRun (λ world. (member : ℕ) → WinDuty world.members (world.server member)))
    (blank_keeps : (log : List Entry) (entry : Entry) → IsBlank entry → IsInjective log → IsInjective (log ++ entry ∷ [])) where
  -- back, from a log of the one that leads
  abbrev Back : List ℕ → (ℕ → List Entry) → World → Type 0
  Back group logs later = (leader : ℕ) × IsBack later group leader × HasGrown (logs leader) (later.server leader).store.log

  -- from a win with room: what is not committed the leader brings to its group, and with it a blank of its term
  finishes : (group : List ℕ) (logs : ℕ → List Entry) (me : ℕ) (world : World) → IsReached world → IsMajority world.members group → IsLed world group me
      → (world.server me).store.log ≡ logs me → length (world.server me).store.log < log_limit → CanCome world (Back group logs)
  finishes group logs me world r majority led same room = elim (lt_tells (world.server me).store.commit (length (world.server me).store.log)) [
    | inr all ↦ at_once world (Back group logs) (me, record { led = led; committed = omega (arith, inside, all.1) }, inl same)
    | inl some ↦ and_then (λ later. IsLed later group me × AreUp me group world later) (Back group logs) world r
        (brings_up laws group me group majority.once (λ n i. i) world r led)
        (λ later reached h. so (IsEntered group me (own later) later) (Back group logs) later
        (enters laws group me (own later) later reached (majority_in world.members later.members group h.1.members majority) h.0
        (subst (λ (s : Store). s.commit ≤ length s.log) (sym h.1.store) inside)
        (record {
          leads = h.0.leads;
          room = subst (λ (s : Store). length s.log < log_limit) (sym h.1.store) room;
          own_term = refl;
          kind = inl (refl, refl);
          injective = blank_keeps (later.server me).store.log (own later) (refl, refl) ((in_reached Invariants laws.invariants later reached).stores me).injective;
        }))
        (λ last e. (
          me,
          record { led = e.led; committed = e.committed },
          inr ((later.server me).store.term, e.log ∙ ap (λ (l : List Entry). l ++ own later ∷ []) (ap (λ (s : Store). s.log) h.1.store ∙ same)),
        )))
  ]
    where
      inside : (world.server me).store.commit ≤ length (world.server me).store.log
      inside = ((in_reached Invariants laws.invariants world r).stores me).commit

      own : World → Entry
      own later = blank (later.server me).store.term

  from_anew : (x : ℕ) (xs : List ℕ) (logs : ℕ → List Entry) (world : World) → ((n : ℕ) → (world.server n).store.log ≡ logs n) → IsReached world → HasNoneTwice world.members → IsMajority world.members (x ∷ xs)
      → HasRoom world (x ∷ xs) → ((n : ℕ) → In n (x ∷ xs) → (world.server n).memory ≡ memory_when_opened) → CanCome world (Back (x ∷ xs) logs)
  from_anew x xs logs world same r once majority room anew = choose (newest world x xs) (greatest_term world (x ∷ xs) room.term)
    where
      up : (n : ℕ) → In n (x ∷ xs) → (world.server n).memory.up ≡ true
      up n i = ap (λ (m : Memory). m.up) (anew n i)

      follows : (n : ℕ) → In n (x ∷ xs) → (world.server n).memory.role ≢ Leader
      follows n i e = absurd (cc (ap (λ (m : Memory). m.role) (anew n i), e))

      alone : (me : ℕ) → IsNewest world (x ∷ xs) me → has_quorum world.members (own_vote me) ≡ true → CanCome world (Back (x ∷ xs) logs)
      alone me best q =
          and_then (LeadsAlone me world) (Back (x ∷ xs) logs) world r
          (leads_alone me world (up me best.member) (follows me best.member) (room.term me best.member) q)
          (λ later reached h. finishes (x ∷ xs) logs me later reached (majority_in world.members later.members (x ∷ xs) h.members majority)
          (record {
            leads = h.role;
            up = h.up;
            member = best.member;
            listed = λ n i. subst (λ (l : List ℕ). In n l) (sym h.members) (majority.listed n i);
            free = λ n. ap (λ (f : ℕ → Option Request). f n) h.pending;
            peers = λ n i other. absurd (no_peers me n world.members once (majority.listed me best.member) (majority.listed n i) other q);
          })
          (ap (λ (s : Store). s.log) h.store ∙ same me) (subst (λ (s : Store). length s.log < log_limit) (sym h.store) (room.log me best.member)))

      together : (me top : ℕ) → IsNewest world (x ∷ xs) me → IsTop world (x ∷ xs) top → has_quorum world.members (own_vote me) ≡ false
          → CanCome world (Back (x ∷ xs) logs)
      together me top best highest q =
          and_then (λ later. HasStood me world later × ((later.server me).store.term ≡ top + 1)) (Back (x ∷ xs) logs) world r
          (stands_up_to (top - (world.server me).store.term) me world (top + 1) (up me best.member) (follows me best.member)
          (omega (arith, highest.above me best.member)) (omega (arith, highest.low)) q)
          (λ later reached h. and_then (HasWon (x ∷ xs) me later) (Back (x ∷ xs) logs) later reached
          (wins win (x ∷ xs) me (x ∷ xs) majority.once (λ n i. i) later reached
          (majority_in world.members later.members (x ∷ xs) h.0.members majority) (standing me top best highest later h.0 h.1))
          (λ last again w. finishes (x ∷ xs) logs me last again
          (majority_in world.members last.members (x ∷ xs) (w.members ∙ h.0.members) majority) w.led
          (ap (λ (s : Store). s.log) w.store ∙ (h.0.log ∙ same me))
          (omega (arith, room.log me best.member, ap length h.0.log, ap (λ (s : Store). length s.log) w.store))))
        where
          standing : (me top : ℕ) → IsNewest world (x ∷ xs) me → IsTop world (x ∷ xs) top → (later : World) → HasStood me world later
              → (later.server me).store.term ≡ top + 1 → IsStanding later (x ∷ xs) me (x ∷ xs)
          standing me top best highest later h term = record {
            stands = h.role;
            up = h.up;
            member = best.member;
            listed = λ n i. subst (λ (l : List ℕ). In n l) (sym h.members) (majority.listed n i);
            free = λ n. ap (λ (f : ℕ → Option Request). f n) h.pending;
            own = ap (λ (f : ℕ → Bool). f me) h.votes ∙ elim (eqb_tells me me) [ inl z ↦ z.0 | inr z ↦ absurd (z.1 refl) ];
            peers = λ n i other. subst (λ (s : RaftServer). (s.memory.up ≡ true) × (s.store.term ≤ (later.server me).store.term)) (sym (h.others n other))
                (up n i, let low : (world.server n).store.term ≤ top = highest.above n i in omega (arith, low, term));
            lower = λ n i other. subst (λ (s : RaftServer). s.store.term < (later.server me).store.term) (sym (h.others n other))
                (let low : (world.server n).store.term ≤ top = highest.above n i in omega (arith, low, term));
            newer = λ n i other. subst (λ (s : RaftServer). NotAbove (last_term s.store.log) (length s.store.log) (last_term (later.server me).store.log) (length (later.server me).store.log))
                (sym (h.others n other))
                (subst (λ (l : List Entry). NotAbove (last_term (world.server n).store.log) (length (world.server n).store.log) (last_term l) (length l))
                (sym h.log) (best.newer n i));
            voted = λ n i. inl i;
          }

      choose : (me : ℕ) × IsNewest world (x ∷ xs) me → (top : ℕ) × IsTop world (x ∷ xs) top → CanCome world (Back (x ∷ xs) logs)
      choose best highest = elim (tell (has_quorum world.members (own_vote best.0))) [
        | inl q ↦ alone best.0 best.1 q
        | inr q ↦ together best.0 highest.0 best.1 highest.1 q
      ]

  pub comes_back : (world : World) → IsReached world → (group : List ℕ) → HasNoneTwice world.members → IsMajority world.members group
      → HasRoom world group → CanCome world (ComesBackIn group world)
  comes_back world r [] once majority room = absurd (let few : quorum world.members ≤ 0 = majority.enough in omega (arith, few))
  comes_back world r (x ∷ xs) once majority room =
      and_then (AreAnew (x ∷ xs) world) (ComesBackIn (x ∷ xs) world) world r (open_anew (x ∷ xs) world majority.once majority.listed)
      (λ later reached a. so (Back (x ∷ xs) (λ n. (world.server n).store.log)) (ComesBackIn (x ∷ xs) world) later
      (from_anew x xs (λ n. (world.server n).store.log) later (λ n. ap (λ (s : Store). s.log) (a.stores n)) reached (subst HasNoneTwice (sym a.members) once)
      (majority_in world.members later.members (x ∷ xs) a.members majority)
      (record {
        term = λ n i. subst (λ (s : Store). s.term < term_limit) (sym (a.stores n)) (room.term n i);
        log = λ n i. subst (λ (s : Store). length s.log < log_limit) (sym (a.stores n)) (room.log n i);
      }) a.memory) (λ last b. record { leader = b.0; back = b.1; log = b.2 }))
