-- A leader brings its group up to its log, and commits it.
use Rattle.std.proofs.Common.{◌≡◌, ◌≢◌, ℕ, ◌+◌, ◌<◌, ◌≤◌, true, List, [], ◌∷◌, length, inl, inr, refl, sym, ◌∙◌, ap, subst, arith, None}
use Rattle.std.specs.Prelude.{nat_le}
use Rattle.std.proofs.lemmas.Bool.Decides.{eqb_tells, leb_tells}
use Rattle.raft_model.specs.Decisions.{verdict_on}
use Rattle.raft_model.specs.Fit.{IsFit}
use Rattle.raft_model.specs.Invariants.{Invariants}
use Rattle.raft_model.specs.Lists.{In, how_many}
use Rattle.raft_model.specs.Log.{term_at}
use Rattle.raft_model.specs.Members.{HasNoneTwice}
use Rattle.raft_model.specs.Messages.{Request}
use Rattle.raft_model.specs.Moves.Appending.{IsJudged, Verdict}
use Rattle.raft_model.specs.Moves.Leading.{has_matched}
use Rattle.raft_model.specs.Moves.Move.{CommitTo}
use Rattle.raft_model.specs.Runs.{InEveryRun, World}
use Rattle.raft_model.specs.Server.{RaftServer, Store, quorum}
use Rattle.service_steps.specs.Coming.{CanCome}
use Rattle.service_steps.specs.ComingBack.{IsLed, IsMajority}
use Rattle.service_steps.proofs.Calling.{HasCaughtUp, MayCallPeer, catches_up_there}
use Rattle.service_steps.proofs.Coming.{Does, IsReached, and_then, at_once, does, doing, in_reached, its_server, other_server, so}
use Rattle.service_steps.proofs.Counting.{all_counted}
use Rattle.service_steps.proofs.InRuns.{joined_in}

-- what holds in every run
pub record RunLaws : Type 0 where
  pub invariants : InEveryRun Invariants
  pub fit : InEveryRun (λ world. (member : ℕ) → IsFit member (world.server member))
  pub one_verdict : (server : RaftServer) (request : Request) (verdict : Verdict) → IsJudged server request verdict → verdict ≡ verdict_on server request

-- what a group that is brought up leaves as it was, and what its leader knows of these of it
pub record AreUp (me : ℕ) (rest : List ℕ) (world later : World) : Type 0 where
  pub members : later.members ≡ world.members
  pub store : (later.server me).store ≡ (world.server me).store
  pub told : (later.server me).memory.told ≡ (world.server me).memory.told
  pub matched : (n : ℕ) → In n rest → n ≢ me → (later.server me).memory.matched n ≡ length (world.server me).store.log

module _ (laws : RunLaws) (group : List ℕ) (me : ℕ) where
  may_call : (you : ℕ) (world : World) → IsReached world → IsLed world group me → In you group → you ≢ me → MayCallPeer world me you
  may_call you world r led i other = record {
    other = other;
    listed = led.listed you i;
    my_up = led.up;
    your_up = (led.peers you i other).0;
    free = led.free you;
    joined = joined_in world (in_reached Invariants laws.invariants world r) me you
        (in_reached (λ w. (member : ℕ) → IsFit member (w.server member)) laws.fit world r me) other led.leads (led.peers you i other).1;
  }

  still_led : (you : ℕ) (world later : World) → IsLed world group me → you ≢ me → HasCaughtUp laws.one_verdict me you world later → IsLed later group me
  still_led you world later led other h = record {
    leads = h.leads;
    up = h.my_up;
    member = led.member;
    listed = λ n i. subst (λ (l : List ℕ). In n l) (sym h.members) (led.listed n i);
    free = λ n. elim (eqb_tells n you) [
      | inl z ↦ subst (λ (m : ℕ). (later.server me).memory.pending m ≡ None) (sym z.1) h.free
      | inr z ↦ (h.untouched n z.1).1 ∙ led.free n
    ];
    peers = λ n i not_me. elim (eqb_tells n you) [
      | inl z ↦ subst (λ (m : ℕ). ((later.server m).memory.up ≡ true) × ((later.server m).store.term ≤ (later.server me).store.term)) (sym z.1) (h.your_up, h.term)
      | inr z ↦
          subst (λ (s : RaftServer). (s.memory.up ≡ true) × (s.store.term ≤ (later.server me).store.term)) (sym (h.others n not_me z.1))
          (subst (λ (k : Store). ((world.server n).memory.up ≡ true) × ((world.server n).store.term ≤ k.term)) (sym h.store) (led.peers n i not_me))
    ];
  }

  pub brings_up : (rest : List ℕ) → HasNoneTwice rest → ((n : ℕ) → In n rest → In n group) → (world : World) → IsReached world
      → IsLed world group me → CanCome world (λ later. IsLed later group me × AreUp me rest world later)
  brings_up [] once inside world r led = at_once world (λ later. IsLed later group me × AreUp me [] world later)
      (led, record { members = refl; store = refl; told = refl; matched = λ n i. absurd i })
  brings_up (x ∷ xs) once inside world r led =
      and_then (λ later. IsLed later group me × AreUp me xs world later) (λ later. IsLed later group me × AreUp me (x ∷ xs) world later) world r
      (brings_up xs once.1 (λ n i. inside n (inr i)) world r led)
      (λ later reached h. elim (eqb_tells x me) [
        | inl z ↦ at_once later (λ last. IsLed last group me × AreUp me (x ∷ xs) world last) (
          h.0,
          record {
            members = h.1.members;
            store = h.1.store;
            told = h.1.told;
            matched = λ n i not_me. elim i [ inl e ↦ absurd (not_me (e ∙ z.1)) | inr j ↦ h.1.matched n j not_me ];
          },
        )
        | inr z ↦ so (HasCaughtUp laws.one_verdict me x later) (λ last. IsLed last group me × AreUp me (x ∷ xs) world last) later
            (catches_up_there laws.one_verdict me x later (may_call x later reached h.0 (inside x (inl refl)) z.1))
            (λ last k. (
              still_led x later last h.0 z.1 k,
              record {
                members = k.members ∙ h.1.members;
                store = k.store ∙ h.1.store;
                told = k.told ∙ h.1.told;
                matched = λ n i not_me. elim i [
                  | inl e ↦ subst (λ (m : ℕ). (last.server me).memory.matched m ≡ length (world.server me).store.log) (sym e)
                      (k.matched ∙ ap (λ (s : Store). length s.log) h.1.store)
                  | inr j ↦ (k.untouched n (λ e. once.0 (subst (λ (m : ℕ). In m xs) e j))).0 ∙ h.1.matched n j not_me
                ];
              },
            ))
      ])

  -- ---- and then commits

  -- the leader with its whole log committed
  abbrev pub all_committed : RaftServer → RaftServer
  all_committed server = record server { store = record server.store { commit = length server.store.log } }

  pub record HasCommitted (world later : World) : Type 0 where
    pub led : IsLed later group me
    pub server : later.server me ≡ all_committed (world.server me)
    pub members : later.members ≡ world.members

  same_number : (n : ℕ) → nat_le n n ≡ true
  same_number n = elim (leb_tells n n) [ inl z ↦ z.0 | inr z ↦ absurd (omega (arith, z.1)) ]

  pub commits_all : (world : World) → IsLed world group me → IsMajority world.members group
      → ((n : ℕ) → In n group → n ≢ me → (world.server me).memory.matched n ≡ length (world.server me).store.log)
      → term_at (world.server me).store.log (length (world.server me).store.log) ≡ (world.server me).store.term
      → (world.server me).store.commit < length (world.server me).store.log
      → CanCome world (HasCommitted world)
  commits_all world led majority matched own below =
      doing world (HasCommitted world) me (world.steps + 1) (CommitTo index) [] (world.server me) d
      (at_once (does world me (world.steps + 1) (CommitTo index) []) (HasCommitted world) (record {
        led = record {
          leads = ap (λ (s : RaftServer). s.memory.role) mine ∙ led.leads;
          up = ap (λ (s : RaftServer). s.memory.up) mine ∙ led.up;
          member = led.member;
          listed = led.listed;
          free = λ n. ap (λ (s : RaftServer). s.memory.pending n) mine ∙ led.free n;
          peers = λ n i not_me.
              subst (λ (s : RaftServer). (s.memory.up ≡ true) × (s.store.term ≤ (after.server me).store.term)) (sym (other_server world me (world.steps + 1) (CommitTo index) [] n not_me))
              (subst (λ (s : RaftServer). ((world.server n).memory.up ≡ true) × ((world.server n).store.term ≤ s.store.term)) (sym mine) (led.peers n i not_me));
        };
        server = mine;
        members = refl;
      }))
    where
      index : ℕ
      index = length (world.server me).store.log

      after : World
      after = does world me (world.steps + 1) (CommitTo index) []

      mine : after.server me ≡ all_committed (world.server me)
      mine = its_server world me (world.steps + 1) (CommitTo index) [] (world.server me) refl

      passes : (n : ℕ) → In n group → has_matched me (world.server me) index n ≡ true
      passes n i = elim (eqb_tells n me) [
        | inl z ↦ rw (z.0) refl
        | inr z ↦ rw (z.0) (rw (matched n i z.1) (same_number index))
      ]

      held : quorum world.members ≤ how_many (has_matched me (world.server me) index) world.members
      held = omega (arith, majority.enough, all_counted group world.members (has_matched me (world.server me) index) majority.once majority.listed passes)

      d : Does world me (world.steps + 1) (CommitTo index) [] (world.server me)
      d = record {
        is = refl;
        up = led.up;
        later = omega arith;
        comes = (
          led.leads,
          record {
            can = record { above = below; inside = omega arith; own_term = own; held = held };
            greatest = λ place can. can.inside;
          },
        );
        inside = λ message i. absurd i;
      }
