-- A member that was opened anew stands for election until its term is above all others; and which member is to stand.
use Rattle.std.proofs.Common.{◌≡◌, ◌≢◌, ℕ, zero, suc, ◌+◌, ◌<◌, ◌≤◌, true, false, List, [], ◌∷◌, length, ◌⊎◌, inl, inr, refl, sym, ◌∙◌, ap, subst, arith, None}
use Rattle.std.proofs.lemmas.Bool.Decides.{eqb_tells}
use Rattle.can_frame.specs.Log.{last_term}
use Rattle.raft_model.specs.Handlers.{server_after}
use Rattle.raft_model.specs.Lists.{In, at_here, at_other}
use Rattle.raft_model.specs.Log.{NotAbove}
use Rattle.raft_model.specs.Members.{HasNoneTwice}
use Rattle.raft_model.specs.Moves.Elections.{has_quorum, own_vote, stand_puts, term_limit}
use Rattle.raft_model.specs.Moves.Move.{TimeOut}
use Rattle.raft_model.specs.Runs.{World, after}
use Rattle.raft_model.specs.Runs.Event.{Opens, Stops}
use Rattle.raft_model.specs.Server.{RaftServer, Role, Store, memory_when_opened, put_all}
use Rattle.raft_model.specs.Server.Role.{Candidate, Leader}
use Rattle.alloc_spec_laws.proofs.Choices.{lt_tells, tell}
use Rattle.service_steps.specs.Coming.{CanCome}
use Rattle.service_steps.proofs.Coming.{Does, after_that, at_once, behind, does, doing, its_server, other_server, so}

-- ---- all of a group are opened anew

-- a member is opened anew, with what it has stored
pub record IsAnew (me : ℕ) (world later : World) : Type 0 where
  pub members : later.members ≡ world.members
  pub memory : (later.server me).memory ≡ memory_when_opened
  pub stores : (n : ℕ) → (later.server n).store ≡ (world.server n).store
  pub others : (n : ℕ) → n ≢ me → later.server n ≡ world.server n

opened : (me : ℕ) (world : World) → IsAnew me world (after world (Opens me))
opened me world = record {
  members = refl;
  memory = ap (λ (s : RaftServer). s.memory) here;
  stores = λ n. elim (eqb_tells n me) [
    | inl z ↦ subst (λ (m : ℕ). ((after world (Opens me)).server m).store ≡ (world.server m).store) (sym z.1) (ap (λ (s : RaftServer). s.store) here)
    | inr z ↦ ap (λ (s : RaftServer). s.store) (at_other world.server me n (record { store = (world.server me).store; memory = memory_when_opened }) z.1)
  ];
  others = λ n other. at_other world.server me n (record { store = (world.server me).store; memory = memory_when_opened }) other;
}
  where
    here : (after world (Opens me)).server me ≡ record { store = (world.server me).store; memory = memory_when_opened }
    here = at_here world.server me me (record { store = (world.server me).store; memory = memory_when_opened }) refl

stopped_store : (me : ℕ) (world : World) (n : ℕ) → ((after world (Stops me (world.steps + 1) [])).server n).store ≡ (world.server n).store
stopped_store me world n = elim (eqb_tells n me) [
  | inl z ↦ subst (λ (m : ℕ). ((after world (Stops me (world.steps + 1) [])).server m).store ≡ (world.server m).store) (sym z.1)
      (ap (λ (s : RaftServer). s.store) (at_here world.server me me _ refl))
  | inr z ↦ ap (λ (s : RaftServer). s.store) (at_other world.server me n _ z.1)
]

pub opens_anew : (me : ℕ) (world : World) → In me world.members → CanCome world (IsAnew me world)
opens_anew me world listed = elim (tell (world.server me).memory.up) [
  | inr down ↦ behind world (IsAnew me world) (Opens me) (listed, down) (at_once (after world (Opens me)) (IsAnew me world) (opened me world))
  | inl up ↦ behind world (IsAnew me world) (Stops me (world.steps + 1) []) (up, tt)
      (behind stopped (IsAnew me world) (Opens me) (listed, ap (λ (s : RaftServer). s.memory.up) (at_here world.server me me _ refl))
      (at_once (after stopped (Opens me)) (IsAnew me world) (record {
        members = refl;
        memory = (opened me stopped).memory;
        stores = λ n. (opened me stopped).stores n ∙ stopped_store me world n;
        others = λ n other. (opened me stopped).others n other ∙ at_other world.server me n _ other;
      })))
]
  where
    stopped : World
    stopped = after world (Stops me (world.steps + 1) [])

pub record AreAnew (group : List ℕ) (world later : World) : Type 0 where
  pub members : later.members ≡ world.members
  pub memory : (n : ℕ) → In n group → (later.server n).memory ≡ memory_when_opened
  pub stores : (n : ℕ) → (later.server n).store ≡ (world.server n).store

pub open_anew : (group : List ℕ) (world : World) → HasNoneTwice group → ((n : ℕ) → In n group → In n world.members) → CanCome world (AreAnew group world)
open_anew [] world once listed = at_once world (AreAnew [] world) (record { members = refl; memory = λ n i. absurd i; stores = λ n. refl })
open_anew (x ∷ xs) world once listed =
    after_that (AreAnew xs world) (AreAnew (x ∷ xs) world) world (open_anew xs world once.1 (λ n i. listed n (inr i)))
    (λ later a. so (IsAnew x later) (AreAnew (x ∷ xs) world) later
    (opens_anew x later (subst (λ (l : List ℕ). In x l) (sym a.members) (listed x (inl refl))))
    (λ last b. record {
      members = b.members ∙ a.members;
      memory = λ n i. elim i [
        | inl e ↦ subst (λ (m : ℕ). (last.server m).memory ≡ memory_when_opened) (sym e) b.memory
        | inr j ↦ ap (λ (s : RaftServer). s.memory) (b.others n (λ e. once.0 (subst (λ (m : ℕ). In m xs) e j))) ∙ a.memory n j
      ];
      stores = λ n. b.stores n ∙ a.stores n;
    }))

-- ---- the newest log, and the greatest term

abbrev pub IsNotAbove : World → ℕ → ℕ → Type 0
IsNotAbove world n me = NotAbove (last_term (world.server n).store.log) (length (world.server n).store.log)
    (last_term (world.server me).store.log) (length (world.server me).store.log)

total : (a i b j : ℕ) → NotAbove a i b j ⊎ NotAbove b j a i
total a i b j = elim (lt_tells a b) [
  | inl z ↦ inl (inl z.1)
  | inr z ↦ elim (lt_tells b a) [
    | inl y ↦ inr (inl y.1)
    | inr y ↦ elim (lt_tells i j) [ inl x ↦ inl (inr (omega (arith, z.1, y.1), omega (arith, x.1))) | inr x ↦ inr (inr (omega (arith, z.1, y.1), x.1)) ]
  ]
]

trans : (a i b j c k : ℕ) → NotAbove a i b j → NotAbove b j c k → NotAbove a i c k
trans a i b j c k (inl x) (inl y) = inl (omega (arith, x, y))
trans a i b j c k (inl x) (inr y) = inl (omega (arith, x, y.0))
trans a i b j c k (inr x) (inl y) = inl (omega (arith, x.0, y))
trans a i b j c k (inr x) (inr y) = inr (x.0 ∙ y.0, omega (arith, x.1, y.1))

pub record IsNewest (world : World) (group : List ℕ) (me : ℕ) : Type 0 where
  pub member : In me group
  pub newer : (n : ℕ) → In n group → IsNotAbove world n me

pub newest : (world : World) (x : ℕ) (xs : List ℕ) → (me : ℕ) × IsNewest world (x ∷ xs) me
newest world x [] = (x, record { member = inl refl; newer = λ n i. elim i [ inl e ↦ subst (λ (m : ℕ). IsNotAbove world m x) (sym e) (inr (refl, omega arith)) | inr j ↦ absurd j ] })
newest world x (y ∷ ys) = choose (newest world y ys)
  where
    choose : (me : ℕ) × IsNewest world (y ∷ ys) me → (me : ℕ) × IsNewest world (x ∷ y ∷ ys) me
    choose best = elim (total (last_term (world.server x).store.log) (length (world.server x).store.log)
        (last_term (world.server best.0).store.log) (length (world.server best.0).store.log)) [
          | inl h ↦ (
            best.0,
            record {
              member = inr best.1.member;
              newer = λ n i. elim i [
                | inl e ↦ subst (λ (m : ℕ). IsNotAbove world m best.0) (sym e) h
                | inr j ↦ best.1.newer n j
              ];
            },
          )
          | inr h ↦ (
            x,
            record {
              member = inl refl;
              newer = λ n i. elim i [
                | inl e ↦ subst (λ (m : ℕ). IsNotAbove world m x) (sym e) (inr (refl, omega arith))
                | inr j ↦ trans (last_term (world.server n).store.log) (length (world.server n).store.log)
                    (last_term (world.server best.0).store.log) (length (world.server best.0).store.log)
                    (last_term (world.server x).store.log) (length (world.server x).store.log) (best.1.newer n j) h
              ];
            },
          )
        ]

-- a term that none of the group is above, and below the last
pub record IsTop (world : World) (group : List ℕ) (top : ℕ) : Type 0 where
  pub above : (n : ℕ) → In n group → (world.server n).store.term ≤ top
  pub low : top < term_limit

pub greatest_term : (world : World) (group : List ℕ) → ((n : ℕ) → In n group → (world.server n).store.term < term_limit) → (top : ℕ) × IsTop world group top
greatest_term world [] low = (0, record { above = λ n i. absurd i; low = omega arith })
greatest_term world (x ∷ xs) low = choose (greatest_term world xs (λ n i. low n (inr i)))
  where
    choose : (top : ℕ) × IsTop world xs top → (top : ℕ) × IsTop world (x ∷ xs) top
    choose best = elim (lt_tells best.0 (world.server x).store.term) [
      | inl z ↦ (
        (world.server x).store.term,
        record {
          above = λ n i. elim i [
            | inl e ↦ subst (λ (m : ℕ). (world.server m).store.term ≤ (world.server x).store.term) (sym e) (omega arith)
            | inr j ↦ let h : (world.server n).store.term ≤ best.0 = best.1.above n j in omega (arith, h, z.1)
          ];
          low = low x (inl refl);
        },
      )
      | inr z ↦ (
        best.0,
        record {
          above = λ n i. elim i [
            | inl e ↦ subst (λ (m : ℕ). (world.server m).store.term ≤ best.0) (sym e) z.1
            | inr j ↦ best.1.above n j
          ];
          low = best.1.low;
        },
      )
    ]

-- ---- it stands

-- what a member has stored that stood
abbrev pub stood : ℕ → Store → Store
stood me store = put_all store (stand_puts me store)

pub record HasStood (me : ℕ) (world later : World) : Type 0 where
  pub members : later.members ≡ world.members
  pub others : (n : ℕ) → n ≢ me → later.server n ≡ world.server n
  pub up : (later.server me).memory.up ≡ true
  pub role : (later.server me).memory.role ≡ Candidate
  pub log : (later.server me).store.log ≡ (world.server me).store.log
  pub commit : (later.server me).store.commit ≡ (world.server me).store.commit
  pub votes : (later.server me).memory.votes ≡ own_vote me
  pub pending : (later.server me).memory.pending ≡ (λ peer. None)

may_stand : (me : ℕ) (world : World) → (world.server me).memory.up ≡ true → (world.server me).memory.role ≢ Leader
    → (world.server me).store.term < term_limit → Does world me (world.steps + 1) TimeOut [] (world.server me)
may_stand me world up role low = record { is = refl; up = up; later = omega arith; comes = (role, low); inside = λ message i. absurd i }

stands_once : (members : List ℕ) (me step : ℕ) (server : RaftServer) → has_quorum members (own_vote me) ≡ false
    → ((server_after members me step server TimeOut).memory.up ≡ server.memory.up)
    × ((server_after members me step server TimeOut).memory.role ≡ Candidate)
    × ((server_after members me step server TimeOut).store ≡ stood me server.store)
    × ((server_after members me step server TimeOut).memory.votes ≡ own_vote me)
    × ((server_after members me step server TimeOut).memory.pending ≡ (λ peer. None))
stands_once members me step server q = rw (q) (refl, refl, refl, refl, refl)

-- once
module _ (me : ℕ) (world : World) (up : (world.server me).memory.up ≡ true) (role : (world.server me).memory.role ≢ Leader)
    (low : (world.server me).store.term < term_limit) (q : has_quorum world.members (own_vote me) ≡ false) where
  abbrev pub next : World
  next = does world me (world.steps + 1) TimeOut []

  mine : next.server me ≡ server_after world.members me (world.steps + 1) (world.server me) TimeOut
  mine = its_server world me (world.steps + 1) TimeOut [] (world.server me) refl

  pub once_stood : HasStood me world next × ((next.server me).store.term ≡ (world.server me).store.term + 1)
  once_stood = (
    record {
      members = refl;
      others = λ n other. other_server world me (world.steps + 1) TimeOut [] n other;
      up = ap (λ (s : RaftServer). s.memory.up) mine ∙ (leaves.0 ∙ up);
      role = ap (λ (s : RaftServer). s.memory.role) mine ∙ leaves.1;
      log = ap (λ (s : RaftServer). s.store.log) mine ∙ ap (λ (s : Store). s.log) leaves.2;
      commit = ap (λ (s : RaftServer). s.store.commit) mine ∙ ap (λ (s : Store). s.commit) leaves.2;
      votes = ap (λ (s : RaftServer). s.memory.votes) mine ∙ leaves.3;
      pending = ap (λ (s : RaftServer). s.memory.pending) mine ∙ leaves.4;
    },
    ap (λ (s : RaftServer). s.store.term) mine ∙ ap (λ (s : Store). s.term) leaves.2,
  )
    where
      leaves : ((server_after world.members me (world.steps + 1) (world.server me) TimeOut).memory.up ≡ (world.server me).memory.up)
          × ((server_after world.members me (world.steps + 1) (world.server me) TimeOut).memory.role ≡ Candidate)
          × ((server_after world.members me (world.steps + 1) (world.server me) TimeOut).store ≡ stood me (world.server me).store)
          × ((server_after world.members me (world.steps + 1) (world.server me) TimeOut).memory.votes ≡ own_vote me)
          × ((server_after world.members me (world.steps + 1) (world.server me) TimeOut).memory.pending ≡ (λ peer. None))
      leaves = stands_once world.members me (world.steps + 1) (world.server me) q

  pub stand_once : (Holds : World → Type 0) → CanCome next Holds → CanCome world Holds
  stand_once Holds c = doing world Holds me (world.steps + 1) TimeOut [] (world.server me) (may_stand me world up role low) c

candidates_do_not_lead : (role : Role) → role ≡ Candidate → role ≢ Leader
candidates_do_not_lead role e f = absurd (cc (e, f))

both_stood : (me : ℕ) (world later last : World) → HasStood me world later → HasStood me later last → HasStood me world last
both_stood me world later last a b = record {
  members = b.members ∙ a.members;
  others = λ n other. b.others n other ∙ a.others n other;
  up = b.up;
  role = b.role;
  log = b.log ∙ a.log;
  commit = b.commit ∙ a.commit;
  votes = b.votes;
  pending = b.pending;
}

pub stands_up_to : (d me : ℕ) (world : World) (top : ℕ) → (world.server me).memory.up ≡ true → (world.server me).memory.role ≢ Leader
    → (world.server me).store.term + suc d ≡ top → top ≤ term_limit → has_quorum world.members (own_vote me) ≡ false
    → CanCome world (λ later. HasStood me world later × ((later.server me).store.term ≡ top))
stands_up_to zero me world top up role to limit q =
    let low : (world.server me).store.term < term_limit = omega (arith, to, limit) in
    let s = once_stood me world up role low q in
    stand_once me world up role low q (λ later. HasStood me world later × ((later.server me).store.term ≡ top))
    (at_once (next me world up role low q) (λ later. HasStood me world later × ((later.server me).store.term ≡ top)) (s.0, omega (arith, s.1, to)))
stands_up_to (suc d) me world top up role to limit q =
    let low : (world.server me).store.term < term_limit = omega (arith, to, limit) in
    let s = once_stood me world up role low q in
    stand_once me world up role low q (λ later. HasStood me world later × ((later.server me).store.term ≡ top))
    (so (λ later. HasStood me (next me world up role low q) later × ((later.server me).store.term ≡ top))
    (λ later. HasStood me world later × ((later.server me).store.term ≡ top)) (next me world up role low q)
    (stands_up_to d me (next me world up role low q) top s.0.up (candidates_do_not_lead ((next me world up role low q).server me).memory.role s.0.role)
    (omega (arith, s.1, to)) limit q)
    (λ later h. (both_stood me world (next me world up role low q) later s.0 h.0, h.1)))

-- ---- one that is a quorum alone leads at once

pub record LeadsAlone (me : ℕ) (world later : World) : Type 0 where
  pub members : later.members ≡ world.members
  pub others : (n : ℕ) → n ≢ me → later.server n ≡ world.server n
  pub up : (later.server me).memory.up ≡ true
  pub role : (later.server me).memory.role ≡ Leader
  pub store : (later.server me).store ≡ stood me (world.server me).store
  pub pending : (later.server me).memory.pending ≡ (λ peer. None)

leads_once : (members : List ℕ) (me step : ℕ) (server : RaftServer) → has_quorum members (own_vote me) ≡ true
    → ((server_after members me step server TimeOut).memory.up ≡ server.memory.up)
    × ((server_after members me step server TimeOut).memory.role ≡ Leader)
    × ((server_after members me step server TimeOut).store ≡ stood me server.store)
    × ((server_after members me step server TimeOut).memory.pending ≡ (λ peer. None))
leads_once members me step server q = rw (q) (refl, refl, refl, refl)

pub leads_alone : (me : ℕ) (world : World) → (world.server me).memory.up ≡ true → (world.server me).memory.role ≢ Leader
    → (world.server me).store.term < term_limit → has_quorum world.members (own_vote me) ≡ true → CanCome world (LeadsAlone me world)
leads_alone me world up role low q =
    doing world (LeadsAlone me world) me (world.steps + 1) TimeOut [] (world.server me) (may_stand me world up role low)
    (at_once later (LeadsAlone me world) (record {
      members = refl;
      others = λ n other. other_server world me (world.steps + 1) TimeOut [] n other;
      up = ap (λ (s : RaftServer). s.memory.up) its ∙ (leaves.0 ∙ up);
      role = ap (λ (s : RaftServer). s.memory.role) its ∙ leaves.1;
      store = ap (λ (s : RaftServer). s.store) its ∙ leaves.2;
      pending = ap (λ (s : RaftServer). s.memory.pending) its ∙ leaves.3;
    }))
  where
    later : World
    later = does world me (world.steps + 1) TimeOut []

    its : later.server me ≡ server_after world.members me (world.steps + 1) (world.server me) TimeOut
    its = its_server world me (world.steps + 1) TimeOut [] (world.server me) refl

    leaves : ((server_after world.members me (world.steps + 1) (world.server me) TimeOut).memory.up ≡ (world.server me).memory.up)
        × ((server_after world.members me (world.steps + 1) (world.server me) TimeOut).memory.role ≡ Leader)
        × ((server_after world.members me (world.steps + 1) (world.server me) TimeOut).store ≡ stood me (world.server me).store)
        × ((server_after world.members me (world.steps + 1) (world.server me) TimeOut).memory.pending ≡ (λ peer. None))
    leaves = leads_once world.members me (world.steps + 1) (world.server me) q
