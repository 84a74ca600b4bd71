-- The phases of a step are moves that may come, and do what is owed.
use Rattle.std.proofs.Common.{◌≡◌, ◌≢◌, ℕ, ◌-◌, ◌<◌, ◌≤◌, Bool, true, false, List, [], ◌∷◌, length, refl, arith, ap, inl, inr, Option, Some, None, get_or}
use Rattle.std.specs.Prelude.{if◌then◌else◌, ◌&&◌, ◌==◌, ◌↔◌, not, nat_le, nat_lt}
use Rattle.std.specs.Str.{bytes_eq}
use Rattle.std.proofs.lemmas.Slice.Eq.{bytes_eq-Decides}
use Rattle.can_frame.specs.declared.entry.Entry.{Entry}
use Rattle.can_frame.specs.Log.{IsInjective, blank, last_term, log_limit}
use Rattle.can_frame.specs.Zeros.{zeros}
use Rattle.raft_model.specs.Lists.{how_many}
use Rattle.raft_model.specs.Log.{IsRising, term_at}
use Rattle.raft_model.specs.Messages.{Message}
use Rattle.raft_model.specs.Server.{Role, RaftServer, quorum}
use Rattle.raft_model.specs.Server.Role.{Follower, Candidate, Leader}
use Rattle.raft_model.specs.Moves.{Move, IsEnabled, CanCommit, MayPropose, has_quorum, own_vote, counts, votes_with, has_matched, is_leader, term_limit}
use Rattle.raft_model.specs.Moves.Move.{TimeOut, TakeVoteRequest, TakeVoteAnswer, TakeAppendRequest, TakeAppendAnswer, TellPair}
use Rattle.raft_model.specs.Moves.Verdict.{Outdated, Refused, Held, Added}
use Rattle.raft_model.specs.Stops.{LocalState, AllEnabled}
use Rattle.raft_model.specs.Decisions.{commit_index}
use Rattle.raft_model.specs.Handlers.{server_after, server_after_all, offers_of_all}
use Rattle.raft_model.specs.Duty.{tick_phase, takes_blank, blank_moves, is_heard, commit_moves, commit_phase, tell_phase, TickDuty, BlankDuty, CommitDuty, TellDuty, WinDuty}
use Rattle.raft_model.proofs.Complete.{and_left, and_right}
use Rattle.raft_model.proofs.Decisions.{commit, no_commit, refuted}
use Rattle.raft_model.proofs.Leading.{leader_is}
use Rattle.raft_model.proofs.Lists.{term_at_less}
use Rattle.raft_model.proofs.Quorum.{tell}
use Rattle.raft_model.proofs.Stored.{below_last, inj_blank}
use Rattle.raft_model.proofs.Whole.{at_most, below, lt_tells, le_tells}

-- Ticks.

no_leader : (role : Role) → not (is_leader role) ≡ true → role ≢ Leader
no_leader Follower h e = cc
no_leader Candidate h e = cc
no_leader Leader h e = cc

is_not_leader : (role : Role) → role ≢ Leader → is_leader role ≡ false
is_not_leader Follower n = refl
is_not_leader Candidate n = refl
is_not_leader Leader n = absurd (n refl)

is_below : (a b : ℕ) → a < b → nat_lt a b ≡ true
is_below a b low = elim (lt_tells a b) [ inl z ↦ z.0 | inr z ↦ absurd (omega (arith, z.1, low)) ]

is_not_below : (a b : ℕ) → b ≤ a → nat_lt a b ≡ false
is_not_below a b high = elim (lt_tells a b) [ inl z ↦ absurd (omega (arith, z.1, high)) | inr z ↦ z.0 ]

pub tick_comes : (members : List ℕ) (member step : ℕ) (bag : List Message) (waited : Bool) (local_state : LocalState)
    → AllEnabled members member step bag local_state (tick_phase waited local_state.raft_server)
tick_comes members member step bag false local_state = tt
tick_comes members member step bag true local_state = elim (tell (not (is_leader local_state.raft_server.memory.role) && nat_lt local_state.raft_server.store.term term_limit)) [
  | inl h ↦ rw (h) ((no_leader local_state.raft_server.memory.role (and_left _ _ h), below _ _ (and_right _ _ h)), tt)
  | inr h ↦ rw (h) tt
]

time_out : (members : List ℕ) (member step : ℕ) (server : RaftServer) → TickDuty server (server_after members member step server TimeOut)
time_out members member step server = elim (tell (has_quorum members (own_vote member)))
    [ inl h ↦ rw (h) (record { stands = λ e. cc; next = refl }) | inr h ↦ rw (h) (record { stands = λ e. cc; next = refl }) ]

pub tick_duty : (members : List ℕ) (member step : ℕ) (server : RaftServer) → server.memory.role ≢ Leader → server.store.term < term_limit
    → TickDuty server (server_after_all members member step server (tick_phase true server))
tick_duty members member step server role low = elim (lt_tells server.store.term term_limit) [
  | inl z ↦ rw (is_not_leader server.memory.role role) (rw (z.0) (time_out members member step server))
  | inr z ↦ absurd (omega (arith, z.1, low))
]

-- Blanks.

pub blank_comes : (members : List ℕ) (member step : ℕ) (bag : List Message) (local_state : LocalState)
    → IsInjective local_state.raft_server.store.log
    → AllEnabled members member step bag local_state (blank_moves local_state.raft_server)
blank_comes members member step bag local_state injective = elim (tell (is_leader local_state.raft_server.memory.role && takes_blank local_state.raft_server.store)) [
  | inr h ↦ rw (h) tt
  | inl h ↦ rw (h) (may (and_left _ _ h) (and_right _ _ (and_right _ _ h)), tt)
]
  where
    log : List Entry
    log = local_state.raft_server.store.log

    may : is_leader local_state.raft_server.memory.role ≡ true → nat_lt (length log) log_limit ≡ true
        → MayPropose local_state.raft_server (blank local_state.raft_server.store.term)
    may leads room = record {
      leads = leader_is local_state.raft_server.memory.role leads;
      room = below (length log) log_limit room;
      own_term = refl;
      kind = inl (refl, refl);
      injective = inj_blank log local_state.raft_server.store.term injective;
    }

pub blank_duty : (members : List ℕ) (member step : ℕ) (server : RaftServer)
    → BlankDuty server (server_after_all members member step server (blank_moves server))
    (offers_of_all members member step server (blank_moves server))
blank_duty members member step server = record {
  adds = λ leads more room. rw (ap is_leader leads) (rw (is_below _ _ more) (rw (is_below _ _ room) refl));
  committed = λ all. elim (tell (is_leader server.memory.role)) [
    | inl h ↦ rw (h) (rw (is_not_below _ _ all) refl)
    | inr h ↦ rw (h) refl
  ];
  full = λ all. rw (is_not_below (length server.store.log) log_limit all) (elim (tell (is_leader server.memory.role)) [
    | inr h ↦ rw (h) refl
    | inl h ↦ rw (h) (elim (tell (nat_lt server.store.commit (length server.store.log))) [ inl k ↦ rw (k) refl | inr k ↦ rw (k) refl ])
  ]);
  other = λ n. rw (is_not_leader server.memory.role n) refl;
  silent = elim (tell (is_leader server.memory.role && takes_blank server.store)) [ inl h ↦ rw (h) refl | inr h ↦ rw (h) refl ];
}

pub heard_tells : (members : List ℕ) (member : ℕ) (server : RaftServer) → (is_heard members member server ≡ true)
    ↔ ((last_term server.store.log < server.store.term)
    × (quorum members ≤ how_many (has_matched member server (length server.store.log)) members))
heard_tells members member server = (
  λ h. (below _ _ (and_left _ _ h), at_most _ _ (and_right (nat_lt (last_term server.store.log) server.store.term) _ h)),
  λ h. rw (is_below _ _ h.0) (is_at_most _ _ h.1),
)
  where
    is_at_most : (a b : ℕ) → a ≤ b → nat_le a b ≡ true
    is_at_most a b low = elim (le_tells a b) [ inl z ↦ z.0 | inr z ↦ absurd (omega (arith, z.1, low)) ]

-- no place has a later term than the last, and the last is of an earlier term than the server's
pub heard_waits : (members : List ℕ) (member : ℕ) (server : RaftServer) (index : ℕ) → IsRising server.store.log server.store.term
    → is_heard members member server ≡ true → CanCommit members member server index → ⊥
heard_waits members member server index rising heard can =
    let low : last_term server.store.log < server.store.term = ((heard_tells members member server).0 heard).0 in
    let here : term_at server.store.log index ≡ (get_or server.store.log (index - 1) (blank 0)).term
    = term_at_less server.store.log index (omega (arith, can.above)) in
    let most : (get_or server.store.log (index - 1) (blank 0)).term ≤ last_term server.store.log
    = below_last server.store.log server.store.term (index - 1) rising (omega (arith, can.above, can.inside)) in
    omega (arith, low, here, most, can.own_term)

-- Commits.

pub commit_comes : (members : List ℕ) (member step : ℕ) (bag : List Message) (local_state : LocalState)
    → AllEnabled members member step bag local_state (commit_phase members member local_state.raft_server)
commit_comes members member step bag local_state = elim (tell (is_leader local_state.raft_server.memory.role)) [
  | inr h ↦ rw (h) tt
  | inl h ↦ rw (h) (go (commit_index members member local_state.raft_server) refl (leader_is local_state.raft_server.memory.role h))
]
  where
    go : (found : Option ℕ) → commit_index members member local_state.raft_server ≡ found → local_state.raft_server.memory.role ≡ Leader
        → AllEnabled members member step bag local_state (commit_moves found)
    go None e leads = tt
    go (Some index) e leads = ((leads, commit members member local_state.raft_server index e), tt)

pub commit_duty : (members : List ℕ) (member step : ℕ) (server : RaftServer) → server.memory.role ≡ Leader
    → CommitDuty members member server (server_after_all members member step server (commit_phase members member server))
commit_duty members member step server leads = rw (ap is_leader leads) (go (commit_index members member server) refl)
  where
    go : (found : Option ℕ) → commit_index members member server ≡ found
        → CommitDuty members member server (server_after_all members member step server (commit_moves found))
    go None e = record { greatest = λ index can. absurd (no_commit members member server e index can); only = inl refl }
    go (Some index) e = let is = commit members member server index e in record { greatest = is.greatest; only = inr is.can }

-- Pairs.

pub tell_comes : (members : List ℕ) (member step : ℕ) (bag : List Message) (room : Bool) (local_state : LocalState)
    → AllEnabled members member step bag local_state (tell_phase room local_state.raft_server)
tell_comes members member step bag room local_state = elim (lt_tells local_state.raft_server.memory.told local_state.raft_server.store.commit) [
  | inr z ↦ rw (z.0) (elim (tell (is_leader local_state.raft_server.memory.role)) [ inl h ↦ rw (h) tt | inr h ↦ rw (h) tt ])
  | inl z ↦ rw (z.0) (elim (tell (is_leader local_state.raft_server.memory.role)) [
    | inr h ↦ rw (h) tt
    | inl h ↦ rw (h) (elim (tell (bytes_eq (get_or local_state.raft_server.store.log local_state.raft_server.memory.told (blank 0)).uid zeros)) [
      | inl b ↦
          rw (b) (
            (
              leader_is local_state.raft_server.memory.role h,
              z.1,
              (bytes_eq-Decides (get_or local_state.raft_server.store.log local_state.raft_server.memory.told (blank 0)).uid zeros).0 b,
            ),
            tt,
          )
      | inr b ↦
          rw (b)
          (go room (leader_is local_state.raft_server.memory.role h) z.1
          (refuted (bytes_eq-Decides (get_or local_state.raft_server.store.log local_state.raft_server.memory.told (blank 0)).uid zeros) b))
    ])
  ])
]
  where
    go : (fits : Bool) → local_state.raft_server.memory.role ≡ Leader → local_state.raft_server.memory.told < local_state.raft_server.store.commit
        → (get_or local_state.raft_server.store.log local_state.raft_server.memory.told (blank 0)).uid ≢ zeros →
        AllEnabled members member step bag local_state (if fits then TellPair ∷ [] else [])
    go true leads below uid = ((leads, below, uid), tt)
    go false leads below uid = tt

pub tell_duty : (members : List ℕ) (member step : ℕ) (room : Bool) (server : RaftServer) → server.memory.role ≡ Leader →
    TellDuty member step room server (server_after_all members member step server (tell_phase room server))
    (offers_of_all members member step server (tell_phase room server))
tell_duty members member step room server leads = rw (ap is_leader leads) (elim (lt_tells server.memory.told server.store.commit) [
  | inr z ↦
      rw (z.0)
      (record {
        passed = λ b u. absurd (omega (arith, b, z.1));
        told = λ b u r. absurd (omega (arith, b, z.1));
        no_room = λ b u r. absurd (omega (arith, b, z.1));
        nothing = λ b. (refl, refl);
      })
  | inl z ↦ rw (z.0) (elim (tell (bytes_eq (get_or server.store.log server.memory.told (blank 0)).uid zeros)) [
    | inl b ↦ rw (b) (record {
      passed = λ below u. (refl, refl);
      told = λ below u r. absurd (u ((bytes_eq-Decides (get_or server.store.log server.memory.told (blank 0)).uid zeros).0 b));
      no_room = λ below u r. absurd (u ((bytes_eq-Decides (get_or server.store.log server.memory.told (blank 0)).uid zeros).0 b));
      nothing = λ b2. absurd (omega (arith, b2, z.1));
    })
    | inr b ↦ rw (b) (go room z.1 (refuted (bytes_eq-Decides (get_or server.store.log server.memory.told (blank 0)).uid zeros) b))
  ])
])
  where
    go : (fits : Bool) → server.memory.told < server.store.commit
        → ((get_or server.store.log server.memory.told (blank 0)).uid ≡ zeros → ⊥) →
        TellDuty member step fits server (server_after_all members member step server (if fits then TellPair ∷ [] else []))
        (offers_of_all members member step server (if fits then TellPair ∷ [] else []))
    go true below n = record {
      passed = λ b u. absurd (n u);
      told = λ b u r. (refl, refl);
      no_room = λ b u r. absurd (cc);
      nothing = λ b. absurd (omega (arith, b, below));
    }
    go false below n = record {
      passed = λ b u. absurd (n u);
      told = λ b u r. absurd (cc);
      no_room = λ b u r. (refl, refl);
      nothing = λ b. absurd (omega (arith, b, below));
    }

-- A full log.

pub full_duty : (server : RaftServer) (entry : Entry) → length server.store.log ≡ log_limit → MayPropose server entry → ⊥
full_duty server entry full may = omega (arith, full, may.room)

-- Quorums.

pub win_duty : (members : List ℕ) (member step : ℕ) (bag : List Message) (called : List ℕ) (server : RaftServer) (move : Move)
    → IsEnabled members member bag called server move → WinDuty members server → WinDuty members (server_after members member step server move)
win_duty members member step bag called server TimeOut comes h = elim (tell (has_quorum members (own_vote member)))
    [ inl q ↦ rw (q) (λ e. absurd (cc)) | inr q ↦ rw (q) (λ e. q) ]
win_duty members member step bag called server (TakeVoteRequest request granted) comes h = elim (lt_tells server.store.term request.term)
    [ inl z ↦ rw (z.0) (λ e. absurd (cc)) | inr z ↦ rw (z.0) h ]
win_duty members member step bag called server (TakeVoteAnswer answer) comes h = elim (lt_tells server.store.term answer.term) [
  | inl z ↦ rw (z.0) (λ e. absurd (cc))
  | inr z ↦ rw (z.0) (elim (tell (counts server answer)) [
    | inl k ↦
        rw (k)
        (elim (tell (has_quorum members (votes_with server.memory answer)))
        [ inl q ↦ rw (q) (λ e. absurd (cc)) | inr q ↦ rw (q) (λ e. q) ])
    | inr k ↦ rw (k) h
  ])
]
win_duty members member step bag called server (TakeAppendRequest request Outdated) comes h = h
win_duty members member step bag called server (TakeAppendRequest request Refused) comes h = λ e. absurd (cc)
win_duty members member step bag called server (TakeAppendRequest request Held) comes h = λ e. absurd (cc)
win_duty members member step bag called server (TakeAppendRequest request (Added entry)) comes h = λ e. absurd (cc)
win_duty members member step bag called server (TakeAppendAnswer answer) comes h = elim (lt_tells server.store.term answer.term) [
  | inl z ↦ rw (z.0) (λ e. absurd (cc))
  | inr z ↦
      rw (z.0) (elim (tell (is_leader server.memory.role && (answer.term == server.store.term))) [ inl k ↦ rw (k) h | inr k ↦ rw (k) h ])
]
win_duty members member step bag called server _ comes h = h
