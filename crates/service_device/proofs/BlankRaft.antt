-- A leader adds its blank as soon as it may: what moves of the Raft model leave of a server that has none to add, or
-- waits with it.
use Rattle.std.proofs.Common.{◌≡◌, ◌≢◌, ℕ, ◌<◌, ◌≤◌, Bool, true, false, List, [], ◌∷◌, length, refl, sym, ◌∙◌, ap, arith, inl, inr, Some}
use Rattle.std.specs.Prelude.{◌⊎◌, ◌&&◌, nat_eq, nat_le, nat_lt, not, if◌then◌else◌}
use Rattle.can_frame.specs.declared.entry.Entry.{Entry}
use Rattle.can_frame.specs.Log.{blank, last_term, log_limit}
use Rattle.raft_core.specs.Handled.{is_moment, with_blank}
use Rattle.raft_core.specs.Times.{Times}
use Rattle.raft_model.specs.Decisions.{can_commit, commit_index, verdict_on}
use Rattle.raft_model.specs.Duty.{is_heard, takes_blank}
use Rattle.raft_model.specs.Handlers.{server_after, server_after_all}
use Rattle.raft_model.specs.Messages.{Answer, Request}
use Rattle.raft_model.specs.Moves.{Move}
use Rattle.raft_model.specs.Moves.Appending.{IsJudged, IsOutdated, Verdict, acknowledges, matched_memory}
use Rattle.raft_model.specs.Moves.Appending.Verdict.{Added, Held, Outdated, Refused}
use Rattle.raft_model.specs.Moves.Elections.{counting_memory, counts, has_quorum, is_candidate, is_leader, memory_without_call, stepped_down}
use Rattle.raft_model.specs.Moves.Leading.{has_matched}
use Rattle.raft_model.specs.Moves.Move.{CommitTo, ProposeEntry, TakeAppendAnswer, TakeAppendRequest, TakeVoteAnswer, TakeVoteRequest, TimeOut}
use Rattle.raft_model.specs.Server.{Memory, RaftServer, Role}
use Rattle.raft_model.specs.Server.Role.{Candidate, Follower, Leader}
use Rattle.alloc_spec_laws.proofs.Choices.{and_left, either, lt_tells, lt_true}
use Rattle.service_steps.proofs.Alone.{last_entry}
use Rattle.service_leader.proofs.TermsRoles.{no_count}
use Rattle.service_device.proofs.AllocationsTold.{VerdictsAre}
use Rattle.service_device.proofs.SettledRaft.{EndsNoCall, IsStill, StaysThrough, ends_call, greatest_passes, stays_on}
use Rattle.service_device.proofs.SettlesOffice.{matched_as}

-- a leader has no blank to add: all is committed, or no room is left, or its last entry is of its own term
abbrev pub HasNoBlank : RaftServer → Type 0
HasNoBlank s = (length s.store.log ≤ s.store.commit) ⊎ ((log_limit ≤ length s.store.log) ⊎ (s.store.term ≤ last_term s.store.log))

-- who leads did not follow
no_follower : (role : Role) → role ≡ Leader → role ≢ Follower
no_follower role e f = cc (sym e ∙ f)

false_and : (a b : Bool) → a ≡ true → (a && b) ≡ false → b ≡ false
false_and true b e f = f
false_and false b e f = absurd (cc (e))

-- nothing to commit, or no room
takes_none : (commit size limit : ℕ) → (nat_lt commit size && nat_lt size limit) ≡ false → (size ≤ commit) ⊎ (limit ≤ size)
takes_none commit size limit e = elim (lt_tells commit size) [
  | inr z ↦ inl z.1
  | inl z ↦ elim (lt_tells size limit) [
    | inr y ↦ inr y.1
    | inl y ↦ absurd (cc (y.0, false_and (nat_lt commit size) (nat_lt size limit) z.0 e))
  ]
]

leads_again : (role : Role) → not (is_leader role) ≡ false → role ≡ Leader
leads_again Follower e = absurd (cc (e))
leads_again Candidate e = absurd (cc (e))
leads_again Leader e = refl

module _ (list : List ℕ) (me : ℕ) (waits knows : Bool) (judged : VerdictsAre) where
  -- no quorum of the list is known to have its log
  abbrev pub IsUnheard : RaftServer → Type 0
  IsUnheard s = has_quorum list (has_matched me s (length s.store.log)) ≡ false

  -- Who does not follow knows all members. Who leads has no blank to add, or it waits with it and is not heard yet.
  pub record IsDue (s : RaftServer) : Type 0 where
    pub counting : s.memory.role ≢ Follower → knows ≡ true
    pub fine : s.memory.role ≡ Leader → HasNoBlank s ⊎ ((waits ≡ true) × IsUnheard s)

  follows_then : (s : RaftServer) → s.memory.role ≡ Follower → IsDue s
  follows_then s e = record { counting = λ apart. absurd (apart e); fine = λ leads. absurd (cc (sym e ∙ leads)) }

  -- with the same term, log and commit
  as_it_was : (before now : RaftServer) → now.store.term ≡ before.store.term → now.store.log ≡ before.store.log → now.store.commit ≡ before.store.commit
      → HasNoBlank before → HasNoBlank now
  as_it_was before now term its_log commit h = elim h [
    | inl z ↦ inl (let l = ap (λ (l : List Entry). length l) its_log in omega (arith, z, l, commit))
    | inr y ↦ inr (elim y [
      | inl z ↦ inl (let l = ap (λ (l : List Entry). length l) its_log in omega (arith, z, l))
      | inr z ↦ inr (let l = ap (λ (l : List Entry). last_term l) its_log in omega (arith, z, l, term))
    ])
  ]

  module _ (members : List ℕ) (own number : ℕ) (s : RaftServer) where
    -- a leader's move that brings no higher term leaves it so
    module _ (move : Move) (leads : s.memory.role ≡ Leader) (is : IsStill s.store.term s move) where
      stays : StaysThrough s.store.term s (server_after members own number s move)
      stays = stays_on s.store.term members own number s move is (leads, refl)

      none_then : HasNoBlank s → HasNoBlank (server_after members own number s move)
      none_then h = as_it_was s (server_after members own number s move) stays.leads.1 stays.log_is stays.committed h

      leads_on : EndsNoCall move → IsDue s → IsDue (server_after members own number s move)
      leads_on quiet h = record {
        counting = λ apart. h.counting (no_follower s.memory.role leads);
        fine = λ then_. elim (h.fine leads) [
          | inl z ↦ inl (none_then z)
          | inr z ↦ inr (z.0, same ∙ z.1)
        ];
      }
        where
          same : has_quorum list (has_matched me (server_after members own number s move) (length (server_after members own number s move).store.log))
              ≡ has_quorum list (has_matched me s (length s.store.log))
          same = λ i. has_quorum list (λ peer. if nat_eq peer me then true else nat_le (length (stays.log_is i)) (matched_as members own number s move leads is quiet i peer))

    -- ---- requests

    -- a vote request
    pub due_vote_asked : (asked : Request) (granted : Bool) → IsDue s → IsDue (server_after members own number s (TakeVoteRequest asked granted))
    due_vote_asked asked granted h = elim (lt_tells s.store.term asked.term) [
      | inl z ↦ follows_then (server_after members own number s (TakeVoteRequest asked granted))
          (ap (λ (b : Bool). (if b then record s.memory { role = Follower } else s.memory).role) z.0)
      | inr z ↦ by z.1 (ap (λ (b : Bool). (if b then record s.memory { role = Follower } else s.memory).role) z.0)
    ]
      where
        by : asked.term ≤ s.store.term → (server_after members own number s (TakeVoteRequest asked granted)).memory.role ≡ s.memory.role
            → IsDue (server_after members own number s (TakeVoteRequest asked granted))
        by low same = record {
          counting = λ apart. h.counting (λ e. apart (same ∙ e));
          fine = λ leads. (leads_on (TakeVoteRequest asked granted) (sym same ∙ leads) low tt h).fine leads;
        }

    -- an append request
    pub due_append_asked : (asked : Request) → IsDue s → IsDue (server_after members own number s (TakeAppendRequest asked (verdict_on s asked)))
    due_append_asked asked h = by (verdict_on s asked) refl (judged s asked)
      where
        by : (v : Verdict) → verdict_on s asked ≡ v → IsJudged s asked v → IsDue (server_after members own number s (TakeAppendRequest asked v))
        by Outdated e is = record {
          counting = λ apart. h.counting apart;
          fine = λ leads. (leads_on (TakeAppendRequest asked Outdated) leads (low is, sym e) tt h).fine leads;
        }
          where
            low : IsOutdated s asked → asked.term ≤ s.store.term
            low (inl z) = omega (arith, z)
            low (inr z) = let t = z.0 in omega (arith, t)
        by Refused e is = follows_then (server_after members own number s (TakeAppendRequest asked Refused)) refl
        by Held e is = follows_then (server_after members own number s (TakeAppendRequest asked Held)) refl
        by (Added entry) e is = follows_then (server_after members own number s (TakeAppendRequest asked (Added entry))) refl

    -- ---- what is proposed, and what is committed

    pub due_proposed : (entry : Entry) → entry.term ≡ s.store.term → (s.memory.role ≢ Follower → knows ≡ true)
        → IsDue (server_after members own number s (ProposeEntry entry))
    due_proposed entry own_term counting = record {
      counting = counting;
      fine = λ leads. inl (inr (inr (let e = ap (λ (x : Entry). x.term) (last_entry s.store.log entry) in omega (arith, e, own_term))));
    }

    pub due_committed : (index : ℕ) → commit_index members own s ≡ Some index → IsDue s → IsDue (server_after members own number s (CommitTo index))
    due_committed index e h = record {
      counting = h.counting;
      fine = λ leads. elim (h.fine leads) [
        | inl z ↦ inl (elim z [
          | inl y ↦ inl (let r = rises in omega (arith, y, r))
          | inr y ↦ inr y
        ])
        | inr z ↦ inr z
      ];
    }
      where
        rises : s.store.commit < index
        rises = lt_true s.store.commit index (and_left (nat_lt s.store.commit index) _
            (greatest_passes (length s.store.log) (can_commit members own s) index e))

    -- ---- where a blank may come behind a move

    -- it is judged over the list whether its moment has come
    module _ (times : Times) (same_list : members ≡ list) (same_me : own ≡ me) (same_waits : times.waits ≡ waits) (move : Move)
        (counting : (server_after members own number s move).memory.role ≢ Follower → knows ≡ true)
        (leads_still : (server_after members own number s move).memory.role ≡ Leader → s.memory.role ≡ Leader
        → HasNoBlank s ⊎ ((waits ≡ true) × IsUnheard s) → HasNoBlank (server_after members own number s move) ⊎ (waits ≡ true)) (h : IsDue s) where
      abbrev then_ : RaftServer
      then_ = server_after members own number s move

      adds : is_moment members own times s then_ ≡ true → (is_leader then_.memory.role && takes_blank then_.store) ≡ true
          → IsDue (server_after members own number then_ (ProposeEntry (blank then_.store.term)))
      adds moment takes = record {
        counting = counting;
        fine = λ leads. inl (inr (inr (let e = ap (λ (x : Entry). x.term) (last_entry then_.store.log (blank then_.store.term)) in omega (arith, e))));
      }

      -- no moment has come
      unheard : (b : Bool) → waits ≡ b → (if b then is_heard members own then_ else not (is_leader s.memory.role)) ≡ false → then_.memory.role ≡ Leader
          → HasNoBlank then_ ⊎ ((waits ≡ true) × IsUnheard then_)
      unheard true w e leads = elim (lt_tells (last_term then_.store.log) then_.store.term) [
        | inl z ↦ inr (
          w,
          (λ i. has_quorum (sym same_list i) (has_matched (sym same_me i) then_ (length then_.store.log)))
              ∙ false_and (nat_lt (last_term then_.store.log) then_.store.term) (has_quorum members (has_matched own then_ (length then_.store.log))) z.0 e,
        )
        | inr z ↦ inl (inr (inr z.1))
      ]
      unheard false w e leads = let led = leads_again s.memory.role e in elim (leads_still leads led (h.fine led)) [
        | inl z ↦ inl z
        | inr z ↦ absurd (cc (sym w ∙ z))
      ]

      none : (is_moment members own times s then_ ≡ false) ⊎ ((is_leader then_.memory.role && takes_blank then_.store) ≡ false) → IsDue then_
      none why = record {
        counting = counting;
        fine = λ leads. elim why [
          | inl e ↦ unheard waits refl (ap (λ (b : Bool). if b then is_heard members own then_ else not (is_leader s.memory.role)) (sym same_waits) ∙ e) leads
          | inr e ↦ inl (elim (takes_none then_.store.commit (length then_.store.log) log_limit
              (false_and (is_leader then_.memory.role) (takes_blank then_.store) (ap is_leader leads) e)) [
                | inl z ↦ inl z
                | inr z ↦ inr (inl z)
              ])
        ];
      }

      pub due_with_blank : IsDue (server_after_all members own number s (with_blank members own number times s (move ∷ [])))
      due_with_blank = ends_call IsDue members own number times s move adds none

    -- a leader's answer leaves it so
    answered : (move : Move) → (s.memory.role ≡ Leader → IsStill s.store.term s move) → s.memory.role ≡ Leader
        → HasNoBlank s ⊎ ((waits ≡ true) × IsUnheard s) → HasNoBlank (server_after members own number s move) ⊎ (waits ≡ true)
    answered move is leads (inl z) = inl (none_then move leads (is leads) z)
    answered move is leads (inr z) = inr z.0

    module _ (times : Times) (same_list : members ≡ list) (same_me : own ≡ me) (same_waits : times.waits ≡ waits) (h : IsDue s) where
      abbrev Behind : Move → Type 0
      Behind move = IsDue (server_after_all members own number s (with_blank members own number times s (move ∷ [])))

      -- what an answer leaves, whether its term is higher or not
      abbrev appended : Answer → Bool → Memory
      appended got b = if b then stepped_down s.memory got.from
          else (if acknowledges s got then matched_memory s.memory got else memory_without_call s.memory got.from)

      abbrev voted : Answer → Bool → Memory
      voted got b = if b then stepped_down s.memory got.from
          else (if counts s got then counting_memory members s got else memory_without_call s.memory got.from)

      -- the answer to an append request
      pub due_append_answer : (got : Answer) → Behind (TakeAppendAnswer got)
      due_append_answer got = elim (lt_tells s.store.term got.term) [
        | inl z ↦ due_with_blank times same_list same_me same_waits (TakeAppendAnswer got) (λ apart. absurd (apart (down z.0)))
            (λ leads. absurd (cc (sym (down z.0) ∙ leads))) h
        | inr z ↦ due_with_blank times same_list same_me same_waits (TakeAppendAnswer got) (λ apart. h.counting (λ e. apart (same z.0 ∙ e)))
            (λ leads led. answered (TakeAppendAnswer got) (λ l. z.1) led) h
      ]
        where
          down : nat_lt s.store.term got.term ≡ true → (appended got (nat_lt s.store.term got.term)).role ≡ Follower
          down e = ap (λ (b : Bool). (appended got b).role) e

          same : nat_lt s.store.term got.term ≡ false → (appended got (nat_lt s.store.term got.term)).role ≡ s.memory.role
          same e = ap (λ (b : Bool). (appended got b).role) e
              ∙ either (λ (m : Memory). m.role ≡ s.memory.role) (acknowledges s got) (matched_memory s.memory got) (memory_without_call s.memory got.from) (λ f. refl) (λ f. refl)

      -- the answer to a vote request
      pub due_vote_answer : (got : Answer) → Behind (TakeVoteAnswer got)
      due_vote_answer got = elim (lt_tells s.store.term got.term) [
        | inl z ↦ due_with_blank times same_list same_me same_waits (TakeVoteAnswer got) (λ apart. absurd (apart (down z.0)))
            (λ leads. absurd (cc (sym (down z.0) ∙ leads))) h
        | inr z ↦ due_with_blank times same_list same_me same_waits (TakeVoteAnswer got) (λ apart. h.counting (λ e. apart (follows z.0 e)))
            (λ leads led. answered (TakeVoteAnswer got) (λ l. z.1) led) h
      ]
        where
          down : nat_lt s.store.term got.term ≡ true → (voted got (nat_lt s.store.term got.term)).role ≡ Follower
          down e = ap (λ (b : Bool). (voted got b).role) e

          follows : nat_lt s.store.term got.term ≡ false → s.memory.role ≡ Follower → (voted got (nat_lt s.store.term got.term)).role ≡ Follower
          follows e role = ap (λ (b : Bool). (voted got b).role) e
              ∙ (ap (λ (b : Bool). (if b then counting_memory members s got else memory_without_call s.memory got.from).role) (no_count s got (ap is_candidate role)) ∙ role)

      -- who stands for election did not lead, and knows all members
      pub due_stands : s.memory.role ≢ Leader → knows ≡ true → Behind TimeOut
      due_stands none all = due_with_blank times same_list same_me same_waits TimeOut (λ apart. all) (λ leads led. absurd (none led)) h
