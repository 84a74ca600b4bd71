-- A candidate polls its group, one member after another, until it leads.
use Rattle.std.proofs.Common.{◌≡◌, ◌≢◌, ℕ, ◌+◌, ◌<◌, ◌≤◌, Bool, true, List, [], ◌∷◌, length, ◌⊎◌, inl, inr, refl, sym, ◌∙◌, ap, subst, arith, Option, Some, None}
use Rattle.std.proofs.lemmas.Bool.Decides.{eqb_tells}
use Rattle.can_frame.specs.Log.{last_term}
use Rattle.raft_model.specs.Duty.{WinDuty}
use Rattle.raft_model.specs.Handlers.{server_after}
use Rattle.raft_model.specs.Lists.{In, at, at_here, at_other}
use Rattle.raft_model.specs.Log.{NotAbove}
use Rattle.raft_model.specs.Members.{HasNoneTwice}
use Rattle.raft_model.specs.Messages.{Answer, Request}
use Rattle.raft_model.specs.Messages.Message.{Answers, Requests}
use Rattle.raft_model.specs.Moves.Elections.{MayGrant, has_quorum, votes_with, with_term}
use Rattle.raft_model.specs.Moves.Leading.{answer_to, vote_request}
use Rattle.raft_model.specs.Moves.Move.{CallForVote, TakeVoteAnswer, TakeVoteRequest}
use Rattle.raft_model.specs.Runs.{InEveryRun, World}
use Rattle.raft_model.specs.Server.{RaftServer, Store, quorum}
use Rattle.raft_model.specs.Server.Role.{Candidate, Leader}
use Rattle.alloc_spec_laws.proofs.Choices.{lt_tells, tell}
use Rattle.service_steps.specs.Coming.{CanCome}
use Rattle.service_steps.specs.ComingBack.{IsLed, IsMajority}
use Rattle.service_steps.proofs.Coming.{Does, IsReached, and_then, at_once, does, doing, in_reached, its_server, other_server, so}
use Rattle.service_steps.proofs.Counting.{all_counted, is_quorum}

-- the candidate may poll the member
pub record MayPoll (world : World) (me you : ℕ) : Type 0 where
  pub other : you ≢ me
  pub listed : In you world.members
  pub my_up : (world.server me).memory.up ≡ true
  pub your_up : (world.server you).memory.up ≡ true
  pub stands : (world.server me).memory.role ≡ Candidate
  pub free : (world.server me).memory.pending you ≡ None
  pub lower : (world.server you).store.term < (world.server me).store.term
  pub newer : NotAbove (last_term (world.server you).store.log) (length (world.server you).store.log)
      (last_term (world.server me).store.log) (length (world.server me).store.log)

-- a grant is counted: the candidate still stands, with one vote more, or it has won
abbrev pub Outcome : ℕ → RaftServer → RaftServer → Type 0
Outcome you server later = (later.memory.up ≡ server.memory.up) × (
    ((later.memory.role ≡ Candidate) × (later.store ≡ server.store) × (later.memory.votes ≡ at server.memory.votes you true)
    × (later.memory.pending ≡ at server.memory.pending you None))
    ⊎ ((later.memory.role ≡ Leader) × (later.store ≡ server.store) × (later.memory.pending ≡ (λ peer. None))))

counted : (members : List ℕ) (me step : ℕ) (server : RaftServer) (answer : Answer) → server.memory.role ≡ Candidate
    → answer.term ≡ server.store.term → answer.success ≡ true → Outcome answer.from server (server_after members me step server (TakeVoteAnswer answer))
counted members me step server answer stands term success =
    rw (term) (
    elim (lt_tells server.store.term server.store.term) [
      | inl z ↦ absurd (omega (arith, z.1))
      | inr z ↦ elim (eqb_tells server.store.term server.store.term) [
        | inr y ↦ absurd (y.1 refl)
        | inl y ↦ rw (z.0) (rw (stands) (rw (y.0) (rw (success) (elim (tell (has_quorum members (votes_with server.memory answer))) [
          | inl q ↦ rw (q) (refl, inr (refl, refl, refl))
          | inr q ↦ rw (q) (refl, inl (refl, refl, refl, refl))
        ]))))
      ]
    ])

-- a member of a lower term takes the term and grants the vote
granted_term : (members : List ℕ) (you step : ℕ) (server : RaftServer) (request : Request) → server.store.term < request.term
    → ((with_term server.store request.term).term ≡ request.term)
    × ((server_after members you step server (TakeVoteRequest request true)).store.term ≡ request.term)
    × ((server_after members you step server (TakeVoteRequest request true)).memory.up ≡ server.memory.up)
granted_term members you step server request low = elim (lt_tells server.store.term request.term) [
  | inl z ↦ rw (z.0) (refl, refl, refl)
  | inr z ↦ absurd (omega (arith, z.1, low))
]

grants_it : (store : Store) (request : Request) → store.term < request.term
    → NotAbove (last_term store.log) (length store.log) request.previous_term request.previous → MayGrant (with_term store request.term) request
grants_it store request low newer = elim (lt_tells store.term request.term) [
  | inl z ↦ rw (z.0) (record { own_term = refl; free = inl refl; not_above = newer })
  | inr z ↦ absurd (omega (arith, z.1, low))
]

pub record HasPolled (me you : ℕ) (world later : World) : Type 0 where
  pub members : later.members ≡ world.members
  pub others : (n : ℕ) → n ≢ me → n ≢ you → later.server n ≡ world.server n
  pub your_up : (later.server you).memory.up ≡ true
  pub your_term : (later.server you).store.term ≡ (world.server me).store.term
  pub my_up : (later.server me).memory.up ≡ true
  pub outcome : ((((later.server me).memory.role ≡ Candidate) × ((later.server me).store ≡ (world.server me).store)
      × ((later.server me).memory.votes ≡ at (world.server me).memory.votes you true)
      × ((n : ℕ) → n ≢ you → (later.server me).memory.pending n ≡ (world.server me).memory.pending n)
      × ((later.server me).memory.pending you ≡ None)))
      ⊎ (((later.server me).memory.role ≡ Leader)
      × ((later.server me).store ≡ (world.server me).store) × ((n : ℕ) → (later.server me).memory.pending n ≡ None))

module _ (world : World) (me you : ℕ) (m : MayPoll world me you) where
  abbrev number : ℕ
  number = world.steps

  abbrev request : Request
  request = vote_request me (number + 1) (world.server me).store you

  abbrev answer : Answer
  answer = answer_to you (number + 2) (with_term (world.server you).store request.term) request true

  abbrev first : World
  first = does world me (number + 1) (CallForVote you) (Requests request ∷ [])

  abbrev second : World
  second = does first you (number + 2) (TakeVoteRequest request true) (Answers answer ∷ [])

  abbrev third : World
  third = does second me (number + 3) (TakeVoteAnswer answer) []

  abbrev called : RaftServer
  called = server_after world.members me (number + 1) (world.server me) (CallForVote you)

  first_does : Does world me (number + 1) (CallForVote you) (Requests request ∷ []) (world.server me)
  first_does = record {
    is = refl;
    up = m.my_up;
    later = omega arith;
    comes = (m.stands, record { other = m.other; listed = m.listed; free = m.free; first = λ i. i });
    inside = λ message i. i;
  }

  first_me : first.server me ≡ called
  first_me = its_server world me (number + 1) (CallForVote you) (Requests request ∷ []) (world.server me) refl

  first_you : first.server you ≡ world.server you
  first_you = other_server world me (number + 1) (CallForVote you) (Requests request ∷ []) you m.other

  second_does : Does first you (number + 2) (TakeVoteRequest request true) (Answers answer ∷ []) (world.server you)
  second_does = record {
    is = first_you;
    up = m.your_up;
    later = omega arith;
    comes = (inl refl, refl, refl, grants_it (world.server you).store request m.lower m.newer);
    inside = λ message i. i;
  }

  granted : RaftServer
  granted = server_after world.members you (number + 2) (world.server you) (TakeVoteRequest request true)

  second_you : second.server you ≡ server_after world.members you (number + 2) (world.server you) (TakeVoteRequest request true)
  second_you = its_server first you (number + 2) (TakeVoteRequest request true) (Answers answer ∷ []) (world.server you) first_you

  second_me : second.server me ≡ called
  second_me = other_server first you (number + 2) (TakeVoteRequest request true) (Answers answer ∷ []) me (λ e. m.other (sym e)) ∙ first_me

  third_does : Does second me (number + 3) (TakeVoteAnswer answer) [] called
  third_does = record {
    is = second_me;
    up = m.my_up;
    later = omega arith;
    comes = (inl (inl refl), refl, refl, at_here (world.server me).memory.pending you you (Some request) refl);
    inside = λ message i. absurd i;
  }

  third_me : third.server me ≡ server_after world.members me (number + 3) called (TakeVoteAnswer answer)
  third_me = its_server second me (number + 3) (TakeVoteAnswer answer) [] called second_me

  third_you : third.server you ≡ server_after world.members you (number + 2) (world.server you) (TakeVoteRequest request true)
  third_you = other_server second me (number + 3) (TakeVoteAnswer answer) [] you m.other ∙ second_you

  polled : HasPolled me you world third
  polled = record {
    members = refl;
    others = λ n not_me not_you.
        other_server second me (number + 3) (TakeVoteAnswer answer) [] n not_me
        ∙ (other_server first you (number + 2) (TakeVoteRequest request true) (Answers answer ∷ []) n not_you
        ∙ other_server world me (number + 1) (CallForVote you) (Requests request ∷ []) n not_me);
    your_up = ap (λ (s : RaftServer). s.memory.up) third_you ∙ (yours.2 ∙ m.your_up);
    your_term = ap (λ (s : RaftServer). s.store.term) third_you ∙ yours.1;
    my_up = ap (λ (s : RaftServer). s.memory.up) third_me ∙ (mine.0 ∙ m.my_up);
    outcome = elim mine.1 [
      | inl h ↦ inl (
        ap (λ (s : RaftServer). s.memory.role) third_me ∙ h.0,
        ap (λ (s : RaftServer). s.store) third_me ∙ h.1,
        ap (λ (s : RaftServer). s.memory.votes) third_me ∙ h.2,
        λ n other. ap (λ (s : RaftServer). s.memory.pending n) third_me
            ∙ (ap (λ (f : ℕ → Option Request). f n) h.3 ∙ (at_other called.memory.pending you n None other
            ∙ at_other (world.server me).memory.pending you n (Some request) other)),
        ap (λ (s : RaftServer). s.memory.pending you) third_me
            ∙ (ap (λ (f : ℕ → Option Request). f you) h.3 ∙ at_here called.memory.pending you you None refl),
      )
      | inr h ↦ inr (
        ap (λ (s : RaftServer). s.memory.role) third_me ∙ h.0,
        ap (λ (s : RaftServer). s.store) third_me ∙ h.1,
        λ n. ap (λ (s : RaftServer). s.memory.pending n) third_me ∙ ap (λ (f : ℕ → Option Request). f n) h.2,
      )
    ];
  }
    where
      yours : ((with_term (world.server you).store request.term).term ≡ request.term)
          × ((server_after world.members you (number + 2) (world.server you) (TakeVoteRequest request true)).store.term ≡ request.term)
          × ((server_after world.members you (number + 2) (world.server you) (TakeVoteRequest request true)).memory.up ≡ (world.server you).memory.up)
      yours = granted_term world.members you (number + 2) (world.server you) request m.lower

      mine : Outcome you called (server_after world.members me (number + 3) called (TakeVoteAnswer answer))
      mine = counted world.members me (number + 3) called answer m.stands yours.0 refl

  pub polls : CanCome world (HasPolled me you world)
  polls = doing world (HasPolled me you world) me (number + 1) (CallForVote you) (Requests request ∷ []) (world.server me) first_does
      (doing first (HasPolled me you world) you (number + 2) (TakeVoteRequest request true) (Answers answer ∷ []) (world.server you) second_does
      (doing second (HasPolled me you world) me (number + 3) (TakeVoteAnswer answer) [] called third_does
      (at_once third (HasPolled me you world) polled)))

-- ---- the whole group

-- a candidate that has still to poll these of its group, and has the votes of the others
pub record IsStanding (world : World) (group : List ℕ) (me : ℕ) (rest : List ℕ) : Type 0 where
  pub stands : (world.server me).memory.role ≡ Candidate
  pub up : (world.server me).memory.up ≡ true
  pub member : In me group
  pub listed : (n : ℕ) → In n group → In n world.members
  pub free : (n : ℕ) → (world.server me).memory.pending n ≡ None
  pub own : (world.server me).memory.votes me ≡ true
  pub peers : (n : ℕ) → In n group → n ≢ me
      → ((world.server n).memory.up ≡ true) × ((world.server n).store.term ≤ (world.server me).store.term)
  pub lower : (n : ℕ) → In n rest → n ≢ me → (world.server n).store.term < (world.server me).store.term
  pub newer : (n : ℕ) → In n rest → n ≢ me
      → NotAbove (last_term (world.server n).store.log) (length (world.server n).store.log)
      (last_term (world.server me).store.log) (length (world.server me).store.log)
  pub voted : (n : ℕ) → In n group → In n rest ⊎ ((world.server me).memory.votes n ≡ true)

pub record HasWon (group : List ℕ) (me : ℕ) (world later : World) : Type 0 where
  pub led : IsLed later group me
  pub store : (later.server me).store ≡ (world.server me).store
  pub members : later.members ≡ world.members

module _ (win : InEveryRun (λ world. (member : ℕ) → WinDuty world.members (world.server member))) (group : List ℕ) (me : ℕ) where
  -- the candidate itself is no peer
  passed_over : (x : ℕ) (xs : List ℕ) (world : World) → x ≡ me → IsStanding world group me (x ∷ xs) → IsStanding world group me xs
  passed_over x xs world e s = record {
    stands = s.stands;
    up = s.up;
    member = s.member;
    listed = s.listed;
    free = s.free;
    own = s.own;
    peers = s.peers;
    lower = λ n i. s.lower n (inr i);
    newer = λ n i. s.newer n (inr i);
    voted = λ n i. elim (s.voted n i) [
      | inr v ↦ inr v
      | inl (inr j) ↦ inl j
      | inl (inl d) ↦ inr (subst (λ (m : ℕ). (world.server me).memory.votes m ≡ true) (sym (d ∙ e)) s.own)
    ];
  }

  may_poll : (x : ℕ) (xs : List ℕ) (world : World) → x ≢ me → In x group → IsStanding world group me (x ∷ xs) → MayPoll world me x
  may_poll x xs world other i s = record {
    other = other;
    listed = s.listed x i;
    my_up = s.up;
    your_up = (s.peers x i other).0;
    stands = s.stands;
    free = s.free x;
    lower = s.lower x (inl refl) other;
    newer = s.newer x (inl refl) other;
  }

  still_stands : (x : ℕ) (xs : List ℕ) (world later : World) → HasNoneTwice (x ∷ xs) → x ≢ me → HasPolled me x world later
      → ((later.server me).memory.role ≡ Candidate) × ((later.server me).store ≡ (world.server me).store)
      × ((later.server me).memory.votes ≡ at (world.server me).memory.votes x true)
      × ((n : ℕ) → n ≢ x → (later.server me).memory.pending n ≡ (world.server me).memory.pending n)
      × ((later.server me).memory.pending x ≡ None)
      → IsStanding world group me (x ∷ xs) → IsStanding later group me xs
  still_stands x xs world later once other p o s = record {
    stands = o.0;
    up = p.my_up;
    member = s.member;
    listed = λ n i. subst (λ (l : List ℕ). In n l) (sym p.members) (s.listed n i);
    free = λ n. elim (eqb_tells n x) [
      | inl z ↦ subst (λ (m : ℕ). (later.server me).memory.pending m ≡ None) (sym z.1) o.4
      | inr z ↦ o.3 n z.1 ∙ s.free n
    ];
    own = ap (λ (f : ℕ → Bool). f me) o.2 ∙ (at_other (world.server me).memory.votes x me true (λ e. other (sym e)) ∙ s.own);
    peers = λ n i not_me. elim (eqb_tells n x) [
      | inl z ↦ subst (λ (m : ℕ). ((later.server m).memory.up ≡ true) × ((later.server m).store.term ≤ (later.server me).store.term)) (sym z.1)
          (p.your_up, omega (arith, p.your_term, ap (λ (k : Store). k.term) o.1))
      | inr z ↦ subst (λ (t : RaftServer). (t.memory.up ≡ true) × (t.store.term ≤ (later.server me).store.term)) (sym (p.others n not_me z.1))
          (subst (λ (k : Store). ((world.server n).memory.up ≡ true) × ((world.server n).store.term ≤ k.term)) (sym o.1) (s.peers n i not_me))
    ];
    lower = λ n i not_me. subst (λ (t : RaftServer). t.store.term < (later.server me).store.term) (sym (p.others n not_me (apart n i)))
        (subst (λ (k : Store). (world.server n).store.term < k.term) (sym o.1) (s.lower n (inr i) not_me));
    newer = λ n i not_me. subst (λ (t : RaftServer). NotAbove (last_term t.store.log) (length t.store.log) (last_term (later.server me).store.log) (length (later.server me).store.log))
        (sym (p.others n not_me (apart n i)))
        (subst (λ (k : Store). NotAbove (last_term (world.server n).store.log) (length (world.server n).store.log) (last_term k.log) (length k.log)) (sym o.1)
        (s.newer n (inr i) not_me));
    voted = λ n i. elim (s.voted n i) [
      | inl (inr j) ↦ inl j
      | inl (inl e) ↦ inr (has n e)
      | inr v ↦ elim (eqb_tells n x) [
        | inl z ↦ inr (has n z.1)
        | inr z ↦ inr (ap (λ (f : ℕ → Bool). f n) o.2 ∙ (at_other (world.server me).memory.votes x n true z.1 ∙ v))
      ]
    ];
  }
    where
      apart : (n : ℕ) → In n xs → n ≢ x
      apart n i e = once.0 (subst (λ (m : ℕ). In m xs) e i)

      has : (n : ℕ) → n ≡ x → (later.server me).memory.votes n ≡ true
      has n e = ap (λ (f : ℕ → Bool). f n) o.2 ∙ at_here (world.server me).memory.votes x n true e

  has_won : (x : ℕ) (xs : List ℕ) (world later : World) → HasPolled me x world later
      → ((later.server me).memory.role ≡ Leader) × ((later.server me).store ≡ (world.server me).store) × ((n : ℕ) → (later.server me).memory.pending n ≡ None)
      → IsStanding world group me (x ∷ xs) → HasWon group me world later
  has_won x xs world later p o s = record {
    led = record {
      leads = o.0;
      up = p.my_up;
      member = s.member;
      listed = λ n i. subst (λ (l : List ℕ). In n l) (sym p.members) (s.listed n i);
      free = o.2;
      peers = λ n i not_me. elim (eqb_tells n x) [
        | inl z ↦ subst (λ (m : ℕ). ((later.server m).memory.up ≡ true) × ((later.server m).store.term ≤ (later.server me).store.term)) (sym z.1)
            (p.your_up, omega (arith, p.your_term, term))
        | inr z ↦ subst (λ (t : RaftServer). (t.memory.up ≡ true) × (t.store.term ≤ (later.server me).store.term)) (sym (p.others n not_me z.1))
            ((s.peers n i not_me).0, let low : (world.server n).store.term ≤ (world.server me).store.term = (s.peers n i not_me).1 in omega (arith, low, term))
      ];
    };
    store = o.1;
    members = p.members;
  }
    where
      term : (later.server me).store.term ≡ (world.server me).store.term
      term = ap (λ (k : Store). k.term) o.1

  pub wins : (rest : List ℕ) → HasNoneTwice rest → ((n : ℕ) → In n rest → In n group) → (world : World) → IsReached world
      → IsMajority world.members group → IsStanding world group me rest → CanCome world (HasWon group me world)
  wins [] once inside world r majority s = absurd (cc (in_reached (λ w. (member : ℕ) → WinDuty w.members (w.server member)) win world r me s.stands, quorum_has))
    where
      votes : (n : ℕ) → In n group → (world.server me).memory.votes n ≡ true
      votes n i = elim (s.voted n i) [ inl none ↦ absurd none | inr v ↦ v ]

      quorum_has : has_quorum world.members (world.server me).memory.votes ≡ true
      quorum_has = is_quorum world.members (world.server me).memory.votes
          (omega (arith, majority.enough, all_counted group world.members (world.server me).memory.votes majority.once majority.listed votes))
  wins (x ∷ xs) once inside world r majority s = elim (eqb_tells x me) [
    | inl z ↦ wins xs once.1 (λ n i. inside n (inr i)) world r majority (passed_over x xs world z.1 s)
    | inr z ↦ and_then (HasPolled me x world) (HasWon group me world) world r
        (polls world me x (may_poll x xs world z.1 (inside x (inl refl)) s))
        (λ later reached p. elim p.outcome [
          | inr o ↦ at_once later (HasWon group me world) (has_won x xs world later p o s)
          | inl o ↦ so (HasWon group me later) (HasWon group me world) later
              (wins xs once.1 (λ n i. inside n (inr i)) later reached
              (record {
                enough = subst (λ (l : List ℕ). quorum l ≤ length group) (sym p.members) majority.enough;
                once = majority.once;
                listed = λ n i. subst (λ (l : List ℕ). In n l) (sym p.members) (majority.listed n i);
              })
              (still_stands x xs world later once z.1 p o s))
              (λ last w. record {
                led = w.led;
                store = w.store ∙ o.1;
                members = w.members ∙ p.members;
              })
        ])
  ]
