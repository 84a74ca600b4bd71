-- How the term, the vote and the log of a server go through a step: at a frame, and at a tick.
use Rattle.std.proofs.Common.{◌≡◌, ◌≢◌, ℕ, ◌+◌, ◌<◌, ◌≤◌, Bool, false, List, [], ◌∷◌, refl, sym, ◌∙◌, ap, subst, arith, inl, inr, None, Some}
use Rattle.std.specs.Prelude.{◌⊎◌, ◌/◌, length, if◌then◌else◌}
use Rattle.std.proofs.lemmas.Bool.Decides.{eqb_tells, leb_tells}
use Rattle.can_frame.specs.declared.identifier.Kind.TheVariants.{Request as RequestKind}
use Rattle.dsdl_codec.specs.declared.vote_request.VoteRequest.{VoteRequest}
use Rattle.dsdl_codec.specs.VoteRequest.{vote_request_of}
use Rattle.cluster_discovery.specs.Members.{Event as Discovered, IsMemberList, IsStart, Start, members}
use Rattle.raft_model.specs.Handlers.{server_after}
use Rattle.raft_model.specs.Lists.{In, how_many}
use Rattle.raft_model.specs.Members.{HasNoneTwice}
use Rattle.raft_model.specs.Messages.{Request}
use Rattle.raft_model.specs.Moves.{Move, puts}
use Rattle.raft_model.specs.Moves.Elections.{has_quorum, own_vote, stand_memory, win_memory, with_term}
use Rattle.raft_model.specs.Moves.Move.{AnswerAgain, CallForVote, CallToAppend, CommitTo, GiveUp, ProposeEntry, TakeAppendAnswer, TakeAppendRequest, TakeVoteAnswer, TakeVoteRequest, TellNothing, TellPair, TimeOut}
use Rattle.raft_model.specs.Server.{RaftServer, Store, quorum}
use Rattle.raft_model.specs.Server.Role.{Candidate, Follower, Leader}
use Rattle.transfer_rx.specs.Reassembly.{Arrival, Delivery, Gives, answer}
use Rattle.alloc_spec.specs.Accepted.{setting_for}
use Rattle.alloc_spec.specs.AllocatorState.{AllocatorState, start_of}
use Rattle.alloc_spec.specs.Step.{step}
use Rattle.alloc_spec.specs.Step.Event.{Rx, Tick}
use Rattle.alloc_spec_laws.proofs.Choices.{lt_tells}
use Rattle.bus_agreement.proofs.Lists.{none_twice}
use Rattle.service_steps.specs.Requests.{moment_at}
use Rattle.service_leader.proofs.TermsKept.{TellsWithin}
use Rattle.service_leader.proofs.TermsSaid.{puts_rise, risen}
use Rattle.service_candidate.proofs.TermsBrings.{Brings, BringsAtFrame, BringsAtTick, Goes}
use Rattle.service_candidate.proofs.TermsGo.{goes_at_frame, goes_at_tick}
use Rattle.service_candidate.proofs.TermsMoves.{HasLog, Takes, log_with_term, raised_store, same_store, takes_append_answer, takes_append_request, takes_vote_answer, takes_vote_request, term_within}

-- ---- no term falls

-- whatever its event brings, a step lowers no term
rises : (Brought : List ℕ → ℕ → RaftServer → Move → Type 0) (number : ℕ) (before after : RaftServer) → Goes Brought number before after
    → before.store.term ≤ after.store.term
rises Brought number before after g = elim g.moved [
  | inl same ↦
      let e = ap (λ (s : Store). s.term) g.begun.store in
      let l = ap (λ (s : RaftServer). s.store.term) same in
      omega (arith, e, l, g.left.term)
  | inr m ↦
      let e = ap (λ (s : Store). s.term) g.begun.store in
      let l = ap (λ (s : RaftServer). s.store.term) m.4 in
      let up = risen (puts m.0 m.1 g.early m.2) g.early.store (puts_rise m.0 m.1 g.early m.2) in
      omega (arith, e, l, up, g.left.term)
]

-- at a frame
pub rises_at_frame : (number : ℕ) (t : AllocatorState) (arrival : Arrival)
    → t.raft_server.store.term ≤ (step t number (Rx arrival)).step_state.allocator.raft_server.store.term
rises_at_frame number t arrival = rises (BringsAtFrame t arrival) number t.raft_server (step t number (Rx arrival)).step_state.allocator.raft_server
    (goes_at_frame number t arrival)

-- at a tick
pub rises_at_tick : (number : ℕ) (t : AllocatorState) (now word : ℕ)
    → t.raft_server.store.term ≤ (step t number (Tick now word)).step_state.allocator.raft_server.store.term
rises_at_tick number t now word = rises (BringsAtTick (start_of t)) number t.raft_server (step t number (Tick now word)).step_state.allocator.raft_server
    (goes_at_tick number t now word)

-- ---- a frame brings no higher term

module _ (top : ℕ) (d : Delivery) (within : TellsWithin top d) (list : List ℕ) (me number : ℕ) (server : RaftServer) where
  -- a message that is brought has a term that is not above, and leaves the greater of two
  abbrev TakesLow : Move → Type 0
  TakesLow move = (term : ℕ) × (term ≤ top) × Takes term server (server_after list me number server move)

  -- whichever move is brought
  low_taken : (move : Move) → Brings d me server move → TakesLow move
  low_taken (TakeVoteRequest request granted) is = (
    request.term,
    subst (λ (r : Request). r.term ≤ top) (sym is.is) (within.vote_request is.kind is.first is.thirty is.message is.read),
    (takes_vote_request list me number server request granted is.judged).0,
  )
  low_taken (TakeAppendRequest request verdict) is = (
    request.term,
    subst (λ (r : Request). r.term ≤ top) (sym is.is) (within.append_request is.kind is.thirty is.message is.read),
    (takes_append_request list me number server request verdict is.judged).0,
  )
  low_taken (TakeVoteAnswer got) is = (
    got.term,
    subst (λ (n : ℕ). n ≤ top) (sym is.term) (within.vote_answer is.kind is.first is.thirty is.message is.read),
    takes_vote_answer list me number server got,
  )
  low_taken (TakeAppendAnswer got) is = (
    got.term,
    subst (λ (n : ℕ). n ≤ top) (sym is.term) (within.append_answer is.kind is.thirty is.message is.read),
    takes_append_answer list me number server got,
  )
  low_taken TimeOut is = absurd is
  low_taken (ProposeEntry entry) is = absurd is
  low_taken (CommitTo index) is = absurd is
  low_taken TellPair is = absurd is
  low_taken TellNothing is = absurd is
  low_taken (CallForVote peer) is = absurd is
  low_taken (CallToAppend peer previous with_entry) is = absurd is
  low_taken (AnswerAgain place) is = absurd is
  low_taken (GiveUp peer) is = absurd is

  -- it leaves the server within the term
  within_brought : (move : Move) → Brings d me server move → server.store.term ≤ top → (server_after list me number server move).store.term ≤ top
  within_brought move is own =
      let low = low_taken move is in
      let l = term_within server.store low.0 top own low.1 in
      let e = low.2.term_is in
      omega (arith, l, e)

-- so a member within a term stays within it
pub within_at_frame : (top number : ℕ) (t : AllocatorState) (arrival : Arrival) → t.raft_server.store.term ≤ top
    → ((d : Delivery) → answer (setting_for t.me) t.sessions (record arrival { moment = moment_at t arrival }) ≡ Gives d → TellsWithin top d)
    → (step t number (Rx arrival)).step_state.allocator.raft_server.store.term ≤ top
within_at_frame top number t arrival own tells =
    let g = goes_at_frame number t arrival in
    let early : g.early.store.term ≤ top = (let e = ap (λ (s : Store). s.term) g.begun.store in omega (arith, e, own)) in
    let late : g.late.store.term ≤ top = elim g.moved [
      | inl same ↦ subst (λ (s : RaftServer). s.store.term ≤ top) (sym same) early
      | inr m ↦ subst (λ (s : RaftServer). s.store.term ≤ top) (sym m.4)
          (within_brought top m.3.0 (tells m.3.0 m.3.1) m.0 m.1 number g.early m.2 m.3.2 early)
    ] in
    let e = g.left.term in
    omega (arith, late, e)

-- ---- a member stays free to vote

-- its term is lower, or it follows in this one, and has given its vote to no other
abbrev pub IsFree : (c term : ℕ) → RaftServer → Type 0
IsFree c term server = (server.store.term < term)
    ⊎ ((server.store.term ≡ term) × (server.memory.role ≡ Follower) × ((server.store.vote ≡ None) ⊎ (server.store.vote ≡ Some c)))

-- a vote request of this term, as which the delivery reads, is of c
abbrev pub AsksFor : (c term : ℕ) → Delivery → Type 0
AsksFor c term d = d.ident.kind ≡ RequestKind → d.ident.number ≢ 1 → d.ident.number ≢ 30 → (message : VoteRequest)
    → vote_request_of d.payload ≡ Some message → message.term ≡ term → d.ident.source ≡ c

-- a message that is taken leaves it free, where it gives no vote in this term but to c
free_taken : (c term its : ℕ) (early late : RaftServer) → Takes its early late → its ≤ term
    → (late.store.vote ≡ (with_term early.store its).vote) ⊎ (late.store.term ≡ term → late.store.vote ≡ Some c)
    → IsFree c term early → IsFree c term late
free_taken c term its early late takes low votes free = elim (lt_tells early.store.term its) [
  | inl higher ↦ (
      let is : late.store.term ≡ its = takes.term_is ∙ ap (λ (s : Store). s.term) (raised_store early.store its higher.1) in
      elim (lt_tells its term) [
        | inl below ↦ inl (let b = below.1 in omega (arith, is, b))
        | inr same ↦ (
            let there : late.store.term ≡ term = (let s = same.1 in omega (arith, is, s, low)) in
            inr (
              there,
              takes.raised higher.1,
              elim votes [
                | inl left ↦ inl (left ∙ ap (λ (s : Store). s.vote) (raised_store early.store its higher.1))
                | inr given ↦ inr (given there)
              ],
            ))
      ])
  | inr lower ↦ (
      let is : late.store.term ≡ early.store.term = takes.term_is ∙ ap (λ (s : Store). s.term) (same_store early.store its lower.1) in
      elim free [
        | inl below ↦ inl (omega (arith, is, below))
        | inr here ↦ (
            let there : late.store.term ≡ term = is ∙ here.0 in
            inr (
              there,
              takes.follows lower.1 here.1,
              elim votes [
                | inl left ↦ (
                    let same : late.store.vote ≡ early.store.vote = left ∙ ap (λ (s : Store). s.vote) (same_store early.store its lower.1) in
                    elim here.2 [ inl none ↦ inl (same ∙ none) | inr own ↦ inr (same ∙ own) ])
                | inr given ↦ inr (given there)
              ],
            ))
      ])
]

module _ (c term : ℕ) (d : Delivery) (within : TellsWithin term d) (asks : AsksFor c term d) (list : List ℕ) (me number : ℕ) (server : RaftServer) where
  -- what is brought leaves it free
  free_brought : (move : Move) → Brings d me server move → IsFree c term server → IsFree c term (server_after list me number server move)
  free_brought (TakeVoteRequest request granted) is free =
      let taken = takes_vote_request list me number server request granted is.judged in
      let late : RaftServer = server_after list me number server (TakeVoteRequest request granted) in
      free_taken c term request.term server late taken.0
      (subst (λ (r : Request). r.term ≤ term) (sym is.is) (within.vote_request is.kind is.first is.thirty is.message is.read))
      (elim taken.1 [
        | inl left ↦ inl left
        | inr given ↦ inr (λ there. given.1 ∙ ap Some (ap (λ (r : Request). r.from) is.is
            ∙ asks is.kind is.first is.thirty is.message is.read (sym (ap (λ (r : Request). r.term) is.is) ∙ (sym given.0 ∙ there))))
      ]) free
  free_brought (TakeAppendRequest request verdict) is free =
      let taken = takes_append_request list me number server request verdict is.judged in
      free_taken c term request.term server (server_after list me number server (TakeAppendRequest request verdict)) taken.0
      (subst (λ (r : Request). r.term ≤ term) (sym is.is) (within.append_request is.kind is.thirty is.message is.read)) (inl taken.1) free
  free_brought (TakeVoteAnswer got) is free =
      free_taken c term got.term server (server_after list me number server (TakeVoteAnswer got)) (takes_vote_answer list me number server got)
      (subst (λ (n : ℕ). n ≤ term) (sym is.term) (within.vote_answer is.kind is.first is.thirty is.message is.read)) (inl refl) free
  free_brought (TakeAppendAnswer got) is free =
      free_taken c term got.term server (server_after list me number server (TakeAppendAnswer got)) (takes_append_answer list me number server got)
      (subst (λ (n : ℕ). n ≤ term) (sym is.term) (within.append_answer is.kind is.thirty is.message is.read)) (inl refl) free
  free_brought TimeOut is free = absurd is
  free_brought (ProposeEntry entry) is free = absurd is
  free_brought (CommitTo index) is free = absurd is
  free_brought TellPair is free = absurd is
  free_brought TellNothing is free = absurd is
  free_brought (CallForVote peer) is free = absurd is
  free_brought (CallToAppend peer previous with_entry) is free = absurd is
  free_brought (AnswerAgain place) is free = absurd is
  free_brought (GiveUp peer) is free = absurd is

-- it goes by the term, the vote and the role alone
pub free_as : (c term : ℕ) (early late : RaftServer) → late.store.term ≡ early.store.term → late.store.vote ≡ early.store.vote
    → late.memory.role ≡ early.memory.role → IsFree c term early → IsFree c term late
free_as c term early late same vote role (inl below) = inl (omega (arith, same, below))
free_as c term early late same vote role (inr here) = inr (
  same ∙ here.0,
  role ∙ here.1,
  elim here.2 [
    | inl none ↦ inl (vote ∙ none)
    | inr own ↦ inr (vote ∙ own)
  ],
)

-- so it stays free at a frame that asks for no other
pub free_at_frame : (c term number : ℕ) (t : AllocatorState) (arrival : Arrival) → IsFree c term t.raft_server
    → ((d : Delivery) → answer (setting_for t.me) t.sessions (record arrival { moment = moment_at t arrival }) ≡ Gives d
    → TellsWithin term d × AsksFor c term d)
    → IsFree c term (step t number (Rx arrival)).step_state.allocator.raft_server
free_at_frame c term number t arrival free tells =
    let g = goes_at_frame number t arrival in
    let early : IsFree c term g.early = free_as c term t.raft_server g.early (ap (λ (s : Store). s.term) g.begun.store)
    (ap (λ (s : Store). s.vote) g.begun.store) g.begun.role free in
    let late : IsFree c term g.late = elim g.moved [
      | inl same ↦ subst (IsFree c term) (sym same) early
      | inr m ↦ (
          let told = tells m.3.0 m.3.1 in
          subst (IsFree c term) (sym m.4) (free_brought c term m.3.0 told.0 told.1 m.0 m.1 number g.early m.2 m.3.2 early))
    ] in
    free_as c term g.late (step t number (Rx arrival)).step_state.allocator.raft_server g.left.term g.left.vote g.left.role late

-- ---- a tick

-- term, vote and role are as they were
pub record IsSame (before after : RaftServer) : Type 0 where
  pub term : after.store.term ≡ before.store.term
  pub vote : after.store.vote ≡ before.store.vote
  pub role : after.memory.role ≡ before.memory.role

-- the member stands for election, in the next term
abbrev pub HasStood : RaftServer → RaftServer → Type 0
HasStood before then_ = (then_.memory.role ≡ Candidate) × (then_.store.term ≡ before.store.term + 1)

-- of a list in which none stands twice, one's own vote counts once at the most
none_counted : (me : ℕ) (list : List ℕ) → (In me list → ⊥) → how_many (own_vote me) list ≡ 0
none_counted me [] out = refl
none_counted me (x ∷ xs) out = elim (eqb_tells x me) [
  | inl z ↦ absurd (out (inl (sym z.1)))
  | inr z ↦
      let first = ap (λ (b : Bool). (if b then 1 else 0) + how_many (own_vote me) xs) z.0 in
      let rest = none_counted me xs (λ i. out (inr i)) in
      omega (arith, first, rest)
]

-- its own vote counts once there
once_counted : (me : ℕ) (list : List ℕ) → HasNoneTwice list → how_many (own_vote me) list ≤ 1
once_counted me [] once = omega arith
once_counted me (x ∷ xs) once = elim (eqb_tells x me) [
  | inl z ↦
      let first = ap (λ (b : Bool). (if b then 1 else 0) + how_many (own_vote me) xs) z.0 in
      let rest = none_counted me xs (λ i. once.0 (subst (λ (n : ℕ). In n xs) (sym z.1) i)) in
      omega (arith, first, rest)
  | inr z ↦
      let first = ap (λ (b : Bool). (if b then 1 else 0) + how_many (own_vote me) xs) z.0 in
      let rest = once_counted me xs once.1 in
      omega (arith, first, rest)
]

-- so it is no quorum of two or more
no_quorum : (me : ℕ) (list : List ℕ) → HasNoneTwice list → 2 ≤ length list → has_quorum list (own_vote me) ≡ false
no_quorum me list once many = elim (leb_tells (quorum list) (how_many (own_vote me) list)) [
  | inl z ↦ absurd (by (length list) (how_many (own_vote me) list) many (once_counted me list once) z.1)
  | inr z ↦ z.0
]
  where
    by : (n k : ℕ) → 2 ≤ n → k ≤ 1 → n / 2 + 1 ≤ k → ⊥
    by n k a b e = grind (arith, a, b, e)

module _ (listing : (start : Start) (events : List Discovered) → IsStart start → IsMemberList start.me start.size (members start events))
    (number : ℕ) (t : AllocatorState) (now word : ℕ) where
  abbrev after : RaftServer
  after = (step t number (Tick now word)).step_state.allocator.raft_server

  -- who stands is a candidate, since its own vote is no quorum
  stood : IsStart (start_of t) → 2 ≤ t.size → (list : List ℕ) (me : ℕ) (early : RaftServer) → BringsAtTick (start_of t) list me early TimeOut
      → (server_after list me number early TimeOut).memory.role ≡ Candidate
  stood is many list me early brings = ap (λ (b : Bool). (if b then win_memory early.store (stand_memory me early.memory) else stand_memory me early.memory).role)
      (no_quorum me list once (omega (arith, many, brings.whole)))
    where
      its : IsMemberList t.me t.size (members (start_of t) brings.events)
      its = listing (start_of t) brings.events is

      once : HasNoneTwice list
      once = subst HasNoneTwice (sym brings.known) (none_twice (members (start_of t) brings.events) its.different)

  -- at a tick a member of a cluster of two or more stands for election, or its term, vote and role stay
  pub stands_or_stays : IsStart (start_of t) → 2 ≤ t.size → IsSame t.raft_server after ⊎ HasStood t.raft_server after
  stands_or_stays is many =
      let g = goes_at_tick number t now word in
      elim g.moved [
        | inl same ↦ inl (record {
          term = g.left.term ∙ (ap (λ (s : RaftServer). s.store.term) same ∙ ap (λ (s : Store). s.term) g.begun.store);
          vote = g.left.vote ∙ (ap (λ (s : RaftServer). s.store.vote) same ∙ ap (λ (s : Store). s.vote) g.begun.store);
          role = g.left.role ∙ (ap (λ (s : RaftServer). s.memory.role) same ∙ g.begun.role);
        })
        | inr m ↦ (
            let brings : BringsAtTick (start_of t) m.0 m.1 g.early TimeOut = subst (BringsAtTick (start_of t) m.0 m.1 g.early) m.3.is m.3 in
            let late : g.late ≡ server_after m.0 m.1 number g.early TimeOut = m.4 ∙ ap (server_after m.0 m.1 number g.early) m.3.is in
            inr (
              g.left.role ∙ (ap (λ (s : RaftServer). s.memory.role) late ∙ stood is many m.0 m.1 g.early brings),
              g.left.term ∙ (ap (λ (s : RaftServer). s.store.term) late ∙ ap (λ (s : Store). s.term + 1) g.begun.store),
            ))
      ]

-- ---- the log

-- a frame that brings no append request changes no log
module _ (d : Delivery) (no_append : d.ident.kind ≡ RequestKind → d.ident.number ≡ 30 → ⊥) (list : List ℕ) (me number : ℕ) (server : RaftServer) where
  -- whichever move it brings
  log_brought : (move : Move) → Brings d me server move → HasLog server.store (server_after list me number server move).store
  log_brought (TakeVoteRequest request granted) is =
      let taken = (takes_vote_request list me number server request granted is.judged).2 in
      let before = log_with_term server.store request.term in
      (taken.0 ∙ before.0, taken.1 ∙ before.1)
  log_brought (TakeAppendRequest request verdict) is = absurd (no_append is.kind is.thirty)
  log_brought (TakeVoteAnswer got) is = log_with_term server.store got.term
  log_brought (TakeAppendAnswer got) is = log_with_term server.store got.term
  log_brought TimeOut is = absurd is
  log_brought (ProposeEntry entry) is = absurd is
  log_brought (CommitTo index) is = absurd is
  log_brought TellPair is = absurd is
  log_brought TellNothing is = absurd is
  log_brought (CallForVote peer) is = absurd is
  log_brought (CallToAppend peer previous with_entry) is = absurd is
  log_brought (AnswerAgain place) is = absurd is
  log_brought (GiveUp peer) is = absurd is

-- a log stays through a step behind which the server does not lead, where its event brings no change of it
log_gone : (Brought : List ℕ → ℕ → RaftServer → Move → Type 0) (number : ℕ) (before then_ : RaftServer) → (g : Goes Brought number before then_)
    → ((list : List ℕ) (me : ℕ) (move : Move) → Brought list me g.early move → HasLog g.early.store (server_after list me number g.early move).store)
    → then_.memory.role ≢ Leader → HasLog before.store then_.store
log_gone Brought number before then_ g brought leads_not =
    let early : HasLog before.store g.early.store = (ap (λ (s : Store). s.log) g.begun.store, ap (λ (s : Store). s.commit) g.begun.store) in
    let late : HasLog g.early.store g.late.store = elim g.moved [
      | inl same ↦ subst (λ (s : RaftServer). HasLog g.early.store s.store) (sym same) (refl, refl)
      | inr m ↦ subst (λ (s : RaftServer). HasLog g.early.store s.store) (sym m.4) (brought m.0 m.1 m.2 m.3)
    ] in
    elim g.left.rest [
      | inl leads ↦ absurd (leads_not (g.left.role ∙ leads))
      | inr same ↦ (same.0 ∙ (late.0 ∙ early.0), same.1 ∙ (late.1 ∙ early.1))
    ]

-- so it is at a frame
pub log_at_frame : (number : ℕ) (t : AllocatorState) (arrival : Arrival)
    → ((d : Delivery) → answer (setting_for t.me) t.sessions (record arrival { moment = moment_at t arrival }) ≡ Gives d
    → d.ident.kind ≡ RequestKind → d.ident.number ≡ 30 → ⊥)
    → (step t number (Rx arrival)).step_state.allocator.raft_server.memory.role ≢ Leader
    → HasLog t.raft_server.store (step t number (Rx arrival)).step_state.allocator.raft_server.store
log_at_frame number t arrival none leads_not = log_gone (BringsAtFrame t arrival) number t.raft_server
    (step t number (Rx arrival)).step_state.allocator.raft_server (goes_at_frame number t arrival)
    (λ list me move brings. log_brought brings.0 (none brings.0 brings.1) list me number (goes_at_frame number t arrival).early move brings.2) leads_not

-- and at a tick
pub log_at_tick : (number : ℕ) (t : AllocatorState) (now word : ℕ)
    → (step t number (Tick now word)).step_state.allocator.raft_server.memory.role ≢ Leader
    → HasLog t.raft_server.store (step t number (Tick now word)).step_state.allocator.raft_server.store
log_at_tick number t now word leads_not = log_gone (BringsAtTick (start_of t)) number t.raft_server
    (step t number (Tick now word)).step_state.allocator.raft_server (goes_at_tick number t now word)
    (λ list me move brings. subst (λ (move_ : Move). HasLog (goes_at_tick number t now word).early.store
    (server_after list me number (goes_at_tick number t now word).early move_).store) (sym brings.is) (refl, refl)) leads_not
