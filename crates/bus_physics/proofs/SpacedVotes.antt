-- Vote requests of a candidate to a node that does not answer: three of them take 2,000 ms, but for the first ones.
use Rattle.std.proofs.Common.{◌≡◌, ℕ, suc, ◌+◌, ◌*◌, ◌≤◌, Bool, true, false, List, refl, sym, ap, subst, ◌∙◌, arith, ◌⊎◌, inl, inr, Option, Some, None}
use Rattle.std.specs.Prelude.{◌-◌, ◌/◌, ◌%◌, ◌==◌, ◌&&◌, is_some, nat_lt, if◌then◌else◌}
use Rattle.std.proofs.lemmas.Bool.Decides.{eqb_tells}
use Rattle.raft_core.specs.Times.{HandedIn, Sending, Times, begin_wait, end_call, end_vote_call, stand, step_down, times_after, win}
use Rattle.raft_model.specs.Messages.{Answer, Request}
use Rattle.raft_model.specs.Moves.{Move, memory_after}
use Rattle.raft_model.specs.Moves.Appending.{Verdict, acknowledges, matched_memory}
use Rattle.raft_model.specs.Moves.Appending.Verdict.{Added, Held, Outdated, Refused}
use Rattle.raft_model.specs.Moves.Elections.{counts, has_quorum, memory_without_call, own_vote, stand_memory, stepped_down, votes_with, win_memory, with_vote}
use Rattle.raft_model.specs.Moves.Leading.{append_request, vote_request}
use Rattle.raft_model.specs.Moves.Move.{AnswerAgain, CallForVote, CallToAppend, CommitTo, GiveUp, ProposeEntry, TakeAppendAnswer, TakeAppendRequest, TakeVoteAnswer, TakeVoteRequest, TellNothing, TellPair, TimeOut}
use Rattle.raft_model.specs.Server.{Memory, RaftServer, Role}
use Rattle.raft_model.specs.Server.Role.{Candidate, Follower, Leader}
use Rattle.alloc_spec_laws.proofs.Choices.{eq_true}
use Rattle.bus_agreement.proofs.Lists.{never}
use Rattle.bus_physics.proofs.Spacing.{Stays}
use Rattle.bus_physics.proofs.StepCalls.{Counts, IsOwnCall, IsReason, IsSpaced}

-- so much later than a call an election may begin, where so many calls were made since
abbrev pub least : ℕ → ℕ
least b = 2000 * (b / 3) + 1000 * (b % 3)

-- thirty calls are those of ten elections
thirty : (b : ℕ) → 30 ≤ b → 20000 ≤ least b
thirty b many = omega (arith, many)

-- a call more takes 1,000 ms at the most
one_by_one : (e k : ℕ) → least (e + k) ≤ least e + 1000 * k
one_by_one e k = omega arith

-- an election of 2,000 ms and more, and of 1,000 ms for each call but the first
one_election : (M e k origin now : ℕ) → M + least e ≤ origin → origin + 2000 ≤ now → origin + 1000 * k ≤ now + 1000 → M + least (e + k) ≤ now
one_election M e k origin now start long past = omega (arith, start, long, past)

-- to node p, from a vote request at moment M on
module _ (p M : ℕ) where
  -- in the election that began at the origin, behind calls of those before; that of the first call counts from that call on
  pub record Stands (b : ℕ) (m : Memory) (times : Times) (now : ℕ) : Type 0 where
    pub before : ℕ
    pub own : ℕ
    pub origin : ℕ
    pub sum : b ≡ before + own
    pub start : M + least before ≤ origin
    pub began : ((origin ≤ times.since) × (origin ≤ now)) ⊎ ((before ≡ 0) × (origin ≡ M + 1000))
    pub past : origin + 1000 * own ≤ now + 1000
    pub free : m.pending p ≡ None → origin + 1000 * own ≤ now
    pub waits : (s : Sending) → times.sending p ≡ Some s → origin + 1000 * own ≤ s.moment + 1000
    pub asks : (r : Request) → m.pending p ≡ Some r → r.append ≡ false

  -- so many calls more were made, and none was answered
  pub record Asked (b : ℕ) (m : Memory) (times : Times) (now : ℕ) : Type 0 where
    pub kept : is_some (times.sending p) ≡ is_some (m.pending p)
    pub low : M + least b ≤ now + 2000
    pub follower : m.role ≡ Follower → M + least b ≤ times.since + 2000
    pub candidate : m.role ≡ Candidate → Stands b m times now

  pub later : (b : ℕ) (m : Memory) (times : Times) (now then_ : ℕ) → now ≤ then_ → Asked b m times now → Asked b m times then_
  later b m times now then_ less o = record {
    kept = o.kept;
    low = omega (arith, less, o.low);
    follower = o.follower;
    candidate = λ e. let s = o.candidate e in record {
      before = s.before;
      own = s.own;
      origin = s.origin;
      sum = s.sum;
      start = s.start;
      began = still s.began;
      past = omega (arith, less, s.past);
      free = λ none. omega (arith, less, s.free none);
      waits = s.waits;
      asks = s.asks;
    };
  }
    where
      still : {since origin before : ℕ} → ((origin ≤ since) × (origin ≤ now)) ⊎ ((before ≡ 0) × (origin ≡ M + 1000))
          → ((origin ≤ since) × (origin ≤ then_)) ⊎ ((before ≡ 0) × (origin ≡ M + 1000))
      still (inl began) = inl (began.0, omega (arith, less, began.1))
      still (inr first) = inr first

  -- the next election begins late enough
  renewed : (b : ℕ) (m : Memory) (times : Times) (now : ℕ) → times.since + 2000 ≤ now → Stands b m times now → M + least b ≤ now
  renewed b m times now waited s = by s.began where
    by : ((s.origin ≤ times.since) × (s.origin ≤ now)) ⊎ ((s.before ≡ 0) × (s.origin ≡ M + 1000)) → M + least b ≤ now
    by (inl began) = omega (arith, ap least s.sum, one_election M s.before s.own s.origin now s.start (omega (arith, began.0, waited)) s.past)
    by (inr first) = omega (arith, ap least s.sum, one_by_one s.before s.own, ap least first.0, first.1, s.past)

  module _ (b : ℕ) (m : Memory) (times : Times) (now : ℕ) (o : Asked b m times now) (n : Memory) (later : Times) where
    kept_then : Stays p M m times n later → is_some (later.sending p) ≡ is_some (n.pending p)
    kept_then (inl same) = ap (λ (s : Option Sending). is_some s) same.1 ∙ (o.kept ∙ ap (λ (r : Option Request). is_some r) (sym same.0))
    kept_then (inr none) = ap (λ (s : Option Sending). is_some s) none.1 ∙ ap (λ (r : Option Request). is_some r) (sym none.0)

    -- it becomes a follower, and begins to wait, or was one
    fell : n.role ≡ Follower → (later.since ≡ now) ⊎ ((m.role ≡ Follower) × (later.since ≡ times.since)) → Stays p M m times n later → Asked b n later now
    fell role since stays = record { kept = kept_then stays; low = o.low; follower = λ e. waits since; candidate = λ e. absurd (cc (sym role ∙ e)) } where
      waits : (later.since ≡ now) ⊎ ((m.role ≡ Follower) × (later.since ≡ times.since)) → M + least b ≤ later.since + 2000
      waits (inl now_) = omega (arith, now_, o.low)
      waits (inr was) = omega (arith, was.1, o.follower was.0)

    -- it leads
    leads : n.role ≡ Leader → is_some (later.sending p) ≡ is_some (n.pending p) → Asked b n later now
    leads role kept = record { kept = kept; low = o.low; follower = λ e. absurd (cc (sym role ∙ e)); candidate = λ e. absurd (cc (sym role ∙ e)) }

    -- it stands for election anew
    stood : n.role ≡ Candidate → later.since ≡ now → n.pending p ≡ None → later.sending p ≡ None → M + least b ≤ now → Asked b n later now
    stood role since none unsent high = record {
      kept = kept_then (inr (none, unsent));
      low = o.low;
      follower = λ e. absurd (cc (sym role ∙ e));
      candidate = λ e. record {
        before = b;
        own = 0;
        origin = now;
        sum = omega arith;
        start = high;
        began = inl (omega (arith, since), omega arith);
        past = omega arith;
        free = λ quiet. omega arith;
        waits = λ s sent. absurd (cc (sym unsent ∙ sent));
        asks = λ r pending. absurd (cc (sym none ∙ pending));
      };
    }

    -- the role stays
    stayed : n.role ≡ m.role → (later.since ≡ times.since) ⊎ (later.since ≡ now) → Stays p M m times n later
        → ((s : Stands b m times now) → n.pending p ≡ None → s.origin + 1000 * s.own ≤ now) → Asked b n later now
    stayed role since stays idle = record {
      kept = kept_then stays;
      low = o.low;
      follower = λ e. waits since e;
      candidate = λ e. let s = o.candidate (sym role ∙ e) in record {
        before = s.before;
        own = s.own;
        origin = s.origin;
        sum = s.sum;
        start = s.start;
        began = still since s.began;
        past = s.past;
        free = λ none. idle s none;
        waits = waits_by stays s;
        asks = asks_by stays s;
      };
    }
      where
        waits : (later.since ≡ times.since) ⊎ (later.since ≡ now) → n.role ≡ Follower → M + least b ≤ later.since + 2000
        waits (inl same) e = omega (arith, same, o.follower (sym role ∙ e))
        waits (inr now_) e = omega (arith, now_, o.low)

        still : {origin before : ℕ} → (later.since ≡ times.since) ⊎ (later.since ≡ now) → ((origin ≤ times.since) × (origin ≤ now)) ⊎ ((before ≡ 0) × (origin ≡ M + 1000))
            → ((origin ≤ later.since) × (origin ≤ now)) ⊎ ((before ≡ 0) × (origin ≡ M + 1000))
        still since_ (inr first) = inr first
        still (inl same) (inl began) = inl (omega (arith, same, began.0), began.1)
        still (inr now_) (inl began) = inl (omega (arith, now_, began.1), began.1)

        waits_by : Stays p M m times n later → (s : Stands b m times now) → (sending : Sending) → later.sending p ≡ Some sending
            → s.origin + 1000 * s.own ≤ sending.moment + 1000
        waits_by (inl same) s sending sent = s.waits sending (sym same.1 ∙ sent)
        waits_by (inr none) s sending sent = absurd (cc (sym none.1 ∙ sent))

        asks_by : Stays p M m times n later → (s : Stands b m times now) → (r : Request) → n.pending p ≡ Some r → r.append ≡ false
        asks_by (inl same) s r pending = s.asks r (sym same.0 ∙ pending)
        asks_by (inr none) s r pending = absurd (cc (sym none.0 ∙ pending))

  -- ---- moves

  module _ (b : ℕ) (server : RaftServer) (times : Times) (now : ℕ) (o : Asked b server.memory times now) (members : List ℕ) (me number : ℕ)
      (given : HandedIn) (is : given.now ≡ now) where
    abbrev m : Memory
    m = server.memory

    abbrev After : Move → Type 0
    After move = Asked b (memory_after members me number server move) (times_after members me given server move times) now

    -- nothing changes of it
    same : (n : Memory) → n.role ≡ m.role → n.pending p ≡ m.pending p → Asked b n times now
    same n role pending = stayed b m times now o n times role (inl refl) (inl (pending, refl)) (λ s none. s.free (sym pending ∙ none))

    stands : (m.role ≡ Leader → ⊥) → times.since + 2000 ≤ now → After TimeOut
    stands not_leading waited = by (has_quorum members (own_vote me)) where
      high : (role : Role) → m.role ≡ role → M + least b ≤ now
      high Follower e = omega (arith, o.follower e, waited)
      high Candidate e = renewed b m times now waited (o.candidate e)
      high Leader e = absurd (not_leading e)

      by : (quorum : Bool) → Asked b (if quorum then win_memory server.store (stand_memory me m) else stand_memory me m)
          (if quorum then win (stand given times) else stand given times) now
      by true = leads b m times now o _ _ refl refl
      by false = stood b m times now o _ _ refl is refl refl (high m.role refl)

    -- where it steps down, the wait begins now, or it waited before
    down : (times_ : Times) → times_.since ≡ times.since → (role : Role) → m.role ≡ role
        → (((step_down given.now role times_).since ≡ now) ⊎ ((m.role ≡ Follower) × ((step_down given.now role times_).since ≡ times.since)))
        × ((step_down given.now role times_).sending ≡ times_.sending)
    down times_ since Follower e = (inr (e, since), refl)
    down times_ since Candidate e = (inl is, refl)
    down times_ since Leader e = (inl is, refl)

    votes : (request : Request) (granted : Bool) → After (TakeVoteRequest request granted)
    votes request granted = by (nat_lt server.store.term request.term) granted where
      by : (lower given_it : Bool) → Asked b (if lower then record m { role = Follower } else m)
          (if given_it then begin_wait given.now times else (if lower then step_down given.now m.role times else times)) now
      by true true = fell b m times now o _ _ refl (inl is) (inl (refl, refl))
      by true false = let d = down times refl m.role refl in
          fell b m times now o _ _ refl d.0 (inl (refl, ap (λ (f : ℕ → Option Sending). f p) d.1))
      by false true = stayed b m times now o _ _ refl (inr is) (inl (refl, refl)) (λ s none. s.free none)
      by false false = o

    appends : (request : Request) (verdict : Verdict) → After (TakeAppendRequest request verdict)
    appends request Outdated = o
    appends request Refused = fell b m times now o _ _ refl (inl is) (inl (refl, refl))
    appends request Held = fell b m times now o _ _ refl (inl is) (inl (refl, refl))
    appends request (Added entry) = fell b m times now o _ _ refl (inl is) (inl (refl, refl))

    -- a call that ended
    ended : (q : ℕ) (c : Bool) → (p == q) ≡ c
        → ((if c then None else m.pending p) ≡ m.pending p) × ((if c then None else times.sending p) ≡ times.sending p)
        ⊎ ((if c then None else m.pending p) ≡ None) × ((if c then None else times.sending p) ≡ None)
    ended q true e = inr (refl, refl)
    ended q false e = inl (refl, refl)

    still_ended : (q : ℕ) (c : Bool) → (p == q) ≡ c → (sending : Option Sending) → sending ≡ (if c then None else times.sending p)
        → ((if c then None else m.pending p) ≡ m.pending p) × (sending ≡ times.sending p) ⊎ ((if c then None else m.pending p) ≡ None) × (sending ≡ None)
    still_ended q true e sending f = inr (refl, f)
    still_ended q false e sending f = inl (refl, f)

    -- an answer of append requests ends no vote request
    append_answers : (answer : Answer) → Counts false true p server answer → After (TakeAppendAnswer answer)
    append_answers answer reason = by (nat_lt server.store.term answer.term) (acknowledges server answer) where
      idle : (s : Stands b m times now) → (c : Bool) → (p == answer.from) ≡ c → (if c then None else m.pending p) ≡ None → s.origin + 1000 * s.own ≤ now
      idle s true e none = never (sym (s.asks reason.asked (ap m.pending (eq_true p answer.from e) ∙ reason.pending)) ∙ reason.service)
      idle s false e none = s.free none

      by : (higher counted : Bool) → Asked b
          (if higher then stepped_down m answer.from else (if counted then matched_memory m answer else memory_without_call m answer.from))
          (if higher then step_down given.now m.role (end_call answer.from times) else end_call answer.from times) now
      by true counted = let d = down (end_call answer.from times) refl m.role refl in
          fell b m times now o _ _ refl d.0 (still_ended answer.from (p == answer.from) refl _ (ap (λ (f : ℕ → Option Sending). f p) d.1))
      by false true = stayed b m times now o _ _ refl (inl refl) (ended answer.from (p == answer.from) refl) (λ s none. idle s (p == answer.from) refl none)
      by false false = stayed b m times now o _ _ refl (inl refl) (ended answer.from (p == answer.from) refl) (λ s none. idle s (p == answer.from) refl none)

    vote_answers : (answer : Answer) → Counts false false p server answer → After (TakeVoteAnswer answer)
    vote_answers answer reason = by (nat_lt server.store.term answer.term) (counts server answer) (has_quorum members (votes_with m answer)) where
      other : (p == answer.from) ≡ false
      other = reason.other refl

      pends : (if p == answer.from then None else m.pending p) ≡ m.pending p
      pends = ap (λ (c : Bool). if c then None else m.pending p) other

      sends : (if p == answer.from then None else times.sending p) ≡ times.sending p
      sends = ap (λ (c : Bool). if c then None else times.sending p) other

      by : (higher counted quorum : Bool) → Asked b
          (if higher then stepped_down m answer.from else (if counted then (if quorum then win_memory server.store (with_vote m answer)
          else with_vote m answer) else memory_without_call m answer.from))
          (if higher then step_down given.now m.role (end_vote_call answer.from times)
          else (if counted && quorum then win (end_vote_call answer.from times) else end_vote_call answer.from times)) now
      by true counted quorum = let d = down (end_vote_call answer.from times) refl m.role refl in
          fell b m times now o _ _ refl d.0 (inl (pends, ap (λ (f : ℕ → Option Sending). f p) d.1 ∙ sends))
      by false true true = leads b m times now o _ _ refl refl
      by false true false = stayed b m times now o _ _ refl (inl refl) (inl (pends, sends)) (λ s none. s.free (sym pends ∙ none))
      by false false quorum = stayed b m times now o _ _ refl (inl refl) (inl (pends, sends)) (λ s none. s.free (sym pends ∙ none))

    gives_up : (q : ℕ) → ((p == q) ≡ true → (s : Sending) → times.sending p ≡ Some s → 1000 ≤ now - s.moment) → After (GiveUp q)
    gives_up q old = stayed b m times now o _ _ refl (inl refl) (ended q (p == q) refl) (λ s none. idle s (p == q) refl none) where
      waited : (s : Stands b m times now) → (p == q) ≡ true → (r : Option Request) → m.pending p ≡ r → (sending : Option Sending) → times.sending p ≡ sending
          → s.origin + 1000 * s.own ≤ now
      waited s e None pending sending sent = s.free pending
      waited s e (Some r) pending None sent = never (ap (λ (x : Option Sending). is_some x) (sym sent) ∙ (o.kept ∙ ap (λ (x : Option Request). is_some x) pending))
      waited s e (Some r) pending (Some sending) sent = omega (arith, s.waits sending sent, old e sending sent)

      idle : (s : Stands b m times now) → (c : Bool) → (p == q) ≡ c → (if c then None else m.pending p) ≡ None → s.origin + 1000 * s.own ≤ now
      idle s true e none = waited s e (m.pending p) refl (times.sending p) refl
      idle s false e none = s.free none

    -- a call to another node
    calls_other : (q : ℕ) → m.role ≡ Candidate → (p == q) ≡ false → After (CallForVote q)
    calls_other q role other = stayed b m times now o _ _ refl (inl refl) (inl (
      ap (λ (c : Bool). if c then Some (vote_request me number server.store q) else m.pending p) other,
      ap (λ (c : Bool). if c then Some (record { id = given.id; moment = given.now }) else times.sending p) other,
    )) (λ s none. s.free (sym (ap (λ (c : Bool). if c then Some (vote_request me number server.store q) else m.pending p) other) ∙ none))

    calls_to_append : (q previous : ℕ) (with_entry : Bool) → m.role ≡ Leader → After (CallToAppend q previous with_entry)
    calls_to_append q previous with_entry role = leads b m times now o _ _ role (by (p == q)) where
      by : (c : Bool) → is_some (if c then Some (record { id = given.id; moment = given.now }) else times.sending p)
          ≡ is_some (if c then Some (append_request me number server.store q previous with_entry) else m.pending p)
      by true = refl
      by false = o.kept

    pub any_move : (move : Move) → IsReason false p server times now move → After move
    any_move TimeOut reason = stands reason.0 reason.1
    any_move (TakeVoteRequest request granted) reason = votes request granted
    any_move (TakeVoteAnswer answer) reason = vote_answers answer reason
    any_move (TakeAppendRequest request verdict) reason = appends request verdict
    any_move (TakeAppendAnswer answer) reason = append_answers answer reason
    any_move (ProposeEntry entry) reason = o
    any_move (CommitTo index) reason = o
    any_move TellPair reason = same _ refl refl
    any_move TellNothing reason = same _ refl refl
    any_move (CallForVote q) reason = calls_other q reason.0 (reason.1 refl)
    any_move (CallToAppend q previous with_entry) reason = calls_to_append q previous with_entry reason.0
    any_move (AnswerAgain place) reason = o
    any_move (GiveUp q) reason = gives_up q reason

  -- ---- a call

  some_request : (x y : Request) → Some x ≡ Some y → x ≡ y
  some_request x y e = cc (e)

  some_sending : (x y : Sending) → Some x ≡ Some y → x ≡ y
  some_sending x y e = cc (e)

  module _ (server : RaftServer) (times : Times) (now : ℕ) (members : List ℕ) (me number : ℕ) (given : HandedIn) (is : given.now ≡ now)
      (role : server.memory.role ≡ Candidate) where
    abbrev asked : Request
    asked = vote_request me number server.store p

    itself : (p == p) ≡ true
    itself = elim (eqb_tells p p) [ inl s ↦ s.0 | inr apart ↦ absurd (apart.1 refl) ]

    pends : (if p == p then Some asked else server.memory.pending p) ≡ Some asked
    pends = ap (λ (c : Bool). if c then Some asked else server.memory.pending p) itself

    sends : (if p == p then Some (record { id = given.id; moment = given.now }) else times.sending p) ≡ Some (record { id = given.id; moment = given.now })
    sends = ap (λ (c : Bool). if c then Some (record { id = given.id; moment = given.now }) else times.sending p) itself

    by_call : (b before own origin : ℕ) → b ≡ before + own → M + least before ≤ origin
        → ((origin ≤ times.since) × (origin ≤ now)) ⊎ ((before ≡ 0) × (origin ≡ M + 1000)) → origin + 1000 * own ≤ now + 1000 → M + least b ≤ now + 2000
        → Asked b (memory_after members me number server (CallForVote p)) (times_after members me given server (CallForVote p) times) now
    by_call b before own origin sum start began past low = record {
      kept = ap (λ (x : Option Sending). is_some x) sends ∙ ap (λ (x : Option Request). is_some x) (sym pends);
      low = low;
      follower = λ e. absurd (cc (sym role ∙ e));
      candidate = λ e. record {
        before = before;
        own = own;
        origin = origin;
        sum = sum;
        start = start;
        began = began;
        past = past;
        free = λ none. absurd (cc (sym pends ∙ none));
        waits = λ s sent. omega (arith, past, is, ap (λ (x : Sending). x.moment) (some_sending _ s (sym sends ∙ sent)));
        asks = λ r pending. ap (λ (x : Request). x.append) (sym (some_request asked r (sym pends ∙ pending)));
      };
    }

    one_more : (b : ℕ) → server.memory.pending p ≡ None → Asked b server.memory times now
        → Asked (suc b) (memory_after members me number server (CallForVote p)) (times_after members me given server (CallForVote p) times) now
    one_more b none o =
        let s = o.candidate role in
        by_call (suc b) s.before (suc s.own) s.origin (omega (arith, s.sum)) s.start s.began (omega (arith, s.free none))
        (omega (arith, s.start, s.free none, one_by_one s.before (suc s.own), ap (λ (n : ℕ). least (suc n)) s.sum))

    first : M ≡ now → Asked 0 (memory_after members me number server (CallForVote p)) (times_after members me given server (CallForVote p) times) now
    first e = by_call 0 0 0 (M + 1000) refl (omega arith) (inr (refl, refl)) (omega (arith, e)) (omega (arith, e))

  round : (b : ℕ) (m : Memory) (times : Times) (now : ℕ) → Asked b m times now → m.role ≡ Candidate → m.pending p ≡ None → 30 ≤ b → M + 20000 ≤ now
  round b m times now o role none many =
      let s = o.candidate role in
      omega (arith, s.start, s.free none, one_by_one s.before s.own, ap least s.sum, many)

-- 31 vote requests to a node that does not answer take 20 s
pub spaced_votes : (p : ℕ) → IsSpaced false p 20000 (λ M b m times now. Asked p M b m times now)
spaced_votes p = record {
  later = λ M b m times now then_ less o. later p M b m times now then_ less o;
  moves = λ M b server times now o members me number given is move reason. any_move p M b server times now o members me number given is move reason;
  calls = calls;
  begins = begins;
  far = far;
  passed = λ M b m times now o many. omega (arith, o.low, thirty b many);
}
  where
    calls : (M b : ℕ) (server : RaftServer) (times : Times) (now : ℕ) → Asked p M b server.memory times now → (members : List ℕ) (me number : ℕ)
        (given : HandedIn) → given.now ≡ now → (move : Move) → IsOwnCall false p server.memory move
        → Asked p M (suc b) (memory_after members me number server move) (times_after members me given server move times) now
    calls M b server times now o members me number given is (CallForVote q) own = by q own.2 own.1 where
      by : (q : ℕ) → q ≡ p → server.memory.pending q ≡ None
          → Asked p M (suc b) (memory_after members me number server (CallForVote q)) (times_after members me given server (CallForVote q) times) now
      by q e none = subst (λ (n : ℕ). Asked p M (suc b) (memory_after members me number server (CallForVote n)) (times_after members me given server (CallForVote n) times) now)
          (sym e) (one_more p M server times now members me number given is own.0 b (ap server.memory.pending (sym e) ∙ none) o)
    calls M b server times now o members me number given is move own = absurd own

    begins : (server : RaftServer) (times : Times) (now : ℕ) → times.since ≤ now → (members : List ℕ) (me number : ℕ)
        (given : HandedIn) → given.now ≡ now → (move : Move) → IsOwnCall false p server.memory move
        → Asked p now 0 (memory_after members me number server move) (times_after members me given server move times) now
    begins server times now low members me number given is (CallForVote q) own =
        subst (λ (n : ℕ). Asked p now 0 (memory_after members me number server (CallForVote n)) (times_after members me given server (CallForVote n) times) now)
        (sym own.2) (first p now server times now members me number given is own.0 refl)
    begins server times now low members me number given is move own = absurd own

    far : (M b : ℕ) (m : Memory) (times : Times) (now : ℕ) → Asked p M b m times now → (move : Move) → IsOwnCall false p m move → 30 ≤ b → M + 20000 ≤ now
    far M b m times now o (CallForVote q) own many = round p M b m times now o own.0 (ap m.pending (sym own.2) ∙ own.1) many
    far M b m times now o move own many = absurd own
