-- Calls of a leader to a node that does not answer come 1,000 ms apart: what one move keeps of it.
use Rattle.std.proofs.Common.{◌≡◌, ℕ, suc, ◌+◌, ◌*◌, ◌≤◌, Bool, true, false, List, refl, sym, ap, subst, ◌∙◌, arith, ◌⊎◌, inl, inr, Option, Some, None}
use Rattle.std.specs.Prelude.{◌-◌, ◌==◌, ◌&&◌, is_some, nat_lt, if◌then◌else◌}
use Rattle.std.proofs.lemmas.Bool.Decides.{eqb_tells}
use Rattle.raft_core.specs.Times.{HandedIn, Sending, Times, begin_wait, end_call, end_vote_call, stand, step_down, times_after, win}
use Rattle.raft_model.specs.Messages.{Answer, Request}
use Rattle.raft_model.specs.Moves.{Move, memory_after}
use Rattle.raft_model.specs.Moves.Appending.{Verdict, acknowledges, matched_memory}
use Rattle.raft_model.specs.Moves.Appending.Verdict.{Added, Held, Outdated, Refused}
use Rattle.raft_model.specs.Moves.Elections.{counts, has_quorum, is_candidate, memory_without_call, own_vote, stand_memory, stepped_down, votes_with, win_memory, with_vote}
use Rattle.raft_model.specs.Moves.Leading.{append_request, vote_request}
use Rattle.raft_model.specs.Moves.Move.{AnswerAgain, CallForVote, CallToAppend, CommitTo, GiveUp, ProposeEntry, TakeAppendAnswer, TakeAppendRequest, TakeVoteAnswer, TakeVoteRequest, TellNothing, TellPair, TimeOut}
use Rattle.raft_model.specs.Server.{Memory, RaftServer, Role}
use Rattle.raft_model.specs.Server.Role.{Candidate, Follower, Leader}
use Rattle.bus_agreement.proofs.Lists.{never}
use Rattle.bus_physics.proofs.StepCalls.{IsOwnCall, IsReason, IsSpaced}

eqb_is : (a b : ℕ) → (a == b) ≡ true → a ≡ b
eqb_is a b e = elim (eqb_tells a b) [ inl s ↦ s.1 | inr apart ↦ never (sym apart.0 ∙ e) ]

-- to node p, from the first call at moment M on, b more calls were made and none was answered
module _ (p M : ℕ) where
  abbrev pub floor : ℕ → ℕ
  floor b = M + 1000 * b

  pub record Open (b : ℕ) (m : Memory) (times : Times) (now : ℕ) : Type 0 where
    pub low : floor b ≤ now
    pub since : times.since ≤ now
    pub kept : is_some (times.sending p) ≡ is_some (m.pending p)
    pub waits : (r : Request) (s : Sending) → m.pending p ≡ Some r → times.sending p ≡ Some s → r.append ≡ true → floor b ≤ s.moment
    pub follower : m.role ≡ Follower → floor b ≤ times.since
    pub candidate : m.role ≡ Candidate → floor b + 1000 ≤ times.since
    pub leader : m.role ≡ Leader → m.pending p ≡ None → floor b + 1000 ≤ now
    pub leads : (r : Request) → m.role ≡ Leader → m.pending p ≡ Some r → r.append ≡ true

  -- what waits for the node stays, or is none
  abbrev pub Stays : Memory → Times → Memory → Times → Type 0
  Stays m times n later = ((n.pending p ≡ m.pending p) × (later.sending p ≡ times.sending p)) ⊎ ((n.pending p ≡ None) × (later.sending p ≡ None))

  module _ (b : ℕ) (m : Memory) (times : Times) (now : ℕ) (o : Open b m times now) (n : Memory) (later : Times) where
    kept_then : Stays m times n later → is_some (later.sending p) ≡ is_some (n.pending p)
    kept_then (inl same) = ap (λ (s : Option Sending). is_some s) same.1 ∙ (o.kept ∙ ap (λ (r : Option Request). is_some r) (sym same.0))
    kept_then (inr none) = ap (λ (s : Option Sending). is_some s) none.1 ∙ ap (λ (r : Option Request). is_some r) (sym none.0)

    waits_then : Stays m times n later → (r : Request) (s : Sending) → n.pending p ≡ Some r → later.sending p ≡ Some s → r.append ≡ true → floor b ≤ s.moment
    waits_then (inl same) r s pending sent append = o.waits r s (sym same.0 ∙ pending) (sym same.1 ∙ sent) append
    waits_then (inr none) r s pending sent append = absurd (cc (sym none.0 ∙ pending))

    -- it becomes a follower
    pub fell : n.role ≡ Follower → floor b ≤ later.since → later.since ≤ now → Stays m times n later → Open b n later now
    fell role since before stays = record {
      low = o.low;
      since = before;
      kept = kept_then stays;
      waits = waits_then stays;
      follower = λ e. since;
      candidate = λ e. absurd (cc (sym role ∙ e));
      leader = λ e none. absurd (cc (sym role ∙ e));
      leads = λ r e pending. absurd (cc (sym role ∙ e));
    }

    -- the role stays
    pub stayed : n.role ≡ m.role → times.since ≤ later.since → later.since ≤ now → (stays : Stays m times n later)
        → (m.role ≡ Leader → n.pending p ≡ None → floor b + 1000 ≤ now) → Open b n later now
    stayed role since before stays idle = record {
      low = o.low;
      since = before;
      kept = kept_then stays;
      waits = waits_then stays;
      follower = λ e. omega (arith, since, o.follower (sym role ∙ e));
      candidate = λ e. omega (arith, since, o.candidate (sym role ∙ e));
      leader = λ e none. idle (sym role ∙ e) none;
      leads = λ r e pending. by stays r (sym role ∙ e) pending;
    }
      where
        by : Stays m times n later → (r : Request) → m.role ≡ Leader → n.pending p ≡ Some r → r.append ≡ true
        by (inl same) r e pending = o.leads r e (sym same.0 ∙ pending)
        by (inr none) r e pending = absurd (cc (sym none.0 ∙ pending))

    pub unchanged : n.role ≡ m.role → later.since ≡ times.since → n.pending p ≡ m.pending p → later.sending p ≡ times.sending p → Open b n later now
    unchanged role since pending sent = stayed role (omega (arith, since)) (omega (arith, since, o.since)) (inl (pending, sent))
        (λ e none. o.leader e (sym pending ∙ none))

    -- it leads, and nothing waits
    pub won : n.role ≡ Leader → later.since ≤ now → n.pending p ≡ None → later.sending p ≡ None → floor b + 1000 ≤ now → Open b n later now
    won role since none unsent high = record {
      low = o.low;
      since = since;
      kept = kept_then (inr (none, unsent));
      waits = waits_then (inr (none, unsent));
      follower = λ e. absurd (cc (sym role ∙ e));
      candidate = λ e. absurd (cc (sym role ∙ e));
      leader = λ e quiet. high;
      leads = λ r e pending. absurd (cc (sym none ∙ pending));
    }

    -- it stands for election
    pub stood : n.role ≡ Candidate → later.since ≡ now → n.pending p ≡ None → later.sending p ≡ None → floor b + 1000 ≤ now → Open b n later now
    stood role since none unsent high = record {
      low = o.low;
      since = omega (arith, since);
      kept = kept_then (inr (none, unsent));
      waits = waits_then (inr (none, unsent));
      follower = λ e. absurd (cc (sym role ∙ e));
      candidate = λ e. omega (arith, since, high);
      leader = λ e quiet. high;
      leads = λ r e pending. absurd (cc (sym none ∙ pending));
    }

  -- ---- moves

  module _ (b : ℕ) (server : RaftServer) (times : Times) (now : ℕ) (o : Open b server.memory times now) (members : List ℕ) (me number : ℕ) where
    abbrev m : Memory
    m = server.memory

    abbrev After : HandedIn → Move → Type 0
    After given move = Open b (memory_after members me number server move) (times_after members me given server move times) now

    -- a call that ended
    ended : (q : ℕ) (same : Bool) → (p == q) ≡ same
        → ((if same then None else server.memory.pending p) ≡ server.memory.pending p) × ((if same then None else times.sending p) ≡ times.sending p)
        ⊎ ((if same then None else server.memory.pending p) ≡ None) × ((if same then None else times.sending p) ≡ None)
    ended q true e = inr (refl, refl)
    ended q false e = inl (refl, refl)

    pub stands : (given : HandedIn) → given.now ≡ now → (server.memory.role ≡ Leader → ⊥) → times.since + 2000 ≤ now → After given TimeOut
    stands given is not_leading waited = by (has_quorum members (own_vote me)) where
      high : (role : Role) → server.memory.role ≡ role → floor b + 1000 ≤ now
      high Follower e = omega (arith, o.follower e, waited)
      high Candidate e = omega (arith, o.candidate e, o.since)
      high Leader e = absurd (not_leading e)

      by : (quorum : Bool) → Open b (if quorum then win_memory server.store (stand_memory me server.memory) else stand_memory me server.memory)
          (if quorum then win (stand given times) else stand given times) now
      by true = won b server.memory times now o _ _ refl (omega (arith, is)) refl refl (high server.memory.role refl)
      by false = stood b server.memory times now o _ _ refl is refl refl (high server.memory.role refl)

    pub votes : (given : HandedIn) → given.now ≡ now → (request : Request) (granted : Bool) → After given (TakeVoteRequest request granted)
    votes given is request granted = by (nat_lt server.store.term request.term) granted where
      fallen : floor b ≤ given.now
      fallen = omega (arith, is, o.low)

      down : (role : Role) → server.memory.role ≡ role → (floor b ≤ (step_down given.now role times).since) × ((step_down given.now role times).since ≤ now)
          × ((step_down given.now role times).sending ≡ times.sending)
      down Follower e = (o.follower e, o.since, refl)
      down Candidate e = (fallen, omega (arith, is), refl)
      down Leader e = (fallen, omega (arith, is), refl)

      by : (lower given_it : Bool) → Open b (if lower then record server.memory { role = Follower } else server.memory)
          (if given_it then begin_wait given.now times else (if lower then step_down given.now server.memory.role times else times)) now
      by true true = fell b server.memory times now o _ _ refl fallen (omega (arith, is)) (inl (refl, refl))
      by true false =
          let d = down server.memory.role refl in
          fell b server.memory times now o _ _ refl d.0 d.1 (inl (refl, ap (λ (f : ℕ → Option Sending). f p) d.2))
      by false true = stayed b server.memory times now o _ _ refl (omega (arith, is, o.since)) (omega (arith, is)) (inl (refl, refl)) o.leader
      by false false = o

    pub appends : (given : HandedIn) → given.now ≡ now → (request : Request) (verdict : Verdict) → After given (TakeAppendRequest request verdict)
    appends given is request Outdated = o
    appends given is request Refused = fell b server.memory times now o _ _ refl (omega (arith, is, o.low)) (omega (arith, is)) (inl (refl, refl))
    appends given is request Held = fell b server.memory times now o _ _ refl (omega (arith, is, o.low)) (omega (arith, is)) (inl (refl, refl))
    appends given is request (Added entry) = fell b server.memory times now o _ _ refl (omega (arith, is, o.low)) (omega (arith, is)) (inl (refl, refl))

    -- the same, of a member whose call to a node ended
    down_of : (moment : ℕ) → moment ≡ now → (later : Times) → later.since ≡ times.since → (role : Role) → server.memory.role ≡ role
        → (floor b ≤ (step_down moment role later).since) × ((step_down moment role later).since ≤ now) × ((step_down moment role later).sending ≡ later.sending)
    down_of moment is later since Follower e = (omega (arith, since, o.follower e), omega (arith, since, o.since), refl)
    down_of moment is later since Candidate e = (omega (arith, is, o.low), omega (arith, is), refl)
    down_of moment is later since Leader e = (omega (arith, is, o.low), omega (arith, is), refl)

    -- an answer of another node
    pub append_answers : (given : HandedIn) → given.now ≡ now → (answer : Answer) → (p == answer.from) ≡ false → After given (TakeAppendAnswer answer)
    append_answers given is answer other = by (nat_lt server.store.term answer.term) (acknowledges server answer) where
      pends : (if p == answer.from then None else server.memory.pending p) ≡ server.memory.pending p
      pends = ap (λ (c : Bool). if c then None else server.memory.pending p) other

      sends : (if p == answer.from then None else times.sending p) ≡ times.sending p
      sends = ap (λ (c : Bool). if c then None else times.sending p) other

      by : (higher counted : Bool) → Open b
          (if higher then stepped_down server.memory answer.from else (if counted then matched_memory server.memory answer else memory_without_call server.memory answer.from))
          (if higher then step_down given.now server.memory.role (end_call answer.from times) else end_call answer.from times) now
      by true counted =
          let d = down_of given.now is (end_call answer.from times) refl server.memory.role refl in
          fell b server.memory times now o _ _ refl d.0 d.1 (inl (pends, ap (λ (f : ℕ → Option Sending). f p) d.2 ∙ sends))
      by false true = unchanged b server.memory times now o _ _ refl refl pends sends
      by false false = unchanged b server.memory times now o _ _ refl refl pends sends

    candidate_is : (role : Role) → is_candidate role ≡ true → role ≡ Candidate
    candidate_is Follower e = never e
    candidate_is Candidate e = refl
    candidate_is Leader e = never e

    first_true : (x y : Bool) → (x && y) ≡ true → x ≡ true
    first_true true y e = refl
    first_true false y e = never e

    -- an answer to a vote request
    pub vote_answers : (given : HandedIn) → given.now ≡ now → (answer : Answer)
        → ((p == answer.from) ≡ true → (r : Request) × (server.memory.pending p ≡ Some r) × (r.append ≡ false)) → After given (TakeVoteAnswer answer)
    vote_answers given is answer mine =
        by (nat_lt server.store.term answer.term) (counts server answer) refl (has_quorum members (votes_with server.memory answer)) where
          counted_role : counts server answer ≡ true → server.memory.role ≡ Candidate
          counted_role e = candidate_is server.memory.role (first_true (is_candidate server.memory.role) _ e)

          idle : server.memory.role ≡ Leader → (same : Bool) → (p == answer.from) ≡ same → (if same then None else server.memory.pending p) ≡ None → floor b + 1000 ≤ now
          idle leads true e none = let r = mine e in never (sym r.2 ∙ o.leads r.0 leads r.1)
          idle leads false e none = o.leader leads none

          by : (higher counted : Bool) → counts server answer ≡ counted → (quorum : Bool) → Open b
              (if higher then stepped_down server.memory answer.from else (if counted then (if quorum then win_memory server.store (with_vote server.memory answer)
              else with_vote server.memory answer) else memory_without_call server.memory answer.from))
              (if higher then step_down given.now server.memory.role (end_vote_call answer.from times)
              else (if counted && quorum then win (end_vote_call answer.from times) else end_vote_call answer.from times)) now
          by true counted e quorum =
              let d = down_of given.now is (end_vote_call answer.from times) refl server.memory.role refl in
              fell b server.memory times now o _ _ refl d.0 d.1 (fallen (ended answer.from (p == answer.from) refl) (ap (λ (f : ℕ → Option Sending). f p) d.2))
            where
              fallen : {later : Option Sending} → ((if p == answer.from then None else server.memory.pending p) ≡ server.memory.pending p)
                  × ((if p == answer.from then None else times.sending p) ≡ times.sending p)
                  ⊎ ((if p == answer.from then None else server.memory.pending p) ≡ None) × ((if p == answer.from then None else times.sending p) ≡ None)
                  → later ≡ (if p == answer.from then None else times.sending p)
                  → (((if p == answer.from then None else server.memory.pending p) ≡ server.memory.pending p) × (later ≡ times.sending p))
                  ⊎ (((if p == answer.from then None else server.memory.pending p) ≡ None) × (later ≡ None))
              fallen (inl same) f = inl (same.0, f ∙ same.1)
              fallen (inr none) f = inr (none.0, f ∙ none.1)
          by false true e true = won b server.memory times now o _ _ refl o.since refl refl (omega (arith, o.candidate (counted_role e), o.since))
          by false true e false = stayed b server.memory times now o _ _ refl (omega arith) o.since (ended answer.from (p == answer.from) refl)
              (λ leads none. absurd (cc (sym leads ∙ counted_role e)))
          by false false e quorum = stayed b server.memory times now o _ _ refl (omega arith) o.since (ended answer.from (p == answer.from) refl)
              (λ leads none. idle leads (p == answer.from) refl none)

    pub gives_up : (given : HandedIn) (q : ℕ) → ((p == q) ≡ true → (s : Sending) → times.sending p ≡ Some s → 1000 ≤ now - s.moment) → After given (GiveUp q)
    gives_up given q old = stayed b server.memory times now o _ _ refl (omega arith) o.since (ended q (p == q) refl) (λ leads none. idle leads (p == q) refl none) where
      waited : server.memory.role ≡ Leader → (p == q) ≡ true → (r : Option Request) → server.memory.pending p ≡ r → (s : Option Sending) → times.sending p ≡ s
          → floor b + 1000 ≤ now
      waited leads e None pending s sent = o.leader leads pending
      waited leads e (Some r) pending None sent = never (ap (λ (x : Option Sending). is_some x) (sym sent) ∙ (o.kept ∙ ap (λ (x : Option Request). is_some x) pending))
      waited leads e (Some r) pending (Some s) sent = omega (arith, o.waits r s pending sent (o.leads r leads pending), old e s sent)

      idle : server.memory.role ≡ Leader → (same : Bool) → (p == q) ≡ same → (if same then None else server.memory.pending p) ≡ None → floor b + 1000 ≤ now
      idle leads true e none = waited leads e (server.memory.pending p) refl (times.sending p) refl
      idle leads false e none = o.leader leads none

    pub tells : (given : HandedIn) → After given TellPair × After given TellNothing
    tells given = (unchanged b server.memory times now o _ _ refl refl refl refl, unchanged b server.memory times now o _ _ refl refl refl refl)

    some_request : (x y : Request) → Some x ≡ Some y → x ≡ y
    some_request x y e = cc (e)

    some_sending : (x y : Sending) → Some x ≡ Some y → x ≡ y
    some_sending x y e = cc (e)

    pub calls_for_vote : (given : HandedIn) (q : ℕ) → server.memory.role ≡ Candidate → After given (CallForVote q)
    calls_for_vote given q stands_now = record {
      low = o.low;
      since = o.since;
      kept = kept_by (p == q);
      waits = waits_by (p == q);
      follower = λ e. o.follower e;
      candidate = λ e. o.candidate e;
      leader = λ e none. absurd (cc (sym stands_now ∙ e));
      leads = λ r e pending. absurd (cc (sym stands_now ∙ e));
    }
      where
        asked : Request
        asked = vote_request me number server.store q

        kept_by : (c : Bool) → is_some (if c then Some (record { id = given.id; moment = given.now }) else times.sending p)
            ≡ is_some (if c then Some (vote_request me number server.store q) else server.memory.pending p)
        kept_by true = refl
        kept_by false = o.kept

        waits_by : (c : Bool) (r : Request) (s : Sending) → (if c then Some (vote_request me number server.store q) else server.memory.pending p) ≡ Some r
            → (if c then Some (record { id = given.id; moment = given.now }) else times.sending p) ≡ Some s → r.append ≡ true → floor b ≤ s.moment
        waits_by true r s pending sent append = never (ap (λ (x : Request). x.append) (some_request (vote_request me number server.store q) r pending) ∙ append)
        waits_by false r s pending sent append = o.waits r s pending sent append

    -- one more call to the node, or one to another
    pub calls_to_append : (given : HandedIn) → given.now ≡ now → (q previous : ℕ) (with_entry : Bool) → server.memory.role ≡ Leader
        → ((p == q) ≡ true → server.memory.pending p ≡ None)
        → Open (if p == q then suc b else b) (memory_after members me number server (CallToAppend q previous with_entry))
        (times_after members me given server (CallToAppend q previous with_entry) times) now
    calls_to_append given is q previous with_entry leading none = by (p == q) refl where
      asked : Request
      asked = append_request me number server.store q previous with_entry

      by : (same : Bool) → (p == q) ≡ same → Open (if same then suc b else b)
          (memory_after members me number server (CallToAppend q previous with_entry)) (times_after members me given server (CallToAppend q previous with_entry) times) now
      by true e =
          let high : floor b + 1000 ≤ now = o.leader leading (none e) in
          let pends : (if p == q then Some asked else server.memory.pending p) ≡ Some asked = ap (λ (c : Bool). if c then Some asked else server.memory.pending p) e in
          let sends : (if p == q then Some (record { id = given.id; moment = given.now }) else times.sending p) ≡ Some (record { id = given.id; moment = given.now }) =
          ap (λ (c : Bool). if c then Some (record { id = given.id; moment = given.now }) else times.sending p) e in
          record {
            low = omega (arith, high);
            since = o.since;
            kept = ap (λ (x : Option Sending). is_some x) sends ∙ ap (λ (x : Option Request). is_some x) (sym pends);
            waits = λ r s pending sent append. omega (arith, high, is, ap (λ (x : Sending). x.moment) (some_sending _ s (sym sends ∙ sent)));
            follower = λ f. absurd (cc (sym leading ∙ f));
            candidate = λ f. absurd (cc (sym leading ∙ f));
            leader = λ f quiet. absurd (cc (sym pends ∙ quiet));
            leads = λ r f pending. ap (λ (x : Request). x.append) (sym (some_request asked r (sym pends ∙ pending)));
          }
      by false e = unchanged b server.memory times now o _ _ refl refl (ap (λ (c : Bool). if c then Some asked else server.memory.pending p) e)
          (ap (λ (c : Bool). if c then Some (record { id = given.id; moment = given.now }) else times.sending p) e)

    -- any move that is no call to the node, and no answer of it to one
    pub any_move : (given : HandedIn) → given.now ≡ now → (move : Move) → IsReason true p server times now move → After given move
    any_move given is TimeOut reason = stands given is reason.0 reason.1
    any_move given is (TakeVoteRequest request granted) reason = votes given is request granted
    any_move given is (TakeVoteAnswer answer) reason = vote_answers given is answer
        (λ here. (reason.asked, ap server.memory.pending (eqb_is p answer.from here) ∙ reason.pending, reason.service))
    any_move given is (TakeAppendRequest request verdict) reason = appends given is request verdict
    any_move given is (TakeAppendAnswer answer) reason = append_answers given is answer (reason.other refl)
    any_move given is (ProposeEntry entry) reason = o
    any_move given is (CommitTo index) reason = o
    any_move given is TellPair reason = (tells given).0
    any_move given is TellNothing reason = (tells given).1
    any_move given is (CallForVote q) reason = calls_for_vote given q reason.0
    any_move given is (CallToAppend q previous with_entry) reason =
        subst (λ (c : Bool). Open (if c then suc b else b) (memory_after members me number server (CallToAppend q previous with_entry))
        (times_after members me given server (CallToAppend q previous with_entry) times) now) (reason.1 refl)
        (calls_to_append given is q previous with_entry reason.0 (λ here. never (sym (reason.1 refl) ∙ here)))
    any_move given is (AnswerAgain place) reason = o
    any_move given is (GiveUp q) reason = gives_up given q reason

  pub later : (b : ℕ) (m : Memory) (times : Times) (now then_ : ℕ) → now ≤ then_ → Open b m times now → Open b m times then_
  later b m times now then_ less o = record {
    low = omega (arith, less, o.low);
    since = omega (arith, less, o.since);
    kept = o.kept;
    waits = o.waits;
    follower = o.follower;
    candidate = o.candidate;
    leader = λ e none. omega (arith, less, o.leader e none);
    leads = o.leads;
  }

  itself : (p == p) ≡ true
  itself = elim (eqb_tells p p) [ inl s ↦ s.0 | inr apart ↦ absurd (apart.1 refl) ]

  -- the first call
  pub first : (server : RaftServer) (times : Times) (now : ℕ) → M ≡ now → times.since ≤ now → (members : List ℕ) (me number : ℕ) (given : HandedIn) → given.now ≡ now
      → (previous : ℕ) (with_entry : Bool) → server.memory.role ≡ Leader
      → Open 0 (memory_after members me number server (CallToAppend p previous with_entry)) (times_after members me given server (CallToAppend p previous with_entry) times) now
  first server times now first_now since members me number given is previous with_entry leading =
      let asked : Request = append_request me number server.store p previous with_entry in
      let pends : (if p == p then Some asked else server.memory.pending p) ≡ Some asked = ap (λ (c : Bool). if c then Some asked else server.memory.pending p) itself in
      let sends : (if p == p then Some (record { id = given.id; moment = given.now }) else times.sending p) ≡ Some (record { id = given.id; moment = given.now }) =
      ap (λ (c : Bool). if c then Some (record { id = given.id; moment = given.now }) else times.sending p) itself in
      record {
        low = omega (arith, first_now);
        since = since;
        kept = ap (λ (x : Option Sending). is_some x) sends ∙ ap (λ (x : Option Request). is_some x) (sym pends);
        waits = λ r s pending sent append. omega (arith, first_now, is, ap (λ (x : Sending). x.moment) (the_sending _ s (sym sends ∙ sent)));
        follower = λ f. absurd (cc (sym leading ∙ f));
        candidate = λ f. absurd (cc (sym leading ∙ f));
        leader = λ f quiet. absurd (cc (sym pends ∙ quiet));
        leads = λ r f pending. ap (λ (x : Request). x.append) (sym (the_request asked r (sym pends ∙ pending)));
      }
    where
      the_request : (x y : Request) → Some x ≡ Some y → x ≡ y
      the_request x y e = cc (e)

      the_sending : (x y : Sending) → Some x ≡ Some y → x ≡ y
      the_sending x y e = cc (e)

-- 31 append requests to a node that does not answer take 31 s
pub spaced_appends : (p : ℕ) → IsSpaced true p 31000 (λ M b m times now. Open p M b m times now)
spaced_appends p = record {
  later = λ M b m times now then_ less o. later p M b m times now then_ less o;
  moves = λ M b server times now o members me number given is move reason. any_move p M b server times now o members me number given is move reason;
  calls = calls;
  begins = begins;
  far = far;
  passed = λ M b m times now o many. omega (arith, o.low, many);
}
  where
    calls : (M b : ℕ) (server : RaftServer) (times : Times) (now : ℕ) → Open p M b server.memory times now → (members : List ℕ) (me number : ℕ)
        (given : HandedIn) → given.now ≡ now → (move : Move) → IsOwnCall true p server.memory move
        → Open p M (suc b) (memory_after members me number server move) (times_after members me given server move times) now
    calls M b server times now o members me number given is (CallToAppend q previous with_entry) own =
        let here : (p == q) ≡ true = ap (λ (n : ℕ). p == n) own.2 ∙ itself p M in
        subst (λ (c : Bool). Open p M (if c then suc b else b) (memory_after members me number server (CallToAppend q previous with_entry))
        (times_after members me given server (CallToAppend q previous with_entry) times) now) here
        (calls_to_append p M b server times now o members me number given is q previous with_entry own.0
        (λ e. ap server.memory.pending (sym own.2) ∙ own.1))
    calls M b server times now o members me number given is move own = absurd own

    begins : (server : RaftServer) (times : Times) (now : ℕ) → times.since ≤ now → (members : List ℕ) (me number : ℕ)
        (given : HandedIn) → given.now ≡ now → (move : Move) → IsOwnCall true p server.memory move
        → Open p now 0 (memory_after members me number server move) (times_after members me given server move times) now
    begins server times now low members me number given is (CallToAppend q previous with_entry) own =
        subst (λ (n : ℕ). Open p now 0 (memory_after members me number server (CallToAppend n previous with_entry))
        (times_after members me given server (CallToAppend n previous with_entry) times) now)
        (sym own.2) (first p now server times now refl low members me number given is previous with_entry own.0)
    begins server times now low members me number given is move own = absurd own

    far : (M b : ℕ) (m : Memory) (times : Times) (now : ℕ) → Open p M b m times now → (move : Move) → IsOwnCall true p m move → 30 ≤ b → M + 31000 ≤ now
    far M b m times now o (CallToAppend q previous with_entry) own many = omega (arith, o.leader own.0 (ap m.pending (sym own.2) ∙ own.1), many)
    far M b m times now o move own many = absurd own
