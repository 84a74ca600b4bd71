-- A peer catches up with a leader, call by call.
use Rattle.std.proofs.Common.{◌≡◌, ◌≢◌, ℕ, zero, suc, ◌+◌, ◌-◌, ◌<◌, ◌≤◌, Bool, true, List, [], ◌∷◌, ◌++◌, ◌⊎◌, inl, inr, refl, sym, ◌∙◌, ap, subst, arith, get_or, length, length-take, take, Some, None, max, min}
use Rattle.std.specs.Prelude.{if◌then◌else◌}
use Rattle.std.proofs.lemmas.Bool.Decides.{eqb_tells}
use Rattle.std.proofs.lemmas.List.{take_all, take_more, take-take, get_or-take}
use Rattle.can_frame.specs.declared.entry.Entry.{Entry}
use Rattle.can_frame.specs.Log.{IsInjective, blank}
use Rattle.raft_model.specs.Decisions.{verdict_on}
use Rattle.raft_model.specs.Handlers.{server_after}
use Rattle.raft_model.specs.Invariants.{SoundStore}
use Rattle.raft_model.specs.Lists.{at, at_here, at_other}
use Rattle.raft_model.specs.Log.{IsRising, Same, term_at}
use Rattle.raft_model.specs.Messages.{Answer, Request, items, reach}
use Rattle.raft_model.specs.Moves.Appending.{HasPrevious, IsCurrent, IsJudged, IsThere, Verdict, advance_puts, append_puts, cut_puts, is_accepted}
use Rattle.raft_model.specs.Moves.Appending.Verdict.{Added, Held, Refused}
use Rattle.raft_model.specs.Moves.Elections.{term_puts, with_term}
use Rattle.raft_model.specs.Moves.Leading.{answer_to}
use Rattle.raft_model.specs.Moves.Move.{CallToAppend, TakeAppendAnswer, TakeAppendRequest}
use Rattle.raft_model.specs.Server.{RaftServer, Store, put_all}
use Rattle.raft_model.specs.Server.Put.{PutEntry, PutLonger}
use Rattle.raft_model.specs.Server.Role.{Follower, Leader}
use Rattle.raft_model.proofs.Handled.{put_then}
use Rattle.raft_model.proofs.Lists.{same_length, same_less}
use Rattle.raft_model.proofs.Stored.{inj_take}
use Rattle.alloc_spec_laws.proofs.Choices.{lt_tells}
use Rattle.service_steps.specs.CatchingUp.{AreJoined, CatchesUp, IsCaughtUp, Two, after_call, after_calls, call_in, previous_of, verdict_in}

-- ---- logs

-- the term of the place behind one, as that of an entry
term_behind : (log : List Entry) (place : ℕ) → term_at log (place + 1) ≡ (get_or log place (blank 0)).term
term_behind log place = let e : place + 1 ≡ suc place = omega arith in ap (λ (n : ℕ). term_at log n) e

same_term : (k : ℕ) (l m : List Entry) → Same k l m → term_at l k ≡ term_at m k
same_term zero l m s = refl
same_term (suc i) l m s =
    ap (λ (e : Entry). e.term) (sym (get_or-take (suc i) l i (blank 0) (omega arith))
    ∙ (ap (λ (z : List Entry). get_or z i (blank 0)) s ∙ get_or-take (suc i) m i (blank 0) (omega arith)))

same_term_below : (j k : ℕ) (l m : List Entry) → j ≤ k → Same k l m → term_at l j ≡ term_at m j
same_term_below j k l m h s = same_term j l m (same_less j k l m h s)

-- one entry more behind a common beginning
same_more : (k : ℕ) (l m : List Entry) → k < length l → Same k l m
    → take (k + 1) l ≡ take k m ++ get_or l k (blank 0) ∷ []
same_more k l m h s = take_more l k (blank 0) h ∙ ap (λ (z : List Entry). z ++ get_or l k (blank 0) ∷ []) s

rises_at : (log : List Entry) (highest p : ℕ) → IsRising log highest → p < length log → term_at log p ≤ (get_or log p (blank 0)).term
rises_at log highest zero rising h = omega arith
rises_at log highest (suc q) rising h = rising.rises q (suc q) (omega arith) h

-- ---- what is stored after the peer took a call

-- a higher term leaves the log and the commit index
record IsRaised (store higher : Store) (high : ℕ) : Type 0 where
  log : higher.log ≡ store.log
  commit : higher.commit ≡ store.commit
  term : higher.term ≡ high

raised : (store : Store) (term : ℕ) → store.term ≤ term → IsRaised store (with_term store term) term
raised store term h = elim (lt_tells store.term term) [
  | inl z ↦ rw (z.0) (record { log = refl; commit = refl; term = refl })
  | inr z ↦ rw (z.0) (record { log = refl; commit = refl; term = omega (arith, h, z.1) })
]

-- the log then; the commit index, which is the former one, or one up to the reach of the call; and the term
record IsTaken (old its_term : ℕ) (taken : Store) (list : List Entry) (far : ℕ) : Type 0 where
  log : taken.log ≡ list
  commit : (taken.commit ≡ old) ⊎ (taken.commit ≤ far)
  term : taken.term ≡ its_term

advanced : (decided store : Store) (request : Request) → decided.commit ≡ store.commit
    → IsTaken store.commit store.term (put_all store (advance_puts decided request)) store.log (reach request)
advanced decided store request same = elim (lt_tells decided.commit (min request.commit (reach request))) [
  | inl z ↦ rw (z.0) (record { log = refl; commit = inr (omega arith); term = refl })
  | inr z ↦ rw (z.0) (record { log = refl; commit = inl refl; term = refl })
]

cut_to : (store : Store) (request : Request) → request.previous ≤ length store.log
    → (put_all store (cut_puts store request)).log ≡ take request.previous store.log
cut_to store request h = elim (lt_tells request.previous (length store.log)) [
  | inl z ↦ rw (z.0) refl
  | inr z ↦ rw (z.0) (sym (take_all request.previous store.log z.1))
]

cut_rest : (store : Store) (request : Request)
    → ((put_all store (cut_puts store request)).commit ≡ store.commit) × ((put_all store (cut_puts store request)).term ≡ store.term)
cut_rest store request = elim (lt_tells request.previous (length store.log)) [
  | inl z ↦ rw (z.0) (refl, refl)
  | inr z ↦ rw (z.0) (refl, refl)
]

held : (store : Store) (request : Request)
    → IsTaken store.commit store.term (put_all store (append_puts store request Held)) store.log (reach request)
held store request = advanced store store request refl

added : (store : Store) (request : Request) (entry : Entry) → request.previous ≤ length store.log
    → IsTaken store.commit store.term (put_all store (append_puts store request (Added entry))) (take request.previous store.log ++ entry ∷ []) (reach request)
added store request entry h =
    subst (λ (k : Store). IsTaken store.commit store.term k (take request.previous store.log ++ entry ∷ []) (reach request))
    (sym (put_then (cut_puts store request) (PutEntry entry ∷ PutLonger entry ∷ advance_puts store request) store))
    (record {
      log = more.log ∙ ap (λ (l : List Entry). l ++ entry ∷ []) (cut_to store request h);
      commit = commits more.commit;
      term = more.term ∙ (cut_rest store request).1;
    })
  where
    cut : Store
    cut = put_all store (cut_puts store request)

    longer : Store
    longer = record cut { log = cut.log ++ entry ∷ [] }

    more : IsTaken longer.commit longer.term (put_all longer (advance_puts store request)) longer.log (reach request)
    more = advanced store longer request (sym (cut_rest store request).0)

    commits : ((put_all longer (advance_puts store request)).commit ≡ longer.commit) ⊎ ((put_all longer (advance_puts store request)).commit ≤ reach request)
        → ((put_all longer (advance_puts store request)).commit ≡ store.commit) ⊎ ((put_all longer (advance_puts store request)).commit ≤ reach request)
    commits (inl e) = inl (e ∙ (cut_rest store request).0)
    commits (inr low) = inr low

-- ---- one call

module _ (members : List ℕ) (me you number : ℕ) where
  -- the same with any verdict
  abbrev pub answer_with : Two → Verdict → Answer
  answer_with two verdict =
      answer_to you (number + 2) (with_term two.peer.store (call_in members me you number two).term) (call_in members me you number two) (is_accepted verdict)

  abbrev pub after_with : Two → Verdict → Two
  after_with two verdict = record {
    leader = server_after members me (number + 3) (server_after members me (number + 1) two.leader (CallToAppend you (previous_of members me you two) true))
        (TakeAppendAnswer (answer_with two verdict));
    peer = server_after members you (number + 2) two.peer (TakeAppendRequest (call_in members me you number two) verdict);
  }

  after_is : (two : Two) (verdict : Verdict) → verdict ≡ verdict_in members me you number two → after_call members me you number two ≡ after_with two verdict
  after_is two verdict e = ap (after_with two) (sym e)

  -- what the leader notes: of a success, and of a failure
  noted : (two : Two) (verdict : Verdict) → AreJoined members me you two
      → ((after_with two verdict).leader.store ≡ two.leader.store)
      × ((after_with two verdict).leader.memory.role ≡ Leader)
      × ((after_with two verdict).leader.memory.matched you
      ≡ (if is_accepted verdict then max (two.leader.memory.matched you) (reach (call_in members me you number two)) else two.leader.memory.matched you))
      × ((after_with two verdict).leader.memory.next you
      ≡ (if is_accepted verdict then max (two.leader.memory.matched you) (reach (call_in members me you number two)) + 1 else max 1 (two.leader.memory.next you - 1)))
  noted two verdict j =
      rw ((raised two.peer.store two.leader.store.term j.term).term) (
      elim (lt_tells two.leader.store.term two.leader.store.term) [
        | inl z ↦ absurd (omega (arith, z.1))
        | inr z ↦ elim (eqb_tells two.leader.store.term two.leader.store.term) [
          | inr y ↦ absurd (y.1 refl)
          | inl y ↦ elim (eqb_tells you you) [
            | inr x ↦ absurd (x.1 refl)
            | inl x ↦ rw (z.0) (rw (j.leads) (rw (y.0) (rw (x.0) (refl, refl, refl, refl))))
          ]
        ]
      ])

  -- and what else it keeps
  pub noted_more : (two : Two) (verdict : Verdict) → AreJoined members me you two
      → ((after_with two verdict).leader.memory.up ≡ two.leader.memory.up)
      × ((after_with two verdict).leader.memory.pending you ≡ None)
      × ((n : ℕ) → n ≢ you → ((after_with two verdict).leader.memory.matched n ≡ two.leader.memory.matched n)
      × ((after_with two verdict).leader.memory.pending n ≡ two.leader.memory.pending n))
      × ((after_with two verdict).leader.memory.told ≡ two.leader.memory.told)
  noted_more two verdict j =
      rw ((raised two.peer.store two.leader.store.term j.term).term) (
      elim (lt_tells two.leader.store.term two.leader.store.term) [
        | inl z ↦ absurd (omega (arith, z.1))
        | inr z ↦ elim (eqb_tells two.leader.store.term two.leader.store.term) [
          | inr y ↦ absurd (y.1 refl)
          | inl y ↦ rw (z.0) (rw (j.leads) (rw (y.0) (
            refl,
            at_here (at two.leader.memory.pending you (Some (call_in members me you number two))) you you None refl,
            λ n other. (
              at_other two.leader.memory.matched you n
                  (if is_accepted verdict then max (two.leader.memory.matched you) (reach (call_in members me you number two)) else two.leader.memory.matched you) other,
              at_other (at two.leader.memory.pending you (Some (call_in members me you number two))) you n None other
                  ∙ at_other two.leader.memory.pending you n (Some (call_in members me you number two)) other,
            ),
            refl,
          )))
        ]
      ])

  -- the peer has the term of the previous place there
  abbrev HasBefore : Two → Type 0
  HasBefore two = (previous_of members me you two ≤ length two.peer.store.log)
      × (term_at two.leader.store.log (previous_of members me you two) ≡ term_at two.peer.store.log (previous_of members me you two))

  -- the peer takes the call, and the leader learns of it
  record Takes (two : Two) (after : Two) : Type 0 where
    joined : AreJoined members me you after
    store : after.leader.store ≡ two.leader.store
    next : after.leader.memory.next you ≡ after.leader.memory.matched you + 1
    one_more : two.leader.memory.next you ≤ length two.leader.store.log → two.leader.memory.next you ≤ after.leader.memory.matched you
    all : length two.leader.store.log < two.leader.memory.next you → after.leader.memory.matched you ≡ length two.leader.store.log

  -- the peer refuses it, and the leader goes back by one place
  record GoesBack (two : Two) (after : Two) : Type 0 where
    joined : AreJoined members me you after
    store : after.leader.store ≡ two.leader.store
    next : two.leader.memory.next you ≡ after.leader.memory.next you + 1

  build : (after : Two) (store : Store) → after.leader.store ≡ store → after.leader.memory.role ≡ Leader → SoundStore store
      → after.peer.store.term ≤ store.term → (after.peer.memory.role ≡ Leader → after.peer.store.term < store.term)
      → 1 ≤ after.leader.memory.next you → after.leader.memory.next you ≤ length store.log + 1
      → ((place : ℕ) → place ≤ length store.log → place ≤ length after.peer.store.log
      → term_at store.log place ≡ term_at after.peer.store.log place → Same place store.log after.peer.store.log)
      → after.peer.store.commit ≤ length after.peer.store.log → after.peer.store.commit ≤ length store.log
      → Same after.peer.store.commit store.log after.peer.store.log
      → after.leader.memory.matched you ≤ length after.peer.store.log
      → Same (after.leader.memory.matched you) store.log after.peer.store.log → AreJoined members me you after
  build after store is leads sound term alone least next agree commit here committed within matched = record {
    leads = leads;
    sound = subst SoundStore (sym is) sound;
    term = subst (λ (s : Store). after.peer.store.term ≤ s.term) (sym is) term;
    alone = subst (λ (s : Store). after.peer.memory.role ≡ Leader → after.peer.store.term < s.term) (sym is) alone;
    least = least;
    next = subst (λ (s : Store). after.leader.memory.next you ≤ length s.log + 1) (sym is) next;
    agree = subst (λ (s : Store). (place : ℕ) → place ≤ length s.log → place ≤ length after.peer.store.log
        → term_at s.log place ≡ term_at after.peer.store.log place → Same place s.log after.peer.store.log) (sym is) agree;
    commit = commit;
    commit_here = subst (λ (s : Store). after.peer.store.commit ≤ length s.log) (sym is) here;
    committed = subst (λ (s : Store). Same after.peer.store.commit s.log after.peer.store.log) (sym is) committed;
    within = within;
    matched = subst (λ (s : Store). Same (after.leader.memory.matched you) s.log after.peer.store.log) (sym is) matched;
  }

  -- a log of the peer that has the leader's up to the reach of a call, and what it committed
  record Fits (two : Two) (log : List Entry) (far : ℕ) : Type 0 where
    from : previous_of members me you two ≤ far
    here : far ≤ length two.leader.store.log
    there : far ≤ length log
    same : Same far two.leader.store.log log
    agree : (place : ℕ) → place ≤ length two.leader.store.log → place ≤ length log
        → term_at two.leader.store.log place ≡ term_at log place → Same place two.leader.store.log log
    commit : two.peer.store.commit ≤ length log
    committed : Same two.peer.store.commit two.leader.store.log log
    within : two.leader.memory.matched you ≤ length log
    matched : Same (two.leader.memory.matched you) two.leader.store.log log
    one_more : two.leader.memory.next you ≤ length two.leader.store.log → far ≡ two.leader.memory.next you
    all : length two.leader.store.log < two.leader.memory.next you → far ≡ length two.leader.store.log

  takes : (two : Two) (verdict : Verdict) (log : List Entry) (far : ℕ) → AreJoined members me you two → is_accepted verdict ≡ true
      → far ≡ reach (call_in members me you number two) → (after_with two verdict).peer.memory.role ≡ Follower
      → IsTaken two.peer.store.commit two.leader.store.term (after_with two verdict).peer.store log far
      → Fits two log far → Takes two (after_with two verdict)
  takes two verdict log far j good is follows taken f = record {
    joined = build after two.leader.store n.0 n.1 j.sound (omega (arith, taken.term)) (λ e. absurd (cc (e, follows)))
        (omega (arith, next)) (omega (arith, next, tops.1))
        (subst (λ (l : List Entry). (place : ℕ) → place ≤ length two.leader.store.log → place ≤ length l
        → term_at two.leader.store.log place ≡ term_at l place → Same place two.leader.store.log l) (sym taken.log) f.agree)
        (subst (λ (l : List Entry). after.peer.store.commit ≤ length l) (sym taken.log) commits.0)
        commits.1
        (subst (λ (l : List Entry). Same after.peer.store.commit two.leader.store.log l) (sym taken.log) commits.2)
        (subst (λ (l : List Entry). after.leader.memory.matched you ≤ length l) (sym taken.log) (omega (arith, matched, tops.0)))
        (subst (λ (l : List Entry). Same (after.leader.memory.matched you) two.leader.store.log l) (sym taken.log)
        (subst (λ (m : ℕ). Same m two.leader.store.log log) (sym matched) tops.2));
    store = n.0;
    next = next ∙ ap (λ (m : ℕ). m + 1) (sym matched);
    one_more = λ h. omega (arith, matched, f.one_more h);
    all = λ h. omega (arith, matched, f.all h, known);
  }
    where
      after : Two
      after = after_with two verdict

      known : two.leader.memory.matched you ≤ length two.leader.store.log
      known = same_length (two.leader.memory.matched you) two.leader.store.log two.peer.store.log j.within j.matched

      highest : ℕ
      highest = max (two.leader.memory.matched you) far

      tops : (highest ≤ length log) × (highest ≤ length two.leader.store.log) × Same highest two.leader.store.log log
      tops = elim (lt_tells far (two.leader.memory.matched you)) [
        | inl z ↦ let e : two.leader.memory.matched you ≡ max (two.leader.memory.matched you) far = omega (arith, z.1) in
            (omega (arith, z.1, f.within), omega (arith, z.1, known), subst (λ (m : ℕ). Same m two.leader.store.log log) e f.matched)
        | inr z ↦ let e : far ≡ max (two.leader.memory.matched you) far = omega (arith, z.1) in
            (omega (arith, z.1, f.there), omega (arith, z.1, f.here), subst (λ (m : ℕ). Same m two.leader.store.log log) e f.same)
      ]

      n : (after.leader.store ≡ two.leader.store) × (after.leader.memory.role ≡ Leader)
          × (after.leader.memory.matched you
          ≡ (if is_accepted verdict then max (two.leader.memory.matched you) (reach (call_in members me you number two)) else two.leader.memory.matched you))
          × (after.leader.memory.next you
          ≡ (if is_accepted verdict then max (two.leader.memory.matched you) (reach (call_in members me you number two)) + 1 else max 1 (two.leader.memory.next you - 1)))
      n = noted two verdict j

      greater : max (two.leader.memory.matched you) (reach (call_in members me you number two)) ≡ highest
      greater = ap (λ (m : ℕ). max (two.leader.memory.matched you) m) (sym is)

      matched : after.leader.memory.matched you ≡ highest
      matched = n.2 ∙ (ap (λ (b : Bool). if b then max (two.leader.memory.matched you) (reach (call_in members me you number two)) else two.leader.memory.matched you) good ∙ greater)

      next : after.leader.memory.next you ≡ highest + 1
      next = n.3 ∙ (ap (λ (b : Bool). if b then max (two.leader.memory.matched you) (reach (call_in members me you number two)) + 1 else max 1 (two.leader.memory.next you - 1)) good
          ∙ ap (λ (m : ℕ). m + 1) greater)

      commits : (after.peer.store.commit ≤ length log) × (after.peer.store.commit ≤ length two.leader.store.log)
          × Same after.peer.store.commit two.leader.store.log log
      commits = elim taken.commit [
        | inl e ↦ (omega (arith, e, f.commit), omega (arith, e, j.commit_here), subst (λ (c : ℕ). Same c two.leader.store.log log) (sym e) f.committed)
        | inr low ↦ (omega (arith, low, f.there), omega (arith, low, f.here), same_less after.peer.store.commit far two.leader.store.log log low f.same)
      ]

  -- ---- its judgement

  module _ (one_verdict : (server : RaftServer) (request : Request) (verdict : Verdict) → IsJudged server request verdict → verdict ≡ verdict_on server request)
      (two : Two) (j : AreJoined members me you two) where
    up : IsRaised two.peer.store (with_term two.peer.store two.leader.store.term) two.leader.store.term
    up = raised two.peer.store two.leader.store.term j.term

    current : IsCurrent two.peer (call_in members me you number two)
    current = elim (lt_tells two.peer.store.term two.leader.store.term) [
      | inl z ↦ inl z.1
      | inr z ↦ inr (omega (arith, z.1, j.term), λ e. let l : two.peer.store.term < two.leader.store.term = j.alone e in omega (arith, l, z.1))
    ]

    stored : (verdict : Verdict) → (after_with two verdict).peer.store
        ≡ put_all (with_term two.peer.store two.leader.store.term)
        (append_puts (with_term two.peer.store two.leader.store.term) (call_in members me you number two) verdict)
    stored verdict = put_then (term_puts two.peer.store two.leader.store.term)
        (append_puts (with_term two.peer.store two.leader.store.term) (call_in members me you number two) verdict) two.peer.store

    -- the peer has the previous place with its term
    before_is : HasBefore two → HasPrevious (with_term two.peer.store two.leader.store.term) (call_in members me you number two)
    before_is before = record {
      previous = subst (λ (l : List Entry). previous_of members me you two ≤ length l) (sym up.log) before.0;
      previous_term = subst (λ (l : List Entry). term_at l (previous_of members me you two) ≡ term_at two.leader.store.log (previous_of members me you two))
          (sym up.log) (sym before.1);
    }

    abbrev left : Verdict → Store
    left verdict = put_all (with_term two.peer.store two.leader.store.term)
        (append_puts (with_term two.peer.store two.leader.store.term) (call_in members me you number two) verdict)

    -- what the peer has stored when it took the call, from what its judgement leaves
    lower : (verdict : Verdict) (log : List Entry) (far : ℕ)
        → IsTaken (with_term two.peer.store two.leader.store.term).commit (with_term two.peer.store two.leader.store.term).term
        (put_all (with_term two.peer.store two.leader.store.term) (append_puts (with_term two.peer.store two.leader.store.term) (call_in members me you number two) verdict)) log far
        → IsTaken two.peer.store.commit two.leader.store.term (after_with two verdict).peer.store log far
    lower verdict log far t =
        subst (λ (s : Store). IsTaken two.peer.store.commit two.leader.store.term s log far) (sym (stored verdict))
        (subst (λ (c : ℕ). IsTaken c two.leader.store.term (left verdict) log far) up.commit
        (subst (λ (n : ℕ). IsTaken (with_term two.peer.store two.leader.store.term).commit n (left verdict) log far) up.term t))

    -- the places of both, as the call has them
    abbrev p : ℕ
    p = previous_of members me you two

    front : p + 1 ≡ two.leader.memory.next you
    front = let l : 1 ≤ two.leader.memory.next you = j.least in omega (arith, l)

    abbrev call : Request
    call = call_in members me you number two

    abbrev raised_store : Store
    raised_store = with_term two.peer.store two.leader.store.term

    abbrev leader_log : List Entry
    leader_log = two.leader.store.log

    abbrev here : Entry
    here = get_or leader_log p (blank 0)

    carries : p < length leader_log → call.entry ≡ Some here
    carries h = elim (lt_tells p (length leader_log)) [ inl z ↦ rw (z.0) refl | inr z ↦ absurd (omega (arith, h, z.1)) ]

    carries_none : length leader_log ≤ p → call.entry ≡ None
    carries_none h = elim (lt_tells p (length leader_log)) [ inl z ↦ absurd (omega (arith, h, z.1)) | inr z ↦ rw (z.0) refl ]

    -- nothing new: the peer has it, up to a place
    nothing_new : (far : ℕ) → p ≤ far → far ≤ length leader_log → far ≤ length two.peer.store.log → Same far leader_log two.peer.store.log
        → (two.leader.memory.next you ≤ length leader_log → far ≡ two.leader.memory.next you)
        → (length leader_log < two.leader.memory.next you → far ≡ length leader_log) → Fits two two.peer.store.log far
    nothing_new far from in_leader in_peer same one all = record {
      from = from;
      here = in_leader;
      there = in_peer;
      same = same;
      agree = j.agree;
      commit = j.commit;
      committed = j.committed;
      within = j.within;
      matched = j.matched;
      one_more = one;
      all = all;
    }

    -- the leader's log up to the entry
    its_log : p < length leader_log → two.peer.store.commit ≤ p → two.leader.memory.matched you ≤ p → Fits two (take (p + 1) leader_log) (p + 1)
    its_log h low few = record {
      from = omega arith;
      here = omega (arith, h);
      there = omega (arith, h, length-take (p + 1) leader_log);
      same = sym (take-take (p + 1) (p + 1) leader_log (omega arith));
      agree = λ place in_leader in_peer same. sym (take-take place (p + 1) leader_log (omega (arith, in_peer, length-take (p + 1) leader_log)));
      commit = omega (arith, low, h, length-take (p + 1) leader_log);
      committed = sym (take-take two.peer.store.commit (p + 1) leader_log (omega (arith, low)));
      within = omega (arith, few, h, length-take (p + 1) leader_log);
      matched = sym (take-take (two.leader.memory.matched you) (p + 1) leader_log (omega (arith, few)));
      one_more = λ n. front;
      all = λ n. absurd (omega (arith, n, h, front));
    }

    takes_call : HasBefore two → Takes two (after_call members me you number two)
    takes_call before = elim (lt_tells p (length leader_log)) [
      | inr z ↦ none z.1
      | inl z ↦ elim (lt_tells p (length two.peer.store.log)) [
        | inr y ↦ new z.1 (λ there. let l : p < length raised_store.log = there.0 in omega (arith, l, y.1, ap length up.log))
        | inl y ↦ elim (eqb_tells (term_at two.peer.store.log (p + 1)) here.term) [
          | inl x ↦ old z.1 y.1 x.1
          | inr x ↦ new z.1 (λ there. x.1 (subst (λ (l : List Entry). term_at l (p + 1) ≡ here.term) up.log there.1))
        ]
      ]
    ]
      where
        same_before : Same p leader_log two.peer.store.log
        same_before = j.agree p (omega (arith, front, j.next)) before.0 before.1

        none : length leader_log ≤ p → Takes two (after_call members me you number two)
        none high = subst (λ (k : Two). Takes two k)
            (sym (after_is two Held (one_verdict two.peer call Held (current, record { fits = before_is before; has = inl (carries_none high) }))))
            (takes two Held two.peer.store.log p j refl
            (let e : items call.entry ≡ 0 = ap items (carries_none high) in omega (arith, e))
            refl (lower Held two.peer.store.log p (subst (λ (n : ℕ). IsTaken raised_store.commit raised_store.term
            (put_all raised_store (append_puts raised_store call Held)) two.peer.store.log n)
            (let e : items call.entry ≡ 0 = ap items (carries_none high) in omega (arith, e))
            (subst (λ (l : List Entry). IsTaken raised_store.commit raised_store.term (put_all raised_store (append_puts raised_store call Held)) l (reach call))
            up.log (held raised_store call))))
            (nothing_new p (omega arith) (omega (arith, front, j.next)) before.0 same_before
            (λ n. absurd (omega (arith, n, high, front))) (λ n. omega (arith, high, front, j.next))))

        old : p < length leader_log → p < length two.peer.store.log → term_at two.peer.store.log (p + 1) ≡ here.term
            → Takes two (after_call members me you number two)
        old low there same = subst (λ (k : Two). Takes two k)
            (sym (after_is two Held (one_verdict two.peer call Held (
              current,
              record {
                fits = before_is before;
                has = inr (
                  here,
                  carries low,
                  omega (arith, low, j.sound.last),
                  (subst (λ (l : List Entry). p < length l) (sym up.log) there, subst (λ (l : List Entry). term_at l (p + 1) ≡ here.term) (sym up.log) same),
                );
              },
            ))))
            (takes two Held two.peer.store.log (p + 1) j refl
            (let e : items call.entry ≡ 1 = ap items (carries low) in omega (arith, e))
            refl (lower Held two.peer.store.log (p + 1) (subst (λ (n : ℕ). IsTaken raised_store.commit raised_store.term
            (put_all raised_store (append_puts raised_store call Held)) two.peer.store.log n)
            (let e : items call.entry ≡ 1 = ap items (carries low) in omega (arith, e))
            (subst (λ (l : List Entry). IsTaken raised_store.commit raised_store.term (put_all raised_store (append_puts raised_store call Held)) l (reach call))
            up.log (held raised_store call))))
            (nothing_new (p + 1) (omega arith) (omega (arith, low)) (omega (arith, there))
            (j.agree (p + 1) (omega (arith, low)) (omega (arith, there)) (term_behind leader_log p ∙ sym same))
            (λ n. front) (λ n. absurd (omega (arith, n, low, front)))))

        -- what the peer has in common with the leader it has there
        in_common : (count : ℕ) → count ≤ length two.peer.store.log → Same count leader_log two.peer.store.log
            → (IsThere raised_store call here → ⊥) → count ≤ p
        in_common count there same not_there = elim (lt_tells p count) [
          | inr z ↦ z.1
          | inl z ↦ absurd (not_there (
            subst (λ (l : List Entry). p < length l) (sym up.log) (omega (arith, z.1, there)),
            subst (λ (l : List Entry). term_at l (p + 1) ≡ here.term) (sym up.log)
                (sym (same_term_below (p + 1) count leader_log two.peer.store.log (omega (arith, z.1)) same) ∙ term_behind leader_log p),
          ))
        ]

        its_front : p < length leader_log → take p raised_store.log ++ here ∷ [] ≡ take (p + 1) leader_log
        its_front low = ap (λ (l : List Entry). take p l ++ here ∷ []) up.log ∙ sym (same_more p leader_log two.peer.store.log low same_before)

        new : p < length leader_log → (IsThere raised_store call here → ⊥) → Takes two (after_call members me you number two)
        new low not_there = subst (λ (k : Two). Takes two k)
            (sym (after_is two (Added here) (one_verdict two.peer call (Added here) (
              current,
              record {
                fits = before_is before;
                carried = carries low;
                room = omega (arith, low, j.sound.last);
                not_there = not_there;
                after_commit = omega (arith, in_common two.peer.store.commit j.commit j.committed not_there, up.commit);
                well_formed = j.sound.well_formed p low;
                rises = subst (λ (l : List Entry). term_at l p ≤ here.term) (sym up.log)
                    (subst (λ (n : ℕ). n ≤ here.term) before.1 (rises_at leader_log two.leader.store.term p j.sound.rising low));
                below = j.sound.rising.high p low;
                injective = subst IsInjective (sym (its_front low)) (inj_take leader_log (p + 1) j.sound.injective);
              },
            ))))
            (takes two (Added here) (take (p + 1) leader_log) (p + 1) j refl
            (let e : items call.entry ≡ 1 = ap items (carries low) in omega (arith, e))
            refl (lower (Added here) (take (p + 1) leader_log) (p + 1) (subst (λ (n : ℕ). IsTaken raised_store.commit raised_store.term
            (put_all raised_store (append_puts raised_store call (Added here))) (take (p + 1) leader_log) n)
            (let e : items call.entry ≡ 1 = ap items (carries low) in omega (arith, e))
            (subst (λ (l : List Entry). IsTaken raised_store.commit raised_store.term (put_all raised_store (append_puts raised_store call (Added here))) l (reach call))
            (its_front low) (added raised_store call here (subst (λ (l : List Entry). p ≤ length l) (sym up.log) before.0)))))
            (its_log low (in_common two.peer.store.commit j.commit j.committed not_there)
            (in_common (two.leader.memory.matched you) j.within j.matched not_there)))

    -- else the leader goes back
    goes_back : (HasBefore two → ⊥) → GoesBack two (after_call members me you number two)
    goes_back not = subst (λ (k : Two). GoesBack two k)
        (sym (after_is two Refused (one_verdict two.peer call Refused (
          current,
          inl (λ h. not (
            subst (λ (l : List Entry). p ≤ length l) up.log h.previous,
            sym (subst (λ (l : List Entry). term_at l p ≡ term_at leader_log p) up.log h.previous_term),
          )),
        ))))
        (record {
          joined = build after two.leader.store n.0 n.1 j.sound (omega (arith, is_stored.2)) (λ e. absurd (cc (e)))
              (omega (arith, n.3)) (omega (arith, n.3, front, j.next, some))
              (subst (λ (l : List Entry). (place : ℕ) → place ≤ length leader_log → place ≤ length l
              → term_at leader_log place ≡ term_at l place → Same place leader_log l) (sym is_stored.0) j.agree)
              (omega (arith, is_stored.1, ap length is_stored.0, j.commit))
              (omega (arith, is_stored.1, j.commit_here))
              (subst (λ (l : List Entry). Same after.peer.store.commit leader_log l) (sym is_stored.0)
              (subst (λ (c : ℕ). Same c leader_log two.peer.store.log) (sym is_stored.1) j.committed))
              (subst (λ (l : List Entry). after.leader.memory.matched you ≤ length l) (sym is_stored.0) (omega (arith, n.2, j.within)))
              (subst (λ (l : List Entry). Same (after.leader.memory.matched you) leader_log l) (sym is_stored.0)
              (subst (λ (m : ℕ). Same m leader_log two.peer.store.log) (sym n.2) j.matched));
          store = n.0;
          next = omega (arith, n.3, front, some);
        })
      where
        after : Two
        after = after_with two Refused

        n : (after.leader.store ≡ two.leader.store) × (after.leader.memory.role ≡ Leader)
            × (after.leader.memory.matched you ≡ two.leader.memory.matched you)
            × (after.leader.memory.next you ≡ max 1 (two.leader.memory.next you - 1))
        n = noted two Refused j

        is_stored : (after.peer.store.log ≡ two.peer.store.log) × (after.peer.store.commit ≡ two.peer.store.commit)
            × (after.peer.store.term ≡ two.leader.store.term)
        is_stored = subst (λ (s : Store). (s.log ≡ two.peer.store.log) × (s.commit ≡ two.peer.store.commit) × (s.term ≡ two.leader.store.term))
            (sym (stored Refused)) (up.log, up.commit, up.term)

        -- before place 1 stands nothing
        some : 1 ≤ p
        some = elim (eqb_tells p 0) [
          | inr z ↦ let n : p ≢ 0 = z.1 in omega (arith, n)
          | inl z ↦ absurd (not (omega (arith, z.1), ap (λ (m : ℕ). term_at leader_log m) z.1 ∙ sym (ap (λ (m : ℕ). term_at two.peer.store.log m) z.1)))
        ]

    tells_before : HasBefore two ⊎ (HasBefore two → ⊥)
    tells_before = elim (lt_tells (length two.peer.store.log) p) [
      | inl z ↦ inr (λ h. let l : p ≤ length two.peer.store.log = h.0 in omega (arith, l, z.1))
      | inr z ↦ elim (eqb_tells (term_at leader_log p) (term_at two.peer.store.log p)) [
        | inl y ↦ inl (z.1, y.1)
        | inr y ↦ inr (λ h. y.1 h.1)
      ]
    ]

-- ---- all calls

module _ (members : List ℕ) (me you : ℕ) (one_verdict : (server : RaftServer) (request : Request) (verdict : Verdict) → IsJudged server request verdict → verdict ≡ verdict_on server request) where
  record Reaches (bound number : ℕ) (two : Two) : Type 0 where
    calls : ℕ
    few : calls ≤ bound
    done : IsCaughtUp members me you (after_calls members me you calls number two)
    leads : (after_calls members me you calls number two).leader.memory.role ≡ Leader
    same : (after_calls members me you calls number two).leader.store ≡ two.leader.store

  -- each call leaves the two joined
  pub joined_after : (number : ℕ) (two : Two) → AreJoined members me you two → AreJoined members me you (after_call members me you number two)
  joined_after number two j = elim (tells_before members me you number one_verdict two j) [
    | inl before ↦ (takes_call members me you number one_verdict two j before).joined
    | inr not ↦ (goes_back members me you number one_verdict two j not).joined
  ]

  -- and the leader's store as it was
  pub store_after : (number : ℕ) (two : Two) → AreJoined members me you two → (after_call members me you number two).leader.store ≡ two.leader.store
  store_after number two j = elim (tells_before members me you number one_verdict two j) [
    | inl before ↦ (takes_call members me you number one_verdict two j before).store
    | inr not ↦ (goes_back members me you number one_verdict two j not).store
  ]

  -- one call more, before the others
  after_one : (bound more number : ℕ) (two : Two) → bound + 1 ≤ more → (after_call members me you number two).leader.store ≡ two.leader.store
      → Reaches bound (number + 3) (after_call members me you number two) → Reaches more number two
  after_one bound more number two room store r = record {
    calls = suc r.calls;
    few = omega (arith, r.few, room);
    done = r.done;
    leads = r.leads;
    same = r.same ∙ store;
  }

  -- the last call
  at_last : (more number : ℕ) (two : Two) → 1 ≤ more → Takes members me you number two (after_call members me you number two)
      → (after_call members me you number two).leader.memory.matched you ≡ length two.leader.store.log → Reaches more number two
  at_last more number two room t all = record {
    calls = 1;
    few = room;
    done = record {
      known = all ∙ ap (λ (s : Store). length s.log) (sym t.store);
      has = subst (λ (m : ℕ). Same m (after_call members me you number two).leader.store.log (after_call members me you number two).peer.store.log)
          (all ∙ ap (λ (s : Store). length s.log) (sym t.store)) t.joined.matched;
    };
    leads = t.joined.leads;
    same = t.store;
  }

  ends : (number : ℕ) (two : Two) → Takes members me you number two (after_call members me you number two)
      → length two.leader.store.log ≤ (after_call members me you number two).leader.memory.matched you
      → (after_call members me you number two).leader.memory.matched you ≡ length two.leader.store.log
  ends number two t high = omega (arith, high, t.next, t.joined.next, ap (λ (s : Store). length s.log) t.store)

  climbs : (n number : ℕ) (two : Two) → AreJoined members me you two → HasBefore members me you number two
      → length two.leader.store.log ≤ two.leader.memory.next you + n → Reaches (n + 1) number two
  climbs zero number two j before short = at_last (zero + 1) number two (omega arith) t
      (ends number two t (elim (lt_tells (length two.leader.store.log) (two.leader.memory.next you)) [
        | inl z ↦ omega (arith, t.all z.1)
        | inr z ↦ omega (arith, t.one_more z.1, short)
      ]))
    where
      t : Takes members me you number two (after_call members me you number two)
      t = takes_call members me you number one_verdict two j before
  climbs (suc n) number two j before short = elim (lt_tells ((after_call members me you number two).leader.memory.matched you) (length two.leader.store.log)) [
    | inr z ↦ at_last (suc n + 1) number two (omega arith) t (ends number two t z.1)
    | inl z ↦ after_one (n + 1) (suc n + 1) number two (omega arith) t.store
        (climbs n (number + 3) after t.joined
        (let e : after.leader.memory.next you ≡ after.leader.memory.matched you + 1 = t.next in (
          omega (arith, e, t.joined.within),
          subst (λ (m : ℕ). term_at after.leader.store.log m ≡ term_at after.peer.store.log m) (omega (arith, e))
              (same_term (after.leader.memory.matched you) after.leader.store.log after.peer.store.log t.joined.matched),
        ))
        (elim (lt_tells (length two.leader.store.log) (two.leader.memory.next you)) [
          | inl y ↦ absurd (omega (arith, z.1, t.all y.1))
          | inr y ↦ omega (arith, t.next, t.one_more y.1, short, ap (λ (s : Store). length s.log) t.store)
        ]))
  ]
    where
      t : Takes members me you number two (after_call members me you number two)
      t = takes_call members me you number one_verdict two j before

      after : Two
      after = after_call members me you number two

  descends : (most number : ℕ) (two : Two) → AreJoined members me you two → two.leader.memory.next you ≤ most
      → Reaches (two.leader.memory.next you + length two.leader.store.log) number two
  descends zero number two j low = absurd (omega (arith, low, j.least))
  descends (suc most) number two j low = elim (tells_before members me you number one_verdict two j) [
    | inl before ↦
        let r : Reaches ((length two.leader.store.log - two.leader.memory.next you) + 1) number two
        = climbs (length two.leader.store.log - two.leader.memory.next you) number two j before (omega arith) in
        record { calls = r.calls; few = omega (arith, r.few, j.least); done = r.done; leads = r.leads; same = r.same }
    | inr not ↦
        let g : GoesBack members me you number two (after_call members me you number two) = goes_back members me you number one_verdict two j not in
        after_one ((after_call members me you number two).leader.memory.next you + length (after_call members me you number two).leader.store.log)
        (two.leader.memory.next you + length two.leader.store.log) number two
        (omega (arith, g.next, ap (λ (s : Store). length s.log) g.store)) g.store
        (descends most (number + 3) (after_call members me you number two) g.joined (omega (arith, g.next, low)))
  ]

  pub catches_up : (number : ℕ) (two : Two) → AreJoined members me you two → CatchesUp members me you number two
  catches_up number two j =
      let r : Reaches (two.leader.memory.next you + length two.leader.store.log) number two
      = descends (two.leader.memory.next you) number two j (omega arith) in
      record { calls = r.calls; few = r.few; done = r.done; leads = r.leads; same = r.same }
