-- A call that begins no further on than up to where the leader knows the logs to agree is accepted.
use Rattle.std.proofs.Common.{◌≡◌, ◌≢◌, ℕ, zero, suc, ◌+◌, ◌<◌, ◌≤◌, true, List, [], ◌∷◌, ◌++◌, inl, inr, refl, sym, ◌∙◌, ap, subst, arith, get_or, length, take, Option, None, Some}
use Rattle.std.proofs.lemmas.Bool.Decides.{eqb_tells}
use Rattle.std.proofs.lemmas.List.{take_more, get_or-take}
use Rattle.can_frame.specs.declared.entry.Entry.{Entry}
use Rattle.can_frame.specs.Log.{IsInjective, IsWellFormed, blank, log_limit}
use Rattle.raft_model.specs.Decisions.{verdict_on}
use Rattle.raft_model.specs.Fit.{IsFit}
use Rattle.raft_model.specs.Invariants.{Invariants}
use Rattle.raft_model.specs.Lists.{In}
use Rattle.raft_model.specs.Log.{Same, term_at}
use Rattle.raft_model.specs.Messages.{Request}
use Rattle.raft_model.specs.Messages.Message.{Requests}
use Rattle.raft_model.specs.Moves.Appending.{HasPrevious, IsCurrent, IsJudged, IsThere, Verdict, is_accepted}
use Rattle.raft_model.specs.Moves.Appending.Verdict.{Added, Held}
use Rattle.raft_model.specs.Moves.Elections.{with_term}
use Rattle.raft_model.specs.Runs.{World}
use Rattle.raft_model.specs.Server.{RaftServer, Store}
use Rattle.raft_model.specs.Server.Role.{Leader}
use Rattle.raft_model.proofs.Lists.{same_less}
use Rattle.raft_model.proofs.Stored.{inj_take}
use Rattle.alloc_spec_laws.proofs.Choices.{lt_tells}
use Rattle.service_steps.specs.CatchingUp.{AreJoined, two_of}
use Rattle.service_steps.proofs.InRuns.{joined_in}

-- ---- logs

-- logs that begin with the same places have the same term there
pub same_term : (k : ℕ) (l m : List Entry) → Same k l m → term_at l k ≡ term_at m k
same_term zero l m s = refl
same_term (suc i) l m s =
    ap (λ (e : Entry). e.term) (sym (get_or-take (suc i) l i (blank 0) (omega arith))
    ∙ (ap (λ (z : List Entry). get_or z i (blank 0)) s ∙ get_or-take (suc i) m i (blank 0) (omega arith)))

-- a higher term leaves the log and the commit index
raised : (store : Store) (term : ℕ) → ((with_term store term).log ≡ store.log) × ((with_term store term).commit ≡ store.commit)
raised store term = elim (lt_tells store.term term) [ inl z ↦ rw (z.0) (refl, refl) | inr z ↦ rw (z.0) (refl, refl) ]

-- ---- the judgement

module _ (one_verdict : (server : RaftServer) (request : Request) (verdict : Verdict) → IsJudged server request verdict → verdict ≡ verdict_on server request)
    (world : World) (inv : Invariants world) (me you : ℕ) (request : Request) (joined : AreJoined world.members me you (two_of world me you))
    (there : In (Requests request) world.bag) (append : request.append ≡ true) (its_term : request.term ≡ (world.server me).store.term)
    (known : request.previous ≤ (world.server me).memory.matched you) where
  abbrev peer : RaftServer
  peer = world.server you

  abbrev log : List Entry
  log = (world.server me).store.log

  abbrev its_log : List Entry
  its_log = peer.store.log

  abbrev p : ℕ
  p = request.previous

  abbrev higher : Store
  higher = with_term peer.store request.term

  same_log : higher.log ≡ its_log
  same_log = (raised peer.store request.term).0

  -- the log is the list of the request's term
  listed : world.history.list request.term ≡ log
  listed = ap world.history.list its_term ∙ sym (inv.leaders.leading me joined.leads).2

  current : IsCurrent peer request
  current = elim (lt_tells peer.store.term (world.server me).store.term) [
    | inl z ↦ let l = z.1 in inl (omega (arith, l, its_term))
    | inr z ↦ inr (let h = z.1 in let low = joined.term in omega (arith, h, low, its_term), λ e. let l = joined.alone e in let h = z.1 in omega (arith, l, h))
  ]

  inside : p ≤ length its_log
  inside = let w = joined.within in omega (arith, known, w)

  same_before : Same p log its_log
  same_before = same_less p ((world.server me).memory.matched you) log its_log known joined.matched

  -- the log has the term of the request before its place
  said_before : term_at log p ≡ request.previous_term
  said_before = subst (λ (l : List Entry). term_at l p ≡ request.previous_term) listed (inv.logs.previous request there append).2

  fits : HasPrevious higher request
  fits = record {
    previous = subst (λ (l : List Entry). p ≤ length l) (sym same_log) inside;
    previous_term = subst (λ (l : List Entry). term_at l p ≡ request.previous_term) (sym same_log) (sym (same_term p log its_log same_before) ∙ said_before);
  }

  abbrev Accepts : Verdict → Type 0
  Accepts verdict = is_accepted verdict ≡ true

  -- ---- with an entry

  module _ (entry : Entry) (carried : request.entry ≡ Some entry) where
    -- it is the leader's, behind that place
    said : (p < length log) × (get_or log p (blank 0) ≡ entry)
    said = subst (λ (l : List Entry). (p < length l) × (get_or l p (blank 0) ≡ entry)) listed (inv.logs.entry request entry there append carried)

    -- the log up to the entry
    up_to : take (p + 1) log ≡ take p higher.log ++ entry ∷ []
    up_to = take_more log p (blank 0) said.0
        ∙ (λ i. same_before i ++ said.1 i ∷ [])
        ∙ ap (λ (l : List Entry). take p l ++ entry ∷ []) (sym same_log)

    -- what the member has committed ends before it, if it has not the entry
    before : (IsThere higher request entry → ⊥) → peer.store.commit ≤ p
    before not_there = elim (lt_tells p peer.store.commit) [
      | inr z ↦ z.1
      | inl z ↦ absurd (not_there (
        subst (λ (l : List Entry). p < length l) (sym same_log) (let l = z.1 in let c = joined.commit in omega (arith, l, c)),
        subst (λ (l : List Entry). term_at l (p + 1) ≡ entry.term) (sym same_log)
            (sym (same_term (p + 1) log its_log (same_less (p + 1) peer.store.commit log its_log (let l = z.1 in omega (arith, l)) joined.committed))
            ∙ (term_here ∙ ap (λ (e : Entry). e.term) said.1)),
      ))
    ]
      where
        term_here : term_at log (p + 1) ≡ (get_or log p (blank 0)).term
        term_here = let e : p + 1 ≡ suc p = omega arith in ap (λ (n : ℕ). term_at log n) e

    rises : (q : ℕ) → q ≡ p → term_at log q ≤ (get_or log q (blank 0)).term
    rises zero e = omega arith
    rises (suc q) e = joined.sound.rising.rises q (suc q) (omega arith) (let l = said.0 in omega (arith, l, e))

    room : p + 1 ≤ log_limit
    room = let l = said.0 in let most = joined.sound.last in omega (arith, l, most)

    held : IsThere higher request entry → Accepts (verdict_on peer request)
    held is = subst Accepts (one_verdict peer request Held (current, record { fits = fits; has = inr (entry, carried, room, is) })) refl

    added : (IsThere higher request entry → ⊥) → Accepts (verdict_on peer request)
    added not_there = subst Accepts (one_verdict peer request (Added entry) (
      current,
      record {
        fits = fits;
        carried = carried;
        room = room;
        not_there = not_there;
        after_commit = let b = before not_there in let same = (raised peer.store request.term).1 in omega (arith, b, same);
        well_formed = subst IsWellFormed said.1 (joined.sound.well_formed p said.0);
        rises = let r = rises p refl in
            let here = ap (λ (e : Entry). e.term) said.1 in
            let left = same_term p log its_log same_before in
            let same = ap (λ (l : List Entry). term_at l p) same_log in
            omega (arith, r, here, left, same);
        below = let b = joined.sound.rising.high p said.0 in let here = ap (λ (e : Entry). e.term) said.1 in omega (arith, b, here, its_term);
        injective = subst IsInjective up_to (inj_take log (p + 1) joined.sound.injective);
      },
    )) refl

    with_entry : Accepts (verdict_on peer request)
    with_entry = elim (lt_tells p (length its_log)) [
      | inr z ↦ added (λ is. let l = is.0 in let same = ap length same_log in let h = z.1 in omega (arith, l, same, h))
      | inl z ↦ elim (eqb_tells (term_at higher.log (p + 1)) entry.term) [
        | inl y ↦ held (subst (λ (l : List Entry). p < length l) (sym same_log) z.1, y.1)
        | inr y ↦ added (λ is. y.1 is.1)
      ]
    ]

  without_entry : request.entry ≡ None → Accepts (verdict_on peer request)
  without_entry none = subst Accepts (one_verdict peer request Held (current, record { fits = fits; has = inl none })) refl

  -- the member accepts it
  pub accepts : Accepts (verdict_on peer request)
  accepts = by request.entry refl
    where
      by : (carried : Option Entry) → request.entry ≡ carried → Accepts (verdict_on peer request)
      by None none = without_entry none
      by (Some entry) some = with_entry entry some

-- so it is where a member leads and another has no higher term
pub accepts_in : ((server : RaftServer) (request : Request) (verdict : Verdict) → IsJudged server request verdict → verdict ≡ verdict_on server request)
    → (world : World) → Invariants world → (me you : ℕ) (request : Request) → IsFit me (world.server me) → you ≢ me → (world.server me).memory.role ≡ Leader
    → (world.server you).store.term ≤ (world.server me).store.term → In (Requests request) world.bag → request.append ≡ true
    → request.term ≡ (world.server me).store.term → request.previous ≤ (world.server me).memory.matched you
    → is_accepted (verdict_on (world.server you) request) ≡ true
accepts_in one_verdict world inv me you request fit other leads low there append its_term known =
    accepts one_verdict world inv me you request (joined_in world inv me you fit other leads low) there append its_term known
