-- What moves keep of a log: its committed part, and that the commit index lies in it.
use Rattle.std.proofs.Common.{◌≡◌, ℕ, zero, suc, ◌+◌, ◌<◌, ◌≤◌, Bool, true, false, List, [], ◌∷◌, ◌++◌, length, length-append, length-take, take, get_or, inl, inr, refl, sym, ◌∙◌, ap, subst, arith, Option, Some, None}
use Rattle.std.specs.Prelude.{⊤, ◌&&◌, min, not, nat_lt}
use Rattle.std.proofs.lemmas.List.{get_or-take, get_or_append_left}
use Rattle.can_frame.specs.declared.entry.Entry.{Entry}
use Rattle.can_frame.specs.Log.{blank}
use Rattle.raft_core.specs.Handled as handled
use Rattle.raft_model.specs.Decisions.{can_commit, commit_index, greatest_to, verdict_on}
use Rattle.raft_model.specs.Duty as duty
use Rattle.raft_model.specs.Handlers.{server_after, server_after_all}
use Rattle.raft_model.specs.Messages.{Request, items, reach}
use Rattle.raft_model.specs.Moves.{Move}
use Rattle.raft_model.specs.Moves.Appending.{Adds, Holds, IsJudged, IsRuled, Verdict, advance_puts, append_puts, cut_puts}
use Rattle.raft_model.specs.Moves.Appending.Verdict.{Added, Held, Outdated, Refused}
use Rattle.raft_model.specs.Moves.Elections.{grant_puts, is_leader, stand_puts, term_limit, term_puts, vote_puts, with_term}
use Rattle.raft_model.specs.Moves.Move.{AnswerAgain, CallForVote, CallToAppend, CommitTo, GiveUp, ProposeEntry, TakeAppendAnswer, TakeAppendRequest, TakeVoteAnswer, TakeVoteRequest, TellNothing, TellPair, TimeOut}
use Rattle.raft_model.specs.Server.{RaftServer, Put, Store, put, put_all}
use Rattle.raft_model.specs.Server.Put.{PutEntry, PutLonger, PutTerm, PutVote}
use Rattle.alloc_spec_laws.proofs.Choices.{and_left, and_right, either, le_true, lt_tells, lt_true, tell}

-- what is committed stays where it is, and the commit index does not fall
pub record Grows (a b : Store) : Type 0 where
  pub sane : b.commit ≤ length b.log
  pub commit : a.commit ≤ b.commit
  pub same : (place : ℕ) → place < a.commit → get_or b.log place (blank 0) ≡ get_or a.log place (blank 0)

abbrev pub IsSane : Store → Type 0
IsSane store = store.commit ≤ length store.log

pub alike : (a b : Store) → IsSane a → b.log ≡ a.log → b.commit ≡ a.commit → Grows a b
alike a b sane log commit = record {
  sane = omega (arith, sane, ap length log, commit);
  commit = omega (arith, commit);
  same = λ place low. ap (λ (l : List Entry). get_or l place (blank 0)) log;
}

pub and_then : (a b c : Store) → Grows a b → Grows b c → Grows a c
and_then a b c x y = record {
  sane = y.sane;
  commit = omega (arith, x.commit, y.commit);
  same = λ place low. y.same place (omega (arith, low, x.commit)) ∙ x.same place low;
}

longer : (a : Store) (entry : Entry) → IsSane a → Grows a (record a { log = a.log ++ (entry ∷ []) })
longer a entry sane = record {
  sane = omega (arith, sane, length-append a.log (entry ∷ []));
  commit = omega arith;
  same = λ place low. get_or_append_left a.log (entry ∷ []) (blank 0) place (omega (arith, low, sane));
}

shorter : (a : Store) (count : ℕ) → a.commit ≤ count → count ≤ length a.log → Grows a (record a { log = take count a.log })
shorter a count high low = record {
  sane = grind (arith, length-take, high, low);
  commit = omega arith;
  same = λ place below. get_or-take count a.log place (blank 0) (omega (arith, below, high));
}

further : (a : Store) (index : ℕ) → a.commit ≤ index → index ≤ length a.log → Grows a (record a { commit = index })
further a index high low = record { sane = low; commit = high; same = λ place below. refl }

put_both : (store : Store) (xs ys : List Put) → put_all store (xs ++ ys) ≡ put_all (put_all store xs) ys
put_both store [] ys = refl
put_both store (x ∷ xs) ys = put_both (put store x) xs ys

-- first some puts, then others
in_turn : (a : Store) (xs ys : List Put) → Grows a (put_all a xs) → Grows (put_all a xs) (put_all (put_all a xs) ys) → Grows a (put_all a (xs ++ ys))
in_turn a xs ys first second = subst (λ (s : Store). Grows a s) (sym (put_both a xs ys)) (and_then a (put_all a xs) (put_all (put_all a xs) ys) first second)

-- ---- a term, a vote

terms : (store : Store) (term : ℕ) → IsSane store → Grows store (put_all store (term_puts store term))
terms store term sane =
    either (λ (ps : List Put). Grows store (put_all store ps)) (nat_lt store.term term) (PutTerm term ∷ PutVote None ∷ []) []
    (λ e. alike store _ sane refl refl) (λ e. alike store _ sane refl refl)

votes : (a : Store) (vote : Option ℕ) (candidate : ℕ) → IsSane a → Grows a (put_all a (vote_puts vote candidate))
votes a None candidate sane = alike a _ sane refl refl
votes a (Some earlier) candidate sane = alike a _ sane refl refl

grants_grow : (a : Store) (request : Request) (granted : Bool) → IsSane a → Grows a (put_all a (grant_puts a request granted))
grants_grow a request true sane = votes a a.vote request.from sane
grants_grow a request false sane = alike a a sane refl refl

-- ---- an append request

advances : (decided a : Store) (request : Request) → a.commit ≡ decided.commit → IsSane a → reach request ≤ length a.log
    → Grows a (put_all a (advance_puts decided request))
advances decided a request same sane within = elim (lt_tells decided.commit (min request.commit (reach request))) [
  | inl z ↦ rw z.0 (further a (min request.commit (reach request)) (omega (arith, same, z.1)) (grind (arith, within)))
  | inr z ↦ rw z.0 (alike a a sane refl refl)
]

cuts : (a : Store) (request : Request) → IsSane a → a.commit ≤ request.previous → request.previous ≤ length a.log
    → Grows a (put_all a (cut_puts a request)) × (length (put_all a (cut_puts a request)).log ≡ request.previous)
    × ((put_all a (cut_puts a request)).commit ≡ a.commit)
cuts a request sane high low = elim (lt_tells request.previous (length a.log)) [
  | inl z ↦ rw z.0 (shorter a request.previous high low, grind (arith, length-take, low), refl)
  | inr z ↦ rw z.0 (alike a a sane refl refl, omega (arith, low, z.1), refl)
]

adds : (a : Store) (request : Request) (entry : Entry) → IsSane a → Adds a request entry → Grows a (put_all a (append_puts a request (Added entry)))
adds a request entry sane is =
    in_turn a (cut_puts a request) (PutEntry entry ∷ PutLonger entry ∷ advance_puts a request) cut.0
    (and_then b (put_all b (PutEntry entry ∷ PutLonger entry ∷ [])) (put_all b (PutEntry entry ∷ PutLonger entry ∷ advance_puts a request))
    (longer b entry cut.0.sane)
    (advances a (put_all b (PutEntry entry ∷ PutLonger entry ∷ [])) request cut.2 (longer b entry cut.0.sane).sane
    (omega (arith, carried, cut.1, length-append b.log (entry ∷ [])))))
  where
    b : Store
    b = put_all a (cut_puts a request)

    cut : Grows a (put_all a (cut_puts a request)) × (length (put_all a (cut_puts a request)).log ≡ request.previous)
        × ((put_all a (cut_puts a request)).commit ≡ a.commit)
    cut = cuts a request sane (omega (arith, is.after_commit)) is.fits.previous

    carried : reach request ≡ request.previous + 1
    carried = ap (λ (e : Option Entry). request.previous + items e) is.carried

holds : (a : Store) (request : Request) → IsSane a → Holds a request → Grows a (put_all a (append_puts a request Held))
holds a request sane is = advances a a request refl sane within
  where
    within : reach request ≤ length a.log
    within = elim is.has [
      | inl none ↦ omega (arith, ap (λ (e : Option Entry). request.previous + items e) none, is.fits.previous)
      | inr there ↦ omega (arith, ap (λ (e : Option Entry). request.previous + items e) there.1, there.3.0)
    ]

rules : (a : Store) (request : Request) (verdict : Verdict) → IsSane a → IsRuled a request verdict → Grows a (put_all a (append_puts a request verdict))
rules a request Outdated sane is = absurd is
rules a request Refused sane is = alike a a sane refl refl
rules a request Held sane is = holds a request sane is
rules a request (Added entry) sane is = adds a request entry sane is

requests_grow : (server : RaftServer) (request : Request) (verdict : Verdict) → IsSane server.store → IsJudged server request verdict
    → Grows server.store (put_all server.store (term_puts server.store request.term ++ append_puts (with_term server.store request.term) request verdict))
requests_grow server request verdict sane is =
    in_turn server.store (term_puts server.store request.term) (append_puts (with_term server.store request.term) request verdict)
    (terms server.store request.term sane) (by verdict is)
  where
    then_ : Store
    then_ = with_term server.store request.term

    after : IsSane (put_all server.store (term_puts server.store request.term))
    after = (terms server.store request.term sane).sane

    by : (v : Verdict) → IsJudged server request v → Grows then_ (put_all then_ (append_puts then_ request v))
    by Outdated judged = alike then_ then_ after refl refl
    by Refused judged = rules then_ request Refused after judged.1
    by Held judged = rules then_ request Held after judged.1
    by (Added entry) judged = rules then_ request (Added entry) after judged.1

-- ---- a commit

found_to : (limit index : ℕ) (test : ℕ → Bool) → greatest_to limit test ≡ Some index → test index ≡ true
found_to zero index test e = elim (tell (test 0)) [
  | inl b ↦ let same : 0 ≡ index = cc (rw b at e) in subst (λ (n : ℕ). test n ≡ true) same b
  | inr b ↦ absurd (cc (rw b at e))
]
found_to (suc limit) index test e = elim (tell (test (suc limit))) [
  | inl b ↦ let same : suc limit ≡ index = cc (rw b at e) in subst (λ (n : ℕ). test n ≡ true) same b
  | inr b ↦ found_to limit index test (rw b at e)
]

commits : (members : List ℕ) (me index : ℕ) (server : RaftServer) → commit_index members me server ≡ Some index
    → Grows server.store (record server.store { commit = index })
commits members me index server e =
    let can = found_to (length server.store.log) index (can_commit members me server) e in
    further server.store index (omega (arith, lt_true server.store.commit index (and_left _ _ can)))
    (le_true index (length server.store.log) (and_left _ _ (and_right (nat_lt server.store.commit index) _ can)))

-- ---- moves that are decided

-- an append request has the verdict on it, and a commit the greatest index
abbrev pub IsDecided : List ℕ → ℕ → RaftServer → Move → Type 0
IsDecided members me server (TakeAppendRequest request verdict) = verdict ≡ verdict_on server request
IsDecided members me server (CommitTo index) = commit_index members me server ≡ Some index
IsDecided members me server move = ⊤

abbrev pub AreDecided : List ℕ → ℕ → ℕ → RaftServer → List Move → Type 0
AreDecided members me step server [] = ⊤
AreDecided members me step server (move ∷ moves) =
    IsDecided members me server move × AreDecided members me step (server_after members me step server move) moves

pub expire_decided : (members : List ℕ) (me step : ℕ) (nodes : List ℕ) (server : RaftServer)
    → AreDecided members me step server (handled.moves_of_expire nodes)
expire_decided members me step [] server = tt
expire_decided members me step (node ∷ nodes) server = (tt, expire_decided members me step nodes _)

pub commit_decided : (members : List ℕ) (me step : ℕ) (server : RaftServer) → AreDecided members me step server (duty.commit_phase members me server)
commit_decided members me step server =
    either (AreDecided members me step server) (is_leader server.memory.role) (duty.commit_moves (commit_index members me server)) []
    (λ e. go (commit_index members me server) refl) (λ e. tt)
  where
    go : (index : Option ℕ) → commit_index members me server ≡ index → AreDecided members me step server (duty.commit_moves index)
    go None e = tt
    go (Some index) e = (e, tt)

pub tick_decided : (members : List ℕ) (me step : ℕ) (waited : Bool) (server : RaftServer)
    → AreDecided members me step server (duty.tick_phase waited server)
tick_decided members me step waited server =
    either (AreDecided members me step server) (waited && (not (is_leader server.memory.role) && nat_lt server.store.term term_limit)) (TimeOut ∷ []) []
    (λ e. (tt, tt)) (λ e. tt)

module _ (judged : (server : RaftServer) (request : Request) → IsJudged server request (verdict_on server request)) where
  move_grows : (members : List ℕ) (me step : ℕ) (server : RaftServer) (move : Move) → IsDecided members me server move → IsSane server.store
      → Grows server.store (server_after members me step server move).store
  move_grows members me step server TimeOut is sane = alike server.store (put_all server.store (stand_puts me server.store)) sane refl refl
  move_grows members me step server (TakeVoteRequest request granted) is sane =
      in_turn server.store (term_puts server.store request.term) (grant_puts (with_term server.store request.term) request granted)
      (terms server.store request.term sane)
      (grants_grow (with_term server.store request.term) request granted (terms server.store request.term sane).sane)
  move_grows members me step server (TakeVoteAnswer answer) is sane = terms server.store answer.term sane
  move_grows members me step server (TakeAppendRequest request verdict) is sane =
      requests_grow server request verdict sane (subst (λ (v : Verdict). IsJudged server request v) (sym is) (judged server request))
  move_grows members me step server (TakeAppendAnswer answer) is sane = terms server.store answer.term sane
  move_grows members me step server (ProposeEntry entry) is sane = longer server.store entry sane
  move_grows members me step server (CommitTo index) is sane = commits members me index server is
  move_grows members me step server TellPair is sane = alike _ _ sane refl refl
  move_grows members me step server TellNothing is sane = alike _ _ sane refl refl
  move_grows members me step server (CallForVote peer) is sane = alike _ _ sane refl refl
  move_grows members me step server (CallToAppend peer previous with_entry) is sane = alike _ _ sane refl refl
  move_grows members me step server (AnswerAgain place) is sane = alike _ _ sane refl refl
  move_grows members me step server (GiveUp peer) is sane = alike _ _ sane refl refl

  pub moves_grow : (members : List ℕ) (me step : ℕ) (moves : List Move) (server : RaftServer) → AreDecided members me step server moves → IsSane server.store
      → Grows server.store (server_after_all members me step server moves).store
  moves_grow members me step [] server are sane = alike _ _ sane refl refl
  moves_grow members me step (move ∷ moves) server are sane =
      let first = move_grows members me step server move are.0 sane in
      and_then server.store (server_after members me step server move).store _ first
      (moves_grow members me step moves (server_after members me step server move) are.1 first.sane)
