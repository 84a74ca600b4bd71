-- One whose log is furthest wins when it stands; and so does one to which such a member gives its vote.
use Rattle.std.proofs.Common.{◌≡◌, ◌≢◌, ℕ, ◌+◌, ◌*◌, ◌<◌, ◌≤◌, arith, true, List, [], ◌∷◌, ◌++◌, length, sym, ◌∙◌, ap, subst, inl, inr, append_assoc}
use Rattle.std.specs.Prelude.{◌⊎◌}
use Rattle.can_frame.specs.declared.entry.Entry.{Entry}
use Rattle.can_frame.specs.Log.{last_term}
use Rattle.raft_core.specs.Handled as handled
use Rattle.raft_model.specs.Decisions.{grants}
use Rattle.raft_model.specs.Lists.{In}
use Rattle.raft_model.specs.Log.{NotAbove}
use Rattle.raft_model.specs.Messages.{Request}
use Rattle.raft_model.specs.Moves.Elections.{IsGranted, with_term}
use Rattle.raft_model.specs.Server.{Store}
use Rattle.alloc_spec.specs.AllocatorState.{AllocatorState}
use Rattle.bus_rows.specs.Timed.{Timed}
use Rattle.service_alone.specs.Calm.{end_of}
use Rattle.service_calm.specs.Calm.{Member as OfMember}
use Rattle.service_calm.proofs.Pair.{same_server}
use Rattle.service_leader.proofs.Stretches.{end_both}
use Rattle.service_candidate.specs.Elections.{IsFurthest}
use Rattle.service_candidate.specs.Votes.{Stands}
use Rattle.service_candidate.specs.Waits.{GivesVote}
use Rattle.service_candidate.specs.Wins.{IsBehind, WinsBy}
use Rattle.service_candidate.proofs.OneStands.{OneStands}
use Rattle.service_candidate.proofs.TermsMoves.{log_with_term}
use Rattle.service_candidate.proofs.WinsFronts.{part_of}
use Rattle.service_elections.specs.Rounds.{AreInStep, NobodyLedIn}
use Rattle.service_elections.specs.Sent.{HasAskedFor}
use Rattle.service_elections.proofs.CalmFronts.{end_before, harm_row}
use Rattle.service_elections.proofs.InStepFronts.{calm_at, facts, row_before, runs_at, the_calm, there, w0}
use Rattle.service_elections.proofs.InStepGiven.{Ground}
use Rattle.service_elections.proofs.InStepLogs.{Held, hold}
use Rattle.service_elections.proofs.InStepScene.{IsLedFrom, Stood, follow_at, leads_not, within_term}
use Rattle.service_elections.proofs.InStepWalk.{all_reached, behind_on, gap, led_from, led_later, one_before}
use Rattle.bus_spec.specs.Cluster.{after_row}
use Rattle.bus_spec.specs.Members.MemberStatus.{Up}

-- ---- logs

-- this log is not above the other one
abbrev pub IsBelow : List Entry → List Entry → Type 0
IsBelow a b = NotAbove (last_term a) (length a) (last_term b) (length b)

trans : (a i b j c k : ℕ) → NotAbove a i b j → NotAbove b j c k → NotAbove a i c k
trans a i b j c k (inl x) (inl y) = inl (omega (arith, x, y))
trans a i b j c k (inl x) (inr y) = inl (omega (arith, x, y.0))
trans a i b j c k (inr x) (inl y) = inl (omega (arith, x.0, y))
trans a i b j c k (inr x) (inr y) = inr (x.0 ∙ y.0, omega (arith, x.1, y.1))

-- who grants a vote has a log that is not above what the request says
granted_log : ((store : Store) (request : Request) → IsGranted store request (grants store request)) → (store : Store) (request : Request)
    → grants (with_term store request.term) request ≡ true → NotAbove (last_term store.log) (length store.log) request.previous_term request.previous
granted_log granted store request e = subst (λ (l : List Entry). NotAbove (last_term l) (length l) request.previous_term request.previous)
    (log_with_term store request.term).0
    (subst (IsGranted (with_term store request.term) request) e (granted (with_term store request.term) request)).not_above

module _ (g : Ground) (base : List Timed) (top last : ℕ) (long : last + 8 * g.pace.delay < end_of g.start g.whole) (begun behind : List Timed)
    (begun_cut : g.whole ≡ begun ++ behind) where
  -- its log was furthest behind the rows `begun`
  abbrev pub IsFar : ℕ → Type 0
  IsFar c = IsFurthest g.group c (there g begun)

  -- ---- one that is furthest stands

  module _ (front rest : List Timed) (timed : Timed) (h : Held g base top last long begun front) (cut : g.whole ≡ front ++ timed ∷ rest)
      (soon : timed.at + 4 * g.pace.delay ≤ last) (c term : ℕ) (i : In (OfMember c) g.group) (s : Stands c term (there g front) timed.row) (far : IsFar c) where
    abbrev d : Stood g base top front
    d = h.scene.stood

    abbrev one : OneStands g.group (there g front) timed.row
    one = record { n = c; member = i; term = term; stands = s }

    early : timed.at ≤ last
    early = omega (arith, soon)

    later : d.one.at + 8 * g.pace.delay < timed.at
    later = gap g base top last long front rest timed h.scene cut early one

    reached : (m : ℕ) (server : AllocatorState) → In (OfMember m) g.group → ((there g front).member m).status ≡ Up server → d.term ≤ server.raft_server.store.term
    reached = all_reached g base top last long front rest timed h.scene cut early one

    low : (m : ℕ) (server : AllocatorState) → In (OfMember m) g.group → ((there g front).member m).status ≡ Up server → server.raft_server.store.term ≤ d.term
    low m server j up = within_term g base top front d (timed ∷ rest) cut m j server up

    in_step : AreInStep g.group d.c d.term (there g front)
    in_step = record {
      in_term = λ m j server up. let a = reached m server j up in let b = low m server j up in omega (arith, a, b);
      follow = λ m server j differs up. follow_at g base top front d (timed ∷ rest) cut m server j differs up (reached m server j up);
      unled = λ m j server up. leads_not g base top front h.scene m server j up (h.high m server j up);
    }

    nobody_led : NobodyLedIn g.group d.term (w0 g) front
    nobody_led x y n e j leads = let a = h.scene.never x y n d.term e j leads in let b = d.above in omega (arith, a, b)

    each_behind : (m : ℕ) → In (OfMember m) g.group → m ≢ c → IsBehind m term s.before (there g front)
    each_behind m j differs server up =
        let own = runs_at g begun behind begun_cut c i in
        let its = runs_at g begun behind begun_cut m j in (
          let a = low m server j up in let b = reached c s.before i s.runs in let e = s.next in omega (arith, a, b, e),
          subst (λ (l : List Entry). IsBelow server.raft_server.store.log l) (sym (h.logs c own.server s.before i own.up.status s.runs))
              (subst (λ (l : List Entry). IsBelow l own.server.raft_server.store.log) (sym (h.logs m its.server server j its.up.status up))
              (far m own.server its.server j own.up.status its.up.status)),
        )

    ends : end_of g.start g.whole ≡ end_of timed.at rest
    ends = ap (end_of g.start) cut ∙ end_both g.start front (timed ∷ rest)

    wins : WinsBy g.group g.clocks c term timed.at (timed.at + 4 * g.pace.delay) (after_row (there g front) timed.row) rest
    wins = g.given.furthest_wins g.group g.clocks g.pace g.start d.c c term d.term front rest timed (calm_at g front (timed ∷ rest) cut) i
        (let a = d.late in let b = later in omega (arith, a, b)) s in_step nobody_led each_behind
        (let e = ends in omega (arith, e, soon, long))

    pub furthest_stands : IsLedFrom g base (last + 8 * g.pace.delay)
    furthest_stands = led_later g base (timed.at + 8 * g.pace.delay) (last + 8 * g.pace.delay) (omega (arith, soon))
        (led_from g base (d.more ++ (d.early ++ timed ∷ [])) front (wins.front ++ wins.rest) timed (timed.at + 8 * g.pace.delay) cut_wins
        (behind_on g base top last long front rest timed h.scene cut early)
        (g.given.top_wins g.group g.clocks g.pace g.start c term front wins.front wins.rest timed
        (calm_at g front (timed ∷ (wins.front ++ wins.rest)) cut_wins) i s
        (λ m j server up. let a = low m server j up in let b = reached c s.before i s.runs in omega (arith, a, b))
        wins.soon wins.led.leader
        (let e = ends in let f = ap (end_of timed.at) wins.split in omega (arith, e, f, soon, long))))
      where
        cut_wins : g.whole ≡ front ++ timed ∷ (wins.front ++ wins.rest)
        cut_wins = cut ∙ ap (λ (l : List Timed). front ++ timed ∷ l) wins.split

  -- ---- one that is furthest gives its vote

  module _ (moment : ℕ)
      (fresh : (x y : List Timed) (z : Timed) (n its : ℕ) → begun ≡ x ++ z ∷ y → In (OfMember n) g.group → Stands n its (there g x) z.row → z.at ≤ moment)
      (held : Held g base top last long begun begun) (more rest : List Timed) (timed : Timed)
      (h : Held g base top last long begun (begun ++ more)) (cut : g.whole ≡ (begun ++ more) ++ timed ∷ rest)
      (behind_it : moment + 2 * g.pace.delay < timed.at) (soon : timed.at + 4 * g.pace.delay ≤ last)
      (f : ℕ) (i : In (OfMember f) g.group) (far : IsFar f) (gives : GivesVote f (there g (begun ++ more)) timed.row) where
    abbrev front : List Timed
    front = begun ++ more

    pub votes : IsLedFrom g base (last + 8 * g.pace.delay)
    votes = by (g.given.votes_asked g.group g.clocks g.pace g.start f (begun ++ more) rest timed (calm_at g (begun ++ more) (timed ∷ rest) cut) i gives)
      where
        by : (c : ℕ) × In (OfMember c) g.group × (c ≢ f) × (gives.delivery.ident.source ≡ c)
            × HasAskedFor c f gives.request timed.at (2 * g.pace.delay) (w0 g) (begun ++ more)
            → IsLedFrom g base (last + 8 * g.pace.delay)
        by (c, j, differs, source, a) = placed (part_of begun more a.front a.rest a.timed a.split)
          where
            cut_asked : g.whole ≡ a.front ++ a.timed ∷ (a.rest ++ timed ∷ rest)
            cut_asked = cut ∙ (ap (λ (l : List Timed). l ++ timed ∷ rest) a.split ∙ append_assoc a.front (a.timed ∷ a.rest) (timed ∷ rest))

            stood : (t : ℕ) × Stands c t (there g a.front) a.timed.row
            stood = g.given.asks g.group g.clocks g.pace g.start c f a.front (a.rest ++ timed ∷ rest) a.timed
                (calm_at g a.front (a.timed ∷ (a.rest ++ timed ∷ rest)) cut_asked) j i
                (let k = a.lately in let l = h.scene.stood.late in
                let o = one_before g base top last long (begun ++ more) rest timed h.scene cut (omega (arith, soon)) in omega (arith, k, l, o)) a.asks

            -- the one that asked has a log that is furthest too
            asked_far : Held g base top last long begun a.front → IsFar c
            asked_far then_ m server other k up_c up_m =
                let its = runs_at g begun behind begun_cut f i in
                let standing = (facts g a.front (a.timed ∷ (a.rest ++ timed ∷ rest)) cut_asked).asked c stood.0 a.timed.row (g.calm.listed c j)
                (harm_row (the_calm g) a.front (a.rest ++ timed ∷ rest) a.timed cut_asked) stood.1 in
                let log_is : a.server.raft_server.store.log ≡ server.raft_server.store.log =
                ap (λ (t : AllocatorState). t.raft_server.store.log) (same_server a.server stood.1.after (sym a.runs ∙ stood.1.runs_then))
                ∙ (standing.log ∙ then_.logs c server stood.1.before j up_c stood.1.runs) in
                let said = granted_log g.given.granted gives.server.raft_server.store
                (handled.vote_request_of gives.request gives.delivery.mark.step gives.delivery.ident.source f) gives.grants_it in
                let own : IsBelow its.server.raft_server.store.log server.raft_server.store.log =
                subst (λ (l : List Entry). IsBelow l server.raft_server.store.log) (h.logs f its.server gives.server i its.up.status gives.runs)
                (subst (λ (l : List Entry). IsBelow gives.server.raft_server.store.log l) log_is
                (subst (λ (k : ℕ). NotAbove (last_term gives.server.raft_server.store.log) (length gives.server.raft_server.store.log) k
                (length a.server.raft_server.store.log)) a.its_last_term
                (subst (λ (k : ℕ). NotAbove (last_term gives.server.raft_server.store.log) (length gives.server.raft_server.store.log) gives.request.last_term k)
                a.its_last said))) in
                trans (last_term other.raft_server.store.log) (length other.raft_server.store.log) (last_term its.server.raft_server.store.log)
                (length its.server.raft_server.store.log) (last_term server.raft_server.store.log) (length server.raft_server.store.log)
                (far m its.server other k its.up.status up_m) own

            asked_soon : a.timed.at ≤ timed.at
            asked_soon =
                let k = row_before g a.front a.rest (timed ∷ rest) a.timed (cut ∙ ap (λ (l : List Timed). l ++ timed ∷ rest) a.split) in
                let l = end_before (the_calm g) (begun ++ more) rest timed cut in
                let e = ap (end_of g.start) a.split in
                omega (arith, k, l, e)

            won : Held g base top last long begun a.front → IsLedFrom g base (last + 8 * g.pace.delay)
            won then_ = furthest_stands a.front (a.rest ++ timed ∷ rest) a.timed then_ cut_asked (let l = asked_soon in omega (arith, l, soon)) c stood.0 j stood.1
                (asked_far then_)

            -- it asked behind the rows `begun`
            placed : ((tail : List Timed) × (begun ≡ a.front ++ a.timed ∷ tail) × (a.rest ≡ tail ++ more))
                ⊎ ((tail : List Timed) × (more ≡ tail ++ a.timed ∷ a.rest) × (a.front ≡ begun ++ tail))
                → IsLedFrom g base (last + 8 * g.pace.delay)
            placed (inl p) = let k = fresh a.front p.0 a.timed c stood.0 p.1 j stood.1 in let l = a.lately in absurd (omega (arith, k, l, behind_it))
            placed (inr p) = elim (hold g base top last long begun begun p.0 (a.timed ∷ (a.rest ++ timed ∷ rest)) held
                (cut_asked ∙ ap (λ (l : List Timed). l ++ a.timed ∷ (a.rest ++ timed ∷ rest)) p.2)
                (let e = ap (end_of g.start) p.2 in let k = ends_soon in omega (arith, e, k))) [
                  | inl led ↦ led
                  | inr then_ ↦ won (subst (Held g base top last long begun) (sym p.2) then_)
                ]
              where
                ends_soon : end_of g.start a.front ≤ last
                ends_soon =
                    let k = end_before (the_calm g) a.front (a.rest ++ timed ∷ rest) a.timed cut_asked in
                    let l = asked_soon in omega (arith, k, l, soon)
