-- Every run with replacements keeps the invariants and is safe.
use Rattle.std.proofs.Common.{◌≡◌, ℕ, ◌<◌, ◌≤◌, Bool, true, false, List, [], ◌∷◌, length, refl, arith, sym, ◌∙◌, ap, subst, inl, inr, ◌⊎◌, take}
use Rattle.std.specs.Prelude.{if◌then◌else◌}
use Rattle.std.proofs.lemmas.List.{take_all}
use Rattle.raft_model.specs.History.{Candidacy, History, KeptVote}
use Rattle.raft_model.specs.Invariants.{Invariants}
use Rattle.raft_model.specs.Lists.{In, at_here}
use Rattle.raft_model.specs.Messages.{Message}
use Rattle.raft_model.specs.Messages.Message.{Answers, Pairs, Requests}
use Rattle.raft_model.specs.Runs.{World, Event, Lawful, after, run as run_events}
use Rattle.raft_model.specs.Safety.{IsSafe, Lasts}
use Rattle.raft_model.specs.Server.{RaftServer, committed, memory_when_down}
use Rattle.raft_model.proofs.Apart.{clash}
use Rattle.raft_model.proofs.Bridge.{event_lawful, server_at, world_of}
use Rattle.raft_model.proofs.Facts.{Facts, Later, Safe}
use Rattle.raft_model.proofs.Keeps.{run_keeps, start_meets}
use Rattle.raft_model.proofs.Later.{later_joined, later_same, run_later}
use Rattle.raft_model.proofs.Micro.{State, run, start}
use Rattle.raft_model.proofs.Quorum.{tell}
use Rattle.raft_model.proofs.Safe.{safe}
use Rattle.raft_model.proofs.Shown.{invariants_shown, lasts_shown, safe_shown}
use Rattle.raft_replaced.specs.Changes.{MayComeInTurn, Change, FromEachThroughReplacements, ThroughReplacements, changed, only_events}
use Rattle.raft_replaced.specs.Changes.Change.{Copies, Happens}
use Rattle.raft_replaced.specs.Replacement.{MayBeCopied, history_copied, history_elected, history_remembered, is_of_logs, is_remembered, is_remembered_candidacy, is_remembered_vote, remains, stores_of, world_copied}
use Rattle.raft_replaced.proofs.Backing.{IsBacking, bounded, is_backing, leads_own, stores_in}
use Rattle.raft_replaced.proofs.Copied.{copied, copied_later, copied_meets, focus_copied, ledger_in}
use Rattle.raft_replaced.proofs.Elected.{elected, elected_bounded, elected_later, elected_meets, stood_left, votes_left}
use Rattle.raft_replaced.proofs.Filters.{filter_has, in_filter, or_left}
use Rattle.raft_replaced.proofs.Remembered.{AreDown, history_of, remembered, remembered_is, remembered_later, remembered_meets}
use Rattle.raft_replaced.proofs.Further.{Further, further_copied, run_keeps_further, start_has_further}

-- a state with all facts that shows a world, and what lasts from another one
pub record Shows (before : State) (world : World) : Type 0 where
  pub state : State
  pub steps : ℕ
  pub facts : Facts state
  pub further : Further state
  pub later : Later before state
  pub same : world ≡ world_of state steps

module _ (s : State) (k n l : ℕ) (f : Facts s) (g : Further s) (may : MayBeCopied (world_of s k) n l) where
  backing : IsBacking (stores_in s) n l l
  backing = is_backing (stores_in s) n l l may.own

  low : (t : ℕ) → s.led t ≡ true → t ≤ s.term l
  low = bounded s f n l may.majority

  are_down : AreDown s
  are_down m = elim (tell (s.up m)) [ inl up ↦ absurd (clash (s.up m) up (may.down m (g.up m up))) | inr is ↦ is ]

  -- what is remembered of elections
  abbrev z : State
  z = remembered s (s.term l)

  meets : Facts z
  meets = remembered_meets s (s.term l) f are_down low

  -- the term was led
  where_led : s.led (s.term l) ≡ true → Shows s (world_copied (world_of s k) n l) × (length s.ledger ≤ length (s.log l))
  where_led led = (
    record {
      state = copied z n l;
      steps = k;
      facts = copied_meets z n l meets are_down led own low left stood backing.other backing.vote may.committed;
      further = further_copied z n l (record { terms = g.terms; up = g.up });
      later = later_joined s z (copied z n l) (remembered_later s (s.term l))
          (copied_later z n l meets are_down led own low left stood backing.other backing.vote may.committed);
      same = λ i. record {
        members = s.members;
        server = server_at z n (focus_copied z l) i;
        bag = z.bag;
        history = history i;
        ledger = record { entries = s.ledger; stamps = s.stamps };
        steps = k;
      };
    },
    (ledger_in z n l meets are_down led own low left stood backing.other backing.vote may.committed).0,
  )
    where
      own : s.leader (s.term l) ≡ l
      own = leads_own s f n l may.majority led

      left_by : (c t : ℕ) → is_remembered (history_of s) (s.term l) c t ≡ true → (t < s.term l) ⊎ ((t ≡ s.term l) × (c ≡ l))
      left_by c t e = elim (remembered_is (history_of s) (s.term l) c t e) [ inl x ↦ inl x | inr x ↦ inr (x.0, sym x.2 ∙ own) ]

      left : (v : KeptVote) → In v z.kept → (v.term < s.term l) ⊎ ((v.term ≡ s.term l) × (v.candidate ≡ l))
      left v i = left_by v.candidate v.term (in_filter (is_remembered_vote (history_of s) (s.term l)) s.kept v i).1

      stood : (c : Candidacy) → In c z.candidacies → (c.term < s.term l) ⊎ ((c.term ≡ s.term l) × (c.candidate ≡ l))
      stood c i = left_by c.candidate c.term (in_filter (is_remembered_candidacy (history_of s) (s.term l)) s.candidacies c i).1

      history : history_copied (world_of s k) n l ≡ history_of z
      history = ap (λ (b : Bool). if b then history_remembered (history_of s) (s.term l)
          else history_elected (stores_in s) n l s.members (history_remembered (history_of s) (s.term l))) led

  -- and with the leader taken as elected
  abbrev u : State
  u = elected z n l

  -- nobody led in it
  where_not_led : s.led (s.term l) ≡ false → Shows s (world_copied (world_of s k) n l) × (length s.ledger ≤ length (s.log l))
  where_not_led none = (
    record {
      state = copied u n l;
      steps = k;
      facts = copied_meets u n l meets_elected are_down led own (elected_bounded z n l meets are_down none left stood some backing.vote may.majority low)
          (votes_left z n l meets are_down none left stood some backing.vote may.majority)
          (stood_left z n l meets are_down none left stood some backing.vote may.majority) backing.other backing.vote may.committed;
      further = further_copied u n l (record { terms = g.terms; up = g.up });
      later = later_joined s z (copied u n l) (remembered_later s (s.term l))
          (later_joined z u (copied u n l) (elected_later z n l meets are_down none left stood some backing.vote may.majority)
          (copied_later u n l meets_elected are_down led own (elected_bounded z n l meets are_down none left stood some backing.vote may.majority low)
          (votes_left z n l meets are_down none left stood some backing.vote may.majority)
          (stood_left z n l meets are_down none left stood some backing.vote may.majority) backing.other backing.vote may.committed));
      same = λ i. record {
        members = s.members;
        server = server_at u n (focus_copied u l) i;
        bag = z.bag;
        history = history i;
        ledger = record { entries = s.ledger; stamps = s.stamps };
        steps = k;
      };
    },
    (ledger_in u n l meets_elected are_down led own (elected_bounded z n l meets are_down none left stood some backing.vote may.majority low)
        (votes_left z n l meets are_down none left stood some backing.vote may.majority)
        (stood_left z n l meets are_down none left stood some backing.vote may.majority) backing.other backing.vote may.committed).0,
  )
    where
      some : 1 ≤ s.term l
      some = g.terms l l backing.vote

      left_by : (c t : ℕ) → is_remembered (history_of s) (s.term l) c t ≡ true → t < s.term l
      left_by c t e = elim (remembered_is (history_of s) (s.term l) c t e) [ inl x ↦ x | inr x ↦ absurd (clash (s.led (s.term l)) x.1 none) ]

      left : (v : KeptVote) → In v z.kept → v.term < s.term l
      left v i = left_by v.candidate v.term (in_filter (is_remembered_vote (history_of s) (s.term l)) s.kept v i).1

      stood : (c : Candidacy) → In c z.candidacies → c.term < s.term l
      stood c i = left_by c.candidate c.term (in_filter (is_remembered_candidacy (history_of s) (s.term l)) s.candidacies c i).1

      meets_elected : Facts u
      meets_elected = elected_meets z n l meets are_down none left stood some backing.vote may.majority

      led : u.led (s.term l) ≡ true
      led = at_here s.led (s.term l) (s.term l) true refl

      own : u.leader (s.term l) ≡ l
      own = at_here s.leader (s.term l) (s.term l) l refl

      history : history_copied (world_of s k) n l ≡ history_of u
      history = ap (λ (b : Bool). if b then history_remembered (history_of s) (s.term l)
          else history_elected (stores_in s) n l s.members (history_remembered (history_of s) (s.term l))) none

  both : Shows s (world_copied (world_of s k) n l) × (length s.ledger ≤ length (s.log l))
  both = elim (tell (s.led (s.term l))) [ inl led ↦ where_led led | inr none ↦ where_not_led none ]

  pub replaced : Shows s (world_copied (world_of s k) n l)
  replaced = both.0

  -- all that is committed is in the leader's log
  pub all_committed : take (s.commit l) (s.log l) ≡ s.ledger
  all_committed =
      let whole : Safe s = safe s f in
      let c = whole.committed l in
      let short = both.1 in
      let e : s.commit l ≡ length s.ledger = omega (arith, c.0, short, may.committed) in
      c.1 ∙ take_all (s.commit l) s.ledger (omega (arith, e))

pub reach : (changes : List Change) (s : State) (k : ℕ) → Facts s → Further s → MayComeInTurn (world_of s k) changes
    → Shows s (changed (world_of s k) changes)
reach [] s k f h a = record { state = s; steps = k; facts = f; further = h; later = later_same s; same = refl }
reach (Happens e ∷ changes) s k f h a =
    let r = event_lawful s k e f a.0 in
    let next : MayComeInTurn (world_of (run s r.0) r.2) changes = subst (λ (w : World). MayComeInTurn w changes) r.3 a.1 in
    let q = reach changes (run s r.0) r.2 (run_keeps r.0 s r.1 f) (run_keeps_further r.0 s r.1 f h) next in
    record {
      state = q.state;
      steps = q.steps;
      facts = q.facts;
      further = q.further;
      later = later_joined s (run s r.0) q.state (run_later r.0 s r.1 f) q.later;
      same = ap (λ (w : World). changed w changes) r.3 ∙ q.same;
    }
reach (Copies n l ∷ changes) s k f h a =
    let r = replaced s k n l f h a.0 in
    let next : MayComeInTurn (world_of r.state r.steps) changes = subst (λ (w : World). MayComeInTurn w changes) r.same a.1 in
    let q = reach changes r.state r.steps r.facts r.further next in
    record {
      state = q.state;
      steps = q.steps;
      facts = q.facts;
      further = q.further;
      later = later_joined s r.state q.state r.later q.later;
      same = ap (λ (w : World). changed w changes) r.same ∙ q.same;
    }

pub keeps_invariants : ThroughReplacements Invariants
keeps_invariants members changes a =
    let r = reach changes (start members) 0 (start_meets members) (start_has_further members) a in
    subst Invariants (sym r.same) (invariants_shown r.state r.steps r.facts)

pub is_safe : ThroughReplacements IsSafe
is_safe members changes a =
    let r = reach changes (start members) 0 (start_meets members) (start_has_further members) a in
    subst IsSafe (sym r.same) (safe_shown r.state r.steps r.facts)

pub lasts : FromEachThroughReplacements Lasts
lasts members early late a b =
    let r = reach early (start members) 0 (start_meets members) (start_has_further members) a in
    let next : MayComeInTurn (world_of r.state r.steps) late = subst (λ (w : World). MayComeInTurn w late) r.same b in
    let q = reach late r.state r.steps r.facts r.further next in
    let last : Lasts (world_of r.state r.steps) (world_of q.state q.steps) = lasts_shown r.state q.state r.steps q.steps r.facts q.facts q.later in
    subst (λ (w : World). Lasts w (changed w late)) (sym r.same)
    (subst (λ (w : World). Lasts (world_of r.state r.steps) w) (sym q.same) last)

pub events_alone : (world : World) (events : List Event) → changed world (only_events events) ≡ run_events world events
events_alone world [] = refl
events_alone world (e ∷ events) = events_alone (after world e) events

pub events_allowed : (world : World) (events : List Event) → Lawful world events → MayComeInTurn world (only_events events)
events_allowed world [] a = a
events_allowed world (e ∷ events) a = (a.0, events_allowed (after world e) events a.1)

pub copy_is_store : (world : World) (lost leader : ℕ) → stores_of (world_copied world lost leader) lost ≡ stores_of world leader
copy_is_store world lost leader =
    ap (λ (p : RaftServer). p.store) (at_here world.server lost lost (record { store = stores_of world leader; memory = memory_when_down }) refl)

-- the committed list of the copy begins the ledger after it, which is that before; and it is as long
pub copy_has_all : ThroughReplacements (λ world. (lost leader : ℕ) → MayBeCopied world lost leader →
    committed (stores_of (world_copied world lost leader) lost) ≡ world.ledger.entries)
copy_has_all members changes a lost leader may =
    let r = reach changes (start members) 0 (start_meets members) (start_has_further members) a in
    let may2 : MayBeCopied (world_of r.state r.steps) lost leader = subst (λ (w : World). MayBeCopied w lost leader) r.same may in
    subst (λ (w : World). committed (stores_of (world_copied w lost leader) lost) ≡ w.ledger.entries) (sym r.same)
    (ap committed (copy_is_store (world_of r.state r.steps) lost leader) ∙ all_committed r.state r.steps lost leader r.facts r.further may2)

of_logs_remains : (history : History) (top : ℕ) (message : Message) → is_of_logs message ≡ true → remains history top message ≡ true
of_logs_remains history top (Requests request) e = or_left request.append (is_remembered history top request.from request.term) e
of_logs_remains history top (Answers answer) e =
    or_left answer.request.append (is_remembered history top answer.request.from answer.request.term) e
of_logs_remains history top (Pairs pair) e = refl

pub logs_stay : (world : World) (lost leader : ℕ) (message : Message) → In message world.bag → is_of_logs message ≡ true →
    In message (world_copied world lost leader).bag
logs_stay world lost leader message i e =
    filter_has (remains world.history (stores_of world leader).term) world.bag message i
    (of_logs_remains world.history (stores_of world leader).term message e)
