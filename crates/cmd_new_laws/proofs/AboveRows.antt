-- Rows in which members stand for election, each alone, until each has stored its term.
use Rattle.std.proofs.Common.{◌≡◌, ◌≢◌, ◌⊎◌, ℕ, zero, suc, ◌+◌, ◌<◌, ◌≤◌, Bool, true, false, List, [], ◌∷◌, ◌++◌, length, max, refl, sym, ◌∙◌, ap, subst, arith, inl, inr, Option, None, Some}
use Rattle.std.specs.Prelude.{◌==◌, ◌||◌, not, if◌then◌else◌}
use Rattle.std.proofs.lemmas.Bool.Decides.{eqb_tells}
use Rattle.disk_model.specs.Memory.{nothing_set}
use Rattle.kv_store.specs.KeyDisk.{KeyDisk}
use Rattle.outside.specs.declared.pattern.Pattern.{Pattern}
use Rattle.outside.specs.declared.pattern.Pattern.TheVariants.{Old}
use Rattle.raft_core.specs.StoredPuts.{PutWithOrigin, store_of, stored_puts, with_origin}
use Rattle.raft_core.specs.Times.{Times, opened_times}
use Rattle.raft_log.specs.KeyDisk.{are_put, puts_on}
use Rattle.raft_log.specs.Stored.{Put, Stored}
use Rattle.raft_log.specs.Stored.Put.{PutTerm, PutVote}
use Rattle.raft_model.specs.Lists.{In, any, at_here, at_other}
use Rattle.raft_model.specs.Members.{HasNoneTwice}
use Rattle.raft_model.specs.Moves.Elections.{stand_puts, term_limit}
use Rattle.bus_rows.specs.declared.row.Row.{Row}
use Rattle.bus_rows.specs.declared.row.Row.TheVariants.{Crash, Open, Tick}
use Rattle.allocatee.specs.Allocatee.{Device}
use Rattle.alloc_spec.specs.AllocatorState.{AllocatorState, knows_all}
use Rattle.alloc_spec.specs.ClusterMembers.{AreMembers}
use Rattle.alloc_spec.specs.Rules.{IsToldAll, opening_by, times_with}
use Rattle.alloc_spec.specs.Step.{step}
use Rattle.alloc_spec.specs.Step as server
use Rattle.alloc_spec.specs.StepState.{StepState}
use Rattle.alloc_spec_laws.proofs.ToldMembers.{told_all_knows_all}
use Rattle.service_alone.proofs.Goes.{after_both}
use Rattle.service_candidate.proofs.WaitsStand.{WaitsStill, stands_now}
use Rattle.service_candidate.proofs.WaitsTicks.{stands_at}
use Rattle.bus_spec.specs.declared.unlawful.Unlawful.TheVariants.{NoNode, Running, Stopped}
use Rattle.bus_spec.specs.Cluster.{Cluster, after_row, after_rows, cluster, is_member, rules_of, tick_of, with_member, world_of}
use Rattle.bus_spec.specs.Lawful.{AreLawful, DoNoHarm, because, or_else}
use Rattle.bus_spec.specs.Members.{Member, MemberStatus, after_crash, after_cut_off, after_opening, fresh_member, is_running, member_after_step, puts_of}
use Rattle.bus_spec.specs.Members.MemberStatus.{Down, Up}
use Rattle.cmd_new_laws.specs.Begun.{AreAbove, ComeAbove, HasStored, stored_above}
use Rattle.cmd_new_laws.proofs.Elections.{puts_of_standing}

-- ---- one member

-- a term and a vote are stored, and nothing else
abbrev stored : ℕ → ℕ → Stored
stored term vote = record { term = term; vote = vote; log = []; commit = 0; origins = []; version = 2 }

abbrev disk : ℕ → ℕ → (ℕ → ℕ) → ℕ → KeyDisk Stored
disk term vote copies faults = record { store = stored term vote; copies = copies; unsynced = None; calls = nothing_set faults }

abbrev down : ℕ → ℕ → (ℕ → ℕ) → ℕ → Pattern → Member
down term vote copies faults pattern = record { status = Down; disk = disk term vote copies faults; pattern = pattern }

-- a member is stopped, and has stored so much
record IsDown (term vote : ℕ) (x : Member) : Type 0 where
  copies : ℕ → ℕ
  faults : ℕ
  pattern : Pattern
  is : x ≡ down term vote copies faults pattern

-- the moment and the word of an opening that is told a list
told_since : (nodes : List ℕ) (times : Times) → (times_with nodes times).since ≡ times.since
told_since [] times = refl
told_since (node ∷ nodes) times = refl

told_word : (nodes : List ℕ) (times : Times) → (times_with nodes times).word ≡ times.word
told_word [] times = refl
told_word (node ∷ nodes) times = refl

-- the moment of the tick, behind an opening at 0
abbrev late : ℕ
late = 2000

module _ (n : ℕ) (ids : List ℕ) (members : AreMembers ids) (many : 2 ≤ length ids) (listed : In n ids) where
  told_all : IsToldAll n (rules_of ids true)
  told_all = record { own = listed; nodes = members.nodes; once = members.once; all = refl }

  module _ (term vote : ℕ) (low : term < term_limit) (copies : ℕ → ℕ) (faults : ℕ) (pattern : Pattern) where
    abbrev opened : AllocatorState
    opened = opening_by n (rules_of ids true) (store_of (stored term vote)) 0 0

    abbrev up : Member
    up = record { status = Up opened; disk = disk term vote copies faults; pattern = pattern }

    opens : after_opening n (rules_of ids true) 0 0 (down term vote copies faults pattern) ≡ up
    opens = refl

    knows : knows_all opened ≡ true
    knows = told_all_knows_all n (rules_of ids true) (store_of (stored term vote)) 0 0 (members.nodes n listed).0 told_all

    waits : WaitsStill (length ids) 0 0 opened
    waits = record {
      size_is = refl;
      knows = knows;
      since_is = told_since ids (opened_times 0 0);
      word_is = told_word ids (opened_times 0 0);
      role = λ e. cc e;
    }

    stands : stands_at opened (max opened.now late) ≡ true
    stands = stands_now opened (length ids) 0 0 (max opened.now late) waits low (omega arith)

    -- the puts of the election
    abbrev three : List Put
    three = PutTerm (term + 1) ∷ PutVote 0 ∷ PutVote n ∷ []

    abbrev taken : ℕ → StepState
    taken row = (step opened row (server.Tick late 0)).step_state

    abbrev ticked : ℕ → Member
    ticked row = record up { status = Up (taken row).allocator; disk = puts_on three (disk term vote copies faults) }

    ticks : (row : ℕ) → member_after_step row (tick_of late 0) up.status up ≡ ticked row
    ticks row = ap (λ (puts : List Put). if are_put puts (nothing_set faults)
        then record up { status = Up (taken row).allocator; disk = puts_on puts (disk term vote copies faults) }
        else after_cut_off up row opened (taken row) (puts_on puts (disk term vote copies faults)))
        (ap (λ (puts : List PutWithOrigin). stored_puts puts (stored term vote)) (puts_of_standing opened row late 0 stands knows many))

    stops : (row : ℕ) → IsDown (term + 1) n (after_crash 0 Old (ticked row))
    stops row = record { copies = (puts_on three (disk term vote copies faults)).copies; faults = faults; pattern = Old; is = refl }

-- ---- rows

-- rows lead to a world in which member n has stored so much, and all else is as it was
record Goes (w : Cluster) (n term vote : ℕ) : Type 0 where
  rows : List Row
  lawful : AreLawful w rows
  ids : (after_rows w rows).ids ≡ w.ids
  frames : (after_rows w rows).frames ≡ w.frames
  devices : (after_rows w rows).allocatee ≡ w.allocatee
  its : IsDown term vote ((after_rows w rows).member n)
  others : (m : ℕ) → m ≢ n → (after_rows w rows).member m ≡ w.member m

is_listed : (n : ℕ) (ids : List ℕ) → In n ids → is_member ids n ≡ true
is_listed n [] i = absurd i
is_listed n (x ∷ ids) (inl e) = elim (eqb_tells x n) [
  | inl z ↦ ap (λ (b : Bool). if b then true else is_member ids n) z.0
  | inr z ↦ absurd (z.1 (sym e))
]
is_listed n (x ∷ ids) (inr i) = elim (eqb_tells x n) [
  | inl z ↦ ap (λ (b : Bool). if b then true else is_member ids n) z.0
  | inr z ↦ ap (λ (b : Bool). if b then true else is_member ids n) z.0 ∙ is_listed n ids i
]

own_is : (w : Cluster) (n : ℕ) (x : Member) → (with_member w n x).member n ≡ x
own_is w n x = at_here w.member n n x refl

other_is : (w : Cluster) (n m : ℕ) (x : Member) → m ≢ n → (with_member w n x).member m ≡ w.member m
other_is w n m x other = at_other w.member n m x other

lawful_both : (w : Cluster) (first rest : List Row) → AreLawful w first → AreLawful (after_rows w first) rest → AreLawful w (first ++ rest)
lawful_both w [] rest a b = b
lawful_both w (row ∷ first) rest a b = (a.0, lawful_both (after_row w row) first rest a.1 b)

-- and then to another one
join : (w : Cluster) (n term vote next voted : ℕ) → (g : Goes w n term vote) → Goes (after_rows w g.rows) n next voted → Goes w n next voted
join w n term vote next voted g rest = record {
  rows = g.rows ++ rest.rows;
  lawful = lawful_both w g.rows rest.rows g.lawful rest.lawful;
  ids = ap (λ (v : Cluster). v.ids) both ∙ (rest.ids ∙ g.ids);
  frames = ap (λ (v : Cluster). v.frames) both ∙ (rest.frames ∙ g.frames);
  devices = ap (λ (v : Cluster). v.allocatee) both ∙ (rest.devices ∙ g.devices);
  its = subst (λ (v : Cluster). IsDown next voted (v.member n)) (sym both) rest.its;
  others = λ m other. ap (λ (v : Cluster). v.member m) both ∙ (rest.others m other ∙ g.others m other);
}
  where
    both : after_rows w (g.rows ++ rest.rows) ≡ after_rows (after_rows w g.rows) rest.rows
    both = after_both w g.rows rest.rows

-- the vote of a member that stood so often
abbrev vote_at : ℕ → ℕ → ℕ
vote_at n zero = 0
vote_at n (suc term) = n

module _ (ids : List ℕ) (members : AreMembers ids) (many : 2 ≤ length ids) (n : ℕ) (listed : In n ids) where
  -- one election more
  module _ (term vote : ℕ) (low : term < term_limit) (w : Cluster) (same : w.ids ≡ ids) (is_down : IsDown term vote (w.member n)) where
    abbrev first : Cluster
    first = after_row w (Open n true 0 0)

    abbrev second : Cluster
    second = after_row first (Tick n late 0)

    abbrev third : Cluster
    third = after_row second (Crash n 0 Old)

    abbrev it_is : is_member w.ids n ≡ true
    it_is = is_listed n w.ids (subst (λ (l : List ℕ). In n l) (sym same) listed)

    at_first : first.member n ≡ up n ids members many listed term vote low is_down.copies is_down.faults is_down.pattern
    at_first = own_is w n (after_opening n (rules_of w.ids true) 0 0 (w.member n))
        ∙ (λ i. after_opening n (rules_of (same i) true) 0 0 (is_down.is i))

    at_second : second.member n ≡ ticked n ids members many listed term vote low is_down.copies is_down.faults is_down.pattern (first.rows + 1)
    at_second = own_is first n (member_after_step (first.rows + 1) (tick_of late 0) (first.member n).status (first.member n))
        ∙ ap (λ (x : Member). member_after_step (first.rows + 1) (tick_of late 0) x.status x) at_first
        ∙ ticks n ids members many listed term vote low is_down.copies is_down.faults is_down.pattern (first.rows + 1)

    at_third : third.member n ≡ after_crash 0 Old (ticked n ids members many listed term vote low is_down.copies is_down.faults is_down.pattern (first.rows + 1))
    at_third = own_is second n (after_crash 0 Old (second.member n)) ∙ ap (λ (x : Member). after_crash 0 Old x) at_second

    round : Goes w n (term + 1) n
    round = record {
      rows = Open n true 0 0 ∷ Tick n late 0 ∷ Crash n 0 Old ∷ [];
      lawful = (
        λ i. or_else (because NoNode (not (it_is i))) (because Running (is_running (is_down.is i).status)),
        (
          λ i. or_else (because NoNode (not (it_is i))) (because Stopped (not (is_running (at_first i).status))),
          (λ i. or_else (because NoNode (not (it_is i))) (because Stopped (not (is_running (at_second i).status))), tt),
        ),
      );
      ids = refl;
      frames = refl;
      devices = refl;
      its = subst (IsDown (term + 1) n) (sym at_third) (stops n ids members many listed term vote low is_down.copies is_down.faults is_down.pattern (first.rows + 1));
      others = λ m other. other_is second n m (after_crash 0 Old (second.member n)) other
          ∙ (other_is first n m (member_after_step (first.rows + 1) (tick_of late 0) (first.member n).status (first.member n)) other
          ∙ other_is w n m (after_opening n (rules_of w.ids true) 0 0 (w.member n)) other);
    }

  -- the first opening
  module _ (w : Cluster) (same : w.ids ≡ ids) (fresh : w.member n ≡ fresh_member) where
    abbrev once : Cluster
    once = after_row w (Open n true 0 0)

    abbrev stopped_then : Cluster
    stopped_then = after_row once (Crash n 0 Old)

    abbrev is_there : is_member w.ids n ≡ true
    is_there = is_listed n w.ids (subst (λ (l : List ℕ). In n l) (sym same) listed)

    at_once : once.member n ≡ after_opening n (rules_of ids true) 0 0 fresh_member
    at_once = own_is w n (after_opening n (rules_of w.ids true) 0 0 (w.member n))
        ∙ (λ i. after_opening n (rules_of (same i) true) 0 0 (fresh i))

    at_stop : stopped_then.member n ≡ after_crash 0 Old (after_opening n (rules_of ids true) 0 0 fresh_member)
    at_stop = own_is once n (after_crash 0 Old (once.member n)) ∙ ap (λ (x : Member). after_crash 0 Old x) at_once

    begins : Goes w n 0 0
    begins = record {
      rows = Open n true 0 0 ∷ Crash n 0 Old ∷ [];
      lawful = (
        λ i. or_else (because NoNode (not (is_there i))) (because Running (is_running (fresh i).status)),
        (λ i. or_else (because NoNode (not (is_there i))) (because Stopped (not (is_running (at_once i).status))), tt),
      );
      ids = refl;
      frames = refl;
      devices = refl;
      its = subst (IsDown 0 0) (sym at_stop)
          (record { copies = (after_opening n (rules_of ids true) 0 0 fresh_member).disk.copies; faults = 0; pattern = Old; is = refl });
      others = λ m other. other_is once n m (after_crash 0 Old (once.member n)) other
          ∙ other_is w n m (after_opening n (rules_of w.ids true) 0 0 (w.member n)) other;
    }

  -- so many elections
  above : (term : ℕ) → term ≤ term_limit → (w : Cluster) → w.ids ≡ ids → w.member n ≡ fresh_member → Goes w n term (vote_at n term)
  above zero low w same fresh = begins w same fresh
  above (suc term) low w same fresh =
      let before : Goes w n term (vote_at n term) = above term (omega (arith, low)) w same fresh in
      subst (λ (k : ℕ). Goes w n k n) (omega arith)
      (join w n term (vote_at n term) (term + 1) n before
      (round term (vote_at n term) (omega (arith, low)) (after_rows w before.rows) (before.ids ∙ same) before.its))

-- ---- all members

-- rows lead to a world in which each of these members has stored its term, and all else is as it was
record AllGo (w : Cluster) (group : List ℕ) (terms : ℕ → ℕ) : Type 0 where
  rows : List Row
  lawful : AreLawful w rows
  ids : (after_rows w rows).ids ≡ w.ids
  frames : (after_rows w rows).frames ≡ w.frames
  devices : (after_rows w rows).allocatee ≡ w.allocatee
  each : (m : ℕ) → In m group → IsDown (terms m) (vote_at m (terms m)) ((after_rows w rows).member m)
  others : (m : ℕ) → (In m group → ⊥) → (after_rows w rows).member m ≡ w.member m

-- one member, and then the others
with_rest : (w : Cluster) (n : ℕ) (group : List ℕ) (terms : ℕ → ℕ) → (In n group → ⊥) → (g : Goes w n (terms n) (vote_at n (terms n)))
    → AllGo (after_rows w g.rows) group terms → AllGo w (n ∷ group) terms
with_rest w n group terms once g rest = record {
  rows = g.rows ++ rest.rows;
  lawful = lawful_both w g.rows rest.rows g.lawful rest.lawful;
  ids = ap (λ (v : Cluster). v.ids) both ∙ (rest.ids ∙ g.ids);
  frames = ap (λ (v : Cluster). v.frames) both ∙ (rest.frames ∙ g.frames);
  devices = ap (λ (v : Cluster). v.allocatee) both ∙ (rest.devices ∙ g.devices);
  each = λ m i. subst (λ (v : Cluster). IsDown (terms m) (vote_at m (terms m)) (v.member m)) (sym both) (elim i [
    | inl e ↦ subst (λ (k : ℕ). IsDown (terms k) (vote_at k (terms k)) ((after_rows (after_rows w g.rows) rest.rows).member k)) (sym e)
        (subst (IsDown (terms n) (vote_at n (terms n))) (sym (rest.others n once)) g.its)
    | inr j ↦ rest.each m j
  ]);
  others = λ m out. ap (λ (v : Cluster). v.member m) both ∙ (rest.others m (λ j. out (inr j)) ∙ g.others m (λ e. out (inl e)));
}
  where
    both : after_rows w (g.rows ++ rest.rows) ≡ after_rows (after_rows w g.rows) rest.rows
    both = after_both w g.rows rest.rows

module _ (ids : List ℕ) (members : AreMembers ids) (many : 2 ≤ length ids) (terms : ℕ → ℕ) (low : (n : ℕ) → In n ids → terms n ≤ term_limit) where
  all_go : (group : List ℕ) → HasNoneTwice group → ((n : ℕ) → In n group → In n ids) → (w : Cluster) → w.ids ≡ ids
      → ((n : ℕ) → In n group → w.member n ≡ fresh_member) → AllGo w group terms
  all_go [] once listed w same fresh =
      record { rows = []; lawful = tt; ids = refl; frames = refl; devices = refl; each = λ m i. absurd i; others = λ m out. refl }
  all_go (n ∷ group) once listed w same fresh =
      let here : In n ids = listed n (inl refl) in
      let g : Goes w n (terms n) (vote_at n (terms n)) = above ids members many n here (terms n) (low n here) w same (fresh n (inl refl)) in
      with_rest w n group terms once.0 g (all_go group once.1 (λ m i. listed m (inr i)) (after_rows w g.rows) (g.ids ∙ same)
      (λ m i. g.others m (λ e. once.0 (subst (λ (k : ℕ). In k group) e i)) ∙ fresh m (inr i)))

  vote_is : (n term : ℕ) → vote_at n term ≡ (if term == 0 then 0 else n)
  vote_is n zero = refl
  vote_is n (suc term) = elim (eqb_tells (suc term) 0) [
    | inl z ↦ absurd (omega (arith, z.1))
    | inr z ↦ sym (ap (λ (b : Bool). if b then 0 else n) z.0)
  ]

  has_stored : (n term : ℕ) (x : Member) → IsDown term (vote_at n term) x → HasStored (stored_above term n) x
  has_stored n term x d = record {
    stopped = ap (λ (y : Member). y.status) d.is;
    store = ap (λ (y : Member). y.disk.store) d.is ∙ ap (stored term) (vote_is n term);
    synced = ap (λ (y : Member). y.disk.unsynced) d.is;
    faults = d.faults;
    calls = ap (λ (y : Member). y.disk.calls) d.is;
  }

  pub come_above : ComeAbove ids terms
  come_above = record {
    rows = all.rows;
    lawful = all.lawful;
    above = record {
      members = λ n i. has_stored n (terms n) ((world_of ids all.rows).member n) (all.each n i);
      no_frame = all.frames;
      no_device = λ a. ap (λ (f : ℕ → Option Device). f a) all.devices;
    };
  }
    where
      all : AllGo (cluster ids) ids terms
      all = all_go ids members.once (λ n i. i) (cluster ids) refl (λ n i. refl)

-- ---- rows behind them

pub harmless_both : (w : Cluster) (first rest : List Row) → DoNoHarm w first → DoNoHarm (after_rows w first) rest → DoNoHarm w (first ++ rest)
harmless_both w [] rest a b = b
harmless_both w (row ∷ first) rest a b = (a.0, harmless_both (after_row w row) first rest a.1 b)
