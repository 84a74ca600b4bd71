-- Stops between two steps, and openings.
use Rattle.std.proofs.Common.{◌≡◌, ℕ, ◌+◌, ◌≤◌, Bool, true, false, List, [], ◌∷◌, length, take, refl, sym, ap, subst, ◌∙◌, arith, inl, inr, ◌⊎◌, Option, Some, None}
use Rattle.std.specs.Prelude.{◌&&◌, if◌then◌else◌}
use Rattle.disk_model.specs.Calls.{acts, after_call}
use Rattle.kv_store.specs.KeyDisk.{Unsynced, KeyDisk, after_calls, is_opened, is_put, keeps, opened_on, put_on, restarted_on, settled_by, turned_to}
use Rattle.outside.specs.declared.pattern.Pattern.{Pattern}
use Rattle.outside.specs.declared.pattern.Pattern.TheVariants.{New, Old}
use Rattle.raft_core.specs.StoredPuts.{store_of}
use Rattle.raft_log.specs.DeviceCalls.{key_of}
use Rattle.raft_log.specs.KeyDisk.{are_put, done_on, found_by, is_open_on, opening_on, put_state_on, puts_on}
use Rattle.raft_log.specs.Stored.{Put, Stored, after_put, after_puts, opening_puts}
use Rattle.raft_model.specs.Lists.{In, at, at_here, at_other}
use Rattle.raft_model.specs.Runs as raft
use Rattle.raft_model.specs.Runs.{MayOccur, after}
use Rattle.raft_model.specs.Runs.Event.{Opens, Stops}
use Rattle.raft_model.specs.Server as server
use Rattle.raft_model.specs.Server.{Memory, RaftServer, Store, memory_when_down}
use Rattle.bus_rows.specs.declared.row.Row.TheVariants.{Crash, Open}
use Rattle.alloc_spec_laws.specs.Coming.{KeepsOrder}
use Rattle.alloc_spec_laws.specs.Sound.{IsSound}
use Rattle.alloc_spec.specs.AllocatorState.{AllocatorState, members_of}
use Rattle.alloc_spec.specs.Rules.{Rules, opening_by}
use Rattle.alloc_spec.specs.Transfers.{SentTransfer}
use Rattle.bus_spec.specs.Cluster.{Cluster, cluster, after_row, rules_of}
use Rattle.bus_spec.specs.Members.{Failure, MemberStatus, Member, after_opening, stopped_with, after_failed_opening}
use Rattle.bus_spec.specs.Members.MemberStatus.{Down, Up, Failed}
use Rattle.bus_spec.specs.Choices.{CrashAgreesWithDisk, chosen_store}
use Rattle.bus_agreement.specs.Shows.{Shows, ShowsDown, ShowsFailed, ShowsMember, ShowsUp}
use Rattle.bus_agreement.proofs.StillShown.{with_one}
use Rattle.bus_agreement.proofs.Lists.{both, tell}

-- ---- what a restart finds

-- whatever the pattern is, a restart finds this
abbrev pub AlwaysFinds : KeyDisk Stored → Store → Type 0
AlwaysFinds disk store = (pattern : Pattern) → store_of (restarted_on pattern disk).store ≡ store

-- nothing loose: what is stored
pub firm_finds : (disk : KeyDisk Stored) → disk.unsynced ≡ None → AlwaysFinds disk (store_of disk.store)
firm_finds disk none pattern = ap (λ (l : Option (Unsynced Stored)). store_of (settled_by pattern l disk).store) none

-- a selector that waits makes no difference
pub loose_finds : (disk : KeyDisk Stored) (store : Store) → store_of disk.store ≡ store
    → ((unsynced : Unsynced Stored) → disk.unsynced ≡ Some unsynced → store_of unsynced.before ≡ store_of disk.store) → AlwaysFinds disk store
loose_finds disk store is nothing_unsynced pattern = by disk.unsynced refl where
  of_bool : (unsynced : Unsynced Stored) → disk.unsynced ≡ Some unsynced → (b : Bool)
      → store_of (if b then record disk { unsynced = None } else turned_to unsynced.key unsynced.before disk None disk.calls).store ≡ store
  of_bool unsynced e true = is
  of_bool unsynced e false = nothing_unsynced unsynced e ∙ is

  by : (l : Option (Unsynced Stored)) → disk.unsynced ≡ l → store_of (settled_by pattern l disk).store ≡ store
  by None e = is
  by (Some unsynced) e = of_bool unsynced e (keeps pattern (disk.copies unsynced.key))

-- a store that each stop leaves is the one that is stored
finds_stored : (disk : KeyDisk Stored) (store : Store) → AlwaysFinds disk store → store_of disk.store ≡ store
finds_stored disk store finds = sym (by disk.unsynced) ∙ finds New where
  by : (l : Option (Unsynced Stored)) → store_of (settled_by New l disk).store ≡ store_of disk.store
  by None = refl
  by (Some unsynced) = refl

finds_before : (disk : KeyDisk Stored) (store : Store) → AlwaysFinds disk store → (unsynced : Unsynced Stored) → disk.unsynced ≡ Some unsynced
    → store_of unsynced.before ≡ store
finds_before disk store finds unsynced e = ap (λ (l : Option (Unsynced Stored)). store_of (settled_by Old l disk).store) (sym e) ∙ finds Old

pub after_restart : (pattern : Pattern) (disk : KeyDisk Stored) → (restarted_on pattern disk).unsynced ≡ None
after_restart pattern disk = by disk.unsynced where
  of_bool : (unsynced : Unsynced Stored) (b : Bool) → (if b then record disk { unsynced = None } else turned_to unsynced.key unsynced.before disk None disk.calls).unsynced ≡ None
  of_bool unsynced true = refl
  of_bool unsynced false = refl

  by : (l : Option (Unsynced Stored)) → (settled_by pattern l disk).unsynced ≡ None
  by None = refl
  by (Some unsynced) = of_bool unsynced (keeps pattern (disk.copies unsynced.key))

-- a member that is down, over a disk on which every restart finds what the run has stored
pub down_from : (run : raft.World) (m : ℕ) (disk : KeyDisk Stored) → (run.server m).memory ≡ memory_when_down → AlwaysFinds disk (run.server m).store
    → ShowsDown run m disk
down_from run m disk down finds = record {
  down = down;
  stored = sym (finds_stored disk (run.server m).store finds);
  nothing_unsynced = λ unsynced e. finds_before disk (run.server m).store finds unsynced e ∙ sym (finds_stored disk (run.server m).store finds);
}

pub down_finds : (run : raft.World) (m : ℕ) (disk : KeyDisk Stored) → ShowsDown run m disk → AlwaysFinds disk (run.server m).store
down_finds run m disk is = loose_finds disk (run.server m).store (sym is.stored) is.nothing_unsynced

-- what a restart of it leaves
pub restarted_down : (run : raft.World) (m : ℕ) (disk : KeyDisk Stored) (pattern : Pattern) → (run.server m).memory ≡ memory_when_down
    → store_of (restarted_on pattern disk).store ≡ (run.server m).store → ShowsDown run m (restarted_on pattern disk)
restarted_down run m disk pattern down found = record {
  down = down;
  stored = sym found;
  nothing_unsynced = λ unsynced e. absurd (cc (sym (after_restart pattern disk) ∙ e));
}

-- ---- a stop between two steps

module _ (choice : ℕ → Bool) (made : List SentTransfer) (w : Cluster) (run : raft.World) (shows : Shows choice made w run) (n : ℕ) (pattern : Pattern)
    (listed : In n w.ids) where
  abbrev stopped_member : Member
  stopped_member = stopped_with pattern (w.member n).disk (w.member n)

  module _ (t : AllocatorState) (runs : (w.member n).status ≡ Up t) where
    up : ShowsUp made w.ids w.frames run n t (w.member n).disk
    up = subst (λ (status : MemberStatus). ShowsMember choice made w.ids w.frames run n status (w.member n).disk) runs (shows.lives n listed)

    abbrev event : raft.Event
    event = Stops n (w.rows + 1) []

    abbrev stopped_raft_server : RaftServer
    stopped_raft_server = record { store = (run.server n).store; memory = memory_when_down }

    pub may_stop : MayOccur run event
    may_stop = (ap (λ (p : RaftServer). p.memory.up) up.runs.raft_server ∙ up.runs.up, tt)

    pub stop_shown : Shows choice made (after_row w (Crash n 0 pattern)) (after run event)
    stop_shown = record {
      members = shows.members;
      steps = omega (arith, shows.steps);
      lives = with_one choice made made (λ x i. i) w.ids w.frames w.frames (λ f i. i) run (after run event) w.member shows.lives n stopped_member
          (λ there. restarted_down (after run event) n (w.member n).disk pattern
          (ap (λ (p : RaftServer). p.memory) (at_here run.server n n stopped_raft_server refl))
          (firm_finds (w.member n).disk up.runs.nothing_unsynced pattern ∙ (up.runs.stored
          ∙ (sym (ap (λ (p : RaftServer). p.store) up.runs.raft_server) ∙ sym (ap (λ (p : RaftServer). p.store) (at_here run.server n n stopped_raft_server refl))))))
          (λ m apart. at_other run.server n m stopped_raft_server apart);
      asking = shows.asking;
      bus = shows.bus;
      narrow = shows.narrow;
      holds = shows.holds;
      past = λ x i. omega (arith, shows.past x i);
    }

  -- a member that failed went down with the step that failed, and the choice agrees with what the stop finds
  pub failed_stop_shown : (failure : Failure) → (w.member n).status ≡ Failed failure
      → CrashAgreesWithDisk true choice (w.member n).status (restarted_on pattern (w.member n).disk).store → Shows choice made (after_row w (Crash n 0 pattern)) run
  failed_stop_shown failure runs fits = record {
    members = shows.members;
    steps = omega (arith, shows.steps);
    lives = with_one choice made made (λ x i. i) w.ids w.frames w.frames (λ f i. i) run run w.member shows.lives n stopped_member
        (λ there. restarted_down run n (w.member n).disk pattern is.down (sym agrees ∙ sym is.stored)) (λ m apart. refl);
    asking = shows.asking;
    bus = shows.bus;
    narrow = shows.narrow;
    holds = shows.holds;
    past = λ x i. omega (arith, shows.past x i);
  }
    where
      is : ShowsFailed choice run n failure (w.member n).disk
      is = subst (λ (status : MemberStatus). ShowsMember choice made w.ids w.frames run n status (w.member n).disk) runs (shows.lives n listed)

      agrees : chosen_store choice failure ≡ store_of (restarted_on pattern (w.member n).disk).store
      agrees = subst (λ (status : MemberStatus). CrashAgreesWithDisk true choice status (restarted_on pattern (w.member n).disk).store) runs fits

-- ---- what an opening makes of a disk

put_done : {S : Type 0} (key : ℕ) (later : S) (key_disk : KeyDisk S) → is_put key_disk.calls ≡ true
    → put_on key later key_disk ≡ turned_to key later key_disk None (after_calls 4 key_disk.calls)
put_done {S} key later key_disk e =
    let first = both (acts key_disk.calls) (acts (after_call key_disk.calls) && (acts (after_calls 2 key_disk.calls) && acts (after_calls 3 key_disk.calls))) e in
    let second = both (acts (after_call key_disk.calls)) (acts (after_calls 2 key_disk.calls) && acts (after_calls 3 key_disk.calls)) first.1 in
    let third = both (acts (after_calls 2 key_disk.calls)) (acts (after_calls 3 key_disk.calls)) second.1 in
    rw (first.0, second.0, third.0, third.1) refl

pub firm_after : (puts : List Put) (key_disk : KeyDisk Stored) → are_put puts key_disk.calls ≡ true → key_disk.unsynced ≡ None → (puts_on puts key_disk).unsynced ≡ None
firm_after [] key_disk e none = none
firm_after (put ∷ puts) key_disk e none =
    let r = both (is_put key_disk.calls) (are_put puts (after_calls 4 key_disk.calls)) e in
    let done : put_state_on put key_disk ≡ turned_to (key_of put key_disk.store) (after_put put key_disk.store) key_disk None (after_calls 4 key_disk.calls)
    = put_done (key_of put key_disk.store) (after_put put key_disk.store) key_disk r.0 in
    let rest = firm_after puts (turned_to (key_of put key_disk.store) (after_put put key_disk.store) key_disk None (after_calls 4 key_disk.calls)) r.1 refl in
    ap (λ (b : Bool). (if b then puts_on puts (put_state_on put key_disk) else put_state_on put key_disk).unsynced) r.0
    ∙ (ap (λ (s : KeyDisk Stored). (puts_on puts s).unsynced) done ∙ rest)

whole : (puts : List Put) → take (length puts) puts ≡ puts
whole [] = refl
whole (put ∷ puts) = ap (λ (l : List Put). put ∷ l) (whole puts)

pub record DiskLaws : Type 0 where
  pub done : (key_disk : KeyDisk Stored) (puts : List Put) → are_put puts key_disk.calls ≡ true
      → ((puts_on puts key_disk).store ≡ after_puts puts key_disk.store)
  pub found_again : (puts : List Put) (key_disk : KeyDisk Stored) (pattern : Pattern) → key_disk.unsynced ≡ None → let after = puts_on puts key_disk in
      let count = done_on puts key_disk.calls + found_by pattern after in
      (restarted_on pattern after).store ≡ after_puts (take count puts) key_disk.store
  pub keeps_store : (state : Stored) (count : ℕ) → store_of (after_puts (take count (opening_puts state)) state) ≡ store_of state

module _ (laws : DiskLaws) (disk : KeyDisk Stored) where
  abbrev read : KeyDisk Stored
  read = record disk { unsynced = None; calls = after_calls 2 disk.calls }

  -- the disk once it is synced and read
  is_read : acts disk.calls ≡ true → opened_on disk ≡ read
  is_read e = ap (λ (b : Bool). if b then read else record disk { calls = after_call disk.calls }) e

  opened_is : is_opened disk.calls ≡ true → opening_on disk ≡ puts_on (opening_puts disk.store) read
  opened_is e =
      let r = both (acts disk.calls) (acts (after_call disk.calls)) e in
      ap (λ (b : Bool). if b then puts_on (opening_puts disk.store) (opened_on disk) else opened_on disk) e
      ∙ ap (puts_on (opening_puts disk.store)) (is_read r.0)

  module _ (e : is_open_on disk ≡ true) where
    parts : (is_opened disk.calls ≡ true) × (are_put (opening_puts disk.store) (after_calls 2 disk.calls) ≡ true)
    parts = both (is_opened disk.calls) (are_put (opening_puts disk.store) (after_calls 2 disk.calls)) e

    pub opened_store : store_of (opening_on disk).store ≡ store_of disk.store
    opened_store = ap (λ (s : KeyDisk Stored). store_of s.store) (opened_is parts.0)
        ∙ (ap store_of (laws.done read (opening_puts disk.store) parts.1)
        ∙ (ap (λ (l : List Put). store_of (after_puts l disk.store)) (sym (whole (opening_puts disk.store)))
        ∙ laws.keeps_store disk.store (length (opening_puts disk.store))))

    pub opened_firm : (opening_on disk).unsynced ≡ None
    opened_firm = ap (λ (s : KeyDisk Stored). s.unsynced) (opened_is parts.0) ∙ firm_after (opening_puts disk.store) read parts.1 refl

  -- an opening that failed left the same, wherever its disk cut it
  pub cut_finds : (store : Store) → AlwaysFinds disk store → AlwaysFinds (opening_on disk) store
  cut_finds store finds pattern = elim (tell (is_opened disk.calls)) [
    | inl e ↦
        ap (λ (s : KeyDisk Stored). store_of (restarted_on pattern s).store) (opened_is e)
        ∙ (ap store_of (laws.found_again (opening_puts disk.store) read pattern refl)
        ∙ (laws.keeps_store disk.store (done_on (opening_puts disk.store) (after_calls 2 disk.calls) + found_by pattern (puts_on (opening_puts disk.store) read))
        ∙ finds_stored disk store finds))
    | inr e ↦
        ap (λ (b : Bool). store_of (restarted_on pattern (if b then puts_on (opening_puts disk.store) (opened_on disk) else opened_on disk)).store) e
        ∙ by (acts disk.calls)
  ]
    where
      by : (b : Bool) → store_of (restarted_on pattern (if b then read else record disk { calls = after_call disk.calls })).store ≡ store
      by true = finds_stored disk store finds
      by false = loose_finds (record disk { calls = after_call disk.calls }) store (finds_stored disk store finds)
          (λ unsynced same. finds_before disk store finds unsynced same ∙ sym (finds_stored disk store finds)) pattern

-- ---- rows that open

-- whom a member of these is told is one of them
told_among : (ids : List ℕ) (told : Bool) (node : ℕ) → In node (rules_of ids told).told → In node ids
told_among ids true node there = there
told_among ids false node there = absurd there

-- what is known of an opening, as the laws of a step say it
pub record OpeningLaws : Type 0 where
  pub order : (me : ℕ) (rules : Rules) (store : Store) (now word : ℕ) → KeepsOrder (opening_by me rules store now word)
  pub sound : (me : ℕ) (rules : Rules) (store : Store) (now word : ℕ) → rules.size ≤ 5 → IsSound (opening_by me rules store now word)
  pub members : (me : ℕ) (rules : Rules) (store : Store) (now word node : ℕ) → In node (members_of (opening_by me rules store now word))
      → (node ≡ me) ⊎ In node rules.told

module _ (laws : DiskLaws) (opening_laws : OpeningLaws)
    (choice : ℕ → Bool) (made : List SentTransfer) (w : Cluster) (few : length w.ids ≤ 5) (run : raft.World) (shows : Shows choice made w run)
    (n : ℕ) (told : Bool) (ms word : ℕ) (listed : In n w.ids) (stopped : (w.member n).status ≡ Down) where
  down : ShowsDown run n (w.member n).disk
  down = subst (λ (status : MemberStatus). ShowsMember choice made w.ids w.frames run n status (w.member n).disk) stopped (shows.lives n listed)

  abbrev disk : KeyDisk Stored
  disk = (w.member n).disk

  module _ (opens : is_open_on disk ≡ true) where
    abbrev opened_raft_server : RaftServer
    opened_raft_server = record { store = (run.server n).store; memory = server.memory_when_opened }

    abbrev up_member : Member
    up_member = record (w.member n) { status = Up (opening_by n (rules_of w.ids told) (store_of (opening_on disk).store) ms word); disk = opening_on disk }

    is_up : after_opening n (rules_of w.ids told) ms word (w.member n) ≡ up_member
    is_up = ap (λ (b : Bool). if b then up_member else after_failed_opening (w.member n) (opening_on disk)) opens

    pub may_open : MayOccur run (Opens n)
    may_open = (subst (λ (ids : List ℕ). In n ids) (sym shows.members) listed, ap (λ (m : Memory). m.up) down.down)

    here : ShowsUp made w.ids w.frames (after run (Opens n)) n (opening_by n (rules_of w.ids told) (store_of (opening_on disk).store) ms word) (opening_on disk)
    here = record {
      runs = record {
        me = refl;
        size = refl;
        raft_server = at_here run.server n n opened_raft_server refl
            ∙ ap (λ (s : Store). record { store = s; memory = server.memory_when_opened }) (down.stored ∙ sym (opened_store laws disk opens));
        up = refl;
        stored = refl;
        nothing_unsynced = opened_firm laws disk opens;
        sound = opening_laws.sound n (rules_of w.ids told) (store_of (opening_on disk).store) ms word few;
        order = opening_laws.order n (rules_of w.ids told) (store_of (opening_on disk).store) ms word;
        uids = λ node uid moment there. absurd there;
      };
      works = record {
        queue = λ frame there. absurd there;
        heard = record { arrivals = []; come = λ arrival there. absurd there; kept = λ k d h. absurd (omega (arith, h)) };
        called = λ peer request there. absurd (cc (there));
        among = λ peer there. elim (opening_laws.members n (rules_of w.ids told) (store_of (opening_on disk).store) ms word peer there)
            [ inl one ↦ subst (λ (k : ℕ). In k w.ids) (sym one) listed | inr named ↦ told_among w.ids told peer named ];
      };
    }

    pub open_shown : Shows choice made (after_row w (Open n told ms word)) (after run (Opens n))
    open_shown = subst (λ (x : Member). Shows choice made (record w { member = at w.member n x; rows = w.rows + 1 }) (after run (Opens n))) (sym is_up) (record {
      members = shows.members;
      steps = omega (arith, shows.steps);
      lives = with_one choice made made (λ x i. i) w.ids w.frames w.frames (λ f i. i) run (after run (Opens n)) w.member shows.lives n up_member
          (λ there. here) (λ m apart. at_other run.server n m opened_raft_server apart);
      asking = shows.asking;
      bus = shows.bus;
      narrow = shows.narrow;
      holds = shows.holds;
      past = λ x i. omega (arith, shows.past x i);
    })

  module _ (fails : is_open_on disk ≡ false) where
    finds : AlwaysFinds (opening_on disk) (run.server n).store
    finds = cut_finds laws disk (run.server n).store (down_finds run n disk down)

    is_unopened : after_opening n (rules_of w.ids told) ms word (w.member n) ≡ after_failed_opening (w.member n) (opening_on disk)
    is_unopened = ap (λ (b : Bool). if b then record (w.member n) { status = Up (opening_by n (rules_of w.ids told) (store_of (opening_on disk).store) ms word); disk = opening_on disk }
        else after_failed_opening (w.member n) (opening_on disk)) fails

    still_down : (b : Bool) → let x = if b then stopped_with (w.member n).pattern (opening_on disk) (w.member n) else record (w.member n) { status = Down; disk = opening_on disk } in
        ShowsMember choice made w.ids w.frames run n x.status x.disk
    still_down true = restarted_down run n (opening_on disk) (w.member n).pattern down.down (finds (w.member n).pattern)
    still_down false = down_from run n (opening_on disk) down.down finds

    pub not_opened_shown : Shows choice made (after_row w (Open n told ms word)) run
    not_opened_shown = subst (λ (x : Member). Shows choice made (record w { member = at w.member n x; rows = w.rows + 1 }) run) (sym is_unopened) (record {
      members = shows.members;
      steps = omega (arith, shows.steps);
      lives = with_one choice made made (λ x i. i) w.ids w.frames w.frames (λ f i. i) run run w.member shows.lives n (after_failed_opening (w.member n) (opening_on disk))
          (λ there. still_down (opening_on disk).calls.stopped) (λ m apart. refl);
      asking = shows.asking;
      bus = shows.bus;
      narrow = shows.narrow;
      holds = shows.holds;
      past = λ x i. omega (arith, shows.past x i);
    })

-- ---- the beginning

pub beginning_shown : (choice : ℕ → Bool) (ids : List ℕ) → Shows choice [] (cluster ids) (raft.initial_world ids)
beginning_shown choice ids = record {
  members = refl;
  steps = omega arith;
  lives = λ m there. record { down = refl; stored = refl; nothing_unsynced = λ unsynced e. absurd (cc (e)) };
  asking = λ a x e. absurd (cc (e));
  bus = λ frame there. absurd there;
  narrow = λ frame there. absurd there;
  holds = record {
    transfers = record {
      once = λ x y i. absurd i;
      numbered = λ x i. absurd i;
      makers = λ x i. absurd i;
      ranges = λ x i. absurd i;
    };
    said = record { carried = λ x i. absurd i; said = λ x message i. absurd i };
    written = record { requests = λ request i. absurd i; senders = λ request i. absurd i; answers = λ answer i. absurd i };
    answered = record { votes = λ x answer i. absurd i; appends = λ x answer i. absurd i };
    discoveries = λ x message peer i. absurd i;
    allocations = λ x answer i. absurd i;
  };
  past = λ x i. absurd i;
}
