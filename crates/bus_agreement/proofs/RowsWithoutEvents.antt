-- Rows that show no event: frames from outside, frames that are sent, and disks that are armed.
use Rattle.std.proofs.Common.{◌≡◌, ◌≢◌, ◌⊎◌, ℕ, zero, suc, ◌+◌, ◌<◌, ◌≤◌, ◌^◌, Bool, true, false, List, [], ◌∷◌, ◌++◌, take, drop, refl, sym, ap, subst, ◌∙◌, arith, inl, inr, Option, Some, None}
use Rattle.std.specs.Prelude.{◌==◌, cond, find, not, remove, if◌then◌else◌}
use Rattle.std.specs.List.{position_or_len}
use Rattle.std.proofs.lemmas.Bool.Decides.{eqb_tells}
use Rattle.can_frame.specs.declared.frame.Frame.{Frame}
use Rattle.can_frame.specs.declared.step.What.{What}
use Rattle.can_frame.specs.declared.step.What.TheVariants.{Alloc, Disc, Stat, InfoQ, Info, VoteQ, Vote, AppQ, App}
use Rattle.can_frame.specs.Identifier.{identifier_number, identifier_of}
use Rattle.disk_model.specs.declared.calls.Calls.{Calls}
use Rattle.kv_store.specs.KeyDisk.{Unsynced, KeyDisk, keeps, settled_by, turned_to}
use Rattle.outside.specs.declared.pattern.Pattern.{Pattern}
use Rattle.raft_core.specs.StoredPuts.{store_of}
use Rattle.raft_log.specs.KeyDisk.{kept_by}
use Rattle.raft_log.specs.Stored.{Stored}
use Rattle.raft_core.specs.Times.{Sending}
use Rattle.raft_model.specs.Lists.{In, any, at}
use Rattle.raft_model.specs.Messages.{Request}
use Rattle.raft_model.specs.Runs as raft
use Rattle.bus_rows.specs.declared.row.Row.TheVariants.{Crash, Ext, Fault, Send}
use Rattle.transfer_tx.specs.Queue.{Queued, is_least, left_behind, next_out}
use Rattle.alloc_spec_laws.specs.Coming.{KeepsOrder}
use Rattle.alloc_spec_laws.specs.Sound.{IsDestination, IsSound}
use Rattle.allocatee.specs.Allocatee.{Device}
use Rattle.alloc_spec.specs.Accepted.{setting_for}
use Rattle.alloc_spec.specs.AllocatorState.{AllocatorState}
use Rattle.alloc_spec.specs.Step.{after_pop}
use Rattle.alloc_spec.specs.Transfers.{SentTransfer, ident_of, kind_of}
use Rattle.bus_spec.specs.declared.unlawful.Unlawful.{Unlawful}
use Rattle.bus_spec.specs.declared.unlawful.Unlawful.TheVariants.{Forged, NoNode, Running, Stopped}
use Rattle.bus_spec.specs.declared.unlawful.Unlawful.TheVariants as unlawful
use Rattle.bus_spec.specs.Cluster.{Cluster, arrival_at, from_outside, in_list, is_member, after_row, with_member}
use Rattle.bus_spec.specs.Lawful.{because, cause, is_forged, no_node, not_running, nothing_to_send, or_else}
use Rattle.bus_spec.specs.Members.{MemberStatus, Member, after_sending, with_stop_armed, with_failure_armed, is_running, next_frame, stopped_with, stored_after}
use Rattle.bus_spec.specs.Members.MemberStatus.{Down, Up, Failed}
use Rattle.bus_agreement.specs.Asking.{IsAsking}
use Rattle.bus_agreement.specs.Frames.{IsForeign, IsOnBus, IsPiece}
use Rattle.bus_agreement.specs.Said.{IsCalled, carrier}
use Rattle.bus_agreement.specs.Shows.{IsAtWork, IsInRun, Shows, ShowsMember, ShowsUp}
use Rattle.bus_agreement.specs.LawsBelow.{FrameLaws}
use Rattle.bus_agreement.proofs.StillShown.{IsIn, asking_more, heard_more, member_status_more, with_one}
use Rattle.bus_agreement.proofs.Pieces.{IsPieceOf, piece_of}
use Rattle.bus_agreement.proofs.Lists.{in_append, in_front, never, tell}

-- ---- what a lawful row says

pub not_because : (cause : Unlawful) (b : Bool) → because cause b ≡ None → b ≡ false
not_because cause true e = absurd (cc (e))
not_because cause false e = refl

pub past_first : (a b : Option Unlawful) → or_else a b ≡ None → (a ≡ None) × (b ≡ None)
past_first None b e = (refl, e)
past_first (Some why) b e = absurd (cc (e))

not_false : (b : Bool) → not b ≡ false → b ≡ true
not_false true e = refl
not_false false e = absurd (cc (e))

pub eqb_is : (a b : ℕ) → (a == b) ≡ true → a ≡ b
eqb_is a b e = elim (eqb_tells a b) [ inl same ↦ same.1 | inr apart ↦ never (sym apart.0 ∙ e) ]

member_in : (ids : List ℕ) (n : ℕ) → any (λ id. id == n) ids ≡ true → In n ids
member_in [] n e = never e
member_in (id ∷ ids) n e = elim (tell (id == n)) [
  | inl b ↦ inl (sym (eqb_is id n b))
  | inr b ↦ inr (member_in ids n (rw b at e))
]

pub is_one : (w : Cluster) (n : ℕ) → because NoNode (not (is_member w.ids n)) ≡ None → In n w.ids
is_one w n e = member_in w.ids n (not_false (is_member w.ids n) (not_because NoNode (not (is_member w.ids n)) e))

pub is_up : (status : MemberStatus) → because Stopped (not (is_running status)) ≡ None → is_running status ≡ true
is_up status e = not_false (is_running status) (not_because Stopped (not (is_running status)) e)

pub is_down : (status : MemberStatus) → because Running (is_running status) ≡ None → status ≡ Down
is_down Down e = refl
is_down (Up t) e = absurd (cc (not_because Running true e))
is_down (Failed failure) e = absurd (cc (not_because Running true e))

-- ---- what a row that does no harm says

-- it has no cause against it, or is refused as stale and brings what counts for nothing
abbrev pub Passes : Option Unlawful → (void : Bool) → Type 0
Passes why void = (why ≡ None) ⊎ ((why ≡ Some unlawful.Stale) × (void ≡ true))

-- a row that is refused as stale is not refused for another cause before
pub past_other : (why : Unlawful) (test void : Bool) (rest : Option Unlawful) → why ≢ unlawful.Stale → Passes (or_else (because why test) rest) void
    → (because why test ≡ None) × Passes rest void
past_other why true void rest other (inl e) = absurd (cc (e))
past_other why true void rest other (inr e) = absurd (other (cc (e.0)))
past_other why false void rest other is = (refl, is)

-- a row that brings no member such a response is lawful
pub is_lawful : (why : Option Unlawful) → Passes why false → why ≡ None
is_lawful why (inl e) = e
is_lawful why (inr e) = never e.1

-- ---- a frame more on the bus, from elsewhere

pub one_more : (frames : List Queued) (frame : Queued) → IsIn frames (frames ++ frame ∷ [])
one_more frames frame x i = in_front x frames (frame ∷ []) i

module _ (choice : ℕ → Bool) (made : List SentTransfer) (w : Cluster) (run : raft.World) (shows : Shows choice made w run) where
  -- with other allocatees, each of which is shown
  abbrev pub AreShown : (ℕ → Option Device) → List Queued → Type 0
  AreShown others frames = (a : ℕ) (x : Device) → others a ≡ Some x → IsAsking made frames x

  pub others_shown : (others : ℕ → Option Device) → AreShown others w.frames
      → Shows choice made (record w { allocatee = others; rows = w.rows + 1 }) run
  others_shown others each = record {
    members = shows.members;
    steps = omega (arith, shows.steps);
    lives = shows.lives;
    asking = each;
    bus = shows.bus;
    narrow = shows.narrow;
    holds = shows.holds;
    past = λ x i. omega (arith, shows.past x i);
  }

  pub frame_shown : (frame : Queued) (others : ℕ → Option Device) → IsForeign w.ids frame → frame.id < 2 ^ 29 → AreShown others (w.frames ++ frame ∷ [])
      → Shows choice made (record w { allocatee = others; frames = w.frames ++ frame ∷ []; rows = w.rows + 1 }) run
  frame_shown frame others foreign small each = record {
    members = shows.members;
    steps = omega (arith, shows.steps);
    lives = λ m i. member_status_more choice made made (λ x j. j) w.ids w.frames (w.frames ++ frame ∷ []) (one_more w.frames frame) run run m
        (w.member m).status (w.member m).disk refl (shows.lives m i);
    asking = each;
    bus = λ f i. elim (in_append f w.frames (frame ∷ []) i) [
      | inl before ↦ shows.bus f before
      | inr (inl e) ↦ inr (ap (λ (q : Queued). is_forged w.ids (identifier_of q.id)) e ∙ foreign)
      | inr (inr j) ↦ absurd j
    ];
    narrow = λ f i. elim (in_append f w.frames (frame ∷ []) i) [
      | inl before ↦ shows.narrow f before
      | inr (inl e) ↦ subst (λ (q : Queued). q.id < 2 ^ 29) (sym e) small
      | inr (inr j) ↦ absurd j
    ];
    holds = shows.holds;
    past = λ x i. omega (arith, shows.past x i);
  }

  -- allocatees that were there heard no less, and hold what they held
  pub still_asking : (frame : Queued) → AreShown w.allocatee (w.frames ++ frame ∷ [])
  still_asking frame a x e = asking_more made made (λ y i. i) w.frames (w.frames ++ frame ∷ []) (one_more w.frames frame) x (shows.asking a x e)

-- ---- a frame from outside

module _ (choice : ℕ → Bool) (made : List SentTransfer) (w : Cluster) (run : raft.World) (shows : Shows choice made w run) (frame : Frame)
    (lawful : cause w (Ext frame) ≡ None) where
  abbrev added : Queued
  added = from_outside frame.id frame.bytes.items

  pub outside_shown : Shows choice made (after_row w (Ext frame)) run
  outside_shown = frame_shown choice made w run shows added w.allocatee (not_because Forged (is_forged w.ids (identifier_of frame.id)) lawful) frame.narrow
      (still_asking choice made w run shows added)

-- ---- armed disks

-- what a restart finds goes by what the disk stores, not by the calls that it lets fail
module _ (pattern : Pattern) (disk : KeyDisk Stored) (calls : Calls) where
  abbrev armed_disk : KeyDisk Stored
  armed_disk = record disk { calls = calls }

  same_store : (b : Bool) (unsynced : Unsynced Stored) → (if b then record armed_disk { unsynced = None } else turned_to unsynced.key unsynced.before armed_disk None calls).store
      ≡ (if b then record disk { unsynced = None } else turned_to unsynced.key unsynced.before disk None disk.calls).store
  same_store true unsynced = refl
  same_store false unsynced = refl

  settled_same : (unsynced : Option (Unsynced Stored)) → (settled_by pattern unsynced armed_disk).store ≡ (settled_by pattern unsynced disk).store
  settled_same None = refl
  settled_same (Some unsynced) = same_store (keeps pattern (disk.copies unsynced.key)) unsynced

  kept_same : (unsynced : Option (Unsynced Stored)) → kept_by pattern unsynced armed_disk ≡ kept_by pattern unsynced disk
  kept_same None = refl
  kept_same (Some unsynced) = refl

-- a member whose disk is as it was, but for the calls that it lets fail
module _ (choice : ℕ → Bool) (made : List SentTransfer) (ids : List ℕ) (frames : List Queued) (run : raft.World) (m : ℕ) where
  armed_status : (status : MemberStatus) (disk : KeyDisk Stored) (calls : Calls) → ShowsMember choice made ids frames run m status disk
      → ShowsMember choice made ids frames run m status (record disk { calls = calls })
  armed_status Down disk calls is = record { down = is.down; stored = is.stored; nothing_unsynced = is.nothing_unsynced }
  armed_status (Up t) disk calls is = record {
    runs = record {
      me = is.runs.me;
      size = is.runs.size;
      raft_server = is.runs.raft_server;
      up = is.runs.up;
      stored = is.runs.stored;
      nothing_unsynced = is.runs.nothing_unsynced;
      sound = is.runs.sound;
      order = is.runs.order;
      uids = is.runs.uids;
    };
    works = is.works;
  }
  armed_status (Failed failure) disk calls is = record {
    down = is.down;
    stored = is.stored;
    found = λ pattern. ap store_of (settled_same pattern disk calls disk.unsynced) ∙ (is.found pattern
        ∙ ap (λ (k : ℕ). stored_after failure k) (sym (kept_same pattern disk calls disk.unsynced)));
  }

-- the world with another member, whose life and disk show what they showed
module _ (choice : ℕ → Bool) (made : List SentTransfer) (w : Cluster) (run : raft.World) (shows : Shows choice made w run) (n : ℕ) where
  pub changed_shown : (x : Member) → (In n w.ids → ShowsMember choice made w.ids w.frames run n x.status x.disk)
      → Shows choice made (record w { member = at w.member n x; rows = w.rows + 1 }) run
  changed_shown x here = record {
    members = shows.members;
    steps = omega (arith, shows.steps);
    lives = with_one choice made made (λ x i. i) w.ids w.frames w.frames (λ f i. i) run run w.member shows.lives n x here (λ m apart. refl);
    asking = shows.asking;
    bus = shows.bus;
    narrow = shows.narrow;
    holds = shows.holds;
    past = λ x i. omega (arith, shows.past x i);
  }

  pub fault_shown : (call : ℕ) → Shows choice made (after_row w (Fault n call)) run
  fault_shown call = changed_shown (with_failure_armed call (w.member n))
      (λ listed. armed_status choice made w.ids w.frames run n (w.member n).status (w.member n).disk _ (shows.lives n listed))

  pub armed_shown : (calls : ℕ) (pattern : Pattern) → (calls == 0) ≡ false → Shows choice made (after_row w (Crash n calls pattern)) run
  armed_shown calls pattern later =
      subst (λ (x : Member). Shows choice made (record w { member = at w.member n x; rows = w.rows + 1 }) run)
      (sym (ap (λ (b : Bool). if b then stopped_with pattern (w.member n).disk (w.member n) else with_stop_armed calls pattern (w.member n)) later))
      (changed_shown (with_stop_armed calls pattern (w.member n))
      (λ listed. armed_status choice made w.ids w.frames run n (w.member n).status (w.member n).disk _ (shows.lives n listed)))

-- ---- a frame that is sent

found_in : (test : Queued → Bool) (frames : List Queued) (frame : Queued) → find test frames ≡ Some frame → In frame frames
found_in test [] frame e = absurd (cc (e))
found_in test (first ∷ rest) frame e = by (test first) e (found_in test rest frame) where
  by : (b : Bool) → cond b (Some first) (find test rest) ≡ Some frame → (find test rest ≡ Some frame → In frame rest) → In frame (first ∷ rest)
  by true e later = inl (sym (some_frame first frame e)) where
    some_frame : (x y : Queued) → Some x ≡ Some y → x ≡ y
    some_frame x y e = cc (e)
  by false e later = inr (later e)

pub out_of_queue : (queue : List Queued) (frame : Queued) → next_out queue ≡ Some frame → In frame queue
unfolding next_out
out_of_queue queue frame e = found_in (is_least queue) queue frame e

in_taken : (count : ℕ) (frames : List Queued) (frame : Queued) → In frame (take count frames) → In frame frames
in_taken zero frames frame i = elim i [ ]
in_taken (suc count) [] frame i = i
in_taken (suc count) (first ∷ rest) frame (inl e) = inl e
in_taken (suc count) (first ∷ rest) frame (inr i) = inr (in_taken count rest frame i)

in_dropped : (count : ℕ) (frames : List Queued) (frame : Queued) → In frame (drop count frames) → In frame frames
in_dropped zero frames frame i = i
in_dropped (suc count) [] frame i = i
in_dropped (suc count) (first ∷ rest) frame i = inr (in_dropped count rest frame i)

removed : (frames : List Queued) (place : ℕ) (frame : Queued) → In frame (remove frames place) → In frame frames
removed frames place frame i = elim (in_append frame (take place frames) (drop (suc place) frames) i) [
  | inl j ↦ in_taken place frames frame j
  | inr j ↦ in_dropped (suc place) frames frame j
]

pub left_in_queue : (queue : List Queued) (frame : Queued) → In frame (left_behind queue) → In frame queue
unfolding left_behind
left_in_queue queue frame i = removed queue (position_or_len (is_least queue) queue) frame i

-- identifiers of members' frames have 29 bits
narrow_ident : (n : ℕ) (what : What) (to : ℕ) → n ≤ 125 → IsDestination (kind_of what) to → identifier_number (ident_of n what to) < 2 ^ 29
narrow_ident n Alloc to h at = omega (arith, h)
narrow_ident n Disc to h at = omega (arith, h)
narrow_ident n Stat to h at = omega (arith, h)
narrow_ident n InfoQ to h at = omega (arith, h, at.1)
narrow_ident n Info to h at = omega (arith, h, at.1)
narrow_ident n VoteQ to h at = omega (arith, h, at.1)
narrow_ident n Vote to h at = omega (arith, h, at.1)
narrow_ident n AppQ to h at = omega (arith, h, at.1)
narrow_ident n App to h at = omega (arith, h, at.1)

-- a call is the same, whatever was sent since
same_call : {made : List SentTransfer} (t : AllocatorState) (peer : ℕ) (request : Request) (sending : Sending) → IsCalled made t peer request sending (carrier request.append)
    → IsCalled made (after_pop t) peer request sending (carrier request.append)
same_call t peer request sending is = record {
  call = is.call;
  was_made = is.was_made;
  what = is.what;
  step = is.step;
  maker = is.maker;
  receiver = is.receiver;
  id = is.id;
  says = is.says;
}

module _ (laws : FrameLaws) (popped_sound : (t : AllocatorState) → IsSound t → IsSound (after_pop t)) (popped_order : (t : AllocatorState) → KeepsOrder t → KeepsOrder (after_pop t))
    (choice : ℕ → Bool) (made : List SentTransfer) (w : Cluster) (high : (n : ℕ) → In n w.ids → n ≤ 125) (run : raft.World) (shows : Shows choice made w run) (n : ℕ) where
  -- the world with this life of the member that sends
  abbrev after_member_status : MemberStatus → Cluster
  after_member_status status = record (with_member w n (record (w.member n) { status = after_sending status }))
      { frames = w.frames ++ in_list (next_frame status); rows = w.rows + 1 }

  sent : (t : AllocatorState) (frame : Queued) → In n w.ids → ShowsUp made w.ids w.frames run n t (w.member n).disk → next_out t.queue ≡ Some frame
      → Shows choice made (record (with_member w n (record (w.member n) { status = Up (after_pop t) })) { frames = w.frames ++ frame ∷ []; rows = w.rows + 1 }) run
  sent t frame listed is out = record {
    members = shows.members;
    steps = omega (arith, shows.steps);
    lives = with_one choice made made (λ x i. i) w.ids w.frames (w.frames ++ frame ∷ []) (one_more w.frames frame) run run w.member shows.lives n
        (record (w.member n) { status = Up (after_pop t) }) (λ listed. record { runs = runs; works = works }) (λ m apart. refl);
    asking = still_asking choice made w run shows frame;
    bus = λ f i. elim (in_append f w.frames (frame ∷ []) i) [
      | inl before ↦ shows.bus f before
      | inr (inl e) ↦ subst (λ (q : Queued). IsOnBus made w.ids q) (sym e) (inl (n, listed, piece))
      | inr (inr j) ↦ absurd j
    ];
    narrow = λ f i. elim (in_append f w.frames (frame ∷ []) i) [
      | inl before ↦ shows.narrow f before
      | inr (inl e) ↦ subst (λ (q : Queued). q.id < 2 ^ 29) (sym e) small
      | inr (inr j) ↦ absurd j
    ];
    holds = shows.holds;
    past = λ x i. omega (arith, shows.past x i);
  }
    where
      piece : IsPiece made n frame
      piece = is.works.queue frame (out_of_queue t.queue frame out)

      of_transfer : IsPieceOf piece.whose (arrival_at frame 0)
      of_transfer = piece_of laws made n frame piece (arrival_at frame 0) refl refl refl

      small : frame.id < 2 ^ 29
      small = subst (λ (k : ℕ). k < 2 ^ 29) (sym of_transfer.id)
          (narrow_ident piece.whose.by piece.whose.offer.what piece.whose.offer.to (high piece.whose.by (shows.holds.transfers.makers piece.whose piece.was_made))
          (shows.holds.transfers.ranges piece.whose piece.was_made).to)

      runs : IsInRun w.ids run n (after_pop t) (w.member n).disk
      runs = record {
        me = is.runs.me;
        size = is.runs.size;
        raft_server = is.runs.raft_server;
        up = is.runs.up;
        stored = is.runs.stored;
        nothing_unsynced = is.runs.nothing_unsynced;
        sound = popped_sound t is.runs.sound;
        order = popped_order t is.runs.order;
        uids = is.runs.uids;
      }

      works : IsAtWork made w.ids (w.frames ++ frame ∷ []) n (after_pop t)
      works = record {
        queue = λ f i. is.works.queue f (left_in_queue t.queue f i);
        heard = heard_more w.frames (w.frames ++ frame ∷ []) (one_more w.frames frame) (setting_for n) t.sessions is.works.heard;
        called = λ peer request pending. let c = is.works.called peer request pending in (c.0, c.1, same_call t peer request c.0 c.2);
        among = is.works.among;
      }

  by_out : (t : AllocatorState) (o : Option Queued) → next_out t.queue ≡ o → nothing_to_send o ≡ None → In n w.ids → ShowsUp made w.ids w.frames run n t (w.member n).disk
      → Shows choice made (record (with_member w n (record (w.member n) { status = Up (after_pop t) })) { frames = w.frames ++ in_list o; rows = w.rows + 1 }) run
  by_out t None out something listed is = absurd (cc (something))
  by_out t (Some frame) out something listed is = sent t frame listed is out

  by_member_status : (status : MemberStatus) → is_running status ≡ true → nothing_to_send (next_frame status) ≡ None → In n w.ids
      → ShowsMember choice made w.ids w.frames run n status (w.member n).disk → Shows choice made (after_member_status status) run
  by_member_status Down running something listed is = absurd (cc (running))
  by_member_status (Up t) running something listed is = by_out t (next_out t.queue) refl something listed is
  by_member_status (Failed failure) running something listed is = absurd (cc (something))

  pub sent_shown : cause w (Send n) ≡ None → Shows choice made (after_row w (Send n)) run
  sent_shown lawful =
      let first = past_first (no_node w n) (or_else (not_running w n) (nothing_to_send (next_frame (w.member n).status))) lawful in
      let second = past_first (not_running w n) (nothing_to_send (next_frame (w.member n).status)) first.1 in
      let listed = is_one w n first.0 in
      by_member_status (w.member n).status (is_up (w.member n).status second.0) second.1 listed (shows.lives n listed)
