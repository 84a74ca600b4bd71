-- How many frames and rows each part of a round takes at the most.
use Rattle.std.proofs.Common.{◌≡◌, ◌≤◌, ◌+◌, ◌*◌, ◌-◌, ℕ, zero, suc, Bool, true, false, List, ◌++◌, length, refl, ap, ◌∙◌, arith, length-append, Option, Some, None}
use Rattle.std.proofs.Math.Nat.{mul-le-mul_right}
use Rattle.std.specs.Prelude.{◌==◌, ◌%◌, ◌/◌, if◌then◌else◌}
use Rattle.bus_rows.specs.declared.row.Row.{Row}
use Rattle.bus_rows.specs.declared.row.Row.TheVariants.{Open, Tick, Rx, Send, Ext, Crash, Fault, AOpen, ATick, ARx, ASend, AEnd}
use Rattle.transfer_tx.specs.Queue.{Queued}
use Rattle.bus_spec.specs.Allocatees.{next_from}
use Rattle.bus_spec.specs.Cluster.{Cluster, in_list, after_row}
use Rattle.bus_spec.specs.Members.{next_frame}
use Rattle.bus_spec.specs.Report.{line_of_row}
use Rattle.bus_rows.specs.ReportLine.{is_stop}
use Rattle.cmd_soak.specs.Growth.{Fits, Grows, growth}
use Rattle.cmd_soak.specs.Requests.{request}
use Rattle.cmd_soak.specs.Rounds.{Soak, arms, arms_by_chance, asks_in_time, begins, draws, drawn, each, for_each, gives, has_heard, has_round, has_turn, hears, hears_all, is_refused, one_if, opens, repeats, sends, sends_some, shows, stop, takes, ticks, word}
use Rattle.cmd_soak.specs.declared.turn.Turn.{Turn}
use Rattle.cmd_soak.specs.declared.turn.Turn.TheVariants.{Open as Opening, Tick as Ticking, Hear as Hearing, Send as Sending}

pub grows_not : (s : Soak) → Grows 0 0 s s
grows_not s = record { frames = omega arith; rows = omega arith; stops = omega arith; refused = omega arith }

pub grows_more : (a b c d : ℕ) (s t : Soak) → a ≤ c → b ≤ d → Grows a b s t → Grows c d s t
grows_more a b c d s t h i p = record {
  frames = omega (arith, h, p.frames);
  rows = omega (arith, i, p.rows);
  stops = omega (arith, i, p.stops);
  refused = omega (arith, i, p.refused);
}

pub grows_on : (a b c d : ℕ) (s t u : Soak) → Grows a b s t → Grows c d t u → Grows (a + c) (b + d) s u
grows_on a b c d s t u p q = record {
  frames = omega (arith, p.frames, q.frames);
  rows = omega (arith, p.rows, q.rows);
  stops = omega (arith, p.stops, q.stops);
  refused = omega (arith, p.refused, q.refused);
}

-- one way or the other
either : (a b : ℕ) (s t u : Soak) (test : Bool) → Grows a b s t → Grows a b s u → Grows a b s (if test then t else u)
either a b s t u true p q = p
either a b s t u false p q = q

-- from states that differ in chance, moment and what was heard alone
same_counts : (a b : ℕ) (s t u : Soak) → s.world ≡ t.world → s.stops ≡ t.stops → s.refused ≡ t.refused → Grows a b t u → Grows a b s u
same_counts a b s t u world stops refused p =
    let frames = ap (λ (w : Cluster). length w.frames) world in
    let rows = ap (λ (w : Cluster). w.rows) world in
    record {
      frames = omega (arith, frames, p.frames);
      rows = omega (arith, rows, p.rows);
      stops = omega (arith, stops, p.stops);
      refused = omega (arith, refused, p.refused);
    }

pub drawn_first : (a b : ℕ) (s u : Soak) → Grows a b (draws s) u → Grows a b s u
drawn_first a b s u p = same_counts a b s (draws s) u refl refl refl p

only_drawn : (s : Soak) → Grows 0 0 s (draws s)
only_drawn s = drawn_first 0 0 s (draws s) (grows_not (draws s))

-- ---- a row

-- how many frames a row puts on the bus at the most
abbrev pub frames_of : Row → ℕ
frames_of (Open n told ms word) = 0
frames_of (Tick n ms word) = 0
frames_of (Rx n k ms) = 0
frames_of (Send n) = 1
frames_of (Ext frame) = 1
frames_of (Crash n calls pattern) = 0
frames_of (Fault n call) = 0
frames_of (AOpen a uid pref ms word) = 0
frames_of (ATick a ms word) = 0
frames_of (ARx a k ms word) = 0
frames_of (ASend a) = 1
frames_of (AEnd a) = 0

one_at_most : (frame : Option Queued) → length (in_list frame) ≤ 1
one_at_most None = omega arith
one_at_most (Some frame) = omega arith

one_frame : (frames more : List Queued) → length more ≤ 1 → length (frames ++ more) ≤ length frames + 1
one_frame frames more h = omega (arith, length-append frames more)

next_frames : (w : Cluster) (row : Row) → length (after_row w row).frames ≤ length w.frames + frames_of row
next_frames w (Open n told ms word) = omega arith
next_frames w (Tick n ms word) = omega arith
next_frames w (Rx n k ms) = omega arith
next_frames w (Send n) = one_frame w.frames (in_list (next_frame (w.member n).status)) (one_at_most (next_frame (w.member n).status))
next_frames w (Ext frame) = one_frame w.frames _ (omega arith)
next_frames w (Crash n calls pattern) = omega arith
next_frames w (Fault n call) = omega arith
next_frames w (AOpen a uid pref ms word) = omega arith
next_frames w (ATick a ms word) = omega arith
next_frames w (ARx a k ms word) = omega arith
next_frames w (ASend a) = one_frame w.frames (in_list (next_from (w.allocatee a))) (one_at_most (next_from (w.allocatee a)))
next_frames w (AEnd a) = omega arith

one_at_most_if : (test : Bool) → one_if test ≤ 1
one_at_most_if true = omega arith
one_at_most_if false = omega arith

pub takes_grows : (row : Row) (s : Soak) → Grows (frames_of row) 1 s (takes row s)
unfolding takes
takes_grows row s =
    let one = one_at_most_if (is_stop (line_of_row s.world row)) in
    record {
      frames = next_frames s.world row;
      rows = omega arith;
      stops = omega (arith, one);
      refused = omega arith;
    }

refuses_grows : (row : Row) (s : Soak) → Grows (frames_of row) 1 s (record s { refused = s.refused + 1 })
refuses_grows row s = record { frames = omega arith; rows = omega arith; stops = omega arith; refused = omega arith }

pub gives_grows : (row : Row) (s : Soak) → Grows (frames_of row) 1 s (gives row s)
unfolding gives
gives_grows row s =
    either (frames_of row) 1 s (record s { refused = s.refused + 1 }) (takes row s) (is_refused s row) (refuses_grows row s) (takes_grows row s)

-- ---- parts of a round

arms_grows : (size : ℕ) (s : Soak) → Grows 0 1 s (arms size s)
unfolding arms
arms_grows size s =
    let third = draws (draws (draws s)) in
    drawn_first 0 1 s (gives (stop size s) third) (drawn_first 0 1 (draws s) (gives (stop size s) third)
    (drawn_first 0 1 (draws (draws s)) (gives (stop size s) third) (gives_grows (stop size s) third)))

pub arms_by_chance_grows : (size : ℕ) (s : Soak) → Grows 0 1 s (arms_by_chance size s)
unfolding arms_by_chance
arms_by_chance_grows size s =
    either 0 1 s (arms size (draws s)) (draws s) (drawn 64 s == 0) (drawn_first 0 1 s (arms size (draws s)) (arms_grows size (draws s)))
    (grows_more 0 0 0 1 s (draws s) (omega arith) (omega arith) (only_drawn s))

pub asks_in_time_grows : (round : ℕ) (s : Soak) → Grows 1 1 s (asks_in_time round s)
unfolding asks_in_time
asks_in_time_grows round s =
    either 1 1 s (gives (Ext (request (round / 4))) s) s (round % 4 == 1) (gives_grows (Ext (request (round / 4))) s)
    (grows_more 0 0 1 1 s s (omega arith) (omega arith) (grows_not s))

pub opens_grows : (n : ℕ) (s : Soak) → Grows 0 1 s (opens n s)
unfolding opens
opens_grows n s =
    let row = Open n s.told s.moment (word s) in
    either 0 1 s s (gives row (draws s)) (shows n s) (grows_more 0 0 0 1 s s (omega arith) (omega arith) (grows_not s))
    (drawn_first 0 1 s (gives row (draws s)) (gives_grows row (draws s)))

pub ticks_grows : (n : ℕ) (s : Soak) → Grows 0 1 s (ticks n s)
unfolding ticks
ticks_grows n s =
    let row = Tick n s.moment (word s) in
    either 0 1 s (gives row (draws s)) s (shows n s) (drawn_first 0 1 s (gives row (draws s)) (gives_grows row (draws s)))
    (grows_more 0 0 0 1 s s (omega arith) (omega arith) (grows_not s))

pub repeats_grows : (n k ms : ℕ) (s : Soak) → Grows 0 1 s (repeats (Rx n k ms) s)
unfolding repeats
repeats_grows n k ms s =
    let row = Rx n k ms in
    either 0 1 s (gives row (draws s)) (draws s) (drawn 16 s == 0) (drawn_first 0 1 s (gives row (draws s)) (gives_grows row (draws s)))
    (grows_more 0 0 0 1 s (draws s) (omega arith) (omega arith) (only_drawn s))

pub hears_grows : (n k : ℕ) (s : Soak) → Grows 0 2 s (hears n k s)
unfolding hears
hears_grows n k s =
    let row = Rx n k s.moment in
    let none = grows_more 0 0 0 2 s (draws s) (omega arith) (omega arith) (only_drawn s) in
    let given = gives row (draws s) in
    let once = drawn_first 0 1 s given (gives_grows row (draws s)) in
    either 0 2 s (draws s) (if shows n s then repeats row given else draws s) (drawn 16 s == 0) none
    (either 0 2 s (repeats row given) (draws s) (shows n s) (grows_on 0 1 0 1 s given (repeats row given) once (repeats_grows n k s.moment given)) none)

-- ---- one after another

pub each_grows : (limit a b : ℕ) (act : ℕ → Soak → Soak) → ((n : ℕ) (s : Soak) → length s.world.frames + a ≤ limit → Grows a b s (act n s)) →
    (count first : ℕ) (s : Soak) → length s.world.frames + count * a ≤ limit → Grows (count * a) (count * b) s (for_each act first count s)
each_grows limit a b act more zero first s few = grows_more 0 0 (0 * a) (0 * b) s s (omega arith) (omega arith) (grows_not s)
each_grows limit a b act more (suc count) first s few =
    let head = more first s (omega (arith, few)) in
    let grown = head.frames in
    let rest = each_grows limit a b act more count (suc first) (act first s) (omega (arith, few, grown)) in
    let both = grows_on a b (count * a) (count * b) s (act first s) (for_each act (suc first) count (act first s)) head rest in
    grows_more (a + count * a) (b + count * b) (suc count * a) (suc count * b) s (for_each act first (suc count) s) (omega arith) (omega arith) both

-- one more of them
pub each_next : (act : ℕ → Soak → Soak) (count first : ℕ) (s : Soak) → for_each act first (suc count) s ≡ act (first + count) (for_each act first count s)
each_next act zero first s = let same : first ≡ first + 0 = omega arith in ap (λ n. act n s) same
each_next act (suc count) first s =
    let same : suc first + count ≡ first + suc count = omega arith in
    each_next act count (suc first) (act first s) ∙ ap (λ n. act n (for_each act first (suc count) s)) same

pub sends_grows : (n count : ℕ) (s : Soak) → Grows count count s (sends n count s)
sends_grows n zero s = grows_not s
sends_grows n (suc count) s =
    let taken = takes (Send n) s in
    let all = sends n count taken in
    either (suc count) (suc count) s s all (is_refused s (Send n)) (grows_more 0 0 (suc count) (suc count) s s (omega arith) (omega arith) (grows_not s))
    (grows_more (1 + count) (1 + count) (suc count) (suc count) s all (omega arith) (omega arith)
    (grows_on 1 1 count count s taken all (takes_grows (Send n) s) (sends_grows n count taken)))

-- ---- turns

pub hears_all_grows : (n : ℕ) (s : Soak) → length s.world.frames ≤ 4294967296 → Grows 0 8589934592 s (hears_all n s)
unfolding hears_all
hears_all_grows n s few =
    let came = length s.world.frames - s.heard in
    grows_more (came * 0) (came * 2) 0 8589934592 s (for_each (hears n) (s.heard + 1) came s) (omega arith) (omega (arith, few))
    (each_grows 4294967296 0 2 (hears n) (λ k t _. hears_grows n k t) came (s.heard + 1) s (omega (arith, few)))

sends_some_grows : (n : ℕ) (s : Soak) → Grows 8 8 s (sends_some n s)
unfolding sends_some
sends_some_grows n s =
    either 8 8 s (sends n 8 s) s (shows n s) (sends_grows n 8 s) (grows_more 0 0 8 8 s s (omega arith) (omega arith) (grows_not s))

pub turn_grows : (turn : Turn) (n : ℕ) (s : Soak) → length s.world.frames ≤ 4294967296 → Grows (growth turn) 8589934592 s (has_turn turn n s)
turn_grows Opening n s few = grows_more 0 1 0 8589934592 s (opens n s) (omega arith) (omega arith) (opens_grows n s)
turn_grows Ticking n s few = grows_more 0 1 0 8589934592 s (ticks n s) (omega arith) (omega arith) (ticks_grows n s)
turn_grows Hearing n s few = hears_all_grows n s few
turn_grows Sending n s few = grows_more 8 8 8 8589934592 s (sends_some n s) (omega arith) (omega arith) (sends_some_grows n s)

pub members_grow : (turn : Turn) (count first : ℕ) (s : Soak) → length s.world.frames + count * growth turn ≤ 4294967296 →
    Grows (count * growth turn) (count * 8589934592) s (for_each (has_turn turn) first count s)
members_grow turn count first s few = each_grows 4294967296 (growth turn) 8589934592 (has_turn turn) (λ n t h. turn_grows turn n t (omega (arith, h))) count first s few

-- ---- room

pub fits_on : (room a b c d e f : ℕ) (s t : Soak) → Fits a b room s → Grows c d s t → c + e ≤ a → d + f ≤ b → Fits e f room t
fits_on room a b c d e f s t p q h i = record {
  frames = omega (arith, p.frames, q.frames, h);
  rows = omega (arith, p.rows, q.rows, i);
  stops = omega (arith, p.stops, q.stops, i);
  refused = omega (arith, p.refused, q.refused, i);
}

-- ---- a round

pub each_turn_grows : (turn : Turn) (size : ℕ) (s : Soak) → length s.world.frames + size * growth turn ≤ 4294967296 →
    Grows (size * growth turn) (size * 8589934592) s (each turn size s)
unfolding each
each_turn_grows turn size s few = members_grow turn size 1 s few

five_turns : (turn : Turn) (size : ℕ) (s : Soak) → size ≤ 5 → length s.world.frames + 5 * growth turn ≤ 4294967296 →
    Grows (5 * growth turn) 42949672960 s (each turn size s)
five_turns turn size s most few =
    let less : size * growth turn ≤ 5 * growth turn = mul-le-mul_right (growth turn) most in
    grows_more (size * growth turn) (size * 8589934592) (5 * growth turn) 42949672960 s (each turn size s) less (omega (arith, most))
    (each_turn_grows turn size s (omega (arith, less, few)))

-- the states of a round, one after another
module _ (size number : ℕ) (s : Soak) where
  abbrev pub armed : Soak
  armed = arms_by_chance size (begins number s)

  abbrev pub opened : Soak
  opened = each Opening size armed

  abbrev pub asked : Soak
  asked = asks_in_time number opened

  abbrev pub ticked : Soak
  ticked = each Ticking size asked

  abbrev pub heard : Soak
  heard = each Hearing size ticked

  abbrev pub settled : Soak
  settled = has_heard heard

  armed_grows : Grows 0 1 s armed
  armed_grows = same_counts 0 1 s (begins number s) armed refl refl refl (arms_by_chance_grows size (begins number s))

  module _ (most : size ≤ 5) (few : length s.world.frames + 41 ≤ 4294967296) where
    opened_grows : Grows 0 42949672961 s opened
    opened_grows =
        let more = armed_grows.frames in
        grows_on 0 1 0 42949672960 s armed opened armed_grows (five_turns Opening size armed most (omega (arith, more, few)))

    asked_grows : Grows 1 42949672962 s asked
    asked_grows = grows_on 0 42949672961 1 1 s opened asked opened_grows (asks_in_time_grows number opened)

    ticked_grows : Grows 1 85899345922 s ticked
    ticked_grows =
        let more = asked_grows.frames in
        grows_on 1 42949672962 0 42949672960 s asked ticked asked_grows (five_turns Ticking size asked most (omega (arith, more, few)))

    heard_grows : Grows 1 128849018882 s heard
    heard_grows =
        let more = ticked_grows.frames in
        grows_on 1 85899345922 0 42949672960 s ticked heard ticked_grows (five_turns Hearing size ticked most (omega (arith, more, few)))

    settled_grows : Grows 1 128849018882 s settled
    settled_grows = record {
      frames = heard_grows.frames;
      rows = heard_grows.rows;
      stops = heard_grows.stops;
      refused = heard_grows.refused;
    }

    pub round_grows : Grows 41 274877906944 s (has_round size number s)
    unfolding has_round
    round_grows =
        let more = settled_grows.frames in
        grows_more 41 171798691842 41 274877906944 s (each Sending size settled) (omega arith) (omega arith)
        (grows_on 1 128849018882 40 42949672960 s settled (each Sending size settled) settled_grows
        (five_turns Sending size settled most (omega (arith, more, few))))

    -- what each part of it finds
    pub record HasRooms (room : ℕ) : Type 0 where
      pub to_arm : Fits 1 1 room (begins number s)
      pub to_open : Fits 1 42949672960 room armed
      pub to_ask : Fits 1 1 room opened
      pub to_tick : Fits 1 42949672960 room asked
      pub to_hear : Fits 1 42949672960 room ticked
      pub to_settle : Fits 0 0 room heard
      pub to_send : Fits 40 42949672960 room settled

    pub round_fits : (room : ℕ) → Fits 41 274877906944 room s → HasRooms room
    round_fits room p = record {
      to_arm = record { frames = omega (arith, p.frames); rows = omega (arith, p.rows); stops = omega (arith, p.stops); refused = omega (arith, p.refused) };
      to_open = fits_on room 41 274877906944 0 1 1 42949672960 s armed p armed_grows (omega arith) (omega arith);
      to_ask = fits_on room 41 274877906944 0 42949672961 1 1 s opened p opened_grows (omega arith) (omega arith);
      to_tick = fits_on room 41 274877906944 1 42949672962 1 42949672960 s asked p asked_grows (omega arith) (omega arith);
      to_hear = fits_on room 41 274877906944 1 85899345922 1 42949672960 s ticked p ticked_grows (omega arith) (omega arith);
      to_settle = fits_on room 41 274877906944 1 128849018882 0 0 s heard p heard_grows (omega arith) (omega arith);
      to_send = fits_on room 41 274877906944 1 128849018882 40 42949672960 s settled p settled_grows (omega arith) (omega arith);
    }

pub rounds_grow : (size : ℕ) → size ≤ 5 → (count : ℕ) (s : Soak) → length s.world.frames + count * 41 ≤ 4294967296 →
    Grows (count * 41) (count * 274877906944) s (for_each (has_round size) 1 count s)
rounds_grow size most count s few = each_grows 4294967296 41 274877906944 (has_round size) (λ n t h. round_grows size n t most h) count 1 s few
