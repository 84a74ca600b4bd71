-- What the code of a soak stands for after each part of a round.
use Rattle.std.proofs.Common.{◌≡◌, ◌≤◌, ◌<◌, ◌+◌, ◌-◌, ◌*◌, ℕ, zero, suc, Bool, true, false, List, [], ◌∷◌, length, refl, sym, ap, subst, ◌∙◌, arith}
use Rattle.std.proofs.lemmas.Bool.{eq-eqb, ne_eqb}
use Rattle.std.specs.Prelude.{◌==◌, ◌%◌, ◌/◌, if◌then◌else◌}
use Rattle.bus_world.specs.World.{StandsFor as IsWorld, frame_room}
use Rattle.bus_world.specs.declared.world.World.{World}
use Rattle.outside.specs.declared.pattern.Pattern.TheVariants.{Bytes}
use Rattle.cmd_io.specs.Draws.{next_state, word_at}
use Rattle.bus_rows.specs.declared.row.Row.{Row}
use Rattle.bus_rows.specs.declared.row.Row.TheVariants.{Open, Tick, Rx, Send, Ext, Crash}
use Rattle.bus_spec.specs.Cluster.{cluster, after_row}
use Rattle.bus_spec.specs.Report.{line_of_row}
use Rattle.bus_rows.specs.ReportLine.{is_stop}
use Rattle.cmd_soak.specs.Growth.{Fits, Grows, growth, room_for}
use Rattle.cmd_soak.specs.Requests.{request}
use Rattle.cmd_soak.specs.Rounds.{Soak, arms, arms_by_chance, asks_in_time, begins, draws, drawn, each, for_each, gives, has_heard, has_round, has_turn, hears, hears_all, is_refused, members, one_if, opens, repeats, seeded, sends, sends_some, shows, takes, ticks, word}
use Rattle.cmd_soak.specs.Soaking.{Does, HasRoom, Keeps, StandsFor, Tries}
use Rattle.cmd_soak.specs.declared.soaking.Soaking.{Soaking}
use Rattle.cmd_soak.specs.declared.turn.Turn.{Turn}
use Rattle.cmd_soak.specs.declared.turn.Turn.TheVariants.{Open as Opening, Tick as Ticking, Hear as Hearing, Send as Sending}
use Rattle.cmd_soak.proofs.Growing.{HasRooms, each_next, fits_on, grows_more, grows_not, grows_on, round_fits, rounds_grow, settled, takes_grows}

-- ---- a choice

pub in_then : (P : Soak → Type 0) (test : Bool) (t u : Soak) → test ≡ true → P t → P (if test then t else u)
in_then P true t u e p = p
in_then P false t u e p = absurd (cc (e))

pub in_else : (P : Soak → Type 0) (test : Bool) (t u : Soak) → test ≡ false → P u → P (if test then t else u)
in_else P true t u e p = absurd (cc (e))
in_else P false t u e p = p

pub is_number : (n m k : ℕ) → n ≡ m → n ≡ k → (m == k) ≡ true
is_number n m k same e = eq-eqb m k (sym same ∙ e)

pub is_other : (n m k : ℕ) → n ≡ m → (n ≡ k → ⊥) → (m == k) ≡ false
is_other n m k same e = ne_eqb m k (λ h. e (same ∙ h))

-- ---- what a member is still to send

sent_last : (n left : ℕ) (s : Soak) → 0 < left → is_refused s (Send n) ≡ true → sends n left s ≡ s
sent_last n zero s some e = absurd (omega (arith, some))
sent_last n (suc left) s some e = in_then (λ t. t ≡ s) (is_refused s (Send n)) s (sends n left (takes (Send n) s)) e refl

sent_one : (n left : ℕ) (s : Soak) → is_refused s (Send n) ≡ false → sends n (suc left) s ≡ sends n left (takes (Send n) s)
sent_one n left s e = in_else (λ t. t ≡ sends n left (takes (Send n) s)) (is_refused s (Send n)) s (sends n left (takes (Send n) s)) e refl

pub fits_first : (told : Bool) (seed rounds size room : ℕ) → rounds ≤ 20000 → rounds * 41 ≤ room → Fits (rounds * 41) (rounds * 274877906944) room (seeded told seed size)
fits_first told seed rounds size room most enough = record {
  frames = omega (arith, enough);
  rows = omega (arith, most);
  stops = omega (arith, most);
  refused = omega (arith, most);
}

module _ {F G : Type 0} where
  -- ---- a draw

  pub drawn_stands : (old : Soaking F G) (s : Soak) (x : ℕ) → StandsFor old s → x ≡ next_state old.chance → StandsFor (record old { chance = x }) (draws s)
  drawn_stands old s x is e = record {
    world = is.world;
    room = is.room;
    narrow = is.narrow;
    told = is.told;
    chance = e ∙ ap next_state is.chance;
    moment = is.moment;
    heard = is.heard;
    stops = is.stops;
    refused = is.refused;
  }

  pub drawn_room : (sent given : ℕ) (old : Soaking F G) (x : ℕ) → HasRoom sent given old → x ≡ next_state old.chance →
      HasRoom sent given (record old { chance = x })
  drawn_room sent given old x room e = record {
    now = draws room.now;
    stands = drawn_stands old room.now x room.stands e;
    fits = record { frames = room.fits.frames; rows = room.fits.rows; stops = room.fits.stops; refused = room.fits.refused };
  }

  -- the number that was drawn
  pub drawn_word : (old : Soaking F G) (s : Soak) (x w : ℕ) → StandsFor old s → x ≡ next_state old.chance → w ≡ word_at x → w ≡ word s
  drawn_word old s x w is e f = f ∙ ap word_at (e ∙ ap next_state is.chance)

  pub drawn_below : (old : Soaking F G) (s : Soak) (bound x w : ℕ) → StandsFor old s → x ≡ next_state old.chance → w ≡ word_at x % bound → w ≡ drawn bound s
  drawn_below old s bound x w is e f = f ∙ ap (λ y. word_at y % bound) (e ∙ ap next_state is.chance)

  -- ---- room after some rows

  pub less_room : (a b c d : ℕ) (now : Soaking F G) → c ≤ a → d ≤ b → HasRoom a b now → HasRoom c d now
  less_room a b c d now h i room = record {
    now = room.now;
    stands = room.stands;
    fits = record {
      frames = omega (arith, room.fits.frames, h);
      rows = omega (arith, room.fits.rows, i);
      stops = omega (arith, room.fits.stops, i);
      refused = omega (arith, room.fits.refused, i);
    };
  }

  pub room_after : (old new : Soaking F G) (a b c d e f : ℕ) (s t : Soak) → StandsFor new t → new.room ≡ old.room → Fits a b old.room s →
      Grows c d s t → c + e ≤ a → d + f ≤ b → HasRoom e f new
  room_after old new a b c d e f s t is same p q h i = record {
    now = t;
    stands = is;
    fits = subst (λ r. Fits e f r t) (sym same) (fits_on old.room a b c d e f s t p q h i);
  }

  pub with_room : (old new : Soaking F G) (a b : ℕ) (t : Soak) → StandsFor new t → new.room ≡ old.room → Fits a b old.room t → HasRoom a b new
  with_room old new a b t is same p = record { now = t; stands = is; fits = subst (λ r. Fits a b r t) (sym same) p }

  -- ---- a row

  pub takes_stands : (old : Soaking F G) (world : World F G) (s : Soak) (row : Row) (more : ℕ) → StandsFor old s → IsWorld world (after_row s.world row) →
      frame_room world ≡ frame_room old.world → more ≡ one_if (is_stop (line_of_row s.world row)) →
      StandsFor (record old { world = world; stops = old.stops + more }) (takes row s)
  unfolding takes
  takes_stands old world s row more is after room e = record {
    world = after;
    room = room ∙ is.room;
    narrow = is.narrow;
    told = is.told;
    chance = is.chance;
    moment = is.moment;
    heard = is.heard;
    stops = ap (λ n. n + more) is.stops ∙ ap (λ n. s.stops + n) e;
    refused = is.refused;
  }

  pub gives_refused : (now : Soaking F G) (s : Soak) (row : Row) → is_refused s row ≡ true → StandsFor now s →
      StandsFor (record now { refused = now.refused + 1 }) (gives row s)
  unfolding gives
  gives_refused now s row e is =
      in_then (StandsFor (record now { refused = now.refused + 1 })) (is_refused s row) (record s { refused = s.refused + 1 }) (takes row s) e (record {
        world = is.world;
        room = is.room;
        narrow = is.narrow;
        told = is.told;
        chance = is.chance;
        moment = is.moment;
        heard = is.heard;
        stops = is.stops;
        refused = ap (λ n. n + 1) is.refused;
      })

  pub gives_taken : (now : Soaking F G) (s : Soak) (row : Row) → is_refused s row ≡ false → StandsFor now (takes row s) → StandsFor now (gives row s)
  unfolding gives
  gives_taken now s row e is = in_else (StandsFor now) (is_refused s row) (record s { refused = s.refused + 1 }) (takes row s) e is

  -- ---- parts of a round

  pub not_armed : (new : Soaking F G) (size : ℕ) (s : Soak) → (drawn 64 s == 0) ≡ false → StandsFor new (draws s) → StandsFor new (arms_by_chance size s)
  unfolding arms_by_chance
  not_armed new size s e is = in_else (StandsFor new) (drawn 64 s == 0) (arms size (draws s)) (draws s) e is

  pub is_armed : (new : Soaking F G) (size : ℕ) (s : Soak) → (drawn 64 s == 0) ≡ true → StandsFor new (arms size (draws s)) → StandsFor new (arms_by_chance size s)
  unfolding arms_by_chance
  is_armed new size s e is = in_then (StandsFor new) (drawn 64 s == 0) (arms size (draws s)) (draws s) e is

  pub arms_stop : (new : Soaking F G) (size : ℕ) (s : Soak) (n calls byte : ℕ) → n ≡ drawn size s → calls ≡ drawn 30 (draws s) →
      byte ≡ drawn 256 (draws (draws s)) →
      StandsFor new (gives (Crash (n + 1) (calls + 1) (Bytes (record { items = byte ∷ [] }))) (draws (draws (draws s)))) → StandsFor new (arms size s)
  unfolding arms
  arms_stop new size s n calls byte e f h is =
      let third = draws (draws (draws s)) in
      subst (λ m. StandsFor new (gives (Crash (m + 1) (drawn 30 (draws s) + 1) (Bytes (record { items = drawn 256 (draws (draws s)) ∷ [] }))) third)) e
      (subst (λ m. StandsFor new (gives (Crash (n + 1) (m + 1) (Bytes (record { items = drawn 256 (draws (draws s)) ∷ [] }))) third)) f
      (subst (λ m. StandsFor new (gives (Crash (n + 1) (calls + 1) (Bytes (record { items = m ∷ [] }))) third)) h is))

  pub not_asked : (new : Soaking F G) (number : ℕ) (s : Soak) → (number % 4 == 1) ≡ false → StandsFor new s → StandsFor new (asks_in_time number s)
  unfolding asks_in_time
  not_asked new number s e is = in_else (StandsFor new) (number % 4 == 1) (gives (Ext (request (number / 4))) s) s e is

  pub is_asked : (new : Soaking F G) (number : ℕ) (s : Soak) → (number % 4 == 1) ≡ true → StandsFor new (gives (Ext (request (number / 4))) s) →
      StandsFor new (asks_in_time number s)
  unfolding asks_in_time
  is_asked new number s e is = in_then (StandsFor new) (number % 4 == 1) (gives (Ext (request (number / 4))) s) s e is

  pub opens_not : (new : Soaking F G) (n : ℕ) (s : Soak) → shows n s ≡ true → StandsFor new s → StandsFor new (opens n s)
  unfolding opens
  opens_not new n s e is = in_then (StandsFor new) (shows n s) s (gives (Open n s.told s.moment (word s)) (draws s)) e is

  pub opens_now : (new : Soaking F G) (n : ℕ) (s : Soak) (told : Bool) (ms w : ℕ) → shows n s ≡ false → told ≡ s.told → ms ≡ s.moment → w ≡ word s →
      StandsFor new (gives (Open n told ms w) (draws s)) → StandsFor new (opens n s)
  unfolding opens
  opens_now new n s told ms w e i f h is =
      in_else (StandsFor new) (shows n s) s (gives (Open n s.told s.moment (word s)) (draws s)) e
      (subst (λ t. StandsFor new (gives (Open n t s.moment (word s)) (draws s))) i
      (subst (λ m. StandsFor new (gives (Open n told m (word s)) (draws s))) f (subst (λ v. StandsFor new (gives (Open n told ms v) (draws s))) h is)))

  pub ticks_not : (new : Soaking F G) (n : ℕ) (s : Soak) → shows n s ≡ false → StandsFor new s → StandsFor new (ticks n s)
  unfolding ticks
  ticks_not new n s e is = in_else (StandsFor new) (shows n s) (gives (Tick n s.moment (word s)) (draws s)) s e is

  pub ticks_now : (new : Soaking F G) (n : ℕ) (s : Soak) (ms w : ℕ) → shows n s ≡ true → ms ≡ s.moment → w ≡ word s →
      StandsFor new (gives (Tick n ms w) (draws s)) → StandsFor new (ticks n s)
  unfolding ticks
  ticks_now new n s ms w e f h is =
      in_then (StandsFor new) (shows n s) (gives (Tick n s.moment (word s)) (draws s)) s e
      (subst (λ m. StandsFor new (gives (Tick n m (word s)) (draws s))) f (subst (λ v. StandsFor new (gives (Tick n ms v) (draws s))) h is))

  pub not_repeated : (new : Soaking F G) (row : Row) (s : Soak) → (drawn 16 s == 0) ≡ false → StandsFor new (draws s) → StandsFor new (repeats row s)
  unfolding repeats
  not_repeated new row s e is = in_else (StandsFor new) (drawn 16 s == 0) (gives row (draws s)) (draws s) e is

  pub is_repeated : (new : Soaking F G) (row : Row) (s : Soak) → (drawn 16 s == 0) ≡ true → StandsFor new (gives row (draws s)) → StandsFor new (repeats row s)
  unfolding repeats
  is_repeated new row s e is = in_then (StandsFor new) (drawn 16 s == 0) (gives row (draws s)) (draws s) e is

  pub loses : (new : Soaking F G) (n k : ℕ) (s : Soak) → (drawn 16 s == 0) ≡ true → StandsFor new (draws s) → StandsFor new (hears n k s)
  unfolding hears
  loses new n k s e is =
      in_then (StandsFor new) (drawn 16 s == 0) (draws s)
      (if shows n s then repeats (Rx n k s.moment) (gives (Rx n k s.moment) (draws s)) else draws s) e is

  pub hears_not : (new : Soaking F G) (n k : ℕ) (s : Soak) → (drawn 16 s == 0) ≡ false → shows n s ≡ false → StandsFor new (draws s) →
      StandsFor new (hears n k s)
  unfolding hears
  hears_not new n k s e f is =
      let heard = repeats (Rx n k s.moment) (gives (Rx n k s.moment) (draws s)) in
      in_else (StandsFor new) (drawn 16 s == 0) (draws s) (if shows n s then heard else draws s) e (in_else (StandsFor new) (shows n s) heard (draws s) f is)

  pub hears_now : (new : Soaking F G) (n k : ℕ) (s : Soak) (ms : ℕ) → (drawn 16 s == 0) ≡ false → shows n s ≡ true → ms ≡ s.moment →
      StandsFor new (repeats (Rx n k ms) (gives (Rx n k ms) (draws s))) → StandsFor new (hears n k s)
  unfolding hears
  hears_now new n k s ms e f h is =
      let heard = repeats (Rx n k s.moment) (gives (Rx n k s.moment) (draws s)) in
      in_else (StandsFor new) (drawn 16 s == 0) (draws s) (if shows n s then heard else draws s) e
      (in_then (StandsFor new) (shows n s) heard (draws s) f (subst (λ m. StandsFor new (repeats (Rx n k m) (gives (Rx n k m) (draws s)))) h is))

  pub hears_next : (new : Soaking F G) (n heard more k : ℕ) (s : Soak) → heard ≡ s.heard → k ≡ heard + 1 + more →
      StandsFor new (hears n k (for_each (hears n) (s.heard + 1) more s)) → StandsFor new (for_each (hears n) (s.heard + 1) (more + 1) s)
  hears_next new n heard more k s e h is =
      let far = for_each (hears n) (s.heard + 1) more s in
      let number : k ≡ s.heard + 1 + more = h ∙ ap (λ x. x + 1 + more) e in
      let next : more + 1 ≡ suc more = omega arith in
      let same = ap (λ m. for_each (hears n) (s.heard + 1) m s) next ∙ each_next (hears n) more (s.heard + 1) s in
      subst (StandsFor new) (sym same) (subst (λ j. StandsFor new (hears n j far)) number is)

  pub hears_end : (new : Soaking F G) (n heard frames came : ℕ) (s : Soak) → heard ≡ s.heard → frames ≡ length s.world.frames → came ≡ frames - heard →
      StandsFor new (for_each (hears n) (s.heard + 1) came s) → StandsFor new (hears_all n s)
  unfolding hears_all
  hears_end new n heard frames came s e f h is =
      let count : came ≡ length s.world.frames - s.heard = h ∙ ap (λ x. x - heard) f ∙ ap (λ x. length s.world.frames - x) e in
      subst (λ m. StandsFor new (for_each (hears n) (s.heard + 1) m s)) count is

  pub turn_next : (new : Soaking F G) (turn : Turn) (place : ℕ) (s : Soak) → StandsFor new (has_turn turn (place + 1) (for_each (has_turn turn) 1 place s)) →
      StandsFor new (for_each (has_turn turn) 1 (place + 1) s)
  turn_next new turn place s is =
      let next : place + 1 ≡ suc place = omega arith in
      let number : place + 1 ≡ 1 + place = omega arith in
      let same = ap (λ m. for_each (has_turn turn) 1 m s) next ∙ each_next (has_turn turn) place 1 s in
      subst (StandsFor new) (sym same) (subst (λ j. StandsFor new (has_turn turn j (for_each (has_turn turn) 1 place s))) number is)

  pub turns_end : (new : Soaking F G) (turn : Turn) (size : ℕ) (s : Soak) → StandsFor new (for_each (has_turn turn) 1 size s) → StandsFor new (each turn size s)
  unfolding each
  turns_end new turn size s is = is

  pub round_next : (new : Soaking F G) (size done : ℕ) (s : Soak) → StandsFor new (has_round size (done + 1) (for_each (has_round size) 1 done s)) →
      StandsFor new (for_each (has_round size) 1 (done + 1) s)
  round_next new size done s is =
      let next : done + 1 ≡ suc done = omega arith in
      let number : done + 1 ≡ 1 + done = omega arith in
      let same = ap (λ m. for_each (has_round size) 1 m s) next ∙ each_next (has_round size) done 1 s in
      subst (StandsFor new) (sym same) (subst (λ j. StandsFor new (has_round size j (for_each (has_round size) 1 done s))) number is)

  pub begins_stands : (old : Soaking F G) (number : ℕ) (s : Soak) → StandsFor old s → StandsFor (record old { moment = 50 * number }) (begins number s)
  begins_stands old number s is = record {
    world = is.world;
    room = is.room;
    narrow = is.narrow;
    told = is.told;
    chance = is.chance;
    moment = refl;
    heard = is.heard;
    stops = is.stops;
    refused = is.refused;
  }

  pub heard_stands : (old : Soaking F G) (frames : ℕ) (s : Soak) → StandsFor old s → frames ≡ length s.world.frames →
      StandsFor (record old { heard = frames }) (has_heard s)
  heard_stands old frames s is e = record {
    world = is.world;
    room = is.room;
    narrow = is.narrow;
    told = is.told;
    chance = is.chance;
    moment = is.moment;
    heard = e;
    stops = is.stops;
    refused = is.refused;
  }

  -- ---- one part of a round after another

  -- this was done, and the bus has the room that it had
  pub record HasDone (act : Soak → Soak) (old new : Soaking F G) : Type 0 where
    pub does : Does act old new
    pub room : new.room ≡ old.room

  pub done_then : {act : Soak → Soak} {old now new : Soaking F G} (next : Soak → Soak) → HasDone act old now → Does next now new → Keeps now new →
      HasDone (λ s. next (act s)) old new
  done_then {act = act} next done does keeps = record {
    does = λ s is. does (act s) (done.does s is);
    room = keeps.room ∙ done.room;
  }

  pub has_begun : (number : ℕ) (start : Soaking F G) → HasDone (begins number) start (record start { moment = 50 * number })
  has_begun number start = record { does = λ s is. begins_stands start number s is; room = refl }

  pub has_settled : {act : Soak → Soak} {old now : Soaking F G} (frames : ℕ) → HasDone act old now →
      ((s : Soak) → StandsFor now s → frames ≡ length s.world.frames) → HasDone (λ s. has_heard (act s)) old (record now { heard = frames })
  has_settled {act = act} {now = now} frames done count = record {
    does = λ s is. heard_stands now frames (act s) (done.does s is) (count (act s) (done.does s is));
    room = done.room;
  }

  pub room_then : {act : Soak → Soak} {old now : Soaking F G} (a b c d : ℕ) → HasDone act old now → (room : HasRoom a b old) →
      Fits c d old.room (act room.now) → HasRoom c d now
  room_then {act = act} {old = old} {now = now} a b c d done room fits =
      with_room old now c d (act room.now) (done.does room.now room.stands) done.room fits

  pub few_frames : (start : Soaking F G) (room : HasRoom 41 274877906944 start) → length room.now.world.frames + 41 ≤ 4294967296
  few_frames start room = let most = room.fits.frames in let narrow = room.stands.narrow in omega (arith, most, narrow)

  pub rooms : (size number : ℕ) (start : Soaking F G) (most : size ≤ 5) (room : HasRoom 41 274877906944 start) →
      HasRooms size number room.now most (few_frames start room) start.room
  rooms size number start most room = round_fits size number room.now most (few_frames start room) start.room room.fits

  -- ---- sending

  -- a member has sent some frames, and is to send so many more at the most
  pub record IsSending (n left : ℕ) (s : Soak) (now : Soaking F G) : Type 0 where
    pub after : Soak
    pub stands : StandsFor now after
    pub rest : sends n left after ≡ sends n 8 s
    pub grown : Grows (8 - left) (8 - left) s after

  pub begins_sending : (n : ℕ) (s : Soak) (now : Soaking F G) → StandsFor now s → IsSending n 8 s now
  begins_sending n s now is = record { after = s; stands = is; rest = refl; grown = grows_not s }

  pub stops_sending : (n left : ℕ) (s : Soak) (now new : Soaking F G) → shows n s ≡ true → 0 < left → (far : IsSending n left s now) →
      Tries false (Send n) far.after new → StandsFor new (sends_some n s)
  unfolding sends_some
  stops_sending n left s now new e some far tried =
      let same = sym (sent_last n left far.after some tried.0) ∙ far.rest in
      in_then (StandsFor new) (shows n s) (sends n 8 s) s e (subst (StandsFor new) same tried.1)

  pub ends_sending : (n left : ℕ) (s : Soak) (now : Soaking F G) → shows n s ≡ true → left ≡ 0 → IsSending n left s now → StandsFor now (sends_some n s)
  unfolding sends_some
  ends_sending n left s now e none far =
      let same = sym (ap (λ m. sends n m far.after) none) ∙ far.rest in
      in_then (StandsFor now) (shows n s) (sends n 8 s) s e (subst (StandsFor now) same far.stands)

  pub sends_none : (n : ℕ) (s : Soak) (now : Soaking F G) → shows n s ≡ false → StandsFor now s → StandsFor now (sends_some n s)
  unfolding sends_some
  sends_none n s now e is = in_else (StandsFor now) (shows n s) (sends n 8 s) s e is

  pub goes_on_sending : (n left less : ℕ) (s : Soak) (now new : Soaking F G) → left ≡ suc less → left ≤ 8 → (far : IsSending n left s now) →
      Tries true (Send n) far.after new → IsSending n less s new
  goes_on_sending n left less s now new e most far tried =
      let one = grows_on (8 - left) (8 - left) 1 1 s far.after (takes (Send n) far.after) far.grown (takes_grows (Send n) far.after) in
      record {
        after = takes (Send n) far.after;
        stands = tried.1;
        rest = sym (sent_one n less far.after tried.0) ∙ ap (λ m. sends n m far.after) (sym e) ∙ far.rest;
        grown = grows_more (8 - left + 1) (8 - left + 1) (8 - less) (8 - less) s (takes (Send n) far.after) (omega (arith, e, most)) (omega (arith, e, most)) one;
      }

  -- ---- the whole

  pub rounds_off : (new : Soaking F G) (size number : ℕ) (s : Soak) → StandsFor new (each Sending size (settled size number s)) →
      StandsFor new (has_round size number s)
  unfolding has_round
  rounds_off new size number s is = is

  pub started : (world : World F G) (told : Bool) (seed size room : ℕ) → IsWorld world (cluster (members size)) → frame_room world ≡ room → room < 4294967296 →
      StandsFor (record { world = world; told = told; chance = seed; room = room; moment = 0; heard = 0; stops = 0; refused = 0 }) (seeded told seed size)
  started world told seed size room is same narrow = record {
    world = is;
    room = same;
    narrow = narrow;
    told = refl;
    chance = refl;
    moment = refl;
    heard = refl;
    stops = refl;
    refused = refl;
  }

  pub is_started : (now : Soaking F G) (world : World F G) (told : Bool) (seed size room : ℕ) (ids : List ℕ) →
      now ≡ record { world = world; told = told; chance = seed; room = room; moment = 0; heard = 0; stops = 0; refused = 0 } → IsWorld world (cluster ids) →
      ids ≡ members size → frame_room world ≡ room → room < 4294967296 → StandsFor now (seeded told seed size)
  is_started now world told seed size room ids e is same own narrow =
      subst (λ n. StandsFor n (seeded told seed size)) (sym e) (started world told seed size room (subst (λ l. IsWorld world (cluster l)) same is) own narrow)

  pub room_first : (now : Soaking F G) (told : Bool) (seed rounds size room : ℕ) → StandsFor now (seeded told seed size) → now.room ≡ room → rounds ≤ 20000 → rounds * 41 ≤ room →
      HasRoom (rounds * 41) (rounds * 274877906944) now
  room_first now told seed rounds size room is e most enough = record {
    now = seeded told seed size;
    stands = is;
    fits = subst (λ r. Fits (rounds * 41) (rounds * 274877906944) r (seeded told seed size)) (sym e) (fits_first told seed rounds size room most enough);
  }

pub fits_last : (told : Bool) (seed rounds size room : ℕ) → rounds ≤ 20000 → size ≤ 5 → rounds * 41 ≤ room → room < 4294967296 →
    Fits 0 0 room (for_each (has_round size) 1 rounds (seeded told seed size))
fits_last told seed rounds size room most five enough narrow =
    fits_on room (rounds * 41) (rounds * 274877906944) (rounds * 41) (rounds * 274877906944) 0 0 (seeded told seed size)
    (for_each (has_round size) 1 rounds (seeded told seed size)) (fits_first told seed rounds size room most enough)
    (rounds_grow size five rounds (seeded told seed size) (omega (arith, enough, narrow))) (omega arith) (omega arith)

-- ---- room for the turn of one member more

pub turns_room : (turn : Turn) (place : ℕ) → place < 5 → place * growth turn + room_for turn 1 ≤ room_for turn 5
turns_room Opening place h = omega arith
turns_room Ticking place h = omega arith
turns_room Hearing place h = omega arith
turns_room Sending place h = omega (arith, h)
