-- The rounds of a soak: the rows that a seed makes, and what they leave. A row that is refused changes nothing.
use Rattle.std.specs.Prelude.{ℕ, zero, suc, ◌+◌, ◌-◌, ◌*◌, ◌/◌, ◌%◌, ◌==◌, Bool, List, [], ◌∷◌, ◌++◌, length, take, is_some, if◌then◌else◌}
use Rattle.outside.specs.declared.pattern.Pattern.TheVariants.{Bytes}
use Rattle.cmd_io.specs.Draws.{next_state, word_at}
use Rattle.bus_rows.specs.declared.row.Row.{Row}
use Rattle.bus_rows.specs.declared.row.Row.TheVariants.{Open, Tick, Rx, Send, Ext, Crash}
use Rattle.bus_spec.specs.Cluster.{Cluster, cluster, after_row}
use Rattle.bus_spec.specs.Lawful.{cause}
use Rattle.bus_spec.specs.Report.{line_of_row, view_at}
use Rattle.bus_rows.specs.ReportLine.{is_stop}
use Rattle.cmd_soak.specs.Requests.{request}
use Rattle.cmd_soak.specs.declared.turn.Turn.{Turn}
use Rattle.cmd_soak.specs.declared.turn.Turn.TheVariants.{Open as Opening, Tick as Ticking, Hear as Hearing, Send as Sending}

-- what is so at a moment of a soak
pub record Soak : Type 0 where
  pub world : Cluster
  -- whether members are told who the members are when they open
  pub told : Bool
  -- where the generator of numbers stands
  pub chance : ℕ
  -- of the round, in milliseconds
  pub moment : ℕ
  -- how many frames of the bus each member was given, or has lost, before this round
  pub heard : ℕ
  -- the rows that were taken
  pub rows : List Row
  -- how many of them told of a stop
  pub stops : ℕ
  -- how many rows were refused, but for the one that ends a member's sending
  pub refused : ℕ

-- ---- chance

-- one number is drawn
abbrev pub draws : Soak → Soak
draws s = record s { chance = next_state s.chance }

-- the next number, 0 to 2^31 - 1
abbrev pub word : Soak → ℕ
word s = word_at (next_state s.chance)

-- or made one below a bound
abbrev pub drawn : ℕ → Soak → ℕ
drawn bound s = word s % bound

-- ---- a row

abbrev pub is_refused : Soak → Row → Bool
is_refused s row = is_some (cause s.world row)

abbrev pub one_if : Bool → ℕ
one_if test = if test then 1 else 0

unfoldable pub takes : Row → Soak → Soak
takes row s = record s {
  world = after_row s.world row;
  rows = s.rows ++ row ∷ [];
  stops = s.stops + one_if (is_stop (line_of_row s.world row));
}

unfoldable pub gives : Row → Soak → Soak
gives row s = if is_refused s row then record s { refused = s.refused + 1 } else takes row s

-- ---- a stop that is armed at a member's disk

-- which member, at which call of its disk, and the byte of the pattern, drawn in this order
abbrev pub stop : ℕ → Soak → Row
stop size s =
    let second = draws s in
    let third = draws second in
    Crash (drawn size s + 1) (drawn 30 second + 1) (Bytes (record { items = drawn 256 third ∷ [] }))

unfoldable pub arms : ℕ → Soak → Soak
arms size s = gives (stop size s) (draws (draws (draws s)))

-- in one round of 64
unfoldable pub arms_by_chance : ℕ → Soak → Soak
arms_by_chance size s = if drawn 64 s == 0 then arms size (draws s) else draws s

-- ---- a request from outside, in one round of four

unfoldable pub asks_in_time : ℕ → Soak → Soak
asks_in_time round s = if round % 4 == 1 then gives (Ext (request (round / 4))) s else s

-- ---- a member

-- the member runs, and has not failed
abbrev pub shows : ℕ → Soak → Bool
shows n s = is_some (view_at s.world n)

unfoldable pub opens : ℕ → Soak → Soak
opens n s = if shows n s then s else gives (Open n s.told s.moment (word s)) (draws s)

unfoldable pub ticks : ℕ → Soak → Soak
ticks n s = if shows n s then gives (Tick n s.moment (word s)) (draws s) else s

-- the frame comes once more
unfoldable pub repeats : Row → Soak → Soak
repeats row s = if drawn 16 s == 0 then gives row (draws s) else draws s

-- one frame of 16 is lost; of the others that a member is given one of 16 comes once more
unfoldable pub hears : ℕ → ℕ → Soak → Soak
hears n k s =
    if drawn 16 s == 0 then draws s
    else if shows n s then repeats (Rx n k s.moment) (gives (Rx n k s.moment) (draws s))
    else draws s

-- this for so many numbers from the first on, in order
abbrev pub for_each : (ℕ → Soak → Soak) → ℕ → ℕ → Soak → Soak
for_each act first zero s = s
for_each act first (suc more) s = for_each act (suc first) more (act first s)

-- the frames that came since
unfoldable pub hears_all : ℕ → Soak → Soak
hears_all n s = for_each (hears n) (s.heard + 1) (length s.world.frames - s.heard) s

-- frames, so many at the most, until a row is refused
abbrev pub sends : ℕ → ℕ → Soak → Soak
sends n zero s = s
sends n (suc more) s = if is_refused s (Send n) then s else sends n more (takes (Send n) s)

unfoldable pub sends_some : ℕ → Soak → Soak
sends_some n s = if shows n s then sends n 8 s else s

abbrev pub has_turn : Turn → ℕ → Soak → Soak
has_turn Opening n s = opens n s
has_turn Ticking n s = ticks n s
has_turn Hearing n s = hears_all n s
has_turn Sending n s = sends_some n s

-- each of the members 1 to size
unfoldable pub each : Turn → ℕ → Soak → Soak
each turn size s = for_each (has_turn turn) 1 size s

-- ---- a round: 50 ms later

abbrev pub begins : ℕ → Soak → Soak
begins round s = record s { moment = 50 * round }

abbrev pub has_heard : Soak → Soak
has_heard s = record s { heard = length s.world.frames }

unfoldable pub has_round : ℕ → ℕ → Soak → Soak
has_round size round s =
    each Sending size (has_heard (each Hearing size (each Ticking size (asks_in_time round (each Opening size
    (arms_by_chance size (begins round s)))))))

-- ---- from the seed on

abbrev pub members : ℕ → List ℕ
members size = take size (1 ∷ 2 ∷ 3 ∷ 4 ∷ 5 ∷ [])

abbrev pub seeded : Bool → ℕ → ℕ → Soak
seeded told seed size = record {
  world = cluster (members size);
  told = told;
  chance = seed;
  moment = 0;
  heard = 0;
  rows = [];
  stops = 0;
  refused = 0;
}

-- after so many rounds
unfoldable pub soaked : Bool → ℕ → ℕ → ℕ → Soak
soaked told seed rounds size = for_each (has_round size) 1 rounds (seeded told seed size)
