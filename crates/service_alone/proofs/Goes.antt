-- Lawful rows that come one after another.
use Rattle.std.proofs.Common.{◌≡◌, ℕ, suc, ◌+◌, ◌≤◌, List, [], ◌∷◌, ◌++◌, length, length-append, refl, subst, sym, arith, None}
use Rattle.bus_rows.specs.declared.row.Row.{Row}
use Rattle.bus_rows.specs.declared.row.Row.TheVariants.{AEnd, AOpen, ARx, ASend, ATick, Crash, Ext, Fault, Open, Rx, Send, Tick}
use Rattle.bus_spec.specs.Cluster.{Cluster, after_row, after_rows}
use Rattle.bus_spec.specs.Lawful.{AreLawful, cause}
use Rattle.service_alone.specs.Alone.{AreInTime, clock_after}

-- at most so many rows, each lawful when its turn is there, and with the readings of one clock from this moment to that
-- one, lead from this world to one of which this holds
pub record CanGo (w : Cluster) (now last most : ℕ) (Holds : Cluster → Type 0) : Type 0 where
  pub rows : List Row
  pub few : length rows ≤ most
  pub in_time : AreInTime now last rows
  pub lawful : AreLawful w rows
  pub holds : Holds (after_rows w rows)

pub after_both : (w : Cluster) (first rest : List Row) → after_rows w (first ++ rest) ≡ after_rows (after_rows w first) rest
after_both w [] rest = refl
after_both w (row ∷ first) rest = after_both (after_row w row) first rest

lawful_both : (w : Cluster) (first rest : List Row) → AreLawful w first → AreLawful (after_rows w first) rest → AreLawful w (first ++ rest)
lawful_both w [] rest a b = b
lawful_both w (row ∷ first) rest a b = (a.0, lawful_both (after_row w row) first rest a.1 b)

-- a clock that read less before
clock_earlier : (now then_now : ℕ) (row : Row) → now ≤ then_now → then_now ≤ clock_after then_now row
    → (now ≤ clock_after now row) × (clock_after now row ≤ clock_after then_now row)
clock_earlier now then_now (Open n told ms word) less h = (omega (arith, less, h), omega arith)
clock_earlier now then_now (Tick n ms word) less h = (omega (arith, less, h), omega arith)
clock_earlier now then_now (Rx n k ms) less h = (omega (arith, less, h), omega arith)
clock_earlier now then_now (Send n) less h = (omega arith, less)
clock_earlier now then_now (Ext frame) less h = (omega arith, less)
clock_earlier now then_now (Crash n calls pattern) less h = (omega arith, less)
clock_earlier now then_now (Fault n call) less h = (omega arith, less)
clock_earlier now then_now (AOpen a uid pref ms word) less h = (omega (arith, less, h), omega arith)
clock_earlier now then_now (ATick a ms word) less h = (omega (arith, less, h), omega arith)
clock_earlier now then_now (ARx a k ms word) less h = (omega (arith, less, h), omega arith)
clock_earlier now then_now (ASend a) less h = (omega arith, less)
clock_earlier now then_now (AEnd a) less h = (omega arith, less)

earlier : (now then_now last : ℕ) (rows : List Row) → now ≤ then_now → AreInTime then_now last rows → AreInTime now last rows
earlier now then_now last [] less h = omega (arith, less, h)
earlier now then_now last (row ∷ rows) less h =
    let c = clock_earlier now then_now row less h.0 in (c.0, earlier (clock_after now row) (clock_after then_now row) last rows c.1 h.1)

in_time_both : (now mid last : ℕ) (first rest : List Row) → AreInTime now mid first → AreInTime mid last rest → AreInTime now last (first ++ rest)
in_time_both now mid last [] rest a b = earlier now mid last rest a b
in_time_both now mid last (row ∷ first) rest a b = (a.0, in_time_both (clock_after now row) mid last first rest a.1 b)

pub stays : (P : Cluster → Type 0) (w : Cluster) (now : ℕ) → P w → CanGo w now now 0 P
stays P w now h = record { rows = []; few = omega arith; in_time = omega arith; lawful = tt; holds = h }

pub behind_row : (P : Cluster → Type 0) (w : Cluster) (row : Row) (now last count : ℕ) → now ≤ clock_after now row → cause w row ≡ None
    → CanGo (after_row w row) (clock_after now row) last count P → CanGo w now last (suc count) P
behind_row P w row now last count later lawful c =
    let few : length c.rows ≤ count = c.few in
    record { rows = row ∷ c.rows; few = omega (arith, few); in_time = (later, c.in_time); lawful = (lawful, c.lawful); holds = c.holds }

pub one_row : (P : Cluster → Type 0) (w : Cluster) (row : Row) (now : ℕ) → now ≤ clock_after now row → cause w row ≡ None
    → P (after_row w row) → CanGo w now (clock_after now row) 1 P
one_row P w row now later lawful h =
    behind_row P w row now (clock_after now row) 0 later lawful (stays P (after_row w row) (clock_after now row) h)

pub and_then : (P Q : Cluster → Type 0) (w : Cluster) (now mid last first rest : ℕ) → CanGo w now mid first P
    → ((v : Cluster) → P v → CanGo v mid last rest Q) → CanGo w now last (first + rest) Q
and_then P Q w now mid last first rest c goes =
    let d : CanGo (after_rows w c.rows) mid last rest Q = goes (after_rows w c.rows) c.holds in
    let few : length c.rows ≤ first = c.few in
    let more : length d.rows ≤ rest = d.few in
    record {
      rows = c.rows ++ d.rows;
      few = omega (arith, few, more, length-append c.rows d.rows);
      in_time = in_time_both now mid last c.rows d.rows c.in_time d.in_time;
      lawful = lawful_both w c.rows d.rows c.lawful d.lawful;
      holds = subst Q (sym (after_both w c.rows d.rows)) d.holds;
    }

pub at_most : (P : Cluster → Type 0) (w : Cluster) (now last few more : ℕ) → few ≤ more → CanGo w now last few P → CanGo w now last more P
at_most P w now last few more less c =
    let h : length c.rows ≤ few = c.few in
    record { rows = c.rows; few = omega (arith, h, less); in_time = c.in_time; lawful = c.lawful; holds = c.holds }

pub so : (P Q : Cluster → Type 0) (w : Cluster) (now last count : ℕ) → CanGo w now last count P → ((v : Cluster) → P v → Q v)
    → CanGo w now last count Q
so P Q w now last count c f = record { rows = c.rows; few = c.few; in_time = c.in_time; lawful = c.lawful; holds = f (after_rows w c.rows) c.holds }
