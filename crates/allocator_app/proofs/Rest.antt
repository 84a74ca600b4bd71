-- What the loop over the rows that wait comes to.
use Rattle.std.proofs.Common.{◌≡◌, ◌≤◌, ◌<◌, ◌++◌, ℕ, List, [], length, sym, subst, arith}
use Rattle.std.specs.declared.option.Option.{Option}
use Rattle.std.specs.Io.KnownBytes.{Appends, append_known}
use Rattle.outside.specs.declared.pattern.Pattern.{Pattern}
use Rattle.outside.specs.declared.pattern.Pattern.TheVariants.{Old, New, Bytes}
use Rattle.disk_model.specs.Pattern.{IsUsable}
use Rattle.bus_rows.specs.declared.row.Row.{Row}
use Rattle.bus_rows.specs.declared.row.Row.TheVariants.{AOpen, Crash}
use Rattle.replay_text.specs.Schedule.{IsPattern, IsRow}
use Rattle.bus_world.specs.declared.world.World.{World}
use Rattle.bus_world.specs.World.{StandsFor}
use Rattle.bus_spec.specs.Cluster.{Cluster}
use Rattle.allocator_app.specs.Input.{Finds, FindsRow}
use Rattle.allocator_app.specs.declared.input.Next.{Next}
use Rattle.allocator_app.specs.Reaching.{Reaches}
use Rattle.allocator_app.specs.Report.{ReadsKeepingWord}
use Rattle.allocator_app.specs.Rows.{StopsAt, TakesRows}
use Rattle.allocator_app.specs.declared.rows.Rows.{Rows}

-- rows were taken so far, and what they tell was written or waits to be
abbrev pub TakesSome : Cluster → Cluster → List ℕ → List ℕ → Option (List ℕ) → List ℕ → Option (List ℕ) → List ℕ → Type 0
TakesSome first now waiting rest sink output sink_now output_now =
    (lines : List ℕ) × ((more : List ℕ) → ReadsKeepingWord first (waiting ++ more) lines now (rest ++ more))
    × Appends (append_known sink output) (append_known sink_now output_now) lines

-- where they stop, the world being as it is
pub rows_taken : {F G : Type 0} (limit : ℕ) (old here new : World F G) (waiting rest left : List ℕ) (sink : Option (List ℕ)) (output : List ℕ) (sink_now : Option (List ℕ))
    (output_now : List ℕ) (rows : Rows) → new ≡ here → length rest ≤ length waiting → Reaches old here (λ first now. TakesSome first now waiting rest sink output sink_now output_now) →
    ((w : Cluster) → StandsFor here w → StopsAt limit w rest left rows) →
    Reaches old new (λ first now. TakesRows limit first now waiting left sink output sink_now output_now rows)
rows_taken limit old here new waiting rest left sink output sink_now output_now rows same shorter came stops = λ first is.
    let so_far = came first is in (
      so_far.0,
      subst (λ world. StandsFor world so_far.0) (sym same) so_far.1,
      record { lines = so_far.2.0; rest = rest; goes = so_far.2.1; shorter = shorter; stops = stops so_far.0 so_far.1; written = so_far.2.2 },
    )

-- ---- patterns of rows that are read have a byte at least

usable : (pattern : Pattern) → IsPattern pattern → IsUsable pattern
usable Old is = tt
usable New is = tt
usable (Bytes bytes) is = let some = is.filled in omega (arith, some)

in_row : (row : Row) (n calls : ℕ) (pattern : Pattern) → row ≡ Crash n calls pattern → IsRow row → IsUsable pattern
in_row row n calls pattern is fields = usable pattern (subst IsRow is fields).2

pub read_usable : (row : Row) (before behind : List ℕ) → FindsRow row before behind → (n calls : ℕ) (pattern : Pattern) → row ≡ Crash n calls pattern → IsUsable pattern
read_usable row before behind found n calls pattern is = in_row row n calls pattern is (found.begins []).reads.fields

-- ---- node IDs that are preferred in rows that are read are below 128

preferred_in : (row : Row) (a : ℕ) (uid : List ℕ) (pref ms word : ℕ) → row ≡ AOpen a uid pref ms word → IsRow row → pref < 128
preferred_in row a uid pref ms word is fields = (subst IsRow is fields).2

pub read_below : (row : Row) (before behind : List ℕ) → FindsRow row before behind → (a : ℕ) (uid : List ℕ) (pref ms word : ℕ)
    → row ≡ AOpen a uid pref ms word → pref < 128
read_below row before behind found a uid pref ms word is = preferred_in row a uid pref ms word is (found.begins []).reads.fields

-- what stands at the front, by the form that it has
pub found-as : (found form : Next) (before now : List ℕ) → found ≡ form → Finds found before now → Finds form before now
found-as found form before now is finds = subst (λ next. Finds next before now) is finds
