-- Each row that a soak takes is lawful when its turn is there.
use Rattle.std.proofs.Common.{◌≡◌, ◌+◌, ℕ, zero, suc, Bool, true, false, List, [], ◌∷◌, ◌++◌, refl, ap, ◌∙◌, Option, Some, None}
use Rattle.std.specs.Prelude.{◌==◌, ◌%◌, ◌/◌, ◌-◌, length, is_some, if◌then◌else◌}
use Rattle.bus_rows.specs.declared.row.Row.{Row}
use Rattle.bus_rows.specs.declared.row.Row.TheVariants.{Open, Tick, Rx, Send, Ext}
use Rattle.bus_spec.specs.declared.unlawful.Unlawful.{Unlawful}
use Rattle.bus_spec.specs.Cluster.{Cluster, after_rows, cluster, after_row}
use Rattle.bus_spec.specs.Lawful.{AreLawful, cause}
use Rattle.cmd_soak.specs.Leading.{HasNoFault, IsLed, is_fault}
use Rattle.cmd_soak.specs.Requests.{request}
use Rattle.cmd_soak.specs.Rounds.{Soak, arms, arms_by_chance, asks_in_time, begins, draws, drawn, each, for_each, gives, has_round, has_turn, hears, hears_all, is_refused, members, opens, repeats, seeded, sends, sends_some, shows, soaked, stop, takes, ticks, word}
use Rattle.cmd_soak.specs.declared.turn.Turn.{Turn}
use Rattle.cmd_soak.specs.declared.turn.Turn.TheVariants.{Open as Opening, Tick as Ticking, Hear as Hearing, Send as Sending}

-- ---- one row more

after_more : (w : Cluster) (rows : List Row) (row : Row) → after_rows w (rows ++ row ∷ []) ≡ after_row (after_rows w rows) row
after_more w [] row = refl
after_more w (first ∷ rows) row = after_more (after_row w first) rows row

lawful_more : (w : Cluster) (rows : List Row) (row : Row) → AreLawful w rows → cause (after_rows w rows) row ≡ None → AreLawful w (rows ++ row ∷ [])
lawful_more w [] row each last = (last, tt)
lawful_more w (first ∷ rows) row each last = (each.0, lawful_more (after_row w first) rows row each.1 last)

faultless_more : (rows : List Row) (row : Row) → HasNoFault rows → is_fault row ≡ false → HasNoFault (rows ++ row ∷ [])
faultless_more [] row none last = (last, tt)
faultless_more (first ∷ rows) row none last = (none.0, faultless_more rows row none.1 last)

not_refused : (why : Option Unlawful) → is_some why ≡ false → why ≡ None
not_refused None e = refl
not_refused (Some why) e = absurd (cc (e))

module _ (ids : List ℕ) where
  takes_led : (row : Row) (s : Soak) → is_fault row ≡ false → is_refused s row ≡ false → IsLed ids s → IsLed ids (takes row s)
  unfolding takes
  takes_led row s kind e led =
      let now = led.leads in
      record {
        lawful = lawful_more (cluster ids) s.rows row led.lawful (ap (λ w. cause w row) now ∙ not_refused (cause s.world row) e);
        leads = after_more (cluster ids) s.rows row ∙ ap (λ w. after_row w row) now;
        faultless = faultless_more s.rows row led.faultless kind;
      }

  by_test : (row : Row) (s : Soak) (test : Bool) → is_fault row ≡ false → is_refused s row ≡ test → IsLed ids s →
      IsLed ids (if test then record s { refused = s.refused + 1 } else takes row s)
  by_test row s true kind e led = record { lawful = led.lawful; leads = led.leads; faultless = led.faultless }
  by_test row s false kind e led = takes_led row s kind e led

  gives_led : (row : Row) (s : Soak) → is_fault row ≡ false → IsLed ids s → IsLed ids (gives row s)
  unfolding gives
  gives_led row s kind led = by_test row s (is_refused s row) kind refl led

  -- one way or the other
  either : (test : Bool) (t u : Soak) → IsLed ids t → IsLed ids u → IsLed ids (if test then t else u)
  either true t u p q = p
  either false t u p q = q

  drawn_led : (s : Soak) → IsLed ids s → IsLed ids (draws s)
  drawn_led s led = record { lawful = led.lawful; leads = led.leads; faultless = led.faultless }

  -- ---- parts of a round

  arms_led : (size : ℕ) (s : Soak) → IsLed ids s → IsLed ids (arms size s)
  unfolding arms
  arms_led size s led = gives_led (stop size s) (draws (draws (draws s))) refl (drawn_led (draws (draws s)) (drawn_led (draws s) (drawn_led s led)))

  arms_by_chance_led : (size : ℕ) (s : Soak) → IsLed ids s → IsLed ids (arms_by_chance size s)
  unfolding arms_by_chance
  arms_by_chance_led size s led =
      let drew = drawn_led s led in
      either (drawn 64 s == 0) (arms size (draws s)) (draws s) (arms_led size (draws s) drew) drew

  asks_in_time_led : (round : ℕ) (s : Soak) → IsLed ids s → IsLed ids (asks_in_time round s)
  unfolding asks_in_time
  asks_in_time_led round s led =
      let row = Ext (request (round / 4)) in
      either (round % 4 == 1) (gives row s) s (gives_led row s refl led) led

  opens_led : (n : ℕ) (s : Soak) → IsLed ids s → IsLed ids (opens n s)
  unfolding opens
  opens_led n s led =
      let row = Open n s.told s.moment (word s) in
      either (shows n s) s (gives row (draws s)) led (gives_led row (draws s) refl (drawn_led s led))

  ticks_led : (n : ℕ) (s : Soak) → IsLed ids s → IsLed ids (ticks n s)
  unfolding ticks
  ticks_led n s led =
      let row = Tick n s.moment (word s) in
      either (shows n s) (gives row (draws s)) s (gives_led row (draws s) refl (drawn_led s led)) led

  repeats_led : (row : Row) (s : Soak) → is_fault row ≡ false → IsLed ids s → IsLed ids (repeats row s)
  unfolding repeats
  repeats_led row s kind led =
      let drew = drawn_led s led in
      either (drawn 16 s == 0) (gives row (draws s)) (draws s) (gives_led row (draws s) kind drew) drew

  hears_led : (n k : ℕ) (s : Soak) → IsLed ids s → IsLed ids (hears n k s)
  unfolding hears
  hears_led n k s led =
      let row = Rx n k s.moment in
      let drew = drawn_led s led in
      let given = gives row (draws s) in
      either (drawn 16 s == 0) (draws s) (if shows n s then repeats row given else draws s) drew
      (either (shows n s) (repeats row given) (draws s) (repeats_led row given refl (gives_led row (draws s) refl drew)) drew)

  each_led : (act : ℕ → Soak → Soak) → ((n : ℕ) (s : Soak) → IsLed ids s → IsLed ids (act n s)) → (count first : ℕ) (s : Soak) → IsLed ids s →
      IsLed ids (for_each act first count s)
  each_led act one zero first s led = led
  each_led act one (suc count) first s led = each_led act one count (suc first) (act first s) (one first s led)

  on_by_test : (n more : ℕ) (s : Soak) (test : Bool) → is_refused s (Send n) ≡ test → IsLed ids s →
      (IsLed ids (takes (Send n) s) → IsLed ids (sends n more (takes (Send n) s))) → IsLed ids (if test then s else sends n more (takes (Send n) s))
  on_by_test n more s true e led on = led
  on_by_test n more s false e led on = on (takes_led (Send n) s refl e led)

  sends_led : (n count : ℕ) (s : Soak) → IsLed ids s → IsLed ids (sends n count s)
  sends_led n zero s led = led
  sends_led n (suc count) s led = on_by_test n count s (is_refused s (Send n)) refl led (sends_led n count (takes (Send n) s))

  hears_all_led : (n : ℕ) (s : Soak) → IsLed ids s → IsLed ids (hears_all n s)
  unfolding hears_all
  hears_all_led n s led = each_led (hears n) (hears_led n) (length s.world.frames - s.heard) (s.heard + 1) s led

  sends_some_led : (n : ℕ) (s : Soak) → IsLed ids s → IsLed ids (sends_some n s)
  unfolding sends_some
  sends_some_led n s led = either (shows n s) (sends n 8 s) s (sends_led n 8 s led) led

  turn_led : (turn : Turn) (n : ℕ) (s : Soak) → IsLed ids s → IsLed ids (has_turn turn n s)
  turn_led Opening n s led = opens_led n s led
  turn_led Ticking n s led = ticks_led n s led
  turn_led Hearing n s led = hears_all_led n s led
  turn_led Sending n s led = sends_some_led n s led

  turns_led : (turn : Turn) (size : ℕ) (s : Soak) → IsLed ids s → IsLed ids (each turn size s)
  unfolding each
  turns_led turn size s led = each_led (has_turn turn) (turn_led turn) size 1 s led

  round_led : (size number : ℕ) (s : Soak) → IsLed ids s → IsLed ids (has_round size number s)
  unfolding has_round
  round_led size number s led =
      let begun : IsLed ids (begins number s) = record { lawful = led.lawful; leads = led.leads; faultless = led.faultless } in
      let armed = arms_by_chance_led size (begins number s) begun in
      let opened = turns_led Opening size _ armed in
      let asked = asks_in_time_led number _ opened in
      let ticked = turns_led Ticking size _ asked in
      let heard = turns_led Hearing size _ ticked in
      turns_led Sending size _ (record { lawful = heard.lawful; leads = heard.leads; faultless = heard.faultless })

-- ---- the whole

pub soaked_led : (told : Bool) (seed rounds size : ℕ) → IsLed (members size) (soaked told seed rounds size)
unfolding soaked
soaked_led told seed rounds size =
    each_led (members size) (has_round size) (round_led (members size) size) rounds 1 (seeded told seed size) (record { lawful = tt; leads = refl; faultless = tt })
