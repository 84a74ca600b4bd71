-- What may happen in a trace of processes, where it is left to the bus that nothing is torn and nothing is stale.
use Rattle.std.specs.Prelude.{⊤, ◌≡◌, ℕ, ◌+◌, ◌*◌, true, false, List, [], ◌∷◌, Some, None}
use Rattle.can_frame.specs.Identifier.{identifier_of}
use Rattle.outside.specs.declared.pattern.Pattern.TheVariants.{Old}
use Rattle.bus_rows.specs.declared.row.Row.TheVariants.{Crash, Tick}
use Rattle.bus_spec.specs.declared.unlawful.Unlawful.{Unlawful}
use Rattle.bus_spec.specs.Cluster.{Cluster, after_row, after_rows, cluster}
use Rattle.bus_spec.specs.Lawful.{cause, is_forged, no_such_frame}
use Rattle.bus_spec.specs.Members.{is_running}
use Rattle.cmd_node_laws.specs.Traces.{Came, Event, FromElsewhere, DiesInTurn, DiesAtOpening, MayOpen, MayTurn}
use Rattle.cmd_node_laws.specs.Traces.{OfOthers, Opens, Silence, Stops, Turns, WasSent, all_rows, is_of_others}
use Rattle.cmd_node_laws.specs.Traces.{rows_of}
use Rattle.bus_physics.specs.Schedule.{is_of_bus}

-- of a frame of the bus: that it was sent, and no more
abbrev pub MayCome : Came → Cluster → Type 0
MayCome Silence w = ⊤
MayCome (WasSent k) w = no_such_frame w k ≡ None
MayCome (FromElsewhere frame) w = is_forged w.ids (identifier_of frame.id) ≡ false

abbrev pub MayDo : Event → Cluster → Type 0
MayDo (Opens n told moment word) w = MayOpen n w
MayDo (DiesAtOpening n told moment word puts) w = MayOpen n w
MayDo (Turns n moment word came) w = MayTurn n w × MayCome came (after_row w (Tick n moment word))
MayDo (Stops n) w = MayTurn n w
MayDo (DiesInTurn n moment word came puts) w =
    let ticked : Cluster = after_rows w (Crash n (4 * puts + 1) Old ∷ Tick n moment word ∷ []) in
    MayTurn n w × (is_running (ticked.member n).status ≡ true → MayCome came ticked)
MayDo (OfOthers row) w =
    (is_of_others row ≡ true) × ((why : Unlawful) → cause w row ≡ Some why → is_of_bus why ≡ true)

abbrev pub MayAllDo : List Event → Cluster → Type 0
MayAllDo [] w = ⊤
MayAllDo (first ∷ rest) w = MayDo first w × MayAllDo rest (after_rows w (rows_of first w))

-- the world after these events
abbrev pub after_events : List ℕ → List Event → Cluster
after_events ids trace = after_rows (cluster ids) (all_rows trace (cluster ids))
