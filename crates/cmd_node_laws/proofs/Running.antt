-- A process in a trace is what `cmd_node` says of it.
use Rattle.std.proofs.Common.{◌≡◌, ◌≢◌, ℕ, zero, suc, ◌<◌, ◌≤◌, Bool, true, false, List, [], ◌∷◌, ◌++◌, length, refl, sym, ap, subst, ◌∙◌, arith, append_assoc, append-nil, inl, inr, Option, None, Some}
use Rattle.std.specs.Prelude.{◌==◌, slice_index, take, if◌then◌else◌}
use Rattle.std.proofs.lemmas.Bool.Decides.{eqb_tells}
use Rattle.std.proofs.lemmas.List.{take_all}
use Rattle.outside.specs.declared.received.RawFrame.{RawFrame}
use Rattle.outside.specs.Readings.{next_reading}
use Rattle.outside.specs.Traffic.{items_behind, next_item}
use Rattle.cmd_node.specs.Words.{next_words, own_words, word_of}
use Rattle.raft_core.specs.StoredPuts.{store_of}
use Rattle.raft_log.specs.KeyDisk.{opening_on}
use Rattle.raft_log.specs.Stored.{Put, Stored, after_puts, opening_puts}
use Rattle.raft_model.specs.Lists.{at_here, at_other}
use Rattle.bus_rows.specs.declared.row.Row.TheVariants.{Open}
use Rattle.transfer_rx.specs.Reassembly.{Arrival, Delivery, Setting, answer}
use Rattle.transfer_rx.specs.Reassembly.Answer.{Gives}
use Rattle.transfer_rx.specs.Sessions.{Session}
use Rattle.transfer_rx.specs.Sound.{IsDelivered}
use Rattle.transfer_tx.specs.Queue.{Queued, next_out}
use Rattle.alloc_spec.specs.Step.{Event as StepEvent}
use Rattle.alloc_spec.specs.Rules.{Rules, opening_by, tells}
use Rattle.bus_spec.specs.Cluster.{Cluster, after_rows, is_member, after_row, rules_of}
use Rattle.bus_spec.specs.Members.{Member}
use Rattle.bus_spec.specs.Members.MemberStatus.{Up}
use Rattle.cmd_node.specs.Frames.{event_in}
use Rattle.cmd_node.specs.Opening.{RunInput, together_at_opening, opened_at, readings_after}
use Rattle.cmd_node.specs.Turn.{Running, Turning, turn_after_hearing, turn_after_frame, turn_after_taking, turn_after_tick, turn}
use Rattle.cmd_node.specs.Turns.{Together, all_turns, first_turns, turning_after, turning_at}
use Rattle.cmd_node_laws.specs.Traces.{Came, Event, DiesInTurn, DiesAtOpening, MayAllHappen, MayHappen, OfOthers, Opens, Stops, Turns, all_rows, rows_of}
use Rattle.cmd_node_laws.specs.Mirrored.{AreCalm, Carries, IsMirrored, raw_by}
use Rattle.bus_agreement.proofs.Concatenations.{same_ids}
use Rattle.bus_agreement.proofs.Lists.{never}
use Rattle.bus_rows.specs.declared.row.Row.{Row}
use Rattle.cmd_node_laws.specs.Processes.{ComesNext, GoesOn, HasStoredAt, IsWaiting, OneOf, Point, StandAt, StandsAt, TakesTurn, is_of_these, next_point, place_of, running_at, together_at, whose}
use Rattle.cmd_node_laws.specs.Processes as at_point
use Rattle.cmd_node_laws.specs.Stands.{IsFollowed}
use Rattle.cmd_node_laws.proofs.Calm.{opened_member, opened_store}
use Rattle.cmd_node_laws.proofs.Ending.{event_fine}
use Rattle.cmd_node_laws.proofs.Others.{IsOfAnother, others_send, others_stay}
use Rattle.cmd_node_laws.proofs.Places.{after_both, own_is, sent_both}
use Rattle.cmd_node_laws.proofs.Rows.{Runs, open_world}
use Rattle.cmd_node_laws.proofs.Turning.{MarkLaws, Tells, turn_told}

-- ---- a turn keeps the node ID

taken_id : (o : Option StepEvent) (t : Turning) → (turn_after_taking o t).running.id ≡ t.running.id
taken_id None t = refl
taken_id (Some taken) t = refl

sent_id : (o : Option Queued) (t : Turning) → (turn_after_frame o t).running.id ≡ t.running.id
sent_id None t = refl
sent_id (Some frame) t = refl

turn_id : (moment : ℕ) (t : Turning) → (turn moment t).running.id ≡ t.running.id
unfolding turn
turn_id moment t =
    sent_id (next_out (turn_after_hearing moment (turn_after_tick moment t)).running.allocator.queue) (turn_after_hearing moment (turn_after_tick moment t))
    ∙ taken_id (event_in moment (next_item t.running.coming)) (record (turn_after_tick moment t) { running = record (turn_after_tick moment t).running { coming = items_behind t.running.coming } })

-- ---- node IDs stay

ids_first : (mine : List ℕ) (all : Together) (places : ℕ) → ((i : ℕ) → (all.running i).id ≡ slice_index mine i) → (i : ℕ) → ((first_turns places all).running i).id ≡ slice_index mine i
ids_first mine all zero is i = is i
ids_first mine all (suc places) is i = elim (eqb_tells i places) [
  | inl same ↦ ap (λ (r : Running). r.id) (at_here (first_turns places all).running places i _ same.1) ∙ turn_id (next_reading (first_turns places all).readings) (turning_at places (first_turns places all))
      ∙ ids_first mine all places is places ∙ ap (slice_index mine) (sym same.1)
  | inr apart ↦ ap (λ (r : Running). r.id) (at_other (first_turns places all).running places i _ apart.1) ∙ ids_first mine all places is i
]

pub ids_of : (mine : List ℕ) (given : RunInput) (rules : Rules) (turns i : ℕ) → ((all_turns (length mine) turns (together_at_opening rules mine given)).running i).id ≡ slice_index mine i
ids_of mine given rules zero i = refl
ids_of mine given rules (suc turns) i = ids_first mine (all_turns (length mine) turns (together_at_opening rules mine given)) (length mine) (ids_of mine given rules turns) i

pub ids_then : (mine : List ℕ) (given : RunInput) (rules : Rules) (taken place i : ℕ) → ((together_at rules mine given taken place).running i).id ≡ slice_index mine i
ids_then mine given rules taken place i = ids_first mine (all_turns (length mine) taken (together_at_opening rules mine given)) place (ids_of mine given rules taken) i

-- ---- members

in_list : (mine : List ℕ) (i : ℕ) → i < length mine → is_member mine (slice_index mine i) ≡ true
in_list [] i h = absurd (omega (arith, h))
in_list (id ∷ mine) zero h = elim (eqb_tells id id) [
  | inl same ↦ ap (λ (b : Bool). if b then true else is_member mine id) same.0
  | inr apart ↦ absurd (apart.1 refl)
]
in_list (id ∷ mine) (suc i) h = either (id == slice_index mine i) (in_list mine i (omega (arith, h)))
  where
    either : (b : Bool) → is_member mine (slice_index mine i) ≡ true → (if b then true else is_member mine (slice_index mine i)) ≡ true
    either true e = refl
    either false e = e

-- two places have two node IDs
abbrev pub AreDifferent : List ℕ → Type 0
AreDifferent mine = (i j : ℕ) → i < length mine → j < length mine → slice_index mine i ≡ slice_index mine j → i ≡ j

module _ (marks : MarkLaws)
    (deliveries : (setting : Setting) (sessions : List Session) (arrival : Arrival) (delivery : Delivery) → answer setting sessions arrival ≡ Gives delivery → IsDelivered setting sessions arrival delivery)
    (keeps : (state : Stored) (count : ℕ) → store_of (after_puts (take count (opening_puts state)) state) ≡ store_of state)
    (mine : List ℕ) (given : RunInput) (once : AreDifferent mine) where
  abbrev count : ℕ
  count = length mine

  module _ (rules : Rules) where
    ids_at : (taken place i : ℕ) → ((together_at rules mine given taken place).running i).id ≡ slice_index mine i
    ids_at taken place i = ids_first mine (all_turns count taken (together_at_opening rules mine given)) place (ids_of mine given rules taken) i

    -- ---- what happens at others

    abbrev Stands : Cluster → Point → ℕ → Type 0
    Stands w point i = StandsAt rules mine given w point i

    still_mirrored : (w v : Cluster) (r : Running) → v.member r.id ≡ w.member r.id → IsMirrored w r → IsMirrored v r
    still_mirrored w v r e is = record { server = is.server; runs = ap (λ (x : Member). x.status) e ∙ is.runs; same = is.same }

    still_stands : (w v : Cluster) (point : Point) (i : ℕ) → v.member (slice_index mine i) ≡ w.member (slice_index mine i) → Stands w point i → Stands v point i
    still_stands w v (at_point.Opening place) i e is = (
      λ low. still_mirrored w v (opened_at rules mine given i) e (is.0 low),
      λ high. record { down = ap (λ (x : Member). x.status) e ∙ (is.1 high).down; stored = ap (λ (x : Member). store_of x.disk.store) e ∙ (is.1 high).stored },
    )
    still_stands w v (at_point.Turning taken place) i e is =
        still_mirrored w v ((together_at rules mine given taken place).running i)
        (subst (λ (n : ℕ). v.member n ≡ w.member n) (sym (ids_at taken place i)) e) is

    abbrev HasStored : Cluster → Point → ℕ → Type 0
    HasStored w point i = HasStoredAt rules mine given w point i

    still_stored : (w v : Cluster) (point : Point) (i : ℕ) → v.member (slice_index mine i) ≡ w.member (slice_index mine i) → HasStored w point i → HasStored v point i
    still_stored w v (at_point.Opening place) i e is = (λ low. ap (λ (x : Member). x.disk.store) e ∙ is.0 low, λ high. ap (λ (x : Member). x.disk.store) e ∙ is.1 high)
    still_stored w v (at_point.Turning taken place) i e is = ap (λ (x : Member). x.disk.store) e ∙ is

    abbrev pub Follows : Cluster → Cluster → Point → Point → (ℕ → List RawFrame) → ℕ → Type 0
    Follows w v from to sent i = IsFollowed rules mine given w v from to sent i

    abbrev after : Cluster → Event → Cluster
    after w event = after_rows w (rows_of event w)

    abbrev sent_then : Cluster → Event → ℕ → List RawFrame
    sent_then w event n = raw_by n w (rows_of event w)

    untouched : (w : Cluster) (event : Event) (point : Point) (i : ℕ) → MayHappen event w → IsOfAnother (slice_index mine i) event → Stands w point i
        → Follows w (after w event) point point (sent_then w event) i
    untouched w event point i may apart is = record {
      stands = still_stands w (after w event) point i (others_stay event w (slice_index mine i) may apart) is;
      frames = sym (ap (λ (l : List RawFrame). (running_at rules mine given point i).sent ++ l) (others_send event w (slice_index mine i) may apart)
          ∙ append-nil (running_at rules mine given point i).sent);
      stored = still_stored w (after w event) point i (others_stay event w (slice_index mine i) may apart);
    }

    -- ---- its own

    abbrev Own : Cluster → Event → Point → Type 0
    Own w event from = (i : ℕ) → i < count → Follows w (after w event) from (next_point count from) (sent_then w event) i

    -- the one at a place is opened, and then the others are as they were
    opened_here : (w : Cluster) → AreCalm w → rules ≡ rules_of w.ids (tells rules) → (place moment word : ℕ) → IsWaiting rules mine given w place
        → ((after_row w (Open (slice_index mine place) (tells rules) moment word)).member (slice_index mine place)).status ≡ Up (opening_by (slice_index mine place) rules (store_of (given.stored place)) moment word)
    opened_here w calm by_rules place moment word waits =
        ap (λ (v : Cluster). (v.member id).status) (open_world w id (tells rules) moment word calm)
        ∙ ap (λ (x : Member). x.status) (own_is w id (opened_member id (rules_of w.ids (tells rules)) moment word (w.member id)))
        ∙ (λ i. Up (opening_by id (back i) (stored i) moment word))
      where
        id : ℕ
        id = slice_index mine place

        back : rules_of w.ids (tells rules) ≡ rules
        back = sym by_rules

        disk_puts : List Put
        disk_puts = opening_puts (w.member id).disk.store

        stored : store_of (opening_on (w.member id).disk).store ≡ store_of (given.stored place)
        stored = ap store_of (opened_store (w.member id) (calm id))
            ∙ ap (λ (l : List Put). store_of (after_puts l (w.member id).disk.store)) (sym (take_all (length disk_puts) disk_puts (omega arith)))
            ∙ keeps (w.member id).disk.store (length disk_puts) ∙ waits.stored

    -- and what was stored is stored as an opening makes it
    opened_as : (w : Cluster) → AreCalm w → (place moment word : ℕ) → (w.member (slice_index mine place)).disk.store ≡ given.stored place
        → ((after_row w (Open (slice_index mine place) (tells rules) moment word)).member (slice_index mine place)).disk.store ≡ (opened_at rules mine given place).stored
    opened_as w calm place moment word is =
        ap (λ (v : Cluster). (v.member id).disk.store) (open_world w id (tells rules) moment word calm)
        ∙ ap (λ (x : Member). x.disk.store) (own_is w id (opened_member id (rules_of w.ids (tells rules)) moment word (w.member id)))
        ∙ opened_store (w.member id) (calm id) ∙ ap (λ (state : Stored). after_puts (opening_puts state) state) is
      where
        id : ℕ
        id = slice_index mine place

    -- a point, and the next one by its number
    by_number : (P : Point → Type 0) (a b : Point) (m : ℕ) → (m ≡ count → P a) → ((m ≡ count → ⊥) → P b) → P (if m == count then a else b)
    by_number P a b m f g = elim (eqb_tells m count) [
      | inl same ↦ subst (λ (c : Bool). P (if c then a else b)) (sym same.0) (f same.1)
      | inr apart ↦ subst (λ (c : Bool). P (if c then a else b)) (sym apart.0) (g apart.1)
    ]

    opens_own : (w : Cluster) → AreCalm w → rules ≡ rules_of w.ids (tells rules) → (place : ℕ) → place < count
        → let id = slice_index mine place in let event = Opens id (tells rules) (next_reading (readings_after place given.readings)) (word_of (next_words (own_words rules.told id))) in
        MayHappen event w → StandAt rules mine given w (at_point.Opening place) → Own w event (at_point.Opening place)
    opens_own w calm by_rules place within may all i low =
        by_number (λ (p : Point). Follows w v (at_point.Opening place) p (sent_then w event) i) (at_point.Turning 0 0) (at_point.Opening (suc place)) (suc place)
        (λ e. record { stands = later.0 (omega (arith, e)); frames = sym (append-nil (given.sent i)); stored = λ is. (stored_later is).0 (omega (arith, e)) })
        (λ e. record { stands = later; frames = sym (append-nil (given.sent i)); stored = stored_later })
      where
        id : ℕ
        id = slice_index mine place

        event : Event
        event = Opens id (tells rules) (next_reading (readings_after place given.readings)) (word_of (next_words (own_words rules.told id)))

        v : Cluster
        v = after w event

        here : i ≡ place → IsMirrored v (opened_at rules mine given i)
        here e = subst (λ (j : ℕ). IsMirrored v (opened_at rules mine given j)) (sym e) (record {
          server = (opened_at rules mine given place).allocator;
          runs = opened_here w calm by_rules place (next_reading (readings_after place given.readings)) (word_of (next_words (own_words rules.told id))) ((all place within).1 (omega arith));
          same = refl;
        })

        away : i ≢ place → v.member (slice_index mine i) ≡ w.member (slice_index mine i)
        away apart = others_stay event w (slice_index mine i) may (λ e. apart (once i place low within (cc (e))))

        there : i ≢ place → Stands v (at_point.Opening place) i
        there apart = still_stands w v (at_point.Opening place) i (away apart) (all i low)

        stored_here : i ≡ place → HasStored w (at_point.Opening place) i → (v.member (slice_index mine i)).disk.store ≡ (opened_at rules mine given i).stored
        stored_here e is = subst (λ (j : ℕ). (v.member (slice_index mine j)).disk.store ≡ (opened_at rules mine given j).stored) (sym e)
            (opened_as w calm place (next_reading (readings_after place given.readings)) (word_of (next_words (own_words rules.told id))) ((subst (HasStored w (at_point.Opening place)) e is).1 (omega arith)))

        stored_later : HasStored w (at_point.Opening place) i → HasStored v (at_point.Opening (suc place)) i
        stored_later is = elim (eqb_tells i place) [
          | inl same ↦ (λ h. stored_here same.1 is, λ h. absurd (omega (arith, same.1, h)))
          | inr apart ↦ let still = still_stored w v (at_point.Opening place) i (away apart.1) is in
              (λ h. still.0 (let n : i ≢ place = apart.1 in omega (arith, h)), λ h. still.1 (let n : i ≢ place = apart.1 in omega (arith, h)))
        ]

        later : Stands v (at_point.Opening (suc place)) i
        later = elim (eqb_tells i place) [
          | inl same ↦ (λ h. here same.1, λ h. absurd (omega (arith, same.1, h)))
          | inr apart ↦ (λ h. (there apart.1).0 (let n : i ≢ place = apart.1 in omega (arith, h)), λ h. (there apart.1).1 (omega (arith, h)))
        ]

    turns_own : (w : Cluster) → AreCalm w → (taken place : ℕ) (came : Came) → place < count
        → let id = slice_index mine place in let all = together_at rules mine given taken place in let event = Turns id (next_reading all.readings) (word_of (next_words (all.running place).words)) came in
        MayHappen event w → Carries w.frames (next_item (all.running place).coming) came
        → StandAt rules mine given w (at_point.Turning taken place) → Own w event (at_point.Turning taken place)
    turns_own w calm taken place came within may carries stand i low =
        by_number (λ (p : Point). Follows w v (at_point.Turning taken place) p (sent_then w event) i) (at_point.Turning (suc taken) 0) (at_point.Turning taken (suc place)) (suc place)
        (λ e. let r = subst To (ap (λ (places : ℕ). (first_turns places base).running i) e) later in record { stands = r.0; frames = r.1; stored = r.2 })
        (λ e. record { stands = later.0; frames = later.1; stored = later.2 })
      where
        id : ℕ
        id = slice_index mine place

        base : Together
        base = all_turns count taken (together_at_opening rules mine given)

        all : Together
        all = first_turns place base

        event : Event
        event = Turns id (next_reading all.readings) (word_of (next_words (all.running place).words)) came

        v : Cluster
        v = after w event

        done : Turning
        done = turning_after place all

        To : Running → Type 0
        To r = IsMirrored v r × (r.sent ≡ (all.running i).sent ++ sent_then w event (slice_index mine i))
            × (HasStored w (at_point.Turning taken place) i → (v.member (slice_index mine i)).disk.store ≡ r.stored)

        own : IsMirrored w (all.running place)
        own = stand place within

        runs : Runs id w own.server
        runs = record { member = may.0.member; up = ap (λ (n : ℕ). (w.member n).status) (sym (ids_at taken place place)) ∙ own.runs }

        told : Tells id w (rows_of event w) (all.running place) done.running
        told = turn_told marks deliveries id w (turning_at place all) (next_reading all.readings) came own.server calm runs own.same may.1 carries

        mirrored : IsMirrored v done.running
        mirrored = record {
          server = told.goes.server;
          runs = ap (λ (n : ℕ). (v.member n).status) (turn_id (next_reading all.readings) (turning_at place all) ∙ ids_at taken place place) ∙ told.goes.runs.up;
          same = told.same;
        }

        later : To ((first_turns (suc place) base).running i)
        later = elim (eqb_tells i place) [
          | inl same ↦ subst To (sym (at_here all.running place i done.running same.1)) (
            mirrored,
            told.sent ∙ ap (λ (j : ℕ). (all.running j).sent ++ sent_then w event (slice_index mine j)) (sym same.1),
            subst (λ (j : ℕ). HasStored w (at_point.Turning taken place) j → (v.member (slice_index mine j)).disk.store ≡ done.running.stored) (sym same.1) told.stored,
          )
          | inr apart ↦ subst To (sym (at_other all.running place i done.running apart.1)) (
            still_mirrored w v (all.running i) (subst (λ (n : ℕ). v.member n ≡ w.member n) (sym (ids_at taken place i)) (others_stay event w (slice_index mine i) may (away apart.1))) (stand i low),
            sym (ap (λ (l : List RawFrame). (all.running i).sent ++ l) (others_send event w (slice_index mine i) may (away apart.1)) ∙ append-nil (all.running i).sent),
            λ is. ap (λ (x : Member). x.disk.store) (others_stay event w (slice_index mine i) may (away apart.1)) ∙ is,
          )
        ]
          where
            away : i ≢ place → IsOfAnother (slice_index mine i) event
            away apart e = apart (once i place low within (cc (e)))

    -- ---- whatever comes next

    next_own : (w : Cluster) → AreCalm w → rules ≡ rules_of w.ids (tells rules) → (event : Event) (from : Point) → place_of from < count → MayHappen event w
        → ComesNext rules mine given w event from → StandAt rules mine given w from → Own w event from
    next_own w calm by_rules (Opens n told moment word) (at_point.Opening place) within may after_row stand =
        subst (λ (h : Event). Own w h (at_point.Opening place)) (sym same) (opens_own w calm by_rules place within (subst (λ (h : Event). MayHappen h w) same may) stand)
      where
        word_is : word ≡ word_of (next_words (own_words rules.told (slice_index mine place)))
        word_is = after_row.3 ∙ ap (λ (m : ℕ). word_of (next_words (own_words rules.told m))) after_row.0

        same : Opens n told moment word ≡ Opens (slice_index mine place) (tells rules) (next_reading (readings_after place given.readings)) (word_of (next_words (own_words rules.told (slice_index mine place))))
        same = λ i. Opens (after_row.0 i) (after_row.1 i) (after_row.2 i) (word_is i)
    next_own w calm by_rules (Turns n moment word came) (at_point.Turning taken place) within may after_row stand =
        subst (λ (h : Event). Own w h (at_point.Turning taken place)) (sym same)
        (turns_own w calm taken place came within (subst (λ (h : Event). MayHappen h w) same may) after_row.1.carries stand)
      where
        all : Together
        all = together_at rules mine given taken place

        same : Turns n moment word came ≡ Turns (slice_index mine place) (next_reading all.readings) (word_of (next_words (all.running place).words)) came
        same = λ i. Turns (after_row.0 i) (after_row.1.moment_is i) (after_row.1.word_is i) came
    next_own w calm by_rules (Opens n told moment word) (at_point.Turning taken place) within may after_row stand = absurd after_row
    next_own w calm by_rules (Turns n moment word came) (at_point.Opening place) within may after_row stand = absurd after_row
    next_own w calm by_rules (Stops n) (at_point.Opening place) within may after_row stand = absurd after_row
    next_own w calm by_rules (Stops n) (at_point.Turning taken place) within may after_row stand = absurd after_row
    next_own w calm by_rules (DiesInTurn n moment word came puts) (at_point.Opening place) within may after_row stand = absurd after_row
    next_own w calm by_rules (DiesInTurn n moment word came puts) (at_point.Turning taken place) within may after_row stand = absurd after_row
    next_own w calm by_rules (DiesAtOpening n told moment word puts) (at_point.Opening place) within may after_row stand = absurd after_row
    next_own w calm by_rules (DiesAtOpening n told moment word puts) (at_point.Turning taken place) within may after_row stand = absurd after_row
    next_own w calm by_rules (OfOthers row) (at_point.Opening place) within may after_row stand = absurd after_row
    next_own w calm by_rules (OfOthers row) (at_point.Turning taken place) within may after_row stand = absurd after_row

    not_last : (place : ℕ) → place ≤ count → (place ≡ count → ⊥) → place < count
    not_last place h n = let apart : place ≢ count = n in omega (arith, h)

    next_within : (from : Point) → place_of from < count → place_of (next_point count from) < count
    next_within (at_point.Opening place) h =
        by_number (λ (p : Point). place_of p < count) (at_point.Turning 0 0) (at_point.Opening (suc place)) (suc place) (λ e. omega (arith, h)) (λ e. not_last (suc place) h e)
    next_within (at_point.Turning taken place) h =
        by_number (λ (p : Point). place_of p < count) (at_point.Turning (suc taken) 0) (at_point.Turning taken (suc place)) (suc place) (λ e. omega (arith, h)) (λ e. not_last (suc place) h e)

    rows_keep_ids : (w : Cluster) (rows : List Row) → (after_rows w rows).ids ≡ w.ids
    rows_keep_ids w [] = refl
    rows_keep_ids w (row ∷ rows) = rows_keep_ids (after_row w row) rows ∙ same_ids w row

    joined : (w v u : Cluster) (from mid to : Point) (first rest : ℕ → List RawFrame) (i : ℕ) → Follows w v from mid first i → Follows v u mid to rest i
        → Follows w u from to (λ n. first n ++ rest n) i
    joined w v u from mid to first rest i a b = record {
      stands = b.stands;
      frames = b.frames ∙ ap (λ (l : List RawFrame). l ++ rest (slice_index mine i)) a.frames ∙ append_assoc (running_at rules mine given from i).sent (first (slice_index mine i)) (rest (slice_index mine i));
      stored = λ is. b.stored (a.stored is);
    }

    pub goes_on : (trace : List Event) (w : Cluster) (from to : Point) → AreCalm w → rules ≡ rules_of w.ids (tells rules) → place_of from < count → MayAllHappen trace w
        → GoesOn rules mine given w trace from to → StandAt rules mine given w from
        → (i : ℕ) → i < count → Follows w (after_rows w (all_rows trace w)) from to (λ n. raw_by n w (all_rows trace w)) i
    goes_on [] w from to calm by_rules within may goes stand i low =
        subst (λ (p : Point). Follows w w from p (λ n. []) i) goes (record { stands = stand i low; frames = sym (append-nil (running_at rules mine given from i).sent); stored = λ is. is })
    goes_on (first ∷ rest) w from to calm by_rules within may goes stand i low =
        by (is_of_these mine (whose first)) refl goes (λ p lies g all. goes_on rest v p to calm_then rules_then lies may.1 g all i low)
      where
        v : Cluster
        v = after w first

        rows : List Row
        rows = rows_of first w

        more : List Row
        more = all_rows rest v

        whole : (mid : Point) → Follows w v from mid (sent_then w first) i → Follows v (after_rows v more) mid to (λ n. raw_by n v more) i
            → Follows w (after_rows w (rows ++ more)) from to (λ n. raw_by n w (rows ++ more)) i
        whole mid a b =
            let j = joined w v (after_rows v more) from mid to (sent_then w first) (λ n. raw_by n v more) i a b in
            record {
              stands = subst (λ (u : Cluster). Stands u to i) (sym (after_both w rows more)) j.stands;
              frames = j.frames ∙ ap (λ (l : List RawFrame). (running_at rules mine given from i).sent ++ l) (sym (sent_both (slice_index mine i) w rows more));
              stored = λ is. subst (λ (u : Cluster). HasStored u to i) (sym (after_both w rows more)) (j.stored is);
            }

        calm_then : AreCalm v
        calm_then = (event_fine deliveries first w calm may.0).calm

        rules_then : rules ≡ rules_of v.ids (tells rules)
        rules_then = by_rules ∙ ap (λ (ids : List ℕ). rules_of ids (tells rules)) (sym (rows_keep_ids w rows))

        by : (b : Bool) → is_of_these mine (whose first) ≡ b
            → OneOf b (ComesNext rules mine given w first from × GoesOn rules mine given v rest (next_point count from) to) (GoesOn rules mine given v rest from to)
            → ((p : Point) → place_of p < count → GoesOn rules mine given v rest p to → StandAt rules mine given v p → Follows v (after_rows v more) p to (λ n. raw_by n v more) i)
            → Follows w (after_rows w (rows ++ more)) from to (λ n. raw_by n w (rows ++ more)) i
        by true e is then_on =
            let own : Own w first from = next_own w calm by_rules first from within may.0 is.0 stand in
            whole (next_point count from) (own i low) (then_on (next_point count from) (next_within from within) is.1 (λ j h. (own j h).stands))
        by false e is then_on =
            let away : (j : ℕ) → j < count → IsOfAnother (slice_index mine j) first = λ j h same. never (sym e ∙ ap (is_of_these mine) (sym same) ∙ in_list mine j h) in
            let kept : (j : ℕ) → j < count → Follows w v from from (sent_then w first) j = λ j h. untouched w first from j may.0 (away j h) (stand j h) in
            whole from (kept i low) (then_on from within is (λ j h. (kept j h).stands))
