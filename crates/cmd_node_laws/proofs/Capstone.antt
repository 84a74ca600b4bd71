-- A run of `node` in a trace from the beginning.
use Rattle.std.proofs.Common.{◌≡◌, ℕ, ◌<◌, Bool, true, false, List, [], ◌∷◌, ◌++◌, length, take, append_assoc, append-nil, refl, sym, ap, subst, ◌∙◌, arith, Option, Some, inl, inr}
use Rattle.std.specs.Prelude.{◌==◌, slice_index, if◌then◌else◌}
use Rattle.std.proofs.lemmas.Bool.Decides.{eqb_tells}
use Rattle.std.proofs.lemmas.List.{take_all}
use Rattle.disk_model.specs.declared.disk.Disk.{Ghosts}
use Rattle.outside.specs.declared.received.RawFrame.{RawFrame}
use Rattle.outside.specs.declared.received.Received.{Received}
use Rattle.raft_core.specs.StoredPuts.{PutWithOrigin, store_of, stored_puts}
use Rattle.raft_model.specs.Lists.{In}
use Rattle.raft_model.specs.Members.{HasNoneTwice}
use Rattle.bus_rows.specs.declared.row.Row.{Row}
use Rattle.alloc_spec.specs.ClusterMembers.{AreMembers}
use Rattle.bus_spec.specs.Cluster.{Cluster, after_rows, cluster, is_member, rules_of}
use Rattle.bus_spec.specs.Members.{is_running}
use Rattle.cmd_node.specs.Words.{next_words, own_words, word_of}
use Rattle.cmd_node.specs.Opening.{RunInput, opened_at, readings_after}
use Rattle.cmd_node.specs.CutRun.{IsCutAtOpening, IsCutAtTurn, KeepsOrOpens}
use Rattle.cmd_node.specs.Puts.{tick_puts, turn_puts}
use Rattle.cmd_node.specs.Turn.{Running, Turning as Turn}
use Rattle.cmd_node.specs.Turns.{Together, turning_at}
use Rattle.outside.specs.Readings.{next_reading}
use Rattle.outside.specs.Traffic.{next_item}
use Rattle.raft_log.specs.Rules.{StandsForState}
use Rattle.raft_log.specs.Stored.{AfterSome, Put, Stored, after_puts, opening_puts}
use Rattle.alloc_spec.specs.Rules.{Rules, tells}
use Rattle.cmd_node.specs.WholeRun.{LeavesAll, Tell, after_turns}
use Rattle.cmd_node_laws.specs.Traces.{Came, Event, MayAllHappen, MayOpen, Silence, all_rows, rows_of}
use Rattle.cmd_node_laws.specs.Alike.{Alike, AsRead, Likeness, Whole}
use Rattle.cmd_node_laws.specs.Mirrored.{AreCalm, Carries, IsMirrored, raw_by}
use Rattle.cmd_node_laws.specs.Processes.{GoesOn, HasStoredAt, IsWaiting, Point, StandAt, place_of, together_at}
use Rattle.cmd_node_laws.specs.Processes as at_point
use Rattle.cmd_node_laws.specs.Stands.{BeganAlike, IsCutAsInWorld, IsCutOpeningAsInWorld, IsFollowed, IsFoundStopped, IsFoundKilled, IsRunIn, LeavesAsInWorld, MayBeKilled, opening_kill_of, world_after}
use Rattle.cmd_node_laws.proofs.Final.{at_place, same_ids_of, some_found}
use Rattle.cmd_node_laws.proofs.OpeningKilled.{opened_in_part, opening_killed}
use Rattle.cmd_node_laws.proofs.Places.{after_both}
use Rattle.cmd_node_laws.proofs.Running.{ids_of, ids_then}

pub record FollowLaws : Type 0 where
  pub killed : (w : Cluster) (t : Turn) (moment : ℕ) (came : Came) (image : List ℕ) (state : Stored) (likeness : Likeness) → AreCalm w → IsMirrored w t.running
      → Alike likeness (w.member t.running.id).disk.store state → AfterSome (StandsForState image) (stored_puts (turn_puts moment t) state) state
      → Carries w.frames (next_item t.running.coming) came → MayBeKilled w t.running moment came → IsFoundKilled likeness image w t.running moment came
  pub calm : (ids : List ℕ) (trace : List Event) → MayAllHappen trace (cluster ids) → AreCalm (world_after ids trace)
  pub followed : (mine : List ℕ) (given : RunInput) (rules : Rules) (w : Cluster) (trace : List Event) (from to : Point) → HasNoneTwice mine → rules ≡ rules_of w.ids (tells rules) → AreCalm w → place_of from < length mine
      → MayAllHappen trace w → GoesOn rules mine given w trace from to → StandAt rules mine given w from → (i : ℕ) → i < length mine
      → IsFollowed rules mine given w (after_rows w (all_rows trace w)) from to (λ n. raw_by n w (all_rows trace w)) i
  pub stored : (ids : List ℕ) (trace : List Event) (r : Running) → AreMembers ids → MayAllHappen trace (cluster ids) → In r.id ids
      → let w = world_after ids trace in IsMirrored w r → store_of (w.member r.id).disk.store ≡ r.allocator.raft_server.store

-- ---- a trace behind another

rows_both : (first rest : List Event) (w : Cluster) → all_rows (first ++ rest) w ≡ all_rows first w ++ all_rows rest (after_rows w (all_rows first w))
rows_both [] rest w = refl
rows_both (event ∷ first) rest w =
    ap (λ (l : List Row). rows_of event w ++ l) (rows_both first rest v)
    ∙ sym (append_assoc (rows_of event w) (all_rows first v) (all_rows rest (after_rows v (all_rows first v))))
    ∙ ap (λ (u : Cluster). (rows_of event w ++ all_rows first v) ++ all_rows rest u) (sym (after_both w (rows_of event w) (all_rows first v)))
  where
    v : Cluster
    v = after_rows w (rows_of event w)

world_both : (ids : List ℕ) (before during : List Event) → world_after ids (before ++ during) ≡ after_rows (world_after ids before) (all_rows during (world_after ids before))
world_both ids before during = ap (after_rows (cluster ids)) (rows_both before during (cluster ids)) ∙ after_both (cluster ids) (all_rows before (cluster ids)) (all_rows during (world_after ids before))

may_first : (first rest : List Event) (w : Cluster) → MayAllHappen (first ++ rest) w → MayAllHappen first w
may_first [] rest w may = tt
may_first (event ∷ first) rest w may = (may.0, may_first first rest (after_rows w (rows_of event w)) may.1)

may_rest : (first rest : List Event) (w : Cluster) → MayAllHappen (first ++ rest) w → MayAllHappen rest (after_rows w (all_rows first w))
may_rest [] rest w may = may
may_rest (event ∷ first) rest w may =
    subst (MayAllHappen rest) (sym (after_both w (rows_of event w) (all_rows first (after_rows w (rows_of event w))))) (may_rest first rest (after_rows w (rows_of event w)) may.1)

module _ (laws : FollowLaws) (ids mine : List ℕ) (before during : List Event) (rules : Rules) (given : RunInput) (to : Point) (is : IsRunIn ids before during rules mine given to) where
  abbrev w : Cluster
  w = world_after ids before

  abbrev v : Cluster
  v = world_after ids (before ++ during)

  rules_are : rules ≡ rules_of w.ids (tells rules)
  rules_are = is.rules_are ∙ ap (λ (list : List ℕ). rules_of list (tells rules)) (sym (same_ids_of ids (all_rows before (cluster ids))))

  followed : (i : ℕ) → i < length mine → IsFollowed rules mine given w v (at_point.Opening 0) to (λ n. raw_by n w (all_rows during w)) i
  followed i low =
      subst (λ (u : Cluster). IsFollowed rules mine given w u (at_point.Opening 0) to (λ n. raw_by n w (all_rows during w)) i) (sym (world_both ids before during))
      (laws.followed mine given rules w during (at_point.Opening 0) to is.once rules_are (laws.calm ids before (may_first before during (cluster ids) is.may)) (let h : 0 < length mine = omega (arith, is.some) in h)
      (may_rest before during (cluster ids) is.may) is.goes stands i low)
    where
      stands : StandAt rules mine given w (at_point.Opening 0)
      stands i h = (λ e. absurd (omega (arith, e)), λ e. is.waiting i h)

  -- what a member that is in a turn has stored
  pub stored_there : (r : Running) (i : ℕ) → i < length mine → r.id ≡ slice_index mine i → IsMirrored v r → r.allocator.raft_server.store ≡ store_of (v.member (slice_index mine i)).disk.store
  stored_there r i low e mirrored =
      sym (laws.stored ids (before ++ during) r is.members is.may (subst (λ (n : ℕ). In n ids) (sym e) (is.among (slice_index mine i) (at_place mine i low))) mirrored)
      ∙ ap (λ (n : ℕ). store_of (v.member n).disk.store) e

  -- the same, where the process has stored it: of each likeness
  pub alike_there : (likeness : Likeness) (r : Running) (i : ℕ) → i < length mine → r.id ≡ slice_index mine i → IsMirrored v r → store_of r.stored ≡ r.allocator.raft_server.store
      → (HasStoredAt rules mine given w (at_point.Opening 0) i → (v.member (slice_index mine i)).disk.store ≡ r.stored)
      → BeganAlike likeness w mine given i → Alike likeness (v.member (slice_index mine i)).disk.store r.stored
  alike_there AsRead r i low e mirrored same stored began = sym (stored_there r i low e mirrored) ∙ sym same
  alike_there Whole r i low e mirrored same stored began = stored (λ h. absurd (omega (arith, h)), λ h. began)

-- ---- an opening, in which nothing is sent

nothing_more : {A : Type 0} (xs ys : List A) → xs ≡ xs ++ ys → ys ≡ []
nothing_more [] ys e = sym e
nothing_more (x ∷ xs) ys e = nothing_more xs ys (cc (e))

-- ---- a turn in which nothing comes

abbrev in_silence : Turn → Turn
in_silence t = record t { running = record t.running { coming = [] } }

silent_puts : (moment : ℕ) (t : Turn) → turn_puts moment (in_silence t) ≡ tick_puts moment t
unfolding turn_puts
silent_puts moment t = append-nil (tick_puts moment t)

is_listed : (ids : List ℕ) (n : ℕ) → In n ids → is_member ids n ≡ true
is_listed [] n listed = absurd listed
is_listed (id ∷ ids) n (inl e) = elim (eqb_tells id n) [
  | inl same ↦ ap (λ (b : Bool). if b then true else is_member ids n) same.0
  | inr apart ↦ absurd (apart.1 (sym e))
]
is_listed (id ∷ ids) n (inr rest) = either (id == n) (is_listed ids n rest)
  where
    either : (b : Bool) → is_member ids n ≡ true → (if b then true else is_member ids n) ≡ true
    either true e = refl
    either false e = e

module _ (laws : FollowLaws) {L D : Type 0} (coming : L → Option (List Received)) (sent : L → Option (List RawFrame)) (disk : Ghosts D) where
  pub left_as_told : (ids mine : List ℕ) (before during : List Event) (rules : Rules) (turns : ℕ) (given : RunInput) (links : List L) (disks : List (Option D)) (readings : Option (List ℕ))
      → IsRunIn ids before during rules mine given (at_point.Turning turns 0) → LeavesAll coming sent disk links disks readings (length mine) (after_turns rules turns mine given)
      → let w = world_after ids before in LeavesAsInWorld sent disk links disks mine given w (world_after ids (before ++ during)) (all_rows during w)
  left_as_told ids mine before during rules turns given links disks readings is left = record {
    sent_is = λ i link low. left.sent_is i link low ∙ ap (λ (l : List RawFrame). some l) (follow i low).frames;
    stored_is = λ likeness i after low began there. record {
      held = (now i).stored;
      holds = left.stored_is i after low there;
      same = alike_there laws ids mine before during rules given to is likeness (now i) i low (same_id i) (follow i low).stands (left.same i low) (follow i low).stored began;
    };
  }
    where
      to : Point
      to = at_point.Turning turns 0

      now : ℕ → Running
      now i = (after_turns rules turns mine given).running i

      some : List RawFrame → Option (List RawFrame)
      some l = Some l

      follow : (i : ℕ) → i < length mine → IsFollowed rules mine given (world_after ids before) (world_after ids (before ++ during)) (at_point.Opening 0) to (λ n. raw_by n (world_after ids before) (all_rows during (world_after ids before))) i
      follow i low = followed laws ids mine before during rules given to is i low

      same_id : (i : ℕ) → (now i).id ≡ slice_index mine i
      same_id i = ids_of mine given rules turns i

  pub cut_as_told : (ids mine : List ℕ) (before during : List Event) (rules : Rules) (taken place : ℕ) (given : RunInput) (links : List L) (disks : List (Option D)) (readings : Option (List ℕ))
      → place < length mine → IsRunIn ids before during rules mine given (at_point.Turning taken place) → let all = together_at rules mine given taken place in
      IsCutAtTurn coming sent disk links disks readings (length mine) all place
      → let w = world_after ids before in IsCutAsInWorld coming sent disk links disks mine given w (world_after ids (before ++ during)) (all_rows during w) all place
  cut_as_told ids mine before during rules taken place given links disks readings within is left = record {
    sent_is = λ i link low. left.sent_is i link low ∙ ap (λ (l : List RawFrame). some l) (follow i low).frames;
    stored_is = λ likeness i after low began apart there. record { held = (all.running i).stored; holds = left.stored_is i low apart after there; same = alike likeness i low began };
    killed = λ likeness link after image began there leaves. elim (left.own_is link) [
      | inl h ↦ let part = h.1 after there in inl (
        h.0,
        laws.killed v (in_silence t) moment Silence image state likeness calm (record { server = mirrored.server; runs = mirrored.runs; same = mirrored.same }) (alike_here likeness began)
            (subst (λ (puts : List PutWithOrigin). AfterSome (StandsForState image) (stored_puts puts state) state) (sym (silent_puts moment t)) (part.stands image leaves))
            tt (λ puts. (record { member = listed; runs = ap is_running mirrored.runs }, λ still. tt)),
      )
      | inr h ↦ let part = h.1 after there in inr (h.0, λ came carries may. laws.killed v t moment came image state likeness calm mirrored (alike_here likeness began) (part.stands image leaves) carries may)
    ];
  }
    where
      to : Point
      to = at_point.Turning taken place

      all : Together
      all = together_at rules mine given taken place

      v : Cluster
      v = world_after ids (before ++ during)

      some : List RawFrame → Option (List RawFrame)
      some l = Some l

      follow : (i : ℕ) → i < length mine → IsFollowed rules mine given (world_after ids before) v (at_point.Opening 0) to (λ n. raw_by n (world_after ids before) (all_rows during (world_after ids before))) i
      follow i low = followed laws ids mine before during rules given to is i low

      same_id : (i : ℕ) → (all.running i).id ≡ slice_index mine i
      same_id i = ids_then mine given rules taken place i

      alike : (likeness : Likeness) (i : ℕ) → i < length mine → BeganAlike likeness (world_after ids before) mine given i → Alike likeness (v.member (slice_index mine i)).disk.store (all.running i).stored
      alike likeness i low = alike_there laws ids mine before during rules given to is likeness (all.running i) i low (same_id i) (follow i low).stands (left.same i low) (follow i low).stored

      state : Stored
      state = (all.running place).stored

      t : Turn
      t = turning_at place all

      moment : ℕ
      moment = next_reading all.readings

      calm : AreCalm v
      calm = laws.calm ids (before ++ during) is.may

      mirrored : IsMirrored v (all.running place)
      mirrored = (follow place within).stands

      alike_here : (likeness : Likeness) → BeganAlike likeness (world_after ids before) mine given place → Alike likeness (v.member (all.running place).id).disk.store state
      alike_here likeness began = subst (λ (n : ℕ). Alike likeness (v.member n).disk.store state) (sym (same_id place)) (alike likeness place within began)

      listed : is_member v.ids (all.running place).id ≡ true
      listed = ap (λ (l : List ℕ). is_member l (all.running place).id) (same_ids_of ids (all_rows (before ++ during) (cluster ids)))
          ∙ is_listed ids (all.running place).id (subst (λ (n : ℕ). In n ids) (sym (same_id place)) (is.among (slice_index mine place) (at_place mine place within)))

  -- ---- an opening

  module _ (one_state : (image : List ℕ) (a b : Stored) → StandsForState image a → StandsForState image b → a ≡ b)
      (keeps : (state : Stored) (count : ℕ) → store_of (after_puts (take count (opening_puts state)) state) ≡ store_of state) where
    pub opened_as_told : (ids mine : List ℕ) (before during : List Event) (rules : Rules) (given : RunInput) (links_old links : List L) (disks_old disks : List (Option D))
        (readings_old readings : Option (List ℕ)) (id : ℕ) → Tell coming sent disk links_old disks_old readings_old given
        → (cut : IsCutAtOpening disk mine links_old links disks_old disks readings_old readings (KeepsOrOpens disk) id)
        → IsRunIn ids before during rules mine given (at_point.Opening cut.place)
        → let w = world_after ids before in IsCutOpeningAsInWorld disk disks_old disks rules mine given w (world_after ids (before ++ during)) (all_rows during w) cut.place
    opened_as_told ids mine before during rules given links_old links disks_old disks readings_old readings id tell cut is = record {
      silent = λ i low. nothing_more (given.sent i) (raw_by (slice_index mine i) (world_after ids before) (all_rows during (world_after ids before))) (follow i low).frames;
      stored_is = λ likeness i first after low began was there.
          let within : i < length mine = (let more = cut.within in omega (arith, low, more)) in
          record {
            held = (opened_at rules mine given i).stored;
            holds = cut.stored_is i first after (given.stored i) low was there (tell.stored_is i first was);
            same = alike_there laws ids mine before during rules given to is likeness (opened_at rules mine given i) i within refl ((follow i within).stands.0 low)
                (keeps_all (given.stored i)) (λ stored. ((follow i within).stored stored).0 low) began;
          };
      waiting = λ i high low. (follow i low).stands.1 high;
      killed = λ likeness first after image began was there leaves.
          let told = tell.stored_is place first was in
          elim (cut.own_is first after was there told.tells).1 [
            | inl same ↦ inl (same.images image leaves)
            | inr part ↦ inr (in_part likeness image part.0 (began_here likeness began) (one_state (disk.contents first).seen part.0 (given.stored place) part.1 told.stands) (part.2 image leaves))
          ];
    }
      where
        place : ℕ
        place = cut.place

        to : Point
        to = at_point.Opening place

        v : Cluster
        v = world_after ids (before ++ during)

        n : ℕ
        n = slice_index mine place

        follow : (i : ℕ) → i < length mine → IsFollowed rules mine given (world_after ids before) v (at_point.Opening 0) to (λ n. raw_by n (world_after ids before) (all_rows during (world_after ids before))) i
        follow i low = followed laws ids mine before during rules given to is i low

        waits : IsWaiting rules mine given v place
        waits = (follow place cut.within).stands.1 (omega arith)

        may : MayOpen n v
        may = (
          ap (λ (l : List ℕ). is_member l n) (same_ids_of ids (all_rows (before ++ during) (cluster ids))) ∙ is_listed ids n (is.among n (at_place mine place cut.within)),
          ap is_running waits.down,
        )

        keeps_all : (state : Stored) → store_of (after_puts (opening_puts state) state) ≡ store_of state
        keeps_all state = let puts = opening_puts state in
            ap (λ (l : List Put). store_of (after_puts l state)) (sym (take_all (length puts) puts (omega arith))) ∙ keeps state (length puts)

        alike_opened : (likeness : Likeness) (count : ℕ) (a b : Stored) → Alike likeness a b → Alike likeness (opened_in_part count a) (opened_in_part count b)
        alike_opened AsRead count a b e = keeps a count ∙ e ∙ sym (keeps b count)
        alike_opened Whole count a b e = ap (opened_in_part count) e

        -- it has stored by then what it had stored
        began_here : (likeness : Likeness) → BeganAlike likeness (world_after ids before) mine given place → Alike likeness (v.member n).disk.store (given.stored place)
        began_here AsRead began = waits.stored
        began_here Whole began = ((follow place cut.within).stored (λ h. absurd (omega (arith, h)), λ h. began)).1 (omega arith)

        in_part : (likeness : Likeness) (image : List ℕ) (state : Stored) → Alike likeness (v.member n).disk.store (given.stored place) → state ≡ given.stored place
            → AfterSome (StandsForState image) (opening_puts state) state
            → (puts : ℕ) × IsFoundStopped likeness image (after_rows v (rows_of (opening_kill_of rules mine given place puts) v)) n
        in_part likeness image state began same after =
            let found = some_found (StandsForState image) (opening_puts state) state after in
            let ends = opening_killed n (tells rules) (next_reading (readings_after place given.readings)) (word_of (next_words (own_words rules.told n))) found.0 v (laws.calm ids (before ++ during) is.may) may in (
              found.0,
              record {
                down = ends.dead.down;
                found = opened_in_part found.0 state;
                stands = found.1;
                same = subst (λ (stored : Stored). Alike likeness stored (opened_in_part found.0 state)) (sym ends.stored)
                    (alike_opened likeness found.0 (v.member n).disk.store state (subst (Alike likeness (v.member n).disk.store) (sym same) began));
              },
            )
