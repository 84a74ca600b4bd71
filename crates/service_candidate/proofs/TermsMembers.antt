-- What holds of each member of a group on a calm bus, row by row.
use Rattle.std.proofs.Common.{◌≡◌, ℕ, ◌+◌, ◌≤◌, List, [], ◌∷◌, ◌++◌, refl, sym, ◌∙◌, ap, subst, inl, inr}
use Rattle.std.proofs.lemmas.Bool.Decides.{eqb_tells}
use Rattle.raft_model.specs.Lists.{In, at, at_here, at_other}
use Rattle.bus_rows.specs.declared.row.Row.{Row}
use Rattle.bus_rows.specs.declared.row.Row.TheVariants.{AEnd, AOpen, ARx, ASend, ATick, Crash, Ext, Fault, Open, Rx, Send, Tick}
use Rattle.alloc_spec.specs.AllocatorState.{AllocatorState}
use Rattle.alloc_spec.specs.Step.{Event, after_pop, step}
use Rattle.bus_rows.specs.Timed.{Timed, rows_in}
use Rattle.service_alone.specs.Calm.{IsNext, Pace}
use Rattle.service_alone.proofs.Members.{IsUp, steps_up}
use Rattle.service_calm.specs.Calm.{AreCalm, IsCalmRow, Member as OfMember, Party, Traffic, traffic_after}
use Rattle.service_calm.proofs.CallsKept.{RunsWith}
use Rattle.service_calm.proofs.Group.{AreWell, CalmLaws, well_after}
use Rattle.service_leader.proofs.LeadsOnWays.{AreOfGroup, of_group_after}
use Rattle.bus_spec.specs.Cluster.{Cluster, after_row, after_rows, cluster, receipt_of, tick_of, world_of}
use Rattle.bus_spec.specs.Lawful.{DoNoHarm, DoesNoHarm}
use Rattle.bus_spec.specs.Members.{Member, after_sending, member_after_step}
use Rattle.bus_spec.specs.Members.MemberStatus.{Up}

-- one server runs
pub one_server : (x y : AllocatorState) → Up x ≡ Up y → x ≡ y
one_server x y e = cc (e)

-- the server behind a step
pub up_then : (w : Cluster) (p number : ℕ) (event : Event) (t : AllocatorState) → IsUp t (w.member p)
    → (at w.member p (member_after_step number event (w.member p).status (w.member p)) p).status ≡ Up (step t number event).step_state.allocator
up_then w p number event t up =
    ap (λ (x : Member). x.status) (at_here w.member p p (member_after_step number event (w.member p).status (w.member p)) refl)
    ∙ (steps_up number event t (w.member p) up).status

module _ (group : List Party) (Holds : ℕ → AllocatorState → Type 0) where
  -- each member of the group runs, and it holds of its server
  abbrev pub AllHold : Cluster → Type 0
  AllHold w = (m : ℕ) → In (OfMember m) group → RunsWith (Holds m) (w.member m)

  -- so it holds of the server that runs
  pub it_holds : (w : Cluster) → AllHold w → (m : ℕ) → In (OfMember m) group → (t : AllocatorState) → (w.member m).status ≡ Up t → Holds m t
  it_holds w all m i t runs = let is = all m i in subst (Holds m) (one_server is.server t (sym is.up.status ∙ runs)) is.holds

  -- where members run of which it holds
  pub all_hold : (w : Cluster) → AreWell group w → ((m : ℕ) → In (OfMember m) group → (t : AllocatorState) → (w.member m).status ≡ Up t → Holds m t) → AllHold w
  all_hold w are each m i = let is = are.members m i in record { server = is.server; up = is.up; holds = each m i is.server is.up.status }

  -- where one member is changed
  all_with : (w : Cluster) (p : ℕ) (x : Member) → AllHold w → (In (OfMember p) group → RunsWith (Holds p) x) → (m : ℕ) → In (OfMember m) group
      → RunsWith (Holds m) (at w.member p x m)
  all_with w p x all is m i = elim (eqb_tells m p) [
    | inl z ↦ subst (RunsWith (Holds m)) (sym (at_here w.member p m x z.1))
        (subst (λ (k : ℕ). RunsWith (Holds k) x) (sym z.1) (is (subst (λ (k : ℕ). In (OfMember k) group) z.1 i)))
    | inr z ↦ subst (RunsWith (Holds m)) (sym (at_other w.member p m x z.1)) (all m i)
  ]

  -- by a step
  stepped : (m number : ℕ) (event : Event) (x : Member) → (is : RunsWith (Holds m) x) → Holds m (step is.server number event).step_state.allocator
      → RunsWith (Holds m) (member_after_step number event x.status x)
  stepped m number event x is then_ = record {
    server = (step is.server number event).step_state.allocator;
    up = steps_up number event is.server x is.up;
    holds = then_;
  }

  -- by a frame that goes out
  sent : (m : ℕ) (x : Member) → ((t : AllocatorState) → Holds m t → Holds m (after_pop t)) → RunsWith (Holds m) x
      → RunsWith (Holds m) (record x { status = after_sending x.status })
  sent m x popped is = record {
    server = after_pop is.server;
    up = record { status = ap after_sending is.up.status; quiet = is.up.quiet };
    holds = popped is.server is.holds;
  }

  -- what each tick keeps in this row
  abbrev pub KeptByTicks : Cluster → Row → Type 0
  KeptByTicks w row = (p ms word : ℕ) → row ≡ Tick p ms word → In (OfMember p) group → (t : AllocatorState) → IsUp t (w.member p) → Holds p t
      → Holds p (step t (w.rows + 1) (tick_of ms word)).step_state.allocator

  -- and what each frame keeps that comes to a member next
  abbrev pub KeptByFrames : Traffic → Cluster → Row → Type 0
  KeptByFrames traffic w row = (p k ms : ℕ) → row ≡ Rx p k ms → In (OfMember p) group → IsNext k (traffic.to (OfMember p)) → (t : AllocatorState)
      → IsUp t (w.member p) → Holds p t → Holds p (step t (w.rows + 1) (receipt_of w k ms)).step_state.allocator

  -- a calm row leaves it so
  pub all_after : (clocks : Party → ℕ) (pace : Pace) (traffic : Traffic) (w : Cluster) (moment : ℕ) (row : Row)
      → IsCalmRow group clocks pace traffic w moment row → ((m : ℕ) (t : AllocatorState) → Holds m t → Holds m (after_pop t)) → KeptByTicks w row
      → KeptByFrames traffic w row → AllHold w → AllHold (after_row w row)
  all_after clocks pace traffic w moment (Tick p ms word) calm popped ticks frames all =
      all_with w p (member_after_step (w.rows + 1) (tick_of ms word) (w.member p).status (w.member p)) all (λ i.
      let is = all p i in stepped p (w.rows + 1) (tick_of ms word) (w.member p) is (ticks p ms word refl i is.server is.up is.holds))
  all_after clocks pace traffic w moment (Rx p k ms) calm popped ticks frames all =
      all_with w p (member_after_step (w.rows + 1) (receipt_of w k ms) (w.member p).status (w.member p)) all (λ i.
      let is = all p i in stepped p (w.rows + 1) (receipt_of w k ms) (w.member p) is (frames p k ms refl i calm.2 is.server is.up is.holds))
  all_after clocks pace traffic w moment (Send p) calm popped ticks frames all =
      all_with w p (record (w.member p) { status = after_sending (w.member p).status }) all (λ i. sent p (w.member p) (popped p) (all p i))
  all_after clocks pace traffic w moment (ATick a ms word) calm popped ticks frames all = all
  all_after clocks pace traffic w moment (ARx a k ms word) calm popped ticks frames all = all
  all_after clocks pace traffic w moment (ASend a) calm popped ticks frames all = all
  all_after clocks pace traffic w moment (Open p told ms word) calm popped ticks frames all = absurd calm
  all_after clocks pace traffic w moment (Ext frame) calm popped ticks frames all = absurd calm
  all_after clocks pace traffic w moment (Crash p calls pattern) calm popped ticks frames all = absurd calm
  all_after clocks pace traffic w moment (Fault p call) calm popped ticks frames all = absurd calm
  all_after clocks pace traffic w moment (AOpen a uid pref ms word) calm popped ticks frames all = absurd calm
  all_after clocks pace traffic w moment (AEnd a) calm popped ticks frames all = absurd calm

-- ---- the rest of a calm

module _ (laws : CalmLaws) (group : List Party) (nodes : (p : ℕ) → In (OfMember p) group → (1 ≤ p) × (p ≤ 125)) (clocks : Party → ℕ) (pace : Pace)
    (ids : List ℕ) (grown : (rows : List Row) (row : Row) → world_of ids (rows ++ row ∷ []) ≡ after_row (world_of ids rows) row)
    (grown_harmless : (rows : List Row) (row : Row) → DoNoHarm (cluster ids) rows → DoesNoHarm (world_of ids rows) row → DoNoHarm (cluster ids)
    (rows ++ row ∷ [])) where
  -- Rows that do no harm lead to this world, in which the members of the group run; and what is on its way is of the
  -- group.
  pub record GoesOn (w : Cluster) (whole : List Timed) : Type 0 where
    pub rows : List Row
    pub reached : world_of ids rows ≡ w
    pub harmless : DoNoHarm (cluster ids) rows
    pub traffic : Traffic
    pub calm : AreCalm group clocks pace traffic w whole
    pub well : AreWell group w
    pub flies : (party : Party) → AreOfGroup group w.frames (traffic.to party)

  -- behind one row that does no harm
  pub one_on : (timed : Timed) (rest : List Timed) (w : Cluster) → GoesOn w (timed ∷ rest) → DoesNoHarm w timed.row → GoesOn (after_row w timed.row) rest
  one_on timed rest w goes harm = record {
    rows = goes.rows ++ timed.row ∷ [];
    reached = grown goes.rows timed.row ∙ ap (λ (v : Cluster). after_row v timed.row) goes.reached;
    harmless = grown_harmless goes.rows timed.row goes.harmless (subst (λ (v : Cluster). DoesNoHarm v timed.row) (sym goes.reached) harm);
    traffic = traffic_after goes.traffic w timed;
    calm = goes.calm.2;
    well = well_after laws group nodes w goes.well clocks pace goes.traffic timed.at timed.row goes.calm.1;
    flies = λ party. of_group_after group laws nodes clocks pace goes.traffic w goes.well goes.flies timed.at timed.row goes.calm.1 party;
  }

  -- and behind all rows in front, where these and some more do none
  pub further : (front rest more : List Timed) (w : Cluster) → GoesOn w (front ++ rest) → DoNoHarm w (rows_in (front ++ more))
      → GoesOn (after_rows w (rows_in front)) rest × DoNoHarm (after_rows w (rows_in front)) (rows_in more)
  further [] rest more w goes harm = (goes, harm)
  further (timed ∷ front) rest more w goes harm = further front rest more (after_row w timed.row) (one_on timed (front ++ rest) w goes harm.0) harm.1
