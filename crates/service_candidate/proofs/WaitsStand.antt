-- Who waits stands for election in time, in a calm: at the first tick when its wait is over.
use Rattle.std.proofs.Common.{◌≡◌, ◌≢◌, ℕ, ◌+◌, ◌-◌, ◌<◌, ◌≤◌, arith, Bool, true, false, List, [], ◌∷◌, length, max, refl, sym, ◌∙◌, ap, subst, inl, inr}
use Rattle.std.specs.Prelude.{◌⊎◌, ◌==◌, ◌&&◌, nat_eq, nat_le, nat_lt, not, if◌then◌else◌}
use Rattle.std.proofs.lemmas.Bool.Decides.{eqb_tells, leb_tells}
use Rattle.raft_core.specs.Times.{has_waited, wait}
use Rattle.raft_model.specs.Lists.{In, at, at_here, at_other}
use Rattle.raft_model.specs.Moves.Elections.{is_leader, term_limit}
use Rattle.raft_model.specs.Server.{Role}
use Rattle.raft_model.specs.Server.Role.{Candidate, Follower, Leader}
use Rattle.bus_rows.specs.declared.row.Row.{Row}
use Rattle.bus_rows.specs.declared.row.Row.TheVariants.{AEnd, AOpen, ARx, ASend, ATick, Crash, Ext, Fault, Open, Rx, Send, Tick}
use Rattle.alloc_spec.specs.AllocatorState.{AllocatorState, knows_all, members_of}
use Rattle.alloc_spec.specs.Step.{Event, after_pop, step}
use Rattle.alloc_spec_laws.proofs.Choices.{either, lt_tells}
use Rattle.bus_rows.specs.Timed.{Timed}
use Rattle.service_alone.specs.Calm.{Pace, end_of}
use Rattle.service_alone.proofs.Members.{IsUp, steps_up}
use Rattle.service_calm.specs.Calm.{AreCalm, IsCalmRow, Member as OfMember, Party, Traffic, reads, traffic_after}
use Rattle.service_calm.specs.Comes.{Throughout}
use Rattle.service_leader.specs.CallsComeBack.{LeadsNotIfUp}
use Rattle.service_candidate.specs.Votes.{Stands}
use Rattle.service_candidate.specs.Waits.{HasTermLeft, StandsBy, WaitsAnew}
use Rattle.service_candidate.proofs.WaitsFrames.{frame_leaves}
use Rattle.service_candidate.proofs.WaitsRows.{is_candidate_then, knows_then}
use Rattle.service_candidate.proofs.WaitsTicks.{stands_at, tick_leaves}
use Rattle.bus_spec.specs.Cluster.{Cluster, after_row, arrival_at, frame_at, receipt_of, tick_of}
use Rattle.bus_spec.specs.Members.{Member, after_sending, member_after_step}

-- The server waits still: its wait began then, with this word. It knows all members, which are so many, and does not
-- lead.
pub record WaitsStill (size since word : ℕ) (t : AllocatorState) : Type 0 where
  pub size_is : t.size ≡ size
  pub knows : knows_all t ≡ true
  pub since_is : t.times.since ≡ since
  pub word_is : t.times.word ≡ word
  pub role : t.raft_server.memory.role ≢ Leader

leads_or_not : (role : Role) → (role ≡ Leader) ⊎ (role ≢ Leader)
leads_or_not Follower = inr (λ e. cc e)
leads_or_not Candidate = inr (λ e. cc e)
leads_or_not Leader = inl refl

no_leader : (role : Role) → role ≢ Leader → is_leader role ≡ false
no_leader Follower n = refl
no_leader Candidate n = refl
no_leader Leader n = absurd (n refl)

-- who stood is no candidate's tick
no_tick : (m k f ms moment word : ℕ) → Rx k f ms ≡ Tick m moment word → ⊥
no_tick m k f ms moment word e = cc e

all_true : (a b c d : Bool) → a ≡ true → b ≡ true → c ≡ true → d ≡ true → ((a && b) && (c && d)) ≡ true
all_true true true true true ea eb ec ed = refl
all_true false b c d ea eb ec ed = absurd (cc (ea))
all_true true false c d ea eb ec ed = absurd (cc (eb))
all_true true true false d ea eb ec ed = absurd (cc (ec))
all_true true true true false ea eb ec ed = absurd (cc (ed))

-- a wait that is over at a moment
is_over : (since word moment : ℕ) → since + wait word ≤ moment → nat_le (wait word) (moment - since) ≡ true
is_over since word moment h = elim (leb_tells (wait word) (moment - since)) [
  | inl z ↦ z.0
  | inr z ↦ absurd (omega (arith, z.1, h))
]

-- who waits still stands at a tick when its wait is over
pub stands_now : (t : AllocatorState) (size since word moment : ℕ) → WaitsStill size since word t → t.raft_server.store.term < term_limit
    → since + wait word ≤ moment → stands_at t moment ≡ true
stands_now t size since word moment waits low over =
    all_true (knows_all t) (has_waited t.times moment) (not (is_leader t.raft_server.memory.role)) (nat_lt t.raft_server.store.term term_limit)
    waits.knows ((λ i. nat_le (wait (waits.word_is i)) (moment - waits.since_is i)) ∙ is_over since word moment over)
    (ap not (no_leader t.raft_server.memory.role waits.role)) (elim (lt_tells t.raft_server.store.term term_limit) [
      | inl z ↦ z.0
      | inr z ↦ absurd (omega (arith, z.1, low))
    ])

module _ (complete : (t : AllocatorState) (number : ℕ) (event : Event) → knows_all t ≡ true → members_of (step t number event).step_state.allocator ≡ members_of t)
    (keeps_size : (t : AllocatorState) (number : ℕ) (event : Event) → (step t number event).step_state.allocator.size ≡ t.size)
    (m size since word : ℕ) (many : 2 ≤ size) where
  -- the member runs, and waits so
  pub record Goes (x : Member) : Type 0 where
    pub server : AllocatorState
    pub up : IsUp server x
    pub waits : WaitsStill size since word server

  -- it waits on through a step that leaves its wait, and does not make it a leader
  goes_on : (t : AllocatorState) (number : ℕ) (event : Event) → WaitsStill size since word t → let after = (step t number event).step_state.allocator in
      after.times.since ≡ t.times.since → after.times.word ≡ t.times.word → after.raft_server.memory.role ≢ Leader → WaitsStill size since word after
  goes_on t number event waits same_since same_word role = record {
    size_is = keeps_size t number event ∙ waits.size_is;
    knows = (λ i. nat_eq (length (complete t number event waits.knows i)) (keeps_size t number event i)) ∙ waits.knows;
    since_is = same_since ∙ waits.since_is;
    word_is = same_word ∙ waits.word_is;
    role = role;
  }

  module _ (group : List Party) (clocks : Party → ℕ) (pace : Pace) (due : ℕ) (over : since + wait word ≤ due + clocks (OfMember m)) where
    -- what a row leaves: it stood, or its wait began anew, or it leads, or waits on; and it has not read its clock since
    abbrev Later : Cluster → ℕ → ℕ → Row → Type 0
    Later w moved ticked row = (((term : ℕ) × Stands m term w row) ⊎ WaitsAnew m w row)
        ⊎ (((LeadsNotIfUp m (after_row w row) → ⊥) ⊎ Goes ((after_row w row).member m)) × ((if reads row (OfMember m) then moved else ticked) ≤ due))

    -- a row that is a step leaves the server of the step
    its_step : (w : Cluster) (row : Row) (event : Event) (t : AllocatorState) → IsUp t (w.member m)
        → (after_row w row).member m ≡ member_after_step (w.rows + 1) event (w.member m).status (w.member m)
        → IsUp (step t (w.rows + 1) event).step_state.allocator ((after_row w row).member m)
    its_step w row event t up same =
        subst (IsUp (step t (w.rows + 1) event).step_state.allocator) (sym same) (steps_up (w.rows + 1) event t (w.member m) up)

    at_tick : (w : Cluster) (moved ms random : ℕ) → ms ≡ moved + clocks (OfMember m) → (goes : Goes (w.member m)) → HasTermLeft m w
        → IsUp (step goes.server (w.rows + 1) (tick_of ms random)).step_state.allocator ((after_row w (Tick m ms random)).member m)
        → ((term : ℕ) × Stands m term w (Tick m ms random)) ⊎ (Goes ((after_row w (Tick m ms random)).member m) × (moved ≤ due))
    at_tick w moved ms random reading goes low up = elim (tick_leaves goes.server (w.rows + 1) ms random) [
      | inl same ↦ inr (
        record {
          server = (step goes.server (w.rows + 1) (tick_of ms random)).step_state.allocator;
          up = up;
          waits = goes_on goes.server (w.rows + 1) (tick_of ms random) goes.waits same.1 same.2 (λ leads. goes.waits.role (sym same.4 ∙ leads));
        },
        elim (leb_tells due moved) [
          | inl z ↦ absurd (cc (
            same.0,
            stands_now goes.server size since word (max goes.server.now ms) goes.waits (low goes.server goes.up.status)
                (let late = z.1 in omega (arith, over, late, reading)),
          ))
          | inr z ↦ let early = z.1 in omega (arith, early)
        ],
      )
      | inr stood ↦ inl (
        goes.server.raft_server.store.term + 1,
        record {
          ms = ms;
          word = random;
          reads = refl;
          before = goes.server;
          runs = goes.up.status;
          next = refl;
          after = (step goes.server (w.rows + 1) (tick_of ms random)).step_state.allocator;
          runs_then = up.status;
          stands = stood.3 ∙ is_candidate_then goes.server (knows_then goes.server (max goes.server.now ms) stood.0)
              (let its_size = goes.waits.size_is in omega (arith, its_size, many));
          its_term = stood.2;
        },
      )
    ]

    at_frame : (w : Cluster) (f ms : ℕ) → (goes : Goes (w.member m))
        → IsUp (step goes.server (w.rows + 1) (receipt_of w f ms)).step_state.allocator ((after_row w (Rx m f ms)).member m)
        → WaitsAnew m w (Rx m f ms) ⊎ ((LeadsNotIfUp m (after_row w (Rx m f ms)) → ⊥) ⊎ Goes ((after_row w (Rx m f ms)).member m))
    at_frame w f ms goes up = elim (leads_or_not after.raft_server.memory.role) [
      | inl leads ↦ inr (inl (λ none. none after up.status leads))
      | inr role ↦ elim (eqb_tells after.times.since goes.server.times.since) [
        | inl z ↦ inr (inr (record { server = after; up = up; waits = goes_on goes.server (w.rows + 1) (receipt_of w f ms) goes.waits z.1 (frame_leaves goes.server (w.rows + 1) (arrival_at (frame_at w.frames f) ms)).1 role }))
        | inr z ↦ inl (record {
          before = goes.server;
          runs = goes.up.status;
          after = after;
          runs_then = up.status;
          anew = z.1;
          stands_not = λ term s. no_tick m m f ms s.ms s.word s.reads;
        })
      ]
    ]
      where
        after : AllocatorState
        after = (step goes.server (w.rows + 1) (receipt_of w f ms)).step_state.allocator

    elsewhere : (w : Cluster) (k : ℕ) (x : Member) → k ≢ m → Goes (w.member m) → Goes (at w.member k x m)
    elsewhere w k x differs goes = subst Goes (sym (at_other w.member k m x (λ e. differs (sym e)))) goes

    -- a row of the member itself
    own_tick : (w : Cluster) (moved ticked ms random : ℕ) → ms ≡ moved + clocks (OfMember m) → Goes (w.member m) → HasTermLeft m w → ticked ≤ due
        → Later w moved ticked (Tick m ms random)
    own_tick w moved ticked ms random reading goes low at_last = elim (at_tick w moved ms random reading goes low
        (its_step w (Tick m ms random) (tick_of ms random) goes.server goes.up
        (at_here w.member m m (member_after_step (w.rows + 1) (tick_of ms random) (w.member m).status (w.member m)) refl))) [
          | inl stands ↦ inl (inl stands)
          | inr k ↦ inr (inr k.0, either (λ (x : ℕ). x ≤ due) (m == m) moved ticked (λ e. k.1) (λ e. at_last))
        ]

    own_frame : (w : Cluster) (moved ticked f ms : ℕ) → Goes (w.member m) → ticked ≤ due → Later w moved ticked (Rx m f ms)
    own_frame w moved ticked f ms goes at_last = elim (at_frame w f ms goes (its_step w (Rx m f ms) (receipt_of w f ms) goes.server goes.up
        (at_here w.member m m (member_after_step (w.rows + 1) (receipt_of w f ms) (w.member m).status (w.member m)) refl))) [
          | inl anew ↦ inl (inr anew)
          | inr k ↦ inr (k, at_last)
        ]

    row_leaves : (traffic : Traffic) (w : Cluster) (moved ticked : ℕ) (row : Row) → IsCalmRow group clocks pace traffic w moved row → Goes (w.member m)
        → HasTermLeft m w → ticked ≤ due → Later w moved ticked row
    row_leaves traffic w moved ticked (Tick k ms random) calm goes low at_last = elim (eqb_tells k m) [
      | inl z ↦ subst (λ (j : ℕ). Later w moved ticked (Tick j ms random)) (sym z.1) (own_tick w moved ticked ms random
          (calm.1 ∙ ap (λ (j : ℕ). moved + clocks (OfMember j)) z.1) goes low at_last)
      | inr z ↦ inr (
        inr (elsewhere w k (member_after_step (w.rows + 1) (tick_of ms random) (w.member k).status (w.member k)) z.1 goes),
        subst (λ (b : Bool). (if b then moved else ticked) ≤ due) (sym z.0) at_last,
      )
    ]
    row_leaves traffic w moved ticked (Rx k f ms) calm goes low at_last = elim (eqb_tells k m) [
      | inl z ↦ subst (λ (j : ℕ). Later w moved ticked (Rx j f ms)) (sym z.1) (own_frame w moved ticked f ms goes at_last)
      | inr z ↦ inr (inr (elsewhere w k (member_after_step (w.rows + 1) (receipt_of w f ms) (w.member k).status (w.member k)) z.1 goes), at_last)
    ]
    row_leaves traffic w moved ticked (Send k) calm goes low at_last = elim (eqb_tells k m) [
      | inl z ↦ inr (
        inr (subst Goes (sym (at_here w.member k m (record (w.member k) { status = after_sending (w.member k).status }) (sym z.1)
            ∙ ap (λ (j : ℕ). record (w.member j) { status = after_sending (w.member j).status }) z.1)) (record {
              server = after_pop goes.server;
              up = record { status = ap after_sending goes.up.status; quiet = goes.up.quiet };
              waits = record {
                size_is = goes.waits.size_is;
                knows = goes.waits.knows;
                since_is = goes.waits.since_is;
                word_is = goes.waits.word_is;
                role = goes.waits.role;
              };
            })),
        at_last,
      )
      | inr z ↦ inr (inr (elsewhere w k (record (w.member k) { status = after_sending (w.member k).status }) z.1 goes), at_last)
    ]
    row_leaves traffic w moved ticked (ATick a ms random) calm goes low at_last = inr (inr goes, at_last)
    row_leaves traffic w moved ticked (ARx a k ms random) calm goes low at_last = inr (inr goes, at_last)
    row_leaves traffic w moved ticked (ASend a) calm goes low at_last = inr (inr goes, at_last)
    row_leaves traffic w moved ticked (Open k told ms random) calm goes low at_last = absurd calm
    row_leaves traffic w moved ticked (Ext frame) calm goes low at_last = absurd calm
    row_leaves traffic w moved ticked (Crash k calls pattern) calm goes low at_last = absurd calm
    row_leaves traffic w moved ticked (Fault k call) calm goes low at_last = absurd calm
    row_leaves traffic w moved ticked (AOpen a uid pref ms random) calm goes low at_last = absurd calm
    row_leaves traffic w moved ticked (AEnd a) calm goes low at_last = absurd calm

    -- it stands by a period behind the moment at which its wait is over
    pub stands_in_time : (whole : List Timed) (traffic : Traffic) (w : Cluster) → In (OfMember m) group → Goes (w.member m)
        → AreCalm group clocks pace traffic w whole → Throughout (HasTermLeft m) w whole → traffic.at ≤ due + pace.period
        → traffic.ticked (OfMember m) ≤ due → due + pace.period < end_of traffic.at whole → StandsBy m (due + pace.period) w whole
    stands_in_time [] traffic w i goes calm left soon low long = absurd (omega (arith, soon, long))
    stands_in_time (timed ∷ []) traffic w i goes calm left soon low long = absurd (omega (arith, calm.0.ticks (OfMember m) i, low, long))
    stands_in_time (timed ∷ next ∷ rest) traffic w i goes calm left soon low long =
        elim (row_leaves traffic w timed.at (traffic.ticked (OfMember m)) timed.row calm.1 goes left.0 low) [
          | inl (inl stands) ↦ record { front = []; timed = timed; rest = next ∷ rest; split = refl; soon = in_time; stands = inl stands }
          | inl (inr anew) ↦ record { front = []; timed = timed; rest = next ∷ rest; split = refl; soon = in_time; stands = inr (inl anew) }
          | inr (inl leads, at_last) ↦ record {
            front = timed ∷ [];
            timed = next;
            rest = rest;
            split = refl;
            soon = omega (arith, calm.2.0.ticks (OfMember m) i, at_last);
            stands = inr (inr leads);
          }
          | inr (inr g, at_last) ↦ further (stands_in_time (next ∷ rest) (traffic_after traffic w timed) (after_row w timed.row) i g calm.2 left.1 in_time at_last long)
        ]
      where
        in_time : timed.at ≤ due + pace.period
        in_time = omega (arith, calm.0.ticks (OfMember m) i, low)

        further : StandsBy m (due + pace.period) (after_row w timed.row) (next ∷ rest) → StandsBy m (due + pace.period) w (timed ∷ next ∷ rest)
        further by = record {
          front = timed ∷ by.front;
          timed = by.timed;
          rest = by.rest;
          split = ap (λ (l : List Timed). timed ∷ l) by.split;
          soon = by.soon;
          stands = by.stands;
        }
