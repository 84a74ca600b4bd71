-- A leader offers each member a call often enough, in a calm.
use Rattle.std.proofs.Common.{◌≡◌, ◌≢◌, ℕ, ◌+◌, ◌<◌, ◌≤◌, arith, Bool, true, false, List, [], ◌∷◌, drop, max, refl, sym, ◌∙◌, ap, subst, inl, inr, Option, None, Some}
use Rattle.std.specs.Prelude.{◌⊎◌, ◌-◌, ◌==◌, if◌then◌else◌}
use Rattle.std.proofs.lemmas.Bool.Decides.{eqb_tells, leb_tells}
use Rattle.raft_core.specs.Times.{Sending, is_overdue, is_silent}
use Rattle.raft_model.specs.Lists.{In, at, at_here, at_other}
use Rattle.raft_model.specs.Messages.{Request}
use Rattle.raft_model.specs.Server.Role.{Leader}
use Rattle.bus_rows.specs.declared.row.Row.{Row}
use Rattle.bus_rows.specs.declared.row.Row.TheVariants.{AEnd, AOpen, ARx, ASend, ATick, Crash, Ext, Fault, Open, Rx, Send, Tick}
use Rattle.alloc_spec.specs.AllocatorState.{AllocatorState, members_of, start_of}
use Rattle.alloc_spec.specs.Step.{Event, after_pop, moment_of, step}
use Rattle.alloc_spec_laws.proofs.Choices.{either}
use Rattle.alloc_spec_laws.proofs.Peers.{IsList, members_list}
use Rattle.service_steps.specs.InTime.{NoCallIsOld}
use Rattle.bus_rows.specs.Timed.{Timed}
use Rattle.service_alone.specs.Calm.{Pace, end_of}
use Rattle.service_alone.proofs.Members.{IsUp, steps_up}
use Rattle.service_calm.specs.Calm.{AreCalm, IsCalmRow, Member as OfMember, Party, Traffic, reads, traffic_after}
use Rattle.service_calm.specs.CallsInTime.{CalledUntil, Leads, OffersCall, OffersCallBy}
use Rattle.service_calm.specs.Comes.{Throughout}
use Rattle.service_calm.proofs.CallsOffered.{Offered, step_keeps_calls, touches_after}
use Rattle.service_calm.proofs.Counting.{now_after}
use Rattle.bus_spec.specs.Cluster.{Cluster, after_row, receipt_of, step_of, tick_of}
use Rattle.bus_spec.specs.Members.{Member, after_sending, member_after_step}

-- what is kept of the calls to a peer is no later than this moment
abbrev pub Until : ℕ → Option Request → Option Sending → Option ℕ → Type 0
Until moment p s a = ((request : Request) → p ≡ Some request → (call : Sending) × (s ≡ Some call) × (call.moment ≤ moment)) × ((sent : ℕ) → a ≡ Some sent → sent ≤ moment)

-- so it is when the call has ended, and when the server has won
pub until_ended : (moment : ℕ) (p : Option Request) (s : Option Sending) (a : Option ℕ) → Until moment p s a → Until moment None None a
until_ended moment p s a h = (λ request e. absurd (cc e), h.1)

pub until_won : (moment : ℕ) → Until moment None None None
until_won moment = (λ request e. absurd (cc e), λ sent e. absurd (cc e))

-- a call that is kept since then is old by now, so it is not pending; and the last append request was made long ago
none_pending : (moment now : ℕ) (p : Option Request) (s : Option Sending) (a : Option ℕ) → Until moment p s a → moment + 1000 ≤ now → is_overdue s now ≡ false → p ≡ None
none_pending moment now None s a h late young = refl
none_pending moment now (Some request) s a h late young =
    let call = h.0 request refl in
    elim (leb_tells 1000 (now - call.0.moment)) [
      | inl z ↦ absurd (cc (z.0, ap (λ (c : Option Sending). is_overdue c now) (sym call.1) ∙ young))
      | inr z ↦ absurd (omega (arith, z.1, call.2, late))
    ]

is_quiet : (moment now : ℕ) (p : Option Request) (s : Option Sending) (a : Option ℕ) → Until moment p s a → moment + 1000 ≤ now → is_silent a now ≡ true
is_quiet moment now p s None h late = refl
is_quiet moment now p s (Some sent) h late = elim (leb_tells 400 (now - sent)) [
  | inl z ↦ z.0
  | inr z ↦ absurd (omega (arith, z.1, h.1 sent refl, late))
]

-- the server lists the peer besides itself, and has not called it since
pub record Waits (moment m : ℕ) (t : AllocatorState) : Type 0 where
  pub listed : In m (members_of t)
  pub other : m ≢ t.me
  pub until : CalledUntil moment m t

behind : (m x : ℕ) (xs : List ℕ) → m ≢ x → In m (x ∷ xs) → In m xs
behind m x xs differs (inl e) = absurd (differs e)
behind m x xs differs (inr i) = i

module _ (stay : (t : AllocatorState) (number : ℕ) (event : Event) (node : ℕ) → In node (members_of t) → In node (members_of (step t number event).step_state.allocator))
    (keeps_me : (t : AllocatorState) (number : ℕ) (event : Event) → (step t number event).step_state.allocator.me ≡ t.me)
    (young : NoCallIsOld) (n m moment : ℕ) where
  listed_peer : (t : AllocatorState) → In m (members_of t) → m ≢ t.me → In m (drop 1 (members_of t)) × (m ≤ 125)
  listed_peer t i other =
      let list : IsList t.size t.me (members_of t) = members_list (start_of t) t.heard in
      let j : In m list.peers = behind m t.me list.peers other (subst (λ (l : List ℕ). In m l) list.is i) in
      (subst (λ (l : List ℕ). In m (drop 1 l)) (sym list.is) j, (list.devices m j).1)

  -- the member runs, and waits so
  pub record Goes (x : Member) : Type 0 where
    pub server : AllocatorState
    pub up : IsUp server x
    pub waits : Waits moment m server

  -- a step of the leader offers the call, or leaves it waiting, and then it is not late
  steps : (t : AllocatorState) (number : ℕ) (event : Event) → Waits moment m t → (step t number event).step_state.allocator.raft_server.memory.role ≡ Leader
      → Offered m (step t number event).step_state.offers ⊎ (Waits moment m (step t number event).step_state.allocator × (max t.now (moment_of event) < moment + 1000))
  steps t number event waits leads =
      elim (step_keeps_calls m (Until moment) (until_ended moment) (until_won moment) t number event (λ l. (waits.until.pending, waits.until.appended)) leads) [
        | inl c ↦ inl c
        | inr k ↦ elim (leb_tells (moment + 1000) (max t.now (moment_of event))) [
          | inl z ↦ elim (touches_after t number event m leads peer.0) [
            | inl c ↦ inl c
            | inr (inl some) ↦ absurd (some (none_pending moment after.now _ _ _ k (late z.1) is_young))
            | inr (inr spoke) ↦ absurd (cc (spoke, is_quiet moment after.now _ _ _ k (late z.1)))
          ]
          | inr z ↦ inr (record { listed = listed; other = other; until = record { pending = k.0; appended = k.1 } }, z.1)
        ]
      ]
    where
      after : AllocatorState
      after = (step t number event).step_state.allocator

      listed : In m (members_of after)
      listed = stay t number event m waits.listed

      other : m ≢ after.me
      other e = waits.other (e ∙ keeps_me t number event)

      peer : In m (drop 1 (members_of after)) × (m ≤ 125)
      peer = listed_peer after listed other

      is_young : is_overdue (after.times.sending m) after.now ≡ false
      is_young = young t number event m (omega (arith, peer.1))

      late : moment + 1000 ≤ max t.now (moment_of event) → moment + 1000 ≤ after.now
      late h = omega (arith, h, now_after t number event)

  -- a row that is such a step
  in_row : (w : Cluster) (row : Row) (event : Event) (goes : Goes (w.member n)) → step_of w row ≡ Some (n, event)
      → (after_row w row).member n ≡ member_after_step (w.rows + 1) event (w.member n).status (w.member n) → Leads n (after_row w row)
      → OffersCall n m w row ⊎ (Goes ((after_row w row).member n) × (max goes.server.now (moment_of event) < moment + 1000))
  in_row w row event goes is same leads = elim (steps goes.server (w.rows + 1) event goes.waits (leads later up.status)) [
    | inl c ↦ inl (record { server = goes.server; runs = goes.up.status; event = event; in_step = is; offer = c.0; offered = c.1; what = c.2; to = c.3 })
    | inr k ↦ inr (record { server = later; up = up; waits = k.0 }, k.1)
  ]
    where
      later : AllocatorState
      later = (step goes.server (w.rows + 1) event).step_state.allocator

      up : IsUp later ((after_row w row).member n)
      up = subst (λ (x : Member). IsUp later x) (sym same) (steps_up (w.rows + 1) event goes.server (w.member n) goes.up)

  module _ (group : List Party) (clocks : Party → ℕ) (pace : Pace) (due : ℕ) (late : moment + 1000 ≤ due + clocks (OfMember n)) where
    -- what a row leaves: the member waits on, and has not read its clock since
    abbrev Left : Cluster → ℕ → ℕ → Row → Type 0
    Left w moved ticked row = OffersCall n m w row ⊎ (Goes ((after_row w row).member n) × ((if reads row (OfMember n) then moved else ticked) ≤ due))

    elsewhere : (w : Cluster) (k : ℕ) (x : Member) → k ≢ n → Goes (w.member n) → Goes (at w.member k x n)
    elsewhere w k x differs goes = subst Goes (sym (at_other w.member k n x (λ e. differs (sym e)))) goes

    row_leaves : (traffic : Traffic) (w : Cluster) (moved ticked : ℕ) (row : Row) → IsCalmRow group clocks pace traffic w moved row → Goes (w.member n)
        → Leads n (after_row w row) → ticked ≤ due → Left w moved ticked row
    row_leaves traffic w moved ticked (Tick k ms word) calm goes leads low = elim (eqb_tells k n) [
      | inl z ↦ elim (in_row w (Tick k ms word) (tick_of ms word) goes (ap (λ (j : ℕ). Some (j, tick_of ms word)) z.1)
          (at_here w.member k n (member_after_step (w.rows + 1) (tick_of ms word) (w.member k).status (w.member k)) (sym z.1)
          ∙ ap (λ (j : ℕ). member_after_step (w.rows + 1) (tick_of ms word) (w.member j).status (w.member j)) z.1) leads) [
            | inl o ↦ inl o
            | inr g ↦ inr (
              g.0,
              either (λ (x : ℕ). x ≤ due) (k == n) moved ticked
                  (λ e. let reads_so : clocks (OfMember k) ≡ clocks (OfMember n) = ap (λ (j : ℕ). clocks (OfMember j)) z.1 in omega (arith, g.1, calm.1, late, reads_so)) (λ e. low),
            )
          ]
      | inr z ↦ inr (
        elsewhere w k (member_after_step (w.rows + 1) (tick_of ms word) (w.member k).status (w.member k)) z.1 goes,
        subst (λ (b : Bool). (if b then moved else ticked) ≤ due) (sym z.0) low,
      )
    ]
    row_leaves traffic w moved ticked (Rx k f ms) calm goes leads low = elim (eqb_tells k n) [
      | inl z ↦ elim (in_row w (Rx k f ms) (receipt_of w f ms) goes (ap (λ (j : ℕ). Some (j, receipt_of w f ms)) z.1)
          (at_here w.member k n (member_after_step (w.rows + 1) (receipt_of w f ms) (w.member k).status (w.member k)) (sym z.1)
          ∙ ap (λ (j : ℕ). member_after_step (w.rows + 1) (receipt_of w f ms) (w.member j).status (w.member j)) z.1) leads) [
            | inl o ↦ inl o
            | inr g ↦ inr (g.0, low)
          ]
      | inr z ↦ inr (elsewhere w k (member_after_step (w.rows + 1) (receipt_of w f ms) (w.member k).status (w.member k)) z.1 goes, low)
    ]
    row_leaves traffic w moved ticked (Send k) calm goes leads low = elim (eqb_tells k n) [
      | inl z ↦ inr (
        subst Goes (sym (at_here w.member k n (record (w.member k) { status = after_sending (w.member k).status }) (sym z.1)
            ∙ ap (λ (j : ℕ). record (w.member j) { status = after_sending (w.member j).status }) z.1)) (record {
              server = after_pop goes.server;
              up = record { status = ap after_sending goes.up.status; quiet = goes.up.quiet };
              waits = record { listed = goes.waits.listed; other = goes.waits.other; until = record { pending = goes.waits.until.pending; appended = goes.waits.until.appended } };
            }),
        low,
      )
      | inr z ↦ inr (elsewhere w k (record (w.member k) { status = after_sending (w.member k).status }) z.1 goes, low)
    ]
    row_leaves traffic w moved ticked (ATick a ms word) calm goes leads low = inr (goes, low)
    row_leaves traffic w moved ticked (ARx a k ms word) calm goes leads low = inr (goes, low)
    row_leaves traffic w moved ticked (ASend a) calm goes leads low = inr (goes, low)
    row_leaves traffic w moved ticked (Open k told ms word) calm goes leads low = absurd calm
    row_leaves traffic w moved ticked (Ext frame) calm goes leads low = absurd calm
    row_leaves traffic w moved ticked (Crash k calls pattern) calm goes leads low = absurd calm
    row_leaves traffic w moved ticked (Fault k call) calm goes leads low = absurd calm
    row_leaves traffic w moved ticked (AOpen a uid pref ms word) calm goes leads low = absurd calm
    row_leaves traffic w moved ticked (AEnd a) calm goes leads low = absurd calm

    pub offers_in_time : (whole : List Timed) (traffic : Traffic) (w : Cluster) → In (OfMember n) group → Goes (w.member n) → AreCalm group clocks pace traffic w whole
        → Throughout (Leads n) w whole → traffic.at ≤ due + pace.period → traffic.ticked (OfMember n) ≤ due → due + pace.period < end_of traffic.at whole
        → OffersCallBy n m (due + pace.period) w whole
    offers_in_time [] traffic w i goes calm leads soon low long = absurd (omega (arith, soon, long))
    offers_in_time (timed ∷ []) traffic w i goes calm leads soon low long = absurd (omega (arith, calm.0.ticks (OfMember n) i, low, long))
    offers_in_time (timed ∷ next ∷ rest) traffic w i goes calm leads soon low long =
        elim (row_leaves traffic w timed.at (traffic.ticked (OfMember n)) timed.row calm.1 goes leads.1.0 low) [
          | inl o ↦ record { front = []; timed = timed; rest = next ∷ rest; split = refl; soon = in_time; offers = o }
          | inr g ↦ further (offers_in_time (next ∷ rest) (traffic_after traffic w timed) (after_row w timed.row) i g.0 calm.2 leads.1 in_time g.1 long)
        ]
      where
        in_time : timed.at ≤ due + pace.period
        in_time = omega (arith, calm.0.ticks (OfMember n) i, low)

        further : OffersCallBy n m (due + pace.period) (after_row w timed.row) (next ∷ rest) → OffersCallBy n m (due + pace.period) w (timed ∷ next ∷ rest)
        further by = record {
          front = timed ∷ by.front;
          timed = by.timed;
          rest = by.rest;
          split = ap (λ (l : List Timed). timed ∷ l) by.split;
          soon = by.soon;
          offers = by.offers;
        }
