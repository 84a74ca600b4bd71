-- In a calm in which another member leads, a member that accepted no request lately sends no Allocation.
use Rattle.std.proofs.Common.{◌≡◌, ◌≢◌, ℕ, ◌+◌, ◌≤◌, Bool, true, false, List, [], ◌∷◌, length, max, refl, sym, ◌∙◌, ap, subst, arith, inl, inr, Some}
use Rattle.std.specs.Prelude.{if◌then◌else◌, nat_eq, nat_lt}
use Rattle.std.proofs.lemmas.Bool.Decides.{eqb_tells}
use Rattle.alloc_exchange.specs.Exchange.{Accepted, last_moment, recent_requests}
use Rattle.can_frame.specs.declared.step.What.TheVariants.{Alloc}
use Rattle.can_frame.specs.Identifier.{identifier_number}
use Rattle.raft_model.specs.Lists.{In, at_here, at_other}
use Rattle.raft_model.specs.Server.Role.{Follower}
use Rattle.bus_rows.specs.declared.row.Row.{Row}
use Rattle.bus_rows.specs.declared.row.Row.TheVariants.{AEnd, AOpen, ARx, ASend, ATick, Crash, Ext, Fault, Open, Rx, Send, Tick}
use Rattle.transfer_tx.specs.Queue.{Queued}
use Rattle.transfer_tx.specs.Run.{of_identifier}
use Rattle.alloc_spec.specs.AllocatorState.{AllocatorState}
use Rattle.alloc_spec.specs.Step.{Event, after_pop, moment_of, step}
use Rattle.alloc_spec.specs.Transfers.{Offer, ident_of}
use Rattle.alloc_spec_laws.proofs.Choices.{either, lt_tells, tell}
use Rattle.alloc_spec_laws.specs.Sound.{IsOnTheBus}
use Rattle.bus_agreement.proofs.RowsWithoutEvents.{left_in_queue, out_of_queue}
use Rattle.service_steps.proofs.FollowUps.{same_number}
use Rattle.service_alone.specs.Calm.{Pace}
use Rattle.service_alone.proofs.Members.{IsUp, steps_up}
use Rattle.service_calm.specs.Calm.{IsCalmRow, Member as OfMember, Party, Traffic}
use Rattle.service_device.specs.Dialog.{HasNothingToSay}
use Rattle.service_leader.specs.LeadsOn.{FollowsWithin}
use Rattle.service_device.proofs.FramesPut.{waited_or_offered}
use Rattle.service_device.proofs.FollowersSay.{says_nothing}
use Rattle.service_device.proofs.SilentSteps.{follower_leaves}
use Rattle.service_calm.proofs.Group.{AreWell, CalmLaws, IsServer, narrow_on_bus, server_sent, server_stepped, up_sent}
use Rattle.service_calm.proofs.Pair.{same_server}
use Rattle.bus_spec.specs.Cluster.{Cluster, after_row, receipt_of, tick_of}
use Rattle.bus_spec.specs.Members.{after_sending, member_after_step, next_frame}

-- requests that do not count now do not count later
stale_later : (accepted : List Accepted) (now later : ℕ) → now ≤ later → recent_requests accepted now ≡ [] → recent_requests accepted later ≡ []
stale_later accepted now later after_it none = elim (lt_tells (last_moment accepted + 500) now) [
  | inl z ↦ elim (lt_tells (last_moment accepted + 500) later) [
    | inl y ↦ ap (λ (b : Bool). if b then [] else accepted) y.0
    | inr y ↦ absurd (omega (arith, z.1, y.1, after_it))
  ]
  | inr z ↦
      let empty : accepted ≡ [] = sym (ap (λ (b : Bool). if b then [] else accepted) z.0) ∙ none in
      either (λ (l : List Accepted). l ≡ []) (nat_lt (last_moment accepted + 500) later) [] accepted (λ e. refl) (λ e. empty)
]

none_counts : (later : ℕ) → recent_requests [] later ≡ []
none_counts later = either (λ (l : List Accepted). l ≡ []) (nat_lt 500 later) [] [] (λ e. refl) (λ e. refl)

pub none_in : (id : ℕ) (queue : List Queued) → of_identifier id queue ≡ [] → (f : Queued) → In f queue → f.id ≢ id
none_in id [] none f i e = absurd i
none_in id (g ∷ queue) none f (inl same) e =
    let z : nat_eq g.id id ≡ true = ap (λ (k : ℕ). nat_eq k id) (ap (λ (q : Queued). q.id) (sym same) ∙ e) ∙ same_number id in
    let l : g ∷ of_identifier id queue ≡ [] = rw z at none in omega (arith, ap length l)
none_in id (g ∷ queue) none f (inr i) e = elim (tell (nat_eq g.id id)) [
  | inl z ↦ let y : nat_eq g.id id ≡ true = z in let l : g ∷ of_identifier id queue ≡ [] = rw y at none in absurd (omega (arith, ap length l))
  | inr z ↦ let y : nat_eq g.id id ≡ false = z in let l : of_identifier id queue ≡ [] = rw y at none in none_in id queue l f i e
]

module _ (laws : CalmLaws) (group : List Party) (clocks : Party → ℕ) (pace : Pace) (m : ℕ) (node : (1 ≤ m) × (m ≤ 125)) where
  abbrev number : ℕ
  number = identifier_number (ident_of m Alloc 0)

  -- no frame of an Allocation waits in its queue, and no request that it accepted counts from this moment on
  pub record IsSilent (now : ℕ) (w : Cluster) : Type 0 where
    pub server : AllocatorState
    pub up : IsUp server (w.member m)
    pub its : IsServer m server
    pub none : (f : Queued) → In f server.queue → f.id ≢ number
    pub stale : (later : ℕ) → now ≤ later → recent_requests server.accepted later ≡ []

  -- so it is when the calm begins
  pub is_silent : (now : ℕ) (w : Cluster) → (server : AllocatorState) → IsUp server (w.member m) → IsServer m server → HasNothingToSay m now w → IsSilent now w
  is_silent now w server up its h =
      let same : h.server ≡ server = same_server h.server server (sym h.runs ∙ up.status) in
      record {
        server = server;
        up = up;
        its = its;
        none = none_in number server.queue (ap (λ (u : AllocatorState). of_identifier number u.queue) (sym same) ∙ h.none_waits);
        stale = λ later after_it. stale_later server.accepted now later after_it (ap (λ (u : AllocatorState). recent_requests u.accepted now) (sym same) ∙ h.old);
      }

  -- it brings no frame of an Allocation to the bus
  pub brings_none : (now : ℕ) (w : Cluster) → IsSilent now w → (frame : Queued) → next_frame (w.member m).status ≡ Some frame → frame.id ≢ number
  brings_none now w s frame e = s.none frame (out_of_queue s.server.queue frame (sym (ap next_frame s.up.status) ∙ e))

  module _ (traffic : Traffic) (w : Cluster) (at_ term : ℕ) (well : AreWell group w) (s : IsSilent (traffic.at + clocks (OfMember m)) w) (later : traffic.at ≤ at_)
      (follows : FollowsWithin m term w) where
    abbrev Then : Row → Type 0
    Then row = IsSilent (at_ + clocks (OfMember m)) (after_row w row)

    rests : (row : Row) → (after_row w row).member m ≡ w.member m → Then row
    rests row same = record {
      server = s.server;
      up = subst (IsUp s.server) (sym same) s.up;
      its = s.its;
      none = s.none;
      stale = λ moment after_it. s.stale moment (let l = later in omega (arith, l, after_it));
    }

    its_role : s.server.raft_server.memory.role ≡ Follower
    its_role = ap (λ (u : AllocatorState). u.raft_server.memory.role) (same_server s.server follows.server (sym s.up.status ∙ follows.runs)) ∙ follows.follows

    -- it takes a step
    steps : (row : Row) (event : Event) → IsOnTheBus event → (after_row w row).member m ≡ member_after_step (w.rows + 1) event (w.member m).status (w.member m)
        → at_ + clocks (OfMember m) ≤ max s.server.now (moment_of event) → FollowsWithin m term (after_row w row) → Then row
    steps row event bus member late then_follows = record {
      server = u;
      up = up_then;
      its = server_stepped laws m s.server (w.rows + 1) event bus s.its;
      none = λ f i e. elim (waited_or_offered laws m node s.server (w.rows + 1) event bus s.its Alloc refl f i e) [
        | inl before ↦ s.none f before e
        | inr new ↦ quiet new.offer new.offered new.its_what
      ];
      stale = λ moment after_it. elim (follower_leaves s.server (w.rows + 1) its_role event) [
        | inl kept ↦ ap (λ (l : List Accepted). recent_requests l moment) kept ∙ s.stale moment (let l = later in omega (arith, l, after_it))
        | inr empty ↦ ap (λ (l : List Accepted). recent_requests l moment) empty ∙ none_counts moment
      ];
    }
      where
        u : AllocatorState
        u = (step s.server (w.rows + 1) event).step_state.allocator

        up_then : IsUp (step s.server (w.rows + 1) event).step_state.allocator ((after_row w row).member m)
        up_then = subst (IsUp (step s.server (w.rows + 1) event).step_state.allocator) (sym member) (steps_up (w.rows + 1) event s.server (w.member m) s.up)

        role_then : (step s.server (w.rows + 1) event).step_state.allocator.raft_server.memory.role ≡ Follower
        role_then = ap (λ (x : AllocatorState). x.raft_server.memory.role)
            (same_server (step s.server (w.rows + 1) event).step_state.allocator then_follows.server (sym up_then.status ∙ then_follows.runs)) ∙ then_follows.follows

        quiet : (o : Offer) → In o (step s.server (w.rows + 1) event).step_state.offers → o.what ≢ Alloc
        quiet = says_nothing s.server (w.rows + 1) its_role event role_then (s.stale (max s.server.now (moment_of event)) (let l = later in omega (arith, l, late)))

    -- a frame of it goes to the bus
    sends : Then (Send m)
    sends = record {
      server = after_pop s.server;
      up = subst (IsUp (after_pop s.server)) (sym (at_here w.member m m (record (w.member m) { status = after_sending (w.member m).status }) refl))
          (up_sent laws s.server (w.member m) s.up);
      its = server_sent laws m s.server s.its;
      none = λ f i. s.none f (left_in_queue s.server.queue f i);
      stale = λ moment after_it. s.stale moment (let l = later in omega (arith, l, after_it));
    }

    -- it stays so
    pub silent_on : (row : Row) → IsCalmRow group clocks pace traffic w at_ row → FollowsWithin m term (after_row w row) → Then row
    silent_on (Tick p ms word) calm then_follows = elim (eqb_tells p m) [
      | inl z ↦ subst (λ (q : ℕ). IsCalmRow group clocks pace traffic w at_ (Tick q ms word) → FollowsWithin m term (after_row w (Tick q ms word)) → Then (Tick q ms word)) (sym z.1)
          (λ c f. steps (Tick m ms word) (tick_of ms word) tt
          (at_here w.member m m (member_after_step (w.rows + 1) (tick_of ms word) (w.member m).status (w.member m)) refl) (let e = c.1 in omega (arith, e)) f) calm then_follows
      | inr z ↦ rests (Tick p ms word) (at_other w.member p m (member_after_step (w.rows + 1) (tick_of ms word) (w.member p).status (w.member p)) (λ e. z.1 (sym e)))
    ]
    silent_on (Rx p k ms) calm then_follows = elim (eqb_tells p m) [
      | inl z ↦ subst (λ (q : ℕ). IsCalmRow group clocks pace traffic w at_ (Rx q k ms) → FollowsWithin m term (after_row w (Rx q k ms)) → Then (Rx q k ms)) (sym z.1)
          (λ c f. steps (Rx m k ms) (receipt_of w k ms) (narrow_on_bus w.frames well.narrow k)
          (at_here w.member m m (member_after_step (w.rows + 1) (receipt_of w k ms) (w.member m).status (w.member m)) refl) (let e = c.1 in omega (arith, e)) f) calm then_follows
      | inr z ↦ rests (Rx p k ms) (at_other w.member p m (member_after_step (w.rows + 1) (receipt_of w k ms) (w.member p).status (w.member p)) (λ e. z.1 (sym e)))
    ]
    silent_on (Send p) calm then_follows = elim (eqb_tells p m) [
      | inl z ↦ subst (λ (q : ℕ). Then (Send q)) (sym z.1) sends
      | inr z ↦ rests (Send p) (at_other w.member p m (record (w.member p) { status = after_sending (w.member p).status }) (λ e. z.1 (sym e)))
    ]
    silent_on (ATick a ms word) calm then_follows = rests (ATick a ms word) refl
    silent_on (ARx a k ms word) calm then_follows = rests (ARx a k ms word) refl
    silent_on (ASend a) calm then_follows = rests (ASend a) refl
    silent_on (Open p told ms word) calm then_follows = absurd calm
    silent_on (Ext frame) calm then_follows = absurd calm
    silent_on (Crash p calls pattern) calm then_follows = absurd calm
    silent_on (Fault p call) calm then_follows = absurd calm
    silent_on (AOpen a uid pref ms word) calm then_follows = absurd calm
    silent_on (AEnd a) calm then_follows = absurd calm
