-- No append request is on its way in a calm, where none waits when it begins, and nobody leads.
use Rattle.std.proofs.Common.{◌≡◌, ◌≢◌, ℕ, ◌≤◌, Bool, true, List, [], ◌∷◌, sym, ◌∙◌, ap, subst, inl, inr, arith, Some}
use Rattle.std.specs.Prelude.{◌⊎◌, if◌then◌else◌}
use Rattle.std.proofs.lemmas.Bool.Decides.{eqb_tells}
use Rattle.can_frame.specs.declared.identifier.Ident.{Ident}
use Rattle.can_frame.specs.declared.identifier.Kind.TheVariants.{Request as RequestKind}
use Rattle.can_frame.specs.declared.step.What.TheVariants.{AppQ}
use Rattle.can_frame.specs.Identifier.{identifier_number, identifier_of}
use Rattle.can_frame.specs.Kinds.{is_service}
use Rattle.raft_model.specs.Lists.{In}
use Rattle.raft_model.specs.Server.Role.{Leader}
use Rattle.bus_rows.specs.declared.row.Row.{Row}
use Rattle.transfer_rx.specs.Acceptance.{is_for}
use Rattle.transfer_rx.specs.Reassembly.{Arrival, Delivery, Gives, answer}
use Rattle.transfer_tx.specs.Queue.{Queued}
use Rattle.transfer_tx.specs.Run.{of_identifier}
use Rattle.allocatee.specs.Given.{IsAnonymous}
use Rattle.alloc_spec.specs.Accepted.{rows, setting_for}
use Rattle.alloc_spec.specs.AllocatorState.{AllocatorState}
use Rattle.alloc_spec.specs.Step.{Event, step}
use Rattle.alloc_spec.specs.Transfers.{ident_of}
use Rattle.alloc_spec_laws.specs.Sound.{IsOnTheBus}
use Rattle.alloc_spec_laws.specs.Waiting.{all_frames_put}
use Rattle.bus_agreement.specs.LawsBelow.{FrameLaws}
use Rattle.bus_agreement.proofs.Idents.{IsWanted, ident_ok, service_is}
use Rattle.service_leader.proofs.HeardIdents.{is_wanted, not_own}
use Rattle.bus_agreement.proofs.Lists.{in_append}
use Rattle.bus_agreement.proofs.MadeTransfers.{frame_put, made_by}
use Rattle.bus_agreement.proofs.TakenMessages.{is_append_request}
use Rattle.service_alone.specs.Calm.{OnItsWay, Pace}
use Rattle.service_calm.specs.Calm.{IsCalmRow, Member as OfMember, Party, Traffic, on_way_after}
use Rattle.service_calm.proofs.Frames.{has_its_id}
use Rattle.service_calm.proofs.Group.{AreWell, CalmLaws, IsOf, IsServer, sent_anonymous, sent_own}
use Rattle.service_calm.proofs.Others.{some_ident}
use Rattle.service_leader.proofs.FramesFly.{Fly, fly_after}
use Rattle.service_leader.specs.CallsAsk.{CallsAskNext}
use Rattle.bus_spec.specs.Cluster.{Cluster, after_row}
use Rattle.bus_spec.specs.Members.{next_frame}

-- ---- frames

-- a frame of member p is of no append request to another member of the group
abbrev pub IsNoCall : List Party → (p : ℕ) → Queued → Type 0
IsNoCall group p frame = (m : ℕ) → In (OfMember m) group → p ≢ m → frame.id ≢ identifier_number (ident_of p AppQ m)

-- a member of the group sent it, and it is none of an append request; or some device
abbrev pub ComesUncalled : List Party → Queued → Type 0
ComesUncalled group frame = ((p : ℕ) × In (OfMember p) group × IsOf p frame × IsNoCall group p frame) ⊎ IsAnonymous frame

-- what has an identifier is among the frames with it
abbrev its_own : ℕ → Queued → List Queued → Bool → List Queued
its_own id f frames own = if own then f ∷ of_identifier id frames else of_identifier id frames

in_own : (id : ℕ) (frame : Queued) (frames : List Queued) → frame.id ≡ id → In frame frames → In frame (of_identifier id frames)
in_own id frame [] e i = i
in_own id frame (f ∷ frames) e (inl same) = elim (eqb_tells f.id id) [
  | inl z ↦ subst (λ (b : Bool). In frame (its_own id f frames b)) (sym z.0) (inl same)
  | inr z ↦ absurd (z.1 (ap (λ (g : Queued). g.id) (sym same) ∙ e))
]
in_own id frame (f ∷ frames) e (inr i) = elim (eqb_tells f.id id) [
  | inl z ↦ subst (λ (b : Bool). In frame (its_own id f frames b)) (sym z.0) (inr (in_own id frame frames e i))
  | inr z ↦ subst (λ (b : Bool). In frame (its_own id f frames b)) (sym z.0) (in_own id frame frames e i)
]

-- where no frame has it, none of these does
pub none_has : (id : ℕ) (frame : Queued) (frames : List Queued) → of_identifier id frames ≡ [] → In frame frames → frame.id ≢ id
none_has id frame frames none i e = absurd (subst (λ (l : List Queued). In frame l) none (in_own id frame frames e i))

-- ---- what a receiver hears

module _ (frame : FrameLaws) (group : List Party) (nodes : (p : ℕ) → In (OfMember p) group → (1 ≤ p) × (p ≤ 125)) (m : ℕ) (in_m : In (OfMember m) group)
    (t : AllocatorState) (me : t.me ≡ m) (f : Queued) (arrival : Arrival) (its_frame : arrival.id ≡ f.id) (d : Delivery)
    (gives : answer (setting_for t.me) t.sessions arrival ≡ Gives d) where
  wants : IsWanted rows t.me arrival.id d.ident
  wants = is_wanted frame t.me t.sessions arrival d gives

  reads : identifier_of f.id ≡ Some d.ident
  reads = sym (ap identifier_of its_frame) ∙ wants.read

  for_me : is_for m d.ident ≡ true
  for_me = subst (λ (n : ℕ). is_for n d.ident ≡ true) me wants.for_me

  is_call : d.ident.kind ≡ RequestKind → d.ident.number ≡ 30 → ComesUncalled group f → ⊥
  is_call kind thirty (inl (p, i, is, no_call)) =
      let node = nodes p i in
      let same : d.ident ≡ ident_of p is.what is.to = some_ident d.ident (ident_of p is.what is.to)
      (sym reads ∙ (ap identifier_of is.id ∙ frame.ident_read (ident_of p is.what is.to) (ident_ok p is.what is.to node.0 node.1 is.dest))) in
      let what : is.what ≡ AppQ = is_append_request is.what (sym (ap (λ (j : Ident). j.kind) same) ∙ kind) (sym (ap (λ (j : Ident). j.number) same) ∙ thirty) in
      let to : is.to ≡ m = sym (ap (λ (j : Ident). j.dest) same) ∙ service_is m (nodes m in_m).0 d.ident (ap is_service kind) for_me in
      let apart : p ≢ m = λ e. not_own m d.ident (nodes m in_m).0 for_me (ap (λ (j : Ident). j.source) same ∙ e) in
      no_call m in_m apart (is.id ∙ (λ i. identifier_number (ident_of p (what i) (to i))))
  is_call kind thirty (inr is) =
      let none = ap (λ (j : Ident). j.kind) (some_ident d.ident is.ident (sym reads ∙ is.read)) ∙ is.kind in
      absurd (cc (sym kind ∙ none))

  -- what it completes is no append request
  pub no_call_comes : ComesUncalled group f → d.ident.kind ≡ RequestKind → d.ident.number ≡ 30 → ⊥
  no_call_comes comes kind thirty = is_call kind thirty comes

-- ---- what a step puts into the queue

module _ (laws : CalmLaws) (asks : CallsAskNext) (group : List Party) (nodes : (p : ℕ) → In (OfMember p) group → (1 ≤ p) × (p ≤ 125)) where
  abbrev pub HasNoCall : (p : ℕ) → AllocatorState → Type 0
  HasNoCall p t = (frame : Queued) → In frame t.queue → IsNoCall group p frame

  module _ (p : ℕ) (in_p : In (OfMember p) group) (t : AllocatorState) (its : IsServer p t) (number : ℕ) (event : Event) (bus : IsOnTheBus event)
      (leads_not : (step t number event).step_state.allocator.raft_server.memory.role ≢ Leader) where
    -- a frame that is put is of no append request, since only who leads behind the step offers one
    put_no_call : (frame : Queued) → In frame (all_frames_put number t.me (step t number event).step_state.offers) → IsNoCall group p frame
    put_no_call frame i m in_m apart e =
        let put = frame_put number t.me (step t number event).step_state.offers frame i in
        let id : frame.id ≡ identifier_number (ident_of p put.0.what put.0.to) = has_its_id (made_by number t.me put.0) frame put.3
        ∙ ap (λ (n : ℕ). identifier_number (ident_of n put.0.what put.0.to)) its.me in
        let range = (laws.more.ranges t number event its.sound bus put.0 put.1).to in
        let node = nodes p in_p in
        let peer = nodes m in_m in
        let same : ident_of p put.0.what put.0.to ≡ ident_of p AppQ m = some_ident (ident_of p put.0.what put.0.to) (ident_of p AppQ m)
        (sym (laws.frame.ident_read (ident_of p put.0.what put.0.to) (ident_ok p put.0.what put.0.to node.0 node.1 range))
        ∙ (ap identifier_of (sym id ∙ e)
        ∙ laws.frame.ident_read (ident_of p AppQ m) (ident_ok p AppQ m node.0 node.1 (peer.0, omega (arith, peer.1))))) in
        let what : put.0.what ≡ AppQ = is_append_request put.0.what (ap (λ (j : Ident). j.kind) same) (ap (λ (j : Ident). j.number) same) in
        leads_not (asks t number event m put.0 put.1 what (ap (λ (j : Ident). j.dest) same) put.2).leads

    -- so no such frame waits behind the step, where none did before it
    pub queue_stepped : HasNoCall p t → HasNoCall p (step t number event).step_state.allocator
    queue_stepped has frame i = elim (in_append frame t.queue (all_frames_put number t.me (step t number event).step_state.offers)
        (subst (λ (l : List Queued). In frame l) (laws.in_step.queue t number event) i)) [
          | inl before ↦ has frame before
          | inr new ↦ put_no_call frame new
        ]

-- ---- what is on its way

module _ (group : List Party) where
  abbrev pub AreUncalled : List Queued → List OnItsWay → Type 0
  AreUncalled frames ways = Fly (ComesUncalled group) frames ways

  -- it is so after each calm row
  pub uncalled_after : CalmLaws → ((p : ℕ) → In (OfMember p) group → (1 ≤ p) × (p ≤ 125)) → (clocks : Party → ℕ) (pace : Pace) (traffic : Traffic)
      (w : Cluster) → AreWell group w
      → ((p : ℕ) → In (OfMember p) group → (frame : Queued) → next_frame (w.member p).status ≡ Some frame → IsNoCall group p frame)
      → ((party : Party) → AreUncalled w.frames (traffic.to party)) → (moment : ℕ) (row : Row) → IsCalmRow group clocks pace traffic w moment row → (party : Party)
      → AreUncalled (after_row w row).frames (on_way_after moment w row party (traffic.to party))
  uncalled_after laws nodes clocks pace traffic w are sent_none flies moment row calm = fly_after (ComesUncalled group) group clocks pace traffic w flies moment row calm
      (λ n g i is e. inl (n, i, sent_own laws n (w.member n) g (are.members n i) e, sent_none n i g e))
      (λ a g i is e. inr (sent_anonymous laws group nodes w are a g i e))
