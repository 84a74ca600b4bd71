-- The frames of one member's transfers of one kind and destination, and all others, at a receiver.
use Rattle.std.proofs.Common.{◌≡◌, ◌≢◌, ℕ, ◌≤◌, Bool, true, false, List, [], ◌∷◌, ◌++◌, refl, sym, ◌∙◌, ap, subst, inl, inr, cond, Some}
use Rattle.std.specs.Prelude.{◌⊎◌, ◌&&◌, flat_map}
use Rattle.std.proofs.lemmas.Bool.Decides.{eqb_tells}
use Rattle.can_frame.specs.declared.identifier.Ident.{Ident}
use Rattle.can_frame.specs.declared.identifier.Kind.{Kind}
use Rattle.can_frame.specs.declared.identifier.Kind.TheVariants.{Message}
use Rattle.can_frame.specs.declared.step.What.{What}
use Rattle.can_frame.specs.Identifier.{identifier_number, identifier_of}
use Rattle.can_frame.specs.Kinds.{is_anonymous}
use Rattle.raft_model.specs.Lists.{In}
use Rattle.transfer_rx.specs.declared.key.Key.{Key}
use Rattle.transfer_rx.specs.Acceptance.{is_for}
use Rattle.transfer_rx.specs.Keys.{key_of}
use Rattle.transfer_rx.specs.Reassembly.{Setting}
use Rattle.transfer_rx.specs.Run.{is_of}
use Rattle.transfer_rx.proofs.Completeness.{own_wanted}
use Rattle.transfer_tx.specs.Queue.{Queued}
use Rattle.transfer_tx.specs.Run.{of_identifier}
use Rattle.allocatee.specs.Given.{IsAnonymous}
use Rattle.alloc_spec.specs.Transfers.{Offer, SentTransfer, frames_of, ident_of, kind_of, number_of}
use Rattle.alloc_spec_laws.proofs.Choices.{tell}
use Rattle.alloc_spec_laws.specs.Sound.{IsDestination, IsInRange}
use Rattle.alloc_spec_laws.specs.Waiting.{all_frames_put, frames_put}
use Rattle.bus_agreement.specs.LawsBelow.{FrameLaws}
use Rattle.bus_agreement.proofs.Idents.{dest_of, ident_ok, one_what, to_for, wanted_is}
use Rattle.service_calm.proofs.Counting.{is_one, is_to, is_to_false, is_to_true, ones}
use Rattle.service_calm.proofs.Frames.{has_its_id}
use Rattle.service_calm.proofs.Group.{IsOf}
use Rattle.service_alone.proofs.CalmQueue.{of_both}
use Rattle.bus_spec.specs.Cluster.{arrival_at}

-- one identifier
pub some_ident : (x y : Ident) → Some x ≡ Some y → x ≡ y
some_ident x y e = cc (e)

not_true : (b : Bool) → (b ≡ true → ⊥) → b ≡ false
not_true b no_way = elim (tell b) [ inl t ↦ absurd (no_way t) | inr f ↦ f ]

module _ (laws : FrameLaws) (n : ℕ) (setting : Setting) (what : What) (to : ℕ) (node : (1 ≤ n) × (n ≤ 125)) (some : (1 ≤ setting.me) ⊎ (kind_of what ≡ Message))
    (dest : IsDestination (kind_of what) to) (known : is_anonymous (kind_of what) ≡ false) (for_it : is_for setting.me (ident_of n what to) ≡ true) where
  abbrev number : ℕ
  number = identifier_number (ident_of n what to)

  abbrev key : Key
  key = key_of (ident_of n what to)

  -- the frame has another identifier, and is of another key
  abbrev pub IsOther : Queued → Type 0
  IsOther frame = (frame.id ≢ number) × ((moment : ℕ) → is_of setting key (arrival_at frame moment) ≡ false)

  reads : (p : ℕ) (a : What) (there : ℕ) → (1 ≤ p) × (p ≤ 125) → IsDestination (kind_of a) there → identifier_of (identifier_number (ident_of p a there)) ≡ Some (ident_of p a there)
  reads p a there low at = laws.ident_read (ident_of p a there) (ident_ok p a there low.0 low.1 at)

  -- a frame of the key has an identifier with these fields
  abbrev ReadAs : Queued → Ident → Type 0
  ReadAs frame ident = (ident.kind ≡ kind_of what) × (ident.number ≡ number_of what) × (ident.source ≡ n) × (is_for setting.me ident ≡ true) × (is_anonymous ident.kind ≡ false)

  of_key_reads : (frame : Queued) (moment : ℕ) (ident : Ident) → identifier_of frame.id ≡ Some ident → is_of setting key (arrival_at frame moment) ≡ true → ReadAs frame ident
  of_key_reads frame moment ident read is =
      let own = own_wanted setting key (arrival_at frame moment) is in
      let wanted = wanted_is setting.rows setting.me frame.id own.w own.accepted in
      let same : own.w.ident ≡ ident = some_ident own.w.ident ident (sym wanted.read ∙ read) in
      subst (ReadAs frame) same (ap (λ (k : Key). k.kind) own.own, ap (λ (k : Key). k.number) own.own, ap (λ (k : Key). k.source) own.own, wanted.for_me, own.of_session)

  or_message : (kind : Kind) → kind ≡ kind_of what → (1 ≤ setting.me) ⊎ (kind ≡ Message)
  or_message kind same = elim some [ inl low ↦ inl low | inr broadcast ↦ inr (same ∙ broadcast) ]

  -- a frame of a member with another identifier
  pub other_of : (p : ℕ) (frame : Queued) → (1 ≤ p) × (p ≤ 125) → IsOf p frame → frame.id ≢ number → IsOther frame
  other_of p frame low is differs = (
    differs,
    λ moment. not_true (is_of setting key (arrival_at frame moment)) (λ e.
        let r = of_key_reads frame moment (ident_of p is.what is.to) (ap (λ (k : ℕ). identifier_of k) is.id ∙ reads p is.what is.to low is.dest) e in
        let same : is.what ≡ what = one_what is.what what (kind_of what) (number_of what) r.0 refl r.1 refl in
        let there : is.to ≡ to_for (kind_of is.what) setting.me = dest_of setting.me p is.what is.to (or_message (kind_of is.what) r.0) is.dest r.3 in
        let here : to ≡ to_for (kind_of what) setting.me = dest_of setting.me n what to some dest for_it in
        let to_is : is.to ≡ to = there ∙ (ap (λ (a : What). to_for (kind_of a) setting.me) same ∙ sym here) in
        differs (is.id ∙ (λ i. identifier_number (ident_of (r.2 i) (same i) (to_is i))))),
  )

  -- a frame of another member
  pub other_members : (p : ℕ) (frame : Queued) → (1 ≤ p) × (p ≤ 125) → p ≢ n → IsOf p frame → IsOther frame
  other_members p frame low apart is = other_of p frame low is (λ e.
      apart (ap (λ (i : Ident). i.source) (some_ident (ident_of p is.what is.to) (ident_of n what to)
      (sym (ap (λ (k : ℕ). identifier_of k) is.id ∙ reads p is.what is.to low is.dest) ∙ (ap (λ (k : ℕ). identifier_of k) e ∙ reads n what to node dest)))))

  -- a frame of a device
  pub other_anonymous : (frame : Queued) → IsAnonymous frame → IsOther frame
  other_anonymous frame is = (
    λ e. cc (
      known,
      ap is_anonymous (sym (ap (λ (i : Ident). i.kind) (some_ident is.ident (ident_of n what to)
          (sym is.read ∙ (ap (λ (k : ℕ). identifier_of k) e ∙ reads n what to node dest)))) ∙ is.kind),
    ),
    λ moment. not_true (is_of setting key (arrival_at frame moment)) (λ e. cc ((of_key_reads frame moment is.ident is.read e).4, ap is_anonymous is.kind)),
  )

  -- ---- what a step puts into the queue

  abbrev sent : ℕ → Offer → SentTransfer
  sent row offer = record { step = row; by = n; offer = offer }

  all_own : (frames : List Queued) → ((frame : Queued) → In frame frames → frame.id ≡ number) → of_identifier number frames ≡ frames
  all_own [] each = refl
  all_own (f ∷ frames) each = elim (eqb_tells f.id number) [
    | inl z ↦ ap (λ (b : Bool). cond b (f ∷ of_identifier number frames) (of_identifier number frames)) z.0
        ∙ ap (λ (l : List Queued). f ∷ l) (all_own frames (λ g i. each g (inr i)))
    | inr z ↦ absurd (z.1 (each f (inl refl)))
  ]

  none_own : (frames : List Queued) → ((frame : Queued) → In frame frames → frame.id ≢ number) → of_identifier number frames ≡ []
  none_own [] each = refl
  none_own (f ∷ frames) each = elim (eqb_tells f.id number) [
    | inl z ↦ absurd (each f (inl refl) z.1)
    | inr z ↦ ap (λ (b : Bool). cond b (f ∷ of_identifier number frames) (of_identifier number frames)) z.0 ∙ none_own frames (λ g i. each g (inr i))
  ]

  one_put : (row : ℕ) (offer : Offer) → IsInRange offer → of_identifier number (frames_put row n offer) ≡ cond (is_one what to offer) (frames_of (sent row offer)) []
  one_put row offer range = by offer.fitted (is_to what to offer) refl refl
    where
      its_id : (frame : Queued) → In frame (frames_of (sent row offer)) → frame.id ≡ identifier_number (ident_of n offer.what offer.to)
      its_id frame i = has_its_id (sent row offer) frame i

      put : offer.fitted ≡ true → frames_put row n offer ≡ frames_of (sent row offer)
      put fit = ap (λ (b : Bool). cond b (frames_of (sent row offer)) []) fit

      is : (b : Bool) → is_one what to offer ≡ b → cond b (frames_of (sent row offer)) [] ≡ cond (is_one what to offer) (frames_of (sent row offer)) []
      is b e = ap (λ (c : Bool). cond c (frames_of (sent row offer)) []) (sym e)

      differs : is_to what to offer ≡ false → (frame : Queued) → In frame (frames_of (sent row offer)) → frame.id ≢ number
      differs e frame i same =
          let idents : ident_of n offer.what offer.to ≡ ident_of n what to = some_ident (ident_of n offer.what offer.to) (ident_of n what to)
          (sym (reads n offer.what offer.to node range.to) ∙ (ap (λ (k : ℕ). identifier_of k) (sym (its_id frame i) ∙ same) ∙ reads n what to node dest)) in
          is_to_false what to offer e
          (one_what offer.what what (kind_of what) (number_of what) (ap (λ (x : Ident). x.kind) idents) refl (ap (λ (x : Ident). x.number) idents) refl)
          (ap (λ (x : Ident). x.dest) idents)

      by : (fits same : Bool) → offer.fitted ≡ fits → is_to what to offer ≡ same
          → of_identifier number (frames_put row n offer) ≡ cond (is_one what to offer) (frames_of (sent row offer)) []
      by false same fit e = ap (λ (b : Bool). of_identifier number (cond b (frames_of (sent row offer)) [])) fit
          ∙ is false (ap (λ (b : Bool). b && is_to what to offer) fit)
      by true true fit e =
          let both = is_to_true what to offer e in
          ap (of_identifier number) (put fit)
          ∙ (all_own (frames_of (sent row offer)) (λ frame i. its_id frame i ∙ (λ j. identifier_number (ident_of n (both.0 j) (both.1 j))))
          ∙ is true (ap (λ (b : Bool). b && is_to what to offer) fit ∙ e))
      by true false fit e = ap (of_identifier number) (put fit)
          ∙ (none_own (frames_of (sent row offer)) (differs e) ∙ is false (ap (λ (b : Bool). b && is_to what to offer) fit ∙ e))

  -- its frames of this identifier are those of the transfers of this kind
  pub own_put : (row : ℕ) (offers : List Offer) → ((offer : Offer) → In offer offers → IsInRange offer)
      → of_identifier number (all_frames_put row n offers) ≡ flat_map (λ (o : Offer). frames_of (sent row o)) (ones what to offers)
  own_put row [] range = refl
  own_put row (offer ∷ offers) range =
      of_both number (frames_put row n offer) (all_frames_put row n offers)
      ∙ ((λ i. one_put row offer (range offer (inl refl)) i ++ own_put row offers (λ o j. range o (inr j)) i) ∙ joins (is_one what to offer))
    where
      joins : (b : Bool) → cond b (frames_of (sent row offer)) [] ++ flat_map (λ (o : Offer). frames_of (sent row o)) (ones what to offers)
          ≡ flat_map (λ (o : Offer). frames_of (sent row o)) (cond b (offer ∷ ones what to offers) (ones what to offers))
      joins true = refl
      joins false = refl
