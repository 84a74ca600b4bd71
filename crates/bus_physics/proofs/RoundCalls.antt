-- A transfer ID of a member's calls to a node comes round late, or behind calls that were answered, by the two kinds of
-- calls.
use Rattle.std.proofs.Common.{◌≡◌, ℕ, ◌+◌, ◌*◌, ◌<◌, ◌≤◌, Bool, true, false, List, [], ◌∷◌, ◌++◌, refl, sym, ap, subst, ◌∙◌, arith, ◌⊎◌, inl, inr}
use Rattle.std.specs.Prelude.{nat_eq}
use Rattle.can_frame.specs.declared.identifier.Kind.TheVariants.{Request as RequestKind}
use Rattle.can_frame.specs.declared.step.What.{What}
use Rattle.can_frame.specs.declared.step.What.TheVariants.{AppQ, VoteQ}
use Rattle.can_frame.specs.Identifier.{identifier_number}
use Rattle.raft_core.specs.Times.{Times}
use Rattle.raft_model.specs.Lists.{In}
use Rattle.raft_model.specs.Server.{Memory}
use Rattle.bus_rows.specs.declared.row.Row.{Row}
use Rattle.alloc_spec.specs.AllocatorState.{AllocatorState}
use Rattle.alloc_spec.specs.Step.{Event, step}
use Rattle.transfer_rx.specs.Sessions.{next_id}
use Rattle.alloc_spec.specs.Transfers.{SentTransfer, ident_of, kind_of}
use Rattle.alloc_spec_laws.specs.Calls.{CallsAreMade}
use Rattle.alloc_spec_laws.specs.Sound.{IsDestination}
use Rattle.alloc_spec.specs.ClusterMembers.{AreMembers}
use Rattle.bus_spec.specs.Cluster.{cluster, world_of}
use Rattle.bus_spec.specs.Lawful.{AreLawful}
use Rattle.bus_spec.specs.Refinement.{transfers_of_rows}
use Rattle.bus_agreement.specs.LawsBelow.{FrameLaws}
use Rattle.bus_agreement.specs.Said.{carrier}
use Rattle.bus_agreement.proofs.Concatenations.{ids_stay}
use Rattle.bus_rows.specs.Timed.{Timed, rows_in}
use Rattle.bus_physics.specs.Physics.{AreApart, ClockIsNotFast, HoldsAreShort, IsAnsweredSince, IsParted, Limits, RestsBeforeOpening, WaitsForAnswers, heard_by, joining_span, lag, time_of, IsRecent}
use Rattle.bus_physics.proofs.AnswerOrder.{AreOrdered, HasBegun}
use Rattle.bus_physics.proofs.HeardAnswers.{answers_are_heard}
use Rattle.bus_physics.proofs.Single.{IsShown}
use Rattle.bus_physics.proofs.SpacedCalls.{AreSettled, IsCallTo, IsResponded, IsSettled, Known, along}
use Rattle.bus_physics.proofs.SpacedVotes.{Asked, spaced_votes}
use Rattle.bus_physics.proofs.Spacing.{Open, spaced_appends}
use Rattle.bus_physics.proofs.StepCalls.{IsSpaced}
use Rattle.bus_physics.proofs.Waiting.{waits_along}

module _ (laws : FrameLaws) (called : (t : AllocatorState) (number : ℕ) (event : Event) → CallsAreMade number t (step t number event).step_state) (ids : List ℕ)
    (members : AreMembers ids) (shown : (rows : List Row) → AreLawful (cluster ids) rows → IsShown ids rows) (limits : Limits) (before : List Timed) (now : Timed) (n : ℕ)
    (lawful : AreLawful (cluster ids) (rows_in before)) (slow : ClockIsNotFast limits n [] (cluster ids) before) where
  abbrev all : List Timed
  all = before ++ now ∷ []

  abbrev made : List SentTransfer
  made = transfers_of_rows (cluster ids) (rows_in before) []

  module _ (short : HoldsAreShort limits) (rests : RestsBeforeOpening limits all made n) where
    module _ (append : Bool) (p width : ℕ) (P : ℕ → ℕ → Memory → Times → ℕ → Type 0) (spaced : IsSpaced append p width P) (small : p < 128)
        (wide : 20000 ≤ width) where
      known : (rows : List Row) → AreLawful (cluster ids) rows → Known append p width P spaced small n limits all (world_of ids rows) (transfers_of_rows (cluster ids) rows [])
      known rows so_far = record {
        earlier = (shown rows so_far).shows.past;
        small_ids = λ x i. ((shown rows so_far).shows.holds.transfers.ranges x i).id;
        answered = answers_are_heard append p width P spaced small n laws (shown rows so_far).choice (transfers_of_rows (cluster ids) rows []) (world_of ids rows)
            (shown rows so_far).run (subst AreMembers (sym (ids_stay (cluster ids) rows)) members) (shown rows so_far).shows
            (waits_along called n rows (cluster ids) [] (λ t up. absurd (cc (up))) (λ x i. absurd i));
      }

      pub settled : AreSettled append p width P spaced small n limits all made (heard_by n (cluster ids) (rows_in before))
      settled = along append p width P spaced small n limits all short wide ids known before [] (now ∷ []) (cluster ids) [] [] [] refl refl refl refl tt lawful slow
          rests (λ t up. absurd (cc (up))) (λ x y i. absurd i)

    -- what is said of two calls of a kind under one transfer ID, whatever it is
    module _ (Said : SentTransfer → SentTransfer → Type 0)
        (says : (append : Bool) (p width : ℕ) (P : ℕ → ℕ → Memory → Times → ℕ → Type 0) (spaced : IsSpaced append p width P) (small : p < 128) (x y : SentTransfer)
        → IsCallTo append p width P spaced small n x → IsSettled append p width P spaced small n limits all made (heard_by n (cluster ids) (rows_in before)) x y → Said x y) where
      small_to : (x : SentTransfer) → In x made → kind_of x.offer.what ≡ RequestKind → x.offer.to < 128
      small_to x i is = let r = subst (λ (k : _). IsDestination k x.offer.to) is ((shown (rows_in before) lawful).shows.holds.transfers.ranges x i).to in omega (arith, r.1)

      of_kind : (append : Bool) (p width : ℕ) (P : ℕ → ℕ → Memory → Times → ℕ → Type 0) (spaced : IsSpaced append p width P) (small : p < 128) (wide : 20000 ≤ width)
          → (x y : SentTransfer) → In x made → In y made → x.by ≡ n → y.by ≡ n → x.offer.what ≡ y.offer.what → x.offer.to ≡ y.offer.to → x.offer.id ≡ y.offer.id
          → x.step < y.step → x.offer.what ≡ carrier append → x.offer.to ≡ p → Said x y
      of_kind append p width P spaced small wide x y i j by by_too what to id less carries here =
          says append p width P spaced small x y (record { by = by; what = carries; to = here })
          (settled append p width P spaced small wide x y i j (record { by = by; what = carries; to = here })
          (record { by = by_too; what = sym what ∙ carries; to = sym to ∙ here }) id less)

      pub each_kind : (x y : SentTransfer) → In x made → In y made → x.by ≡ n → y.by ≡ n → x.offer.what ≡ y.offer.what → x.offer.to ≡ y.offer.to → x.offer.id ≡ y.offer.id
          → x.step < y.step → (x.offer.what ≡ AppQ) ⊎ (x.offer.what ≡ VoteQ) → Said x y
      each_kind x y i j by by_too what to id less (inl append) =
          of_kind true x.offer.to 31000 (λ M b m times moment. Open x.offer.to M b m times moment) (spaced_appends x.offer.to) (small_to x i (ap kind_of append))
          (omega arith) x y i j by by_too what to id less append refl
      each_kind x y i j by by_too what to id less (inr vote) =
          of_kind false x.offer.to 20000 (λ M b m times moment. Asked x.offer.to M b m times moment) (spaced_votes x.offer.to) (small_to x i (ap kind_of vote))
          (omega arith) x y i j by by_too what to id less vote refl

    pub round_late : WaitsForAnswers limits all made (heard_by n (cluster ids) (rows_in before)) n
    round_late x y i j by by_too what to id less kind recent =
        each_kind (λ x y. IsRecent limits all x.step → (time_of all x.step + 2 * limits.hold < time_of all y.step)
        ⊎ IsAnsweredSince made (heard_by n (cluster ids) (rows_in before)) x) says x y i j by by_too what to id less kind recent
      where
        says : (append : Bool) (p width : ℕ) (P : ℕ → ℕ → Memory → Times → ℕ → Type 0) (spaced : IsSpaced append p width P) (small : p < 128) (x y : SentTransfer)
            → IsCallTo append p width P spaced small n x → IsSettled append p width P spaced small n limits all made (heard_by n (cluster ids) (rows_in before)) x y
            → IsRecent limits all x.step → (time_of all x.step + 2 * limits.hold < time_of all y.step) ⊎ IsAnsweredSince made (heard_by n (cluster ids) (rows_in before)) x
        says append p width P spaced small x y call (inl far) recent = inl far.0
        says append p width P spaced small x y call (inr (inl late)) recent = inr late.0
        says append p width P spaced small x y call (inr (inr (inl parted))) recent = inr (record {
          later = parted.later;
          was_made = parted.was_made;
          after = omega (arith, parted.after);
          answer = parted.answer;
          came = parted.came;
          is = parted.answered;
          answers = parted.answers;
        })
        says append p width P spaced small x y call (inr (inr (inr old))) recent = absurd (omega (arith, recent, old))

    -- the calls to a node that heard frames in order come apart there, where the member's own answers show that it heard them
    pub come_apart : (to : ℕ) → ((append : Bool) → AreOrdered limits all append to n made (heard_by to (cluster ids) (rows_in before)))
        → (x y : SentTransfer) → In x made → In y made → x.by ≡ n → y.by ≡ n → x.offer.what ≡ y.offer.what → x.offer.to ≡ to → y.offer.to ≡ to → x.offer.id ≡ y.offer.id
        → x.step < y.step → (x.offer.what ≡ AppQ) ⊎ (x.offer.what ≡ VoteQ) → IsRecent limits all x.step
        → AreApart (joining_span limits (lag limits)) (time_of all x.step) (time_of all y.step) ⊎ IsParted (heard_by to (cluster ids) (rows_in before)) x y
    come_apart to ordered x y i j by by_too what its_to its_to_too id less kind recent =
        each_kind (λ x y. x.offer.to ≡ to → IsRecent limits all x.step
        → AreApart (joining_span limits (lag limits)) (time_of all x.step) (time_of all y.step) ⊎ IsParted (heard_by to (cluster ids) (rows_in before)) x y)
        says x y i j by by_too what (its_to ∙ sym its_to_too) id less kind its_to recent
      where
        says : (append : Bool) (p width : ℕ) (P : ℕ → ℕ → Memory → Times → ℕ → Type 0) (spaced : IsSpaced append p width P) (small : p < 128) (x y : SentTransfer)
            → IsCallTo append p width P spaced small n x → IsSettled append p width P spaced small n limits all made (heard_by n (cluster ids) (rows_in before)) x y
            → x.offer.to ≡ to → IsRecent limits all x.step
            → AreApart (joining_span limits (lag limits)) (time_of all x.step) (time_of all y.step) ⊎ IsParted (heard_by to (cluster ids) (rows_in before)) x y
        says append p width P spaced small x y call (inl far) here recent = inl (inl far.1)
        says append p width P spaced small x y call (inr (inl late)) here recent = inl (inl late.1)
        says append p width P spaced small x y call (inr (inr (inr old))) here recent = absurd (omega (arith, recent, old))
        says append p width P spaced small x y call (inr (inr (inl parted))) here recent = inr (record {
          frame = begun.frame;
          came = begun.came;
          ident = begun.ident ∙ (ap (λ (m : ℕ). identifier_number (ident_of m (carrier append) to)) (sym call.by)
              ∙ (ap (λ (w : What). identifier_number (ident_of x.by w to)) (sym call.what) ∙ ap (λ (m : ℕ). identifier_number (ident_of x.by x.offer.what m)) (sym here)));
          first = begun.first;
          other = ap (λ (m : ℕ). nat_eq m x.offer.id) (begun.named ∙ r.id) ∙ parted.other;
          not_before = ap (λ (m : ℕ). nat_eq (next_id m) x.offer.id) (begun.named ∙ r.id) ∙ parted.not_before;
          later = omega (arith, begun.step, r.re, parted.after);
          sooner = omega (arith, begun.step, r.re, parted.before);
        })
          where
            r : IsResponded append p width P spaced small n made parted.later
            r = parted.responded

            begun : HasBegun limits all append to n (heard_by to (cluster ids) (rows_in before)) r.response.offer.re r.response.offer.id
            begun = (ordered append).begun r.response r.was_made (record { by = r.by ∙ (sym call.to ∙ here); what = r.what; to = r.to })
