-- By the two services: answers come in the order of the calls.
use Rattle.std.proofs.Common.{◌≡◌, ◌≢◌, ℕ, ◌+◌, ◌≤◌, Bool, true, false, List, [], refl, sym, ap, subst, ◌∙◌, inl, inr, Some, None}
use Rattle.std.specs.Prelude.{◌==◌, ◌||◌}
use Rattle.std.proofs.lemmas.Bool.Decides.{eqb_tells}
use Rattle.can_frame.specs.declared.identifier.Kind.TheVariants.{Response}
use Rattle.raft_model.specs.Lists.{In}
use Rattle.bus_rows.specs.declared.row.Row.{Row}
use Rattle.transfer_rx.specs.Acceptance.{first_signature}
use Rattle.transfer_tx.specs.Queue.{Queued}
use Rattle.alloc_spec.specs.Accepted.{rows as accepted_rows}
use Rattle.alloc_spec.specs.AllocatorState.{AllocatorState}
use Rattle.alloc_spec.specs.Step.{Event}
use Rattle.alloc_spec.specs.Transfers.{number_of}
use Rattle.alloc_spec_laws.specs.Responses.{ResponsesAnswer}
use Rattle.alloc_spec.specs.ClusterMembers.{AreMembers}
use Rattle.bus_spec.specs.Cluster.{cluster, frame_at, world_of}
use Rattle.bus_spec.specs.Lawful.{AreLawful, cause, no_such_frame}
use Rattle.alloc_spec.specs.Accepted.{is_members_service}
use Rattle.bus_spec.specs.Refinement.{transfers_of_rows}
use Rattle.bus_agreement.specs.LawsBelow.{FrameLaws}
use Rattle.bus_agreement.proofs.Concatenations.{ids_stay}
use Rattle.bus_agreement.proofs.Lists.{never}
use Rattle.bus_agreement.proofs.OneRow.{stands}
use Rattle.bus_rows.specs.Timed.{Timed}
use Rattle.bus_physics.specs.Physics.{AllComeInOrder, AnswersInOrder, ComeInOrder, ComesInOrder, IsRecent, IsResponseOf, Limits, heard_by}
use Rattle.bus_physics.proofs.AnswerOrder.{AreOrdered, Known, along, answerer, has_asked, has_begun}
use Rattle.bus_physics.proofs.AnswersHeard.{in_order, of_answer}
use Rattle.bus_physics.proofs.HeardOnBus.{heard_on_bus}
use Rattle.bus_physics.proofs.Members.{MemberLaws}
use Rattle.bus_physics.proofs.Single.{IsShown}

module _ (laws : FrameLaws) (steps : MemberLaws) (answers : (t : AllocatorState) (number : ℕ) (event : Event) → ResponsesAnswer t number event)
    (limits : Limits) (rows_at : List Timed) (ids : List ℕ) (members : AreMembers ids)
    (shown : (rows : List Row) → AreLawful (cluster ids) rows → IsShown ids rows) where
  its_members : (rows : List Row) → AreMembers (world_of ids rows).ids
  its_members rows = subst AreMembers (sym (ids_stay (cluster ids) rows)) members

  module _ (append : Bool) (source n : ℕ) where
    known : (rows : List Row) → AreLawful (cluster ids) rows → Known limits rows_at append source n (world_of ids rows) (transfers_of_rows (cluster ids) rows [])
    known rows lawful = record {
      past = (shown rows lawful).shows.past;
      asks = λ row taken k ms e t up offer i what to re f. has_asked limits rows_at append source n laws (shown rows lawful).choice (transfers_of_rows (cluster ids) rows []) (world_of ids rows)
          (shown rows lawful).run (its_members rows) (shown rows lawful).shows (λ t event. answers t ((world_of ids rows).rows + 1) event) k ms
          (ap (cause (world_of ids rows)) (sym e) ∙ taken) t up offer i what to re f;
      begins = λ row taken k ms e t up offer i what to heard on_bus kept re id f g. has_begun limits rows_at append source n laws (shown rows lawful).choice
          (transfers_of_rows (cluster ids) rows []) (world_of ids rows)
          (shown rows lawful).run (its_members rows) (shown rows lawful).shows (λ t event. answers t ((world_of ids rows).rows + 1) event) k ms
          (ap (cause (world_of ids rows)) (sym e) ∙ taken) t up offer i what to heard on_bus kept re id f g;
    }

    pub ordered : (rows : List Row) → AreLawful (cluster ids) rows → ComeInOrder limits rows_at source [] (cluster ids) rows
        → AreOrdered limits rows_at append source n (transfers_of_rows (cluster ids) rows []) (heard_by source (cluster ids) rows)
    ordered rows lawful order = along limits rows_at append source n steps answers ids known rows [] (cluster ids) [] [] refl refl tt lawful order
        (λ f i. absurd i) (λ t up. absurd (cc (up))) (record { asked = λ x i. absurd i; begun = λ x i. absurd i; order = λ x y i. absurd i })

    signature : (a : Bool) → (s : ℕ) × (first_signature accepted_rows Response (number_of (answerer a)) ≡ Some s)
    unfolding accepted_rows
    signature true = (_, refl)
    signature false = (_, refl)

    service : (a : Bool) → is_members_service (number_of (answerer a)) ≡ true
    service true = refl
    service false = refl

    by_service : (rows : List Row) (k : ℕ) → AreLawful (cluster ids) rows → no_such_frame (world_of ids rows) k ≡ None → AllComeInOrder limits rows_at ids (cluster ids) rows
        → ComesInOrder limits rows_at n (heard_by n (cluster ids) rows) (frame_at (world_of ids rows).frames k)
        → IsRecent limits rows_at (frame_at (world_of ids rows).frames k).mark.step → IsRecent limits rows_at (frame_at (world_of ids rows).frames k).mark.re → source ≢ n
        → (other : Queued) → In other (heard_by n (cluster ids) rows) → IsResponseOf (number_of (answerer append)) source n other
        → IsResponseOf (number_of (answerer append)) source n (frame_at (world_of ids rows).frames k) → other.mark.re ≤ (frame_at (world_of ids rows).frames k).mark.re
    by_service rows k lawful there orders order recent asked_lately differs other came is is_too =
        in_order limits rows_at append n laws (shown rows lawful).choice (transfers_of_rows (cluster ids) rows []) (world_of ids rows) (shown rows lawful).run (its_members rows)
        (shown rows lawful).shows (heard_by n (cluster ids) rows) (frame_at (world_of ids rows).frames k) order recent asked_lately source
        (λ f i. heard_on_bus n rows (cluster ids) lawful f i) inside (heard_by source (cluster ids) rows)
        (ordered rows lawful (orders source listed)) differs (signature append).0 (signature append).1 (service append) other came is is_too
      where
        inside : In (frame_at (world_of ids rows).frames k) (world_of ids rows).frames
        inside = stands (world_of ids rows) k there

        listed : In source ids
        listed =
            let a = of_answer limits rows_at append n laws (shown rows lawful).choice (transfers_of_rows (cluster ids) rows []) (world_of ids rows) (shown rows lawful).run (its_members rows)
            (shown rows lawful).shows source (frame_at (world_of ids rows).frames k) inside is_too (service append) in
            subst (λ (l : List ℕ). In source l) (ids_stay (cluster ids) rows) (subst (λ (m : ℕ). In m (world_of ids rows).ids) a.by ((shown rows lawful).shows.holds.transfers.makers a.x a.was_made))

  pub come_in_order : (rows : List Row) (n k : ℕ) → AreLawful (cluster ids) rows → no_such_frame (world_of ids rows) k ≡ None → AllComeInOrder limits rows_at ids (cluster ids) rows
      → ComesInOrder limits rows_at n (heard_by n (cluster ids) rows) (frame_at (world_of ids rows).frames k)
      → AnswersInOrder limits rows_at n (heard_by n (cluster ids) rows) (frame_at (world_of ids rows).frames k)
  come_in_order rows n k lawful there orders order recent asked_lately other number source differs came service_ is is_too = elim (eqb_tells number 30) [
    | inl append ↦ by_service true source n rows k lawful there orders order recent asked_lately differs other came
        (subst (λ (m : ℕ). IsResponseOf m source n other) append.1 is) (subst (λ (m : ℕ). IsResponseOf m source n (frame_at (world_of ids rows).frames k)) append.1 is_too)
    | inr not_append ↦ elim (eqb_tells number 31) [
      | inl vote ↦ by_service false source n rows k lawful there orders order recent asked_lately differs other came
          (subst (λ (m : ℕ). IsResponseOf m source n other) vote.1 is) (subst (λ (m : ℕ). IsResponseOf m source n (frame_at (world_of ids rows).frames k)) vote.1 is_too)
      | inr not_vote ↦ never (sym (ap (λ (b : Bool). b || (number == 31)) not_append.0 ∙ not_vote.0) ∙ service_)
    ]
  ]
