-- What a link told, and the line of a step.
use Rattle.std.proofs.Common.{◌≡◌, ℕ, List, refl, ap, ◌∙◌}
use Rattle.std.specs.Prelude.{Option, Some, None, Ok}
use Rattle.outside.specs.Contents.{WhereTold}
use Rattle.outside.specs.Readings.{Reads, next_reading, readings_behind}
use Rattle.outside.specs.Traffic.{Receives, items_behind, next_item}
use Rattle.outside.specs.declared.failed.Failed.{Failed}
use Rattle.outside.specs.declared.received.Received.{Received}
use Rattle.can_frame.specs.declared.step.Seen.{Seen}
use Rattle.can_frame.specs.declared.step.Sent.{Sent}
use Rattle.alloc_spec.specs.declared.event.View.{View}
use Rattle.alloc_spec.specs.StepState.{listing_of}
use Rattle.alloc_spec.specs.Delivered.{StepResult}
use Rattle.bus_spec.specs.Report.{line_of_outcome, line_of_view}

pub received : (item : Received) (old new : Option (List Received)) (items : List Received) → WhereTold (Receives {E = Failed} (Ok item)) old new →
    old ≡ Some items → (item ≡ next_item items) × (new ≡ Some (items_behind items))
received item None new items told is = absurd (cc (is))
received item (Some before) None items told is = absurd told
received item (Some before) (Some after) items told is =
    let same : before ≡ items = cc (is) in (told.0 ∙ ap next_item same, ap Some (told.1 ∙ ap items_behind same))

-- a call that failed changed nothing
pub unchanged : {A : Type 0} (old new : Option A) → WhereTold (λ a b. b ≡ a) old new → new ≡ old
unchanged None None told = refl
unchanged None (Some new) told = absurd told
unchanged (Some old) None told = absurd told
unchanged (Some old) (Some new) told = ap Some told

-- what the code shows is what the server shows
pub told_same : (m n : ℕ) (a b : View) (seen : Seen) (sent : List Sent) (step_result : StepResult) → m ≡ n → a ≡ b → seen ≡ step_result.seen → sent ≡ listing_of step_result.step_state →
    line_of_outcome m a seen sent ≡ line_of_view n b step_result
told_same m n a b seen sent step_result id view saw listed =
    ap (λ k. line_of_outcome k a seen sent) id
    ∙ (ap (λ (v : View). line_of_outcome n v seen sent) view
    ∙ (ap (λ (x : Seen). line_of_outcome n b x sent) saw ∙ ap (λ (x : List Sent). line_of_outcome n b step_result.seen x) listed))

pub reads : (moment : ℕ) (old new : Option (List ℕ)) (readings : List ℕ) → WhereTold (Reads moment) old new → old ≡ Some readings →
    (moment ≡ next_reading readings) × (new ≡ Some (readings_behind readings))
reads moment None new readings told is = absurd (cc (is))
reads moment (Some before) None readings told is = absurd told
reads moment (Some before) (Some after) readings told is =
    let same : before ≡ readings = cc (is) in (told.given ∙ ap next_reading same, ap Some (told.rest ∙ ap readings_behind same))
