-- Frames that wait, go out, and are on their way, by their identifier.
use Rattle.std.proofs.Common.{◌≡◌, ℕ, List, [], ◌∷◌, ◌++◌, append-nil, append_assoc, sym, ◌∙◌, ap, Option, Some}
use Rattle.std.specs.Prelude.{nat_eq, option_to_list}
use Rattle.std.proofs.lemmas.List.Elements.{filter-append}
use Rattle.transfer_tx.specs.Queue.{Queued, left_behind, next_out}
use Rattle.transfer_tx.specs.Run.{of_identifier}
use Rattle.transfer_tx.specs.Run.Event.{Pops}
use Rattle.transfer_tx.proofs.Order.{in_order}

-- the frames of an identifier in two lists
pub of_both : (id : ℕ) (xs ys : List Queued) → of_identifier id (xs ++ ys) ≡ of_identifier id xs ++ of_identifier id ys
of_both id xs ys = filter-append (λ (frame : Queued). nat_eq frame.id id) xs ys

-- what is on its way and what waits, where the next frame goes out
pub goes_out : (id : ℕ) (way queue : List Queued) (frame : Queued) → next_out queue ≡ Some frame
    → of_identifier id ((way ++ frame ∷ []) ++ left_behind queue) ≡ of_identifier id (way ++ queue)
goes_out id way queue frame out =
    ap (of_identifier id) (append_assoc way (frame ∷ []) (left_behind queue))
    ∙ (of_both id way (frame ∷ left_behind queue)
    ∙ (ap (λ (l : List Queued). of_identifier id way ++ l) popped ∙ sym (of_both id way queue)))
  where
    popped : of_identifier id (frame ∷ left_behind queue) ≡ of_identifier id queue
    popped = ap (λ (o : Option Queued). of_identifier id ((option_to_list o ++ []) ++ left_behind queue)) (sym out)
        ∙ (in_order id queue (Pops ∷ []) ∙ ap (of_identifier id) (append-nil queue))
