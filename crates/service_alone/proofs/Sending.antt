-- Frames of one identifier go out in their order.
use Rattle.std.proofs.Common.{◌≡◌, ℕ, suc, true, List, [], ◌∷◌, ◌++◌, length, append-nil, append_assoc, refl, sym, ◌∙◌, ap, subst, arith, Option, Some}
use Rattle.std.specs.Prelude.{⊤, nat_le, not}
use Rattle.std.specs.List.{list_all}
use Rattle.can_frame.specs.Cutting.{Piece, frames_of}
use Rattle.can_frame.specs.Identifier.{identifier_number}
use Rattle.bus_rows.specs.declared.row.Row.TheVariants.{Send}
use Rattle.transfer_tx.specs.declared.outgoing.Outgoing.{Outgoing}
use Rattle.transfer_tx.specs.Queue.{Queued, is_least, left_behind, marked, next_out, queued_frames}
use Rattle.allocatee.specs.Allocatee.{Device}
use Rattle.allocatee.proofs.Requests.{le_is}
use Rattle.alloc_spec.specs.AllocatorState.{AllocatorState}
use Rattle.service_steps.specs.Serving.{with_queue}
use Rattle.bus_spec.specs.declared.unlawful.Unlawful.TheVariants.{NoNode, Stopped}
use Rattle.bus_spec.specs.Cluster.{Cluster, in_list}
use Rattle.bus_spec.specs.Lawful.{because, nothing_to_send, or_else}
use Rattle.bus_spec.specs.Members.{Member, after_sending, is_running, next_frame}
use Rattle.bus_spec.specs.Members.MemberStatus.{Up}
use Rattle.service_alone.proofs.Goes.{CanGo, and_then, one_row, stays}
use Rattle.service_alone.proofs.Members.{IsUp}
use Rattle.service_alone.proofs.Scenes.{At, it_is, own_is}

abbrev pub AreOf : ℕ → List Queued → Type 0
AreOf id [] = ⊤
AreOf id (frame ∷ frames) = (frame.id ≡ id) × AreOf id frames

pub marked_of : (id step re place : ℕ) (pieces : List Piece) → AreOf id (marked id step re place pieces)
marked_of id step re place [] = tt
marked_of id step re place (piece ∷ pieces) = (refl, marked_of id step re (suc place) pieces)

-- the frames of a transfer have one identifier
pub frames_of_one : (what : Outgoing) (step re : ℕ) → AreOf (identifier_number what.ident) (queued_frames what step re)
unfolding queued_frames
frames_of_one what step re = marked_of (identifier_number what.ident) step re 0 (frames_of what.signature what.id what.payload.items)

none_lower : (id low : ℕ) (frames : List Queued) → low ≡ id → AreOf id frames → list_all (λ (other : Queued). nat_le low other.id) frames ≡ true
none_lower id low [] same are = refl
none_lower id low (frame ∷ frames) same are = rw (le_is low frame.id (omega (arith, same, are.0))) (none_lower id low frames same are.1)

first_least : (id : ℕ) (frame : Queued) (frames : List Queued) → AreOf id (frame ∷ frames) → is_least (frame ∷ frames) frame ≡ true
first_least id frame frames are = none_lower id frame.id (frame ∷ frames) are.0 are

pub first_out : (id : ℕ) (frame : Queued) (frames : List Queued) → AreOf id (frame ∷ frames) → next_out (frame ∷ frames) ≡ Some frame
unfolding next_out
first_out id frame frames are = rw (first_least id frame frames are) refl

pub others_left : (id : ℕ) (frame : Queued) (frames : List Queued) → AreOf id (frame ∷ frames) → left_behind (frame ∷ frames) ≡ frames
unfolding left_behind
others_left id frame frames are = rw (first_least id frame frames are) refl

-- ---- the allocator's frames

module _ (n a now : ℕ) where
  sends : (t : AllocatorState) (x : Option Device) (frames : List Queued) (w : Cluster) (id : ℕ) (frame : Queued) (rest : List Queued)
      → AreOf id (frame ∷ rest) → At n a (with_queue (frame ∷ rest) t) x frames w → CanGo w now now 1 (At n a (with_queue rest t) x (frames ++ frame ∷ []))
  sends t x frames w id frame rest are is = one_row (At n a (with_queue rest t) x (frames ++ frame ∷ [])) w (Send n) now (omega arith)
      (λ i. or_else (because NoNode (not (it_is n a w is.ids i))) (or_else (because Stopped (not (is_running (is.up.status i)))) (nothing_to_send (next i))))
      (record {
        ids = is.ids;
        up = subst (IsUp (with_queue rest t)) (sym (own_is w n sent)) (record { status = left; quiet = is.up.quiet });
        there = is.there;
        sent = λ i. is.sent i ++ in_list (next i);
      })
    where
      next : next_frame (w.member n).status ≡ Some frame
      next = ap next_frame is.up.status ∙ first_out id frame rest are

      sent : Member
      sent = record (w.member n) { status = after_sending (w.member n).status }

      left : after_sending (w.member n).status ≡ Up (with_queue rest t)
      left = ap after_sending is.up.status ∙ ap (λ (queue : List Queued). Up (with_queue queue t)) (others_left id frame rest are)

  -- all that waits goes out
  pub drains : (t : AllocatorState) (x : Option Device) (id : ℕ) (queue frames : List Queued) (w : Cluster)
      → AreOf id queue → At n a (with_queue queue t) x frames w → CanGo w now now (length queue) (At n a (with_queue [] t) x (frames ++ queue))
  drains t x id [] frames w are is = stays (At n a (with_queue [] t) x (frames ++ [])) w now
      (subst (λ (l : List Queued). At n a (with_queue [] t) x l w) (sym (append-nil frames)) is)
  drains t x id (frame ∷ rest) frames w are is =
      subst (λ (l : List Queued). CanGo w now now (suc (length rest)) (At n a (with_queue [] t) x l)) (append_assoc frames (frame ∷ []) rest)
      (subst (λ (k : ℕ). CanGo w now now k (At n a (with_queue [] t) x ((frames ++ frame ∷ []) ++ rest))) (omega arith)
      (and_then (At n a (with_queue rest t) x (frames ++ frame ∷ [])) (At n a (with_queue [] t) x ((frames ++ frame ∷ []) ++ rest)) w now now now 1 (length rest)
      (sends t x frames w id frame rest are is)
      (λ v at. drains t x id rest (frames ++ frame ∷ []) v are.1 at)))
