-- The frames of a device are anonymous.
use Rattle.std.proofs.Common.{◌≡◌, ℕ, suc, ◌<◌, ◌^◌, Bool, true, false, List, [], ◌∷◌, take, drop, refl, sym, ap, subst, ◌∙◌, arith, Some, None, Option}
use Rattle.std.specs.Prelude.{All, if◌then◌else◌, is_some}
use Rattle.std.specs.List.{position_or_len}
use Rattle.std.proofs.lemmas.List.Elements.{All-append, All-cons, All-drop, All-nil, All-take}
use Rattle.can_frame.specs.declared.identifier.Ident.{Ident}
use Rattle.can_frame.specs.Cutting.{Piece, frames_of}
use Rattle.can_frame.specs.Identifier.{IsIdentifier, identifier_number, identifier_of}
use Rattle.transfer_tx.specs.Queue.{Queued, is_least, left_behind, marked, queued_frames}
use Rattle.allocatee.specs.Asking.{Asking, due, next_stage, has_passed, has_room, ident_of, request_offer, outgoing, with_queued, nothing_offered, request_bytes, clock_phase, with_timer_restarted}
use Rattle.allocatee.specs.Given.{IsAnonymous}

abbrev pub ReadsAgain : Type 0
ReadsAgain = (ident : Ident) → IsIdentifier ident → identifier_of (identifier_number ident) ≡ Some ident

identifier : (word : ℕ) → IsIdentifier (ident_of word)
identifier word = record { priority = omega arith; source = omega arith; dest = omega arith; by_kind = (omega arith, refl, refl, omega arith) }

module _ (again : ReadsAgain) where
  anonymous : (word : ℕ) (frame : Queued) → frame.id ≡ identifier_number (ident_of word) → IsAnonymous frame
  anonymous word frame e = record {
    ident = ident_of word;
    read = ap identifier_of e ∙ again (ident_of word) (identifier word);
    kind = refl;
    narrow = subst (λ (n : ℕ). n < 2 ^ 29) (sym e) (omega arith);
  }

  all_marked : (word step re place : ℕ) (pieces : List Piece) → All IsAnonymous (marked (identifier_number (ident_of word)) step re place pieces)
  all_marked word step re place [] = All-nil IsAnonymous
  all_marked word step re place (piece ∷ pieces) =
      All-cons IsAnonymous _ (marked (identifier_number (ident_of word)) step re (suc place) pieces) (anonymous word _ refl) (all_marked word step re (suc place) pieces)

  all_cut : (word id step : ℕ) (payload : List ℕ) → All IsAnonymous (queued_frames (outgoing word id payload) step 0)
  unfolding queued_frames
  all_cut word id step payload = all_marked word step 0 0 (frames_of 0x0b2a812620a11d40 id payload)

  module _ (step word : ℕ) where
    all_queued : (payload : List ℕ) (fits : Bool) (a : Asking) → All IsAnonymous a.queue → All IsAnonymous (with_queued step word payload fits a).queue
    all_queued payload true a all = All-append IsAnonymous a.queue (queued_frames (outgoing word a.id payload) step 0) all (all_cut word a.id step payload)
    all_queued payload false a all = all

    all_offered : (first : Bool) (part : List ℕ) (a : Asking) → All IsAnonymous a.queue → All IsAnonymous (request_offer step word first part a).asking.queue
    all_offered first part a all = all_queued (request_bytes a first part) (has_room a.queue (request_bytes a first part)) a all

    all_asked : (b : Bool) (a : Asking) → All IsAnonymous a.queue
        → All IsAnonymous (if b then request_offer step word true (take 6 a.uid) (with_timer_restarted word a) else nothing_offered a).asking.queue
    all_asked true a all = all_offered true (take 6 a.uid) (with_timer_restarted word a) all
    all_asked false a all = all

    all_gone_on : (known : Option ℕ) (a : Asking) → All IsAnonymous a.queue → All IsAnonymous (next_stage step word known a).asking.queue
    all_gone_on None a all = all_asked (has_passed a.moment a.request) a all
    all_gone_on (Some known) a all = all_offered false (take 6 (drop known a.uid)) (record a { follow_up = None }) all

    all_by : (b : Bool) (a : Asking) → All IsAnonymous a.queue → All IsAnonymous (if b then nothing_offered a else next_stage step word (due a.moment a.follow_up) a).asking.queue
    all_by true a all = all
    all_by false a all = all_gone_on (due a.moment a.follow_up) a all

    pub all_ticks : (a : Asking) → All IsAnonymous a.queue → All IsAnonymous (clock_phase step word a).asking.queue
    unfolding clock_phase
    all_ticks a all = all_by (is_some a.holds) a all

pub all_left : (queue : List Queued) → All IsAnonymous queue → All IsAnonymous (left_behind queue)
unfolding left_behind
all_left queue all =
    let place : ℕ = position_or_len (is_least queue) queue in
    All-append IsAnonymous (take place queue) (drop (suc place) queue) (All-take IsAnonymous place queue all) (All-drop IsAnonymous (suc place) queue all)
