-- A frame that goes on has blocks.
use Rattle.std.proofs.Common.{◌≡◌, ℕ, ◌+◌, ◌*◌, ◌≤◌, Bool, true, false, ◌&&◌, List, [], ◌∷◌, ◌++◌, length, refl, sym, ap, ◌∙◌, arith, nat_lt}
use Rattle.std.specs.Cmp.Lexicographic.{pointwise}
use Rattle.std.proofs.lemmas.Bool.{ltb-false}
use Rattle.can_frame.specs.Cutting.{Piece, joined, payload_of}
use Rattle.transfer_rx.specs.declared.key.Key.{Key}
use Rattle.transfer_rx.specs.declared.progress.Found.{Found}
use Rattle.transfer_rx.specs.Filled.{HasRoomFor}
use Rattle.transfer_rx.specs.Outcome.{Grows, blocks_for, blocks_used, cut_again, is_wrong_length, lacks_blocks, outcome, same_piece, session_blocks}
use Rattle.transfer_rx.specs.Places.{Arranged, IsPlaceFor, Places}
use Rattle.transfer_rx.specs.Sessions.{Session, others}
use Rattle.transfer_rx.specs.Progress.{IsProgressOf}
use Rattle.transfer_rx.specs.Turns.{GoesOn}
use Rattle.transfer_rx.specs.declared.verdict.Verdict.{Verdict}
use Rattle.transfer_rx.specs.declared.verdict.Verdict.TheVariants.{Whole, Open, Spoiled}
use Rattle.transfer_rx.specs.Verdicts.{IfPart, says}
use Rattle.transfer_rx.proofs.Arrangement.{sum_besides}
use Rattle.transfer_rx.proofs.Lengths.{total}
use Rattle.transfer_rx.proofs.Soundness.{grows_only}

and_false : (b : Bool) → b && false ≡ false
and_false true = refl
and_false false = refl

does_not_lack : (blocks signature : ℕ) (piece : Piece) (taken : List Piece) (rest : List Session) → Grows ≡ outcome blocks signature piece taken rest →
    lacks_blocks blocks piece taken rest ≡ false
unfolding outcome
does_not_lack blocks signature piece taken rest e =
    (grows_only (is_wrong_length signature piece (taken ++ piece ∷ [])) (lacks_blocks blocks piece taken rest) piece.tail.end
    (pointwise same_piece (taken ++ piece ∷ []) (cut_again signature piece.tail.id (taken ++ piece ∷ []))) (payload_of (taken ++ piece ∷ [])) (sym e)).2

enough : (blocks : ℕ) (piece : Piece) (taken : List Piece) (rest : List Session) → piece.tail.end ≡ false → lacks_blocks blocks piece taken rest ≡ false →
    blocks_used rest + blocks_for (length (joined (taken ++ piece ∷ []))) ≤ blocks
enough blocks piece taken rest open_end h =
    let several : (piece.tail.start && piece.tail.end) ≡ false = ap (λ b. piece.tail.start && b) open_end ∙ and_false piece.tail.start in
    let few : nat_lt blocks (blocks_used rest + blocks_for (length (joined (taken ++ piece ∷ [])))) ≡ false = rw several at h in
    ltb-false blocks (blocks_used rest + blocks_for (length (joined (taken ++ piece ∷ [])))) few

pub part_room : (verdict : Verdict) (blocks signature : ℕ) (piece : Piece) (places : Places) (sessions : List Session) (key : Key) (found : Found) (session : Session)
    (payload chain : List ℕ) → IfPart verdict (GoesOn found piece) → says payload verdict ≡ outcome blocks signature piece session.taken (others key sessions) →
    Arranged places sessions → IsPlaceFor key places sessions found.place → IsProgressOf found.progress chain session →
    IfPart verdict (HasRoomFor blocks places found.place (7 * found.progress.taken + 7))
unfolding blocks_used
part_room Whole blocks signature piece places sessions key found session payload chain on e a p k = tt
part_room Open blocks signature piece places sessions key found session payload chain on e a p k =
    let room = enough blocks piece session.taken (others key sessions) on.open_end (does_not_lack blocks signature piece session.taken (others key sessions) e) in
    let beside = sum_besides session_blocks places sessions key found.place a p in
    let counted = total session.expected 0 session.taken piece k.part in
    let seven = on.seven in
    let taken = k.taken in
    let bytes : length (joined (session.taken ++ piece ∷ [])) ≡ 7 * found.progress.taken + 7 = omega arith in
    let needed = ap blocks_for bytes in
    omega arith
part_room (Spoiled why) blocks signature piece places sessions key found session payload chain on e a p k = tt
