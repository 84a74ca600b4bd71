-- The blocks that sessions use.
use Rattle.std.proofs.Common.{◌≡◌, ℕ, ◌+◌, ◌*◌, ◌<◌, false, ◌&&◌, List, [], ◌∷◌, ◌++◌, length, get_or, take, inl, inr, suc, None, refl, sym, ◌∙◌, ap, arith, nat_lt}
use Rattle.std.specs.List.{sum_by}
use Rattle.std.proofs.lemmas.Bool.{le-ltb, lt-ltb}
use Rattle.std.proofs.lemmas.Bool.Decides.{leb_tells}
use Rattle.std.proofs.lemmas.List.Sums.{sum_by-set}
use Rattle.std.proofs.lemmas.Grind.{common_steps}
use Rattle.can_frame.specs.Cutting.{Piece, joined}
use Rattle.transfer_rx.specs.declared.key.Key.{Key}
use Rattle.transfer_rx.specs.declared.progress.Progress.{Progress}
use Rattle.transfer_rx.specs.Sessions.{Session, others}
use Rattle.transfer_rx.specs.Filled.{IsFree}
use Rattle.transfer_rx.specs.Outcome.{blocks_for, blocks_used, lacks_blocks, session_blocks}
use Rattle.transfer_rx.specs.Places.{Arranged, IsPlaceFor, Places, blocks_at}
use Rattle.transfer_rx.specs.Progress.{IsProgressOf}
use Rattle.transfer_rx.proofs.Arrangement.{sum_besides}
use Rattle.transfer_rx.proofs.Lengths.{length-joined}

-- the bytes that were taken are those of the session
pub bytes_kept : (p : Progress) (bytes : List ℕ) (session : Session) → IsProgressOf p bytes session → 7 * p.taken ≡ length (joined session.taken)
bytes_kept p bytes session k = ap (λ n. 7 * n) k.taken ∙ sym (length-joined session.expected 0 session.taken k.part)

-- the blocks of one place more
pub more : (xs : Places) (i : ℕ) → i < length xs →
    sum_by blocks_at (take (i + 1) xs) ≡ sum_by blocks_at (take i xs) + blocks_at (get_or xs i None)
more xs i h = grind (arith, common_steps)

-- what is free, with the session's own blocks, is all but what the others use
pub used_besides : (blocks : ℕ) (places : Places) (sessions : List Session) (key : Key) (place free own : ℕ) → Arranged places sessions →
    IsPlaceFor key places sessions place → IsFree blocks places free → own ≡ blocks_at (get_or places place None) →
    free + own + blocks_used (others key sessions) ≡ blocks
unfolding blocks_used
used_besides blocks places sessions key place free own a p f o =
    let beside = sum_besides session_blocks places sessions key place a p in
    let without = sum_by-set blocks_at places place None None p.present in
    omega arith

more_than : (a b u : ℕ) → nat_lt a b ≡ nat_lt (a + u) (u + b)
more_than a b u = elim (leb_tells (suc a) b) [
  | inl less ↦ less.0 ∙ sym (lt-ltb (a + u) (u + b) (omega (arith, less.1)))
  | inr not_less ↦ not_less.0 ∙ sym (le-ltb (a + u) (u + b) (omega (arith, not_less.1)))
]

-- fewer blocks are free than a frame needs exactly where the definition says so
pub lacks : (blocks free own needed : ℕ) (piece : Piece) (taken : List Piece) (rest : List Session) →
    (piece.tail.start && piece.tail.end) ≡ false → free + own + blocks_used rest ≡ blocks →
    needed ≡ blocks_for (length (joined (taken ++ piece ∷ []))) → nat_lt (free + own) needed ≡ lacks_blocks blocks piece taken rest
lacks blocks free own needed piece taken rest several f n =
    more_than (free + own) needed (blocks_used rest) ∙ rw (several, f, n) refl
