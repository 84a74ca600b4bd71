-- What a place's progress stands for, after each of its changes.
use Rattle.std.proofs.Common.{◌≡◌, ◌≢◌, ℕ, suc, ◌+◌, ◌*◌, ◌%◌, true, false, List, [], ◌∷◌, ◌++◌, length, take, refl, sym, ◌∙◌, ap, subst, arith, nat_eq, length-append, append-nil}
use Rattle.std.proofs.lemmas.Grind.{flat_map-append}
use Rattle.std.proofs.lemmas.Bool.{ne_eqb}
use Rattle.can_frame.specs.declared.tail.Tail.{Tail}
use Rattle.can_frame.specs.declared.mark.Mark.{Mark}
use Rattle.can_frame.specs.Cutting.{Piece, joined, tail_at}
use Rattle.transfer_rx.specs.declared.key.Key.{Key}
use Rattle.transfer_rx.specs.declared.progress.Progress.{Progress}
use Rattle.transfer_rx.specs.Sessions.{Session, next_id, restarted_session, restarts}
use Rattle.transfer_rx.specs.Reassembly.{cut_off, grown}
use Rattle.transfer_rx.specs.Marks.{is_whole}
use Rattle.transfer_rx.specs.Progress.{Begins, IsProgressOf}
use Rattle.transfer_rx.specs.Parts.{IsPart}

empty : Key → ℕ → ℕ → Session
empty key expected moment = record { key = key; expected = expected; taken = []; marks = []; moment = moment }

pub cut_off_keeps : (p r : Progress) (bytes after : List ℕ) (now : ℕ) (session : Session) → IsProgressOf p bytes session →
    IsProgressOf r after (record { key = p.key; expected = next_id p.expected; taken = []; marks = []; moment = now }) →
    IsProgressOf r after (cut_off now session)
cut_off_keeps p r bytes after now session k h = rw (← k.key, ← k.expected) h

pub restarts_here : (tail : Tail) (session : Session) (expected : ℕ) → expected ≡ session.expected → tail.start ≡ true →
    tail.id ≢ expected → (tail.id + 1) % 32 ≢ expected → restarts tail session ≡ true
restarts_here tail session expected e s a b =
    let x : nat_eq tail.id session.expected ≡ false = subst (λ v. nat_eq tail.id v ≡ false) e (ne_eqb _ _ a) in
    let y : nat_eq ((tail.id + 1) % 32) session.expected ≡ false = subst (λ v. nat_eq ((tail.id + 1) % 32) v ≡ false) e (ne_eqb _ _ b) in
    rw (s, x, y) refl

pub restarted_keeps : (p r : Progress) (bytes : List ℕ) (tail : Tail) (session : Session) → IsProgressOf p bytes session →
    tail.start ≡ true → tail.id ≢ p.expected → (tail.id + 1) % 32 ≢ p.expected →
    IsProgressOf r bytes (record { key = p.key; expected = tail.id; taken = []; marks = []; moment = p.moment }) →
    IsProgressOf r bytes (restarted_session tail session)
restarted_keeps p r bytes tail session k s a b h =
    let t : restarts tail session ≡ true = restarts_here tail session p.expected k.expected s a b in
    rw (t, ← k.key, ← k.moment) h

pub part-push : (id place : ℕ) (pieces : List Piece) (piece : Piece) → IsPart id place pieces → length piece.bytes ≡ 7 →
    piece.tail ≡ tail_at id (place + length pieces) false → IsPart id place (pieces ++ piece ∷ [])
part-push id place [] piece p n t =
    let e : place + 0 ≡ place = omega arith in (n, rw e at t, tt)
part-push id place (first ∷ pieces) piece p n t =
    let e : place + suc (length pieces) ≡ suc place + length pieces = omega arith in
    (p.0, p.1, part-push id (suc place) pieces piece p.2 n (rw e at t))

pub grown_keeps : (p q : Progress) (bytes after : List ℕ) (now : ℕ) (session : Session) (piece : Piece) (mark : Mark) →
    IsProgressOf p bytes session → length piece.bytes ≡ 7 → piece.tail ≡ tail_at session.expected (length session.taken) false →
    take (7 * (p.taken + 1)) after ≡ take (7 * p.taken) bytes ++ piece.bytes →
    q.key ≡ p.key → q.expected ≡ p.expected → q.taken ≡ p.taken + 1 → q.moment ≡ now →
    Begins q.step (session.marks ++ mark ∷ []) → q.whole ≡ is_whole (session.marks ++ mark ∷ []) →
    IsProgressOf q after (grown piece mark now session)
grown_keeps p q bytes after now session piece mark k n t e qk qe qt qm qs qw =
    let one : length (session.taken ++ piece ∷ []) ≡ length session.taken + 1 = length-append session.taken (piece ∷ []) in
    let marks : length (session.marks ++ mark ∷ []) ≡ length session.marks + 1 = length-append session.marks (mark ∷ []) in
    let joint : joined (session.taken ++ piece ∷ []) ≡ joined session.taken ++ joined (piece ∷ []) = flat_map-append (λ (x : Piece). x.bytes) session.taken (piece ∷ []) in
    let last : joined (piece ∷ []) ≡ piece.bytes = append-nil piece.bytes in
    let place : 0 + length session.taken ≡ length session.taken = omega arith in
    record {
      key = qk ∙ k.key;
      expected = qe ∙ k.expected;
      moment = qm;
      taken = omega (arith, k.taken);
      part = part-push session.expected 0 session.taken piece k.part n (rw place t);
      collected = ap (λ c. take (7 * c) after) qt ∙ e ∙ ap (λ l. l ++ piece.bytes) k.collected ∙ sym (joint ∙ ap (λ l. joined session.taken ++ l) last);
      marks = omega (arith, k.marks);
      begun = qs;
      whole = qw;
    }

pub longer : (taken : ℕ) (bytes old new added more : List ℕ) → old ≡ bytes → more ≡ added → length added ≡ 7 →
    take (7 * taken + length added) new ≡ take (7 * taken) old ++ added → take (7 * (taken + 1)) new ≡ take (7 * taken) bytes ++ more
longer taken bytes old new added more o m n h =
    let e : 7 * (taken + 1) ≡ 7 * taken + length added = omega arith in
    ap (λ k. take k new) e ∙ h ∙ (λ i. take (7 * taken) (o i) ++ sym m i)
