use Rattle.std.proofs.Common.{arith, ap, length, ◌≡◌, ◌+◌, ◌*◌, ◌∷◌, ◌++◌, ℕ, List, drop}
use Rattle.replay_text.proofs.Numbers.{length-decoded}
use Rattle.arrayvec.specs.ArrayVec.{ArrayVec}
use Rattle.replay_text.specs.Words.{identifier_bytes}
use Rattle.can_logs.proofs.slcan.read_parts.Goals as goal

spelled : (text id sized rest bytes stamp : List ℕ) (digit count n : ℕ) → text ≡ id ++ sized → sized ≡ digit ∷ rest → rest ≡ bytes ++ stamp → digit ≡ 48 + count → count ≡ n
    → 84 ∷ text ≡ 84 ∷ (id ++ (48 + n) ∷ (bytes ++ stamp))
spelled text id sized rest bytes stamp digit count n a b c d e = cc

pub returns-in_err-id-clause-only : goal.returns-in_err-id-clause-only
returns-in_err-id-clause-only c = λ id bytes stamp few reads.
    let line : c.args.text.now ≡ reads.id_word ++ (48 + length bytes) ∷ (reads.bytes_word ++ reads.stamp_word) = ap (drop 1) reads.spelled in
    let eight : length reads.id_word ≡ 8 = let size = (length-decoded reads.id_word (identifier_bytes id) reads.id_read).0 in omega (arith, size) in
    absurd (c.in_err-id.ensures.only reads.id_word _ eight line)

pub returns-in_err-digit-clause-only : goal.returns-in_err-digit-clause-only
returns-in_err-digit-clause-only c = λ id bytes stamp few reads.
    let line : c.args.text.now ≡ reads.id_word ++ (48 + length bytes) ∷ (reads.bytes_word ++ reads.stamp_word) = ap (drop 1) reads.spelled in
    let eight : length reads.id_word ≡ 8 = let size = (length-decoded reads.id_word (identifier_bytes id) reads.id_read).0 in omega (arith, size) in
    let front = c.in_ok-id.ensures.only reads.id_word ((48 + length bytes) ∷ (reads.bytes_word ++ reads.stamp_word)) eight line in
    absurd (c.in_err-digit.ensures.only _ _ front.1)

pub returns-in_err-count-clause-only : goal.returns-in_err-count-clause-only
returns-in_err-count-clause-only c = λ id bytes stamp few reads.
    let line : c.args.text.now ≡ reads.id_word ++ (48 + length bytes) ∷ (reads.bytes_word ++ reads.stamp_word) = ap (drop 1) reads.spelled in
    let eight : length reads.id_word ≡ 8 = let size = (length-decoded reads.id_word (identifier_bytes id) reads.id_read).0 in omega (arith, size) in
    let front = c.in_ok-id.ensures.only reads.id_word ((48 + length bytes) ∷ (reads.bytes_word ++ reads.stamp_word)) eight line in
    let sized = c.in_ok-digit.ensures.only (48 + length bytes) (reads.bytes_word ++ reads.stamp_word) front.1 in
    let found = c.in_err-count.ensures.only (length bytes) few sized.0 in absurd (cc found)

pub returns-in_err-bytes-clause-only : goal.returns-in_err-bytes-clause-only
returns-in_err-bytes-clause-only c = λ id bytes stamp few reads.
    let line : c.args.text.now ≡ reads.id_word ++ (48 + length bytes) ∷ (reads.bytes_word ++ reads.stamp_word) = ap (drop 1) reads.spelled in
    let eight : length reads.id_word ≡ 8 = let size = (length-decoded reads.id_word (identifier_bytes id) reads.id_read).0 in omega (arith, size) in
    let front = c.in_ok-id.ensures.only reads.id_word ((48 + length bytes) ∷ (reads.bytes_word ++ reads.stamp_word)) eight line in
    let sized = c.in_ok-digit.ensures.only (48 + length bytes) (reads.bytes_word ++ reads.stamp_word) front.1 in
    let count : c.in_ok-count.count ≡ length bytes = cc (c.in_ok-count.ensures.only (length bytes) few sized.0) in
    let twice : length reads.bytes_word ≡ 2 * c.in_ok-count.count = let size = (length-decoded reads.bytes_word bytes reads.bytes_read).0 in omega (arith, size, count) in
    absurd (c.in_err-bytes.ensures.only reads.bytes_word reads.stamp_word twice sized.1)

pub returns-in_err-id-2-clause-only : goal.returns-in_err-id-2-clause-only
returns-in_err-id-2-clause-only c = λ id bytes stamp few reads.
    let line : c.args.text.now ≡ reads.id_word ++ (48 + length bytes) ∷ (reads.bytes_word ++ reads.stamp_word) = ap (drop 1) reads.spelled in
    let eight : length reads.id_word ≡ 8 = let size = (length-decoded reads.id_word (identifier_bytes id) reads.id_read).0 in omega (arith, size) in
    let front = c.in_ok-id.ensures.only reads.id_word ((48 + length bytes) ∷ (reads.bytes_word ++ reads.stamp_word)) eight line in
    let narrow = reads.narrow in
    let found = c.in_err-id-2.ensures.only id (omega (arith, narrow)) (rw front.0 reads.id_read) in absurd (cc found)

pub returns-then-id-clause-only : goal.returns-then-id-clause-only
returns-then-id-clause-only c = λ id bytes stamp few reads.
    let line : c.args.text.now ≡ reads.id_word ++ (48 + length bytes) ∷ (reads.bytes_word ++ reads.stamp_word) = ap (drop 1) reads.spelled in
    let eight : length reads.id_word ≡ 8 = let size = (length-decoded reads.id_word (identifier_bytes id) reads.id_read).0 in omega (arith, size) in
    let front = c.in_ok-id.ensures.only reads.id_word ((48 + length bytes) ∷ (reads.bytes_word ++ reads.stamp_word)) eight line in
    let narrow = reads.narrow in
    let same : c.in_ok-id-2.id ≡ id = cc (c.in_ok-id-2.ensures.only id (omega (arith, narrow)) (rw front.0 reads.id_read)) in
    absurd (omega (arith, same, narrow, c.if-id.true))

pub returns-in_err-bytes-2-clause-only : goal.returns-in_err-bytes-2-clause-only
returns-in_err-bytes-2-clause-only c = λ id bytes stamp few reads.
    let line : c.args.text.now ≡ reads.id_word ++ (48 + length bytes) ∷ (reads.bytes_word ++ reads.stamp_word) = ap (drop 1) reads.spelled in
    let eight : length reads.id_word ≡ 8 = let size = (length-decoded reads.id_word (identifier_bytes id) reads.id_read).0 in omega (arith, size) in
    let front = c.in_ok-id.ensures.only reads.id_word ((48 + length bytes) ∷ (reads.bytes_word ++ reads.stamp_word)) eight line in
    let sized = c.in_ok-digit.ensures.only (48 + length bytes) (reads.bytes_word ++ reads.stamp_word) front.1 in
    let count : c.in_ok-count.count ≡ length bytes = cc (c.in_ok-count.ensures.only (length bytes) few sized.0) in
    let twice : length reads.bytes_word ≡ 2 * c.in_ok-count.count = let size = (length-decoded reads.bytes_word bytes reads.bytes_read).0 in omega (arith, size, count) in
    let words = c.in_ok-bytes.ensures.only reads.bytes_word reads.stamp_word twice sized.1 in
    let listed : ArrayVec ℕ = record { items = bytes } in
    let found = c.in_err-bytes-2.ensures.only listed few (rw words.0 reads.bytes_read) in absurd (cc found)

pub returns-in_err-stamp-clause-only : goal.returns-in_err-stamp-clause-only
returns-in_err-stamp-clause-only c = λ id bytes stamp few reads.
    let line : c.args.text.now ≡ reads.id_word ++ (48 + length bytes) ∷ (reads.bytes_word ++ reads.stamp_word) = ap (drop 1) reads.spelled in
    let eight : length reads.id_word ≡ 8 = let size = (length-decoded reads.id_word (identifier_bytes id) reads.id_read).0 in omega (arith, size) in
    let front = c.in_ok-id.ensures.only reads.id_word ((48 + length bytes) ∷ (reads.bytes_word ++ reads.stamp_word)) eight line in
    let sized = c.in_ok-digit.ensures.only (48 + length bytes) (reads.bytes_word ++ reads.stamp_word) front.1 in
    let count : c.in_ok-count.count ≡ length bytes = cc (c.in_ok-count.ensures.only (length bytes) few sized.0) in
    let twice : length reads.bytes_word ≡ 2 * c.in_ok-count.count = let size = (length-decoded reads.bytes_word bytes reads.bytes_read).0 in omega (arith, size, count) in
    let words = c.in_ok-bytes.ensures.only reads.bytes_word reads.stamp_word twice sized.1 in
    let found = c.in_err-stamp.ensures.only stamp (rw words.1 reads.stamp_read) in absurd (cc found)

pub returns-clause-found : goal.returns-clause-found
returns-clause-found c =
    let read = c.in_ok-bytes-2.ensures.found.1 in
    let twice = (length-decoded c.in_ok-bytes.bytes.now c.in_ok-bytes-2.bytes.items read).0 in
    let count : c.in_ok-count.count ≡ length c.in_ok-bytes-2.bytes.items = omega (arith, twice, c.in_ok-bytes.ensures.size) in
    record {
      id_word = c.in_ok-id.id.now;
      bytes_word = c.in_ok-bytes.bytes.now;
      stamp_word = c.in_ok-bytes.stamp.now;
      spelled =
          spelled c.args.text.now c.in_ok-id.id.now c.in_ok-id.sized.now c.in_ok-digit.rest.now c.in_ok-bytes.bytes.now c.in_ok-bytes.stamp.now c.in_ok-digit.digit c.in_ok-count.count (length c.in_ok-bytes-2.bytes.items)
          c.in_ok-id.ensures.found c.in_ok-digit.ensures.found c.in_ok-bytes.ensures.found c.in_ok-count.ensures.found.1 count;
      narrow = omega (arith, c.if-id.false);
      id_read = c.in_ok-id-2.ensures.found;
      bytes_read = read;
      stamp_read = c.in_ok-stamp.ensures.found;
    }

pub returns-clause-only : goal.returns-clause-only
returns-clause-only c = λ id bytes stamp few reads.
    let line : c.args.text.now ≡ reads.id_word ++ (48 + length bytes) ∷ (reads.bytes_word ++ reads.stamp_word) = ap (drop 1) reads.spelled in
    let eight : length reads.id_word ≡ 8 = let size = (length-decoded reads.id_word (identifier_bytes id) reads.id_read).0 in omega (arith, size) in
    let front = c.in_ok-id.ensures.only reads.id_word ((48 + length bytes) ∷ (reads.bytes_word ++ reads.stamp_word)) eight line in
    let sized = c.in_ok-digit.ensures.only (48 + length bytes) (reads.bytes_word ++ reads.stamp_word) front.1 in
    let count : c.in_ok-count.count ≡ length bytes = cc (c.in_ok-count.ensures.only (length bytes) few sized.0) in
    let twice : length reads.bytes_word ≡ 2 * c.in_ok-count.count = let size = (length-decoded reads.bytes_word bytes reads.bytes_read).0 in omega (arith, size, count) in
    let words = c.in_ok-bytes.ensures.only reads.bytes_word reads.stamp_word twice sized.1 in
    let narrow = reads.narrow in
    let same : c.in_ok-id-2.id ≡ id = cc (c.in_ok-id-2.ensures.only id (omega (arith, narrow)) (rw front.0 reads.id_read)) in
    let listed : ArrayVec ℕ = record { items = bytes } in
    let own : c.in_ok-bytes-2.bytes ≡ listed = cc (c.in_ok-bytes-2.ensures.only listed few (rw words.0 reads.bytes_read)) in
    let stamps : c.in_ok-stamp.stamp ≡ stamp = cc (c.in_ok-stamp.ensures.only stamp (rw words.1 reads.stamp_read)) in
    (same, ap (λ v. v.items) own, stamps)
