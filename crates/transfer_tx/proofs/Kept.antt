-- A queue that is kept in the reverse of the order of going out.
use Rattle.std.proofs.Common.{◌≡◌, true, false, ℕ, zero, suc, ◌+◌, ◌-◌, ◌≤◌, ◌<◌, List, [], ◌∷◌, ◌++◌, length, map, take, drop, get_or, refl, ap, sym, ◌∙◌, arith, inl, inr, length-append, reverse}
use Rattle.std.specs.Prelude.{All, IsNone, Option, Some, None, insert, option_map, remove, slice_get}
use Rattle.std.proofs.lemmas.Bool.Decides.{eqb_tells, leb_tells}
use Rattle.std.proofs.lemmas.List.{drop-map, length-map, map-append, take-map, take-append-drop, take_all, drop_all, get_or-take, length-take-le, reverse-append, reverse-reverse}
use Rattle.std.proofs.Math.Seq.{take-suc, get_or-append_seam}
use Rattle.std.proofs.Math.ListN.{get_or-append}
use Rattle.std.proofs.lemmas.List.Edits.{get_or-insert_above, get_or-insert_at, get_or-insert_below, insert-append_left, length-insert}
use Rattle.std.proofs.lemmas.List.Elements.{All-append, All-cons, All-drop, All-take}
use Rattle.transfer_tx.specs.declared.marked.Marked.{Marked}
use Rattle.transfer_tx.specs.Kept.{IsInOrder, in_order_of_offering, offered_of}
use Rattle.transfer_tx.specs.Queue.{GoesNext, Queued, blank, first_out, id_at, in_order_of_going, left_behind, next_out}
use Rattle.transfer_tx.specs.Views.{queued_of}
use Rattle.transfer_tx.proofs.Order.{next_is, rest_is}

-- ---- lists

length-inserted : (xs : List Queued) (i : ℕ) (x : Queued) → length (insert xs i x) ≡ suc (length xs)
length-inserted xs i x =
    let all = ap length (take-append-drop i xs) in
    let parts = length-append (take i xs) (drop i xs) in
    let more = length-append (take i xs) (x ∷ drop i xs) in
    omega arith

remove-insert : (i : ℕ) (xs : List Queued) (x : Queued) → i ≤ length xs → remove (insert xs i x) i ≡ xs
remove-insert zero xs x h = refl
remove-insert (suc i) [] x h = absurd (omega arith)
remove-insert (suc i) (y ∷ ys) x h = ap (λ more. y ∷ more) (remove-insert i ys x (omega arith))

insert-end : (xs : List Queued) (i : ℕ) (x : Queued) → length xs ≤ i → insert xs i x ≡ xs ++ x ∷ []
insert-end xs i x h = rw (take_all i xs h, drop_all i xs h) refl

-- ---- the order of offering

length-offered : (frame : ℕ → Queued) (earlier : ℕ → ℕ) (n : ℕ) → length (offered_of frame earlier n) ≡ n
length-offered frame earlier zero = refl
length-offered frame earlier (suc n) =
    length-inserted (offered_of frame earlier n) (earlier n) (frame n) ∙ ap suc (length-offered frame earlier n)

same_below : (frame frame' : ℕ → Queued) (earlier earlier' : ℕ → ℕ) (n : ℕ) → ((k : ℕ) → k < n → frame' k ≡ frame k) → ((k : ℕ) → k < n → earlier' k ≡ earlier k) →
    offered_of frame' earlier' n ≡ offered_of frame earlier n
same_below frame frame' earlier earlier' zero f e = refl
same_below frame frame' earlier earlier' (suc n) f e =
    let same = same_below frame frame' earlier earlier' n (λ k h. f k (omega arith)) (λ k h. e k (omega arith)) in
    rw (same, f n (omega arith), e n (omega arith)) refl

all_offered : (P : Queued → Type 0) (frame : ℕ → Queued) (earlier : ℕ → ℕ) (n : ℕ) → ((k : ℕ) → k < n → P (frame k)) → All P (offered_of frame earlier n)
all_offered P frame earlier zero h = λ k d l. absurd (omega arith)
all_offered P frame earlier (suc n) h =
    let rest = all_offered P frame earlier n (λ k l. h k (omega arith)) in
    All-append P (take (earlier n) (offered_of frame earlier n)) (frame n ∷ drop (earlier n) (offered_of frame earlier n))
    (All-take P (earlier n) (offered_of frame earlier n) rest)
    (All-cons P (frame n) (drop (earlier n) (offered_of frame earlier n)) (h n (omega arith)) (All-drop P (earlier n) (offered_of frame earlier n) rest))

-- ---- the next one out

module _ (frame : ℕ → Queued) (earlier : ℕ → ℕ) (n : ℕ) (next : GoesNext (offered_of frame earlier (suc n)) (earlier n)) where
  within : earlier n ≤ length (offered_of frame earlier n)
  within = omega (arith, next.present, length-inserted (offered_of frame earlier n) (earlier n) (frame n))

  pub last_is_next : next_out (offered_of frame earlier (suc n)) ≡ Some (frame n)
  last_is_next = next_is (offered_of frame earlier (suc n)) (earlier n) blank next
      ∙ ap (λ x. Some x) (get_or-insert_at (offered_of frame earlier n) (earlier n) (frame n) blank within)

  pub others_stay : left_behind (offered_of frame earlier (suc n)) ≡ offered_of frame earlier n
  others_stay = rest_is (offered_of frame earlier (suc n)) (earlier n) next ∙ remove-insert (earlier n) (offered_of frame earlier n) (frame n) within

module _ (frames : List Queued) (earlier : ℕ → ℕ) where
  step_state-offered : (n : ℕ) → n ≤ length frames →
      ((k : ℕ) → k < n → GoesNext (offered_of (λ j. get_or frames j blank) earlier (suc k)) (earlier k)) →
      first_out n (offered_of (λ j. get_or frames j blank) earlier n) ≡ reverse (take n frames)
  step_state-offered zero h next = refl
  step_state-offered (suc n) h next =
      let last = next n (omega arith) in
      let out = last_is_next (λ j. get_or frames j blank) earlier n last in
      let rest = others_stay (λ j. get_or frames j blank) earlier n last in
      rw (out, rest)
      (ap (λ more. get_or frames n blank ∷ more) (step_state-offered n (omega arith) (λ k l. next k (omega arith)))
      ∙ sym (ap reverse (take-suc frames n blank (omega arith)) ∙ reverse-append (take n frames) (get_or frames n blank ∷ [])))

pub kept_in_order : (size : ℕ) (frames : List Queued) (earlier : List ℕ) → IsInOrder size frames earlier →
    frames ≡ reverse (in_order_of_going (in_order_of_offering frames earlier))
unfolding in_order_of_going
kept_in_order size frames earlier kept =
    let at = λ (k : ℕ). get_or earlier k 0 in
    let n = length-offered (λ j. get_or frames j blank) at (length frames) in
    sym (ap reverse (ap (λ m. first_out m (in_order_of_offering frames earlier)) n
    ∙ step_state-offered frames at (length frames) (omega arith) kept.next
    ∙ ap reverse (take_all (length frames) frames (omega arith))) ∙ reverse-reverse frames)

-- ---- taking the last one

pub length-in_order : (frames : List Queued) (earlier : List ℕ) → length (in_order_of_offering frames earlier) ≡ length frames
length-in_order frames earlier = length-offered (λ k. get_or frames k blank) (λ k. get_or earlier k 0) (length frames)

abbrev at : List Queued → ℕ → Queued
at frames k = get_or frames k blank

abbrev since : List ℕ → ℕ → ℕ
since earlier k = get_or earlier k 0

-- without the last one, which goes out next
pub record IsTakenOut (size n : ℕ) (frames : List Queued) (earlier : List ℕ) : Type 0 where
  pub kept : IsInOrder size (take n frames) (take n earlier)
  pub next : next_out (in_order_of_offering frames earlier) ≡ Some (get_or frames n blank)
  pub rest : in_order_of_offering (take n frames) (take n earlier) ≡ left_behind (in_order_of_offering frames earlier)

module _ (size n : ℕ) (frames : List Queued) (earlier : List ℕ) (kept : IsInOrder size frames earlier) (size_is : length frames ≡ suc n) where
  fewer : length (take n frames) ≡ n
  fewer = length-take-le n frames (omega arith)

  last : GoesNext (offered_of (at frames) (since earlier) (suc n)) (since earlier n)
  last = kept.next n (omega arith)

  front : (m : ℕ) → m ≤ n → offered_of (at (take n frames)) (since (take n earlier)) m ≡ offered_of (at frames) (since earlier) m
  front m h = same_below (at frames) (at (take n frames)) (since earlier) (since (take n earlier)) m
      (λ j l. get_or-take n frames j blank (omega arith)) (λ j l. get_or-take n earlier j 0 (omega arith))

  id_in_front : (k : ℕ) → k < n → id_at (take n frames) k ≡ id_at frames k
  id_in_front k h = ap (λ (q : Queued). q.id) (get_or-take n frames k blank h)

  pub taken_out : IsTakenOut size n frames earlier
  taken_out = record {
    kept = record {
      few = omega (arith, fewer, kept.few);
      most = kept.most;
      same = length-take-le n earlier (omega (arith, kept.same)) ∙ sym fewer;
      falling = λ j k l h.
          omega (arith, id_in_front k (omega (arith, fewer)), id_in_front j (omega (arith, fewer)), kept.falling j k l (omega (arith, fewer)));
      next = λ k h.
          let less : k < n = omega (arith, fewer) in
          rw (front (suc k) less, get_or-take n earlier k 0 less) (kept.next k (omega arith));
    };
    next = ap (λ m. next_out (offered_of (at frames) (since earlier) m)) size_is ∙ last_is_next (at frames) (since earlier) n last;
    rest =
        ap (λ m. offered_of (at (take n frames)) (since (take n earlier)) m) fewer
        ∙ front n (omega arith)
        ∙ sym (ap (λ m. left_behind (offered_of (at frames) (since earlier) m)) size_is ∙ others_stay (at frames) (since earlier) n last);
  }

-- ---- putting one in

push_last : (xs : List Queued) (i : ℕ) (x : Queued) → GoesNext xs i → id_at xs i ≤ x.id → GoesNext (xs ++ x ∷ []) i
push_last xs i x next h =
    let more = length-append xs (x ∷ []) in
    let here = ap (λ (q : Queued). q.id) (get_or-append xs (x ∷ []) blank i next.present) in
    record {
      present = omega (arith, more, next.present);
      least = λ other l. elim (leb_tells (length xs) other) [
        | inr below ↦
            let there = ap (λ (q : Queued). q.id) (get_or-append xs (x ∷ []) blank other below.1) in
            omega (arith, here, there, next.least other below.1)
        | inl above ↦
            let at : other ≡ length xs = omega (arith, l, more, above.1) in
            let seam : id_at (xs ++ x ∷ []) (length xs) ≡ x.id = ap (λ (q : Queued). q.id) (get_or-append_seam xs x [] blank) in
            let there : id_at (xs ++ x ∷ []) other ≡ x.id = ap (λ k. id_at (xs ++ x ∷ []) k) at ∙ seam in
            omega (arith, here, there, h)
      ];
      first = λ other l.
          let there = ap (λ (q : Queued). q.id) (get_or-append xs (x ∷ []) blank other (omega (arith, l, next.present))) in
          omega (arith, here, there, next.first other l);
    }

lowest_last : (xs : List Queued) (i : ℕ) (x : Queued) → length xs ≡ i → All (λ (q : Queued). x.id < q.id) xs → GoesNext (xs ++ x ∷ []) i
lowest_last xs i x size higher =
    let more = length-append xs (x ∷ []) in
    let here : id_at (xs ++ x ∷ []) i ≡ x.id =
    ap (λ k. id_at (xs ++ x ∷ []) k) (sym size) ∙ ap (λ (q : Queued). q.id) (get_or-append_seam xs x [] blank) in
    record {
      present = omega (arith, more, size);
      least = λ other l. elim (leb_tells (length xs) other) [
        | inr below ↦
            let there = ap (λ (q : Queued). q.id) (get_or-append xs (x ∷ []) blank other below.1) in
            omega (arith, here, there, higher other blank below.1)
        | inl above ↦
            let at : other ≡ i = omega (arith, l, more, above.1, size) in
            let there : id_at (xs ++ x ∷ []) other ≡ x.id = ap (λ k. id_at (xs ++ x ∷ []) k) at ∙ here in
            omega (arith, here, there)
      ];
      first = λ other l.
          let below : other < length xs = omega (arith, l, size) in
          let there = ap (λ (q : Queued). q.id) (get_or-append xs (x ∷ []) blank other below) in
          omega (arith, here, there, higher other blank below);
    }

-- frames, and the same frames with one more between them
module _ (frame frame' : ℕ → Queued) (earlier earlier' : ℕ → ℕ) (n place : ℕ) (x : Queued)
    (frame_below : (k : ℕ) → k < place → frame' k ≡ frame k) (frame_here : frame' place ≡ x) (frame_above : (k : ℕ) → place ≤ k → frame' (suc k) ≡ frame k)
    (earlier_below : (k : ℕ) → k < place → earlier' k ≡ earlier k) (earlier_here : earlier' place ≡ place) (earlier_above : (k : ℕ) → place ≤ k → earlier' (suc k) ≡ earlier k)
    (next : (k : ℕ) → k < n → GoesNext (offered_of frame earlier (suc k)) (earlier k)) where
  below : (k : ℕ) → k ≤ place → offered_of frame' earlier' k ≡ offered_of frame earlier k
  below k h = same_below frame frame' earlier earlier' k (λ j l. frame_below j (omega arith)) (λ j l. earlier_below j (omega arith))

  here : (k : ℕ) → k ≡ place → offered_of frame' earlier' (suc k) ≡ offered_of frame earlier k ++ x ∷ []
  here k e =
      let size : length (offered_of frame earlier k) ≤ place = omega (arith, e, length-offered frame earlier k) in
      rw (below k (omega arith), ap earlier' e ∙ earlier_here, ap frame' e ∙ frame_here) (insert-end (offered_of frame earlier k) place x size)

  above : (k : ℕ) → place ≤ k → k ≤ n → offered_of frame' earlier' (suc k) ≡ offered_of frame earlier k ++ x ∷ []
  above zero l h = here zero (omega arith)
  above (suc k) l h = elim (eqb_tells (suc k) place) [
    | inl same ↦ here (suc k) same.1
    | inr apart ↦
        let before = apart.1 in
        let less : place ≤ k = omega (arith, before, l) in
        rw (above k less (omega arith), earlier_above k less, frame_above k less)
        (insert-append_left (offered_of frame earlier k) (x ∷ []) (earlier k) (frame k) (within frame earlier k (next k (omega arith))))
  ]

  module _ (higher : (k : ℕ) → k < place → x.id < (frame k).id) (others : (k : ℕ) → place ≤ k → k < n → (frame k).id ≤ x.id) where
    at_place : (k : ℕ) → k ≡ place → k ≤ n → GoesNext (offered_of frame' earlier' (suc k)) (earlier' k)
    at_place k e h =
        let size : length (offered_of frame earlier k) ≡ place = length-offered frame earlier k ∙ e in
        rw (here k e, ap earlier' e ∙ earlier_here)
        (lowest_last (offered_of frame earlier k) place x size
        (all_offered (λ (q : Queued). x.id < q.id) frame earlier k (λ j l. higher j (omega arith))))

    before_place : (k : ℕ) → k < place → k ≤ n → place ≤ n → GoesNext (offered_of frame' earlier' (suc k)) (earlier' k)
    before_place k l h fits = rw (below (suc k) (omega arith), earlier_below k l) (next k (omega arith))

    behind_place : (k : ℕ) → place ≤ k → k < n → GoesNext (offered_of frame' earlier' (suc (suc k))) (earlier' (suc k))
    behind_place k l h =
        let old = next k h in
        let own : id_at (offered_of frame earlier (suc k)) (earlier k) ≡ (frame k).id =
        ap (λ (q : Queued). q.id) (get_or-insert_at (offered_of frame earlier k) (earlier k) (frame k) blank (within frame earlier k old)) in
        rw (above (suc k) (omega arith) (omega arith), earlier_above k l)
        (push_last (offered_of frame earlier (suc k)) (earlier k) x old (omega (arith, own, others k l h)))

    next_after : place ≤ n → (k : ℕ) → k ≤ n → GoesNext (offered_of frame' earlier' (suc k)) (earlier' k)
    next_after fits zero h = elim (eqb_tells zero place) [
      | inl same ↦ at_place zero same.1 h
      | inr apart ↦ let ne = apart.1 in before_place zero (omega (arith, ne)) h fits
    ]
    next_after fits (suc k) h = elim (leb_tells place k) [
      | inr less ↦ elim (eqb_tells (suc k) place) [
        | inl same ↦ at_place (suc k) same.1 h
        | inr apart ↦ let ne = apart.1 in let l = less.1 in before_place (suc k) (omega (arith, ne, l)) h fits
      ]
      | inl more ↦ behind_place k more.1 (omega arith)
    ]

    falls : ((j k : ℕ) → j ≤ k → k < n → (frame k).id ≤ (frame j).id) → place ≤ n → (j k : ℕ) → j ≤ k → k ≤ n → (frame' k).id ≤ (frame' j).id
    falls old fits j k l h = elim (leb_tells k place) [
      | inr far ↦ from_above j k l h far.1
      | inl near ↦ elim (eqb_tells k place) [
        | inl here ↦ from_here j k l here.1
        | inr apart ↦ let ne = apart.1 in let n1 = near.1 in from_below j k l (omega arith)
      ]
    ] where
      from_below : (j k : ℕ) → j ≤ k → k < place → (frame' k).id ≤ (frame' j).id
      from_below j k l h = rw (frame_below k h, frame_below j (omega arith)) (old j k l (omega arith))

      from_here : (j k : ℕ) → j ≤ k → k ≡ place → (frame' k).id ≤ (frame' j).id
      from_here j k l e = elim (eqb_tells j place) [
        | inl same ↦ rw (ap frame' (e ∙ sym same.1)) (omega arith)
        | inr apart ↦
            let ne = apart.1 in
            let less : j < place = omega arith in
            rw (ap frame' e ∙ frame_here, frame_below j less) (omega (arith, higher j less))
      ]

      both_above : (j k : ℕ) → j ≤ suc k → suc k ≤ n → place < j → (frame' (suc k)).id ≤ (frame' j).id
      both_above zero k l h far = absurd (omega arith)
      both_above (suc j) k l h far = rw (frame_above k (omega arith), frame_above j (omega arith)) (old j k (omega arith) (omega arith))

      from_above : (j k : ℕ) → j ≤ k → k ≤ n → place < k → (frame' k).id ≤ (frame' j).id
      from_above j zero l h far = absurd (omega arith)
      from_above j (suc k) l h far = elim (leb_tells j place) [
        | inl near ↦ elim (eqb_tells j place) [
          | inl same ↦ rw (frame_above k (omega arith), ap frame' same.1 ∙ frame_here) (others k (omega arith) (omega arith))
          | inr apart ↦
              let ne = apart.1 in
              let n1 = near.1 in
              let less : j < place = omega arith in
              rw (frame_above k (omega arith), frame_below j less) (omega (arith, higher j less, others k (omega arith) (omega arith)))
        ]
        | inr beyond ↦ both_above j k l h beyond.1
      ]

-- one more frame at a place that its identifier has
pub record IsPutIn (size place : ℕ) (x : Queued) (frames : List Queued) (earlier : List ℕ) : Type 0 where
  pub kept : IsInOrder size (insert frames place x) (insert earlier place place)
  pub order : in_order_of_offering (insert frames place x) (insert earlier place place) ≡ in_order_of_offering frames earlier ++ x ∷ []

module _ (size place : ℕ) (x : Queued) (frames : List Queued) (earlier : List ℕ) (kept : IsInOrder size frames earlier) (room : length frames < size)
    (fits : place ≤ length frames) (higher : (k : ℕ) → k < place → x.id < id_at frames k) (not_higher : place < length frames → id_at frames place ≤ x.id) where
  abbrev frames_after : List Queued
  frames_after = insert frames place x

  abbrev earlier_after : List ℕ
  earlier_after = insert earlier place place

  one_frame_more : length frames_after ≡ length frames + 1
  one_frame_more = length-insert frames place x fits

  there : place ≤ length earlier
  there = omega (arith, kept.same)

  f_below : (k : ℕ) → k < place → at frames_after k ≡ at frames k
  f_below k l = get_or-insert_below frames place x blank k l fits

  f_here : at frames_after place ≡ x
  f_here = get_or-insert_at frames place x blank fits

  f_above : (k : ℕ) → place ≤ k → at frames_after (suc k) ≡ at frames k
  f_above k l = let e : suc k ≡ k + 1 = omega arith in ap (at frames_after) e ∙ get_or-insert_above frames place x blank k l fits

  e_below : (k : ℕ) → k < place → since earlier_after k ≡ since earlier k
  e_below k l = get_or-insert_below earlier place place 0 k l there

  e_here : since earlier_after place ≡ place
  e_here = get_or-insert_at earlier place place 0 there

  e_above : (k : ℕ) → place ≤ k → since earlier_after (suc k) ≡ since earlier k
  e_above k l = let e : suc k ≡ k + 1 = omega arith in ap (since earlier_after) e ∙ get_or-insert_above earlier place place 0 k l there

  no_higher : (k : ℕ) → place ≤ k → k < length frames → (at frames k).id ≤ x.id
  no_higher k l h = let first = not_higher (omega arith) in let rest = kept.falling place k l h in omega arith

  pub put_in : IsPutIn size place x frames earlier
  put_in = record {
    kept = record {
      few = omega (arith, one_frame_more, room);
      most = kept.most;
      same = length-insert earlier place place there ∙ ap (λ m. m + 1) kept.same ∙ sym one_frame_more;
      falling = λ j k l h. falls (at frames) (at frames_after) (since earlier) (since earlier_after) (length frames) place x f_below f_here f_above e_below e_here e_above
          kept.next higher no_higher kept.falling fits j k l (omega (arith, one_frame_more));
      next = λ k h. next_after (at frames) (at frames_after) (since earlier) (since earlier_after) (length frames) place x f_below f_here f_above e_below e_here e_above
          kept.next higher no_higher fits k (omega (arith, one_frame_more));
    };
    order =
        let up : length frames + 1 ≡ suc (length frames) = omega arith in
        ap (λ m. offered_of (at frames_after) (since earlier_after) m) (one_frame_more ∙ up)
        ∙ above (at frames) (at frames_after) (since earlier) (since earlier_after) (length frames) place x f_below f_here f_above e_below e_here e_above
        kept.next (length frames) fits (omega arith);
  }

-- ---- the same of the frames that the code keeps

pub map-insert : (frames : List Marked) (place : ℕ) (x : Marked) → map queued_of (insert frames place x) ≡ insert (map queued_of frames) place (queued_of x)
map-insert frames place x =
    map-append queued_of (take place frames) (x ∷ drop place frames)
    ∙ sym (rw (take-map queued_of place frames, drop-map queued_of place frames) refl)

pub last_out : (frames : List Marked) (n : ℕ) → n < length frames → option_map queued_of (slice_get frames n) ≡ Some (get_or (map queued_of frames) n blank)
last_out [] n h = absurd (omega arith)
last_out (x ∷ frames) zero h = refl
last_out (x ∷ frames) (suc n) h = last_out frames n (omega arith)

pub none_kept : (frames : List Marked) (earlier : List ℕ) → length frames ≡ 0 → in_order_of_offering (map queued_of frames) earlier ≡ []
none_kept frames earlier h = ap (offered_of (at (map queued_of frames)) (since earlier)) (length-map frames queued_of ∙ h)

-- what a pop leaves and gives
pub record IsPopped (size : ℕ) (frames after : List Marked) (earlier earlier_after : List ℕ) (out : Option Marked) : Type 0 where
  pub kept : IsInOrder size (map queued_of after) earlier_after
  pub next : option_map queued_of out ≡ next_out (in_order_of_offering (map queued_of frames) earlier)
  pub rest : in_order_of_offering (map queued_of after) earlier_after ≡ left_behind (in_order_of_offering (map queued_of frames) earlier)

pub popped : (size : ℕ) (frames after : List Marked) (earlier earlier_after : List ℕ) (out : Option Marked) →
    IsInOrder size (map queued_of frames) earlier → 0 < length frames →
    after ≡ take (length frames - 1) frames → earlier_after ≡ take (length earlier - 1) earlier → out ≡ slice_get frames (length frames - 1) →
    IsPopped size frames after earlier earlier_after out
popped size frames after earlier earlier_after out kept some taken taken_earlier got =
    let all = length-map frames queued_of in
    let n : ℕ = length frames - 1 in
    let one_less : length earlier - 1 ≡ n = omega (arith, kept.same) in
    let t = taken_out size n (map queued_of frames) earlier kept (omega arith) in
    let front : map queued_of after ≡ take n (map queued_of frames) = ap (map queued_of) taken ∙ sym (take-map queued_of n frames) in
    let front_earlier : earlier_after ≡ take n earlier = taken_earlier ∙ ap (λ m. take m earlier) one_less in
    record {
      kept = rw (front, front_earlier) t.kept;
      next = ap (option_map queued_of) got ∙ last_out frames n (omega arith) ∙ sym t.next;
      rest = rw (front, front_earlier) t.rest;
    }

-- what putting a frame in leaves
pub put_to : (size place : ℕ) (x : Marked) (frames after : List Marked) (earlier earlier_after : List ℕ) →
    IsInOrder size (map queued_of frames) earlier → length frames < size → place ≤ length frames →
    ((k : ℕ) → k < place → x.frame.id < id_at (map queued_of frames) k) → (place < length frames → id_at (map queued_of frames) place ≤ x.frame.id) →
    after ≡ insert frames place x → earlier_after ≡ insert earlier place place →
    IsInOrder size (map queued_of after) earlier_after
    × (in_order_of_offering (map queued_of after) earlier_after ≡ in_order_of_offering (map queued_of frames) earlier ++ queued_of x ∷ [])
put_to size place x frames after earlier earlier_after kept room fits higher not_higher put put_earlier =
    let all = length-map frames queued_of in
    let p = put_in size place (queued_of x) (map queued_of frames) earlier kept (omega arith) (omega arith) higher (λ h. not_higher (omega arith)) in
    let more : map queued_of after ≡ insert (map queued_of frames) place (queued_of x) = ap (map queued_of) put ∙ map-insert frames place x in
    rw (more, put_earlier) (p.kept, p.order)

pub not_none : (frames : List Marked) (out : Option Marked) (now : List Queued) → 0 < length frames → out ≡ slice_get frames (length frames - 1) → 0 < length now →
    (IsNone out → now ≡ []) × (now ≡ [] → IsNone out)
not_none frames out now some got waiting = by_case out (ap (option_map queued_of) got ∙ last_out frames (length frames - 1) (omega arith)) where
  by_case : (o : Option Marked) → option_map queued_of o ≡ Some (get_or (map queued_of frames) (length frames - 1) blank) → (IsNone o → now ≡ []) × (now ≡ [] → IsNone o)
  by_case None e = absurd cc
  by_case (Some marked) e = (λ none. let never : true ≡ false = none in absurd cc, λ empty. absurd (omega (arith, ap length empty)))
