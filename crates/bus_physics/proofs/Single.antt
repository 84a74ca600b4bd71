-- Where the frames of the bus come from: from outside, or an allocatee's, which are single ones, or a member's.
use Rattle.std.proofs.Common.{◌≡◌, ℕ, zero, suc, ◌+◌, ◌≤◌, Bool, true, false, List, [], ◌∷◌, ◌++◌, length, take, drop, refl, sym, ap, subst, ◌∙◌, arith, ◌⊎◌, inl, inr, Option, Some, None, append_assoc, append-nil}
use Rattle.std.specs.Prelude.{All, ◌==◌, ◌/◌, if◌then◌else◌, is_some}
use Rattle.std.specs.List.{position_or_len}
use Rattle.std.proofs.lemmas.Bool.Decides.{leb_tells}
use Rattle.std.proofs.lemmas.List.Elements.{All-append, All-drop, All-nil, All-take}
use Rattle.can_frame.specs.declared.frame.Frame.{Frame}
use Rattle.can_frame.specs.declared.identifier.Ident.{Ident}
use Rattle.can_frame.specs.declared.step.What.{What}
use Rattle.can_frame.specs.declared.step.What.TheVariants.{Alloc, Disc, Stat, InfoQ, Info, VoteQ, Vote, AppQ, App}
use Rattle.can_frame.specs.Cutting.{frame_count}
use Rattle.can_frame.specs.Identifier.{identifier_of}
use Rattle.can_frame.specs.Kinds.{is_anonymous}
use Rattle.raft_model.specs.Lists.{In, at}
use Rattle.raft_model.specs.Runs as raft
use Rattle.bus_rows.specs.declared.row.Row.{Row}
use Rattle.bus_rows.specs.declared.row.Row.TheVariants.{AEnd, AOpen, ARx, ASend, ATick, Crash, Ext, Fault, Open, Rx, Send, Tick}
use Rattle.transfer_tx.specs.Queue.{Queued, is_least, left_behind, next_out, queued_frames}
use Rattle.allocatee.specs.Allocatee.{Device, Event, opening, step}
use Rattle.allocatee.specs.Allocatee.Event.{Rx as Receives, Tick as Ticks}
use Rattle.allocatee.specs.Asking.{Asking, at_moment, clock_phase, due, has_passed, has_room, next_stage, nothing_offered, outgoing, request_bytes, request_offer, with_queued, with_timer_restarted}
use Rattle.allocatee.specs.Given.{IsAnonymous}
use Rattle.allocatee.proofs.Giving.{frame_queue}
use Rattle.alloc_spec.specs.AllocatorState.{AllocatorState}
use Rattle.alloc_spec.specs.Transfers.{ident_of, kind_of}
use Rattle.bus_spec.specs.Allocatees.{after_sending_from, device_after_step, next_from}
use Rattle.alloc_spec.specs.ClusterMembers.{AreMembers}
use Rattle.bus_spec.specs.Cluster.{Cluster, after_row, cluster, from_outside, in_list, receipt_at, world_of}
use Rattle.bus_spec.specs.Lawful.{AreLawful, cause, is_forged, no_node, not_running, nothing_to_send, or_else}
use Rattle.bus_spec.specs.Members.{MemberStatus, next_frame}
use Rattle.bus_spec.specs.Members.MemberStatus.{Down, Failed, Up}
use Rattle.bus_spec.specs.Refinement.{transfers_of_rows}
use Rattle.bus_agreement.specs.Frames.{IsPiece}
use Rattle.bus_agreement.specs.LawsBelow.{FrameLaws}
use Rattle.bus_agreement.specs.Shows.{Shows, ShowsMember, ShowsUp}
use Rattle.bus_agreement.proofs.Concatenations.{ids_stay}
use Rattle.bus_agreement.proofs.Lists.{in_append, of_each}
use Rattle.bus_agreement.proofs.Pieces.{IsPieceOf, no_piece, piece_of}
use Rattle.bus_agreement.proofs.RowsWithoutEvents.{is_one, out_of_queue, past_first}
use Rattle.bus_agreement.proofs.WholeTransfers.{members_own, read_back}
use Rattle.transfer_rx.specs.Reassembly.{Arrival}
use Rattle.bus_physics.proofs.LawfulRows.{cause_at, first_lawful, rows_joined}

-- the first of its transfer
abbrev pub IsFirst : Queued → Type 0
IsFirst frame = frame.mark.place ≡ 0

-- it has a member's source
pub record IsOfMember (ids : List ℕ) (frame : Queued) : Type 0 where
  pub ident : Ident
  pub read : identifier_of frame.id ≡ Some ident
  pub forged : is_forged ids (Some ident) ≡ true

-- made in no step, or by an allocatee, or by a member
abbrev pub IsOrigin : List ℕ → Queued → Type 0
IsOrigin ids frame = (frame.mark.step ≡ 0) ⊎ ((IsFirst frame × IsAnonymous frame) ⊎ IsOfMember ids frame)

-- ---- what an allocatee queues

take_short : {A : Type 0} (n : ℕ) (xs : List A) → length (take n xs) ≤ n
take_short zero xs = omega arith
take_short (suc n) [] = omega arith
take_short (suc n) (x ∷ xs) = omega (arith, take_short n xs)

one_frame : (n : ℕ) → n ≤ 7 → frame_count n ≡ 1
one_frame n h = elim (leb_tells n 7) [ inl s ↦ ap (λ (b : Bool). if b then 1 else (n + 8) / 7) s.0 | inr more ↦ absurd (omega (arith, h, more.1)) ]

module _ (laws : FrameLaws) where
  first_queued : (word id number : ℕ) (payload : List ℕ) → length payload ≤ 7 → All IsFirst (queued_frames (outgoing word id payload) number 0)
  first_queued word id number payload short k d h =
      let count : length (queued_frames (outgoing word id payload) number 0) ≡ 1 = laws.queued_count (outgoing word id payload) number 0 ∙ one_frame (length payload) short in
      let zero_ : k ≡ 0 = omega (arith, h, count) in
      ap (λ (f : Queued). f.mark.place) (laws.queued_frame (outgoing word id payload) number 0 k d no_piece (omega (arith, zero_, one_frame (length payload) short))) ∙ zero_

  module _ (number word : ℕ) where
    first_with : (payload : List ℕ) → length payload ≤ 7 → (fits : Bool) (a : Asking) → All IsFirst a.queue → All IsFirst (with_queued number word payload fits a).queue
    first_with payload short true a all = All-append IsFirst a.queue (queued_frames (outgoing word a.id payload) number 0) all (first_queued word a.id number payload short)
    first_with payload short false a all = all

    first_offered : (first : Bool) (part : List ℕ) → length part ≤ 6 → (a : Asking) → All IsFirst a.queue → All IsFirst (request_offer number word first part a).asking.queue
    first_offered first part short a all =
        first_with (request_bytes a first part) (omega (arith, short)) (has_room a.queue (request_bytes a first part)) a all

    first_asked : (b : Bool) (a : Asking) → All IsFirst a.queue
        → All IsFirst (if b then request_offer number word true (take 6 a.uid) (with_timer_restarted word a) else nothing_offered a).asking.queue
    first_asked true a all = first_offered true (take 6 a.uid) (take_short 6 a.uid) (with_timer_restarted word a) all
    first_asked false a all = all

    first_gone_on : (known : Option ℕ) (a : Asking) → All IsFirst a.queue → All IsFirst (next_stage number word known a).asking.queue
    first_gone_on None a all = first_asked (has_passed a.moment a.request) a all
    first_gone_on (Some known) a all = first_offered false (take 6 (drop known a.uid)) (take_short 6 (drop known a.uid)) (record a { follow_up = None }) all

    first_by : (b : Bool) (a : Asking) → All IsFirst a.queue → All IsFirst (if b then nothing_offered a else next_stage number word (due a.moment a.follow_up) a).asking.queue
    first_by true a all = all
    first_by false a all = first_gone_on (due a.moment a.follow_up) a all

    first_ticks : (a : Asking) → All IsFirst a.queue → All IsFirst (clock_phase number word a).asking.queue
    unfolding clock_phase
    first_ticks a all = first_by (is_some a.holds) a all

  first_stepped : (d : Device) (number : ℕ) (event : Event) → All IsFirst d.asking.queue → All IsFirst (step d number event).device.asking.queue
  unfolding step
  first_stepped d number (Ticks now word) all = first_ticks number word (at_moment now d.asking) all
  first_stepped d number (Receives arrival word) all = subst (λ (queue : List Queued). All IsFirst queue) (sym (frame_queue d number word arrival)) all

first_left : (queue : List Queued) → All IsFirst queue → All IsFirst (left_behind queue)
unfolding left_behind
first_left queue all =
    let place : ℕ = position_or_len (is_least queue) queue in
    All-append IsFirst (take place queue) (drop (suc place) queue) (All-take IsFirst place queue all) (All-drop IsFirst (suc place) queue all)

of_all : (frames : List Queued) → All IsFirst frames → (f : Queued) → In f frames → IsFirst f
of_all [] all f i = absurd i
of_all (x ∷ xs) all f (inl e) = ap (λ (q : Queued). q.mark.place) e ∙ all 0 x (omega arith)
of_all (x ∷ xs) all f (inr i) = of_all xs (λ k d h. all (suc k) d (omega (arith, h))) f i

-- ---- the world

pub record IsSingle (ids : List ℕ) (w : Cluster) : Type 0 where
  pub bus : (f : Queued) → In f w.frames → IsOrigin ids f
  pub queues : (a : ℕ) (x : Device) → w.allocatee a ≡ Some x → All IsFirst x.asking.queue

some_is : (x y : Device) → Some x ≡ Some y → x ≡ y
some_is x y e = cc (e)

known_kind : (what : What) → is_anonymous (kind_of what) ≡ false
known_kind Alloc = refl
known_kind Disc = refl
known_kind Stat = refl
known_kind InfoQ = refl
known_kind Info = refl
known_kind VoteQ = refl
known_kind Vote = refl
known_kind AppQ = refl
known_kind App = refl

-- what is shown of a list of lawful rows
pub record IsShown (ids : List ℕ) (rows : List Row) : Type 0 where
  pub choice : ℕ → Bool
  pub run : raft.World
  pub shows : Shows choice (transfers_of_rows (cluster ids) rows []) (world_of ids rows) run

module _ (laws : FrameLaws) (ids : List ℕ) (members : AreMembers ids) (shown : (rows : List Row) → AreLawful (cluster ids) rows → IsShown ids rows) where
  module _ (w : Cluster) (inv : IsSingle ids w) where
    -- a frame more
    with_frames : (more : List Queued) → ((f : Queued) → In f more → IsOrigin ids f) → (f : Queued) → In f (w.frames ++ more) → IsOrigin ids f
    with_frames more each f i = elim (in_append f w.frames more i) [ inl j ↦ inv.bus f j | inr j ↦ each f j ]

    -- another allocatee at a place
    with_queue : (b : ℕ) (o : Option Device) → ((x : Device) → o ≡ Some x → All IsFirst x.asking.queue) → (a : ℕ) (x : Device)
        → at w.allocatee b o a ≡ Some x → All IsFirst x.asking.queue
    with_queue b o each a x = by (a == b) where
      by : (same : Bool) → (if same then o else w.allocatee a) ≡ Some x → All IsFirst x.asking.queue
      by true e = each x e
      by false e = inv.queues a x e

    stepped_at : (b number : ℕ) (event : Event) (x : Device) → device_after_step number event (w.allocatee b) ≡ Some x → All IsFirst x.asking.queue
    stepped_at b number event x = by (w.allocatee b) refl where
      by : (o : Option Device) → w.allocatee b ≡ o → device_after_step number event o ≡ Some x → All IsFirst x.asking.queue
      by None e is = absurd (cc (is))
      by (Some d) e is = subst (λ (y : Device). All IsFirst y.asking.queue) (some_is (step d number event).device x is)
          (first_stepped laws d number event (inv.queues b d e))

    sent_from : (b : ℕ) (x : Device) → after_sending_from (w.allocatee b) ≡ Some x → All IsFirst x.asking.queue
    sent_from b x = by (w.allocatee b) refl where
      by : (o : Option Device) → w.allocatee b ≡ o → after_sending_from o ≡ Some x → All IsFirst x.asking.queue
      by None e is = absurd (cc (is))
      by (Some d) e is = subst (λ (a : Asking). All IsFirst a.queue) (left_is d x is) (first_left d.asking.queue (inv.queues b d e)) where
        left_is : (d x : Device) → after_sending_from (Some d) ≡ Some x → record d.asking { queue = left_behind d.asking.queue } ≡ x.asking
        left_is d x e = ap (λ (y : Device). y.asking) (some_is (record d { asking = record d.asking { queue = left_behind d.asking.queue } }) x e)

  module _ (done : List Row) (lawful : AreLawful (cluster ids) done) (inv : IsSingle ids (world_of ids done)) where
    abbrev w : Cluster
    w = world_of ids done

    -- what a member sends has a source
    sent_by : (n : ℕ) → cause w (Send n) ≡ None → (f : Queued) → In f (in_list (next_frame (w.member n).status)) → IsOrigin ids f
    sent_by n allowed f = by_status (w.member n).status refl where
      is : IsShown ids done
      is = shown done lawful

      listed : In n w.ids
      listed = is_one w n (past_first (no_node w n) (or_else (not_running w n) (nothing_to_send (next_frame (w.member n).status))) allowed).0

      known : (t : AllocatorState) → (w.member n).status ≡ Up t → (g : Queued) → In g t.queue → IsOfMember ids g
      known t runs g i =
          let there : ShowsUp (transfers_of_rows (cluster ids) done []) w.ids w.frames is.run n t (w.member n).disk =
          subst (λ (status : MemberStatus). ShowsMember is.choice (transfers_of_rows (cluster ids) done []) w.ids w.frames is.run n status (w.member n).disk) runs
          (is.shows.lives n listed) in
          let piece : IsPiece (transfers_of_rows (cluster ids) done []) n g = there.works.queue g i in
          let arrival : Arrival = record { id = g.id; bytes = g.bytes; mark = g.mark; moment = 0 } in
          let it : IsPieceOf piece.whose arrival = piece_of laws (transfers_of_rows (cluster ids) done []) n g piece arrival refl refl refl in
          let in_ids : AreMembers w.ids = subst AreMembers (sym (ids_stay (cluster ids) done)) members in
          record {
            ident = ident_of piece.whose.by piece.whose.offer.what piece.whose.offer.to;
            read = ap (λ (n : ℕ). identifier_of n) it.id
                ∙ read_back laws w.ids (λ m j. (in_ids.nodes m j).0) (λ m j. (in_ids.nodes m j).1) (transfers_of_rows (cluster ids) done []) is.shows.holds.transfers
                piece.whose piece.was_made;
            forged = members_own ids (ident_of piece.whose.by piece.whose.offer.what piece.whose.offer.to)
                (subst (λ (l : List ℕ). In piece.whose.by l) (ids_stay (cluster ids) done) (is.shows.holds.transfers.makers piece.whose piece.was_made))
                (known_kind piece.whose.offer.what);
          }

      by_out : (t : AllocatorState) → (w.member n).status ≡ Up t → (o : Option Queued) → next_out t.queue ≡ o → In f (in_list o) → IsOrigin ids f
      by_out t runs None out i = absurd i
      by_out t runs (Some g) out (inl same) = inr (inr (subst (IsOfMember ids) (sym same) (known t runs g (out_of_queue t.queue g out))))
      by_out t runs (Some g) out (inr i) = absurd i

      by_status : (status : MemberStatus) → (w.member n).status ≡ status → In f (in_list (next_frame status)) → IsOrigin ids f
      by_status Down runs i = absurd i
      by_status (Up t) runs i = by_out t runs (next_out t.queue) refl i
      by_status (Failed failure) runs i = absurd i

    -- what an allocatee sends is one frame without a source
    out_from : (b : ℕ) (f : Queued) → In f (in_list (next_from (w.allocatee b))) → IsOrigin ids f
    out_from b f = by (w.allocatee b) refl where
      by_out : (d : Device) → w.allocatee b ≡ Some d → (o : Option Queued) → next_out d.asking.queue ≡ o → In f (in_list o) → IsOrigin ids f
      by_out d e None out i = absurd i
      by_out d e (Some g) out (inl same) =
          let there : In g d.asking.queue = out_of_queue d.asking.queue g out in
          inr (inl (
            subst IsFirst (sym same) (of_all d.asking.queue (inv.queues b d e) g there),
            subst IsAnonymous (sym same) (of_each IsAnonymous d.asking.queue ((shown done lawful).shows.asking b d e).queue g there),
          ))
      by_out d e (Some g) out (inr i) = absurd i

      by : (o : Option Device) → w.allocatee b ≡ o → In f (in_list (next_from o)) → IsOrigin ids f
      by None e i = absurd i
      by (Some d) e i = by_out d e (next_out d.asking.queue) refl i

    from_elsewhere : (frame : Frame) (f : Queued) → In f (from_outside frame.id frame.bytes.items ∷ []) → IsOrigin ids f
    from_elsewhere frame f (inl e) = inl (ap (λ (q : Queued). q.mark.step) e)
    from_elsewhere frame f (inr i) = absurd i

    goes_on : (row : Row) → cause w row ≡ None → IsSingle ids (after_row w row)
    goes_on (Open n told ms word) allowed = record { bus = inv.bus; queues = inv.queues }
    goes_on (Tick n ms word) allowed = record { bus = inv.bus; queues = inv.queues }
    goes_on (Rx n k ms) allowed = record { bus = inv.bus; queues = inv.queues }
    goes_on (Send n) allowed = record { bus = with_frames w inv (in_list (next_frame (w.member n).status)) (sent_by n allowed); queues = inv.queues }
    goes_on (Ext frame) allowed = record { bus = with_frames w inv (from_outside frame.id frame.bytes.items ∷ []) (from_elsewhere frame); queues = inv.queues }
    goes_on (Crash n calls pattern) allowed = record { bus = inv.bus; queues = inv.queues }
    goes_on (Fault n call) allowed = record { bus = inv.bus; queues = inv.queues }
    goes_on (AOpen b uid pref ms word) allowed = record {
      bus = inv.bus;
      queues = with_queue w inv b (Some (opening uid pref ms word))
          (λ x e. subst (λ (y : Device). All IsFirst y.asking.queue) (some_is (opening uid pref ms word) x e) (All-nil IsFirst));
    }
    goes_on (ATick b ms word) allowed = record {
      bus = inv.bus;
      queues = with_queue w inv b (device_after_step (w.rows + 1) (Ticks ms word) (w.allocatee b)) (stepped_at w inv b (w.rows + 1) (Ticks ms word));
    }
    goes_on (ARx b k ms word) allowed = record {
      bus = inv.bus;
      queues = with_queue w inv b (device_after_step (w.rows + 1) (receipt_at w k ms word) (w.allocatee b)) (stepped_at w inv b (w.rows + 1) (receipt_at w k ms word));
    }
    goes_on (ASend b) allowed = record {
      bus = with_frames w inv (in_list (next_from (w.allocatee b))) (out_from b);
      queues = with_queue w inv b (after_sending_from (w.allocatee b)) (sent_from w inv b);
    }
    goes_on (AEnd b) allowed = record { bus = inv.bus; queues = with_queue w inv b None (λ x e. absurd (cc (e))) }

  along : (done rest : List Row) → AreLawful (cluster ids) (done ++ rest) → IsSingle ids (world_of ids done) → IsSingle ids (world_of ids (done ++ rest))
  along done [] lawful inv = subst (λ (l : List Row). IsSingle ids (world_of ids l)) (sym (append-nil done)) inv
  along done (row ∷ rest) lawful inv =
      let joined : (done ++ row ∷ []) ++ rest ≡ done ++ (row ∷ rest) = append_assoc done (row ∷ []) rest in
      subst (λ (l : List Row). IsSingle ids (world_of ids l)) joined
      (along (done ++ row ∷ []) rest (subst (λ (l : List Row). AreLawful (cluster ids) l) (sym joined) lawful)
      (subst (IsSingle ids) (sym (rows_joined (cluster ids) done (row ∷ [])))
      (goes_on done (first_lawful (cluster ids) done (row ∷ rest) lawful) inv row (cause_at (cluster ids) done rest row lawful))))

  pub single : (rows : List Row) → AreLawful (cluster ids) rows → IsSingle ids (world_of ids rows)
  single rows lawful = along [] rows lawful (record { bus = λ f i. absurd i; queues = λ a x e. absurd (cc (e)) })
