-- An Allocation with a node ID that waits in a queue is a transfer that was made, and so a pair in the bag.
use Rattle.std.proofs.Common.{◌≡◌, ◌≢◌, ℕ, ◌<◌, ◌≤◌, Bool, true, List, length, refl, sym, ap, subst, ◌∙◌, arith, inl, inr, Option, Some}
use Rattle.std.specs.Prelude.{◌++◌, nat_eq, nat_le, slice_index_or}
use Rattle.std.proofs.lemmas.Bool.Decides.{eqb_tells, leb_tells}
use Rattle.can_frame.specs.declared.identifier.Ident.{Ident}
use Rattle.can_frame.specs.declared.identifier.Kind.TheVariants.{Message as Broadcast}
use Rattle.can_frame.specs.declared.step.What.{What}
use Rattle.can_frame.specs.declared.step.What.TheVariants.{Alloc}
use Rattle.can_frame.specs.Cutting.{Piece, frame_bytes, frames_of as pieces_of, piece_from}
use Rattle.can_frame.specs.Identifier.{identifier_number, identifier_of}
use Rattle.dsdl_codec.specs.declared.allocation.Allocation.{Allocation}
use Rattle.dsdl_codec.specs.Allocation.{allocation_of}
use Rattle.raft_model.specs.Lists.{In}
use Rattle.raft_model.specs.Messages.{Message}
use Rattle.raft_model.specs.Messages.Message.{Pairs}
use Rattle.raft_model.specs.Runs as raft
use Rattle.transfer_rx.specs.Reassembly.{Arrival}
use Rattle.transfer_tx.specs.Queue.{Queued, queued_frames}
use Rattle.alloc_spec.specs.Transfers.{SentTransfer, frames_of, pair_of_allocation, ident_of, message_by, message_of, outgoing, pair_message, signature_of}
use Rattle.alloc_spec.specs.ClusterMembers.{AreMembers}
use Rattle.bus_spec.specs.Cluster.{Cluster, no_frame}
use Rattle.bus_spec.specs.Lawful.{is_forged}
use Rattle.bus_spec.specs.Logs.{IsOfAllocation, IsOffered}
use Rattle.bus_spec.specs.Members.{MemberStatus}
use Rattle.bus_agreement.specs.Frames.{AreTransfers, IsOnBus, IsPiece}
use Rattle.bus_agreement.specs.Mirrors.{BusIsMade, IsMadeBy, OffersAreMade}
use Rattle.bus_agreement.specs.Shows.{HoldsOfMade, Shows, ShowsMember, ShowsUp}
use Rattle.bus_agreement.specs.LawsBelow.{FrameLaws}
use Rattle.bus_agreement.proofs.Idents.{ident_ok, one_what}
use Rattle.bus_agreement.proofs.Lists.{in_at, in_back, in_front}
use Rattle.bus_agreement.proofs.Namesakes as namesakes
use Rattle.bus_agreement.proofs.Namesakes.{IsOfNamesake}
use Rattle.bus_agreement.proofs.Pieces.{IsPieceOf, no_piece, piece_id, piece_of, piece_read, theirs}
use Rattle.bus_agreement.proofs.WholeTransfers.{forged_allocation, read_back, some_is}

-- a frame as it would come
abbrev as_it_comes : Queued → Arrival
as_it_comes frame = record { id = frame.id; bytes = frame.bytes; mark = frame.mark; moment = 0 }

-- ---- whose frames wait

-- the Allocation is a transfer that this member made
pub record IsAllocationOf (made : List SentTransfer) (n : ℕ) (answer : Allocation) : Type 0 where
  pub x : SentTransfer
  pub was_made : In x made
  pub maker : x.by ≡ n
  pub what : x.offer.what ≡ Alloc
  pub reads : allocation_of x.offer.payload ≡ Some answer

module _ (laws : FrameLaws) (ids : List ℕ) (low : (n : ℕ) → In n ids → 1 ≤ n) (high : (n : ℕ) → In n ids → n ≤ 125)
    (made : List SentTransfer) (are : AreTransfers ids made) (n : ℕ) (listed : In n ids) (queue : List Queued)
    (pieces : (frame : Queued) → In frame queue → IsPiece made n frame) (answer : Allocation) (offered : IsOffered queue n answer) where
  abbrev frames : List Queued
  frames = queued_frames (outgoing n Alloc 0 offered.id offered.payload) offered.step offered.re

  abbrev frame : ℕ → Queued
  frame i = slice_index_or frames i no_frame

  abbrev cutting : List Piece
  cutting = pieces_of (signature_of Alloc) offered.id offered.payload

  abbrev piece : ℕ → Piece
  piece i = slice_index_or cutting i no_piece

  as_many : length frames ≡ length cutting
  as_many = laws.queued_count (outgoing n Alloc 0 offered.id offered.payload) offered.step offered.re
      ∙ sym (laws.cut_count (signature_of Alloc) offered.id offered.payload)

  waits : (i : ℕ) → i < length cutting → In (frame i) queue
  waits i h = subst (λ (q : List Queued). In (frame i) q) (sym offered.waits)
      (in_back (frame i) offered.front (frames ++ offered.back) (in_front (frame i) frames offered.back (in_at frames i no_frame (omega (arith, h, as_many)))))

  frame_is : (i : ℕ) → i < length cutting → frame i ≡ record {
    id = identifier_number (ident_of n Alloc 0);
    bytes = frame_bytes (piece i);
    mark = record { step = offered.step; re = offered.re; place = i };
  }
  frame_is i h = laws.queued_frame (outgoing n Alloc 0 offered.id offered.payload) offered.step offered.re i no_frame no_piece
      (omega (arith, h, laws.cut_count (signature_of Alloc) offered.id offered.payload))

  -- the frame at a place is one of a transfer of this member
  abbrev its : (i : ℕ) → i < length cutting → IsPiece made n (frame i)
  its i h = pieces (frame i) (waits i h)

  as_piece : (i : ℕ) (h : i < length cutting) → IsPieceOf (its i h).whose (as_it_comes (frame i))
  as_piece i h = piece_of laws made n (frame i) (its i h) (as_it_comes (frame i)) refl refl refl

  same_place : (i : ℕ) → i < length cutting → (frame i).mark.place ≡ i
  same_place i h = ap (λ (f : Queued). f.mark.place) (frame_is i h)

  its_step : (i : ℕ) (h : i < length cutting) → (its i h).whose.step ≡ offered.step
  its_step i h = sym (as_piece i h).step ∙ ap (λ (f : Queued). f.mark.step) (frame_is i h)

  its_ident : (i : ℕ) (h : i < length cutting) → let x = (its i h).whose in ident_of x.by x.offer.what x.offer.to ≡ ident_of n Alloc 0
  its_ident i h = let x : SentTransfer = (its i h).whose in
      some_is (ident_of x.by x.offer.what x.offer.to) (ident_of n Alloc 0)
      (sym (read_back laws ids low high made are x (its i h).was_made)
      ∙ (ap (λ (k : ℕ). identifier_of k) (sym (as_piece i h).id ∙ ap (λ (f : Queued). f.id) (frame_is i h))
      ∙ laws.ident_read (ident_of n Alloc 0) (ident_ok n Alloc 0 (low n listed) (high n listed) refl)))

  its_what : (i : ℕ) (h : i < length cutting) → (its i h).whose.offer.what ≡ Alloc
  its_what i h = let e = its_ident i h in
      one_what (its i h).whose.offer.what Alloc Broadcast 1 (ap (λ (ident : Ident). ident.kind) e) refl (ap (λ (ident : Ident). ident.number) e) refl

  its_to : (i : ℕ) (h : i < length cutting) → (its i h).whose.offer.to ≡ 0
  its_to i h = ap (λ (ident : Ident). ident.dest) (its_ident i h)

  its_piece : (i : ℕ) (h : i < length cutting) → piece i ≡ slice_index_or (theirs (its i h).whose) i no_piece
  its_piece i h =
      let x : SentTransfer = (its i h).whose in
      let small : (piece i).tail.id < 32 = subst (λ (k : ℕ). k < 32) (sym (piece_id (signature_of Alloc) offered.id offered.payload i h)) offered.small in
      sym (laws.piece_read (piece i) small)
      ∙ (ap piece_from (ap (λ (f : Queued). f.bytes) (sym (frame_is i h)))
      ∙ (piece_read laws x (as_it_comes (frame i)) (as_piece i h) (are.ranges x (its i h).was_made).id
      ∙ ap (λ (k : ℕ). slice_index_or (theirs x) k no_piece) (same_place i h)))

  -- ---- they are those of one

  some : 0 < length cutting
  some = omega (arith, laws.count (signature_of Alloc) offered.id offered.payload)

  abbrev whose : SentTransfer
  whose = (its 0 some).whose

  its_id : whose.offer.id ≡ offered.id
  its_id = sym (piece_id (signature_of whose.offer.what) whose.offer.id whose.offer.payload 0
      (subst (λ (k : ℕ). k < length (theirs whose)) (same_place 0 some) (as_piece 0 some).place))
      ∙ (ap (λ (p : Piece). p.tail.id) (sym (its_piece 0 some)) ∙ piece_id (signature_of Alloc) offered.id offered.payload 0 some)

  namesake : (i : ℕ) → i < length cutting → IsOfNamesake made whose i (piece i)
  namesake i h = record {
    whose = (its i h).whose;
    was_made = (its i h).was_made;
    step = its_step i h ∙ sym (its_step 0 some);
    what = its_what i h ∙ sym (its_what 0 some);
    to = its_to i h ∙ sym (its_to 0 some);
    inside = subst (λ (k : ℕ). k < length (theirs (its i h).whose)) (same_place i h) (as_piece i h).place;
    same = its_piece i h;
  }

  pub was_made : IsAllocationOf made n answer
  was_made = record {
    x = whose;
    was_made = (its 0 some).was_made;
    maker = (its 0 some).maker;
    what = its_what 0 some;
    reads = ap allocation_of (sym (namesakes.payload_is laws ids made are whose (its 0 some).was_made (signature_of Alloc) offered.id offered.payload its_id namesake))
        ∙ offered.reads;
  }

-- ---- what it says

equals : (a b : ℕ) → a ≡ b → nat_eq a b ≡ true
equals a b e = elim (eqb_tells a b) [ inl is ↦ is.0 | inr apart ↦ absurd (apart.1 e) ]

positive : (a : ℕ) → a ≢ 0 → nat_le 1 a ≡ true
positive a some = elim (leb_tells 1 a) [ inl is ↦ is.0 | inr less ↦ absurd (some (omega (arith, less.1))) ]

pair_said : (step n : ℕ) (answer : Allocation) → answer.node ≢ 0 → length answer.uid.items ≡ 16
    → pair_message step n (pair_of_allocation (Some answer)) ≡ Some (Pairs (record { step = step; from = n; uid = answer.uid.items; node = answer.node }))
pair_said step n answer gives whole = rw (positive answer.node gives, equals (length answer.uid.items) 16 whole) refl

pub says_pair : (x : SentTransfer) (answer : Allocation) → x.offer.what ≡ Alloc → allocation_of x.offer.payload ≡ Some answer → answer.node ≢ 0
    → length answer.uid.items ≡ 16
    → message_of x.step x.by x.offer ≡ Some (Pairs (record { step = x.step; from = x.by; uid = answer.uid.items; node = answer.node }))
says_pair x answer what reads gives whole =
    ap (λ (w : What). message_by x.step x.by w x.offer.payload x.offer.says) what
    ∙ (ap (λ (o : Option Allocation). pair_message x.step x.by (pair_of_allocation o)) reads ∙ pair_said x.step x.by answer gives whole)

-- ---- in the bag

pub offers_are_made : (laws : FrameLaws) (choice : ℕ → Bool) (made : List SentTransfer) (w : Cluster) (run : raft.World) → AreMembers w.ids
    → Shows choice made w run → OffersAreMade w run
offers_are_made laws choice made w run members shows n server answer listed runs offered gives =
    let is : ShowsUp made w.ids w.frames run n server (w.member n).disk
    = subst (λ (status : MemberStatus). ShowsMember choice made w.ids w.frames run n status (w.member n).disk) runs (shows.lives n listed) in
    let one = was_made laws w.ids (λ m i. (members.nodes m i).0) (λ m i. (members.nodes m i).1) made shows.holds.transfers n listed server.queue is.works.queue
    answer offered in
    let whole = shows.holds.allocations one.x answer one.was_made one.what one.reads gives in (
      one.x.step,
      subst (λ (m : ℕ). In (Pairs (record { step = one.x.step; from = m; uid = answer.uid.items; node = answer.node })) run.bag) one.maker
          (shows.holds.said.said one.x (Pairs (record { step = one.x.step; from = one.x.by; uid = answer.uid.items; node = answer.node })) one.was_made
          (says_pair one.x answer one.what one.reads gives whole)),
    )

-- ---- frames on the bus

module _ (laws : FrameLaws) (ids : List ℕ) (low : (n : ℕ) → In n ids → 1 ≤ n) (high : (n : ℕ) → In n ids → n ≤ 125)
    (made : List SentTransfer) (bag : List Message) (holds : HoldsOfMade made ids bag) (frame : Queued) (n : ℕ) (of : IsOfAllocation frame n) where
  its_own : (m : ℕ) (piece : IsPiece made m frame) → let x = piece.whose in ident_of x.by x.offer.what x.offer.to ≡ of.ident
  its_own m piece =
      let x : SentTransfer = piece.whose in
      let is : IsPieceOf x (as_it_comes frame) = piece_of laws made m frame piece (as_it_comes frame) refl refl refl in
      some_is (ident_of x.by x.offer.what x.offer.to) of.ident
      (sym (read_back laws ids low high made holds.transfers x piece.was_made) ∙ (ap (λ (k : ℕ). identifier_of k) (sym is.id) ∙ of.read))

  its_maker : (m : ℕ) (piece : IsPiece made m frame) → piece.whose.by ≡ n
  its_maker m piece = ap (λ (i : Ident). i.source) (its_own m piece) ∙ of.source

  -- a member's frame with the identifier of an Allocation is of an Allocation, of the node that the identifier names
  its_frame : (m : ℕ) → In m ids → IsPiece made m frame → In n ids × IsMadeBy made bag frame n
  its_frame m listed piece = (
    subst (λ (k : ℕ). In k ids) (sym piece.maker ∙ by) listed,
    record {
      whose = x;
      was_made = piece.was_made;
      by = by;
      what = what;
      one = subst (λ (f : Queued). In f (frames_of x)) piece.same (in_at (frames_of x) frame.mark.place no_frame piece.place);
      said = λ answer reads gives. subst (λ (k : ℕ). In (Pairs (record { step = x.step; from = k; uid = answer.uid.items; node = answer.node })) bag) by
          (holds.said.said x (Pairs (record { step = x.step; from = x.by; uid = answer.uid.items; node = answer.node })) piece.was_made
          (says_pair x answer what reads gives (holds.allocations x answer piece.was_made what reads gives)));
    },
  )
    where
      x : SentTransfer
      x = piece.whose

      by : x.by ≡ n
      by = its_maker m piece

      what : x.offer.what ≡ Alloc
      what = one_what x.offer.what Alloc Broadcast 1 (ap (λ (i : Ident). i.kind) (its_own m piece) ∙ of.kind) refl (ap (λ (i : Ident). i.number) (its_own m piece) ∙ of.number) refl

  -- so it is a piece of this node's
  pub piece_on_bus : IsOnBus made ids frame → In n ids × IsPiece made n frame
  piece_on_bus (inl (m, listed, piece)) =
      let is : m ≡ n = sym piece.maker ∙ its_maker m piece in
      (subst (λ (k : ℕ). In k ids) is listed, subst (λ (k : ℕ). IsPiece made k frame) is piece)
  piece_on_bus (inr foreign) = absurd (cc (sym (forged_allocation ids of.ident of.kind of.number), ap (λ (o : Option Ident). is_forged ids o) (sym of.read), foreign))

  -- a frame of an Allocation on the bus is a member's: one from elsewhere is no such frame
  pub on_bus : IsOnBus made ids frame → In n ids × IsMadeBy made bag frame n
  on_bus (inl (m, listed, piece)) = its_frame m listed piece
  on_bus (inr foreign) = absurd (cc (sym (forged_allocation ids of.ident of.kind of.number), ap (λ (o : Option Ident). is_forged ids o) (sym of.read), foreign))

pub bus_is_made : (laws : FrameLaws) (choice : ℕ → Bool) (made : List SentTransfer) (w : Cluster) (run : raft.World) → AreMembers w.ids
    → Shows choice made w run → BusIsMade made w run
bus_is_made laws choice made w run members shows frame n there of =
    on_bus laws w.ids (λ m i. (members.nodes m i).0) (λ m i. (members.nodes m i).1) made run.bag shows.holds frame n of (shows.bus frame there)
