-- What stands behind a row that is refused as torn or as stale: a transfer ID that a member used twice, or one
-- transfer of which frames are missing.
use Rattle.std.specs.Prelude.{◌≡◌, ◌≢◌, ◌⊎◌, ℕ, ◌-◌, ◌<◌, ◌≤◌, true, false, List, [], ◌∷◌, ◌++◌, length, map, max}
use Rattle.std.specs.Prelude.{slice_index_or, Some}
use Rattle.can_frame.specs.declared.identifier.Ident.{Ident}
use Rattle.can_frame.specs.declared.identifier.Kind.TheVariants.{Response}
use Rattle.can_frame.specs.Cutting.{frame_bytes, frame_count, frames_of as pieces_of, piece_from}
use Rattle.can_frame.specs.Identifier.{identifier_number}
use Rattle.raft_core.specs.Times.{Sending}
use Rattle.raft_model.specs.Lists.{In}
use Rattle.raft_model.specs.Messages.{Request}
use Rattle.transfer_rx.specs.Marks.{is_whole}
use Rattle.transfer_rx.specs.Reassembly.{Arrival, Delivery, Gives, Setting, answer, piece_in}
use Rattle.transfer_rx.specs.Sessions.{Session}
use Rattle.transfer_tx.specs.Queue.{Queued}
use Rattle.allocatee.specs.Accepted as device
use Rattle.allocatee.specs.Allocatee.{Device}
use Rattle.alloc_spec.specs.Accepted.{setting_for}
use Rattle.alloc_spec.specs.AllocatorState.{AllocatorState}
use Rattle.alloc_spec.specs.Transfers.{SentTransfer, ident_of, kind_of, number_of, signature_of}
use Rattle.bus_spec.specs.Cluster.{Cluster, arrival_at, frame_at}
use Rattle.bus_spec.specs.Lawful.{is_forged}
use Rattle.bus_spec.specs.Members.MemberStatus.{Up}
use Rattle.bus_agreement.specs.Frames.{CameFrom}
use Rattle.bus_agreement.specs.Said.{carrier}
use Rattle.bus_physics.specs.Physics.{IsResponseOf}

-- ---- transfer IDs

-- two transfers of one member, of one kind and to one destination, made in two steps under one transfer ID
pub record IsUsedTwice (made : List SentTransfer) (first second : SentTransfer) : Type 0 where
  pub first_made : In first made
  pub second_made : In second made
  pub by : first.by ≡ second.by
  pub what : first.offer.what ≡ second.offer.what
  pub to : first.offer.to ≡ second.offer.to
  pub id : first.offer.id ≡ second.offer.id
  pub apart : first.step ≢ second.step

-- a frame as it came is one of this transfer's: that of its place
pub record IsFrameOf (x : SentTransfer) (arrival : Arrival) : Type 0 where
  pub place : arrival.mark.place < length (pieces_of (signature_of x.offer.what) x.offer.id x.offer.payload)
  pub ident : arrival.id ≡ identifier_number (ident_of x.by x.offer.what x.offer.to)
  pub bytes : arrival.bytes ≡ frame_bytes
      (slice_index_or (pieces_of (signature_of x.offer.what) x.offer.id x.offer.payload) arrival.mark.place
      (piece_from []))
  pub step : arrival.mark.step ≡ x.step

-- ---- torn

-- two of the frames, one behind the other, are of two transfers under one transfer ID, the second one that of the last
pub record AreOfTwo (made : List SentTransfer) (ident : Ident) (last : Arrival) (all : List Arrival) : Type 0 where
  pub first : SentTransfer
  pub second : SentTransfer
  pub twice : IsUsedTwice made first second
  pub kind : kind_of first.offer.what ≡ ident.kind
  pub number : number_of first.offer.what ≡ ident.number
  pub front : List Arrival
  pub one : Arrival
  pub next : Arrival
  pub back : List Arrival
  pub split : all ≡ front ++ (one ∷ (next ∷ back))
  pub of_first : IsFrameOf first one
  pub of_second : IsFrameOf second next
  pub with_last : second.step ≡ last.mark.step

-- all are frames of one transfer, and they are not those of its places 0, 1, 2 and so on
pub record AreOfOne (made : List SentTransfer) (ident : Ident) (all : List Arrival) : Type 0 where
  pub whose : SentTransfer
  pub was_made : In whose made
  pub kind : kind_of whose.offer.what ≡ ident.kind
  pub number : number_of whose.offer.what ≡ ident.number
  pub each : (arrival : Arrival) → In arrival all → IsFrameOf whose arrival
  pub not_whole : is_whole (map (λ arrival. arrival.mark) all) ≡ false

-- what was put together of these frames of the bus, the last one behind the others, is torn
pub record IsTornOf (made : List SentTransfer) (frames : List Queued) (last : Arrival) (d : Delivery) : Type 0 where
  pub before : List Arrival
  pub came : (arrival : Arrival) → In arrival (before ++ last ∷ []) → CameFrom frames arrival
  pub signature : ℕ
  pub cutting : map piece_in (before ++ last ∷ []) ≡ pieces_of signature d.id d.payload
  pub how : AreOfTwo made d.ident last (before ++ last ∷ []) ⊎ AreOfOne made d.ident (before ++ last ∷ [])

-- the frame completes a transfer at a receiver; and where it has a member's source, or is of a data type that members
-- alone send, the transfer is torn in this way
pub record CompletesTorn (made : List SentTransfer) (ids : List ℕ) (frames : List Queued) (setting : Setting)
    (sessions : List Session) (last : Arrival) : Type 0 where
  pub delivery : Delivery
  pub gives : answer setting sessions last ≡ Gives delivery
  pub not_whole : delivery.whole ≡ false
  pub torn : is_forged ids (Some delivery.ident) ≡ true → IsTornOf made frames last delivery

-- frame k, at a moment, is torn at member n
pub record IsTornAt (made : List SentTransfer) (w : Cluster) (n k ms : ℕ) : Type 0 where
  pub server : AllocatorState
  pub runs : (w.member n).status ≡ Up server
  pub completes : CompletesTorn made w.ids w.frames (setting_for server.me) server.sessions
      (arrival_at (frame_at w.frames k) (max server.now ms))

-- frame k, at a moment, is torn at allocatee a
pub record IsTornAtDevice (made : List SentTransfer) (w : Cluster) (a k ms : ℕ) : Type 0 where
  pub x : Device
  pub there : w.allocatee a ≡ Some x
  pub completes : CompletesTorn made w.ids w.frames device.setting x.sessions
      (arrival_at (frame_at w.frames k) (max x.asking.moment ms))

-- ---- stale

-- Frame k, at a moment, answers the first of two calls that member n made to a peer under one transfer ID, and it is
-- the second one that waits, for less than 1,000 ms.
pub record IsStaleAt (made : List SentTransfer) (w : Cluster) (n k ms : ℕ) : Type 0 where
  pub server : AllocatorState
  pub runs : (w.member n).status ≡ Up server
  pub first : SentTransfer
  pub second : SentTransfer
  pub twice : IsUsedTwice made first second
  pub maker : second.by ≡ n
  pub another : first.offer.to ≢ n
  pub response : SentTransfer
  pub response_made : In response made
  pub response_kind : kind_of response.offer.what ≡ Response
  pub response_step : response.step ≡ (frame_at w.frames k).mark.step
  pub response_re : response.offer.re ≡ (frame_at w.frames k).mark.re
  pub is_response : IsResponseOf (number_of first.offer.what) first.offer.to first.by (frame_at w.frames k)
  pub answered : first.step ≡ (frame_at w.frames k).mark.re
  pub request : Request
  pub pending : server.raft_server.memory.pending second.offer.to ≡ Some request
  pub called : second.step ≡ request.step
  pub carried : second.offer.what ≡ carrier request.append
  pub sending : Sending
  pub sent : server.times.sending second.offer.to ≡ Some sending
  pub young : max server.now ms - sending.moment < 1000

-- ---- what is torn on a physical bus

-- A frame completes what was put together behind these frames. All of them are frames of one transfer, of four frames
-- or more, and they are not all of it; but their pieces are those of some payload, so that the CRC fits.
pub record LacksFrames (made : List SentTransfer) (last : Arrival) : Type 0 where
  pub before : List Arrival
  pub ident : Ident
  pub one : AreOfOne made ident (before ++ last ∷ [])
  pub long : 4 ≤ frame_count (length one.whose.offer.payload)
  pub signature : ℕ
  pub id : ℕ
  pub payload : List ℕ
  pub cutting : map piece_in (before ++ last ∷ []) ≡ pieces_of signature id payload
