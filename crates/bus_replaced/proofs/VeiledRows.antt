-- A world and the same world without the votes from before a replacement: a row that brings no member one of those votes
-- does the same in both.
use Rattle.std.proofs.Common.{◌≡◌, ℕ, ◌+◌, ◌-◌, ◌≤◌, Bool, true, false, List, [], ◌∷◌, ◌++◌, length, refl, sym, ap, subst, ◌∙◌, arith, inl, inr, Option, Some, None}
use Rattle.std.specs.Prelude.{◌==◌, ◌||◌, ◌&&◌, nat_lt, Err}
use Rattle.std.proofs.lemmas.List.{length-append}
use Rattle.allocatee.specs.Accepted as device
use Rattle.allocatee.specs.Allocatee.{Device, after_receiver_answer, at_step, step as device_step}
use Rattle.allocatee.specs.Allocatee.Event.{Rx as Heard}
use Rattle.allocatee.specs.Asking.{at_moment}
use Rattle.allocatee.specs.Judging.{answer_judgement, arrival_judgement}
use Rattle.can_frame.specs.Identifier.{identifier_of}
use Rattle.can_frame.specs.declared.identifier.Ident.{Ident}
use Rattle.can_frame.specs.declared.identifier.Kind.{Kind}
use Rattle.can_frame.specs.declared.identifier.Kind.TheVariants.{Message, Anonymous, Request, Response}
use Rattle.can_frame.specs.declared.step.Judged.TheVariants.{Fine}
use Rattle.can_frame.specs.declared.step.Why.TheVariants.{NotWanted}
use Rattle.transfer_rx.specs.Acceptance.{accepted, wanted}
use Rattle.transfer_rx.specs.Reassembly as receiver
use Rattle.transfer_rx.specs.Reassembly.{Arrival, Drops, of_wanted}
use Rattle.transfer_rx.specs.Sessions.{Session}
use Rattle.transfer_tx.specs.Queue.{Queued}
use Rattle.alloc_spec.specs.Step as allocator
use Rattle.alloc_spec.specs.Transfers.{SentTransfer}
use Rattle.bus_rows.specs.declared.row.Row.{Row}
use Rattle.bus_rows.specs.declared.row.Row.TheVariants.{AEnd, AOpen, ARx, ASend, ATick, Crash, Ext, Fault, Open, Rx, Send, Tick}
use Rattle.bus_spec.specs.Allocatees.{after_sending_from, device_after_step, next_from}
use Rattle.bus_spec.specs.Choices.{RowAgreesWithDisk}
use Rattle.bus_spec.specs.Cluster.{Cluster, after_row, arrival_at, frame_at, from_outside, in_list, with_allocatee, with_member, with_step}
use Rattle.bus_spec.specs.declared.unlawful.Unlawful.{Unlawful}
use Rattle.bus_spec.specs.declared.unlawful.Unlawful.TheVariants.{NoFrame}
use Rattle.bus_spec.specs.Lawful.{DoesNoHarm, absent, arrival_refusal, arrival_refusal_at, because, brings_void_to, cause, cause_of_judgement, is_void_at, no_allocatee, no_node, not_running, or_else}
use Rattle.bus_spec.specs.Members.{after_sending, next_frame}
use Rattle.bus_spec.specs.Refinement.{transfers_of_row, transfers_of_step}
use Rattle.bus_agreement.proofs.Lists.{never}
use Rattle.raft_model.proofs.Apart.{clash}
use Rattle.raft_model.proofs.Whole.{lt_tells}
use Rattle.raft_replaced.proofs.Filters.{and_both}
use Rattle.bus_replaced.specs.Traces.{brings_old_vote, is_of_vote, is_vote_frame}
use Rattle.bus_replaced.proofs.Masks.{mask_at, mask_length, mask_more, masked}

abbrev pub veiled : ℕ → Cluster → Cluster
veiled old w = record w { frames = masked old w.frames }

-- ---- a device takes no vote, and nothing of a frame without fields

known : (kind : Kind) (ident : Ident) → ident.kind ≡ kind → is_of_vote (Some ident) ≡ true → accepted device.rows 0 (Some ident) ≡ Err NotWanted
unfolding device.rows
known Message ident k vote = absurd (cc (rw k at vote))
known Anonymous ident k vote = absurd (cc (rw k at vote))
known Request ident k vote = rw k refl
known Response ident k vote = rw k refl

by_ident : (o : Option Ident) → is_of_vote o ≡ true → accepted device.rows 0 o ≡ Err NotWanted
by_ident None vote = never vote
by_ident (Some ident) vote = known ident.kind ident refl vote

pub vote_unwanted : (frame : Queued) → is_vote_frame frame ≡ true → wanted device.rows 0 frame.id ≡ Err NotWanted
unfolding wanted
vote_unwanted frame vote = by_ident (identifier_of frame.id) vote

none_unwanted : wanted device.rows 0 0 ≡ Err NotWanted
unfolding wanted device.rows identifier_of
none_unwanted = refl

dropped : (sessions : List Session) (arrival : Arrival) → wanted device.rows 0 arrival.id ≡ Err NotWanted
    → receiver.step device.setting sessions arrival ≡ record { answer = Drops NotWanted; sessions = sessions }
unfolding receiver.step
dropped sessions arrival e = ap (of_wanted device.setting arrival sessions) e

after_drop : (x : Device) (number word : ℕ) (arrival : Arrival) → wanted device.rows 0 arrival.id ≡ Err NotWanted
    → (device_step x number (Heard arrival word)).device ≡ record { asking = at_moment arrival.moment x.asking; sessions = x.sessions }
unfolding device_step
after_drop x number word arrival e = ap (λ (s : receiver.Step). record {
  asking = after_receiver_answer word s.answer (at_moment arrival.moment x.asking);
  sessions = s.sessions;
}) (dropped x.sessions (at_step x arrival) e)

fine_then : (x : Device) (arrival : Arrival) → wanted device.rows 0 arrival.id ≡ Err NotWanted → arrival_judgement x arrival ≡ Fine
unfolding arrival_judgement
fine_then x arrival e = ap (λ (s : receiver.Step). answer_judgement arrival.mark.step s.answer) (dropped x.sessions (at_step x arrival) e)

-- ---- rows

module _ (old : ℕ) (w : Cluster) where
  abbrev frames : List Queued
  frames = masked old w.frames

  as_many : length frames ≡ length w.frames
  as_many = mask_length old w.frames

  -- the frame that comes to a member
  same_frame : (n k ms : ℕ) → brings_old_vote old w (Rx n k ms) ≡ false → frame_at frames k ≡ frame_at w.frames k
  same_frame n k ms e = elim (mask_at old (k - 1) w.frames) [
    | inl same ↦ same
    | inr vote ↦ elim (lt_tells (k - 1) old) [
      | inl below ↦ absurd (clash (nat_lt (k - 1) old && is_vote_frame (frame_at w.frames k)) (and_both (nat_lt (k - 1) old) (is_vote_frame (frame_at w.frames k)) below.0 vote.1) e)
      | inr above ↦ absurd (omega (arith, vote.2, above.1))
    ]
  ]

  -- what a frame does to a device
  module _ (k ms word : ℕ) where
    abbrev comes : List Queued → Arrival
    comes list = arrival_at (frame_at list k) ms

    same_step : (o : Option Device) → device_after_step (w.rows + 1) (Heard (comes frames) word) o ≡ device_after_step (w.rows + 1) (Heard (comes w.frames) word) o
    same_step None = refl
    same_step (Some x) = elim (mask_at old (k - 1) w.frames) [
      | inl same ↦ ap (λ (f : Queued). device_after_step (w.rows + 1) (Heard (arrival_at f ms) word) (Some x)) same
      | inr vote ↦
          let unwanted = subst (λ (f : Queued). wanted device.rows 0 f.id ≡ Err NotWanted) (sym vote.0) none_unwanted in
          ap (λ (d : Device). Some d) (after_drop x (w.rows + 1) word (comes frames) unwanted
          ∙ sym (after_drop x (w.rows + 1) word (comes w.frames) (vote_unwanted (frame_at w.frames k) vote.1)))
    ]

    same_refusal : (o : Option Device) → arrival_refusal_at o (comes frames) ≡ arrival_refusal_at o (comes w.frames)
    same_refusal None = refl
    same_refusal (Some x) = elim (mask_at old (k - 1) w.frames) [
      | inl same ↦ ap (λ (f : Queued). arrival_refusal_at (Some x) (arrival_at f ms)) same
      | inr vote ↦
          let unwanted = subst (λ (f : Queued). wanted device.rows 0 f.id ≡ Err NotWanted) (sym vote.0) none_unwanted in
          ap cause_of_judgement (fine_then x (comes frames) unwanted ∙ sym (fine_then x (comes w.frames) (vote_unwanted (frame_at w.frames k) vote.1)))
    ]

  -- the causes against a frame, by how many there are, and by what comes last
  abbrev frame_cause : ℕ → ℕ → Option Unlawful → Option Unlawful
  frame_cause k count last = or_else (because NoFrame ((k == 0) || nat_lt count k)) last

  same_frame_cause : (k : ℕ) (here there : Option Unlawful) → here ≡ there → frame_cause k (length frames) here ≡ frame_cause k (length w.frames) there
  same_frame_cause k here there e = ap (λ (count : ℕ). frame_cause k count here) as_many ∙ ap (frame_cause k (length w.frames)) e

  same_cause : (row : Row) → brings_old_vote old w row ≡ false → cause (veiled old w) row ≡ cause w row
  same_cause (Open n told ms word) e = refl
  same_cause (Tick n ms word) e = refl
  same_cause (Rx n k ms) e = ap (λ (o : Option Unlawful). or_else (no_node w n) (or_else (not_running w n) o))
      (same_frame_cause k (arrival_refusal (w.member n).status (arrival_at (frame_at frames k) ms)) (arrival_refusal (w.member n).status (arrival_at (frame_at w.frames k) ms))
      (ap (λ (f : Queued). arrival_refusal (w.member n).status (arrival_at f ms)) (same_frame n k ms e)))
  same_cause (Send n) e = refl
  same_cause (Ext frame) e = refl
  same_cause (Crash n calls pattern) e = refl
  same_cause (Fault n call) e = refl
  same_cause (AOpen a uid pref ms word) e = refl
  same_cause (ATick a ms word) e = refl
  same_cause (ARx a k ms word) e = ap (λ (o : Option Unlawful). or_else (no_allocatee a) (or_else (absent w a) o))
      (same_frame_cause k (arrival_refusal_at (w.allocatee a) (comes k ms word frames)) (arrival_refusal_at (w.allocatee a) (comes k ms word w.frames)) (same_refusal k ms word (w.allocatee a)))
  same_cause (ASend a) e = refl
  same_cause (AEnd a) e = refl

  same_void : (row : Row) → brings_old_vote old w row ≡ false → brings_void_to (veiled old w) row ≡ brings_void_to w row
  same_void (Open n told ms word) e = refl
  same_void (Tick n ms word) e = refl
  same_void (Rx n k ms) e = ap (λ (f : Queued). is_void_at (w.member n).status (arrival_at f ms)) (same_frame n k ms e)
  same_void (Send n) e = refl
  same_void (Ext frame) e = refl
  same_void (Crash n calls pattern) e = refl
  same_void (Fault n call) e = refl
  same_void (AOpen a uid pref ms word) e = refl
  same_void (ATick a ms word) e = refl
  same_void (ARx a k ms word) e = refl
  same_void (ASend a) e = refl
  same_void (AEnd a) e = refl

  pub harmless_veiled : (row : Row) → brings_old_vote old w row ≡ false → DoesNoHarm w row → DoesNoHarm (veiled old w) row
  harmless_veiled row e (inl lawful) = inl (same_cause row e ∙ lawful)
  harmless_veiled row e (inr stale) = inr (same_cause row e ∙ stale.0, same_void row e ∙ stale.1)

  pub fits_veiled : (choice : ℕ → Bool) (row : Row) → RowAgreesWithDisk choice w row → RowAgreesWithDisk choice (veiled old w) row
  fits_veiled choice (Open n told ms word) is = is
  fits_veiled choice (Tick n ms word) is = is
  fits_veiled choice (Rx n k ms) is = is
  fits_veiled choice (Send n) is = is
  fits_veiled choice (Ext frame) is = is
  fits_veiled choice (Crash n calls pattern) is = is
  fits_veiled choice (Fault n call) is = is
  fits_veiled choice (AOpen a uid pref ms word) is = is
  fits_veiled choice (ATick a ms word) is = is
  fits_veiled choice (ARx a k ms word) is = is
  fits_veiled choice (ASend a) is = is
  fits_veiled choice (AEnd a) is = is

  pub transfers_veiled : (row : Row) (made : List SentTransfer) → brings_old_vote old w row ≡ false → transfers_of_row (veiled old w) row made ≡ transfers_of_row w row made
  transfers_veiled (Open n told ms word) made e = refl
  transfers_veiled (Tick n ms word) made e = refl
  transfers_veiled (Rx n k ms) made e = ap (λ (f : Queued). transfers_of_step (w.rows + 1) n (allocator.Event.Rx (arrival_at f ms)) (w.member n).status (w.member n) made) (same_frame n k ms e)
  transfers_veiled (Send n) made e = refl
  transfers_veiled (Ext frame) made e = refl
  transfers_veiled (Crash n calls pattern) made e = refl
  transfers_veiled (Fault n call) made e = refl
  transfers_veiled (AOpen a uid pref ms word) made e = refl
  transfers_veiled (ATick a ms word) made e = refl
  transfers_veiled (ARx a k ms word) made e = refl
  transfers_veiled (ASend a) made e = refl
  transfers_veiled (AEnd a) made e = refl

  module _ (room : old ≤ length w.frames) where
    -- the bus grows behind the frames from before
    behind : (more : List Queued) → frames ++ more ≡ masked old (w.frames ++ more)
    behind more = sym (mask_more old w.frames more room)

    pub row_veiled : (row : Row) → brings_old_vote old w row ≡ false → after_row (veiled old w) row ≡ veiled old (after_row w row)
    row_veiled (Open n told ms word) e = refl
    row_veiled (Tick n ms word) e = refl
    row_veiled (Rx n k ms) e = ap (λ (f : Queued). record (with_step (veiled old w) n (allocator.Event.Rx (arrival_at f ms))) { rows = w.rows + 1 }) (same_frame n k ms e)
    row_veiled (Send n) e = ap (λ (l : List Queued). record (with_member w n (record (w.member n) { status = after_sending (w.member n).status })) { frames = l; rows = w.rows + 1 })
        (behind (in_list (next_frame (w.member n).status)))
    row_veiled (Ext frame) e = ap (λ (l : List Queued). record w { frames = l; rows = w.rows + 1 }) (behind (from_outside frame.id frame.bytes.items ∷ []))
    row_veiled (Crash n calls pattern) e = refl
    row_veiled (Fault n call) e = refl
    row_veiled (AOpen a uid pref ms word) e = refl
    row_veiled (ATick a ms word) e = refl
    row_veiled (ARx a k ms word) e = ap (λ (o : Option Device). record (with_allocatee (veiled old w) a o) { rows = w.rows + 1 }) (same_step k ms word (w.allocatee a))
    row_veiled (ASend a) e = ap (λ (l : List Queued). record (with_allocatee w a (after_sending_from (w.allocatee a))) { frames = l; rows = w.rows + 1 })
        (behind (in_list (next_from (w.allocatee a))))
    row_veiled (AEnd a) e = refl

    longer : (more : List Queued) → old ≤ length (w.frames ++ more)
    longer more = omega (arith, room, length-append w.frames more)

    pub room_after : (row : Row) → old ≤ length (after_row w row).frames
    room_after (Open n told ms word) = room
    room_after (Tick n ms word) = room
    room_after (Rx n k ms) = room
    room_after (Send n) = longer (in_list (next_frame (w.member n).status))
    room_after (Ext frame) = longer (from_outside frame.id frame.bytes.items ∷ [])
    room_after (Crash n calls pattern) = room
    room_after (Fault n call) = room
    room_after (AOpen a uid pref ms word) = room
    room_after (ATick a ms word) = room
    room_after (ARx a k ms word) = room
    room_after (ASend a) = longer (in_list (next_from (w.allocatee a)))
    room_after (AEnd a) = room
