-- What the laws of a calm, and of elections, rounds and service in it, stand on together: each field is what a law
-- below says. It is a means of their proofs.
use Rattle.std.specs.Prelude.{◌≡◌, ℕ, true, Bool, All, List, [], ◌∷◌, ◌++◌, length, map}
use Rattle.can_frame.specs.Cutting.{bytes_cut, cut_length, frames_of, joined}
use Rattle.raft_model.specs.Invariants.{Invariants}
use Rattle.raft_model.specs.Lists.{In}
use Rattle.raft_model.specs.Runs.{InEveryRun, World, initial_world}
use Rattle.bus_rows.specs.declared.row.Row.{Row}
use Rattle.bus_rows.specs.declared.row.Row.TheVariants.{Rx as RxRow}
use Rattle.transfer_rx.specs.declared.accept.Wanted.{Wanted}
use Rattle.transfer_rx.specs.Keys.{key_of}
use Rattle.transfer_rx.specs.Marks.{is_whole}
use Rattle.transfer_rx.specs.Reassembly.{Arrival, Delivery, Gives, Setting, answer, piece_in}
use Rattle.transfer_rx.specs.Run.{ComesWhole, of_key, run}
use Rattle.transfer_rx.specs.Sessions.{Session}
use Rattle.allocatee.specs.Allocatee.{Device}
use Rattle.allocatee.specs.Allocatee as device
use Rattle.allocatee.specs.Given.{IsAnonymous}
use Rattle.alloc_spec.specs.AllocatorState.{AllocatorState, knows_all, members_of}
use Rattle.alloc_spec.specs.Step.{Event, after_pop, step}
use Rattle.alloc_spec.specs.Transfers.{SentTransfer}
use Rattle.alloc_spec_laws.specs.Apart.{AreAllApart}
use Rattle.alloc_spec_laws.specs.Sound.{IsSound}
use Rattle.bus_agreement.specs.Continues.{Continues}
use Rattle.bus_agreement.specs.LawsBelow.{CodecLaws, FrameLaws}
use Rattle.bus_agreement.specs.Safe.{IsDeliveredTo, IsOneTransfer}
use Rattle.bus_agreement.specs.Shows.{Shows}
use Rattle.bus_agreement.specs.StepLaws.{MoreLaws, StepLaws}
use Rattle.bus_spec.specs.Choices.{AgreesWithDisk}
use Rattle.alloc_spec.specs.ClusterMembers.{AreMembers}
use Rattle.bus_spec.specs.Cluster.{Cluster, after_row, after_rows, cluster, world_of}
use Rattle.bus_spec.specs.Lawful.{DoNoHarm, DoesNoHarm}
use Rattle.bus_spec.specs.Refinement.{events, transfers_of_row, transfers_of_rows}

-- this is so of all rows that do no harm
abbrev pub IsSaid : (List ℕ → List Row → Type 0) → Type 0
IsSaid Law = (ids : List ℕ) (rows : List Row) → AreMembers ids → DoNoHarm (cluster ids) rows → Law ids rows

-- of frames and messages, of steps, of devices, of what is delivered, of the Raft model, and of rows
pub record CalmGrounds : Type 0 where
  pub frame : FrameLaws
  pub codec : CodecLaws
  pub in_step : StepLaws
  pub more : MoreLaws
  pub carried : (signature id : ℕ) (payload : List ℕ) →
      joined (frames_of signature id payload) ≡ bytes_cut signature payload
  pub cut : (signature : ℕ) (payload : List ℕ) → length (bytes_cut signature payload) ≡ cut_length (length payload)
  pub whole : (setting : Setting) (sessions : List Session) (w : Wanted) (payload : List ℕ)
      (arrivals before : List Arrival) (first last : Arrival) →
      ComesWhole setting sessions w payload arrivals before first last →
      answer setting (run setting sessions before) last ≡ Gives (record {
        ident = w.ident;
        id = (piece_in last).tail.id;
        payload = payload;
        mark = last.mark;
        whole = is_whole (map (λ (arrival : Arrival). arrival.mark) (of_key setting (key_of w.ident) arrivals));
      })
  pub popped : (t : AllocatorState) → IsSound t → IsSound (after_pop t)
  pub apart : (t : AllocatorState) (number : ℕ) (event : Event) → AreAllApart (step t number event).step_state.offers
  pub stay : (t : AllocatorState) (number : ℕ) (event : Event) (node : ℕ) → In node (members_of t) →
      In node (members_of (step t number event).step_state.allocator)
  pub complete : (t : AllocatorState) (number : ℕ) (event : Event) → knows_all t ≡ true →
      members_of (step t number event).step_state.allocator ≡ members_of t
  pub device_step : (d : Device) (number : ℕ) (event : device.Event) → All IsAnonymous d.asking.queue →
      All IsAnonymous (device.step d number event).device.asking.queue
  pub device_popped : (d : Device) → All IsAnonymous d.asking.queue →
      All IsAnonymous (device.after_pop d).asking.queue
  pub one_transfer : (choice : ℕ → Bool) (made : List SentTransfer) (w : Cluster) (world : World) → AreMembers w.ids →
      Shows choice made w world → (n k ms : ℕ) (d : Delivery) → DoesNoHarm w (RxRow n k ms) →
      IsDeliveredTo w n k ms d → IsOneTransfer made world.bag n d
  pub invariants : InEveryRun Invariants
  pub chosen : IsSaid (λ (ids : List ℕ) (rows : List Row). (choice : ℕ → Bool) × AgreesWithDisk choice (cluster ids) rows)
  pub shown : (choice : ℕ → Bool) (ids : List ℕ) (rows : List Row) → AreMembers ids → DoNoHarm (cluster ids) rows →
      AgreesWithDisk choice (cluster ids) rows →
      Continues choice (transfers_of_rows (cluster ids) rows []) (world_of ids rows) (initial_world ids)
      (events choice (cluster ids) rows)
  pub same : (w : Cluster) (rows : List Row) → (after_rows w rows).ids ≡ w.ids
  pub grows : (w : Cluster) (rows : List Row) (row : Row) →
      after_rows w (rows ++ row ∷ []) ≡ after_row (after_rows w rows) row
  pub no_harm : (w : Cluster) (rows : List Row) (row : Row) → DoNoHarm w rows → DoesNoHarm (after_rows w rows) row →
      DoNoHarm w (rows ++ row ∷ [])
  pub made : (w : Cluster) (rows : List Row) (row : Row) (earlier : List SentTransfer) →
      transfers_of_rows w (rows ++ row ∷ []) earlier ≡
      transfers_of_row (after_rows w rows) row (transfers_of_rows w rows earlier)
