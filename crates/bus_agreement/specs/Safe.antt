-- That the run which a list of rows shows is lawful and safe, and that members are delivered what members made.
use Rattle.std.specs.Prelude.{◌≡◌, ℕ, Bool, true, List, [], ◌∷◌, ◌++◌, Some}
use Rattle.raft_model.specs.Lists.{In}
use Rattle.raft_model.specs.Messages.{Message}
use Rattle.raft_model.specs.Runs.{initial_world, run}
use Rattle.raft_model.specs.Safety.{IsSafe}
use Rattle.bus_rows.specs.declared.row.Row.{Row}
use Rattle.bus_rows.specs.declared.row.Row.TheVariants.{Rx}
use Rattle.alloc_spec.specs.Accepted.{setting_for}
use Rattle.alloc_spec.specs.Step.{at_moment, at_step}
use Rattle.alloc_spec.specs.AllocatorState.{AllocatorState}
use Rattle.alloc_spec.specs.Transfers.{SentTransfer, message_of}
use Rattle.can_frame.specs.Kinds.{is_service}
use Rattle.transfer_rx.specs.Reassembly.{Delivery, Gives, answer}
use Rattle.bus_spec.specs.Choices.{AgreesWithDisk}
use Rattle.bus_spec.specs.Cluster.{Cluster, arrival_at, cluster, frame_at, world_of}
use Rattle.bus_spec.specs.Lawful.{is_forged}
use Rattle.bus_spec.specs.Members.MemberStatus.{Up}
use Rattle.bus_spec.specs.Refinement.{events, transfers_of_rows}
use Rattle.bus_agreement.specs.Continues.{Continues}
use Rattle.bus_agreement.specs.Frames.{IsTransferOf}

-- member n runs, and the frame, as it comes at this moment, completes this delivery; it has a member's source, or is of
-- a data type that members alone send
pub record IsDeliveredTo (w : Cluster) (n k ms : ℕ) (d : Delivery) : Type 0 where
  pub server : AllocatorState
  pub runs : (w.member n).status ≡ Up server
  pub gives : answer (setting_for server.me) server.sessions
      (at_step (at_moment ms server) (arrival_at (frame_at w.frames k) ms)) ≡ Gives d
  pub member : is_forged w.ids (Some d.ident) ≡ true

-- what is delivered to member n is one transfer that was made, and no other; a request or a response is for n; and what
-- the transfer says in the Raft model is in the bag
pub record IsOneTransfer (made : List SentTransfer) (bag : List Message) (n : ℕ) (d : Delivery) : Type 0 where
  pub whose : SentTransfer
  pub was_made : In whose made
  pub its : IsTransferOf d whose
  pub only : (other : SentTransfer) → In other made → IsTransferOf d other → other ≡ whose
  pub for_it : is_service d.ident.kind ≡ true → whose.offer.to ≡ n
  pub said : (message : Message) → message_of whose.step whose.by whose.offer ≡ Some message → In message bag

-- Whatever choice fits what the stops find, these rows show a lawful run of the Raft model from its beginning, and
-- it is safe; and whatever transfer of a member a row delivers, a member made it by then, for this receiver, and what
-- it says is in the bag of that run.
pub record AreSafe (ids : List ℕ) (rows : List Row) : Type 0 where
  pub shown : (choice : ℕ → Bool) → AgreesWithDisk choice (cluster ids) rows
      → Continues choice (transfers_of_rows (cluster ids) rows []) (world_of ids rows) (initial_world ids)
      (events choice (cluster ids) rows)
  pub delivered : (first rest : List Row) (n k ms : ℕ) (choice : ℕ → Bool)
      → rows ≡ first ++ (Rx n k ms ∷ rest)
      → AgreesWithDisk choice (cluster ids) first → (d : Delivery) → IsDeliveredTo (world_of ids first) n k ms d
      → IsOneTransfer (transfers_of_rows (cluster ids) first [])
      (run (initial_world ids) (events choice (cluster ids) first)).bag n d
  pub safe : (choice : ℕ → Bool) → AgreesWithDisk choice (cluster ids) rows
      → IsSafe (run (initial_world ids) (events choice (cluster ids) rows))
