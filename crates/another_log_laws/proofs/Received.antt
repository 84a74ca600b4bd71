-- What rows bring their members was said in the run that they show.
use Rattle.std.proofs.Common.{◌≡◌, ℕ, ◌≤◌, Bool, List, [], ◌∷◌, ◌++◌, refl, sym, subst, None}
use Rattle.dsdl_codec.specs.declared.append_request.AppendRequest.{AppendRequest}
use Rattle.raft_model.specs.Lists.{In}
use Rattle.raft_model.specs.Messages.{Message}
use Rattle.raft_model.specs.Runs as raft
use Rattle.raft_model.specs.Runs.{InEveryRun, initial_world, run}
use Rattle.bus_rows.specs.declared.row.Row.{Row}
use Rattle.bus_rows.specs.declared.row.Row.TheVariants.{Rx as RxRow}
use Rattle.transfer_rx.specs.Reassembly.{Arrival}
use Rattle.transfer_tx.specs.Queue.{Queued}
use Rattle.alloc_server.specs.AnotherLog.{caller_by}
use Rattle.alloc_server.specs.OneLog.{ContradictsNothing}
use Rattle.alloc_spec.specs.AllocatorState.{AllocatorState}
use Rattle.alloc_spec.specs.ClusterMembers.{AreMembers}
use Rattle.alloc_spec.specs.Judging.{IsHarmless}
use Rattle.alloc_spec.specs.Step.Event.{Rx}
use Rattle.alloc_spec.specs.Transfers.{SentTransfer}
use Rattle.alloc_spec_laws.specs.Coming.{TakesFrom}
use Rattle.bus_spec.specs.Choices.{AgreesWithDisk}
use Rattle.bus_spec.specs.Cluster.{Cluster, arrival_at, cluster, frame_at, world_of}
use Rattle.bus_spec.specs.Lawful.{DoNoHarm, DoesNoHarm}
use Rattle.bus_spec.specs.Members.{MemberStatus}
use Rattle.bus_spec.specs.Members.MemberStatus.{Up}
use Rattle.bus_spec.specs.Refinement.{events, transfers_of_rows}
use Rattle.bus_agreement.specs.Continues.{Continues}
use Rattle.bus_agreement.specs.Frames.{CameFrom, IsOnBus}
use Rattle.bus_agreement.specs.Shows.{HoldsOfMade, IsAtWork, ShowsMember, ShowsUp, Shows}
use Rattle.bus_agreement.proofs.Concatenations.{first_harmless, ids_stay, row_harmless}
use Rattle.bus_agreement.proofs.OneRow.{is_received, may_receive}
use Rattle.another_log_laws.specs.Agreeing.{AgreesWith, CallsAgree, BringsCall}
use Rattle.another_log_laws.specs.Uncalled.{HearNoOtherLog}
use Rattle.another_log_laws.proofs.Agreeing.{agrees_with}
use Rattle.another_log_laws.proofs.Calls.{contradicts_nothing, no_caller}

pub record Laws : Type 0 where
  pub choices : (ids : List ℕ) (rows : List Row) → AreMembers ids → DoNoHarm (cluster ids) rows
      → (choice : ℕ → Bool) × AgreesWithDisk choice (cluster ids) rows
  pub shown : (choice : ℕ → Bool) (ids : List ℕ) (rows : List Row) → AreMembers ids → DoNoHarm (cluster ids) rows
      → AgreesWithDisk choice (cluster ids) rows
      → Continues choice (transfers_of_rows (cluster ids) rows []) (world_of ids rows) (initial_world ids) (events choice (cluster ids) rows)
  pub takes : (ids : List ℕ) (made : List SentTransfer) (frames : List Queued) (bag : List Message) (server : AllocatorState)
      (number : ℕ) (arrival : Arrival) → AreMembers ids → In server.me ids → HoldsOfMade made ids bag
      → ((frame : Queued) → In frame frames → IsOnBus made ids frame) → IsAtWork made ids frames server.me server
      → CameFrom frames arrival → IsHarmless server arrival → TakesFrom number bag server (Rx arrival)
  pub quiet : InEveryRun ContradictsNothing

module _ (laws : Laws) (choice : ℕ → Bool) (made : List SentTransfer) (w : Cluster) (world : raft.World) (members : AreMembers w.ids)
    (shows : Shows choice made w world) (quiet : ContradictsNothing world) (n k ms : ℕ) (server : AllocatorState)
    (runs : (w.member n).status ≡ Up server) (harmless : DoesNoHarm w (RxRow n k ms)) where
  abbrev arrival : Arrival
  arrival = arrival_at (frame_at w.frames k) ms

  listed : In n w.ids
  listed = (is_received w n k ms harmless).listed

  lives : ShowsUp made w.ids w.frames world n server (w.member n).disk
  lives = subst (λ (status : MemberStatus). ShowsMember choice made w.ids w.frames world n status (w.member n).disk) runs (shows.lives n listed)

  takes : TakesFrom 0 world.bag server (Rx (arrival_at (frame_at w.frames k) ms))
  takes =
      let me = lives.runs.me in
      let may = may_receive w n k ms server (is_received w n k ms harmless) runs in
      laws.takes w.ids made w.frames world.bag server 0 arrival members (subst (λ (m : ℕ). In m w.ids) (sym me) listed) shows.holds shows.bus
      (subst (λ (m : ℕ). IsAtWork made w.ids w.frames m server) (sym me) lives.works) (may.came arrival refl) (may.harmless arrival refl)

  pub in_row : caller_by server (arrival_at (frame_at w.frames k) ms) ≡ None
  in_row = no_caller world quiet n server lives.runs.raft_server 0 arrival takes

  pub called_in_row : (request : AppendRequest) → BringsCall w n k ms server request → server.raft_server.store.term ≤ request.term
      → AgreesWith server.raft_server.store request
  called_in_row request is recent = agrees_with server.raft_server.store request
      (contradicts_nothing world quiet n server lives.runs.raft_server 0 arrival takes is.delivery is.gives is.kind is.service is.listed request is.says) recent

-- a row behind others
module _ (laws : Laws) (ids : List ℕ) (rows : List Row) (members : AreMembers ids) (harmless : DoNoHarm (cluster ids) rows)
    (first rest : List Row) (n k ms : ℕ) (server : AllocatorState) (cut : rows ≡ first ++ (RxRow n k ms ∷ rest))
    (runs : ((world_of ids first).member n).status ≡ Up server) where
  abbrev all : DoNoHarm (cluster ids) (first ++ (RxRow n k ms ∷ rest))
  all = subst (λ (l : List Row). DoNoHarm (cluster ids) l) cut harmless

  abbrev early : DoNoHarm (cluster ids) first
  early = first_harmless (cluster ids) first (RxRow n k ms ∷ rest) all

  abbrev choice : (choice : ℕ → Bool) × AgreesWithDisk choice (cluster ids) first
  choice = laws.choices ids first members early

  abbrev shown : Continues choice.0 (transfers_of_rows (cluster ids) first []) (world_of ids first) (initial_world ids) (events choice.0 (cluster ids) first)
  shown = laws.shown choice.0 ids first members early choice.1

  abbrev now : raft.World
  now = run (initial_world ids) (events choice.0 (cluster ids) first)

  heard_none : caller_by server (arrival_at (frame_at (world_of ids first).frames k) ms) ≡ None
  heard_none = in_row laws choice.0 (transfers_of_rows (cluster ids) first []) (world_of ids first) now (subst AreMembers (sym (ids_stay (cluster ids) first)) members)
      shown.shows (laws.quiet ids (events choice.0 (cluster ids) first) shown.lawful) n k ms server runs (row_harmless (cluster ids) first rest (RxRow n k ms) all)

  called_so : (request : AppendRequest) → BringsCall (world_of ids first) n k ms server request → server.raft_server.store.term ≤ request.term
      → AgreesWith server.raft_server.store request
  called_so = called_in_row laws choice.0 (transfers_of_rows (cluster ids) first []) (world_of ids first) now (subst AreMembers (sym (ids_stay (cluster ids) first)) members)
      shown.shows (laws.quiet ids (events choice.0 (cluster ids) first) shown.lawful) n k ms server runs (row_harmless (cluster ids) first rest (RxRow n k ms) all)

pub none_heard : Laws → (ids : List ℕ) (rows : List Row) → AreMembers ids → DoNoHarm (cluster ids) rows → HearNoOtherLog ids rows
none_heard laws ids rows members harmless first rest n k ms server cut runs =
    heard_none laws ids rows members harmless first rest n k ms server cut runs

pub calls_agree : Laws → (ids : List ℕ) (rows : List Row) → AreMembers ids → DoNoHarm (cluster ids) rows → CallsAgree ids rows
calls_agree laws ids rows members harmless first rest n k ms server request cut is =
    called_so laws ids rows members harmless first rest n k ms server cut is.runs request is
