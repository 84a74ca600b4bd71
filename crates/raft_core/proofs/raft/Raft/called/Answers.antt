use Rattle.std.proofs.Common.{refl, ap, subst, ◌∙◌, slice_index_or, arith}
use Rattle.raft_log.specs.DurableViews.{durable_state}
use Rattle.raft_core.specs.declared.peer.Asked.TheVariants.{Append}
use Rattle.raft_core.specs.declared.peer.Waiting.{Waiting}
use Rattle.raft_core.specs.Calls.{Owes}
use Rattle.raft_core.specs.Peers.{fresh}
use Rattle.raft_core.proofs.Calling.{append_owed}
use Rattle.raft_core.proofs.Called.{IsMade, called_fits, called_stands}
use Rattle.raft_core.proofs.raft.Raft.called.Goals.{in-Vote, in-Append}
use Rattle.raft_core.proofs.raft.Raft.called.Goals as goal

pub last_place-requires : goal.last_place-requires
last_place-requires g c =
    let state = durable_state c.args.d.now in
    let room = (c.a_durable_state_is_kept.ensures c.args.d.now).storable.room in
    let owed = append_owed c.args.self.now state c.args.peer c.args.now (omega arith) c.in-Append.request
    (subst (Owes c.args.self.now state c.args.peer c.args.now) c.in-Append.is c.requires.owed) c.requires.fits in
    omega (arith, owed.0, room)

pub returns : goal.returns
returns g c =
    let raft = c.args.self.now in
    let call : Waiting = record { asked = c.match-what.asked; id = c.args.id; step = c.args.step; sent = c.args.now } in
    let made : IsMade c.args.what.now (slice_index_or raft.peers c.args.peer (fresh 0)) c.match-what.kept c.match-what.asked c.args.now = elim c.match-what.branch [
      | in-Vote w ↦ rw w.in-Vote.is (w.kept-is, w.asked-is)
      | in-Append w ↦ rw w.in-Append.is (w.kept-is, w.asked-is ∙ ap Append w.last_place.ensures)
    ] in
    record {
      moves = λ members p t st move due.
          called_stands raft _ (durable_state c.args.d.now) c.args.peer (omega arith) c.match-what.kept call
          (record { role = refl; told = refl; me = refl; known = refl; since = refl; word = refl; waits = refl; peers = refl }) members p t st raft.me c.args.what.now made (c.requires.owed members c.args.step p t st) move due;
      fits = called_fits raft _ (durable_state c.args.d.now) c.args.peer (omega arith) c.match-what.kept call
          (record { role = refl; told = refl; me = refl; known = refl; since = refl; word = refl; waits = refl; peers = refl }) c.args.what.now made c.requires.owed c.requires.fits;
      me = refl;
      size = refl;
    }
