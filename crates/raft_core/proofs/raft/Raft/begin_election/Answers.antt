use Rattle.std.proofs.Common.{rules, ◌≡◌, ◌∷◌, ℕ, List, true, false, sym, ◌∙◌}
use Rattle.raft_log.specs.declared.origin.TheConstants.{LEADER}
use Rattle.raft_log.specs.DurableViews.{durable_state}
use Rattle.raft_model.specs.Moves.Elections.{has_quorum, own_vote, stand_memory, stand_puts}
use Rattle.raft_model.specs.Server.{RaftServer, put_all}
use Rattle.raft_core.specs.Times.{given_tick, stand}
use Rattle.raft_core.proofs.Puts.{faults_at}
use Rattle.raft_core.proofs.Ticking.{counted_as, stand_failed, stood}
use Rattle.raft_core.proofs.raft.Raft.begin_election.Goals as goal

pub returns-in_err-stand-clause-moves : goal.returns-in_err-stand-clause-moves
returns-in_err-stand-clause-moves g c = λ members n p t st.
    let raft = c.args.self.now in
    stand_failed (raft.me ∷ c.args.peers.now) raft.me n (given_tick c.args.now c.args.word) p t c.args.d.now c.stand.new.d _ st.store _ c.in_err-stand.field-0.0 (search rules) (c.in_err-stand.ensures.puts LEADER)

pub returns-then-has_quorum-clause-moves : goal.returns-then-has_quorum-clause-moves
returns-then-has_quorum-clause-moves g c = λ members n p t st.
    let raft = c.args.self.now in
    let list : List ℕ = raft.me ∷ c.args.peers.now in
    let given = given_tick c.args.now c.args.word in
    let p2 : RaftServer = record { store = put_all p.store (stand_puts raft.me p.store); memory = stand_memory raft.me p.memory } in
    let st2 = c.in_ok-stand.ensures.stands members p t st in
    let quorum : has_quorum list (own_vote raft.me) ≡ true = sym (counted_as c.stand.new.self list (durable_state c.stand.new.d) p2 (stand given t) st2 c.in_ok-stand.ensures.role c.has_quorum.result c.has_quorum.ensures) ∙ c.if-has_quorum.true in
    stood list raft.me n given p t c.args.d.now c.stand.new.d _ st.store true quorum (c.in_ok-stand.ensures.puts LEADER) (c.win.ensures.stands list p2 (stand given t) st2)

pub returns-else-has_quorum-clause-moves : goal.returns-else-has_quorum-clause-moves
returns-else-has_quorum-clause-moves g c = λ members n p t st.
    let raft = c.args.self.now in
    let list : List ℕ = raft.me ∷ c.args.peers.now in
    let given = given_tick c.args.now c.args.word in
    let p2 : RaftServer = record { store = put_all p.store (stand_puts raft.me p.store); memory = stand_memory raft.me p.memory } in
    let st2 = c.in_ok-stand.ensures.stands members p t st in
    let quorum : has_quorum list (own_vote raft.me) ≡ false = sym (counted_as c.stand.new.self list (durable_state c.stand.new.d) p2 (stand given t) st2 c.in_ok-stand.ensures.role c.has_quorum.result c.has_quorum.ensures) ∙ c.if-has_quorum.false in
    stood list raft.me n given p t c.args.d.now c.stand.new.d _ st.store false quorum (c.in_ok-stand.ensures.puts LEADER) st2

pub returns-in_err-stand-clause-fault : goal.returns-in_err-stand-clause-fault
returns-in_err-stand-clause-fault g c = faults_at c.args.d.now c.stand.new.d c.in_err-stand.field-0.0 _ (search rules) (c.in_err-stand.ensures.puts LEADER).faults

pub returns-then-has_quorum-clause-fault : goal.returns-then-has_quorum-clause-fault
returns-then-has_quorum-clause-fault g c = (c.in_ok-stand.ensures.puts LEADER).faults

pub returns-else-has_quorum-clause-fault : goal.returns-else-has_quorum-clause-fault
returns-else-has_quorum-clause-fault g c = (c.in_ok-stand.ensures.puts LEADER).faults
