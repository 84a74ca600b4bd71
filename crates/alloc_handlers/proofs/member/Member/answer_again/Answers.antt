use Rattle.std.proofs.Common.{◌≡◌, ◌<◌, ◌≤◌, List, [], ap, sym, subst, ◌∙◌, arith, slice_index_or}
use Rattle.alloc_handlers.proofs.Words.{AnswerAgain, Entry, IsInStep, StepState, Store, blank, durable_state, gives_entry}
use Rattle.alloc_handlers.proofs.Again.{again, node_low, not_under, same_at, under}
use Rattle.alloc_handlers.proofs.Choosing.{otherwise, then_}
use Rattle.alloc_handlers.proofs.member.Member.answer_again.Goals as goal

-- what an index past the end of a list of entries would read
abbrev past : Entry
past = record { term = 0; uid = []; node = 0 }

pub returns-then-place-from-clause-step_state : goal.returns-then-place-from-clause-step_state
returns-then-place-from-clause-step_state g c start step_state h =
    let commit : step_state.allocator.raft_server.store.commit ≡ (durable_state c.args.self.now.durable).commit = ap (λ (store : Store). store.commit) h.stands.raft.store in
    let over : step_state.allocator.raft_server.store.commit ≤ c.args.place = omega (arith, commit, c.if-place-from.true, c.from.ensures, c.commit.ensures.commit) in
    otherwise (λ (x : StepState). IsInStep start c.args.self.now x) _ _ _ (not_under c.args.place step_state.allocator.raft_server.store.commit over) h

pub send_pair-requires-clause-node : goal.send_pair-requires-clause-node
send_pair-requires-clause-node g c =
    let state = durable_state c.args.self.now.durable in
    let log : c.log.result.now ≡ state.log = c.log.ensures in
    let entry = ap (λ (list : List Entry). slice_index_or list c.args.place past) log ∙ same_at state.log c.args.place past (blank 0) c.requires.within in
    let low = node_low (slice_index_or state.log c.args.place (blank 0)) ((c.a_durable_state_is_kept.ensures c.args.self.now.durable).storable.follows c.args.place c.requires.within).formed in
    subst (λ (e : Entry). e.node < 128) (sym entry) low

pub returns-clause-step_state : goal.returns-clause-step_state
returns-clause-step_state g c start step_state h =
    let s = c.args.self.now.offered.step in
    let state = durable_state c.args.self.now.durable in
    let log : c.log.result.now ≡ state.log = c.log.ensures in
    let stored : step_state.allocator.raft_server.store.log ≡ state.log = ap (λ (store : Store). store.log) h.stands.raft.store in
    let commit : step_state.allocator.raft_server.store.commit ≡ state.commit = ap (λ (store : Store). store.commit) h.stands.raft.store in
    let below : c.args.place < step_state.allocator.raft_server.store.commit = omega (arith, commit, c.if-place-from.false, c.from.ensures, c.commit.ensures.commit) in
    let entry : slice_index_or c.log.result.now c.args.place past ≡ slice_index_or step_state.allocator.raft_server.store.log c.args.place (blank 0) =
    ap (λ (list : List Entry). slice_index_or list c.args.place past) log ∙ same_at state.log c.args.place past (blank 0) c.requires.within
    ∙ ap (λ (list : List Entry). slice_index_or list c.args.place (blank 0)) (sym stored) in
    then_ (λ (x : StepState). IsInStep start c.send_pair.new.self x) _ _ _ (under c.args.place step_state.allocator.raft_server.store.commit below)
    (subst (λ (e : Entry). IsInStep start c.send_pair.new.self (gives_entry s (AnswerAgain c.args.place) e step_state)) entry
    (again start c.send_pair.new.self step_state s c.args.place (slice_index_or c.log.result.now c.args.place past) (c.send_pair.ensures.step_state start step_state h)))
