use Rattle.std.proofs.Common.{◌≡◌, true, false, List, ℕ, [], ◌∷◌, refl, sym, ap, subst, ◌∙◌, inl, inr, None, rules}
use Rattle.alloc_handlers.proofs.Words.{Alloc, Entry, IsInStep, Member, StepState, TellNothing, TellPair, Waiting, allocation_payload, durable_state, given_at, has_room, has_to_tell, is_zero, members_of, next_entry, raft_told, server_after_all, times_after_all, with_transfer}
use Rattle.raft_core.specs.Stands as raft
use Rattle.alloc_handlers.proofs.Choosing.{otherwise, then_}
use Rattle.alloc_handlers.proofs.Noting.{noted_moves}
use Rattle.alloc_handlers.proofs.Parts.{ready_with}
use Rattle.alloc_handlers.proofs.Telling.{lies_below, passes_over, tells_nothing, tells_pair}
use Rattle.alloc_handlers.proofs.member.Member.tell.Goals as goal

pub returns-in-Nothing-clause-step_state : goal.returns-in-Nothing-clause-step_state
returns-in-Nothing-clause-step_state g c start step_state h =
    let t = step_state.allocator in
    let says = c.in-Nothing.ensures.says (members_of t) t.raft_server t.times h.stands.raft in
    otherwise (λ (x : StepState). IsInStep start c.args.self.now x) _ _ _ (tells_nothing (has_to_tell t.raft_server) (is_zero (next_entry t.raft_server).uid) says) h

pub returns-in-Skip-clause-step_state : goal.returns-in-Skip-clause-step_state
returns-in-Skip-clause-step_state g c start step_state h =
    let t = step_state.allocator in
    let s = c.args.self.now.offered.step in
    let says = c.in-Skip.ensures.says (members_of t) t.raft_server t.times h.stands.raft in
    let has = passes_over (has_to_tell t.raft_server) (is_zero (next_entry t.raft_server).uid) says.1 in
    then_ (λ (x : StepState). IsInStep start (record c.args.self.now { raft = c.told.new.self }) x) _ _ _ has.0
    (then_ (λ (x : StepState). IsInStep start (record c.args.self.now { raft = c.told.new.self }) x) _ _ _ has.1
    (noted_moves start c.args.self.now step_state h s (given_at t.now) (TellNothing ∷ []) c.told.new.self refl
    (subst (λ (me : ℕ). raft.StandsFor c.told.new.self (members_of t) (durable_state c.args.self.now.durable) (server_after_all (members_of t) me s t.raft_server (TellNothing ∷ [])) (times_after_all (members_of t) me s (given_at t.now) t.raft_server (TellNothing ∷ []) t.times)) (c.requires.ready.ready.raft_me ∙ h.stands.me)
    (c.told.ensures.moves (members_of t) s (durable_state c.args.self.now.durable) t.raft_server t.times h.stands.raft (given_at t.now) TellNothing (inl refl)))))

pub returns-then-send_pair-clause-step_state : goal.returns-then-send_pair-clause-step_state
returns-then-send_pair-clause-step_state g c start step_state h =
    let t = step_state.allocator in
    let s = c.args.self.now.offered.step in
    let says = c.in-Pair.ensures.says (members_of t) t.raft_server t.times h.stands.raft in
    let has = tells_pair (has_to_tell t.raft_server) (is_zero (next_entry t.raft_server).uid) says.1 in
    let entry : Entry = next_entry t.raft_server in
    let pair = says.2 t.me s in
    let payload : allocation_payload c.get.result c.in-Pair.uid ≡ allocation_payload entry.node entry.uid =
    ap (λ (node : ℕ). allocation_payload node c.in-Pair.uid) (c.get.ensures.number ∙ sym pair.1) ∙ ap (λ (uid : List ℕ). allocation_payload entry.node uid) (sym pair.0) in
    let fits : has_room t.queue (allocation_payload entry.node entry.uid) ≡ true =
    ap (λ (bytes : List ℕ). has_room t.queue bytes) (sym payload) ∙ ap (λ (w : Waiting). has_room w.queue (allocation_payload c.get.result c.in-Pair.uid)) (sym h.stands.outbox) ∙ sym c.send_pair.ensures.fitted ∙ c.if-send_pair.true in
    let sent : StepState = with_transfer s Alloc 0 (allocation_payload entry.node entry.uid) None step_state in
    let is_sent = subst (λ (bytes : List ℕ). IsInStep start c.send_pair.new.self (with_transfer s Alloc 0 bytes None step_state)) payload (c.send_pair.ensures.step_state start step_state h) in
    then_ (λ (x : StepState). IsInStep start (record c.send_pair.new.self { raft = c.told-then-send_pair.new.self }) x) _ _ _ has.0
    (otherwise (λ (x : StepState). IsInStep start (record c.send_pair.new.self { raft = c.told-then-send_pair.new.self }) x) _ _ _ has.1
    (then_ (λ (x : StepState). IsInStep start (record c.send_pair.new.self { raft = c.told-then-send_pair.new.self }) x) _ _ _ fits
    (noted_moves start c.send_pair.new.self sent is_sent s (given_at t.now) (TellPair ∷ []) c.told-then-send_pair.new.self refl
    (subst (λ (me : ℕ). raft.StandsFor c.told-then-send_pair.new.self (members_of t) (durable_state c.send_pair.new.self.durable) (server_after_all (members_of t) me s t.raft_server (TellPair ∷ [])) (times_after_all (members_of t) me s (given_at t.now) t.raft_server (TellPair ∷ []) t.times)) (c.send_pair.ensures.leaves.ready.raft_me ∙ is_sent.stands.me)
    (c.told-then-send_pair.ensures.moves (members_of t) s (durable_state c.send_pair.new.self.durable) t.raft_server t.times is_sent.stands.raft (given_at t.now) TellPair (inr refl))))))

pub returns-else-send_pair-clause-step_state : goal.returns-else-send_pair-clause-step_state
returns-else-send_pair-clause-step_state g c start step_state h =
    let t = step_state.allocator in
    let s = c.args.self.now.offered.step in
    let says = c.in-Pair.ensures.says (members_of t) t.raft_server t.times h.stands.raft in
    let has = tells_pair (has_to_tell t.raft_server) (is_zero (next_entry t.raft_server).uid) says.1 in
    let entry : Entry = next_entry t.raft_server in
    let pair = says.2 t.me s in
    let payload : allocation_payload c.get.result c.in-Pair.uid ≡ allocation_payload entry.node entry.uid =
    ap (λ (node : ℕ). allocation_payload node c.in-Pair.uid) (c.get.ensures.number ∙ sym pair.1) ∙ ap (λ (uid : List ℕ). allocation_payload entry.node uid) (sym pair.0) in
    let full : has_room t.queue (allocation_payload entry.node entry.uid) ≡ false =
    ap (λ (bytes : List ℕ). has_room t.queue bytes) (sym payload) ∙ ap (λ (w : Waiting). has_room w.queue (allocation_payload c.get.result c.in-Pair.uid)) (sym h.stands.outbox) ∙ sym c.send_pair.ensures.fitted ∙ c.if-send_pair.false in
    let is_sent = subst (λ (bytes : List ℕ). IsInStep start c.send_pair.new.self (with_transfer s Alloc 0 bytes None step_state)) payload (c.send_pair.ensures.step_state start step_state h) in
    then_ (λ (x : StepState). IsInStep start c.send_pair.new.self x) _ _ _ has.0
    (otherwise (λ (x : StepState). IsInStep start c.send_pair.new.self x) _ _ _ has.1
    (otherwise (λ (x : StepState). IsInStep start c.send_pair.new.self x) _ _ _ full is_sent))

pub returns-in-Skip-clause-leaves : goal.returns-in-Skip-clause-leaves
returns-in-Skip-clause-leaves g c =
    let next = c.in-Skip.ensures.next in
    record {
      ready = ready_with c.requires.ready.ready c.told.ensures.me c.told.ensures.size (c.told.ensures.fits (durable_state c.args.self.now.durable) c.requires.ready.ready.fits (lies_below _ _ _ _ _ next.next next.committed refl refl));
      lists = search rules;
      durable = refl;
    }

pub returns-then-send_pair-clause-leaves : goal.returns-then-send_pair-clause-leaves
returns-then-send_pair-clause-leaves g c =
    let next = c.in-Pair.ensures.next.0 in
    let told = ap (λ (m : Member g.row.D.Denot g.D.Disk). raft_told m.raft) c.send_pair.ensures.rest in
    let commit = ap (λ (m : Member g.row.D.Denot g.D.Disk). (durable_state m.durable).commit) c.send_pair.ensures.rest in
    let did = c.told-then-send_pair.ensures in
    let lists = c.send_pair.ensures.leaves.lists in
    record {
      ready = ready_with c.send_pair.ensures.leaves.ready did.me did.size (did.fits (durable_state c.send_pair.new.self.durable) c.send_pair.ensures.leaves.ready.fits (lies_below _ _ _ _ _ next.next next.committed told commit));
      lists = record { step = lists.step; sent_most = lists.sent_most; given_most = lists.given_most };
      durable = c.send_pair.ensures.leaves.durable;
    }
