use Rattle.std.proofs.Common.{◌≡◌, List, ℕ, ◌∷◌, [], refl, sym, ap, subst, ◌∙◌, Option, Some, None}
use Rattle.alloc_handlers.proofs.Words.{IsInStep, Member, Move, Requests, StepState, Waiting, calls_owed, durable_state, given_call, has_room, id_of, members_of, pair_in, raft_me, server_after_all, times_after_all, with_transfer}
use Rattle.raft_core.specs.Calls.{Owes, Says, owed}
use Rattle.raft_core.specs.Stands as raft
use Rattle.can_frame.specs.declared.step.What.{What}
use Rattle.alloc_handlers.specs.Calling.{bytes_of, what_of}
use Rattle.alloc_handlers.proofs.Calling.{call_is_quiet, calls_as, no_pair}
use Rattle.alloc_handlers.proofs.Choosing.{otherwise, then_}
use Rattle.alloc_handlers.proofs.Noting.{noted_moves}
use Rattle.alloc_handlers.proofs.member.Member.call.Goals as goal

pub returns-in_default-clause-step_state : goal.returns-in_default-clause-step_state
returns-in_default-clause-step_state g c start step_state h =
    let t = step_state.allocator in
    let none = c.in_default.ensures.none refl (members_of t) t.raft_server t.times h.stands.raft in
    subst (λ (move : Option Move). IsInStep start c.args.self.now (calls_owed c.args.self.now.offered.step move step_state)) (sym none ∙ ap (λ (now : ℕ). owed t.raft_server t.times c.args.peer now) h.stands.now) h

pub called-requires-clause-owed : goal.called-requires-clause-owed
called-requires-clause-owed g c =
    subst (λ (m : Member g.row.D.Denot g.D.Disk). Owes m.raft (durable_state m.durable) c.args.peer m.latest c.in-Some.call) (sym c.send.ensures.rest) c.in-Some.ensures.some

pub returns-then-send-clause-step_state : goal.returns-then-send-clause-step_state
returns-then-send-clause-step_state g c start step_state h =
    let t = step_state.allocator in
    let s = c.args.self.now.offered.step in
    let owes = c.in-Some.ensures.some (members_of t) s t.raft_server t.times h.stands.raft in
    let says = subst (λ (me : ℕ). Says me s t.raft_server c.args.peer c.in-Some.call owes.0) (c.requires.ready.ready.raft_me ∙ h.stands.me) owes.2 in
    let by = calls_as s c.args.peer step_state c.in-Some.call owes.0 says in
    let due : owed t.raft_server t.times c.args.peer t.now ≡ Some owes.0 = ap (λ (now : ℕ). owed t.raft_server t.times c.args.peer now) (sym h.stands.now) ∙ owes.1 in
    let what : c.what_of-what.result ≡ what_of c.in-Some.call = c.what_of-what.ensures in
    let bytes : c.payload_of.result.items ≡ bytes_of c.in-Some.call = c.payload_of.ensures in
    let none = subst (λ (w : What). pair_in w c.payload_of.result.items ≡ None) (sym what) (no_pair c.in-Some.call c.payload_of.result.items) in
    let sent : StepState = with_transfer s (what_of c.in-Some.call) c.args.peer (bytes_of c.in-Some.call) (Some (Requests by.0)) step_state in
    let is_sent = subst (λ (list : List ℕ). IsInStep start c.send.new.self (with_transfer s (what_of c.in-Some.call) c.args.peer list (Some (Requests by.0)) step_state)) bytes
    (subst (λ (w : What). IsInStep start c.send.new.self (with_transfer s w c.args.peer c.payload_of.result.items (Some (Requests by.0)) step_state)) what
    (c.send.ensures.step_state none (Some (Requests by.0)) start step_state h)) in
    let room : has_room t.queue (bytes_of c.in-Some.call) ≡ c.send.result =
    ap (λ (list : List ℕ). has_room t.queue list) (sym bytes) ∙ ap (λ (w : Waiting). has_room w.queue c.payload_of.result.items) (sym h.stands.outbox) ∙ sym c.send.ensures.fitted in
    let id : c.next_id-id.result ≡ id_of t.ids (what_of c.in-Some.call) c.args.peer =
    c.next_id-id.ensures.id ∙ ap (λ (w : What). id_of c.args.self.now.outbox.ids w c.args.peer) what ∙ ap (λ (w : Waiting). id_of w.ids (what_of c.in-Some.call) c.args.peer) h.stands.outbox in
    let moved = subst (λ (n : ℕ). raft.StandsFor c.called.new.self (members_of t) (durable_state c.send.new.self.durable) (server_after_all (members_of t) (raft_me c.send.new.self.raft) n t.raft_server (owes.0 ∷ [])) (times_after_all (members_of t) (raft_me c.send.new.self.raft) n (given_call c.send.new.self.latest c.next_id-id.result) t.raft_server (owes.0 ∷ []) t.times)) c.send.ensures.leaves.lists.step
    (c.called.ensures.moves (members_of t) t.raft_server t.times is_sent.stands.raft owes.0 (ap (λ (now : ℕ). owed t.raft_server t.times c.args.peer now) is_sent.stands.now ∙ due)) in
    subst (λ (m : Option Move). IsInStep start (record c.send.new.self { raft = c.called.new.self }) (calls_owed s m step_state)) (sym due)
    (subst (λ (x : StepState). IsInStep start (record c.send.new.self { raft = c.called.new.self }) x) (sym by.1)
    (then_ (λ (x : StepState). IsInStep start (record c.send.new.self { raft = c.called.new.self }) x) _ _ _ (room ∙ c.if-send.true)
    (noted_moves start c.send.new.self sent is_sent s (given_call t.now (id_of t.ids (what_of c.in-Some.call) c.args.peer)) (owes.0 ∷ []) c.called.new.self
    (call_is_quiet (members_of t) t.me s (given_call t.now (id_of t.ids (what_of c.in-Some.call) c.args.peer)) t.raft_server c.args.peer c.in-Some.call owes.0 says)
    (subst (λ (n : ℕ). raft.StandsFor c.called.new.self (members_of t) (durable_state c.send.new.self.durable) (server_after_all (members_of t) t.me s t.raft_server (owes.0 ∷ [])) (times_after_all (members_of t) t.me s (given_call t.now n) t.raft_server (owes.0 ∷ []) t.times)) id
    (subst (λ (now : ℕ). raft.StandsFor c.called.new.self (members_of t) (durable_state c.send.new.self.durable) (server_after_all (members_of t) t.me s t.raft_server (owes.0 ∷ [])) (times_after_all (members_of t) t.me s (given_call now c.next_id-id.result) t.raft_server (owes.0 ∷ []) t.times)) is_sent.stands.now
    (subst (λ (me : ℕ). raft.StandsFor c.called.new.self (members_of t) (durable_state c.send.new.self.durable) (server_after_all (members_of t) me s t.raft_server (owes.0 ∷ [])) (times_after_all (members_of t) me s (given_call c.send.new.self.latest c.next_id-id.result) t.raft_server (owes.0 ∷ []) t.times)) (c.send.ensures.leaves.ready.raft_me ∙ is_sent.stands.me)
    moved))))))

pub returns-else-send-clause-step_state : goal.returns-else-send-clause-step_state
returns-else-send-clause-step_state g c start step_state h =
    let t = step_state.allocator in
    let s = c.args.self.now.offered.step in
    let owes = c.in-Some.ensures.some (members_of t) s t.raft_server t.times h.stands.raft in
    let says = subst (λ (me : ℕ). Says me s t.raft_server c.args.peer c.in-Some.call owes.0) (c.requires.ready.ready.raft_me ∙ h.stands.me) owes.2 in
    let by = calls_as s c.args.peer step_state c.in-Some.call owes.0 says in
    let due : owed t.raft_server t.times c.args.peer t.now ≡ Some owes.0 = ap (λ (now : ℕ). owed t.raft_server t.times c.args.peer now) (sym h.stands.now) ∙ owes.1 in
    let what : c.what_of-what.result ≡ what_of c.in-Some.call = c.what_of-what.ensures in
    let bytes : c.payload_of.result.items ≡ bytes_of c.in-Some.call = c.payload_of.ensures in
    let none = subst (λ (w : What). pair_in w c.payload_of.result.items ≡ None) (sym what) (no_pair c.in-Some.call c.payload_of.result.items) in
    let sent : StepState = with_transfer s (what_of c.in-Some.call) c.args.peer (bytes_of c.in-Some.call) (Some (Requests by.0)) step_state in
    let is_sent = subst (λ (list : List ℕ). IsInStep start c.send.new.self (with_transfer s (what_of c.in-Some.call) c.args.peer list (Some (Requests by.0)) step_state)) bytes
    (subst (λ (w : What). IsInStep start c.send.new.self (with_transfer s w c.args.peer c.payload_of.result.items (Some (Requests by.0)) step_state)) what
    (c.send.ensures.step_state none (Some (Requests by.0)) start step_state h)) in
    let room : has_room t.queue (bytes_of c.in-Some.call) ≡ c.send.result =
    ap (λ (list : List ℕ). has_room t.queue list) (sym bytes) ∙ ap (λ (w : Waiting). has_room w.queue c.payload_of.result.items) (sym h.stands.outbox) ∙ sym c.send.ensures.fitted in
    subst (λ (m : Option Move). IsInStep start c.send.new.self (calls_owed s m step_state)) (sym due)
    (subst (λ (x : StepState). IsInStep start c.send.new.self x) (sym by.1)
    (otherwise (λ (x : StepState). IsInStep start c.send.new.self x) _ _ _ (room ∙ c.if-send.false) is_sent))
