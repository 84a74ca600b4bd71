use Rattle.std.proofs.Common.{refl, ap, subst, sym, ◌∙◌, ◌≡◌, List, ℕ, ◌∷◌, None}
use Rattle.alloc_handlers.proofs.Words.{Disc, IsInStep, StepState, start_of, with_discovery, with_transfer}
use Rattle.cluster_discovery.specs.Members.{Sent as SentAt, is_due}
use Rattle.cluster_discovery.specs.Stands as cluster
use Rattle.alloc_handlers.proofs.Choosing.{otherwise, then_}
use Rattle.alloc_handlers.proofs.Noting.{noted_cluster}
use Rattle.alloc_handlers.proofs.member.Member.tell_members.Goals as goal

pub returns-then-not-due-clause-step_state : goal.returns-then-not-due-clause-step_state
returns-then-not-due-clause-step_state g c start step_state h =
    let t = step_state.allocator in
    let due = c.due.ensures (start_of t) t.heard h.stands.cluster ∙ ap (λ (n : ℕ). is_due (start_of t) t.heard n) h.stands.now in
    otherwise (λ (x : StepState). IsInStep start c.args.self.now x) _ _ _ (sym due ∙ c.if-not-due.true) h

same_bytes : (a b : ℕ) (xs ys : List ℕ) → a ≡ b → xs ≡ ys → a ∷ xs ≡ b ∷ ys
same_bytes a b xs ys e f = cc

pub returns-clause-step_state : goal.returns-clause-step_state
returns-clause-step_state g c start step_state h =
    let t = step_state.allocator in
    let due = c.due.ensures (start_of t) t.heard h.stands.cluster ∙ ap (λ (n : ℕ). is_due (start_of t) t.heard n) h.stands.now in
    let sent = c.send.ensures.step_state refl None start step_state h in
    let payload = c.write-payload.ensures.bytes ∙ same_bytes _ _ _ _ (c.message.ensures.size (start_of t) t.heard h.stands.cluster) (c.message.ensures.known (start_of t) t.heard h.stands.cluster) in
    then_ (λ (x : StepState). IsInStep start (record c.send.new.self { cluster = c.sent.new.self }) x) _ _ _ (sym due ∙ c.if-not-due.false)
    (subst (λ (bytes : List ℕ). IsInStep start (record c.send.new.self { cluster = c.sent.new.self }) (with_discovery (with_transfer c.args.self.now.offered.step Disc 0 bytes None step_state))) payload
    (noted_cluster start c.send.new.self _ sent c.sent.new.self _
    (subst (λ (n : ℕ). cluster.StandsFor c.sent.new.self (start_of t) (SentAt n ∷ t.heard)) sent.stands.now (c.sent.ensures.follows (start_of t) t.heard sent.stands.cluster)) sent.stands.raft))
