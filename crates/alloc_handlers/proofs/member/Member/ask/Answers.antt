use Rattle.std.proofs.Common.{◌≡◌, true, false, List, rules, ℕ, [], ◌∷◌, refl, sym, ap, subst, ◌∙◌, None}
use Rattle.alloc_handlers.proofs.Words.{Asked, InfoQ, IsInStep, StepState, Waiting, has_room, id_of, of_node, with_transfer}
use Rattle.node_discovery.specs.Stands as watch
use Rattle.alloc_handlers.proofs.Choosing.{otherwise, then_}
use Rattle.alloc_handlers.proofs.Noting.{noted_watch}
use Rattle.alloc_handlers.proofs.member.Member.ask.Goals as goal

pub returns-then-send-clause-step_state : goal.returns-then-send-clause-step_state
returns-then-send-clause-step_state g c start step_state h =
    let t = step_state.allocator in
    let s = c.args.self.now.offered.step in
    let node = c.args.node in
    let to : c.get-to.result ≡ node = c.get-to.ensures.number in
    let empty : c.new.result.items ≡ [] = search rules in
    let sent = subst (λ (n : ℕ). IsInStep start c.send.new.self (with_transfer s InfoQ n [] None step_state)) to
    (subst (λ (list : List ℕ). IsInStep start c.send.new.self (with_transfer s InfoQ c.get-to.result list None step_state)) empty (c.send.ensures.step_state refl None start step_state h)) in
    let id : c.next_id-id.result ≡ id_of t.ids InfoQ node = c.next_id-id.ensures.id ∙ ap (λ (n : ℕ). id_of c.args.self.now.outbox.ids InfoQ n) to ∙ ap (λ (w : Waiting). id_of w.ids InfoQ node) h.stands.outbox in
    let fits : has_room t.queue [] ≡ true = ap (λ (w : Waiting). has_room w.queue []) (sym h.stands.outbox) ∙ ap (λ (list : List ℕ). has_room c.args.self.now.outbox.queue list) (sym empty) ∙ sym c.send.ensures.fitted ∙ c.if-send.true in
    then_ (λ (x : StepState). IsInStep start (record c.send.new.self { watch = c.asked.new.self }) x) _ _ _ fits
    (noted_watch start c.send.new.self _ sent c.asked.new.self (of_node node (Asked (id_of t.ids InfoQ node) t.now) ∷ t.watch)
    (subst (λ (n : ℕ). watch.StandsFor c.asked.new.self (of_node node (Asked n t.now) ∷ t.watch)) id
    (subst (λ (n : ℕ). watch.StandsFor c.asked.new.self (of_node node (Asked c.next_id-id.result n) ∷ t.watch)) sent.stands.now
    (c.asked.ensures t.watch sent.stands.watch))))

pub returns-else-send-clause-step_state : goal.returns-else-send-clause-step_state
returns-else-send-clause-step_state g c start step_state h =
    let t = step_state.allocator in
    let s = c.args.self.now.offered.step in
    let to : c.get-to.result ≡ c.args.node = c.get-to.ensures.number in
    let empty : c.new.result.items ≡ [] = search rules in
    let sent = subst (λ (n : ℕ). IsInStep start c.send.new.self (with_transfer s InfoQ n [] None step_state)) to
    (subst (λ (list : List ℕ). IsInStep start c.send.new.self (with_transfer s InfoQ c.get-to.result list None step_state)) empty (c.send.ensures.step_state refl None start step_state h)) in
    let full : has_room t.queue [] ≡ false = ap (λ (w : Waiting). has_room w.queue []) (sym h.stands.outbox) ∙ ap (λ (list : List ℕ). has_room c.args.self.now.outbox.queue list) (sym empty) ∙ sym c.send.ensures.fitted ∙ c.if-send.false in
    otherwise (λ (x : StepState). IsInStep start c.send.new.self x) _ _ _ full sent
