use Rattle.std.proofs.Common.{◌≡◌, List, ℕ, refl, sym, ap, subst, ◌∙◌, ◌==◌, true, arith, None}
use Rattle.alloc_handlers.proofs.Words.{Info, IsInStep, Took, asks_info, delivery_of, nat_tests, nil_from_length, with_response_to}
use Rattle.dsdl_codec.specs.declared.node_info.NodeInfo.{NodeInfo}
use Rattle.dsdl_codec.specs.NodeInfo.{node_info_bytes}
use Rattle.alloc_handlers.proofs.member.Member.tell_info.Goals as goal

none_left : (n : ℕ) → (n == 0) ≡ true → n ≡ 0
none_left n is = grind (arith, nat_tests)

pub returns-clause-sees : goal.returns-clause-sees
returns-clause-sees g c start step_state h =
    let s = c.args.self.now.offered.step in
    let d = delivery_of c.args.request.now in
    let empty = nil_from_length c.args.request.now.payload.items (none_left _ (sym c.is_empty.ensures ∙ c.if-not-is_empty.false)) in
    let bytes = c.write-payload.ensures.bytes ∙ ap (λ (info : NodeInfo). node_info_bytes info) (c.info.ensures.stands step_state.allocator h.stands) in
    subst (λ (list : List ℕ). IsInStep start c.answer.new.self (asks_info s d list step_state).step_state × (Took ≡ (asks_info s d list step_state).seen)) (sym empty)
    (subst (λ (list : List ℕ). IsInStep start c.answer.new.self (with_response_to s Info d list None step_state)) bytes (c.answer.ensures.step_state refl None start step_state h), refl)
