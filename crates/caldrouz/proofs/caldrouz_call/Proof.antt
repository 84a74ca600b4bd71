-- The node is lent for a lifetime that is made for the call, and lies there again after it.
use Rattle.caldrouz.proofs.Steps.{ℕ, ◌++◌, [], ◌∷◌, refl, w32, w64, MutBor, proved, full_share, id⊢, ftrue, flft, flent, named, vint, vptr, tables, ‵, raw, ◌⊛◌, some, later, prop, ◌$◌, ◌∵◌, !, qed, done, move, keep, drop, use1, use2, use3, split, join, fsplit, fjoin, pick, await, show, heard, says, regoal, suffices, group, enter, addr, of_opd, stop, no_more, and_then, returns, alloc_all, pass_all, free_all, look_at, get, through, sets, lands_as, lft_new, lft_end, Body, u32, u64, yes, Is, shows, lends_ref, ref_back, mem, uint_Makes, uint_Lawful, uint_vals, uint_Tells, Ptr, RawPtr, block_ptr, lies_at, in_a_block, rawptr_vals, rawptr_Tells, MutRef, plain, nothing, owned, peeks, calls_at, lasts, on_entry, triple_of, Stays, walk_of, stay_dropped, Goes-dropped, ends_at, framed}
use prog.Wp.{WpFn}
use base.Logic.{SProp, ex, sep}
use types.Logic.{sem}
use contract.Monad.{fact}
use Rattle.c_calls.specs.At.{Calls}
use Rattle.c_calls.specs.contracts.node.Node.{the_row as R}
use Rattle.caldrouz.specs.contracts.caldrouz_call as f
use Rattle.caldrouz.proofs.caldrouz_call.Statement.{statement}
use Rattle.caldrouz.proofs.caldrouz_call.Code as code
use Rattle.c_calls.specs.contracts.call as g
use Rattle.c_calls.proofs.call.Met.{met}

abbrev stayed : Stays f.ended.signature.params f.ended.kept
stayed = (stay_dropped _ yes, (stay_dropped _ yes, (stay_dropped _ yes, (stay_dropped _ yes, (stay_dropped _ yes, tt)))))

pub caldrouz_call_spec : {M : Type 1} → statement M
caldrouz_call_spec 𝓤 𝓛 𝓜 𝓡 wired =
    let c = f.clauses 𝓛 𝓜.mem 𝓡.returns in let W = walk_of 𝓛 f.ended stayed c in let 𝓣 = tables 𝓤 𝓛.H 𝓜 𝓡 𝓡.env in
    let goes32 = Goes-dropped 𝓛 0 (plain (λ _. u32)) yes (λ κs x w. refl) in let goes64 = Goes-dropped 𝓛 0 (plain (λ _. u64)) yes (λ κs x w. refl) in
    proved 𝓛 f.ended stayed c 𝓜 𝓡 (Goes-dropped 𝓛 0 (plain (λ _. RawPtr)) yes (λ κs x w. refl), (goes32, (goes64, (goes64, (goes64, tt)))))
    f.Key.name code.function (code.unfolded 𝓤 𝓛.H 𝓜 𝓡 wired)
    (λ κs. (rawptr_vals, (uint_vals w32, (uint_vals w64, (uint_vals w64, (uint_vals w64, tt))))))
    (λ κs. (rawptr_Tells, (uint_Tells w32, (uint_Tells w64, (uint_Tells w64, (uint_Tells w64, tt)))))) (λ κs qs bounds a x are.
    let op = a.1.0 in let now = a.1.1.0 in let m = a.1.1.1.0 in let n = a.1.1.1.1.0 in
    let y : Ptr → W.Ghost = λ p. ((κs, qs, bounds, (p, (op, (now, (m, (n, tt))))), (rawptr_vals p, (uint_vals w32 op, (uint_vals w64 now, (uint_vals w64 m, (uint_vals w64 n, tt)))))), x) in
    qed 𝓛 (raw (on_entry 𝓛 f.signature κs qs a (y a.0).0.4) ∷ ‵ (lies_at R full_share a.0 x) ∷ []) ∵ drop ! $
    in_a_block ! a.0 (λ p. lies_at R full_share p x) (id⊢ 𝓤 _) (λ b o e.
    regoal ! (λ p. prop (WpFn 𝓤 𝓛.H 𝓣.C 𝓣.Λ code.function (rawptr_vals p ++ (vint w32 op ∷ vint w64 now ∷ vint w64 m ∷ vint w64 n ∷ [])) (W.post (y p)))) e refl $
    enter ! _ _ _ _ _ $ alloc_all ! (λ l. pass_all ! refl ((tt, tt), ((tt, record { fits = are.1.0.1 }), ((tt, record { fits = are.1.1.0.1 }), ((tt, record { fits = are.1.1.1.0.1 }), ((tt, record { fits = are.1.1.1.1.0.1 }), tt))))) $
    -- [the node; the locals]
    sets ! (of_opd ! (get ! refl)) refl (tt, tt) $ sets ! (addr ! (through ! refl (stop !))) refl (tt, tt) $
    lft_new ! tt (λ α. let κ = α ∷ [] in move ! (1 ∷ 0 ∷ []) $
    use1 𝓛 (later (some (λ (γ : ℕ). ‵ ((MutRef (named 0) κ R).own_val (record { ref_ptr = (b, o); ghost_name = γ; now = x }) (vptr b o ∷ [])) ⊛ ‵ (flent κ (Body (mem R) b o γ)))))
    (lends_ref 𝓛 R (named 0) κ x b o) $ await ! tt $ pick ! (λ γ. split ! $
    -- [the loan; what the lender keeps; the token of α]
    let G = triple_of 𝓛 g.signature (g.spec 𝓛 𝓜.mem 𝓡.returns) in
    let r : MutBor R.Denot = record { ref_ptr = (b, o); ghost_name = γ; now = x } in
    let z : G.Ghost = (((κ, tt), (full_share, tt), tt, (r, (op, (now, (m, (n, tt))))), (vptr b o ∷ [], (vint w32 op ∷ [], (vint w64 now ∷ [], (vint w64 m ∷ [], (vint w64 n ∷ [], tt)))))), tt) in
    nothing ! $ owned ! u64 _ (uint_Makes 𝓛 w64) n _ (refl, are.1.1.1.1.0.1) $ fjoin ! $
    owned ! u64 _ (uint_Makes 𝓛 w64) m _ (refl, are.1.1.1.0.1) $ fjoin ! $
    owned ! u64 _ (uint_Makes 𝓛 w64) now _ (refl, are.1.1.0.1) $ fjoin ! $
    owned ! u32 _ (uint_Makes 𝓛 w32) op _ (refl, are.1.0.1) $ fjoin ! $ move ! (1 ∷ 0 ∷ []) $ fjoin ! $
    nothing ! $ move ! (3 ∷ 0 ∷ []) $ join ! $ join ! $
    nothing ! $ move ! (1 ∷ 0 ∷ []) $ use2 𝓛 (raw (G.pre z)) (id⊢ 𝓤 _) $
    calls_at ! (framed 𝓤 𝓛.H 𝓜 (tables 𝓤 𝓛.H 𝓜 𝓡 𝓡.env)) G (met 𝓤 𝓛 𝓜 𝓡 (code.calls-c_calls::call 𝓡.env wired)) z
    (and_then ! (get ! refl) (and_then ! (get ! refl) (and_then ! (get ! refl) (and_then ! (get ! refl) (and_then ! (get ! refl) (no_more !)))))) (λ v.
    use1 𝓛 (later (some (λ (u : ℕ). ((‵ (flft κ full_share) ⊛ ‵ ftrue) ⊛ ‵ (u64.own_val u (v ∷ []))) ⊛
    some (λ (ws : R.Denot × (Unit {0} × (Unit {0} × (Unit {0} × (Unit {0} × Unit {0}))))). ‵ (lasts g.ended z.0.0 z.0.3 ws) ⊛ raw (fact 𝓤 (Calls x ws.0 op now m n u)))))) (id⊢ 𝓤 _) $
    await ! tt $ pick ! (λ u. split ! $ split ! $ split ! $ lft_end ! tt $
    -- [α is over; nothing; the result; what the call left; what the lender keeps]
    move ! (2 ∷ []) $ peeks ! u64 (Is u64) (shows 𝓛 u64) u (v ∷ []) (λ is. lands_as ! refl refl ((uint_Lawful 𝓛 w64).typed u _ is).0 $
    move ! (3 ∷ []) $ pick ! (λ ws. split ! $ move ! (1 ∷ []) $ heard ! _ (λ calls. fsplit ! $ fsplit ! $
    -- [the loan's last value; its borrow; nothing; the result; α is over; nothing; what the lender keeps]
    move ! (4 ∷ 6 ∷ 0 ∷ []) $ use3 𝓛 (later (‵ ((mem R).own_at ws.0 b o))) (ref_back 𝓛 R κ γ ws.0 b o) $ await ! tt $
    returns ! (look_at ! 0 refl) $ free_all ! refl $ keep ! (0 ∷ 3 ∷ []) $
    let Lies : R.Denot → SProp 𝓤 = λ after. sep 𝓤 (sem 𝓛 (lies_at R full_share (block_ptr b o) after))
    (fact 𝓤 (Calls x after op now m n u)) in
    use1 𝓛 (raw (ex 𝓤 Lies)) (qed 𝓛 (‵ (lies_at R full_share (block_ptr b o) ws.0) ∷ []) ∵ show ! Lies ws.0 $ says ! calls $ done !) $ move ! (1 ∷ []) $
    suffices ! _ (ends_at 𝓛 f.ended stayed c (y (block_ptr b o)) v u (tt, (tt, (tt, (tt, (tt, tt))))) (tt, (tt, (tt, (tt, (tt, tt)))))) $
    nothing ! $ nothing ! $ join ! $ nothing ! $ join ! $ nothing ! $ join ! $ nothing ! $ join ! $ nothing ! $ join ! $ nothing ! $ group ! 3 $ done !))))))))))
