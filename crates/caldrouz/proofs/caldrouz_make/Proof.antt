-- A node that is not open is written into the room.
use Rattle.caldrouz.proofs.Steps.{◌++◌, [], ◌∷◌, refl, w32, proved, full_share, id⊢, ftrue, vunit, vint, tables, ‵, raw, ◌⊛◌, some, later, prop, ◌$◌, ◌∵◌, !, qed, done, move, keep, drop, use1, use2, split, join, fjoin, feq_i, pick, await, show, heard, says, regoal, suffices, group, enter, stop, init, of_opd, unit_lit, no_more, and_then, assigns, returns, alloc_all, pass_all, free_all, look_at, get, through, sets, lands_as, u32, yes, Is, shows, uint_Makes, uint_vals, uint_Tells, Ptr, RawPtr, block_ptr, lies_at, room_at, in_a_block, rawptr_vals, rawptr_Tells, plain, nothing, owned, peeks, calls_at, lasts, on_entry, triple_of, Stays, walk_of, stay_dropped, Goes-dropped, ends_at, framed}
use prog.Wp.{WpFn}
use borrow.Table.OneValue.{part_in}
use base.Logic.{SProp, ex, sep}
use types.Logic.{sem}
use contract.Monad.{fact}
use Rattle.c_calls.specs.At.{IsNew}
use Rattle.c_calls.specs.contracts.node.Node.{the_row as R}
use Rattle.c_calls.proofs.node.Node.TheLaws.{the_row_laws}
use Rattle.caldrouz.specs.contracts.caldrouz_make as f
use Rattle.caldrouz.proofs.caldrouz_make.Statement.{statement}
use Rattle.caldrouz.proofs.caldrouz_make.Code as code
use Rattle.c_calls.specs.contracts.node.Node.closed as g
use Rattle.c_calls.proofs.node.Node.closed.Met.{met}

abbrev stayed : Stays f.ended.signature.params f.ended.kept
stayed = (stay_dropped _ yes, (stay_dropped _ yes, (stay_dropped _ yes, (stay_dropped _ yes, tt))))

pub caldrouz_make_spec : {M : Type 1} → statement M
caldrouz_make_spec 𝓤 𝓛 𝓜 𝓡 wired =
    let c = f.clauses 𝓛 𝓜.mem 𝓡.returns in let W = walk_of 𝓛 f.ended stayed c in let 𝓣 = tables 𝓤 𝓛.H 𝓜 𝓡 𝓡.env in
    let goes = Goes-dropped 𝓛 0 (plain (λ _. u32)) yes (λ κs x w. refl) in
    proved 𝓛 f.ended stayed c 𝓜 𝓡 (Goes-dropped 𝓛 0 (plain (λ _. RawPtr)) yes (λ κs x w. refl), (goes, (goes, (goes, tt))))
    f.Key.name code.function (code.unfolded 𝓤 𝓛.H 𝓜 𝓡 wired)
    (λ κs. (rawptr_vals, (uint_vals w32, (uint_vals w32, (uint_vals w32, tt))))) (λ κs. (rawptr_Tells, (uint_Tells w32, (uint_Tells w32, (uint_Tells w32, tt))))) (λ κs qs bounds a x are.
    let id = a.1.0 in let size = a.1.1.0 in let fd = a.1.1.1.0 in
    let y : Ptr → W.Ghost = λ p. ((κs, qs, bounds, (p, (id, (size, (fd, tt)))), (rawptr_vals p, (uint_vals w32 id, (uint_vals w32 size, (uint_vals w32 fd, tt))))), x) in
    qed 𝓛 (raw (on_entry 𝓛 f.signature κs qs a (y a.0).0.4) ∷ ‵ (room_at R a.0) ∷ []) ∵ drop ! $
    in_a_block ! a.0 (λ p. room_at R p) (id⊢ 𝓤 _) (λ b o e.
    regoal ! (λ p. prop (WpFn 𝓤 𝓛.H 𝓣.C 𝓣.Λ code.function (rawptr_vals p ++ (vint w32 id ∷ vint w32 size ∷ vint w32 fd ∷ [])) (W.post (y p)))) e refl $
    enter ! _ _ _ _ _ $ alloc_all ! (λ l. pass_all ! refl ((tt, tt), ((tt, record { fits = are.1.0.1 }), ((tt, record { fits = are.1.1.0.1 }), ((tt, record { fits = are.1.1.1.0.1 }), tt)))) $
    -- [the room; the locals]
    sets ! (of_opd ! (get ! refl)) refl (tt, tt) $
    let G = triple_of 𝓛 g.signature (g.spec 𝓛 𝓜.mem 𝓡.returns) in
    let z : G.Ghost = ((tt, tt, tt, (id, (size, (fd, tt))), (vint w32 id ∷ [], (vint w32 size ∷ [], (vint w32 fd ∷ [], tt)))), tt) in
    nothing ! $ owned ! u32 _ (uint_Makes 𝓛 w32) fd _ (refl, are.1.1.1.0.1) $ fjoin ! $
    owned ! u32 _ (uint_Makes 𝓛 w32) size _ (refl, are.1.1.0.1) $ fjoin ! $
    owned ! u32 _ (uint_Makes 𝓛 w32) id _ (refl, are.1.0.1) $ fjoin ! $
    nothing ! $ join ! $ nothing ! $ move ! (1 ∷ 0 ∷ []) $ use2 𝓛 (raw (G.pre z)) (id⊢ 𝓤 _) $
    calls_at ! (framed 𝓤 𝓛.H 𝓜 (tables 𝓤 𝓛.H 𝓜 𝓡 𝓡.env)) G (met 𝓤 𝓛 𝓜 𝓡 (code.calls-c_calls::Node::closed 𝓡.env wired)) z
    (and_then ! (get ! refl) (and_then ! (get ! refl) (and_then ! (get ! refl) (no_more !)))) (λ v.
    use1 𝓛 (later (some (λ (u : R.Denot). (‵ ftrue ⊛ ‵ (R.own_val u (v ∷ []))) ⊛ some (λ (ws : Unit {0} × (Unit {0} × (Unit {0} × Unit {0}))). ‵ (lasts g.ended z.0.0 z.0.3 ws) ⊛ raw (fact 𝓤 (IsNew u id size)))))) (id⊢ 𝓤 _) $
    await ! tt $ pick ! (λ u. split ! $ split ! $
    -- [nothing; what the node owns; what the call left; the room]
    move ! (2 ∷ []) $ pick ! (λ ws. split ! $ move ! (1 ∷ []) $ heard ! _ (λ new.
    -- [what lasts; nothing; what the node owns; the room]
    move ! (2 ∷ 1 ∷ []) $ peeks ! R (Is R) (shows 𝓛 R) u (v ∷ []) (λ is.
    let good = ((the_row_laws.lawful 𝓛).typed u _ is).0 in
    lands_as ! refl refl good $
    assigns ! (of_opd ! (get ! refl)) (through ! refl (stop !)) (init ! 3 refl good) $
    sets ! (of_opd ! (unit_lit !)) refl (tt, tt) $
    returns ! (look_at ! 0 refl) $ free_all ! refl $ keep ! (3 ∷ 0 ∷ []) $
    use2 𝓛 (‵ (lies_at R full_share (block_ptr b o) u)) (part_in 𝓛 R refl full_share u b o v) $
    let Lies : R.Denot → SProp 𝓤 = λ node. sep 𝓤 (sem 𝓛 (lies_at R full_share (block_ptr b o) node)) (fact 𝓤 (IsNew node id size)) in
    use1 𝓛 (raw (ex 𝓤 Lies)) (qed 𝓛 (‵ (lies_at R full_share (block_ptr b o) u) ∷ []) ∵ show ! Lies u $ says ! new $ done !) $
    suffices ! _ (ends_at 𝓛 f.ended stayed c (y (block_ptr b o)) vunit tt (tt, (tt, (tt, (tt, tt)))) (tt, (tt, (tt, (tt, tt))))) $
    feq_i ! _ (vunit ∷ []) _ refl $ nothing ! $ nothing ! $ join ! $ nothing ! $ join ! $ nothing ! $ join ! $ nothing ! $ join ! $ nothing ! $ group ! 3 $ done !))))))))
