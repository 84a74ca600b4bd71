-- The names that the walks cite.
pub use Rattle.std.proofs.Common.{◌≡◌, ℕ, ◌≤◌, ◌++◌, List, [], ◌∷◌, refl, sym, ap, ◌∙◌, w32, w64, MutBor}
pub use Rattle.std.proofs.raw_atomic.Walks.{proved}
pub use base.Fraction.{full_share}
pub use base.Logic.{id⊢}
pub use base.Fml.{Fml, ftrue, flft, flent, fres, fsep}
pub use mir.Syntax.{named}
pub use mir.Val.{Val, vunit, vint, vptr}
pub use contract.Running.{tables}
pub use types.Kit.{‵, raw, ◌⊛◌, some, later, prop, ◌$◌, ◌∵◌, !, qed, done, move, keep, drop, use1, use2, use3, split, join, fsplit, fjoin, feq_i, feq_l, pick, await, rewrite, regoal, show, suffices, group}
pub use types.Run.{enter, addr, stop, init, of_opd, unit_lit, no_more, and_then, assigns, returns}
pub use types.ByLocal.{alloc_all, pass_all, free_all, look_at, get, through, sets, lands_as}
pub use types.Tokens.{lft_new, lft_end}
pub use types.SemTy.{Body}
pub use denote.Builtin.{u32, u64, unit}
pub use denote.Exit.{yes}
pub use denote.Laws.{Is, shows}
pub use denote.Lend.{lends_ref, ref_back}
pub use denote.Memory.{mem}
pub use denote.Plain.{uint_Makes, uint_Lawful, uint_vals, uint_Tells}
pub use denote.RawPtr.{Ptr, RawPtr, block_ptr, lies_at, room_at, in_a_block, rawptr_vals, rawptr_Tells, rawptr_Lawful}
pub use denote.Ref.{MutRef}
pub use denote.Signature.{plain}
pub use denote.Steps.{heard, nothing, owned, peeks, only}
pub use denote.Triple.Call.{calls_at}
pub use denote.Triple.Clauses.{lasts}
pub use denote.Triple.Entry.{on_entry}
pub use denote.Triple.Spec.{triple_of}
pub use denote.Triple.Walked.{Stays, says, walk_of, stay_dropped, Goes-dropped, ends_at}
pub use denote.Triple.Table.{framed}
