-- A log entry and its bytes, alone and at the end of an append request.
use Rattle.std.proofs.Common.{◌≡◌, ℕ, List, Option, Some, None, IfSome, arith, refl}
use Rattle.std.proofs.lemmas.Grind.{common_steps}
use Rattle.can_frame.specs.declared.entry.Entry.{Entry}
use Rattle.dsdl_codec.specs.Entry.{IsEntry, SpellsEntry, SpellsOptionalEntry, entry_bytes, entry_of, optional_entry_bytes, optional_entry_of}

pub entry_of-spelled : (entry : Entry) (bytes : List ℕ) → SpellsEntry entry bytes → entry_of bytes ≡ Some entry
entry_of-spelled entry bytes s = grind (arith, common_steps)

pub spelled-entry : (entry : Entry) → IsEntry entry → SpellsEntry entry (entry_bytes entry 0)
spelled-entry entry fits = grind (arith, common_steps)

pub optional_entry_of-spelled : (entry : Option Entry) (bytes : List ℕ) → SpellsOptionalEntry entry bytes → optional_entry_of bytes ≡ Some entry
optional_entry_of-spelled None bytes s = grind (arith, common_steps)
optional_entry_of-spelled (Some entry) bytes s = grind (arith, common_steps, entry_of-spelled)

pub spelled-optional_entry : (entry : Option Entry) → IfSome entry IsEntry → SpellsOptionalEntry entry (optional_entry_bytes entry 0)
spelled-optional_entry None fits = record { fits = fits; written = refl }
spelled-optional_entry (Some entry) fits = record { fits = fits; written = (spelled-entry entry fits).written }
