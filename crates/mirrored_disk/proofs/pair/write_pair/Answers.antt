use Rattle.std.proofs.Common.{rules, inl, inr, refl}
use Rattle.mirrored_disk.proofs.pair.write_pair.Goals as goal

pub returns-in_err-write-clause-made : goal.returns-in_err-write-clause-made
returns-in_err-write-clause-made g c = inl (search rules, c.in_err-write.ensures.made)

pub returns-in_err-write-2-clause-made : goal.returns-in_err-write-2-clause-made
returns-in_err-write-2-clause-made g c = inr (c.write.new.self, c.in_ok-write.ensures.made, inl (search rules, c.in_err-write-2.ensures.made))

pub returns-in_err-sync-clause-made : goal.returns-in_err-sync-clause-made
returns-in_err-sync-clause-made g c = inr (c.write.new.self, c.in_ok-write.ensures.made, inr (c.write-2.new.self, c.in_ok-write-2.ensures.made, inl (search rules, c.in_err-sync.ensures.made)))

pub returns-clause-made : goal.returns-clause-made
returns-clause-made g c = inr (c.write.new.self, c.in_ok-write.ensures.made, inr (c.write-2.new.self, c.in_ok-write-2.ensures.made, inr (c.sync.new.self, c.in_ok-sync.ensures.made, (refl, refl))))
