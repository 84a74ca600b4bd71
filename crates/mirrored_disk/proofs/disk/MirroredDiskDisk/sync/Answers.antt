use Rattle.std.proofs.Common.{rules, ◌∙◌, ◌<◌, ◌+◌, ◌^◌, inl, true, false, refl, subst, sym, arith}
use Rattle.disk_model.specs.Device.{Makes}
use Rattle.mirrored_disk.specs.Calls.{other_pair, sync_calls}
use Rattle.mirrored_disk.specs.Record.{record_of}
use Rattle.mirrored_disk.proofs.Synced.{is_twice, keeps_next}
use Rattle.mirrored_disk.proofs.disk.MirroredDiskDisk.sync.Goals as goal

pub invariant_of-self-in-Ok : goal.invariant_of-self-in-Ok
invariant_of-self-in-Ok g c =
    let self = c.args.self.now in
    let small : self.newest.number + 1 < 2 ^ 64 = search rules in
    record {
      head_size = self.head_size;
      stable_size = self.seen_size ∙ self.stable_size;
      seen_size = refl;
      agrees = λ i h. refl;
      keeps = λ told. let before = sym c.write_pair.ensures.tells ∙ told in
          keeps_next (g.V.BlockDevice.blocks self.device) (g.V.BlockDevice.blocks c.write_pair.new.device) self.head self.stable self.newest (self.keeps before) self.seen self.head_size (self.seen_size ∙ self.stable_size) small (c.in-Ok.ensures.settled before) (c.in-Ok.ensures.first before ∙ c.record_with-record.ensures) (c.in-Ok.ensures.second before ∙ c.record_with-record.ensures) (c.in-Ok.ensures.others before);
      settled = λ works told. c.in-Ok.ensures.settled (sym c.write_pair.ensures.tells ∙ told);
      exists = omega (arith, self.exists);
    }

pub returns-in-Ok-clause-made : goal.returns-in-Ok-clause-made
returns-in-Ok-clause-made g c =
    let self = c.args.self.now in
    let small : self.newest.number + 1 < 2 ^ 64 = search rules in
    record {
      faults = refl;
      works = λ works. (c.if-self.false, inl (omega (arith, small), subst (λ bytes. Makes g.V.BlockDevice.does (sync_calls (other_pair self.newest.block) bytes) true self.device c.write_pair.new.device) c.record_with-record.ensures c.in-Ok.ensures.made, λ ok told. is_twice (g.V.BlockDevice.blocks self.device) (g.V.BlockDevice.blocks c.write_pair.new.device) self.head self.stable self.newest (self.keeps told) self.seen self.head_size (self.seen_size ∙ self.stable_size) small (c.in-Ok.ensures.settled told) (c.in-Ok.ensures.first told ∙ c.record_with-record.ensures) (c.in-Ok.ensures.second told ∙ c.record_with-record.ensures) (c.in-Ok.ensures.others told)));
      lost = λ lost. absurd (cc (lost, c.if-self.false));
    }

pub returns-in-Err-clause-made : goal.returns-in-Err-clause-made
returns-in-Err-clause-made g c =
    let self = c.args.self.now in
    let small : self.newest.number + 1 < 2 ^ 64 = search rules in
    record {
      faults = c.fault-in-Err.ensures.faults;
      works = λ works. (c.fault-in-Err.ensures.lost, inl (omega (arith, small), subst (λ device. Makes g.V.BlockDevice.does (sync_calls (other_pair self.newest.block) (record_of self.head (self.newest.number + 1) self.seen)) false self.device device) (sym c.fault-in-Err.ensures.device) (subst (λ bytes. Makes g.V.BlockDevice.does (sync_calls (other_pair self.newest.block) bytes) false self.device c.write_pair.new.device) c.record_with-record.ensures c.in-Err.ensures.made), λ ok. absurd (cc ok)));
      lost = λ lost. absurd (cc (lost, c.if-self.false));
    }

pub returns-then-self-clause-kept : goal.returns-then-self-clause-kept
returns-then-self-clause-kept g c = λ told. rw (c.fault.ensures.seen, c.fault.ensures.stable) refl

pub returns-then-self-2-clause-kept : goal.returns-then-self-2-clause-kept
returns-then-self-2-clause-kept g c = λ told. rw (c.fault-then-self-2.ensures.seen, c.fault-then-self-2.ensures.stable) refl

pub returns-in-Err-clause-kept : goal.returns-in-Err-clause-kept
returns-in-Err-clause-kept g c = λ told. rw (c.fault-in-Err.ensures.seen, c.fault-in-Err.ensures.stable) refl
