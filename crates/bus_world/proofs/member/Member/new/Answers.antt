use Rattle.std.proofs.Common.{◌≡◌, ℕ, ◌%◌, ◌*◌, ◌∙◌, List, ap, refl, subst, sym}
use Rattle.std.specs.Prelude.{slice_index}
use Rattle.bus_world.proofs.Zeros.{zeros_at}
use Rattle.disk_model.specs.declared.memory.MemoryDisk.{MemoryDisk}
use Rattle.disk_model.specs.Memory.{memory_calls, memory_contents}
use Rattle.kv_store.specs.Image.{chosen_copy}
use Rattle.kv_store.specs.KeyDisk.{KeyDisk}
use Rattle.raft_log.specs.KeyDisk.{IsOn}
use Rattle.raft_log.specs.Stored.{Stored}
use Rattle.bus_spec.specs.Members.{fresh_disk}
use Rattle.bus_world.proofs.member.Member.new.Goals as goal

pub returns-clause-stands : goal.returns-clause-stands
returns-clause-stands g c =
    let disk : MemoryDisk = c.new-disk.result in
    let zeros : (i : ℕ) → slice_index (memory_contents disk).seen i ≡ 0 =
    λ i. ap (λ (l : List ℕ). slice_index l i) c.new-disk.ensures.seen ∙ zeros_at 8844 i in
    let ready = c.the_disk_by_states.ensures.begun disk fresh_disk.store (c.zeros_are_the_first_state.ensures (memory_contents disk).seen zeros) c.new-disk.ensures.settled in
    let same : record { store = fresh_disk.store; copies = λ key. chosen_copy (memory_contents disk).seen key; unsynced = fresh_disk.unsynced; calls = memory_calls disk } ≡ fresh_disk =
    λ i. record { store = fresh_disk.store; copies = λ key. ap (λ (n : ℕ). n % 2) (zeros (67 * key)) i; unsynced = fresh_disk.unsynced; calls = c.new-disk.ensures.calls i } in
    record {
      status = record {
        runs = refl;
        server = record {
          closed = c.closed.ensures.closed;
          on = subst (λ (d : MemoryDisk). IsOn d fresh_disk) (sym c.closed.ensures.disk) (subst (λ (key_disk : KeyDisk Stored). IsOn disk key_disk) same ready.on);
        };
      };
      pattern = refl;
    }
