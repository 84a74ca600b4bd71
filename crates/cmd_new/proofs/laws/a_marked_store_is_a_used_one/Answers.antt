use Rattle.std.proofs.Common.{◌≡◌, arith, sym, ◌∙◌}
use Rattle.disk_model.specs.Contents.{Contents}
use Rattle.kv_store.specs.Image.{length_byte}
use Rattle.cmd_new.specs.Found.{IsFound}
use Rattle.cmd_new.specs.Marked.{IsMarked}
use Rattle.cmd_new.specs.NewImage.{IsNewImage}
use Rattle.cmd_new.specs.declared.found.Found.TheVariants.{UsedStore}
use Rattle.cmd_new.proofs.NewImage.{length_byte_is}
use Rattle.cmd_new.proofs.StoreAbove.{new_front}
use Rattle.cmd_new.proofs.laws.a_marked_store_is_a_used_one.Goals as goal

is_used : (old new : Contents) → IsNewImage old.seen → IsMarked old new → IsFound new.seen UsedStore
is_used old new was marked =
    let front = new_front old.seen was in
    let one : length_byte new.seen 0 ≡ 1 = length_byte_is new.seen (marked.before ∙ front.0) ∙ marked.after 34 (omega arith) ∙ front.2 in (
      λ none. omega (arith, one, none),
      λ again. let front = new_front new.seen again in let mark = marked.bytes 0 (omega arith) in omega (arith, front.1, mark),
    )

pub returns : goal.returns
returns c = is_used
