use Rattle.std.proofs.Common.{rules, refl, ◌≡◌, inl, inr, true, false, sym, subst, ◌∙◌}
use Rattle.disk_model.specs.Contents.{MayLeave}
use Rattle.disk_model.specs.Device.DeviceCall.{Write}
use Rattle.kv_store.specs.Image.{StandsFor, chosen_copy, copy_start, put_in}
use Rattle.kv_store.proofs.DeviceCalls.{only_image, stop_in_copy, stop_in_selector, chosen_by, new_map}
use Rattle.kv_store.proofs.replace.replace.Goals as goal

pub returns-in_err-write-clause-stop : goal.returns-in_err-write-clause-stop
returns-in_err-write-clause-stop g c = λ told map shown image left.
    let contents = g.D.Disk.contents in
    let sound = g.met.D.Disk.sound c.args.disk.now told in
    inl (stop_in_copy map c.args.value.now.items c.copy_of.result c.args.key c.args.copy (contents c.args.disk.now) (contents c.write.new.self) (contents c.write.new.self) (contents c.write.new.self)
    c.requires.key c.requires.short c.requires.copy (c.requires.other told) c.copy_of.ensures sound (c.requires.settled told) shown (c.write.ensures.outside told) image left)

pub returns-in_err-sync-clause-stop : goal.returns-in_err-sync-clause-stop
returns-in_err-sync-clause-stop g c = λ told map shown image left.
    let contents = g.D.Disk.contents in
    let sound = g.met.D.Disk.sound c.args.disk.now told in
    let told' = c.write.ensures.tells ∙ told in
    inl (stop_in_copy map c.args.value.now.items c.copy_of.result c.args.key c.args.copy (contents c.args.disk.now) (contents c.write.new.self) (contents c.write.new.self) (contents c.write.new.self)
    c.requires.key c.requires.short c.requires.copy (c.requires.other told) c.copy_of.ensures sound (c.requires.settled told) shown (c.write.ensures.outside told) image
    (subst (λ disk. MayLeave disk image) (c.in_err-sync.ensures.kept told') left))

pub returns-in_err-write-2-clause-stop : goal.returns-in_err-write-2-clause-stop
returns-in_err-write-2-clause-stop g c = λ told map shown image left.
    let contents = g.D.Disk.contents in
    let sound = g.met.D.Disk.sound in
    let told' = c.write.ensures.tells ∙ told in
    let told'' = c.sync.ensures.tells ∙ told' in
    stop_in_selector map c.args.value.now.items c.copy_of.result c.args.key c.args.copy (contents c.args.disk.now) (contents c.write.new.self) (contents c.sync.new.self) (contents c.write-2.new.self)
    c.requires.key c.requires.short c.requires.copy (c.requires.other told) c.copy_of.ensures (sound c.args.disk.now told) (c.requires.settled told) shown (c.write.ensures.outside told)
    (sound c.write.new.self told') (sound c.sync.new.self told'') (c.in_ok-write.ensures.bytes told) (c.in_ok-sync.ensures.synced told') (c.write-2.ensures.outside told'') image left

pub returns-in_err-sync-2-clause-stop : goal.returns-in_err-sync-2-clause-stop
returns-in_err-sync-2-clause-stop g c = λ told map shown image left.
    let contents = g.D.Disk.contents in
    let sound = g.met.D.Disk.sound in
    let told' = c.write.ensures.tells ∙ told in
    let told'' = c.sync.ensures.tells ∙ told' in
    let told''' = c.write-2.ensures.tells ∙ told'' in
    stop_in_selector map c.args.value.now.items c.copy_of.result c.args.key c.args.copy (contents c.args.disk.now) (contents c.write.new.self) (contents c.sync.new.self) (contents c.write-2.new.self)
    c.requires.key c.requires.short c.requires.copy (c.requires.other told) c.copy_of.ensures (sound c.args.disk.now told) (c.requires.settled told) shown (c.write.ensures.outside told)
    (sound c.write.new.self told') (sound c.sync.new.self told'') (c.in_ok-write.ensures.bytes told) (c.in_ok-sync.ensures.synced told') (c.write-2.ensures.outside told'') image
    (subst (λ disk. MayLeave disk image) (c.in_err-sync-2.ensures.kept told''') left)

pub returns-clause-map : goal.returns-clause-map
returns-clause-map g c = λ told map shown.
    let contents = g.D.Disk.contents in
    let sound = g.met.D.Disk.sound in
    let told' = c.write.ensures.tells ∙ told in
    let told'' = c.sync.ensures.tells ∙ told' in
    let told''' = c.write-2.ensures.tells ∙ told'' in
    let new = new_map map c.args.value.now.items c.copy_of.result c.args.key c.args.copy (contents c.args.disk.now) (contents c.write.new.self) (contents c.sync.new.self) (contents c.write-2.new.self)
    c.requires.key c.requires.short c.requires.copy (c.requires.other told) c.copy_of.ensures (sound c.args.disk.now told) (c.requires.settled told) shown (c.write.ensures.outside told)
    (sound c.write.new.self told') (sound c.sync.new.self told'') (c.in_ok-write.ensures.bytes told) (c.in_ok-sync.ensures.synced told') (c.write-2.ensures.outside told'')
    (sound c.write-2.new.self told''') (c.in_ok-write-2.ensures.bytes told'') in
    subst (λ xs. StandsFor xs (put_in map c.args.key c.args.value.now.items)) (sym (c.in_ok-sync-2.ensures.synced told''').seen) new

pub returns-clause-chosen : goal.returns-clause-chosen
returns-clause-chosen g c = λ told.
    let told'' = c.sync.ensures.tells ∙ c.write.ensures.tells ∙ told in
    let told''' = c.write-2.ensures.tells ∙ told'' in
    subst (λ xs. chosen_copy xs c.args.key ≡ c.args.copy) (sym (c.in_ok-sync-2.ensures.synced told''').seen) (chosen_by c.args.key c.args.copy (g.D.Disk.contents c.write-2.new.self).seen c.requires.copy (c.in_ok-write-2.ensures.bytes told''))

pub returns-clause-stop : goal.returns-clause-stop
returns-clause-stop g c = λ told map shown image left.
    let sound = g.met.D.Disk.sound in
    let told' = c.sync-2.ensures.tells ∙ c.write-2.ensures.tells ∙ c.sync.ensures.tells ∙ c.write.ensures.tells ∙ told in
    let told''' = c.write-2.ensures.tells ∙ c.sync.ensures.tells ∙ c.write.ensures.tells ∙ told in
    let only = only_image (g.D.Disk.contents c.sync-2.new.self) image (sound c.sync-2.new.self told') (c.in_ok-sync-2.ensures.synced told''').settled left in
    inr (subst (λ xs. StandsFor xs (put_in map c.args.key c.args.value.now.items)) (sym only) (returns-clause-map g c told map shown))

pub returns-in_err-write-clause-made : goal.returns-in_err-write-clause-made
returns-in_err-write-clause-made g c = inl (search rules, subst (λ bytes. g.D.Disk.does c.args.disk.now (Write (copy_start c.args.key c.args.copy) bytes) false c.write.new.self) c.copy_of.ensures c.in_err-write.ensures.made)

pub returns-in_err-sync-clause-made : goal.returns-in_err-sync-clause-made
returns-in_err-sync-clause-made g c =
    let copied = subst (λ bytes. g.D.Disk.does c.args.disk.now (Write (copy_start c.args.key c.args.copy) bytes) true c.write.new.self) c.copy_of.ensures c.in_ok-write.ensures.made in
    inr (c.write.new.self, copied, inl (search rules, c.in_err-sync.ensures.made))

pub returns-in_err-write-2-clause-made : goal.returns-in_err-write-2-clause-made
returns-in_err-write-2-clause-made g c =
    let copied = subst (λ bytes. g.D.Disk.does c.args.disk.now (Write (copy_start c.args.key c.args.copy) bytes) true c.write.new.self) c.copy_of.ensures c.in_ok-write.ensures.made in
    inr (c.write.new.self, copied, inr (c.sync.new.self, c.in_ok-sync.ensures.made, inl (search rules, c.in_err-write-2.ensures.made)))

pub returns-in_err-sync-2-clause-made : goal.returns-in_err-sync-2-clause-made
returns-in_err-sync-2-clause-made g c =
    let copied = subst (λ bytes. g.D.Disk.does c.args.disk.now (Write (copy_start c.args.key c.args.copy) bytes) true c.write.new.self) c.copy_of.ensures c.in_ok-write.ensures.made in
    inr (c.write.new.self, copied, inr (c.sync.new.self, c.in_ok-sync.ensures.made, inr (c.write-2.new.self, c.in_ok-write-2.ensures.made, inl (search rules, c.in_err-sync-2.ensures.made))))

pub returns-clause-made : goal.returns-clause-made
returns-clause-made g c =
    let copied = subst (λ bytes. g.D.Disk.does c.args.disk.now (Write (copy_start c.args.key c.args.copy) bytes) true c.write.new.self) c.copy_of.ensures c.in_ok-write.ensures.made in
    inr (c.write.new.self, copied, inr (c.sync.new.self, c.in_ok-sync.ensures.made, inr (c.write-2.new.self, c.in_ok-write-2.ensures.made, inr (c.sync-2.new.self, c.in_ok-sync-2.ensures.made, (refl, refl)))))
