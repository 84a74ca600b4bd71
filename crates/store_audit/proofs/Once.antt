-- An audit of disks that tell what they hold comes to one thing.
use Rattle.std.proofs.Common.{◌≡◌, ◌⊎◌, inl, inr, ℕ, zero, suc, ◌<◌, ◌≤◌, true, List, [], length, get_or, refl, sym, ap, subst, ◌∙◌, arith}
use Rattle.std.specs.Prelude.{Option, None, Some, slice_index, slice_index_or}
use Rattle.std.specs.Io.KnownBytes.{Appends}
use Rattle.std.proofs.lemmas.Bool.Decides.{eqb_tells, leb_tells}
use Rattle.std.proofs.lemmas.List.{ext_get_or, get_or-take, length-take, length-take-le, take_all}
use Rattle.can_frame.specs.declared.entry.Entry.{Entry}
use Rattle.can_frame.specs.Log.{IsPrefix, blank, entry_at}
use Rattle.disk_model.specs.declared.disk.Disk.{Ghosts}
use Rattle.cmd_io.specs.declared.status.Status.{Status}
use Rattle.cmd_io.specs.declared.status.Status.TheVariants.{Damaged, Differ, DiskFault, Done, WriteFault}
use Rattle.raft_log.specs.declared.stored.Stored.{Stored}
use Rattle.raft_log.specs.Reading.{IsReadFrom}
use Rattle.raft_log.specs.Rules.{IsDamagedAt}
use Rattle.store_audit.specs.Audits.{AllTell, Audits, Comes, Compares, CountsOne, AuditEndsAtDamage, HasFailed, IsCompared, IsOfStores}
use Rattle.store_audit.specs.Reads.{AreStoresOf, IsDamagedDisk, IsStoreOf}
use Rattle.store_audit.specs.Report.{AgreeOn, agreed_report, line_of}
use Rattle.store_audit.specs.Stores.{AreCommitted, committed, store_at}
use Rattle.store_audit.specs.Verdict.{IsDifference}

abbrev nothing : Stored
nothing = record { term = 0; vote = 0; commit = 0; entries = record { items = [] }; origins = record { items = [] } }

-- two numbers of which neither is below the other
apart : (a b : ℕ) → (a < b → ⊥) → (b < a → ⊥) → a ≡ b
apart a b low high = elim (leb_tells a b) as (λ _. a ≡ b) [
  | inl t ↦ elim (eqb_tells a b) as (λ _. a ≡ b) [
    | inl u ↦ u.1
    | inr u ↦ absurd (low (omega (arith, t.1, u.1)))
  ]
  | inr t ↦ absurd (high (omega (arith, t.1)))
]

-- two lists that begin with each other
same_list : (xs ys : List Entry) → IsPrefix xs ys → IsPrefix ys xs → xs ≡ ys
same_list xs ys first second =
    let low : length xs ≤ length ys = omega (arith, ap length first, length-take (length xs) ys) in
    let high : length ys ≤ length xs = omega (arith, ap length second, length-take (length ys) xs) in
    sym first ∙ take_all (length xs) ys high

-- the entry of a list that a store has committed
at_place : (list : List Entry) (store : Stored) (place : ℕ) → store.commit ≤ length store.entries.items → IsPrefix (committed store) list → 1 ≤ place → place ≤ store.commit
    → entry_at store.entries.items place ≡ entry_at list place
at_place list store zero within front least has = absurd (omega (arith, least))
at_place list store (suc i) within front least has =
    let size : length (committed store) ≡ store.commit = length-take-le store.commit store.entries.items within in
    sym (get_or-take store.commit store.entries.items i (blank 0) (omega (arith, has)))
    ∙ (ap (λ (l : List Entry). get_or l i (blank 0)) (sym front) ∙ get_or-take (length (committed store)) list i (blank 0) (omega (arith, has, size)))

module _ (stores : List Stored) (whole : AreCommitted stores) where
  -- stores that agree on a list do not differ
  agree_or_differ : (list : List Entry) (place a b : ℕ) → AgreeOn stores list → IsDifference stores place a b → ⊥
  agree_or_differ list place a b agree is =
      let low : a < length stores = omega (arith, is.pair.order, is.pair.exists) in
      is.pair.differ (at_place list (store_at stores a) place (whole a low) (agree.front a low) is.least is.pair.has
      ∙ sym (at_place list (store_at stores b) place (whole b is.pair.exists) (agree.front b is.pair.exists) is.least is.pair.has_too))

one_list : (stores : List Stored) (xs ys : List Entry) → AgreeOn stores xs → AgreeOn stores ys → xs ≡ ys
one_list stores xs ys first second = same_list xs ys (rw first.whole (second.front first.longest first.exists)) (rw second.whole (first.front second.longest second.exists))

module _ (stores : List Stored) where
  not_earlier : (p q a b c d : ℕ) → IsDifference stores p a b → IsDifference stores q c d → p < q → ⊥
  not_earlier p q a b c d first second before =
      first.pair.differ (second.before p first.least before a b (omega (arith, first.pair.order, first.pair.exists)) first.pair.exists first.pair.has first.pair.has_too)

  one_place : (p q a b c d : ℕ) → IsDifference stores p a b → IsDifference stores q c d → p ≡ q
  one_place p q a b c d first second = apart p q (not_earlier p q a b c d first second) (not_earlier q p c d a b second first)

  one_first : (p a b c d : ℕ) → IsDifference stores p a b → IsDifference stores p c d → a ≡ c
  one_first p a b c d first second = apart a c (λ low. second.pair.first a low first.pair.has) (λ low. first.pair.first c low second.pair.has)

  one_second : (p a b d : ℕ) → IsDifference stores p a b → IsDifference stores p a d → b ≡ d
  one_second p a b d first second = apart b d
      (λ low. first.pair.differ (sym (second.pair.next b first.pair.order low first.pair.has_too)))
      (λ low. second.pair.differ (sym (first.pair.next d second.pair.order low second.pair.has_too)))

-- what stores come to is one thing
module _ (ids : List ℕ) (stores : List Stored) (whole : AreCommitted stores) where
  one_difference : (p i j q k l : ℕ) (x y : List ℕ) → Compares ids stores (Differ p i j) x → Compares ids stores (Differ q k l) y → (Differ p i j ≡ Differ q k l) × (x ≡ y)
  one_difference p i j q k l x y first second =
      let d = first.0 in
      let e = second.0 in
      let place = one_place stores p q d.a d.b e.a e.b d.difference e.difference in
      let at : IsDifference stores p e.a e.b = subst (λ n. IsDifference stores n e.a e.b) (sym place) e.difference in
      let firsts = one_first stores p d.a d.b e.a e.b d.difference at in
      let seconds = one_second stores p d.a d.b e.b d.difference (subst (λ n. IsDifference stores p n e.b) (sym firsts) at) in
      let left : i ≡ k = d.first_is ∙ (ap (slice_index ids) firsts ∙ sym e.first_is) in
      let right : j ≡ l = d.second_is ∙ (ap (slice_index ids) seconds ∙ sym e.second_is) in
      let same : Differ p i j ≡ Differ q k l = λ z. Differ (place z) (left z) (right z) in
      (same, first.1 ∙ (ap line_of same ∙ sym second.1))

  one_comparison : (s t : Status) (x y : List ℕ) → Compares ids stores s x → Compares ids stores t y → (s ≡ t) × (x ≡ y)
  one_comparison Done Done x y first second = (refl, first.lines ∙ (ap (agreed_report stores) (one_list stores first.list second.list first.agree second.agree) ∙ sym second.lines))
  one_comparison Done (Differ q k l) x y first second = absurd (agree_or_differ stores whole first.list q second.0.a second.0.b first.agree second.0.difference)
  one_comparison Done _ x y first second = absurd second
  one_comparison (Differ p i j) Done x y first second = absurd (agree_or_differ stores whole second.list p first.0.a first.0.b second.agree first.0.difference)
  one_comparison (Differ p i j) (Differ q k l) x y first second = one_difference p i j q k l x y first second
  one_comparison (Differ p i j) _ x y first second = absurd second
  one_comparison _ t x y first second = absurd first

-- the laws of what is read of an image
pub record ReadingLaws : Type 0 where
  pub once : (image : List ℕ) (a b : Stored) → IsReadFrom image a → IsReadFrom image b → a ≡ b
  pub either : (image : List ℕ) (read : Stored) (key : ℕ) → IsReadFrom image read → IsDamagedAt image key → ⊥
  pub key : (image : List ℕ) (a b : ℕ) → IsDamagedAt image a → IsDamagedAt image b → a ≡ b

module _ {D : Type 0} (ghosts : Ghosts D) (laws : ReadingLaws) (ids : List ℕ) (disks : List (Option D)) (tell : AllTell ghosts ids disks) where
  told : (k : ℕ) (disk : D) → k < length ids → slice_index_or disks k None ≡ Some disk → ghosts.tells disk ≡ true
  told k disk below there = let here = tell k below in let same : here.disk ≡ disk = cc (here.is, there) in subst (λ d. ghosts.tells d ≡ true) same here.tells

  same_store : (disk : D) (a b : Stored) → ghosts.tells disk ≡ true → IsStoreOf ghosts disk a → IsStoreOf ghosts disk b → a ≡ b
  same_store disk a b tells x y = laws.once y.image a b (subst (λ i. IsReadFrom i a) (x.seen tells ∙ sym (y.seen tells)) x.read) y.read

  one_stores : (xs ys : List Stored) → AreStoresOf ghosts disks xs → AreStoresOf ghosts disks ys → length xs ≤ length ids → length xs ≡ length ys → xs ≡ ys
  one_stores xs ys first second few same = ext_get_or (nothing) xs ys same
      (λ k below. let here = tell k (omega (arith, below, few)) in same_store here.disk (store_at xs k) (store_at ys k) here.tells (first k here.disk below here.is) (second k here.disk (omega (arith, below, same)) here.is))

  committed_whole : (xs : List Stored) → AreStoresOf ghosts disks xs → length xs ≤ length ids → AreCommitted xs
  committed_whole xs are few k below =
      let here = tell k (omega (arith, below, few)) in
      let read = (are k here.disk below here.is).read in
      rw (read.tells.commit, read.tells.entries) read.stands.stores.storable.commit

  -- a disk that is read as a store is not damaged
  not_both : (id key : ℕ) (end : AuditEndsAtDamage ghosts ids disks id key) (xs : List Stored) → AreStoresOf ghosts disks xs → length end.at.stores < length xs → ⊥
  not_both id key end xs are below =
      let tells = told (length end.at.stores) end.disk end.at.within end.there in
      let x = are (length end.at.stores) end.disk below end.there in
      let y = end.damaged in
      laws.either y.image (store_at xs (length end.at.stores)) key (subst (λ i. IsReadFrom i (store_at xs (length end.at.stores))) (x.seen tells ∙ sym (y.seen tells)) x.read) y.damaged

  one_damage : (i k j l : ℕ) → AuditEndsAtDamage ghosts ids disks i k → AuditEndsAtDamage ghosts ids disks j l → (i ≡ j) × (k ≡ l)
  one_damage i k j l e f =
      let place = apart (length e.at.stores) (length f.at.stores) (not_both i k e f.at.stores f.at.read) (not_both j l f e.at.stores e.at.read) in
      let there : slice_index_or disks (length e.at.stores) None ≡ Some f.disk = subst (λ n. slice_index_or disks n None ≡ Some f.disk) (sym place) f.there in
      let disk : e.disk ≡ f.disk = cc (e.there, there) in
      let tells = told (length e.at.stores) e.disk e.at.within e.there in
      let y : IsDamagedDisk ghosts e.disk l = subst (λ d. IsDamagedDisk ghosts d l) (sym disk) f.damaged in
      let x = e.damaged in (
        e.at.is ∙ (ap (slice_index ids) place ∙ sym f.at.is),
        laws.key y.image k l (subst (λ m. IsDamagedAt m k) (x.seen tells ∙ sym (y.seen tells)) x.damaged) y.damaged,
      )

  -- an end is one of a comparison, or at a damaged store
  record AtDamage (s : Status) (x : List ℕ) : Type 0 where
    id : ℕ
    key : ℕ
    is : s ≡ Damaged id key
    end : AuditEndsAtDamage ghosts ids disks id key
    line : x ≡ line_of (Damaged id key)

  which : (s : Status) (x : List ℕ) → Comes ghosts ids disks s x → IsOfStores s → IsCompared ghosts ids disks s x ⊎ AtDamage s x
  which Done x comes fine = inl comes
  which (Differ p i j) x comes fine = inl comes
  which (Damaged id key) x comes fine = inr (record { id = id; key = key; is = refl; end = comes.0; line = comes.1 })
  which _ x comes fine = absurd fine

  of_which : (s t : Status) (x y : List ℕ) → IsCompared ghosts ids disks s x ⊎ AtDamage s x → IsCompared ghosts ids disks t y ⊎ AtDamage t y → (s ≡ t) × (x ≡ y)
  of_which s t x y (inl a) (inl b) =
      let same = one_stores a.stores b.stores a.read b.read (omega (arith, a.all)) (a.all ∙ sym b.all) in
      one_comparison ids a.stores (committed_whole a.stores a.read (omega (arith, a.all))) s t x y a.compares (subst (λ l. Compares ids l t y) (sym same) b.compares)
  of_which s t x y (inl a) (inr b) = absurd (not_both b.id b.key b.end a.stores a.read (omega (arith, a.all, b.end.at.within)))
  of_which s t x y (inr a) (inl b) = absurd (not_both a.id a.key a.end b.stores b.read (omega (arith, b.all, a.end.at.within)))
  of_which s t x y (inr a) (inr b) =
      let same = one_damage a.id a.key b.id b.key a.end b.end in
      let status : Damaged a.id a.key ≡ Damaged b.id b.key = λ z. Damaged (same.0 z) (same.1 z) in
      (a.is ∙ (status ∙ sym b.is), a.line ∙ (ap line_of status ∙ sym b.line))

  pub one_end : (s t : Status) (x y : List ℕ) → Comes ghosts ids disks s x → Comes ghosts ids disks t y → IsOfStores s → IsOfStores t → (s ≡ t) × (x ≡ y)
  one_end s t x y first second fine fine_too = of_which s t x y (which s x first fine) (which t y second fine_too)

-- how an audit ends
module _ {D : Type 0} (ghosts : Ghosts D) (ids : List ℕ) (disks new : List (Option D)) (before now : Option (List ℕ)) where
  ends_of : (outcome : Status) (report : List ℕ) → Comes ghosts ids disks outcome report → CountsOne ghosts ids disks new outcome
      → ((id : ℕ) × (outcome ≡ DiskFault id) × HasFailed ghosts ids disks new id) ⊎ IsOfStores outcome
  ends_of Done report comes counts = inr (tt {0})
  ends_of (Differ p i j) report comes counts = inr (tt {0})
  ends_of (Damaged id key) report comes counts = inr (tt {0})
  ends_of (DiskFault id) report comes counts = inl (id, refl, counts.named id refl)
  ends_of _ report comes counts = absurd comes

  pub nothing_fails : (status : Status) → Audits ghosts ids disks new before now status
      → (status ≡ WriteFault) ⊎ (((id : ℕ) × (status ≡ DiskFault id) × HasFailed ghosts ids disks new id) ⊎ IsOfStores status)
  nothing_fails status audits = elim audits.written as (λ _. (status ≡ WriteFault) ⊎ (((id : ℕ) × (status ≡ DiskFault id) × HasFailed ghosts ids disks new id) ⊎ IsOfStores status)) [
    | inl t ↦ inr (subst (λ s. ((id : ℕ) × (s ≡ DiskFault id) × HasFailed ghosts ids disks new id) ⊎ IsOfStores s) (sym t.0) (ends_of audits.outcome audits.report audits.comes audits.counts))
    | inr t ↦ inl t.0
  ]

  pub complete : ReadingLaws → AllTell ghosts ids disks → (status found : Status) (report : List ℕ) → Audits ghosts ids disks new before now status → IsOfStores status
      → Comes ghosts ids disks found report → IsOfStores found → (status ≡ found) × Appends before now report
  complete laws tell status found report audits fine comes fine_too = elim audits.written as (λ _. (status ≡ found) × Appends before now report) [
    | inl t ↦ let same = one_end ghosts laws ids disks tell audits.outcome found audits.report report audits.comes comes (subst IsOfStores t.0 fine) fine_too in (t.0 ∙ same.0, subst (Appends before now) same.1 t.1)
    | inr t ↦ absurd (subst IsOfStores t.0 fine)
  ]
