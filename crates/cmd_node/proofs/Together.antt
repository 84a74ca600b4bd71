-- All allocators, where the one at a place has taken its turn.
use Rattle.std.proofs.Common.{◌≡◌, ℕ, ◌<◌, ◌≤◌, List, length, length-set, refl, sym, ap, ◌∙◌, subst, inl, inr, arith, zero, suc, [], ◌∷◌}
use Rattle.std.proofs.lemmas.Bool.Decides.{eqb_tells}
use Rattle.std.proofs.lemmas.List.{get_or-set_other, get_or-set_same}
use Rattle.std.specs.Prelude.{Option, slice_index_or, slice_set}
use Rattle.disk_model.specs.declared.disk.Disk.{Ghosts}
use Rattle.outside.specs.Faults.{Rose}
use Rattle.outside.specs.declared.received.RawFrame.{RawFrame}
use Rattle.outside.specs.declared.received.Received.{Received}
use Rattle.raft_model.specs.Lists.{at, at_here, at_other}
use Rattle.cmd_node.specs.Stands.{AreRunning, IsRunning, runner_disk}
use Rattle.cmd_node.specs.Taking.{EndsTurn, KeepsLinks, KeepsNode, KeepsNodes}
use Rattle.cmd_node.specs.Turn.{Running}
use Rattle.cmd_node.specs.declared.fault.Fault.{Fault}
use Rattle.cmd_node.specs.declared.fault.Fault.TheVariants.{Link, Disk, Damaged, AnotherLog}
use Rattle.cmd_node.specs.declared.runner.Runner.{Runner}

pub rose_before : (a b c : ℕ) → a ≤ b → Rose b c → Rose a c
rose_before a b c earlier rose = omega (arith, earlier, rose)

-- what is read within a list does not depend on what is read behind it
pub one_item : {A : Type 0} (xs : List A) (i : ℕ) (d e : A) → i < length xs → slice_index_or xs i d ≡ slice_index_or xs i e
one_item [] i d e within = absurd (omega (arith, within))
one_item (x ∷ xs) zero d e within = refl
one_item (x ∷ xs) (suc i) d e within = one_item xs i d e (omega (arith, within))

module _ {D F : Type 0} {disk : Ghosts D} where
  same_node : (a b : Runner D F disk) → a ≡ b → KeepsNode a b
  same_node a b e = subst (KeepsNode a) e (record { id = refl; later = omega arith; tells = refl; accepts = refl })

  pub nodes_kept : (all : List (Runner D F disk)) → KeepsNodes all all
  nodes_kept all = record {
    count = refl;
    each = λ i before after within. same_node (slice_index_or all i before) (slice_index_or all i after) (one_item all i before after within);
  }

  then_node : (a b c : Runner D F disk) → KeepsNode a b → KeepsNode b c → KeepsNode a c
  then_node a b c p q = record {
    id = q.id ∙ p.id;
    later = let x = p.later in let y = q.later in omega (arith, x, y);
    tells = q.tells ∙ p.tells;
    accepts = q.accepts ∙ p.accepts;
  }

  pub nodes_then : (a b c : List (Runner D F disk)) → KeepsNodes a b → KeepsNodes b c → KeepsNodes a c
  nodes_then a b c p q = record {
    count = q.count ∙ p.count;
    each = λ i before after within. then_node (slice_index_or a i before) (slice_index_or b i before) (slice_index_or c i after) (p.each i before before within)
        (q.each i before after (let count = p.count in omega (arith, count, within)));
  }

module _ {L : Type 0} (faults : L → ℕ) where
  pub links_kept : (all : List L) → KeepsLinks faults all all
  links_kept all = record {
    count = refl;
    later = λ i before after within. let same = ap faults (one_item all i before after within) in omega (arith, same);
  }

  pub links_then : (a b c : List L) → KeepsLinks faults a b → KeepsLinks faults b c → KeepsLinks faults a c
  links_then a b c p q = record {
    count = q.count ∙ p.count;
    later = λ i before after within.
        let x = p.later i before before within in
        let y = q.later i before after (let count = p.count in omega (arith, count, within)) in omega (arith, x, y);
  }

-- turns were taken to their end, and a later one was not
pub ends_later : {D F : Type 0} {disk : Ghosts D} {L : Type 0} (faults : L → ℕ) (a b c : List (Runner D F disk)) (k l m : List L) (fault : Fault) →
    KeepsNodes a b → KeepsLinks faults k l → length k ≡ length a → EndsTurn faults b c l m fault → EndsTurn faults a c k m fault
ends_later faults a b c k l m (Link id) nodes links each (place, within, own, rose) =
    let count = nodes.count in
    let first : place < length a = omega (arith, count, within) in (
      place,
      first,
      λ runner. sym (nodes.each place runner runner first).id ∙ own runner,
      λ before after. rose_before (faults (slice_index_or k place before)) (faults (slice_index_or l place before)) (faults (slice_index_or m place after))
          (links.later place before before (omega (arith, each, first))) (rose before after),
    )
ends_later {disk = disk} faults a b c k l m (Disk id) nodes links each (place, within, own, rose) =
    let count = nodes.count in
    let first : place < length a = omega (arith, count, within) in (
      place,
      first,
      λ runner. sym (nodes.each place runner runner first).id ∙ own runner,
      λ before after. rose_before (disk.faults (runner_disk (slice_index_or a place before))) (disk.faults (runner_disk (slice_index_or b place before)))
          (disk.faults (runner_disk (slice_index_or c place after))) (nodes.each place before before first).later (rose before after),
    )
ends_later faults a b c k l m (Damaged id key) nodes links each why = why
ends_later faults a b c k l m (AnotherLog id node) nodes links each (place, within, own) =
    let count = nodes.count in
    let first : place < length a = omega (arith, count, within) in
    (place, first, λ runner. sym (nodes.each place runner runner first).id ∙ own runner)

-- a value after a set at a place, here and elsewhere
pub set_here : {A : Type 0} (xs : List A) (k i : ℕ) (x d : A) → i ≡ k → k < length xs → x ≡ slice_index_or (slice_set xs k x) i d
set_here xs k i x d same within = sym (ap (λ j. slice_index_or (slice_set xs k x) j d) same ∙ get_or-set_same xs k x d within)

pub set_elsewhere : {A : Type 0} (xs : List A) (k i : ℕ) (x d : A) → (i ≡ k → ⊥) → slice_index_or xs i d ≡ slice_index_or (slice_set xs k x) i d
set_elsewhere xs k i x d other = sym (get_or-set_other xs k i x d other)

module _ {D F : Type 0} {disk : Ghosts D} {L : Type 0} (runners : List (Runner D F disk)) (links : List L) (place : ℕ)
    (runner : Runner D F disk) (link : L) (here : place < length runners) (there : place < length links) where
  module _ (coming : L → Option (List Received)) (sent : L → Option (List RawFrame)) (running : ℕ → Running) (done : Running) where
    same_running : (a b : Runner D F disk) (l m : L) (x y : Running) → a ≡ b → l ≡ m → x ≡ y → IsRunning a (coming l) (sent l) x → IsRunning b (coming m) (sent m) y
    same_running a b l m x y e f h is = subst (λ r. IsRunning r (coming m) (sent m) y) e
        (subst (λ k. IsRunning a (coming k) (sent k) y) f (subst (IsRunning a (coming l) (sent l)) h is))

    pub are_running : AreRunning coming sent runners links running → IsRunning runner (coming link) (sent link) done →
        AreRunning coming sent (slice_set runners place runner) (slice_set links place link) (at running place done)
    are_running each this = λ i r l within. elim (eqb_tells i place) [
      | inl h ↦ same_running runner (slice_index_or (slice_set runners place runner) i r) link (slice_index_or (slice_set links place link) i l) done (at running place done i)
          (set_here runners place i runner r h.1 here) (set_here links place i link l h.1 there) (sym (at_here running place i done h.1)) this
      | inr h ↦ same_running (slice_index_or runners i r) (slice_index_or (slice_set runners place runner) i r) (slice_index_or links i l)
          (slice_index_or (slice_set links place link) i l) (running i) (at running place done i)
          (set_elsewhere runners place i runner r h.1) (set_elsewhere links place i link l h.1) (sym (at_other running place i done h.1))
          (each i r l (let size = length-set runners place runner in omega (arith, size, within)))
    ]

  module _ (old : List (Runner D F disk)) (links_old : List L) (faults : L → ℕ) (nodes : KeepsNodes old runners) (kept : KeepsLinks faults links_old links) where
    pub keeps_nodes : (some : Runner D F disk) → KeepsNode (slice_index_or runners place some) runner → KeepsNodes old (slice_set runners place runner)
    keeps_nodes some turned = record {
      count = length-set runners place runner ∙ nodes.count;
      each = λ i before after within. elim (eqb_tells i place) [
        | inl h ↦ subst (λ r. KeepsNode (slice_index_or old i before) r) (set_here runners place i runner after h.1 here)
            (subst (λ k. KeepsNode (slice_index_or old k before) runner) (sym h.1)
            (then_node (slice_index_or old place before) (slice_index_or runners place some) runner
            (nodes.each place before some (let same = nodes.count in omega (arith, same, here))) turned))
        | inr h ↦ subst (λ r. KeepsNode (slice_index_or old i before) r) (set_elsewhere runners place i runner after h.1) (nodes.each i before after within)
      ];
    }

    pub keeps_links : (some : L) → faults (slice_index_or links place some) ≤ faults link → KeepsLinks faults links_old (slice_set links place link)
    keeps_links some turned = record {
      count = length-set links place link ∙ kept.count;
      later = λ i before after within. elim (eqb_tells i place) [
        | inl h ↦ subst (λ l. faults (slice_index_or links_old i before) ≤ faults l) (set_here links place i link after h.1 there)
            (subst (λ k. faults (slice_index_or links_old k before) ≤ faults link) (sym h.1)
            (let same = kept.count in let earlier = kept.later place before some (omega (arith, same, there)) in omega (arith, earlier, turned)))
        | inr h ↦ subst (λ l. faults (slice_index_or links_old i before) ≤ faults l) (set_elsewhere links place i link after h.1) (kept.later i before after within)
      ];
    }

    -- a turn of the one at the place ended
    pub ends_turn : (fault : Fault) (id : ℕ) → ((before : Runner D F disk) → (slice_index_or old place before).id ≡ id) → place < length old →
        ((node : ℕ) → fault ≡ Link node → (node ≡ id) × ((before : L) → Rose (faults (slice_index_or links_old place before)) (faults link))) →
        ((node : ℕ) → fault ≡ Disk node → (node ≡ id) × ((before : Runner D F disk) → Rose (disk.faults (runner_disk (slice_index_or old place before))) (disk.faults (runner_disk runner)))) →
        ((node key : ℕ) → fault ≡ Damaged node key → ⊥) → ((node caller : ℕ) → fault ≡ AnotherLog node caller → node ≡ id) →
        EndsTurn faults old (slice_set runners place runner) links_old (slice_set links place link) fault
    ends_turn (Link node) id own within by_link by_disk none called =
        let why = by_link node refl in (
          place,
          within,
          λ before. own before ∙ sym why.0,
          λ before after. subst (λ l. Rose (faults (slice_index_or links_old place before)) (faults l)) (set_here links place place link after refl there) (why.1 before),
        )
    ends_turn (Disk node) id own within by_link by_disk none called =
        let why = by_disk node refl in (
          place,
          within,
          λ before. own before ∙ sym why.0,
          λ before after. subst (λ r. Rose (disk.faults (runner_disk (slice_index_or old place before))) (disk.faults (runner_disk r)))
              (set_here runners place place runner after refl here) (why.1 before),
        )
    ends_turn (Damaged node key) id own within by_link by_disk none called = none node key refl
    ends_turn (AnotherLog node caller) id own within by_link by_disk none called = (place, within, λ before. own before ∙ sym (called node caller refl))
