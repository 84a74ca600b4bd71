-- What each put makes of the state that a map stores.
use Rattle.std.proofs.Common.{◌≡◌, ◌≢◌, inl, inr, ℕ, ◌+◌, ◌<◌, ◌≤◌, List, [], ◌∷◌, ◌++◌, length, take, get_or, set, refl, sym, ap, subst, ◌∙◌, arith}
use Rattle.std.specs.Prelude.{Option, None, Some}
use Rattle.std.proofs.lemmas.Bool.Decides.{eqb_tells, leb_tells}
use Rattle.std.proofs.lemmas.List.{get_or-set_other, get_or-set_same, get_or-take, get_or_append_left, length-append, length-take-le}
use Rattle.std.proofs.Math.Seq.{get_or-append_seam}
use Rattle.can_frame.specs.declared.entry.Entry.{Entry}
use Rattle.can_frame.specs.Log.{blank}
use Rattle.kv_store.specs.Image.{put_in}
use Rattle.raft_log.specs.MayFollow.{IsStorable}
use Rattle.raft_log.specs.Rules.{HasByte, HasEntry, HasTerm, HasVersion, Stores}
use Rattle.raft_log.specs.Stored.{Stored}

-- one key of the map has a new value
pub record Changes (key : ℕ) (value : List ℕ) (map map' : ℕ → List ℕ) : Type 0 where
  pub new : map' key ≡ value
  pub same : (k : ℕ) → k ≢ key → map' k ≡ map k

pub by_put : (map map' : ℕ → List ℕ) (key : ℕ) (value : List ℕ) → ((k : ℕ) → map' k ≡ put_in map key value k) → Changes key value map map'
by_put map map' key value each = record {
  new = each key ∙ elim (eqb_tells key key) as (λ _. put_in map key value key ≡ value) [ inl t ↦ rw t.0 refl | inr t ↦ absurd (t.1 refl) ];
  same = λ k apart. each k ∙ elim (eqb_tells k key) as (λ _. put_in map key value k ≡ map k) [ inl t ↦ absurd (apart t.1) | inr t ↦ rw t.0 refl ];
}

pub put_changes : (map : ℕ → List ℕ) (key : ℕ) (items value : List ℕ) → items ≡ value → Changes key value map (put_in map key items)
put_changes map key items value is = subst (λ v. Changes key v map (put_in map key items)) is (by_put map (put_in map key items) key items (λ k. refl))

-- the map has these entries with these origins
abbrev pub AreThere : (ℕ → List ℕ) → List Entry → List (Option ℕ) → Type 0
AreThere map log origins = (i : ℕ) → i < length log → HasEntry (get_or log i (blank 0)) (get_or origins i None) (map (5 + i))

module _ (map : ℕ → List ℕ) (s : Stored) (has : Stores map s) (key : ℕ) (value : List ℕ) where
  abbrev after : ℕ → List ℕ
  after = put_in map key value

  changes : Changes key value map after
  changes = put_changes map key value value refl

  -- the other keys have what they had
  kept : (P : List ℕ → Type 0) (k : ℕ) → k ≢ key → P (map k) → P (after k)
  kept P k apart there = subst P (sym (changes.same k apart)) there

  put : (P : List ℕ → Type 0) (k : ℕ) → k ≡ key → P value → P (after k)
  put P k is there = subst P (sym (ap after is ∙ changes.new)) there

  kept_version : 0 ≢ key → HasVersion s.version (after 0)
  kept_version apart = kept (HasVersion s.version) 0 apart has.version

  kept_term : 1 ≢ key → HasTerm s.term (after 1)
  kept_term apart = kept (HasTerm s.term) 1 apart has.term

  kept_vote : 2 ≢ key → HasByte s.vote (after 2)
  kept_vote apart = kept (HasByte s.vote) 2 apart has.vote

  kept_last : 3 ≢ key → HasByte (length s.log) (after 3)
  kept_last apart = kept (HasByte (length s.log)) 3 apart has.last

  kept_commit : 4 ≢ key → HasByte s.commit (after 4)
  kept_commit apart = kept (HasByte s.commit) 4 apart has.commit

  kept_entries : key < 5 → AreThere after s.log s.origins
  kept_entries low i h = kept (HasEntry (get_or s.log i (blank 0)) (get_or s.origins i None)) (5 + i) (λ e. omega (arith, e, low)) (has.entries i h)

  pub put_term : (t : ℕ) → key ≡ 1 → HasTerm t value → IsStorable (record s { term = t }) → Stores after (record s { term = t })
  put_term t is fits storable = record {
    version = kept_version (λ e. omega (arith, e, is));
    term = put (HasTerm t) 1 (sym is) fits;
    vote = kept_vote (λ e. omega (arith, e, is));
    last = kept_last (λ e. omega (arith, e, is));
    commit = kept_commit (λ e. omega (arith, e, is));
    entries = kept_entries (omega (arith, is));
    storable = storable;
  }

  pub put_vote : (n : ℕ) → key ≡ 2 → HasByte n value → IsStorable (record s { vote = n }) → Stores after (record s { vote = n })
  put_vote n is fits storable = record {
    version = kept_version (λ e. omega (arith, e, is));
    term = kept_term (λ e. omega (arith, e, is));
    vote = put (HasByte n) 2 (sym is) fits;
    last = kept_last (λ e. omega (arith, e, is));
    commit = kept_commit (λ e. omega (arith, e, is));
    entries = kept_entries (omega (arith, is));
    storable = storable;
  }

  pub put_commit : (n : ℕ) → key ≡ 4 → HasByte n value → IsStorable (record s { commit = n }) → Stores after (record s { commit = n })
  put_commit n is fits storable = record {
    version = kept_version (λ e. omega (arith, e, is));
    term = kept_term (λ e. omega (arith, e, is));
    vote = kept_vote (λ e. omega (arith, e, is));
    last = kept_last (λ e. omega (arith, e, is));
    commit = put (HasByte n) 4 (sym is) fits;
    entries = kept_entries (omega (arith, is));
    storable = storable;
  }

  -- last counts the entries of another log, each of which is there
  pub put_last : (log : List Entry) (origins : List (Option ℕ)) → key ≡ 3 → HasByte (length log) value → IsStorable (record s { log = log; origins = origins })
      → AreThere map log origins → Stores after (record s { log = log; origins = origins })
  put_last log origins is fits storable there = record {
    version = kept_version (λ e. omega (arith, e, is));
    term = kept_term (λ e. omega (arith, e, is));
    vote = kept_vote (λ e. omega (arith, e, is));
    last = put (HasByte (length log)) 3 (sym is) fits;
    commit = kept_commit (λ e. omega (arith, e, is));
    entries = λ i h. kept (HasEntry (get_or log i (blank 0)) (get_or origins i None)) (5 + i) (λ e. omega (arith, e, is)) (there i h);
    storable = storable;
  }

  -- a key behind the entries is not read
  pub put_behind : 5 + length s.log ≤ key → Stores after s
  put_behind behind = record {
    version = kept_version (λ e. omega (arith, e, behind));
    term = kept_term (λ e. omega (arith, e, behind));
    vote = kept_vote (λ e. omega (arith, e, behind));
    last = kept_last (λ e. omega (arith, e, behind));
    commit = kept_commit (λ e. omega (arith, e, behind));
    entries = λ i h. kept (HasEntry (get_or s.log i (blank 0)) (get_or s.origins i None)) (5 + i) (λ e. omega (arith, e, h, behind)) (has.entries i h);
    storable = has.storable;
  }

  -- the entry at a place gets an origin
  pub put_origin : (place origin : ℕ) → key ≡ 5 + place → place < length s.log → HasEntry (get_or s.log place (blank 0)) (Some origin) value → IsStorable (record s { origins = set s.origins place (Some origin) })
      → Stores after (record s { origins = set s.origins place (Some origin) })
  put_origin place origin is within fits storable = record {
    version = kept_version (λ e. omega (arith, e, is));
    term = kept_term (λ e. omega (arith, e, is));
    vote = kept_vote (λ e. omega (arith, e, is));
    last = kept_last (λ e. omega (arith, e, is));
    commit = kept_commit (λ e. omega (arith, e, is));
    entries = entries;
    storable = storable;
  } where
    entries : AreThere after s.log (set s.origins place (Some origin))
    entries i h = elim (eqb_tells i place) as (λ _. HasEntry (get_or s.log i (blank 0)) (get_or (set s.origins place (Some origin)) i None) (after (5 + i))) [
      | inl t ↦ let same : i ≡ place = t.1 in
          subst (λ (o : Option ℕ). HasEntry (get_or s.log i (blank 0)) o (after (5 + i))) (sym (ap (λ (k : ℕ). get_or (set s.origins place (Some origin)) k None) same ∙ get_or-set_same s.origins place (Some origin) None (omega (arith, within, has.storable.count))))
          (put (HasEntry (get_or s.log i (blank 0)) (Some origin)) (5 + i) (omega (arith, same, is)) (subst (λ (k : ℕ). HasEntry (get_or s.log k (blank 0)) (Some origin) value) (sym same) fits))
      | inr t ↦ subst (λ (o : Option ℕ). HasEntry (get_or s.log i (blank 0)) o (after (5 + i))) (sym (get_or-set_other s.origins place i (Some origin) None t.1))
          (kept (HasEntry (get_or s.log i (blank 0)) (get_or s.origins i None)) (5 + i) (λ e. t.1 (omega (arith, e, is))) (has.entries i h))
    ]

  pub put_version : (n : ℕ) → key ≡ 0 → HasVersion n value → IsStorable (record s { version = n }) → Stores after (record s { version = n })
  put_version n is fits storable = record {
    version = put (HasVersion n) 0 (sym is) fits;
    term = kept_term (λ e. omega (arith, e, is));
    vote = kept_vote (λ e. omega (arith, e, is));
    last = kept_last (λ e. omega (arith, e, is));
    commit = kept_commit (λ e. omega (arith, e, is));
    entries = kept_entries (omega (arith, is));
    storable = storable;
  }

-- the entries of a log that was cut, or became longer
pub cut_there : (map : ℕ → List ℕ) (log : List Entry) (origins : List (Option ℕ)) (k : ℕ) → k ≤ length log → AreThere map log origins → AreThere map (take k log) (take k origins)
cut_there map log origins k within there i h =
    let low : i < k = omega (arith, h, length-take-le k log within) in
    subst (λ (e : Entry). HasEntry e (get_or (take k origins) i None) (map (5 + i))) (sym (get_or-take k log i (blank 0) low))
    (subst (λ (o : Option ℕ). HasEntry (get_or log i (blank 0)) o (map (5 + i))) (sym (get_or-take k origins i None low)) (there i (omega (arith, low, within))))

pub longer_there : (map : ℕ → List ℕ) (log : List Entry) (origins : List (Option ℕ)) (e : Entry) (o : ℕ) → length origins ≡ length log → AreThere map log origins → HasEntry e (Some o) (map (5 + length log))
    → AreThere map (log ++ e ∷ []) (origins ++ Some o ∷ [])
longer_there map log origins e o even there last i h = elim (leb_tells (length log) i) as (λ _. HasEntry (get_or (log ++ e ∷ []) i (blank 0)) (get_or (origins ++ Some o ∷ []) i None) (map (5 + i))) [
  | inl t ↦ let is : length log ≡ i = omega (arith, t.1, h, length-append log (e ∷ [])) in
      subst (λ n. HasEntry (get_or (log ++ e ∷ []) n (blank 0)) (get_or (origins ++ Some o ∷ []) n None) (map (5 + n))) is
      (subst (λ (x : Entry). HasEntry x (get_or (origins ++ Some o ∷ []) (length log) None) (map (5 + length log))) (sym (get_or-append_seam log e [] (blank 0)))
      (subst (λ (x : Option ℕ). HasEntry e x (map (5 + length log))) (sym (ap (λ (k : ℕ). get_or (origins ++ Some o ∷ []) k None) (sym even) ∙ get_or-append_seam origins (Some o) [] None)) last))
  | inr t ↦ subst (λ (x : Entry). HasEntry x (get_or (origins ++ Some o ∷ []) i None) (map (5 + i))) (sym (get_or_append_left log (e ∷ []) (blank 0) i t.1))
      (subst (λ (x : Option ℕ). HasEntry (get_or log i (blank 0)) x (map (5 + i))) (sym (get_or_append_left origins (Some o ∷ []) None i (omega (arith, t.1, even)))) (there i t.1))
]
