-- When the frames of Allocations go out, by all that was handed in.
use Rattle.std.proofs.Common.{◌≡◌, ◌≤◌, ◌<◌, ◌+◌, ◌&&◌, ℕ, zero, suc, Bool, true, false, not, List, [], ◌∷◌, ◌++◌, length, refl, sym, subst, ap, ◌∙◌, inl, inr, arith, nat_eq, nat_le, eq-eqb, eqb-true, leb-true, if◌then◌else◌}
use Rattle.std.specs.Prelude.{Option, Some, None, slice_index_or, slice_set, replicate}
use Rattle.std.proofs.lemmas.Bool.Decides.{eqb_tells, leb_tells}
use Rattle.std.proofs.lemmas.List.{get_or-set_other, get_or-set_same}
use Rattle.can_frame.specs.declared.tail.Tail.{Tail}
use Rattle.spaced_link.specs.LeftOut.{FrameGoes, GoesSpaced, IsHandedIn, StandForUses}
use Rattle.spaced_link.specs.Spacing.{AreInner, IsFirstOf, GoesOnWith, OwnFrame, Uses, WentOutBefore, between_uses, goes_by, goes_out, has_rested, is_under_way, last_out, under_way_behind, uses_behind, uses_by, uses_id, with_use}

both : (p q : Bool) → (p && q) ≡ true → (p ≡ true) × (q ≡ true)
both true true e = (refl, refl)
both true false e = absurd (cc)
both false q e = absurd (cc)

above : (m n : ℕ) → m ≤ n → nat_le m n ≡ true
above m n le = elim (leb_tells m n) as (λ _. nat_le m n ≡ true) [
  | inl t ↦ t.0
  | inr t ↦ absurd (omega (arith, le, t.1))
]

-- ---- a first frame

goes_first : (uses : Uses) (frame : OwnFrame) → frame.tail.start ≡ true →
    goes_by uses frame ≡ has_rested frame.now (uses.last frame.tail.id)
goes_first uses frame first = rw first refl

late : (now since : ℕ) (last : Option ℕ) → last ≡ Some since → has_rested now last ≡ true → since + between_uses ≤ now
late now since last is free = leb-true (since + between_uses) now (sym (ap (has_rested now) is) ∙ free)

record Used (uses : Uses) (frame : OwnFrame) (id : ℕ) : Type 0 where
  first : frame.tail.start ≡ true
  goes : goes_by uses frame ≡ true
  same : frame.tail.id ≡ id

used : (uses : Uses) (frame : OwnFrame) (id : ℕ) → uses_id uses frame id ≡ true → Used uses frame id
used uses frame id is =
    let one = both frame.tail.start (goes_by uses frame && nat_eq frame.tail.id id) is in
    let two = both (goes_by uses frame) (nat_eq frame.tail.id id) one.1 in
    record { first = one.0; goes = two.0; same = eqb-true frame.tail.id id two.1 }

record Since (uses : Uses) (id now : ℕ) : Type 0 where
  at : ℕ
  is : uses.last id ≡ Some at
  later : now ≤ at

stays : (uses : Uses) (id now : ℕ) (frame : OwnFrame) → Since uses id now → Since (uses_behind uses frame) id now
stays uses id now frame since = by (uses_id uses frame id) refl where
  by : (is : Bool) → uses_id uses frame id ≡ is → Since (uses_behind uses frame) id now
  by false e = record { at = since.at; is = rw e since.is; later = since.later }
  by true e =
      let u = used uses frame id e in
      let le = since.later in
      let gone = late frame.now since.at (uses.last frame.tail.id) (ap uses.last u.same ∙ since.is)
      (sym (goes_first uses frame u.first) ∙ u.goes) in
      record { at = frame.now; is = rw e refl; later = omega (arith, le, gone) }

begun : (p q r : Bool) (a b : Option ℕ) → p ≡ true → q ≡ true → r ≡ true → (if p && (q && r) then a else b) ≡ a
begun true true true a b e f g = refl
begun true true false a b e f g = absurd (cc)
begun true false r a b e f g = absurd (cc)
begun false q r a b e f g = absurd (cc)

since_first : (id : ℕ) (x : OwnFrame) (between before : List OwnFrame) → IsFirstOf id x → goes_out before x ≡ true →
    Since (uses_by (between ++ x ∷ before)) id x.now
since_first id x [] before begins goes = record {
  at = x.now;
  is = begun x.tail.start (goes_out before x) (nat_eq x.tail.id id) (Some x.now) ((uses_by before).last id) begins.0 goes
      (eq-eqb x.tail.id id begins.1);
  later = omega (arith);
}
since_first id x (frame ∷ between) before begins goes =
    stays (uses_by (between ++ x ∷ before)) id x.now frame (since_first id x between before begins goes)

pub apart : (id : ℕ) (x y : OwnFrame) (between before : List OwnFrame) → IsFirstOf id x → IsFirstOf id y →
    goes_out before x ≡ true → goes_out (between ++ x ∷ before) y ≡ true → x.now + between_uses ≤ y.now
apart id x y between before begins begins_too goes goes_too =
    let uses = uses_by (between ++ x ∷ before) in
    let since = since_first id x between before begins goes in
    let le = since.later in
    let gone = late y.now since.at (uses.last y.tail.id) (ap uses.last begins_too.1 ∙ since.is)
    (sym (goes_first uses y begins_too.0) ∙ goes_too) in
    omega (arith, le, gone)

free_by : (before : List OwnFrame) (id now : ℕ) → WentOutBefore id now before →
    has_rested now ((uses_by before).last id) ≡ true
free_by [] id now all = refl
free_by (frame ∷ before) id now all = by (free_by before id now all.1) (uses_id (uses_by before) frame id) refl where
  by : has_rested now ((uses_by before).last id) ≡ true → (is : Bool) → uses_id (uses_by before) frame id ≡ is →
      has_rested now (if uses_id (uses_by before) frame id then Some frame.now else (uses_by before).last id) ≡ true
  by so_far false e = rw e so_far
  by so_far true e = let u = used (uses_by before) frame id e in
      rw e (above (frame.now + between_uses) now (all.0 (u.first, u.same) u.goes))

pub let_out : (before : List OwnFrame) (frame : OwnFrame) → frame.tail.start ≡ true →
    WentOutBefore frame.tail.id frame.now before → goes_out before frame ≡ true
let_out before frame first all =
    goes_first (uses_by before) frame first ∙ free_by before frame.tail.id frame.now all

-- ---- a frame behind a first one

goes_behind : (uses : Uses) (frame : OwnFrame) → frame.tail.start ≡ false →
    goes_by uses frame ≡ is_under_way uses.under_way frame.tail.id
goes_behind uses frame behind = rw behind refl

goes_on : (goes end : Bool) (own id : ℕ) → end ≡ false → own ≡ id →
    is_under_way (if goes && not end then Some own else None) id ≡ goes
goes_on goes true own id more same = absurd (cc)
goes_on true false own id more same = eq-eqb own id same
goes_on false false own id more same = refl

under_way_since : (id : ℕ) (x : OwnFrame) (inner before : List OwnFrame) → IsFirstOf id x → x.tail.end ≡ false →
    AreInner id inner → is_under_way (uses_by (inner ++ x ∷ before)).under_way id ≡ goes_out before x
under_way_since id x [] before begins more all = goes_on (goes_out before x) x.tail.end x.tail.id id more begins.1
under_way_since id x (frame ∷ inner) before begins more all =
    let uses = uses_by (inner ++ x ∷ before) in
    goes_on (goes_by uses frame) frame.tail.end frame.tail.id id all.1 all.2
    ∙ (goes_behind uses frame all.0 ∙ (ap (is_under_way uses.under_way) all.2
    ∙ under_way_since id x inner before begins more all.3))

pub whole : (id : ℕ) (x y : OwnFrame) (inner before : List OwnFrame) → IsFirstOf id x → x.tail.end ≡ false →
    AreInner id inner → y.tail.start ≡ false → y.tail.id ≡ id →
    goes_out (inner ++ x ∷ before) y ≡ goes_out before x
whole id x y inner before begins more all behind same =
    let uses = uses_by (inner ++ x ∷ before) in
    goes_behind uses y behind ∙ (ap (is_under_way uses.under_way) same
    ∙ under_way_since id x inner before begins more all)

went_on : (goes end : Bool) (own id : ℕ) → is_under_way (if goes && not end then Some own else None) id ≡ true →
    (goes ≡ true) × (end ≡ false) × (own ≡ id)
went_on true false own id is = (refl, refl, eqb-true own id is)
went_on true true own id is = absurd (cc)
went_on false end own id is = absurd (cc)

begun_by : (before : List OwnFrame) (id : ℕ) → is_under_way (uses_by before).under_way id ≡ true → GoesOnWith id before
begun_by [] id is = absurd (cc)
begun_by (frame ∷ before) id is = by (begun_by before id) frame.tail.start refl where
  found : (goes_by (uses_by before) frame ≡ true) × (frame.tail.end ≡ false) × (frame.tail.id ≡ id)
  found = went_on (goes_by (uses_by before) frame) frame.tail.end frame.tail.id id is

  by : (is_under_way (uses_by before).under_way id ≡ true → GoesOnWith id before) → (first : Bool) →
      frame.tail.start ≡ first → GoesOnWith id (frame ∷ before)
  by earlier true first = record {
    inner = [];
    first = frame;
    earlier = before;
    split = refl;
    begins = (first, found.2);
    more = found.1;
    went_out = found.0;
    between = tt;
  }
  by earlier false first =
      let so_far = earlier (sym (ap (is_under_way (uses_by before).under_way) found.2)
      ∙ (sym (goes_behind (uses_by before) frame first) ∙ found.0)) in
      record {
        inner = frame ∷ so_far.inner;
        first = so_far.first;
        earlier = so_far.earlier;
        split = ap (λ (l : List OwnFrame). frame ∷ l) so_far.split;
        begins = so_far.begins;
        more = so_far.more;
        went_out = so_far.went_out;
        between = (first, found.1, found.2, so_far.between);
      }

pub goes_on_with : (before : List OwnFrame) (frame : OwnFrame) → frame.tail.start ≡ false →
    goes_out before frame ≡ true → GoesOnWith frame.tail.id before
goes_on_with before frame behind goes =
    begun_by before frame.tail.id (sym (goes_behind (uses_by before) frame behind) ∙ goes)

-- ---- what a link keeps

none_of : (count id : ℕ) → last_out (replicate count None) id ≡ None
none_of zero id = refl
none_of (suc n) zero = refl
none_of (suc n) (suc id) = none_of n id

pub none_out : StandForUses (replicate 32 None) None []
none_out = record { each = none_of 32; other = refl }

noted_is : (first goes : Bool) (own now id : ℕ) (all : List (Option ℕ)) (old : Option ℕ) → first ≡ true →
    own < length all → last_out all id ≡ old →
    last_out (with_use own now goes all) id ≡ (if first && (goes && nat_eq own id) then Some now else old)
noted_is false goes own now id all old is within same = absurd (cc)
noted_is true false own now id all old is within same = same
noted_is true true own now id all old is within same = elim (eqb_tells own id)
    as (λ _. last_out (with_use own now true all) id ≡ (if nat_eq own id then Some now else old)) [
      | inl t ↦ rw (t.0) (subst (λ (j : ℕ). slice_index_or (slice_set all own (Some now)) j None ≡ Some now) t.1
          (get_or-set_same all own (Some now) None within))
      | inr t ↦ rw (t.0) (get_or-set_other all own id (Some now) None (λ e. t.1 (sym e)) ∙ same)
    ]

not_noted : (first second : Bool) (a b : Option ℕ) → first ≡ false → b ≡ (if first && second then a else b)
not_noted false second a b is = refl
not_noted true second a b is = absurd (cc)

module _ {C : Type 0} (readings : C → Option (List ℕ)) (clock_old clock : C) (last_old last : List (Option ℕ))
    (under_way_old under_way : Option ℕ) (before : List OwnFrame) (tail : Tail) (goes : Bool)
    (stand : StandForUses last_old under_way_old before) (size : length last_old ≡ 32) (small : tail.id < 32)
    (spaced : GoesSpaced readings clock_old clock last_old last under_way_old under_way (Some tail) goes) where
  within : tail.id < length last_old
  within = subst (λ (n : ℕ). tail.id < n) (sym size) small

  goes_as : (start : Bool) → tail.start ≡ start →
      FrameGoes readings clock_old clock last_old last under_way_old tail.id start goes
  goes_as start is =
      subst (λ (b : Bool). FrameGoes readings clock_old clock last_old last under_way_old tail.id b goes) is spaced.0

  handed_in : (start : Bool) → tail.start ≡ start → IsHandedIn readings clock_old clock last under_way before tail goes
  handed_in true first =
      let f = goes_as true first in
      let frame : OwnFrame = record { now = f.0; tail = tail } in
      let went : goes ≡ goes_out before frame = f.2
      ∙ (ap (has_rested f.0) (stand.each tail.id) ∙ sym (goes_first (uses_by before) frame first)) in
      record {
        now = f.0;
        reads = λ _. f.1;
        stands = record {
          each = λ id. ap (λ (l : List (Option ℕ)). last_out l id) f.3
              ∙ (ap (λ (g : Bool). last_out (with_use tail.id f.0 g last_old) id) went
              ∙ noted_is tail.start (goes_out before frame) tail.id f.0 id last_old ((uses_by before).last id) first within
              (stand.each id));
          other = spaced.1 ∙ ap (under_way_behind tail) went;
        };
        went = went;
      }
  handed_in false first =
      let f = goes_as false first in
      let frame : OwnFrame = record { now = 0; tail = tail } in
      let went : goes ≡ goes_out before frame = f.0
      ∙ (ap (λ (u : Option ℕ). is_under_way u tail.id) stand.other
      ∙ sym (goes_behind (uses_by before) frame first)) in
      record {
        now = 0;
        reads = λ e. absurd (cc (first, e));
        stands = record {
          each = λ id. ap (λ (l : List (Option ℕ)). last_out l id) f.2 ∙ (stand.each id
              ∙ not_noted tail.start (goes_out before frame && nat_eq tail.id id) (Some 0) ((uses_by before).last id) first);
          other = spaced.1 ∙ ap (under_way_behind tail) went;
        };
        went = went;
      }

  pub is_noted : IsHandedIn readings clock_old clock last under_way before tail goes
  is_noted = handed_in tail.start refl
