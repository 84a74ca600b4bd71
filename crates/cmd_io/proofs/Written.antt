-- What a sink has, while pieces are written one behind the other.
use Rattle.std.proofs.Common.{◌≡◌, ℕ, List, [], ◌∷◌, ◌++◌, Some, None, Result, Ok, Err, refl, sym, ap, ◌∙◌, subst, append_assoc, append-nil, take, drop, take-append-drop}
use Rattle.std.proofs.lemmas.Bool.{true≢false}
use Rattle.std.specs.declared.option.Option.{Option}
use Rattle.std.specs.Io.KnownBytes.{Appends, append_known}
use Rattle.std.proofs.KnownBytes.{Appends-nil, Appends-trans}
use Rattle.std.specs.Prelude.{IsOk, IsErr, OnOk, OnErr}
use Rattle.outside.specs.declared.failed.Failed.{Failed}
use Rattle.cmd_io.specs.Output.{Grows, Writes, WritesFront, WritesLast}

pub grows-refl : (a : Option (List ℕ)) → Grows a a
grows-refl a = ([], Appends-nil a)

pub grows-trans : (a b c : Option (List ℕ)) → Grows a b → Grows b c → Grows a c
grows-trans a b c p q = (p.0 ++ q.0, Appends-trans a b c p.0 q.0 p.1 q.1)

pub grows-appended : (a b : Option (List ℕ)) (piece : List ℕ) → Appends a b piece → Grows a b
grows-appended a b piece h = (piece, h)

pub grows-front : (a b : Option (List ℕ)) (piece : List ℕ) → WritesFront a b piece → Grows a b
grows-front a b piece h = (h.0, h.3)

-- a front of a piece is one of a longer piece
pub front-of_more : (a b : Option (List ℕ)) (piece more : List ℕ) → WritesFront a b piece → WritesFront a b (piece ++ more)
front-of_more a b piece more h = (h.0, h.1 ++ more, ap (λ l. l ++ more) h.2 ∙ append_assoc h.0 h.1 more, h.3)

cancel : (x l m : List ℕ) → x ++ l ≡ x ++ m → l ≡ m
cancel [] l m e = e
cancel (y ∷ x) l m e = cancel x l m cc

-- a piece was written behind what waited, or waits; then a front of what waits, and of more, was written
pub front-on : (a b c : Option (List ℕ)) (waited waits piece more : List ℕ) → Grows a b →
    Appends (append_known a waited) (append_known b waits) piece → WritesFront b c (waits ++ more) → WritesFront a c (waited ++ (piece ++ more))
front-on None b c waited waits piece more g p h = ([], waited ++ (piece ++ more), refl, tt)
front-on (Some x) None c waited waits piece more g p h = absurd g.1
front-on (Some x) (Some y) None waited waits piece more g p h = absurd h.3
front-on (Some x) (Some y) (Some z) waited waits piece more g p h =
    let same : x ++ (g.0 ++ waits) ≡ x ++ (waited ++ piece) =
    sym (append_assoc x g.0 waits) ∙ sym (ap (λ l. l ++ waits) g.1) ∙ p ∙ append_assoc x waited piece in
    let all : waited ++ (piece ++ more) ≡ g.0 ++ (waits ++ more) =
    sym (append_assoc waited piece more) ∙ sym (ap (λ l. l ++ more) (cancel x _ _ same)) ∙ append_assoc g.0 waits more in (
      g.0 ++ h.0,
      h.1,
      all ∙ ap (λ l. g.0 ++ l) h.2 ∙ sym (append_assoc g.0 h.0 h.1),
      h.3 ∙ ap (λ l. l ++ h.0) g.1 ∙ append_assoc x g.0 h.0,
    )

-- the same where nothing waited
pub front-behind : (a b c : Option (List ℕ)) (waits piece more : List ℕ) → Grows a b →
    Appends a (append_known b waits) piece → WritesFront b c (waits ++ more) → WritesFront a c (piece ++ more)
front-behind None b c waits piece more g p h = ([], piece ++ more, refl, tt)
front-behind (Some x) None c waits piece more g p h = absurd g.1
front-behind (Some x) (Some y) None waits piece more g p h = absurd h.3
front-behind (Some x) (Some y) (Some z) waits piece more g p h =
    front-on (Some x) (Some y) (Some z) [] waits piece more g (p ∙ ap (λ l. l ++ piece) (sym (append-nil x))) h

-- what waited was written
pub flushed : (a b c : Option (List ℕ)) (waiting l : List ℕ) → Appends a (append_known b waiting) l → Appends b c waiting → Appends a c l
flushed None b c waiting l p q = tt
flushed (Some x) None c waiting l p q = absurd p
flushed (Some x) (Some y) None waiting l p q = absurd q
flushed (Some x) (Some y) (Some z) waiting l p q = q ∙ p

-- ---- by what became of it

module _ {T E : Type 0} where
  pub on_err : {A : Type 0} (result : Result T E) → A → OnErr result A
  on_err (Ok x) a = tt
  on_err (Err e) a = a

  pub writes-nothing : (a : Option (List ℕ)) (waited : List ℕ) (result : Result T E) → IsOk result → Writes a waited a waited [] result
  writes-nothing a waited (Ok x) done = record { ok = Appends-nil (append_known a waited); grew = grows-refl a; err = tt }
  writes-nothing a waited (Err e) done = absurd (true≢false (sym done))

  pub writes-failed : (a b : Option (List ℕ)) (waited waits piece : List ℕ) (result : Result T E) → IsErr result →
      WritesFront a b (waited ++ piece) → Writes a waited b waits piece result
  writes-failed a b waited waits piece (Ok x) failed front = absurd (true≢false (sym failed))
  writes-failed a b waited waits piece (Err e) failed front = record { ok = tt; grew = grows-front a b (waited ++ piece) front; err = front }

  pub last-failed : (a b : Option (List ℕ)) (waited piece : List ℕ) (result : Result T E) → IsErr result → WritesFront a b (waited ++ piece) →
      WritesLast a waited b piece result
  last-failed a b waited piece (Ok x) failed front = absurd (true≢false (sym failed))
  last-failed a b waited piece (Err e) failed front = record { ok = tt; err = front }

  -- one piece behind another
  pub writes-then : (a b c : Option (List ℕ)) (waited mid waits piece more : List ℕ) (result : Result T E) → Grows a b →
      Appends (append_known a waited) (append_known b mid) piece → Writes b mid c waits more result → Writes a waited c waits (piece ++ more) result
  writes-then a b c waited mid waits piece more (Ok x) grew wrote then = record {
    ok = Appends-trans (append_known a waited) (append_known b mid) (append_known c waits) piece more wrote then.ok;
    grew = grows-trans a b c grew then.grew;
    err = tt;
  }
  writes-then a b c waited mid waits piece more (Err e) grew wrote then = record {
    ok = tt;
    grew = grows-trans a b c grew then.grew;
    err = front-on a b c waited mid piece more grew wrote then.err;
  }

  pub last-then : (a b c : Option (List ℕ)) (waited mid piece more : List ℕ) (result : Result T E) → Grows a b →
      Appends (append_known a waited) (append_known b mid) piece → WritesLast b mid c more result → WritesLast a waited c (piece ++ more) result
  last-then a b c waited mid piece more (Ok x) grew wrote then = record {
    ok = Appends-trans (append_known a waited) (append_known b mid) c piece more wrote then.ok;
    err = tt;
  }
  last-then a b c waited mid piece more (Err e) grew wrote then = record { ok = tt; err = front-on a b c waited mid piece more grew wrote then.err }

  pub last-flushed : (a b c : Option (List ℕ)) (waited mid piece : List ℕ) (result : Result T E) → Grows a b →
      Appends (append_known a waited) (append_known b mid) piece → OnOk result (Appends b c mid) → OnErr result (WritesFront b c mid) →
      WritesLast a waited c piece result
  last-flushed a b c waited mid piece (Ok x) grew wrote done failed = record { ok = flushed (append_known a waited) b c mid piece wrote done; err = tt }
  last-flushed a b c waited mid piece (Err e) grew wrote done failed = record {
    ok = tt;
    err = subst (λ l. WritesFront a c (waited ++ l)) (append-nil piece)
        (front-on a b c waited mid piece [] grew wrote (front-of_more b c mid [] failed));
  }

-- all that was to be written so far was
pub writes-so_far : (a b : Option (List ℕ)) (waited waits piece all : List ℕ) → piece ≡ all → Grows a b →
    Appends (append_known a waited) (append_known b waits) piece → Writes {T = Unit {0}} {E = Failed} a waited b waits all (Ok (tt {0}))
writes-so_far a b waited waits piece all same grew wrote = record {
  ok = subst (Appends (append_known a waited) (append_known b waits)) same wrote;
  grew = grew;
  err = tt;
}

-- a sink took so many bytes of the rest
pub more_written : (a b c : Option (List ℕ)) (piece front rest : List ℕ) (count : ℕ) →
    piece ≡ front ++ rest → Appends a b front → Appends b c (take count rest) →
    (more : List ℕ) × (piece ≡ more ++ drop count rest) × Appends a c more
more_written a b c piece front rest count e p q = (
  front ++ take count rest,
  e ∙ ap (λ r. front ++ r) (sym (take-append-drop count rest)) ∙ sym (append_assoc front (take count rest) (drop count rest)),
  Appends-trans a b c front (take count rest) p q,
)
