-- The identifiers of transfers that members make, and of frames that a server wants.
use Rattle.std.proofs.Common.{◌≡◌, ◌⊎◌, ℕ, ◌≤◌, Bool, true, false, refl, sym, ◌∙◌, ap, subst, arith, inl, inr}
use Rattle.std.specs.Prelude.{List, Option, Some, None, Result, Ok, Err, cond, not, ◌&&◌, ◌||◌, if◌then◌else◌, nat_eq}
use Rattle.std.proofs.lemmas.Bool.Decides.{eqb_tells}
use Rattle.can_frame.specs.declared.identifier.Ident.{Ident}
use Rattle.can_frame.specs.declared.identifier.Kind.{Kind}
use Rattle.can_frame.specs.declared.identifier.Kind.TheVariants.{Message, Anonymous, Request, Response}
use Rattle.can_frame.specs.declared.step.What.{What}
use Rattle.can_frame.specs.declared.step.What.TheVariants.{Alloc, Disc, Stat, InfoQ, Info, VoteQ, Vote, AppQ, App}
use Rattle.can_frame.specs.declared.step.Why.{Why}
use Rattle.can_frame.specs.declared.step.Why.TheVariants.{NotWanted}
use Rattle.can_frame.specs.Identifier.{IsIdentifier, identifier_of}
use Rattle.can_frame.specs.Kinds.{is_service}
use Rattle.transfer_rx.specs.declared.accept.AcceptRow.{AcceptRow}
use Rattle.transfer_rx.specs.declared.accept.Wanted.{Wanted}
use Rattle.transfer_rx.specs.declared.key.Key.{Key}
use Rattle.transfer_rx.specs.Acceptance.{accepted, first_signature, is_for, wanted, with_signature}
use Rattle.transfer_rx.specs.Keys.{same_key, same_kind}
use Rattle.alloc_spec_laws.specs.Sound.{IsDestination}
use Rattle.alloc_spec.specs.Accepted.{rows}
use Rattle.alloc_spec.specs.Transfers.{ident_of, kind_of, number_of}
use Rattle.bus_agreement.proofs.Lists.{both, equal, never}

-- ---- what a member sends

pub ident_ok : (n : ℕ) (what : What) (to : ℕ) → 1 ≤ n → n ≤ 125 → IsDestination (kind_of what) to → IsIdentifier (ident_of n what to)
ident_ok n Alloc to low high at = record { priority = omega arith; source = omega arith; dest = omega arith; by_kind = (omega arith, omega arith, at, refl) }
ident_ok n Disc to low high at = record { priority = omega arith; source = omega arith; dest = omega arith; by_kind = (omega arith, omega arith, at, refl) }
ident_ok n Stat to low high at = record { priority = omega arith; source = omega arith; dest = omega arith; by_kind = (omega arith, omega arith, at, refl) }
ident_ok n InfoQ to low high at = record { priority = omega arith; source = omega arith; dest = omega (arith, at.1); by_kind = (omega arith, omega arith, omega (arith, at.0), refl) }
ident_ok n Info to low high at = record { priority = omega arith; source = omega arith; dest = omega (arith, at.1); by_kind = (omega arith, omega arith, omega (arith, at.0), refl) }
ident_ok n VoteQ to low high at = record { priority = omega arith; source = omega arith; dest = omega (arith, at.1); by_kind = (omega arith, omega arith, omega (arith, at.0), refl) }
ident_ok n Vote to low high at = record { priority = omega arith; source = omega arith; dest = omega (arith, at.1); by_kind = (omega arith, omega arith, omega (arith, at.0), refl) }
ident_ok n AppQ to low high at = record { priority = omega arith; source = omega arith; dest = omega (arith, at.1); by_kind = (omega arith, omega arith, omega (arith, at.0), refl) }
ident_ok n App to low high at = record { priority = omega arith; source = omega arith; dest = omega (arith, at.1); by_kind = (omega arith, omega arith, omega (arith, at.0), refl) }

-- the type of a transfer of members, by kind and number
what_at : Kind → ℕ → What
what_at Message number = if nat_eq number 1 then Alloc else (if nat_eq number 390 then Disc else Stat)
what_at Request number = if nat_eq number 1 then InfoQ else (if nat_eq number 30 then AppQ else VoteQ)
what_at Response number = if nat_eq number 1 then Info else (if nat_eq number 30 then App else Vote)
what_at Anonymous number = Alloc

what_is : (what : What) → what_at (kind_of what) (number_of what) ≡ what
unfolding what_at
what_is Alloc = refl
what_is Disc = refl
what_is Stat = refl
what_is InfoQ = refl
what_is Info = refl
what_is VoteQ = refl
what_is Vote = refl
what_is AppQ = refl
what_is App = refl

pub one_what : (a b : What) (kind : Kind) (number : ℕ) → kind_of a ≡ kind → kind_of b ≡ kind → number_of a ≡ number → number_of b ≡ number → a ≡ b
one_what a b kind number ka kb na nb =
    sym (what_is a) ∙ (ap (λ (k : Kind). what_at k (number_of a)) (ka ∙ sym kb) ∙ (ap (λ (n : ℕ). what_at (kind_of b) n) (na ∙ sym nb) ∙ what_is b))

-- ---- what a server wants

abbrev answered : Wanted → Result Wanted Why
answered x = Ok x

ok_is : (x y : Wanted) → answered x ≡ answered y → x ≡ y
ok_is x y e = cc (e)

-- a frame that is wanted has an identifier, and is for the receiver
pub record IsWanted (list : List AcceptRow) (me id : ℕ) (ident : Ident) : Type 0 where
  pub read : identifier_of id ≡ Some ident
  pub for_me : is_for me ident ≡ true
  pub signature : (s : ℕ) × (first_signature list ident.kind ident.number ≡ Some s)

module _ (list : List AcceptRow) (me id : ℕ) (w : Wanted) where
  by_signature : (ident : Ident) (s : Option ℕ) → first_signature list ident.kind ident.number ≡ s → identifier_of id ≡ Some ident
      → (b : Bool) → is_for me ident ≡ b → cond b (with_signature ident s) (Err NotWanted) ≡ Ok w → IsWanted list me id w.ident
  by_signature ident None f read true own e = absurd (cc (e))
  by_signature ident (Some s) f read true own e =
      let same : ident ≡ w.ident = ap (λ (x : Wanted). x.ident) (ok_is (record { ident = ident; signature = s }) w e) in
      subst (λ (i : Ident). IsWanted list me id i) same (record { read = read; for_me = own; signature = (s, f) })
  by_signature ident s f read false own e = absurd (cc (e))

  by_ident : (o : Option Ident) → identifier_of id ≡ o → accepted list me o ≡ Ok w → IsWanted list me id w.ident
  by_ident None read e = absurd (cc (e))
  by_ident (Some ident) read e = by_signature ident (first_signature list ident.kind ident.number) refl read (is_for me ident) refl e

  pub wanted_is : wanted list me id ≡ Ok w → IsWanted list me id w.ident
  unfolding wanted
  wanted_is e = by_ident (identifier_of id) refl e

-- where a transfer of this kind goes that the server hears
abbrev pub to_for : Kind → ℕ → ℕ
to_for Message me = 0
to_for Anonymous me = 0
to_for Request me = me
to_for Response me = me

module _ (me : ℕ) (low : 1 ≤ me) where
  is_me : (service source : Bool) (dest : ℕ) → service ≡ true → (nat_eq me 0 || (not (service && not (nat_eq dest me)) && not source)) ≡ true → dest ≡ me
  is_me service source dest is e = elim (eqb_tells me 0) [
    | inl zero_ ↦ absurd (omega (arith, zero_.1))
    | inr some ↦ by (nat_eq dest me) refl (rw (some.0, is) at e)
  ]
    where
      by : (b : Bool) → nat_eq dest me ≡ b → (not (true && not b) && not source) ≡ true → dest ≡ me
      by true same f = equal dest me same
      by false same f = never f

  pub service_is : (ident : Ident) → is_service ident.kind ≡ true → is_for me ident ≡ true → ident.dest ≡ me
  service_is ident is e = is_me (is_service ident.kind) (nat_eq ident.source me) ident.dest is e

  pub dest_is : (n : ℕ) (what : What) (to : ℕ) → IsDestination (kind_of what) to → is_for me (ident_of n what to) ≡ true → to ≡ to_for (kind_of what) me
  dest_is n Alloc to at e = at
  dest_is n Disc to at e = at
  dest_is n Stat to at e = at
  dest_is n InfoQ to at e = is_me true (nat_eq n me) to refl e
  dest_is n Info to at e = is_me true (nat_eq n me) to refl e
  dest_is n VoteQ to at e = is_me true (nat_eq n me) to refl e
  dest_is n Vote to at e = is_me true (nat_eq n me) to refl e
  dest_is n AppQ to at e = is_me true (nat_eq n me) to refl e
  dest_is n App to at e = is_me true (nat_eq n me) to refl e

-- so does a message, whoever hears it
pub dest_of : (me n : ℕ) (what : What) (to : ℕ) → (1 ≤ me) ⊎ (kind_of what ≡ Message) → IsDestination (kind_of what) to
    → is_for me (ident_of n what to) ≡ true → to ≡ to_for (kind_of what) me
dest_of me n what to (inl low) at e = dest_is me low n what to at e
dest_of me n what to (inr broadcast) at e = subst (λ (k : Kind). IsDestination k to → to ≡ to_for k me) (sym broadcast) (λ zero_. zero_) at

-- ---- keys

kinds : (a b : Kind) → same_kind a b ≡ true → a ≡ b
kinds Message Message e = refl
kinds Anonymous Anonymous e = refl
kinds Request Request e = refl
kinds Response Response e = refl
kinds Message Anonymous e = never e
kinds Message Request e = never e
kinds Message Response e = never e
kinds Anonymous Message e = never e
kinds Anonymous Request e = never e
kinds Anonymous Response e = never e
kinds Request Message e = never e
kinds Request Anonymous e = never e
kinds Request Response e = never e
kinds Response Message e = never e
kinds Response Anonymous e = never e
kinds Response Request e = never e

-- keys that are the same have the same fields
pub record AreSame (a b : Key) : Type 0 where
  pub kind : a.kind ≡ b.kind
  pub number : a.number ≡ b.number
  pub source : a.source ≡ b.source

pub keys : (a b : Key) → same_key a b ≡ true → AreSame a b
keys a b e =
    let first = both (same_kind a.kind b.kind) (nat_eq a.number b.number && nat_eq a.source b.source) e in
    let second = both (nat_eq a.number b.number) (nat_eq a.source b.source) first.1 in record {
      kind = kinds a.kind b.kind first.0;
      number = equal a.number b.number second.0;
      source = equal a.source b.source second.1;
    }

-- of the messages that are received only NodeStatus, 341, is no Discovery, 390
pub discovery_number : (number : ℕ) (s : ℕ) → first_signature rows Message number ≡ Some s → nat_eq number 341 ≡ false → number ≡ 390
unfolding rows
discovery_number number s e other = elim (eqb_tells 341 number) [
  | inl same ↦ never (sym other ∙ eq_to number 341 (sym same.1))
  | inr apart ↦ elim (eqb_tells 390 number) [
    | inl same ↦ sym same.1
    | inr differ ↦ absurd (cc (rw (apart.0, differ.0) at e))
  ]
]
  where
    eq_to : (a b : ℕ) → a ≡ b → nat_eq a b ≡ true
    eq_to a b e = elim (eqb_tells a b) [ inl is ↦ is.0 | inr not_so ↦ absurd (not_so.1 e) ]
