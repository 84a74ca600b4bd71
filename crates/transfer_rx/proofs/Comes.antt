-- The session that a frame comes to, in the code and in the definition.
use Rattle.std.proofs.Common.{◌≡◌, ℕ, ◌<◌, true, false, Bool, List, [], length, get_or, cond, nat_lt, refl, sym, ap, ◌∙◌, arith, inl, inr, subst}
use Rattle.std.specs.Prelude.{Option, None, Some, Result, Ok, Err, is_some}
use Rattle.std.proofs.lemmas.Bool.{cases_Bool, lt-ltb, le-ltb}
use Rattle.can_frame.specs.declared.step.Why.{Why}
use Rattle.can_frame.specs.declared.step.Why.TheVariants.{NoSession, Start}
use Rattle.can_frame.specs.declared.tail.Tail.{Tail}
use Rattle.can_frame.specs.Cutting.{Piece}
use Rattle.transfer_rx.specs.declared.key.Key.{Key}
use Rattle.transfer_rx.specs.declared.progress.Progress.{Progress}
use Rattle.transfer_rx.specs.declared.progress.Found.{Found}
use Rattle.transfer_rx.specs.Chains.{is_of_key}
use Rattle.transfer_rx.specs.Keys.{same_key}
use Rattle.transfer_rx.specs.Places.{Arranged, IsSearchResult, IsSessionOfKey, IsSessionAtPlace, Places, has_key, is_free, kept}
use Rattle.transfer_rx.specs.Sessions.{Session, begun, continued, is_recent, new_session, restarted_session, restarts, session_for, session_of}
use Rattle.transfer_rx.specs.Progress.{IsProgressAt, IsProgressOf}
use Rattle.transfer_rx.proofs.Arrangement.{there}
use Rattle.transfer_rx.specs.Turns.{ComesTo}
use Rattle.transfer_rx.proofs.Found.{found-key}

-- ---- a place that was looked at

pub free_here : (recent : Option Progress) (bytes : List ℕ) (there : Option Session) → IsProgressAt recent bytes there → is_some recent ≡ false → there ≡ None
free_here None bytes None h t = refl
free_here None bytes (Some session) h t = absurd h
free_here (Some progress) bytes there h t = absurd cc

pub taken_here : (recent : Option Progress) (bytes : List ℕ) (there : Option Session) → IsProgressAt recent bytes there → is_some recent ≡ true → is_free there ≡ false
taken_here None bytes there h t = absurd cc
taken_here (Some progress) bytes None h t = absurd h
taken_here (Some progress) bytes (Some session) h t = refl

-- a session that is kept at a place is there
module _ (bytes : List (List ℕ)) (key : Key) (places : Places) (place : ℕ) (progress : Progress) (same : progress.key ≡ key) where
  there_as : (there : Option Session) → get_or places place None ≡ there → IsProgressAt (Some progress) (get_or bytes place []) there →
      IsSessionAtPlace bytes key places (record { place = place; progress = progress })
  there_as None is keeps = absurd keeps
  there_as (Some session) is keeps = record { session = session; there = is; own = sym keeps.key ∙ same; keeps = keeps }

  pub at_place : IsProgressAt (Some progress) (get_or bytes place []) (get_or places place None) →
      IsSessionAtPlace bytes key places (record { place = place; progress = progress })
  at_place keeps = there_as (get_or places place None) refl keeps

-- where the session of another key stands, or none, there is none of this key
pub of_other : (key : Key) (now : ℕ) (p : Option Progress) (bytes : List ℕ) (there : Option Session) → IsProgressAt p bytes there →
    is_of_key key p ≡ false → has_key key (kept now there) ≡ false
of_other key now None bytes None h other = refl
of_other key now None bytes (Some session) h other = absurd h
of_other key now (Some p) bytes None h other = absurd h
of_other key now (Some p) bytes (Some session) h other =
    let own : same_key key session.key ≡ false = subst (λ k. same_key key k ≡ false) h.key other in
    elim (cases_Bool (is_recent now session)) [
      | inl t ↦ let t' : is_recent now session ≡ true = t in rw t' own
      | inr f ↦ let f' : is_recent now session ≡ false = f in rw f' refl
    ]

pub own_found : (bytes : List (List ℕ)) (key : Key) (places : Places) (sessions : List Session) (found : Found) → Arranged places sessions →
    found.place < length places → IsSessionAtPlace bytes key places found → IsSessionOfKey bytes key places sessions found
own_found bytes key places sessions found a l at =
    let own : session_of key sessions ≡ Some at.session =
    subst (λ k. session_of k sessions ≡ Some at.session) at.own (there places sessions found.place at.session a.at at.there) in
    record {
      session = at.session;
      own = own;
      finds = record { place = record { present = l; same = at.there ∙ sym own }; keeps = at.keeps };
    }

-- ---- the four ways

module _ (most : ℕ) (bytes : List (List ℕ)) (key : Key) (tail : Tail) (now : ℕ) (places : Places) (sessions : List Session) where
  pub as_found : (found : Found) (progress : Progress) → IsSessionOfKey bytes key places sessions found →
      ((b : List ℕ) (session : Session) → IsProgressOf found.progress b session → IsProgressOf progress b (restarted_session tail session)) →
      IsSearchResult bytes key places sessions (Ok (record { place = found.place; progress = progress })) (session_for most key tail now sessions)
  unfolding session_for
  as_found found progress own f =
      let e : session_of key sessions ≡ Some own.session = own.own in
      rw e (record { place = record { present = own.finds.place.present; same = own.finds.place.same }; keeps = f _ own.session own.finds.keeps })

  of_none : session_of key sessions ≡ None → session_for most key tail now sessions ≡ begun most key tail now sessions
  unfolding session_for
  of_none none = ap (continued most key tail now sessions) none

  pub no_start : session_of key sessions ≡ None → tail.start ≡ false → session_for most key tail now sessions ≡ Err Start
  no_start none f =
      of_none none ∙ ap (λ start. cond start (cond (nat_lt (length sessions) most) (Ok (new_session key tail now)) (Err NoSession)) (Err Start)) f

  pub no_room : session_of key sessions ≡ None → tail.start ≡ true → length sessions ≡ most → session_for most key tail now sessions ≡ Err NoSession
  no_room none t full =
      let f : nat_lt (length sessions) most ≡ false = le-ltb _ _ (omega arith) in
      of_none none ∙ ap (λ start. cond start (cond (nat_lt (length sessions) most) (Ok (new_session key tail now)) (Err NoSession)) (Err Start)) t
      ∙ ap (λ room. cond room (Ok (new_session key tail now)) (Err NoSession)) f

  pub opens : session_of key sessions ≡ None → tail.start ≡ true → length sessions < most → session_for most key tail now sessions ≡ Ok (new_session key tail now)
  opens none t room =
      let f : nat_lt (length sessions) most ≡ true = lt-ltb _ _ room in
      of_none none ∙ ap (λ start. cond start (cond (nat_lt (length sessions) most) (Ok (new_session key tail now)) (Err NoSession)) (Err Start)) t
      ∙ ap (λ room. cond room (Ok (new_session key tail now)) (Err NoSession)) f

  pub as_dropped : (why : Why) → session_for most key tail now sessions ≡ Err why → IsSearchResult bytes key places sessions (Err why) (session_for most key tail now sessions)
  as_dropped why e = subst (λ r. IsSearchResult bytes key places sessions (Err why) r) (sym e) refl

  pub as_opened : (place : ℕ) (progress : Progress) → session_of key sessions ≡ None → tail.start ≡ true → length sessions < most →
      place < length places → get_or places place None ≡ None → ((b : List ℕ) → IsProgressOf progress b (new_session key tail now)) →
      IsSearchResult bytes key places sessions (Ok (record { place = place; progress = progress })) (session_for most key tail now sessions)
  as_opened place progress none t room present free f =
      subst (λ r. IsSearchResult bytes key places sessions (Ok (record { place = place; progress = progress })) r) (sym (opens none t room))
      (record { place = record { present = present; same = free ∙ sym none }; keeps = f _ })

-- ---- a turn

from_ok : (most : ℕ) (bytes : List (List ℕ)) (key : Key) (piece : Piece) (now : ℕ) (places : Places) (sessions : List Session) (found : Found) (r : Result Session Why) →
    session_for most key piece.tail now sessions ≡ r → IsSearchResult bytes key places sessions (Ok found) r → ComesTo most bytes key piece now places sessions found
from_ok most bytes key piece now places sessions found (Ok session) e h = record { session = session; there = e; finds = h }
from_ok most bytes key piece now places sessions found (Err why) e h = absurd h

pub comes : (most : ℕ) (bytes : List (List ℕ)) (key key' : Key) (piece : Piece) (tail : Tail) (now : ℕ) (places : Places) (sessions : List Session) (found : Found) →
    key' ≡ key → tail ≡ piece.tail → IsSearchResult bytes key' places sessions (Ok found) (session_for most key' tail now sessions) →
    ComesTo most bytes key piece now places sessions found
comes most bytes key key' piece tail now places sessions found k t h =
    from_ok most bytes key piece now places sessions found (session_for most key piece.tail now sessions) refl
    (subst (λ x. IsSearchResult bytes key places sessions (Ok found) (session_for most key x now sessions)) t
    (subst (λ x. IsSearchResult bytes x places sessions (Ok found) (session_for most x tail now sessions)) k h))

-- ---- the session keeps its key

abbrev as_session : Session → Result Session Why
as_session session = Ok session

restarted-key : (tail : Tail) (session : Session) (restart : Bool) →
    (cond restart (record session { expected = tail.id; taken = []; marks = [] }) session).key ≡ session.key
restarted-key tail session true = refl
restarted-key tail session false = refl

begun-key : (most : ℕ) (key : Key) (tail : Tail) (now : ℕ) (sessions : List Session) (session : Session) (start room : Bool) →
    cond start (cond room (as_session (new_session key tail now)) (Err NoSession)) (Err Start) ≡ Ok session → session.key ≡ key
begun-key most key tail now sessions session true true h = let e : new_session key tail now ≡ session = cc in ap (λ (x : Session). x.key) (sym e)
begun-key most key tail now sessions session true false h = absurd cc
begun-key most key tail now sessions session false room h = absurd cc

pub for-key : (most : ℕ) (key : Key) (tail : Tail) (now : ℕ) (sessions : List Session) (session : Session) →
    session_for most key tail now sessions ≡ Ok session → session.key ≡ key
unfolding session_for
for-key most key tail now sessions session h = go (session_of key sessions) refl h where
  go : (o : Option Session) → session_of key sessions ≡ o → continued most key tail now sessions o ≡ Ok session → session.key ≡ key
  go None e r = begun-key most key tail now sessions session tail.start (nat_lt (length sessions) most) r
  go (Some own) e r =
      let same : restarted_session tail own ≡ session = cc in
      ap (λ (x : Session). x.key) (sym same) ∙ restarted-key tail own (restarts tail own) ∙ found-key key sessions own e
