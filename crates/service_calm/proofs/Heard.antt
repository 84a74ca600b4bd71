-- A transfer that is sent in a calm comes whole, within two delays.
use Rattle.std.proofs.Common.{◌≡◌, ℕ, ◌+◌, ◌*◌, ◌<◌, ◌≤◌, false, true, List, [], ◌∷◌, ◌++◌, append_assoc, refl, sym, ◌∙◌, ap, subst, arith, inl, inr}
use Rattle.std.specs.Prelude.{◌⊎◌, drop, slice_index_or, Ok, Some}
use Rattle.can_frame.specs.declared.identifier.Kind.TheVariants.{Message}
use Rattle.can_frame.specs.declared.step.What.{What}
use Rattle.can_frame.specs.Identifier.{identifier_number}
use Rattle.can_frame.specs.Kinds.{is_anonymous}
use Rattle.raft_model.specs.Lists.{In}
use Rattle.bus_rows.specs.declared.row.Row.{Row}
use Rattle.bus_rows.specs.declared.row.Row.TheVariants.{Send}
use Rattle.transfer_rx.specs.Acceptance.{is_for, wanted}
use Rattle.transfer_rx.specs.Sessions.{Session}
use Rattle.alloc_spec.specs.AllocatorState.{AllocatorState}
use Rattle.alloc_spec.specs.Step.{Event, after_pop, step}
use Rattle.alloc_spec.specs.Transfers.{Offer, SentTransfer, ident_of, kind_of, signature_of}
use Rattle.alloc_spec_laws.specs.Sound.{IsDestination, IsOnTheBus}
use Rattle.bus_agreement.proofs.Lists.{in_back}
use Rattle.bus_rows.specs.Timed.{Timed, rows_in}
use Rattle.service_alone.specs.Calm.{Pace, end_of}
use Rattle.service_calm.specs.Calm.{AreCalm, IsInTime, Member as OfMember, Party, Traffic, sends, traffic_after}
use Rattle.service_calm.specs.Comes.{Sends, Throughout, sent_by}
use Rattle.service_calm.proofs.Counting.{ones}
use Rattle.service_calm.proofs.Group.{AreWell, CalmLaws, IsServer, well_after}
use Rattle.service_calm.proofs.Hearers.{IsHearer}
use Rattle.service_calm.proofs.Pair.{AreShort, Chain, Expected, Next, Pair, next_row, not_late}
use Rattle.service_calm.proofs.Pending.{Coming, Made, Receiver}
use Rattle.bus_spec.specs.Cluster.{Cluster, after_row, after_rows, step_of}
use Rattle.bus_spec.specs.Members.MemberStatus.{Up}

in_split : {A : Type 0} (x : A) (xs : List A) → In x xs → (front : List A) × (back : List A) × (xs ≡ front ++ x ∷ back)
in_split x [] i = absurd i
in_split x (y ∷ ys) (inl e) = ([], ys, λ i. sym e i ∷ ys)
in_split x (y ∷ ys) (inr i) = let r = in_split x ys i in (y ∷ r.0, r.1, ap (λ l. y ∷ l) r.2)

-- who hears gets the transfer in one of these rows, by this moment
pub record GetsBy (Gets : SentTransfer → Cluster → Row → Type 0) (x : SentTransfer) (last : ℕ) (w : Cluster) (whole : List Timed) : Type 0 where
  pub front : List Timed
  pub timed : Timed
  pub rest : List Timed
  pub split : whole ≡ front ++ timed ∷ rest
  pub soon : timed.at ≤ last
  pub gets : Gets x (after_rows w (rows_in front)) timed.row

-- what comes in the rows behind one comes in all of them
behind_row : (Gets : SentTransfer → Cluster → Row → Type 0) (x : SentTransfer) (last : ℕ) (w : Cluster) (timed : Timed) (rest : List Timed)
    → GetsBy Gets x last (after_row w timed.row) rest → GetsBy Gets x last w (timed ∷ rest)
behind_row Gets x last w timed rest c = record {
  front = timed ∷ c.front;
  timed = c.timed;
  rest = c.rest;
  split = ap (λ (l : List Timed). timed ∷ l) c.split;
  soon = c.soon;
  gets = c.gets;
}

module _ (laws : CalmLaws) (group : List Party) (clocks : Party → ℕ) (pace : Pace) (nodes : (p : ℕ) → In (OfMember p) group → (1 ≤ p) × (p ≤ 125))
    (n : ℕ) (in_n : In (OfMember n) group) (party : Party) (in_party : In party group) (apart : sends (Send n) party ≡ false) (receiver : Receiver) (what : What) (to base : ℕ)
    (quick : 2 * pace.delay ≤ 2000) (dest : IsDestination (kind_of what) to) (known : is_anonymous (kind_of what) ≡ false)
    (some : (1 ≤ receiver.setting.me) ⊎ (kind_of what ≡ Message)) (for_it : is_for receiver.setting.me (ident_of n what to) ≡ true)
    (wants : (signature : ℕ) → signature ≡ signature_of what
    → wanted receiver.setting.rows receiver.setting.me (identifier_number (ident_of n what to)) ≡ Ok (record { ident = ident_of n what to; signature = signature }))
    (Begins : ℕ → Type 0) (Mode : AllocatorState → Expected → Type 0) (popped : (t : AllocatorState) (expected : Expected) → Mode t expected → Mode (after_pop t) expected)
    (Is : Cluster → List Session → ℕ → Type 0) (Gets : SentTransfer → Cluster → Row → Type 0) (HasMemory : Cluster → Type 0)
    (hearer : IsHearer group clocks pace n party receiver Is Gets HasMemory)
    (Follows : Expected → Cluster → List Timed → Type 0)
    (follow_step : (expected : Expected) (w : Cluster) (timed : Timed) (rest : List Timed) → Follows expected w (timed ∷ rest) → (t : AllocatorState)
    → (w.member n).status ≡ Up t → IsServer n t → Mode t expected → (event : Event) → step_of w timed.row ≡ Some (n, event) → IsOnTheBus event
    → (later : Expected) × Chain Begins expected (ones what to (step t (w.rows + 1) event).step_state.offers) later
    × Mode (step t (w.rows + 1) event).step_state.allocator later × Follows later (after_row w timed.row) rest)
    (follow_short : (expected : Expected) (w : Cluster) (timed : Timed) (rest : List Timed) → Follows expected w (timed ∷ rest) → (t : AllocatorState)
    → (w.member n).status ≡ Up t → IsServer n t → (event : Event) → step_of w timed.row ≡ Some (n, event)
    → AreShort receiver.longest (ones what to (step t (w.rows + 1) event).step_state.offers))
    (follow_pass : (expected : Expected) (w : Cluster) (timed : Timed) (rest : List Timed) → Follows expected w (timed ∷ rest)
    → ((offer : Offer) → Sends n w timed.row offer → ⊥) → Follows expected (after_row w timed.row) rest) where
  abbrev PairOf : Traffic → Cluster → List Made → List Coming → Expected → Type 0
  PairOf = Pair laws group clocks pace nodes n in_n party in_party apart receiver what to base quick dest known some for_it wants Begins Mode popped Is Gets HasMemory hearer

  module _ (traffic : Traffic) (w : Cluster) (xs : List Made) (front : List Coming) (expected : Expected) (pair : PairOf traffic w xs front expected) (timed : Timed)
      (in_time : IsInTime group clocks pace traffic w timed.at) where
    abbrev NextOf : List Timed → Type 0
    NextOf rest = Next laws group clocks pace nodes n in_n party in_party apart receiver what to base quick dest known some for_it wants Begins Mode popped Is Gets HasMemory hearer
        traffic w xs front expected pair timed.at in_time timed.row (λ e. Follows e (after_row w timed.row) rest)

    -- what the next row leaves under way
    row_leaves : (rest : List Timed) → Follows expected w (timed ∷ rest) → AreWell group w → AreCalm group clocks pace traffic w (timed ∷ rest)
        → Throughout HasMemory w (timed ∷ rest) → NextOf rest
    row_leaves rest follows are calm memory =
        next_row laws group clocks pace nodes n in_n party in_party apart receiver what to base quick dest known some for_it wants Begins Mode popped Is Gets HasMemory hearer
        traffic w xs front expected pair timed.at in_time memory.0 are (λ e. Follows e (after_row w timed.row) rest) timed.row calm.1
        (λ event e bus.
        let f = follow_step expected w timed rest follows pair.sender pair.sender_up.status pair.sender_is pair.mode event e bus in
        (f.0, f.1, f.2, follow_short expected w timed rest follows pair.sender pair.sender_up.status pair.sender_is event e, f.3))
        (follow_pass expected w timed rest follows)

    -- by this row no transfer that is under way is late
    none_late : (x : Made) → In x xs → timed.at ≤ x.at + 2 * pace.delay
    none_late = not_late laws group clocks pace nodes n in_n party in_party apart receiver what to base quick dest known some for_it wants Begins Mode popped Is Gets HasMemory hearer
        traffic w xs front expected pair timed.at in_time

  -- a transfer that is under way comes whole
  pub under_way : (rows : List Timed) (traffic : Traffic) (w : Cluster) (xs : List Made) (front : List Coming) (expected : Expected) → PairOf traffic w xs front expected → AreWell group w → Follows expected w rows
      → AreCalm group clocks pace traffic w rows → Throughout HasMemory w rows → (x : Made) (earlier later : List Made) → xs ≡ earlier ++ x ∷ later
      → traffic.at ≤ x.at + 2 * pace.delay → x.at + 2 * pace.delay < end_of traffic.at rows → GetsBy Gets x.transfer (x.at + 2 * pace.delay) w rows
  under_way [] traffic w xs front expected pair are follows calm memory x earlier later there now long = absurd (omega (arith, now, long))
  under_way (timed ∷ rest) traffic w xs front expected pair are follows calm memory x earlier later there now long =
      elim (row_leaves traffic w xs front expected pair timed calm.0 rest follows are calm memory) [
        | inl goes ↦ behind_row Gets x.transfer (x.at + 2 * pace.delay) w timed rest
            (under_way rest (traffic_after traffic w timed) (after_row w timed.row) (xs ++ goes.0) goes.1 goes.2 goes.3 are_then goes.5 calm.2 memory.1 x earlier (later ++ goes.0)
            (ap (λ (l : List Made). l ++ goes.0) there ∙ append_assoc earlier (x ∷ later) goes.0) soon long)
        | inr ends ↦ by earlier there ends.0 ends.1 ends.2 ends.3 (λ before same. behind_row Gets x.transfer (x.at + 2 * pace.delay) w timed rest
            (under_way rest (traffic_after traffic w timed) (after_row w timed.row) ends.1 [] expected ends.4 are_then ends.6 calm.2 memory.1 x before later same soon long))
      ]
    where
      are_then : AreWell group (after_row w timed.row)
      are_then = well_after laws group nodes w are clocks pace traffic timed.at timed.row calm.1

      soon : timed.at ≤ x.at + 2 * pace.delay
      soon = none_late traffic w xs front expected pair timed calm.0 x (subst (λ (l : List Made). In x l) (sym there) (in_back x earlier (x ∷ later) (inl refl)))

      by : (before : List Made) → xs ≡ before ++ x ∷ later → (y : Made) (others : List Made) → xs ≡ y ∷ others → Gets y.transfer w timed.row
          → ((then_before : List Made) → others ≡ then_before ++ x ∷ later → GetsBy Gets x.transfer (x.at + 2 * pace.delay) w (timed ∷ rest))
          → GetsBy Gets x.transfer (x.at + 2 * pace.delay) w (timed ∷ rest)
      by [] is y others same gets more = record {
        front = [];
        timed = timed;
        rest = rest;
        split = refl;
        soon = soon;
        gets = subst (λ (z : Made). Gets z.transfer w timed.row) (ap (λ (l : List Made). slice_index_or l 0 x) (sym same ∙ is)) gets;
      }
      by (z ∷ before) is y others same gets more = more before (ap (λ (l : List Made). drop 1 l) (sym same ∙ is))

  -- a transfer that is sent in one of the rows comes whole
  pub sent_comes : (front rest : List Timed) (timed : Timed) (offer : Offer) → offer.what ≡ what → offer.to ≡ to → timed.at + 2 * pace.delay < end_of timed.at rest
      → (traffic : Traffic) (w : Cluster) (xs : List Made) (came : List Coming) (expected : Expected) → PairOf traffic w xs came expected → AreWell group w → Follows expected w (front ++ timed ∷ rest)
      → AreCalm group clocks pace traffic w (front ++ timed ∷ rest) → Throughout HasMemory w (front ++ timed ∷ rest)
      → Sends n (after_rows w (rows_in front)) timed.row offer
      → GetsBy Gets (sent_by n (after_rows w (rows_in front)) offer) (timed.at + 2 * pace.delay) (after_rows w (rows_in front)) (timed ∷ rest)
  sent_comes [] rest timed offer same there long traffic w xs came expected pair are follows calm memory sends =
      elim (row_leaves traffic w xs came expected pair timed calm.0 rest follows are calm memory) [
        | inl goes ↦
            let i = in_split (record { at = timed.at; transfer = sent_by n w offer }) goes.0 (goes.4 offer sends same there) in
            behind_row Gets (sent_by n w offer) (timed.at + 2 * pace.delay) w timed rest
            (under_way rest (traffic_after traffic w timed) (after_row w timed.row) (xs ++ goes.0) goes.1 goes.2 goes.3
            (well_after laws group nodes w are clocks pace traffic timed.at timed.row calm.1) goes.5 calm.2 memory.1 (record { at = timed.at; transfer = sent_by n w offer })
            (xs ++ i.0) i.1 (ap (λ (l : List Made). xs ++ l) i.2 ∙ sym (append_assoc xs i.0 ((record { at = timed.at; transfer = sent_by n w offer }) ∷ i.1)))
            (omega arith) long)
        | inr ends ↦ absurd (ends.5 offer sends)
      ]
  sent_comes (first ∷ front) rest timed offer same there long traffic w xs came expected pair are follows calm memory sends =
      elim (row_leaves traffic w xs came expected pair first calm.0 (front ++ timed ∷ rest) follows are calm memory) [
        | inl goes ↦ sent_comes front rest timed offer same there long (traffic_after traffic w first) (after_row w first.row) (xs ++ goes.0) goes.1 goes.2 goes.3
            (well_after laws group nodes w are clocks pace traffic first.at first.row calm.1) goes.5 calm.2 memory.1 sends
        | inr ends ↦ sent_comes front rest timed offer same there long (traffic_after traffic w first) (after_row w first.row) ends.1 [] expected ends.4
            (well_after laws group nodes w are clocks pace traffic first.at first.row calm.1) ends.6 calm.2 memory.1 sends
      ]
