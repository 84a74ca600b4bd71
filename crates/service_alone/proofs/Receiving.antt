-- A receiver to which frames of one key come alone.
use Rattle.std.proofs.Common.{◌≡◌, ℕ, ◌+◌, ◌<◌, ◌≤◌, Bool, true, false, List, [], ◌∷◌, ◌++◌, append-nil, length, length-append, refl, sym, ◌∙◌, ap, subst, arith, inl, inr, Option, None, Some}
use Rattle.std.specs.Prelude.{⊤, ◌-◌, ◌/◌, ◌&&◌, map, nat_lt, if◌then◌else◌, MatchOption, Result, Ok, Err, not, cond}
use Rattle.std.proofs.lemmas.Bool.{le-leb}
use Rattle.std.proofs.lemmas.Grind.{flat_map-append}
use Rattle.std.proofs.lemmas.List.{map-append}
use Rattle.can_frame.specs.declared.step.Why.{Why}
use Rattle.can_frame.specs.declared.step.Why.TheVariants.{Length, NoBlock}
use Rattle.can_frame.specs.Cutting.{Piece, joined}
use Rattle.transfer_rx.specs.declared.accept.Wanted.{Wanted}
use Rattle.transfer_rx.specs.declared.key.Key.{Key}
use Rattle.transfer_rx.specs.Keys.{key_of, same_key}
use Rattle.transfer_rx.specs.Outcome.{Outcome, Delivers, Grows, Spoils, assembled, blocks_used, is_wrong_length, lacks_blocks, out_of_turn, outcome}
use Rattle.transfer_rx.specs.Reassembly.{Answer, Arrival, Continues, Delivery, Drops, Gives, Setting, Step, answer, answer_of, at_session, in_turn, next, piece_in, session_after, session_step}
use Rattle.transfer_rx.specs.Reassembly as rx
use Rattle.transfer_rx.specs.Run.{AwaitsTransfer, MayBegin, is_of, of_key, run}
use Rattle.transfer_rx.specs.Sessions.{Session, is_recent, next_id, others, recent_sessions, session_for, session_of}
use Rattle.alloc_spec_laws.proofs.Choices.{lt_tells}
use Rattle.service_alone.proofs.Leads.{and_false}
use Rattle.transfer_rx.proofs.Comes.{for-key}
use Rattle.transfer_rx.proofs.Completeness.{own_wanted}
use Rattle.transfer_rx.proofs.Found.{filter-filter, same_key-equal, session_of-filter}
use Rattle.transfer_rx.proofs.InTurn.{in_turn_id}
use Rattle.transfer_rx.proofs.Steps.{of_session}

-- all its sessions are of this key
abbrev pub HasOnly : Key → List Session → Type 0
HasOnly key sessions = others key sessions ≡ []

only_recent : (key : Key) (now : ℕ) (sessions : List Session) → HasOnly key sessions → HasOnly key (recent_sessions now sessions)
only_recent key now sessions only =
    filter-filter (λ session. not (same_key key session.key)) (is_recent now) sessions
    ∙ ap (λ (l : List Session). recent_sessions now l) only

-- the session of the key stands alone
one_is_only : (key : Key) (session : Session) (rest : List Session) → session.key ≡ key → HasOnly key rest → HasOnly key (session ∷ rest)
one_is_only key session rest own only =
    ap (λ (b : Bool). cond (not b) (session ∷ others key rest) (others key rest)) (same_key-equal key session.key (sym own)) ∙ only

-- what a frame leaves, and what it gives
pub record Keeps (key : Key) (arrival : Arrival) (step : Step) : Type 0 where
  pub only : HasOnly key step.sessions
  -- what is delivered ends with the frame; then its session waits for the transfer that comes next
  pub gives : (d : Delivery) → step.answer ≡ Gives d → ((piece_in arrival).tail.end ≡ true) × (s : Session) × (session_of key step.sessions ≡ Some s)
      × (s.expected ≡ next_id (piece_in arrival).tail.id) × (s.taken ≡ []) × (s.marks ≡ []) × (s.moment ≡ arrival.moment)

only_ends : (wrong lacks end : Bool) (result : Outcome) (payload : List ℕ)
    → (if wrong then Spoils Length else (if lacks then Spoils NoBlock else (if end then result else Grows))) ≡ Delivers payload → end ≡ true
only_ends true lacks end result payload e = absurd (cc (e))
only_ends false true end result payload e = absurd (cc (e))
only_ends false false true result payload e = refl
only_ends false false false result payload e = absurd (cc (e))

delivers_at_end : (blocks signature : ℕ) (piece : Piece) (taken : List Piece) (rest : List Session) (payload : List ℕ)
    → outcome blocks signature piece taken rest ≡ Delivers payload → piece.tail.end ≡ true
unfolding outcome
delivers_at_end blocks signature piece taken rest payload e = only_ends (is_wrong_length signature piece (taken ++ piece ∷ [])) (lacks_blocks blocks piece taken rest)
    piece.tail.end (assembled signature piece.tail.id (taken ++ piece ∷ [])) payload e

module _ (most blocks : ℕ) (w : Wanted) (arrival : Arrival) (recent : List Session) (only : HasOnly (key_of w.ident) recent) where
  abbrev own_key : Key
  own_key = key_of w.ident

  abbrev piece : Piece
  piece = piece_in arrival

  rest_only : HasOnly own_key (others own_key recent)
  rest_only = ap (others own_key) only

  turned : (session : Session) → session.key ≡ own_key → out_of_turn piece.tail session ≡ None → (result : Outcome)
      → outcome blocks w.signature piece session.taken (others own_key recent) ≡ result
      → Keeps own_key arrival (record {
        answer = answer_of w.ident piece arrival.mark session result;
        sessions = session_after piece arrival.mark arrival.moment session result ∷ others own_key recent;
      })
  turned session own turn (Delivers payload) e = record {
    only = one_is_only own_key (session_after piece arrival.mark arrival.moment session (Delivers payload)) (others own_key recent) own rest_only;
    gives = λ d g. (
      delivers_at_end blocks w.signature piece session.taken (others own_key recent) payload e,
      session_after piece arrival.mark arrival.moment session (Delivers payload),
      ap (λ (b : Bool). cond b (Some (session_after piece arrival.mark arrival.moment session (Delivers payload))) (session_of own_key (others own_key recent)))
          (same_key-equal own_key session.key (sym own)),
      ap next_id (sym (in_turn_id piece.tail session turn)),
      refl,
      refl,
      refl,
    );
  }
  turned session own turn Grows e = record {
    only = one_is_only own_key (session_after piece arrival.mark arrival.moment session Grows) (others own_key recent) own rest_only;
    gives = λ d g. absurd (cc (g));
  }
  turned session own turn (Spoils why) e = record {
    only = one_is_only own_key (session_after piece arrival.mark arrival.moment session (Spoils why)) (others own_key recent) own rest_only;
    gives = λ d g. absurd (cc (g));
  }

  in_session : (session : Session) → session.key ≡ own_key → (turn : Option Why) → out_of_turn piece.tail session ≡ turn
      → Keeps own_key arrival (in_turn blocks w piece arrival.mark arrival.moment (others own_key recent) session turn)
  in_session session own None e = turned session own e (outcome blocks w.signature piece session.taken (others own_key recent)) refl
  in_session session own (Some why) e = record {
    only = one_is_only own_key session (others own_key recent) own rest_only;
    gives = λ d g. absurd (cc (g));
  }

  in_step : Keeps own_key arrival (session_step most blocks w piece arrival.mark arrival.moment recent)
  unfolding session_step
  in_step = go (session_for most own_key piece.tail arrival.moment recent) refl
    where
      go : (r : Result Session Why) → session_for most own_key piece.tail arrival.moment recent ≡ r
          → Keeps own_key arrival (at_session blocks w piece arrival.mark arrival.moment recent r)
      go (Err why) e = record { only = only; gives = λ d g. absurd (cc (g)) }
      go (Ok session) e = in_session session (for-key most own_key piece.tail arrival.moment recent session e) (out_of_turn piece.tail session) refl

pub keeps : (setting : Setting) (sessions : List Session) (arrival : Arrival) (key : Key) → is_of setting key arrival ≡ true → HasOnly key sessions
    → Keeps key arrival (rx.step setting sessions arrival)
keeps setting sessions arrival key is only =
    let own = own_wanted setting key arrival is in
    subst (Keeps key arrival) (sym (of_session setting sessions arrival own.w own.accepted own.of_session))
    (subst (λ (k : Key). Keeps k arrival (session_step setting.sessions setting.blocks own.w (piece_in arrival) arrival.mark arrival.moment (recent_sessions arrival.moment sessions)))
    own.own
    (in_step setting.sessions setting.blocks own.w arrival (recent_sessions arrival.moment sessions)
    (subst (λ (k : Key). HasOnly k (recent_sessions arrival.moment sessions)) (sym own.own) (only_recent key arrival.moment sessions only))))

-- ---- a transfer may begin

-- a receiver whose next transfer of this key may have this transfer ID, from frames at this moment
pub record Awaits (setting : Setting) (key : Key) (moment id : ℕ) (sessions : List Session) : Type 0 where
  pub only : HasOnly key sessions
  pub begins : (first : Arrival) → first.moment ≡ moment → (piece_in first).tail.id ≡ id → MayBegin setting sessions key first

pub awaits_first : (setting : Setting) (key : Key) (moment id : ℕ) → 1 ≤ setting.sessions → Awaits setting key moment id []
awaits_first setting key moment id some = record { only = refl; begins = λ first now is. some }

pub awaits_next : (setting : Setting) (sessions : List Session) (arrival : Arrival) (key : Key) (d : Delivery) → is_of setting key arrival ≡ true
    → HasOnly key sessions → answer setting sessions arrival ≡ Gives d
    → Awaits setting key arrival.moment (next_id (piece_in arrival).tail.id) (next setting sessions arrival)
awaits_next setting sessions arrival key d is only gives =
    let k = keeps setting sessions arrival key is only in
    let g = k.gives d gives in
    record {
      only = k.only;
      begins = λ first now id. subst (λ (found : Option Session). MatchOption found (length (recent_sessions first.moment (next setting sessions arrival)) < setting.sessions)
          (AwaitsTransfer (piece_in first).tail))
          (sym (session_of-filter (is_recent first.moment) key (next setting sessions arrival) g.1 g.2
          (le-leb (first.moment - g.1.moment) 2000 (omega (arith, now, g.6)))))
          (inl (g.3 ∙ sym id, g.4, g.5));
    }

-- ---- a frame that does not end a transfer gives none

abbrev pub GivesNone : Answer → Type 0
GivesNone (Gives d) = ⊥
GivesNone Continues = ⊤
GivesNone (Drops why) = ⊤

pub gives_none : (setting : Setting) (sessions : List Session) (arrival : Arrival) (key : Key) → is_of setting key arrival ≡ true
    → HasOnly key sessions → (piece_in arrival).tail.end ≡ false → GivesNone (answer setting sessions arrival)
gives_none setting sessions arrival key is only open_ = by (answer setting sessions arrival) refl
  where
    by : (x : Answer) → answer setting sessions arrival ≡ x → GivesNone x
    by (Gives d) e = absurd (cc (open_, ((keeps setting sessions arrival key is only).gives d e).0))
    by Continues e = tt
    by (Drops why) e = tt

-- ---- frames of the key, one after another

abbrev pub AreOfKey : Setting → Key → List Arrival → Type 0
AreOfKey setting key [] = ⊤
AreOfKey setting key (arrival ∷ arrivals) = (is_of setting key arrival ≡ true) × AreOfKey setting key arrivals

pub only_run : (setting : Setting) (key : Key) (arrivals : List Arrival) (sessions : List Session) → AreOfKey setting key arrivals → HasOnly key sessions
    → HasOnly key (run setting sessions arrivals)
only_run setting key [] sessions are only = only
only_run setting key (arrival ∷ arrivals) sessions are only =
    only_run setting key arrivals (next setting sessions arrival) are.1 (keeps setting sessions arrival key are.0 only).only

pub all_of_key : (setting : Setting) (key : Key) (arrivals : List Arrival) → AreOfKey setting key arrivals → of_key setting key arrivals ≡ arrivals
all_of_key setting key [] are = refl
all_of_key setting key (arrival ∷ arrivals) are = rw (are.0) (rw (all_of_key setting key arrivals are.1) refl)

few_blocks : (blocks : ℕ) (whole : Bool) (used count : ℕ) → 8 ≤ blocks → used ≡ 0 → count ≤ 102 → (not whole && nat_lt blocks (used + (count + 27) / 28)) ≡ false
few_blocks blocks whole used count some none few = ap (λ (b : Bool). not whole && b) none_lacks ∙ and_false (not whole)
  where
    none_lacks : nat_lt blocks (used + (count + 27) / 28) ≡ false
    none_lacks = elim (lt_tells blocks (used + (count + 27) / 28)) [ inl z ↦ absurd (omega (arith, z.1, some, none, few)) | inr z ↦ z.0 ]

none_used : (sessions : List Session) → sessions ≡ [] → blocks_used sessions ≡ 0
unfolding blocks_used
none_used sessions e = ap (λ (l : List Session). blocks_used l) e

fewer : (xs ys : List Piece) (p : Piece) → length (joined (xs ++ p ∷ [])) ≤ length (joined (xs ++ p ∷ ys))
fewer xs ys p =
    let a = ap length (flat_map-append (λ (piece : Piece). piece.bytes) xs (p ∷ [])) in
    let b = ap length (flat_map-append (λ (piece : Piece). piece.bytes) xs (p ∷ ys)) in
    let c = length-append (joined xs) (p.bytes ++ []) in
    let d = length-append (joined xs) (p.bytes ++ joined ys) in
    let e = length-append p.bytes (joined ys) in
    let f = ap length (append-nil p.bytes) in
    omega (arith, a, b, c, d, e, f)

-- a short transfer has blocks enough where no other session has any
pub has_blocks : (setting : Setting) (key : Key) (sessions : List Session) (front back : List Arrival) (arrival : Arrival) → 8 ≤ setting.blocks
    → AreOfKey setting key front → HasOnly key sessions → length (joined (map piece_in (front ++ arrival ∷ back))) ≤ 102
    → lacks_blocks setting.blocks (piece_in arrival) (map piece_in (of_key setting key front))
    (others key (recent_sessions arrival.moment (run setting sessions front))) ≡ false
has_blocks setting key sessions front back arrival some are only few =
    few_blocks setting.blocks ((piece_in arrival).tail.start && (piece_in arrival).tail.end)
    (blocks_used (others key (recent_sessions arrival.moment (run setting sessions front))))
    (length (joined (map piece_in (of_key setting key front) ++ piece_in arrival ∷ []))) some
    (none_used (others key (recent_sessions arrival.moment (run setting sessions front)))
    (only_recent key arrival.moment (run setting sessions front) (only_run setting key front sessions are only)))
    (let a = ap (λ (l : List Arrival). length (joined (map piece_in l ++ piece_in arrival ∷ []))) (all_of_key setting key front are) in
    let b = ap (λ (l : List Piece). length (joined l)) (map-append piece_in front (arrival ∷ back)) in
    let c = fewer (map piece_in front) (map piece_in back) (piece_in arrival) in
    omega (arith, a, b, c, few))
