-- What a delivery is made of.
use Rattle.std.proofs.Common.{◌≡◌, ℕ, ◌≤◌, true, false, Bool, ◌&&◌, List, [], ◌∷◌, ◌++◌, cond, length, refl, sym, ap, ◌∙◌, subst, inl, inr}
use Rattle.std.specs.Prelude.{Option, None, Some, Result, Ok, Err}
use Rattle.std.specs.Cmp.Lexicographic.{pointwise}
use Rattle.std.proofs.lemmas.Bool.{cases_Bool}
use Rattle.can_frame.specs.declared.identifier.Ident.{Ident}
use Rattle.can_frame.specs.declared.mark.Mark.{Mark}
use Rattle.can_frame.specs.declared.step.Why.{Why}
use Rattle.can_frame.specs.declared.step.Why.TheVariants.{Crc, Length, NoBlock, Start, Toggle}
use Rattle.can_frame.specs.Cutting.{IsCutting, Piece, payload_of}
use Rattle.can_frame.specs.Kinds.{is_anonymous}
use Rattle.transfer_rx.specs.declared.accept.Wanted.{Wanted}
use Rattle.transfer_rx.specs.Acceptance.{wanted}
use Rattle.transfer_rx.specs.Keys.{key_of}
use Rattle.transfer_rx.specs.Marks.{is_whole}
use Rattle.transfer_rx.specs.Outcome.{Delivers, Grows, Outcome, Spoils, cut_again, fits_no_part, fits_no_payload, is_wrong_length, lacks_blocks, out_of_turn, outcome, same_piece}
use Rattle.transfer_rx.specs.Reassembly.{Arrival, Delivery, Drops, Gives, Setting, Step, answer, answer_of, at_session, in_turn, piece_in, session_step}
use Rattle.transfer_rx.specs.Sessions.{Session, others, recent_sessions, session_for}
use Rattle.transfer_rx.specs.Sound.{IsDelivered}
use Rattle.transfer_rx.proofs.Comes.{for-key}
use Rattle.transfer_rx.proofs.Cuttings.{only, some_payload}
use Rattle.transfer_rx.proofs.Steps.{anonymous, of_session, unwanted}

abbrev given : Ident → ℕ → List ℕ → Mark → Bool → Delivery
given ident id payload mark whole = record { ident = ident; id = id; payload = payload; mark = mark; whole = whole }

alone_gives : (ident : Ident) (piece : Piece) (mark : Mark) (delivery : Delivery) (whole toggle : Bool) →
    cond whole (cond toggle (Drops Toggle) (Gives (given ident piece.tail.id piece.bytes mark (is_whole (mark ∷ []))))) (Drops Start) ≡ Gives delivery →
    given ident piece.tail.id piece.bytes mark (is_whole (mark ∷ [])) ≡ delivery
alone_gives ident piece mark delivery true true h = absurd cc
alone_gives ident piece mark delivery true false h = cc
alone_gives ident piece mark delivery false toggle h = absurd cc

-- what is known of pieces that are delivered
record IsWhole (wrong end whole : Bool) (found payload : List ℕ) : Type 0 where
  fits : wrong ≡ false
  ended : end ≡ true
  from : cond whole (Delivers found) (Spoils Crc) ≡ Delivers payload
  is : found ≡ payload

delivers_only : (wrong lacks end whole : Bool) (found payload : List ℕ) →
    cond wrong (Spoils Length) (cond lacks (Spoils NoBlock) (cond end (cond whole (Delivers found) (Spoils Crc)) Grows)) ≡ Delivers payload →
    IsWhole wrong end whole found payload
delivers_only true lacks end whole found payload h = absurd cc
delivers_only false true end whole found payload h = absurd cc
delivers_only false false true true found payload h = record { fits = refl; ended = refl; from = h; is = cc }
delivers_only false false true false found payload h = absurd cc
delivers_only false false false whole found payload h = absurd cc

delivered_frames : (blocks signature : ℕ) (piece : Piece) (taken : List Piece) (rest : List Session) (payload : List ℕ) →
    outcome blocks signature piece taken rest ≡ Delivers payload → IsCutting signature piece.tail.id payload (taken ++ piece ∷ [])
unfolding outcome
delivered_frames blocks signature piece taken rest payload h =
    let pieces : List Piece = taken ++ piece ∷ [] in
    let d = delivers_only (is_wrong_length signature piece pieces) (lacks_blocks blocks piece taken rest) piece.tail.end
    (pointwise same_piece pieces (cut_again signature piece.tail.id pieces)) (payload_of pieces) payload h in
    let fits : fits_no_payload signature piece.tail.id pieces ≡ false =
    sym (ap (λ end. cond end (fits_no_payload signature piece.tail.id pieces) (fits_no_part pieces)) d.ended) ∙ d.fits in
    record {
      size = subst (λ (p : List ℕ). length p ≤ 376) d.is (some_payload signature piece.tail.id pieces fits).0;
      frames = only signature piece.tail.id payload pieces d.from;
    }

-- what the next piece gives is the payload of its frames
record IsGiven (blocks signature : ℕ) (ident : Ident) (piece : Piece) (mark : Mark) (session : Session) (rest : List Session) (delivery : Delivery) : Type 0 where
  payload : List ℕ
  from : outcome blocks signature piece session.taken rest ≡ Delivers payload
  is : given ident piece.tail.id payload mark (is_whole (session.marks ++ mark ∷ [])) ≡ delivery

given_by : (blocks signature : ℕ) (ident : Ident) (piece : Piece) (mark : Mark) (session : Session) (rest : List Session) (delivery : Delivery) (result : Outcome) →
    outcome blocks signature piece session.taken rest ≡ result → answer_of ident piece mark session result ≡ Gives delivery →
    IsGiven blocks signature ident piece mark session rest delivery
given_by blocks signature ident piece mark session rest delivery (Delivers payload) e h = record { payload = payload; from = e; is = cc }
given_by blocks signature ident piece mark session rest delivery Grows e h = absurd cc
given_by blocks signature ident piece mark session rest delivery (Spoils why) e h = absurd cc

turned : (blocks : ℕ) (w : Wanted) (piece : Piece) (mark : Mark) (now : ℕ) (rest : List Session) (session : Session) (delivery : Delivery) (o : Option Why) →
    (in_turn blocks w piece mark now rest session o).answer ≡ Gives delivery → IsGiven blocks w.signature w.ident piece mark session rest delivery
turned blocks w piece mark now rest session delivery None h =
    given_by blocks w.signature w.ident piece mark session rest delivery (outcome blocks w.signature piece session.taken rest) refl h
turned blocks w piece mark now rest session delivery (Some why) h = absurd cc

of_a_session : (setting : Setting) (sessions : List Session) (arrival : Arrival) (delivery : Delivery) (w : Wanted) →
    wanted setting.rows setting.me arrival.id ≡ Ok w →
    (session_step setting.sessions setting.blocks w (piece_in arrival) arrival.mark arrival.moment (recent_sessions arrival.moment sessions)).answer ≡ Gives delivery →
    IsDelivered setting sessions arrival delivery
unfolding session_step
of_a_session setting sessions arrival delivery w accepted h =
    go (session_for setting.sessions (key_of w.ident) (piece_in arrival).tail arrival.moment (recent_sessions arrival.moment sessions)) refl h where
      go : (r : Result Session Why) → session_for setting.sessions (key_of w.ident) (piece_in arrival).tail arrival.moment (recent_sessions arrival.moment sessions) ≡ r →
          (at_session setting.blocks w (piece_in arrival) arrival.mark arrival.moment (recent_sessions arrival.moment sessions) r).answer ≡ Gives delivery →
          IsDelivered setting sessions arrival delivery
      go (Err why) e g = absurd cc
      go (Ok session) e g =
          let t = turned setting.blocks w (piece_in arrival) arrival.mark arrival.moment (others (key_of w.ident) (recent_sessions arrival.moment sessions)) session delivery
          (out_of_turn (piece_in arrival).tail session) g in
          record {
            w = w;
            accepted = accepted;
            ident = sym (ap (λ (d : Delivery). d.ident) t.is);
            id = sym (ap (λ (d : Delivery). d.id) t.is);
            mark = sym (ap (λ (d : Delivery). d.mark) t.is);
            frames =
                inr (record {
                  session = session;
                  there = e;
                  key = for-key setting.sessions (key_of w.ident) (piece_in arrival).tail arrival.moment (recent_sessions arrival.moment sessions) session e
                      ∙ ap key_of (ap (λ (d : Delivery). d.ident) t.is);
                  cutting = subst (λ (d : Delivery). IsCutting w.signature d.id d.payload (session.taken ++ piece_in arrival ∷ [])) t.is
                      (delivered_frames setting.blocks w.signature (piece_in arrival) session.taken (others (key_of w.ident) (recent_sessions arrival.moment sessions)) t.payload t.from);
                  whole = sym (ap (λ (d : Delivery). d.whole) t.is);
                });
          }

pub is_delivered : (setting : Setting) (sessions : List Session) (arrival : Arrival) (delivery : Delivery) → answer setting sessions arrival ≡ Gives delivery →
    IsDelivered setting sessions arrival delivery
is_delivered setting sessions arrival delivery h = go (wanted setting.rows setting.me arrival.id) refl where
  go : (r : Result Wanted Why) → wanted setting.rows setting.me arrival.id ≡ r → IsDelivered setting sessions arrival delivery
  go (Err why) e = let d : Drops why ≡ Gives delivery = sym (ap (λ (x : Step). x.answer) (unwanted setting sessions arrival why e)) ∙ h in absurd cc
  go (Ok w) e = elim (cases_Bool (is_anonymous w.ident.kind)) [
    | inl yes_alone ↦
        let d = alone_gives w.ident (piece_in arrival) arrival.mark delivery ((piece_in arrival).tail.start && (piece_in arrival).tail.end) (piece_in arrival).tail.toggle
        (sym (ap (λ (x : Step). x.answer) (anonymous setting sessions arrival w e yes_alone)) ∙ h) in
        record {
          w = w;
          accepted = e;
          ident = sym (ap (λ (d : Delivery). d.ident) d);
          id = sym (ap (λ (d : Delivery). d.id) d);
          mark = sym (ap (λ (d : Delivery). d.mark) d);
          frames = inl (record {
            anonymous = yes_alone;
            payload = sym (ap (λ (d : Delivery). d.payload) d);
            whole = sym (ap (λ (d : Delivery). d.whole) d);
          });
        }
    | inr none ↦ of_a_session setting sessions arrival delivery w e (sym (ap (λ (x : Step). x.answer) (of_session setting sessions arrival w e none)) ∙ h)
  ]
