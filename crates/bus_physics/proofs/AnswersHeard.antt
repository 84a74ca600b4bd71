-- Answers of a node come to a member in the order of the calls, where each member hears frames in order.
use Rattle.std.proofs.Common.{◌≡◌, ◌≢◌, ℕ, ◌≤◌, Bool, true, false, List, refl, sym, ap, subst, ◌∙◌, arith, inl, inr, Some}
use Rattle.std.specs.Prelude.{◌||◌, ◌&&◌, not, nat_eq, Err, if◌then◌else◌}
use Rattle.std.proofs.lemmas.Bool.Decides.{eqb_tells}
use Rattle.can_frame.specs.declared.identifier.Ident.{Ident}
use Rattle.can_frame.specs.declared.identifier.Kind.{Kind}
use Rattle.can_frame.specs.declared.identifier.Kind.TheVariants.{Response}
use Rattle.can_frame.specs.declared.step.Why.TheVariants.{NotWanted}
use Rattle.can_frame.specs.Identifier.{identifier_of}
use Rattle.can_frame.specs.Kinds.{is_service, is_anonymous}
use Rattle.raft_model.specs.Lists.{In}
use Rattle.raft_model.specs.Runs as raft
use Rattle.transfer_rx.specs.declared.key.Key.{Key}
use Rattle.transfer_rx.specs.Acceptance.{accepted, first_signature, is_for, wanted, with_signature}
use Rattle.transfer_rx.specs.Keys.{key_of, same_key}
use Rattle.transfer_rx.specs.Run.{has_session_key, is_of}
use Rattle.transfer_rx.proofs.Found.{same_key-equal}
use Rattle.transfer_tx.specs.Queue.{Queued}
use Rattle.alloc_spec.specs.Accepted.{rows}
use Rattle.alloc_spec.specs.Transfers.{SentTransfer, ident_of, kind_of, number_of}
use Rattle.alloc_spec.specs.ClusterMembers.{AreMembers}
use Rattle.bus_spec.specs.Cluster.{Cluster, arrival_at, is_member}
use Rattle.bus_spec.specs.Lawful.{is_forged, is_forged_by}
use Rattle.alloc_spec.specs.Accepted.{is_members_service}
use Rattle.bus_agreement.specs.Frames.{IsOnBus}
use Rattle.bus_agreement.specs.LawsBelow.{FrameLaws}
use Rattle.bus_agreement.specs.Shows.{Shows}
use Rattle.bus_agreement.proofs.Idents.{one_what}
use Rattle.bus_agreement.proofs.Lists.{never}
use Rattle.bus_agreement.proofs.Pieces.{IsPieceOf, piece_of}
use Rattle.bus_agreement.proofs.WholeTransfers.{read_back, some_is}
use Rattle.bus_rows.specs.Timed.{Timed}
use Rattle.bus_physics.specs.Physics.{ComesInOrder, HasKeyAt, IsResponseOf, IsRecent, Limits}
use Rattle.bus_physics.proofs.AnswerOrder.{AreOrdered, answerer}

or_true : (a b : Bool) → b ≡ true → (a || b) ≡ true
or_true true b e = refl
or_true false b e = e

-- ---- the key of a response

module _ (n source number : ℕ) (other : source ≢ n) (f : Queued) (is : IsResponseOf number source n f) (s : ℕ)
    (signature : first_signature rows Response number ≡ Some s) where
  eq_same : (a b : ℕ) → a ≡ b → nat_eq a b ≡ true
  eq_same a b e = elim (eqb_tells a b) [ inl same ↦ same.0 | inr apart ↦ absurd (apart.1 e) ]

  eq_other : (a b : ℕ) → a ≢ b → nat_eq a b ≡ false
  eq_other a b e = elim (eqb_tells a b) [ inl same ↦ absurd (e same.1) | inr apart ↦ apart.0 ]

  for_me : is_for n is.ident ≡ true
  for_me = or_true (nat_eq n 0) _
      (ap (λ (k : Kind). not (is_service k && not (nat_eq is.ident.dest n)) && not (nat_eq is.ident.source n)) is.kind
      ∙ (ap (λ (b : Bool). not (not b) && not (nat_eq is.ident.source n)) (eq_same is.ident.dest n is.to)
      ∙ ap not (eq_other is.ident.source n (λ e. other (sym is.from ∙ e)))))

  signed : first_signature rows is.ident.kind is.ident.number ≡ Some s
  signed = ap (λ (k : Kind). first_signature rows k is.ident.number) is.kind ∙ (ap (λ (m : ℕ). first_signature rows Response m) is.service ∙ signature)

  key_is : key_of is.ident ≡ record { kind = Response; number = number; source = source }
  key_is = ap (λ (k : Kind). record { kind = k; number = is.ident.number; source = is.ident.source }) is.kind
      ∙ (ap (λ (m : ℕ). record { kind = Response; number = m; source = is.ident.source }) is.service
      ∙ ap (λ (m : ℕ). record { kind = Response; number = number; source = m }) is.from)

  abbrev key : Key
  key = record { kind = Response; number = number; source = source }

  pub has_key : HasKeyAt n key f
  unfolding is_of wanted
  has_key =
      ap (λ (o : _). has_session_key key (accepted rows n o)) is.read
      ∙ (ap (λ (b : Bool). has_session_key key (if b then with_signature is.ident (first_signature rows is.ident.kind is.ident.number) else Err NotWanted)) for_me
      ∙ (ap (λ (o : _). has_session_key key (with_signature is.ident o)) signed
      ∙ (ap (λ (k : Kind). if is_anonymous k then false else same_key key (key_of is.ident)) is.kind ∙ same_key-equal key (key_of is.ident) (sym key_is))))

-- ---- answers on the bus

module _ (limits : Limits) (rows_at : List Timed) (append : Bool) (n : ℕ) (laws : FrameLaws) (choice : ℕ → Bool) (made : List SentTransfer) (w : Cluster) (run : raft.World) (members : AreMembers w.ids)
    (shows : Shows choice made w run) where
  low : (m : ℕ) → In m w.ids → 1 ≤ m
  low m i = (members.nodes m i).0

  high : (m : ℕ) → In m w.ids → m ≤ 125
  high m i = (members.nodes m i).1

  pub record OfAnswer (source : ℕ) (f : Queued) : Type 0 where
    pub x : SentTransfer
    pub was_made : In x made
    pub by : x.by ≡ source
    pub what : x.offer.what ≡ answerer append
    pub to : x.offer.to ≡ n
    pub step : f.mark.step ≡ x.step
    pub re : f.mark.re ≡ x.offer.re

  kind_is : (a : Bool) → kind_of (answerer a) ≡ Response
  kind_is true = refl
  kind_is false = refl

  module _ (source : ℕ) (f : Queued) (inside : In f w.frames) (is : IsResponseOf (number_of (answerer append)) source n f)
      (service : is_members_service (number_of (answerer append)) ≡ true) where
    forged : is_forged w.ids (identifier_of f.id) ≡ true
    forged = ap (is_forged w.ids) is.read ∙ (ap (λ (k : Kind). is_forged_by w.ids k is.ident) is.kind
        ∙ or_true (is_member w.ids is.ident.source) (is_members_service is.ident.number) (ap is_members_service is.service ∙ service))

    pub of_answer : OfAnswer source f
    of_answer = by (shows.bus f inside) where
      by : IsOnBus made w.ids f → OfAnswer source f
      by (inr foreign) = never (sym foreign ∙ forged)
      by (inl (m, i, piece)) = record {
        x = piece.whose;
        was_made = piece.was_made;
        by = its_source;
        what = its_what;
        to = its_to;
        step = it.step;
        re = it.re;
      }
        where
          it : IsPieceOf piece.whose (arrival_at f 0)
          it = piece_of laws made m f piece (arrival_at f 0) refl refl refl

          own : ident_of piece.whose.by piece.whose.offer.what piece.whose.offer.to ≡ is.ident
          own = some_is (ident_of piece.whose.by piece.whose.offer.what piece.whose.offer.to) is.ident
              (sym (read_back laws w.ids low high made shows.holds.transfers piece.whose piece.was_made) ∙ (ap identifier_of (sym it.id) ∙ is.read))

          its_source : piece.whose.by ≡ source
          its_source = ap (λ (k : Ident). k.source) own ∙ is.from

          its_to : piece.whose.offer.to ≡ n
          its_to = ap (λ (k : Ident). k.dest) own ∙ is.to

          its_what : piece.whose.offer.what ≡ answerer append
          its_what = one_what piece.whose.offer.what (answerer append) Response (number_of (answerer append)) (ap (λ (k : Ident). k.kind) own ∙ is.kind) (kind_is append)
              (ap (λ (k : Ident). k.number) own ∙ is.service) refl

  -- the one that was heard before answers no later call
  pub in_order : (heard : List Queued) (frame : Queued) → ComesInOrder limits rows_at n heard frame → IsRecent limits rows_at frame.mark.step → IsRecent limits rows_at frame.mark.re → (source : ℕ)
      → (there : (f : Queued) → In f heard → In f w.frames) → In frame w.frames → (past : List Queued) → AreOrdered limits rows_at append source n made past → source ≢ n
      → (s : ℕ) → first_signature rows Response (number_of (answerer append)) ≡ Some s → is_members_service (number_of (answerer append)) ≡ true
      → (other : Queued) → In other heard → IsResponseOf (number_of (answerer append)) source n other → IsResponseOf (number_of (answerer append)) source n frame
      → other.mark.re ≤ frame.mark.re
  in_order heard frame comes recent asked_lately source there inside past ordered apart s signature service other came is is_too = omega (
    arith,
    a.re,
    b.re,
    ordered.order a.x b.x a.was_made b.was_made
        (record { by = a.by; what = a.what; to = a.to }) (record { by = b.by; what = b.what; to = b.to })
        (subst (λ (m : ℕ). IsRecent limits rows_at m) b.re asked_lately) (omega (arith, before, a.step, b.step)),
  )
    where
      a : OfAnswer source other
      a = of_answer source other (there other came) is service

      b : OfAnswer source frame
      b = of_answer source frame inside is_too service

      before : other.mark.step ≤ frame.mark.step
      before = comes recent other (record { kind = Response; number = number_of (answerer append); source = source }) came
          (has_key n source (number_of (answerer append)) apart other is s signature) (has_key n source (number_of (answerer append)) apart frame is_too s signature)
