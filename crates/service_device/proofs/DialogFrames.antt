-- The frames of a dialog: which of them a device takes, and which are requests to a member.
use Rattle.std.proofs.Common.{◌≡◌, ◌≢◌, ◌⊎◌, ℕ, ◌≤◌, false, List, max, refl, sym, ◌∙◌, ap, subst, inl, inr, Some}
use Rattle.std.specs.Prelude.{Err, Ok, Result}
use Rattle.std.proofs.lemmas.Bool.Decides.{eqb_tells}
use Rattle.can_frame.specs.declared.identifier.Ident.{Ident}
use Rattle.can_frame.specs.declared.identifier.Kind.TheVariants.{Anonymous}
use Rattle.can_frame.specs.declared.step.What.{What}
use Rattle.can_frame.specs.declared.step.What.TheVariants.{Alloc, App, AppQ, Disc, Info, InfoQ, Stat, Vote, VoteQ}
use Rattle.can_frame.specs.declared.step.Why.{Why}
use Rattle.can_frame.specs.declared.step.Why.TheVariants.{NotWanted}
use Rattle.can_frame.specs.Identifier.{identifier_number, identifier_of}
use Rattle.can_frame.specs.Kinds.{is_anonymous}
use Rattle.dsdl_codec.specs.declared.allocation.Allocation.{Allocation}
use Rattle.bus_rows.specs.declared.row.Row.TheVariants.{Rx}
use Rattle.transfer_rx.specs.declared.accept.Wanted.{Wanted}
use Rattle.transfer_rx.specs.Acceptance.{wanted}
use Rattle.transfer_rx.specs.Reassembly.{Delivery, Drops, Gives, answer, of_wanted, step as received}
use Rattle.transfer_rx.specs.Sessions.{Session}
use Rattle.transfer_rx.specs.Sound.{IsDelivered}
use Rattle.transfer_tx.specs.Queue.{Queued}
use Rattle.allocatee.specs.Accepted.{rows, setting}
use Rattle.alloc_spec.specs.Accepted.{setting_for}
use Rattle.alloc_spec.specs.AllocatorState.{AllocatorState}
use Rattle.alloc_spec.specs.Transfers.{ident_of, kind_of, signature_of}
use Rattle.alloc_spec_laws.specs.Sound.{IsDestination}
use Rattle.bus_agreement.proofs.Idents.{ident_ok, wanted_is}
use Rattle.bus_agreement.specs.LawsBelow.{FrameLaws}
use Rattle.service_device.specs.Settled.{IsAsked, IsNotAsked}
use Rattle.service_calm.proofs.DevicesHeard.{RequestsAreDelivered}
use Rattle.service_calm.proofs.DevicesTold.{device_wants}
use Rattle.service_calm.proofs.Frames.{read}
use Rattle.service_calm.proofs.Group.{IsOf}
use Rattle.service_calm.proofs.Others.{some_ident}
use Rattle.service_calm.proofs.Unfinished.{ends_it}
use Rattle.service_steps.specs.Requests.{IsRequest}
use Rattle.bus_spec.specs.Cluster.{Cluster, arrival_at, frame_at}
use Rattle.bus_spec.specs.Members.MemberStatus.{Up}

-- ---- what a device takes

-- a frame that may come to a device: of an Allocation of member n, or one that is not wanted
abbrev pub IsBearable : ℕ → Queued → Type 0
IsBearable n frame = (frame.id ≡ identifier_number (ident_of n Alloc 0)) ⊎ (wanted rows 0 frame.id ≡ Err NotWanted)

wanted_none : (ident : Ident) (id : ℕ) → identifier_of id ≡ Some ident → (what : What) (p to : ℕ) → ident ≡ ident_of p what to → what ≢ Alloc → wanted rows 0 id ≡ Err NotWanted
unfolding wanted rows
wanted_none ident id e Alloc p to is other = absurd (other refl)
wanted_none ident id e Disc p to is other = rw (e) (rw (is) refl)
wanted_none ident id e Stat p to is other = rw (e) (rw (is) refl)
wanted_none ident id e InfoQ p to is other = rw (e) (rw (is) refl)
wanted_none ident id e Info p to is other = rw (e) (rw (is) refl)
wanted_none ident id e VoteQ p to is other = rw (e) (rw (is) refl)
wanted_none ident id e Vote p to is other = rw (e) (rw (is) refl)
wanted_none ident id e AppQ p to is other = rw (e) (rw (is) refl)
wanted_none ident id e App p to is other = rw (e) (rw (is) refl)

of_member : (laws : FrameLaws) (p : ℕ) (frame : Queued) → (1 ≤ p) × (p ≤ 125) → (is : IsOf p frame) → identifier_of frame.id ≡ Some (ident_of p is.what is.to)
of_member laws p frame node is = ap identifier_of is.id ∙ laws.ident_read (ident_of p is.what is.to) (ident_ok p is.what is.to node.0 node.1 is.dest)

-- a frame of a member is one, where it is of no Allocation but of one of n
pub is_bearable : (laws : FrameLaws) (n p : ℕ) (frame : Queued) → (1 ≤ p) × (p ≤ 125) → IsOf p frame
    → (p ≢ n → frame.id ≢ identifier_number (ident_of p Alloc 0)) → IsBearable n frame
is_bearable laws n p frame node is none = by is.what refl
  where
    others : is.what ≢ Alloc → IsBearable n frame
    others other = inr (wanted_none (ident_of p is.what is.to) frame.id (of_member laws p frame node is) is.what p is.to refl other)

    alloc : is.what ≡ Alloc → is.to ≡ 0 → IsBearable n frame
    alloc e zero_ =
        let same : frame.id ≡ identifier_number (ident_of p Alloc 0) = is.id ∙ (λ i. identifier_number (ident_of p (e i) (zero_ i))) in
        elim (eqb_tells p n) [
          | inl z ↦ inl (same ∙ ap (λ (k : ℕ). identifier_number (ident_of k Alloc 0)) z.1)
          | inr z ↦ absurd (none z.1 same)
        ]

    by : (what : What) → is.what ≡ what → IsBearable n frame
    by Alloc e = alloc e (subst (λ (a : What). IsDestination (kind_of a) is.to) e is.dest)
    by Disc e = others (λ f. cc (sym e ∙ f))
    by Stat e = others (λ f. cc (sym e ∙ f))
    by InfoQ e = others (λ f. cc (sym e ∙ f))
    by Info e = others (λ f. cc (sym e ∙ f))
    by VoteQ e = others (λ f. cc (sym e ∙ f))
    by Vote e = others (λ f. cc (sym e ∙ f))
    by AppQ e = others (λ f. cc (sym e ∙ f))
    by App e = others (λ f. cc (sym e ∙ f))

-- one that is not of an Allocation of n gives a device nothing
pub drops_it : (n : ℕ) (frame : Queued) (sessions : List Session) (moment : ℕ) → IsBearable n frame → frame.id ≢ identifier_number (ident_of n Alloc 0)
    → answer setting sessions (arrival_at frame moment) ≡ Drops NotWanted
unfolding received
drops_it n frame sessions moment (inl own) other = absurd (other own)
drops_it n frame sessions moment (inr e) other = ap (λ (w : Result Wanted Why). (of_wanted setting (arrival_at frame moment) sessions w).answer) e

some_wanted : (a b : Wanted) → ◌≡◌ {A = Result Wanted Why} (Ok a) (Ok b) → a ≡ b
some_wanted a b e = cc (e)

-- one of an Allocation of n that does not end it gives none
pub gives_none_yet : (laws : FrameLaws) (n : ℕ) → (1 ≤ n) × (n ≤ 125) → (frame : Queued) (sessions : List Session) (moment : ℕ) → frame.id ≡ identifier_number (ident_of n Alloc 0)
    → (read frame).tail.end ≡ false → (d : Delivery) → answer setting sessions (arrival_at frame moment) ≡ Gives d → ⊥
gives_none_yet laws n node frame sessions moment own open_ d gives =
    cc (open_, ends_it laws setting sessions (arrival_at frame moment) d gives (ap (λ (i : Ident). is_anonymous i.kind) its.ident ∙ ap (λ (w : Wanted). is_anonymous w.ident.kind) its_w))
  where
    its : IsDelivered setting sessions (arrival_at frame moment) d
    its = laws.delivered setting sessions (arrival_at frame moment) d gives

    its_w : its.w ≡ record { ident = ident_of n Alloc 0; signature = signature_of Alloc }
    its_w = some_wanted its.w (record { ident = ident_of n Alloc 0; signature = signature_of Alloc })
        (sym its.accepted ∙ (ap (λ (k : ℕ). wanted rows 0 k) own ∙ device_wants laws n node (signature_of Alloc) refl))

-- ---- requests to a member

-- a frame that is no request: it has a source
abbrev pub HasSource : Queued → Type 0
HasSource frame = (ident : Ident) → identifier_of frame.id ≡ Some ident → ident.kind ≢ Anonymous

not_anonymous : (what : What) → kind_of what ≢ Anonymous
not_anonymous Alloc = λ e. cc (e)
not_anonymous Disc = λ e. cc (e)
not_anonymous Stat = λ e. cc (e)
not_anonymous InfoQ = λ e. cc (e)
not_anonymous Info = λ e. cc (e)
not_anonymous VoteQ = λ e. cc (e)
not_anonymous Vote = λ e. cc (e)
not_anonymous AppQ = λ e. cc (e)
not_anonymous App = λ e. cc (e)

-- a frame of a member has one
pub has_source : (laws : FrameLaws) (p : ℕ) (frame : Queued) → (1 ≤ p) × (p ≤ 125) → IsOf p frame → HasSource frame
has_source laws p frame node is ident e kind = not_anonymous is.what
    (ap (λ (i : Ident). i.kind) (some_ident (ident_of p is.what is.to) ident (sym (of_member laws p frame node is) ∙ e)) ∙ kind)

-- no request comes with it
pub not_asked : (laws : FrameLaws) (n : ℕ) (w : Cluster) (k ms : ℕ) → HasSource (frame_at w.frames k) → IsNotAsked n w (Rx n k ms)
not_asked laws n w k ms source message is =
    let its = laws.delivered (setting_for n) is.comes.server.sessions (arrival_at (frame_at w.frames is.comes.k) (max is.comes.server.now is.comes.ms)) is.request is.comes.gives in
    let same : k ≡ is.comes.k = cc (is.comes.comes) in
    source its.w.ident
    (ap (λ (j : ℕ). identifier_of (frame_at w.frames j).id) same
    ∙ (wanted_is (setting_for n).rows n (frame_at w.frames is.comes.k).id its.w its.accepted).read)
    (ap (λ (i : Ident). i.kind) (sym its.ident) ∙ is.anonymous)

-- a request of a device comes with this one
abbrev pub is_asked : RequestsAreDelivered → (n : ℕ) (w : Cluster) (k ms : ℕ) (message : Allocation) (server : AllocatorState) → (w.member n).status ≡ Up server
    → IsRequest (arrival_at (frame_at w.frames k) (max server.now ms)) message → IsAsked n message w (Rx n k ms)
is_asked delivered n w k ms message server up r = record {
  request = _;
  comes = record {
    k = k;
    ms = ms;
    comes = refl;
    server = server;
    runs = up;
    gives = delivered n server.sessions (arrival_at (frame_at w.frames k) (max server.now ms)) message r;
  };
  anonymous = r.kind;
  says = r.says;
}
