-- Where a calm begins: in a world that rows reach which do no harm.
use Rattle.std.proofs.Common.{◌≡◌, ◌≢◌, ℕ, ◌≤◌, Bool, true, false, List, refl, sym, ◌∙◌, ap, subst, arith, inl, inr, eq-eqb, Some}
use Rattle.std.specs.Prelude.{◌||◌, nat_eq, Ok}
use Rattle.std.proofs.lemmas.Bool.Decides.{eqb_tells}
use Rattle.std.proofs.lemmas.List.{length-replicate}
use Rattle.can_frame.specs.declared.identifier.Kind.TheVariants.{Response}
use Rattle.can_frame.specs.declared.step.What.{What}
use Rattle.can_frame.specs.declared.step.What.TheVariants.{Alloc, Disc, Stat, InfoQ, Info, VoteQ, Vote, AppQ, App}
use Rattle.can_frame.specs.Identifier.{identifier_number, identifier_of}
use Rattle.can_frame.specs.Kinds.{is_anonymous}
use Rattle.raft_model.specs.Lists.{In}
use Rattle.raft_model.specs.Runs as raft
use Rattle.bus_rows.specs.declared.row.Row.{Row}
use Rattle.transfer_rx.specs.Acceptance.{is_for, wanted}
use Rattle.transfer_tx.specs.Queue.{Queued}
use Rattle.alloc_spec.specs.Accepted.{rows, setting_for}
use Rattle.alloc_spec.specs.AllocatorState.{AllocatorState}
use Rattle.alloc_spec.specs.Transfers.{SentTransfer, frames_of, ident_of, kind_of, signature_of}
use Rattle.alloc_spec_laws.specs.Sound.{IsDestination}
use Rattle.bus_agreement.specs.LawsBelow.{FrameLaws}
use Rattle.bus_agreement.specs.Shows.{Shows, ShowsMember, ShowsUp}
use Rattle.bus_agreement.proofs.Idents.{ident_ok}
use Rattle.bus_agreement.proofs.Lists.{in_at}
use Rattle.service_calm.specs.Calm.{AreRunning, Member as OfMember, Party}
use Rattle.service_calm.specs.Comes.{IsHeard}
use Rattle.service_calm.proofs.Counting.{HasPlaces, IsCounted, counted_step}
use Rattle.service_calm.proofs.EachServer.{in_each}
use Rattle.service_calm.proofs.Frames.{has_its_id}
use Rattle.service_calm.proofs.Group.{AreWell, IsServer}
use Rattle.bus_spec.specs.Cluster.{Cluster, no_frame, world_of}
use Rattle.bus_spec.specs.Members.{MemberStatus}
use Rattle.bus_spec.specs.Members.MemberStatus.{Up}

-- ---- the counters of each server have their places

pub places_in : (ids : List ℕ) (list : List Row) (p : ℕ) (t : AllocatorState) → ((world_of ids list).member p).status ≡ Up t → HasPlaces t.ids
places_in = in_each (λ t. HasPlaces t.ids)
    (λ n rules store moment word. record { info = length-replicate {A = ℕ} 128 0; vote = length-replicate {A = ℕ} 128 0; append = length-replicate {A = ℕ} 128 0 })
    (λ t number event h. (counted_step Disc 0 refl t number event h).places) (λ t h. h)

-- ---- a group where a calm begins

module _ (ids : List ℕ) (choice : ℕ → Bool) (made : List SentTransfer) (w : Cluster) (run : raft.World) (shows : Shows choice made w run)
    (places : (p : ℕ) (t : AllocatorState) → (w.member p).status ≡ Up t → HasPlaces t.ids) where
  shown_up : (p : ℕ) (t : AllocatorState) → In p w.ids → (w.member p).status ≡ Up t → ShowsUp made w.ids w.frames run p t (w.member p).disk
  shown_up p t listed e = subst (λ (status : MemberStatus). ShowsMember choice made w.ids w.frames run p status (w.member p).disk) e (shows.lives p listed)

  -- a server of a member
  pub server_is : (p : ℕ) (t : AllocatorState) → In p w.ids → (w.member p).status ≡ Up t → IsServer p t
  server_is p t listed e =
      let up = shown_up p t listed e in
      record {
        me = up.runs.me;
        sound = up.runs.sound;
        places = places p t e;
        queue = λ frame i.
            let piece = up.works.queue frame i in
            record {
              what = piece.whose.offer.what;
              to = piece.whose.offer.to;
              id = has_its_id piece.whose frame (subst (λ (f : Queued). In f (frames_of piece.whose)) piece.same (in_at (frames_of piece.whose) frame.mark.place no_frame piece.place))
                  ∙ ap (λ (k : ℕ). identifier_number (ident_of k piece.whose.offer.what piece.whose.offer.to)) piece.maker;
              dest = (shows.holds.transfers.ranges piece.whose piece.was_made).to;
            };
      }

  pub well_in : (group : List Party) → ((p : ℕ) → In (OfMember p) group → In p w.ids) → AreRunning group w → AreWell group w
  well_in group listed running = record {
    members = λ p i. let r = running p i in record {
      server = r.server;
      up = record { status = r.runs; quiet = record { faults = r.faults; calls = r.disk } };
      its = server_is p r.server (listed p i) r.runs;
    };
    devices = λ a x i e. (shows.asking a x e).queue;
    narrow = shows.narrow;
  }

-- ---- what a member hears of another

pub heard_counted : (m : ℕ) (what : What) (to : ℕ) → m ≤ 125 → kind_of what ≢ Response → IsHeard m what to → IsCounted what to
heard_counted m Disc to high other heard = heard.1
heard_counted m Stat to high other heard = heard.1
heard_counted m InfoQ to high other heard = omega (arith, high, heard.1)
heard_counted m VoteQ to high other heard = omega (arith, high, heard.1)
heard_counted m AppQ to high other heard = omega (arith, high, heard.1)
heard_counted m Alloc to high other heard = absurd (heard.0 refl)
heard_counted m Info to high other heard = absurd (other refl)
heard_counted m Vote to high other heard = absurd (other refl)
heard_counted m App to high other heard = absurd (other refl)

a_node : (m to : ℕ) → (1 ≤ m) × (m ≤ 125) → to ≡ m → (1 ≤ to) × (to ≤ 127)
a_node m to node e = (omega (arith, node.0, e), omega (arith, node.1, e))

pub heard_dest : (m : ℕ) (what : What) (to : ℕ) → (1 ≤ m) × (m ≤ 125) → IsHeard m what to → IsDestination (kind_of what) to
heard_dest m Disc to node heard = heard.1
heard_dest m Stat to node heard = heard.1
heard_dest m InfoQ to node heard = a_node m to node heard.1
heard_dest m Info to node heard = a_node m to node heard.1
heard_dest m VoteQ to node heard = a_node m to node heard.1
heard_dest m Vote to node heard = a_node m to node heard.1
heard_dest m AppQ to node heard = a_node m to node heard.1
heard_dest m App to node heard = a_node m to node heard.1
heard_dest m Alloc to node heard = absurd (heard.0 refl)

pub heard_known : (m : ℕ) (what : What) (to : ℕ) → IsHeard m what to → is_anonymous (kind_of what) ≡ false
heard_known m Disc to heard = refl
heard_known m Stat to heard = refl
heard_known m InfoQ to heard = refl
heard_known m Info to heard = refl
heard_known m VoteQ to heard = refl
heard_known m Vote to heard = refl
heard_known m AppQ to heard = refl
heard_known m App to heard = refl
heard_known m Alloc to heard = absurd (heard.0 refl)

or_true : (b : Bool) → (b || true) ≡ true
or_true true = refl
or_true false = refl

differs : (n m : ℕ) → n ≢ m → nat_eq n m ≡ false
differs n m apart = elim (eqb_tells n m) [ inl z ↦ absurd (apart z.1) | inr z ↦ z.0 ]

pub heard_for : (n m : ℕ) (what : What) (to : ℕ) → n ≢ m → IsHeard m what to → is_for m (ident_of n what to) ≡ true
heard_for n m Disc to apart heard = rw (differs n m apart) (or_true (nat_eq m 0))
heard_for n m Stat to apart heard = rw (differs n m apart) (or_true (nat_eq m 0))
heard_for n m InfoQ to apart heard = rw (differs n m apart, eq-eqb to m heard.1) (or_true (nat_eq m 0))
heard_for n m Info to apart heard = rw (differs n m apart, eq-eqb to m heard.1) (or_true (nat_eq m 0))
heard_for n m VoteQ to apart heard = rw (differs n m apart, eq-eqb to m heard.1) (or_true (nat_eq m 0))
heard_for n m Vote to apart heard = rw (differs n m apart, eq-eqb to m heard.1) (or_true (nat_eq m 0))
heard_for n m AppQ to apart heard = rw (differs n m apart, eq-eqb to m heard.1) (or_true (nat_eq m 0))
heard_for n m App to apart heard = rw (differs n m apart, eq-eqb to m heard.1) (or_true (nat_eq m 0))
heard_for n m Alloc to apart heard = absurd (heard.0 refl)

module _ (laws : FrameLaws) (n m : ℕ) (node : (1 ≤ n) × (n ≤ 125)) (node_m : (1 ≤ m) × (m ≤ 125)) (apart : n ≢ m) (to : ℕ) where
  read : (what : What) → IsHeard m what to → identifier_of (identifier_number (ident_of n what to)) ≡ Some (ident_of n what to)
  read what heard = laws.ident_read (ident_of n what to) (ident_ok n what to node.0 node.1 (heard_dest m what to node_m heard))

  wants_it : (what : What) → IsHeard m what to → wanted rows m (identifier_number (ident_of n what to)) ≡ Ok (record { ident = ident_of n what to; signature = signature_of what })
  unfolding wanted rows
  wants_it Disc heard = rw (read Disc heard) (rw (heard_for n m Disc to apart heard) refl)
  wants_it Stat heard = rw (read Stat heard) (rw (heard_for n m Stat to apart heard) refl)
  wants_it InfoQ heard = rw (read InfoQ heard) (rw (heard_for n m InfoQ to apart heard) refl)
  wants_it VoteQ heard = rw (read VoteQ heard) (rw (heard_for n m VoteQ to apart heard) refl)
  wants_it AppQ heard = rw (read AppQ heard) (rw (heard_for n m AppQ to apart heard) refl)
  wants_it Alloc heard = absurd (heard.0 refl)
  wants_it Info heard = rw (read Info heard) (rw (heard_for n m Info to apart heard) refl)
  wants_it Vote heard = rw (read Vote heard) (rw (heard_for n m Vote to apart heard) refl)
  wants_it App heard = rw (read App heard) (rw (heard_for n m App to apart heard) refl)

  pub wants : (what : What) → IsHeard m what to → (signature : ℕ) → signature ≡ signature_of what
      → wanted (setting_for m).rows m (identifier_number (ident_of n what to)) ≡ Ok (record { ident = ident_of n what to; signature = signature })
  wants what heard signature same = wants_it what heard ∙ (λ i. Ok (record { ident = ident_of n what to; signature = sym same i }))
