-- Tests by which a trace may come: they are computed.
use Rattle.std.proofs.Common.{◌≡◌, ℕ, Bool, true, false, List, [], ◌∷◌, length, refl, ap, ◌∙◌, inl, inr, Option, Some, None}
use Rattle.std.specs.Prelude.{◌==◌, ◌&&◌, not, nat_le}
use Rattle.raft_model.specs.Lists.{In, how_many}
use Rattle.raft_model.specs.Server.{quorum}
use Rattle.raft_model.proofs.Complete.{and_left, and_right, not_true}
use Rattle.raft_model.proofs.Whole.{at_most}
use Rattle.raft_replaced.specs.Replacement.{backs, stores_of}
use Rattle.kv_store.specs.KeyDisk.{restarted_on}
use Rattle.raft_log.specs.Stored.{Stored}
use Rattle.bus_rows.specs.declared.row.Row.{Row}
use Rattle.bus_rows.specs.declared.row.Row.TheVariants.{Crash}
use Rattle.bus_spec.specs.Choices.{CrashAgreesWithDisk, RowAgreesWithDisk}
use Rattle.bus_spec.specs.Cluster.{Cluster, after_row, is_member}
use Rattle.bus_spec.specs.declared.unlawful.Unlawful.{Unlawful}
use Rattle.bus_spec.specs.declared.unlawful.Unlawful.TheVariants.{NoNode}
use Rattle.bus_spec.specs.Lawful.{because, cause}
use Rattle.bus_spec.specs.Members.{MemberStatus}
use Rattle.bus_spec.specs.Members.MemberStatus.{Down, Failed, Up}
use Rattle.bus_agreement.proofs.Lists.{never}
use Rattle.bus_agreement.proofs.RowsWithoutEvents.{eqb_is, is_one}
use Rattle.bus_replaced.specs.Traces.{AgreesAlong, ComeInTurn, Item, MayBeReplaced, as_stopped, brings_old_vote, replaced}
use Rattle.bus_replaced.specs.Traces.Item.{Replaces, Takes}

abbrev is_none : Option Unlawful → Bool
is_none None = true
is_none (Some why) = false

none_is : (o : Option Unlawful) → is_none o ≡ true → o ≡ None
none_is None e = refl
none_is (Some why) e = never e

abbrev is_down : MemberStatus → Bool
is_down Down = true
is_down (Up server) = false
is_down (Failed failure) = false

down_is : (status : MemberStatus) → is_down status ≡ true → status ≡ Down
down_is Down e = refl
down_is (Up server) e = never e
down_is (Failed failure) e = never e

abbrev are_down : Cluster → List ℕ → Bool
are_down w [] = true
are_down w (n ∷ ns) = is_down (w.member n).status && are_down w ns

down_each : (w : Cluster) (ns : List ℕ) → are_down w ns ≡ true → (n : ℕ) → In n ns → (w.member n).status ≡ Down
down_each w [] e n i = absurd i
down_each w (m ∷ ns) e n (inl same) =
    ap (λ (k : ℕ). (w.member k).status) same ∙ down_is (w.member m).status (and_left (is_down (w.member m).status) (are_down w ns) e)
down_each w (m ∷ ns) e n (inr i) = down_each w ns (and_right (is_down (w.member m).status) (are_down w ns) e) n i

-- the guard of a replacement
abbrev may_replace : Cluster → ℕ → ℕ → Bool
may_replace w lost leader = is_member w.ids lost && (is_member w.ids leader && (are_down w w.ids && (backs (stores_of (as_stopped w)) lost leader leader
    && (nat_le (quorum w.ids) (how_many (backs (stores_of (as_stopped w)) lost leader) w.ids) && ((stores_of (as_stopped w) leader).commit == length (stores_of (as_stopped w) leader).log)))))

listed : (w : Cluster) (n : ℕ) → is_member w.ids n ≡ true → In n w.ids
listed w n e = is_one w n (ap (λ (b : Bool). because NoNode (not b)) e)

may_is : (w : Cluster) (lost leader : ℕ) → may_replace w lost leader ≡ true → MayBeReplaced w lost leader
may_is w lost leader e =
    let e1 = and_right (is_member w.ids lost) _ e in
    let e2 = and_right (is_member w.ids leader) _ e1 in
    let e3 = and_right (are_down w w.ids) _ e2 in
    let e4 = and_right (backs (stores_of (as_stopped w)) lost leader leader) _ e3 in
    record {
      down = down_each w w.ids (and_left (are_down w w.ids) _ e2);
      listed = listed w leader (and_left (is_member w.ids leader) _ e1);
      guard = record {
        listed = listed w lost (and_left (is_member w.ids lost) _ e);
        down = λ n i. refl;
        own = and_left (backs (stores_of (as_stopped w)) lost leader leader) _ e3;
        majority = at_most (quorum w.ids) (how_many (backs (stores_of (as_stopped w)) lost leader) w.ids)
            (and_left (nat_le (quorum w.ids) (how_many (backs (stores_of (as_stopped w)) lost leader) w.ids)) _ e4);
        committed = eqb_is (stores_of (as_stopped w) leader).commit (length (stores_of (as_stopped w) leader).log)
            (and_right (nat_le (quorum w.ids) (how_many (backs (stores_of (as_stopped w)) lost leader) w.ids)) _ e4);
      };
    }

abbrev pub all_come : ℕ → Cluster → List Item → Bool
all_come old w [] = true
all_come old w (Takes row ∷ items) = is_none (cause w row) && (not (brings_old_vote old w row) && all_come old (after_row w row) items)
all_come old w (Replaces lost leader ∷ items) = may_replace w lost leader && all_come (length w.frames) (replaced w lost leader) items

pub come_if : (items : List Item) (old : ℕ) (w : Cluster) → all_come old w items ≡ true → ComeInTurn old w items
come_if [] old w e = tt
come_if (Takes row ∷ items) old w e =
    let rest = and_right (is_none (cause w row)) _ e in (
      inl (none_is (cause w row) (and_left (is_none (cause w row)) _ e)),
      not_true (brings_old_vote old w row) (and_left (not (brings_old_vote old w row)) _ rest),
      come_if items old (after_row w row) (and_right (not (brings_old_vote old w row)) _ rest),
    )
come_if (Replaces lost leader ∷ items) old w e = (
  may_is w lost leader (and_left (may_replace w lost leader) _ e),
  come_if items (length w.frames) (replaced w lost leader) (and_right (may_replace w lost leader) _ e),
)

-- ---- no member that stops had failed

abbrev not_failed : MemberStatus → Bool
not_failed Down = true
not_failed (Up server) = true
not_failed (Failed failure) = false

abbrev is_clear : Cluster → Row → Bool
is_clear w (Crash n calls pattern) = not_failed (w.member n).status
is_clear w row = true

abbrev pub are_clear : Cluster → List Item → Bool
are_clear w [] = true
are_clear w (Takes row ∷ items) = is_clear w row && are_clear (after_row w row) items
are_clear w (Replaces lost leader ∷ items) = are_clear (replaced w lost leader) items

stop_agrees : (at_once : Bool) (choice : ℕ → Bool) (status : MemberStatus) (found : Stored) → not_failed status ≡ true → CrashAgreesWithDisk at_once choice status found
stop_agrees false choice status found e = tt
stop_agrees true choice Down found e = tt
stop_agrees true choice (Up server) found e = tt
stop_agrees true choice (Failed failure) found e = never e

row_agrees : (choice : ℕ → Bool) (w : Cluster) (row : Row) → is_clear w row ≡ true → RowAgreesWithDisk choice w row
row_agrees choice w (Crash n calls pattern) e = stop_agrees (calls == 0) choice (w.member n).status (restarted_on pattern (w.member n).disk).store e
row_agrees choice w row e = tt

pub agree_if : (choice : ℕ → Bool) (items : List Item) (w : Cluster) → are_clear w items ≡ true → AgreesAlong choice w items
agree_if choice [] w e = tt
agree_if choice (Takes row ∷ items) w e =
    (row_agrees choice w row (and_left (is_clear w row) _ e), agree_if choice items (after_row w row) (and_right (is_clear w row) _ e))
agree_if choice (Replaces lost leader ∷ items) w e = agree_if choice items (replaced w lost leader) e
