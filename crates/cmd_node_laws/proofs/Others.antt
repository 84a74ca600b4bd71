-- What happens at one member leaves the others as they are.
use Rattle.std.proofs.Common.{◌≡◌, ◌≢◌, ℕ, Bool, true, false, List, [], ◌∷◌, ◌++◌, map, refl, sym, ap, ◌∙◌, inl, inr, Option, None, Some}
use Rattle.std.specs.Prelude.{⊤, ◌+◌, ◌*◌, if◌then◌else◌}
use Rattle.outside.specs.declared.pattern.Pattern.TheVariants.{Old}
use Rattle.std.proofs.lemmas.Bool.Decides.{eqb_tells}
use Rattle.raft_model.specs.Lists.{at_other}
use Rattle.bus_rows.specs.declared.row.Row.{Row}
use Rattle.bus_rows.specs.declared.row.Row.TheVariants.{AEnd, AOpen, ARx, ASend, ATick, Crash, Ext, Fault, Open, Rx, Send, Tick}
use Rattle.transfer_tx.specs.Queue.{Queued}
use Rattle.bus_spec.specs.Cluster.{Cluster, after_rows, in_list, after_row}
use Rattle.bus_agreement.proofs.Lists.{never}
use Rattle.bus_spec.specs.Members.{is_running, next_frame}
use Rattle.cmd_node.specs.Frames.{raw_of}
use Rattle.cmd_node_laws.specs.Traces.{Came, Event, FromElsewhere, DiesInTurn, DiesAtOpening, MayHappen, OfOthers, Opens, Silence, Stops, Turns, WasSent, came_rows, is_of_others, out_rows, rows_of, send_if, while_running}
use Rattle.cmd_node_laws.specs.Mirrored.{raw_by, sent_by, sent_in}
use Rattle.cmd_node_laws.specs.Processes.{whose}

-- the row is of this member, or of no member
abbrev pub IsAt : Option ℕ → Row → Type 0
IsAt whom (Open m told ms word) = Some m ≡ whom
IsAt whom (Tick m ms word) = Some m ≡ whom
IsAt whom (Rx m k ms) = Some m ≡ whom
IsAt whom (Send m) = Some m ≡ whom
IsAt whom (Ext frame) = ⊤
IsAt whom (Crash m calls pattern) = Some m ≡ whom
IsAt whom (Fault m call) = Some m ≡ whom
IsAt whom (AOpen a uid pref ms word) = ⊤
IsAt whom (ATick a ms word) = ⊤
IsAt whom (ARx a k ms word) = ⊤
IsAt whom (ASend a) = ⊤
IsAt whom (AEnd a) = ⊤

abbrev AreAt : Option ℕ → List Row → Type 0
AreAt whom [] = ⊤
AreAt whom (row ∷ rows) = IsAt whom row × AreAt whom rows

both_at : (whom : Option ℕ) (first rest : List Row) → AreAt whom first → AreAt whom rest → AreAt whom (first ++ rest)
both_at whom [] rest a b = b
both_at whom (row ∷ first) rest a b = (a.0, both_at whom first rest a.1 b)

module _ (whom : Option ℕ) (m : ℕ) (apart : Some m ≡ whom → ⊥) where
  other : (k : ℕ) → Some k ≡ whom → m ≢ k
  other k e f = apart (ap (λ (j : ℕ). Some j) f ∙ e)

  pub row_member : (w : Cluster) (row : Row) → IsAt whom row → (after_row w row).member m ≡ w.member m
  row_member w (Open k told ms word) is = at_other w.member k m _ (other k is)
  row_member w (Tick k ms word) is = at_other w.member k m _ (other k is)
  row_member w (Rx k frame ms) is = at_other w.member k m _ (other k is)
  row_member w (Send k) is = at_other w.member k m _ (other k is)
  row_member w (Ext frame) is = refl
  row_member w (Crash k calls pattern) is = at_other w.member k m _ (other k is)
  row_member w (Fault k call) is = at_other w.member k m _ (other k is)
  row_member w (AOpen a uid pref ms word) is = refl
  row_member w (ATick a ms word) is = refl
  row_member w (ARx a k ms word) is = refl
  row_member w (ASend a) is = refl
  row_member w (AEnd a) is = refl

  pub row_sent : (w : Cluster) (row : Row) → IsAt whom row → sent_in m w row ≡ []
  row_sent w (Open k told ms word) is = refl
  row_sent w (Tick k ms word) is = refl
  row_sent w (Rx k frame ms) is = refl
  row_sent w (Send k) is = elim (eqb_tells k m) [
    | inl same ↦ absurd (apart (ap (λ (j : ℕ). Some j) (sym same.1) ∙ is))
    | inr not_same ↦ ap (λ (b : Bool). if b then in_list (next_frame (w.member k).status) else []) not_same.0
  ]
  row_sent w (Ext frame) is = refl
  row_sent w (Crash k calls pattern) is = refl
  row_sent w (Fault k call) is = refl
  row_sent w (AOpen a uid pref ms word) is = refl
  row_sent w (ATick a ms word) is = refl
  row_sent w (ARx a k ms word) is = refl
  row_sent w (ASend a) is = refl
  row_sent w (AEnd a) is = refl

  rows_member : (w : Cluster) (rows : List Row) → AreAt whom rows → (after_rows w rows).member m ≡ w.member m
  rows_member w [] is = refl
  rows_member w (row ∷ rows) is = rows_member (after_row w row) rows is.1 ∙ row_member w row is.0

  rows_sent : (w : Cluster) (rows : List Row) → AreAt whom rows → sent_by m w rows ≡ []
  rows_sent w [] is = refl
  rows_sent w (row ∷ rows) is = λ i. row_sent w row is.0 i ++ rows_sent (after_row w row) rows is.1 i

-- the rows of what happens are at its member

came_at : (n moment : ℕ) (came : Came) (w : Cluster) → AreAt (Some n) (came_rows n moment came w)
came_at n moment Silence w = tt
came_at n moment (WasSent k) w = (refl, tt)
came_at n moment (FromElsewhere frame) w = (tt, (refl, tt))

send_at : (n : ℕ) (o : Option Queued) → AreAt (Some n) (send_if n o)
send_at n None = tt
send_at n (Some frame) = (refl, tt)

if_at : (n : ℕ) (b : Bool) (rows : List Row) → AreAt (Some n) rows → AreAt (Some n) (if b then rows else [])
if_at n true rows is = is
if_at n false rows is = tt

allocatee_at : (row : Row) → is_of_others row ≡ true → AreAt None (row ∷ [])
allocatee_at (Open n told ms word) is = never is
allocatee_at (Tick n ms word) is = never is
allocatee_at (Rx n k ms) is = never is
allocatee_at (Send n) is = never is
allocatee_at (Ext frame) is = (tt, tt)
allocatee_at (Crash n calls pattern) is = never is
allocatee_at (Fault n call) is = never is
allocatee_at (AOpen a uid pref ms word) is = (tt, tt)
allocatee_at (ATick a ms word) is = (tt, tt)
allocatee_at (ARx a k ms word) is = (tt, tt)
allocatee_at (ASend a) is = (tt, tt)
allocatee_at (AEnd a) is = (tt, tt)

event_at : (event : Event) (w : Cluster) → MayHappen event w → AreAt (whose event) (rows_of event w)
event_at (Opens n told moment word) w may = (refl, tt)
event_at (DiesAtOpening n told moment word puts) w may = (refl, (refl, if_at n (is_running (w2.member n).status) (Crash n 0 Old ∷ []) (refl, tt)))
  where
    w2 : Cluster
    w2 = after_rows w (Crash n (4 * puts + 3) Old ∷ Open n told moment word ∷ [])
event_at (Turns n moment word came) w may = (refl, both_at (Some n) (came_rows n moment came w1) (out_rows n w2) (came_at n moment came w1) (send_at n (next_frame (w2.member n).status)))
  where
    w1 : Cluster
    w1 = after_row w (Tick n moment word)

    w2 : Cluster
    w2 = after_rows w1 (came_rows n moment came w1)
event_at (Stops n) w may = (refl, tt)
event_at (DiesInTurn n moment word came puts) w may = (
  refl,
  (
    refl,
    both_at (Some n) (while_running n (came_rows n moment came) w2) (while_running n (λ v. Crash n 0 Old ∷ []) w3)
        (if_at n (is_running (w2.member n).status) (came_rows n moment came w2) (came_at n moment came w2)) (if_at n (is_running (w3.member n).status) (Crash n 0 Old ∷ []) (refl, tt)),
  ),
)
  where
    w2 : Cluster
    w2 = after_rows w (Crash n (4 * puts + 1) Old ∷ Tick n moment word ∷ [])

    w3 : Cluster
    w3 = after_rows w2 (while_running n (came_rows n moment came) w2)
event_at (OfOthers row) w may = allocatee_at row may.0

-- the event is not of this member
abbrev pub IsOfAnother : ℕ → Event → Type 0
IsOfAnother m event = Some m ≡ whose event → ⊥

pub others_stay : (event : Event) (w : Cluster) (m : ℕ) → MayHappen event w → IsOfAnother m event → (after_rows w (rows_of event w)).member m ≡ w.member m
others_stay event w m may apart = rows_member (whose event) m apart w (rows_of event w) (event_at event w may)

pub others_send : (event : Event) (w : Cluster) (m : ℕ) → MayHappen event w → IsOfAnother m event → raw_by m w (rows_of event w) ≡ []
others_send event w m may apart = ap (λ (l : List Queued). map raw_of l) (rows_sent (whose event) m apart w (rows_of event w) (event_at event w may))
