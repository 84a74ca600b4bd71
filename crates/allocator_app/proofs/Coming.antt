-- Rows that are taken one after the other.
use Rattle.std.proofs.Common.{◌≡◌, ◌<◌, ℕ, ◌+◌, List, [], ◌∷◌, ◌++◌, refl, sym, ap, ◌∙◌, subst, append_assoc, append-nil, None, Some}
use Rattle.bus_rows.specs.declared.row.Row.{Row}
use Rattle.bus_rows.specs.declared.told.Told.{Told}
use Rattle.replay_text.specs.Lines.{BeginsWith, BeginsWithNoRow, ReadsRows}
use Rattle.bus_spec.specs.Cluster.{Cluster, after_rows, after_row}
use Rattle.bus_spec.specs.Lawful.{AreLawful, cause}
use Rattle.bus_spec.specs.OwnLogs.{GivesOnce, KeepsItsWord, OffersItsOwn}
use Rattle.bus_spec.specs.Report.{line_of_row}
use Rattle.allocator_app.specs.WorldReport.{row_lines}
use Rattle.bus_rows.specs.ReportLine.{report_line_of}
use Rattle.replay_text.specs.ReportText.{text_of_line}
use Rattle.bus_spec.specs.declared.unlawful.Unlawful.{Unlawful}
use Rattle.allocator_app.specs.Input.{FindsRow}
use Rattle.allocator_app.specs.Report.{ReadsUpTo, ReadsKeepingWord, IsBadRow, IsBeyond, IsRefused}

-- ---- lists of rows, one behind the other

ReadsRows-append : (a b : List Row) (x y z : List ℕ) → ReadsRows a x y → ReadsRows b y z → ReadsRows (a ++ b) x z
ReadsRows-append [] b x y z p q = subst (λ v. ReadsRows b v z) (sym p) q
ReadsRows-append (row ∷ a) b x y z p q = (p.0, p.1, ReadsRows-append a b p.0 y z p.2 q)

AreLawful-append : (w : Cluster) (a b : List Row) → AreLawful w a → AreLawful (after_rows w a) b → AreLawful w (a ++ b)
AreLawful-append w [] b p q = q
AreLawful-append w (row ∷ a) b p q = (p.0, AreLawful-append (after_row w row) a b p.1 q)

lines-append : (w : Cluster) (a b : List Row) → row_lines w (a ++ b) ≡ row_lines w a ++ row_lines (after_rows w a) b
lines-append w [] b = refl
lines-append w (row ∷ a) b =
    let line = text_of_line (w.rows + 1) (line_of_row w row) in
    ap (λ l. line ++ l) (lines-append (after_row w row) a b) ∙ sym (append_assoc line (row_lines (after_row w row) a) (row_lines (after_rows (after_row w row) a) b))

after-append : (w : Cluster) (a b : List Row) → after_rows w (a ++ b) ≡ after_rows (after_rows w a) b
after-append w [] b = refl
after-append w (row ∷ a) b = after-append (after_row w row) a b

pub comes-nil : (w : Cluster) (bytes : List ℕ) → ReadsUpTo w bytes [] w bytes
comes-nil w bytes = record { rows = []; reads = refl; lawful = tt; lines_are = refl; leaves = refl }

pub comes-one : (w : Cluster) (row : Row) (bytes rest : List ℕ) → BeginsWith row bytes rest → cause w row ≡ None →
    ReadsUpTo w bytes (text_of_line (w.rows + 1) (line_of_row w row)) (after_row w row) rest
comes-one w row bytes rest begins lawful = record {
  rows = row ∷ [];
  reads = (rest, begins, refl);
  lawful = (lawful, tt);
  lines_are = sym (append-nil (text_of_line (w.rows + 1) (line_of_row w row)));
  leaves = refl;
}

pub comes-join : (u v w : Cluster) (x y z l m : List ℕ) → ReadsUpTo u x l v y → ReadsUpTo v y m w z → ReadsUpTo u x (l ++ m) w z
comes-join u v w x y z l m p q = record {
  rows = p.rows ++ q.rows;
  reads = ReadsRows-append p.rows q.rows x y z p.reads q.reads;
  lawful = AreLawful-append u p.rows q.rows p.lawful (subst (λ s. AreLawful s q.rows) p.leaves q.lawful);
  lines_are = ap (λ k. l ++ k) q.lines_are ∙ ap (λ k. k ++ row_lines v q.rows) p.lines_are ∙ ap (λ s. row_lines u p.rows ++ row_lines s q.rows) p.leaves
      ∙ sym (lines-append u p.rows q.rows);
  leaves = q.leaves ∙ ap (λ s. after_rows s q.rows) p.leaves ∙ sym (after-append u p.rows q.rows);
}

-- ---- and each allocator keeps its word along them

Kept-append : (w : Cluster) (a b : List Row) → KeepsItsWord w a → KeepsItsWord (after_rows w a) b → KeepsItsWord w (a ++ b)
Kept-append w [] b p q = q
Kept-append w (row ∷ a) b p q = (p.0, p.1, Kept-append (after_row w row) a b p.2 q)

pub goes-nil : (w : Cluster) (bytes : List ℕ) → GivesOnce w → ReadsKeepingWord w bytes [] w bytes
unfolding comes-nil
goes-nil w bytes once = record { comes = comes-nil w bytes; kept = once }

pub goes-one : (w : Cluster) (row : Row) (bytes rest : List ℕ) → BeginsWith row bytes rest → cause w row ≡ None → GivesOnce w → OffersItsOwn w row →
    GivesOnce (after_row w row) → ReadsKeepingWord w bytes (text_of_line (w.rows + 1) (line_of_row w row)) (after_row w row) rest
unfolding comes-one
goes-one w row bytes rest begins lawful once own then = record { comes = comes-one w row bytes rest begins lawful; kept = (once, own, then) }

pub goes-join : (u v w : Cluster) (x y z l m : List ℕ) → ReadsKeepingWord u x l v y → ReadsKeepingWord v y m w z → ReadsKeepingWord u x (l ++ m) w z
unfolding comes-join
goes-join u v w x y z l m p q = record {
  comes = comes-join u v w x y z l m p.comes q.comes;
  kept = Kept-append u p.comes.rows q.comes.rows p.kept (subst (λ s. KeepsItsWord s q.comes.rows) p.comes.leaves q.kept);
}

-- one row more is taken
pub goes-more : (first w : Cluster) (row : Row) (t : Told) (waiting before behind lines line : List ℕ) (n : ℕ) →
    ((more : List ℕ) → ReadsKeepingWord first (waiting ++ more) lines w (before ++ more)) → FindsRow row before behind →
    cause w row ≡ None → report_line_of t ≡ line_of_row w row → GivesOnce w → OffersItsOwn w row → GivesOnce (after_row w row) → n ≡ w.rows + 1 → line ≡ text_of_line n (report_line_of t) →
    (more : List ℕ) → ReadsKeepingWord first (waiting ++ more) (lines ++ line) (after_row w row) (behind ++ more)
goes-more first w row t waiting before behind lines line n came found lawful tells once own then count is_line more =
    let one = goes-one w row (before ++ more) (behind ++ more) (found.begins more) lawful once own then in
    let told_so = is_line ∙ ap (text_of_line n) tells ∙ ap (λ k. text_of_line k (line_of_row w row)) count in
    goes-join first w (after_row w row) (waiting ++ more) (before ++ more) (behind ++ more) lines line (came more)
    (subst (λ l. ReadsKeepingWord w (before ++ more) l (after_row w row) (behind ++ more)) (sym told_so) one)

-- ---- the row that is not taken

pub refused-row : (limit : ℕ) (w : Cluster) (row : Row) (why : Unlawful) (before behind more : List ℕ) → FindsRow row before behind → w.rows < limit →
    cause w row ≡ Some why → IsRefused limit w (before ++ more) why
refused-row limit w row why before behind more found within refused = record {
  within = within;
  row = row;
  behind = behind ++ more;
  begins = found.begins more;
  refused = refused;
}

pub bad-row : (limit : ℕ) (w : Cluster) (bytes : List ℕ) → w.rows < limit → BeginsWithNoRow bytes → IsBadRow limit w bytes
bad-row limit w bytes within bad = record { within = within; bad = bad }

pub beyond : (limit : ℕ) (w : Cluster) (bytes more : List ℕ) → w.rows ≡ limit → (bytes ≡ [] → ⊥) → IsBeyond limit w (bytes ++ more)
beyond limit w [] more full some = absurd (some refl)
beyond limit w (byte ∷ bytes) more full some = record { full = full; more = λ e. cc }
