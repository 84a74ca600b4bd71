-- A schedule has one report.
use Rattle.std.proofs.Common.{◌≡◌, ◌≤◌, ◌<◌, ℕ, ◌+◌, List, [], ◌∷◌, ◌++◌, length, Some, None, refl, sym, ap, ◌∙◌, subst, arith, append_assoc, append-nil}
use Rattle.std.specs.declared.option.Option.{Option}
use Rattle.bus_rows.specs.declared.row.Row.{Row}
use Rattle.replay_text.specs.Lines.{BeginsWith, ReadsRows, after_line, first_line}
use Rattle.replay_text.specs.Schedule.{Reads}
use Rattle.bus_spec.specs.Cluster.{Cluster, after_rows, after_row}
use Rattle.bus_spec.specs.Lawful.{AreLawful, cause, number_of}
use Rattle.bus_spec.specs.Report.{line_of_row}
use Rattle.allocator_app.specs.WorldReport.{row_lines}
use Rattle.replay_text.specs.ReportText.{text_of_line}
use Rattle.bus_spec.specs.declared.unlawful.Unlawful.{Unlawful}
use Rattle.allocator_app.specs.InPart.{IsText, IsWrittenInPart}
use Rattle.allocator_app.specs.InPart.IsText.{OfRows, OfAll}
use Rattle.cmd_io.specs.Output.{WritesFront}
use Rattle.allocator_app.specs.Report.{IsBadRow, IsBeyond, IsRefused, IsReport, Says, bad_row_line, limit_line, unlawful_line}
use Rattle.cmd_io.specs.declared.status.Status.{Status}
use Rattle.cmd_io.specs.declared.status.Status.TheVariants.{Done, Usage, BadRow, Unlawful as IsUnlawful, ReadFault, WriteFault, Memory, Limit, LinkFault, DiskFault, Damaged, NoLeader, Uncommitted, Differ, AnotherLog, NoPart, NoValue}
use Rattle.cmd_io.proofs.Written.{front-of_more}

-- ---- rows are taken up to where none can be

-- no row of those that may still come is taken from the front of the bytes
abbrev IsStuck : ℕ → Cluster → List ℕ → Type 0
IsStuck limit w bytes = (row : Row) (rest : List ℕ) → BeginsWith row bytes rest → w.rows < limit → cause w row ≡ None → ⊥

pub rows-grow : (w : Cluster) (rows : List Row) → w.rows + length rows ≡ (after_rows w rows).rows
rows-grow w [] = omega arith
rows-grow w (row ∷ rows) = let more = rows-grow (after_row w row) rows in omega (arith, more)

some-same : {a b : List ℕ} → Some a ≡ Some b → a ≡ b
some-same e = cc

module _ (one_row : (a b : Row) (line : List ℕ) → Reads a line → Reads b line → a ≡ b) (limit : ℕ) where
  -- rows that were taken are the first of those that are taken up to where none can be
  along : (w : Cluster) (rows others : List Row) (bytes rest left : List ℕ) → ReadsRows rows bytes rest → AreLawful w rows →
      (after_rows w rows).rows ≤ limit → ReadsRows others bytes left → AreLawful w others → IsStuck limit (after_rows w others) left →
      (more : List Row) × ReadsRows more rest left × AreLawful (after_rows w rows) more × (after_rows w others ≡ after_rows (after_rows w rows) more)
      × (row_lines w others ≡ row_lines w rows ++ row_lines (after_rows w rows) more)
  along w [] others bytes rest left reads lawful within reads_all lawful_all stuck =
      (others, subst (λ b. ReadsRows others b left) reads reads_all, lawful_all, refl, refl)
  along w (row ∷ rows) [] bytes rest left reads lawful within reads_all lawful_all stuck =
      let more = rows-grow (after_row w row) rows in
      absurd (stuck row reads.0 (subst (λ b. BeginsWith row b reads.0) reads_all reads.1) (omega (arith, more, within)) lawful.0)
  along w (row ∷ rows) (other ∷ others) bytes rest left reads lawful within reads_all lawful_all stuck =
      let same : other ≡ row = one_row other row (first_line bytes) reads_all.1.reads reads.1.reads in
      let here : reads_all.0 ≡ reads.0 = some-same (sym reads_all.1.ended ∙ reads.1.ended) in
      let far = along (after_row w row) rows others reads.0 rest left reads.2 lawful.1 within
      (subst (λ b. ReadsRows others b left) here reads_all.2) (subst (λ r. AreLawful (after_row w r) others) same lawful_all.1)
      (subst (λ r. IsStuck limit (after_rows (after_row w r) others) left) same stuck) in
      let line = text_of_line (w.rows + 1) (line_of_row w row) in (
        far.0,
        far.1,
        far.2,
        ap (λ r. after_rows (after_row w r) others) same ∙ far.3,
        ap (λ r. text_of_line (w.rows + 1) (line_of_row w r) ++ row_lines (after_row w r) others) same ∙ ap (λ l. line ++ l) far.4
            ∙ sym (append_assoc line (row_lines (after_row w row) rows) (row_lines (after_rows (after_row w row) rows) far.0)),
      )

  -- ---- the end of a report

  stuck-at_end : (end : Cluster) (rest last : List ℕ) (status : Status) → Says limit end rest last status → IsStuck limit end rest
  stuck-at_end end rest last Done says row behind begins low takes =
      let none : after_line [] ≡ Some behind = sym (ap after_line says.0) ∙ begins.ended in
      cc
  stuck-at_end end rest last (BadRow number) says row behind begins low takes = says.0.bad.bad row behind begins
  stuck-at_end end rest last (IsUnlawful number cause_number) says row behind begins low takes =
      let refused = says.1 in
      let same : refused.row ≡ row = one_row refused.row row (first_line rest) refused.begins.reads begins.reads in
      let none : Some says.0 ≡ None = sym refused.refused ∙ ap (cause end) same ∙ takes in
      cc
  stuck-at_end end rest last (Limit number) says row behind begins low takes = let full = says.0.full in omega (arith, full, low)
  stuck-at_end end rest last Usage says row behind begins low takes = absurd says
  stuck-at_end end rest last ReadFault says row behind begins low takes = absurd says
  stuck-at_end end rest last WriteFault says row behind begins low takes = absurd says
  stuck-at_end end rest last Memory says row behind begins low takes = absurd says
  stuck-at_end end rest last (LinkFault id) says row behind begins low takes = absurd says
  stuck-at_end end rest last (DiskFault id) says row behind begins low takes = absurd says
  stuck-at_end end rest last (Damaged id key) says row behind begins low takes = absurd says
  stuck-at_end end rest last (Differ index a b) says row behind begins low takes = absurd says
  stuck-at_end end rest last NoPart says row behind begins low takes = absurd says
  stuck-at_end end rest last NoLeader says row behind begins low takes = absurd says
  stuck-at_end end rest last (Uncommitted id) says row behind begins low takes = absurd says
  stuck-at_end end rest last (AnotherLog id node) says row behind begins low takes = absurd says
  stuck-at_end end rest last NoValue says row behind begins low takes = absurd says

  -- ---- a schedule ends in one way

  done-bad : (w : Cluster) (rest : List ℕ) → rest ≡ [] → IsBadRow limit w rest → ⊥
  done-bad w rest e h = h.bad.left e

  done-refused : (w : Cluster) (rest : List ℕ) (why : Unlawful) → rest ≡ [] → IsRefused limit w rest why → ⊥
  done-refused w rest why e h =
      let none : after_line [] ≡ Some h.behind = sym (ap after_line e) ∙ h.begins.ended in
      cc

  bad-refused : (w : Cluster) (rest : List ℕ) (why : Unlawful) → IsBadRow limit w rest → IsRefused limit w rest why → ⊥
  bad-refused w rest why a b = a.bad.bad b.row b.behind b.begins

  full-low : (w : Cluster) (rest : List ℕ) → IsBeyond limit w rest → w.rows < limit → ⊥
  full-low w rest a low = let full = a.full in omega (arith, full, low)

  one_cause : (w : Cluster) (rest : List ℕ) (a b : Unlawful) → IsRefused limit w rest a → IsRefused limit w rest b → a ≡ b
  one_cause w rest a b p q =
      let same : p.row ≡ q.row = one_row p.row q.row (first_line rest) p.begins.reads q.begins.reads in
      let causes : Some a ≡ Some b = sym p.refused ∙ ap (cause w) same ∙ q.refused in
      cc

  one_end : (end : Cluster) (rest last other : List ℕ) (status ending : Status) → Says limit end rest last status → Says limit end rest other ending →
      (last ≡ other) × (status ≡ ending)
  one_end end rest last other Done Done p q = (p.1 ∙ sym q.1, refl)
  one_end end rest last other Done (BadRow b) p q = absurd (done-bad end rest p.0 q.0)
  one_end end rest last other Done (IsUnlawful b n) p q = absurd (done-refused end rest q.0 p.0 q.1)
  one_end end rest last other Done (Limit b) p q = absurd (q.0.more p.0)
  one_end end rest last other (BadRow a) Done p q = absurd (done-bad end rest q.0 p.0)
  one_end end rest last other (BadRow a) (BadRow b) p q =
      let same : a ≡ b = p.1 ∙ sym q.1 in
      (p.2 ∙ ap bad_row_line same ∙ sym q.2, ap BadRow same)
  one_end end rest last other (BadRow a) (IsUnlawful b n) p q = absurd (bad-refused end rest q.0 p.0 q.1)
  one_end end rest last other (BadRow a) (Limit b) p q = absurd (full-low end rest q.0 p.0.within)
  one_end end rest last other (IsUnlawful a m) Done p q = absurd (done-refused end rest p.0 q.0 p.1)
  one_end end rest last other (IsUnlawful a m) (BadRow b) p q = absurd (bad-refused end rest p.0 q.0 p.1)
  one_end end rest last other (IsUnlawful a m) (IsUnlawful b n) p q =
      let same : a ≡ b = p.2 ∙ sym q.2 in
      let cause_same : m ≡ n = p.3 ∙ ap number_of (one_cause end rest p.0 q.0 p.1 q.1) ∙ sym q.3 in
      (p.4 ∙ ap (λ r. unlawful_line r m) same ∙ ap (unlawful_line b) cause_same ∙ sym q.4, ap (λ r. IsUnlawful r m) same ∙ ap (IsUnlawful b) cause_same)
  one_end end rest last other (IsUnlawful a m) (Limit b) p q = absurd (full-low end rest q.0 p.1.within)
  one_end end rest last other (Limit a) Done p q = absurd (p.0.more q.0)
  one_end end rest last other (Limit a) (BadRow b) p q = absurd (full-low end rest p.0 q.0.within)
  one_end end rest last other (Limit a) (IsUnlawful b n) p q = absurd (full-low end rest p.0 q.1.within)
  one_end end rest last other (Limit a) (Limit b) p q =
      let same : a ≡ b = p.1 ∙ sym q.1 in
      (p.2 ∙ ap limit_line same ∙ sym q.2, ap Limit same)
  one_end end rest last other status Usage p q = absurd q
  one_end end rest last other status ReadFault p q = absurd q
  one_end end rest last other status WriteFault p q = absurd q
  one_end end rest last other status Memory p q = absurd q
  one_end end rest last other status (LinkFault id) p q = absurd q
  one_end end rest last other status (DiskFault id) p q = absurd q
  one_end end rest last other status (Damaged id key) p q = absurd q
  one_end end rest last other status (Differ index a b) p q = absurd q
  one_end end rest last other status NoPart p q = absurd q
  one_end end rest last other status NoLeader p q = absurd q
  one_end end rest last other status (Uncommitted id) p q = absurd q
  one_end end rest last other status (AnotherLog id node) p q = absurd q
  one_end end rest last other status NoValue p q = absurd q
  one_end end rest last other Usage ending p q = absurd p
  one_end end rest last other ReadFault ending p q = absurd p
  one_end end rest last other WriteFault ending p q = absurd p
  one_end end rest last other Memory ending p q = absurd p
  one_end end rest last other (LinkFault id) ending p q = absurd p
  one_end end rest last other (DiskFault id) ending p q = absurd p
  one_end end rest last other (Damaged id key) ending p q = absurd p
  one_end end rest last other (Differ index a b) ending p q = absurd p
  one_end end rest last other NoPart ending p q = absurd p
  one_end end rest last other NoLeader ending p q = absurd p
  one_end end rest last other (Uncommitted id) ending p q = absurd p
  one_end end rest last other (AnotherLog id node) ending p q = absurd p
  one_end end rest last other NoValue ending p q = absurd p

  -- where none can be taken, none more is
  none_more : (w : Cluster) (rows : List Row) (bytes rest : List ℕ) → IsStuck limit w bytes → ReadsRows rows bytes rest → AreLawful w rows →
      (after_rows w rows).rows ≤ limit → (bytes ≡ rest) × (rows ≡ [])
  none_more w [] bytes rest stuck reads lawful within = (reads, refl)
  none_more w (row ∷ rows) bytes rest stuck reads lawful within =
      let more = rows-grow (after_row w row) rows in
      absurd (stuck row reads.0 reads.1 (omega (arith, more, within)) lawful.0)

  -- reports of some bytes take the same rows: what is left behind them, where they lead, and their lines
  pub same_end : (first : Cluster) (bytes report other : List ℕ) (status ending : Status) (p : IsReport limit first bytes report status)
      (q : IsReport limit first bytes other ending) → (p.rest ≡ q.rest) × (q.end ≡ p.end) × (q.lines ≡ p.lines)
  same_end first bytes report other status ending p q =
      let p_end : p.end ≡ after_rows first p.comes.rows = p.comes.leaves in
      let q_end : q.end ≡ after_rows first q.comes.rows = q.comes.leaves in
      let p_says = subst (λ w. Says limit w p.rest p.last status) p_end p.says in
      let q_says = subst (λ w. Says limit w q.rest q.last ending) q_end q.says in
      let p_within = subst (λ (w : Cluster). w.rows ≤ limit) p_end p.within in
      let q_within = subst (λ (w : Cluster). w.rows ≤ limit) q_end q.within in
      let far = along first p.comes.rows q.comes.rows bytes p.rest q.rest p.comes.reads p.comes.lawful p_within q.comes.reads q.comes.lawful
      (stuck-at_end (after_rows first q.comes.rows) q.rest q.last ending q_says) in
      let here = after_rows first p.comes.rows in
      let none = none_more here far.0 p.rest q.rest (stuck-at_end here p.rest p.last status p_says) far.1 far.2
      (subst (λ (w : Cluster). w.rows ≤ limit) far.3 q_within) in (
        none.0,
        q_end ∙ far.3 ∙ ap (after_rows here) none.1 ∙ sym p_end,
        q.comes.lines_are ∙ far.4 ∙ ap (λ r. row_lines first p.comes.rows ++ row_lines here r) none.1 ∙ append-nil (row_lines first p.comes.rows)
            ∙ sym p.comes.lines_are,
      )

  pub one_report : (first : Cluster) (bytes report other : List ℕ) (status ending : Status) → IsReport limit first bytes report status →
      IsReport limit first bytes other ending → (report ≡ other) × (status ≡ ending)
  one_report first bytes report other status ending p q =
      let same = same_end first bytes report other status ending p q in
      let says : Says limit p.end p.rest q.last ending =
      subst (λ b. Says limit p.end b q.last ending) (sym same.0) (subst (λ w. Says limit w q.rest q.last ending) same.1 q.says) in
      let last = one_end p.end p.rest p.last q.last status ending p.says says in (
        p.written ∙ ap (λ l. p.lines ++ l) last.0 ∙ sym (ap (λ l. l ++ q.last) same.2) ∙ sym q.written,
        last.1,
      )

  pub begins_report : (first : Cluster) (bytes report : List ℕ) (status : Status) (left sink_before sink_now : Option (List ℕ)) →
      IsWrittenInPart limit first bytes left sink_before sink_now → IsReport limit first bytes report status → WritesFront sink_before sink_now report
  begins_report first bytes report status left sink_before sink_now written q = by written.is where
    by : IsText limit first bytes written.text written.rest → WritesFront sink_before sink_now report
    by (OfRows now comes within) =
        let q_end : q.end ≡ after_rows first q.comes.rows = q.comes.leaves in
        let q_says = subst (λ w. Says limit w q.rest q.last status) q_end q.says in
        let far = along first comes.rows q.comes.rows bytes written.rest q.rest comes.reads comes.lawful (subst (λ (w : Cluster). w.rows ≤ limit) comes.leaves within)
        q.comes.reads q.comes.lawful (stuck-at_end (after_rows first q.comes.rows) q.rest q.last status q_says) in
        let behind = row_lines (after_rows first comes.rows) far.0 in
        let all : q.lines ≡ written.text ++ behind = q.comes.lines_are ∙ far.4 ∙ ap (λ l. l ++ behind) (sym comes.lines_are) in
        subst (WritesFront sink_before sink_now) (sym (q.written ∙ ap (λ l. l ++ q.last) all ∙ append_assoc written.text behind q.last))
        (front-of_more sink_before sink_now written.text (behind ++ q.last) written.front)
    by (OfAll ending other rest_is) = subst (WritesFront sink_before sink_now) (one_report first bytes written.text report ending status other q).0 written.front
