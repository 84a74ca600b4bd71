-- A log has one report.
use Rattle.std.proofs.Common.{◌≡◌, ◌∙◌, ◌<◌, ◌≤◌, ◌+◌, ℕ, suc, List, [], ◌∷◌, ◌++◌, length, drop, refl, sym, ap, subst, arith, append_assoc, Some}
use Rattle.std.specs.declared.option.Option.{Option}
use Rattle.outside.specs.Faults.{Rose}
use Rattle.cmd_io.specs.declared.status.Status.{Status}
use Rattle.cmd_io.specs.declared.status.Status.TheVariants.{Done, Usage, BadRow, Unlawful, ReadFault, WriteFault, Memory, Limit, LinkFault, DiskFault, Damaged, NoLeader, Uncommitted, Differ, AnotherLog, NoPart, NoValue}
use Rattle.can_logs.proofs.Splits.{one_cut}
use Rattle.can_logs.specs.declared.form.Form.{Form}
use Rattle.can_logs.specs.declared.form.Line.{Line}
use Rattle.can_logs.specs.Forms.{Says, bells, end_of}
use Rattle.cmd_logs.specs.Lines.{BeginsWithLine, LineBegins, ReadsLines}
use Rattle.cmd_logs.specs.Report.{Ends, EndsAs, IsOfLog, IsReport, IsWrittenInPart, ReadsLog, Reports, TellsMore, last_line}
use Rattle.cmd_logs.specs.Report.IsWrittenInPart.{InLines, AtTheEnd}
use Rattle.cmd_io.specs.Output.{WritesFront}
use Rattle.cmd_io.proofs.Written.{front-of_more}
use Rattle.cmd_logs.proofs.Ends.{read_begins}

module _ (form : Form) (limit : ℕ) where
  -- no line is read where the lines end
  ends_there : (taken : ℕ) (rest : List ℕ) (status : Status) (said : Line) (more : List ℕ) → EndsAs form limit taken rest status →
      BeginsWithLine form said rest more → taken < limit → ⊥
  ends_there taken rest Done said more ends begins low = ends (read_begins form said rest more begins)
  ends_there taken rest (BadRow line) said more ends begins low = ends.1.bad said more begins
  ends_there taken rest (Limit line) said more ends begins low = let full = ends.0 in omega (arith, full, low)
  ends_there taken rest Usage said more ends begins low = absurd ends
  ends_there taken rest (Unlawful row cause) said more ends begins low = absurd ends
  ends_there taken rest ReadFault said more ends begins low = absurd ends
  ends_there taken rest WriteFault said more ends begins low = absurd ends
  ends_there taken rest Memory said more ends begins low = absurd ends
  ends_there taken rest (LinkFault id) said more ends begins low = absurd ends
  ends_there taken rest (DiskFault id) said more ends begins low = absurd ends
  ends_there taken rest (Damaged id key) said more ends begins low = absurd ends
  ends_there taken rest (Differ index first second) said more ends begins low = absurd ends
  ends_there taken rest NoPart said more ends begins low = absurd ends
  ends_there taken rest NoLeader said more ends begins low = absurd ends
  ends_there taken rest (Uncommitted id) said more ends begins low = absurd ends
  ends_there taken rest (AnotherLog id node) said more ends begins low = absurd ends
  ends_there taken rest NoValue said more ends begins low = absurd ends

  -- the lines end there in one way
  one_end : (taken : ℕ) (rest : List ℕ) (status other : Status) → EndsAs form limit taken rest status → EndsAs form limit taken rest other → status ≡ other
  one_end taken rest Done Done p q = refl
  one_end taken rest Done (BadRow b) p q = absurd (p q.1.begins)
  one_end taken rest Done (Limit b) p q = absurd (p q.1)
  one_end taken rest (BadRow a) Done p q = absurd (q p.1.begins)
  one_end taken rest (BadRow a) (BadRow b) p q = ap BadRow (p.2 ∙ sym q.2)
  one_end taken rest (BadRow a) (Limit b) p q = let low = p.0 in let full = q.0 in absurd (omega (arith, low, full))
  one_end taken rest (Limit a) Done p q = absurd (q p.1)
  one_end taken rest (Limit a) (BadRow b) p q = let low = q.0 in let full = p.0 in absurd (omega (arith, low, full))
  one_end taken rest (Limit a) (Limit b) p q = ap Limit (p.2 ∙ sym q.2)
  one_end taken rest status Usage p q = absurd q
  one_end taken rest status (Unlawful row cause) p q = absurd q
  one_end taken rest status ReadFault p q = absurd q
  one_end taken rest status WriteFault p q = absurd q
  one_end taken rest status Memory p q = absurd q
  one_end taken rest status (LinkFault id) p q = absurd q
  one_end taken rest status (DiskFault id) p q = absurd q
  one_end taken rest status (Damaged id key) p q = absurd q
  one_end taken rest status (Differ index first second) p q = absurd q
  one_end taken rest status NoPart p q = absurd q
  one_end taken rest status NoLeader p q = absurd q
  one_end taken rest status (Uncommitted id) p q = absurd q
  one_end taken rest status (AnotherLog id node) p q = absurd q
  one_end taken rest status NoValue p q = absurd q
  one_end taken rest Usage other p q = absurd p
  one_end taken rest (Unlawful row cause) other p q = absurd p
  one_end taken rest ReadFault other p q = absurd p
  one_end taken rest WriteFault other p q = absurd p
  one_end taken rest Memory other p q = absurd p
  one_end taken rest (LinkFault id) other p q = absurd p
  one_end taken rest (DiskFault id) other p q = absurd p
  one_end taken rest (Damaged id key) other p q = absurd p
  one_end taken rest (Differ index first second) other p q = absurd p
  one_end taken rest NoPart other p q = absurd p
  one_end taken rest NoLeader other p q = absurd p
  one_end taken rest (Uncommitted id) other p q = absurd p
  one_end taken rest (AnotherLog id node) other p q = absurd p
  one_end taken rest NoValue other p q = absurd p

  -- the text of a line, without its bells
  abbrev text_of : List ℕ → List ℕ
  text_of line = drop (bells form line) line

  module _ (one_said : (a b : Line) (text : List ℕ) → Says form a text → Says form b text → a ≡ b) where
    one_line : (a b : Line) (bytes rest more : List ℕ) → BeginsWithLine form a bytes rest → BeginsWithLine form b bytes more → (a ≡ b) × (rest ≡ more)
    one_line a b bytes rest more p q =
        let cut = one_cut (end_of form) bytes p.line rest q.line more p.one_line p.spelled q.one_line q.spelled in
        (one_said a b (text_of q.line) (subst (λ line. Says form a (text_of line)) cut.0 p.says) q.says, cut.1)

    -- lines up to their end, from so many on
    one_log : (a b : List Line) (before : ℕ) (bytes r s : List ℕ) (status other : Status) → ReadsLines form a bytes r → ReadsLines form b bytes s →
        before + length a ≤ limit → before + length b ≤ limit → EndsAs form limit (before + length a) r status → EndsAs form limit (before + length b) s other →
        (a ≡ b) × (status ≡ other)
    one_log [] [] before bytes r s status other p q p_few q_few p_ends q_ends =
        (refl, one_end (before + 0) s status other (subst (λ rest. EndsAs form limit (before + 0) rest status) (sym p ∙ q) p_ends) q_ends)
    one_log [] (y ∷ b) before bytes r s status other p q p_few q_few p_ends q_ends =
        absurd (ends_there (before + 0) bytes status y q.0 (subst (λ rest. EndsAs form limit (before + 0) rest status) (sym p) p_ends) q.1 (omega arith))
    one_log (x ∷ a) [] before bytes r s status other p q p_few q_few p_ends q_ends =
        absurd (ends_there (before + 0) bytes other x p.0 (subst (λ rest. EndsAs form limit (before + 0) rest other) (sym q) q_ends) p.1 (omega arith))
    one_log (x ∷ a) (y ∷ b) before bytes r s status other p q p_few q_few p_ends q_ends =
        let first = one_line x y bytes p.0 q.0 p.1 q.1 in
        let p_count : before + suc (length a) ≡ suc before + length a = omega arith in
        let q_count : before + suc (length b) ≡ suc before + length b = omega arith in
        let rest =
        one_log a b (suc before) q.0 r s status other (subst (λ from. ReadsLines form a from r) first.1 p.2) q.2 (omega arith) (omega arith)
        (subst (λ n. EndsAs form limit n r status) p_count p_ends) (subst (λ n. EndsAs form limit n s other) q_count q_ends) in
        (ap (λ l. l ∷ a) first.0 ∙ ap (λ l. y ∷ l) rest.0, rest.1)

    one_reading : (a b : List Line) (bytes : List ℕ) (status other : Status) → ReadsLog form limit bytes a status → ReadsLog form limit bytes b other →
        (a ≡ b) × (status ≡ other)
    one_reading a b bytes status other p q =
        let none : (n : ℕ) → n ≡ 0 + n = λ n. omega arith in
        let p_few = p.within in
        let q_few = q.within in
        one_log a b 0 bytes p.rest q.rest status other p.reads q.reads (omega arith) (omega arith)
        (subst (λ n. EndsAs form limit n p.rest status) (none (length a)) p.ends) (subst (λ n. EndsAs form limit n q.rest other) (none (length b)) q.ends)

    -- lines that are read are a front of those up to the end
    front_of : (a b : List Line) (before : ℕ) (bytes r s : List ℕ) (status : Status) → ReadsLines form a bytes r → ReadsLines form b bytes s →
        before + length a ≤ limit → EndsAs form limit (before + length b) s status → (more : List Line) × (b ≡ a ++ more)
    front_of [] b before bytes r s status p q few ends = (b, refl)
    front_of (x ∷ a) [] before bytes r s status p q few ends =
        absurd (ends_there (before + 0) bytes status x p.0 (subst (λ rest. EndsAs form limit (before + 0) rest status) (sym q) ends) p.1 (omega arith))
    front_of (x ∷ a) (y ∷ b) before bytes r s status p q few ends =
        let first = one_line x y bytes p.0 q.0 p.1 q.1 in
        let count : before + suc (length b) ≡ suc before + length b = omega arith in
        let rest =
        front_of a b (suc before) q.0 r s status (subst (λ from. ReadsLines form a from r) first.1 p.2) q.2 (omega arith)
        (subst (λ n. EndsAs form limit n s status) count ends) in
        (rest.0, ap (λ l. y ∷ l) rest.1 ∙ ap (λ l. l ∷ (a ++ rest.0)) (sym first.0))

    front_of_log : (a b : List Line) (bytes r : List ℕ) (status : Status) → ReadsLines form a bytes r → length a ≤ limit → ReadsLog form limit bytes b status →
        (more : List Line) × (b ≡ a ++ more)
    front_of_log a b bytes r status p few q =
        let none : length b ≡ 0 + length b = omega arith in
        front_of a b 0 bytes r q.rest status p q.reads (omega arith) (subst (λ n. EndsAs form limit n q.rest status) none q.ends)

-- a line says one thing
abbrev pub SaysOne : Type 0
SaysOne = (form : Form) (a b : Line) (text : List ℕ) → Says form a text → Says form b text → a ≡ b

-- a log has one report, with one status
pub one_report : SaysOne → (listing : List Line → List ℕ) (end : ℕ → List ℕ) (form : Form) (limit : ℕ) (bytes report other : List ℕ) (status ending : Status) →
    IsReport listing end form limit bytes report status → IsReport listing end form limit bytes other ending → (report ≡ other) × (status ≡ ending)
one_report one listing end form limit bytes report other status ending p q =
    let same = one_reading form limit (one form) p.lines q.lines bytes status ending p.log q.log in (
      p.written ∙ ap (λ lines. listing lines ++ last_line (end (length lines)) status) same.0
          ∙ ap (λ s. listing q.lines ++ last_line (end (length q.lines)) s) same.1 ∙ sym q.written,
      same.1,
    )

-- ---- what a sink has that failed is a front of the report

-- it is so whether the sink failed at a line or at the end
pub written_front : SaysOne → (listing : List Line → List ℕ) (end : ℕ → List ℕ) (form : Form) (limit : ℕ) (bytes report : List ℕ) (status : Status)
    (left sink sink_now : Option (List ℕ)) → TellsMore listing → IsWrittenInPart listing end form limit bytes left sink sink_now →
    IsReport listing end form limit bytes report status → WritesFront sink sink_now report
written_front one listing end form limit bytes report status left sink sink_now tells (AtTheEnd other ending is front no_further ahead) reported =
    subst (WritesFront sink sink_now) (one_report one listing end form limit bytes other report ending status is reported).0 front
written_front one listing end form limit bytes report status left sink sink_now tells (InLines lines rest reads few front no_further ahead) reported =
    let all = front_of_log form limit (one form) lines reported.lines bytes rest status reads few reported.log in
    let more = tells lines all.0 in
    let last = last_line (end (length reported.lines)) status in
    let same : report ≡ listing lines ++ (more.0 ++ last) =
    reported.written ∙ ap (λ l. listing l ++ last) all.1 ∙ ap (λ t. t ++ last) more.1 ∙ append_assoc (listing lines) more.0 last in
    subst (WritesFront sink sink_now) (sym same) (front-of_more sink sink_now (listing lines) (more.0 ++ last) front)

-- ---- a run comes to the report, unless something fails

module _ (one : SaysOne) (listing : List Line → List ℕ) (end : ℕ → List ℕ) (form : Form) (limit : ℕ) where
  come : (status : Status) (bytes report : List ℕ) (ending : Status) (left sink sink_now : Option (List ℕ)) →
      Ends listing end form limit bytes left sink sink_now status → IsReport listing end form limit bytes report ending →
      (status ≡ ReadFault → ⊥) → (status ≡ WriteFault → ⊥) → status ≡ ending
  come Done bytes report ending left sink sink_now ends is read write =
      (one_report one listing end form limit bytes ends.report report Done ending ends.is is).1
  come (BadRow line) bytes report ending left sink sink_now ends is read write =
      (one_report one listing end form limit bytes ends.report report (BadRow line) ending ends.is is).1
  come (Limit line) bytes report ending left sink sink_now ends is read write =
      (one_report one listing end form limit bytes ends.report report (Limit line) ending ends.is is).1
  come ReadFault bytes report ending left sink sink_now ends is read write = absurd (read refl)
  come WriteFault bytes report ending left sink sink_now ends is read write = absurd (write refl)
  come Usage bytes report ending left sink sink_now ends is read write = absurd ends
  come (Unlawful row cause) bytes report ending left sink sink_now ends is read write = absurd ends
  come Memory bytes report ending left sink sink_now ends is read write = absurd ends
  come (LinkFault id) bytes report ending left sink sink_now ends is read write = absurd ends
  come (DiskFault id) bytes report ending left sink sink_now ends is read write = absurd ends
  come (Damaged id key) bytes report ending left sink sink_now ends is read write = absurd ends
  come (Differ index first second) bytes report ending left sink sink_now ends is read write = absurd ends
  come NoPart bytes report ending left sink sink_now ends is read write = absurd ends
  come NoLeader bytes report ending left sink sink_now ends is read write = absurd ends
  come (Uncommitted id) bytes report ending left sink sink_now ends is read write = absurd ends
  come (AnotherLog id node) bytes report ending left sink sink_now ends is read write = absurd ends
  come NoValue bytes report ending left sink sink_now ends is read write = absurd ends

  -- lines that all read, as many as may come, have a report that ends with `Done`
  all_read : (bytes rest : List ℕ) (lines : List Line) → ReadsLines form lines bytes rest → (LineBegins form rest → ⊥) → length lines ≤ limit →
      IsReport listing end form limit bytes (listing lines ++ end (length lines)) Done
  all_read bytes rest lines reads none few = record {
    lines = lines;
    log = record { rest = rest; reads = reads; within = few; ends = none };
    written = refl;
  }

  pub reports : (left_old left : Option (List ℕ)) (read_old read wrote_old wrote : ℕ) (sink sink_now : Option (List ℕ)) (status : Status) →
      IsOfLog status → ((bytes : List ℕ) → left_old ≡ Some bytes → Ends listing end form limit bytes left sink sink_now status) →
      (status ≡ ReadFault → Rose read_old read) → (status ≡ WriteFault → Rose wrote_old wrote) →
      Reports listing end form limit left_old left read_old read wrote_old wrote sink sink_now status
  reports left_old left read_old read wrote_old wrote sink sink_now status kinds ends rose_read rose_write = record {
    kinds = kinds;
    ends = ends;
    complete = λ bytes report ending is reported no_read no_write.
        come status bytes report ending left sink sink_now (ends bytes is) reported (λ e. no_read (rose_read e)) (λ e. no_write (rose_write e));
    finishes = λ bytes rest lines is reads none few no_read no_write.
        come status bytes (listing lines ++ end (length lines)) Done left sink sink_now (ends bytes is) (all_read bytes rest lines reads none few)
        (λ e. no_read (rose_read e)) (λ e. no_write (rose_write e));
  }
