-- A log that is read line by line.
use Rattle.std.proofs.Common.{◌≡◌, ℕ, ◌+◌, ◌-◌, ◌≤◌, ◌<◌, ◌⊎◌, inl, inr, Bool, true, false, List, [], ◌∷◌, ◌++◌, length, Some, None, Result, Ok, Err, refl, sym, ap, ◌∙◌, subst, arith, append_assoc, append-nil, length-append}
use Rattle.std.specs.declared.option.Option.{Option}
use Rattle.std.specs.Io.KnownBytes.{Appends, Consumes, IsAtEnd, Keeps, append_known}
use Rattle.std.proofs.KnownBytes.{Appends-nil, Appends-trans}
use Rattle.outside.specs.Faults.{Rose}
use Rattle.cmd_io.specs.Input.{HasNoLineEnd, ReadsMore}
use Rattle.cmd_io.specs.NoFurther.{ReadsNoFurther}
use Rattle.cmd_io.specs.Output.{Grows, WritesFront}
use Rattle.cmd_io.specs.declared.status.Status.{Status}
use Rattle.cmd_io.specs.declared.status.Status.TheVariants.{Done, Usage, BadRow, Limit, ReadFault, WriteFault, Memory}
use Rattle.cmd_io.proofs.Written.{flushed, front-behind, front-on, grows-front, grows-refl, grows-trans}
use Rattle.can_logs.specs.declared.form.Form.{Form}
use Rattle.can_logs.specs.declared.form.Line.{Line}
use Rattle.cmd_logs.specs.declared.log.End.{End}
use Rattle.cmd_logs.specs.declared.log.End.TheVariants as end
use Rattle.cmd_logs.specs.declared.log.Fault.{Fault}
use Rattle.cmd_logs.specs.declared.log.Fault.TheVariants.{Source, Sink}
use Rattle.cmd_logs.specs.declared.log.Next.{Next}
use Rattle.cmd_logs.specs.declared.log.Next.TheVariants as next
use Rattle.can_logs.specs.Forms.{end_of}
use Rattle.cmd_logs.specs.Lines.{BeginsWithLine, BeginsWithNoLine, FindsLine, LineBegins, ReadsLines}
use Rattle.cmd_logs.specs.Report.{EndsAs, IsReadInPart, IsReport, IsTold, IsWrittenInPart, ReadsAhead, last_line}
use Rattle.cmd_logs.specs.Report.IsWrittenInPart.{InLines, AtTheEnd}
use Rattle.cmd_logs.specs.Walking.{Comes, Counts, EndsSo, Fails, FailsBehind, HasNext, ReadsBehind, ReadsNext, SameBytes, SoFar, Takes, WaitsOn, Walks, status_of}
use Rattle.cmd_logs.proofs.Ends.{unended_line}

-- ---- the source is read behind what waits

consumed : (ahead came : List ℕ) (left : Option (List ℕ)) → Consumes (Some ahead) left came →
    (rest : List ℕ) × (left ≡ Some rest) × (ahead ≡ came ++ rest)
consumed ahead came None h = absurd h
consumed ahead came (Some rest) h = (rest, refl, h)

same_more : {some : Bool} (waiting input filled : List ℕ) (left left_now left_then : Option (List ℕ)) → SameBytes waiting input left left_now →
    ReadsMore left_now left_then input filled some → SameBytes waiting filled left left_then
same_more waiting input filled left left_now left_then same brought ahead is =
    let so_far = same ahead is in
    let came = brought.came in
    let front = consumed so_far.0 came left_then (subst (λ l. Consumes l left_then came) so_far.1 brought.taken) in (
      front.0,
      front.1,
      so_far.2 ∙ ap (λ v. input ++ v) front.2 ∙ sym (append_assoc input came front.0) ∙ ap (λ v. v ++ front.0) (sym brought.behind),
    )

reads_behind : (waiting filled : List ℕ) (left left_now : Option (List ℕ)) → SameBytes waiting filled left left_now → length filled ≤ 4096 →
    ReadsBehind waiting left left_now
reads_behind waiting filled left left_now same few ahead is =
    let now = same ahead is in
    record { read = filled; unread = now.0; parts = now.2; few = few; left_is = now.1 }

-- what stands at the front then comes next
comes_next : (form : Form) (limit taken taken_now : ℕ) (waiting filled waits : List ℕ) (left left_now : Option (List ℕ)) (next : Next) →
    SameBytes waiting filled left left_now → Takes form limit taken taken_now filled waits (Some next) →
    Comes form limit taken waiting waits left left_now next
comes_next form limit taken taken_now waiting filled waits left left_now (next.Line said) same takes ahead is =
    let now = same ahead is in
    (now.0, now.1, subst (λ b. BeginsWithLine form said b (waits ++ now.0)) (sym now.2) (takes.found.begins now.0))
comes_next form limit taken taken_now waiting filled waits left left_now (next.End end) same takes ahead is =
    let now = same ahead is in (
      now.0,
      now.1,
      (ap (λ w. w ++ now.0) takes.same ∙ sym now.2, subst (λ b. EndsSo form limit taken b end) (sym now.2) (takes.stops now.0)),
    )

counts : (form : Form) (limit taken taken_now : ℕ) (before now : List ℕ) (next : Next) → Takes form limit taken taken_now before now (Some next) →
    Counts limit taken taken_now next
counts form limit taken taken_now before now (next.Line said) takes = (takes.may, takes.counted)
counts form limit taken taken_now before now (next.End end) takes = takes.counted

-- few bytes wait behind a line that was taken, or where none was
few_then : (form : Form) (limit taken taken_now : ℕ) (before now : List ℕ) (next : Next) → length before ≤ 4096 →
    Takes form limit taken taken_now before now (Some next) → length now ≤ 4096
few_then form limit taken taken_now before now (next.Line said) few takes = let shorter = takes.found.shorter in omega arith
few_then form limit taken taken_now before now (next.End end) few takes = let size = ap length takes.same in omega (arith, size, few)

-- something stands at the front of what the source gave
pub reads_next : (form : Form) (limit taken mid taken_now : ℕ) (waiting input filled waits : List ℕ) (left left_now left_then : Option (List ℕ)) (next : Next) → mid ≡ taken →
    SameBytes waiting input left left_now → ReadsMore left_now left_then input filled true →
    Takes form limit mid taken_now filled waits (Some next) → ReadsNext form limit taken taken_now waiting waits left left_then next
reads_next form limit taken mid taken_now waiting input filled waits left left_now left_then next counted same brought takes =
    let now = same_more waiting input filled left left_now left_then same brought in
    let here = subst (λ t. Takes form limit t taken_now filled waits (Some next)) counted takes in
    record {
      counted = counts form limit taken taken_now filled waits next here;
      few = few_then form limit taken taken_now filled waits next brought.fits here;
      comes = comes_next form limit taken taken_now waiting filled waits left left_then next now here;
      behind = reads_behind waiting filled left left_then now brought.fits;
    }

-- how the lines end where the source has no more
pub ends_unended : (form : Form) (limit taken : ℕ) (bytes : List ℕ) → WaitsOn form limit taken bytes → LineBegins form bytes →
    EndsSo form limit taken bytes end.NoLine
ends_unended form limit taken bytes waits begins =
    (elim waits.another [ inl none ↦ absurd (none begins) | inr low ↦ low ], unended_line form bytes begins waits.unended)

-- ---- the form and the limit of a log stay

pub has_next_of : (form own : Form) (limit most taken taken_now : ℕ) (waiting waits : List ℕ) (left left_now sink : Option (List ℕ)) (output : List ℕ)
    (sink_now : Option (List ℕ)) (output_now : List ℕ) (next : Next) → own ≡ form → most ≡ limit →
    HasNext own most taken taken_now waiting waits left left_now sink output sink_now output_now next →
    HasNext form limit taken taken_now waiting waits left left_now sink output sink_now output_now next
has_next_of form own limit most taken taken_now waiting waits left left_now sink output sink_now output_now next same same_limit has =
    subst (λ f. HasNext f limit taken taken_now waiting waits left left_now sink output sink_now output_now next) same
    (subst (λ n. HasNext own n taken taken_now waiting waits left left_now sink output sink_now output_now next) same_limit has)

pub fails_behind_of : (form own : Form) (limit most taken : ℕ) (waiting : List ℕ) (left left_now : Option (List ℕ)) → own ≡ form → most ≡ limit →
    FailsBehind own most taken waiting left left_now → FailsBehind form limit taken waiting left left_now
fails_behind_of form own limit most taken waiting left left_now same same_limit fails =
    subst (λ f. FailsBehind f limit taken waiting left left_now) same (subst (λ n. FailsBehind own n taken waiting left left_now) same_limit fails)

-- ---- lines, one behind the other

reads_more : (form : Form) (lines : List Line) (said : Line) (bytes rest rest_now : List ℕ) → ReadsLines form lines bytes rest →
    BeginsWithLine form said rest rest_now → ReadsLines form (lines ++ said ∷ []) bytes rest_now
reads_more form [] said bytes rest rest_now same begins =
    (rest_now, subst (λ b. BeginsWithLine form said b rest_now) (sym same) begins, refl)
reads_more form (line ∷ lines) said bytes rest rest_now reads begins =
    (reads.0, reads.1, reads_more form lines said reads.0 rest rest_now reads.2 begins)

one_more : (lines : List Line) (said : Line) (taken taken_now : ℕ) → length lines ≡ taken → taken_now ≡ taken + 1 → length (lines ++ said ∷ []) ≡ taken_now
one_more lines said taken taken_now is counted = length-append lines (said ∷ []) ∙ ap (λ n. n + 1) is ∙ sym counted

told_nothing : (sink : Option (List ℕ)) (listing : List ℕ) → listing ≡ [] → Appends sink (append_known sink []) listing
told_nothing None listing nothing = tt
told_nothing (Some x) listing nothing = ap (λ v. x ++ v) (sym nothing)

module _ (listing : List Line → List ℕ) (done : ℕ → List ℕ) (form : Form) (limit : ℕ) (bytes : List ℕ) (sink : Option (List ℕ)) where
  -- nothing was taken yet
  pub so_far-first : (left : Option (List ℕ)) (waiting output : List ℕ) (taken : ℕ) → listing [] ≡ [] → left ≡ Some bytes → waiting ≡ [] → output ≡ [] → taken ≡ 0 →
      SoFar listing form limit bytes sink [] taken waiting left sink output
  so_far-first left waiting output taken nothing known empty flushed_so first = record {
    ahead = bytes;
    left_is = known;
    reads = sym (ap (λ w. w ++ bytes) empty);
    counted = sym first;
    within = omega (arith, first);
    few = let size = ap length empty in omega (arith, size);
    written = subst (λ l. Appends sink (append_known sink l) (listing [])) (sym flushed_so) (told_nothing sink (listing []) nothing);
    grew = grows-refl sink;
    reads_ahead = record {
      lines = [];
      rest = bytes;
      reads = refl;
      more = [];
      written = subst (Appends sink sink) (sym (ap (λ l. l ++ []) nothing)) (Appends-nil sink);
      no_further = record { read = []; unread = bytes; parts = refl; few = omega arith; left_is = known };
    };
  }

  -- what the sink has grows
  still_ahead : (left sink_now sink_then : Option (List ℕ)) → ReadsAhead listing form bytes left sink sink_now → Grows sink_now sink_then →
      ReadsAhead listing form bytes left sink sink_then
  still_ahead left sink_now sink_then reads grew = record {
    lines = reads.lines;
    rest = reads.rest;
    reads = reads.reads;
    more = reads.more ++ grew.0;
    written = subst (Appends sink sink_then) (append_assoc (listing reads.lines) reads.more grew.0)
        (Appends-trans sink sink_now sink_then (listing reads.lines ++ reads.more) grew.0 reads.written grew.1);
    no_further = reads.no_further;
  }

  module _ (lines : List Line) (taken : ℕ) (waiting : List ℕ) (left sink_now : Option (List ℕ)) (output : List ℕ)
      (so_far : SoFar listing form limit bytes sink lines taken waiting left sink_now output) where
    -- all that was told is written, once what waits is
    all_written : (sink_then : Option (List ℕ)) → Appends sink_now sink_then output → Appends sink sink_then (listing lines)
    all_written sink_then wrote = flushed sink sink_now sink_then output (listing lines) so_far.written wrote

    read_ahead : (left_now sink_then : Option (List ℕ)) → Grows sink_now sink_then →
        (left_now ≡ left) ⊎ (Appends sink_now sink_then output × ReadsBehind waiting left left_now) → ReadsAhead listing form bytes left_now sink sink_then
    read_ahead left_now sink_then grew (inl same) =
        still_ahead left_now sink_now sink_then (subst (λ l. ReadsAhead listing form bytes l sink sink_now) (sym same) so_far.reads_ahead) grew
    read_ahead left_now sink_then grew (inr read) = record {
      lines = lines;
      rest = waiting ++ so_far.ahead;
      reads = so_far.reads;
      more = [];
      written = subst (Appends sink sink_then) (sym (append-nil (listing lines))) (all_written sink_then read.0);
      no_further = read.1 so_far.ahead so_far.left_is;
    }

    -- a line more, and what it tells
    module _ (taken_now : ℕ) (waits : List ℕ) (left_now sink_then : Option (List ℕ)) (output_then : List ℕ) (said : Line)
        (has : HasNext form limit taken taken_now waiting waits left left_now sink_now output sink_then output_then (next.Line said))
        (piece : List ℕ) (tells : listing (lines ++ said ∷ []) ≡ listing lines ++ piece) where
      line_written : Appends sink (append_known sink_then output_then) (listing lines)
      line_written = subst (Appends sink (append_known sink_then output_then)) (append-nil (listing lines))
          (Appends-trans sink (append_known sink_now output) (append_known sink_then output_then) (listing lines) [] so_far.written has.written)

      pub so_far-more : (sink_last : Option (List ℕ)) (output_last : List ℕ) → Appends (append_known sink_then output_then) (append_known sink_last output_last) piece →
          Grows sink_then sink_last → SoFar listing form limit bytes sink (lines ++ said ∷ []) taken_now waits left_now sink_last output_last
      so_far-more sink_last output_last wrote grew =
          let came = has.comes so_far.ahead so_far.left_is in record {
            ahead = came.0;
            left_is = came.1;
            reads = reads_more form lines said bytes (waiting ++ so_far.ahead) (waits ++ came.0) so_far.reads came.2;
            counted = one_more lines said taken taken_now so_far.counted has.counted.1;
            within = let counted = has.counted in omega (arith, counted.0, counted.1);
            few = has.few;
            written = subst (Appends sink (append_known sink_last output_last)) (sym tells)
                (Appends-trans sink (append_known sink_then output_then) (append_known sink_last output_last) (listing lines) piece line_written wrote);
            grew = grows-trans sink sink_then sink_last (grows-trans sink sink_now sink_then so_far.grew has.grew) grew;
            reads_ahead = still_ahead left_now sink_then sink_last (read_ahead left_now sink_then has.grew has.reads) grew;
          }

      -- the sink fails while that is written
      pub so_far-broken : (sink_last : Option (List ℕ)) → WritesFront sink_then sink_last (output_then ++ piece) →
          IsWrittenInPart listing done form limit bytes left_now sink sink_last
      so_far-broken sink_last front =
          let came = has.comes so_far.ahead so_far.left_is in
          let counted = one_more lines said taken taken_now so_far.counted has.counted.1 in
          InLines (lines ++ said ∷ []) (waits ++ came.0)
          (reads_more form lines said bytes (waiting ++ so_far.ahead) (waits ++ came.0) so_far.reads came.2)
          (omega (arith, counted, has.counted.0, has.counted.1))
          (subst (WritesFront sink sink_last) (sym tells)
          (front-behind sink sink_then sink_last output_then (listing lines) piece (grows-trans sink sink_now sink_then so_far.grew has.grew) line_written front))
          (record { read = waits; unread = came.0; parts = refl; few = has.few; left_is = came.1 })
          (still_ahead left_now sink_then sink_last (read_ahead left_now sink_then has.grew has.reads) (grows-front sink_then sink_last (output_then ++ piece) front))

    -- no line more
    pub so_far-ends : (taken_now : ℕ) (waits : List ℕ) (left_now sink_then : Option (List ℕ)) (output_then : List ℕ) (how : End) →
        HasNext form limit taken taken_now waiting waits left left_now sink_now output sink_then output_then (next.End how) →
        Walks listing form limit bytes sink taken_now left_now sink_then output_then how
    so_far-ends taken_now waits left_now sink_then output_then how has =
        let came = has.comes so_far.ahead so_far.left_is in record {
          lines = lines;
          counted = so_far.counted ∙ sym has.counted;
          rest = waiting ++ so_far.ahead;
          reads = so_far.reads;
          ends = subst (λ t. EndsSo form limit t (waiting ++ so_far.ahead) how) (sym has.counted) came.2.1;
          no_further = record { read = waits; unread = came.0; parts = sym came.2.0; few = has.few; left_is = came.1 };
          written = subst (Appends sink (append_known sink_then output_then)) (append-nil (listing lines))
              (Appends-trans sink (append_known sink_now output) (append_known sink_then output_then) (listing lines) [] so_far.written has.written);
          grew = grows-trans sink sink_now sink_then so_far.grew has.grew;
          reads_ahead = read_ahead left_now sink_then has.grew has.reads;
        }

    -- the source fails, all that waited having been written
    pub so_far-unread : (left_now sink_then : Option (List ℕ)) → FailsBehind form limit taken waiting left left_now → Appends sink_now sink_then output →
        IsReadInPart listing form limit bytes left_now sink sink_then
    so_far-unread left_now sink_then fails wrote =
        let none = fails so_far.ahead so_far.left_is in
        let counted = so_far.counted in
        let within = so_far.within in record {
          lines = lines;
          waiting = none.waits;
          ahead = none.ahead_now;
          left_is = none.left_is;
          reads = subst (ReadsLines form lines bytes) none.same so_far.reads;
          written = all_written sink_then wrote;
          unended = none.waits_on.unended;
          short = none.waits_on.short;
          another = elim none.waits_on.another [ inl h ↦ inl h | inr low ↦ inr (omega arith) ];
          within = omega arith;
        }

    -- the sink fails before the source is read
    pub so_far-unwritten : (left_now sink_then : Option (List ℕ)) → left_now ≡ left → WritesFront sink_now sink_then output →
        IsWrittenInPart listing done form limit bytes left_now sink sink_then
    so_far-unwritten left_now sink_then same front =
        let counted = so_far.counted in
        let within = so_far.within in
        InLines lines (waiting ++ so_far.ahead) so_far.reads (omega arith)
        (subst (WritesFront sink sink_then) (append-nil (listing lines))
        (front-behind sink sink_now sink_then output (listing lines) [] so_far.grew so_far.written (subst (WritesFront sink_now sink_then) (sym (append-nil output)) front)))
        (record { read = waiting; unread = so_far.ahead; parts = refl; few = so_far.few; left_is = same ∙ so_far.left_is })
        (still_ahead left_now sink_now sink_then (subst (λ l. ReadsAhead listing form bytes l sink sink_now) (sym same) so_far.reads_ahead)
        (grows-front sink_now sink_then output front))

    -- what a fault of the next line leaves
    pub fails : {A : Type 0} (result : Result A Fault) (left_now sink_then : Option (List ℕ)) (fault : Fault) → result ≡ Err fault →
        (result ≡ Err Source → FailsBehind form limit taken waiting left left_now) → (result ≡ Err Source → Appends sink_now sink_then output) →
        (result ≡ Err Sink → left_now ≡ left) → (result ≡ Err Sink → WritesFront sink_now sink_then output) →
        Fails fault listing done form limit bytes left_now sink sink_then
    fails result left_now sink_then Source is read flushed_so same write = so_far-unread left_now sink_then (read is) (flushed_so is)
    fails result left_now sink_then Sink is read flushed_so same write = so_far-unwritten left_now sink_then (same is) (write is)

  -- ---- the end of the report

  ends_as : (how : End) (taken : ℕ) (rest : List ℕ) → EndsSo form limit taken rest how → EndsAs form limit taken rest (status_of how taken)
  ends_as end.Ended taken rest ends = ends
  ends_as end.NoLine taken rest ends = (ends.0, ends.1, refl)
  ends_as end.Full taken rest ends = (ends.0, ends.1, refl)

  module _ (taken : ℕ) (left sink_now : Option (List ℕ)) (output : List ℕ) (how : End) (within : taken ≤ limit)
      (walks : Walks listing form limit bytes sink taken left sink_now output how) where
    report : IsReport listing done form limit bytes (listing walks.lines ++ last_line (done taken) (status_of how taken)) (status_of how taken)
    report = record {
      lines = walks.lines;
      log = record {
        rest = walks.rest;
        reads = walks.reads;
        within = let counted = walks.counted in omega arith;
        ends = subst (λ t. EndsAs form limit t walks.rest (status_of how taken)) (sym walks.counted) (ends_as how taken walks.rest walks.ends);
      };
      written = ap (λ t. listing walks.lines ++ last_line (done t) (status_of how taken)) (sym walks.counted);
    }

    pub walks_told : (sink_then : Option (List ℕ)) → Appends (append_known sink_now output) sink_then (last_line (done taken) (status_of how taken)) →
        IsTold listing done form limit bytes left sink sink_then (status_of how taken)
    unfolding report
    walks_told sink_then wrote = record {
      report = listing walks.lines ++ last_line (done taken) (status_of how taken);
      is = report;
      no_further = walks.no_further;
      written = Appends-trans sink (append_known sink_now output) sink_then (listing walks.lines) (last_line (done taken) (status_of how taken)) walks.written wrote;
    }

    pub walks_broken : (sink_then : Option (List ℕ)) → WritesFront sink_now sink_then (output ++ last_line (done taken) (status_of how taken)) →
        IsWrittenInPart listing done form limit bytes left sink sink_then
    unfolding report
    walks_broken sink_then front =
        AtTheEnd (listing walks.lines ++ last_line (done taken) (status_of how taken)) (status_of how taken) report
        (front-behind sink sink_now sink_then output (listing walks.lines) (last_line (done taken) (status_of how taken)) walks.grew walks.written front)
        walks.no_further
        (still_ahead left sink_now sink_then walks.reads_ahead (grows-front sink_now sink_then (output ++ last_line (done taken) (status_of how taken)) front))
