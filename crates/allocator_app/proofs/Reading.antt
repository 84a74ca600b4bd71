-- A schedule that is read piece by piece.
use Rattle.std.proofs.Common.{◌≡◌, ℕ, ◌+◌, ◌-◌, ◌*◌, ◌≤◌, ◌<◌, ◌⊎◌, inl, inr, Bool, true, false, List, [], ◌∷◌, ◌++◌, length, Some, None, refl, sym, ap, ◌∙◌, subst, arith, append_assoc, append-nil}
use Rattle.std.specs.declared.option.Option.{Option}
use Rattle.std.specs.Io.KnownBytes.{Appends, Consumes, IsAtEnd, Keeps, append_known}
use Rattle.std.proofs.KnownBytes.{Appends-trans}
use Rattle.replay_text.specs.Lines.{after_line}
use Rattle.allocator_app.specs.InPart.{HasRead, IsReadInPart, IsWrittenInPart, ReadsAhead}
use Rattle.allocator_app.specs.InPart.IsText.{OfRows, OfAll}
use Rattle.cmd_io.specs.Input.{ReadsMore}
use Rattle.cmd_io.specs.NoFurther.{ReadsNoFurther}
use Rattle.cmd_io.specs.Output.{Grows, WritesFront}
use Rattle.bus_spec.specs.Cluster.{Cluster}
use Rattle.bus_spec.specs.OwnLogs.{GivesOnce}
use Rattle.allocator_app.specs.Report.{ReadsKeepingWord, IsOfSchedule, IsReport, Says}
use Rattle.allocator_app.specs.Rows.{BreaksOff, Ends, ScheduleEndsAt, IsTold, ReadsRows, StopsAt, TakesRows, Waits, WaitsOn, last_of, status_of}
use Rattle.cmd_io.specs.declared.status.Status.TheVariants.{Memory, ReadFault, WriteFault}
use Rattle.allocator_app.specs.declared.rows.Rows.{Rows}
use Rattle.allocator_app.specs.declared.rows.Rows.TheVariants.{Taken, NoRow, Refused, Full}
use Rattle.allocator_app.proofs.Coming.{goes-join, goes-nil}
use Rattle.cmd_io.proofs.Written.{flushed, front-behind, grows-front, grows-refl, grows-trans}

consumed : (ahead came : List ℕ) (left : Option (List ℕ)) → Consumes (Some ahead) left came →
    (rest : List ℕ) × (left ≡ Some rest) × (ahead ≡ came ++ rest)
consumed ahead came None h = absurd h
consumed ahead came (Some rest) h = (rest, refl, h)

-- what was written before, then what was written of what waits: nothing waited first, and the rest still does
written_on : (a b c : Option (List ℕ)) (waiting l m : List ℕ) → waiting ≡ [] → Appends a b l → (now : List ℕ) →
    Appends (append_known b waiting) (append_known c now) m → Appends a (append_known c now) (l ++ m)
written_on None b c waiting l m none p now q = tt
written_on (Some x) None c waiting l m none p now q = absurd p
written_on (Some x) (Some y) None waiting l m none p now q = absurd q
written_on (Some x) (Some y) (Some z) waiting l m none p now q =
    q ∙ ap (λ w. (y ++ w) ++ m) none ∙ ap (λ v. v ++ m) (append-nil y ∙ p) ∙ append_assoc x l m

appends_waiting : (a b : Option (List ℕ)) (waiting l : List ℕ) → waiting ≡ [] → Appends a b l → Appends a (append_known b waiting) l
appends_waiting None b waiting l none p = tt
appends_waiting (Some x) None waiting l none p = absurd p
appends_waiting (Some x) (Some y) waiting l none p = ap (λ w. y ++ w) none ∙ append-nil y ∙ p

pub start : (w : Cluster) → GivesOnce w → (bytes : List ℕ) (left sink : Option (List ℕ)) → left ≡ Some bytes → (waiting : List ℕ) → waiting ≡ [] →
    Appends sink sink [] → HasRead w w bytes waiting left sink sink
start w once bytes left sink known waiting none same = record {
  ahead = bytes;
  left_is = known;
  lines = [];
  goes = subst (ReadsKeepingWord w bytes [] w) (sym (ap (λ v. v ++ bytes) none)) (goes-nil w bytes once);
  written = same;
}

-- what a read leaves: at most as many bytes wait as the run keeps, behind rows whose lines are all written
reads_ahead : {some : Bool} (first w : Cluster) (bytes waiting filled : List ℕ) (left left_now sink sink_before sink_now : Option (List ℕ)) →
    HasRead first w bytes waiting left sink sink_before → ReadsMore left left_now waiting filled some → Grows sink_before sink_now →
    ReadsAhead first bytes left_now sink sink_now
reads_ahead first w bytes waiting filled left left_now sink sink_before sink_now read brought grew =
    let came = brought.came in
    let front = consumed read.ahead came left_now (subst (λ l. Consumes l left_now came) read.left_is brought.taken) in
    record {
      now = w;
      lines = read.lines;
      rest = waiting ++ read.ahead;
      comes = read.goes.comes;
      more = grew.0;
      written = Appends-trans sink sink_before sink_now read.lines grew.0 read.written grew.1;
      no_further = record {
        read = filled;
        unread = front.0;
        parts = ap (λ v. waiting ++ v) front.2 ∙ sym (append_assoc waiting came front.0) ∙ ap (λ v. v ++ front.0) (sym brought.behind);
        few = brought.fits;
        left_is = front.1;
      };
    }

-- reads stay ahead of the report while the sink grows
still_ahead : (first : Cluster) (bytes : List ℕ) (left sink sink_now sink_then : Option (List ℕ)) → ReadsAhead first bytes left sink sink_now →
    Grows sink_now sink_then → ReadsAhead first bytes left sink sink_then
still_ahead first bytes left sink sink_now sink_then reads grew = record {
  now = reads.now;
  lines = reads.lines;
  rest = reads.rest;
  comes = reads.comes;
  more = reads.more ++ grew.0;
  written = subst (Appends sink sink_then) (append_assoc reads.lines reads.more grew.0)
      (Appends-trans sink sink_now sink_then (reads.lines ++ reads.more) grew.0 reads.written grew.1);
  no_further = reads.no_further;
}

-- a read and the rows that it brought
module _ (first w now : Cluster) (bytes waiting filled : List ℕ) (left left_now sink sink_before : Option (List ℕ))
    (read : HasRead first w bytes waiting left sink sink_before) (more : ReadsMore left left_now waiting filled true) where
  on : (lines rest : List ℕ) → ((more : List ℕ) → ReadsKeepingWord w (filled ++ more) lines now (rest ++ more)) →
      (ahead : List ℕ) × (left_now ≡ Some ahead) × ReadsKeepingWord first bytes (read.lines ++ lines) now (rest ++ ahead)
  on lines rest comes =
      let front = consumed read.ahead more.came left_now (subst (λ l. Consumes l left_now more.came) read.left_is more.taken) in
      let ahead = front.0 in
      let here : waiting ++ read.ahead ≡ filled ++ ahead =
      ap (λ v. waiting ++ v) front.2 ∙ sym (append_assoc waiting more.came ahead) ∙ ap (λ v. v ++ ahead) (sym more.behind) in (
        ahead,
        front.1,
        goes-join first w now bytes (filled ++ ahead) (rest ++ ahead) read.lines lines (subst (ReadsKeepingWord first bytes read.lines w) here read.goes) (comes ahead),
      )

-- behind its rows no more was read than that
no_more : (rest filled ahead : List ℕ) (left : Option (List ℕ)) → length rest ≤ length filled → length filled ≤ 4096 → left ≡ Some ahead →
    ReadsNoFurther (rest ++ ahead) left
no_more rest filled ahead left shorter fits left_is = record {
  read = rest;
  unread = ahead;
  parts = refl;
  few = omega (arith, shorter, fits);
  left_is = left_is;
}

-- all the rows of the read were taken, and what waited was written
pub read_on : (limit : ℕ) (first w now : Cluster) (bytes waiting filled behind : List ℕ) (left left_now sink sink_before sink_now sink_then : Option (List ℕ))
    (output output_now : List ℕ) → HasRead first w bytes waiting left sink sink_before → ReadsMore left left_now waiting filled true → output ≡ [] →
    TakesRows limit w now filled behind sink_before output sink_now output_now Taken → Appends sink_now sink_then output_now →
    HasRead first now bytes behind left_now sink sink_then
unfolding on
read_on limit first w now bytes waiting filled behind left left_now sink sink_before sink_now sink_then output output_now read more none took wrote =
    let went = on first w now bytes waiting filled left left_now sink sink_before read more took.lines took.rest took.goes in
    let lines = read.lines ++ took.lines in
    record {
      ahead = went.0;
      left_is = went.1;
      lines = lines;
      goes = subst (λ rest. ReadsKeepingWord first bytes lines now (rest ++ went.0)) took.stops went.2;
      written = flushed sink sink_now sink_then output_now lines
          (written_on sink sink_before sink_now output read.lines took.lines none read.written output_now took.written) wrote;
    }

-- where the rows that wait end, and not for want of bytes, the schedule ends, whatever is left
ends_there : (limit : ℕ) (w : Cluster) (rest behind more : List ℕ) (rows : Rows) → (rows ≡ Taken → ⊥) → StopsAt limit w rest behind rows →
    ScheduleEndsAt limit w (rest ++ more) rows
ends_there limit w rest behind more Taken not stops = absurd (not refl)
ends_there limit w rest behind more _ not stops = stops more

-- all of them were taken
pub took_all : (limit : ℕ) (before now : Cluster) (waiting left : List ℕ) (sink_before : Option (List ℕ)) (output_before : List ℕ) (sink_now : Option (List ℕ))
    (output_now : List ℕ) (rows : Rows) → rows ≡ Taken → TakesRows limit before now waiting left sink_before output_before sink_now output_now rows →
    TakesRows limit before now waiting left sink_before output_before sink_now output_now Taken
took_all limit before now waiting left sink_before output_before sink_now output_now rows all took =
    subst (TakesRows limit before now waiting left sink_before output_before sink_now output_now) all took

pub waited_on : (limit rows_before rows_now : ℕ) (before now : List ℕ) (rows : Rows) → rows ≡ Taken → Waits limit rows_before rows_now before now rows →
    WaitsOn limit rows_before rows_now before now
waited_on limit rows_before rows_now before now rows all waits = subst (Waits limit rows_before rows_now before now) all waits

-- a row of the read is not taken
pub read_stopped : (limit : ℕ) → (first w now : Cluster) (bytes waiting filled behind : List ℕ) (left left_now sink sink_before sink_now : Option (List ℕ))
    (output output_now : List ℕ) (rows : Rows) → (rows ≡ Taken → ⊥) → HasRead first w bytes waiting left sink sink_before →
    ReadsMore left left_now waiting filled true → output ≡ [] → Grows sink_before sink_now →
    TakesRows limit w now filled behind sink_before output sink_now output_now rows → ReadsRows limit first now bytes left_now sink sink_now output_now rows
unfolding on
read_stopped limit first w now bytes waiting filled behind left left_now sink sink_before sink_now output output_now rows not read more none grew took =
    let went = on first w now bytes waiting filled left left_now sink sink_before read more took.lines took.rest took.goes in
    record {
      lines = read.lines ++ took.lines;
      rest = took.rest ++ went.0;
      goes = went.2;
      ends = ends_there limit now took.rest behind went.0 rows not took.stops;
      no_further = no_more took.rest filled went.0 left_now took.shorter more.fits went.1;
      written = written_on sink sink_before sink_now output read.lines took.lines none read.written output_now took.written;
      ahead = reads_ahead first w bytes waiting filled left left_now sink sink_before sink_now read more grew;
    }

-- the sink fails while the rows of the read are taken
pub rows_in_part : (limit : ℕ) → (first w now : Cluster) (bytes waiting filled : List ℕ) (left left_now sink sink_before sink_now : Option (List ℕ))
    (output : List ℕ) → HasRead first w bytes waiting left sink sink_before → ReadsMore left left_now waiting filled true → output ≡ [] →
    Grows sink sink_before → now.rows ≤ limit → BreaksOff w now filled sink_before output sink_now → IsWrittenInPart limit first bytes left_now sink sink_now
unfolding on
rows_in_part limit first w now bytes waiting filled left left_now sink sink_before sink_now output read more none grew within broke =
    let went = on first w now bytes waiting filled left left_now sink sink_before read more broke.lines broke.rest broke.goes in
    record {
      text = read.lines ++ broke.lines;
      rest = broke.rest ++ went.0;
      is = OfRows now went.2.comes within;
      front = front-behind sink sink_before sink_now [] read.lines broke.lines grew (appends_waiting sink sink_before [] read.lines refl read.written)
          (subst (λ o. WritesFront sink_before sink_now (o ++ broke.lines)) none broke.written);
      no_further = no_more broke.rest filled went.0 left_now broke.shorter more.fits went.1;
      ahead = reads_ahead first w bytes waiting filled left left_now sink sink_before sink_now read more (grows-front _ _ _ broke.written);
    }

-- the sink fails when what the rows of the read tell is handed to it
pub flush_in_part : (limit : ℕ) → (first w now : Cluster) (bytes waiting filled behind : List ℕ) (left left_now sink sink_before sink_now sink_then : Option (List ℕ))
    (output output_now : List ℕ) → HasRead first w bytes waiting left sink sink_before → ReadsMore left left_now waiting filled true → output ≡ [] →
    Grows sink_before sink_now → now.rows ≤ limit → TakesRows limit w now filled behind sink_before output sink_now output_now Taken →
    WritesFront sink_now sink_then output_now → IsWrittenInPart limit first bytes left_now sink sink_then
unfolding on
flush_in_part limit first w now bytes waiting filled behind left left_now sink sink_before sink_now sink_then output output_now read more none grew within took front =
    let went = on first w now bytes waiting filled left left_now sink sink_before read more took.lines took.rest took.goes in
    let lines = read.lines ++ took.lines in
    record {
      text = lines;
      rest = took.rest ++ went.0;
      is = OfRows now went.2.comes within;
      front = subst (WritesFront sink sink_then) (append-nil lines) (front-behind sink sink_now sink_then output_now lines []
          (grows-trans sink sink_before sink_now (read.lines, read.written) grew)
          (written_on sink sink_before sink_now output read.lines took.lines none read.written output_now took.written)
          (subst (WritesFront sink_now sink_then) (sym (append-nil output_now)) front));
      no_further = no_more took.rest filled went.0 left_now took.shorter more.fits went.1;
      ahead = reads_ahead first w bytes waiting filled left left_now sink sink_before sink_then read more
          (grows-trans sink_before sink_now sink_then grew (grows-front _ _ _ front));
    }

-- the source fails: it keeps what it has
kept : (left left_now : Option (List ℕ)) (ahead : List ℕ) → left ≡ Some ahead → Keeps left left_now → left_now ≡ Some ahead
kept None left_now ahead e h = cc
kept (Some x) None ahead e h = absurd h
kept (Some x) (Some y) ahead e h = ap Some h ∙ e

pub read_in_part : (limit : ℕ) → (first w : Cluster) (bytes waiting : List ℕ) (left left_now sink sink_now : Option (List ℕ)) →
    HasRead first w bytes waiting left sink sink_now → Keeps left left_now → after_line waiting ≡ None → length waiting ≤ 120 →
    (waiting ≡ []) ⊎ (w.rows < limit) → w.rows ≤ limit → IsReadInPart limit first bytes left_now sink sink_now
read_in_part limit first w bytes waiting left left_now sink sink_now read keeps unended short another within = record {
  now = w;
  waiting = waiting;
  read = record { ahead = read.ahead; left_is = kept left left_now read.ahead read.left_is keeps; lines = read.lines; goes = read.goes; written = read.written };
  unended = unended;
  short = short;
  another = another;
  within = within;
}

-- ---- the end of the input

at_end : (left : Option (List ℕ)) (rest : List ℕ) → left ≡ Some rest → IsAtEnd left → rest ≡ []
at_end None rest e h = cc
at_end (Some x) rest e h = let same : x ≡ rest = cc in sym same ∙ h

waits_only : (left left_now : Option (List ℕ)) (ahead waiting filled : List ℕ) → left ≡ Some ahead → ReadsMore left left_now waiting filled false →
    (ahead ≡ []) × (filled ≡ waiting) × (left_now ≡ Some [])
waits_only left left_now ahead waiting filled known more =
    let front = consumed ahead more.came left_now (subst (λ l. Consumes l left_now more.came) known more.taken) in
    let nothing = more.none refl in
    let rest_nothing = at_end left_now front.0 front.1 (more.ended refl) in (
      front.2 ∙ ap (λ v. v ++ front.0) nothing ∙ rest_nothing,
      more.behind ∙ ap (λ v. waiting ++ v) nothing ∙ append-nil waiting,
      front.1 ∙ ap Some rest_nothing,
    )

pub ended_taken : (limit : ℕ) (first w : Cluster) (bytes waiting filled : List ℕ) (left left_now sink sink_now : Option (List ℕ)) (output : List ℕ) →
    HasRead first w bytes waiting left sink sink_now → ReadsMore left left_now waiting filled false → output ≡ [] → filled ≡ [] →
    ReadsRows limit first w bytes left_now sink sink_now output Taken
ended_taken limit first w bytes waiting filled left left_now sink sink_now output read more none empty =
    let only = waits_only left left_now read.ahead waiting filled read.left_is more in
    let nothing : waiting ++ read.ahead ≡ [] = ap (λ v. waiting ++ v) only.0 ∙ append-nil waiting ∙ sym only.1 ∙ empty in
    record {
      lines = read.lines;
      rest = [];
      goes = subst (ReadsKeepingWord first bytes read.lines w) nothing read.goes;
      ends = refl;
      no_further = record { read = []; unread = []; parts = refl; few = omega arith; left_is = only.2 };
      written = appends_waiting sink sink_now output read.lines none read.written;
      ahead = reads_ahead first w bytes waiting filled left left_now sink sink_now sink_now read more (grows-refl sink_now);
    }

pub ended_unended : (limit : ℕ) (first w : Cluster) (bytes waiting filled : List ℕ) (left left_now sink sink_now : Option (List ℕ)) (output : List ℕ) →
    HasRead first w bytes waiting left sink sink_now → ReadsMore left left_now waiting filled false → output ≡ [] → (filled ≡ [] → ⊥) →
    after_line waiting ≡ None → length waiting ≤ 120 → (waiting ≡ []) ⊎ (w.rows < limit) →
    ReadsRows limit first w bytes left_now sink sink_now output NoRow
ended_unended limit first w bytes waiting filled left left_now sink sink_now output read more none some unended short another =
    let only = waits_only left left_now read.ahead waiting filled read.left_is more in
    let rest : waiting ++ read.ahead ≡ waiting = ap (λ v. waiting ++ v) only.0 ∙ append-nil waiting in
    record {
      lines = read.lines;
      rest = waiting;
      goes = subst (ReadsKeepingWord first bytes read.lines w) rest read.goes;
      ends = record {
        within = elim another [ inl empty ↦ absurd (some (only.1 ∙ empty)) | inr low ↦ low ];
        bad = record {
          left = λ e. some (only.1 ∙ e);
          bad = λ row next begins. let e : Some next ≡ None = sym begins.ended ∙ unended in cc;
        };
      };
      no_further = record { read = waiting; unread = []; parts = sym (append-nil waiting); few = omega (arith, short); left_is = only.2 };
      written = appends_waiting sink sink_now output read.lines none read.written;
      ahead = reads_ahead first w bytes waiting filled left left_now sink sink_now sink_now read more (grows-refl sink_now);
    }

-- the measure of the reads
pub nearer : (limit rows rows_now waiting filled behind came : ℕ) → rows ≤ rows_now → rows_now ≤ limit → waiting ≤ 120 → behind ≤ 120 →
    filled ≡ waiting + came → 0 < came → (rows < rows_now) ⊎ (behind ≡ filled) →
    (limit - rows_now) * 122 + (121 - behind) < (limit - rows) * 122 + (121 - waiting)
nearer limit rows rows_now waiting filled behind came a b c d e f (inl h) = omega arith
nearer limit rows rows_now waiting filled behind came a b c d e f (inr h) = omega arith

pub some_length : (xs : List ℕ) → (xs ≡ [] → ⊥) → 0 < length xs
some_length [] h = absurd (h refl)
some_length (x ∷ xs) h = omega arith

-- ---- the end of the report

-- what is said of the end, by how the rows ended
says : (limit : ℕ) (end : Cluster) (rest : List ℕ) (rows : Rows) → ScheduleEndsAt limit end rest rows → Says limit end rest (last_of rows end) (status_of rows end.rows)
says limit end rest Taken ends = (ends, refl)
says limit end rest NoRow ends = (ends, refl, refl)
says limit end rest (Refused why) ends = (why, ends, refl, refl, refl)
says limit end rest Full ends = (ends, refl, refl)

report_of : (limit : ℕ) (first end : Cluster) (bytes output : List ℕ) (left sink sink_now : Option (List ℕ)) (rows : Rows) → end.rows ≤ limit →
    (read : ReadsRows limit first end bytes left sink sink_now output rows) →
    IsReport limit first bytes (read.lines ++ last_of rows end) (status_of rows end.rows)
report_of limit first end bytes output left sink sink_now rows within read = record {
  end = end;
  rest = read.rest;
  lines = read.lines;
  last = last_of rows end;
  comes = read.goes.comes;
  within = within;
  says = says limit end read.rest rows read.ends;
  written = refl;
}

-- the report was written, and along its rows each allocator kept its word
pub told_of : (limit : ℕ) (first end : Cluster) (bytes output : List ℕ) (left sink sink_now sink_then : Option (List ℕ)) (rows : Rows) → end.rows ≤ limit →
    (read : ReadsRows limit first end bytes left sink sink_now output rows) → Appends sink sink_then (read.lines ++ last_of rows end) →
    IsTold (status_of rows end.rows) limit first bytes left sink sink_then
unfolding report_of
told_of limit first end bytes output left sink sink_now sink_then rows within read wrote = record {
  report = read.lines ++ last_of rows end;
  is = report_of limit first end bytes output left sink sink_now rows within read;
  kept = read.goes.kept;
  no_further = read.no_further;
  written = wrote;
}

-- the sink fails while the end of the report is written
pub end_in_part : (limit : ℕ) (first end : Cluster) (bytes output : List ℕ) (left sink sink_now sink_then : Option (List ℕ)) (rows : Rows) → end.rows ≤ limit →
    ReadsRows limit first end bytes left sink sink_now output rows → Grows sink sink_now → WritesFront sink_now sink_then (output ++ last_of rows end) →
    IsWrittenInPart limit first bytes left sink sink_then
unfolding report_of
end_in_part limit first end bytes output left sink sink_now sink_then rows within read grew front =
    record {
      text = read.lines ++ last_of rows end;
      rest = read.rest;
      is = OfAll (status_of rows end.rows) (report_of limit first end bytes output left sink sink_now rows within read) refl;
      front = front-behind sink sink_now sink_then output read.lines (last_of rows end) grew read.written front;
      no_further = read.no_further;
      ahead = still_ahead first bytes left sink sink_now sink_then read.ahead (grows-front _ _ _ front);
    }

-- ---- the statuses of reports

pub ends_told : (limit : ℕ) (first : Cluster) (bytes : List ℕ) (left sink sink_now : Option (List ℕ)) (rows : Rows) (count : ℕ) →
    IsTold (status_of rows count) limit first bytes left sink sink_now → Ends (status_of rows count) limit first bytes left sink sink_now
ends_told limit first bytes left sink sink_now Taken count told = told
ends_told limit first bytes left sink sink_now NoRow count told = told
ends_told limit first bytes left sink sink_now (Refused why) count told = told
ends_told limit first bytes left sink sink_now Full count told = told

pub is_begun : (rows : Rows) (count : ℕ) → IsOfSchedule (status_of rows count)
is_begun Taken count = tt
is_begun NoRow count = tt
is_begun (Refused why) count = tt
is_begun Full count = tt

-- no end of rows tells of a fault, nor of want of memory
pub is_no_fault : (rows : Rows) (count : ℕ) → (status_of rows count ≡ Memory → ⊥) × (status_of rows count ≡ ReadFault → ⊥) × (status_of rows count ≡ WriteFault → ⊥)
is_no_fault Taken count = (λ e. cc, λ e. cc, λ e. cc)
is_no_fault NoRow count = (λ e. cc, λ e. cc, λ e. cc)
is_no_fault (Refused why) count = (λ e. cc, λ e. cc, λ e. cc)
is_no_fault Full count = (λ e. cc, λ e. cc, λ e. cc)
