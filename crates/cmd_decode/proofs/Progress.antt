-- A text that is read piece by piece.
use Rattle.std.proofs.Common.{◌≡◌, ℕ, ◌+◌, ◌-◌, ◌*◌, ◌≤◌, ◌<◌, ◌⊎◌, inl, inr, true, false, List, [], ◌∷◌, ◌++◌, length, take, drop, Some, None, refl, sym, ap, ◌∙◌, subst, arith, append_assoc, append-nil, length-append, length-drop}
use Rattle.std.specs.declared.option.Option.{Option}
use Rattle.std.specs.Io.KnownBytes.{Consumes, IsAtEnd, Keeps}
use Rattle.replay_text.specs.Lines.{after_line}
use Rattle.cmd_io.specs.Input.{IsLineEnd, ReadsMore}
use Rattle.dsdl_text.specs.declared.line.Line.{Line}
use Rattle.dsdl_text.specs.declared.texts.Texts.{Texts}
use Rattle.dsdl_text.specs.Reader.{data_types}
use Rattle.std.specs.Prelude.{Err, MatchOption, Ok, Result}
use Rattle.dsdl_text.specs.declared.fault.LineFault.{LineFault}
use Rattle.dsdl_text.specs.Lines.{Reads}
use Rattle.dsdl_text.specs.Text.{Answers, TakesLines, Text, fault_of, no_text, text_after, types_in}
use Rattle.dsdl_text.proofs.Taking.{lines_joined}
use Rattle.cmd_decode.specs.declared.ending.Ending.TheVariants.{Whole, Bad, Beyond}
use Rattle.cmd_decode.specs.declared.lines.Lines.{Lines}
use Rattle.cmd_decode.specs.Ends.{IsReadInPart}
use Rattle.cmd_decode.specs.Lines.{Comes, IsBadLine, IsBeyond, ReadsLines}
use Rattle.cmd_decode.specs.Taking.{HasTaken, ReadsText, TakesLine, TakesSome, text_in}
use Rattle.cmd_decode.proofs.Fronts.{begins_at}

-- ---- lines one behind the other

ReadsLines-append : (a b : List Line) (x y z : List ℕ) → ReadsLines a x y → ReadsLines b y z → ReadsLines (a ++ b) x z
ReadsLines-append [] b x y z p q = subst (λ v. ReadsLines b v z) (sym p) q
ReadsLines-append (line ∷ a) b x y z p q = (p.0, p.1, ReadsLines-append a b p.0 y z p.2 q)

comes-more : (bytes rest behind : List ℕ) (before now : Text) (count more : ℕ) (lines : List Line) → Comes bytes before count rest
    → ReadsLines lines rest behind → TakesLines before lines now → more ≡ count + length lines → Comes bytes now more behind
comes-more bytes rest behind before now count more lines comes reads takes counted = record {
  lines = comes.lines ++ lines;
  reads = ReadsLines-append comes.lines lines bytes rest behind comes.reads reads;
  takes = lines_joined no_text before now comes.lines lines comes.takes takes;
  counted = omega (arith, comes.counted, counted, length-append comes.lines lines);
}

abbrev accepted : Unit {0} → Result (Unit {0}) LineFault
accepted done = Ok done

pub taken_line : (before after : Text) (line : Line) (bytes : List ℕ) (done : Unit {0}) → Reads line bytes
    → Answers before line (Ok done) after → TakesLine before after bytes
taken_line before after line bytes done reads answers = go (fault_of before line) refl answers where
  go : (o : Option LineFault) → fault_of before line ≡ o
      → MatchOption o ((accepted done ≡ Ok tt) × (after ≡ text_after before line)) (λ f. (accepted done ≡ Err f) × (after ≡ before))
      → TakesLine before after bytes
  go None e h = record { line = line; reads = reads; faultless = e; makes = h.1 }
  go (Some f) e h = absurd (let wrong : accepted done ≡ Err f = h.0 in cc)

pub takes_more : (first before now : Lines) (waiting left : List ℕ) (size : ℕ) → TakesSome first before waiting left → IsLineEnd 10 left size
    → size ≤ 120 → TakesLine (text_in before) (text_in now) (take size left) → now.count ≡ before.count + 1
    → TakesSome first now waiting (drop (size + 1) left)
takes_more first before now waiting left size some ends short took counted = record {
  lines = some.lines ++ took.line ∷ [];
  reads = λ more. ReadsLines-append some.lines (took.line ∷ []) (waiting ++ more) (left ++ more) (drop (size + 1) left ++ more) (some.reads more)
      (drop (size + 1) left ++ more, begins_at took.line left size ends short took.reads more, refl);
  takes = lines_joined (text_in first) (text_in before) (text_in now) some.lines (took.line ∷ []) some.takes (took.faultless, sym took.makes);
  counted = omega (arith, some.counted, counted, length-append some.lines (took.line ∷ []));
  shorter = omega (arith, some.shorter, length-drop (size + 1) left);
  nearer = inl (omega (arith, some.counted, counted));
}

-- ---- reads

consumed : (ahead came : List ℕ) (left : Option (List ℕ)) → Consumes (Some ahead) left came →
    (rest : List ℕ) × (left ≡ Some rest) × (ahead ≡ came ++ rest)
consumed ahead came None h = absurd h
consumed ahead came (Some rest) h = (rest, refl, h)

pub start : (bytes waiting : List ℕ) (left : Option (List ℕ)) (now : Lines) → left ≡ Some bytes → waiting ≡ [] → text_in now ≡ no_text
    → now.count ≡ 0 → HasTaken bytes waiting left now
start bytes waiting left now known none text count = record {
  ahead = bytes;
  left_is = known;
  comes = record { lines = []; reads = sym (ap (λ w. w ++ bytes) none); takes = sym text; counted = count };
}

-- the lines that a read brought were taken
pub read_on : (bytes waiting filled behind : List ℕ) (left left_now : Option (List ℕ)) (before now : Lines) → HasTaken bytes waiting left before
    → ReadsMore left left_now waiting filled true → TakesSome before now filled behind → HasTaken bytes behind left_now now
read_on bytes waiting filled behind left left_now before now taken more took =
    let front = consumed taken.ahead more.came left_now (subst (λ l. Consumes l left_now more.came) taken.left_is more.taken) in
    let here : waiting ++ taken.ahead ≡ filled ++ front.0 =
    ap (λ v. waiting ++ v) front.2 ∙ sym (append_assoc waiting more.came front.0) ∙ ap (λ v. v ++ front.0) (sym more.behind) in
    record {
      ahead = front.0;
      left_is = front.1;
      comes = comes-more bytes (filled ++ front.0) (behind ++ front.0) (text_in before) (text_in now) before.count now.count took.lines
          (subst (λ r. Comes bytes (text_in before) before.count r) here taken.comes) (took.reads front.0) took.takes took.counted;
    }

-- the next line is not taken
pub stopped_bad : (bytes behind : List ℕ) (left : Option (List ℕ)) (now : Lines) (row : ℕ) → HasTaken bytes behind left now → now.count ≤ 1000
    → length behind ≤ 4096 → ((more : List ℕ) → IsBadLine (text_in now) now.count (behind ++ more)) → row ≡ now.count + 1
    → ReadsText bytes left (Bad row)
stopped_bad bytes behind left now row taken within few bad is = record {
  now = text_in now;
  count = now.count;
  rest = behind ++ taken.ahead;
  comes = taken.comes;
  within = within;
  ends = (bad taken.ahead, is);
  no_further = record { read = behind; unread = taken.ahead; parts = refl; few = few; left_is = taken.left_is };
}

pub stopped_full : (bytes behind : List ℕ) (left : Option (List ℕ)) (now : Lines) → HasTaken bytes behind left now → now.count ≤ 1000
    → length behind ≤ 4096 → ((more : List ℕ) → IsBeyond now.count (behind ++ more)) → ReadsText bytes left Beyond
stopped_full bytes behind left now taken within few full = record {
  now = text_in now;
  count = now.count;
  rest = behind ++ taken.ahead;
  comes = taken.comes;
  within = within;
  ends = full taken.ahead;
  no_further = record { read = behind; unread = taken.ahead; parts = refl; few = few; left_is = taken.left_is };
}

-- ---- the end of the source

at_end : (left : Option (List ℕ)) (rest : List ℕ) → left ≡ Some rest → IsAtEnd left → rest ≡ []
at_end None rest e h = cc
at_end (Some x) rest e h = let same : x ≡ rest = cc in sym same ∙ h

waits_only : (left left_now : Option (List ℕ)) (ahead waiting filled : List ℕ) → left ≡ Some ahead → ReadsMore left left_now waiting filled false →
    (ahead ≡ []) × (filled ≡ waiting) × (left_now ≡ Some [])
waits_only left left_now ahead waiting filled known more =
    let front = consumed ahead more.came left_now (subst (λ l. Consumes l left_now more.came) known more.taken) in
    let nothing = more.none refl in
    let rest_nothing = at_end left_now front.0 front.1 (more.ended refl) in (
      front.2 ∙ ap (λ v. v ++ front.0) nothing ∙ rest_nothing,
      more.behind ∙ ap (λ v. waiting ++ v) nothing ∙ append-nil waiting,
      front.1 ∙ ap Some rest_nothing,
    )

pub ended_whole : (bytes waiting filled : List ℕ) (left left_now : Option (List ℕ)) (now : Lines) (texts : Texts) → HasTaken bytes waiting left now
    → ReadsMore left left_now waiting filled false → now.count ≤ 1000 → filled ≡ [] → data_types texts ≡ types_in (text_in now)
    → ReadsText bytes left_now (Whole texts)
ended_whole bytes waiting filled left left_now now texts taken more within empty types =
    let only = waits_only left left_now taken.ahead waiting filled taken.left_is more in
    let nothing : waiting ++ taken.ahead ≡ [] = ap (λ v. waiting ++ v) only.0 ∙ append-nil waiting ∙ sym only.1 ∙ empty in
    record {
      now = text_in now;
      count = now.count;
      rest = [];
      comes = subst (Comes bytes (text_in now) now.count) nothing taken.comes;
      within = within;
      ends = (refl, types);
      no_further = record { read = []; unread = []; parts = refl; few = omega arith; left_is = only.2 };
    }

pub ended_unended : (bytes waiting filled : List ℕ) (left left_now : Option (List ℕ)) (now : Lines) (row : ℕ) → HasTaken bytes waiting left now
    → ReadsMore left left_now waiting filled false → now.count ≤ 1000 → (filled ≡ [] → ⊥) → after_line waiting ≡ None → length waiting ≤ 120
    → (waiting ≡ []) ⊎ (now.count < 1000) → row ≡ now.count + 1 → ReadsText bytes left_now (Bad row)
ended_unended bytes waiting filled left left_now now row taken more within some unended short another is =
    let only = waits_only left left_now taken.ahead waiting filled taken.left_is more in
    let rest : waiting ++ taken.ahead ≡ waiting = ap (λ v. waiting ++ v) only.0 ∙ append-nil waiting in
    record {
      now = text_in now;
      count = now.count;
      rest = waiting;
      comes = subst (Comes bytes (text_in now) now.count) rest taken.comes;
      within = within;
      ends = (
        record {
          within = elim another [ inl empty ↦ absurd (some (only.1 ∙ empty)) | inr low ↦ low ];
          more = λ e. some (only.1 ∙ e);
          bad = λ line next begins faultless. let e : Some next ≡ None = sym begins.ended ∙ unended in cc;
        },
        is,
      );
      no_further = record { read = waiting; unread = []; parts = sym (append-nil waiting); few = omega (arith, short); left_is = only.2 };
    }

-- ---- the source fails

kept : (left left_now : Option (List ℕ)) (ahead : List ℕ) → left ≡ Some ahead → Keeps left left_now → left_now ≡ Some ahead
kept None left_now ahead e h = cc
kept (Some x) None ahead e h = absurd h
kept (Some x) (Some y) ahead e h = ap Some h ∙ e

pub read_in_part : (bytes waiting : List ℕ) (left left_now : Option (List ℕ)) (now : Lines) → HasTaken bytes waiting left now → Keeps left left_now
    → after_line waiting ≡ None → length waiting ≤ 120 → (waiting ≡ []) ⊎ (now.count < 1000) → now.count ≤ 1000 → IsReadInPart bytes left_now
read_in_part bytes waiting left left_now now taken keeps unended short another within = record {
  text = text_in now;
  count = now.count;
  waiting = waiting;
  ahead = taken.ahead;
  comes = taken.comes;
  left_is = kept left left_now taken.ahead taken.left_is keeps;
  unended = unended;
  short = short;
  another = another;
  within = within;
}

-- ---- the measure of the reads

pub some_length : (xs : List ℕ) → (xs ≡ [] → ⊥) → 0 < length xs
some_length [] h = absurd (h refl)
some_length (x ∷ xs) h = omega arith

pub nearer : (count count_now waiting filled behind came : ℕ) → count_now ≤ 1000 → waiting ≤ 120 → behind ≤ 120
    → filled ≡ waiting + came → 0 < came → count ≤ count_now → (count < count_now) ⊎ (behind ≡ filled)
    → (1000 - count_now) * 122 + (121 - behind) < (1000 - count) * 122 + (121 - waiting)
nearer count count_now waiting filled behind came a b c d e f (inl h) = omega arith
nearer count count_now waiting filled behind came a b c d e f (inr h) = omega arith
