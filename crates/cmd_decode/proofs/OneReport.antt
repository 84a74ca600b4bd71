-- A text has one report.
use Rattle.std.proofs.Common.{◌≡◌, ◌≤◌, ◌<◌, ℕ, ◌+◌, List, [], ◌∷◌, length, Some, None, refl, sym, ap, ◌∙◌, subst, arith, unwrap_or}
use Rattle.arrayvec.specs.ArrayVec.{ArrayVec as Items}
use Rattle.replay_text.specs.Lines.{after_line, first_line}
use Rattle.dsdl_text.specs.declared.line.Line.{Line}
use Rattle.dsdl_text.specs.Lines.{Reads}
use Rattle.dsdl_text.specs.Numbers.{numbers_of}
use Rattle.dsdl_text.specs.Sections.{part_named}
use Rattle.dsdl_text.specs.Text.{TakesLines, Text, fault_of, no_text, text_after, types_in}
use Rattle.std.specs.declared.option.Option.{Option}
use Rattle.cmd_io.specs.declared.status.Status.{Status}
use Rattle.cmd_decode.specs.declared.answer.Answer.{Answer}
use Rattle.cmd_decode.specs.declared.answer.Answer.TheVariants.{Value, NoPart, NoValue, BadLine, Beyond}
use Rattle.cmd_decode.specs.Lines.{BeginsWith, ReadsLines}
use Rattle.cmd_decode.specs.Report.{IsRead, IsReport, Says, report_of, status_of}

some-same : {A : Type 0} (a b : A) → Some a ≡ Some b → a ≡ b
some-same a b e = ap (λ o. unwrap_or o a) e

-- no line of those that may still come is taken from the front of the bytes
abbrev IsStuck : Text → ℕ → List ℕ → Type 0
IsStuck now count bytes = (line : Line) (next : List ℕ) → BeginsWith line bytes next → count < 1000 → fault_of now line ≡ None → ⊥

stuck : (name : List ℕ) (part : ℕ) (payload : List ℕ) (now : Text) (count : ℕ) (rest : List ℕ) (answer : Answer)
    → Says name part payload now count rest answer → IsStuck now count rest
stuck name part payload now count rest (Value numbers) says line next begins low faultless =
    let e : None ≡ Some next = sym (ap after_line says.ended) ∙ begins.ended in cc
stuck name part payload now count rest NoPart says line next begins low faultless =
    let e : None ≡ Some next = sym (ap after_line says.0) ∙ begins.ended in cc
stuck name part payload now count rest NoValue says line next begins low faultless =
    let e : None ≡ Some next = sym (ap after_line says.ended) ∙ begins.ended in cc
stuck name part payload now count rest (BadLine row) says line next begins low faultless = says.0.bad line next begins faultless
stuck name part payload now count rest Beyond says line next begins low faultless = let full = says.full in absurd (omega arith)

-- of `a_line_has_one_value`
abbrev pub ALineHasOneValue : Type 0
ALineHasOneValue = (a b : Line) (bytes : List ℕ) → Reads a bytes → Reads b bytes → a ≡ b

-- lines are taken up to where none can be
along : ALineHasOneValue → (before now then : Text) (lines others : List Line) (bytes rest left : List ℕ) (start count other : ℕ)
    → ReadsLines lines bytes rest → TakesLines before lines now → IsStuck now count rest → count ≡ start + length lines → count ≤ 1000
    → ReadsLines others bytes left → TakesLines before others then → IsStuck then other left → other ≡ start + length others → other ≤ 1000
    → (now ≡ then) × (rest ≡ left) × (count ≡ other)
along one before now then [] [] bytes rest left start count other reads takes stops is within reads' takes' stops' is' within' =
    (sym takes ∙ takes', sym reads ∙ reads', is ∙ sym is')
along one before now then [] (line ∷ others) bytes rest left start count other reads takes stops is within reads' takes' stops' is' within' =
    absurd (stops line reads'.0 (subst (λ b. BeginsWith line b reads'.0) reads reads'.1) (omega arith)
    (subst (λ t. fault_of t line ≡ None) takes takes'.0))
along one before now then (line ∷ lines) [] bytes rest left start count other reads takes stops is within reads' takes' stops' is' within' =
    absurd (stops' line reads.0 (subst (λ b. BeginsWith line b reads.0) reads' reads.1) (omega arith)
    (subst (λ t. fault_of t line ≡ None) takes' takes.0))
along one before now then (line ∷ lines) (line' ∷ others) bytes rest left start count other reads takes stops is within reads' takes' stops' is' within' =
    let same : line' ≡ line = one line' line (first_line bytes) reads'.1.reads reads.1.reads in
    let here : reads'.0 ≡ reads.0 = some-same reads'.0 reads.0 (sym reads'.1.ended ∙ reads.1.ended) in
    along one (text_after before line) now then lines others reads.0 rest left (start + 1) count other
    reads.2 takes.1 stops (omega arith) within
    (subst (λ b. ReadsLines others b left) here reads'.2) (subst (λ l. TakesLines (text_after before l) others then) same takes'.1) stops' (omega arith) within'

one_part : (name : List ℕ) (part : ℕ) (payload : List ℕ) (now : Text) (rest : List ℕ) (a b : Option (List ℕ))
    → IsRead name part payload now rest a → IsRead name part payload now rest b → a ≡ b
one_part name part payload now rest a b p q =
    let same : p.fields ≡ q.fields = some-same p.fields q.fields (sym p.found ∙ q.found) in
    sym p.gives ∙ ap (λ fields. numbers_of fields payload) same ∙ q.gives

one_list : (a b : Items ℕ) → a.items ≡ b.items → a ≡ b
one_list a b same = let listed : List ℕ → Items ℕ = λ xs. record { items = xs } in ap listed same

no_part : (name : List ℕ) (part : ℕ) (payload : List ℕ) (now : Text) (rest : List ℕ) (a : Option (List ℕ)) (A : Type 0)
    → IsRead name part payload now rest a → part_named (types_in now) name part ≡ None → A
no_part name part payload now rest a A p none = let e : None ≡ Some p.fields = sym none ∙ p.found in absurd (cc)

one_answer : (name : List ℕ) (part : ℕ) (payload : List ℕ) (now : Text) (count : ℕ) (rest : List ℕ) (a b : Answer)
    → Says name part payload now count rest a → Says name part payload now count rest b → a ≡ b
one_answer name part payload now count rest (Value m) (Value n) p q =
    ap Value (one_list m n (some-same m.items n.items (one_part name part payload now rest (Some m.items) (Some n.items) p q)))
one_answer name part payload now count rest (Value m) NoPart p q = no_part name part payload now rest (Some m.items) (Value m ≡ NoPart) p q.1
one_answer name part payload now count rest (Value m) NoValue p q =
    let e = one_part name part payload now rest (Some m.items) None p q in absurd (cc)
one_answer name part payload now count rest (Value m) (BadLine n) p q = absurd (q.0.more p.ended)
one_answer name part payload now count rest (Value m) Beyond p q = absurd (q.more p.ended)
one_answer name part payload now count rest NoPart (Value n) p q = no_part name part payload now rest (Some n.items) (NoPart ≡ Value n) q p.1
one_answer name part payload now count rest NoPart NoPart p q = refl
one_answer name part payload now count rest NoPart NoValue p q = no_part name part payload now rest None (NoPart ≡ NoValue) q p.1
one_answer name part payload now count rest NoPart (BadLine n) p q = absurd (q.0.more p.0)
one_answer name part payload now count rest NoPart Beyond p q = absurd (q.more p.0)
one_answer name part payload now count rest NoValue (Value n) p q =
    let e = one_part name part payload now rest None (Some n.items) p q in absurd (cc)
one_answer name part payload now count rest NoValue NoPart p q = no_part name part payload now rest None (NoValue ≡ NoPart) p q.1
one_answer name part payload now count rest NoValue NoValue p q = refl
one_answer name part payload now count rest NoValue (BadLine n) p q = absurd (q.0.more p.ended)
one_answer name part payload now count rest NoValue Beyond p q = absurd (q.more p.ended)
one_answer name part payload now count rest (BadLine m) (Value n) p q = absurd (p.0.more q.ended)
one_answer name part payload now count rest (BadLine m) NoPart p q = absurd (p.0.more q.0)
one_answer name part payload now count rest (BadLine m) NoValue p q = absurd (p.0.more q.ended)
one_answer name part payload now count rest (BadLine m) (BadLine n) p q = ap BadLine (p.1 ∙ sym q.1)
one_answer name part payload now count rest (BadLine m) Beyond p q = let low = p.0.within in let full = q.full in absurd (omega arith)
one_answer name part payload now count rest Beyond (Value n) p q = absurd (p.more q.ended)
one_answer name part payload now count rest Beyond NoPart p q = absurd (p.more q.0)
one_answer name part payload now count rest Beyond NoValue p q = absurd (p.more q.ended)
one_answer name part payload now count rest Beyond (BadLine n) p q = let low = q.0.within in let full = p.full in absurd (omega arith)
one_answer name part payload now count rest Beyond Beyond p q = refl

pub one_report : ALineHasOneValue → (name : List ℕ) (part : ℕ) (payload bytes report other : List ℕ) (status ending : Status)
    → IsReport name part payload bytes report status → IsReport name part payload bytes other ending → (report ≡ other) × (status ≡ ending)
one_report one name part payload bytes report other status ending p q =
    let ends = along one no_text p.now q.now p.comes.lines q.comes.lines bytes p.rest q.rest 0 p.count q.count
    p.comes.reads p.comes.takes (stuck name part payload p.now p.count p.rest p.answer p.says) (omega (arith, p.comes.counted)) p.within
    q.comes.reads q.comes.takes (stuck name part payload q.now q.count q.rest q.answer q.says) (omega (arith, q.comes.counted)) q.within in
    let moved = subst (λ t. Says name part payload t q.count q.rest q.answer) (sym ends.0) q.says in
    let back = subst (λ r. Says name part payload p.now q.count r q.answer) (sym ends.1) moved in
    let here = subst (λ n. Says name part payload p.now n p.rest q.answer) (sym ends.2) back in
    let same = one_answer name part payload p.now p.count p.rest p.answer q.answer p.says here in
    (p.written ∙ ap report_of same ∙ sym q.written, p.ends ∙ ap status_of same ∙ sym q.ends)
