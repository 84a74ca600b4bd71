use Rattle.std.proofs.Common.{rules, arith, ap, ◌∙◌, sym, length, ◌≡◌, ◌≢◌, ◌≤◌, ◌∷◌, ◌==◌, [], ℕ, List, Some, Option, Ok, Err, Result, get_or, inl, inr, eq-eqb}
use Rattle.std.specs.Prelude.{IfOk}
use Rattle.std.specs.Result.{result_ok}
use Rattle.std.proofs.lemmas.List.Elements.{All-contains}
use Rattle.arrayvec.specs.ArrayVec.{ArrayVec}
use Rattle.can_frame.specs.declared.frame.Frame.{Frame}
use Rattle.can_frame.specs.declared.frame.BadFrame.{BadFrame}
use Rattle.can_logs.specs.declared.slcan.SlLine.{SlLine}
use Rattle.can_logs.specs.declared.slcan.SlLine.TheVariants.{Data, Skipped}
use Rattle.can_logs.specs.Slcan.{Reads, ReadsBytes, other_letters}
use Rattle.can_logs.proofs.Letters.{no_extended}
use Rattle.can_logs.proofs.slcan.read_extended.Goals as goal

ok_frame : (r : Result Frame BadFrame) (frame : Frame) (id : ℕ) (bytes : List ℕ) → result_ok r ≡ Some frame
    → IfOk r (λ f. (f.id ≡ id) × (f.bytes.items ≡ bytes)) → (frame.id ≡ id) × (frame.bytes.items ≡ bytes)
ok_frame (Ok f) frame id bytes is ok = let same : frame ≡ f = cc is in rw same ok
ok_frame (Err why) frame id bytes is ok = absurd (cc is)

only : ((a b : Frame) → a.id ≡ b.id → a.bytes.items ≡ b.bytes.items → a ≡ b)
    → (id : ℕ) (bytes : ArrayVec ℕ) (stamp : Option ℕ) (frame : Frame) (text : List ℕ) → (length bytes.items ≡ 0 → ⊥)
    → frame.id ≡ id → frame.bytes.items ≡ bytes.items
    → ((i : ℕ) (b : List ℕ) (s : Option ℕ) → length b ≤ 8 → ReadsBytes i b s (84 ∷ text) → (id ≡ i) × (bytes.items ≡ b) × (stamp ≡ s))
    → (read : SlLine) → Reads read (84 ∷ text) → Some (Data frame stamp) ≡ Some read
only same id bytes stamp frame text some is_id is_bytes parts (Data f s) reads =
    let short = f.short in
    let e = parts f.id f.bytes.items s (omega arith) reads in
    let frames : frame ≡ f = same frame f (is_id ∙ e.0) (is_bytes ∙ e.1) in
    let stamps : stamp ≡ s = e.2 in
    cc
only same id bytes stamp frame text some is_id is_bytes parts Skipped reads =
    elim reads [
      | inl none ↦ absurd (cc none)
      | inr more ↦
          elim more [
            | inl other ↦
                let letter : 84 ≡ other.0 = ap (λ l. get_or l 0 0) other.2 in
                absurd (All-contains (λ letter. letter ≢ 84) other_letters other.0 no_extended other.3 (sym letter))
            | inr empty ↦
                let e = parts empty.0 [] empty.1 (omega arith) empty.2 in
                absurd (some (ap length e.1))
          ]
    ]

pub returns-clause-only : goal.returns-clause-only
returns-clause-only c =
    let made = ok_frame c.from_parts.result c.in_ok-frame.frame c.in_ok-id.id c.deref.result.now (sym c.ok.ensures.value ∙ c.in_ok-frame.was) c.from_parts.ensures.ok in
    only c.frames_are_their_parts.ensures c.in_ok-id.id c.in_ok-id.bytes c.in_ok-id.stamp c.in_ok-frame.frame c.args.text.now
    (λ e. let test = eq-eqb (length c.in_ok-id.bytes.items) 0 e in absurd (search (rules, test)))
    made.0 (made.1 ∙ search rules) c.in_ok-id.ensures.only
