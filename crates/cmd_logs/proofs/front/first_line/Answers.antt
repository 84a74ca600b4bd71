use Rattle.std.proofs.Common.{◌≡◌, drop, take, refl, sym, ap, ◌∙◌, subst}
use Rattle.cmd_io.specs.Input.{HasNoLineEnd, HasTooLongLine, IsLineEnd}
use Rattle.can_logs.specs.Forms.{Says, bells, end_of}
use Rattle.cmd_logs.proofs.Ends.{line_found, no_line, too_long}
use Rattle.cmd_logs.proofs.front.first_line.Goals as goal

pub returns-in-TooLong-clause-found : goal.returns-in-TooLong-clause-found
returns-in-TooLong-clause-found c =
    (refl, too_long c.args.form c.args.bytes.now (subst (λ end. HasTooLongLine end 120 c.args.bytes.now) c.end.ensures c.in-TooLong.ensures))

pub returns-in-Incomplete-clause-found : goal.returns-in-Incomplete-clause-found
returns-in-Incomplete-clause-found c =
    (refl, c.in-Incomplete.ensures.1, subst (λ end. HasNoLineEnd end c.args.bytes.now) c.end.ensures c.in-Incomplete.ensures.0)

pub returns-in-Some-clause-found : goal.returns-in-Some-clause-found
returns-in-Some-clause-found c =
    let size = c.in-Line.size in
    let ended = subst (λ end. IsLineEnd end c.args.bytes.now size) c.end.ensures c.in-Line.ensures.0 in
    let line = c.split_at.ensures.front in
    let text : c.split_at-2.result.1.now ≡ drop (bells c.args.form (take size c.args.bytes.now)) (take size c.args.bytes.now) =
    c.split_at-2.ensures.back ∙ ap (λ n. drop n c.split_at.result.0.now) c.bells.ensures.count ∙ ap (λ l. drop (bells c.args.form l) l) line in
    line_found c.args.form c.args.bytes.now size ended c.in-Some.said c.in-Line.ensures.1
    (subst (Says c.args.form c.in-Some.said) text c.in-Some.ensures.found)

pub returns-in-None-clause-found : goal.returns-in-None-clause-found
returns-in-None-clause-found c =
    let size = c.in-Line.size in
    let ended = subst (λ end. IsLineEnd end c.args.bytes.now size) c.end.ensures c.in-Line.ensures.0 in
    let line = c.split_at.ensures.front in
    let text : c.split_at-2.result.1.now ≡ drop (bells c.args.form (take size c.args.bytes.now)) (take size c.args.bytes.now) =
    c.split_at-2.ensures.back ∙ ap (λ n. drop n c.split_at.result.0.now) c.bells.ensures.count ∙ ap (λ l. drop (bells c.args.form l) l) line in (
      refl,
      no_line c.args.form c.args.bytes.now size ended
          (λ said says. let found = c.in-None.ensures.only said (subst (Says c.args.form said) (sym text) says) in absurd (cc found)),
    )
