use Rattle.std.proofs.Common.{rules, ◌∙◌, ap, subst, sym, arith}
use Rattle.mirrored_disk.specs.Newest.{IsFoundBelow}
use Rattle.mirrored_disk.specs.Record.{HasRecord, image_in, number_in}
use Rattle.mirrored_disk.proofs.Taken.{newer, older, passed_over}
use Rattle.mirrored_disk.proofs.search.take_newer.Goals as goal

pub returns-in_default-clause-found : goal.returns-in_default-clause-found
returns-in_default-clause-found c = λ blocks same found. passed_over c.args.head.now blocks c.args.block c.args.newest c.args.image.now (λ there. c.number_of.ensures.none (search rules) (subst (HasRecord c.args.head.now) (sym same) there)) found

pub returns-in-Some-newest-clause-found : goal.returns-in-Some-newest-clause-found
returns-in-Some-newest-clause-found c = λ blocks same found. older c.args.head.now blocks c.args.block c.in-Some.number (subst (HasRecord c.args.head.now) same c.in-Some.ensures.found) (ap number_in (sym same) ∙ c.in-Some.ensures.number) c.in-Some-newest.best c.args.image.now (search rules) (subst (λ newest. IsFoundBelow c.args.block c.args.head.now blocks newest c.args.image.now) c.in-Some-newest.is found)

pub returns-in-Some-2-clause-found : goal.returns-in-Some-2-clause-found
returns-in-Some-2-clause-found c = λ blocks same found. newer c.args.head.now blocks c.args.block c.in-Some.number (subst (HasRecord c.args.head.now) same c.in-Some.ensures.found) (ap number_in (sym same) ∙ c.in-Some.ensures.number) c.in-Some-newest.best c.image_of.new.image c.args.image.now (omega (arith, c.if-number-best.false)) (ap image_in (sym same) ∙ c.image_of.ensures) (subst (λ newest. IsFoundBelow c.args.block c.args.head.now blocks newest c.args.image.now) c.in-Some-newest.is found)
