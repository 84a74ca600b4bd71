use Rattle.std.proofs.Common.{ℕ, List, ◌∷◌, ◌++◌, ◌∙◌, ap, sym, subst}
use Rattle.can_frame.specs.declared.step.What.{What}
use Rattle.can_frame.specs.declared.step.What.TheVariants.{App}
use Rattle.alloc_spec.specs.Transfers.{kind_of}
use Rattle.bus_rows.specs.Timed.{Timed, rows_in}
use Rattle.service_calm.specs.Comes.{AreReady, IsHeard, MayComeFirst, NoneRepeats}
use Rattle.service_leader.proofs.AnswersOffered.{answer_sent}
use Rattle.service_leader.proofs.laws.answers_come_in_calm.Goals as goal
use Rattle.bus_spec.specs.Cluster.{Cluster, after_rows, world_of}

-- no transfer of the kind waits, and none repeats
abbrev MayFollow : (m n : ℕ) → Cluster → List Timed → (what : What) → (to : ℕ) → Type 0
MayFollow m n w whole what to = (ready : AreReady m n what to w) × NoneRepeats m what to (MayComeFirst m what to ready.receiver) w whole

pub returns : goal.returns
returns c = λ ids rows members harmless group clocks pace start n m front rest timed x request listed running in_n in_m apart quick ready none calm memory delivers answers by fits long.
    let w : Cluster = world_of ids rows in
    let whole : List Timed = front ++ timed ∷ rest in
    let first : MayFollow m n w whole answers.offer.what answers.offer.to =
    subst (λ (what : What). MayFollow m n w whole what answers.offer.to) (sym answers.what)
    (subst (λ (to : ℕ). MayFollow m n w whole App to) (sym (answers.to ∙ by)) (ready, none)) in
    c.each_transfer_comes_whole.ensures.responses ids rows members harmless group clocks pace start m n front rest timed answers.offer listed running in_m in_n
    (λ e. apart (sym e)) quick (ap kind_of answers.what)
    (subst (λ (what : What). IsHeard n what answers.offer.to) (sym answers.what) ((λ e. absurd (cc (e))), answers.to ∙ by))
    first.0 first.1 calm memory (answer_sent m x request (after_rows w (rows_in front)) timed.row delivers answers fits) long
