-- A cluster of three in which the store of member 3, which never opened, becomes a copy of that of member 1: once where
-- member 1 led its term, and once where it stood in a term in which nobody led.
use Rattle.std.proofs.Common.{◌≡◌, ℕ, true, false, List, [], ◌∷◌, ◌++◌, refl, arith, sym, subst, inl, inr, Some}
use Rattle.raft_model.specs.Lists.{In}
use Rattle.raft_model.specs.Messages.{Request, Answer}
use Rattle.raft_model.specs.Messages.Message.{Requests, Answers}
use Rattle.raft_model.specs.Moves.Leading.{answer_to, vote_request}
use Rattle.raft_model.specs.Moves.Move.{CallForVote, TakeVoteRequest, TimeOut}
use Rattle.raft_model.specs.Runs.{Event, initial_world, run, Lawful}
use Rattle.raft_model.specs.Runs.Event.{Opens, Steps, Stops}
use Rattle.raft_model.specs.Server.{Store}
use Rattle.raft_model.proofs.Example.{entry, example, lawful, three}
use Rattle.raft_model.proofs.Prefixes.{joined_lawful}
use Rattle.raft_replaced.specs.Replacement.{MayBeCopied}

-- both that are up stop between two steps
abbrev stop : List Event
stop = Stops 1 6 [] ∷ Stops 2 6 [] ∷ []

abbrev pub stopped : List Event
stopped = example ++ stop

pub lawful_stopped : Lawful (initial_world three) stopped
lawful_stopped = joined_lawful (initial_world three) example stop lawful ((refl, tt), ((refl, tt), tt))

-- of three members each
each_of_three : (P : ℕ → Type 0) → P 1 → P 2 → P 3 → (m : ℕ) → In m three → P m
each_of_three P one two last m (inl e) = subst P (sym e) one
each_of_three P one two last m (inr (inl e)) = subst P (sym e) two
each_of_three P one two last m (inr (inr (inl e))) = subst P (sym e) last
each_of_three P one two last m (inr (inr (inr i))) = absurd i

pub where_led : MayBeCopied (run (initial_world three) stopped) 3 1
where_led = record {
  listed = inr (inr (inl refl));
  down = each_of_three (λ m. ((run (initial_world three) stopped).server m).memory.up ≡ false) refl refl refl;
  own = refl;
  majority = omega arith;
  committed = refl;
}

-- ---- and then member 1 stands again, 2 votes for it, and both stop before 1 hears of that

abbrev pub standing : Store
standing = record { term = 2; vote = Some 1; log = entry ∷ []; commit = 1 }

abbrev pub voting : Store
voting = record { term = 2; vote = Some 1; log = entry ∷ []; commit = 0 }

abbrev pub asked : Request
asked = vote_request 1 7 standing 2

abbrev pub granted : Answer
granted = answer_to 2 8 voting asked true

abbrev stand : List Event
stand = Opens 1 ∷ Opens 2
    ∷ Steps 1 7 (TimeOut ∷ CallForVote 2 ∷ []) (Requests asked ∷ [])
    ∷ Steps 2 8 (TakeVoteRequest asked true ∷ []) (Answers granted ∷ [])
    ∷ Stops 1 9 []
    ∷ Stops 2 9 []
    ∷ []

abbrev pub stood : List Event
stood = stopped ++ stand

lawful_stand : Lawful (run (initial_world three) stopped) stand
lawful_stand = (
  (inl refl, refl),
  (
    (inr (inl refl), refl),
    (
      (
        refl,
        omega arith,
        ((λ e. cc, omega arith), ((refl, record { other = λ e. cc; listed = inr (inl refl); free = refl; first = λ i. i }), tt)),
        λ g i. i,
      ),
      (
        (
          refl,
          omega arith,
          ((inl refl, refl, refl, record { own_term = refl; free = inl refl; not_above = inr (refl, omega arith) }), tt),
          λ g i. i,
        ),
        ((refl, tt), ((refl, tt), tt)),
      ),
    ),
  ),
)

pub lawful_stood : Lawful (initial_world three) stood
lawful_stood = joined_lawful (initial_world three) stopped stand lawful_stopped lawful_stand

pub where_not_led : MayBeCopied (run (initial_world three) stood) 3 1
where_not_led = record {
  listed = inr (inr (inl refl));
  down = each_of_three (λ m. ((run (initial_world three) stood).server m).memory.up ≡ false) refl refl refl;
  own = refl;
  majority = omega arith;
  committed = refl;
}
