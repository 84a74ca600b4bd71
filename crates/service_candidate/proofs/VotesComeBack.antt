-- A vote request comes back: it comes to the member that is asked, which answers in that row, and the answer comes to
-- the member that asked; and it comes alone, where nothing else is under way.
use Rattle.std.proofs.Common.{◌≡◌, ℕ, ◌+◌, ◌*◌, List, ◌∷◌, ◌++◌, sym, ◌∙◌, subst, Some}
use Rattle.can_frame.specs.declared.step.What.TheVariants.{Vote, VoteQ}
use Rattle.dsdl_codec.specs.declared.vote_request.VoteRequest.{VoteRequest}
use Rattle.dsdl_codec.specs.VoteRequest.{vote_request_of}
use Rattle.raft_model.specs.Lists.{In}
use Rattle.alloc_spec.specs.AllocatorState.{members_of}
use Rattle.service_candidate.specs.Votes.{AnswersVote, VoteComesBack, VotesAreAnswered}
use Rattle.service_candidate.specs.VotesAlone.{VoteComesAlone}
use Rattle.service_leader.proofs.Exchange.{Exchange}
use Rattle.service_leader.proofs.ExchangeAnswers.{AreSilent, Comes, silent_at, silent_both}
use Rattle.service_leader.proofs.ExchangeBack.{ComesBack}
use Rattle.service_candidate.proofs.VotesAsked.{no_vote, vote_sent}
use Rattle.service_calm.specs.Comes.{Sends, sent_by}
use Rattle.service_calm.proofs.Pending.{Made}
use Rattle.bus_rows.specs.Timed.{Timed, rows_in}
use Rattle.service_alone.specs.Calm.{Pace}
use Rattle.bus_spec.specs.Cluster.{Cluster, after_row, after_rows}

module _ (both : Exchange) (its_answers : both.answers ≡ Vote) (votes_answered : VotesAreAnswered) (Alone : Type 0) (x : Made) (request : VoteRequest)
    (read : vote_request_of x.transfer.offer.payload ≡ Some request) (what : x.transfer.offer.what ≡ VoteQ) (by_n : x.transfer.by ≡ both.n) (w : Cluster) (whole : List Timed)
    (back : ComesBack both Alone x w whole) where
  abbrev pace : Pace
  pace = both.pace

  abbrev n : ℕ
  n = both.n

  abbrev m : ℕ
  m = both.m

  abbrev there : Cluster
  there = after_rows w (rows_in back.front)

  pub answers : AnswersVote m x.transfer request there back.timed.row back.delivers
  answers = votes_answered m x.transfer request there back.timed.row back.delivers back.me what read
      (subst (λ (k : ℕ). In k (members_of back.delivers.server)) (sym by_n) back.listed)

  sends_it : Sends m there back.timed.row answers.offer
  sends_it = vote_sent m x.transfer request there back.timed.row back.delivers answers back.place

  pub comes : Comes both Alone (sent_by m there answers.offer) (x.at + 4 * pace.delay) (after_row there back.timed.row) back.rest
  comes = back.comes answers.offer sends_it (answers.what ∙ sym its_answers) (answers.to ∙ by_n)

  abbrev pub vote_comes_back : VoteComesBack n m x.transfer request x.at pace.delay w whole
  vote_comes_back = record {
    front = back.front;
    timed = back.timed;
    rest = back.rest;
    split = back.split;
    soon = back.soon;
    delivers = back.delivers;
    answers = answers;
    comes = record { front = comes.front; timed = comes.timed; rest = comes.rest; split = comes.split; soon = comes.soon; delivers = comes.delivers };
  }

  pub vote_comes_alone : Alone → VoteComesAlone n m x.transfer request x.at pace.delay w whole
  vote_comes_alone is = record {
    back = vote_comes_back;
    alone = λ early late one split. no_vote both its_answers (after_rows w (rows_in early)) one.row
        (silent_at both early late one w (subst (AreSilent both w) split silent)) x.transfer.offer.id;
  }
    where
      silent : AreSilent both w (back.front ++ back.timed ∷ comes.front)
      silent = silent_both both back.front comes.front back.timed w (back.silent is) (back.silent_then is) (comes.silent is)
