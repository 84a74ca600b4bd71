-- What it is that the answer to the vote request of who stands comes alone: no other answer under its transfer ID comes
-- before.
use Rattle.std.specs.Prelude.{◌≡◌, ◌≢◌, ℕ, List, ◌∷◌, ◌++◌}
use Rattle.can_frame.specs.declared.step.What.TheVariants.{VoteQ}
use Rattle.dsdl_codec.specs.declared.vote_request.VoteRequest.{VoteRequest}
use Rattle.raft_model.specs.Lists.{In}
use Rattle.bus_rows.specs.declared.row.Row.{Row}
use Rattle.alloc_spec.specs.Transfers.{Offer, SentTransfer}
use Rattle.bus_rows.specs.Timed.{Timed, rows_in}
use Rattle.service_alone.specs.Calm.{Pace}
use Rattle.service_candidate.specs.Votes.{VoteComes, VoteComesBack, VoteReadsAsSaid}
use Rattle.service_candidate.specs.Wins.{IsCalmStanding}
use Rattle.service_calm.specs.Calm.{Member, Party}
use Rattle.service_calm.specs.Comes.{Sends, sent_by}
use Rattle.bus_spec.specs.Cluster.{Cluster, after_rows, world_of}

-- The vote request x comes back, and until then no other answer of member m under its transfer ID comes to member n.
pub record VoteComesAlone (n m : ℕ) (x : SentTransfer) (request : VoteRequest) (at delay : ℕ) (w : Cluster)
    (whole : List Timed) : Type 0 where
  pub back : VoteComesBack n m x request at delay w whole
  pub alone : (early late : List Timed) (one : Timed) → back.front ++ back.timed ∷ back.comes.front
      ≡ early ++ one ∷ late → VoteComes n m x.offer.id (after_rows w (rows_in early)) one.row → ⊥

-- In each calm in which member c of the group stands for election: each vote request that it sends in that row comes
-- back, and its answer comes alone.
abbrev pub VotesComeAlone : List ℕ → List Row → Type 0
VotesComeAlone ids rows = (group : List Party) (clocks : Party → ℕ) (pace : Pace) (start c m term : ℕ)
    (front rest : List Timed) (timed : Timed) (offer : Offer) → let w = world_of ids rows in
    let there = after_rows w (rows_in front) in
    IsCalmStanding ids rows group clocks pace start c term front timed rest → In (Member m) group → m ≢ c →
    Sends c there timed.row offer → offer.what ≡ VoteQ → offer.to ≡ m →
    (read : VoteReadsAsSaid (sent_by c there offer))
    × VoteComesAlone c m (sent_by c there offer) read.request timed.at pace.delay there (timed ∷ rest)
