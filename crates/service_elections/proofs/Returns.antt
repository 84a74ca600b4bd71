-- In a calm in which a member leads on in one term, whatever was before, each of its calls to another member comes back.
use Rattle.std.proofs.Common.{◌≡◌, ◌≢◌, ℕ, ◌+◌, ◌*◌, ◌<◌, List, [], ◌∷◌, ◌++◌, append_assoc, append-nil, sym, ◌∙◌, ap, subst, Some}
use Rattle.dsdl_codec.specs.declared.append_request.AppendRequest.{AppendRequest}
use Rattle.raft_model.specs.Lists.{In}
use Rattle.bus_rows.specs.declared.row.Row.{Row}
use Rattle.alloc_spec.specs.Transfers.{Offer}
use Rattle.bus_rows.specs.Timed.{Timed, rows_in}
use Rattle.service_alone.specs.Calm.{Pace, end_of}
use Rattle.service_leader.specs.Answers.{AnswersAreTaken}
use Rattle.service_leader.specs.CallsComeBack.{ComesBack}
use Rattle.service_leader.specs.EntriesBelow.{EntryLaws}
use Rattle.service_leader.specs.LeadsOn.{LeadsIn}
use Rattle.service_leader.proofs.Stretches.{world_both}
use Rattle.service_elections.specs.Calling.{CallsReturnInRounds}
use Rattle.service_elections.specs.Running.{IsCalmOf}
use Rattle.service_calm.proofs.Grounds.{is_server}
use Rattle.service_elections.proofs.LearnsGrounds.{Grounds}
use Rattle.service_elections.proofs.NobodyScene.{Course, StepLaws, here}
use Rattle.service_elections.proofs.ReturnsTaken.{CallMade, came_back, reads}
use Rattle.service_calm.specs.Calls.{Calls, ReadsAsSaid}
use Rattle.service_calm.specs.Calm.{Member as OfMember, Party}
use Rattle.service_calm.specs.Comes.{Sends, sent_by}
use Rattle.bus_spec.specs.Cluster.{Cluster, after_rows, world_of}

one_read : (a b : AppendRequest) → Some a ≡ Some b → a ≡ b
one_read a b e = cc e

module _ (ids : List ℕ) (rows : List Row) (steps : StepLaws) (g : Grounds ids rows) (laws : EntryLaws ids rows) (take : AnswersAreTaken)
    (group : List Party) (clocks : Party → ℕ) (pace : Pace) (start n m term : ℕ) (first later : List Timed)
    (calm : IsCalmOf ids rows group clocks pace start (first ++ later)) (in_n : In (OfMember n) group) (in_m : In (OfMember m) group) (differs : n ≢ m)
    (leads : (c d : List Timed) → later ≡ c ++ d → LeadsIn n term (after_rows (after_rows (world_of ids rows) (rows_in first)) (rows_in c)))
    (front rest : List Timed) (timed : Timed) (offer : Offer) (request : AppendRequest) (split : later ≡ front ++ timed ∷ rest)
    (calls : Calls n m (after_rows (after_rows (world_of ids rows) (rows_in first)) (rows_in front)) timed.row offer request)
    (long : timed.at + 4 * pace.delay < end_of timed.at rest) where
  abbrev w : Cluster
  w = world_of ids rows

  abbrev s : Course
  s = record {
    ids = ids;
    rows = rows;
    group = group;
    clocks = clocks;
    pace = pace;
    start = start;
    whole = first ++ later;
    calm = calm;
    steps = steps;
    me = λ p i t up. (is_server g.below.wins.election.calm ids g.members rows g.harmless p t (calm.listed p i) up).me;
  }

  -- the front before the call
  abbrev upto : List Timed
  upto = first ++ front

  world_is : here s upto ≡ after_rows (after_rows w (rows_in first)) (rows_in front)
  world_is = world_both w first front

  sends : Sends n (here s upto) timed.row offer
  sends = subst (λ (v : Cluster). Sends n v timed.row offer) (sym world_is) calls.sends

  cut : first ++ later ≡ upto ++ timed ∷ (rest ++ [])
  cut = ap (λ (l : List Timed). first ++ l) split ∙ (sym (append_assoc first front (timed ∷ rest)) ∙ ap (λ (l : List Timed). upto ++ timed ∷ l) (sym (append-nil rest)))

  led : (c d : List Timed) → rest ≡ c ++ d → LeadsIn n term (here s ((upto ++ timed ∷ []) ++ c))
  led c d part = subst (λ (l : List Timed). LeadsIn n term (here s l))
      (sym (append_assoc first front (timed ∷ c)) ∙ sym (append_assoc upto (timed ∷ []) c))
      (subst (LeadsIn n term) (sym (world_both w first (front ++ timed ∷ c)))
      (leads (front ++ timed ∷ c) d (split ∙ (ap (λ (l : List Timed). front ++ timed ∷ l) part ∙ sym (append_assoc front (timed ∷ c) d)))))

  abbrev made : CallMade s n m term
  made = record {
    front = upto;
    timed = timed;
    early = rest;
    rest = [];
    cut = cut;
    offer = offer;
    sends = sends;
    what = calls.what;
    to = calls.to;
    led = led;
    late = long;
  }

  abbrev says : ReadsAsSaid (sent_by n (here s upto) offer)
  says = reads s g laws take n m term in_n in_m differs made

  comes_back : ComesBack n m (sent_by n (after_rows (after_rows w (rows_in first)) (rows_in front)) offer) request timed.at pace.delay
      (after_rows (after_rows w (rows_in first)) (rows_in front)) (timed ∷ rest)
  comes_back = subst (λ (v : Cluster). ComesBack n m (sent_by n v offer) request timed.at pace.delay v (timed ∷ rest)) world_is
      (subst (λ (r : AppendRequest). ComesBack n m (sent_by n (here s upto) offer) r timed.at pace.delay (here s upto) (timed ∷ rest))
      (one_read says.request request (sym says.read ∙ calls.says)) (came_back s g laws take n m term in_n in_m differs made))

pub calls_return_in_rounds : (ids : List ℕ) (rows : List Row) → StepLaws → Grounds ids rows → EntryLaws ids rows → AnswersAreTaken → CallsReturnInRounds ids rows
calls_return_in_rounds ids rows steps g laws take group clocks pace start n m term first later calm in_n in_m differs led front rest timed offer request split calls long =
    comes_back ids rows steps g laws take group clocks pace start n m term first later calm in_n in_m (λ e. differs (sym e))
    (λ c d part. (led c d part).leader) front rest timed offer request split calls long
