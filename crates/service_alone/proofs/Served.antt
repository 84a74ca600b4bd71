-- Whatever happened, an allocator that is alone can still give a device its node ID.
use Rattle.std.proofs.Common.{◌≡◌, ◌≢◌, ℕ, suc, ◌+◌, ◌<◌, ◌≤◌, Bool, true, false, List, [], ◌∷◌, ◌++◌, length, length-drop, length-take, take, drop, refl, sym, ◌∙◌, ap, subst, arith, Option, None, Some}
use Rattle.std.specs.Prelude.{nat_lt}
use Rattle.std.proofs.Math.Seq.{take-append-add}
use Rattle.std.proofs.lemmas.List.{take-append-drop, take_all}
use Rattle.alloc_exchange.specs.declared.heard.Heard.TheVariants.{FollowUp as Follows, Whole}
use Rattle.alloc_exchange.specs.Exchange.{Accepted, after, answer}
use Rattle.can_frame.specs.declared.entry.Entry.{Entry}
use Rattle.can_frame.specs.Cutting.{frame_count}
use Rattle.can_frame.specs.Log.{HasPair, HasUid, IsBlank, IsInjective, log_limit}
use Rattle.can_frame.specs.Zeros.{zeros}
use Rattle.dsdl_codec.specs.declared.allocation.Allocation.{Allocation}
use Rattle.id_selector.specs.Choice.{IsChoice, chosen}
use Rattle.raft_model.specs.Server.{Store}
use Rattle.transfer_tx.specs.Queue.{Queued, queued_frames}
use Rattle.allocatee.specs.Accepted.{setting}
use Rattle.allocatee.specs.Allocatee.{Device, opening}
use Rattle.alloc_spec.specs.AllocatorState.{AllocatorState, taken}
use Rattle.alloc_spec.specs.Step.{at_moment, step}
use Rattle.alloc_spec.specs.Step.Event.{Rx}
use Rattle.alloc_spec.specs.Exchange.{allocation_payload}
use Rattle.alloc_spec.specs.Transfers.{outgoing}
use Rattle.can_frame.specs.declared.step.What.TheVariants.{Alloc}
use Rattle.raft_model.specs.Moves.Elections.{term_limit}
use Rattle.service_steps.specs.Devices.{RequestsAreRequests, comes_at}
use Rattle.service_steps.specs.Serving.{AsksInTime, with_queue}
use Rattle.service_steps.proofs.Three.{first_after, first_answer, second_after, second_answer, third_answer}
use Rattle.bus_spec.specs.Allocatees.{is_place}
use Rattle.bus_agreement.specs.Allocatees.{Holds}
use Rattle.bus_spec.specs.Cluster.{Cluster}
use Rattle.service_alone.specs.Alone.{IsLeft, MayBeServed, found}
use Rattle.service_alone.proofs.Answering.{AnsweringLaws, HasFollowed, IsGiven, follows, gives_pair}
use Rattle.service_alone.proofs.Asking.{Asked, HasAsked, asks, asks_first, asks_more, comes, leaves}
use Rattle.service_alone.proofs.CalmChoice.{finds_one, gives_left, may_record}
use Rattle.service_alone.proofs.Choosing.{Chooses, StandsAt, grown_length, grown_pair, not_zeros, recorded_first, same_node, stands, still_injective, still_left, still_new, was_left}
use Rattle.service_alone.proofs.Goes.{CanGo, and_then, so}
use Rattle.service_alone.proofs.Hearing.{its_key}
use Rattle.service_alone.proofs.Leading.{HasComeToLead, Laws, comes_to_lead}
use Rattle.service_alone.proofs.Leads.{same_either}
use Rattle.service_alone.proofs.Reached.{IsReached}
use Rattle.service_alone.proofs.Receiving.{awaits_first}
use Rattle.service_alone.proofs.Scenes.{At}
use Rattle.service_alone.proofs.Sending.{drains}
use Rattle.service_alone.proofs.Serving.{IsServing, pair_waits, pair_waits_again, serves_fresh}

-- ---- the parts of a unique ID

module _ (uid : List ℕ) (whole : length uid ≡ 16) where
  pub six : length (take 6 uid) ≡ 6
  six = let e = length-take 6 uid in omega (arith, e, whole)

  pub six_more : length (take 6 (drop 6 uid)) ≡ 6
  six_more = let e = length-take 6 (drop 6 uid) in let f = length-drop 6 uid in omega (arith, e, f, whole)

  four_left : length (drop 12 uid) ≡ 4
  four_left = let f = length-drop 12 uid in omega (arith, f, whole)

  last_part : take 6 (drop 12 uid) ≡ drop 12 uid
  last_part = take_all 6 (drop 12 uid) (omega (arith, four_left))

  pub four : length (take 6 (drop 12 uid)) ≡ 4
  four = ap length last_part ∙ four_left

  pub twelve : take 6 uid ++ take 6 (drop 6 uid) ≡ take 12 uid
  twelve = sym (take-append-add (take 6 uid) (drop 6 uid) 6)
      ∙ (ap (λ (k : ℕ). take (k + 6) (take 6 uid ++ drop 6 uid)) six ∙ ap (λ (l : List ℕ). take 12 l) (take-append-drop 6 uid))

  pub all_of_it : (take 6 uid ++ take 6 (drop 6 uid)) ++ take 6 (drop 12 uid) ≡ uid
  all_of_it = (λ i. twelve i ++ last_part i) ∙ take-append-drop 12 uid

-- ---- three requests

-- what the laws below say
pub record ServedLaws : Type 0 where
  pub answering : AnsweringLaws
  pub requests : RequestsAreRequests
  pub blanks : (log : List Entry) (entry : Entry) → IsBlank entry → IsInjective log → IsInjective (log ++ entry ∷ [])
  pub choice : (ids : List Bool) (preferred : ℕ) → IsChoice ids preferred (chosen ids preferred)

module _ (laws : ServedLaws) (n a : ℕ) (low : 1 ≤ n) (high : n ≤ 125) (place : is_place a ≡ true) (uid : List ℕ) (whole : length uid ≡ 16)
    (preferred : ℕ) (few : preferred < 128) (moment : ℕ) (log : List Entry) where
  abbrev first : Allocation
  first = asks uid preferred moment true (take 6 uid)

  abbrev second : Allocation
  second = asks uid preferred moment false (take 6 (drop 6 uid))

  abbrev third : Allocation
  third = asks uid preferred moment false (take 6 (drop 12 uid))

  in_time : AsksInTime [] first second third moment moment moment
  in_time = record {
    fresh = same_either (nat_lt 500 moment) [];
    first = refl;
    second = refl;
    third = refl;
    six = six uid whole;
    twelve = six_more uid whole;
    sixteen = four uid whole;
    soon = omega arith;
    late = omega arith;
  }

  abbrev accepted_one : List Accepted
  accepted_one = after [] first moment true

  abbrev accepted_two : List Accepted
  accepted_two = after accepted_one second moment true

  first_says : answer [] first moment true ≡ Follows (record { items = take 6 uid })
  first_says = first_answer [] first second third moment moment moment in_time

  second_says : answer accepted_one second moment true ≡ Follows (record { items = take 12 uid })
  second_says = ap (λ (l : List Accepted). answer l second moment true) (first_after [] first second third moment moment moment in_time)
      ∙ (second_answer [] first second third moment moment moment in_time ∙ ap (λ (l : List ℕ). Follows (record { items = l })) (twelve uid whole))

  third_says : answer accepted_two third moment true ≡ Whole uid preferred
  third_says = ap (λ (l : List Accepted). answer (after l second moment true) third moment true) (first_after [] first second third moment moment moment in_time)
      ∙ (ap (λ (l : List Accepted). answer l third moment true) (second_after [] first second third moment moment moment in_time)
      ∙ (third_answer [] first second third moment moment moment in_time true ∙ ap (λ (l : List ℕ). Whole l preferred) (all_of_it uid whole)))

  -- ---- the pair that waits behind the third request

  pub record PairWaits (Fits : ℕ → Type 0) (t : AllocatorState) (number : ℕ) (frame : Queued) : Type 0 where
    pub node : ℕ
    pub least : 1 ≤ node
    pub most : node ≤ 125
    pub fits : Fits node
    pub waits : (step t number (Rx (comes_at frame moment))).step_state.allocator.queue
        ≡ queued_frames (outgoing n Alloc 0 2 (allocation_payload node uid)) number 0

  -- whoever leads with this log gives a node ID of which this holds
  abbrev pub GivesPair : (ℕ → Type 0) → Type 0
  GivesPair Fits = (t : AllocatorState) (number : ℕ) (frame : Queued) → IsServing n log moment 2 accepted_two t → Asked third moment frame
      → PairWaits Fits t number frame

  -- a new unique ID: one that is left
  pub new_pair : uid ≢ zeros → (HasUid log uid → ⊥) → (node : ℕ) → IsLeft n log node → length log < log_limit → GivesPair (IsLeft n log)
  new_pair device new node left room t number frame serves asked =
      let choice : Chooses (taken (at_moment moment t)) preferred = finds_one n log accepted_two 2 t serves.serves moment laws.choice preferred node left in
      record {
        node = choice.node;
        least = choice.least;
        most = choice.most;
        fits = gives_left n log accepted_two 2 t serves.serves moment preferred choice;
        waits = pair_waits n log moment 2 accepted_two t serves number (comes_at frame moment) third refl asked.request uid preferred choice.node
            (omega (arith, whole)) third_says (may_record n log accepted_two 2 t serves.serves moment preferred uid serves.now device new room choice);
      }

  -- one that stands in the log: the node ID that it has there
  pub known_pair : (node : ℕ) → HasPair log uid node → IsInjective log → GivesPair (λ given. given ≡ node)
  known_pair node p injective t number frame serves asked = record {
    node = node;
    least = subst (λ (k : ℕ). 1 ≤ k) p.its_node p.pair.least;
    most = subst (λ (k : ℕ). k ≤ 125) p.its_node p.pair.most;
    fits = refl;
    waits = pair_waits_again n log moment 2 accepted_two t serves number (comes_at frame moment) third refl asked.request uid preferred node
        (omega (arith, whole)) third_says there.place (not_zeros uid device) (recorded_first log uid there) there.inside there.its_uid
        (same_node log uid there.place p.place injective device there.inside p.within there.its_uid p.its_uid ∙ p.its_node);
  }
    where
      device : uid ≢ zeros
      device = λ e. p.pair.uid (p.its_uid ∙ e)

      there : StandsAt log uid
      there = stands log uid p.place p.within p.its_uid

  -- ---- one stage after the other

  module _ (Fits : ℕ → Type 0) (gives : GivesPair Fits) where
    abbrev Served : Cluster → Type 0
    Served w = (node : ℕ) × Fits node × IsGiven laws.answering n a low high place uid preferred moment node w

    abbrev Followed : ℕ → ℕ → ℕ → List Accepted → Cluster → Type 0
    Followed next next_one known accepted w = HasFollowed laws.answering n a low high place uid preferred moment log next next_one known accepted w

    last_stage : (w : Cluster) → Followed 2 2 12 accepted_two w → CanGo w moment moment 9 Served
    last_stage w h =
        and_then (HasAsked laws.requests n a place uid preferred moment few h.server h.sessions h.frames 3 third) Served w moment moment moment 2 7
        (asks_more laws.requests n a place uid preferred moment few h.server h.frames h.sessions w 2 12 (omega arith) h.at)
        (λ v k. let p = gives h.server (v.rows + 1) k.0 h.serves k.1 in
        so (IsGiven laws.answering n a low high place uid preferred moment p.node) Served v moment moment 7
        (gives_pair laws.answering n a low high place uid preferred moment h.server (h.frames ++ k.0 ∷ []) h.frames k.0 h.sessions v log 2 3 p.node 3
        accepted_two third (omega arith) p.least p.most (omega (arith, whole)) (subst (λ (l : ℕ). frame_count (suc l) ≤ 3) (sym whole) (omega arith))
        h.serves k.1 p.waits h.awaits refl k.2)
        (λ u g. (p.node, p.fits, g)))

    middle_stage : (w : Cluster) → Followed 1 1 6 accepted_one w → CanGo w moment moment 18 Served
    middle_stage w h =
        and_then (HasAsked laws.requests n a place uid preferred moment few h.server h.sessions h.frames 2 second) Served w moment moment moment 2 16
        (asks_more laws.requests n a place uid preferred moment few h.server h.frames h.sessions w 1 6 (omega arith) h.at)
        (λ v k. and_then (Followed 2 2 12 accepted_two) Served v moment moment moment 7 9
        (follows laws.answering n a low high place uid preferred moment h.server (h.frames ++ k.0 ∷ []) h.frames k.0 h.sessions v log 1 2 12 3
        accepted_one second (omega arith) (omega arith) (omega arith) (omega (arith, whole)) (omega arith)
        h.serves k.1 second_says h.awaits refl k.2)
        (λ u g. last_stage u g))

    first_stage : (t : AllocatorState) (frames : List Queued) (w : Cluster) (since : ℕ) → since + 600 ≡ moment → IsServing n log moment 0 [] t
        → At n a t (Some (opening uid preferred since 0)) frames w → CanGo w since moment 23 Served
    first_stage t frames w since later serves at =
        and_then (HasAsked laws.requests n a place uid preferred moment few t [] frames 1 first) Served w since moment moment 2 21
        (asks_first laws.requests n a place uid preferred moment few t frames w since later at)
        (λ v k. and_then (Followed 1 1 6 accepted_one) Served v moment moment moment 3 18
        (follows laws.answering n a low high place uid preferred moment t (frames ++ k.0 ∷ []) frames k.0 [] v log 0 1 6 1
        [] first (omega arith) (omega arith) (omega arith) (omega (arith, whole)) (omega arith)
        serves k.1 first_says (awaits_first setting (its_key laws.answering.hearing n low high) moment 0 (omega arith)) refl k.2)
        (λ u g. middle_stage u g))

-- ---- from any world that rows lead to

module _ (n a : ℕ) (laws : ServedLaws) (leading : Laws (n ∷ [])) (low : 1 ≤ n) (high : n ≤ 125) (place : is_place a ≡ true) (uid : List ℕ)
    (whole : length uid ≡ 16) (preferred : ℕ) (few : preferred < 128) where
  abbrev Gets : (ℕ → Type 0) → Cluster → Type 0
  Gets Fits v = (node : ℕ) × Fits node × Holds v a uid node

  -- the allocator leads, its NodeStatus goes out, and the device comes in the place of whoever was there
  then_served : (since : ℕ) (store : Store) (x : Option Device) (frames : List Queued) (w : Cluster) (l : HasComeToLead n a leading store since x frames w)
      (Fits : ℕ → Type 0) → GivesPair laws n a low high place uid whole preferred few (since + 600) l.stored.log Fits
      → CanGo w since (since + 600) 26 (Gets Fits)
  then_served since store x frames w l Fits gives =
      and_then (At n a (with_queue [] l.server) x (frames ++ l.fresh.status ∷ [])) (Gets Fits) w since since (since + 600) 1 25
      (drains n a since l.server x l.fresh.status.id (l.fresh.status ∷ []) frames w (refl, tt)
      (subst (λ (s : AllocatorState). At n a s x frames w) waits l.at))
      (λ v at. and_then (At n a (with_queue [] l.server) None (frames ++ l.fresh.status ∷ [])) (Gets Fits) v since since (since + 600) 1 24
      (leaves n a place since (with_queue [] l.server) x (frames ++ l.fresh.status ∷ []) v at)
      (λ u free. and_then (At n a (with_queue [] l.server) (Some (opening uid preferred since 0)) (frames ++ l.fresh.status ∷ [])) (Gets Fits)
      u since since (since + 600) 1 23
      (comes n a place since (with_queue [] l.server) (frames ++ l.fresh.status ∷ []) u uid preferred since (omega arith) free)
      (λ y there. so (λ z. (node : ℕ) × Fits node × IsGiven laws.answering n a low high place uid preferred (since + 600) node z) (Gets Fits) y
      since (since + 600) 23
      (first_stage laws n a low high place uid whole preferred few (since + 600) l.stored.log Fits gives
      (with_queue [] l.server) (frames ++ l.fresh.status ∷ []) y since refl
      (serves_fresh n l.stored since (since + 600) l.server l.fresh (omega arith)) there)
      (λ z g. (g.0, g.1, record { device = g.2.device; there = g.2.there; its_uid = g.2.its_uid; its_node = g.2.its_node })))))
    where
      waits : l.server ≡ with_queue (l.fresh.status ∷ []) l.server
      waits = λ i. record l.server { queue = l.fresh.waiting i }

  module _ (moment : ℕ) (w : Cluster) (ids : w.ids ≡ n ∷ []) (r : IsReached (n ∷ []) w) where
    gets : length (found w n).log < log_limit → (found w n).term + 1 < term_limit → (Fits : ℕ → Type 0)
        → ((v : Cluster) (l : HasComeToLead n a leading (found w n) (moment + 4000) (w.allocatee a) w.frames v) → CanGo v (moment + 4000) ((moment + 4000) + 600) 26 (Gets Fits))
        → CanGo w moment (moment + 4600) 33 (Gets Fits)
    gets room terms Fits goes =
        subst (λ (m : ℕ). CanGo w moment m 33 (Gets Fits)) (omega arith)
        (and_then (HasComeToLead n a leading (found w n) (moment + 4000) (w.allocatee a) w.frames) (Gets Fits)
        w moment (moment + 4000) ((moment + 4000) + 600) 7 26
        (comes_to_lead n a leading moment w ids r room terms) goes)

    pub is_served : MayBeServed n (found w n) uid → CanGo w moment (moment + 4600) 33 (Gets (IsLeft n (found w n).log))
    is_served may =
        let before : List Entry = (found w n).log in
        gets (let room : length (found w n).log + 1 < log_limit = may.room in omega (arith, room)) may.terms (IsLeft n before)
        (λ v l. so (Gets (IsLeft n l.stored.log)) (Gets (IsLeft n before)) v (moment + 4000) ((moment + 4000) + 600) 26
        (then_served (moment + 4000) (found w n) (w.allocatee a) w.frames v l (IsLeft n l.stored.log)
        (new_pair laws n a low high place uid whole preferred few ((moment + 4000) + 600) l.stored.log may.device
        (still_new before l.stored.log uid may.device l.settled.log may.new) may.left.0 (still_left n before l.stored.log may.left.0 l.settled.log may.left.1)
        (let g = grown_length before l.stored.log l.settled.log in let room : length (found w n).log + 1 < log_limit = may.room in omega (arith, g, room))))
        (λ u g. (g.0, was_left n before l.stored.log g.0 l.settled.log g.1, g.2)))

    pub is_told_again : (node : ℕ) → HasPair (found w n).log uid node → length (found w n).log < log_limit → (found w n).term + 1 < term_limit
        → CanGo w moment (moment + 4600) 33 (λ v. Holds v a uid node)
    is_told_again node p room terms =
        so (Gets (λ given. given ≡ node)) (λ v. Holds v a uid node) w moment (moment + 4600) 33
        (gets room terms (λ given. given ≡ node)
        (λ v l. then_served (moment + 4000) (found w n) (w.allocatee a) w.frames v l (λ given. given ≡ node)
        (known_pair laws n a low high place uid whole preferred few ((moment + 4000) + 600) l.stored.log node
        (grown_pair (found w n).log l.stored.log uid node l.settled.log p) (still_injective laws.blanks (found w n).log l.stored.log l.settled.log l.sound.injective))))
        (λ v g. subst (λ (k : ℕ). Holds v a uid k) g.1 g.2)
