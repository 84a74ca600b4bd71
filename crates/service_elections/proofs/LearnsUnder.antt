-- The rows of a calm, between a member that asks and one that answers: requests come and are answered, answers come,
-- and a request that is sent is open until its answer comes, if the member does not stand for election.
use Rattle.std.proofs.Common.{◌≡◌, ◌≢◌, ℕ, ◌+◌, ◌*◌, ◌<◌, ◌≤◌, arith, List, [], ◌∷◌, ◌++◌, append_assoc, append-nil, refl, sym, ◌∙◌, ap, subst, inl, inr}
use Rattle.std.specs.Prelude.{◌⊎◌, Some}
use Rattle.can_frame.specs.declared.step.What.{What}
use Rattle.raft_model.specs.Lists.{In}
use Rattle.bus_rows.specs.declared.row.Row.{Row}
use Rattle.transfer_rx.specs.Reassembly.{Delivery}
use Rattle.alloc_spec.specs.AllocatorState.{AllocatorState}
use Rattle.alloc_spec.specs.Step.{Event}
use Rattle.alloc_spec.specs.Transfers.{Offer, id_after, id_of}
use Rattle.alloc_spec_laws.proofs.Lists.{in_back, in_front}
use Rattle.service_leader.proofs.ExchangeAnswers as replies
use Rattle.service_leader.proofs.ExchangeAsks as questions
use Rattle.service_leader.proofs.ExchangeAsks.{ids_made}
use Rattle.service_leader.proofs.ExchangeGoes as goes
use Rattle.service_leader.proofs.ExchangeGoes.{Going, a_row, answered_in_time, asked_in_time, goes_on, q_row}
use Rattle.service_elections.proofs.LearnsChain.{Few, Match, NoAnswer, Turn, brings_few, match_first, match_late, match_more, match_of, passes_few, second_id}
use Rattle.service_leader.proofs.Exchange.{Exchange, IsAnswered, in_one, none_in}
use Rattle.bus_agreement.proofs.Lists.{in_append}
use Rattle.service_calm.specs.Comes.{Delivers, Sends, sent_by}
use Rattle.service_calm.proofs.Counting.{Follow}
use Rattle.service_calm.proofs.Follows.{apart_next}
use Rattle.service_calm.proofs.Pair.{same_stepper}
use Rattle.service_calm.proofs.Pending.{Made}
use Rattle.bus_rows.specs.Timed.{Timed}
use Rattle.service_alone.specs.Calm.{Pace}
use Rattle.bus_spec.specs.Cluster.{Cluster, after_row, receipt_of, step_of}

module _ (both : Exchange) (Open : Made → AllocatorState → Type 0) (quick : 4 * both.pace.delay < 1000) where
  abbrev pace : Pace
  pace = both.pace

  abbrev n : ℕ
  n = both.n

  abbrev m : ℕ
  m = both.m

  abbrev asks : What
  asks = both.asks

  abbrev answers : What
  answers = both.answers

  -- The requests that are under way, the answers that are, and the requests of these.
  pub record Under (w : Cluster) (rows : List Timed) : Type 0 where
    pub going : Going both w rows
    pub olds : List Made
    pub match : Match pace.delay olds going.a.xs
    pub first : ℕ
    pub follow : Follow first (ids_made (olds ++ going.q.xs)) (id_of going.q.pair.sender.ids asks m)
    pub few : Few both Open going.q.pair.sender (olds ++ going.q.xs)
    pub past : (z : Made) → In z (olds ++ going.q.xs) → z.at ≤ going.traffic.at

  -- ---- a row

  module _ (w : Cluster) (timed : Timed) (rest : List Timed) (u : Under w (timed ∷ rest)) (turn : Turn both Open w timed) where
    abbrev g : Going both w (timed ∷ rest)
    g = u.going

    abbrev chain : List Made
    chain = u.olds ++ g.q.xs

    abbrev sender : AllocatorState
    sender = g.q.pair.sender

    abbrev asked : Offer → Made
    asked offer = record { at = timed.at; transfer = sent_by n w offer }

    abbrev answered : Offer → Made
    answered offer = record { at = timed.at; transfer = sent_by m w offer }

    -- What the row does with each.
    pub record Stepped : Type 0 where
      pub then_u : Under (after_row w timed.row) rest
      pub requests : (z : Made) → In z g.q.xs → In z then_u.going.q.xs
          ⊎ (Delivers m z.transfer w timed.row × (ans : IsAnswered m answers both.Tells z.transfer w timed.row) × In (answered ans.offer) then_u.going.a.xs)
      pub replies : (y : Made) → In y g.a.xs → (In y then_u.going.a.xs × NoAnswer both Open y.transfer.offer.id w timed.row sender) ⊎ Delivers n y.transfer w timed.row
      pub quiet : (z : Made) → In z g.q.xs → NoAnswer both Open z.transfer.offer.id w timed.row sender
      pub adds : (offer : Offer) → Sends n w timed.row offer → offer.what ≡ asks → offer.to ≡ m → In (asked offer) then_u.going.q.xs

    -- ---- what is under way was asked four delays ago at most

    q_late : (z : Made) → In z g.q.xs → timed.at ≤ z.at + 4 * pace.delay
    q_late z i = let l = asked_in_time both w timed rest g z i in omega (arith, l)

    a_late : (y : Made) → In y g.a.xs → timed.at ≤ y.at + 2 * pace.delay
    a_late = answered_in_time both w timed rest g

    chain_late : (z : Made) → In z chain → timed.at ≤ z.at + 4 * pace.delay
    chain_late z i = elim (in_append z u.olds g.q.xs i) [
      | inl j ↦ match_late pace.delay u.olds g.a.xs timed.at u.match a_late z j
      | inr j ↦ q_late z j
    ]

    chain_past : (z : Made) → In z chain → z.at ≤ timed.at
    chain_past z i = let p = u.past z i in let t = g.calm.0.moments in omega (arith, p, t)

    abbrev PassesQ : Type 0
    PassesQ = goes.PassesQ both w timed rest g

    abbrev BringsQ : Type 0
    BringsQ = goes.BringsQ both w timed rest g

    abbrev PassesA : Type 0
    PassesA = goes.PassesA both w timed rest g

    abbrev BringsA : Type 0
    BringsA = goes.BringsA both w timed rest g

    -- where no answer is delivered
    silent : (r : PassesA) (id : ℕ) → NoAnswer both Open id w timed.row sender
    silent r id k ms comes d key gives same = r.silent sender g.q.pair.sender_up.status k ms comes d key gives

    -- where one is delivered, no other one is
    only : (b : BringsA) (id : ℕ) → b.x.transfer.offer.id ≢ id → NoAnswer both Open id w timed.row sender
    only b id other k ms comes d key gives same =
        other (sym (ap (λ (e : Delivery). e.id) (b.only sender g.q.pair.sender_up.status k ms comes d gives)) ∙ same)

    each_silent : (r : PassesA) (z : Made) → In z chain → (z.at ≤ timed.at) × (timed.at ≤ z.at + 4 * pace.delay) × NoAnswer both Open z.transfer.offer.id w timed.row sender
    each_silent r z i = (chain_past z i, chain_late z i, silent r z.transfer.offer.id)

    -- ---- no request is delivered, and no answer

    module _ (p : PassesQ) where
      abbrev after : AllocatorState
      after = p.then_q.pair.sender

      abbrev News : Type 0
      News = (p.more ≡ []) ⊎ ((o : Offer) × (p.more ≡ asked o ∷ []) × Sends n w timed.row o × (o.what ≡ asks) × (o.to ≡ m) × (o.id ≡ id_of sender.ids asks m))

      news : News
      news = elim p.news [ inl none ↦ inl none.0 | inr o ↦ inr (o.0, o.1, o.2, o.3, o.6, o.4) ]

      -- the transfer IDs follow each other behind the row
      follow_news : (list : List Made) (first : ℕ) → Follow first (ids_made list) (id_of sender.ids asks m)
          → Follow first (ids_made (list ++ p.more)) (id_of after.ids asks m)
      follow_news = questions.follow_news both g.traffic w g.next g.q timed rest g.calm g.are g.given.0 p.more (id_of after.ids asks m) p.news

      past_news : (list : List Made) → ((z : Made) → In z list → z.at ≤ timed.at) → (z : Made) → In z (list ++ p.more) → z.at ≤ timed.at
      past_news list before z i = elim (in_append z list p.more i) [
        | inl j ↦ before z j
        | inr j ↦ elim news [
          | inl none ↦ absurd (none_in z p.more none j)
          | inr o ↦ let e = ap (λ (x : Made). x.at) (in_one z (asked o.0) p.more o.1 j) in omega (arith, e)
        ]
      ]

      list_is : u.olds ++ p.then_q.xs ≡ chain ++ p.more
      list_is = ap (λ (l : List Made). u.olds ++ l) p.xs_are ∙ sym (append_assoc u.olds g.q.xs p.more)

      no_replies : (r : PassesA) → r.more ≡ []
      no_replies r = elim r.few_more [ inl none ↦ none | inr o ↦ absurd (p.nobody o.0 o.2 o.3 o.4) ]

      replies_are : (r : PassesA) → r.then_a.xs ≡ g.a.xs
      replies_are r = r.xs_are ∙ (ap (λ (l : List Made). g.a.xs ++ l) (no_replies r) ∙ append-nil g.a.xs)

      both_pass : PassesA → Stepped
      both_pass r = record {
        then_u = record {
          going = goes_on both w timed rest g (inl p) (inl r);
          olds = u.olds;
          match = subst (Match pace.delay u.olds) (sym (replies_are r)) u.match;
          first = u.first;
          follow = subst (λ (l : List Made). Follow u.first (ids_made l) (id_of after.ids asks m)) (sym list_is) (follow_news chain u.first u.follow);
          few = subst (Few both Open after) (sym list_is)
              (passes_few both Open quick w timed turn sender after g.q.pair.sender_up.status p.then_q.pair.sender_up.status chain p.more u.first
              (id_of sender.ids asks m) u.follow u.few (each_silent r) news);
          past = λ z i. past_news chain chain_past z (subst (λ (l : List Made). In z l) list_is i);
        };
        requests = λ z i. inl (subst (λ (l : List Made). In z l) (sym p.xs_are) (in_front z g.q.xs p.more i));
        replies = λ y i. inl (subst (λ (l : List Made). In y l) (sym (replies_are r)) i, silent r y.transfer.offer.id);
        quiet = λ z i. silent r z.transfer.offer.id;
        adds = λ offer sends what to. subst (λ (l : List Made). In (asked offer) l) (sym p.xs_are) (in_back (asked offer) g.q.xs p.more (p.adds offer sends what to));
      }

      -- ---- an answer is delivered

      module _ (b : BringsA) where
        abbrev FirstOf : Type 0
        FirstOf = (z : Made) × (others : List Made) × (u.olds ≡ z ∷ others) × (b.x.transfer.offer.id ≡ z.transfer.offer.id) × Match pace.delay others b.others

        first_of : FirstOf
        first_of = match_first pace.delay u.olds b.others b.x (subst (Match pace.delay u.olds) b.first u.match)

        module _ (z : Made) (others : List Made) (olds_are : u.olds ≡ z ∷ others) (its_id : b.x.transfer.offer.id ≡ z.transfer.offer.id)
            (match : Match pace.delay others b.others) where
          chain_is : chain ≡ z ∷ (others ++ g.q.xs)
          chain_is = ap (λ (l : List Made). l ++ g.q.xs) olds_are

          follow_z : Follow u.first (ids_made (z ∷ (others ++ g.q.xs))) (id_of sender.ids asks m)
          follow_z = subst (λ (l : List Made). Follow u.first (ids_made l) (id_of sender.ids asks m)) chain_is u.follow

          few_z : Few both Open sender (z ∷ (others ++ g.q.xs))
          few_z = subst (Few both Open sender) chain_is u.few

          in_chain : (x : Made) → In x (others ++ g.q.xs) → In x chain
          in_chain x i = subst (λ (l : List Made). In x l) (sym chain_is) (inr i)

          -- what is behind it has another transfer ID
          other_id : (x : Made) → In x (others ++ g.q.xs) → b.x.transfer.offer.id ≢ x.transfer.offer.id
          other_id x i same = apart_next z.transfer.offer.id
              (sym its_id ∙ (same ∙ second_id both Open sender z (others ++ g.q.xs) u.first (id_of sender.ids asks m) follow_z few_z x i))

          list_then : others ++ p.then_q.xs ≡ (others ++ g.q.xs) ++ p.more
          list_then = ap (λ (l : List Made). others ++ l) p.xs_are ∙ sym (append_assoc others g.q.xs p.more)

          one_comes : Stepped
          one_comes = record {
            then_u = record {
              going = goes_on both w timed rest g (inl p) (inr b);
              olds = others;
              match = subst (Match pace.delay others) (sym b.xs_are) match;
              first = id_after u.first;
              follow = subst (λ (l : List Made). Follow (id_after u.first) (ids_made l) (id_of after.ids asks m)) (sym list_then)
                  (follow_news (others ++ g.q.xs) (id_after u.first) follow_z.1);
              few = subst (Few both Open after) (sym list_then)
                  (brings_few both Open quick w timed turn sender after g.q.pair.sender_up.status p.then_q.pair.sender_up.status z (others ++ g.q.xs) p.more u.first
                  (id_of sender.ids asks m) follow_z few_z (chain_late z (subst (λ (l : List Made). In z l) (sym chain_is) (inl refl)))
                  (λ x i. (chain_past x (in_chain x i), chain_late x (in_chain x i), only b x.transfer.offer.id (other_id x i))) news);
              past = λ x i. past_news (others ++ g.q.xs) (λ y j. chain_past y (in_chain y j)) x (subst (λ (l : List Made). In x l) list_then i);
            };
            requests = λ x i. inl (subst (λ (l : List Made). In x l) (sym p.xs_are) (in_front x g.q.xs p.more i));
            replies = λ y i. elim (subst (λ (l : List Made). In y l) b.first i) [
              | inl same ↦ inr (subst (λ (k : Made). Delivers n k.transfer w timed.row) (sym same) b.delivers)
              | inr j ↦
                  let of_y = match_of pace.delay others b.others match y j in
                  inl (
                    subst (λ (l : List Made). In y l) (sym b.xs_are) j,
                    only b y.transfer.offer.id (λ e. other_id of_y.0 (in_front of_y.0 others g.q.xs of_y.1) (e ∙ of_y.2)),
                  )
            ];
            quiet = λ x i. only b x.transfer.offer.id (other_id x (in_back x others g.q.xs i));
            adds = λ offer sends what to. subst (λ (l : List Made). In (asked offer) l) (sym p.xs_are) (in_back (asked offer) g.q.xs p.more (p.adds offer sends what to));
          }

        comes : Stepped
        comes = one_comes first_of.0 first_of.1 first_of.2 first_of.3 first_of.4

    -- ---- a request is delivered, and answered

    module _ (d : BringsQ) where
      abbrev y : Made
      y = answered d.answered.offer

      -- the row is a step of the member that is asked
      of_m : (event : Event) → step_of w timed.row ≡ Some (n, event) → ⊥
      of_m event e = both.apart (same_stepper n m event (receipt_of w d.delivers.k d.delivers.ms) (sym e ∙ ap (λ (r : Row). step_of w r) d.delivers.comes))

      abbrev after_d : AllocatorState
      after_d = d.then_q.pair.sender

      module _ (r : PassesA) where
        replies_then : r.then_a.xs ≡ g.a.xs ++ y ∷ []
        replies_then = r.xs_are ∙ ap (λ (l : List Made). g.a.xs ++ l)
            (replies.made_alone both g.traffic w timed rest g.a g.calm g.are g.given.0 r d.answered.offer d.answered.sends d.answered.what d.to)

        same_list : (u.olds ++ d.x ∷ []) ++ d.then_q.xs ≡ chain
        same_list = ap (λ (l : List Made). (u.olds ++ d.x ∷ []) ++ l) d.xs_are
            ∙ (append_assoc u.olds (d.x ∷ []) d.others ∙ ap (λ (l : List Made). u.olds ++ l) (sym d.first))

        asked_soon : timed.at ≤ d.x.at + 2 * pace.delay
        asked_soon = asked_in_time both w timed rest g d.x (subst (λ (l : List Made). In d.x l) (sym d.first) (inl refl))

        is_answered : Stepped
        is_answered = record {
          then_u = record {
            going = goes_on both w timed rest g (inr d) (inl r);
            olds = u.olds ++ d.x ∷ [];
            match = subst (Match pace.delay (u.olds ++ d.x ∷ [])) (sym replies_then) (match_more pace.delay u.olds g.a.xs d.x y u.match d.answered.id asked_soon);
            first = u.first;
            follow = subst (λ (l : List Made). Follow u.first (ids_made l) (id_of after_d.ids asks m)) (sym same_list)
                (subst (Follow u.first (ids_made chain)) (sym d.same) u.follow);
            few = subst (Few both Open after_d) (sym same_list) (subst (Few both Open after_d) (append-nil chain)
                (passes_few both Open quick w timed turn sender after_d g.q.pair.sender_up.status d.then_q.pair.sender_up.status chain [] u.first
                (id_of sender.ids asks m) u.follow u.few (each_silent r) (inl refl)));
            past = λ z i. chain_past z (subst (λ (l : List Made). In z l) same_list i);
          };
          requests = λ z i. elim (subst (λ (l : List Made). In z l) d.first i) [
            | inl same ↦ inr (subst
                (λ (k : Made). Delivers m k.transfer w timed.row × (ans : IsAnswered m answers both.Tells k.transfer w timed.row) × In (answered ans.offer) r.then_a.xs) (sym same)
                (d.delivers, d.answered, subst (λ (l : List Made). In y l) (sym replies_then) (in_back y g.a.xs (y ∷ []) (inl refl))))
            | inr j ↦ inl (subst (λ (l : List Made). In z l) (sym d.xs_are) j)
          ];
          replies = λ z i. inl (subst (λ (l : List Made). In z l) (sym replies_then) (in_front z g.a.xs (y ∷ []) i), silent r z.transfer.offer.id);
          quiet = λ z i. silent r z.transfer.offer.id;
          adds = λ offer sends what to. absurd (of_m sends.event sends.in_step);
        }

      not_both : BringsA → ⊥
      not_both b = of_m (receipt_of w b.delivers.k b.delivers.ms) (ap (λ (r : Row). step_of w r) b.delivers.comes)

    pub stepped : Stepped
    stepped = elim (q_row both w timed rest g) [
      | inl p ↦ elim (a_row both w timed rest g) [
        | inl r ↦ both_pass p r
        | inr b ↦ comes p b
      ]
      | inr d ↦ elim (a_row both w timed rest g) [
        | inl r ↦ is_answered d r
        | inr b ↦ absurd (not_both d b)
      ]
    ]
