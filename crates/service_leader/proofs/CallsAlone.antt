-- A leader's calls to a member, in a calm: one call at most is under way, or its answer, and the caller waits for it.
use Rattle.std.proofs.Common.{◌≡◌, ℕ, ◌+◌, ◌*◌, ◌≤◌, arith, List, [], ◌∷◌, ◌++◌, append-nil, refl, sym, ◌∙◌, ap, subst, inl, inr}
use Rattle.std.specs.Prelude.{◌⊎◌}
use Rattle.raft_core.specs.Times.{Sending}
use Rattle.raft_model.specs.Lists.{In}
use Rattle.raft_model.specs.Messages.{Request}
use Rattle.bus_rows.specs.declared.row.Row.{Row}
use Rattle.alloc_spec.specs.AllocatorState.{AllocatorState}
use Rattle.alloc_spec.specs.Transfers.{Offer}
use Rattle.service_leader.specs.CallsComeBack.{LeadsOn}
use Rattle.service_leader.proofs.CallsWait.{Called, IsCalling, LeadsAcross, asked, called_on, none_called, opened, sending}
use Rattle.service_leader.proofs.Exchange.{Exchange}
use Rattle.service_leader.proofs.ExchangeAnswers as replies
use Rattle.service_leader.proofs.ExchangeAnswers.{behind_first, no_first}
use Rattle.service_leader.proofs.ExchangeAsks as questions
use Rattle.service_leader.proofs.ExchangeBack.{still_none}
use Rattle.service_leader.proofs.ExchangeGoes.{BringsA, BringsQ, Going, PassesA, PassesQ, a_row, a_then, answered_in_time, asked_in_time, goes_on, q_row}
use Rattle.service_calm.specs.Comes.{Sends, sent_by}
use Rattle.service_calm.proofs.Pair.{same_stepper}
use Rattle.service_calm.proofs.Pending.{Made}
use Rattle.bus_rows.specs.Timed.{Timed, rows_in}
use Rattle.service_alone.specs.Calm.{Pace}
use Rattle.bus_spec.specs.Cluster.{Cluster, after_row, after_rows, receipt_of, step_of}
use Rattle.bus_spec.specs.Members.MemberStatus.{Up}

-- where a member leads once it does, it is so behind a row too
pub leads_behind : (n term : ℕ) (w : Cluster) (one : Timed) (rest : List Timed) → LeadsOn n term w (one ∷ rest) → LeadsOn n term (after_row w one.row) rest
leads_behind n term w one [] leads = tt
leads_behind n term w one (next ∷ rest) (inl s) = s.1
leads_behind n term w one (next ∷ rest) (inr all) = inr all.1

module _ (both : Exchange) (its : IsCalling both) (term : ℕ) where
  abbrev pace : Pace
  pace = both.pace

  abbrev n : ℕ
  n = both.n

  abbrev m : ℕ
  m = both.m

  -- one row and the next, where it leads once it does
  leads_here : (w : Cluster) (one next : Timed) (rest : List Timed) → LeadsOn n term w (one ∷ next ∷ rest) → LeadsAcross both its term w one.row
  leads_here w one next rest (inr all) t u up up_then leads = all.1.0 u up_then
  leads_here w one next rest (inl s) t u up up_then (inl before) = absurd (s.0 t up before)
  leads_here w one next rest (inl s) t u up up_then (inr behind) = elim s.1 [ inl none ↦ absurd (none.0 u up_then behind) | inr all ↦ all.0 u up_then ]

  pub leads_across : (w : Cluster) (one : Timed) (front rest : List Timed) (timed : Timed) → LeadsOn n term w (one ∷ (front ++ timed ∷ rest)) → LeadsAcross both its term w one.row
  leads_across w one [] rest timed leads = leads_here w one timed rest leads
  leads_across w one (first ∷ front) rest timed leads = leads_here w one first (front ++ timed ∷ rest) leads

  -- ---- what is under way

  abbrev pub IsEmpty : (w : Cluster) (rows : List Timed) → Going both w rows → Type 0
  IsEmpty w rows g = (g.q.xs ≡ []) × (g.a.xs ≡ [])

  -- A call waits for its answer, and it is under way, or the answer is, and nothing else.
  pub record IsOut (w : Cluster) (rows : List Timed) (g : Going both w rows) : Type 0 where
    pub made_at : ℕ
    pub request : Request
    pub kept : Sending
    pub called : Called both its term made_at request kept g.q.pair.sender
    pub past : request.step ≤ w.rows
    pub way : ((z : Made) × (g.q.xs ≡ z ∷ []) × (g.a.xs ≡ []) × (z.at ≡ made_at))
        ⊎ ((y : Made) × (g.q.xs ≡ []) × (g.a.xs ≡ y ∷ []) × (y.at ≤ made_at + 2 * pace.delay))

  abbrev pub AtMostOne : (w : Cluster) (rows : List Timed) → Going both w rows → Type 0
  AtMostOne w rows g = IsEmpty w rows g ⊎ IsOut w rows g

  -- ---- a row

  module _ (w : Cluster) (timed : Timed) (rest : List Timed) (g : Going both w (timed ∷ rest)) (leads : LeadsAcross both its term w timed.row) where
    abbrev then_w : Cluster
    then_w = after_row w timed.row

    -- behind the row it is so too, and a call that is sent in the row is the one
    abbrev pub Behind : Going both then_w rest → Type 0
    Behind h = AtMostOne then_w rest h × ((offer : Offer) → Sends n w timed.row offer → offer.what ≡ both.asks → offer.to ≡ m
        → (h.q.xs ≡ record { at = timed.at; transfer = sent_by n w offer } ∷ []) × (h.a.xs ≡ []))

    abbrev ThenIf : PassesQ both w timed rest g ⊎ BringsQ both w timed rest g → PassesA both w timed rest g ⊎ BringsA both w timed rest g → Type 0
    ThenIf of_q of_a = Behind (goes_on both w timed rest g of_q of_a)

    -- nothing is under way but what is made in the row
    emptied : (p : PassesQ both w timed rest g) (of_a : PassesA both w timed rest g ⊎ BringsA both w timed rest g) → g.q.xs ≡ []
        → (a_then both w timed rest g of_a).xs ≡ [] → ThenIf (inl p) of_a
    emptied p of_a q_none a_none = (
      elim p.news [
        | inl none ↦ inl (q_is ∙ none.0, a_none)
        | inr o ↦ inr (record {
          made_at = timed.at;
          request = asked both its term w timed rest g o.0 o.2 o.3 o.6;
          kept = sending both its term w timed rest g o.0 o.2 o.3 o.6;
          called = opened both its term w timed rest g o.0 o.2 o.3 o.6 leads p.then_q.pair.sender p.then_q.pair.sender_up.status;
          past = omega arith;
          way = inl (record { at = timed.at; transfer = sent_by n w o.0 }, q_is ∙ o.1, a_none, refl);
        })
      ],
      λ offer sends what to. (q_is ∙ questions.made_alone both g.traffic w g.next g.q timed rest g.calm g.are g.given.0 p offer sends what to, a_none),
    )
      where
        q_is : p.then_q.xs ≡ p.more
        q_is = p.xs_are ∙ ap (λ (l : List Made). l ++ p.more) q_none

    module _ (out : IsOut w (timed ∷ rest) g) where
      late : timed.at ≤ out.made_at + 4 * pace.delay
      late = elim out.way [
        | inl z ↦
            let l = asked_in_time both w timed rest g z.0 (subst (λ (k : List Made). In z.0 k) (sym z.1) (inl refl)) in
            let e = z.3 in omega (arith, l, e)
        | inr y ↦
            let l = answered_in_time both w timed rest g y.0 (subst (λ (k : List Made). In y.0 k) (sym y.2) (inl refl)) in
            let e = y.3 in omega (arith, l, e)
      ]

      -- its answer comes
      taken : (p : PassesQ both w timed rest g) (b : BringsA both w timed rest g) → ThenIf (inl p) (inr b)
      taken p b = elim out.way [
        | inl z ↦ absurd (no_first b.x b.others g.a.xs z.2 b.first)
        | inr y ↦ emptied p (inr b) y.1 (b.xs_are ∙ behind_first b.x y.0 b.others [] (sym b.first ∙ y.2))
      ]

      -- no answer comes
      module _ (r : PassesA both w timed rest g) where
        none : (offer : Offer) → Sends n w timed.row offer → offer.what ≡ both.asks → offer.to ≡ m → ⊥
        none = none_called both its term w timed rest g out.made_at out.request out.kept out.called late r.silent out.past

        waits : (u : AllocatorState) → (then_w.member n).status ≡ Up u → Called both its term out.made_at out.request out.kept u
        waits u up_then = called_on both its term w timed rest g out.made_at out.request out.kept out.called late r.silent u up_then
            (leads g.q.pair.sender u g.q.pair.sender_up.status up_then (inl out.called.pends.0)).0

        stays : (p : PassesQ both w timed rest g) → ThenIf (inl p) (inl r)
        stays p = (
          inr (record {
            made_at = out.made_at;
            request = out.request;
            kept = out.kept;
            called = waits p.then_q.pair.sender p.then_q.pair.sender_up.status;
            past = let e = out.past in omega (arith, e);
            way = elim out.way [ inl z ↦ inl (z.0, q_is ∙ z.1, a_is ∙ z.2, z.3) | inr y ↦ inr (y.0, q_is ∙ y.1, a_is ∙ y.2, y.3) ];
          }),
          λ offer sends what to. absurd (none offer sends what to),
        )
          where
            no_calls : p.more ≡ []
            no_calls = elim p.news [ inl e ↦ e.0 | inr o ↦ absurd (none o.0 o.2 o.3 o.6) ]

            no_answers : r.more ≡ []
            no_answers = elim r.few_more [ inl e ↦ e | inr o ↦ absurd (p.nobody o.0 o.2 o.3 o.4) ]

            q_is : p.then_q.xs ≡ g.q.xs
            q_is = p.xs_are ∙ (ap (λ (l : List Made). g.q.xs ++ l) no_calls ∙ append-nil g.q.xs)

            a_is : r.then_a.xs ≡ g.a.xs
            a_is = r.xs_are ∙ (ap (λ (l : List Made). g.a.xs ++ l) no_answers ∙ append-nil g.a.xs)

        -- the call is answered
        answered : (d : BringsQ both w timed rest g) → ThenIf (inr d) (inl r)
        answered d = elim out.way [
          | inl z ↦ (
            inr (record {
              made_at = out.made_at;
              request = out.request;
              kept = out.kept;
              called = waits d.then_q.pair.sender d.then_q.pair.sender_up.status;
              past = let e = out.past in omega (arith, e);
              way = inr (
                record { at = timed.at; transfer = sent_by m w d.answered.offer },
                d.xs_are ∙ behind_first d.x z.0 d.others [] (sym d.first ∙ z.1),
                r.xs_are ∙ (ap (λ (l : List Made). l ++ r.more) z.2
                    ∙ replies.made_alone both g.traffic w timed rest g.a g.calm g.are g.given.0 r d.answered.offer d.answered.sends d.answered.what d.to),
                let l = asked_in_time both w timed rest g z.0 (subst (λ (k : List Made). In z.0 k) (sym z.1) (inl refl)) in
                    let e = z.3 in omega (arith, l, e),
              );
            }),
            λ offer sends what to. absurd (none offer sends what to),
          )
          | inr y ↦ absurd (no_first d.x d.others g.q.xs y.1 d.first)
        ]

    by : (of_q : PassesQ both w timed rest g ⊎ BringsQ both w timed rest g) (of_a : PassesA both w timed rest g ⊎ BringsA both w timed rest g)
        → AtMostOne w (timed ∷ rest) g → ThenIf of_q of_a
    by (inl p) (inl r) (inl none) = emptied p (inl r) none.0 (still_none both w timed rest g p (inl r) none.1).0
    by (inl p) (inr b) (inl none) = absurd (no_first b.x b.others g.a.xs none.1 b.first)
    by (inr d) of_a (inl none) = absurd (no_first d.x d.others g.q.xs none.0 d.first)
    by (inl p) (inl r) (inr out) = stays out r p
    by (inl p) (inr b) (inr out) = taken out p b
    by (inr d) (inl r) (inr out) = answered out r d
    by (inr d) (inr b) (inr out) = absurd (both.apart (same_stepper n m (receipt_of w b.delivers.k b.delivers.ms) (receipt_of w d.delivers.k d.delivers.ms)
        (sym (ap (λ (r : Row). step_of w r) b.delivers.comes) ∙ ap (λ (r : Row). step_of w r) d.delivers.comes)))

    pub behind : AtMostOne w (timed ∷ rest) g → Behind (goes_on both w timed rest g (q_row both w timed rest g) (a_row both w timed rest g))
    behind = by (q_row both w timed rest g) (a_row both w timed rest g)

  -- so behind these rows
  pub reach : (front rest : List Timed) (timed : Timed) (w : Cluster) (g : Going both w (front ++ timed ∷ rest)) → LeadsOn n term w (front ++ timed ∷ rest)
      → AtMostOne w (front ++ timed ∷ rest) g → LeadsOn n term (after_rows w (rows_in front)) (timed ∷ rest)
      × ((there : Going both (after_rows w (rows_in front)) (timed ∷ rest)) × AtMostOne (after_rows w (rows_in front)) (timed ∷ rest) there)
  reach [] rest timed w g leads one = (leads, (g, one))
  reach (first ∷ front) rest timed w g leads one = reach front rest timed (after_row w first.row)
      (goes_on both w first (front ++ timed ∷ rest) g (q_row both w first (front ++ timed ∷ rest) g) (a_row both w first (front ++ timed ∷ rest) g))
      (leads_behind n term w first (front ++ timed ∷ rest) leads)
      (behind w first (front ++ timed ∷ rest) g (leads_across w first front rest timed leads) one).0
