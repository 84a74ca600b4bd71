-- Each two times at which members stand for election in a calm are more than eight delays apart, also of one member.
use Rattle.std.proofs.Common.{◌≡◌, ◌≢◌, ℕ, ◌+◌, ◌*◌, ◌<◌, ◌≤◌, arith, List, [], ◌∷◌, ◌++◌, length, refl, sym, ◌∙◌, ap, subst, inl, inr, append_assoc, append-nil}
use Rattle.std.proofs.lemmas.Bool.Decides.{eqb_tells}
use Rattle.raft_model.specs.Lists.{In}
use Rattle.bus_rows.specs.declared.row.Row.{Row}
use Rattle.bus_rows.specs.declared.row.Row.TheVariants.{Tick}
use Rattle.alloc_spec.specs.AllocatorState.{AllocatorState}
use Rattle.bus_rows.specs.Timed.{Timed}
use Rattle.service_calm.specs.Calm.{Member as OfMember}
use Rattle.service_calm.proofs.CallsKept.{RunsWith}
use Rattle.service_calm.proofs.Pair.{same_server}
use Rattle.service_candidate.specs.Votes.{IsAsStanding, Stands}
use Rattle.service_candidate.proofs.OneStands.{IsOfSize, OneStands}
use Rattle.service_elections.proofs.CalmFronts.{clock_at, end_before, harm_row}
use Rattle.service_elections.proofs.InStepFronts.{decided, facts, now_rises, reading, runs_at, the_calm, there, there_more}
use Rattle.service_elections.proofs.InStepGiven.{Ground}
use Rattle.service_elections.proofs.InStepLists.{one_more}
use Rattle.bus_spec.specs.Cluster.{Cluster, after_row}
use Rattle.bus_spec.specs.Members.MemberStatus.{Up}

same_reader : (p n a b c d : ℕ) → Tick p a c ≡ Tick n b d → p ≡ n
same_reader p n a b c d e = cc e

-- one member at most stands in a row
pub one_stander : (n m term other : ℕ) (w : Cluster) (row : Row) → Stands n term w row → Stands m other w row → n ≡ m
one_stander n m term other w row s o = same_reader n m s.ms o.ms s.word o.word (sym s.reads ∙ o.reads)

module _ (g : Ground) where
  -- ---- one member

  module _ (first middle rest : List Timed) (one other : Timed) (cut : g.whole ≡ first ++ one ∷ (middle ++ other ∷ rest)) (n : ℕ) (i : In (OfMember n) g.group)
      (term : ℕ) (s : Stands n term (there g first) one.row) where
    abbrev upto : List Timed
    upto = first ++ one ∷ []

    abbrev low : ℕ
    low = one.at + g.clocks (OfMember n)

    cut_all : g.whole ≡ ((first ++ one ∷ []) ++ middle) ++ other ∷ rest
    cut_all = cut ∙ (one_more first (middle ++ other ∷ rest) one ∙ sym (append_assoc (first ++ one ∷ []) middle (other ∷ rest)))

    is_standing : IsAsStanding n term (there g first) one.row s
    is_standing = (facts g first (one ∷ (middle ++ other ∷ rest)) cut).asked n term one.row (g.calm.listed n i)
        (harm_row (the_calm g) first (middle ++ other ∷ rest) one cut) s

    up_then : ((there g (first ++ one ∷ [])).member n).status ≡ Up s.after
    up_then = ap (λ (u : Cluster). (u.member n).status) (there_more g first one) ∙ s.runs_then

    now_then : low ≤ s.after.now
    now_then =
        let e = is_standing.moment in
        let r = reading g first (middle ++ other ∷ rest) one cut n term s in
        omega (arith, e, r)

    -- its wait began when it stood, or later
    abbrev WaitsFrom : List Timed → Type 0
    WaitsFrom done = (t : AllocatorState) → ((there g ((first ++ one ∷ []) ++ done)).member n).status ≡ Up t → low ≤ t.times.since

    at_first : WaitsFrom []
    at_first t up =
        let same = same_server t s.after (sym up ∙ (ap (λ (l : List Timed). ((there g l).member n).status) (append-nil (first ++ one ∷ [])) ∙ up_then)) in
        let e = ap (λ (u : AllocatorState). u.times.since) same in
        let f = is_standing.waits in
        let h = now_then in
        omega (arith, e, f, h)

    one_on : (done more : List Timed) (x : Timed) → middle ≡ done ++ x ∷ more → WaitsFrom done → WaitsFrom (done ++ x ∷ [])
    one_on done more x split before u up = elim (eqb_tells u.times.since t.server.times.since) [
      | inl z ↦ let h = before t.server t.up.status in let e = z.1 in omega (arith, h, e)
      | inr z ↦ elim (decided g ((first ++ one ∷ []) ++ done) (more ++ other ∷ rest) x cut_here) [
        | inl stood ↦ elim (eqb_tells stood.n n) [
          | inl y ↦ stood_so stood y.1
          | inr y ↦ anew_so (λ its o. y.1 (one_stander stood.n n stood.term its (there g ((first ++ one ∷ []) ++ done)) x.row stood.stands o)) z.1
        ]
        | inr none ↦ anew_so (λ its o. none n its i o) z.1
      ]
    ]
      where
        cut_here : g.whole ≡ ((first ++ one ∷ []) ++ done) ++ x ∷ (more ++ other ∷ rest)
        cut_here = cut_all ∙ (ap (λ (l : List Timed). ((first ++ one ∷ []) ++ l) ++ other ∷ rest) split
            ∙ (ap (λ (l : List Timed). l ++ other ∷ rest) (sym (append_assoc (first ++ one ∷ []) done (x ∷ more)))
            ∙ append_assoc ((first ++ one ∷ []) ++ done) (x ∷ more) (other ∷ rest)))

        t : RunsWith (IsOfSize (length g.ids)) ((there g ((first ++ one ∷ []) ++ done)).member n)
        t = runs_at g ((first ++ one ∷ []) ++ done) (x ∷ (more ++ other ∷ rest)) cut_here n i

        up_after : ((after_row (there g ((first ++ one ∷ []) ++ done)) x.row).member n).status ≡ Up u
        up_after = ap (λ (v : Cluster). (v.member n).status) (sym (there_more g ((first ++ one ∷ []) ++ done) x))
            ∙ (ap (λ (l : List Timed). ((there g l).member n).status) (append_assoc (first ++ one ∷ []) done (x ∷ [])) ∙ up)

        -- its clock reads no earlier moment
        later : low ≤ u.now
        later =
            let h = now_rises g (first ++ one ∷ []) (done ++ x ∷ []) (more ++ other ∷ rest)
            (cut_here ∙ (one_more ((first ++ one ∷ []) ++ done) (more ++ other ∷ rest) x
            ∙ ap (λ (l : List Timed). l ++ (more ++ other ∷ rest)) (append_assoc (first ++ one ∷ []) done (x ∷ [])))) n i s.after u up_then up in
            let k = now_then in omega (arith, h, k)

        anew_so : ((its : ℕ) → Stands n its (there g ((first ++ one ∷ []) ++ done)) x.row → ⊥) → u.times.since ≢ t.server.times.since → low ≤ u.times.since
        anew_so stands_not differs =
            let e = ((facts g ((first ++ one ∷ []) ++ done) (x ∷ (more ++ other ∷ rest)) cut_here).begin n x.row (g.calm.listed n i)
            (harm_row (the_calm g) ((first ++ one ∷ []) ++ done) (more ++ other ∷ rest) x cut_here)).0
            (record { before = t.server; runs = t.up.status; after = u; runs_then = up_after; anew = differs; stands_not = stands_not }) in
            let l = later in omega (arith, e, l)

        stood_so : (stood : OneStands g.group (there g ((first ++ one ∷ []) ++ done)) x.row) → stood.n ≡ n → low ≤ u.times.since
        stood_so stood same =
            let is = (facts g ((first ++ one ∷ []) ++ done) (x ∷ (more ++ other ∷ rest)) cut_here).asked stood.n stood.term x.row (g.calm.listed stood.n stood.member)
            (harm_row (the_calm g) ((first ++ one ∷ []) ++ done) (more ++ other ∷ rest) x cut_here) stood.stands in
            let own = same_server u stood.stands.after
            (sym up_after ∙ (ap (λ (k : ℕ). ((after_row (there g ((first ++ one ∷ []) ++ done)) x.row).member k).status) (sym same) ∙ stood.stands.runs_then)) in
            let a = ap (λ (v : AllocatorState). v.times.since) own in
            let b = ap (λ (v : AllocatorState). v.now) own in
            let c = is.waits in
            let l = later in
            omega (arith, a, b, c, l)

    goes_on : (done more : List Timed) → middle ≡ done ++ more → WaitsFrom done → WaitsFrom middle
    goes_on done [] split holds = subst WaitsFrom (sym (split ∙ append-nil done)) holds
    goes_on done (x ∷ more) split holds = goes_on (done ++ x ∷ []) more (split ∙ sym (append_assoc done (x ∷ []) more)) (one_on done more x split holds)

    -- so it has waited when it stands again
    again : (later : ℕ) (o : Stands n later (there g ((first ++ one ∷ []) ++ middle)) other.row) → one.at + 8 * g.pace.delay < other.at
    again later o =
        let waits = in_words in
        let h = waits o.before o.runs in
        let long = ((facts g ((first ++ one ∷ []) ++ middle) (other ∷ rest) cut_all).begin n other.row (g.calm.listed n i)
        (harm_row (the_calm g) ((first ++ one ∷ []) ++ middle) rest other cut_all)).1 later o in
        let reads = reading g ((first ++ one ∷ []) ++ middle) rest other cut_all n later o in
        let clock = clock_so o.before o.runs in
        let soon = g.calm.soon in
        omega (arith, h, long, reads, clock, soon)
      where
        in_words : (t : AllocatorState) → ((there g ((first ++ one ∷ []) ++ middle)).member n).status ≡ Up t → low ≤ t.times.since
        in_words = goes_on [] middle refl at_first

        clock_so : (t : AllocatorState) → ((there g ((first ++ one ∷ []) ++ middle)).member n).status ≡ Up t → t.now ≤ other.at + g.clocks (OfMember n)
        clock_so t up =
            let a = clock_at (the_calm g) n i ((first ++ one ∷ []) ++ middle) (other ∷ rest) cut_all t up in
            let b = end_before (the_calm g) ((first ++ one ∷ []) ++ middle) rest other cut_all in
            omega (arith, a, b)

  -- ---- any two

  pub apart : (first middle rest : List Timed) (one other : Timed) (n m term later : ℕ) → g.whole ≡ ((first ++ one ∷ []) ++ middle) ++ other ∷ rest
      → In (OfMember n) g.group → In (OfMember m) g.group → Stands n term (there g first) one.row
      → Stands m later (there g ((first ++ one ∷ []) ++ middle)) other.row → one.at + 8 * g.pace.delay < other.at
  apart first middle rest one other n m term later cut i j s o = elim (eqb_tells n m) [
    | inl z ↦ again first middle rest one other cut_so n i term s later
        (subst (λ (k : ℕ). Stands k later (there g ((first ++ one ∷ []) ++ middle)) other.row) (sym z.1) o)
    | inr z ↦ g.calm.apart first middle rest one other n m term later cut_so i j z.1 s
        (subst (λ (l : List Timed). Stands m later (there g l) other.row) (sym (one_more first middle one)) o)
  ]
    where
      cut_so : g.whole ≡ first ++ one ∷ (middle ++ other ∷ rest)
      cut_so = cut ∙ (append_assoc (first ++ one ∷ []) middle (other ∷ rest) ∙ append_assoc first (one ∷ []) (middle ++ other ∷ rest))
