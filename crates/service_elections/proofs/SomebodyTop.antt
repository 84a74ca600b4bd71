-- The highest term of a group: some member has it; and one that leads in it is found, or none leads in it.
use Rattle.std.proofs.Common.{◌≡◌, ℕ, ◌≤◌, arith, List, [], ◌∷◌, refl, sym, ap, subst, inl, inr}
use Rattle.std.specs.Prelude.{◌⊎◌}
use Rattle.std.proofs.lemmas.Bool.Decides.{leb_tells}
use Rattle.raft_model.specs.Lists.{In}
use Rattle.alloc_spec.specs.AllocatorState.{AllocatorState}
use Rattle.service_calm.specs.Calm.{Device as OfDevice, IsRunning, Member as OfMember, Party}
use Rattle.service_leader.specs.LeadsOn.{LeadsIn}
use Rattle.service_candidate.specs.Terms.{AreWithin}
use Rattle.service_elections.proofs.NobodyStays.{leads_in_or_not}
use Rattle.bus_spec.specs.Cluster.{Cluster}
use Rattle.bus_spec.specs.Members.{MemberStatus}
use Rattle.bus_spec.specs.Members.MemberStatus.{Down, Failed, Up}

member_is : (a b : ℕ) → OfMember a ≡ OfMember b → a ≡ b
member_is a b e = cc e

-- the term that is stored, if the member runs
unfoldable term_of : MemberStatus → ℕ
term_of Down = 0
term_of (Up t) = t.raft_server.store.term
term_of (Failed failure) = 0

-- the greatest of what some parties have, and one more
record IsTop (has : ℕ → ℕ) (xs : List Party) (first c : ℕ) : Type 0 where
  pub member : (c ≡ first) ⊎ In (OfMember c) xs
  pub own : has first ≤ has c
  pub others : (m : ℕ) → In (OfMember m) xs → has m ≤ has c

top_of : (has : ℕ → ℕ) (xs : List Party) (first : ℕ) → (c : ℕ) × IsTop has xs first c
top_of has [] first = (first, record { member = inl refl; own = omega arith; others = λ m i. absurd i })
top_of has (OfDevice a ∷ xs) first = let more = top_of has xs first in (
  more.0,
  record {
    member = elim more.1.member [ inl e ↦ inl e | inr i ↦ inr (inr i) ];
    own = more.1.own;
    others = λ m i. elim i [ inl e ↦ absurd (cc (e)) | inr j ↦ more.1.others m j ];
  },
)
top_of has (OfMember k ∷ xs) first = elim (leb_tells (has k) (has first)) [
  | inl z ↦ let more = top_of has xs first in (
    more.0,
    record {
      member = elim more.1.member [ inl e ↦ inl e | inr i ↦ inr (inr i) ];
      own = more.1.own;
      others = λ m i. elim i [
        | inl e ↦ let same = ap has (member_is m k e) in let own = more.1.own in let low = z.1 in omega (arith, same, own, low)
        | inr j ↦ more.1.others m j
      ];
    },
  )
  | inr z ↦ let more = top_of has xs k in (
    more.0,
    record {
      member = elim more.1.member [ inl e ↦ inr (inl (ap OfMember e)) | inr i ↦ inr (inr i) ];
      own = let own = more.1.own in let low = z.1 in omega (arith, own, low);
      others = λ m i. elim i [
        | inl e ↦ let same = ap has (member_is m k e) in let own = more.1.own in omega (arith, same, own)
        | inr j ↦ more.1.others m j
      ];
    },
  )
]

-- a member of the group has a term that no other one is above
pub record HasTop (group : List Party) (w : Cluster) : Type 0 where
  pub c : ℕ
  pub member : In (OfMember c) group
  pub server : AllocatorState
  pub runs : (w.member c).status ≡ Up server
  pub within : AreWithin group server.raft_server.store.term w

pub highest : (group : List Party) (w : Cluster) (first : ℕ) → In (OfMember first) group → ((p : ℕ) → In (OfMember p) group → IsRunning p w) → HasTop group w
unfolding term_of
highest group w first i running =
    let top = top_of (λ m. term_of (w.member m).status) group first in
    let j : In (OfMember top.0) group = elim top.1.member [ inl e ↦ subst (λ (k : ℕ). In (OfMember k) group) (sym e) i | inr k ↦ k ] in
    let is = running top.0 j in record {
      c = top.0;
      member = j;
      server = is.server;
      runs = is.runs;
      within = λ m k t up. subst (λ (status : MemberStatus). t.raft_server.store.term ≤ term_of status) is.runs
          (subst (λ (status : MemberStatus). term_of status ≤ term_of (w.member top.0).status) up (top.1.others m k));
    }

-- a member of the group leads in this term, or none does
pub one_leads_or_none : (term : ℕ) (w : Cluster) (group : List Party)
    → ((n : ℕ) × In (OfMember n) group × LeadsIn n term w) ⊎ ((n : ℕ) → In (OfMember n) group → LeadsIn n term w → ⊥)
one_leads_or_none term w [] = inr (λ n i. absurd i)
one_leads_or_none term w (OfDevice a ∷ group) = elim (one_leads_or_none term w group) [
  | inl one ↦ inl (one.0, inr one.1, one.2)
  | inr none ↦ inr (λ n i leads. elim i [ inl e ↦ absurd (cc (e)) | inr j ↦ none n j leads ])
]
one_leads_or_none term w (OfMember k ∷ group) = elim (leads_in_or_not k term w) [
  | inl leads ↦ inl (k, inl refl, leads)
  | inr not_so ↦ elim (one_leads_or_none term w group) [
    | inl one ↦ inl (one.0, inr one.1, one.2)
    | inr none ↦ inr (λ n i leads. elim i [
      | inl e ↦ not_so (subst (λ (j : ℕ). LeadsIn j term w) (member_is n k e) leads)
      | inr j ↦ none n j leads
    ])
  ]
]
