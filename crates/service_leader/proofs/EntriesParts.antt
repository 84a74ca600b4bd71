-- Calm rows in parts: which of two parts a row stands in, how rows are counted, and when a member next reads its clock.
use Rattle.std.proofs.Common.{◌≡◌, ◌≢◌, ℕ, ◌+◌, ◌<◌, ◌≤◌, Bool, true, false, List, [], ◌∷◌, ◌++◌, drop, length, refl, sym, ap, subst, inl, inr, arith, Some}
use Rattle.std.specs.Prelude.{◌⊎◌, ◌-◌, if◌then◌else◌, slice_index_or}
use Rattle.std.proofs.lemmas.Bool.Decides.{eqb_tells}
use Rattle.raft_model.specs.Lists.{In}
use Rattle.raft_model.specs.Messages.{reach}
use Rattle.bus_rows.specs.declared.row.Row.{Row}
use Rattle.bus_rows.specs.declared.row.Row.TheVariants.{AEnd, AOpen, ARx, ASend, ATick, Crash, Ext, Fault, Open, Rx, Send, Tick}
use Rattle.alloc_spec.specs.AllocatorState.{AllocatorState, members_of, start_of}
use Rattle.alloc_spec.specs.Step.{Event}
use Rattle.alloc_spec_laws.proofs.Choices.{lt_tells}
use Rattle.alloc_spec_laws.proofs.Peers.{IsList, members_list}
use Rattle.bus_rows.specs.Timed.{Timed, rows_in}
use Rattle.service_alone.specs.Calm.{Pace, end_of}
use Rattle.service_calm.specs.Calm.{AreCalm, Member as OfMember, Party, Traffic, reads, traffic_after}
use Rattle.service_leader.specs.CallsAsk.{next_request}
use Rattle.bus_spec.specs.Cluster.{Cluster, after_row, after_rows, step_of, tick_of}

-- ---- lists and rows

-- a row in the first of two lists, or in the second
pub record IsFirst {A : Type 0} (xs d c e : List A) (r : A) : Type 0 where
  pub tail : List A
  pub split : xs ≡ c ++ r ∷ tail
  pub rest : e ≡ tail ++ d

pub record IsSecond {A : Type 0} (xs d c e : List A) (r : A) : Type 0 where
  pub tail : List A
  pub split : c ≡ xs ++ tail
  pub rest : d ≡ tail ++ r ∷ e

pub in_either : {A : Type 0} (xs d c e : List A) (r : A) → xs ++ d ≡ c ++ r ∷ e → IsFirst xs d c e r ⊎ IsSecond xs d c e r
in_either [] d c e r same = inr (record { tail = c; split = refl; rest = same })
in_either (x ∷ xs) d [] e r same = inl (record {
  tail = xs;
  split = λ i. slice_index_or (same i) 0 r ∷ xs;
  rest = sym (ap (λ (l : List _). drop 1 l) same);
})
in_either (x ∷ xs) d (y ∷ c) e r same =
    let first : x ≡ y = ap (λ (l : List _). slice_index_or l 0 x) same in
    elim (in_either xs d c e r (ap (λ (l : List _). drop 1 l) same)) [
      | inl a ↦ inl (record { tail = a.tail; split = λ i. first i ∷ a.split i; rest = a.rest })
      | inr b ↦ inr (record { tail = b.tail; split = λ i. sym first i ∷ b.split i; rest = b.rest })
    ]

-- two lists of one length, before others, are the same
pub same_front : {A : Type 0} (xs ys a b : List A) → length xs ≡ length ys → xs ++ a ≡ ys ++ b → (xs ≡ ys) × (a ≡ b)
same_front [] [] a b size same = (refl, same)
same_front [] (y ∷ ys) a b size same = absurd (omega (arith, size))
same_front (x ∷ xs) [] a b size same = absurd (omega (arith, size))
same_front (x ∷ xs) (y ∷ ys) a b size same =
    let first : x ≡ y = ap (λ (l : List _). slice_index_or l 0 x) same in
    let more = same_front xs ys a b (omega (arith, size)) (ap (λ (l : List _). drop 1 l) same) in
    ((λ i. first i ∷ more.0 i), more.1)

-- rows are counted
pub rows_counted : (w : Cluster) (front : List Timed) → (after_rows w (rows_in front)).rows ≡ w.rows + length front
rows_counted w [] = omega arith
rows_counted w (timed ∷ front) = let more = rows_counted (after_row w timed.row) front in let one = row_counted w timed.row in omega (arith, more, one)
  where
    row_counted : (v : Cluster) (row : Row) → (after_row v row).rows ≡ v.rows + 1
    row_counted v (Tick n ms word) = refl
    row_counted v (Rx n k ms) = refl
    row_counted v (Send n) = refl
    row_counted v (ATick a ms word) = refl
    row_counted v (ARx a k ms word) = refl
    row_counted v (ASend a) = refl
    row_counted v (Open n told ms word) = refl
    row_counted v (Ext frame) = refl
    row_counted v (Crash n calls pattern) = refl
    row_counted v (Fault n call) = refl
    row_counted v (AOpen a uid pref ms word) = refl
    row_counted v (AEnd a) = refl

-- ---- steps

-- who is listed, and is not the server itself, stands behind it
pub listed_behind : (t : AllocatorState) (m : ℕ) → In m (members_of t) → m ≢ t.me → In m (drop 1 (members_of t))
listed_behind t m i other =
    let list : IsList t.size t.me (members_of t) = members_list (start_of t) t.heard in
    subst (λ (l : List ℕ). In m (drop 1 l)) (sym list.is) (behind list.peers (subst (λ (l : List ℕ). In m l) list.is i))
  where
    behind : (xs : List ℕ) → In m (t.me ∷ xs) → In m xs
    behind xs (inl e) = absurd (other e)
    behind xs (inr j) = j

-- a row in which a member reads its clock is a step of it
pub reads_step : (v : Cluster) (row : Row) (n : ℕ) → reads row (OfMember n) ≡ true → (event : Event) × (step_of v row ≡ Some (n, event))
reads_step v (Tick k ms word) n e = elim (eqb_tells k n) [
  | inl z ↦ (tick_of ms word, ap (λ (j : ℕ). Some (j, tick_of ms word)) z.1)
  | inr z ↦ absurd (cc (sym e, z.0))
]
reads_step v (Rx k f ms) n e = absurd (cc e)
reads_step v (Send k) n e = absurd (cc e)
reads_step v (ATick a ms word) n e = absurd (cc e)
reads_step v (ARx a k ms word) n e = absurd (cc e)
reads_step v (ASend a) n e = absurd (cc e)
reads_step v (Open k told ms word) n e = absurd (cc e)
reads_step v (Ext frame) n e = absurd (cc e)
reads_step v (Crash k calls pattern) n e = absurd (cc e)
reads_step v (Fault k call) n e = absurd (cc e)
reads_step v (AOpen a uid pref ms word) n e = absurd (cc e)
reads_step v (AEnd a) n e = absurd (cc e)

-- a call that is owed and carries an entry reaches the peer's next place
pub reach_owed : (number m : ℕ) (t : AllocatorState) → 1 ≤ t.raft_server.memory.next m → t.raft_server.memory.next m ≤ length t.raft_server.store.log
    → reach (next_request m number t) ≡ t.raft_server.memory.next m
reach_owed number m t least inside = elim (lt_tells (t.raft_server.memory.next m - 1) (length t.raft_server.store.log)) [
  | inl z ↦ rw (z.0) (omega (arith, least))
  | inr z ↦ let high = z.1 in absurd (omega (arith, high, least, inside))
]

module _ (group : List Party) (clocks : Party → ℕ) (pace : Pace) (n : ℕ) (member : In (OfMember n) group) where
  -- the member reads its clock in one of these rows, within a period
  pub record Ticks (moment : ℕ) (rest : List Timed) : Type 0 where
    pub front : List Timed
    pub row : Timed
    pub more : List Timed
    pub split : rest ≡ front ++ row ∷ more
    pub soon : row.at ≤ moment + pace.period
    pub ticks : reads row.row (OfMember n) ≡ true

  pub ticks_by : (rest : List Timed) (moment : ℕ) (traffic : Traffic) (v : Cluster) → AreCalm group clocks pace traffic v rest
      → traffic.ticked (OfMember n) ≤ moment
      → traffic.at ≤ moment + pace.period → moment + pace.period < end_of traffic.at rest → Ticks moment rest
  ticks_by [] moment traffic v calm low soon long = absurd (omega (arith, soon, long))
  ticks_by (x ∷ rest) moment traffic v calm low soon long =
      let in_time = calm.0.ticks (OfMember n) member in
      elim (tells (reads x.row (OfMember n))) [
        | inl e ↦ record { front = []; row = x; more = rest; split = refl; soon = omega (arith, in_time, low); ticks = e }
        | inr e ↦ behind (ticks_by rest moment (traffic_after traffic v x) (after_row v x.row) calm.2
            (subst (λ (b : Bool). (if b then x.at else traffic.ticked (OfMember n)) ≤ moment) (sym e) low) (omega (arith, in_time, low)) long)
      ]
    where
      tells : (b : Bool) → (b ≡ true) ⊎ (b ≡ false)
      tells true = inl refl
      tells false = inr refl

      behind : Ticks moment rest → Ticks moment (x ∷ rest)
      behind more = record {
        front = x ∷ more.front;
        row = more.row;
        more = more.more;
        split = ap (λ (l : List Timed). x ∷ l) more.split;
        soon = more.soon;
        ticks = more.ticks;
      }
