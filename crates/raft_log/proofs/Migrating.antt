-- The puts of origins, entry by entry.
use Rattle.std.proofs.Common.{◌≡◌, ◌≢◌, inl, inr, ℕ, zero, suc, ◌+◌, ◌<◌, ◌≤◌, Bool, true, List, [], ◌∷◌, ◌++◌, length, take, drop, get_or, append_assoc, refl, sym, ap, subst, ◌∙◌, arith}
use Rattle.std.specs.Prelude.{Option, None, Some, is_some}
use Rattle.std.proofs.lemmas.Bool.Decides.{eqb_tells}
use Rattle.std.proofs.lemmas.List.{append-nil, get_or-set_other, get_or-set_same, length-take-le, take_all, take_more}
use Rattle.can_frame.specs.declared.entry.Entry.{Entry}
use Rattle.can_frame.specs.Log.{blank}
use Rattle.disk_model.specs.declared.disk.Disk.{Ghosts}
use Rattle.raft_log.specs.Allowed.{nexts_after}
use Rattle.raft_log.specs.Calls.{FaultIsSticky, WritesInOrder}
use Rattle.raft_log.specs.declared.durable.Durable.{Durable}
use Rattle.raft_log.specs.DurableViews.{durable_state}
use Rattle.raft_log.specs.Making.{put_at}
use Rattle.raft_log.specs.Stored.{Put, Stored, after_puts, opening_puts, origin_put, origin_puts}
use Rattle.raft_log.specs.Stored.Put.{PutVersion}
use Rattle.raft_log.proofs.AllowedPuts.{still_allowed}
use Rattle.raft_log.proofs.InTurn.{puts_after}

-- one more entry behind others
puts_longer : (n : ℕ) (log : List Entry) (origins : List (Option ℕ)) (entry : Entry) (origin : Option ℕ) → length origins ≡ length log
    → origin_puts n (log ++ entry ∷ []) (origins ++ origin ∷ []) ≡ origin_puts n log origins ++ origin_put (n + length log) entry origin
puts_longer n [] [] entry origin even = let here : n + 0 ≡ n = omega arith in rw here (append-nil (origin_put n entry origin))
puts_longer n [] (o ∷ origins) entry origin even = absurd (omega (arith, even))
puts_longer n (e ∷ log) [] entry origin even = absurd (omega (arith, even))
puts_longer n (e ∷ log) (o ∷ origins) entry origin even =
    let on : n + length (e ∷ log) ≡ n + 1 + length log = omega arith in
    rw (puts_longer (n + 1) log origins entry origin (omega (arith, even)), on) (sym (append_assoc (origin_put n e o) (origin_puts (n + 1) log origins) (origin_put (n + 1 + length log) entry origin)))

no_puts : (n : ℕ) (log : List Entry) → origin_puts n log [] ≡ []
no_puts n [] = refl
no_puts n (e ∷ log) = refl

-- those of the first entries, and those of the others
pub puts_parted : (k n : ℕ) (log : List Entry) (origins : List (Option ℕ)) → origin_puts n log origins ≡ origin_puts n (take k log) (take k origins) ++ origin_puts (n + k) (drop k log) (drop k origins)
puts_parted zero n log origins = let here : n + 0 ≡ n = omega arith in ap (λ (m : ℕ). origin_puts m log origins) (sym here)
puts_parted (suc k) n [] origins = refl
puts_parted (suc k) n (e ∷ log) [] = sym (no_puts (n + suc k) (drop k log))
puts_parted (suc k) n (e ∷ log) (o ∷ origins) =
    let on : n + 1 + k ≡ n + suc k = omega arith in
    ap (λ (puts : List Put). origin_put n e o ++ puts) (puts_parted k (n + 1) log origins ∙ ap (λ (m : ℕ). origin_puts (n + 1) (take k log) (take k origins) ++ origin_puts m (drop k log) (drop k origins)) on)
    ∙ sym (append_assoc (origin_put n e o) (origin_puts (n + 1) (take k log) (take k origins)) (origin_puts (n + suc k) (drop k log) (drop k origins)))

-- those of the entries before a place
abbrev pub puts_before : ℕ → Stored → List Put
puts_before place state = origin_puts 0 (take place state.log) (take place state.origins)

pub puts_before_next : (place : ℕ) (state : Stored) → length state.origins ≡ length state.log → place < length state.log → puts_before (place + 1) state ≡ puts_before place state ++ put_at place state
puts_before_next place state even within =
    let long : length (take place state.log) ≡ place = length-take-le place state.log (omega (arith, within)) in
    let long_too : length (take place state.origins) ≡ place = length-take-le place state.origins (omega (arith, within, even)) in
    let at : 0 + length (take place state.log) ≡ place = omega (arith, long) in
    rw (take_more state.log place (blank 0) within, take_more state.origins place None (omega (arith, within, even)))
    (puts_longer 0 (take place state.log) (take place state.origins) (get_or state.log place (blank 0)) (get_or state.origins place None) (long_too ∙ sym long)
    ∙ ap (λ (n : ℕ). puts_before place state ++ origin_put n (get_or state.log place (blank 0)) (get_or state.origins place None)) at)

-- the state after the put at a place
pub same_log : (place : ℕ) (entry : Entry) (origin : Option ℕ) (state : Stored) → (after_puts (origin_put place entry origin) state).log ≡ state.log
same_log place entry None state = refl
same_log place entry (Some origin) state = refl

pub same_origin : (place : ℕ) (entry : Entry) (origin : Option ℕ) (state : Stored) (i : ℕ) → i ≢ place → get_or (after_puts (origin_put place entry origin) state).origins i None ≡ get_or state.origins i None
same_origin place entry None state i apart = get_or-set_other state.origins place i (Some 0) None apart
same_origin place entry (Some origin) state i apart = refl

pub has_origin : (place : ℕ) (entry : Entry) (origin : Option ℕ) (state : Stored) → get_or state.origins place None ≡ origin → place < length state.origins → get_or (after_puts (origin_put place entry origin) state).origins place None ≢ None
has_origin place entry None state is within none = let some = get_or-set_same state.origins place (Some 0) None within in absurd (cc (none, some))
has_origin place entry (Some origin) state is within none = absurd (cc (none, is))

-- an entry that has its origin wants no put
pub none_at : (place : ℕ) (log : List Entry) (origins origins' : List (Option ℕ)) → origins' ≡ origins → is_some (get_or origins' place None) ≡ true → origin_put place (get_or log place (blank 0)) (get_or origins place None) ≡ []
none_at place log origins origins' same some =
    by (get_or origins place None) (subst (λ (o : List (Option ℕ)). is_some (get_or o place None) ≡ true) same some) where
      by : (origin : Option ℕ) → is_some origin ≡ true → origin_put place (get_or log place (blank 0)) origin ≡ []
      by None e = absurd (cc e)
      by (Some origin) e = refl

-- what the loop keeps, one place further
module _ {D : Type 0} {disk : Ghosts D} (place : ℕ) (old mid new : Durable D disk) (ok : Bool)
    (within : place < length (durable_state mid).log) (log : (durable_state mid).log ≡ (durable_state old).log)
    (later : (i : ℕ) → place ≤ i → get_or (durable_state mid).origins i None ≡ get_or (durable_state old).origins i None)
    (first : WritesInOrder (puts_before place (durable_state old)) old mid true) (keeps : FaultIsSticky old mid None) (then : WritesInOrder (put_at place (durable_state mid)) mid new ok) where
  abbrev here : Entry
  here = get_or (durable_state mid).log place (blank 0)

  abbrev origin_here : Option ℕ
  origin_here = get_or (durable_state mid).origins place None

  same_put : put_at place (durable_state mid) ≡ put_at place (durable_state old)
  same_put = ap (λ (l : List Entry). origin_put place (get_or l place (blank 0)) origin_here) log ∙ ap (λ (o : Option ℕ). origin_put place (get_or (durable_state old).log place (blank 0)) o) (later place (omega arith))

  pub further_puts : WritesInOrder (puts_before (place + 1) (durable_state old)) old new ok
  further_puts = subst (λ (puts : List Put). WritesInOrder puts old new ok)
      (ap (λ (puts : List Put). puts_before place (durable_state old) ++ puts) same_put ∙ sym (puts_before_next place (durable_state old) old.storable.count (subst (λ (l : List Entry). place < length l) log within)))
      (puts_after None None (puts_before place (durable_state old)) (put_at place (durable_state mid)) old mid new ok first (λ works. keeps) (λ zs s allowed. still_allowed zs s (nexts_after (puts_before place (durable_state old)) None) allowed) then)

  module _ (done : ok ≡ true) where
    after : durable_state new ≡ after_puts (put_at place (durable_state mid)) (durable_state mid)
    after = then.state done

    pub further_log : (durable_state new).log ≡ (durable_state old).log
    further_log = ap (λ (s : Stored). s.log) after ∙ (same_log place here origin_here (durable_state mid) ∙ log)

    pub further_later : (i : ℕ) → place + 1 ≤ i → get_or (durable_state new).origins i None ≡ get_or (durable_state old).origins i None
    further_later i h = ap (λ (s : Stored). get_or s.origins i None) after ∙ (same_origin place here origin_here (durable_state mid) i (λ e. omega (arith, e, h)) ∙ later i (omega (arith, h)))

    pub further_have : ((i : ℕ) → i < place → get_or (durable_state mid).origins i None ≢ None) → (i : ℕ) → i < place + 1 → get_or (durable_state new).origins i None ≢ None
    further_have have i h = elim (eqb_tells i place) as (λ _. get_or (durable_state new).origins i None ≢ None) [
      | inl t ↦ λ none. has_origin place here origin_here (durable_state mid) refl (omega (arith, within, mid.storable.count)) (sym (ap (λ (s : Stored). get_or s.origins place None) after) ∙ (ap (λ (k : ℕ). get_or (durable_state new).origins k None) (sym t.1) ∙ none))
      | inr t ↦ λ none. have i (omega (arith, h, t.1)) (sym (ap (λ (s : Stored). get_or s.origins i None) after ∙ same_origin place here origin_here (durable_state mid) i t.1) ∙ none)
    ]

-- those of all entries
pub all_before : (place : ℕ) (state : Stored) → length state.origins ≡ length state.log → length state.log ≤ place → puts_before place state ≡ origin_puts 0 state.log state.origins
all_before place state even all = rw (take_all place state.log all, take_all place state.origins (omega (arith, all, even))) refl

-- those of an opening of an older store
pub puts_of_older : (state : Stored) → (state.version ≡ 2 → ⊥) → opening_puts state ≡ origin_puts 0 state.log state.origins ++ PutVersion ∷ []
puts_of_older state older = elim (eqb_tells state.version 2) as (λ _. opening_puts state ≡ origin_puts 0 state.log state.origins ++ PutVersion ∷ []) [
  | inl t ↦ absurd (older t.1)
  | inr t ↦ rw t.0 refl
]
