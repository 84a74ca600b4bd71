-- The rows of a quiet bus, one by one: each is lawful where the allocator runs.
use Rattle.std.proofs.Common.{◌≡◌, ◌≢◌, ◌⊎◌, ℕ, ◌+◌, ◌≤◌, true, List, [], ◌∷◌, length, inl, inr, refl, sym, ◌∙◌, ap, subst, arith, None}
use Rattle.std.specs.Prelude.{is_some, not}
use Rattle.bus_rows.specs.declared.row.Row.{Row}
use Rattle.bus_rows.specs.declared.row.Row.TheVariants.{AEnd, AOpen, ARx, ASend, ATick, Crash, Ext, Fault, Open, Rx, Send, Tick}
use Rattle.transfer_tx.specs.Queue.{Queued, next_out}
use Rattle.alloc_spec.specs.AllocatorState.{AllocatorState}
use Rattle.service_alone.specs.Calm.{Pace}
use Rattle.service_alone.specs.CalmRecovery.{IsQuietRow}
use Rattle.service_alone.proofs.CalmLawful.{can_go}
use Rattle.service_alone.proofs.Members.{IsUp}
use Rattle.service_alone.proofs.Scenes.{it_is}
use Rattle.bus_spec.specs.declared.unlawful.Unlawful.TheVariants.{NoNode, Stopped}
use Rattle.bus_spec.specs.Cluster.{Cluster}
use Rattle.bus_spec.specs.Lawful.{because, cause, or_else}
use Rattle.bus_spec.specs.Members.{is_running, next_frame}

pub by_quiet_rows : (n ahead : ℕ) (pace : Pace) (w : Cluster) (at : ℕ) (Goal : Row → Type 0)
    → ((word : ℕ) → Goal (Tick n (at + ahead) word))
    → (is_some (next_frame (w.member n).status) ≡ true → Goal (Send n))
    → (row : Row) → IsQuietRow n ahead pace w at row → Goal row
by_quiet_rows n ahead pace w at Goal tick send (Tick m ms word) q = subst Goal (λ i. Tick (sym q.0 i) (sym q.1 i) word) (tick word)
by_quiet_rows n ahead pace w at Goal tick send (Send m) q = subst Goal (λ i. Send (sym q.0 i)) (send q.1)
by_quiet_rows n ahead pace w at Goal tick send (Open m told ms word) q = absurd q
by_quiet_rows n ahead pace w at Goal tick send (Rx m k ms) q = absurd q
by_quiet_rows n ahead pace w at Goal tick send (Ext frame) q = absurd q
by_quiet_rows n ahead pace w at Goal tick send (Crash m calls pattern) q = absurd q
by_quiet_rows n ahead pace w at Goal tick send (Fault m call) q = absurd q
by_quiet_rows n ahead pace w at Goal tick send (AOpen b u pref ms word) q = absurd q
by_quiet_rows n ahead pace w at Goal tick send (ATick b ms word) q = absurd q
by_quiet_rows n ahead pace w at Goal tick send (ARx b k ms word) q = absurd q
by_quiet_rows n ahead pace w at Goal tick send (ASend b) q = absurd q
by_quiet_rows n ahead pace w at Goal tick send (AEnd b) q = absurd q

pub quiet_lawful : (n ahead : ℕ) (pace : Pace) (w : Cluster) (at : ℕ) → w.ids ≡ n ∷ [] → (t : AllocatorState) → IsUp t (w.member n)
    → (row : Row) → IsQuietRow n ahead pace w at row → cause w row ≡ None
quiet_lawful n ahead pace w at ids t up = by_quiet_rows n ahead pace w at (λ row. cause w row ≡ None)
    (λ number. λ i. or_else (because NoNode (not (it_is n 1 w ids i))) (because Stopped (not (is_running (up.status i)))))
    (λ goes. λ i. or_else (because NoNode (not (it_is n 1 w ids i))) (or_else (because Stopped (not (is_running (up.status i))))
    (can_go (next_frame (w.member n).status) goes i)))

-- ---- the queue

-- where a frame goes out, one waited
pub some_waited : (queue : List Queued) → is_some (next_out queue) ≡ true → queue ≢ []
unfolding next_out
some_waited queue some e = let f : is_some (next_out []) ≡ true = ap (λ (q : List Queued). is_some (next_out q)) (sym e) ∙ some in absurd (cc (f))

pub longer_waits : (before now : List Queued) → length before ≤ length now → before ≢ [] → now ≢ []
longer_waits before now long some e = some (none before (let l = ap length e in omega (arith, long, l)))
  where
    none : (l : List Queued) → length l ≡ 0 → l ≡ []
    none [] z = refl
    none (x ∷ l) z = absurd (omega (arith, z))

pub none_or_some : (queue : List Queued) → (queue ≡ []) ⊎ (queue ≢ [])
none_or_some [] = inl refl
none_or_some (frame ∷ queue) = inr (λ e. let l = ap length e in absurd (omega (arith, l)))
