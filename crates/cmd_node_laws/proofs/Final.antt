-- Traces from the beginning.
use Rattle.std.proofs.Common.{◌≡◌, ℕ, zero, suc, ◌<◌, Bool, List, [], ◌∷◌, ◌++◌, length, take, refl, sym, ap, subst, ◌∙◌, arith, inl, inr, append-nil}
use Rattle.std.specs.Prelude.{slice_index}
use Rattle.raft_core.specs.StoredPuts.{store_of, stored_puts}
use Rattle.raft_log.specs.Rules.{StandsForState}
use Rattle.raft_log.specs.Stored.{AfterSome, Put, Stored, after_put, after_puts}
use Rattle.raft_model.specs.Lists.{In}
use Rattle.raft_model.specs.Members.{HasNoneTwice}
use Rattle.bus_rows.specs.declared.row.Row.{Row}
use Rattle.alloc_spec.specs.AllocatorState.{AllocatorState}
use Rattle.bus_agreement.specs.Headline.{HasHeadline, Headline}
use Rattle.bus_spec.specs.Choices.{AgreesWithDisk}
use Rattle.bus_spec.specs.Cluster.{Cluster, after_rows, cluster, after_row, world_of}
use Rattle.bus_spec.specs.Logs.{stored, stored_on}
use Rattle.bus_spec.specs.Members.{MemberStatus}
use Rattle.outside.specs.Traffic.{next_item}
use Rattle.transfer_rx.specs.Reassembly.{Arrival, Delivery, Setting, answer}
use Rattle.transfer_rx.specs.Reassembly.Answer.{Gives}
use Rattle.transfer_rx.specs.Sessions.{Session}
use Rattle.transfer_rx.specs.Sound.{IsDelivered}
use Rattle.bus_agreement.proofs.Concatenations.{same_ids}
use Rattle.cmd_node.specs.Puts.{turn_puts}
use Rattle.cmd_node.specs.Turn.{Running, Turning}
use Rattle.cmd_node_laws.specs.Traces.{Came}
use Rattle.cmd_node_laws.specs.Alike.{Alike, Likeness}
use Rattle.cmd_node_laws.specs.Mirrored.{AreCalm, Carries, IsMirrored}
use Rattle.cmd_node_laws.specs.Stands.{IsFoundKilled, MayBeKilled}
use Rattle.cmd_node_laws.proofs.Killing.{killed_told}
use Rattle.cmd_node_laws.proofs.Stored.{after_some, alike_some}
use Rattle.cmd_node_laws.proofs.Turning.{MarkLaws}

-- ---- the fact holds after some of the puts

pub some_found : (fact : Stored → Type 0) (puts : List Put) (state : Stored) → AfterSome fact puts state → (count : ℕ) × fact (after_puts (take count puts) state)
some_found fact [] state is = (0, is)
some_found fact (put ∷ puts) state (inl is) = (0, is)
some_found fact (put ∷ puts) state (inr is) = let r = some_found fact puts (after_put put state) is in (suc r.0, r.1)

-- ---- members

pub at_place : (xs : List ℕ) (i : ℕ) → i < length xs → In (slice_index xs i) xs
at_place [] i h = absurd (omega (arith, h))
at_place (x ∷ xs) zero h = inl refl
at_place (x ∷ xs) (suc i) h = inr (at_place xs i (omega (arith, h)))

pub none_twice : (xs : List ℕ) → HasNoneTwice xs → (i j : ℕ) → i < length xs → j < length xs → slice_index xs i ≡ slice_index xs j → i ≡ j
none_twice [] once i j h k e = absurd (omega (arith, h))
none_twice (x ∷ xs) once zero zero h k e = refl
none_twice (x ∷ xs) once zero (suc j) h k e = absurd (once.0 (subst (λ (y : ℕ). In y xs) (sym e) (at_place xs j (omega (arith, k)))))
none_twice (x ∷ xs) once (suc i) zero h k e = absurd (once.0 (subst (λ (y : ℕ). In y xs) e (at_place xs i (omega (arith, h)))))
none_twice (x ∷ xs) once (suc i) (suc j) h k e = ap suc (none_twice xs once.1 i j (omega (arith, h)) (omega (arith, k)) e)

-- ---- what is stored of a member that runs

pub stored_as : (ids : List ℕ) (rows : List Row) (r : Running) → HasHeadline ids rows → (world_of ids rows).ids ≡ ids → In r.id ids → IsMirrored (world_of ids rows) r
    → store_of ((world_of ids rows).member r.id).disk.store ≡ r.allocator.raft_server.store
stored_as ids rows r headline same listed is =
    sym (shown ∙ ap (λ (status : MemberStatus). stored_on choice status (w.member r.id).disk) is.runs) ∙ ap (λ (t : AllocatorState). t.raft_server.store) is.same
  where
    w : Cluster
    w = world_of ids rows

    choice : ℕ → Bool
    choice = headline.some.0

    none_more : rows ≡ rows ++ []
    none_more = sym (append-nil rows)

    now : Headline choice w (world_of ids (rows ++ []))
    now = headline.holds rows [] [] choice none_more (subst (λ (l : List Row). AgreesWithDisk choice (cluster ids) l) none_more headline.some.1)

    shown : is.server.raft_server.store ≡ stored choice w r.id
    shown = now.shown r.id is.server (subst (λ (l : List ℕ). In r.id l) (sym same) listed) is.runs

same_from : (w : Cluster) (rows : List Row) → (after_rows w rows).ids ≡ w.ids
same_from w [] = refl
same_from w (row ∷ rows) = same_from (after_row w row) rows ∙ same_ids w row

pub same_ids_of : (ids : List ℕ) (rows : List Row) → (world_of ids rows).ids ≡ ids
same_ids_of ids rows = same_from (cluster ids) rows

-- ---- a kill

module _ (marks : MarkLaws)
    (deliveries : (setting : Setting) (sessions : List Session) (arrival : Arrival) (delivery : Delivery) → answer setting sessions arrival ≡ Gives delivery → IsDelivered setting sessions arrival delivery) where
  pub kill_found : (w : Cluster) (t : Turning) (moment : ℕ) (came : Came) (image : List ℕ) (state : Stored) (likeness : Likeness) → AreCalm w → IsMirrored w t.running
      → Alike likeness (w.member t.running.id).disk.store state → AfterSome (StandsForState image) (stored_puts (turn_puts moment t) state) state
      → Carries w.frames (next_item t.running.coming) came
      → MayBeKilled w t.running moment came → IsFoundKilled likeness image w t.running moment came
  kill_found w t moment came image state likeness calm is alike after carries may =
      let found = some_found (StandsForState image) (stored_puts (turn_puts moment t) state) state after in
      let told = killed_told marks deliveries t.running.id w t moment found.0 came is.server calm (record { member = (may found.0).0.member; up = is.runs }) is.same (may found.0).1 carries in (
        found.0,
        record {
          down = told.dead.down;
          found = after_some found.0 (turn_puts moment t) state;
          stands = found.1;
          same = subst (λ (stored : Stored). Alike likeness stored (after_some found.0 (turn_puts moment t) state)) (sym told.stored)
              (alike_some likeness found.0 (turn_puts moment t) (w.member t.running.id).disk.store state alike);
        },
      )
