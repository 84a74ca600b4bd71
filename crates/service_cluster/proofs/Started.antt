-- What holds of members that have just been opened, where a calm begins: they are tidy, and nothing waits.
use Rattle.std.proofs.Common.{◌≡◌, ℕ, ◌+◌, ◌≤◌, arith, Bool, true, false, List, [], ◌∷◌, length, refl, ◌∙◌, ap, subst}
use Rattle.std.specs.Prelude.{◌&&◌, ◌||◌, nat_lt}
use Rattle.std.proofs.lemmas.Bool.{lt-ltb}
use Rattle.can_frame.specs.declared.step.What.TheVariants.{Disc}
use Rattle.can_frame.specs.Identifier.{identifier_number}
use Rattle.cluster_discovery.specs.Members.{counts, owes}
use Rattle.raft_model.specs.Lists.{In}
use Rattle.bus_rows.specs.declared.row.Row.{Row}
use Rattle.transfer_tx.specs.Run.{of_identifier}
use Rattle.alloc_spec.specs.AllocatorState.{AllocatorState, knows_all}
use Rattle.alloc_spec.specs.Rules.{heard_with}
use Rattle.alloc_spec.specs.Transfers.{ident_of}
use Rattle.alloc_spec_laws.proofs.LeadersBlanks.{told_waits}
use Rattle.bus_rows.specs.Timed.{Timed}
use Rattle.service_alone.specs.Calm.{Pace}
use Rattle.service_calm.specs.Calm.{Member as OfMember, Party}
use Rattle.service_candidate.specs.Elections.{IsCalmRestart}
use Rattle.service_candidate.proofs.ElectionsEnd.{is_opened, opened}
use Rattle.service_leader.proofs.TermsRoles.{not_above}
use Rattle.service_device.specs.Tidy.{IsTidy, NoDiscoveryWaits}
use Rattle.bus_spec.specs.Cluster.{Cluster, rules_of, world_of}

-- who was told its whole list owes no Discovery
and_none : (b : Bool) → ((b && false) || false) ≡ false
and_none true = refl
and_none false = refl

owes_none : (me moment : ℕ) (nodes : List ℕ) → owes (record { me = me; size = length nodes; moment = moment }) (heard_with (length nodes) nodes []) ≡ false
owes_none me moment [] = refl
owes_none me moment (node ∷ nodes) = ap (λ (b : Bool). (counts (record { me = me; size = length (node ∷ nodes); moment = moment }) 0
    (record { size = length (node ∷ nodes); known = record { items = node ∷ nodes } }) && b) || false)
    (not_above (length (node ∷ nodes)) (length (node ∷ nodes)) (omega arith))
    ∙ and_none (counts (record { me = me; size = length (node ∷ nodes); moment = moment }) 0
    (record { size = length (node ∷ nodes); known = record { items = node ∷ nodes } }))

module _ (ids : List ℕ) (rows : List Row) (group : List Party) (clocks : Party → ℕ) (pace : Pace) (start : ℕ) (whole : List Timed)
    (r : IsCalmRestart ids rows group clocks pace start whole) where
  abbrev w : Cluster
  w = world_of ids rows

  -- the server that a member has when the calm begins
  abbrev server_of : (m : ℕ) → In (OfMember m) group → AllocatorState
  server_of m i = opened ids rows group clocks pace start whole r m i

  -- no frame waits
  pub no_discovery : NoDiscoveryWaits group w
  no_discovery m i server up = subst (λ (t : AllocatorState). of_identifier (identifier_number (ident_of m Disc 0)) t.queue ≡ [])
      (is_opened ids rows group clocks pace start whole r m i server up) refl

  -- it is tidy, where it knows all
  pub tidy : ((p : ℕ) (i : In (OfMember p) group) → knows_all (server_of p i) ≡ true) → (p : ℕ) → In (OfMember p) group → IsTidy p (start + clocks (OfMember p)) w
  tidy knows p i = record {
    server = server_of p i;
    runs = (r.opened p i).runs;
    faults = (r.opened p i).faults;
    disk = (r.opened p i).disk;
    clock = (r.opened p i).clock;
    status = (r.opened p i).clock;
    requests = refl;
    listed = λ other no. refl;
    discovery = owes_none p (r.opened p i).moment ids;
    complete = knows p i;
  }

  -- it waits with its blank, once it leads
  pub waits : (p : ℕ) (i : In (OfMember p) group) → 1 ≤ length ids → (server_of p i).times.waits ≡ true
  waits p i some = told_waits p (rules_of ids true) (r.opened p i).store (r.opened p i).moment (r.opened p i).word ∙ tells_some ids some
    where
      tells_some : (nodes : List ℕ) → 1 ≤ length nodes → nat_lt 0 (length nodes) ≡ true
      tells_some [] h = absurd (omega (arith, h))
      tells_some (node ∷ nodes) h = lt-ltb 0 (length (node ∷ nodes)) (omega arith)
