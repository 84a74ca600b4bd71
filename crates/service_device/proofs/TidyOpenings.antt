-- A member that was just opened, and was told the members, is tidy. Who is tidy and leads may settle.
use Rattle.std.proofs.Common.{◌≡◌, ◌⊎◌, ℕ, ◌≤◌, Bool, true, false, List, [], ◌∷◌, length, refl, sym, ◌∙◌, ap, subst, arith, inl, inr}
use Rattle.std.specs.Prelude.{◌&&◌, ◌||◌, nat_lt}
use Rattle.std.proofs.lemmas.Bool.{le-ltb}
use Rattle.alloc_exchange.specs.Exchange.{Accepted, last_moment}
use Rattle.can_frame.specs.declared.step.What.TheVariants.{Disc}
use Rattle.can_frame.specs.Identifier.{identifier_number}
use Rattle.cluster_discovery.specs.Members.{counts, is_on_list, owes}
use Rattle.raft_model.specs.Lists.{In, how_many}
use Rattle.raft_model.specs.Members.{IsAll}
use Rattle.raft_model.specs.Server.{Store}
use Rattle.transfer_tx.specs.Run.{of_identifier}
use Rattle.alloc_spec.specs.AllocatorState.{AllocatorState, is_recorded, knows_all, members_of, opening, start_of}
use Rattle.alloc_spec.specs.Rules.{IsToldAll, Rules, opening_by, with_told}
use Rattle.alloc_spec.specs.Transfers.{ident_of}
use Rattle.alloc_spec_laws.proofs.Choices.{eq_true}
use Rattle.alloc_spec_laws.proofs.Peers.{covers, members_list}
use Rattle.service_alone.proofs.Choosing.{left_false}
use Rattle.service_calm.proofs.Pair.{same_server}
use Rattle.service_device.specs.Tidy.{FitMembersLead, OpenedMembersAreReady, TidyMembersComeToLead, TidyMembersLead}
use Rattle.service_device.proofs.TidyLaw.{tidy_is_fit}
use Rattle.alloc_spec.specs.ClusterMembers.{AreMembers}
use Rattle.bus_spec.specs.Cluster.{rules_of}

-- ---- openings

not_short : (counted short : Bool) → short ≡ false → ((counted && short) || false) ≡ false
not_short true true e = e
not_short true false e = refl
not_short false short e = refl

-- who is told a list of all owes no Discovery
owes_none : (me size : ℕ) (told : List ℕ) (store : Store) (now word : ℕ) → length told ≡ size
    → let t = with_told told (opening me size store now word) in owes (start_of t) t.heard ≡ false
owes_none me size [] store now word all = refl
owes_none me size (first ∷ rest) store now word all =
    not_short (counts (start_of (opening me size store now word)) 0 (record { size = size; known = record { items = first ∷ rest } }))
    (nat_lt (length (first ∷ rest)) size) (le-ltb (length (first ∷ rest)) size (omega (arith, all)))

module _ (same_count : (list members : List ℕ) (test : ℕ → Bool) → IsAll list members → how_many test list ≡ how_many test members)
    (knows : (me : ℕ) (rules : Rules) (store : Store) (now word : ℕ) → 1 ≤ me → IsToldAll me rules → knows_all (opening_by me rules store now word) ≡ true)
    (opens : (me : ℕ) (rules : Rules) (store : Store) (now word node : ℕ) → In node (members_of (opening_by me rules store now word)) → (node ≡ me) ⊎ In node rules.told)
    (ids : List ℕ) (members : AreMembers ids) where
  module _ (n : ℕ) (i : In n ids) (store : Store) (moment word : ℕ) where
    abbrev opened : AllocatorState
    opened = opening_by n (rules_of ids true) store moment word

    told_all : IsToldAll n (rules_of ids true)
    told_all = record { own = i; nodes = members.nodes; once = members.once; all = refl }

    knows_them : knows_all (opening_by n (rules_of ids true) store moment word) ≡ true
    knows_them = knows n (rules_of ids true) store moment word (members.nodes n i).0 told_all

    -- it lists each of them
    lists_them : (m : ℕ) → In m ids → In m (members_of (opening_by n (rules_of ids true) store moment word))
    lists_them m j = covers same_count (members_of opened) ids (record {
      once = (members_list (start_of opened) opened.heard).once;
      among = λ node k. elim (opens n (rules_of ids true) store moment word node k) [
        | inl own ↦ subst (λ (q : ℕ). In q ids) (sym own) i
        | inr told ↦ told
      ];
      as_many = eq_true (length (members_of opened)) (length ids) knows_them;
    }) m j

  pub opened_ready : OpenedMembersAreReady ids
  opened_ready n now moment word faults store w i runs disk early = record {
    tidy = record {
      server = opening_by n (rules_of ids true) store moment word;
      runs = runs;
      faults = faults;
      disk = disk;
      clock = early;
      status = early;
      requests = refl;
      listed = λ other e. refl;
      discovery = owes_none n (length ids) ids store moment word refl;
      complete = knows_them n i store moment word;
    };
    lists = λ m j server up. subst (λ (t : AllocatorState). In m (members_of t))
        (same_server (opening_by n (rules_of ids true) store moment word) server (sym runs ∙ up)) (lists_them n i store moment word m j);
    none_waits = λ server up. ap (λ (t : AllocatorState). of_identifier (identifier_number (ident_of n Disc 0)) t.queue)
        (sym (same_server (opening_by n (rules_of ids true) store moment word) server (sym runs ∙ up)));
  }

-- ---- who leads

pub fit_lead : FitMembersLead
fit_lead n now log accepted w h leads log_is no_blank requests = record {
  server = h.server;
  runs = h.runs;
  faults = h.faults;
  disk = h.disk;
  leads = leads;
  log_is = log_is;
  no_blank = no_blank;
  requests = requests;
  clock = h.clock;
  status = h.status;
  last_request = subst (λ (l : List Accepted). last_moment l ≤ now) requests h.last_request;
  known = λ other e. h.listed other (left_false (is_on_list (members_of h.server) other) (is_recorded h.server.raft_server.store.log other) e);
  discovery = h.discovery;
}

pub tidy_lead : TidyMembersLead
unfolding tidy_is_fit
tidy_lead n now log w h leads log_is no_blank = fit_lead n now log [] w (tidy_is_fit n now w h) leads log_is no_blank h.requests

pub tidy_come_to_lead : TidyMembersComeToLead
tidy_come_to_lead ids n now log w h leads log_is told waits = record {
  server = h.server;
  runs = h.runs;
  faults = h.faults;
  disk = h.disk;
  leads = leads;
  log_is = log_is;
  told = told;
  waits = waits;
  requests = let e = ap (λ (l : List Accepted). last_moment l) h.requests in omega (arith, e);
  clock = h.clock;
  status = h.status;
  known = λ other e. h.listed other (left_false (is_on_list (members_of h.server) other) (is_recorded h.server.raft_server.store.log other) e);
  discovery = h.discovery;
}
