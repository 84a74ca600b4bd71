-- The laws that stand are what the proofs of elections ask for.
use Rattle.std.proofs.Common.{◌≡◌, ◌+◌, ◌<◌, ◌≤◌, ℕ, true, List, [], ◌∷◌, ◌++◌, refl, sym, ◌∙◌, subst}
use Rattle.raft_model.specs.Lists.{In}
use Rattle.raft_model.specs.Messages.{Message}
use Rattle.raft_model.specs.Server.{Store}
use Rattle.bus_rows.specs.declared.row.Row.{Row}
use Rattle.alloc_spec.specs.AllocatorState.{AllocatorState, knows_all}
use Rattle.alloc_spec.specs.Rules.{opening_by}
use Rattle.alloc_spec.specs.Transfers.{Offer, SentTransfer}
use Rattle.bus_agreement.specs.Said.{AreSaid, AreWritable}
use Rattle.bus_rows.specs.Timed.{Timed, rows_in}
use Rattle.service_alone.specs.Calm.{Pace, end_of}
use Rattle.service_candidate.specs.Elections.{IsCalmRestart, WaitIsOver}
use Rattle.service_candidate.specs.ElectionsBelow.{ElectionLaws}
use Rattle.service_candidate.specs.Terms.{NoAppendWaits, NobodyLeads}
use Rattle.service_candidate.proofs.ElectionsEnd.{all_run, found_by, lists_in, told_all}
use Rattle.service_candidate.proofs.FirstToStand.{IsFound}
use Rattle.service_candidate.proofs.LogsHold.{GoesOn, begins, further}
use Rattle.service_candidate.proofs.TermsMembers.{one_server}
use Rattle.service_candidate.proofs.TermsMoves.{HasLog}
use Rattle.service_leader.specs.CallsAsk.{CallsAskNext}
use Rattle.service_calm.specs.Calls.{Lists}
use Rattle.service_calm.specs.Calm.{AreCalm, AreRunning, IsRunning, Member as OfMember, Party, no_traffic}
use Rattle.service_calm.specs.Comes.{Sends, Throughout, sent_by}
use Rattle.service_calm.proofs.CallsRead.{sent_made}
use Rattle.service_calm.proofs.Grounds.{calm_laws, its_run, made, shown, well}
use Rattle.service_calm.proofs.Group.{AreWell}
use Rattle.alloc_spec.specs.ClusterMembers.{AreMembers}
use Rattle.bus_spec.specs.Cluster.{after_rows, cluster, rules_of, world_of}
use Rattle.bus_spec.specs.Lawful.{DoNoHarm, DoesNoHarm}
use Rattle.bus_spec.specs.Members.MemberStatus.{Up}

-- the transfer is one of those that are said in a bag
pub record IsSaidIn (x : SentTransfer) : Type 0 where
  pub ids : List ℕ
  pub made : List SentTransfer
  pub bag : List Message
  pub said : AreSaid made bag
  pub written : AreWritable ids bag
  pub among : In x made

module _ (laws : ElectionLaws) where
  module _ (ids : List ℕ) (members : AreMembers ids) where
    -- no append request comes, and the log of member m is that of this server, from a calm's beginning until somebody leads
    pub logs_go_on : (asks : CallsAskNext) (rows : List Row) → DoNoHarm (cluster ids) rows → (group : List Party) (clocks : Party → ℕ) (pace : Pace) (start m : ℕ) (front rest : List Timed)
        (server : AllocatorState) (listed : (p : ℕ) → In (OfMember p) group → In p ids) → AreRunning group (world_of ids rows) → NoAppendWaits group (world_of ids rows)
        → AreCalm group clocks pace (no_traffic start) (world_of ids rows) (front ++ rest) → ((world_of ids rows).member m).status ≡ Up server
        → Throughout (NobodyLeads group) (world_of ids rows) front → NobodyLeads group (after_rows (world_of ids rows) (rows_in front))
        → GoesOn (calm_laws laws.calm) asks group (λ p i. members.nodes p (listed p i)) clocks pace m server.raft_server.store (after_rows (world_of ids rows) (rows_in front)) rest
    logs_go_on asks rows harmless group clocks pace start m front rest server listed running none calm runs nobody nobody_then =
        let nodes : (p : ℕ) → In (OfMember p) group → (1 ≤ p) × (p ≤ 125) = λ p i. members.nodes p (listed p i) in
        let store = server.raft_server.store in
        further (calm_laws laws.calm) asks group nodes clocks pace m store front rest (world_of ids rows)
        (begins (calm_laws laws.calm) asks group nodes clocks pace m store start (world_of ids rows) (front ++ rest) (well laws.calm ids members rows harmless group listed running) none
        (λ t up. subst (λ (x : AllocatorState). HasLog store x.raft_server.store) (one_server server t (sym runs ∙ up)) (refl, refl)) calm) nobody nobody_then

    -- where the members have just been opened
    module _ (rows : List Row) (harmless : DoNoHarm (cluster ids) rows) (group : List Party) (clocks : Party → ℕ) (pace : Pace) (start : ℕ) (whole : List Timed)
        (r : IsCalmRestart ids rows group clocks pace start whole) where
      pub are_well : AreWell group (world_of ids rows)
      are_well = well laws.calm ids members rows harmless group r.listed (all_run ids rows group clocks pace start whole r)

      pub all_know : (p : ℕ) (store : Store) (moment word : ℕ) → In (OfMember p) group → knows_all (opening_by p (rules_of ids true) store moment word) ≡ true
      all_know p store moment word i = laws.all p (rules_of ids true) store moment word (members.nodes p (r.listed p i)).0 (told_all ids p members (r.listed p i))

      -- each lists each other
      pub all_listed : (n m : ℕ) → In (OfMember n) group → In (OfMember m) group → Lists n m (world_of ids rows)
      all_listed = lists_in ids rows group clocks pace start whole r laws.count all_know laws.opening

      -- somebody stands behind the end of a member's wait
      pub found : (m moment : ℕ) → In (OfMember m) group → WaitIsOver clocks m moment (world_of ids rows) → start ≤ moment
          → moment + pace.period < end_of start whole → IsFound group clocks (moment + pace.period) (world_of ids rows) (world_of ids rows) whole
      found = found_by ids rows group clocks pace start whole r (calm_laws laws.calm) laws.leave laws.calm.complete (λ p i. members.nodes p (r.listed p i)) all_know are_well

    -- what a member sends in a row behind these is said
    pub is_said : (rows : List Row) → DoNoHarm (cluster ids) rows → (n : ℕ) (row : Row) (offer : Offer) → DoesNoHarm (world_of ids rows) row
        → IsRunning n (world_of ids rows) → Sends n (world_of ids rows) row offer → IsSaidIn (sent_by n (world_of ids rows) offer)
    is_said rows harmless n row offer harm running sends =
        let fine = laws.calm.no_harm (cluster ids) rows row harmless harm in
        let holds = (shown laws.calm ids members (rows ++ row ∷ []) fine).shows.holds in
        record {
          ids = (world_of ids (rows ++ row ∷ [])).ids;
          made = made laws.calm ids members (rows ++ row ∷ []) fine;
          bag = (its_run laws.calm ids members (rows ++ row ∷ []) fine).bag;
          said = holds.said;
          written = holds.written;
          among = subst (In (sent_by n (world_of ids rows) offer)) (sym (laws.calm.made (cluster ids) rows row []))
              (sent_made (world_of ids rows) row n offer (made laws.calm ids members rows harmless) (record { faults = running.faults; calls = running.disk }) sends);
        }
