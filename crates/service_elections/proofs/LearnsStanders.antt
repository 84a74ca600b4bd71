-- A member that stands for election in a calm learns the term of each other one: by its answer to the vote request; or it
-- comes to lead before, and calls each other one then.
use Rattle.std.proofs.Common.{◌≡◌, ◌≢◌, ℕ, ◌+◌, ◌*◌, ◌<◌, ◌≤◌, arith, List, [], ◌∷◌, ◌++◌, append_assoc, refl, sym, ◌∙◌, ap, subst, inl, inr}
use Rattle.std.specs.Prelude.{◌⊎◌}
use Rattle.std.proofs.lemmas.Bool.Decides.{eqb_tells}
use Rattle.raft_model.specs.Lists.{In}
use Rattle.raft_model.specs.Server.{Role}
use Rattle.raft_model.specs.Server.Role.{Candidate, Leader}
use Rattle.bus_rows.specs.declared.row.Row.{Row}
use Rattle.alloc_spec.specs.AllocatorState.{AllocatorState, members_of}
use Rattle.service_candidate.specs.Votes.{AsksFor, CanAsk, IsAsStanding, Stands}
use Rattle.service_candidate.specs.Wins.{OffersVoteRequest}
use Rattle.service_candidate.proofs.WinsGrounds.{rows_join}
use Rattle.service_leader.proofs.Stretches.{calm_front, harmless_both, rows_both, world_both}
use Rattle.service_elections.specs.Running.{IsCalmOf, NobodyStandsIn}
use Rattle.service_elections.specs.Sent.{AskersLearn, CallersLearn, LeadsBy}
use Rattle.service_elections.proofs.LearnsCallers as callers_learn
use Rattle.service_calm.specs.CalmBelow.{CalmGrounds}
use Rattle.service_calm.proofs.Grounds.{calm_laws, well}
use Rattle.service_elections.proofs.LearnsGrounds.{Grounds, from_there}
use Rattle.service_elections.proofs.NobodyStands.{nobody_rest}
use Rattle.service_elections.proofs.LearnsWins.{ComesToLead, comes_to_lead, winner_calls}
use Rattle.bus_agreement.proofs.Concatenations.{first_harmless, row_harmless}
use Rattle.service_calm.specs.Calm.{AreCalm, Member as OfMember, Party, Traffic, no_traffic, traffic_after}
use Rattle.service_calm.specs.CallsInTime.{OffersCall}
use Rattle.service_calm.proofs.Calls.{lists_on}
use Rattle.service_calm.proofs.Group.{AreWell, CalmLaws, IsWell, well_after}
use Rattle.service_calm.proofs.Pair.{same_server}
use Rattle.bus_rows.specs.Timed.{Timed, rows_in}
use Rattle.service_alone.specs.Calm.{Pace}
use Rattle.bus_spec.specs.Cluster.{Cluster, after_row, after_rows, cluster, step_of, tick_of, world_of}
use Rattle.bus_spec.specs.Lawful.{DoNoHarm, DoesNoHarm}
use Rattle.bus_spec.specs.Members.MemberStatus.{Up}

no_leader : (role : Role) → role ≡ Candidate → role ≢ Leader
no_leader role e f = cc (sym e ∙ f)

module _ (laws : CalmLaws) (group : List Party) (clocks : Party → ℕ) (pace : Pace) (nodes : (p : ℕ) → In (OfMember p) group → (1 ≤ p) × (p ≤ 125)) where
  -- the calm behind its first rows
  pub record Behind (w : Cluster) (rows : List Timed) : Type 0 where
    pub traffic : Traffic
    pub are : AreWell group w
    pub calm : AreCalm group clocks pace traffic w rows

  pub behind : (front rest : List Timed) (w : Cluster) → Behind w (front ++ rest) → Behind (after_rows w (rows_in front)) rest
  behind [] rest w b = b
  behind (timed ∷ front) rest w b = behind front rest (after_row w timed.row) (record {
    traffic = traffic_after b.traffic w timed;
    are = well_after laws group nodes w b.are clocks pace b.traffic timed.at timed.row b.calm.1;
    calm = b.calm.2;
  })

module _ (ids : List ℕ) (rows : List Row) (g : Grounds ids rows) (callers : CallersLearn ids rows) (askers : AskersLearn ids rows) (group : List Party)
    (clocks : Party → ℕ) (pace : Pace) (start c m term : ℕ) (front early late : List Timed) (timed next : Timed) (other server : AllocatorState)
    (calm : IsCalmOf ids rows group clocks pace start (front ++ timed ∷ (early ++ next ∷ late))) (in_c : In (OfMember c) group) (in_m : In (OfMember m) group) where
  abbrev grounds : CalmGrounds
  grounds = g.below.wins.election.calm

  abbrev laws : CalmLaws
  laws = calm_laws grounds

  abbrev w : Cluster
  w = world_of ids rows

  abbrev there : Cluster
  there = after_rows w (rows_in front)

  abbrev then_w : Cluster
  then_w = after_row there timed.row

  module _ (s : Stands c term there timed.row) (up : (there.member m).status ≡ Up other) (nobody : NobodyStandsIn group then_w early)
      (long : timed.at + 8 * pace.delay < next.at) (up_then : ((after_rows then_w (rows_in early)).member c).status ≡ Up server) where
    module _ (apart : c ≢ m) where
      abbrev upto : List Timed
      upto = front ++ timed ∷ early

      calm_upto : AreCalm group clocks pace (no_traffic start) w upto
      calm_upto = callers_learn.calm_upto ids rows g group clocks pace start c m front early late timed next calm in_c in_m apart

      harm_split : DoNoHarm w (rows_in front ++ timed.row ∷ rows_in early)
      harm_split = subst (DoNoHarm w) (rows_both front (timed ∷ early))
          (callers_learn.harm_upto ids rows g group clocks pace start c m front early late timed next calm in_c in_m apart)

      nodes : (p : ℕ) → In (OfMember p) group → (1 ≤ p) × (p ≤ 125)
      nodes p i = g.members.nodes p (calm.listed p i)

      can : CanAsk c m w (front ++ timed ∷ (early ++ next ∷ late))
      can = calm.ask c m in_c in_m apart

      -- it lists the other one behind each front
      listed_at : (a b : List Timed) → early ≡ a ++ b → (t : AllocatorState) → ((after_rows then_w (rows_in a)).member c).status ≡ Up t → In m (members_of t)
      listed_at a b e t on = lists_on grounds.stay m group clocks pace (no_traffic start) c (front ++ timed ∷ a) b w (calm.running c in_c)
          (subst (AreCalm group clocks pace (no_traffic start) w) (ap (λ (l : List Timed). front ++ timed ∷ l) e ∙ sym (append_assoc front (timed ∷ a) b)) calm_upto)
          can.asks_it t (ap (λ (v : Cluster). (v.member c).status) (world_both w front (timed ∷ a)) ∙ on)

      -- ---- it asks

      there_is : world_of ids (rows ++ rows_in front) ≡ there
      there_is = rows_join (cluster ids) rows (rows_in front)

      standing : IsAsStanding c term there timed.row s
      standing = subst (λ (v : Cluster). DoesNoHarm v timed.row → (k : Stands c term v timed.row) → IsAsStanding c term v timed.row k) there_is
          (λ harm k. g.below.wins.asked ids (rows ++ rows_in front) g.members
          (harmless_both (cluster ids) rows (rows_in front) g.harmless (first_harmless w (rows_in front) (timed.row ∷ rows_in early) harm_split))
          c term timed.row (calm.listed c in_c) harm k)
          (row_harmless w (rows_in front) (rows_in early) timed.row harm_split) s

      asks : AsksFor c m term there timed.row s
      asks = standing.asks m (listed_at [] early refl s.after s.runs_then) (λ e. apart (sym e))

      offers : OffersVoteRequest c m there timed.row
      offers = record {
        server = s.before;
        runs = s.runs;
        event = tick_of s.ms s.word;
        in_step = ap (λ (r : Row). step_of there r) s.reads;
        offer = asks.offer;
        offered = asks.offered;
        what = asks.what;
        to = asks.to;
      }

      asked : (other.raft_server.store.term ≤ server.raft_server.store.term) ⊎ LeadsBy c timed.at (timed.at + 4 * pace.delay) then_w early
      asked = askers group clocks pace start c m front early late timed next other server calm in_c in_m apart offers up nobody (omega (arith, long)) up_then

      -- ---- it leads before

      module _ (by : LeadsBy c timed.at (timed.at + 4 * pace.delay) then_w early) where
        from_there_on : Behind laws group clocks pace nodes there (timed ∷ early)
        from_there_on = behind laws group clocks pace nodes front (timed ∷ early) w (record {
          traffic = no_traffic start;
          are = well grounds ids g.members rows g.harmless group calm.listed calm.running;
          calm = calm_upto;
        })

        abbrev First : Type 0
        First = ComesToLead laws grounds.stay group clocks pace c m (λ e. apart (sym e)) timed.at then_w by.front

        first : First
        first = comes_to_lead laws grounds.stay group clocks pace c m (λ e. apart (sym e)) nodes in_c by.term by.front
            (traffic_after from_there_on.traffic there timed) timed.at then_w
            (well_after laws group nodes there from_there_on.are clocks pace from_there_on.traffic timed.at timed.row from_there_on.calm.1)
            (calm_front group clocks pace by.front by.rest (traffic_after from_there_on.traffic there timed) then_w
            (subst (AreCalm group clocks pace (traffic_after from_there_on.traffic there timed) then_w) by.split from_there_on.calm.2))
            (λ t on. subst (λ (k : AllocatorState). k.raft_server.memory.role ≢ Leader) (same_server s.after t (sym s.runs_then ∙ on))
            (no_leader s.after.raft_server.memory.role s.stands)) by.leads

        module _ (f : First) where
          abbrev later : List Timed
          later = f.rest ++ by.rest

          early_is : early ≡ f.front ++ f.one ∷ later
          early_is = by.split ∙ (ap (λ (l : List Timed). l ++ by.rest) f.split ∙ append_assoc f.front (f.one ∷ f.rest) by.rest)

          abbrev v : Cluster
          v = after_rows then_w (rows_in f.front)

          v_is : after_rows w (rows_in (front ++ timed ∷ f.front)) ≡ v
          v_is = world_both w front (timed ∷ f.front)

          whole_is : front ++ timed ∷ (early ++ next ∷ late) ≡ (front ++ timed ∷ f.front) ++ f.one ∷ (later ++ next ∷ late)
          whole_is = ap (λ (l : List Timed). front ++ timed ∷ (l ++ next ∷ late)) early_is
              ∙ (ap (λ (l : List Timed). front ++ timed ∷ l) (append_assoc f.front (f.one ∷ later) (next ∷ late))
              ∙ sym (append_assoc front (timed ∷ f.front) (f.one ∷ (later ++ next ∷ late))))

          its_m : IsWell m (v.member m)
          its_m = f.are.members m in_m

          its_c : IsWell c (v.member c)
          its_c = f.are.members c in_c

          -- the other one is in no lower term then
          its_term : other.raft_server.store.term ≤ its_m.server.raft_server.store.term
          its_term = from_there ids rows (g.below.wins.rise ids rows) group clocks pace start calm.running front early timed calm_upto m in_m f.front (f.one ∷ later) early_is
              other its_m.server up its_m.up.status

          calls : OffersCall c m v f.one.row
          calls = winner_calls laws grounds.stay group clocks pace c m (λ e. apart (sym e)) f.traffic v f.one f.calm its_c
              (listed_at f.front (f.one ∷ later) early_is its_c.server its_c.up.status) (f.leads_not its_c.server its_c.up.status) f.u f.runs_then f.leads

          nobody_then : NobodyStandsIn group (after_row v f.one.row) later
          nobody_then = (nobody_rest group f.front (f.one ∷ later) then_w (subst (NobodyStandsIn group then_w) early_is nobody)).1

          long_then : f.one.at + 4 * pace.delay < next.at
          long_then = let a = f.soon in let b = by.soon in omega (arith, long, a, b)

          at_the_end : ((after_rows (after_row v f.one.row) (rows_in later)).member c).status ≡ Up server
          at_the_end = ap (λ (k : Cluster). (k.member c).status)
              (sym (ap (λ (l : List Timed). after_rows then_w (rows_in l)) early_is ∙ world_both then_w f.front (f.one ∷ later))) ∙ up_then

          own_term : its_m.server.raft_server.store.term ≤ server.raft_server.store.term
          own_term = subst (λ (k : Cluster). OffersCall c m k f.one.row → (k.member m).status ≡ Up its_m.server → NobodyStandsIn group (after_row k f.one.row) later
              → f.one.at + 4 * pace.delay < next.at → ((after_rows (after_row k f.one.row) (rows_in later)).member c).status ≡ Up server
              → its_m.server.raft_server.store.term ≤ server.raft_server.store.term) v_is
              (λ its_calls its_up its_nobody its_long its_end. callers group clocks pace start c m (front ++ timed ∷ f.front) later late f.one next its_m.server server
              (subst (IsCalmOf ids rows group clocks pace start) whole_is calm) in_c in_m apart its_calls its_up its_nobody its_long its_end)
              calls its_m.up.status nobody_then long_then at_the_end

          learns_then : other.raft_server.store.term ≤ server.raft_server.store.term
          learns_then = let a = its_term in let b = own_term in omega (arith, a, b)

        leader_learns : other.raft_server.store.term ≤ server.raft_server.store.term
        leader_learns = learns_then first

      learns_of : other.raft_server.store.term ≤ server.raft_server.store.term
      learns_of = elim asked [ inl low ↦ low | inr by ↦ leader_learns by ]

    -- its own term does not fall
    own : c ≡ m → other.raft_server.store.term ≤ server.raft_server.store.term
    own same = g.below.wins.rise ids rows group clocks pace start c front (timed ∷ early) (next ∷ late) other server calm.running calm.calm in_c
        (ap (λ (p : ℕ). (there.member p).status) same ∙ up)
        (ap (λ (v : Cluster). (v.member c).status) (world_both w front (timed ∷ early)) ∙ up_then)

    pub stander_learns : other.raft_server.store.term ≤ server.raft_server.store.term
    stander_learns = elim (eqb_tells c m) [ inl z ↦ own z.1 | inr z ↦ learns_of z.1 ]
