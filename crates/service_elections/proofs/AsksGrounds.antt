-- The laws that stand are what the proofs of who asks, and of who wins, ask for.
use Rattle.std.proofs.Common.{◌≡◌, ◌≢◌, ℕ, ◌+◌, ◌*◌, ◌<◌, ◌≤◌, arith, List, [], ◌∷◌, ◌++◌, max, inl, inr, refl, sym, ◌∙◌, subst}
use Rattle.std.specs.Prelude.{⊤}
use Rattle.std.proofs.lemmas.Bool.Decides.{eqb_tells}
use Rattle.std.proofs.lemmas.List.{append_assoc}
use Rattle.can_frame.specs.declared.identifier.Kind.TheVariants.{Response}
use Rattle.raft_model.specs.Lists.{In}
use Rattle.raft_model.specs.Server.Role.{Leader}
use Rattle.bus_rows.specs.declared.row.Row.{Row}
use Rattle.bus_rows.specs.declared.row.Row.TheVariants.{Rx}
use Rattle.transfer_rx.specs.Reassembly.{Delivery, Gives, answer}
use Rattle.alloc_spec.specs.Accepted.{setting_for}
use Rattle.alloc_spec.specs.AllocatorState.{AllocatorState}
use Rattle.bus_rows.specs.Timed.{Timed, rows_in}
use Rattle.service_alone.specs.Calm.{Pace}
use Rattle.service_alone.proofs.Members.{IsQuiet}
use Rattle.service_candidate.specs.Votes.{CanAsk, Stands, VoteComes}
use Rattle.service_candidate.specs.Wins.{OffersVoteRequest}
use Rattle.service_leader.proofs.Exchange.{AllGiven, Exchange}
use Rattle.service_leader.proofs.ExchangeStart.{Fresh, all_given}
use Rattle.service_leader.proofs.ExchangeUnder.{AreAsked, Under, at_first as under_first, comes_behind, reach}
use Rattle.service_candidate.proofs.ResponsesDelivered.{IsWhole, is_whole}
use Rattle.service_candidate.proofs.VotesAsked.{fresh, no_vote, voting}
use Rattle.service_candidate.proofs.WinsGrounds.{all_row_laws, rows_join}
use Rattle.service_candidate.proofs.WinsScene.{RowLaws}
use Rattle.service_leader.specs.CallsComeBack.{LeadsNotIfUp}
use Rattle.service_leader.proofs.Stretches.{harmless_both, world_both}
use Rattle.service_elections.specs.RoundsBelow.{RoundGrounds}
use Rattle.service_elections.specs.Running.{IsCalmOf, quiet_within}
use Rattle.service_elections.specs.Sent.{HasAsked}
use Rattle.service_leader.proofs.LeadsOnWays.{IsCalmOn, calm_on}
use Rattle.service_elections.proofs.AsksFrames.{from_group}
use Rattle.service_elections.proofs.AsksKept.{past_in}
use Rattle.service_elections.proofs.AsksLaw.{asks_not_itself, stands_then}
use Rattle.service_elections.proofs.AsksScene.{Asker, here, laws_at, listed, the_calm}
use Rattle.service_elections.proofs.AsksWon.{IsAskedAt, IsWon, has_asked, is_won, vote_comes}
use Rattle.service_elections.proofs.CalmFronts.{harm_front, harm_row, runs_at}
use Rattle.service_calm.specs.Calm.{Member as OfMember, Party, no_traffic}
use Rattle.service_calm.specs.CalmBelow.{CalmGrounds}
use Rattle.service_calm.proofs.Group.{AreWell, CalmLaws, IsServer}
use Rattle.service_calm.proofs.Grounds.{calm_laws, choice, is_server, its_run, listed_in, made, shown, well}
use Rattle.alloc_spec.specs.ClusterMembers.{AreMembers}
use Rattle.bus_spec.specs.Cluster.{Cluster, after_row, after_rows, arrival_at, cluster, frame_at, world_of}
use Rattle.bus_spec.specs.Lawful.{DoNoHarm, DoesNoHarm}
use Rattle.bus_spec.specs.Members.MemberStatus.{Up}

-- a calm and a member of its group, with the laws below
abbrev pub asker : (below : RoundGrounds) (ids : List ℕ) (members : AreMembers ids) (rows : List Row) (harmless : DoNoHarm (cluster ids) rows) (group : List Party) (clocks : Party → ℕ)
    (pace : Pace) (start : ℕ) (whole : List Timed) (calm : IsCalmOf ids rows group clocks pace start whole) (n : ℕ) → In (OfMember n) group → Asker
asker below ids members rows harmless group clocks pace start whole calm n member = record {
  ids = ids;
  rows = rows;
  row_laws = λ more fine. subst (RowLaws ids) (rows_join (cluster ids) rows more) (all_row_laws below.wins ids members (rows ++ more) (harmless_both (cluster ids) rows more harmless fine));
  listing = below.wins.election.calm.more.list;
  stay = below.wins.stay;
  group = group;
  clocks = clocks;
  pace = pace;
  start = start;
  whole = whole;
  calm = calm;
  n = n;
  member = member;
}

module _ (below : RoundGrounds) (ids : List ℕ) (members : AreMembers ids) (rows : List Row) (harmless : DoNoHarm (cluster ids) rows) (group : List Party) (clocks : Party → ℕ)
    (pace : Pace) (start n : ℕ) (front rest : List Timed) (timed : Timed) (calm : IsCalmOf ids rows group clocks pace start (front ++ timed ∷ rest)) (member : In (OfMember n) group) where
  abbrev s : Asker
  s = asker below ids members rows harmless group clocks pace start (front ++ timed ∷ rest) calm n member

  -- ---- who asks stands

  pub who_stands : (m : ℕ) → In (OfMember m) group → start + quiet_within pace < timed.at
      → OffersVoteRequest n m (after_rows (world_of ids rows) (rows_in front)) timed.row → (term : ℕ) × Stands n term (after_rows (world_of ids rows) (rows_in front)) timed.row
  who_stands m in_m late asks = elim (eqb_tells n m) [
    | inl z ↦ absurd (asks_not_itself s front rest timed refl
        (subst (λ (k : ℕ). OffersVoteRequest n k (after_rows (world_of ids rows) (rows_in front)) timed.row) (sym z.1) asks))
    | inr z ↦ stands_then s m in_m z.1 (let high = (members.nodes m (calm.listed m in_m)).1 in omega (arith, high)) below.no_call_is_old
        (λ t up. past_in ids rows n t up m) (below.come_back ids rows members harmless) front rest timed refl late asks
  ]

  -- ---- who wins has asked

  abbrev grounds : CalmGrounds
  grounds = below.wins.election.calm

  abbrev laws : CalmLaws
  laws = calm_laws grounds

  -- ---- a response is one transfer, whole

  module _ (list : List Row) (fine : DoNoHarm (cluster ids) list) where
    abbrev IsWholeIn : Cluster → Type 0
    IsWholeIn v = (k ms : ℕ) (t : AllocatorState) → (v.member n).status ≡ Up t → DoesNoHarm v (Rx n k ms) → (d : Delivery)
        → answer (setting_for t.me) t.sessions (arrival_at (frame_at v.frames k) (max t.now ms)) ≡ Gives d → d.ident.kind ≡ Response → In d.ident.source ids → IsWhole d

    whole_in : IsWholeIn (world_of ids list)
    whole_in k ms t up harm d gives kind from =
        let its_choice = choice grounds ids members list fine in
        let its_made = made grounds ids members list fine in
        let run = its_run grounds ids members list fine in
        let shows = (shown grounds ids members list fine).shows in
        let all = subst AreMembers (sym (grounds.same (cluster ids) list)) members in
        is_whole grounds.frame its_choice its_made (world_of ids list) run all shows (grounds.one_transfer its_choice its_made (world_of ids list) run all shows) n k ms t up harm d gives kind
        (listed_in grounds ids list d.ident.source from)

  whole_at : IsWholeIn rows harmless (here s front)
  whole_at = subst (IsWholeIn rows harmless) (rows_join (cluster ids) rows (rows_in front))
      (whole_in (rows ++ rows_in front) (harmless_both (cluster ids) rows (rows_in front) harmless (harm_front (the_calm s) front (timed ∷ rest) refl)))

  -- ---- where the calm begins

  abbrev v : Cluster
  v = world_of ids rows

  nodes : (p : ℕ) → In (OfMember p) group → (1 ≤ p) × (p ≤ 125)
  nodes p i = members.nodes p (calm.listed p i)

  its_server : (p : ℕ) → In (OfMember p) group → (t : AllocatorState) → (v.member p).status ≡ Up t → IsServer p t
  its_server p i t = is_server grounds ids members rows harmless p t (calm.listed p i)

  are : AreWell group v
  are = well grounds ids members rows harmless group calm.listed calm.running

  flies : IsCalmOn group clocks pace (here s front) (timed ∷ rest)
  flies = calm_on group laws nodes clocks pace front (timed ∷ rest) v
      (record { traffic = no_traffic start; calm = calm.calm; are = are; flies = λ party. refl })

  -- ---- the member from which the vote comes

  module _ (m : ℕ) (in_m : In (OfMember m) group) (apart : n ≢ m) where
    can : CanAsk n m v (front ++ timed ∷ rest)
    can = calm.ask n m member in_m apart

    quick : 2 * pace.delay ≤ 2000
    quick = let fast = calm.quick in omega (arith, fast)

    quiet_n : IsQuiet (v.member n).disk
    quiet_n = record { faults = (calm.running n member).faults; calls = (calm.running n member).disk }

    quiet_m : IsQuiet (v.member m).disk
    quiet_m = record { faults = (calm.running m in_m).faults; calls = (calm.running m in_m).disk }

    abbrev two : Exchange
    two = voting laws grounds.apart grounds.stay below.votes_answered (λ x. ⊤) group clocks pace nodes n m member in_m apart quick v (front ++ timed ∷ rest) can

    given : AllGiven two v (front ++ timed ∷ rest)
    given = all_given two ids (λ done h row offer. below.requests_read ids done members h n row offer) (λ done h row offer harm runs it what. tt) grounds.grows grounds.no_harm
        (front ++ timed ∷ rest) rows (no_traffic start) v refl harmless are calm.calm calm.harmless can.memory can.its_memory can.place

    at_first : Fresh two start v (front ++ timed ∷ rest)
    at_first = fresh laws grounds.apart grounds.stay below.votes_answered (λ x. ⊤) group clocks pace nodes n m member in_m apart quick v (front ++ timed ∷ rest) can start
        (its_server n member) (its_server m in_m) quiet_n quiet_m calm.calm are given

    module _ (t u : AllocatorState) (up : ((here s front).member n).status ≡ Up t) (up_then : ((after_row (here s front) timed.row).member n).status ≡ Up u)
        (not_before : t.raft_server.memory.role ≢ Leader) (leads : u.raft_server.memory.role ≡ Leader) where
      abbrev Asked : ℕ → Type 0
      Asked = IsAskedAt s front rest timed refl t u up up_then not_before leads m in_m (λ e. apart (sym e)) (is_won s front rest timed refl t u up up_then not_before leads)

      -- each request of the rows before is one
      all_asked : (done more : List Timed) → front ≡ done ++ more → AreAsked two Asked (here s done) more
      all_asked done [] e = tt
      all_asked done (x ∷ more) e = (
        λ offer sends what to. record {
          first = done;
          timed = x;
          more = more;
          split = e;
          its = refl;
          asks = record {
            server = sends.server;
            runs = sends.runs;
            event = sends.event;
            in_step = sends.in_step;
            offer = offer;
            offered = sends.offered;
            what = what;
            to = to;
          };
        },
        subst (λ (q : Cluster). AreAsked two Asked q more) (world_both v done (x ∷ []))
            (all_asked (done ++ x ∷ []) more (e ∙ sym (append_assoc done (x ∷ []) more))),
      )

      under : Under two Asked (here s front) (timed ∷ rest)
      under = reach two Asked front (timed ∷ rest) v (under_first two Asked start v (front ++ timed ∷ rest) at_first) (all_asked [] front refl)

      -- a vote that comes from it was asked for
      asked_for : (id : ℕ) → VoteComes n m id (here s front) timed.row → HasAsked group n u.raft_server.store.term timed.at (4 * pace.delay) (world_of ids rows) front
      asked_for id comes = elim (comes_behind two Asked (here s front) timed rest under) [
        | inl silent ↦ absurd (no_vote two refl (here s front) timed.row silent id comes)
        | inr found ↦ has_asked s front rest timed refl t u up up_then not_before leads m in_m (λ e. apart (sym e))
            (is_won s front rest timed refl t u up up_then not_before leads) found.0 found.1 found.2
      ]

  -- the row does no harm
  harm_here : (k ms : ℕ) → timed.row ≡ Rx n k ms → DoesNoHarm (here s front) (Rx n k ms)
  harm_here k ms is = subst (DoesNoHarm (here s front)) is (harm_row (the_calm s) front rest timed refl)

  -- who comes to lead has asked
  pub who_wins : LeadsNotIfUp n (here s front) → (u : AllocatorState) → ((after_row (here s front) timed.row).member n).status ≡ Up u → u.raft_server.memory.role ≡ Leader
      → HasAsked group n u.raft_server.store.term timed.at (4 * pace.delay) (world_of ids rows) front
  who_wins leads_not u up_then leads =
      let runs = runs_at (the_calm s) n member front (timed ∷ rest) refl in
      let t : AllocatorState = runs.server in
      let up = runs.up.status in
      let not_before = leads_not t up in
      let won : IsWon s front rest timed refl t u up up_then not_before leads = is_won s front rest timed refl t u up up_then not_before leads in
      let me : t.me ≡ n = (laws_at s front (timed ∷ rest) refl).me n t (listed s) up in
      let from = from_group laws group nodes clocks pace (here s front) timed rest flies n member won.k won.ms won.comes t me won.brings.delivery won.brings.gives won.brings.kind in
      let whole = whole_at won.k won.ms t up (harm_here won.k won.ms won.comes) won.brings.delivery won.brings.gives won.brings.kind
      (calm.listed won.brings.delivery.ident.source from.0) in
      asked_for won.brings.delivery.ident.source from.0 (λ e. from.1 (sym e)) t u up up_then not_before leads won.brings.delivery.id
      (vote_comes s front rest timed refl t u up up_then not_before leads won whole)
