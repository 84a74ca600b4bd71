-- The calm rows of an exchange are lawful.
use Rattle.std.proofs.Common.{◌≡◌, ℕ, ◌+◌, ◌*◌, ◌<◌, ◌≤◌, true, List, [], ◌∷◌, length, inl, inr, refl, ◌∙◌, ap, subst, arith, Option, None, Some}
use Rattle.std.specs.Prelude.{is_some, not}
use Rattle.can_frame.specs.declared.entry.Entry.{Entry}
use Rattle.can_frame.specs.declared.step.Judged.TheVariants.{Fine}
use Rattle.can_frame.specs.declared.step.Why.TheVariants.{NotWanted}
use Rattle.bus_rows.specs.declared.row.Row.{Row}
use Rattle.bus_rows.specs.declared.row.Row.TheVariants.{AEnd, AOpen, ARx, ASend, ATick, Crash, Ext, Fault, Open, Rx, Send, Tick}
use Rattle.transfer_rx.specs.Run.{run}
use Rattle.transfer_rx.specs.Sessions.{Session}
use Rattle.transfer_tx.specs.Queue.{Queued}
use Rattle.allocatee.specs.Accepted.{setting}
use Rattle.allocatee.specs.Allocatee.{Device}
use Rattle.allocatee.specs.Judging.{arrival_judgement}
use Rattle.allocatee.specs.declared.timer.FollowUp.{FollowUp}
use Rattle.allocatee.specs.declared.timer.Timer.{Timer}
use Rattle.alloc_spec.specs.AllocatorState.{AllocatorState}
use Rattle.service_alone.specs.Calm.{Clocks, IsCalmRow, IsInTime, IsNext, Pace, Traffic}
use Rattle.service_alone.proofs.Answering.{is_fine}
use Rattle.service_alone.proofs.CalmAnswering.{gets_at, may_come}
use Rattle.service_alone.proofs.CalmDevice.{device_as, ignored_fine, judged_as}
use Rattle.service_alone.proofs.CalmGiving.{Gives as GivesPair}
use Rattle.service_alone.proofs.CalmHearing.{coming}
use Rattle.service_alone.proofs.CalmPhases.{CalmLaws, CommonOf, HasAsked, IsAnswering, IsOnBus, IsWaiting, Phase, its_request, key, nothing_next, status_of_kind, unwanted}
use Rattle.service_alone.proofs.CalmStages.{by_rows, common_gets, request_of}
use Rattle.service_alone.proofs.Members.{IsUp}
use Rattle.service_alone.proofs.Scenes.{it_is}
use Rattle.service_alone.proofs.Taking.{is_there}
use Rattle.bus_spec.specs.declared.unlawful.Unlawful.TheVariants.{Absent, NoAllocatee, NoFrame, NoNode, Stopped}
use Rattle.bus_spec.specs.Allocatees.{is_place, next_from}
use Rattle.bus_spec.specs.Cluster.{Cluster, after_row, arrival_at, frame_at}
use Rattle.bus_spec.specs.Lawful.{arrival_refusal, arrival_refusal_at, because, cause, cause_of_judgement, no_such_frame, nothing_to_send, or_else}
use Rattle.bus_spec.specs.Members.{is_running, next_frame}

-- no row changes who the members are
pub ids_kept : (w : Cluster) (row : Row) → (after_row w row).ids ≡ w.ids
ids_kept w (Open m told ms word) = refl
ids_kept w (Tick m ms word) = refl
ids_kept w (Rx m k ms) = refl
ids_kept w (Send m) = refl
ids_kept w (Ext frame) = refl
ids_kept w (Crash m calls pattern) = refl
ids_kept w (Fault m call) = refl
ids_kept w (AOpen b u pref ms word) = refl
ids_kept w (ATick b ms word) = refl
ids_kept w (ARx b k ms word) = refl
ids_kept w (ASend b) = refl
ids_kept w (AEnd b) = refl

pub can_go : (o : Option Queued) → is_some o ≡ true → nothing_to_send o ≡ None
can_go None some = absurd (cc (some))
can_go (Some frame) some = refl

is_on_bus : (w : Cluster) (k : ℕ) → (1 ≤ k) × (k ≤ length w.frames) → no_such_frame w k ≡ None
is_on_bus w k inside = ap (because NoFrame) (is_there k (length w.frames) inside.0 inside.1)

-- ---- where the allocator runs, and the device is there

module _ (n a : ℕ) (at_place : is_place a ≡ true) (w : Cluster) (ids : w.ids ≡ n ∷ []) (t : AllocatorState) (up : IsUp t (w.member n))
    (d : Device) (there : w.allocatee a ≡ Some d) where
  tick_lawful : (ms word : ℕ) → cause w (Tick n ms word) ≡ None
  tick_lawful ms word = λ i. or_else (because NoNode (not (it_is n a w ids i))) (because Stopped (not (is_running (up.status i))))

  send_lawful : is_some (next_frame (w.member n).status) ≡ true → cause w (Send n) ≡ None
  send_lawful some = λ i. or_else (because NoNode (not (it_is n a w ids i))) (or_else (because Stopped (not (is_running (up.status i))))
      (can_go (next_frame (w.member n).status) some i))

  read_lawful : (ms word : ℕ) → cause w (ATick a ms word) ≡ None
  read_lawful ms word = λ i. or_else (because NoAllocatee (not (at_place i))) (because Absent (not (is_some (there i))))

  out_lawful : is_some (next_from (w.allocatee a)) ≡ true → cause w (ASend a) ≡ None
  out_lawful some = λ i. or_else (because NoAllocatee (not (at_place i))) (or_else (because Absent (not (is_some (there i))))
      (can_go (next_from (w.allocatee a)) some i))

  get_lawful : (k ms word : ℕ) (f : Queued) → (1 ≤ k) × (k ≤ length w.frames) → frame_at w.frames k ≡ f → arrival_judgement d (coming f ms) ≡ Fine
      → cause w (ARx a k ms word) ≡ None
  get_lawful k ms word f inside is fine = λ i. or_else (because NoAllocatee (not (at_place i))) (or_else (because Absent (not (is_some (there i))))
      (or_else (is_on_bus w k inside i) (refuses_not i)))
    where
      refuses_not : arrival_refusal_at (w.allocatee a) (arrival_at (frame_at w.frames k) ms) ≡ None
      refuses_not = (λ i. arrival_refusal_at (there i) (arrival_at (is i) ms)) ∙ ap cause_of_judgement fine

module _ (laws : CalmLaws) (n a : ℕ) (low : 1 ≤ n) (high : n ≤ 125) (uid : List ℕ) (preferred : ℕ) (few : preferred < 128) (log : List Entry) (Fits : ℕ → List Entry → Type 0)
    (place : GivesPair Fits n log uid preferred) (start : ℕ) (clocks : Clocks) (pace : Pace) (quick : pace.period + 4 * pace.delay ≤ 100) where
  module _ (at_place : is_place a ≡ true) (traffic : Traffic) (w : Cluster) (ids : w.ids ≡ n ∷ []) (at : ℕ) (in_time : IsInTime n a clocks pace traffic w at) where
    -- a NodeStatus may come to the device
    status_lawful : (j due : ℕ) (sessions : List Session) (c : CommonOf laws n a low high uid preferred few log Fits place start clocks pace quick j due sessions traffic w) (queue : List Queued) (id moment : ℕ) (request : Timer)
        (follow_up : Option FollowUp) → w.allocatee a ≡ Some (device_as uid preferred queue id moment request follow_up sessions) → moment ≤ traffic.at + clocks.device
        → (k word : ℕ) → IsNext k traffic.to_device → cause w (ARx a k (at + clocks.device) word) ≡ None
    status_lawful j due sessions c queue id moment request follow_up there read k word is =
        let g = common_gets n a high uid place.whole preferred log start clocks pace (key laws n a low high uid preferred few log Fits place start clocks pace quick) j due sessions traffic w c at in_time.moments k word is in
        let later : moment ≤ at + clocks.device = (let m = in_time.moments in omega (arith, read, m)) in
        get_lawful n a at_place w ids c.server c.side.up (device_as uid preferred queue id moment request follow_up sessions) there k (at + clocks.device) word g.0.frame g.0.number g.0.frame_is_it
        (judged_as uid preferred queue id moment request follow_up sessions (w.rows + 1) word (coming g.0.frame (at + clocks.device)) later
        (ignored_fine uid preferred queue id moment request follow_up sessions (w.rows + 1) word (coming g.0.frame (at + clocks.device)) later NotWanted
        (unwanted laws n a low high uid preferred few log Fits place start clocks pace quick g.0.frame (status_of_kind laws n a low high uid preferred few log Fits place start clocks pace quick g.0.frame g.0.kind g.1))))

    waiting : (j : ℕ) → IsWaiting laws n a low high uid preferred few log Fits place start clocks pace quick j traffic w → (row : Row) → IsCalmRow n a clocks pace traffic w at row → cause w row ≡ None
    waiting j p row calm =
        let d = device_as uid preferred [] p.id p.moment p.request p.follow_up p.sessions in
        let c = p.common in
        by_rows n a clocks pace traffic w at (λ r. cause w r ≡ None)
        (λ word. tick_lawful n a at_place w ids c.server c.side.up d p.there (at + clocks.allocator) word)
        (λ k is. absurd (nothing_next laws n a low high uid preferred few log Fits place start clocks pace quick k traffic.to_allocator p.nothing is))
        (λ some. send_lawful n a at_place w ids c.server c.side.up d p.there some)
        (λ word. read_lawful n a at_place w ids c.server c.side.up d p.there (at + clocks.device) word)
        (λ k word is. status_lawful j p.due p.sessions c [] p.id p.moment p.request p.follow_up p.there p.read k word is)
        (λ some. out_lawful n a at_place w ids c.server c.side.up d p.there some) row calm

    asking : (j : ℕ) → HasAsked laws n a low high uid preferred few log Fits place start clocks pace quick j traffic w → (row : Row) → IsCalmRow n a clocks pace traffic w at row → cause w row ≡ None
    asking j p row calm =
        let d = device_as uid preferred (p.frame ∷ []) p.id p.moment p.request None p.sessions in
        let c = p.common in
        by_rows n a clocks pace traffic w at (λ r. cause w r ≡ None)
        (λ word. tick_lawful n a at_place w ids c.server c.side.up d p.there (at + clocks.allocator) word)
        (λ k is. absurd (nothing_next laws n a low high uid preferred few log Fits place start clocks pace quick k traffic.to_allocator p.nothing is))
        (λ some. send_lawful n a at_place w ids c.server c.side.up d p.there some)
        (λ word. read_lawful n a at_place w ids c.server c.side.up d p.there (at + clocks.device) word)
        (λ k word is. status_lawful j p.due p.sessions c (p.frame ∷ []) p.id p.moment p.request None p.there p.read k word is)
        (λ some. out_lawful n a at_place w ids c.server c.side.up d p.there some) row calm

    on_bus : (j : ℕ) → IsOnBus laws n a low high uid preferred few log Fits place start clocks pace quick j traffic w → (row : Row) → IsCalmRow n a clocks pace traffic w at row → cause w row ≡ None
    on_bus j p row calm =
        let d = device_as uid preferred [] p.id p.moment p.request None p.sessions in
        let c = p.common in
        by_rows n a clocks pace traffic w at (λ r. cause w r ≡ None)
        (λ word. tick_lawful n a at_place w ids c.server c.side.up d p.there (at + clocks.allocator) word)
        comes
        (λ some. send_lawful n a at_place w ids c.server c.side.up d p.there some)
        (λ word. read_lawful n a at_place w ids c.server c.side.up d p.there (at + clocks.device) word)
        (λ k word is. status_lawful j p.due p.sessions c [] p.id p.moment p.request None p.there p.read k word is)
        (λ some. out_lawful n a at_place w ids c.server c.side.up d p.there some) row calm
      where
        comes : (k : ℕ) → IsNext k traffic.to_allocator → cause w (Rx n k (at + clocks.allocator)) ≡ None
        comes k is = λ i. or_else (because NoNode (not (it_is n a w ids i))) (or_else (because Stopped (not (is_running (p.common.side.up.status i))))
            (or_else (is_on_bus w k inside i) (refuses_not i)))
          where
            number : k ≡ p.way.number
            number = subst (IsNext k) p.way_is is

            inside : (1 ≤ k) × (k ≤ length w.frames)
            inside = let v = p.number in (omega (arith, number, v.0), omega (arith, number, v.1))

            refuses_not : arrival_refusal (w.member n).status (arrival_at (frame_at w.frames k) (at + clocks.allocator)) ≡ None
            refuses_not = (λ i. arrival_refusal (p.common.side.up.status i) (arrival_at ((ap (λ (m : ℕ). frame_at w.frames m) number ∙ p.frame_is_it) i) (at + clocks.allocator)))
                ∙ ap cause_of_judgement (is_fine p.common.server p.frame (request_of uid place.whole preferred j) (at + clocks.allocator)
                (let k_ = p.common.side.clock in let l = in_time.moments in omega (arith, k_, l))
                (record { request = its_request laws n a low high uid preferred few log Fits place start clocks pace quick p.frame (request_of uid place.whole preferred j) (at + clocks.allocator) p.asks; place = p.first_one }))

    answering : (j : ℕ) (two : j ≤ 2) → IsAnswering laws n a low high uid preferred few log Fits place start clocks pace quick j traffic w → (row : Row) → IsCalmRow n a clocks pace traffic w at row → cause w row ≡ None
    answering j two p row calm =
        let d = device_as uid preferred [] p.id p.moment p.request None (run setting p.before p.heard) in
        by_rows n a clocks pace traffic w at (λ r. cause w r ≡ None)
        (λ word. tick_lawful n a at_place w ids p.server p.side.up d p.there (at + clocks.allocator) word)
        (λ k is. absurd (nothing_next laws n a low high uid preferred few log Fits place start clocks pace quick k traffic.to_allocator p.nothing is))
        (λ some. send_lawful n a at_place w ids p.server p.side.up d p.there some)
        (λ word. read_lawful n a at_place w ids p.server p.side.up d p.there (at + clocks.device) word)
        (λ k word is.
        let g = gets_at laws n a low high uid preferred few log Fits place start clocks pace quick j two traffic w p at in_time k word is in
        get_lawful n a at_place w ids p.server p.side.up d p.there k (at + clocks.device) word g.frame g.number g.frame_is_it
        (may_come laws n a low high uid preferred few log Fits place start clocks pace quick j two traffic w p at in_time k word g))
        (λ some. out_lawful n a at_place w ids p.server p.side.up d p.there some) row calm

    -- each calm row in a phase is lawful
    pub is_lawful : Phase laws n a low high uid preferred few log Fits place start clocks pace quick traffic w → (row : Row) → IsCalmRow n a clocks pace traffic w at row → cause w row ≡ None
    is_lawful (j, two, inl p) row calm = waiting j p row calm
    is_lawful (j, two, inr (inl p)) row calm = asking j p row calm
    is_lawful (j, two, inr (inr (inl p))) row calm = on_bus j p row calm
    is_lawful (j, two, inr (inr (inr p))) row calm = answering j two p row calm
