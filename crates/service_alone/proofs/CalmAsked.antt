-- A request waits in the device's queue, and goes out.
use Rattle.std.proofs.Common.{◌≡◌, ℕ, ◌+◌, ◌*◌, ◌<◌, ◌≤◌, List, [], ◌∷◌, ◌++◌, length, length-append, inl, inr, refl, sym, ◌∙◌, ap, subst, arith, Option, None, Some}
use Rattle.can_frame.specs.declared.entry.Entry.{Entry}
use Rattle.bus_rows.specs.declared.row.Row.{Row}
use Rattle.bus_rows.specs.declared.row.Row.TheVariants.{ASend}
use Rattle.transfer_tx.specs.Queue.{Queued}
use Rattle.service_alone.specs.Calm.{Clocks, IsCalmRow, IsInTime, OnItsWay, Pace, Traffic, queue_at, traffic_after, waits_after}
use Rattle.service_alone.proofs.CalmDevice.{device_as}
use Rattle.service_alone.proofs.CalmSide.{Carry, carry_more}
use Rattle.service_alone.proofs.CalmStages.{by_rows, common_kept}
use Rattle.service_alone.proofs.Sending.{first_out, others_left}
use Rattle.service_alone.proofs.Asking.{its_own}
use Rattle.service_alone.proofs.Taking.{frame_is}
use Rattle.bus_spec.specs.Allocatees.{after_sending_from, next_from}
use Rattle.bus_spec.specs.Cluster.{Cluster, after_row, frame_at, in_list}
use Rattle.service_alone.proofs.CalmGiving.{Gives as GivesPair}
use Rattle.service_alone.proofs.CalmPending.{Pends, pends}
use Rattle.service_alone.proofs.CalmPhases.{CalmLaws, HasAsked, Next, CommonOf, key, nothing_next}

module _ (laws : CalmLaws) (n a : ℕ) (low : 1 ≤ n) (high : n ≤ 125) (uid : List ℕ) (preferred : ℕ) (few : preferred < 128) (log : List Entry) (Fits : ℕ → List Entry → Type 0)
    (place : GivesPair Fits n log uid preferred) (start : ℕ) (clocks : Clocks) (pace : Pace) (quick : pace.period + 4 * pace.delay ≤ 100) where
  module _ (j : ℕ) (two : j ≤ 2) (traffic : Traffic) (w : Cluster) (p : HasAsked laws n a low high uid preferred few log Fits place start clocks pace quick j traffic w) (at : ℕ) (in_time : IsInTime n a clocks pace traffic w at) where
    abbrev Goal : Row → Type 0
    Goal row = Next laws n a low high uid preferred few log Fits place start clocks pace quick traffic w (record { at = at; row = row })

    waits_here : queue_at (w.allocatee a) ≡ p.frame ∷ []
    waits_here = ap queue_at p.there

    by : at ≤ p.due + pace.period + pace.delay
    by = let t = in_time.device_sends (λ e. let l = ap length (sym waits_here ∙ e) in absurd (omega (arith, l))) in let v = p.waits in omega (arith, t, v)

    -- it is over in time
    pub end : at ≤ start + 2100
    end = let b = by in let s = p.common.soon in omega (arith, b, s, quick)

    later : traffic.at ≤ at
    later = in_time.moments

    read_on : p.moment ≤ at + clocks.device
    read_on = let r = p.read in let l = later in omega (arith, r, l)

    abbrev Common_ : Row → Type 0
    Common_ row = CommonOf laws n a low high uid preferred few log Fits place start clocks pace quick j p.due p.sessions (traffic_after n a traffic w (record { at = at; row = row })) (after_row w row)

    still : (row : Row) → Common_ row → (moment : ℕ)
        → (after_row w row).allocatee a ≡ Some (device_as uid preferred (p.frame ∷ []) p.id moment p.request None p.sessions)
        → moment ≤ at + clocks.device → (traffic_after n a traffic w (record { at = at; row = row })).to_allocator ≡ [] → Goal row
    still row common moment there read nothing = inl (
      j,
      two,
      inr (inl (record {
        due = p.due;
        sessions = p.sessions;
        common = common;
        id = p.id;
        moment = moment;
        request = p.request;
        frame = p.frame;
        there = there;
        small = p.small;
        read = read;
        nothing = nothing;
        quiet = p.quiet;
        asks = p.asks;
        first_one = p.first_one;
        waits = let e : (traffic_after n a traffic w (record { at = at; row = row })).device_waits ≡ traffic.device_waits
            = (λ i. waits_after at traffic.device_waits (waits_here i) (queue_at (there i))) in let v = p.waits in omega (arith, e, v);
        from = let f = p.from in let l = later in omega (arith, f, l);
      })),
    )

    pending : Pends laws n a low high uid preferred few log Fits place start clocks pace quick j p.due p.sessions traffic w p.common (p.frame ∷ []) p.id p.moment p.request p.there p.read at later end
        (let b = by in let q = p.quiet.0 in omega (arith, b, q, quick)) p.quiet.1 Goal
    pending = pends laws n a low high uid preferred few log Fits place start clocks pace quick j p.due p.sessions traffic w p.common (p.frame ∷ []) p.id p.moment p.request p.there p.read at later end
        (let b = by in let q = p.quiet.0 in omega (arith, b, q, quick)) p.quiet.1 Goal (λ row common moment there read same frames. still row common moment there read (same ∙ p.nothing))

    out : next_from (w.allocatee a) ≡ Some p.frame
    out = ap next_from p.there ∙ first_out p.frame.id p.frame [] (refl, tt)

    frames_then : (after_row w (ASend a)).frames ≡ w.frames ++ p.frame ∷ []
    frames_then = ap (λ (o : Option Queued). w.frames ++ in_list o) out

    there_then : (after_row w (ASend a)).allocatee a ≡ Some (device_as uid preferred [] p.id p.moment p.request None p.sessions)
    there_then = its_own w a (after_sending_from (w.allocatee a))
        ∙ (ap after_sending_from p.there
        ∙ ap (λ (q : List Queued). Some (device_as uid preferred q p.id p.moment p.request None p.sessions)) (others_left p.frame.id p.frame [] (refl, tt)))

    on_out : Goal (ASend a)
    on_out = inl (
      j,
      two,
      inr (inr (inl (record {
        due = p.due;
        sessions = p.sessions;
        common = common_kept n a high uid place.whole preferred log start clocks pace (key laws n a low high uid preferred few log Fits place start clocks pace quick) j p.due p.sessions traffic w p.common at later (ASend a) refl
            (subst (λ (l : List Queued). Carry l traffic.to_device p.common.flying) (sym frames_then)
            (carry_more w.frames traffic.to_device p.common.flying p.frame p.common.side.carry));
        id = p.id;
        moment = p.moment;
        request = p.request;
        frame = p.frame;
        there = there_then;
        small = p.small;
        read = read_on;
        way = record { number = length w.frames + 1; since = at };
        way_is = ap (λ (l : List OnItsWay). l ++ (record { number = length w.frames + 1; since = at }) ∷ []) p.nothing;
        number = (omega arith, omega (arith, ap length frames_then, length-append w.frames (p.frame ∷ [])));
        frame_is_it = ap (λ (l : List Queued). frame_at l (length w.frames + 1)) frames_then ∙ frame_is w.frames [] p.frame;
        quiet = p.quiet;
        asks = p.asks;
        first_one = p.first_one;
        since = by;
        from = let f = p.from in let l = later in omega (arith, f, l);
      }))),
    )

    -- each row leaves a phase
    pub asking_goes_on : (row : Row) → IsCalmRow n a clocks pace traffic w at row → Goal row
    asking_goes_on row calm = by_rows n a clocks pace traffic w at Goal pending.tick (λ k is. absurd (nothing_next laws n a low high uid preferred few log Fits place start clocks pace quick k traffic.to_allocator p.nothing is)) pending.send pending.read pending.frame
        (λ some. on_out) row calm
