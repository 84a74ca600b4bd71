-- Where a calm begins, in which a member asks another one: nothing is under way; and what is given of each row.
use Rattle.std.proofs.Common.{◌≡◌, ℕ, arith, List, [], ◌∷◌, ◌++◌, refl, sym, ◌∙◌, ap, subst}
use Rattle.raft_model.specs.Lists.{In}
use Rattle.bus_rows.specs.declared.row.Row.{Row}
use Rattle.transfer_rx.specs.Keys.{key_of}
use Rattle.transfer_tx.specs.Queue.{Queued}
use Rattle.alloc_spec.specs.AllocatorState.{AllocatorState}
use Rattle.alloc_spec.specs.Transfers.{Offer, id_of, ident_of}
use Rattle.service_leader.proofs.Exchange.{AllGiven, Exchange}
use Rattle.service_leader.proofs.ExchangeAnswers.{Answering}
use Rattle.service_leader.proofs.ExchangeAsks.{Asking, none_repeats}
use Rattle.service_leader.specs.CallsComeBack.{HasPlace}
use Rattle.service_calm.specs.Calls.{Lists}
use Rattle.service_calm.specs.Calm.{AreCalm, IsRunning, Member as OfMember, Traffic, no_traffic, traffic_after}
use Rattle.service_calm.specs.Comes.{AreReady, HasMemory, Sends, Throughout, sent_by}
use Rattle.service_calm.specs.Sessions.{AllAdmit}
use Rattle.service_calm.proofs.Group.{AreWell, IsServer, well_after}
use Rattle.service_calm.proofs.Pair.{AtFirst, Only}
use Rattle.service_calm.proofs.Ways.{Waiting}
use Rattle.bus_rows.specs.Timed.{Timed, rows_in}
use Rattle.service_alone.proofs.Members.{IsQuiet}
use Rattle.bus_spec.specs.Cluster.{Cluster, after_row, after_rows, cluster, world_of}
use Rattle.bus_spec.specs.Lawful.{DoNoHarm, DoesNoHarm}
use Rattle.bus_spec.specs.Members.MemberStatus.{Up}

-- ---- what is given of each row of a calm

module _ (both : Exchange) (ids : List ℕ)
    (read : (done : List Row) → DoNoHarm (cluster ids) done → (row : Row) (offer : Offer) → let w = world_of ids done in DoesNoHarm w row → IsRunning both.n w
    → Sends both.n w row offer → offer.what ≡ both.asks → both.Reads (sent_by both.n w offer))
    (told : (done : List Row) → DoNoHarm (cluster ids) done → (row : Row) (offer : Offer) → let w = world_of ids done in DoesNoHarm w row → IsRunning both.m w
    → Sends both.m w row offer → offer.what ≡ both.answers → both.Told (sent_by both.m w offer))
    (grows : (w : Cluster) (rows : List Row) (row : Row) → after_rows w (rows ++ row ∷ []) ≡ after_row (after_rows w rows) row)
    (no_harm : (w : Cluster) (rows : List Row) (row : Row) → DoNoHarm w rows → DoesNoHarm (after_rows w rows) row → DoNoHarm w (rows ++ row ∷ [])) where
  running : (p : ℕ) → In (OfMember p) both.group → (w : Cluster) → AreWell both.group w → IsRunning p w
  running p i w are = let is = are.members p i in record { server = is.server; runs = is.up.status; faults = is.up.quiet.faults; disk = is.up.quiet.calls }

  -- each request and each answer reads as what it says
  pub all_given : (rows : List Timed) (done : List Row) (traffic : Traffic) (w : Cluster) → w ≡ world_of ids done → DoNoHarm (cluster ids) done → AreWell both.group w
      → AreCalm both.group both.clocks both.pace traffic w rows → DoNoHarm w (rows_in rows) → Throughout (HasMemory both.n) w rows → Throughout (HasMemory both.m) w rows
      → Throughout (HasPlace both.m) w rows → AllGiven both w rows
  all_given [] done traffic w is harmless are calm harm memory_n memory_m place = tt
  all_given (timed ∷ rest) done traffic w is harmless are calm harm memory_n memory_m place = (
    record {
      memory_n = memory_n.0;
      memory_m = memory_m.0;
      place = place.0;
      read = λ offer sends what. subst
          (λ (v : Cluster). DoesNoHarm v timed.row → IsRunning both.n v → Sends both.n v timed.row offer → offer.what ≡ both.asks → both.Reads (sent_by both.n v offer))
          (sym is) (read done harmless timed.row offer) harm.0 (running both.n both.in_n w are) sends what;
      told = λ offer sends what. subst
          (λ (v : Cluster). DoesNoHarm v timed.row → IsRunning both.m v → Sends both.m v timed.row offer → offer.what ≡ both.answers → both.Told (sent_by both.m v offer))
          (sym is) (told done harmless timed.row offer) harm.0 (running both.m both.in_m w are) sends what;
    },
    all_given rest (done ++ timed.row ∷ []) (traffic_after traffic w timed) (after_row w timed.row)
        (ap (λ (v : Cluster). after_row v timed.row) is ∙ sym (grows (cluster ids) done timed.row))
        (no_harm (cluster ids) done timed.row harmless (subst (λ (v : Cluster). DoesNoHarm v timed.row) is harm.0))
        (well_after both.laws both.group both.nodes w are both.clocks both.pace traffic timed.at timed.row calm.1) calm.2 harm.1 memory_n.1 memory_m.1 place.1,
  )

-- ---- where the calm begins

-- What is given of the two when the calm begins, from which these rows are: both are ready, and the first request has a
-- transfer ID under which it may begin, and its answer too.
pub record Fresh (both : Exchange) (start : ℕ) (w : Cluster) (rows : List Timed) : Type 0 where
  pub requests : AreReady both.n both.m both.asks both.m w
  pub replies : AreReady both.m both.n both.answers both.n w
  pub base_m : both.base_m ≡ requests.receiver.now
  pub base_n : both.base_n ≡ replies.receiver.now
  pub admits_m : (id : ℕ) → both.BeginsM id → AllAdmit both.base_m (key_of (ident_of both.n both.asks both.m)) id requests.receiver.sessions
  pub admits_n : (id : ℕ) → both.BeginsN id → AllAdmit both.base_n (key_of (ident_of both.m both.answers both.n)) id replies.receiver.sessions
  pub may : both.BeginsM (id_of requests.sender.ids both.asks both.m)
  pub may_answer : both.BeginsN (id_of requests.sender.ids both.asks both.m)
  pub lists : Lists both.m both.n w
  pub is_n : (t : AllocatorState) → (w.member both.n).status ≡ Up t → IsServer both.n t
  pub is_m : (t : AllocatorState) → (w.member both.m).status ≡ Up t → IsServer both.m t
  pub quiet_n : IsQuiet (w.member both.n).disk
  pub quiet_m : IsQuiet (w.member both.m).disk
  pub calm : AreCalm both.group both.clocks both.pace (no_traffic start) w rows
  pub are : AreWell both.group w
  pub given : AllGiven both w rows

module _ (both : Exchange) (start : ℕ) (w : Cluster) (rows : List Timed) (f : Fresh both start w rows) where
  -- no request is under way
  abbrev pub asking : Asking both (no_traffic start) w (id_of f.requests.sender.ids both.asks both.m)
  asking = record {
    xs = [];
    front = [];
    expected = Only (id_of f.requests.sender.ids both.asks both.m);
    pair = record {
      sender = f.requests.sender;
      sender_up = record { status = f.requests.sends; quiet = f.quiet_n };
      sender_is = f.is_n f.requests.sender f.requests.sends;
      sessions = f.requests.receiver.sessions;
      now = f.requests.receiver.now;
      hears = record {
        server = f.requests.receiver;
        up = record { status = f.requests.receives; quiet = f.quiet_m };
        its = f.is_m f.requests.receiver f.requests.receives;
        has = refl;
        reads = refl;
      };
      flying = [];
      waiting = [];
      pending = refl;
      flies = refl;
      waits = subst (λ (l : List Queued). Waiting start l []) (sym f.requests.none_waits) tt;
      since = omega arith;
      mode = refl;
      stage = λ id small e. f.admits_m id (subst both.BeginsM (sym e) f.may);
      differ = tt;
      ones_are = λ x i. absurd i;
      past = λ x i. absurd i;
      low = let e = f.base_m in omega (arith, e);
      high = let e = f.base_m in omega (arith, e);
    };
    follow = refl;
    lists = f.lists;
    reads = λ x i. absurd i;
  }

  -- nor an answer
  abbrev pub answering : Answering both (no_traffic start) w rows
  answering = record {
    xs = [];
    front = [];
    expected = AtFirst;
    pair = record {
      sender = f.replies.sender;
      sender_up = record { status = f.replies.sends; quiet = f.quiet_m };
      sender_is = f.is_m f.replies.sender f.replies.sends;
      sessions = f.replies.receiver.sessions;
      now = f.replies.receiver.now;
      hears = record {
        server = f.replies.receiver;
        up = record { status = f.replies.receives; quiet = f.quiet_n };
        its = f.is_n f.replies.receiver f.replies.receives;
        has = refl;
        reads = refl;
      };
      flying = [];
      waiting = [];
      pending = refl;
      flies = refl;
      waits = subst (λ (l : List Queued). Waiting start l []) (sym f.replies.none_waits) tt;
      since = omega arith;
      mode = tt;
      stage = λ id small begins. f.admits_n id begins;
      differ = tt;
      ones_are = λ x i. absurd i;
      past = λ x i. absurd i;
      low = let e = f.base_n in omega (arith, e);
      high = let e = f.base_n in omega (arith, e);
    };
    none = none_repeats both rows (no_traffic start) w (id_of f.requests.sender.ids both.asks both.m) asking both.BeginsN f.may_answer f.calm f.are f.given;
  }
