-- What is known of a world that rows lead to which do no harm.
use Rattle.std.proofs.Common.{◌≡◌, ℕ, ◌+◌, Bool, List, [], ◌∷◌, ◌++◌, inl, sym, ◌∙◌, ap, subst}
use Rattle.outside.specs.declared.pattern.Pattern.TheVariants.{Old}
use Rattle.raft_model.specs.Invariants.{Invariants, SoundStore}
use Rattle.raft_model.specs.Lists.{In}
use Rattle.raft_model.specs.Runs.{InEveryRun, World, initial_world, run}
use Rattle.raft_model.specs.Server.{Store}
use Rattle.bus_rows.specs.declared.row.Row.{Row}
use Rattle.alloc_spec.specs.AllocatorState.{AllocatorState}
use Rattle.alloc_spec.specs.Transfers.{SentTransfer}
use Rattle.bus_agreement.specs.Continues.{Continues}
use Rattle.bus_agreement.specs.Said.{IsRunWritable}
use Rattle.bus_agreement.specs.Shows.{Shows, ShowsDown, ShowsMember, ShowsUp}
use Rattle.bus_agreement.proofs.StopsAndOpenings.{firm_finds}
use Rattle.bus_spec.specs.Cluster.{Cluster, after_row, after_rows, cluster, world_of}
use Rattle.bus_spec.specs.Choices.{AgreesWithDisk}
use Rattle.bus_spec.specs.Refinement.{events, transfers_of_rows}
use Rattle.bus_spec.specs.Lawful.{DoNoHarm, AreLawful}
use Rattle.bus_spec.specs.Members.{MemberStatus}
use Rattle.bus_spec.specs.Members.MemberStatus.{Up}
use Rattle.service_alone.specs.Alone.{CanGoOn, found}
use Rattle.service_alone.proofs.Goes.{CanGo, after_both}
use Rattle.service_alone.proofs.Members.{IsDown}

pub record IsReached (ids : List ℕ) (w : Cluster) : Type 0 where
  pub rows : List Row
  pub harmless : DoNoHarm (cluster ids) rows
  pub is : w ≡ world_of ids rows

harmless_both : (w : Cluster) (first rest : List Row) → DoNoHarm w first → AreLawful (after_rows w first) rest → DoNoHarm w (first ++ rest)
harmless_both w [] [] a b = tt
harmless_both w [] (row ∷ rest) a b = (inl b.0, harmless_both (after_row w row) [] rest tt b.1)
harmless_both w (row ∷ first) rest a b = (a.0, harmless_both (after_row w row) first rest a.1 b)

pub reaches : (ids : List ℕ) (w : Cluster) (rows : List Row) → IsReached ids w → AreLawful w rows → IsReached ids (after_rows w rows)
reaches ids w rows r lawful = record {
  rows = r.rows ++ rows;
  harmless = harmless_both (cluster ids) r.rows rows r.harmless (subst (λ (v : Cluster). AreLawful v rows) r.is lawful);
  is = ap (λ (v : Cluster). after_rows v rows) r.is ∙ sym (after_both (cluster ids) r.rows rows);
}

pub reached : (ids : List ℕ) (P : Cluster → Type 0) (w : Cluster) (now last count : ℕ) → IsReached ids w → CanGo w now last count P
    → CanGo w now last count (λ v. P v × IsReached ids v)
reached ids P w now last count r c = record {
  rows = c.rows;
  few = c.few;
  in_time = c.in_time;
  lawful = c.lawful;
  holds = (c.holds, reaches ids w c.rows r c.lawful);
}

-- ---- what is found stored

-- the world shows a run whose invariants hold
pub record IsShown (w : Cluster) : Type 0 where
  pub choice : ℕ → Bool
  pub made : List SentTransfer
  pub run : World
  pub shows : Shows choice made w run
  pub invariants : Invariants run
  pub writable : IsRunWritable w.ids run

-- the run has what a member that is stopped found
pub stopped_store : (w : Cluster) (n : ℕ) (store : Store) → In n w.ids → (s : IsShown w) → IsDown store (w.member n) → (s.run.server n).store ≡ store
stopped_store w n store listed s down = is.stored ∙ down.found
  where
    is : ShowsDown s.run n (w.member n).disk
    is = subst (λ (status : MemberStatus). ShowsMember s.choice s.made w.ids w.frames s.run n status (w.member n).disk) down.status (s.shows.lives n listed)

-- it is sound
pub stopped_sound : (w : Cluster) (n : ℕ) (store : Store) → In n w.ids → IsShown w → IsDown store (w.member n) → SoundStore store
stopped_sound w n store listed s down = subst SoundStore (stopped_store w n store listed s down) (s.invariants.stores n)

-- one that runs would find what its server has stored
pub finds_own : (w : Cluster) (n : ℕ) (t : AllocatorState) → In n w.ids → IsShown w → (w.member n).status ≡ Up t
    → found w n ≡ t.raft_server.store
finds_own w n t listed s up = firm_finds (w.member n).disk is.runs.nothing_unsynced Old ∙ is.runs.stored
  where
    is : ShowsUp s.made w.ids w.frames s.run n t (w.member n).disk
    is = subst (λ (status : MemberStatus). ShowsMember s.choice s.made w.ids w.frames s.run n status (w.member n).disk) up (s.shows.lives n listed)

-- ---- rows go on

pub goes_on : (ids : List ℕ) (rows : List Row) (most now long : ℕ) (P : Cluster → Type 0) → DoNoHarm (cluster ids) rows
    → CanGo (world_of ids rows) now (now + long) most P → CanGoOn ids rows most now long P
goes_on ids rows most now long P harmless c = record {
  more = c.rows;
  few = c.few;
  in_time = c.in_time;
  lawful = c.lawful;
  harmless = harmless_both (cluster ids) rows c.rows harmless c.lawful;
  holds = subst P (sym (after_both (cluster ids) rows c.rows)) c.holds;
}

-- ---- what the laws below say of it

pub laws_say : (ids : List ℕ)
    → ((rows : List Row) → DoNoHarm (cluster ids) rows → (choice : ℕ → Bool) × AgreesWithDisk choice (cluster ids) rows)
    → ((choice : ℕ → Bool) (rows : List Row) → DoNoHarm (cluster ids) rows → AgreesWithDisk choice (cluster ids) rows
    → Continues choice (transfers_of_rows (cluster ids) rows []) (world_of ids rows) (initial_world ids) (events choice (cluster ids) rows))
    → InEveryRun Invariants → (w : Cluster) → IsReached ids w → IsShown w
laws_say ids fit shows sound w r =
    let fits = fit r.rows r.harmless in
    let shown = shows fits.0 r.rows r.harmless fits.1 in
    subst IsShown (sym r.is) (record {
      choice = fits.0;
      made = transfers_of_rows (cluster ids) r.rows [];
      run = run (initial_world ids) (events fits.0 (cluster ids) r.rows);
      shows = shown.shows;
      invariants = sound ids (events fits.0 (cluster ids) r.rows) shown.lawful;
      writable = shown.writable;
    })
