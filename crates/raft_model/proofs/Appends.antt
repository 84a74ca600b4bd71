-- An append request is a lawful list of micro moves.
use Rattle.std.proofs.Common.{◌≡◌, ◌≢◌, ℕ, zero, suc, ◌+◌, ◌<◌, ◌≤◌, true, false, List, [], ◌∷◌, ◌++◌, length, refl, arith, sym, ◌∙◌, ap, subst, inl, inr, Some, take, get_or, min, length-take, get_or-take, length-append}
use Rattle.std.proofs.lemmas.List.{append-nil, take_all, get_or_append_left}
use Rattle.can_frame.specs.declared.entry.Entry.{Entry}
use Rattle.can_frame.specs.Log.{IsInjective, IsWellFormed, blank, last_term, log_limit}
use Rattle.raft_model.specs.Log.{term_at}
use Rattle.raft_model.specs.Messages.{Request, reach}
use Rattle.raft_model.specs.Messages.Message.{Answers}
use Rattle.raft_model.specs.Server.{Memory, RaftServer, Put, put}
use Rattle.raft_model.specs.Server.Role.{Follower, Leader}
use Rattle.raft_model.specs.Server.Put.{PutEntry, PutLonger, PutShorter, PutCommit}
use Rattle.raft_model.specs.Moves.{Verdict, IsEnabled, Adds, IsCurrent, with_term, term_puts, term_memory, advance_puts, answer_to}
use Rattle.raft_model.specs.Moves.Move.{TakeAppendRequest}
use Rattle.raft_model.specs.Moves.Verdict.{Outdated, Refused, Held, Added}
use Rattle.raft_model.proofs.Micro.{HasPrevious, Holds}
use Rattle.raft_model.proofs.Micro.Micro.{Deny, Yield, Write, Cut, Grow, Advance, Accept}
use Rattle.raft_model.proofs.Focus.{Focus, focused}
use Rattle.raft_model.proofs.Here.{focuses, whole}
use Rattle.raft_model.proofs.Walk.{Leg, Covered, ledger_stays, join}
use Rattle.raft_model.proofs.Walk.Mark.{Silent, Puts}
use Rattle.raft_model.proofs.Whole.{after_leg, Whole, Result, lt_tells}
use Rattle.raft_model.proofs.Terms.{same_commit, term_focus, leg_term, term_up, term_follower}
use Rattle.raft_model.proofs.Elections.{only_said, covered_term}
use Rattle.raft_model.proofs.Lists.{term_at_less}

pub current_term : (p : RaftServer) (r : Request) → IsCurrent p r → r.term ≡ (with_term p.store r.term).term
current_term p r h = elim (lt_tells p.store.term r.term) [
  | inl z ↦ rw (z.0) refl
  | inr z ↦ elim h [ inl l ↦ absurd (omega (arith, l, z.1)) | inr e ↦ rw (z.0) e.0 ]
]

pub current_role : (p : RaftServer) (r : Request) → IsCurrent p r → (term_memory p r.term).role ≢ Leader
current_role p r h = elim (lt_tells p.store.term r.term) [
  | inl z ↦ rw (z.0) (λ e. two e)
  | inr z ↦ elim h [ inl l ↦ absurd (omega (arith, l, z.1)) | inr e ↦ rw (z.0) e.1 ]
]
  where
    two : Follower ≡ Leader → ⊥
    two e = cc

-- the term, then Follower
abbrev pub yielded : ℕ → Focus → Request → Focus
yielded m f r = focused m (term_focus f r.term) (Yield m)

pub leg_yield : (members : List ℕ) (m : ℕ) (f : Focus) (r : Request) (v : Verdict) → f.raft_server.memory.up ≡ true
    → Covered f.ledger f.raft_server.store → IsCurrent f.raft_server r
    → Leg members m (TakeAppendRequest r v) f (yielded m f r) (term_puts f.raft_server.store r.term)
leg_yield members m f r v up c h = subst (λ (l : List Put). Leg members m (TakeAppendRequest r v) f (yielded m f r) l)
    (append-nil (term_puts f.raft_server.store r.term))
    (join members m (TakeAppendRequest r v) f (term_focus f r.term) (yielded m f r) (term_puts f.raft_server.store r.term) []
    (leg_term members m (TakeAppendRequest r v) f r.term up c)
    (record {
      marks = Silent (Yield m) ∷ [];
      walk = (
        record {
          may = (term_up f.raft_server r.term ∙ up, current_role f.raft_server r h);
          bag = refl;
          store = refl;
          history = refl;
          ledger = refl;
        },
        tt,
      );
      puts = refl;
      ends = refl;
    }))

-- from a log that holds what the request carries: commit, and the answer
pub accepted : (members : List ℕ) (m n : ℕ) (g : Focus) (r : Request) (v : Verdict) → Holds (whole members g) m r
    → Result members m (TakeAppendRequest r v) g (advance_puts g.raft_server.store r) g.raft_server.memory (λ h. h)
    (Answers (answer_to m n g.raft_server.store r true) ∷ [])
accepted members m n g r v h = elim (lt_tells g.raft_server.store.commit (min r.commit (reach r))) [
  | inl z ↦ rw (z.0) (record {
    between = focused m g (Advance m r);
    leg = record {
      marks = Puts (PutCommit (min r.commit (reach r))) (Advance m r) ∷ [];
      walk = (record { may = record { holds = h; above = z.1 }; bag = refl; store = refl; history = refl; ledger = refl }, tt);
      puts = refl;
      ends = refl;
    };
    rest = Accept m n r ∷ [];
    lawful = (
      record {
        fits = record {
          up = h.fits.up;
          role = h.fits.role;
          in_bag = h.fits.in_bag;
          kind = h.fits.kind;
          mine = h.fits.mine;
          own_term = h.fits.own_term;
          previous = h.fits.previous;
          previous_term = h.fits.previous_term;
        };
        has = h.has;
      },
      tt,
    );
    store = refl;
    ledger = refl;
    history = refl;
    memory = refl;
    bag = refl;
    said = only_said (focuses m (focused m g (Advance m r)) (Accept m n r ∷ [])) (Answers (answer_to m n g.raft_server.store r true)) (inl refl);
  })
  | inr z ↦ rw (z.0) (record {
    between = g;
    leg = record { marks = []; walk = tt; puts = refl; ends = refl };
    rest = Accept m n r ∷ [];
    lawful = (h, tt);
    store = refl;
    ledger = refl;
    history = refl;
    memory = refl;
    bag = refl;
    said = only_said (focuses m g (Accept m n r ∷ [])) (Answers (answer_to m n g.raft_server.store r true)) (inl refl);
  })
]

-- a log that ends before the entry and may have it next
pub record Ready (members : List ℕ) (m : ℕ) (g : Focus) (r : Request) (e : Entry) : Type 0 where
  pub fits : HasPrevious (whole members g) m r
  pub entry : r.entry ≡ Some e
  pub at_end : r.previous ≡ length g.raft_server.store.log
  pub room : length g.raft_server.store.log < log_limit
  pub well_formed : IsWellFormed e
  pub rises : last_term g.raft_server.store.log ≤ e.term
  pub below : e.term ≤ r.term
  pub injective : IsInjective (g.raft_server.store.log ++ (e ∷ []))
  pub covered : Covered g.ledger g.raft_server.store

pub get_last : (l : List Entry) (e : Entry) → get_or (l ++ (e ∷ [])) (length l) (blank 0) ≡ e
get_last [] e = refl
get_last (x ∷ l) e = get_last l e

pub term_inside : (l : List Entry) (e : Entry) (p : ℕ) → p ≤ length l → term_at (l ++ (e ∷ [])) p ≡ term_at l p
term_inside l e zero h = refl
term_inside l e (suc i) h = ap (λ (x : Entry). x.term) (get_or_append_left l (e ∷ []) (blank 0) i (omega (arith, h)))

pub grown_holds : (members : List ℕ) (m : ℕ) (g : Focus) (r : Request) (e : Entry) → Ready members m g r e
    → Holds (whole members (focused m g (Grow m r e))) m r
grown_holds members m g r e h =
    let l : List Entry = g.raft_server.store.log in
    let n : length (g.raft_server.store.log ++ (e ∷ [])) ≡ length g.raft_server.store.log + 1 = length-append g.raft_server.store.log (e ∷ []) in
    record {
      fits = record {
        up = h.fits.up;
        role = h.fits.role;
        in_bag = h.fits.in_bag;
        kind = h.fits.kind;
        mine = h.fits.mine;
        own_term = h.fits.own_term;
        previous = omega (arith, n, h.at_end);
        previous_term = term_inside g.raft_server.store.log e r.previous (omega (arith, h.at_end)) ∙ h.fits.previous_term;
      };
      has = inr (
        e,
        h.entry,
        omega (arith, n, h.at_end),
        term_at_less (g.raft_server.store.log ++ (e ∷ [])) (r.previous + 1) (omega arith)
            ∙ (ap (λ (i : ℕ). (get_or (g.raft_server.store.log ++ (e ∷ [])) i (blank 0)).term) (omega (arith, h.at_end))
            ∙ ap (λ (x : Entry). x.term) (get_last g.raft_server.store.log e)),
      );
    }

-- the entry, then last
pub leg_grow : (members : List ℕ) (m : ℕ) (g : Focus) (r : Request) (v : Verdict) (e : Entry) → Ready members m g r e
    → Leg members m (TakeAppendRequest r v) g (focused m g (Grow m r e)) (PutEntry e ∷ PutLonger e ∷ [])
leg_grow members m g r v e h = record {
  marks = Puts (PutEntry e) (Write m e) ∷ Puts (PutLonger e) (Grow m r e) ∷ [];
  walk = (
    record {
      may = h.fits.up;
      bag = refl;
      store = refl;
      history = refl;
      ledger = sym (ledger_stays g.ledger g.raft_server.store h.covered);
    },
    (
      record {
        may = record {
          fits = h.fits;
          entry = h.entry;
          at_end = h.at_end;
          room = h.room;
          well_formed = h.well_formed;
          rises = h.rises;
          below = h.below;
          injective = h.injective;
        };
        bag = refl;
        store = refl;
        history = refl;
        ledger = sym (ledger_stays g.ledger (put g.raft_server.store (PutLonger e))
            (same_commit g.ledger g.raft_server.store (put g.raft_server.store (PutLonger e)) h.covered refl));
      },
      tt,
    ),
  );
  puts = refl;
  ends = refl;
}

pub added : (members : List ℕ) (m n : ℕ) (g : Focus) (r : Request) (v : Verdict) (e : Entry) → Ready members m g r e
    → Result members m (TakeAppendRequest r v) g (PutEntry e ∷ PutLonger e ∷ advance_puts g.raft_server.store r) g.raft_server.memory (λ h. h)
    (Answers (answer_to m n g.raft_server.store r true) ∷ [])
added members m n g r v e h =
    after_leg members m (TakeAppendRequest r v) g (focused m g (Grow m r e)) (PutEntry e ∷ PutLonger e ∷ []) (advance_puts g.raft_server.store r)
    g.raft_server.memory (λ x. x) (Answers (answer_to m n g.raft_server.store r true) ∷ [])
    (leg_grow members m g r v e h) refl (accepted members m n (focused m g (Grow m r e)) r v (grown_holds members m g r e h))

-- after the term, as Follower
pub from_yielded : (members : List ℕ) (m n : ℕ) (f : Focus) (r : Request) (v : Verdict) (ys : List Put) → f.raft_server.memory.up ≡ true
    → Covered f.ledger f.raft_server.store → IsCurrent f.raft_server r →
    Result members m (TakeAppendRequest r v) (yielded m f r) ys (yielded m f r).raft_server.memory (λ h. h)
    (Answers (answer_to m n (with_term f.raft_server.store r.term) r true) ∷ []) →
    Result members m (TakeAppendRequest r v) f (term_puts f.raft_server.store r.term ++ ys) (record f.raft_server.memory { role = Follower }) (λ h. h)
    (Answers (answer_to m n (with_term f.raft_server.store r.term) r true) ∷ [])
from_yielded members m n f r v ys up c current x =
    subst
    (λ (z : Memory). Result members m (TakeAppendRequest r v) f (term_puts f.raft_server.store r.term ++ ys) z (λ h. h) (Answers
    (answer_to m n (with_term f.raft_server.store r.term) r true) ∷ []))
    (term_follower f.raft_server r.term)
    (after_leg members m (TakeAppendRequest r v) f (yielded m f r) (term_puts f.raft_server.store r.term) ys (yielded m f r).raft_server.memory (λ h. h)
    (Answers (answer_to m n (with_term f.raft_server.store r.term) r true) ∷ []) (leg_yield members m f r v up c current) refl x)

pub term_cut : (l : List Entry) (p : ℕ) → term_at (take p l) p ≡ term_at l p
term_cut l zero = refl
term_cut l (suc i) = ap (λ (x : Entry). x.term) (get_or-take (suc i) l i (blank 0) (omega arith))

pub append_request_lawful : (members : List ℕ) (m n : ℕ) (f : Focus) (r : Request) (v : Verdict) → f.raft_server.memory.up ≡ true
    → Covered f.ledger f.raft_server.store → IsEnabled members m f.bag [] f.raft_server (TakeAppendRequest r v)
    → Whole members m n f (TakeAppendRequest r v)
append_request_lawful members m n f r Outdated up c h =
    let low : r.term ≤ f.raft_server.store.term = elim h.3 [ inl z ↦ omega (arith, z) | inr z ↦ omega (arith, z.0) ] in
    elim (lt_tells f.raft_server.store.term r.term) [
      | inl z ↦ absurd (omega (arith, z.1, low))
      | inr z ↦ rw (z.0) (record {
        between = f;
        leg = record { marks = []; walk = tt; puts = refl; ends = refl };
        rest = Deny m n r ∷ [];
        lawful = ((up, h.0, h.1), tt);
        store = refl;
        ledger = refl;
        history = refl;
        memory = refl;
        bag = refl;
        said = only_said (focused m f (Deny m n r)) (Answers (answer_to m n f.raft_server.store r false)) (inl refl);
      })
    ]
append_request_lawful members m n f r Refused up c h = record {
  between = yielded m f r;
  leg = join members m (TakeAppendRequest r Refused) f (yielded m f r) (yielded m f r) (term_puts f.raft_server.store r.term) []
      (leg_yield members m f r Refused up c h.3.0) (record { marks = []; walk = tt; puts = refl; ends = refl });
  rest = Deny m n r ∷ [];
  lawful = ((term_up f.raft_server r.term ∙ up, h.0, h.1), tt);
  store = refl;
  ledger = refl;
  history = refl;
  memory = term_follower f.raft_server r.term;
  bag = refl;
  said = only_said (focused m (yielded m f r) (Deny m n r)) (Answers (answer_to m n (with_term f.raft_server.store r.term) r false)) (inl refl);
}
append_request_lawful members m n f r Held up c h = from_yielded members m n f r Held (advance_puts (with_term f.raft_server.store r.term) r) up c
    h.3.0
    (accepted members m n (yielded m f r) r Held (record {
      fits = record {
        up = term_up f.raft_server r.term ∙ up;
        role = refl;
        in_bag = h.0;
        kind = h.2;
        mine = h.1;
        own_term = current_term f.raft_server r h.3.0;
        previous = h.3.1.fits.previous;
        previous_term = h.3.1.fits.previous_term;
      };
      has = elim h.3.1.has [ inl q ↦ inl q | inr q ↦ inr (q.0, q.1, q.3.0, q.3.1) ];
    }))
append_request_lawful members m n f r (Added e) up c h = elim (lt_tells r.previous (length (with_term f.raft_server.store r.term).log)) [
  | inl z ↦
      let n1 : length (take r.previous (with_term f.raft_server.store r.term).log) ≡ r.previous
      = omega (arith, length-take r.previous (with_term f.raft_server.store r.term).log, z.1) in
      let shorter : Covered f.ledger (put (with_term f.raft_server.store r.term) (PutShorter r.previous))
      = same_commit f.ledger (with_term f.raft_server.store r.term) (put (with_term f.raft_server.store r.term) (PutShorter r.previous))
      (covered_term f r.term c) refl in
      rw (z.0)
      (from_yielded members m n f r (Added e)
      (PutShorter r.previous ∷ PutEntry e ∷ PutLonger e ∷ advance_puts (with_term f.raft_server.store r.term) r) up c h.3.0
      (after_leg members m (TakeAppendRequest r (Added e)) (yielded m f r) (focused m (yielded m f r) (Cut m r e))
      (PutShorter r.previous ∷ []) (PutEntry e ∷ PutLonger e ∷ advance_puts (with_term f.raft_server.store r.term) r)
      (yielded m f r).raft_server.memory (λ x. x) (Answers (answer_to m n (with_term f.raft_server.store r.term) r true) ∷ [])
      (record {
        marks = Puts (PutShorter r.previous) (Cut m r e) ∷ [];
        walk = (
          record {
            may = record {
              fits = fits;
              entry = a.carried;
              inside = z.1;
              differs = λ d. a.not_there (z.1, d);
              after_commit = omega (arith, a.after_commit);
            };
            bag = refl;
            store = refl;
            history = refl;
            ledger = sym (ledger_stays f.ledger (put (with_term f.raft_server.store r.term) (PutShorter r.previous)) shorter);
          },
          tt,
        );
        puts = refl;
        ends = refl;
      })
      refl
      (added members m n (focused m (yielded m f r) (Cut m r e)) r (Added e) e (record {
        fits = record {
          up = fits.up;
          role = refl;
          in_bag = fits.in_bag;
          kind = fits.kind;
          mine = fits.mine;
          own_term = fits.own_term;
          previous = omega (arith, n1);
          previous_term = term_cut (with_term f.raft_server.store r.term).log r.previous ∙ fits.previous_term;
        };
        entry = a.carried;
        at_end = sym n1;
        room = omega (arith, n1, a.room);
        well_formed = a.well_formed;
        rises = let q : last_term (take r.previous (with_term f.raft_server.store r.term).log)
            ≡ term_at (with_term f.raft_server.store r.term).log r.previous = ap (term_at (take r.previous (with_term f.raft_server.store r.term).log))
            n1
            ∙ term_cut (with_term f.raft_server.store r.term).log r.previous in
            omega (arith, q, a.rises);
        below = a.below;
        injective = a.injective;
        covered = shorter;
      }))))
  | inr z ↦
      let n1 : r.previous ≡ length (with_term f.raft_server.store r.term).log = omega (arith, z.1, fits.previous) in
      rw (z.0)
      (from_yielded members m n f r (Added e) (PutEntry e ∷ PutLonger e ∷ advance_puts (with_term f.raft_server.store r.term) r) up c h.3.0
      (added members m n (yielded m f r) r (Added e) e (record {
        fits = fits;
        entry = a.carried;
        at_end = n1;
        room = omega (arith, n1, a.room);
        well_formed = a.well_formed;
        rises = let q : term_at (with_term f.raft_server.store r.term).log r.previous
            ≡ last_term (with_term f.raft_server.store r.term).log = ap (term_at (with_term f.raft_server.store r.term).log) n1 in
            omega (arith, q, a.rises);
        below = a.below;
        injective = subst (λ (l : List Entry). IsInjective (l ++ (e ∷ [])))
            (take_all r.previous (with_term f.raft_server.store r.term).log (omega (arith, n1))) a.injective;
        covered = covered_term f r.term c;
      })))
]
  where
    a : Adds (with_term f.raft_server.store r.term) r e
    a = h.3.1

    fits : HasPrevious (whole members (yielded m f r)) m r
    fits = record {
      up = term_up f.raft_server r.term ∙ up;
      role = refl;
      in_bag = h.0;
      kind = h.2;
      mine = h.1;
      own_term = current_term f.raft_server r h.3.0;
      previous = h.3.1.fits.previous;
      previous_term = h.3.1.fits.previous_term;
    }
