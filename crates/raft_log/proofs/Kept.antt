-- A put that is allowed leaves a state that may be stored.
use Rattle.std.proofs.Common.{◌≡◌, inl, inr, ℕ, zero, suc, ◌+◌, ◌<◌, ◌≤◌, ◌^◌, List, [], ◌∷◌, ◌++◌, length, take, get_or, set, refl, sym, ap, subst, ◌∙◌, arith}
use Rattle.std.specs.Prelude.{Option, Some}
use Rattle.std.proofs.lemmas.Bool.Decides.{leb_tells}
use Rattle.std.proofs.lemmas.List.{get_or-take, get_or_append_left, length-append, length-set, length-take-le, take_all}
use Rattle.std.proofs.Math.Seq.{get_or-append_seam}
use Rattle.can_frame.specs.declared.entry.Entry.{Entry}
use Rattle.can_frame.specs.Log.{AreDistinct, IsDistinctFromAll, IsInjective, blank}
use Rattle.raft_log.specs.Allowed.{AreAllowed, IsAllowed, next_after}
use Rattle.raft_log.specs.MayFollow.{IsKept, IsStorable, MayFollow}
use Rattle.raft_log.specs.Stored.{Kept, Put, Stored, after_put, after_puts}
use Rattle.raft_log.specs.Stored.Put.{PutTerm, PutVote, PutEntry, PutLast, PutCommit, PutOrigin, PutVersion}
use Rattle.raft_log.proofs.Origins.{have_cut, have_longer, have_set, low_cut, low_longer, low_set}

-- the entries before a place, of a log that was cut behind it
take_twice : (log : List Entry) (i k : ℕ) → i ≤ k → take i (take k log) ≡ take i log
take_twice log zero k h = refl
take_twice [] (suc i) zero h = refl
take_twice [] (suc i) (suc k) h = refl
take_twice (x ∷ log) (suc i) zero h = absurd (omega (arith, h))
take_twice (x ∷ log) (suc i) (suc k) h = ap (λ (l : List Entry). x ∷ l) (take_twice log i k (omega (arith, h)))

-- the entries before a place, of a log that became longer
take_front : (log : List Entry) (e : Entry) (i : ℕ) → i ≤ length log → take i (log ++ e ∷ []) ≡ take i log
take_front log e zero h = refl
take_front [] e (suc i) h = absurd (omega (arith, h))
take_front (x ∷ log) e (suc i) h = ap (λ (l : List Entry). x ∷ l) (take_front log e i (omega (arith, h)))

injective_with : (log : List Entry) (e : Entry) → IsInjective log → IsDistinctFromAll log e → IsInjective (log ++ e ∷ [])
injective_with log e injective distinct i j less below =
    let long : length (log ++ e ∷ []) ≡ length log + 1 = length-append log (e ∷ []) in
    let low : i < length log = omega (arith, long, less, below) in
    subst (λ x. AreDistinct x (get_or (log ++ e ∷ []) j (blank 0))) (sym (get_or_append_left log (e ∷ []) (blank 0) i low))
    (elim (leb_tells (length log) j) as (λ _. AreDistinct (get_or log i (blank 0)) (get_or (log ++ e ∷ []) j (blank 0))) [
      | inl t ↦ let last : length log ≡ j = omega (arith, t.1, below, long) in
          subst (λ n. AreDistinct (get_or log i (blank 0)) (get_or (log ++ e ∷ []) n (blank 0))) last
          (subst (λ x. AreDistinct (get_or log i (blank 0)) x) (sym (get_or-append_seam log e [] (blank 0))) (distinct i low))
      | inr t ↦ subst (λ x. AreDistinct (get_or log i (blank 0)) x) (sym (get_or_append_left log (e ∷ []) (blank 0) j t.1)) (injective i j less t.1)
    ])

-- the log is cut
cut_storable : (s : Stored) (k : ℕ) → s.commit ≤ k → k ≤ length s.log → IsStorable s → IsStorable (record s { log = take k s.log; origins = take k s.origins })
cut_storable s k kept within h =
    let long : length (take k s.log) ≡ k = length-take-le k s.log within in
    let long_too : length (take k s.origins) ≡ k = length-take-le k s.origins (omega (arith, within, h.count)) in record {
      vote = h.vote;
      room = omega (arith, long, within, h.room);
      commit = omega (arith, long, kept);
      follows = λ i below. let less : i < k = omega (arith, long, below) in
          subst (λ (l : List Entry). MayFollow l s.term (get_or (take k s.log) i (blank 0))) (sym (take_twice s.log i k (omega (arith, less))))
          (subst (λ (e : Entry). MayFollow (take i s.log) s.term e) (sym (get_or-take k s.log i (blank 0) less)) (h.follows i (omega (arith, less, within))));
      injective = λ i j less below. let low : j < k = omega (arith, long, below) in
          subst (λ x. AreDistinct x (get_or (take k s.log) j (blank 0))) (sym (get_or-take k s.log i (blank 0) (omega (arith, less, low))))
          (subst (λ x. AreDistinct (get_or s.log i (blank 0)) x) (sym (get_or-take k s.log j (blank 0) low)) (h.injective i j less (omega (arith, low, within))));
      count = long_too ∙ sym long;
      limit = low_cut s.origins k h.limit;
      version = h.version;
      have = λ two. have_cut s.origins k (h.have two);
    }

-- it becomes longer
longer_storable : (s : Stored) (e : Entry) (o : ℕ) → length s.log < 127 → MayFollow s.log s.term e → o ≤ 4 → IsStorable s → IsStorable (record s { log = s.log ++ e ∷ []; origins = s.origins ++ Some o ∷ [] })
longer_storable s e o room follows low h =
    let long : length (s.log ++ e ∷ []) ≡ length s.log + 1 = length-append s.log (e ∷ []) in
    let long_too : length (s.origins ++ Some o ∷ []) ≡ length s.origins + 1 = length-append s.origins (Some o ∷ []) in record {
      vote = h.vote;
      room = omega (arith, long, room);
      commit = omega (arith, long, h.commit);
      follows = λ i below. elim (leb_tells (length s.log) i) as (λ _. MayFollow (take i (s.log ++ e ∷ [])) s.term (get_or (s.log ++ e ∷ []) i (blank 0))) [
        | inl t ↦ let last : length s.log ≡ i = omega (arith, t.1, below, long) in
            subst (λ n. MayFollow (take n (s.log ++ e ∷ [])) s.term (get_or (s.log ++ e ∷ []) n (blank 0))) last
            (subst (λ (x : Entry). MayFollow (take (length s.log) (s.log ++ e ∷ [])) s.term x) (sym (get_or-append_seam s.log e [] (blank 0)))
            (subst (λ (l : List Entry). MayFollow l s.term e) (sym (take_front s.log e (length s.log) (omega arith) ∙ take_all (length s.log) s.log (omega arith))) follows))
        | inr t ↦
            subst (λ (x : Entry). MayFollow (take i (s.log ++ e ∷ [])) s.term x) (sym (get_or_append_left s.log (e ∷ []) (blank 0) i t.1))
            (subst (λ (l : List Entry). MayFollow l s.term (get_or s.log i (blank 0))) (sym (take_front s.log e i (omega (arith, t.1)))) (h.follows i t.1))
      ];
      injective = injective_with s.log e h.injective follows.distinct;
      count = omega (arith, long, long_too, h.count);
      limit = low_longer s.origins o low h.limit;
      version = h.version;
      have = λ two. have_longer s.origins o (h.have two);
    }

-- an entry gets its origin
origin_storable : (s : Stored) (k : ℕ) → IsStorable s → IsStorable (record s { origins = set s.origins k (Some 0) })
origin_storable s k h = record {
  vote = h.vote;
  room = h.room;
  commit = h.commit;
  follows = h.follows;
  injective = h.injective;
  count = length-set s.origins k (Some 0) ∙ h.count;
  limit = low_set s.origins k 0 (omega arith) h.limit;
  version = h.version;
  have = λ two. have_set s.origins k 0 (h.have two);
}

term_storable : (s : Stored) (t : ℕ) → s.term ≤ t → IsStorable s → IsStorable (record s { term = t })
term_storable s t later h = record {
  vote = h.vote;
  room = h.room;
  commit = h.commit;
  follows = λ i below. let f = h.follows i below in record { formed = f.formed; order = f.order; bound = omega (arith, f.bound, later); distinct = f.distinct };
  injective = h.injective;
  count = h.count;
  limit = h.limit;
  version = h.version;
  have = h.have;
}

pub storable_after : (put : Put) (s : Stored) (next : Option Kept) → IsAllowed put s next → IsStorable s → IsStorable (after_put put s)
storable_after (PutTerm term) s next a h = term_storable s term a.0 h
storable_after (PutVote node) s next a h = record {
  vote = a;
  room = h.room;
  commit = h.commit;
  follows = h.follows;
  injective = h.injective;
  count = h.count;
  limit = h.limit;
  version = h.version;
  have = h.have;
}
storable_after (PutEntry entry origin) s next a h = h
storable_after (PutLast log origins) s next (inl cut) h =
    subst (λ (l : List Entry). IsStorable (record s { log = l; origins = origins })) (sym cut.is)
    (subst (λ (o : List (Option ℕ)). IsStorable (record s { log = take cut.place s.log; origins = o })) (sym cut.origins_are) (cut_storable s cut.place cut.kept cut.within h))
storable_after (PutLast log origins) s next (inr longer) h =
    subst (λ (l : List Entry). IsStorable (record s { log = l; origins = origins })) (sym longer.is)
    (subst (λ (o : List (Option ℕ)). IsStorable (record s { log = s.log ++ longer.kept.entry ∷ []; origins = o })) (sym longer.origins_are)
    (longer_storable s longer.kept.entry longer.kept.origin longer.room longer.follows longer.limit h))
storable_after (PutCommit index) s next a h = record {
  vote = h.vote;
  room = h.room;
  commit = a;
  follows = h.follows;
  injective = h.injective;
  count = h.count;
  limit = h.limit;
  version = h.version;
  have = h.have;
}
storable_after (PutOrigin place entry) s next a h = origin_storable s place h
storable_after PutVersion s next a h = record {
  vote = h.vote;
  room = h.room;
  commit = h.commit;
  follows = h.follows;
  injective = h.injective;
  count = h.count;
  limit = h.limit;
  version = omega arith;
  have = λ two. a;
}

term_after : (put : Put) (s : Stored) (next : Option Kept) → IsAllowed put s next → s.term < 2 ^ 32 → (after_put put s).term < 2 ^ 32
term_after (PutTerm term) s next a h = a.1
term_after (PutVote node) s next a h = h
term_after (PutEntry entry origin) s next a h = h
term_after (PutLast log origins) s next a h = h
term_after (PutCommit index) s next a h = h
term_after (PutOrigin place entry) s next a h = h
term_after PutVersion s next a h = h

pub kept_after : (puts : List Put) (s : Stored) (next : Option Kept) → AreAllowed puts s next → IsKept s → IsKept (after_puts puts s)
kept_after [] s next a h = h
kept_after (put ∷ puts) s next a h = kept_after puts (after_put put s) (next_after put next) a.1 (record { storable = storable_after put s next a.0 h.storable; term = term_after put s next a.0 h.term })
