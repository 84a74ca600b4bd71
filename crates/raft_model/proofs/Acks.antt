-- Acknowledgements last through every micro move.
use Rattle.std.proofs.Common.{◌≡◌, ◌≢◌, ℕ, ◌+◌, ◌-◌, ◌<◌, ◌≤◌, Bool, true, false, List, [], ◌∷◌, ◌++◌, length, refl, arith, sym, ◌∙◌, ap, subst, inl, inr, ◌⊎◌, take, get_or}
use Rattle.std.proofs.lemmas.List.{take-take}
use Rattle.std.proofs.Math.Seq.{get_or-append_seam}
use Rattle.std.proofs.lemmas.Bool.Decides.{eqb_tells}
use Rattle.can_frame.specs.declared.entry.Entry.{Entry}
use Rattle.can_frame.specs.Log.{blank}
use Rattle.raft_model.specs.Log.{Same, term_at}
use Rattle.raft_model.specs.Messages.{Request, Answer, reach}
use Rattle.raft_model.specs.Lists.{at, at_here, at_other}
use Rattle.raft_model.specs.History.{KeptVote}
use Rattle.raft_model.proofs.Micro.{State, Holds, Micro, did, May, MayGrant, MayCut, MayWin, MayPropose, answer_of}
use Rattle.raft_model.proofs.Micro.Micro.{Raise, Stand, Grant, Deny, Win, Cut, Grow, Accept, Propose}
use Rattle.raft_model.proofs.Facts.{Facts, Acked, Off, Acks}
use Rattle.raft_model.proofs.Lists.{same_less, same_get, same_length, same_append, term_at_less, list_more, longer}
use Rattle.raft_model.proofs.At.{at_each}
use Rattle.raft_model.proofs.Alone.{alone}
use Rattle.raft_model.proofs.Agree.{agree}
use Rattle.raft_model.proofs.Complete.{less_or}

pub off_more : (led : ℕ → Bool) (list : ℕ → List Entry) (t j u v : ℕ) → u ≤ v → Off led list t j u → Off led list t j v
off_more led list t j u v h o = (o.0, o.1, omega (arith, o.2, h), o.3, o.4)

-- an answer that acknowledges nothing
pub acked_less : (s : State) (x : Answer) (m t j : ℕ) → (x.success ≡ true → x.request.append ≡ true → ⊥)
    → Acked s.led s.leader s.list (x ∷ s.answers) m t j → Acked s.led s.leader s.list s.answers m t j
acked_less s x m t j none h = elim h [
  | inl a ↦ inl a
  | inr b ↦ elim b.1 [
    | inl e ↦ absurd (none (ap (λ (z : Answer). z.success) (sym e) ∙ b.3) (ap (λ (z : Answer). z.request.append) (sym e) ∙ b.4))
    | inr i ↦ inr (b.0, i, b.2, b.3, b.4, b.5, b.6)
  ]
]

-- what a member that votes now knows
pub vote_now : (s : State) → Facts s → (m t j u : ℕ) → u ≡ s.term m → s.led u ≡ false → Acked s.led s.leader s.list s.answers m t j
    → Same j (s.log m) (s.list t) ⊎ Off s.led s.list t j u
vote_now s f m t j u e none h =
    let k = f.acks.own_log m t j h in
    elim k.3 [
      | inl same ↦ inl same
      | inr off ↦ elim (less_or u off.0) [
        | inr below ↦ inr (off.0, off.1, below, off.3, off.4)
        | inl above ↦
            let w : off.0 ≡ u = omega (arith, above, off.2, e) in
            absurd (two (sym (subst (λ (z : ℕ). s.led z ≡ true) w off.3) ∙ none))
      ]
    ]
  where
    two : true ≡ false → ⊥
    two e = cc

pub acks_raise : (s : State) (m u : ℕ) → s.term m < u → Facts s → Acks s.led s.leader s.list s.answers (at s.term m u) s.log s.kept
acks_raise s m u h f = record {
  own_log = at_each
      (λ i v. (t j : ℕ) → Acked s.led s.leader s.list s.answers i t j
      → (s.led t ≡ true) × (j ≤ length (s.list t)) × (t ≤ v) × (Same j (s.log i) (s.list t) ⊎ Off s.led s.list t j (v + 1)))
      s.term m u
      (λ t j a. let k = f.acks.own_log m t j a in (
        k.0,
        k.1,
        omega (arith, k.2, h),
        elim k.3 [ inl e ↦ inl e | inr o ↦ inr (off_more s.led s.list t j (s.term m + 1) (u + 1) (omega (arith, h)) o) ],
      ))
      (λ i n t j a. f.acks.own_log i t j a);
  voted = f.acks.voted;
}

pub acks_stand : (s : State) (m : ℕ) → Facts s
    → Acks s.led s.leader s.list s.answers s.term s.log
    (record { voter = m; candidate = m; term = s.term m; log = s.log m; led = s.led (s.term m) } ∷ s.kept)
acks_stand s m f = record {
  own_log = f.acks.own_log;
  voted = λ k t j i none a h. elim i [
    | inl e ↦
        let now
        = vote_now s f m t j (s.term m) refl (sym (ap (λ (z : KeptVote). z.led) e) ∙ none)
        (subst (λ (v : ℕ). Acked s.led s.leader s.list s.answers v t j) (ap (λ (z : KeptVote). z.voter) e) a) in
        subst (λ (z : KeptVote). Same j z.log (s.list t) ⊎ Off s.led s.list t j z.term) (sym e) now
    | inr i2 ↦ f.acks.voted k t j i2 none a h
  ];
}

pub acks_deny : (s : State) (x : Answer) → (x.success ≡ true → x.request.append ≡ true → ⊥) → Facts s
    → Acks s.led s.leader s.list (x ∷ s.answers) s.term s.log s.kept
acks_deny s x none f = record {
  own_log = λ m t j a. f.acks.own_log m t j (acked_less s x m t j none a);
  voted = λ k t j i n a h. f.acks.voted k t j i n (acked_less s x k.voter t j none a) h;
}

pub acks_accept : (s : State) (m n : ℕ) (r : Request) → Holds s m r → Facts s
    → Acks s.led s.leader s.list (answer_of s m n r true ∷ s.answers) s.term s.log s.kept
acks_accept s m n r h f =
    let g = agree s f m r h in
    let q = f.asked.append r (f.posted.request r h.fits.in_bag) h.fits.kind in
    record {
      own_log = λ i t j a. elim a [
        | inl l ↦ f.acks.own_log i t j (inl l)
        | inr b ↦ elim b.1 [
          | inr i2 ↦ f.acks.own_log i t j (inr (b.0, i2, b.2, b.3, b.4, b.5, b.6))
          | inl e ↦
              let candidate : i ≡ m = sym b.2 ∙ ap (λ (z : Answer). z.from) e in
              let tt2 : t ≡ r.term = sym b.5 ∙ ap (λ (z : Answer). z.request.term) e in
              let le : j ≤ reach r = subst (λ (z : Answer). j ≤ reach z.request) e b.6 in
              let all : (s.led r.term ≡ true) × (j ≤ length (s.list r.term)) × (r.term ≤ s.term m)
              × (Same j (s.log m) (s.list r.term) ⊎ Off s.led s.list r.term j (s.term m + 1)) =
              (q.0, omega (arith, le, g.1), omega (arith, h.fits.own_term), inl (same_less j (reach r) (s.log m) (s.list r.term) le g.2)) in
              subst
              (λ (z : ℕ). (s.led t ≡ true) × (j ≤ length (s.list t)) × (t ≤ s.term z)
              × (Same j (s.log z) (s.list t) ⊎ Off s.led s.list t j (s.term z + 1)))
              (sym candidate)
              (subst
              (λ (z : ℕ). (s.led z ≡ true) × (j ≤ length (s.list z)) × (z ≤ s.term m)
              × (Same j (s.log m) (s.list z) ⊎ Off s.led s.list z j (s.term m + 1)))
              (sym tt2) all)
        ]
      ];
      voted = λ k t j i none a b. elim a [
        | inl l ↦ f.acks.voted k t j i none (inl l) b
        | inr c ↦ elim c.1 [
          | inr i2 ↦ f.acks.voted k t j i none (inr (c.0, i2, c.2, c.3, c.4, c.5, c.6)) b
          | inl e ↦
              let candidate : k.voter ≡ m = sym c.2 ∙ ap (λ (z : Answer). z.from) e in
              let tt2 : t ≡ r.term = sym c.5 ∙ ap (λ (z : Answer). z.request.term) e in
              let same : s.term k.voter ≡ s.term m = ap s.term candidate in
              absurd (elim (f.bound.votes k i) [
                | inl lt ↦ omega (arith, lt, same, tt2, b, h.fits.own_term)
                | inr eq ↦ omega (arith, eq.0, same, tt2, b, h.fits.own_term)
              ])
        ]
      ];
    }

-- a longer log
pub acks_grow : (s : State) (m : ℕ) (e : Entry) → Facts s
    → Acks s.led s.leader s.list s.answers s.term (at s.log m (s.log m ++ (e ∷ []))) s.kept
acks_grow s m e f = record {
  own_log = at_each
      (λ i l. (t j : ℕ) → Acked s.led s.leader s.list s.answers i t j
      → (s.led t ≡ true) × (j ≤ length (s.list t)) × (t ≤ s.term i) × (Same j l (s.list t) ⊎ Off s.led s.list t j (s.term i + 1)))
      s.log m (s.log m ++ (e ∷ []))
      (λ t j a. let k = f.acks.own_log m t j a in (
        k.0,
        k.1,
        k.2,
        elim k.3 [ inl z ↦ inl (same_append j (s.log m) (e ∷ []) (same_length j (s.log m) (s.list t) k.1 z) ∙ z) | inr o ↦ inr o ],
      ))
      (λ i n t j a. f.acks.own_log i t j a);
  voted = f.acks.voted;
}

-- a log that is cut because the list of a higher term differs there
pub acks_cut : (s : State) (m : ℕ) (r : Request) (e : Entry) → MayCut s m r e → Facts s
    → Acks s.led s.leader s.list s.answers s.term (at s.log m (take r.previous (s.log m))) s.kept
acks_cut s m r e h f =
    let q = f.asked.append r (f.posted.request r h.fits.in_bag) h.fits.kind in
    let en = f.asked.entry r e (f.posted.request r h.fits.in_bag) h.fits.kind h.entry in
    record {
      own_log = at_each
          (λ i l. (t j : ℕ) → Acked s.led s.leader s.list s.answers i t j
          → (s.led t ≡ true) × (j ≤ length (s.list t)) × (t ≤ s.term i) × (Same j l (s.list t) ⊎ Off s.led s.list t j (s.term i + 1)))
          s.log m (take r.previous (s.log m))
          (λ t j a. let k = f.acks.own_log m t j a in (
            k.0,
            k.1,
            k.2,
            elim k.3 [
              | inr o ↦ inr o
              | inl same ↦ elim (less_or j r.previous) [
                | inl short ↦ inl (take-take j r.previous (s.log m) short ∙ same)
                | inr long ↦
                    let there : (get_or (s.log m) r.previous (blank 0)).term ≡ (get_or (s.list t) r.previous (blank 0)).term
                    = ap (λ (z : Entry). z.term) (same_get j r.previous (s.log m) (s.list t) long same) in
                    let here : term_at (s.log m) (r.previous + 1) ≡ (get_or (s.log m) r.previous (blank 0)).term
                    = at_next (s.log m) r.previous in
                    let off : Same j (s.list r.term) (s.list t) → ⊥ = λ z.
                    let l : (get_or (s.list r.term) r.previous (blank 0)).term ≡ (get_or (s.list t) r.previous (blank 0)).term
                    = ap (λ (y : Entry). y.term) (same_get j r.previous (s.list r.term) (s.list t) long z) in
                    h.differs (here ∙ (there ∙ (sym l ∙ ap (λ (y : Entry). y.term) en.1))) in
                    elim (eqb_tells t r.term) [
                      | inl g ↦ absurd (off (ap (λ (w : ℕ). take j (s.list w)) (sym g.1)))
                      | inr g ↦ inr (r.term, omega (arith, g.1, k.2, h.fits.own_term), omega (arith, h.fits.own_term), q.0, off)
                    ]
              ]
            ],
          ))
          (λ i n t j a. f.acks.own_log i t j a);
      voted = f.acks.voted;
    }
  where
    at_next : (l : List Entry) (p : ℕ) → term_at l (p + 1) ≡ (get_or l p (blank 0)).term
    at_next l p = let e : (p + 1) - 1 ≡ p = omega arith in
        term_at_less l (p + 1) (omega arith) ∙ ap (λ (j : ℕ). (get_or l j (blank 0)).term) e

pub acks_grant : (s : State) (m n : ℕ) (r : Request) → MayGrant s m r → Facts s
    → Acks s.led s.leader s.list (answer_of s m n r true ∷ s.answers) s.term s.log
    (record { voter = m; candidate = r.from; term = r.term; log = s.log m; led = s.led r.term } ∷ s.kept)
acks_grant s m n r h f =
    let x : Answer = answer_of s m n r true in
    let silent : x.success ≡ true → x.request.append ≡ true → ⊥ = λ o p. two (sym p ∙ h.kind) in
    record {
      own_log = λ i t j a. f.acks.own_log i t j (acked_less s x i t j silent a);
      voted = λ k t j i none a b.
          let a2 = acked_less s x k.voter t j silent a in
          elim i [
            | inl e ↦
                let now
                = vote_now s f m t j r.term h.own_term (sym (ap (λ (z : KeptVote). z.led) e) ∙ none)
                (subst (λ (v : ℕ). Acked s.led s.leader s.list s.answers v t j) (ap (λ (z : KeptVote). z.voter) e) a2) in
                subst (λ (z : KeptVote). Same j z.log (s.list t) ⊎ Off s.led s.list t j z.term) (sym e) now
            | inr i2 ↦ f.acks.voted k t j i2 none a2 b
          ];
    }
  where
    two : true ≡ false → ⊥
    two e = cc

-- a proposal, at the log of m and at its term's list
pub acks_propose : (s : State) (m : ℕ) (e : Entry) → MayPropose s m e → Facts s
    → Acks s.led s.leader (at s.list (s.term m) (s.list (s.term m) ++ (e ∷ []))) s.answers s.term (at s.log m (s.log m ++ (e ∷ []))) s.kept
acks_propose s m e h f = record {
  own_log = λ i t j a. elim (split i t j a) [
    | inl z ↦
        let here : at s.log m (s.log m ++ (e ∷ [])) i ≡ s.log m ++ (e ∷ []) = at_here s.log m i (s.log m ++ (e ∷ [])) z.1 in
        let there : at s.list (s.term m) (s.list (s.term m) ++ (e ∷ [])) t ≡ s.list (s.term m) ++ (e ∷ [])
        = at_here s.list (s.term m) t (s.list (s.term m) ++ (e ∷ [])) z.0 in
        let one : s.log m ++ (e ∷ []) ≡ s.list (s.term m) ++ (e ∷ []) = ap (λ (l : List Entry). l ++ (e ∷ [])) leads.2 in
        (ap s.led z.0 ∙ leads.0, z.2, omega (arith, z.0, ap s.term z.1), inl (ap (take j) (here ∙ (one ∙ sym there))))
    | inr b ↦
        let k = f.acks.own_log i t j b in (
          k.0,
          omega (arith, k.1, longer s.list (s.term m) e t),
          k.2,
          elim k.3 [
            | inl same ↦ inl (list_more s.log m e i j (same_length j (s.log i) (s.list t) k.1 same) ∙ (same ∙ sym (list_more s.list (s.term m) e t j k.1)))
            | inr o ↦ inr (off_lasts t j (s.term i + 1) k.1 o)
          ],
        )
  ];
  voted = λ k t j i none a b. elim (split k.voter t j a) [
    | inl z ↦ let same : s.term k.voter ≡ s.term m = ap s.term z.1 in
        absurd (elim (f.bound.votes k i) [ inl lt ↦ omega (arith, lt, same, z.0, b) | inr eq ↦ omega (arith, eq.0, same, z.0, b) ])
    | inr old ↦
        let g = f.acks.own_log k.voter t j old in
        elim (f.acks.voted k t j i none old b) [
          | inl same ↦ inl (same ∙ sym (list_more s.list (s.term m) e t j g.1))
          | inr o ↦ inr (off_lasts t j k.term g.1 o)
        ]
  ];
}
  where
    leads : (s.led (s.term m) ≡ true) × (s.leader (s.term m) ≡ m) × (s.log m ≡ s.list (s.term m))
    leads = f.running.leads m h.role

    split : (i t j : ℕ) → Acked s.led s.leader (at s.list (s.term m) (s.list (s.term m) ++ (e ∷ []))) s.answers i t j
        → ((t ≡ s.term m) × (i ≡ m) × (j ≤ length (at s.list (s.term m) (s.list (s.term m) ++ (e ∷ [])) t)))
        ⊎ Acked s.led s.leader s.list s.answers i t j
    split i t j a = elim a [
      | inr b ↦ inr (inr b)
      | inl l ↦ elim (eqb_tells t (s.term m)) [
        | inl g ↦ inl (g.1, sym l.1 ∙ (ap s.leader g.1 ∙ leads.1), l.2)
        | inr g ↦
            inr (inl (
              l.0,
              l.1,
              subst (λ (x : List Entry). j ≤ length x) (at_other s.list (s.term m) t (s.list (s.term m) ++ (e ∷ [])) g.1) l.2,
            ))
      ]
    ]

    off_lasts : (t j u : ℕ) → j ≤ length (s.list t) → Off s.led s.list t j u
        → Off s.led (at s.list (s.term m) (s.list (s.term m) ++ (e ∷ []))) t j u
    off_lasts t j u b o = (o.0, o.1, o.2, o.3, λ z. o.4 (back t j o.0 o.1 b (z ∙ list_more s.list (s.term m) e t j b)))
      where
        back : (t j w : ℕ) → t < w → j ≤ length (s.list t) → Same j (at s.list (s.term m) (s.list (s.term m) ++ (e ∷ [])) w) (s.list t)
            → Same j (s.list w) (s.list t)
        back t j w above b z = at_each (λ i l. t < i → Same j l (s.list t) → Same j (s.list i) (s.list t)) s.list (s.term m)
            (s.list (s.term m) ++ (e ∷ []))
            (λ up y. elim (less_or j (length (s.list (s.term m)))) [
              | inl c ↦ sym (same_append j (s.list (s.term m)) (e ∷ []) c) ∙ y
              | inr c ↦
                  let p : ℕ = length (s.list (s.term m)) in
                  let one : get_or (s.list (s.term m) ++ (e ∷ [])) (length (s.list (s.term m))) (blank 0)
                  ≡ get_or (s.list t) (length (s.list (s.term m))) (blank 0)
                  = same_get j (length (s.list (s.term m))) (s.list (s.term m) ++ (e ∷ [])) (s.list t) c y in
                  let seam : get_or (s.list (s.term m) ++ (e ∷ [])) (length (s.list (s.term m))) (blank 0) ≡ e
                  = get_or-append_seam (s.list (s.term m)) e [] (blank 0) in
                  let two : e.term ≡ (get_or (s.list t) (length (s.list (s.term m))) (blank 0)).term
                  = ap (λ (x : Entry). x.term) (sym seam ∙ one) in
                  let three : (get_or (s.list t) (length (s.list (s.term m))) (blank 0)).term ≤ t
                  = (f.led.rising t).high (length (s.list (s.term m))) (omega (arith, c, b)) in
                  absurd (omega (arith, two, three, up, h.own_term))
            ])
            (λ i n up y. y) w above z

-- a win: its term was not led
pub acks_win : (s : State) (m : ℕ) → MayWin s m → Facts s
    → Acks (at s.led (s.term m) true) (at s.leader (s.term m) m) (at s.list (s.term m) (s.log m)) s.answers s.term
    s.log s.kept
acks_win s m h f = record {
  own_log = λ i t j a. elim (split i t j a) [
    | inl z ↦
        let there : at s.list (s.term m) (s.log m) t ≡ s.log m = at_here s.list (s.term m) t (s.log m) z.0 in
        (at_here s.led (s.term m) t true z.0, z.2, omega (arith, z.0, ap s.term z.1), inl (ap (take j) (ap s.log z.1 ∙ sym there)))
    | inr z ↦
        let k = f.acks.own_log i t j z.1 in
        let same_list : at s.list (s.term m) (s.log m) t ≡ s.list t = at_other s.list (s.term m) t (s.log m) z.0 in (
          at_other s.led (s.term m) t true z.0 ∙ k.0,
          subst (λ (x : List Entry). j ≤ length x) (sym same_list) k.1,
          k.2,
          elim k.3 [
            | inl same ↦ inl (same ∙ sym (ap (take j) same_list))
            | inr o ↦ inr (off_lasts t j (s.term i + 1) z.0 o)
          ],
        )
  ];
  voted = λ k t j i none a c. elim (split k.voter t j a) [
    | inl z ↦ let same : s.term k.voter ≡ s.term m = ap s.term z.1 in
        absurd (elim (f.bound.votes k i) [ inl lt ↦ omega (arith, lt, same, z.0, c) | inr eq ↦ omega (arith, eq.0, same, z.0, c) ])
    | inr z ↦ elim (f.acks.voted k t j i none z.1 c) [
      | inl same ↦ inl (same ∙ sym (ap (take j) (at_other s.list (s.term m) t (s.log m) z.0)))
      | inr o ↦ inr (off_lasts t j k.term z.0 o)
    ]
  ];
}
  where
    first : s.led (s.term m) ≡ false
    first = alone s f m h.role h.votes

    two : true ≡ false → ⊥
    two e = cc

    not_first : (w : ℕ) → s.led w ≡ true → w ≢ s.term m
    not_first w l e = two (sym l ∙ (ap s.led e ∙ first))

    split : (i t j : ℕ)
        → Acked (at s.led (s.term m) true) (at s.leader (s.term m) m) (at s.list (s.term m) (s.log m)) s.answers i t j →
        ((t ≡ s.term m) × (i ≡ m) × (j ≤ length (at s.list (s.term m) (s.log m) t)))
        ⊎ ((t ≢ s.term m) × Acked s.led s.leader s.list s.answers i t j)
    split i t j a = elim a [
      | inr x ↦
          let q = f.answered.asked x.0 x.1 in
          let p = f.asked.append x.0.request (f.posted.request x.0.request q.0) x.4 in
          inr (not_first t (sym (ap s.led x.5) ∙ p.0), inr x)
      | inl l ↦ elim (eqb_tells t (s.term m)) [
        | inl g ↦ inl (g.1, sym l.1 ∙ at_here s.leader (s.term m) t m g.1, l.2)
        | inr g ↦
            inr (
              g.1,
              inl (
                sym (at_other s.led (s.term m) t true g.1) ∙ l.0,
                sym (at_other s.leader (s.term m) t m g.1)
                    ∙ l.1,
                subst (λ (x : List Entry). j ≤ length x) (at_other s.list (s.term m) t (s.log m) g.1) l.2,
              ),
            )
      ]
    ]

    off_lasts : (t j u : ℕ) → t ≢ s.term m → Off s.led s.list t j u
        → Off (at s.led (s.term m) true) (at s.list (s.term m) (s.log m)) t j u
    off_lasts t j u n o =
        let w = not_first o.0 o.3 in (
          o.0,
          o.1,
          o.2,
          at_other s.led (s.term m) o.0 true w
              ∙ o.3,
          λ z. o.4 (sym (ap (take j) (at_other s.list (s.term m) o.0 (s.log m) w))
              ∙ (z ∙ ap (take j) (at_other s.list (s.term m) t (s.log m) n))),
        )

-- acknowledgements last
pub acks_keeps : (s : State) (e : Micro) → May s e → Facts s
    → Acks (did s e).led (did s e).leader (did s e).list (did s e).answers (did s e).term (did s e).log (did s e).kept
acks_keeps s (Raise m t) may f = acks_raise s m t may.1 f
acks_keeps s (Stand m) may f = acks_stand s m f
acks_keeps s (Grant m n r) may f = acks_grant s m n r may f
acks_keeps s (Deny m n r) may f = acks_deny s (answer_of s m n r false) (λ o p. absurd (cc)) f
acks_keeps s (Accept m n r) may f = acks_accept s m n r may f
acks_keeps s (Win m) may f = acks_win s m may f
acks_keeps s (Cut m r e) may f = acks_cut s m r e may f
acks_keeps s (Grow m r e) may f = acks_grow s m e f
acks_keeps s (Propose m e) may f = acks_propose s m e may f
acks_keeps s _ may f = f.acks
