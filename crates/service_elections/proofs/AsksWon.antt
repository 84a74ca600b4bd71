-- Who comes to lead in a row of a calm has asked another member of the group for its vote, in its term and four delays
-- before at most.
use Rattle.std.proofs.Common.{◌≡◌, ◌≢◌, ℕ, ◌+◌, ◌*◌, ◌≤◌, arith, List, [], ◌∷◌, ◌++◌, max, inl, inr, refl, sym, ◌∙◌, ap, subst}
use Rattle.std.specs.Prelude.{◌⊎◌}
use Rattle.std.proofs.lemmas.List.{append_assoc, append-nil}
use Rattle.raft_model.specs.Lists.{In}
use Rattle.raft_model.specs.Server.{Role}
use Rattle.raft_model.specs.Server.Role.{Candidate, Follower, Leader}
use Rattle.bus_rows.specs.declared.row.Row.{Row}
use Rattle.bus_rows.specs.declared.row.Row.TheVariants.{Rx}
use Rattle.transfer_rx.specs.Reassembly.{Delivery, Gives, answer}
use Rattle.alloc_spec.specs.Accepted.{setting_for}
use Rattle.alloc_spec.specs.AllocatorState.{AllocatorState}
use Rattle.alloc_spec_laws.proofs.Lists.{in_back, in_front}
use Rattle.bus_agreement.proofs.TakenMessages.{is_vote}
use Rattle.bus_rows.specs.Timed.{Timed}
use Rattle.service_alone.specs.Calm.{end_of}
use Rattle.service_candidate.specs.Votes.{AsksFor, Stands, VoteComes}
use Rattle.service_candidate.specs.Wins.{OffersVoteRequest}
use Rattle.service_candidate.proofs.ResponsesDelivered.{IsWhole}
use Rattle.service_candidate.proofs.RowsLeave.{row_leaves}
use Rattle.service_candidate.proofs.TermsSteps.{stands_or_stays}
use Rattle.service_candidate.proofs.WinsFronts.{here_more}
use Rattle.service_leader.proofs.Stretches.{end_last, in_between}
use Rattle.service_elections.specs.Sent.{HasAsked}
use Rattle.service_elections.proofs.AsksRoles.{BringsVote, frame_role}
use Rattle.service_elections.proofs.AsksScene.{Asker, IsOne, here, laws_at, listed, lists_next, one_is, runs_next, the_calm, w0, was_one}
use Rattle.service_elections.proofs.CalmFronts.{goes_at, harm_row, runs_at}
use Rattle.service_calm.specs.Calm.{Member as OfMember}
use Rattle.service_calm.specs.Comes.{delivery_of}
use Rattle.bus_spec.specs.Cluster.{Cluster, after_row, arrival_at, frame_at, step_of, tick_of}
use Rattle.bus_spec.specs.Members.MemberStatus.{Up}

leads_not : (role : Role) → role ≡ Follower → role ≡ Leader → ⊥
leads_not role e f = cc (sym e ∙ f)

stands_not : (role : Role) → role ≡ Candidate → role ≡ Leader → ⊥
stands_not role e f = cc (sym e ∙ f)

module _ (s : Asker) where
  -- ---- who is a candidate has been one in its term, or has stood since

  -- in one of these rows, which stand behind others, the member stands in this term
  pub record HasStoodIn (term : ℕ) (done more : List Timed) : Type 0 where
    pub first : List Timed
    pub timed : Timed
    pub rest : List Timed
    pub split : more ≡ first ++ timed ∷ rest
    pub stands : Stands s.n term (here s (done ++ first)) timed.row

  abbrev pub IsOneAt : ℕ → List Timed → Type 0
  IsOneAt term a = (t : AllocatorState) → ((here s a).member s.n).status ≡ Up t → IsOne s term t

  one_since : (more done b : List Timed) (term : ℕ) → s.whole ≡ done ++ (more ++ b) → IsOneAt term (done ++ more) → HasStoodIn term done more ⊎ IsOneAt term done
  one_since [] done b term e is = inr (subst (IsOneAt term) (append-nil done) is)
  one_since (x ∷ more) done b term e is =
      elim (one_since more (done ++ x ∷ []) b term (e ∙ sym (append_assoc done (x ∷ []) (more ++ b)))
      (subst (IsOneAt term) (sym (append_assoc done (x ∷ []) more)) is)) [
        | inl stood ↦ inl (record {
          first = x ∷ stood.first;
          timed = stood.timed;
          rest = stood.rest;
          split = ap (λ (l : List Timed). x ∷ l) stood.split;
          stands = subst (λ (l : List Timed). Stands s.n term (here s l) stood.timed.row) (append_assoc done (x ∷ []) stood.first) stood.stands;
        })
        | inr one ↦ by one
      ]
    where
      by : IsOneAt term (done ++ x ∷ []) → HasStoodIn term done (x ∷ more) ⊎ IsOneAt term done
      by one =
          let before = runs_at (the_calm s) s.n s.member done (x ∷ (more ++ b)) e in
          let behind = runs_next s s.n s.member done (more ++ b) x e in
          elim (was_one s done (more ++ b) x e before.server behind.server before.up.status behind.up.status term
          (one behind.server (ap (λ (w : Cluster). (w.member s.n).status) (here_more (w0 s) done x) ∙ behind.up.status))) [
            | inl st ↦ inl (record {
              first = [];
              timed = x;
              rest = more;
              split = refl;
              stands = subst (λ (l : List Timed). Stands s.n term (here s l) x.row) (sym (append-nil done)) st;
            })
            | inr was ↦ inr (λ t up. subst (IsOne s term) (one_is s (here s done) before.server t before.up.status up) was)
          ]

  -- ---- the row in which it comes to lead

  module _ (a b : List Timed) (x : Timed) (e : s.whole ≡ a ++ x ∷ b) (t u : AllocatorState) (up : ((here s a).member s.n).status ≡ Up t)
      (up_then : ((after_row (here s a) x.row).member s.n).status ≡ Up u) (not_before : t.raft_server.memory.role ≢ Leader) (leads : u.raft_server.memory.role ≡ Leader) where
    -- it was a candidate in its term, and a response is delivered to it
    pub record IsWon : Type 0 where
      pub k : ℕ
      pub ms : ℕ
      pub comes : x.row ≡ Rx s.n k ms
      pub brings : BringsVote t (arrival_at (frame_at (here s a).frames k) ms)
      pub was : IsOne s u.raft_server.store.term t

    pub is_won : IsWon
    is_won = elim (row_leaves (here s a) s.n t u up x.row (harm_row (the_calm s) a b x e) up_then) [
      | inl ticked ↦
          let its = (laws_at s a (x ∷ b) e).starts s.n t (listed s) up in
          absurd (elim (stands_or_stays s.listing ((here s a).rows + 1) t ticked.ms ticked.word its.0 (let size = its.1 in let two = s.calm.others in omega (arith, size, two))) [
            | inl same ↦ not_before (sym same.role ∙ (ap (λ (q : AllocatorState). q.raft_server.memory.role) (sym ticked.is) ∙ leads))
            | inr stood ↦ stands_not _ stood.0 (ap (λ (q : AllocatorState). q.raft_server.memory.role) (sym ticked.is) ∙ leads)
          ])
      | inr (inl received) ↦ elim (frame_role ((here s a).rows + 1) t (arrival_at (frame_at (here s a).frames received.k) received.ms)) [
        | inl f ↦ absurd (leads_not _ f (ap (λ (q : AllocatorState). q.raft_server.memory.role) (sym received.is) ∙ leads))
        | inr (inl k) ↦ absurd (not_before (sym k.0 ∙ (ap (λ (q : AllocatorState). q.raft_server.memory.role) (sym received.is) ∙ leads)))
        | inr (inr w) ↦ record {
          k = received.k;
          ms = received.ms;
          comes = received.comes;
          brings = w.3;
          was = (w.0, sym w.2 ∙ ap (λ (q : AllocatorState). q.raft_server.store.term) (sym received.is));
        }
      ]
      | inr (inr (inl same)) ↦ absurd (not_before (ap (λ (q : AllocatorState). q.raft_server.memory.role) (sym same) ∙ leads))
      | inr (inr (inr sent)) ↦ absurd (not_before (ap (λ (q : AllocatorState). q.raft_server.memory.role) (sym sent) ∙ leads))
    ]

    -- the response is a vote answer of the member that is its source
    pub vote_comes : (won : IsWon) → IsWhole won.brings.delivery → VoteComes s.n won.brings.delivery.ident.source won.brings.delivery.id (here s a) x.row
    vote_comes won y = record {
      y = y.transfer;
      by = ap (λ (d : Delivery). d.ident.source) y.is;
      what = is_vote y.transfer.offer.what (ap (λ (d : Delivery). d.ident.kind) y.is ∙ won.brings.kind)
          (λ f. won.brings.first (sym (ap (λ (d : Delivery). d.ident.number) y.is) ∙ f)) (λ f. won.brings.thirty (sym (ap (λ (d : Delivery). d.ident.number) y.is) ∙ f));
      its_id = ap (λ (d : Delivery). d.id) y.is;
      delivers = record {
        k = won.k;
        ms = won.ms;
        comes = won.comes;
        server = t;
        runs = up;
        gives = subst (λ (p : ℕ). answer (setting_for p) t.sessions (arrival_at (frame_at (here s a).frames won.k) (max t.now won.ms)) ≡ Gives (delivery_of y.transfer))
            ((laws_at s a (x ∷ b) e).me s.n t (listed s) up) (won.brings.gives ∙ ap (λ (d : Delivery). Gives d) (sym y.is));
      };
    }

    -- ---- it has asked

    module _ (m : ℕ) (in_m : In (OfMember m) s.group) (other : m ≢ s.n) (won : IsWon) where
      abbrev term : ℕ
      term = u.raft_server.store.term

      -- a request to the member, of which nothing is known but when it was made
      pub record IsAskedAt (at : ℕ) : Type 0 where
        pub first : List Timed
        pub timed : Timed
        pub more : List Timed
        pub split : a ≡ first ++ timed ∷ more
        pub its : timed.at ≡ at
        pub asks : OffersVoteRequest s.n m (here s first) timed.row

      module _ (at : ℕ) (q : IsAskedAt at) (late : x.at ≤ at + 4 * s.pace.delay) where
        cut : s.whole ≡ (q.first ++ q.timed ∷ []) ++ (q.more ++ x ∷ b)
        cut = e ∙ (ap (λ (l : List Timed). l ++ x ∷ b) q.split
            ∙ (append_assoc q.first (q.timed ∷ q.more) (x ∷ b) ∙ sym (append_assoc q.first (q.timed ∷ []) (q.more ++ x ∷ b))))

        a_is : (q.first ++ q.timed ∷ []) ++ q.more ≡ a
        a_is = append_assoc q.first (q.timed ∷ []) q.more ∙ sym q.split

        -- it has been a candidate since, or stood behind the row
        since : HasStoodIn u.raft_server.store.term (q.first ++ q.timed ∷ []) q.more ⊎ IsOneAt u.raft_server.store.term (q.first ++ q.timed ∷ [])
        since = one_since q.more (q.first ++ q.timed ∷ []) (x ∷ b) u.raft_server.store.term cut
            (subst (IsOneAt u.raft_server.store.term) (sym a_is) (λ v runs. subst (IsOne s u.raft_server.store.term) (one_is s (here s a) t v up runs) won.was))

        by_one : IsOneAt u.raft_server.store.term (q.first ++ q.timed ∷ []) → HasAsked s.group s.n u.raft_server.store.term x.at (4 * s.pace.delay) (w0 s) a
        by_one one =
            let cut_here : s.whole ≡ q.first ++ q.timed ∷ (q.more ++ x ∷ b) = cut ∙ append_assoc q.first (q.timed ∷ []) (q.more ++ x ∷ b) in
            let runs = runs_next s s.n s.member q.first (q.more ++ x ∷ b) q.timed cut_here in
            let is = one runs.server (ap (λ (w : Cluster). (w.member s.n).status) (here_more (w0 s) q.first q.timed) ∙ runs.up.status) in record {
              front = q.first;
              timed = q.timed;
              rest = q.more;
              split = q.split;
              lately = let same = q.its in omega (arith, late, same);
              m = m;
              member = in_m;
              other = other;
              asks = q.asks;
              server = runs.server;
              runs = runs.up.status;
              stands = is.0;
              its_term = is.1;
            }

        -- who stood has asked in that row
        module _ (h : HasStoodIn u.raft_server.store.term (q.first ++ q.timed ∷ []) q.more) where
          abbrev upto : List Timed
          upto = (q.first ++ q.timed ∷ []) ++ h.first

          a_split : a ≡ upto ++ h.timed ∷ h.rest
          a_split = sym a_is ∙ (ap (λ (l : List Timed). (q.first ++ q.timed ∷ []) ++ l) h.split ∙ sym (append_assoc (q.first ++ q.timed ∷ []) h.first (h.timed ∷ h.rest)))

          whole_split : s.whole ≡ upto ++ h.timed ∷ (h.rest ++ x ∷ b)
          whole_split = e ∙ (ap (λ (l : List Timed). l ++ x ∷ b) a_split ∙ append_assoc upto (h.timed ∷ h.rest) (x ∷ b))

          asks_it : AsksFor s.n m u.raft_server.store.term (here s upto) h.timed.row h.stands
          asks_it = ((laws_at s upto (h.timed ∷ (h.rest ++ x ∷ b)) whole_split).asked s.n u.raft_server.store.term h.timed.row (listed s)
              (harm_row (the_calm s) upto (h.rest ++ x ∷ b) h.timed whole_split) h.stands).asks m
              (lists_next s m (s.calm.ask s.n m s.member in_m (λ f. other (sym f))).asks_it upto (h.rest ++ x ∷ b) h.timed whole_split h.stands.after h.stands.runs_then) other

          later : q.timed.at ≤ h.timed.at
          later =
              let k = in_between s.group s.clocks s.pace (q.more ++ x ∷ b) (end_of s.start (q.first ++ q.timed ∷ [])) (here s (q.first ++ q.timed ∷ []))
              (goes_at (the_calm s) (q.first ++ q.timed ∷ []) (q.more ++ x ∷ b) cut) h.timed
              (in_front h.timed q.more (x ∷ b) (subst (λ (l : List Timed). In h.timed l) (sym h.split) (in_back h.timed h.first (h.timed ∷ h.rest) (inl refl)))) in
              let l = end_last s.start q.first q.timed in let low = k.0 in omega (arith, low, l)

          by_standing : HasAsked s.group s.n u.raft_server.store.term x.at (4 * s.pace.delay) (w0 s) a
          by_standing = record {
            front = upto;
            timed = h.timed;
            rest = h.rest;
            split = a_split;
            lately = let same = q.its in let l = later in omega (arith, late, same, l);
            m = m;
            member = in_m;
            other = other;
            asks = record {
              server = h.stands.before;
              runs = h.stands.runs;
              event = tick_of h.stands.ms h.stands.word;
              in_step = ap (λ (r : Row). step_of (here s upto) r) h.stands.reads;
              offer = asks_it.offer;
              offered = asks_it.offered;
              what = asks_it.what;
              to = asks_it.to;
            };
            server = h.stands.after;
            runs = h.stands.runs_then;
            stands = h.stands.stands;
            its_term = h.stands.its_term;
          }

        pub has_asked : HasAsked s.group s.n u.raft_server.store.term x.at (4 * s.pace.delay) (w0 s) a
        has_asked = elim since [ inl h ↦ by_standing h | inr one ↦ by_one one ]
