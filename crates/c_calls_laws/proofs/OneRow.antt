-- What a row at a member leaves of it, where nothing is set to fail.
use Rattle.std.proofs.Common.{◌≡◌, ◌≢◌, ℕ, ◌+◌, [], refl, sym, ap, subst, ◌∙◌, Some}
use Rattle.bus_rows.specs.declared.row.Row.{Row}
use Rattle.bus_rows.specs.declared.row.Row.TheVariants.{AEnd, AOpen, ARx, ASend, ATick, Crash, Ext, Fault, Open, Rx, Send, Tick}
use Rattle.alloc_spec.specs.AllocatorState.{AllocatorState}
use Rattle.alloc_spec.specs.Step.{Event, after_pop, step}
use Rattle.bus_spec.specs.Cluster.{Cluster, after_row, with_member}
use Rattle.bus_spec.specs.Members.{Member, MemberStatus, after_sending, member_after_step}
use Rattle.bus_spec.specs.Members.MemberStatus.{Up}
use Rattle.cmd_node_laws.specs.Mirrored.{IsCalm, sent_in}
use Rattle.cmd_node_laws.proofs.Calm.{step_calm, step_done, written}
use Rattle.cmd_node_laws.proofs.Others.{IsAt as IsRowAt, row_member, row_sent}
use Rattle.cmd_node_laws.proofs.Places.{own_is}
use Rattle.c_calls_laws.specs.OnBus.{member_of}

-- the member stands there, and nothing is set to fail
pub record Leaves (x : Member) (server : AllocatorState) : Type 0 where
  pub runs : x.status ≡ Up server
  pub calm : IsCalm x

pub step_leaves : (w : Cluster) (n : ℕ) (server : AllocatorState) (event : Event) → (w.member n).status ≡ Up server → IsCalm (w.member n)
    → Leaves ((with_member w n (member_after_step (w.rows + 1) event (w.member n).status (w.member n))).member n) (step server (w.rows + 1) event).step_state.allocator
step_leaves w n server event runs calm =
    let here : (with_member w n (member_after_step (w.rows + 1) event (w.member n).status (w.member n))).member n ≡ written (w.member n) (step server (w.rows + 1) event).step_state =
    own_is w n _ ∙ ap (λ (status : MemberStatus). member_after_step (w.rows + 1) event status (w.member n)) runs
    ∙ step_done (w.member n) (w.rows + 1) server (step server (w.rows + 1) event).step_state calm in
    record {
      runs = ap (λ (x : Member). x.status) here;
      calm = subst IsCalm (sym here) (step_calm (w.member n) (step server (w.rows + 1) event).step_state calm);
    }

pub send_leaves : (w : Cluster) (n : ℕ) (server : AllocatorState) → (w.member n).status ≡ Up server → IsCalm (w.member n) → Leaves ((after_row w (Send n)).member n) (after_pop server)
send_leaves w n server runs calm =
    let sent : Member = record (w.member n) { status = Up (after_pop server) } in
    let here : (after_row w (Send n)).member n ≡ sent =
    own_is w n _ ∙ ap (λ (status : MemberStatus). record (w.member n) { status = after_sending status }) runs in
    record {
      runs = ap (λ (x : Member). x.status) here;
      calm = subst IsCalm (sym here) (record { calls = calm.calls; nothing_unsynced = calm.nothing_unsynced; works = tt });
    }

-- ---- rows of others

its_own : (row : Row) → IsRowAt (member_of row) row
its_own (Open m told ms word) = refl
its_own (Tick m ms word) = refl
its_own (Rx m k ms) = refl
its_own (Send m) = refl
its_own (Ext frame) = tt
its_own (Crash m calls pattern) = refl
its_own (Fault m call) = refl
its_own (AOpen a uid pref ms word) = tt
its_own (ATick a ms word) = tt
its_own (ARx a k ms word) = tt
its_own (ASend a) = tt
its_own (AEnd a) = tt

pub others_leave : (w : Cluster) (n : ℕ) (row : Row) → Some n ≢ member_of row → (after_row w row).member n ≡ w.member n
others_leave w n row apart = row_member (member_of row) n apart w row (its_own row)

pub others_send : (w : Cluster) (n : ℕ) (row : Row) → Some n ≢ member_of row → sent_in n w row ≡ []
others_send w n row apart = row_sent (member_of row) n apart w row (its_own row)
