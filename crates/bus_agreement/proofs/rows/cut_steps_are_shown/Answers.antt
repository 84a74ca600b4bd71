use Rattle.std.proofs.Common.{Bool, sym, ap, subst}
use Rattle.std.specs.Prelude.{◌+◌, if◌then◌else◌}
use Rattle.raft_log.specs.KeyDisk.{puts_on}
use Rattle.raft_model.specs.Lists.{at}
use Rattle.raft_model.specs.Runs.{World, after}
use Rattle.bus_spec.specs.Members.{MemberStatus, Member, after_cut_off, puts_of, member_after_step}
use Rattle.bus_spec.specs.Members.MemberStatus.{Up}
use Rattle.alloc_spec.specs.Step.{step}
use Rattle.bus_agreement.specs.Shows.{Shows, ShowsMember}
use Rattle.bus_agreement.proofs.CutOffSteps.{CutLaws, cut_at}
use Rattle.bus_agreement.proofs.rows.cut_steps_are_shown.Goals as goal

pub returns : goal.returns
returns c =
    let frame_laws = c.what_is_said_of_frames.ensures in
    let codec = c.what_is_said_of_messages.ensures in
    let laws = c.what_is_said_of_a_step.ensures in
    let more = c.what_a_step_keeps.ensures in
    let cuts : CutLaws = record {
      counted = λ puts calls e. (c.the_disk_by_states.ensures.counted puts calls).2 e;
      found_again = c.the_disk_by_states.ensures.found_again;
      front = c.puts_are_stored.ensures.front;
      apart = c.law_joined.ensures.apart;
    } in
    λ choice made w run members shows sound written n t event listed runs may narrow failed.
    let is = subst (λ (status : MemberStatus). ShowsMember choice made w.ids w.frames run n status (w.member n).disk) runs (shows.lives n listed) in
    let f = cut_at laws more cuts frame_laws codec choice made w run shows members sound written t event may narrow n is.runs.me listed is failed in
    let step_state = (step t (w.rows + 1) event).step_state in
    let run_then : World = after run f.stop_event in
    let up : Member = record (w.member n) { status = Up step_state.allocator; disk = puts_on (puts_of (w.member n) step_state) (w.member n).disk } in (
      f.stop_event,
      f.is_one,
      f.may_be,
      f.stays_written,
      subst (λ (status : MemberStatus). Shows choice made (record w { member = at w.member n (member_after_step (w.rows + 1) event status (w.member n)); rows = w.rows + 1 }) run_then) (sym runs)
          (subst (λ (x : Member). Shows choice made (record w { member = at w.member n x; rows = w.rows + 1 }) run_then)
          (sym (ap (λ (b : Bool). if b then up else after_cut_off (w.member n) (w.rows + 1) t step_state (puts_on (puts_of (w.member n) step_state) (w.member n).disk)) failed)) f.shown_then),
    )
