use Rattle.bus_agreement.proofs.Devices.{DeviceLaws, came_shown, left_shown, put_shown, received_shown, ticked_shown}
use Rattle.bus_agreement.proofs.rows.rows_of_allocatees_are_shown.Goals as goal

pub returns : goal.returns
returns c =
    let frame_laws = c.what_is_said_of_frames.ensures in
    let laws : DeviceLaws = record {
      given = c.a_node_id_is_given_for_good.ensures.given;
      uid = c.a_node_id_is_given_for_good.ensures.uid;
      quiet = c.its_frames_are_anonymous.ensures.none;
      stepped = c.its_frames_are_anonymous.ensures.step;
      sent = c.its_frames_are_anonymous.ensures.popped;
      frame = c.sessions_of_a_step.ensures.frame;
      tick = c.sessions_of_a_step.ensures.tick;
      untorn = c.what_is_fine_is_not_torn.ensures;
      kept = λ setting before arrivals sessions. c.frames_are_kept_under_their_key.ensures.run setting before arrivals sessions;
    } in
    record {
      came = λ choice made w run shows a uid pref ms word. came_shown choice made w run shows a laws uid pref ms word;
      ticked = λ choice made w run members shows a ms word. ticked_shown choice made w run shows a laws frame_laws members ms word;
      received = λ choice made w run members shows a k ms word lawful. received_shown choice made w run shows a laws frame_laws members k ms word lawful;
      sent = λ choice made w run shows a lawful. put_shown choice made w run shows a laws lawful;
      left = λ choice made w run shows a. left_shown choice made w run shows a;
    }
