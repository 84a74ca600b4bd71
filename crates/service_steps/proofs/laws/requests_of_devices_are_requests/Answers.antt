use Rattle.service_steps.proofs.Devices.{is_request}
use Rattle.service_steps.proofs.laws.requests_of_devices_are_requests.Goals as goal

pub returns : goal.returns
returns c = is_request c.identifiers_both_ways.ensures.read_again c.frames_read_as_their_pieces.ensures c.allocations_both_ways.ensures.read_again
