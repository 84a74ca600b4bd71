use Rattle.std.proofs.Common.{◌≡◌, ◌≤◌, length, sym, subst, arith}
use Rattle.dsdl_codec.specs.HardwareVersion.{BeginsWithHardwareVersion}
use Rattle.dsdl_codec.proofs.NodeInfos.{count_behind, length-behind, hardware_sizes, node_info_of_short, node_info_of_long, node_info_of_spelled, spelled_parts, begins_with_status, then_software, then_hardware, spelled_status, spelled_software}
use Rattle.dsdl_codec.proofs.node_info.NodeInfo.read.Goals as goal

pub returns-in_err-status-clause-none : goal.returns-in_err-status-clause-none
returns-in_err-status-clause-none c = λ _ info s. c.in_err-status.ensures.only _ _ (begins_with_status info _ s)

pub returns-in_err-status-clause-only : goal.returns-in_err-status-clause-only
returns-in_err-status-clause-only c = λ info s. absurd (c.in_err-status.ensures.only _ _ (begins_with_status info _ s))

pub returns-in_err-software-clause-none : goal.returns-in_err-software-clause-none
returns-in_err-software-clause-none c = λ _ info s.
    let status = c.in_ok-status.ensures.only _ _ (begins_with_status info _ s) in
    c.in_err-software.ensures.only _ _ (then_software info _ s _ status.1)

pub returns-in_err-software-clause-only : goal.returns-in_err-software-clause-only
returns-in_err-software-clause-only c = λ info s.
    let status = c.in_ok-status.ensures.only _ _ (begins_with_status info _ s) in
    absurd (c.in_err-software.ensures.only _ _ (then_software info _ s _ status.1))

pub returns-in_err-hardware-clause-none : goal.returns-in_err-hardware-clause-none
returns-in_err-hardware-clause-none c = λ _ info s.
    let status = c.in_ok-status.ensures.only _ _ (begins_with_status info _ s) in
    let software = c.in_ok-software.ensures.only _ _ (then_software info _ s _ status.1) in
    c.in_err-hardware.ensures.only _ _ (then_hardware info _ s _ software.1)

pub returns-in_err-hardware-clause-only : goal.returns-in_err-hardware-clause-only
returns-in_err-hardware-clause-only c = λ info s.
    let status = c.in_ok-status.ensures.only _ _ (begins_with_status info _ s) in
    let software = c.in_ok-software.ensures.only _ _ (then_software info _ s _ status.1) in
    absurd (c.in_err-hardware.ensures.only _ _ (then_hardware info _ s _ software.1))

pub returns-in_err-ok-clause-none : goal.returns-in_err-ok-clause-none
returns-in_err-ok-clause-none c = λ _ info s.
    let status = c.in_ok-status.ensures.only _ _ (begins_with_status info _ s) in
    let software = c.in_ok-software.ensures.only _ _ (then_software info _ s _ status.1) in
    let hardware = c.in_ok-hardware.ensures.only _ _ (then_hardware info _ s _ software.1) in
    let name = s.fits.name in
    grind (arith, hardware.1, name)

pub returns-in_err-ok-clause-only : goal.returns-in_err-ok-clause-only
returns-in_err-ok-clause-only c = λ info s.
    let status = c.in_ok-status.ensures.only _ _ (begins_with_status info _ s) in
    let software = c.in_ok-software.ensures.only _ _ (then_software info _ s _ status.1) in
    let hardware = c.in_ok-hardware.ensures.only _ _ (then_hardware info _ s _ software.1) in
    let name = s.fits.name in
    absurd (grind (arith, hardware.1, name))

pub returns-clause-only : goal.returns-clause-only
returns-clause-only c = λ info s.
    let status = c.in_ok-status.ensures.only _ _ (begins_with_status info _ s) in
    let software = c.in_ok-software.ensures.only _ _ (then_software info _ s _ status.1) in
    let hardware = c.in_ok-hardware.ensures.only _ _ (then_hardware info _ s _ software.1) in
    let state = c.from_bytes.ensures.only _ (spelled_status info _ s _ status.0) in
    let version = c.from_bytes-software.ensures.only _ (spelled_software info _ s _ software.0) in
    grind (arith, state, version, hardware.0, hardware.1)

pub returns-in_err-status-clause-value : goal.returns-in_err-status-clause-value
returns-in_err-status-clause-value c =
    let short = c.in_err-status.ensures.short in
    let none = node_info_of_short c.args.payload.now (grind arith) in
    grind (arith, none)

pub returns-in_err-software-clause-value : goal.returns-in_err-software-clause-value
returns-in_err-software-clause-value c =
    let size = length-behind _ _ _ _ c.in_ok-status.ensures.found in
    let short = c.in_err-software.ensures.short in
    let none = node_info_of_short c.args.payload.now (grind (arith, size, short)) in
    grind (arith, none)

pub returns-in_err-hardware-clause-value : goal.returns-in_err-hardware-clause-value
returns-in_err-hardware-clause-value c =
    let count = count_behind _ _ _ _ _ c.in_ok-status.ensures.found c.in_ok-software.ensures.found in
    let short = c.in_err-hardware.ensures.short in
    let none = node_info_of_short c.args.payload.now (grind (arith, count.0, count.1, short)) in
    grind (arith, none)

pub returns-in_err-ok-clause-value : goal.returns-in_err-ok-clause-value
returns-in_err-ok-clause-value c =
    let count = count_behind _ _ _ _ _ c.in_ok-status.ensures.found c.in_ok-software.ensures.found in
    let sizes = hardware_sizes _ _ _ c.in_ok-hardware.ensures.found in
    let none = node_info_of_long c.args.payload.now (grind (arith, count.0, count.1, sizes.0, sizes.1)) in
    grind (arith, none)

pub returns-clause-value : goal.returns-clause-value
returns-clause-value c =
    let name : c.in_ok-ok.field-0.items ≡ c.in_ok-hardware.name.now = grind arith in
    let short : length c.in_ok-ok.field-0.items ≤ 80 = grind arith in
    let hardware = subst (λ left. BeginsWithHardwareVersion c.in_ok-hardware.hardware left c.in_ok-software.rest.now) (sym name) c.in_ok-hardware.ensures.found in
    sym (node_info_of_spelled _ _
    (spelled_parts _ _ _ _ _ _ c.in_ok-status.ensures.found c.in_ok-software.ensures.found hardware c.from_bytes.ensures.found c.from_bytes-software.ensures.found short))
