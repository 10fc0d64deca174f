-- What a change of the lines of a bay does: "bits 0 to 3 the new levels, 1 for asserted, of 1394, USB, removal button, security, taken
-- in this order; an equal level does nothing." Each line finds what the lines before it did. See docs/CHIP.md, "Bays".
use Rattle.std.specs.Prelude.{ℕ, Bool, true, false, cond, not, ◌&&◌, ◌||◌, eqb}
use Rattle.mask.specs.Mask.{has_bit}
use Rattle.bays.specs.Bay.{bay, control, has_device, lines, present}
use Rattle.bays.specs.BayState as state
use Rattle.bays.specs.Bit as bit
use Rattle.bays.specs.declared.bay.Bay.{Bay}
use Rattle.bays.specs.declared.bay.Control.{Control}
use Rattle.bays.specs.declared.bay.Lines.{Lines}

abbrev pub with_lines : Bay → Lines → Bay
with_lines b l = bay b.control b.state b.remreq b.devchg b.form l

-- a device was inserted: DEVSTSCHG is set, and with DEVSTSCHG_EN the state becomes Inserted
unfoldable pub insertion : Bay → Bay
insertion b = bay b.control (cond b.control.devchgen state.inserted b.state) b.remreq true b.form b.lines

-- the control register without its request and its power bit, which "clears when the device leaves"
abbrev pub after_removal : Control → Control
after_removal c = control c.lock 0 c.remreqen c.devchgen c.wakeen false

-- the device was removed: DEVSTSCHG is set "on all device removals except when the REMEVTWAK_EN bit in the BCER is clear and the bay is
-- in the Removal Allowed state" (the data sheet)
unfoldable pub removal : Bay → Bay
removal b =
    bay (after_removal b.control) state.empty b.remreq
    (b.devchg || not (eqb b.state state.removal_allowed && not b.control.wakeen))
    b.form b.lines

-- a new level of 1394 or USB: an insertion if there is a device only now, a removal if there was one only before
unfoldable pub presence_taken : Bay → Lines → Bay
presence_taken b l =
    cond (has_device b) (cond (present l) (with_lines b l) (removal (with_lines b l)))
    (cond (present l) (insertion (with_lines b l)) (with_lines b l))

unfoldable pub take1394 : Bay → Bool → Bay
take1394 b level = presence_taken b (lines level b.lines.usb b.lines.button b.lines.security)

unfoldable pub take_usb : Bay → Bool → Bay
take_usb b level = presence_taken b (lines b.lines.ieee1394 level b.lines.button b.lines.security)

-- the button was pressed: REMREQ_STS is set, and with REMREQ_EN the state becomes Removal Requested
unfoldable pub button_pressed : Bay → Bay
button_pressed b =
    bay b.control (cond b.control.remreqen state.removal_requested b.state) true b.devchg b.form b.lines

abbrev pub with_button : Bay → Bool → Bay
with_button b level = with_lines b (lines b.lines.ieee1394 b.lines.usb level b.lines.security)

-- only with a device, and only when the level rises
unfoldable pub take_button : Bay → Bool → Bay
take_button b level =
    cond (level && (not b.lines.button && has_device b)) (button_pressed (with_button b level)) (with_button b level)

unfoldable pub take_security : Bay → Bool → Bay
take_security b level = with_lines b (lines b.lines.ieee1394 b.lines.usb b.lines.button level)

unfoldable pub lines_event : Bay → ℕ → Bay
lines_event b operand =
    take_security
    (take_button (take_usb (take1394 b (has_bit bit.line1394 operand)) (has_bit bit.line_usb operand)) (has_bit bit.line_button operand))
    (has_bit bit.line_security operand)
