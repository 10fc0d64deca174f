-- `call::event` replies `saved_event` and leaves `bytes_after_event` in the bytes. proofs/Calls.antt has its cases.
use Rattle.std.proofs.Common.{rules, sym, ◌∙◌}
use Rattle.state.proofs.Calls.{event_made_reply, event_unheld, room_to_save}
use Rattle.state.proofs.Slices.{holds_length}
use Rattle.state.proofs.call.event.Goals as goal

pub read_from-device-requires : goal.read_from-device-requires
read_from-device-requires c = holds_length _ (sym c.holds_device.ensures ∙ c.if-not-holds_device.false)

pub returns-then-not-holds_device-clause-reply : goal.returns-then-not-holds_device-clause-reply
returns-then-not-holds_device-clause-reply c = (event_unheld _ c.args.number (sym c.holds_device.ensures ∙ c.if-not-holds_device.true)).0

pub returns-then-not-holds_device-clause-bytes : goal.returns-then-not-holds_device-clause-bytes
returns-then-not-holds_device-clause-bytes c = (event_unheld _ c.args.number (sym c.holds_device.ensures ∙ c.if-not-holds_device.true)).1

pub returns-in_err-save-clause-reply : goal.returns-in_err-save-clause-reply
returns-in_err-save-clause-reply c = absurd (room_to_save _ c.in_err-save.field-0.0 (sym c.holds_device.ensures ∙ c.if-not-holds_device.false) c.in_err-save.ensures.refusal)

pub returns-in_err-save-clause-bytes : goal.returns-in_err-save-clause-bytes
returns-in_err-save-clause-bytes c = absurd (room_to_save _ c.in_err-save.field-0.0 (sym c.holds_device.ensures ∙ c.if-not-holds_device.false) c.in_err-save.ensures.refusal)

pub returns-clause-reply : goal.returns-clause-reply
returns-clause-reply c = rw c.outputs-outputs.ensures (event_made_reply _ c.args.number _ c.apply_event-next.result (sym c.holds_device.ensures ∙ c.if-not-holds_device.false, c.read_from-device.ensures) (search rules) c.apply_event-next.ensures).0

pub returns-clause-bytes : goal.returns-clause-bytes
returns-clause-bytes c = rw c.save.ensures.bytes (event_made_reply _ c.args.number _ c.apply_event-next.result (sym c.holds_device.ensures ∙ c.if-not-holds_device.false, c.read_from-device.ensures) (search rules) c.apply_event-next.ensures).1
