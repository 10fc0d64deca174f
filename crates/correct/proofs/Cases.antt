-- The cases P1 to P11 hold, all in one statement, and so do the cases about owners. Each is a test without variables, so the definitions
-- compute it to true.
use mathlib.Core.Path.{◌≡◌, refl}
use mathlib.Core.Bool.{true}
use Rattle.access.specs.Status.{read_value}
use Rattle.acpi.specs.Acpi.{acpi_access, acpi_event, acpi_reset, acpi_settle}
use Rattle.acpi.specs.Event.{ticked}
use Rattle.acpi.specs.Registers.{
  control_write as acpi_control,
  register_read as acpi_read,
  register_value,
  register_write as acpi_write,
  takes,
}
use Rattle.acpi.specs.Settle.{pending, sci_on, smi_on, wake}
use Rattle.acpi.specs.Setup.{setup_index_write}
use Rattle.config.specs.Config.{
  config_access,
  control_write,
  data_read,
  data_write,
  index_read,
  index_write,
  register_read,
  register_write,
}
use Rattle.key.specs.Key.{key_access, key_read, key_write}
use Rattle.monitor.specs.Monitor.{data_read as monitor_read, lockable_write, monitor_access, write_as}
use Rattle.device.specs.Device.{reset_device}
use Rattle.device.specs.Dispatch.{device_access, dispatch}
use Rattle.device.specs.Event.{apply_event, event_block, event_effect}
use Rattle.device.specs.Owner.{key_claims, monitor_claims, owner}
use Rattle.compiler.specs.Words.{words_of}
use Rattle.record.specs.Record.{bytes_of, record_at}
use Rattle.script.specs.Nested.{script_body}
use Rattle.script.specs.Records.{records_of}
use Rattle.script.specs.Refusals.{record_fault, script_refusal}
use Rattle.semantics.specs.OwnRun.{script_run}
use Rattle.semantics.specs.World.{after_read, after_test, after_write, entry_logged, shares_one, value_read}
use Rattle.sequencer.specs.Run.{image_run}
use Rattle.step.specs.Step.{execute, next_step, word_fault}
use Rattle.step.specs.Word.{bad_word}
use Rattle.lists.specs.Tests.{all_hold}
use Rattle.correct.specs.Cases.{
  cases,
  owner_cases,
  owner_of_the_moment,
  p1,
  p2,
  p3,
  p4,
  p5,
  p6,
  p7,
  p8,
  p9,
  p10,
  p11,
  run_owners,
  trace_case,
  wrong_width,
}

pub cases_hold : all_hold cases ≡ true
unfolding p1 p2 p3 p4 p5 p6 p7 p8 p9 p10 p11
    device_access dispatch read_value owner key_claims monitor_claims apply_event event_effect event_block reset_device
    config_access data_read register_read index_write data_write register_write control_write key_access key_read key_write
    monitor_access monitor_read write_as lockable_write
    acpi_access acpi_event acpi_reset acpi_settle takes acpi_read register_value acpi_write acpi_control setup_index_write
    ticked wake pending sci_on smi_on
    bytes_of record_at records_of script_refusal record_fault script_body words_of
    script_run after_write after_read after_test shares_one entry_logged value_read image_run next_step execute word_fault bad_word
cases_hold = refl

pub owner_cases_hold : all_hold owner_cases ≡ true
unfolding wrong_width owner_of_the_moment trace_case run_owners
    device_access dispatch read_value owner key_claims monitor_claims apply_event event_effect event_block reset_device
    config_access index_read data_read register_read index_write data_write register_write control_write key_access key_read key_write
    monitor_access acpi_access acpi_event acpi_reset acpi_settle takes acpi_read register_value ticked wake pending sci_on smi_on
    bytes_of record_at records_of script_refusal record_fault script_body words_of
    script_run after_write after_read after_test shares_one entry_logged value_read image_run next_step execute word_fault bad_word
owner_cases_hold = refl
