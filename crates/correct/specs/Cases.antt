-- The cases P1 to P11 of the rules, as tests over the definitions: P1 to P9 on the fresh device with some registers changed,
-- P10 and P11 on a script. "One statement over one list holds P1 to P11": `cases_hold` in proofs/Cases.antt. A second list, at the end of
-- the file, has cases about owners.
-- See docs/CHIP.md for the registers and the words.
use Rattle.std.specs.Prelude.{ℕ, ◌+◌, ◌*◌, ◌^◌, Bool, true, false, not, ◌&&◌, List, [], ◌∷◌, ◌++◌, eqb, get_or}
use Rattle.acpi.specs.Acpi.{fresh_acpi}
use Rattle.acpi.specs.Fields.{with_pm1en, with_pm1sts, with_scien, with_setupidx, with_timer}
use Rattle.acpi.specs.Settle.{pending, sci_on}
use Rattle.acpi.specs.declared.Acpi.{Acpi}
use Rattle.compiler.specs.Words.{image_bytes, word, words_of}
use Rattle.config.specs.Config.{fresh_config}
use Rattle.config.specs.Fields.{
  with_activate,
  with_control,
  with_index,
  with_key_base,
  with_number,
  with_runtime_base,
  with_unlocked,
}
use Rattle.config.specs.declared.Config.{Config}
use Rattle.mask.specs.Mask.{has_bit}
use Rattle.monitor.specs.Monitor.{fresh_monitor, lock_set, register, with_register}
use Rattle.monitor.specs.declared.Monitor.{Monitor}
use Rattle.device.specs.Device.{fresh_device, with_acpi, with_config, with_monitor}
use Rattle.device.specs.Event.{apply_event}
use Rattle.device.specs.Dispatch.{AccessResult, device_access}
use Rattle.device.specs.Owner.{acpi, configuration, key, monitor, nobody}
use Rattle.device.specs.declared.Device.{Device}
use Rattle.log_entry.specs.Entry.{log_entry}
use Rattle.record.specs.Record.{bytes_of}
use Rattle.record.specs.declared.Record.{Record}
use Rattle.script.specs.Refusals.{script_refusal}
use Rattle.semantics.specs.OwnRun.{script_run}
use Rattle.semantics.specs.World.{AccessEntry, World}
use Rattle.sequencer.specs.Run.{image_run}
use Rattle.step.specs.Sequencer.{fresh_sequencer}

-- ---- accesses, events and tests of answers
abbrev reading : Device → ℕ → ℕ → AccessResult
reading d w p = device_access d (record { write = false; width = w; port = p; value = 0 })

abbrev writing : Device → ℕ → ℕ → ℕ → AccessResult
writing d w p v = device_access d (record { write = true; width = w; port = p; value = v })

-- the access has this status and this value
abbrev answers : AccessResult → ℕ → ℕ → Bool
answers r s v = eqb r.answer.status s && eqb r.answer.value v

abbrev pci_reset : ℕ
pci_reset = 6 * 2 ^ 24 + 0

abbrev tick : Device → Device
tick d = apply_event d (1 * 2 ^ 24 + 1)

-- the fresh device with one block replaced
abbrev configured : Config → Device
configured g = with_config fresh_device g

abbrev powered : Acpi → Device
powered a = with_acpi fresh_device a

-- ---- "P1 fresh: 2Fh reads FFh, status 1."
unfoldable pub p1 : Bool
p1 = answers (reading fresh_device 1 0x002F) 1 0xFF

-- ---- "P2 key control 07h: write 00h is status 2; after PCI reset it is 04h."
abbrev locked : Device
locked = configured (with_control (with_index (with_number (with_unlocked fresh_config true) 0x0A) 0xF2) 0x07)

unfoldable pub p2 : Bool
p2 =
    answers (reading locked 1 0x002F) 0 0x07
    && (answers (writing locked 1 0x002F 0x00) 2 0
    && (eqb (writing locked 1 0x002F 0x00).device.config.control 0x07
    && eqb (apply_event (writing locked 1 0x002F 0x00).device pci_reset).config.control 0x04))

-- ---- "P3 key base 0020h, active: 0020h is key byte 0, 002Eh configuration." Key control is 00h here, because its reset value
-- sets the write-lock
abbrev keyed : Device
keyed = configured (with_control (with_key_base (with_activate fresh_config 0x01) 0x0020) 0x00)

abbrev key_write : AccessResult
key_write = writing keyed 1 0x0020 0x5A

abbrev index_write : AccessResult
index_write = writing keyed 1 0x002E 0x55

unfoldable pub p3 : Bool
p3 =
    answers key_write 0 0
    && (eqb (get_or key_write.device.key.bytes 0 0) 0x5A
    && (answers (reading key_write.device 1 0x0020) 0 0x5A
    && (eqb key_write.owner key
    && (answers index_write 0 0
    && (index_write.device.config.unlocked
    && (eqb (get_or index_write.device.key.bytes 0x0E 0) 0 && eqb index_write.owner configuration))))))

-- ---- "P4 Lock set: 7Eh write status 2; 83h holding 03h, written 03h, becomes 00h."
abbrev watched : Monitor → Device
watched m = with_monitor (configured (with_runtime_base (with_activate fresh_config 0x01) 0x0400)) m

-- Lock is bit 1 of 40h
abbrev locked_monitor : Device
locked_monitor = watched (with_register (with_register fresh_monitor 0x40 0x02) 0x83 0x03)

-- a write to a monitor register: the index, then the data
abbrev monitor_write : ℕ → ℕ → AccessResult
monitor_write i v = writing (writing locked_monitor 1 0x0470 i).device 1 0x0471 v

unfoldable pub p4 : Bool
p4 =
    lock_set locked_monitor.monitor
    && (answers (monitor_write 0x7E 0x00) 2 0
    && (eqb (register (monitor_write 0x7E 0x00).device.monitor 0x7E) 0xEC
    && (eqb (register locked_monitor.monitor 0x83) 0x03
    && (answers (monitor_write 0x83 0x03) 0 0
    && (eqb (register (monitor_write 0x83 0x03).device.monitor 0x83) 0x00
    && answers (reading (monitor_write 0x83 0x03).device 1 0x0471) 0 0x00)))))

-- ---- "P5 timer FFFFFFh, one tick: 0, TMR_STS set; 7FFFFFh, one tick: not set."
-- A later request: "P5's second half becomes "set"."
unfoldable pub p5 : Bool
p5 =
    eqb (tick (powered (with_timer fresh_acpi 0xFFFFFF))).acpi.timer 0
    && (has_bit 0x0001 (tick (powered (with_timer fresh_acpi 0xFFFFFF))).acpi.pm1sts
    && (eqb (tick (powered (with_timer fresh_acpi 0x7FFFFF))).acpi.timer 0x800000
    && has_bit 0x0001 (tick (powered (with_timer fresh_acpi 0x7FFFFF))).acpi.pm1sts))

-- ---- "P6 PM1a_STS 0101h, written 0100h: 0001h."
abbrev status_write : AccessResult
status_write = writing (powered (with_pm1sts fresh_acpi 0x0101)) 2 0xAC08 0x0100

unfoldable pub p6 : Bool
p6 = answers status_write 0 0 && eqb status_write.device.acpi.pm1sts 0x0001

-- ---- "P7 SETUP_IDX written 42h: status 5, index kept."
abbrev setup_write : AccessResult
setup_write = writing (powered (with_setupidx fresh_acpi 0x41)) 2 0xAC0E 0x42

unfoldable pub p7 : Bool
p7 = answers setup_write 5 0 && eqb setup_write.device.acpi.setupidx 0x41

-- ---- "P8 P_LVL2 read with SCI on: CPU state 0."
-- TMR_STS is set and enabled, so it is pending
abbrev alarmed : Acpi
alarmed = with_pm1en (with_pm1sts fresh_acpi 0x0001) 0x0001

abbrev sci_device : Device
sci_device = powered (with_scien alarmed true)

unfoldable pub p8 : Bool
p8 =
    sci_on sci_device.acpi
    && (answers (reading sci_device 1 0xAC04) 0 0 && eqb (reading sci_device 1 0xAC04).device.acpi.cpu 0)

-- ---- "P9 sleep written with pending: awake, WAKE_STS set."
abbrev sleep_write : AccessResult
sleep_write = writing (powered alarmed) 2 0xAC0C 0x2000

unfoldable pub p9 : Bool
p9 =
    pending alarmed
    && (answers sleep_write 0 0
    && (not sleep_write.device.acpi.sleeping && has_bit 0x8000 sleep_write.device.acpi.pm1sts))

-- ---- scripts: their bytes, their words, and their runs on the fresh device without events
abbrev script_record : (kind width port value : ℕ) → Record
script_record k w p v = record { mark = 0xA55A; kind = k; width = w; port = p; target = 0; value = v }

abbrev script_of : List Record → List ℕ
script_of [] = []
script_of (r ∷ rs) = bytes_of r ++ script_of rs

abbrev same_word : Record → Record → Bool
same_word a b =
    eqb a.mark b.mark
    && (eqb a.kind b.kind
    && (eqb a.width b.width
    && (eqb a.port b.port && (eqb a.target b.target && eqb a.value b.value))))

abbrev same_words : List Record → List Record → Bool
same_words [] [] = true
same_words [] (b ∷ bs) = false
same_words (a ∷ ws) [] = false
same_words (a ∷ ws) (b ∷ bs) = same_word a b && same_words ws bs

-- the image halts after n steps, and the script's own run has n steps
abbrev steps_of : List ℕ → ℕ → Bool
steps_of script n =
    eqb (image_run (image_bytes (words_of script)) fresh_device fresh_sequencer [] 100 10).outcome 0
    && (eqb (image_run (image_bytes (words_of script)) fresh_device fresh_sequencer [] 100 10).steps n
    && eqb (script_run script fresh_device []).steps n)

-- ---- "P10 repeat 2, write, end: enter 2 to 3, write, loop end to 1, halt; 6 steps."
abbrev repeat_script : List ℕ
repeat_script = script_of (script_record 4 0 0 2 ∷ script_record 1 1 0x002E 0x55 ∷ script_record 7 0 0 0 ∷ [])

unfoldable pub p10 : Bool
p10 =
    eqb (script_refusal repeat_script).number 0
    && (same_words (words_of repeat_script) (word 4 0 0 3 2 ∷ word 1 1 0x002E 0 0x55 ∷ word 5 0 0 1 0 ∷ word 8 0 0 0 0 ∷ [])
    && steps_of repeat_script 6)

-- ---- "P11 if, read, else, read, end: test to 3, read, jump to 4, read, halt; 4 steps or 3." On the fresh device a read of 2Fh
-- returns FFh, so mask 01h selects the first read and mask 00h the second
abbrev if_script : ℕ → List ℕ
if_script mask =
    script_of
    (script_record 5 1 0x002F mask
    ∷ script_record 2 1 0x002E 0 ∷ script_record 6 0 0 0 ∷ script_record 2 1 0x002F 0 ∷ script_record 7 0 0 0 ∷ [])

abbrev if_words : ℕ → List Record
if_words mask =
    word 6 1 0x002F 3 mask
    ∷ word 2 1 0x002E 0 0 ∷ word 7 0 0 4 0 ∷ word 2 1 0x002F 0 0 ∷ word 8 0 0 0 0 ∷ []

unfoldable pub p11 : Bool
p11 =
    eqb (script_refusal (if_script 0x01)).number 0
    && (eqb (script_refusal (if_script 0x00)).number 0
    && (same_words (words_of (if_script 0x01)) (if_words 0x01)
    && (same_words (words_of (if_script 0x00)) (if_words 0x00) && (steps_of (if_script 0x01) 4 && steps_of (if_script 0x00) 3))))

abbrev pub cases : List Bool
cases = p1 ∷ p2 ∷ p3 ∷ p4 ∷ p5 ∷ p6 ∷ p7 ∷ p8 ∷ p9 ∷ p10 ∷ p11 ∷ []

-- ---- a later request: "Let each access also return the block that owns the port: 0 none, 1 configuration, 2 ACPI, 3 monitor, 4 key."
-- the access names this owner and has this status
abbrev named_at : AccessResult → (owner status : ℕ) → Bool
named_at r o s = eqb r.owner o && eqb r.answer.status s

-- "The owner is named at status 1 too": a width that the owner does not take, and a port that no block claims
unfoldable pub wrong_width : Bool
wrong_width =
    named_at (reading keyed 2 0x002E) configuration 1
    && (named_at (reading keyed 1 0xAC08) acpi 1
    && (named_at (reading locked_monitor 4 0x0470) monitor 1
    && (named_at (reading keyed 4 0x0020) key 1 && named_at (reading keyed 1 0x0040) nobody 1)))

-- the owner of the moment, on a device with the key at 0020h and the index at 30h (activate): the key has its ports until a write to the
-- configuration deactivates it, or a PCI reset does
abbrev key_active : Device
key_active = configured (with_activate (with_key_base (with_index (with_number (with_unlocked fresh_config true) 0x0A) 0x30) 0x0020) 0x01)

abbrev deactivate_write : AccessResult
deactivate_write = writing key_active 1 0x002F 0x00

unfoldable pub owner_of_the_moment : Bool
owner_of_the_moment =
    named_at (reading key_active 1 0x0020) key 0
    && (named_at deactivate_write configuration 0
    && (named_at (reading deactivate_write.device 1 0x0020) nobody 1
    && named_at (reading (apply_event key_active pci_reset) 1 0x0020) nobody 1))

-- the script of the tracing program logs 04h and FFh: "the two lines of its case end in 1". `trace` has the text
abbrev unlock_script : List ℕ
unlock_script =
    script_of
    (script_record 1 1 0x002E 0x55
    ∷ script_record 1 1 0x002E 0x07
    ∷ script_record 1 1 0x002F 0x0A
    ∷ script_record 1 1 0x002E 0xF2
    ∷ script_record 2 1 0x002F 0 ∷ script_record 1 1 0x002E 0xAA ∷ script_record 2 1 0x002F 0 ∷ [])

abbrev same_numbers : List ℕ → List ℕ → Bool
same_numbers [] [] = true
same_numbers [] (b ∷ bs) = false
same_numbers (a ∷ es) [] = false
same_numbers (a ∷ es) (b ∷ bs) = eqb a b && same_numbers es bs

unfoldable pub trace_case : Bool
trace_case =
    steps_of unlock_script 8
    && same_numbers (script_run unlock_script fresh_device []).world.logged
    (log_entry configuration 0x04 ∷ log_entry configuration 0xFF ∷ [])

-- a script on the same device, with a PCI reset before its write: a read, a test, a read, a write and a read. Both runs list the owner
-- of each, and log those of the three reads
abbrev owner_script : List ℕ
owner_script =
    script_of
    (script_record 2 1 0x0020 0
    ∷ script_record 5 1 0x002E 0xFF
    ∷ script_record 2 2 0xAC08 0 ∷ script_record 7 0 0 0 ∷ script_record 1 1 0x0020 0x5A ∷ script_record 2 1 0x0020 0 ∷ [])

abbrev no_ticks : ℕ
no_ticks = 1 * 2 ^ 24

abbrev reset_later : List ℕ
reset_later = no_ticks ∷ no_ticks ∷ no_ticks ∷ pci_reset ∷ []

abbrev owners_of : List AccessEntry → List ℕ
owners_of [] = []
owners_of (m ∷ ms) = m.owner ∷ owners_of ms

abbrev owners_in : World → Bool
owners_in w =
    same_numbers (owners_of w.accesses) (key ∷ configuration ∷ acpi ∷ nobody ∷ nobody ∷ [])
    && same_numbers w.logged (log_entry key 0x00 ∷ log_entry acpi 0 ∷ log_entry nobody 0xFF ∷ [])

unfoldable pub run_owners : Bool
run_owners =
    owners_in (script_run owner_script key_active reset_later).world
    && owners_in (image_run (image_bytes (words_of owner_script)) key_active fresh_sequencer reset_later 100 10).machine.world

abbrev pub owner_cases : List Bool
owner_cases = wrong_width ∷ owner_of_the_moment ∷ trace_case ∷ run_owners ∷ []
