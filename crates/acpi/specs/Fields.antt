-- The ACPI block with one field changed, and with more bits of PM1a_STS set.
use Rattle.std.specs.Prelude.{ℕ, Bool, List, bit_or}
use Rattle.acpi.specs.declared.Acpi.{Acpi}

abbrev pub with_pcnt : Acpi → ℕ → Acpi
with_pcnt a v = record {
  pcnt = v;
  cpu = a.cpu;
  scien = a.scien;
  pm1sts = a.pm1sts;
  pm1en = a.pm1en;
  pm1cnt = a.pm1cnt;
  sleeping = a.sleeping;
  setupidx = a.setupidx;
  gpe0sts = a.gpe0sts;
  gpe0en = a.gpe0en;
  maps = a.maps;
  irq = a.irq;
  timer = a.timer;
  levels = a.levels;
}

abbrev pub with_cpu : Acpi → ℕ → Acpi
with_cpu a v = record {
  pcnt = a.pcnt;
  cpu = v;
  scien = a.scien;
  pm1sts = a.pm1sts;
  pm1en = a.pm1en;
  pm1cnt = a.pm1cnt;
  sleeping = a.sleeping;
  setupidx = a.setupidx;
  gpe0sts = a.gpe0sts;
  gpe0en = a.gpe0en;
  maps = a.maps;
  irq = a.irq;
  timer = a.timer;
  levels = a.levels;
}

abbrev pub with_scien : Acpi → Bool → Acpi
with_scien a b = record {
  pcnt = a.pcnt;
  cpu = a.cpu;
  scien = b;
  pm1sts = a.pm1sts;
  pm1en = a.pm1en;
  pm1cnt = a.pm1cnt;
  sleeping = a.sleeping;
  setupidx = a.setupidx;
  gpe0sts = a.gpe0sts;
  gpe0en = a.gpe0en;
  maps = a.maps;
  irq = a.irq;
  timer = a.timer;
  levels = a.levels;
}

abbrev pub with_pm1sts : Acpi → ℕ → Acpi
with_pm1sts a v = record {
  pcnt = a.pcnt;
  cpu = a.cpu;
  scien = a.scien;
  pm1sts = v;
  pm1en = a.pm1en;
  pm1cnt = a.pm1cnt;
  sleeping = a.sleeping;
  setupidx = a.setupidx;
  gpe0sts = a.gpe0sts;
  gpe0en = a.gpe0en;
  maps = a.maps;
  irq = a.irq;
  timer = a.timer;
  levels = a.levels;
}

abbrev pub with_pm1en : Acpi → ℕ → Acpi
with_pm1en a v = record {
  pcnt = a.pcnt;
  cpu = a.cpu;
  scien = a.scien;
  pm1sts = a.pm1sts;
  pm1en = v;
  pm1cnt = a.pm1cnt;
  sleeping = a.sleeping;
  setupidx = a.setupidx;
  gpe0sts = a.gpe0sts;
  gpe0en = a.gpe0en;
  maps = a.maps;
  irq = a.irq;
  timer = a.timer;
  levels = a.levels;
}

abbrev pub with_pm1cnt : Acpi → ℕ → Acpi
with_pm1cnt a v = record {
  pcnt = a.pcnt;
  cpu = a.cpu;
  scien = a.scien;
  pm1sts = a.pm1sts;
  pm1en = a.pm1en;
  pm1cnt = v;
  sleeping = a.sleeping;
  setupidx = a.setupidx;
  gpe0sts = a.gpe0sts;
  gpe0en = a.gpe0en;
  maps = a.maps;
  irq = a.irq;
  timer = a.timer;
  levels = a.levels;
}

abbrev pub with_sleeping : Acpi → Bool → Acpi
with_sleeping a b = record {
  pcnt = a.pcnt;
  cpu = a.cpu;
  scien = a.scien;
  pm1sts = a.pm1sts;
  pm1en = a.pm1en;
  pm1cnt = a.pm1cnt;
  sleeping = b;
  setupidx = a.setupidx;
  gpe0sts = a.gpe0sts;
  gpe0en = a.gpe0en;
  maps = a.maps;
  irq = a.irq;
  timer = a.timer;
  levels = a.levels;
}

abbrev pub with_setupidx : Acpi → ℕ → Acpi
with_setupidx a v = record {
  pcnt = a.pcnt;
  cpu = a.cpu;
  scien = a.scien;
  pm1sts = a.pm1sts;
  pm1en = a.pm1en;
  pm1cnt = a.pm1cnt;
  sleeping = a.sleeping;
  setupidx = v;
  gpe0sts = a.gpe0sts;
  gpe0en = a.gpe0en;
  maps = a.maps;
  irq = a.irq;
  timer = a.timer;
  levels = a.levels;
}

abbrev pub with_gpe0sts : Acpi → ℕ → Acpi
with_gpe0sts a v = record {
  pcnt = a.pcnt;
  cpu = a.cpu;
  scien = a.scien;
  pm1sts = a.pm1sts;
  pm1en = a.pm1en;
  pm1cnt = a.pm1cnt;
  sleeping = a.sleeping;
  setupidx = a.setupidx;
  gpe0sts = v;
  gpe0en = a.gpe0en;
  maps = a.maps;
  irq = a.irq;
  timer = a.timer;
  levels = a.levels;
}

abbrev pub with_gpe0en : Acpi → ℕ → Acpi
with_gpe0en a v = record {
  pcnt = a.pcnt;
  cpu = a.cpu;
  scien = a.scien;
  pm1sts = a.pm1sts;
  pm1en = a.pm1en;
  pm1cnt = a.pm1cnt;
  sleeping = a.sleeping;
  setupidx = a.setupidx;
  gpe0sts = a.gpe0sts;
  gpe0en = v;
  maps = a.maps;
  irq = a.irq;
  timer = a.timer;
  levels = a.levels;
}

abbrev pub with_maps : Acpi → List ℕ → Acpi
with_maps a ms = record {
  pcnt = a.pcnt;
  cpu = a.cpu;
  scien = a.scien;
  pm1sts = a.pm1sts;
  pm1en = a.pm1en;
  pm1cnt = a.pm1cnt;
  sleeping = a.sleeping;
  setupidx = a.setupidx;
  gpe0sts = a.gpe0sts;
  gpe0en = a.gpe0en;
  maps = ms;
  irq = a.irq;
  timer = a.timer;
  levels = a.levels;
}

abbrev pub with_irq : Acpi → ℕ → Acpi
with_irq a v = record {
  pcnt = a.pcnt;
  cpu = a.cpu;
  scien = a.scien;
  pm1sts = a.pm1sts;
  pm1en = a.pm1en;
  pm1cnt = a.pm1cnt;
  sleeping = a.sleeping;
  setupidx = a.setupidx;
  gpe0sts = a.gpe0sts;
  gpe0en = a.gpe0en;
  maps = a.maps;
  irq = v;
  timer = a.timer;
  levels = a.levels;
}

abbrev pub with_timer : Acpi → ℕ → Acpi
with_timer a v = record {
  pcnt = a.pcnt;
  cpu = a.cpu;
  scien = a.scien;
  pm1sts = a.pm1sts;
  pm1en = a.pm1en;
  pm1cnt = a.pm1cnt;
  sleeping = a.sleeping;
  setupidx = a.setupidx;
  gpe0sts = a.gpe0sts;
  gpe0en = a.gpe0en;
  maps = a.maps;
  irq = a.irq;
  timer = v;
  levels = a.levels;
}

abbrev pub with_levels : Acpi → List Bool → Acpi
with_levels a ls = record {
  pcnt = a.pcnt;
  cpu = a.cpu;
  scien = a.scien;
  pm1sts = a.pm1sts;
  pm1en = a.pm1en;
  pm1cnt = a.pm1cnt;
  sleeping = a.sleeping;
  setupidx = a.setupidx;
  gpe0sts = a.gpe0sts;
  gpe0en = a.gpe0en;
  maps = a.maps;
  irq = a.irq;
  timer = a.timer;
  levels = ls;
}

-- sets bits of PM1a_STS
abbrev pub raise : Acpi → ℕ → Acpi
raise a bits = with_pm1sts a (bit_or a.pm1sts bits)
