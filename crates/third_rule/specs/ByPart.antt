-- A third rule: a mode for each part, and a clash that does not go both ways. Assumes nothing.
use Rattle.std.specs.Prelude.{◌&&◌, ◌==◌, nat_le, nat_lt}
use Rattle.rules.specs.Meaning.{Meaning}

-- mode k reads and writes part k alone; a held mode clashes with itself and with every mode above it
abbrev pub by_part : Meaning
by_part = record {
  modes = 4;
  reads = λ mode part. nat_lt mode 4 && (part == mode);
  writes = λ mode part. nat_lt mode 4 && (part == mode);
  clashes = λ held wanted. nat_lt wanted 4 && nat_le held wanted;
}
