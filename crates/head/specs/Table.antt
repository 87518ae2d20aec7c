-- How many fields a head of each syntax table has.
use Rattle.std.specs.Prelude.{ℕ}
use Rattle.head.specs.declared.writing.Table.{Table}
use Rattle.head.specs.declared.writing.Table.TheVariants.{Ac3, Eac3, Mpeg, Adts}

abbrev pub field_count : Table → ℕ
field_count Ac3 = 11
field_count Eac3 = 10
field_count Mpeg = 13
field_count Adts = 15
