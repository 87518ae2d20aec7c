-- THE BUFFERS that a program owns and lends to each step.
use Rattle.std.specs.Prelude.{List, ℕ, pos, replicate}
use Rattle.sheet.specs.Sheet.{pend_size, out_size, rows_size}
use Rattle.sheet.specs.Step.{Lent, lent}
use Rattle.sheet.specs.declared.buffers.Buffers.{Buffers}

-- zeros, as many as serve for any payload
abbrev pub no_buffers : Buffers
no_buffers = record { pending = replicate pend_size 0; out = replicate out_size 0; rows = replicate rows_size (pos 0) }

-- with a text they are what a step is lent
abbrev pub lent_by : Buffers → List ℕ → Lent
lent_by b text = lent b.pending b.out b.rows text
