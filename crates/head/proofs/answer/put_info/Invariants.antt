-- The kind and the values passed are put, each value behind a space.
use Rattle.std.proofs.Common.{take, ◌++◌}
use Rattle.heads.specs.Numbers.{kind_number}
use Rattle.numbers.specs.Decimal.{decimal}
use Rattle.text.specs.Output.{Put}
use Rattle.head.specs.Answer.{further}
use Rattle.head.proofs.answer.put_info.Given as goal

abbrev pub invariant-loop-value : goal.invariant-loop-value
invariant-loop-value g l =
    Put g.W.Sink.writes (decimal (kind_number l.fn.info.kind) ++ further (take l.value-index l.value-items)) l.fn.out
    l.out
