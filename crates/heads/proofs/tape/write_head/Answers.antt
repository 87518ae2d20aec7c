-- The reader's refusal, handed on. Assumes nothing.
use mathlib.Core.Path.{ap, ◌∙◌}
use Rattle.heads.proofs.Grounds.{handed_on}
use Rattle.heads.proofs.WriteLaws.{reader_refused}
use Rattle.heads.specs.Write.{outcome}
use Rattle.heads.specs.declared.write.WriteRefusal.TheVariants.{Reader}
use Rattle.heads.proofs.tape.write_head.Goals as goal

pub returns-in_err-judge : goal.returns-in_err-judge
returns-in_err-judge c =
    let at = c.args in
    ap (λ r. outcome r at.tape.now)
    (handed_on c.from_residual.result (Reader c.in_err-judge.field-0.0) c.from_residual.ensures.1)
    ∙ reader_refused at.syntax at.size at.tape.now at.at at.head c.in-Some.number c.in-Some.is c.if-tape-at.false
    c.if-tape-at-2.false c.judge.result c.judge.ensures _ c.in_err-judge.was
