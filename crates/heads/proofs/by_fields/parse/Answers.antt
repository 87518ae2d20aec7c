-- Too few bytes, or the judgement of the fields. Assumes nothing.
use mathlib.Core.Path.{ap, sym, ◌∙◌}
use Rattle.heads.proofs.Grounds.{by_short, by_enough}
use Rattle.heads.proofs.by_fields.parse.Goals as goal

pub returns-then-b-SIZE : goal.returns-then-b-SIZE
returns-then-b-SIZE g c =
    let f = g.F.HeadFields in
    by_short f.SIZE f.fields_of f.judged c.args.b.now (rw c.SIZE.ensures at c.if-b-SIZE.true)

pub returns : goal.returns
returns g c =
    let f = g.F.HeadFields in
    c.judge.ensures ∙ ap f.judged c.of.ensures.fields
    ∙ sym (by_enough f.SIZE f.fields_of f.judged c.args.b.now (rw c.SIZE.ensures at c.if-b-SIZE.false))
