-- Too few bytes, or the verdict on the fields. Assumes nothing.
use mathlib.Core.Path.{ap, sym, ◌∙◌}
use Rattle.heads.specs.Judge.{is_read}
use Rattle.heads.proofs.Grounds.{by_short, by_enough, verdict_reads}
use Rattle.heads.proofs.by_fields.reads.Goals as goal

pub returns-then-b-SIZE : goal.returns-then-b-SIZE
returns-then-b-SIZE g c =
    let f = g.F.HeadFields in
    ap is_read (by_short f.SIZE f.fields_of f.judged c.args.b.now (rw c.SIZE.ensures at c.if-b-SIZE.true))

pub returns : goal.returns
returns g c =
    let f = g.F.HeadFields in
    c.is_ok.ensures.value ∙ verdict_reads _ _ c.verdict.ensures ∙ ap (λ x. is_read (f.judged x)) c.of.ensures.fields
    ∙ ap is_read (sym (by_enough f.SIZE f.fields_of f.judged c.args.b.now (rw c.SIZE.ensures at c.if-b-SIZE.false)))
