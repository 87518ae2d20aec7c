-- The fields fit their widths. Assumes nothing.
use Rattle.heads.proofs.AdtsLaws.{fields_fit}
use Rattle.heads.proofs.adts.AdtsFieldsHeadFields.of.Goals as goal

pub returns-clause-widths : goal.returns-clause-widths
returns-clause-widths c = fields_fit _ _ c.adts_fields.ensures
