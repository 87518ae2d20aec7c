-- The fields fit their widths. Assumes nothing.
use Rattle.heads.proofs.MpegLaws.{fields_fit}
use Rattle.heads.proofs.mpeg.MpegFieldsHeadFields.of.Goals as goal

pub returns-clause-widths : goal.returns-clause-widths
returns-clause-widths c = fields_fit _ _ c.mpeg_fields.ensures
