-- `put_u32` meets its contract. Assumes nothing.
use Rattle.heads.proofs.HostLaws.{put_four}
use Rattle.heads.proofs.host.put_u32.Goals as goal

pub returns : goal.returns
returns c = put_four c.args.out.now _ c.args.i c.args.x c.to_le_bytes-bytes.ensures c.requires
