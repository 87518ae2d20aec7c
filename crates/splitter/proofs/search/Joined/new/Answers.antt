-- Elements of slices are bytes.
use Rattle.heads.proofs.Bytes.{known, bytes_join}
use Rattle.splitter.proofs.search.Joined.new.Goals as goal

pub returns-clause-bytes : goal.returns-clause-bytes
returns-clause-bytes c =
    bytes_join c.args.pending.now c.args.payload.now (known c.args.pending.now c.type_inv.pending)
    (known c.args.payload.now c.type_inv.payload)
