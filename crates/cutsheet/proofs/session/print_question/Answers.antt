-- `print_question` puts the question mark, and writes it.
use Rattle.cutsheet.proofs.Running.{asked}
use Rattle.cutsheet.proofs.session.print_question.Goals as goal

pub returns : goal.returns
returns g c = asked c.args.output.now c.put_text.new.self c.flush.new.self c.requires c.put_text.ensures c.flush.ensures
