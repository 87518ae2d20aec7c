-- Both texts have room in the block.
use Rattle.chart.proofs.Room.{list_held, table_held}
use Rattle.chart.proofs.page.put_page.Goals as goal

pub returns-in-List-clause-held : goal.returns-in-List-clause-held
returns-in-List-clause-held g c = λ new long. list_held c.args.form long new c.in-List.is c.put_list.ensures

pub returns-in-Table-clause-held : goal.returns-in-Table-clause-held
returns-in-Table-clause-held g c = λ new long. table_held c.args.form long new c.in-Table.is c.put_table.ensures
