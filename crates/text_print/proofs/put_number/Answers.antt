use Rattle.text.specs.Printed.{number_field}
use Rattle.text.proofs.PrintLaws.{number_put}
use Rattle.text_print.proofs.put_number.Goals as goal

pub returns : goal.returns
unfolding number_field
returns c = number_put c.args.out.now c.show.new.field c.args.at 6 c.args.n 32 c.requires (rw c.from.ensures at c.show.ensures)
