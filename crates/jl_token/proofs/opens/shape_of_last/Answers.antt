use Rattle.jl_token.proofs.OpenStores.{last_array, last_few, last_many}
use Rattle.jl_token.proofs.opens.shape_of_last.Goals as goal

pub returns-in-Array : goal.returns-in-Array
returns-in-Array c = λ names. last_array c.args.list.now c.in_ok-last.field-0-1.now c.in_ok-last.last.now names c.in_ok-last.ensures.cases.0 c.in-Array.is

pub returns-in-Few : goal.returns-in-Few
returns-in-Few c = λ names. last_few c.args.list.now c.in_ok-last.field-0-1.now c.in_ok-last.last.now c.in-Few.count c.in-Few.len names c.in_ok-last.ensures.cases.0 c.in-Few.is

pub returns-in-Many : goal.returns-in-Many
returns-in-Many c = λ names. last_many c.args.list.now c.in_ok-last.field-0-1.now c.in_ok-last.last.now c.in-Many.field-0 names c.in_ok-last.ensures.cases.0 c.in-Many.is
