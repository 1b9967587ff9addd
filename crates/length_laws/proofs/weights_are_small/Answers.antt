-- By the operations of each stream, and by what each operation may weigh.
use Rattle.length_laws.proofs.Small.{length_fits, operations_are_few, weight_fits}
use Rattle.weight_laws.proofs.Lengths.{weight_and_length}
use Rattle.length_laws.proofs.weights_are_small.Goals as goal

pub returns-clause-paid : goal.returns-clause-paid
returns-clause-paid c = weight_and_length

pub returns-clause-operations : goal.returns-clause-operations
returns-clause-operations c = operations_are_few

pub returns-clause-weight : goal.returns-clause-weight
returns-clause-weight c = weight_fits

pub returns-clause-length : goal.returns-clause-length
returns-clause-length c = length_fits
