-- By the places of each tag.
use Rattle.request_laws.proofs.Takeable.{acks_may_be_taken, completions_may_be_taken, data_may_be_taken, owning_grants_may_be_taken}
use Rattle.request_laws.proofs.completions_may_be_taken.Goals as goal

pub returns-clause-completions : goal.returns-clause-completions
returns-clause-completions c = completions_may_be_taken

pub returns-clause-grants : goal.returns-clause-grants
returns-clause-grants c = owning_grants_may_be_taken

pub returns-clause-bytes : goal.returns-clause-bytes
returns-clause-bytes c = data_may_be_taken

pub returns-clause-acks : goal.returns-clause-acks
returns-clause-acks c = acks_may_be_taken
