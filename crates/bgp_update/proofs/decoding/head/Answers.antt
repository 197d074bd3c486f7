-- The three parts are the head.
use Rattle.std.proofs.Common.{rules}
use Rattle.bgp_update.specs.Heads.{read_parts}
use Rattle.bgp_update.proofs.HeadParts.{head_parts}
use Rattle.bgp_update.proofs.decoding.head.Goals as goal

pub returns-in_err-len-clause-reads : goal.returns-in_err-len-clause-reads
unfolding read_parts
returns-in_err-len-clause-reads c = rw head_parts (search rules)

pub returns-in_err-withdrawn-clause-reads : goal.returns-in_err-withdrawn-clause-reads
unfolding read_parts
returns-in_err-withdrawn-clause-reads c = rw head_parts (search rules)

pub returns-in_err-withdrawn-2-clause-reads : goal.returns-in_err-withdrawn-2-clause-reads
unfolding read_parts
returns-in_err-withdrawn-2-clause-reads c = rw head_parts (search rules)

pub returns-in_err-inner-clause-reads : goal.returns-in_err-inner-clause-reads
unfolding read_parts
returns-in_err-inner-clause-reads c = rw head_parts (search rules)

pub returns-in_err-all-clause-reads : goal.returns-in_err-all-clause-reads
unfolding read_parts
returns-in_err-all-clause-reads c = rw head_parts (search rules)

pub returns-clause-reads : goal.returns-clause-reads
unfolding read_parts
returns-clause-reads c = rw head_parts (search rules)
