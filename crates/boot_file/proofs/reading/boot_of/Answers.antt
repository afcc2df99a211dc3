use Rattle.boot_file.proofs.reading.boot_of.Goals as goal

pub returns-in-Err-Refused-clause-refused : goal.returns-in-Err-Refused-clause-refused
returns-in-Err-Refused-clause-refused g c = rw c.in-Err-Refused.field-0-is (rw c.in-Err-Refused.field-0-is at c.in-Err-Refused.ensures.refused)
