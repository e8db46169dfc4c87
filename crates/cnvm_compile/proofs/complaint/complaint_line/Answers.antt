use Rattle.cnvm_compile.proofs.complaint.complaint_line.Goals as goal

pub returns-in-NoRoot : goal.returns-in-NoRoot
returns-in-NoRoot c = rw c.in-NoRoot.is c.line_of-in-NoRoot.ensures
