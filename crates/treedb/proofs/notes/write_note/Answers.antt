use Rattle.treedb.specs.Note.{usage}
use Rattle.treedb.proofs.notes.write_note.Goals as goal

pub returns-in-Usage-clause-front : goal.returns-in-Usage-clause-front
unfolding usage
returns-in-Usage-clause-front g c = rw c.in-Usage.is (rw c.as_bytes.ensures.value at c.put_note.ensures.front)

pub returns-in-Usage-clause-exact : goal.returns-in-Usage-clause-exact
unfolding usage
returns-in-Usage-clause-exact g c = λ calm. rw c.in-Usage.is (rw c.as_bytes.ensures.value at (c.put_note.ensures.exact calm))

pub returns-in-TooMuch-clause-exact : goal.returns-in-TooMuch-clause-exact
returns-in-TooMuch-clause-exact g c = λ calm. rw c.in-TooMuch.is (c.put_note-in-TooMuch.ensures.exact calm)

pub returns-in-ReadFault-clause-exact : goal.returns-in-ReadFault-clause-exact
returns-in-ReadFault-clause-exact g c = λ calm. rw c.in-ReadFault.is (c.put_note-in-ReadFault.ensures.exact calm)

pub returns-in-WriteFault-clause-exact : goal.returns-in-WriteFault-clause-exact
returns-in-WriteFault-clause-exact g c = λ calm. rw c.in-WriteFault.is (c.put_note-in-WriteFault.ensures.exact calm)

pub returns-in-NoMemory-clause-exact : goal.returns-in-NoMemory-clause-exact
returns-in-NoMemory-clause-exact g c = λ calm. rw c.in-NoMemory.is (c.put_note-in-NoMemory.ensures.exact calm)

pub returns-in-WrongReport-clause-exact : goal.returns-in-WrongReport-clause-exact
returns-in-WrongReport-clause-exact g c = λ calm. rw c.in-WrongReport.is
    (rw c.report_text.ensures at (rw c.as_slice-in-WrongReport.ensures at (c.put_note-in-WrongReport.ensures.exact calm)))
