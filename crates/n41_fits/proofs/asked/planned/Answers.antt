use Rattle.n41_fits.proofs.asked.planned.Goals as goal

pub returns-in-CreateFile : goal.returns-in-CreateFile
returns-in-CreateFile c = rw c.in-CreateFile.is (cc)

pub returns-in-Rename : goal.returns-in-Rename
returns-in-Rename c = rw c.in-Rename.is (cc)
