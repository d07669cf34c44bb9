use Rattle.pl_print.proofs.fault.put_fault.Goals as goal

pub returns-in-Words-clause-front : goal.returns-in-Words-clause-front
returns-in-Words-clause-front g c = rw c.in-Words.is c.put_pieces.ensures.front

pub returns-in-NotAStep-clause-all : goal.returns-in-NotAStep-clause-all
returns-in-NotAStep-clause-all g c = rw c.in-NotAStep.is c.put_pieces-in-NotAStep.ensures.all

pub returns-in-NotAStep-clause-front : goal.returns-in-NotAStep-clause-front
returns-in-NotAStep-clause-front g c = rw c.in-NotAStep.is c.put_pieces-in-NotAStep.ensures.front

pub returns-in-TooLong-clause-all : goal.returns-in-TooLong-clause-all
returns-in-TooLong-clause-all g c = rw (c.in-TooLong.is, ← c.role_bytes.ensures)
    c.put_pieces-in-TooLong.ensures.all

pub returns-in-TooLong-clause-front : goal.returns-in-TooLong-clause-front
returns-in-TooLong-clause-front g c = rw (c.in-TooLong.is, ← c.role_bytes.ensures)
    c.put_pieces-in-TooLong.ensures.front

pub returns-in-Read-clause-all : goal.returns-in-Read-clause-all
returns-in-Read-clause-all g c = rw (c.in-Read.is, ← c.role_bytes-in-Read.ensures)
    c.put_pieces-in-Read.ensures.all

pub returns-in-Read-clause-front : goal.returns-in-Read-clause-front
returns-in-Read-clause-front g c = rw (c.in-Read.is, ← c.role_bytes-in-Read.ensures)
    c.put_pieces-in-Read.ensures.front

pub returns-in-Write-clause-all : goal.returns-in-Write-clause-all
returns-in-Write-clause-all g c = rw c.in-Write.is c.put_pieces-in-Write.ensures.all

pub returns-in-Write-clause-front : goal.returns-in-Write-clause-front
returns-in-Write-clause-front g c = rw c.in-Write.is c.put_pieces-in-Write.ensures.front

pub returns-in-Memory-clause-all : goal.returns-in-Memory-clause-all
returns-in-Memory-clause-all g c = rw c.in-Memory.is c.put_pieces-in-Memory.ensures.all

pub returns-in-Memory-clause-front : goal.returns-in-Memory-clause-front
returns-in-Memory-clause-front g c = rw c.in-Memory.is c.put_pieces-in-Memory.ensures.front
